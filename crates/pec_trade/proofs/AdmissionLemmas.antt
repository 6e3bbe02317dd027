-- A message against which nothing speaks has facts of the account, and nothing speaks against it along its own recipients.
use Rattle.std.proofs.Common.{◌≡◌, ◌↔◌, ℕ, ◌*◌, ◌<◌, ◌≤◌, nat_lt, Bool, true, false, List, [], ◌∷◌, length, None, Some, codes, refl, ap, sym, ◌∙◌, subst, arith}
use Rattle.std.specs.List.{join_with_byte}
use Rattle.std.specs.Str.{bytes_eq}
use Rattle.std.proofs.lemmas.Bool.{ltb-false, ltb-true}
use Rattle.std.proofs.lemmas.List.{length-map}
use Rattle.std.proofs.lemmas.Option.{none-some}
use Rattle.std.proofs.lemmas.Slice.Eq.{bytes_eq-Decides}
use Rattle.pec_types.specs.Bytes.{Bytes, Path, comma}
use Rattle.pec_types.specs.declared.messages.Facts.{Facts}
use Rattle.pec_heads.specs.FactsOfHeads.{IsFacts, has_address}
use Rattle.pec_heads.specs.Heads.{NamedValue, joined_values}
use Rattle.pec_heads.specs.Lists.{IsList}
use Rattle.pec_directory.specs.Directory.{Provider}
use Rattle.pec_letters.specs.Fitting.{HasFacts}
use Rattle.pec_points.specs.Admission.{IsAccepted, IsFrom}
use Rattle.pec_points.specs.AdmissionReading.{admission_of}
use Rattle.pec_points.specs.Case.{Case, case_at}
use Rattle.pec_points.specs.declared.admission.Admission.{Admission}
use Rattle.pec_points.specs.declared.admission.Admission.TheVariants.{Accepted, Not}
use Rattle.pec_ledger.specs.Lookups.{addresses_of}
use Rattle.pec_ledger.specs.OfDirectory.{facts_in}
use Rattle.pec_trade.specs.TradeOf.{cause_at, cause_in}
use Rattle.pec_trade.proofs.FactsLemmas.{Heads, facts_again, recipients_in}
use Rattle.pec_trade.proofs.PathLemmas.{both_no, no_more, stable}

-- what the law of admission says
abbrev pub Admits : Type 0
Admits = (case : Case) (facts : Facts) → (admission_of case ≡ Accepted facts) ↔ IsAccepted case facts

accepted_by : (answer : Admission) → cause_in answer ≡ None → (facts : Facts) × (answer ≡ Accepted facts)
accepted_by (Accepted facts) e = (facts, refl)
accepted_by (Not cause) e = absurd (none-some cause (sym e))

within : (limit size : ℕ) (over : Bool) → nat_lt limit size ≡ over → (limit < size → ⊥) → size ≤ limit
within limit size true e n = absurd (n (ltb-true limit size e))
within limit size false e n = ltb-false limit size e

abbrev first_in : Path → Bytes
first_in [] = []
first_in (address ∷ path) = address

module _ (heads : Heads) (admits : Admits) where
  -- what is accepted in a case
  pub record Taken (case : Case) : Type 0 where
    pub facts : Facts
    pub accepted : IsAccepted case facts
    pub has : HasFacts case.message facts

  taken : (case : Case) → cause_in (admission_of case) ≡ None → Taken case
  taken case e =
      let found = accepted_by (admission_of case) e
      in let accepted = (admits case found.0).0 found.1
      in record {
        facts = found.0;
        accepted = accepted;
        has = record {
          fields = accepted.has_facts.head;
          place = accepted.has_facts.place;
          head = accepted.has_facts.head_is;
          facts_are = accepted.has_facts.holds;
        };
      }

  pub taken_at : (providers : List Provider) (provider : ℕ) (sender : Bytes) (path : Path) (message : Bytes)
      → cause_at providers provider sender path message ≡ None → Taken (case_at providers provider sender path message false)
  unfolding cause_at
  taken_at providers provider sender path message e = taken (case_at providers provider sender path message false) e

  -- the sender is the account
  sender_by : (case : Case) (t : Taken case) (same : Bool) → bytes_eq t.facts.sender case.sender ≡ same → t.facts.sender ≡ case.sender
  sender_by case t true e = (bytes_eq-Decides t.facts.sender case.sender).0 e
  sender_by case t false e =
      let is = t.has.facts_are
      in let other : IsFrom t.has.fields case.sender → ⊥ = λ from.
      let joined : joined_values (codes "From") t.has.fields ≡ is.from = ap (join_with_byte comma) is.one_from
      in let one = heads.list is.from (t.facts.sender ∷ []) (case.sender ∷ []) is.one_sender
      (subst (λ (text : Bytes). IsList text (case.sender ∷ [])) joined from.one_address)
      in both_no (bytes_eq t.facts.sender case.sender) ((bytes_eq-Decides t.facts.sender case.sender).1 (ap first_in one)) e
      in absurd (t.accepted.none.1.1.1.0 (record { head = t.has.fields; place = t.has.place; head_is = t.has.head; holds = other }))

  -- the path is the set of the recipients' addresses
  same_set : (case : Case) (t : Taken case) (a : Bytes) → has_address case.path a ≡ has_address (addresses_of t.facts) a
  same_set case t a =
      stable (has_address case.path a) (has_address (addresses_of t.facts) a)
      (λ differs. t.accepted.none.1.1.1.1.0 (record {
        head = t.has.fields;
        place = t.has.place;
        head_is = t.has.head;
        holds = λ is. differs (is.same a ∙ sym ((heads.recipients t.has.fields t.facts is.to is.copies t.has.facts_are is.to_is is.copies_are).each a));
      }))

  pub few : (case : Case) (t : Taken case) → length t.facts.recipients ≤ length case.path
  few case t =
      let all = no_more (addresses_of t.facts) case.path (recipients_in heads case.message t.facts t.has).different (λ a e. same_set case t a ∙ e)
      in omega (arith, length-map t.facts.recipients (λ r. r.address))

  -- the bytes times the recipients are within the limit
  pub sized : (case : Case) (t : Taken case) → length case.message * length t.facts.recipients ≤ case.limit
  sized case t = within case.limit (length case.message * length t.facts.recipients) (nat_lt case.limit (length case.message * length t.facts.recipients)) refl (λ over. t.accepted.none.1.1.1.1.1.1.0 (record {
    head = t.has.fields;
    place = t.has.place;
    head_is = t.has.head;
    holds = record { facts = t.facts; facts_are = t.has.facts_are; over = over };
  }))

  -- along its own recipients the message is accepted too
  again : (case : Case) (t : Taken case) → IsAccepted (record case { path = addresses_of t.facts }) t.facts
  again case t =
      let none = t.accepted.none
      in record {
        none = (
          none.0,
          (
            none.1.0,
            (
              none.1.1.0,
              (
                none.1.1.1.0,
                (
                  λ h.
                      let is = subst (λ (fields : List NamedValue). IsFacts fields t.facts)
                      (heads.one case.message t.has.fields h.head t.has.place h.place t.has.head h.head_is).0 t.has.facts_are
                      in h.holds (record {
                        to = is.to;
                        copies = is.copies;
                        to_is = is.to_is;
                        copies_are = is.copies_are;
                        same = (heads.recipients h.head t.facts is.to is.copies is is.to_is is.copies_are).each;
                      }),
                  (
                    none.1.1.1.1.1.0,
                    (
                      λ h. none.1.1.1.1.1.1.0 (record {
                        head = h.head;
                        place = h.place;
                        head_is = h.head_is;
                        holds = record { facts = h.holds.facts; facts_are = h.holds.facts_are; over = h.holds.over };
                      }),
                      none.1.1.1.1.1.1.1,
                    ),
                  ),
                ),
              ),
            ),
          ),
        );
        has_facts = t.accepted.has_facts;
      }

  -- What the ledger asks of admission.
  pub record IsAdmitted (providers : List Provider) (provider : ℕ) (sender : Bytes) (path : Path) (message : Bytes) : Type 0 where
    pub facts : Facts
    pub are : facts_in message ≡ Some facts
    pub sender_is : facts.sender ≡ sender
    pub own : cause_at providers provider sender (addresses_of facts) message ≡ None
    pub no_more : length facts.recipients ≤ length path

  pub admitted : (providers : List Provider) (provider : ℕ) (sender : Bytes) (path : Path) (message : Bytes)
      → cause_at providers provider sender path message ≡ None → IsAdmitted providers provider sender path message
  unfolding cause_at
  admitted providers provider sender path message e =
      let case = case_at providers provider sender path message false
      in let t = taken case e
      in record {
        facts = t.facts;
        are = facts_again heads message t.facts t.has;
        sender_is = sender_by case t (bytes_eq t.facts.sender sender) refl;
        own = ap cause_in ((admits (case_at providers provider sender (addresses_of t.facts) message false) t.facts).1 (again case t));
        no_more = few case t;
      }
