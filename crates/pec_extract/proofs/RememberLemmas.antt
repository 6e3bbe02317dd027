-- What is remembered when the facts of one message more are.
use Rattle.std.proofs.Common.{◌≡◌, ℕ, ◌==◌, ◌&&◌, Bool, true, false, cond, List, [], ◌∷◌, ◌++◌, find, Option, Some, None, option_map, is_some, Result, Ok, Err, OnOk, OnErr, IfSome, refl, sym, ap, subst, ◌∙◌}
use Rattle.std.specs.Cmp.{first_so, second_so}
use Rattle.std.specs.Option.{option_or}
use Rattle.std.proofs.lemmas.Bool.{eq-eqb, eqb-true}
use Rattle.std.proofs.lemmas.List.Folds.{find-append}
use Rattle.pec_types.specs.Message.{Id}
use Rattle.pec_types.specs.declared.messages.Facts.{Facts}
use Rattle.pec_records.specs.declared.entries.Entry.{Entry}
use Rattle.pec_ledger.specs.Pairs.{same_id}
use Rattle.pec_ledger.specs.Trade.{Trade}
use Rattle.pec_provider.specs.Telling.{facts_taken}
use Rattle.pec_extract.specs.Remembering.{AreTaken, Original, facts_kept}

id_again : (a : Id) → same_id a a ≡ true
id_again a =
    ap (λ (b : Bool). b && (a.number == a.number)) (eq-eqb a.provider a.provider refl) ∙ eq-eqb a.number a.number refl

ids : (a b c d : ℕ) → a ≡ b → c ≡ d
    → (let i : Id = record { provider = a; number = c } in let j : Id = record { provider = b; number = d } in i ≡ j)
ids a b c d e f = rw (e, f) refl

same_ids : (a b : Id) → same_id a b ≡ true → a ≡ b
same_ids a b e =
    ids a.provider b.provider a.number b.number
    (eqb-true a.provider b.provider (first_so (a.provider == b.provider) (a.number == b.number) e))
    (eqb-true a.number b.number (second_so (a.provider == b.provider) (a.number == b.number) e))

abbrev is_of : Id → Original → Bool
is_of id original = same_id id original.id

abbrev facts_in : Option Original → Option Facts
facts_in found = option_map (λ (original : Original). original.facts) found

module _ (originals : List Original) (one : Original) where
  both_found : (id : Id) → facts_kept (originals ++ one ∷ []) id
      ≡ facts_in (option_or (find (is_of id) originals) (cond (is_of id one) (Some one) None))
  both_found id = ap facts_in (find-append (is_of id) originals (one ∷ []))

  known_more : facts_kept originals one.id ≡ None → facts_kept (originals ++ one ∷ []) one.id ≡ Some one.facts
  known_more none = both_found one.id ∙ behind (find (is_of one.id) originals) none
    where
      behind : (found : Option Original) → facts_in found ≡ None
          → facts_in (option_or found (cond (is_of one.id one) (Some one) None)) ≡ Some one.facts
      behind None e = ap (λ (b : Bool). facts_in (cond b (Some one) None)) (id_again one.id)
      behind (Some other) e = absurd (cc e)

  module _ (trade : Trade) (me : ℕ) (journal : List Entry) (is : facts_taken trade me journal one.id ≡ Some one.facts) where
    abbrev Told : Id → Option Facts → Type 0
    Told id found = IfSome found (λ (facts : Facts). facts_taken trade me journal id ≡ Some facts)

    the_one : (id : Id) (b : Bool) → is_of id one ≡ b → Told id (facts_in (cond b (Some one) None))
    the_one id true e = subst (λ (i : Id). facts_taken trade me journal i ≡ Some one.facts) (sym (same_ids id one.id e)) is
    the_one id false e = tt

    either : (id : Id) (found : Option Original) → Told id (facts_in found)
        → Told id (facts_in (option_or found (cond (is_of id one) (Some one) None)))
    either id None so = the_one id (is_of id one) refl
    either id (Some other) so = so

    taken_more : AreTaken trade me journal originals → AreTaken trade me journal (originals ++ one ∷ [])
    taken_more taken id =
        subst (Told id) (sym (both_found id)) (either id (find (is_of id) originals) (taken id))

module _ {X E : Type 0} (r : Result X E) (old new : List Original) (id : Id) (facts : Facts) where
  abbrev one_more : List Original
  one_more = old ++ record { id = id; facts = facts } ∷ []

  pub known_then : facts_kept old id ≡ None → OnOk r (new ≡ one_more) → OnOk r (facts_kept new id ≡ Some facts)
  known_then none = by r
    where
      by : (s : Result X E) → OnOk s (new ≡ one_more) → OnOk s (facts_kept new id ≡ Some facts)
      by (Ok x) is =
          ap (λ (found : List Original). facts_kept found id) is
          ∙ known_more old (record { id = id; facts = facts }) none
      by (Err e) is = tt

  pub taken_then : OnOk r (new ≡ one_more) → OnErr r (new ≡ old) → (trade : Trade) (me : ℕ) (journal : List Entry)
      → facts_taken trade me journal id ≡ Some facts → AreTaken trade me journal old → AreTaken trade me journal new
  taken_then more same trade me journal is taken = by r more same
    where
      by : (s : Result X E) → OnOk s (new ≡ one_more) → OnErr s (new ≡ old) → AreTaken trade me journal new
      by (Ok x) m k =
          subst (λ (found : List Original). AreTaken trade me journal found) (sym m)
          (taken_more old (record { id = id; facts = facts }) trade me journal is taken)
      by (Err e) m k = subst (λ (found : List Original). AreTaken trade me journal found) (sym k) taken

-- what was looked up before is what the journal says, or nothing
module _ {B : Type 0} (f : B → Facts) (found : Option B) (kept : Option Facts) (looked : option_map f found ≡ kept) where
  pub known_before : (told : Option Facts) → is_some found ≡ true → IfSome kept (λ facts. told ≡ Some facts) → kept ≡ told
  known_before told some is =
      subst (λ (k : Option Facts). k ≡ told) looked
      (by found some (subst (λ (k : Option Facts). IfSome k (λ facts. told ≡ Some facts)) (sym looked) is))
    where
      by : (o : Option B) → is_some o ≡ true → IfSome (option_map f o) (λ facts. told ≡ Some facts) → option_map f o ≡ told
      by None s so = absurd (cc s)
      by (Some b) s so = sym so

  pub none_before : is_some found ≡ false → kept ≡ None
  none_before none = sym looked ∙ by found none
    where
      by : (o : Option B) → is_some o ≡ false → option_map f o ≡ None
      by None s = refl
      by (Some b) s = absurd (cc s)

-- what was read is what the journal says
pub so_some : (facts told : Option Facts) → facts ≡ told → IfSome facts (λ found. told ≡ Some found)
so_some None told e = tt
so_some (Some found) told e = sym e

-- where something is remembered, the journal says it
pub told_before : {B : Type 0} (f : B → Facts) (found : Option B) (kept : Option Facts) → option_map f found ≡ kept
    → is_some found ≡ true → (told : Option Facts) → IfSome kept (λ facts. told ≡ Some facts)
    → (facts : Facts) × (told ≡ Some facts)
told_before f None kept looked some told is = absurd (cc some)
told_before f (Some b) kept looked some told is =
    (f b, subst (λ (k : Option Facts). IfSome k (λ facts. told ≡ Some facts)) (sym looked) is)
