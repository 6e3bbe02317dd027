-- What the functions of heads, lists and facts say of a message's head, by the ties of pec_heads.
use Rattle.std.proofs.Common.{◌≡◌, ℕ, ◌==◌, List, [], ◌∷◌, ◌++◌, Bool, true, false, ◌||◌, cond, inl, inr, length, codes, Option, Some, None, Result, Ok, Err, Decides, refl, ap, sym, subst, ◌∙◌}
use Rattle.std.proofs.Math.Dec.{eqb-suc-zero}
use Rattle.std.proofs.lemmas.Bool.{both_ways, eqb-true}
use Rattle.std.specs.Option.{option_and_then, option_map}
use Rattle.std.specs.Result.{result_ok}
use Rattle.std.specs.Str.{bytes_eq}
use Rattle.pec_types.specs.declared.messages.Facts.{Facts}
use Rattle.pec_types.specs.declared.messages.Recipient.{Recipient}
use Rattle.pec_heads.specs.Heads.{IsHead, HasHeadFault, values_of, joined_values}
use Rattle.pec_heads.specs.HeadReading.{read_of}
use Rattle.pec_heads.specs.Lists.{IsList, HasList}
use Rattle.pec_heads.specs.ListReading.{list_of}
use Rattle.pec_heads.specs.BoundedFacts.{addresses_of}
use Rattle.pec_heads.specs.FactsOfHeads.{AreCopies, has_address, recipients_of}
use Rattle.pec_heads.specs.FactsReading.{copies_of, facts_from, facts_of, listed, only_one, sender_of}
use Rattle.pec_heads.specs.declared.faults.HeadFault.{HeadFault}
use Rattle.pec_types.specs.Bytes.{Bytes, Path}
use Rattle.pec_points.specs.Admission.{Fields, IsFrom, WithHead}
use Rattle.pec_points.specs.AdmissionReading.{has_recipient, head_in, in_head, recipients_in}
use Rattle.pec_points.proofs.Ties.{Ties}

-- ---- options

pub some_is : {A : Type 0} (x y : A) → Some x ≡ Some y → x ≡ y
some_is x y e = cc

pub no_some : {A : Type 0} (o : Option A) (x : A) → o ≡ None → o ≡ Some x → ⊥
no_some None x e f = absurd cc
no_some (Some y) x e f = absurd cc

ok_of : {A E : Type 0} (r : Result A E) (x : A) → result_ok r ≡ Some x → r ≡ Ok x
ok_of (Ok y) x e = ap (λ z. Ok z) (some_is y x e)
ok_of (Err y) x e = absurd cc

-- ---- recipients, as a set

by_addresses : (recipients : List Recipient) (x : Bytes) → has_recipient recipients x ≡ has_address (addresses_of recipients) x
by_addresses [] x = refl
by_addresses (r ∷ recipients) x = ap (λ t. bytes_eq r.address x || t) (by_addresses recipients x)

pub recipients_set : (ties : Ties) (to copies : Path) (x : Bytes) → has_recipient (recipients_of to copies) x ≡ has_address (to ++ copies) x
recipients_set ties to copies x = by_addresses (recipients_of to copies) x ∙ ties.gathered to copies x

-- ---- recipients and facts

recipients_by : (head : Fields) (from : Bytes) (to copies : Option Path)
    → option_and_then (λ t. option_map (λ c. recipients_of t c) copies) to
    ≡ option_map (λ (f : Facts). f.recipients) (option_and_then (λ t. option_and_then (λ c. Some (facts_from head from t c)) copies) to)
recipients_by head from None copies = refl
recipients_by head from (Some to) None = refl
recipients_by head from (Some to) (Some copies) = refl

pub recipients_there : (head : Fields) (from : Bytes) → sender_of head ≡ Some from
    → recipients_in head ≡ option_map (λ (f : Facts). f.recipients) (facts_of head)
unfolding recipients_in facts_of
recipients_there head from e = rw e (recipients_by head from (listed (codes "To") head) (copies_of head))

-- ---- copies

nothing : (xs : List Bytes) → (length xs == 0) ≡ true → xs ≡ []
nothing [] e = refl
nothing (x ∷ xs) e = absurd (both_ways (length (x ∷ xs) == 0) (eqb-suc-zero (length xs)) e)

something : (xs : List Bytes) → (xs ≡ [] → ⊥) → (length xs == 0) ≡ false
something [] n = absurd (n refl)
something (x ∷ xs) n = eqb-suc-zero (length xs)

module _ (ties : Ties) where
  -- ---- heads

  pub head_here : (message : Bytes) (head : Fields) (place : ℕ) → IsHead message head place → head_in message ≡ Some head
  unfolding head_in
  head_here message head place h = rw (((ties.heads message).value (head, place)).1 h) refl

  pub head_missing : (message : Bytes) → HasHeadFault message → head_in message ≡ None
  unfolding head_in
  head_missing message h = rw (((ties.heads message).fault h.0).1 h.1) refl

  found_in : (message : Bytes) (head : Fields) (r : Result (Fields × ℕ) HeadFault) → read_of message ≡ r
      → option_map (λ (read : Fields × ℕ). read.0) (result_ok r) ≡ Some head → (place : ℕ) × IsHead message head place
  found_in message head (Ok read) e f =
      (read.1, subst (λ (fields : Fields). IsHead message fields read.1) (some_is read.0 head f) (((ties.heads message).value read).0 e))
  found_in message head (Err fault) e f = absurd cc

  pub head_found : (message : Bytes) (head : Fields) → head_in message ≡ Some head → (place : ℕ) × IsHead message head place
  unfolding head_in
  head_found message head e = found_in message head (read_of message) refl e

  lost_in : (message : Bytes) (r : Result (Fields × ℕ) HeadFault) → read_of message ≡ r
      → option_map (λ (read : Fields × ℕ). read.0) (result_ok r) ≡ None → HasHeadFault message
  lost_in message (Ok read) e f = absurd cc
  lost_in message (Err fault) e f = (fault, ((ties.heads message).fault fault).0 e)

  pub head_lost : (message : Bytes) → head_in message ≡ None → HasHeadFault message
  unfolding head_in
  head_lost message e = lost_in message (read_of message) refl e

  -- What decides of each head whether something holds of it, decides whether it holds of the message's head.
  pub with_head : (message : Bytes) (test : Fields → Bool) (Holds : Fields → Type 0) → ((head : Fields) → Decides (test head) (Holds head))
      → (found : Option Fields) → head_in message ≡ found → Decides (in_head test found) (WithHead message Holds)
  with_head message test Holds each None e = (
    λ t. absurd cc,
    λ h. absurd (no_some (head_in message) h.head e (head_here message h.head h.place h.head_is)),
  )
  with_head message test Holds each (Some head) e = (
    λ t. let found = head_found message head e in record { head = head; place = found.0; head_is = found.1; holds = (each head).0 t },
    λ h. (each head).1 (subst Holds (some_is h.head head (sym (head_here message h.head h.place h.head_is) ∙ e)) h.holds),
  )

  -- ---- lists

  pub listed_is : (name : Bytes) (head : Fields) (addresses : Path) → listed name head ≡ Some addresses → IsList (joined_values name head) addresses
  listed_is name head addresses e = ((ties.lists (joined_values name head)).value addresses).0 (ok_of (list_of (joined_values name head)) addresses e)

  pub listed_again : (name : Bytes) (head : Fields) (addresses : Path) → IsList (joined_values name head) addresses → listed name head ≡ Some addresses
  listed_again name head addresses h = ap result_ok (((ties.lists (joined_values name head)).value addresses).1 h)

  pub never_listed : (name : Bytes) (head : Fields) → listed name head ≡ None → HasList (joined_values name head) → ⊥
  never_listed name head e h = no_some (listed name head) h.0 e (listed_again name head h.0 h.1)

  -- ---- the sender

  only_in : (addresses : Option Path) (x : Bytes) → option_and_then only_one addresses ≡ Some x → addresses ≡ Some (x ∷ [])
  only_in None x e = absurd cc
  only_in (Some []) x e = absurd cc
  only_in (Some (y ∷ [])) x e = ap (λ z. Some (z ∷ [])) (some_is y x e)
  only_in (Some (y ∷ z ∷ xs)) x e = absurd cc

  from_by : (head : Fields) (address : Bytes) (t : Bool) → (length (values_of (codes "From") head) == 1) ≡ t
      → cond t (option_and_then only_one (listed (codes "From") head)) None ≡ Some address → IsFrom head address
  from_by head address false e f = absurd cc
  from_by head address true e f = record {
    one_field = eqb-true (length (values_of (codes "From") head)) 1 e;
    one_address = listed_is (codes "From") head (address ∷ []) (only_in (listed (codes "From") head) address f);
  }

  pub from_is : (head : Fields) (address : Bytes) → sender_of head ≡ Some address → IsFrom head address
  from_is head address e = from_by head address (length (values_of (codes "From") head) == 1) refl e

  pub from_again : (head : Fields) (address : Bytes) → IsFrom head address → sender_of head ≡ Some address
  from_again head address h = rw (h.one_field, listed_again (codes "From") head (address ∷ []) h.one_address) refl

  -- ---- copies

  copies_by : (head : Fields) (copies : Path) (t : Bool) → (length (values_of (codes "Cc") head) == 0) ≡ t
      → cond t (Some []) (listed (codes "Cc") head) ≡ Some copies → AreCopies head copies
  copies_by head copies true e f = inl (nothing (values_of (codes "Cc") head) e, sym (some_is [] copies f))
  copies_by head copies false e f =
      inr (
        (λ n. let t : (length (values_of (codes "Cc") head) == 0) ≡ true = rw n refl in both_ways (length (values_of (codes "Cc") head) == 0) e t),
        listed_is (codes "Cc") head copies f,
      )

  copies_are : (head : Fields) (copies : Path) → copies_of head ≡ Some copies → AreCopies head copies
  copies_are head copies e = copies_by head copies (length (values_of (codes "Cc") head) == 0) refl e

  copies_again : (head : Fields) (copies : Path) → AreCopies head copies → copies_of head ≡ Some copies
  copies_again head copies (inl h) = rw (h.0, h.1) refl
  copies_again head copies (inr h) = rw (something (values_of (codes "Cc") head) h.0) (listed_again (codes "Cc") head copies h.1)

  -- ---- recipients

  pub record HasRecipients (head : Fields) (recipients : List Recipient) : Type 0 where
    pub to : Path
    pub copies : Path
    pub to_is : IsList (joined_values (codes "To") head) to
    pub copies_are : AreCopies head copies
    pub recipients_are : recipients ≡ recipients_of to copies

  recipients_from : (head : Fields) (recipients : List Recipient) (to copies : Option Path) → listed (codes "To") head ≡ to → copies_of head ≡ copies
      → option_and_then (λ t. option_map (λ c. recipients_of t c) copies) to ≡ Some recipients → HasRecipients head recipients
  recipients_from head recipients None copies e f g = absurd cc
  recipients_from head recipients (Some to) None e f g = absurd cc
  recipients_from head recipients (Some to) (Some copies) e f g = record {
    to = to;
    copies = copies;
    to_is = listed_is (codes "To") head to e;
    copies_are = copies_are head copies f;
    recipients_are = sym (some_is (recipients_of to copies) recipients g);
  }

  pub recipients_are : (head : Fields) (recipients : List Recipient) → recipients_in head ≡ Some recipients → HasRecipients head recipients
  unfolding recipients_in
  recipients_are head recipients e = recipients_from head recipients (listed (codes "To") head) (copies_of head) refl refl e

  pub recipients_again : (head : Fields) (to copies : Path) → IsList (joined_values (codes "To") head) to → AreCopies head copies
      → recipients_in head ≡ Some (recipients_of to copies)
  unfolding recipients_in
  recipients_again head to copies t k = rw (listed_again (codes "To") head to t, copies_again head copies k) refl
