-- `facts_of` and the facts of a head: what it gives is so, and what is so it gives.
use Rattle.std.proofs.Common.{◌≡◌, ℕ, ◌==◌, List, [], ◌∷◌, Bool, true, false, cond, inl, inr, length, codes, Option, Some, None, Result, Ok, Err, refl, ap, sym, ◌∙◌}
use Rattle.std.proofs.Math.Dec.{eqb-suc-zero, eqb-suc-suc}
use Rattle.std.proofs.lemmas.Bool.{both_ways}
use Rattle.std.specs.List.{join_with_byte}
use Rattle.std.specs.Option.{option_and_then}
use Rattle.std.specs.Result.{result_ok}
use Rattle.pec_types.specs.declared.messages.Facts.{Facts}
use Rattle.pec_heads.specs.Heads.{NamedValue, values_of, joined_values}
use Rattle.pec_heads.specs.Lists.{IsList}
use Rattle.pec_heads.specs.ListReading.{list_of}
use Rattle.pec_heads.specs.FactsOfHeads.{AreCopies, IsFacts}
use Rattle.pec_heads.specs.FactsReading.{listed, only_one, sender_of, copies_of, facts_from, facts_of}
use Rattle.pec_heads.specs.declared.faults.ListFault.{ListFault}
use Rattle.pec_heads.proofs.Tools.{some_is}
use Rattle.pec_heads.proofs.AddressFacts.{AddressesTold}
use Rattle.pec_heads.proofs.ListLaws.{list_says, list_again}

bind_some : {A B : Type 0} (f : A → Option B) (o : Option A) (y : B) → option_and_then f o ≡ Some y → (x : A) × ((o ≡ Some x) × (f x ≡ Some y))
bind_some f None y e = absurd cc
bind_some f (Some x) y e = (x, (refl, e))

-- ---- lists

ok_of : (r : Result (List (List ℕ)) ListFault) (addresses : List (List ℕ)) → result_ok r ≡ Some addresses → r ≡ Ok addresses
ok_of (Ok x) addresses e = ap Ok (some_is x addresses e)
ok_of (Err fault) addresses e = absurd cc

pub record HasSender (fields : List NamedValue) (sender : List ℕ) : Type 0 where
  pub from : List ℕ
  pub one_from : values_of (codes "From") fields ≡ from ∷ []
  pub one_sender : IsList from (sender ∷ [])

-- what the law of addresses says
module _ (told : AddressesTold) where
  is_list : (text : List ℕ) (addresses : List (List ℕ)) → list_of text ≡ Ok addresses → IsList text addresses
  is_list text addresses e = rw e at (list_says told text)

  pub listed_is : (name : List ℕ) (fields : List NamedValue) (addresses : List (List ℕ)) → listed name fields ≡ Some addresses → IsList (joined_values name fields) addresses
  listed_is name fields addresses e = is_list (joined_values name fields) addresses (ok_of (list_of (joined_values name fields)) addresses e)

  pub listed_again : (name : List ℕ) (fields : List NamedValue) (addresses : List (List ℕ)) → IsList (joined_values name fields) addresses → listed name fields ≡ Some addresses
  listed_again name fields addresses h = ap result_ok (list_again told (joined_values name fields) addresses h)

  -- ---- the sender

  one_item : (xs : List (List ℕ)) → (length xs == 1) ≡ true → (x : List ℕ) × (xs ≡ x ∷ [])
  one_item [] e = absurd cc
  one_item (x ∷ []) e = (x, refl)
  one_item (x ∷ y ∷ xs) e = absurd (both_ways (length (x ∷ y ∷ xs) == 1) (eqb-suc-suc (length (y ∷ xs)) 0 ∙ eqb-suc-zero (length xs)) e)

  pub only_is : (xs : List (List ℕ)) (x : List ℕ) → only_one xs ≡ Some x → xs ≡ x ∷ []
  only_is [] x e = absurd cc
  only_is (y ∷ []) x e = ap (λ z. z ∷ []) (some_is y x e)
  only_is (y ∷ z ∷ xs) x e = absurd cc

  -- one value is the joined one
  list_in : (values : List (List ℕ)) (value : List ℕ) (addresses : List (List ℕ)) → values ≡ value ∷ [] → IsList (join_with_byte 44 values) addresses → IsList value addresses
  list_in values value addresses e h = rw e at h

  sender_case : (fields : List NamedValue) (sender : List ℕ) (t : Bool) → (length (values_of (codes "From") fields) == 1) ≡ t
      → cond t (option_and_then only_one (listed (codes "From") fields)) None ≡ Some sender → HasSender fields sender
  sender_case fields sender false e f = absurd cc
  sender_case fields sender true e f =
      let o = one_item (values_of (codes "From") fields) e
      in let b = bind_some only_one (listed (codes "From") fields) sender f
      in let l = listed_is (codes "From") fields b.0 b.1.0
      in record { from = o.0; one_from = o.1; one_sender = rw (← only_is b.0 sender b.1.1) (list_in (values_of (codes "From") fields) o.0 b.0 o.1 l) }

  sender_is : (fields : List NamedValue) (sender : List ℕ) → sender_of fields ≡ Some sender → HasSender fields sender
  sender_is fields sender e = sender_case fields sender (length (values_of (codes "From") fields) == 1) refl e

  sender_again : (fields : List NamedValue) (sender : List ℕ) → HasSender fields sender → sender_of fields ≡ Some sender
  sender_again fields sender h =
      let l : IsList (joined_values (codes "From") fields) (sender ∷ []) = rw h.one_from h.one_sender
      in rw (listed_again (codes "From") fields (sender ∷ []) l, h.one_from) refl

  -- ---- copies

  none_item : (xs : List (List ℕ)) → (length xs == 0) ≡ true → xs ≡ []
  none_item [] e = refl
  none_item (x ∷ xs) e = absurd (both_ways (length (x ∷ xs) == 0) (eqb-suc-zero (length xs)) e)

  some_item : (xs : List (List ℕ)) → (xs ≡ [] → ⊥) → (length xs == 0) ≡ false
  some_item [] n = absurd (n refl)
  some_item (x ∷ xs) n = eqb-suc-zero (length xs)

  copies_case : (fields : List NamedValue) (copies : List (List ℕ)) (t : Bool) → (length (values_of (codes "Cc") fields) == 0) ≡ t
      → cond t (Some []) (listed (codes "Cc") fields) ≡ Some copies → AreCopies fields copies
  copies_case fields copies true e f = inl (none_item (values_of (codes "Cc") fields) e, sym (some_is [] copies f))
  copies_case fields copies false e f =
      inr ((λ n. let z : (length (values_of (codes "Cc") fields) == 0) ≡ true = rw n refl in both_ways (length (values_of (codes "Cc") fields) == 0) e z), listed_is (codes "Cc") fields copies f)

  pub copies_again : (fields : List NamedValue) (copies : List (List ℕ)) → AreCopies fields copies → copies_of fields ≡ Some copies
  copies_again fields copies (inl h) = rw (h.0, h.1) refl
  copies_again fields copies (inr h) = rw (some_item (values_of (codes "Cc") fields) h.0) (listed_again (codes "Cc") fields copies h.1)

  -- ---- facts

  made : (fields : List NamedValue) (sender : List ℕ) (to copies : List (List ℕ)) → HasSender fields sender → IsList (joined_values (codes "To") fields) to → AreCopies fields copies
      → IsFacts fields (facts_from fields sender to copies)
  made fields sender to copies h t k = record {
    from = h.from;
    to = to;
    copies = copies;
    one_from = h.one_from;
    one_sender = h.one_sender;
    to_is = t;
    copies_are = k;
    recipients_are = refl;
    wish_is = refl;
    subject_is = refl;
    reference_is = refl;
    reply_is = refl;
  }

  pub facts_found : (fields : List NamedValue) (facts : Facts) → facts_of fields ≡ Some facts → IsFacts fields facts
  unfolding facts_of
  facts_found fields facts e =
      let s = bind_some (λ sender. option_and_then (λ to. option_and_then (λ copies. Some (facts_from fields sender to copies)) (copies_of fields)) (listed (codes "To") fields)) (sender_of fields) facts e
      in let t = bind_some (λ to. option_and_then (λ copies. Some (facts_from fields s.0 to copies)) (copies_of fields)) (listed (codes "To") fields) facts s.1.1
      in let k = bind_some (λ copies. Some (facts_from fields s.0 t.0 copies)) (copies_of fields) facts t.1.1
      in rw (← some_is (facts_from fields s.0 t.0 k.0) facts k.1.1)
      (made fields s.0 t.0 k.0 (sender_is fields s.0 s.1.0) (listed_is (codes "To") fields t.0 t.1.0) (copies_case fields k.0 (length (values_of (codes "Cc") fields) == 0) refl k.1.0))

  same_facts : (fields : List NamedValue) (facts : Facts) → (h : IsFacts fields facts) → facts_from fields facts.sender h.to h.copies ≡ facts
  same_facts fields facts h = rw (← h.recipients_are, ← h.wish_is, ← h.subject_is, ← h.reference_is, ← h.reply_is) refl

  pub facts_again : (fields : List NamedValue) (facts : Facts) → IsFacts fields facts → facts_of fields ≡ Some facts
  unfolding facts_of
  facts_again fields facts h =
      rw (
        sender_again fields facts.sender (record { from = h.from; one_from = h.one_from; one_sender = h.one_sender }),
        listed_again (codes "To") fields h.to h.to_is,
        copies_again fields h.copies h.copies_are,
      ) (ap Some (same_facts fields facts h))

  pub one_facts : (fields : List NamedValue) (facts others : Facts) → IsFacts fields facts → IsFacts fields others → facts ≡ others
  one_facts fields facts others h k = some_is facts others (sym (facts_again fields facts h) ∙ facts_again fields others k)
