-- The original of each accepted message stands at the entry that its row names, whatever else a journal holds.
use Rattle.std.proofs.Common.{◌≡◌, ℕ, ◌+◌, List, [], ◌∷◌, ◌++◌, length, refl, ap, sym, subst, ◌∙◌, Some}
use Rattle.std.specs.Prelude.{All, Contains, fold, slice_get}
use Rattle.std.proofs.lemmas.List.{append-nil, append_assoc}
use Rattle.std.proofs.lemmas.List.Elements.{All-append, All-cons, All-contains, All-nil, All-weaker}
use Rattle.std.proofs.lemmas.Option.{get_or_from_slice_get, none-some, slice_get_within}
use Rattle.pec_types.specs.Bytes.{Bytes}
use Rattle.pec_types.specs.declared.messages.Facts.{Facts}
use Rattle.pec_records.specs.declared.entries.Entry.{Entry}
use Rattle.pec_records.specs.declared.entries.Entry.TheVariants as entries
use Rattle.pec_ledger.specs.Along.{GoesOnAs}
use Rattle.pec_ledger.specs.Half.{Half, Message, empty}
use Rattle.pec_ledger.specs.Ledger.{body_at, body_of}
use Rattle.pec_ledger.specs.Lookups.{Accepted, accepted_at, accepted_of}
use Rattle.pec_ledger.specs.Steps.{half, messages_by, step}
use Rattle.pec_ledger.specs.Trade.{Trade}
use Rattle.pec_ledger.proofs.Backing.{last_place, one_longer}
use Rattle.pec_ledger.proofs.Growth.{body_stays}
use Rattle.pec_ledger.proofs.ListLemmas.{both_found, bound, mapped}

row_in : {X : Type 0} (xs : List X) (n : ℕ) (x : X) → slice_get xs n ≡ Some x → Contains xs x
row_in xs n x e = (n, slice_get_within xs n x e, get_or_from_slice_get xs n x x e)

module _ (trade : Trade) (p : ℕ) where
  -- an original of these facts stands at an entry
  abbrev pub HasBody : List Entry → ℕ → Facts → Type 0
  HasBody es entry facts = (original : Bytes) × (body_at es entry ≡ Some original) × (trade.facts original ≡ Some facts)

  abbrev Stands : List Entry → Message → Type 0
  Stands es row = (facts : Facts) → row.facts ≡ Some facts → HasBody es row.entry facts

  record AllStand (es : List Entry) (h : Half) : Type 0 where
    count : h.entries ≡ length es
    rows : All (Stands es) h.messages

  stays : (es fs : List Entry) → GoesOnAs es fs → (row : Message) → Stands es row → Stands fs row
  stays es fs g row is = λ facts e. let body = is facts e in (body.0, body_stays es fs row.entry body.0 g body.1, body.2)

  none_new : (es : List Entry) → All (Stands es) []
  none_new es = All-nil (Stands es)

  new_stand : (es : List Entry) (h : Half) → h.entries ≡ length es → (e : Entry) → All (Stands (es ++ e ∷ [])) (messages_by trade p h e)
  new_stand es h n (entries.Accepted moment sender message) =
      let fs = es ++ entries.Accepted moment sender message ∷ []
      in All-cons (Stands fs) _ []
      (λ facts e. (
        message,
        ap (body_at fs) n ∙ bound body_of (slice_get fs (length es)) (entries.Accepted moment sender message) message (last_place es (entries.Accepted moment sender message)) refl,
        e,
      ))
      (none_new fs)
  new_stand es h n (entries.NotAccepted moment sender cause path message) =
      All-cons (Stands (es ++ entries.NotAccepted moment sender cause path message ∷ [])) _ [] (λ facts e. absurd (none-some facts e))
      (none_new (es ++ entries.NotAccepted moment sender cause path message ∷ []))
  new_stand es h n (entries.Start number digest) = none_new (es ++ entries.Start number digest ∷ [])
  new_stand es h n e = none_new (es ++ e ∷ [])

  stand_step : (es : List Entry) (h : Half) (e : Entry) → AllStand es h → AllStand (es ++ e ∷ []) (step trade p h e)
  unfolding step
  stand_step es h e is = record {
    count = ap (λ k. k + 1) is.count ∙ sym (one_longer es e);
    rows = All-append (Stands (es ++ e ∷ [])) h.messages (messages_by trade p h e)
        (All-weaker (Stands es) (Stands (es ++ e ∷ [])) (stays es (es ++ e ∷ []) (e ∷ [], refl)) h.messages is.rows)
        (new_stand es h is.count e);
  }

  stand_along : (front : List Entry) (h : Half) (rest : List Entry) → AllStand front h → AllStand (front ++ rest) (fold (step trade p) h rest)
  stand_along front h [] is = subst (λ (es : List Entry). AllStand es h) (sym (append-nil front)) is
  stand_along front h (e ∷ rest) is =
      subst (λ (es : List Entry). AllStand es (fold (step trade p) h (e ∷ rest))) (append_assoc front (e ∷ []) rest)
      (stand_along (front ++ e ∷ []) (step trade p h e) rest (stand_step front h e is))

  all_stand : (es : List Entry) → AllStand es (half trade p es)
  unfolding half
  all_stand es = stand_along [] empty es (record { count = refl; rows = All-nil (Stands []) })

  pub original_stands : (es : List Entry) (number : ℕ) (message : Accepted) → accepted_at (half trade p es) number ≡ Some message
      → HasBody es message.entry message.facts
  original_stands es number message e =
      let found = both_found accepted_of (slice_get (half trade p es).messages number) message e
      in let made = mapped (λ (facts : Facts). record { moment = found.0.moment; sender = found.0.sender; facts = facts; entry = found.0.entry })
      found.0.facts message found.2
      in let stands = All-contains (Stands es) (half trade p es).messages found.0 (all_stand es).rows (row_in (half trade p es).messages number found.0 found.1)
      in let body = stands made.0 made.1
      in subst (λ (m : Accepted). HasBody es m.entry m.facts) made.2 body
