-- The envelope of each message that was taken stands at the entry that its row names, whatever else a journal holds.
use Rattle.std.proofs.Common.{◌≡◌, ℕ, ◌+◌, List, [], ◌∷◌, ◌++◌, length, refl, ap, sym, subst, ◌∙◌, Some}
use Rattle.std.specs.Prelude.{All, fold, slice_get}
use Rattle.std.proofs.lemmas.List.{append-nil, append_assoc}
use Rattle.std.proofs.lemmas.List.Elements.{All-append, All-cons, All-contains, All-nil, All-weaker}
use Rattle.pec_types.specs.Bytes.{Bytes}
use Rattle.pec_types.specs.Message.{Id}
use Rattle.pec_records.specs.declared.entries.Entry.{Entry}
use Rattle.pec_records.specs.declared.entries.Entry.TheVariants as entries
use Rattle.pec_ledger.specs.Along.{GoesOnAs}
use Rattle.pec_ledger.specs.Half.{Half, Taken, empty}
use Rattle.pec_ledger.specs.Lookups.{at_home, taken_of}
use Rattle.pec_ledger.specs.Pairs.{same_id}
use Rattle.pec_ledger.specs.Steps.{half, step, taken_by}
use Rattle.pec_ledger.specs.Trade.{Trade}
use Rattle.pec_ledger.proofs.Backing.{last_place, one_longer}
use Rattle.pec_ledger.proofs.ListLemmas.{found_there, stays_at}
use Rattle.pec_ledger.proofs.PairLemmas.{same_ids}

module _ (trade : Trade) (p : ℕ) where
  -- an envelope of this message stands at an entry
  abbrev pub HasEnvelope : List Entry → ℕ → Id → Type 0
  HasEnvelope es entry id = (moment : ℕ) × (envelope : Bytes) × (slice_get es entry ≡ Some (entries.Took moment id envelope))

  abbrev Stands : List Entry → Taken → Type 0
  Stands es row = HasEnvelope es row.entry row.id

  record AllStand (es : List Entry) (h : Half) : Type 0 where
    count : h.entries ≡ length es
    rows : All (Stands es) h.taken

  stays : (es fs : List Entry) → GoesOnAs es fs → (row : Taken) → Stands es row → Stands fs row
  stays es fs g row is = (is.0, is.1, stays_at es fs row.entry (entries.Took is.0 row.id is.1) g is.2)

  new_stand : (es : List Entry) (h : Half) → h.entries ≡ length es → (e : Entry) → All (Stands (es ++ e ∷ [])) (taken_by trade p h e)
  new_stand es h n (entries.Took moment id message) =
      let fs = es ++ entries.Took moment id message ∷ []
      in All-cons (Stands fs)
      (record { id = id; moment = moment; recipients = at_home trade p (trade.envelope_recipients message); entry = h.entries }) []
      (moment, message, ap (slice_get fs) n ∙ last_place es (entries.Took moment id message)) (All-nil (Stands fs))
  new_stand es h n e = All-nil (Stands (es ++ e ∷ []))

  stand_step : (es : List Entry) (h : Half) (e : Entry) → AllStand es h → AllStand (es ++ e ∷ []) (step trade p h e)
  unfolding step
  stand_step es h e is = record {
    count = ap (λ k. k + 1) is.count ∙ sym (one_longer es e);
    rows = All-append (Stands (es ++ e ∷ [])) h.taken (taken_by trade p h e)
        (All-weaker (Stands es) (Stands (es ++ e ∷ [])) (stays es (es ++ e ∷ []) (e ∷ [], refl)) h.taken is.rows)
        (new_stand es h is.count e);
  }

  stand_along : (front : List Entry) (h : Half) (rest : List Entry) → AllStand front h → AllStand (front ++ rest) (fold (step trade p) h rest)
  stand_along front h [] is = subst (λ (es : List Entry). AllStand es h) (sym (append-nil front)) is
  stand_along front h (e ∷ rest) is =
      subst (λ (es : List Entry). AllStand es (fold (step trade p) h (e ∷ rest))) (append_assoc front (e ∷ []) rest)
      (stand_along (front ++ e ∷ []) (step trade p h e) rest (stand_step front h e is))

  all_stand : (es : List Entry) → AllStand es (half trade p es)
  unfolding half
  all_stand es = stand_along [] empty es (record { count = refl; rows = All-nil (Stands []) })

  pub envelope_stands : (es : List Entry) (id : Id) (row : Taken) → taken_of (half trade p es) id ≡ Some row → HasEnvelope es row.entry id
  envelope_stands es id row e =
      let found = found_there (λ (taken : Taken). same_id id taken.id) (half trade p es).taken row e
      in subst (HasEnvelope es row.entry) (sym (same_ids id row.id found.1))
      (All-contains (Stands es) (half trade p es).taken row (all_stand es).rows found.0)
