-- How a provider's stock begins: with its Start.
use Rattle.std.proofs.Common.{◌≡◌, ℕ, ◌+◌, Bool, true, false, List, [], ◌∷◌, ◌++◌, length, refl, sym, ap, subst, ◌∙◌, arith, Result, None, Err}
use Rattle.std.specs.Result.{result_err}
use Rattle.std.proofs.lemmas.List.{append-nil}
use Rattle.std.proofs.lemmas.Option.{same_Some}
use Rattle.pec_types.specs.Bytes.{Bytes}
use Rattle.pec_directory.specs.Canonical.{digest_of}
use Rattle.pec_directory.specs.Directory.{Kept, providers_of}
use Rattle.pec_records.specs.Entry.{entry_text}
use Rattle.pec_records.specs.declared.entries.Entry.{Entry}
use Rattle.pec_records.specs.declared.entries.Entry.TheVariants as entries
use Rattle.pec_ledger.specs.Half.{Half, empty}
use Rattle.pec_ledger.specs.Network.{chosen}
use Rattle.pec_ledger.specs.OfDirectory.{IsOf}
use Rattle.pec_ledger.specs.Steps.{half, size_of, step}
use Rattle.pec_ledger.specs.Trade.{Trade}
use Rattle.pec_chronicle.specs.Chronicle.{ChronicleState}
use Rattle.pec_shelf.specs.Prepared.{Drafts, IsStep}
use Rattle.pec_shelf.specs.Seen.{IsNew, Seen}
use Rattle.pec_shelf.specs.declared.faults.DraftFault.{DraftFault}
use Rattle.pec_shelf.specs.declared.faults.DraftFault.TheVariants as drafting
use Rattle.pec_stock.specs.Stock.{Agree, Holds, IsOwn}

-- the faults of two answers are one where the answers are
pub same_fault : {A : Type 0} (a b : DraftFault) → ◌≡◌ {A = Result A DraftFault} (Err a) (Err b) → a ≡ b
same_fault {A} a b e = same_Some a b (ap (λ (r : Result A DraftFault). result_err r) e)

-- what isn't drafted is no step
pub not_a_step : (trade : Trade) (me : ℕ) (h : Half) (entry : Entry) (fault : DraftFault) → Drafts trade me h entry (Err fault)
    → fault ≡ drafting.NotAStep → IsStep trade me h entry → ⊥
not_a_step trade me h entry fault drafts is = subst (λ (f : DraftFault). Drafts trade me h entry (Err f)) is drafts

-- a new shelf has no entries
pub holds_new : (kept : List Kept) (me : ℕ) (shelf : Seen) → IsNew me shelf → Holds kept shelf []
unfolding half
holds_new kept me shelf new = record {
  is_half = λ trade of. new.1;
  homes = λ trade of. rw (new.1, new.2) refl;
  in_range = rw new.1 (omega arith);
  ticked = new.3;
  places = new.4;
}

module _ (kept : List Kept) (me : ℕ) (shelf : Seen) (new : IsNew me shelf) (trade : Trade) (of : IsOf kept trade) (digest : Bytes)
    (is : digest ≡ digest_of (providers_of kept)) where
  start_of : IsStep trade me empty (entries.StartTwo me digest)
  start_of = record { own = (refl, refl, is ∙ sym of.digest); in_time = omega arith }

  pub start_step : IsStep trade shelf.me shelf.half (entries.StartTwo me digest)
  start_step = rw (new.0, new.1) start_of

  pub start_own : IsOwn trade me (entries.StartTwo me digest ∷ [])
  start_own = record { begins = tt; steps = (start_of, tt) }

without : (list : List Entry) (choice : Bool) (P : List Entry → Type 0) → P list → P (list ++ chosen choice None)
without list false P p = subst P (sym (append-nil list)) p
without list true P p = subst P (sym (append-nil list)) p

-- a journal whose entries are the provider's own agrees with the half that they come to
pub agree_with : {D : Type 0} (kept : List Kept) (chronicle : ChronicleState D) (shelf : Seen) (list : List Entry)
    → Holds kept shelf list → ((trade : Trade) → IsOf kept trade → IsOwn trade shelf.me list)
    → chronicle.entries ≡ list → chronicle.interrupted ≡ None → chronicle.end ≡ shelf.half.end → Agree kept chronicle shelf
agree_with kept chronicle shelf list holds own entries none end = record {
  holds = subst (λ (l : List Entry). Holds kept shelf l) (sym entries) holds;
  ends = λ up. end;
  whole = λ up. none;
  own = λ other is choice. rw (entries, none) (without list choice (λ (l : List Entry). IsOwn other shelf.me l) (own other is));
}

-- where a journal of one entry ends
pub end_begun : (kept : List Kept) (shelf : Seen) (start : Entry) (trade : Trade) → IsOf kept trade → Holds kept shelf (start ∷ [])
    → 8 + 5 + length (entry_text start) ≡ shelf.half.end
unfolding half step size_of
end_begun kept shelf start trade of holds =
    let ends : shelf.half.end ≡ 8 + (5 + length (entry_text start)) = ap (λ (h : Half). h.end) (holds.is_half trade of) in omega (arith, ends)
