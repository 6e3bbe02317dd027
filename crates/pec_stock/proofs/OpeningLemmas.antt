-- Why a journal that is opened again is refused, and that a provider's own never is.
use Rattle.std.proofs.Common.{◌≡◌, ℕ, zero, suc, ◌+◌, ◌<◌, ◌⊎◌, Bool, true, false, not, List, [], ◌∷◌, ◌++◌, length, map, fold, take, get_or, inl, inr, refl, sym, ap, subst, ◌∙◌, arith, Some, None, Result, Ok, Err}
use Rattle.std.specs.Prelude.{◌≢◌, IfErr, slice_get}
use Rattle.std.specs.Str.{bytes_eq}
use Rattle.std.proofs.lemmas.Bool.{false≢true}
use Rattle.std.proofs.lemmas.List.{take_more}
use Rattle.std.proofs.lemmas.Slice.Eq.{bytes_eq-Decides}
use Rattle.std.proofs.lemmas.List.{append-nil}
use Rattle.std.proofs.lemmas.Option.{none-some, same_Some}
use Rattle.pec_types.specs.Bytes.{Bytes}
use Rattle.pec_journal.specs.JournalFile.{IsBroken, IsFile, front}
use Rattle.pec_records.specs.Entry.{entry_text}
use Rattle.pec_records.specs.declared.entries.Entry.{Entry}
use Rattle.pec_records.specs.declared.entries.Entry.TheVariants as entries
use Rattle.pec_directory.specs.Directory.{Kept}
use Rattle.pec_ledger.specs.Along.{AllAlong}
use Rattle.pec_ledger.specs.Half.{Half, empty}
use Rattle.pec_ledger.specs.Ledger.{Begins}
use Rattle.pec_ledger.specs.OfDirectory.{IsOf}
use Rattle.pec_ledger.specs.Own.{Own}
use Rattle.pec_ledger.specs.Steps.{half, step}
use Rattle.pec_ledger.specs.Trade.{Trade}
use Rattle.pec_chronicle.specs.Carrying.{with_entry}
use Rattle.pec_chronicle.specs.declared.faults.OpenFault.{OpenFault}
use Rattle.pec_chronicle.specs.declared.faults.OpenFault.TheVariants as opening
use Rattle.pec_chronicle.specs.Chronicle.{IsJournalOf}
use Rattle.pec_chronicle.specs.Opening.{StopsAtBad}
use Rattle.pec_shelf.specs.Prepared.{AreSteps, IsStep}
use Rattle.pec_shelf.specs.Seen.{Seen}
use Rattle.pec_stock.specs.declared.faults.ReopenFault.{ReopenFault}
use Rattle.pec_stock.specs.declared.faults.ReopenFault.TheVariants as faults
use Rattle.pec_stock.specs.Opening.{IsBad, IsElsewhere, IsOutside, IsUnfit, NotOwn, ReadsTo, StopsAt, as_reopened, digest_in, digest_kept}
use Rattle.pec_stock.specs.Stock.{Holds, IsOwn}
use Rattle.pec_stock.specs.Stocking.{AllSteps}
use Rattle.pec_stock.proofs.Agreeing.{steps_push}
use Rattle.pec_stock.proofs.PlaceLemmas.{end_is}

-- ---- a provider's own entries

along_at : (trade : Trade) (me : ℕ) (from : Half) (list : List Entry) (number : ℕ) (entry : Entry)
    → AllAlong (step trade me) (IsStep trade me) from list → slice_get list number ≡ Some entry
    → IsStep trade me (fold (step trade me) from (take number list)) entry
along_at trade me from [] number entry all is = absurd (none-some entry is)
along_at trade me from (e ∷ es) zero entry all is = subst (IsStep trade me from) (same_Some e entry is) all.0
along_at trade me from (e ∷ es) (suc number) entry all is = along_at trade me (step trade me from e) es number entry all.1 is

pub no_stop_in : (trade : Trade) (me : ℕ) (list : List Entry) (number : ℕ) → IsOwn trade me list → StopsAt trade me number list → ⊥
unfolding half
no_stop_in trade me list number own stops = stops.none (along_at trade me empty list number stops.entry own.steps stops.is)

not_bad : (trade : Trade) (me : ℕ) (list : List Entry) (number : ℕ) → IsOwn trade me list → IsBad trade me list number → ⊥
not_bad trade me list number own (inl none) = none.1 own.begins
not_bad trade me list number own (inr stops) = no_stop_in trade me list number own stops.1

-- the digest that a provider's own entries keep is that of the directory
digest_first : (trade : Trade) (me : ℕ) (first : Entry) (kept : Bytes) → Own trade me empty first → digest_in first ≡ Some kept → trade.digest ≡ kept
digest_first trade me (entries.Start number digest) kept own e = sym own.2 ∙ same_Some digest kept e
digest_first trade me (entries.StartTwo number digest) kept own e = sym own.2 ∙ same_Some digest kept e
digest_first trade me (entries.Accepted moment sender message) kept own e = absurd (none-some kept e)
digest_first trade me (entries.NotAccepted moment sender cause path message) kept own e = absurd (none-some kept e)
digest_first trade me (entries.Took moment id message) kept own e = absurd (none-some kept e)
digest_first trade me (entries.Decided moment id recipient decision) kept own e = absurd (none-some kept e)
digest_first trade me (entries.Charged moment id by) kept own e = absurd (none-some kept e)
digest_first trade me (entries.Learned moment id recipient decision decided message) kept own e = absurd (none-some kept e)
digest_first trade me (entries.Acked moment id recipient) kept own e = absurd (none-some kept e)
digest_first trade me (entries.Ticked moment) kept own e = absurd (none-some kept e)
digest_first trade me (entries.Anomaly moment accounts message) kept own e = absurd (none-some kept e)
digest_first trade me (entries.Upgraded moment) kept own e = absurd (none-some kept e)
digest_first trade me (entries.Archived moment account place) kept own e = absurd (none-some kept e)

digest_is : (trade : Trade) (me : ℕ) (list : List Entry) (kept : Bytes) → IsOwn trade me list → digest_kept list ≡ Some kept → trade.digest ≡ kept
digest_is trade me [] kept own e = absurd (none-some kept e)
digest_is trade me (first ∷ rest) kept own e = digest_first trade me first kept own.steps.0.own e

not_elsewhere : (trade : Trade) (me : ℕ) (list : List Entry) (kept given : Bytes) → IsOwn trade me list → IsElsewhere trade list kept given → ⊥
not_elsewhere trade me list kept given own is = is.differs (sym (digest_is trade me list kept own is.is) ∙ sym is.given_is)

pub own_is_taken : (trade : Trade) (me : ℕ) (list : List Entry) (fault : ReopenFault) → IsOwn trade me list → NotOwn trade me list fault → IsOutside fault
own_is_taken trade me list faults.DiskFault own none = tt
own_is_taken trade me list (faults.NotAJournal place) own none = absurd none
own_is_taken trade me list (faults.OtherDirectory kept given) own is = absurd (not_elsewhere trade me list kept given own is)
own_is_taken trade me list (faults.BadEntry number) own is = absurd (not_bad trade me list number own is)
own_is_taken trade me list faults.NoMemory own is = tt

-- ---- what stands in the bytes

-- a front of it is read
pub reads_front : (bytes : Bytes) (list : List Entry) (number : ℕ) (texts : List Bytes) → IsFile texts bytes → StopsAtBad number list texts
    → ReadsTo bytes list
reads_front bytes list number texts file stops = record {
  texts = texts;
  file = file;
  more = stops.bad ∷ stops.more;
  is = stops.is;
  written = stops.written;
  ends = stops.none;
}

pub unfit_by : (trade : Trade) (me : ℕ) (bytes : Bytes) (list : List Entry) (fault : ReopenFault) → ReadsTo bytes list → NotOwn trade me list fault
    → IsUnfit trade me bytes fault
unfit_by trade me bytes list faults.DiskFault reads none = tt
unfit_by trade me bytes list (faults.NotAJournal place) reads none = absurd none
unfit_by trade me bytes list (faults.OtherDirectory kept given) reads is = (list, reads, is)
unfit_by trade me bytes list (faults.BadEntry number) reads is = (list, inl (reads, is))
unfit_by trade me bytes list faults.NoMemory reads is = tt

HasOne : List Bytes → Type 0
HasOne [] = ⊥
HasOne (text ∷ texts) = Unit {0}

not_none : (text : Bytes) (texts : List Bytes) → text ∷ texts ≡ [] → ⊥
unfolding HasOne
not_none text texts e = subst HasOne e tt

pub unfit_cut_off : (trade : Trade) (me : ℕ) (bytes : Bytes) (list : List Entry) (number : ℕ) (texts : List Bytes) → IsFile texts bytes
    → StopsAtBad number list texts → IsOwn trade me list → IsUnfit trade me bytes (faults.BadEntry number)
unfolding reads_front
unfit_cut_off trade me bytes list number texts file stops own = (
  list,
  inr (record { reads = reads_front bytes list number texts file stops; own = own; count = stops.count; something = not_none stops.bad stops.more }),
)

-- ---- the first entry

-- entries that begin with none that keeps a digest begin with no Start
pub no_digest : (entry : Entry) → digest_in entry ≡ None → Begins (entry ∷ []) → ⊥
no_digest (entries.Start number digest) e begins = none-some digest (sym e)
no_digest (entries.StartTwo number digest) e begins = none-some digest (sym e)
no_digest (entries.Accepted moment sender message) e begins = begins
no_digest (entries.NotAccepted moment sender cause path message) e begins = begins
no_digest (entries.Took moment id message) e begins = begins
no_digest (entries.Decided moment id recipient decision) e begins = begins
no_digest (entries.Charged moment id by) e begins = begins
no_digest (entries.Learned moment id recipient decision decided message) e begins = begins
no_digest (entries.Acked moment id recipient) e begins = begins
no_digest (entries.Ticked moment) e begins = begins
no_digest (entries.Anomaly moment accounts message) e begins = begins
no_digest (entries.Upgraded moment) e begins = begins
no_digest (entries.Archived moment account place) e begins = begins

not_false : (b : Bool) → not b ≡ false → b ≡ true
not_false true e = refl
not_false false e = absurd (false≢true (sym e))

pub alike : (a b x y : Bytes) → x ≡ a → y ≡ b → not (bytes_eq x y) ≡ false → a ≡ b
alike a b x y first second like =
    sym first ∙ ((bytes_eq-Decides x y).0 (not_false (bytes_eq x y) like) ∙ second)

pub differ : (a b x y : Bytes) → x ≡ a → y ≡ b → not (bytes_eq x y) ≡ true → a ≡ b → ⊥
differ a b x y first second unlike e =
    let t : bytes_eq x y ≡ true = (bytes_eq-Decides x y).1 (first ∙ (e ∙ sym second)) in
    false≢true (sym (ap not t) ∙ unlike)

-- ---- entries that are taken in

-- the half behind entries ends where their journal does
pub end_agrees : (kept : List Kept) (shelf : Seen) (list : List Entry) (trade : Trade) → IsOf kept trade → Holds kept shelf list
    → shelf.half.end ≡ length (front (map entry_text list))
end_agrees kept shelf list trade of holds = ap (λ (h : Half). h.end) (holds.is_half trade of) ∙ end_is trade shelf.me list

-- ---- a stock that is opened again

pub outside_by : (fault : OpenFault) → ((n : ℕ) → (fault ≢ opening.NotAJournal n) × (fault ≢ opening.BadEntry n)) → IsOutside (as_reopened fault)
outside_by opening.DiskFault not = tt
outside_by (opening.NotAJournal place) not = absurd ((not place).0 refl)
outside_by (opening.BadEntry number) not = absurd ((not number).1 refl)
outside_by opening.NoMemory not = tt

-- what an opening of the disk answers is unfit
pub unfit_open : (trade : Trade) (me : ℕ) (bytes : Bytes) (fault : OpenFault) → ((place : ℕ) → fault ≡ opening.NotAJournal place → IsBroken bytes place)
    → ((n : ℕ) → fault ≢ opening.BadEntry n) → IsUnfit trade me bytes (as_reopened fault)
unfit_open trade me bytes opening.DiskFault broken none = tt
unfit_open trade me bytes (opening.NotAJournal place) broken none = broken place refl
unfit_open trade me bytes (opening.BadEntry number) broken none = absurd (none number refl)
unfit_open trade me bytes opening.NoMemory broken none = tt

Wants : ReopenFault → Type 0
Wants faults.NoMemory = Unit {0}
Wants _ = ⊥

-- a fault of the disk comes of one alone
pub only_disk : (fault : OpenFault) → as_reopened fault ≡ faults.DiskFault → fault ≡ opening.DiskFault
unfolding Wants
only_disk opening.DiskFault is = refl
only_disk (opening.NotAJournal place) is = absurd (subst IsOutside (sym is) tt)
only_disk (opening.BadEntry number) is = absurd (subst IsOutside (sym is) tt)
only_disk opening.NoMemory is = absurd (subst Wants is tt)
