-- How the entries of a journal are taken in one by one: why they stop, and that what was read can be told of all that can
-- be read.
use Rattle.std.proofs.Common.{◌≡◌, ℕ, zero, suc, ◌+◌, List, [], ◌∷◌, ◌++◌, ◌∙◌, length, map, fold, take, inl, inr, refl, sym, ap, subst, arith, append_assoc, Some, Result, Ok, Err}
use Rattle.std.specs.Prelude.{slice_get}
use Rattle.std.specs.List.{All}
use Rattle.std.proofs.Common.{length-append}
use Rattle.std.proofs.lemmas.List.{append-nil, length-map, map-append, nil_from_length}
use Rattle.std.proofs.lemmas.Option.{none-some}
use Rattle.pec_outside.specs.DiskModel.{Sight}
use Rattle.std.proofs.lemmas.List.Elements.{All-nil}
use Rattle.pec_types.specs.Answers.{TellsExactly}
use Rattle.pec_types.specs.Bytes.{Bytes}
use Rattle.pec_journal.specs.JournalFile.{IsFile, places_of}
use Rattle.pec_records.specs.Entry.{CanBeWritten, IsEntry, IsEntryFault, entry_text}
use Rattle.pec_records.specs.EntryReading.{entry_of}
use Rattle.pec_records.specs.declared.entries.Entry.{Entry}
use Rattle.pec_records.specs.declared.entries.Entry.TheVariants as entries
use Rattle.pec_records.specs.declared.faults.EntryFault.{EntryFault}
use Rattle.pec_ledger.specs.Half.{Half, empty}
use Rattle.pec_ledger.specs.Ledger.{Begins}
use Rattle.pec_ledger.specs.OfDirectory.{IsOf}
use Rattle.pec_ledger.specs.Steps.{half, step}
use Rattle.pec_ledger.specs.Trade.{Trade}
use Rattle.pec_chronicle.specs.Carrying.{with_entry}
use Rattle.pec_chronicle.specs.Opening.{OpeningState, Reads, StopsAtBad}
use Rattle.pec_chronicle.specs.declared.faults.OpenFault.{OpenFault}
use Rattle.pec_chronicle.specs.declared.faults.OpenFault.TheVariants as opening
use Rattle.pec_directory.specs.Directory.{Kept}
use Rattle.pec_shelf.specs.Prepared.{AreSteps, IsStep}
use Rattle.pec_shelf.specs.Seen.{Seen}
use Rattle.pec_stock.specs.Opening.{IsBad, IsElsewhere, IsHere, IsNoEntry, IsOutside, IsUnfit, NotOwn, ReadsTo, StopsAt, as_reopened, digest_in, digest_kept}
use Rattle.pec_stock.specs.Stock.{Holds, IsOwn}
use Rattle.pec_stock.specs.Stocking.{HasTaken}
use Rattle.pec_stock.proofs.Agreeing.{steps_push}
use Rattle.pec_stock.proofs.OpeningLemmas.{no_stop_in, own_is_taken, reads_front, unfit_by, unfit_cut_off}
use Rattle.pec_stock.proofs.PlaceLemmas.{as_many_places}
use Rattle.pec_stock.specs.declared.faults.ReopenFault.{ReopenFault}
use Rattle.pec_stock.specs.declared.faults.ReopenFault.TheVariants as faults

-- ---- all that can be read

-- bytes are told exactly
abbrev pub Tells : Type 0
Tells = (bytes : Bytes) → TellsExactly (λ e. IsEntry e bytes) (IsEntryFault bytes) (entry_of bytes)

-- The longest front of texts that are entries', and what stands behind it.
pub record Front (texts : List Bytes) : Type 0 where
  pub list : List Entry
  pub more : List Bytes
  pub is : texts ≡ map entry_text list ++ more
  pub written : All CanBeWritten list
  pub ends : IsNoEntry more

HasText : List Bytes → Type 0
HasText [] = ⊥
HasText (text ∷ texts) = Unit {0}

not_nothing : (text : Bytes) (texts : List Bytes) → text ∷ texts ≡ [] → ⊥
unfolding HasText
not_nothing text texts none = subst HasText none tt

no_both : {X E : Type 0} (x : X) (e : E) → ◌≡◌ {A = Result X E} (Err e) (Ok x) → ⊥
no_both x e same = cc

all_more : (P : Entry → Type 0) (x : Entry) (xs : List Entry) → P x → All P xs → All P (x ∷ xs)
all_more P x xs here rest zero d within = here
all_more P x xs here rest (suc k) d within = rest k d (omega (arith, within))

all_both : (P : Entry → Type 0) (xs ys : List Entry) → All P xs → All P ys → All P (xs ++ ys)
all_both P [] ys first second = second
all_both P (x ∷ xs) ys first second =
    all_more P x (xs ++ ys) (first zero x (omega arith)) (all_both P xs ys (λ k d within. first (suc k) d (omega (arith, within))) second)

front_by : (text : Bytes) (texts : List Bytes) (told : Result Entry EntryFault)
    → TellsExactly (λ e. IsEntry e text) (IsEntryFault text) told → Front texts
    → Front (text ∷ texts)
front_by text texts (Ok entry) tells rest =
    let is : IsEntry entry text = (tells.value entry).0 refl in
    record {
      list = entry ∷ rest.list;
      more = rest.more;
      is = ap (λ (t : Bytes). t ∷ texts) is.1 ∙ ap (λ (l : List Bytes). entry_text entry ∷ l) rest.is;
      written = all_more CanBeWritten entry rest.list is.0 rest.written;
      ends = rest.ends;
    }
front_by text texts (Err fault) tells rest = record {
  list = [];
  more = text ∷ texts;
  is = refl;
  written = All-nil CanBeWritten;
  ends = λ entry is. no_both entry fault ((tells.value entry).1 is);
}

pub front_of : Tells → (texts : List Bytes) → Front texts
front_of tells [] = record { list = []; more = []; is = refl; written = All-nil CanBeWritten; ends = tt }
front_of tells (text ∷ texts) = front_by text texts (entry_of text) (tells text) (front_of tells texts)

-- behind entries that were read
pub reads_on : (bytes : Bytes) (texts : List Bytes) (read : List Entry) (rest : List Bytes) → IsFile texts bytes
    → texts ≡ map entry_text read ++ rest → All CanBeWritten read → (front : Front rest)
    → ReadsTo bytes (read ++ front.list)
reads_on bytes texts read rest file is written front = record {
  texts = texts;
  file = file;
  more = front.more;
  is = is
      ∙ ap (λ (l : List Bytes). map entry_text read ++ l) front.is
      ∙ sym (append_assoc (map entry_text read) (map entry_text front.list) front.more)
      ∙ ap (λ (l : List Bytes). l ++ front.more) (sym (map-append entry_text read front.list));
  written = all_both CanBeWritten read front.list written front.written;
  ends = front.ends;
}

-- ---- an entry that is no step

take_front : (before more : List Entry) → take (length before) (before ++ more) ≡ before
take_front [] more = refl
take_front (x ∷ xs) more = ap (λ (l : List Entry). x ∷ l) (take_front xs more)

at_front : (before : List Entry) (e : Entry) (more : List Entry) → slice_get (before ++ e ∷ more) (length before) ≡ Some e
at_front [] e more = refl
at_front (x ∷ xs) e more = at_front xs e more

pub stops_here : (trade : Trade) (me : ℕ) (before : List Entry) (e : Entry) (more : List Entry) → AreSteps trade me before
    → (IsStep trade me (half trade me before) e → ⊥)
    → StopsAt trade me (length before) (before ++ e ∷ more)
stops_here trade me before e more steps none = record {
  before = subst (λ (l : List Entry). AreSteps trade me l) (sym (take_front before (e ∷ more))) steps;
  entry = e;
  is = at_front before e more;
  none = λ step. none (subst (λ (l : List Entry). IsStep trade me (half trade me l) e) (take_front before (e ∷ more)) step);
}

-- entries that begin with a Start begin with it whatever comes behind
kept_more : (list more : List Entry) (kept : Bytes) → digest_kept list ≡ Some kept → digest_kept (list ++ more) ≡ Some kept
kept_more [] more kept e = absurd (none-some kept e)
kept_more (first ∷ rest) more kept e = e

pub here_more : (trade : Trade) (list more : List Entry) → IsHere trade list → IsHere trade (list ++ more)
here_more trade list more here = kept_more list more trade.digest here

begins_in : (first : Entry) (rest : List Entry) (kept : Bytes) → digest_in first ≡ Some kept → Begins (first ∷ rest)
begins_in (entries.Start number digest) rest kept e = tt
begins_in (entries.StartTwo number digest) rest kept e = tt
begins_in (entries.Accepted moment sender message) rest kept e = none-some kept e
begins_in (entries.NotAccepted moment sender cause path message) rest kept e = none-some kept e
begins_in (entries.Took moment id message) rest kept e = none-some kept e
begins_in (entries.Decided moment id recipient decision) rest kept e = none-some kept e
begins_in (entries.Charged moment id by) rest kept e = none-some kept e
begins_in (entries.Learned moment id recipient decision decided message) rest kept e = none-some kept e
begins_in (entries.Acked moment id recipient) rest kept e = none-some kept e
begins_in (entries.Ticked moment) rest kept e = none-some kept e
begins_in (entries.Anomaly moment accounts message) rest kept e = none-some kept e
begins_in (entries.Upgraded moment) rest kept e = none-some kept e
begins_in (entries.Archived moment account place) rest kept e = none-some kept e

-- they begin with a Start where they keep a digest
begins_kept : (list : List Entry) (kept : Bytes) → digest_kept list ≡ Some kept → Begins list
begins_kept [] kept e = none-some kept e
begins_kept (first ∷ rest) kept e = begins_in first rest kept e

elsewhere_more : (trade : Trade) (list more : List Entry) (kept given : Bytes) → IsElsewhere trade list kept given
    → IsElsewhere trade (list ++ more) kept given
elsewhere_more trade list more kept given is = record {
  is = kept_more list more kept is.is;
  given_is = is.given_is;
  differs = is.differs;
}

first_stop : (trade : Trade) (me : ℕ) (e : Entry) (more : List Entry) (number : ℕ) → StopsAt trade me number (e ∷ [])
    → StopsAt trade me number (e ∷ more)
first_stop trade me e more zero stops = record { before = stops.before; entry = stops.entry; is = stops.is; none = stops.none }
first_stop trade me e more (suc n) stops = absurd (none-some stops.entry stops.is)

begins_less : (e : Entry) (more : List Entry) → Begins (e ∷ more) → Begins (e ∷ [])
begins_less (entries.Start number digest) more begins = tt
begins_less (entries.Accepted moment sender message) more none = absurd none
begins_less (entries.NotAccepted moment sender cause path message) more none = absurd none
begins_less (entries.Took moment id message) more none = absurd none
begins_less (entries.Decided moment id recipient decision) more none = absurd none
begins_less (entries.Charged moment id by) more none = absurd none
begins_less (entries.Learned moment id recipient decision decided message) more none = absurd none
begins_less (entries.Acked moment id recipient) more none = absurd none
begins_less (entries.Ticked moment) more none = absurd none
begins_less (entries.Anomaly moment accounts message) more none = absurd none
begins_less (entries.StartTwo number digest) more begins = tt
begins_less (entries.Upgraded moment) more none = absurd none
begins_less (entries.Archived moment account place) more none = absurd none

-- what is wrong with the first entry is wrong whatever comes behind
bad_more : (trade : Trade) (me : ℕ) (e : Entry) (more : List Entry) (number : ℕ) → IsBad trade me (e ∷ []) number → IsBad trade me (e ∷ more) number
bad_more trade me e more number (inl none) = inl (none.0, λ begins. none.1 (begins_less e more begins))
bad_more trade me e more number (inr stops) = inr (here_more trade (e ∷ []) more stops.0, first_stop trade me e more number stops.1)

not_own_more : (trade : Trade) (me : ℕ) (e : Entry) (more : List Entry) (fault : ReopenFault) → NotOwn trade me (e ∷ []) fault
    → NotOwn trade me (e ∷ more) fault
not_own_more trade me e more faults.DiskFault none = absurd none
not_own_more trade me e more (faults.NotAJournal place) none = absurd none
not_own_more trade me e more (faults.OtherDirectory kept given) is = elsewhere_more trade (e ∷ []) more kept given is
not_own_more trade me e more (faults.BadEntry number) is = bad_more trade me e more number is
not_own_more trade me e more faults.NoMemory is = tt

-- ---- what was taken in

count_from : (trade : Trade) (me : ℕ) (from : Half) (list : List Entry) → (fold (step trade me) from list).entries ≡ from.entries + length list
unfolding step
count_from trade me from [] = omega arith
count_from trade me from (e ∷ es) =
    let rest : (fold (step trade me) (step trade me from e) es).entries ≡ (from.entries + 1) + length es = count_from trade me (step trade me from e) es in
    omega (arith, rest)

-- the half counts the entries
pub as_many_held : (kept : List Kept) (shelf : Seen) (list : List Entry) (trade : Trade) → IsOf kept trade → Holds kept shelf list
    → shelf.half.entries ≡ length list
unfolding half
as_many_held kept shelf list trade of holds =
    let held : shelf.half.entries ≡ (fold (step trade shelf.me) empty list).entries = ap (λ (h : Half). h.entries) (holds.is_half trade of) in
    let counts : (fold (step trade shelf.me) empty list).entries ≡ 0 + length list = count_from trade shelf.me empty list in
    omega (arith, held, counts)

-- before the first
pub taken_none : (kept : List Kept) (shelf : Seen) → Holds kept shelf [] → HasTaken kept shelf.me shelf []
taken_none kept shelf holds = record { holds = holds; whose = refl; steps = λ trade of. tt }

module _ (kept : List Kept) (me : ℕ) (before : Seen) (read : List Entry) (was : HasTaken kept me before read) where
  -- one entry more
  pub taken_more : (after : Seen) (e : Entry) → Holds kept after (with_entry read e) → after.me ≡ before.me
      → ((trade : Trade) → IsOf kept trade → IsStep trade before.me before.half e) → HasTaken kept me after (with_entry read e)
  taken_more after e holds same step = record {
    holds = holds;
    whose = same ∙ was.whose;
    steps = λ trade of. steps_push trade me read e (was.steps trade of)
        (subst (λ (h : Half). IsStep trade me h e) (was.holds.is_half trade of ∙ ap (λ (n : ℕ). half trade n read) was.whose)
        (subst (λ (n : ℕ). IsStep trade n before.half e) was.whose (step trade of)));
  }

  pub step_back : (trade : Trade) → IsOf kept trade → (e : Entry) → IsStep trade me (half trade me read) e → IsStep trade before.me before.half e
  step_back trade of e step = rw (was.holds.is_half trade of, was.whose) step

  -- behind the Start of this directory they are the provider's own
  pub own_read : (trade : Trade) → IsOf kept trade → IsHere trade read → IsOwn trade me read
  own_read trade of here = record { begins = begins_kept read trade.digest here; steps = was.steps trade of }

-- ---- why it is refused

module _ (trade : Trade) (me : ℕ) (bytes : Bytes) (texts : List Bytes) (file : IsFile texts bytes) where
  -- by what an opening answers behind the provider's own entries
  pub unfit_next : (fault : OpenFault) (read : List Entry) → ((place : ℕ) → fault ≡ opening.NotAJournal place → ⊥)
      → ((number : ℕ) → fault ≡ opening.BadEntry number → StopsAtBad number read texts) → IsOwn trade me read
      → IsUnfit trade me bytes (as_reopened fault)
  unfit_next opening.DiskFault read none bad own = tt
  unfit_next (opening.NotAJournal place) read none bad own = absurd (none place refl)
  unfit_next (opening.BadEntry number) read none bad own = unfit_cut_off trade me bytes read number texts file (bad number refl) own
  unfit_next opening.NoMemory read none bad own = tt

  -- and before any
  pub unfit_first : (fault : OpenFault) → ((place : ℕ) → fault ≡ opening.NotAJournal place → ⊥)
      → ((number : ℕ) → fault ≡ opening.BadEntry number → StopsAtBad number [] texts) → IsUnfit trade me bytes (as_reopened fault)
  unfit_first opening.DiskFault none bad = tt
  unfit_first (opening.NotAJournal place) none bad = absurd (none place refl)
  unfit_first (opening.BadEntry number) none bad =
      let stops = bad number refl in ([], inl (reads_front bytes [] number texts file stops, inl (stops.count, λ begins. begins)))
  unfit_first opening.NoMemory none bad = tt

  -- no entry stands there
  pub unfit_empty : texts ≡ [] → IsUnfit trade me bytes (faults.BadEntry 0)
  unfit_empty none = (
    [],
    inl (record { texts = texts; file = file; more = []; is = none; written = All-nil CanBeWritten; ends = tt }, inl (refl, λ begins. begins)),
  )

  -- by an entry that is no step
  pub unfit_step : Tells → (before : List Entry) (e : Entry) (rest : List Bytes) → texts ≡ map entry_text (with_entry before e) ++ rest
      → All CanBeWritten (with_entry before e) → IsHere trade before → AreSteps trade me before
      → (IsStep trade me (half trade me before) e → ⊥) → (number : ℕ) → number ≡ length before
      → IsUnfit trade me bytes (faults.BadEntry number)
  unfit_step tells before e rest is written here steps none number count =
      let front = front_of tells rest in
      let list = before ++ e ∷ front.list in
      let reads : ReadsTo bytes ((before ++ e ∷ []) ++ front.list) = reads_on bytes texts (before ++ e ∷ []) rest file is written front in (
        list,
        inl (
          subst (ReadsTo bytes) (append_assoc before (e ∷ []) front.list) reads,
          inr (
            here_more trade before (e ∷ front.list) here,
            subst (λ (n : ℕ). StopsAt trade me n list) (sym count) (stops_here trade me before e front.list steps none),
          ),
        ),
      )

  -- by the first entry
  pub unfit_start : Tells → (e : Entry) (rest : List Bytes) → texts ≡ map entry_text (e ∷ []) ++ rest → All CanBeWritten (e ∷ [])
      → (fault : ReopenFault) → NotOwn trade me (e ∷ []) fault → IsUnfit trade me bytes fault
  unfit_start tells e rest is written fault not =
      let front = front_of tells rest in
      unfit_by trade me bytes (e ∷ front.list) fault (reads_on bytes texts (e ∷ []) rest file is written front) (not_own_more trade me e front.list fault not)

-- a provider's own entries go on by steps
pub own_goes_on : (trade : Trade) (me : ℕ) (list before rest : List Entry) (e : Entry) → IsOwn trade me list → list ≡ with_entry before e ++ rest
    → AreSteps trade me before → (IsStep trade me (half trade me before) e → ⊥) → ⊥
own_goes_on trade me list before rest e own is steps none =
    no_stop_in trade me (before ++ e ∷ rest) (length before)
    (subst (λ (l : List Entry). IsOwn trade me l) (is ∙ append_assoc before (e ∷ []) rest) own) (stops_here trade me before e rest steps none)

pub own_starts : (trade : Trade) (me : ℕ) (list rest : List Entry) (e : Entry) → IsOwn trade me list → list ≡ (e ∷ []) ++ rest
    → (fault : ReopenFault) → NotOwn trade me (e ∷ []) fault → IsOutside fault
own_starts trade me list rest e own is fault not =
    own_is_taken trade me (e ∷ rest) fault (subst (λ (l : List Entry). IsOwn trade me l) is own) (not_own_more trade me e rest fault not)

-- and begin with one
pub own_empty : (trade : Trade) (me : ℕ) (list : List Entry) → IsOwn trade me list → map entry_text list ≡ [] → ⊥
own_empty trade me [] own none = own.begins
own_empty trade me (e ∷ es) own none = absurd (not_nothing (entry_text e) (map entry_text es) none)

-- ---- all was read

pub no_text : (texts : List Bytes) → length (places_of texts) ≡ 0 → texts ≡ []
no_text texts none = nil_from_length texts (sym (as_many_places texts) ∙ none)

-- the texts are those of the entries that were read
pub all_read : {D : Type 0} (sight : D → Sight) (state : OpeningState D) (texts : List Bytes) → Reads sight state texts
    → length state.read ≡ length state.places → texts ≡ map entry_text state.read
all_read sight state texts reads all =
    let rest : length reads.rest ≡ 0 =
    omega (arith, ap length reads.is, length-append (map entry_text state.read) reads.rest, length-map state.read entry_text, all, ap length reads.places, as_many_places texts) in
    reads.is ∙ ap (λ (l : List Bytes). map entry_text state.read ++ l) (nil_from_length reads.rest rest) ∙ append-nil (map entry_text state.read)
