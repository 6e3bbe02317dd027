-- What a turn's calls do, by what they have to do.
use Rattle.std.proofs.Common.{◌≡◌, ℕ, ◌<◌, ◌≤◌, Bool, false, not, List, [], ◌∷◌, ◌++◌, inl, inr, refl, sym, ap, subst, ◌∙◌, arith}
use Rattle.std.proofs.Common.{Option, Some, None, Result, Ok, Err}
use Rattle.std.specs.Prelude.{IfSome, IsErrAnd, Contains}
use Rattle.std.specs.Option.{option_to_list}
use Rattle.std.proofs.lemmas.List.{append-nil}
use Rattle.std.proofs.lemmas.Option.{same_Some}
use Rattle.std.proofs.lemmas.Result.{err_from_is_err_and}
use Rattle.pec_types.specs.declared.letters.Letter.{Letter}
use Rattle.pec_types.specs.declared.moments.TheConstants.{END_OF_TIME}
use Rattle.pec_types.specs.declared.turns.Event.{Event}
use Rattle.pec_types.specs.declared.turns.ProviderFault.{ProviderFault}
use Rattle.pec_types.specs.declared.turns.ProviderFault.TheVariants as faults
use Rattle.pec_directory.specs.Directory.{Kept}
use Rattle.pec_records.specs.declared.entries.Entry.{Entry}
use Rattle.pec_records.specs.declared.entries.Entry.TheVariants as entries
use Rattle.pec_ledger.specs.Ledger.{Joint, Journals, Meets}
use Rattle.pec_ledger.specs.OfDirectory.{IsOf}
use Rattle.pec_ledger.specs.Own.{Own}
use Rattle.pec_ledger.specs.Pairs.{Pair}
use Rattle.pec_ledger.specs.Steps.{half, moment_of}
use Rattle.pec_ledger.specs.Trade.{Trade}
use Rattle.pec_screen.specs.Verdicts.{Patterns}
use Rattle.pec_plays.specs.Decisions.{decide, decision_on, found_in_taken, undecided}
use Rattle.pec_plays.specs.Steps.{Step}
use Rattle.pec_reception.specs.Shows.{Shows, decide_as}
use Rattle.pec_reception.specs.declared.received.Received.{Received}
use Rattle.pec_provider.specs.Appending.{Appends, MayEnter, WorksAt}
use Rattle.pec_provider.specs.Deciding.{IsReady, IsUnready, ShowsNext}
use Rattle.pec_provider.specs.Doing.{AppendsAny, is_full_for}
use Rattle.pec_provider.specs.Provider.{Desk, ProviderState, desk_of}
use Rattle.pec_provider.specs.Reading.{Reads}
use Rattle.pec_provider.specs.Working.{DecidesFirst, Does, IsAtWork, IsFound, IsUndecided, Works, behind}

-- ---- one step

-- a desk that owes an answer more, if there is one
abbrev pub owing : Desk → Option Letter → Desk
owing desk letter =
    record {
      journal = desk.journal;
      owed = desk.owed ++ option_to_list letter;
      up = desk.up;
      interrupted =
          desk.interrupted;
    }

module _ (trade : Trade) (me : ℕ) (step : Step) (old mid : Desk) (entry : Option Entry) (same : entry ≡ step.entry)
    (full : step.full ≡ is_full_for trade me old.journal step.entry) where
  full_by : (b : Bool) → is_full_for trade me old.journal entry ≡ b → step.full ≡ b
  full_by b is = full ∙ ap (λ (o : Option Entry). is_full_for trade me old.journal o) (sym same) ∙ is

  -- the desk behind the step, with this entry and these answers
  behind_with : (letter : Option Letter) → option_to_list letter ≡ step.owed
      → ◌≡◌ {A = Desk} (record {
        journal = old.journal ++ option_to_list entry;
        owed = old.owed ++ option_to_list letter;
        up = old.up;
        interrupted = old.interrupted;
      }) (behind old step)
  behind_with letter owes = rw (same, owes) refl

-- the entry was appended, if there was one, and the answer is owed
pub does_ok : (trade : Trade) (me : ℕ) (step : Step) (old mid : Desk) (entry : Option Entry) (event : Event)
    (letter : Option Letter)
    → entry ≡ step.entry → event ≡ step.event → option_to_list letter ≡ step.owed
    → step.full ≡ is_full_for trade me old.journal step.entry → AppendsAny {X = Unit {0}} trade me entry old mid (Ok tt)
    → Does step old (owing mid letter) (Ok event)
does_ok trade me step old mid None event letter same told owes full appends = (
  told,
  full_by trade me step old mid None same full false refl,
  ap (λ (d : Desk). owing d letter) appends
      ∙ (ap (λ (l : List Entry). record {
        journal = l;
        owed = old.owed ++ option_to_list letter;
        up = old.up;
        interrupted = old.interrupted;
      })
      (sym (append-nil old.journal))
      ∙ behind_with trade me step old mid None same full letter owes),
)
does_ok trade me step old mid (Some entry) event letter same told owes full appends = (
  told,
  full_by trade me step old mid (Some entry) same full false appends.0,
  ap (λ (d : Desk). owing d letter) appends.1 ∙ behind_with trade me step old mid (Some entry) same full letter owes,
)

-- the append ended with a fault
pub does_err : (trade : Trade) (me : ℕ) (step : Step) (old mid : Desk) (entry : Option Entry) (fault : ProviderFault)
    → entry ≡ step.entry → step.full ≡ is_full_for trade me old.journal step.entry
    → AppendsAny {X = Unit {0}} trade me entry old mid (Err fault) → Does step old mid (Err fault)
does_err trade me step old mid None fault same full appends = absurd appends
does_err trade me step old mid (Some entry) faults.DiskFault same full appends =
    (entry, sym same, full_by trade me step old mid (Some entry) same full false appends.0, appends.1)
does_err trade me step old mid (Some entry) faults.JournalFull same full appends =
    (full_by trade me step old mid (Some entry) same full _ appends.0, appends.1)
does_err trade me step old mid (Some entry) faults.NoMemory same full appends = appends
does_err trade me step old mid (Some entry) faults.Down same full appends = absurd appends
does_err trade me step old mid (Some entry) (faults.ClockBack moment) same full appends = absurd appends
does_err trade me step old mid (Some entry) faults.NoAccount same full appends = absurd appends
does_err trade me step old mid (Some entry) faults.Full same full appends = absurd appends
does_err trade me step old mid (Some entry) faults.OldJournal same full appends = absurd appends
does_err trade me step old mid (Some entry) faults.NoNeed same full appends = absurd appends
does_err trade me step old mid (Some entry) faults.NoItem same full appends = absurd appends
does_err trade me step old mid (Some entry) (faults.Changed which) same full appends = absurd appends

pub does_handed : (step : Step) (old new : Desk) (fault : ProviderFault) (result : Result Event ProviderFault)
    → IsErrAnd result (λ f. f ≡ fault) → Does step old new (Err fault) → Does step old new result
does_handed step old new fault result is does =
    let p = err_from_is_err_and result is in
    subst (λ (r : Result Event ProviderFault). Does step old new r) (sym p.1)
    (subst (λ (f : ProviderFault). Does step old new (Err f)) (sym p.2) does)

-- ---- calls

module _ (trade : Trade) (me now : ℕ) (old new : Desk) where
  -- a step that is done at work
  pub works_step : (step : Step) (answer : Result Event ProviderFault) → IsAtWork trade me now old
      → Does step old new answer
      → Works trade me now (Does step old new) old new answer
  works_step step (Ok event) works does = (works, does)
  works_step step (Err faults.DiskFault) works does = (works, does)
  works_step step (Err faults.JournalFull) works does = (works, does)
  works_step step (Err faults.NoMemory) works does = (works, does)
  works_step step (Err faults.Down) works does = absurd does
  works_step step (Err (faults.ClockBack moment)) works does = absurd does
  works_step step (Err faults.NoAccount) works does = absurd does
  works_step step (Err faults.Full) works does = absurd does
  works_step step (Err faults.OldJournal) works does = absurd does
  works_step step (Err faults.NoNeed) works does = absurd does
  works_step step (Err faults.NoItem) works does = absurd does
  works_step step (Err (faults.Changed which)) works does = absurd does

  module _ (found : Bool) where
    pub works_first : (pairs : List Pair) (answer : Result (Option Event) ProviderFault) → IsAtWork trade me now old
        → DecidesFirst trade me now found pairs old new answer
        → Works trade me now (DecidesFirst trade me now found pairs old new) old new answer
    works_first [] (Ok None) works does = (works, does)
    works_first [] (Ok (Some event)) works does = absurd does
    works_first [] (Err faults.DiskFault) works does = absurd does
    works_first [] (Err faults.JournalFull) works does = absurd does
    works_first [] (Err faults.NoMemory) works does = (works, does)
    works_first [] (Err faults.Down) works does = absurd does
    works_first [] (Err (faults.ClockBack moment)) works does = absurd does
    works_first [] (Err faults.NoAccount) works does = absurd does
    works_first [] (Err faults.Full) works does = absurd does
    works_first [] (Err faults.OldJournal) works does = absurd does
    works_first [] (Err faults.NoNeed) works does = absurd does
    works_first [] (Err faults.NoItem) works does = absurd does
    works_first [] (Err (faults.Changed which)) works does = absurd does
    works_first (pair ∷ pairs) (Ok None) works does = absurd does
    works_first (pair ∷ pairs) (Ok (Some event)) works does = (works, does)
    works_first (pair ∷ pairs) (Err faults.DiskFault) works does = (works, does)
    works_first (pair ∷ pairs) (Err faults.JournalFull) works does = (works, does)
    works_first (pair ∷ pairs) (Err faults.NoMemory) works does = (works, does)
    works_first (pair ∷ pairs) (Err faults.Down) works does = absurd does
    works_first (pair ∷ pairs) (Err (faults.ClockBack moment)) works does = absurd does
    works_first (pair ∷ pairs) (Err faults.NoAccount) works does = absurd does
    works_first (pair ∷ pairs) (Err faults.Full) works does = absurd does
    works_first (pair ∷ pairs) (Err faults.OldJournal) works does = absurd does
    works_first (pair ∷ pairs) (Err faults.NoNeed) works does = absurd does
    works_first (pair ∷ pairs) (Err faults.NoItem) works does = absurd does
    works_first (pair ∷ pairs) (Err (faults.Changed which)) works does = (works, does)

    -- a step that ended with a fault, whose envelope had been read
    undecided_by : (pair : Pair) (step : Step) (fault : ProviderFault) → Does step old new (Err fault)
        → IsUndecided trade me pair step old new fault
    undecided_by pair step faults.DiskFault does = inr does
    undecided_by pair step faults.JournalFull does = does
    undecided_by pair step faults.NoMemory does = does
    undecided_by pair step faults.Down does = absurd does
    undecided_by pair step (faults.ClockBack moment) does = absurd does
    undecided_by pair step faults.NoAccount does = absurd does
    undecided_by pair step faults.Full does = absurd does
    undecided_by pair step faults.OldJournal does = absurd does
    undecided_by pair step faults.NoNeed does = absurd does
    undecided_by pair step faults.NoItem does = absurd does
    undecided_by pair step (faults.Changed which) does = absurd does

    -- the first pair's step ended with a fault
    pub first_handed : (pairs : List Pair) (pair : Pair) (rest : List Pair) → pairs ≡ pair ∷ rest
        → (fault : ProviderFault)
        (result : Result (Option Event) ProviderFault) → IsErrAnd result (λ f. f ≡ fault)
        → Does (decide_as trade me now found old.journal pair) old new (Err fault)
        → DecidesFirst trade me now found pairs old new result
    first_handed pairs pair rest first fault result is does =
        let p = err_from_is_err_and result is in
        subst (λ (l : List Pair). DecidesFirst trade me now found l old new result) (sym first)
        (subst (λ (r : Result (Option Event) ProviderFault). DecidesFirst trade me now found (pair ∷ rest) old new r)
        (sym p.1)
        (subst (λ (f : ProviderFault). DecidesFirst trade me now found (pair ∷ rest) old new (Err f)) (sym p.2)
        (undecided_by pair (decide_as trade me now found old.journal pair) fault does)))

    -- it isn't known what is to be done with the first pair
    unready_first : (pairs : List Pair) (fault : ProviderFault) → IsUnready trade me pairs fault
        → Reads {X = Option Received} old new (Err fault) → DecidesFirst trade me now found pairs old new (Err fault)
    unready_first [] faults.DiskFault unready left = absurd unready
    unready_first [] faults.JournalFull unready left = absurd unready
    unready_first [] faults.NoMemory unready left = left
    unready_first [] faults.Down unready left = absurd unready
    unready_first [] (faults.ClockBack moment) unready left = absurd unready
    unready_first [] faults.NoAccount unready left = absurd unready
    unready_first [] faults.Full unready left = absurd unready
    unready_first [] faults.OldJournal unready left = absurd unready
    unready_first [] faults.NoNeed unready left = absurd unready
    unready_first [] faults.NoItem unready left = absurd unready
    unready_first [] (faults.Changed which) unready left = absurd unready
    unready_first (pair ∷ pairs) faults.DiskFault unready left = inl (record { account = unready; stops = left })
    unready_first (pair ∷ pairs) faults.JournalFull unready left = absurd unready
    unready_first (pair ∷ pairs) faults.NoMemory unready left = left
    unready_first (pair ∷ pairs) faults.Down unready left = absurd unready
    unready_first (pair ∷ pairs) (faults.ClockBack moment) unready left = absurd unready
    unready_first (pair ∷ pairs) faults.NoAccount unready left = absurd unready
    unready_first (pair ∷ pairs) faults.Full unready left = absurd unready
    unready_first (pair ∷ pairs) faults.OldJournal unready left = absurd unready
    unready_first (pair ∷ pairs) faults.NoNeed unready left = absurd unready
    unready_first (pair ∷ pairs) faults.NoItem unready left = absurd unready
    unready_first (pair ∷ pairs) (faults.Changed which) unready left = record { account = unready; stops = left }

    pub unready_handed : (pairs : List Pair) (fault : ProviderFault) (result : Result (Option Event) ProviderFault)
        → IsErrAnd result (λ f. f ≡ fault) → IsUnready trade me pairs fault
        → Reads {X = Option Received} old new (Err fault) → DecidesFirst trade me now found pairs old new result
    unready_handed pairs fault result is unready left =
        let p = err_from_is_err_and result is in
        subst (λ (r : Result (Option Event) ProviderFault). DecidesFirst trade me now found pairs old new r) (sym p.1)
        (subst (λ (f : ProviderFault). DecidesFirst trade me now found pairs old new (Err f)) (sym p.2)
        (unready_first pairs fault unready left))

-- a provider that isn't at work does nothing
idles : (X Y : Type 0) (trade : Trade) (me now : ℕ) (Done : Result X ProviderFault → Type 0) (old : Desk)
    (fault : ProviderFault)
    → WorksAt {X = Y} trade me now old (Err fault) → Works trade me now Done old old (Err fault)
idles X Y trade me now Done old faults.Down works = (works, refl)
idles X Y trade me now Done old (faults.ClockBack moment) works = (works.0, works.1, works.2, refl)
idles X Y trade me now Done old faults.DiskFault works = absurd works
idles X Y trade me now Done old faults.NoMemory works = absurd works
idles X Y trade me now Done old faults.NoAccount works = absurd works
idles X Y trade me now Done old faults.Full works = absurd works
idles X Y trade me now Done old faults.OldJournal works = absurd works
idles X Y trade me now Done old faults.NoNeed works = absurd works
idles X Y trade me now Done old faults.NoItem works = absurd works
idles X Y trade me now Done old (faults.Changed which) works = absurd works
idles X Y trade me now Done old faults.JournalFull works = absurd works

pub idles_handed : (X Y : Type 0) (trade : Trade) (me now : ℕ) (Done : Result X ProviderFault → Type 0) (old : Desk)
    (fault : ProviderFault) (result : Result X ProviderFault) → IsErrAnd result (λ f. f ≡ fault)
    → WorksAt {X = Y} trade me now old (Err fault) → Works trade me now Done old old result
idles_handed X Y trade me now Done old fault result is works =
    let p = err_from_is_err_and result is in
    subst (λ (r : Result X ProviderFault). Works trade me now Done old old r) (sym p.1)
    (subst (λ (f : ProviderFault). Works trade me now Done old old (Err f)) (sym p.2)
    (idles X Y trade me now Done old fault works))

-- ---- what is appended

-- what a step appends is a step of the entries
pub step_may : (kept : List Kept) (me now : ℕ) (trade : Trade) (journal : List Entry) (step : Step)
    (entry : Option Entry)
    → IsOf kept trade → entry ≡ step.entry → (half trade me journal).last ≤ now
    → ((e : Entry) → step.entry ≡ Some e → Own trade me (half trade me journal) e × (moment_of e ≡ now))
    → IfSome entry (MayEnter kept me journal)
step_may kept me now trade journal step None of same late own = tt
step_may kept me now trade journal step (Some e) of same late own =
    let is = own e (sym same) in
    record {
      trade = trade;
      of = of;
      step = record { own = is.0; in_time = subst (λ (n : ℕ). (half trade me journal).last ≤ n) (sym is.1) late };
    }

-- a decision may follow in the ledger of any journals
pub decision_follows : (trade : Trade) (journals : Journals) (me now : ℕ) (found : Bool) (journal : List Entry)
    (pair : Pair) (entry : Entry)
    → (half trade me journal).last ≤ now → now < END_OF_TIME
    → Own trade me (half trade me journal) entry × (moment_of entry ≡ now)
    → (decide_as trade me now found journal pair).entry ≡ Some entry
    → Meets trade journals me (half trade me journal) entry
unfolding decide
decision_follows trade journals me now found journal pair entry late below own is = record {
  own = own.0;
  in_time = subst (λ (n : ℕ). (half trade me journal).last ≤ n) (sym own.1) late;
  in_range = subst (λ (n : ℕ). n < END_OF_TIME) (sym own.1) below;
  joint = subst (λ (e : Entry). Joint trade journals me e)
      (same_Some (entries.Decided now pair.id pair.recipient
      (decision_on trade me (half trade me journal) pair.recipient found)) entry is) tt;
}

-- the first of pairs is one of them
pub first_there : (pairs : List Pair) (pair : Pair) (rest : List Pair) → pairs ≡ pair ∷ rest → Contains pairs pair
first_there pairs pair rest first = subst (λ (l : List Pair). Contains l pair) (sym first) (0, omega arith, refl)

-- ---- by what stands in the provider

-- memory for answers was made
pub room_desk : {D : Type 0} (inside old : ProviderState D) (owed : List Letter) → inside ≡ old → owed ≡ inside.owed
    → ◌≡◌ {A = Desk} (record {
      journal = inside.chronicle.entries;
      owed = owed;
      up = not inside.chronicle.down;
      interrupted = inside.chronicle.interrupted;
    }) (desk_of old)
room_desk {D} inside old owed view same =
    ap (λ (l : List Letter). record {
      journal = inside.chronicle.entries;
      owed = l;
      up = not inside.chronicle.down;
      interrupted = inside.chronicle.interrupted;
    }) same
    ∙ ap (λ (p : ProviderState D). desk_of p) view

appends_as : (X Y : Type 0) (trade : Trade) (me : ℕ) (entry : Entry) (old new : Desk) (fault : ProviderFault)
    → Appends {X = X} trade me entry old new (Err fault) → Appends {X = Y} trade me entry old new (Err fault)
appends_as X Y trade me entry old new faults.DiskFault appends = appends
appends_as X Y trade me entry old new faults.JournalFull appends = appends
appends_as X Y trade me entry old new faults.NoMemory appends = appends
appends_as X Y trade me entry old new faults.Down appends = appends
appends_as X Y trade me entry old new (faults.ClockBack moment) appends = appends
appends_as X Y trade me entry old new faults.NoAccount appends = appends
appends_as X Y trade me entry old new faults.Full appends = appends
appends_as X Y trade me entry old new faults.OldJournal appends = appends
appends_as X Y trade me entry old new faults.NoNeed appends = appends
appends_as X Y trade me entry old new faults.NoItem appends = appends
appends_as X Y trade me entry old new (faults.Changed which) appends = appends

pub any_handed : (X Y : Type 0) (trade : Trade) (me : ℕ) (some : Option Entry) (entry : Entry) (old new : Desk)
    (fault : ProviderFault)
    (result : Result Y ProviderFault) → some ≡ Some entry → IsErrAnd result (λ f. f ≡ fault)
    → Appends {X = X} trade me entry old new (Err fault) → AppendsAny trade me some old new result
any_handed X Y trade me some entry old new fault result same is appends =
    let p = err_from_is_err_and result is in
    subst (λ (o : Option Entry). AppendsAny trade me o old new result) (sym same)
    (subst (λ (r : Result Y ProviderFault). Appends trade me entry old new r) (sym p.1)
    (subst (λ (f : ProviderFault). Appends {X = Y} trade me entry old new (Err f)) (sym p.2)
    (appends_as X Y trade me entry old new fault appends)))

-- ---- the next pair

-- this is to be done with the first undecided pair
pub record IsFirst (trade : Trade) (me now : ℕ) (found : Bool) (journal : List Entry)
    (received : Received) : Type 0 where
  pub pair : Pair
  pub pairs : List Pair
  pub first : undecided trade me journal ≡ pair ∷ pairs
  pub shows : Shows received (decide_as trade me now found journal pair)

-- nothing is undecided
none_of : (trade : Trade) (me now : ℕ) (found : Bool) (journal : List Entry) (pairs : List Pair)
    → ShowsNext trade me now found journal pairs None → pairs ≡ []
none_of trade me now found journal [] shows = refl
none_of trade me now found journal (pair ∷ pairs) shows = absurd shows

some_of : (trade : Trade) (me now : ℕ) (found : Bool) (journal : List Entry) (pairs : List Pair) (received : Received)
    → ShowsNext trade me now found journal pairs (Some received)
    → (pair : Pair) × (rest : List Pair) × (pairs ≡ pair ∷ rest)
    × Shows received (decide_as trade me now found journal pair)
some_of trade me now found journal [] received shows = absurd shows
some_of trade me now found journal (pair ∷ pairs) received shows = (pair, pairs, refl, shows)

module _ (Stood : Type 0) (trade : Trade) (me now : ℕ) (screens : List Patterns) (journal : List Entry) where
  pub none_next : (next : Option Received) (ready : IsReady Stood trade me now screens journal next) → next ≡ None
      → undecided trade me journal ≡ []
  none_next next ready none = none_of trade me now ready.found journal (undecided trade me journal)
      (subst (λ (o : Option Received). ShowsNext trade me now ready.found journal (undecided trade me journal) o) none
      ready.shows)

  pub some_next : (next : Option Received) (received : Received)
      (ready : IsReady Stood trade me now screens journal next)
      → next ≡ Some received → IsFirst trade me now ready.found journal received
  some_next next received ready some =
      let s = some_of trade me now ready.found journal (undecided trade me journal) received
      (subst (λ (o : Option Received). ShowsNext trade me now ready.found journal (undecided trade me journal) o) some
      ready.shows) in
      record { pair = s.0; pairs = s.1; first = s.2; shows = s.3 }

-- what screens find for the first of these pairs, if there is one
abbrev pub found_of : Trade → ℕ → List Patterns → List Entry → List Pair → Bool
found_of trade me screens journal [] = false
found_of trade me screens journal (pair ∷ pairs) = found_in_taken trade me screens journal pair.id

-- that is what they find
pub found_so : (trade : Trade) (me : ℕ) (screens : List Patterns) (journal : List Entry)
    → IsFound trade me screens journal (found_of trade me screens journal (undecided trade me journal))
found_so trade me screens journal pair pairs first = ap (found_of trade me screens journal) first
