-- What is to be done with the next pair, by what was found for it.
use Rattle.std.proofs.Common.{◌≡◌, ℕ, Bool, true, false, List, [], ◌∷◌, cond, map, inl, inr, refl, ap, sym, subst, ◌∙◌}
use Rattle.std.proofs.Common.{Option, Some, None, Err}
use Rattle.std.specs.Prelude.{IfSome, IsSome, IsTrue, filter, if◌then◌else◌}
use Rattle.std.proofs.lemmas.Bool.{and_parts, false≢true}
use Rattle.std.proofs.lemmas.List.{append-nil}
use Rattle.pec_types.specs.Bytes.{Bytes}
use Rattle.pec_types.specs.declared.letters.Letter.TheVariants as letters
use Rattle.pec_types.specs.declared.turns.ProviderFault.{ProviderFault}
use Rattle.pec_types.specs.declared.turns.ProviderFault.TheVariants as faults
use Rattle.pec_directory.specs.Directory.{Kept}
use Rattle.pec_records.specs.declared.entries.Entry.{Entry}
use Rattle.pec_screen.specs.Verdicts.{Patterns, counted}
use Rattle.pec_ledger.specs.Half.{Half, Taken}
use Rattle.pec_ledger.specs.Lookups.{taken_of}
use Rattle.pec_ledger.specs.OfDirectory.{IsOf}
use Rattle.pec_ledger.specs.Pairs.{Pair}
use Rattle.pec_ledger.specs.Steps.{half}
use Rattle.pec_ledger.specs.Trade.{Trade}
use Rattle.pec_plays.specs.Decisions.{decide, decision_on, found_in_taken, is_open, is_recipient_of, undecided}
use Rattle.pec_chronicle.specs.Chronicle.{ChronicleState}
use Rattle.pec_shelf.specs.Prepared.{AreSteps}
use Rattle.pec_shelf.specs.Seen.{Seen}
use Rattle.pec_stock.specs.Stock.{Agree}
use Rattle.pec_records.specs.Entry.{IsWithinLimits}
use Rattle.pec_plays.specs.Steps.{Step}
use Rattle.pec_reception.specs.Shows.{IsLimited, Shows, decide_as}
use Rattle.pec_reception.specs.declared.received.Received.{Received}
use Rattle.pec_provider.specs.Deciding.{IsOfAccount, IsReady, IsUnready, ShowsNext}
use Rattle.pec_provider.specs.Appending.{WorksAt}
use Rattle.pec_provider.specs.Doing.{Undertakes, is_full_for}
use Rattle.pec_provider.specs.Looking.{HaveLooked, LooksAt, LooksBehind, LooksNext}
use Rattle.pec_provider.specs.Provider.{Desk}
use Rattle.pec_provider.specs.Reading.{EnvelopeIsChanged, FindsFirst, FindsIn, IsNotOf, OnChanged, ReadsOver}
use Rattle.pec_provider.specs.Working.{Does}
use Rattle.pec_provider.proofs.ReadLemmas.{changed_weaker}
use Rattle.pec_provider.proofs.StepLemmas.{decide_so}
use Rattle.pec_provider.proofs.TurnLemmas.{found_of, found_so}

-- ---- the next pair

-- each entry of a provider is a step of those before it
pub steps_of : {D : Type 0} (kept : List Kept) (chronicle : ChronicleState D) (shelf : Seen) (trade : Trade)
    → Agree kept chronicle shelf → IsOf kept trade → AreSteps trade shelf.me chronicle.entries
steps_of kept chronicle shelf trade agree of =
    subst (λ (l : List Entry). AreSteps trade shelf.me l) (append-nil chronicle.entries)
    (agree.own trade of false).steps

-- what is so of the half of these entries is so of a shelf's
pub half_over : (P : Half → Type 0) (trade : Trade) (shelf : Seen) (journal : List Entry)
    → shelf.half ≡ half trade shelf.me journal → P (half trade shelf.me journal) → P shelf.half
half_over P trade shelf journal is p = subst P (sym is) p

-- what passes a filter passes its test
first_passes : {X : Type 0} (p : X → Bool) (xs : List X) (x : X) (rest : List X) → filter p xs ≡ x ∷ rest → p x ≡ true
first_passes {X} p [] x rest e = absurd (no_first x rest e)
  where
    no_first : (y : X) (ys : List X) → ◌≡◌ {A = List X} [] (y ∷ ys) → ⊥
    no_first y ys e = cc
first_passes {X} p (y ∷ xs) x rest e = by_test (p y) refl e (first_passes p xs x rest)
  where
    head_is : (a b : X) (ys zs : List X) → a ∷ ys ≡ b ∷ zs → a ≡ b
    head_is a b ys zs e = cc

    by_test : (t : Bool) → p y ≡ t → cond t (y ∷ filter p xs) (filter p xs) ≡ x ∷ rest
        → (filter p xs ≡ x ∷ rest → p x ≡ true) → p x ≡ true
    by_test true is e more = subst (λ (z : X). p z ≡ true) (head_is y x (filter p xs) rest e) is
    by_test false is e more = more e

recipient_taken : (recipient : Bytes) (found : Option Taken) → is_recipient_of recipient found ≡ true → IsSome found
recipient_taken recipient None is = absurd (false≢true is)
recipient_taken recipient (Some row) is = refl

-- the message of an undecided pair was taken
pub taken_first : (trade : Trade) (me : ℕ) (journal : List Entry) (pair : Pair) (rest : List Pair)
    → undecided trade me journal ≡ pair ∷ rest → IsSome (taken_of (half trade me journal) pair.id)
unfolding undecided
taken_first trade me journal pair rest first =
    let open_so = first_passes (is_open (half trade me journal)) _ pair rest first in
    recipient_taken pair.recipient (taken_of (half trade me journal) pair.id) (and_parts _ _ open_so).0

-- ---- what was found

-- for a recipient that is no account it makes no difference what was found
not_account : (trade : Trade) (me now : ℕ) (one other : Bool) (journal : List Entry) (pair : Pair)
    → trade.is_account me pair.recipient ≡ false
    → decide_as trade me now one journal pair ≡ decide_as trade me now other journal pair
unfolding decide decision_on
not_account trade me now one other journal pair e = rw e refl

module _ (Stood : Type 0) (trade : Trade) (me now : ℕ) (screens : List Patterns) (journal : List Entry) where
  -- nothing is undecided
  pub ready_none : undecided trade me journal ≡ [] → IsReady Stood trade me now screens journal None
  ready_none none = record {
    found = found_of trade me screens journal (undecided trade me journal);
    finds = λ stood. found_so trade me screens journal;
    given = subst (λ (pairs : List Pair). FindsFirst Stood trade me journal screens pairs
        (found_of trade me screens journal (undecided trade me journal))) (sym none) tt;
    shows = subst (λ (pairs : List Pair). ShowsNext trade me now
        (found_of trade me screens journal (undecided trade me journal)) journal pairs None) (sym none) tt;
  }

  module _ (pair : Pair) (rest : List Pair) (first : undecided trade me journal ≡ pair ∷ rest) (received : Received)
    where
      shows_first : (found : Bool) → Shows received (decide_as trade me now found journal pair)
          → ShowsNext trade me now found journal (undecided trade me journal) (Some received)
      shows_first found shows =
          subst (λ (pairs : List Pair). ShowsNext trade me now found journal pairs (Some received)) (sym first) shows

      given_first : (found : Bool)
          → (IsTrue (trade.is_account me pair.recipient) → FindsIn Stood trade me journal screens pair.id found)
          → FindsFirst Stood trade me journal screens (undecided trade me journal) found
      given_first found given =
          subst (λ (pairs : List Pair). FindsFirst Stood trade me journal screens pairs found) (sym first) given

      -- by whether the recipient is an account
      ready_by : (account : Bool) → trade.is_account me pair.recipient ≡ account → (found : Bool)
          → (Stood → IsTrue (trade.is_account me pair.recipient) → found ≡ found_in_taken trade me screens journal
          pair.id)
          → (IsTrue (trade.is_account me pair.recipient) → FindsIn Stood trade me journal screens pair.id found)
          → Shows received (decide_as trade me now found journal pair)
          → IsReady Stood trade me now screens journal (Some received)
      ready_by true is found finds given shows = record {
        found = found;
        finds = λ stood other others e.
            finds stood is
            ∙ sym (ap (found_of trade me screens journal) first)
            ∙ found_so trade me screens journal other others e;
        given = given_first found given;
        shows = shows_first found shows;
      }
      ready_by false is found finds given shows = record {
        found = found_of trade me screens journal (undecided trade me journal);
        finds = λ stood. found_so trade me screens journal;
        given = given_first (found_of trade me screens journal (undecided trade me journal))
            (λ account. absurd (false≢true (sym is ∙ account)));
        shows = shows_first (found_of trade me screens journal (undecided trade me journal))
            (rw (not_account trade me now (found_of trade me screens journal (undecided trade me journal)) found journal
            pair is) shows);
      }

      -- the first pair is decided by what was found
      pub ready_some : (found : Bool)
          → (Stood → IsTrue (trade.is_account me pair.recipient) → found ≡ found_in_taken trade me screens journal
          pair.id)
          → (IsTrue (trade.is_account me pair.recipient) → FindsIn Stood trade me journal screens pair.id found)
          → Shows received (decide_as trade me now found journal pair)
          → IsReady Stood trade me now screens journal (Some received)
      ready_some found finds given shows =
          ready_by (trade.is_account me pair.recipient) refl found finds given shows

-- ---- why it isn't known

of_account : (trade : Trade) (me : ℕ) (pairs : List Pair) (pair : Pair) (rest : List Pair) → pairs ≡ pair ∷ rest
    → IsTrue (trade.is_account me pair.recipient) → IsOfAccount trade me pairs
of_account trade me pairs pair rest first account =
    subst (λ (l : List Pair). IsOfAccount trade me l) (sym first) account

module _ (trade : Trade) (me : ℕ) (pairs : List Pair) (pair : Pair) (rest : List Pair) (first : pairs ≡ pair ∷ rest)
  where
    pub unready_of : {D : Type 0} (X : Type 0) (old new : ChronicleState D) (fault : ProviderFault)
        → ReadsOver {X = X} old new (Err fault) → IsTrue (trade.is_account me pair.recipient)
        → IsUnready trade me pairs fault
    unready_of X old new faults.NoMemory reads account = tt
    unready_of X old new faults.DiskFault reads account = of_account trade me pairs pair rest first account
    unready_of X old new (faults.Changed number) reads account = of_account trade me pairs pair rest first account
    unready_of X old new faults.Down reads account = absurd reads
    unready_of X old new (faults.ClockBack moment) reads account = absurd reads
    unready_of X old new faults.NoAccount reads account = absurd reads
    unready_of X old new faults.Full reads account = absurd reads
    unready_of X old new faults.OldJournal reads account = absurd reads
    unready_of X old new faults.NoNeed reads account = absurd reads
    unready_of X old new faults.NoItem reads account = absurd reads
    unready_of X old new faults.JournalFull reads account = absurd reads

-- the envelope of the first undecided pair isn't what was needed
pub envelope_changed : (trade : Trade) (me : ℕ) (journal : List Entry) (pair : Pair) (rest : List Pair)
    → undecided trade me journal ≡ pair ∷ rest → (fault : ProviderFault)
    → OnChanged (IsNotOf trade me journal (letters.Charge pair.id me)) fault
    → OnChanged (EnvelopeIsChanged trade me journal) fault
envelope_changed trade me journal pair rest first fault changed =
    changed_weaker (IsNotOf trade me journal (letters.Charge pair.id me)) (EnvelopeIsChanged trade me journal)
    (λ number is. record { pair = pair; pairs = rest; next = first; is = is }) fault changed

-- ---- how often screens looked

module _ (trade : Trade) (me : ℕ) (pairs : List Pair) (before after : List ℕ) where
  pub looks_none : pairs ≡ [] → after ≡ before → LooksAt trade me pairs before after
  looks_none none same = subst (λ (l : List Pair). LooksAt trade me l before after) (sym none) same

  pub looks_at : (pair : Pair) (rest : List Pair) → pairs ≡ pair ∷ rest
      → after ≡ (if trade.is_account me pair.recipient then map counted before else before)
      → LooksAt trade me pairs before after
  looks_at pair rest first looked = subst (λ (l : List Pair). LooksAt trade me l before after) (sym first) looked

  -- the read failed before they looked
  pub looks_unread : {D : Type 0} (X Y : Type 0) (old new : ChronicleState D) (fault : ProviderFault)
      → ReadsOver {X = X} old new (Err fault) → after ≡ before
      → LooksNext {X = Y} trade me pairs None before after (Err fault)
  looks_unread X Y old new faults.NoMemory reads same = inl same
  looks_unread X Y old new faults.DiskFault reads same = same
  looks_unread X Y old new (faults.Changed number) reads same = same
  looks_unread X Y old new faults.Down reads same = same
  looks_unread X Y old new (faults.ClockBack moment) reads same = same
  looks_unread X Y old new faults.NoAccount reads same = same
  looks_unread X Y old new faults.Full reads same = same
  looks_unread X Y old new faults.OldJournal reads same = same
  looks_unread X Y old new faults.NoNeed reads same = same
  looks_unread X Y old new faults.NoItem reads same = same
  looks_unread X Y old new faults.JournalFull reads same = absurd reads

  -- why nothing is done is handed on
  looks_as : (X Y : Type 0) (fault : ProviderFault) → LooksNext {X = X} trade me pairs None before after (Err fault)
      → LooksNext {X = Y} trade me pairs None before after (Err fault)
  looks_as X Y faults.NoMemory looks = looks
  looks_as X Y faults.DiskFault looks = looks
  looks_as X Y (faults.Changed number) looks = looks
  looks_as X Y faults.Down looks = looks
  looks_as X Y (faults.ClockBack moment) looks = looks
  looks_as X Y faults.NoAccount looks = looks
  looks_as X Y faults.Full looks = looks
  looks_as X Y faults.OldJournal looks = looks
  looks_as X Y faults.NoNeed looks = looks
  looks_as X Y faults.NoItem looks = looks
  looks_as X Y faults.JournalFull looks = looks

  -- so it is where no entry is interrupted
  pub looks_whole : (X Y : Type 0) (interrupted : Option Entry) (fault : ProviderFault) → interrupted ≡ None
      → LooksNext {X = X} trade me pairs None before after (Err fault)
      → LooksNext {X = Y} trade me pairs interrupted before after (Err fault)
  looks_whole X Y interrupted fault whole looks =
      subst (λ (o : Option Entry). LooksNext {X = Y} trade me pairs o before after (Err fault)) (sym whole)
      (looks_as X Y fault looks)

  -- they had looked before the entry was to be appended
  pub looks_failed : (Y : Type 0) (step : Step) (old new : Desk) (fault : ProviderFault) → Does step old new (Err fault)
      → LooksAt trade me pairs before after → LooksNext {X = Y} trade me pairs new.interrupted before after (Err fault)
  looks_failed Y step old new faults.DiskFault does looks =
      subst (λ (d : Desk). LooksBehind trade me pairs d.interrupted before after) (sym does.3) looks
  looks_failed Y step old new faults.JournalFull does looks = looks
  looks_failed Y step old new faults.NoMemory does looks = inr looks
  looks_failed Y step old new (faults.Changed number) does looks = absurd does
  looks_failed Y step old new faults.Down does looks = absurd does
  looks_failed Y step old new (faults.ClockBack moment) does looks = absurd does
  looks_failed Y step old new faults.NoAccount does looks = absurd does
  looks_failed Y step old new faults.Full does looks = absurd does
  looks_failed Y step old new faults.OldJournal does looks = absurd does
  looks_failed Y step old new faults.NoNeed does looks = absurd does
  looks_failed Y step old new faults.NoItem does looks = absurd does

-- ---- what is done

-- what is to be done is within the limits
pub limits_of : (next : Option Received) (received : Received) → next ≡ Some received
    → IfSome next IsLimited → IfSome received.entry IsWithinLimits
limits_of next received is limits = subst (λ (o : Option Received). IfSome o IsLimited) is limits

-- it is a step of the same entries, however they were read
pub undertakes_over : (trade : Trade) (me now : ℕ) (found : Bool) (journal : List Entry) (pair : Pair)
    (received : Received) → Shows received (decide_as trade me now found journal pair) → (mid : Desk)
    → mid.journal ≡ journal
    → Undertakes trade me mid.journal received (decide_as trade me now found journal pair)
undertakes_over trade me now found journal pair received shows mid same = record {
  shows = shows;
  full = decide_so trade me now journal found pair
      ∙ ap (λ (l : List Entry). is_full_for trade me l (decide_as trade me now found journal pair).entry) (sym same);
}

-- ---- before anything is looked at

module _ (Y : Type 0) (trade : Trade) (me now : ℕ) (desk : Desk) where
  -- a provider that isn't at work lets no screen look
  pub looks_idle : (X : Type 0) (pairs : List Pair) (interrupted : Option Entry) (seen : List ℕ) (fault : ProviderFault)
      → WorksAt {X = Y} trade me now desk (Err fault)
      → LooksNext {X = X} trade me pairs interrupted seen seen (Err fault)
  looks_idle X pairs interrupted seen faults.DiskFault works = absurd works
  looks_idle X pairs interrupted seen faults.JournalFull works = absurd works
  looks_idle X pairs interrupted seen faults.NoMemory works = absurd works
  looks_idle X pairs interrupted seen faults.Down works = refl
  looks_idle X pairs interrupted seen (faults.ClockBack moment) works = refl
  looks_idle X pairs interrupted seen faults.NoAccount works = absurd works
  looks_idle X pairs interrupted seen faults.Full works = absurd works
  looks_idle X pairs interrupted seen faults.OldJournal works = absurd works
  looks_idle X pairs interrupted seen faults.NoNeed works = absurd works
  looks_idle X pairs interrupted seen faults.NoItem works = absurd works
  looks_idle X pairs interrupted seen (faults.Changed which) works = absurd works

  -- so nothing came to them
  pub idle_unlooked : (X : Type 0) (interrupted : Option Entry) (fault : ProviderFault)
      → WorksAt {X = Y} trade me now desk (Err fault) → HaveLooked {X = X} interrupted (Err fault) → ⊥
  idle_unlooked X interrupted faults.DiskFault works looked = works
  idle_unlooked X interrupted faults.JournalFull works looked = works
  idle_unlooked X interrupted faults.NoMemory works looked = looked
  idle_unlooked X interrupted faults.Down works looked = looked
  idle_unlooked X interrupted (faults.ClockBack moment) works looked = looked
  idle_unlooked X interrupted faults.NoAccount works looked = looked
  idle_unlooked X interrupted faults.Full works looked = looked
  idle_unlooked X interrupted faults.OldJournal works looked = looked
  idle_unlooked X interrupted faults.NoNeed works looked = looked
  idle_unlooked X interrupted faults.NoItem works looked = looked
  idle_unlooked X interrupted (faults.Changed which) works looked = looked

  -- and tells no entry as changed
  pub idle_changed : (P : ℕ → Type 0) (fault : ProviderFault) → WorksAt {X = Y} trade me now desk (Err fault)
      → OnChanged P fault
  idle_changed P faults.DiskFault works = absurd works
  idle_changed P faults.JournalFull works = absurd works
  idle_changed P faults.NoMemory works = absurd works
  idle_changed P faults.Down works = tt
  idle_changed P (faults.ClockBack moment) works = tt
  idle_changed P faults.NoAccount works = absurd works
  idle_changed P faults.Full works = absurd works
  idle_changed P faults.OldJournal works = absurd works
  idle_changed P faults.NoNeed works = absurd works
  idle_changed P faults.NoItem works = absurd works
  idle_changed P (faults.Changed which) works = absurd works

-- where nothing was ready no entry is interrupted, and nothing came to the screens
pub unready_unlooked : (X : Type 0) (trade : Trade) (me : ℕ) (pairs : List Pair) (interrupted : Option Entry)
    (fault : ProviderFault) → interrupted ≡ None → IsUnready trade me pairs fault
    → HaveLooked {X = X} interrupted (Err fault) → ⊥
unready_unlooked X trade me pairs interrupted faults.DiskFault whole unready looked =
    false≢true (subst (λ (o : Option Entry). IsSome o) whole looked)
unready_unlooked X trade me pairs interrupted faults.JournalFull whole unready looked = unready
unready_unlooked X trade me pairs interrupted faults.NoMemory whole unready looked = looked
unready_unlooked X trade me pairs interrupted faults.Down whole unready looked = looked
unready_unlooked X trade me pairs interrupted (faults.ClockBack moment) whole unready looked = looked
unready_unlooked X trade me pairs interrupted faults.NoAccount whole unready looked = looked
unready_unlooked X trade me pairs interrupted faults.Full whole unready looked = looked
unready_unlooked X trade me pairs interrupted faults.OldJournal whole unready looked = looked
unready_unlooked X trade me pairs interrupted faults.NoNeed whole unready looked = looked
unready_unlooked X trade me pairs interrupted faults.NoItem whole unready looked = looked
unready_unlooked X trade me pairs interrupted (faults.Changed which) whole unready looked = looked

-- the append of a step's entry tells no entry as changed
pub does_changed : (P : ℕ → Type 0) (step : Step) (old new : Desk) (fault : ProviderFault)
    → Does step old new (Err fault) → OnChanged P fault
does_changed P step old new faults.DiskFault does = tt
does_changed P step old new faults.JournalFull does = tt
does_changed P step old new faults.NoMemory does = tt
does_changed P step old new faults.Down does = absurd does
does_changed P step old new (faults.ClockBack moment) does = absurd does
does_changed P step old new faults.NoAccount does = absurd does
does_changed P step old new faults.Full does = absurd does
does_changed P step old new faults.OldJournal does = absurd does
does_changed P step old new faults.NoNeed does = absurd does
does_changed P step old new faults.NoItem does = absurd does
does_changed P step old new (faults.Changed which) does = absurd does
