-- How commands are played on a provider among others.
use Rattle.std.proofs.Common.{◌≡◌, ℕ, ◌<◌, ◌≤◌, ◌==◌, Bool, true, false, List, map, refl, sym, ap, subst, ◌∙◌, arith}
use Rattle.std.proofs.Common.{zero, suc, [], ◌∷◌, Option, None, Some}
use Rattle.std.proofs.Common.{Result, Ok, Err}
use Rattle.std.specs.Prelude.{nat_lt, if◌then◌else◌, is_some, IsErrAnd, length, slice_get}
use Rattle.std.specs.Option.{option_map}
use Rattle.std.proofs.lemmas.Bool.{eq-eqb}
use Rattle.std.proofs.lemmas.Option.{none-some, slice_get_within}
use Rattle.std.proofs.lemmas.Result.{err_from_is_err_and}
use Rattle.pec_types.specs.Bytes.{Bytes, Path}
use Rattle.pec_types.specs.declared.messages.Cause.{Cause}
use Rattle.pec_types.specs.declared.messages.TheConstants.{MESSAGES}
use Rattle.pec_types.specs.declared.turns.ProviderFault.{ProviderFault}
use Rattle.pec_types.specs.declared.turns.ProviderFault.TheVariants as faults
use Rattle.pec_types.specs.declared.turns.Submitted.{Submitted}
use Rattle.pec_records.specs.declared.entries.Entry.{Entry}
use Rattle.pec_records.specs.declared.entries.Entry.TheVariants as entries
use Rattle.pec_screen.specs.VerdictReading.{finds}
use Rattle.pec_screen.specs.Verdicts.{Patterns}
use Rattle.pec_ledger.specs.Lookups.{mailbox}
use Rattle.pec_ledger.specs.Network.{Site, journal_at, site_at}
use Rattle.pec_ledger.specs.Pairs.{id_of}
use Rattle.pec_ledger.specs.Steps.{half, marks_by}
use Rattle.pec_ledger.specs.Trade.{Trade}
use Rattle.pec_plays.specs.Commands.{Answer, Archived, Luck, Marks, Played, Refuses, Submit, Submits, Tick, Upgrade, Upgraded}
use Rattle.pec_plays.specs.Commands.{account_home, answers, append, appended, archived, at_work, entry_by, items_at}
use Rattle.pec_plays.specs.Commands.{messages_at, played, screened_cause, submitted, told_by, told_mark, version_at}
use Rattle.pec_plays.specs.Commands.{with_entry, with_site}
use Rattle.pec_plays.specs.Steps.{has_no_room}
use Rattle.pec_plays.specs.Turns.{broken as broken_site, last_of}
use Rattle.pec_provider.specs.Appending.{Admits, Appends, ComesTo, IsRefused, WorksAt, entered}
use Rattle.pec_provider.specs.Archiving.{Archives, MayArchive, Raises}
use Rattle.pec_provider.specs.Playing.{PlaysWith, luck_of}
use Rattle.pec_provider.specs.Provider.{Desk, site_of}
use Rattle.pec_provider.specs.Working.{IsAtWork, broken}

is_late : (a b : ℕ) → b ≤ a → nat_lt a b ≡ false
is_late a b h = grind (arith, h)

is_early : (a b : ℕ) → a < b → nat_lt a b ≡ true
is_early a b h = grind (arith, h)

pub is_within : (a b : ℕ) → nat_lt a b ≡ true → a < b
is_within a b e = grind (arith, e)

-- where there is no item a list has ended
beyond : {A : Type 0} (xs : List A) (k : ℕ) → slice_get xs k ≡ None → length xs ≤ k
beyond [] k none = omega arith
beyond (x ∷ xs) zero none = absurd (none-some x (sym none))
beyond (x ∷ xs) (suc k) none = let l = beyond xs k none in omega (arith, l)

-- a place is one of a list exactly where the list has an item there
some_at : {A : Type 0} (xs : List A) (k : ℕ) → is_some (slice_get xs k) ≡ nat_lt k (length xs)
some_at {A} xs k = by_item (slice_get xs k) refl
  where
    by_item : (item : Option A) → slice_get xs k ≡ item → is_some (slice_get xs k) ≡ nat_lt k (length xs)
    by_item None e =
        ap (λ (o : Option A). is_some o) e ∙ sym (is_late k (length xs) (beyond xs k e))
    by_item (Some x) e =
        ap (λ (o : Option A). is_some o) e ∙ sym (is_early k (length xs) (slice_get_within xs k x e))

mapped_some : {A B : Type 0} (f : A → B) (o : Option A) → is_some (option_map f o) ≡ is_some o
mapped_some f None = refl
mapped_some f (Some x) = refl

pub some_within : {A B : Type 0} (f : A → B) (o : Option A) (xs : List B) (k : ℕ) (found : Bool)
    → option_map f o ≡ slice_get xs k → found ≡ is_some o → found ≡ nat_lt k (length xs)
some_within {A} {B} f o xs k found is e =
    e ∙ sym (mapped_some f o) ∙ ap (λ (item : Option B). is_some item) is ∙ some_at xs k

if_so : {X : Type 0} (b : Bool) (x y : X) → b ≡ true → (if b then x else y) ≡ x
if_so b x y e = rw e refl

if_not : {X : Type 0} (b : Bool) (x y : X) → b ≡ false → (if b then x else y) ≡ y
if_not b x y e = rw e refl

-- ---- before anything is looked at

module _ (trade : Trade) (sites : List Site) (me now : ℕ) (done : Played) where
  abbrev early : Site → Played
  early site = answers sites (Refuses (faults.ClockBack (last_of trade me site.journal)))

  abbrev in_time : Site → Played
  in_time site = if nat_lt now (last_of trade me site.journal) then early site else done

  abbrev worked : Site → Played
  worked site = if site.up then in_time site else answers sites (Refuses faults.Down)

  at_site : (site : Site) → site_at sites me ≡ site → at_work trade sites me now done ≡ worked site
  at_site site is = ap (λ (s : Site). worked s) is

  module _ (desk : Desk) (screens : List Patterns) (waiting : List (List Bytes))
      (is : site_at sites me ≡ site_of desk screens waiting) where
    pub at_work_done : IsAtWork trade me now desk → at_work trade sites me now done ≡ done
    at_work_done works = at_site (site_of desk screens waiting) is
        ∙ (if_so desk.up (in_time (site_of desk screens waiting)) (answers sites (Refuses faults.Down)) works.up
        ∙ if_not (nat_lt now (last_of trade me desk.journal)) (early (site_of desk screens waiting)) done
        (is_late now (last_of trade me desk.journal) works.in_time))

    pub at_work_down : desk.up ≡ false → at_work trade sites me now done ≡ answers sites (Refuses faults.Down)
    at_work_down down = at_site (site_of desk screens waiting) is
        ∙ if_not desk.up (in_time (site_of desk screens waiting)) (answers sites (Refuses faults.Down)) down

    pub at_work_back : desk.up ≡ true → now < last_of trade me desk.journal
        → at_work trade sites me now done ≡ answers sites (Refuses (faults.ClockBack (last_of trade me desk.journal)))
    at_work_back up back = at_site (site_of desk screens waiting) is
        ∙ (if_so desk.up (in_time (site_of desk screens waiting)) (answers sites (Refuses faults.Down)) up
        ∙ if_so (nat_lt now (last_of trade me desk.journal)) (early (site_of desk screens waiting)) done
        (is_early now (last_of trade me desk.journal) back))

-- ---- appends

module _ (trade : Trade) (luck : Luck) (sites : List Site) (me : ℕ) (entry : Entry) (answer : Answer) where
  abbrev put : Site → Played
  put site = record { answer = answer; after = with_site sites me (with_entry site entry) }

  abbrev torn : Site → Played
  torn site = record { answer = Refuses faults.DiskFault; after = with_site sites me (broken_site site (Some entry)) }

  appended_by : Bool → Site → Played
  appended_by true site = torn site
  appended_by false site = put site

  appended_is : (fails : Bool) → appended fails sites me entry answer ≡ appended_by fails (site_at sites me)
  unfolding appended_by
  appended_is true = refl
  appended_is false = refl

  abbrev roomed : Bool → Site → Played
  roomed fails site =
      if has_no_room trade me site.journal entry then answers sites (Refuses faults.JournalFull)
      else appended_by fails site

  put_at : (site : Site) → site_at sites me ≡ site → append trade luck sites me entry answer ≡ roomed luck.fails site
  put_at site is =
      ap
      (λ (p : Played).
      if has_no_room trade me (journal_at sites me) entry then answers sites (Refuses faults.JournalFull) else p)
      (appended_is luck.fails)
      ∙ ap (λ (s : Site). roomed luck.fails s) is

  module _ (desk : Desk) (screens : List Patterns) (waiting : List (List Bytes))
      (is : site_at sites me ≡ site_of desk screens waiting) where
    append_full : has_no_room trade me desk.journal entry ≡ true
        → append trade luck sites me entry answer ≡ answers sites (Refuses faults.JournalFull)
    append_full full = put_at (site_of desk screens waiting) is
        ∙ if_so (has_no_room trade me desk.journal entry) (answers sites (Refuses faults.JournalFull))
        (appended_by luck.fails (site_of desk screens waiting)) full

    append_done : has_no_room trade me desk.journal entry ≡ false → luck.fails ≡ false
        → append trade luck sites me entry answer ≡ record {
          answer = answer;
          after = with_site sites me
              (site_of (entered desk entry) screens waiting);
        }
    unfolding appended_by
    append_done room works = put_at (site_of desk screens waiting) is
        ∙ (if_not (has_no_room trade me desk.journal entry) (answers sites (Refuses faults.JournalFull))
        (appended_by luck.fails (site_of desk screens waiting)) room
        ∙ ap (λ (b : Bool). appended_by b (site_of desk screens waiting)) works)

    append_fails : has_no_room trade me desk.journal entry ≡ false → luck.fails ≡ true
        → append trade luck sites me entry answer
        ≡ record {
          answer = Refuses faults.DiskFault;
          after = with_site sites me (site_of (broken desk entry) screens waiting);
        }
    unfolding appended_by
    append_fails room fails = put_at (site_of desk screens waiting) is
        ∙ (if_not (has_no_room trade me desk.journal entry) (answers sites (Refuses faults.JournalFull))
        (appended_by luck.fails (site_of desk screens waiting)) room
        ∙ ap (λ (b : Bool). appended_by b (site_of desk screens waiting)) fails)

-- ---- commands

module _ {X : Type 0} (tells : X → Answer) (play : Luck → List Site → Played) (trade : Trade) (me : ℕ)
    (screens : List Patterns) (old new : Desk) where
  -- a command that appends an entry
  pub plays_done : (entry : Entry) (answer : Answer) (x : X) → ComesTo play trade me screens old entry answer
      → Appends trade me entry old new (Ok x) → tells x ≡ answer → PlaysWith tells play me screens old new (Ok x)
  plays_done entry answer x comes appends told = λ sites waiting is.
      rw (appends.1, told) (comes sites waiting is (luck_of false)
      ∙ append_done trade (luck_of false) sites me entry answer old screens waiting is appends.0 refl)

  plays_failed : (entry : Entry) (answer : Answer) (Y : Type 0) (fault : ProviderFault)
      → ComesTo play trade me screens old entry answer
      → Appends {X = Y} trade me entry old new (Err fault) → PlaysWith tells play me screens old new (Err fault)
  plays_failed entry answer Y faults.DiskFault comes appends = λ sites waiting is.
      rw appends.1 (comes sites waiting is (luck_of true)
      ∙ append_fails trade (luck_of true) sites me entry answer old screens waiting is appends.0 refl)
  plays_failed entry answer Y faults.JournalFull comes appends = λ sites waiting is. (
    comes sites waiting is (luck_of false)
        ∙ append_full trade (luck_of false) sites me entry answer old screens waiting is appends.0,
    rw appends.1 (sym is),
  )
  plays_failed entry answer Y faults.NoMemory comes appends = λ sites waiting is. rw appends (sym is)
  plays_failed entry answer Y faults.Down comes appends = absurd appends
  plays_failed entry answer Y (faults.ClockBack moment) comes appends = absurd appends
  plays_failed entry answer Y faults.NoAccount comes appends = absurd appends
  plays_failed entry answer Y faults.Full comes appends = absurd appends
  plays_failed entry answer Y faults.OldJournal comes appends = absurd appends
  plays_failed entry answer Y faults.NoNeed comes appends = absurd appends
  plays_failed entry answer Y faults.NoItem comes appends = absurd appends
  plays_failed entry answer Y (faults.Changed which) comes appends = absurd appends

  pub plays_torn : (entry : Entry) (answer : Answer) (Y : Type 0) (fault : ProviderFault)
      (result : Result X ProviderFault)
      → IsErrAnd result (λ f. f ≡ fault) → ComesTo play trade me screens old entry answer
      → Appends {X = Y} trade me entry old new (Err fault)
      → PlaysWith tells play me screens old new result
  plays_torn entry answer Y fault result is comes appends =
      let p = err_from_is_err_and result is in
      subst (λ (r : Result X ProviderFault). PlaysWith tells play me screens old new r) (sym p.1)
      (subst (λ (f : ProviderFault). PlaysWith tells play me screens old new (Err f)) (sym p.2)
      (plays_failed entry answer Y fault comes appends))

  -- a command that is refused, and leaves the provider as it was
  pub plays_refused : (fault : ProviderFault) → IsRefused play me screens old fault → new ≡ old
      → PlaysWith tells play me screens old new (Err fault)
  plays_refused faults.DiskFault none same = absurd none
  plays_refused faults.NoMemory refused same = λ sites waiting is. rw same (sym is)
  plays_refused faults.Down refused same = λ sites waiting is. (refused sites waiting is, rw same (sym is))
  plays_refused (faults.ClockBack moment) refused same = λ sites waiting is. (
    refused sites waiting is,
    rw same
        (sym is),
  )
  plays_refused faults.NoAccount refused same = λ sites waiting is. (refused sites waiting is, rw same (sym is))
  plays_refused faults.Full refused same = λ sites waiting is. (refused sites waiting is, rw same (sym is))
  plays_refused faults.OldJournal refused same = λ sites waiting is. (refused sites waiting is, rw same (sym is))
  plays_refused faults.NoNeed refused same = λ sites waiting is. (refused sites waiting is, rw same (sym is))
  plays_refused faults.NoItem refused same = λ sites waiting is. (refused sites waiting is, rw same (sym is))
  plays_refused (faults.Changed which) refused same = λ sites waiting is. (refused sites waiting is, rw same (sym is))
  plays_refused faults.JournalFull refused same = λ sites waiting is. (refused sites waiting is, rw same (sym is))

  -- so where the refusal is handed on
  pub plays_handed : (fault : ProviderFault) (result : Result X ProviderFault) → IsErrAnd result (λ f. f ≡ fault)
      → IsRefused play me screens old fault → new ≡ old → PlaysWith tells play me screens old new result
  plays_handed fault result is refused same =
      let p = err_from_is_err_and result is in
      subst (λ (r : Result X ProviderFault). PlaysWith tells play me screens old new r) (sym p.1)
      (subst (λ (f : ProviderFault). PlaysWith tells play me screens old new (Err f)) (sym p.2)
      (plays_refused fault refused same))

-- ---- refusals

-- a command that is played as another on sites among which the provider stands is refused as that one
refused_as : (play other : Luck → List Site → Played) (me : ℕ) (screens : List Patterns) (desk : Desk)
    → ((luck : Luck) (sites : List Site) (waiting : List (List Bytes))
    → site_at sites me ≡ site_of desk screens waiting → play luck sites ≡ other luck sites)
    → (fault : ProviderFault) → IsRefused other me screens desk fault → IsRefused play me screens desk fault
refused_as play other me screens desk same faults.DiskFault none = absurd none
refused_as play other me screens desk same faults.NoMemory refused = tt
refused_as play other me screens desk same faults.Down refused = λ sites waiting is.
    same (luck_of false) sites waiting is ∙ refused sites waiting is
refused_as play other me screens desk same (faults.ClockBack moment) refused = λ sites waiting is.
    same (luck_of false) sites waiting is ∙ refused sites waiting is
refused_as play other me screens desk same faults.NoAccount refused = λ sites waiting is.
    same (luck_of false) sites waiting is ∙ refused sites waiting is
refused_as play other me screens desk same faults.Full refused = λ sites waiting is.
    same (luck_of false) sites waiting is ∙ refused sites waiting is
refused_as play other me screens desk same faults.OldJournal refused = λ sites waiting is.
    same (luck_of false) sites waiting is ∙ refused sites waiting is
refused_as play other me screens desk same faults.NoNeed refused = λ sites waiting is.
    same (luck_of false) sites waiting is ∙ refused sites waiting is
refused_as play other me screens desk same faults.NoItem refused = λ sites waiting is.
    same (luck_of false) sites waiting is ∙ refused sites waiting is
refused_as play other me screens desk same (faults.Changed which) refused = λ sites waiting is.
    same (luck_of false) sites waiting is ∙ refused sites waiting is
refused_as play other me screens desk same faults.JournalFull refused = λ sites waiting is.
    same (luck_of false) sites waiting is ∙ refused sites waiting is

module _ (X : Type 0) (trade : Trade) (me now : ℕ) (screens : List Patterns) (desk : Desk) where
  -- a provider that isn't at work refuses whatever it would do
  works_refused : (done : Luck → List Site → Played) (fault : ProviderFault)
      → WorksAt {X = X} trade me now desk (Err fault)
      → IsRefused (λ luck sites. at_work trade sites me now (done luck sites)) me screens desk fault
  works_refused done faults.Down down = λ sites waiting is. at_work_down trade sites me now
      (done (luck_of false) sites) desk screens waiting is down
  works_refused done (faults.ClockBack moment) back = λ sites waiting is.
      at_work_back trade sites me now (done (luck_of false) sites) desk screens waiting is back.0 back.1
      ∙ ap (λ (m : ℕ). answers sites (Refuses (faults.ClockBack m))) (sym back.2)
  works_refused done faults.DiskFault none = absurd none
  works_refused done faults.NoMemory none = absurd none
  works_refused done faults.NoAccount none = absurd none
  works_refused done faults.Full none = absurd none
  works_refused done faults.OldJournal none = absurd none
  works_refused done faults.NoNeed none = absurd none
  works_refused done faults.NoItem none = absurd none
  works_refused done (faults.Changed which) none = absurd none
  works_refused done faults.JournalFull none = absurd none

  -- ---- clock calls

  pub tick_refused : (fault : ProviderFault) → WorksAt {X = X} trade me now desk (Err fault)
      → IsRefused (λ luck sites. played trade luck sites (Tick me now)) me screens desk fault
  unfolding played
  tick_refused fault works = works_refused (λ luck sites. append trade luck sites me (entries.Ticked now)
      (Marks (map told_mark (marks_by trade me (half trade me (journal_at sites me)) (entries.Ticked now))))) fault
      works

  -- ---- submissions

  module _ (sender : Bytes) (path : Path) (message : Bytes) where
    abbrev submission : Luck → List Site → Played
    submission luck sites = played trade luck sites (Submit me now sender path message)

    -- what these screens say of the message
    abbrev pub cause : Option Cause
    cause = screened_cause (finds screens message) (trade.cause me sender path message)

    abbrev numbered : Luck → List Site → Played
    numbered luck sites =
        append trade luck sites me (entry_by cause now sender path message)
        (Submits (told_by cause (id_of me (messages_at trade sites me))))

    abbrev counted : Luck → List Site → Played
    counted luck sites =
        if nat_lt (messages_at trade sites me) MESSAGES then numbered luck sites
        else answers sites (Refuses faults.Full)

    submitted_at : (luck : Luck) (sites : List Site) (waiting : List (List Bytes))
        → site_at sites me ≡ site_of desk screens waiting
        → submission luck sites
        ≡ submitted trade luck sites me now sender path message (finds screens message)
    unfolding played
    submitted_at luck sites waiting is =
        ap (λ (s : Site). submitted trade luck sites me now sender path message (finds s.screens message)) is

    from_account : trade.is_account me sender ≡ true → (luck : Luck) (sites : List Site) (waiting : List (List Bytes))
        → site_at sites me ≡ site_of desk screens waiting
        → submission luck sites ≡ at_work trade sites me now (counted luck sites)
    from_account account luck sites waiting is =
        submitted_at luck sites waiting is
        ∙ if_so (trade.is_account me sender) (at_work trade sites me now (counted luck sites))
        (answers sites (Refuses faults.NoAccount)) account

    pub no_account : trade.is_account me sender ≡ false → IsRefused submission me screens desk faults.NoAccount
    no_account none = λ sites waiting is.
        submitted_at (luck_of false) sites waiting is
        ∙ if_not (trade.is_account me sender) (at_work trade sites me now (counted (luck_of false) sites))
        (answers sites (Refuses faults.NoAccount)) none

    pub submission_refused : trade.is_account me sender ≡ true → (fault : ProviderFault)
        → WorksAt {X = X} trade me now desk (Err fault)
        → IsRefused submission me screens desk fault
    submission_refused account fault works = refused_as submission (λ luck sites. at_work trade sites me now
        (counted luck sites)) me screens desk
        (from_account account) fault (works_refused counted fault works)

    -- how many messages there are
    count_at : (sites : List Site) (waiting : List (List Bytes)) → site_at sites me ≡ site_of desk screens waiting
        → messages_at trade sites me ≡ length (half trade me desk.journal).messages
    count_at sites waiting is = ap (λ (s : Site). length (half trade me s.journal).messages) is

    pub no_number : trade.is_account me sender ≡ true → IsAtWork trade me now desk
        → MESSAGES ≤ length (half trade me desk.journal).messages
        → IsRefused submission me screens desk faults.Full
    no_number account works full = λ sites waiting is.
        from_account account (luck_of false) sites waiting is
        ∙ (at_work_done trade sites me now (counted (luck_of false) sites) desk screens waiting is works
        ∙ if_not (nat_lt (messages_at trade sites me) MESSAGES) (numbered (luck_of false) sites)
        (answers sites (Refuses faults.Full))
        (ap (λ (n : ℕ). nat_lt n MESSAGES) (count_at sites waiting is)
        ∙ is_late (length (half trade me desk.journal).messages) MESSAGES full))

    pub comes_to : trade.is_account me sender ≡ true → IsAtWork trade me now desk
        → length (half trade me desk.journal).messages < MESSAGES
        → ComesTo submission trade me screens desk (entry_by cause now sender path message)
        (Submits (told_by cause (id_of me (length (half trade me desk.journal).messages))))
    comes_to account works few = λ sites waiting is luck.
        from_account account luck sites waiting is
        ∙ (at_work_done trade sites me now (counted luck sites) desk screens waiting is works
        ∙ (if_so (nat_lt (messages_at trade sites me) MESSAGES) (numbered luck sites)
        (answers sites (Refuses faults.Full))
        (ap (λ (n : ℕ). nat_lt n MESSAGES) (count_at sites waiting is)
        ∙ is_early (length (half trade me desk.journal).messages) MESSAGES few)
        ∙ ap (λ (n : ℕ). append trade luck sites me (entry_by cause now sender path message)
        (Submits (told_by cause (id_of me n)))) (count_at sites waiting is)))

-- a clock call appends its entry
pub tick_comes : (trade : Trade) (me now : ℕ) (screens : List Patterns) (desk : Desk) → IsAtWork trade me now desk
    → ComesTo (λ luck sites. played trade luck sites (Tick me now)) trade me screens desk (entries.Ticked now)
    (Marks (map told_mark (marks_by trade me (half trade me desk.journal) (entries.Ticked now))))
unfolding played
tick_comes trade me now screens desk works = λ sites waiting is luck.
    at_work_done trade sites me now (append trade luck sites me (entries.Ticked now)
    (Marks (map told_mark (marks_by trade me (half trade me (journal_at sites me)) (entries.Ticked now))))) desk
    screens waiting is works
    ∙ ap (λ (s : Site). append trade luck sites me (entries.Ticked now)
    (Marks (map told_mark (marks_by trade me (half trade me s.journal) (entries.Ticked now))))) is

pub admits_handed : (trade : Trade) (me now : ℕ) (desk : Desk) (sender : Bytes) (path : Path) (message : Bytes)
    (screens : List Patterns)
    → trade.is_account me sender ≡ true → (fault : ProviderFault) (result : Result (Entry × Submitted) ProviderFault)
    → IsErrAnd result (λ f. f ≡ fault) → WorksAt {X = Entry × Submitted} trade me now desk (Err fault)
    → Admits trade me now sender path message screens desk result
admits_handed trade me now desk sender path message screens account fault result is works =
    let p = err_from_is_err_and result is in
    subst (λ (r : Result (Entry × Submitted) ProviderFault). Admits trade me now sender path message screens desk r)
    (sym p.1)
    (subst (λ (f : ProviderFault). Admits trade me now sender path message screens desk (Err f)) (sym p.2)
    (submission_refused (Entry × Submitted) trade me now screens desk sender path message account fault works))

-- ---- journals raised to version 2

-- the version of a provider's journal, by where it stands
version_is : (trade : Trade) (sites : List Site) (me : ℕ) (screens : List Patterns) (desk : Desk)
    (waiting : List (List Bytes)) (version : ℕ) → site_at sites me ≡ site_of desk screens waiting
    → (version_at trade sites me == version) ≡ ((half trade me desk.journal).version == version)
version_is trade sites me screens desk waiting version is =
    ap (λ (s : Site). (half trade me s.journal).version == version) is

module _ (X : Type 0) (trade : Trade) (me now : ℕ) (screens : List Patterns) (desk : Desk) where
  abbrev upgrading : Luck → List Site → Played
  upgrading luck sites = played trade luck sites (Upgrade me now)

  abbrev raised : Luck → List Site → Played
  raised luck sites =
      if version_at trade sites me == 1 then append trade luck sites me (entries.Upgraded now) Upgraded
      else answers sites (Refuses faults.NoNeed)

  pub upgrade_refused : (fault : ProviderFault) → WorksAt {X = X} trade me now desk (Err fault)
      → IsRefused upgrading me screens desk fault
  unfolding played
  upgrade_refused fault works = works_refused X trade me now screens desk raised fault works

  pub no_need : IsAtWork trade me now desk → ((half trade me desk.journal).version == 1) ≡ false
      → IsRefused upgrading me screens desk faults.NoNeed
  unfolding played
  no_need works other = λ sites waiting is.
      at_work_done trade sites me now (raised (luck_of false) sites) desk screens waiting is works
      ∙ if_not (version_at trade sites me == 1)
      (append trade (luck_of false) sites me (entries.Upgraded now) Upgraded) (answers sites (Refuses faults.NoNeed))
      (version_is trade sites me screens desk waiting 1 is ∙ other)

  pub upgrade_comes : IsAtWork trade me now desk → (half trade me desk.journal).version ≡ 1
      → ComesTo upgrading trade me screens desk (entries.Upgraded now) Upgraded
  unfolding played
  upgrade_comes works one = λ sites waiting is luck.
      at_work_done trade sites me now (raised luck sites) desk screens waiting is works
      ∙ if_so (version_at trade sites me == 1) (append trade luck sites me (entries.Upgraded now) Upgraded)
      (answers sites (Refuses faults.NoNeed))
      (version_is trade sites me screens desk waiting 1 is ∙ eq-eqb (half trade me desk.journal).version 1 one)

  -- ---- archives

  module _ (account : Bytes) (place : ℕ) where
    abbrev archiving : Luck → List Site → Played
    archiving luck sites = archived trade luck sites (account_home trade account (Some me)) now account place

    abbrev versioned : Luck → List Site → Played
    versioned luck sites =
        if version_at trade sites me == 2 then append trade luck sites me (entries.Archived now account place) Archived
        else answers sites (Refuses faults.OldJournal)

    abbrev held : Luck → List Site → Played
    held luck sites =
        if nat_lt place (items_at trade sites me account) then versioned luck sites
        else answers sites (Refuses faults.NoItem)

    at_home : trade.is_account me account ≡ true → (luck : Luck) (sites : List Site) (waiting : List (List Bytes))
        → site_at sites me ≡ site_of desk screens waiting
        → archiving luck sites ≡ at_work trade sites me now (held luck sites)
    at_home own luck sites waiting is =
        ap (λ (home : Option ℕ). archived trade luck sites home now account place)
        (if_so (trade.is_account me account) (Some me) None own)

    pub archive_no_account : trade.is_account me account ≡ false → IsRefused archiving me screens desk faults.NoAccount
    archive_no_account none = λ sites waiting is.
        ap (λ (home : Option ℕ). archived trade (luck_of false) sites home now account place)
        (if_not (trade.is_account me account) (Some me) None none)

    pub archive_refused : trade.is_account me account ≡ true → (fault : ProviderFault)
        → WorksAt {X = X} trade me now desk (Err fault) → IsRefused archiving me screens desk fault
    archive_refused own fault works = refused_as archiving (λ luck sites. at_work trade sites me now (held luck sites))
        me screens desk (at_home own) fault (works_refused X trade me now screens desk held fault works)

    -- whether its mailbox has an item there
    items_are : (sites : List Site) (waiting : List (List Bytes)) → site_at sites me ≡ site_of desk screens waiting
        → nat_lt place (items_at trade sites me account)
        ≡ nat_lt place (length (mailbox (half trade me desk.journal) account))
    items_are sites waiting is = ap (λ (s : Site). nat_lt place (length (mailbox (half trade me s.journal) account))) is

    pub no_item : trade.is_account me account ≡ true → IsAtWork trade me now desk
        → nat_lt place (length (mailbox (half trade me desk.journal) account)) ≡ false
        → IsRefused archiving me screens desk faults.NoItem
    no_item own works past = λ sites waiting is.
        at_home own (luck_of false) sites waiting is
        ∙ (at_work_done trade sites me now (held (luck_of false) sites) desk screens waiting is works
        ∙ if_not (nat_lt place (items_at trade sites me account)) (versioned (luck_of false) sites)
        (answers sites (Refuses faults.NoItem)) (items_are sites waiting is ∙ past))

    there_so : (luck : Luck) → trade.is_account me account ≡ true → IsAtWork trade me now desk
        → nat_lt place (length (mailbox (half trade me desk.journal) account)) ≡ true
        → (sites : List Site) (waiting : List (List Bytes)) → site_at sites me ≡ site_of desk screens waiting
        → archiving luck sites ≡ versioned luck sites
    there_so luck own works there sites waiting is =
        at_home own luck sites waiting is
        ∙ (at_work_done trade sites me now (held luck sites) desk screens waiting is works
        ∙ if_so (nat_lt place (items_at trade sites me account)) (versioned luck sites)
        (answers sites (Refuses faults.NoItem)) (items_are sites waiting is ∙ there))

    pub old_journal : trade.is_account me account ≡ true → IsAtWork trade me now desk
        → nat_lt place (length (mailbox (half trade me desk.journal) account)) ≡ true
        → ((half trade me desk.journal).version == 2) ≡ false → IsRefused archiving me screens desk faults.OldJournal
    old_journal own works there other = λ sites waiting is.
        there_so (luck_of false) own works there sites waiting is
        ∙ if_not (version_at trade sites me == 2)
        (append trade (luck_of false) sites me (entries.Archived now account place) Archived)
        (answers sites (Refuses faults.OldJournal)) (version_is trade sites me screens desk waiting 2 is ∙ other)

    pub archive_comes : MayArchive trade me now account place desk
        → ComesTo archiving trade me screens desk (entries.Archived now account place) Archived
    archive_comes may = λ sites waiting is luck.
        there_so luck may.account_is may.works
        (is_early place (length (mailbox (half trade me desk.journal) account)) may.item) sites waiting is
        ∙ if_so (version_at trade sites me == 2)
        (append trade luck sites me (entries.Archived now account place) Archived)
        (answers sites (Refuses faults.OldJournal))
        (version_is trade sites me screens desk waiting 2 is
        ∙ eq-eqb (half trade me desk.journal).version 2 may.version)

-- the entry by which an item is archived, of a copy of its account
pub entry_is : (moment place : ℕ) (entry : Entry) (copy account : Bytes) → entry ≡ entries.Archived moment copy place
    → copy ≡ account → entry ≡ entries.Archived moment account place
entry_is moment place entry copy account is same = is ∙ ap (λ (a : Bytes). entries.Archived moment a place) same

-- what is refused is handed on
pub archives_handed : (trade : Trade) (me now : ℕ) (account : Bytes) (place : ℕ) (desk : Desk) (fault : ProviderFault)
    (result : Result (Unit {0}) ProviderFault) → IsErrAnd result (λ f. f ≡ fault)
    → trade.is_account me account ≡ true → WorksAt {X = Unit {0}} trade me now desk (Err fault)
    → Archives trade me now account place desk result
archives_handed trade me now account place desk fault result is own works =
    let p = err_from_is_err_and result is in
    subst (λ (r : Result (Unit {0}) ProviderFault). Archives trade me now account place desk r) (sym p.1)
    (subst (λ (f : ProviderFault). Archives trade me now account place desk (Err f)) (sym p.2)
    (λ screens. archive_refused (Unit {0}) trade me now screens desk account place own fault works))

pub raises_handed : (trade : Trade) (me now : ℕ) (desk : Desk) (fault : ProviderFault)
    (result : Result (Unit {0}) ProviderFault) → IsErrAnd result (λ f. f ≡ fault)
    → WorksAt {X = Unit {0}} trade me now desk (Err fault) → Raises trade me now desk result
raises_handed trade me now desk fault result is works =
    let p = err_from_is_err_and result is in
    subst (λ (r : Result (Unit {0}) ProviderFault). Raises trade me now desk r) (sym p.1)
    (subst (λ (f : ProviderFault). Raises trade me now desk (Err f)) (sym p.2)
    (λ screens. upgrade_refused (Unit {0}) trade me now screens desk fault works))
