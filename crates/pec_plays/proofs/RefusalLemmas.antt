-- Refusals in their order: each test is made where none before it refused.
use Rattle.std.proofs.Common.{◌≡◌, ◌≢◌, ℕ, ◌<◌, ◌≤◌, List, Bool, true, false, inl, inr, map, refl, ap, sym, ◌∙◌, arith, nat_lt, Option, Some, None}
use Rattle.std.specs.Prelude.{IsTrue, ◌==◌, if◌then◌else◌}
use Rattle.std.proofs.lemmas.Bool.{cases_Bool, eq-eqb, false≢true, ltb-true, lt-ltb, ne_eqb}
use Rattle.pec_types.specs.Bytes.{Bytes, Path}
use Rattle.pec_types.specs.declared.messages.TheConstants.{MESSAGES}
use Rattle.pec_types.specs.declared.turns.ProviderFault.{ProviderFault}
use Rattle.pec_types.specs.declared.turns.ProviderFault.TheVariants as faults
use Rattle.pec_records.specs.declared.entries.Entry.{Entry}
use Rattle.pec_records.specs.declared.entries.Entry.TheVariants as entries
use Rattle.pec_ledger.specs.Network.{Site, is_up, journal_at, site_at}
use Rattle.pec_ledger.specs.Pairs.{id_of}
use Rattle.pec_ledger.specs.Steps.{half, marks_by}
use Rattle.pec_ledger.specs.Trade.{Trade}
use Rattle.pec_plays.specs.Commands.{Answer, Archive, Archived, Luck, Marks, Played, Refuses, Submit, Submits, Tick, Upgrade, Upgraded, account_home, answers, append, appended, archived, at_work, entry_by, finds_at, items_at, messages_at, played, screened_cause, submitted, told_by, told_mark, version_at}
use Rattle.pec_plays.specs.Refusals.{HasRoomFor, HoldsItem, IsAtWork, TakesMessages}
use Rattle.pec_plays.specs.Steps.{has_no_room}
use Rattle.pec_plays.specs.Turns.{last_of}

where_so : (b : Bool) (x y : Played) → b ≡ true → (if b then x else y) ≡ x
where_so true x y e = refl
where_so false x y e = absurd (false≢true e)

where_not : (b : Bool) (x y : Played) → b ≡ false → (if b then x else y) ≡ y
where_not true x y e = absurd (false≢true (sym e))
where_not false x y e = refl

not_before : (n m : ℕ) → m ≤ n → nat_lt n m ≡ false
not_before n m l =
    elim (cases_Bool (nat_lt n m)) [
      | inl e ↦ absurd (let k = ltb-true n m e in omega (arith, k, l))
      | inr e ↦ e
    ]

module _ (trade : Trade) (luck : Luck) (sites : List Site) (p now : ℕ) where
  abbrev refused : ProviderFault → Played
  refused fault = answers sites (Refuses fault)

  is_down : (done : Played) → is_up sites p ≡ false → at_work trade sites p now done ≡ refused faults.Down
  is_down done e = where_not (site_at sites p).up _ _ e

  is_back : (done : Played) → is_up sites p ≡ true → now < last_of trade p (journal_at sites p)
      → at_work trade sites p now done ≡ refused (faults.ClockBack (last_of trade p (journal_at sites p)))
  is_back done u l =
      where_so (site_at sites p).up _ _ u
      ∙ where_so (nat_lt now (last_of trade p (journal_at sites p))) _ done (lt-ltb now (last_of trade p (journal_at sites p)) l)

  works : (done : Played) → IsAtWork trade sites p now → at_work trade sites p now done ≡ done
  works done is =
      where_so (site_at sites p).up _ _ is.up
      ∙ where_not (nat_lt now (last_of trade p (journal_at sites p))) _ done (not_before now (last_of trade p (journal_at sites p)) is.in_time)

  is_full : (entry : Entry) (answer : Answer) → has_no_room trade p (journal_at sites p) entry ≡ true
      → append trade luck sites p entry answer ≡ refused faults.JournalFull
  is_full entry answer e = where_so (has_no_room trade p (journal_at sites p) entry) _ _ e

  is_appended : (entry : Entry) (answer : Answer) → HasRoomFor trade sites p now entry
      → append trade luck sites p entry answer ≡ appended luck.fails sites p entry answer
  is_appended entry answer e = where_not (has_no_room trade p (journal_at sites p) entry) _ _ e

  -- ---- submissions

  module _ (sender : Bytes) (path : Path) (message : Bytes) where
    abbrev found : Bool
    found = finds_at sites p message

    abbrev entry : Entry
    entry = entry_by (screened_cause found (trade.cause p sender path message)) now sender path message

    abbrev told : Answer
    told = Submits (told_by (screened_cause found (trade.cause p sender path message)) (id_of p (messages_at trade sites p)))

    abbrev numbered : Played
    numbered =
        if nat_lt (messages_at trade sites p) MESSAGES then append trade luck sites p entry told else answers sites (Refuses faults.Full)

    abbrev submission : Played
    submission = submitted trade luck sites p now sender path message found

    of_account : IsTrue (trade.is_account p sender) → submission ≡ at_work trade sites p now numbered
    of_account account = where_so (trade.is_account p sender) _ _ account

    pub no_account : trade.is_account p sender ≡ false → played trade luck sites (Submit p now sender path message) ≡ refused faults.NoAccount
    unfolding played
    no_account e = where_not (trade.is_account p sender) _ _ e

    pub submits_down : IsTrue (trade.is_account p sender) → is_up sites p ≡ false → played trade luck sites (Submit p now sender path message) ≡ refused faults.Down
    unfolding played
    submits_down account e = of_account account ∙ is_down numbered e

    pub submits_back : IsTrue (trade.is_account p sender) → is_up sites p ≡ true → now < last_of trade p (journal_at sites p)
        → played trade luck sites (Submit p now sender path message) ≡ refused (faults.ClockBack (last_of trade p (journal_at sites p)))
    unfolding played
    submits_back account u l = of_account account ∙ is_back numbered u l

    pub submits_full : IsTrue (trade.is_account p sender) → IsAtWork trade sites p now → MESSAGES ≤ messages_at trade sites p
        → played trade luck sites (Submit p now sender path message) ≡ refused faults.Full
    unfolding played
    submits_full account work l =
        of_account account ∙ works numbered work
        ∙ where_not (nat_lt (messages_at trade sites p) MESSAGES) _ _ (not_before (messages_at trade sites p) MESSAGES l)

    takes_one : TakesMessages trade sites p now sender → submission ≡ append trade luck sites p entry told
    takes_one takes =
        of_account takes.account ∙ works numbered takes.works
        ∙ where_so (nat_lt (messages_at trade sites p) MESSAGES) _ _ (lt-ltb (messages_at trade sites p) MESSAGES takes.number)

    pub submits_no_room : TakesMessages trade sites p now sender → has_no_room trade p (journal_at sites p) entry ≡ true
        → played trade luck sites (Submit p now sender path message) ≡ refused faults.JournalFull
    unfolding played
    submits_no_room takes e = takes_one takes ∙ is_full entry told e

    pub submits : TakesMessages trade sites p now sender → HasRoomFor trade sites p now entry
        → played trade luck sites (Submit p now sender path message) ≡ appended luck.fails sites p entry told
    unfolding played
    submits takes e = takes_one takes ∙ is_appended entry told e

  -- ---- clock calls

  abbrev marks : Answer
  marks = Marks (map told_mark (marks_by trade p (half trade p (journal_at sites p)) (entries.Ticked now)))

  pub ticks_down : is_up sites p ≡ false → played trade luck sites (Tick p now) ≡ refused faults.Down
  unfolding played
  ticks_down e = is_down (append trade luck sites p (entries.Ticked now) marks) e

  pub ticks_back : is_up sites p ≡ true → now < last_of trade p (journal_at sites p)
      → played trade luck sites (Tick p now) ≡ refused (faults.ClockBack (last_of trade p (journal_at sites p)))
  unfolding played
  ticks_back u l = is_back (append trade luck sites p (entries.Ticked now) marks) u l

  pub ticks_no_room : IsAtWork trade sites p now → has_no_room trade p (journal_at sites p) (entries.Ticked now) ≡ true
      → played trade luck sites (Tick p now) ≡ refused faults.JournalFull
  unfolding played
  ticks_no_room work e = works (append trade luck sites p (entries.Ticked now) marks) work ∙ is_full (entries.Ticked now) marks e

  pub ticks : IsAtWork trade sites p now → HasRoomFor trade sites p now (entries.Ticked now)
      → played trade luck sites (Tick p now) ≡ appended luck.fails sites p (entries.Ticked now) marks
  unfolding played
  ticks work e = works (append trade luck sites p (entries.Ticked now) marks) work ∙ is_appended (entries.Ticked now) marks e

  -- ---- archives

  module _ (account : Bytes) (place : ℕ) where
    -- by the version of the journal, where the item is there
    abbrev by_version : Played
    by_version =
        if version_at trade sites p == 2 then append trade luck sites p (entries.Archived now account place) Archived
        else answers sites (Refuses faults.OldJournal)

    abbrev by_place : Played
    by_place = if nat_lt place (items_at trade sites p account) then by_version else answers sites (Refuses faults.NoItem)

    at_its_home : (at : Option ℕ) → account_home trade account (trade.home account) ≡ at
        → archived trade luck sites (account_home trade account (trade.home account)) now account place ≡ archived trade luck sites at now account place
    at_its_home at home = ap (λ (f : Option ℕ). archived trade luck sites f now account place) home

    pub archives_nowhere : account_home trade account (trade.home account) ≡ None → played trade luck sites (Archive account now place) ≡ refused faults.NoAccount
    unfolding played
    archives_nowhere home = at_its_home None home

    pub archives_down : account_home trade account (trade.home account) ≡ Some p → is_up sites p ≡ false
        → played trade luck sites (Archive account now place) ≡ refused faults.Down
    unfolding played
    archives_down home e = at_its_home (Some p) home ∙ is_down by_place e

    pub archives_back : account_home trade account (trade.home account) ≡ Some p → is_up sites p ≡ true → now < last_of trade p (journal_at sites p)
        → played trade luck sites (Archive account now place) ≡ refused (faults.ClockBack (last_of trade p (journal_at sites p)))
    unfolding played
    archives_back home u l = at_its_home (Some p) home ∙ is_back by_place u l

    pub archives_no_item : account_home trade account (trade.home account) ≡ Some p → IsAtWork trade sites p now → items_at trade sites p account ≤ place
        → played trade luck sites (Archive account now place) ≡ refused faults.NoItem
    unfolding played
    archives_no_item home work l =
        at_its_home (Some p) home ∙ works by_place work
        ∙ where_not (nat_lt place (items_at trade sites p account)) by_version _ (not_before place (items_at trade sites p account) l)

    holds_one : HoldsItem trade sites p now account place
        → archived trade luck sites (account_home trade account (trade.home account)) now account place ≡ by_version
    holds_one holds =
        at_its_home (Some p) holds.home ∙ works by_place holds.works
        ∙ where_so (nat_lt place (items_at trade sites p account)) by_version _ (lt-ltb place (items_at trade sites p account) holds.item)

    pub archives_old : HoldsItem trade sites p now account place → version_at trade sites p ≢ 2
        → played trade luck sites (Archive account now place) ≡ refused faults.OldJournal
    unfolding played
    archives_old holds old = holds_one holds ∙ where_not (version_at trade sites p == 2) _ _ (ne_eqb (version_at trade sites p) 2 old)

    of_two : version_at trade sites p ≡ 2 → by_version ≡ append trade luck sites p (entries.Archived now account place) Archived
    of_two two = where_so (version_at trade sites p == 2) _ _ (eq-eqb (version_at trade sites p) 2 two)

    pub archives_no_room : HoldsItem trade sites p now account place → version_at trade sites p ≡ 2
        → has_no_room trade p (journal_at sites p) (entries.Archived now account place) ≡ true
        → played trade luck sites (Archive account now place) ≡ refused faults.JournalFull
    unfolding played
    archives_no_room holds two e = holds_one holds ∙ of_two two ∙ is_full (entries.Archived now account place) Archived e

    pub archives : HoldsItem trade sites p now account place → version_at trade sites p ≡ 2
        → HasRoomFor trade sites p now (entries.Archived now account place)
        → played trade luck sites (Archive account now place) ≡ appended luck.fails sites p (entries.Archived now account place) Archived
    unfolding played
    archives holds two e = holds_one holds ∙ of_two two ∙ is_appended (entries.Archived now account place) Archived e

  -- ---- upgrades

  abbrev raised : Played
  raised =
      if version_at trade sites p == 1 then append trade luck sites p (entries.Upgraded now) Upgraded
      else answers sites (Refuses faults.NoNeed)

  pub upgrades_down : is_up sites p ≡ false → played trade luck sites (Upgrade p now) ≡ refused faults.Down
  unfolding played
  upgrades_down e = is_down raised e

  pub upgrades_back : is_up sites p ≡ true → now < last_of trade p (journal_at sites p)
      → played trade luck sites (Upgrade p now) ≡ refused (faults.ClockBack (last_of trade p (journal_at sites p)))
  unfolding played
  upgrades_back u l = is_back raised u l

  pub upgrades_no_need : IsAtWork trade sites p now → version_at trade sites p ≢ 1 → played trade luck sites (Upgrade p now) ≡ refused faults.NoNeed
  unfolding played
  upgrades_no_need work new = works raised work ∙ where_not (version_at trade sites p == 1) _ _ (ne_eqb (version_at trade sites p) 1 new)

  of_one : version_at trade sites p ≡ 1 → raised ≡ append trade luck sites p (entries.Upgraded now) Upgraded
  of_one one = where_so (version_at trade sites p == 1) _ _ (eq-eqb (version_at trade sites p) 1 one)

  pub upgrades_no_room : IsAtWork trade sites p now → version_at trade sites p ≡ 1
      → has_no_room trade p (journal_at sites p) (entries.Upgraded now) ≡ true → played trade luck sites (Upgrade p now) ≡ refused faults.JournalFull
  unfolding played
  upgrades_no_room work one e = works raised work ∙ of_one one ∙ is_full (entries.Upgraded now) Upgraded e

  pub upgrades : IsAtWork trade sites p now → version_at trade sites p ≡ 1 → HasRoomFor trade sites p now (entries.Upgraded now)
      → played trade luck sites (Upgrade p now) ≡ appended luck.fails sites p (entries.Upgraded now) Upgraded
  unfolding played
  upgrades work one e = works raised work ∙ of_one one ∙ is_appended (entries.Upgraded now) Upgraded e
