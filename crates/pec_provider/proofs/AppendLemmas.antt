-- What the append of an entry leaves of a provider.
use Rattle.std.proofs.Common.{Some, None, ◌≡◌, ℕ, ◌+◌, ◌<◌, ◌≤◌, Bool, true, false, not, List, map, refl, ap, sym, subst, ◌∙◌, arith}
use Rattle.std.proofs.Common.{Global, Option, Ok, Err, Result, Vec}
use Rattle.std.specs.Prelude.{IfErr, IfOk, IfSome, OnOk, nat_lt}
use Rattle.pec_types.specs.declared.letters.Letter.{Letter}
use Rattle.pec_types.specs.declared.mailboxes.Mark.{Mark}
use Rattle.pec_types.specs.declared.turns.ProviderFault.{ProviderFault}
use Rattle.pec_types.specs.declared.turns.ProviderFault.TheVariants as faults
use Rattle.pec_directory.specs.Directory.{Kept}
use Rattle.pec_records.specs.declared.entries.Entry.{Entry}
use Rattle.pec_ledger.specs.Half.{Half}
use Rattle.pec_ledger.specs.OfDirectory.{IsOf}
use Rattle.pec_ledger.specs.Steps.{half, marks_by, size_of}
use Rattle.pec_ledger.specs.Trade.{Trade}
use Rattle.pec_plays.specs.Commands.{told_mark}
use Rattle.pec_plays.specs.Steps.{has_no_room, longest_journal}
use Rattle.pec_chronicle.specs.Chronicle.{ChronicleState}
use Rattle.pec_seal.specs.Seals.{Seals}
use Rattle.pec_shelf.specs.Seen.{Seen}
use Rattle.pec_stock.specs.Entering.{AreMarks, Entered, Failed, Same, Torn}
use Rattle.pec_stock.specs.Stock.{Agree}
use Rattle.pec_provider.specs.Appending.{Appends, entered}
use Rattle.pec_provider.specs.Provider.{Desk, ProviderState, Runs, desk_of}
use Rattle.pec_provider.specs.Working.{broken}
use Rattle.pec_provider.proofs.RunLemmas.{end_runs, half_runs}

-- ---- numbers

is_below : (a b : ℕ) → a ≤ b → nat_lt b a ≡ false
is_below a b h = grind (arith, h)

is_above : (a b : ℕ) → b < a → nat_lt b a ≡ true
is_above a b h = grind (arith, h)

room_is : (trade : Trade) (me : ℕ) (list : List Entry) (entry : Entry) (end : ℕ) → end ≡ (half trade me list).end
    → end + size_of entry ≤ longest_journal → has_no_room trade me list entry ≡ false
unfolding has_no_room
room_is trade me list entry end is fits = rw (← is) (is_below (end + size_of entry) longest_journal fits)

room_is_not : (trade : Trade) (me : ℕ) (list : List Entry) (entry : Entry) (end : ℕ) → end ≡ (half trade me list).end
    → longest_journal < end + size_of entry → has_no_room trade me list entry ≡ true
unfolding has_no_room
room_is_not trade me list entry end is full = rw (← is) (is_above (end + size_of entry) longest_journal full)

-- ---- desks

same_desk : (journal journal2 : List Entry) (owed : List Letter) (down down2 : Bool)
    (interrupted interrupted2 : Option Entry)
    → journal2 ≡ journal → down2 ≡ down → interrupted2 ≡ interrupted
    → ◌≡◌ {A = Desk} (record { journal = journal2; owed = owed; up = not down2; interrupted = interrupted2 })
    (record { journal = journal; owed = owed; up = not down; interrupted = interrupted })
same_desk journal journal2 owed down down2 interrupted interrupted2 a b c = rw (a, b, c) refl

module _ {D : Type 0} (old new : ChronicleState D) (before after : Seen) (owed : List Letter) (places : ℕ) where
  abbrev pub desk_before : Desk
  desk_before = desk_of (record { chronicle = old; shelf = before; owed = owed; places = places })

  abbrev pub desk_after : Desk
  desk_after = desk_of (record { chronicle = new; shelf = after; owed = owed; places = places })

  pub same_desks : Same old new → desk_after ≡ desk_before
  same_desks same = same_desk old.entries new.entries owed old.down new.down old.interrupted new.interrupted
      same.entries same.down same.interrupted

  entered_desk : (entry : Entry) → Entered old new entry → desk_after ≡ entered desk_before entry
  entered_desk entry came = rw (came.entries, came.down, came.interrupted) refl

  torn_desk : (entry : Entry) → Torn old new entry → desk_after ≡ broken desk_before entry
  torn_desk entry torn = rw (torn.entries, torn.down, torn.interrupted) refl

  module _ (trade : Trade) (me : ℕ) (entry : Entry) (end : old.end ≡ (half trade me old.entries).end) where
    pub appends_ok : {X : Type 0} (x : X) → Entered old new entry → Appends trade me entry desk_before desk_after (Ok x)
    appends_ok x came = (room_is trade me old.entries entry old.end end came.fits, entered_desk entry came)

    pub appends_err : (X : Type 0) (fault : ProviderFault) → Failed old new entry fault
        → Appends {X = X} trade me entry desk_before desk_after (Err fault)
    appends_err X faults.DiskFault torn = (
      room_is trade me old.entries entry old.end end torn.fits,
      torn_desk entry
          torn,
    )
    appends_err X faults.Down none = absurd none
    appends_err X (faults.ClockBack moment) none = absurd none
    appends_err X faults.NoAccount none = absurd none
    appends_err X faults.Full none = absurd none
    appends_err X faults.OldJournal none = absurd none
    appends_err X faults.NoNeed none = absurd none
    appends_err X faults.NoItem none = absurd none
    appends_err X (faults.Changed which) none = absurd none
    appends_err X faults.JournalFull full = (
      room_is_not trade me old.entries entry old.end end full.full,
      same_desks
          full.same,
    )
    appends_err X faults.NoMemory same = same_desks same

-- a provider whose entries and half went on together runs as before
pub runs_on : {D : Type 0} {seals : Seals} (kept : List Kept) (me : ℕ) (inside old : ProviderState D) → inside ≡ old
    → (new : ChronicleState D) (after : Seen) (places : ℕ) → after.me ≡ inside.shelf.me → Agree kept new after
    → Runs kept seals me old
    → Runs kept seals me (record { chronicle = new; shelf = after; owed = inside.owed; places = places })
runs_on {D} {seals} kept me inside old view new after places same agree runs =
    let before : Runs kept seals me inside = subst (λ (p : ProviderState D). Runs kept seals me p) (sym view) runs in
    record { number = before.number; is = same ∙ before.is; agree = agree }

-- an entry, if there is one, is so
pub any_has : {P : Entry → Type 0} (found : Option Entry) → ((entry : Entry) → found ≡ Some entry → P entry)
    → IfSome found P
any_has None so = tt
any_has (Some entry) so = so entry refl

-- what the append of an entry leaves, by what it leaves of the entries
module _ {D : Type 0} {seals : Seals} (kept : List Kept) (me : ℕ) (inside old : ProviderState D) (view : inside ≡ old)
    (new : ChronicleState D)
    (after : Seen) (places : ℕ) (entry : Entry) (runs : Runs kept seals me old) (up : old.chronicle.down ≡ false)
    (trade : Trade)
    (of : IsOf kept trade) where
  abbrev pub left : Desk
  left = desk_of {D = D} (record { chronicle = new; shelf = after; owed = inside.owed; places = places })

  ends : inside.chronicle.end ≡ (half trade me inside.chronicle.entries).end
  ends = subst (λ (p : ProviderState D). p.chronicle.end ≡ (half trade me p.chronicle.entries).end) (sym view)
      (end_runs kept me old trade runs of up)

  pub left_ok : {X : Type 0} (x : X) → Entered inside.chronicle new entry
      → Appends trade me entry (desk_of old) left (Ok x)
  left_ok x came = subst (λ (p : ProviderState D). Appends trade me entry (desk_of p) left (Ok x)) view
      (appends_ok inside.chronicle new inside.shelf after inside.owed places trade me entry ends x came)

  pub left_err : (X : Type 0) (fault : ProviderFault) → Failed inside.chronicle new entry fault
      → Appends {X = X} trade me entry (desk_of old) left (Err fault)
  left_err X fault failed = subst (λ (p : ProviderState D). Appends {X = X} trade me entry (desk_of p) left
      (Err fault)) view
      (appends_err inside.chronicle new inside.shelf after inside.owed places trade me entry ends X fault failed)

  pub left_any : {X : Type 0} (r : Result X ProviderFault) → OnOk r (Entered inside.chronicle new entry)
      → IfErr r (Failed inside.chronicle new entry) → Appends trade me entry (desk_of old) left r
  left_any (Ok x) came failed = left_ok x came
  left_any {X} (Err fault) came failed = left_err X fault failed

-- the marks of an entry, by the half that a provider's entries come to
module _ {D : Type 0} {seals : Seals} (kept : List Kept) (me : ℕ) (inside old : ProviderState D) (view : inside ≡ old) (entry : Entry)
    (runs : Runs kept seals me old) (trade : Trade) (of : IsOf kept trade) where
  marks_so : (marks : List Mark) → AreMarks kept inside.shelf entry marks
      → marks ≡ map told_mark (marks_by trade me (half trade me old.chronicle.entries) entry)
  marks_so marks are =
      subst (λ (p : ProviderState D). AreMarks kept p.shelf entry marks) view are trade of
      ∙ ap (λ (n : ℕ). map told_mark (marks_by trade n old.shelf.half entry)) runs.is
      ∙ ap (λ (h : Half). map told_mark (marks_by trade me h entry)) (half_runs kept me old trade runs of)

  pub marks_any : (r : Result (Vec Mark Global) ProviderFault)
      → IfOk r (λ marks. AreMarks kept inside.shelf entry marks.items)
      → IfOk r (λ marks. marks.items ≡ map told_mark (marks_by trade me (half trade me old.chronicle.entries) entry))
  marks_any (Ok marks) are = marks_so marks.items are
  marks_any (Err fault) are = tt
