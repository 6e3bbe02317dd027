-- How a shelf and entries over a disk that agree go on: nothing changes, an append fails, or an entry comes.
use Rattle.std.proofs.Common.{◌≡◌, ℕ, ◌+◌, ◌<◌, ◌≤◌, Bool, true, false, List, [], ◌∷◌, ◌++◌, fold, map, refl, sym, ap, subst, ◌∙◌, arith, Option, Some, None}
use Rattle.std.proofs.lemmas.Bool.{false≢true}
use Rattle.std.proofs.lemmas.List.{append-nil}
use Rattle.std.proofs.lemmas.List.Sums.{fold-append}
use Rattle.pec_types.specs.declared.moments.TheConstants.{END_OF_TIME}
use Rattle.pec_types.specs.declared.turns.ProviderFault.{ProviderFault}
use Rattle.pec_types.specs.declared.turns.ProviderFault.TheVariants as faults
use Rattle.pec_types.specs.declared.places.Place.{Place}
use Rattle.pec_directory.specs.Directory.{Kept}
use Rattle.pec_journal.specs.JournalFile.{places_of}
use Rattle.pec_records.specs.Entry.{entry_text}
use Rattle.pec_records.specs.declared.entries.Entry.{Entry}
use Rattle.pec_records.specs.declared.entries.Entry.TheVariants as entries
use Rattle.pec_ledger.specs.Along.{AllAlong}
use Rattle.pec_ledger.specs.Deadlines.{last_tick, ticked_by}
use Rattle.pec_ledger.specs.Half.{Half, empty, joined}
use Rattle.pec_ledger.specs.Ledger.{Begins}
use Rattle.pec_ledger.specs.Network.{chosen}
use Rattle.pec_ledger.specs.OfDirectory.{IsOf}
use Rattle.pec_ledger.specs.Steps.{half, moment_of, size_of, step}
use Rattle.pec_ledger.specs.Trade.{Trade}
use Rattle.pec_plays.specs.Steps.{longest_journal}
use Rattle.pec_chronicle.specs.Carrying.{with_entry}
use Rattle.pec_chronicle.specs.Chronicle.{ChronicleState}
use Rattle.pec_shelf.specs.Prepared.{AreSteps, Goes, IsStep, Prepared, clock_by, prepared, ticked_behind}
use Rattle.pec_shelf.specs.Seen.{HoldsAs, IsFor, Seen}
use Rattle.pec_shelf.specs.declared.certified.Certified.{Certified}
use Rattle.pec_stock.specs.Entering.{Entered, Failed, Same, Torn}
use Rattle.pec_stock.specs.Stock.{Agree, Holds, IsOwn}

-- the half behind one entry more
pub half_push : (trade : Trade) (me : ℕ) (entries : List Entry) (entry : Entry)
    → half trade me (with_entry entries entry) ≡ step trade me (half trade me entries) entry
unfolding half
half_push trade me entries entry = fold-append (step trade me) empty entries (entry ∷ [])

-- what is seen of the shelf is as it was
pub holds_still : (kept : List Kept) (old new : Seen) (entries : List Entry) → Holds kept old entries → HoldsAs old new → Holds kept new entries
holds_still kept old new entries holds same = record {
  is_half = λ trade of. rw (same.0, same.1) (holds.is_half trade of);
  homes = λ trade of. rw (same.1, same.2) (holds.homes trade of);
  in_range = rw same.1 holds.in_range;
  ticked = same.3 ∙ holds.ticked;
  places = same.4 ∙ holds.places;
}

-- the last clock call behind one entry more
tick_push : (entries : List Entry) (entry : Entry) → last_tick (with_entry entries entry) ≡ ticked_by (last_tick entries) entry
tick_push entries entry = fold-append ticked_by 0 entries (entry ∷ [])

-- it is the one that the entry is prepared with
tick_behind : (trade : Trade) (half : Half) (last : ℕ) (entry : Entry) → ticked_behind last (clock_by trade half entry) ≡ ticked_by last entry
tick_behind trade half last (entries.Start provider digest) = refl
tick_behind trade half last (entries.Accepted moment sender message) = refl
tick_behind trade half last (entries.NotAccepted moment sender cause path message) = refl
tick_behind trade half last (entries.Took moment id message) = refl
tick_behind trade half last (entries.Decided moment id recipient decision) = refl
tick_behind trade half last (entries.Charged moment id by) = refl
tick_behind trade half last (entries.Learned moment id recipient decision decided message) = refl
tick_behind trade half last (entries.Acked moment id recipient) = refl
tick_behind trade half last (entries.Ticked moment) = refl
tick_behind trade half last (entries.Anomaly moment accounts message) = refl
tick_behind trade half last (entries.StartTwo provider digest) = refl
tick_behind trade half last (entries.Upgraded moment) = refl
tick_behind trade half last (entries.Archived moment account place) = refl

-- the shelf took in what an entry was prepared as
pub holds_more : (kept : List Kept) (old new : Seen) (entries : List Entry) (entry : Entry) (place : Place) (some : Trade)
    → Holds kept old entries → IsOf kept some
    → ((trade : Trade) → IsOf kept trade → Goes old new (prepared trade old.me old.half entry place))
    → ((trade : Trade) → Goes old new (prepared trade old.me old.half entry place) → new.half ≡ step trade old.me old.half entry)
    → ((trade : Trade) → IsFor trade old → Goes old new (prepared trade old.me old.half entry place) → IsFor trade new)
    → moment_of entry < END_OF_TIME
    → places_of (map entry_text (with_entry entries entry)) ≡ places_of (map entry_text entries) ++ place ∷ []
    → Holds kept new (with_entry entries entry)
holds_more kept old new entries entry place some holds of goes halves homes in_range stands = record {
  is_half = λ trade is. rw (goes trade is).me
      (halves trade (goes trade is) ∙ ap (λ (h : Half). step trade old.me h entry) (holds.is_half trade is) ∙ sym (half_push trade old.me entries entry));
  homes = λ trade is. homes trade (holds.homes trade is) (goes trade is);
  in_range = subst (λ (h : Half). h.last < END_OF_TIME) (sym (goes some of).half) (omega (arith, holds.in_range, in_range));
  ticked = (goes some of).ticked ∙ tick_behind some old.half old.ticked entry ∙ ap (λ (n : ℕ). ticked_by n entry) holds.ticked ∙ sym (tick_push entries entry);
  places = (goes some of).places ∙ ap (λ (l : List Place). l ++ place ∷ []) holds.places ∙ sym stands;
}

-- room was made before
pub goes_from : (old between new : Seen) (ready : Prepared) → HoldsAs old between → Goes between new ready → Goes old new ready
goes_from old between new ready same goes = record {
  me = goes.me ∙ same.0;
  half = goes.half ∙ ap (λ (h : Half). joined h ready.adds) same.1;
  certified = goes.certified ∙ ap (λ (c : List (List Certified)). c ++ ready.certified) same.2;
  ticked = goes.ticked ∙ ap (λ (n : ℕ). ticked_behind n ready.clock) same.3;
  places = goes.places ∙ ap (λ (l : List Place). l ++ ready.place ∷ []) same.4;
}

-- ---- the provider's own entries

own_begins : (list : List Entry) (entry : Entry) → Begins list → Begins (list ++ entry ∷ [])
own_begins [] entry none = absurd none
own_begins (entries.Start number digest ∷ rest) entry begins = tt
own_begins (entries.Accepted moment sender message ∷ rest) entry none = absurd none
own_begins (entries.NotAccepted moment sender cause path message ∷ rest) entry none = absurd none
own_begins (entries.Took moment id message ∷ rest) entry none = absurd none
own_begins (entries.Decided moment id recipient decision ∷ rest) entry none = absurd none
own_begins (entries.Charged moment id by ∷ rest) entry none = absurd none
own_begins (entries.Learned moment id recipient decision decided message ∷ rest) entry none = absurd none
own_begins (entries.Acked moment id recipient ∷ rest) entry none = absurd none
own_begins (entries.Ticked moment ∷ rest) entry none = absurd none
own_begins (entries.Anomaly moment accounts message ∷ rest) entry none = absurd none
own_begins (entries.StartTwo number digest ∷ rest) entry begins = tt
own_begins (entries.Upgraded moment ∷ rest) entry none = absurd none
own_begins (entries.Archived moment account place ∷ rest) entry none = absurd none

along_push : (trade : Trade) (me : ℕ) (from : Half) (entries : List Entry) (entry : Entry)
    → AllAlong (step trade me) (IsStep trade me) from entries → IsStep trade me (fold (step trade me) from entries) entry
    → AllAlong (step trade me) (IsStep trade me) from (entries ++ entry ∷ [])
along_push trade me from [] entry all is = (is, tt)
along_push trade me from (e ∷ es) entry all is = (all.0, along_push trade me (step trade me from e) es entry all.1 is)

pub steps_push : (trade : Trade) (me : ℕ) (list : List Entry) (entry : Entry) → AreSteps trade me list
    → IsStep trade me (half trade me list) entry → AreSteps trade me (with_entry list entry)
unfolding half
steps_push trade me list entry all is = along_push trade me empty list entry all is

pub own_push : (trade : Trade) (me : ℕ) (entries : List Entry) (entry : Entry) → IsOwn trade me entries
    → IsStep trade me (half trade me entries) entry → IsOwn trade me (with_entry entries entry)
unfolding half
own_push trade me entries entry own is =
    record { begins = own_begins entries entry own.begins; steps = along_push trade me empty entries entry own.steps is }

-- where no entry was interrupted there is nothing to choose
nothing_chosen : (list : List Entry) (choice : Bool) → list ++ chosen choice None ≡ list
nothing_chosen list false = append-nil list
nothing_chosen list true = append-nil list

none_chosen : (list : List Entry) (interrupted : Option Entry) (choice : Bool) → interrupted ≡ None → list ++ chosen choice interrupted ≡ list
none_chosen list interrupted choice none = rw none (nothing_chosen list choice)

one_chosen : (trade : Trade) (me : ℕ) (entries : List Entry) (entry : Entry) (choice : Bool) → IsOwn trade me entries
    → IsOwn trade me (with_entry entries entry) → IsOwn trade me (entries ++ chosen choice (Some entry))
one_chosen trade me entries entry false without with = subst (IsOwn trade me) (sym (append-nil entries)) without
one_chosen trade me entries entry true without with = with

-- ---- both

module _ {D : Type 0} (kept : List Kept) (old new : ChronicleState D) (before after : Seen) (agree : Agree kept old before) where
  -- nothing comes
  pub agree_still : Same old new → HoldsAs before after → Agree kept new after
  agree_still same holds = record {
    holds = subst (λ (es : List Entry). Holds kept after es) (sym same.entries) (holds_still kept before after old.entries agree.holds holds);
    ends = λ up. same.end ∙ agree.ends (sym same.down ∙ up) ∙ ap (λ (h : Half). h.end) (sym holds.1);
    whole = λ up. same.interrupted ∙ agree.whole (sym same.down ∙ up);
    own = λ trade of choice. rw (holds.0, same.entries, same.interrupted) (agree.own trade of choice);
  }

  module _ (entry : Entry) (up : old.down ≡ false)
      (is : (trade : Trade) → IsOf kept trade → IsStep trade before.me before.half entry) where
    -- the entries without an interrupted one are the provider's own, and so they are with the entry
    own_before : (trade : Trade) → IsOf kept trade → IsOwn trade before.me old.entries
    own_before trade of =
        subst (IsOwn trade before.me) (none_chosen old.entries old.interrupted false (agree.whole up)) (agree.own trade of false)

    own_after : (trade : Trade) → IsOf kept trade → IsOwn trade before.me (with_entry old.entries entry)
    own_after trade of = own_push trade before.me old.entries entry (own_before trade of)
        (subst (λ (h : Half). IsStep trade before.me h entry) (agree.holds.is_half trade of) (is trade of))

    -- the append of the entry failed
    pub agree_torn : Torn old new entry → HoldsAs before after → Agree kept new after
    agree_torn torn holds = record {
      holds = subst (λ (es : List Entry). Holds kept after es) (sym torn.entries) (holds_still kept before after old.entries agree.holds holds);
      ends = λ so. absurd (false≢true (sym so ∙ torn.down));
      whole = λ so. absurd (false≢true (sym so ∙ torn.down));
      own = λ trade of choice. rw (holds.0, torn.entries, torn.interrupted)
          (one_chosen trade before.me old.entries entry choice (own_before trade of) (own_after trade of));
    }

    -- the entry came
    pub agree_more : Entered old new entry → Holds kept after (with_entry old.entries entry) → after.me ≡ before.me
        → after.half.end ≡ before.half.end + size_of entry → Agree kept new after
    agree_more came holds me end = record {
      holds = subst (λ (es : List Entry). Holds kept after es) (sym came.entries) holds;
      ends = λ so. came.end ∙ ap (λ (n : ℕ). n + size_of entry) (agree.ends up) ∙ sym end;
      whole = λ so. came.interrupted ∙ agree.whole up;
      own = λ trade of choice. rw (me, came.entries)
          (subst (IsOwn trade before.me)
          (sym (none_chosen (with_entry old.entries entry) new.interrupted choice (came.interrupted ∙ agree.whole up))) (own_after trade of));
    }

    -- what agrees after a fault of the append
    pub agree_failed : (fault : ProviderFault) → Failed old new entry fault → HoldsAs before after → Agree kept new after
    agree_failed faults.DiskFault torn holds = agree_torn torn holds
    agree_failed faults.Down none holds = absurd none
    agree_failed (faults.ClockBack moment) none holds = absurd none
    agree_failed faults.NoAccount none holds = absurd none
    agree_failed faults.Full none holds = absurd none
    agree_failed faults.NoItem none holds = absurd none
    agree_failed faults.OldJournal none holds = absurd none
    agree_failed faults.NoNeed none holds = absurd none
    agree_failed faults.JournalFull full holds = agree_still full.same holds
    agree_failed faults.NoMemory same holds = agree_still same holds
    agree_failed (faults.Changed number) none holds = absurd none

    -- the shelf took in what the entry was prepared as, with room made before
    pub agree_taken : (ready : Prepared) (between : Seen) (place : Place) (some : Trade) → IsOf kept some → HoldsAs before between → Goes between after ready
        → ((trade : Trade) → IsOf kept trade → ready ≡ prepared trade before.me before.half entry place)
        → ((trade : Trade) (s t : Seen) (e : Entry) (p : Place) → Goes s t (prepared trade s.me s.half e p) → t.half ≡ step trade s.me s.half e)
        → ((trade : Trade) (s t : Seen) (e : Entry) (p : Place) → IsFor trade s → Goes s t (prepared trade s.me s.half e p) → IsFor trade t)
        → moment_of entry < END_OF_TIME
        → places_of (map entry_text (with_entry old.entries entry)) ≡ places_of (map entry_text old.entries) ++ place ∷ []
        → Entered old new entry → Agree kept new after
    agree_taken ready between place some of same goes prepares halves homes in_range stands came =
        let went = goes_from before between after ready same goes in
        let went_so : (trade : Trade) → IsOf kept trade → Goes before after (prepared trade before.me before.half entry place) =
        λ trade is. subst (Goes before after) (prepares trade is) went in
        agree_more came
        (holds_more kept before after old.entries entry place some agree.holds of went_so
        (λ trade goes. halves trade before after entry place goes) (λ trade for goes. homes trade before after entry place for goes) in_range stands)
        (went_so some of).me (ap (λ (h : Half). h.end) (went_so some of).half)

-- ---- room is made

pub same_but_room : {D : Type 0} (old new : ChronicleState D) (spare : ℕ) → new ≡ record old { spare = spare } → Same old new
same_but_room old new spare e = record {
  entries = ap (λ s. s.entries) e;
  interrupted = ap (λ s. s.interrupted) e;
  down = ap (λ s. s.down) e;
  end = ap (λ s. s.end) e;
}

pub same_and : {D : Type 0} (old mid new : ChronicleState D) → Same old mid → Same mid new → Same old new
same_and old mid new first second = record {
  entries = second.entries ∙ first.entries;
  interrupted = second.interrupted ∙ first.interrupted;
  down = second.down ∙ first.down;
  end = second.end ∙ first.end;
}

module _ {D : Type 0} (old mid new : ChronicleState D) (encoded entry : Entry) (same : Same old mid) (is : encoded ≡ entry) where
  pub entered_from : Entered mid new encoded → Entered old new entry
  entered_from came = record {
    entries = came.entries ∙ (ap (λ (l : List Entry). with_entry l encoded) same.entries ∙ ap (λ (e : Entry). with_entry old.entries e) is);
    interrupted = came.interrupted ∙ same.interrupted;
    down = came.down ∙ same.down;
    end = came.end ∙ (ap (λ (n : ℕ). n + size_of encoded) same.end ∙ ap (λ (e : Entry). old.end + size_of e) is);
    fits = subst (λ (e : Entry). old.end + size_of e ≤ longest_journal) is
        (subst (λ (n : ℕ). n + size_of encoded ≤ longest_journal) same.end came.fits);
  }

  pub failed_from : (fault : ProviderFault) → Failed mid new encoded fault → Failed old new entry fault
  failed_from faults.DiskFault torn = record {
    entries = torn.entries ∙ same.entries;
    interrupted = torn.interrupted ∙ ap Some is;
    down = torn.down;
    fits = subst (λ (e : Entry). old.end + size_of e ≤ longest_journal) is
        (subst (λ (n : ℕ). n + size_of encoded ≤ longest_journal) same.end torn.fits);
  }
  failed_from faults.Down none = absurd none
  failed_from (faults.ClockBack moment) none = absurd none
  failed_from faults.NoAccount none = absurd none
  failed_from faults.Full none = absurd none
  failed_from faults.NoItem none = absurd none
  failed_from faults.OldJournal none = absurd none
  failed_from faults.NoNeed none = absurd none
  failed_from faults.JournalFull full = record {
    same = same_and old mid new same full.same;
    full = subst (λ (e : Entry). longest_journal < old.end + size_of e) is
        (subst (λ (n : ℕ). longest_journal < n + size_of encoded) same.end full.full);
  }
  failed_from faults.NoMemory then = same_and old mid new same then
  failed_from (faults.Changed number) none = absurd none

-- ---- an entry is read

-- all that may change is the disk, and whether it is up
pub agree_kept : {D : Type 0} (kept : List Kept) (old new : ChronicleState D) (shelf : Seen) → Agree kept old shelf → old.down ≡ false
    → new ≡ record old { down = new.down; disk = new.disk } → Agree kept new shelf
agree_kept {D} kept old new shelf agree up same =
    let entries : new.entries ≡ old.entries = ap (λ (s : ChronicleState D). s.entries) same in
    let interrupted : new.interrupted ≡ old.interrupted = ap (λ (s : ChronicleState D). s.interrupted) same in
    let end : new.end ≡ old.end = ap (λ (s : ChronicleState D). s.end) same in
    record {
      holds = subst (λ (l : List Entry). Holds kept shelf l) (sym entries) agree.holds;
      ends = λ so. end ∙ agree.ends up;
      whole = λ so. interrupted ∙ agree.whole up;
      own = λ trade of choice. rw (entries, interrupted) (agree.own trade of choice);
    }
