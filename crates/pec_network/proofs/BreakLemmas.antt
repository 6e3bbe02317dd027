-- How a turn ends before all its steps are done.
use Rattle.std.proofs.Common.{◌≡◌, inl, inr, ℕ, Bool, List, [], ◌∷◌, length, refl}
use Rattle.std.proofs.Common.{ap, sym, subst, ◌∙◌, arith, Some, Err}
use Rattle.std.proofs.lemmas.Bool.{false≢true}
use Rattle.std.proofs.lemmas.Option.{same_Some}
use Rattle.pec_types.specs.Bytes.{Bytes}
use Rattle.pec_types.specs.declared.turns.Event.{Event}
use Rattle.pec_types.specs.declared.turns.ProviderFault.{ProviderFault}
use Rattle.pec_types.specs.declared.turns.ProviderFault.TheVariants as faults
use Rattle.pec_records.specs.declared.entries.Entry.{Entry}
use Rattle.pec_records.specs.declared.entries.Entry.TheVariants as entries
use Rattle.pec_ledger.specs.Ledger.{Fit, Journals}
use Rattle.pec_ledger.specs.Pairs.{Pair}
use Rattle.pec_ledger.specs.Trade.{Trade}
use Rattle.pec_screen.specs.Verdicts.{Patterns}
use Rattle.pec_plays.specs.Decisions.{decide, decided_as, kept_looks, undecided}
use Rattle.pec_plays.specs.Reception.{arrive}
use Rattle.pec_plays.specs.Steps.{Step, journal_after}
use Rattle.pec_plays.specs.Turns.{frames_in, plan, without_first}
use Rattle.pec_provider.specs.Provider.{Desk}
use Rattle.pec_provider.specs.Reading.{OnChanged}
use Rattle.pec_provider.specs.Working.{Arrives, Decides, DecidesFirst, Does, FailsToRead, IsAtWork, IsFound, IsUndecided, Works, decide_as}
use Rattle.pec_network.specs.Turning.{Breaks, Ends, IsBroken, IsNotDone, Leads, NoneIsChanged, StopsAt, Waiting}
use Rattle.pec_network.proofs.FrameLemmas.{none_left, none_taken}
use Rattle.pec_network.proofs.LookLemmas.{PairsAreNext, finds_first}
use Rattle.pec_network.proofs.StepLemmas.{Joins, honest_pair, leads_nowhere, leads_then, next_frame, next_pair}

-- where no entry in journals that are Fit is such a one, none is told as changed
pub none_changed_by : (trade : Trade) (me : ℕ) (Is : List Entry → ℕ → Type 0)
    → ((journals : Journals) → Fit trade journals → (number : ℕ) → Is (journals me) number → ⊥)
    → (journal : List Entry) (fault : ProviderFault) → OnChanged (Is journal) fault
    → NoneIsChanged trade me journal (Some fault)
none_changed_by trade me Is law journal fault changed = λ journals fit here number is.
    law journals fit number (subst (λ (j : List Entry). Is j number) (sym here)
    (subst (λ (f : ProviderFault). OnChanged (Is journal) f) (same_Some fault (faults.Changed number) is) changed))

module _ (Stood : Type 0) (trade : Trade) (me now : ℕ) (screens : List Patterns) where
  -- where less is asked of the disk
  broken_for : (Later : Type 0) → (Stood → Later) → (desk new : Desk) (left after : Waiting) (fault : ProviderFault)
      → IsBroken Later trade me now screens desk left fault new after
      → IsBroken Stood trade me now screens desk left fault new after
  broken_for Later so desk new left after fault broken = record {
    step = broken.step;
    looks = broken.looks;
    rest = broken.rest;
    next = broken.next;
    honest = elim broken.honest [
      | inl here ↦ inl here
      | inr other ↦ inr (λ stood. other (so stood))
    ];
    gone = broken.gone;
    not_done = broken.not_done;
    unchanged = λ stood. broken.unchanged (so stood);
  }

  breaks_for : (Later : Type 0) → (Stood → Later) → (desk new : Desk) (left after : Waiting) (fault : ProviderFault)
      → Breaks Later trade me now screens desk left fault new after
      → Breaks Stood trade me now screens desk left fault new after
  breaks_for Later so desk new left after faults.NoMemory breaks = breaks
  breaks_for Later so desk new left after faults.DiskFault breaks =
      broken_for Later so desk new left after faults.DiskFault breaks
  breaks_for Later so desk new left after (faults.Changed which) breaks =
      broken_for Later so desk new left after (faults.Changed which) breaks
  breaks_for Later so desk new left after faults.JournalFull breaks =
      broken_for Later so desk new left after faults.JournalFull breaks
  breaks_for Later so desk new left after faults.Down breaks = absurd breaks
  breaks_for Later so desk new left after (faults.ClockBack moment) breaks = absurd breaks
  breaks_for Later so desk new left after faults.NoAccount breaks = absurd breaks
  breaks_for Later so desk new left after faults.Full breaks = absurd breaks
  breaks_for Later so desk new left after faults.NoItem breaks = absurd breaks
  breaks_for Later so desk new left after faults.OldJournal breaks = absurd breaks
  breaks_for Later so desk new left after faults.NoNeed breaks = absurd breaks

  -- from a place steps were done, and from there the turn ended
  pub leads_ends : (Later : Type 0) → (Stood → Later) → Joins trade me now → (desk mid new : Desk)
      (left between after : Waiting) (events some more : List Event) (fault : ProviderFault)
      → Leads Stood trade me now screens desk left events mid between some
      → Ends Later trade me now screens mid between some fault new after more
      → Ends Stood trade me now screens desk left events fault new after more
  leads_ends Later so joins desk mid new left between after events some more fault first ends = record {
    last = ends.last;
    waits = ends.waits;
    leads = leads_then Stood trade me now screens Later so joins desk mid ends.last left between ends.waits events some
        more first ends.leads;
    breaks = breaks_for Later so ends.last new ends.waits after fault ends.breaks;
  }

  -- it ends right there
  pub ends_here : (desk new : Desk) (left after : Waiting) (events : List Event) (fault : ProviderFault)
      → Breaks Stood trade me now screens desk left fault new after
      → Ends Stood trade me now screens desk left events fault new after events
  ends_here desk new left after events fault breaks = record {
    last = desk;
    waits = left;
    leads = leads_nowhere Stood trade me now screens desk left events;
    breaks = breaks;
  }

  -- ---- on a frame

  at_work_frame : (desk new : Desk) (step : Step) (fault : ProviderFault) → IsAtWork trade me now desk
      → Works trade me now (Does step desk new) desk new (Err fault) → Does step desk new (Err fault)
  at_work_frame desk new step faults.DiskFault works answer = answer.1
  at_work_frame desk new step faults.Down works answer = absurd (false≢true (sym answer.0 ∙ works.up))
  at_work_frame desk new step (faults.ClockBack moment) works answer =
      let late = answer.1 in let time = works.in_time in absurd (omega (arith, late, time))
  at_work_frame desk new step faults.NoAccount works answer = answer.1
  at_work_frame desk new step faults.Full works answer = answer.1
  at_work_frame desk new step faults.NoItem works answer = answer.1
  at_work_frame desk new step (faults.Changed which) works answer = answer.1
  at_work_frame desk new step faults.JournalFull works answer = answer.1
  at_work_frame desk new step faults.OldJournal works answer = answer.1
  at_work_frame desk new step faults.NoNeed works answer = answer.1
  at_work_frame desk new step faults.NoMemory works answer = answer.1

  frame_broken : (desk new : Desk) (left after : Waiting) (frame : Bytes) (fault : ProviderFault)
      → frames_in left ≡ frame ∷ frames_in after → after ≡ without_first 1 left
      → IsNotDone trade me (arrive trade me now desk.journal frame) desk new fault
      → (Stood → NoneIsChanged trade me new.journal (Some fault))
      → IsBroken Stood trade me now screens desk left fault new after
  frame_broken desk new left after frame fault next gone not_done unchanged =
      let step = arrive trade me now desk.journal frame in
      let kept = kept_looks trade me screens in
      let rest = plan trade me now kept (journal_after desk.journal step) (frames_in after) in
      let planned = next_frame Stood trade me now screens kept desk.journal left after frame next in
      record {
        step = step;
        looks = kept;
        rest = rest;
        next = planned;
        honest = inl (rest, planned);
        gone = gone;
        not_done = not_done;
        unchanged = unchanged;
      }

  frame_breaks : (desk new : Desk) (left after : Waiting) (frame : Bytes) (fault : ProviderFault)
      → frames_in left ≡ frame ∷ frames_in after → after ≡ without_first 1 left
      → Does (arrive trade me now desk.journal frame) desk new (Err fault)
      → Breaks Stood trade me now screens desk left fault new after
  frame_breaks desk new left after frame faults.NoMemory next gone does = (does, 1, gone)
  frame_breaks desk new left after frame faults.DiskFault next gone does =
      frame_broken desk new left after frame faults.DiskFault next gone (inl does)
      (λ stood journals fit here number is. cc)
  frame_breaks desk new left after frame faults.JournalFull next gone does =
      frame_broken desk new left after frame faults.JournalFull next gone does
      (λ stood journals fit here number is. cc)
  frame_breaks desk new left after frame faults.Down next gone does = absurd does
  frame_breaks desk new left after frame (faults.ClockBack moment) next gone does = absurd does
  frame_breaks desk new left after frame faults.NoAccount next gone does = absurd does
  frame_breaks desk new left after frame faults.Full next gone does = absurd does
  frame_breaks desk new left after frame faults.NoItem next gone does = absurd does
  frame_breaks desk new left after frame (faults.Changed which) next gone does = absurd does
  frame_breaks desk new left after frame faults.OldJournal next gone does = absurd does
  frame_breaks desk new left after frame faults.NoNeed next gone does = absurd does

  pub frame_ends : (desk new : Desk) (left after : Waiting) (events : List Event) (frame : Bytes)
      (fault : ProviderFault)
      → IsAtWork trade me now desk → frames_in left ≡ frame ∷ frames_in after → after ≡ without_first 1 left
      → Arrives trade me now frame desk new (Err fault)
      → Ends Stood trade me now screens desk left events fault new after events
  frame_ends desk new left after events frame fault works next gone arrives =
      ends_here desk new left after events fault
      (frame_breaks desk new left after frame fault next gone
      (at_work_frame desk new (arrive trade me now desk.journal frame) fault works arrives))

  -- ---- on a pair

  at_work_pair : (found : Bool) (pairs : List Pair) (desk new : Desk) (fault : ProviderFault)
      → IsAtWork trade me now desk
      → Works trade me now (DecidesFirst trade me now found pairs desk new) desk new (Err fault)
      → DecidesFirst trade me now found pairs desk new (Err fault)
  at_work_pair found pairs desk new faults.DiskFault works answer = answer.1
  at_work_pair found pairs desk new faults.Down works answer = absurd (false≢true (sym answer.0 ∙ works.up))
  at_work_pair found pairs desk new (faults.ClockBack moment) works answer =
      let late = answer.1 in let time = works.in_time in absurd (omega (arith, late, time))
  at_work_pair found pairs desk new faults.NoAccount works answer = answer.1
  at_work_pair found pairs desk new faults.Full works answer = answer.1
  at_work_pair found pairs desk new faults.NoItem works answer = answer.1
  at_work_pair found pairs desk new (faults.Changed which) works answer = answer.1
  at_work_pair found pairs desk new faults.JournalFull works answer = answer.1
  at_work_pair found pairs desk new faults.OldJournal works answer = answer.1
  at_work_pair found pairs desk new faults.NoNeed works answer = answer.1
  at_work_pair found pairs desk new faults.NoMemory works answer = answer.1

  -- memory ran out where nothing is left to decide
  nothing_breaks : (found : Bool) (desk new : Desk) (left : Waiting) (fault : ProviderFault)
      → DecidesFirst trade me now found [] desk new (Err fault)
      → Breaks Stood trade me now screens desk left fault new left
  nothing_breaks found desk new left faults.NoMemory same = (same, 0, sym (none_taken left))
  nothing_breaks found desk new left faults.DiskFault none = absurd none
  nothing_breaks found desk new left faults.Down none = absurd none
  nothing_breaks found desk new left (faults.ClockBack moment) none = absurd none
  nothing_breaks found desk new left faults.NoAccount none = absurd none
  nothing_breaks found desk new left faults.Full none = absurd none
  nothing_breaks found desk new left faults.NoItem none = absurd none
  nothing_breaks found desk new left (faults.Changed which) none = absurd none
  nothing_breaks found desk new left faults.JournalFull none = absurd none
  nothing_breaks found desk new left faults.OldJournal none = absurd none
  nothing_breaks found desk new left faults.NoNeed none = absurd none

  -- a decision's entry
  decides_so : (found : Bool) (journal : List Entry) (pair : Pair) → (decide_as trade me now found journal pair).entry
      ≡ Some (entries.Decided now pair.id pair.recipient
      (decided_as trade me (λ (some : List Entry) (one : Pair). found) journal pair))
  unfolding decide
  decides_so found journal pair = refl

  stops_at : (found : Bool) (desk new : Desk) (pair : Pair) → FailsToRead trade me pair desk new
      → StopsAt trade me (decide_as trade me now found desk.journal pair) desk new
  stops_at found desk new pair fails = record {
    moment = now;
    id = pair.id;
    recipient = pair.recipient;
    decision = decided_as trade me (λ (some : List Entry) (one : Pair). found) desk.journal pair;
    entry = decides_so found desk.journal pair;
    account = fails.account;
    stops = fails.stops;
  }

  pair_broken : PairsAreNext trade me now → (found : Bool) (desk new : Desk) (left : Waiting) (pair : Pair)
      (pairs : List Pair) (fault : ProviderFault)
      → undecided trade me desk.journal ≡ pair ∷ pairs → frames_in left ≡ []
      → (Stood → IsFound trade me screens desk.journal found)
      → IsNotDone trade me (decide_as trade me now found desk.journal pair) desk new fault
      → (Stood → NoneIsChanged trade me new.journal (Some fault))
      → IsBroken Stood trade me now screens desk left fault new left
  pair_broken law found desk new left pair pairs fault is none finds not_done unchanged =
      let step = decide_as trade me now found desk.journal pair in
      let kept = kept_looks trade me screens in
      let rest = plan trade me now kept (journal_after desk.journal step) (frames_in left) in
      record {
        step = step;
        looks = finds_first (length desk.journal) found kept;
        rest = rest;
        next = next_pair Stood trade me now screens law found desk left pair pairs none is kept;
        honest = elim (honest_pair Stood trade me now screens law found desk left pair pairs none is finds) [
          | inl here ↦ inl (rest, here)
          | inr other ↦ inr other
        ];
        gone = sym (none_left left 1 none);
        not_done = not_done;
        unchanged = unchanged;
      }

  pair_breaks : PairsAreNext trade me now → (found : Bool) (desk new : Desk) (left : Waiting) (pair : Pair)
      (pairs : List Pair) (fault : ProviderFault)
      → undecided trade me desk.journal ≡ pair ∷ pairs → frames_in left ≡ []
      → (Stood → IsFound trade me screens desk.journal found)
      → (Stood → NoneIsChanged trade me desk.journal (Some fault))
      → IsUndecided trade me pair (decide_as trade me now found desk.journal pair) desk new fault
      → Breaks Stood trade me now screens desk left fault new left
  pair_breaks law found desk new left pair pairs faults.NoMemory is none finds unchanged same =
      (same, 0, sym (none_taken left))
  pair_breaks law found desk new left pair pairs faults.DiskFault is none finds unchanged fails =
      pair_broken law found desk new left pair pairs faults.DiskFault is none finds
      (elim fails [ inl unread ↦ inr (stops_at found desk new pair unread) | inr does ↦ inl does ])
      (λ stood journals fit here number is. cc)
  pair_breaks law found desk new left pair pairs (faults.Changed which) is none finds unchanged fails =
      pair_broken law found desk new left pair pairs (faults.Changed which) is none finds
      (stops_at found desk new pair fails)
      (λ stood. subst (λ (entries : List Entry). NoneIsChanged trade me entries (Some (faults.Changed which)))
      (sym (ap (λ (d : Desk). d.journal) fails.stops.2)) (unchanged stood))
  pair_breaks law found desk new left pair pairs faults.JournalFull is none finds unchanged does =
      pair_broken law found desk new left pair pairs faults.JournalFull is none finds does
      (λ stood journals fit here number is. cc)
  pair_breaks law found desk new left pair pairs faults.Down is none finds unchanged does = absurd does
  pair_breaks law found desk new left pair pairs (faults.ClockBack moment) is none finds unchanged does = absurd does
  pair_breaks law found desk new left pair pairs faults.NoAccount is none finds unchanged does = absurd does
  pair_breaks law found desk new left pair pairs faults.Full is none finds unchanged does = absurd does
  pair_breaks law found desk new left pair pairs faults.NoItem is none finds unchanged does = absurd does
  pair_breaks law found desk new left pair pairs faults.OldJournal is none finds unchanged does = absurd does
  pair_breaks law found desk new left pair pairs faults.NoNeed is none finds unchanged does = absurd does

  first_breaks : PairsAreNext trade me now → (found : Bool) (desk new : Desk) (left : Waiting) (pairs : List Pair)
      (fault : ProviderFault)
      → undecided trade me desk.journal ≡ pairs → frames_in left ≡ []
      → (Stood → IsFound trade me screens desk.journal found)
      → (Stood → NoneIsChanged trade me desk.journal (Some fault))
      → DecidesFirst trade me now found pairs desk new (Err fault)
      → Breaks Stood trade me now screens desk left fault new left
  first_breaks law found desk new left [] fault is none finds unchanged decides =
      nothing_breaks found desk new left fault decides
  first_breaks law found desk new left (pair ∷ pairs) fault is none finds unchanged decides =
      pair_breaks law found desk new left pair pairs fault is none finds unchanged decides

  pub pair_ends : PairsAreNext trade me now → (found : Bool) (desk new : Desk) (left : Waiting) (events : List Event)
      (fault : ProviderFault)
      → IsAtWork trade me now desk → frames_in left ≡ []
      → (Stood → IsFound trade me screens desk.journal found)
      → (Stood → NoneIsChanged trade me desk.journal (Some fault))
      → Decides trade me now found desk new (Err fault)
      → Ends Stood trade me now screens desk left events fault new left events
  pair_ends law found desk new left events fault works none finds unchanged decides =
      ends_here desk new left left events fault
      (first_breaks law found desk new left (undecided trade me desk.journal) fault refl none finds unchanged
      (at_work_pair found (undecided trade me desk.journal) desk new fault works decides))

  -- memory ran out before anything was looked at
  pub memory_ends : (desk : Desk) (left : Waiting) (events : List Event)
      → Ends Stood trade me now screens desk left events faults.NoMemory desk left events
  memory_ends desk left events = ends_here desk desk left left events faults.NoMemory (refl, 0, sym (none_taken left))
