-- How a turn was cut, by the steps that were done and how it ended.
use Rattle.std.proofs.Common.{◌≡◌, ◌⊎◌, inl, inr, ℕ, ◌+◌, ◌<◌, ◌≤◌, Bool, true, false, List, [], ◌∷◌, ◌++◌, length, take, refl}
use Rattle.std.proofs.Common.{ap, sym, subst, ◌∙◌, append_assoc, arith, Option, Some, None, Err}
use Rattle.std.specs.Prelude.{IsSome, if◌then◌else◌, nat_lt, slice_get}
use Rattle.std.specs.Option.{option_and_then}
use Rattle.std.proofs.lemmas.Bool.{false≢true, le-ltb, lt-ltb}
use Rattle.std.proofs.lemmas.List.{append-nil, length-append, length-map, take_all, take_at}
use Rattle.std.proofs.lemmas.List.Elements.{All-push}
use Rattle.std.proofs.lemmas.Option.{slice_get_past}
use Rattle.pec_types.specs.Bytes.{Bytes}
use Rattle.pec_types.specs.declared.letters.Letter.{Letter}
use Rattle.pec_types.specs.declared.turns.Event.{Event}
use Rattle.pec_types.specs.declared.turns.ProviderFault.{ProviderFault}
use Rattle.pec_types.specs.declared.turns.ProviderFault.TheVariants as faults
use Rattle.pec_records.specs.declared.entries.Entry.{Entry}
use Rattle.pec_ledger.specs.Network.{Site}
use Rattle.pec_ledger.specs.Pairs.{Pair}
use Rattle.pec_ledger.specs.Trade.{Trade}
use Rattle.pec_screen.specs.Verdicts.{Patterns}
use Rattle.pec_plays.specs.Decisions.{Looks, kept_looks, undecided}
use Rattle.pec_plays.specs.Possible.{HaveRoom, IsOfKept, IsOfRead, MayCut, TellsCut}
use Rattle.pec_plays.specs.Steps.{Step}
use Rattle.pec_plays.specs.Turns.{Cut, Fails, Full, Other, Sees, Unread, Whole, Turned, cut_turn, decisions, entries_of}
use Rattle.pec_plays.specs.Turns.{entry_at, events_of, frames_in, last_of, looks_by, not_begun, owed_of, plan, puts_from}
use Rattle.pec_plays.specs.Turns.{steps_of, that_fit, turned, without_first}
use Rattle.pec_provider.specs.Provider.{Desk, site_of, stopped}
use Rattle.pec_provider.specs.Working.{Does, IsAtWork}
use Rattle.pec_network.specs.Turning.{IsBroken, IsForFew, IsFront, Leads, NoneIsChanged, StopsAt, Took, Waiting}
use Rattle.pec_network.specs.Turning.{honest_plan, plan_at}
use Rattle.pec_network.proofs.FrameLemmas.{none_left}
use Rattle.pec_network.proofs.StepLemmas.{Joins}

-- ---- lists of steps

take_seam : (steps : List Step) (step : Step) (rest : List Step) (number : ℕ) → number ≡ length steps
    → take (number + 1) (steps ++ step ∷ rest) ≡ steps ++ step ∷ []
take_seam steps step rest number count =
    ap (λ (l : List Step). take (number + 1) l) (sym (append_assoc steps (step ∷ []) rest))
    ∙ take_at (steps ++ step ∷ []) rest (number + 1)
    (length-append steps (step ∷ []) ∙ (let one : length steps + 1 ≡ number + 1 = omega arith in one))

get_seam : (steps : List Step) (step : Step) (rest : List Step) → slice_get (steps ++ step ∷ rest) (length steps)
    ≡ Some step
get_seam [] step rest = refl
get_seam (first ∷ steps) step rest = get_seam steps step rest

-- ---- records

abbrev site_with : List Entry → Bool → Option Entry → List Patterns → Waiting → Site
site_with journal up interrupted screens waiting = record
    { journal = journal; up = up; interrupted = interrupted; screens = screens; waiting = waiting }

site_same : (journal other : List Entry) (up is_up : Bool) (interrupted entry : Option Entry) (screens : List Patterns)
    (waiting left : Waiting)
    → journal ≡ other → up ≡ is_up → interrupted ≡ entry → waiting ≡ left
    → site_with journal up interrupted screens waiting ≡ site_with other is_up entry screens left
site_same journal other up is_up interrupted entry screens waiting left a b c d = rw (a, b, c, d) refl

abbrev turn_with : Site → List Event → List (List Bytes) → Option ProviderFault → Turned
turn_with site events out ended = record { site = site; events = events; out = out; ended = ended }

turn_same : (site other : Site) (events more : List Event) (out put : List (List Bytes)) (ended : Option ProviderFault)
    → site ≡ other → events ≡ more → out ≡ put
    → turn_with site events out ended ≡ turn_with other more put ended
turn_same site other events more out put ended a b c = rw (a, b, c) refl

if_so : (test : Bool) (one other : Turned) → test ≡ true → (if test then one else other) ≡ one
if_so test one other e = rw e refl

if_not : (test : Bool) (one other : Turned) → test ≡ false → (if test then one else other) ≡ other
if_not test one other e = rw e refl

-- ---- what a turn was

module _ (Stood : Type 0) (trade : Trade) (me now : ℕ) (rooms : ℕ → ℕ) where
  pub took_at_work : (old : Site) (turn : Turned) (cut : Cut) → old.up ≡ true
      → last_of trade me old.journal ≤ now
      → TellsCut turn.ended (length turn.events) cut
      → cut_turn trade me rooms old (steps_of trade me now old cut) cut ≡ turn
      → MayCut trade me (steps_of trade me now old cut) cut
      → (Stood → IsOfKept cut) → IsForFew trade.providers cut
      → (Stood → NoneIsChanged trade me turn.site.journal turn.ended)
      → Took Stood trade me now rooms old turn
  unfolding turned
  took_at_work old turn cut up time tells is may kept few unchanged = record {
    cut = cut;
    tells = tells;
    is = if_so old.up
        (if nat_lt now (last_of trade me old.journal) then not_begun old
        (faults.ClockBack (last_of trade me old.journal))
        else cut_turn trade me rooms old (steps_of trade me now old cut) cut)
        (not_begun old faults.Down) up
        ∙ if_not (nat_lt now (last_of trade me old.journal))
        (not_begun old (faults.ClockBack (last_of trade me old.journal)))
        (cut_turn trade me rooms old (steps_of trade me now old cut) cut)
        (le-ltb now (last_of trade me old.journal) time)
        ∙ is;
    may = λ works late. may;
    kept = kept;
    unchanged = unchanged;
    few = few;
  }

  pub took_down : (old : Site) → old.up ≡ false → Took Stood trade me now rooms old (not_begun old faults.Down)
  unfolding turned
  took_down old down = record {
    cut = Whole;
    tells = refl;
    is = rw down refl;
    may = λ up. absurd (false≢true (sym down ∙ up));
    kept = λ stood. tt;
    unchanged = λ stood journals fit here number is. cc;
    few = tt;
  }

  pub took_late : (old : Site) (moment : ℕ) → old.up ≡ true
      → now < last_of trade me old.journal
      → moment ≡ last_of trade me old.journal → Took Stood trade me now rooms old (not_begun old (faults.ClockBack moment))
  unfolding turned
  took_late old moment up late is = record {
    cut = Whole;
    tells = refl;
    is = rw (up, lt-ltb now (last_of trade me old.journal) late, is) refl;
    may = λ works time. absurd (false≢true (sym time ∙ lt-ltb now (last_of trade me old.journal) late));
    kept = λ stood. tt;
    unchanged = λ stood journals fit here number is. cc;
    few = tt;
  }

  -- Its steps were these, by what was found; and that is what screens find in what was taken, unless the disk gave back
  -- something else.
  pub took_by : (screens : List Patterns) (begun : Desk) (waiting : Waiting) (turn : Turned) (cut : Cut)
      (all : List Step) (looks : Looks)
      → looks_by trade me screens cut ≡ kept_looks trade me screens
      → plan_at Stood trade me now screens looks begun waiting ≡ all
      → (honest_plan Stood trade me now screens begun waiting ≡ all) ⊎ (Stood → ⊥)
      → IsAtWork trade me now begun
      → TellsCut turn.ended (length turn.events) cut
      → cut_turn trade me rooms (site_of begun screens waiting) all cut ≡ turn
      → MayCut trade me all cut → (Stood → IsOfKept cut) → IsForFew trade.providers cut
      → (Stood → NoneIsChanged trade me turn.site.journal turn.ended)
      → Took Stood trade me now rooms (site_of begun screens waiting) turn
  took_by screens begun waiting turn cut all looks plain planned honest works tells is may kept few unchanged =
      let old = site_of begun screens waiting in
      elim honest [
        | inl here ↦
            let so : steps_of trade me now old cut ≡ all =
            ap (λ (l : Looks). plan trade me now l begun.journal (frames_in waiting)) plain ∙ here in
            took_at_work old turn cut works.up works.in_time tells
            (ap (λ (l : List Step). cut_turn trade me rooms old l cut) so ∙ is)
            (subst (λ (l : List Step). MayCut trade me l cut) (sym so) may) kept few unchanged
        | inr other ↦
            took_at_work old turn (Sees looks cut) works.up works.in_time tells
            (ap (λ (l : List Step). cut_turn trade me rooms old l cut) planned ∙ is)
            (subst (λ (l : List Step). MayCut trade me l cut) (sym planned) may)
            (λ stood. absurd (other stood)) few unchanged
      ]

module _ (Stood : Type 0) (trade : Trade) (me now : ℕ) (screens : List Patterns) (begun desk : Desk)
    (waiting left : Waiting) (events : List Event)
    (far : Leads Stood trade me now screens begun waiting [] desk left events) where
  told : events ≡ events_of far.steps
  told = far.told

  count : length events ≡ length far.steps
  count = ap length told ∙ length-map far.steps (λ (s : Step). s.event)

  -- ---- memory ran out

  -- so much of a turn was done, by what screens found
  front_by : (joins : Joins trade me now) (new : Desk) (after : Waiting) (frames : ℕ) → new ≡ desk
      → after ≡ without_first frames left → (looks : Looks) (rest : List Step)
      → plan_at Stood trade me now screens looks begun waiting ≡ far.steps ++ rest
      → (looks ≡ kept_looks trade me screens) ⊎ (Stood → ⊥)
      → IsFront Stood trade me now (site_of begun screens waiting) (site_of new screens after)
  front_by joins new after frames same gone looks rest planned kept =
      let front : take (length far.steps) (plan_at Stood trade me now screens looks begun waiting) ≡ far.steps =
      ap (λ (l : List Step). take (length far.steps) l) planned
      ∙ take_at far.steps rest (length far.steps) refl in
      record {
        looks = looks;
        kept = kept;
        steps = length far.steps;
        frames = length far.steps + frames;
        is = site_same new.journal (begun.journal ++ entries_of
            (take (length far.steps) (plan_at Stood trade me now screens looks begun waiting)))
            new.up begun.up new.interrupted begun.interrupted screens after
            (without_first (length far.steps + frames) waiting)
            (ap (λ (d : Desk). d.journal) same ∙ ap (λ (d : Desk). d.journal) far.here
            ∙ ap (λ (l : List Step). begun.journal ++ entries_of l) (sym front))
            (ap (λ (d : Desk). d.up) same ∙ ap (λ (d : Desk). d.up) far.here)
            (ap (λ (d : Desk). d.interrupted) same ∙ ap (λ (d : Desk). d.interrupted) far.here)
            (gone ∙ ap (λ (w : Waiting). without_first frames w) far.gone
            ∙ joins (length far.steps) frames waiting);
      }

  -- a place of a turn, as a front of it
  pub front_of : (joins : Joins trade me now) (new : Desk) (after : Waiting) (frames : ℕ) → new ≡ desk
      → after ≡ without_first frames left
      → IsFront Stood trade me now (site_of begun screens waiting) (site_of new screens after)
  front_of joins new after frames same gone = elim far.honest [
    | inl here ↦ front_by joins new after frames same gone (kept_looks trade me screens)
        (honest_plan Stood trade me now screens desk left) here (inl refl)
    | inr other ↦ front_by joins new after frames same gone (far.sees (kept_looks trade me screens))
        (honest_plan Stood trade me now screens desk left) (far.whole (kept_looks trade me screens)) (inr other)
  ]

  -- ---- a step wasn't done

  module _ (joins : Joins trade me now) (after : Waiting) (step : Step) (rest : List Step)
      (gone : after ≡ without_first 1 left) where
    abbrev all : List Step
    all = far.steps ++ step ∷ rest

    front : take (length events) all ≡ far.steps
    front = take_at far.steps (step ∷ rest) (length events) (sym count)

    here : slice_get all (length events) ≡ Some step
    here = ap (λ (k : ℕ). slice_get all k) count ∙ get_seam far.steps step rest

    journal_so : desk.journal ≡ begun.journal ++ entries_of (take (length events) all)
    journal_so = ap (λ (d : Desk). d.journal) far.here
        ∙ ap (λ (l : List Step). begun.journal ++ entries_of l) (sym front)

    events_so : events_of (take (length events) all) ≡ events
    events_so = ap events_of front ∙ sym told

    gone_so : after ≡ without_first (length events + 1) waiting
    gone_so = gone ∙ ap (λ (w : Waiting). without_first 1 w) far.gone ∙ joins (length far.steps) 1 waiting
        ∙ ap (λ (k : ℕ). without_first (k + 1) waiting) (sym count)

    room_so : HaveRoom (take (length events) all)
    room_so = subst (λ (l : List Step). HaveRoom l) (sym front) far.room

    entry_so : entry_at all (length events) ≡ step.entry
    entry_so = ap (λ (o : Option Step). option_and_then (λ (s : Step). s.entry) o) here

    more_room : step.full ≡ false → HaveRoom (take (length events + 1) all)
    more_room full = subst (λ (l : List Step). HaveRoom l)
        (sym (take_seam far.steps step rest (length events) count))
        (All-push (λ (s : Step). s.full ≡ false) far.steps step far.room full)

    abbrev cut : List Step
    cut = take (length events) all

    abbrev ended : Desk → ProviderFault → Turned
    ended new fault = turn_with (site_of new screens after) events [] (Some fault)

    -- it ended so: its desk is down, with this entry interrupted, or none
    down_so : (new : Desk) (rooms : ℕ → ℕ) (fault : ProviderFault) (entry : Option Entry)
        → new.journal ≡ desk.journal → new.up ≡ false → new.interrupted ≡ entry
        → turn_with (site_with (begun.journal ++ entries_of cut) false entry screens
        (without_first (length events + 1) waiting)) (events_of cut) [] (Some fault) ≡ ended new fault
    down_so new rooms fault entry journal up interrupted =
        turn_same
        (site_with (begun.journal ++ entries_of cut) false entry screens (without_first (length events + 1) waiting))
        (site_of new screens after) (events_of cut) events [] [] (Some fault)
        (site_same (begun.journal ++ entries_of cut) new.journal false new.up entry new.interrupted screens
        (without_first (length events + 1) waiting) after
        (sym (journal ∙ journal_so)) (sym up) (sym interrupted) (sym gone_so))
        events_so refl

    -- the append of its entry failed
    append_so : (new : Desk) → Does step desk new (Err faults.DiskFault) → (rooms : ℕ → ℕ)
        → cut_turn trade me rooms (site_of begun screens waiting) all (Fails (length events) faults.DiskFault)
        ≡ ended new faults.DiskFault
    append_so new does rooms =
        down_so new rooms faults.DiskFault (entry_at all (length events)) (ap (λ (d : Desk). d.journal) does.3)
        (ap (λ (d : Desk). d.up) does.3)
        (ap (λ (d : Desk). d.interrupted) does.3 ∙ sym (entry_so ∙ does.1))

    append_may : (new : Desk) → Does step desk new (Err faults.DiskFault)
        → MayCut trade me all (Fails (length events) faults.DiskFault)
    append_may new does = (
      more_room does.2,
      inl (refl, subst (λ (o : Option Entry). IsSome o) (sym (entry_so ∙ does.1)) refl),
    )

    -- the journal was full
    full_so : (new : Desk) → Does step desk new (Err faults.JournalFull) → (rooms : ℕ → ℕ)
        → cut_turn trade me rooms (site_of begun screens waiting) all (Full (length events))
        ≡ ended new faults.JournalFull
    full_so new does rooms =
        turn_same
        (site_with (begun.journal ++ entries_of cut) begun.up begun.interrupted screens
        (without_first (length events + 1) waiting))
        (site_of new screens after) (events_of cut) events [] [] (Some faults.JournalFull)
        (site_same (begun.journal ++ entries_of cut) new.journal begun.up new.up begun.interrupted new.interrupted screens
        (without_first (length events + 1) waiting) after
        (sym (ap (λ (d : Desk). d.journal) does.1 ∙ journal_so))
        (sym (ap (λ (d : Desk). d.up) does.1 ∙ ap (λ (d : Desk). d.up) far.here))
        (sym (ap (λ (d : Desk). d.interrupted) does.1 ∙ ap (λ (d : Desk). d.interrupted) far.here))
        (sym gone_so))
        events_so refl

    full_may : (new : Desk) → Does step desk new (Err faults.JournalFull) → MayCut trade me all (Full (length events))
    full_may new does = record { before = room_so; step = step; there = here; full = does.0 }

    -- the read before it failed
    unread_so : (new : Desk) (fault : ProviderFault) → StopsAt trade me step desk new → (rooms : ℕ → ℕ)
        → cut_turn trade me rooms (site_of begun screens waiting) all (Unread (length events) fault) ≡ ended new fault
    unread_so new fault stops rooms =
        down_so new rooms fault None (ap (λ (d : Desk). d.journal) stops.stops.2)
        (ap (λ (d : Desk). d.up) stops.stops.2)
        (ap (λ (d : Desk). d.interrupted) stops.stops.2 ∙ stops.stops.1)

    unread_may : (new : Desk) (fault : ProviderFault) → StopsAt trade me step desk new → IsOfRead fault
        → MayCut trade me all (Unread (length events) fault)
    unread_may new fault stops is = (
      room_so,
      is,
      record {
        moment = stops.moment;
        id = stops.id;
        recipient = stops.recipient;
        decision = stops.decision;
        there = entry_so ∙ stops.entry;
        account = stops.account;
      },
    )

  -- what was found, where the next step wasn't done
  module _ (joins : Joins trade me now) (new : Desk) (after : Waiting) (fault : ProviderFault)
      (broken : IsBroken Stood trade me now screens desk left fault new after) (works : IsAtWork trade me now begun)
      (rooms : ℕ → ℕ) where
    abbrev turn : Turned
    turn = turn_with (site_of new screens after) events [] (Some fault)

    -- whichever steps would have come behind, it was cut so
    abbrev IsCutAnyway : Cut → Type 0
    IsCutAnyway cut =
        (rest : List Step)
        → (cut_turn trade me rooms (site_of begun screens waiting) (far.steps ++ broken.step ∷ rest) cut ≡ turn)
        × MayCut trade me (far.steps ++ broken.step ∷ rest) cut

    -- the disk gave back something else
    took_otherwise : (cut : Cut) → looks_by trade me screens cut ≡ kept_looks trade me screens
        → TellsCut (Some fault) (length events) cut → IsCutAnyway cut → IsForFew trade.providers cut → (Stood → ⊥)
        → Took Stood trade me now rooms (site_of begun screens waiting) turn
    took_otherwise cut plain tells is few other =
        let looks = far.sees broken.looks in
        let planned : plan_at Stood trade me now screens looks begun waiting
        ≡ far.steps ++ broken.step ∷ broken.rest =
        far.whole broken.looks ∙ ap (λ (l : List Step). far.steps ++ l) broken.next in
        took_by Stood trade me now rooms screens begun waiting turn cut (far.steps ++ broken.step ∷ broken.rest) looks
        plain planned (inr other) works tells (is broken.rest).0 (is broken.rest).1 (λ stood. absurd (other stood)) few
        broken.unchanged

    took_broken : (cut : Cut) → looks_by trade me screens cut ≡ kept_looks trade me screens
        → TellsCut (Some fault) (length events) cut → IsCutAnyway cut → (Stood → IsOfKept cut)
        → IsForFew trade.providers cut
        → Took Stood trade me now rooms (site_of begun screens waiting) turn
    took_broken cut plain tells is kept few =
        elim far.honest [
          | inl so_far ↦ elim broken.honest [
            | inl here ↦
                let planned : honest_plan Stood trade me now screens begun waiting
                ≡ far.steps ++ broken.step ∷ here.0 = so_far ∙ ap (λ (l : List Step). far.steps ++ l) here.1 in
                took_by Stood trade me now rooms screens begun waiting turn cut (far.steps ++ broken.step ∷ here.0)
                (kept_looks trade me screens) plain planned (inl planned) works tells (is here.0).0 (is here.0).1
                kept few broken.unchanged
            | inr other ↦ took_otherwise cut plain tells is few other
          ]
          | inr other ↦ took_otherwise cut plain tells is few other
        ]

  -- the turn ended at a step that wasn't done
  pub took_not_done : (joins : Joins trade me now) (new : Desk) (after : Waiting) (fault : ProviderFault)
      → IsBroken Stood trade me now screens desk left fault new after → IsAtWork trade me now begun → (rooms : ℕ → ℕ)
      → Took Stood trade me now rooms (site_of begun screens waiting)
      (turn_with (site_of new screens after) events [] (Some fault))
  took_not_done joins new after faults.DiskFault broken works rooms =
      elim broken.not_done [
        | inl does ↦
            took_broken joins new after faults.DiskFault broken works rooms (Fails (length events) faults.DiskFault)
            refl refl
            (λ rest. (
              append_so joins after broken.step rest broken.gone new does rooms,
              append_may joins after broken.step rest broken.gone new does,
            )) (λ stood. tt) tt
        | inr stops ↦
            took_broken joins new after faults.DiskFault broken works rooms (Unread (length events) faults.DiskFault)
            refl refl
            (λ rest. (
              unread_so joins after broken.step rest broken.gone new faults.DiskFault stops rooms,
              unread_may joins after broken.step rest broken.gone new faults.DiskFault stops tt,
            )) (λ stood. tt) tt
      ]
  took_not_done joins new after (faults.Changed which) broken works rooms =
      took_broken joins new after (faults.Changed which) broken works rooms
      (Unread (length events) (faults.Changed which)) refl refl
      (λ rest. (
        unread_so joins after broken.step rest broken.gone new (faults.Changed which) broken.not_done rooms,
        unread_may joins after broken.step rest broken.gone new (faults.Changed which) broken.not_done tt,
      )) (λ stood. tt) tt
  took_not_done joins new after faults.JournalFull broken works rooms =
      took_broken joins new after faults.JournalFull broken works rooms (Full (length events)) refl refl
      (λ rest. (
        full_so joins after broken.step rest broken.gone new broken.not_done rooms,
        full_may joins after broken.step rest broken.gone new broken.not_done,
      )) (λ stood. tt) tt
  took_not_done joins new after faults.Down broken works rooms = absurd broken.not_done
  took_not_done joins new after (faults.ClockBack moment) broken works rooms = absurd broken.not_done
  took_not_done joins new after faults.NoAccount broken works rooms = absurd broken.not_done
  took_not_done joins new after faults.Full broken works rooms = absurd broken.not_done
  took_not_done joins new after faults.NoItem broken works rooms = absurd broken.not_done
  took_not_done joins new after faults.OldJournal broken works rooms = absurd broken.not_done
  took_not_done joins new after faults.NoNeed broken works rooms = absurd broken.not_done
  took_not_done joins new after faults.NoMemory broken works rooms = absurd broken.not_done

  -- ---- all steps were done

  -- Nothing is left to do.
  module _ (none : frames_in left ≡ []) (decided : undecided trade me desk.journal ≡ []) where
    nothing_left : (looks : Looks) → plan_at Stood trade me now screens looks desk left ≡ []
    nothing_left looks =
        ap (λ (l : List Bytes). plan trade me now looks desk.journal l) none
        ∙ ap (λ (l : List Pair). decisions trade me now looks desk.journal l) decided

    -- by what was found, these were all
    pub all_done : plan_at Stood trade me now screens (far.sees (kept_looks trade me screens)) begun waiting ≡ far.steps
    all_done =
        far.whole (kept_looks trade me screens)
        ∙ ap (λ (l : List Step). far.steps ++ l) (nothing_left (kept_looks trade me screens)) ∙ append-nil far.steps

    pub all_honest : (honest_plan Stood trade me now screens begun waiting ≡ far.steps) ⊎ (Stood → ⊥)
    all_honest = elim far.honest [
      | inl here ↦ inl (here ∙ ap (λ (l : List Step). far.steps ++ l) (nothing_left (kept_looks trade me screens))
          ∙ append-nil far.steps)
      | inr other ↦ inr other
    ]

    all_entries : begun.journal ++ entries_of far.steps ≡ desk.journal
    all_entries = sym (ap (λ (d : Desk). d.journal) far.here)

    all_there : site_with (begun.journal ++ entries_of far.steps) begun.up begun.interrupted screens
        (without_first (length far.steps) waiting)
        ≡ site_of desk screens left
    all_there =
        site_same (begun.journal ++ entries_of far.steps) desk.journal begun.up desk.up begun.interrupted
        desk.interrupted screens (without_first (length far.steps) waiting) left all_entries
        (sym (ap (λ (d : Desk). d.up) far.here))
        (sym (ap (λ (d : Desk). d.interrupted) far.here))
        (sym far.gone)

    -- what is due is put
    pub whole_of : begun.owed ≡ [] → (rooms : ℕ → ℕ)
        → cut_turn trade me rooms (site_of begun screens waiting) far.steps Whole
        ≡ turn_with (site_of desk screens left) events
        (puts_from trade me desk.journal rooms desk.owed 0 trade.providers) None
    whole_of owed rooms =
        let due : owed_of far.steps ≡ desk.owed =
        sym (ap (λ (d : Desk). d.owed) far.here ∙ ap (λ (l : List Letter). l ++ owed_of far.steps) owed) in
        turn_same
        (site_with (begun.journal ++ entries_of far.steps) begun.up begun.interrupted screens
        (without_first (length far.steps) waiting))
        (site_of desk screens left) (events_of far.steps) events
        (puts_from trade me (begun.journal ++ entries_of far.steps) rooms (owed_of far.steps) 0 trade.providers)
        (puts_from trade me desk.journal rooms desk.owed 0 trade.providers) None
        all_there (sym told)
        (ap (λ (j : List Entry). puts_from trade me j rooms (owed_of far.steps) 0 trade.providers) all_entries
        ∙ ap (λ (l : List Letter). puts_from trade me desk.journal rooms l 0 trade.providers) due)

    -- other frames are put
    pub other_of : (rooms : ℕ → ℕ) (out : List (List Bytes)) → that_fit rooms 0 out ≡ out
        → cut_turn trade me rooms (site_of begun screens waiting) far.steps (Other out)
        ≡ turn_with (site_of desk screens left) events out None
    other_of rooms out fit =
        turn_same
        (site_with (begun.journal ++ entries_of far.steps) begun.up begun.interrupted screens
        (without_first (length far.steps) waiting))
        (site_of desk screens left) (events_of far.steps) events (that_fit rooms 0 out) out None all_there (sym told) fit

    -- ---- a read fails behind them

    front_all : (number : ℕ) → length events ≤ number → take number far.steps ≡ far.steps
    front_all number l = let e = count in take_all number far.steps (omega (arith, e, l))

    pub unread_of : Joins trade me now → desk.interrupted ≡ None → (rooms : ℕ → ℕ) (fault : ProviderFault)
        → cut_turn trade me rooms (site_of begun screens waiting) far.steps (Fails (length events) fault)
        ≡ turn_with (site_of (stopped desk) screens left) events [] (Some fault)
    unread_of joins whole rooms fault =
        let front = front_all (length events) (omega arith) in
        let more : without_first (length events + 1) waiting ≡ left =
        sym (joins (length events) 1 waiting)
        ∙ ap (λ (w : Waiting). without_first 1 w)
        (ap (λ (k : ℕ). without_first k waiting) count ∙ sym far.gone)
        ∙ none_left left 1 none in
        let past : entry_at far.steps (length events) ≡ None =
        ap (λ (o : Option Step). option_and_then (λ (s : Step). s.entry) o)
        (slice_get_past far.steps (length events) (let e = count in omega (arith, e))) in
        turn_same
        (site_with (begun.journal ++ entries_of (take (length events) far.steps)) false
        (entry_at far.steps (length events)) screens
        (without_first (length events + 1) waiting))
        (site_of (stopped desk) screens left) (events_of (take (length events) far.steps)) events [] [] (Some fault)
        (site_same (begun.journal ++ entries_of (take (length events) far.steps)) desk.journal false false
        (entry_at far.steps (length events)) desk.interrupted screens
        (without_first (length events + 1) waiting) left
        (ap (λ (l : List Step). begun.journal ++ entries_of l) front ∙ all_entries)
        refl (past ∙ sym whole) more)
        (ap events_of front ∙ sym told) refl

    pub unread_all : (fault : ProviderFault) → IsOfRead fault → MayCut trade me far.steps (Fails (length events) fault)
    unread_all fault is = (
      subst (λ (l : List Step). HaveRoom l) (sym (front_all (length events + 1) (omega arith))) far.room,
      inr (count, is),
    )
