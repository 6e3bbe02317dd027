-- How a turn goes from step to step.
use Rattle.std.proofs.Common.{◌≡◌, ◌⊎◌, inl, inr, ℕ, suc, ◌+◌, ◌≤◌, Bool, false, List, [], ◌∷◌, ◌++◌, length, refl}
use Rattle.std.proofs.Common.{ap, sym, subst, ◌∙◌, append_assoc, arith, Option, Some, None, Ok}
use Rattle.std.specs.Prelude.{Contains}
use Rattle.std.specs.Option.{option_to_list}
use Rattle.std.proofs.lemmas.Grind.{flat_map-append}
use Rattle.std.proofs.lemmas.List.{append-nil, length-append, map-append}
use Rattle.std.proofs.lemmas.List.Elements.{All-append, All-nil, All-push}
use Rattle.std.proofs.lemmas.List.Sums.{fold-append}
use Rattle.pec_types.specs.Bytes.{Bytes}
use Rattle.pec_types.specs.declared.letters.Letter.{Letter}
use Rattle.pec_types.specs.declared.turns.Event.{Event}
use Rattle.pec_outside.specs.DiskModel.{Sight}
use Rattle.pec_records.specs.declared.entries.Entry.{Entry}
use Rattle.pec_ledger.specs.Half.{Half, empty}
use Rattle.pec_ledger.specs.Ledger.{Journals}
use Rattle.pec_ledger.specs.Network.{AreGenuine, IsGenuine}
use Rattle.pec_ledger.specs.Own.{Own}
use Rattle.pec_ledger.specs.Pairs.{Pair}
use Rattle.pec_ledger.specs.Steps.{half, moment_of, step as half_step}
use Rattle.pec_ledger.specs.Trade.{Trade}
use Rattle.pec_ledger.specs.TradeLaws.{IsTrade}
use Rattle.pec_screen.specs.Verdicts.{Patterns}
use Rattle.pec_plays.specs.Decisions.{Looks, decide, kept_looks, undecided}
use Rattle.pec_plays.specs.Reception.{arrive}
use Rattle.pec_plays.specs.Steps.{Step, journal_after}
use Rattle.pec_plays.specs.Turns.{entries_of, events_of, frames_in, last_of, owed_of, plan, without_first}
use Rattle.pec_chronicle.specs.Carrying.{CarriesOn, NothingMay}
use Rattle.pec_chronicle.specs.CarryingLaws.{carries_and_then, carries_nothing}
use Rattle.pec_chronicle.specs.Chronicle.{ChronicleState}
use Rattle.pec_provider.specs.Following.{MayFollow}
use Rattle.pec_provider.specs.Provider.{Desk}
use Rattle.pec_provider.specs.Working.{Arrives, Decides, DecidesFirst, Does, IsAtWork, IsFound, behind, decide_as}
use Rattle.pec_network.specs.Turning.{CarriesFrames, Leads, Waiting, done, honest_plan, plan_at}
use Rattle.pec_network.proofs.FrameLemmas.{none_left, none_taken}
use Rattle.pec_network.proofs.LookLemmas.{PairsAreNext, finds_first, honest_step, pair_step}

-- ---- lists of steps

entries_and : (steps more : List Step) → entries_of (steps ++ more) ≡ entries_of steps ++ entries_of more
entries_and steps more = flat_map-append (λ (s : Step). option_to_list s.entry) steps more

owed_and : (steps more : List Step) → owed_of (steps ++ more) ≡ owed_of steps ++ owed_of more
owed_and steps more = flat_map-append (λ (s : Step). s.owed) steps more

-- ---- records

abbrev desk_with : List Entry → List Letter → Bool → Option Entry → Desk
desk_with journal owed up interrupted = record { journal = journal; owed = owed; up = up; interrupted = interrupted }

desk_same : (journal other : List Entry) (owed more : List Letter) (up : Bool) (interrupted : Option Entry) → journal
    ≡ other → owed ≡ more
    → desk_with journal owed up interrupted ≡ desk_with other more up interrupted
desk_same journal other owed more up interrupted a b = rw (a, b) refl

-- behind no step it is as it was
pub done_none : (desk : Desk) → done desk [] ≡ desk
done_none desk = desk_same (desk.journal ++ []) desk.journal (desk.owed ++ []) desk.owed desk.up desk.interrupted
    (append-nil desk.journal) (append-nil desk.owed)

-- behind one step
done_one : (desk : Desk) (step : Step) → behind desk step ≡ done desk (step ∷ [])
done_one desk step =
    desk_same (desk.journal ++ option_to_list step.entry) (desk.journal ++ (option_to_list step.entry ++ []))
    (desk.owed ++ step.owed) (desk.owed ++ (step.owed ++ [])) desk.up desk.interrupted
    (ap (λ (l : List Entry). desk.journal ++ l) (sym (append-nil (option_to_list step.entry))))
    (ap (λ (l : List Letter). desk.owed ++ l) (sym (append-nil step.owed)))

-- behind some steps and then others
done_and : (desk : Desk) (steps more : List Step) → done (done desk steps) more ≡ done desk (steps ++ more)
done_and desk steps more =
    desk_same ((desk.journal ++ entries_of steps) ++ entries_of more) (desk.journal ++ entries_of (steps ++ more))
    ((desk.owed ++ owed_of steps) ++ owed_of more) (desk.owed ++ owed_of (steps ++ more)) desk.up desk.interrupted
    (append_assoc desk.journal (entries_of steps) (entries_of more)
    ∙ ap (λ (l : List Entry). desk.journal ++ l) (sym (entries_and steps more)))
    (append_assoc desk.owed (owed_of steps) (owed_of more)
    ∙ ap (λ (l : List Letter). desk.owed ++ l) (sym (owed_and steps more)))

-- ---- at work

half_push : (trade : Trade) (me : ℕ) (journal : List Entry) (entry : Entry)
    → half trade me (journal ++ entry ∷ []) ≡ half_step trade me (half trade me journal) entry
unfolding half
half_push trade me journal entry = fold-append (half_step trade me) empty journal (entry ∷ [])

last_push : (trade : Trade) (me now : ℕ) (half : Half) (entry : Entry) → half.last ≤ now → moment_of entry ≡ now
    → (half_step trade me half entry).last ≤ now
unfolding half_step
last_push trade me now half entry l m = omega arith

last_after : (trade : Trade) (me now : ℕ) (journal : List Entry) (o : Option Entry) → last_of trade me journal ≤ now
    → ((entry : Entry) → o ≡ Some entry → moment_of entry ≡ now) → last_of trade me (journal ++ option_to_list o) ≤ now
last_after trade me now journal None l m = subst (λ (j : List Entry). last_of trade me j ≤ now)
    (sym (append-nil journal)) l
last_after trade me now journal (Some entry) l m =
    subst (λ (h : Half). h.last ≤ now) (sym (half_push trade me journal entry))
    (last_push trade me now (half trade me journal) entry l (m entry refl))

module _ (trade : Trade) (me now : ℕ) where
  -- a step leaves the provider at work
  pub works_on : (desk new : Desk) (step : Step) → IsAtWork trade me now desk → new ≡ behind desk step
      → ((entry : Entry) → step.entry ≡ Some entry → moment_of entry ≡ now) → IsAtWork trade me now new
  works_on desk new step works is moment =
      subst (λ (d : Desk). IsAtWork trade me now d) (sym is)
      (record { up = works.up; in_time = last_after trade me now desk.journal step.entry works.in_time moment })

  -- frames are gone one after another
  abbrev pub Joins : Type 0
  Joins = (number further : ℕ) (links : Waiting) → without_first further (without_first number links)
      ≡ without_first (number + further) links

-- ---- from place to place

module _ (Stood : Type 0) (trade : Trade) (me now : ℕ) (screens : List Patterns) where
  -- from a place to itself
  pub leads_nowhere : (desk : Desk) (left : Waiting) (events : List Event)
      → Leads Stood trade me now screens desk left events desk left events
  leads_nowhere desk left events = record {
    steps = [];
    sees = λ ahead. ahead;
    whole = λ ahead. refl;
    honest = inl refl;
    room = All-nil (λ (s : Step). s.full ≡ false);
    here = sym (done_none desk);
    gone = sym (none_taken left);
    told = sym (append-nil events);
  }

  -- one step
  pub leads_step : (desk new : Desk) (left after : Waiting) (events : List Event) (step : Step) (event : Event)
      (sees : Looks → Looks)
      → ((ahead : Looks) → plan_at Stood trade me now screens (sees ahead) desk left
      ≡ step ∷ plan trade me now ahead (journal_after desk.journal step) (frames_in after))
      → (honest_plan Stood trade me now screens desk left
      ≡ step ∷ plan trade me now (kept_looks trade me screens) (journal_after desk.journal step) (frames_in after))
      ⊎ (Stood → ⊥)
      → after ≡ without_first 1 left → Does step desk new (Ok event)
      → Leads Stood trade me now screens desk left events new after (events ++ event ∷ [])
  leads_step desk new left after events step event sees next honest gone does =
      let journal : new.journal ≡ journal_after desk.journal step = ap (λ (d : Desk). d.journal) does.2 in
      let from : (looks : Looks) → step ∷ plan trade me now looks (journal_after desk.journal step) (frames_in after)
      ≡ step ∷ plan trade me now looks new.journal (frames_in after) = λ looks.
      ap (λ (j : List Entry). step ∷ plan trade me now looks j (frames_in after)) (sym journal) in
      record {
        steps = step ∷ [];
        sees = sees;
        whole = λ ahead. next ahead ∙ from ahead;
        honest = elim honest [
          | inl kept ↦ inl (kept ∙ from (kept_looks trade me screens))
          | inr other ↦ inr other
        ];
        room = All-push (λ (s : Step). s.full ≡ false) [] step (All-nil (λ (s : Step). s.full ≡ false)) does.1;
        here = does.2 ∙ done_one desk step;
        gone = gone;
        told = ap (λ (e : Event). events ++ e ∷ []) does.0;
      }

  -- from a place to another, and on to a third; what is asked of the disk there holds where it holds here
  pub leads_then : (Later : Type 0) → (Stood → Later) → Joins trade me now → (desk mid new : Desk)
      (left between after : Waiting) (events some more : List Event)
      → Leads Stood trade me now screens desk left events mid between some
      → Leads Later trade me now screens mid between some new after more
      → Leads Stood trade me now screens desk left events new after more
  leads_then Later so joins desk mid new left between after events some more first second =
      let steps = first.steps in
      let further = second.steps in
      let rest : (looks : Looks) → List Step = λ looks. plan trade me now looks new.journal (frames_in after) in
      record {
        steps = steps ++ further;
        sees = λ ahead. first.sees (second.sees ahead);
        whole = λ ahead.
            first.whole (second.sees ahead) ∙ ap (λ (l : List Step). steps ++ l) (second.whole ahead)
            ∙ sym (append_assoc steps further (rest ahead));
        honest = elim first.honest [
          | inl here ↦ elim second.honest [
            | inl there ↦ inl (here ∙ ap (λ (l : List Step). steps ++ l) there
                ∙ sym (append_assoc steps further (rest (kept_looks trade me screens))))
            | inr other ↦ inr (λ stood. other (so stood))
          ]
          | inr other ↦ inr other
        ];
        room = All-append (λ (s : Step). s.full ≡ false) steps further first.room second.room;
        here = second.here ∙ ap (λ (d : Desk). done d further) first.here ∙ done_and desk steps further;
        gone = second.gone ∙ ap (λ (w : Waiting). without_first (length further) w) first.gone
            ∙ joins (length steps) (length further) left
            ∙ ap (λ (k : ℕ). without_first k left) (sym (length-append steps further));
        told = second.told ∙ ap (λ (l : List Event). l ++ events_of further) first.told
            ∙ append_assoc events (events_of steps) (events_of further)
            ∙ ap (λ (l : List Event). events ++ l) (sym (map-append (λ (s : Step). s.event) steps further));
      }

  -- ---- on a frame

  -- what is appended on a frame is of this moment
  abbrev pub ArrivalsAreOwn : Type 0
  ArrivalsAreOwn = (trade : Trade) → IsTrade trade
      → (provider now : ℕ) (journal : List Entry) (frame : Bytes) (entry : Entry)
      → (arrive trade provider now journal frame).entry ≡ Some entry
      → Own trade provider (half trade provider journal) entry × (moment_of entry ≡ now)

  -- the first frame that waits is handled next
  pub next_frame : (looks : Looks) (journal : List Entry) (left after : Waiting) (frame : Bytes)
      → frames_in left ≡ frame ∷ frames_in after
      → plan trade me now looks journal (frames_in left)
      ≡ arrive trade me now journal frame ∷ plan trade me now looks
      (journal_after journal (arrive trade me now journal frame)) (frames_in after)
  next_frame looks journal left after frame e = ap (λ (l : List Bytes). plan trade me now looks journal l) e

  pub frame_leads : (desk new : Desk) (left after : Waiting) (events : List Event) (frame : Bytes) (event : Event)
      → frames_in left ≡ frame ∷ frames_in after → after ≡ without_first 1 left
      → Arrives trade me now frame desk new (Ok event)
      → Leads Stood trade me now screens desk left events new after (events ++ event ∷ [])
  frame_leads desk new left after events frame event next gone arrives =
      leads_step desk new left after events (arrive trade me now desk.journal frame) event (λ ahead. ahead)
      (λ ahead. next_frame ahead desk.journal left after frame next)
      (inl (next_frame (kept_looks trade me screens) desk.journal left after frame next)) gone arrives.1

  pub frame_works : IsTrade trade → ArrivalsAreOwn → (desk new : Desk) (frame : Bytes) (event : Event)
      → Arrives trade me now frame desk new (Ok event)
      → IsAtWork trade me now new
  frame_works world own desk new frame event arrives =
      works_on trade me now desk new (arrive trade me now desk.journal frame) arrives.0 arrives.1.2
      (λ entry is. (own trade world me now desk.journal frame entry is).1)

  -- ---- on a pair

  -- where no frame waits the first undecided pair is decided next
  pub next_pair : (law : PairsAreNext trade me now) (found : Bool) (desk : Desk) (left : Waiting) (pair : Pair)
      (pairs : List Pair) → frames_in left ≡ [] → undecided trade me desk.journal ≡ pair ∷ pairs → (ahead : Looks)
      → plan_at Stood trade me now screens (finds_first (length desk.journal) found ahead) desk left
      ≡ decide_as trade me now found desk.journal pair
      ∷ plan trade me now ahead (journal_after desk.journal (decide_as trade me now found desk.journal pair))
      (frames_in left)
  next_pair law found desk left pair pairs none is ahead =
      let step = decide_as trade me now found desk.journal pair in
      ap (λ (l : List Bytes). plan trade me now (finds_first (length desk.journal) found ahead) desk.journal l) none
      ∙ pair_step trade me now law found desk.journal pair pairs is ahead
      ∙ ap (λ (l : List Bytes). step ∷ plan trade me now ahead (journal_after desk.journal step) l) (sym none)

  pub honest_pair : (law : PairsAreNext trade me now) (found : Bool) (desk : Desk) (left : Waiting) (pair : Pair)
      (pairs : List Pair) → frames_in left ≡ [] → undecided trade me desk.journal ≡ pair ∷ pairs
      → (Stood → IsFound trade me screens desk.journal found)
      → (honest_plan Stood trade me now screens desk left
      ≡ decide_as trade me now found desk.journal pair
      ∷ plan trade me now (kept_looks trade me screens)
      (journal_after desk.journal (decide_as trade me now found desk.journal pair)) (frames_in left)) ⊎ (Stood → ⊥)
  honest_pair law found desk left pair pairs none is finds =
      let step = decide_as trade me now found desk.journal pair in
      let kept = kept_looks trade me screens in
      elim (honest_step trade me now law found desk.journal pair pairs is Stood screens finds) [
        | inl here ↦ inl (ap (λ (l : List Bytes). plan trade me now kept desk.journal l) none ∙ here
            ∙ ap (λ (l : List Bytes). step ∷ plan trade me now kept (journal_after desk.journal step) l) (sym none))
        | inr other ↦ inr other
      ]

  first_leads : PairsAreNext trade me now → (found : Bool) (desk new : Desk) (left : Waiting) (events : List Event)
      (event : Event) (pairs : List Pair)
      → undecided trade me desk.journal ≡ pairs → frames_in left ≡ []
      → (Stood → IsFound trade me screens desk.journal found)
      → DecidesFirst trade me now found pairs desk new (Ok (Some event))
      → Leads Stood trade me now screens desk left events new left (events ++ event ∷ [])
  first_leads law found desk new left events event [] is none finds decides = absurd decides
  first_leads law found desk new left events event (pair ∷ pairs) is none finds decides =
      leads_step desk new left left events (decide_as trade me now found desk.journal pair) event
      (λ ahead. finds_first (length desk.journal) found ahead)
      (next_pair law found desk left pair pairs none is)
      (honest_pair law found desk left pair pairs none is finds) (sym (none_left left 1 none)) decides

  pub pair_leads : PairsAreNext trade me now → (found : Bool) (desk new : Desk) (left : Waiting) (events : List Event)
      (event : Event) → frames_in left ≡ []
      → (Stood → IsFound trade me screens desk.journal found)
      → Decides trade me now found desk new (Ok (Some event))
      → Leads Stood trade me now screens desk left events new left (events ++ event ∷ [])
  pair_leads law found desk new left events event none finds decides =
      first_leads law found desk new left events event (undecided trade me desk.journal) refl none finds decides.1

  none_same : (found : Bool) (desk new : Desk) (pairs : List Pair) → DecidesFirst trade me now found pairs desk new (Ok None)
      → new ≡ desk
  none_same found desk new [] decides = decides
  none_same found desk new (pair ∷ pairs) decides = absurd decides

  -- where there is no pair nothing is done
  pub nothing_leads : (found : Bool) (desk new : Desk) (left : Waiting) (events : List Event)
      → Decides trade me now found desk new (Ok None) → Leads Stood trade me now screens desk left events new left events
  nothing_leads found desk new left events decides =
      subst (λ (d : Desk). Leads Stood trade me now screens desk left events d left events)
      (sym (none_same found desk new (undecided trade me desk.journal) decides.1)) (leads_nowhere desk left events)

  -- what is appended on a pair is of this moment
  abbrev pub DecisionsAreOwn : Type 0
  DecisionsAreOwn = (trade : Trade) (provider now : ℕ) (looks : Looks) (journal : List Entry) (pair : Pair)
      → Contains (undecided trade provider journal) pair
      → (entry : Entry) → (decide trade provider now looks journal pair).entry ≡ Some entry
      → Own trade provider (half trade provider journal) entry × (moment_of entry ≡ now)

  first_works : DecisionsAreOwn → (found : Bool) (desk new : Desk) (event : Event) (pairs : List Pair)
      → undecided trade me desk.journal ≡ pairs
      → IsAtWork trade me now desk → DecidesFirst trade me now found pairs desk new (Ok (Some event))
      → IsAtWork trade me now new
  first_works own found desk new event [] is works decides = absurd decides
  first_works own found desk new event (pair ∷ pairs) is works decides =
      works_on trade me now desk new (decide_as trade me now found desk.journal pair) works decides.2
      (λ entry there. (own trade me now (λ (entries : List Entry) (one : Pair). found) desk.journal pair
      (subst (λ (l : List Pair). Contains l pair) (sym is) (0, omega arith, refl)) entry there).1)

  pub pair_works : DecisionsAreOwn → (found : Bool) (desk new : Desk) (event : Event)
      → Decides trade me now found desk new (Ok (Some event)) → IsAtWork trade me now new
  pair_works own found desk new event decides =
      first_works own found desk new event (undecided trade me desk.journal) refl decides.0 decides.1

-- ---- disks

-- the first of genuine frames, and the others
pub genuine_parts : (trade : Trade) (journals : Journals) (left after : Waiting) (frame : Bytes) → frames_in left
    ≡ frame ∷ frames_in after
    → AreGenuine trade journals (frames_in left) → IsGenuine trade journals frame
    × AreGenuine trade journals (frames_in after)
genuine_parts trade journals left after frame e genuine =
    let all = subst (λ (l : List Bytes). AreGenuine trade journals l) e genuine in
    (all 0 frame (omega arith), λ k d l. all (suc k) d (omega arith))

pub frames_and_then : {D : Type 0} (sight : D → Sight) (trade : Trade) (me now : ℕ) (old mid new : ChronicleState D)
    (waiting left after : Waiting)
    → CarriesFrames trade me now sight old waiting mid left → CarriesFrames trade me now sight mid left new after
    → CarriesFrames trade me now sight old waiting new after
frames_and_then sight trade me now old mid new waiting left after first second = λ journals fit genuine.
    let so_far = first journals fit genuine in
    let more = second journals fit so_far.1 in
    (carries_and_then sight (MayFollow trade journals me) old mid new so_far.0 more.0, more.1)

-- frames are taken, and nothing is appended
pub frames_rest : {D : Type 0} (sight : D → Sight) (trade : Trade) (me now : ℕ) (old : ChronicleState D)
    (left after : Waiting) (frame : Bytes)
    → frames_in left ≡ frame ∷ frames_in after → CarriesOn sight NothingMay old old
    → CarriesFrames trade me now sight old left old after
frames_rest sight trade me now old left after frame e rests = λ journals fit genuine. (
  carries_nothing sight (MayFollow trade journals me) old old rests,
  (genuine_parts trade journals left after frame e genuine).1,
)

-- frames are handled, and then pairs are decided
pub frames_then_pairs : {D : Type 0} (sight : D → Sight) (trade : Trade) (me now : ℕ) (old mid new : ChronicleState D)
    (waiting left : Waiting)
    → CarriesFrames trade me now sight old waiting mid left
    → ((journals : Journals) → CarriesOn sight (MayFollow trade journals me) mid new)
    → CarriesFrames trade me now sight old waiting new left
frames_then_pairs sight trade me now old mid new waiting left first second = λ journals fit genuine.
    let so_far = first journals fit genuine in
    (carries_and_then sight (MayFollow trade journals me) old mid new so_far.0 (second journals), so_far.1)
