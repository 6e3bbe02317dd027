-- The turns of a round, provider by provider: what is true when the workers of those before a number are done
-- (`WorkedSoFar`, and `TurnsSoFar` where each told its turn), and that one turn more keeps it.
use Rattle.std.proofs.Common.{◌≡◌, ℕ, zero, suc, ◌+◌, ◌-◌, ◌<◌, ◌≤◌, List, [], ◌∷◌, ◌++◌, length, map}
use Rattle.std.proofs.Common.{get_or, set, refl, ap, sym, subst, ◌∙◌, ◌⊎◌, inl, inr, arith, Some, Ok, Err}
use Rattle.std.specs.Prelude.{All, OnErr, Result}
use Rattle.std.proofs.lemmas.Bool.{cases_eq, cases_lt}
use Rattle.std.proofs.lemmas.List.{get_or-map, get_or-set_other, get_or-set_same}
use Rattle.std.proofs.lemmas.List.{get_or_append_left, get_or_default, get_or_past, length-append, length-map}
use Rattle.std.proofs.lemmas.List.{length-set}
use Rattle.std.proofs.Math.Seq.{get_or-append_seam}
use Rattle.std.proofs.lemmas.Option.{none-some}
use Rattle.pec_types.specs.Bytes.{Bytes}
use Rattle.pec_types.specs.declared.turns.ProviderFault.TheVariants as faults
use Rattle.pec_types.specs.declared.turns.Turn.{Turn}
use Rattle.pec_outside.specs.DiskModel.{Sight}
use Rattle.pec_outside.specs.Flow.{HasRisen}
use Rattle.pec_directory.specs.Directory.{Kept}
use Rattle.pec_ledger.specs.Ledger.{Fit, Journals}
use Rattle.pec_ledger.specs.Network.{AreGenuine, Site, site_at}
use Rattle.pec_ledger.specs.Trade.{Trade}
use Rattle.pec_plays.specs.Rounds.{delivered_to, link_size, rooms_of, with_waiting}
use Rattle.pec_plays.specs.Turns.{frames_in}
use Rattle.pec_chronicle.specs.Carrying.{CarriesOn, NothingMay}
use Rattle.pec_chronicle.specs.CarryingLaws.{carries_nothing}
use Rattle.pec_chronicle.specs.Chronicle.{ChronicleState, Stands}
use Rattle.pec_posts.specs.Arrivals.{Waiting, deliveries, room_on, waiting_for, waiting_from}
use Rattle.pec_provider.specs.Following.{MayFollow}
use Rattle.pec_provider.specs.Provider.{ProviderState, Runs, desk_of, site_of}
use Rattle.pec_network.specs.Turning.{CarriesFrames, StopsShort, Took, room_in, told_of, turn_of}
use Rattle.pec_screen.specs.Verdicts.{Patterns}
use Rattle.pec_seal.specs.Seals.{Seals}
use Rattle.pec_network.specs.Carrying.{AllCarryOn, AllStand, NoneFalls}
use Rattle.pec_network.specs.Network.{IsOfDirectory, sites_of}
use Rattle.pec_network.specs.Rounds.{AreRooms, BlamesDisks, FramesAreGenuine, IsRound, KeepsSound, StopsOver}
use Rattle.pec_network.proofs.ProviderLemmas.{whole_at, whole_with}
use Rattle.pec_network.proofs.RoundLemmas.{AllHad, HadTurn, HasFront, HaveFronts, front_of, front_short, fronts_more}
use Rattle.pec_network.proofs.RoundLemmas.{get_push, had_more, is_round, no_turn_yet, stops_within}
use Rattle.pec_network.proofs.SiteLemmas.{both_change, desk_stays, site_delivered, site_is, sites_count, waiting_at}
use Rattle.pec_network.proofs.TurnLemmas.{turned_alike}

-- ---- rooms

-- the rooms of the provider of a number are those of the sites
room_at : (from : ℕ) (arrivals : List Waiting) (to : ℕ) → to < length arrivals
    → room_in (map (room_on from) arrivals) to ≡ room_on from (waiting_for arrivals to)
room_at from arrivals to within = get_or-map (room_on from) arrivals to [] 0 within

pub room_small : (from : ℕ) (arrivals : List Waiting) (rooms : List ℕ) (to : ℕ) → rooms ≡ map (room_on from) arrivals
    → room_in rooms to ≤ link_size
room_small from arrivals rooms to is =
    elim (cases_lt to (length arrivals)) [
      | inl within ↦
          let e = ap (λ (l : List ℕ). room_in l to) is ∙ room_at from arrivals to within in omega (arith, e)
      | inr past ↦
          let e = ap (λ (l : List ℕ). room_in l to) is
          ∙ get_or_past (map (room_on from) arrivals) to 0
          (let size = length-map arrivals (room_on from) in omega arith) in
          omega (arith, e)
    ]

module _ {D : Type 0} (Tells : Type 0) (sight : D → Sight) (count : D → ℕ) (kept : List Kept) (seals : Seals)
    (trade : Trade) (moment : ℕ)
    (old : List (ProviderState D)) (screens : List (List Patterns)) (waited : List Waiting) where
  -- the state as the round began
  abbrev before : List Site
  before = sites_of old screens waited

  -- the disks tell what they hold, and what was kept stood on them
  abbrev AllStood : Type 0
  AllStood = Tells × AllStand sight old

  -- The workers of the providers before a number are done; the other providers are as they were.
  pub record WorkedSoFar (number : ℕ) (now : List (ProviderState D)) (waiting : List Waiting) : Type 0 where
    pub whole : IsOfDirectory kept seals now waiting
    pub next : (k : ℕ) (other : ProviderState D) → number ≤ k → get_or now k other ≡ get_or old k other
    pub waits : (k : ℕ) → number ≤ k → waiting_for waiting k ≡ waiting_for waited k
    pub fronts : HaveFronts AllStood trade moment before (sites_of now screens waiting)
    pub carries : Tells → (journals : Journals) → Fit trade journals → FramesAreGenuine trade journals before
        → AllCarryOn sight trade journals old now
    pub stands : Tells → AllStand sight old → AllStand sight now
    pub later : NoneFalls count old now

  -- Their turns were these, and put this.
  pub record TurnsSoFar (number : ℕ) (now : List (ProviderState D)) (waiting : List Waiting) (turns : List Turn)
      (outs : List (List (List Bytes))) : Type 0 where
    pub told : length turns ≡ number
    pub puts : length outs ≡ number
    pub had : AllHad AllStood trade moment before (sites_of now screens waiting) turns outs
    pub blames : BlamesDisks count turns old now

  pub begun : IsOfDirectory kept seals old waited
      → (Tells → (state : ChronicleState D) → CarriesOn sight NothingMay state state) → WorkedSoFar 0 old waited
  begun whole rests = record {
    whole = whole;
    next = λ k other l. refl;
    waits = λ k l. refl;
    fronts = no_turn_yet AllStood trade moment before;
    carries = λ tells journals fit genuine k other l.
        carries_nothing sight (MayFollow trade journals k) (get_or old k other).chronicle (get_or old k other).chronicle
        (rests tells (get_or old k other).chronicle);
    stands = λ tells stands. stands;
    later = λ k other l. omega arith;
  }

  pub no_turns : TurnsSoFar 0 old waited [] []
  no_turns = record {
    told = refl;
    puts = refl;
    had = λ k turn e. absurd (none-some turn e);
    blames = λ k turn e ended. absurd (none-some turn e);
  }

  module _ (whole_before : IsOfDirectory kept seals old waited) (all_of : trade.providers ≡ length kept) where
    same_before : length waited ≡ length old
    same_before = whole_before.links ∙ sym whole_before.count

    -- ---- one turn more

    module _ (number : ℕ) (now : List (ProviderState D)) (waiting : List Waiting) (was new : ProviderState D)
        (links left : Waiting) (so_far : WorkedSoFar number now waiting)
        (within : number < length now) (here : was ≡ get_or now number was)
        (there : links ≡ get_or waiting number links) where
      many : length now ≡ length old
      many = so_far.whole.count ∙ sym whole_before.count

      as_many : length waiting ≡ length now
      as_many = so_far.whole.links ∙ sym so_far.whole.count

      was_old : (other : ProviderState D) → get_or old number other ≡ was
      was_old other = sym (so_far.next number other (omega arith)) ∙ get_or_default now number other was within
          ∙ sym here

      pub links_are : links ≡ waiting_for waiting number
      links_are = there ∙ get_or_default waiting number links [] (let e = as_many in omega arith)

      links_old : waiting_for waited number ≡ links
      links_old = sym (so_far.waits number (omega arith)) ∙ sym links_are

      -- the patterns of its screens
      abbrev boxes : List Patterns
      boxes = get_or screens number []

      -- it stood as the round began
      stood : site_of (desk_of was) boxes links ≡ site_at before number
      stood =
          sym (site_is old screens waited number was (let e = many in omega arith)
          ∙ ap (λ (p : ProviderState D). site_of (desk_of p) boxes (waiting_for waited number)) (was_old was)
          ∙ ap (λ (w : Waiting). site_of (desk_of was) boxes w) links_old)

      abbrev later_now : List (ProviderState D)
      later_now = set now number new

      abbrev later_waiting : List Waiting
      later_waiting = set waiting number left

      abbrev behind : Site
      behind = site_of (desk_of new) boxes left

      sites_more : sites_of later_now screens later_waiting ≡ set (sites_of now screens waiting) number behind
      sites_more = both_change now screens waiting number new left within as_many

      pub whole_more : Runs kept seals number new → new.owed ≡ [] → length left ≡ length links
          → IsOfDirectory kept seals later_now later_waiting
      whole_more runs owed same =
          whole_at now number new within kept later_waiting
          (whole_with kept now waiting number left so_far.whole (let e = as_many in omega arith)
          (same ∙ ap (λ (w : Waiting). length w) links_are))
          runs owed

      -- what holds of each provider from the old one to the new one
      each_more : (R : ℕ → ProviderState D → ProviderState D → Type 0)
          → ((k : ℕ) (other : ProviderState D) → k < length old → R k (get_or old k other) (get_or now k other))
          → R number was new
          → (k : ℕ) (other : ProviderState D) → k < length old → R k (get_or old k other) (get_or later_now k other)
      each_more R each more k other l =
          elim (cases_eq k number) [
            | inl same ↦
                subst (λ (n : ℕ). R n (get_or old n other) (get_or later_now n other)) (sym same)
                (subst (λ (p : ProviderState D). R number p (get_or later_now number other)) (sym (was_old other))
                (subst (λ (p : ProviderState D). R number was p)
                (sym (get_or-set_same now number new other within)) more))
            | inr apart ↦
                subst (λ (p : ProviderState D). R k (get_or old k other) p)
                (sym (get_or-set_other now number k new other apart)) (each k other l)
          ]

      pub carries_more : (Tells → CarriesFrames trade number moment sight was.chronicle links new.chronicle left)
          → Tells → (journals : Journals) → Fit trade journals → FramesAreGenuine trade journals before
          → AllCarryOn sight trade journals old later_now
      carries_more carries tells journals fit genuine =
          let frames : AreGenuine trade journals (frames_in links) =
          subst (λ (s : Site). AreGenuine trade journals (frames_in s.waiting)) (sym stood) (genuine number) in
          each_more (λ (k : ℕ) (o n : ProviderState D).
          CarriesOn sight (MayFollow trade journals k) o.chronicle n.chronicle)
          (so_far.carries tells journals fit genuine) (carries tells journals fit frames).0

      pub stands_more : (Tells → Stands sight was.chronicle → Stands sight new.chronicle) → Tells → AllStand sight old
          → AllStand sight later_now
      stands_more stands tells all k other l =
          let size = length-set now number new in
          let e = many in
          each_more (λ (k : ℕ) (o n : ProviderState D). Stands sight n.chronicle)
          (λ k other l. so_far.stands tells all k other (omega arith))
          (stands tells (subst (λ (p : ProviderState D). Stands sight p.chronicle) (was_old was)
          (all number was (omega arith))))
          k other (omega arith)

      pub later_more : count was.chronicle.disk ≤ count new.chronicle.disk → NoneFalls count old later_now
      later_more later =
          each_more (λ (k : ℕ) (o n : ProviderState D). count o.chronicle.disk ≤ count n.chronicle.disk) so_far.later
          later

      pub worked_more : HasFront AllStood trade moment before number behind → Runs kept seals number new → new.owed ≡ []
          → length left ≡ length links
          → (Tells → CarriesFrames trade number moment sight was.chronicle links new.chronicle left)
          → (Tells → Stands sight was.chronicle → Stands sight new.chronicle)
          → count was.chronicle.disk ≤ count new.chronicle.disk → WorkedSoFar (number + 1) later_now later_waiting
      worked_more front runs owed same carries stands later = record {
        whole = whole_more runs owed same;
        next = λ k other l. get_or-set_other now number k new other (λ e. absurd (omega (arith, l, e)))
            ∙ so_far.next k other (omega arith);
        waits = λ k l. get_or-set_other waiting number k left [] (λ e. absurd (omega (arith, l, e)))
            ∙ so_far.waits k (omega arith);
        fronts = subst (λ (s : List Site). HaveFronts AllStood trade moment before s) (sym sites_more)
            (fronts_more AllStood trade moment before (sites_of now screens waiting) number behind
            (let m = sites_count now screens waiting in omega arith) so_far.fronts front);
        carries = carries_more carries;
        stands = stands_more stands;
        later = later_more later;
      }

      -- what was kept of it stood
      was_stands : AllStand sight old → Stands sight was.chronicle
      was_stands all = subst (λ (p : ProviderState D). Stands sight p.chronicle) (was_old was)
          (all number was (let e = many in omega arith))

      -- memory ran out in it
      pub short_front : StopsShort (Tells × Stands sight was.chronicle) trade number moment (site_of (desk_of was) boxes links) behind
          → HasFront AllStood trade moment before number behind
      short_front short = front_short AllStood trade moment before number (site_of (desk_of was) boxes links) behind stood (record {
        up = short.up;
        in_time = short.in_time;
        front = record {
          looks = short.front.looks;
          kept = unless_all short.front.kept;
          steps = short.front.steps;
          frames = short.front.frames;
          is = short.front.is;
        };
      })
        where
          unless_all : {P : Type 0} → P ⊎ ((Tells × Stands sight was.chronicle) → ⊥) → P ⊎ (AllStood → ⊥)
          unless_all (inl p) = inl p
          unless_all (inr other) = inr (λ all. other (all.0, was_stands all.1))

      -- ---- it is told

      module _ (turn : Turn) (out : List (List Bytes)) where
        -- the turn as it was taken, with the rooms of the round
        had_turn : (rooms : List ℕ) → rooms ≡ map (room_on number) waited
            → Took (Tells × Stands sight was.chronicle) trade number moment (room_in rooms) (site_of (desk_of was) boxes links)
            (turn_of behind turn out)
            → turn ≡ told_of number (turn_of behind turn out)
            → ((to : ℕ) → length (get_or out to []) ≤ room_in rooms to)
            → (turn.ended ≡ Some faults.NoMemory → ⊥)
            → HadTurn AllStood trade moment before number behind turn out
        had_turn rooms are took told fit memory =
            let at = subst (λ (s : Site). Took (Tells × Stands sight was.chronicle) trade number moment (room_in rooms) s
            (turn_of behind turn out)) stood took in
            let waits : (to : ℕ) → rooms_of before number to ≡ room_on number (waiting_for waited to) = λ to.
            ap (λ (w : Waiting). link_size - length (waiting_from w number)) (waiting_at old screens waited to same_before) in
            let size = same_before in
            let all = whole_before.count in
            let alike : (to : ℕ) → to < length waited → room_in rooms to ≡ rooms_of before number to = λ to l.
            ap (λ (r : List ℕ). room_in r to) are ∙ room_at number waited to l ∙ sym (waits to) in record {
              took = record {
                cut = at.cut;
                tells = at.tells;
                is = sym (turned_alike trade number moment (room_in rooms) (rooms_of before number) at.cut
                    (site_at before number) at.few (λ to l. alike to (omega arith)))
                    ∙ at.is;
                may = at.may;
                kept = λ stood. at.kept (stood.0, was_stands stood.1);
                unchanged = λ stood. at.unchanged (stood.0, was_stands stood.1);
                few = at.few;
              };
              told = told;
              fit = λ to.
                  let f = fit to in
                  elim (cases_lt to (length waited)) [
                    | inl l ↦ let e = alike to l in omega (arith, e, f)
                    | inr l ↦
                        let size = length-map waited (room_on number) in
                        let none : room_in rooms to ≡ 0 =
                        ap (λ (r : List ℕ). room_in r to) are ∙ get_or_past (map (room_on number) waited) to 0
                        (omega arith) in
                        omega (arith, none, f)
                  ];
              memory = memory;
            }

        pub turn_front : (rooms : List ℕ) → rooms ≡ map (room_on number) waited
            → Took (Tells × Stands sight was.chronicle) trade number moment (room_in rooms) (site_of (desk_of was) boxes links)
            (turn_of behind turn out)
            → turn ≡ told_of number (turn_of behind turn out)
            → ((to : ℕ) → length (get_or out to []) ≤ room_in rooms to)
            → (turn.ended ≡ Some faults.NoMemory → ⊥) → HasFront AllStood trade moment before number behind
        turn_front rooms are took told fit memory =
            front_of AllStood trade moment before number behind turn out (had_turn rooms are took told fit memory)

        -- so many turns before it were told
        module _ (turns : List Turn) (outs : List (List (List Bytes))) (turns_so_far : TurnsSoFar number now waiting turns outs) where
          blames_more : (turn.ended ≡ Some faults.DiskFault
              → HasRisen (count was.chronicle.disk) (count new.chronicle.disk))
              → BlamesDisks count (turns ++ turn ∷ []) old later_now
          blames_more risen = λ k told e ended.
              elim (get_push turns turn told k e) [
                | inl front ↦
                    let apart : k ≡ number → ⊥ = λ same. (let l = front.0 in let m = turns_so_far.told in
                    absurd (omega arith)) in
                    λ other. subst (λ (p : ProviderState D). HasRisen (count (get_or old k other).chronicle.disk)
                    (count p.chronicle.disk))
                    (sym (get_or-set_other now number k new other apart)) (turns_so_far.blames k told front.1 ended other)
                | inr last ↦
                    let place : k ≡ number = last.0 ∙ turns_so_far.told in
                    λ other. subst (λ (n : ℕ). HasRisen (count (get_or old n other).chronicle.disk)
                    (count (get_or later_now n other).chronicle.disk)) (sym place)
                    (subst (λ (p : ProviderState D). HasRisen (count p.chronicle.disk)
                    (count (get_or later_now number other).chronicle.disk)) (sym (was_old other))
                    (subst (λ (p : ProviderState D). HasRisen (count was.chronicle.disk) (count p.chronicle.disk))
                    (sym (get_or-set_same now number new other within))
                    (risen (ap (λ (t : Turn). t.ended) last.1 ∙ ended))))
              ]

          pub taken_more : (rooms : List ℕ) → rooms ≡ map (room_on number) waited
              → Took (Tells × Stands sight was.chronicle) trade number moment (room_in rooms) (site_of (desk_of was) boxes links)
              (turn_of behind turn out)
              → turn ≡ told_of number (turn_of behind turn out)
              → ((to : ℕ) → length (get_or out to []) ≤ room_in rooms to)
              → (turn.ended ≡ Some faults.NoMemory → ⊥)
              → (turn.ended ≡ Some faults.DiskFault → HasRisen (count was.chronicle.disk) (count new.chronicle.disk))
              → TurnsSoFar (number + 1) later_now later_waiting (turns ++ turn ∷ []) (outs ++ out ∷ [])
          taken_more rooms are took told fit memory risen =
              let had = had_turn rooms are took told fit memory in
              let place : number < length (sites_of now screens waiting) = (let m = sites_count now screens waiting in omega arith) in
              record {
                told = length-append turns (turn ∷ []) ∙ ap (λ (n : ℕ). n + 1) turns_so_far.told;
                puts = length-append outs (out ∷ []) ∙ ap (λ (n : ℕ). n + 1) turns_so_far.puts;
                had = subst (λ (s : List Site). AllHad AllStood trade moment before s (turns ++ turn ∷ []) (outs ++ out ∷ []))
                    (sym sites_more)
                    (had_more AllStood trade moment before (sites_of now screens waiting) turns outs number behind turn out
                    turns_so_far.told turns_so_far.puts place turns_so_far.had had);
                blames = blames_more risen;
              }

    -- ---- behind the round, whatever waits

    pub stops_behind : (number : ℕ) (now : List (ProviderState D)) (waiting arrivals : List Waiting)
        → WorkedSoFar number now waiting → StopsOver AllStood trade moment before (sites_of now screens arrivals)
    stops_behind number now waiting arrivals so_far =
        stops_within AllStood trade moment before (sites_of now screens arrivals)
        (sites_count now screens arrivals ∙ so_far.whole.count ∙ sym whole_before.count ∙ sym (sites_count old screens waited))
        (λ k.
        let front = so_far.fronts k in
        let same = desk_stays now screens arrivals waiting k in record {
          cut = front.cut;
          instead = front.instead;
          kept = front.kept;
          journal = λ l. same.0 ∙ front.journal l;
          interrupted = λ l. same.1 ∙ front.interrupted l;
        })

    -- ---- all turns were taken

    module _ (now : List (ProviderState D)) (waiting : List Waiting) (turns : List Turn) (outs : List (List (List Bytes)))
        (number : ℕ) (all : number ≡ length kept) (so_far : WorkedSoFar number now waiting)
        (turns_so_far : TurnsSoFar number now waiting turns outs) where
      old_count : length before ≡ length kept
      old_count = sites_count old screens waited ∙ whole_before.count

      now_same : length waiting ≡ length now
      now_same = so_far.whole.links ∙ sym so_far.whole.count

      pub round_so : KeepsSound trade moment before
          → IsRound AllStood trade moment before turns (sites_of now screens (deliveries outs 0 waiting))
      round_so keeps =
          is_round AllStood trade moment before (sites_of now screens waiting) turns outs
          (turns_so_far.told ∙ all ∙ sym old_count) (turns_so_far.puts ∙ all ∙ sym old_count) turns_so_far.had
          (sites_of now screens (deliveries outs 0 waiting))
          (sites_count now screens (deliveries outs 0 waiting) ∙ so_far.whole.count ∙ sym old_count)
          (λ k l. site_delivered now screens waiting outs 0 k
          (let e = old_count in let f = so_far.whole.count in omega arith) now_same
          ∙ ap (λ (n : ℕ). with_waiting (site_at (sites_of now screens waiting) k)
          (delivered_to n outs (site_at (sites_of now screens waiting) k).waiting))
          (let place : 0 + k ≡ k = omega arith in place)) keeps

-- ---- what was put is delivered

pub deliveries_count : (outs : List (List (List Bytes))) (to : ℕ) (waiting : List Waiting)
    → length (deliveries outs to waiting) ≡ length waiting
deliveries_count outs to [] = refl
deliveries_count outs to (links ∷ waiting) = ap suc (deliveries_count outs (to + 1) waiting)

pub deliveries_at : (outs : List (List (List Bytes))) (to : ℕ) (waiting : List Waiting) (k : ℕ) → k < length waiting
    → waiting_for (deliveries outs to waiting) k ≡ delivered_to (to + k) outs (waiting_for waiting k)
deliveries_at outs to [] k l = absurd (omega arith)
deliveries_at outs to (links ∷ waiting) zero l =
    ap (λ (n : ℕ). delivered_to n outs links) (let here : to ≡ to + 0 = omega arith in here)
deliveries_at outs to (links ∷ waiting) (suc k) l =
    deliveries_at outs (to + 1) waiting k (omega arith)
    ∙ ap (λ (n : ℕ). delivered_to n outs (waiting_for waiting k)) (let there : (to + 1) + k ≡ to + suc k = omega arith in there)

-- ---- rooms of one provider more

pub no_rooms : (arrivals : List Waiting) → AreRooms 0 arrivals []
no_rooms arrivals = record {
  count = refl;
  is = λ from l. absurd (omega arith);
  short = λ from l. absurd (omega arith);
}

pub rooms_more : (senders : ℕ) (arrivals : List Waiting) (rooms : List (List ℕ)) (more : List ℕ)
    → AreRooms senders arrivals rooms
    → more ≡ map (room_on senders) arrivals → All
    (λ (links : Waiting). length (waiting_from links senders) ≤ link_size) arrivals
    → AreRooms (senders + 1) arrivals (rooms ++ more ∷ [])
rooms_more senders arrivals rooms more so_far is short = record {
  count = length-append rooms (more ∷ []) ∙ ap (λ (n : ℕ). n + 1) so_far.count;
  is = λ from l.
      elim (cases_eq from senders) [
        | inl same ↦
            ap (λ (n : ℕ). get_or (rooms ++ more ∷ []) n []) (same ∙ sym so_far.count)
            ∙ get_or-append_seam rooms more [] [] ∙ is
            ∙ ap (λ (n : ℕ). map (room_on n) arrivals) (sym same)
        | inr apart ↦
            let e = so_far.count in
            let m = apart in
            get_or_append_left rooms (more ∷ []) [] from (omega arith) ∙ so_far.is from (omega arith)
      ];
  short = λ from l.
      elim (cases_eq from senders) [
        | inl same ↦ subst (λ (n : ℕ). All (λ (links : Waiting). length (waiting_from links n) ≤ link_size) arrivals)
            (sym same) short
        | inr apart ↦ let m = apart in so_far.short from (omega arith)
      ];
}

pub rooms_of_all : (kept : ℕ) (senders : ℕ) (waited arrivals : List Waiting) (all : List (List ℕ))
    → AreRooms senders arrivals all → senders ≡ kept → arrivals ≡ waited → AreRooms kept waited all
rooms_of_all kept senders waited arrivals all are count same =
    subst (λ (n : ℕ). AreRooms n waited all) count (subst (λ (a : List Waiting). AreRooms senders a all) same are)

-- ---- results

pub on_err : {X F P : Type 0} (r : Result X F) → P → OnErr r P
on_err (Ok x) p = tt
on_err (Err fault) p = p
