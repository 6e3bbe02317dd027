-- The workers of a round, taken together: what they did one beside another is what turns one after another do, and the
-- links that are put together of their ends are what the round delivers.
use Rattle.std.proofs.Common.{◌≡◌, ℕ, zero, suc, ◌+◌, ◌<◌, ◌≤◌, List, [], ◌∷◌, ◌++◌, length, map, take}
use Rattle.std.proofs.Common.{get_or, set, refl, ap, sym, subst, ◌∙◌, inl, inr, arith, Some, None}
use Rattle.std.specs.Prelude.{Option, Vec}
use Rattle.std.specs.declared.alloc.Global.{Global}
use Rattle.std.proofs.Math.Seq.{get_or-append_seam}
use Rattle.std.proofs.lemmas.Bool.{cases_lt}
use Rattle.std.proofs.lemmas.List.{append-nil, ext_get_or, get_or-map, get_or_append_left}
use Rattle.std.proofs.lemmas.List.{get_or_default, get_or_past, length-map, take_all, take_more}
use Rattle.pec_types.specs.Bytes.{Bytes}
use Rattle.pec_types.specs.declared.turns.Turn.{Turn}
use Rattle.pec_outside.specs.DiskModel.{Sight}
use Rattle.pec_directory.specs.Directory.{Kept}
use Rattle.pec_ledger.specs.Ledger.{Fit, Journals}
use Rattle.pec_ledger.specs.Network.{Site}
use Rattle.pec_ledger.specs.Trade.{Trade}
use Rattle.pec_link.specs.Ends.{ArePair, AreSettled, Putting, Taking, waiting_on}
use Rattle.pec_plays.specs.Rounds.{delivered_to}
use Rattle.pec_plays.specs.Turns.{Turned}
use Rattle.pec_chronicle.specs.Carrying.{CarriesOn, NothingMay}
use Rattle.pec_chronicle.specs.Chronicle.{ChronicleState, Stands}
use Rattle.pec_posts.specs.Arrivals.{Waiting, deliveries, room_on, waiting_for, waiting_from}
use Rattle.pec_posts.specs.Parting.{AreJoined, AreRows, ends_in}
use Rattle.pec_provider.specs.Provider.{ProviderState, Runs, desk_of, site_of}
use Rattle.pec_rows.specs.Rows.{ArePut, CanPut, IsBehind, Known, known, waits}
use Rattle.pec_screen.specs.Verdicts.{Patterns}
use Rattle.pec_seal.specs.Seals.{Seals}
use Rattle.pec_provider.specs.OfTrades.{trade_of}
use Rattle.pec_network.specs.Carrying.{AllCarryOn, AllStand, NoneFalls}
use Rattle.pec_network.specs.Network.{IsOfDirectory, sites_of}
use Rattle.pec_network.specs.Rounds.{AreRooms, BlamesDisks, FramesAreGenuine, IsRound, KeepsSound, StopsOver}
use Rattle.pec_network.specs.Looking.{AllLookAlike, LookAlike}
use Rattle.pec_network.specs.Turning.{StopsShort, Took, room_in, turn_of}
use Rattle.pec_network.specs.Working.{IsReady, Worked, judges_in, providers_in, putters_in, rooms_in, takers_in, tolds_in}
use Rattle.pec_network.specs.declared.working.Slot.{Slot}
use Rattle.pec_network.proofs.LookingLemmas.{none_looked}
use Rattle.pec_network.proofs.PassLemmas.{TurnsSoFar, WorkedSoFar, begun, deliveries_at, deliveries_count, no_turns, room_small, rooms_of_all}
use Rattle.pec_network.proofs.PassLemmas.{round_so, short_front, stops_behind, taken_more, turn_front, worked_more}
use Rattle.pec_network.proofs.RoundLemmas.{HasFront}
use Rattle.pec_network.proofs.SeatLemmas.{joined_again, known_same, mixed, mixed_all, mixed_at, mixed_next, pick, rows_again, waits_behind}
use Rattle.pec_network.proofs.TurnLemmas.{puts_few}

-- ---- what a turn puts

-- there is an end with room for it
pub can_put : (Stood : Type 0) (trade : Trade) (me now : ℕ) (rooms : List ℕ) (site : Site) (turn : Turned) (out : List (List Bytes))
    (putters : List Putting) {count : ℕ} → trade.providers ≡ count → length putters ≡ count
    → Took Stood trade me now (room_in rooms) site turn → out ≡ turn.out → ((to : ℕ) → length (get_or turn.out to []) ≤ room_in rooms to)
    → ((to : ℕ) (other : Putting) → to < length putters → room_in rooms to ≤ (get_or putters to other).free)
    → CanPut putters out
can_put Stood trade me now rooms site turn out putters all many took is fit free =
    let few = puts_few trade me now (room_in rooms) took.cut site took.few in
    let put = ap (λ (t : Turned). length t.out) took.is in
    let size = ap (λ (o : List (List Bytes)). length o) is in record {
      addressees = omega (arith, few, put, size, all, many);
      free = λ to other l.
          let short : to < length putters = omega (arith, l, few, put, size, all, many) in
          let f = fit to in
          let e = ap (λ (o : List (List Bytes)). length (get_or o to [])) is in
          let r = free to other short in
          omega (arith, f, e, r);
    }

pub nothing_put : (putters : List Putting) → ArePut putters [] putters
nothing_put putters = record {
  count = refl;
  ring = λ to other l. refl;
  put = λ to other l. sym (append-nil (get_or putters to other).put);
}

module _ {D : Type 0} (Tells : Type 0) (sight : D → Sight) (count : D → ℕ) (kept : List Kept) (seals : Seals) (moment : ℕ)
    (old : List (ProviderState D)) (screens : List (List Patterns)) (waited : List Waiting) where
  -- What the round leaves, whether or not each told its turn.
  pub record Leaves (now : List (ProviderState D)) (arrivals : List Waiting) : Type 0 where
    pub stops : StopsOver (Tells × AllStand sight old) (trade_of kept seals) moment (sites_of old screens waited)
        (sites_of now screens arrivals)
    pub whole : IsOfDirectory kept seals now arrivals
    pub carries : Tells → (journals : Journals) → Fit (trade_of kept seals) journals
        → FramesAreGenuine (trade_of kept seals) journals (sites_of old screens waited)
        → AllCarryOn sight (trade_of kept seals) journals old now
    pub stands : Tells → AllStand sight old → AllStand sight now
    pub later : NoneFalls count old now

  -- Each told its turn, and these are the turns.
  pub record TellsAll (turns : List Turn) (now : List (ProviderState D)) (arrivals : List Waiting) : Type 0 where
    pub plays : IsRound (Tells × AllStand sight old) (trade_of kept seals) moment (sites_of old screens waited) turns (sites_of now screens arrivals)
    pub disk_fault : BlamesDisks count turns old now

module _ {D J : Type 0} (Tells : Type 0) (sight : D → Sight) (count : D → ℕ) (patterns : J → List Patterns) (seen : J → List ℕ)
    (kept : List Kept) (seals : Seals) (moment : ℕ)
    (old : List (ProviderState D)) (judges : List J) (waited : List Waiting) (slots after : List (Slot D J))
    (rooms : List (List ℕ)) (putters : List (List Putting)) (takers : List (List Taking)) where
  -- the patterns of the screens of each provider
  abbrev pub screens : List (List Patterns)
  screens = map patterns judges

  -- What the workers began with: each its provider and its ends of the links among all, which are settled.
  pub record AreSeated : Type 0 where
    pub whole : IsOfDirectory kept seals old waited
    pub providers : providers_in slots ≡ old
    pub judges_are : judges_in slots ≡ judges
    pub putters_are : putters_in slots ≡ putters
    pub takers_are : takers_in slots ≡ takers
    pub rooms_are : rooms_in slots ≡ rooms
    pub ends : AreRows AreSettled (length kept) putters takers
    pub waiting : map waits takers ≡ waited
    pub room : AreRooms (length kept) waited rooms

  pub seated_so : (rows parted : List (Vec Putting Global)) (senders : ℕ) (links : List Waiting)
      → IsOfDirectory kept seals old waited → providers_in slots ≡ old → judges_in slots ≡ judges → putters_in slots ≡ ends_in rows → rows ≡ parted
      → putters ≡ ends_in parted → takers_in slots ≡ takers → rooms_in slots ≡ rooms
      → AreRows AreSettled (length waited) (ends_in parted) takers → map waits takers ≡ waited
      → AreRooms senders links rooms → senders ≡ length kept → links ≡ waited → AreSeated
  seated_so rows parted senders links whole providers judging puts parts is takes free ends waiting are count same = record {
    whole = whole;
    providers = providers;
    judges_are = judging;
    putters_are = puts ∙ ap ends_in parts ∙ sym is;
    takers_are = takes;
    rooms_are = free;
    ends = subst (λ (p : List (List Putting)). AreRows AreSettled (length kept) p takers) (sym is)
        (subst (λ (n : ℕ). AreRows AreSettled n (ends_in parted) takers) whole.links ends);
    waiting = waiting;
    room = rooms_of_all (length kept) senders waited links rooms are count same;
  }

  module _ (seated : AreSeated) where
    abbrev trade : Trade
    trade = trade_of kept seals

    all_of : trade.providers ≡ length kept
    all_of = length-map kept (λ (one : Kept). one.provider)

    pub many : length slots ≡ length kept
    many =
        sym (length-map slots (λ (slot : Slot D J). slot.provider)) ∙ ap (λ (l : List (ProviderState D)). length l) seated.providers
        ∙ seated.whole.count

    provider_at : (me : ℕ) (slot : Slot D J) → me < length slots → (other : ProviderState D)
        → get_or old me other ≡ (get_or slots me slot).provider
    provider_at me slot l other =
        ap (λ (all : List (ProviderState D)). get_or all me other) (sym seated.providers)
        ∙ get_or-map (λ (slot : Slot D J). slot.provider) slots me slot other l

    boxes_at : (me : ℕ) (slot : Slot D J) → me < length slots → get_or screens me [] ≡ patterns (get_or slots me slot).judge
    boxes_at me slot l =
        let judge = (get_or slots me slot).judge in
        let size = length-map slots (λ (slot : Slot D J). slot.judge) in
        ap (λ (all : List J). get_or (map patterns all) me []) (sym seated.judges_are)
        ∙ get_or-map patterns (judges_in slots) me judge [] (omega (arith, l, size))
        ∙ ap patterns (get_or-map (λ (slot : Slot D J). slot.judge) slots me slot judge l)

    putters_at : (me : ℕ) (slot : Slot D J) → me < length slots → get_or putters me [] ≡ (get_or slots me slot).putters
    putters_at me slot l =
        ap (λ (all : List (List Putting)). get_or all me []) (sym seated.putters_are)
        ∙ get_or-map (λ (slot : Slot D J). slot.putters) slots me slot [] l

    takers_at : (me : ℕ) (slot : Slot D J) → me < length slots → get_or takers me [] ≡ (get_or slots me slot).takers
    takers_at me slot l =
        ap (λ (all : List (List Taking)). get_or all me []) (sym seated.takers_are)
        ∙ get_or-map (λ (slot : Slot D J). slot.takers) slots me slot [] l

    waits_at : (me : ℕ) (slot : Slot D J) → me < length slots → waiting_for waited me ≡ waits (get_or slots me slot).takers
    waits_at me slot l =
        ap (λ (all : List Waiting). waiting_for all me) (sym seated.waiting)
        ∙ get_or-map waits takers me [] [] (omega (arith, l, many, seated.ends.addressees))
        ∙ ap waits (takers_at me slot l)

    rooms_at : (me : ℕ) (slot : Slot D J) → me < length slots → (get_or slots me slot).rooms ≡ map (room_on me) waited
    rooms_at me slot l =
        sym (get_or-map (λ (slot : Slot D J). slot.rooms) slots me slot [] l)
        ∙ ap (λ (all : List (List ℕ)). get_or all me []) seated.rooms_are
        ∙ seated.room.is me (omega (arith, l, many))

    -- ---- the workers can begin

    free_at : (me : ℕ) (slot : Slot D J) → me < length slots → (to : ℕ) (other : Putting) → to < length kept
        → room_in (get_or slots me slot).rooms to ≤ (get_or (get_or slots me slot).putters to other).free
    free_at me slot l to other m =
        let here : me < length kept = omega (arith, l, many) in
        let row_many = seated.ends.taking to m in
        let one = pick (get_or takers to []) me (omega (arith, here, row_many)) in
        let settled = seated.ends.ends me to other one.0 here m in
        let waits_there : waiting_from (waiting_for waited to) me ≡ (get_or (get_or takers to []) me one.0).waiting =
        ap (λ (all : List Waiting). waiting_from (waiting_for all to) me) (sym seated.waiting)
        ∙ ap (λ (w : Waiting). waiting_from w me) (get_or-map waits takers to [] [] (omega (arith, m, seated.ends.addressees)))
        ∙ get_or-map (λ (t : Taking). t.waiting) (get_or takers to []) me one.0 [] (omega (arith, here, row_many)) in
        let room : room_in (get_or slots me slot).rooms to ≡ room_on me (waiting_for waited to) =
        ap (λ (r : List ℕ). room_in r to) (rooms_at me slot l)
        ∙ get_or-map (room_on me) waited to [] 0 (omega (arith, m, seated.whole.links)) in
        let w = ap (λ (f : List Bytes). length f) waits_there in
        let puts = ap (λ (r : List Putting). (get_or r to other).free) (putters_at me slot l) in
        let free = settled.free in
        omega (arith, room, w, puts, free)

    pub ready : (me : ℕ) (slot : Slot D J) → me < length slots → IsReady kept seals me (get_or slots me slot)
    ready me slot l =
        let rooms_so = rooms_at me slot l in
        let here : me < length old = omega (arith, l, many, seated.whole.count) in
        let row_many : length (get_or slots me slot).putters ≡ length kept =
        ap (λ (r : List Putting). length r) (sym (putters_at me slot l)) ∙ seated.ends.putting me (omega (arith, l, many)) in
        let is = provider_at me slot l (get_or slots me slot).provider in record {
          runs = subst (λ (p : ProviderState D). Runs kept seals me p) is
              (seated.whole.runs me (get_or slots me slot).provider here);
          nothing_owed = ap (λ (p : ProviderState D). p.owed) (sym is)
              ∙ seated.whole.nothing_owed me (get_or slots me slot).provider here;
          rooms = ap (λ (r : List ℕ). length r) rooms_so ∙ length-map waited (room_on me) ∙ seated.whole.links;
          short = λ to. room_small me waited (get_or slots me slot).rooms to rooms_so;
          putters = row_many;
          free = λ to other m. free_at me slot l to other (omega (arith, m, row_many));
        }

    -- ---- the workers are done

    module _ (same : length after ≡ length slots)
        (each : (me : ℕ) (slot : Slot D J) → me < length slots
        → Worked Tells sight count patterns seen kept seals moment me (get_or slots me slot) (get_or after me slot))
        (rests : Tells → (state : ChronicleState D) → CarriesOn sight NothingMay state state) where
      abbrev new : List (ProviderState D)
      new = providers_in after

      abbrev left : List Waiting
      left = map waits (takers_in after)

      new_many : length new ≡ length old
      new_many = length-map after (λ (slot : Slot D J). slot.provider) ∙ same ∙ many ∙ sym seated.whole.count

      left_many : length left ≡ length waited
      left_many =
          length-map (takers_in after) waits ∙ length-map after (λ (slot : Slot D J). slot.takers) ∙ same ∙ many
          ∙ sym seated.whole.links

      new_at : (me : ℕ) (slot : Slot D J) → me < length slots → (other : ProviderState D)
          → get_or new me other ≡ (get_or after me slot).provider
      new_at me slot l other = get_or-map (λ (slot : Slot D J). slot.provider) after me slot other (omega (arith, l, same))

      after_takers : (me : ℕ) (slot : Slot D J) → me < length slots → get_or (takers_in after) me [] ≡ (get_or after me slot).takers
      after_takers me slot l = get_or-map (λ (slot : Slot D J). slot.takers) after me slot [] (omega (arith, l, same))

      left_at : (me : ℕ) (slot : Slot D J) → me < length slots → waiting_for left me ≡ waits (get_or after me slot).takers
      left_at me slot l =
          let size = length-map after (λ (slot : Slot D J). slot.takers) in
          get_or-map waits (takers_in after) me [] [] (omega (arith, l, same, size)) ∙ ap waits (after_takers me slot l)

      -- ---- one worker more

      module _ (k : ℕ) (l : k < length slots) (so_far : WorkedSoFar Tells sight count kept seals trade moment old screens waited k (mixed k new old) (mixed k left waited))
          (slot : Slot D J) where
        abbrev was : Slot D J
        was = get_or slots k slot

        abbrev done : Slot D J
        done = get_or after k slot

        within : k < length (mixed k new old)
        within = let e = so_far.whole.count in omega (arith, l, many, e)

        here : was.provider ≡ get_or (mixed k new old) k was.provider
        here =
            sym (mixed_at new old k was.provider (omega (arith, l, many, seated.whole.count)) new_many
            ∙ provider_at k slot l was.provider)

        there : waits was.takers ≡ get_or (mixed k left waited) k (waits was.takers)
        there =
            let short : k < length waited = omega (arith, l, many, seated.whole.links) in
            sym (mixed_at left waited k (waits was.takers) short left_many
            ∙ get_or_default waited k (waits was.takers) [] short ∙ waits_at k slot l)

        -- as its screens are in the list of all
        took_so : (turn : Turn) (out : List (List Bytes))
            → Took (Tells × Stands sight was.provider.chronicle) trade k moment (room_in was.rooms)
            (site_of (desk_of was.provider) (patterns was.judge) (waits was.takers))
            (turn_of (site_of (desk_of done.provider) (patterns was.judge) (waits done.takers)) turn out)
            → Took (Tells × Stands sight was.provider.chronicle) trade k moment (room_in was.rooms)
            (site_of (desk_of was.provider) (get_or screens k []) (waits was.takers))
            (turn_of (site_of (desk_of done.provider) (get_or screens k []) (waits done.takers)) turn out)
        took_so turn out took =
            subst (λ (boxes : List Patterns). Took (Tells × Stands sight was.provider.chronicle) trade k moment (room_in was.rooms)
            (site_of (desk_of was.provider) boxes (waits was.takers))
            (turn_of (site_of (desk_of done.provider) boxes (waits done.takers)) turn out)) (sym (boxes_at k slot l)) took

        short_so : StopsShort (Tells × Stands sight was.provider.chronicle) trade k moment (site_of (desk_of was.provider) (patterns was.judge) (waits was.takers))
            (site_of (desk_of done.provider) (patterns was.judge) (waits done.takers))
            → StopsShort (Tells × Stands sight was.provider.chronicle) trade k moment (site_of (desk_of was.provider) (get_or screens k []) (waits was.takers))
            (site_of (desk_of done.provider) (get_or screens k []) (waits done.takers))
        short_so short =
            subst (λ (boxes : List Patterns). StopsShort (Tells × Stands sight was.provider.chronicle) trade k moment (site_of (desk_of was.provider) boxes (waits was.takers))
            (site_of (desk_of done.provider) boxes (waits done.takers))) (sym (boxes_at k slot l)) short

        front_so : (told : Option Turn) → done.told ≡ told → HasFront (Tells × AllStand sight old) trade moment (sites_of old screens waited) k
            (site_of (desk_of done.provider) (get_or screens k []) (waits done.takers))
        front_so None is =
            short_front Tells sight count kept seals trade moment old screens waited seated.whole all_of k (mixed k new old) (mixed k left waited)
            was.provider done.provider (waits was.takers) (waits done.takers) so_far within here there (short_so ((each k slot l).short is))
        front_so (Some turn) is =
            let one = (each k slot l).turn turn is in
            turn_front Tells sight count kept seals trade moment old screens waited seated.whole all_of k (mixed k new old) (mixed k left waited)
            was.provider done.provider (waits was.takers) (waits done.takers) so_far within here there turn (each k slot l).out
            was.rooms (rooms_at k slot l) (took_so turn (each k slot l).out one.took) one.told one.fit one.memory

        news : set (mixed k new old) k done.provider ≡ mixed (k + 1) new old
        news =
            ap (λ (p : ProviderState D). set (mixed k new old) k p) (sym (new_at k slot l done.provider))
            ∙ mixed_next new old k done.provider (omega (arith, l, many, seated.whole.count, new_many)) new_many

        lefts : set (mixed k left waited) k (waits done.takers) ≡ mixed (k + 1) left waited
        lefts =
            let short : k < length left = omega (arith, l, many, seated.whole.links, left_many) in
            ap (λ (w : Waiting). set (mixed k left waited) k w) (sym (left_at k slot l))
            ∙ mixed_next left waited k [] short left_many

        one_more : WorkedSoFar Tells sight count kept seals trade moment old screens waited (k + 1) (mixed (k + 1) new old) (mixed (k + 1) left waited)
        one_more =
            let work = each k slot l in
            subst (λ (p : List (ProviderState D)). WorkedSoFar Tells sight count kept seals trade moment old screens waited (k + 1) p (mixed (k + 1) left waited)) news
            (subst (λ (w : List Waiting). WorkedSoFar Tells sight count kept seals trade moment old screens waited (k + 1) (set (mixed k new old) k done.provider) w) lefts
            (worked_more Tells sight count kept seals trade moment old screens waited seated.whole all_of k (mixed k new old) (mixed k left waited)
            was.provider done.provider (waits was.takers) (waits done.takers) so_far within here there
            (front_so done.told refl) work.runs work.nothing_owed work.links work.carries work.stands work.later))

      worked_upto : (k : ℕ) → k ≤ length slots
          → WorkedSoFar Tells sight count kept seals trade moment old screens waited k (mixed k new old) (mixed k left waited)
      worked_upto zero l = begun Tells sight count kept seals trade moment old screens waited seated.whole rests
      worked_upto (suc k) l =
          let next : k + 1 ≡ suc k = omega arith in
          let here : k < length slots = omega (arith, l) in
          subst (λ (n : ℕ). WorkedSoFar Tells sight count kept seals trade moment old screens waited n (mixed n new old) (mixed n left waited)) next
          (one_more k here (worked_upto k (omega (arith, l))) (pick slots k here).0)

      pub all_worked : WorkedSoFar Tells sight count kept seals trade moment old screens waited (length slots) new left
      all_worked =
          subst (λ (p : List (ProviderState D)). WorkedSoFar Tells sight count kept seals trade moment old screens waited (length slots) p left)
          (mixed_all new old (length slots) (new_many ∙ seated.whole.count ∙ sym many) (seated.whole.count ∙ sym many))
          (subst (λ (w : List Waiting). WorkedSoFar Tells sight count kept seals trade moment old screens waited (length slots) (mixed (length slots) new old) w)
          (mixed_all left waited (length slots) (left_many ∙ seated.whole.links ∙ sym many) (seated.whole.links ∙ sym many))
          (worked_upto (length slots) (omega arith)))

      -- ---- their screens

      judges_many : length (judges_in after) ≡ length judges
      judges_many =
          length-map after (λ (slot : Slot D J). slot.judge) ∙ same
          ∙ sym (length-map slots (λ (slot : Slot D J). slot.judge)) ∙ ap (λ (l : List J). length l) seated.judges_are

      -- what a list of the judges says at a number, before and behind
      was_at : {X : Type 0} (had : J → List X) (me : ℕ) (slot : Slot D J) → me < length slots
          → get_or (map had judges) me [] ≡ had (get_or slots me slot).judge
      was_at had me slot l =
          let judge = (get_or slots me slot).judge in
          let size = length-map slots (λ (slot : Slot D J). slot.judge) in
          ap (λ (all : List J). get_or (map had all) me []) (sym seated.judges_are)
          ∙ get_or-map had (judges_in slots) me judge [] (omega (arith, l, size))
          ∙ ap had (get_or-map (λ (slot : Slot D J). slot.judge) slots me slot judge l)

      now_at : {X : Type 0} (had : J → List X) (me : ℕ) (slot : Slot D J) → me < length slots
          → get_or (map had (judges_in after)) me [] ≡ had (get_or after me slot).judge
      now_at had me slot l =
          let judge = (get_or after me slot).judge in
          let size = length-map after (λ (slot : Slot D J). slot.judge) in
          get_or-map had (judges_in after) me judge [] (omega (arith, l, size, same))
          ∙ ap had (get_or-map (λ (slot : Slot D J). slot.judge) after me slot judge (omega (arith, l, same)))

      pub screens_stay : map patterns (judges_in after) ≡ screens
      screens_stay =
          let size = length-map (judges_in after) patterns in
          let more = length-map judges patterns in
          let kept_many = length-map after (λ (slot : Slot D J). slot.judge) in
          ext_get_or [] (map patterns (judges_in after)) screens (size ∙ judges_many ∙ sym more) (λ k l.
          let here : k < length slots = omega (arith, l, size, kept_many, same) in
          let slot = (pick slots k here).0 in
          now_at patterns k slot here ∙ (each k slot here).judged ∙ sym (was_at patterns k slot here))

      pub look_alike : AllLookAlike (map seen judges) (map seen (judges_in after))
      look_alike number =
          let before = map seen judges in
          let behind = map seen (judges_in after) in
          let size = length-map (judges_in after) seen in
          let more = length-map judges seen in
          let kept_many = length-map after (λ (slot : Slot D J). slot.judge) in
          elim (cases_lt number (length slots)) [
            | inl here ↦
                let slot = (pick slots number here).0 in
                subst (λ (was : List ℕ). LookAlike was (get_or behind number [])) (sym (was_at seen number slot here))
                (subst (λ (now : List ℕ). LookAlike (seen (get_or slots number slot).judge) now)
                (sym (now_at seen number slot here)) (each number slot here).looked)
            | inr past ↦
                none_looked (get_or before number []) (get_or behind number [])
                (get_or_past behind number [] (omega (arith, past, size, kept_many, same))
                ∙ sym (get_or_past before number [] (omega (arith, past, more, judges_many, kept_many, same))))
          ]

      -- ---- their ends

      after_putters : (me : ℕ) (slot : Slot D J) → me < length slots → get_or (putters_in after) me [] ≡ (get_or after me slot).putters
      after_putters me slot l = get_or-map (λ (slot : Slot D J). slot.putters) after me slot [] (omega (arith, l, same))

      -- what became of both ends of a link
      pub record LinkWent (from to : ℕ) (out : List Bytes) (putter : Putting) (taker : Taking) (putter_after : Putting) (taker_after : Taking) : Type 0 where
        pub settled : AreSettled putter taker
        pub ring : putter_after.ring ≡ putter.ring
        pub put : putter_after.put ≡ putter.put ++ out
        pub frames : known taker_after ≡ known taker

      row_many : (from : ℕ) (slot : Slot D J) → from < length slots → length (get_or slots from slot).putters ≡ length kept
      row_many from slot l =
          ap (λ (r : List Putting). length r) (sym (putters_at from slot l)) ∙ seated.ends.putting from (omega (arith, l, many))

      column_many : (to : ℕ) (slot : Slot D J) → to < length slots → length (get_or after to slot).takers ≡ length kept
      column_many to slot l =
          sym (length-map (get_or after to slot).takers (λ (t : Taking). t.waiting)) ∙ (each to slot l).links
          ∙ length-map (get_or slots to slot).takers (λ (t : Taking). t.waiting)
          ∙ ap (λ (r : List Taking). length r) (sym (takers_at to slot l)) ∙ seated.ends.taking to (omega (arith, l, many))

      link_went : (from to : ℕ) (slot : Slot D J) (putter : Putting) (taker : Taking) (l : from < length slots) → to < length slots
          → LinkWent from to (get_or (each from slot l).out to [])
          (get_or (get_or slots from slot).putters to putter) (get_or (get_or slots to slot).takers from taker)
          (get_or (get_or after from slot).putters to putter) (get_or (get_or after to slot).takers from taker)
      link_went from to slot putter taker l m =
          let puts = (each from slot l).puts in
          let place : to < length (get_or slots from slot).putters = let e = row_many from slot l in omega (arith, m, e, many) in
          let seat : from < length (get_or after to slot).takers = let e = column_many to slot m in omega (arith, l, e, many) in record {
            settled =
                subst (λ (r : List Putting). AreSettled (get_or r to putter) (get_or (get_or slots to slot).takers from taker)) (putters_at from slot l)
                (subst (λ (r : List Taking). AreSettled (get_or (get_or putters from []) to putter) (get_or r from taker)) (takers_at to slot m)
                (seated.ends.ends from to putter taker (omega (arith, l, many)) (omega (arith, m, many))));
            ring = puts.ring to putter place;
            put = puts.put to putter place;
            frames = known_same (get_or slots to slot).takers (get_or after to slot).takers from taker (each to slot m).frames seat;
          }

      pub ends_pair : AreRows ArePair (length kept) (putters_in after) (takers_in after)
      ends_pair = record {
        senders = length-map after (λ (slot : Slot D J). slot.putters) ∙ same ∙ many;
        addressees = length-map after (λ (slot : Slot D J). slot.takers) ∙ same ∙ many;
        putting = λ from l.
            let here : from < length slots = omega (arith, l, many) in
            let one = pick slots from here in
            ap (λ (r : List Putting). length r) (after_putters from one.0 here) ∙ (each from one.0 here).puts.count ∙ row_many from one.0 here;
        taking = λ to l.
            let here : to < length slots = omega (arith, l, many) in
            let one = pick slots to here in
            ap (λ (r : List Taking). length r) (after_takers to one.0 here) ∙ column_many to one.0 here;
        ends = λ from to putter taker l m.
            let here : from < length slots = omega (arith, l, many) in
            let there : to < length slots = omega (arith, m, many) in
            let one = pick slots from here in
            let went = link_went from to one.0 putter taker here there in
            let ring : (get_or (get_or after to one.0).takers from taker).ring ≡ (get_or (get_or slots to one.0).takers from taker).ring =
            ap (λ (k : Known). k.ring) went.frames in
            subst (λ (r : List Putting). ArePair (get_or r to putter) (get_or (get_or (takers_in after) to []) from taker)) (sym (after_putters from one.0 here))
            (subst (λ (r : List Taking). ArePair (get_or (get_or after from one.0).putters to putter) (get_or r from taker)) (sym (after_takers to one.0 there))
            (went.ring ∙ went.settled.pair ∙ sym ring));
      }

      -- ---- the links again

      module _ (arrivals : List Waiting) (joined : AreJoined (length kept) (putters_in after) (takers_in after) arrivals) where
        pub whole_again : IsOfDirectory kept seals new arrivals
        whole_again =
            let whole = all_worked.whole in record {
              fits = whole.fits;
              count = whole.count;
              links = joined.addressees;
              senders = λ to l. joined.senders to (omega (arith, l, joined.addressees));
              runs = whole.runs;
              nothing_owed = whole.nothing_owed;
            }

        pub stops_so : StopsOver (Tells × AllStand sight old) trade moment (sites_of old screens waited) (sites_of new screens arrivals)
        stops_so = stops_behind Tells sight count kept seals trade moment old screens waited seated.whole all_of (length slots) new left arrivals all_worked

        -- on a link waits what its taker left, and behind it what its putter put
        link_waits : (from to : ℕ) (slot : Slot D J) (l : from < length slots) → to < length slots
            → waiting_from (waiting_for arrivals to) from
            ≡ waiting_from (waiting_for left to) from ++ get_or (each from slot l).out to []
        link_waits from to slot l m =
            let place : to < length (get_or slots from slot).putters = let e = row_many from slot l in omega (arith, m, e, many) in
            let seat : from < length (get_or after to slot).takers = let e = column_many to slot m in omega (arith, l, e, many) in
            let putter = (pick (get_or slots from slot).putters to place).0 in
            let taker = (pick (get_or after to slot).takers from seat).0 in
            let went = link_went from to slot putter taker l m in
            let p = get_or (get_or after from slot).putters to putter in
            let t = get_or (get_or after to slot).takers from taker in
            let fifo : t.taken ++ t.waiting ≡ (get_or (get_or slots from slot).putters to putter).put =
            ap (λ (k : Known). k.frames) went.frames ∙ went.settled.fifo in
            let left_there : waiting_from (waiting_for left to) from ≡ t.waiting =
            ap (λ (w : Waiting). waiting_from w from) (left_at to slot m)
            ∙ get_or-map (λ (t : Taking). t.waiting) (get_or after to slot).takers from taker [] seat in
            joined.waiting from to putter taker (omega (arith, l, many)) (omega (arith, m, many))
            ∙ ap (λ (r : List Putting). waiting_on (get_or r to putter) (get_or (get_or (takers_in after) to []) from taker)) (after_putters from slot l)
            ∙ ap (λ (r : List Taking). waiting_on p (get_or r from taker)) (after_takers to slot m)
            ∙ waits_behind t.taken t.waiting (get_or (get_or slots from slot).putters to putter).put p.put
            (get_or (each from slot l).out to []) fifo went.put
            ∙ ap (λ (w : List Bytes). w ++ get_or (each from slot l).out to []) (sym left_there)

        -- ---- all told their turns

        module _ (turns : List Turn) (told : tolds_in after ≡ map (λ (turn : Turn). Some turn) turns)
            (law : (to : ℕ) (outs : List (List (List Bytes))) (one other : Waiting) → IsBehind to outs one other → other ≡ delivered_to to outs one) where
          turns_many : length turns ≡ length slots
          turns_many =
              sym (length-map turns (λ (turn : Turn). Some turn)) ∙ ap (λ (l : List (Option Turn)). length l) (sym told)
              ∙ length-map after (λ (slot : Slot D J). slot.told) ∙ same

          told_at : (k : ℕ) (slot : Slot D J) (turn : Turn) → k < length slots → (get_or after k slot).told ≡ Some (get_or turns k turn)
          told_at k slot turn l =
              sym (get_or-map (λ (slot : Slot D J). slot.told) after k slot (Some turn) (omega (arith, l, same)))
              ∙ ap (λ (all : List (Option Turn)). get_or all k (Some turn)) told
              ∙ get_or-map (λ (turn : Turn). Some turn) turns k turn (Some turn) (omega (arith, l, turns_many))

          -- So many turns were taken, and what they put is what these workers put.
          pub record Told (k : ℕ) : Type 0 where
            pub outs : List (List (List Bytes))
            pub turns_are : TurnsSoFar Tells sight count kept seals trade moment old screens waited k (mixed k new old) (mixed k left waited) (take k turns) outs
            pub waiting : (from to : ℕ) → from < k → to < length slots
                → waiting_from (waiting_for arrivals to) from ≡ waiting_from (waiting_for left to) from ++ get_or (get_or outs from []) to []

          told_more : (k : ℕ) → k < length slots → (slot : Slot D J) (turn : Turn) → Told k → Told (k + 1)
          told_more k l slot turn so_far =
              let worked = worked_upto k (omega (arith, l)) in
              let now = get_or turns k turn in
              let work = each k slot l in
              let one = work.turn now (told_at k slot turn l) in
              let was = get_or slots k slot in
              let done = get_or after k slot in
              let more = taken_more Tells sight count kept seals trade moment old screens waited seated.whole all_of k (mixed k new old) (mixed k left waited)
              was.provider done.provider (waits was.takers) (waits done.takers) worked (within k l worked slot) (here k l worked slot) (there k l worked slot)
              now work.out (take k turns) so_far.outs so_far.turns_are was.rooms (rooms_at k slot l) (took_so k l worked slot now work.out one.took) one.told one.fit one.memory one.disk_fault in
              record {
                outs = so_far.outs ++ work.out ∷ [];
                turns_are =
                    subst (λ (t : List Turn). TurnsSoFar Tells sight count kept seals trade moment old screens waited (k + 1) (mixed (k + 1) new old) (mixed (k + 1) left waited) t (so_far.outs ++ work.out ∷ []))
                    (sym (take_more turns k turn (omega (arith, l, turns_many))))
                    (subst (λ (p : List (ProviderState D)). TurnsSoFar Tells sight count kept seals trade moment old screens waited (k + 1) p (mixed (k + 1) left waited) (take k turns ++ now ∷ []) (so_far.outs ++ work.out ∷ []))
                    (news k l worked slot)
                    (subst (λ (w : List Waiting). TurnsSoFar Tells sight count kept seals trade moment old screens waited (k + 1) (set (mixed k new old) k done.provider) w (take k turns ++ now ∷ []) (so_far.outs ++ work.out ∷ []))
                    (lefts k l worked slot) more));
                waiting = λ from to m n.
                    let puts = so_far.turns_are.puts in
                    elim (cases_lt from k) [
                      | inl before ↦
                          so_far.waiting from to before n
                          ∙ ap (λ (o : List (List Bytes)). waiting_from (waiting_for left to) from ++ get_or o to [])
                          (sym (get_or_append_left so_far.outs (work.out ∷ []) [] from (omega (arith, before, puts))))
                      | inr past ↦
                          let e : from ≡ k = omega (arith, m, past) in
                          let last : get_or (so_far.outs ++ work.out ∷ []) k [] ≡ work.out =
                          ap (λ (n : ℕ). get_or (so_far.outs ++ work.out ∷ []) n []) (sym puts) ∙ get_or-append_seam so_far.outs work.out [] [] in
                          subst (λ (n : ℕ). waiting_from (waiting_for arrivals to) n
                          ≡ waiting_from (waiting_for left to) n ++ get_or (get_or (so_far.outs ++ work.out ∷ []) n []) to []) (sym e)
                          (link_waits k to slot l n
                          ∙ ap (λ (o : List (List Bytes)). waiting_from (waiting_for left to) k ++ get_or o to []) (sym last))
                    ];
              }

          told_upto : (k : ℕ) → k ≤ length slots → Told k
          told_upto zero l = record {
            outs = [];
            turns_are = no_turns Tells sight count kept seals trade moment old screens waited;
            waiting = λ from to m n. absurd (omega (arith, m));
          }
          told_upto (suc k) l =
              let next : k + 1 ≡ suc k = omega arith in
              let here : k < length slots = omega (arith, l) in
              let short : k < length turns = omega (arith, l, turns_many) in
              subst (λ (n : ℕ). Told n) next
              (told_more k here (pick slots k here).0 (pick turns k short).0 (told_upto k (omega (arith, l))))

          abbrev all_told : Told (length slots)
          all_told = told_upto (length slots) (omega arith)

          delivered_so : arrivals ≡ deliveries all_told.outs 0 left
          delivered_so =
              let size = deliveries_count all_told.outs 0 left in
              let counts : length left ≡ length kept = left_many ∙ seated.whole.links in
              let puts : length all_told.outs ≡ length slots = all_told.turns_are.puts in
              ext_get_or [] arrivals (deliveries all_told.outs 0 left) (joined.addressees ∙ sym counts ∙ sym size) (λ to l.
              let there : to < length slots = omega (arith, l, joined.addressees, many) in
              let slot = (pick slots to there).0 in
              let row : length (waiting_for left to) ≡ length kept =
              ap (λ (w : Waiting). length w) (left_at to slot there)
              ∙ length-map (get_or after to slot).takers (λ (t : Taking). t.waiting) ∙ column_many to slot there in
              let senders = joined.senders to (omega (arith, there, many)) in
              law to all_told.outs (waiting_for left to) (waiting_for arrivals to) (record {
                senders = omega (arith, puts, row, many);
                count = senders ∙ sym row;
                each = λ from m. all_told.waiting from to (omega (arith, m, row, many)) there;
              })
              ∙ ap (λ (n : ℕ). delivered_to n all_told.outs (waiting_for left to)) (let place : to ≡ 0 + to = omega arith in place)
              ∙ sym (deliveries_at all_told.outs 0 left to (omega (arith, there, many, counts))))

          turns_all : TurnsSoFar Tells sight count kept seals trade moment old screens waited (length slots) new left turns all_told.outs
          turns_all =
              subst (λ (t : List Turn). TurnsSoFar Tells sight count kept seals trade moment old screens waited (length slots) new left t all_told.outs)
              (take_all (length slots) turns (omega (arith, turns_many)))
              (subst (λ (p : List (ProviderState D)). TurnsSoFar Tells sight count kept seals trade moment old screens waited (length slots) p left (take (length slots) turns) all_told.outs)
              (mixed_all new old (length slots) (new_many ∙ seated.whole.count ∙ sym many) (seated.whole.count ∙ sym many))
              (subst (λ (w : List Waiting). TurnsSoFar Tells sight count kept seals trade moment old screens waited (length slots) (mixed (length slots) new old) w (take (length slots) turns) all_told.outs)
              (mixed_all left waited (length slots) (left_many ∙ seated.whole.links ∙ sym many) (seated.whole.links ∙ sym many))
              all_told.turns_are))

          pub plays_so : KeepsSound trade moment (sites_of old screens waited)
              → IsRound (Tells × AllStand sight old) trade moment (sites_of old screens waited) turns (sites_of new screens arrivals)
          plays_so keeps =
              subst (λ (w : List Waiting). IsRound (Tells × AllStand sight old) trade moment (sites_of old screens waited) turns (sites_of new screens w)) (sym delivered_so)
              (round_so Tells sight count kept seals trade moment old screens waited seated.whole all_of new left turns all_told.outs
              (length slots) many all_worked turns_all keeps)

          pub blames_so : BlamesDisks count turns old new
          blames_so = turns_all.blames

      -- ---- in their places

      -- these are the ends that the workers held
      module _ (rows : List (List Putting)) (ends : List (List Taking)) (rows_are : rows ≡ putters_in after)
          (ends_are : ends ≡ takers_in after) where
        pub to_join : AreRows ArePair (length rows) rows ends
        to_join = rows_again ArePair (length kept) rows (putters_in after) ends (takers_in after) rows_are ends_are ends_pair

        -- these are their providers, and the links of the ends
        module _ (now : List (ProviderState D)) (now_is : now ≡ new) (arrivals : List Waiting)
            (joined : AreJoined (length rows) rows ends arrivals) where
          are_joined : AreJoined (length kept) (putters_in after) (takers_in after) arrivals
          are_joined = joined_again (length kept) rows (putters_in after) ends (takers_in after) arrivals rows_are ends_are
              (length-map after (λ (slot : Slot D J). slot.putters) ∙ same ∙ many) joined

          pub leaves : Leaves Tells sight count kept seals moment old screens waited now arrivals
          leaves = record {
            stops = subst (λ (p : List (ProviderState D)). StopsOver (Tells × AllStand sight old) trade moment
                (sites_of old screens waited) (sites_of p screens arrivals))
                (sym now_is) (stops_so arrivals are_joined);
            whole = subst (λ (p : List (ProviderState D)). IsOfDirectory kept seals p arrivals) (sym now_is)
                (whole_again arrivals are_joined);
            carries = λ tells journals fit genuine.
                subst (λ (p : List (ProviderState D)). AllCarryOn sight trade journals old p) (sym now_is)
                (all_worked.carries tells journals fit genuine);
            stands = λ tells stand.
                subst (λ (p : List (ProviderState D)). AllStand sight p) (sym now_is) (all_worked.stands tells stand);
            later = subst (λ (p : List (ProviderState D)). NoneFalls count old p) (sym now_is) all_worked.later;
          }

          pub tells_all : (turns : List Turn) → tolds_in after ≡ map (λ (turn : Turn). Some turn) turns
              → ((to : ℕ) (outs : List (List (List Bytes))) (one other : Waiting) → IsBehind to outs one other → other ≡ delivered_to to outs one)
              → KeepsSound trade moment (sites_of old screens waited)
              → TellsAll Tells sight count kept seals moment old screens waited turns now arrivals
          tells_all turns told law keeps = record {
            plays = subst (λ (p : List (ProviderState D)). IsRound (Tells × AllStand sight old) trade moment (sites_of old screens waited) turns (sites_of p screens arrivals))
                (sym now_is) (plays_so arrivals are_joined turns told law keeps);
            disk_fault = subst (λ (p : List (ProviderState D)). BlamesDisks count turns old p) (sym now_is)
                (blames_so arrivals are_joined turns told law);
          }
