-- A round: its links are taken apart, its workers seated; behind them all is put together again.
use Rattle.std.proofs.Common.{◌≡◌, ℕ, ◌++◌, ◌∙◌, List, length, map, take, drop, refl, ap, arith, sym, subst}
use Rattle.std.specs.Prelude.{Vec}
use Rattle.std.specs.List.{All}
use Rattle.std.specs.declared.alloc.Global.{Global}
use Rattle.std.proofs.lemmas.List.{length-map}
use Rattle.pec_directory.specs.Directory.{Kept}
use Rattle.pec_link.specs.Ends.{Putting}
use Rattle.pec_posts.specs.Parting.{HasRoom, ends_in}
use Rattle.pec_provider.specs.Provider.{ProviderState}
use Rattle.pec_provider.specs.OfTrades.{trade_of}
use Rattle.pec_network.specs.Looking.{AllLookAlike}
use Rattle.pec_network.specs.Network.{sites_of}
use Rattle.pec_network.specs.Working.{judges_in, providers_in, putters_in, rooms_in, takers_in, tolds_in, turns_told}
use Rattle.pec_network.specs.declared.working.Slot.{Slot}
use Rattle.pec_network.proofs.LookingLemmas.{none_looked}
use Rattle.pec_network.proofs.PassLemmas.{begun, on_err, stops_behind}
use Rattle.pec_network.proofs.SeatLemmas.{all_turns, lent_again, rows_lent}
use Rattle.pec_network.proofs.WorkLemmas.{AreSeated, Leaves, TellsAll, leaves, look_alike, many, ready, screens_stay, seated_so, tells_all, to_join}
use Rattle.pec_network.proofs.rounds.take_turns.Given as given
use Rattle.pec_network.proofs.rounds.take_turns.Goals as goal
use Rattle.pec_network.proofs.rounds.take_turns.Goals.{After-all_work, After-as_mut_slice-2, After-as_mut_slice-3, After-join}

-- ---- before the first move

pub returns-in_err-rooms-clause-stops : goal.returns-in_err-rooms-clause-stops
returns-in_err-rooms-clause-stops g c =
    let kept = c.args.directory.now in
    let trade = trade_of kept (g.S.Sealer.seals c.args.sealer.now) in
    let old = c.args.providers.now.items in
    let screens = map g.J.Judge.patterns c.args.judges.now.items in
    let waited = c.args.arrivals.now.items in
    on_err c.from_residual.result (stops_behind g.D.Disk.tells g.D.Disk.sight g.D.Counted.faults kept (g.S.Sealer.seals c.args.sealer.now) trade
    c.args.moment old screens waited c.requires.whole (length-map kept (λ (one : Kept). one.provider)) 0 old waited waited
    (begun g.D.Disk.tells g.D.Disk.sight g.D.Counted.faults kept (g.S.Sealer.seals c.args.sealer.now) trade c.args.moment old screens waited
    c.requires.whole c.what_rests_carries_on.ensures))

pub returns-in_err-rooms-clause-carries : goal.returns-in_err-rooms-clause-carries
returns-in_err-rooms-clause-carries g c =
    let kept = c.args.directory.now in
    let trade = trade_of kept (g.S.Sealer.seals c.args.sealer.now) in
    let old = c.args.providers.now.items in
    let screens = map g.J.Judge.patterns c.args.judges.now.items in
    let waited = c.args.arrivals.now.items in
    (begun g.D.Disk.tells g.D.Disk.sight g.D.Counted.faults kept (g.S.Sealer.seals c.args.sealer.now) trade c.args.moment old screens waited
    c.requires.whole c.what_rests_carries_on.ensures).carries

pub returns-in_err-slots-clause-stops : goal.returns-in_err-slots-clause-stops
returns-in_err-slots-clause-stops g c =
    let kept = c.args.directory.now in
    let trade = trade_of kept (g.S.Sealer.seals c.args.sealer.now) in
    let old = c.args.providers.now.items in
    let screens = map g.J.Judge.patterns c.args.judges.now.items in
    let waited = c.args.arrivals.now.items in
    on_err c.from_residual-in_err-slots.result (stops_behind g.D.Disk.tells g.D.Disk.sight g.D.Counted.faults kept (g.S.Sealer.seals c.args.sealer.now) trade
    c.args.moment old screens waited c.requires.whole (length-map kept (λ (one : Kept). one.provider)) 0 old waited waited
    (begun g.D.Disk.tells g.D.Disk.sight g.D.Counted.faults kept (g.S.Sealer.seals c.args.sealer.now) trade c.args.moment old screens waited
    c.requires.whole c.what_rests_carries_on.ensures))

pub returns-in_err-slots-clause-carries : goal.returns-in_err-slots-clause-carries
returns-in_err-slots-clause-carries g c =
    let kept = c.args.directory.now in
    let trade = trade_of kept (g.S.Sealer.seals c.args.sealer.now) in
    let old = c.args.providers.now.items in
    let screens = map g.J.Judge.patterns c.args.judges.now.items in
    let waited = c.args.arrivals.now.items in
    (begun g.D.Disk.tells g.D.Disk.sight g.D.Counted.faults kept (g.S.Sealer.seals c.args.sealer.now) trade c.args.moment old screens waited
    c.requires.whole c.what_rests_carries_on.ensures).carries

-- ---- the links are taken apart

pub part-requires-clause-rows : goal.part-requires-clause-rows
part-requires-clause-rows g c =
    let table = c.in_ok-rooms.field-0 in
    let count = length c.args.arrivals.now.items in
    subst (λ (rows : List (Vec Putting Global)). All (HasRoom count) rows) (sym c.as_mut_slice.ensures.value)
    (subst (λ (n : ℕ). All (HasRoom n) table.rows.items) (c.count-count.ensures.count ∙ sym c.requires.whole.links)
    c.in_ok-rooms.ensures.rows.1)

pub part-requires-clause-trays : goal.part-requires-clause-trays
part-requires-clause-trays g c =
    let table = c.in_ok-rooms.field-0 in
    subst (λ (n : ℕ). All (HasRoom n) table.taking.items) (c.count-count.ensures.count ∙ sym c.requires.whole.links)
    c.in_ok-rooms.ensures.taking.1

-- ---- the workers are seated

pub seat-requires-clause-rows : goal.seat-requires-clause-rows
seat-requires-clause-rows g c =
    let whole = c.requires.whole in
    let table = c.in_ok-rooms.field-0 in
    let count = c.in_ok-rooms.ensures.rows.0 ∙ c.count-count.ensures.count ∙ sym whole.links in
    ap (λ (l : List (Vec Putting Global)). length l)
    (rows_lent table.rows c.as_mut_slice.result.now c.part.new.rows (length c.args.arrivals.now.items) c.as_mut_slice.ensures.value count
    c.part.ensures.ends.senders)
    ∙ sym (length-map c.part.new.rows (λ (row : Vec Putting Global). row.items))
    ∙ c.part.ensures.ends.senders ∙ whole.links ∙ sym whole.count

pub seat-requires-clause-judges : goal.seat-requires-clause-judges
seat-requires-clause-judges g c = c.requires.judges ∙ sym c.requires.whole.count

-- what the workers begin with, whatever they leave
seated : (g : given.Over) (c : After-as_mut_slice-2 g) (after : List (Slot g.row.D.Denot g.row.J.Denot))
    → AreSeated g.D.Disk.tells g.D.Disk.sight g.D.Counted.faults g.J.Judge.patterns g.J.Judge.seen c.args.directory.now (g.S.Sealer.seals c.args.sealer.now) c.args.moment
    c.args.providers.now.items c.args.judges.now.items c.args.arrivals.now.items c.as_mut_slice-2.result.now after c.in_ok-rooms.field-0.rooms.items
    (ends_in c.part.new.rows) c.part.new.takers.items
seated g c after =
    let whole = c.requires.whole in
    let table = c.in_ok-rooms.field-0 in
    let slots = c.as_mut_slice-2.ensures.value in
    let seat = c.seat.ensures in
    let count = c.in_ok-rooms.ensures.rows.0 ∙ c.count-count.ensures.count ∙ sym whole.links in
    seated_so g.D.Disk.tells g.D.Disk.sight g.D.Counted.faults g.J.Judge.patterns g.J.Judge.seen c.args.directory.now (g.S.Sealer.seals c.args.sealer.now) c.args.moment
    c.args.providers.now.items c.args.judges.now.items c.args.arrivals.now.items c.as_mut_slice-2.result.now after table.rooms.items
    (ends_in c.part.new.rows) c.part.new.takers.items
    (take table.rows.len (c.part.new.rows ++ drop (length c.part.new.rows) table.rows.items)) c.part.new.rows c.count-count.result
    c.as_slice.result.now whole
    (ap (λ (l : List (Slot g.row.D.Denot g.row.J.Denot)). providers_in l) slots ∙ seat.providers)
    (ap (λ (l : List (Slot g.row.D.Denot g.row.J.Denot)). judges_in l) slots ∙ seat.judges)
    (ap (λ (l : List (Slot g.row.D.Denot g.row.J.Denot)). putters_in l) slots ∙ seat.putters)
    (rows_lent table.rows c.as_mut_slice.result.now c.part.new.rows (length c.args.arrivals.now.items) c.as_mut_slice.ensures.value count
    c.part.ensures.ends.senders)
    refl
    (ap (λ (l : List (Slot g.row.D.Denot g.row.J.Denot)). takers_in l) slots ∙ seat.takers)
    (ap (λ (l : List (Slot g.row.D.Denot g.row.J.Denot)). rooms_in l) slots ∙ seat.rooms)
    c.part.ensures.ends c.part.ensures.waiting c.in_ok-rooms.ensures.rooms c.count-count.ensures.count c.as_slice.ensures.value

pub all_work-requires-clause-few : goal.all_work-requires-clause-few
all_work-requires-clause-few g c κs within =
    let size = many _ _ _ _ _ _ _ _ _ _ _ _ _ _ _ _ (seated g c c.as_mut_slice-2.result.now) in omega (arith, size)

pub all_work-requires-clause-ready : goal.all_work-requires-clause-ready
all_work-requires-clause-ready g c κs within = λ me slot l.
    ready _ _ _ _ _ _ _ _ _ _ _ _ _ _ _ _ (seated g c c.as_mut_slice-2.result.now) me slot l

-- ---- the workers are done

-- as many as there are providers
slots_many : (g : given.Over) (c : After-all_work g)
    → length (take c.seat.new.slots.len (c.all_work.new.slots ++ drop (length c.all_work.new.slots) c.seat.new.slots.items))
    ≡ length c.args.providers.now.items
slots_many g c =
    let lent = c.as_mut_slice-2.ensures.value in
    ap (λ (l : List (Slot g.row.D.Denot g.row.J.Denot)). length l)
    (lent_again c.seat.new.slots c.as_mut_slice-2.result.now c.all_work.new.slots lent c.all_work.ensures.count)
    ∙ c.all_work.ensures.count
    ∙ ap (λ (l : List (Slot g.row.D.Denot g.row.J.Denot)). length l) lent
    ∙ sym (length-map c.seat.new.slots.items (λ (slot : Slot g.row.D.Denot g.row.J.Denot). slot.provider))
    ∙ ap (λ (l : List (ProviderState g.row.D.Denot)). length l) c.seat.ensures.providers

-- and as there is room for
slots_count : (g : given.Over) (c : After-all_work g)
    → length (take c.seat.new.slots.len (c.all_work.new.slots ++ drop (length c.all_work.new.slots) c.seat.new.slots.items))
    ≡ c.count-count.result
slots_count g c = slots_many g c ∙ c.requires.whole.count ∙ sym c.count-count.ensures.count

pub rise-requires-clause-providers : goal.rise-requires-clause-providers
rise-requires-clause-providers g c =
    subst (λ (n : ℕ). HasRoom n c.seat.new.providers) (sym (slots_many g (goal.at.rise-requires-clause-providers g c).After-all_work)) c.seat.ensures.providers_room

pub rise-requires-clause-judges : goal.rise-requires-clause-judges
rise-requires-clause-judges g c =
    subst (λ (n : ℕ). HasRoom n c.seat.new.judges) (sym (slots_many g (goal.at.rise-requires-clause-judges g c).After-all_work)) c.seat.ensures.judges_room

pub rise-requires-clause-putters : goal.rise-requires-clause-putters
rise-requires-clause-putters g c =
    subst (λ (n : ℕ). HasRoom n c.in_ok-rooms.field-0.putters) (sym (slots_count g (goal.at.rise-requires-clause-putters g c).After-all_work)) c.in_ok-rooms.ensures.putters

pub rise-requires-clause-takers : goal.rise-requires-clause-takers
rise-requires-clause-takers g c =
    subst (λ (n : ℕ). HasRoom n c.seat.new.takers) (sym (slots_many g (goal.at.rise-requires-clause-takers g c).After-all_work)) c.seat.ensures.takers_room

pub rise-requires-clause-turns : goal.rise-requires-clause-turns
rise-requires-clause-turns g c =
    subst (λ (n : ℕ). HasRoom n c.in_ok-rooms.field-0.turns) (sym (slots_count g (goal.at.rise-requires-clause-turns g c).After-all_work)) c.in_ok-rooms.ensures.turns

-- ---- the links are put together

-- the rows of the workers' ends that put
rows_back : (g : given.Over) (c : After-as_mut_slice-3 g) → c.as_mut_slice-3.result.now ≡ putters_in c.all_work.new.slots
rows_back g c =
    c.as_mut_slice-3.ensures.value ∙ c.rise.ensures.putters
    ∙ ap (λ (l : List (Slot g.row.D.Denot g.row.J.Denot)). putters_in l)
    (lent_again c.seat.new.slots c.as_mut_slice-2.result.now c.all_work.new.slots c.as_mut_slice-2.ensures.value c.all_work.ensures.count)

-- their ends that take
ends_back : (g : given.Over) (c : After-as_mut_slice-3 g) → c.rise.new.takers.items ≡ takers_in c.all_work.new.slots
ends_back g c =
    c.rise.ensures.takers
    ∙ ap (λ (l : List (Slot g.row.D.Denot g.row.J.Denot)). takers_in l)
    (lent_again c.seat.new.slots c.as_mut_slice-2.result.now c.all_work.new.slots c.as_mut_slice-2.ensures.value c.all_work.ensures.count)

-- one row for each provider
back_many : (g : given.Over) (c : After-as_mut_slice-3 g) → length c.as_mut_slice-3.result.now ≡ length c.args.directory.now
back_many g c =
    let lent = c.as_mut_slice-2.ensures.value in
    ap (λ (l : List (List Putting)). length l) (rows_back g c)
    ∙ length-map c.all_work.new.slots (λ (slot : Slot g.row.D.Denot g.row.J.Denot). slot.putters)
    ∙ c.all_work.ensures.count
    ∙ ap (λ (l : List (Slot g.row.D.Denot g.row.J.Denot)). length l) lent
    ∙ sym (length-map c.seat.new.slots.items (λ (slot : Slot g.row.D.Denot g.row.J.Denot). slot.provider))
    ∙ ap (λ (l : List (ProviderState g.row.D.Denot)). length l) c.seat.ensures.providers
    ∙ c.requires.whole.count

pub join-requires-clause-ends : goal.join-requires-clause-ends
join-requires-clause-ends g c =
    let begun = seated g (goal.at.join-requires-clause-ends g c).After-as_mut_slice-2 c.all_work.new.slots in
    to_join _ _ _ _ _ _ _ _ _ _ _ _ _ _ _ _ begun c.all_work.ensures.count c.all_work.ensures.each c.what_rests_carries_on.ensures
    c.as_mut_slice-3.result.now c.rise.new.takers.items (rows_back g (goal.at.join-requires-clause-ends g c).After-as_mut_slice-3) (ends_back g (goal.at.join-requires-clause-ends g c).After-as_mut_slice-3)

pub join-requires-clause-count : goal.join-requires-clause-count
join-requires-clause-count g c = c.in_ok-rooms.ensures.linking.0 ∙ c.count-count.ensures.count ∙ sym (back_many g (goal.at.join-requires-clause-count g c).After-as_mut_slice-3)

pub join-requires-clause-trays : goal.join-requires-clause-trays
join-requires-clause-trays g c =
    subst (λ (n : ℕ). All (HasRoom n) c.in_ok-rooms.field-0.linking.items) (c.count-count.ensures.count ∙ sym (back_many g (goal.at.join-requires-clause-trays g c).After-as_mut_slice-3))
    c.in_ok-rooms.ensures.linking.1

pub join-requires-clause-arrivals : goal.join-requires-clause-arrivals
join-requires-clause-arrivals g c =
    let size = back_many g (goal.at.join-requires-clause-arrivals g c).After-as_mut_slice-3 in
    let links = c.requires.whole.links in
    record {
      none = c.part.ensures.none;
      room = omega (arith, size, links, c.part.ensures.room, c.args.arrivals.now.ok.0, c.args.arrivals.now.ok.1);
    }

-- ---- what the round leaves

left : (g : given.Over) (c : After-join g)
    → AreSeated g.D.Disk.tells g.D.Disk.sight g.D.Counted.faults g.J.Judge.patterns g.J.Judge.seen c.args.directory.now (g.S.Sealer.seals c.args.sealer.now) c.args.moment
    c.args.providers.now.items c.args.judges.now.items c.args.arrivals.now.items c.as_mut_slice-2.result.now c.all_work.new.slots c.in_ok-rooms.field-0.rooms.items
    (ends_in c.part.new.rows) c.part.new.takers.items
    → c.as_mut_slice-3.result.now ≡ putters_in c.all_work.new.slots → c.rise.new.takers.items ≡ takers_in c.all_work.new.slots
    → Leaves g.D.Disk.tells g.D.Disk.sight g.D.Counted.faults c.args.directory.now (g.S.Sealer.seals c.args.sealer.now) c.args.moment
    c.args.providers.now.items (map g.J.Judge.patterns c.args.judges.now.items) c.args.arrivals.now.items c.rise.new.providers.items c.join.new.arrivals.items
left g c begun rows ends =
    let providers = c.rise.ensures.providers
    ∙ ap (λ (l : List (Slot g.row.D.Denot g.row.J.Denot)). providers_in l)
    (lent_again c.seat.new.slots c.as_mut_slice-2.result.now c.all_work.new.slots c.as_mut_slice-2.ensures.value c.all_work.ensures.count) in
    leaves _ _ _ _ _ _ _ _ _ _ _ _ _ _ _ _ begun c.all_work.ensures.count c.all_work.ensures.each c.what_rests_carries_on.ensures
    c.as_mut_slice-3.result.now c.rise.new.takers.items rows ends c.rise.new.providers.items providers c.join.new.arrivals.items
    c.join.ensures

pub returns-then-len-count-clause-whole : goal.returns-then-len-count-clause-whole
returns-then-len-count-clause-whole g c =
    let paths = goal.at.returns-then-len-count-clause-whole g c in
    (left g paths.After-join (seated g paths.After-as_mut_slice-2 c.all_work.new.slots) (rows_back g paths.After-as_mut_slice-3)
    (ends_back g paths.After-as_mut_slice-3)).whole

pub returns-then-len-count-clause-carries : goal.returns-then-len-count-clause-carries
returns-then-len-count-clause-carries g c =
    let paths = goal.at.returns-then-len-count-clause-carries g c in
    (left g paths.After-join (seated g paths.After-as_mut_slice-2 c.all_work.new.slots) (rows_back g paths.After-as_mut_slice-3)
    (ends_back g paths.After-as_mut_slice-3)).carries

pub returns-then-len-count-clause-stands : goal.returns-then-len-count-clause-stands
returns-then-len-count-clause-stands g c =
    let paths = goal.at.returns-then-len-count-clause-stands g c in
    (left g paths.After-join (seated g paths.After-as_mut_slice-2 c.all_work.new.slots) (rows_back g paths.After-as_mut_slice-3)
    (ends_back g paths.After-as_mut_slice-3)).stands

pub returns-then-len-count-clause-later : goal.returns-then-len-count-clause-later
returns-then-len-count-clause-later g c =
    let paths = goal.at.returns-then-len-count-clause-later g c in
    (left g paths.After-join (seated g paths.After-as_mut_slice-2 c.all_work.new.slots) (rows_back g paths.After-as_mut_slice-3)
    (ends_back g paths.After-as_mut_slice-3)).later

pub returns-clause-stops : goal.returns-clause-stops
returns-clause-stops g c =
    let paths = goal.at.returns-clause-stops g c in
    (left g paths.After-join (seated g paths.After-as_mut_slice-2 c.all_work.new.slots) (rows_back g paths.After-as_mut_slice-3)
    (ends_back g paths.After-as_mut_slice-3)).stops

pub returns-clause-whole : goal.returns-clause-whole
returns-clause-whole g c =
    let paths = goal.at.returns-clause-whole g c in
    (left g paths.After-join (seated g paths.After-as_mut_slice-2 c.all_work.new.slots) (rows_back g paths.After-as_mut_slice-3)
    (ends_back g paths.After-as_mut_slice-3)).whole

pub returns-clause-carries : goal.returns-clause-carries
returns-clause-carries g c =
    let paths = goal.at.returns-clause-carries g c in
    (left g paths.After-join (seated g paths.After-as_mut_slice-2 c.all_work.new.slots) (rows_back g paths.After-as_mut_slice-3)
    (ends_back g paths.After-as_mut_slice-3)).carries

pub returns-clause-stands : goal.returns-clause-stands
returns-clause-stands g c =
    let paths = goal.at.returns-clause-stands g c in
    (left g paths.After-join (seated g paths.After-as_mut_slice-2 c.all_work.new.slots) (rows_back g paths.After-as_mut_slice-3)
    (ends_back g paths.After-as_mut_slice-3)).stands

pub returns-clause-later : goal.returns-clause-later
returns-clause-later g c =
    let paths = goal.at.returns-clause-later g c in
    (left g paths.After-join (seated g paths.After-as_mut_slice-2 c.all_work.new.slots) (rows_back g paths.After-as_mut_slice-3)
    (ends_back g paths.After-as_mut_slice-3)).later

-- ---- all told their turns

told : (g : given.Over) (c : After-join g)
    → AreSeated g.D.Disk.tells g.D.Disk.sight g.D.Counted.faults g.J.Judge.patterns g.J.Judge.seen c.args.directory.now (g.S.Sealer.seals c.args.sealer.now) c.args.moment
    c.args.providers.now.items c.args.judges.now.items c.args.arrivals.now.items c.as_mut_slice-2.result.now c.all_work.new.slots c.in_ok-rooms.field-0.rooms.items
    (ends_in c.part.new.rows) c.part.new.takers.items
    → c.as_mut_slice-3.result.now ≡ putters_in c.all_work.new.slots → c.rise.new.takers.items ≡ takers_in c.all_work.new.slots
    → length c.rise.new.turns.items ≡ length c.args.directory.now
    → TellsAll g.D.Disk.tells g.D.Disk.sight g.D.Counted.faults c.args.directory.now (g.S.Sealer.seals c.args.sealer.now) c.args.moment
    c.args.providers.now.items (map g.J.Judge.patterns c.args.judges.now.items) c.args.arrivals.now.items c.rise.new.turns.items c.rise.new.providers.items c.join.new.arrivals.items
told g c begun rows ends all =
    let slots = lent_again c.seat.new.slots c.as_mut_slice-2.result.now c.all_work.new.slots c.as_mut_slice-2.ensures.value c.all_work.ensures.count in
    let providers = c.rise.ensures.providers ∙ ap (λ (l : List (Slot g.row.D.Denot g.row.J.Denot)). providers_in l) slots in
    let turns = c.rise.ensures.turns ∙ ap (λ (l : List (Slot g.row.D.Denot g.row.J.Denot)). turns_told (tolds_in l)) slots in
    let size = many _ _ _ _ _ _ _ _ _ _ _ _ _ _ _ _ begun in
    let tolds = all_turns c.rise.new.turns.items (tolds_in c.all_work.new.slots) turns
    (all ∙ sym size ∙ sym c.all_work.ensures.count ∙ sym (length-map c.all_work.new.slots (λ (slot : Slot g.row.D.Denot g.row.J.Denot). slot.told))) in
    tells_all _ _ _ _ _ _ _ _ _ _ _ _ _ _ _ _ begun c.all_work.ensures.count c.all_work.ensures.each c.what_rests_carries_on.ensures
    c.as_mut_slice-3.result.now c.rise.new.takers.items rows ends c.rise.new.providers.items providers c.join.new.arrivals.items
    c.join.ensures c.rise.new.turns.items tolds c.a_row_is_delivered_link_by_link.ensures
    (c.rounds_keep_a_state_sound.ensures c.args.sealer.now c.requires.whole.fits
    (sites_of c.args.providers.now.items (map g.J.Judge.patterns c.args.judges.now.items) c.args.arrivals.now.items))

pub returns-then-len-count-clause-plays : goal.returns-then-len-count-clause-plays
returns-then-len-count-clause-plays g c =
    let paths = goal.at.returns-then-len-count-clause-plays g c in
    let all : length c.rise.new.turns.items ≡ length c.args.directory.now =
    sym c.rise.new.turns.ok.0 ∙ sym c.len.ensures ∙ c.if-len-count.true ∙ c.count-count.ensures.count in
    (told g paths.After-join (seated g paths.After-as_mut_slice-2 c.all_work.new.slots) (rows_back g paths.After-as_mut_slice-3)
    (ends_back g paths.After-as_mut_slice-3) all).plays

pub returns-then-len-count-clause-disk_fault : goal.returns-then-len-count-clause-disk_fault
returns-then-len-count-clause-disk_fault g c =
    let paths = goal.at.returns-then-len-count-clause-disk_fault g c in
    let all : length c.rise.new.turns.items ≡ length c.args.directory.now =
    sym c.rise.new.turns.ok.0 ∙ sym c.len.ensures ∙ c.if-len-count.true ∙ c.count-count.ensures.count in
    (told g paths.After-join (seated g paths.After-as_mut_slice-2 c.all_work.new.slots) (rows_back g paths.After-as_mut_slice-3)
    (ends_back g paths.After-as_mut_slice-3) all).disk_fault

-- ---- what their screens are, and how often they looked

judges_back : (g : given.Over) (c : After-join g) → c.rise.new.judges.items ≡ judges_in c.all_work.new.slots
judges_back g c =
    c.rise.ensures.judges
    ∙ ap (λ (l : List (Slot g.row.D.Denot g.row.J.Denot)). judges_in l)
    (lent_again c.seat.new.slots c.as_mut_slice-2.result.now c.all_work.new.slots c.as_mut_slice-2.ensures.value c.all_work.ensures.count)

screens_so : (g : given.Over) (c : After-join g)
    → AreSeated g.D.Disk.tells g.D.Disk.sight g.D.Counted.faults g.J.Judge.patterns g.J.Judge.seen c.args.directory.now (g.S.Sealer.seals c.args.sealer.now) c.args.moment
    c.args.providers.now.items c.args.judges.now.items c.args.arrivals.now.items c.as_mut_slice-2.result.now c.all_work.new.slots c.in_ok-rooms.field-0.rooms.items
    (ends_in c.part.new.rows) c.part.new.takers.items
    → map g.J.Judge.patterns c.rise.new.judges.items ≡ map g.J.Judge.patterns c.args.judges.now.items
screens_so g c begun =
    ap (λ (l : List g.row.J.Denot). map g.J.Judge.patterns l) (judges_back g c)
    ∙ screens_stay _ _ _ _ _ _ _ _ _ _ _ _ _ _ _ _ begun c.all_work.ensures.count c.all_work.ensures.each
    c.what_rests_carries_on.ensures

looks_so : (g : given.Over) (c : After-join g)
    → AreSeated g.D.Disk.tells g.D.Disk.sight g.D.Counted.faults g.J.Judge.patterns g.J.Judge.seen c.args.directory.now (g.S.Sealer.seals c.args.sealer.now) c.args.moment
    c.args.providers.now.items c.args.judges.now.items c.args.arrivals.now.items c.as_mut_slice-2.result.now c.all_work.new.slots c.in_ok-rooms.field-0.rooms.items
    (ends_in c.part.new.rows) c.part.new.takers.items
    → AllLookAlike (map g.J.Judge.seen c.args.judges.now.items) (map g.J.Judge.seen c.rise.new.judges.items)
looks_so g c begun =
    subst (λ (l : List g.row.J.Denot). AllLookAlike (map g.J.Judge.seen c.args.judges.now.items) (map g.J.Judge.seen l))
    (sym (judges_back g c))
    (look_alike _ _ _ _ _ _ _ _ _ _ _ _ _ _ _ _ begun c.all_work.ensures.count c.all_work.ensures.each
    c.what_rests_carries_on.ensures)

pub returns-then-len-count-clause-screens : goal.returns-then-len-count-clause-screens
returns-then-len-count-clause-screens g c =
    let paths = goal.at.returns-then-len-count-clause-screens g c in
    screens_so g paths.After-join (seated g paths.After-as_mut_slice-2 c.all_work.new.slots)

pub returns-then-len-count-clause-looked : goal.returns-then-len-count-clause-looked
returns-then-len-count-clause-looked g c =
    let paths = goal.at.returns-then-len-count-clause-looked g c in
    looks_so g paths.After-join (seated g paths.After-as_mut_slice-2 c.all_work.new.slots)

pub returns-clause-screens : goal.returns-clause-screens
returns-clause-screens g c =
    let paths = goal.at.returns-clause-screens g c in
    screens_so g paths.After-join (seated g paths.After-as_mut_slice-2 c.all_work.new.slots)

pub returns-clause-looked : goal.returns-clause-looked
returns-clause-looked g c =
    let paths = goal.at.returns-clause-looked g c in
    looks_so g paths.After-join (seated g paths.After-as_mut_slice-2 c.all_work.new.slots)

pub returns-in_err-rooms-clause-looked : goal.returns-in_err-rooms-clause-looked
returns-in_err-rooms-clause-looked g c = λ number. none_looked _ _ refl

pub returns-in_err-slots-clause-looked : goal.returns-in_err-slots-clause-looked
returns-in_err-slots-clause-looked g c = λ number. none_looked _ _ refl
