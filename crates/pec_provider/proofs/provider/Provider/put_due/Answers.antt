use Rattle.std.proofs.Common.{Bool, not, subst, sym, ◌∙◌}
use Rattle.std.specs.Prelude.{IfErr}
use Rattle.pec_chronicle.specs.Chronicle.{Stands}
use Rattle.pec_reception.specs.OfTrades.{world_at}
use Rattle.pec_provider.specs.Reading.{IsUnread}
use Rattle.pec_provider.proofs.ComposeLemmas.{due_changed, due_so, few_so, given_so}
use Rattle.pec_provider.proofs.ReadLemmas.{unread_of}
use Rattle.pec_provider.proofs.RunLemmas.{desk_read, runs_inside, runs_read, up_inside}
use Rattle.pec_provider.proofs.provider.Provider.put_due.Goals as goal

pub due_letters-requires : goal.due_letters-requires
due_letters-requires g c =
    let runs = runs_inside c.args.house.now.directory.now c.args.house.now.me _ c.args.self.now c.self.view_is
    c.requires.runs in
    record { homes = runs.agree.holds.homes (world_at c.args.house.now) c.a_house_is_a_trade.ensures.of }

pub frames_of-requires-clause-agree : goal.frames_of-requires-clause-agree
frames_of-requires-clause-agree g c =
    let runs = runs_inside c.args.house.now.directory.now c.args.house.now.me _ c.args.self.now c.self.view_is
    c.requires.runs in
    runs.agree

pub returns-clause-due : goal.returns-clause-due
returns-clause-due g c =
    let trade = world_at c.args.house.now in
    let of = c.a_house_is_a_trade.ensures.of in
    let inside = c.self.inside in
    let runs = runs_inside c.args.house.now.directory.now c.args.house.now.me _ c.args.self.now c.self.view_is
    c.requires.runs in
    rw (← c.self.view_is) (λ tells stands.
    due_so trade inside.shelf c.args.house.now.me inside.chronicle.entries c.args.to c.args.room inside.owed.items
    c.deref-2.result.now runs.is (runs.agree.holds.is_half trade of) (c.deref-2.ensures.value ∙ rw c.deref.ensures.value at c.in_ok-letters.ensures)
    c.due_letters_have_the_due_frames.ensures.due (runs.agree.holds.homes trade of) c.frames_of.result
    (c.frames_of.ensures.frames tells stands))

pub returns-clause-given : goal.returns-clause-given
returns-clause-given g c =
    let trade = world_at c.args.house.now in
    let inside = c.self.inside in
    let runs = runs_inside c.args.house.now.directory.now c.args.house.now.me _ c.args.self.now c.self.view_is
    c.requires.runs in
    rw (← c.self.view_is)
    (given_so trade inside.shelf c.args.house.now.me inside.chronicle.entries c.args.to c.args.room inside.owed.items
    c.deref-2.result.now runs.is (runs.agree.holds.is_half trade c.a_house_is_a_trade.ensures.of)
    (c.deref-2.ensures.value ∙ rw c.deref.ensures.value at c.in_ok-letters.ensures)
    (g.D.Disk.tells × Stands g.D.Disk.sight inside.chronicle) c.frames_of.result
    c.frames_of.ensures.given)

pub returns-clause-few : goal.returns-clause-few
returns-clause-few g c =
    let trade = world_at c.args.house.now in
    let inside = c.self.inside in
    let runs = runs_inside c.args.house.now.directory.now c.args.house.now.me _ c.args.self.now c.self.view_is
    c.requires.runs in
    few_so trade inside.shelf c.args.house.now.me inside.chronicle.entries c.args.to c.args.room inside.owed.items
    c.deref-2.result.now runs.is (runs.agree.holds.is_half trade c.a_house_is_a_trade.ensures.of)
    (c.deref-2.ensures.value ∙ rw c.deref.ensures.value at c.in_ok-letters.ensures) c.a_turn_puts_what_is_due.ensures.few c.frames_of.result c.frames_of.ensures.few

pub returns-clause-refused : goal.returns-clause-refused
returns-clause-refused g c =
    rw (← c.self.view_is)
    (subst (λ (down : Bool). IfErr c.frames_of.result (IsUnread (not down)))
    (sym (up_inside c.self.view_is (sym c.if-is_down.ensures)))
    (unread_of c.self.inside.chronicle c.frames_of.new.chronicle c.frames_of.result c.frames_of.ensures.reads))

pub returns-clause-changed : goal.returns-clause-changed
returns-clause-changed g c =
    let trade = world_at c.args.house.now in
    let inside = c.self.inside in
    let runs = runs_inside c.args.house.now.directory.now c.args.house.now.me _ c.args.self.now c.self.view_is
    c.requires.runs in
    rw (← c.self.view_is) (λ tells stands.
    due_changed trade inside.shelf c.args.house.now.me inside.chronicle.entries c.args.to c.args.room inside.owed.items
    c.deref-2.result.now runs.is (runs.agree.holds.is_half trade c.a_house_is_a_trade.ensures.of)
    (c.deref-2.ensures.value ∙ rw c.deref.ensures.value at c.in_ok-letters.ensures) c.frames_of.result (c.frames_of.ensures.changed tells stands))

pub returns-clause-reads : goal.returns-clause-reads
returns-clause-reads g c =
    let kept = c.args.house.now.directory.now in
    let me = c.args.house.now.me in
    rw (← c.self.view_is) (desk_read kept me _ c.frames_of.new.chronicle 0 c.frames_of.result
    c.frames_of.ensures.reads (up_inside c.self.view_is (sym c.if-is_down.ensures))
    (runs_inside kept me _ c.args.self.now c.self.view_is c.requires.runs))

pub returns-clause-runs : goal.returns-clause-runs
returns-clause-runs g c =
    runs_read c.args.house.now.directory.now c.args.house.now.me _ c.args.self.now c.self.view_is
    c.frames_of.new.chronicle _ c.frames_of.result c.frames_of.ensures.reads c.requires.runs

pub returns-clause-carries : goal.returns-clause-carries
returns-clause-carries g c = rw (← c.self.view_is) c.frames_of.ensures.carries
