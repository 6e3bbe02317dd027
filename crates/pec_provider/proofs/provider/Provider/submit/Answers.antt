use Rattle.std.proofs.Common.{Global, Result, Vec, [], refl}
use Rattle.pec_types.specs.declared.mailboxes.Mark.{Mark}
use Rattle.pec_types.specs.declared.turns.ProviderFault.{ProviderFault}
use Rattle.pec_types.specs.declared.turns.Submitted.{Submitted}
use Rattle.pec_directory.specs.Directory.{providers_of}
use Rattle.pec_points.specs.Case.{case_at}
use Rattle.pec_reception.specs.OfTrades.{trade_of, world_at}
use Rattle.pec_provider.specs.Looking.{Looks}
use Rattle.pec_provider.proofs.LookLemmas.{behind, handed}
use Rattle.pec_plays.specs.Commands.{Submit, Submits, played}
use Rattle.pec_screen.specs.VerdictReading.{finds}
use Rattle.pec_provider.specs.Provider.{desk_of}
use Rattle.pec_provider.proofs.FollowLemmas.{carries_entry, carries_still}
use Rattle.pec_provider.proofs.PlayLemmas.{plays_done, plays_handed, plays_torn}
use Rattle.pec_provider.proofs.RunLemmas.{enters_by}
use Rattle.pec_provider.proofs.provider.Provider.submit.Goals as goal

pub returns-in_err-entry-clause-plays : goal.returns-in_err-entry-clause-plays
returns-in_err-entry-clause-plays g c =
    let me = c.args.house.now.me in
    let trade = world_at c.args.house.now in
    let desk = desk_of c.args.self.now in
    plays_handed (λ (told : Submitted). Submits told)
    (λ luck sites. played trade luck sites (Submit me c.args.moment c.args.sender.now c.args.path.now
    c.args.message.now)) trade me (g.J.Judge.patterns c.args.screens.now) desk desk
    c.in_err-entry.field-0.0 c.from_residual.result c.from_residual.ensures.1 c.in_err-entry.ensures.admits refl

pub returns-in_err-entry-clause-carries : goal.returns-in_err-entry-clause-carries
returns-in_err-entry-clause-carries g c = λ tells journals.
    carries_still g.D.Disk.sight (world_at c.args.house.now) journals
    c.args.house.now.me _ c.args.self.now c.self.view_is (c.stands_still.ensures tells)

pub append-requires-clause-step : goal.append-requires-clause-step
append-requires-clause-step g c =
    enters_by c.args.house.now.directory.now c.args.house.now.me c.args.self.now.chronicle.entries c.in_ok-entry.entry
    (world_at c.args.house.now)
    (λ p. []) c.a_house_is_a_trade.ensures.of
    (c.in_ok-entry.ensures.follows (λ p. []))

pub returns-in_err-append-clause-plays : goal.returns-in_err-append-clause-plays
returns-in_err-append-clause-plays g c =
    let me = c.args.house.now.me in
    let trade = world_at c.args.house.now in
    plays_torn (λ (told : Submitted). Submits told)
    (λ luck sites. played trade luck sites (Submit me c.args.moment c.args.sender.now c.args.path.now
    c.args.message.now)) trade me (g.J.Judge.patterns c.args.screens.now)
    (desk_of c.args.self.now) (desk_of c.append.new.self) c.in_ok-entry.entry (Submits c.in_ok-entry.answer)
    (Vec Mark Global)
    c.in_err-append.field-0.0 c.from_residual-in_err-append.result c.from_residual-in_err-append.ensures.1
    c.in_ok-entry.ensures.admits
    (c.in_err-append.ensures.appends trade c.a_house_is_a_trade.ensures.of)

pub returns-in_err-append-clause-carries : goal.returns-in_err-append-clause-carries
returns-in_err-append-clause-carries g c = λ tells journals.
    carries_entry g.D.Disk.sight (world_at c.args.house.now) journals
    c.args.house.now.me c.args.self.now.chronicle c.append.new.self.chronicle c.in_ok-entry.entry
    (c.in_ok-entry.ensures.follows journals)
    (c.append.ensures.carries tells)

pub returns-clause-plays : goal.returns-clause-plays
returns-clause-plays g c =
    let me = c.args.house.now.me in
    let trade = world_at c.args.house.now in
    plays_done (λ (told : Submitted). Submits told)
    (λ luck sites. played trade luck sites (Submit me c.args.moment c.args.sender.now c.args.path.now
    c.args.message.now)) trade me (g.J.Judge.patterns c.args.screens.now)
    (desk_of c.args.self.now) (desk_of c.append.new.self) c.in_ok-entry.entry (Submits c.in_ok-entry.answer)
    c.in_ok-entry.answer
    c.in_ok-entry.ensures.admits (c.in_ok-append.ensures.appends trade c.a_house_is_a_trade.ensures.of) refl

pub returns-clause-carries : goal.returns-clause-carries
returns-clause-carries g c = λ tells journals.
    carries_entry g.D.Disk.sight (world_at c.args.house.now) journals
    c.args.house.now.me c.args.self.now.chronicle c.append.new.self.chronicle c.in_ok-entry.entry
    (c.in_ok-entry.ensures.follows journals)
    (c.append.ensures.carries tells)

pub returns-in_err-append-clause-looked : goal.returns-in_err-append-clause-looked
returns-in_err-append-clause-looked g c =
    let kept = c.args.house.now.directory.now in
    let me = c.args.house.now.me in
    let trade = trade_of kept (g.S.Sealer.seals c.args.house.now.sealer.now) in
    let found = finds (g.J.Judge.patterns c.args.screens.now) c.args.message.now in
    let case = case_at (providers_of kept) me c.args.sender.now c.args.path.now c.args.message.now found in
    let before = g.J.Judge.seen c.args.screens.now in
    let after = g.J.Judge.seen c.admitted.new.screens in
    handed (λ (r : Result Submitted ProviderFault). Looks case before after r) c.in_err-append.field-0.0
    c.from_residual-in_err-append.result c.from_residual-in_err-append.ensures.1
    (behind Submitted case before after trade me c.in_ok-entry.entry (desk_of c.args.self.now) (desk_of c.append.new.self)
    c.in_err-append.field-0.0 (c.in_err-append.ensures.appends trade c.a_house_is_a_trade.ensures.of) c.in_ok-entry.ensures.looked)
