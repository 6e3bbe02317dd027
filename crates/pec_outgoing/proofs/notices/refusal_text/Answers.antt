-- The notice is the trade's.
use Rattle.std.proofs.Common.{ap}
use Rattle.pec_types.specs.Message.{Id}
use Rattle.pec_outgoing.proofs.NoticeLemmas.{refusal_so}
use Rattle.pec_outgoing.proofs.notices.refusal_text.Goals as goal

pub returns : goal.returns
returns g c =
    refusal_so c.an_address_is_told_exactly.ensures c.args.desk.now.house.now.directory.now (g.S.Sealer.seals
    c.args.desk.now.house.now.sealer.now) c.args.id c.args.moment
    c.id.inside.provider c.args.account.now c.args.cause c.args.path.now c.args.message.now c.in_ok-text.text.items
    c.in_ok-facts.facts c.in_ok-facts.ensures.lower
    (ap (λ (id : Id). id.provider) c.id.view_is) c.in_ok-facts.ensures.facts c.in_ok-text.ensures.text
