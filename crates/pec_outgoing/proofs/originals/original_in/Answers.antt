-- The original in what is seen of an envelope of this message.
use Rattle.std.proofs.Common.{ap, option_map, sym, ◌∙◌}
use Rattle.pec_directory.specs.Directory.{providers_of}
use Rattle.pec_letters.specs.Views.{view_shown}
use Rattle.pec_outgoing.proofs.SeenLemmas.{original_of}
use Rattle.pec_outgoing.proofs.originals.original_in.Goals as goal

pub returns-clause-original : goal.returns-clause-original
returns-clause-original g c =
    c.unless_another.ensures.original
    ∙ original_of (g.S.Sealer.seals c.args.desk.now.house.now.sealer.now) (providers_of c.args.desk.now.house.now.directory.now)
    c.args.envelope.now c.args.id (view_shown c.in-Some.seen)
    (ap (option_map view_shown) (sym c.in-Some.is) ∙ c.in_ok-seen.ensures.seen)
