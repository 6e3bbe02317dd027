use Rattle.std.proofs.Common.{ap, not, ◌∙◌, rules}
use Rattle.pec_types.specs.AddressReading.{domain_of}
use Rattle.pec_directory.proofs.WalkLemmas.{outside_here}
use Rattle.pec_directory.proofs.members.is_outside.Goals as goal

pub returns : goal.returns
returns c =
    ap not (c.is_here.ensures ∙ outside_here c.args.draft.now.homes c.args.draft.now.providers.items c.args.fields.now.domains.items (domain_of c.args.address.now) c.len.result (search rules) c.requires.domains)
