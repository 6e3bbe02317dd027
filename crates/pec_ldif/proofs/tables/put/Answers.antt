-- A member is put in at its place.
use Rattle.std.proofs.Common.{◌∙◌, ap}
use Rattle.toml.specs.View.{members_view}
use Rattle.pec_ldif.proofs.TableLemmas.{put_so}
use Rattle.pec_ldif.proofs.tables.put.Goals as goal

pub returns : goal.returns
returns c =
    ap (λ entries. members_view entries) c.in_ok-insert.ensures.entries
    ∙ put_so c.args.made.now.entries c.in_ok-key.key c.args.value c.args.key.now c.in_ok-key.ensures.ok
