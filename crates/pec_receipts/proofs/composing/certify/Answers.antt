-- The issuer is the provider of the directory, and the stamp is on its clock.
use Rattle.std.proofs.Common.{sym, ap, ◌∙◌}
use Rattle.pec_cert.specs.Zone.{stamp_of}
use Rattle.pec_directory.specs.Directory.{providers_of}
use Rattle.pec_receipts.proofs.ComposeLemmas.{certified_by_same}
use Rattle.pec_receipts.specs.Views.{row_shown, said_shown}
use Rattle.pec_receipts.proofs.composing.certify.Goals as goal

pub returns : goal.returns
returns g c = record {
  issuer = c.in-Some.issuer.now;
  issuer_is = sym c.in-Some.ensures;
  composed =
      certified_by_same (g.S.Sealer.seals c.args.sealer.now) (providers_of c.args.directory.now) c.name.result.now
      c.in-Some.issuer.now.provider.name c.stamp-stamp.result (stamp_of c.in-Some.issuer.now.zone c.args.receipt.now.moment)
      c.args.receipt.now c.args.original.now (row_shown c.args.row.now) (said_shown c.args.said.now) c.in_ok-text.text.items
      c.name.ensures (c.stamp-stamp.ensures ∙ ap (λ zone. stamp_of zone c.args.receipt.now.moment) c.zone.ensures.zone)
      c.in_ok-text.ensures;
}
