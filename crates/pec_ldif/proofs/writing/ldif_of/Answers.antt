-- One provider more.
use Rattle.std.proofs.Common.{sym}
use Rattle.pec_directory.specs.Directory.{providers_of}
use Rattle.pec_ldif.specs.Writing.{ldif_text}
use Rattle.pec_ldif.proofs.WritingLemmas.{provider_more}
use Rattle.pec_ldif.proofs.writing.ldif_of.Goals as goal

pub loop-number-preserved : goal.loop-number-preserved
loop-number-preserved c =
    provider_more c.loop-number.text.items c.add_provider.new.text.items (ldif_text (providers_of c.args.directory.now)) c.args.directory.now c.loop-number.number
    c.in-Some.provider.now (sym c.in-Some.ensures) c.in_ok-add_provider.ensures c.loop-number.invariant
