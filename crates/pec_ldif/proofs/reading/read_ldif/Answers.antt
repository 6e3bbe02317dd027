-- What was read is what `ldif_of_text` tells, and so what the text is.
use Rattle.pec_ldif.proofs.LdifLaws.{ldif_reads}
use Rattle.pec_ldif.proofs.reading.read_ldif.Goals as goal

pub returns : goal.returns
returns c = record {
  reads = ldif_reads (λ entries. entries.items) c.args.text.now c.read_text.result (c.a_text_is_one_ldif.ensures c.args.text.now) c.read_text.ensures;
  exact = c.read_text.ensures;
}
