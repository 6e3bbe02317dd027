-- Bytes are kept where they are read as a text.
use Rattle.std.proofs.Common.{ap}
use Rattle.std.proofs.lemmas.Bool.{false≢true}
use Rattle.pec_ldif.proofs.ValueLemmas.{none_kept, text_kept}
use Rattle.pec_ldif.proofs.attributes.only_utf8.Goals as goal

pub returns-in-Ok : goal.returns-in-Ok
returns-in-Ok c = text_kept c.args.bytes.items c.in-Ok.text (ap (λ v. v.items) c.in-Ok.ensures.ok)

pub returns : goal.returns
returns c = none_kept c.args.bytes.items (λ is. false≢true (c.in-Err.ensures.succeeds is))
