use Rattle.std.proofs.Common.{◌≢◌, ◌∙◌, sym}
use Rattle.csv.specs.declared.writer.QuoteStyle.TheVariants as style
use Rattle.pec_extract.specs.Records.{record_text}
use Rattle.pec_extract.proofs.WritingLemmas.{no_fault}
use Rattle.pec_extract.proofs.records.record_text.Goals as goal

pub returns-in-Ok : goal.returns-in-Ok
unfolding record_text
returns-in-Ok c =
    let from = c.from_writer-writer.ensures in
    let plain : c.from_writer-writer.result.cfg.style ≢ style.NonNumeric = rw (from.cfg, c.new.ensures) (λ e. cc e) in
    let h = no_fault c.write_fields.result (sym c.is_err.ensures.value ∙ c.if-is_err.false) c.write_fields.ensures.bytes from.fields from.wrote plain in
    let text = rw (from.cfg, c.new.ensures, from.wtr, c.new-2.ensures.items, from.empty) at h in
    c.in-Ok.ensures.ok ∙ text
