-- The law of the round trip, from the lemmas.
use Rattle.std.proofs.Common.{refl, ap, ◌∙◌}
use Rattle.pec_types.specs.Results.{◌>>=◌}
use Rattle.pec_directory.specs.Walk.{directory_in}
use Rattle.pec_ldif.specs.Directories.{directory_in_ldif, of_table, of_text}
use Rattle.pec_ldif.specs.FirstLine.{is_ldif}
use Rattle.pec_ldif.specs.Lines.{content_of}
use Rattle.pec_ldif.specs.Tables.{table_of}
use Rattle.pec_ldif.specs.Writing.{ldif_text, records_from}
use Rattle.pec_ldif.proofs.WrittenGood.{all_good, good_may}
use Rattle.pec_ldif.proofs.WrittenRecords.{text_again}
use Rattle.pec_ldif.proofs.WrittenTables.{table_again}
use Rattle.pec_ldif.proofs.laws.what_is_written_is_read.Goals as goal

pub returns-clause-first : goal.returns-clause-first
unfolding is_ldif ldif_text content_of
returns-clause-first c = λ providers. refl

pub returns-clause-read : goal.returns-clause-read
unfolding directory_in_ldif ldif_text
returns-clause-read c = λ providers lawful.
    let good = all_good c.an_address_has_its_bytes_alone.ensures providers lawful in
    let read = text_again (records_from 0 providers) (good_may _ (records_from 0 providers) good) good in
    let is = table_again c.an_address_is_told_exactly.ensures read.0 providers lawful read.2 in
    ap (λ r. of_text r >>= (λ entries. of_table (directory_in (table_of entries)))) read.1
    ∙ ap of_table (((c.a_table_is_told_exactly.ensures.told (table_of read.0)).value providers).1 is)
