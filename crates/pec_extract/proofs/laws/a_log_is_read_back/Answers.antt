use Rattle.std.proofs.Common.{[], ◌∷◌, ◌++◌}
use Rattle.pec_extract.specs.Logs.{all_totals, rows_of_all}
use Rattle.pec_extract.specs.Records.{totals_record}
use Rattle.pec_extract.proofs.ReadBackLemmas.{totals_sum, whole_has}
use Rattle.pec_extract.proofs.laws.a_log_is_read_back.Goals as goal

pub returns-clause-read : goal.returns-clause-read
returns-clause-read c = λ trade providers from upto journals.
    c.an_extract_is_read_back.ensures.read
    (rows_of_all trade providers from upto 0 journals ++ totals_record (all_totals trade from upto journals) ∷ [])
    (whole_has trade providers from upto journals)

pub returns-clause-totals : goal.returns-clause-totals
returns-clause-totals c = λ trade from upto journals. totals_sum trade from upto 0 journals
