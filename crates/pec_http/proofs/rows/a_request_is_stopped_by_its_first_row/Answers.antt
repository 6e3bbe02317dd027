use Rattle.pec_http.proofs.RowLemmas.{put, stopped}
use Rattle.pec_http.proofs.rows.a_request_is_stopped_by_its_first_row.Goals as goal

pub returns : goal.returns
returns c = record { stopped = stopped; put = put }
