use Rattle.std.proofs.Common.{refl}
use Rattle.std.specs.Fmt.{digits}
use Rattle.pec_http.specs.Replies.{fields_behind, reply_text, status_line}
use Rattle.pec_http.specs.Statuses.{phrase_of}
use Rattle.pec_http.proofs.serving.out_of_memory.Goals as goal

pub returns : goal.returns
unfolding digits reply_text fields_behind status_line phrase_of
returns c = refl
