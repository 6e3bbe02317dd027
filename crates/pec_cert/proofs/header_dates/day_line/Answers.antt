use Rattle.std.proofs.Common.{ap}
use Rattle.pec_cert.specs.Clock.{shown_of}
use Rattle.pec_cert.specs.HeaderDate.{line_text}
use Rattle.pec_cert.proofs.PutLemmas.{put_first}
use Rattle.pec_cert.proofs.header_dates.day_line.Goals as goal

pub returns : goal.returns
returns c =
    put_first c.in_ok-out.out.items c.put_day_line.new.out.items (line_text c.shown.result) (line_text (shown_of c.args.stamp)) c.in_ok-out.ensures.items c.in_ok-put_day_line.ensures
    (ap line_text c.shown.ensures.exact)
