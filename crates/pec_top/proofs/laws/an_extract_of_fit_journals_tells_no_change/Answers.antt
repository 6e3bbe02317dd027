-- A run with status 14 opened journals of a setting, and one of these would have an entry that no Fit journals have.
use Rattle.std.proofs.Common.{inr}
use Rattle.pec_runs.specs.Happened.{trade_in}
use Rattle.pec_top.specs.Extracting.{header_text, text_within}
use Rattle.pec_top.proofs.laws.an_extract_of_fit_journals_tells_no_change.Goals as goal

pub returns : goal.returns
returns g c = λ range status unread before after depot left from upto ran told fit is.
    let was = c.a_status_says_what_was_extracted.ensures.faulted text_within header_text range status unread before after
    depot left from upto (inr is) ran.so in
    let changed = ran.changed told is in
    c.no_log_has_changed.ensures (trade_in ran.so.setting) was.2.world ran.so.opening.journals fit changed.0 changed.1
