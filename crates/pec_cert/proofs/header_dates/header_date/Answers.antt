use Rattle.std.proofs.Common.{ap}
use Rattle.jiff_core.specs.Weekday.{monday_zero}
use Rattle.pec_cert.specs.HeaderDate.{weekday_of, header_date_text}
use Rattle.pec_cert.proofs.HeaderDateLemmas.{date_only}
use Rattle.pec_cert.proofs.PutLemmas.{put_first}
use Rattle.pec_cert.proofs.header_dates.header_date.Goals as goal

pub returns-clause-date : goal.returns-clause-date
returns-clause-date c =
    let shown = c.shown-shown.result in
    record {
      shown = shown;
      shows = c.shown-shown.ensures.shown;
      spelled = put_first c.in_ok-out.out.items c.put_header_date.new.out.items (header_date_text (monday_zero c.weekday.result) shown) (header_date_text (weekday_of shown.day) shown) c.in_ok-out.ensures.items
          c.in_ok-put_header_date.ensures (ap (λ n. header_date_text n shown) c.weekday.ensures);
    }

pub returns-clause-exact : goal.returns-clause-exact
returns-clause-exact c = date_only c.args.stamp c.put_header_date.new.out.items (returns-clause-date c)
