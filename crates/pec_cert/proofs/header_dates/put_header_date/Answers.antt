use Rattle.std.proofs.Common.{◌++◌}
use Rattle.std.specs.Prelude.{codes}
use Rattle.jiff_core.specs.Weekday.{monday_zero}
use Rattle.pec_cert.specs.HeaderDate.{weekday_name, date_text}
use Rattle.pec_cert.proofs.PutLemmas.{put_more, put_same}
use Rattle.pec_cert.proofs.header_dates.put_header_date.Goals as goal

pub returns : goal.returns
returns c =
    let day = weekday_name (monday_zero c.args.day_of_week) in
    let name = put_same c.args.out.now.items c.extend_from_slice.new.self.items c.name_of_weekday.result.now day c.in_ok-extend_from_slice.ensures.items c.name_of_weekday.ensures in
    put_more c.args.out.now.items c.extend_from_slice.new.self.items c.put_date.new.out.items day (codes ", " ++ date_text c.args.shown) name
    (put_more c.extend_from_slice.new.self.items c.extend_from_slice-2.new.self.items c.put_date.new.out.items (codes ", ") (date_text c.args.shown) c.in_ok-extend_from_slice-2.ensures.items c.in_ok-put_date.ensures)
