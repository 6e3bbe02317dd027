use Rattle.std.proofs.Common.{◌++◌}
use Rattle.std.specs.Prelude.{codes}
use Rattle.pec_cert.specs.HeaderDate.{month_name}
use Rattle.pec_cert.specs.Markup.{two_digits, four_digits}
use Rattle.pec_cert.proofs.PutLemmas.{put_more, put_same}
use Rattle.pec_cert.proofs.header_dates.put_named_day.Goals as goal

pub returns : goal.returns
returns c =
    let d = c.args.day in
    let name = put_same c.push.new.self.items c.extend_from_slice.new.self.items c.name_of_month.result.now (month_name d.month) c.in_ok-extend_from_slice.ensures.items c.name_of_month.ensures in
    put_more c.args.out.now.items c.put_two_digits.new.out.items c.put_four_digits.new.out.items (two_digits d.day) (codes " " ++ (month_name d.month ++ (codes " " ++ four_digits d.year))) c.in_ok-put_two_digits.ensures
    (put_more c.put_two_digits.new.out.items c.push.new.self.items c.put_four_digits.new.out.items (codes " ") (month_name d.month ++ (codes " " ++ four_digits d.year)) c.in_ok-push.ensures.items
    (put_more c.push.new.self.items c.extend_from_slice.new.self.items c.put_four_digits.new.out.items (month_name d.month) (codes " " ++ four_digits d.year) name
    (put_more c.extend_from_slice.new.self.items c.push-2.new.self.items c.put_four_digits.new.out.items (codes " ") (four_digits d.year) c.in_ok-push-2.ensures.items c.in_ok-put_four_digits.ensures)))
