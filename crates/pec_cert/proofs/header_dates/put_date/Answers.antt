use Rattle.std.proofs.Common.{◌++◌}
use Rattle.std.specs.Prelude.{codes}
use Rattle.pec_cert.specs.HeaderDate.{named_day_text}
use Rattle.pec_cert.specs.Shown.{time_text, zone_text}
use Rattle.pec_cert.proofs.PutLemmas.{put_more}
use Rattle.pec_cert.proofs.header_dates.put_date.Goals as goal

pub returns : goal.returns
returns c =
    let s = c.args.shown in
    put_more c.args.out.now.items c.put_named_day.new.out.items c.put_zone.new.out.items (named_day_text s.day) (codes " " ++ (time_text s.time ++ (codes " " ++ zone_text s.zone))) c.in_ok-put_named_day.ensures
    (put_more c.put_named_day.new.out.items c.push.new.self.items c.put_zone.new.out.items (codes " ") (time_text s.time ++ (codes " " ++ zone_text s.zone)) c.in_ok-push.ensures.items
    (put_more c.push.new.self.items c.put_time.new.out.items c.put_zone.new.out.items (time_text s.time) (codes " " ++ zone_text s.zone) c.in_ok-put_time.ensures
    (put_more c.put_time.new.out.items c.push-2.new.self.items c.put_zone.new.out.items (codes " ") (zone_text s.zone) c.in_ok-push-2.ensures.items c.in_ok-put_zone.ensures)))
