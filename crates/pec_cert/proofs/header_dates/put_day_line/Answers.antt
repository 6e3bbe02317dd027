use Rattle.std.proofs.Common.{◌++◌}
use Rattle.std.specs.Prelude.{codes}
use Rattle.pec_cert.specs.Shown.{day_text, time_text, zone_text}
use Rattle.pec_cert.proofs.PutLemmas.{put_more}
use Rattle.pec_cert.proofs.header_dates.put_day_line.Goals as goal

pub returns : goal.returns
returns c =
    let s = c.args.shown in
    let end = c.push.new.self.items in
    put_more c.args.out.now.items c.extend_from_slice.new.self.items end (codes "Giorno ") (day_text s.day ++ (codes " ore " ++ (time_text s.time ++ (codes " (" ++ (zone_text s.zone ++ codes ")"))))) c.in_ok-extend_from_slice.ensures.items
    (put_more c.extend_from_slice.new.self.items c.put_day.new.out.items end (day_text s.day) (codes " ore " ++ (time_text s.time ++ (codes " (" ++ (zone_text s.zone ++ codes ")")))) c.in_ok-put_day.ensures
    (put_more c.put_day.new.out.items c.extend_from_slice-2.new.self.items end (codes " ore ") (time_text s.time ++ (codes " (" ++ (zone_text s.zone ++ codes ")"))) c.in_ok-extend_from_slice-2.ensures.items
    (put_more c.extend_from_slice-2.new.self.items c.put_time.new.out.items end (time_text s.time) (codes " (" ++ (zone_text s.zone ++ codes ")")) c.in_ok-put_time.ensures
    (put_more c.put_time.new.out.items c.extend_from_slice-3.new.self.items end (codes " (") (zone_text s.zone ++ codes ")") c.in_ok-extend_from_slice-3.ensures.items
    (put_more c.extend_from_slice-3.new.self.items c.put_zone.new.out.items end (zone_text s.zone) (codes ")") c.in_ok-put_zone.ensures c.in_ok-push.ensures.items)))))
