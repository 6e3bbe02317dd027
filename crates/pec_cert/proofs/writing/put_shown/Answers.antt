use Rattle.std.proofs.Common.{◌++◌}
use Rattle.std.specs.Prelude.{codes}
use Rattle.pec_cert.specs.Shown.{zone_text, day_text, time_text}
use Rattle.pec_cert.proofs.PutLemmas.{put_more}
use Rattle.pec_cert.proofs.writing.put_shown.Goals as goal

pub returns : goal.returns
returns c =
    put_more c.args.out.now.items c.extend_from_slice.new.self.items c.extend_from_slice-4.new.self.items (codes "<data zona=\"") ((zone_text c.args.shown.zone) ++ ((codes "\">\r\n<giorno>") ++ ((day_text c.args.shown.day) ++ ((codes "</giorno>\r\n<ora>") ++ ((time_text c.args.shown.time) ++ (codes "</ora>\r\n</data>\r\n")))))) c.in_ok-extend_from_slice.ensures.items
    (put_more c.extend_from_slice.new.self.items c.put_zone.new.out.items c.extend_from_slice-4.new.self.items (zone_text c.args.shown.zone) ((codes "\">\r\n<giorno>") ++ ((day_text c.args.shown.day) ++ ((codes "</giorno>\r\n<ora>") ++ ((time_text c.args.shown.time) ++ (codes "</ora>\r\n</data>\r\n"))))) c.in_ok-put_zone.ensures
    (put_more c.put_zone.new.out.items c.extend_from_slice-2.new.self.items c.extend_from_slice-4.new.self.items (codes "\">\r\n<giorno>") ((day_text c.args.shown.day) ++ ((codes "</giorno>\r\n<ora>") ++ ((time_text c.args.shown.time) ++ (codes "</ora>\r\n</data>\r\n")))) c.in_ok-extend_from_slice-2.ensures.items
    (put_more c.extend_from_slice-2.new.self.items c.put_day.new.out.items c.extend_from_slice-4.new.self.items (day_text c.args.shown.day) ((codes "</giorno>\r\n<ora>") ++ ((time_text c.args.shown.time) ++ (codes "</ora>\r\n</data>\r\n"))) c.in_ok-put_day.ensures
    (put_more c.put_day.new.out.items c.extend_from_slice-3.new.self.items c.extend_from_slice-4.new.self.items (codes "</giorno>\r\n<ora>") ((time_text c.args.shown.time) ++ (codes "</ora>\r\n</data>\r\n")) c.in_ok-extend_from_slice-3.ensures.items
    (put_more c.extend_from_slice-3.new.self.items c.put_time.new.out.items c.extend_from_slice-4.new.self.items (time_text c.args.shown.time) (codes "</ora>\r\n</data>\r\n") c.in_ok-put_time.ensures
    (c.in_ok-extend_from_slice-4.ensures.items))))))
