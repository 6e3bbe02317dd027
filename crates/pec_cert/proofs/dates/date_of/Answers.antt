use Rattle.std.proofs.Common.{pos, refl, ◌∙◌, arith, w8, w16}
use Rattle.std.proofs.lemmas.Bool.{false≢true}
use Rattle.std.proofs.lemmas.Int.{to_z_pos}
use Rattle.jiff_core.specs.Calendar.{IsDate}
use Rattle.jiff_core.proofs.SignedLemmas.{signed_casts}
use Rattle.pec_cert.specs.Shown.{IsDay}
use Rattle.pec_cert.specs.declared.stamps.ShownDay.{ShownDay}
use Rattle.pec_cert.proofs.dates.date_of.Goals as goal

day_from : (day : ShownDay) → IsDate (pos day.year) (pos day.month) (pos day.day) → IsDay day
day_from day is = (is.0, (omega (arith, signed_casts, is.1.0), omega (arith, signed_casts, is.1.1)), (omega (arith, signed_casts, is.2.0), omega (arith, signed_casts, is.2.1)))

date_from : (day : ShownDay) → IsDay day → IsDate (pos day.year) (pos day.month) (pos day.day)
date_from day is = (is.0, (omega (arith, signed_casts, is.1.0), omega (arith, signed_casts, is.1.1)), (omega (arith, signed_casts, is.2.0), omega (arith, signed_casts, is.2.1)))

pub returns-in-Ok : goal.returns-in-Ok
returns-in-Ok c =
    let y = to_z_pos w16 c.args.day.year (omega (arith, c.requires)) in
    let m = to_z_pos w8 c.args.day.month (omega (arith, c.requires)) in
    let d = to_z_pos w8 c.args.day.day (omega (arith, c.requires)) in
    let there = rw (y, m, d) at c.in-Ok.ensures.succeeds.0 refl in
    let value = c.in-Ok.ensures.value in
    (day_from c.args.day there, value.0 ∙ y, cc (value.1 ∙ m), cc (value.2 ∙ d))

pub returns-in-Err : goal.returns-in-Err
returns-in-Err c is =
    let y = to_z_pos w16 c.args.day.year (omega (arith, c.requires)) in
    let m = to_z_pos w8 c.args.day.month (omega (arith, c.requires)) in
    let d = to_z_pos w8 c.args.day.day (omega (arith, c.requires)) in
    false≢true (c.in-Err.ensures.succeeds.1 (rw (y, m, d) (date_from c.args.day is)))
