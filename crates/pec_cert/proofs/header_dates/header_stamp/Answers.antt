use Rattle.std.proofs.Common.{◌∙◌}
use Rattle.pec_cert.specs.HeaderDate.{weekday_of}
use Rattle.pec_cert.proofs.HeaderDateLemmas.{digits_read, nothing_read, no_stamp, other_weekday, right_weekday, same_weekday, not_weekday}
use Rattle.pec_cert.proofs.header_dates.header_stamp.Goals as goal

pub returns-in_default : goal.returns-in_default
returns-in_default c = nothing_read c.args.text.now c.in_default.field-0.rest.now c.in_default.ensures

pub stamp_of-requires : goal.stamp_of-requires
stamp_of-requires c = digits_read c.args.text.now (c.in-Ok.day_of_week, c.in-Ok.shown) c.in-Ok.ensures

pub returns-in_default-stamp_of : goal.returns-in_default-stamp_of
returns-in_default-stamp_of c = no_stamp c.args.text.now (c.in-Ok.day_of_week, c.in-Ok.shown) c.in_default-stamp_of.field-0 c.in-Ok.ensures c.in_default-stamp_of.ensures

pub returns-then-index-day_of_week : goal.returns-then-index-day_of_week
returns-then-index-day_of_week c =
    other_weekday c.args.text.now (c.in-Ok.day_of_week, c.in-Ok.shown) c.in-Ok.ensures
    (not_weekday c.in-Ok.day_of_week (weekday_of c.in-Ok.shown.day) c.index.result (c.index.ensures.value ∙ c.weekday.ensures) c.if-index-day_of_week.true)

pub returns : goal.returns
returns c =
    right_weekday c.args.text.now (c.in-Ok.day_of_week, c.in-Ok.shown) c.in-Ok-stamp_of.stamp c.in-Ok.ensures c.in-Ok-stamp_of.ensures
    (same_weekday c.in-Ok.day_of_week (weekday_of c.in-Ok.shown.day) c.index.result (c.index.ensures.value ∙ c.weekday.ensures) c.if-index-day_of_week.false)
