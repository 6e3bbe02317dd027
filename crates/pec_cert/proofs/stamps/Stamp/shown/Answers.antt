use Rattle.std.proofs.Common.{◌∙◌, sym, subst, refl}
use Rattle.pec_cert.specs.Shown.{IsShown}
use Rattle.pec_cert.specs.declared.stamps.Shown.{Shown}
use Rattle.pec_cert.proofs.CalendarLemmas.{kept, shown_is}
use Rattle.pec_cert.proofs.ClockLemmas.{shown_only}
use Rattle.pec_cert.proofs.stamps.Stamp.shown.Goals as goal

pub returns-clause-shown : goal.returns-clause-shown
returns-clause-shown c =
    let d = c.day_of-day.ensures in
    let t = c.clock_of-clock.result.time in
    let same = kept c.self.inside.minutes c.self.invariant in
    let shown : Shown = record { zone = c.zone_of-zone.result; day = c.day_of-day.result; time = record { hour = t.hour; minute = t.minute; second = t.second } } in
    subst (λ stamp. IsShown shown stamp) c.self.view_is
    (shown_is shown c.clock_of-clock.result c.self.inside.moment c.self.inside.minutes
    (record { year = sym d.year; month = sym d.month; day = sym d.day; hour = refl; minute = refl; second = refl })
    c.zone_of-zone.ensures.zone (sym same ∙ c.zone_of-zone.ensures.minutes) c.clock_of-clock.ensures.moment (rw same at c.clock_of-clock.ensures.clock))

pub returns-clause-exact : goal.returns-clause-exact
returns-clause-exact c = shown_only _ _ (returns-clause-shown c)
