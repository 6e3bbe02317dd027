use Rattle.std.proofs.Common.{List, ap, not, sym, ◌∙◌}
use Rattle.std.specs.Prelude.{slice_get}
use Rattle.pec_types.specs.declared.places.Place.{Place}
use Rattle.pec_provider.proofs.ReadLemmas.{there_place, untold, unplaced}
use Rattle.pec_provider.proofs.RunLemmas.{desk_read, runs_read, up_inside}
use Rattle.pec_provider.proofs.ShowLemmas.{on_ok}
use Rattle.pec_provider.proofs.provider.Provider.entry.Goals as goal

-- where the provider runs, the place that was found is that of the entry
pub returns-clause-kept : goal.returns-clause-kept
returns-clause-kept g c = rw (← c.self.view_is) (λ tells stands kept seals me runs.
    c.read_at.ensures.entry tells stands
    (ap (λ (places : List Place). slice_get places c.args.number) (sym runs.agree.holds.places)
    ∙ sym c.in-Some.ensures.is))

pub returns-clause-unchanged : goal.returns-clause-unchanged
returns-clause-unchanged g c = rw (← c.self.view_is) (λ tells stands kept seals me trade runs of.
    c.read_at.ensures.unchanged tells stands
    (ap (λ (places : List Place). slice_get places c.args.number) (sym runs.agree.holds.places)
    ∙ sym c.in-Some.ensures.is))

pub returns-in_default-clause-refused : goal.returns-in_default-clause-refused
returns-in_default-clause-refused g c = rw (← c.self.view_is) (λ kept seals me trade runs of. (
  ap not (up_inside c.self.view_is (sym c.if-is_down.ensures)),
  unplaced c.self.inside.chronicle.entries c.args.number
      (ap (λ (places : List Place). slice_get places c.args.number) (sym runs.agree.holds.places)
      ∙ sym c.in_default.ensures.is),
))

pub returns-clause-found : goal.returns-clause-found
returns-clause-found g c = rw (← c.self.view_is) (λ kept seals me trade runs of.
    on_ok c.read_at.result (there_place c.self.inside.chronicle.entries c.args.number c.in-Some.place
    (ap (λ (places : List Place). slice_get places c.args.number) (sym runs.agree.holds.places)
    ∙ sym c.in-Some.ensures.is)))

pub returns-clause-refused : goal.returns-clause-refused
returns-clause-refused g c = rw (← c.self.view_is) (λ kept seals me trade runs of.
    untold c.self.inside.chronicle c.read_at.new.chronicle c.read_at.result c.read_at.ensures.reads
    (up_inside c.self.view_is (sym c.if-is_down.ensures)) c.args.number
    (there_place c.self.inside.chronicle.entries c.args.number c.in-Some.place
    (ap (λ (places : List Place). slice_get places c.args.number) (sym runs.agree.holds.places)
    ∙ sym c.in-Some.ensures.is)))

pub returns-clause-reads : goal.returns-clause-reads
returns-clause-reads g c = rw (← c.self.view_is) (λ kept seals me runs.
    desk_read kept me _ c.read_at.new.chronicle 0 c.read_at.result c.read_at.ensures.reads
    (up_inside c.self.view_is (sym c.if-is_down.ensures)) runs)

pub returns-clause-runs : goal.returns-clause-runs
returns-clause-runs g c = λ kept seals me runs.
    runs_read kept me _ c.args.self.now c.self.view_is c.read_at.new.chronicle _ c.read_at.result
    c.read_at.ensures.reads runs

pub returns-clause-carries : goal.returns-clause-carries
returns-clause-carries g c = rw (← c.self.view_is) c.read_at.ensures.carries
