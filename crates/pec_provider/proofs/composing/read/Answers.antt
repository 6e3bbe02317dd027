use Rattle.std.proofs.Common.{List, ap, refl, sym, ◌∙◌}
use Rattle.std.specs.Prelude.{slice_get}
use Rattle.pec_types.specs.declared.places.Place.{Place}
use Rattle.pec_provider.specs.Reading.{IsAbsent}
use Rattle.pec_provider.proofs.ComposeLemmas.{never_changed}
use Rattle.pec_provider.proofs.ReadLemmas.{absent_place, same_count, shut_of}
use Rattle.pec_provider.proofs.composing.read.Goals as goal

pub returns-in_default-clause-changed : goal.returns-in_default-clause-changed
returns-in_default-clause-changed g c = λ tells stands. (
  refl,
  absent_place c.args.chronicle.now.entries c.args.number
      (ap (λ (places : List Place). slice_get places c.args.number) (sym c.requires.places)
      ∙ sym c.in_default.ensures.is),
)

pub returns-in_default-clause-reads : goal.returns-in_default-clause-reads
returns-in_default-clause-reads g c = shut_of c.args.chronicle.now c.give_up.new.self c.give_up.ensures.down

pub returns-in_default-clause-later : goal.returns-in_default-clause-later
returns-in_default-clause-later g c =
    same_count g.D.Counted.faults c.args.chronicle.now c.give_up.new.self c.give_up.ensures.down

pub returns-clause-entry : goal.returns-clause-entry
returns-clause-entry g c = λ tells stands.
    c.read_at.ensures.entry tells stands
    (ap (λ (places : List Place). slice_get places c.args.number) (sym c.requires.places) ∙ sym c.in-Some.ensures.is)

pub returns-clause-changed : goal.returns-clause-changed
returns-clause-changed g c = λ tells stands.
    never_changed (IsAbsent c.args.chronicle.now.entries c.args.number) c.read_at.result
    (c.read_at.ensures.unchanged tells stands
    (ap (λ (places : List Place). slice_get places c.args.number) (sym c.requires.places) ∙ sym c.in-Some.ensures.is))
