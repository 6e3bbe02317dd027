use Rattle.std.proofs.Common.{◌≡◌, ℕ, ap, subst, arith}
use Rattle.pec_types.specs.Message.{Id}
use Rattle.pec_shelf.specs.Still.{IsAnswered}
use Rattle.pec_shelf.specs.Waiting.{IsDoneAt}
use Rattle.pec_shelf.proofs.UndecidedLemmas.{closed_less, closed_within}
use Rattle.pec_shelf.proofs.outbox.Outbox.close.Goals as goal

pub remove-requires : goal.remove-requires
remove-requires c =
    closed_within (IsAnswered c.args.id.provider c.self.inside.charged.rows c.self.inside.known.rows) c.self.inside.messages.rows c.self.inside.unanswered.places c.in-Some.index c.in-Some.ensures

pub invariant_of-self : goal.invariant_of-self
invariant_of-self c =
    let own : c.args.id.provider ≡ c.self.inside.me = omega (arith, ap (λ (i : Id). i.provider) c.id.view_is) in
    record {
      messages = omega arith;
      charged = omega arith;
      marks = omega arith;
      known = omega arith;
      places = omega arith;
      unanswered = closed_less (IsAnswered c.self.inside.me c.self.inside.charged.rows c.self.inside.known.rows) c.self.inside.messages.rows c.self.inside.unanswered.places
          c.remove.new.self.places c.in-Some.index c.self.invariant.unanswered
          (subst (λ (me : ℕ). IsDoneAt (IsAnswered me c.self.inside.charged.rows c.self.inside.known.rows) c.self.inside.messages.rows c.self.inside.unanswered.places c.in-Some.index) own c.in-Some.ensures)
          c.remove.ensures.places;
    }
