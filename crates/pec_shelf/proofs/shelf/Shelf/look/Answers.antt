-- The cursors that are seen are those over the pairs that are kept.
use Rattle.std.proofs.Common.{Some, sym, ap, subst, ◌∙◌, arith}
use Rattle.pec_records.specs.declared.entries.Entry.{Entry}
use Rattle.pec_shelf.specs.Deadlines.{IsSideOf, clock_at}
use Rattle.pec_shelf.specs.Looked.{LookedSo, acceptances_seen, clock_seen}
use Rattle.pec_shelf.specs.Seen.{Seen}
use Rattle.pec_shelf.proofs.AcceptanceLemmas.{watched_are}
use Rattle.pec_shelf.proofs.CursorLemmas.{sought}
use Rattle.pec_shelf.proofs.shelf.Shelf.look.Goals as goal

pub returns-clause-clock : goal.returns-clause-clock
returns-clause-clock c = λ in_time.
    let side : IsSideOf c.args.self.now.me c.args.self.now.half c.self.inside.outbox = record {
      own = c.self.invariant.own ∙ ap (λ (s : Seen). s.me) c.self.view_is;
      messages = ap (λ (s : Seen). s.half.messages) c.self.view_is;
      charged = ap (λ (s : Seen). s.half.charged) c.self.view_is;
      marks = ap (λ (s : Seen). s.half.marks) c.self.view_is;
      known = ap (λ (s : Seen). s.half.known) c.self.view_is;
    } in
    let seen = watched_are c.args.self.now c.self.inside.deadlines c.self.inside.last c.self.inside.outbox c.self.invariant.watched side (ap (λ (s : Seen). s.certified) c.self.view_is) in
    ap Some (c.pass.ensures.clock ∙ ap (clock_at c.in-Ticked.moment) (sym seen))
    ∙ ap (clock_seen (acceptances_seen c.args.self.now)) (sym c.in-Ticked.is)

pub returns-clause-looked : goal.returns-clause-looked
returns-clause-looked c =
    let side : IsSideOf c.args.self.now.me c.args.self.now.half c.self.inside.outbox = record {
      own = c.self.invariant.own ∙ ap (λ (s : Seen). s.me) c.self.view_is;
      messages = ap (λ (s : Seen). s.half.messages) c.self.view_is;
      charged = ap (λ (s : Seen). s.half.charged) c.self.view_is;
      marks = ap (λ (s : Seen). s.half.marks) c.self.view_is;
      known = ap (λ (s : Seen). s.half.known) c.self.view_is;
    } in
    let seen = watched_are c.args.self.now c.self.inside.deadlines c.self.inside.last c.self.inside.outbox c.self.invariant.watched side (ap (λ (s : Seen). s.certified) c.self.view_is) in
    subst (λ (e : Entry). LookedSo c.args.self.now e c.pass.new.self.looks c.args.steps.now c.pass.new.steps) (sym c.in-Ticked.is)
    (sought c.args.self.now c.self.inside.deadlines c.in-Ticked.moment c.pass.new.self.looks c.args.steps.now c.pass.new.steps seen
    (sym (ap (λ (s : Seen). s.ticked) c.self.view_is)) (sym (ap (λ (s : Seen). s.looks) c.self.view_is))
    (omega (arith, c.self.invariant.watched.in_time, c.if-seconds-self.false, c.seconds.ensures.value)) c.pass.ensures.few c.pass.ensures.rose)
