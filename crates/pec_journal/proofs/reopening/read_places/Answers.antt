use Rattle.std.proofs.Common.{ℕ, ◌+◌, ◌≤◌, List, Option, IfSome, length, drop, sym, ap, ◌∙◌, subst, arith, rules}
use Rattle.pec_outside.specs.Moments.{stays_on}
use Rattle.pec_journal.specs.JournalFile.{framing}
use Rattle.pec_journal.specs.Reopening.{HoldsNone, HoldsEntry}
use Rattle.pec_journal.proofs.ReopeningLemmas.{stood_more, broken_there}
use Rattle.pec_journal.proofs.reopening.read_places.Goals as goal

pub returns-in_err-length-clause-not_a_journal : goal.returns-in_err-length-clause-not_a_journal
returns-in_err-length-clause-not_a_journal g c tells size header place is =
    let stays = c.loop-places.invariant.stays tells in
    let none = c.in_err-length.ensures.not_a_journal tells (size ∙ ap length (sym stays.seen)) place (search rules) in
    broken_there (g.D.Disk.sight c.args.disk.now).seen c.loop-places.at c.loop-places.places.items place (c.loop-places.invariant.stood tells size header)
    (subst (λ (s : List ℕ). HoldsNone c.loop-places.at (drop c.loop-places.at s) place) stays.seen none)

pub loop-places-preserved : goal.loop-places-preserved
loop-places-preserved g c = record {
  within =
      let fits : c.loop-places.at + framing + c.in-Some.length ≤ c.args.size = subst (λ (o : Option ℕ). IfSome o (λ n. c.loop-places.at + framing + n ≤ c.args.size)) c.in-Some.is c.in_ok-length.ensures.within in
      omega (arith, fits, c.from.ensures);
  stood = λ tells size header.
      let stays = c.loop-places.invariant.stays tells in
      let found = c.in_ok-length.ensures.holds tells (size ∙ ap length (sym stays.seen)) in
      let there = subst (λ (s : List ℕ). HoldsEntry (drop c.loop-places.at s) c.in_ok-length.field-0) stays.seen found in
      let holds = subst (λ (o : Option ℕ). HoldsEntry (drop c.loop-places.at (g.D.Disk.sight c.args.disk.now).seen) o) c.in-Some.is there in
      let more = stood_more (g.D.Disk.sight c.args.disk.now).seen c.loop-places.at c.loop-places.places.items c.in-Some.length (c.loop-places.invariant.stood tells size header) holds in
      rw (c.from.ensures, c.in_ok-push.ensures.items) more;
  stays = λ tells. stays_on _ _ _ (c.loop-places.invariant.stays tells) (c.entry_at.ensures.rests tells);
  later = omega arith;
}
