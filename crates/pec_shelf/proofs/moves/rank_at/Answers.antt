use Rattle.std.proofs.Common.{◌≡◌, ℕ, List, suc, ◌-◌, take, sym, ap, ◌∙◌, arith}
use Rattle.pec_shelf.specs.Moves.{own_moved, places_of, raised_by, rank_at}
use Rattle.pec_shelf.proofs.DrawerLemmas.{past_none, took_all}
use Rattle.pec_shelf.proofs.MoveLemmas.{place_at, places_long, raised_most, step_back}
use Rattle.pec_shelf.proofs.moves.rank_at.Goals as goal

pub loop-behind-init : goal.loop-behind-init
loop-behind-init c =
    let places = places_of c.args.account.now c.args.moves.now.rows in
    let long = places_long c.args.account.now c.args.moves.now.rows in
    record {
      same = ap (λ (ps : List ℕ). rank_at ps c.args.place) (took_all places c.count-behind.result (omega (arith, long, c.count-behind.ensures.value)));
      within = omega (arith, long, c.count-behind.ensures.value);
      below = omega (arith, long, c.count-behind.ensures.value);
      few = omega (arith, long, c.count-behind.ensures.value, c.count-behind.ensures.below);
    }

pub raised_by-rank-requires : goal.raised_by-rank-requires
raised_by-rank-requires c = omega (arith, c.loop-behind.invariant.below, c.loop-behind.invariant.few, c.loop-behind-test.true)

pub loop-behind-preserved : goal.loop-behind-preserved
loop-behind-preserved c =
    let places = places_of c.args.account.now c.args.moves.now.rows in
    let now = c.loop-behind.invariant in
    let rank = c.loop-behind.rank in
    let before = c.loop-behind.behind - 1 in
    let next : suc before ≡ c.loop-behind.behind = omega (arith, c.loop-behind-test.true) in
    let here = place_at c.args.account.now c.args.moves.now.rows before c.in-Some.row.now c.in-Some.ensures in
    let raised_to = c.raised_by-rank.ensures ∙ ap (λ (p : ℕ). raised_by p rank) c.place.ensures in
    let most = raised_most c.in-Some.row.now.what.place rank in
    record {
      same = sym (step_back places before c.in-Some.row.now.what.place rank (rank_at places c.args.place) c.raised_by-rank.result here
          (sym now.same ∙ ap (λ (k : ℕ). rank_at (take k places) rank) (sym next)) raised_to);
      within = omega (arith, now.within, next);
      below = omega (arith, now.below, next, most, raised_to);
      few = now.few;
    }

pub returns-in_default : goal.returns-in_default
returns-in_default c =
    let long = places_long c.args.account.now c.args.moves.now.rows in
    let past = past_none (own_moved c.args.account.now c.args.moves.now.rows) (c.loop-behind.behind - 1) (sym c.in_default.ensures) in
    absurd (omega (arith, long, past, c.loop-behind.invariant.within, c.loop-behind-test.true))

pub returns : goal.returns
returns c =
    let places = places_of c.args.account.now c.args.moves.now.rows in
    let none : 0 ≡ c.loop-behind.behind = omega (arith, c.loop-behind-test.false) in
    ap (λ (k : ℕ). rank_at (take k places) c.loop-behind.rank) none ∙ c.loop-behind.invariant.same
