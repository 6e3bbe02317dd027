-- What was prepared is committed as it is, and the homes that are kept stay those of the directory.
use Rattle.std.proofs.Common.{◌≡◌, subst}
use Rattle.pec_shelf.specs.Prepared.{Goes, Prepared, prepared}
use Rattle.pec_shelf_tests.proofs.playing.Desk.taken_in.Goals as goal

pub invariant_of-self-2 : goal.invariant_of-self-2
invariant_of-self-2 c =
    let same = c.prepare.ensures.same in
    let old = c.prepare.new.self in
    let new = c.commit.new.self in
    let place = c.place_of-place.result in
    record {
      homes = λ trade of.
          let is : c.in_ok-ready.ready ≡ prepared trade old.me old.half c.in-Ok.draft place =
          rw (same.0, same.1) (c.in_ok-ready.ensures.is trade of) in
          c.what_is_kept_goes_on.ensures.homes trade old new c.in-Ok.draft place
          (rw (same.2, same.1) (c.args.self.now.homes trade of))
          (subst (λ (ready : Prepared). Goes old new ready) is c.commit.ensures.after);
    }
