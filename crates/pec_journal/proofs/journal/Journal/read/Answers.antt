use Rattle.std.proofs.Common.{◌≡◌, ℕ, ◌-◌, min, List, ◌++◌, length, take, drop, vec_len, sym, ap, ◌∙◌, arith, length-drop}
use Rattle.std.proofs.lemmas.List.{take_at, take-take, take-append-le, take_min}
use Rattle.pec_journal.proofs.FileLemmas.{entry_there}
use Rattle.pec_journal.proofs.journal.Journal.read.Goals as goal

-- the part of the room that was filled is what the disk has there, up to the room's size
filled : (seen room behind : List ℕ) (at n size whole : ℕ) → size ≡ length room → whole ≡ length room → n ≡ min (length room) (length seen - at)
    → take n room ≡ take n (drop at seen) → take n (take whole (room ++ behind)) ≡ take size (drop at seen)
filled seen room behind at n size whole sized long count given =
    take-take n whole (room ++ behind) (omega (arith, count, long))
    ∙ take-append-le n room behind (omega (arith, count))
    ∙ given
    ∙ ap (λ (k : ℕ). take k (drop at seen)) (count ∙ ap (λ (k : ℕ). min (length room) k) (sym (length-drop at seen)))
    ∙ take_min (length room) (drop at seen)
    ∙ ap (λ (k : ℕ). take k (drop at seen)) (sym sized)

pub returns-clause-given : goal.returns-clause-given
returns-clause-given g c tells =
    let seen = (g.D.Disk.sight c.self.inside.disk).seen in
    let room = c.read_at.new.room in
    let long : vec_len c.resize.new.self ≡ length room = omega (arith, c.read_at.auto.room, c.as_mut_slice.ensures.len) in
    let size : c.args.place.length ≡ length room = omega (arith, long, c.in_ok-resize.ensures.len, c.new-bytes.ensures.len) in
    rw (← c.self.view_is)
    (c.truncate.ensures.items
    ∙ filled seen room _ c.args.place.at c.in_ok-count.count c.args.place.length _ size long
    (c.in_ok-count.ensures.count tells ∙ ap (λ (k : ℕ). min k (length seen - c.args.place.at)) (sym c.read_at.auto.room))
    (c.in_ok-count.ensures.bytes tells))

pub returns-clause-entry : goal.returns-clause-entry
returns-clause-entry g c tells entries entry file stands =
    let there = entry_there c.args.place entry entries (g.D.Disk.sight c.args.self.now.disk).seen file stands in
    returns-clause-given g c tells
    ∙ ap (λ (s : List ℕ). take c.args.place.length s) there.1
    ∙ take_at entry there.0 c.args.place.length (sym stands.size)
