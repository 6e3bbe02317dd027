use Rattle.std.proofs.Common.{◌≡◌, ℕ, ◌+◌, List, ◌++◌, length, take, drop, arith, length-take}
use Rattle.std.proofs.lemmas.List.{take_at, take_rest, take-append-drop, drop-drop}
use Rattle.pec_outside.proofs.unread.Unread.read.Goals as goal

-- what a read gave stands at the front of the room, and the rest comes behind it
given_before_rest : (bytes given room : List ℕ) (at n : ℕ) → given ≡ take n (drop at bytes) → length given ≡ n
    → drop at bytes ≡ take n (given ++ room) ++ drop (at + n) bytes
given_before_rest bytes given room at n is len =
    rw (take_at given room n len, is, ← drop-drop n at bytes, take-append-drop)

pub returns-clause-taken : goal.returns-clause-taken
returns-clause-taken c =
    let n = c.min-count.result in
    let given = c.copy_from_slice.new.self in
    let len : length given ≡ n = omega (arith, length-take {A = ℕ}, c.copy_from_slice.ensures.len) in
    rw (← c.self.view_is) (given_before_rest c.self.inside.bytes.items given (drop n c.args.room.now) c.self.inside.at n
    (rw (c.deref.ensures.value, take_rest) at c.copy_from_slice.ensures.after) len)
