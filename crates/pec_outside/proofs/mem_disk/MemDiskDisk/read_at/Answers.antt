use Rattle.std.proofs.Common.{◌≡◌, ℕ, ◌-◌, ◌<◌, ◌≤◌, min, List, ◌++◌, length, take, drop, refl, ap, ◌∙◌, ⊎_elim, arith, length-drop}
use Rattle.std.proofs.lemmas.Bool.{cases_lt}
use Rattle.std.proofs.lemmas.List.{take-append-le, take_all, take_rest, length-take}
use Rattle.pec_outside.specs.MemoryDisk.{DiskState, held_of}
use Rattle.pec_outside.proofs.mem_disk.MemDiskDisk.read_at.Goals as goal

as_long : (count : ℕ) (xs ys : List ℕ) → count ≡ min (length xs) (length ys) → length (take count xs) ≡ length (take count ys)
as_long count xs ys is = simp length-take (omega (arith, is))

-- the bytes from a place on, as many as there are and there is room for
module _ (bytes rest : List ℕ) (room at start count : ℕ) (from : start ≡ min (length bytes) at)
    (cut : rest ≡ take (length bytes - start) (drop start bytes)) (many : count ≡ min room (length rest)) where
  behind_start : rest ≡ drop start bytes
  behind_start = cut ∙ take_rest bytes start

  length_rest : length rest ≡ length bytes - start
  length_rest = ap length behind_start ∙ length-drop start bytes

  read_count : count ≡ min room (length bytes - at)
  read_count = omega (arith, from, many, length_rest)

  read_bytes : (copied others : List ℕ) → copied ≡ take count rest → take count (copied ++ others) ≡ take count (drop at bytes)
  read_bytes copied others is = ⊎_elim past here (cases_lt (length bytes) at)
    where
      past : length bytes < at → take count (copied ++ others) ≡ take count (drop at bytes)
      past out = let none : count ≡ 0 = omega (arith, from, many, length_rest, out) in rw none refl

      here : at ≤ length bytes → take count (copied ++ others) ≡ take count (drop at bytes)
      here within =
          let same : start ≡ at = omega (arith, from, within) in
          let small : min count (length rest) ≡ count = omega (arith, many) in
          let long : length copied ≡ count = ap length is ∙ length-take count rest ∙ small in
          take-append-le count copied others (omega (arith, long)) ∙ take_all count copied (omega (arith, long)) ∙ is
          ∙ ap (take count) behind_start ∙ ap (λ (k : ℕ). take count (drop k bytes)) same

pub copy_from_slice-requires : goal.copy_from_slice-requires
copy_from_slice-requires c = as_long c.min-count.result c.args.room.now _ c.min-count.ensures

pub returns-clause-count : goal.returns-clause-count
returns-clause-count c =
    let bytes : c.as_slice-bytes.result.now ≡ (held_of c.args.self.now.log).bytes =
    c.as_slice-bytes.ensures.value ∙ c.self.invariant.bytes ∙ ap (λ (d : DiskState). (held_of d.log).bytes) c.self.view_is ∙ c.in_ok-look.ensures.rests.seen in
    rw (← bytes) (read_count c.as_slice-bytes.result.now _ (length c.args.room.now) c.args.at c.min-start.result c.min-count.result c.min-start.ensures refl c.min-count.ensures)

pub returns-clause-bytes : goal.returns-clause-bytes
returns-clause-bytes c =
    let bytes : c.as_slice-bytes.result.now ≡ (held_of c.args.self.now.log).bytes =
    c.as_slice-bytes.ensures.value ∙ c.self.invariant.bytes ∙ ap (λ (d : DiskState). (held_of d.log).bytes) c.self.view_is ∙ c.in_ok-look.ensures.rests.seen in
    rw (← bytes) (read_bytes c.as_slice-bytes.result.now _ (length c.args.room.now) c.args.at c.min-start.result c.min-count.result c.min-start.ensures refl c.min-count.ensures
    c.copy_from_slice.new.self _ c.copy_from_slice.ensures.after)

pub returns-clause-after : goal.returns-clause-after
returns-clause-after c = c.in_ok-look.ensures.after
