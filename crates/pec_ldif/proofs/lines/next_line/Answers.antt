-- The next line was taken in, or goes on no more.
use Rattle.std.proofs.Common.{◌≡◌, ◌-◌, ◌≤◌, ℕ, List, drop, length, take, subst, arith}
use Rattle.std.proofs.lemmas.List.{length-drop, take_rest}
use Rattle.pec_ldif.specs.LinesReading.{left_from}
use Rattle.pec_ldif.proofs.LineLemmas.{ended, taken}
use Rattle.pec_ldif.proofs.lines.next_line.Goals as goal

pub loop-bytes-preserved : goal.loop-bytes-preserved
loop-bytes-preserved c =
    let text = c.args.text.now in
    let size = c.loop-bytes.size in
    let more = c.in_ok-size.field-0 in
    let rest = take (length text - size) (drop size text) in
    let is_rest : rest ≡ drop size text = take_rest text size in
    let within : more ≤ length (drop size text) = subst (λ (xs : List ℕ). more ≤ length xs) is_rest c.in_ok-size.ensures.within in (
      taken (left_from c.args.at text) c.args.at c.args.at size more c.loop-bytes.bytes.items c.as_slice.result.now c.add_first.new.bytes.items text rest
          is_rest c.as_slice.ensures.value c.loop-bytes.invariant.2 c.loop-bytes.invariant.0 c.loop-bytes-test.ensures.value c.in_ok-size.ensures.cut
          c.in_ok-size.ensures.within c.in_ok-size.ensures.bytes,
      omega (arith, c.in_ok-size.ensures.some),
      omega (arith, within, length-drop size text, c.loop-bytes.invariant.2),
    )

pub returns-clause-line : goal.returns-clause-line
returns-clause-line c =
    let text = c.args.text.now in
    let size = c.loop-bytes.size in
    ended (left_from c.args.at text) c.args.at c.args.at size c.loop-bytes.bytes.items c.as_slice.result.now c.of.result text
    (take (length text - size) (drop size text)) (take_rest text size) c.as_slice.ensures.value c.of.ensures c.loop-bytes.invariant.0
    c.loop-bytes-test.ensures.value
