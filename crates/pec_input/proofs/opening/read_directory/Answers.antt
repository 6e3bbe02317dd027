use Rattle.std.proofs.Common.{◌≡◌, ◌++◌, length, subst, sym, ◌∙◌, ap, arith}
use Rattle.pec_outside.specs.Flow.{behind}
use Rattle.pec_input.specs.Finding.{IsFound, lines_left}
use Rattle.pec_input.specs.Parts.{is_mark}
use Rattle.pec_input.specs.declared.opening.TheConstants.{LONGEST_DIRECTORY}
use Rattle.pec_input.proofs.OpeningLemmas.{directory_line, long_line, mark_line}
use Rattle.pec_input.proofs.opening.read_directory.Goals as goal

pub returns-in-Long-clause-opens : goal.returns-in-Long-clause-opens
returns-in-Long-clause-opens g c =
    let left = g.S.Stream.left in
    let before = behind c.lines.buffer (left c.lines.source) in
    let after = behind c.next_line.new.buffer (left c.next_line.new.source) in
    let found = subst (λ what. IsFound LONGEST_DIRECTORY what c.next_line.new.line.items before after) c.in-Long.is
    c.in_ok-next_line.ensures.found in
    long_line _ c.lines.directory.items (lines_left before) c.lines.invariant.parts found

pub returns-then-is_mark-clause-opens : goal.returns-then-is_mark-clause-opens
returns-then-is_mark-clause-opens g c =
    let left = g.S.Stream.left in
    let before = behind c.lines.buffer (left c.lines.source) in
    let after = behind c.next_line.new.buffer (left c.next_line.new.source) in
    let found = subst (λ what. IsFound LONGEST_DIRECTORY what c.next_line.new.line.items before after) c.in-Line.is
    c.in_ok-next_line.ensures.found in
    let size : length c.as_slice.result.now ≡ length c.lines.directory.items =
    ap (λ bytes. length bytes) c.as_slice.ensures.value in (
      omega arith,
      mark_line _ before after c.lines.directory.items c.next_line.new.line.items c.lines.invariant.parts found.2
          (sym (c.if-is_mark.ensures ∙ ap is_mark c.deref.ensures.value)),
    )

pub lines-preserved : goal.lines-preserved
lines-preserved g c =
    let left = g.S.Stream.left in
    let before = behind c.lines.buffer (left c.lines.source) in
    let after = behind c.next_line.new.buffer (left c.next_line.new.source) in
    let found = subst (λ what. IsFound LONGEST_DIRECTORY what c.next_line.new.line.items before after) c.in-Line.is
    c.in_ok-next_line.ensures.found in
    record {
      parts =
          directory_line _ before after c.lines.directory.items c.next_line.new.line.items _ c.lines.invariant.parts
          found.2
          (sym (c.if-is_mark.ensures ∙ ap is_mark c.deref.ensures.value))
          (c.in_ok-extend_from_slice.ensures.items
          ∙ ap (λ bytes. c.lines.directory.items ++ bytes) c.deref-in-lines.ensures.value);
      later = omega (arith, c.lines.invariant.later, c.in_ok-next_line.ensures.later);
    }
