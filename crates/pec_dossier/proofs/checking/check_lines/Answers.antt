-- From line to line, and to each exit.
use Rattle.std.proofs.Common.{◌∙◌, ap, arith}
use Rattle.std.proofs.lemmas.Result.{err_from_is_err_and}
use Rattle.pec_outside.specs.Flow.{behind, followed_by}
use Rattle.pec_directory.specs.Directory.{providers_of}
use Rattle.pec_input.specs.declared.buffers.InputFault.TheVariants as faults
use Rattle.pec_dossier.proofs.LoopLemmas.{all_over, begins, breaks, broken, checks, ended, ends_at, ends_over, halted, lacks_first, passes, room, told_here}
use Rattle.pec_dossier.proofs.checking.check_lines.Goals as goal

pub lines-init : goal.lines-init
lines-init g c = record {
  reached = begins (providers_of c.args.directory.now) (behind c.args.buffer.now (g.S.Stream.left c.args.source.now))
      (g.W.Stream.held c.args.out.now) _ c.new-tally.ensures;
  number = omega arith;
  source_later = omega arith;
  sink_later = omega arith;
}

pub returns-in_err-sealer-clause-checked : goal.returns-in_err-sealer-clause-checked
returns-in_err-sealer-clause-checked g c =
    let p = err_from_is_err_and c.from_residual.result c.from_residual.ensures.1 in
    rw (p.1, p.2) (lacks_first (providers_of c.args.directory.now) _ _)

pub returns-in_err-found-clause-checked : goal.returns-in_err-found-clause-checked
returns-in_err-found-clause-checked g c =
    let p = err_from_is_err_and c.from_residual-in_err-found.result c.from_residual-in_err-found.ensures.1 in
    rw (p.1, p.2) (halted _ _ _ _ _ _ _ c.lines.invariant.reached c.in_err-found.field-0.0)

pub returns-in_err-said-clause-checked : goal.returns-in_err-said-clause-checked
returns-in_err-said-clause-checked g c =
    let p = err_from_is_err_and c.from_residual-in_err-said.result c.from_residual-in_err-said.ensures.1 in
    rw (p.1, p.2) (halted _ _ _ _ _ _ _ c.lines.invariant.reached faults.NoMemory)

pub check-requires : goal.check-requires
check-requires g c =
    room _ _ _ _ _ _ _ c.lines.invariant.reached (c.in_ok-said.ensures.few (rw c.in-Message.is tt))

pub returns-in_err-text-in-Message-clause-checked : goal.returns-in_err-text-in-Message-clause-checked
returns-in_err-text-in-Message-clause-checked g c =
    let p = err_from_is_err_and c.from_residual-in_err-text-in-Message.result
    c.from_residual-in_err-text-in-Message.ensures.1 in
    rw (p.1, p.2) (halted _ _ _ _ _ _ _ c.lines.invariant.reached faults.NoMemory)

pub returns-in_err-text-in-End-clause-checked : goal.returns-in_err-text-in-End-clause-checked
returns-in_err-text-in-End-clause-checked g c =
    let p = err_from_is_err_and c.from_residual-in_err-text-in-End.result c.from_residual-in_err-text-in-End.ensures.1 in
    rw (p.1, p.2) (halted _ _ _ _ _ _ _ c.lines.invariant.reached faults.NoMemory)

pub returns-in_err-write_all-in-Message-clause-checked : goal.returns-in_err-write_all-in-Message-clause-checked
returns-in_err-write_all-in-Message-clause-checked g c =
    let came = c.lines.invariant.reached in
    let says = rw (c.in-Message.is, c.deref.ensures.value) at c.in_ok-said.ensures.says in
    let told = told_here _ _ _ _ _ _ _ came c.in-Message.message.items _ c.deref-in-Message.ensures.value _
    c.in_ok-sealer.ensures.exact c.in_ok-text-in-Message.text.items _ c.in_ok-text-in-Message.ensures in
    let part = rw c.deref-in-Message-2.ensures.value at c.in_err-write_all-in-Message.ensures.err in
    let p = err_from_is_err_and c.from_residual-in_err-write_all-in-Message.result
    c.from_residual-in_err-write_all-in-Message.ensures.1 in
    rw (p.1, p.2) (breaks _ _ _ _ _ _ _ came c.next_line.new.line.items
    (behind c.next_line.new.buffer (g.S.Stream.left c.next_line.new.source)) c.lines_are_the_text.ensures.content
    c.in_ok-found.found c.in_ok-found.ensures.found c.in-Message.message says c.in_ok-text-in-Message.text.items told.0 _
    part)

pub returns-in_err-write_all-in-End-clause-checked : goal.returns-in_err-write_all-in-End-clause-checked
returns-in_err-write_all-in-End-clause-checked g c =
    let came = c.lines.invariant.reached in
    let says = rw (c.in-End.is, c.deref.ensures.value) at c.in_ok-said.ensures.says in
    let line = c.next_line.new.line.items in
    let unread = behind c.next_line.new.buffer (g.S.Stream.left c.next_line.new.source) in
    let here = ends_over _ _ _ _ _ _ _ came line unread c.in_ok-found.found c.in_ok-found.ensures.found says
    c.in_ok-text-in-End.text.items c.in_ok-text-in-End.ensures c.lines_are_the_text.ensures.content in
    let part = rw c.deref-in-End.ensures.value at c.in_err-write_all-in-End.ensures.err in
    let p = err_from_is_err_and c.from_residual-in_err-write_all-in-End.result
    c.from_residual-in_err-write_all-in-End.ensures.1 in
    rw (p.1, p.2) (broken _ _ _ _ _ _ _ came line unread c.in_ok-text-in-End.text.items _ here _ part)

pub returns-in-End-clause-checked : goal.returns-in-End-clause-checked
returns-in-End-clause-checked g c =
    let came = c.lines.invariant.reached in
    let says = rw (c.in-End.is, c.deref.ensures.value) at c.in_ok-said.ensures.says in
    let line = c.next_line.new.line.items in
    let unread = behind c.next_line.new.buffer (g.S.Stream.left c.next_line.new.source) in
    let here = ends_over _ _ _ _ _ _ _ came line unread c.in_ok-found.found c.in_ok-found.ensures.found says
    c.in_ok-text-in-End.text.items c.in_ok-text-in-End.ensures c.lines_are_the_text.ensures.content in
    ended _ _ _ _ _ _ _ came line unread c.in_ok-text-in-End.text.items _ here _
    (c.in_ok-write_all-in-End.ensures.ok ∙ ap (followed_by (g.W.Stream.held c.lines.out)) c.deref-in-End.ensures.value)

pub returns-in-End-clause-all_read : goal.returns-in-End-clause-all_read
returns-in-End-clause-all_read g c = λ done.
    let says = rw (c.in-End.is, c.deref.ensures.value) at c.in_ok-said.ensures.says in
    all_over _ _ _ _ _ _ _ c.lines.invariant.reached c.next_line.new.line.items
    (behind c.next_line.new.buffer (g.S.Stream.left c.next_line.new.source)) c.in_ok-found.found
    c.in_ok-found.ensures.found says c.lines_are_the_text.ensures.content

pub returns-in_err-write_all-in-Last-clause-checked : goal.returns-in_err-write_all-in-Last-clause-checked
returns-in_err-write_all-in-Last-clause-checked g c =
    let came = c.lines.invariant.reached in
    let says = rw (c.in-Last.is, c.deref.ensures.value) at c.in_ok-said.ensures.says in
    let line = c.next_line.new.line.items in
    let unread = behind c.next_line.new.buffer (g.S.Stream.left c.next_line.new.source) in
    let here = ends_at _ _ _ _ _ _ _ came line unread c.lines_are_the_text.ensures.content c.in_ok-found.found
    c.in_ok-found.ensures.found c.in-Last.text c.in-Last.last says in
    let part = rw c.deref-in-Last.ensures.value at c.in_err-write_all-in-Last.ensures.err in
    let p = err_from_is_err_and c.from_residual-in_err-write_all-in-Last.result
    c.from_residual-in_err-write_all-in-Last.ensures.1 in
    rw (p.1, p.2) (broken _ _ _ _ _ _ _ came line unread c.in-Last.text.items _ here _ part)

pub returns-in-Last-clause-checked : goal.returns-in-Last-clause-checked
returns-in-Last-clause-checked g c =
    let came = c.lines.invariant.reached in
    let says = rw (c.in-Last.is, c.deref.ensures.value) at c.in_ok-said.ensures.says in
    let line = c.next_line.new.line.items in
    let unread = behind c.next_line.new.buffer (g.S.Stream.left c.next_line.new.source) in
    let here = ends_at _ _ _ _ _ _ _ came line unread c.lines_are_the_text.ensures.content c.in_ok-found.found
    c.in_ok-found.ensures.found c.in-Last.text c.in-Last.last says in
    ended _ _ _ _ _ _ _ came line unread c.in-Last.text.items _ here _
    (c.in_ok-write_all-in-Last.ensures.ok ∙ ap (followed_by (g.W.Stream.held c.lines.out)) c.deref-in-Last.ensures.value)

pub returns-in-Last-clause-all_read : goal.returns-in-Last-clause-all_read
returns-in-Last-clause-all_read g c = λ done.
    let early = rw c.in-Last.is at c.in_ok-said.ensures.early in absurd (early done)

pub lines-preserved-in-Nothing : goal.lines-preserved-in-Nothing
lines-preserved-in-Nothing g c =
    let so = c.lines.invariant in
    let says = rw (c.in-Nothing.is, c.deref.ensures.value) at c.in_ok-said.ensures.says in
    let few = c.in_ok-said.ensures.few (rw c.in-Nothing.is tt) in
    record {
      reached = passes _ _ _ _ _ _ _ so.reached c.next_line.new.line.items
          (behind c.next_line.new.buffer (g.S.Stream.left c.next_line.new.source)) c.lines_are_the_text.ensures.content
          c.in_ok-found.found c.in_ok-found.ensures.found says;
      number = omega (arith, few);
      source_later = let l = so.source_later in let k = c.next_line.ensures.later in omega (arith, l, k);
      sink_later = so.sink_later;
    }

pub lines-preserved : goal.lines-preserved
lines-preserved g c =
    let so = c.lines.invariant in
    let says = rw (c.in-Message.is, c.deref.ensures.value) at c.in_ok-said.ensures.says in
    let few = c.in_ok-said.ensures.few (rw c.in-Message.is tt) in
    let text = c.in_ok-text-in-Message.text.items in
    let told = told_here _ _ _ _ _ _ _ so.reached c.in-Message.message.items _ c.deref-in-Message.ensures.value _
    c.in_ok-sealer.ensures.exact text _ c.in_ok-text-in-Message.ensures in
    record {
      reached = checks _ _ _ _ _ _ _ so.reached c.next_line.new.line.items
          (behind c.next_line.new.buffer (g.S.Stream.left c.next_line.new.source)) c.lines_are_the_text.ensures.content
          c.in_ok-found.found c.in_ok-found.ensures.found c.in-Message.message says text told.0 _ _ told.1
          (c.in_ok-write_all-in-Message.ensures.ok
          ∙ ap (followed_by (g.W.Stream.held c.lines.out)) c.deref-in-Message-2.ensures.value);
      number = omega (arith, few);
      source_later = let l = so.source_later in let k = c.next_line.ensures.later in omega (arith, l, k);
      sink_later = let l = so.sink_later in let k = c.write_all.ensures.later in omega (arith, l, k);
    }
