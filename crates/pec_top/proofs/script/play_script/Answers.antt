-- From line to line, and to each exit.
use Rattle.std.proofs.Common.{◌∙◌, ap, arith, map, refl}
use Rattle.std.proofs.lemmas.Result.{err_from_is_err_and}
use Rattle.pec_outside.specs.Flow.{behind, followed_by}
use Rattle.pec_serving.specs.OfNetworks.{point_of}
use Rattle.pec_serving.specs.OfNetworks.{last_spare}
use Rattle.pec_top.proofs.LoopLemmas.{ends_broken, ends_here, ends_whole, input_fails, lacks_here, passes, plays, stops}
use Rattle.pec_top.proofs.script.play_script.Goals as goal

pub lines-init : goal.lines-init
lines-init g c = record {
  reads = λ stand elsewhere. (c.a_loop_climbs.ensures _ _).starts _;
  number = omega arith;
  keeps = c.what_is_kept_is_kept_on.ensures.none c.args.network.now;
  home = λ told k. refl;
  last = λ k. refl;
  depot_later = omega arith;
  source_later = omega arith;
  sink_later = omega arith;
}

pub returns-in_err-found-clause-read : goal.returns-in_err-found-clause-read
returns-in_err-found-clause-read g c = λ stand elsewhere.
    let p = err_from_is_err_and c.from_residual.result c.from_residual.ensures.1 in
    rw (p.1, p.2) (input_fails (c.lines.invariant.reads stand elsewhere) (c.a_loop_climbs.ensures _ _)
    c.in_err-found.field-0.0)

pub returns-in_err-said-clause-read : goal.returns-in_err-said-clause-read
returns-in_err-said-clause-read g c = λ stand elsewhere.
    let p = err_from_is_err_and c.from_residual-in_err-said.result c.from_residual-in_err-said.ensures.1 in
    rw (p.1, p.2) (lacks_here (c.lines.invariant.reads stand elsewhere) (c.a_loop_climbs.ensures _ _))

pub returns-in_err-play_and_write-in-Command-clause-read : goal.returns-in_err-play_and_write-in-Command-clause-read
returns-in_err-play_and_write-in-Command-clause-read g c = λ stand elsewhere.
    let so = c.lines.invariant in
    let spare = last_spare (map g.J.Judge.spare_patterns c.lines.spares.items) in
    let says = rw (c.in-Command.is, c.directory.ensures.value, so.keeps.directory, c.deref.ensures.value) at
    c.in_ok-said.ensures.says spare in
    let goes = rw (so.keeps.directory, so.keeps.seals) at
    c.in_err-play_and_write-in-Command.ensures.goes (λ told. so.keeps.stands told.1 (stand told)) elsewhere in
    let p = err_from_is_err_and c.from_residual-in_err-play_and_write-in-Command.result
    c.from_residual-in_err-play_and_write-in-Command.ensures.1 in
    rw (p.1, p.2) (stops (so.reads stand elsewhere) (c.a_loop_climbs.ensures _ _) c.next_line.new.line.items
    (behind c.next_line.new.buffer (g.S.Stream.left c.next_line.new.source)) spare c.in_ok-found.found
    c.in_ok-found.ensures.found c.in-Command.command says _ c.in_err-play_and_write-in-Command.field-0.0 goes)

pub returns-in_err-write_all-in-Last-clause-read : goal.returns-in_err-write_all-in-Last-clause-read
returns-in_err-write_all-in-Last-clause-read g c = λ stand elsewhere.
    let so = c.lines.invariant in
    let spare = last_spare (map g.J.Judge.spare_patterns c.lines.spares.items) in
    let says = rw (c.in-Last.is, c.directory.ensures.value, so.keeps.directory, c.deref.ensures.value) at
    c.in_ok-said.ensures.says spare in
    let line = c.next_line.new.line.items in
    let unread = behind c.next_line.new.buffer (g.S.Stream.left c.next_line.new.source) in
    let reads = so.reads stand elsewhere in
    let laws = c.a_loop_climbs.ensures _ _ in
    let p = err_from_is_err_and c.from_residual-in_err-write_all-in-Last.result c.from_residual-in_err-write_all-in-Last.ensures.1 in
    rw (p.1, p.2) (ends_broken reads laws line unread c.in-Last.text.items c.in-Last.end
    (ends_here reads laws line unread spare c.in_ok-found.found c.in_ok-found.ensures.found c.in-Last.text c.in-Last.end says)
    (point_of g.D.Counted.faults elsewhere (map g.J.Judge.spare_patterns c.lines.spares.items) c.lines.network (g.W.Stream.held c.write_all.new.out)
    (g.W.Counted.faults c.write_all.new.out)) refl
    (record { disks = λ k. omega arith; output = c.write_all.ensures.later })
    (rw c.deref-in-Last.ensures.value at c.in_err-write_all-in-Last.ensures.err, c.in_err-write_all-in-Last.ensures.cause))

pub returns-in-Last-clause-read : goal.returns-in-Last-clause-read
returns-in-Last-clause-read g c = λ stand elsewhere.
    let so = c.lines.invariant in
    let spare = last_spare (map g.J.Judge.spare_patterns c.lines.spares.items) in
    let says = rw (c.in-Last.is, c.directory.ensures.value, so.keeps.directory, c.deref.ensures.value) at
    c.in_ok-said.ensures.says spare in
    let line = c.next_line.new.line.items in
    let unread = behind c.next_line.new.buffer (g.S.Stream.left c.next_line.new.source) in
    let reads = so.reads stand elsewhere in
    let laws = c.a_loop_climbs.ensures _ _ in
    ends_whole reads laws line unread c.in-Last.text.items c.in-Last.end
    (ends_here reads laws line unread spare c.in_ok-found.found c.in_ok-found.ensures.found c.in-Last.text c.in-Last.end says)
    (point_of g.D.Counted.faults elsewhere (map g.J.Judge.spare_patterns c.lines.spares.items) c.lines.network (g.W.Stream.held c.write_all.new.out)
    (g.W.Counted.faults c.write_all.new.out)) refl
    (record { disks = λ k. omega arith; output = c.write_all.ensures.later })
    (c.in_ok-write_all-in-Last.ensures.ok ∙ ap (followed_by (g.W.Stream.held c.lines.out)) c.deref-in-Last.ensures.value)

pub returns-in_err-play_and_write-in-Command-clause-keeps : goal.returns-in_err-play_and_write-in-Command-clause-keeps
returns-in_err-play_and_write-in-Command-clause-keeps g c =
    c.what_is_kept_is_kept_on.ensures.one c.args.network.now c.lines.network c.play_and_write.new.network
    c.lines.invariant.keeps c.play_and_write.ensures.keeps

pub returns-in_err-play_and_write-in-Command-clause-home : goal.returns-in_err-play_and_write-in-Command-clause-home
returns-in_err-play_and_write-in-Command-clause-home g c = λ told k. c.play_and_write.ensures.home told k ∙ c.lines.invariant.home told k

pub returns-in_err-play_and_write-in-Command-clause-last : goal.returns-in_err-play_and_write-in-Command-clause-last
returns-in_err-play_and_write-in-Command-clause-last g c = λ k. c.play_and_write.ensures.last k ∙ c.lines.invariant.last k

pub lines-preserved-in-Nothing : goal.lines-preserved-in-Nothing
lines-preserved-in-Nothing g c =
    let so = c.lines.invariant in
    let few = c.in_ok-said.ensures.few (rw c.in-Nothing.is refl) in
    record {
      reads = λ stand elsewhere.
          let says = rw (c.in-Nothing.is, c.directory.ensures.value, so.keeps.directory, c.deref.ensures.value) at
          c.in_ok-said.ensures.says (last_spare (map g.J.Judge.spare_patterns c.lines.spares.items)) in
          passes (so.reads stand elsewhere) (c.a_loop_climbs.ensures _ _) c.next_line.new.line.items
          (behind c.next_line.new.buffer (g.S.Stream.left c.next_line.new.source))
          (last_spare (map g.J.Judge.spare_patterns c.lines.spares.items)) c.in_ok-found.found
          c.in_ok-found.ensures.found says;
      number = omega (arith, few);
      keeps = so.keeps;
      home = so.home;
      last = so.last;
      depot_later = so.depot_later;
      source_later = let l = so.source_later in let k = c.next_line.ensures.later in omega (arith, l, k);
      sink_later = so.sink_later;
    }

pub lines-preserved : goal.lines-preserved
lines-preserved g c =
    let so = c.lines.invariant in
    let few = c.in_ok-said.ensures.few (rw c.in-Command.is refl) in
    record {
      reads = λ stand elsewhere.
          let says = rw (c.in-Command.is, c.directory.ensures.value, so.keeps.directory, c.deref.ensures.value) at
          c.in_ok-said.ensures.says (last_spare (map g.J.Judge.spare_patterns c.lines.spares.items)) in
          let goes = rw (so.keeps.directory, so.keeps.seals) at
          c.in_ok-play_and_write-in-Command.ensures.goes (λ told. so.keeps.stands told.1 (stand told)) elsewhere in
          plays (so.reads stand elsewhere) (c.a_loop_climbs.ensures _ _) c.next_line.new.line.items
          (behind c.next_line.new.buffer (g.S.Stream.left c.next_line.new.source))
          (last_spare (map g.J.Judge.spare_patterns c.lines.spares.items)) c.in_ok-found.found
          c.in_ok-found.ensures.found c.in-Command.command says _ goes;
      number = omega (arith, few);
      keeps = c.what_is_kept_is_kept_on.ensures.one c.args.network.now c.lines.network c.play_and_write.new.network
          so.keeps c.play_and_write.ensures.keeps;
      home = λ told k. c.play_and_write.ensures.home told k ∙ so.home told k;
      last = λ k. c.play_and_write.ensures.last k ∙ so.last k;
      depot_later = let l = so.depot_later in let k = c.play_and_write.ensures.later.0 in omega (arith, l, k);
      source_later = let l = so.source_later in let k = c.next_line.ensures.later in omega (arith, l, k);
      sink_later = let l = so.sink_later in let k = c.play_and_write.ensures.later.1 in omega (arith, l, k);
    }
