-- All journals are had, and the script is played; or not all are.
use Rattle.std.proofs.Common.{map, ◌∙◌, inl, inr, ap, arith, refl, sym, subst, List, length, Some}
use Rattle.std.proofs.lemmas.Bool.{cases_lt}
use Rattle.std.proofs.lemmas.List.{length-map}
use Rattle.pec_outside.specs.Flow.{behind}
use Rattle.pec_directory.specs.Directory.{Kept, providers_of}
use Rattle.pec_serving.specs.OfNetworks.{journals_had, point_of, sites}
use Rattle.pec_seal.specs.Hmac.{hmac_seals}
use Rattle.pec_runs.specs.Happened.{Asked, Setting}
use Rattle.pec_runs.specs.Openings as runs
use Rattle.pec_top.specs.Inputs.{IsTaken}
use Rattle.pec_top.specs.Scripts.{AreKept}
use Rattle.pec_top.specs.Shown.{result_shown}
use Rattle.pec_top.proofs.CountLemmas.{closed_so, counts_later}
use Rattle.pec_top.proofs.HostingLemmas.{refused_devices, refused_start}
use Rattle.pec_top.proofs.RefusedLemmas.{ran_unopened, refused_lines}
use Rattle.pec_top.proofs.ReportLemmas.{script_told, unreported}
use Rattle.pec_top.proofs.ThroughLemmas.{all_counted, all_kept, all_seen, all_stand}
use Rattle.pec_top.proofs.WholeLemmas.{all_kept_so, none_gone}
use Rattle.pec_top.proofs.run.run_opened.Goals as goal

pub returns-in-Ok-clause-ran : goal.returns-in-Ok-clause-ran
returns-in-Ok-clause-ran g c = λ words unread is taken.
    let asked : Asked = record {
      words = words;
      screens = map g.J.Judge.patterns c.args.screens.items;
      spares = map g.J.Judge.spare_patterns c.args.spares.items;
    } in
    let tells = g.P.Depot.tells × g.P.D.Disk.tells in
    let sight = g.P.D.Disk.sight in
    let faults = g.P.D.Counted.faults in
    let network = c.in-Ok.network in
    let kept = network.kept in
    let seals = hmac_seals network.sealer.names.items network.sealer.keys.items in
    let setting : Setting = record { kept = kept; seals = seals } in
    let opened = c.in-Ok.ensures.opened in
    let here = subst (λ (k : List Kept). IsTaken unread (behind c.args.buffer.now (g.S.Stream.left c.args.source.now))
    (providers_of k)) (sym c.in-Ok.ensures.same) taken in
    let old = g.P.Depot.home c.args.depot.now in
    let mid = g.P.Depot.home c.open.new.depot in
    let late = g.P.Depot.home c.play_script-result.new.depot in
    let new = g.P.Depot.home c.close.new.depot in
    let mid_last = g.P.Depot.last c.open.new.depot in
    let before = g.W.Stream.held c.args.out.now in
    let after = g.W.Stream.held c.play_script-result.new.out in
    let played = c.play_script-result.new.network in
    let keeps = c.play_script-result.ensures.keeps in
    let closed = closed_so faults mid_last (g.P.Depot.last c.play_script-result.new.depot)
    (g.P.Depot.last c.close.new.depot) played.providers c.play_script-result.ensures.last c.close.ensures.last in
    let point = point_of faults mid_last asked.spares network before (g.W.Counted.faults c.args.out.now) in
    let there = point_of faults mid_last (map g.J.Judge.spare_patterns c.play_script-result.new.spares.items) played
    after (g.W.Counted.faults c.play_script-result.new.out) in
    let kept_so = subst (λ (k : List Kept). AreKept tells sight (length k) (sites played) mid new) keeps.directory
    (all_kept_so g.P.Depot.tells g.P.D.Disk.tells sight played c.a_network_is_whole-in-Ok.ensures late new
    c.close.ensures.kept mid (λ told. keeps.stands told.1 (opened.stands told)) c.play_script-result.ensures.home) in
    let many = length-map kept (λ (one : Kept). one.provider) in
    let same = ap (λ (k : List Kept). length k) keeps.directory in
    script_told asked opened.form (is ∙ ap (λ (f : runs.Form). Some f) (sym opened.is_form)) here.bytes here.short
    setting here.reads opened.setting tells sight faults old new (g.P.Depot.last c.args.depot.now)
    (g.P.Depot.last c.close.new.depot) (journals_had network.providers) (result_shown c.play_script-result.result) unread
    (behind c.args.buffer.now (g.S.Stream.left c.args.source.now)) point there opened.begins refl
    opened.counts
    (λ k. let e = closed k in omega (arith, e)) here.parts opened.opening
    (c.play_script-result.ensures.read opened.stands mid_last)
    (λ left is_left. opened.leaves (sites played) left new is_left kept_so)
    (all_seen g.P.Depot.tells g.P.D.Disk.tells sight network c.a_network_is_whole.ensures)
    (all_counted g.P.Depot.tells g.P.D.Disk.tells sight network c.a_network_is_whole.ensures faults mid_last asked.spares)
    (λ told. all_stand g.P.Depot.tells g.P.D.Disk.tells sight network c.a_network_is_whole.ensures (opened.stands told))
    opened.had
    (λ told k within. all_kept g.P.Depot.tells g.P.D.Disk.tells sight played c.a_network_is_whole-in-Ok.ensures late new
    c.close.ensures.kept told.0 k (omega (arith, many, same, within)))
    (λ told k past. kept_so.elsewhere told k (omega (arith, many, past))
    ∙ opened.apart told.0 k (omega (arith, many, past))) c.args.report.now c.of.result
    (rw (keeps.directory, keeps.seals) at c.of.ensures)

pub returns-in-Ok-clause-home : goal.returns-in-Ok-clause-home
returns-in-Ok-clause-home g c = λ told k some.
    let played = c.play_script-result.new.network in
    let count = c.a_network_is_whole-in-Ok.ensures.count in
    let first = c.a_network_is_whole.ensures.count in
    let many = c.play_script-result.ensures.keeps.many in
    elim (cases_lt k (length played.kept)) [
      | inl within ↦ none_gone g.P.Depot.tells g.P.D.Disk.tells g.P.D.Disk.sight played
          c.a_network_is_whole-in-Ok.ensures
          (g.P.Depot.home c.play_script-result.new.depot) (g.P.Depot.home c.close.new.depot) c.close.ensures.kept told
          k within
      | inr past ↦ λ gone. some (sym (c.in-Ok.ensures.opened.apart told k (omega (arith, count, first, many, past)))
          ∙ (sym (c.play_script-result.ensures.home told k)
          ∙ (sym ((c.close.ensures.kept told).elsewhere k (omega (arith, count, past))) ∙ gone)))
    ]

pub returns-in-Ok-clause-disks : goal.returns-in-Ok-clause-disks
returns-in-Ok-clause-disks g c =
    let faults = g.P.D.Counted.faults in
    let mid_last = g.P.Depot.last c.open.new.depot in
    let played = c.play_script-result.new.network in
    let closed = closed_so faults mid_last (g.P.Depot.last c.play_script-result.new.depot)
    (g.P.Depot.last c.close.new.depot) played.providers c.play_script-result.ensures.last c.close.ensures.last in
    let later = counts_later faults c.in-Ok.network.providers played.providers
    (sym c.play_script-result.ensures.keeps.many) c.play_script-result.ensures.keeps.later mid_last in (
      λ failed. absurd (c.play_script-result.ensures.begun failed),
      omega (arith, c.open.ensures.later, c.play_script-result.ensures.later, c.close.ensures.later),
      λ k. let a = c.in-Ok.ensures.opened.counts k in let b = later k in let e = closed k in omega (arith, a, b, e),
    )

pub returns-in-Err-clause-ran : goal.returns-in-Err-clause-ran
returns-in-Err-clause-ran g c = λ words unread is taken.
    let asked : Asked = record {
      words = words;
      screens = map g.J.Judge.patterns c.args.screens.items;
      spares = map g.J.Judge.spare_patterns c.args.spares.items;
    } in
    let tells = g.P.Depot.tells × g.P.D.Disk.tells in
    let sight = g.P.D.Disk.sight in
    let faults = g.P.D.Counted.faults in
    unreported tells sight faults asked (result_shown c.end_refused.result) unread (g.W.Stream.held c.args.out.now)
    (g.W.Stream.held c.end_refused.new.out) (g.P.Depot.home c.args.depot.now) (g.P.Depot.home c.open.new.depot)
    (g.P.Depot.last c.args.depot.now) (g.P.Depot.last c.open.new.depot) c.args.report.now
    (ran_unopened asked c.args.form is taken.bytes taken.short c.args.directory taken.reads c.in-Err.refusal
    (result_shown c.end_refused.result) unread (behind c.args.buffer.now (g.S.Stream.left c.args.source.now))
    (g.W.Stream.held c.args.out.now) (g.W.Stream.held c.end_refused.new.out) tells sight faults
    (g.P.Depot.home c.args.depot.now) (g.P.Depot.home c.open.new.depot)
    (g.P.Depot.last c.args.depot.now) (g.P.Depot.last c.open.new.depot) taken.parts c.end_refused.ensures.told
    (λ providers holds number next given.
    refused_lines providers c.in-Err.refusal c.end_refused.result holds number next c.end_refused.ensures.line given)
    c.in-Err.ensures.refused)

pub returns-in-Err-clause-blame : goal.returns-in-Err-clause-blame
returns-in-Err-clause-blame g c =
    refused_devices c.in-Err.refusal c.end_refused.result (g.S.Counted.faults c.args.source.now)
    (g.W.Counted.faults c.args.out.now) (g.W.Counted.faults c.end_refused.new.out) c.end_refused.ensures.blame
    c.end_refused.ensures.later

pub returns-in-Err-clause-disks : goal.returns-in-Err-clause-disks
returns-in-Err-clause-disks g c = (
  λ blamed. c.in-Err.ensures.blame (refused_start c.in-Err.refusal c.end_refused.result (g.W.Counted.faults
      c.args.out.now)
      (g.W.Counted.faults c.end_refused.new.out) c.end_refused.ensures.blame blamed),
  c.open.ensures.later,
  c.open.ensures.last,
)
