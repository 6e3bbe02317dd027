-- The run is of the kind that the words ask for.
use Rattle.std.proofs.Common.{map, ◌∙◌, List, arith, true, refl, ap, sym, subst}
use Rattle.std.specs.Prelude.{string_bytes}
use Rattle.std.proofs.lemmas.Bool.{false≢true}
use Rattle.pec_types.specs.Bytes.{Bytes}
use Rattle.pec_runs.specs.Endings as ends
use Rattle.pec_runs.specs.Happened.{Asked}
use Rattle.pec_runs.specs.Openings.{Resume}
use Rattle.pec_runs.specs.Ran.{Counts}
use Rattle.pec_runs.specs.Statuses.{Status}
use Rattle.pec_runs.specs.Through.{RanThrough}
use Rattle.pec_top.specs.Shown.{form_shown, result_shown}
use Rattle.pec_top.specs.Tasks.{reads_input}
use Rattle.pec_top.specs.declared.ending.End.TheVariants as lasts
use Rattle.pec_top.proofs.EndLemmas.{last_told}
use Rattle.pec_top.proofs.HadFromLemmas.{had_none}
use Rattle.pec_top.proofs.RunningLemmas.{no_hands, parts_there, stage_usage, untouched}
use Rattle.pec_top.proofs.SaidLemmas.{usage_text}
use Rattle.pec_top.proofs.ThroughLemmas.{counted_through, over_through, whole_through}
use Rattle.pec_top.proofs.TopLemmas.{blames_result, blames_written, done_only, ended_read, form_none, form_played}
use Rattle.pec_top.proofs.TopLemmas.{usage_undone}
use Rattle.pec_top.proofs.top.run_pec.Goals as goal

pub returns-in-Play-clause-ran : goal.returns-in-Play-clause-ran
returns-in-Play-clause-ran g c =
    let words : List Bytes = map string_bytes c.args.words.now in
    let asked : Asked = record {
      words = words;
      screens = map g.J.Judge.patterns c.args.screens.items;
      spares = map g.J.Judge.spare_patterns c.args.spares.items;
    } in
    let tells = g.P.Depot.tells × g.P.D.Disk.tells in
    let old_home = g.P.Depot.home c.args.depot.now in
    let new_home = g.P.Depot.home c.run_form.new.depot in
    let old : Counts = record {
      source = g.S.Counted.faults c.args.input.now;
      sink = g.W.Counted.faults c.args.out.now;
      depot = g.P.Counted.faults c.args.depot.now;
      disks = g.P.Depot.last c.args.depot.now;
    } in
    let new : Counts = record {
      source = g.S.Counted.faults c.run_form.new.input;
      sink = g.W.Counted.faults c.run_form.new.out;
      depot = g.P.Counted.faults c.run_form.new.depot;
      disks = g.P.Depot.last c.run_form.new.depot;
    } in
    let unread = g.S.Stream.left c.args.input.now in
    let before = g.W.Stream.held c.args.out.now in
    let after = g.W.Stream.held c.run_form.new.out in
    let run = c.run_form.result in
    let form = form_shown c.in-Play.form in
    let of = c.run_form.ensures in
    let ran = of.ran words (form_played words form c.in-Play.ensures.shown) in
    let so = counted_through run asked unread before after tells g.P.D.Disk.sight g.P.D.Counted.faults old_home new_home old new
    of.blame of.disks.0 of.disks.1 of.disks.2 ran.ran in
    record {
      is_run = rw (← c.in-Play.ensures.shown)
          (subst (λ (s : Status). RanThrough tells g.P.D.Disk.sight g.P.D.Counted.faults asked s unread before after old_home new_home old new)
          (sym c.status_of.ensures.shown) so);
      all_read = λ done reads. ended_read c.run_form.result (g.S.Stream.left c.run_form.new.input)
          (done_only c.run_form.result (sym c.status_of.ensures.shown ∙ done)) c.run_form.ensures.all_read;
      closed = refl;
      home = of.home;
    }

pub returns-in-Play-clause-alone : goal.returns-in-Play-clause-alone
returns-in-Play-clause-alone g c = rw (← c.in-Play.ensures.shown) (record {
  unread = λ other. absurd (false≢true (sym other));
  undisturbed = λ other. absurd (false≢true (sym other));
  apart = λ other. (refl, refl);
})

pub returns-in-Serve-clause-ran : goal.returns-in-Serve-clause-ran
returns-in-Serve-clause-ran g c =
    let of = c.serve_form.ensures in
    record {
      is_run = rw (← c.in-Serve.ensures.shown, c.status_of-in-Serve.ensures.shown)
          (record {
            ran = record { served = of.served.so; blame = of.counts.0; counts = of.counts.1 };
            through = of.served.through;
          });
      all_read = λ done reads. of.all_read (done_only c.serve_form.result (sym c.status_of-in-Serve.ensures.shown ∙ done));
      closed = of.out;
      home = of.home;
    }

pub returns-in-Serve-clause-alone : goal.returns-in-Serve-clause-alone
returns-in-Serve-clause-alone g c = rw (← c.in-Serve.ensures.shown) (record {
  unread = λ other. absurd (false≢true (sym other));
  undisturbed = λ other. absurd (false≢true (sym other));
  apart = λ other. absurd (false≢true (sym other));
})

pub returns-in-Export-clause-ran : goal.returns-in-Export-clause-ran
returns-in-Export-clause-ran g c =
    let depot = g.P.Counted.faults c.args.depot.now in
    let disks = g.P.Depot.last c.args.depot.now in
    let old : Counts = record {
      source = g.S.Counted.faults c.args.input.now;
      sink = g.W.Counted.faults c.args.out.now;
      depot = depot;
      disks = disks;
    } in
    let new : Counts = record {
      source = g.S.Counted.faults c.export_form.new.input;
      sink = g.W.Counted.faults c.export_form.new.out;
      depot = depot;
      disks = disks;
    } in
    let of = c.export_form.ensures in
    record {
      is_run = rw (← c.in-Export.ensures.shown, c.status_of-in-Export.ensures.shown) (record {
        exported = of.exported;
        blame = blames_result c.export_form.result old new of.blame (λ e. absurd (of.started e));
        counts = record {
          source = of.blame.1.1.0;
          sink = of.blame.1.1.1;
          depot = omega arith;
          disks = λ provider. omega arith;
        };
      });
      all_read = λ done reads. ended_read c.export_form.result (g.S.Stream.left c.export_form.new.input)
          (done_only c.export_form.result (sym c.status_of-in-Export.ensures.shown ∙ done)) c.export_form.ensures.all_read;
      closed = refl;
      home = λ told provider some. some;
    }

pub returns-in-Export-clause-alone : goal.returns-in-Export-clause-alone
returns-in-Export-clause-alone g c = rw (← c.in-Export.ensures.shown) (record {
  unread = λ other. absurd (false≢true (sym other));
  undisturbed = λ other. refl;
  apart = λ other. (refl, refl);
})

pub returns-in-Check-clause-ran : goal.returns-in-Check-clause-ran
returns-in-Check-clause-ran g c =
    let depot = g.P.Counted.faults c.args.depot.now in
    let disks = g.P.Depot.last c.args.depot.now in
    let old : Counts = record {
      source = g.S.Counted.faults c.args.input.now;
      sink = g.W.Counted.faults c.args.out.now;
      depot = depot;
      disks = disks;
    } in
    let new : Counts = record {
      source = g.S.Counted.faults c.check_form.new.input;
      sink = g.W.Counted.faults c.check_form.new.out;
      depot = depot;
      disks = disks;
    } in
    let of = c.check_form.ensures in
    record {
      is_run = rw (← c.in-Check.ensures.shown, c.status_of-in-Check.ensures.shown) (record {
        checked = of.checked;
        blame = blames_result c.check_form.result old new of.blame (λ e. absurd (of.started e));
        counts = record {
          source = of.blame.1.1.0;
          sink = of.blame.1.1.1;
          depot = omega arith;
          disks = λ provider. omega arith;
        };
      });
      all_read = λ done reads. ended_read c.check_form.result (g.S.Stream.left c.check_form.new.input)
          (done_only c.check_form.result (sym c.status_of-in-Check.ensures.shown ∙ done)) c.check_form.ensures.all_read;
      closed = refl;
      home = λ told provider some. some;
    }

pub returns-in-Check-clause-alone : goal.returns-in-Check-clause-alone
returns-in-Check-clause-alone g c = rw (← c.in-Check.ensures.shown) (record {
  unread = λ other. absurd (false≢true (sym other));
  undisturbed = λ other. refl;
  apart = λ other. (refl, refl);
})

pub returns-in-Extract-clause-ran : goal.returns-in-Extract-clause-ran
returns-in-Extract-clause-ran g c =
    let of = c.extract_form.ensures in
    record {
      is_run = rw (← c.in-Extract.ensures.shown) (record { ran = of.ran; blame = of.counts.0; counts = of.counts.1 });
      all_read = λ done reads. of.all_read done;
      closed = refl;
      home = of.home;
    }

pub returns-in-Extract-clause-alone : goal.returns-in-Extract-clause-alone
returns-in-Extract-clause-alone g c = rw (← c.in-Extract.ensures.shown) (record {
  unread = λ other. absurd (false≢true (sym other));
  undisturbed = λ other. absurd (false≢true (sym other));
  apart = λ other. (refl, refl);
})

pub returns-in-Load-clause-ran : goal.returns-in-Load-clause-ran
returns-in-Load-clause-ran g c =
    let of = c.load_form.ensures in
    let loaded = of.loaded (g.S.Counted.faults c.args.input.now) in
    record {
      is_run = rw (← c.in-Load.ensures.shown, c.status_of-in-Load.ensures.shown) loaded;
      all_read = λ done reads. absurd (false≢true (ap reads_input c.in-Load.ensures.shown ∙ reads));
      closed = refl;
      home = of.home;
    }

pub returns-in-Load-clause-alone : goal.returns-in-Load-clause-alone
returns-in-Load-clause-alone g c = rw (← c.in-Load.ensures.shown) (record {
  unread = λ other. refl;
  undisturbed = λ other. absurd (false≢true (sym other));
  apart = λ other. (refl, refl);
})

pub returns-in-NoForm-clause-ran : goal.returns-in-NoForm-clause-ran
returns-in-NoForm-clause-ran g c =
    let words : List Bytes = map string_bytes c.args.words.now in
    let asked : Asked = record {
      words = words;
      screens = map g.J.Judge.patterns c.args.screens.items;
      spares = map g.J.Judge.spare_patterns c.args.spares.items;
    } in
    let tells = g.P.Depot.tells × g.P.D.Disk.tells in
    let home = g.P.Depot.home c.args.depot.now in
    let last = g.P.Depot.last c.args.depot.now in
    let old : Counts = record {
      source = g.S.Counted.faults c.args.input.now;
      sink = g.W.Counted.faults c.args.out.now;
      depot = g.P.Counted.faults c.args.depot.now;
      disks = last;
    } in
    let new : Counts = record {
      source = g.S.Counted.faults c.args.input.now;
      sink = g.W.Counted.faults c.write_last.new.out;
      depot = g.P.Counted.faults c.args.depot.now;
      disks = last;
    } in
    let unread = g.S.Stream.left c.args.input.now in
    let before = g.W.Stream.held c.args.out.now in
    let after = g.W.Stream.held c.write_last.new.out in
    let run = c.write_last.result in
    let of = c.write_last.ensures in
    let parts = parts_there unread in
    let so = over_through asked unread before after tells g.P.D.Disk.sight g.P.D.Counted.faults home home last last
    (untouched tells g.P.D.Disk.sight home) (λ trade. had_none tells g.P.D.Disk.sight Resume trade home) parts.0
    true ends.Usage (result_shown run) (stage_usage asked no_hands true parts.0 (form_none words c.in-NoForm.ensures.shown)) parts.1
    (last_told ends.Usage lasts.Usage refl before after _ (sym (usage_text _)) run of.ok of.err of.stop) in
    let ran = whole_through asked (result_shown run) unread before after tells g.P.D.Disk.sight g.P.D.Counted.faults home home old new
    (blames_written run old new of.stop of.write_fault)
    (record { source = omega arith; sink = of.later; depot = omega arith; disks = λ k. omega arith }) so in
    record {
      is_run = rw (← c.in-NoForm.ensures.shown)
          (subst (λ (s : Status). RanThrough tells g.P.D.Disk.sight g.P.D.Counted.faults asked s unread before after home home old new)
          (sym c.status_of-in-NoForm.ensures.shown) ran);
      all_read = λ done reads. absurd (usage_undone _ c.write_last.result
          (done_only c.write_last.result (sym c.status_of-in-NoForm.ensures.shown ∙ done)) c.write_last.ensures.ok);
      closed = refl;
      home = λ told provider some. some;
    }

pub returns-in-NoForm-clause-alone : goal.returns-in-NoForm-clause-alone
returns-in-NoForm-clause-alone g c = rw (← c.in-NoForm.ensures.shown) (record {
  unread = λ other. refl;
  undisturbed = λ other. refl;
  apart = λ other. (refl, refl);
})
