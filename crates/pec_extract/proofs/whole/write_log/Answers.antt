-- A front of the header, the header and a front of the rows, or all of these and a front of the totals.
use Rattle.std.proofs.Common.{ap, subst, ◌∙◌}
use Rattle.pec_outside.specs.Flow.{WrotePart, followed_by}
use Rattle.pec_directory.specs.Directory.{providers_of}
use Rattle.pec_provider.specs.OfTrades.{trade_of}
use Rattle.pec_extract.specs.Logs.{all_totals, logs_of, rows_of_all}
use Rattle.pec_extract.specs.Records.{record_text, totals_record}
use Rattle.pec_extract.specs.declared.writing.Totals.{Totals}
use Rattle.pec_extract.proofs.LogLemmas.{on_err}
use Rattle.pec_extract.proofs.WholeLemmas.{all_written, front_header, front_last, front_rows, none_read, run_from, run_to, tells_in}
use Rattle.pec_extract.proofs.whole.write_log.Goals as goal

pub returns-in_err-write_header-clause-err : goal.returns-in_err-write_header-clause-err
returns-in_err-write_header-clause-err g c = λ tells stands.
    on_err c.from_residual.result
    (front_header (rows_of_all (trade_of c.args.directory.now (g.S.Sealer.seals c.args.sealer.now)) (providers_of
    c.args.directory.now) c.args.from c.args.upto 0 (logs_of c.args.providers.now))
    (totals_record (all_totals (trade_of c.args.directory.now (g.S.Sealer.seals c.args.sealer.now)) c.args.from
    c.args.upto (logs_of c.args.providers.now)))
    (g.W.Stream.held c.args.out.now) (g.W.Stream.held c.write_header.new.out) c.in_err-write_header.ensures.err)

pub returns-in_err-totals-clause-err : goal.returns-in_err-totals-clause-err
returns-in_err-totals-clause-err g c = λ tells stands.
    on_err c.from_residual-in_err-totals.result
    (front_rows (rows_of_all (trade_of c.args.directory.now (g.S.Sealer.seals c.args.sealer.now)) (providers_of
    c.args.directory.now) c.args.from c.args.upto 0 (logs_of c.args.providers.now))
    (totals_record (all_totals (trade_of c.args.directory.now (g.S.Sealer.seals c.args.sealer.now)) c.args.from
    c.args.upto (logs_of c.args.providers.now)))
    (g.W.Stream.held c.args.out.now) (g.W.Stream.held c.write_header.new.out) (g.W.Stream.held c.write_each.new.out)
    c.in_ok-write_header.ensures.ok (c.in_err-totals.ensures.front tells stands))

pub returns-in_err-write_totals-clause-err : goal.returns-in_err-write_totals-clause-err
returns-in_err-write_totals-clause-err g c = λ tells stands.
    on_err c.from_residual-in_err-write_totals.result
    (front_last (rows_of_all (trade_of c.args.directory.now (g.S.Sealer.seals c.args.sealer.now)) (providers_of
    c.args.directory.now) c.args.from c.args.upto 0 (logs_of c.args.providers.now))
    (totals_record (all_totals (trade_of c.args.directory.now (g.S.Sealer.seals c.args.sealer.now)) c.args.from
    c.args.upto (logs_of c.args.providers.now)))
    (g.W.Stream.held c.args.out.now) (g.W.Stream.held c.write_header.new.out) (g.W.Stream.held c.write_each.new.out)
    (g.W.Stream.held c.write_totals.new.out) c.in_ok-write_header.ensures.ok (c.in_ok-totals.ensures.rows tells stands)
    (subst (λ (totals : Totals). WrotePart (g.W.Stream.held c.write_each.new.out) (g.W.Stream.held
    c.write_totals.new.out)
    (record_text (totals_record totals))) c.in_ok-totals.ensures.totals c.in_err-write_totals.ensures.err))

pub returns-in_err-write_header-clause-read : goal.returns-in_err-write_header-clause-read
returns-in_err-write_header-clause-read g c =
    none_read g.D.Disk.tells g.D.Disk.sight g.D.Counted.faults c.what_rests_carries_on.ensures c.args.providers.now

pub write_each-requires-clause-runs : goal.write_each-requires-clause-runs
write_each-requires-clause-runs g c = run_from c.args.directory.now (g.S.Sealer.seals c.args.sealer.now)
    c.args.providers.now c.requires.runs

pub returns-in_err-totals-clause-runs : goal.returns-in_err-totals-clause-runs
returns-in_err-totals-clause-runs g c =
    run_to c.args.directory.now (g.S.Sealer.seals c.args.sealer.now) c.write_each.new.providers
    c.in_err-totals.ensures.runs

pub returns-in_err-write_totals-clause-runs : goal.returns-in_err-write_totals-clause-runs
returns-in_err-write_totals-clause-runs g c =
    run_to c.args.directory.now (g.S.Sealer.seals c.args.sealer.now) c.write_each.new.providers
    c.in_ok-totals.ensures.runs

pub returns-clause-runs : goal.returns-clause-runs
returns-clause-runs g c =
    run_to c.args.directory.now (g.S.Sealer.seals c.args.sealer.now) c.write_each.new.providers
    c.in_ok-totals.ensures.runs

pub returns-clause-ok : goal.returns-clause-ok
returns-clause-ok g c = λ tells stands.
    all_written (rows_of_all (trade_of c.args.directory.now (g.S.Sealer.seals c.args.sealer.now)) (providers_of
    c.args.directory.now) c.args.from c.args.upto 0 (logs_of c.args.providers.now))
    (totals_record (all_totals (trade_of c.args.directory.now (g.S.Sealer.seals c.args.sealer.now)) c.args.from
    c.args.upto (logs_of c.args.providers.now)))
    (g.W.Stream.held c.args.out.now) (g.W.Stream.held c.write_header.new.out) (g.W.Stream.held c.write_each.new.out)
    (g.W.Stream.held c.write_totals.new.out) c.in_ok-write_header.ensures.ok (c.in_ok-totals.ensures.rows tells stands)
    (c.in_ok-write_totals.ensures.ok
    ∙ ap (λ (totals : Totals). followed_by (g.W.Stream.held c.write_each.new.out) (record_text (totals_record totals)))
    c.in_ok-totals.ensures.totals)

pub returns-clause-tells : goal.returns-clause-tells
returns-clause-tells g c = λ tells stands.
    tells_in (trade_of c.args.directory.now (g.S.Sealer.seals c.args.sealer.now)) c.args.from c.args.upto
    (logs_of c.args.providers.now) (c.in_ok-totals.ensures.tells tells stands)
