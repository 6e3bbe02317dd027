-- What is so of the first provider, and of the others behind it, is so of all.
use Rattle.std.proofs.Common.{◌≡◌, ◌+◌, ◌∷◌, false, ap, arith, refl, subst, sym, ◌∙◌}
use Rattle.std.proofs.lemmas.Result.{err_from_is_err_and}
use Rattle.pec_outside.specs.Flow.{WrotePart, followed_by}
use Rattle.pec_directory.specs.Directory.{providers_of}
use Rattle.pec_chronicle.specs.Chronicle.{Stands}
use Rattle.pec_provider.specs.OfTrades.{trade_of}
use Rattle.pec_provider.specs.Provider.{Runs}
use Rattle.pec_extract.specs.LogRows.{log_rows}
use Rattle.pec_extract.specs.Logs.{IsChangedFrom, logs_of, rows_of_all}
use Rattle.pec_extract.specs.Reading.{IsLogChanged}
use Rattle.pec_extract.specs.Records.{records_text}
use Rattle.pec_extract.proofs.LogLemmas.{on_err}
use Rattle.pec_extract.proofs.WholeLemmas.{all_read, both_texts, changed_first, changed_other, first_so, front_first, front_second, grown_again, none_read, on_changed, one_read, others_so, risen_first, risen_other, rows_cut, run_all, run_first, run_others, stopped_first, stopped_other, tells_all}
use Rattle.pec_extract.proofs.whole.+write_each.Goals as goal

pub write_provider-requires-clause-runs : goal.write_provider-requires-clause-runs
write_provider-requires-clause-runs g t c =
    run_first c.args.directory.now (g.S.Sealer.seals c.args.sealer.now) c.args.me c.in-Some.first.now
    (first_so (λ number provider. Runs c.args.directory.now (g.S.Sealer.seals c.args.sealer.now) (c.args.me + number)
    provider)
    c.args.providers.now c.in-Some.first.now c.in-Some.others.now c.in-Some.ensures.cases.0 c.requires.runs)

pub write_provider-requires-clause-up : goal.write_provider-requires-clause-up
write_provider-requires-clause-up g t c =
    first_so (λ number provider. provider.chronicle.down ≡ false) c.args.providers.now c.in-Some.first.now
    c.in-Some.others.now c.in-Some.ensures.cases.0 c.requires.up

pub returns-in_err-rest-clause-runs : goal.returns-in_err-rest-clause-runs
returns-in_err-rest-clause-runs g t c =
    run_all c.args.directory.now (g.S.Sealer.seals c.args.sealer.now) c.args.me (c.write_provider.new.provider ∷
    c.write_each.new.providers) c.write_provider.new.provider c.write_each.new.providers refl
    c.in_ok-own.ensures.runs c.in_err-rest.ensures.runs

pub returns-in_err-own-clause-front : goal.returns-in_err-own-clause-front
returns-in_err-own-clause-front g t c = λ tells stands.
    on_err c.from_residual.result
    (subst (WrotePart (g.W.Stream.held c.args.out.now) (g.W.Stream.held c.write_provider.new.out))
    (sym (rows_cut (trade_of c.args.directory.now (g.S.Sealer.seals c.args.sealer.now)) (providers_of
    c.args.directory.now) c.args.from c.args.upto c.args.me c.args.providers.now c.in-Some.first.now
    c.in-Some.others.now c.in-Some.ensures.cases.0))
    (front_first (g.W.Stream.held c.args.out.now) (g.W.Stream.held c.write_provider.new.out)
    (records_text (log_rows (trade_of c.args.directory.now (g.S.Sealer.seals c.args.sealer.now)) (providers_of
    c.args.directory.now) c.args.me c.in-Some.first.now.chronicle.entries c.args.from c.args.upto))
    (records_text (rows_of_all (trade_of c.args.directory.now (g.S.Sealer.seals c.args.sealer.now)) (providers_of
    c.args.directory.now) c.args.from c.args.upto (c.args.me + 1) (logs_of c.in-Some.others.now)))
    (c.in_err-own.ensures.front tells (first_so (λ number provider. Stands g.D.Disk.sight provider.chronicle)
    c.args.providers.now c.in-Some.first.now c.in-Some.others.now c.in-Some.ensures.cases.0 stands))))

pub returns-in_err-own-clause-changed : goal.returns-in_err-own-clause-changed
returns-in_err-own-clause-changed g t c = λ tells stands.
    let same = err_from_is_err_and c.from_residual.result c.from_residual.ensures.1 in
    rw (same.1, same.2)
    (on_changed (IsLogChanged (trade_of c.args.directory.now (g.S.Sealer.seals c.args.sealer.now)) c.args.me
    c.in-Some.first.now.chronicle.entries)
    (IsChangedFrom (trade_of c.args.directory.now (g.S.Sealer.seals c.args.sealer.now)) c.args.me (logs_of
    c.args.providers.now))
    (changed_first (trade_of c.args.directory.now (g.S.Sealer.seals c.args.sealer.now)) c.args.me c.args.providers.now
    c.in-Some.first.now c.in-Some.others.now c.in-Some.ensures.cases.0)
    _ (c.in_err-own.ensures.changed tells (first_so (λ number provider. Stands g.D.Disk.sight provider.chronicle)
    c.args.providers.now c.in-Some.first.now c.in-Some.others.now c.in-Some.ensures.cases.0 stands)))

pub returns-in_err-own-clause-read : goal.returns-in_err-own-clause-read
returns-in_err-own-clause-read g t c =
    all_read g.D.Disk.tells g.D.Disk.sight g.D.Counted.faults c.args.providers.now (c.write_provider.new.provider ∷
    c.in-Some.others.now)
    c.in-Some.first.now c.write_provider.new.provider c.in-Some.others.now c.in-Some.others.now
    c.in-Some.ensures.cases.0 refl
    (one_read g.D.Disk.tells g.D.Disk.sight g.D.Counted.faults c.in-Some.first.now c.write_provider.new.provider
    c.write_provider.result
    c.write_provider.ensures.reads c.write_provider.ensures.owed c.write_provider.ensures.carries
    c.write_provider.ensures.disk_later)
    (none_read g.D.Disk.tells g.D.Disk.sight g.D.Counted.faults c.what_rests_carries_on.ensures c.in-Some.others.now)

pub returns-in_err-own-clause-runs : goal.returns-in_err-own-clause-runs
returns-in_err-own-clause-runs g t c =
    run_all c.args.directory.now (g.S.Sealer.seals c.args.sealer.now) c.args.me (c.write_provider.new.provider ∷
    c.in-Some.others.now) c.write_provider.new.provider c.in-Some.others.now refl
    c.in_err-own.ensures.runs
    (run_others c.args.directory.now (g.S.Sealer.seals c.args.sealer.now) c.args.me c.in-Some.others.now
    (others_so (λ number provider. Runs c.args.directory.now (g.S.Sealer.seals c.args.sealer.now) (c.args.me + number)
    provider)
    c.args.providers.now c.in-Some.first.now c.in-Some.others.now c.in-Some.ensures.cases.0 c.requires.runs))

pub returns-in_err-own-clause-disk_fault : goal.returns-in_err-own-clause-disk_fault
returns-in_err-own-clause-disk_fault g t c = λ is.
    let same = err_from_is_err_and c.from_residual.result c.from_residual.ensures.1 in
    let told = rw (same.1, same.2) at is in
    risen_first g.D.Disk.tells g.D.Disk.sight g.D.Counted.faults c.args.providers.now (c.write_provider.new.provider ∷
    c.in-Some.others.now) c.in-Some.first.now c.write_provider.new.provider c.in-Some.others.now c.in-Some.others.now
    c.in-Some.ensures.cases.0 refl
    (c.in_err-own.ensures.disk_fault told)

pub write_each-requires : goal.write_each-requires
write_each-requires g t c κs within = (
  omega (arith, c.decreases, c.in-Some.ensures.cases.1),
  (
    search,
    (
      search,
      (
        search,
        (
          search,
          (
            omega (arith, c.requires.within, c.in-Some.ensures.cases.1),
            (
              run_others c.args.directory.now (g.S.Sealer.seals c.args.sealer.now) c.args.me c.in-Some.others.now
                  (others_so (λ number provider. Runs c.args.directory.now (g.S.Sealer.seals c.args.sealer.now)
                  (c.args.me + number) provider)
                  c.args.providers.now c.in-Some.first.now c.in-Some.others.now c.in-Some.ensures.cases.0
                  c.requires.runs),
              others_so (λ number provider. provider.chronicle.down ≡ false) c.args.providers.now c.in-Some.first.now
                  c.in-Some.others.now c.in-Some.ensures.cases.0 c.requires.up,
            ),
          ),
        ),
      ),
    ),
  ),
)

pub returns-in_err-rest-clause-front : goal.returns-in_err-rest-clause-front
returns-in_err-rest-clause-front g t c = λ tells stands.
    on_err c.from_residual-in_err-rest.result
    (subst (WrotePart (g.W.Stream.held c.args.out.now) (g.W.Stream.held c.write_each.new.out))
    (sym (rows_cut (trade_of c.args.directory.now (g.S.Sealer.seals c.args.sealer.now)) (providers_of
    c.args.directory.now) c.args.from c.args.upto c.args.me c.args.providers.now c.in-Some.first.now
    c.in-Some.others.now c.in-Some.ensures.cases.0))
    (front_second (g.W.Stream.held c.args.out.now) (g.W.Stream.held c.write_provider.new.out) (g.W.Stream.held
    c.write_each.new.out)
    (records_text (log_rows (trade_of c.args.directory.now (g.S.Sealer.seals c.args.sealer.now)) (providers_of
    c.args.directory.now) c.args.me c.in-Some.first.now.chronicle.entries c.args.from c.args.upto))
    (records_text (rows_of_all (trade_of c.args.directory.now (g.S.Sealer.seals c.args.sealer.now)) (providers_of
    c.args.directory.now) c.args.from c.args.upto (c.args.me + 1) (logs_of c.in-Some.others.now)))
    (c.in_ok-own.ensures.rows tells (first_so (λ number provider. Stands g.D.Disk.sight provider.chronicle)
    c.args.providers.now c.in-Some.first.now c.in-Some.others.now c.in-Some.ensures.cases.0 stands))
    (c.in_err-rest.ensures.front tells (others_so (λ number provider. Stands g.D.Disk.sight provider.chronicle)
    c.args.providers.now c.in-Some.first.now c.in-Some.others.now c.in-Some.ensures.cases.0 stands))))

pub returns-in_err-rest-clause-grown : goal.returns-in_err-rest-clause-grown
returns-in_err-rest-clause-grown g t c =
    grown_again (g.W.Stream.held c.args.out.now) (g.W.Stream.held c.write_provider.new.out) (g.W.Stream.held
    c.write_each.new.out)
    c.in_ok-own.ensures.grown c.in_err-rest.ensures.grown

pub returns-in_err-rest-clause-changed : goal.returns-in_err-rest-clause-changed
returns-in_err-rest-clause-changed g t c = λ tells stands.
    let same = err_from_is_err_and c.from_residual-in_err-rest.result c.from_residual-in_err-rest.ensures.1 in
    rw (same.1, same.2)
    (on_changed (IsChangedFrom (trade_of c.args.directory.now (g.S.Sealer.seals c.args.sealer.now)) (c.args.me + 1)
    (logs_of c.in-Some.others.now))
    (IsChangedFrom (trade_of c.args.directory.now (g.S.Sealer.seals c.args.sealer.now)) c.args.me (logs_of
    c.args.providers.now))
    (changed_other (trade_of c.args.directory.now (g.S.Sealer.seals c.args.sealer.now)) c.args.me c.args.providers.now
    c.in-Some.first.now c.in-Some.others.now c.in-Some.ensures.cases.0)
    _ (c.in_err-rest.ensures.changed tells (others_so (λ number provider. Stands g.D.Disk.sight provider.chronicle)
    c.args.providers.now c.in-Some.first.now c.in-Some.others.now c.in-Some.ensures.cases.0 stands)))

pub returns-in_err-rest-clause-read : goal.returns-in_err-rest-clause-read
returns-in_err-rest-clause-read g t c =
    all_read g.D.Disk.tells g.D.Disk.sight g.D.Counted.faults c.args.providers.now (c.write_provider.new.provider ∷
    c.write_each.new.providers)
    c.in-Some.first.now c.write_provider.new.provider c.in-Some.others.now c.write_each.new.providers
    c.in-Some.ensures.cases.0 refl
    (one_read g.D.Disk.tells g.D.Disk.sight g.D.Counted.faults c.in-Some.first.now c.write_provider.new.provider
    c.write_provider.result
    c.write_provider.ensures.reads c.write_provider.ensures.owed c.write_provider.ensures.carries
    c.write_provider.ensures.disk_later)
    c.in_err-rest.ensures.read

pub returns-in_err-rest-clause-disk_fault : goal.returns-in_err-rest-clause-disk_fault
returns-in_err-rest-clause-disk_fault g t c = λ is.
    let same = err_from_is_err_and c.from_residual-in_err-rest.result c.from_residual-in_err-rest.ensures.1 in
    let told = rw (same.1, same.2) at is in
    risen_other g.D.Disk.tells g.D.Disk.sight g.D.Counted.faults c.args.providers.now (c.write_provider.new.provider ∷
    c.write_each.new.providers) c.in-Some.first.now c.write_provider.new.provider c.in-Some.others.now
    c.write_each.new.providers c.in-Some.ensures.cases.0 refl
    (c.in_err-rest.ensures.disk_fault told)

pub returns-clause-rows : goal.returns-clause-rows
returns-clause-rows g t c = λ tells stands.
    both_texts (g.W.Stream.held c.args.out.now) (g.W.Stream.held c.write_provider.new.out) (g.W.Stream.held
    c.write_each.new.out)
    (records_text (log_rows (trade_of c.args.directory.now (g.S.Sealer.seals c.args.sealer.now)) (providers_of
    c.args.directory.now) c.args.me c.in-Some.first.now.chronicle.entries c.args.from c.args.upto))
    (records_text (rows_of_all (trade_of c.args.directory.now (g.S.Sealer.seals c.args.sealer.now)) (providers_of
    c.args.directory.now) c.args.from c.args.upto (c.args.me + 1) (logs_of c.in-Some.others.now)))
    (c.in_ok-own.ensures.rows tells (first_so (λ number provider. Stands g.D.Disk.sight provider.chronicle)
    c.args.providers.now c.in-Some.first.now c.in-Some.others.now c.in-Some.ensures.cases.0 stands))
    (c.in_ok-rest.ensures.rows tells (others_so (λ number provider. Stands g.D.Disk.sight provider.chronicle)
    c.args.providers.now c.in-Some.first.now c.in-Some.others.now c.in-Some.ensures.cases.0 stands))
    ∙ ap (followed_by (g.W.Stream.held c.args.out.now)) (sym (rows_cut (trade_of c.args.directory.now (g.S.Sealer.seals
    c.args.sealer.now)) (providers_of c.args.directory.now) c.args.from c.args.upto c.args.me c.args.providers.now
    c.in-Some.first.now c.in-Some.others.now c.in-Some.ensures.cases.0))

pub returns-clause-grown : goal.returns-clause-grown
returns-clause-grown g t c =
    grown_again (g.W.Stream.held c.args.out.now) (g.W.Stream.held c.write_provider.new.out) (g.W.Stream.held
    c.write_each.new.out)
    c.in_ok-own.ensures.grown c.in_ok-rest.ensures.grown

pub returns-clause-read : goal.returns-clause-read
returns-clause-read g t c =
    all_read g.D.Disk.tells g.D.Disk.sight g.D.Counted.faults c.args.providers.now (c.write_provider.new.provider ∷
    c.write_each.new.providers)
    c.in-Some.first.now c.write_provider.new.provider c.in-Some.others.now c.write_each.new.providers
    c.in-Some.ensures.cases.0 refl
    (one_read g.D.Disk.tells g.D.Disk.sight g.D.Counted.faults c.in-Some.first.now c.write_provider.new.provider
    c.write_provider.result
    c.write_provider.ensures.reads c.write_provider.ensures.owed c.write_provider.ensures.carries
    c.write_provider.ensures.disk_later)
    c.in_ok-rest.ensures.read

pub returns-clause-runs : goal.returns-clause-runs
returns-clause-runs g t c =
    run_all c.args.directory.now (g.S.Sealer.seals c.args.sealer.now) c.args.me (c.write_provider.new.provider ∷
    c.write_each.new.providers) c.write_provider.new.provider c.write_each.new.providers refl
    c.in_ok-own.ensures.runs c.in_ok-rest.ensures.runs

pub returns-in_err-own-clause-stopped : goal.returns-in_err-own-clause-stopped
returns-in_err-own-clause-stopped g t c =
    let same = err_from_is_err_and c.from_residual.result c.from_residual.ensures.1 in
    rw (same.1, same.2)
    (stopped_first c.args.providers.now c.in-Some.first.now c.write_provider.new.provider c.in-Some.others.now
    c.in-Some.ensures.cases.0 _ c.in_err-own.ensures.reads)

pub returns-in_err-rest-clause-stopped : goal.returns-in_err-rest-clause-stopped
returns-in_err-rest-clause-stopped g t c =
    let same = err_from_is_err_and c.from_residual-in_err-rest.result c.from_residual-in_err-rest.ensures.1 in
    rw (same.1, same.2)
    (stopped_other c.args.providers.now c.in-Some.first.now c.write_provider.new.provider c.in-Some.others.now
    c.in-Some.ensures.cases.0 c.write_each.new.providers c.in_ok-own.ensures.reads _ c.in_err-rest.ensures.stopped)

pub returns-clause-tells : goal.returns-clause-tells
returns-clause-tells g t c = λ tells stands.
    tells_all (trade_of c.args.directory.now (g.S.Sealer.seals c.args.sealer.now)) c.args.from c.args.upto c.args.me
    c.args.providers.now c.in-Some.first.now c.in-Some.others.now c.in-Some.ensures.cases.0
    (c.in_ok-own.ensures.tells tells (first_so (λ number provider. Stands g.D.Disk.sight provider.chronicle)
    c.args.providers.now c.in-Some.first.now c.in-Some.others.now c.in-Some.ensures.cases.0 stands))
    (c.in_ok-rest.ensures.tells tells (others_so (λ number provider. Stands g.D.Disk.sight provider.chronicle)
    c.args.providers.now c.in-Some.first.now c.in-Some.others.now c.in-Some.ensures.cases.0 stands))
