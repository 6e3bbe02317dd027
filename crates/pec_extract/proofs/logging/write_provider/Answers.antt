-- The rows are written one after another, and each entry leaves the provider as it was.
use Rattle.std.proofs.Common.{ap, arith, refl, ◌∙◌}
use Rattle.pec_directory.specs.Directory.{providers_of}
use Rattle.pec_ledger.specs.Half.{Half}
use Rattle.pec_provider.specs.Summing.{Summary, summary_within}
use Rattle.pec_provider.specs.OfTrades.{world_at}
use Rattle.pec_extract.specs.LogRows.{totals_in}
use Rattle.pec_extract.proofs.LogLemmas.{log_begins, log_carries, log_ends, log_front, log_half, log_more, log_tells, on_err, still_there}
use Rattle.pec_extract.proofs.WholeLemmas.{grown_again, grown_none}
use Rattle.pec_extract.proofs.logging.write_provider.Goals as goal

pub loop-number-init : goal.loop-number-init
loop-number-init g c = (
  log_begins g.D.Disk.tells g.D.Disk.sight g.D.Counted.faults c.args.house.now.directory.now
      (g.S.Sealer.seals c.args.house.now.sealer.now) (world_at c.args.house.now)
      (providers_of c.args.house.now.directory.now) c.args.house.now.me c.args.from c.args.upto c.args.provider.now
      (g.W.Stream.held c.args.out.now) c.new-remembered.result c.new-remembered.ensures c.requires.runs
      c.a_provider_stands_still.ensures,
  (omega arith, (refl, grown_none (g.W.Stream.held c.args.out.now))),
)

pub write_entry-requires-clause-there : goal.write_entry-requires-clause-there
write_entry-requires-clause-there g c =
    still_there g.D.Disk.tells g.D.Disk.sight g.D.Counted.faults c.args.house.now.directory.now
    (g.S.Sealer.seals c.args.house.now.sealer.now) (world_at c.args.house.now)
    (providers_of c.args.house.now.directory.now) c.args.house.now.me c.args.from c.args.upto c.args.provider.now
    (g.W.Stream.held c.args.out.now) c.loop-number.number c.loop-number.submitted c.loop-number.provider
    (g.W.Stream.held c.loop-number.out) c.loop-number.remembered c.loop-number.invariant.0
    (omega (
      arith,
      c.loop-number-test.true,
      c.entries-number-end.ensures c.args.house.now.directory.now (g.S.Sealer.seals c.args.house.now.sealer.now)
          c.args.house.now.me (world_at c.args.house.now) c.requires.runs c.a_house_is_a_trade.ensures.of,
    ))

pub loop-number-preserved : goal.loop-number-preserved
loop-number-preserved g c = (
  log_more g.D.Disk.tells g.D.Disk.sight g.D.Counted.faults c.args.house.now.directory.now
      (g.S.Sealer.seals c.args.house.now.sealer.now) (world_at c.args.house.now)
      (providers_of c.args.house.now.directory.now) c.args.house.now.me c.args.from c.args.upto c.args.provider.now
      (g.W.Stream.held c.args.out.now) c.loop-number.number c.loop-number.submitted c.loop-number.provider
      (g.W.Stream.held c.loop-number.out) c.loop-number.remembered c.loop-number.invariant.0 c.write_entry.new.provider
      (g.W.Stream.held c.write_entry.new.out) c.write_entry.new.remembered c.in_ok-submitted.field-0 c.in_ok-submitted.ensures.reads
      c.in_ok-submitted.ensures.owed c.in_ok-submitted.ensures.runs c.in_ok-submitted.ensures.carries
      c.in_ok-submitted.ensures.disk_later c.in_ok-submitted.ensures.few
      (omega (
        arith,
        c.loop-number-test.true,
        c.entries-number-end.ensures c.args.house.now.directory.now (g.S.Sealer.seals c.args.house.now.sealer.now)
            c.args.house.now.me (world_at c.args.house.now) c.requires.runs c.a_house_is_a_trade.ensures.of,
      ))
      c.in_ok-submitted.ensures.taken c.in_ok-submitted.ensures.row c.in_ok-submitted.ensures.more
      c.in_ok-submitted.ensures.original,
  (
    omega (arith, c.loop-number.invariant.1.0, c.in_ok-submitted.ensures.later),
    (
      c.in_ok-submitted.ensures.kept ∙ c.loop-number.invariant.1.1.0,
      grown_again (g.W.Stream.held c.args.out.now) (g.W.Stream.held c.loop-number.out) (g.W.Stream.held c.write_entry.new.out)
          c.loop-number.invariant.1.1.1 c.in_ok-submitted.ensures.grown,
    ),
  ),
)

pub returns-in_err-submitted-clause-front : goal.returns-in_err-submitted-clause-front
returns-in_err-submitted-clause-front g c = λ tells stands.
    on_err c.from_residual.result
    (log_front g.D.Disk.tells g.D.Disk.sight g.D.Counted.faults c.args.house.now.directory.now
    (g.S.Sealer.seals c.args.house.now.sealer.now) (world_at c.args.house.now)
    (providers_of c.args.house.now.directory.now) c.args.house.now.me c.args.from c.args.upto c.args.provider.now
    (g.W.Stream.held c.args.out.now) c.loop-number.number c.loop-number.submitted c.loop-number.provider
    (g.W.Stream.held c.loop-number.out) c.loop-number.remembered c.loop-number.invariant.0 c.write_entry.new.provider
    (g.W.Stream.held c.write_entry.new.out)
    (omega (
      arith,
      c.loop-number-test.true,
      c.entries-number-end.ensures c.args.house.now.directory.now (g.S.Sealer.seals c.args.house.now.sealer.now)
          c.args.house.now.me (world_at c.args.house.now) c.requires.runs c.a_house_is_a_trade.ensures.of,
    ))
    c.in_err-submitted.ensures.front tells stands)

pub returns-in_err-submitted-clause-carries : goal.returns-in_err-submitted-clause-carries
returns-in_err-submitted-clause-carries g c =
    log_carries g.D.Disk.tells g.D.Disk.sight g.D.Counted.faults c.args.house.now.directory.now
    (g.S.Sealer.seals c.args.house.now.sealer.now) (world_at c.args.house.now)
    (providers_of c.args.house.now.directory.now) c.args.house.now.me c.args.from c.args.upto c.args.provider.now
    (g.W.Stream.held c.args.out.now) c.loop-number.number c.loop-number.submitted c.loop-number.provider
    (g.W.Stream.held c.loop-number.out) c.loop-number.remembered c.loop-number.invariant.0 c.write_entry.new.provider c.in_err-submitted.ensures.carries

pub returns-clause-rows : goal.returns-clause-rows
returns-clause-rows g c = λ tells stands.
    log_ends g.D.Disk.tells g.D.Disk.sight g.D.Counted.faults c.args.house.now.directory.now
    (g.S.Sealer.seals c.args.house.now.sealer.now) (world_at c.args.house.now)
    (providers_of c.args.house.now.directory.now) c.args.house.now.me c.args.from c.args.upto c.args.provider.now
    (g.W.Stream.held c.args.out.now) c.loop-number.number c.loop-number.submitted c.loop-number.provider
    (g.W.Stream.held c.loop-number.out) c.loop-number.remembered c.loop-number.invariant.0
    (omega (
      arith,
      c.loop-number-test.false,
      c.entries-number-end.ensures c.args.house.now.directory.now (g.S.Sealer.seals c.args.house.now.sealer.now)
          c.args.house.now.me (world_at c.args.house.now) c.requires.runs c.a_house_is_a_trade.ensures.of,
    )) tells stands

pub returns-clause-tells : goal.returns-clause-tells
returns-clause-tells g c = λ tells stands.
    log_tells g.D.Disk.tells g.D.Disk.sight g.D.Counted.faults c.args.house.now.directory.now
    (g.S.Sealer.seals c.args.house.now.sealer.now) (world_at c.args.house.now)
    (providers_of c.args.house.now.directory.now) c.args.house.now.me c.args.from c.args.upto c.args.provider.now
    (g.W.Stream.held c.args.out.now) c.loop-number.number c.loop-number.submitted c.loop-number.provider
    (g.W.Stream.held c.loop-number.out) c.loop-number.remembered c.loop-number.invariant.0
    (omega (
      arith,
      c.loop-number-test.false,
      c.entries-number-end.ensures c.args.house.now.directory.now (g.S.Sealer.seals c.args.house.now.sealer.now)
          c.args.house.now.me (world_at c.args.house.now) c.requires.runs c.a_house_is_a_trade.ensures.of,
    )) tells stands

pub returns-clause-totals : goal.returns-clause-totals
returns-clause-totals g c =
    let trade = world_at c.args.house.now in
    c.totals_in.ensures.is
    ∙ ap totals_in (c.summary_within.ensures.is c.args.house.now.directory.now (g.S.Sealer.seals c.args.house.now.sealer.now)
    c.args.house.now.me trade c.loop-number.invariant.0.runs c.a_house_is_a_trade.ensures.of
    ∙ ap (λ (h : Half). summary_within trade c.args.house.now.me c.args.from c.args.upto h)
    (log_half g.D.Disk.tells g.D.Disk.sight g.D.Counted.faults c.args.house.now.directory.now
    (g.S.Sealer.seals c.args.house.now.sealer.now) (world_at c.args.house.now)
    (providers_of c.args.house.now.directory.now) c.args.house.now.me c.args.from c.args.upto c.args.provider.now
    (g.W.Stream.held c.args.out.now) c.loop-number.number c.loop-number.submitted c.loop-number.provider
    (g.W.Stream.held c.loop-number.out) c.loop-number.remembered c.loop-number.invariant.0))

pub returns-in_err-submitted-clause-grown : goal.returns-in_err-submitted-clause-grown
returns-in_err-submitted-clause-grown g c =
    grown_again (g.W.Stream.held c.args.out.now) (g.W.Stream.held c.loop-number.out) (g.W.Stream.held c.write_entry.new.out)
    c.loop-number.invariant.1.1.1 c.in_err-submitted.ensures.grown

pub returns-clause-grown : goal.returns-clause-grown
returns-clause-grown g c = c.loop-number.invariant.1.1.1
