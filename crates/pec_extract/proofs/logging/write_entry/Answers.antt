-- The entry that was read is the one of the number, and what is written is its row.
use Rattle.pec_chronicle.specs.Carrying.{NothingMay}
use Rattle.pec_chronicle.specs.CarryingLaws.{carries_and_then}
use Rattle.pec_directory.specs.Directory.{providers_of}
use Rattle.pec_provider.specs.OfTrades.{world_at}
use Rattle.pec_extract.proofs.LogLemmas.{front_so, on_err, original_so, row_so, taken_mid, taken_old, wrote_nothing}
use Rattle.pec_extract.proofs.logging.write_entry.Goals as goal

pub returns-in_err-entry-clause-front : goal.returns-in_err-entry-clause-front
returns-in_err-entry-clause-front g c = λ tells stands taken told at. on_err c.from_residual.result (wrote_nothing _ _)

pub returns-in_err-write_within-clause-front : goal.returns-in_err-write_within-clause-front
returns-in_err-write_within-clause-front g c = λ tells stands taken told at.
    on_err c.from_residual-in_err-write_within.result
    (front_so (world_at c.args.house.now) (providers_of c.args.house.now.directory.now) c.args.house.now.me
    c.args.from c.args.upto c.args.number c.args.submitted c.args.provider.now c.entry_at.new.provider
    c.in_ok-entry.ensures.reads c.in_ok-entry.entry told at (c.in_ok-entry.ensures.kept tells stands)
    (g.W.Stream.held c.args.out.now) (g.W.Stream.held c.write_within.new.out)
    (c.in_err-write_within.ensures.front tells ((c.in_ok-entry.ensures.carries tells).stands stands)
    (taken_mid (world_at c.args.house.now) c.args.house.now.me c.args.provider.now c.entry_at.new.provider
    c.in_ok-entry.ensures.reads c.args.remembered.now taken)))

pub returns-in_err-write_within-clause-carries : goal.returns-in_err-write_within-clause-carries
returns-in_err-write_within-clause-carries g c = λ tells.
    carries_and_then g.D.Disk.sight NothingMay c.args.provider.now.chronicle c.entry_at.new.provider.chronicle
    c.write_within.new.provider.chronicle (c.in_ok-entry.ensures.carries tells) (c.in_err-write_within.ensures.carries tells)

pub returns-clause-row : goal.returns-clause-row
returns-clause-row g c = λ tells stands taken told at.
    row_so (world_at c.args.house.now) (providers_of c.args.house.now.directory.now) c.args.house.now.me
    c.args.from c.args.upto c.args.number c.args.submitted c.args.provider.now c.entry_at.new.provider
    c.in_ok-entry.ensures.reads c.in_ok-entry.entry told at (c.in_ok-entry.ensures.kept tells stands)
    (g.W.Stream.held c.args.out.now) (g.W.Stream.held c.write_within.new.out)
    (c.in_ok-write_within.ensures.row tells ((c.in_ok-entry.ensures.carries tells).stands stands)
    (taken_mid (world_at c.args.house.now) c.args.house.now.me c.args.provider.now c.entry_at.new.provider
    c.in_ok-entry.ensures.reads c.args.remembered.now taken))

pub returns-clause-carries : goal.returns-clause-carries
returns-clause-carries g c = λ tells.
    carries_and_then g.D.Disk.sight NothingMay c.args.provider.now.chronicle c.entry_at.new.provider.chronicle
    c.write_within.new.provider.chronicle (c.in_ok-entry.ensures.carries tells) (c.in_ok-write_within.ensures.carries tells)

pub returns-in_err-write_within-clause-taken : goal.returns-in_err-write_within-clause-taken
returns-in_err-write_within-clause-taken g c = λ tells stands taken.
    taken_old (world_at c.args.house.now) c.args.house.now.me c.args.provider.now c.entry_at.new.provider
    c.in_ok-entry.ensures.reads c.write_within.new.remembered
    (c.in_err-write_within.ensures.taken tells ((c.in_ok-entry.ensures.carries tells).stands stands)
    (taken_mid (world_at c.args.house.now) c.args.house.now.me c.args.provider.now c.entry_at.new.provider
    c.in_ok-entry.ensures.reads c.args.remembered.now taken))

pub returns-clause-taken : goal.returns-clause-taken
returns-clause-taken g c = λ tells stands taken.
    taken_old (world_at c.args.house.now) c.args.house.now.me c.args.provider.now c.entry_at.new.provider
    c.in_ok-entry.ensures.reads c.write_within.new.remembered
    (c.in_ok-write_within.ensures.taken tells ((c.in_ok-entry.ensures.carries tells).stands stands)
    (taken_mid (world_at c.args.house.now) c.args.house.now.me c.args.provider.now c.entry_at.new.provider
    c.in_ok-entry.ensures.reads c.args.remembered.now taken))

pub returns-clause-original : goal.returns-clause-original
returns-clause-original g c = λ tells stands taken told at.
    original_so (world_at c.args.house.now) (providers_of c.args.house.now.directory.now) c.args.house.now.me
    c.args.from c.args.upto c.args.number c.args.submitted c.args.provider.now c.entry_at.new.provider
    c.in_ok-entry.ensures.reads c.in_ok-entry.entry told at (c.in_ok-entry.ensures.kept tells stands)
    (c.in_ok-write_within.ensures.original tells ((c.in_ok-entry.ensures.carries tells).stands stands)
    (taken_mid (world_at c.args.house.now) c.args.house.now.me c.args.provider.now c.entry_at.new.provider
    c.in_ok-entry.ensures.reads c.args.remembered.now taken))
