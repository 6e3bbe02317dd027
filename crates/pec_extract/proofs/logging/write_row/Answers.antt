-- Where nothing is read nothing is written, and what is remembered is what the journal says.
use Rattle.std.proofs.Common.{◌≡◌, OnErr, OnOk, subst}
use Rattle.pec_outside.specs.Flow.{WrotePart, followed_by}
use Rattle.pec_types.specs.Bytes.{Bytes}
use Rattle.pec_directory.specs.Directory.{providers_of}
use Rattle.pec_provider.specs.OfTrades.{world_at}
use Rattle.pec_extract.proofs.LogLemmas.{on_err, same_told, wrote_nothing}
use Rattle.pec_extract.proofs.logging.write_row.Goals as goal

pub returns-in_err-remember_for-clause-front : goal.returns-in_err-remember_for-clause-front
returns-in_err-remember_for-clause-front g c = λ tells stands taken. on_err c.from_residual.result (wrote_nothing _ _)

pub returns-clause-row : goal.returns-clause-row
returns-clause-row g c = λ tells stands taken.
    subst (λ (text : Bytes). OnOk c.write_known.result
    (g.W.Stream.held c.write_known.new.out ≡ followed_by (g.W.Stream.held c.args.out.now) text))
    (same_told (world_at c.args.house.now) (providers_of c.args.house.now.directory.now) c.args.house.now.me c.args.number
    c.args.submitted c.args.provider.now c.remember_for.new.provider c.in_ok-remember_for.ensures.reads
    c.remember_for.new.remembered c.args.entry.now (c.in_ok-remember_for.ensures.known tells stands taken))
    c.write_known.ensures.ok

pub returns-clause-front : goal.returns-clause-front
returns-clause-front g c = λ tells stands taken.
    subst (λ (text : Bytes). OnErr c.write_known.result
    (WrotePart (g.W.Stream.held c.args.out.now) (g.W.Stream.held c.write_known.new.out) text))
    (same_told (world_at c.args.house.now) (providers_of c.args.house.now.directory.now) c.args.house.now.me c.args.number
    c.args.submitted c.args.provider.now c.remember_for.new.provider c.in_ok-remember_for.ensures.reads
    c.remember_for.new.remembered c.args.entry.now (c.in_ok-remember_for.ensures.known tells stands taken))
    c.write_known.ensures.err
