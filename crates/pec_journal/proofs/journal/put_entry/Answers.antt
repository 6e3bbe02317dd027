use Rattle.std.proofs.Common.{◌+◌, ◌≤◌, ◌∷◌, [], List, ℕ, length, ap, sym, ◌∙◌, subst, arith}
use Rattle.pec_outside.specs.DiskModel.{written}
use Rattle.pec_outside.specs.Moments.{and_then}
use Rattle.pec_journal.specs.JournalFile.{IsBeforeOrAfter, open_gate}
use Rattle.pec_journal.proofs.FileLemmas.{file_size, staged_size, still_there}
use Rattle.pec_journal.proofs.AppendLemmas.{both_grow, first_leaves, first_stages, gate_there, second_leaves, second_keeps}
use Rattle.pec_journal.proofs.journal.put_entry.Goals as goal

pub returns-in_err-write_through-clause-any_moment : goal.returns-in_err-write_through-clause-any_moment
returns-in_err-write_through-clause-any_moment g c tells entries entry keeps short is =
    let sight = g.D.Disk.sight in
    first_leaves entries entry c.args.end (sight c.args.disk.now) (sight c.write_through.new.disk) (length c.args.piece.now) keeps
    (c.write_through.ensures.any_moment tells (file_size entries _ _ keeps.ends keeps.file) keeps.durable)

pub returns-in_err-open_at-clause-any_moment : goal.returns-in_err-open_at-clause-any_moment
returns-in_err-open_at-clause-any_moment g c tells entries entry keeps short is =
    let sight = g.D.Disk.sight in
    let within = file_size entries _ _ keeps.ends keeps.file in
    let first = first_leaves entries entry c.args.end (sight c.args.disk.now) (sight c.write_through.new.disk) (length c.args.piece.now) keeps (c.write_through.ensures.any_moment tells within keeps.durable) in
    let stage = first_stages entries entry c.args.end (sight c.args.disk.now) (sight c.write_through.new.disk) c.args.piece.now keeps short is (c.in_ok-write_through.ensures.written tells within) in
    let room = staged_size entries _ _ keeps.ends entry stage in
    let durable = c.in_ok-write_through.ensures.durable tells within in
    and_then (sight c.args.disk.now) (sight c.write_through.new.disk) (sight c.open_at.new.disk) (IsBeforeOrAfter entries entry) first
    (second_leaves entries entry c.args.end (sight c.write_through.new.disk) (sight c.open_at.new.disk) keeps.ends keeps.file.short stage (c.open_at.ensures.any_moment tells room durable))

pub returns-clause-any_moment : goal.returns-clause-any_moment
returns-clause-any_moment g c tells entries entry keeps short is =
    let sight = g.D.Disk.sight in
    let within = file_size entries _ _ keeps.ends keeps.file in
    let first = first_leaves entries entry c.args.end (sight c.args.disk.now) (sight c.write_through.new.disk) (length c.args.piece.now) keeps (c.write_through.ensures.any_moment tells within keeps.durable) in
    let stage = first_stages entries entry c.args.end (sight c.args.disk.now) (sight c.write_through.new.disk) c.args.piece.now keeps short is (c.in_ok-write_through.ensures.written tells within) in
    let room = staged_size entries _ _ keeps.ends entry stage in
    let durable = c.in_ok-write_through.ensures.durable tells within in
    and_then (sight c.args.disk.now) (sight c.write_through.new.disk) (sight c.open_at.new.disk) (IsBeforeOrAfter entries entry) first
    (second_leaves entries entry c.args.end (sight c.write_through.new.disk) (sight c.open_at.new.disk) keeps.ends keeps.file.short stage (c.open_at.ensures.any_moment tells room durable))

pub returns-clause-ok : goal.returns-clause-ok
returns-clause-ok g c tells entries entry keeps short is =
    let sight = g.D.Disk.sight in
    let within = file_size entries _ _ keeps.ends keeps.file in
    let stage = first_stages entries entry c.args.end (sight c.args.disk.now) (sight c.write_through.new.disk) c.args.piece.now keeps short is (c.in_ok-write_through.ensures.written tells within) in
    let room = staged_size entries _ _ keeps.ends entry stage in
    second_keeps entries entry c.args.end (sight c.write_through.new.disk) (sight c.open_at.new.disk) keeps.ends stage (c.in_ok-open_at.ensures.written tells room) (c.in_ok-open_at.ensures.durable tells room)

pub returns-clause-bytes : goal.returns-clause-bytes
returns-clause-bytes g c tells within =
    let sight = g.D.Disk.sight in
    let first = c.in_ok-write_through.ensures.written tells (omega (arith, within)) in
    let room = subst (λ (s : List ℕ). c.args.end ≤ length s) (sym first) (still_there (sight c.args.disk.now).seen c.args.piece.now c.args.end within) in
    c.in_ok-open_at.ensures.written tells room ∙ ap (λ (s : List ℕ). written s c.args.end (open_gate ∷ [])) first

pub returns-in_err-write_through-clause-grows : goal.returns-in_err-write_through-clause-grows
returns-in_err-write_through-clause-grows g c tells within = c.write_through.ensures.grows tells (omega (arith, within))

pub returns-in_err-open_at-clause-grows : goal.returns-in_err-open_at-clause-grows
returns-in_err-open_at-clause-grows g c tells within =
    let sight = g.D.Disk.sight in
    let first : c.args.end + 1 ≤ length (sight c.args.disk.now).seen = omega (arith, within) in
    let there = gate_there c.args.end c.args.piece.now (sight c.args.disk.now) (sight c.write_through.new.disk) within (c.in_ok-write_through.ensures.written tells first) in
    both_grow c.args.end c.args.piece.now (sight c.args.disk.now) (sight c.write_through.new.disk) (sight c.open_at.new.disk)
    (g.met.D.Disk.counts_now tells c.write_through.new.disk) (c.write_through.ensures.grows tells first) (c.open_at.ensures.grows tells there)

pub returns-clause-grows : goal.returns-clause-grows
returns-clause-grows g c tells within =
    let sight = g.D.Disk.sight in
    let first : c.args.end + 1 ≤ length (sight c.args.disk.now).seen = omega (arith, within) in
    let there = gate_there c.args.end c.args.piece.now (sight c.args.disk.now) (sight c.write_through.new.disk) within (c.in_ok-write_through.ensures.written tells first) in
    both_grow c.args.end c.args.piece.now (sight c.args.disk.now) (sight c.write_through.new.disk) (sight c.open_at.new.disk)
    (g.met.D.Disk.counts_now tells c.write_through.new.disk) (c.write_through.ensures.grows tells first) (c.open_at.ensures.grows tells there)
