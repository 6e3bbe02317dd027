use Rattle.std.proofs.Common.{ℕ, List, length, sym, ◌∙◌, rules}
use Rattle.pec_outside.specs.DiskModel.{Torn}
use Rattle.pec_outside.proofs.MomentLemmas.{torn_by, write_leaves, write_grows, write_and_sync_grow, rests_leaves}
use Rattle.pec_outside.proofs.durable.write_through.Goals as goal

pub returns-in_err-write_at-clause-any_moment : goal.returns-in_err-write_at-clause-any_moment
returns-in_err-write_at-clause-any_moment g c tells within only =
    let old = g.D.Disk.sight c.args.disk.now in
    let now : (image : List ℕ) → old.left_since old.moment image → old.may_leave image = search rules in
    write_leaves old (g.D.Disk.sight c.write_at.new.self) c.args.at (length c.args.piece.now) now only (c.write_at.ensures.tears tells within)

pub returns-in_err-sync-clause-any_moment : goal.returns-in_err-sync-clause-any_moment
returns-in_err-sync-clause-any_moment g c tells within only =
    let old = g.D.Disk.sight c.args.disk.now in
    let new = g.D.Disk.sight c.write_at.new.self in
    let now : (image : List ℕ) → old.left_since old.moment image → old.may_leave image = search rules in
    let tears = c.write_at.ensures.tears tells within in
    rests_leaves old new (g.D.Disk.sight c.sync.new.self) (Torn c.args.at (length c.args.piece.now) old.seen)
    (write_leaves old new c.args.at (length c.args.piece.now) now only tears)
    (torn_by old new c.args.at (length c.args.piece.now) now only tears) (c.sync.ensures.rests tells)

pub returns-clause-written : goal.returns-clause-written
returns-clause-written g c tells within = (c.sync.ensures.rests tells).seen ∙ c.in_ok-write_at.ensures.written tells within

pub returns-clause-durable : goal.returns-clause-durable
returns-clause-durable g c tells within image left = c.in_ok-sync.ensures.durable tells image left ∙ sym (c.sync.ensures.rests tells).seen

pub returns-clause-any_moment : goal.returns-clause-any_moment
returns-clause-any_moment g c tells within only =
    let old = g.D.Disk.sight c.args.disk.now in
    let new = g.D.Disk.sight c.write_at.new.self in
    let now : (image : List ℕ) → old.left_since old.moment image → old.may_leave image = search rules in
    let tears = c.write_at.ensures.tears tells within in
    rests_leaves old new (g.D.Disk.sight c.sync.new.self) (Torn c.args.at (length c.args.piece.now) old.seen)
    (write_leaves old new c.args.at (length c.args.piece.now) now only tears)
    (torn_by old new c.args.at (length c.args.piece.now) now only tears) (c.sync.ensures.rests tells)

pub returns-in_err-write_at-clause-grows : goal.returns-in_err-write_at-clause-grows
returns-in_err-write_at-clause-grows g c tells within =
    let old = g.D.Disk.sight c.args.disk.now in
    let now : (image : List ℕ) → old.left_since old.moment image → old.may_leave image = search rules in
    write_grows old (g.D.Disk.sight c.write_at.new.self) c.args.at (length c.args.piece.now) now
    (c.write_at.ensures.tears tells within)

pub returns-in_err-sync-clause-grows : goal.returns-in_err-sync-clause-grows
returns-in_err-sync-clause-grows g c tells within =
    let old = g.D.Disk.sight c.args.disk.now in
    let now : (image : List ℕ) → old.left_since old.moment image → old.may_leave image = search rules in
    write_and_sync_grow old (g.D.Disk.sight c.write_at.new.self) c.args.at (length c.args.piece.now) now
    (c.write_at.ensures.tears tells within) (g.D.Disk.sight c.sync.new.self) (c.sync.ensures.rests tells)

pub returns-clause-grows : goal.returns-clause-grows
returns-clause-grows g c tells within =
    let old = g.D.Disk.sight c.args.disk.now in
    let now : (image : List ℕ) → old.left_since old.moment image → old.may_leave image = search rules in
    write_and_sync_grow old (g.D.Disk.sight c.write_at.new.self) c.args.at (length c.args.piece.now) now
    (c.write_at.ensures.tears tells within) (g.D.Disk.sight c.sync.new.self) (c.sync.ensures.rests tells)
