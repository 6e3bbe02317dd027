-- A recipient isn't on the path; or each is, and the addresses of the path decide.
use Rattle.std.proofs.Common.{sym, ◌∙◌}
use Rattle.pec_points.proofs.KnownLemmas.{all_on_and, not_all_on}
use Rattle.pec_points.proofs.paths.is_long_path_of.Goals as goal

pub returns-then-not-are_all_known : goal.returns-then-not-are_all_known
returns-then-not-are_all_known c =
    sym (not_all_on c.args.path.now c.args.recipients.now c.in_ok-on_path.on_path c.in_ok-on_path.ensures
    (sym c.are_all_known.ensures ∙ c.if-not-are_all_known.true))

pub returns : goal.returns
returns c =
    c.is_all_known.ensures
    ∙ all_on_and c.args.path.now c.args.recipients.now c.in_ok-on_path.on_path c.in_ok-named.named
    c.in_ok-on_path.ensures c.in_ok-named.ensures
    (sym c.are_all_known.ensures ∙ c.if-not-are_all_known.false)
