use Rattle.std.proofs.Common.{◌≡◌, ◌∙◌, ◌++◌, ◌∷◌, [], List, ℕ, ap, subst}
use Rattle.std.specs.Prelude.{codes}
use Rattle.std.specs.Fmt.{decimal}
use Rattle.pec_outside.specs.Flow.{WrotePart, followed_by}
use Rattle.pec_serving.proofs.LineLemmas.{status_line}
use Rattle.pec_serving.proofs.WritingLemmas.{all_three, on_err, part_before, part_behind}
use Rattle.pec_serving.proofs.lines.write_status.Goals as goal

pub returns-in_err-write_all-clause-err : goal.returns-in_err-write_all-clause-err
returns-in_err-write_all-clause-err g c =
    on_err _ (subst (λ (t : List ℕ). WrotePart (g.W.Stream.held c.args.out.now) (g.W.Stream.held c.write_all.new.out) t)
    (status_line c.args.code)
    (part_before _ _ (codes "http ") (decimal c.args.code ++ 10 ∷ []) c.in_err-write_all.ensures.err))

pub returns-in_err-write_all-2-clause-err : goal.returns-in_err-write_all-2-clause-err
returns-in_err-write_all-2-clause-err g c =
    let u = g.W.Stream.held c.args.out.now in
    let w = g.W.Stream.held c.write_all-2.new.out in
    on_err _ (subst (λ (t : List ℕ). WrotePart u w t) (status_line c.args.code)
    (part_behind u (g.W.Stream.held c.write_all.new.out) w (codes "http ") (decimal c.args.code ++ 10 ∷ [])
    c.in_ok-write_all.ensures.ok
    (part_before (g.W.Stream.held c.write_all.new.out) w (decimal c.args.code) (10 ∷ [])
    (subst (λ (t : List ℕ). WrotePart (g.W.Stream.held c.write_all.new.out) w t)
    (c.as_bytes.ensures.value ∙ c.format.ensures.text) c.in_err-write_all-2.ensures.err))))

pub returns-in_err-write_all-3-clause-err : goal.returns-in_err-write_all-3-clause-err
returns-in_err-write_all-3-clause-err g c =
    let u = g.W.Stream.held c.args.out.now in
    let v = g.W.Stream.held c.write_all.new.out in
    let w = g.W.Stream.held c.write_all-2.new.out in
    let x = g.W.Stream.held c.write_all-3.new.out in
    on_err _ (subst (λ (t : List ℕ). WrotePart u x t) (status_line c.args.code)
    (part_behind u v x (codes "http ") (decimal c.args.code ++ 10 ∷ []) c.in_ok-write_all.ensures.ok
    (part_behind v w x (decimal c.args.code) (10 ∷ [])
    (c.in_ok-write_all-2.ensures.ok ∙ ap (λ (t : List ℕ). followed_by v t) (c.as_bytes.ensures.value ∙ c.format.ensures.text))
    c.in_err-write_all-3.ensures.err)))

pub returns-clause-ok : goal.returns-clause-ok
returns-clause-ok g c =
    let u = g.W.Stream.held c.args.out.now in
    let v = g.W.Stream.held c.write_all.new.out in
    let w = g.W.Stream.held c.write_all-2.new.out in
    let x = g.W.Stream.held c.write_all-3.new.out in
    subst (λ (t : List ℕ). x ≡ followed_by u t) (status_line c.args.code)
    (all_three u v w x (codes "http ") (decimal c.args.code) (10 ∷ []) c.in_ok-write_all.ensures.ok
    (c.in_ok-write_all-2.ensures.ok ∙ ap (λ (t : List ℕ). followed_by v t) (c.as_bytes.ensures.value ∙ c.format.ensures.text))
    c.in_ok-write_all-3.ensures.ok)
