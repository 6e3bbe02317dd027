-- The head may be asked last.
use Rattle.std.proofs.Common.{◌≡◌, Bool, true, false, ◌&&◌, refl, ◌∙◌}
use Rattle.std.specs.Option.{option_map}
use Rattle.pec_letter_facts.specs.Questions.{marking_of}
use Rattle.pec_receipts.specs.Seen.{error_number, is_detail, is_marked, kind_number, says}
use Rattle.std.specs.Bool.{◌==◌}
use Rattle.pec_receipts.proofs.asking.says.Goals as goal

moved : (first second third last : Bool) → true ≡ (second && third && last) → first ≡ (first && second && third && last)
moved true second third last rest = rest
moved false second third last rest = refl

pub returns : goal.returns
unfolding says
returns c =
    let said = c.in-Some.said in
    let cert = c.args.letter.now.cert in
    rw c.in-Some.is
    (c.is_marked.ensures ∙ moved (is_marked said.word.now (marking_of c.args.letter.now.head)) (kind_number cert.kind == kind_number said.kind)
    (error_number cert.error == error_number said.error) (is_detail (option_map (λ text. text.now) said.detail) cert.detail) c.if-not-certifies.ensures)
