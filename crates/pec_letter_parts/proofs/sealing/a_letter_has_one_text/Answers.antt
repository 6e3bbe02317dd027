-- The parts have one composed body, and the letter is what is sealed of it.
use Rattle.std.proofs.Common.{ℕ, Option, ap, ◌∙◌}
use Rattle.pec_heads.specs.WrittenHeads.{with_head}
use Rattle.pec_bodies.specs.Composing.{composed_body, composed_number}
use Rattle.pec_seal.specs.Seals.{sealed}
use Rattle.pec_types.specs.Bytes.{Bytes}
use Rattle.pec_types.specs.Options.{◌>>=◌}
use Rattle.pec_letter_parts.proofs.PutLemmas.{then_some}
use Rattle.pec_letter_parts.specs.Headings.{letter_fields}
use Rattle.pec_letter_parts.specs.Sealing.{letter_text}
use Rattle.pec_letter_parts.proofs.sealing.a_letter_has_one_text.Goals as goal

pub returns : goal.returns
unfolding letter_text
returns c = λ seals provider heading parts text.
    let text_of = λ (number : ℕ) (body : Bytes). sealed seals provider (with_head (letter_fields heading number) body)
    in let law = c.parts_have_one_composed_body.ensures.body parts
    in (
      (λ e.
          let n = then_some (composed_number parts) (λ (number : ℕ). composed_body parts >>= text_of number) text e
          in let b = then_some (composed_body parts) (text_of n.0) text n.1.1
          in record { number = n.0; body = b.0; composed = (law n.0 b.0).0 (n.1.0, b.1.0); text_is = b.1.1 }),
      (λ is.
          let p = (law is.number is.body).1 is.composed
          in ap (λ (o : Option ℕ). o >>= λ (number : ℕ). composed_body parts >>= text_of number) p.0 ∙ ap (λ (o : Option Bytes). o >>= text_of is.number) p.1 ∙ is.text_is),
    )
