-- Letters as texts: a head, the parts under the least boundary that none of them takes, and the seal line of the provider that
-- composes it. `IsLetterText` says which text that is, and `letter_text` is the same as a function.
use Rattle.std.specs.Prelude.{◌≡◌, ℕ, List, Option, Some}
use Rattle.pec_types.specs.Bytes.{Bytes}
use Rattle.pec_types.specs.Options.{◌>>=◌}
use Rattle.pec_heads.specs.WrittenHeads.{with_head}
use Rattle.pec_bodies.specs.Composing.{IsComposed, composed_body, composed_number}
use Rattle.pec_seal.specs.Seals.{Seals, sealed}
use Rattle.pec_letter_parts.specs.Headings.{Heading, letter_fields}

-- The text is the letter with this head and these parts, which the provider of this number seals.
pub record IsLetterText (seals : Seals) (provider : ℕ) (heading : Heading) (parts : List Bytes) (text : Bytes) : Type 0 where
  pub number : ℕ
  pub body : Bytes
  pub composed : IsComposed parts number body
  pub text_is : sealed seals provider (with_head (letter_fields heading number) body) ≡ Some text

-- The text of the letter; none where the provider has no name, or no boundary is free.
unfoldable pub letter_text : Seals → ℕ → Heading → List Bytes → Option Bytes
letter_text seals provider heading parts = do
  number ← composed_number parts
  body ← composed_body parts
  sealed seals provider (with_head (letter_fields heading number) body)
