-- How a sealed text is read, from its front: the first byte outside 0x20 to 0x7e ends the line. This project's profile.
-- What is read so is what `Seals` says, by the laws of `sealing_and_opening`.
use Rattle.std.specs.Prelude.{◌≡◌, ℕ, ◌-◌, List, length, take, drop, codes, nat_lt, if◌then◌else◌, ◌==◌, position, Option, Some, None, Result, Ok, Err}
use Rattle.std.specs.Result.{result_ok}
use Rattle.std.specs.Str.{bytes_eq}
use Rattle.base64.specs.Engines.{standard}
use Rattle.base64.specs.GeneralPurpose.{decode_of, IsBytes}
use Rattle.pec_types.specs.Bytes.{after_front}
use Rattle.pec_types.specs.Options.{◌>>=◌}
use Rattle.pec_types.specs.Text.{is_unprintable}
use Rattle.pec_seal.specs.Seals.{Seals, Line}
use Rattle.pec_seal.specs.declared.seals.SealFault.{SealFault}
use Rattle.pec_seal.specs.declared.seals.SealFault.TheVariants.{NoSeal, UnknownProvider, WrongTag}

-- what this back follows
abbrev pub before_back : List ℕ → List ℕ → Option (List ℕ)
before_back back text =
    if bytes_eq (drop (length text - length back) text) back then Some (take (length text - length back) text) else None

-- the last bytes, so many of them, and what they follow
abbrev pub cut_last : ℕ → List ℕ → Option (List ℕ × List ℕ)
cut_last count text =
    if nat_lt (length text) count then None
    else Some (take (length text - count) text, drop (length text - count) text)

-- the first line, and what stands behind it
unfoldable pub first_line : List ℕ → Option (List ℕ × List ℕ)
first_line text = do
  end ← position is_unprintable text
  bytes ← after_front (codes "\r\n") (drop end text)
  Some (take end text, bytes)

-- 32 bytes, from their base64
abbrev pub whole_tag : List ℕ → Option (List ℕ)
whole_tag bytes = if length bytes == 32 then Some bytes else None

unfoldable pub tag_at : List ℕ → Option (List ℕ)
tag_at text = result_ok (decode_of standard text) >>= whole_tag

unfoldable pub line_at : List ℕ → Option Line
line_at text = do
  first ← first_line text
  seal ← after_front (codes "X-Sigillo: ") first.0
  parts ← cut_last 44 seal
  name ← before_back (codes "; ") parts.0
  tag ← tag_at parts.1
  Some (record { name = name; tag = tag; bytes = first.1 })

-- the tag of a line that is read consists of bytes
abbrev pub HasTagBytes : List ℕ → Type 0
HasTagBytes text = (line : Line) → line_at text ≡ Some line → IsBytes line.tag

-- ---- who sealed a text, and what

abbrev pub known_at : Seals → Line → Option ℕ → Result (ℕ × List ℕ) SealFault
known_at seals line None = Err UnknownProvider
known_at seals line (Some provider) =
    if bytes_eq line.tag (seals.tag_of provider line.bytes) then Ok (provider, line.bytes) else Err WrongTag

abbrev pub opened_at : Seals → Option Line → Result (ℕ × List ℕ) SealFault
opened_at seals None = Err NoSeal
opened_at seals (Some line) = known_at seals line (seals.number_of line.name)

unfoldable pub opened_of : Seals → List ℕ → Result (ℕ × List ℕ) SealFault
opened_of seals text = opened_at seals (line_at text)
