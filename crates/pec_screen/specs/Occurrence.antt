-- Where a pattern occurs in a message. The headline is `Occurs`; `occurs` is its test.
use Rattle.std.specs.Prelude.{◌≡◌, Bool, ◌||◌, [], ◌∷◌, ◌++◌, length, take}
use Rattle.std.specs.Str.{bytes_eq}
use Rattle.pec_types.specs.Bytes.{Bytes}

-- The pattern occurs in the message: it stands somewhere in it, byte for byte. An empty pattern occurs everywhere.
pub record Occurs (pattern message : Bytes) : Type 0 where
  pub before : Bytes
  pub behind : Bytes
  pub whole : message ≡ before ++ (pattern ++ behind)

-- whether the text begins with the pattern
abbrev pub begins : Bytes → Bytes → Bool
begins pattern text = bytes_eq (take (length pattern) text) pattern

-- whether the pattern occurs in the message: at the first byte, or somewhere behind it
abbrev pub occurs : Bytes → Bytes → Bool
occurs pattern [] = begins pattern []
occurs pattern (b ∷ bytes) = begins pattern (b ∷ bytes) || occurs pattern bytes
