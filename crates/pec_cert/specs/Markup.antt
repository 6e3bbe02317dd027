-- Text between tags: `element`, a line of one. The four bytes that mean something there stand escaped (XML 1.0,
-- sections 2.4 and 4.6); that these four always do, and no other byte ever does, is this project's profile. Beside it
-- numbers in two and four digits.
use Rattle.std.specs.Prelude.{ℕ, ◌+◌, ◌/◌, ◌%◌, ◌==◌, [], ◌∷◌, ◌++◌, codes, if◌then◌else◌}
use Rattle.std.specs.List.{flat_map}
use Rattle.pec_types.specs.Bytes.{Bytes, digit_zero, quote}

abbrev pub ampersand : ℕ
ampersand = 38

abbrev pub less_than : ℕ
less_than = 60

abbrev pub greater_than : ℕ
greater_than = 62

-- a byte as it stands in a text
abbrev pub escape : ℕ → Bytes
escape c =
    if c == ampersand then codes "&amp;"
    else (if c == less_than then codes "&lt;"
    else (if c == greater_than then codes "&gt;"
    else (if c == quote then codes "&quot;" else c ∷ [])))

-- the tag before an element's text
abbrev pub opening : Bytes → Bytes
opening name = codes "<" ++ (name ++ codes ">")

-- the tag behind it, which ends the line
abbrev pub closing : Bytes → Bytes
closing name = codes "</" ++ (name ++ codes ">\r\n")

-- a line of one element
abbrev pub element : Bytes → Bytes → Bytes
element name text = opening name ++ (flat_map escape text ++ closing name)

-- a number below 100
abbrev pub two_digits : ℕ → Bytes
two_digits n = (n / 10 + digit_zero) ∷ (n % 10 + digit_zero) ∷ []

-- a number below 10,000
abbrev pub four_digits : ℕ → Bytes
four_digits n = two_digits (n / 100) ++ two_digits (n % 100)
