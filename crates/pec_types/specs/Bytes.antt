-- Lists of bytes: the words for them, the names of the bytes that formats are made of, and the smallest questions about them.
use Rattle.std.specs.Prelude.{ℕ, List, Bool, ◌==◌, length, take, drop, if◌then◌else◌, Option, Some, None}
use Rattle.std.specs.Str.{bytes_eq}

-- a text, or a piece of one, byte by byte
abbrev pub Bytes : Type 0
Bytes = List ℕ

-- a forward path: the addresses in their order, each as its bytes
abbrev pub Path : Type 0
Path = List Bytes

-- bytes by their names in ASCII

abbrev pub tab : ℕ
tab = 9

abbrev pub line_feed : ℕ
line_feed = 10

abbrev pub carriage_return : ℕ
carriage_return = 13

abbrev pub space : ℕ
space = 32

abbrev pub quote : ℕ
quote = 34

abbrev pub comma : ℕ
comma = 44

abbrev pub hyphen : ℕ
hyphen = 45

abbrev pub dot : ℕ
dot = 46

abbrev pub digit_zero : ℕ
digit_zero = 48

abbrev pub colon : ℕ
colon = 58

abbrev pub semicolon : ℕ
semicolon = 59

abbrev pub equals_sign : ℕ
equals_sign = 61

abbrev pub at_sign : ℕ
at_sign = 64

abbrev pub backslash : ℕ
backslash = 92

abbrev pub is_quote : ℕ → Bool
is_quote b = b == quote

-- what stands behind this front, where the text begins with it
unfoldable pub after_front : Bytes → Bytes → Option Bytes
after_front front text = if bytes_eq (take (length front) text) front then Some (drop (length front) text) else None
