-- Lists of addresses (RFC 5322, section 3.4, within this project's profile: no groups, no routes, no comments): the
-- entries of a text, the addresses that they are, and the first fault of a text that is no list. The headlines are
-- `IsList` and `IsListFault`, at the end.
use Rattle.std.specs.Prelude.{◌≡◌, ℕ, ◌+◌, ◌<◌, ◌==◌, List, [], ◌∷◌, ◌++◌, Bool, true, false, not, ◌||◌, ◌⊎◌, MatchBool, length, codes}
use Rattle.std.specs.List.{flat_map, list_all, list_any, join_with_byte}
use Rattle.pec_types.specs.Bytes.{Bytes, Path, quote, comma, backslash, is_quote}
use Rattle.pec_types.specs.Address.{IsAddress, IsAddressFault, lowered}
use Rattle.pec_heads.specs.Bytes.{is_blank, AreBlanks, FirstOf, trimmed}
use Rattle.pec_heads.specs.Lines.{size}
use Rattle.pec_heads.specs.declared.faults.ListFault.{ListFault}
use Rattle.pec_heads.specs.declared.faults.ListFault.TheVariants.{Syntax, BadAddress, Empty, NoMemory}

-- `<`
abbrev pub opening : ℕ
opening = 60

-- `>`
abbrev pub closing : ℕ
closing = 62

abbrev pub is_backslash : ℕ → Bool
is_backslash b = b == backslash

abbrev pub is_comma : ℕ → Bool
is_comma b = b == comma

-- ---- quoted strings

-- What stands between two quotes (RFC 5322, section 3.2.4): bytes other than quote and backslash, and backslashes, each
-- with the byte that it takes with it.
pub data Inner : Type 0 where
  plain : ℕ → Inner
  taken : ℕ → Inner

-- as it stands between quotes
abbrev pub inner_text : Inner → Bytes
inner_text (plain b) = b ∷ []
inner_text (taken b) = backslash ∷ b ∷ []

-- no plain byte is a quote or a backslash
abbrev pub AllInner : List Inner → Type 0
AllInner [] = Unit {0}
AllInner (plain b ∷ inner) = (is_quote b ≡ false) × (is_backslash b ≡ false) × AllInner inner
AllInner (taken b ∷ inner) = AllInner inner

-- a byte outside quotes, or a quoted string
pub data Piece : Type 0 where
  bare : ℕ → Piece
  quoted : List Inner → Piece

-- as it stands in an entry
abbrev pub piece_text : Piece → Bytes
piece_text (bare b) = b ∷ []
piece_text (quoted inner) = quote ∷ (flat_map inner_text inner ++ quote ∷ [])

-- each byte outside quotes passes the test
abbrev pub AllPieces : (ℕ → Bool) → List Piece → Type 0
AllPieces p [] = Unit {0}
AllPieces p (bare b ∷ pieces) = (is_quote b ≡ false) × (p b ≡ true) × AllPieces p pieces
AllPieces p (quoted inner ∷ pieces) = AllInner inner × AllPieces p pieces

-- quoted strings, and bytes outside quotes that pass the test, in any order
pub record IsPieces (p : ℕ → Bool) (bytes : Bytes) : Type 0 where
  pub pieces : List Piece
  pub each : AllPieces p pieces
  pub text : bytes ≡ flat_map piece_text pieces

-- ---- entries

-- no comma outside quotes
abbrev pub IsClosed : Bytes → Type 0
IsClosed entry = IsPieces (λ b. not (is_comma b)) entry

-- no comma outside quotes, and the last quote isn't closed; a backslash may be the last byte
pub record IsUnclosed (entry : Bytes) : Type 0 where
  pub front : Bytes
  pub inner : List Inner
  pub tail : Bytes
  pub front_is : IsClosed front
  pub inner_is : AllInner inner
  pub tail_is : (tail ≡ []) ⊎ (tail ≡ backslash ∷ [])
  pub text : entry ≡ front ++ quote ∷ (flat_map inner_text inner ++ tail)

-- All but the last have their quotes closed, and no comma stands outside quotes.
abbrev pub AreEntries : List Bytes → Type 0
AreEntries [] = ⊥
AreEntries (last ∷ []) = IsClosed last ⊎ IsUnclosed last
AreEntries (entry ∷ next ∷ entries) = IsClosed entry × AreEntries (next ∷ entries)

-- The text is these entries, joined by the commas that stand outside quotes.
pub record IsEntries (text : Bytes) (entries : List Bytes) : Type 0 where
  pub each : AreEntries entries
  pub text_is : text ≡ join_with_byte comma entries

-- ---- addresses

-- a byte that may stand in a phrase outside quotes
unfoldable pub is_phrase_byte : ℕ → Bool
is_phrase_byte b = not (list_any (λ mark. mark == b) (codes "\"<>,@;:()\\"))

-- What may stand before the `<` of an entry (RFC 5322, section 3.2.5, within this project's profile).
abbrev pub IsPhrase : Bytes → Type 0
IsPhrase bytes = IsPieces is_phrase_byte bytes

-- a phrase, `<`, an address with blanks round it, `>`, blanks
pub record IsAngled (entry address : Bytes) : Type 0 where
  pub phrase : Bytes
  pub inside : Bytes
  pub tail : Bytes
  pub phrase_is : IsPhrase phrase
  pub tail_is : AreBlanks tail
  pub parts : entry ≡ phrase ++ opening ∷ (inside ++ closing ∷ tail)
  pub address_is : IsAddress (trimmed inside)
  pub lower : address ≡ lowered (trimmed inside)

-- an address with blanks round it
pub record IsBare (entry address : Bytes) : Type 0 where
  pub address_is : IsAddress (trimmed entry)
  pub lower : address ≡ lowered (trimmed entry)

-- the entries are these addresses, one each, with blanks round them
abbrev pub AllBare : List Bytes → Path → Type 0
AllBare [] addresses = addresses ≡ []
AllBare (entry ∷ entries) [] = ⊥
AllBare (entry ∷ entries) (address ∷ addresses) = IsBare entry address × AllBare entries addresses

-- a `<` or a quote
abbrev pub is_mark : ℕ → Bool
is_mark b = b == opening || is_quote b

-- a `<` or a quote stands in the entry
abbrev pub has_mark : Bytes → Bool
has_mark entry = list_any is_mark entry

-- An entry with a `<` or a quote is of the second form, and another of the first: no address has either, as a law of
-- the crate says.
abbrev pub IsEntry : Bytes → Bytes → Type 0
IsEntry entry address = MatchBool (has_mark entry) (IsAngled entry address) (IsBare entry address)

-- no blank
abbrev pub is_ink : ℕ → Bool
is_ink b = not (is_blank b)

-- blanks alone, or nothing
abbrev pub is_all_blank : Bytes → Bool
is_all_blank entry = list_all is_blank entry

-- The fault of an entry that starts at a place and isn't blank.
abbrev pub EntryFault : ℕ → Bytes → ListFault → Type 0
EntryFault place entry (Syntax p) =
    (has_mark entry ≡ true) × ((address : Bytes) → IsAngled entry address → ⊥) × (p ≡ place)
EntryFault place entry (BadAddress p fault) =
    (has_mark entry ≡ false) × IsAddressFault (trimmed entry) fault
    × ((front : Bytes) × (FirstOf is_ink entry front × (p ≡ place + length front)))
EntryFault place entry Empty = ⊥
EntryFault place entry NoMemory = ⊥

-- the first of the addresses is that of the entry, and the others are right
pub record ReadsFirst (entry : Bytes) (Right : Path → Type 0) (addresses : Path) : Type 0 where
  pub address : Bytes
  pub others : Path
  pub entry_is : IsEntry entry address
  pub others_are : Right others
  pub parts : addresses ≡ address ∷ others

-- The entries that aren't blank are these addresses, in their order.
abbrev pub AllRead : List Bytes → Path → Type 0
AllRead [] addresses = addresses ≡ []
AllRead (entry ∷ entries) addresses =
    MatchBool (is_all_blank entry) (AllRead entries addresses) (ReadsFirst entry (AllRead entries) addresses)

-- The text's entries, those that aren't blank, are these addresses, one at least.
pub record IsList (text : Bytes) (addresses : Path) : Type 0 where
  pub entries : List Bytes
  pub parted : IsEntries text entries
  pub read : AllRead entries addresses
  pub some : 0 < length addresses

-- behind entries that are right or blank stands one with this fault; it starts where these and their commas end
pub record HasWrongEntry (text : Bytes) (fault : ListFault) : Type 0 where
  pub before : List Bytes
  pub wrong : Bytes
  pub after : List Bytes
  pub parted : IsEntries text (before ++ wrong ∷ after)
  pub addresses : Path
  pub read : AllRead before addresses
  pub ink : is_all_blank wrong ≡ false
  pub fault_is : EntryFault (size before) wrong fault

-- all entries are blank
pub record HasNoEntry (text : Bytes) : Type 0 where
  pub entries : List Bytes
  pub parted : IsEntries text entries
  pub blank : AllRead entries []

-- The fault of a text that is no list.
abbrev pub IsListFault : Bytes → ListFault → Type 0
IsListFault text (Syntax p) = HasWrongEntry text (Syntax p)
IsListFault text (BadAddress p fault) = HasWrongEntry text (BadAddress p fault)
IsListFault text Empty = HasNoEntry text
IsListFault text NoMemory = ⊥

-- the text is some list
abbrev pub HasList : Bytes → Type 0
HasList text = (addresses : Path) × IsList text addresses

-- the text has some fault as a list
abbrev pub HasListFault : Bytes → Type 0
HasListFault text = (fault : ListFault) × IsListFault text fault
