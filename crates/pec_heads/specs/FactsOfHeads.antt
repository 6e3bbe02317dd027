-- The facts of a message's head: its sender, its recipients and the texts that receipts repeat (RFC 6109, section 3.1,
-- within this project's profile). The headline is `IsFacts`, at the end.
use Rattle.std.specs.Prelude.{◌≡◌, ℕ, ◌==◌, nat_le, List, [], ◌∷◌, ◌++◌, map, Bool, not, ◌&&◌, ◌⊎◌, if◌then◌else◌, length, take, codes, slice_get, Option, Some, None, ◌≢◌}
use Rattle.std.specs.List.{list_any}
use Rattle.std.specs.Option.{option_and_then}
use Rattle.std.specs.Str.{bytes_eq, str_eq_ignore_ascii_case}
use Rattle.pec_types.specs.Bytes.{Bytes, Path, tab, space}
use Rattle.pec_types.specs.Text.{is_unprintable}
use Rattle.pec_types.specs.declared.messages.Facts.{Facts}
use Rattle.pec_types.specs.declared.messages.Recipient.{Recipient}
use Rattle.pec_types.specs.declared.messages.Class.{Class}
use Rattle.pec_types.specs.declared.messages.Class.TheVariants.{Primary, Copy}
use Rattle.pec_types.specs.declared.messages.Wish.{Wish}
use Rattle.pec_types.specs.declared.messages.Wish.TheVariants.{Full, Brief, Concise}
use Rattle.pec_heads.specs.Bytes.{trimmed}
use Rattle.pec_heads.specs.Heads.{NamedValue, values_of, joined_values}
use Rattle.pec_heads.specs.Lists.{IsList, is_all_blank}
use Rattle.pec_heads.specs.declared.TheConstants.{TEXT_LIMIT}

-- the value of the first field of a name
abbrev pub first_value : Bytes → List NamedValue → Option Bytes
first_value name fields = slice_get (values_of name fields) 0

-- ---- texts

abbrev pub question_mark : ℕ
question_mark = 63

-- a tab becomes a space, and each other byte outside 0x20 to 0x7e a `?`
abbrev pub printed_byte : ℕ → ℕ
printed_byte b = if b == tab then space else (if is_unprintable b then question_mark else b)

-- a value made printable
abbrev pub printed : Bytes → Bytes
printed value = map printed_byte value

-- nothing is no text
abbrev pub unless_nothing : Bytes → Option Bytes
unless_nothing text = if length text == 0 then None else Some text

-- the first 900 bytes
unfoldable pub front_of : Bytes → Bytes
front_of text = take TEXT_LIMIT text

-- a value as a subject or a reference: the first 900 bytes of what is printed, without blanks at its ends; nothing is
-- absent
unfoldable pub short_text : Bytes → Option Bytes
short_text value = unless_nothing (trimmed (front_of (printed value)))

-- the subject or the reference of a head: that of the first field of a name
abbrev pub text_of : Bytes → List NamedValue → Option Bytes
text_of name fields = option_and_then short_text (first_value name fields)

-- a value that can be a reply: not blank, at most 900 bytes
abbrev pub may_reply : Bytes → Bool
may_reply value = not (is_all_blank value) && nat_le (length value) TEXT_LIMIT

-- the reply of the first `Reply-To`, or the sender
abbrev pub reply_or : Bytes → Option Bytes → Bytes
reply_or sender None = sender
reply_or sender (Some value) = if may_reply value then printed value else sender

-- where answers go: the first `Reply-To`, where it isn't blank and has at most 900 bytes, and otherwise the sender
abbrev pub reply_of : Bytes → List NamedValue → Bytes
reply_of sender fields = reply_or sender (first_value (codes "Reply-To") fields)

-- ---- wish

-- what a value asks back, in whatever case its letters are; everything else asks for all
abbrev pub wish_in : Option Bytes → Wish
wish_in None = Full
wish_in (Some value) =
    if str_eq_ignore_ascii_case value (codes "breve") then Brief
    else (if str_eq_ignore_ascii_case value (codes "sintetica") then Concise else Full)

-- what the first `X-TipoRicevuta` asks back
abbrev pub wish_of : List NamedValue → Wish
wish_of fields = wish_in (first_value (codes "X-TipoRicevuta") fields)

-- ---- recipients

-- the address stands among these
abbrev pub has_address : Path → Bytes → Bool
has_address addresses address = list_any (λ other. bytes_eq other address) addresses

-- those of the addresses that stand neither among those before nor further left
abbrev pub fresh : Path → Path → Path
fresh before [] = []
fresh before (address ∷ addresses) =
    if has_address before address then fresh before addresses else address ∷ fresh (before ++ address ∷ []) addresses

-- a recipient of a class
abbrev pub recipient : Class → Bytes → Recipient
recipient class address = record { address = address; class = class }

-- the addresses of `To`, each once, and then those of `Cc` that don't stand in `To`, each once
unfoldable pub recipients_of : Path → Path → List Recipient
recipients_of to copies = map (recipient Primary) (fresh [] to) ++ map (recipient Copy) (fresh to copies)

-- ---- facts

-- The addresses of `Cc`: none where there is no such field, otherwise its list.
abbrev pub AreCopies : List NamedValue → Path → Type 0
AreCopies fields copies =
    ((values_of (codes "Cc") fields ≡ []) × (copies ≡ []))
    ⊎ ((values_of (codes "Cc") fields ≢ []) × IsList (joined_values (codes "Cc") fields) copies)

-- The head has exactly one `From` field, which holds exactly one address, its `To` fields are a list and so are its
-- `Cc` fields, where there are any; and the facts are these.
pub record IsFacts (fields : List NamedValue) (facts : Facts) : Type 0 where
  pub from : Bytes
  pub to : Path
  pub copies : Path
  pub one_from : values_of (codes "From") fields ≡ from ∷ []
  pub one_sender : IsList from (facts.sender ∷ [])
  pub to_is : IsList (joined_values (codes "To") fields) to
  pub copies_are : AreCopies fields copies
  pub recipients_are : facts.recipients ≡ recipients_of to copies
  pub wish_is : facts.wish ≡ wish_of fields
  pub subject_is : facts.subject ≡ text_of (codes "Subject") fields
  pub reference_is : facts.reference ≡ text_of (codes "Message-ID") fields
  pub reply_is : facts.reply ≡ reply_of facts.sender fields

-- the head has no facts
abbrev pub HasNoFacts : List NamedValue → Type 0
HasNoFacts fields = (facts : Facts) → IsFacts fields facts → ⊥

-- What is read of a head: its facts, or that it has none.
abbrev pub AreFacts : List NamedValue → Option Facts → Type 0
AreFacts fields None = HasNoFacts fields
AreFacts fields (Some facts) = IsFacts fields facts
