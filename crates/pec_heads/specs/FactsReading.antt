-- The facts of a head, as the code finds them. `FactsOfHeads` says what they are. The headline is `facts_of`.
use Rattle.std.specs.Prelude.{◌==◌, List, [], ◌∷◌, ◌++◌, if◌then◌else◌, length, codes, Option, Some, None}
use Rattle.std.specs.List.{list_any}
use Rattle.std.specs.Option.{option_and_then}
use Rattle.std.specs.Result.{result_ok}
use Rattle.std.specs.Str.{bytes_eq}
use Rattle.pec_types.specs.Bytes.{Bytes, Path}
use Rattle.pec_types.specs.Options.{◌>>=◌}
use Rattle.pec_types.specs.declared.messages.Facts.{Facts}
use Rattle.pec_types.specs.declared.messages.Recipient.{Recipient}
use Rattle.pec_types.specs.declared.messages.Class.{Class}
use Rattle.pec_heads.specs.Heads.{NamedValue, values_of, joined_values}
use Rattle.pec_heads.specs.FactsOfHeads.{recipient, recipients_of, reply_of, text_of, wish_of}
use Rattle.pec_heads.specs.ListReading.{list_of}

-- the addresses of the fields of a name, where they are a list
abbrev pub listed : Bytes → List NamedValue → Option Path
listed name fields = result_ok (list_of (joined_values name fields))

-- the one address of a list of one
abbrev pub only_one : Path → Option Bytes
only_one [] = None
only_one (address ∷ []) = Some address
only_one (address ∷ next ∷ addresses) = None

-- the one address of the one `From`
abbrev pub sender_of : List NamedValue → Option Bytes
sender_of fields = if length (values_of (codes "From") fields) == 1
    then option_and_then only_one (listed (codes "From") fields) else None

-- the addresses of `Cc`, none where there is no such field
abbrev pub copies_of : List NamedValue → Option Path
copies_of fields = if length (values_of (codes "Cc") fields) == 0 then Some [] else listed (codes "Cc") fields

-- the facts of fields whose addresses are these
abbrev pub facts_from : List NamedValue → Bytes → Path → Path → Facts
facts_from fields sender to copies = record {
  sender = sender;
  recipients = recipients_of to copies;
  wish = wish_of fields;
  subject = text_of (codes "Subject") fields;
  reference = text_of (codes "Message-ID") fields;
  reply = reply_of sender fields;
}

-- The facts of a head, where it has any.
unfoldable pub facts_of : List NamedValue → Option Facts
facts_of fields = do
  sender ← sender_of fields
  to ← listed (codes "To") fields
  copies ← copies_of fields
  Some (facts_from fields sender to copies)

-- recipients with one more, unless its address is there
abbrev pub with_recipient : Class → List Recipient → Bytes → List Recipient
with_recipient class all address =
    if list_any (λ r. bytes_eq r.address address) all then all else all ++ recipient class address ∷ []

-- recipients with those addresses that aren't there, one after another
abbrev pub with_recipients : Class → List Recipient → Path → List Recipient
with_recipients class all [] = all
with_recipients class all (address ∷ addresses) = with_recipients class (with_recipient class all address) addresses
