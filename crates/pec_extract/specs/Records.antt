-- The log extract as records of CSV (RFC 4180, as the crate csv writes and reads it with its usual settings): a header,
-- rows, and the totals. `record_text` is what is written of a record, `records_in` is what is read of a text. This
-- project's profile.
use Rattle.std.specs.Prelude.{◌<◌, List, [], ◌∷◌, length, codes, decimal}
use Rattle.std.specs.List.{flat_map}
use Rattle.csv.specs.Reading.{default_config, records, strip_bom}
use Rattle.csv.specs.Writing.{default_writer, row_text}
use Rattle.pec_types.specs.Bytes.{Bytes}
use Rattle.pec_extract.specs.declared.writing.Totals.{Totals}

-- A record: its fields.
abbrev pub Record : Type 0
Record = List Bytes

-- a record that has a field
abbrev pub HasFields : Record → Type 0
HasFields fields = 0 < length fields

-- The text of a record: its fields with a comma between each two, those that hold a comma, a quote or an end of a line in
-- quotes, and a line feed.
unfoldable pub record_text : Record → Bytes
record_text fields = row_text default_writer fields

-- records, one after the other
abbrev pub records_text : List Record → Bytes
records_text rows = flat_map record_text rows

-- The records that the usual reader finds in a text, the header among them.
abbrev pub records_in : Bytes → List Record
records_in text = records default_config (strip_bom text)

-- The first record.
abbrev pub header : Record
header =
    codes "provider" ∷ codes "entry" ∷ codes "moment" ∷ codes "event" ∷ codes "id" ∷ codes "sender" ∷ codes "recipients"
    ∷ codes "subject" ∷ codes "detail" ∷ []

-- The last record: the pairs that were accepted, and how many of them are known as delivered, as refused, and as neither.
abbrev pub totals_record : Totals → Record
totals_record totals =
    codes "totals" ∷ decimal totals.accepted ∷ decimal totals.delivered ∷ decimal totals.refused ∷ decimal totals.pending ∷ []
    ∷ [] ∷ [] ∷ [] ∷ []
