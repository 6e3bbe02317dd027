-- What contracts see of this crate's private types.
use Rattle.std.specs.Prelude.{◌≡◌, ℕ, ◌≤◌, List, [], ◌∷◌, length, map}
use Rattle.std.specs.BTreeSet.{contains_by}
use Rattle.std.specs.Cmp.Lexicographic.{slice_cmp}
use Rattle.std.specs.List.{list_any}
use Rattle.std.specs.Ordering.{nat_cmp}
use Rattle.std.specs.Str.{bytes_eq}
use Rattle.pec_types.specs.Bytes.{Bytes}
use Rattle.pec_heads.specs.Bytes.{part_of}
use Rattle.pec_heads.specs.Heads.{NamedValue, cut}
use Rattle.pec_heads.specs.HeadReading.{Role, ends, more, opens}
use Rattle.pec_heads.specs.declared.fields.Fields.{Fields}
use Rattle.pec_heads.specs.declared.fields.Start.{Start}
use Rattle.pec_heads.specs.declared.recipients.Gathered.{Gathered}
use Rattle.pec_heads.specs.declared.reading.Line.{Line}
use Rattle.pec_heads.specs.declared.reading.Line.TheVariants as lines

-- where a field ends: where the first behind it starts, or where the bytes end
abbrev pub end_before : List Start → ℕ → ℕ
end_before [] end = end
end_before (s ∷ behind) end = s.name

-- the field that starts there, before those behind it, its value not cut
abbrev pub field_at : Bytes → Start → List Start → NamedValue
field_at bytes s behind =
    record { name = part_of s.name s.value bytes; value = part_of s.value (end_before behind (length bytes)) bytes }

-- the fields that start there
abbrev pub fields_at : Bytes → List Start → List NamedValue
fields_at bytes [] = []
fields_at bytes (s ∷ behind) = field_at bytes s behind ∷ fields_at bytes behind

-- what a store holds, the values not cut
abbrev pub raw_fields : Fields → List NamedValue
raw_fields fields = fields_at fields.bytes.items fields.starts.items

-- what is seen of a store: the values cut
abbrev pub fields_shown : Fields → List NamedValue
fields_shown fields = map cut (raw_fields fields)

-- each starts within so many bytes
abbrev pub AllStartWithin : ℕ → List Start → Type 0
AllStartWithin size [] = Unit {0}
AllStartWithin size (s ∷ behind) = (s.name ≤ size) × (s.value ≤ size) × AllStartWithin size behind

-- each field of the store starts within its bytes
abbrev pub AreStored : Fields → Type 0
AreStored fields = AllStartWithin (length fields.bytes.items) fields.starts.items

-- the set has exactly the addresses of the recipients
abbrev pub AreKnown : Gathered → Type 0
AreKnown gathered = (address : Bytes)
    → contains_by (λ key. slice_cmp nat_cmp address key.items) gathered.known
    ≡ list_any (λ r. bytes_eq r.address address) gathered.all.items

-- what is seen of a line's role
abbrev pub role_shown : Line → Role
role_shown lines.Empty = ends
role_shown (lines.More bytes) = more bytes.now
role_shown (lines.Field name rest) = opens name.now rest.now
