-- The records of a text of LDIF (RFC 2849, content records): `IsLdif`, and `IsLdifFault` where a text is none, at the
-- end. Records are read in order, each first by its lines, and then by the tests on it. This project's profile.
use Rattle.std.specs.Prelude.{◌≡◌, ◌⊎◌, ℕ, Bool, true, false, not, ◌&&◌, List, [], ◌∷◌, ◌++◌, length, codes}
use Rattle.std.specs.List.{AllByRecursion, list_all, list_any, slice_split}
use Rattle.std.specs.Str.{bytes_eq, str_eq_ignore_ascii_case}
use Rattle.pec_types.specs.Bytes.{Bytes}
use Rattle.pec_types.specs.Tables.{IsFirst, NoneApplies}
use Rattle.pec_ldif.specs.Attributes.{Attribute, IsAttribute, IsAttributeFault, is_space}
use Rattle.pec_ldif.specs.Lines.{Line, is_empty, lines_of}
use Rattle.pec_ldif.specs.declared.faults.LdifFault.{LdifFault}
use Rattle.pec_ldif.specs.declared.faults.LdifFault.TheVariants.{Syntax, NoDn, Change, Orphan}

-- A record: the place of its first line, in bytes from 0, and its attributes.
pub record Entry : Type 0 where
  pub place : ℕ
  pub attributes : List Attribute

-- ---- what a record is of

-- the attribute has this name, without regard to case
abbrev pub has_name : Bytes → Attribute → Bool
has_name name attribute = str_eq_ignore_ascii_case attribute.name name

-- the attribute says that the record is of this class
abbrev pub is_class : Bytes → Attribute → Bool
is_class class attribute = has_name (codes "objectClass") attribute && bytes_eq attribute.value class

-- the record is a provider
unfoldable pub is_provider : Entry → Bool
is_provider entry = list_any (λ attribute. is_class (codes "pecProvider") attribute) entry.attributes

-- the record is an account; one that is a provider too is no account
unfoldable pub is_account : Entry → Bool
is_account entry =
    not (is_provider entry) && list_any (λ attribute. is_class (codes "pecAccount") attribute) entry.attributes

-- ---- tests on a record

abbrev pub begins_with_dn : List Attribute → Bool
begins_with_dn [] = false
begins_with_dn (first ∷ rest) = has_name (codes "dn") first

-- the record says a change
abbrev pub says_change : Entry → Bool
says_change entry = list_any (λ attribute. has_name (codes "changetype") attribute) entry.attributes

-- it is an account, and no record before it is a provider
abbrev pub is_orphan : List Entry → Entry → Bool
is_orphan earlier entry = is_account entry && not (list_any is_provider earlier)

-- a row of a table of tests: the test, and the fault where it is met
abbrev pub Row : Type 0
Row = Bool × LdifFault

-- its test is met
abbrev pub IsMet : Row → Type 0
IsMet row = row.0 ≡ true

-- the tests on a record behind these, in their order
abbrev pub rows_of : List Entry → Entry → List Row
rows_of earlier entry =
    (not (begins_with_dn entry.attributes), NoDn entry.place)
    ∷ (says_change entry, Change entry.place)
    ∷ (is_orphan earlier entry, Orphan entry.place)
    ∷ []

-- ---- the lines of a record

-- as many attributes as lines, each of its line
abbrev pub AreAttributes : List Line → List Attribute → Type 0
AreAttributes [] [] = Unit {0}
AreAttributes [] (attribute ∷ attributes) = ⊥
AreAttributes (line ∷ lines) [] = ⊥
AreAttributes (line ∷ lines) (attribute ∷ attributes) = IsAttribute line attribute × AreAttributes lines attributes

-- one of these lines has the fault, and each before it says an attribute
abbrev pub AttributesStop : List Line → LdifFault → Type 0
AttributesStop [] fault = ⊥
AttributesStop (line ∷ lines) fault =
    IsAttributeFault line fault ⊎ ((attribute : Attribute) × IsAttribute line attribute × AttributesStop lines fault)

-- the record of a line and those behind it, before any test
abbrev pub SayEntry : Line → List Line → Entry → Type 0
SayEntry first lines entry = (entry.place ≡ first.place) × AreAttributes (first ∷ lines) entry.attributes

-- they are the record, which meets no test
abbrev pub IsEntry : List Entry → Line → List Line → Entry → Type 0
IsEntry earlier first lines entry = SayEntry first lines entry × NoneApplies IsMet (rows_of earlier entry)

-- The fault of a record's lines: that of the first line that has one, or else of the first test that is met.
abbrev pub IsEntryFault : List Entry → Line → List Line → LdifFault → Type 0
IsEntryFault earlier first lines fault =
    AttributesStop (first ∷ lines) fault
    ⊎ ((entry : Entry) × (row : Row) × SayEntry first lines entry × IsFirst IsMet (rows_of earlier entry) row × (row.1 ≡ fault))

-- ---- records

-- the line is empty: it parts records
abbrev pub is_parting : Line → Bool
is_parting line = is_empty line.bytes

-- the lines between empty ones are these records, behind these; between two empty lines with none there is no record
abbrev pub AreEntries : List Entry → List (List Line) → List Entry → Type 0
AreEntries earlier [] [] = Unit {0}
AreEntries earlier [] (entry ∷ entries) = ⊥
AreEntries earlier ([] ∷ groups) entries = AreEntries earlier groups entries
AreEntries earlier ((first ∷ lines) ∷ groups) [] = ⊥
AreEntries earlier ((first ∷ lines) ∷ groups) (entry ∷ entries) =
    IsEntry earlier first lines entry × AreEntries (earlier ++ entry ∷ []) groups entries

-- one of these records has the fault, and each before it has none
abbrev pub EntriesStop : List Entry → List (List Line) → LdifFault → Type 0
EntriesStop earlier [] fault = ⊥
EntriesStop earlier ([] ∷ groups) fault = EntriesStop earlier groups fault
EntriesStop earlier ((first ∷ lines) ∷ groups) fault =
    IsEntryFault earlier first lines fault
    ⊎ ((entry : Entry) × IsEntry earlier first lines entry × EntriesStop (earlier ++ entry ∷ []) groups fault)

-- ---- the whole

-- the line is `version:`, any spaces, and `1`
pub record IsVersion (line : Line) : Type 0 where
  pub spaces : Bytes
  pub each : list_all is_space spaces ≡ true
  pub parts : line.bytes ≡ codes "version:" ++ (spaces ++ codes "1")

-- of these lines this is the first that isn't empty, and these are behind it
pub record IsFirstSaid (lines : List Line) (first : Line) (behind : List Line) : Type 0 where
  pub blank : List Line
  pub each : AllByRecursion (λ line. is_parting line ≡ true) blank
  pub some : is_parting first ≡ false
  pub parts : lines ≡ blank ++ first ∷ behind

-- The text is LDIF of these records: its first line that isn't empty is the version, and behind it are the records.
pub record IsLdif (text : Bytes) (entries : List Entry) : Type 0 where
  pub version : Line
  pub behind : List Line
  pub first : IsFirstSaid (lines_of text) version behind
  pub is_version : IsVersion version
  pub entries_are : AreEntries [] (slice_split is_parting behind) entries

-- the version is missing at the end
abbrev pub HasNoLine : Bytes → LdifFault → Type 0
HasNoLine text fault = AllByRecursion (λ line. is_parting line ≡ true) (lines_of text) × (fault ≡ Syntax (length text))

-- the first line is another
abbrev pub HasOtherLine : Bytes → LdifFault → Type 0
HasOtherLine text fault =
    (first : Line) × (behind : List Line) × IsFirstSaid (lines_of text) first behind × (IsVersion first → ⊥)
    × (fault ≡ Syntax first.place)

-- The fault of a text: that its first line isn't the version, or that of the first record that has one.
abbrev pub IsLdifFault : Bytes → LdifFault → Type 0
IsLdifFault text fault =
    HasNoLine text fault
    ⊎ (HasOtherLine text fault
    ⊎ ((version : Line) × (behind : List Line) × IsFirstSaid (lines_of text) version behind × IsVersion version
    × EntriesStop [] (slice_split is_parting behind) fault))
