-- Records that are written, each behind an empty line, are read as they are.
use Rattle.std.proofs.Common.{◌≡◌, ℕ, Bool, true, false, not, ◌&&◌, ◌||◌, cond, List, [], ◌∷◌, ◌++◌, codes, length, map, Ok, refl, sym, ◌∙◌, ap, append-nil, append_assoc}
use Rattle.std.proofs.Math.Bool.{or-false}
use Rattle.std.proofs.lemmas.Bool.{false≢true}
use Rattle.std.proofs.lemmas.Grind.{flat_map-append}
use Rattle.std.proofs.lemmas.List.Folds.{list_any-append}
use Rattle.std.specs.List.{AllByRecursion, flat_map, list_any, onto_first, slice_split}
use Rattle.pec_types.specs.Bytes.{Bytes, after_front, line_feed}
use Rattle.pec_types.specs.Results.{◌>>=◌}
use Rattle.pec_ldif.specs.Attributes.{Attribute, is_name}
use Rattle.pec_ldif.specs.Lines.{Line, is_empty, lines_of}
use Rattle.pec_ldif.specs.Records.{Entry, begins_with_dn, is_account, is_parting, is_provider, says_change}
use Rattle.pec_ldif.specs.RecordsReading.{attributes_from, behind_first, behind_version, entries_from, entry_of, is_version, ldif_of_text, skip_parting, tested, with_group}
use Rattle.pec_ldif.specs.Writing.{attribute_line, line_said, record_text, value_said}
use Rattle.pec_ldif.proofs.WrittenLines.{AreWhole, ended, lines_again, placed_lines, their_bytes}
use Rattle.pec_ldif.proofs.WrittenValues.{IsWritable, attribute_again, line_whole}

-- ---- lines of records

-- an empty line and those of a record
abbrev pub record_lines : List Attribute → List Bytes
record_lines attributes = [] ∷ map line_said attributes

abbrev pub all_lines : List (List Attribute) → List Bytes
all_lines records = flat_map record_lines records

lines_text : (attributes : List Attribute) → flat_map attribute_line attributes ≡ flat_map ended (map line_said attributes)
lines_text [] = refl
lines_text (attribute ∷ attributes) = ap (λ rest. attribute_line attribute ++ rest) (lines_text attributes)

pub records_text : (records : List (List Attribute)) → flat_map record_text records ≡ flat_map ended (all_lines records)
records_text [] = refl
records_text (one ∷ records) =
    ap (λ first. (line_feed ∷ first) ++ flat_map record_text records) (lines_text one)
    ∙ ap (λ rest. (line_feed ∷ flat_map ended (map line_said one)) ++ rest) (records_text records)
    ∙ sym (flat_map-append ended (record_lines one) (all_lines records))

abbrev pub AreWritable : List Attribute → Type 0
AreWritable attributes = AllByRecursion IsWritable attributes

abbrev pub AllWritable : List (List Attribute) → Type 0
AllWritable records = AllByRecursion AreWritable records

more_whole : (xs ys : List Bytes) → AreWhole xs → AreWhole ys → AreWhole (xs ++ ys)
more_whole [] ys a b = b
more_whole (x ∷ xs) ys a b = (a.0, more_whole xs ys a.1 b)

said_whole : (attributes : List Attribute) → AreWritable attributes → AreWhole (map line_said attributes)
said_whole [] may = tt
said_whole (attribute ∷ attributes) may = (line_whole attribute may.0, said_whole attributes may.1)

pub all_whole : (records : List (List Attribute)) → AllWritable records → AreWhole (all_lines records)
all_whole [] may = tt
all_whole (one ∷ records) may =
    (record { plain = refl; own = refl; said = refl }, more_whole (map line_said one) (all_lines records) (said_whole one may.0) (all_whole records may.1))

-- ---- groups

abbrev bytes_of : List Line → List Bytes
bytes_of lines = map (λ (line : Line). line.bytes) lines

onto_so : (line : Line) (groups : List (List Line)) → map bytes_of (onto_first line groups) ≡ onto_first line.bytes (map bytes_of groups)
onto_so line [] = refl
onto_so line (group ∷ groups) = refl

-- lines are cut as their bytes are
cut_so : (lines : List Line) → map bytes_of (slice_split is_parting lines) ≡ slice_split is_empty (bytes_of lines)
cut_so [] = refl
cut_so (line ∷ lines) = by_test (is_empty line.bytes) (cut_so lines)
  where
    by_test : (t : Bool) → map bytes_of (slice_split is_parting lines) ≡ slice_split is_empty (bytes_of lines)
        → map bytes_of (cond t ([] ∷ slice_split is_parting lines) (onto_first line (slice_split is_parting lines)))
        ≡ cond t ([] ∷ slice_split is_empty (bytes_of lines)) (onto_first line.bytes (slice_split is_empty (bytes_of lines)))
    by_test true more = ap (λ gs. [] ∷ gs) more
    by_test false more = onto_so line (slice_split is_parting lines) ∙ ap (onto_first line.bytes) more

abbrev said_groups : List (List Attribute) → List (List Bytes)
said_groups records = map (λ attributes. map line_said attributes) records

named_some : (name rest : Bytes) → is_name name ≡ true → is_empty (name ++ rest) ≡ false
named_some [] rest named = absurd (false≢true named)
named_some (b ∷ bs) rest named = refl

is_some : (attribute : Attribute) → IsWritable attribute → is_empty (line_said attribute) ≡ false
is_some attribute may = named_some attribute.name (value_said attribute.value) may.name

cut_front : (xs more : List Bytes) (groups : List (List Bytes)) → AllByRecursion (λ x. is_empty x ≡ false) xs → slice_split is_empty more ≡ [] ∷ groups
    → slice_split is_empty (xs ++ more) ≡ xs ∷ groups
cut_front [] more groups some cut = cut
cut_front (x ∷ xs) more groups some cut =
    ap (λ t. cond t ([] ∷ slice_split is_empty (xs ++ more)) (onto_first x (slice_split is_empty (xs ++ more)))) some.0
    ∙ ap (onto_first x) (cut_front xs more groups some.1 cut)

some_said : (attributes : List Attribute) → AreWritable attributes → AllByRecursion (λ x. is_empty x ≡ false) (map line_said attributes)
some_said [] may = tt
some_said (attribute ∷ attributes) may = (is_some attribute may.0, some_said attributes may.1)

cut_records : (records : List (List Attribute)) → AllWritable records → slice_split is_empty (all_lines records) ≡ [] ∷ said_groups records
cut_records [] may = refl
cut_records (one ∷ records) may = ap (λ gs. [] ∷ gs) (cut_front (map line_said one) (all_lines records) (said_groups records) (some_said one may.0) (cut_records records may.1))

-- ---- records

-- one of the records is a provider
abbrev pub provides : List Attribute → Bool
provides attributes = is_provider (record { place = 0; attributes = attributes })

abbrev pub hosts : List Attribute → Bool
hosts attributes = is_account (record { place = 0; attributes = attributes })

-- the record meets no test, behind others of which one is a provider or none is
pub record IsGood (has : Bool) (attributes : List Attribute) : Type 0 where
  pub may : AreWritable attributes
  pub dn : begins_with_dn attributes ≡ true
  pub change : says_change (record { place = 0; attributes = attributes }) ≡ false
  pub own : (hosts attributes && not has) ≡ false

abbrev pub AreGood : Bool → List (List Attribute) → Type 0
AreGood has [] = Unit {0}
AreGood has (one ∷ records) = IsGood has one × AreGood (has || provides one) records

read_attributes : (before : List Attribute) (lines : List Line) (attributes : List Attribute) → AreWritable attributes → bytes_of lines ≡ map line_said attributes
    → attributes_from before lines ≡ Ok (before ++ attributes)
read_attributes before [] [] may is = ap Ok (sym (append-nil before))
read_attributes before [] (attribute ∷ attributes) may is = let no : ⊥ = cc in absurd no
read_attributes before (line ∷ lines) [] may is = let no : ⊥ = cc in absurd no
read_attributes before (line ∷ lines) (attribute ∷ attributes) may is =
    let first : line.bytes ≡ line_said attribute = cc in
    let rest : bytes_of lines ≡ map line_said attributes = cc in
    ap (λ r. r >>= (λ next. attributes_from (before ++ next ∷ []) lines)) (attribute_again line attribute may.0 first)
    ∙ read_attributes (before ++ attribute ∷ []) lines attributes may.1 rest
    ∙ ap Ok (append_assoc before (attribute ∷ []) attributes)

test_entry : (earlier : List Entry) (place : ℕ) (attributes : List Attribute) (has : Bool) → IsGood has attributes → list_any is_provider earlier ≡ has
    → tested earlier (record { place = place; attributes = attributes }) ≡ Ok (record { place = place; attributes = attributes })
unfolding tested is_provider is_account
test_entry earlier place attributes has good same = rw (good.dn, good.change, same, good.own) refl

abbrev Reads : List Entry → List (List Line) → List (List Attribute) → Type 0
Reads earlier groups records = (entries : List Entry) × (entries_from earlier groups ≡ Ok (earlier ++ entries)) × (map (λ (entry : Entry). entry.attributes) entries ≡ records)

group_so : (has : Bool) (earlier : List Entry) (line : Line) (lines : List Line) (one : List Attribute) → IsGood has one → list_any is_provider earlier ≡ has
    → bytes_of (line ∷ lines) ≡ map line_said one → with_group earlier (line ∷ lines) ≡ Ok (earlier ++ record { place = line.place; attributes = one } ∷ [])
unfolding entry_of
group_so has earlier line lines one good same said =
    ap (λ r. (r >>= (λ attributes. tested earlier (record { place = line.place; attributes = attributes }))) >>= (λ entry. Ok (earlier ++ entry ∷ [])))
    (read_attributes [] (line ∷ lines) one good.may said)
    ∙ ap (λ r. r >>= (λ entry. Ok (earlier ++ entry ∷ []))) (test_entry earlier line.place one has good same)

providers_so : (has : Bool) (earlier : List Entry) (place : ℕ) (one : List Attribute) → list_any is_provider earlier ≡ has
    → list_any is_provider (earlier ++ record { place = place; attributes = one } ∷ []) ≡ (has || provides one)
unfolding is_provider
providers_so has earlier place one same =
    list_any-append is_provider earlier (record { place = place; attributes = one } ∷ [])
    ∙ ap (λ t. t || (provides one || false)) same ∙ ap (λ t. has || t) (or-false (provides one))

read_records : (has : Bool) (earlier : List Entry) (groups : List (List Line)) (records : List (List Attribute)) → AreGood has records
    → list_any is_provider earlier ≡ has → map bytes_of groups ≡ said_groups records → Reads earlier groups records
read_records has earlier [] [] good same is = ([], ap Ok (sym (append-nil earlier)), refl)
read_records has earlier [] (one ∷ records) good same is = let no : ⊥ = cc in absurd no
read_records has earlier (group ∷ groups) [] good same is = let no : ⊥ = cc in absurd no
read_records has earlier (group ∷ groups) (one ∷ records) good same is =
    let first : bytes_of group ≡ map line_said one = cc in
    let rest : map bytes_of groups ≡ said_groups records = cc in
    by_lines group first (λ others known. read_records (has || provides one) others groups records good.1 known rest)
  where
    no_record : (attributes : List Attribute) → IsGood has attributes → [] ≡ map line_said attributes → ⊥
    no_record [] g said = false≢true g.dn
    no_record (attribute ∷ attributes) g said = cc

    by_lines : (lines : List Line) → bytes_of lines ≡ map line_said one
        → ((others : List Entry) → list_any is_provider others ≡ (has || provides one) → Reads others groups records) → Reads earlier (lines ∷ groups) (one ∷ records)
    by_lines [] said further = absurd (no_record one good.0 said)
    by_lines (line ∷ lines) said further =
        let entry : Entry = record { place = line.place; attributes = one } in
        let read : with_group earlier (line ∷ lines) ≡ Ok (earlier ++ entry ∷ []) = group_so has earlier line lines one good.0 same said in
        let more = further (earlier ++ entry ∷ []) (providers_so has earlier line.place one same) in (
          entry ∷ more.0,
          ap (λ r. r >>= (λ es. entries_from es groups)) read ∙ more.1 ∙ ap Ok (append_assoc earlier (entry ∷ []) more.0),
          ap (λ es. one ∷ es) more.2,
        )

-- the first group is empty
read_groups : (groups : List (List Line)) (records : List (List Attribute)) → AreGood false records → map bytes_of groups ≡ [] ∷ said_groups records → Reads [] groups records
read_groups [] records good is = let no : ⊥ = cc in absurd no
read_groups ([] ∷ groups) records good is =
    let rest : map bytes_of groups ≡ said_groups records = cc in
    read_records false [] groups records good refl rest
read_groups ((line ∷ lines) ∷ groups) records good is = let no : ⊥ = cc in absurd no

-- ---- the whole

first_version : (size : ℕ) (behind : List Line) (version : Line) → version.bytes ≡ codes "version: 1" → behind_version size (version ∷ behind) ≡ Ok behind
unfolding behind_version is_version after_front
first_version size behind version is = ap (λ bytes. behind_first size (skip_parting (record { place = version.place; bytes = bytes } ∷ behind))) is

-- The records of the text are the records that were written.
pub text_again : (records : List (List Attribute)) → AllWritable records → AreGood false records
    → (entries : List Entry) × (ldif_of_text (codes "version: 1\n" ++ flat_map record_text records) ≡ Ok entries) × (map (λ (entry : Entry). entry.attributes) entries ≡ records)
unfolding ldif_of_text
text_again records may good =
    let text = codes "version: 1\n" ++ flat_map record_text records in
    let version : Line = record { place = 0; bytes = codes "version: 1" } in
    let lines = all_lines records in
    let behind = placed_lines (length (ended (codes "version: 1"))) lines in
    let are : lines_of text ≡ version ∷ behind =
    ap (λ rest. lines_of (codes "version: 1\n" ++ rest)) (records_text records)
    ∙ lines_again (codes "version: 1" ∷ lines) (record { plain = refl; own = refl; said = refl }, all_whole records may) in
    let cut : map bytes_of (slice_split is_parting behind) ≡ [] ∷ said_groups records =
    cut_so behind ∙ ap (slice_split is_empty) (their_bytes (length (ended (codes "version: 1"))) lines) ∙ cut_records records may in
    let read = read_groups (slice_split is_parting behind) records good cut in (
      read.0,
      ap (λ ls. behind_version (length text) ls >>= (λ rest. entries_from [] (slice_split is_parting rest))) are
          ∙ ap (λ r. r >>= (λ rest. entries_from [] (slice_split is_parting rest))) (first_version (length text) behind version refl)
          ∙ read.1,
      read.2,
    )
