-- What the usual writer of CSV writes is read back, all of it.
use Rattle.std.proofs.Common.{◌≡◌, ◌<◌, ◌+◌, ◌++◌, ℕ, zero, suc, Bool, true, false, Option, Some, None, List, [], ◌∷◌, length, length-append, refl, ap, ◌∙◌, arith}
use Rattle.std.specs.List.{AllByRecursion}
use Rattle.std.specs.Option.{option_map, option_to_list}
use Rattle.std.specs.Prelude.{if◌then◌else◌}
use Rattle.csv.specs.Machine.{next_record}
use Rattle.csv.specs.Reading.{default_config, records_from, records_next, strip_bom}
use Rattle.csv.specs.Writing.{default_writer, escaped, fields_text, is_blank, read_back, row_body}
use Rattle.csv.specs.declared.parser.State.TheVariants as st
use Rattle.csv.proofs.RoundTrip.{read-write}
use Rattle.pec_types.specs.Bytes.{Bytes}
use Rattle.pec_types.specs.Moments.{is_within}
use Rattle.pec_directory.specs.Directory.{Provider}
use Rattle.pec_records.specs.declared.entries.Entry.{Entry}
use Rattle.pec_ledger.specs.Steps.{moment_of}
use Rattle.pec_ledger.specs.Trade.{Trade}
use Rattle.pec_extract.specs.LogRows.{Told, log_rows, row_with, row_within, rows_from, submits, told_by}
use Rattle.pec_extract.specs.Logs.{all_totals, rows_of_all, totals_of_all}
use Rattle.pec_extract.specs.Records.{HasFields, Record, header, record_text, records_in, records_text, totals_record}

-- a record that has a field is read as it was written
as_written : (fields : Record) → HasFields fields → read_back fields ≡ fields
as_written [] has = absurd (omega (arith, has))
as_written (field ∷ fields) has = refl

-- with more reads than there are records, all of them are found
all_read : (rows : List Record) (n : ℕ) → AllByRecursion HasFields rows → length rows < n
    → records_from default_config n st.StartRecord (records_text rows) ≡ rows
unfolding records_from record_text next_record
all_read rows zero have within = absurd (omega (arith, within))
all_read [] (suc n) have within = refl
all_read (row ∷ rows) (suc n) have within =
    ap (records_next (records_from default_config n)) (read-write row (records_text rows))
    ∙ ap (λ (r : Record). r ∷ records_from default_config n st.StartRecord (records_text rows)) (as_written row have.0)
    ∙ ap (λ (rs : List Record). row ∷ rs) (all_read rows n have.1 (omega (arith, within)))

-- the text of a record has a byte: the end of its line
some_bytes : (fields : Record) → 0 < length (record_text fields)
unfolding record_text
some_bytes fields = ended (row_body default_writer fields) _
  where
    ended : (a b : Bytes) → 0 < length (a ++ (b ++ 10 ∷ []))
    ended a b = omega (arith, length-append a (b ++ 10 ∷ []), length-append b (10 ∷ []))

-- as many bytes as records, at least
length_within : (rows : List Record) → length rows < length (records_text rows) + 1
unfolding record_text
length_within [] = omega arith
length_within (row ∷ rows) =
    omega (arith, length_within rows, length-append (record_text row) (records_text rows), some_bytes row)

-- the usual reader finds what was written behind the header
pub read_back_all : (rows : List Record) → AllByRecursion HasFields rows
    → records_in (records_text (header ∷ rows)) ≡ header ∷ rows
unfolding record_text fields_text is_blank strip_bom escaped
read_back_all rows have =
    all_read (header ∷ rows) (length (records_text (header ∷ rows)) + 1) (omega arith, have) (length_within (header ∷ rows))

-- ---- the rows of all providers, and the totals

all_and : (rows more : List Record) → AllByRecursion HasFields rows → AllByRecursion HasFields more
    → AllByRecursion HasFields (rows ++ more)
all_and [] more have also = also
all_and (row ∷ rows) more have also = (have.0, all_and rows more have.1 also)

row_has : (providers : List Provider) (me number moment : ℕ) (told : Option Told) (here : Bool) → AllByRecursion HasFields
    (option_to_list (if here then option_map (row_with providers me number moment) told else None))
row_has providers me number moment None true = tt
row_has providers me number moment None false = tt
row_has providers me number moment (Some told) false = tt
row_has providers me number moment (Some told) true = (omega arith, tt)

module _ (trade : Trade) (providers : List Provider) (from upto : ℕ) where
  rows_have : (me : ℕ) (journal : List Entry) (number submitted : ℕ) (entries : List Entry)
      → AllByRecursion HasFields (rows_from trade providers me journal from upto number submitted entries)
  rows_have me journal number submitted [] = tt
  rows_have me journal number submitted (entry ∷ others) =
      all_and (option_to_list (row_within trade providers me journal from upto number submitted entry))
      (rows_from trade providers me journal from upto (number + 1) (submitted + submits entry) others)
      (row_has providers me number (moment_of entry) (told_by trade providers me journal number submitted entry)
      (is_within from upto (moment_of entry)))
      (rows_have me journal (number + 1) (submitted + submits entry) others)

  all_have : (me : ℕ) (journals : List (List Entry))
      → AllByRecursion HasFields (rows_of_all trade providers from upto me journals)
  all_have me [] = tt
  all_have me (journal ∷ journals) =
      all_and (log_rows trade providers me journal from upto) (rows_of_all trade providers from upto (me + 1) journals)
      (rows_have me journal 0 0 journal) (all_have (me + 1) journals)

  -- each of them has a field
  pub whole_has : (journals : List (List Entry)) → AllByRecursion HasFields
      (rows_of_all trade providers from upto 0 journals ++ totals_record (all_totals trade from upto journals) ∷ [])
  whole_has journals =
      all_and (rows_of_all trade providers from upto 0 journals)
      (totals_record (all_totals trade from upto journals) ∷ []) (all_have 0 journals) (omega arith, tt)

-- each pair is known as delivered, as refused, or as neither
pub totals_sum : (trade : Trade) (from upto me : ℕ) (journals : List (List Entry))
    → (totals_of_all trade from upto me journals).accepted
    ≡ (totals_of_all trade from upto me journals).delivered + (totals_of_all trade from upto me journals).refused
    + (totals_of_all trade from upto me journals).pending
totals_sum trade from upto me [] = refl
totals_sum trade from upto me (journal ∷ journals) =
    let others = totals_sum trade from upto (me + 1) journals in
    omega (arith, others)
