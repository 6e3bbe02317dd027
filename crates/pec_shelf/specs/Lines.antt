-- Books, marks and due envelopes over the rows that a shelf keeps: what the code follows. They are those of pec_ledger
-- where the homes that are kept are the trade's.
use Rattle.std.specs.Prelude.{ℕ, ◌+◌, ◌==◌, Bool, ◌&&◌, not, List, [], ◌∷◌, ◌++◌, map, Option, is_some, is_none, if◌then◌else◌}
use Rattle.std.specs.List.{filter_map, list_any}
use Rattle.std.specs.Option.{option_map}
use Rattle.std.specs.Str.{bytes_eq}
use Rattle.pec_types.specs.Bytes.{Bytes}
use Rattle.pec_types.specs.LimitsReading.{due_of}
use Rattle.pec_types.specs.Message.{Id}
use Rattle.pec_types.specs.declared.letters.Letter.{Letter}
use Rattle.pec_types.specs.declared.letters.Letter.TheVariants as letters
use Rattle.pec_types.specs.declared.messages.BookLine.{BookLine}
use Rattle.pec_ledger.specs.Books.{outcome_in}
use Rattle.pec_ledger.specs.Half.{Charge, Half, Mark}
use Rattle.pec_ledger.specs.Lookups.{charged_of, known_of, notice_of, warning_of}
use Rattle.pec_ledger.specs.Marks.{marked}
use Rattle.pec_ledger.specs.Pairs.{id_of, pair_of}
use Rattle.pec_shelf.specs.Sides.{Kept}
use Rattle.pec_shelf.specs.declared.certified.Certified.{Certified}

-- ---- books

-- the line of a certified recipient of a message that was accepted at a moment
abbrev pub line_at : Half → Id → ℕ → Certified → BookLine
line_at half id accepted certified = record {
  id = id;
  recipient = certified.address;
  class = certified.class;
  accepted = accepted;
  charged = option_map (λ (charge : Charge). charge.moment) (charged_of half id certified.home);
  warned = option_map (λ (mark : Mark). mark.moment) (warning_of half (pair_of id certified.address));
  noticed = option_map (λ (mark : Mark). mark.moment) (notice_of half (pair_of id certified.address));
  outcome = option_map outcome_in (known_of half (pair_of id certified.address));
}

abbrev pub lines_at : Half → Bytes → Id → Kept → List BookLine
lines_at half account id row =
    if bytes_eq row.message.sender account then map (line_at half id row.message.moment) row.certified else []

-- the lines of a message with its number
abbrev pub lines_by : ℕ → Half → ℕ × Kept → List BookLine
lines_by me half numbered = map (line_at half (id_of me numbered.0) numbered.1.message.moment) numbered.1.certified

abbrev pub book_rows : ℕ → Half → Bytes → ℕ → List Kept → List BookLine
book_rows me half account number [] = []
book_rows me half account number (row ∷ rows) =
    lines_at half account (id_of me number) row ++ book_rows me half account (number + 1) rows

-- ---- marks

abbrev pub mark_at : Half → ℕ → Id → ℕ → Certified → Option Mark
mark_at half now id accepted certified = marked (pair_of id certified.address) now (due_of
    (record {
      at = now;
      accepted = accepted;
      charged = is_some (charged_of half id certified.home);
      warned = is_some (warning_of half (pair_of id certified.address));
      noticed = is_some (notice_of half (pair_of id certified.address));
      known = is_some (known_of half (pair_of id certified.address));
    }))

abbrev pub marks_at : Half → ℕ → Id → Kept → List Mark
marks_at half now id row = filter_map (mark_at half now id row.message.moment) row.certified

abbrev pub marks_rows : ℕ → Half → ℕ → ℕ → List Kept → List Mark
marks_rows me half now number [] = []
marks_rows me half now number (row ∷ rows) = marks_at half now (id_of me number) row ++ marks_rows me half now (number + 1) rows

-- ---- envelopes

abbrev pub is_at : ℕ → Certified → Bool
is_at to certified = to == certified.home

-- this is the recipient's address
abbrev pub is_for : Bytes → Certified → Bool
is_for address certified = bytes_eq address certified.address

-- an outcome of a recipient there is known
abbrev pub is_heard : Half → Id → ℕ → Certified → Bool
is_heard half id to certified = is_at to certified && is_some (known_of half (pair_of id certified.address))

abbrev pub awaits_at : Half → ℕ → Id → List Certified → Bool
awaits_at half to id certified =
    list_any (is_at to) certified && (is_none (charged_of half id to) && not (list_any (is_heard half id to) certified))

abbrev pub envelope_at : Half → ℕ → Id → Kept → List Letter
envelope_at half to id row = if awaits_at half to id row.certified then letters.Envelope id to ∷ [] else []

abbrev pub envelope_rows : ℕ → Half → ℕ → ℕ → List Kept → List Letter
envelope_rows me half to number [] = []
envelope_rows me half to number (row ∷ rows) = envelope_at half to (id_of me number) row ++ envelope_rows me half to (number + 1) rows
