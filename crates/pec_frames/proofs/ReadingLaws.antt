-- A text has one reading, and `framed_of` gives it.
use Rattle.std.proofs.Common.{◌≡◌, ◌⊎◌, inl, inr, ℕ, ◌+◌, ◌≤◌, [], ◌++◌, Bool, true, false, Option, None, Some, Result, Ok, Err, length, drop, refl, ap, sym, subst, ◌∙◌, arith}
use Rattle.std.specs.List.{slice_split}
use Rattle.std.specs.Prelude.{nat_lt}
use Rattle.std.proofs.lemmas.Bool.{ltb-false, ltb-true}
use Rattle.pec_types.specs.Answers.{Gives, ReadsExactly, TellsExactly, seen_as, told_is_read}
use Rattle.pec_types.specs.Bytes.{Bytes, Path, after_front}
use Rattle.pec_types.specs.Results.{◌>>=◌}
use Rattle.pec_frames.specs.Frames.{AreEntries, HasLine, IsBadPath, IsFrame, IsFrameFault, message_at, path_end, path_front, size_before}
use Rattle.pec_frames.specs.FramesReading.{entries_from, framed_of, is_comma, path_of}
use Rattle.pec_frames.specs.declared.TheConstants.{FRAME_LIMIT}
use Rattle.pec_frames.specs.declared.faults.FrameFault.{FrameFault}
use Rattle.pec_frames.specs.declared.faults.FrameFault.TheVariants.{TooLong, NoPath, BadPath, NoMemory}
use Rattle.pec_frames.proofs.LineLemmas.{HasNoFeed, IsParted, front_again, front_says, line_read, no_line_read, parted_or_not, too_long_read}
use Rattle.pec_frames.proofs.PathLemmas.{AddressesAreTold, IsWhole, IsWrong, entries_of, path_reads, path_stops, split_is_entries, walked}

abbrev sent : Path × ℕ → Result (Path × ℕ) FrameFault
sent read = Ok read

abbrev refused : FrameFault → Result (Path × ℕ) FrameFault
refused fault = Err fault

pub ok_is : (x y : Path × ℕ) → sent x ≡ sent y → x ≡ y
ok_is x y e = cc

err_is : (x y : FrameFault) → refused x ≡ refused y → x ≡ y
err_is x y e = cc

module _ (told : AddressesAreTold) where
  -- ---- what a text is, is told

  pub frame_is_told : (text : Bytes) (path : Path) (place : ℕ) → IsFrame text path place → framed_of text ≡ Ok (path, place)
  unfolding path_of
  frame_is_told text path place is =
      let found : path_of (length path_front) is.line ≡ Ok path =
      ap (entries_from (length path_front) []) (split_is_entries is.line is.entries is.parted)
      ∙ path_reads told (length path_front) [] is.entries path (omega (arith, is.few)) is.read
      in line_read text is.line is.message is.has_line
      ∙ ap (λ answer. answer >>= λ read. Ok (read, length path_front + (length is.line + 1) + 1)) found
      ∙ ap (λ at. Ok (path, at)) (omega (arith, is.begins))

  bad_is_told : (text : Bytes) (place : ℕ) → IsBadPath text place → framed_of text ≡ Err (BadPath place)
  unfolding path_of
  bad_is_told text place is =
      let found : path_of (length path_front) is.line ≡ Err (BadPath place) =
      ap (entries_from (length path_front) []) (split_is_entries is.line _ is.parted)
      ∙ path_stops told (length path_front) [] is.earlier is.wrong is.later is.right (omega (arith, is.few)) (from_none is.bad)
      ∙ ap (λ at. Err (BadPath at)) (sym is.at)
      in line_read text is.line is.message is.has_line
      ∙ ap (λ answer. answer >>= λ read. Ok (read, length path_front + (length is.line + 1) + 1)) found
    where
      from_none : {P : Type 0} {n m : ℕ} → (n ≡ m) ⊎ P → (0 + n ≡ m) ⊎ P
      from_none (inl full) = inl (omega (arith, full))
      from_none (inr not) = inr not

  fault_is_told : (text : Bytes) (fault : FrameFault) → IsFrameFault text fault → framed_of text ≡ Err fault
  fault_is_told text TooLong is = too_long_read text is
  fault_is_told text NoPath is = no_line_read text is.0 is.1
  fault_is_told text (BadPath place) is = bad_is_told text place is
  fault_is_told text NoMemory is = absurd is

  -- ---- each text is a frame or has a fault

  abbrev HasReading : Bytes → Type 0
  HasReading text = ((path : Path) × (place : ℕ) × IsFrame text path place) ⊎ ((fault : FrameFault) × IsFrameFault text fault)

  path_reading : (text line message : Bytes) → HasLine text line message → IsWhole told 0 (slice_split is_comma line) ⊎ IsWrong told 0 (slice_split is_comma line)
      → HasReading text
  path_reading text line message has (inl whole) = inl (
    whole.path,
    message_at line,
    record {
      line = line;
      message = message;
      entries = slice_split is_comma line;
      has_line = has;
      parted = entries_of line;
      few = omega (arith, whole.few);
      read = whole.read;
      begins = refl;
    },
  )
  path_reading text line message has (inr stops) = inr (
    BadPath (length path_front + size_before stops.earlier),
    record {
      line = line;
      message = message;
      earlier = stops.earlier;
      wrong = stops.wrong;
      later = stops.later;
      has_line = has;
      parted = subst (AreEntries line) stops.are (entries_of line);
      right = stops.right;
      few = omega (arith, stops.few);
      bad = without_none stops.bad;
      at = refl;
    },
  )
    where
      without_none : {P : Type 0} {n m : ℕ} → (0 + n ≡ m) ⊎ P → (n ≡ m) ⊎ P
      without_none (inl full) = inl (omega (arith, full))
      without_none (inr not) = inr not

  line_reading : (text rest : Bytes) → length text ≤ FRAME_LIMIT → text ≡ path_front ++ rest → IsParted rest ⊎ HasNoFeed rest → HasReading text
  line_reading text rest short is (inl parted) =
      let has : HasLine text parted.line parted.message = record { short = short; parts = is ∙ ap (λ xs. path_front ++ xs) parted.parts; first = parted.first }
      in path_reading text parted.line parted.message has (walked told 0 (slice_split is_comma parted.line) (omega arith))
  line_reading text rest short is (inr none) = inr (
    NoPath,
    (
      short,
      λ line message e.
          none line message (ap (drop (length path_front)) (sym is ∙ e)),
    ),
  )

  front_reading : (text : Bytes) → length text ≤ FRAME_LIMIT → (found : Option Bytes) → after_front path_front text ≡ found → HasReading text
  front_reading text short None e = inr (
    NoPath,
    (
      short,
      λ line message is.
          let some = ap (after_front path_front) is ∙ front_again path_front (line ++ (path_end ++ message)) in let never : ⊥ = cc in never,
    ),
  )
  front_reading text short (Some rest) e = line_reading text rest short (front_says path_front text rest e) (parted_or_not rest)

  size_reading : (text : Bytes) (t : Bool) → nat_lt FRAME_LIMIT (length text) ≡ t → HasReading text
  size_reading text true e = inr (TooLong, ltb-true FRAME_LIMIT (length text) e)
  size_reading text false e = front_reading text (ltb-false FRAME_LIMIT (length text) e) (after_front path_front text) refl

  reading : (text : Bytes) → HasReading text
  reading text = size_reading text (nat_lt FRAME_LIMIT (length text)) refl

  -- ---- what is told, the text is

  told_frame : (text : Bytes) (read : Path × ℕ) → framed_of text ≡ Ok read → HasReading text → IsFrame text read.0 read.1
  told_frame text read e (inl known) =
      subst (λ (v : Path × ℕ). IsFrame text v.0 v.1) (ok_is (known.0, known.1) read (sym (frame_is_told text known.0 known.1 known.2) ∙ e)) known.2
  told_frame text read e (inr known) = let other = fault_is_told text known.0 known.1 in absurd cc

  told_fault : (text : Bytes) (fault : FrameFault) → framed_of text ≡ Err fault → HasReading text → IsFrameFault text fault
  told_fault text fault e (inl known) = let other = frame_is_told text known.0 known.1 known.2 in absurd cc
  told_fault text fault e (inr known) =
      subst (λ (f : FrameFault). IsFrameFault text f) (err_is known.0 fault (sym (fault_is_told text known.0 known.1) ∙ e)) known.1

  pub frame_told : (text : Bytes) → TellsExactly (λ (read : Path × ℕ). IsFrame text read.0 read.1) (IsFrameFault text) (framed_of text)
  frame_told text = record {
    value = λ read. (λ e. told_frame text read e (reading text), λ is. frame_is_told text read.0 read.1 is);
    fault = λ fault. (λ e. told_fault text fault e (reading text), fault_is_told text fault);
  }

-- what is answered as `framed_of` tells is read exactly
pub frame_reads : {X : Type 0} (seen : X → Path × ℕ) (text : Bytes) (answer : Result X FrameFault)
    → TellsExactly (λ (read : Path × ℕ). IsFrame text read.0 read.1) (IsFrameFault text) (framed_of text) → Gives NoMemory seen answer (framed_of text)
    → ReadsExactly (λ (read : Path × ℕ). IsFrame text read.0 read.1) (IsFrameFault text) NoMemory (seen_as seen answer)
frame_reads seen text (Ok read) exactly same = told_is_read _ _ NoMemory (Ok (seen read)) (framed_of text) exactly same
frame_reads seen text (Err fault) exactly same = told_is_read _ _ NoMemory (Err fault) (framed_of text) exactly same
