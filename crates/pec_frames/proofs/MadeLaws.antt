-- A frame that was made is read as what it was made of: no byte of an address is a comma or a carriage return.
use Rattle.std.proofs.Common.{◌≡◌, ◌≢◌, ℕ, zero, suc, ◌+◌, [], ◌∷◌, ◌++◌, true, Option, None, Some, length, get_or, drop, refl, ap, sym, ◌∙◌, arith, append_assoc, length-append}
use Rattle.std.specs.List.{AllByRecursion}
use Rattle.std.proofs.Math.Seq.{drop-append_seam}
use Rattle.pec_types.specs.Address.{IsLowerAddress, is_atom_byte}
use Rattle.pec_types.specs.AddressReading.{in_label, step_of}
use Rattle.pec_types.specs.AddressSteps.{LowerAddressesPass, further, passes, passes_behind}
use Rattle.pec_types.specs.Bytes.{Bytes, Path, carriage_return, comma}
use Rattle.pec_types.specs.declared.scanning.Stand.{Stand}
use Rattle.pec_types.specs.declared.scanning.Stand.TheVariants.{AtomBegins, InAtom, LabelBegins, BehindLetter, BehindHyphen}
use Rattle.pec_frames.specs.Frames.{AreReadAs, HasFrame, HasNoEnd, IsFrame, frame_text, message_at, path_end, path_front, path_line, with_path}
use Rattle.pec_frames.specs.FramesReading.{framed_of}
use Rattle.pec_frames.proofs.LineLemmas.{nothing}
use Rattle.pec_frames.proofs.PathLemmas.{AddressesAreTold}
use Rattle.pec_frames.proofs.ReadingLaws.{frame_is_told, ok_is}

-- ---- what no byte of an address is

abbrev Avoids : ℕ → Bytes → Type 0
Avoids x bytes = AllByRecursion (λ b. b ≢ x) bytes

comma_stops : (stand : Stand) → further stand comma ≡ None
unfolding further step_of in_label is_atom_byte
comma_stops AtomBegins = refl
comma_stops InAtom = refl
comma_stops LabelBegins = refl
comma_stops (BehindLetter room) = refl
comma_stops (BehindHyphen room) = refl

return_stops : (stand : Stand) → further stand carriage_return ≡ None
unfolding further step_of in_label is_atom_byte
return_stops AtomBegins = refl
return_stops InAtom = refl
return_stops LabelBegins = refl
return_stops (BehindLetter room) = refl
return_stops (BehindHyphen room) = refl

module _ (x : ℕ) (stops : (stand : Stand) → further stand x ≡ None) where
  avoid_step : (stand : Stand) (b : ℕ) (bs : Bytes) (next : Option Stand) → further stand b ≡ next
      → passes_behind next (λ behind. passes behind bs) ≡ true → ((behind : Stand) → passes behind bs ≡ true → Avoids x bs) → Avoids x (b ∷ bs)
  avoid_step stand b bs None e passed later = absurd cc
  avoid_step stand b bs (Some behind) e passed later =
      (λ same. let none = sym (ap (further stand) same ∙ stops stand) ∙ e in let never : ⊥ = cc in never, later behind passed)

  passing_avoids : (bytes : Bytes) (stand : Stand) → passes stand bytes ≡ true → Avoids x bytes
  passing_avoids [] stand passed = tt
  passing_avoids (b ∷ bs) stand passed = avoid_step stand b bs (further stand b) refl passed (passing_avoids bs)

  each_avoids : LowerAddressesPass → (path : Path) → AllByRecursion IsLowerAddress path → AllByRecursion (Avoids x) path
  each_avoids pass [] lower = tt
  each_avoids pass (address ∷ path) lower = (passing_avoids address AtomBegins ((pass address).0 lower.0).0, each_avoids pass path lower.1)

  both_avoid : (xs ys : Bytes) → Avoids x xs → Avoids x ys → Avoids x (xs ++ ys)
  both_avoid [] ys h k = k
  both_avoid (b ∷ bs) ys h k = (h.0, both_avoid bs ys h.1 k)

  line_avoids : (comma ≡ x → ⊥) → (path : Path) → AllByRecursion (Avoids x) path → Avoids x (path_line path)
  line_avoids no_comma [] each = tt
  line_avoids no_comma (address ∷ []) each = each.0
  line_avoids no_comma (address ∷ next ∷ path) each =
      both_avoid address (comma ∷ path_line (next ∷ path)) each.0 (no_comma, line_avoids no_comma (next ∷ path) each.1)

no_end : (line : Bytes) → Avoids carriage_return line → HasNoEnd line
no_end [] avoids at e = nothing at e
no_end (b ∷ bs) avoids zero e = avoids.0 (ap (λ (l : Bytes). get_or l 0 0) e)
no_end (b ∷ bs) avoids (suc at) e = no_end bs avoids.1 at e

-- ---- it is read

read_so : (path : Path) → AllByRecursion IsLowerAddress path → AreReadAs path path
read_so [] lower = tt
read_so (address ∷ path) lower = ((lower.0.address, sym lower.0.lower), read_so path lower.1)

pub made_is_frame : LowerAddressesPass → (path : Path) (message : Bytes) → HasFrame path message
    → IsFrame (frame_text path message) path (message_at (path_line path))
made_is_frame pass path message has = record {
  line = path_line path;
  message = message;
  entries = path;
  has_line = record {
    short = has.short;
    parts = refl;
    first = no_end (path_line path)
        (line_avoids carriage_return return_stops (λ e. absurd (omega (arith, e))) path (each_avoids carriage_return return_stops pass path has.lower));
  };
  parted = record {
    some = λ e. let none = ap length e in omega (arith, none, has.some);
    apart = each_avoids comma comma_stops pass path has.lower;
    joined = refl;
  };
  few = has.few;
  read = read_so path has.lower;
  begins = refl;
}

pub message_behind : (line message : Bytes) → drop (message_at line) (with_path line message) ≡ message
message_behind line message =
    let front = path_front ++ (line ++ path_end)
    in let size : message_at line ≡ length front = sym (length-append path_front (line ++ path_end) ∙ ap (λ n. length path_front + n) (length-append line path_end))
    in let text : with_path line message ≡ front ++ message =
    ap (λ xs. path_front ++ xs) (sym (append_assoc line path_end message)) ∙ sym (append_assoc path_front (line ++ path_end) message)
    in ap (λ n. drop n (with_path line message)) size ∙ ap (drop (length front)) text ∙ drop-append_seam front message

pub made_of_one : AddressesAreTold → LowerAddressesPass → (path other : Path) (message content : Bytes) → HasFrame path message → HasFrame other content
    → frame_text path message ≡ frame_text other content → (path ≡ other) × (message ≡ content)
made_of_one told pass path other message content has has_other same =
    let first = frame_is_told told (frame_text path message) path (message_at (path_line path)) (made_is_frame pass path message has)
    in let second = frame_is_told told (frame_text other content) other (message_at (path_line other)) (made_is_frame pass other content has_other)
    in let read = ok_is (path, message_at (path_line path)) (other, message_at (path_line other)) (sym first ∙ ap framed_of same ∙ second)
    in (
      ap (λ (v : Path × ℕ). v.0) read,
      sym (message_behind (path_line path) message)
          ∙ ap (λ (v : Path × ℕ). drop v.1 (frame_text path message)) read
          ∙ ap (drop (message_at (path_line other))) same
          ∙ message_behind (path_line other) content,
    )
