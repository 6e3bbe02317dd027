-- What is read of a frame is within the program's limits.
use Rattle.std.proofs.Common.{◌≡◌, ℕ, ◌-◌, List, [], ◌∷◌, length, drop, take, refl, sym, subst, arith, length-drop}
use Rattle.std.proofs.lemmas.List.{take_rest}
use Rattle.pec_types.specs.Bytes.{Bytes, Path}
use Rattle.pec_frames.specs.Frames.{AreReadAs, IsFrame}
use Rattle.pec_reception.specs.Views.{IsWithin}

same_length : (entries : List Bytes) (path : Path) → AreReadAs entries path → length path ≡ length entries
same_length [] [] read = refl
same_length [] (address ∷ path) read = absurd read
same_length (entry ∷ entries) [] read = absurd read
same_length (entry ∷ entries) (address ∷ path) read = omega (arith, same_length entries path read.1)

is_within : (text : Bytes) (path : Path) (place : ℕ) → IsFrame text path place
    → IsWithin (record { path = path; message = drop place text })
is_within text path place frame = record {
  path = omega (arith, same_length frame.entries path frame.read, frame.few);
  message = omega (arith, length-drop place text, frame.has_line.short);
}

pub reads_within : (text : Bytes) (path : Path) (place : ℕ) → IsFrame text path place
    → IsWithin (record { path = path; message = take (length text - place) (drop place text) })
reads_within text path place frame =
    subst (λ (message : Bytes). IsWithin (record { path = path; message = message })) (sym (take_rest text place))
    (is_within text path place frame)
