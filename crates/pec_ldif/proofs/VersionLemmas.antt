-- The first line of a text that isn't empty, and the version that it has to be.
use Rattle.std.proofs.Common.{◌≡◌, Bool, true, false, cond, List, [], ◌∷◌, ◌++◌, Option, None, Some, length, take, drop, refl, sym, ◌∙◌, ap}
use Rattle.std.proofs.Math.Seq.{drop-append_seam, take-append_seam}
use Rattle.std.proofs.lemmas.Bool.{false≢true}
use Rattle.std.proofs.lemmas.List.{take-append-drop}
use Rattle.std.proofs.lemmas.Slice.Eq.{bytes_eq-Decides}
use Rattle.std.specs.List.{AllByRecursion}
use Rattle.std.specs.Prelude.{codes}
use Rattle.std.specs.Str.{bytes_eq}
use Rattle.pec_types.specs.Bytes.{Bytes, after_front}
use Rattle.pec_ldif.specs.Lines.{Line}
use Rattle.pec_ldif.specs.Records.{IsFirstSaid, IsVersion, is_parting}
use Rattle.pec_ldif.specs.RecordsReading.{is_one, is_version, skip_parting}
use Rattle.pec_ldif.specs.AttributesReading.{skip_spaces}
use Rattle.pec_ldif.proofs.ValueLemmas.{skip_again, skipped}

-- ---- what stands behind a front

rest_is : (x y : Bytes) → Some x ≡ Some y → x ≡ y
rest_is x y e = cc

front_step : (front text rest : Bytes) (t : Bool) → bytes_eq (take (length front) text) front ≡ t
    → cond t (Some (drop (length front) text)) None ≡ Some rest → text ≡ front ++ rest
front_step front text rest true e h =
    let same : take (length front) text ≡ front = (bytes_eq-Decides (take (length front) text) front).0 e in
    let left : drop (length front) text ≡ rest = rest_is (drop (length front) text) rest h in
    sym (take-append-drop (length front) text) ∙ (ap (λ xs. xs ++ drop (length front) text) same ∙ ap (λ xs. front ++ xs) left)
front_step front text rest false e h = absurd cc

front_says : (front text rest : Bytes) → after_front front text ≡ Some rest → text ≡ front ++ rest
unfolding after_front
front_says front text rest h = front_step front text rest (bytes_eq (take (length front) text) front) refl h

front_again : (front rest : Bytes) → after_front front (front ++ rest) ≡ Some rest
unfolding after_front
front_again front rest =
    ap (λ t. cond t (Some (drop (length front) (front ++ rest))) None)
    ((bytes_eq-Decides (take (length front) (front ++ rest)) front).1 (take-append_seam front rest))
    ∙ ap (λ xs. Some xs) (drop-append_seam front rest)

-- ---- the version

version_says : (line : Line) (found : Option Bytes) → after_front (codes "version:") line.bytes ≡ found → is_one found ≡ true → IsVersion line
version_says line None e is = absurd (false≢true is)
version_says line (Some rest) e is =
    let spaced = skipped rest in
    let one : skip_spaces rest ≡ codes "1" = (bytes_eq-Decides (skip_spaces rest) (codes "1")).0 is in
    record {
      spaces = spaced.spaces;
      each = spaced.each;
      parts =
          front_says (codes "version:") line.bytes rest e
          ∙ ap (λ xs. codes "version:" ++ xs) (spaced.parts ∙ ap (λ xs. spaced.spaces ++ xs) one);
    }

pub version_is : (line : Line) → is_version line ≡ true → IsVersion line
unfolding is_version
version_is line is = version_says line (after_front (codes "version:") line.bytes) refl is

pub version_again : (line : Line) → IsVersion line → is_version line ≡ true
unfolding is_version
version_again line is =
    ap is_one (ap (after_front (codes "version:")) is.parts ∙ front_again (codes "version:") (is.spaces ++ codes "1"))
    ∙ (bytes_eq-Decides (skip_spaces (is.spaces ++ codes "1")) (codes "1")).1 (skip_again is.spaces (codes "1") is.each refl)

-- ---- the first line that isn't empty

abbrev AreBlank : List Line → Type 0
AreBlank lines = AllByRecursion (λ line. is_parting line ≡ true) lines

-- the lines from the first that isn't empty are these
abbrev pub Skips : List Line → List Line → Type 0
Skips lines [] = AreBlank lines
Skips lines (first ∷ behind) = IsFirstSaid lines first behind

skips_more : (line : Line) (lines rest : List Line) → is_parting line ≡ true → Skips lines rest → Skips (line ∷ lines) rest
skips_more line lines [] e is = (e, is)
skips_more line lines (first ∷ behind) e is =
    record { blank = line ∷ is.blank; each = (e, is.each); some = is.some; parts = ap (λ ls. line ∷ ls) is.parts }

skips_by : (line : Line) (lines : List Line) (t : Bool) → is_parting line ≡ t → Skips lines (skip_parting lines)
    → Skips (line ∷ lines) (cond t (skip_parting lines) (line ∷ lines))
skips_by line lines true e is = skips_more line lines (skip_parting lines) e is
skips_by line lines false e is = record { blank = []; each = tt; some = e; parts = refl }

pub skips : (lines : List Line) → Skips lines (skip_parting lines)
skips [] = tt
skips (line ∷ lines) = skips_by line lines (is_parting line) refl (skips lines)

pub skip_blank : (lines : List Line) → AreBlank lines → skip_parting lines ≡ []
skip_blank [] each = refl
skip_blank (line ∷ lines) each =
    ap (λ t. cond t (skip_parting lines) (line ∷ lines)) each.0 ∙ skip_blank lines each.1

skip_before : (blank : List Line) (first : Line) (behind : List Line) → AreBlank blank → is_parting first ≡ false
    → skip_parting (blank ++ first ∷ behind) ≡ first ∷ behind
skip_before [] first behind each some = ap (λ t. cond t (skip_parting behind) (first ∷ behind)) some
skip_before (line ∷ lines) first behind each some =
    ap (λ t. cond t (skip_parting (lines ++ first ∷ behind)) (line ∷ (lines ++ first ∷ behind))) each.0
    ∙ skip_before lines first behind each.1 some

pub skip_said : (lines : List Line) (first : Line) (behind : List Line) → IsFirstSaid lines first behind → skip_parting lines ≡ first ∷ behind
skip_said lines first behind is = ap skip_parting is.parts ∙ skip_before is.blank first behind is.each is.some
