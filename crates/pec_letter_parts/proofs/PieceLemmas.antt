-- The pieces of parts take the boundaries that the parts take: the head of each part is whole lines, and none of these takes any.
use Rattle.std.proofs.Common.{◌≡◌, ℕ, ◌+◌, List, [], ◌∷◌, ◌++◌, Bool, false, ◌||◌, Option, None, Some, length, drop, refl, ap, sym, ◌∙◌, append_assoc}
use Rattle.std.proofs.Math.Seq.{drop-append-add}
use Rattle.std.proofs.lemmas.List.Folds.{list_any-append}
use Rattle.std.specs.List.{list_any}
use Rattle.pec_types.specs.Bytes.{Bytes}
use Rattle.pec_heads.specs.Lines.{last_piece, size, whole_lines}
use Rattle.pec_bodies.specs.Composing.{IsLeastFree, all_lines, begins, boundary_number, boundary_taken}
use Rattle.pec_bodies.specs.Marks.{dashed}
use Rattle.pec_letter_parts.specs.Contents.{Contents, optional_part, optional_pieces, part_text, parts_of, pieces_of}
use Rattle.pec_letter_parts.specs.declared.contents.PartKind.{PartKind}
use Rattle.pec_letter_parts.specs.declared.contents.PartKind.TheVariants.{Text, Message, Certificate}

-- what the law of sizes says of lines one behind another
abbrev pub Several : Type 0
Several = (lines others : List Bytes) → size (lines ++ others) ≡ size lines + size others

head_lines : PartKind → List Bytes
head_lines kind = whole_lines (part_text kind [])

lines_then : (kind : PartKind) (body : Bytes) → whole_lines (part_text kind body) ≡ head_lines kind ++ whole_lines body
unfolding head_lines
lines_then Text body = refl
lines_then Message body = refl
lines_then Certificate body = refl

pub head_then : (kind : PartKind) (body : Bytes) → part_text kind body ≡ part_text kind [] ++ body
head_then Text body = refl
head_then Message body = refl
head_then Certificate body = refl

head_size : (kind : PartKind) → size (head_lines kind) ≡ length (part_text kind [])
unfolding head_lines
head_size Text = refl
head_size Message = refl
head_size Certificate = refl

last_then : Several → (kind : PartKind) (body : Bytes) → last_piece (part_text kind body) ≡ last_piece body
unfolding last_piece
last_then several kind body =
    ap (λ lines. drop (size lines) (part_text kind body)) (lines_then kind body)
    ∙ ap (λ n. drop n (part_text kind body)) (several (head_lines kind) (whole_lines body) ∙ ap (λ n. n + size (whole_lines body)) (head_size kind))
    ∙ ap (drop (length (part_text kind []) + size (whole_lines body))) (head_then kind body)
    ∙ drop-append-add (part_text kind []) body (size (whole_lines body))

-- a line of the text begins with two dashes and the boundary
abbrev takes : Bytes → Bytes → Bool
takes boundary text = list_any (begins (dashed boundary)) (all_lines text)

head_free : (boundary : Bytes) (kind : PartKind) → list_any (begins (dashed boundary)) (head_lines kind) ≡ false
unfolding head_lines
head_free boundary Text = refl
head_free boundary Message = refl
head_free boundary Certificate = refl

part_alike : Several → (boundary : Bytes) (kind : PartKind) (body : Bytes) → takes boundary (part_text kind body) ≡ takes boundary body
part_alike several boundary kind body =
    ap (λ lines. list_any (begins (dashed boundary)) (lines ++ last_piece (part_text kind body) ∷ [])) (lines_then kind body)
    ∙ ap (λ piece. list_any (begins (dashed boundary)) ((head_lines kind ++ whole_lines body) ++ piece ∷ [])) (last_then several kind body)
    ∙ ap (list_any (begins (dashed boundary))) (append_assoc (head_lines kind) (whole_lines body) (last_piece body ∷ []))
    ∙ list_any-append (begins (dashed boundary)) (head_lines kind) (all_lines body)
    ∙ ap (λ t. t || takes boundary body) (head_free boundary kind)

nothing_free : (boundary : Bytes) → takes boundary [] ≡ false
unfolding last_piece
nothing_free boundary = refl

optional_alike : Several → (boundary : Bytes) (kind : PartKind) (body : Option Bytes) → boundary_taken boundary (optional_pieces kind body) ≡ boundary_taken boundary (optional_part kind body)
optional_alike several boundary kind None = refl
optional_alike several boundary kind (Some body) =
    ap (λ t. t || (takes boundary body || false)) (part_alike several boundary kind [] ∙ nothing_free boundary)
    ∙ ap (λ t. t || false) (sym (part_alike several boundary kind body))

taken_append : (boundary : Bytes) (parts others : List Bytes) → boundary_taken boundary (parts ++ others) ≡ (boundary_taken boundary parts || boundary_taken boundary others)
taken_append boundary parts others = list_any-append (takes boundary) parts others

taken_alike : Several → (boundary : Bytes) (c : Contents) → boundary_taken boundary (pieces_of c) ≡ boundary_taken boundary (parts_of c)
unfolding parts_of
taken_alike several boundary c =
    taken_append boundary (optional_pieces Text (Some c.text)) (optional_pieces Message c.message ++ optional_pieces Certificate c.certificate)
    ∙ ap (λ t. t || boundary_taken boundary (optional_pieces Message c.message ++ optional_pieces Certificate c.certificate)) (optional_alike several boundary Text (Some c.text))
    ∙ ap (λ t. boundary_taken boundary (optional_part Text (Some c.text)) || t)
    (taken_append boundary (optional_pieces Message c.message) (optional_pieces Certificate c.certificate)
    ∙ ap (λ t. t || boundary_taken boundary (optional_pieces Certificate c.certificate)) (optional_alike several boundary Message c.message)
    ∙ ap (λ t. boundary_taken boundary (optional_part Message c.message) || t) (optional_alike several boundary Certificate c.certificate)
    ∙ sym (taken_append boundary (optional_part Message c.message) (optional_part Certificate c.certificate)))
    ∙ sym (taken_append boundary (optional_part Text (Some c.text)) (optional_part Message c.message ++ optional_part Certificate c.certificate))

-- The least number that no piece takes is the least that no part takes.
pub free_alike : Several → (c : Contents) (n : ℕ) → IsLeastFree (pieces_of c) n → IsLeastFree (parts_of c) n
free_alike several c n free = record {
  fits = free.fits;
  free = sym (taken_alike several (boundary_number n) c) ∙ free.free;
  least = λ k below. sym (taken_alike several (boundary_number k) c) ∙ free.least k below;
}
