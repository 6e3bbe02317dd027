-- One line more of the directory.
use Rattle.std.proofs.Common.{◌≡◌, ◌+◌, ◌<◌, Bool, true, false, cond, List, [], ◌∷◌, ◌++◌, length, Option, Some, None, option_map, IfSome, codes, refl, sym, ◌∙◌, ap, subst, arith, append_assoc, append-nil, length-append}
use Rattle.std.proofs.lemmas.Slice.Eq.{bytes_eq-Decides}
use Rattle.pec_types.specs.Bytes.{Bytes}
use Rattle.pec_input.specs.Finding.{IsLong, lines_left}
use Rattle.pec_input.specs.Lines.{content_of, raw_lines}
use Rattle.pec_input.specs.Opening.{parts_left}
use Rattle.pec_input.specs.Parts.{Parts, is_mark, onto_directory, parts_of}
use Rattle.pec_input.specs.declared.opening.TheConstants.{LONGEST_DIRECTORY}
use Rattle.pec_input.proofs.LineLemmas.{said_size}

onto_twice : (front line : Bytes) (parts : Parts)
    → onto_directory front (onto_directory line parts) ≡ onto_directory (front ++ line) parts
onto_twice front line parts =
    ap (λ d. record { directory = d; script = parts.script }) (sym (append_assoc front line parts.directory))

pub parts_line : (line : Bytes) (lines : List Bytes) (x : Bool) → is_mark line ≡ x
    → parts_of (line ∷ lines) ≡ cond x (record { directory = []; script = Some lines })
    (onto_directory line (parts_of lines))
parts_line line lines x is =
    ap (λ m. cond m (record { directory = []; script = Some lines }) (onto_directory line (parts_of lines))) is

-- the parts of lines, behind these bytes of the directory
abbrev pub onto_left : Bytes → Option (List Bytes) → Option Parts
onto_left directory lines = option_map (λ parts. onto_directory directory parts) (option_map parts_of lines)

pub directory_line : (start before after : Option Bytes) (directory line more : Bytes)
    → parts_left start ≡ onto_left directory (lines_left before)
    → lines_left before ≡ option_map (λ rest. line ∷ raw_lines rest) after → is_mark line ≡ false
    → more ≡ directory ++ line
    → parts_left start ≡ onto_left more (lines_left after)
directory_line start before None directory line more so_far taken mark added = so_far ∙ ap (onto_left directory) taken
directory_line start before (Some rest) directory line more so_far taken mark added =
    so_far ∙ (ap (onto_left directory) taken
    ∙ (ap (λ parts. Some (onto_directory directory parts)) (parts_line line (raw_lines rest) false mark)
    ∙ (ap (λ (parts : Parts). Some parts) (onto_twice directory line (parts_of (raw_lines rest)))
    ∙ ap (λ front. Some (onto_directory front (parts_of (raw_lines rest)))) (sym added))))

pub mark_line : (start before after : Option Bytes) (directory line : Bytes)
    → parts_left start ≡ onto_left directory (lines_left before)
    → lines_left before ≡ option_map (λ rest. line ∷ raw_lines rest) after → is_mark line ≡ true
    → parts_left start ≡ option_map (λ rest. record { directory = directory; script = Some (raw_lines rest) }) after
mark_line start before None directory line so_far taken mark = so_far ∙ ap (onto_left directory) taken
mark_line start before (Some rest) directory line so_far taken mark =
    so_far ∙ (ap (onto_left directory) taken
    ∙ (ap (λ parts. Some (onto_directory directory parts)) (parts_line line (raw_lines rest) true mark)
    ∙ ap (λ front. Some (record { directory = front; script = Some (raw_lines rest) })) (append-nil directory)))

-- a longer line is no mark
long_mark : (line : Bytes) (x : Bool) → is_mark line ≡ x → 2 < length (content_of line) → x ≡ false
long_mark line false is long = refl
long_mark line true is long =
    let same : content_of line ≡ codes "%%" = (bytes_eq-Decides (content_of line) (codes "%%")).0 is in
    let size : length (content_of line) ≡ 2 = ap (λ (bytes : Bytes). length bytes) same in
    let h : ⊥ = omega arith in
    absurd h

long_parts : (directory first : Bytes) (more : List Bytes) → LONGEST_DIRECTORY < length (content_of first)
    → LONGEST_DIRECTORY < length (onto_directory directory (parts_of (first ∷ more))).directory
long_parts directory first more long =
    let mark : is_mark first ≡ false = long_mark first (is_mark first) refl (omega arith) in
    let size = said_size first in
    let whole : length (directory ++ (first ++ (parts_of more).directory))
    ≡ length directory + (length first + length (parts_of more).directory) =
    length-append directory (first ++ (parts_of more).directory)
    ∙ ap (λ n. length directory + n) (length-append first (parts_of more).directory) in
    subst (λ (parts : Parts). LONGEST_DIRECTORY < length (onto_directory directory parts).directory)
    (sym (parts_line first more false mark)) (omega (arith, whole, size.0))

pub long_line : (start : Option Bytes) (directory : Bytes) (lines : Option (List Bytes))
    → parts_left start ≡ onto_left directory lines
    → IfSome lines (λ lines. IsLong LONGEST_DIRECTORY lines)
    → IfSome (parts_left start) (λ parts. LONGEST_DIRECTORY < length parts.directory)
long_line start directory None so_far is =
    subst (λ o. IfSome o (λ parts. LONGEST_DIRECTORY < length parts.directory)) (sym so_far) tt
long_line start directory (Some lines) so_far is =
    subst (λ o. IfSome o (λ parts. LONGEST_DIRECTORY < length parts.directory))
    (sym (so_far ∙ ap (λ lines. Some (onto_directory directory (parts_of lines))) is.are))
    (long_parts directory is.first is.more is.long)
