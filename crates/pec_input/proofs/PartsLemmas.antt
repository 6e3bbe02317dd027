-- An input is parted in one way.
use Rattle.std.proofs.Common.{◌≡◌, ◌⊎◌, Bool, true, false, List, [], ◌∷◌, ◌++◌, Option, Some, None, codes, refl, sym, ◌∙◌, ap, inl, inr}
use Rattle.std.proofs.lemmas.Slice.Eq.{bytes_eq-Decides}
use Rattle.std.specs.List.{concat}
use Rattle.std.specs.Str.{bytes_eq}
use Rattle.pec_types.specs.Bytes.{Bytes}
use Rattle.pec_input.specs.Lines.{content_of, raw_lines}
use Rattle.pec_input.specs.Parts.{AreParts, HasNoMark, Marked, Parts, Unmarked, is_mark, onto_directory, parts_of}
use Rattle.pec_input.proofs.LineLemmas.{raw_whole}
use Rattle.pec_input.proofs.OpeningLemmas.{parts_line}

no_script : (lines : List Bytes) → HasNoMark lines → parts_of lines ≡ record { directory = concat lines; script = None }
no_script [] none = refl
no_script (line ∷ lines) none = parts_line line lines false none.0 ∙ ap (onto_directory line) (no_script lines none.1)

script_behind : (front : List Bytes) (mark : Bytes) (behind : List Bytes) → HasNoMark front
    → content_of mark ≡ codes "%%"
    → parts_of (front ++ mark ∷ behind) ≡ record { directory = concat front; script = Some behind }
script_behind [] mark behind none says = parts_line mark behind true (ap (λ said. bytes_eq said (codes "%%")) says)
script_behind (line ∷ front) mark behind none says =
    parts_line line (front ++ mark ∷ behind) false none.0
    ∙ ap (onto_directory line) (script_behind front mark behind none.1 says)

same_parts : (parts : Parts) (directory : Bytes) (script : Option (List Bytes)) → parts.directory ≡ directory
    → parts.script ≡ script
    → parts ≡ record { directory = directory; script = script }
same_parts parts directory script d s =
    ap (λ x. record { directory = x; script = parts.script }) d
    ∙ ap (λ x. record { directory = directory; script = x }) s

pub parts_are : (text : Bytes) (parts : Parts) → AreParts text parts → parts ≡ parts_of (raw_lines text)
parts_are text parts (Unmarked none directory script) =
    same_parts parts (concat (raw_lines text)) None (directory ∙ sym (raw_whole text)) script
    ∙ sym (no_script (raw_lines text) none)
parts_are text parts (Marked front mark behind are none says directory script) =
    same_parts parts (concat front) (Some behind) directory script
    ∙ sym (ap parts_of are ∙ script_behind front mark behind none says)

-- the first mark among lines
record HasMark (lines : List Bytes) : Type 0 where
  pub front : List Bytes
  pub mark : Bytes
  pub behind : List Bytes
  pub are : lines ≡ front ++ mark ∷ behind
  pub none : HasNoMark front
  pub says : content_of mark ≡ codes "%%"

mark_by : (line : Bytes) (lines : List Bytes) (x : Bool) → is_mark line ≡ x → HasNoMark lines ⊎ HasMark lines
    → HasNoMark (line ∷ lines) ⊎ HasMark (line ∷ lines)
mark_by line lines true is further =
    let says = (bytes_eq-Decides (content_of line) (codes "%%")).0 is in
    inr (record { front = []; mark = line; behind = lines; are = refl; none = tt; says = says })
mark_by line lines false is (inl none) = inl (is, none)
mark_by line lines false is (inr has) = inr (record {
  front = line ∷ has.front;
  mark = has.mark;
  behind = has.behind;
  are = ap (λ more. line ∷ more) has.are;
  none = (is, has.none);
  says = has.says;
})

mark_in : (lines : List Bytes) → HasNoMark lines ⊎ HasMark lines
mark_in [] = inl tt
mark_in (line ∷ lines) = mark_by line lines (is_mark line) refl (mark_in lines)

parts_by : (text : Bytes) (parts : Parts) → HasNoMark (raw_lines text) ⊎ HasMark (raw_lines text)
    → parts ≡ parts_of (raw_lines text) → AreParts text parts
parts_by text parts (inl none) same =
    let all = same ∙ no_script (raw_lines text) none in
    Unmarked none (ap (λ (p : Parts). p.directory) all ∙ raw_whole text) (ap (λ (p : Parts). p.script) all)
parts_by text parts (inr has) same =
    let all = same ∙ (ap parts_of has.are ∙ script_behind has.front has.mark has.behind has.none has.says) in
    Marked has.front has.mark has.behind has.are has.none has.says (ap (λ (p : Parts). p.directory) all)
    (ap (λ (p : Parts). p.script) all)

pub are_parts : (text : Bytes) (parts : Parts) → parts ≡ parts_of (raw_lines text) → AreParts text parts
are_parts text parts same = parts_by text parts (mark_in (raw_lines text)) same
