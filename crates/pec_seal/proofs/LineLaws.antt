-- The reading of a seal line from the front, against what a seal line is.
use Rattle.std.proofs.Common.{◌≡◌, ◌==◌, ℕ, ◌-◌, Bool, true, false, List, ◌∷◌, ◌++◌, length, take, drop, codes, refl, ap, subst, sym, ◌∙◌, arith, Some, None, Result, Ok, Err, ltb, cond}
use Rattle.std.specs.Result.{result_ok}
use Rattle.std.proofs.lemmas.Bool.{eqb-true, le-ltb}
use Rattle.std.proofs.lemmas.List.{append_assoc, drop_at, length-append, length-replicate, take-append-drop, take_at}
use Rattle.std.proofs.lemmas.Option.{option_and_then_some, same_Some}
use Rattle.std.proofs.lemmas.Slice.Eq.{bytes_eq-Decides}
use Rattle.base64.specs.Engines.{standard}
use Rattle.base64.specs.GeneralPurpose.{IsBytes, decode_of, encode_of}
use Rattle.base64.proofs.EngineFacts.{decode_of-encode_of, decode_of_strict}
use Rattle.base64.proofs.RoundTrip.{length-encode_symbols}
use Rattle.pec_seal.specs.Seals.{HasLine, IsTag, Line, tag_text}
use Rattle.pec_types.specs.Bytes.{after_front}
use Rattle.pec_seal.specs.Opening.{before_back, cut_last, first_line, line_at, tag_at, whole_tag}
use Rattle.pec_seal.proofs.Printable.{AllPrintable_from, are_printable, are_printable-append, are_printable-encode_of, are_printable_from, are_printable-take, are_printable_parts, IsBytes_from, position_at_end}

-- ---- each step of the reading, both ways

guarded : {A : Type 0} (b : Bool) (x y : A) → cond b (Some x) None ≡ Some y → (b ≡ true) × (x ≡ y)
guarded true x y e = (refl, cc e)
guarded false x y e = cc e

unguarded : {A : Type 0} (b : Bool) (x y : A) → cond b None (Some x) ≡ Some y → x ≡ y
unguarded true x y e = cc e
unguarded false x y e = cc e

after_front_some : (front text rest : List ℕ) → after_front front text ≡ Some rest → text ≡ front ++ rest
unfolding after_front
after_front_some front text rest e =
    let parts = guarded _ _ rest e in
    let begins = (bytes_eq-Decides (take (length front) text) front).0 parts.0 in
    sym (rw (← begins, ← parts.1) (take-append-drop (length front) text))

after_front_again : (front rest : List ℕ) → after_front front (front ++ rest) ≡ Some rest
unfolding after_front
after_front_again front rest =
    rw (take_at front rest (length front) refl, drop_at front rest (length front) refl, (bytes_eq-Decides front front).1 refl) refl

before_back_some : (back text rest : List ℕ) → before_back back text ≡ Some rest → text ≡ rest ++ back
before_back_some back text rest e =
    let parts = guarded _ _ rest e in
    let ends = (bytes_eq-Decides (drop (length text - length back) text) back).0 parts.0 in
    sym (rw (← ends, ← parts.1) (take-append-drop (length text - length back) text))

before_back_again : (back rest : List ℕ) → before_back back (rest ++ back) ≡ Some rest
before_back_again back rest =
    let at : length (rest ++ back) - length back ≡ length rest = omega (arith, length-append rest back) in
    rw (at, take_at rest back (length rest) refl, drop_at rest back (length rest) refl, (bytes_eq-Decides back back).1 refl) refl

cut_last_some : (count : ℕ) (text : List ℕ) (parts : List ℕ × List ℕ) → cut_last count text ≡ Some parts
    → text ≡ parts.0 ++ parts.1
cut_last_some count text parts e =
    let same = unguarded (ltb (length text) count) (take (length text - count) text, drop (length text - count) text) parts e in
    sym (take-append-drop (length text - count) text) ∙ ap (λ (p : List ℕ × List ℕ). p.0 ++ p.1) same

cut_last_again : (count : ℕ) (front last : List ℕ) → length last ≡ count
    → cut_last count (front ++ last) ≡ Some (front, last)
cut_last_again count front last size =
    let at : length (front ++ last) - count ≡ length front = omega (arith, length-append front last) in
    let enough = le-ltb (length (front ++ last)) count (omega (arith, length-append front last)) in
    rw (enough, at, take_at front last (length front) refl, drop_at front last (length front) refl) refl

tag_again : (tag : List ℕ) → IsTag tag → tag_at (tag_text tag) ≡ Some tag
unfolding tag_at tag_text
tag_again tag is = rw (decode_of-encode_of standard tag refl is.bytes, is.size) refl

decoded_ok : {E : Type 0} (r : Result (List ℕ) E) (bytes : List ℕ) → result_ok r ≡ Some bytes → r ≡ Ok bytes
decoded_ok (Ok x) bytes e = ap Ok (same_Some x bytes e)
decoded_ok (Err x) bytes e = cc e

tag_some : (text tag : List ℕ) → IsBytes text → tag_at text ≡ Some tag → (length tag ≡ 32) × (text ≡ tag_text tag)
unfolding tag_at tag_text
tag_some text tag small e =
    option_and_then_some whole_tag (result_ok (decode_of standard text)) tag e (λ bytes read checked.
    let whole = guarded (length bytes == 32) bytes tag checked in
    let encoded = decode_of_strict standard text bytes (refl, refl) small (decoded_ok _ _ read) in
    (subst (λ bytes. length bytes ≡ 32) whole.1 (eqb-true _ 32 whole.0), encoded ∙ ap (encode_of standard) whole.1))

length-tag_text : (tag : List ℕ) → IsTag tag → length (tag_text tag) ≡ 44
unfolding tag_text
length-tag_text tag is = rw (length-append, length-encode_symbols, length-replicate, is.size) refl

are_printable-tag_text : (tag : List ℕ) → IsTag tag → are_printable (tag_text tag) ≡ true
unfolding tag_text
are_printable-tag_text tag is = are_printable-encode_of standard tag is.bytes

-- ---- the first line

first_again : (front bytes : List ℕ) → are_printable front ≡ true
    → first_line (front ++ (codes "\r\n" ++ bytes)) ≡ Some (front, bytes)
unfolding first_line after_front
first_again front bytes all =
    let end : List ℕ = 13 ∷ 10 ∷ bytes in
    rw (position_at_end front (10 ∷ bytes) 13 all refl, drop_at front end (length front) refl, take_at front end (length front) refl) refl

first_some : (text : List ℕ) (cut : List ℕ × List ℕ) → first_line text ≡ Some cut
    → (text ≡ cut.0 ++ (codes "\r\n" ++ cut.1)) × (are_printable cut.0 ≡ true)
unfolding first_line
first_some text cut e =
    option_and_then_some _ _ cut e (λ end found e. option_and_then_some _ _ cut e (λ bytes ended same.
    let parts : (take end text, bytes) ≡ cut = same_Some _ cut same in
    let behind = after_front_some (codes "\r\n") (drop end text) bytes ended in
    let whole = sym (take-append-drop end text) ∙ ap (λ (rest : List ℕ). take end text ++ rest) behind in
    subst (λ (cut : List ℕ × List ℕ). (text ≡ cut.0 ++ (codes "\r\n" ++ cut.1)) × (are_printable cut.0 ≡ true)) parts
    (whole, are_printable-take text end found)))

-- ---- the whole line

regroup : (front name break tag rest : List ℕ)
    → (front ++ ((name ++ break) ++ tag)) ++ rest ≡ front ++ (name ++ (break ++ (tag ++ rest)))
regroup front name break tag rest = simp append_assoc

-- what each step of the reading found
record Steps (text : List ℕ) (first : List ℕ × List ℕ) (seal : List ℕ) (parts : List ℕ × List ℕ) (name tag : List ℕ) : Type 0
  where
    line_is : first_line text ≡ Some first
    seal_is : after_front (codes "X-Sigillo: ") first.0 ≡ Some seal
    parts_are : cut_last 44 seal ≡ Some parts
    name_is : before_back (codes "; ") parts.0 ≡ Some name
    tag_is : tag_at parts.1 ≡ Some tag

line_from : (text : List ℕ) (first : List ℕ × List ℕ) (seal : List ℕ) (parts : List ℕ × List ℕ) (name tag : List ℕ)
    → Steps text first seal parts name tag → line_at text ≡ Some (record { name = name; tag = tag; bytes = first.1 })
unfolding line_at
line_from text first seal parts name tag found =
    rw (found.line_is, found.seal_is, found.parts_are, found.name_is, found.tag_is) refl

pub line_again : (line : Line) (text : List ℕ) → HasLine line text → line_at text ≡ Some line
line_again line text is =
    let tag : List ℕ = tag_text line.tag in
    let named : List ℕ = line.name ++ codes "; " in
    let front : List ℕ = codes "X-Sigillo: " ++ (named ++ tag) in
    let whole = is.spelled ∙ sym (regroup (codes "X-Sigillo: ") line.name (codes "; ") tag (codes "\r\n" ++ line.bytes)) in
    let printable_name = are_printable-append line.name (codes "; ") (are_printable_from line.name is.name) refl in
    let printable_seal = are_printable-append named tag printable_name (are_printable-tag_text line.tag is.tag) in
    let printable = are_printable-append (codes "X-Sigillo: ") (named ++ tag) refl printable_seal in
    line_from text (front, line.bytes) (named ++ tag) (named, tag) line.name line.tag (record {
      line_is = ap first_line whole ∙ first_again front line.bytes printable;
      seal_is = after_front_again (codes "X-Sigillo: ") (named ++ tag);
      parts_are = cut_last_again 44 named tag (length-tag_text line.tag is.tag);
      name_is = before_back_again (codes "; ") line.name;
      tag_is = tag_again line.tag is.tag;
    })

line_parts : (text : List ℕ) (first : List ℕ × List ℕ) (seal : List ℕ) (parts : List ℕ × List ℕ) (name tag : List ℕ)
    → Steps text first seal parts name tag → IsBytes tag → HasLine (record { name = name; tag = tag; bytes = first.1 }) text
line_parts text first seal parts name tag found small =
    let ended = first_some text first found.line_is in
    let front : first.0 ≡ codes "X-Sigillo: " ++ seal =
    after_front_some (codes "X-Sigillo: ") first.0 seal found.seal_is in
    let cut : seal ≡ parts.0 ++ parts.1 = cut_last_some 44 seal parts found.parts_are in
    let named : parts.0 ≡ name ++ codes "; " = before_back_some (codes "; ") parts.0 name found.name_is in
    let printable_seal = (are_printable_parts (codes "X-Sigillo: ") seal (ap are_printable (sym front) ∙ ended.1)).1 in
    let printable_parts = are_printable_parts parts.0 parts.1 (ap are_printable (sym cut) ∙ printable_seal) in
    let printable_name = (are_printable_parts name (codes "; ") (ap are_printable (sym named) ∙ printable_parts.0)).0 in
    let tagged = tag_some parts.1 tag (IsBytes_from parts.1 printable_parts.1) found.tag_is in
    let regrouped = regroup (codes "X-Sigillo: ") name (codes "; ") (tag_text tag) (codes "\r\n" ++ first.1) in
    record {
      name = AllPrintable_from name printable_name;
      tag = record { size = tagged.0; bytes = small };
      spelled = ended.0 ∙ rw (front, cut, named, tagged.1) regrouped;
    }

pub line_some : (line : Line) (text : List ℕ) → line_at text ≡ Some line → IsBytes line.tag → HasLine line text
unfolding line_at
line_some line text e small =
    option_and_then_some _ _ line e (λ first line_is e. option_and_then_some _ _ line e (λ seal seal_is e.
    option_and_then_some _ _ line e (λ parts parts_are e. option_and_then_some _ _ line e (λ name name_is e.
    option_and_then_some _ _ line e (λ tag tag_is same.
    let is : record { name = name; tag = tag; bytes = first.1 } ≡ line = same_Some _ line same in
    let bytes = subst (λ (line : Line). IsBytes line.tag) (sym is) small in
    subst (λ (line : Line). HasLine line text) is (line_parts text first seal parts name tag
    (record { line_is = line_is; seal_is = seal_is; parts_are = parts_are; name_is = name_is; tag_is = tag_is }) bytes))))))
