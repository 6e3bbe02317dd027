-- A line of a head alone: what `line_of` says of it is so, and what is so it says.
use Rattle.std.proofs.Common.{◌≡◌, ℕ, ◌+◌, ◌<◌, ◌≤◌, ◌==◌, nat_lt, nat_le, List, [], ◌∷◌, ◌++◌, Bool, true, false, not, ◌&&◌, cond, inl, inr, length, take, drop, Option, Some, None, Result, Ok, Err, refl, ap, ◌∙◌, arith}
use Rattle.std.proofs.Math.Dec.{eqb-suc-zero}
use Rattle.std.proofs.Math.Seq.{take-append_seam, drop-append-add}
use Rattle.std.proofs.lemmas.Bool.{both_ways, cond_both, ltb-true, ltb-false, lt-ltb, le-ltb, leb-true, eqb-true, eqb-false, ne_eqb, and_parts, and_from, not-true, not_from_false, or_from}
use Rattle.std.specs.List.{position, list_all}
use Rattle.pec_heads.specs.Bytes.{is_blank, begins_blank, NonePass, FirstOf}
use Rattle.pec_heads.specs.Heads.{is_control, is_colon, is_name, is_name_byte, IsLine, GoesOn, HasNoColon, NameFault, LineFault}
use Rattle.pec_heads.specs.HeadReading.{Role, ends, more, opens, named, parted, role_of, controlled, line_of}
use Rattle.pec_heads.specs.declared.TheConstants.{LINE_LIMIT}
use Rattle.pec_heads.specs.declared.faults.HeadFault.{HeadFault}
use Rattle.pec_heads.specs.declared.faults.HeadFault.TheVariants.{NoColon, BadName, BareControl, NoEnd, LineTooLong, NoMemory}
use Rattle.pec_heads.proofs.Places.{first_of, none_of, place_again, no_place}

-- what a role means of a line
abbrev pub Tells : Bool → List ℕ → Role → Type 0
Tells first bytes ends = bytes ≡ []
Tells first bytes (more b) = GoesOn bytes × (first ≡ false) × (b ≡ bytes)
Tells first bytes (opens name rest) = IsLine bytes × (is_name name ≡ true) × (bytes ≡ name ++ 58 ∷ rest)

abbrev pub Says : ℕ → Bool → List ℕ → Result Role HeadFault → Type 0
Says place first bytes (Ok role) = Tells first bytes role
Says place first bytes (Err fault) = LineFault place first bytes fault

some_length : (b : ℕ) (bs : List ℕ) → (length (b ∷ bs) == 0) ≡ false
some_length b bs = eqb-suc-zero (length bs)

empty_is : (bytes : List ℕ) → (length bytes == 0) ≡ true → bytes ≡ []
empty_is [] e = refl
empty_is (b ∷ bs) e = absurd (both_ways (length (b ∷ bs) == 0) (some_length b bs) e)

some_is_there : (bytes : List ℕ) → (length bytes == 0) ≡ false → 0 < length bytes
some_is_there bytes e = let n = eqb-false (length bytes) 0 e in omega arith

says_named : (place : ℕ) (first : Bool) (bytes front : List ℕ) (rest : List ℕ) → IsLine bytes → begins_blank bytes ≡ false → FirstOf is_colon bytes front → bytes ≡ front ++ 58 ∷ rest
    → Says place first bytes (named place front rest)
says_named place first bytes front rest line begins colon parts =
    cond_both (is_name front) (Ok (opens front rest)) (Err (BadName place)) (Says place first bytes)
    (λ t. (line, t, parts))
    (λ t. (line, inr (record { front = front; begins = begins; colon = colon; wrong = t }), refl))

colon_is : (b : ℕ) → is_colon b ≡ true → b ≡ 58
colon_is b e = eqb-true b 58 e

parts_at : (bytes front : List ℕ) (k : ℕ) → FirstOf is_colon bytes front → k ≡ length front → (take k bytes ≡ front) × (bytes ≡ front ++ 58 ∷ drop (k + 1) bytes)
parts_at bytes front k f e = (
  rw (e, f.parts, take-append_seam) refl,
  rw (e, f.parts, colon_is f.byte f.passes, drop-append-add front (58 ∷ f.back) 1) refl,
)

says_parted : (place : ℕ) (first : Bool) (bytes : List ℕ) (o : Option ℕ) → position is_colon bytes ≡ o → IsLine bytes → 0 < length bytes → begins_blank bytes ≡ false
    → Says place first bytes (parted place bytes o)
says_parted place first bytes None e line some begins = (line, record { some = some; begins = begins; none = none_of is_colon bytes e }, refl)
says_parted place first bytes (Some k) e line some begins =
    let f = first_of is_colon bytes k e
    in let p = parts_at bytes f.0 k f.1.0 f.1.1
    in rw p.0 (says_named place first bytes f.0 (drop (k + 1) bytes) line begins f.1.0 p.1)

says_role : (place : ℕ) (first : Bool) (bytes : List ℕ) → IsLine bytes → Says place first bytes (role_of place first bytes)
unfolding role_of
says_role place first bytes line =
    cond_both (length bytes == 0) (Ok ends) (cond (begins_blank bytes) (cond first (Err (BadName place)) (Ok (more bytes))) (parted place bytes (position is_colon bytes))) (Says place first bytes)
    (λ t. empty_is bytes t)
    (λ t. cond_both (begins_blank bytes) (cond first (Err (BadName place)) (Ok (more bytes))) (parted place bytes (position is_colon bytes)) (Says place first bytes)
    (λ u. cond_both first (Err (BadName place)) (Ok (more bytes)) (Says place first bytes)
    (λ v. (line, inl (v, u), refl))
    (λ v. (record { line = line; blank = u }, v, refl)))
    (λ u. says_parted place first bytes (position is_colon bytes) refl line (some_is_there bytes t) u))

says_controlled : (place : ℕ) (first : Bool) (bytes : List ℕ) (o : Option ℕ) → position is_control bytes ≡ o → length bytes ≤ LINE_LIMIT → Says place first bytes (controlled place first bytes o)
says_controlled place first bytes None e short = says_role place first bytes (record { short = short; plain = none_of is_control bytes e })
says_controlled place first bytes (Some k) e short = let f = first_of is_control bytes k e in (short, (f.0, (f.1.0, ap (λ n. place + n) f.1.1)))

pub line_says : (place : ℕ) (first : Bool) (bytes : List ℕ) → Says place first bytes (line_of place first bytes)
unfolding line_of
line_says place first bytes =
    cond_both (nat_lt LINE_LIMIT (length bytes)) (Err (LineTooLong place)) (controlled place first bytes (position is_control bytes)) (Says place first bytes)
    (λ t. (ltb-true LINE_LIMIT (length bytes) t, refl))
    (λ t. says_controlled place first bytes (position is_control bytes) refl (ltb-false LINE_LIMIT (length bytes) t))

-- and back

line_is : (place : ℕ) (first : Bool) (bytes : List ℕ) → IsLine bytes → line_of place first bytes ≡ role_of place first bytes
unfolding line_of
line_is place first bytes line = rw (le-ltb LINE_LIMIT (length bytes) line.short, no_place is_control bytes line.plain) refl

pub line_ends : (place : ℕ) (first : Bool) → line_of place first [] ≡ Ok ends
unfolding line_of role_of
line_ends place first = refl

role_more : (place : ℕ) (bytes : List ℕ) → begins_blank bytes ≡ true → role_of place false bytes ≡ Ok (more bytes)
unfolding role_of
role_more place [] e = absurd cc
role_more place (b ∷ bs) e = rw (some_length b bs, e) refl

pub line_more : (place : ℕ) (first : Bool) (bytes : List ℕ) → GoesOn bytes → first ≡ false → line_of place first bytes ≡ Ok (more bytes)
line_more place first bytes on e = rw (e) (line_is place false bytes on.line ∙ role_more place bytes on.blank)

name_byte : (b : ℕ) → is_name_byte b ≡ true → (is_colon b ≡ false) × (is_blank b ≡ false)
name_byte b e =
    let h = and_parts (nat_le 33 b && nat_le b 126) (not (b == 58)) e
    in let low : 33 ≤ b = leb-true 33 b (and_parts (nat_le 33 b) (nat_le b 126) h.0).0
    in (not-true (b == 58) h.1, or_from (b == 32) (b == 9) (ne_eqb b 32 (λ q. omega arith)) (ne_eqb b 9 (λ q. omega arith)))

no_colon_in : (name : List ℕ) → list_all is_name_byte name ≡ true → NonePass is_colon name
no_colon_in [] e = refl
no_colon_in (b ∷ bs) e =
    let h = and_parts (is_name_byte b) (list_all is_name_byte bs) e
    in and_from (not (is_colon b)) (list_all (λ x. not (is_colon x)) bs) (not_from_false (is_colon b) (name_byte b h.0).0) (no_colon_in bs h.1)

colon_after : (name rest : List ℕ) → is_name name ≡ true → FirstOf is_colon (name ++ 58 ∷ rest) name
unfolding is_name
colon_after name rest e = record { byte = 58; back = rest; parts = refl; passes = refl; before = no_colon_in name (and_parts (not (length name == 0)) (list_all is_name_byte name) e).1 }

begins_name : (name rest : List ℕ) → is_name name ≡ true → begins_blank (name ++ 58 ∷ rest) ≡ false
unfolding is_name
begins_name [] rest e = absurd cc
begins_name (b ∷ name) rest e = (name_byte b (and_parts (is_name_byte b) (list_all is_name_byte name) (and_parts (not (length (b ∷ name) == 0)) (list_all is_name_byte (b ∷ name)) e).1).0).1

some_appended : (name rest : List ℕ) (b : ℕ) → (length (name ++ b ∷ rest) == 0) ≡ false
some_appended [] rest b = some_length b rest
some_appended (c ∷ name) rest b = some_length c (name ++ b ∷ rest)

-- a line with a colon that doesn't begin with a blank
role_at : (place : ℕ) (first : Bool) (bytes front : List ℕ) → FirstOf is_colon bytes front → begins_blank bytes ≡ false
    → role_of place first bytes ≡ named place front (drop (length front + 1) bytes)
unfolding role_of
role_at place first bytes front f begins =
    let s : (length bytes == 0) ≡ false = rw f.parts (some_appended front f.back f.byte)
    in let t : take (length front) bytes ≡ front = rw f.parts (take-append_seam front (f.byte ∷ f.back))
    in rw (s, begins, place_again is_colon bytes front f, t) refl

pub line_opens : (place : ℕ) (first : Bool) (bytes name rest : List ℕ) → IsLine bytes → is_name name ≡ true → bytes ≡ name ++ 58 ∷ rest → line_of place first bytes ≡ Ok (opens name rest)
line_opens place first bytes name rest line e parts =
    line_is place first bytes line
    ∙ role_at place first bytes name (rw parts (colon_after name rest e)) (rw parts (begins_name name rest e))
    ∙ rw (e, parts, drop-append-add name (58 ∷ rest) 1) refl

role_bad : (place : ℕ) (first : Bool) (bytes : List ℕ) → NameFault first bytes → role_of place first bytes ≡ Err (BadName place)
unfolding role_of
role_bad place first [] (inl (e, u)) = absurd cc
role_bad place first (b ∷ bs) (inl (e, u)) = rw (some_length b bs, u, e) refl
role_bad place first bytes (inr h) = role_at place first bytes h.front h.colon h.begins ∙ rw h.wrong refl

role_none : (place : ℕ) (first : Bool) (bytes : List ℕ) → HasNoColon bytes → role_of place first bytes ≡ Err (NoColon place)
unfolding role_of
role_none place first [] h = absurd (omega (arith, h.some))
role_none place first (b ∷ bs) h = rw (some_length b bs, h.begins, no_place is_colon (b ∷ bs) h.none) refl

pub fault_again : (place : ℕ) (first : Bool) (bytes : List ℕ) (fault : HeadFault) → LineFault place first bytes fault → line_of place first bytes ≡ Err fault
unfolding line_of
fault_again place first bytes (LineTooLong p) h = rw (lt-ltb LINE_LIMIT (length bytes) h.0, h.1) refl
fault_again place first bytes (BareControl p) h = rw (le-ltb LINE_LIMIT (length bytes) h.0, place_again is_control bytes h.1.0 h.1.1.0, h.1.1.1) refl
fault_again place first bytes (NoColon p) h = line_is place first bytes h.0 ∙ role_none place first bytes h.1 ∙ rw h.2 refl
fault_again place first bytes (BadName p) h = line_is place first bytes h.0 ∙ role_bad place first bytes h.1 ∙ rw h.2 refl
fault_again place first bytes NoEnd h = absurd h
fault_again place first bytes NoMemory h = absurd h
