-- The rest of an address in lower case, from any byte on, is read exactly where its length is known.
use Rattle.std.proofs.Common.{◌≡◌, ℕ, zero, suc, ◌-◌, Bool, true, false, cond, eqb, ltb, List, [], ◌∷◌, ◌++◌, length, Option, Some, None, Ok, Err, IsTrue, refl, sym, ap, subst, ◌∙◌, arith}
use Rattle.std.proofs.lemmas.Bool.{false≢true}
use Rattle.std.proofs.lemmas.Bool.Decides.{nat_tests}
use Rattle.std.proofs.lemmas.List.{nil_from_length}
use Rattle.std.specs.Char.{is_ascii_uppercase, is_ascii_alphanumeric}
use Rattle.pec_types.specs.Address.{is_atom_byte}
use Rattle.pec_types.specs.AddressReading.{step_of, in_label}
use Rattle.pec_types.specs.AddressSteps.{behind_at, further, is_end, passes_behind, passes}
use Rattle.pec_types.specs.declared.scanning.Stand.{Stand}
use Rattle.pec_types.specs.declared.scanning.Stand.TheVariants as stands
use Rattle.pec_grammar.specs.Grammar.{Cursor, Read, Grammar, ◌>>=◌, byte_at, byte, seen_at}
use Rattle.pec_grammar.specs.Dependent.{linked_at, linked}
use Rattle.pec_grammar.proofs.Parts.{Lawful, byte_lawful}
use Rattle.pec_grammar.proofs.Sequences.{Views, seen_lawful}
use Rattle.pec_grammar.proofs.DependentLaws.{linked_lawful}
use Rattle.pec_records.specs.EntryReading.{can_fill, can_fill_behind, can_go_on, stand_behind, rest_at}

-- What leads to an end can be filled.

-- where a step leads to something that can be filled, so can what it came from
abbrev Fills : Stand → Option Stand → Type 0
Fills stand o = (n : ℕ) → can_fill_behind o n ≡ true → can_fill stand (suc n) ≡ true

fills_none : (stand : Stand) → Fills stand None
fills_none stand n e = absurd (false≢true e)

fills_if : (stand : Stand) (x : Bool) (o p : Option Stand) → (x ≡ true → Fills stand o) → Fills stand p → Fills stand (cond x o p)
fills_if stand true o p f g = f refl
fills_if stand false o p f g = g

letter_fills : (room : ℕ) → ltb 0 room ≡ true → Fills (stands.BehindLetter room) (Some (stands.BehindLetter (room - 1)))
letter_fills room some n e = grind (arith, nat_tests)

hyphen_fills : (room : ℕ) → ltb 1 room ≡ true → Fills (stands.BehindLetter room) (Some (stands.BehindHyphen (room - 1)))
hyphen_fills room some n e = grind (arith, nat_tests)

dot_fills : (room : ℕ) → Fills (stands.BehindLetter room) (Some stands.LabelBegins)
dot_fills room n e = grind (arith, nat_tests)

letter_behind_hyphen : (room : ℕ) → ltb 0 room ≡ true → Fills (stands.BehindHyphen room) (Some (stands.BehindLetter (room - 1)))
letter_behind_hyphen room some n e = grind (arith, nat_tests)

hyphen_behind_hyphen : (room : ℕ) → ltb 1 room ≡ true → Fills (stands.BehindHyphen room) (Some (stands.BehindHyphen (room - 1)))
hyphen_behind_hyphen room some n e = grind (arith, nat_tests)

atom_fills : Fills stands.AtomBegins (Some stands.InAtom)
atom_fills n e = grind (arith, nat_tests)

more_atom_fills : Fills stands.InAtom (Some stands.InAtom)
more_atom_fills n e = grind (arith, nat_tests)

atom_dot_fills : Fills stands.InAtom (Some stands.AtomBegins)
atom_dot_fills n e = grind (arith, nat_tests)

at_fills : Fills stands.InAtom (Some stands.LabelBegins)
at_fills n e = grind (arith, nat_tests)

label_fills : Fills stands.LabelBegins (Some (stands.BehindLetter 62))
label_fills n e = grind (arith, nat_tests)

at_sign_fills : (stand : Stand) → Fills stand (behind_at stand)
at_sign_fills stands.AtomBegins = fills_none stands.AtomBegins
at_sign_fills stands.InAtom = at_fills
at_sign_fills stands.LabelBegins = fills_none stands.LabelBegins
at_sign_fills (stands.BehindLetter room) = fills_none (stands.BehindLetter room)
at_sign_fills (stands.BehindHyphen room) = fills_none (stands.BehindHyphen room)

step_fills : (stand : Stand) (b : ℕ) → Fills stand (step_of stand b)
unfolding step_of in_label
step_fills stands.AtomBegins b = fills_if stands.AtomBegins (is_atom_byte b) (Some stands.InAtom) None (λ _. atom_fills) (fills_none stands.AtomBegins)
step_fills stands.InAtom b =
    fills_if stands.InAtom (is_atom_byte b) (Some stands.InAtom) (cond (eqb b 46) (Some stands.AtomBegins) None) (λ _. more_atom_fills)
    (fills_if stands.InAtom (eqb b 46) (Some stands.AtomBegins) None (λ _. atom_dot_fills) (fills_none stands.InAtom))
step_fills stands.LabelBegins b = fills_if stands.LabelBegins (is_ascii_alphanumeric b) (Some (stands.BehindLetter 62)) None (λ _. label_fills) (fills_none stands.LabelBegins)
step_fills (stands.BehindLetter room) b =
    let stand = stands.BehindLetter room in
    let letter = Some (stands.BehindLetter (room - 1)) in
    let hyphen = Some (stands.BehindHyphen (room - 1)) in
    let dot = cond (eqb b 46) (Some stands.LabelBegins) None in
    fills_if stand (is_ascii_alphanumeric b) (cond (ltb 0 room) letter None) (cond (eqb b 45) (cond (ltb 1 room) hyphen None) dot)
    (λ _. fills_if stand (ltb 0 room) letter None (letter_fills room) (fills_none stand))
    (fills_if stand (eqb b 45) (cond (ltb 1 room) hyphen None) dot
    (λ _. fills_if stand (ltb 1 room) hyphen None (hyphen_fills room) (fills_none stand))
    (fills_if stand (eqb b 46) (Some stands.LabelBegins) None (λ _. dot_fills room) (fills_none stand)))
step_fills (stands.BehindHyphen room) b =
    let stand = stands.BehindHyphen room in
    let letter = Some (stands.BehindLetter (room - 1)) in
    let hyphen = Some (stands.BehindHyphen (room - 1)) in
    let dot = cond {A = Option Stand} (eqb b 46) None None in
    fills_if stand (is_ascii_alphanumeric b) (cond (ltb 0 room) letter None) (cond (eqb b 45) (cond (ltb 1 room) hyphen None) dot)
    (λ _. fills_if stand (ltb 0 room) letter None (letter_behind_hyphen room) (fills_none stand))
    (fills_if stand (eqb b 45) (cond (ltb 1 room) hyphen None) dot
    (λ _. fills_if stand (ltb 1 room) hyphen None (hyphen_behind_hyphen room) (fills_none stand))
    (fills_if stand (eqb b 46) None None (λ _. fills_none stand) (fills_none stand)))

further_fills : (stand : Stand) (b : ℕ) → Fills stand (further stand b)
unfolding further
further_fills stand b =
    fills_if stand (is_ascii_uppercase b) None (cond (eqb b 64) (behind_at stand) (step_of stand b)) (λ _. fills_none stand)
    (fills_if stand (eqb b 64) (behind_at stand) (step_of stand b) (λ _. at_sign_fills stand) (step_fills stand b))

end_filled : (stand : Stand) → is_end stand ≡ true → can_fill stand 0 ≡ true
end_filled stands.AtomBegins e = absurd (false≢true e)
end_filled stands.InAtom e = absurd (false≢true e)
end_filled stands.LabelBegins e = absurd (false≢true e)
end_filled (stands.BehindLetter room) e = refl
end_filled (stands.BehindHyphen room) e = absurd (false≢true e)

filled_behind : (o : Option Stand) (bs : List ℕ) → passes_behind o (λ next. passes next bs) ≡ true → ((next : Stand) → passes next bs ≡ true → can_fill next (length bs) ≡ true)
    → can_fill_behind o (length bs) ≡ true
filled_behind None bs e more = absurd (false≢true e)
filled_behind (Some next) bs e more = more next e

-- what passes from here fills so many bytes
pub filled : (bs : List ℕ) (stand : Stand) → passes stand bs ≡ true → can_fill stand (length bs) ≡ true
filled [] stand e = end_filled stand e
filled (b ∷ bs) stand e = further_fills stand b (length bs) (filled_behind (further stand b) bs e (filled bs))

-- What can be filled leads to an end.

-- a byte with which an address goes on that has so many bytes left behind it
abbrev Goes : Stand → ℕ → Type 0
Goes stand left = (b : ℕ) × IsTrue (can_go_on stand left b)

letter_goes : (room left : ℕ) → can_fill (stands.BehindLetter room) (suc left) ≡ true → Goes (stands.BehindLetter room) left
unfolding further step_of in_label
letter_goes room left e = by_test (ltb 0 room) refl
  where
    by_test : (x : Bool) → ltb 0 room ≡ x → Goes (stands.BehindLetter room) left
    by_test true some = by_left (eqb left 0) refl
      where
        by_left : (y : Bool) → eqb left 0 ≡ y → Goes (stands.BehindLetter room) left
        by_left true last = (97, rw some (grind (arith, nat_tests)))
        by_left false more = (46, grind (arith, nat_tests))
    by_test false none = (46, grind (arith, nat_tests))

hyphen_goes : (room left : ℕ) → can_fill (stands.BehindHyphen room) (suc left) ≡ true → ltb 0 room ≡ true → Goes (stands.BehindHyphen room) left
unfolding further step_of in_label
hyphen_goes room left e some = (97, rw some (grind (arith, nat_tests)))

has_room : (room left : ℕ) → can_fill (stands.BehindHyphen room) (suc left) ≡ true → ltb 0 room ≡ true
has_room room left e = grind (arith, nat_tests)

goes : (stand : Stand) (left : ℕ) → can_fill stand (suc left) ≡ true → Goes stand left
unfolding further step_of is_atom_byte
goes stands.AtomBegins left e = (97, grind (arith, nat_tests))
goes stands.InAtom left e = (64, grind (arith, nat_tests))
goes stands.LabelBegins left e = (97, grind (arith, nat_tests))
goes (stands.BehindLetter room) left e = letter_goes room left e
goes (stands.BehindHyphen room) left e = hyphen_goes room left e (has_room room left e)

-- The grammar.

abbrev pub rest : Stand → ℕ → Grammar (List ℕ)
rest stand left = record { Fits = λ bytes. (length bytes ≡ left) × IsTrue (passes stand bytes); spell = λ bytes. bytes; read = rest_at stand left }

ended : (stand : Stand) → can_fill stand 0 ≡ true → is_end stand ≡ true
ended stands.AtomBegins e = absurd (false≢true e)
ended stands.InAtom e = absurd (false≢true e)
ended stands.LabelBegins e = absurd (false≢true e)
ended (stands.BehindLetter room) e = refl
ended (stands.BehindHyphen room) e = absurd (false≢true e)

end_lawful : (stand : Stand) → can_fill stand 0 ≡ true → Lawful (rest stand 0)
unfolding rest_at
end_lawful stand e = record {
  one = λ x y a b x_fits y_fits same.
      let left : x ≡ [] = nil_from_length x x_fits.0 in
      let right : y ≡ [] = nil_from_length y y_fits.0 in
      (left ∙ sym right, ap (λ z. z ++ a) (sym left) ∙ (same ∙ ap (λ z. z ++ b) right));
  some = ([], (refl, ended stand e));
  answers = λ at. record { fits = (refl, ended stand e); parts = refl; keeps = λ s le. refl };
}

passes_on : (stand : Stand) (o : Option Stand) (bs : List ℕ) (left : ℕ) → can_fill_behind o left ≡ true → passes (stand_behind stand o) bs ≡ true
    → passes_behind o (λ next. passes next bs) ≡ true
passes_on stand None bs left some e = absurd (false≢true some)
passes_on stand (Some next) bs left some e = e

passed_on : (stand : Stand) (o : Option Stand) (bs : List ℕ) → passes_behind o (λ next. passes next bs) ≡ true → passes (stand_behind stand o) bs ≡ true
passed_on stand None bs e = absurd (false≢true e)
passed_on stand (Some next) bs e = e

fills_on : (stand : Stand) (o : Option Stand) (left : ℕ) → can_fill_behind o left ≡ true → can_fill (stand_behind stand o) left ≡ true
fills_on stand None left e = absurd (false≢true e)
fills_on stand (Some next) left e = e

abbrev parted : List ℕ → ℕ × List ℕ
parted [] = (0, [])
parted (b ∷ bs) = (b, bs)

abbrev behind : Stand → ℕ → ℕ → Grammar (List ℕ)
behind stand left b = rest (stand_behind stand (further stand b)) left

first_views : (stand : Stand) (left : ℕ) → Views (linked (byte (can_go_on stand left)) (behind stand left)) (rest stand (suc left)) (λ p. p.0 ∷ p.1) parted
first_views stand left = record {
  there = λ p fits. (omega (arith, fits.1.0), passes_on stand (further stand p.0) p.1 left fits.0 fits.1.1);
  spelled = λ p fits. refl;
  again = again;
  respelled = respelled;
  undone = undone;
}
  where
    no_bytes : 0 ≡ suc left → ⊥
    no_bytes size = omega arith

    again : (y : List ℕ) → (rest stand (suc left)).Fits y → (linked (byte (can_go_on stand left)) (behind stand left)).Fits (parted y)
    again [] fits = absurd (no_bytes fits.0)
    again (b ∷ bs) fits =
        let size : length bs ≡ left = omega (arith, fits.0) in (
          subst (λ n. can_go_on stand n b ≡ true) size (filled_behind (further stand b) bs fits.1 (filled bs)),
          (size, passed_on stand (further stand b) bs fits.1),
        )

    respelled : (y : List ℕ) → (rest stand (suc left)).Fits y → (linked (byte (can_go_on stand left)) (behind stand left)).spell (parted y) ≡ y
    respelled [] fits = absurd (no_bytes fits.0)
    respelled (b ∷ bs) fits = refl

    undone : (y : List ℕ) → (rest stand (suc left)).Fits y → (parted y).0 ∷ (parted y).1 ≡ y
    undone [] fits = absurd (no_bytes fits.0)
    undone (b ∷ bs) fits = refl

rest_step : (stand : Stand) (left : ℕ) (at : Cursor) (r : Read ℕ)
    → (r >>= λ b. rest_at (stand_behind stand (further stand b.0)) left b.1 >>= λ bs. Ok (b.0 ∷ bs.0, bs.1))
    ≡ seen_at (λ p. p.0 ∷ p.1) (linked_at (λ _. r) (λ b. rest_at (stand_behind stand (further stand b)) left)) at
rest_step stand left at (Ok taken) = more_step (rest_at (stand_behind stand (further stand taken.0)) left taken.1)
  where
    more_step : (r : Read (List ℕ)) → (r >>= λ bs. Ok (taken.0 ∷ bs.0, bs.1)) ≡ seen_at (λ p. p.0 ∷ p.1) (linked_at (λ _. Ok taken) (λ _ _. r)) at
    more_step (Ok b) = refl
    more_step (Err stop) = refl
rest_step stand left at (Err stop) = refl

pub rest_lawful : (left : ℕ) (stand : Stand) → can_fill stand left ≡ true → Lawful (rest stand left)
unfolding rest_at
rest_lawful zero stand e = end_lawful stand e
rest_lawful (suc left) stand e =
    let first = goes stand left e in
    seen_lawful (linked (byte (can_go_on stand left)) (behind stand left)) (rest stand (suc left)) (λ p. p.0 ∷ p.1) parted (first_views stand left)
    (λ at. rest_step stand left at (byte_at (can_go_on stand left) at))
    (linked_lawful (byte (can_go_on stand left)) (behind stand left) (byte_lawful (can_go_on stand left) first.0 first.1)
    (λ b on. rest_lawful left (stand_behind stand (further stand b)) (fills_on stand (further stand b) left on)))
