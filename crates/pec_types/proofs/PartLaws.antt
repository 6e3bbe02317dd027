-- A reader that goes through a part of an address byte by byte stops exactly where the grammar puts the fault.
use Rattle.std.proofs.Common.{◌≡◌, ℕ, suc, ◌+◌, ◌-◌, ◌<◌, ◌≤◌, Bool, true, false, cond, eqb, ltb, List, [], ◌∷◌, ◌++◌, length, take, Option, Some, None, MatchOption, IsTrue, ◌⊎◌, inl, inr, refl, sym, ◌∙◌, ap, subst, arith, eqb-true, ltb-true, ltb-false}
use Rattle.std.proofs.lemmas.Bool.{false≢true}
use Rattle.std.specs.Char.{is_ascii_alphanumeric}
use Rattle.std.specs.List.{flat_map, AllByRecursion}
use Rattle.pec_types.specs.Address.{is_atom_byte, AllAtomBytes, IsAtom, IsLabel, ends_well, dotted, IsDotted, CanGoOn, IsBadAt}
use Rattle.pec_types.specs.AddressReading.{in_label, step_of, may_end, stop_unless, stop_at}
use Rattle.pec_types.specs.declared.scanning.Stand.{Stand}
use Rattle.pec_types.specs.declared.scanning.Stand.TheVariants.{AtomBegins, InAtom, LabelBegins, BehindLetter, BehindHyphen}

-- the rest of a label with room for so many bytes, behind a letter or digit, or behind a hyphen
abbrev pub IsTail : Bool → ℕ → List ℕ → Type 0
IsTail behind_letter room bytes = IsTrue (ends_well behind_letter bytes) × (length bytes ≤ room)

-- what may follow in the part that is being read, and what further parts are
abbrev pub Front : Stand → List ℕ → Type 0
Front AtomBegins bytes = IsAtom bytes
Front InAtom bytes = AllAtomBytes bytes
Front LabelBegins bytes = IsLabel bytes
Front (BehindLetter room) bytes = IsTail true room bytes
Front (BehindHyphen room) bytes = IsTail false room bytes

abbrev pub Further : Stand → List ℕ → Type 0
Further AtomBegins bytes = IsAtom bytes
Further InAtom bytes = IsAtom bytes
Further LabelBegins bytes = IsLabel bytes
Further (BehindLetter room) bytes = IsLabel bytes
Further (BehindHyphen room) bytes = IsLabel bytes

abbrev pub IsRight : Stand → List ℕ → Type 0
IsRight stand bytes = IsDotted (Front stand) (Further stand) bytes

abbrev pub HasRoom : Stand → Type 0
HasRoom AtomBegins = Unit {0}
HasRoom InAtom = Unit {0}
HasRoom LabelBegins = Unit {0}
HasRoom (BehindLetter room) = Unit {0}
HasRoom (BehindHyphen room) = 0 < room

-- a byte leads from what may follow before it to what may follow behind it
pub record Leads (R S : List ℕ → Type 0) (b : ℕ) : Type 0 where
  pub goes : (bs : List ℕ) → S bs → R (b ∷ bs)
  pub went : (bs : List ℕ) → R (b ∷ bs) → S bs

goes_in : (F G P : List ℕ → Type 0) (b : ℕ) (bs : List ℕ) → ((f : List ℕ) → F f → G (b ∷ f)) → IsDotted F P bs → IsDotted G P (b ∷ bs)
goes_in F G P b bs into d = record { first = b ∷ d.first; others = d.others; first_is = into d.first d.first_is; others_are = d.others_are; parts = ap (λ x. b ∷ x) d.parts }

goes_dot : (G P : List ℕ → Type 0) (bs : List ℕ) → G [] → IsDotted P P bs → IsDotted G P (46 ∷ bs)
goes_dot G P bs g d = record { first = []; others = d.first ∷ d.others; first_is = g; others_are = (d.first_is, d.others_are); parts = ap (λ x. 46 ∷ x) d.parts }

-- the first byte belongs to the first part, or it is the dot behind an empty one
cut_parts : (G P : List ℕ → Type 0) (b : ℕ) (bs first : List ℕ) (others : List (List ℕ)) → G first → AllByRecursion P others → b ∷ bs ≡ first ++ flat_map dotted others
    → IsDotted (λ f. G (b ∷ f)) P bs ⊎ ((b ≡ 46) × (G [] × IsDotted P P bs))
cut_parts G P b bs [] [] g a e = let h : ⊥ = cc in absurd h
cut_parts G P b bs [] (o ∷ os) g a e =
    let dot : b ≡ 46 = cc in
    let rest : bs ≡ o ++ flat_map dotted os = cc in
    inr (dot, (g, record { first = o; others = os; first_is = a.0; others_are = a.1; parts = rest }))
cut_parts G P b bs (c ∷ first) others g a e =
    let same : c ≡ b = cc in
    let rest : bs ≡ first ++ flat_map dotted others = cc in
    inl (record { first = first; others = others; first_is = subst (λ x. G (x ∷ first)) same g; others_are = a; parts = rest })

cut : (G P : List ℕ → Type 0) (b : ℕ) (bs : List ℕ) → IsDotted G P (b ∷ bs) → IsDotted (λ f. G (b ∷ f)) P bs ⊎ ((b ≡ 46) × (G [] × IsDotted P P bs))
cut G P b bs d = cut_parts G P b bs d.first d.others d.first_is d.others_are d.parts

empty_parts : (G P : List ℕ → Type 0) (first : List ℕ) (others : List (List ℕ)) → G first → [] ≡ first ++ flat_map dotted others → G []
empty_parts G P [] others g e = g
empty_parts G P (c ∷ first) others g e = let h : ⊥ = cc in absurd h

empty_front : (G P : List ℕ → Type 0) → IsDotted G P [] → G []
empty_front G P d = empty_parts G P d.first d.others d.first_is d.parts

-- the byte goes into the part, and is no dot
into_part : (F G P : List ℕ → Type 0) (b : ℕ) → (b ≡ 46 → ⊥) → ((f : List ℕ) → F f → G (b ∷ f)) → ((f : List ℕ) → G (b ∷ f) → F f) → Leads (λ bs. IsDotted G P bs) (λ bs. IsDotted F P bs) b
into_part F G P b no_dot into back = record {
  goes = λ bs d. goes_in F G P b bs into d;
  went = λ bs d. elim (cut G P b bs d) [
    | inl r ↦ record { first = r.first; others = r.others; first_is = back r.first r.first_is; others_are = r.others_are; parts = r.parts }
    | inr r ↦ absurd (no_dot r.0)
  ];
}

-- the dot goes to the next part, and can't stand in this one
to_next : (G P : List ℕ → Type 0) (b : ℕ) → b ≡ 46 → G [] → ((f : List ℕ) → G (b ∷ f) → ⊥) → Leads (λ bs. IsDotted G P bs) (λ bs. IsDotted P P bs) b
to_next G P b dot g out = record {
  goes = λ bs d. subst (λ x. IsDotted G P (x ∷ bs)) (sym dot) (goes_dot G P bs g d);
  went = λ bs d. elim (cut G P b bs d) [ inl r ↦ absurd (out r.first r.first_is) | inr r ↦ r.1.1 ];
}

nowhere : (G P : List ℕ → Type 0) (b : ℕ) → (b ≡ 46 → G [] → ⊥) → ((f : List ℕ) → G (b ∷ f) → ⊥) → (bs : List ℕ) → IsDotted G P (b ∷ bs) → ⊥
nowhere G P b no_dot out bs d = elim (cut G P b bs d) [ inl r ↦ out r.first r.first_is | inr r ↦ no_dot r.0 r.1.0 ]

-- what a step from here means
abbrev pub StepTells : (R : List ℕ → Type 0) → ℕ → Option Stand → Type 0
StepTells R b None = (bs : List ℕ) → R (b ∷ bs) → ⊥
StepTells R b (Some next) = Leads R (IsRight next) b × HasRoom next

no_atom_dot : (b : ℕ) → is_atom_byte b ≡ true → b ≡ 46 → ⊥
unfolding is_atom_byte
no_atom_dot b is_so e = let t : false ≡ true = subst (λ x. is_atom_byte x ≡ true) e is_so in false≢true t

not_both : (x : Bool) → x ≡ false → x ≡ true → ⊥
not_both x n y = let h : ⊥ = cc in h

atom_begins : (b : ℕ) (x : Bool) → is_atom_byte b ≡ x → StepTells (IsRight AtomBegins) b (cond x (Some InAtom) None)
atom_begins b true is_so = (into_part AllAtomBytes IsAtom IsAtom b (no_atom_dot b is_so) (λ f h. (is_so, h)) (λ f h. h.1), tt)
atom_begins b false is_not = nowhere IsAtom IsAtom b (λ e g. g) (λ f h. not_both (is_atom_byte b) is_not h.0)

in_atom : (b : ℕ) (x y : Bool) → is_atom_byte b ≡ x → eqb b 46 ≡ y → StepTells (IsRight InAtom) b (cond x (Some InAtom) (cond y (Some AtomBegins) None))
in_atom b true y is_so dot = (into_part AllAtomBytes AllAtomBytes IsAtom b (no_atom_dot b is_so) (λ f h. (is_so, h)) (λ f h. h.1), tt)
in_atom b false true is_not dot = (to_next AllAtomBytes IsAtom b (eqb-true b 46 dot) tt (λ f h. not_both (is_atom_byte b) is_not h.0), tt)
in_atom b false false is_not dot = nowhere AllAtomBytes IsAtom b (λ e g. let t : true ≡ false = subst (λ x. eqb x 46 ≡ false) e dot in false≢true (sym t)) (λ f h. not_both (is_atom_byte b) is_not h.0)

no_letter_dot : (b : ℕ) → is_ascii_alphanumeric b ≡ true → b ≡ 46 → ⊥
no_letter_dot b is_so e = let t : false ≡ true = subst (λ x. is_ascii_alphanumeric x ≡ true) e is_so in false≢true t

label_begins : (b : ℕ) (x : Bool) → is_ascii_alphanumeric b ≡ x → StepTells (IsRight LabelBegins) b (cond x (Some (BehindLetter 62)) None)
label_begins b true is_so = (into_part (IsTail true 62) IsLabel IsLabel b (no_letter_dot b is_so) (λ f h. (is_so, h)) (λ f h. h.1), tt)
label_begins b false is_not = nowhere IsLabel IsLabel b (λ e g. g) (λ f h. not_both (is_ascii_alphanumeric b) is_not h.0)

-- in a label: what the tests of a byte say of the tail behind it
letter_ends : (b : ℕ) (good : Bool) (f : List ℕ) → is_ascii_alphanumeric b ≡ true → ends_well good (b ∷ f) ≡ ends_well true f
letter_ends b good f is_so = rw is_so refl

hyphen_ends : (b : ℕ) (good : Bool) (f : List ℕ) → is_ascii_alphanumeric b ≡ false → eqb b 45 ≡ true → ends_well good (b ∷ f) ≡ ends_well false f
hyphen_ends b good f is_not is_so = rw (is_not, is_so) refl

other_ends : (b : ℕ) (good : Bool) (f : List ℕ) → is_ascii_alphanumeric b ≡ false → eqb b 45 ≡ false → ends_well good (b ∷ f) ≡ false
other_ends b good f is_not other = rw (is_not, other) refl

hyphen_room : (f : List ℕ) (room : ℕ) → IsTrue (ends_well false f) → length f + 1 ≤ room → 1 < room
hyphen_room [] room h le = absurd (false≢true h)
hyphen_room (c ∷ f) room h le = omega arith

-- the dot behind a label: only behind a letter or digit
abbrev DotTells : Bool → ℕ → ℕ → Option Stand → Type 0
DotTells good room b dot = eqb b 46 ≡ true → ((f : List ℕ) → IsTail good room (b ∷ f) → ⊥) → StepTells (λ bs. IsDotted (IsTail good room) IsLabel bs) b dot

behind_dot : (room b : ℕ) → DotTells true room b (Some LabelBegins)
behind_dot room b is_so out = (to_next (IsTail true room) IsLabel b (eqb-true b 46 is_so) (refl, omega arith) out, tt)

no_dot_here : (room b : ℕ) → DotTells false room b None
no_dot_here room b is_so out = nowhere (IsTail false room) IsLabel b (λ e g. false≢true g.0) out

in_label_dot : (good : Bool) (room b : ℕ) (dot : Option Stand) (z : Bool) → DotTells good room b dot → is_ascii_alphanumeric b ≡ false → eqb b 45 ≡ false → eqb b 46 ≡ z
    → StepTells (λ bs. IsDotted (IsTail good room) IsLabel bs) b (cond z dot None)
in_label_dot good room b dot true tells is_not other is_so = tells is_so (λ f h. not_both (ends_well good (b ∷ f)) (other_ends b good f is_not other) h.0)
in_label_dot good room b dot false tells is_not other not_dot =
    nowhere (IsTail good room) IsLabel b (λ e g. let t : true ≡ false = subst (λ x. eqb x 46 ≡ false) e not_dot in false≢true (sym t)) (λ f h. not_both (ends_well good (b ∷ f)) (other_ends b good f is_not other) h.0)

in_label_hyphen : (good : Bool) (room b : ℕ) (x : Bool) → is_ascii_alphanumeric b ≡ false → eqb b 45 ≡ true → ltb 1 room ≡ x
    → StepTells (λ bs. IsDotted (IsTail good room) IsLabel bs) b (cond x (Some (BehindHyphen (room - 1))) None)
in_label_hyphen good room b true is_not is_so fits =
    let room_left : 1 < room = ltb-true 1 room fits in (
      into_part (IsTail false (room - 1)) (IsTail good room) IsLabel b (λ e. let t : false ≡ true = subst (λ x. eqb x 45 ≡ true) e is_so in false≢true t)
          (λ f h. (hyphen_ends b good f is_not is_so ∙ h.0, omega (arith, h.1)))
          (λ f h. (sym (hyphen_ends b good f is_not is_so) ∙ h.0, omega (arith, h.1))),
      omega arith,
    )
in_label_hyphen good room b false is_not is_so fits =
    let no_room : room ≤ 1 = ltb-false 1 room fits in
    nowhere (IsTail good room) IsLabel b (λ e g. let t : false ≡ true = subst (λ x. eqb x 45 ≡ true) e is_so in false≢true t)
    (λ f h. let more : 1 < room = hyphen_room f room (sym (hyphen_ends b good f is_not is_so) ∙ h.0) (omega (arith, h.1)) in let bad : ⊥ = omega arith in bad)

in_label_letter : (good : Bool) (room b : ℕ) (x : Bool) → is_ascii_alphanumeric b ≡ true → ltb 0 room ≡ x
    → StepTells (λ bs. IsDotted (IsTail good room) IsLabel bs) b (cond x (Some (BehindLetter (room - 1))) None)
in_label_letter good room b true is_so fits =
    let room_left : 0 < room = ltb-true 0 room fits in (
      into_part (IsTail true (room - 1)) (IsTail good room) IsLabel b (no_letter_dot b is_so)
          (λ f h. (letter_ends b good f is_so ∙ h.0, omega (arith, h.1)))
          (λ f h. (sym (letter_ends b good f is_so) ∙ h.0, omega (arith, h.1))),
      tt,
    )
in_label_letter good room b false is_so fits =
    let no_room : room ≤ 0 = ltb-false 0 room fits in
    nowhere (IsTail good room) IsLabel b (λ e g. no_letter_dot b is_so e) (λ f h. let bad : ⊥ = omega (arith, h.1) in bad)

label_step : (good : Bool) (room b : ℕ) (dot : Option Stand) (x y : Bool) → DotTells good room b dot → is_ascii_alphanumeric b ≡ x → eqb b 45 ≡ y
    → StepTells (λ bs. IsDotted (IsTail good room) IsLabel bs) b (cond x (cond (ltb 0 room) (Some (BehindLetter (room - 1))) None) (cond y (cond (ltb 1 room) (Some (BehindHyphen (room - 1))) None) (cond (eqb b 46) dot None)))
label_step good room b dot true y tells letter hyphen = in_label_letter good room b (ltb 0 room) letter refl
label_step good room b dot false true tells letter hyphen = in_label_hyphen good room b (ltb 1 room) letter hyphen refl
label_step good room b dot false false tells letter hyphen = in_label_dot good room b dot (eqb b 46) tells letter hyphen refl

pub step_tells : (stand : Stand) (b : ℕ) → StepTells (IsRight stand) b (step_of stand b)
unfolding step_of in_label
step_tells AtomBegins b = atom_begins b (is_atom_byte b) refl
step_tells InAtom b = in_atom b (is_atom_byte b) (eqb b 46) refl refl
step_tells LabelBegins b = label_begins b (is_ascii_alphanumeric b) refl
step_tells (BehindLetter room) b = label_step true room b (Some LabelBegins) (is_ascii_alphanumeric b) (eqb b 45) (behind_dot room b) refl refl
step_tells (BehindHyphen room) b = label_step false room b None (is_ascii_alphanumeric b) (eqb b 45) (no_dot_here room b) refl refl

-- an end
pub ends : (stand : Stand) → may_end stand ≡ true → IsRight stand []
ends AtomBegins e = absurd (false≢true e)
ends InAtom e = record { first = []; others = []; first_is = tt; others_are = tt; parts = refl }
ends LabelBegins e = absurd (false≢true e)
ends (BehindLetter room) e = record { first = []; others = []; first_is = (refl, omega arith); others_are = tt; parts = refl }
ends (BehindHyphen room) e = absurd (false≢true e)

pub no_end : (stand : Stand) → may_end stand ≡ false → IsRight stand [] → ⊥
no_end AtomBegins e d = empty_front IsAtom IsAtom d
no_end InAtom e d = false≢true (sym e)
no_end LabelBegins e d = empty_front IsLabel IsLabel d
no_end (BehindLetter room) e d = false≢true (sym e)
no_end (BehindHyphen room) e d = false≢true ((empty_front (IsTail false room) IsLabel d).0)

can_go_on : (stand : Stand) → HasRoom stand → CanGoOn (IsRight stand) []
unfolding is_atom_byte
can_go_on AtomBegins room = record { more = 97 ∷ []; right = record { first = 97 ∷ []; others = []; first_is = (refl, tt); others_are = tt; parts = refl } }
can_go_on InAtom room = record { more = []; right = ends InAtom refl }
can_go_on LabelBegins room = record { more = 97 ∷ []; right = record { first = 97 ∷ []; others = []; first_is = (refl, (refl, omega arith)); others_are = tt; parts = refl } }
can_go_on (BehindLetter n) room = record { more = []; right = ends (BehindLetter n) refl }
can_go_on (BehindHyphen n) room = record { more = 97 ∷ []; right = record { first = 97 ∷ []; others = []; first_is = (refl, omega (arith, room)); others_are = tt; parts = refl } }

-- what an answer says of the bytes from a place on
abbrev pub IsBadFrom : Stand → ℕ → List ℕ → ℕ → Type 0
IsBadFrom stand from bytes at = (place : ℕ) × IsBadAt (IsRight stand) bytes place × (at ≡ from + place)

abbrev pub StopTells : Stand → ℕ → List ℕ → Option ℕ → Type 0
StopTells stand from bytes answer = MatchOption answer (IsRight stand bytes) (λ at. IsBadFrom stand from bytes at)

told_end : (stand : Stand) (from : ℕ) (x : Bool) → HasRoom stand → may_end stand ≡ x → StopTells stand from [] (cond x None (Some from))
told_end stand from true room e = ends stand e
told_end stand from false room e = (0, record { within = omega arith; goes_on = can_go_on stand room; stuck = λ lt h. (let bad : ⊥ = omega arith in bad); wrong = λ eq h. no_end stand e h }, omega arith)

told_further : (stand next : Stand) (b : ℕ) (bs : List ℕ) (from : ℕ) (answer : Option ℕ) → Leads (IsRight stand) (IsRight next) b → StopTells next (from + 1) bs answer → StopTells stand from (b ∷ bs) answer
told_further stand next b bs from None leads told = leads.goes bs told
told_further stand next b bs from (Some at) leads told =
    let place = told.0 in
    let bad = told.1 in (
      suc place,
      record {
        within = omega (arith, bad.within);
        goes_on = record { more = bad.goes_on.more; right = leads.goes _ bad.goes_on.right };
        stuck = λ lt h.
            let one_more : suc place + 1 ≡ suc (place + 1) = omega arith in
            let k : CanGoOn (IsRight stand) (take (suc (place + 1)) (b ∷ bs)) = subst (λ n. CanGoOn (IsRight stand) (take n (b ∷ bs))) one_more h in
            bad.stuck (omega arith) (record { more = k.more; right = leads.went _ k.right });
        wrong = λ e h. bad.wrong (omega arith) (leads.went bs h);
      },
      omega (arith, told.2),
    )

told_step : (stand : Stand) (b : ℕ) (bs : List ℕ) (from : ℕ) (step : Option Stand) → HasRoom stand → StepTells (IsRight stand) b step
    → ((next : Stand) → HasRoom next → StopTells next (from + 1) bs (stop_at next (from + 1) bs)) → StopTells stand from (b ∷ bs) (stop_unless step from (λ next. stop_at next (from + 1) bs))
told_step stand b bs from None room dead told = (
  0,
  record {
    within = omega arith;
    goes_on = can_go_on stand room;
    stuck = λ lt h. dead h.more h.right;
    wrong = λ e h. (let bad : ⊥ = omega arith in bad);
  },
  omega arith,
)
told_step stand b bs from (Some next) room leads told = told_further stand next b bs from (stop_at next (from + 1) bs) leads.0 (told next leads.1)

pub stop_told : (bs : List ℕ) (stand : Stand) (from : ℕ) → HasRoom stand → StopTells stand from bs (stop_at stand from bs)
stop_told [] stand from room = told_end stand from (may_end stand) room refl
stop_told (b ∷ bs) stand from room = told_step stand b bs from (step_of stand b) room (step_tells stand b) (λ next more. stop_told bs next (from + 1) more)
