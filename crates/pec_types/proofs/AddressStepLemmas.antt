-- The bytes that pass are the addresses in lower case.
use Rattle.std.proofs.Common.{◌≡◌, ℕ, ◌-◌, ◌≤◌, ◌⊎◌, Bool, true, false, cond, eqb, ltb, List, [], ◌∷◌, ◌++◌, length, Option, Some, None, IsTrue, refl, sym, ◌∙◌, ap, subst, inl, inr, arith, eqb-true}
use Rattle.std.proofs.lemmas.Bool.{false≢true}
use Rattle.std.proofs.lemmas.Bool.Decides.{nat_tests}
use Rattle.std.specs.Char.{is_ascii_uppercase, is_ascii_alphanumeric, to_ascii_lowercase}
use Rattle.pec_types.specs.Address.{is_atom_byte, IsDomain, lowered, IsLowerAddress}
use Rattle.pec_types.specs.AddressReading.{step_of, in_label, may_end}
use Rattle.pec_types.specs.AddressSteps.{behind_at, further, is_end, passes_behind, passes}
use Rattle.pec_types.specs.declared.scanning.Stand.{Stand}
use Rattle.pec_types.specs.declared.scanning.Stand.TheVariants.{AtomBegins, InAtom, LabelBegins, BehindLetter, BehindHyphen}
use Rattle.pec_types.proofs.PartLaws.{IsRight, HasRoom, Leads, StepTells, step_tells, ends, no_end}

-- What may follow: in the local part the rest of it, an `@` and a domain; in the domain the rest of that.

abbrev in_local : Stand → Bool
in_local AtomBegins = true
in_local InAtom = true
in_local LabelBegins = false
in_local (BehindLetter room) = false
in_local (BehindHyphen room) = false

record BeforeDomain (R : List ℕ → Type 0) (bytes : List ℕ) : Type 0 where
  pub local : List ℕ
  pub domain : List ℕ
  pub local_is : R local
  pub domain_is : IsDomain domain
  pub parts : bytes ≡ local ++ 64 ∷ domain

abbrev Follows : Bool → (List ℕ → Type 0) → List ℕ → Type 0
Follows true R bytes = BeforeDomain R bytes
Follows false R bytes = R bytes

abbrev MayFollow : Stand → List ℕ → Type 0
MayFollow stand bytes = Follows (in_local stand) (IsRight stand) bytes

follows_more : (side : Bool) (R S : List ℕ → Type 0) (b : ℕ) (bs : List ℕ) → Leads R S b → Follows side S bs → Follows side R (b ∷ bs)
follows_more true R S b bs leads f = record {
  local = b ∷ f.local;
  domain = f.domain;
  local_is = leads.goes f.local f.local_is;
  domain_is = f.domain_is;
  parts = ap (λ x. b ∷ x) f.parts;
}
follows_more false R S b bs leads f = leads.goes bs f

-- a step that is no `@` stays in the local part, or in the domain
abbrev KeepsSide : Bool → Option Stand → Type 0
KeepsSide side None = Unit {0}
KeepsSide side (Some next) = in_local next ≡ side

keeps_if : (side x : Bool) (o p : Option Stand) → KeepsSide side o → KeepsSide side p → KeepsSide side (cond x o p)
keeps_if side true o p h k = h
keeps_if side false o p h k = k

label_keeps : (room b : ℕ) (dot : Option Stand) → KeepsSide false dot → KeepsSide false (in_label room b dot)
unfolding in_label
label_keeps room b dot h =
    let letter = cond (ltb 0 room) (Some (BehindLetter (room - 1))) None in
    let hyphen = cond (ltb 1 room) (Some (BehindHyphen (room - 1))) None in
    let other = cond (eqb b 46) dot None in
    keeps_if false (is_ascii_alphanumeric b) letter (cond (eqb b 45) hyphen other) (keeps_if false (ltb 0 room) (Some (BehindLetter (room - 1))) None refl tt)
    (keeps_if false (eqb b 45) hyphen other (keeps_if false (ltb 1 room) (Some (BehindHyphen (room - 1))) None refl tt) (keeps_if false (eqb b 46) dot None h tt))

step_keeps : (stand : Stand) (b : ℕ) → KeepsSide (in_local stand) (step_of stand b)
unfolding step_of
step_keeps AtomBegins b = keeps_if true (is_atom_byte b) (Some InAtom) None refl tt
step_keeps InAtom b =
    keeps_if true (is_atom_byte b) (Some InAtom) (cond (eqb b 46) (Some AtomBegins) None) refl (keeps_if true (eqb b 46) (Some AtomBegins) None refl tt)
step_keeps LabelBegins b = keeps_if false (is_ascii_alphanumeric b) (Some (BehindLetter 62)) None refl tt
step_keeps (BehindLetter room) b = label_keeps room b (Some LabelBegins) refl
step_keeps (BehindHyphen room) b = label_keeps room b None tt

-- no part of an address has an `@`
no_at_step : (stand : Stand) → step_of stand 64 ≡ None
unfolding step_of in_label is_atom_byte
no_at_step AtomBegins = refl
no_at_step InAtom = refl
no_at_step LabelBegins = refl
no_at_step (BehindLetter room) = refl
no_at_step (BehindHyphen room) = refl

no_at : (stand : Stand) (bs : List ℕ) → IsRight stand (64 ∷ bs) → ⊥
no_at stand bs right = subst (λ o. StepTells (IsRight stand) 64 o) (no_at_step stand) (step_tells stand 64) bs right

-- Capitals.

abbrev IsLower : List ℕ → Type 0
IsLower bytes = lowered bytes ≡ bytes

no_capital : (b : ℕ) → to_ascii_lowercase b ≡ b → is_ascii_uppercase b ≡ false
no_capital b same = grind (arith, nat_tests)

same_lower : (b : ℕ) → is_ascii_uppercase b ≡ false → to_ascii_lowercase b ≡ b
same_lower b small = grind (arith, nat_tests)

lower_head : (b : ℕ) (bs : List ℕ) → IsLower (b ∷ bs) → to_ascii_lowercase b ≡ b
lower_head b bs same = cc

lower_tail : (b : ℕ) (bs : List ℕ) → IsLower (b ∷ bs) → IsLower bs
lower_tail b bs same = cc

lower_more : (b : ℕ) (bs : List ℕ) → to_ascii_lowercase b ≡ b → IsLower bs → IsLower (b ∷ bs)
lower_more b bs head tail = cc

-- What passes may follow.

abbrev Told : Stand → List ℕ → Type 0
Told stand bytes = MayFollow stand bytes × IsLower bytes

told_end : (stand : Stand) → is_end stand ≡ true → Told stand []
told_end AtomBegins e = absurd (false≢true e)
told_end InAtom e = absurd (false≢true e)
told_end LabelBegins e = absurd (false≢true e)
told_end (BehindLetter room) e = (ends (BehindLetter room) refl, refl)
told_end (BehindHyphen room) e = absurd (false≢true e)

told_at : (stand : Stand) (bs : List ℕ) → passes_behind (behind_at stand) (λ next. passes next bs) ≡ true → (passes LabelBegins bs ≡ true → Told LabelBegins bs) → Told stand (64 ∷ bs)
told_at AtomBegins bs e more = absurd (false≢true e)
told_at InAtom bs e more =
    let d = more e in (
      record { local = []; domain = bs; local_is = ends InAtom refl; domain_is = d.0; parts = refl },
      lower_more 64 bs refl d.1,
    )
told_at LabelBegins bs e more = absurd (false≢true e)
told_at (BehindLetter room) bs e more = absurd (false≢true e)
told_at (BehindHyphen room) bs e more = absurd (false≢true e)

told_step : (stand : Stand) (b : ℕ) (bs : List ℕ) (o : Option Stand) → to_ascii_lowercase b ≡ b → StepTells (IsRight stand) b o → KeepsSide (in_local stand) o
    → passes_behind o (λ next. passes next bs) ≡ true → ((next : Stand) → HasRoom next → passes next bs ≡ true → Told next bs) → Told stand (b ∷ bs)
told_step stand b bs None small tells keeps e more = absurd (false≢true e)
told_step stand b bs (Some next) small tells keeps e more =
    let d = more next tells.1 e in
    (follows_more (in_local stand) (IsRight stand) (IsRight next) b bs tells.0 (subst (λ side. Follows side (IsRight next) bs) keeps d.0), lower_more b bs small d.1)

told_byte : (stand : Stand) (b : ℕ) (bs : List ℕ) (capital at : Bool) → is_ascii_uppercase b ≡ capital → eqb b 64 ≡ at
    → passes_behind (cond capital None (cond at (behind_at stand) (step_of stand b))) (λ next. passes next bs) ≡ true
    → ((next : Stand) → HasRoom next → passes next bs ≡ true → Told next bs) → Told stand (b ∷ bs)
told_byte stand b bs true at big sign e more = absurd (false≢true e)
told_byte stand b bs false true small sign e more = subst (λ c. Told stand (c ∷ bs)) (sym (eqb-true b 64 sign)) (told_at stand bs e (more LabelBegins tt))
told_byte stand b bs false false small sign e more = told_step stand b bs (step_of stand b) (same_lower b small) (step_tells stand b) (step_keeps stand b) e more

told : (bytes : List ℕ) (stand : Stand) → HasRoom stand → passes stand bytes ≡ true → Told stand bytes
unfolding further
told [] stand room e = told_end stand e
told (b ∷ bs) stand room e = told_byte stand b bs (is_ascii_uppercase b) (eqb b 64) refl refl e (λ next more. told bs next more)

-- What may follow passes.

no_domain : (local domain : List ℕ) → [] ≡ local ++ 64 ∷ domain → ⊥
no_domain [] domain e = let h : ⊥ = cc in h
no_domain (b ∷ bs) domain e = let h : ⊥ = cc in h

passes_end : (stand : Stand) → MayFollow stand [] → is_end stand ≡ true
passes_end AtomBegins f = absurd (no_domain f.local f.domain f.parts)
passes_end InAtom f = absurd (no_domain f.local f.domain f.parts)
passes_end LabelBegins f = absurd (no_end LabelBegins refl f)
passes_end (BehindLetter room) f = refl
passes_end (BehindHyphen room) f = absurd (no_end (BehindHyphen room) refl f)

-- the first byte is the `@`, or the local part goes on
at_cut : (R : List ℕ → Type 0) (b : ℕ) (bs local domain : List ℕ) → R local → IsDomain domain → b ∷ bs ≡ local ++ 64 ∷ domain
    → ((b ≡ 64) × (R [] × IsDomain bs)) ⊎ BeforeDomain (λ rest. R (b ∷ rest)) bs
at_cut R b bs [] domain right is e =
    let first : b ≡ 64 = cc in
    let rest : domain ≡ bs = cc in
    inl (first, (right, subst IsDomain rest is))
at_cut R b bs (c ∷ local) domain right is e =
    let first : c ≡ b = cc in
    let rest : bs ≡ local ++ 64 ∷ domain = cc in
    inr (record { local = local; domain = domain; local_is = subst (λ x. R (x ∷ local)) first right; domain_is = is; parts = rest })

passes_at_local : (stand : Stand) (bs : List ℕ) → may_end stand ≡ true → in_local stand ≡ true → (passes LabelBegins bs ≡ true)
    → passes_behind (behind_at stand) (λ next. passes next bs) ≡ true
passes_at_local AtomBegins bs end side e = absurd (false≢true end)
passes_at_local InAtom bs end side e = e
passes_at_local LabelBegins bs end side e = absurd (false≢true side)
passes_at_local (BehindLetter room) bs end side e = absurd (false≢true side)
passes_at_local (BehindHyphen room) bs end side e = absurd (false≢true side)

must_end : (stand : Stand) (x : Bool) → may_end stand ≡ x → IsRight stand [] → may_end stand ≡ true
must_end stand true e right = e
must_end stand false e right = absurd (no_end stand e right)

passes_at : (stand : Stand) (side : Bool) (bs : List ℕ) → in_local stand ≡ side → Follows side (IsRight stand) (64 ∷ bs) → (IsDomain bs → passes LabelBegins bs ≡ true)
    → passes_behind (behind_at stand) (λ next. passes next bs) ≡ true
passes_at stand true bs is f more = elim (at_cut (IsRight stand) 64 bs f.local f.domain f.local_is f.domain_is f.parts) [
  | inl here ↦ passes_at_local stand bs (must_end stand (may_end stand) refl here.1.0) is (more here.1.1)
  | inr further ↦ absurd (no_at stand further.local further.local_is)
]
passes_at stand false bs is f more = absurd (no_at stand bs f)

follows_on : (side : Bool) (stand next : Stand) (b : ℕ) (bs : List ℕ) → (b ≡ 64 → ⊥) → Leads (IsRight stand) (IsRight next) b → Follows side (IsRight stand) (b ∷ bs)
    → Follows side (IsRight next) bs
follows_on true stand next b bs other leads f = elim (at_cut (IsRight stand) b bs f.local f.domain f.local_is f.domain_is f.parts) [
  | inl here ↦ absurd (other here.0)
  | inr on ↦ record { local = on.local; domain = on.domain; local_is = leads.went on.local on.local_is; domain_is = on.domain_is; parts = on.parts }
]
follows_on false stand next b bs other leads f = leads.went bs f

dead_end : (side : Bool) (R : List ℕ → Type 0) (b : ℕ) (bs : List ℕ) → (b ≡ 64 → ⊥) → ((rest : List ℕ) → R (b ∷ rest) → ⊥) → Follows side R (b ∷ bs) → ⊥
dead_end true R b bs other dead f = elim (at_cut R b bs f.local f.domain f.local_is f.domain_is f.parts) [
  | inl here ↦ other here.0
  | inr on ↦ dead on.local on.local_is
]
dead_end false R b bs other dead f = dead bs f

passes_step : (stand : Stand) (b : ℕ) (bs : List ℕ) (o : Option Stand) → (b ≡ 64 → ⊥) → StepTells (IsRight stand) b o → KeepsSide (in_local stand) o → MayFollow stand (b ∷ bs)
    → ((next : Stand) → MayFollow next bs → passes next bs ≡ true) → passes_behind o (λ next. passes next bs) ≡ true
passes_step stand b bs None other tells keeps f more = absurd (dead_end (in_local stand) (IsRight stand) b bs other tells f)
passes_step stand b bs (Some next) other tells keeps f more =
    more next (subst (λ side. Follows side (IsRight next) bs) (sym keeps) (follows_on (in_local stand) stand next b bs other tells.0 f))

passes_byte : (stand : Stand) (b : ℕ) (bs : List ℕ) (at : Bool) → eqb b 64 ≡ at → MayFollow stand (b ∷ bs) → ((next : Stand) → MayFollow next bs → passes next bs ≡ true)
    → passes_behind (cond at (behind_at stand) (step_of stand b)) (λ next. passes next bs) ≡ true
passes_byte stand b bs true sign f more =
    passes_at stand (in_local stand) bs refl (subst (λ c. MayFollow stand (c ∷ bs)) (eqb-true b 64 sign) f) (more LabelBegins)
passes_byte stand b bs false sign f more =
    passes_step stand b bs (step_of stand b) (λ e. let t : true ≡ false = subst (λ c. eqb c 64 ≡ false) e sign in false≢true (sym t)) (step_tells stand b) (step_keeps stand b) f more

passes_lower : (stand : Stand) (b : ℕ) (bs : List ℕ) (capital : Bool) → is_ascii_uppercase b ≡ capital → to_ascii_lowercase b ≡ b
    → passes_behind (cond false None (cond (eqb b 64) (behind_at stand) (step_of stand b))) (λ next. passes next bs) ≡ true
    → passes_behind (cond capital None (cond (eqb b 64) (behind_at stand) (step_of stand b))) (λ next. passes next bs) ≡ true
passes_lower stand b bs true big same e = absurd (false≢true (sym (no_capital b same) ∙ big))
passes_lower stand b bs false small same e = e

follower_passes : (bytes : List ℕ) (stand : Stand) → MayFollow stand bytes → IsLower bytes → passes stand bytes ≡ true
unfolding further
follower_passes [] stand f lower = passes_end stand f
follower_passes (b ∷ bs) stand f lower =
    passes_lower stand b bs (is_ascii_uppercase b) refl (lower_head b bs lower)
    (passes_byte stand b bs (eqb b 64) refl f (λ next g. follower_passes bs next g (lower_tail b bs lower)))

-- Addresses.

pub address_passes : (bytes : List ℕ) → IsLowerAddress bytes → IsTrue (passes AtomBegins bytes) × (length bytes ≤ 254)
address_passes bytes is =
    let a = is.address in
    (follower_passes bytes AtomBegins (record { local = a.local; domain = a.domain; local_is = a.local_is; domain_is = a.domain_is; parts = a.parts }) is.lower, a.short)

pub passed_address : (bytes : List ℕ) → IsTrue (passes AtomBegins bytes) → length bytes ≤ 254 → IsLowerAddress bytes
passed_address bytes passed short =
    let t = told bytes AtomBegins tt passed in
    let f = t.0 in
    record {
      address = record { local = f.local; domain = f.domain; local_is = f.local_is; domain_is = f.domain_is; parts = f.parts; short = short };
      lower = t.1;
    }
