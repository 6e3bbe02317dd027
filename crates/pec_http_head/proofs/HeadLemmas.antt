-- What a reader says of a head is what its bytes say, and nothing else is.
use Rattle.std.proofs.Common.{◌≡◌, ℕ, ◌+◌, ◌<◌, ◌≤◌, Bool, true, false, cond, ltb, [], ◌∷◌, ◌++◌, length, Option, Some, None, ◌⊎◌, inl, inr, refl, sym, ◌∙◌, ap, subst, arith, ltb-true, ltb-false}
use Rattle.pec_types.specs.Bytes.{Bytes}
use Rattle.pec_http_head.specs.Cuts.{WholeCut, Ends, TooLarge, Short, cut_behind, cut_from, lines_with, step_of}
use Rattle.pec_http_head.specs.declared.stands.Stand.{Stand}
use Rattle.pec_http_head.proofs.RunLemmas.{Runs, RunsOn}

-- The bytes begin with some that are run through, so many of them with those before, and so many lines in all.
pub record Begins (R : Bytes → ℕ → Type 0) (at : ℕ) (text : Bytes) (bytes total : ℕ) : Type 0 where
  pub head : Bytes
  pub rest : Bytes
  pub parts : text ≡ head ++ rest
  pub size : bytes ≡ at + length head
  pub runs : R head total
  pub fits : bytes ≤ 65536

abbrev pub NoneBegins : (Bytes → ℕ → Type 0) → ℕ → Bytes → Type 0
NoneBegins R at text = (bytes total : ℕ) → Begins R at text bytes total → ⊥

-- what the bytes say
abbrev pub Says : (Bytes → ℕ → Type 0) → ℕ → Bytes → WholeCut → Type 0
Says R at text (Ends bytes) = (total : ℕ) × Begins R at text bytes total × (total ≤ 65)
Says R at text TooLarge = (NoneBegins R at text × (65536 ≤ at + length text)) ⊎ ((bytes : ℕ) × (total : ℕ) × Begins R at text bytes total × (65 < total))
Says R at text Short = NoneBegins R at text × (at + length text < 65536)

-- ---- a byte in front

-- what is run through behind a byte, and with it
pub record Steps (b : ℕ) (R Behind : Bytes → ℕ → Type 0) : Type 0 where
  pub none : (total : ℕ) → R [] total → ⊥
  pub into : (head : Bytes) (total : ℕ) → Behind head total → R (b ∷ head) total
  pub out : (head : Bytes) (total : ℕ) → R (b ∷ head) total → Behind head total

begins_in : (b : ℕ) (R Behind : Bytes → ℕ → Type 0) (at : ℕ) (bs : Bytes) (bytes total : ℕ) → Steps b R Behind → Begins Behind (at + 1) bs bytes total → Begins R at (b ∷ bs) bytes total
begins_in b R Behind at bs bytes total steps begins = record {
  head = b ∷ begins.head;
  rest = begins.rest;
  parts = ap (λ t. b ∷ t) begins.parts;
  size = omega (arith, begins.size);
  runs = steps.into begins.head total begins.runs;
  fits = begins.fits;
}

begins_out : (b : ℕ) (R Behind : Bytes → ℕ → Type 0) (at : ℕ) (bs : Bytes) (bytes total : ℕ) → Steps b R Behind → Begins R at (b ∷ bs) bytes total → Begins Behind (at + 1) bs bytes total
begins_out b R Behind at bs bytes total steps begins = by_head begins.head begins.parts begins.size begins.runs
  where
    by_head : (head : Bytes) → b ∷ bs ≡ head ++ begins.rest → bytes ≡ at + length head → R head total → Begins Behind (at + 1) bs bytes total
    by_head [] parts size runs = absurd (steps.none total runs)
    by_head (c ∷ head) parts size runs =
        let same : c ≡ b = cc in
        let behind : bs ≡ head ++ begins.rest = cc in
        record { head = head; rest = begins.rest; parts = behind; size = omega (arith, size); runs = steps.out head total (subst (λ d. R (d ∷ head) total) same runs); fits = begins.fits }

says_in : (b : ℕ) (R Behind : Bytes → ℕ → Type 0) (at : ℕ) (bs : Bytes) (cut : WholeCut) → Steps b R Behind → Says Behind (at + 1) bs cut → Says R at (b ∷ bs) cut
says_in b R Behind at bs (Ends bytes) steps says = (says.0, begins_in b R Behind at bs bytes says.0 steps says.1, says.2)
says_in b R Behind at bs TooLarge steps (inl says) =
    inl ((λ bytes total begins. says.0 bytes total (begins_out b R Behind at bs bytes total steps begins)), omega (arith, says.1))
says_in b R Behind at bs TooLarge steps (inr says) = inr (says.0, says.1, begins_in b R Behind at bs says.0 says.1 steps says.2, says.3)
says_in b R Behind at bs Short steps says =
    ((λ bytes total begins. says.0 bytes total (begins_out b R Behind at bs bytes total steps begins)), omega (arith, says.1))

-- ---- a step

-- behind the byte that ends a head
ends_here : (lines at : ℕ) (bs : Bytes) → at < 65536 → Begins (λ head total. (head ≡ []) × (total ≡ lines)) (at + 1) bs (at + 1) lines
ends_here lines at bs room = record { head = []; rest = bs; parts = refl; size = omega arith; runs = (refl, refl); fits = omega arith }

at_end : (lines at : ℕ) (bs : Bytes) (x : Bool) → ltb 65 lines ≡ x → at < 65536
    → Says (λ head total. (head ≡ []) × (total ≡ lines)) (at + 1) bs (cond x TooLarge (Ends (at + 1)))
at_end lines at bs true many room = inr (at + 1, lines, ends_here lines at bs room, ltb-true 65 lines many)
at_end lines at bs false few room = (lines, ends_here lines at bs room, ltb-false 65 lines few)

-- no room for another byte
no_more : (R : Bytes → ℕ → Type 0) (at : ℕ) (bs : Bytes) → ((total : ℕ) → R [] total → ⊥) → 65536 ≤ at → (bytes total : ℕ) → Begins R at bs bytes total → ⊥
no_more R at bs none full bytes total begins = by_head begins.head begins.size begins.runs
  where
    by_head : (head : Bytes) → bytes ≡ at + length head → R head total → ⊥
    by_head [] size runs = none total runs
    by_head (c ∷ head) size runs = let fits : bytes ≤ 65536 = begins.fits in omega (arith, size)

going_on : (next : Stand) (lines at : ℕ) (bs : Bytes) (x : Bool) → ltb (at + 1) 65536 ≡ x
    → (at + 1 < 65536 → Says (Runs next lines) (at + 1) bs (cut_from next lines (at + 1) bs))
    → Says (Runs next lines) (at + 1) bs (cond x (cut_from next lines (at + 1) bs) TooLarge)
going_on next lines at bs true room ih = ih (ltb-true (at + 1) 65536 room)
going_on next lines at bs false full ih =
    let over : 65536 ≤ at + 1 = ltb-false (at + 1) 65536 full in
    inl ((λ bytes total begins. no_more (Runs next lines) (at + 1) bs (λ total h. h) over bytes total begins), omega arith)

by_step : (o : Option Stand) (lines at : ℕ) (bs : Bytes) → at < 65536
    → ((next : Stand) → at + 1 < 65536 → Says (Runs next lines) (at + 1) bs (cut_from next lines (at + 1) bs))
    → Says (λ head total. RunsOn o lines head total (λ next. Runs next lines head total)) (at + 1) bs (cut_behind o lines (at + 1) (λ next. cut_from next lines (at + 1) bs))
by_step None lines at bs room ih = at_end lines at bs (ltb 65 lines) refl room
by_step (Some next) lines at bs room ih = going_on next lines at bs (ltb (at + 1) 65536) refl (ih next)

steps_of : (stand : Stand) (lines b : ℕ) → Steps b (Runs stand lines) (λ head total. RunsOn (step_of stand b) (lines_with stand lines b) head total (λ next. Runs next (lines_with stand lines b) head total))
steps_of stand lines b = record { none = λ total h. h; into = λ head total h. h; out = λ head total h. h }

none_of_none : (stand : Stand) (lines at : ℕ) → NoneBegins (Runs stand lines) at []
none_of_none stand lines at bytes total begins = by_head begins.head begins.parts begins.runs
  where
    by_head : (head : Bytes) → [] ≡ head ++ begins.rest → Runs stand lines head total → ⊥
    by_head [] parts runs = runs
    by_head (c ∷ head) parts runs = cc

pub told_from : (stand : Stand) (lines at : ℕ) (text : Bytes) → at < 65536 → Says (Runs stand lines) at text (cut_from stand lines at text)
told_from stand lines at [] room = (none_of_none stand lines at, omega arith)
told_from stand lines at (b ∷ bs) room =
    says_in b (Runs stand lines) (λ head total. RunsOn (step_of stand b) (lines_with stand lines b) head total (λ next. Runs next (lines_with stand lines b) head total)) at bs
    (cut_behind (step_of stand b) (lines_with stand lines b) (at + 1) (λ next. cut_from next (lines_with stand lines b) (at + 1) bs))
    (steps_of stand lines b)
    (by_step (step_of stand b) (lines_with stand lines b) at bs room (λ next more. told_from next (lines_with stand lines b) (at + 1) bs more))

-- ---- and nothing else

-- one front is run through at most
one_on : (o : Option Stand) (lines : ℕ) (head other rest more : Bytes) (total also : ℕ) → head ++ rest ≡ other ++ more
    → ((next : Stand) → Runs next lines head total → Runs next lines other also → (length head ≡ length other) × (total ≡ also))
    → RunsOn o lines head total (λ next. Runs next lines head total) → RunsOn o lines other also (λ next. Runs next lines other also)
    → (length head ≡ length other) × (total ≡ also)
one_on None lines head other rest more total also e ih h k = (ap (λ l. length l) (h.0 ∙ sym k.0), h.1 ∙ sym k.1)
one_on (Some next) lines head other rest more total also e ih h k = ih next h k

one_run : (stand : Stand) (lines : ℕ) (head other rest more : Bytes) (total also : ℕ) → head ++ rest ≡ other ++ more
    → Runs stand lines head total → Runs stand lines other also → (length head ≡ length other) × (total ≡ also)
one_run stand lines [] other rest more total also e h k = absurd h
one_run stand lines (b ∷ head) [] rest more total also e h k = absurd k
one_run stand lines (b ∷ head) (c ∷ other) rest more total also e h k =
    let same : c ≡ b = cc in
    let behind : head ++ rest ≡ other ++ more = cc in
    let both : (length head ≡ length other) × (total ≡ also) =
    one_on (step_of stand b) (lines_with stand lines b) head other rest more total also behind
    (λ next p q. one_run next (lines_with stand lines b) head other rest more total also behind p q)
    h (subst (λ d. Runs stand lines (d ∷ other) also) same k) in
    (omega (arith, both.0), both.1)

pub one_begins : (stand : Stand) (lines at : ℕ) (text : Bytes) (bytes others total also : ℕ) → Begins (Runs stand lines) at text bytes total
    → Begins (Runs stand lines) at text others also → (bytes ≡ others) × (total ≡ also)
one_begins stand lines at text bytes others total also first second =
    let both : (length first.head ≡ length second.head) × (total ≡ also) =
    one_run stand lines first.head second.head first.rest second.rest total also (sym first.parts ∙ second.parts) first.runs second.runs in
    (omega (arith, first.size, second.size, both.0), both.1)

-- the bytes say one thing
pub one_saying : (stand : Stand) (lines at : ℕ) (text : Bytes) (cut other : WholeCut) → Says (Runs stand lines) at text cut → Says (Runs stand lines) at text other → cut ≡ other
one_saying stand lines at text (Ends bytes) (Ends others) h k = ap (λ n. Ends n) (one_begins stand lines at text bytes others h.0 k.0 h.1 k.1).0
one_saying stand lines at text (Ends bytes) TooLarge h (inl k) = absurd (k.0 bytes h.0 h.1)
one_saying stand lines at text (Ends bytes) TooLarge h (inr k) =
    let same : h.0 ≡ k.1 = (one_begins stand lines at text bytes k.0 h.0 k.1 h.1 k.2).1 in absurd (omega (arith, same, h.2, k.3))
one_saying stand lines at text (Ends bytes) Short h k = absurd (k.0 bytes h.0 h.1)
one_saying stand lines at text TooLarge (Ends others) (inl h) k = absurd (h.0 others k.0 k.1)
one_saying stand lines at text TooLarge (Ends others) (inr h) k =
    let same : k.0 ≡ h.1 = (one_begins stand lines at text others h.0 k.0 h.1 k.1 h.2).1 in absurd (omega (arith, same, k.2, h.3))
one_saying stand lines at text TooLarge TooLarge h k = refl
one_saying stand lines at text TooLarge Short (inl h) k = absurd (omega (arith, h.1, k.1))
one_saying stand lines at text TooLarge Short (inr h) k = absurd (k.0 h.0 h.1 h.2)
one_saying stand lines at text Short (Ends others) h k = absurd (h.0 others k.0 k.1)
one_saying stand lines at text Short TooLarge h (inl k) = absurd (omega (arith, h.1, k.1))
one_saying stand lines at text Short TooLarge h (inr k) = absurd (h.0 k.0 k.1 k.2)
one_saying stand lines at text Short Short h k = refl
