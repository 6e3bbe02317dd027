-- Steps one after another: what they leave of each journal, and how they are joined.
use Rattle.std.proofs.Common.{◌≡◌, ℕ, zero, suc, ◌<◌, ◌≤◌, ◌==◌, List, [], ◌∷◌, ◌++◌, Bool, true, false, ◌⊎◌, inl, inr, refl, ap, sym, subst, ◌∙◌, arith}
use Rattle.std.specs.Prelude.{fold, if◌then◌else◌}
use Rattle.std.proofs.lemmas.Bool.{cases_eq, cases_lt, eq-eqb, ne_eqb}
use Rattle.std.proofs.lemmas.List.{append-nil, append_assoc}
use Rattle.std.proofs.lemmas.List.Sums.{fold-append}
use Rattle.pec_records.specs.declared.entries.Entry.{Entry}
use Rattle.pec_ledger.specs.Along.{GoesOnAs}
use Rattle.pec_ledger.specs.Half.{Half, empty}
use Rattle.pec_ledger.specs.Ledger.{Follows, Joint, Journals, Meets, ledger}
use Rattle.pec_ledger.specs.Steps.{half, step}
use Rattle.pec_ledger.specs.Trade.{Trade}
use Rattle.pec_runs.specs.Reaching.{AllMay, IsReached, OneStep, behind_steps, with_step}

-- ---- what steps append

-- the entries of a provider's own steps
pub own : ℕ → List OneStep → List Entry
own provider [] = []
own provider (s ∷ steps) = if provider == s.provider then s.entry ∷ own provider steps else own provider steps

own_by : (b : Bool) (e : Entry) (es more rest : List Entry)
    → (if b then es ++ e ∷ [] else es) ++ more ≡ es ++ (if b then e ∷ more else more)
own_by true e es more rest = append_assoc es (e ∷ []) more
own_by false e es more rest = refl

pub behind_is : (J : Journals) (steps : List OneStep) (q : ℕ) → behind_steps J steps q ≡ J q ++ own q steps
unfolding own
behind_is J [] q = sym (append-nil (J q))
behind_is J (s ∷ steps) q =
    behind_is (with_step J s) steps q ∙ own_by (q == s.provider) s.entry (J q) (own q steps) []

own_join : (b : Bool) (e : Entry) (xs ys zs : List Entry) → xs ≡ ys ++ zs
    → (if b then e ∷ xs else xs) ≡ (if b then e ∷ ys else ys) ++ zs
own_join true e xs ys zs is = ap (λ l. e ∷ l) is
own_join false e xs ys zs is = is

pub own_append : (q : ℕ) (xs ys : List OneStep) → own q (xs ++ ys) ≡ own q xs ++ own q ys
unfolding own
own_append q [] ys = refl
own_append q (s ∷ xs) ys = own_join (q == s.provider) s.entry (own q (xs ++ ys)) (own q xs) (own q ys)
    (own_append q xs ys)

-- one provider's entries, as steps
pub steps_by : ℕ → List Entry → List OneStep
steps_by p [] = []
steps_by p (e ∷ es) = record { provider = p; entry = e } ∷ steps_by p es

same_is : (n : ℕ) → (n == n) ≡ true
same_is n = eq-eqb n n refl

other_is : (a b : ℕ) → (a ≡ b → ⊥) → (a == b) ≡ false
other_is a b other = ne_eqb a b other

pub own_here : (p : ℕ) (es : List Entry) → own p (steps_by p es) ≡ es
unfolding own steps_by
own_here p [] = refl
own_here p (e ∷ es) =
    ap (λ (b : Bool). if b then e ∷ own p (steps_by p es) else own p (steps_by p es)) (same_is p)
    ∙ ap (λ l. e ∷ l) (own_here p es)

pub own_elsewhere : (q p : ℕ) (es : List Entry) → (q ≡ p → ⊥) → own q (steps_by p es) ≡ []
unfolding own steps_by
own_elsewhere q p [] other = refl
own_elsewhere q p (e ∷ es) other =
    ap (λ (b : Bool). if b then e ∷ own q (steps_by p es) else own q (steps_by p es)) (other_is q p other)
    ∙ own_elsewhere q p es other

-- ---- what may follow, in journals that went on

abbrev pub GoOn : Journals → Journals → Type 0
GoOn J K = (q : ℕ) → GoesOnAs (J q) (K q)

-- what the ledger's law of licences says of joint conditions
abbrev pub JointStays : Trade → Type 0
JointStays trade = (old new : Journals) → GoOn old new → (p : ℕ) (e : Entry) → Joint trade old p e → Joint trade new p e

pub goes_on_itself : {X : Type 0} (xs : List X) → GoesOnAs xs xs
goes_on_itself xs = ([], sym (append-nil xs))

with_by : (b : Bool) (e : Entry) (xs ys : List Entry) → GoesOnAs xs ys → GoesOnAs xs (if b then ys ++ e ∷ [] else ys)
with_by true e xs ys more = (more.0 ++ e ∷ [], ap (λ l. l ++ e ∷ []) more.1 ∙ append_assoc xs more.0 (e ∷ []))
with_by false e xs ys more = more

goes_on_step : (J K : Journals) (s : OneStep) → GoOn J K → GoOn J (with_step K s)
goes_on_step J K s more q = with_by (q == s.provider) s.entry (J q) (K q) (more q)

pub half_more : (trade : Trade) (p : ℕ) (es more : List Entry)
    → half trade p (es ++ more) ≡ fold (step trade p) (half trade p es) more
unfolding half
half_more trade p es more = fold-append (step trade p) empty es more

module _ (trade : Trade) (stays : JointStays trade) where
  -- a step in journals that went on, where the provider's own is this
  pub meets_on : (J K : Journals) → GoOn J K → (p : ℕ) (h : Half) → ledger trade K p ≡ h → (e : Entry)
      → Meets trade J p h e
      → Meets trade K p (ledger trade K p) e
  meets_on J K more p h is e meets =
      subst (λ (g : Half). Meets trade K p g e) (sym is)
      (record {
        own = meets.own;
        in_time = meets.in_time;
        in_range = meets.in_range;
        joint = stays J K more p e meets.joint;
      })

  with_own : (K : Journals) (p : ℕ) (e : Entry) → with_step K (record { provider = p; entry = e }) p ≡ K p ++ e ∷ []
  with_own K p e = ap (λ (b : Bool). if b then K p ++ e ∷ [] else K p) (same_is p)

  ledger_with : (K : Journals) (p : ℕ) (e : Entry) (h : Half) → ledger trade K p ≡ h
      → ledger trade (with_step K (record { provider = p; entry = e })) p ≡ step trade p h e
  unfolding ledger
  ledger_with K p e h is =
      ap (half trade p) (with_own K p e) ∙ (half_more trade p (K p) (e ∷ []) ∙ ap (λ (g : Half). step trade p g e) is)

  -- entries that may follow one another may be steps one after another
  pub follow_steps : (J K : Journals) → GoOn J K → (p : ℕ) (h : Half) → ledger trade K p ≡ h → (es : List Entry)
      → Follows trade J p h es → AllMay trade K (steps_by p es)
  unfolding steps_by
  follow_steps J K more p h is [] follows = tt
  follow_steps J K more p h is (e ∷ es) follows = (
    meets_on J K more p h is e follows.0,
    follow_steps J (with_step K (record { provider = p; entry = e }))
        (goes_on_step J K (record { provider = p; entry = e }) more)
        p (step trade p h e) (ledger_with K p e h is) es follows.1,
  )

  pub may_append : (J : Journals) (xs ys : List OneStep) → AllMay trade J xs → AllMay trade (behind_steps J xs) ys
      → AllMay trade J (xs ++ ys)
  may_append J [] ys a b = b
  may_append J (s ∷ xs) ys a b = (a.0, may_append (with_step J s) xs ys a.1 b)

  -- ---- journals that are alike

  abbrev pub Alike : Journals → Journals → Type 0
  Alike J K = (q : ℕ) → J q ≡ K q

  pub alike_on : (J K : Journals) → Alike J K → GoOn J K
  alike_on J K same q = ([], sym (same q) ∙ sym (append-nil (J q)))

  alike_with : (J K : Journals) (s : OneStep) → Alike J K → Alike (with_step J s) (with_step K s)
  alike_with J K s same q = ap (λ (es : List Entry). if q == s.provider then es ++ s.entry ∷ [] else es) (same q)

  ledger_alike : (J K : Journals) → Alike J K → (p : ℕ) → ledger trade K p ≡ ledger trade J p
  unfolding ledger
  ledger_alike J K same p = ap (half trade p) (sym (same p))

  pub may_alike : (J K : Journals) → Alike J K → (steps : List OneStep) → AllMay trade J steps → AllMay trade K steps
  may_alike J K same [] a = tt
  may_alike J K same (s ∷ steps) a = (
    meets_on J K (alike_on J K same) s.provider (ledger trade J s.provider)
        (ledger_alike J K same s.provider) s.entry a.0,
    may_alike (with_step J s) (with_step K s) (alike_with J K s same) steps a.1,
  )

  -- ---- reaching on

  pub reached_itself : (J : Journals) → IsReached trade J J
  reached_itself J = record { steps = []; each = tt; leads = λ q. refl }

  pub reached_on : (J K L : Journals) → IsReached trade J K → IsReached trade K L → IsReached trade J L
  reached_on J K L first second = record {
    steps = first.steps ++ second.steps;
    each = may_append J first.steps second.steps first.each
        (may_alike K (behind_steps J first.steps) first.leads second.steps second.each);
    leads = λ q.
        second.leads q
        ∙ (behind_is K second.steps q
        ∙ (ap (λ (es : List Entry). es ++ own q second.steps) (first.leads q ∙ behind_is J first.steps q)
        ∙ (append_assoc (J q) (own q first.steps) (own q second.steps)
        ∙ (ap (λ (es : List Entry). J q ++ es) (sym (own_append q first.steps second.steps))
        ∙ sym (behind_is J (first.steps ++ second.steps) q)))));
  }

  -- ---- all providers, one after another

  module _ (J L : Journals) (each : (p : ℕ)
      → (es : List Entry) × (L p ≡ J p ++ es) × Follows trade J p (half trade p (J p)) es) where
    pub steps_upto : ℕ → List OneStep
    steps_upto zero = []
    steps_upto (suc n) = steps_upto n ++ steps_by n (each n).0

    own_none : (q n : ℕ) → n ≤ q → own q (steps_upto n) ≡ []
    unfolding own steps_upto
    own_none q zero l = refl
    own_none q (suc n) l =
        own_append q (steps_upto n) (steps_by n (each n).0)
        ∙ (ap (λ (es : List Entry). es ++ own q (steps_by n (each n).0)) (own_none q n (omega arith))
        ∙ own_elsewhere q n (each n).0 (λ (e : q ≡ n). absurd (omega (arith, e, l))))

    own_some : (q n : ℕ) → q < n → own q (steps_upto n) ≡ (each q).0
    unfolding own steps_upto
    own_some q zero l = absurd (omega arith)
    own_some q (suc n) l =
        own_append q (steps_upto n) (steps_by n (each n).0)
        ∙ elim (cases_eq q n) [
          | inl same ↦
              ap (λ (es : List Entry). es ++ own q (steps_by n (each n).0)) (own_none q n (omega (arith, same)))
              ∙ subst (λ (k : ℕ). own q (steps_by k (each k).0) ≡ (each q).0) same (own_here q (each q).0)
          | inr other ↦
              ap (λ (es : List Entry). es ++ own q (steps_by n (each n).0)) (own_some q n (omega (arith, l, other)))
              ∙ (ap (λ (es : List Entry). (each q).0 ++ es) (own_elsewhere q n (each n).0 other)
              ∙ append-nil (each q).0)
        ]

    behind_on : (n : ℕ) → GoOn J (behind_steps J (steps_upto n))
    behind_on n q = (own q (steps_upto n), behind_is J (steps_upto n) q)

    ledger_still : (n : ℕ) → ledger trade (behind_steps J (steps_upto n)) n ≡ half trade n (J n)
    unfolding ledger
    ledger_still n =
        ap (half trade n) (behind_is J (steps_upto n) n
        ∙ (ap (λ (es : List Entry). J n ++ es) (own_none n n (omega arith)) ∙ append-nil (J n)))

    all_may : (n : ℕ) → AllMay trade J (steps_upto n)
    unfolding steps_upto
    all_may zero = tt
    all_may (suc n) =
        may_append J (steps_upto n) (steps_by n (each n).0) (all_may n)
        (follow_steps J (behind_steps J (steps_upto n)) (behind_on n) n (half trade n (J n)) (ledger_still n)
        (each n).0 (each n).2)

    -- where only the first so many went on
    pub reached_by : (n : ℕ) → ((q : ℕ) → n ≤ q → L q ≡ J q) → IsReached trade J L
    reached_by n others = record {
      steps = steps_upto n;
      each = all_may n;
      leads = λ q. elim (by_place q) [
        | inl l ↦ (each q).1 ∙ (ap (λ (es : List Entry). J q ++ es) (sym (own_some q n l))
            ∙ sym (behind_is J (steps_upto n) q))
        | inr l ↦ others q l
            ∙ (sym (append-nil (J q)) ∙ (ap (λ (es : List Entry). J q ++ es) (sym (own_none q n l))
            ∙ sym (behind_is J (steps_upto n) q)))
      ];
    }
      where
        by_place : (q : ℕ) → (q < n) ⊎ (n ≤ q)
        by_place q = cases_lt q n
