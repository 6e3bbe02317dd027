-- Tables whose rows are looked at from the first, and of which the first row that applies decides: `IsFirst` and
-- `NoneApplies`. A table is a list of rows and a relation that says when a row applies. Where each row has a test that
-- decides it, `find` finds the first; that is said below the definitions, once for every crate. This project's profile.
use Rattle.std.specs.Prelude.{◌≡◌, Bool, true, false, not, cond, List, [], ◌∷◌, ◌++◌, Option, Some, None, unwrap_or}
use Rattle.std.specs.List.{AllByRecursion, find}
use Rattle.std.proofs.Common.{Decides, refl, ap, sym, subst, ◌∙◌}
use Rattle.std.proofs.lemmas.Bool.{false≢true}
use Rattle.std.proofs.lemmas.Option.{none-some}

-- None of these rows applies.
abbrev pub NoneApplies : {Row : Type 0} → (Row → Type 0) → List Row → Type 0
NoneApplies Applies rows = AllByRecursion (λ row. Applies row → ⊥) rows

-- Of these rows this one is the first that applies: it applies, and none before it does.
pub record IsFirst {Row : Type 0} (Applies : Row → Type 0) (rows : List Row) (row : Row) : Type 0 where
  pub before : List Row
  pub after : List Row
  pub place : rows ≡ before ++ row ∷ after
  pub none_before : NoneApplies Applies before
  pub applies : Applies row

-- A test that is turned decides a no.
pub not_so : (b : Bool) → Decides (not b) (b ≡ false)
not_so true = (λ e. sym e, λ e. sym e)
not_so false = (λ e. refl, λ e. refl)

-- ---- what is found is the first

row_is : {Row : Type 0} (row other : Row) → Some row ≡ Some other → row ≡ other
row_is row other e = ap (λ found. unwrap_or found row) e

never : {P : Type 0} (t : Bool) → Decides t P → (P → ⊥) → t ≡ false
never true d n = absurd (n (d.0 refl))
never false d n = refl

not_here : {P : Type 0} → Decides false P → P → ⊥
not_here d h = false≢true (d.1 h)

behind : {Row : Type 0} (Applies : Row → Type 0) (next row : Row) (rows : List Row) (t : Bool) (found : Option Row) → Decides t (Applies next)
    → cond t (Some next) found ≡ Some row → (found ≡ Some row → IsFirst Applies rows row) → IsFirst Applies (next ∷ rows) row
behind Applies next row rows true found d e more = record {
  before = [];
  after = rows;
  place = ap (λ r. r ∷ rows) (row_is next row e);
  none_before = tt;
  applies = subst Applies (row_is next row e) (d.0 refl);
}
behind Applies next row rows false found d e more =
    let first : IsFirst Applies rows row = more e
    in record {
      before = next ∷ first.before;
      after = first.after;
      place = ap (λ xs. next ∷ xs) first.place;
      none_before = (not_here d, first.none_before);
      applies = first.applies;
    }

-- What is found by tests that decide the rows is the first that applies.
pub first_is : {Row : Type 0} (test : Row → Bool) (Applies : Row → Type 0) → ((row : Row) → Decides (test row) (Applies row))
    → (rows : List Row) (row : Row) → find test rows ≡ Some row → IsFirst Applies rows row
first_is test Applies each [] row e = absurd (none-some row e)
first_is test Applies each (next ∷ rows) row e =
    behind Applies next row rows (test next) (find test rows) (each next) e (first_is test Applies each rows row)

-- ---- the first is found

found_behind : {Row : Type 0} (test : Row → Bool) (Applies : Row → Type 0) → ((row : Row) → Decides (test row) (Applies row))
    → (before : List Row) (row : Row) (after : List Row) → NoneApplies Applies before → Applies row → find test (before ++ row ∷ after) ≡ Some row
found_behind test Applies each [] row after none a = ap (λ t. cond t (Some row) (find test after)) ((each row).1 a)
found_behind test Applies each (next ∷ before) row after none a =
    ap (λ t. cond t (Some next) (find test (before ++ row ∷ after))) (never (test next) (each next) none.0)
    ∙ found_behind test Applies each before row after none.1 a

-- The first that applies is found.
pub first_again : {Row : Type 0} (test : Row → Bool) (Applies : Row → Type 0) → ((row : Row) → Decides (test row) (Applies row))
    → (rows : List Row) (row : Row) → IsFirst Applies rows row → find test rows ≡ Some row
first_again test Applies each rows row first =
    ap (λ xs. find test xs) first.place ∙ found_behind test Applies each first.before row first.after first.none_before first.applies

-- One row is the first.
pub one_first : {Row : Type 0} (test : Row → Bool) (Applies : Row → Type 0) → ((row : Row) → Decides (test row) (Applies row))
    → (rows : List Row) (row other : Row) → IsFirst Applies rows row → IsFirst Applies rows other → row ≡ other
one_first test Applies each rows row other first second =
    row_is row other (sym (first_again test Applies each rows row first) ∙ first_again test Applies each rows other second)

-- ---- none applies

none_behind : {Row : Type 0} (Applies : Row → Type 0) (next : Row) (rows : List Row) (t : Bool) (found : Option Row) → Decides t (Applies next)
    → cond t (Some next) found ≡ None → (found ≡ None → NoneApplies Applies rows) → NoneApplies Applies (next ∷ rows)
none_behind Applies next rows true found d e more = absurd (none-some next (sym e))
none_behind Applies next rows false found d e more = (not_here d, more e)

-- Where nothing is found, none applies.
pub none_is : {Row : Type 0} (test : Row → Bool) (Applies : Row → Type 0) → ((row : Row) → Decides (test row) (Applies row))
    → (rows : List Row) → find test rows ≡ None → NoneApplies Applies rows
none_is test Applies each [] e = tt
none_is test Applies each (next ∷ rows) e =
    none_behind Applies next rows (test next) (find test rows) (each next) e (none_is test Applies each rows)

-- Where none applies, nothing is found.
pub none_again : {Row : Type 0} (test : Row → Bool) (Applies : Row → Type 0) → ((row : Row) → Decides (test row) (Applies row))
    → (rows : List Row) → NoneApplies Applies rows → find test rows ≡ None
none_again test Applies each [] none = refl
none_again test Applies each (next ∷ rows) none =
    ap (λ t. cond t (Some next) (find test rows)) (never (test next) (each next) none.0) ∙ none_again test Applies each rows none.1

-- ---- tables whose last row always applies

found_or : {Row : Type 0} (t : Bool) (next : Row) (found : Option Row) → ((row : Row) × (found ≡ Some row))
    → (row : Row) × (cond t (Some next) found ≡ Some row)
found_or true next found there = (next, refl)
found_or false next found there = there

some_found : {Row : Type 0} (test : Row → Bool) (rows : List Row) (last : Row) → test last ≡ true
    → (row : Row) × (find test (rows ++ last ∷ []) ≡ Some row)
some_found test [] last e = (last, ap (λ t. cond t (Some last) None) e)
some_found test (next ∷ rows) last e = found_or (test next) next (find test (rows ++ last ∷ [])) (some_found test rows last e)

-- What is found, or anything else, is the first that applies, where the last row always does.
pub first_of : {Row : Type 0} (test : Row → Bool) (Applies : Row → Type 0) → ((row : Row) → Decides (test row) (Applies row))
    → (rows : List Row) (last other : Row) → test last ≡ true → IsFirst Applies (rows ++ last ∷ []) (unwrap_or (find test (rows ++ last ∷ [])) other)
first_of test Applies each rows last other e =
    let there = some_found test rows last e
    in first_is test Applies each (rows ++ last ∷ []) (unwrap_or (find test (rows ++ last ∷ [])) other)
    (there.1 ∙ ap (λ r. Some r) (sym (ap (λ found. unwrap_or found other) there.1)))
