-- What makes a grammar lawful: reading it is exact.
use Rattle.std.proofs.Common.{◌≡◌, ℕ, ◌≤◌, Bool, true, false, cond, List, [], ◌∷◌, ◌++◌, length, Ok, Err, refl, sym, subst, ◌∙◌}
use Rattle.std.specs.Prelude.{IsTrue}
use Rattle.std.proofs.lemmas.Bool.{false≢true}
use Rattle.pec_grammar.specs.Grammar.{Cursor, Read, Grammar, farther, byte_from, byte_at, byte}

-- a value taken from the front; what was tried before goes on counting where it reached farther than this
pub record Takes {A : Type 0} (g : Grammar A) (at : Cursor) (x : A) (after : Cursor) : Type 0 where
  pub fits : g.Fits x
  pub parts : at.rest ≡ g.spell x ++ after.rest
  pub keeps : (s : List ℕ) → length s ≤ length after.rest → farther after.farthest s ≡ farther at.farthest s

-- the bytes stop being the front of a spelling here
pub record Stops {A : Type 0} (g : Grammar A) (bytes stop : List ℕ) : Type 0 where
  pub front : List ℕ
  pub parts : bytes ≡ front ++ stop
  pub value : A
  pub fits : g.Fits value
  pub next : ℕ
  pub more : List ℕ
  pub alive : g.spell value ≡ front ++ next ∷ more
  pub dead : (b : ℕ) (after other rest : List ℕ) (x : A) → stop ≡ b ∷ after → g.Fits x → g.spell x ++ rest ≡ front ++ b ∷ other → ⊥

abbrev pub Answers : {A : Type 0} → Grammar A → Cursor → Read A → Type 0
Answers g at (Ok taken) = Takes g at taken.0 taken.1
Answers g at (Err stop) = (s : List ℕ) × Stops g at.rest s × (stop ≡ farther at.farthest s)

pub record Lawful {A : Type 0} (g : Grammar A) : Type 0 where
  pub one : (x y : A) (a b : List ℕ) → g.Fits x → g.Fits y → g.spell x ++ a ≡ g.spell y ++ b → (x ≡ y) × (a ≡ b)
  pub some : (x : A) × g.Fits x
  pub answers : (at : Cursor) → Answers g at (g.read at)

-- A byte.

byte_one : (test : ℕ → Bool) (x y : ℕ) (a b : List ℕ) → x ∷ a ≡ y ∷ b → (x ≡ y) × (a ≡ b)
byte_one test x y a b e = (cc, cc)

byte_tested : (test : ℕ → Bool) (some : ℕ) → IsTrue (test some) → (b : ℕ) (rest farthest : List ℕ) (t : Bool) → test b ≡ t
    → Answers (byte test) (record { rest = b ∷ rest; farthest = farthest }) (cond t (Ok (b, record { rest = rest; farthest = farthest })) (Err (farther farthest (b ∷ rest))))
byte_tested test some is b rest farthest true e = record { fits = e; parts = refl; keeps = λ s le. refl }
byte_tested test some is b rest farthest false e = (
  b ∷ rest,
  record {
    front = [];
    parts = refl;
    value = some;
    fits = is;
    next = some;
    more = [];
    alive = refl;
    dead = λ c after other others x same fits begins.
        let first : b ≡ c = cc in
        let again : x ≡ c = cc in
        let bad : test b ≡ true = subst (λ n. test n ≡ true) (again ∙ sym first) fits in
        false≢true (sym e ∙ bad);
  },
  refl,
)

byte_answers : (test : ℕ → Bool) (some : ℕ) → IsTrue (test some) → (rest farthest : List ℕ) → Answers (byte test) (record { rest = rest; farthest = farthest }) (byte_from test rest farthest)
byte_answers test some is [] farthest = (
  [],
  record {
    front = [];
    parts = refl;
    value = some;
    fits = is;
    next = some;
    more = [];
    alive = refl;
    dead = λ c after other others x same fits begins. let h : ⊥ = cc in h;
  },
  refl,
)
byte_answers test some is (b ∷ rest) farthest = byte_tested test some is b rest farthest (test b) refl

pub byte_lawful : (test : ℕ → Bool) (some : ℕ) → IsTrue (test some) → Lawful (byte test)
unfolding byte_at
byte_lawful test some is = record {
  one = λ x y a b fits_x fits_y e. byte_one test x y a b e;
  some = (some, is);
  answers = λ at. byte_answers test some is at.rest at.farthest;
}
