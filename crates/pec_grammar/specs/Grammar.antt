-- Grammars with one spelling (`Grammar`), made of parts: what each part spells, and how it is read from left to right
-- with no step back over what was taken. That reading is exact, fault places included, is the law `Lawful` of each
-- part. `whole`, at the end, reads all of a text.
use Rattle.std.specs.Prelude.{◌≡◌, ℕ, zero, suc, Bool, ◌==◌, nat_lt, List, [], ◌∷◌, ◌++◌, length, Option, Some, None, Result, Ok, Err, IsTrue, IfSome, ⊤, ◌⊎◌, if◌then◌else◌}
use Rattle.std.specs.List.{flat_map, AllByRecursion}

-- where a reader stands: the bytes that are left to read, and those behind the farthest place that anything tried so
-- far has reached
pub record Cursor : Type 0 where
  pub rest : List ℕ
  pub farthest : List ℕ

-- a value and where the reader then stands, or the bytes from the place on at which it stops
abbrev pub Read : Type 0 → Type 0
Read A = Result (A × Cursor) (List ℕ)

-- values, their spelling, and their reader
pub record Grammar (A : Type 0) : Type 1 where
  pub Fits : A → Type 0
  pub spell : A → List ℕ
  pub read : Cursor → Result (A × Cursor) (List ℕ)

-- of two rests of one text that behind the farther place
abbrev pub farther : List ℕ → List ℕ → List ℕ
farther a b = if nat_lt (length a) (length b) then a else b

-- reading goes on from where it stands, or stays stopped
infixl 10 ◌>>=◌
abbrev pub ◌>>=◌ : {A B : Type 0} → Read A → (A × Cursor → Read B) → Read B
(Ok taken) >>= next = next taken
(Err stop) >>= next = Err stop

-- a byte that passes a test
abbrev pub byte_from : (ℕ → Bool) → List ℕ → List ℕ → Read ℕ
byte_from test [] farthest = Err (farther farthest [])
byte_from test (b ∷ rest) farthest = if test b then Ok (b, record { rest = rest; farthest = farthest }) else Err (farther farthest (b ∷ rest))

unfoldable pub byte_at : (ℕ → Bool) → Cursor → Read ℕ
byte_at test at = byte_from test at.rest at.farthest

abbrev pub byte : (ℕ → Bool) → Grammar ℕ
byte test = record { Fits = λ b. IsTrue (test b); spell = λ b. b ∷ []; read = byte_at test }

-- one part and then another
abbrev pub both_at : {A B : Type 0} → (Cursor → Read A) → (Cursor → Read B) → Cursor → Read (A × B)
both_at first second at = first at >>= λ a. second a.1 >>= λ b. Ok ((a.0, b.0), b.1)

abbrev pub both : {A B : Type 0} → Grammar A → Grammar B → Grammar (A × B)
both g h = record { Fits = λ p. g.Fits p.0 × h.Fits p.1; spell = λ p. g.spell p.0 ++ h.spell p.1; read = both_at g.read h.read }

-- the same bytes, for another value
abbrev pub seen_at : {A B : Type 0} → (A → B) → (Cursor → Read A) → Cursor → Read B
seen_at view reader at = reader at >>= λ a. Ok (view a.0, a.1)

-- a word
unfoldable pub word_at : List ℕ → Cursor → Read (Unit {0})
word_at [] at = Ok (tt, at)
word_at (c ∷ cs) at = byte_at (λ b. b == c) at >>= λ b. word_at cs b.1

abbrev pub word : List ℕ → Grammar (Unit {0})
word bytes = record { Fits = λ _. ⊤; spell = λ _. bytes; read = word_at bytes }

-- a part behind a word
abbrev pub led_at : {A : Type 0} → List ℕ → (Cursor → Read A) → Cursor → Read A
led_at bytes reader at = word_at bytes at >>= λ w. reader w.1

abbrev pub led : {A : Type 0} → List ℕ → Grammar A → Grammar A
led bytes g = record { Fits = g.Fits; spell = λ x. bytes ++ g.spell x; read = led_at bytes g.read }

-- a part before a word
abbrev pub ended_at : {A : Type 0} → (Cursor → Read A) → List ℕ → Cursor → Read A
ended_at reader bytes at = reader at >>= λ a. word_at bytes a.1 >>= λ w. Ok (a.0, w.1)

abbrev pub ended : {A : Type 0} → Grammar A → List ℕ → Grammar A
ended g bytes = record { Fits = g.Fits; spell = λ x. g.spell x ++ bytes; read = ended_at g.read bytes }

-- where one part can't be read, another
abbrev pub otherwise : {A : Type 0} → Read A → Cursor → (Cursor → Read A) → Read A
otherwise (Ok taken) at next = Ok taken
otherwise (Err stop) at next = next (record { rest = at.rest; farthest = stop })

-- one grammar or another, of one spelling
abbrev pub union : {A : Type 0} → (A → List ℕ) → Grammar A → Grammar A → Grammar A
union spell g h = record { Fits = λ x. g.Fits x ⊎ h.Fits x; spell = spell; read = λ at. otherwise (g.read at) at h.read }

-- a value of a table of words
abbrev pub named_at : {A : Type 0} → List ℕ → A → Cursor → Read A
named_at bytes x at = word_at bytes at >>= λ w. Ok (x, w.1)

-- the value of the first word of the table that stands there
unfoldable pub choice_at : {A : Type 0} → List (List ℕ × A) → Cursor → Read A
choice_at [] at = Err at.farthest
choice_at (e ∷ es) at = otherwise (named_at e.0 e.1 at) at (choice_at es)

-- a value that the table has a word for
abbrev pub HasValue : {A : Type 0} → List (List ℕ × A) → A → Type 0
HasValue [] x = ⊥
HasValue (e ∷ es) x = (x ≡ e.1) ⊎ HasValue es x

-- the values of a table, each spelled by its word
abbrev pub choice : {A : Type 0} → (A → List ℕ) → List (List ℕ × A) → Grammar A
choice spell table = record { Fits = HasValue table; spell = spell; read = choice_at table }

-- a part that may be absent
abbrev pub found : {A : Type 0} → Read A → Cursor → Read (Option A)
found (Ok taken) at = Ok (Some taken.0, taken.1)
found (Err stop) at = Ok (None, record { rest = at.rest; farthest = stop })

-- a part, if it stands there
abbrev pub optional_at : {A : Type 0} → (Cursor → Read A) → Cursor → Read (Option A)
optional_at reader at = found (reader at) at

-- the spelling of a part that may be absent
abbrev pub optional_text : {A : Type 0} → (A → List ℕ) → Option A → List ℕ
optional_text spell None = []
optional_text spell (Some x) = spell x

-- a part that may be absent, and what follows it
abbrev pub maybe : {A B : Type 0} → Grammar A → Grammar B → Grammar (Option A × B)
maybe g h = record {
  Fits = λ p. IfSome p.0 g.Fits × h.Fits p.1;
  spell = λ p. optional_text g.spell p.0 ++ h.spell p.1;
  read = both_at (optional_at g.read) h.read;
}

-- a part as often as it stands there, at most so many times
abbrev pub once_more : {A : Type 0} → Read A → Cursor → (Cursor → Read (List A)) → Read (List A)
once_more (Ok taken) at more = more taken.1 >>= λ xs. Ok (taken.0 ∷ xs.0, xs.1)
once_more (Err stop) at more = Ok ([], record { rest = at.rest; farthest = stop })

-- at most so many of them
unfoldable pub many_from : {A : Type 0} → (Cursor → Read A) → ℕ → Cursor → Read (List A)
many_from reader zero at = Err at.farthest
many_from reader (suc n) at = once_more (reader at) at (many_from reader n)

abbrev pub many_at : {A : Type 0} → (Cursor → Read A) → Cursor → Read (List A)
many_at reader at = many_from reader (suc (length at.rest)) at

-- a part as often as it stands there, and what follows it
abbrev pub many : {A B : Type 0} → Grammar A → Grammar B → Grammar (List A × B)
many g h = record {
  Fits = λ p. AllByRecursion g.Fits p.0 × h.Fits p.1;
  spell = λ p. flat_map g.spell p.0 ++ h.spell p.1;
  read = both_at (many_at g.read) h.read;
}

-- a part one or more times, and what follows it
abbrev pub several_at : {A : Type 0} → (Cursor → Read A) → Cursor → Read (List A)
several_at reader at = reader at >>= λ x. many_at reader x.1 >>= λ xs. Ok (x.0 ∷ xs.0, xs.1)

-- one or more values, and this holds of each
abbrev pub AllOfSome : {A : Type 0} → (A → Type 0) → List A → Type 0
AllOfSome Fits [] = ⊥
AllOfSome Fits (x ∷ xs) = Fits x × AllByRecursion Fits xs

abbrev pub several : {A B : Type 0} → Grammar A → Grammar B → Grammar (List A × B)
several g h = record {
  Fits = λ p. AllOfSome g.Fits p.0 × h.Fits p.1;
  spell = λ p. flat_map g.spell p.0 ++ h.spell p.1;
  read = both_at (several_at g.read) h.read;
}

-- all of a text: what is left where something is left, and otherwise the value
abbrev pub ending : {A : Type 0} → Read A → Result A (List ℕ)
ending (Ok taken) = if length taken.1.rest == 0 then Ok taken.0 else Err taken.1.rest
ending (Err stop) = Err stop

-- all of a text, by this grammar
abbrev pub whole : {A : Type 0} → Grammar A → List ℕ → Result A (List ℕ)
whole g text = ending (g.read (record { rest = text; farthest = text }))
