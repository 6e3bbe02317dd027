-- Parts that depend on what stands before them: `keyed`, a key such as a length, a count or a tag, and what the key
-- announces; `raw`, so many bytes; `times`, so many parts; `variant`, one of the kinds of value that a tag tells apart.
use Rattle.std.specs.Prelude.{◌≡◌, ℕ, zero, suc, nat_lt, List, [], ◌∷◌, ◌++◌, length, take, drop, Ok, Err, if◌then◌else◌}
use Rattle.std.specs.List.{flat_map, AllByRecursion}
use Rattle.pec_grammar.specs.Grammar.{Cursor, Read, Grammar, ◌>>=◌, farther, seen_at}

-- a part, and then one that depends on its value
abbrev pub linked_at : {A B : Type 0} → (Cursor → Read A) → (A → Cursor → Read B) → Cursor → Read (A × B)
linked_at first second at = first at >>= λ a. second a.0 a.1 >>= λ b. Ok ((a.0, b.0), b.1)

abbrev pub linked : {A B : Type 0} → Grammar A → (A → Grammar B) → Grammar (A × B)
linked g h = record {
  Fits = λ p. g.Fits p.0 × (h p.0).Fits p.1;
  spell = λ p. g.spell p.0 ++ (h p.0).spell p.1;
  read = linked_at g.read (λ a. (h a).read);
}

-- a key, and the value that it is the key of
abbrev pub keyed_at : {A B : Type 0} → (Cursor → Read A) → (A → Cursor → Read B) → Cursor → Read B
keyed_at first second at = first at >>= λ a. second a.0 a.1

abbrev pub keyed : {A B : Type 0} → Grammar A → (B → A) → (A → Grammar B) → Grammar B
keyed g key h = record {
  Fits = λ y. g.Fits (key y) × (h (key y)).Fits y;
  spell = λ y. g.spell (key y) ++ (h (key y)).spell y;
  read = keyed_at g.read (λ a. (h a).read);
}

-- so many bytes, whatever they are
abbrev pub raw_from : ℕ → List ℕ → List ℕ → Read (List ℕ)
raw_from n rest farthest =
    if nat_lt (length rest) n then Err (farther farthest [])
    else Ok (take n rest, record { rest = drop n rest; farthest = farthest })

unfoldable pub raw_at : ℕ → Cursor → Read (List ℕ)
raw_at n at = raw_from n at.rest at.farthest

abbrev pub raw : ℕ → Grammar (List ℕ)
raw n = record { Fits = λ bytes. length bytes ≡ n; spell = λ bytes. bytes; read = raw_at n }

-- a part so many times
unfoldable pub times_at : {A : Type 0} → (Cursor → Read A) → ℕ → Cursor → Read (List A)
times_at reader zero at = Ok ([], at)
times_at reader (suc n) at = reader at >>= λ x. times_at reader n x.1 >>= λ xs. Ok (x.0 ∷ xs.0, xs.1)

abbrev pub times : {A : Type 0} → Grammar A → ℕ → Grammar (List A)
times g n = record {
  Fits = λ xs. (length xs ≡ n) × AllByRecursion g.Fits xs;
  spell = flat_map g.spell;
  read = times_at g.read n;
}

-- the values that are made of these fields
abbrev pub variant : {A B : Type 0} → Grammar A → (A → B) → (B → A) → Grammar B
variant {A} g make fields = record {
  Fits = λ y. (x : A) × g.Fits x × (y ≡ make x);
  spell = λ y. g.spell (fields y);
  read = seen_at make g.read;
}
