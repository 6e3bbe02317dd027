-- Parts that depend on what stands before them are read exactly.
use Rattle.std.proofs.Common.{◌≡◌, ℕ, zero, suc, ◌+◌, ◌-◌, ◌<◌, ◌≤◌, Bool, true, false, cond, ltb, List, [], ◌∷◌, ◌++◌, length, take, drop, Ok, Err, refl, sym, ap, subst, ◌∙◌, arith, append_assoc, length-append, ltb-true, ltb-false}
use Rattle.std.proofs.lemmas.List.{take-append-drop, append-nil, nil_from_length, length-take-le}
use Rattle.std.specs.List.{flat_map, AllByRecursion}
use Rattle.pec_grammar.specs.Grammar.{Cursor, Read, Grammar, ◌>>=◌, farther, seen_at, both_at, both}
use Rattle.pec_grammar.specs.Dependent.{linked_at, linked, keyed_at, keyed, raw_from, raw_at, raw, times_at, times, variant}
use Rattle.pec_grammar.proofs.Parts.{Takes, Stops, Answers, Lawful}
use Rattle.pec_grammar.proofs.Sequences.{within, pair_is, joined, Views, seen_lawful, both_lawful}

-- A part, and then one that depends on its value.

module _ {A B : Type 0} (g : Grammar A) (h : A → Grammar B) (first : Lawful g) (second : (a : A) → g.Fits a → Lawful (h a)) where
  linked_then : (at : Cursor) (x : A) (a : Cursor) → Takes g at x a → (r : Read B) → Answers (h x) a r → Answers (linked g h) at (r >>= λ b. Ok ((x, b.0), b.1))
  linked_then at x a took (Ok taken) more = record {
    fits = (took.fits, more.fits);
    parts = joined at.rest (g.spell x) a.rest ((h x).spell taken.0) taken.1.rest took.parts more.parts;
    keeps = λ s le. more.keeps s le ∙ took.keeps s (omega (arith, le, within a.rest ((h x).spell taken.0) taken.1.rest more.parts));
  }
  linked_then at x a took (Err stop) more =
      let s = more.0 in
      let st = more.1 in (
        s,
        record {
          front = g.spell x ++ st.front;
          parts = joined at.rest (g.spell x) a.rest st.front s took.parts st.parts;
          value = (x, st.value);
          fits = (took.fits, st.fits);
          next = st.next;
          more = st.more;
          alive = ap (λ z. g.spell x ++ z) st.alive ∙ sym (append_assoc (g.spell x) st.front (st.next ∷ st.more));
          dead = λ b after other rest y same fits begins.
              let begins_so : g.spell y.0 ++ ((h y.0).spell y.1 ++ rest) ≡ g.spell x ++ (st.front ++ b ∷ other) =
              sym (append_assoc (g.spell y.0) ((h y.0).spell y.1) rest) ∙ (begins ∙ append_assoc (g.spell x) st.front (b ∷ other)) in
              let r = first.one y.0 x ((h y.0).spell y.1 ++ rest) (st.front ++ b ∷ other) fits.0 took.fits begins_so in
              st.dead b after other rest y.1 same (subst (λ z. (h z).Fits y.1) r.0 fits.1) (ap (λ z. (h z).spell y.1 ++ rest) (sym r.0) ∙ r.1);
        },
        more.2 ∙ took.keeps s (within a.rest st.front s st.parts),
      )

  linked_stops : (bytes stop : List ℕ) → Stops g bytes stop → Stops (linked g h) bytes stop
  linked_stops bytes stop st =
      let y = (second st.value st.fits).some in
      record {
        front = st.front;
        parts = st.parts;
        value = (st.value, y.0);
        fits = (st.fits, y.1);
        next = st.next;
        more = st.more ++ (h st.value).spell y.0;
        alive = ap (λ z. z ++ (h st.value).spell y.0) st.alive ∙ append_assoc st.front (st.next ∷ st.more) ((h st.value).spell y.0);
        dead = λ b after other rest x same fits begins.
            st.dead b after other ((h x.0).spell x.1 ++ rest) x.0 same fits.0 (sym (append_assoc (g.spell x.0) ((h x.0).spell x.1) rest) ∙ begins);
      }

  linked_from : (at : Cursor) (r : Read A) → Answers g at r → Answers (linked g h) at (r >>= λ a. (h a.0).read a.1 >>= λ b. Ok ((a.0, b.0), b.1))
  linked_from at (Ok taken) took = linked_then at taken.0 taken.1 took ((h taken.0).read taken.1) ((second taken.0 took.fits).answers taken.1)
  linked_from at (Err stop) stopped = (stopped.0, linked_stops at.rest stopped.0 stopped.1, stopped.2)

  linked_one : (x y : A × B) (a b : List ℕ) → (linked g h).Fits x → (linked g h).Fits y → (linked g h).spell x ++ a ≡ (linked g h).spell y ++ b → (x ≡ y) × (a ≡ b)
  linked_one x y a b x_fits y_fits same =
      let r = first.one x.0 y.0 ((h x.0).spell x.1 ++ a) ((h y.0).spell y.1 ++ b) x_fits.0 y_fits.0
      (sym (append_assoc (g.spell x.0) ((h x.0).spell x.1) a) ∙ (same ∙ append_assoc (g.spell y.0) ((h y.0).spell y.1) b)) in
      let s = (second x.0 x_fits.0).one x.1 y.1 a b x_fits.1 (subst (λ z. (h z).Fits y.1) (sym r.0) y_fits.1) (r.1 ∙ ap (λ z. (h z).spell y.1 ++ b) (sym r.0)) in
      (pair_is x y r.0 s.0, s.1)

  pub linked_lawful : Lawful (linked g h)
  linked_lawful =
      let y = (second first.some.0 first.some.1).some in
      record {
        one = linked_one;
        some = ((first.some.0, y.0), (first.some.1, y.1));
        answers = λ at. linked_from at (g.read at) (first.answers at);
      }

  -- A key, and the value that it is the key of.

  keyed_step : (at : Cursor) (r : Read A) → (r >>= λ a. (h a.0).read a.1) ≡ seen_at (λ p. p.1) (linked_at (λ _. r) (λ a. (h a).read)) at
  keyed_step at (Ok taken) = rest_step ((h taken.0).read taken.1)
    where
      rest_step : (r : Read B) → r ≡ seen_at (λ p. p.1) (linked_at (λ _. Ok taken) (λ _ _. r)) at
      rest_step (Ok b) = refl
      rest_step (Err stop) = refl
  keyed_step at (Err stop) = refl

  pub keyed_lawful : (key : B → A) → ((a : A) (y : B) → (h a).Fits y → key y ≡ a) → Lawful (keyed g key h)
  keyed_lawful key is =
      seen_lawful (linked g h) (keyed g key h) (λ p. p.1) (λ y. (key y, y))
      (record {
        there = λ p fits. (subst g.Fits (sym (is p.0 p.1 fits.1)) fits.0, subst (λ a. (h a).Fits p.1) (sym (is p.0 p.1 fits.1)) fits.1);
        spelled = λ p fits. ap (λ a. g.spell a ++ (h a).spell p.1) (is p.0 p.1 fits.1);
        again = λ y fits. fits;
        respelled = λ y fits. refl;
        undone = λ y fits. refl;
      })
      (λ at. keyed_step at (g.read at)) linked_lawful

-- So many bytes.

abbrev zeros : ℕ → List ℕ
zeros zero = []
zeros (suc n) = 0 ∷ zeros n

length-zeros : (n : ℕ) → length (zeros n) ≡ n
length-zeros zero = refl
length-zeros (suc n) = let e = length-zeros n in omega arith

same_cut : (s t a b : List ℕ) → length s ≡ length t → s ++ a ≡ t ++ b → (s ≡ t) × (a ≡ b)
same_cut [] [] a b size same = (refl, same)
same_cut [] (c ∷ t) a b size same = absurd (omega arith)
same_cut (c ∷ s) [] a b size same = absurd (omega arith)
same_cut (c ∷ s) (d ∷ t) a b size same =
    let head : c ≡ d = cc in
    let tail : s ++ a ≡ t ++ b = cc in
    let r = same_cut s t a b (omega arith) tail in
    (cc, r.1)

nothing_after : (b : ℕ) (after : List ℕ) → [] ≡ b ∷ after → ⊥
nothing_after b after e = let h : ⊥ = cc in h

raw_tested : (n : ℕ) (rest farthest : List ℕ) (t : Bool) → ltb (length rest) n ≡ t
    → Answers (raw n) (record { rest = rest; farthest = farthest }) (cond t (Err (farther farthest [])) (Ok (take n rest, record { rest = drop n rest; farthest = farthest })))
raw_tested n rest farthest true short =
    let lt : length rest < n = ltb-true (length rest) n short in
    let left = n - length rest - 1 in
    let size : length (rest ++ 0 ∷ zeros left) ≡ n = omega (arith, length-append rest (0 ∷ zeros left), length-zeros left) in (
      [],
      record {
        front = rest;
        parts = sym (append-nil rest);
        value = rest ++ 0 ∷ zeros left;
        fits = size;
        next = 0;
        more = zeros left;
        alive = refl;
        dead = λ b after other more x same fits begins. nothing_after b after same;
      },
      refl,
    )
raw_tested n rest farthest false long =
    let enough : n ≤ length rest = ltb-false (length rest) n long in
    record {
      fits = length-take-le n rest enough;
      parts = sym (take-append-drop n rest);
      keeps = λ s behind. refl;
    }

pub raw_lawful : (n : ℕ) → Lawful (raw n)
unfolding raw_at
raw_lawful n = record {
  one = λ x y a b x_fits y_fits same. same_cut x y a b (x_fits ∙ sym y_fits) same;
  some = (zeros n, length-zeros n);
  answers = λ at. raw_tested n at.rest at.farthest (ltb (length at.rest) n) refl;
}

-- A part so many times.

no_times_lawful : {A : Type 0} (g : Grammar A) → Lawful (times g 0)
unfolding times_at
no_times_lawful g = record {
  one = λ x y a b x_fits y_fits same.
      let left : x ≡ [] = nil_from_length x x_fits.0 in
      let right : y ≡ [] = nil_from_length y y_fits.0 in
      (left ∙ sym right, ap (λ z. flat_map g.spell z ++ a) (sym left) ∙ (same ∙ ap (λ z. flat_map g.spell z ++ b) right));
  some = ([], (refl, tt));
  answers = λ at. record { fits = (refl, tt); parts = refl; keeps = λ s le. refl };
}

abbrev parted : {A : Type 0} → A → List A → A × List A
parted any [] = (any, [])
parted any (x ∷ xs) = (x, xs)

more_views : {A : Type 0} (g : Grammar A) (any : A) (n : ℕ) → Views (both g (times g n)) (times g (suc n)) (λ p. p.0 ∷ p.1) (parted any)
more_views {A} g any n = record {
  there = λ p fits. (omega (arith, fits.1.0), (fits.0, fits.1.1));
  spelled = λ p fits. refl;
  again = again;
  respelled = respelled;
  undone = undone;
}
  where
    again : (y : List A) → (times g (suc n)).Fits y → (both g (times g n)).Fits (parted any y)
    again [] fits = absurd (let size : 0 ≡ suc n = fits.0 in let h : ⊥ = omega arith in h)
    again (x ∷ xs) fits = (fits.1.0, (omega (arith, fits.0), fits.1.1))

    respelled : (y : List A) → (times g (suc n)).Fits y → (both g (times g n)).spell (parted any y) ≡ (times g (suc n)).spell y
    respelled [] fits = absurd (let size : 0 ≡ suc n = fits.0 in let h : ⊥ = omega arith in h)
    respelled (x ∷ xs) fits = refl

    undone : (y : List A) → (times g (suc n)).Fits y → (parted any y).0 ∷ (parted any y).1 ≡ y
    undone [] fits = absurd (let size : 0 ≡ suc n = fits.0 in let h : ⊥ = omega arith in h)
    undone (x ∷ xs) fits = refl

more_step : {A : Type 0} (g : Grammar A) (n : ℕ) (at : Cursor) (r : Read A)
    → (r >>= λ x. times_at g.read n x.1 >>= λ xs. Ok (x.0 ∷ xs.0, xs.1)) ≡ seen_at (λ p. p.0 ∷ p.1) (both_at (λ _. r) (times_at g.read n)) at
more_step {A} g n at (Ok taken) = rest_step (times_at g.read n taken.1)
  where
    rest_step : (r : Read (List A)) → (r >>= λ xs. Ok (taken.0 ∷ xs.0, xs.1)) ≡ seen_at (λ p. p.0 ∷ p.1) (both_at (λ _. Ok taken) (λ _. r)) at
    rest_step (Ok b) = refl
    rest_step (Err stop) = refl
more_step g n at (Err stop) = refl

pub times_lawful : {A : Type 0} (g : Grammar A) → Lawful g → (n : ℕ) → Lawful (times g n)
unfolding times_at
times_lawful g law zero = no_times_lawful g
times_lawful g law (suc n) =
    seen_lawful (both g (times g n)) (times g (suc n)) (λ p. p.0 ∷ p.1) (parted law.some.0) (more_views g law.some.0 n)
    (λ at. more_step g n at (g.read at))
    (both_lawful g (times g n) law (times_lawful g law n))

-- Values of some fields.

pub variant_lawful : {A B : Type 0} (g : Grammar A) (make : A → B) (fields : B → A) → ((x : A) → fields (make x) ≡ x) → Lawful g → Lawful (variant g make fields)
variant_lawful g make fields back law =
    seen_lawful g (variant g make fields) make fields
    (record {
      there = λ x fits. (x, fits, refl);
      spelled = λ x fits. ap g.spell (back x);
      again = λ y fits. subst g.Fits (sym (ap fields fits.2 ∙ back fits.0)) fits.1;
      respelled = λ y fits. refl;
      undone = λ y fits. ap (λ z. make (fields z)) fits.2 ∙ (ap make (back fits.0) ∙ sym fits.2);
    })
    (λ at. refl) law
