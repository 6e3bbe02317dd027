-- One part and then another, a word, the same bytes for another value.
use Rattle.std.proofs.Common.{◌≡◌, ℕ, ◌≤◌, eqb, List, [], ◌∷◌, ◌++◌, length, Ok, Err, refl, sym, ap, subst, ◌∙◌, arith, append_assoc, length-append, eqb-true, eq-eqb}
use Rattle.pec_grammar.specs.Grammar.{Cursor, Read, Grammar, ◌>>=◌, byte_at, byte, both_at, both, seen_at, word_at, word, led, ended_at, ended}
use Rattle.pec_grammar.proofs.Parts.{Takes, Stops, Answers, Lawful, byte_lawful}

pub within : (bytes front stop : List ℕ) → bytes ≡ front ++ stop → length stop ≤ length bytes
within bytes front stop e = omega (arith, ap length e, length-append front stop)

pub pair_is : {A B : Type 0} (p q : A × B) → p.0 ≡ q.0 → p.1 ≡ q.1 → p ≡ q
pair_is {A} {B} p q first second =
    let left : A → A × B = λ x. (x, p.1) in
    let right : B → A × B = λ y. (q.0, y) in
    ap left first ∙ ap right second

-- what stands behind a front stops where the whole does
pub joined : (bytes text rest front stop : List ℕ) → bytes ≡ text ++ rest → rest ≡ front ++ stop → bytes ≡ (text ++ front) ++ stop
joined bytes text rest front stop first second = first ∙ (ap (λ z. text ++ z) second ∙ sym (append_assoc text front stop))

-- One part and then another.

both_then : {A B : Type 0} (g : Grammar A) (h : Grammar B) → Lawful g → (at : Cursor) (x : A) (a : Cursor) → Takes g at x a → (r : Read B) → Answers h a r
    → Answers (both g h) at (r >>= λ b. Ok ((x, b.0), b.1))
both_then g h one at x a took (Ok taken) second = record {
  fits = (took.fits, second.fits);
  parts = joined at.rest (g.spell x) a.rest (h.spell taken.0) taken.1.rest took.parts second.parts;
  keeps = λ s le. second.keeps s le ∙ took.keeps s (omega (arith, le, within a.rest (h.spell taken.0) taken.1.rest second.parts));
}
both_then g h one at x a took (Err stop) second =
    let s = second.0 in
    let st = second.1 in (
      s,
      record {
        front = g.spell x ++ st.front;
        parts = joined at.rest (g.spell x) a.rest st.front s took.parts st.parts;
        value = (x, st.value);
        fits = (took.fits, st.fits);
        next = st.next;
        more = st.more;
        alive = ap (λ z. g.spell x ++ z) st.alive ∙ sym (append_assoc (g.spell x) st.front (st.next ∷ st.more));
        dead = λ b after other rest y same fits begins.
            let begins_so : g.spell y.0 ++ (h.spell y.1 ++ rest) ≡ g.spell x ++ (st.front ++ b ∷ other) =
            sym (append_assoc (g.spell y.0) (h.spell y.1) rest) ∙ (begins ∙ append_assoc (g.spell x) st.front (b ∷ other)) in
            st.dead b after other rest y.1 same fits.1 (one.one y.0 x (h.spell y.1 ++ rest) (st.front ++ b ∷ other) fits.0 took.fits begins_so).1;
      },
      second.2 ∙ took.keeps s (within a.rest st.front s st.parts),
    )

-- a stop in the first part is one of both
both_stops : {A B : Type 0} (g : Grammar A) (h : Grammar B) (y : B) → h.Fits y → (bytes stop : List ℕ) → Stops g bytes stop → Stops (both g h) bytes stop
both_stops g h y y_fits bytes stop st = record {
  front = st.front;
  parts = st.parts;
  value = (st.value, y);
  fits = (st.fits, y_fits);
  next = st.next;
  more = st.more ++ h.spell y;
  alive = ap (λ z. z ++ h.spell y) st.alive ∙ append_assoc st.front (st.next ∷ st.more) (h.spell y);
  dead = λ b after other rest x same fits begins.
      st.dead b after other (h.spell x.1 ++ rest) x.0 same fits.0 (sym (append_assoc (g.spell x.0) (h.spell x.1) rest) ∙ begins);
}

both_from : {A B : Type 0} (g : Grammar A) (h : Grammar B) → Lawful g → Lawful h → (at : Cursor) (r : Read A) → Answers g at r
    → Answers (both g h) at (r >>= λ a. h.read a.1 >>= λ b. Ok ((a.0, b.0), b.1))
both_from g h first second at (Ok taken) took = both_then g h first at taken.0 taken.1 took (h.read taken.1) (second.answers taken.1)
both_from g h first second at (Err stop) stopped = (stopped.0, both_stops g h second.some.0 second.some.1 at.rest stopped.0 stopped.1, stopped.2)

pub both_one : {A B : Type 0} (g : Grammar A) (h : Grammar B) → Lawful g → Lawful h → (x y : A × B) (a b : List ℕ) → (both g h).Fits x → (both g h).Fits y
    → (both g h).spell x ++ a ≡ (both g h).spell y ++ b → (x ≡ y) × (a ≡ b)
both_one g h first second x y a b x_fits y_fits same =
    let r = first.one x.0 y.0 (h.spell x.1 ++ a) (h.spell y.1 ++ b) x_fits.0 y_fits.0 (sym (append_assoc (g.spell x.0) (h.spell x.1) a) ∙ (same ∙ append_assoc (g.spell y.0) (h.spell y.1) b)) in
    let s = second.one x.1 y.1 a b x_fits.1 y_fits.1 r.1 in
    (pair_is x y r.0 s.0, s.1)

pub both_lawful : {A B : Type 0} (g : Grammar A) (h : Grammar B) → Lawful g → Lawful h → Lawful (both g h)
both_lawful g h first second = record {
  one = both_one g h first second;
  some = ((first.some.0, second.some.0), (first.some.1, second.some.1));
  answers = λ at. both_from g h first second at (g.read at) (first.answers at);
}

-- The same bytes, for another value.

pub record Views {A B : Type 0} (g : Grammar A) (h : Grammar B) (view : A → B) (back : B → A) : Type 0 where
  pub there : (x : A) → g.Fits x → h.Fits (view x)
  pub spelled : (x : A) → g.Fits x → h.spell (view x) ≡ g.spell x
  pub again : (y : B) → h.Fits y → g.Fits (back y)
  pub respelled : (y : B) → h.Fits y → g.spell (back y) ≡ h.spell y
  pub undone : (y : B) → h.Fits y → view (back y) ≡ y

seen_from : {A B : Type 0} (g : Grammar A) (h : Grammar B) (view : A → B) (back : B → A) → Views g h view back → (at : Cursor) (r : Read A) → Answers g at r
    → Answers h at (r >>= λ a. Ok (view a.0, a.1))
seen_from g h view back views at (Ok taken) took = record {
  fits = views.there taken.0 took.fits;
  parts = took.parts ∙ ap (λ z. z ++ taken.1.rest) (sym (views.spelled taken.0 took.fits));
  keeps = took.keeps;
}
seen_from g h view back views at (Err stop) stopped =
    let st = stopped.1 in (
      stopped.0,
      record {
        front = st.front;
        parts = st.parts;
        value = view st.value;
        fits = views.there st.value st.fits;
        next = st.next;
        more = st.more;
        alive = views.spelled st.value st.fits ∙ st.alive;
        dead = λ b after other rest y same fits begins.
            st.dead b after other rest (back y) same (views.again y fits) (ap (λ z. z ++ rest) (views.respelled y fits) ∙ begins);
      },
      stopped.2,
    )

pub seen_lawful : {A B : Type 0} (g : Grammar A) (h : Grammar B) (view : A → B) (back : B → A) → Views g h view back
    → ((at : Cursor) → h.read at ≡ seen_at view g.read at) → Lawful g → Lawful h
seen_lawful g h view back views reads law = record {
  one = λ x y a b x_fits y_fits same.
      let r = law.one (back x) (back y) a b (views.again x x_fits) (views.again y y_fits)
      (ap (λ z. z ++ a) (views.respelled x x_fits) ∙ (same ∙ ap (λ z. z ++ b) (sym (views.respelled y y_fits)))) in
      (sym (views.undone x x_fits) ∙ (ap view r.0 ∙ views.undone y y_fits), r.1);
  some = (view law.some.0, views.there law.some.0 law.some.1);
  answers = λ at. subst (λ r. Answers h at r) (sym (reads at)) (seen_from g h view back views at (g.read at) (law.answers at));
}

-- A word.

unit_is : (x y : Unit {0}) → x ≡ y
unit_is x y = refl

nothing_lawful : Lawful (word [])
unfolding word_at
nothing_lawful = record {
  one = λ x y a b fits_x fits_y same. (unit_is x y, same);
  some = (tt, tt);
  answers = λ at. record { fits = tt; parts = refl; keeps = λ s le. refl };
}

first_views : (c : ℕ) (cs : List ℕ) → Views (both (byte (λ b. eqb b c)) (word cs)) (word (c ∷ cs)) (λ p. tt) (λ u. (c, tt))
first_views c cs = record {
  there = λ x fits. tt;
  spelled = λ x fits. ap (λ b. b ∷ cs) (sym (eqb-true x.0 c fits.0));
  again = λ y fits. (eq-eqb c c refl, tt);
  respelled = λ y fits. refl;
  undone = λ y fits. refl;
}

word_step : (c : ℕ) (cs : List ℕ) (at : Cursor) (r : Read ℕ) → (r >>= λ b. word_at cs b.1) ≡ seen_at (λ p. tt) (both_at (λ _. r) (word_at cs)) at
word_step c cs at (Ok taken) = rest_step (word_at cs taken.1)
  where
    rest_step : (r : Read (Unit {0})) → r ≡ seen_at (λ p. tt) (both_at (λ _. Ok taken) (λ _. r)) at
    rest_step (Ok w) = refl
    rest_step (Err stop) = refl
word_step c cs at (Err stop) = refl

pub word_lawful : (bytes : List ℕ) → Lawful (word bytes)
unfolding word_at
word_lawful [] = nothing_lawful
word_lawful (c ∷ cs) =
    seen_lawful (both (byte (λ b. eqb b c)) (word cs)) (word (c ∷ cs)) (λ p. tt) (λ u. (c, tt)) (first_views c cs)
    (λ at. word_step c cs at (byte_at (λ b. eqb b c) at))
    (both_lawful (byte (λ b. eqb b c)) (word cs) (byte_lawful (λ b. eqb b c) c (eq-eqb c c refl)) (word_lawful cs))

led_step : {A : Type 0} (g : Grammar A) (at : Cursor) (r : Read (Unit {0})) → (r >>= λ w. g.read w.1) ≡ seen_at (λ p. p.1) (both_at (λ _. r) g.read) at
led_step {A} g at (Ok taken) = rest_step (g.read taken.1)
  where
    rest_step : (r : Read A) → r ≡ seen_at (λ p. p.1) (both_at (λ _. Ok taken) (λ _. r)) at
    rest_step (Ok b) = refl
    rest_step (Err stop) = refl
led_step g at (Err stop) = refl

pub led_lawful : {A : Type 0} (bytes : List ℕ) (g : Grammar A) → Lawful g → Lawful (led bytes g)
led_lawful bytes g law =
    seen_lawful (both (word bytes) g) (led bytes g) (λ p. p.1) (λ x. (tt, x))
    (record { there = λ x fits. fits.1; spelled = λ x fits. refl; again = λ y fits. (tt, fits); respelled = λ y fits. refl; undone = λ y fits. refl })
    (λ at. led_step g at (word_at bytes at))
    (both_lawful (word bytes) g (word_lawful bytes) law)

ended_step : {A : Type 0} (bytes : List ℕ) (at : Cursor) (r : Read A) → ended_at (λ _. r) bytes at ≡ seen_at (λ p. p.0) (both_at (λ _. r) (word_at bytes)) at
ended_step {A} bytes at (Ok taken) = rest_step (word_at bytes taken.1)
  where
    rest_step : (r : Read (Unit {0})) → (r >>= λ w. Ok (taken.0, w.1)) ≡ seen_at (λ p. p.0) (both_at (λ _. Ok taken) (λ _. r)) at
    rest_step (Ok b) = refl
    rest_step (Err stop) = refl
ended_step bytes at (Err stop) = refl

pub ended_lawful : {A : Type 0} (g : Grammar A) (bytes : List ℕ) → Lawful g → Lawful (ended g bytes)
ended_lawful g bytes law =
    seen_lawful (both g (word bytes)) (ended g bytes) (λ p. p.0) (λ x. (x, tt))
    (record { there = λ x fits. fits.0; spelled = λ x fits. refl; again = λ y fits. (fits, tt); respelled = λ y fits. refl; undone = λ y fits. refl })
    (λ at. ended_step bytes at (g.read at))
    (both_lawful g (word bytes) law (word_lawful bytes))

-- The same values and bytes under another name.

same_step : {A : Type 0} (at : Cursor) (r : Read A) → r ≡ seen_at (λ x. x) (λ _. r) at
same_step at (Ok taken) = refl
same_step at (Err stop) = refl

pub same_lawful : {A : Type 0} (g h : Grammar A) → ((x : A) → g.Fits x → h.Fits x) → ((x : A) → h.Fits x → g.Fits x) → ((x : A) → h.Fits x → h.spell x ≡ g.spell x)
    → ((at : Cursor) → h.read at ≡ g.read at) → Lawful g → Lawful h
same_lawful g h there back spelled reads law =
    seen_lawful g h (λ x. x) (λ x. x)
    (record { there = there; spelled = λ x fits. spelled x (there x fits); again = back; respelled = λ x fits. sym (spelled x fits); undone = λ x fits. refl })
    (λ at. reads at ∙ same_step at (g.read at)) law
