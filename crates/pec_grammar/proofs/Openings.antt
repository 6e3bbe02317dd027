-- Words that are apart: in a table, and at the front of spellings.
use Rattle.std.proofs.Common.{◌≡◌, ℕ, Bool, true, false, ◌&&◌, cond, eqb, List, [], ◌∷◌, ◌++◌, Option, Some, None, Ok, Err, refl, sym, ap, ◌∙◌, inl, inr, append_assoc, eq-eqb}
use Rattle.std.specs.Prelude.{IfSome, ◌⊎◌}
use Rattle.std.specs.List.{flat_map, AllByRecursion}
use Rattle.std.proofs.lemmas.Bool.{false≢true}
use Rattle.std.proofs.lemmas.List.{append-nil}
use Rattle.pec_grammar.specs.Grammar.{Cursor, Read, Grammar, both, seen_at, word, led, otherwise, named_at, choice_at, HasValue, choice, maybe, many, AllOfSome, several}
use Rattle.pec_grammar.proofs.Parts.{Lawful}
use Rattle.pec_grammar.proofs.Sequences.{Views, seen_lawful, word_lawful}
use Rattle.pec_grammar.proofs.Alternatives.{Apart, union_lawful}

-- neither word is a front of the other
abbrev pub are_apart : List ℕ → List ℕ → Bool
are_apart [] other = false
are_apart (c ∷ cs) [] = false
are_apart (c ∷ cs) (d ∷ ds) = cond (eqb c d) (are_apart cs ds) true

apart_step : (c : ℕ) (cs ds a b : List ℕ) (d : ℕ) (t : Bool) → eqb c d ≡ t → (are_apart cs ds ≡ true → cs ++ a ≡ ds ++ b → ⊥) → cond t (are_apart cs ds) true ≡ true → c ∷ (cs ++ a) ≡ d ∷ (ds ++ b) → ⊥
apart_step c cs ds a b d true e further apart same = let tails : cs ++ a ≡ ds ++ b = cc in further apart tails
apart_step c cs ds a b d false e further apart same = let heads : c ≡ d = cc in false≢true (sym e ∙ eq-eqb c d heads)

pub words_differ : (u w a b : List ℕ) → are_apart u w ≡ true → u ++ a ≡ w ++ b → ⊥
words_differ [] w a b apart same = false≢true apart
words_differ (c ∷ cs) [] a b apart same = false≢true apart
words_differ (c ∷ cs) (d ∷ ds) a b apart same = apart_step c cs ds a b d (eqb c d) refl (words_differ cs ds a b) apart same

-- A table of words.

abbrev pub is_apart_from : {A : Type 0} → List ℕ → List (List ℕ × A) → Bool
is_apart_from w [] = true
is_apart_from w (e ∷ es) = are_apart w e.0 && is_apart_from w es

abbrev pub all_apart : {A : Type 0} → List (List ℕ × A) → Bool
all_apart [] = true
all_apart (e ∷ es) = is_apart_from e.0 es && all_apart es

and_first : (x y : Bool) → (x && y) ≡ true → x ≡ true
and_first true y e = refl
and_first false y e = absurd (false≢true e)

and_second : (x y : Bool) → (x && y) ≡ true → y ≡ true
and_second true y e = e
and_second false y e = absurd (false≢true e)

abbrev named : {A : Type 0} → List ℕ → A → Grammar A
named {A} bytes x = record { Fits = λ y. y ≡ x; spell = λ _. bytes; read = named_at bytes x }

named_lawful : {A : Type 0} (bytes : List ℕ) (x : A) → Lawful (named bytes x)
named_lawful bytes x =
    seen_lawful (word bytes) (named bytes x) (λ u. x) (λ y. tt)
    (record { there = λ u fits. refl; spelled = λ u fits. refl; again = λ y fits. tt; respelled = λ y fits. refl; undone = λ y fits. sym fits })
    (λ at. refl) (word_lawful bytes)

last_step : {A : Type 0} (at : Cursor) (r : Read A) → otherwise r at (λ c. Err c.farthest) ≡ seen_at (λ x. x) (λ _. r) at
last_step at (Ok taken) = refl
last_step at (Err stop) = refl

module _ {A : Type 0} (spell : A → List ℕ) where
  abbrev Spelled : List (List ℕ × A) → Type 0
  Spelled table = AllByRecursion (λ (e : List ℕ × A). spell e.1 ≡ e.0) table

  only_value : (e : List ℕ × A) (x : A) → HasValue (e ∷ []) x → x ≡ e.1
  only_value e x has = elim has [ inl is ↦ is | inr none ↦ absurd none ]

  last_views : (e : List ℕ × A) → spell e.1 ≡ e.0 → Views (named e.0 e.1) (choice spell (e ∷ [])) (λ x. x) (λ x. x)
  last_views e spelled = record {
    there = λ x is. inl is;
    spelled = λ x is. ap spell is ∙ spelled;
    again = λ x has. only_value e x has;
    respelled = λ x has. sym (ap spell (only_value e x has) ∙ spelled);
    undone = λ x has. refl;
  }

  last_lawful : (e : List ℕ × A) → spell e.1 ≡ e.0 → Lawful (choice spell (e ∷ []))
  unfolding choice_at
  last_lawful e spelled =
      seen_lawful (named e.0 e.1) (choice spell (e ∷ [])) (λ x. x) (λ x. x) (last_views e spelled) (λ at. last_step at (named_at e.0 e.1 at)) (named_lawful e.0 e.1)

  word_apart : (w : List ℕ) (es : List (List ℕ × A)) (y : A) (a b : List ℕ) → Spelled es → is_apart_from w es ≡ true → HasValue es y → w ++ a ≡ spell y ++ b → ⊥
  word_apart w [] y a b spelled apart has same = has
  word_apart w (e ∷ es) y a b spelled apart has same = elim has [
    | inl is ↦ words_differ w e.0 a b (and_first (are_apart w e.0) (is_apart_from w es) apart) (same ∙ ap (λ z. z ++ b) (ap spell is ∙ spelled.0))
    | inr later ↦ word_apart w es y a b spelled.1 (and_second (are_apart w e.0) (is_apart_from w es) apart) later same
  ]

  choice_of : (e : List ℕ × A) (es : List (List ℕ × A)) → Spelled (e ∷ es) → all_apart (e ∷ es) ≡ true → Lawful (choice spell (e ∷ es))
  unfolding choice_at
  choice_of e [] spelled apart = last_lawful e spelled.0
  choice_of e (f ∷ fs) spelled apart =
      union_lawful spell (named e.0 e.1) (choice spell (f ∷ fs)) (λ x is. sym (ap spell is ∙ spelled.0)) (λ x has. refl)
      (λ x y a b is has same. word_apart e.0 (f ∷ fs) y a b spelled.1 (and_first (is_apart_from e.0 (f ∷ fs)) (all_apart (f ∷ fs)) apart) has same)
      (named_lawful e.0 e.1)
      (choice_of f fs spelled.1 (and_second (is_apart_from e.0 (f ∷ fs)) (all_apart (f ∷ fs)) apart))

  pub choice_lawful : (e : List ℕ × A) (es : List (List ℕ × A)) → AllByRecursion (λ (f : List ℕ × A). spell f.1 ≡ f.0) (e ∷ es) → all_apart (e ∷ es) ≡ true → Lawful (choice spell (e ∷ es))
  choice_lawful e es spelled apart = choice_of e es spelled apart

-- The words that spellings begin with.

abbrev pub IsAmong : List ℕ → List (List ℕ) → Type 0
IsAmong w [] = ⊥
IsAmong w (u ∷ us) = (w ≡ u) ⊎ IsAmong w us

pub record BeginsWith (ws : List (List ℕ)) (text : List ℕ) : Type 0 where
  pub front : List ℕ
  pub among : IsAmong front ws
  pub more : List ℕ
  pub parts : text ≡ front ++ more

-- each spelling begins with one of these words
abbrev pub Opens : {A : Type 0} → Grammar A → List (List ℕ) → Type 0
Opens {A} g ws = (x : A) → g.Fits x → BeginsWith ws (g.spell x)

abbrev pub apart_from_all : List ℕ → List (List ℕ) → Bool
apart_from_all u [] = true
apart_from_all u (w ∷ ws) = are_apart u w && apart_from_all u ws

abbrev pub lists_apart : List (List ℕ) → List (List ℕ) → Bool
lists_apart [] ws = true
lists_apart (u ∷ us) ws = apart_from_all u ws && lists_apart us ws

one_apart : (u w a b : List ℕ) (ws : List (List ℕ)) → apart_from_all u ws ≡ true → IsAmong w ws → u ++ a ≡ w ++ b → ⊥
one_apart u w a b [] apart among same = among
one_apart u w a b (v ∷ ws) apart among same = elim among [
  | inl is ↦ words_differ u v a b (and_first (are_apart u v) (apart_from_all u ws) apart) (same ∙ ap (λ z. z ++ b) is)
  | inr later ↦ one_apart u w a b ws (and_second (are_apart u v) (apart_from_all u ws) apart) later same
]

fronts_apart : (u w a b : List ℕ) (us ws : List (List ℕ)) → lists_apart us ws ≡ true → IsAmong u us → IsAmong w ws → u ++ a ≡ w ++ b → ⊥
fronts_apart u w a b [] ws apart u_among w_among same = u_among
fronts_apart u w a b (v ∷ us) ws apart u_among w_among same = elim u_among [
  | inl is ↦ one_apart v w a b ws (and_first (apart_from_all v ws) (lists_apart us ws) apart) w_among (ap (λ z. z ++ a) (sym is) ∙ same)
  | inr later ↦ fronts_apart u w a b us ws (and_second (apart_from_all v ws) (lists_apart us ws) apart) later w_among same
]

pub apart_by : {A B : Type 0} (g : Grammar A) (h : Grammar B) (us ws : List (List ℕ)) → Opens g us → Opens h ws → lists_apart us ws ≡ true → Apart g h
apart_by g h us ws g_opens h_opens apart x y a b x_fits y_fits same =
    let f = g_opens x x_fits in
    let k = h_opens y y_fits in
    let f_text : g.spell x ++ a ≡ f.front ++ (f.more ++ a) = ap (λ z. z ++ a) f.parts ∙ append_assoc f.front f.more a in
    let k_text : h.spell y ++ b ≡ k.front ++ (k.more ++ b) = ap (λ z. z ++ b) k.parts ∙ append_assoc k.front k.more b in
    fronts_apart f.front k.front (f.more ++ a) (k.more ++ b) us ws apart f.among k.among (sym f_text ∙ (same ∙ k_text))

pub led_opens : {A : Type 0} (w : List ℕ) (g : Grammar A) → Opens (led w g) (w ∷ [])
led_opens w g x fits = record { front = w; among = inl refl; more = g.spell x; parts = refl }

among_first : (w : List ℕ) (us ws : List (List ℕ)) → IsAmong w us → IsAmong w (us ++ ws)
among_first w [] ws among = absurd among
among_first w (u ∷ us) ws among = elim among [ inl is ↦ inl is | inr later ↦ inr (among_first w us ws later) ]

among_second : (w : List ℕ) (us ws : List (List ℕ)) → IsAmong w ws → IsAmong w (us ++ ws)
among_second w [] ws among = among
among_second w (u ∷ us) ws among = inr (among_second w us ws among)

first_opens : (text other : List ℕ) (us ws : List (List ℕ)) → BeginsWith us text → BeginsWith (us ++ ws) (text ++ other)
first_opens text other us ws b = record { front = b.front; among = among_first b.front us ws b.among; more = b.more ++ other; parts = ap (λ z. z ++ other) b.parts ∙ append_assoc b.front b.more other }

second_opens : (text : List ℕ) (us ws : List (List ℕ)) → BeginsWith ws text → BeginsWith (us ++ ws) text
second_opens text us ws b = record { front = b.front; among = among_second b.front us ws b.among; more = b.more; parts = b.parts }

pub maybe_opens : {A B : Type 0} (g : Grammar A) (h : Grammar B) (us ws : List (List ℕ)) → Opens g us → Opens h ws → Opens (maybe g h) (us ++ ws)
maybe_opens {A} {B} g h us ws g_opens h_opens x fits = by_cases x.0 x.1 fits.0 fits.1
  where
    by_cases : (o : Option A) (y : B) → IfSome o g.Fits → h.Fits y → BeginsWith (us ++ ws) ((maybe g h).spell (o, y))
    by_cases None y o_fits y_fits = second_opens (h.spell y) us ws (h_opens y y_fits)
    by_cases (Some v) y o_fits y_fits = first_opens (g.spell v) (h.spell y) us ws (g_opens v o_fits)

pub many_opens : {A B : Type 0} (g : Grammar A) (h : Grammar B) (us ws : List (List ℕ)) → Opens g us → Opens h ws → Opens (many g h) (us ++ ws)
many_opens {A} {B} g h us ws g_opens h_opens x fits = by_cases x.0 x.1 fits.0 fits.1
  where
    by_cases : (xs : List A) (y : B) → AllByRecursion g.Fits xs → h.Fits y → BeginsWith (us ++ ws) ((many g h).spell (xs, y))
    by_cases [] y xs_fit y_fits = second_opens (h.spell y) us ws (h_opens y y_fits)
    by_cases (v ∷ vs) y xs_fit y_fits =
        let b = first_opens (g.spell v) (flat_map g.spell vs ++ h.spell y) us ws (g_opens v xs_fit.0) in
        record { front = b.front; among = b.among; more = b.more; parts = append_assoc (g.spell v) (flat_map g.spell vs) (h.spell y) ∙ b.parts }

pub several_opens : {A B : Type 0} (g : Grammar A) (h : Grammar B) (us : List (List ℕ)) → Opens g us → Opens (several g h) us
several_opens {A} {B} g h us g_opens x fits = by_cases x.0 x.1 fits.0
  where
    by_cases : (xs : List A) (y : B) → AllOfSome g.Fits xs → BeginsWith us ((several g h).spell (xs, y))
    by_cases [] y xs_fit = absurd xs_fit
    by_cases (v ∷ vs) y xs_fit =
        let b = g_opens v xs_fit.0 in
        record {
          front = b.front;
          among = b.among;
          more = b.more ++ (flat_map g.spell vs ++ h.spell y);
          parts = append_assoc (g.spell v) (flat_map g.spell vs) (h.spell y) ∙ (ap (λ z. z ++ (flat_map g.spell vs ++ h.spell y)) b.parts ∙ append_assoc b.front b.more (flat_map g.spell vs ++ h.spell y));
        }

pub both_opens : {A B : Type 0} (g : Grammar A) (h : Grammar B) (us : List (List ℕ)) → Opens g us → Opens (both g h) us
both_opens g h us g_opens x fits =
    let b = g_opens x.0 fits.0 in
    record { front = b.front; among = b.among; more = b.more ++ h.spell x.1; parts = ap (λ z. z ++ h.spell x.1) b.parts ∙ append_assoc b.front b.more (h.spell x.1) }

pub word_opens : (w : List ℕ) → Opens (word w) (w ∷ [])
word_opens w x fits = record { front = w; among = inl refl; more = []; parts = sym (append-nil w) }
