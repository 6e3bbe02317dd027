-- Parts that may be absent, repeated, or one of several. What tells them apart is that no spelling of one begins as one
-- of another does.
use Rattle.std.proofs.Common.{◌≡◌, ℕ, zero, suc, ◌+◌, ◌<◌, ◌≤◌, Bool, true, false, cond, ltb, List, [], ◌∷◌, ◌++◌, length, Option, Some, None, Ok, Err, refl, sym, ap, subst, ◌∙◌, inl, inr, arith, append_assoc, length-append, ltb-true, ltb-false}
use Rattle.std.specs.Prelude.{IfSome, ◌⊎◌}
use Rattle.std.specs.List.{flat_map, AllByRecursion}
use Rattle.std.proofs.lemmas.List.{append-nil}
use Rattle.std.proofs.lemmas.Bool.{cases_lt}
use Rattle.pec_grammar.specs.Grammar.{Cursor, Read, Grammar, farther, ◌>>=◌, both_at, otherwise, union, found, optional_text, maybe, once_more, many_from, many}
use Rattle.pec_grammar.proofs.Parts.{Takes, Stops, Answers, Lawful}
use Rattle.pec_grammar.proofs.Sequences.{within, pair_is, joined}

-- no spelling of the one and of the other are fronts of one text
abbrev pub Apart : {A B : Type 0} → Grammar A → Grammar B → Type 0
Apart {A} {B} g h = (x : A) (y : B) (a b : List ℕ) → g.Fits x → h.Fits y → g.spell x ++ a ≡ h.spell y ++ b → ⊥

-- The farther of two stops.

abbrev nearer_or : Bool → List ℕ → List ℕ → List ℕ
nearer_or test a b = cond test a b

farther_first : (a b : List ℕ) → length a < length b → farther a b ≡ a
farther_first a b lt = by_test (ltb (length a) (length b)) refl
  where
    by_test : (t : Bool) → ltb (length a) (length b) ≡ t → cond t a b ≡ a
    by_test true e = refl
    by_test false e = let le : length b ≤ length a = ltb-false (length a) (length b) e in absurd (omega arith)

pub farther_second : (a b : List ℕ) → length b ≤ length a → farther a b ≡ b
farther_second a b le = by_test (ltb (length a) (length b)) refl
  where
    by_test : (t : Bool) → ltb (length a) (length b) ≡ t → cond t a b ≡ b
    by_test true e = let lt : length a < length b = ltb-true (length a) (length b) e in absurd (omega arith)
    by_test false e = refl

-- a stop that isn't beyond another adds nothing to it
farther_near : (far s t : List ℕ) → length t ≤ length s → farther (farther far s) t ≡ farther far t
farther_near far s t le = elim (cases_lt (length far) (length s)) [
  | inl lt ↦ ap (λ z. farther z t) (farther_first far s lt)
  | inr ge ↦ ap (λ z. farther z t) (farther_second far s ge) ∙ (farther_second s t le ∙ sym (farther_second far t (omega arith)))
]

farther_assoc : (a b c : List ℕ) → farther (farther a b) c ≡ farther a (farther b c)
farther_assoc a b c = elim (cases_lt (length b) (length c)) [
  | inl lt ↦ ap_second lt ∙ sym (ap (λ z. farther a z) (farther_first b c lt))
  | inr ge ↦ farther_near a b c ge ∙ sym (ap (λ z. farther a z) (farther_second b c ge))
]
  where
    ap_second : length b < length c → farther (farther a b) c ≡ farther a b
    ap_second lt = elim (cases_lt (length a) (length b)) [
      | inl less ↦ ap (λ z. farther z c) (farther_first a b less) ∙ (farther_first a c (omega arith) ∙ sym (farther_first a b less))
      | inr more ↦ ap (λ z. farther z c) (farther_second a b more) ∙ (farther_first b c lt ∙ sym (farther_second a b more))
    ]

-- what goes beyond a nearer stop meets its byte
pub record Meets (near stop text : List ℕ) : Type 0 where
  pub byte : ℕ
  pub after : List ℕ
  pub other : List ℕ
  pub is : stop ≡ byte ∷ after
  pub parts : text ≡ near ++ byte ∷ other

meets : (near front stop after other : List ℕ) (b : ℕ) → front ++ b ∷ after ≡ near ++ stop → length (b ∷ after) ≤ length stop → Meets near stop (front ++ b ∷ other)
meets [] [] stop after other b same le = record { byte = b; after = after; other = other; is = sym same; parts = refl }
meets [] (c ∷ front) stop after other b same le = record { byte = c; after = front ++ b ∷ after; other = front ++ b ∷ other; is = sym same; parts = refl }
meets (c ∷ near) [] stop after other b same le = let size : length (b ∷ after) ≡ length (c ∷ (near ++ stop)) = ap length same in absurd (omega (arith, size, length-append near stop))
meets (c ∷ near) (d ∷ front) stop after other b same le =
    let tails : front ++ b ∷ after ≡ near ++ stop = cc in
    let heads : d ≡ c = cc in
    let r = meets near front stop after other b tails le in
    record { byte = r.byte; after = r.after; other = r.other; is = r.is; parts = ap (λ z. d ∷ z) r.parts ∙ ap (λ z. z ∷ (near ++ r.byte ∷ r.other)) heads }

-- no text of a grammar goes on beyond a stop of it that is nearer than another stop
blocked : {A : Type 0} (g : Grammar A) (bytes near_stop stop front after other rest : List ℕ) (b : ℕ) (x : A) → Stops g bytes near_stop → bytes ≡ front ++ stop → length stop ≤ length near_stop
    → stop ≡ b ∷ after → g.Fits x → g.spell x ++ rest ≡ front ++ b ∷ other → ⊥
blocked g bytes near_stop stop front after other rest b x st parts le is fits begins =
    let far : bytes ≡ front ++ b ∷ after = subst (λ z. bytes ≡ front ++ z) is parts in
    let m = meets st.front front near_stop after other b (sym far ∙ st.parts) (subst (λ z. length z ≤ length near_stop) is le) in
    st.dead m.byte m.after m.other rest x m.is fits (begins ∙ m.parts)

-- a part that stops isn't beyond one that is apart from it and is read
not_beyond : {A B : Type 0} (g : Grammar A) (h : Grammar B) (bytes stop rest : List ℕ) (y : B) → Apart g h → Stops g bytes stop → h.Fits y → bytes ≡ h.spell y ++ rest → length rest ≤ length stop
not_beyond g h bytes stop rest y apart st fits parts = elim (cases_lt (length stop) (length rest)) [
  | inl lt ↦ absurd (beyond lt)
  | inr le ↦ le
]
  where
    -- the spelling is a front of what leads to the stop
    cut : (text front rest stop : List ℕ) → text ++ rest ≡ front ++ stop → length stop < length rest → (more : List ℕ) × (front ≡ text ++ more)
    cut [] front rest stop same lt = (front, refl)
    cut (c ∷ text) [] rest stop same lt = let size : length (c ∷ (text ++ rest)) ≡ length stop = ap length same in absurd (omega (arith, size, length-append text rest))
    cut (c ∷ text) (d ∷ front) rest stop same lt =
        let tails : text ++ rest ≡ front ++ stop = cc in
        let heads : c ≡ d = cc in
        let r = cut text front rest stop tails lt in
        (r.0, ap (λ z. d ∷ z) r.1 ∙ ap (λ z. z ∷ (text ++ r.0)) (sym heads))

    beyond : length stop < length rest → ⊥
    beyond lt =
        let r = cut (h.spell y) st.front rest stop (sym parts ∙ st.parts) lt in
        let front_is : st.front ≡ h.spell y ++ r.0 = r.1 in
        apart st.value y [] (r.0 ++ st.next ∷ st.more) st.fits fits
        (append-nil (g.spell st.value) ∙ (st.alive ∙ (ap (λ z. z ++ st.next ∷ st.more) front_is ∙ append_assoc (h.spell y) r.0 (st.next ∷ st.more))))

-- One of two.

module _ {A : Type 0} (spell : A → List ℕ) (g h : Grammar A) (g_spells : (x : A) → g.Fits x → g.spell x ≡ spell x) (h_spells : (x : A) → h.Fits x → h.spell x ≡ spell x) (apart : Apart g h) where
  abbrev Either : Grammar A
  Either = union spell g h

  first_takes : (at after : Cursor) (x : A) → Takes g at x after → Takes Either at x after
  first_takes at after x took = record { fits = inl took.fits; parts = took.parts ∙ ap (λ z. z ++ after.rest) (g_spells x took.fits); keeps = took.keeps }

  first_text : (x : A) (rest text : List ℕ) → g.Fits x → spell x ++ rest ≡ text → g.spell x ++ rest ≡ text
  first_text x rest text fits begins = ap (λ z. z ++ rest) (g_spells x fits) ∙ begins

  second_text : (x : A) (rest text : List ℕ) → h.Fits x → spell x ++ rest ≡ text → h.spell x ++ rest ≡ text
  second_text x rest text fits begins = ap (λ z. z ++ rest) (h_spells x fits) ∙ begins

  -- both stop: the farther stop is that of the two
  stops_at_first : (bytes s t : List ℕ) → Stops g bytes s → Stops h bytes t → length s ≤ length t → Stops Either bytes s
  stops_at_first bytes s t first second le = record {
    front = first.front;
    parts = first.parts;
    value = first.value;
    fits = inl first.fits;
    next = first.next;
    more = first.more;
    alive = sym (g_spells first.value first.fits) ∙ first.alive;
    dead = λ b after other rest x same fits begins. elim fits [
      | inl x_fits ↦ first.dead b after other rest x same x_fits (first_text x rest (first.front ++ b ∷ other) x_fits begins)
      | inr x_fits ↦ blocked h bytes t s first.front after other rest b x second first.parts le same x_fits (second_text x rest (first.front ++ b ∷ other) x_fits begins)
    ];
  }

  stops_at_second : (bytes s t : List ℕ) → Stops g bytes s → Stops h bytes t → length t ≤ length s → Stops Either bytes t
  stops_at_second bytes s t first second le = record {
    front = second.front;
    parts = second.parts;
    value = second.value;
    fits = inr second.fits;
    next = second.next;
    more = second.more;
    alive = sym (h_spells second.value second.fits) ∙ second.alive;
    dead = λ b after other rest x same fits begins. elim fits [
      | inl x_fits ↦ blocked g bytes s t second.front after other rest b x first second.parts le same x_fits (first_text x rest (second.front ++ b ∷ other) x_fits begins)
      | inr x_fits ↦ second.dead b after other rest x same x_fits (second_text x rest (second.front ++ b ∷ other) x_fits begins)
    ];
  }

  both_stop : (bytes s t : List ℕ) → Stops g bytes s → Stops h bytes t → Stops Either bytes (farther s t)
  both_stop bytes s t first second = elim (cases_lt (length s) (length t)) [
    | inl lt ↦ subst (λ z. Stops Either bytes z) (sym (farther_first s t lt)) (stops_at_first bytes s t first second (omega arith))
    | inr le ↦ subst (λ z. Stops Either bytes z) (sym (farther_second s t le)) (stops_at_second bytes s t first second le)
  ]

  second_answers : (at : Cursor) (s : List ℕ) → Stops g at.rest s → (r : Read A) → Answers h (record { rest = at.rest; farthest = farther at.farthest s }) r → Answers Either at r
  second_answers at s first (Ok taken) second = record {
    fits = inr second.fits;
    parts = second.parts ∙ ap (λ z. z ++ taken.1.rest) (h_spells taken.0 second.fits);
    keeps = λ q le. second.keeps q le ∙ farther_near at.farthest s q (near q le);
  }
    where
      near : (q : List ℕ) → length q ≤ length taken.1.rest → length q ≤ length s
      near q le = let beyond = not_beyond g h at.rest s taken.1.rest taken.0 apart first second.fits second.parts in omega (arith, beyond, le)
  second_answers at s first (Err stop) second =
      (farther s second.0, both_stop at.rest s second.0 first second.1, second.2 ∙ farther_assoc at.farthest s second.0)

  either_answers : (at : Cursor) (r : Read A) → Answers g at r → ((c : Cursor) → Answers h c (h.read c)) → Answers Either at (otherwise r at h.read)
  either_answers at (Ok taken) took next = first_takes at taken.1 taken.0 took
  either_answers at (Err stop) stopped next =
      let again : Answers h (record { rest = at.rest; farthest = farther at.farthest stopped.0 }) (h.read (record { rest = at.rest; farthest = stop })) =
      subst (λ z. Answers h (record { rest = at.rest; farthest = z }) (h.read (record { rest = at.rest; farthest = stop }))) stopped.2 (next (record { rest = at.rest; farthest = stop })) in
      second_answers at stopped.0 stopped.1 (h.read (record { rest = at.rest; farthest = stop })) again

  pub union_lawful : Lawful g → Lawful h → Lawful (union spell g h)
  union_lawful first second = record {
    one = λ x y a b x_fits y_fits same. elim x_fits [
      | inl xf ↦ elim y_fits [
        | inl yf ↦ first.one x y a b xf yf (first_text x a (g.spell y ++ b) xf (same ∙ sym (ap (λ z. z ++ b) (g_spells y yf))))
        | inr yf ↦ absurd (apart x y a b xf yf (first_text x a (h.spell y ++ b) xf (same ∙ sym (ap (λ z. z ++ b) (h_spells y yf)))))
      ]
      | inr xf ↦ elim y_fits [
        | inl yf ↦ absurd (apart y x b a yf xf (sym (second_text x a (g.spell y ++ b) xf (same ∙ sym (ap (λ z. z ++ b) (g_spells y yf))))))
        | inr yf ↦ second.one x y a b xf yf (second_text x a (h.spell y ++ b) xf (same ∙ sym (ap (λ z. z ++ b) (h_spells y yf))))
      ]
    ];
    some = (first.some.0, inl first.some.1);
    answers = λ at. either_answers at (g.read at) (first.answers at) second.answers;
  }

-- A part that may stand in front: where it does, one thing follows, and where it doesn't, another.

pub record Forks {A B T C : Type 0} (g : Grammar A) (t : Grammar T) (h : Grammar B) (k : Grammar C) (with_part : A → T → C) (without : B → C) : Type 0 where
  pub apart : Apart g h
  pub there : (x : A) (y : T) → g.Fits x → t.Fits y → k.Fits (with_part x y)
  pub spelled : (x : A) (y : T) → k.spell (with_part x y) ≡ g.spell x ++ t.spell y
  pub absent : (w : B) → h.Fits w → k.Fits (without w)
  pub spelled_absent : (w : B) → k.spell (without w) ≡ h.spell w
  pub cases : (z : C) → k.Fits z → ((x : A) × (y : T) × g.Fits x × t.Fits y × (z ≡ with_part x y)) ⊎ ((w : B) × h.Fits w × (z ≡ without w))

module _ {A B T C : Type 0} (g : Grammar A) (t : Grammar T) (h : Grammar B) (k : Grammar C) (with_part : A → T → C) (without : B → C) (forks : Forks g t h k with_part without) where
  part_text : (x : A) (y : T) (z : C) (rest text : List ℕ) → z ≡ with_part x y → k.spell z ++ rest ≡ text → g.spell x ++ (t.spell y ++ rest) ≡ text
  part_text x y z rest text is begins =
      sym (append_assoc (g.spell x) (t.spell y) rest) ∙ (ap (λ q. q ++ rest) (sym (forks.spelled x y)) ∙ (ap (λ c. k.spell c ++ rest) (sym is) ∙ begins))

  absent_text : (w : B) (z : C) (rest text : List ℕ) → z ≡ without w → k.spell z ++ rest ≡ text → h.spell w ++ rest ≡ text
  absent_text w z rest text is begins = ap (λ q. q ++ rest) (sym (forks.spelled_absent w)) ∙ (ap (λ c. k.spell c ++ rest) (sym is) ∙ begins)

  pub with_answers : Lawful g → (at : Cursor) (x : A) (a : Cursor) → Takes g at x a → (r : Read T) → Answers t a r → Answers k at (r >>= λ b. Ok (with_part x b.0, b.1))
  with_answers first at x a took (Ok taken) second = record {
    fits = forks.there x taken.0 took.fits second.fits;
    parts = joined at.rest (g.spell x) a.rest (t.spell taken.0) taken.1.rest took.parts second.parts ∙ ap (λ q. q ++ taken.1.rest) (sym (forks.spelled x taken.0));
    keeps = λ s le. second.keeps s le ∙ took.keeps s (omega (arith, le, within a.rest (t.spell taken.0) taken.1.rest second.parts));
  }
  with_answers first at x a took (Err stop) second =
      let s = second.0 in
      let st = second.1 in (
        s,
        record {
          front = g.spell x ++ st.front;
          parts = joined at.rest (g.spell x) a.rest st.front s took.parts st.parts;
          value = with_part x st.value;
          fits = forks.there x st.value took.fits st.fits;
          next = st.next;
          more = st.more;
          alive = forks.spelled x st.value ∙ (ap (λ z. g.spell x ++ z) st.alive ∙ sym (append_assoc (g.spell x) st.front (st.next ∷ st.more)));
          dead = λ b after other rest z same fits begins.
              let begins_so : k.spell z ++ rest ≡ g.spell x ++ (st.front ++ b ∷ other) = begins ∙ append_assoc (g.spell x) st.front (b ∷ other) in
              elim (forks.cases z fits) [
                | inl c ↦ st.dead b after other rest c.1 same c.3
                    (first.one c.0 x (t.spell c.1 ++ rest) (st.front ++ b ∷ other) c.2 took.fits (part_text c.0 c.1 z rest (g.spell x ++ (st.front ++ b ∷ other)) c.4 begins_so)).1
                | inr c ↦ forks.apart x c.0 (st.front ++ b ∷ other) rest took.fits c.1 (sym (absent_text c.0 z rest (g.spell x ++ (st.front ++ b ∷ other)) c.2 begins_so))
              ];
        },
        second.2 ∙ took.keeps s (within a.rest st.front s st.parts),
      )

  part_stops : (y : T) → t.Fits y → (bytes s u : List ℕ) → Stops g bytes s → Stops h bytes u → length s ≤ length u → Stops k bytes s
  part_stops y y_fits bytes s u first second le = record {
    front = first.front;
    parts = first.parts;
    value = with_part first.value y;
    fits = forks.there first.value y first.fits y_fits;
    next = first.next;
    more = first.more ++ t.spell y;
    alive = forks.spelled first.value y ∙ (ap (λ z. z ++ t.spell y) first.alive ∙ append_assoc first.front (first.next ∷ first.more) (t.spell y));
    dead = λ b after other rest z same fits begins. elim (forks.cases z fits) [
      | inl c ↦ first.dead b after other (t.spell c.1 ++ rest) c.0 same c.2 (part_text c.0 c.1 z rest (first.front ++ b ∷ other) c.4 begins)
      | inr c ↦ blocked h bytes u s first.front after other rest b c.0 second first.parts le same c.1 (absent_text c.0 z rest (first.front ++ b ∷ other) c.2 begins)
    ];
  }

  absent_stops : (bytes s u : List ℕ) → Stops g bytes s → Stops h bytes u → length u ≤ length s → Stops k bytes u
  absent_stops bytes s u first second le = record {
    front = second.front;
    parts = second.parts;
    value = without second.value;
    fits = forks.absent second.value second.fits;
    next = second.next;
    more = second.more;
    alive = forks.spelled_absent second.value ∙ second.alive;
    dead = λ b after other rest z same fits begins. elim (forks.cases z fits) [
      | inl c ↦ blocked g bytes s u second.front after other (t.spell c.1 ++ rest) b c.0 first second.parts le same c.2 (part_text c.0 c.1 z rest (second.front ++ b ∷ other) c.4 begins)
      | inr c ↦ second.dead b after other rest c.0 same c.1 (absent_text c.0 z rest (second.front ++ b ∷ other) c.2 begins)
    ];
  }

  fork_stops : (y : T) → t.Fits y → (bytes s u : List ℕ) → Stops g bytes s → Stops h bytes u → Stops k bytes (farther s u)
  fork_stops y y_fits bytes s u first second = elim (cases_lt (length s) (length u)) [
    | inl lt ↦ subst (λ z. Stops k bytes z) (sym (farther_first s u lt)) (part_stops y y_fits bytes s u first second (omega arith))
    | inr le ↦ subst (λ z. Stops k bytes z) (sym (farther_second s u le)) (absent_stops bytes s u first second le)
  ]

  without_next : (y : T) → t.Fits y → (at : Cursor) (s : List ℕ) → Stops g at.rest s → (r : Read B) → Answers h (record { rest = at.rest; farthest = farther at.farthest s }) r
      → Answers k at (r >>= λ b. Ok (without b.0, b.1))
  without_next y y_fits at s first (Ok taken) second = record {
    fits = forks.absent taken.0 second.fits;
    parts = second.parts ∙ ap (λ z. z ++ taken.1.rest) (sym (forks.spelled_absent taken.0));
    keeps = λ q le. second.keeps q le ∙ farther_near at.farthest s q (near q le);
  }
    where
      near : (q : List ℕ) → length q ≤ length taken.1.rest → length q ≤ length s
      near q le = let beyond = not_beyond g h at.rest s taken.1.rest taken.0 forks.apart first second.fits second.parts in omega (arith, beyond, le)
  without_next y y_fits at s first (Err stop) second =
      (farther s second.0, fork_stops y y_fits at.rest s second.0 first second.1, second.2 ∙ farther_assoc at.farthest s second.0)

  pub without_answers : (y : T) → t.Fits y → (at : Cursor) (stop s : List ℕ) → Stops g at.rest s → stop ≡ farther at.farthest s → Lawful h
      → Answers k at (h.read (record { rest = at.rest; farthest = stop }) >>= λ b. Ok (without b.0, b.1))
  without_answers y y_fits at stop s first is second =
      let there : Cursor = record { rest = at.rest; farthest = stop } in
      without_next y y_fits at s first (h.read there) (subst (λ z. Answers h (record { rest = at.rest; farthest = z }) (h.read there)) is (second.answers there))

-- A part that may be absent.

module _ {A B : Type 0} (g : Grammar A) (h : Grammar B) (apart : Apart g h) (first : Lawful g) (second : Lawful h) where
  abbrev shown : A → B → Option A × B
  shown x y = (Some x, y)

  abbrev hidden : B → Option A × B
  hidden y = (None, y)

  maybe_cases : (o : Option A) (y : B) → IfSome o g.Fits → h.Fits y
      → ((x : A) × (w : B) × g.Fits x × h.Fits w × ((o, y) ≡ shown x w)) ⊎ ((w : B) × h.Fits w × ((o, y) ≡ hidden w))
  maybe_cases None y o_fits fits = inr (y, fits, refl)
  maybe_cases (Some x) y o_fits fits = inl (x, y, o_fits, fits, refl)

  maybe_forks : Forks g h h (maybe g h) shown hidden
  maybe_forks = record {
    apart = apart;
    there = λ x y x_fits y_fits. (x_fits, y_fits);
    spelled = λ x y. refl;
    absent = λ w fits. (tt, fits);
    spelled_absent = λ w. refl;
    cases = λ z fits. maybe_cases z.0 z.1 fits.0 fits.1;
  }

  maybe_from : (at : Cursor) (r : Read A) → Answers g at r → Answers (maybe g h) at (both_at (λ c. found r c) h.read at)
  maybe_from at (Ok taken) took = with_answers g h h (maybe g h) shown hidden maybe_forks first at taken.0 taken.1 took (h.read taken.1) (second.answers taken.1)
  maybe_from at (Err stop) stopped = without_answers g h h (maybe g h) shown hidden maybe_forks second.some.0 second.some.1 at stop stopped.0 stopped.1 stopped.2 second

  maybe_one : (o p : Option A) (x y : B) (a b : List ℕ) → IfSome o g.Fits → IfSome p g.Fits → h.Fits x → h.Fits y
      → (optional_text g.spell o ++ h.spell x) ++ a ≡ (optional_text g.spell p ++ h.spell y) ++ b → (o ≡ p) × (x ≡ y) × (a ≡ b)
  maybe_one None None x y a b o_fits p_fits x_fits y_fits same = let r = second.one x y a b x_fits y_fits same in (refl, r.0, r.1)
  maybe_one None (Some v) x y a b o_fits p_fits x_fits y_fits same =
      absurd (apart v x (h.spell y ++ b) a p_fits x_fits (sym (same ∙ append_assoc (g.spell v) (h.spell y) b)))
  maybe_one (Some u) None x y a b o_fits p_fits x_fits y_fits same =
      absurd (apart u y (h.spell x ++ a) b o_fits y_fits (sym (append_assoc (g.spell u) (h.spell x) a) ∙ same))
  maybe_one (Some u) (Some v) x y a b o_fits p_fits x_fits y_fits same =
      let r = first.one u v (h.spell x ++ a) (h.spell y ++ b) o_fits p_fits (sym (append_assoc (g.spell u) (h.spell x) a) ∙ (same ∙ append_assoc (g.spell v) (h.spell y) b)) in
      let s = second.one x y a b x_fits y_fits r.1 in
      (ap (λ z. Some z) r.0, s.0, s.1)

  pub maybe_lawful : Lawful (maybe g h)
  maybe_lawful = record {
    one = λ x y a b x_fits y_fits same.
        let r = maybe_one x.0 y.0 x.1 y.1 a b x_fits.0 y_fits.0 x_fits.1 y_fits.1 same in
        (pair_is x y r.0 r.1, r.2);
    some = ((None, second.some.0), (tt, second.some.1));
    answers = λ at. maybe_from at (g.read at) (first.answers at);
  }

-- A part as often as it stands there.

abbrev pub HasByte : {A : Type 0} → Grammar A → Type 0
HasByte {A} g = (x : A) → g.Fits x → 0 < length (g.spell x)

module _ {A B : Type 0} (g : Grammar A) (h : Grammar B) (apart : Apart g h) (some_byte : HasByte g) (first : Lawful g) (second : Lawful h) where
  abbrev put : A → List A × B → List A × B
  put x p = (x ∷ p.0, p.1)

  abbrev none : B → List A × B
  none y = ([], y)

  many_cases : (xs : List A) (y : B) → AllByRecursion g.Fits xs → h.Fits y
      → ((x : A) × (p : List A × B) × g.Fits x × (many g h).Fits p × ((xs, y) ≡ put x p)) ⊎ ((w : B) × h.Fits w × ((xs, y) ≡ none w))
  many_cases [] y xs_fit fits = inr (y, fits, refl)
  many_cases (x ∷ xs) y xs_fit fits = inl (x, (xs, y), xs_fit.0, (xs_fit.1, fits), refl)

  many_forks : Forks g (many g h) h (many g h) put none
  many_forks = record {
    apart = apart;
    there = λ x p x_fits p_fits. ((x_fits, p_fits.0), p_fits.1);
    spelled = λ x p. append_assoc (g.spell x) (flat_map g.spell p.0) (h.spell p.1);
    absent = λ w fits. (tt, fits);
    spelled_absent = λ w. refl;
    cases = λ z fits. many_cases z.0 z.1 fits.0 fits.1;
  }

  put_step : (x : A) (at : Cursor) (r : Read (List A)) → both_at (λ _. r >>= λ xs. Ok (x ∷ xs.0, xs.1)) h.read at ≡ (both_at (λ _. r) h.read at >>= λ p. Ok (put x p.0, p.1))
  put_step x at (Ok taken) = rest_step (h.read taken.1)
    where
      rest_step : (r : Read B) → both_at (λ _. Ok (x ∷ taken.0, taken.1)) (λ _. r) at ≡ (both_at (λ _. Ok taken) (λ _. r) at >>= λ p. Ok (put x p.0, p.1))
      rest_step (Ok b) = refl
      rest_step (Err stop) = refl
  put_step x at (Err stop) = refl

  many_turn : (n : ℕ) (at : Cursor) (r : Read A) → length at.rest < suc n → Answers g at r
      → ((c : Cursor) → length c.rest < n → Answers (many g h) c (both_at (many_from g.read n) h.read c)) → Answers (many g h) at (both_at (λ c. once_more r c (many_from g.read n)) h.read at)
  many_turn n at (Ok taken) lt took further =
      let has = some_byte taken.0 took.fits in
      let size : length at.rest ≡ length (g.spell taken.0) + length taken.1.rest = ap length took.parts ∙ length-append (g.spell taken.0) taken.1.rest in
      subst (λ r. Answers (many g h) at r) (sym (put_step taken.0 at (many_from g.read n taken.1)))
      (with_answers g (many g h) h (many g h) put none many_forks first at taken.0 taken.1 took (both_at (many_from g.read n) h.read taken.1) (further taken.1 (omega arith)))
  many_turn n at (Err stop) lt stopped further =
      without_answers g (many g h) h (many g h) put none many_forks ([], second.some.0) (tt, second.some.1) at stop stopped.0 stopped.1 stopped.2 second

  many_answers : (n : ℕ) (at : Cursor) → length at.rest < n → Answers (many g h) at (both_at (many_from g.read n) h.read at)
  unfolding many_from
  many_answers zero at lt = absurd (omega arith)
  many_answers (suc n) at lt = many_turn n at (g.read at) lt (first.answers at) (λ c less. many_answers n c less)

  many_one : (xs ys : List A) (x y : B) (a b : List ℕ) → AllByRecursion g.Fits xs → AllByRecursion g.Fits ys → h.Fits x → h.Fits y
      → (flat_map g.spell xs ++ h.spell x) ++ a ≡ (flat_map g.spell ys ++ h.spell y) ++ b → (xs ≡ ys) × (x ≡ y) × (a ≡ b)
  many_one [] [] x y a b xs_fit ys_fit x_fits y_fits same = let r = second.one x y a b x_fits y_fits same in (refl, r.0, r.1)
  many_one [] (v ∷ ys) x y a b xs_fit ys_fit x_fits y_fits same =
      absurd (apart v x ((flat_map g.spell ys ++ h.spell y) ++ b) a ys_fit.0 x_fits
      (sym (same ∙ (ap (λ z. z ++ b) (append_assoc (g.spell v) (flat_map g.spell ys) (h.spell y)) ∙ append_assoc (g.spell v) (flat_map g.spell ys ++ h.spell y) b))))
  many_one (u ∷ xs) [] x y a b xs_fit ys_fit x_fits y_fits same =
      absurd (apart u y ((flat_map g.spell xs ++ h.spell x) ++ a) b xs_fit.0 y_fits
      (sym (ap (λ z. z ++ a) (append_assoc (g.spell u) (flat_map g.spell xs) (h.spell x)) ∙ append_assoc (g.spell u) (flat_map g.spell xs ++ h.spell x) a) ∙ same))
  many_one (u ∷ xs) (v ∷ ys) x y a b xs_fit ys_fit x_fits y_fits same =
      let r = first.one u v ((flat_map g.spell xs ++ h.spell x) ++ a) ((flat_map g.spell ys ++ h.spell y) ++ b) xs_fit.0 ys_fit.0
      (sym (ap (λ z. z ++ a) (append_assoc (g.spell u) (flat_map g.spell xs) (h.spell x)) ∙ append_assoc (g.spell u) (flat_map g.spell xs ++ h.spell x) a)
      ∙ (same ∙ (ap (λ z. z ++ b) (append_assoc (g.spell v) (flat_map g.spell ys) (h.spell y)) ∙ append_assoc (g.spell v) (flat_map g.spell ys ++ h.spell y) b))) in
      let s = many_one xs ys x y a b xs_fit.1 ys_fit.1 x_fits y_fits r.1 in
      let heads : u ≡ v = r.0 in
      let tails : xs ≡ ys = s.0 in
      (cc, s.1, s.2)

  pub many_lawful : Lawful (many g h)
  many_lawful = record {
    one = λ x y a b x_fits y_fits same.
        let r = many_one x.0 y.0 x.1 y.1 a b x_fits.0 y_fits.0 x_fits.1 y_fits.1 same in
        (pair_is x y r.0 r.1, r.2);
    some = (([], second.some.0), (tt, second.some.1));
    answers = λ at. many_answers (suc (length at.rest)) at (omega arith);
  }
