-- A whole text: reading it gives its value, or the place of its first fault.
use Rattle.std.proofs.Common.{◌≡◌, ℕ, zero, suc, ◌-◌, ◌<◌, ◌≤◌, Bool, true, false, cond, eqb, List, [], ◌∷◌, ◌++◌, length, take, Result, Ok, Err, refl, sym, ap, subst, ◌∙◌, arith, append_assoc, length-append, eqb-true}
use Rattle.std.proofs.Math.Seq.{take-append_seam}
use Rattle.std.proofs.lemmas.List.{append-nil, nil_from_length}
use Rattle.std.proofs.lemmas.Bool.{eqb-false}
use Rattle.pec_grammar.specs.Grammar.{Read, Grammar, ending, whole}
use Rattle.pec_grammar.specs.FirstFault.{FirstFault, IsSpelled}
use Rattle.pec_grammar.proofs.Parts.{Stops, Answers, Lawful}
use Rattle.pec_grammar.proofs.Alternatives.{farther_second}
use Rattle.pec_grammar.proofs.Sequences.{within}

abbrev pub Tells : {A : Type 0} → Grammar A → List ℕ → Result A (List ℕ) → Type 0
Tells g bytes (Ok x) = IsSpelled g x bytes
Tells g bytes (Err stop) = (length stop ≤ length bytes) × FirstFault (IsSpelled g) bytes (length bytes - length stop)

-- a longer front holds the byte behind a shorter one
pub record Beyond (front stop text : List ℕ) : Type 0 where
  pub byte : ℕ
  pub after : List ℕ
  pub other : List ℕ
  pub is : stop ≡ byte ∷ after
  pub parts : text ≡ front ++ byte ∷ other

beyond : (front stop : List ℕ) (n : ℕ) → length front < n → n ≤ length (front ++ stop) → Beyond front stop (take n (front ++ stop))
beyond [] [] n lt le = absurd (omega arith)
beyond [] (b ∷ after) zero lt le = absurd (omega arith)
beyond [] (b ∷ after) (suc n) lt le = record { byte = b; after = after; other = take n after; is = refl; parts = refl }
beyond (c ∷ front) stop zero lt le = absurd (omega arith)
beyond (c ∷ front) stop (suc n) lt le =
    let r = beyond front stop n (omega arith) (omega arith) in
    record { byte = r.byte; after = r.after; other = r.other; is = r.is; parts = ap (λ z. c ∷ z) r.parts }

-- where a front stands before a stop, the place of the stop is its length
stop_place : (bytes front stop : List ℕ) → bytes ≡ front ++ stop → length bytes - length stop ≡ length front
stop_place bytes front stop parts = omega (arith, ap length parts, length-append front stop)

stop_front : (bytes front stop : List ℕ) → bytes ≡ front ++ stop → take (length bytes - length stop) bytes ≡ front
stop_front bytes front stop parts =
    ap (λ n. take n bytes) (stop_place bytes front stop parts) ∙ (ap (λ z. take (length front) z) parts ∙ take-append_seam front stop)

module _ {A : Type 0} (g : Grammar A) (law : Lawful g) where
  -- the stop of a front from which no text goes on
  first_fault : (bytes front stop : List ℕ) (x : A) (more : List ℕ) → bytes ≡ front ++ stop → g.Fits x → g.spell x ≡ front ++ more
      → ((b : ℕ) (after other : List ℕ) (y : A) → stop ≡ b ∷ after → g.Fits y → g.spell y ≡ front ++ b ∷ other → ⊥) → ((y : A) → IsSpelled g y bytes → ⊥)
      → Tells g bytes (Err stop)
  first_fault bytes front stop x more parts fits alive dead other = (
    within bytes front stop parts,
    record {
      within = omega arith;
      alive = (x, more, (fits, ap (λ z. z ++ more) (stop_front bytes front stop parts) ∙ sym alive));
      dead = λ n lt le is.
          let place = stop_place bytes front stop parts in
          let size : length bytes ≡ length (front ++ stop) = ap length parts in
          let longer : length front < n = omega (arith, lt, place) in
          let r = beyond front stop n longer (omega (arith, le, size)) in
          dead r.byte r.after (r.other ++ is.1) is.0 r.is is.2.0
          (sym is.2.1 ∙ (ap (λ z. z ++ is.1) (ap (λ z. take n z) parts ∙ r.parts) ∙ append_assoc front (r.byte ∷ r.other) is.1));
      other = other;
    },
  )

  nothing_more : (c : ℕ) (more : List ℕ) → c ∷ more ≡ [] → ⊥
  nothing_more c more e = let h : ⊥ = cc in h

  ends_told : (bytes : List ℕ) (x : A) (rest : List ℕ) (t : Bool) → eqb (length rest) 0 ≡ t → g.Fits x → bytes ≡ g.spell x ++ rest → Tells g bytes (cond t (Ok x) (Err rest))
  ends_told bytes x rest true e fits parts =
      let nothing : rest ≡ [] = nil_from_length rest (eqb-true (length rest) 0 e) in
      (fits, parts ∙ (ap (λ z. g.spell x ++ z) nothing ∙ append-nil (g.spell x)))
  ends_told bytes x rest false e fits parts =
      first_fault bytes (g.spell x) rest x [] parts fits (sym (append-nil (g.spell x)))
      (λ b after other y same y_fits begins.
      nothing_more b other (law.one x y (b ∷ other) [] fits y_fits (sym begins ∙ sym (append-nil (g.spell y)))).1)
      (λ y is.
      let nothing = law.one x y rest [] fits is.0 (sym parts ∙ (is.1 ∙ sym (append-nil (g.spell y)))) in
      eqb-false (length rest) 0 e (ap length nothing.1))

  stop_other : (bytes stop : List ℕ) → Stops g bytes stop → (y : A) → IsSpelled g y bytes → ⊥
  stop_other bytes stop st y is = by_stop stop st.parts st.dead
    where
      by_stop : (s : List ℕ) → bytes ≡ st.front ++ s → ((b : ℕ) (after other rest : List ℕ) (x : A) → s ≡ b ∷ after → g.Fits x → g.spell x ++ rest ≡ st.front ++ b ∷ other → ⊥) → ⊥
      by_stop [] parts dead =
          let front_is : g.spell y ≡ st.front = sym is.1 ∙ (parts ∙ append-nil st.front) in
          let r = law.one y st.value (st.next ∷ st.more) [] is.0 st.fits (ap (λ z. z ++ st.next ∷ st.more) front_is ∙ (sym st.alive ∙ sym (append-nil (g.spell st.value)))) in
          nothing_more st.next st.more r.1
      by_stop (b ∷ after) parts dead = dead b after after [] y refl is.0 (append-nil (g.spell y) ∙ (sym is.1 ∙ parts))

  stops_told : (bytes stop : List ℕ) → Stops g bytes stop → Tells g bytes (Err stop)
  stops_told bytes stop st =
      first_fault bytes st.front stop st.value (st.next ∷ st.more) st.parts st.fits st.alive
      (λ b after other y same y_fits begins. st.dead b after other [] y same y_fits (append-nil (g.spell y) ∙ begins))
      (stop_other bytes stop st)

  read_told : (bytes : List ℕ) (r : Read A) → Answers g (record { rest = bytes; farthest = bytes }) r → Tells g bytes (ending r)
  read_told bytes (Ok taken) took = ends_told bytes taken.0 taken.1.rest (eqb (length taken.1.rest) 0) refl took.fits took.parts
  read_told bytes (Err stop) stopped =
      let st = stopped.1 in
      let is : stop ≡ stopped.0 = stopped.2 ∙ farther_second bytes stopped.0 (within bytes st.front stopped.0 st.parts) in
      subst (λ z. Tells g bytes (Err z)) (sym is) (stops_told bytes stopped.0 st)

  pub whole_told : (bytes : List ℕ) → Tells g bytes (whole g bytes)
  whole_told bytes = read_told bytes (g.read (record { rest = bytes; farthest = bytes })) (law.answers (record { rest = bytes; farthest = bytes }))

  pub one_value : (x y : A) (text : List ℕ) → IsSpelled g x text → IsSpelled g y text → x ≡ y
  one_value x y text is also = (law.one x y [] [] is.0 also.0 (append-nil (g.spell x) ∙ (sym is.1 ∙ (also.1 ∙ sym (append-nil (g.spell y)))))).0

  told_only : (x : A) (text : List ℕ) (r : Result A (List ℕ)) → Tells g text r → IsSpelled g x text → r ≡ Ok x
  told_only x text (Ok y) told is = ap (λ z. Ok z) (one_value y x text told is)
  told_only x text (Err stop) told is = absurd (told.1.other x is)

  pub whole_only : (x : A) (text : List ℕ) → IsSpelled g x text → whole g text ≡ Ok x
  whole_only x text is = told_only x text (whole g text) (whole_told text) is
