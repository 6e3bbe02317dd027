-- Looking at the parts of a text is exact.
use Rattle.std.proofs.Common.{◌≡◌, ℕ, zero, suc, ◌<◌, List, [], ◌∷◌, ◌++◌, length, Option, Some, None, Ok, Err, refl, sym, ap, subst, ◌∙◌, inl, inr, arith, append_assoc, length-append}
use Rattle.std.proofs.lemmas.List.{append-nil}
use Rattle.pec_grammar.specs.Grammar.{Cursor, Read, Grammar}
use Rattle.pec_grammar.proofs.Parts.{Takes, Stops, Answers, Lawful}
use Rattle.pec_cert.specs.Front.{Looked, Part, Lacks, ◌>=>◌, in_turn, behind, plain, if_there, absent_or, GoesOften, IsWrongBehind, once_more, look_often, often}
use Rattle.pec_cert.specs.declared.faults.CertFault.{CertFault}
use Rattle.pec_cert.specs.declared.faults.CertFault.TheVariants.{BadDate, BadAddress}

-- a fault that values have
abbrev pub IsOfValue : CertFault → Type 0
IsOfValue (BadDate place) = Unit {0}
IsOfValue (BadAddress place) = Unit {0}
IsOfValue fault = ⊥

-- the look at a part tells it exactly
pub record Told (p : Part) : Type 0 where
  pub ok : (text rest : List ℕ) → p.look text ≡ Ok rest → p.Goes text rest
  pub goes : (text rest : List ℕ) → p.Goes text rest → p.look text ≡ Ok rest
  pub fault : (text : List ℕ) (f : CertFault) → p.look text ≡ Err (Some f) → p.IsWrong text f
  pub wrong : (text : List ℕ) (f : CertFault) → p.IsWrong text f → p.look text ≡ Err (Some f)
  pub kind : (text : List ℕ) (f : CertFault) → p.IsWrong text f → IsOfValue f

-- Two ways in which a look ends are one.

pub same_rest : (l : Looked) (a b : List ℕ) → l ≡ Ok a → l ≡ Ok b → a ≡ b
same_rest l a b e f = let both : Ok a ≡ Ok b = sym e ∙ f in cc

pub not_both : (l : Looked) (rest : List ℕ) (x : Option CertFault) → l ≡ Ok rest → l ≡ Err x → ⊥
not_both l rest x e f = let both : Ok rest ≡ Err x = sym e ∙ f in let h : ⊥ = cc in h

pub same_fault : (l : Looked) (f g : CertFault) → l ≡ Err (Some f) → l ≡ Err (Some g) → f ≡ g
same_fault l f g e h = let both : Err (Some f) ≡ Err (Some g) = sym e ∙ h in cc

pub no_fault : (l : Looked) (f : CertFault) → l ≡ Err None → l ≡ Err (Some f) → ⊥
no_fault l f e h = let both : Err None ≡ Err (Some f) = sym e ∙ h in let x : ⊥ = cc in x

-- What is read of a text, and that it is read.

no_nil : (rest : List ℕ) (n : ℕ) (more : List ℕ) → rest ++ n ∷ more ≡ [] → ⊥
no_nil rest n more e = omega (arith, ap length e, length-append rest (n ∷ more))

module _ {A : Type 0} (g : Grammar A) (law : Lawful g) where
  pub read_parts : (text : List ℕ) (taken : A × Cursor) → g.read (record { rest = text; farthest = text }) ≡ Ok taken → g.Fits taken.0 × (text ≡ g.spell taken.0 ++ taken.1.rest)
  read_parts text taken e = from (subst (λ r. Answers g (record { rest = text; farthest = text }) r) e (law.answers (record { rest = text; farthest = text })))
    where
      from : Takes g (record { rest = text; farthest = text }) taken.0 taken.1 → g.Fits taken.0 × (text ≡ g.spell taken.0 ++ taken.1.rest)
      from took = (took.fits, took.parts)

  never_stops : (text stop rest : List ℕ) (x : A) → g.Fits x → text ≡ g.spell x ++ rest → Stops g text stop → ⊥
  never_stops text stop rest x fits is st = by_stop stop st.parts st.dead
    where
      by_stop : (s : List ℕ) → text ≡ st.front ++ s → ((b : ℕ) (after other more : List ℕ) (y : A) → s ≡ b ∷ after → g.Fits y → g.spell y ++ more ≡ st.front ++ b ∷ other → ⊥) → ⊥
      by_stop [] parts dead =
          let whole : g.spell x ++ rest ≡ st.front = sym is ∙ (parts ∙ append-nil st.front) in
          let r = law.one x st.value (rest ++ st.next ∷ st.more) [] fits st.fits
          (sym (append_assoc (g.spell x) rest (st.next ∷ st.more)) ∙ (ap (λ z. z ++ st.next ∷ st.more) whole ∙ (sym st.alive ∙ sym (append-nil (g.spell st.value))))) in
          no_nil rest st.next st.more r.1
      by_stop (b ∷ after) parts dead = dead b after after rest x refl fits (sym is ∙ parts)

  -- what comes back of a value that stands there
  abbrev pub Again : A → List ℕ → Read A → Type 0
  Again x rest (Ok taken) = (taken.0 ≡ x) × (taken.1.rest ≡ rest)
  Again x rest (Err stop) = ⊥

  pub read_again : (text : List ℕ) (x : A) (rest : List ℕ) → g.Fits x → text ≡ g.spell x ++ rest → Again x rest (g.read (record { rest = text; farthest = text }))
  read_again text x rest fits is = by_answer (g.read (record { rest = text; farthest = text })) (law.answers (record { rest = text; farthest = text }))
    where
      by_answer : (r : Read A) → Answers g (record { rest = text; farthest = text }) r → Again x rest r
      by_answer (Ok taken) took = let r = law.one taken.0 x taken.1.rest rest took.fits fits (sym took.parts ∙ is) in (r.0, r.1)
      by_answer (Err stop) stopped = absurd (never_stops text stopped.0 rest x fits is stopped.1)

  plain_ok : (text rest : List ℕ) (r : Read A) → g.read (record { rest = text; farthest = text }) ≡ r → behind r ≡ Ok rest → (plain g).Goes text rest
  plain_ok text rest (Ok taken) e same =
      let parts = read_parts text taken e in
      (taken.0, parts.0, parts.1 ∙ ap (λ z. g.spell taken.0 ++ z) (same_rest (behind (Ok taken)) taken.1.rest rest refl same))
  plain_ok text rest (Err stop) e same = absurd (not_both (Err None) rest None same refl)

  plain_goes : (x : A) (rest : List ℕ) (r : Read A) → Again x rest r → behind r ≡ Ok rest
  plain_goes x rest (Ok taken) back = ap (λ z. Ok z) back.1
  plain_goes x rest (Err stop) back = absurd back

  plain_right : (f : CertFault) (r : Read A) → behind r ≡ Err (Some f) → ⊥
  plain_right f (Ok taken) same = not_both (behind (Ok taken)) taken.1.rest (Some f) refl same
  plain_right f (Err stop) same = no_fault (Err None) f refl same

  pub plain_told : Told (plain g)
  plain_told = record {
    ok = λ text rest e. plain_ok text rest (g.read (record { rest = text; farthest = text })) refl e;
    goes = λ text rest is. plain_goes is.0 rest (g.read (record { rest = text; farthest = text })) (read_again text is.0 rest is.1 is.2);
    fault = λ text f e. plain_right f (g.read (record { rest = text; farthest = text })) e;
    wrong = λ text f is. absurd is;
    kind = λ text f is. absurd is;
  }

-- One part behind another.

module _ (p q : Part) (first : Told p) (second : Told q) where
  turn_ok : (text rest : List ℕ) (l : Looked) → p.look text ≡ l → (l >=> q.look) ≡ Ok rest → (in_turn p q).Goes text rest
  turn_ok text rest (Ok m) e same = (m, first.ok text m e, second.ok m rest same)
  turn_ok text rest (Err x) e same = absurd (not_both (Err x) rest x same refl)

  turn_fault : (text : List ℕ) (f : CertFault) (l : Looked) → p.look text ≡ l → (l >=> q.look) ≡ Err (Some f) → (in_turn p q).IsWrong text f
  turn_fault text f (Ok m) e same = inr (m, first.ok text m e, second.fault m f same)
  turn_fault text f (Err None) e same = absurd (no_fault (Err None) f refl same)
  turn_fault text f (Err (Some h)) e same = inl (first.fault text f (e ∙ same))

  turn_wrong : (text : List ℕ) (f : CertFault) → (in_turn p q).IsWrong text f → (in_turn p q).look text ≡ Err (Some f)
  turn_wrong text f is = elim is [
    | inl here ↦ ap (λ (l : Looked). l >=> q.look) (first.wrong text f here)
    | inr later ↦ ap (λ (l : Looked). l >=> q.look) (first.goes text later.0 later.1) ∙ second.wrong later.0 f later.2
  ]

  turn_kind : (text : List ℕ) (f : CertFault) → (in_turn p q).IsWrong text f → IsOfValue f
  turn_kind text f is = elim is [ inl here ↦ first.kind text f here | inr later ↦ second.kind later.0 f later.2 ]

  pub turn_told : Told (in_turn p q)
  turn_told = record {
    ok = λ text rest e. turn_ok text rest (p.look text) refl e;
    goes = λ text rest is. ap (λ (l : Looked). l >=> q.look) (first.goes text is.0 is.1) ∙ second.goes is.0 rest is.2;
    fault = λ text f e. turn_fault text f (p.look text) refl e;
    wrong = turn_wrong;
    kind = turn_kind;
  }

-- A part that may be absent, and one that stands there often.

module _ (p : Part) (told : Told p) where
  lacks : (text : List ℕ) → p.look text ≡ Err None → Lacks p text
  lacks text e = ((λ rest goes. not_both (p.look text) rest None (told.goes text rest goes) e), (λ f wrong. no_fault (p.look text) f e (told.wrong text f wrong)))

  lacking : (text : List ℕ) → Lacks p text → (l : Looked) → p.look text ≡ l → p.look text ≡ Err None
  lacking text is (Ok rest) e = absurd (is.0 rest (told.ok text rest e))
  lacking text is (Err None) e = e
  lacking text is (Err (Some f)) e = absurd (is.1 f (told.fault text f e))

  absent_ok : (text rest : List ℕ) (l : Looked) → p.look text ≡ l → if_there l text ≡ Ok rest → (absent_or p).Goes text rest
  absent_ok text rest (Ok m) e same = inl (told.ok text rest (e ∙ same))
  absent_ok text rest (Err None) e same = inr (lacks text e, same_rest (Ok text) rest text same refl)
  absent_ok text rest (Err (Some f)) e same = absurd (not_both (Err (Some f)) rest (Some f) same refl)

  absent_goes : (text rest : List ℕ) → (absent_or p).Goes text rest → (absent_or p).look text ≡ Ok rest
  absent_goes text rest is = elim is [
    | inl goes ↦ ap (λ (l : Looked). if_there l text) (told.goes text rest goes)
    | inr none ↦ ap (λ (l : Looked). if_there l text) (lacking text none.0 (p.look text) refl) ∙ ap (λ z. Ok z) (sym none.1)
  ]

  absent_fault : (text : List ℕ) (f : CertFault) (l : Looked) → p.look text ≡ l → if_there l text ≡ Err (Some f) → p.IsWrong text f
  absent_fault text f (Ok m) e same = absurd (not_both (Ok m) m (Some f) refl same)
  absent_fault text f (Err None) e same = absurd (not_both (Ok text) text (Some f) refl same)
  absent_fault text f (Err (Some h)) e same = told.fault text f (e ∙ same)

  pub absent_told : Told (absent_or p)
  absent_told = record {
    ok = λ text rest e. absent_ok text rest (p.look text) refl e;
    goes = absent_goes;
    fault = λ text f e. absent_fault text f (p.look text) refl e;
    wrong = λ text f is. ap (λ (l : Looked). if_there l text) (told.wrong text f is);
    kind = told.kind;
  }

  often_ok_step : (n : ℕ) (text rest : List ℕ) (l : Looked) → p.look text ≡ l → once_more l text (look_often p.look n) ≡ Ok rest
      → ((m : List ℕ) → look_often p.look n m ≡ Ok rest → (k : ℕ) × GoesOften p k m rest) → (k : ℕ) × GoesOften p k text rest
  often_ok_step n text rest (Ok m) e same further = let r = further m same in (suc r.0, (m, told.ok text m e, r.1))
  often_ok_step n text rest (Err None) e same further = (zero, (lacks text e, same_rest (Ok text) rest text same refl))
  often_ok_step n text rest (Err (Some f)) e same further = absurd (not_both (Err (Some f)) rest (Some f) same refl)

  often_ok : (n : ℕ) (text rest : List ℕ) → look_often p.look n text ≡ Ok rest → (k : ℕ) × GoesOften p k text rest
  unfolding look_often
  often_ok zero text rest e = absurd (not_both (Err None) rest None e refl)
  often_ok (suc n) text rest e = often_ok_step n text rest (p.look text) refl e (λ m same. often_ok n m rest same)

  often_fault_step : (n : ℕ) (text : List ℕ) (f : CertFault) (l : Looked) → p.look text ≡ l → once_more l text (look_often p.look n) ≡ Err (Some f)
      → ((m : List ℕ) → look_often p.look n m ≡ Err (Some f) → (k : ℕ) × IsWrongBehind p k m f) → (k : ℕ) × IsWrongBehind p k text f
  often_fault_step n text f (Ok m) e same further = let r = further m same in (suc r.0, (m, told.ok text m e, r.1))
  often_fault_step n text f (Err None) e same further = absurd (not_both (Ok text) text (Some f) refl same)
  often_fault_step n text f (Err (Some h)) e same further = (zero, told.fault text f (e ∙ same))

  often_fault : (n : ℕ) (text : List ℕ) (f : CertFault) → look_often p.look n text ≡ Err (Some f) → (k : ℕ) × IsWrongBehind p k text f
  unfolding look_often
  often_fault zero text f e = absurd (no_fault (Err None) f refl e)
  often_fault (suc n) text f e = often_fault_step n text f (p.look text) refl e (λ m same. often_fault n m f same)

  often_kind : (k : ℕ) (text : List ℕ) (f : CertFault) → IsWrongBehind p k text f → IsOfValue f
  often_kind zero text f is = told.kind text f is
  often_kind (suc k) text f is = often_kind k is.0 f is.2

  module _ (shorter : (text rest : List ℕ) → p.Goes text rest → length rest < length text) where
    often_goes : (k n : ℕ) (text rest : List ℕ) → length text < n → GoesOften p k text rest → look_often p.look n text ≡ Ok rest
    unfolding look_often
    often_goes k zero text rest enough is = absurd (omega arith)
    often_goes zero (suc n) text rest enough is =
        ap (λ (l : Looked). once_more l text (look_often p.look n)) (lacking text is.0 (p.look text) refl) ∙ ap (λ z. Ok z) (sym is.1)
    often_goes (suc k) (suc n) text rest enough is =
        let less = shorter text is.0 is.1 in
        ap (λ (l : Looked). once_more l text (look_often p.look n)) (told.goes text is.0 is.1) ∙ often_goes k n is.0 rest (omega arith) is.2

    often_wrong : (k n : ℕ) (text : List ℕ) (f : CertFault) → length text < n → IsWrongBehind p k text f → look_often p.look n text ≡ Err (Some f)
    unfolding look_often
    often_wrong k zero text f enough is = absurd (omega arith)
    often_wrong zero (suc n) text f enough is = ap (λ (l : Looked). once_more l text (look_often p.look n)) (told.wrong text f is)
    often_wrong (suc k) (suc n) text f enough is =
        let less = shorter text is.0 is.1 in
        ap (λ (l : Looked). once_more l text (look_often p.look n)) (told.goes text is.0 is.1) ∙ often_wrong k n is.0 f (omega arith) is.2

    pub often_told : Told (often p)
    often_told = record {
      ok = λ text rest e. often_ok (suc (length text)) text rest e;
      goes = λ text rest is. often_goes is.0 (suc (length text)) text rest (omega arith) is.1;
      fault = λ text f e. often_fault (suc (length text)) text f e;
      wrong = λ text f is. often_wrong is.0 (suc (length text)) text f (omega arith) is.1;
      kind = λ text f is. often_kind is.0 text f is.1;
    }

-- A loop: what it is still to look at.

pub record StillLooks (look : List ℕ → Looked) (text : List ℕ) (total : Looked) : Type 0 where
  pub steps : ℕ
  pub enough : length text < steps
  pub so_far : look_often look steps text ≡ total

module _ (look : List ℕ → Looked) where
  step_on : (text rest : List ℕ) (n : ℕ) → look text ≡ Ok rest → look_often look n rest ≡ look_often look (suc n) text
  unfolding look_often
  step_on text rest n e = ap (λ (l : Looked). once_more l text (look_often look n)) (sym e)

  step_end : (text : List ℕ) (n : ℕ) → look text ≡ Err None → look_often look (suc n) text ≡ Ok text
  unfolding look_often
  step_end text n e = ap (λ (l : Looked). once_more l text (look_often look n)) e

  step_fault : (text : List ℕ) (f : CertFault) (n : ℕ) → look text ≡ Err (Some f) → look_often look (suc n) text ≡ Err (Some f)
  unfolding look_often
  step_fault text f n e = ap (λ (l : Looked). once_more l text (look_often look n)) e

  pub looks_first : (text : List ℕ) → StillLooks look text (look_often look (suc (length text)) text)
  looks_first text = record { steps = suc (length text); enough = omega arith; so_far = refl }

  pub looks_on : (text rest : List ℕ) (total : Looked) → StillLooks look text total → look text ≡ Ok rest → length rest < length text → StillLooks look rest total
  looks_on text rest total so e less = from_steps so.steps so.enough so.so_far
    where
      from_steps : (n : ℕ) → length text < n → look_often look n text ≡ total → StillLooks look rest total
      from_steps zero enough so_far = absurd (omega arith)
      from_steps (suc n) enough so_far = record { steps = n; enough = omega arith; so_far = step_on text rest n e ∙ so_far }

  pub looks_end : (text : List ℕ) (total : Looked) → StillLooks look text total → look text ≡ Err None → total ≡ Ok text
  looks_end text total so e = from_steps so.steps so.enough so.so_far
    where
      from_steps : (n : ℕ) → length text < n → look_often look n text ≡ total → total ≡ Ok text
      from_steps zero enough so_far = absurd (omega arith)
      from_steps (suc n) enough so_far = sym so_far ∙ step_end text n e

  pub looks_fault : (text : List ℕ) (f : CertFault) (total : Looked) → StillLooks look text total → look text ≡ Err (Some f) → total ≡ Err (Some f)
  looks_fault text f total so e = from_steps so.steps so.enough so.so_far
    where
      from_steps : (n : ℕ) → length text < n → look_often look n text ≡ total → total ≡ Err (Some f)
      from_steps zero enough so_far = absurd (omega arith)
      from_steps (suc n) enough so_far = sym so_far ∙ step_fault text f n e

-- a look goes on behind what it took
pub leads_to : (l : Looked) (rest : List ℕ) (next : List ℕ → Looked) (total : Looked) → l ≡ Ok rest → next rest ≡ total → (l >=> next) ≡ total
leads_to l rest next total e further = ap (λ (x : Looked). x >=> next) e ∙ further
