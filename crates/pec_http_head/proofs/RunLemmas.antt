-- Bytes that a reader goes through from where it stands until the head ends with the last of them: these are lines, as
-- `HeadEnds` has them.
use Rattle.std.proofs.Common.{◌≡◌, ◌≢◌, ℕ, ◌+◌, Bool, true, false, cond, eqb, List, [], ◌∷◌, ◌++◌, length, Option, Some, None, inl, inr, refl, sym, ◌∙◌, ap, subst, append_assoc, arith, eqb-true}
use Rattle.std.proofs.lemmas.Bool.{eqb-false, ne_eqb}
use Rattle.std.specs.List.{AllByRecursion}
use Rattle.pec_types.specs.Bytes.{Bytes}
use Rattle.pec_words.specs.Cuts.{Lacks}
use Rattle.pec_http_head.specs.Cuts.{lines_with, step_of}
use Rattle.pec_http_head.specs.HeadEnds.{IsEmpty, IsFilled, IsHead, lines_of}
use Rattle.pec_http_head.specs.declared.stands.Stand.{Stand}
use Rattle.pec_http_head.specs.declared.stands.Stand.TheVariants.{Blank, BlankReturn, InLine, Begins, BeginsReturn}

-- a reader who stands so behind a byte has come to the end, or goes on
abbrev pub RunsOn : Option Stand → ℕ → Bytes → ℕ → (Stand → Type 0) → Type 0
RunsOn None lines rest total goes_on = (rest ≡ []) × (total ≡ lines)
RunsOn (Some next) lines rest total goes_on = goes_on next

-- The head ends with the last of these bytes, for a reader who stands so behind so many lines that aren't empty; there are
-- so many of these then.
abbrev pub Runs : Stand → ℕ → Bytes → ℕ → Type 0
Runs stand lines [] total = ⊥
Runs stand lines (b ∷ bs) total =
    RunsOn (step_of stand b) (lines_with stand lines b) bs total (λ next. Runs next (lines_with stand lines b) bs total)

-- ---- what is left of the lines, by where the reader stands

-- whole lines
pub record Tail (lines : ℕ) (text : Bytes) (total : ℕ) : Type 0 where
  pub others : List Bytes
  pub last : Bytes
  pub others_filled : AllByRecursion IsFilled others
  pub last_empty : IsEmpty last
  pub total_is : total ≡ lines + length others
  pub text_is : text ≡ lines_of others ++ lines_of (last ∷ [])

-- the end of a line, and whole lines
pub record Line (lines : ℕ) (text : Bytes) (total : ℕ) : Type 0 where
  pub content : Bytes
  pub rest : Bytes
  pub feedless : Lacks 10 content
  pub text_is : text ≡ content ++ 10 ∷ rest
  pub behind : Tail (lines + 1) rest total

-- empty lines, one that isn't empty, and whole lines
pub record Whole (lines : ℕ) (text : Bytes) (total : ℕ) : Type 0 where
  pub front : List Bytes
  pub first : Bytes
  pub rest : Bytes
  pub front_empty : AllByRecursion IsEmpty front
  pub first_filled : IsFilled first
  pub text_is : text ≡ lines_of front ++ (first ++ 10 ∷ rest)
  pub behind : Tail (lines + 1) rest total

abbrev Left : Stand → ℕ → Bytes → ℕ → Type 0
Left Blank lines text total = Whole lines text total
Left BlankReturn lines text total = Whole lines (13 ∷ text) total
Left InLine lines text total = Line lines text total
Left Begins lines text total = Tail lines text total
Left BeginsReturn lines text total = Tail lines (13 ∷ text) total

-- an empty line in front
passed : (lines total : ℕ) (content text : Bytes) → IsEmpty content → Whole lines text total → Whole lines (content ++ 10 ∷ text) total
passed lines total content text empty left = record {
  front = content ∷ left.front;
  first = left.first;
  rest = left.rest;
  front_empty = (empty, left.front_empty);
  first_filled = left.first_filled;
  behind = left.behind;
  text_is = ap (λ t. content ++ 10 ∷ t) left.text_is ∙ sym (append_assoc content (10 ∷ lines_of left.front) (left.first ++ 10 ∷ left.rest));
}

-- what isn't empty: one byte that is neither, or a CR and more
one_filled : (b : ℕ) (bs : Bytes) → b ≢ 10 → b ≢ 13 → Lacks 10 bs → IsFilled (b ∷ bs)
one_filled b bs feed return lacks = record { feedless = (feed, lacks); filled = filled }
  where
    filled : IsEmpty (b ∷ bs) → ⊥
    filled (inl e) = cc
    filled (inr e) = return (first e)
      where
        first : b ∷ bs ≡ 13 ∷ [] → b ≡ 13
        first e = cc

two_filled : (b : ℕ) (bs : Bytes) → b ≢ 10 → Lacks 10 bs → IsFilled (13 ∷ b ∷ bs)
two_filled b bs feed lacks = record { feedless = ((λ e. let h : ⊥ = omega arith in h), (feed, lacks)); filled = filled }
  where
    filled : IsEmpty (13 ∷ b ∷ bs) → ⊥
    filled (inl e) = cc
    filled (inr e) = cc

begun : (lines total : ℕ) (text : Bytes) (more : Bytes) → (whole : Bytes) → (left : Line lines text total) → IsFilled (more ++ left.content) → whole ≡ more ++ text → Whole lines whole total
begun lines total text more whole left filled e = record {
  front = [];
  first = more ++ left.content;
  rest = left.rest;
  front_empty = tt;
  first_filled = filled;
  behind = left.behind;
  text_is = e ∙ (ap (λ t. more ++ t) left.text_is ∙ sym (append_assoc more left.content (10 ∷ left.rest)));
}

added : (lines total : ℕ) (text : Bytes) (more : Bytes) → (whole : Bytes) → (left : Line lines text total) → IsFilled (more ++ left.content) → whole ≡ more ++ text → Tail lines whole total
added lines total text more whole left filled e = record {
  others = (more ++ left.content) ∷ left.behind.others;
  last = left.behind.last;
  others_filled = (filled, left.behind.others_filled);
  last_empty = left.behind.last_empty;
  total_is = omega (arith, left.behind.total_is);
  text_is =
      e ∙ (ap (λ t. more ++ t) (left.text_is ∙ ap (λ t. left.content ++ 10 ∷ t) left.behind.text_is)
      ∙ (sym (append_assoc more left.content (10 ∷ (lines_of left.behind.others ++ lines_of (left.behind.last ∷ []))))
      ∙ sym (append_assoc (more ++ left.content) (10 ∷ lines_of left.behind.others) (lines_of (left.behind.last ∷ [])))));
}

ended : (lines total : ℕ) (bs : Bytes) (content : Bytes) → IsEmpty content → bs ≡ [] → total ≡ lines → Tail lines (content ++ 10 ∷ bs) total
ended lines total bs content empty none same = record {
  others = [];
  last = content;
  others_filled = tt;
  last_empty = empty;
  total_is = omega arith;
  text_is = ap (λ t. content ++ 10 ∷ t) none;
}

-- ---- what is gone through is what is left

abbrev Onward : Bytes → ℕ → Type 0
Onward bs total = (stand : Stand) (lines : ℕ) → Runs stand lines bs total → Left stand lines bs total

from_blank : (lines b total : ℕ) (bs : Bytes) (x y : Bool) → eqb b 10 ≡ x → eqb b 13 ≡ y → Onward bs total
    → RunsOn (cond x (Some Blank) (cond y (Some BlankReturn) (Some InLine))) lines bs total (λ next. Runs next lines bs total) → Whole lines (b ∷ bs) total
from_blank lines b total bs true y feed e ih h =
    subst (λ c. Whole lines (c ∷ bs) total) (sym (eqb-true b 10 feed)) (passed lines total [] bs (inl refl) (ih Blank lines h))
from_blank lines b total bs false true feed return ih h = subst (λ c. Whole lines (c ∷ bs) total) (sym (eqb-true b 13 return)) (ih BlankReturn lines h)
from_blank lines b total bs false false feed return ih h =
    let left : Line lines bs total = ih InLine lines h in
    begun lines total bs (b ∷ []) (b ∷ bs) left (one_filled b left.content (eqb-false b 10 feed) (eqb-false b 13 return) left.feedless) refl

from_blank_return : (lines b total : ℕ) (bs : Bytes) (x : Bool) → eqb b 10 ≡ x → Onward bs total
    → RunsOn (cond x (Some Blank) (Some InLine)) lines bs total (λ next. Runs next lines bs total) → Whole lines (13 ∷ b ∷ bs) total
from_blank_return lines b total bs true feed ih h =
    subst (λ c. Whole lines (13 ∷ c ∷ bs) total) (sym (eqb-true b 10 feed)) (passed lines total (13 ∷ []) bs (inr refl) (ih Blank lines h))
from_blank_return lines b total bs false feed ih h =
    let left : Line lines bs total = ih InLine lines h in
    begun lines total bs (13 ∷ b ∷ []) (13 ∷ b ∷ bs) left (two_filled b left.content (eqb-false b 10 feed) left.feedless) refl

from_line : (lines b total : ℕ) (bs : Bytes) (x : Bool) → eqb b 10 ≡ x → Onward bs total
    → RunsOn (cond x (Some Begins) (Some InLine)) (cond x (lines + 1) lines) bs total (λ next. Runs next (cond x (lines + 1) lines) bs total) → Line lines (b ∷ bs) total
from_line lines b total bs true feed ih h = record {
  content = [];
  rest = bs;
  feedless = tt;
  text_is = ap (λ c. c ∷ bs) (eqb-true b 10 feed);
  behind = ih Begins (lines + 1) h;
}
from_line lines b total bs false feed ih h =
    let left : Line lines bs total = ih InLine lines h in
    record { content = b ∷ left.content; rest = left.rest; feedless = (eqb-false b 10 feed, left.feedless); text_is = ap (λ t. b ∷ t) left.text_is; behind = left.behind }

from_begins : (lines b total : ℕ) (bs : Bytes) (x y : Bool) → eqb b 10 ≡ x → eqb b 13 ≡ y → Onward bs total
    → RunsOn (cond x None (cond y (Some BeginsReturn) (Some InLine))) lines bs total (λ next. Runs next lines bs total) → Tail lines (b ∷ bs) total
from_begins lines b total bs true y feed e ih h = subst (λ c. Tail lines (c ∷ bs) total) (sym (eqb-true b 10 feed)) (ended lines total bs [] (inl refl) h.0 h.1)
from_begins lines b total bs false true feed return ih h = subst (λ c. Tail lines (c ∷ bs) total) (sym (eqb-true b 13 return)) (ih BeginsReturn lines h)
from_begins lines b total bs false false feed return ih h =
    let left : Line lines bs total = ih InLine lines h in
    added lines total bs (b ∷ []) (b ∷ bs) left (one_filled b left.content (eqb-false b 10 feed) (eqb-false b 13 return) left.feedless) refl

from_begins_return : (lines b total : ℕ) (bs : Bytes) (x : Bool) → eqb b 10 ≡ x → Onward bs total
    → RunsOn (cond x None (Some InLine)) lines bs total (λ next. Runs next lines bs total) → Tail lines (13 ∷ b ∷ bs) total
from_begins_return lines b total bs true feed ih h = subst (λ c. Tail lines (13 ∷ c ∷ bs) total) (sym (eqb-true b 10 feed)) (ended lines total bs (13 ∷ []) (inr refl) h.0 h.1)
from_begins_return lines b total bs false feed ih h =
    let left : Line lines bs total = ih InLine lines h in
    added lines total bs (13 ∷ b ∷ []) (13 ∷ b ∷ bs) left (two_filled b left.content (eqb-false b 10 feed) left.feedless) refl

left_of : (total : ℕ) (text : Bytes) → Onward text total
left_of total [] stand lines h = absurd h
left_of total (b ∷ bs) Blank lines h = from_blank lines b total bs (eqb b 10) (eqb b 13) refl refl (left_of total bs) h
left_of total (b ∷ bs) BlankReturn lines h = from_blank_return lines b total bs (eqb b 10) refl (left_of total bs) h
left_of total (b ∷ bs) InLine lines h = from_line lines b total bs (eqb b 10) refl (left_of total bs) h
left_of total (b ∷ bs) Begins lines h = from_begins lines b total bs (eqb b 10) (eqb b 13) refl refl (left_of total bs) h
left_of total (b ∷ bs) BeginsReturn lines h = from_begins_return lines b total bs (eqb b 10) refl (left_of total bs) h

-- ---- what is left is gone through

in_line : (lines total : ℕ) (content rest : Bytes) → Lacks 10 content → Runs Begins (lines + 1) rest total → Runs InLine lines (content ++ 10 ∷ rest) total
in_line lines total [] rest lacks h = h
in_line lines total (b ∷ bs) rest lacks h = rw (ne_eqb b 10 lacks.0) (in_line lines total bs rest lacks.1 h)

filled_begins : (lines total : ℕ) (content rest : Bytes) → IsFilled content → Runs Begins (lines + 1) rest total → Runs Begins lines (content ++ 10 ∷ rest) total
filled_begins lines total [] rest is h = absurd (is.filled (inl refl))
filled_begins lines total (b ∷ bs) rest is h = by_return (eqb b 13) refl
  where
    behind_return : (bs : Bytes) → Lacks 10 bs → (bs ≡ [] → ⊥) → Runs BeginsReturn lines (bs ++ 10 ∷ rest) total
    behind_return [] lacks some = absurd (some refl)
    behind_return (c ∷ cs) lacks some = rw (ne_eqb c 10 lacks.0) (in_line lines total cs rest lacks.1 h)

    by_return : (y : Bool) → eqb b 13 ≡ y → Runs Begins lines ((b ∷ bs) ++ 10 ∷ rest) total
    by_return true e =
        rw (ne_eqb b 10 is.feedless.0, e)
        (behind_return bs is.feedless.1 (λ none. is.filled (inr (ap (λ c. c ∷ bs) (eqb-true b 13 e) ∙ ap (λ t. 13 ∷ t) none))))
    by_return false e = rw (ne_eqb b 10 is.feedless.0, e) (in_line lines total bs rest is.feedless.1 h)

filled_blank : (lines total : ℕ) (content rest : Bytes) → IsFilled content → Runs Begins (lines + 1) rest total → Runs Blank lines (content ++ 10 ∷ rest) total
filled_blank lines total [] rest is h = absurd (is.filled (inl refl))
filled_blank lines total (b ∷ bs) rest is h = by_return (eqb b 13) refl
  where
    behind_return : (bs : Bytes) → Lacks 10 bs → (bs ≡ [] → ⊥) → Runs BlankReturn lines (bs ++ 10 ∷ rest) total
    behind_return [] lacks some = absurd (some refl)
    behind_return (c ∷ cs) lacks some = rw (ne_eqb c 10 lacks.0) (in_line lines total cs rest lacks.1 h)

    by_return : (y : Bool) → eqb b 13 ≡ y → Runs Blank lines ((b ∷ bs) ++ 10 ∷ rest) total
    by_return true e =
        rw (ne_eqb b 10 is.feedless.0, e)
        (behind_return bs is.feedless.1 (λ none. is.filled (inr (ap (λ c. c ∷ bs) (eqb-true b 13 e) ∙ ap (λ t. 13 ∷ t) none))))
    by_return false e = rw (ne_eqb b 10 is.feedless.0, e) (in_line lines total bs rest is.feedless.1 h)

last_runs : (lines total : ℕ) (last : Bytes) → IsEmpty last → total ≡ lines → Runs Begins lines (last ++ 10 ∷ []) total
last_runs lines total last (inl e) same = subst (λ t. Runs Begins lines (t ++ 10 ∷ []) total) (sym e) (refl, same)
last_runs lines total last (inr e) same = subst (λ t. Runs Begins lines (t ++ 10 ∷ []) total) (sym e) (refl, same)

others_run : (lines total : ℕ) (others : List Bytes) (last : Bytes) → AllByRecursion IsFilled others → IsEmpty last → total ≡ lines + length others
    → Runs Begins lines (lines_of others ++ lines_of (last ∷ [])) total
others_run lines total [] last filled empty same = last_runs lines total last empty (omega (arith, same))
others_run lines total (content ∷ others) last filled empty same =
    subst (λ t. Runs Begins lines t total) (sym (append_assoc content (10 ∷ lines_of others) (lines_of (last ∷ []))))
    (filled_begins lines total content (lines_of others ++ lines_of (last ∷ [])) filled.0 (others_run (lines + 1) total others last filled.1 empty (omega (arith, same))))

front_runs : (lines total : ℕ) (front : List Bytes) (rest : Bytes) → AllByRecursion IsEmpty front → Runs Blank lines rest total → Runs Blank lines (lines_of front ++ rest) total
front_runs lines total [] rest empty h = h
front_runs lines total (content ∷ front) rest empty h =
    subst (λ t. Runs Blank lines t total) (sym (append_assoc content (10 ∷ lines_of front) rest)) (by_content content empty.0 (front_runs lines total front rest empty.1 h))
  where
    by_content : (content : Bytes) → IsEmpty content → Runs Blank lines (lines_of front ++ rest) total → Runs Blank lines (content ++ 10 ∷ (lines_of front ++ rest)) total
    by_content content (inl e) k = subst (λ c. Runs Blank lines (c ++ 10 ∷ (lines_of front ++ rest)) total) (sym e) k
    by_content content (inr e) k = subst (λ c. Runs Blank lines (c ++ 10 ∷ (lines_of front ++ rest)) total) (sym e) k

-- ---- heads

pub head_runs : (text : Bytes) (count : ℕ) → IsHead text count → Runs Blank 0 text (count + 1)
head_runs text count is =
    let behind : Runs Begins 1 (lines_of is.others ++ lines_of (is.last ∷ [])) (count + 1) = others_run 1 (count + 1) is.others is.last is.others_filled is.last_empty (omega (arith, is.count_is)) in
    let first : Runs Blank 0 (is.first ++ 10 ∷ (lines_of is.others ++ lines_of (is.last ∷ []))) (count + 1) = filled_blank 0 (count + 1) is.first (lines_of is.others ++ lines_of (is.last ∷ [])) is.first_filled behind in
    subst (λ t. Runs Blank 0 t (count + 1)) (sym is.text_is)
    (front_runs 0 (count + 1) is.front (lines_of (is.first ∷ is.others) ++ lines_of (is.last ∷ [])) is.front_empty
    (subst (λ t. Runs Blank 0 t (count + 1)) (sym (append_assoc is.first (10 ∷ lines_of is.others) (lines_of (is.last ∷ [])))) first))

pub runs_head : (text : Bytes) (total : ℕ) → Runs Blank 0 text total → (count : ℕ) × IsHead text count × (total ≡ count + 1)
runs_head text total h =
    let left : Whole 0 text total = left_of total text Blank 0 h in (
      length left.behind.others,
      record {
        front = left.front;
        first = left.first;
        others = left.behind.others;
        last = left.behind.last;
        front_empty = left.front_empty;
        first_filled = left.first_filled;
        others_filled = left.behind.others_filled;
        last_empty = left.behind.last_empty;
        count_is = refl;
        text_is =
            left.text_is ∙ ap (λ t. lines_of left.front ++ t)
            (ap (λ t. left.first ++ 10 ∷ t) left.behind.text_is ∙ sym (append_assoc left.first (10 ∷ lines_of left.behind.others) (lines_of (left.behind.last ∷ []))));
      },
      omega (arith, left.behind.total_is),
    )
