-- `head_of` and the relations on whole texts: what it gives is so, and what is so it gives.
use Rattle.std.proofs.Common.{◌≡◌, ℕ, ◌+◌, ◌==◌, List, [], ◌∷◌, ◌++◌, map, Bool, true, false, ◌&&◌, ◌⊎◌, inl, inr, length, Result, Ok, Err, refl, ap, sym, ◌∙◌, arith, append_assoc, append-nil, add-zero, zero-add}
use Rattle.std.proofs.Math.Dec.{eqb-suc-zero}
use Rattle.std.proofs.lemmas.Bool.{both_ways, and_right, false_from_ne_true}
use Rattle.std.specs.List.{flat_map, concat}
use Rattle.pec_heads.specs.Lines.{whole_lines, content_of, size}
use Rattle.pec_heads.specs.Heads.{NamedValue, GoesOn, AllGoOn, FieldLines, IsField, AllFields, lines_of, first_line_of, raw_of, cut, unfolded, IsHead, IsFaulty, Stops, HasHead, HasHeadFault}
use Rattle.pec_types.specs.Results.{◌>>=◌}
use Rattle.pec_heads.specs.HeadReading.{Role, ends, more, opens, onto_last, after_line, head_from, head_of, line_of}
use Rattle.pec_heads.specs.declared.faults.HeadFault.{HeadFault}
use Rattle.pec_heads.proofs.Tools.{ok_is, err_is}
use Rattle.pec_heads.proofs.FieldLemmas.{onto_last-append}
use Rattle.pec_heads.proofs.LineRoles.{Says, line_says, line_ends, line_more, line_opens, fault_again}

-- ---- fields that go on

pub onto_nil : (fs : List NamedValue) → onto_last fs [] ≡ fs
onto_nil [] = refl
onto_nil (f ∷ []) = rw append-nil refl
onto_nil (f ∷ g ∷ fs) = ap (λ gs. f ∷ gs) (onto_nil (g ∷ fs))

onto_cons : (f : NamedValue) (fs : List NamedValue) (bytes : List ℕ) (g : NamedValue) → onto_last (f ∷ g ∷ fs) bytes ≡ f ∷ onto_last (g ∷ fs) bytes
onto_cons f fs bytes g = refl

onto_front : (f g : NamedValue) (fs : List NamedValue) (a b : List ℕ) → onto_last (f ∷ onto_last (g ∷ fs) a) b ≡ f ∷ onto_last (onto_last (g ∷ fs) a) b
onto_front f g [] a b = refl
onto_front f g (h ∷ fs) a b = refl

onto_twice : (fs : List NamedValue) (a b : List ℕ) → onto_last (onto_last fs a) b ≡ onto_last fs (a ++ b)
onto_twice [] a b = refl
onto_twice (f ∷ []) a b = rw append_assoc refl
onto_twice (f ∷ g ∷ fs) a b = onto_front f g fs a b ∙ ap (λ gs. f ∷ gs) (onto_twice (g ∷ fs) a b)

no_fields : (fs : List NamedValue) → (length fs == 0) ≡ true → fs ≡ []
no_fields [] e = refl
no_fields (f ∷ fs) e = absurd (both_ways (length (f ∷ fs) == 0) (eqb-suc-zero (length fs)) e)

-- ---- lines of fields: those that go on with the last field of fs, and then whole fields

pub record Front (fs : List NamedValue) (before : List (List ℕ)) : Type 0 where
  pub on : List (List ℕ)
  pub trees : List FieldLines
  pub goes : AllGoOn on
  pub each : AllFields trees
  pub contents : map content_of before ≡ on ++ flat_map lines_of trees
  pub first : (length fs == 0) ≡ true → on ≡ []

abbrev pub grown_by : List NamedValue → List (List ℕ) → List FieldLines → List NamedValue
grown_by fs on trees = onto_last fs (concat on) ++ map raw_of trees

pub record Run (fs : List NamedValue) (place : ℕ) (lines : List (List ℕ)) (fields : List NamedValue) (end : ℕ) : Type 0 where
  pub before : List (List ℕ)
  pub last : List ℕ
  pub after : List (List ℕ)
  pub front : Front fs before
  pub parts : lines ≡ before ++ last ∷ after
  pub empty : content_of last ≡ []
  pub fields_are : fields ≡ grown_by fs front.on front.trees
  pub place_is : end ≡ place + (size before + (length last + 1))

pub record Stop (fs : List NamedValue) (place : ℕ) (lines : List (List ℕ)) (fault : HeadFault) : Type 0 where
  pub before : List (List ℕ)
  pub after : List (List ℕ)
  pub front : Front fs before
  pub parts : lines ≡ before ++ after
  pub fault_is : Stops (place + size before) ((length fs == 0) && (length before == 0)) after fault

abbrev pub RunSays : List NamedValue → ℕ → List (List ℕ) → Result (List NamedValue × ℕ) HeadFault → Type 0
RunSays fs place lines (Ok read) = Run fs place lines read.0 read.1
RunSays fs place lines (Err fault) = Stop fs place lines fault

no_front : (fs : List NamedValue) → Front fs []
no_front fs = record { on = []; trees = []; goes = tt; each = tt; contents = refl; first = λ _. refl }

more_front : (fs : List NamedValue) (line : List ℕ) (before : List (List ℕ)) → GoesOn (content_of line) → (length fs == 0) ≡ false
    → (f : Front (onto_last fs (content_of line)) before) → Front fs (line ∷ before)
more_front fs line before goes some f = record {
  on = content_of line ∷ f.on;
  trees = f.trees;
  goes = (goes, f.goes);
  each = f.each;
  contents = ap (λ ls. content_of line ∷ ls) f.contents;
  first = λ e. absurd (both_ways (length fs == 0) some e);
}

abbrev opened : List ℕ → List ℕ → NamedValue
opened name rest = record { name = name; value = rest }

abbrev tree_of : List ℕ → List ℕ → List (List ℕ) → FieldLines
tree_of name rest on = record { name = name; rest = rest; more = on }

open_front : (fs : List NamedValue) (line name rest : List ℕ) (before : List (List ℕ)) → Says 0 false (content_of line) (Ok (opens name rest))
    → (f : Front (fs ++ opened name rest ∷ []) before) → Front fs (line ∷ before)
open_front fs line name rest before says f = record {
  on = [];
  trees = tree_of name rest f.on ∷ f.trees;
  goes = tt;
  each = (record { name = says.1; first = rw (← says.2) says.0; more = f.goes }, f.each);
  contents = rw says.2 (ap (λ ls. (name ++ 58 ∷ rest) ∷ ls) f.contents);
  first = λ _. refl;
}

-- what the two add to the fields
more_grown : (fs : List NamedValue) (bytes : List ℕ) (on : List (List ℕ)) (trees : List FieldLines) → grown_by (onto_last fs bytes) on trees ≡ grown_by fs (bytes ∷ on) trees
more_grown fs bytes on trees = rw (onto_twice fs bytes (concat on)) refl

open_grown : (fs : List NamedValue) (name rest : List ℕ) (on : List (List ℕ)) (trees : List FieldLines)
    → grown_by (fs ++ opened name rest ∷ []) on trees ≡ grown_by fs [] (tree_of name rest on ∷ trees)
open_grown fs name rest on trees = rw (onto_last-append fs (opened name rest) (concat on), onto_nil fs, append_assoc) refl

-- ---- from the function to the relations

onto_size : (fs : List NamedValue) (bytes : List ℕ) → (length fs == 0) ≡ false → (length (onto_last fs bytes) == 0) ≡ false
onto_size [] bytes e = e
onto_size (f ∷ []) bytes e = e
onto_size (f ∷ g ∷ fs) bytes e = eqb-suc-zero (length (onto_last (g ∷ fs) bytes))

pushed_size : (fs : List NamedValue) (f : NamedValue) → (length (fs ++ f ∷ []) == 0) ≡ false
pushed_size [] f = refl
pushed_size (g ∷ fs) f = eqb-suc-zero (length (fs ++ f ∷ []))

farther : (p n s : ℕ) → p + (n + 1 + s) ≡ p + (n + 1) + s
farther p n s = omega arith

-- a line before the lines at which a run stopped
stop_later : (place : ℕ) (t u : Bool) (line : List ℕ) (before after : List (List ℕ)) (fault : HeadFault) → t ≡ false
    → Stops (place + (length line + 1) + size before) (t && (length before == 0)) after fault
    → Stops (place + size (line ∷ before)) (u && (length (line ∷ before) == 0)) after fault
stop_later place t u line before after fault e h =
    rw (eqb-suc-zero (length before), and_right u false refl, farther place (length line) (size before)) (rw e at h)

run_more : (fs : List NamedValue) (place : ℕ) (line bytes : List ℕ) (lines : List (List ℕ)) → Says place (length fs == 0) (content_of line) (Ok (more bytes))
    → (r : Result (List NamedValue × ℕ) HeadFault) → RunSays (onto_last fs (content_of line)) (place + (length line + 1)) lines r → RunSays fs place (line ∷ lines) r
unfolding more_front
run_more fs place line bytes lines says (Ok read) h = record {
  before = line ∷ h.before;
  last = h.last;
  after = h.after;
  front = more_front fs line h.before says.0 says.1 h.front;
  parts = ap (λ ls. line ∷ ls) h.parts;
  empty = h.empty;
  fields_are = h.fields_are ∙ more_grown fs (content_of line) h.front.on h.front.trees;
  place_is = omega (arith, h.place_is);
}
run_more fs place line bytes lines says (Err fault) h = record {
  before = line ∷ h.before;
  after = h.after;
  front = more_front fs line h.before says.0 says.1 h.front;
  parts = ap (λ ls. line ∷ ls) h.parts;
  fault_is = stop_later place (length (onto_last fs (content_of line)) == 0) (length fs == 0) line h.before h.after fault (onto_size fs (content_of line) says.1) h.fault_is;
}

run_open : (fs : List NamedValue) (place : ℕ) (line name rest : List ℕ) (lines : List (List ℕ)) → Says place (length fs == 0) (content_of line) (Ok (opens name rest))
    → (r : Result (List NamedValue × ℕ) HeadFault) → RunSays (fs ++ opened name rest ∷ []) (place + (length line + 1)) lines r → RunSays fs place (line ∷ lines) r
unfolding open_front
run_open fs place line name rest lines says (Ok read) h = record {
  before = line ∷ h.before;
  last = h.last;
  after = h.after;
  front = open_front fs line name rest h.before says h.front;
  parts = ap (λ ls. line ∷ ls) h.parts;
  empty = h.empty;
  fields_are = h.fields_are ∙ open_grown fs name rest h.front.on h.front.trees;
  place_is = omega (arith, h.place_is);
}
run_open fs place line name rest lines says (Err fault) h = record {
  before = line ∷ h.before;
  after = h.after;
  front = open_front fs line name rest h.before says h.front;
  parts = ap (λ ls. line ∷ ls) h.parts;
  fault_is = stop_later place (length (fs ++ opened name rest ∷ []) == 0) (length fs == 0) line h.before h.after fault (pushed_size fs (opened name rest)) h.fault_is;
}

and_nothing : (t : Bool) → (t && true) ≡ t
and_nothing true = refl
and_nothing false = refl

run_line : (fs : List NamedValue) (place : ℕ) (line : List ℕ) (lines : List (List ℕ)) (r : Result Role HeadFault) → Says place (length fs == 0) (content_of line) r
    → ((gs : List NamedValue) → RunSays gs (place + (length line + 1)) lines (head_from gs (place + (length line + 1)) lines))
    → RunSays fs place (line ∷ lines) (r >>= λ role. after_line fs (place + (length line + 1)) role (λ gs. head_from gs (place + (length line + 1)) lines))
unfolding no_front
run_line fs place line lines (Err fault) says ih = record {
  before = [];
  after = line ∷ lines;
  front = no_front fs;
  parts = refl;
  fault_is = rw (add-zero, and_nothing (length fs == 0)) says;
}
run_line fs place line lines (Ok ends) says ih = record {
  before = [];
  last = line;
  after = lines;
  front = no_front fs;
  parts = refl;
  empty = says;
  fields_are = sym (rw (onto_nil fs, append-nil) refl);
  place_is = omega arith;
}
run_line fs place line lines (Ok (more bytes)) says ih = rw says.2 (run_more fs place line bytes lines says (head_from (onto_last fs (content_of line)) (place + (length line + 1)) lines) (ih (onto_last fs (content_of line))))
run_line fs place line lines (Ok (opens name rest)) says ih =
    run_open fs place line name rest lines says (head_from (fs ++ opened name rest ∷ []) (place + (length line + 1)) lines) (ih (fs ++ opened name rest ∷ []))

pub runs : (fs : List NamedValue) (place : ℕ) (lines : List (List ℕ)) → RunSays fs place lines (head_from fs place lines)
runs fs place [] = record { before = []; after = []; front = no_front fs; parts = refl; fault_is = refl }
runs fs place (line ∷ lines) =
    run_line fs place line lines (line_of place (length fs == 0) (content_of line)) (line_says place (length fs == 0) (content_of line)) (λ gs. runs gs (place + (length line + 1)) lines)

-- ---- from the relations to the function

cons_is : (x y : List ℕ) (xs ys : List (List ℕ)) → x ∷ xs ≡ y ∷ ys → (x ≡ y) × (xs ≡ ys)
cons_is x y xs ys e = (cc, cc)

over_open : (line : List ℕ) (before : List (List ℕ)) (t : FieldLines) (trees : List FieldLines) (fs : List NamedValue) (place : ℕ) (rest : List (List ℕ)) → IsField t
    → content_of line ≡ first_line_of t
    → head_from (fs ++ opened t.name t.rest ∷ []) (place + (length line + 1)) (before ++ rest)
    ≡ head_from (grown_by (fs ++ opened t.name t.rest ∷ []) t.more trees) (place + (length line + 1) + size before) rest
    → head_from fs place (line ∷ (before ++ rest)) ≡ head_from (grown_by fs [] (t ∷ trees)) (place + (length line + 1 + size before)) rest
over_open line before t trees fs place rest field e ih =
    rw (line_opens place (length fs == 0) (content_of line) t.name t.rest (rw e field.first) field.name e)
    (ih ∙ rw (open_grown fs t.name t.rest t.more trees, farther place (length line) (size before)) refl)

over_more : (line l : List ℕ) (before on : List (List ℕ)) (trees : List FieldLines) (fs : List NamedValue) (place : ℕ) (rest : List (List ℕ)) → GoesOn l → content_of line ≡ l
    → (length fs == 0) ≡ false
    → head_from (onto_last fs l) (place + (length line + 1)) (before ++ rest) ≡ head_from (grown_by (onto_last fs l) on trees) (place + (length line + 1) + size before) rest
    → head_from fs place (line ∷ (before ++ rest)) ≡ head_from (grown_by fs (l ∷ on) trees) (place + (length line + 1 + size before)) rest
over_more line l before on trees fs place rest goes e some ih =
    rw (e, line_more place (length fs == 0) l goes some) (ih ∙ rw (more_grown fs l on trees, farther place (length line) (size before)) refl)

has_some : (fs : List NamedValue) (l : List ℕ) (on : List (List ℕ)) → ((length fs == 0) ≡ true → l ∷ on ≡ []) → (length fs == 0) ≡ false
has_some fs l on first = false_from_ne_true (length fs == 0) (λ e. let none : l ∷ on ≡ [] = first e in absurd cc)

-- reading goes over the lines of whole fields, and has the fields then
over : (before on : List (List ℕ)) (trees : List FieldLines) (fs : List NamedValue) (place : ℕ) (rest : List (List ℕ)) → AllGoOn on → AllFields trees
    → map content_of before ≡ on ++ flat_map lines_of trees → ((length fs == 0) ≡ true → on ≡ [])
    → head_from fs place (before ++ rest) ≡ head_from (grown_by fs on trees) (place + size before) rest
over [] [] [] fs place rest goes each contents first = rw (onto_nil fs, append-nil, add-zero) refl
over [] [] (t ∷ trees) fs place rest goes each contents first = absurd cc
over [] (l ∷ on) trees fs place rest goes each contents first = absurd cc
over (line ∷ before) [] [] fs place rest goes each contents first = absurd cc
over (line ∷ before) [] (t ∷ trees) fs place rest goes each contents first =
    let c = cons_is (content_of line) (first_line_of t) (map content_of before) (t.more ++ flat_map lines_of trees) contents
    in over_open line before t trees fs place rest each.0 c.0
    (over before t.more trees (fs ++ opened t.name t.rest ∷ []) (place + (length line + 1)) rest each.0.more each.1 c.1
    (λ e. absurd (both_ways _ (pushed_size fs (opened t.name t.rest)) e)))
over (line ∷ before) (l ∷ on) trees fs place rest goes each contents first =
    let c = cons_is (content_of line) l (map content_of before) (on ++ flat_map lines_of trees) contents
    in over_more line l before on trees fs place rest goes.0 c.0 (has_some fs l on first)
    (over before on trees (onto_last fs l) (place + (length line + 1)) rest goes.1 each c.1
    (λ e. absurd (both_ways _ (onto_size fs l (has_some fs l on first)) e)))

over_fields : (before : List (List ℕ)) (trees : List FieldLines) (rest : List (List ℕ)) → AllFields trees → map content_of before ≡ flat_map lines_of trees
    → head_from [] 0 (before ++ rest) ≡ head_from (map raw_of trees) (size before) rest
over_fields before trees rest each contents = over before [] trees [] 0 rest tt each contents (λ _. refl) ∙ ap (λ n. head_from (map raw_of trees) n rest) (omega arith)

ends_there : (fs : List NamedValue) (place : ℕ) (last : List ℕ) (after : List (List ℕ)) → content_of last ≡ [] → head_from fs place (last ∷ after) ≡ Ok (fs, place + (length last + 1))
ends_there fs place last after e = rw (e, line_ends place (length fs == 0)) refl

stops_there : (fs : List NamedValue) (place : ℕ) (after : List (List ℕ)) (fault : HeadFault) → Stops place (length fs == 0) after fault → head_from fs place after ≡ Err fault
stops_there fs place [] fault h = rw h refl
stops_there fs place (line ∷ after) fault h = rw (fault_again place (length fs == 0) (content_of line) fault h) refl

-- no line stands before exactly where no field does
first_both : (before : List (List ℕ)) (trees : List FieldLines) → map content_of before ≡ flat_map lines_of trees → (length before == 0) ≡ (length (map raw_of trees) == 0)
first_both [] [] contents = refl
first_both [] (t ∷ trees) contents = absurd cc
first_both (line ∷ before) [] contents = absurd cc
first_both (line ∷ before) (t ∷ trees) contents = eqb-suc-zero (length before) ∙ sym (eqb-suc-zero (length (map raw_of trees)))

-- ---- whole texts

abbrev pub cut_all : List NamedValue × ℕ → List NamedValue × ℕ
cut_all read = (map cut read.0, read.1)

map_cut : (trees : List FieldLines) → map cut (map raw_of trees) ≡ map unfolded trees
map_cut [] = refl
map_cut (t ∷ trees) = ap (λ fs. unfolded t ∷ fs) (map_cut trees)

-- what `head_of` gives, the values cut
abbrev pub TextSays : List ℕ → Result (List NamedValue × ℕ) HeadFault → Type 0
TextSays text (Ok read) = IsHead text (map cut read.0) read.1
TextSays text (Err fault) = IsFaulty text fault

none_on : (on : List (List ℕ)) (trees : List FieldLines) (contents : List (List ℕ)) → on ≡ [] → contents ≡ on ++ flat_map lines_of trees → contents ≡ flat_map lines_of trees
none_on on trees contents e h = rw e at h

text_says : (text : List ℕ) (r : Result (List NamedValue × ℕ) HeadFault) → RunSays [] 0 (whole_lines text) r → TextSays text r
text_says text (Ok read) h = record {
  trees = h.front.trees;
  before = h.before;
  last = h.last;
  after = h.after;
  each = h.front.each;
  lines = h.parts;
  contents = none_on h.front.on h.front.trees (map content_of h.before) (h.front.first refl) h.front.contents;
  empty = h.empty;
  fields_are = ap (map cut) h.fields_are ∙ map_cut h.front.trees;
  place_is = omega (arith, h.place_is);
}
text_says text (Err fault) h = record {
  trees = h.front.trees;
  before = h.before;
  after = h.after;
  each = h.front.each;
  lines = h.parts;
  contents = none_on h.front.on h.front.trees (map content_of h.before) (h.front.first refl) h.front.contents;
  fault_is = rw (zero-add) at h.fault_is;
}

pub head_says : (text : List ℕ) → TextSays text (head_of text)
unfolding head_of
head_says text = text_says text (head_of text) (runs [] 0 (whole_lines text))

pub head_again : (text : List ℕ) (fields : List NamedValue) (place : ℕ) → IsHead text fields place
    → (read : List NamedValue × ℕ) × ((head_of text ≡ Ok read) × (map cut read.0 ≡ fields) × (read.1 ≡ place))
unfolding head_of
head_again text fields place h = (
  (map raw_of h.trees, size h.before + (length h.last + 1)),
  (
    rw h.lines (over_fields h.before h.trees (h.last ∷ h.after) h.each h.contents ∙ ends_there (map raw_of h.trees) (size h.before) h.last h.after h.empty),
    map_cut h.trees ∙ sym h.fields_are,
    sym h.place_is,
  ),
)

pub faulty_again : (text : List ℕ) (fault : HeadFault) → IsFaulty text fault → head_of text ≡ Err fault
unfolding head_of
faulty_again text fault h =
    rw h.lines (over_fields h.before h.trees h.after h.each h.contents
    ∙ stops_there (map raw_of h.trees) (size h.before) h.after fault (rw (first_both h.before h.trees h.contents) at h.fault_is))

-- ---- one reading

one_read : (text : List ℕ) (a b : Result (List NamedValue × ℕ) HeadFault) → head_of text ≡ a → head_of text ≡ b → a ≡ b
one_read text a b e f = sym e ∙ f

pub one_head : (text : List ℕ) (fields others : List NamedValue) (place other : ℕ) → IsHead text fields place → IsHead text others other → (fields ≡ others) × (place ≡ other)
one_head text fields others place other h k =
    let a = head_again text fields place h
    in let b = head_again text others other k
    in let e = ok_is a.0 b.0 (one_read text (Ok a.0) (Ok b.0) a.1.0 b.1.0)
    in (sym a.1.1 ∙ ap (λ (r : List NamedValue × ℕ). map cut r.0) e ∙ b.1.1, sym a.1.2 ∙ ap (λ (r : List NamedValue × ℕ). r.1) e ∙ b.1.2)

pub one_fault : (text : List ℕ) (fault other : HeadFault) → IsFaulty text fault → IsFaulty text other → fault ≡ other
one_fault text fault other h k = err_is fault other (one_read text (Err fault) (Err other) (faulty_again text fault h) (faulty_again text other k))

ok_no_err : (read : List NamedValue × ℕ) (fault : HeadFault) → Ok read ≡ Err fault → ⊥
ok_no_err read fault e = absurd cc

pub not_both : (text : List ℕ) (fields : List NamedValue) (place : ℕ) (fault : HeadFault) → IsHead text fields place → IsFaulty text fault → ⊥
not_both text fields place fault h k =
    let a = head_again text fields place h
    in let e = one_read text (Ok a.0) (Err fault) a.1.0 (faulty_again text fault k)
    in ok_no_err a.0 fault e

either_says : (text : List ℕ) (r : Result (List NamedValue × ℕ) HeadFault) → TextSays text r → HasHead text ⊎ HasHeadFault text
either_says text (Ok read) h = inl (map cut read.0, read.1, h)
either_says text (Err fault) h = inr (fault, h)

pub either : (text : List ℕ) → HasHead text ⊎ HasHeadFault text
either text = either_says text (head_of text) (head_says text)

pub never_both : (text : List ℕ) → HasHead text → HasHeadFault text → ⊥
never_both text h f = not_both text h.0 h.1 f.0 h.2 f.1
