-- What a line says, and the reader that finds it: a name ends at the first colon.
use Rattle.std.proofs.Common.{◌≡◌, ◌⊎◌, inl, inr, ℕ, suc, ◌+◌, Bool, true, false, cond, eqb, [], ◌∷◌, ◌++◌, Option, None, Some, Result, Ok, Err, length, take, drop, refl, sym, ◌∙◌, ap, subst, add-one, eqb-true, option_map}
use Rattle.std.proofs.Math.Seq.{drop-append-add, take-append_seam}
use Rattle.std.proofs.lemmas.Bool.{and_parts, false≢true}
use Rattle.std.specs.Char.{is_ascii_alphanumeric}
use Rattle.std.specs.List.{AllByRecursion, list_all}
use Rattle.pec_types.specs.Answers.{TellsExactly}
use Rattle.pec_types.specs.Bytes.{Bytes, colon}
use Rattle.pec_ldif.specs.Attributes.{Attribute, IsAttribute, IsAttributeFault, IsCoded, IsCodedValue, IsNamed, IsPlainValue, SaysNone, is_name, is_name_byte}
use Rattle.pec_ldif.specs.AttributesReading.{attribute_of, colon_at, named_at, value_of, with_name}
use Rattle.pec_ldif.specs.Lines.{Line, begins_with}
use Rattle.pec_ldif.specs.declared.faults.LdifFault.{LdifFault}
use Rattle.pec_ldif.specs.declared.faults.LdifFault.TheVariants.{Syntax, BadBase64, NoDn, Change, Orphan, NoMemory}
use Rattle.pec_ldif.proofs.ValueLemmas.{ValueSays, coded_again, plain_again, value_says}

abbrev sent : Attribute → Result Attribute LdifFault
sent attribute = Ok attribute

abbrev stopped : LdifFault → Result Attribute LdifFault
stopped fault = Err fault

apart : (attribute : Attribute) (fault : LdifFault) → sent attribute ≡ stopped fault → ⊥
apart attribute fault e = cc

-- ---- the first colon

abbrev LackColon : Bytes → Type 0
LackColon bytes = AllByRecursion (λ b. eqb b colon ≡ false) bytes

never : (b : ℕ) (test : ℕ → Bool) (t : Bool) → eqb b colon ≡ t → test b ≡ true → test colon ≡ false → t ≡ false
never b test true e is not = absurd (false≢true (sym not ∙ (sym (ap test (eqb-true b colon e)) ∙ is)))
never b test false e is not = refl

rest_lacks : (bs : Bytes) → list_all is_name_byte bs ≡ true → LackColon bs
rest_lacks [] e = tt
rest_lacks (b ∷ bs) e =
    let both = and_parts (is_name_byte b) (list_all is_name_byte bs) e
    in (never b is_name_byte (eqb b colon) refl both.0 refl, rest_lacks bs both.1)

name_lacks : (name : Bytes) → is_name name ≡ true → LackColon name
name_lacks [] e = tt
name_lacks (b ∷ bs) e =
    let both = and_parts (is_ascii_alphanumeric b) (list_all is_name_byte bs) e
    in (never b is_ascii_alphanumeric (eqb b colon) refl both.0 refl, rest_lacks bs both.1)

colon_again : (name rest : Bytes) → LackColon name → colon_at (name ++ colon ∷ rest) ≡ Some (length name)
colon_again [] rest none = refl
colon_again (b ∷ bs) rest none =
    ap (λ t. cond t (Some 0) (option_map (λ at. at + 1) (colon_at (bs ++ colon ∷ rest)))) none.0
    ∙ (ap (option_map (λ at. at + 1)) (colon_again bs rest none.1) ∙ ap Some (add-one (length bs)))

abbrev Splits : Bytes → Option ℕ → Type 0
Splits bytes None = Unit {0}
Splits bytes (Some at) = bytes ≡ take at bytes ++ colon ∷ drop (at + 1) bytes

splits_more : (b : ℕ) (bs : Bytes) (t : Bool) (o : Option ℕ) → eqb b colon ≡ t → Splits bs o
    → Splits (b ∷ bs) (cond t (Some 0) (option_map (λ at. at + 1) o))
splits_more b bs true o e h = ap (λ x. x ∷ bs) (eqb-true b colon e)
splits_more b bs false None e h = tt
splits_more b bs false (Some k) e h =
    ap (λ xs. b ∷ xs) h
    ∙ (ap (λ n. take n (b ∷ bs) ++ colon ∷ drop (suc (k + 1)) (b ∷ bs)) (sym (add-one k))
    ∙ ap (λ n. take (k + 1) (b ∷ bs) ++ colon ∷ drop n (b ∷ bs)) (sym (add-one (k + 1))))

splits : (bytes : Bytes) → Splits bytes (colon_at bytes)
splits [] = tt
splits (b ∷ bs) = splits_more b bs (eqb b colon) (colon_at bs) refl (splits bs)

-- ---- names

named_colon : (bytes name rest : Bytes) → IsNamed bytes name rest → colon_at bytes ≡ Some (length name)
named_colon bytes name rest is = ap colon_at is.parts ∙ colon_again name rest (name_lacks name is.right)

named_front : (bytes name rest : Bytes) → IsNamed bytes name rest → take (length name) bytes ≡ name
named_front bytes name rest is = ap (take (length name)) is.parts ∙ take-append_seam name (colon ∷ rest)

named_behind : (bytes name rest : Bytes) → IsNamed bytes name rest → drop (length name + 1) bytes ≡ rest
named_behind bytes name rest is = ap (drop (length name + 1)) is.parts ∙ drop-append-add name (colon ∷ rest) 1

number_is : (n m : ℕ) → Some n ≡ Some m → n ≡ m
number_is n m e = cc

-- a name ends at the colon that is found
pub record EndsAt (bytes name rest : Bytes) (at : ℕ) : Type 0 where
  pub front : take at bytes ≡ name
  pub behind : drop (at + 1) bytes ≡ rest

ends_at : (bytes name rest : Bytes) (at : ℕ) → IsNamed bytes name rest → colon_at bytes ≡ Some at → EndsAt bytes name rest at
ends_at bytes name rest at is e =
    let same : length name ≡ at = number_is (length name) at (sym (named_colon bytes name rest is) ∙ e) in
    record {
      front = subst (λ n. take n bytes ≡ name) same (named_front bytes name rest is);
      behind = subst (λ n. drop (n + 1) bytes ≡ rest) same (named_behind bytes name rest is);
    }

shaped : (line : Line) (a name b rest : Bytes) → a ≡ name → b ≡ rest → is_name name ≡ true
    → cond (is_name a) (with_name a (value_of line.place b)) (stopped (Syntax line.place)) ≡ with_name name (value_of line.place rest)
shaped line a name b rest same behind right =
    ap (λ x. cond (is_name x) (with_name x (value_of line.place b)) (stopped (Syntax line.place))) same
    ∙ (ap (λ y. cond (is_name name) (with_name name (value_of line.place y)) (stopped (Syntax line.place))) behind
    ∙ ap (λ t. cond t (with_name name (value_of line.place rest)) (stopped (Syntax line.place))) right)

pub named_read : (line : Line) (name rest : Bytes) → IsNamed line.bytes name rest → attribute_of line ≡ with_name name (value_of line.place rest)
unfolding attribute_of
named_read line name rest is =
    ap (named_at line) (named_colon line.bytes name rest is)
    ∙ shaped line (take (length name) line.bytes) name (drop (length name + 1) line.bytes) rest (named_front line.bytes name rest is)
    (named_behind line.bytes name rest is) is.right

-- ---- what a line says is read

read_value : (line : Line) (name rest value : Bytes) → IsPlainValue rest value ⊎ IsCodedValue rest value → value_of line.place rest ≡ Ok value
read_value line name rest value (inl plain) = plain_again line.place rest value plain
read_value line name rest value (inr coded) = coded_again line.place rest value coded

pub attribute_read : (line : Line) (attribute : Attribute) → IsAttribute line attribute → attribute_of line ≡ Ok attribute
attribute_read line attribute is =
    named_read line attribute.name is.rest is.named
    ∙ ap (with_name attribute.name) (read_value line attribute.name is.rest attribute.value is.value)

-- ---- what is read, the line says

abbrev OutcomeOf : Line → Result Attribute LdifFault → Type 0
OutcomeOf line (Ok attribute) = IsAttribute line attribute
OutcomeOf line (Err (Syntax place)) = (place ≡ line.place) × (IsCoded line → ⊥)
OutcomeOf line (Err (BadBase64 place)) = (place ≡ line.place) × IsCoded line
OutcomeOf line (Err (NoDn place)) = ⊥
OutcomeOf line (Err (Change place)) = ⊥
OutcomeOf line (Err (Orphan place)) = ⊥
OutcomeOf line (Err NoMemory) = ⊥

outcome_named : (line : Line) (at : ℕ) (r : Result Bytes LdifFault) → colon_at line.bytes ≡ Some at
    → IsNamed line.bytes (take at line.bytes) (drop (at + 1) line.bytes) → ValueSays line.place (drop (at + 1) line.bytes) r
    → OutcomeOf line (with_name (take at line.bytes) r)
outcome_named line at (Ok value) e named says = record { rest = drop (at + 1) line.bytes; named = named; value = says }
outcome_named line at (Err (Syntax place)) e named says = (
  says.0,
  λ coded.
      let ends = ends_at line.bytes coded.0 (colon ∷ coded.1) at coded.2 e
      in false≢true (sym says.1 ∙ ap (begins_with colon) ends.behind),
)
outcome_named line at (Err (BadBase64 place)) e named says = (
  says.0,
  (
    take at line.bytes,
    drop 1 (drop (at + 1) line.bytes),
    subst (λ rest. IsNamed line.bytes (take at line.bytes) rest) says.1 named,
  ),
)
outcome_named line at (Err (NoDn place)) e named says = absurd says
outcome_named line at (Err (Change place)) e named says = absurd says
outcome_named line at (Err (Orphan place)) e named says = absurd says
outcome_named line at (Err NoMemory) e named says = absurd says

outcome_tested : (line : Line) (at : ℕ) (t : Bool) → colon_at line.bytes ≡ Some at → is_name (take at line.bytes) ≡ t
    → OutcomeOf line (cond t (with_name (take at line.bytes) (value_of line.place (drop (at + 1) line.bytes))) (stopped (Syntax line.place)))
outcome_tested line at true e right =
    let parts : line.bytes ≡ take at line.bytes ++ colon ∷ drop (at + 1) line.bytes = subst (Splits line.bytes) e (splits line.bytes) in
    outcome_named line at (value_of line.place (drop (at + 1) line.bytes)) e (record { right = right; parts = parts })
    (value_says line.place (drop (at + 1) line.bytes))
outcome_tested line at false e wrong = (
  refl,
  λ coded.
      let ends = ends_at line.bytes coded.0 (colon ∷ coded.1) at coded.2 e
      in false≢true (sym wrong ∙ (ap is_name ends.front ∙ coded.2.right)),
)

outcome_at : (line : Line) (o : Option ℕ) → colon_at line.bytes ≡ o → OutcomeOf line (named_at line o)
outcome_at line None e = (
  refl,
  λ coded.
      let some = sym e ∙ named_colon line.bytes coded.0 (colon ∷ coded.1) coded.2 in
      let wrong : ⊥ = cc in wrong,
)
outcome_at line (Some at) e = outcome_tested line at (is_name (take at line.bytes)) e refl

outcome : (line : Line) → OutcomeOf line (attribute_of line)
unfolding attribute_of
outcome line = outcome_at line (colon_at line.bytes) refl

-- ---- the law

says_none : (line : Line) (fault : LdifFault) → attribute_of line ≡ Err fault → SaysNone line
says_none line fault e attribute is = apart attribute fault (sym (attribute_read line attribute is) ∙ e)

fault_is : (line : Line) (fault : LdifFault) → attribute_of line ≡ Err fault → OutcomeOf line (stopped fault) → IsAttributeFault line fault
fault_is line (Syntax place) e o = (o.0, o.1, says_none line (Syntax place) e)
fault_is line (BadBase64 place) e o = (o.0, o.1, says_none line (BadBase64 place) e)
fault_is line (NoDn place) e o = o
fault_is line (Change place) e o = o
fault_is line (Orphan place) e o = o
fault_is line NoMemory e o = o

fault_again : (line : Line) (fault : LdifFault) (r : Result Attribute LdifFault) → IsAttributeFault line fault → OutcomeOf line r → r ≡ stopped fault
fault_again line (Syntax place) (Ok attribute) is o = absurd (is.2 attribute o)
fault_again line (Syntax place) (Err (Syntax at)) is o = ap (λ p. stopped (Syntax p)) (o.0 ∙ sym is.0)
fault_again line (Syntax place) (Err (BadBase64 at)) is o = absurd (is.1 o.1)
fault_again line (Syntax place) (Err (NoDn at)) is o = absurd o
fault_again line (Syntax place) (Err (Change at)) is o = absurd o
fault_again line (Syntax place) (Err (Orphan at)) is o = absurd o
fault_again line (Syntax place) (Err NoMemory) is o = absurd o
fault_again line (BadBase64 place) (Ok attribute) is o = absurd (is.2 attribute o)
fault_again line (BadBase64 place) (Err (Syntax at)) is o = absurd (o.1 is.1)
fault_again line (BadBase64 place) (Err (BadBase64 at)) is o = ap (λ p. stopped (BadBase64 p)) (o.0 ∙ sym is.0)
fault_again line (BadBase64 place) (Err (NoDn at)) is o = absurd o
fault_again line (BadBase64 place) (Err (Change at)) is o = absurd o
fault_again line (BadBase64 place) (Err (Orphan at)) is o = absurd o
fault_again line (BadBase64 place) (Err NoMemory) is o = absurd o
fault_again line (NoDn place) r is o = absurd is
fault_again line (Change place) r is o = absurd is
fault_again line (Orphan place) r is o = absurd is
fault_again line NoMemory r is o = absurd is

-- Each line says one attribute or has one fault, and `attribute_of` tells which.
pub attribute_told : (line : Line) → TellsExactly (IsAttribute line) (IsAttributeFault line) (attribute_of line)
attribute_told line = record {
  value = λ attribute. (λ e. subst (OutcomeOf line) e (outcome line), attribute_read line attribute);
  fault = λ fault. (λ e. fault_is line fault e (subst (OutcomeOf line) e (outcome line)), λ is. fault_again line fault (attribute_of line) is (outcome line));
}
