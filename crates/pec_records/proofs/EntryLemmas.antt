-- What was read, and what the whole of the bytes then is.
use Rattle.std.proofs.Common.{◌≡◌, ℕ, ◌-◌, ◌<◌, ◌≤◌, List, ◌++◌, length, Result, Ok, Err, sym, ap, subst, ◌∙◌, inl, inr, arith}
use Rattle.std.proofs.lemmas.Bool.{cases_lt}
use Rattle.pec_types.specs.AddressSteps.{LowerAddressesPass}
use Rattle.pec_types.specs.Answers.{TellsExactly}
use Rattle.pec_grammar.specs.Grammar.{Cursor, ending, whole}
use Rattle.pec_grammar.specs.Dependent.{raw, raw_at}
use Rattle.pec_grammar.specs.FirstFault.{FirstFault}
use Rattle.pec_grammar.proofs.Parts.{Answers}
use Rattle.pec_grammar.proofs.DependentLaws.{raw_lawful}
use Rattle.pec_grammar.proofs.Whole.{Tells, whole_told, whole_only}
use Rattle.pec_records.specs.Entry.{IsEntry, IsEntryFault}
use Rattle.pec_records.specs.EntryReading.{entry_at, answer_of, entry_of}
use Rattle.pec_records.specs.declared.entries.Entry.{Entry}
use Rattle.pec_records.specs.declared.faults.EntryFault.{EntryFault}
use Rattle.pec_records.specs.declared.faults.EntryFault.TheVariants as faults
use Rattle.pec_records.proofs.EntryLaws.{entry, entry_lawful}
use Rattle.pec_records.proofs.FieldLaws.{HavePlaces}

pub raw_length : (n : ℕ) (at after : Cursor) (bytes : List ℕ) → raw_at n at ≡ Ok (bytes, after) → n ≡ length bytes
raw_length n at after bytes read =
    let told : Answers (raw n) at (Ok (bytes, after)) = subst (λ r. Answers (raw n) at r) read ((raw_lawful n).answers at) in
    sym told.fits

-- The function tells entries and faults exactly.

-- bytes have one first fault
earlier : (IsText : Entry → List ℕ → Type 0) (bytes : List ℕ) (m n : ℕ) → FirstFault IsText bytes m → FirstFault IsText bytes n → m < n → ⊥
earlier IsText bytes m n first second lt = first.dead n lt second.within second.alive

one_place : (IsText : Entry → List ℕ → Type 0) (bytes : List ℕ) (m n : ℕ) → FirstFault IsText bytes m → FirstFault IsText bytes n → m ≡ n
one_place IsText bytes m n first second = elim (cases_lt m n) [
  | inl lt ↦ absurd (earlier IsText bytes m n first second lt)
  | inr le ↦ elim (cases_lt n m) [
    | inl lt ↦ absurd (earlier IsText bytes n m second first lt)
    | inr more ↦ omega arith
  ]
]

no_error : (e : Entry) (f : EntryFault) → Ok e ≡ Err f → ⊥
no_error e f same = let h : ⊥ = cc in h

abbrev answer_at : ℕ → Result Entry EntryFault
answer_at place = Err (faults.Syntax place)

from_told : (bytes : List ℕ) (r : Result Entry (List ℕ)) → Tells entry bytes r → ((e : Entry) → IsEntry e bytes → r ≡ Ok e)
    → TellsExactly (λ e. IsEntry e bytes) (IsEntryFault bytes) (answer_of bytes r)
from_told bytes (Ok x) told only = record {
  value = λ e. ((λ same. let is : x ≡ e = cc in subst (λ z. IsEntry z bytes) is told), λ is. ap (λ z. answer_of bytes z) (only e is));
  fault = λ f. ((λ same. absurd (no_error x f same)), no_fault f);
}
  where
    no_fault : (f : EntryFault) → IsEntryFault bytes f → answer_of bytes (Ok x) ≡ Err f
    no_fault (faults.Syntax place) is = absurd (is.other x told)
    no_fault faults.NoMemory is = absurd is
from_told bytes (Err stop) told only = record {
  value = λ e. ((λ same. absurd (no_error e (faults.Syntax (length bytes - length stop)) (sym same))), λ is. ap (λ z. answer_of bytes z) (only e is));
  fault = λ f. (is_fault f, the_fault f);
}
  where
    is_fault : (f : EntryFault) → answer_of bytes (Err stop) ≡ Err f → IsEntryFault bytes f
    is_fault f same = let is : faults.Syntax (length bytes - length stop) ≡ f = cc in subst (λ z. IsEntryFault bytes z) is told.1

    the_fault : (f : EntryFault) → IsEntryFault bytes f → answer_of bytes (Err stop) ≡ Err f
    the_fault (faults.Syntax place) is = ap (λ n. answer_at n) (one_place IsEntry bytes (length bytes - length stop) place told.1 is)
    the_fault faults.NoMemory is = absurd is

pub told_exactly : LowerAddressesPass → HavePlaces → (bytes : List ℕ) → TellsExactly (λ e. IsEntry e bytes) (IsEntryFault bytes) (entry_of bytes)
unfolding entry_of
told_exactly law places bytes = from_told bytes (whole entry bytes) (whole_told entry (entry_lawful law places) bytes) (λ e is. whole_only entry (entry_lawful law places) e bytes is)

-- a stop is within the bytes
pub stop_within : LowerAddressesPass → HavePlaces → (bytes stop : List ℕ) → ending (entry_at (record { rest = bytes; farthest = bytes })) ≡ Err stop → length stop ≤ length bytes
stop_within law places bytes stop read =
    let told : Tells entry bytes (Err stop) = subst (λ r. Tells entry bytes r) read (whole_told entry (entry_lawful law places) bytes) in
    told.0

-- One entry, one text.

pub one_value : LowerAddressesPass → HavePlaces → (e f : Entry) (s t a b : List ℕ) → IsEntry e s → IsEntry f t → s ++ a ≡ t ++ b → (e ≡ f) × (a ≡ b)
one_value law places e f s t a b is also same =
    (entry_lawful law places).one e f a b is.0 also.0 (ap (λ z. z ++ a) (sym is.1) ∙ (same ∙ ap (λ z. z ++ b) also.1))

pub one_text : (e : Entry) (s t : List ℕ) → IsEntry e s → IsEntry e t → s ≡ t
one_text e s t is also = is.1 ∙ sym also.1
