-- The functions of reading and the relations say the same: a function gives a value exactly where the relation holds, and each
-- fault exactly where the relation of that fault holds.
use Rattle.std.proofs.Common.{◌≡◌, ◌↔◌, ◌≤◌, ℕ, List, map, length, Option, Some, None, Result, Ok, Err, IfOk, refl, ap, sym, ◌∙◌}
use Rattle.pec_types.specs.Answers.{Gives, ReadsExactly, TellsExactly, seen_as, told_is_read}
use Rattle.pec_types.specs.declared.messages.Facts.{Facts}
use Rattle.pec_heads.specs.FactsOfHeads.{AreFacts, HasNoFacts}
use Rattle.pec_heads.specs.FactsReading.{facts_of}
use Rattle.pec_types.specs.Results.{◌>>=◌}
use Rattle.pec_heads.specs.HeadReading.{head_of, read_of}
use Rattle.pec_heads.specs.Heads.{NamedValue, IsFaulty, IsHead, IsRead, cut}
use Rattle.pec_heads.specs.Lists.{IsList, IsListFault}
use Rattle.pec_heads.specs.ListReading.{list_of}
use Rattle.pec_heads.specs.declared.faults.HeadFault.{HeadFault}
use Rattle.pec_heads.specs.declared.faults.ListFault.{ListFault}
use Rattle.pec_heads.specs.declared.faults.ListFault.TheVariants.{NoMemory}
use Rattle.pec_heads.proofs.AddressFacts.{AddressesTold}
use Rattle.pec_heads.proofs.FactLaws.{facts_found, facts_again}
use Rattle.pec_heads.proofs.HeadLaws.{TextSays, head_says, head_again, faulty_again}
use Rattle.pec_heads.proofs.LineLemmas.{head_within}
use Rattle.pec_heads.proofs.ListLaws.{list_says, list_again, list_fault_again}

-- ---- heads

abbrev ReadSays : List ℕ → Result (List NamedValue × ℕ) HeadFault → Type 0
ReadSays text (Ok read) = IsHead text read.0 read.1
ReadSays text (Err fault) = IsFaulty text fault

cut_head : (text : List ℕ) (r : Result (List NamedValue × ℕ) HeadFault) → TextSays text r → ReadSays text (r >>= λ read. Ok (map cut read.0, read.1))
cut_head text (Ok read) h = h
cut_head text (Err fault) h = h

read_says : (text : List ℕ) → ReadSays text (read_of text)
unfolding read_of
read_says text = cut_head text (head_of text) (head_says text)

head_found : (text : List ℕ) (fields : List NamedValue) (place : ℕ) → read_of text ≡ Ok (fields, place) → IsHead text fields place
head_found text fields place e = rw e at (read_says text)

fault_found : (text : List ℕ) (fault : HeadFault) → read_of text ≡ Err fault → IsFaulty text fault
fault_found text fault e = rw e at (read_says text)

pub read_again : (text : List ℕ) (fields : List NamedValue) (place : ℕ) → IsHead text fields place → read_of text ≡ Ok (fields, place)
unfolding read_of
read_again text fields place h =
    let a = head_again text fields place h
    in ap (λ r. r >>= λ read. Ok (map cut read.0, read.1)) a.1.0 ∙ ap (λ fs. Ok (fs, a.0.1)) a.1.1 ∙ ap (λ p. Ok (fields, p)) a.1.2

pub bad_again : (text : List ℕ) (fault : HeadFault) → IsFaulty text fault → read_of text ≡ Err fault
unfolding read_of
bad_again text fault h = ap (λ r. r >>= λ read. Ok (map cut read.0, read.1)) (faulty_again text fault h)

pub head_told : (text : List ℕ) → TellsExactly (IsRead text) (IsFaulty text) (read_of text)
head_told text = record {
  value = λ read. (head_found text read.0 read.1, read_again text read.0 read.1);
  fault = λ fault. (fault_found text fault, bad_again text fault);
}

pub place_within : (text : List ℕ) (answer : Result (List NamedValue × ℕ) HeadFault) → IfOk answer (IsRead text) → IfOk answer (λ read. read.1 ≤ length text)
place_within text (Ok read) h = head_within text read.0 read.1 h
place_within text (Err fault) h = tt

-- what the law of addresses says
module _ (told : AddressesTold) where
  -- ---- lists

  list_found : (text : List ℕ) (addresses : List (List ℕ)) → list_of text ≡ Ok addresses → IsList text addresses
  list_found text addresses e = rw e at (list_says told text)

  list_fault_found : (text : List ℕ) (fault : ListFault) → list_of text ≡ Err fault → IsListFault text fault
  list_fault_found text fault e = rw e at (list_says told text)

  pub list_told : (text : List ℕ) → TellsExactly (IsList text) (IsListFault text) (list_of text)
  list_told text = record {
    value = λ addresses. (list_found text addresses, list_again told text addresses);
    fault = λ fault. (list_fault_found text fault, list_fault_again told text fault);
  }

  -- ---- facts

  none_found : (fields : List NamedValue) → facts_of fields ≡ None → HasNoFacts fields
  none_found fields e facts h = let f : None ≡ Some facts = sym e ∙ facts_again told fields facts h in absurd cc

  none_again : (fields : List NamedValue) (o : Option Facts) → facts_of fields ≡ o → HasNoFacts fields → facts_of fields ≡ None
  none_again fields None e h = e
  none_again fields (Some facts) e h = absurd (h facts (facts_found told fields facts e))

  pub facts_told : (fields : List NamedValue) (found : Option Facts) → (facts_of fields ≡ found) ↔ AreFacts fields found
  facts_told fields None = (none_found fields, none_again fields (facts_of fields) refl)
  facts_told fields (Some facts) = (facts_found told fields facts, facts_again told fields facts)

  -- ---- answers

  pub list_reads : {X : Type 0} (seen : X → List (List ℕ)) (text : List ℕ) (answer : Result X ListFault) → Gives NoMemory seen answer (list_of text)
      → ReadsExactly (IsList text) (IsListFault text) NoMemory (seen_as seen answer)
  list_reads seen text (Ok value) same = told_is_read (IsList text) (IsListFault text) NoMemory (Ok (seen value)) (list_of text) (list_told text) same
  list_reads seen text (Err fault) same = told_is_read (IsList text) (IsListFault text) NoMemory (Err fault) (list_of text) (list_told text) same

  pub facts_reads : {E : Type 0} (fields : List NamedValue) (no_memory : E) (answer : Result (Option Facts) E) → ((fault : E) → fault ≡ no_memory) → IfOk answer (λ found. found ≡ facts_of fields)
      → ReadsExactly (AreFacts fields) (λ _. ⊥) no_memory answer
  facts_reads fields no_memory (Ok found) memory same = record {
    value = (facts_told fields found).0 (sym same);
    fault = tt;
    only = λ other is. ap Ok (sym ((facts_told fields other).1 is) ∙ sym same);
    each = λ fault is. absurd is;
  }
  facts_reads fields no_memory (Err fault) memory same = record {
    value = tt;
    fault = λ stays. absurd (stays (memory fault));
    only = λ other is stays. absurd (stays (memory fault));
    each = λ other is stays. absurd (stays (memory fault));
  }
