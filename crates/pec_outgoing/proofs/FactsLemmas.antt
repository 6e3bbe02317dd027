-- The facts of a message are those of its head.
use Rattle.std.proofs.Common.{◌≡◌, ◌↔◌, ℕ, List, Option, Some, Result, Ok, Err, option_map, refl}
use Rattle.std.specs.Option.{option_and_then}
use Rattle.std.specs.Result.{result_ok}
use Rattle.std.proofs.lemmas.Option.{none-some}
use Rattle.pec_types.specs.Answers.{TellsExactly}
use Rattle.pec_types.specs.Bytes.{Bytes}
use Rattle.pec_types.specs.declared.messages.Facts.{Facts}
use Rattle.pec_heads.specs.FactsOfHeads.{AreFacts}
use Rattle.pec_heads.specs.FactsReading.{facts_of}
use Rattle.pec_heads.specs.HeadReading.{read_of}
use Rattle.pec_heads.specs.Heads.{IsFaulty, IsRead, NamedValue}
use Rattle.pec_heads.specs.declared.faults.HeadFault.{HeadFault}
use Rattle.pec_letters.specs.Fitting.{HasFacts}
use Rattle.pec_ledger.specs.OfDirectory.{facts_in}

module _ (told : (text : Bytes) → TellsExactly (IsRead text) (IsFaulty text) (read_of text))
    (one : (fields : List NamedValue) (found : Option Facts) → (facts_of fields ≡ found) ↔ AreFacts fields found) where
  with_read : (message : Bytes) (facts : Facts) (r : Result (List NamedValue × ℕ) HeadFault) → read_of message ≡ r
      → option_and_then facts_of (option_map (λ (read : List NamedValue × ℕ). read.0) (result_ok r)) ≡ Some facts
      → HasFacts message facts
  with_read message facts (Ok read) e f =
      record {
        fields = read.0;
        place = read.1;
        head = ((told message).value read).0 e;
        facts_are = (one read.0 (Some
            facts)).0 f;
      }
  with_read message facts (Err fault) e f = absurd (none-some facts f)

  -- a message that has facts begins with a head of them
  pub head_of_facts : (message : Bytes) (facts : Facts) → facts_in message ≡ Some facts → HasFacts message facts
  unfolding facts_in
  head_of_facts message facts e = with_read message facts (read_of message) refl e
