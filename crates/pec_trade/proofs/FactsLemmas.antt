-- Facts of messages, by the laws of heads.
use Rattle.std.proofs.Common.{◌≡◌, ◌↔◌, ℕ, ◌<◌, List, [], ◌∷◌, length, Option, None, Some, Result, Ok, Err, codes, refl, ap, ◌∙◌, arith}
use Rattle.std.specs.Option.{IfSome, option_and_then, option_map}
use Rattle.std.specs.Result.{result_ok}
use Rattle.std.proofs.lemmas.Option.{none-some}
use Rattle.pec_types.specs.Answers.{TellsExactly}
use Rattle.pec_types.specs.Bytes.{Bytes, Path}
use Rattle.pec_types.specs.declared.messages.Facts.{Facts}
use Rattle.pec_types.specs.declared.messages.Recipient.{Recipient}
use Rattle.pec_heads.specs.BoundedFacts.{AreBounded, AreRecipients, IsShortText, addresses_where, is_primary}
use Rattle.pec_heads.specs.FactsOfHeads.{AreCopies, AreFacts, IsFacts, text_of}
use Rattle.pec_heads.specs.FactsReading.{facts_of}
use Rattle.pec_heads.specs.HeadReading.{read_of}
use Rattle.pec_heads.specs.Heads.{IsFaulty, IsHead, IsRead, NamedValue, joined_values}
use Rattle.pec_heads.specs.Lists.{IsList}
use Rattle.pec_heads.specs.declared.faults.HeadFault.{HeadFault}
use Rattle.pec_letters.specs.Fitting.{HasFacts}
use Rattle.pec_ledger.specs.Along.{AllDiffer}
use Rattle.pec_ledger.specs.Lookups.{addresses_of}
use Rattle.pec_ledger.specs.OfDirectory.{facts_in, fields_of}
use Rattle.pec_trade.specs.Refused.{text_in}
use Rattle.pec_trade.proofs.PathLemmas.{they_differ}

-- what the laws of heads say
pub record Heads : Type 0 where
  pub told : (text : Bytes) → TellsExactly (IsRead text) (IsFaulty text) (read_of text)
  pub one : (text : Bytes) (fields others : List NamedValue) (place other : ℕ) → IsHead text fields place → IsHead text others other
      → (fields ≡ others) × (place ≡ other)
  pub list : (text : Bytes) (addresses others : Path) → IsList text addresses → IsList text others → addresses ≡ others
  pub facts : (fields : List NamedValue) (found : Option Facts) → ((facts_of fields ≡ found) ↔ AreFacts fields found)
  pub bounded : (text : Bytes) (fields : List NamedValue) (place : ℕ) (facts : Facts) → IsHead text fields place → IsFacts fields facts
      → AreBounded facts
  pub recipients : (fields : List NamedValue) (facts : Facts) (to copies : Path) → IsFacts fields facts
      → IsList (joined_values (codes "To") fields) to → AreCopies fields copies → AreRecipients to copies facts.recipients
  pub short : (name : Bytes) (fields : List NamedValue) → IfSome (text_of name fields) IsShortText

pub some_of_some : (all : List Recipient) → 0 < length (addresses_where is_primary all) → 0 < length all
some_of_some [] some = some
some_of_some (r ∷ all) some = omega arith

module _ (heads : Heads) where
  has_facts_by : (message : Bytes) (facts : Facts) (r : Result (List NamedValue × ℕ) HeadFault) → read_of message ≡ r
      → option_and_then facts_of (option_map (λ (read : List NamedValue × ℕ). read.0) (result_ok r)) ≡ Some facts → HasFacts message facts
  has_facts_by message facts (Ok read) e f = record {
    fields = read.0;
    place = read.1;
    head = ((heads.told message).value read).0 e;
    facts_are = (heads.facts read.0 (Some facts)).0 f;
  }
  has_facts_by message facts (Err fault) e f = absurd (none-some facts f)

  -- facts that are read are a head's
  pub has_facts : (message : Bytes) (facts : Facts) → facts_in message ≡ Some facts → HasFacts message facts
  unfolding facts_in
  has_facts message facts e = has_facts_by message facts (read_of message) refl e

  -- and the other way round
  pub facts_again : (message : Bytes) (facts : Facts) → HasFacts message facts → facts_in message ≡ Some facts
  unfolding facts_in
  facts_again message facts has =
      ap (λ (r : Result (List NamedValue × ℕ) HeadFault). option_and_then facts_of (option_map (λ (read : List NamedValue × ℕ). read.0) (result_ok r)))
      (((heads.told message).value (has.fields, has.place)).1 has.head)
      ∙ (heads.facts has.fields (Some facts)).1 has.facts_are

  pub bounded_of : (message : Bytes) (facts : Facts) → HasFacts message facts → AreBounded facts
  bounded_of message facts has = heads.bounded message has.fields has.place facts has.head has.facts_are

  pub recipients_in : (message : Bytes) (facts : Facts) (has : HasFacts message facts) → AreRecipients has.facts_are.to has.facts_are.copies facts.recipients
  recipients_in message facts has =
      heads.recipients has.fields facts has.facts_are.to has.facts_are.copies has.facts_are has.facts_are.to_is has.facts_are.copies_are

  pub some_recipient : (message : Bytes) (facts : Facts) → HasFacts message facts → 0 < length facts.recipients
  some_recipient message facts has = some_of_some facts.recipients (recipients_in message facts has).some

  -- no recipient stands twice
  pub recipients_differ : (message : Bytes) (facts : Facts) → facts_in message ≡ Some facts → AllDiffer (addresses_of facts)
  recipients_differ message facts e =
      they_differ (addresses_of facts) (recipients_in message facts (has_facts message facts e)).different

  text_short_by : (name : Bytes) (fields : Option (List NamedValue)) → IfSome (option_and_then (text_of name) fields) IsShortText
  text_short_by name None = tt
  text_short_by name (Some fields) = heads.short name fields

  -- a subject or a reference is short, whatever the message
  pub text_short : (name message : Bytes) → IfSome (text_in name message) IsShortText
  unfolding text_in
  text_short name message = text_short_by name (fields_of message)
