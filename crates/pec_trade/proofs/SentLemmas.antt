-- What a message is that was sent, and which parts of its letters are short.
use Rattle.std.proofs.Common.{◌≡◌, ℕ, ◌*◌, ◌<◌, ◌≤◌, List, length, Some, arith}
use Rattle.std.proofs.Math.Nat.{le-mul_of_pos_right}
use Rattle.pec_types.specs.Bytes.{Bytes}
use Rattle.pec_types.specs.Message.{Id}
use Rattle.pec_types.specs.declared.messages.Facts.{Facts}
use Rattle.pec_types.specs.declared.messages.TheConstants.{MESSAGES}
use Rattle.pec_heads.specs.BoundedFacts.{AreBounded}
use Rattle.pec_directory.specs.Directory.{Kept, home_of, providers_of}
use Rattle.pec_directory.specs.Lawful.{IsLawful}
use Rattle.pec_letter_facts.specs.Certifying.{ArePrintable}
use Rattle.pec_letters.specs.Fitting.{HasFacts}
use Rattle.pec_points.specs.Case.{limit_of}
use Rattle.pec_seal.specs.Seals.{Seals}
use Rattle.pec_ledger.specs.Lookups.{addresses_of}
use Rattle.pec_ledger.specs.OfDirectory.{facts_in}
use Rattle.pec_ledger.specs.TradeLaws.{IsSent}
use Rattle.pec_trade.specs.TradeOf.{trade_of}
use Rattle.pec_trade.proofs.AdmissionLemmas.{Admits, sized, taken_at}
use Rattle.pec_trade.proofs.DirectoryLemmas.{account_is_home, limit_small}
use Rattle.pec_trade.proofs.FactsLemmas.{Heads, bounded_of, has_facts, some_recipient}
use Rattle.pec_trade.proofs.TextLemmas.{AreSmall, bounded_small}

-- what the laws say of messages
pub record Sending : Type 0 where
  pub heads : Heads
  pub admits : Admits
  pub printable : (facts : Facts) → AreBounded facts → ArePrintable facts

-- A message that was sent, with what is so of its facts and its size.
pub record Sent (kept : List Kept) (id : Id) (original : Bytes) (facts : Facts) : Type 0 where
  pub are : facts_in original ≡ Some facts
  pub has : HasFacts original facts
  pub bounded : AreBounded facts
  pub small : AreSmall facts
  pub home : home_of (providers_of kept) facts.sender ≡ Some id.provider
  pub fits : length original ≤ 31457280
  pub within : id.provider < length (providers_of kept)
  pub below : id.number < MESSAGES

-- bytes times recipients, of which there are some, are within a limit
fitting : (bytes recipients limit : ℕ) → 0 < recipients → bytes * recipients ≤ limit → bytes ≤ limit
fitting bytes recipients limit some within = omega (arith, le-mul_of_pos_right {m = recipients} bytes some, within)

pub sent_as : Sending → (kept : List Kept) (seals : Seals) → IsLawful (providers_of kept) → (id : Id) (original : Bytes) (sent : IsSent (trade_of kept seals) id original)
    → Sent kept id original sent.facts
sent_as laws kept seals lawful id original sent =
    let providers = providers_of kept
    in let facts = sent.facts
    in let has = has_facts laws.heads original facts sent.are
    in let bounded = bounded_of laws.heads original facts has
    in let taken = taken_at laws.heads laws.admits providers id.provider facts.sender (addresses_of facts) original sent.admitted
    in let within = fitting (length original) (length taken.facts.recipients) (limit_of providers id.provider) (some_recipient laws.heads original taken.facts taken.has)
    (sized laws.heads laws.admits _ taken)
    in record {
      are = sent.are;
      has = has;
      bounded = bounded;
      small = bounded_small laws.printable facts bounded (some_recipient laws.heads original facts has) sent.few;
      home = account_is_home providers id.provider facts.sender sent.account;
      fits = omega (arith, within, limit_small providers id.provider lawful);
      within = sent.provider;
      below = sent.number;
    }
