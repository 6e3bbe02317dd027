-- What has become of a provider's own messages, in numbers: `summary_of`, over its accepted messages and their pairs, and
-- `summary_within`, over those of a range of moments; and the same of all providers of a network, `total_of`. This
-- project's profile.
use Rattle.std.specs.Prelude.{ℕ, ◌+◌, ◌≤◌, Bool, true, false, ◌&&◌, if◌then◌else◌, List, [], ◌∷◌, ◌++◌, map, Option, None, Some, is_none, is_some}
use Rattle.std.specs.Option.{option_map}
use Rattle.pec_types.specs.Message.{Id}
use Rattle.pec_types.specs.Moments.{is_within}
use Rattle.pec_types.specs.declared.messages.Decision.{Decision}
use Rattle.pec_types.specs.declared.messages.Decision.TheVariants.{Placed, Refused}
use Rattle.pec_types.specs.declared.messages.Recipient.{Recipient}
use Rattle.pec_ledger.specs.Along.{times}
use Rattle.pec_ledger.specs.Books.{certified_recipients}
use Rattle.pec_ledger.specs.Half.{Half, Known, Message}
use Rattle.pec_ledger.specs.Lookups.{Accepted, accepted_of, known_of, notice_of}
use Rattle.pec_ledger.specs.Network.{Site}
use Rattle.pec_ledger.specs.Pairs.{Pair, id_of, pair_of}
use Rattle.pec_ledger.specs.Steps.{half}
use Rattle.pec_ledger.specs.Trade.{Trade}
use Rattle.pec_shelf.specs.declared.summing.Summary.{Summary}

-- ---- pairs

-- the pairs of a message: none where it wasn't accepted
abbrev pub pairs_of : Trade → Id → Option Accepted → List Pair
pairs_of trade id None = []
pairs_of trade id (Some message) =
    map (λ (recipient : Recipient). pair_of id recipient.address) (certified_recipients trade message)

-- the pairs of the messages that a provider numbered from here on
abbrev pub pairs_from : Trade → ℕ → ℕ → List Message → List Pair
pairs_from trade provider number [] = []
pairs_from trade provider number (message ∷ messages) =
    pairs_of trade (id_of provider number) (accepted_of message) ++ pairs_from trade provider (number + 1) messages

-- All pairs of a provider.
abbrev pub all_pairs : Trade → ℕ → Half → List Pair
all_pairs trade provider half = pairs_from trade provider 0 half.messages

-- ---- what is known of them

-- what the recipient's provider decided on a pair, where that is known
abbrev pub decision_on : Half → Pair → Option Decision
decision_on half pair = option_map (λ (known : Known). known.decision) (known_of half pair)

abbrev pub is_placed : Option Decision → Bool
is_placed None = false
is_placed (Some Placed) = true
is_placed (Some (Refused refusal)) = false

abbrev pub is_refused : Option Decision → Bool
is_refused None = false
is_refused (Some Placed) = false
is_refused (Some (Refused refusal)) = true

-- the pair is known to be placed
abbrev pub is_delivered : Half → Pair → Bool
is_delivered half pair = is_placed (decision_on half pair)

-- the pair is known to be refused
abbrev pub is_turned_away : Half → Pair → Bool
is_turned_away half pair = is_refused (decision_on half pair)

-- nothing is known of the pair
abbrev pub is_unknown : Half → Pair → Bool
is_unknown half pair = is_none (decision_on half pair)

-- the sender had a notice of the pair, in time or late
abbrev pub is_noticed : Half → Pair → Bool
is_noticed half pair = is_some (notice_of half pair)

abbrev pub is_accepted : Message → Bool
is_accepted message = is_some message.facts

-- ---- summaries

-- What has become of a provider's own messages.
abbrev pub summary_of : Trade → ℕ → Half → Summary
summary_of trade provider half = record {
  accepted = times is_accepted half.messages;
  delivered = times (is_delivered half) (all_pairs trade provider half);
  refused = times (is_turned_away half) (all_pairs trade provider half);
  unknown = times (is_unknown half) (all_pairs trade provider half);
  noticed = times (is_noticed half) (all_pairs trade provider half);
}

-- a message that was submitted in a range, and any other as one that wasn't accepted
abbrev pub within : (from upto : ℕ) → Message → Message
within from upto message =
    if is_within from upto message.moment then message else record message { facts = None }

-- A half, as if no message had been accepted but those of a range.
abbrev pub half_within : (from upto : ℕ) → Half → Half
half_within from upto half = record half { messages = map (within from upto) half.messages }

-- What has become of the messages that a provider accepted in a range of moments.
abbrev pub summary_within : Trade → ℕ → (from upto : ℕ) → Half → Summary
summary_within trade provider from upto half = summary_of trade provider (half_within from upto half)

-- two summaries in one
abbrev pub plus : Summary → Summary → Summary
plus a b = record {
  accepted = a.accepted + b.accepted;
  delivered = a.delivered + b.delivered;
  refused = a.refused + b.refused;
  unknown = a.unknown + b.unknown;
  noticed = a.noticed + b.noticed;
}

-- of no message
abbrev pub nothing_yet : Summary
nothing_yet = record { accepted = 0; delivered = 0; refused = 0; unknown = 0; noticed = 0 }

-- A provider has no more messages and pairs together: as many messages as it may have, each with as many recipients as one
-- may have.
abbrev pub most_pairs : ℕ
most_pairs = 1001000000

-- None of its numbers is above this one.
pub record IsUpTo (summary : Summary) (most : ℕ) : Type 0 where
  pub accepted : summary.accepted ≤ most
  pub delivered : summary.delivered ≤ most
  pub refused : summary.refused ≤ most
  pub unknown : summary.unknown ≤ most
  pub noticed : summary.noticed ≤ most

-- a summary with those of the providers from this number on
abbrev pub total_from : Trade → Summary → ℕ → List Site → Summary
total_from trade summary number [] = summary
total_from trade summary number (site ∷ sites) =
    total_from trade (plus summary (summary_of trade number (half trade number site.journal))) (number + 1) sites

-- What has become of the messages of all providers of a network.
abbrev pub total_of : Trade → List Site → Summary
total_of trade sites = total_from trade nothing_yet 0 sites
