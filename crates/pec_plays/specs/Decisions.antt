-- Which taken pairs a provider has to decide, `undecided`, what it decides, `decision_on`, and what it does with a
-- pair, `decide`: its screens look at the original that was taken. RFC 6109, section 3.3, within this project's
-- profile.
use Rattle.std.specs.Prelude.{ℕ, Bool, false, ◌&&◌, List, [], map, filter, Option, Some, None, is_none, if◌then◌else◌}
use Rattle.std.specs.List.{flat_map, list_any}
use Rattle.std.specs.Option.{option_and_then}
use Rattle.std.specs.Str.{bytes_eq}
use Rattle.pec_types.specs.Bytes.{Bytes}
use Rattle.pec_types.specs.Message.{Id}
use Rattle.pec_types.specs.declared.messages.Decision.{Decision}
use Rattle.pec_types.specs.declared.messages.Decision.TheVariants.{Refused}
use Rattle.pec_types.specs.declared.messages.Refusal.TheVariants as refusals
use Rattle.pec_types.specs.declared.turns.Event.TheVariants as events
use Rattle.pec_records.specs.declared.entries.Entry.{Entry}
use Rattle.pec_records.specs.declared.entries.Entry.TheVariants as entries
use Rattle.pec_screen.specs.VerdictReading.{finds}
use Rattle.pec_screen.specs.Verdicts.{Patterns}
use Rattle.pec_ledger.specs.Half.{Half, Taken}
use Rattle.pec_ledger.specs.Lookups.{decided_of, taken_of}
use Rattle.pec_ledger.specs.Own.{decision_at}
use Rattle.pec_ledger.specs.Pairs.{Pair, pair_of, same_pair}
use Rattle.pec_ledger.specs.Steps.{half}
use Rattle.pec_ledger.specs.Trade.{Trade}
use Rattle.pec_plays.specs.Frames.{original_taken}
use Rattle.pec_plays.specs.Reception.{each_once}
use Rattle.pec_plays.specs.Steps.{Step, enters}

-- the pairs of what was taken, in order of taking and of recipients
abbrev pub pairs_taken : List Taken → List Pair
pairs_taken rows = flat_map (λ (row : Taken). map (pair_of row.id) row.recipients) rows

-- the message was taken for this recipient
abbrev pub is_recipient_of : Bytes → Option Taken → Bool
is_recipient_of recipient None = false
is_recipient_of recipient (Some row) = list_any (bytes_eq recipient) row.recipients

-- A pair that was taken is not decided yet.
abbrev pub is_open : Half → Pair → Bool
is_open half pair = is_recipient_of pair.recipient (taken_of half pair.id) && is_none (decided_of half pair)

-- What is found in the message of a pair as it is decided, in the journal as it then is: whether some screen finds a
-- rule.
abbrev pub Looks : Type 0
Looks = List Entry → Pair → Bool

-- some screen finds a rule in an original, if there is one
abbrev pub finds_in : List Patterns → Option Bytes → Bool
finds_in screens None = false
finds_in screens (Some original) = finds screens original

module _ (trade : Trade) (provider : ℕ) where
  -- The taken pairs that are not decided, each once, in order of taking and of recipients.
  unfoldable pub undecided : List Entry → List Pair
  undecided journal =
      filter (is_open (half trade provider journal)) (each_once same_pair (pairs_taken (half trade provider journal).taken))

  -- What is decided for a recipient, where some screen of the provider finds a rule in the message or none does: a
  -- virus is told of an account alone.
  unfoldable pub decision_on : Half → Bytes → Bool → Decision
  decision_on half recipient found =
      if trade.is_account provider recipient && found then Refused refusals.Virus else decision_at trade provider half recipient

  -- Some of these screens finds a rule in the original of a message that was taken.
  unfoldable pub found_in_taken : List Patterns → List Entry → Id → Bool
  found_in_taken screens journal id =
      finds_in screens (option_and_then (original_taken trade provider journal id) (taken_of (half trade provider journal) id))

  -- What these screens find as a pair is decided: they look at the original that was taken.
  abbrev pub kept_looks : List Patterns → Looks
  kept_looks screens journal pair = found_in_taken screens journal pair.id

  -- what is decided on a pair, by what is found in its message
  abbrev pub decided_as : Looks → List Entry → Pair → Decision
  decided_as looks journal pair = decision_on (half trade provider journal) pair.recipient (looks journal pair)

  -- What the provider does with a pair: it decides it, by what is found in its message.
  unfoldable pub decide : ℕ → Looks → List Entry → Pair → Step
  decide now looks journal pair =
      enters trade provider journal (entries.Decided now pair.id pair.recipient (decided_as looks journal pair))
      (events.Decided pair.id pair.recipient (decided_as looks journal pair)) []
