-- What a provider owes another one in a round: `due_letters`, the answers that arose in the round, the outcomes that
-- nobody acknowledged, and the envelopes of messages of which nothing was heard, cut to the room of the link. RFC 6109,
-- section 3; that letters are repeated until they are answered is this project's profile.
use Rattle.std.specs.Prelude.{ℕ, ◌+◌, ◌==◌, nat_lt, Bool, not, ◌&&◌, List, [], ◌∷◌, ◌++◌, length, map, filter, take, Option, Some, None, is_some, is_none, if◌then◌else◌}
use Rattle.std.specs.List.{list_any}
use Rattle.pec_types.specs.Bytes.{Bytes, Path}
use Rattle.pec_types.specs.Message.{Id}
use Rattle.pec_types.specs.declared.letters.Letter.{Letter}
use Rattle.pec_types.specs.declared.letters.Letter.TheVariants as letters
use Rattle.pec_ledger.specs.Half.{Half, Fate, Message}
use Rattle.pec_ledger.specs.Lookups.{Accepted, accepted_of, addresses_of, at_home, charged_of, is_acked, is_home, known_of}
use Rattle.pec_ledger.specs.Pairs.{id_of, pair_of}
use Rattle.pec_ledger.specs.Trade.{Trade}

-- The provider for which a letter is.
abbrev pub addressee : Trade → Letter → Option ℕ
addressee trade (letters.Envelope id to) = Some to
addressee trade (letters.Charge id by) = Some id.provider
addressee trade (letters.Outcome id recipient) = Some id.provider
addressee trade (letters.Ack id recipient) = trade.home recipient

-- the answers for a provider, in the order in which they arose
abbrev pub answers_to : Trade → ℕ → List Letter → List Letter
answers_to trade to owed = filter (λ (letter : Letter). is_home to (addressee trade letter)) owed

-- ---- outcomes

-- the message of a decided pair is that provider's, which hasn't said that the outcome arrived
abbrev pub is_unheard : Half → ℕ → Fate → Bool
is_unheard half to fate = (fate.pair.id.provider == to) && not (is_acked half fate.pair)

-- the letter with the outcome of a decided pair: a receipt of delivery or a notice of error
abbrev pub outcome_on : Fate → Letter
outcome_on fate = letters.Outcome fate.pair.id fate.pair.recipient

-- The outcomes of pairs whose message is another provider's and that aren't acknowledged, in order of decision.
abbrev pub outcomes_to : Half → ℕ → List Letter
outcomes_to half to = map outcome_on (filter (is_unheard half to) half.decided)

-- ---- envelopes

-- an outcome of one of these recipients is known
abbrev pub hears_of : Half → Id → Path → Bool
hears_of half id addresses = list_any (λ (address : Bytes). is_some (known_of half (pair_of id address))) addresses

-- A message has pairs at a provider that hasn't charged it, and none of these pairs has a known outcome.
abbrev pub awaits : Trade → Half → ℕ → Id → Accepted → Bool
awaits trade half to id message =
    nat_lt 0 (length (at_home trade to (addresses_of message.facts)))
    && (is_none (charged_of half id to) && not (hears_of half id (at_home trade to (addresses_of message.facts))))

-- the envelope of a message for a provider, where the message was accepted and awaits an answer from there
abbrev pub envelope_to : Trade → Half → ℕ → Id → Option Accepted → List Letter
envelope_to trade half to id None = []
envelope_to trade half to id (Some message) = if awaits trade half to id message then letters.Envelope id to ∷ [] else []

-- those of the messages that a provider numbered from here on, in order of number
abbrev pub envelopes_from : Trade → ℕ → Half → ℕ → ℕ → List Message → List Letter
envelopes_from trade provider half to number [] = []
envelopes_from trade provider half to number (message ∷ messages) =
    envelope_to trade half to (id_of provider number) (accepted_of message)
    ++ envelopes_from trade provider half to (number + 1) messages

-- ---- all

-- What a provider owes another one, before it is cut.
abbrev pub owed_letters : Trade → ℕ → Half → ℕ → List Letter → List Letter
owed_letters trade provider half to owed =
    answers_to trade to owed ++ (outcomes_to half to ++ envelopes_from trade provider half to 0 half.messages)

-- The due letters: as many as the link has room for.
unfoldable pub due_letters : Trade → ℕ → Half → ℕ → ℕ → List Letter → List Letter
due_letters trade provider half to room owed = take room (owed_letters trade provider half to owed)
