-- What a clock call marks: `mark_for`, on one pair, and `marks_from`, on all of a provider's messages. What is due is
-- the time table of pec_types (`IsDue`, `due_of`). RFC 6109, section 3.1.6, and DPR 68/2005, article 8.
use Rattle.std.specs.Prelude.{ℕ, ◌+◌, List, [], ◌∷◌, ◌++◌, map, Option, Some, None, is_some}
use Rattle.std.specs.List.{filter_map}
use Rattle.pec_types.specs.Limits.{Clocked}
use Rattle.pec_types.specs.LimitsReading.{due_of}
use Rattle.pec_types.specs.Message.{Id}
use Rattle.pec_types.specs.declared.limits.Due.{Due}
use Rattle.pec_types.specs.declared.limits.Due.TheVariants as dues
use Rattle.pec_ledger.specs.Half.{Half, Message, Mark}
use Rattle.pec_ledger.specs.Lookups.{Accepted, accepted_of, addresses_of, certified, charge_of, known_of, notice_of, warning_of}
use Rattle.pec_ledger.specs.Pairs.{Pair, id_of, pair_of}
use Rattle.pec_ledger.specs.Trade.{Trade}

-- The pairs of an accepted message, in order of its recipients.
abbrev pub pairs_of : Trade → Id → Accepted → List Pair
pairs_of trade id message = map (pair_of id) (certified trade (addresses_of message.facts))

-- What a clock call at a moment sees of a pair that was accepted at a moment.
abbrev pub clocked : Trade → Half → ℕ → ℕ → Pair → Clocked
clocked trade half now accepted pair = record {
  at = now;
  accepted = accepted;
  charged = is_some (charge_of trade half pair);
  warned = is_some (warning_of half pair);
  noticed = is_some (notice_of half pair);
  known = is_some (known_of half pair);
}

-- nothing due is no mark
abbrev pub marked : Pair → ℕ → Due → Option Mark
marked pair now dues.Nothing = None
marked pair now dues.Warning = Some (record { pair = pair; due = dues.Warning; moment = now })
marked pair now dues.Notice = Some (record { pair = pair; due = dues.Notice; moment = now })
marked pair now dues.LateNotice = Some (record { pair = pair; due = dues.LateNotice; moment = now })

-- The mark of a pair: what is due to its sender now, if anything is.
abbrev pub mark_for : Trade → Half → ℕ → ℕ → Pair → Option Mark
mark_for trade half now accepted pair = marked pair now (due_of (clocked trade half now accepted pair))

-- the marks of one message; none where it was refused
abbrev pub marks_of : Trade → Half → ℕ → Id → Option Accepted → List Mark
marks_of trade half now id None = []
marks_of trade half now id (Some message) = filter_map (mark_for trade half now message.moment) (pairs_of trade id message)

-- The marks of the messages that a provider numbered from here on, in order of number and recipients.
abbrev pub marks_from : Trade → ℕ → Half → ℕ → ℕ → List Message → List Mark
marks_from trade provider half now number [] = []
marks_from trade provider half now number (message ∷ messages) =
    marks_of trade half now (id_of provider number) (accepted_of message)
    ++ marks_from trade provider half now (number + 1) messages
