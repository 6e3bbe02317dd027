-- What a provider has of a pair: `row_of`, its half of the pair's row. RFC 6109, section 3, within this project's profile.
use Rattle.std.specs.Prelude.{ℕ, ◌==◌, false, ◌&&◌, find, Option, Some, None, is_none, List, if◌then◌else◌}
use Rattle.std.specs.List.{list_any}
use Rattle.std.specs.Option.{option_and_then, option_map}
use Rattle.std.specs.Str.{bytes_eq}
use Rattle.pec_types.specs.Bytes.{Bytes}
use Rattle.pec_types.specs.declared.messages.Decision.{Decision}
use Rattle.pec_ledger.specs.Half.{Charge, Fate, Half, Known, Mark, Message, Taken}
use Rattle.pec_ledger.specs.Lookups.{Accepted, accepted_at, addresses_of, certified, charge_of, charged_of, decided_of, is_acked, known_of, notice_of, taken_of, warning_of}
use Rattle.pec_ledger.specs.Pairs.{Pair}
use Rattle.pec_ledger.specs.Trade.{Trade}
use Rattle.pec_shelf.specs.Lines.{is_for}
use Rattle.pec_shelf.specs.declared.certified.Certified.{Certified}
use Rattle.pec_shelf.specs.declared.pair_rows.ReceivedHalf.{ReceivedHalf}
use Rattle.pec_shelf.specs.declared.pair_rows.Row.{Row}
use Rattle.pec_shelf.specs.declared.pair_rows.SentHalf.{SentHalf}

-- ---- the sender's side

-- the message, where the address is one of its certified recipients
abbrev pub with_recipient : Trade → Bytes → Accepted → Option Accepted
with_recipient trade recipient message =
    if list_any (bytes_eq recipient) (certified trade (addresses_of message.facts)) then Some message else None

-- The accepted message of this provider that the pair is one of.
abbrev pub sent : Trade → ℕ → Half → Pair → Option Accepted
sent trade me half pair =
    if pair.id.provider == me then option_and_then (with_recipient trade pair.recipient) (accepted_at half pair.id.number) else None

-- what was decided on a pair, when, and when that was learned
abbrev pub learned_in : Known → Decision × ℕ × ℕ
learned_in known = (known.decision, known.decided, known.moment)

-- the sender's side of a pair that is another provider's
abbrev pub not_sent : SentHalf
not_sent = record { accepted = None; charged = None; warned = None; noticed = None; known = None }

-- The sender's side of a pair.
abbrev pub sent_half : Trade → Half → Pair → Option Accepted → SentHalf
sent_half trade half pair None = not_sent
sent_half trade half pair (Some message) = record {
  accepted = Some message.moment;
  charged = option_map (λ (charge : Charge). charge.moment) (charge_of trade half pair);
  warned = option_map (λ (mark : Mark). mark.moment) (warning_of half pair);
  noticed = option_map (λ (mark : Mark). mark.moment) (notice_of half pair);
  known = option_map learned_in (known_of half pair);
}

-- ---- the recipient's side

-- the row of an id that was taken, where it was for this address
abbrev pub taken_for : Bytes → Taken → Option Taken
taken_for recipient taken = if list_any (bytes_eq recipient) taken.recipients then Some taken else None

-- How a pair was taken here.
abbrev pub received : Half → Pair → Option Taken
received half pair = option_and_then (taken_for pair.recipient) (taken_of half pair.id)

-- what was decided on a pair, and when
abbrev pub decided_in : Fate → Decision × ℕ
decided_in fate = (fate.decision, fate.moment)

-- the recipient's side of a pair that wasn't taken here
abbrev pub not_received : ReceivedHalf
not_received = record { taken = None; decided = None; acked = false }

-- The recipient's side of a pair.
abbrev pub received_half : Half → Pair → Option Taken → ReceivedHalf
received_half half pair None = not_received
received_half half pair (Some taken) = record {
  taken = Some taken.moment;
  decided = option_map decided_in (decided_of half pair);
  acked = is_acked half pair;
}

-- ---- both

-- one row of both sides, where there is one of them
abbrev pub row_with : SentHalf → ReceivedHalf → Option Row
row_with sent received =
    if is_none sent.accepted && is_none received.taken then None
    else Some (record {
      accepted = sent.accepted;
      charged = sent.charged;
      warned = sent.warned;
      noticed = sent.noticed;
      known = sent.known;
      taken = received.taken;
      decided = received.decided;
      acked = received.acked;
    })

-- What a provider has of a pair: nothing where the pair is neither of its messages nor taken here, and otherwise its row,
-- in which a side that the provider doesn't have is empty.
unfoldable pub row_of : Trade → ℕ → Half → Pair → Option Row
row_of trade me half pair =
    row_with (sent_half trade half pair (sent trade me half pair)) (received_half half pair (received half pair))

-- ---- over the recipients that are kept: what the code follows

-- where the recipient of an address is at home
abbrev pub home_in : Bytes → List Certified → Option ℕ
home_in address recipients = option_map (λ (certified : Certified). certified.home) (find (is_for address) recipients)

-- the sender's side of a pair of a message whose recipient is at home there
abbrev pub sent_at : Half → Pair → ℕ → ℕ → SentHalf
sent_at half pair accepted home = record {
  accepted = Some accepted;
  charged = option_map (λ (charge : Charge). charge.moment) (charged_of half pair.id home);
  warned = option_map (λ (mark : Mark). mark.moment) (warning_of half pair);
  noticed = option_map (λ (mark : Mark). mark.moment) (notice_of half pair);
  known = option_map learned_in (known_of half pair);
}

abbrev pub sent_to : Half → Pair → Option Message → Option ℕ → SentHalf
sent_to half pair None home = not_sent
sent_to half pair (Some message) None = not_sent
sent_to half pair (Some message) (Some home) = sent_at half pair message.moment home
