-- What the time limits of a provider's pairs run from: `acceptances`, the moments at which its pairs were accepted, in
-- order of number and recipients, and `last_tick`, the moment of its last clock call. This project's profile.
use Rattle.std.specs.Prelude.{ℕ, List, [], map, fold, Option, None, Some}
use Rattle.std.specs.List.{flat_map}
use Rattle.pec_types.specs.Bytes.{Bytes}
use Rattle.pec_records.specs.declared.entries.Entry.{Entry}
use Rattle.pec_records.specs.declared.entries.Entry.TheVariants as entries
use Rattle.pec_ledger.specs.Half.{Half, Message}
use Rattle.pec_ledger.specs.Lookups.{Accepted, accepted_of, addresses_of, certified}
use Rattle.pec_ledger.specs.Trade.{Trade}

-- the moment of a message's acceptance, once for each of its pairs: none where it was refused
abbrev pub acceptances_of : Trade → Option Accepted → List ℕ
acceptances_of trade None = []
acceptances_of trade (Some message) = map (λ (recipient : Bytes). message.moment) (certified trade (addresses_of message.facts))

-- The moments at which the pairs of a provider were accepted.
abbrev pub acceptances : Trade → Half → List ℕ
acceptances trade half = flat_map (λ (message : Message). acceptances_of trade (accepted_of message)) half.messages

-- the moment of the last clock call behind an entry
abbrev pub ticked_by : ℕ → Entry → ℕ
ticked_by last (entries.Ticked moment) = moment
ticked_by last _ = last

-- The moment of the last clock call of a journal, 0 where it has none.
abbrev pub last_tick : List Entry → ℕ
last_tick journal = fold ticked_by 0 journal
