-- A provider's messages and their pairs, counted one after another, over the rows that a shelf keeps: what the code
-- follows. It comes to the summary of `Summaries` where the homes that are kept are the trade's.
use Rattle.std.specs.Prelude.{ℕ, ◌+◌, Bool, List, [], ◌∷◌, None, if◌then◌else◌}
use Rattle.pec_types.specs.Message.{Id}
use Rattle.pec_types.specs.Moments.{is_within}
use Rattle.pec_types.specs.Timetable.{raised}
use Rattle.pec_ledger.specs.Half.{Half}
use Rattle.pec_ledger.specs.Pairs.{Pair, id_of, pair_of}
use Rattle.pec_shelf.specs.Sides.{Kept}
use Rattle.pec_shelf.specs.Summaries.{is_accepted, is_delivered, is_noticed, is_unknown, is_turned_away}
use Rattle.pec_shelf.specs.declared.certified.Certified.{Certified}
use Rattle.pec_shelf.specs.declared.summing.Summary.{Summary}

-- one more, where that counts; a number stays at its greatest value, 2 to the 64 less 1
abbrev pub more_if : ℕ → Bool → ℕ
more_if count counts = if counts then raised count else count

-- with a pair
abbrev pub with_pair : Half → Summary → Pair → Summary
with_pair half summary pair = record {
  accepted = summary.accepted;
  delivered = more_if summary.delivered (is_delivered half pair);
  refused = more_if summary.refused (is_turned_away half pair);
  unknown = more_if summary.unknown (is_unknown half pair);
  noticed = more_if summary.noticed (is_noticed half pair);
}

-- with the pairs of these recipients
abbrev pub with_pairs : Half → Id → Summary → List Certified → Summary
with_pairs half id summary [] = summary
with_pairs half id summary (one ∷ others) = with_pairs half id (with_pair half summary (pair_of id one.address)) others

-- with the message itself
abbrev pub with_accepted : Summary → Kept → Summary
with_accepted summary row = record summary { accepted = more_if summary.accepted (is_accepted row.message) }

-- with a message and its pairs
abbrev pub with_message : Half → Id → Summary → Kept → Summary
with_message half id summary row = with_pairs half id (with_accepted summary row) row.certified

-- with the messages that a provider numbered from here on
abbrev pub with_messages : ℕ → Half → Summary → ℕ → List Kept → Summary
with_messages me half summary number [] = summary
with_messages me half summary number (row ∷ rows) =
    with_messages me half (with_message half (id_of me number) summary row) (number + 1) rows

-- a row as it is counted for a range of moments: one that isn't of it has no message that was accepted, and no pair
abbrev pub kept_within : (from upto : ℕ) → Kept → Kept
kept_within from upto row =
    if is_within from upto row.message.moment then row
    else record { message = record row.message { facts = None }; certified = [] }
