-- The deadlines of a provider's pairs: `pairs_in`, all pairs of its messages in order of number and recipients, and two
-- cursors over them, one for each time limit. What stands before a cursor has its limit passed by the last clock call, and
-- nothing is owed on it for this limit any more: `IsWatched`. This project's profile.
use Rattle.std.specs.Prelude.{◌≡◌, ℕ, ◌+◌, ◌==◌, ◌≤◌, Bool, true, ◌&&◌, ◌||◌, List, [], ◌∷◌, ◌++◌, map, take, find, slice_get, Option, Some, None, IfSome, is_some}
use Rattle.std.specs.List.{filter_map, list_all}
use Rattle.pec_types.specs.Message.{Id}
use Rattle.pec_types.specs.Passed.{passed}
use Rattle.pec_types.specs.Timetable.{Rising, last_of}
use Rattle.pec_types.specs.declared.limits.TheConstants.{WARNING_AFTER, NOTICE_AFTER}
use Rattle.pec_ledger.specs.Half.{Charge, Half, Known, Mark, Message}
use Rattle.pec_ledger.specs.Lookups.{is_warning}
use Rattle.pec_ledger.specs.Pairs.{id_of, pair_of, same_id, same_pair}
use Rattle.pec_shelf.specs.Lines.{mark_at}
use Rattle.pec_shelf.specs.Sides.{Kept, Sent, messages_of}
use Rattle.pec_shelf.specs.Still.{is_settled}
use Rattle.pec_shelf.specs.declared.certified.Certified.{Certified}
use Rattle.pec_shelf.specs.declared.deadlines.Clock.{Clock}
use Rattle.pec_shelf.specs.declared.deadlines.Spot.{Spot}

-- ---- pairs

-- A pair: the number of its message, when that was accepted, and the recipient with the place among the certified ones.
pub record Pairing : Type 0 where
  pub number : ℕ
  pub index : ℕ
  pub accepted : ℕ
  pub certified : Certified

-- the pairs of a message with these certified recipients, the first of which has this place
abbrev pub pairs_at : ℕ → ℕ → ℕ → List Certified → List Pairing
pairs_at number index accepted [] = []
pairs_at number index accepted (one ∷ others) =
    record { number = number; index = index; accepted = accepted; certified = one } ∷ pairs_at number (index + 1) accepted others

-- The pairs of messages that are numbered from here on.
abbrev pub pairs_in : ℕ → List Kept → List Pairing
pairs_in number [] = []
pairs_in number (row ∷ rows) = pairs_at number 0 row.message.moment row.certified ++ pairs_in (number + 1) rows

-- when each pair was accepted
abbrev pub moments_of : List Pairing → List ℕ
moments_of pairs = map (λ (pair : Pairing). pair.accepted) pairs

abbrev pub spot_of : Pairing → Spot
spot_of pair = record { number = pair.number; index = pair.index }

-- where a message's recipient at a place stands
abbrev pub spot_at : ℕ → ℕ → Spot
spot_at number index = record { number = number; index = index }

-- where each pair stands
abbrev pub spots_of : List Pairing → List Spot
spots_of pairs = map spot_of pairs

-- when the pairs of messages with these certified recipients were accepted
abbrev pub accepted_in : List Message → List (List Certified) → List ℕ
accepted_in [] certified = []
accepted_in (message ∷ messages) [] = []
accepted_in (message ∷ messages) (here ∷ certified) =
    map (λ (one : Certified). message.moment) here ++ accepted_in messages certified

-- ---- what is owed on them

module _ (me : ℕ) (marks : List Mark) (known : List Known) where
  -- no clock call owes anything on a pair any more: the outcome is known, or the sender had notice
  abbrev pub is_noted : Pairing → Bool
  is_noted pair = is_settled marks known (id_of me pair.number) pair.certified

  -- no clock call owes a warning on a pair any more: that, or somebody took charge, or the sender was warned
  abbrev pub is_quiet : List Charge → Pairing → Bool
  is_quiet charged pair =
      is_noted pair
      || (is_some (find (λ (charge : Charge). same_id (id_of me pair.number) charge.id && (pair.certified.home == charge.by)) charged)
      || is_some (find (λ (mark : Mark). is_warning mark.due && same_pair (pair_of (id_of me pair.number) pair.certified.address) mark.pair) marks))

-- the mark that a clock call owes on a pair
abbrev pub mark_on : ℕ → Half → ℕ → Pairing → Option Mark
mark_on me half now pair = mark_at half now (id_of me pair.number) pair.accepted pair.certified

-- the mark that a clock call owes on a recipient, where there is one
abbrev pub mark_if : Half → ℕ → Id → ℕ → Option Certified → List Mark
mark_if half now id accepted None = []
mark_if half now id accepted (Some one) = filter_map (mark_at half now id accepted) (one ∷ [])

abbrev pub mark_within : ℕ → Half → ℕ → Spot → Option Kept → List Mark
mark_within me half now spot None = []
mark_within me half now spot (Some row) =
    mark_if half now (id_of me spot.number) row.message.moment (slice_get row.certified spot.index)

-- the mark that a clock call owes on the pair that stands there
abbrev pub mark_there : ℕ → Half → ℕ → List Kept → Option Spot → List Mark
mark_there me half now rows None = []
mark_there me half now rows (Some spot) = mark_within me half now spot (slice_get rows spot.number)

-- ---- cursors

-- The deadlines as they are kept: when each pair was accepted, how many look-ups there were, where each pair stands, for
-- how many further pairs there is memory, both cursors, and the moment of the last clock call.
pub record Watch : Type 0 where
  pub moments : List ℕ
  pub looks : ℕ
  pub spots : List Spot
  pub room : ℕ
  pub warned : ℕ
  pub noticed : ℕ
  pub ticked : ℕ

-- the cursors, and how often an acceptance was looked up, are as they were
abbrev pub HoldsCursors : Watch → Watch → Type 0
HoldsCursors old new =
    (new.looks ≡ old.looks) × (new.warned ≡ old.warned) × (new.noticed ≡ old.noticed) × (new.ticked ≡ old.ticked)

-- where the cursors stand by a moment
abbrev pub clock_at : ℕ → List ℕ → Clock
clock_at now moments = record { at = now; warned = passed WARNING_AFTER now moments; noticed = passed NOTICE_AFTER now moments }

-- with the cursors of a clock call
abbrev pub set_by : Watch → Option Clock → Watch
set_by watch None = watch
set_by watch (Some clock) = record watch { warned = clock.warned; noticed = clock.noticed; ticked = clock.at }

-- The deadlines are those of the pairs of the sender's side, at a shelf whose greatest moment is this one: no acceptance
-- and no clock call is later, each cursor stands where its limit has passed, and on what stands before it nothing is owed.
pub record IsWatched (watch : Watch) (last : ℕ) (sent : Sent) : Type 0 where
  pub moments : watch.moments ≡ moments_of (pairs_in 0 sent.messages)
  pub spots : watch.spots ≡ spots_of (pairs_in 0 sent.messages)
  pub rising : Rising watch.moments
  pub below : IfSome (last_of watch.moments) (λ moment. moment ≤ last)
  pub in_time : watch.ticked ≤ last
  pub warned : watch.warned ≡ passed WARNING_AFTER watch.ticked watch.moments
  pub noticed : watch.noticed ≡ passed NOTICE_AFTER watch.ticked watch.moments
  pub quiet : list_all (is_quiet sent.me sent.marks sent.known sent.charged) (take watch.warned (pairs_in 0 sent.messages)) ≡ true
  pub settled : list_all (is_noted sent.me sent.marks sent.known) (take watch.noticed (pairs_in 0 sent.messages)) ≡ true

-- What a shelf keeps of its sender's side is what its half says
pub record IsSideOf (me : ℕ) (half : Half) (sent : Sent) : Type 0 where
  pub own : sent.me ≡ me
  pub messages : messages_of sent.messages ≡ half.messages
  pub charged : sent.charged ≡ half.charged
  pub marks : sent.marks ≡ half.marks
  pub known : sent.known ≡ half.known
