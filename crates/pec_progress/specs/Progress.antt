-- Rounds without faults, and what is owed over the links in one: the premises under which accepted messages come to
-- their outcomes. This project's profile.
use Rattle.std.specs.Prelude.{◌≡◌, ℕ, ◌+◌, ◌<◌, ◌≤◌, true, List, [], ◌∷◌, ◌++◌, length, map, filter, Contains, not, Option, None, Some, IsSome}
use Rattle.pec_types.specs.Message.{Id}
use Rattle.pec_types.specs.declared.letters.Letter.{Letter}
use Rattle.pec_types.specs.declared.moments.TheConstants.{END_OF_TIME}
use Rattle.pec_records.specs.declared.entries.Entry.{Entry}
use Rattle.pec_ledger.specs.Due.{owed_letters}
use Rattle.pec_ledger.specs.Half.{Message}
use Rattle.pec_ledger.specs.Ledger.{accepted_in, ledger}
use Rattle.pec_ledger.specs.Lookups.{Accepted, HasPair, accepted_of, addresses_of, at_home, is_acked, known_of}
use Rattle.pec_ledger.specs.Network.{Site, frames_between, is_up, journal_at, journals_of, site_at}
use Rattle.pec_ledger.specs.Pairs.{Pair, id_of, pair_of}
use Rattle.pec_ledger.specs.Steps.{half}
use Rattle.pec_ledger.specs.Trade.{Trade}
use Rattle.pec_plays.specs.Frames.{frame_of}
use Rattle.pec_plays.specs.Rounds.{rooms_of, rounded}
use Rattle.pec_plays.specs.Steps.{Step}
use Rattle.pec_plays.specs.Turns.{Cut, Whole, entries_of, last_of, owed_of, steps_of}

-- A round: its moment, in seconds, and how each provider's turn goes.
pub record RoundAt : Type 0 where
  pub now : ℕ
  pub cuts : ℕ → Cut

-- how many letters that are no answers may be owed over a link, so that it carries all
abbrev pub most_open : ℕ
most_open = 16

-- No frame waits.
abbrev pub NothingWaits : List Site → Type 0
NothingWaits sites = (from to : ℕ) → frames_between sites from to ≡ []

module _ (trade : Trade) where
  -- Each provider is there and up, and its journal has no moment that is greater than this.
  pub record StandsReady (moment : ℕ) (sites : List Site) : Type 0 where
    pub count : length sites ≡ trade.providers
    pub up : (provider : ℕ) → provider < length sites → is_up sites provider ≡ true
    pub in_time : (provider : ℕ) → provider < length sites → last_of trade provider (journal_at sites provider) ≤ moment

  -- ---- a round

  -- the state behind a round
  abbrev pub after_round : ℕ → (ℕ → Cut) → List Site → List Site
  after_round now cuts sites = (rounded trade now cuts sites).sites

  -- A round goes well: a clock tells its moment, which isn't before the greatest of any journal, each provider is up,
  -- and each does its turn whole, so that no device fails and no journal is full.
  pub record GoesWell (now : ℕ) (cuts : ℕ → Cut) (sites : List Site) : Type 0 where
    pub in_range : now < END_OF_TIME
    pub in_time : (provider : ℕ) → provider < length sites → last_of trade provider (journal_at sites provider) ≤ now
    pub up : (provider : ℕ) → provider < length sites → is_up sites provider ≡ true
    pub whole : (provider : ℕ) → provider < length sites → cuts provider ≡ Whole

  -- the steps of a provider's turn, done whole
  abbrev pub whole_steps : ℕ → List Site → ℕ → List Step
  whole_steps now sites provider = steps_of trade provider now (site_at sites provider) Whole

  -- its journal behind that turn
  abbrev pub journal_behind : ℕ → List Site → ℕ → List Entry
  journal_behind now sites provider = journal_at sites provider ++ entries_of (whole_steps now sites provider)

  -- All letters that a provider owes another one behind that turn.
  abbrev pub owed_over : ℕ → List Site → ℕ → ℕ → List Letter
  owed_over now sites from to =
      owed_letters trade from (half trade from (journal_behind now sites from)) to (owed_of (whole_steps now sites from))

  -- The frame of no letter that is owed in a round is too long.
  abbrev pub NoneIsTooLong : ℕ → List Site → Type 0
  NoneIsTooLong now sites =
      (from to : ℕ) → from < length sites → to < length sites → (letter : Letter) → Contains (owed_over now sites from to) letter
      → IsSome (frame_of trade from (journal_behind now sites from) letter)

  -- The links carry what is owed in a round: each has room for all letters that are owed over it, and the frame of none
  -- of these is too long.
  pub record LinksCarry (now : ℕ) (sites : List Site) : Type 0 where
    pub room : (from to : ℕ) → from < length sites → to < length sites → length (owed_over now sites from to) ≤ rooms_of sites from to
    pub frames : NoneIsTooLong now sites

  -- The letters among them that are no answers: outcomes that nobody acknowledged, and envelopes of messages of which
  -- nothing was heard.
  abbrev pub open_over : ℕ → List Site → ℕ → ℕ → List Letter
  open_over now sites from to = owed_letters trade from (half trade from (journal_behind now sites from)) to []

  -- Little is owed in a round: at most a quarter of what a link holds over each of them, answers apart, and the frame
  -- of no owed letter is too long.
  pub record OwesLittle (now : ℕ) (sites : List Site) : Type 0 where
    pub few : (from to : ℕ) → from < length sites → to < length sites → length (open_over now sites from to) ≤ most_open
    pub frames : NoneIsTooLong now sites

  -- ---- rounds one after another

  -- Rounds follow one another without faults: no moment is before that of the round before, nor before a first one,
  -- each is one that a clock tells, and each turn is done whole.
  abbrev pub FollowInTime : ℕ → List RoundAt → Type 0
  FollowInTime from [] = Unit {0}
  FollowInTime from (round ∷ rounds) =
      (from ≤ round.now) × (round.now < END_OF_TIME)
      × ((provider : ℕ) → provider < trade.providers → round.cuts provider ≡ Whole) × FollowInTime round.now rounds

  -- the state behind them
  abbrev pub behind : List RoundAt → List Site → List Site
  behind [] sites = sites
  behind (round ∷ rounds) sites = behind rounds (after_round round.now round.cuts sites)

  -- Each of the rounds goes well.
  abbrev pub AllGoWell : List RoundAt → List Site → Type 0
  AllGoWell [] sites = Unit {0}
  AllGoWell (round ∷ rounds) sites = GoesWell round.now round.cuts sites × AllGoWell rounds (after_round round.now round.cuts sites)

  -- The links carry what is owed in each of them.
  abbrev pub AllCarry : List RoundAt → List Site → Type 0
  AllCarry [] sites = Unit {0}
  AllCarry (round ∷ rounds) sites = LinksCarry round.now sites × AllCarry rounds (after_round round.now round.cuts sites)

  -- The frame of no letter that is owed in any of them is too long.
  abbrev pub NoneIsEverTooLong : List RoundAt → List Site → Type 0
  NoneIsEverTooLong [] sites = Unit {0}
  NoneIsEverTooLong (round ∷ rounds) sites = NoneIsTooLong round.now sites × NoneIsEverTooLong rounds (after_round round.now round.cuts sites)

  -- Little is owed in each of them.
  abbrev pub AllOweLittle : List RoundAt → List Site → Type 0
  AllOweLittle [] sites = Unit {0}
  AllOweLittle (round ∷ rounds) sites = OwesLittle round.now sites × AllOweLittle rounds (after_round round.now round.cuts sites)

  -- ---- pairs

  -- The pair is one of an accepted message.
  pub record WasAccepted (sites : List Site) (pair : Pair) : Type 0 where
    pub message : Accepted
    pub accepted : accepted_in trade (journals_of sites) pair.id ≡ Some message
    pub has : HasPair trade message pair.recipient

  -- The outcome of the pair is known where its message was accepted.
  abbrev pub HasOutcome : List Site → Pair → Type 0
  HasOutcome sites pair = IsSome (known_of (ledger trade (journals_of sites) pair.id.provider) pair)

  -- The outcome of the pair is known, and its recipient's provider knows that it is.
  pub record IsSettled (sites : List Site) (pair : Pair) : Type 0 where
    pub known : HasOutcome sites pair
    pub home : ℕ
    pub at_home : trade.home pair.recipient ≡ Some home
    pub acked : is_acked (ledger trade (journals_of sites) home) pair ≡ true

  -- ---- how many are open

  -- the pairs of an accepted message at a provider
  abbrev pub pairs_at : ℕ → Id → Option Accepted → List Pair
  pairs_at home id None = []
  pairs_at home id (Some message) = map (pair_of id) (at_home trade home (addresses_of message.facts))

  -- those of the messages that a provider numbered from here on
  abbrev pub pairs_from : ℕ → ℕ → ℕ → List Message → List Pair
  pairs_from provider home number [] = []
  pairs_from provider home number (message ∷ messages) =
      pairs_at home (id_of provider number) (accepted_of message) ++ pairs_from provider home (number + 1) messages

  -- The pairs of one provider's messages at another one, which hasn't heard that their outcome is known.
  abbrev pub unsettled : List Site → ℕ → ℕ → List Pair
  unsettled sites from home =
      filter (λ (pair : Pair). not (is_acked (ledger trade (journals_of sites) home) pair))
      (pairs_from from home 0 (ledger trade (journals_of sites) from).messages)

  -- Between each two providers few pairs are unsettled, those of the messages of both together.
  abbrev pub FewAreUnsettled : List Site → Type 0
  FewAreUnsettled sites = (one other : ℕ) → one < length sites → other < length sites
      → length (unsettled sites one other) + length (unsettled sites other one) ≤ most_open
