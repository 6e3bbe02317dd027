-- Rounds by what is told of them, as lines of a script tell it: which of them went well (`WentWell`). This project's
-- profile.
use Rattle.std.specs.Prelude.{◌≡◌, ℕ, ◌+◌, ◌<◌, ◌≤◌, List, All, slice_get, take, Some, None}
use Rattle.pec_types.specs.declared.moments.TheConstants.{END_OF_TIME}
use Rattle.pec_types.specs.declared.turns.Turn.{Turn}
use Rattle.pec_ledger.specs.Network.{Site}
use Rattle.pec_ledger.specs.Trade.{Trade}
use Rattle.pec_plays.specs.Commands.{Command, Luck, Round, Turns}
use Rattle.pec_plays.specs.Scripts.{script}

-- how many frames are put on a link at most, so that they were all that was owed: fewer than half of what it holds
abbrev pub most_sent : ℕ
most_sent = 31

-- Each turn came to its end.
abbrev pub AllEnded : List Turn → Type 0
AllEnded turns = All (λ (turn : Turn). turn.ended ≡ None) turns

-- Each turn put few frames for each other provider.
abbrev pub AllSentFew : List Turn → Type 0
AllSentFew turns = All (λ (turn : Turn). All (λ (sent : ℕ × ℕ). sent.1 ≤ most_sent) turn.sent) turns

module _ (trade : Trade) (lucks : List Luck) (start : List Site) (commands : List Command) where
  -- the state of a script before the command of a number, from 0
  abbrev pub before : ℕ → List Site
  before number = (script trade (take number lucks) start commands).after

  -- The command of this number is a round that was told to go well: each turn came to its end, and none put more than
  -- 31 frames for one provider.
  pub record WentWell (number : ℕ) : Type 0 where
    pub now : ℕ
    pub command : slice_get commands number ≡ Some (Round now)
    pub in_range : now < END_OF_TIME
    pub turns : List Turn
    pub told : slice_get (script trade lucks start commands).answers number ≡ Some (Turns turns)
    pub ended : AllEnded turns
    pub few : AllSentFew turns

  -- The four commands from this number on are such rounds.
  abbrev pub FourWentWell : ℕ → Type 0
  FourWentWell number = WentWell number × WentWell (number + 1) × WentWell (number + 2) × WentWell (number + 3)
