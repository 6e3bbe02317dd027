-- A run whose script is played honestly (`PlaysHonestly`), and its states and answers. This project's profile.
use Rattle.std.specs.Prelude.{◌≡◌, ℕ, List, Ok}
use Rattle.pec_directory.specs.Directory.{Provider}
use Rattle.pec_input.specs.Directory.{directory_in}
use Rattle.pec_ledger.specs.Ledger.{Fit}
use Rattle.pec_ledger.specs.Network.{Site, journals_in}
use Rattle.pec_plays.specs.Commands.{Answer}
use Rattle.pec_plays.specs.Scripts.{script}
use Rattle.pec_progress_runs.specs.Told.{FourWentWell, WentWell, before}
use Rattle.pec_runs.specs.Happened.{Asked, Begun, Happened, stage_of}
use Rattle.pec_runs.specs.Headline.{NoneInjected}
use Rattle.pec_runs.specs.Openings.{Form, NoMore, Resume}
use Rattle.pec_runs.specs.Ran.{beginning, world}
use Rattle.pec_runs.specs.ScriptLines.{Script}

-- What happened is that a script was played in this directory, with all journals at hand: it injected no forged frame,
-- and journals that were opened fit together.
pub record PlaysHonestly (asked : Asked) (happened : Happened) (providers : List Provider) (written : Script) : Type 0 where
  pub form : Form
  pub begun : stage_of asked happened.hands happened.early happened.parts ≡ Begun form written
  pub all : happened.opening.next ≡ NoMore
  pub directory : directory_in happened.parts.directory ≡ Ok providers
  pub fit : form ≡ Resume → Fit (world happened) (journals_in happened.opening.journals)
  pub honest : NoneInjected (world happened) happened.lucks (beginning happened) written.commands

module _ (happened : Happened) (written : Script) where
  -- the state before the command of a number, from 0
  abbrev pub state_at : ℕ → List Site
  state_at number = before (world happened) happened.lucks (beginning happened) written.commands number

  -- what was answered to its commands
  abbrev pub answered : List Answer
  answered = (script (world happened) happened.lucks (beginning happened) written.commands).answers

  -- The command of this number is a `round` line of which it was printed that it went well; or the four from it on are.
  abbrev pub PrintsWell : ℕ → Type 0
  PrintsWell number = WentWell (world happened) happened.lucks (beginning happened) written.commands number

  abbrev pub FourPrintWell : ℕ → Type 0
  FourPrintWell number = FourWentWell (world happened) happened.lucks (beginning happened) written.commands number
