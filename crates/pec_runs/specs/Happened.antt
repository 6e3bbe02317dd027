-- What happened in a run, `Happened`: what stood in its input, in which world it played, which journals it had, and how
-- its commands went; and what it comes to, `outcome_of`. This project's profile.
use Rattle.std.specs.Prelude.{◌≡◌, nat_lt, Bool, true, false, List, [], length, Option, Some, None, Result, Ok, Err, if◌then◌else◌}
use Rattle.pec_types.specs.Bytes.{Bytes}
use Rattle.pec_directory.specs.Directory.{Kept, Provider, providers_of}
use Rattle.pec_directory.specs.Lawful.{IsLawful}
use Rattle.pec_directory.specs.Zones.{AreByRule}
use Rattle.pec_seal.specs.Hmac.{hmac_seals}
use Rattle.pec_seal.specs.Seals.{Seals}
use Rattle.pec_trade.specs.Keys.{keys_of, names_of}
use Rattle.pec_ledger.specs.Trade.{Trade}
use Rattle.pec_ledger.specs.TradeLaws.{IsTrade}
use Rattle.pec_plays.specs.Commands.{Luck}
use Rattle.pec_trade.specs.TradeOf.{trade_of}
use Rattle.pec_input.specs.Directory.{Refusal, directory_in}
use Rattle.pec_input.specs.Parts.{Parts}
use Rattle.pec_input.specs.declared.opening.TheConstants.{LONGEST_DIRECTORY}
use Rattle.pec_runs.specs.Endings.{End}
use Rattle.pec_runs.specs.Endings as ends
use Rattle.pec_runs.specs.Openings.{Form, Next, NoMore, Holds, Unfits, Fails, Stops, Opening, form_in, next_of, opened_all}
use Rattle.pec_runs.specs.Plays.{Finish, Outcome, Rest, outcome_from}
use Rattle.pec_runs.specs.Plays as plays
use Rattle.pec_runs.specs.ScriptLines.{Hands, Script, script_of}
use Rattle.pec_screen.specs.Verdicts.{Patterns}

-- ---- the setting

-- The directory as it is kept, and those who seal for its providers.
pub record Setting : Type 0 where
  pub kept : List Kept
  pub seals : Seals

-- the world of a setting
abbrev pub trade_in : Setting → Trade
trade_in setting = trade_of setting.kept setting.seals

-- its providers, in the order of the directory
abbrev pub providers_in : Setting → List Provider
providers_in setting = providers_of setting.kept

-- The setting is that of these providers: they are kept, each zone is of its provider's rule, each seals with its own
-- name and key, and their world meets all laws of the trade. Two settings of the same providers have one world: law
-- `providers_have_one_world`.
pub record IsSetting (providers : List Provider) (setting : Setting) : Type 0 where
  pub kept : providers_in setting ≡ providers
  pub zones : AreByRule setting.kept
  pub lawful : IsLawful providers
  pub seals : setting.seals ≡ hmac_seals (names_of providers) (keys_of providers)
  pub world : IsTrade (trade_in setting)

-- ---- what happened

-- What a run is asked beside its input: its words; and the patterns of the screens of its providers, a list of boxes for
-- each from 0 on, and those of the spares, of which the last is used first. A provider past the lists has no screens.
pub record Asked : Type 0 where
  pub words : List Bytes
  pub screens : List (List Patterns)
  pub spares : List Patterns

-- What happened in a run: its input, whether it was stopped early, its world, its screens, spares and journals, and how
-- its commands went.
pub record Happened : Type 0 where
  pub parts : Parts
  pub early : Bool  -- it was stopped before a disk was asked for
  pub setting : Setting
  pub screens : List (List Patterns)  -- as it began
  pub spares : List Patterns  -- as it began
  pub hands : Hands
  pub opening : Opening
  pub lucks : List Luck  -- one for each command that was played
  pub rest : Rest

-- The screens and spares are those that were asked for.
pub record IsGiven (asked : Asked) (happened : Happened) : Type 0 where
  pub screens : happened.screens ≡ asked.screens
  pub spares : happened.spares ≡ asked.spares

-- How far a run comes without its disks: it ends; it is stopped; or it begins, in one of its forms, with a script.
pub data Stage : Type 0 where
  Over : (end : End) → Stage
  Halted : Stage
  Begun : (form : Form) (script : Script) → Stage

-- the last test: the directory is refused, or the run begins with the script of these lines
abbrev pub by_directory : Hands → Form → List Bytes → Result (List Provider) Refusal → Stage
by_directory hands form lines (Err why) = Over (ends.DirectoryRefused why)
by_directory hands form lines (Ok providers) = Begun form (script_of hands providers 1 lines)

-- the test before it: no line says `%%`, so there is no script
abbrev pub by_script : Hands → Form → Bytes → Option (List Bytes) → Stage
by_script hands form directory None = Over ends.NoScript
by_script hands form directory (Some lines) = by_directory hands form lines (directory_in directory)

-- the tests before these: the words are no form, the run was stopped early, or the directory is too long
abbrev pub by_form : Hands → Bool → Parts → Option Form → Stage
by_form hands early parts None = Over ends.Usage
by_form hands true parts (Some form) = Halted
by_form hands false parts (Some form) =
    if nat_lt LONGEST_DIRECTORY (length parts.directory) then Over ends.LongDirectory
    else by_script hands form parts.directory parts.script

-- The words first, then the directory's length, the script's mark, and the directory itself.
unfoldable pub stage_of : Asked → Hands → Bool → Parts → Stage
stage_of asked hands early parts = by_form hands early parts (form_in asked.words)

-- an outcome without a command
abbrev pub nothing_played : Trade → List (List Patterns) → Opening → Finish → Outcome
nothing_played trade screens opening finish =
    record { answers = []; after = opened_all trade screens opening.journals; finish = finish }

-- what a run that begins comes to: where it has all its journals the script is played, and else no command is
abbrev pub by_next : Trade → List (List Patterns) → Opening → List Luck → Rest → Script → Next → Outcome
by_next trade screens opening lucks rest script NoMore = outcome_from trade lucks rest
    (opened_all trade screens opening.journals) script
by_next trade screens opening lucks rest script Holds =
    nothing_played trade screens opening (plays.Ends (ends.NotEmpty (next_of opening)))
by_next trade screens opening lucks rest script (Unfits unfit) =
    nothing_played trade screens opening (plays.Ends (ends.NotFit (next_of opening) unfit))
by_next trade screens opening lucks rest script Fails = nothing_played trade screens opening plays.Fails
by_next trade screens opening lucks rest script Stops = nothing_played trade screens opening plays.Stops

-- what a run comes to at its stage
abbrev pub outcome_at : Happened → Stage → Outcome
outcome_at happened (Over end) = record { answers = []; after = []; finish = plays.Ends end }
outcome_at happened Halted = record { answers = []; after = []; finish = plays.Stops }
outcome_at happened (Begun form script) =
    by_next (trade_in happened.setting) happened.screens happened.opening happened.lucks happened.rest script
    happened.opening.next

-- What a run comes to.
unfoldable pub outcome_of : Asked → Happened → Outcome
outcome_of asked happened = outcome_at happened (stage_of asked happened.hands happened.early happened.parts)
