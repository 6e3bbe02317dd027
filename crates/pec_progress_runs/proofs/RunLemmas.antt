-- A run that plays honestly: its state is Sound at each command, each read gave what was kept, and its letters fit frames.
use Rattle.std.proofs.Common.{◌≡◌, List, sym, subst, Option}
use Rattle.std.specs.List.{AllByRecursion}
use Rattle.pec_types.specs.Bytes.{Bytes}
use Rattle.pec_directory.specs.Directory.{Provider}
use Rattle.pec_directory.specs.Lawful.{IsLawful}
use Rattle.pec_letters.specs.Fitting.{Fits}
use Rattle.pec_ledger.specs.TradeLaws.{LettersCanBePut}
use Rattle.pec_plays.specs.Possible.{GaveWhatWasKept}
use Rattle.pec_progress_runs.specs.Runs.{PlaysHonestly}
use Rattle.pec_runs.specs.Happened.{Asked, IsSetting, providers_in}
use Rattle.pec_runs.specs.Openings.{Disks}
use Rattle.pec_runs.specs.Ran.{Counts, HasBegun, IsAt, PlaysOn, Ran, world}
use Rattle.pec_runs.specs.ScriptLines.{Script}
use Rattle.pec_runs.specs.Statuses.{Status}
use Rattle.pec_seal.specs.Seals.{Seals}
use Rattle.pec_trade.specs.TradeOf.{trade_of}

module _ (asked : Asked) (status : Status) (unread held after : Option Bytes) (tells : Type 0) (old_disks new_disks : Disks) (old new : Counts)
    (ran : Ran asked status unread held after tells old_disks new_disks old new) (providers : List Provider) (written : Script)
    (plays : PlaysHonestly asked ran.happened providers written) where
  pub setting : IsSetting providers ran.happened.setting
  setting = ran.setting plays.form written plays.begun providers plays.directory

  has_begun : HasBegun tells old_disks new_disks old new ran.happened status asked plays.form written
  has_begun = subst (IsAt tells old_disks new_disks old new ran.happened status asked) plays.begun ran.is_at

  pub all_kept : tells → AllByRecursion GaveWhatWasKept ran.happened.lucks
  all_kept told = (subst (PlaysOn tells old_disks new_disks old new ran.happened written) plays.all has_begun.plays).kept told

  pub can_be_put : (seals : Seals) → seals ≡ ran.happened.setting.seals → Fits seals providers
      → (IsLawful (providers_in ran.happened.setting) → Fits seals (providers_in ran.happened.setting) → LettersCanBePut (trade_of ran.happened.setting.kept seals))
      → LettersCanBePut (world ran.happened)
  can_be_put seals same fits put =
      subst (λ (s : Seals). LettersCanBePut (trade_of ran.happened.setting.kept s)) same
      (put (subst IsLawful (sym setting.kept) setting.lawful) (subst (Fits seals) (sym setting.kept) fits))
