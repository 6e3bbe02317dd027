-- A run that is cut in two: what it leaves, and what a run that resumes begins with. This project's profile.
use Rattle.std.specs.Prelude.{◌≡◌, ◌⊎◌, ℕ, List, map}
use Rattle.std.specs.List.{AllByRecursion}
use Rattle.pec_types.specs.Bytes.{Bytes}
use Rattle.pec_records.specs.declared.entries.Entry.{Entry}
use Rattle.pec_ledger.specs.Network.{Site}
use Rattle.pec_ledger.specs.Trade.{Trade}
use Rattle.pec_screen.specs.Verdicts.{Patterns}
use Rattle.pec_runs.specs.Openings.{Disks, opened, opened_all}

-- A state as one begins with: each provider is up, nothing is interrupted, and nothing waits on a link.
abbrev pub IsAtRest : Trade → List Site → Type 0
IsAtRest trade sites = AllByRecursion (λ (site : Site). site ≡ opened trade site.screens site.journal) sites

-- the journals of a state
abbrev pub journals_left : List Site → List (List Entry)
journals_left sites = map (λ (site : Site). site.journal) sites

-- the patterns of its screens, by provider
abbrev pub screens_left : List Site → List (List Patterns)
screens_left sites = map (λ (site : Site). site.screens) sites

-- The state that begins with the journals of another, and with these screens.
abbrev pub resumed : Trade → List (List Patterns) → List Site → List Site
resumed trade screens sites = opened_all trade screens (journals_left sites)

-- A provider's disk is found as it was left: as it read then, or as a crash may have left it.
pub record IsFoundSo (left found : Disks) (provider : ℕ) : Type 0 where
  pub bytes : Bytes
  pub was : left.reads provider bytes ⊎ left.may_leave provider bytes
  pub is : found.reads provider bytes
