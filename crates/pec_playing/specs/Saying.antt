-- The lines of what a call of the network told, before they are lines of an answer: of a link, of a restart, of why a
-- screen wasn't put into a place, and of what a provider refuses. Want of memory has none. This project's profile.
use Rattle.std.specs.Prelude.{◌≡◌, ℕ, Result, Ok, Err}
use Rattle.pec_types.specs.Bytes.{Bytes}
use Rattle.pec_types.specs.declared.turns.ProviderFault.{ProviderFault}
use Rattle.pec_types.specs.declared.turns.ProviderFault.TheVariants as faults
use Rattle.pec_link.specs.declared.faults.LinkFault.{LinkFault}
use Rattle.pec_link.specs.declared.faults.LinkFault.TheVariants as link_faults
use Rattle.pec_network.specs.declared.faults.NotFit.{NotFit}
use Rattle.pec_network.specs.declared.faults.NotFit.TheVariants as unfits
use Rattle.pec_network.specs.declared.faults.RestartFault.{RestartFault}
use Rattle.pec_network.specs.declared.faults.RestartFault.TheVariants as restart_faults
use Rattle.pec_network.specs.OfProviders.{SwapFault}
use Rattle.pec_network.specs.OfProviders.swaps as swaps
use Rattle.pec_script.specs.Texts.{answer_text, fault_text}
use Rattle.pec_script.specs.declared.answers.Answer.{Answer}
use Rattle.pec_script.specs.declared.answers.Answer.TheVariants as answers
use Rattle.pec_script.specs.declared.answers.Unfit.{Unfit}
use Rattle.pec_script.specs.declared.answers.Unfit.TheVariants as told

abbrev pub IsRefusal : ProviderFault → Bytes → Type 0
IsRefusal faults.NoMemory text = ⊥
IsRefusal fault text = text ≡ fault_text fault

-- this answer where the call was done
abbrev pub IsLinkText : Answer → Result (Unit {0}) LinkFault → Bytes → Type 0
IsLinkText done (Ok x) text = text ≡ answer_text done
IsLinkText done (Err link_faults.NoFrame) text = text ≡ answer_text answers.NoFrame
IsLinkText done (Err link_faults.Full) text = text ≡ answer_text answers.LinkFull
IsLinkText done (Err link_faults.NoMemory) text = ⊥

-- why a journal isn't the provider's own, in the words of lines
abbrev pub unfit_told : NotFit → Unfit
unfit_told (unfits.Journal place) = told.Journal place
unfit_told (unfits.OtherDirectory kept given) = told.Directory kept given
unfit_told (unfits.BadEntry number) = told.Entry number

abbrev pub IsRestartText : Result ℕ RestartFault → Bytes → Type 0
IsRestartText (Ok entries) text = text ≡ answer_text (answers.Restarted entries)
IsRestartText (Err restart_faults.Up) text = text ≡ answer_text answers.Up
IsRestartText (Err restart_faults.DiskFault) text = text ≡ fault_text faults.DiskFault
IsRestartText (Err (restart_faults.NotFit why)) text = text ≡ answer_text (answers.BadJournal (unfit_told why))
IsRestartText (Err restart_faults.NoMemory) text = ⊥

abbrev pub IsSwapText : SwapFault → Bytes → Type 0
IsSwapText swaps.Down text = text ≡ fault_text faults.Down
IsSwapText swaps.NoSuchPlace text = text ≡ answer_text answers.NoScreen
