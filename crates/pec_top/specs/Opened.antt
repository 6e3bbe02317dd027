-- What the journals of a directory's providers come to, as they are made or opened: `IsOpened`, that all are had; and
-- `IsUnopened`, how a run ends that hasn't all. This project's profile.
use Rattle.std.specs.Prelude.{◌≡◌, ◌≢◌, ◌⊎◌, ℕ, ◌<◌, ◌≤◌, ◌==◌, Bool, false, List, [], length, slice_get, Option, Some, None, option_map, MatchBool, if◌then◌else◌}
use Rattle.pec_types.specs.Bytes.{Bytes}
use Rattle.pec_outside.specs.DiskModel.{Sight}
use Rattle.pec_directory.specs.Directory.{Kept, Provider, providers_of}
use Rattle.pec_ledger.specs.Network.{Site}
use Rattle.pec_ledger.specs.Trade.{Trade}
use Rattle.pec_runs.specs.Endings.{end_text}
use Rattle.pec_runs.specs.Endings as ends
use Rattle.pec_runs.specs.Happened.{IsSetting, Setting, trade_in}
use Rattle.pec_runs.specs.Openings.{AreLeft, AreUntouched, Disks, IsOpening, Next, NoMore, Holds, Unfits, Fails, Stops}
use Rattle.pec_runs.specs.Openings.{Opening, disks_at, next_of, opened_all}
use Rattle.pec_runs.specs.Openings as runs
use Rattle.pec_runs.specs.Plays.{Finish}
use Rattle.pec_runs.specs.Plays as plays
use Rattle.pec_runs.specs.Through.{AreHadFrom}
use Rattle.pec_script.specs.declared.answers.Unfit.{Unfit}
use Rattle.pec_service.specs.Runs.{IsChosen, IsLookedAt, finish_at}
use Rattle.pec_serving.specs.OfNetworks.{AllStand, ChronicleState, NetworkState, ProviderState, StartFault, counts_in}
use Rattle.pec_serving.specs.OfNetworks.{journals_had, sites, world_of}
use Rattle.pec_serving.specs.OfNetworks.faults as faults
use Rattle.pec_serving.specs.OfNetworks.reasons as reasons
use Rattle.pec_screen.specs.Verdicts.{Patterns}
use Rattle.pec_seal.specs.Seals.{Seals}
use Rattle.pec_top.specs.Scripts.{AreKept}
use Rattle.pec_top.specs.Shown.{form_shown, unfit_of}
use Rattle.pec_top.specs.declared.opening.Journals.{Journals}
use Rattle.pec_top.specs.declared.opening.Journals.TheVariants as journals
use Rattle.pec_top.specs.declared.opening.Refusal.{Refusal}
use Rattle.pec_top.specs.declared.opening.Refusal.TheVariants as refusals

-- in which form journals are had: as it was said, or as so many disks were found
abbrev pub IsFormOf : Disks → ℕ → Journals → runs.Form → Type 0
IsFormOf disks count (journals.As way) form = form ≡ form_shown way
IsFormOf disks count journals.Chosen form = IsChosen disks count form

-- the disks of providers of a network, by number
abbrev pub disks_of : {D : Type 0} → List (ProviderState D) → ℕ → Option D
disks_of {D} providers number =
    option_map (λ (one : ChronicleState D). one.disk)
    (option_map (λ (provider : ProviderState D). provider.chronicle) (slice_get providers number))

-- ---- all are had

module _ {D S : Type 0} (tells reads : Type 0) (sight : D → Sight) (seals : S → Seals) (count : D → ℕ)
    (screens : List (List Patterns)) where
  -- A network has these screens, and its journals from the disks that were at home, and its disks are out; these are
  -- left there. Its counts of faults rose from those that disks last had at home.
  pub record IsOpened (how : Journals) (home left : ℕ → Option D) (last later : ℕ → ℕ) (network : NetworkState D S)
      : Type 0 where
    pub form : runs.Form
    pub is_form : IsFormOf (disks_at (tells × reads) sight home) (length network.kept) how form
    pub setting : IsSetting (providers_of network.kept) (record { kept = network.kept; seals = seals network.sealer })
    pub opening : IsOpening (world_of seals network) (disks_at (tells × reads) sight home) form
        (record { journals = journals_had network.providers; next = NoMore })
    pub begins : sites network ≡ opened_all (world_of seals network) screens (journals_had network.providers)
    pub stands : tells × reads → AllStand sight network.providers
    -- what each disk went through
    pub had : AreHadFrom sight (tells × reads) form (world_of seals network) home (disks_of network.providers)
    pub counts : (provider : ℕ) → last provider ≤ counts_in count network.providers later provider
    -- Once its disks are kept again in some state, the disks are those that the opening leaves in that state.
    pub leaves : (state after : List Site) (new : ℕ → Option D) → (tells × reads → after ≡ state)
        → AreKept (tells × reads) sight (length network.kept) state left new
        → AreLeft (disks_at (tells × reads) sight home) (disks_at (tells × reads) sight new) form
        (record { journals = journals_had network.providers; next = NoMore }) after
    -- Disks that are no provider's stay at home.
    pub apart : tells → (provider : ℕ) → length network.kept ≤ provider → left provider ≡ home provider

-- ---- not all are had

-- what came of the disk of the next provider
abbrev pub next_by : StartFault → Next
next_by (faults.NotEmpty number) = Holds
next_by (faults.DiskFault number) = Fails
next_by (faults.NotFit number why) = Unfits (unfit_of why)
next_by faults.NoMemory = Stops

-- the number of the provider that a refusal names; without one, this
abbrev pub provider_named : ℕ → StartFault → ℕ
provider_named other (faults.NotEmpty number) = number
provider_named other (faults.DiskFault number) = number
provider_named other (faults.NotFit number why) = number
provider_named other faults.NoMemory = other

-- How a run finishes that is refused so.
abbrev pub Finishes : List Provider → Refusal → Finish → Type 0
Finishes providers (refusals.NotEmpty text) finish =
    (number : ℕ) × (finish ≡ plays.Ends (ends.NotEmpty number)) × (text.items ≡ end_text providers (ends.NotEmpty number))
Finishes providers (refusals.NotFit text) finish =
    (number : ℕ) × (unfit : Unfit) × (finish ≡ plays.Ends (ends.NotFit number unfit))
    × (text.items ≡ end_text providers (ends.NotFit number unfit))
Finishes providers refusals.StartFault finish = finish ≡ plays.Fails
Finishes providers refusals.NoMemory finish = finish ≡ plays.Stops

-- the provider whose disk doesn't begin as a journal does, where that is the fault
abbrev pub headless_of : StartFault → Option ℕ
headless_of (faults.NotFit number (reasons.Journal place)) = if place == 0 then Some number else None
headless_of _ = None

-- the provider whose disk is looked at again; only a choice among disks does that
abbrev pub asked_again : Journals → StartFault → Option ℕ
asked_again (journals.As way) fault = None
asked_again journals.Chosen fault = headless_of fault

-- A disk that was looked at again holds something, or nothing; one that wasn't isn't held to hold anything.
abbrev pub IsLookedAgain : Option ℕ → Disks → Bool → Type 0
IsLookedAgain None disks holds = holds ≡ false
IsLookedAgain (Some number) disks holds =
    (bytes : Bytes) → disks.reads number bytes → MatchBool holds (0 < length bytes) (bytes ≡ [])

abbrev pub IsUnfit : StartFault → Type 0
IsUnfit (faults.NotFit number why) = Unit {0}
IsUnfit _ = ⊥

-- what came of the next disk: what the fault says; or memory ran out; or it couldn't be looked at again
abbrev pub Came : StartFault → Next → Type 0
Came fault next = ((next ≡ next_by fault) ⊎ (next ≡ Stops)) ⊎ ((next ≡ Fails) × IsUnfit fault)

-- A choice among disks may find that one holds something; nothing else looks.
abbrev pub MayHold : Journals → Disks → ℕ → Bool → Next → Type 0
MayHold (journals.As way) disks number holds next = holds ≡ false
MayHold journals.Chosen disks number holds next = IsLookedAt disks number holds next

-- The run is refused for this fault, with these disks at home.
pub record IsRefusedSo (how : Journals) (providers : List Provider) (fault : StartFault) (disks : Disks) (refusal : Refusal)
    : Type 0 where
  pub holds : Bool
  pub next : Next
  pub is_next : Came fault next
  pub may_hold : (other : ℕ) → MayHold how disks (provider_named other fault) holds next
  pub finishes : (other : ℕ) → Finishes providers refusal (finish_at holds (provider_named other fault) next)

-- A disk came to nothing, behind those whose journals were had. `Went` says what disks went through.
pub record IsRefusedAt (how : Journals) (screens : List (List Patterns)) (setting : Setting) (providers : List Provider)
    (old new : Disks) (Went : runs.Form → Trade → Type 0) (refusal : Refusal) : Type 0 where
  pub form : runs.Form
  pub is_form : IsFormOf old (length setting.kept) how form
  pub is_setting : IsSetting providers setting
  pub opening : Opening
  pub some : opening.next ≢ NoMore
  pub holds : Bool
  pub may_hold : MayHold how old (next_of opening) holds opening.next
  pub is_opening : IsOpening (trade_in setting) old form opening
  pub left : AreLeft old new form opening (opened_all (trade_in setting) screens opening.journals)
  pub went : Went form (trade_in setting)
  pub finishes : Finishes providers refusal (finish_at holds (next_of opening) opening.next)

-- Not all journals are had: memory ran out before a disk was asked for; or, where it was to be chosen, a disk couldn't be
-- looked at; or one came to nothing. Only in the last case was something written, if at all.
pub data IsUnopened (how : Journals) (screens : List (List Patterns)) (kept : List Kept) (old new : Disks)
    (Went : runs.Form → Trade → Type 0) (refusal : Refusal) : Type 0 where
  Halted : refusal ≡ refusals.NoMemory → AreUntouched old new → ((trade : Trade) → Went runs.Resume trade)
      → IsUnopened how screens kept old new Went refusal
  Unlooked : (seals : Seals) → how ≡ journals.Chosen → refusal ≡ refusals.StartFault
      → IsSetting (providers_of kept) (record { kept = kept; seals = seals })
      → AreUntouched old new → ((trade : Trade) → Went runs.Resume trade) → IsUnopened how screens kept old new Went refusal
  Refused : (seals : Seals)
      → IsRefusedAt how screens (record { kept = kept; seals = seals }) (providers_of kept) old new Went refusal
      → IsUnopened how screens kept old new Went refusal
