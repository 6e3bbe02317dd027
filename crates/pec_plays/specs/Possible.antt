-- Which lucks can be: how a turn may be cut (`MayCut`), what a command may meet (`MayMeet`), when no device failed in
-- it (`IsQuiet`), and when each read gave what was kept (`GaveWhatWasKept`). This project's profile.
use Rattle.std.specs.Prelude.{◌≡◌, ◌⊎◌, ℕ, zero, suc, ◌+◌, ◌<◌, nat_lt, Bool, false, true, List, [], ◌∷◌, length, take, slice_get, All, IfSome, IsSome, IsTrue, Option, Some, None, if◌then◌else◌}
use Rattle.pec_types.specs.Bytes.{Bytes}
use Rattle.pec_types.specs.Message.{Id}
use Rattle.pec_types.specs.declared.messages.Decision.{Decision}
use Rattle.pec_types.specs.declared.turns.ProviderFault.{ProviderFault}
use Rattle.pec_types.specs.declared.turns.ProviderFault.TheVariants as faults
use Rattle.pec_records.specs.declared.entries.Entry.TheVariants as entries
use Rattle.pec_ledger.specs.Network.{Site, interrupted_at, site_at}
use Rattle.pec_ledger.specs.Trade.{Trade}
use Rattle.pec_plays.specs.Commands.{Command, Luck, Round, Show, VaultShow, played}
use Rattle.pec_plays.specs.Steps.{Step}
use Rattle.pec_plays.specs.Turns.{Cut, Whole, Fails, Full, Stops, Unread, Other, Sees, entry_at, last_of, steps_of}

-- The journal has room for the entries of all these steps.
abbrev pub HaveRoom : List Step → Type 0
HaveRoom steps = All (λ (step : Step). step.full ≡ false) steps

-- The journal has room for the entries of the first steps, and not for that of the step of a number.
pub record IsFull (steps : List Step) (number : ℕ) : Type 0 where
  pub before : HaveRoom (take number steps)
  pub step : Step
  pub there : slice_get steps number ≡ Some step
  pub full : step.full ≡ true

-- A fault by which a read of an entry fails: the disk's, or that what it gave back isn't what is needed.
abbrev pub IsOfRead : ProviderFault → Type 0
IsOfRead faults.DiskFault = Unit {0}
IsOfRead (faults.Changed entry) = Unit {0}
IsOfRead _ = ⊥

-- A call of the disk may fail so: the append of a step with an entry, or a read behind all steps.
abbrev pub MayFail : List Step → ℕ → ProviderFault → Type 0
MayFail steps number fault =
    ((fault ≡ faults.DiskFault) × IsSome (entry_at steps number)) ⊎ ((number ≡ length steps) × IsOfRead fault)

-- The step of a number decides a pair whose recipient is an account of the provider: before it does, its screens look
-- at the message.
pub record IsLookedAt (trade : Trade) (provider : ℕ) (steps : List Step) (number : ℕ) : Type 0 where
  pub moment : ℕ
  pub id : Id
  pub recipient : Bytes
  pub decision : Decision
  pub there : entry_at steps number ≡ Some (entries.Decided moment id recipient decision)
  pub account : IsTrue (trade.is_account provider recipient)

-- A turn of a provider that was planned so may be cut so: it is done whole, and a read for a letter fails, only where
-- there is room for all entries; an append fails only at a step with an entry, for which there is room; the journal is
-- full at the first step for which it has no room; memory runs out before some step that there would have been room to
-- reach; and the read of an envelope fails before such a step for which screens look at it.
abbrev pub MayCut : Trade → ℕ → List Step → Cut → Type 0
MayCut trade provider steps Whole = HaveRoom steps
MayCut trade provider steps (Fails number fault) = HaveRoom (take (number + 1) steps) × MayFail steps number fault
MayCut trade provider steps (Full number) = IsFull steps number
MayCut trade provider steps (Stops number) = HaveRoom (take number steps) × (number < length steps)
MayCut trade provider steps (Unread number fault) =
    HaveRoom (take number steps) × IsOfRead fault × IsLookedAt trade provider steps number
MayCut trade provider steps (Other out) = HaveRoom steps
MayCut trade provider steps (Sees looks cut) = MayCut trade provider steps cut

-- A command may meet such a luck: the turns of a round that begin may be cut so, and the read of an item fails as reads
-- do.
abbrev pub MayMeet : Trade → Luck → List Site → Command → Type 0
MayMeet trade luck sites (Round now) =
    (provider : ℕ) → provider < length sites → (site_at sites provider).up ≡ true
    → nat_lt now (last_of trade provider (site_at sites provider).journal) ≡ false
    → MayCut trade provider (steps_of trade provider now (site_at sites provider) (luck.cuts provider)) (luck.cuts provider)
MayMeet trade luck sites (Show address place) = IfSome luck.read IsOfRead
MayMeet trade luck sites (VaultShow address place) = IfSome luck.read IsOfRead
MayMeet trade luck sites _ = Unit {0}

-- no call of a disk failed, none gave back other bytes, and no memory was missing
abbrev pub IsCalm : Cut → Type 0
IsCalm Whole = Unit {0}
IsCalm (Fails number fault) = ⊥
IsCalm (Full number) = Unit {0}
IsCalm (Stops number) = ⊥
IsCalm (Unread number fault) = ⊥
IsCalm (Other out) = ⊥
IsCalm (Sees looks cut) = ⊥

-- No device failed in a command, and none gave back other bytes than it took.
pub record IsQuiet (luck : Luck) : Type 0 where
  pub cuts : (provider : ℕ) → IsCalm (luck.cuts provider)
  pub works : luck.fails ≡ false
  pub reads : luck.read ≡ None
  pub shows : luck.shown ≡ None

-- what was read is what was kept, or the read failed, as reads do
abbrev pub IsOfKept : Cut → Type 0
IsOfKept Whole = Unit {0}
IsOfKept (Fails number fault) = IsOfRead fault
IsOfKept (Full number) = Unit {0}
IsOfKept (Stops number) = Unit {0}
IsOfKept (Unread number fault) = IsOfRead fault
IsOfKept (Other out) = ⊥
IsOfKept (Sees looks cut) = ⊥

-- So it is in each turn of a command: no frame was put in place of one that is due, and screens looked at no message in
-- place of one that was taken.
abbrev pub GaveWhatWasKept : Luck → Type 0
GaveWhatWasKept luck = (provider : ℕ) → IsOfKept (luck.cuts provider)

-- no read failed before a decision
abbrev pub is_looked : Cut → Bool
is_looked Whole = true
is_looked (Fails number fault) = true
is_looked (Full number) = true
is_looked (Stops number) = true
is_looked (Unread number fault) = false
is_looked (Other out) = true
is_looked (Sees looks cut) = is_looked cut

-- In the turns of a command a read before a decision failed with one luck where one did with the other.
abbrev pub ReadAlike : Luck → Luck → Type 0
ReadAlike luck other = (provider : ℕ) → is_looked (luck.cuts provider) ≡ is_looked (other.cuts provider)

-- So it is in each command of a script.
abbrev pub AllReadAlike : List Luck → List Luck → Type 0
AllReadAlike [] others = Unit {0}
AllReadAlike (luck ∷ lucks) [] = Unit {0}
AllReadAlike (luck ∷ lucks) (other ∷ others) = ReadAlike luck other × AllReadAlike lucks others

-- No provider has an interrupted entry.
abbrev pub NoneInterrupted : List Site → Type 0
NoneInterrupted sites = (provider : ℕ) → interrupted_at sites provider ≡ None

-- The commands of a script may meet these lucks, and no device failed in any of them.
abbrev pub AllQuiet : Trade → List Luck → List Site → List Command → Type 0
AllQuiet trade [] sites commands = Unit {0}
AllQuiet trade (luck ∷ lucks) sites [] = Unit {0}
AllQuiet trade (luck ∷ lucks) sites (command ∷ commands) =
    MayMeet trade luck sites command × IsQuiet luck × AllQuiet trade lucks (played trade luck sites command).after commands

-- ---- the cut that an answer tells

-- by how the turn ended, and of how many steps it told; a turn that didn't begin tells no cut
abbrev pub cut_by : Option ProviderFault → ℕ → Cut
cut_by (Some faults.DiskFault) told = Fails told faults.DiskFault
cut_by (Some (faults.Changed entry)) told = Fails told (faults.Changed entry)
cut_by (Some faults.JournalFull) told = Full told
cut_by (Some faults.NoMemory) told = Stops told
cut_by _ told = Whole

-- A turn that ended so and told of so many steps was cut so: as it tells, or it ended well and put other frames. A read
-- that failed before a decision is told as an append that failed there, and what screens looked at isn't told.
abbrev pub TellsCut : Option ProviderFault → ℕ → Cut → Type 0
TellsCut ended told Whole = Whole ≡ cut_by ended told
TellsCut ended told (Fails number fault) = Fails number fault ≡ cut_by ended told
TellsCut ended told (Full number) = Full number ≡ cut_by ended told
TellsCut ended told (Stops number) = Stops number ≡ cut_by ended told
TellsCut ended told (Unread number fault) = Fails number fault ≡ cut_by ended told
TellsCut ended told (Other out) = ended ≡ None
TellsCut ended told (Sees looks cut) = TellsCut ended told cut

-- a cut as the answer tells it, but for other bytes, of which it tells nothing
abbrev pub as_told : Cut → Cut
as_told Whole = Whole
as_told (Fails number fault) = Fails number fault
as_told (Full number) = Full number
as_told (Stops number) = Stops number
as_told (Unread number fault) = Fails number fault
as_told (Other out) = Whole
as_told (Sees looks cut) = as_told cut

-- ---- the cut of a quiet turn

-- as the cut of the steps behind the first
abbrev pub later_cut : Cut → Cut
later_cut Whole = Whole
later_cut (Fails number fault) = Fails (suc number) fault
later_cut (Full number) = Full (suc number)
later_cut (Stops number) = Stops (suc number)
later_cut (Unread number fault) = Unread (suc number) fault
later_cut (Other out) = Other out
later_cut (Sees looks cut) = Sees looks (later_cut cut)

-- A turn without faults is done whole, or ends at the first step for which the journal has no room.
abbrev pub quiet_cut : List Step → Cut
quiet_cut [] = Whole
quiet_cut (step ∷ steps) = if step.full then Full zero else later_cut (quiet_cut steps)

-- A luck without faults, for a command.
abbrev pub quiet_luck : Trade → List Site → Command → Luck
quiet_luck trade sites (Round now) = record {
  cuts = λ provider. quiet_cut (steps_of trade provider now (site_at sites provider) Whole);
  fails = false;
  found = false;
  read = None;
  shown = None;
}
quiet_luck trade sites _ = record { cuts = λ provider. Whole; fails = false; found = false; read = None; shown = None }

-- Lucks without faults, one for each command of a script.
abbrev pub quiet_lucks : Trade → List Site → List Command → List Luck
quiet_lucks trade sites [] = []
quiet_lucks trade sites (command ∷ commands) =
    quiet_luck trade sites command ∷ quiet_lucks trade (played trade (quiet_luck trade sites command) sites command).after commands
