-- What a desk may answer: `Answers`. A desk is a mail provider's, at which its accounts hand messages in and look at what
-- is theirs. This project's profile.
use Rattle.std.specs.Prelude.{ℕ, ◌≤◌, Bool, Result, ⊤}
use Rattle.pec_types.specs.Bytes.{Bytes, Path}
use Rattle.pec_types.specs.declared.turns.ProviderFault.{ProviderFault}
use Rattle.pec_types.specs.declared.turns.ProviderFault.TheVariants as faults
use Rattle.pec_types.specs.declared.turns.Submitted.{Submitted}
use Rattle.pec_http.specs.declared.passes.Pass.{Pass}
use Rattle.pec_http.specs.declared.passes.Pass.TheVariants as passes

-- What a desk answers in a state. Where it has a choice, the member says which answers it may give.
pub record Answers (Desk : Type 0) : Type 1 where
  -- which addresses are accounts
  pub is_account : Desk → Bytes → Bool
  -- what it says of an address and a key
  pub pass : Desk → Bytes → Bytes → Pass
  -- the first domain of an account's provider
  pub domain : Desk → Bytes → Bytes
  -- the count of faults of an address
  pub faults : Desk → Bytes → ℕ
  -- to an account that submits a message for a path it may give this answer, and be in this state then
  pub submit : Desk → Bytes → Path → Bytes → Result Submitted ProviderFault → Desk → Type 0
  -- it may give this as the lines of an account's book
  pub book : Desk → Bytes → Result Bytes ProviderFault → Type 0
  -- and this as the lines of its mailbox
  pub items : Desk → Bytes → Result Bytes ProviderFault → Type 0
  -- and this as the item at a place of it, which is read from a disk, and be in this state then
  pub item : Desk → Bytes → ℕ → Result Bytes ProviderFault → Desk → Type 0

-- No provider takes messages of more than 30 MiB.
abbrev pub IsWithinLimit : Pass → Type 0
IsWithinLimit (passes.Admitted limit) = limit ≤ 31457280
IsWithinLimit _ = ⊤

-- The refusals of a submission, for which nothing is read from a disk.
abbrev pub IsSubmitFault : ProviderFault → Type 0
IsSubmitFault faults.NoAccount = ⊥
IsSubmitFault faults.NoItem = ⊥
IsSubmitFault faults.OldJournal = ⊥
IsSubmitFault faults.NoNeed = ⊥
IsSubmitFault (faults.Changed entry) = ⊥
IsSubmitFault _ = ⊤

-- Those of a book and of a mailbox.
abbrev pub IsLookFault : ProviderFault → Type 0
IsLookFault faults.Down = ⊤
IsLookFault faults.NoMemory = ⊤
IsLookFault _ = ⊥

-- Those of an item: it may not be there, the disk may fail, or give back another entry than it took.
abbrev pub IsItemFault : ProviderFault → Type 0
IsItemFault faults.NoItem = ⊤
IsItemFault faults.DiskFault = ⊤
IsItemFault (faults.Changed entry) = ⊤
IsItemFault fault = IsLookFault fault
