-- Lemmas on one entry: how it is kept as its bytes, and that its lists can be counted where it is within the limits.
use Rattle.std.proofs.Common.{◌≡◌, ap, arith}
use Rattle.pec_types.specs.Answers.{TellsExactly}
use Rattle.pec_types.specs.Bytes.{Bytes}
use Rattle.pec_records.specs.declared.entries.Entry.{Entry}
use Rattle.pec_records.specs.declared.entries.Entry.TheVariants as entries
use Rattle.pec_records.specs.EntryReading.{entry_of}
use Rattle.pec_records.specs.Entry.{IsEntry, IsEntryFault, HasCounts, IsWithinLimits}
use Rattle.pec_chronicle.specs.Encoding.{entry_in, told_entry}

-- ---- how an entry is kept

-- bytes that are an entry are told as that one
pub told_is : (entry : Entry) (bytes : Bytes) → TellsExactly (λ e. IsEntry e bytes) (IsEntryFault bytes) (entry_of bytes) → IsEntry entry bytes
    → told_entry bytes ≡ entry
unfolding told_entry
told_is entry bytes tells is = ap entry_in ((tells.value entry).1 is)

-- ---- limits

-- lists within the limits can be counted
pub counts_within : (entry : Entry) → IsWithinLimits entry → HasCounts entry
counts_within (entries.Start provider digest) within = tt
counts_within (entries.Accepted moment sender message) within = omega (arith, within)
counts_within (entries.NotAccepted moment sender cause path message) within = (omega (arith, within.0), omega (arith, within.1))
counts_within (entries.Took moment id message) within = omega (arith, within)
counts_within (entries.Decided moment id recipient decision) within = tt
counts_within (entries.Charged moment id by) within = tt
counts_within (entries.Learned moment id recipient decision decided message) within = omega (arith, within)
counts_within (entries.Acked moment id recipient) within = tt
counts_within (entries.Ticked moment) within = tt
counts_within (entries.Anomaly moment accounts message) within = (omega (arith, within.0), omega (arith, within.1))
counts_within (entries.StartTwo provider digest) within = tt
counts_within (entries.Upgraded moment) within = tt
counts_within (entries.Archived moment account place) within = tt
