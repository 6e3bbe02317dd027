-- An entry as the bytes that it is in a journal. This project's profile.
use Rattle.std.specs.Prelude.{Result, Ok, Err}
use Rattle.pec_types.specs.Bytes.{Bytes}
use Rattle.pec_records.specs.declared.entries.Entry.{Entry}
use Rattle.pec_records.specs.declared.entries.Entry.TheVariants as entries
use Rattle.pec_records.specs.declared.faults.EntryFault.{EntryFault}
use Rattle.pec_records.specs.EntryReading.{entry_of}

-- the entry that was told, or any where none was
abbrev pub entry_in : Result Entry EntryFault → Entry
entry_in (Ok entry) = entry
entry_in (Err fault) = entries.Ticked 0

-- the entry that bytes are, or any where they are none
unfoldable pub told_entry : Bytes → Entry
told_entry bytes = entry_in (entry_of bytes)
