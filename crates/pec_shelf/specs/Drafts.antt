-- What is read in the bytes of an entry before it is prepared: `read_in`, facts of an accepted message, and the addresses
-- that a taken one names. In the bytes of no other entry anything is read. This project's profile.
use Rattle.std.specs.Prelude.{nat_le, Bool, false, ◌&&◌, length, Option, None, Some}
use Rattle.std.specs.Str.{bytes_eq}
use Rattle.pec_types.specs.Bytes.{Bytes}
use Rattle.pec_types.specs.declared.messages.Facts.{Facts}
use Rattle.pec_records.specs.Entry.{most_addresses}
use Rattle.pec_records.specs.declared.entries.Entry.{Entry}
use Rattle.pec_records.specs.declared.entries.Entry.TheVariants as entries
use Rattle.pec_ledger.specs.OfDirectory.{facts_in, recipients_named}
use Rattle.pec_shelf.specs.declared.drafts.Read.{Read}
use Rattle.pec_shelf.specs.declared.drafts.Read.TheVariants as reads

-- the facts of a message, where it has some
abbrev pub facts_read : Option Facts → Read
facts_read None = reads.Nothing
facts_read (Some facts) = reads.Facts facts

-- What is read in the bytes of an entry.
abbrev pub read_in : Entry → Read
read_in (entries.Accepted moment sender message) = facts_read (facts_in message)
read_in (entries.Took moment id message) = reads.Named (recipients_named message)
read_in _ = reads.Nothing

-- what was read are facts of this sender, with at most 1,000 recipients
abbrev pub is_from : Bytes → Read → Bool
is_from sender (reads.Facts facts) = bytes_eq facts.sender sender && nat_le (length facts.recipients) most_addresses
is_from sender _ = false
