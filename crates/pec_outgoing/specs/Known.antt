-- Which addresses are known while recipients are gathered, each once.
use Rattle.std.specs.Prelude.{Bool, true, List, map}
use Rattle.pec_types.specs.declared.messages.Recipient.{Recipient}
use Rattle.pec_index.specs.Entries.{Entries, Finds, Key}

-- a recipient's address, as an index has it
abbrev pub key_of : Recipient → Key × Bool
key_of recipient = (recipient.address, true)

-- The index has exactly the addresses of these recipients.
abbrev pub AreKnown : Entries Bool → List Recipient → Type 0
AreKnown known all = Finds known (map key_of all)
