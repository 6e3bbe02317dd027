-- What contracts see of this crate's private types.
use Rattle.std.specs.Prelude.{List, map}
use Rattle.pec_bodies.specs.Multiparts.{ReadPart}
use Rattle.pec_bodies.specs.PartsReading.{PlacedBytes}
use Rattle.pec_bodies.specs.declared.cutting.Whole.{Whole}
use Rattle.pec_bodies.specs.declared.entries.Entry.{Entry}

-- the bytes of a part and their place
abbrev pub whole_shown : Whole → PlacedBytes
whole_shown whole = record { start = whole.start; bytes = whole.bytes.now }

abbrev pub wholes_shown : List Whole → List PlacedBytes
wholes_shown wholes = map whole_shown wholes

-- a part with its head
abbrev pub entry_shown : Entry → ReadPart
entry_shown entry = record { start = entry.start; whole = entry.whole.now; head = entry.head; body = entry.body.now }

abbrev pub entries_shown : List Entry → List ReadPart
entries_shown entries = map entry_shown entries
