-- The brief form of a message as a function, which the code follows: `brief_of`. `BriefForm` says what it is, and the law
-- `a_message_has_one_brief_form` that it is the same.
use Rattle.std.specs.Prelude.{ℕ, nat_le, List, length, drop, if◌then◌else◌, Option, Some, None, Result, Ok, Err}
use Rattle.pec_types.specs.Bytes.{Bytes}
use Rattle.pec_heads.specs.Heads.{NamedValue}
use Rattle.pec_heads.specs.HeadReading.{read_of}
use Rattle.pec_heads.specs.declared.faults.HeadFault.{HeadFault}
use Rattle.pec_bodies.specs.Multiparts.{ReadPart}
use Rattle.pec_bodies.specs.PartsReading.{parts_of}
use Rattle.pec_bodies.specs.declared.faults.BodyFault.{BodyFault}
use Rattle.pec_brief.specs.BriefForm.{shortened}
use Rattle.pec_brief.specs.declared.TheConstants.{BRIEF_LIMIT}

-- the text, unless it is too long
unfoldable pub within_limit : Bytes → Option Bytes
within_limit text = if nat_le (length text) BRIEF_LIMIT then Some text else None

abbrev pub short_by : Bytes → ℕ → Result (List ReadPart) BodyFault → Option Bytes
short_by original place (Ok parts) = within_limit (shortened original place parts)
short_by original place (Err fault) = None

abbrev pub short_behind : Bytes → Result (List NamedValue × ℕ) HeadFault → Option Bytes
short_behind original (Ok read) = short_by original read.1 (parts_of read.0 (drop read.1 original))
short_behind original (Err fault) = None

-- the message with something in the place of each attachment, where it has parts and that isn't too long
unfoldable pub short_of : Bytes → Option Bytes
short_of original = short_behind original (read_of original)

-- what may be there, or else the message
abbrev pub or_whole : Bytes → Option Bytes → Bytes
or_whole original None = original
or_whole original (Some short) = short

-- The brief form of a message.
unfoldable pub brief_of : Bytes → Bytes
brief_of original = or_whole original (short_of original)
