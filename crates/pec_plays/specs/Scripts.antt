-- Scripts: commands one after another, each with its luck (`script`), and which of them may come (`IsUnforged`). This
-- project's profile.
use Rattle.std.specs.Prelude.{◌≡◌, ℕ, ◌-◌, ◌<◌, ◌≤◌, List, [], ◌∷◌, length, slice_get, take, Option, Some, None}
use Rattle.pec_types.specs.Bytes.{Bytes}
use Rattle.pec_types.specs.declared.moments.TheConstants.{END_OF_TIME}
use Rattle.pec_screen.specs.Verdicts.{Patterns}
use Rattle.pec_records.specs.Entry.{most_addresses}
use Rattle.pec_ledger.specs.Guarantees.{NoReceiptMissing, NoticeByTheDay, OneDelivery, OneOutcome}
use Rattle.pec_ledger.specs.Network.{AreGenuine, frames_between, IsGenuine, Site, Sound, journals_of}
use Rattle.pec_ledger.specs.Trade.{Trade}
use Rattle.pec_plays.specs.Commands.{Answer, Archive, Command, Inject, Luck, Round, Screen, Screened, Submit, Tick, Upgrade, played}
use Rattle.pec_plays.specs.Rounds.{link_size, rounded}
use Rattle.pec_plays.specs.Turns.{Cut, Whole, Fails, Full, Stops, Unread, Other, Sees, frames_in}

-- What a script answers, and the state behind it.
pub record Told : Type 0 where
  pub answers : List Answer
  pub after : List Site

-- an answer before those of the commands that follow
abbrev pub onto : Answer → Told → Told
onto answer told = record { answers = answer ∷ told.answers; after = told.after }

-- The commands with their lucks; where there are no more lucks it stops.
abbrev pub script : Trade → List Luck → List Site → List Command → Told
script trade [] sites commands = record { answers = []; after = sites }
script trade (luck ∷ lucks) sites [] = record { answers = []; after = sites }
script trade (luck ∷ lucks) sites (command ∷ commands) =
    onto (played trade luck sites command).answer (script trade lucks (played trade luck sites command).after commands)

-- ---- spares

-- the spares that are left behind an answer: one is used where it told so
abbrev pub spares_behind : List Patterns → Answer → List Patterns
spares_behind spares Screened = take (length spares - 1) spares
spares_behind spares _ = spares

-- In a command another screen is the last spare, if one is left.
abbrev pub HandsIn : List Patterns → Command → Type 0
HandsIn spares (Screen provider place spare) = spare ≡ slice_get spares (length spares - 1)
HandsIn spares _ = Unit {0}

-- So it is in each command of a script that answers so.
abbrev pub AllHandIn : List Patterns → List Answer → List Command → Type 0
AllHandIn spares [] commands = Unit {0}
AllHandIn spares (answer ∷ answers) [] = Unit {0}
AllHandIn spares (answer ∷ answers) (command ∷ commands) =
    HandsIn spares command × AllHandIn (spares_behind spares answer) answers commands

-- ---- what may come

-- the frames that a turn puts in place of those that are due, where it puts others
abbrev pub put_instead : Cut → Option (List (List Bytes))
put_instead Whole = None
put_instead (Fails number fault) = None
put_instead (Full number) = None
put_instead (Stops number) = None
put_instead (Unread number fault) = None
put_instead (Other out) = Some out
put_instead (Sees looks cut) = put_instead cut

-- No frame that the turns of a round put in place of a due one is forged, in the journals behind the round.
abbrev pub PutsNoneForged : Trade → Luck → List Site → ℕ → Type 0
PutsNoneForged trade luck sites moment =
    (provider : ℕ) (out : List (List Bytes)) → provider < length sites → put_instead (luck.cuts provider) ≡ Some out
    → AreGenuine trade (journals_of (rounded trade moment luck.cuts sites).sites) (frames_in out)

-- A command may come: a moment is one that a clock tells, below END_OF_TIME, a path has 1 to 1,000 addresses, and no
-- forged frame is injected, or put in place of a due one. Where a message stands in an injected frame and opens, that
-- is the text of a licensed letter or of an item, as the command begins; all other frames are free.
abbrev pub IsUnforged : Trade → Luck → List Site → Command → Type 0
IsUnforged trade luck sites (Submit provider moment sender path message) =
    (0 < length path) × (length path ≤ most_addresses) × (moment < END_OF_TIME)
IsUnforged trade luck sites (Tick provider moment) = moment < END_OF_TIME
IsUnforged trade luck sites (Round moment) = (moment < END_OF_TIME) × PutsNoneForged trade luck sites moment
IsUnforged trade luck sites (Inject from to frame) = IsGenuine trade (journals_of sites) frame
IsUnforged trade luck sites (Archive address moment place) = moment < END_OF_TIME
IsUnforged trade luck sites (Upgrade provider moment) = moment < END_OF_TIME
IsUnforged trade luck sites _ = Unit {0}

-- Each command along a script may come.
abbrev pub AllUnforged : Trade → List Luck → List Site → List Command → Type 0
AllUnforged trade [] sites commands = Unit {0}
AllUnforged trade (luck ∷ lucks) sites [] = Unit {0}
AllUnforged trade (luck ∷ lucks) sites (command ∷ commands) =
    IsUnforged trade luck sites command × AllUnforged trade lucks (played trade luck sites command).after commands

-- The state is Sound before each command, and at the end.
abbrev pub SoundAlong : Trade → List Luck → List Site → List Command → Type 0
SoundAlong trade [] sites commands = Sound trade sites
SoundAlong trade (luck ∷ lucks) sites [] = Sound trade sites
SoundAlong trade (luck ∷ lucks) sites (command ∷ commands) =
    Sound trade sites × SoundAlong trade lucks (played trade luck sites command).after commands

-- What users get, in the journals of a state.
pub record Kept (trade : Trade) (sites : List Site) : Type 0 where
  pub one_outcome : OneOutcome trade (journals_of sites)
  pub one_delivery : OneDelivery trade (journals_of sites)
  pub no_receipt_missing : NoReceiptMissing trade (journals_of sites)
  pub notice_by_the_day : NoticeByTheDay trade (journals_of sites)

-- Users have it before each command of a script, so at each book that is shown, and at the end.
abbrev pub KeptAlong : Trade → List Luck → List Site → List Command → Type 0
KeptAlong trade [] sites commands = Kept trade sites
KeptAlong trade (luck ∷ lucks) sites [] = Kept trade sites
KeptAlong trade (luck ∷ lucks) sites (command ∷ commands) =
    Kept trade sites × KeptAlong trade lucks (played trade luck sites command).after commands

-- No link holds more than 64 frames.
abbrev pub LinksAreShort : List Site → Type 0
LinksAreShort sites = (from to : ℕ) → length (frames_between sites from to) ≤ link_size

-- No link does, before each command of a script and at the end.
abbrev pub ShortAlong : Trade → List Luck → List Site → List Command → Type 0
ShortAlong trade [] sites commands = LinksAreShort sites
ShortAlong trade (luck ∷ lucks) sites [] = LinksAreShort sites
ShortAlong trade (luck ∷ lucks) sites (command ∷ commands) =
    LinksAreShort sites × ShortAlong trade lucks (played trade luck sites command).after commands
