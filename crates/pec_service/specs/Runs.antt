-- A run of the program that serves connections, from what went in to what came out: `ServiceRan`, one record with one
-- witness, what happened. It says what was written, with which status, what the counts of faults have to do with it, what
-- clock and door gave, and what the disks hold in the end. Nothing here presumes that journals fit; that stands in laws. This
-- project's profile.
use Rattle.std.specs.Prelude.{◌≡◌, ℕ, ◌+◌, ◌<◌, ◌≤◌, ◌==◌, nat_lt, Bool, true, false, ◌&&◌, List, [], ◌∷◌, length, codes, Option, Some, None, Result, Ok, Err, IfSome, MatchBool, if◌then◌else◌}
use Rattle.std.specs.Str.{bytes_eq}
use Rattle.pec_types.specs.Bytes.{Bytes}
use Rattle.pec_types.specs.Options.{◌>>=◌}
use Rattle.pec_outside.specs.DiskModel.{Sight}
use Rattle.pec_outside.specs.Doors.{Reply as ToldReply}
use Rattle.pec_outside.specs.Flow.{HasRisen, WrotePart, followed_by}
use Rattle.pec_directory.specs.Directory.{Provider}
use Rattle.pec_words.specs.Numbers.{number_below}
use Rattle.pec_input.specs.Directory.{Refusal, directory_in}
use Rattle.pec_input.specs.declared.opening.TheConstants.{LONGEST_DIRECTORY}
use Rattle.pec_records.specs.declared.entries.Entry.{Entry}
use Rattle.pec_ledger.specs.Network.{Site}
use Rattle.pec_ledger.specs.Trade.{Trade}
use Rattle.pec_screen.specs.Verdicts.{Patterns}
use Rattle.pec_script.specs.declared.answers.Unfit.{Unfit}
use Rattle.pec_script.specs.declared.answers.Unfit.TheVariants as unfits
use Rattle.pec_runs.specs.Endings.{End, end_text}
use Rattle.pec_runs.specs.Endings as ends
use Rattle.pec_runs.specs.Happened.{IsSetting, Setting, providers_in, trade_in}
use Rattle.pec_runs.specs.Openings.{AreLeft, AreUntouched, Disks, Form, Run, Resume, IsOpening, Next, NoMore, Holds, Unfits, Fails, Stops, Opening, disks_at, next_of, opened_all}
use Rattle.pec_runs.specs.Plays.{Finish, finish_text}
use Rattle.pec_runs.specs.Plays as plays
use Rattle.pec_runs.specs.Ran.{Counts, TellsAs, WritesAt}
use Rattle.pec_runs.specs.Ran as runs
use Rattle.pec_runs.specs.Statuses.{Status}
use Rattle.pec_runs.specs.Transcripts.{StoodStill}
use Rattle.pec_runs.specs.Transcripts as transcripts
use Rattle.pec_runs.specs.Statuses as statuses
use Rattle.pec_service.specs.Calls.{State}
use Rattle.pec_service.specs.Connections.{Place}
use Rattle.pec_service.specs.Services.{AllServed, Ending, Halted, IsService, NoConnection, NoMoment, Service, service_text}

-- ---- words

-- how many connections may be asked for
abbrev pub most_connections : ℕ
most_connections = 1000000

abbrev pub but_for_none : ℕ → Option ℕ
but_for_none number = if number == 0 then None else Some number

abbrev pub number_wanted : Bytes → Option ℕ
number_wanted number = number_below (most_connections + 1) number >>= but_for_none

-- How many connections the words ask for: `serve N`, where N is a number from 1 on.
abbrev pub wanted_in : List Bytes → Option ℕ
wanted_in (word ∷ number ∷ []) =
    if bytes_eq word (codes "serve") then number_wanted number else None
wanted_in _ = None

-- ---- what happened

-- What a run that serves is asked beside its input: how many connections; and the patterns of the screens of its providers,
-- a list of boxes for each from 0 on. A provider past the lists has no screens.
pub record Asked : Type 0 where
  pub wanted : ℕ
  pub screens : List (List Patterns)

-- What came of the disks, and who was served.
pub record Course : Type 0 where
  pub opening : Opening
  pub holds : Bool  -- whether the disk that came to nothing holds something
  pub service : Service  -- where all journals were had

pub record Happened : Type 0 where
  pub directory : Bytes  -- the input, to its end
  pub early : Bool  -- it was stopped before a disk was asked for
  pub setting : Setting
  pub form : Option Form  -- journals are made or opened; none where a disk couldn't be looked at
  pub course : Course

-- How far it comes without its disks: it ends; it is stopped; or it begins.
pub data Stage : Type 0 where
  Over : (end : End) → Stage
  Halts : Stage
  Begins : Stage

abbrev pub by_directory : Result (List Provider) Refusal → Stage
by_directory (Err why) = Over (ends.DirectoryRefused why)
by_directory (Ok providers) = Begins

-- The directory's length first, then the directory itself.
unfoldable pub stage_of : Bool → Bytes → Stage
stage_of early directory =
    if early then Halts
    else (if nat_lt LONGEST_DIRECTORY (length directory) then Over ends.LongDirectory
    else by_directory (directory_in directory))

-- ---- clock and door

-- A clock and a door, as far as they tell: the moments to come, what the connections to come have to be read, and the
-- replies so far.
pub record Outside : Type 0 where
  pub moments : Option (List ℕ)
  pub requests : Option (List Bytes)
  pub replies : Option (List ToldReply)

-- ---- counts of faults

-- those of input, output, depot and disks; of the clock; and of the door
pub record AllCounts : Type 0 where
  pub devices : Counts
  pub clock : ℕ
  pub door : ℕ

-- no count fell
pub record NoneFell (old new : AllCounts) : Type 0 where
  pub devices : runs.NoneFell old.devices new.devices
  pub clock : old.clock ≤ new.clock
  pub door : old.door ≤ new.door

-- A status that blames a device comes only where its count rose.
abbrev pub Blames : Status → AllCounts → AllCounts → Type 0
Blames statuses.ClockFault old new = HasRisen old.clock new.clock
Blames statuses.DoorFault old new = HasRisen old.door new.door
Blames status old new = runs.Blames status old.devices new.devices

-- ---- journals

-- The disks were looked at, so many of them: journals are made where all are empty, and opened where one holds something.
abbrev pub IsChosen : Disks → ℕ → Form → Type 0
IsChosen disks count Run =
    (provider : ℕ) → provider < count → (bytes : Bytes) → disks.reads provider bytes → bytes ≡ []
IsChosen disks count Resume =
    (provider : ℕ) × (provider < count) × ((bytes : Bytes) → disks.reads provider bytes → 0 < length bytes)

-- the bytes of a disk don't begin as a journal does
abbrev pub is_headless : Unfit → Bool
is_headless (unfits.Journal place) = place == 0
is_headless _ = false

-- It was looked whether a disk without a journal's header holds something.
abbrev pub IsLookedAt : Disks → ℕ → Bool → Next → Type 0
IsLookedAt disks number holds (Unfits unfit) =
    is_headless unfit ≡ true → (bytes : Bytes) → disks.reads number bytes → MatchBool holds (0 < length bytes) (bytes ≡ [])
IsLookedAt disks number holds _ = Unit {0}

-- A disk that holds something and doesn't begin as a journal does isn't empty; any other that isn't the provider's journal
-- doesn't fit.
abbrev pub unfit_end : Bool → ℕ → Unfit → End
unfit_end holds number unfit = if holds && is_headless unfit then ends.NotEmpty number else ends.NotFit number unfit

-- how a run finishes for which a disk came to this
abbrev pub finish_at : Bool → ℕ → Next → Finish
finish_at holds number NoMore = plays.Stops
finish_at holds number Holds = plays.Ends (ends.NotEmpty number)
finish_at holds number (Unfits unfit) = plays.Ends (unfit_end holds number unfit)
finish_at holds number Fails = plays.Fails
finish_at holds number Stops = plays.Stops

-- ---- what is told

-- the status of a service that ended so; one that halted is blamed on the output or on memory
abbrev pub status_at : Ending → Option Status
status_at AllServed = Some statuses.Done
status_at NoConnection = Some statuses.DoorFault
status_at NoMoment = Some statuses.ClockFault
status_at Halted = None

-- Only where the sink failed a front of the service's lines was written; else all of them.
abbrev pub TellsService : Status → (before after : Option Bytes) → Bytes → Ending → Type 0
TellsService statuses.WriteFault before after text ending = (ending ≡ Halted) × WrotePart before after text
TellsService statuses.NoMemory before after text ending = (ending ≡ Halted) × (after ≡ followed_by before text)
TellsService status before after text ending = (status_at ending ≡ Some status) × (after ≡ followed_by before text)

-- ---- the run

-- the world in which it plays
abbrev pub world : Happened → Trade
world happened = trade_in happened.setting

-- its state as its service begins
abbrev pub beginning : Asked → Happened → List Site
beginning asked happened = opened_all (world happened) asked.screens happened.course.opening.journals

-- a service over this network, with clock and door
abbrev pub place_with : State → Outside → Place
place_with network outside =
    record { network = network; moments = outside.moments; requests = outside.requests; replies = outside.replies }

-- the place from which a service begins, with these screens and over these journals
abbrev pub first_place : Trade → List (List Patterns) → List (List Entry) → (ℕ → ℕ) → Outside → Place
first_place trade screens journals counts here =
    place_with (record { sites = opened_all trade screens journals; counts = counts }) here

module _ (asked : Asked) (status : Status) (before after : Option Bytes) (tells : Type 0) (old_disks new_disks : Disks)
    (here there : Outside) (from upto : ℕ → ℕ) where
  module _ (setting : Setting) (course : Course) where
    -- With all journals at hand connections were served, from these counts of disks' faults on.
    pub record Serves (form : Form) : Type 0 where
      pub counts : ℕ → ℕ
      pub sooner : (provider : ℕ) → from provider ≤ counts provider
      pub network : State  -- as the service left it
      pub is : IsService (trade_in setting) tells setting.kept asked.wanted
          (first_place (trade_in setting) asked.screens course.opening.journals counts here) (place_with network there) course.service
      pub told : TellsService status before after
          (service_text (trade_in setting) setting.kept (first_place (trade_in setting) asked.screens course.opening.journals counts here)
          course.service)
          course.service.ending
      pub later : (provider : ℕ) → network.counts provider ≤ upto provider
      pub disks : AreLeft old_disks new_disks form course.opening network.sites

    -- A disk came to nothing, and nobody was let in.
    pub record ServesNone (form : Form) : Type 0 where
      pub told : TellsAs status before after
          (finish_text (providers_in setting) (finish_at course.holds (next_of course.opening) course.opening.next))
          (finish_at course.holds (next_of course.opening) course.opening.next)
      pub outside : there ≡ here
      pub disks : AreLeft old_disks new_disks form course.opening (opened_all (trade_in setting) asked.screens course.opening.journals)

    abbrev pub GoesOn : Form → Next → Type 0
    GoesOn form NoMore = Serves form
    GoesOn form _ = ServesNone form

    -- The journals were made or opened.
    pub record HasJournals (form : Form) : Type 0 where
      pub opening : IsOpening (trade_in setting) old_disks form course.opening
      pub looked_at : IsLookedAt old_disks (next_of course.opening) course.holds course.opening.next
      pub writes : WritesAt status course.opening.next
      pub goes_on : GoesOn form course.opening.next

  -- The run ended with all disks as they were, and nobody was let in.
  pub record EndsBefore (text : Bytes) (finish : Finish) : Type 0 where
    pub told : TellsAs status before after text finish
    pub disks : AreUntouched old_disks new_disks
    pub outside : there ≡ here

  -- The disks were looked at.
  abbrev pub HasBegun : Setting → Course → Option Form → Type 0
  HasBegun setting course None = EndsBefore [] plays.Fails
  HasBegun setting course (Some form) =
      IsChosen old_disks (trade_in setting).providers form × HasJournals setting course form

  -- What is true of a run at its stage.
  abbrev pub IsAt : Happened → Stage → Type 0
  IsAt happened (Over end) = EndsBefore (end_text (providers_in happened.setting) end) (plays.Ends end)
  IsAt happened Halts = EndsBefore [] plays.Stops
  IsAt happened Begins = HasBegun happened.setting happened.course happened.form

-- The program served: from what the input held, what the output held, the disks at home, clock and door as it began, to the
-- output, the disks, clock and door as it ended, with this status, while the counts of disks' faults rose from some to others.
-- `tells` says that disks tell what they hold.
pub record HasServed (asked : Asked) (status : Status) (unread before after : Option Bytes) (tells : Type 0)
    (old_disks new_disks : Disks) (here there : Outside) (from upto : ℕ → ℕ) : Type 0 where
  pub happened : Happened
  pub input : IfSome unread (λ text. happened.directory ≡ text)
  -- of a run that begins
  pub setting : stage_of happened.early happened.directory ≡ Begins
      → (providers : List Provider) → directory_in happened.directory ≡ Ok providers
      → IsSetting providers happened.setting
  pub is_at : IsAt asked status before after tells old_disks new_disks here there from upto happened
      (stage_of happened.early happened.directory)

-- It served so; and the status blames a device only where its count of faults rose.
pub record ServiceRan (asked : Asked) (status : Status) (unread before after : Option Bytes) (tells : Type 0)
    (old_disks new_disks : Disks) (here there : Outside) (old new : AllCounts) : Type 0 where
  pub served : HasServed asked status unread before after tells old_disks new_disks here there old.devices.disks
      new.devices.disks
  pub blame : Blames status old new
  pub counts : NoneFell old new

-- The same over a depot that had these disks at home, by provider, and has those.
abbrev pub ServiceRanOver : {D : Type 0} → Type 0 → (D → Sight) → Asked → Status → (unread before after : Option Bytes)
    → (home left : ℕ → Option D) → (here there : Outside) → (old new : AllCounts) → Type 0
ServiceRanOver tells sight asked status unread before after home left here there old new =
    ServiceRan asked status unread before after tells (disks_at tells sight home) (disks_at tells sight left) here there
    old new

-- ---- runs without faults

-- No count rose.
pub record NoFaults (old new : AllCounts) : Type 0 where
  pub devices : transcripts.NoFaults old.devices new.devices
  pub clock : StoodStill old.clock new.clock
  pub door : StoodStill old.door new.door

-- As many connections were served as were asked for, and all of their lines were written.
pub record ServesAll (asked : Asked) (status : Status) (before after : Option Bytes) (here : Outside) (happened : Happened)
    : Type 0 where
  pub done : status ≡ statuses.Done
  pub all : length happened.course.service.whole ≡ asked.wanted
  pub counts : ℕ → ℕ
  pub written : after ≡ followed_by before (service_text (world happened) happened.setting.kept
      (first_place (world happened) asked.screens happened.course.opening.journals counts here) happened.course.service)
