-- A run of the program that reads a directory to the input's end, opens the journals of its providers, and writes an extract
-- of what these logged in a range of moments: `ExtractRan`, one record with one witness, what happened. It says what was
-- written, with which status, which device that blames, and what the disks hold at every moment. This project's profile.
use Rattle.std.specs.Prelude.{◌≡◌, ℕ, ◌≤◌, nat_lt, Bool, List, [], ◌∷◌, ◌++◌, codes, Option, Some, None, IfSome, Result, Ok, Err, if◌then◌else◌}
use Rattle.std.specs.Str.{bytes_eq}
use Rattle.pec_types.specs.Bytes.{Bytes}
use Rattle.pec_types.specs.declared.moments.TheConstants.{END_OF_TIME}
use Rattle.pec_outside.specs.DiskModel.{LeavesOnly, Sight}
use Rattle.pec_outside.specs.Flow.{HasRisen, WrotePart, followed_by}
use Rattle.pec_directory.specs.Directory.{Provider}
use Rattle.pec_words.specs.Numbers.{number_below}
use Rattle.pec_records.specs.declared.entries.Entry.{Entry}
use Rattle.pec_ledger.specs.Trade.{Trade}
use Rattle.pec_dossier.specs.Exports.{providers_had}
use Rattle.pec_runs.specs.Endings as ends
use Rattle.pec_runs.specs.Happened.{IsSetting, Setting, providers_in, trade_in}
use Rattle.pec_runs.specs.Openings.{AreLeft, AreUntouched, IsLeft, IsOpening, Next, NoMore, Holds, Unfits, Fails, Stops, Opening, Resume}
use Rattle.pec_runs.specs.Openings.{disks_at, next_of, opened_all}
use Rattle.pec_runs.specs.Plays.{Ends, Finish, finish_text}
use Rattle.pec_runs.specs.Plays as plays
use Rattle.pec_runs.specs.Ran.{Blames, Counts, NoneFell, TellsAs, WritesAt}
use Rattle.pec_runs.specs.Statuses.{Status}
use Rattle.pec_runs.specs.Statuses as statuses
use Rattle.pec_runs.specs.Through.{AreHadFrom}

-- ---- words

-- A range of moments. Both ends belong to it.
pub record Range : Type 0 where
  pub from : ℕ
  pub upto : ℕ

-- a range, where it doesn't end before it begins
abbrev pub range_of : ℕ → ℕ → Option Range
range_of from upto = if nat_lt upto from then None else Some (record { from = from; upto = upto })

-- the range between two moments that were read
abbrev pub range_between : Option ℕ → Option ℕ → Option Range
range_between (Some from) (Some upto) = range_of from upto
range_between _ _ = None

-- The range that the words ask for: `extract FROM TO`, two moments as scripts write them, FROM not above TO.
abbrev pub extracts_in : List Bytes → Option Range
extracts_in (word ∷ from ∷ upto ∷ []) =
    if bytes_eq word (codes "extract")
    then range_between (number_below END_OF_TIME from) (number_below END_OF_TIME upto)
    else None
extracts_in _ = None

-- ---- what is written

-- the header was written, and more behind it
abbrev pub HasHeader : Bytes → Option Bytes → Option Bytes → Type 0
HasHeader header before after = (more : Bytes) × (after ≡ followed_by before (header ++ more))

-- What a status says where the disks needn't tell what they hold: with a fault of a disk, and with an entry that isn't what
-- was kept, the header was written.
abbrev pub TellsHeader : Status → Bytes → Option Bytes → Option Bytes → Type 0
TellsHeader statuses.Done header before after = Unit {0}
TellsHeader statuses.WriteFault header before after = Unit {0}
TellsHeader statuses.NoMemory header before after = Unit {0}
TellsHeader statuses.DiskFault header before after = HasHeader header before after
TellsHeader statuses.Changed header before after = HasHeader header before after
TellsHeader _ header before after = ⊥

-- What it says of the text where they do: the text was written at status 0, and else a front of it.
abbrev pub TellsText : Status → Option Bytes → Option Bytes → Bytes → Type 0
TellsText statuses.Done before after text = after ≡ followed_by before text
TellsText _ before after text = WrotePart before after text

-- How a run finishes, by what came of the next disk; with all journals had it is to be done.
abbrev pub finish_at : ℕ → Next → Finish
finish_at number NoMore = Ends ends.Done
finish_at number Holds = Ends (ends.NotEmpty number)
finish_at number (Unfits unfit) = Ends (ends.NotFit number unfit)
finish_at number Fails = plays.Fails
finish_at number Stops = plays.Stops

-- ---- the run

-- `text_of`: the text of an extract, by its range, and by the world, the providers and the journals that it is of; `header`:
-- the first record of it. `faults` is the count of faults that a disk itself tells. `home` and `left` are the disks at home before the run and behind it; between these their counts
-- of faults rose so. `tells` says that disks tell what they hold.
module _ (text_of : Range → Trade → List Provider → List (List Entry) → Bytes) (header : Bytes) {D : Type 0}
    (tells : Type 0) (sight : D → Sight) (faults : D → ℕ) (range : Range) (status : Status) (before after : Option Bytes)
    (home left : ℕ → Option D) (from upto : ℕ → ℕ) where
  -- All journals were opened, and their text was written, or a front of it. The disks were opened so, with these counts of
  -- faults; from then on a crash leaves of each disk, at any moment, the journal that was opened, and only a fault of a disk
  -- since then is told as one: the counts are those of the disks that were opened.
  pub record Extracts (setting : Setting) (journals : List (List Entry)) : Type 0 where
    pub headed : TellsHeader status header before after
    pub told : tells → TellsText status before after (text_of range (trade_in setting) (providers_in setting) journals)
    pub opened : ℕ → Option D
    pub had : AreHadFrom sight tells Resume (trade_in setting) home opened
    pub images : tells → (provider : ℕ) (was now : D) → opened provider ≡ Some was → left provider ≡ Some now
        → LeavesOnly (sight was) (sight now) (IsLeft (opened_all (trade_in setting) [] journals) provider)
    pub counts : ℕ → ℕ
    pub counted : (provider : ℕ) (disk : D) → opened provider ≡ Some disk → counts provider ≡ faults disk
    pub sooner : (provider : ℕ) → from provider ≤ counts provider
    pub failed : status ≡ statuses.DiskFault → (provider : ℕ) × HasRisen (counts provider) (upto provider)

  -- A disk came to nothing, so that the run finishes so, and nothing was written of the text.
  pub record ExtractsNone (setting : Setting) (finish : Finish) : Type 0 where
    pub told : TellsAs status before after (finish_text (providers_in setting) finish) finish
    pub had : AreHadFrom sight tells Resume (trade_in setting) home left

  abbrev pub GoesOn : Setting → Opening → Next → Type 0
  GoesOn setting opening NoMore = Extracts setting opening.journals
  GoesOn setting opening next = ExtractsNone setting (finish_at (next_of opening) next)

  -- Journals were opened as in the form `resume`, and the disks are left as they were: each whose journal was opened holds
  -- that, and the others are untouched.
  pub record HasOpened (setting : Setting) (opening : Opening) : Type 0 where
    pub is : IsOpening (trade_in setting) (disks_at tells sight home) Resume opening
    pub writes : WritesAt status opening.next
    pub goes_on : GoesOn setting opening opening.next
    pub disks : AreLeft (disks_at tells sight home) (disks_at tells sight left) Resume opening
        (opened_all (trade_in setting) [] opening.journals)

  -- The run finished before a disk was asked for.
  pub record EndsBefore (finish : Finish) : Type 0 where
    pub told : TellsAs status before after (finish_text [] finish) finish
    pub disks : AreUntouched (disks_at tells sight home) (disks_at tells sight left)
    pub had : (trade : Trade) → AreHadFrom sight tells Resume trade home left

  -- What is true of a run, by what its input says.
  abbrev pub IsAt : Setting → Opening → Result (List Provider) Finish → Type 0
  IsAt setting opening (Ok providers) = IsSetting providers setting × HasOpened setting opening
  IsAt setting opening (Err finish) = EndsBefore finish

  -- From what the input held, what the output held and the disks at home to the output and the disks as they are.
  pub record Extracted (unread : Option Bytes) : Type 0 where
    pub bytes : Bytes  -- the input, to its end
    pub early : Bool  -- it was stopped before a disk was asked for
    pub setting : Setting
    pub opening : Opening
    pub input : IfSome unread (λ text. bytes ≡ text)
    pub is_at : IsAt setting opening (providers_had early bytes)

-- It ran so; and the status blames a device only where its count of faults rose.
pub record ExtractRan (text_of : Range → Trade → List Provider → List (List Entry) → Bytes) (header : Bytes) {D : Type 0}
    (tells : Type 0) (sight : D → Sight) (faults : D → ℕ) (range : Range) (status : Status)
    (unread before after : Option Bytes) (home left : ℕ → Option D) (old new : Counts) : Type 0 where
  pub extracted : Extracted text_of header tells sight faults range status before after home left old.disks new.disks unread
  pub blame : Blames status old new
  pub counts : NoneFell old new

-- ---- what its status says

-- the statuses that such a run can have
abbrev pub IsOfExtract : Status → Type 0
IsOfExtract statuses.Done = Unit {0}
IsOfExtract statuses.Refused = Unit {0}
IsOfExtract statuses.ReadFault = Unit {0}
IsOfExtract statuses.WriteFault = Unit {0}
IsOfExtract statuses.NoMemory = Unit {0}
IsOfExtract statuses.StartFault = Unit {0}
IsOfExtract statuses.NotFit = Unit {0}
IsOfExtract statuses.InputTooLong = Unit {0}
IsOfExtract statuses.DiskFault = Unit {0}
IsOfExtract statuses.Changed = Unit {0}
IsOfExtract _ = ⊥
