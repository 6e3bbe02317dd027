-- A loop over the lines of a script goes on behind a line, and ends: by what was found, and by what that says.
use Rattle.std.proofs.Common.{◌≡◌, ℕ, List, [], ◌∷◌, ap, sym, subst, Global, Vec, Option, None, Some, Err}
use Rattle.pec_types.specs.Bytes.{Bytes}
use Rattle.pec_outside.specs.DiskModel.{Sight}
use Rattle.pec_directory.specs.Directory.{Provider}
use Rattle.pec_input.specs.Finding.{IsAtEnd, IsFound}
use Rattle.pec_input.specs.Lines.{raw_lines}
use Rattle.pec_input.specs.declared.buffers.Found.{Found}
use Rattle.pec_input.specs.declared.buffers.Found.TheVariants as found
use Rattle.pec_input.specs.declared.buffers.InputFault.{InputFault}
use Rattle.pec_input.specs.declared.buffers.InputFault.TheVariants as input_faults
use Rattle.pec_ledger.specs.Trade.{Trade}
use Rattle.pec_runs.specs.Reading.{AreLinesLeft, IsRead, LinePoint, Reads, behind_line}
use Rattle.pec_runs.specs.ScriptLines.{PassedOver, Says, command_in, longest_line}
use Rattle.pec_runs.specs.Statuses.{Status}
use Rattle.pec_runs.specs.Statuses as statuses
use Rattle.pec_runs.specs.Steps.{Goes, IsWritten, NoMemory, NoneFell, Plays, Point, ReadFault, Stop, WriteFault, stopped_status}
use Rattle.pec_screen.specs.Verdicts.{Patterns}
use Rattle.pec_script.specs.declared.commands.Command.{Command}
use Rattle.pec_top.specs.LoopLaws.{LoopLaws}
use Rattle.pec_top.specs.Saying.{EndsAt, IsSaid}
use Rattle.pec_serving.specs.OfNetworks.{Stop as PlayStop, stop_in}
use Rattle.pec_serving.specs.OfNetworks.play_stops as play_stops
use Rattle.pec_top.specs.Shown.{end_shown, played_stop, stop_of, stop_shown}
use Rattle.pec_top.specs.declared.ending.End.{End}
use Rattle.pec_top.specs.declared.said.Said.TheVariants as said
use Rattle.pec_top.proofs.LineReadLemmas.{line_read, line_there, long_there, tells_on}

-- at the end of the input no line is left
none_left : (unread : Option Bytes) → IsAtEnd unread → AreLinesLeft unread []
none_left None over = tt
none_left (Some text) over = sym (ap raw_lines over)

module _ {D : Type 0} {tells : Type 0} {sight : D → Sight} {faults : D → ℕ} {trade : Trade} {providers : List Provider}
    {first here : LinePoint D} (came : Reads trade providers tells sight faults first here)
    (laws : LoopLaws D tells sight faults trade providers) where
  abbrev ReadTo : Point D → Status → Type 0
  ReadTo there status = IsRead trade providers tells sight faults first there status

  -- memory ran out, or the input failed
  pub lacks_here : ReadTo here.point statuses.NoMemory
  lacks_here = laws.halted first here NoMemory (λ e. absurd cc) came

  pub input_fails : (fault : InputFault) → ReadTo here.point (stop_shown (stop_of fault))
  input_fails input_faults.NoMemory = lacks_here
  input_fails input_faults.ReadFault = laws.halted first here ReadFault (λ e. absurd cc) came

  module _ (line : Bytes) (behind : Option Bytes) where
    abbrev WasFound : Found → Type 0
    WasFound what = IsFound longest_line what line here.unread behind

    -- what is found is a line where the script goes on
    pub passes : (spare : Option Patterns) (what : Found) → WasFound what
        → IsSaid providers here.number spare what line said.Nothing
        → Reads trade providers tells sight faults first (behind_line here here.point behind)
    passes spare found.End told says = absurd says
    passes spare found.Line told says =
        laws.on first here here.point spare line PassedOver behind says tt (line_read here.unread line behind told.2)
        (tells_on here.unread line behind told.2) (laws.nowhere here.point) came
    passes spare found.Long told says =
        let long = long_there laws.content longest_line here.unread told
        in absurd (says long.line long.lines long.long)

    pub plays : (spare : Option Patterns) (what : Found) → WasFound what → (command : Command)
        → IsSaid providers here.number spare what line (said.Command command) → (there : Point D)
        → Goes trade providers tells sight faults (Plays (command_in spare command) ∷ []) here.point there None
        → Reads trade providers tells sight faults first (behind_line here there behind)
    plays spare found.End told command says there goes = absurd says
    plays spare found.Line told command says there goes =
        laws.on first here there spare line (Says (command_in spare command)) behind says tt
        (line_read here.unread line behind told.2) (tells_on here.unread line behind told.2) goes came
    plays spare found.Long told command says there goes =
        let long = long_there laws.content longest_line here.unread told
        in absurd (says long.line long.lines long.long)

    pub stops : (spare : Option Patterns) (what : Found) → WasFound what → (command : Command)
        → IsSaid providers here.number spare what line (said.Command command) → (there : Point D) (stop : PlayStop)
        → Goes trade providers tells sight faults (Plays (command_in spare command) ∷ []) here.point there
        (stop_in {T = Unit {0}} (Err stop))
        → ReadTo there (stop_shown (played_stop stop))
    stops spare what told command says there stop goes = by_stop stop goes
      where
        stops_so : (why : Stop) → (what : Found) → WasFound what
            → IsSaid providers here.number spare what line (said.Command command)
            → Goes trade providers tells sight faults (Plays (command_in spare command) ∷ []) here.point there (Some why)
            → ReadTo there (stopped_status why)
        stops_so why found.End told says goes = absurd says
        stops_so why found.Line told says goes =
            laws.stopped first here there spare line (Says (command_in spare command)) behind why says tt
            (line_read here.unread line behind told.2) (tells_on here.unread line behind told.2) goes came
        stops_so why found.Long told says goes =
            let long = long_there laws.content longest_line here.unread told
            in absurd (says long.line long.lines long.long)

        by_stop : (stop : PlayStop)
            → Goes trade providers tells sight faults (Plays (command_in spare command) ∷ []) here.point there
            (stop_in {T = Unit {0}} (Err stop))
            → ReadTo there (stop_shown (played_stop stop))
        by_stop play_stops.NoMemory goes = stops_so NoMemory what told says goes
        by_stop play_stops.WriteFault goes = stops_so WriteFault what told says goes

    -- the lines at which the script ends
    pub record EndsHere (text : Bytes) (last : End) : Type 0 where
      pub lines : List Bytes
      pub left : AreLinesLeft here.unread lines
      pub at : EndsAt providers here.number lines text last

    pub ends_here : (spare : Option Patterns) (what : Found) → WasFound what → (text : Vec ℕ Global) (last : End)
        → IsSaid providers here.number spare what line (said.Last text last) → EndsHere text.items last
    ends_here spare found.End told text last says =
        record { lines = []; left = none_left here.unread told.1; at = says }
    ends_here spare found.Line told text last says =
        let more = line_there here.unread line behind told.2
        in record { lines = line ∷ more.0; left = more.1; at = says more.0 }
    ends_here spare found.Long told text last says =
        let long = long_there laws.content longest_line here.unread told
        in record { lines = long.line ∷ long.lines; left = long.left; at = says long.line long.lines long.long }

    module _ (text : Bytes) (last : End) (ends : EndsHere text last) (there : Point D)
        (same : there.state ≡ here.point.state) (fell : NoneFell here.point there) where
      pub ends_whole : IsWritten text here.point there None → ReadTo there (end_shown last)
      ends_whole wrote =
          subst (ReadTo there) (sym ends.at.shown)
          (laws.ended first here there ends.lines ends.at.end None ends.at.script ends.left
          (laws.written _ here.point there None same fell
          (subst (λ (t : Bytes). IsWritten t here.point there None) ends.at.text_is wrote)) came)

      pub ends_broken : IsWritten text here.point there (Some WriteFault) → ReadTo there statuses.WriteFault
      ends_broken wrote =
          laws.ended first here there ends.lines ends.at.end (Some WriteFault) ends.at.script ends.left
          (laws.written _ here.point there (Some WriteFault) same fell
          (subst (λ (t : Bytes). IsWritten t here.point there (Some WriteFault)) ends.at.text_is wrote)) came
