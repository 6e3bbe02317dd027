-- A loop over the lines of a script: what was played of them, and what the script comes to.
use Rattle.std.proofs.Common.{◌≡◌, ◌≢◌, ℕ, ◌+◌, ◌==◌, arith, List, [], ◌∷◌, ◌++◌, map, refl, ap, sym, subst, ◌∙◌, Option, Some, None}
use Rattle.std.specs.Prelude.{Bool, IfSome, if◌then◌else◌}
use Rattle.std.proofs.lemmas.Bool.{eq-eqb, ne_eqb}
use Rattle.std.proofs.lemmas.List.{append_assoc}
use Rattle.pec_types.specs.Bytes.{Bytes}
use Rattle.pec_outside.specs.DiskModel.{Sight}
use Rattle.pec_directory.specs.Directory.{Provider}
use Rattle.pec_ledger.specs.Trade.{Trade}
use Rattle.pec_plays.specs.Commands.{Command}
use Rattle.pec_screen.specs.Verdicts.{Patterns}
use Rattle.pec_input.specs.Lines.{raw_lines}
use Rattle.pec_runs.specs.Endings.{Done, End, end_text}
use Rattle.pec_runs.specs.Reading.{AgreeBefore, AreLinesLeft, GoesOn, IsLineRead, IsRead, LinePoint, Reads, TellsOn, behind_commands}
use Rattle.pec_runs.specs.Reading.{behind_line, commands_by}
use Rattle.pec_runs.specs.ScriptLines.{Hands, PassedOver, Says, Script, nothing_but, said_by, script_of}
use Rattle.pec_runs.specs.ScriptLines as lines
use Rattle.pec_runs.specs.Statuses as statuses
use Rattle.pec_runs.specs.Steps.{Act, Goes, IsScriptPlayed, Plays, Point, Stop, WriteFault}
use Rattle.pec_runs.specs.Steps.{Writes, acts_of_script, status_by, stopped_status}
use Rattle.pec_runs.proofs.GoingLemmas.{goes_nowhere, goes_on, halts, stops_before, writes_none}
use Rattle.pec_runs.proofs.PlayedLemmas.{script_goes, some_acts}

-- ---- acts of commands

acts_more : (some : List Command) (more : List Act) → (others : List Command)
    → map Plays (some ++ others) ++ more ≡ map Plays some ++ (map Plays others ++ more)
acts_more [] more others = refl
acts_more (command ∷ some) more others = ap (λ (l : List Act). Plays command ∷ l) (acts_more some more others)

plays_more : (some others : List Command) → map Plays (some ++ others) ≡ map Plays some ++ map Plays others
plays_more [] others = refl
plays_more (command ∷ some) others = ap (λ (l : List Act). Plays command ∷ l) (plays_more some others)

-- the lines that are left, or some where that isn't told
some_lines : (unread : Option Bytes) → (lines : List Bytes) × AreLinesLeft unread lines
some_lines None = ([], tt)
some_lines (Some text) = (raw_lines text, refl)

none_left : (unread : Option Bytes) → IfSome unread (λ text. text ≡ []) → AreLinesLeft unread []
none_left None over = tt
none_left (Some text) over = sym (ap raw_lines over)

-- the lines that were left are the one that was read and those that are left
lines_on : (before : Option Bytes) (line : Bytes) (behind : Option Bytes) (lines : List Bytes)
    → IsLineRead before line behind
    → TellsOn before behind → AreLinesLeft behind lines → AreLinesLeft before (line ∷ lines)
lines_on None line behind lines read tells left = tt
lines_on (Some text) line behind lines read tells left =
    let on = tells text refl
    in let same : raw_lines text ≡ line ∷ raw_lines on.0 = read on.0 on.1
    in let here : lines ≡ raw_lines on.0 = subst (λ (b : Option Bytes). AreLinesLeft b lines) on.1 left
    in ap (λ (l : List Bytes). line ∷ l) here ∙ sym same

-- a script whose first line is known, as far as the spare goes that is at hand for it
script_here : (hands : Hands) (spare : Option Patterns) (providers : List Provider) (number : ℕ) (line : Bytes)
    (more : List Bytes) (what : lines.Line) → hands number ≡ spare → said_by spare providers number line ≡ what
    → GoesOn what
    → script_of hands providers number (line ∷ more)
    ≡ behind_commands (commands_by what) (script_of hands providers (number + 1) more)
script_here hands spare providers number line more what here e on =
    ap (λ (s : Option Patterns). lines.behind_line number (said_by s providers number line)
    (script_of hands providers (number + 1) more)) here
    ∙ (ap (λ (w : lines.Line). lines.behind_line number w (script_of hands providers (number + 1) more)) e ∙ by_line what
    on)
  where
    by_line : (what : lines.Line) → GoesOn what
        → lines.behind_line number what (script_of hands providers (number + 1) more)
        ≡ behind_commands (commands_by what) (script_of hands providers (number + 1) more)
    by_line PassedOver on = refl
    by_line (Says command) on = refl
    by_line (lines.SaysNone fault) on = absurd on
    by_line lines.TooLong on = absurd on
    by_line lines.TooMany on = absurd on

-- ---- spares at hand

-- as those, but for the line of a number
abbrev pub hands_with : Hands → ℕ → Option Patterns → Hands
hands_with hands number spare line = if line == number then spare else hands line

hand_here : (hands : Hands) (number : ℕ) (spare : Option Patterns) → hands_with hands number spare number ≡ spare
hand_here hands number spare = ap (λ (b : Bool). if b then spare else hands number) (eq-eqb number number refl)

hand_before : (hands : Hands) (number : ℕ) (spare : Option Patterns) → AgreeBefore number hands (hands_with hands number spare)
hand_before hands number spare before less =
    ap (λ (b : Bool). if b then spare else hands before) (ne_eqb before number (λ e. omega (arith, less, e)))

-- what agrees with them behind the line agrees with those before it, and has the spare there
agree_before : (hands later : Hands) (number : ℕ) (spare : Option Patterns)
    → AgreeBefore (number + 1) (hands_with hands number spare) later → AgreeBefore number hands later
agree_before hands later number spare agree before less =
    agree before (omega (arith, less)) ∙ hand_before hands number spare before less

agree_here : (hands later : Hands) (number : ℕ) (spare : Option Patterns)
    → AgreeBefore (number + 1) (hands_with hands number spare) later → later number ≡ spare
agree_here hands later number spare agree = agree number (omega arith) ∙ hand_here hands number spare

same_before : (number : ℕ) (hands : Hands) → AgreeBefore number hands hands
same_before number hands before less = refl

-- a run that is done writes no last line
done_text : (providers : List Provider) → end_text providers Done ≡ []
unfolding end_text
done_text providers = refl

module _ (trade : Trade) (providers : List Provider) (tells : Type 0) {D : Type 0} (sight : D → Sight)
    (faults : D → ℕ) where
  abbrev script_at : Hands → LinePoint D → List Bytes → Script
  script_at hands here lines = script_of hands providers here.number lines

  -- ---- the loop goes on

  pub reads_start : (first : LinePoint D) → Reads trade providers tells sight faults first first
  reads_start first = record {
    done = [];
    goes = goes_nowhere trade providers tells sight faults first.point;
    hands = λ line. None;
    script = λ later agree lines left. (lines, left, refl);
  }

  -- what a line says was played, whatever that is
  pub reads_on : (first here : LinePoint D) (there : Point D) (spare : Option Patterns) (line : Bytes)
      (what : lines.Line) (behind : Option Bytes)
      → said_by spare providers here.number line ≡ what → GoesOn what → IsLineRead here.unread line behind
      → TellsOn here.unread behind → Goes trade providers tells sight faults (map Plays (commands_by what)) here.point there
      None
      → Reads trade providers tells sight faults first here
      → Reads trade providers tells sight faults first (behind_line here there behind)
  reads_on first here there spare line what behind said on read tell goes reads = record {
    done = reads.done ++ commands_by what;
    goes = subst (λ (l : List Act). Goes trade providers tells sight faults l first.point there None)
        (sym (plays_more reads.done (commands_by what)))
        (goes_on trade providers tells sight faults (map Plays reads.done) (map Plays (commands_by what)) first.point
        here.point there
        None reads.goes goes);
    hands = hands_with reads.hands here.number spare;
    script = λ later agree more left.
        let before = reads.script later (agree_before reads.hands later here.number spare agree) (line ∷ more)
        (lines_on here.unread line behind more read tell left)
        in (
          before.0,
          before.1,
          before.2
              ∙ (ap (behind_commands reads.done)
              (script_here later spare providers here.number line more what
              (agree_here reads.hands later here.number spare agree) said on)
              ∙ ap (λ (l : List Command). record {
                commands = l;
                end = (script_of later providers (here.number + 1)
                    more).end;
              })
              (sym (append_assoc reads.done (commands_by what) (script_of later providers (here.number + 1)
              more).commands))),
        );
  }

  -- ---- and ends

  -- acts behind those that were played are the rest of the script
  reads_by : (first here : LinePoint D) (there : Point D) (hands : Hands) (lines : List Bytes) (stop : Option Stop)
      → (reads : Reads trade providers tells sight faults first here) → AgreeBefore here.number reads.hands hands
      → AreLinesLeft here.unread lines
      → Goes trade providers tells sight faults (acts_of_script providers (script_at hands here lines)) here.point there stop
      → IsRead trade providers tells sight faults first there (status_by (script_at hands here lines).end stop)
  reads_by first here there hands lines stop reads agree left goes =
      let before = reads.script hands agree lines left
      in let all = goes_on trade providers tells sight faults (map Plays reads.done) (acts_of_script providers (script_at
      hands here lines))
      first.point here.point there stop reads.goes goes
      in let acts = sym (acts_more reads.done (Writes (end_text providers (script_at hands here lines).end) ∷ [])
      (script_at hands here lines).commands)
      in record {
        hands = hands;
        lines = before.0;
        left = before.1;
        played = subst (λ (s : Script). IsScriptPlayed trade providers tells sight faults s (status_by (script_at hands here
            lines).end stop)
            first.point there) (sym before.2)
            (script_goes trade providers tells sight faults (behind_commands reads.done (script_at hands here lines)) first.point
            there stop
            (subst (λ (l : List Act). Goes trade providers tells sight faults l first.point there stop) acts all));
      }

  -- the script ends at a line, whatever is behind it, or at the end of the input
  pub reads_ended : (first here : LinePoint D) (there : Point D) (lines : List Bytes) (end : End) (stop : Option Stop)
      → ((hands : Hands) → script_of hands providers here.number lines ≡ nothing_but end)
      → AreLinesLeft here.unread lines
      → Goes trade providers tells sight faults (Writes (end_text providers end) ∷ []) here.point there stop
      → Reads trade providers tells sight faults first here → IsRead trade providers tells sight faults first there
      (status_by end stop)
  reads_ended first here there lines end stop ended left goes reads =
      let is = ended reads.hands
      in subst (λ (s : Script). IsRead trade providers tells sight faults first there (status_by s.end stop)) is
      (reads_by first here there reads.hands lines stop reads (same_before here.number reads.hands) left
      (subst (λ (s : Script). Goes trade providers tells sight faults (acts_of_script providers s) here.point there stop)
      (sym is) goes))

  -- it was stopped within what a line says
  pub reads_stopped : (first here : LinePoint D) (there : Point D) (spare : Option Patterns) (line : Bytes)
      (what : lines.Line) (behind : Option Bytes) (stop : Stop)
      → said_by spare providers here.number line ≡ what → GoesOn what
      → IsLineRead here.unread line behind → TellsOn here.unread behind
      → Goes trade providers tells sight faults (map Plays (commands_by what)) here.point there (Some stop)
      → Reads trade providers tells sight faults first here
      → IsRead trade providers tells sight faults first there (stopped_status stop)
  reads_stopped first here there spare line what behind stop said on read tell goes reads =
      let more = some_lines behind
      in let hands = hands_with reads.hands here.number spare
      in let script = script_here hands spare providers here.number line more.0 what
      (hand_here reads.hands here.number spare) said on
      in let later = acts_of_script providers (script_of hands providers (here.number + 1) more.0)
      in reads_by first here there hands (line ∷ more.0) (Some stop) reads (hand_before reads.hands here.number spare)
      (lines_on here.unread line behind more.0 read tell more.1)
      (subst (λ (s : Script). Goes trade providers tells sight faults (acts_of_script providers s) here.point there (Some
      stop)) (sym script)
      (subst (λ (l : List Act). Goes trade providers tells sight faults l here.point there (Some stop))
      (sym (acts_more (commands_by what) (Writes (end_text providers (script_of hands providers (here.number + 1)
      more.0).end)
      ∷ []) (script_of hands providers (here.number + 1) more.0).commands))
      (stops_before trade providers tells sight faults (map Plays (commands_by what)) later here.point there stop goes)))

  -- it was stopped between two acts, by its input or for want of memory
  pub reads_halted : (first here : LinePoint D) (stop : Stop) → stop ≢ WriteFault
      → Reads trade providers tells sight faults first here
      → IsRead trade providers tells sight faults first here.point (stopped_status stop)
  reads_halted first here stop other reads =
      let more = some_lines here.unread
      in reads_by first here here.point reads.hands more.0 (Some stop) reads (same_before here.number reads.hands) more.1
      (halts trade providers tells sight faults _ here.point stop
      (some_acts providers (script_at reads.hands here more.0).commands (script_at reads.hands here more.0).end) other)

  -- the input is at its end
  pub reads_over : (first here : LinePoint D) → IfSome here.unread (λ text. text ≡ [])
      → Reads trade providers tells sight faults first here → IsRead trade providers tells sight faults first here.point
      statuses.Done
  reads_over first here over reads =
      reads_ended first here here.point [] Done None (λ hands. refl) (none_left here.unread over)
      (writes_none trade providers tells sight faults (end_text providers Done) here.point (done_text providers)) reads
