-- The spares that are at hand for the lines of a script: there are some, and each choice of them says one script.
use Rattle.std.proofs.Common.{◌≡◌, ℕ, ◌+◌, ◌-◌, ◌<◌, ◌≤◌, ◌==◌, List, [], ◌∷◌, Bool, true, false, length, refl, ap, sym, subst, ◌∙◌, arith, nat_lt, Option, None, Result, Ok, Err}
use Rattle.std.specs.Prelude.{if◌then◌else◌, slice_get}
use Rattle.std.proofs.lemmas.Bool.{eq-eqb, ne_eqb}
use Rattle.pec_types.specs.Bytes.{Bytes}
use Rattle.pec_directory.specs.Directory.{Provider}
use Rattle.pec_ledger.specs.Network.{Site}
use Rattle.pec_ledger.specs.Trade.{Trade}
use Rattle.pec_plays.specs.Commands.{Answer, Command, Luck, Played, played}
use Rattle.pec_plays.specs.Possible.{quiet_luck, quiet_lucks}
use Rattle.pec_plays.specs.Scripts.{HandsIn, Told, script}
use Rattle.pec_screen.specs.Verdicts.{Patterns}
use Rattle.pec_script.specs.LinesReading.{command_of}
use Rattle.pec_script.specs.declared.commands.Command.{Command as Written}
use Rattle.pec_script.specs.declared.commands.Command.TheVariants as written
use Rattle.pec_script.specs.declared.faults.LineFault.{LineFault}
use Rattle.pec_input.specs.Lines.{content_of}
use Rattle.pec_runs.specs.Plays.{AllHanded, spares_left}
use Rattle.pec_runs.specs.ScriptLines.{Hands, Line, PassedOver, Says, SaysNone, Script, TooLong, TooMany, behind_line, command_in, is_passed_over, line_by, longest_line, most_lines, onto_script, said_by, script_of}

-- ---- by what was answered

-- in each command of a script that answers so another screen is the last spare that is left
abbrev HandedBy : List Patterns → List Answer → List Command → Type 0
HandedBy spares [] commands = Unit {0}
HandedBy spares (answer ∷ answers) [] = Unit {0}
HandedBy spares (answer ∷ answers) (command ∷ commands) =
    HandsIn spares command × HandedBy (spares_left spares command answer) answers commands

handed_by : (trade : Trade) (lucks : List Luck) (spares : List Patterns) (sites : List Site) (commands : List Command)
    → AllHanded trade lucks spares sites commands → HandedBy spares (script trade lucks sites commands).answers commands
handed_by trade [] spares sites commands all = tt
handed_by trade (luck ∷ lucks) spares sites [] all = tt
handed_by trade (luck ∷ lucks) spares sites (command ∷ commands) all =
    let here = played trade luck sites command
    in (all.0, handed_by trade lucks (spares_left spares command here.answer) here.after commands all.1)

all_handed : (trade : Trade) (lucks : List Luck) (spares : List Patterns) (sites : List Site) (commands : List Command)
    → HandedBy spares (script trade lucks sites commands).answers commands → AllHanded trade lucks spares sites commands
all_handed trade [] spares sites commands all = tt
all_handed trade (luck ∷ lucks) spares sites [] all = tt
all_handed trade (luck ∷ lucks) spares sites (command ∷ commands) all =
    let here = played trade luck sites command
    in (all.0, all_handed trade lucks (spares_left spares command here.answer) here.after commands all.1)

pub handed_alike : (trade : Trade) (lucks others : List Luck) (spares : List Patterns) (sites : List Site)
    (commands : List Command) → script trade lucks sites commands ≡ script trade others sites commands
    → AllHanded trade lucks spares sites commands → AllHanded trade others spares sites commands
handed_alike trade lucks others spares sites commands same all =
    all_handed trade others spares sites commands
    (subst (λ (told : Told). HandedBy spares told.answers commands) same
    (handed_by trade lucks spares sites commands all))

-- ---- what a line says

-- a line that puts another screen into a place is handed the last spare that is left
abbrev HandsLine : List Patterns → Line → Type 0
HandsLine spares PassedOver = Unit {0}
HandsLine spares (Says command) = HandsIn spares command
HandsLine spares (SaysNone fault) = Unit {0}
HandsLine spares TooLong = Unit {0}
HandsLine spares TooMany = Unit {0}

abbrev last : List Patterns → Option Patterns
last spares = slice_get spares (length spares - 1)

module _ (spares : List Patterns) where
  -- with the last spare at hand
  last_hands : (command : Written) → HandsIn spares (command_in (last spares) command)
  last_hands (written.Submit provider moment sender path message) = tt
  last_hands (written.Tick provider moment) = tt
  last_hands (written.Round moment) = tt
  last_hands (written.Lose from to place) = tt
  last_hands (written.Repeat from to place) = tt
  last_hands (written.Swap from to place) = tt
  last_hands (written.Inject from to frame) = tt
  last_hands (written.Crash provider) = tt
  last_hands (written.Restart provider) = tt
  last_hands (written.Book address) = tt
  last_hands (written.Mailbox address) = tt
  last_hands (written.Show address place) = tt
  last_hands (written.Archive address moment place) = tt
  last_hands (written.Upgrade provider moment) = tt
  last_hands (written.Vault address) = tt
  last_hands (written.VaultShow address place) = tt
  last_hands (written.Screen provider place) = refl

  -- with two spares at hand, each of them the last one where it counts
  commands_alike : (one other : Option Patterns) (command : Written) → HandsIn spares (command_in one command)
      → HandsIn spares (command_in other command) → command_in other command ≡ command_in one command
  commands_alike one other (written.Submit provider moment sender path message) h k = refl
  commands_alike one other (written.Tick provider moment) h k = refl
  commands_alike one other (written.Round moment) h k = refl
  commands_alike one other (written.Lose from to place) h k = refl
  commands_alike one other (written.Repeat from to place) h k = refl
  commands_alike one other (written.Swap from to place) h k = refl
  commands_alike one other (written.Inject from to frame) h k = refl
  commands_alike one other (written.Crash provider) h k = refl
  commands_alike one other (written.Restart provider) h k = refl
  commands_alike one other (written.Book address) h k = refl
  commands_alike one other (written.Mailbox address) h k = refl
  commands_alike one other (written.Show address place) h k = refl
  commands_alike one other (written.Archive address moment place) h k = refl
  commands_alike one other (written.Upgrade provider moment) h k = refl
  commands_alike one other (written.Vault address) h k = refl
  commands_alike one other (written.VaultShow address place) h k = refl
  commands_alike one other (written.Screen provider place) h k =
      ap (λ (spare : Option Patterns). command_in spare (written.Screen provider place)) (k ∙ sym h)

  abbrev said_so : Option Patterns → Bool → Bool → Bool → Result Written LineFault → Line
  said_so spare many long over told =
      if many then TooMany else (if long then TooLong else (if over then PassedOver else line_by spare told))

  last_so : (many long over : Bool) (told : Result Written LineFault)
      → HandsLine spares (said_so (last spares) many long over told)
  last_so true long over told = tt
  last_so false true over told = tt
  last_so false false true told = tt
  last_so false false false (Ok command) = last_hands command
  last_so false false false (Err fault) = tt

  alike_so : (one other : Option Patterns) (many long over : Bool) (told : Result Written LineFault)
      → HandsLine spares (said_so one many long over told) → HandsLine spares (said_so other many long over told)
      → said_so other many long over told ≡ said_so one many long over told
  alike_so one other true long over told h k = refl
  alike_so one other false true over told h k = refl
  alike_so one other false false true told h k = refl
  alike_so one other false false false (Ok command) h k =
      ap (λ (c : Command). Says c) (commands_alike one other command h k)
  alike_so one other false false false (Err fault) h k = refl

  last_said : (providers : List Provider) (number : ℕ) (line : Bytes)
      → HandsLine spares (said_by (last spares) providers number line)
  unfolding said_by
  last_said providers number line =
      last_so (nat_lt most_lines number) (nat_lt longest_line (length (content_of line)))
      (is_passed_over (content_of line)) (command_of providers (content_of line))

  said_alike : (one other : Option Patterns) (providers : List Provider) (number : ℕ) (line : Bytes)
      → HandsLine spares (said_by one providers number line) → HandsLine spares (said_by other providers number line)
      → said_by other providers number line ≡ said_by one providers number line
  unfolding said_by
  said_alike one other providers number line h k =
      alike_so one other (nat_lt most_lines number) (nat_lt longest_line (length (content_of line)))
      (is_passed_over (content_of line)) (command_of providers (content_of line)) h k

-- ---- scripts

-- what a script comes to without faults is handed the last spare that is left, each time
abbrev IsHandedSo : Trade → List Patterns → List Site → Script → Type 0
IsHandedSo trade spares sites written =
    AllHanded trade (quiet_lucks trade sites written.commands) spares sites written.commands

module _ (trade : Trade) (number : ℕ) where
  abbrev behind : List Site → Command → Played
  behind sites command = played trade (quiet_luck trade sites command) sites command

  first_handed : (spares : List Patterns) (sites : List Site) (what : Line) (rest : Script)
      → IsHandedSo trade spares sites (behind_line number what rest) → HandsLine spares what
  first_handed spares sites PassedOver rest all = tt
  first_handed spares sites (Says command) rest all = all.0
  first_handed spares sites (SaysNone fault) rest all = tt
  first_handed spares sites TooLong rest all = tt
  first_handed spares sites TooMany rest all = tt

  lines_alike : (spares : List Patterns) (sites : List Site) (what : Line) (one other : Script)
      → IsHandedSo trade spares sites (behind_line number what one)
      → IsHandedSo trade spares sites (behind_line number what other)
      → ((left : List Patterns) (after : List Site) → IsHandedSo trade left after one → IsHandedSo trade left after other
      → other ≡ one)
      → behind_line number what other ≡ behind_line number what one
  lines_alike spares sites PassedOver one other h k same = same spares sites h k
  lines_alike spares sites (Says command) one other h k same =
      ap (onto_script command)
      (same (spares_left spares command (behind sites command).answer) (behind sites command).after h.1 k.1)
  lines_alike spares sites (SaysNone fault) one other h k same = refl
  lines_alike spares sites TooLong one other h k same = refl
  lines_alike spares sites TooMany one other h k same = refl

-- two choices of spares, each of the last one where it counts, say one script
pub same_scripts : (trade : Trade) (providers : List Provider) (hands others : Hands) (spares : List Patterns)
    (sites : List Site) (number : ℕ) (lines : List Bytes)
    → IsHandedSo trade spares sites (script_of hands providers number lines)
    → IsHandedSo trade spares sites (script_of others providers number lines)
    → script_of others providers number lines ≡ script_of hands providers number lines
same_scripts trade providers hands others spares sites number [] h k = refl
same_scripts trade providers hands others spares sites number (line ∷ lines) h k =
    let one = script_of hands providers (number + 1) lines
    in let other = script_of others providers (number + 1) lines
    in let first = said_by (hands number) providers number line
    in let said = said_alike spares (hands number) (others number) providers number line
    (first_handed trade number spares sites first one h)
    (first_handed trade number spares sites (said_by (others number) providers number line) other k)
    in ap (λ (what : Line). behind_line number what other) said
    ∙ lines_alike trade number spares sites first one other h
    (subst (λ (what : Line). IsHandedSo trade spares sites (behind_line number what other)) said k)
    (λ left after now again. same_scripts trade providers hands others left after (number + 1) lines now again)

-- ---- there are such spares

-- spares for a line, and those for the lines behind it
abbrev hands_on : Hands → ℕ → Option Patterns → Hands
hands_on hands number spare line = if line == number then spare else hands line

here_on : (hands : Hands) (number : ℕ) (spare : Option Patterns) → hands_on hands number spare number ≡ spare
here_on hands number spare = ap (λ (b : Bool). if b then spare else hands number) (eq-eqb number number refl)

later_on : (hands : Hands) (number : ℕ) (spare : Option Patterns) (line : ℕ) → number < line
    → hands_on hands number spare line ≡ hands line
later_on hands number spare line later =
    ap (λ (b : Bool). if b then spare else hands line) (ne_eqb line number (λ e. omega (arith, later, e)))

-- a script is that of the spares for its own lines
agree_from : (providers : List Provider) (hands others : Hands) (number : ℕ) (lines : List Bytes)
    → ((line : ℕ) → number ≤ line → hands line ≡ others line)
    → script_of hands providers number lines ≡ script_of others providers number lines
agree_from providers hands others number [] agree = refl
agree_from providers hands others number (line ∷ lines) agree =
    ap (λ (spare : Option Patterns). behind_line number (said_by spare providers number line)
    (script_of hands providers (number + 1) lines)) (agree number (omega arith))
    ∙ ap (behind_line number (said_by (others number) providers number line))
    (agree_from providers hands others (number + 1) lines (λ at later. agree at (omega (arith, later))))

module _ (trade : Trade) (providers : List Provider) where
  abbrev AreThere : List Patterns → List Site → ℕ → List Bytes → Type 0
  AreThere spares sites number lines =
      (hands : Hands) × IsHandedSo trade spares sites (script_of hands providers number lines)

  -- spares for the lines behind one, whatever that comes to
  abbrev Behind : ℕ → List Bytes → Type 0
  Behind number lines = (spares : List Patterns) (sites : List Site) → AreThere spares sites (number + 1) lines

  with_line : (spares : List Patterns) (sites : List Site) (number : ℕ) (line : Bytes) (lines : List Bytes) (rest : Hands)
      → IsHandedSo trade spares sites (behind_line number (said_by (last spares) providers number line)
      (script_of rest providers (number + 1) lines))
      → AreThere spares sites number (line ∷ lines)
  with_line spares sites number line lines rest all =
      let hands = hands_on rest number (last spares)
      in (
        hands,
        subst (IsHandedSo trade spares sites)
            (ap (behind_line number (said_by (last spares) providers number line))
            (agree_from providers rest hands (number + 1) lines
            (λ at later. sym (later_on rest number (last spares) at (omega (arith, later)))))
            ∙ ap (λ (spare : Option Patterns). behind_line number (said_by spare providers number line)
            (script_of hands providers (number + 1) lines)) (sym (here_on rest number (last spares))))
            all,
      )

  for_line : (spares : List Patterns) (sites : List Site) (number : ℕ) (line : Bytes) (lines : List Bytes) (what : Line)
      → said_by (last spares) providers number line ≡ what → HandsLine spares what → Behind number lines
      → (rest : Hands)
      × IsHandedSo trade spares sites (behind_line number what (script_of rest providers (number + 1) lines))
  for_line spares sites number line lines PassedOver said hands behind_it = behind_it spares sites
  for_line spares sites number line lines (Says command) said hands behind_it =
      let here = behind trade number sites command
      in let rest = behind_it (spares_left spares command here.answer) here.after
      in (rest.0, (hands, rest.1))
  for_line spares sites number line lines (SaysNone fault) said hands behind_it = ((λ at. None), tt)
  for_line spares sites number line lines TooLong said hands behind_it = ((λ at. None), tt)
  for_line spares sites number line lines TooMany said hands behind_it = ((λ at. None), tt)

  pub hands_there : (spares : List Patterns) (sites : List Site) (number : ℕ) (lines : List Bytes)
      → AreThere spares sites number lines
  hands_there spares sites number [] = ((λ at. None), tt)
  hands_there spares sites number (line ∷ lines) =
      let rest = for_line spares sites number line lines (said_by (last spares) providers number line) refl
      (last_said spares providers number line) (λ left after. hands_there left after (number + 1) lines)
      in with_line spares sites number line lines rest.0 rest.1
