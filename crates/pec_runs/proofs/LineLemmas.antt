-- What a line says can stand in a script.
use Rattle.std.proofs.Common.{◌≡◌, ℕ, ◌+◌, ◌<◌, ◌≤◌, Option, Some, List, [], ◌∷◌, Bool, true, false, length, refl, ap, sym, subst, ◌∙◌, arith, nat_lt, Result, Ok, Err}
use Rattle.std.specs.Prelude.{if◌then◌else◌}
use Rattle.std.specs.List.{AllByRecursion}
use Rattle.std.proofs.lemmas.List.{length-map}
use Rattle.std.proofs.lemmas.Option.{none-some}
use Rattle.pec_types.specs.Answers.{TellsExactly}
use Rattle.pec_types.specs.Address.{lowered}
use Rattle.pec_types.specs.Bytes.{Bytes, Path}
use Rattle.pec_directory.specs.Directory.{Provider}
use Rattle.pec_records.specs.Entry.{most_addresses}
use Rattle.pec_words.specs.Paths.{IsPath}
use Rattle.pec_script.specs.Forms.{Said, kinds_of, made}
use Rattle.pec_script.specs.Lines.{AllSay, IsCommand, IsLineFault}
use Rattle.pec_script.specs.LinesReading.{command_of}
use Rattle.pec_script.specs.declared.commands.Command.{Command as Written}
use Rattle.pec_script.specs.declared.faults.LineFault.{LineFault}
use Rattle.pec_script.specs.declared.verbs.Verb.{Verb}
use Rattle.pec_script.specs.declared.verbs.Verb.TheVariants as verbs
use Rattle.pec_ledger.specs.Network.{Site}
use Rattle.pec_ledger.specs.Trade.{Trade}
use Rattle.pec_plays.specs.Commands.{Command, Luck, Submit, Tick, Round, Lose, Repeat, Swap, Inject, Crash, Restart, Book, Mailbox, Show, Archive, Upgrade, Vault, VaultShow, Screen, played}
use Rattle.pec_plays.specs.Possible.{GaveWhatWasKept, IsOfKept}
use Rattle.pec_plays.specs.Scripts.{AllUnforged, IsUnforged, put_instead}
use Rattle.pec_plays.specs.Turns.{Cut, Whole, Fails, Full, Stops, Unread, Other, Sees}
use Rattle.pec_runs.specs.Endings.{End}
use Rattle.pec_runs.specs.Headline.{AllHonest, CanBeSaid, IsHonest, NoneInjected, PutsHonestly}
use Rattle.pec_input.specs.Lines.{content_of}
use Rattle.pec_runs.specs.ScriptLines.{Hands, Line, PassedOver, Says, SaysNone, TooLong, TooMany, behind_line, command_in, is_passed_over, line_by, longest_line, most_lines, said_by, script_of}
use Rattle.pec_screen.specs.Verdicts.{Patterns}

-- ---- arguments

module _ (spare : Option Patterns) (providers : List Provider) where
  path_bounds : (text : Bytes) (along : Path) → IsPath text along → (0 < length along) × (length along ≤ most_addresses)
  path_bounds text along is =
      let size : length along ≡ length is.parts = ap (λ l. length l) is.are.path_is ∙ length-map is.parts lowered
      in (omega (arith, size, is.cut.some), omega (arith, size, is.are.within))

  submit_can : (texts : List Bytes) (said : Said (kinds_of verbs.Submit))
      → AllSay providers (kinds_of verbs.Submit) texts said
      → CanBeSaid (command_in spare (made verbs.Submit said))
  submit_can [] said all = absurd all
  submit_can (a ∷ []) said all = absurd all.1
  submit_can (a ∷ b ∷ []) said all = absurd all.1.1
  submit_can (a ∷ b ∷ c ∷ []) said all = absurd all.1.1.1
  submit_can (a ∷ b ∷ c ∷ d ∷ rest) said all =
      let bounds = path_bounds d said.1.1.1.0 all.1.1.1.0
      in (bounds.0, bounds.1, all.1.0.1)

  tick_can : (texts : List Bytes) (said : Said (kinds_of verbs.Tick))
      → AllSay providers (kinds_of verbs.Tick) texts said
      → CanBeSaid (command_in spare (made verbs.Tick said))
  tick_can [] said all = absurd all
  tick_can (a ∷ []) said all = absurd all.1
  tick_can (a ∷ b ∷ rest) said all = all.1.0.1

  round_can : (texts : List Bytes) (said : Said (kinds_of verbs.Round))
      → AllSay providers (kinds_of verbs.Round) texts said
      → CanBeSaid (command_in spare (made verbs.Round said))
  round_can [] said all = absurd all
  round_can (a ∷ rest) said all = all.0.1

  archive_can : (texts : List Bytes) (said : Said (kinds_of verbs.Archive))
      → AllSay providers (kinds_of verbs.Archive) texts said
      → CanBeSaid (command_in spare (made verbs.Archive said))
  archive_can [] said all = absurd all
  archive_can (a ∷ []) said all = absurd all.1
  archive_can (a ∷ b ∷ rest) said all = all.1.0.1

  upgrade_can : (texts : List Bytes) (said : Said (kinds_of verbs.Upgrade))
      → AllSay providers (kinds_of verbs.Upgrade) texts said
      → CanBeSaid (command_in spare (made verbs.Upgrade said))
  upgrade_can [] said all = absurd all
  upgrade_can (a ∷ []) said all = absurd all.1
  upgrade_can (a ∷ b ∷ rest) said all = all.1.0.1

  made_can : (verb : Verb) (texts : List Bytes) (said : Said (kinds_of verb))
      → AllSay providers (kinds_of verb) texts said
      → CanBeSaid (command_in spare (made verb said))
  made_can verbs.Submit texts said all = submit_can texts said all
  made_can verbs.Tick texts said all = tick_can texts said all
  made_can verbs.Round texts said all = round_can texts said all
  made_can verbs.Lose texts said all = tt
  made_can verbs.Repeat texts said all = tt
  made_can verbs.Swap texts said all = tt
  made_can verbs.Inject texts said all = tt
  made_can verbs.Crash texts said all = tt
  made_can verbs.Restart texts said all = tt
  made_can verbs.Book texts said all = tt
  made_can verbs.Mailbox texts said all = tt
  made_can verbs.Show texts said all = tt
  made_can verbs.Archive texts said all = archive_can texts said all
  made_can verbs.Upgrade texts said all = upgrade_can texts said all
  made_can verbs.Vault texts said all = tt
  made_can verbs.VaultShow texts said all = tt
  made_can verbs.Screen texts said all = tt

-- ---- lines

-- what the law of lines says
abbrev pub ReadsSo : Type 0
ReadsSo = (providers : List Provider) (line : Bytes)
    → TellsExactly (IsCommand providers line) (IsLineFault providers line) (command_of providers line)

-- A line that says a command says one that can stand in a script.
abbrev pub LineCan : Line → Type 0
LineCan PassedOver = Unit {0}
LineCan (Says command) = CanBeSaid command
LineCan (SaysNone fault) = Unit {0}
LineCan TooLong = Unit {0}
LineCan TooMany = Unit {0}

module _ (reads : ReadsSo) (spare : Option Patterns) (providers : List Provider) where
  read_can : (content : Bytes) (told : Result Written LineFault) → command_of providers content ≡ told
      → LineCan (line_by spare told)
  read_can content (Err fault) e = tt
  read_can content (Ok written) e =
      let is = ((reads providers content).value written).0 e
      in subst (λ (w : Written). CanBeSaid (command_in spare w)) (sym is.command_is)
      (made_can spare providers is.verb is.arguments is.said is.arguments_say)

  by_test : (b : Bool) (x y : Line) → LineCan x → LineCan y → LineCan (if b then x else y)
  by_test true x y a b = a
  by_test false x y a b = b

  pub line_can : (number : ℕ) (line : Bytes) → LineCan (said_by spare providers number line)
  unfolding said_by
  line_can number line =
      by_test (nat_lt most_lines number) _ _ tt
      (by_test (nat_lt longest_line (length (content_of line))) _ _ tt
      (by_test (is_passed_over (content_of line)) _ _ tt
      (read_can (content_of line) (command_of providers (content_of line)) refl)))

behind_can : (number : ℕ) (line : Line) (commands : List Command) (end : End) → LineCan line
    → AllByRecursion CanBeSaid commands
    → AllByRecursion CanBeSaid (behind_line number line (record { commands = commands; end = end })).commands
behind_can number PassedOver commands end can all = all
behind_can number (Says command) commands end can all = (can, all)
behind_can number (SaysNone fault) commands end can all = tt
behind_can number TooLong commands end can all = tt
behind_can number TooMany commands end can all = tt

module _ (reads : ReadsSo) (hands : Hands) (providers : List Provider) where
  pub script_can : (number : ℕ) (lines : List Bytes)
      → AllByRecursion CanBeSaid (script_of hands providers number lines).commands
  script_can number [] = tt
  script_can number (line ∷ lines) =
      behind_can number (said_by (hands number) providers number line) (script_of hands providers (number + 1) lines).commands
      (script_of hands providers (number + 1) lines).end (line_can reads (hands number) providers number line)
      (script_can (number + 1) lines)

-- ---- no forged frame

pub one_unforged : (trade : Trade) (luck : Luck) (sites : List Site) (command : Command) → CanBeSaid command
    → IsHonest trade sites command → PutsHonestly trade luck sites command
    → IsUnforged trade luck sites command
one_unforged trade luck sites (Submit p now sender along message) can honest puts = can
one_unforged trade luck sites (Tick p now) can honest puts = can
one_unforged trade luck sites (Round now) can honest puts = (can, puts)
one_unforged trade luck sites (Lose from to at) can honest puts = tt
one_unforged trade luck sites (Repeat from to at) can honest puts = tt
one_unforged trade luck sites (Swap from to at) can honest puts = tt
one_unforged trade luck sites (Inject from to frame) can honest puts = honest
one_unforged trade luck sites (Crash p) can honest puts = tt
one_unforged trade luck sites (Restart p) can honest puts = tt
one_unforged trade luck sites (Book account) can honest puts = tt
one_unforged trade luck sites (Mailbox account) can honest puts = tt
one_unforged trade luck sites (Show account at) can honest puts = tt
one_unforged trade luck sites (Archive account now at) can honest puts = can
one_unforged trade luck sites (Upgrade p now) can honest puts = can
one_unforged trade luck sites (Vault account) can honest puts = tt
one_unforged trade luck sites (VaultShow account at) can honest puts = tt
one_unforged trade luck sites (Screen p at spare) can honest puts = tt

pub all_unforged : (trade : Trade) (lucks : List Luck) (sites : List Site) (commands : List Command)
    → AllByRecursion CanBeSaid commands → AllHonest trade lucks sites commands → AllUnforged trade lucks sites commands
all_unforged trade [] sites commands can honest = tt
all_unforged trade (luck ∷ lucks) sites [] can honest = tt
all_unforged trade (luck ∷ lucks) sites (c ∷ commands) can honest = (
  one_unforged trade luck sites c can.0 honest.0 honest.1,
  all_unforged trade lucks (played trade luck sites c).after commands can.1 honest.2,
)

-- ---- frames that are put as they were kept

-- a turn that gave back what was kept puts no other frames
none_instead : (cut : Cut) (out : List (List Bytes)) → IsOfKept cut → put_instead cut ≡ Some out → ⊥
none_instead Whole out kept other = absurd (none-some out other)
none_instead (Fails number fault) out kept other = absurd (none-some out other)
none_instead (Full number) out kept other = absurd (none-some out other)
none_instead (Stops number) out kept other = absurd (none-some out other)
none_instead (Unread number fault) out kept other = absurd (none-some out other)
none_instead (Other out_then) out kept other = absurd kept
none_instead (Sees looks cut) out kept other = absurd kept

-- where each turn put what was due, none of its frames is forged
pub puts_kept : (trade : Trade) (luck : Luck) (sites : List Site) (command : Command) → GaveWhatWasKept luck
    → PutsHonestly trade luck sites command
puts_kept trade luck sites (Submit p now sender along message) kept = tt
puts_kept trade luck sites (Tick p now) kept = tt
puts_kept trade luck sites (Round now) kept = λ p out within other. absurd (none_instead (luck.cuts p) out (kept p) other)
puts_kept trade luck sites (Lose from to at) kept = tt
puts_kept trade luck sites (Repeat from to at) kept = tt
puts_kept trade luck sites (Swap from to at) kept = tt
puts_kept trade luck sites (Inject from to frame) kept = tt
puts_kept trade luck sites (Crash p) kept = tt
puts_kept trade luck sites (Restart p) kept = tt
puts_kept trade luck sites (Book account) kept = tt
puts_kept trade luck sites (Mailbox account) kept = tt
puts_kept trade luck sites (Show account at) kept = tt
puts_kept trade luck sites (Archive account now at) kept = tt
puts_kept trade luck sites (Upgrade p now) kept = tt
puts_kept trade luck sites (Vault account) kept = tt
puts_kept trade luck sites (VaultShow account at) kept = tt
puts_kept trade luck sites (Screen p at spare) kept = tt

pub all_honest : (trade : Trade) (lucks : List Luck) (sites : List Site) (commands : List Command)
    → AllByRecursion GaveWhatWasKept lucks → NoneInjected trade lucks sites commands
    → AllHonest trade lucks sites commands
all_honest trade [] sites commands kept none = tt
all_honest trade (luck ∷ lucks) sites [] kept none = tt
all_honest trade (luck ∷ lucks) sites (c ∷ commands) kept none = (
  none.0,
  puts_kept trade luck sites c kept.0,
  all_honest trade lucks (played trade luck sites c).after commands kept.1 none.1,
)
