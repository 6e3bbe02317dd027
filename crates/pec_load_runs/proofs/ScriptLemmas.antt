-- What a load plays is within all limits, and its run begins.
use Rattle.std.proofs.Common.{◌≡◌, ℕ, zero, suc, ◌+◌, ◌*◌, ◌≤◌, Bool, true, false, cond, eqb, List, [], ◌∷◌, ◌++◌, codes, length, map, Option, Some, None, Ok, refl, ◌∙◌, ap, arith, slice_get}
use Rattle.std.proofs.lemmas.Bool.{le-ltb}
use Rattle.std.specs.List.{AllByRecursion, flat_map, join_with_byte, range_with_len}
use Rattle.pec_types.specs.Bytes.{Bytes, space}
use Rattle.pec_directory.specs.Directory.{Provider}
use Rattle.pec_input.specs.Directory.{directory_in}
use Rattle.pec_input.specs.Lines.{content_of, raw_lines}
use Rattle.pec_input.specs.Parts.{Parts, parts_of}
use Rattle.pec_input.specs.declared.opening.TheConstants.{LONGEST_DIRECTORY}
use Rattle.pec_plays.specs.Commands.{Restart}
use Rattle.pec_screen.specs.Verdicts.{Patterns}
use Rattle.pec_script.specs.Forms.{form_of}
use Rattle.pec_script.specs.Lines.{IsCommand}
use Rattle.pec_script.specs.declared.commands.Command.{Command as Written}
use Rattle.pec_script.specs.declared.commands.Command.TheVariants as written
use Rattle.pec_script.specs.declared.verbs.Verb.{Verb}
use Rattle.pec_script.specs.declared.verbs.Verb.TheVariants.{Submit, Tick, Round, Lose, Repeat, Swap, Inject, Crash, Book, Mailbox, Show, Archive, Upgrade, Vault, VaultShow, Screen}
use Rattle.pec_script.specs.declared.verbs.Verb.TheVariants as verbs
use Rattle.pec_load.specs.Accounts.{load_directory, load_providers}
use Rattle.pec_load.specs.Generated.{commands_at, commands_of, end_commands, end_moment, ends_batch, generated}
use Rattle.pec_load.specs.Heard.{AreHeard, load_input, parted_by_mark}
use Rattle.pec_load_runs.specs.Loading.{load_asked, load_script}
use Rattle.pec_runs.specs.Endings.{Done, LongDirectory}
use Rattle.pec_runs.specs.Happened.{Begun, Halted, Over, by_directory, by_form, by_script, stage_of}
use Rattle.pec_runs.specs.Openings.{Run}
use Rattle.pec_runs.specs.ScriptLines.{Hands, Says, behind_line, command_in, is_passed_over, longest_line, most_lines, onto_script, said_by, script_of}

-- what laws of lower crates say
pub record Told : Type 0 where
  pub parted : (script : Bytes) → parts_of (raw_lines (parted_by_mark load_directory script))
      ≡ record { directory = load_directory; script = Some (raw_lines script) }
  pub short : length load_directory ≤ LONGEST_DIRECTORY
  pub said : directory_in load_directory ≡ Ok load_providers
  pub heard : (count : ℕ) → count ≤ 20000 → AreHeard (raw_lines (generated count)) (commands_of count)
  pub few : (count : ℕ) → length (commands_of count) ≤ 6 * count
  pub says : (spare : Option Patterns) (providers : List Provider) (number : ℕ) (line : Bytes) (command : Written) → number ≤ most_lines
      → length (content_of line) ≤ longest_line → is_passed_over (content_of line) ≡ false
      → IsCommand providers (content_of line) command → said_by spare providers number line ≡ Says (command_in spare command)

-- ---- a line that says a command isn't passed over

begun_by : (b : ℕ) (bs : Bytes) (others : List Bytes) → is_passed_over (join_with_byte space ((b ∷ bs) ∷ others)) ≡ eqb b 35
begun_by b bs [] = refl
begun_by b bs (other ∷ others) = refl

by_verb : (verb : Verb) (arguments : List Bytes) → is_passed_over (join_with_byte space ((form_of verb).word ∷ arguments)) ≡ false
by_verb Submit arguments = begun_by 115 (codes "ubmit") arguments
by_verb Tick arguments = begun_by 116 (codes "ick") arguments
by_verb Round arguments = begun_by 114 (codes "ound") arguments
by_verb Lose arguments = begun_by 108 (codes "ose") arguments
by_verb Repeat arguments = begun_by 114 (codes "epeat") arguments
by_verb Swap arguments = begun_by 115 (codes "wap") arguments
by_verb Inject arguments = begun_by 105 (codes "nject") arguments
by_verb Crash arguments = begun_by 99 (codes "rash") arguments
by_verb verbs.Restart arguments = begun_by 114 (codes "estart") arguments
by_verb Book arguments = begun_by 98 (codes "ook") arguments
by_verb Mailbox arguments = begun_by 109 (codes "ailbox") arguments
by_verb Show arguments = begun_by 115 (codes "how") arguments
by_verb Archive arguments = begun_by 97 (codes "rchive") arguments
by_verb Upgrade arguments = begun_by 117 (codes "pgrade") arguments
by_verb Vault arguments = begun_by 118 (codes "ault") arguments
by_verb VaultShow arguments = begun_by 118 (codes "ault-show") arguments
by_verb Screen arguments = begun_by 115 (codes "creen") arguments

not_passed : (providers : List Provider) (line : Bytes) (command : Written) → IsCommand providers line command → is_passed_over line ≡ false
not_passed providers line command is = ap is_passed_over is.line_is.joined ∙ by_verb is.verb is.arguments

-- ---- what a load plays

-- it hands in messages, and has clock calls and rounds
abbrev IsOfLoads : Written → Type 0
IsOfLoads (written.Submit provider moment sender path message) = Unit {0}
IsOfLoads (written.Tick provider moment) = Unit {0}
IsOfLoads (written.Round moment) = Unit {0}
IsOfLoads _ = ⊥

all_both : (xs ys : List Written) → AllByRecursion IsOfLoads xs → AllByRecursion IsOfLoads ys → AllByRecursion IsOfLoads (xs ++ ys)
all_both [] ys h k = k
all_both (x ∷ xs) ys h k = (h.0, all_both xs ys h.1 k)

end_if : (x : Bool) (moment : ℕ) → AllByRecursion IsOfLoads (cond x (end_commands moment) [])
end_if true moment = (tt, (tt, (tt, (tt, (tt, tt)))))
end_if false moment = tt

all_of_loads : (count a n : ℕ) → AllByRecursion IsOfLoads (flat_map (commands_at count) (range_with_len a n))
all_of_loads count a zero = tt
all_of_loads count a (suc n) =
    all_both (commands_at count a) (flat_map (commands_at count) (range_with_len (a + 1) n))
    (tt, end_if (ends_batch count a) (end_moment count a)) (all_of_loads count (a + 1) n)

-- whatever spare is at hand, it is the same
same_in : (spare : Option Patterns) (command : Written) → IsOfLoads command → command_in spare command ≡ command_in None command
same_in spare (written.Submit provider moment sender path message) is = refl
same_in spare (written.Tick provider moment) is = refl
same_in spare (written.Round moment) is = refl
same_in spare (written.Lose from to place) is = refl
same_in spare (written.Repeat from to place) is = refl
same_in spare (written.Swap from to place) is = refl
same_in spare (written.Inject from to frame) is = refl
same_in spare (written.Crash provider) is = refl
same_in spare (written.Restart provider) is = refl
same_in spare (written.Book address) is = refl
same_in spare (written.Mailbox address) is = refl
same_in spare (written.Show address place) is = refl
same_in spare (written.Archive address moment place) is = refl
same_in spare (written.Upgrade provider moment) is = refl
same_in spare (written.Vault address) is = refl
same_in spare (written.VaultShow address place) is = refl
same_in spare (written.Screen provider place) is = absurd is

-- ---- the script

heard_script : Told → (hands : Hands) (number : ℕ) (lines : List Bytes) (commands : List Written)
    → AllByRecursion IsOfLoads commands → AreHeard lines commands → number + length commands ≤ 1000001
    → script_of hands load_providers number lines ≡ record { commands = map (command_in None) commands; end = Done }
heard_script told hands number [] [] of heard few = refl
heard_script told hands number [] (command ∷ commands) of heard few = absurd heard
heard_script told hands number (line ∷ lines) [] of heard few = absurd heard
heard_script told hands number (line ∷ lines) (command ∷ commands) of heard few =
    let is = heard.0 in
    let short : length (content_of line) ≤ 1000 = is.short in
    let says = told.says (hands number) load_providers number line command (omega arith) (omega arith)
    (not_passed load_providers (content_of line) command is.says) is.says
    ∙ ap Says (same_in (hands number) command of.0) in
    ap (λ said. behind_line number said (script_of hands load_providers (number + 1) lines)) says
    ∙ ap (onto_script (command_in None command)) (heard_script told hands (number + 1) lines commands of.1 heard.1 (omega arith))

load_heard : Told → (hands : Hands) (count : ℕ) → count ≤ 20000
    → script_of hands load_providers 1 (raw_lines (generated count)) ≡ load_script count
load_heard told hands count few =
    let all : length (commands_of count) ≤ 6 * count = told.few count in
    heard_script told hands 1 (raw_lines (generated count)) (commands_of count) (all_of_loads count 0 count)
    (told.heard count few) (omega arith)

-- ---- how far it comes without its disks

by_parts : Told → (hands : Hands) (count : ℕ) → count ≤ 20000 → (parts : Parts)
    → parts ≡ record { directory = load_directory; script = Some (raw_lines (generated count)) }
    → by_form hands false parts (Some Run) ≡ Begun Run (load_script count)
by_parts told hands count few parts are =
    ap (λ (p : Parts). by_form hands false p (Some Run)) are
    ∙ (ap (λ x. cond x (Over LongDirectory) (by_script hands Run load_directory (Some (raw_lines (generated count)))))
    (le-ltb LONGEST_DIRECTORY (length load_directory) told.short)
    ∙ (ap (by_directory hands Run (raw_lines (generated count))) told.said
    ∙ ap (Begun Run) (load_heard told hands count few)))

pub load_begins : Told → (screens : List (List Patterns)) (hands : Hands) (count : ℕ) → count ≤ 20000 → (parts : Parts)
    → parts ≡ parts_of (raw_lines (load_input count))
    → stage_of (load_asked screens) hands false parts ≡ Begun Run (load_script count)
unfolding stage_of
load_begins told screens hands count few parts are = by_parts told hands count few parts (are ∙ told.parted (generated count))

pub load_halts : (screens : List (List Patterns)) (hands : Hands) (parts : Parts)
    → stage_of (load_asked screens) hands true parts ≡ Halted
unfolding stage_of
load_halts screens hands parts = refl

-- ---- no provider is restarted

no_restart : (command : Written) → IsOfLoads command → (provider : ℕ) → Some (command_in None command) ≡ Some (Restart provider) → ⊥
no_restart (written.Submit asked moment sender path message) is provider e = cc
no_restart (written.Tick asked moment) is provider e = cc
no_restart (written.Round moment) is provider e = cc
no_restart (written.Lose from to place) is provider e = is
no_restart (written.Repeat from to place) is provider e = is
no_restart (written.Swap from to place) is provider e = is
no_restart (written.Inject from to frame) is provider e = is
no_restart (written.Crash asked) is provider e = is
no_restart (written.Restart asked) is provider e = is
no_restart (written.Book address) is provider e = is
no_restart (written.Mailbox address) is provider e = is
no_restart (written.Show address place) is provider e = is
no_restart (written.Archive address moment place) is provider e = is
no_restart (written.Upgrade asked moment) is provider e = is
no_restart (written.Vault address) is provider e = is
no_restart (written.VaultShow address place) is provider e = is
no_restart (written.Screen asked place) is provider e = is

none_at : (commands : List Written) → AllByRecursion IsOfLoads commands → (k provider : ℕ)
    → slice_get (map (command_in None) commands) k ≡ Some (Restart provider) → ⊥
none_at [] is k provider e = cc
none_at (command ∷ commands) is zero provider e = no_restart command is.0 provider e
none_at (command ∷ commands) is (suc k) provider e = none_at commands is.1 k provider e

pub never_restarts : (count k provider : ℕ) → slice_get (load_script count).commands k ≡ Some (Restart provider) → ⊥
never_restarts count k provider e = none_at (commands_of count) (all_of_loads count 0 count) k provider e
