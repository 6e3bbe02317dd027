-- How the text of a load is heard: the lines of its script say its commands, one each (`AreHeard`), and the whole, with
-- the directory in front, is `load_input`. This project's profile.
use Rattle.std.specs.Prelude.{ℕ, ◌≤◌, List, [], ◌∷◌, ◌++◌, codes, length}
use Rattle.pec_types.specs.Bytes.{Bytes}
use Rattle.pec_input.specs.Lines.{content_of}
use Rattle.pec_script.specs.Lines.{IsCommand}
use Rattle.pec_script.specs.declared.commands.Command.{Command}
use Rattle.pec_load.specs.Accounts.{load_directory, load_providers}
use Rattle.pec_load.specs.Generated.{generated}

-- how many bytes a line has at most, its end not counted
abbrev pub longest_line : ℕ
longest_line = 1000

-- A line says a command, in the directory of a load, and isn't long.
pub record IsHeard (line : Bytes) (command : Command) : Type 0 where
  pub says : IsCommand load_providers (content_of line) command
  pub short : length (content_of line) ≤ longest_line

-- Lines say these commands, one each.
abbrev pub AreHeard : List Bytes → List Command → Type 0
AreHeard [] [] = Unit {0}
AreHeard [] (command ∷ commands) = ⊥
AreHeard (line ∷ lines) [] = ⊥
AreHeard (line ∷ lines) (command ∷ commands) = IsHeard line command × AreHeard lines commands

-- a directory, the mark behind it, and a script
abbrev pub parted_by_mark : Bytes → Bytes → Bytes
parted_by_mark directory script = directory ++ (codes "%%\n" ++ script)

-- What a load of so many messages plays: its directory and its script.
abbrev pub load_input : ℕ → Bytes
load_input count = parted_by_mark load_directory (generated count)
