-- Worked examples: inputs and their parts, lines and what they say, lines that are written, and runs in the small
-- world of the ledger. Its providers are alfa, the number 0, and beta, the number 1.
use Rattle.std.specs.Prelude.{List, [], ◌∷◌, codes, replicate, None}
use Rattle.pec_types.specs.Bytes.{Bytes}
use Rattle.pec_directory.specs.Directory.{Provider}
use Rattle.pec_ledger.specs.Network.{Site}
use Rattle.pec_ledger.specs.SmallWorld.{small}
use Rattle.pec_plays.specs.Commands.{Answer, LinkFull, Lost, Luck, NoFrame, Refuses, Turns}
use Rattle.pec_plays.specs.Examples.{calm, failing, finding, turn_of, unread, with_a_fault, with_a_look}
use Rattle.pec_types.specs.declared.turns.Event.TheVariants as events
use Rattle.pec_types.specs.declared.turns.ProviderFault.TheVariants as faults
use Rattle.pec_runs.specs.Endings.{Done}
use Rattle.pec_runs.specs.Openings.{opened}
use Rattle.pec_runs.specs.ScriptLines.{Hands, Script}

-- ---- a directory of two providers

-- a provider of this name, with one domain and without accounts
abbrev pub provider_named : Bytes → Bytes → Provider
provider_named name domain = record {
  name = name;
  receipts = [];
  domains = domain ∷ [];
  key = [];
  rule = [];
  limit = 1000;
  accounts = [];
}

-- alfa and beta, each with a domain
abbrev pub two : List Provider
two = provider_named (codes "alfa") (codes "alfa.example") ∷ provider_named (codes "beta") (codes "beta.example") ∷ []

-- ---- inputs

-- the first mark parts it, and the second is a line of the script
abbrev pub twice_marked : Bytes
twice_marked = codes "name\n%%\r\n# remark\n%%\nlast"

-- a mark has nothing beside it
abbrev pub unmarked : Bytes
unmarked = codes "name\n%%%\n %%\n"

-- ---- a script of six lines, the fifth of which is refused

-- a remark, an empty line, a crash and a restart of beta, a crash of gamma, which is no provider, and a crash of alfa
abbrev pub six_lines : List Bytes
six_lines =
    codes "# remark\n" ∷ codes "\r\n" ∷ codes "crash beta\n" ∷ codes "restart beta\r\n" ∷ codes "crash gamma\n"
    ∷ codes "crash alfa\n" ∷ []

-- no spare is at hand
abbrev pub none_left : Hands
none_left number = None

-- ---- lines that are written

-- what links answer, two refusals, and a round in which alfa dropped a frame and put three for beta
abbrev pub some_answers : List Answer
some_answers =
    Lost ∷ NoFrame ∷ LinkFull ∷ Refuses faults.DiskFault ∷ Refuses (faults.ClockBack 7)
    ∷ Turns (turn_of 0 (events.Dropped ∷ []) ((1, 3) ∷ []) None ∷ turn_of 1 [] [] None ∷ []) ∷ []

-- ---- runs

-- an append that fails in the second round, and a restart that finds the entry
abbrev pub faulty_lucks : List Luck
faulty_lucks = calm ∷ calm ∷ failing 1 ∷ calm ∷ finding ∷ calm ∷ []

-- the script that meets these lucks, played to its end
abbrev pub faulty_script : Script
faulty_script = record { commands = with_a_fault; end = Done }

-- the read of an item that is to be shown fails
abbrev pub unread_lucks : List Luck
unread_lucks = calm ∷ calm ∷ calm ∷ unread ∷ calm ∷ finding ∷ []

-- the script that meets these lucks
abbrev pub looking_script : Script
looking_script = record { commands = with_a_look; end = Done }

-- a full link, from alfa to alfa
abbrev pub full_link : List Site
full_link = record (opened small [] []) { waiting = replicate 64 [] ∷ [] ∷ [] } ∷ opened small [] [] ∷ []
