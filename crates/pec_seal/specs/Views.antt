-- How contracts see the program's lines: without where they lie in memory.
use Rattle.std.specs.Prelude.{ℕ, List, Result, Ok, Err}
use Rattle.std.specs.Borrow.{Bor}
use Rattle.pec_seal.specs.Seals as seals
use Rattle.pec_seal.specs.declared.lines.Line.{Line}
use Rattle.pec_seal.specs.declared.seals.SealFault.{SealFault}

abbrev pub line_shown : Line → seals.Line
line_shown line = record { name = line.name.now; tag = line.tag; bytes = line.bytes.now }

-- who sealed a text, and what, or the fault
abbrev pub opened_shown : Result (ℕ × Bor (List ℕ)) SealFault → Result (ℕ × List ℕ) SealFault
opened_shown (Ok found) = Ok (found.0, found.1.now)
opened_shown (Err fault) = Err fault
