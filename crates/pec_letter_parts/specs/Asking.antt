-- How a table of faults is asked, row by row: the first question that fails answers its fault.
use Rattle.std.specs.Prelude.{Bool, true, false, Option, None, Some, Result, Ok, Err}

-- the fault, unless the row's question is answered yes
abbrev pub claim : {E : Type 0} → Bool → E → Result Unit E
claim true fault = Ok tt
claim false fault = Err fault

-- the fault, unless there is what the row asks for
abbrev pub known : {X E : Type 0} → Option X → E → Result X E
known (Some value) fault = Ok value
known None fault = Err fault

-- the fault, unless what the row asks for can be read
abbrev pub readable : {X D E : Type 0} → Result X D → E → Result X E
readable (Ok value) fault = Ok value
readable (Err why) fault = Err fault
