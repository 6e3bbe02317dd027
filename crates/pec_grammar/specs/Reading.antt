-- What the code's readers answer, against the reading of a grammar: `Gives`, and `MayGive` where memory may run out.
use Rattle.std.specs.Prelude.{◌≡◌, ℕ, List, Result, Ok, Err}
use Rattle.std.specs.Borrow.{Bor}
use Rattle.pec_grammar.specs.Grammar.{Cursor}
use Rattle.pec_grammar.specs.declared.cursors.Cursor.{Cursor as Place}
use Rattle.pec_grammar.specs.declared.cursors.Stop.{Stop}
use Rattle.pec_grammar.specs.declared.cursors.ReadError.{ReadError}
use Rattle.pec_grammar.specs.declared.cursors.ReadError.TheVariants as errors

-- where a reader stands, without where its bytes lie in memory
abbrev pub standing : Place → Cursor
standing at = record { rest = at.rest.now; farthest = at.farthest.now }

-- what a function returned, seen by view, is what reading gives
abbrev pub Gives : {X Y : Type 0} → (X → Y) → Result X Stop → Result Y (List ℕ) → Type 0
Gives view (Ok x) read = read ≡ Ok (view x)
Gives view (Err stop) read = read ≡ Err stop.rest.now

-- a stop is that of the reading; want of memory is free
abbrev pub Fails : {Y : Type 0} → ReadError → Result Y (List ℕ) → Type 0
Fails errors.NoMemory read = Unit {0}
Fails (errors.Stop stop) read = read ≡ Err stop.rest.now

-- the same, unless memory ran out
abbrev pub MayGive : {X Y : Type 0} → (X → Y) → Result X ReadError → Result Y (List ℕ) → Type 0
MayGive view (Ok x) read = read ≡ Ok (view x)
MayGive view (Err e) read = Fails e read

-- a word of a table with its value
abbrev pub entry : {T : Type 0} → Bor (List ℕ) × T → List ℕ × T
entry e = (e.0.now, e.1)
