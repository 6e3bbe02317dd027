-- What a call answers that may always answer want of memory, said once for every crate. The headline is `ReadsExactly`, at
-- the end: what it means that a text is read exactly.
use Rattle.std.specs.Prelude.{◌≡◌, ◌≢◌, ◌↔◌, Result, Ok, Err, IfOk, IfErr}
use Rattle.std.proofs.Common.{sym, ◌∙◌}

-- an answer, its value seen so
abbrev pub seen_as : {X Y E : Type 0} → (X → Y) → Result X E → Result Y E
seen_as seen (Ok value) = Ok (seen value)
seen_as seen (Err fault) = Err fault

-- the answer is the one that is given, its value seen so, unless memory ran out
abbrev pub Gives : {X Y E : Type 0} → E → (X → Y) → Result X E → Result Y E → Type 0
Gives no_memory seen (Ok value) given = given ≡ Ok (seen value)
Gives no_memory seen (Err fault) given = fault ≢ no_memory → given ≡ Err fault

-- the answer is this one, unless memory ran out
abbrev pub OrNoMemory : {X E : Type 0} → E → Result X E → Result X E → Type 0
OrNoMemory no_memory answer given = Gives no_memory (λ value. value) answer given

-- A text is read exactly: its value is answered where it has one, and the fault that is its own otherwise. Want of memory
-- is free.
pub record ReadsExactly {X E : Type 0} (IsValue : X → Type 0) (IsFault : E → Type 0) (no_memory : E) (answer : Result X E) : Type 0 where
  -- the value that is answered is the text's
  pub value : IfOk answer IsValue
  -- the fault that is answered is the text's
  pub fault : IfErr answer (λ fault. fault ≢ no_memory → IsFault fault)
  -- a text that has a value is never refused, and has no other
  pub only : (value : X) → IsValue value → OrNoMemory no_memory answer (Ok value)
  -- a text that has a fault is never taken, and has no other
  pub each : (fault : E) → IsFault fault → OrNoMemory no_memory answer (Err fault)

-- A function beside the relations tells them: it is a value exactly where the text has that value, and a fault exactly where
-- that fault is the text's.
pub record TellsExactly {X E : Type 0} (IsValue : X → Type 0) (IsFault : E → Type 0) (told : Result X E) : Type 0 where
  pub value : (value : X) → (told ≡ Ok value) ↔ IsValue value
  pub fault : (fault : E) → (told ≡ Err fault) ↔ IsFault fault

-- what a function tells exactly, and a call answers as that function does, is read exactly
pub told_is_read : {X E : Type 0} (IsValue : X → Type 0) (IsFault : E → Type 0) (no_memory : E) (answer told : Result X E)
    → TellsExactly IsValue IsFault told → OrNoMemory no_memory answer told → ReadsExactly IsValue IsFault no_memory answer
told_is_read IsValue IsFault no_memory (Ok given) told tells same = record {
  value = (tells.value given).0 same;
  fault = tt;
  only = λ value is. sym ((tells.value value).1 is) ∙ same;
  each = λ fault is. sym ((tells.fault fault).1 is) ∙ same;
}
told_is_read IsValue IsFault no_memory (Err given) told tells same = record {
  value = tt;
  fault = λ stays. (tells.fault given).0 (same stays);
  only = λ value is stays. sym ((tells.value value).1 is) ∙ same stays;
  each = λ fault is stays. sym ((tells.fault fault).1 is) ∙ same stays;
}
