-- What a contract sees of a reader that is a source, and of a writer that is a sink: `Device`. This project's profile.
use Rattle.std.specs.Prelude.{ℕ}

-- A reader or a writer, and how many of its calls failed.
pub record Device (X : Type 0) : Type 0 where
  pub device : X
  pub faults : ℕ

-- with no fault yet
abbrev pub fresh : {X : Type 0} → X → Device X
fresh device = record { device = device; faults = 0 }
