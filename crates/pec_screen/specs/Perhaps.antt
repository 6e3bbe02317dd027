-- What a judge has, where there may be none.
use Rattle.std.specs.Prelude.{List, [], Option, Some, None}

-- the list that a judge has, and an empty one where there is none
abbrev pub all_of : {J X : Type 0} → (J → List X) → Option J → List X
all_of had None = []
all_of had (Some judge) = had judge
