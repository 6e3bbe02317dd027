-- The replies at a door in memory as the program keeps them: texts, and beside each whether closing raised the door's count.
-- This project's profile.
use Rattle.std.specs.Prelude.{◌≡◌, ℕ, ◌+◌, ◌≤◌, Bool, List, [], ◌∷◌, Vec, vec_len, vec_capacity}
use Rattle.std.specs.declared.alloc.Global.{Global}
use Rattle.pec_outside.specs.Doors.{Reply}

-- the replies of these texts
abbrev pub replies_of : List (List ℕ) → List Bool → List Reply
replies_of [] raised = []
replies_of (text ∷ texts) [] = []
replies_of (text ∷ texts) (flag ∷ raised) = record { text = text; raised = flag } ∷ replies_of texts raised

-- one flag for each text, and room for so many more
pub record HasRoom (texts : Vec (List ℕ) Global) (raised : Vec Bool Global) (count : ℕ) : Type 0 where
  pub beside : vec_len texts ≡ vec_len raised
  pub for_texts : vec_len texts + count ≤ vec_capacity texts
  pub for_flags : vec_len raised + count ≤ vec_capacity raised
