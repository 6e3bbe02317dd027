-- The room in which an entry is framed, so that one write puts it behind the closed gate. This project's profile.
use Rattle.std.specs.Prelude.{ℕ, ◌-◌, List, [], ◌∷◌, Option, None, Some, Vec, vec_capacity}
use Rattle.std.specs.declared.alloc.Global.{Global}
use Rattle.pec_journal.specs.JournalFile.{framing}

pub record RoomState : Type 0 where
  pub spare : ℕ  -- an entry of so many bytes finds room
  pub bytes : List ℕ  -- what was framed last

-- no bytes, framed, and a closed gate behind them
abbrev pub empty_frame : List ℕ
empty_frame = 0 ∷ 0 ∷ 0 ∷ 0 ∷ 0 ∷ []

abbrev pub room_of : Option (Vec ℕ Global) → RoomState
room_of None = record { spare = 0; bytes = empty_frame }
room_of (Some bytes) = record { spare = vec_capacity bytes - framing; bytes = bytes.items }
