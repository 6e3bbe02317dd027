-- Doors: the replies to connections, and the door in memory. The headlines are `Reply` and `replied`. This project's profile.
use Rattle.std.specs.Prelude.{ℕ, ◌+◌, nat_lt, Bool, List, [], ◌∷◌, ◌++◌, drop, slice_index_or, Option, None, Some}
use Rattle.pec_outside.specs.Memory.{CallState, answered, no_calls}

-- What was written to a connection that was closed, and whether it had faults, so that closing it raised the door's count of
-- such connections.
pub record Reply : Type 0 where
  pub text : List ℕ
  pub raised : Bool

-- the reply to a connection to which this was written, with this count of faults
abbrev pub reply_of : List ℕ → ℕ → Reply
reply_of text faults = record { text = text; raised = nat_lt 0 faults }

-- the replies, and that to one connection more
abbrev pub replied : Option (List Reply) → Option (List ℕ) → ℕ → Option (List Reply)
replied None written faults = None
replied (Some replies) None faults = None
replied (Some replies) (Some text) faults = Some (replies ++ reply_of text faults ∷ [])

-- what one connection has to be read, and what the others have behind it
abbrev pub in_front : Option (List ℕ) → Option (List (List ℕ)) → Option (List (List ℕ))
in_front request None = None
in_front None (Some more) = None
in_front (Some request) (Some more) = Some (request ∷ more)

-- ---- in memory

-- the replies so far, and how many are still to come, for which there is room
pub record RepliesState : Type 0 where
  pub all : List Reply
  pub out : ℕ

-- a connection: what it still has to be read, what was written to it, and its calls, reads and writes together
pub record ConnectionState : Type 0 where
  pub rest : List ℕ
  pub bytes : List ℕ
  pub calls : CallState

pub record DoorState : Type 0 where
  pub requests : List (List ℕ)  -- those of the connections still to come
  pub broken : List (List ℕ)  -- which calls fail of each of these, none past the end
  pub replies : RepliesState
  pub faulty : ℕ  -- how many were closed with faults
  pub calls : CallState  -- those of accept

-- before the first connection
abbrev pub no_replies : List (List ℕ) → List (List ℕ) → List ℕ → DoorState
no_replies requests broken failing =
    record { requests = requests; broken = broken; replies = record { all = []; out = 0 }; faulty = 0; calls = no_calls failing }

-- a connection that was neither read nor written
abbrev pub unread : List ℕ → List ℕ → ConnectionState
unread request failing = record { rest = request; bytes = []; calls = no_calls failing }

-- the next connection and the door behind it, where so many requests are left
abbrev pub next_in : DoorState → List (List ℕ) → Option (ConnectionState × DoorState)
next_in door [] = None
next_in door (request ∷ more) = Some (
  unread request (slice_index_or door.broken 0 []),
  record door {
    requests = more;
    broken = drop 1 door.broken;
    replies = record door.replies { out = door.replies.out + 1 };
    calls = answered door.calls;
  },
)

-- the next connection and the door behind it, none where no request is left
abbrev pub next_of : DoorState → Option (ConnectionState × DoorState)
next_of door = next_in door door.requests
