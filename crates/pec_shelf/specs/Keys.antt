-- Numbers by which rows are found: what is one thing has one number, and most things have one of their own. No promise
-- rests on which numbers these are.
use Rattle.std.specs.Prelude.{ℕ, ◌+◌, ◌*◌, ◌^◌, List, map, Option, Some, None}
use Rattle.std.specs.Hash.{u64}
use Rattle.std.specs.Hash.DefaultHasher.{finish, initial, write}
use Rattle.std.specs.List.{fold}
use Rattle.pec_types.specs.Bytes.{Bytes}
use Rattle.pec_types.specs.Message.{Id}
use Rattle.pec_types.specs.declared.messages.TheConstants.{MESSAGES}
use Rattle.pec_ledger.specs.Pairs.{Pair}
use Rattle.pec_shelf.specs.Drawers.{RankedRow}

-- the number of an id: its own
unfoldable pub number_of_id : Id → ℕ
number_of_id id = id.provider * MESSAGES + id.number

-- the number of a message of this provider, and of a provider that may have taken charge of it: its own
unfoldable pub number_of_charge : Id → ℕ → ℕ
number_of_charge id by = id.number * 2 ^ 32 + by

-- the number of a pair: SipHash of both parts
unfoldable pub number_of_pair : Pair → ℕ
number_of_pair pair = finish (write (fold write initial (u64 (number_of_id pair.id))) pair.recipient)

-- the number of an account's row of a rank: SipHash of both
unfoldable pub number_of_rank : Bytes → ℕ → ℕ
number_of_rank account rank = finish (write (fold write initial (u64 rank)) account)

-- the number of a row with an owner and a rank: nobody's row isn't looked for
abbrev pub number_of_owned : Option Bytes → ℕ → ℕ
number_of_owned None rank = 0
number_of_owned (Some account) rank = number_of_rank account rank

-- the numbers of the rows' accounts
abbrev pub owners_in : {R : Type 0} → (R → Option Bytes) → List (RankedRow R) → List ℕ
owners_in {R} owner ranked = map (λ (r : RankedRow R). number_of_owned (owner r.row) 0) ranked
