-- What is one thing has one number: the laws of the numbers by which rows are found.
use Rattle.std.proofs.Common.{◌≡◌, ℕ, ◌==◌, ◌+◌, ◌*◌, ◌^◌, Bool, true, ◌&&◌, Option, Some, None, sym}
use Rattle.std.specs.Cmp.{first_so, second_so}
use Rattle.std.specs.Cmp.Lexicographic.{bytes_decides}
use Rattle.std.specs.Hash.{u64}
use Rattle.std.specs.Hash.DefaultHasher.{finish, initial, write}
use Rattle.std.specs.List.{fold}
use Rattle.std.specs.Str.{bytes_eq}
use Rattle.std.proofs.lemmas.Bool.{eqb-true, false≢true}
use Rattle.pec_types.specs.Bytes.{Bytes}
use Rattle.pec_types.specs.Message.{Id}
use Rattle.pec_types.specs.declared.messages.TheConstants.{MESSAGES}
use Rattle.pec_ledger.specs.Pairs.{Pair, same_id, same_pair}
use Rattle.pec_shelf.specs.Drawers.{is_own}
use Rattle.pec_shelf.specs.Keys.{number_of_charge, number_of_id, number_of_owned, number_of_pair, number_of_rank}

pub of_id : (a b : Id) → same_id a b ≡ true → number_of_id b ≡ number_of_id a
unfolding number_of_id
of_id a b same i =
    sym (eqb-true a.provider b.provider (first_so (a.provider == b.provider) (a.number == b.number) same)) i * MESSAGES
    + sym (eqb-true a.number b.number (second_so (a.provider == b.provider) (a.number == b.number) same)) i

pub of_charge : (a b : Id) (by other : ℕ) → same_id a b && (by == other) ≡ true → number_of_charge b other ≡ number_of_charge a by
unfolding number_of_charge
of_charge a b by other same i =
    sym (eqb-true a.number b.number (second_so (a.provider == b.provider) (a.number == b.number) (first_so (same_id a b) (by == other) same))) i * 2 ^ 32
    + sym (eqb-true by other (second_so (same_id a b) (by == other) same)) i

pub of_pair : (a b : Pair) → same_pair a b ≡ true → number_of_pair b ≡ number_of_pair a
unfolding number_of_pair
of_pair a b same i =
    finish
    (write (fold write initial (u64 (of_id a.id b.id (first_so (same_id a.id b.id) (bytes_eq a.recipient b.recipient) same) i)))
    (sym ((bytes_decides a.recipient b.recipient).0 (second_so (same_id a.id b.id) (bytes_eq a.recipient b.recipient) same)) i))

pub of_second : (test : Bool) (a b : Pair) → test && same_pair a b ≡ true → number_of_pair b ≡ number_of_pair a
of_second test a b same = of_pair a b (second_so test (same_pair a b) same)

pub of_rank : (a b : Bytes) (rank other : ℕ) → bytes_eq a b && (rank == other) ≡ true
    → number_of_rank b other ≡ number_of_rank a rank
unfolding number_of_rank
of_rank a b rank other same i =
    finish
    (write (fold write initial (u64 (sym (eqb-true rank other (second_so (bytes_eq a b) (rank == other) same)) i)))
    (sym ((bytes_decides a b).0 (first_so (bytes_eq a b) (rank == other) same)) i))

pub of_owned : (account : Bytes) (owner : Option Bytes) (rank other : ℕ) → is_own account owner && (rank == other) ≡ true
    → number_of_owned owner other ≡ number_of_rank account rank
of_owned account None rank other same = absurd (false≢true same)
of_owned account (Some owner) rank other same = of_rank account owner rank other same
