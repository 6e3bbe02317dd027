-- How many bytes an entry makes its journal longer.
use Rattle.std.proofs.Common.{◌≡◌, ℕ, ◌+◌, ◌<◌, List, [], ◌∷◌, ◌++◌, length, take, get_or, refl, ap, arith, length-append, append-nil}
use Rattle.std.specs.List.{flat_map}
use Rattle.pec_types.specs.Bytes.{Bytes, Path}
use Rattle.pec_types.specs.Message.{Id}
use Rattle.pec_types.specs.declared.messages.Cause.{Cause}
use Rattle.pec_types.specs.declared.messages.Decision.{Decision}
use Rattle.pec_types.specs.declared.messages.Decision.TheVariants as decisions
use Rattle.pec_types.specs.declared.messages.Refusal.TheVariants as refusals
use Rattle.pec_records.specs.Entry.{number_16, number_32, number_64, address_field, bytes_field, addresses_field, id_field, decision_field, cause_field}
use Rattle.pec_records.specs.declared.entries.Entry.TheVariants as entries
use Rattle.pec_ledger.specs.Steps.{size_of}
use Rattle.pec_shelf.proofs.LoopLemmas.{take_one}

long : (xs ys : List ℕ) (a b : ℕ) → length xs ≡ a → length ys ≡ b → length (xs ++ ys) ≡ a + b
long xs ys a b x y = omega (arith, length-append xs ys, x, y)

number_16_long : (n : ℕ) → length (number_16 n) ≡ 2
unfolding number_16
number_16_long n = omega arith

number_32_long : (n : ℕ) → length (number_32 n) ≡ 4
unfolding number_32
number_32_long n = omega arith

number_64_long : (n : ℕ) → length (number_64 n) ≡ 8
unfolding number_64
number_64_long n = omega arith

id_long : (id : Id) → length (id_field id) ≡ 12
id_long id = long (number_32 id.provider) (number_64 id.number) 4 8 (number_32_long id.provider) (number_64_long id.number)

pub address_long : (address : Bytes) → length (address_field address) ≡ 2 + length address
address_long address = long (number_16 (length address)) address 2 (length address) (number_16_long (length address)) refl

addresses_long : (addresses : Path) → length (addresses_field addresses) ≡ 4 + length (flat_map address_field addresses)
addresses_long addresses = long (number_32 (length addresses)) (flat_map address_field addresses) 4 _ (number_32_long (length addresses)) refl

bytes_long : (bytes : Bytes) → length (bytes_field bytes) ≡ 4 + length bytes
bytes_long bytes = long (number_32 (length bytes)) bytes 4 (length bytes) (number_32_long (length bytes)) refl

decision_long : (d : Decision) → length (decision_field d) ≡ 1
decision_long decisions.Placed = refl
decision_long (decisions.Refused refusals.NoMailbox) = refl
decision_long (decisions.Refused refusals.MailboxFull) = refl
decision_long (decisions.Refused refusals.Virus) = refl

cause_long : (c : Cause) → length (cause_field c) ≡ 1
cause_long c = refl

-- what a further address adds
pub addresses_joined : (addresses : Path) (address : Bytes)
    → length (flat_map address_field (addresses ++ address ∷ [])) ≡ length (flat_map address_field addresses) + (2 + length address)
addresses_joined [] address = omega (arith, address_long address, append-nil (address_field address), ap length (append-nil (address_field address)))
addresses_joined (x ∷ xs) address = omega (
  arith,
  addresses_joined xs address,
  length-append (address_field x) (flat_map address_field xs),
  length-append (address_field x) (flat_map address_field (xs ++ address ∷ [])),
)

pub sizes_more : (addresses : Path) (n : ℕ) (address : Bytes) (old new long : ℕ) → n < length addresses → address ≡ get_or addresses n address
    → old ≡ length (flat_map address_field (take n addresses)) → new ≡ old + (2 + long) → long ≡ length address
    → new ≡ length (flat_map address_field (take (n + 1) addresses))
sizes_more addresses n address old new long l is h e s =
    let j = addresses_joined (take n addresses) address in
    let t = ap (λ (xs : Path). length (flat_map address_field xs)) (take_one addresses n address l is) in
    omega (arith, j, t, h, e, s)

pub start_size : (provider : ℕ) (digest : Bytes) → size_of (entries.Start provider digest) ≡ 10 + length digest
unfolding size_of
start_size provider digest = omega (arith, long (number_32 provider) digest 4 (length digest) (number_32_long provider) refl)

pub accepted_size : (moment : ℕ) (sender message : Bytes) → size_of (entries.Accepted moment sender message) ≡ 20 + length sender + length message
unfolding size_of
accepted_size moment sender message = omega (
  arith,
  length-append (number_64 moment) (address_field sender ++ bytes_field message),
  length-append (address_field sender) (bytes_field message),
  number_64_long moment,
  address_long sender,
  bytes_long message,
)

pub refused_size : (moment : ℕ) (sender : Bytes) (cause : Cause) (path : Path) (message : Bytes)
    → size_of (entries.NotAccepted moment sender cause path message) ≡ 25 + length sender + length (flat_map address_field path) + length message
unfolding size_of
refused_size moment sender cause path message = omega (
  arith,
  length-append (number_64 moment) (address_field sender ++ (cause_field cause ++ (addresses_field path ++ bytes_field message))),
  length-append (address_field sender) (cause_field cause ++ (addresses_field path ++ bytes_field message)),
  length-append (cause_field cause) (addresses_field path ++ bytes_field message),
  length-append (addresses_field path) (bytes_field message),
  number_64_long moment,
  address_long sender,
  cause_long cause,
  addresses_long path,
  bytes_long message,
)

pub took_size : (moment : ℕ) (id : Id) (message : Bytes) → size_of (entries.Took moment id message) ≡ 30 + length message
unfolding size_of
took_size moment id message = omega (
  arith,
  length-append (number_64 moment) (id_field id ++ bytes_field message),
  length-append (id_field id) (bytes_field message),
  number_64_long moment,
  id_long id,
  bytes_long message,
)

pub decided_size : (moment : ℕ) (id : Id) (recipient : Bytes) (decision : Decision) → size_of (entries.Decided moment id recipient decision) ≡ 29 + length recipient
unfolding size_of
decided_size moment id recipient decision = omega (
  arith,
  length-append (number_64 moment) (id_field id ++ (address_field recipient ++ decision_field decision)),
  length-append (id_field id) (address_field recipient ++ decision_field decision),
  length-append (address_field recipient) (decision_field decision),
  number_64_long moment,
  id_long id,
  address_long recipient,
  decision_long decision,
)

pub charged_size : (moment : ℕ) (id : Id) (by : ℕ) → size_of (entries.Charged moment id by) ≡ 30
unfolding size_of
charged_size moment id by = omega
    (arith, length-append (number_64 moment) (id_field id ++ number_32 by), length-append (id_field id) (number_32 by), number_64_long moment, id_long id, number_32_long by)

pub learned_size : (moment : ℕ) (id : Id) (recipient : Bytes) (decision : Decision) (decided : ℕ) (message : Bytes)
    → size_of (entries.Learned moment id recipient decision decided message) ≡ 41 + length recipient + length message
unfolding size_of
learned_size moment id recipient decision decided message = omega (
  arith,
  length-append (number_64 moment) (id_field id ++ (address_field recipient ++ (decision_field decision ++ (number_64 decided ++ bytes_field message)))),
  length-append (id_field id) (address_field recipient ++ (decision_field decision ++ (number_64 decided ++ bytes_field message))),
  length-append (address_field recipient) (decision_field decision ++ (number_64 decided ++ bytes_field message)),
  length-append (decision_field decision) (number_64 decided ++ bytes_field message),
  length-append (number_64 decided) (bytes_field message),
  number_64_long moment,
  id_long id,
  address_long recipient,
  decision_long decision,
  number_64_long decided,
  bytes_long message,
)

pub acked_size : (moment : ℕ) (id : Id) (recipient : Bytes) → size_of (entries.Acked moment id recipient) ≡ 28 + length recipient
unfolding size_of
acked_size moment id recipient = omega (
  arith,
  length-append (number_64 moment) (id_field id ++ address_field recipient),
  length-append (id_field id) (address_field recipient),
  number_64_long moment,
  id_long id,
  address_long recipient,
)

pub ticked_size : (moment : ℕ) → size_of (entries.Ticked moment) ≡ 14
unfolding size_of
ticked_size moment = omega (arith, number_64_long moment)

pub start_two_size : (provider : ℕ) (digest : Bytes) → size_of (entries.StartTwo provider digest) ≡ 10 + length digest
unfolding size_of
start_two_size provider digest = omega (arith, long (number_32 provider) digest 4 (length digest) (number_32_long provider) refl)

pub upgraded_size : (moment : ℕ) → size_of (entries.Upgraded moment) ≡ 14
unfolding size_of
upgraded_size moment = omega (arith, number_64_long moment)

pub archived_size : (moment : ℕ) (account : Bytes) (place : ℕ) → size_of (entries.Archived moment account place) ≡ 20 + length account
unfolding size_of
archived_size moment account place = omega (
  arith,
  length-append (number_64 moment) (address_field account ++ number_32 place),
  length-append (address_field account) (number_32 place),
  number_64_long moment,
  address_long account,
  number_32_long place,
)

pub anomaly_size : (moment : ℕ) (accounts : Path) (message : Bytes)
    → size_of (entries.Anomaly moment accounts message) ≡ 22 + length (flat_map address_field accounts) + length message
unfolding size_of
anomaly_size moment accounts message = omega (
  arith,
  length-append (number_64 moment) (addresses_field accounts ++ bytes_field message),
  length-append (addresses_field accounts) (bytes_field message),
  number_64_long moment,
  addresses_long accounts,
  bytes_long message,
)
