-- How long an entry within the limits is at most.
use Rattle.std.proofs.Common.{ℕ, ◌+◌, ◌*◌, ◌≤◌, List, [], ◌∷◌, ◌++◌, length, sym, subst, arith, length-append}
use Rattle.std.specs.List.{flat_map, AllByRecursion}
use Rattle.pec_types.specs.Address.{IsLowerAddress}
use Rattle.pec_types.specs.Message.{Id}
use Rattle.pec_types.specs.declared.messages.Cause.{Cause}
use Rattle.pec_types.specs.declared.messages.Decision.{Decision}
use Rattle.pec_types.specs.declared.messages.Decision.TheVariants as decisions
use Rattle.pec_types.specs.declared.messages.Refusal.TheVariants as refusals
use Rattle.pec_records.specs.Entry.{number_16, number_32, number_64, address_field, bytes_field, addresses_field, id_field, decision_field, cause_field, entry_text, AreAddresses, CanBeWritten, IsEntry, IsShort, IsWithinLimits, longest_message, longest_entry}
use Rattle.pec_records.specs.declared.entries.Entry.{Entry}
use Rattle.pec_records.specs.declared.entries.Entry.TheVariants as entries

both_short : (xs ys : List ℕ) (a b : ℕ) → length xs ≤ a → length ys ≤ b → length (xs ++ ys) ≤ a + b
both_short xs ys a b x y = omega (arith, length-append xs ys, x, y)

number_16_short : (n : ℕ) → length (number_16 n) ≤ 2
unfolding number_16
number_16_short n = omega arith

number_32_short : (n : ℕ) → length (number_32 n) ≤ 4
unfolding number_32
number_32_short n = omega arith

number_64_short : (n : ℕ) → length (number_64 n) ≤ 8
unfolding number_64
number_64_short n = omega arith

id_short : (id : Id) → length (id_field id) ≤ 12
id_short id = both_short (number_32 id.provider) (number_64 id.number) 4 8 (number_32_short id.provider) (number_64_short id.number)

address_short : (address : List ℕ) → IsLowerAddress address → length (address_field address) ≤ 256
address_short address is = both_short (number_16 (length address)) address 2 254 (number_16_short (length address)) is.address.short

all_short : (addresses : List (List ℕ)) → AllByRecursion IsLowerAddress addresses → length (flat_map address_field addresses) ≤ 256 * length addresses
all_short [] all = omega arith
all_short (x ∷ xs) all =
    let h = both_short (address_field x) (flat_map address_field xs) 256 (256 * length xs) (address_short x all.0) (all_short xs all.1) in
    omega (arith, h)

addresses_short : (addresses : List (List ℕ)) (most : ℕ) → AreAddresses addresses → length addresses ≤ most → length (addresses_field addresses) ≤ 4 + 256 * most
addresses_short addresses most are few =
    both_short (number_32 (length addresses)) (flat_map address_field addresses) 4 (256 * most) (number_32_short (length addresses))
    (let h = all_short addresses are.1 in omega (arith, h, few))

bytes_short : (bytes : List ℕ) → IsShort bytes → length (bytes_field bytes) ≤ 4 + longest_message
bytes_short bytes short = both_short (number_32 (length bytes)) bytes 4 longest_message (number_32_short (length bytes)) short

decision_short : (d : Decision) → length (decision_field d) ≤ 1
decision_short decisions.Placed = omega arith
decision_short (decisions.Refused refusals.NoMailbox) = omega arith
decision_short (decisions.Refused refusals.MailboxFull) = omega arith
decision_short (decisions.Refused refusals.Virus) = omega arith

cause_short : (c : Cause) → length (cause_field c) ≤ 1
cause_short c = omega arith

-- behind a tag and a moment
dated_short : (tag moment : ℕ) (rest : List ℕ) (most : ℕ) → length rest ≤ most → length (tag ∷ number_64 moment ++ rest) ≤ 9 + most
dated_short tag moment rest most le =
    let h = both_short (number_64 moment) rest 8 most (number_64_short moment) le in
    omega (arith, h)

-- behind the name of a message too
named_short : (tag moment : ℕ) (id : Id) (rest : List ℕ) (most : ℕ) → length rest ≤ most → length (tag ∷ number_64 moment ++ (id_field id ++ rest)) ≤ 21 + most
named_short tag moment id rest most le =
    let h = dated_short tag moment (id_field id ++ rest) (12 + most) (both_short (id_field id) rest 12 most (id_short id) le) in
    omega (arith, h)

text_short : (e : Entry) → CanBeWritten e → IsWithinLimits e → length (entry_text e) ≤ longest_entry
text_short (entries.Start provider digest) can short =
    let h = both_short (number_32 provider) digest 4 32 (number_32_short provider) (omega (arith, can.1)) in
    omega (arith, h)
text_short (entries.Accepted moment sender message) can short =
    let h = dated_short 1 moment (address_field sender ++ bytes_field message) (256 + (4 + longest_message))
    (both_short (address_field sender) (bytes_field message) 256 (4 + longest_message) (address_short sender can.1.0) (bytes_short message short)) in
    omega (arith, h)
text_short (entries.NotAccepted moment sender cause path message) can short =
    let lists = both_short (addresses_field path) (bytes_field message) (4 + 256 * 1000) (4 + longest_message) (addresses_short path 1000 can.1.1.0 short.0) (bytes_short message short.1) in
    let caused = both_short (cause_field cause) (addresses_field path ++ bytes_field message) 1 (4 + 256 * 1000 + (4 + longest_message)) (cause_short cause) lists in
    let rest = both_short (address_field sender) (cause_field cause ++ (addresses_field path ++ bytes_field message)) 256 (1 + (4 + 256 * 1000 + (4 + longest_message)))
    (address_short sender can.1.0) caused in
    let h = dated_short 2 moment (address_field sender ++ (cause_field cause ++ (addresses_field path ++ bytes_field message)))
    (256 + (1 + (4 + 256 * 1000 + (4 + longest_message)))) rest in
    omega (arith, h)
text_short (entries.Took moment id message) can short =
    let h = named_short 3 moment id (bytes_field message) (4 + longest_message) (bytes_short message short) in
    omega (arith, h)
text_short (entries.Decided moment id recipient decision) can short =
    let h = named_short 4 moment id (address_field recipient ++ decision_field decision) (256 + 1)
    (both_short (address_field recipient) (decision_field decision) 256 1 (address_short recipient can.1.1) (decision_short decision)) in
    omega (arith, h)
text_short (entries.Charged moment id by) can short =
    let h = named_short 5 moment id (number_32 by) 4 (number_32_short by) in
    omega (arith, h)
text_short (entries.Learned moment id recipient decision decided message) can short =
    let dated = both_short (number_64 decided) (bytes_field message) 8 (4 + longest_message) (number_64_short decided) (bytes_short message short) in
    let known = both_short (decision_field decision) (number_64 decided ++ bytes_field message) 1 (8 + (4 + longest_message)) (decision_short decision) dated in
    let told = both_short (address_field recipient) (decision_field decision ++ (number_64 decided ++ bytes_field message)) 256 (1 + (8 + (4 + longest_message)))
    (address_short recipient can.1.1.0) known in
    let h = named_short 6 moment id (address_field recipient ++ (decision_field decision ++ (number_64 decided ++ bytes_field message)))
    (256 + (1 + (8 + (4 + longest_message)))) told in
    omega (arith, h)
text_short (entries.Acked moment id recipient) can short =
    let h = named_short 7 moment id (address_field recipient) 256 (address_short recipient can.1.1) in
    omega (arith, h)
text_short (entries.Ticked moment) can short =
    let h = number_64_short moment in
    omega (arith, h)
text_short (entries.Anomaly moment accounts message) can short =
    let h = dated_short 9 moment (addresses_field accounts ++ bytes_field message) (4 + 256 * 10000 + (4 + longest_message))
    (both_short (addresses_field accounts) (bytes_field message) (4 + 256 * 10000) (4 + longest_message) (addresses_short accounts 10000 can.1.0 short.0) (bytes_short message short.1)) in
    omega (arith, h)
text_short (entries.StartTwo provider digest) can short =
    let h = both_short (number_32 provider) digest 4 32 (number_32_short provider) (omega (arith, can.1)) in
    omega (arith, h)
text_short (entries.Upgraded moment) can short =
    let h = number_64_short moment in
    omega (arith, h)
text_short (entries.Archived moment account place) can short =
    let h = dated_short 12 moment (address_field account ++ number_32 place) (256 + 4)
    (both_short (address_field account) (number_32 place) 256 4 (address_short account can.1.0) (number_32_short place)) in
    omega (arith, h)

pub short_entry : (e : Entry) (text : List ℕ) → IsEntry e text → IsWithinLimits e → length text ≤ longest_entry
short_entry e text is short = subst (λ t. length t ≤ longest_entry) (sym is.1) (text_short e is.0 short)
