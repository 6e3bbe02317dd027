-- The fields of entries are read exactly.
use Rattle.std.proofs.Common.{◌≡◌, ℕ, zero, suc, ◌-◌, ◌/◌, ◌%◌, ◌^◌, ◌<◌, ◌≤◌, true, ltb, List, [], ◌∷◌, length, map, drop, Some, IsTrue, refl, inl, inr, arith}
use Rattle.std.proofs.lemmas.Bool.Decides.{nat_tests}
use Rattle.std.specs.List.{AllByRecursion}
use Rattle.std.specs.Prelude.{slice_get}
use Rattle.pec_types.specs.Address.{IsLowerAddress}
use Rattle.pec_types.specs.AddressSteps.{LowerAddressesPass}
use Rattle.pec_types.specs.Message.{Id}
use Rattle.pec_types.specs.Words.{all_causes, cause_number}
use Rattle.pec_types.specs.declared.messages.TheConstants.{MESSAGES}
use Rattle.pec_types.specs.declared.messages.Cause.{Cause}
use Rattle.pec_types.specs.declared.messages.Cause.TheVariants as causes
use Rattle.pec_types.specs.declared.messages.Decision.{Decision}
use Rattle.pec_types.specs.declared.messages.Decision.TheVariants as decisions
use Rattle.pec_types.specs.declared.messages.Refusal.TheVariants as refusals
use Rattle.pec_types.specs.declared.moments.TheConstants.{END_OF_TIME}
use Rattle.pec_types.specs.declared.scanning.Stand.TheVariants as stands
use Rattle.pec_grammar.specs.Grammar.{Grammar, byte, both, led, choice, choice_at, HasValue}
use Rattle.pec_grammar.specs.Dependent.{keyed, raw, times}
use Rattle.pec_grammar.specs.Numbers.{number}
use Rattle.pec_grammar.proofs.Parts.{Lawful, byte_lawful}
use Rattle.pec_grammar.proofs.Sequences.{both_lawful, led_lawful, seen_lawful, same_lawful}
use Rattle.pec_grammar.proofs.Openings.{choice_lawful}
use Rattle.pec_grammar.proofs.DependentLaws.{keyed_lawful, raw_lawful, times_lawful}
use Rattle.pec_grammar.proofs.NumberLaws.{number_lawful}
use Rattle.pec_records.specs.Entry.{number_16, number_32, number_64, address_field, bytes_field, addresses_field, id_field, decision_field, cause_field, IsMoment, IsId, CanBeCounted, AreAddresses}
use Rattle.pec_records.specs.EntryReading.{is_length, length_at, address_at, moment_at, number_32_at, id_from, id_at, bytes_at, addresses_at, decision_table, cause_table, tag_table}
use Rattle.pec_records.specs.declared.tags.Tag.{Tag}
use Rattle.pec_records.specs.declared.tags.Tag.TheVariants as tags
use Rattle.pec_records.proofs.AddressRestLemmas.{rest, rest_lawful, filled}

-- Numbers.

abbrev pub moment : Grammar ℕ
moment = record { Fits = IsMoment; spell = number_64; read = moment_at }

pub moment_lawful : Lawful moment
unfolding number_64 moment_at
moment_lawful =
    same_lawful (number 8 END_OF_TIME) moment (λ n fits. fits) (λ n fits. fits) (λ n fits. refl) (λ at. refl)
    (number_lawful 8 END_OF_TIME (omega arith) (omega arith))

abbrev pub word : Grammar ℕ
word = record { Fits = λ n. n < 2 ^ 32; spell = number_32; read = number_32_at }

pub word_lawful : Lawful word
unfolding number_32 number_32_at
word_lawful =
    same_lawful (number 4 (2 ^ 32)) word (λ n fits. fits) (λ n fits. fits) (λ n fits. refl) (λ at. refl)
    (number_lawful 4 (2 ^ 32) (omega arith) (omega arith))

abbrev pub id : Grammar Id
id = record { Fits = IsId; spell = id_field; read = id_at }

pub id_lawful : Lawful id
unfolding number_64 id_at
id_lawful =
    seen_lawful (both word (number 8 MESSAGES)) id id_from (λ i. (i.provider, i.number))
    (record { there = λ p fits. fits; spelled = λ p fits. refl; again = λ i fits. fits; respelled = λ i fits. refl; undone = λ i fits. refl })
    (λ at. refl)
    (both_lawful word (number 8 MESSAGES) word_lawful (number_lawful 8 MESSAGES (omega arith) (omega arith)))

-- Bytes.

abbrev pub bytes : Grammar (List ℕ)
bytes = record { Fits = CanBeCounted; spell = bytes_field; read = bytes_at }

pub bytes_lawful : Lawful bytes
unfolding bytes_at
bytes_lawful =
    same_lawful (keyed word length raw) bytes (λ b fits. fits.0) (λ b fits. (fits, refl)) (λ b fits. refl) (λ at. refl)
    (keyed_lawful word raw word_lawful (λ n fits. raw_lawful n) length (λ n b fits. fits))

-- Addresses.

abbrev address_length : Grammar ℕ
address_length = record { Fits = λ n. IsTrue (is_length n); spell = number_16; read = length_at }

in_two_bytes : (n : ℕ) → IsTrue (is_length n) → number_16 n ≡ 0 ∷ n ∷ []
unfolding number_16
in_two_bytes n fits =
    let small : n < 255 = grind (arith, nat_tests) in
    let high : (n / 256) % 256 ≡ 0 = omega arith in
    let low : n % 256 ≡ n = omega arith in
    rw (high, low) refl

address_length_lawful : Lawful address_length
unfolding length_at
address_length_lawful =
    same_lawful (led (0 ∷ []) (byte is_length)) address_length (λ n fits. fits) (λ n fits. fits) in_two_bytes (λ at. refl)
    (led_lawful (0 ∷ []) (byte is_length) (byte_lawful is_length 3 refl))

abbrev pub address : Grammar (List ℕ)
address = record { Fits = IsLowerAddress; spell = address_field; read = address_at }

long : (n : ℕ) → IsTrue (is_length n) → ltb 2 n ≡ true
long n fits = grind (arith, nat_tests)

short : (n : ℕ) → IsTrue (is_length n) → n ≤ 254
short n fits = grind (arith, nat_tests)

has_length : (n : ℕ) → ltb 2 n ≡ true → n ≤ 254 → IsTrue (is_length n)
has_length n least most = grind (arith, nat_tests)

pub address_lawful : LowerAddressesPass → Lawful address
unfolding address_at
address_lawful law =
    same_lawful (keyed address_length length (rest stands.AtomBegins)) address
    (λ b fits. (law b).1 (fits.1.1, short (length b) fits.0))
    (λ b is.
    let passed = (law b).0 is in
    (has_length (length b) (filled b stands.AtomBegins passed.0) passed.1, (refl, passed.0)))
    (λ b fits. refl) (λ at. refl)
    (keyed_lawful address_length (rest stands.AtomBegins) address_length_lawful (λ n fits. rest_lawful n stands.AtomBegins (long n fits)) length (λ n b fits. fits.0))

abbrev pub addresses : Grammar (List (List ℕ))
addresses = record { Fits = AreAddresses; spell = addresses_field; read = addresses_at }

pub addresses_lawful : LowerAddressesPass → Lawful addresses
unfolding addresses_at
addresses_lawful law =
    same_lawful (keyed word length (times address)) addresses (λ xs fits. (fits.0, fits.1.1)) (λ xs fits. (fits.0, (refl, fits.1))) (λ xs fits. refl) (λ at. refl)
    (keyed_lawful word (times address) word_lawful (λ n fits. times_lawful address (address_lawful law) n) length (λ n xs fits. fits.0))

-- Words of one byte.

abbrev pub decision : Grammar Decision
decision = record { Fits = λ d. Unit {0}; spell = decision_field; read = choice_at decision_table }

has_decision : (d : Decision) → HasValue decision_table d
has_decision decisions.Placed = inl refl
has_decision (decisions.Refused refusals.NoMailbox) = inr (inl refl)
has_decision (decisions.Refused refusals.MailboxFull) = inr (inr (inl refl))
has_decision (decisions.Refused refusals.Virus) = inr (inr (inr (inl refl)))

pub decision_lawful : Lawful decision
decision_lawful =
    same_lawful (choice decision_field decision_table) decision (λ d fits. tt) (λ d fits. has_decision d) (λ d fits. refl) (λ at. refl)
    (choice_lawful decision_field (0 ∷ [], decisions.Placed)
    ((1 ∷ [], decisions.Refused refusals.NoMailbox) ∷ (2 ∷ [], decisions.Refused refusals.MailboxFull) ∷ (3 ∷ [], decisions.Refused refusals.Virus) ∷ [])
    (refl, (refl, (refl, (refl, tt)))) refl)

abbrev pub cause : Grammar Cause
cause = record { Fits = λ c. Unit {0}; spell = cause_field; read = choice_at cause_table }

-- each cause stands at its place among all
abbrev pub HavePlaces : Type 0
HavePlaces = (cause : Cause) → slice_get all_causes (cause_number cause - 1) ≡ Some cause

-- what stands in a list has its row in the table that is made of the list
has_row : {X : Type 0} (spell : X → List ℕ) (all : List X) (place : ℕ) (one : X) → slice_get all place ≡ Some one
    → HasValue (map (λ (x : X). (spell x, x)) all) one
has_row spell [] place one there = absurd cc
has_row spell (x ∷ xs) zero one there = inl cc
has_row spell (x ∷ xs) (suc place) one there = inr (has_row spell xs place one there)

are_rows : {X : Type 0} (spell : X → List ℕ) (all : List X)
    → AllByRecursion (λ (row : List ℕ × X). spell row.1 ≡ row.0) (map (λ (x : X). (spell x, x)) all)
are_rows spell [] = tt
are_rows spell (x ∷ xs) = (refl, are_rows spell xs)

pub cause_lawful : HavePlaces → Lawful cause
cause_lawful places =
    same_lawful (choice cause_field cause_table) cause (λ c fits. tt)
    (λ c fits. has_row cause_field all_causes (cause_number c - 1) c (places c)) (λ c fits. refl) (λ at. refl)
    (choice_lawful cause_field (cause_field causes.Head, causes.Head) (drop 1 cause_table) (are_rows cause_field all_causes) refl)

abbrev pub tag_field : Tag → List ℕ
tag_field tags.Start = 0 ∷ []
tag_field tags.Accepted = 1 ∷ []
tag_field tags.NotAccepted = 2 ∷ []
tag_field tags.Took = 3 ∷ []
tag_field tags.Decided = 4 ∷ []
tag_field tags.Charged = 5 ∷ []
tag_field tags.Learned = 6 ∷ []
tag_field tags.Acked = 7 ∷ []
tag_field tags.Ticked = 8 ∷ []
tag_field tags.Anomaly = 9 ∷ []
tag_field tags.StartTwo = 10 ∷ []
tag_field tags.Upgraded = 11 ∷ []
tag_field tags.Archived = 12 ∷ []

abbrev pub tag : Grammar Tag
tag = record { Fits = λ t. Unit {0}; spell = tag_field; read = choice_at tag_table }

has_tag : (t : Tag) → HasValue tag_table t
has_tag tags.Start = inl refl
has_tag tags.Accepted = inr (inl refl)
has_tag tags.NotAccepted = inr (inr (inl refl))
has_tag tags.Took = inr (inr (inr (inl refl)))
has_tag tags.Decided = inr (inr (inr (inr (inl refl))))
has_tag tags.Charged = inr (inr (inr (inr (inr (inl refl)))))
has_tag tags.Learned = inr (inr (inr (inr (inr (inr (inl refl))))))
has_tag tags.Acked = inr (inr (inr (inr (inr (inr (inr (inl refl)))))))
has_tag tags.Ticked = inr (inr (inr (inr (inr (inr (inr (inr (inl refl))))))))
has_tag tags.Anomaly = inr (inr (inr (inr (inr (inr (inr (inr (inr (inl refl)))))))))
has_tag tags.StartTwo = inr (inr (inr (inr (inr (inr (inr (inr (inr (inr (inl refl))))))))))
has_tag tags.Upgraded = inr (inr (inr (inr (inr (inr (inr (inr (inr (inr (inr (inl refl)))))))))))
has_tag tags.Archived = inr (inr (inr (inr (inr (inr (inr (inr (inr (inr (inr (inr (inl refl))))))))))))

pub tag_lawful : Lawful tag
tag_lawful =
    same_lawful (choice tag_field tag_table) tag (λ t fits. tt) (λ t fits. has_tag t) (λ t fits. refl) (λ at. refl)
    (choice_lawful tag_field (0 ∷ [], tags.Start)
    ((1 ∷ [], tags.Accepted) ∷ (2 ∷ [], tags.NotAccepted) ∷ (3 ∷ [], tags.Took) ∷ (4 ∷ [], tags.Decided) ∷ (5 ∷ [], tags.Charged)
    ∷ (6 ∷ [], tags.Learned) ∷ (7 ∷ [], tags.Acked) ∷ (8 ∷ [], tags.Ticked) ∷ (9 ∷ [], tags.Anomaly)
    ∷ (10 ∷ [], tags.StartTwo) ∷ (11 ∷ [], tags.Upgraded) ∷ (12 ∷ [], tags.Archived) ∷ [])
    (refl, (refl, (refl, (refl, (refl, (refl, (refl, (refl, (refl, (refl, (refl, (refl, (refl, tt))))))))))))) refl)
