-- The addresses of a load are read as they stand, and its messages are bytes that base64 gives back.
use Rattle.std.proofs.Common.{◌≡◌, ℕ, zero, suc, ◌%◌, ◌^◌, ◌<◌, ◌≤◌, Bool, true, false, cond, eqb, ltb, [], ◌∷◌, ◌++◌, codes, length, get_or, Some, Ok, refl, arith}
use Rattle.std.proofs.lemmas.Bool.{and_parts, ltb-true}
use Rattle.std.proofs.lemmas.Fmt.{IsAscii-decimal, length-decimal-le}
use Rattle.std.proofs.lemmas.List.{length-append}
use Rattle.std.specs.Fmt.{decimal, digits}
use Rattle.std.specs.List.{list_all}
use Rattle.base64.proofs.EngineFacts.{decode_of-encode_of}
use Rattle.base64.specs.Engines.{standard}
use Rattle.base64.specs.GeneralPurpose.{IsBytes, decode_of, encode_of}
use Rattle.pec_types.specs.Address.{is_atom_byte}
use Rattle.pec_types.specs.AddressReading.{address_of, in_label, step_of}
use Rattle.pec_types.specs.Bytes.{Bytes}
use Rattle.pec_words.specs.Paths.{path_of, with_address}
use Rattle.pec_load.specs.Generated.{message_of, recipient_of, sender_of}
use Rattle.pec_load.proofs.PlainLemmas.{IsPlain, plain_append, plain_decimal, plain_text}

-- ---- senders

abbrev sender_at : ℕ → Bytes
sender_at k = codes "u" ++ decimal k ++ codes "@alfa.example"

sender_read : (k : ℕ) → k < 10 → address_of (sender_at k) ≡ Ok (sender_at k)
unfolding address_of in_label step_of is_atom_byte digits
sender_read zero h = refl
sender_read (suc zero) h = refl
sender_read (suc (suc zero)) h = refl
sender_read (suc (suc (suc zero))) h = refl
sender_read (suc (suc (suc (suc zero)))) h = refl
sender_read (suc (suc (suc (suc (suc zero))))) h = refl
sender_read (suc (suc (suc (suc (suc (suc zero)))))) h = refl
sender_read (suc (suc (suc (suc (suc (suc (suc zero))))))) h = refl
sender_read (suc (suc (suc (suc (suc (suc (suc (suc zero)))))))) h = refl
sender_read (suc (suc (suc (suc (suc (suc (suc (suc (suc zero))))))))) h = refl
sender_read (suc (suc (suc (suc (suc (suc (suc (suc (suc (suc k)))))))))) h = absurd (omega arith)

pub sender_reads : (number : ℕ) → address_of (sender_of number) ≡ Ok (sender_of number)
unfolding sender_of
sender_reads number = sender_read (number % 10) (omega arith)

pub plain_sender : (number : ℕ) → IsPlain (sender_of number)
unfolding sender_of
plain_sender number =
    plain_append (codes "u" ++ decimal (number % 10)) (codes "@alfa.example")
    (plain_append (codes "u") (decimal (number % 10)) (plain_text (codes "u") refl) (plain_decimal (number % 10) (omega arith)))
    (plain_text (codes "@alfa.example") refl)

-- ---- recipients

abbrev recipient_at : ℕ → Bytes
recipient_at k = codes "v" ++ decimal k ++ codes "@beta.example"

abbrev nobody : Bytes
nobody = codes "nobody@beta.example"

recipient_read : (k : ℕ) → k < 7 → path_of (recipient_at k) ≡ Some (recipient_at k ∷ [])
unfolding path_of with_address address_of in_label step_of is_atom_byte digits
recipient_read zero h = refl
recipient_read (suc zero) h = refl
recipient_read (suc (suc zero)) h = refl
recipient_read (suc (suc (suc zero))) h = refl
recipient_read (suc (suc (suc (suc zero)))) h = refl
recipient_read (suc (suc (suc (suc (suc zero))))) h = refl
recipient_read (suc (suc (suc (suc (suc (suc zero)))))) h = refl
recipient_read (suc (suc (suc (suc (suc (suc (suc k))))))) h = absurd (omega arith)

nobody_read : path_of nobody ≡ Some (nobody ∷ [])
unfolding path_of with_address address_of in_label step_of is_atom_byte
nobody_read = refl

-- what holds of nobody and of the recipient of a number holds of either
either : (P : Bytes → Type 0) (x : Bool) (k : ℕ) → P nobody → P (recipient_at k) → P (cond x nobody (recipient_at k))
either P true k h other = h
either P false k h other = other

pub recipient_reads : (number : ℕ) → path_of (recipient_of number) ≡ Some (recipient_of number ∷ [])
unfolding recipient_of
recipient_reads number =
    either (λ text. path_of text ≡ Some (text ∷ [])) (eqb (number % 10) 9) (number % 7) nobody_read
    (recipient_read (number % 7) (omega arith))

pub plain_recipient : (number : ℕ) → IsPlain (recipient_of number)
unfolding recipient_of
plain_recipient number =
    either IsPlain (eqb (number % 10) 9) (number % 7) (plain_text nobody refl)
    (plain_append (codes "v" ++ decimal (number % 7)) (codes "@beta.example")
    (plain_append (codes "v") (decimal (number % 7)) (plain_text (codes "v") refl) (plain_decimal (number % 7) (omega arith)))
    (plain_text (codes "@beta.example") refl))

-- ---- how long they are

decimal_short : (k : ℕ) → k < 100000 → length (decimal k) ≤ 5
decimal_short k h = length-decimal-le 5 k (omega arith) (omega arith) (omega arith)

pub sender_short : (number : ℕ) → length (sender_of number) ≤ 20
unfolding sender_of
sender_short number =
    omega (
      arith,
      length-append (codes "u" ++ decimal (number % 10)) (codes "@alfa.example"),
      length-append (codes "u") (decimal (number % 10)),
      decimal_short (number % 10) (omega arith),
    )

pub recipient_short : (number : ℕ) → length (recipient_of number) ≤ 20
unfolding recipient_of
recipient_short number =
    either (λ text. length text ≤ 20) (eqb (number % 10) 9) (number % 7) (omega arith)
    (omega (
      arith,
      length-append (codes "v" ++ decimal (number % 7)) (codes "@beta.example"),
      length-append (codes "v") (decimal (number % 7)),
      decimal_short (number % 7) (omega arith),
    ))

abbrev head_text : ℕ → Bytes
head_text number = codes "From: " ++ sender_of number ++ codes "\r\nTo: " ++ recipient_of number ++ codes "\r\nSubject: "

head_short : (number : ℕ) → length (head_text number) ≤ 63
head_short number =
    omega (
      arith,
      sender_short number,
      recipient_short number,
      length-append (codes "From: " ++ sender_of number ++ codes "\r\nTo: " ++ recipient_of number) (codes "\r\nSubject: "),
      length-append (codes "From: " ++ sender_of number ++ codes "\r\nTo: ") (recipient_of number),
      length-append (codes "From: " ++ sender_of number) (codes "\r\nTo: "),
      length-append (codes "From: ") (sender_of number),
    )

pub message_short : (number : ℕ) → number < 100000 → length (message_of number) ≤ 75
unfolding message_of
message_short number few =
    omega (
      arith,
      head_short number,
      decimal_short number few,
      length-append (head_text number ++ decimal number) (codes "\r\n\r\nx\r\n"),
      length-append (head_text number) (decimal number),
    )

-- ---- messages are bytes

abbrev is_byte : ℕ → Bool
is_byte b = ltb b 256

bytes_text : (bytes : Bytes) → list_all is_byte bytes ≡ true → IsBytes bytes
bytes_text [] h i = omega arith
bytes_text (b ∷ bs) h zero = ltb-true b 256 (and_parts (is_byte b) (list_all is_byte bs) h).0
bytes_text (b ∷ bs) h (suc i) = bytes_text bs (and_parts (is_byte b) (list_all is_byte bs) h).1 i

bytes_append : (xs ys : Bytes) → IsBytes xs → IsBytes ys → IsBytes (xs ++ ys)
bytes_append [] ys h k i = k i
bytes_append (x ∷ xs) ys h k zero = h 0
bytes_append (x ∷ xs) ys h k (suc i) = bytes_append xs ys (λ j. h (suc j)) k i

bytes_decimal : (n : ℕ) → n < 2 ^ 64 → IsBytes (decimal n)
bytes_decimal n small i = let below : get_or (decimal n) i 0 < 128 = IsAscii-decimal n small i in omega arith

bytes_sender : (number : ℕ) → IsBytes (sender_of number)
unfolding sender_of
bytes_sender number =
    bytes_append (codes "u" ++ decimal (number % 10)) (codes "@alfa.example")
    (bytes_append (codes "u") (decimal (number % 10)) (bytes_text (codes "u") refl) (bytes_decimal (number % 10) (omega arith)))
    (bytes_text (codes "@alfa.example") refl)

bytes_recipient : (number : ℕ) → IsBytes (recipient_of number)
unfolding recipient_of
bytes_recipient number =
    either IsBytes (eqb (number % 10) 9) (number % 7) (bytes_text nobody refl)
    (bytes_append (codes "v" ++ decimal (number % 7)) (codes "@beta.example")
    (bytes_append (codes "v") (decimal (number % 7)) (bytes_text (codes "v") refl) (bytes_decimal (number % 7) (omega arith)))
    (bytes_text (codes "@beta.example") refl))

bytes_head : (number : ℕ) → IsBytes (head_text number)
bytes_head number =
    bytes_append (codes "From: " ++ sender_of number ++ codes "\r\nTo: " ++ recipient_of number) (codes "\r\nSubject: ")
    (bytes_append (codes "From: " ++ sender_of number ++ codes "\r\nTo: ") (recipient_of number)
    (bytes_append (codes "From: " ++ sender_of number) (codes "\r\nTo: ")
    (bytes_append (codes "From: ") (sender_of number) (bytes_text (codes "From: ") refl) (bytes_sender number))
    (bytes_text (codes "\r\nTo: ") refl))
    (bytes_recipient number))
    (bytes_text (codes "\r\nSubject: ") refl)

bytes_message : (number : ℕ) → number < 2 ^ 64 → IsBytes (message_of number)
unfolding message_of
bytes_message number small =
    bytes_append (head_text number ++ decimal number) (codes "\r\n\r\nx\r\n")
    (bytes_append (head_text number) (decimal number) (bytes_head number) (bytes_decimal number small))
    (bytes_text (codes "\r\n\r\nx\r\n") refl)

pub message_back : (number : ℕ) → number < 2 ^ 64 → decode_of standard (encode_of standard (message_of number)) ≡ Ok (message_of number)
message_back number small = decode_of-encode_of standard (message_of number) refl (bytes_message number small)
