-- Lemmas on the bytes of journal files: they are the file of one list, and then they are not broken.
use Rattle.std.proofs.Common.{◌≡◌, ◌≢◌, ◌⊎◌, inl, inr, ℕ, suc, ◌+◌, ◌<◌, List, [], ◌∷◌, ◌++◌, length, get_or, take, drop, refl, sym, ap, ◌∙◌, arith, append_assoc, length-append}
use Rattle.std.specs.List.{All, flat_map}
use Rattle.std.specs.Int.{w32, from_be_bytes}
use Rattle.std.proofs.lemmas.Nat.{from_be_bytes-to_be_bytes_4}
use Rattle.std.proofs.lemmas.List.{append-nil, take_at, drop_at}
use Rattle.pec_journal.specs.JournalFile.{IsFile, IsBroken, IsShort, HasNoEntry, StopsAt, front, framed, header, open_gate}
use Rattle.pec_journal.proofs.FileLemmas.{length-framed}

abbrev Bytes : Type 0
Bytes = List ℕ

abbrev body : List Bytes → Bytes
body entries = flat_map (λ e. open_gate ∷ framed e) entries

later_short : (e : Bytes) (entries : List Bytes) → All IsShort (e ∷ entries) → All IsShort entries
later_short e entries short k d within = short (suc k) d (omega (arith, within))

first_short : (e : Bytes) (entries : List Bytes) → All IsShort (e ∷ entries) → IsShort e
first_short e entries short = short 0 e (omega arith)

first_byte : (a b : ℕ) (s t : Bytes) → a ∷ s ≡ b ∷ t → a ≡ b
first_byte a b s t e = ap (λ (l : Bytes). get_or l 0 0) e

-- an entry that stands framed at the front is the only one
same_size : (e f a b : Bytes) → framed e ++ a ≡ framed f ++ b → IsShort e → IsShort f → length e ≡ length f
same_size e f a b is short short2 =
    sym (from_be_bytes-to_be_bytes_4 (length e) short)
    ∙ ap (λ (l : Bytes). from_be_bytes w32 (take 4 l)) is
    ∙ from_be_bytes-to_be_bytes_4 (length f) short2

same_entry : (e f a b : Bytes) → framed e ++ a ≡ framed f ++ b → IsShort e → IsShort f → (e ≡ f) × (a ≡ b)
same_entry e f a b is short short2 =
    let size = same_size e f a b is short short2 in
    let tails : e ++ a ≡ f ++ b = ap (λ (l : Bytes). drop 4 l) is in (
      sym (take_at e a (length e) refl) ∙ ap (λ (l : Bytes). take (length e) l) tails ∙ take_at f b (length e) (sym size),
      sym (drop_at e a (length e) refl) ∙ ap (λ (l : Bytes). drop (length e) l) tails ∙ drop_at f b (length e) (sym size),
    )

-- what follows the first entry, and what follows it in a whole body
next_is : (e : Bytes) (entries : List Bytes) (tail : Bytes) → body (e ∷ entries) ++ tail ≡ open_gate ∷ (framed e ++ (body entries ++ tail))
next_is e entries tail = append_assoc (open_gate ∷ framed e) (body entries) tail

behind_gate : (s t : Bytes) → open_gate ∷ s ≡ open_gate ∷ t → s ≡ t
behind_gate s t e = ap (λ (l : Bytes). drop 1 l) e

one_body : (es fs : List Bytes) (g h : ℕ) (r s : Bytes) → body es ++ g ∷ r ≡ body fs ++ h ∷ s → g ≢ open_gate → h ≢ open_gate
    → All IsShort es → All IsShort fs → es ≡ fs
one_body [] [] g h r s is shut shut2 short short2 = refl
one_body [] (f ∷ fs) g h r s is shut shut2 short short2 = absurd (shut (ap (λ (l : Bytes). get_or l 0 0) is))
one_body (e ∷ es) [] g h r s is shut shut2 short short2 = absurd (shut2 (sym (ap (λ (l : Bytes). get_or l 0 0) is)))
one_body (e ∷ es) (f ∷ fs) g h r s is shut shut2 short short2 =
    let behind : framed e ++ (body es ++ g ∷ r) ≡ framed f ++ (body fs ++ h ∷ s) =
    behind_gate _ _ (sym (next_is e es (g ∷ r)) ∙ is ∙ next_is f fs (h ∷ s)) in
    let same = same_entry e f (body es ++ g ∷ r) (body fs ++ h ∷ s) behind (first_short e es short) (first_short f fs short2) in
    let rest = one_body es fs g h r s same.1 shut shut2 (later_short e es short) (later_short f fs short2) in
    ap (λ (x : Bytes). x ∷ es) same.0 ∙ ap (λ (xs : List Bytes). f ∷ xs) rest

behind_header : (a b : Bytes) → header ++ a ≡ header ++ b → a ≡ b
behind_header a b e = ap (λ (l : Bytes). drop 8 l) e

pub one_list : (es fs : List Bytes) (bytes : Bytes) → IsFile es bytes → IsFile fs bytes → es ≡ fs
one_list es fs bytes first second =
    one_body es fs first.gate second.gate first.rest second.rest
    (behind_header _ _ (sym (append_assoc header (body es) (first.gate ∷ first.rest)) ∙ sym first.is ∙ second.is ∙ append_assoc header (body fs) (second.gate ∷ second.rest)))
    first.closed second.closed first.short second.short

-- ---- broken bytes are no file

-- no gate, or an open one with no whole entry behind it
abbrev Stops : Bytes → Type 0
Stops tail = (tail ≡ []) ⊎ ((rest : Bytes) × (tail ≡ open_gate ∷ rest) × HasNoEntry rest)

stops_first : (tail : Bytes) (g : ℕ) (r : Bytes) → Stops tail → tail ≡ g ∷ r → g ≢ open_gate → ⊥
stops_first tail g r (inl none) is shut = let e = sym none ∙ is in absurd (omega (arith, ap length e))
stops_first tail g r (inr stop) is shut = shut (first_byte g open_gate r stop.0 (sym is ∙ stop.1))

stops_entry : (tail e a : Bytes) → Stops tail → tail ≡ open_gate ∷ (framed e ++ a) → IsShort e → ⊥
stops_entry tail e a (inl none) is short = let same = sym none ∙ is in absurd (omega (arith, ap length same))
stops_entry tail e a (inr stop) is short =
    let rest : stop.0 ≡ framed e ++ a = behind_gate _ _ (sym stop.1 ∙ is) in
    let long : length stop.0 ≡ 4 + length e + length a = omega (arith, ap length rest, length-append (framed e) a, length-framed e) in
    let told : from_be_bytes w32 (take 4 stop.0) ≡ length e = ap (λ (l : Bytes). from_be_bytes w32 (take 4 l)) rest ∙ from_be_bytes-to_be_bytes_4 (length e) short in
    elim (stop.2) [
      | inl few ↦ omega (arith, few, long)
      | inr over ↦ omega (arith, over, long, told)
    ]

no_stop : (es fs : List Bytes) (g : ℕ) (r tail : Bytes) → body es ++ g ∷ r ≡ body fs ++ tail → g ≢ open_gate → Stops tail
    → All IsShort es → All IsShort fs → ⊥
no_stop [] [] g r tail is shut stops short short2 = stops_first tail g r stops (sym is) shut
no_stop [] (f ∷ fs) g r tail is shut stops short short2 = shut (ap (λ (l : Bytes). get_or l 0 0) is)
no_stop (e ∷ es) [] g r tail is shut stops short short2 = stops_entry tail e (body es ++ g ∷ r) stops (sym is ∙ next_is e es (g ∷ r)) (first_short e es short)
no_stop (e ∷ es) (f ∷ fs) g r tail is shut stops short short2 =
    let behind : framed e ++ (body es ++ g ∷ r) ≡ framed f ++ (body fs ++ tail) =
    behind_gate _ _ (sym (next_is e es (g ∷ r)) ∙ is ∙ next_is f fs tail) in
    let same = same_entry e f (body es ++ g ∷ r) (body fs ++ tail) behind (first_short e es short) (first_short f fs short2) in
    no_stop es fs g r tail same.1 shut stops (later_short e es short) (later_short f fs short2)

no_stop_in_file : (es fs : List Bytes) (bytes tail : Bytes) → IsFile es bytes → bytes ≡ front fs ++ tail → Stops tail → All IsShort fs → ⊥
no_stop_in_file es fs bytes tail file is stops short =
    no_stop es fs file.gate file.rest tail
    (behind_header _ _ (sym (append_assoc header (body es) (file.gate ∷ file.rest)) ∙ sym file.is ∙ is ∙ append_assoc header (body fs) tail))
    file.closed stops file.short short

pub broken_is_no_file : (bytes : Bytes) (place : ℕ) (entries : List Bytes) → IsBroken bytes place → IsFile entries bytes → ⊥
broken_is_no_file bytes place entries (inl broken) file = broken.1 (ap (λ (l : Bytes). take 8 l) file.is)
broken_is_no_file bytes place entries (inr stops) file = elim (stops.1.stops) [
  | inl none ↦ no_stop_in_file entries stops.0 bytes [] file (none.0 ∙ sym (append-nil (front stops.0))) (inl refl) stops.1.short
  | inr one ↦ no_stop_in_file entries stops.0 bytes (open_gate ∷ one.0) file one.1 (inr (one.0, refl, one.2)) stops.1.short
]

-- ---- one place

-- the two tails stop at one place
one_stop : (es fs : List Bytes) (s t : Bytes) → body es ++ s ≡ body fs ++ t → Stops s → Stops t → All IsShort es → All IsShort fs → (es ≡ fs) × (s ≡ t)
one_stop [] [] s t is stops stops2 short short2 = (refl, is)
one_stop [] (f ∷ fs) s t is stops stops2 short short2 =
    absurd (stops_entry s f (body fs ++ t) stops (is ∙ next_is f fs t) (first_short f fs short2))
one_stop (e ∷ es) [] s t is stops stops2 short short2 =
    absurd (stops_entry t e (body es ++ s) stops2 (sym is ∙ next_is e es s) (first_short e es short))
one_stop (e ∷ es) (f ∷ fs) s t is stops stops2 short short2 =
    let behind : framed e ++ (body es ++ s) ≡ framed f ++ (body fs ++ t) = behind_gate _ _ (sym (next_is e es s) ∙ is ∙ next_is f fs t) in
    let same = same_entry e f (body es ++ s) (body fs ++ t) behind (first_short e es short) (first_short f fs short2) in
    let rest = one_stop es fs s t same.1 stops stops2 (later_short e es short) (later_short f fs short2) in
    (ap (λ (x : Bytes). x ∷ es) same.0 ∙ ap (λ (xs : List Bytes). f ∷ xs) rest.0, rest.1)

-- entries, and a tail that stops at this place
record Stopped (bytes : Bytes) (place : ℕ) : Type 0 where
  entries : List Bytes
  tail : Bytes
  is : bytes ≡ front entries ++ tail
  stops : Stops tail
  short : All IsShort entries
  place_is : ((tail ≡ []) × (place ≡ length (front entries))) ⊎ ((0 < length tail) × (place ≡ length (front entries) + 1))

stopped : (bytes : Bytes) (place : ℕ) (entries : List Bytes) → StopsAt place entries bytes → Stopped bytes place
stopped bytes place entries stop = elim (stop.stops) [
  | inl none ↦ record { entries = entries; tail = []; is = none.0 ∙ sym (append-nil (front entries)); stops = inl refl; short = stop.short; place_is = inl (refl, none.1 ∙ ap length none.0) }
  | inr one ↦ record { entries = entries; tail = open_gate ∷ one.0; is = one.1; stops = inr (one.0, refl, one.2); short = stop.short; place_is = inr (omega arith, one.3) }
]

same_place : (bytes : Bytes) (p q : ℕ) → Stopped bytes p → Stopped bytes q → p ≡ q
same_place bytes p q one two =
    let same = one_stop one.entries two.entries one.tail two.tail
    (behind_header _ _ (sym (append_assoc header (body one.entries) one.tail) ∙ sym one.is ∙ two.is ∙ append_assoc header (body two.entries) two.tail))
    one.stops two.stops one.short two.short in
    let fronts : length (front one.entries) ≡ length (front two.entries) = ap (λ (es : List Bytes). length (front es)) same.0 in
    let tails : length one.tail ≡ length two.tail = ap length same.1 in
    elim (one.place_is) [
      | inl a ↦ elim (two.place_is) [ inl b ↦ omega (arith, fronts, a.1, b.1) | inr b ↦ absurd (omega (arith, tails, ap length a.0, b.0)) ]
      | inr a ↦ elim (two.place_is) [ inl b ↦ absurd (omega (arith, tails, ap length b.0, a.0)) | inr b ↦ omega (arith, fronts, a.1, b.1) ]
    ]

no_header : (bytes : Bytes) (q : ℕ) → take 8 bytes ≢ header → Stopped bytes q → ⊥
no_header bytes q broken stop = broken (ap (λ (l : Bytes). take 8 l) stop.is)

pub one_place : (bytes : Bytes) (p q : ℕ) → IsBroken bytes p → IsBroken bytes q → p ≡ q
one_place bytes p q (inl a) (inl b) = a.0 ∙ sym b.0
one_place bytes p q (inl a) (inr b) = absurd (no_header bytes q a.1 (stopped bytes q b.0 b.1))
one_place bytes p q (inr a) (inl b) = absurd (no_header bytes p b.1 (stopped bytes p a.0 a.1))
one_place bytes p q (inr a) (inr b) = same_place bytes p q (stopped bytes p a.0 a.1) (stopped bytes q b.0 b.1)
