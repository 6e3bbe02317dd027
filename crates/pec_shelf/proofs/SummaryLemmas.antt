-- What is counted row by row is the summary of the ledger, where the homes that are kept are the trade's.
use Rattle.std.proofs.Common.{◌≡◌, ℕ, suc, ◌+◌, ◌*◌, ◌<◌, ◌≤◌, Bool, true, false, cond, if◌then◌else◌, List, [], ◌∷◌, ◌++◌, length, map, drop, refl, sym, ap, subst, ◌∙◌, arith, Option, Some, None, is_some, slice_get}
use Rattle.std.specs.List.{cons_option, filter, filter_map}
use Rattle.std.specs.Option.{option_map}
use Rattle.std.proofs.Math.ListN.{drop_of_length-le}
use Rattle.std.proofs.lemmas.List.{length-append}
use Rattle.std.proofs.lemmas.Option.{get_or_from_slice_get, slice_get-map, slice_get_within}
use Rattle.pec_types.specs.Message.{Id}
use Rattle.pec_types.specs.Moments.{is_within}
use Rattle.pec_types.specs.declared.messages.Facts.{Facts}
use Rattle.pec_types.specs.declared.messages.Recipient.{Recipient}
use Rattle.pec_ledger.specs.Along.{times}
use Rattle.pec_ledger.specs.Half.{Half, Message}
use Rattle.pec_ledger.specs.Lookups.{accepted_of}
use Rattle.pec_ledger.specs.Pairs.{Pair, id_of, pair_of}
use Rattle.pec_ledger.specs.Trade.{Trade}
use Rattle.pec_shelf.specs.Seen.{certified_at, certified_by, certified_in, certified_of}
use Rattle.pec_shelf.specs.Sides.{Kept, certified_of_rows, messages_of}
use Rattle.pec_shelf.specs.Summaries.{IsUpTo, all_pairs, half_within, is_accepted, is_delivered, is_noticed, is_turned_away, is_unknown, most_pairs, nothing_yet, pairs_from, pairs_of, summary_of, summary_within, within}
use Rattle.pec_shelf.specs.SummariesReading.{kept_within, more_if, with_accepted, with_message, with_messages, with_pair, with_pairs}
use Rattle.pec_shelf.specs.declared.certified.Certified.{Certified}
use Rattle.pec_shelf.specs.declared.summing.Summary.{Summary}
use Rattle.pec_types.specs.Timetable.{greatest}
use Rattle.pec_shelf.specs.Deadlines.{pairs_at, pairs_in}
use Rattle.pec_shelf.proofs.LoopLemmas.{drop_at}
use Rattle.pec_shelf.proofs.PairingLemmas.{length_at}

same_heads : {X : Type 0} (x y : X) (xs ys : List X) → x ∷ xs ≡ y ∷ ys → (x ≡ y) × (xs ≡ ys)
same_heads x y xs ys e = (cc, cc)

-- ---- counts

abbrev five : ℕ → ℕ → ℕ → ℕ → ℕ → Summary
five a d r u n = record { accepted = a; delivered = d; refused = r; unknown = u; noticed = n }

same_five : (a b d e r s u v n m : ℕ) → a ≡ b → d ≡ e → r ≡ s → u ≡ v → n ≡ m → five a d r u n ≡ five b e s v m
same_five a b d e r s u v n m ab de rs uv nm =
    ap (λ x. five x d r u n) ab
    ∙ (ap (λ x. five b x r u n) de ∙ (ap (λ x. five b e x u n) rs ∙ (ap (λ x. five b e s x n) uv ∙ ap (λ x. five b e s v x) nm)))

-- ---- numbers that don't come to their greatest value

-- one more, where that counts, whatever the number is
abbrev one_if : ℕ → Bool → ℕ
one_if count counts = cond counts (count + 1) count

abbrev exact_pair : Half → Summary → Pair → Summary
exact_pair half s pair = five s.accepted (one_if s.delivered (is_delivered half pair)) (one_if s.refused (is_turned_away half pair))
    (one_if s.unknown (is_unknown half pair)) (one_if s.noticed (is_noticed half pair))

abbrev exact_pairs : Half → Id → Summary → List Certified → Summary
exact_pairs half id s [] = s
exact_pairs half id s (one ∷ others) = exact_pairs half id (exact_pair half s (pair_of id one.address)) others

abbrev exact_accepted : Summary → Kept → Summary
exact_accepted s row = record s { accepted = one_if s.accepted (is_accepted row.message) }

abbrev exact_messages : ℕ → Half → Summary → ℕ → List Kept → Summary
exact_messages me half s number [] = s
exact_messages me half s number (row ∷ rows) =
    exact_messages me half (exact_pairs half (id_of me number) (exact_accepted s row) row.certified) (number + 1) rows

-- so many messages and pairs
abbrev size_of : List Kept → ℕ
size_of [] = 0
size_of (row ∷ rows) = suc (length row.certified) + size_of rows

same_one : (n most : ℕ) (b : Bool) → n ≤ most → most < greatest → more_if n b ≡ one_if n b
same_one n most true l below = omega arith
same_one n most false l below = refl

one_up : (n most : ℕ) (b : Bool) → n ≤ most → one_if n b ≤ most + 1
one_up n most true l = omega arith
one_up n most false l = omega arith

pair_same : (half : Half) (s : Summary) (pair : Pair) (most : ℕ) → IsUpTo s most → most < greatest → with_pair half s pair ≡ exact_pair half s pair
pair_same half s pair most up below = same_five s.accepted s.accepted _ _ _ _ _ _ _ _ refl
    (same_one s.delivered most (is_delivered half pair) up.delivered below) (same_one s.refused most (is_turned_away half pair) up.refused below)
    (same_one s.unknown most (is_unknown half pair) up.unknown below) (same_one s.noticed most (is_noticed half pair) up.noticed below)

pair_up : (half : Half) (s : Summary) (pair : Pair) (most : ℕ) → IsUpTo s most → IsUpTo (exact_pair half s pair) (most + 1)
pair_up half s pair most up = record {
  accepted = omega (arith, up.accepted);
  delivered = one_up s.delivered most (is_delivered half pair) up.delivered;
  refused = one_up s.refused most (is_turned_away half pair) up.refused;
  unknown = one_up s.unknown most (is_unknown half pair) up.unknown;
  noticed = one_up s.noticed most (is_noticed half pair) up.noticed;
}

further_up : (s : Summary) (most more : ℕ) → most ≡ more → IsUpTo s most → IsUpTo s more
further_up s most more e up = subst (IsUpTo s) e up

pairs_same : (half : Half) (id : Id) (s : Summary) (certified : List Certified) (most : ℕ) → IsUpTo s most → most + length certified ≤ greatest
    → with_pairs half id s certified ≡ exact_pairs half id s certified
pairs_same half id s [] most up below = refl
pairs_same half id s (one ∷ others) most up below =
    ap (λ t. with_pairs half id t others) (pair_same half s (pair_of id one.address) most up (omega arith))
    ∙ pairs_same half id (exact_pair half s (pair_of id one.address)) others (most + 1) (pair_up half s (pair_of id one.address) most up) (omega arith)

pairs_up : (half : Half) (id : Id) (s : Summary) (certified : List Certified) (most : ℕ) → IsUpTo s most → IsUpTo (exact_pairs half id s certified) (most + length certified)
pairs_up half id s [] most up = further_up s most (most + 0) (omega arith) up
pairs_up half id s (one ∷ others) most up =
    further_up _ ((most + 1) + length others) (most + suc (length others)) (omega arith)
    (pairs_up half id (exact_pair half s (pair_of id one.address)) others (most + 1) (pair_up half s (pair_of id one.address) most up))

accepted_up : (s : Summary) (row : Kept) (most : ℕ) → IsUpTo s most → IsUpTo (exact_accepted s row) (most + 1)
accepted_up s row most up = record {
  accepted = one_up s.accepted most (is_accepted row.message) up.accepted;
  delivered = omega (arith, up.delivered);
  refused = omega (arith, up.refused);
  unknown = omega (arith, up.unknown);
  noticed = omega (arith, up.noticed);
}

messages_same : (me : ℕ) (half : Half) (s : Summary) (number : ℕ) (rows : List Kept) (most : ℕ) → IsUpTo s most → most + size_of rows ≤ greatest
    → with_messages me half s number rows ≡ exact_messages me half s number rows
messages_same me half s number [] most up below = refl
messages_same me half s number (row ∷ rows) most up below =
    let id = id_of me number in
    let accepted : with_accepted s row ≡ exact_accepted s row =
    ap (λ n. five n s.delivered s.refused s.unknown s.noticed) (same_one s.accepted most (is_accepted row.message) up.accepted (omega arith)) in
    ap (λ t. with_messages me half (with_pairs half id t row.certified) (number + 1) rows) accepted
    ∙ (ap (λ t. with_messages me half t (number + 1) rows)
    (pairs_same half id (exact_accepted s row) row.certified (most + 1) (accepted_up s row most up) (omega arith))
    ∙ messages_same me half (exact_pairs half id (exact_accepted s row) row.certified) (number + 1) rows ((most + 1) + length row.certified)
    (pairs_up half id (exact_accepted s row) row.certified (most + 1) (accepted_up s row most up)) (omega arith))

messages_up : (me : ℕ) (half : Half) (s : Summary) (number : ℕ) (rows : List Kept) (most : ℕ) → IsUpTo s most
    → IsUpTo (exact_messages me half s number rows) (most + size_of rows)
messages_up me half s number [] most up = further_up s most (most + 0) (omega arith) up
messages_up me half s number (row ∷ rows) most up =
    let id = id_of me number in
    further_up _ (((most + 1) + length row.certified) + size_of rows) (most + (suc (length row.certified) + size_of rows)) (omega arith)
    (messages_up me half (exact_pairs half id (exact_accepted s row) row.certified) (number + 1) rows ((most + 1) + length row.certified)
    (pairs_up half id (exact_accepted s row) row.certified (most + 1) (accepted_up s row most up)))

sized : (number : ℕ) (rows : List Kept) → size_of rows ≡ length rows + length (pairs_in number rows)
sized number [] = refl
sized number (row ∷ rows) = omega (
  arith,
  sized (number + 1) rows,
  length-append (pairs_at number 0 row.message.moment row.certified) (pairs_in (number + 1) rows),
  length_at number 0 row.message.moment row.certified,
)

none_up : IsUpTo nothing_yet 0
none_up = record { accepted = omega arith; delivered = omega arith; refused = omega arith; unknown = omega arith; noticed = omega arith }

higher_up : (s : Summary) (low high : ℕ) → low ≤ high → IsUpTo s low → IsUpTo s high
higher_up s low high l up = record {
  accepted = omega (arith, up.accepted);
  delivered = omega (arith, up.delivered);
  refused = omega (arith, up.refused);
  unknown = omega (arith, up.unknown);
  noticed = omega (arith, up.noticed);
}

counted_more : {X : Type 0} (test : X → Bool) (n : ℕ) (x : X) (xs : List X) → one_if n (test x) + times test xs ≡ n + times test (x ∷ xs)
counted_more {X} test n x xs = by (test x)
  where
    by : (b : Bool) → cond b (n + 1) n + length (filter test xs) ≡ n + length (cond b (x ∷ filter test xs) (filter test xs))
    by true = omega arith
    by false = refl

counted_both : {X : Type 0} (test : X → Bool) (xs ys : List X) → times test (xs ++ ys) ≡ times test xs + times test ys
counted_both test [] ys = omega arith
counted_both {X} test (x ∷ xs) ys = by (test x) (counted_both test xs ys)
  where
    by : (b : Bool) → times test (xs ++ ys) ≡ times test xs + times test ys
        → length (cond b (x ∷ filter test (xs ++ ys)) (filter test (xs ++ ys)))
        ≡ length (cond b (x ∷ filter test xs) (filter test xs)) + length (filter test ys)
    by true e = omega (arith, e)
    by false e = e

-- a summary with these pairs
abbrev with_all : Half → Summary → List Pair → Summary
with_all half s pairs = five s.accepted (s.delivered + times (is_delivered half) pairs) (s.refused + times (is_turned_away half) pairs)
    (s.unknown + times (is_unknown half) pairs) (s.noticed + times (is_noticed half) pairs)

-- the pairs of these recipients
abbrev pairs_for : Id → List Certified → List Pair
pairs_for id certified = map (λ (one : Certified). pair_of id one.address) certified

zero_more : (n : ℕ) → n ≡ n + 0
zero_more n = omega arith

pairs_counted : (half : Half) (id : Id) (s : Summary) (certified : List Certified)
    → exact_pairs half id s certified ≡ with_all half s (pairs_for id certified)
pairs_counted half id s [] =
    same_five s.accepted s.accepted s.delivered _ s.refused _ s.unknown _ s.noticed _ refl (zero_more s.delivered) (zero_more s.refused)
    (zero_more s.unknown) (zero_more s.noticed)
pairs_counted half id s (one ∷ others) =
    let pair = pair_of id one.address in
    let rest = pairs_for id others in
    pairs_counted half id (exact_pair half s pair) others
    ∙ same_five s.accepted s.accepted _ _ _ _ _ _ _ _ refl
    (counted_more (is_delivered half) s.delivered pair rest) (counted_more (is_turned_away half) s.refused pair rest)
    (counted_more (is_unknown half) s.unknown pair rest) (counted_more (is_noticed half) s.noticed pair rest)

-- the pairs of rows, numbered from here on
abbrev pairs_rows : ℕ → ℕ → List Kept → List Pair
pairs_rows me number [] = []
pairs_rows me number (row ∷ rows) = pairs_for (id_of me number) row.certified ++ pairs_rows me (number + 1) rows

-- a summary with these rows
abbrev with_rows : ℕ → Half → Summary → ℕ → List Kept → Summary
with_rows me half s number rows =
    with_all half (record s { accepted = s.accepted + times is_accepted (messages_of rows) }) (pairs_rows me number rows)

further : {X : Type 0} (test : X → Bool) (n : ℕ) (xs ys : List X) → (n + times test xs) + times test ys ≡ n + times test (xs ++ ys)
further test n xs ys = omega (arith, counted_both test xs ys)

rows_counted : (me : ℕ) (half : Half) (s : Summary) (number : ℕ) (rows : List Kept)
    → exact_messages me half s number rows ≡ with_rows me half s number rows
rows_counted me half s number [] =
    same_five s.accepted _ s.delivered _ s.refused _ s.unknown _ s.noticed _ (zero_more s.accepted) (zero_more s.delivered)
    (zero_more s.refused) (zero_more s.unknown) (zero_more s.noticed)
rows_counted me half s number (row ∷ rows) =
    let id = id_of me number in
    let here = pairs_for id row.certified in
    let rest = pairs_rows me (number + 1) rows in
    ap (λ t. exact_messages me half t (number + 1) rows) (pairs_counted half id (exact_accepted s row) row.certified)
    ∙ (rows_counted me half (with_all half (exact_accepted s row) here) (number + 1) rows
    ∙ same_five _ _ _ _ _ _ _ _ _ _ (counted_more is_accepted s.accepted row.message (messages_of rows))
    (further (is_delivered half) s.delivered here rest) (further (is_turned_away half) s.refused here rest)
    (further (is_unknown half) s.unknown here rest) (further (is_noticed half) s.noticed here rest))

-- ---- the pairs are the ledger's

pairs_step : (id : Id) (r : Recipient) (xs : List Certified) (ys : List Recipient)
    → pairs_for id xs ≡ map (λ (recipient : Recipient). pair_of id recipient.address) ys → (home : Option ℕ)
    → pairs_for id (cons_option (option_map (certified_at r) home) xs)
    ≡ map (λ (recipient : Recipient). pair_of id recipient.address) (cond (is_some home) (r ∷ ys) ys)
pairs_step id r xs ys more None = more
pairs_step id r xs ys more (Some home) = ap (λ pairs. pair_of id r.address ∷ pairs) more

pairs_certified : (trade : Trade) (id : Id) (rs : List Recipient)
    → pairs_for id (filter_map (certified_of trade) rs)
    ≡ map (λ (recipient : Recipient). pair_of id recipient.address) (filter (λ (recipient : Recipient). is_some (trade.home recipient.address)) rs)
pairs_certified trade id [] = refl
pairs_certified trade id (r ∷ rs) = pairs_step id r _ _ (pairs_certified trade id rs) (trade.home r.address)

pairs_message : (trade : Trade) (id : Id) (message : Message) (facts : Option Facts) → message.facts ≡ facts
    → pairs_for id (certified_in trade facts) ≡ pairs_of trade id (accepted_of message)
pairs_message trade id message None e = rw e refl
pairs_message trade id message (Some facts) e = rw e (pairs_certified trade id facts.recipients)

pairs_are : (trade : Trade) (me number : ℕ) (rows : List Kept) → certified_of_rows rows ≡ map (certified_by trade) (messages_of rows)
    → pairs_rows me number rows ≡ pairs_from trade me number (messages_of rows)
pairs_are trade me number [] e = refl
pairs_are trade me number (row ∷ rows) e =
    let parts = same_heads _ _ _ _ e in
    ap (λ certified. pairs_for (id_of me number) certified ++ pairs_rows me (number + 1) rows) parts.0
    ∙ (ap (λ pairs. pairs ++ pairs_rows me (number + 1) rows) (pairs_message trade (id_of me number) row.message row.message.facts refl)
    ∙ ap (λ pairs. pairs_of trade (id_of me number) (accepted_of row.message) ++ pairs) (pairs_are trade me (number + 1) rows parts.1))

exact_is : (trade : Trade) (me : ℕ) (half : Half) (rows : List Kept) → messages_of rows ≡ half.messages
    → certified_of_rows rows ≡ map (certified_by trade) half.messages
    → exact_messages me half nothing_yet 0 rows ≡ summary_of trade me half
exact_is trade me half rows messages certified =
    let pairs : pairs_rows me 0 rows ≡ all_pairs trade me half =
    pairs_are trade me 0 rows (certified ∙ ap (map (certified_by trade)) (sym messages)) ∙ ap (pairs_from trade me 0) messages in
    rows_counted me half nothing_yet 0 rows
    ∙ same_five _ _ _ _ _ _ _ _ _ _ (from_zero is_accepted (messages_of rows) half.messages messages)
    (from_zero (is_delivered half) (pairs_rows me 0 rows) (all_pairs trade me half) pairs)
    (from_zero (is_turned_away half) (pairs_rows me 0 rows) (all_pairs trade me half) pairs)
    (from_zero (is_unknown half) (pairs_rows me 0 rows) (all_pairs trade me half) pairs)
    (from_zero (is_noticed half) (pairs_rows me 0 rows) (all_pairs trade me half) pairs)
  where
    from_zero : {X : Type 0} (test : X → Bool) (xs ys : List X) → xs ≡ ys → 0 + times test xs ≡ times test ys
    from_zero test xs ys e = let none : 0 + times test xs ≡ times test xs = omega arith in none ∙ ap (times test) e

-- a provider has at most so many messages, and so many pairs
few_enough : (rows : List Kept) → length rows ≤ 1000000 → length (pairs_in 0 rows) ≤ 1000 * length rows → 0 + size_of rows ≤ most_pairs
few_enough rows few full = omega (arith, sized 0 rows)

pub summary_is : (trade : Trade) (me : ℕ) (half : Half) (rows : List Kept) → length rows ≤ 1000000 → length (pairs_in 0 rows) ≤ 1000 * length rows
    → messages_of rows ≡ half.messages → certified_of_rows rows ≡ map (certified_by trade) half.messages
    → with_messages me half nothing_yet 0 rows ≡ summary_of trade me half
summary_is trade me half rows few full messages certified =
    let below = few_enough rows few full in
    messages_same me half nothing_yet 0 rows 0 none_up (omega (arith, below)) ∙ exact_is trade me half rows messages certified

pub summary_few : (me : ℕ) (half : Half) (rows : List Kept) (summary : Summary) → length rows ≤ 1000000 → length (pairs_in 0 rows) ≤ 1000 * length rows
    → summary ≡ with_messages me half nothing_yet 0 rows → IsUpTo summary most_pairs
summary_few me half rows summary few full is =
    let below = few_enough rows few full in
    rw (is, messages_same me half nothing_yet 0 rows 0 none_up (omega (arith, below)))
    (higher_up (exact_messages me half nothing_yet 0 rows) (0 + size_of rows) most_pairs below (messages_up me half nothing_yet 0 rows 0 none_up))

-- ---- loops

-- a row more
pub message_more : (me : ℕ) (half : Half) (rows : List Kept) (n : ℕ) (row : Kept) (old new whole : Summary)
    → Some row ≡ slice_get rows n → new ≡ with_message half (id_of me n) old row
    → with_messages me half old n (drop n rows) ≡ whole → with_messages me half new (n + 1) (drop (n + 1) rows) ≡ whole
message_more me half rows n row old new whole there is before =
    let rest = drop (n + 1) rows in
    let left : drop n rows ≡ row ∷ rest =
    drop_at rows n row (slice_get_within rows n row (sym there)) (sym (get_or_from_slice_get rows n row row (sym there))) in
    ap (λ s. with_messages me half s (n + 1) rest) is ∙ (sym (ap (with_messages me half old n) left) ∙ before)

-- behind the last row
pub messages_done : (me : ℕ) (half : Half) (rows : List Kept) (n : ℕ) (summary whole : Summary) → length rows ≤ n
    → with_messages me half summary n (drop n rows) ≡ whole → summary ≡ whole
messages_done me half rows n summary whole past before =
    sym (ap (with_messages me half summary n) (drop_of_length-le rows past)) ∙ before

-- ---- a range

-- a row that isn't of the range adds nothing, and one that is adds what it has
pub none_of_range : (half : Half) (id : Id) (s : Summary) (from upto : ℕ) (row : Kept)
    → is_within from upto row.message.moment ≡ false → s ≡ with_message half id s (kept_within from upto row)
none_of_range half id s from upto row out = rw out refl

pub one_of_range : (half : Half) (id : Id) (s : Summary) (from upto : ℕ) (row : Kept)
    → is_within from upto row.message.moment ≡ true
    → with_message half id s row ≡ with_message half id s (kept_within from upto row)
one_of_range half id s from upto row is_in = rw is_in refl

pub range_more : (me : ℕ) (half : Half) (from upto : ℕ) (rows : List Kept) (n : ℕ) (row : Kept) (old new whole : Summary)
    → Some row ≡ slice_get rows n → new ≡ with_message half (id_of me n) old (kept_within from upto row)
    → with_messages me half old n (drop n (map (kept_within from upto) rows)) ≡ whole
    → with_messages me half new (n + 1) (drop (n + 1) (map (kept_within from upto) rows)) ≡ whole
range_more me half from upto rows n row old new whole there is before =
    message_more me half (map (kept_within from upto) rows) n (kept_within from upto row) old new whole
    (ap (option_map (kept_within from upto)) there ∙ sym (slice_get-map (kept_within from upto) rows n))
    is before

module _ (from upto : ℕ) where
  -- what is counted doesn't ask which messages were accepted
  pairs_alike : (half : Half) (id : Id) (s : Summary) (certified : List Certified)
      → with_pairs half id s certified ≡ with_pairs (half_within from upto half) id s certified
  pairs_alike half id s [] = refl
  pairs_alike half id s (one ∷ others) = pairs_alike half id (with_pair half s (pair_of id one.address)) others

  messages_alike : (me : ℕ) (half : Half) (s : Summary) (number : ℕ) (rows : List Kept)
      → with_messages me half s number rows ≡ with_messages me (half_within from upto half) s number rows
  messages_alike me half s number [] = refl
  messages_alike me half s number (row ∷ rows) =
      ap (λ t. with_messages me half t (number + 1) rows)
      (pairs_alike half (id_of me number) (with_accepted s row) row.certified)
      ∙ messages_alike me half (with_message (half_within from upto half) (id_of me number) s row) (number + 1) rows

  -- no more pairs than there are
  fewer : (size : ℕ) (row : Kept) (b : Bool)
      → suc (length (if b then row else record { message = record row.message { facts = None }; certified = [] }).certified) + size
      ≤ suc (length row.certified) + size
  fewer size row true = omega arith
  fewer size row false = omega arith

  size_within : (rows : List Kept) → size_of (map (kept_within from upto) rows) ≤ size_of rows
  size_within [] = omega arith
  size_within (row ∷ rows) =
      omega (arith, fewer (size_of (map (kept_within from upto) rows)) row (is_within from upto row.message.moment), size_within rows)

  message_within : (row : Kept) (b : Bool)
      → (if b then row else record { message = record row.message { facts = None }; certified = [] }).message
      ≡ if b then row.message else record row.message { facts = None }
  message_within row true = refl
  message_within row false = refl

  messages_within : (rows : List Kept) → messages_of (map (kept_within from upto) rows) ≡ map (within from upto) (messages_of rows)
  messages_within [] = refl
  messages_within (row ∷ rows) =
      ap (λ m. m ∷ messages_of (map (kept_within from upto) rows)) (message_within row (is_within from upto row.message.moment))
      ∙ ap (λ ms. within from upto row.message ∷ ms) (messages_within rows)

  one_certified : (trade : Trade) (row : Kept) (b : Bool) → row.certified ≡ certified_by trade row.message
      → (if b then row else record { message = record row.message { facts = None }; certified = [] }).certified
      ≡ certified_by trade (if b then row.message else record row.message { facts = None })
  one_certified trade row true is = is
  one_certified trade row false is = refl

  certified_within : (trade : Trade) (rows : List Kept) → certified_of_rows rows ≡ map (certified_by trade) (messages_of rows)
      → certified_of_rows (map (kept_within from upto) rows) ≡ map (certified_by trade) (map (within from upto) (messages_of rows))
  certified_within trade [] is = refl
  certified_within trade (row ∷ rows) is =
      let both = same_heads row.certified (certified_by trade row.message) (certified_of_rows rows) (map (certified_by trade) (messages_of rows)) is in
      ap (λ c. c ∷ certified_of_rows (map (kept_within from upto) rows))
      (one_certified trade row (is_within from upto row.message.moment) both.0)
      ∙ ap (λ cs. certified_by trade (within from upto row.message) ∷ cs) (certified_within trade rows both.1)

  pub within_is : (trade : Trade) (me : ℕ) (half : Half) (rows : List Kept) → length rows ≤ 1000000
      → length (pairs_in 0 rows) ≤ 1000 * length rows
      → messages_of rows ≡ half.messages → certified_of_rows rows ≡ map (certified_by trade) half.messages
      → with_messages me half nothing_yet 0 (map (kept_within from upto) rows) ≡ summary_within trade me from upto half
  within_is trade me half rows few full messages certified =
      let below = few_enough rows few full in
      let smaller = size_within rows in
      let other = half_within from upto half in
      messages_alike me half nothing_yet 0 (map (kept_within from upto) rows)
      ∙ (messages_same me other nothing_yet 0 (map (kept_within from upto) rows) 0 none_up (omega (arith, below, smaller))
      ∙ exact_is trade me other (map (kept_within from upto) rows)
      (messages_within rows ∙ ap (map (within from upto)) messages)
      (certified_within trade rows (certified ∙ ap (map (certified_by trade)) (sym messages))
      ∙ ap (λ ms. map (certified_by trade) (map (within from upto) ms)) messages))

  pub within_few : (me : ℕ) (half : Half) (rows : List Kept) (summary : Summary) → length rows ≤ 1000000
      → length (pairs_in 0 rows) ≤ 1000 * length rows
      → summary ≡ with_messages me half nothing_yet 0 (map (kept_within from upto) rows) → IsUpTo summary most_pairs
  within_few me half rows summary few full is =
      let below = few_enough rows few full in
      let smaller = size_within rows in
      let kept = map (kept_within from upto) rows in
      rw (is, messages_same me half nothing_yet 0 kept 0 none_up (omega (arith, below, smaller)))
      (higher_up (exact_messages me half nothing_yet 0 kept) (0 + size_of kept) most_pairs (omega (arith, below, smaller))
      (messages_up me half nothing_yet 0 kept 0 none_up))
