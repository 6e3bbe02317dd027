-- The marks of a clock call are those on the pairs that its cursors pass; and who submitted the message of a number.
use Rattle.std.proofs.Common.{◌≡◌, ℕ, ◌+◌, ◌-◌, ◌<◌, ◌≤◌, max, Bool, true, ◌&&◌, List, [], ◌∷◌, ◌++◌, length, take, drop, nat_lt, refl, sym, ap, ◌∙◌, append-nil, arith, take-add, Option, Some, None, is_some, slice_get, slice_range, unwrap_or, ⊎_elim}
use Rattle.std.specs.List.{filter_map, list_all}
use Rattle.std.specs.Option.{option_map}
use Rattle.std.proofs.lemmas.Bool.{cases_lt}
use Rattle.std.proofs.lemmas.Bool.Decides.{nat_tests}
use Rattle.std.proofs.lemmas.List.{drop-map, length-map}
use Rattle.std.proofs.lemmas.List.Folds.{drop_split, list_all-append, list_all-map}
use Rattle.std.proofs.lemmas.Option.{slice_get-map}
use Rattle.pec_types.specs.Bytes.{Bytes}
use Rattle.pec_types.specs.LimitsReading.{due_of}
use Rattle.pec_types.specs.Passed.{passed}
use Rattle.pec_types.specs.Timetable.{Rising}
use Rattle.pec_types.specs.declared.limits.Due.TheVariants as dues
use Rattle.pec_types.specs.declared.limits.TheConstants.{WARNING_AFTER, NOTICE_AFTER}
use Rattle.pec_shelf.proofs.PassedLemmas.{longer_less, passed_grows, passed_within, rest_is_ahead}
use Rattle.pec_ledger.specs.Half.{Half, Mark, Message}
use Rattle.pec_ledger.specs.Lookups.{charged_of, known_of, notice_of, submitter, warning_of}
use Rattle.pec_ledger.specs.Marks.{marked}
use Rattle.pec_ledger.specs.Pairs.{id_of, pair_of}
use Rattle.pec_shelf.specs.Deadlines.{IsSideOf, IsWatched, Pairing, Watch, is_noted, is_quiet, mark_on, moments_of, pairs_in}
use Rattle.pec_shelf.specs.Lines.{marks_rows}
use Rattle.pec_shelf.specs.Prepared.{Prepared, nothing, with_marks}
use Rattle.pec_shelf.specs.Sides.{Kept, Sent, messages_of}
use Rattle.pec_shelf.proofs.DueLemmas.{due_early, due_quiet, due_settled}
use Rattle.pec_shelf.proofs.LoopLemmas.{marks_joined}
use Rattle.pec_shelf.proofs.PairingLemmas.{all_parts, and_true, marks_on, none_comes}

pub submitter_is : (half : Half) (rows : List Kept) (n : ℕ) (row : Kept) (sender : Bytes) → messages_of rows ≡ half.messages → slice_get rows n ≡ Some row
    → sender ≡ row.message.sender → submitter half n ≡ sender
submitter_is half rows n row sender messages got s =
    let message : slice_get half.messages n ≡ Some row.message =
    ap (λ (ms : List Message). slice_get ms n) (sym messages) ∙ slice_get-map (λ (k : Kept). k.message) rows n ∙ ap (option_map (λ (k : Kept). k.message)) got in
    ap (λ (o : Option Message). unwrap_or (option_map (λ (m : Message). m.sender) o) []) message ∙ sym s

-- ---- on which pairs nothing is owed

module _ (me : ℕ) (half : Half) (now : ℕ) where
  abbrev is_ahead : ℕ → Pairing → Bool
  is_ahead limit = λ (pair : Pairing). nat_lt now (pair.accepted + limit)

  ahead_by : (limit : ℕ) (pair : Pairing) → is_ahead limit pair ≡ true → now < pair.accepted + limit
  ahead_by limit pair e = grind (arith, nat_tests)

  unmarked : (pair : Pairing) → due_of (record {
    at = now;
    accepted = pair.accepted;
    charged = is_some (charged_of half (id_of me pair.number) pair.certified.home);
    warned = is_some (warning_of half (pair_of (id_of me pair.number) pair.certified.address));
    noticed = is_some (notice_of half (pair_of (id_of me pair.number) pair.certified.address));
    known = is_some (known_of half (pair_of (id_of me pair.number) pair.certified.address));
  }) ≡ dues.Nothing → mark_on me half now pair ≡ None
  unmarked pair e = ap (marked (pair_of (id_of me pair.number) pair.certified.address) now) e

  no_mark_noted : (pair : Pairing) → is_noted me half.marks half.known pair ≡ true → mark_on me half now pair ≡ None
  no_mark_noted pair e = unmarked pair (due_settled _ e)

  no_mark_early : (pair : Pairing) → is_ahead WARNING_AFTER pair ≡ true → mark_on me half now pair ≡ None
  no_mark_early pair e = unmarked pair (due_early _ (ahead_by WARNING_AFTER pair e))

  no_mark_quiet : (pair : Pairing) → is_quiet me half.marks half.known half.charged pair && is_ahead NOTICE_AFTER pair ≡ true → mark_on me half now pair ≡ None
  no_mark_quiet pair e =
      let parts = and_true (is_quiet me half.marks half.known half.charged pair) (is_ahead NOTICE_AFTER pair) e in
      unmarked pair (due_quiet _ (ahead_by NOTICE_AFTER pair parts.1) parts.0)

  -- behind those whose limit has passed are those whose limit hasn't
  behind_are_ahead : (limit : ℕ) (pairs : List Pairing) (moments : List ℕ) → moments ≡ moments_of pairs → Rising moments
      → list_all (is_ahead limit) (drop (passed limit now moments) pairs) ≡ true
  behind_are_ahead limit pairs moments are rising =
      let ahead = λ (moment : ℕ). nat_lt now (moment + limit) in
      let n = passed limit now moments in
      sym (list_all-map ahead (λ (pair : Pairing). pair.accepted) (drop n pairs))
      ∙ ap (list_all ahead) (sym (drop-map (λ (pair : Pairing). pair.accepted) n pairs))
      ∙ ap (λ (ms : List ℕ). list_all ahead (drop n ms)) (sym are)
      ∙ rest_is_ahead limit now 0 moments rising

  -- between the two cursors nothing is owed
  none_between : (pairs : List Pairing) (from to : ℕ) → list_all (is_quiet me half.marks half.known half.charged) (take from pairs) ≡ true
      → list_all (is_ahead NOTICE_AFTER) (drop to pairs) ≡ true
      → filter_map (mark_on me half now) (slice_range pairs to (max from to)) ≡ []
  none_between pairs from to quiet ahead =
      ⊎_elim
      (λ (before : from < to). let none : max from to - to ≡ 0 = omega arith in
      ap (λ (n : ℕ). filter_map (mark_on me half now) (take n (drop to pairs))) none)
      (λ (after : to ≤ from). let same : max from to ≡ from = omega arith in
      ap (λ (n : ℕ). filter_map (mark_on me half now) (slice_range pairs to n)) same
      ∙ none_comes (mark_on me half now) (λ (pair : Pairing). is_quiet me half.marks half.known half.charged pair && is_ahead NOTICE_AFTER pair)
      (slice_range pairs to from) (λ pair e. no_mark_quiet pair e) (both_all (slice_range pairs to from) (quiet_part after) (ahead_part after)))
      (cases_lt from to)
    where
      quiet_test : Pairing → Bool
      quiet_test = is_quiet me half.marks half.known half.charged

      parts : to ≤ from → take from pairs ≡ take to pairs ++ slice_range pairs to from
      parts l =
          let sum : to + (from - to) ≡ from = omega arith in
          ap (λ (n : ℕ). take n pairs) (sym sum) ∙ take-add to (from - to) pairs

      quiet_part : to ≤ from → list_all quiet_test (slice_range pairs to from) ≡ true
      quiet_part l =
          (and_true (list_all quiet_test (take to pairs)) (list_all quiet_test (slice_range pairs to from))
          (sym (list_all-append quiet_test (take to pairs) (slice_range pairs to from)) ∙ ap (list_all quiet_test) (sym (parts l)) ∙ quiet)).1

      ahead_part : to ≤ from → list_all (is_ahead NOTICE_AFTER) (slice_range pairs to from) ≡ true
      ahead_part l =
          (and_true (list_all (is_ahead NOTICE_AFTER) (slice_range pairs to from)) (list_all (is_ahead NOTICE_AFTER) (drop from pairs))
          (sym (list_all-append (is_ahead NOTICE_AFTER) (slice_range pairs to from) (drop from pairs))
          ∙ ap (list_all (is_ahead NOTICE_AFTER)) (sym (drop_split pairs to from l)) ∙ ahead)).0

      both_all : (xs : List Pairing) → list_all quiet_test xs ≡ true → list_all (is_ahead NOTICE_AFTER) xs ≡ true
          → list_all (λ (pair : Pairing). quiet_test pair && is_ahead NOTICE_AFTER pair) xs ≡ true
      both_all [] p q = refl
      both_all (x ∷ xs) p q =
          let ps = and_true (quiet_test x) (list_all quiet_test xs) p in
          let qs = and_true (is_ahead NOTICE_AFTER x) (list_all (is_ahead NOTICE_AFTER) xs) q in
          ap (λ (b : Bool). (b && is_ahead NOTICE_AFTER x) && list_all (λ (pair : Pairing). quiet_test pair && is_ahead NOTICE_AFTER pair) xs) ps.0
          ∙ ap (λ (b : Bool). b && list_all (λ (pair : Pairing). quiet_test pair && is_ahead NOTICE_AFTER pair) xs) qs.0
          ∙ both_all xs ps.1 qs.1

  -- the marks are those on the pairs that the cursors pass
  passed_marks : (pairs : List Pairing) (moments : List ℕ) (warned noticed : ℕ) → moments ≡ moments_of pairs → Rising moments
      → list_all (is_quiet me half.marks half.known half.charged) (take warned pairs) ≡ true
      → list_all (is_noted me half.marks half.known) (take noticed pairs) ≡ true
      → warned ≤ passed WARNING_AFTER now moments → noticed ≤ passed NOTICE_AFTER now moments
      → filter_map (mark_on me half now) pairs
      ≡ filter_map (mark_on me half now) (slice_range pairs noticed (passed NOTICE_AFTER now moments))
      ++ filter_map (mark_on me half now) (slice_range pairs (max warned (passed NOTICE_AFTER now moments)) (passed WARNING_AFTER now moments))
  passed_marks pairs moments warned noticed are rising quiet settled w n =
      let mark = mark_on me half now in
      let second = passed NOTICE_AFTER now moments in
      let first = passed WARNING_AFTER now moments in
      let longer = longer_less WARNING_AFTER NOTICE_AFTER now moments (omega arith) in
      let from = max warned second in
      let before : second ≤ from = omega arith in
      let behind : from ≤ first = omega (arith, longer, w) in
      let front = none_comes mark (is_noted me half.marks half.known) (take noticed pairs) (λ pair e. no_mark_noted pair e) settled in
      let between = none_between pairs warned second quiet (behind_are_ahead NOTICE_AFTER pairs moments are rising) in
      let rest = none_comes mark (is_ahead WARNING_AFTER) (drop first pairs) (λ pair e. no_mark_early pair e) (behind_are_ahead WARNING_AFTER pairs moments are rising) in
      all_parts mark pairs noticed second from first n before behind
      ∙ ap (λ (ms : List Mark). ms ++ (filter_map mark (slice_range pairs noticed second) ++ (filter_map mark (slice_range pairs second from)
      ++ (filter_map mark (slice_range pairs from first) ++ filter_map mark (drop first pairs))))) front
      ∙ ap (λ (ms : List Mark). filter_map mark (slice_range pairs noticed second) ++ (ms ++ (filter_map mark (slice_range pairs from first) ++ filter_map mark (drop first pairs)))) between
      ∙ ap (λ (ms : List Mark). filter_map mark (slice_range pairs noticed second) ++ (filter_map mark (slice_range pairs from first) ++ ms)) rest
      ∙ ap (λ (ms : List Mark). filter_map mark (slice_range pairs noticed second) ++ ms) (append-nil (filter_map mark (slice_range pairs from first)))

-- ---- over the rows of a shelf

-- both cursors have passed no more than they will
pub ordered : (watch : Watch) (last now : ℕ) (sent : Sent) → IsWatched watch last sent → last ≤ now
    → (watch.warned ≤ passed WARNING_AFTER now watch.moments) × (watch.noticed ≤ passed NOTICE_AFTER now watch.moments)
ordered watch last now sent watched l =
    let time : watch.ticked ≤ now = omega (arith, watched.in_time) in
    let first = passed_grows WARNING_AFTER watch.ticked now watch.moments time in
    let second = passed_grows NOTICE_AFTER watch.ticked now watch.moments time in
    (omega (arith, watched.warned, first), omega (arith, watched.noticed, second))

-- both ranges lie within the pairs
pub within_pairs : (watch : Watch) (last now : ℕ) (sent : Sent) → IsWatched watch last sent
    → (passed WARNING_AFTER now watch.moments ≤ length (pairs_in 0 sent.messages)) × (passed NOTICE_AFTER now watch.moments ≤ length (pairs_in 0 sent.messages))
within_pairs watch last now sent watched =
    let size : length watch.moments ≡ length (pairs_in 0 sent.messages) =
    ap length watched.moments ∙ length-map (pairs_in 0 sent.messages) (λ (pair : Pairing). pair.accepted) in
    (omega (arith, size, passed_within WARNING_AFTER now watch.moments), omega (arith, size, passed_within NOTICE_AFTER now watch.moments))

-- from where to where the second range goes
pub second_ordered : (watch : Watch) (last now : ℕ) (sent : Sent) → IsWatched watch last sent → last ≤ now
    → max watch.warned (passed NOTICE_AFTER now watch.moments) ≤ passed WARNING_AFTER now watch.moments
second_ordered watch last now sent watched l =
    let longer = longer_less WARNING_AFTER NOTICE_AFTER now watch.moments (omega arith) in
    omega (arith, longer, (ordered watch last now sent watched l).0)

all_marks : (me : ℕ) (half : Half) (watch : Watch) (last now : ℕ) (sent : Sent) → IsSideOf me half sent → IsWatched watch last sent → last ≤ now
    → marks_rows me half now 0 sent.messages
    ≡ filter_map (mark_on me half now) (slice_range (pairs_in 0 sent.messages) watch.noticed (passed NOTICE_AFTER now watch.moments))
    ++ filter_map (mark_on me half now) (slice_range (pairs_in 0 sent.messages) (max watch.warned (passed NOTICE_AFTER now watch.moments)) (passed WARNING_AFTER now watch.moments))
all_marks me half watch last now sent side watched l =
    let pairs = pairs_in 0 sent.messages in
    let order = ordered watch last now sent watched l in
    marks_on me half now 0 sent.messages
    ∙ passed_marks me half now pairs watch.moments watch.warned watch.noticed watched.moments watched.rising
    (rw (side.own, side.marks, side.known, side.charged) at watched.quiet)
    (rw (side.own, side.marks, side.known) at watched.settled)
    order.0 order.1

-- the marks of a clock call, where those of both ranges were added
pub marks_are : (me : ℕ) (half : Half) (watch : Watch) (last now : ℕ) (sent : Sent) (first second warned noticed from : ℕ) (none some ready : Prepared)
    → IsSideOf me half sent → IsWatched watch last sent → last ≤ now
    → first ≡ passed WARNING_AFTER now watch.moments → second ≡ passed NOTICE_AFTER now watch.moments
    → warned ≡ watch.warned → noticed ≡ watch.noticed → from ≡ max warned second → none ≡ nothing
    → some ≡ with_marks half none (filter_map (mark_on me half now) (slice_range (pairs_in 0 sent.messages) noticed second))
    → ready ≡ with_marks half some (filter_map (mark_on me half now) (slice_range (pairs_in 0 sent.messages) from first))
    → ready ≡ with_marks half nothing (marks_rows me half now 0 sent.messages)
marks_are me half watch last now sent first second warned noticed from none some ready side watched l a b w n f e s r =
    let pairs = pairs_in 0 sent.messages in
    let mark = mark_on me half now in
    let start : from ≡ max watch.warned (passed NOTICE_AFTER now watch.moments) = f ∙ ap (λ (m : ℕ). max m second) w ∙ ap (max watch.warned) b in
    let notices : filter_map mark (slice_range pairs noticed second) ≡ filter_map mark (slice_range pairs watch.noticed (passed NOTICE_AFTER now watch.moments)) =
    ap (λ (m : ℕ). filter_map mark (slice_range pairs m second)) n ∙ ap (λ (m : ℕ). filter_map mark (slice_range pairs watch.noticed m)) b in
    let warnings : filter_map mark (slice_range pairs from first)
    ≡ filter_map mark (slice_range pairs (max watch.warned (passed NOTICE_AFTER now watch.moments)) (passed WARNING_AFTER now watch.moments)) =
    ap (λ (m : ℕ). filter_map mark (slice_range pairs m first)) start
    ∙ ap (λ (m : ℕ). filter_map mark (slice_range pairs (max watch.warned (passed NOTICE_AFTER now watch.moments)) m)) a in
    r ∙ ap (with_marks half some) warnings
    ∙ ap (λ (p : Prepared). with_marks half p (filter_map mark (slice_range pairs (max watch.warned (passed NOTICE_AFTER now watch.moments)) (passed WARNING_AFTER now watch.moments))))
    (s ∙ ap (with_marks half none) notices
    ∙ ap (λ (p : Prepared). with_marks half p (filter_map mark (slice_range pairs watch.noticed (passed NOTICE_AFTER now watch.moments)))) e)
    ∙ marks_joined half nothing (filter_map mark (slice_range pairs watch.noticed (passed NOTICE_AFTER now watch.moments)))
    (filter_map mark (slice_range pairs (max watch.warned (passed NOTICE_AFTER now watch.moments)) (passed WARNING_AFTER now watch.moments)))
    ∙ ap (with_marks half nothing) (sym (all_marks me half watch last now sent side watched l))
