-- Deadlines stay those of the pairs that are kept, whatever entry is taken in.
use Rattle.std.proofs.Common.{◌≡◌, ℕ, suc, ◌+◌, ◌*◌, ◌==◌, ◌<◌, ◌≤◌, ◌⊎◌, max, Bool, true, ◌&&◌, ◌||◌, List, [], ◌∷◌, ◌++◌, length, map, replicate, take, Option, Some, None, IfSome, is_some, find, slice_get, refl, sym, ap, subst, ◌∙◌, append-nil, arith, length-append, inl, inr, ⊎_elim}
use Rattle.std.specs.List.{cons_option, filter_map, list_all}
use Rattle.std.specs.Option.{option_or}
use Rattle.std.specs.Str.{bytes_eq}
use Rattle.std.proofs.lemmas.Bool.{and_from, cases_Bool, eq-eqb, or_left, or_parts, or_right}
use Rattle.std.proofs.lemmas.Bool.Decides.{nat_tests}
use Rattle.std.proofs.lemmas.List.{length-map, map-append, take-append-le, take-map}
use Rattle.std.proofs.lemmas.List.Folds.{find-append, list_all-map}
use Rattle.std.proofs.lemmas.Slice.Eq.{bytes_eq-Decides}
use Rattle.pec_types.specs.Passed.{is_past, passed}
use Rattle.pec_types.specs.Timetable.{Rising, last_of}
use Rattle.pec_types.specs.declared.limits.Due.{Due}
use Rattle.pec_types.specs.declared.limits.Due.TheVariants as dues
use Rattle.pec_types.specs.declared.limits.TheConstants.{WARNING_AFTER, NOTICE_AFTER}
use Rattle.pec_shelf.proofs.PassedLemmas.{from_alike, front_is_past, last_up_to, passed_still, passed_within, rises_alike, up_to_alike, up_to_both, up_to_higher, up_to_last}
use Rattle.pec_records.specs.declared.entries.Entry.{Entry}
use Rattle.pec_records.specs.declared.entries.Entry.TheVariants as entries
use Rattle.pec_ledger.specs.Deadlines.{acceptances}
use Rattle.pec_ledger.specs.Half.{Charge, Half, Known, Mark, Message}
use Rattle.pec_ledger.specs.Lookups.{charged_of, is_notice, is_warning, known_of, notice_of, warning_of}
use Rattle.pec_ledger.specs.Marks.{marked, marks_from}
use Rattle.pec_ledger.specs.Pairs.{Pair, id_of, pair_of, same_id, same_pair}
use Rattle.pec_ledger.specs.Own.{Own}
use Rattle.pec_ledger.specs.Steps.{messages_by, moment_of}
use Rattle.pec_ledger.specs.Trade.{Trade}
use Rattle.pec_shelf.specs.Deadlines.{HoldsCursors, IsSideOf, IsWatched, Pairing, Watch, clock_at, is_noted, is_quiet, mark_on, moments_of, pairs_at, pairs_in, set_by, spot_of, spots_of}
use Rattle.pec_shelf.specs.Prepared.{IsStep, Prepared, all_of, clock_by, prepared}
use Rattle.pec_shelf.specs.Seen.{certified_by, certified_in, certified_of}
use Rattle.pec_shelf.specs.Sides.{Kept, Sent, certified_of_rows, messages_of}
use Rattle.pec_shelf.specs.declared.deadlines.Clock.{Clock}
use Rattle.pec_shelf.specs.declared.deadlines.Spot.{Spot}
use Rattle.pec_shelf.proofs.AcceptanceLemmas.{acceptances_are}
use Rattle.pec_shelf.proofs.DueLemmas.{due_noted, due_warned}
use Rattle.pec_shelf.proofs.KeptLemmas.{marks_are}
use Rattle.pec_shelf.proofs.PairingLemmas.{all_from, got_of_take, length_at, marks_on, moments_at, moments_kept, one_found, one_of_all, pairs_joined}
use Rattle.pec_shelf.proofs.StillLemmas.{or_grows, still_some}

-- The sender's side is the old one with these rows.
pub record Grows (old new : Sent) (more : List Kept) (charges : List Charge) (notices : List Mark) (outcomes : List Known) : Type 0 where
  pub me : new.me ≡ old.me
  pub messages : new.messages ≡ old.messages ++ more
  pub charged : new.charged ≡ old.charged ++ charges
  pub marks : new.marks ≡ old.marks ++ notices
  pub known : new.known ≡ old.known ++ outcomes

-- ---- what is owed no more isn't later

later_some : {X : Type 0} (a b : Option X) → is_some b ≡ true → is_some (option_or a b) ≡ true
later_some None b e = e
later_some (Some x) b e = refl

noted_still : (me : ℕ) (marks notices : List Mark) (known outcomes : List Known) (pair : Pairing)
    → is_noted me marks known pair ≡ true → is_noted me (marks ++ notices) (known ++ outcomes) pair ≡ true
noted_still me marks notices known outcomes pair e =
    let named = pair_of (id_of me pair.number) pair.certified.address in
    let is_known = λ (row : Known). same_pair named row.pair in
    let is_noticed = λ (mark : Mark). is_notice mark.due && same_pair named mark.pair in
    or_grows (is_some (find is_known known)) (is_some (find is_noticed marks)) (is_some (find is_known (known ++ outcomes))) (is_some (find is_noticed (marks ++ notices)))
    (λ k. ap is_some (find-append is_known known outcomes) ∙ still_some (find is_known known) (find is_known outcomes) k)
    (λ m. ap is_some (find-append is_noticed marks notices) ∙ still_some (find is_noticed marks) (find is_noticed notices) m)
    e

quiet_still : (me : ℕ) (marks notices : List Mark) (known outcomes : List Known) (charged charges : List Charge) (pair : Pairing)
    → is_quiet me marks known charged pair ≡ true → is_quiet me (marks ++ notices) (known ++ outcomes) (charged ++ charges) pair ≡ true
quiet_still me marks notices known outcomes charged charges pair e =
    let id = id_of me pair.number in
    let is_charge = λ (charge : Charge). same_id id charge.id && (pair.certified.home == charge.by) in
    let is_warned = λ (mark : Mark). is_warning mark.due && same_pair (pair_of id pair.certified.address) mark.pair in
    or_grows (is_noted me marks known pair) (is_some (find is_charge charged) || is_some (find is_warned marks))
    (is_noted me (marks ++ notices) (known ++ outcomes) pair) (is_some (find is_charge (charged ++ charges)) || is_some (find is_warned (marks ++ notices)))
    (noted_still me marks notices known outcomes pair)
    (or_grows (is_some (find is_charge charged)) (is_some (find is_warned marks)) (is_some (find is_charge (charged ++ charges))) (is_some (find is_warned (marks ++ notices)))
    (λ c. ap is_some (find-append is_charge charged charges) ∙ still_some (find is_charge charged) (find is_charge charges) c)
    (λ m. ap is_some (find-append is_warned marks notices) ∙ still_some (find is_warned marks) (find is_warned notices) m))
    e

-- ---- what a clock call marks is owed no more

-- a pair is the same as itself
pair_again : (pair : Pair) → same_pair pair pair ≡ true
pair_again pair =
    and_from (same_id pair.id pair.id) (bytes_eq pair.recipient pair.recipient)
    (and_from (pair.id.provider == pair.id.provider) (pair.id.number == pair.id.number) (eq-eqb pair.id.provider pair.id.provider refl) (eq-eqb pair.id.number pair.id.number refl))
    ((bytes_eq-Decides pair.recipient pair.recipient).1 refl)

module _ (me : ℕ) (half : Half) (now : ℕ) (pairs : List Pairing) (k : ℕ) (pair : Pairing) (got : slice_get pairs k ≡ Some pair) where
  abbrev named : Pair
  named = pair_of (id_of me pair.number) pair.certified.address

  abbrev marks_now : List Mark
  marks_now = half.marks ++ filter_map (mark_on me half now) pairs

  noticed_now : (due : Due) → is_notice due ≡ true → mark_on me half now pair ≡ Some (record { pair = named; due = due; moment = now })
      → is_some (find (λ (mark : Mark). is_notice mark.due && same_pair named mark.pair) marks_now) ≡ true
  noticed_now due notice is =
      let test = λ (mark : Mark). is_notice mark.due && same_pair named mark.pair in
      ap is_some (find-append test half.marks (filter_map (mark_on me half now) pairs))
      ∙ later_some (find test half.marks) (find test (filter_map (mark_on me half now) pairs))
      (one_found (mark_on me half now) test pairs k pair (record { pair = named; due = due; moment = now }) got is
      (ap (λ (b : Bool). b && same_pair named named) notice ∙ pair_again named))

  warned_now : mark_on me half now pair ≡ Some (record { pair = named; due = dues.Warning; moment = now })
      → is_some (find (λ (mark : Mark). is_warning mark.due && same_pair named mark.pair) marks_now) ≡ true
  warned_now is =
      let test = λ (mark : Mark). is_warning mark.due && same_pair named mark.pair in
      ap is_some (find-append test half.marks (filter_map (mark_on me half now) pairs))
      ∙ later_some (find test half.marks) (find test (filter_map (mark_on me half now) pairs))
      (one_found (mark_on me half now) test pairs k pair (record { pair = named; due = dues.Warning; moment = now }) got is (pair_again named))

  module _ (outcomes : List Known) (charges : List Charge) where
    noted_by_notice : (due : Due) → is_notice due ≡ true → mark_on me half now pair ≡ Some (record { pair = named; due = due; moment = now })
        → is_noted me marks_now (half.known ++ outcomes) pair ≡ true
    noted_by_notice due notice is = or_right _ _ (noticed_now due notice is)

    -- behind the second limit each pair is known or has its notice
    noted_now : pair.accepted + NOTICE_AFTER ≤ now → is_noted me marks_now (half.known ++ outcomes) pair ≡ true
    noted_now past =
        ⊎_elim
        (λ noted. noted_still me half.marks (filter_map (mark_on me half now) pairs) half.known outcomes pair noted)
        (λ none. let flags = or_parts (is_some (known_of half named)) (is_some (notice_of half named)) none in
        ⊎_elim
        (λ notice. noted_by_notice dues.Notice refl (ap (marked named now) notice))
        (λ late. noted_by_notice dues.LateNotice refl (ap (marked named now) late))
        (due_noted _ past flags.0 flags.1))
        (cases_Bool (is_noted me half.marks half.known pair))

    -- behind the first limit each pair is known, in charge, or has its warning or notice
    quiet_now : pair.accepted + WARNING_AFTER ≤ now → is_quiet me marks_now (half.known ++ outcomes) (half.charged ++ charges) pair ≡ true
    quiet_now past =
        ⊎_elim
        (λ quiet. quiet_still me half.marks (filter_map (mark_on me half now) pairs) half.known outcomes half.charged charges pair quiet)
        (λ none. let parts = or_parts (is_noted me half.marks half.known pair) (is_some (charged_of half (id_of me pair.number) pair.certified.home) || is_some (warning_of half named)) none in
        let flags = or_parts (is_some (known_of half named)) (is_some (notice_of half named)) parts.0 in
        let others = or_parts (is_some (charged_of half (id_of me pair.number) pair.certified.home)) (is_some (warning_of half named)) parts.1 in
        ⊎_elim
        (λ warning. or_right _ _ (or_right _ _ (warned_now (ap (marked named now) warning))))
        (λ more. ⊎_elim
        (λ notice. or_left _ _ (noted_by_notice dues.Notice refl (ap (marked named now) notice)))
        (λ late. or_left _ _ (noted_by_notice dues.LateNotice refl (ap (marked named now) late)))
        more)
        (due_warned _ past flags.0 flags.1 others.0 others.1))
        (cases_Bool (is_quiet me half.marks half.known half.charged pair))

-- ---- which pairs are behind a limit

behind_limit : (limit now : ℕ) (pairs : List Pairing) (moments : List ℕ) (k : ℕ) (pair : Pairing) → moments ≡ moments_of pairs → Rising moments
    → slice_get (take (passed limit now moments) pairs) k ≡ Some pair → pair.accepted + limit ≤ now
behind_limit limit now pairs moments k pair are rising got =
    let n = passed limit now moments in
    let test = λ (p : Pairing). is_past limit now p.accepted in
    let all : list_all test (take n pairs) ≡ true =
    sym (list_all-map (is_past limit now) (λ (p : Pairing). p.accepted) (take n pairs))
    ∙ ap (list_all (is_past limit now)) (sym (take-map (λ (p : Pairing). p.accepted) n pairs))
    ∙ ap (λ (ms : List ℕ). list_all (is_past limit now) (take n ms)) (sym are)
    ∙ front_is_past limit now 0 moments rising in
    by (one_of_all test (take n pairs) k pair all got)
  where
    by : is_past limit now pair.accepted ≡ true → pair.accepted + limit ≤ now
    by e = grind (arith, nat_tests)

-- ---- pairs more

pairs_grow : (old new : Sent) (more : List Kept) (charges : List Charge) (notices : List Mark) (outcomes : List Known) → Grows old new more charges notices outcomes
    → pairs_in 0 new.messages ≡ pairs_in 0 old.messages ++ pairs_in (length old.messages) more
pairs_grow old new more charges notices outcomes grows =
    let same : 0 + length old.messages ≡ length old.messages = omega arith in
    ap (pairs_in 0) grows.messages ∙ pairs_joined 0 old.messages more ∙ ap (λ (n : ℕ). pairs_in 0 old.messages ++ pairs_in n more) same

module _ (old new : Sent) (watch later : Watch) (last : ℕ) (more : List Kept) (charges : List Charge) (notices : List Mark) (outcomes : List Known)
    (watched : IsWatched watch last old) (grows : Grows old new more charges notices outcomes)
    (moments : later.moments ≡ watch.moments ++ moments_of (pairs_in (length old.messages) more))
    (spots : later.spots ≡ watch.spots ++ spots_of (pairs_in (length old.messages) more)) where
  new_moments : later.moments ≡ moments_of (pairs_in 0 new.messages)
  new_moments =
      moments ∙ ap (λ (ms : List ℕ). ms ++ moments_of (pairs_in (length old.messages) more)) watched.moments
      ∙ sym (map-append (λ (pair : Pairing). pair.accepted) (pairs_in 0 old.messages) (pairs_in (length old.messages) more))
      ∙ ap moments_of (sym (pairs_grow old new more charges notices outcomes grows))

  new_spots : later.spots ≡ spots_of (pairs_in 0 new.messages)
  new_spots =
      spots ∙ ap (λ (ss : List Spot). ss ++ spots_of (pairs_in (length old.messages) more)) watched.spots
      ∙ sym (map-append spot_of (pairs_in 0 old.messages) (pairs_in (length old.messages) more))
      ∙ ap spots_of (sym (pairs_grow old new more charges notices outcomes grows))

  size : length watch.moments ≡ length (pairs_in 0 old.messages)
  size = ap length watched.moments ∙ length-map (pairs_in 0 old.messages) (λ (pair : Pairing). pair.accepted)

  -- what stands before a cursor is as it was
  same_front : (n : ℕ) → n ≤ length watch.moments → take n (pairs_in 0 new.messages) ≡ take n (pairs_in 0 old.messages)
  same_front n l =
      ap (take n) (pairs_grow old new more charges notices outcomes grows)
      ∙ take-append-le n (pairs_in 0 old.messages) (pairs_in (length old.messages) more) (omega (arith, l, size))

  still_quiet : (n : ℕ) → n ≡ watch.warned → n ≤ length watch.moments
      → list_all (is_quiet new.me new.marks new.known new.charged) (take n (pairs_in 0 new.messages)) ≡ true
  still_quiet n e l =
      rw (same_front n l, grows.me, grows.marks, grows.known, grows.charged)
      (all_from (is_quiet old.me (old.marks ++ notices) (old.known ++ outcomes) (old.charged ++ charges)) (take n (pairs_in 0 old.messages)) (λ k pair got.
      quiet_still old.me old.marks notices old.known outcomes old.charged charges pair
      (one_of_all (is_quiet old.me old.marks old.known old.charged) (take n (pairs_in 0 old.messages)) k pair
      (ap (λ (m : ℕ). list_all (is_quiet old.me old.marks old.known old.charged) (take m (pairs_in 0 old.messages))) e ∙ watched.quiet) got)))

  still_noted : (n : ℕ) → n ≡ watch.noticed → n ≤ length watch.moments
      → list_all (is_noted new.me new.marks new.known) (take n (pairs_in 0 new.messages)) ≡ true
  still_noted n e l =
      rw (same_front n l, grows.me, grows.marks, grows.known)
      (all_from (is_noted old.me (old.marks ++ notices) (old.known ++ outcomes)) (take n (pairs_in 0 old.messages)) (λ k pair got.
      noted_still old.me old.marks notices old.known outcomes pair
      (one_of_all (is_noted old.me old.marks old.known) (take n (pairs_in 0 old.messages)) k pair
      (ap (λ (m : ℕ). list_all (is_noted old.me old.marks old.known) (take m (pairs_in 0 old.messages))) e ∙ watched.settled) got)))

  -- the cursors stay, and what is accepted isn't before the greatest moment
  watched_more : (at n last_later : ℕ) → moments_of (pairs_in (length old.messages) more) ≡ replicate n at → last ≤ at → at ≤ last_later
      → later.warned ≡ watch.warned → later.noticed ≡ watch.noticed → later.ticked ≡ watch.ticked → IsWatched later last_later new
  watched_more at n last_later alike after before warned noticed ticked =
      let whole : later.moments ≡ watch.moments ++ replicate n at = moments ∙ ap (λ (ms : List ℕ). watch.moments ++ ms) alike in
      let first : watch.ticked < at + WARNING_AFTER = omega (arith, watched.in_time) in
      let second : watch.ticked < at + NOTICE_AFTER = omega (arith, watched.in_time) in
      let same_first = passed_still WARNING_AFTER watch.ticked at watch.moments (replicate n at) (from_alike at at n (omega arith)) first in
      let same_second = passed_still NOTICE_AFTER watch.ticked at watch.moments (replicate n at) (from_alike at at n (omega arith)) second in
      let up : IfSome (last_of later.moments) (λ moment. moment ≤ last_later) =
      rw whole (last_up_to last_later (watch.moments ++ replicate n at)
      (up_to_both last_later watch.moments (replicate n at)
      (up_to_higher last last_later watch.moments (omega arith) (up_to_last 0 last watch.moments watched.rising watched.below)) (up_to_alike last_later at n before))) in
      record {
        moments = new_moments;
        spots = new_spots;
        rising = rw whole (rises_alike watch.moments last at n watched.rising watched.below after);
        below = up;
        in_time = omega (arith, ticked, watched.in_time);
        warned = warned ∙ watched.warned ∙ sym same_first ∙ ap (passed WARNING_AFTER watch.ticked) (sym whole) ∙ ap (λ (m : ℕ). passed WARNING_AFTER m later.moments) (sym ticked);
        noticed = noticed ∙ watched.noticed ∙ sym same_second ∙ ap (passed NOTICE_AFTER watch.ticked) (sym whole) ∙ ap (λ (m : ℕ). passed NOTICE_AFTER m later.moments) (sym ticked);
        quiet = still_quiet later.warned warned (omega (arith, warned, watched.warned, passed_within WARNING_AFTER watch.ticked watch.moments));
        settled = still_noted later.noticed noticed (omega (arith, noticed, watched.noticed, passed_within NOTICE_AFTER watch.ticked watch.moments));
      }

-- a clock call: the cursors stand where their limits have passed
pub watched_ticked : (half : Half) (me : ℕ) (old new : Sent) (watch later : Watch) (last now last_later : ℕ) (charges : List Charge) (notices : List Mark) (outcomes : List Known)
    → IsWatched watch last old → IsSideOf me half old → Grows old new [] charges notices outcomes
    → notices ≡ filter_map (mark_on me half now) (pairs_in 0 old.messages)
    → later.moments ≡ watch.moments → later.spots ≡ watch.spots → later.warned ≡ passed WARNING_AFTER now watch.moments
    → later.noticed ≡ passed NOTICE_AFTER now watch.moments → later.ticked ≡ now → last ≤ now → now ≤ last_later
    → IsWatched later last_later new
watched_ticked half me old new watch later last now last_later charges notices outcomes watched side grows marks moments spots warned noticed ticked after before =
    let pairs = pairs_in 0 old.messages in
    let same : new.messages ≡ old.messages = grows.messages ∙ append-nil old.messages in
    let quiet : list_all (is_quiet me (half.marks ++ filter_map (mark_on me half now) pairs) (half.known ++ outcomes) (half.charged ++ charges))
    (take (passed WARNING_AFTER now watch.moments) pairs) ≡ true =
    all_from (is_quiet me (half.marks ++ filter_map (mark_on me half now) pairs) (half.known ++ outcomes) (half.charged ++ charges))
    (take (passed WARNING_AFTER now watch.moments) pairs) (λ k pair got.
    quiet_now me half now pairs k pair (got_of_take (passed WARNING_AFTER now watch.moments) pairs k pair got) outcomes charges
    (behind_limit WARNING_AFTER now pairs watch.moments k pair watched.moments watched.rising got)) in
    let noted : list_all (is_noted me (half.marks ++ filter_map (mark_on me half now) pairs) (half.known ++ outcomes)) (take (passed NOTICE_AFTER now watch.moments) pairs) ≡ true =
    all_from (is_noted me (half.marks ++ filter_map (mark_on me half now) pairs) (half.known ++ outcomes)) (take (passed NOTICE_AFTER now watch.moments) pairs) (λ k pair got.
    noted_now me half now pairs k pair (got_of_take (passed NOTICE_AFTER now watch.moments) pairs k pair got) outcomes charges
    (behind_limit NOTICE_AFTER now pairs watch.moments k pair watched.moments watched.rising got)) in
    record {
      moments = moments ∙ watched.moments ∙ ap (λ (rows : List Kept). moments_of (pairs_in 0 rows)) (sym same);
      spots = spots ∙ watched.spots ∙ ap (λ (rows : List Kept). spots_of (pairs_in 0 rows)) (sym same);
      rising = rw moments watched.rising;
      below = rw moments (last_up_to last_later watch.moments (up_to_higher last last_later watch.moments (omega arith) (up_to_last 0 last watch.moments watched.rising watched.below)));
      in_time = omega (arith, ticked, before);
      warned = warned ∙ ap (λ (m : ℕ). passed WARNING_AFTER m watch.moments) (sym ticked) ∙ ap (passed WARNING_AFTER later.ticked) (sym moments);
      noticed = noticed ∙ ap (λ (m : ℕ). passed NOTICE_AFTER m watch.moments) (sym ticked) ∙ ap (passed NOTICE_AFTER later.ticked) (sym moments);
      quiet = rw (same, warned, grows.me, grows.marks, grows.known, grows.charged, side.own, side.marks, side.known, side.charged, marks) quiet;
      settled = rw (same, noticed, grows.me, grows.marks, grows.known, side.own, side.marks, side.known, marks) noted;
    }

-- ---- room

-- as many pairs as certified recipients
pub pairs_counted : (number : ℕ) (rows : List Kept) → length (pairs_in number rows) ≡ length (all_of (certified_of_rows rows))
pairs_counted number [] = refl
pairs_counted number (row ∷ rows) = omega (
  arith,
  length-append (pairs_at number 0 row.message.moment row.certified) (pairs_in (number + 1) rows),
  length_at number 0 row.message.moment row.certified,
  pairs_counted (number + 1) rows,
  length-append row.certified (all_of (certified_of_rows rows)),
)

pub set_room : (watch : Watch) (clock : Option Clock) → (set_by watch clock).room ≡ watch.room
set_room watch None = refl
set_room watch (Some clock) = refl

-- ---- by entries

no_rows : (rows : List Kept) → messages_of rows ≡ [] → rows ≡ []
no_rows [] e = refl
no_rows (row ∷ rows) e = cc

one_row : (number : ℕ) (rows : List Kept) (message : Message) → messages_of rows ≡ message ∷ []
    → (n : ℕ) × (moments_of (pairs_in number rows) ≡ replicate n message.moment)
one_row number [] message e = cc
one_row number (row ∷ []) message e =
    let same : row.message ≡ message = cc in (
      length row.certified,
      ap moments_of (append-nil (pairs_at number 0 row.message.moment row.certified)) ∙ moments_at number 0 row.message.moment row.certified
          ∙ ap (λ (m : Message). replicate (length row.certified) m.moment) same,
    )
one_row number (row ∷ (next ∷ rows)) message e = cc

none_more : (number : ℕ) (rows : List Kept) (at : ℕ) → messages_of rows ≡ [] → (n : ℕ) × (moments_of (pairs_in number rows) ≡ replicate n at)
none_more number rows at e = (0, ap (λ (ks : List Kept). moments_of (pairs_in number ks)) (no_rows rows e))

-- the messages that an entry adds are accepted at its moment
pub accepted_by : (trade : Trade) (me : ℕ) (half : Half) (entry : Entry) (number : ℕ) (rows : List Kept) → messages_of rows ≡ messages_by trade me half entry
    → (n : ℕ) × (moments_of (pairs_in number rows) ≡ replicate n (moment_of entry))
accepted_by trade me half (entries.Start provider digest) number rows e = none_more number rows 0 e
accepted_by trade me half (entries.Accepted moment sender message) number rows e = one_row number rows _ e
accepted_by trade me half (entries.NotAccepted moment sender cause path message) number rows e = one_row number rows _ e
accepted_by trade me half (entries.Took moment id message) number rows e = none_more number rows moment e
accepted_by trade me half (entries.Decided moment id recipient decision) number rows e = none_more number rows moment e
accepted_by trade me half (entries.Charged moment id by) number rows e = none_more number rows moment e
accepted_by trade me half (entries.Learned moment id recipient decision decided message) number rows e = none_more number rows moment e
accepted_by trade me half (entries.Acked moment id recipient) number rows e = none_more number rows moment e
accepted_by trade me half (entries.Ticked moment) number rows e = none_more number rows moment e
accepted_by trade me half (entries.Anomaly moment accounts message) number rows e = none_more number rows moment e
accepted_by trade me half (entries.StartTwo provider digest) number rows e = none_more number rows 0 e
accepted_by trade me half (entries.Upgraded moment) number rows e = none_more number rows moment e
accepted_by trade me half (entries.Archived moment account place) number rows e = none_more number rows moment e

-- an entry is a clock call, or moves no cursor
clock_or_none : (trade : Trade) (half : Half) (entry : Entry) → ((now : ℕ) × (entry ≡ entries.Ticked now)) ⊎ (clock_by trade half entry ≡ None)
clock_or_none trade half (entries.Start provider digest) = inr refl
clock_or_none trade half (entries.Accepted moment sender message) = inr refl
clock_or_none trade half (entries.NotAccepted moment sender cause path message) = inr refl
clock_or_none trade half (entries.Took moment id message) = inr refl
clock_or_none trade half (entries.Decided moment id recipient decision) = inr refl
clock_or_none trade half (entries.Charged moment id by) = inr refl
clock_or_none trade half (entries.Learned moment id recipient decision decided message) = inr refl
clock_or_none trade half (entries.Acked moment id recipient) = inr refl
clock_or_none trade half (entries.Ticked moment) = inl (moment, refl)
clock_or_none trade half (entries.Anomaly moment accounts message) = inr refl
clock_or_none trade half (entries.StartTwo provider digest) = inr refl
clock_or_none trade half (entries.Upgraded moment) = inr refl
clock_or_none trade half (entries.Archived moment account place) = inr refl

module _ (trade : Trade) (me : ℕ) (half : Half) (entry : Entry) (ready : Prepared) (old new : Sent) (watch set : Watch)
    (more : List Kept) (charges : List Charge) (notices : List Mark) (outcomes : List Known)
    (watched : IsWatched watch half.last old) (side : IsSideOf me half old) (step : IsStep trade me half entry) (is : ready ≡ prepared trade me half entry ready.place)
    (homes : certified_of_rows old.messages ≡ map (certified_by trade) half.messages)
    (adds : messages_of more ≡ ready.adds.messages) (setting : set ≡ set_by watch ready.clock) where
  more_messages : messages_of more ≡ messages_by trade me half entry
  more_messages = adds ∙ ap (λ (p : Prepared). p.adds.messages) is

  set_moments : set.moments ≡ watch.moments
  set_moments = ap (λ (w : Watch). w.moments) setting ∙ by ready.clock
    where
      by : (clock : Option Clock) → (set_by watch clock).moments ≡ watch.moments
      by None = refl
      by (Some clock) = refl

  set_spots : set.spots ≡ watch.spots
  set_spots = ap (λ (w : Watch). w.spots) setting ∙ by ready.clock
    where
      by : (clock : Option Clock) → (set_by watch clock).spots ≡ watch.spots
      by None = refl
      by (Some clock) = refl

  -- what comes isn't before what is there
  pub rising_more : (number : ℕ) → Rising (set.moments ++ moments_of (pairs_in number more))
  rising_more number =
      let at = accepted_by trade me half entry number more more_messages in
      rw (set_moments, at.1) (rises_alike watch.moments half.last (moment_of entry) at.0 watched.rising watched.below step.in_time)

  pub watched_on : (later : Watch) (number last_later : ℕ) → Grows old new more charges notices outcomes → notices ≡ ready.adds.marks → number ≡ length old.messages
      → later.moments ≡ set.moments ++ moments_of (pairs_in number more) → later.spots ≡ set.spots ++ spots_of (pairs_in number more)
      → HoldsCursors set later → last_later ≡ max half.last ready.adds.moment → IsWatched later last_later new
  watched_on later number last_later grows marks first moments spots holds ends =
      let moment : ready.adds.moment ≡ moment_of entry = ap (λ (p : Prepared). p.adds.moment) is in
      let late : moment_of entry ≤ last_later = omega (arith, ends, moment) in
      let at_end = ap (λ (n : ℕ). watch.moments ++ moments_of (pairs_in n more)) first in
      let all_moments : later.moments ≡ watch.moments ++ moments_of (pairs_in (length old.messages) more) =
      moments ∙ ap (λ (ms : List ℕ). ms ++ moments_of (pairs_in number more)) set_moments ∙ at_end in
      let all_spots : later.spots ≡ watch.spots ++ spots_of (pairs_in (length old.messages) more) =
      spots ∙ ap (λ (ss : List Spot). ss ++ spots_of (pairs_in number more)) set_spots ∙ ap (λ (n : ℕ). watch.spots ++ spots_of (pairs_in n more)) first in
      ⊎_elim
      (λ ticked. let now = ticked.0 in
      let same = ticked.1 in
      let none : more ≡ [] = no_rows more (more_messages ∙ ap (messages_by trade me half) same) in
      let clock : ready.clock ≡ Some (clock_at now (acceptances trade half)) = ap (λ (p : Prepared). p.clock) is ∙ ap (clock_by trade half) same in
      let times : acceptances trade half ≡ watch.moments =
      acceptances_are trade half old.messages side.messages homes ∙ sym (moments_kept 0 old.messages) ∙ sym watched.moments in
      let is_set : set ≡ set_by watch (Some (clock_at now watch.moments)) =
      setting ∙ ap (set_by watch) clock ∙ ap (λ (ms : List ℕ). set_by watch (Some (clock_at now ms))) times in
      let told : notices ≡ filter_map (mark_on me half now) (pairs_in 0 old.messages) =
      marks ∙ ap (λ (p : Prepared). p.adds.marks) is ∙ ap (λ (e : Entry). (prepared trade me half e ready.place).adds.marks) same
      ∙ sym (marks_are trade me half now 0 old.messages (homes ∙ ap (map (certified_by trade)) (sym side.messages)) ∙ ap (marks_from trade me half now 0) side.messages)
      ∙ marks_on me half now 0 old.messages in
      let at : moment_of entry ≡ now = ap moment_of same in
      let after : half.last ≤ now = omega (arith, step.in_time, at) in
      watched_ticked half me old new watch later half.last now last_later charges notices outcomes watched side
      (subst (λ (rows : List Kept). Grows old new rows charges notices outcomes) none grows) told
      (all_moments ∙ ap (λ (rows : List Kept). watch.moments ++ moments_of (pairs_in (length old.messages) rows)) none ∙ append-nil watch.moments)
      (all_spots ∙ ap (λ (rows : List Kept). watch.spots ++ spots_of (pairs_in (length old.messages) rows)) none ∙ append-nil watch.spots)
      (holds.1 ∙ ap (λ (w : Watch). w.warned) is_set) (holds.2 ∙ ap (λ (w : Watch). w.noticed) is_set) (holds.3 ∙ ap (λ (w : Watch). w.ticked) is_set)
      after (omega (arith, at, late)))
      (λ none. let at = accepted_by trade me half entry (length old.messages) more more_messages in
      let is_set : set ≡ watch = setting ∙ ap (set_by watch) (ap (λ (p : Prepared). p.clock) is ∙ none) in
      watched_more old new watch later half.last more charges notices outcomes watched grows all_moments all_spots (moment_of entry) at.0 last_later at.1 step.in_time late
      (holds.1 ∙ ap (λ (w : Watch). w.warned) is_set) (holds.2 ∙ ap (λ (w : Watch). w.noticed) is_set) (holds.3 ∙ ap (λ (w : Watch). w.ticked) is_set))
      (clock_or_none trade half entry)

-- ---- no message yet

pub watched_new : (watch : Watch) (last : ℕ) (sent : Sent) (me : ℕ) → watch ≡ record { moments = []; looks = 0; spots = []; room = 0; warned = 0; noticed = 0; ticked = 0 }
    → last ≡ 0 → sent ≡ record { me = me; messages = []; charged = []; marks = []; known = []; room = 0 } → IsWatched watch last sent
watched_new watch last sent me w l s = rw (w, l, s) (record {
  moments = refl;
  spots = refl;
  rising = tt;
  below = tt;
  in_time = omega arith;
  warned = refl;
  noticed = refl;
  quiet = refl;
  settled = refl;
})

-- ---- how many pairs there may be

few_of : {X Y : Type 0} (comes : X → Option Y) (xs : List X) → length (filter_map comes xs) ≤ length xs
few_of comes [] = omega arith
few_of {X} {Y} comes (x ∷ xs) = by (comes x) (few_of comes xs)
  where
    by : (o : Option Y) → length (filter_map comes xs) ≤ length xs → length (cons_option o (filter_map comes xs)) ≤ suc (length xs)
    by None l = omega (arith, l)
    by (Some y) l = omega (arith, l)

none_full : (number : ℕ) (rows : List Kept) → messages_of rows ≡ [] → length (pairs_in number rows) ≤ 1000 * length rows
none_full number rows e = rw (no_rows rows e) (omega arith)

one_full : (trade : Trade) (number : ℕ) (rows : List Kept) (message : Message) → messages_of rows ≡ message ∷ []
    → certified_of_rows rows ≡ certified_by trade message ∷ [] → length (certified_by trade message) ≤ 1000 → length (pairs_in number rows) ≤ 1000 * length rows
one_full trade number [] message e c few = omega arith
one_full trade number (row ∷ []) message e c few =
    let same : row.certified ≡ certified_by trade message = cc in
    omega (
      arith,
      length-append (pairs_at number 0 row.message.moment row.certified) [],
      length_at number 0 row.message.moment row.certified,
      ap length same,
      few,
    )
one_full trade number (row ∷ (next ∷ rows)) message e c few = cc

-- a message that an entry adds has no more pairs than it may have recipients
pub full_by : (trade : Trade) (me : ℕ) (half : Half) (entry : Entry) (number : ℕ) (rows : List Kept) → Own trade me half entry
    → messages_of rows ≡ messages_by trade me half entry → certified_of_rows rows ≡ map (certified_by trade) (messages_by trade me half entry)
    → length (pairs_in number rows) ≤ 1000 * length rows
full_by trade me half (entries.Start provider digest) number rows own e c = none_full number rows e
full_by trade me half (entries.Accepted moment sender message) number rows own e c =
    let from = own.2 in
    one_full trade number rows _ e c
    (rw (ap (certified_in trade) from.are) (omega (arith, few_of (certified_of trade) from.facts.recipients, from.few)))
full_by trade me half (entries.NotAccepted moment sender cause path message) number rows own e c = one_full trade number rows _ e c (omega arith)
full_by trade me half (entries.Took moment id message) number rows own e c = none_full number rows e
full_by trade me half (entries.Decided moment id recipient decision) number rows own e c = none_full number rows e
full_by trade me half (entries.Charged moment id by) number rows own e c = none_full number rows e
full_by trade me half (entries.Learned moment id recipient decision decided message) number rows own e c = none_full number rows e
full_by trade me half (entries.Acked moment id recipient) number rows own e c = none_full number rows e
full_by trade me half (entries.Ticked moment) number rows own e c = none_full number rows e
full_by trade me half (entries.Anomaly moment accounts message) number rows own e c = none_full number rows e
full_by trade me half (entries.StartTwo provider digest) number rows own e c = none_full number rows e
full_by trade me half (entries.Upgraded moment) number rows own e c = none_full number rows e
full_by trade me half (entries.Archived moment account place) number rows own e c = none_full number rows e
