-- Turns step by step: plans, frames that are taken, frames that are put, and cuts.
use Rattle.std.proofs.Common.{◌≡◌, ◌↔◌, ◌⊎◌, ℕ, zero, suc, ◌+◌, ◌-◌, ◌<◌, ◌≤◌, List, [], ◌∷◌, ◌++◌, inl, inr, length, take, drop, refl, ap, sym, subst, ◌∙◌, arith, Option, Some, None}
use Rattle.std.specs.Prelude.{Contains, IsSome, slice_get, slice_index_or}
use Rattle.std.specs.List.{cons_option, filter_map}
use Rattle.std.specs.Option.{option_and_then}
use Rattle.std.proofs.lemmas.Bool.{false≢true}
use Rattle.std.proofs.lemmas.List.{drop-drop, length-drop, length-map, length-take, take_all}
use Rattle.std.proofs.lemmas.Option.{none-some, slice_get_within}
use Rattle.pec_types.specs.Bytes.{Bytes}
use Rattle.pec_types.specs.declared.letters.Letter.{Letter}
use Rattle.pec_types.specs.declared.turns.ProviderFault.{ProviderFault}
use Rattle.pec_types.specs.declared.turns.ProviderFault.TheVariants as faults
use Rattle.pec_records.specs.declared.entries.Entry.{Entry}
use Rattle.pec_ledger.specs.Due.{due_letters}
use Rattle.pec_ledger.specs.Network.{Site}
use Rattle.pec_ledger.specs.Pairs.{Pair}
use Rattle.pec_ledger.specs.Steps.{half}
use Rattle.pec_ledger.specs.Trade.{Trade}
use Rattle.pec_plays.specs.Decisions.{Looks, decide, undecided}
use Rattle.pec_plays.specs.Frames.{IsDueFrame, due_frames, frame_of}
use Rattle.pec_plays.specs.Possible.{IsOfKept, IsOfRead, MayCut, MayFail, TellsCut, as_told, cut_by}
use Rattle.pec_plays.specs.Steps.{Step, journal_after}
use Rattle.pec_plays.specs.Turns.{Cut, Whole, Fails, Full, Stops, Unread, Other, Sees, cut_turn, decisions, entries_of, events_of, frames_in, owed_of, plan, puts_from, that_fit, without_first}
use Rattle.pec_plays.proofs.ListLemmas.{contains_cases, contains_here, contains_none, contains_there}
use Rattle.pec_plays.proofs.NextLemmas.{next_undecided}

-- ---- plans

module _ (trade : Trade) (p now : ℕ) (looks : Looks) (es : List Entry) where
  pub pair_first : (pair : Pair) (pairs : List Pair) → undecided trade p es ≡ pair ∷ pairs
      → plan trade p now looks es [] ≡ decide trade p now looks es pair ∷ plan trade p now looks (journal_after es (decide trade p now looks es pair)) []
  pair_first pair pairs e =
      let behind = journal_after es (decide trade p now looks es pair)
      in ap (decisions trade p now looks es) e
      ∙ ap (λ (left : List Pair). decide trade p now looks es pair ∷ decisions trade p now looks behind left) (sym (next_undecided trade p now looks es pair pairs e))

  pub none_left : undecided trade p es ≡ [] → plan trade p now looks es [] ≡ []
  none_left e = ap (decisions trade p now looks es) e

-- ---- frames that are taken

none_taken : (links : List (List Bytes)) → without_first 0 links ≡ links
none_taken [] = refl
none_taken (link ∷ links) = ap (λ (l : List (List Bytes)). link ∷ l) (ap (λ (n : ℕ). without_first n links) (let z : 0 - length link ≡ 0 = omega arith in z) ∙ none_taken links)

drop_append : (n : ℕ) (xs ys : List Bytes) → drop n (xs ++ ys) ≡ drop n xs ++ drop (n - length xs) ys
drop_append n [] ys = ap (λ (k : ℕ). drop k ys) (let z : n ≡ n - 0 = omega arith in z) ∙ sym (nothing_before n ys)
  where
    nothing_before : (n : ℕ) (ys : List Bytes) → drop n [] ++ drop (n - 0) ys ≡ drop (n - 0) ys
    nothing_before zero ys = refl
    nothing_before (suc n) ys = refl
drop_append zero (x ∷ xs) ys = ap (λ (k : ℕ). (x ∷ xs) ++ drop k ys) (let z : 0 ≡ 0 - length (x ∷ xs) = omega arith in z)
drop_append (suc n) (x ∷ xs) ys =
    drop_append n xs ys ∙ ap (λ (k : ℕ). drop n xs ++ drop k ys) (let z : n - length xs ≡ suc n - length (x ∷ xs) = omega arith in z)

pub taken_left : (n : ℕ) (links : List (List Bytes)) → frames_in (without_first n links) ≡ drop n (frames_in links)
taken_left zero [] = refl
taken_left (suc n) [] = refl
taken_left n (link ∷ links) =
    ap (λ (l : List Bytes). drop n link ++ l) (taken_left (n - length link) links) ∙ sym (drop_append n link (frames_in links))

links_so : (x y : List Bytes) (xs ys : List (List Bytes)) → x ≡ y → xs ≡ ys → x ∷ xs ≡ y ∷ ys
links_so x y xs ys e f = rw (e, f) refl

pub taken_twice : (n m : ℕ) (links : List (List Bytes)) → without_first m (without_first n links) ≡ without_first (n + m) links
taken_twice n m [] = refl
taken_twice n m (link ∷ links) =
    let left = length-drop n link
    in links_so (drop m (drop n link)) (drop (n + m) link) (without_first (m - length (drop n link)) (without_first (n - length link) links)) (without_first ((n + m) - length link) links)
    (dropped n m link)
    (taken_twice (n - length link) (m - length (drop n link)) links
    ∙ ap (λ (k : ℕ). without_first k links) (let z : (n - length link) + (m - length (drop n link)) ≡ (n + m) - length link = omega (arith, left) in z))
  where
    dropped : (n m : ℕ) (link : List Bytes) → drop m (drop n link) ≡ drop (n + m) link
    dropped n m link = drop-drop m n link

-- ---- frames that are put

in_filter_map : {X Y : Type 0} (f : X → Option Y) (xs : List X) (y : Y) → Contains (filter_map f xs) y → (x : X) × Contains xs x × (f x ≡ Some y)
in_filter_map f [] y c = absurd (contains_none y c)
in_filter_map {X = X} {Y = Y} f (x ∷ xs) y c = by_first (f x) refl (in_filter_map f xs y) c
  where
    by_first : (o : Option Y) → f x ≡ o → (Contains (filter_map f xs) y → (z : X) × Contains xs z × (f z ≡ Some y))
        → Contains (cons_option o (filter_map f xs)) y → (z : X) × Contains (x ∷ xs) z × (f z ≡ Some y)
    by_first None e later c = let more = later c in (more.0, contains_there x xs more.0 more.1, more.2)
    by_first (Some w) e later c =
        elim (contains_cases w (filter_map f xs) y c) [
          | inl same ↦ (x, contains_here x xs, e ∙ ap (λ z. Some z) same)
          | inr there ↦ let more = later there in (more.0, contains_there x xs more.0 more.1, more.2)
        ]

into_filter_map : {X Y : Type 0} (f : X → Option Y) (xs : List X) (x : X) (y : Y) → Contains xs x → f x ≡ Some y → Contains (filter_map f xs) y
into_filter_map f [] x y c e = absurd (contains_none x c)
into_filter_map {X = X} {Y = Y} f (z ∷ xs) x y c e =
    elim (contains_cases z xs x c) [
      | inl same ↦ subst (λ (o : Option Y). Contains (cons_option o (filter_map f xs)) y) (sym (ap f same ∙ e)) (contains_here y (filter_map f xs))
      | inr there ↦ past (f z) (into_filter_map f xs x y there e)
    ]
  where
    past : (o : Option Y) → Contains (filter_map f xs) y → Contains (cons_option o (filter_map f xs)) y
    past None c = c
    past (Some w) c = contains_there w (filter_map f xs) y c

pub frames_due : (trade : Trade) (p : ℕ) (es : List Entry) (to room : ℕ) (owed : List Letter) (frame : Bytes)
    → Contains (due_frames trade p es to room owed) frame ↔ IsDueFrame trade p es to room owed frame
unfolding due_frames
frames_due trade p es to room owed frame =
    let due = due_letters trade p (half trade p es) to room owed
    in (
      (λ c. let found = in_filter_map (frame_of trade p es) due frame c in record { letter = found.0; due = found.1; is = found.2 }),
      (λ is. into_filter_map (frame_of trade p es) due is.letter frame is.due is.is),
    )

puts_at : (trade : Trade) (p : ℕ) (es : List Entry) (rooms : ℕ → ℕ) (owed : List Letter) (to count k : ℕ) → k < count
    → slice_index_or (puts_from trade p es rooms owed to count) k [] ≡ due_frames trade p es (to + k) (rooms (to + k)) owed
puts_at trade p es rooms owed to zero k l = absurd (omega (arith, l))
puts_at trade p es rooms owed to (suc count) zero l =
    ap (λ (n : ℕ). due_frames trade p es n (rooms n) owed) (let z : to ≡ to + 0 = omega arith in z)
puts_at trade p es rooms owed to (suc count) (suc k) l =
    puts_at trade p es rooms owed (to + 1) count k (omega (arith, l))
    ∙ ap (λ (n : ℕ). due_frames trade p es n (rooms n) owed) (let z : (to + 1) + k ≡ to + suc k = omega arith in z)

pub whole_puts : (trade : Trade) (p : ℕ) (rooms : ℕ → ℕ) (site : Site) (steps : List Step) (to : ℕ) → to < trade.providers
    → slice_index_or (cut_turn trade p rooms site steps Whole).out to [] ≡ due_frames trade p (site.journal ++ entries_of steps) to (rooms to) (owed_of steps)
whole_puts trade p rooms site steps to l =
    puts_at trade p (site.journal ++ entries_of steps) rooms (owed_of steps) 0 trade.providers to l
    ∙ ap (λ (n : ℕ). due_frames trade p (site.journal ++ entries_of steps) n (rooms n) (owed_of steps)) (let z : 0 + to ≡ to = omega arith in z)

pub early_puts : (trade : Trade) (p : ℕ) (rooms : ℕ → ℕ) (site : Site) (steps : List Step) (cut : Cut) (fault : ProviderFault)
    → (cut_turn trade p rooms site steps cut).ended ≡ Some fault → (cut_turn trade p rooms site steps cut).out ≡ []
early_puts trade p rooms site steps Whole fault e = absurd (none-some fault e)
early_puts trade p rooms site steps (Fails n f) fault e = refl
early_puts trade p rooms site steps (Full n) fault e = refl
early_puts trade p rooms site steps (Stops n) fault e = refl
early_puts trade p rooms site steps (Unread n f) fault e = refl
early_puts trade p rooms site steps (Other out) fault e = absurd (none-some fault e)
early_puts trade p rooms site steps (Sees looks cut) fault e = early_puts trade p rooms site steps cut fault e

-- ---- other frames that are put

none_of_none : (n : ℕ) → take {A = Bytes} n [] ≡ []
none_of_none zero = refl
none_of_none (suc n) = refl

fit_at : (rooms : ℕ → ℕ) (from : ℕ) (out : List (List Bytes)) (k : ℕ)
    → slice_index_or (that_fit rooms from out) k [] ≡ take (rooms (from + k)) (slice_index_or out k [])
fit_at rooms from [] k = sym (none_of_none (rooms (from + k)))
fit_at rooms from (frames ∷ out) zero = ap (λ (n : ℕ). take (rooms n) frames) (let z : from ≡ from + 0 = omega arith in z)
fit_at rooms from (frames ∷ out) (suc k) =
    fit_at rooms (from + 1) out k
    ∙ ap (λ (n : ℕ). take (rooms n) (slice_index_or out k [])) (let z : (from + 1) + k ≡ from + suc k = omega arith in z)

pub other_puts : (trade : Trade) (p : ℕ) (rooms : ℕ → ℕ) (site : Site) (steps : List Step) (out : List (List Bytes)) (to : ℕ)
    → slice_index_or (cut_turn trade p rooms site steps (Other out)).out to [] ≡ take (rooms to) (slice_index_or out to [])
other_puts trade p rooms site steps out to =
    fit_at rooms 0 out to ∙ ap (λ (n : ℕ). take (rooms n) (slice_index_or out to [])) (let z : 0 + to ≡ to = omega arith in z)

all_fit : (rooms : ℕ → ℕ) (from : ℕ) (out : List (List Bytes)) → ((k : ℕ) → length (slice_index_or out k []) ≤ rooms (from + k)) → that_fit rooms from out ≡ out
all_fit rooms from [] fit = refl
all_fit rooms from (frames ∷ out) fit =
    links_so (take (rooms from) frames) frames (that_fit rooms (from + 1) out) out
    (take_all (rooms from) frames (let l = fit 0 in let z = ap rooms (let y : from + 0 ≡ from = omega arith in y) in omega (arith, l, z)))
    (all_fit rooms (from + 1) out
    (λ k. subst (λ (n : ℕ). length (slice_index_or out k []) ≤ rooms n) (let z : from + suc k ≡ (from + 1) + k = omega arith in z) (fit (suc k))))

pub fit_as_they_are : (rooms : ℕ → ℕ) (out : List (List Bytes)) → ((to : ℕ) → length (slice_index_or out to []) ≤ rooms to) → that_fit rooms 0 out ≡ out
fit_as_they_are rooms out fit =
    all_fit rooms 0 out (λ k. subst (λ (n : ℕ). length (slice_index_or out k []) ≤ rooms n) (let z : k ≡ 0 + k = omega arith in z) (fit k))

-- ---- cuts

pub told_so : (n : ℕ) (steps : List Step) → n ≤ length steps → length (events_of (take n steps)) ≡ n
told_so n steps l =
    let many : length (events_of (take n steps)) ≡ length (take n steps) = length-map (take n steps) (λ (step : Step). step.event)
    in let few = length-take n steps
    in omega (arith, l, many, few)

pub step_there : (n : ℕ) (steps : List Step) (found : Option Step) → slice_get steps n ≡ found → IsSome (option_and_then (λ (step : Step). step.entry) found) → n < length steps
step_there n steps None e some = absurd (false≢true some)
step_there n steps (Some step) e some = slice_get_within steps n step e

pub slice_get_at : {entry : Entry} (n : ℕ) (steps : List Step) (found : Option Step) → slice_get steps n ≡ found
    → option_and_then (λ (step : Step). step.entry) found ≡ Some entry → n < length steps
slice_get_at {entry = entry} n steps None e some = absurd (none-some entry some)
slice_get_at n steps (Some step) e some = slice_get_within steps n step e

read_told : (n told : ℕ) (fault : ProviderFault) → IsOfRead fault → told ≡ n → Fails n fault ≡ cut_by (Some fault) told
read_told n told faults.DiskFault read e = ap (λ (k : ℕ). Fails k faults.DiskFault) (sym e)
read_told n told (faults.Changed entry) read e = ap (λ (k : ℕ). Fails k (faults.Changed entry)) (sym e)
read_told n told _ read e = absurd read

fails_told : (n : ℕ) (steps : List Step) (fault : ProviderFault) → MayFail steps n fault
    → Fails n fault ≡ cut_by (Some fault) (length (events_of (take n steps)))
fails_told n steps fault (inl append) =
    subst (λ (f : ProviderFault). Fails n f ≡ cut_by (Some f) (length (events_of (take n steps)))) (sym append.0)
    (ap (λ (k : ℕ). Fails k faults.DiskFault)
    (sym (told_so n steps (let l = step_there n steps (slice_get steps n) refl append.1 in omega (arith, l)))))
fails_told n steps fault (inr read) =
    read_told n (length (events_of (take n steps))) fault read.1 (told_so n steps (let e = read.0 in omega (arith, e)))

pub cut_told : (trade : Trade) (p : ℕ) (rooms : ℕ → ℕ) (site : Site) (steps : List Step) (cut : Cut) → MayCut trade p steps cut
    → TellsCut (cut_turn trade p rooms site steps cut).ended (length (cut_turn trade p rooms site steps cut).events) cut
cut_told trade p rooms site steps Whole may = refl
cut_told trade p rooms site steps (Fails n fault) may = fails_told n steps fault may.1
cut_told trade p rooms site steps (Full n) may =
    ap Full (sym (told_so n steps (let l = slice_get_within steps n may.step may.there in omega (arith, l))))
cut_told trade p rooms site steps (Stops n) may = ap Stops (sym (told_so n steps (let l = may.1 in omega (arith, l))))
cut_told trade p rooms site steps (Unread n fault) may =
    read_told n (length (events_of (take n steps))) fault may.1
    (told_so n steps (let l = slice_get_at n steps (slice_get steps n) refl may.2.there in omega (arith, l)))
cut_told trade p rooms site steps (Other out) may = refl
cut_told trade p rooms site steps (Sees looks cut) may = cut_told trade p rooms site steps cut may

pub told_is_kept : (ended : Option ProviderFault) (told : ℕ) → IsOfKept (cut_by ended told)
told_is_kept None told = tt
told_is_kept (Some faults.DiskFault) told = tt
told_is_kept (Some (faults.Changed entry)) told = tt
told_is_kept (Some _) told = tt

pub told_or_other : (ended : Option ProviderFault) (told : ℕ) (cut : Cut) → TellsCut ended told cut
    → (as_told cut ≡ cut_by ended told) ⊎ (ended ≡ None)
told_or_other ended told Whole tells = inl tells
told_or_other ended told (Fails n fault) tells = inl tells
told_or_other ended told (Full n) tells = inl tells
told_or_other ended told (Stops n) tells = inl tells
told_or_other ended told (Unread n fault) tells = inl tells
told_or_other ended told (Other out) tells = inr tells
told_or_other ended told (Sees looks cut) tells = told_or_other ended told cut tells
