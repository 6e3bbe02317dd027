-- The laws of disks in memory. They stand in specs, since the impl cites them. The headline is `agrees_is_image`: bytes that
-- are as long as what a read gives, and the same but in the pending spans, are an image.
use Rattle.std.proofs.Common.{◌≡◌, ◌⊎◌, inl, inr, ⊎_elim, ℕ, zero, suc, ◌+◌, ◌-◌, ◌<◌, ◌≤◌, min, max, nat_lt, nat_le, ◌&&◌, ◌||◌, Bool, true, false, if◌then◌else◌, List, [], ◌∷◌, ◌++◌, length, get_or, take, drop, refl, sym, ◌∙◌, ap, subst, arith, length-take, length-drop, length-append}
use Rattle.std.proofs.lemmas.Bool.{cases_Bool}
use Rattle.std.proofs.lemmas.Bool.Decides.{nat_tests}
use Rattle.std.proofs.lemmas.List.{ext_get_or, get_or-take, get_or-drop, get_or_append_left, get_or-append_right, take_all}
use Rattle.std.proofs.lemmas.List.Folds.{list_any-append}
use Rattle.pec_outside.specs.declared.disk_log.Span.{Span}
use Rattle.pec_outside.specs.DiskModel.{Only, Torn, written}
use Rattle.pec_outside.specs.MemoryDisk.{Step, looked, wrote, synced, crashed, Held, settled, after, after_all, held_of, is_pending, crash_image, LeftSince}

-- ---- this moment and the earlier ones

pub counts_now : (log : List Step) (t : ℕ) (image : List ℕ) → t ≤ length log → (held_of log).images image → LeftSince log t image
counts_now log t image within now = record {
  steps = length log;
  from = within;
  within = omega arith;
  leaves = subst (λ (l : List Step). (held_of l).images image) (sym (take_all (length log) log (omega arith))) now;
}

pub only_now : (log : List Step) (image : List ℕ) → LeftSince log (length log) image → (held_of log).images image
only_now log image left = subst (λ (l : List Step). (held_of l).images image) (take_all left.steps log left.from) left.leaves

-- ---- bytes that differ in the pending spans alone

-- as long, and the same but where the test says
pub record Agrees (free : ℕ → Bool) (bytes image : List ℕ) : Type 0 where
  pub size : length image ≡ length bytes
  pub same : (i : ℕ) → free i ≡ false → get_or image i 0 ≡ get_or bytes i 0

-- the bytes, but those of the image where the test says
abbrev merged : (ℕ → Bool) → List ℕ → List ℕ → List ℕ
merged free image [] = []
merged free image (b ∷ bytes) = (if free 0 then get_or image 0 0 else b) ∷ merged (λ i. free (suc i)) (drop 1 image) bytes

length-merged : (free : ℕ → Bool) (image bytes : List ℕ) → length (merged free image bytes) ≡ length bytes
length-merged free image [] = refl
length-merged free image (b ∷ bytes) = ap suc (length-merged (λ i. free (suc i)) (drop 1 image) bytes)

merged_other : (free : ℕ → Bool) (image bytes : List ℕ) (i : ℕ) → free i ≡ false → get_or (merged free image bytes) i 0 ≡ get_or bytes i 0
merged_other free image [] i shut = refl
merged_other free image (b ∷ bytes) zero shut = ap (λ (t : Bool). if t then get_or image 0 0 else b) shut
merged_other free image (b ∷ bytes) (suc i) shut = merged_other (λ i. free (suc i)) (drop 1 image) bytes i shut

next_of : (image : List ℕ) (i : ℕ) → get_or (drop 1 image) i 0 ≡ get_or image (suc i) 0
next_of [] i = refl
next_of (x ∷ image) i = refl

merged_free : (free : ℕ → Bool) (image bytes : List ℕ) (i : ℕ) → i < length bytes → free i ≡ true → get_or (merged free image bytes) i 0 ≡ get_or image i 0
merged_free free image [] i within open_ = absurd (omega (arith, within))
merged_free free image (b ∷ bytes) zero within open_ = ap (λ (t : Bool). if t then get_or image 0 0 else b) open_
merged_free free image (b ∷ bytes) (suc i) within open_ = merged_free (λ i. free (suc i)) (drop 1 image) bytes i (omega (arith, within)) open_ ∙ next_of image i

-- ---- a write

length-written : (bytes piece : List ℕ) (at : ℕ) → at ≤ length bytes → length (written bytes at piece) ≡ max (length bytes) (at + length piece)
length-written bytes piece at within =
    omega (arith, length-append (take at bytes ++ piece) (drop (at + length piece) bytes), length-append (take at bytes) piece, length-take at bytes, length-drop (at + length piece) bytes)

-- a write leaves the bytes outside of its range
written_other : (bytes piece : List ℕ) (at i : ℕ) → at ≤ length bytes → (i < at) ⊎ (at + length piece ≤ i) → get_or (written bytes at piece) i 0 ≡ get_or bytes i 0
written_other bytes piece at i within (inl below) =
    let front : length (take at bytes) ≡ at = omega (arith, length-take at bytes) in
    get_or_append_left (take at bytes ++ piece) (drop (at + length piece) bytes) 0 i (omega (arith, length-append (take at bytes) piece, below))
    ∙ get_or_append_left (take at bytes) piece 0 i (omega (arith, below))
    ∙ get_or-take at bytes i 0 below
written_other bytes piece at i within (inr above) =
    let front : length (take at bytes ++ piece) ≡ at + length piece = omega (arith, length-take at bytes, length-append (take at bytes) piece) in
    get_or-append_right (take at bytes ++ piece) (drop (at + length piece) bytes) (at + length piece) i 0 front above
    ∙ get_or-drop (at + length piece) bytes (i - (at + length piece)) 0
    ∙ ap (λ (k : ℕ). get_or bytes k 0) (omega (arith, above))

-- Bytes that agree with what stands after a write, in the range and the spans before it, come from bytes that agree with what
-- stood before: `merged` of the two, with that range torn.
module _ (free : ℕ → Bool) (bytes image : List ℕ) (at n : ℕ) (within : at ≤ length bytes) where
  outside : (now : List ℕ) → ((i : ℕ) → (i < at) ⊎ (at + n ≤ i) → get_or now i 0 ≡ get_or bytes i 0)
      → ((i : ℕ) → (i < at) ⊎ (at + n ≤ i) → free i ≡ false → get_or image i 0 ≡ get_or now i 0)
      → (i : ℕ) → i < length bytes → (i < at) ⊎ (at + n ≤ i) → get_or image i 0 ≡ get_or (merged free image bytes) i 0
  outside now stays same i inside out = elim (cases_Bool (free i)) [
    | inl open_ ↦ sym (merged_free free image bytes i inside open_)
    | inr shut ↦ same i out shut ∙ stays i out ∙ sym (merged_other free image bytes i shut)
  ]

  pub torn_from_merged : (now : List ℕ) → length image ≡ length now → (length now ≡ length bytes) ⊎ (length now ≡ max (length bytes) (at + n))
      → ((i : ℕ) → (i < at) ⊎ (at + n ≤ i) → get_or now i 0 ≡ get_or bytes i 0)
      → ((i : ℕ) → (i < at) ⊎ (at + n ≤ i) → free i ≡ false → get_or image i 0 ≡ get_or now i 0)
      → Torn at n (merged free image bytes) image
  torn_from_merged now size long stays same =
      let old = length-merged free image bytes in
      let lower : length bytes ≤ length now = ⊎_elim (λ e. omega (arith, e)) (λ e. omega (arith, e)) long in
      let upper : length now ≤ max (length bytes) (at + n) = ⊎_elim (λ e. omega (arith, e)) (λ e. omega (arith, e)) long in
      let ends : length now - (at + n) ≡ length bytes - (at + n) = ⊎_elim (λ e. omega (arith, e)) (λ e. omega (arith, e)) long in
      record {
        before = ext_get_or 0 (take at image) (take at (merged free image bytes))
            (omega (arith, length-take at image, length-take at (merged free image bytes), old, size, lower, within))
            (λ i below.
            let low : i < at = omega (arith, below, length-take at image) in
            get_or-take at image i 0 low ∙ outside now stays same i (omega (arith, low, within)) (inl low) ∙ sym (get_or-take at (merged free image bytes) i 0 low));
        behind = ext_get_or 0 (drop (at + n) image) (drop (at + n) (merged free image bytes))
            (omega (arith, length-drop (at + n) image, length-drop (at + n) (merged free image bytes), old, size, ends))
            (λ i below.
            let inside : at + n + i < length bytes = omega (arith, below, length-drop (at + n) image, size, ends) in
            get_or-drop (at + n) image i 0 ∙ outside now stays same (at + n + i) inside (inr (omega arith)) ∙ sym (get_or-drop (at + n) (merged free image bytes) i 0));
        no_shorter = omega (arith, old, size, lower);
        no_longer = omega (arith, old, size, upper);
      }

-- ---- what agrees is an image

-- bytes that agree with what a disk holds, but in its pending spans, are an image of it
abbrev TakesAgreeing : Held → Type 0
TakesAgreeing held = (image : List ℕ) → Agrees (is_pending held.pending) held.bytes image → held.images image

pending_push : (spans : List Span) (span : Span) (i : ℕ)
    → is_pending (spans ++ span ∷ []) i ≡ (is_pending spans i || (nat_le span.at i && nat_lt i (span.at + span.length) || false))
pending_push spans span i = list_any-append (λ s. nat_le s.at i && nat_lt i (s.at + s.length)) spans (span ∷ [])

-- a place that was not pending, and is outside of the span, is not pending
still_shut : (spans : List Span) (at n i : ℕ) → (i < at) ⊎ (at + n ≤ i) → is_pending spans i ≡ false
    → is_pending (spans ++ record { at = at; length = n } ∷ []) i ≡ false
still_shut spans at n i out shut = rw (pending_push spans (record { at = at; length = n }) i, shut) (⊎_elim below above out)
  where
    below : i < at → (nat_le at i && nat_lt i (at + n) || false) ≡ false
    below h = grind (arith, nat_tests)

    above : at + n ≤ i → (nat_le at i && nat_lt i (at + n) || false) ≡ false
    above h = grind (arith, nat_tests)

all_settled : (bytes : List ℕ) → TakesAgreeing (settled bytes)
all_settled bytes image agrees = ext_get_or 0 image bytes agrees.size (λ i below. agrees.same i refl)

after_write : (held : Held) (at : ℕ) (piece now : List ℕ) → TakesAgreeing held → at ≤ length held.bytes
    → (length now ≡ length held.bytes) ⊎ (length now ≡ max (length held.bytes) (at + length piece))
    → ((i : ℕ) → (i < at) ⊎ (at + length piece ≤ i) → get_or now i 0 ≡ get_or held.bytes i 0)
    → (image : List ℕ) → Agrees (is_pending (held.pending ++ record { at = at; length = length piece } ∷ [])) now image
    → (was : List ℕ) × held.images was × Torn at (length piece) was image
after_write held at piece now takes within long stays image agrees =
    let free = is_pending held.pending in (
      merged free image held.bytes,
      takes (merged free image held.bytes) (record { size = length-merged free image held.bytes; same = merged_other free image held.bytes }),
      torn_from_merged free held.bytes image at (length piece) within now agrees.size long stays
          (λ i out shut. agrees.same i (still_shut held.pending at (length piece) i out shut)),
    )

keeps_agreeing : (held : Held) (step : Step) → TakesAgreeing held → TakesAgreeing (after held step)
keeps_agreeing held looked takes = takes
keeps_agreeing held (wrote at piece true) takes =
    let place = min at (length held.bytes) in
    let within : place ≤ length held.bytes = omega arith in
    after_write held place piece (written held.bytes place piece) takes within (inr (length-written held.bytes piece place within)) (λ i out. written_other held.bytes piece place i within out)
keeps_agreeing held (wrote at piece false) takes =
    after_write held (min at (length held.bytes)) piece held.bytes takes (omega arith) (inl refl) (λ i out. refl)
keeps_agreeing held (synced true) takes = all_settled held.bytes
keeps_agreeing held (synced false) takes = takes
keeps_agreeing held (crashed kept) takes = all_settled (crash_image held.pending kept 0 held.bytes)

all_agreeing : (held : Held) (log : List Step) → TakesAgreeing held → TakesAgreeing (after_all held log)
all_agreeing held [] takes = takes
all_agreeing held (step ∷ log) takes = all_agreeing (after held step) log (keeps_agreeing held step takes)

pub agrees_is_image : (log : List Step) (image : List ℕ) → Agrees (is_pending (held_of log).pending) (held_of log).bytes image
    → (held_of log).images image
agrees_is_image log = all_agreeing (settled []) log (all_settled [])

-- a disk as it reads is one of its images
pub reads_so : (log : List Step) → (held_of log).images (held_of log).bytes
reads_so log = agrees_is_image log (held_of log).bytes (record { size = refl; same = λ i shut. refl })

-- ---- a crash in memory

abbrev left_byte : Bool → ℕ → ℕ → ℕ
left_byte pending kept byte = if pending && nat_le kept 0 then 0xff else byte

length-crash_image : (spans : List Span) (kept at : ℕ) (bytes : List ℕ) → length (crash_image spans kept at bytes) ≡ length bytes
length-crash_image spans kept at [] = refl
length-crash_image spans kept at (b ∷ bytes) = ap suc (length-crash_image spans (if is_pending spans at then kept - 1 else kept) (at + 1) bytes)

crash_image_other : (spans : List Span) (kept at : ℕ) (bytes : List ℕ) (i j : ℕ) → j ≡ at + i → is_pending spans j ≡ false
    → get_or (crash_image spans kept at bytes) i 0 ≡ get_or bytes i 0
crash_image_other spans kept at [] i j sum shut = refl
crash_image_other spans kept at (b ∷ bytes) zero j sum shut =
    let here : at ≡ j = omega (arith, sum) in
    let closed : is_pending spans at ≡ false = ap (λ (k : ℕ). is_pending spans k) here ∙ shut in
    ap (λ (t : Bool). left_byte t kept b) closed
crash_image_other spans kept at (b ∷ bytes) (suc i) j sum shut =
    crash_image_other spans (if is_pending spans at then kept - 1 else kept) (at + 1) bytes i j (omega (arith, sum)) shut

-- what a crash in memory leaves is one of the images that the model allows
pub crash_is_image : (log : List Step) (kept : ℕ) → (held_of log).images (crash_image (held_of log).pending kept 0 (held_of log).bytes)
crash_is_image log kept =
    let held = held_of log in
    agrees_is_image log (crash_image held.pending kept 0 held.bytes) (record {
      size = length-crash_image held.pending kept 0 held.bytes;
      same = λ i shut. crash_image_other held.pending kept 0 held.bytes i i (omega arith) shut;
    })

-- where nothing is pending a crash leaves what a read gives
abbrev IsQuiet : Held → Type 0
IsQuiet held = held.pending ≡ [] → Only held.bytes held.images

not_empty : {X : Type 0} (xs : List X) (x : X) → xs ++ x ∷ [] ≡ [] → ⊥
not_empty xs x e = let longer = length-append xs (x ∷ []) in omega (arith, longer, ap length e)

keeps_quiet : (held : Held) (step : Step) → IsQuiet held → IsQuiet (after held step)
keeps_quiet held looked quiet = quiet
keeps_quiet held (wrote at piece answered) quiet = λ none. absurd (not_empty held.pending _ none)
keeps_quiet held (synced true) quiet = λ none image is. is
keeps_quiet held (synced false) quiet = quiet
keeps_quiet held (crashed kept) quiet = λ none image is. is

all_quiet : (held : Held) (log : List Step) → IsQuiet held → IsQuiet (after_all held log)
all_quiet held [] quiet = quiet
all_quiet held (step ∷ log) quiet = all_quiet (after held step) log (keeps_quiet held step quiet)

pub only_where_quiet : (log : List Step) → (held_of log).pending ≡ [] → Only (held_of log).bytes (held_of log).images
only_where_quiet log = all_quiet (settled []) log (λ none image is. is)
