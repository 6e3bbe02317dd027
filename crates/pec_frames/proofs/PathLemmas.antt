-- The path of a frame: its entries are what stands between the commas, and the reader goes through them in turn.
use Rattle.std.proofs.Common.{◌≡◌, ◌≢◌, ◌⊎◌, inl, inr, ℕ, zero, suc, ◌+◌, ◌<◌, ◌≤◌, ◌==◌, List, [], ◌∷◌, ◌++◌, Bool, true, false, cond, Result, Ok, Err, length, refl, ap, sym, ◌∙◌, arith, append_assoc, length-append, eqb-true}
use Rattle.std.specs.List.{All, AllByRecursion, onto_first, slice_split}
use Rattle.std.proofs.lemmas.Bool.{eqb-false, ne_eqb}
use Rattle.std.proofs.lemmas.List.{append-nil}
use Rattle.std.proofs.lemmas.List.Splits.{join_with_byte-slice_split, length-slice_split, slice_split_at, slice_split_none}
use Rattle.pec_types.specs.Address.{IsAddress, IsAddressFault, IsReadAs, lowered}
use Rattle.pec_types.specs.AddressReading.{address_of}
use Rattle.pec_types.specs.Answers.{TellsExactly}
use Rattle.pec_types.specs.Bytes.{Bytes, Path, comma}
use Rattle.pec_types.specs.Results.{◌>>=◌}
use Rattle.pec_types.specs.declared.addresses.AddressFault.{AddressFault}
use Rattle.pec_frames.specs.Frames.{AreEntries, AreReadAs, HasNoComma, path_line, size_before}
use Rattle.pec_frames.specs.FramesReading.{entries_from, is_comma, read_entry}
use Rattle.pec_frames.specs.declared.TheConstants.{MOST_ADDRESSES}
use Rattle.pec_frames.specs.declared.faults.FrameFault.TheVariants.{BadPath}

-- ---- between the commas

-- what holds of each element holds at each place
all_at : {X : Type 0} (P : X → Type 0) (xs : List X) → AllByRecursion P xs → All P xs
all_at P [] h k d within = absurd (omega (arith, within))
all_at P (x ∷ xs) h zero d within = h.0
all_at P (x ∷ xs) h (suc k) d within = all_at P xs h.1 k d (omega (arith, within))

no_comma : (entry : Bytes) → HasNoComma entry → AllByRecursion (λ b. is_comma b ≡ false) entry
no_comma [] h = tt
no_comma (b ∷ bs) h = (ne_eqb b comma h.0, no_comma bs h.1)

-- the entries of a line are found by its commas
pub split_again : (entries : List Bytes) → entries ≢ [] → AllByRecursion HasNoComma entries → slice_split is_comma (path_line entries) ≡ entries
split_again [] some apart = absurd (some refl)
split_again (entry ∷ []) some apart = slice_split_none is_comma entry (all_at _ entry (no_comma entry apart.0))
split_again (entry ∷ next ∷ entries) some apart =
    slice_split_at is_comma entry comma (path_line (next ∷ entries)) (all_at _ entry (no_comma entry apart.0)) refl
    ∙ ap (λ others. entry ∷ others) (split_again (next ∷ entries) (λ e. absurd cc) apart.1)

onto_apart : (b : ℕ) (pieces : List Bytes) → b ≢ comma → AllByRecursion HasNoComma pieces → AllByRecursion HasNoComma (onto_first b pieces)
onto_apart b [] not apart = ((not, tt), tt)
onto_apart b (piece ∷ pieces) not apart = ((not, apart.0), apart.1)

apart_step : (b : ℕ) (pieces : List Bytes) (t : Bool) → is_comma b ≡ t → AllByRecursion HasNoComma pieces
    → AllByRecursion HasNoComma (cond t ([] ∷ pieces) (onto_first b pieces))
apart_step b pieces true e apart = (tt, apart)
apart_step b pieces false e apart = onto_apart b pieces (eqb-false b comma e) apart

split_apart : (line : Bytes) → AllByRecursion HasNoComma (slice_split is_comma line)
split_apart [] = (tt, tt)
split_apart (b ∷ bs) = apart_step b (slice_split is_comma bs) (is_comma b) refl (split_apart bs)

-- each line has entries
pub entries_of : (line : Bytes) → AreEntries line (slice_split is_comma line)
entries_of line = record {
  some = λ e. let none = length-slice_split is_comma line in omega (arith, none, ap length e);
  apart = split_apart line;
  joined = sym (join_with_byte-slice_split comma line);
}

pub split_is_entries : (line : Bytes) (entries : List Bytes) → AreEntries line entries → slice_split is_comma line ≡ entries
split_is_entries line entries are = ap (slice_split is_comma) are.joined ∙ split_again entries are.some are.apart

-- ---- entry by entry

abbrev pub AddressesAreTold : Type 0
AddressesAreTold = (text : Bytes) → TellsExactly (IsReadAs text) (IsAddressFault text) (address_of text)

module _ (told : AddressesAreTold) where
  -- a path that isn't full goes on behind an address
  goes_on : (place : ℕ) (found : Path) (entry address : Bytes) (entries : List Bytes) → length found < MOST_ADDRESSES → IsReadAs entry address
      → entries_from place found (entry ∷ entries) ≡ entries_from (place + (length entry + 1)) (found ++ address ∷ []) entries
  goes_on place found entry address entries room is =
      rw (ne_eqb (length found) MOST_ADDRESSES (λ e. omega (arith, e, room)), ((told entry).value address).1 is) refl

  pub path_reads : (place : ℕ) (found : Path) (entries : List Bytes) (path : Path) → length found + length entries ≤ MOST_ADDRESSES
      → AreReadAs entries path → entries_from place found entries ≡ Ok (found ++ path)
  path_reads place found [] [] few read = ap Ok (sym (append-nil found))
  path_reads place found [] (address ∷ path) few read = absurd read
  path_reads place found (entry ∷ entries) [] few read = absurd read
  path_reads place found (entry ∷ entries) (address ∷ path) few read =
      goes_on place found entry address entries (omega (arith, few)) read.0
      ∙ path_reads (place + (length entry + 1)) (found ++ address ∷ []) entries path (omega (arith, few, length-append found (address ∷ []))) read.1
      ∙ ap Ok (append_assoc found (address ∷ []) path)

  -- what is no address isn't read as one
  no_address : (entry : Bytes) → (IsAddress entry → ⊥) → (place : ℕ) (answer : Result Bytes AddressFault) → address_of entry ≡ answer
      → read_entry place answer ≡ Err (BadPath place)
  no_address entry not place (Ok address) e = absurd (not (((told entry).value address).0 e).0)
  no_address entry not place (Err fault) e = refl

  wrong_entry : (place : ℕ) (found : Path) (wrong : Bytes) (later : List Bytes) → (length found ≡ MOST_ADDRESSES) ⊎ (IsAddress wrong → ⊥)
      → (t : Bool) → (length found == MOST_ADDRESSES) ≡ t
      → cond t (Err (BadPath place))
      (read_entry place (address_of wrong) >>= λ address. entries_from (place + (length wrong + 1)) (found ++ address ∷ []) later) ≡ Err (BadPath place)
  wrong_entry place found wrong later bad true e = refl
  wrong_entry place found wrong later (inl full) false e = absurd (eqb-false (length found) MOST_ADDRESSES e full)
  wrong_entry place found wrong later (inr not) false e =
      ap (λ answer. answer >>= λ address. entries_from (place + (length wrong + 1)) (found ++ address ∷ []) later)
      (no_address wrong not place (address_of wrong) refl)

  pub path_stops : (place : ℕ) (found : Path) (earlier : List Bytes) (wrong : Bytes) (later : List Bytes) → AllByRecursion IsAddress earlier
      → length found + length earlier ≤ MOST_ADDRESSES → (length found + length earlier ≡ MOST_ADDRESSES) ⊎ (IsAddress wrong → ⊥)
      → entries_from place found (earlier ++ wrong ∷ later) ≡ Err (BadPath (place + size_before earlier))
  path_stops place found [] wrong later right few bad =
      wrong_entry place found wrong later (fits bad) (length found == MOST_ADDRESSES) refl ∙ ap (λ at. Err (BadPath at)) (omega arith)
    where
      fits : (length found + 0 ≡ MOST_ADDRESSES) ⊎ (IsAddress wrong → ⊥) → (length found ≡ MOST_ADDRESSES) ⊎ (IsAddress wrong → ⊥)
      fits (inl full) = inl (omega (arith, full))
      fits (inr not) = inr not
  path_stops place found (entry ∷ earlier) wrong later right few bad =
      let size : length (found ++ lowered entry ∷ []) ≡ length found + 1 = length-append found (lowered entry ∷ [])
      in goes_on place found entry (lowered entry) (earlier ++ wrong ∷ later) (omega (arith, few)) (right.0, refl)
      ∙ path_stops (place + (length entry + 1)) (found ++ lowered entry ∷ []) earlier wrong later right.1 (omega (arith, few, size)) (fits size bad)
      ∙ ap (λ at. Err (BadPath at)) (omega arith)
    where
      fits : length (found ++ lowered entry ∷ []) ≡ length found + 1 → (length found + suc (length earlier) ≡ MOST_ADDRESSES) ⊎ (IsAddress wrong → ⊥)
          → (length (found ++ lowered entry ∷ []) + length earlier ≡ MOST_ADDRESSES) ⊎ (IsAddress wrong → ⊥)
      fits size (inl full) = inl (omega (arith, full, size))
      fits size (inr not) = inr not

  -- ---- each list of entries is a path, or has a first wrong one

  pub record IsWhole (found : ℕ) (entries : List Bytes) : Type 0 where
    pub path : Path
    pub few : found + length entries ≤ MOST_ADDRESSES
    pub read : AreReadAs entries path

  pub record IsWrong (found : ℕ) (entries : List Bytes) : Type 0 where
    pub earlier : List Bytes
    pub wrong : Bytes
    pub later : List Bytes
    pub are : entries ≡ earlier ++ wrong ∷ later
    pub right : AllByRecursion IsAddress earlier
    pub few : found + length earlier ≤ MOST_ADDRESSES
    pub bad : (found + length earlier ≡ MOST_ADDRESSES) ⊎ (IsAddress wrong → ⊥)

  whole_more : (found : ℕ) (entry address : Bytes) (entries : List Bytes) → IsReadAs entry address → IsWhole (found + 1) entries → IsWhole found (entry ∷ entries)
  whole_more found entry address entries is whole = record {
    path = address ∷ whole.path;
    few = omega (arith, whole.few);
    read = (is, whole.read);
  }

  wrong_more : (found : ℕ) (entry : Bytes) (entries : List Bytes) → IsAddress entry → IsWrong (found + 1) entries → IsWrong found (entry ∷ entries)
  wrong_more found entry entries is stops = record {
    earlier = entry ∷ stops.earlier;
    wrong = stops.wrong;
    later = stops.later;
    are = ap (λ others. entry ∷ others) stops.are;
    right = (is, stops.right);
    few = omega (arith, stops.few);
    bad = one_more stops.bad;
  }
    where
      one_more : (found + 1 + length stops.earlier ≡ MOST_ADDRESSES) ⊎ (IsAddress stops.wrong → ⊥)
          → (found + suc (length stops.earlier) ≡ MOST_ADDRESSES) ⊎ (IsAddress stops.wrong → ⊥)
      one_more (inl full) = inl (omega (arith, full))
      one_more (inr not) = inr not

  -- behind an entry, which is read so
  walk_on : (found : ℕ) (entry : Bytes) (entries : List Bytes) (answer : Result Bytes AddressFault) → found ≤ MOST_ADDRESSES → address_of entry ≡ answer
      → IsWhole (found + 1) entries ⊎ IsWrong (found + 1) entries → IsWhole found (entry ∷ entries) ⊎ IsWrong found (entry ∷ entries)
  walk_on found entry entries (Ok address) few e (inl whole) = inl (whole_more found entry address entries (((told entry).value address).0 e) whole)
  walk_on found entry entries (Ok address) few e (inr stops) = inr (wrong_more found entry entries (((told entry).value address).0 e).0 stops)
  walk_on found entry entries (Err fault) few e behind = inr (record {
    earlier = [];
    wrong = entry;
    later = entries;
    are = refl;
    right = tt;
    few = omega (arith, few);
    bad = inr (λ is. let ok = ((told entry).value (lowered entry)).1 (is, refl) in let never : ⊥ = cc in never);
  })

  walk_step : (found : ℕ) (entry : Bytes) (entries : List Bytes) → found ≤ MOST_ADDRESSES → (t : Bool) → (found == MOST_ADDRESSES) ≡ t
      → (found + 1 ≤ MOST_ADDRESSES → IsWhole (found + 1) entries ⊎ IsWrong (found + 1) entries) → IsWhole found (entry ∷ entries) ⊎ IsWrong found (entry ∷ entries)
  walk_step found entry entries few true e behind = inr (record {
    earlier = [];
    wrong = entry;
    later = entries;
    are = refl;
    right = tt;
    few = omega (arith, few);
    bad = inl (omega (arith, eqb-true found MOST_ADDRESSES e));
  })
  walk_step found entry entries few false e behind =
      let room : found + 1 ≤ MOST_ADDRESSES = omega (arith, few, eqb-false found MOST_ADDRESSES e)
      in walk_on found entry entries (address_of entry) few refl (behind room)

  pub walked : (found : ℕ) (entries : List Bytes) → found ≤ MOST_ADDRESSES → IsWhole found entries ⊎ IsWrong found entries
  walked found [] few = inl (record { path = []; few = omega (arith, few); read = tt })
  walked found (entry ∷ entries) few = walk_step found entry entries few (found == MOST_ADDRESSES) refl (walked (found + 1) entries)
