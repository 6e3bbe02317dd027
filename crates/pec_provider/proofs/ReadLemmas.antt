-- What reads leave of a provider, by what they leave of its entries over the disk.
use Rattle.std.proofs.Common.{◌≡◌, ℕ, zero, suc, ◌+◌, ◌<◌, ◌≤◌, true, false, List, [], ◌∷◌, length, map, refl, ap, sym, ◌∙◌, arith}
use Rattle.std.proofs.Common.{Some, None, Result, Ok, Err}
use Rattle.std.specs.Prelude.{IfErr, OnOk, not, slice_get}
use Rattle.std.proofs.lemmas.Bool.{false≢true}
use Rattle.std.proofs.lemmas.List.{length-map}
use Rattle.std.proofs.lemmas.Option.{none-some, slice_get_within}
use Rattle.pec_types.specs.Bytes.{Bytes}
use Rattle.pec_types.specs.declared.places.Place.{Place}
use Rattle.pec_types.specs.declared.turns.ProviderFault.{ProviderFault}
use Rattle.pec_types.specs.declared.turns.ProviderFault.TheVariants as faults
use Rattle.pec_journal.specs.JournalFile.{framing, header, places_from, places_of}
use Rattle.pec_records.specs.Entry.{entry_text}
use Rattle.pec_records.specs.declared.entries.Entry.{Entry}
use Rattle.pec_chronicle.specs.Chronicle.{ChronicleState}
use Rattle.pec_provider.specs.Provider.{ProviderState, desk_of, stopped}
use Rattle.pec_provider.specs.Reading.{GivesUp, IsUnread, IsUntold, OnChanged, Reads, ReadsOver, as_provider}
use Rattle.pec_outgoing.specs.declared.faults.ComposeFault.{ComposeFault}
use Rattle.pec_outgoing.specs.declared.faults.ComposeFault.TheVariants as compose

-- ---- entries over a disk

module _ {D : Type 0} where
  abbrev over : ChronicleState D → D → ChronicleState D
  over old disk = record old { disk = disk }

  abbrev shut : ChronicleState D → D → ChronicleState D
  shut old disk = record old { down = true; disk = disk }

  -- a read that was answered, and then another one
  pub reads_and_then : {X Y : Type 0} (old mid new : ChronicleState D) (x : X) (r : Result Y ProviderFault)
      → ReadsOver old mid (Ok x) → ReadsOver mid new r → ReadsOver old new r
  reads_and_then old mid new x (Ok y) first second = second ∙ ap (λ (c : ChronicleState D). over c new.disk) first
  reads_and_then old mid new x (Err faults.NoMemory) first second =
      second ∙ ap (λ (c : ChronicleState D). over c new.disk) first
  reads_and_then old mid new x (Err faults.DiskFault) first second =
      second ∙ ap (λ (c : ChronicleState D). shut c new.disk) first
  reads_and_then old mid new x (Err (faults.Changed which)) first second =
      second ∙ ap (λ (c : ChronicleState D). shut c new.disk) first
  reads_and_then old mid new x (Err faults.Down) first second = absurd second
  reads_and_then old mid new x (Err (faults.ClockBack moment)) first second = absurd second
  reads_and_then old mid new x (Err faults.NoAccount) first second = absurd second
  reads_and_then old mid new x (Err faults.Full) first second = absurd second
  reads_and_then old mid new x (Err faults.OldJournal) first second = absurd second
  reads_and_then old mid new x (Err faults.NoNeed) first second = absurd second
  reads_and_then old mid new x (Err faults.NoItem) first second = absurd second
  reads_and_then old mid new x (Err faults.JournalFull) first second = absurd second

  -- what was read is answered in another way
  pub reads_as : (X Y : Type 0) (old new : ChronicleState D) (fault : ProviderFault)
      → ReadsOver {X = X} old new (Err fault) → ReadsOver {X = Y} old new (Err fault)
  reads_as X Y old new faults.NoMemory reads = reads
  reads_as X Y old new faults.DiskFault reads = reads
  reads_as X Y old new (faults.Changed which) reads = reads
  reads_as X Y old new faults.Down reads = absurd reads
  reads_as X Y old new (faults.ClockBack moment) reads = absurd reads
  reads_as X Y old new faults.NoAccount reads = absurd reads
  reads_as X Y old new faults.Full reads = absurd reads
  reads_as X Y old new faults.OldJournal reads = absurd reads
  reads_as X Y old new faults.NoNeed reads = absurd reads
  reads_as X Y old new faults.NoItem reads = absurd reads
  reads_as X Y old new faults.JournalFull reads = absurd reads

  -- what was read isn't what was needed, or there was no memory to compose of it
  pub given_up_over : {X : Type 0} (Y : Type 0) (old mid new : ChronicleState D) (x : X) (number : ℕ) (fault : ComposeFault)
      → ReadsOver old mid (Ok x) → GivesUp mid new fault → ReadsOver {X = Y} old new (Err (as_provider number fault))
  given_up_over Y old mid new x number compose.Changed first gives =
      gives ∙ ap (λ (c : ChronicleState D). record c { down = true }) first
      ∙ ap (λ (d : D). shut old d) (sym (ap (λ (c : ChronicleState D). c.disk) gives))
  given_up_over Y old mid new x number compose.NoMemory first gives =
      gives ∙ first ∙ ap (λ (d : D). over old d) (sym (ap (λ (c : ChronicleState D). c.disk) gives))

  -- it gave up over the same disk
  pub shut_of : (old new : ChronicleState D) → new ≡ record old { down = true } → new ≡ shut old new.disk
  shut_of old new is = is ∙ ap (λ (d : D). shut old d) (sym (ap (λ (c : ChronicleState D). c.disk) is))

  pub same_count : (count : D → ℕ) (old new : ChronicleState D) → new ≡ record old { down = true }
      → count old.disk ≤ count new.disk
  same_count count old new is =
      let e = ap (λ (c : ChronicleState D). count c.disk) is in omega (arith, e)

  pub gives_count : (count : D → ℕ) (old new : ChronicleState D) (fault : ComposeFault) → GivesUp old new fault
      → count old.disk ≤ count new.disk
  gives_count count old new compose.Changed is = same_count count old new is
  gives_count count old new compose.NoMemory is =
      let e = ap (λ (c : ChronicleState D). count c.disk) is in omega (arith, e)

  -- the entries, and the one that was interrupted, are what they were
  pub entries_read : {X : Type 0} (old new : ChronicleState D) (r : Result X ProviderFault) → ReadsOver old new r
      → new.entries ≡ old.entries
  entries_read old new (Ok x) reads = ap (λ (c : ChronicleState D). c.entries) reads
  entries_read old new (Err faults.NoMemory) reads = ap (λ (c : ChronicleState D). c.entries) reads
  entries_read old new (Err faults.DiskFault) reads = ap (λ (c : ChronicleState D). c.entries) reads
  entries_read old new (Err (faults.Changed which)) reads = ap (λ (c : ChronicleState D). c.entries) reads
  entries_read old new (Err faults.Down) reads = absurd reads
  entries_read old new (Err (faults.ClockBack moment)) reads = absurd reads
  entries_read old new (Err faults.NoAccount) reads = absurd reads
  entries_read old new (Err faults.Full) reads = absurd reads
  entries_read old new (Err faults.OldJournal) reads = absurd reads
  entries_read old new (Err faults.NoNeed) reads = absurd reads
  entries_read old new (Err faults.NoItem) reads = absurd reads
  entries_read old new (Err faults.JournalFull) reads = absurd reads

  pub interrupted_read : {X : Type 0} (old new : ChronicleState D) (r : Result X ProviderFault) → ReadsOver old new r
      → new.interrupted ≡ old.interrupted
  interrupted_read old new (Ok x) reads = ap (λ (c : ChronicleState D). c.interrupted) reads
  interrupted_read old new (Err faults.NoMemory) reads = ap (λ (c : ChronicleState D). c.interrupted) reads
  interrupted_read old new (Err faults.DiskFault) reads = ap (λ (c : ChronicleState D). c.interrupted) reads
  interrupted_read old new (Err (faults.Changed which)) reads = ap (λ (c : ChronicleState D). c.interrupted) reads
  interrupted_read old new (Err faults.Down) reads = absurd reads
  interrupted_read old new (Err (faults.ClockBack moment)) reads = absurd reads
  interrupted_read old new (Err faults.NoAccount) reads = absurd reads
  interrupted_read old new (Err faults.Full) reads = absurd reads
  interrupted_read old new (Err faults.OldJournal) reads = absurd reads
  interrupted_read old new (Err faults.NoNeed) reads = absurd reads
  interrupted_read old new (Err faults.NoItem) reads = absurd reads
  interrupted_read old new (Err faults.JournalFull) reads = absurd reads

  -- while it is up it was, and ends where it did
  pub up_read : {X : Type 0} (old new : ChronicleState D) (r : Result X ProviderFault) → ReadsOver old new r
      → new.down ≡ false → (old.down ≡ false) × (new.end ≡ old.end)
  up_read old new (Ok x) reads up =
      (sym (ap (λ (c : ChronicleState D). c.down) reads) ∙ up, ap (λ (c : ChronicleState D). c.end) reads)
  up_read old new (Err faults.NoMemory) reads up =
      (sym (ap (λ (c : ChronicleState D). c.down) reads) ∙ up, ap (λ (c : ChronicleState D). c.end) reads)
  up_read old new (Err faults.DiskFault) reads up =
      absurd (false≢true (sym up ∙ ap (λ (c : ChronicleState D). c.down) reads))
  up_read old new (Err (faults.Changed which)) reads up =
      absurd (false≢true (sym up ∙ ap (λ (c : ChronicleState D). c.down) reads))
  up_read old new (Err faults.Down) reads up = absurd reads
  up_read old new (Err (faults.ClockBack moment)) reads up = absurd reads
  up_read old new (Err faults.NoAccount) reads up = absurd reads
  up_read old new (Err faults.Full) reads up = absurd reads
  up_read old new (Err faults.OldJournal) reads up = absurd reads
  up_read old new (Err faults.NoNeed) reads up = absurd reads
  up_read old new (Err faults.NoItem) reads up = absurd reads
  up_read old new (Err faults.JournalFull) reads up = absurd reads

  -- where a read is answered it is up as before
  pub still_up : {X : Type 0} (old new : ChronicleState D) (r : Result X ProviderFault) → ReadsOver old new r
      → old.down ≡ false → OnOk r (new.down ≡ false)
  still_up old new (Ok x) reads up = ap (λ (c : ChronicleState D). c.down) reads ∙ up
  still_up old new (Err fault) reads up = tt

  -- ---- a provider

  -- where it was up its read fails for no other cause
  pub unread_of : {X : Type 0} (old new : ChronicleState D) (r : Result X ProviderFault) → ReadsOver old new r
      → IfErr r (IsUnread true)
  unread_of old new (Ok x) reads = tt
  unread_of old new (Err faults.NoMemory) reads = refl
  unread_of old new (Err faults.DiskFault) reads = refl
  unread_of old new (Err (faults.Changed which)) reads = refl
  unread_of old new (Err faults.Down) reads = absurd reads
  unread_of old new (Err (faults.ClockBack moment)) reads = absurd reads
  unread_of old new (Err faults.NoAccount) reads = absurd reads
  unread_of old new (Err faults.Full) reads = absurd reads
  unread_of old new (Err faults.OldJournal) reads = absurd reads
  unread_of old new (Err faults.NoNeed) reads = absurd reads
  unread_of old new (Err faults.NoItem) reads = absurd reads
  unread_of old new (Err faults.JournalFull) reads = absurd reads

  -- so where an entry that is there is read
  pub untold : {X : Type 0} (old new : ChronicleState D) (r : Result X ProviderFault) → ReadsOver old new r
      → old.down ≡ false → (number : ℕ) → number < length old.entries
      → IfErr r (IsUntold (not old.down) (length old.entries) number)
  untold old new (Ok x) reads up number there = tt
  untold old new (Err faults.NoMemory) reads up number there = (ap not up, there)
  untold old new (Err faults.DiskFault) reads up number there = (ap not up, there)
  untold old new (Err (faults.Changed which)) reads up number there = (ap not up, there)
  untold old new (Err faults.Down) reads up number there = absurd reads
  untold old new (Err (faults.ClockBack moment)) reads up number there = absurd reads
  untold old new (Err faults.NoAccount) reads up number there = absurd reads
  untold old new (Err faults.Full) reads up number there = absurd reads
  untold old new (Err faults.OldJournal) reads up number there = absurd reads
  untold old new (Err faults.NoNeed) reads up number there = absurd reads
  untold old new (Err faults.NoItem) reads up number there = absurd reads
  untold old new (Err faults.JournalFull) reads up number there = absurd reads

  desk_same : (old new : ProviderState D) (chronicle : ChronicleState D) → new.chronicle ≡ chronicle
      → new.owed ≡ old.owed → chronicle.entries ≡ old.chronicle.entries
      → chronicle.interrupted ≡ old.chronicle.interrupted
      → desk_of new
      ≡ record {
        journal = old.chronicle.entries;
        owed = old.owed;
        up = not chronicle.down;
        interrupted = old.chronicle.interrupted;
      }
  desk_same old new chronicle is owed entries interrupted = rw (is, owed, entries, interrupted) refl

  desk_stays : (old new : ProviderState D) (disk : D) → new.chronicle ≡ over old.chronicle disk → new.owed ≡ old.owed
      → desk_of new ≡ desk_of old
  desk_stays old new disk is owed = desk_same old new (over old.chronicle disk) is owed refl refl

  desk_stops : (old new : ProviderState D) (disk : D) → new.chronicle ≡ shut old.chronicle disk → new.owed ≡ old.owed
      → desk_of new ≡ stopped (desk_of old)
  desk_stops old new disk is owed = desk_same old new (shut old.chronicle disk) is owed refl refl

  pub desk_reads : {X : Type 0} (old new : ProviderState D) (r : Result X ProviderFault) → old.chronicle.down ≡ false
      → old.chronicle.interrupted ≡ None → new.owed ≡ old.owed → ReadsOver old.chronicle new.chronicle r
      → Reads (desk_of old) (desk_of new) r
  desk_reads old new (Ok x) up whole owed reads = desk_stays old new new.chronicle.disk reads owed
  desk_reads old new (Err faults.NoMemory) up whole owed reads = desk_stays old new new.chronicle.disk reads owed
  desk_reads old new (Err faults.DiskFault) up whole owed reads =
      (ap not up, whole, desk_stops old new new.chronicle.disk reads owed)
  desk_reads old new (Err (faults.Changed which)) up whole owed reads =
      (ap not up, whole, desk_stops old new new.chronicle.disk reads owed)
  desk_reads old new (Err faults.Down) up whole owed reads = absurd reads
  desk_reads old new (Err (faults.ClockBack moment)) up whole owed reads = absurd reads
  desk_reads old new (Err faults.NoAccount) up whole owed reads = absurd reads
  desk_reads old new (Err faults.Full) up whole owed reads = absurd reads
  desk_reads old new (Err faults.OldJournal) up whole owed reads = absurd reads
  desk_reads old new (Err faults.NoNeed) up whole owed reads = absurd reads
  desk_reads old new (Err faults.NoItem) up whole owed reads = absurd reads
  desk_reads old new (Err faults.JournalFull) up whole owed reads = absurd reads

-- ---- what has changed

-- where that is no fault of a change, nothing is said
pub changed_weaker : (P Q : ℕ → Type 0) → ((number : ℕ) → P number → Q number) → (fault : ProviderFault)
    → OnChanged P fault → OnChanged Q fault
changed_weaker P Q so (faults.Changed which) is = so which is
changed_weaker P Q so faults.NoMemory is = tt
changed_weaker P Q so faults.DiskFault is = tt
changed_weaker P Q so faults.Down is = tt
changed_weaker P Q so (faults.ClockBack moment) is = tt
changed_weaker P Q so faults.NoAccount is = tt
changed_weaker P Q so faults.Full is = tt
changed_weaker P Q so faults.OldJournal is = tt
changed_weaker P Q so faults.NoNeed is = tt
changed_weaker P Q so faults.NoItem is = tt
changed_weaker P Q so faults.JournalFull is = tt

-- ---- places

places_count : (at : ℕ) (texts : List Bytes) → length (places_from at texts) ≡ length texts
places_count at [] = refl
places_count at (text ∷ texts) = ap suc (places_count (at + framing + length text) texts)

-- where one of two lists of the same length has no element the other one has none
none_at : {A B : Type 0} (xs : List A) (ys : List B) (k : ℕ) → length xs ≡ length ys → slice_get xs k ≡ None
    → slice_get ys k ≡ None
none_at [] [] k e none = refl
none_at (x ∷ xs) [] k e none = refl
none_at [] (y ∷ ys) k e none = absurd (omega (arith, e))
none_at (x ∷ xs) (y ∷ ys) zero e none = absurd (none-some x (sym none))
none_at (x ∷ xs) (y ∷ ys) (suc k) e none = none_at xs ys k (omega (arith, e)) none

past_of : {A : Type 0} (xs : List A) (k : ℕ) → slice_get xs k ≡ None → length xs ≤ k
past_of [] k none = omega arith
past_of (x ∷ xs) zero none = absurd (none-some x (sym none))
past_of (x ∷ xs) (suc k) none = let l = past_of xs k none in omega (arith, l)

places_many : (entries : List Entry) → length (places_of (map entry_text entries)) ≡ length entries
places_many entries = places_count (length header) (map entry_text entries) ∙ length-map entries entry_text

-- where there is no place there is no entry
pub absent_place : (entries : List Entry) (number : ℕ) → slice_get (places_of (map entry_text entries)) number ≡ None
    → slice_get entries number ≡ None
absent_place entries number none =
    none_at (places_of (map entry_text entries)) entries number (places_many entries) none

pub unplaced : (entries : List Entry) (number : ℕ) → slice_get (places_of (map entry_text entries)) number ≡ None
    → length entries ≤ number
unplaced entries number none = past_of entries number (absent_place entries number none)

-- and where there is one there is one
pub there_place : (entries : List Entry) (number : ℕ) (place : Place)
    → slice_get (places_of (map entry_text entries)) number ≡ Some place → number < length entries
there_place entries number place is =
    let l = slice_get_within (places_of (map entry_text entries)) number place is in
    let e = places_many entries in omega (arith, l, e)
