-- Lemmas on the entries of a journal file: a file is the journal of one list, and how the list is read entry by entry.
use Rattle.std.proofs.Common.{◌≡◌, ℕ, zero, suc, ◌+◌, ◌<◌, ◌≤◌, false, List, [], ◌∷◌, ◌++◌, ◌∙◌, length, get_or, refl, sym, ap, subst, arith, append_assoc, length-append}
use Rattle.std.specs.Prelude.{map, slice_get, slice_index_or, None, Some, Result, Ok, Err}
use Rattle.std.specs.Int.{w32, to_be_bytes}
use Rattle.std.specs.List.{All, flat_map}
use Rattle.std.specs.Option.{option_map}
use Rattle.std.proofs.lemmas.Grind.{flat_map-append}
use Rattle.std.proofs.lemmas.List.{append-nil, length-map, map-append}
use Rattle.std.proofs.lemmas.List.Elements.{All-push}
use Rattle.std.proofs.lemmas.Option.{get_or_from_slice_get, slice_get-get_or, slice_get-map, slice_get_within}
use Rattle.pec_outside.specs.DiskModel.{Rests, Sight, Stays}
use Rattle.pec_journal.specs.JournalFile.{IsFile, StandsAt, framed, framing, front, header, open_gate, places_from, places_of}
use Rattle.pec_journal.specs.JournalState.{Keeps}
use Rattle.pec_journal.specs.declared.faults.OpenFault as journal
use Rattle.pec_journal.specs.declared.faults.OpenFault.TheVariants as journals
use Rattle.pec_types.specs.declared.places.Place.{Place}
use Rattle.pec_types.specs.Bytes.{Bytes}
use Rattle.pec_records.specs.declared.entries.Entry.{Entry}
use Rattle.pec_records.specs.declared.entries.Entry.TheVariants as entries
use Rattle.pec_records.specs.Entry.{entry_text, CanBeWritten, IsEntry}
use Rattle.pec_ledger.specs.Steps.{size_of}
use Rattle.pec_ledger.specs.Network.{chosen}
use Rattle.pec_chronicle.specs.Carrying.{CarriesOn, NothingMay, with_entry}
use Rattle.pec_chronicle.specs.Chronicle.{ChronicleState, IsJournalOf, Stands}
use Rattle.pec_chronicle.specs.Faults.{opened_as}
use Rattle.pec_chronicle.specs.Opening.{Finds, OpeningState, Opens, Reads, StopsAtBad, place_behind}
use Rattle.pec_chronicle.specs.declared.faults.OpenFault.TheVariants as faults
use Rattle.pec_chronicle.proofs.StepLemmas.{carries_found, keeps_still}

-- ---- answers

-- a journal's fault that names no place isn't seen as one that does, or as that of an entry
pub opened_elsewhere : (fault : journal.OpenFault) (n : ℕ) → ((place : ℕ) → fault ≡ journals.NotAJournal place → ⊥)
    → (opened_as fault ≡ faults.NotAJournal n → ⊥) × (opened_as fault ≡ faults.BadEntry n → ⊥)
opened_elsewhere journals.DiskFault n never = (λ same. cc, λ same. cc)
opened_elsewhere (journals.NotAJournal place) n never = (λ same. never place refl, λ same. cc)
opened_elsewhere journals.NoMemory n never = (λ same. cc, λ same. cc)

-- no answer is a value and a fault
pub no_both : {X E : Type 0} (x : X) (e : E) → ◌≡◌ {A = Result X E} (Ok x) (Err e) → ⊥
no_both x e same = cc

some_same : {X : Type 0} (x y : X) → Some x ≡ Some y → x ≡ y
some_same x y same = cc

no_more : {X : Type 0} (xs : List X) → length xs ≡ 0 → xs ≡ []
no_more [] none = refl
no_more (x ∷ xs) none = cc

-- ---- one list

-- no bytes are two entries
abbrev pub OneEntry : Type 0
OneEntry = (e f : Entry) (s t a b : Bytes) → IsEntry e s → IsEntry f t → s ++ a ≡ t ++ b → (e ≡ f) × (a ≡ b)

-- bytes are the journal of one list
abbrev pub OneList : Type 0
OneList = (one other : List Entry) (bytes : Bytes) → IsJournalOf one bytes → IsJournalOf other bytes → one ≡ other

-- bytes are the file of one list
abbrev pub OneFile : Type 0
OneFile = (one other : List Bytes) (bytes : Bytes) → IsFile one bytes → IsFile other bytes → one ≡ other

first_of : {X : Type 0} (P : X → Type 0) (x : X) (xs : List X) → All P (x ∷ xs) → P x
first_of P x xs all = all zero x (omega arith)

rest_of : {X : Type 0} (P : X → Type 0) (x : X) (xs : List X) → All P (x ∷ xs) → All P xs
rest_of P x xs all k d within = all (suc k) d (omega (arith, within))

-- bytes that are an entry are those of no other
pub same_entry : OneEntry → (e f : Entry) (text : Bytes) → IsEntry e text → IsEntry f text → e ≡ f
same_entry one e f text is other = (one e f text text [] [] is other refl).0

same_entries : OneEntry → (es fs : List Entry) → map entry_text es ≡ map entry_text fs → All CanBeWritten es → All CanBeWritten fs → es ≡ fs
same_entries one [] [] same all every = refl
same_entries one [] (f ∷ fs) same all every = cc
same_entries one (e ∷ es) [] same all every = cc
same_entries one (e ∷ es) (f ∷ fs) same all every =
    let text : entry_text e ≡ entry_text f = cc in
    let texts : map entry_text es ≡ map entry_text fs = cc in
    let here : e ≡ f = (one e f (entry_text e) (entry_text f) [] [] (first_of CanBeWritten e es all, refl) (first_of CanBeWritten f fs every, refl) (ap (λ (s : Bytes). s ++ []) text)).0 in
    let there : es ≡ fs = same_entries one es fs texts (rest_of CanBeWritten e es all) (rest_of CanBeWritten f fs every) in
    cc

-- bytes are the journal of one list of entries
pub one_journal : OneEntry → OneFile → (es fs : List Entry) (bytes : Bytes) → IsJournalOf es bytes → IsJournalOf fs bytes → es ≡ fs
one_journal one file es fs bytes first second =
    same_entries one es fs (file (map entry_text es) (map entry_text fs) bytes first.file second.file) first.written second.written

-- entries whose texts begin with others' begin with the others
pub begin_alike : OneEntry → (list read : List Entry) (more : List Bytes) → map entry_text list ≡ map entry_text read ++ more
    → All CanBeWritten list → All CanBeWritten read
    → (rest : List Entry) × (list ≡ read ++ rest) × (more ≡ map entry_text rest)
begin_alike one list [] more same all every = (list, refl, sym same)
begin_alike one [] (e ∷ es) more same all every = cc
begin_alike one (f ∷ fs) (e ∷ es) more same all every =
    let text : entry_text f ≡ entry_text e = cc in
    let texts : map entry_text fs ≡ map entry_text es ++ more = cc in
    let here : f ≡ e = (one f e (entry_text f) (entry_text e) [] [] (first_of CanBeWritten f fs all, refl) (first_of CanBeWritten e es every, refl) (ap (λ (s : Bytes). s ++ []) text)).0 in
    let there = begin_alike one fs es more texts (rest_of CanBeWritten f fs all) (rest_of CanBeWritten e es every) in
    (there.0, ap (λ (g : Entry). g ∷ fs) here ∙ ap (λ (l : List Entry). e ∷ l) there.1, there.2)

-- ---- places

places_length : (at : ℕ) (texts : List Bytes) → length (places_from at texts) ≡ length texts
places_length at [] = refl
places_length at (text ∷ texts) = ap suc (places_length (at + 5 + length text) texts)

pub as_many_places : (texts : List Bytes) → length (places_of texts) ≡ length texts
as_many_places texts = places_length _ texts

-- each place is that of its entry
abbrev pub EachStands : Type 0
EachStands = (texts : List Bytes) (k : ℕ) (place : Place) (text : Bytes) → k < length texts
    → StandsAt (slice_index_or (places_of texts) k place) (slice_index_or texts k text) texts

-- what stands at the place of this number is the entry of this number
pub entry_there : EachStands → (list : List Entry) (number : ℕ) (place : Place) → All CanBeWritten list
    → slice_get (places_of (map entry_text list)) number ≡ Some place
    → (entry : Entry) × IsEntry entry (entry_text entry) × (slice_get list number ≡ Some entry) × StandsAt place (entry_text entry) (map entry_text list)
entry_there law list number place all is =
    let texts = map entry_text list in
    let inside : number < length texts = omega (arith, slice_get_within (places_of texts) number place is, as_many_places texts) in
    let within : number < length list = omega (arith, inside, length-map list entry_text) in
    let entry = get_or list number (entries.Ticked 0) in
    let there : slice_get list number ≡ Some entry = slice_get-get_or list number (entries.Ticked 0) within in
    let text : get_or texts number (entry_text entry) ≡ entry_text entry =
    get_or_from_slice_get texts number (entry_text entry) (entry_text entry) (slice_get-map entry_text list number ∙ ap (option_map entry_text) there) in
    let stands = law texts number place (entry_text entry) inside in (
      entry,
      (all number (entries.Ticked 0) within, refl),
      there,
      subst (λ (t : Bytes). StandsAt place t texts) text
          (subst (λ (p : Place). StandsAt p (get_or texts number (entry_text entry)) texts) (get_or_from_slice_get (places_of texts) number place place is) stands),
    )

-- The next text of a journal, of which so many were read, and its place.
pub record Next (read : List Bytes) (rest : List Bytes) (place : Place) : Type 0 where
  pub text : Bytes
  pub more : List Bytes
  pub is : rest ≡ text ∷ more
  pub place_is : place ≡ record { at = length (front read) + framing; length = length text }

framed_length : (text : Bytes) (rest : Bytes) → length ((open_gate ∷ framed text) ++ rest) ≡ 5 + length text + length rest
framed_length text rest = omega (
  arith,
  length-append (open_gate ∷ framed text) rest,
  length-append (to_be_bytes w32 (length text)) text,
)

next_from : (at : ℕ) (read rest : List Bytes) (place : Place) → slice_get (places_from at (read ++ rest)) (length read) ≡ Some place
    → (text : Bytes) × (more : List Bytes) × (rest ≡ text ∷ more)
    × (place ≡ record { at = at + length (flat_map (λ (t : Bytes). open_gate ∷ framed t) read) + framing; length = length text })
next_from at [] [] place is = cc
next_from at [] (text ∷ more) place is = (text, more, refl, sym (some_same _ _ is) ∙ ap (λ (n : ℕ). record { at = n + framing; length = length text }) (omega arith))
next_from at (t ∷ ts) rest place is =
    let there = next_from (at + framing + length t) ts rest place is in
    let behind = λ (s : Bytes). open_gate ∷ framed s in
    let size : at + framing + length t + length (flat_map behind ts) ≡ at + length (flat_map behind (t ∷ ts)) =
    omega (arith, framed_length t (flat_map behind ts)) in
    (there.0, there.1, there.2, there.3 ∙ ap (λ (n : ℕ). record { at = n + framing; length = length there.0 }) size)

pub next_text : (read rest texts : List Bytes) (places : List Place) (k : ℕ) (place : Place) → texts ≡ read ++ rest → places ≡ places_of texts
    → k ≡ length read → slice_get places k ≡ Some place → Next read rest place
next_text read rest texts places k place is are counted there =
    let found = next_from (length header) read rest place
    (subst (λ (n : ℕ). slice_get (places_from (length header) (read ++ rest)) n ≡ Some place) counted
    (subst (λ (ts : List Bytes). slice_get (places_of ts) k ≡ Some place) is
    (subst (λ (ps : List Place). slice_get ps k ≡ Some place) are there))) in
    record {
      text = found.0;
      more = found.1;
      is = found.2;
      place_is = found.3 ∙ ap (λ (n : ℕ). record { at = n + framing; length = length found.0 }) (sym (length-append header (flat_map (λ (t : Bytes). open_gate ∷ framed t) read)));
    }

-- the next text stands at its place
pub next_stands : (read rest texts : List Bytes) (place : Place) → texts ≡ read ++ rest → (next : Next read rest place)
    → StandsAt place next.text texts
next_stands read rest texts place is next = record {
  earlier = read;
  later = next.more;
  is = is ∙ ap (λ (l : List Bytes). read ++ l) next.is;
  at = ap (λ (p : Place). p.at) next.place_is;
  size = ap (λ (p : Place). p.length) next.place_is;
}

-- and ends within the journal
pub next_within : (read rest texts : List Bytes) (place : Place) (end : ℕ) → texts ≡ read ++ rest → end ≡ length (front texts)
    → (next : Next read rest place) → length (front read) + framing + length next.text ≤ end
next_within read rest texts place end is ends next =
    let behind = λ (t : Bytes). open_gate ∷ framed t in
    let whole : length (front texts) ≡ length (front (read ++ (next.text ∷ next.more))) = ap (λ (l : List Bytes). length (front l)) (is ∙ ap (λ (l : List Bytes). read ++ l) next.is) in
    omega (
      arith,
      ends,
      whole,
      length-append header (flat_map behind (read ++ (next.text ∷ next.more))),
      length-append header (flat_map behind read),
      ap length (flat_map-append behind read (next.text ∷ next.more)),
      length-append (flat_map behind read) (flat_map behind (next.text ∷ next.more)),
      framed_length next.text (flat_map behind next.more),
    )

-- where an entry stands whose bytes these are
pub place_is : (behind : ℕ) (bytes : Bytes) (read : List Entry) (entry : Entry) → behind ≡ length (front (map entry_text read))
    → bytes ≡ entry_text entry
    → ◌≡◌ {A = Place} (record { at = behind + framing; length = length bytes }) (place_behind read entry)
place_is behind bytes read entry ends is = rw (ends, is) refl

-- ---- a journal that is read

module _ {D : Type 0} (sight : D → Sight) where
  -- none was read
  pub reads_begun : (opening : OpeningState D) (texts : List Bytes) → opening.read ≡ [] → Keeps (sight opening.disk) texts opening.end
      → opening.places ≡ places_of texts
      → Reads sight opening texts
  reads_begun opening texts none keeps are = record {
    keeps = keeps;
    places = are;
    rest = texts;
    is = ap (λ (l : List Entry). map entry_text l ++ texts) (sym none);
    written = subst (λ (l : List Entry). All CanBeWritten l) (sym none) (λ k d within. absurd (omega (arith, within)));
  }

  -- one entry more was read
  pub reads_on : (old : OpeningState D) (disk : D) (end : ℕ) (places : List Place) (read : List Entry) (texts : List Bytes) (place : Place)
      (entry : Entry) → end ≡ old.end → places ≡ old.places → read ≡ with_entry old.read entry → Rests (sight old.disk) (sight disk)
      → (so_far : Reads sight old texts) (next : Next (map entry_text old.read) so_far.rest place) → IsEntry entry next.text
      → Reads sight (record { disk = disk; end = end; places = places; read = read }) texts
  reads_on old disk end places read texts place entry e1 e2 e3 rests so_far next is = rw (e1, e2, e3) (record {
    keeps = keeps_still (sight old.disk) (sight disk) rests.seen rests.crash texts old.end so_far.keeps;
    places = so_far.places;
    rest = next.more;
    is = so_far.is
        ∙ ap (λ (l : List Bytes). map entry_text old.read ++ l) (next.is ∙ ap (λ (t : Bytes). t ∷ next.more) is.1)
        ∙ sym (append_assoc (map entry_text old.read) (entry_text entry ∷ []) next.more)
        ∙ ap (λ (l : List Bytes). l ++ next.more) (sym (map-append entry_text old.read (entry ∷ [])));
    written = All-push CanBeWritten old.read entry so_far.written is.0;
  })

  -- the text that comes next is no entry's
  pub stops_at : (old : OpeningState D) (texts : List Bytes) (place : Place) (number : ℕ) → (so_far : Reads sight old texts)
      (next : Next (map entry_text old.read) so_far.rest place) → number ≡ length old.read → ((entry : Entry) → IsEntry entry next.text → ⊥)
      → StopsAtBad number old.read texts
  stops_at old texts place number so_far next count none = record {
    count = count;
    bad = next.text;
    more = next.more;
    is = so_far.is ∙ ap (λ (l : List Bytes). map entry_text old.read ++ l) next.is;
    written = so_far.written;
    none = none;
  }

  -- where all were read the texts are those of the entries
  pub all_read : (opening : OpeningState D) (texts : List Bytes) → Reads sight opening texts → length opening.read ≡ length opening.places
      → texts ≡ map entry_text opening.read
  all_read opening texts reads whole =
      let read = map entry_text opening.read in
      let none : reads.rest ≡ [] = no_more reads.rest (omega (
        arith,
        whole,
        ap length reads.places,
        as_many_places texts,
        ap length reads.is,
        length-append read reads.rest,
        length-map opening.read entry_text,
      )) in
      reads.is ∙ ap (λ (l : List Bytes). read ++ l) none ∙ append-nil read

  -- which then are the journal's
  pub opened_journal : (opening : OpeningState D) (texts : List Bytes) → Reads sight opening texts → length opening.read ≡ length opening.places
      → IsJournalOf opening.read (sight opening.disk).seen
  opened_journal opening texts reads whole = record {
    file = subst (λ (l : List Bytes). IsFile l (sight opening.disk).seen) (all_read opening texts reads whole) reads.keeps.file;
    written = reads.written;
  }

  pub opened_stands : (opening : OpeningState D) (spare : ℕ) (texts : List Bytes) → Reads sight opening texts
      → length opening.read ≡ length opening.places
      → Stands sight (record { entries = opening.read; interrupted = None; down = false; disk = opening.disk; end = opening.end; spare = spare })
  opened_stands opening spare texts reads whole = record {
    up = λ up. subst (λ (l : List Bytes). Keeps (sight opening.disk) l opening.end) (all_read opening texts reads whole) reads.keeps;
    images = λ image left. (
      false,
      subst (λ (l : List Entry). IsJournalOf l image) (sym (append-nil opening.read))
          (subst (λ (bytes : Bytes). IsJournalOf opening.read bytes) (sym (reads.keeps.durable image left)) (opened_journal opening texts reads whole)),
    );
  }

  -- over the journal of entries they are these
  pub opened_list : OneList → (opening : OpeningState D) (list : List Entry) → Opens sight opening list
      → length opening.read ≡ length opening.places
      → opening.read ≡ list
  opened_list one opening list opens whole =
      one opening.read list (sight opening.disk).seen (opened_journal opening (map entry_text list) opens.reads whole)
      (record { file = opens.reads.keeps.file; written = opens.written })

  -- what a restart found carries on what was there before
  pub carries_opened : OneList → (was : ChronicleState D) (opening : OpeningState D) (spare : ℕ)
      → length opening.read ≡ length opening.places
      → Stays (sight was.disk) (sight opening.disk) → (Stands sight was → Finds sight was opening)
      → CarriesOn sight NothingMay was
      (record { entries = opening.read; interrupted = None; down = false; disk = opening.disk; end = opening.end; spare = spare })
  carries_opened one was opening spare whole stays finds =
      let new : ChronicleState D =
      record { entries = opening.read; interrupted = None; down = false; disk = opening.disk; end = opening.end; spare = spare } in
      carries_found sight NothingMay was new refl stays
      (λ stands. let found = finds stands in (found.0, opened_list one opening (was.entries ++ chosen found.0 was.interrupted) found.1 whole))
      (λ stands. let found = finds stands in opened_stands opening spare (map entry_text (was.entries ++ chosen found.0 was.interrupted)) found.1.reads whole)

-- a list that stops at what is no entry is no list of entries
pub no_stop : (entries all : List Entry) (bad : Bytes) (more : List Bytes) → map entry_text all ≡ map entry_text entries ++ bad ∷ more
    → All CanBeWritten all → ((entry : Entry) → IsEntry entry bad → ⊥) → ⊥
no_stop [] [] bad more same every none = cc
no_stop [] (f ∷ fs) bad more same every none =
    let here : bad ≡ entry_text f = cc in
    none f (first_of CanBeWritten f fs every, here)
no_stop (e ∷ es) [] bad more same every none = cc
no_stop (e ∷ es) (f ∷ fs) bad more same every none =
    let there : map entry_text fs ≡ map entry_text es ++ bad ∷ more = cc in
    no_stop es fs bad more there (rest_of CanBeWritten f fs every) none

-- ---- where a journal ends

pub ends_behind : (texts : List Bytes) (text : Bytes) → length (front (texts ++ text ∷ [])) ≡ length (front texts) + (5 + length text)
ends_behind texts text =
    let behind = λ (t : Bytes). open_gate ∷ framed t in
    omega (
      arith,
      length-append header (flat_map behind (texts ++ text ∷ [])),
      length-append header (flat_map behind texts),
      ap length (flat_map-append behind texts (text ∷ [])),
      length-append (flat_map behind texts) (flat_map behind (text ∷ [])),
      length-append (behind text) [],
      length-append (to_be_bytes w32 (length text)) text,
    )

pub journal_ends : (entries : List Entry) (entry : Entry)
    → length (front (map entry_text (with_entry entries entry))) ≡ length (front (map entry_text entries)) + size_of entry
unfolding size_of
journal_ends entries entry =
    ap (λ (texts : List Bytes). length (front texts)) (map-append entry_text entries (entry ∷ [])) ∙ ends_behind (map entry_text entries) (entry_text entry)
