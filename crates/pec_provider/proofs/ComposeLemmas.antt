-- How frames are composed for one letter after another, and when the entry that was read isn't what is composed of it.
use Rattle.std.proofs.Common.{◌≡◌, ℕ, ◌+◌, ◌<◌, ◌≤◌, ◌==◌, Bool, true, List, [], ◌∷◌, ◌++◌, length, take, get_or, refl, ap, append_assoc, sym, subst, ◌∙◌, arith}
use Rattle.std.proofs.Common.{Global, Option, Some, None, Result, Ok, Err, Vec, inl, inr}
use Rattle.std.specs.Prelude.{Contains, IfErr, IfOk, IfSome, IsErrOf, IsSome, if◌then◌else◌, slice_get}
use Rattle.std.specs.List.{filter_map}
use Rattle.std.specs.Option.{option_and_then, option_map, option_to_list}
use Rattle.std.proofs.lemmas.Bool.{eq-eqb, false≢true}
use Rattle.std.proofs.lemmas.List.{append-nil, length-append, take_all, take_more}
use Rattle.std.proofs.lemmas.Option.{none-some, same_Some}
use Rattle.pec_types.specs.Bytes.{Bytes}
use Rattle.pec_types.specs.Message.{Id}
use Rattle.pec_types.specs.declared.letters.Letter.{Letter}
use Rattle.pec_types.specs.declared.letters.Letter.TheVariants as letters
use Rattle.pec_types.specs.declared.turns.ProviderFault.{ProviderFault}
use Rattle.pec_types.specs.declared.turns.ProviderFault.TheVariants as faults
use Rattle.pec_outside.specs.DiskModel.{Sight}
use Rattle.pec_records.specs.declared.entries.Entry.{Entry}
use Rattle.pec_ledger.specs.Due.{due_letters}
use Rattle.pec_screen.specs.VerdictReading.{finds}
use Rattle.pec_screen.specs.Verdicts.{Patterns}
use Rattle.pec_ledger.specs.Half.{Half, Posted, Taken}
use Rattle.pec_ledger.specs.Lookups.{taken_of}
use Rattle.pec_ledger.specs.Steps.{half}
use Rattle.pec_ledger.specs.Trade.{Trade}
use Rattle.pec_plays.specs.Decisions.{finds_in, found_in_taken}
use Rattle.pec_plays.specs.Frames.{due_frames, frame_of, original_taken}
use Rattle.pec_chronicle.specs.Carrying.{CarriesOn, NothingMay}
use Rattle.pec_chronicle.specs.CarryingLaws.{carries_and_then}
use Rattle.pec_chronicle.specs.Chronicle.{ChronicleState, Stands}
use Rattle.pec_outgoing.specs.Desk.{IsHalfOf}
use Rattle.pec_outgoing.specs.ItemNeeds.{ServesItem, needed_item}
use Rattle.pec_outgoing.specs.Needs.{Asked, ChargeAsked, Holds, Serves, asked_by, enveloped_in, needed, number_of}
use Rattle.pec_outgoing.specs.declared.faults.ComposeFault.{ComposeFault}
use Rattle.pec_outgoing.specs.declared.faults.ComposeFault.TheVariants as compose
use Rattle.pec_shelf.specs.Seen.{IsFor, Seen}
use Rattle.pec_provider.specs.Reading.{AreFramed, IsAbsent, IsFramed, IsNotOf, LetterIsChanged, OnChanged, PostedIsChanged, ReadsOver, as_provider}
use Rattle.pec_provider.proofs.ReadLemmas.{changed_weaker, reads_and_then, reads_as}

-- one letter more has its frame behind those of the letters before
abbrev pub FramesMore : Type 0
FramesMore = (trade : Trade) (me : ℕ) (journal : List Entry) (done : List Letter) (letter : Letter)
    → filter_map (frame_of trade me journal) (done ++ letter ∷ [])
    ≡ filter_map (frame_of trade me journal) done ++ option_to_list (frame_of trade me journal letter)

-- where a test is true its first branch is taken
chosen_so : {X : Type 0} (test : Bool) (one other : X) → test ≡ true → (if test then one else other) ≡ one
chosen_so test one other e = rw e refl

one_at_most : {X : Type 0} (o : Option X) → length (option_to_list o) ≤ 1
one_at_most None = omega arith
one_at_most (Some x) = omega arith

-- what was read as one disk stands was read as another one does
framed_where : (Stood Other : Type 0) (trade : Trade) (me : ℕ) (journal : List Entry) (letter : Letter)
    (found : Option Bytes) → (Other → Stood) → IsFramed Stood trade me journal letter found
    → IsFramed Other trade me journal letter found
framed_where Stood Other trade me journal letter found so (inl none) = inl none
framed_where Stood Other trade me journal letter found so (inr by) = inr (record {
  number = by.number;
  needs = by.needs;
  entry = by.entry;
  given = record { there = λ other. by.given.there (so other); written = by.given.written };
  of = by.of;
})

-- one letter more has its frame behind those of the letters before, of whatever entries they are composed
framed_more : (Stood : Type 0) (trade : Trade) (me : ℕ) (h : List Entry) (letters : List Letter) (frames : List Bytes)
    (letter : Letter) (found : Option Bytes)
    → AreFramed Stood trade me h letters frames → IsFramed Stood trade me h letter found
    → AreFramed Stood trade me h (letters ++ letter ∷ []) (frames ++ option_to_list found)
framed_more Stood trade me h [] frames letter found are is = (
  found,
  [],
  is,
  refl,
  ap (λ (f : List Bytes). f ++ option_to_list found) are ∙ sym
      (append-nil (option_to_list found)),
)
framed_more Stood trade me h (first ∷ letters) frames letter found are is = (
  are.0,
  are.1 ++ option_to_list found,
  are.2,
  framed_more Stood trade me h letters are.1 letter found are.3 is,
  ap (λ (f : List Bytes). f ++ option_to_list found) are.4
      ∙ append_assoc (option_to_list are.0) are.1 (option_to_list found),
)

module _ {D : Type 0} (Tells : Type 0) (sight : D → Sight) (count : D → ℕ) (trade : Trade) (me : ℕ)
    (begun : ChronicleState D) (letters : List Letter) where
  -- The frames of the first letters are composed, and nothing else has changed.
  pub record FramesSoFar (index : ℕ) (now : ChronicleState D) (frames : List Bytes) : Type 0 where
    pub reads : now ≡ record begun { disk = now.disk }
    pub carries : Tells → CarriesOn sight NothingMay begun now
    pub later : count begun.disk ≤ count now.disk
    pub few : length frames ≤ index
    pub are : Tells → Stands sight begun
        → frames ≡ filter_map (frame_of trade me begun.entries) (take index letters)
    pub given : AreFramed (Tells × Stands sight begun) trade me begun.entries (take index letters) frames

  pub frames_none : (Tells → CarriesOn sight NothingMay begun begun) → FramesSoFar 0 begun []
  frames_none rests = record {
    reads = refl;
    carries = rests;
    later = omega arith;
    few = omega arith;
    are = λ tells stands. refl;
    given = refl;
  }

  module _ (index : ℕ) (letter : Letter) (now new : ChronicleState D) (frames : List Bytes)
      (l : index < length letters) (is : letter ≡ get_or letters index letter) (so_far : FramesSoFar index now frames) where
    same_entries : now.entries ≡ begun.entries
    same_entries = ap (λ (c : ChronicleState D). c.entries) so_far.reads

    so_far_reads : ReadsOver {X = List Bytes} begun now (Ok frames)
    so_far_reads = so_far.reads

    -- it is read for one letter more
    pub frames_more : FramesMore → (found : Option Bytes) (more : List Bytes) → ReadsOver now new (Ok found)
        → (Tells → CarriesOn sight NothingMay now new) → count now.disk ≤ count new.disk
        → (Tells → Stands sight now → found ≡ frame_of trade me now.entries letter)
        → IsFramed (Tells × Stands sight now) trade me now.entries letter found
        → more ≡ frames ++ option_to_list found → FramesSoFar (index + 1) new more
    frames_more law found more reads carries later due framed pushed =
        let one = one_at_most found in
        let size = length-append frames (option_to_list found) in
        let few = so_far.few in
        let is_later = so_far.later in
        record {
          reads = reads_and_then begun now new frames (Ok found) so_far_reads reads;
          carries = λ tells. carries_and_then sight NothingMay begun now new (so_far.carries tells) (carries tells);
          later = omega (arith, is_later, later);
          few = let e = ap (λ (f : List Bytes). length f) pushed in omega (arith, e, size, one, few);
          are = λ tells stands.
              pushed
              ∙ ap (λ (f : List Bytes). f ++ option_to_list found) (so_far.are tells stands)
              ∙ ap (λ (o : Option Bytes). filter_map (frame_of trade me begun.entries) (take index letters) ++ option_to_list o)
              (due tells ((so_far.carries tells).stands stands)
              ∙ ap (λ (j : List Entry). frame_of trade me j letter) same_entries)
              ∙ sym (law trade me begun.entries (take index letters) letter)
              ∙ ap (λ (l : List Letter). filter_map (frame_of trade me begun.entries) l)
              (ap (λ (x : Letter). take index letters ++ x ∷ []) is ∙ sym (take_more letters index letter l));
          given =
              let Stood = Tells × Stands sight begun in
              let h = begun.entries in
              subst (λ (f : List Bytes). AreFramed Stood trade me h (take (index + 1) letters) f) (sym pushed)
              (subst (λ (l : List Letter). AreFramed Stood trade me h l (frames ++ option_to_list found))
              (ap (λ (x : Letter). take index letters ++ x ∷ []) is ∙ sym (take_more letters index letter l))
              (framed_more Stood trade me h (take index letters) frames letter found so_far.given
              (framed_where (Tells × Stands sight now) Stood trade me h letter found
              (λ stood. (stood.0, (so_far.carries stood.0).stands stood.1))
              (subst (λ (j : List Entry). IsFramed (Tells × Stands sight now) trade me j letter found) same_entries
              framed))));
        }

    -- the read for it fails
    pub fails_reads : (X Y : Type 0) (fault : ProviderFault) → ReadsOver {X = X} now new (Err fault)
        → ReadsOver {X = Y} begun new (Err fault)
    fails_reads X Y fault reads =
        reads_and_then {Y = Y} begun now new frames (Err fault) so_far_reads (reads_as X Y now new fault reads)

    pub fails_carries : (Tells → CarriesOn sight NothingMay now new) → Tells → CarriesOn sight NothingMay begun new
    fails_carries carries tells = carries_and_then sight NothingMay begun now new (so_far.carries tells) (carries tells)

    -- what was needed for it has changed
    pub fails_changed : (fault : ProviderFault)
        → (Tells → Stands sight now → OnChanged (IsNotOf trade me now.entries letter) fault)
        → Tells → Stands sight begun
        → OnChanged (λ number. (one : Letter) × Contains letters one × IsNotOf trade me begun.entries one number) fault
    fails_changed fault changed tells stands =
        changed_weaker (IsNotOf trade me now.entries letter)
        (λ number. (one : Letter) × Contains letters one × IsNotOf trade me begun.entries one number)
        (λ number not. (
          letter,
          (index, l, sym is),
          subst (λ (j : List Entry). IsNotOf trade me j letter number) same_entries not,
        )) fault (changed tells ((so_far.carries tells).stands stands))

  -- all are composed
  pub frames_all : (index : ℕ) (now : ChronicleState D) (frames : List Bytes) → length letters ≤ index
      → FramesSoFar index now frames → Tells → Stands sight begun
      → frames ≡ filter_map (frame_of trade me begun.entries) letters
  frames_all index now frames l so_far tells stands =
      so_far.are tells stands
      ∙ ap (λ (all : List Letter). filter_map (frame_of trade me begun.entries) all) (take_all index letters l)

  pub frames_given : (index : ℕ) (now : ChronicleState D) (frames : List Bytes) → length letters ≤ index
      → FramesSoFar index now frames → AreFramed (Tells × Stands sight begun) trade me begun.entries letters frames
  frames_given index now frames l so_far =
      subst (λ (all : List Letter). AreFramed (Tells × Stands sight begun) trade me begun.entries all frames)
      (take_all index letters l) so_far.given

-- ---- what has changed

-- what is so of a shelf is so of the half that its entries come to
pub over_half : (P : ℕ → Half → Type 0) (trade : Trade) (shelf : Seen) (me : ℕ) (journal : List Entry)
    → shelf.me ≡ me → shelf.half ≡ half trade shelf.me journal → P shelf.me shelf.half → P me (half trade me journal)
over_half P trade shelf me journal is half_is p =
    subst (λ (n : ℕ). P n (half trade n journal)) is (subst (λ (h : Half). P shelf.me h) half_is p)

-- nothing was composed of an entry, which is told as changed where it isn't what was needed
pub changed_by : (P : ℕ → Type 0) (number : ℕ) (fault : ComposeFault) → (fault ≡ compose.Changed → P number)
    → OnChanged P (as_provider number fault)
changed_by P number compose.Changed so = so refl
changed_by P number compose.NoMemory so = tt

-- an entry that is there isn't told as changed
pub never_changed : {X : Type 0} (P : ℕ → Type 0) (r : Result X ProviderFault)
    → ((changed : ℕ) → IsErrOf r (faults.Changed changed) → ⊥) → IfErr r (OnChanged P)
never_changed P (Ok x) never = tt
never_changed P (Err (faults.Changed which)) never = absurd (never which refl)
never_changed P (Err faults.NoMemory) never = tt
never_changed P (Err faults.DiskFault) never = tt
never_changed P (Err faults.Down) never = tt
never_changed P (Err (faults.ClockBack moment)) never = tt
never_changed P (Err faults.NoAccount) never = tt
never_changed P (Err faults.Full) never = tt
never_changed P (Err faults.OldJournal) never = tt
never_changed P (Err faults.NoNeed) never = tt
never_changed P (Err faults.NoItem) never = tt
never_changed P (Err faults.JournalFull) never = tt

module _ (trade : Trade) (me : ℕ) (journal : List Entry) where
  module _ (letter : Letter) (number : ℕ) (needs : needed me (half trade me journal) letter ≡ Some number) where
    -- another entry than what a letter is composed of was read for it
    pub other_letter : (entry : Entry) → slice_get journal number ≡ Some entry
        → (Serves trade me (half trade me journal) letter entry → ⊥) → IsNotOf trade me journal letter number
    other_letter entry there not = record {
      needs = needs;
      serves = λ other at serves. not
          (subst (λ (e : Entry). Serves trade me (half trade me journal) letter e)
          (same_Some other entry (sym at ∙ there)) serves);
    }

    -- there was none
    pub no_letter : (fault : ProviderFault) → OnChanged (IsAbsent journal number) fault
        → OnChanged (IsNotOf trade me journal letter) fault
    no_letter = changed_weaker (IsAbsent journal number) (IsNotOf trade me journal letter)
        (λ told is. subst (λ (n : ℕ). IsNotOf trade me journal letter n) (sym is.0)
        (record { needs = needs; serves = λ entry there serves. none-some entry (sym is.1 ∙ there) }))

  module _ (posted : Posted) (number : ℕ) (needs : needed_item (half trade me journal) posted ≡ Some number) where
    -- another entry than what an item is composed of was read for it
    pub other_item : (entry : Entry) → slice_get journal number ≡ Some entry
        → (ServesItem trade me (half trade me journal) posted entry → ⊥)
        → PostedIsChanged trade me journal (Some posted) number
    other_item entry there not = record {
      posted = posted;
      there = refl;
      needs = needs;
      serves = λ other at serves. not
          (subst (λ (e : Entry). ServesItem trade me (half trade me journal) posted e)
          (same_Some other entry (sym at ∙ there)) serves);
    }

    -- there was none
    pub no_item : (fault : ProviderFault) → OnChanged (IsAbsent journal number) fault
        → OnChanged (PostedIsChanged trade me journal (Some posted)) fault
    no_item = changed_weaker (IsAbsent journal number) (PostedIsChanged trade me journal (Some posted))
        (λ told is. subst (λ (n : ℕ). PostedIsChanged trade me journal (Some posted) n) (sym is.0)
        (record {
          posted = posted;
          there = refl;
          needs = needs;
          serves = λ entry there serves. none-some entry (sym is.1 ∙ there);
        }))

  -- ---- envelopes that are read for a decision

  -- a message that was taken, by its row, and the number of its entry
  pub record TakenAt (id : Id) (number : ℕ) : Type 0 where
    pub row : Taken
    pub taken : taken_of (half trade me journal) id ≡ Some row
    pub entry : row.entry ≡ number

  taken_by_row : (id : Id) (number : ℕ) (found : Option Taken) → taken_of (half trade me journal) id ≡ found
      → IsSome found → IfSome found (λ row. row.entry ≡ number) → TakenAt id number
  taken_by_row id number None is some entry = absurd (false≢true some)
  taken_by_row id number (Some row) is some entry = record { row = row; taken = is; entry = entry }

  -- a row of a shelf's half, whose entries these are
  pub taken_at : (shelf : Seen) → shelf.me ≡ me → shelf.half ≡ half trade shelf.me journal → (id : Id) (number : ℕ)
      → IsSome (taken_of shelf.half id) → IfSome (taken_of shelf.half id) (λ row. row.entry ≡ number)
      → TakenAt id number
  taken_at shelf is half_is id number some entry =
      taken_by_row id number (taken_of (half trade me journal) id) refl
      (over_half (λ n h. IsSome (taken_of h id)) trade shelf me journal is half_is some)
      (over_half (λ n h. IfSome (taken_of h id) (λ row. row.entry ≡ number)) trade shelf me journal is half_is entry)

  module _ (id : Id) (row : Taken) (taken : taken_of (half trade me journal) id ≡ Some row) where
    charge_asked : asked_by me (half trade me journal) (letters.Charge id me) ≡ Some (ChargeAsked id row)
    charge_asked =
        chosen_so (me == me) (option_map (ChargeAsked id) (taken_of (half trade me journal) id)) None
        (eq-eqb me me refl)
        ∙ ap (option_map (ChargeAsked id)) taken

    -- the entry of a charge is that by which the message was taken
    pub charge_needs : needed me (half trade me journal) (letters.Charge id me) ≡ Some row.entry
    unfolding needed
    charge_needs = ap (option_map number_of) charge_asked

    -- what a charge is composed of holds the original
    pub charge_holds : (entry : Entry) → Serves trade me (half trade me journal) (letters.Charge id me) entry
        → (original : Bytes) × (enveloped_in trade id entry ≡ Some original)
    charge_holds entry serves =
        let asked : serves.asked ≡ ChargeAsked id row =
        same_Some serves.asked (ChargeAsked id row) (sym serves.has ∙ charge_asked) in
        (serves.original, subst (λ (a : Asked). Holds trade a entry serves.original) asked serves.holds)

    -- what screens find in the original is what they find in the message that was taken
    pub found_there : (screens : List Patterns) (original : Bytes)
        → original_taken trade me journal id row ≡ Some original
        → finds screens original ≡ found_in_taken trade me screens journal id
    unfolding found_in_taken
    found_there screens original is =
        sym (ap (λ (found : Option Taken). finds_in screens
        (option_and_then (original_taken trade me journal id) found)) taken
        ∙ ap (finds_in screens) is)

-- ---- what is due

-- the frames of the due letters are the frames that are due
abbrev pub DueFrames : Type 0
DueFrames = (trade : Trade) (journal : List Entry) (shelf : Seen) (to room : ℕ) (owed : List Letter)
    → IsHalfOf trade journal shelf
    → filter_map (frame_of trade shelf.me journal) (due_letters trade shelf.me shelf.half to room owed)
    ≡ due_frames trade shelf.me journal to room owed

-- no more letters are due than there is room for
abbrev pub FewLetters : Type 0
FewLetters = (trade : Trade) (provider : ℕ) (half : Half) (to room : ℕ) (owed : List Letter)
    → length (due_letters trade provider half to room owed) ≤ room

-- the letters that are due to a provider
module _ (trade : Trade) (shelf : Seen) (me : ℕ) (journal : List Entry) (to room : ℕ) (owed letters : List Letter)
    (is : shelf.me ≡ me) (half_is : shelf.half ≡ half trade shelf.me journal)
    (due : letters ≡ due_letters trade shelf.me shelf.half to room owed) where
  -- their frames are those that are due
  pub due_so : DueFrames → IsFor trade shelf → (r : Result (Vec Bytes Global) ProviderFault)
      → IfOk r (λ frames. frames.items ≡ filter_map (frame_of trade me journal) letters)
      → IfOk r (λ frames. frames.items ≡ due_frames trade me journal to room owed)
  due_so law homes (Err fault) are = tt
  due_so law homes (Ok frames) are =
      are ∙ subst
      (λ (n : ℕ). filter_map (frame_of trade n journal) letters ≡ due_frames trade n journal to room owed) is
      (ap (λ (all : List Letter). filter_map (frame_of trade shelf.me journal) all) due
      ∙ law trade journal shelf to room owed (record { half_is = half_is; homes = homes }))

  -- and no more than there is room for
  pub few_so : FewLetters → (r : Result (Vec Bytes Global) ProviderFault)
      → IfOk r (λ frames. length frames.items ≤ length letters) → IfOk r (λ frames. length frames.items ≤ room)
  few_so law (Err fault) few = tt
  few_so law (Ok frames) few =
      let e = ap (λ (all : List Letter). length all) due in
      let l = law trade shelf.me shelf.half to room owed in omega (arith, few, e, l)

  -- of whatever entries they are composed, they are those of the due letters
  pub given_so : (Stood : Type 0) (r : Result (Vec Bytes Global) ProviderFault)
      → IfOk r (λ frames. AreFramed Stood trade me journal letters frames.items)
      → IfOk r (λ frames. AreFramed Stood trade me journal
      (due_letters trade me (half trade me journal) to room owed) frames.items)
  given_so Stood (Err fault) are = tt
  given_so Stood (Ok frames) are =
      over_half (λ n h. AreFramed Stood trade me journal (due_letters trade n h to room owed) frames.items)
      trade shelf me journal is half_is
      (subst (λ (all : List Letter). AreFramed Stood trade me journal all frames.items) due are)

  -- a letter among them for which an entry has changed is one that is due
  pub due_changed : (r : Result (Vec Bytes Global) ProviderFault)
      → IfErr r (OnChanged (λ number. (one : Letter) × Contains letters one × IsNotOf trade me journal one number))
      → IfErr r (OnChanged (LetterIsChanged trade me journal to room owed))
  due_changed (Ok frames) changed = tt
  due_changed (Err fault) changed =
      changed_weaker (λ number. (one : Letter) × Contains letters one × IsNotOf trade me journal one number)
      (LetterIsChanged trade me journal to room owed)
      (λ number one. record {
        letter = one.0;
        due = over_half (λ n h. Contains (due_letters trade n h to room owed) one.0) trade shelf me journal is half_is
            (subst (λ (all : List Letter). Contains all one.0) due one.1);
        is = one.2;
      }) fault changed
