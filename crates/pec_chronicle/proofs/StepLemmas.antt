-- What each call of a chronicle leaves: lemmas for the clauses that say how it carries on.
use Rattle.std.proofs.Common.{◌≡◌, ⊎_elim, ℕ, ◌≤◌, Bool, true, false, List, [], ◌∷◌, ◌++◌, ◌∙◌, refl, sym, ap, subst}
use Rattle.std.specs.Prelude.{Option, None, Some, map}
use Rattle.std.specs.List.{All}
use Rattle.std.proofs.lemmas.List.{append-nil, map-append}
use Rattle.std.proofs.lemmas.List.Elements.{All-push}
use Rattle.pec_outside.specs.DiskModel.{Sight, Only, Elapses, LeavesOnly, Stays}
use Rattle.pec_outside.specs.Moments.{started, goes_on, weaker}
use Rattle.pec_journal.specs.JournalFile.{IsFile, IsBeforeOrAfter}
use Rattle.pec_journal.specs.JournalState.{Keeps}
use Rattle.pec_types.specs.Bytes.{Bytes}
use Rattle.pec_records.specs.declared.entries.Entry.{Entry}
use Rattle.pec_records.specs.Entry.{entry_text, CanBeWritten}
use Rattle.pec_ledger.specs.Network.{chosen}
use Rattle.pec_chronicle.specs.Chronicle.{ChronicleState, IsJournalOf, Stands, down_over, past_of}
use Rattle.pec_chronicle.specs.Carrying.{CarriesOn, Following, GoesOn, IsImage, ThisMay, with_entry}
use Rattle.pec_chronicle.specs.CarryingLaws.{carries_same, goes_nowhere, image_of}

-- ---- lists

chosen_none : (choice : Bool) → chosen choice None ≡ []
chosen_none false = refl
chosen_none true = refl

-- no interrupted entry is chosen from none
pub none_chosen : (list : List Entry) (choice : Bool) (interrupted : Option Entry) → interrupted ≡ None → list ++ chosen choice interrupted ≡ list
none_chosen list choice interrupted none =
    ap (λ (i : Option Entry). list ++ chosen choice i) none ∙ ap (λ (l : List Entry). list ++ l) (chosen_none choice) ∙ append-nil list

-- the list goes on by one entry
goes_once : (old : List Entry) (interrupted : Option Entry) (entry : Entry) → GoesOn (ThisMay old entry) old interrupted (with_entry old entry)
goes_once old interrupted entry = record { choice = false; further = entry ∷ []; is = refl; follow = ((append-nil old, refl), tt) }

-- ---- files

texts_push : (entries : List Entry) (entry : Entry) → map entry_text (with_entry entries entry) ≡ map entry_text entries ++ entry_text entry ∷ []
texts_push entries entry = map-append entry_text entries (entry ∷ [])

journal_before : (entries : List Entry) (bytes : Bytes) → All CanBeWritten entries → IsFile (map entry_text entries) bytes → IsJournalOf (entries ++ []) bytes
journal_before entries bytes written file =
    subst (λ (l : List Entry). IsJournalOf l bytes) (sym (append-nil entries)) (record { file = file; written = written })

journal_after : (entries : List Entry) (entry : Entry) (bytes : Bytes) → All CanBeWritten entries → CanBeWritten entry
    → IsFile (map entry_text entries ++ entry_text entry ∷ []) bytes → IsJournalOf (with_entry entries entry) bytes
journal_after entries entry bytes written can file = record {
  file = subst (λ (texts : List Bytes). IsFile texts bytes) (sym (texts_push entries entry)) file;
  written = All-push CanBeWritten entries entry written can;
}

-- what a disk keeps it keeps where nothing is written
pub keeps_still : (old new : Sight) → new.seen ≡ old.seen → ((image : Bytes) → new.may_leave image → old.may_leave image)
    → (texts : List Bytes) (place : ℕ) → Keeps old texts place
    → Keeps new texts place
keeps_still old new seen crash texts place keeps = record {
  file = subst (λ (bytes : Bytes). IsFile texts bytes) (sym seen) keeps.file;
  durable = λ image now. keeps.durable image (crash image now) ∙ sym seen;
  ends = keeps.ends;
}

-- ---- calls

module _ {D : Type 0} (sight : D → Sight) where
  module _ (old new : ChronicleState D) (entry : Entry) (all : All CanBeWritten old.entries) (can : CanBeWritten entry)
      (leaves : (texts : List Bytes) → Keeps (sight old.disk) texts old.end
      → LeavesOnly (sight old.disk) (sight new.disk) (IsBeforeOrAfter texts (entry_text entry))) where
    -- a crash during an append leaves the entries, or these and the new one
    append_images : Keeps (sight old.disk) (map entry_text old.entries) old.end
        → LeavesOnly (sight old.disk) (sight new.disk) (IsImage (ThisMay old.entries entry) old.entries old.interrupted)
    append_images keeps =
        let May = ThisMay old.entries entry in
        weaker (sight old.disk) (sight new.disk) (IsBeforeOrAfter (map entry_text old.entries) (entry_text entry)) (IsImage May old.entries old.interrupted)
        (leaves (map entry_text old.entries) keeps)
        (λ image. ⊎_elim
        (λ file. image_of May old.entries old.interrupted image (false, journal_before old.entries image all file))
        (λ file. (with_entry old.entries entry, goes_once old.entries old.interrupted entry, journal_after old.entries entry image all can file)))

    pub carries_appended : old.down ≡ false → new.entries ≡ with_entry old.entries entry → new.interrupted ≡ None
        → ((texts : List Bytes) → Keeps (sight old.disk) texts old.end → Keeps (sight new.disk) (texts ++ entry_text entry ∷ []) new.end)
        → CarriesOn sight (ThisMay old.entries entry) old new
    carries_appended up entries none keeps =
        let listed : (choice : Bool) → new.entries ++ chosen choice new.interrupted ≡ with_entry old.entries entry =
        λ choice. none_chosen new.entries choice new.interrupted none ∙ entries in
        record {
          list = λ stands choice. subst (λ (l : List Entry). GoesOn (ThisMay old.entries entry) old.entries old.interrupted l)
              (sym (listed choice)) (goes_once old.entries old.interrupted entry);
          stands = λ stands.
              let now = keeps (map entry_text old.entries) (stands.up up) in
              record {
                up = λ _. subst (λ (texts : List Bytes). Keeps (sight new.disk) texts new.end)
                    (sym (texts_push old.entries entry) ∙ ap (λ (l : List Entry). map entry_text l) (sym entries)) now;
                images = λ image left. (
                  false,
                  subst (λ (l : List Entry). IsJournalOf l image) (sym (listed false))
                      (subst (λ (bytes : Bytes). IsJournalOf (with_entry old.entries entry) bytes) (sym (now.durable image left))
                      (journal_after old.entries entry (sight new.disk).seen all can now.file)),
                );
              };
          images = λ stands. append_images (stands.up up);
        }

    pub carries_interrupted : old.down ≡ false → new.entries ≡ old.entries → new.interrupted ≡ Some entry → new.down ≡ true
        → ((t : ℕ) (image : Bytes) → t ≤ (sight new.disk).moment → (sight new.disk).may_leave image → (sight new.disk).left_since t image)
        → CarriesOn sight (ThisMay old.entries entry) old new
    carries_interrupted up entries some down counts = record {
      list = λ stands choice. subst (λ (l : List Entry). GoesOn (ThisMay old.entries entry) old.entries old.interrupted l)
          (sym (listed choice)) (goes choice);
      stands = λ stands.
          let left = leaves (map entry_text old.entries) (stands.up up) in
          record {
            up = λ isnt. absurd (differ (sym down ∙ isnt));
            images = λ image now. ⊎_elim
                (λ file. (false, subst (λ (l : List Entry). IsJournalOf l image) (sym (listed false)) (journal_before old.entries image all file)))
                (λ file. (true, subst (λ (l : List Entry). IsJournalOf l image) (sym (listed true)) (journal_after old.entries entry image all can file)))
                (left.each image (counts (sight old.disk).moment image left.later now));
          };
      images = λ stands. append_images (stands.up up);
    }
      where
        listed : (choice : Bool) → new.entries ++ chosen choice new.interrupted ≡ old.entries ++ chosen choice (Some entry)
        listed choice = ap (λ (l : List Entry). l ++ chosen choice new.interrupted) entries ∙ ap (λ (i : Option Entry). old.entries ++ chosen choice i) some

        goes : (choice : Bool) → GoesOn (ThisMay old.entries entry) old.entries old.interrupted (old.entries ++ chosen choice (Some entry))
        goes false = record { choice = false; further = []; is = refl; follow = tt }
        goes true = goes_once old.entries old.interrupted entry

        differ : true ≡ false → ⊥
        differ same = cc

  -- nothing has changed but the room
  pub carries_still : (May : Following) (old : ChronicleState D) (entries : List Entry) (interrupted : Option Entry) (down : Bool) (disk : D)
      (place spare : ℕ) → entries ≡ old.entries → interrupted ≡ old.interrupted → down ≡ old.down → disk ≡ old.disk → place ≡ old.end
      → ((image : Bytes) → (sight old.disk).left_since (sight old.disk).moment image → (sight old.disk).may_leave image)
      → CarriesOn sight May old
      (record { entries = entries; interrupted = interrupted; down = down; disk = disk; end = place; spare = spare })
  carries_still May old entries interrupted down disk place spare e1 e2 e3 e4 e5 only =
      rw (e1, e2, e3, e4, e5) (carries_same sight May old spare only)

  -- calls that write nothing, behind which it is no more up than before
  pub carries_rested : (May : Following) (old : ChronicleState D) (entries : List Entry) (interrupted : Option Entry) (down : Bool) (disk : D)
      (place spare : ℕ) → entries ≡ old.entries → interrupted ≡ old.interrupted → place ≡ old.end → (down ≡ false → old.down ≡ false)
      → Stays (sight old.disk) (sight disk)
      → CarriesOn sight May old
      (record { entries = entries; interrupted = interrupted; down = down; disk = disk; end = place; spare = spare })
  carries_rested May old entries interrupted down disk place spare e1 e2 e3 was stays = rw (e1, e2, e3) (record {
    list = λ stands choice. goes_nowhere May old.entries old.interrupted choice;
    stands = λ stands. record {
      up = λ up. keeps_still (sight old.disk) (sight disk) stays.seen stays.crash (map entry_text old.entries) old.end (stands.up (was up));
      images = λ image now. stands.images image (stays.crash image now);
    };
    images = λ stands. weaker (sight old.disk) (sight disk) (sight old.disk).may_leave (IsImage May old.entries old.interrupted) stays.moments
        (λ image now. image_of May old.entries old.interrupted image (stands.images image now));
  })

  -- calls that write nothing, behind which it is down
  pub carries_down : (May : Following) (old : ChronicleState D) (disk : D) → Stays (sight old.disk) (sight disk)
      → CarriesOn sight May old (down_over (past_of old) disk)
  carries_down May old disk stays = record {
    list = λ stands choice. goes_nowhere May old.entries old.interrupted choice;
    stands = λ stands. record { up = λ isnt. cc; images = λ image now. stands.images image (stays.crash image now) };
    images = λ stands. weaker (sight old.disk) (sight disk) (sight old.disk).may_leave (IsImage May old.entries old.interrupted) stays.moments
        (λ image now. image_of May old.entries old.interrupted image (stands.images image now));
  }

  -- a crash, behind which it is down
  pub carries_crash : (May : Following) (old : ChronicleState D) (disk : D) → (sight old.disk).may_leave (sight disk).seen
      → Only (sight disk).seen (sight disk).may_leave → Elapses (sight old.disk) (sight disk)
      → ((image : Bytes) → (sight old.disk).left_since (sight old.disk).moment image → (sight old.disk).may_leave image)
      → CarriesOn sight May old (down_over (past_of old) disk)
  carries_crash May old disk left durable time only = record {
    list = λ stands choice. goes_nowhere May old.entries old.interrupted choice;
    stands = λ stands. record { up = λ isnt. cc; images = λ image now. stands.images image (was image now) };
    images = λ stands.
        goes_on (sight old.disk) (sight old.disk) (sight disk) (IsImage May old.entries old.interrupted)
        (started (sight old.disk) (IsImage May old.entries old.interrupted)
        (λ image before. image_of May old.entries old.interrupted image (stands.images image (only image before))))
        time
        (λ image now. image_of May old.entries old.interrupted image (stands.images image (was image now)));
  }
    where
      was : (image : Bytes) → (sight disk).may_leave image → (sight old.disk).may_leave image
      was image now = subst (λ (bytes : Bytes). (sight old.disk).may_leave bytes) (sym (durable image now)) left

  -- a restart, which finds the interrupted entry or doesn't
  pub carries_found : (May : Following) (old new : ChronicleState D) → new.interrupted ≡ None → Stays (sight old.disk) (sight new.disk)
      → (Stands sight old → (choice : Bool) × (new.entries ≡ old.entries ++ chosen choice old.interrupted))
      → (Stands sight old → Stands sight new)
      → CarriesOn sight May old new
  carries_found May old new none stays found again = record {
    list = λ stands choice.
        let there = found stands in
        subst (λ (l : List Entry). GoesOn May old.entries old.interrupted l)
        (sym (none_chosen new.entries choice new.interrupted none ∙ there.1)) (goes_nowhere May old.entries old.interrupted there.0);
    stands = again;
    images = λ stands. weaker (sight old.disk) (sight new.disk) (sight old.disk).may_leave (IsImage May old.entries old.interrupted) stays.moments
        (λ image now. image_of May old.entries old.interrupted image (stands.images image now));
  }
