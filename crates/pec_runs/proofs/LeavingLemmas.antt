-- What a run leaves on its disks: the journals of the state behind its last answer, unless memory ran out in a command.
use Rattle.std.proofs.Common.{◌≡◌, ℕ, ◌<◌, ◌≤◌, ◌⊎◌, inl, inr, List, [], ◌++◌, Bool, true, false, refl, ap, sym, subst, ◌∙◌}
use Rattle.std.proofs.Common.{Option, Some, None, arith, get_or, length}
use Rattle.std.specs.Prelude.{slice_get}
use Rattle.std.specs.Option.{option_to_list}
use Rattle.std.proofs.lemmas.Bool.{cases_lt}
use Rattle.std.proofs.lemmas.List.{append-nil}
use Rattle.std.proofs.lemmas.Option.{get_or_from_slice_get, none-some, slice_get-get_or, slice_get_within}
use Rattle.pec_types.specs.Bytes.{Bytes}
use Rattle.pec_records.specs.declared.entries.Entry.{Entry}
use Rattle.pec_chronicle.specs.Chronicle.{IsJournalOf}
use Rattle.pec_ledger.specs.Network.{Site, chosen, interrupted_at, journal_at}
use Rattle.pec_ledger.specs.Trade.{Trade}
use Rattle.pec_plays.specs.Commands.{Command, Luck}
use Rattle.pec_screen.specs.Verdicts.{Patterns}
use Rattle.pec_runs.specs.Happened.{Asked, Begun, Halted, Happened, Over, Stage, by_next, outcome_at, outcome_of, stage_of}
use Rattle.pec_runs.specs.Openings.{Disks, Form, Run, Resume, IsLeft, IsSpared, IsUntouched, Next, NoMore, Holds, Unfits, Fails, Stops, form_in, next_of, opened_all}
use Rattle.pec_runs.specs.Plays.{Rest}
use Rattle.pec_runs.specs.Ran.{Behind, Counts, HasBegun, IsAt, LeavesOff, Ran, Within, command_in_hand, world}
use Rattle.pec_runs.specs.ScriptLines.{Script}
use Rattle.pec_runs.specs.Statuses.{Status}
use Rattle.pec_runs.specs.Statuses as statuses
use Rattle.pec_runs.proofs.BeginningLemmas.{journal_opened, none_interrupted}
use Rattle.pec_runs.proofs.RunLemmas.{has_begun}
use Rattle.pec_runs.proofs.StageLemmas.{has_all}

-- ---- no command in hand

abbrev Hand : Status → Next → Rest → List Luck → Script → Option Command
Hand status next rest lucks script = command_in_hand status next rest lucks script

no_hand : (status : Status) (next : Next) (rest : Rest) (lucks : List Luck) (script : Script)
    → (status ≡ statuses.NoMemory → next ≡ NoMore → ⊥) → Hand status next rest lucks script ≡ None
no_hand statuses.NoMemory NoMore rest lucks script not_both = absurd (not_both refl refl)
no_hand statuses.NoMemory Holds rest lucks script not_both = refl
no_hand statuses.NoMemory (Unfits unfit) rest lucks script not_both = refl
no_hand statuses.NoMemory Fails rest lucks script not_both = refl
no_hand statuses.NoMemory Stops rest lucks script not_both = refl
no_hand statuses.Done next rest lucks script not_both = refl
no_hand statuses.Usage next rest lucks script not_both = refl
no_hand statuses.Refused next rest lucks script not_both = refl
no_hand statuses.ReadFault next rest lucks script not_both = refl
no_hand statuses.WriteFault next rest lucks script not_both = refl
no_hand statuses.StartFault next rest lucks script not_both = refl
no_hand statuses.NotEmpty next rest lucks script not_both = refl
no_hand statuses.NotFit next rest lucks script not_both = refl
no_hand statuses.ClockFault next rest lucks script not_both = refl
no_hand statuses.DoorFault next rest lucks script not_both = refl
no_hand statuses.DiskFault next rest lucks script not_both = refl
no_hand statuses.Changed next rest lucks script not_both = refl
no_hand statuses.InputTooLong next rest lucks script not_both = refl

leaves_behind : (trade : Trade) (after left : List Site) (hand : Option Command) → hand ≡ None
    → LeavesOff trade after hand left → left ≡ after
leaves_behind trade after left hand none (Behind is) = is
leaves_behind trade after left hand none (Within command luck is journals interrupted) = absurd
    (none-some command (sym none ∙ is))

-- ---- before a script is played

not_played : (happened : Happened) (script : Script) (next : Next) → (next ≡ NoMore → ⊥)
    → (by_next (world happened) happened.screens happened.opening happened.lucks happened.rest script next).after
    ≡ opened_all (world happened) happened.screens happened.opening.journals
not_played happened script NoMore not_all = absurd (not_all refl)
not_played happened script Holds not_all = refl
not_played happened script (Unfits unfit) not_all = refl
not_played happened script Fails not_all = refl
not_played happened script Stops not_all = refl

none_chosen : (choice : Bool) (i : Option Entry) → i ≡ None → chosen choice i ≡ []
none_chosen true i e = ap option_to_list e
none_chosen false i e = refl

as_opened : (trade : Trade) (screens : List (List Patterns)) (journals : List (List Entry)) (p : ℕ) (journal : List Entry) (bytes : Bytes)
    → slice_get journals p ≡ Some journal → IsLeft (opened_all trade screens journals) p bytes → IsJournalOf journal bytes
as_opened trade screens journals p journal bytes there is =
    let sites = opened_all trade screens journals
    in subst (λ (es : List Entry). IsJournalOf es bytes)
    (ap (λ (l : List Entry). journal_at sites p ++ l) (none_chosen is.0 (interrupted_at sites p)
    (none_interrupted trade screens journals p))
    ∙ (append-nil (journal_at sites p)
    ∙ (journal_opened trade screens journals p ∙ get_or_from_slice_get journals p journal [] there)))
    is.1

-- ---- a run

module _ (asked : Asked) (status : Status) (unread before after : Option Bytes) (tells : Type 0)
    (old_disks new_disks : Disks)
    (old new : Counts) (ran : Ran asked status unread before after tells old_disks new_disks old new) (form : Form)
    (script : Script)
    (begun : stage_of asked ran.happened.hands ran.happened.early ran.happened.parts ≡ Begun form script) where
  abbrev is : HasBegun tells old_disks new_disks old new ran.happened status asked form script
  is = has_begun asked status unread before after tells old_disks new_disks old new ran form script begun

  reads_left : (p : ℕ) (bytes : Bytes) → p < next_of ran.happened.opening → (new_disks.reads p bytes)
      ⊎ (new_disks.may_leave p bytes)
      → IsLeft is.left p bytes
  reads_left p bytes l (inl reads) = is.disks.reads p l bytes reads
  reads_left p bytes l (inr image) = is.disks.crash p l bytes image

  left_is : (status ≡ statuses.NoMemory → ran.happened.opening.next ≡ NoMore → ⊥)
      → is.left ≡ (outcome_of asked ran.happened).after
  left_is not_both =
      leaves_behind (world ran.happened) (outcome_of asked ran.happened).after is.left
      (command_in_hand status ran.happened.opening.next ran.happened.rest ran.happened.lucks script)
      (no_hand status ran.happened.opening.next ran.happened.rest ran.happened.lucks script not_both) is.leaves_off

  pub leaves_journals : (status ≡ statuses.NoMemory → ran.happened.opening.next ≡ NoMore → ⊥) → (p : ℕ) (bytes : Bytes)
      → p < next_of ran.happened.opening → (new_disks.reads p bytes) ⊎ (new_disks.may_leave p bytes)
      → IsLeft (outcome_of asked ran.happened).after p bytes
  leaves_journals not_both p bytes l found =
      subst (λ (s : List Site). IsLeft s p bytes) (left_is not_both) (reads_left p bytes l found)

  after_opened : (ran.happened.opening.next ≡ NoMore → ⊥)
      → (outcome_of asked ran.happened).after ≡ opened_all (world ran.happened) ran.happened.screens ran.happened.opening.journals
  unfolding outcome_of
  after_opened not_all =
      ap (λ (stage : Stage). (outcome_at ran.happened stage).after) begun
      ∙ not_played ran.happened script ran.happened.opening.next not_all

  pub leaves_opened : (ran.happened.opening.next ≡ NoMore → ⊥) → (p : ℕ) (journal : List Entry) (bytes : Bytes)
      → slice_get ran.happened.opening.journals p ≡ Some journal → (new_disks.reads p bytes)
      ⊎ (new_disks.may_leave p bytes)
      → IsJournalOf journal bytes
  leaves_opened not_all p journal bytes there found =
      as_opened (world ran.happened) ran.happened.screens ran.happened.opening.journals p journal bytes there
      (subst (λ (s : List Site). IsLeft s p bytes) (after_opened not_all)
      (leaves_journals (λ e f. not_all f) p bytes (slice_get_within ran.happened.opening.journals p journal there)
      found))

-- ---- a disk that held a byte

module _ (asked : Asked) (status : Status) (unread before after : Option Bytes) (tells : Type 0)
    (old_disks new_disks : Disks)
    (old new : Counts) (ran : Ran asked status unread before after tells old_disks new_disks old new) (p : ℕ) (was : Bytes)
    (held : old_disks.reads p was) (some : 0 < length was) where
  spared : (next : Next) → IsSpared Run next was
  spared NoMore = tt
  spared Holds = tt
  spared (Unfits unfit) = tt
  spared Fails = some
  spared Stops = some

  -- no journal is made on it
  unmade : (script : Script) → HasBegun tells old_disks new_disks old new ran.happened status asked Run script
      → p < next_of ran.happened.opening → ⊥
  unmade script begun within =
      let none : was ≡ [] = (begun.opening.each p (get_or ran.happened.opening.journals p [])
      (slice_get-get_or ran.happened.opening.journals p [] within)).1 was held
      in let size : length was ≡ 0 = ap (λ (bytes : Bytes). length bytes) none
      in omega (arith, size, some)

  behind_made : (script : Script) → HasBegun tells old_disks new_disks old new ran.happened status asked Run script
      → next_of ran.happened.opening ≤ p → IsUntouched old_disks new_disks p was
  behind_made script begun past = elim (cases_lt (next_of ran.happened.opening) p) [
    | inl behind ↦ begun.disks.others p behind was held
    | inr here ↦
        let same : next_of ran.happened.opening ≡ p = omega (arith, here, past)
        in subst (λ (k : ℕ). IsUntouched old_disks new_disks k was) same
        (begun.disks.next was (subst (λ (k : ℕ). old_disks.reads k was) (sym same) held) (spared ran.happened.opening.next))
  ]

  -- no form but `resume` goes on with journals that are there
  pub survives : (form_in asked.words ≡ Some Resume → ⊥) → IsUntouched old_disks new_disks p was
  survives apart = at (stage_of asked ran.happened.hands ran.happened.early ran.happened.parts) refl ran.is_at
    where
      at : (stage : Stage) → stage_of asked ran.happened.hands ran.happened.early ran.happened.parts ≡ stage
          → IsAt tells old_disks new_disks old new ran.happened status asked stage → IsUntouched old_disks new_disks p was
      at (Over end) e untouched = untouched p was held
      at Halted e untouched = untouched p was held
      at (Begun Resume script) e begun =
          absurd (apart (has_all asked ran.happened.hands ran.happened.early ran.happened.parts Resume script e).words_are)
      at (Begun Run script) e begun = elim (cases_lt p (next_of ran.happened.opening)) [
        | inl within ↦ absurd (unmade script begun within)
        | inr past ↦ behind_made script begun past
      ]
