-- The premises are met: rounds are computed, and the network is Sound by the laws.
use Rattle.std.proofs.Common.{◌≡◌, ℕ, zero, suc, ◌+◌, ◌<◌, ◌≤◌, length, [], ◌∷◌, true, refl, arith}
use Rattle.std.specs.Prelude.{IsSome}
use Rattle.std.proofs.lemmas.Bool.{leb-true}
use Rattle.pec_types.specs.Bytes.{Bytes, Path}
use Rattle.pec_types.specs.LimitsReading.{due_of}
use Rattle.pec_records.specs.Entry.{number_16, number_32, number_64}
use Rattle.pec_ledger.specs.Boxes.{boxes_of}
use Rattle.pec_ledger.specs.Due.{due_letters}
use Rattle.pec_ledger.specs.Ledger.{ledger}
use Rattle.pec_ledger.specs.Network.{at_start, frames_between, is_up, journal_at}
use Rattle.pec_ledger.specs.Own.{decision_at}
use Rattle.pec_ledger.specs.SmallWorld.{small}
use Rattle.pec_ledger.specs.Steps.{half, size_of, step}
use Rattle.pec_ledger.specs.TradeLaws.{LettersCanBePut}
use Rattle.pec_plays.specs.Commands.{played}
use Rattle.pec_screen.specs.VerdictReading.{finds, rule_in}
use Rattle.pec_plays.specs.Decisions.{decide, decision_on, found_in_taken, undecided}
use Rattle.pec_ledger.specs.Examples.{bob}
use Rattle.pec_ledger.specs.Lookups.{addresses_of, at_home}
use Rattle.pec_plays.specs.Examples.{calmly, no_screens, writes_to}
use Rattle.pec_plays.specs.Frames.{due_frames, frame_of}
use Rattle.pec_plays.specs.Reception.{arrive}
use Rattle.pec_plays.specs.Rounds.{rounded, turns_of}
use Rattle.pec_plays.specs.Scripts.{AllUnforged}
use Rattle.pec_plays.specs.Steps.{has_no_room}
use Rattle.pec_plays.specs.Turns.{last_of, turned}
use Rattle.pec_progress.specs.Examples.{first_moment, submitted}
use Rattle.pec_progress.specs.Progress.{FewAreUnsettled, StandsReady, most_open, unsettled}
use Rattle.pec_progress.proofs.examples.the_premises_are_met.Goals as goal

both_of : (P : ℕ → Type 0) → P 0 → P 1 → (k : ℕ) → k < 2 → P k
both_of P a b zero l = a
both_of P a b (suc zero) l = b
both_of P a b (suc (suc k)) l = absurd (omega arith)

-- no frame is forged, since none is put in the place of a due one
may_come : AllUnforged small (calmly (writes_to bob ∷ [])) (at_start small no_screens) (writes_to bob ∷ [])
may_come = ((omega arith, omega arith, omega arith), tt)

-- a frame of this world needs a path with an address
some_path : (path : Path) (text : Bytes) → 0 < length path → IsSome (small.framed path text)
some_path [] text l = absurd (omega arith)
some_path (address ∷ path) text l = refl

letters_put : LettersCanBePut small
letters_put = record {
  envelopes = λ id moment original sent time to some. some_path (at_home small to (addresses_of sent.facts)) (small.envelope_text id moment original) some;
  to_senders = λ receipt original can. refl;
  to_providers = λ receipt original can provider l. refl;
}

empty_links : (from to : ℕ) → frames_between submitted from to ≡ []
unfolding due_of boxes_of number_16 number_32 number_64 due_letters at_start decision_at half size_of step played decide undecided due_frames frame_of arrive rounded turns_of has_no_room turned finds rule_in decision_on found_in_taken
empty_links zero zero = refl
empty_links (suc zero) zero = refl
empty_links (suc (suc from)) zero = refl
empty_links zero (suc zero) = refl
empty_links (suc zero) (suc zero) = refl
empty_links (suc (suc from)) (suc zero) = refl
empty_links from (suc (suc to)) = refl

few_pairs : FewAreUnsettled small submitted
unfolding due_of boxes_of number_16 number_32 number_64 due_letters at_start decision_at half size_of step played decide undecided due_frames frame_of arrive rounded turns_of has_no_room turned finds rule_in decision_on found_in_taken ledger
few_pairs = λ one other l k.
    let Few : ℕ → ℕ → Type 0 = λ one other. length (unsettled small submitted one other) + length (unsettled small submitted other one) ≤ most_open
    in both_of (λ p. Few p other) (both_of (Few 0) (leb-true _ _ refl) (leb-true _ _ refl) other k) (both_of (Few 1) (leb-true _ _ refl) (leb-true _ _ refl) other k) one l

all_ready : StandsReady small first_moment submitted
unfolding due_of boxes_of number_16 number_32 number_64 due_letters at_start decision_at half size_of step played decide undecided due_frames frame_of arrive rounded turns_of has_no_room turned finds rule_in decision_on found_in_taken
all_ready = record {
  count = refl;
  up = both_of (λ k. is_up submitted k ≡ true) refl refl;
  in_time = both_of (λ k. last_of small k (journal_at submitted k) ≤ first_moment) (leb-true _ _ refl) (leb-true _ _ refl);
}

pub returns : goal.returns
unfolding due_of boxes_of number_16 number_32 number_64 due_letters at_start decision_at half size_of step played decide undecided due_frames frame_of arrive rounded turns_of has_no_room turned finds rule_in decision_on found_in_taken ledger
returns c = record {
  sound = c.a_network_stays_sound.ensures.ends small c.a_world_is_there.ensures (calmly (writes_to bob ∷ [])) (at_start small no_screens) (writes_to bob ∷ [])
      (c.soundness.ensures.start small no_screens) may_come;
  accepted = record { message = _; accepted = refl; has = ((0, omega arith, refl), refl) };
  empty = empty_links;
  few = few_pairs;
  ready = all_ready;
  follow = (omega arith, omega arith, λ p l. refl, (omega arith, omega arith, λ p l. refl, (omega arith, omega arith, λ p l. refl, (omega arith, omega arith, λ p l. refl, tt))));
  letters = letters_put;
  one_pair = refl;
  there = refl;
  back = refl;
  at_rest = refl;
}
