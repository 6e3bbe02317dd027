-- Another screen in the place of one: it is put there, or refused.
use Rattle.std.proofs.Common.{◌≡◌, ◌⊎◌, ℕ, false, inl, inr, subst, List, [], ◌∷◌, ◌++◌, length, refl, ap, sym, ◌∙◌, Global, Vec, Option, None, Some}
use Rattle.std.proofs.Common.{Result, Ok, Err}
use Rattle.std.specs.Prelude.{IsErr, OnErr, OnOk, slice_index_or, slice_set}
use Rattle.pec_outside.specs.DiskModel.{Sight}
use Rattle.pec_types.specs.Bytes.{Bytes}
use Rattle.pec_types.specs.declared.faults.NoMemory.{NoMemory}
use Rattle.pec_types.specs.declared.turns.ProviderFault.TheVariants as faults
use Rattle.pec_directory.specs.Directory.{Provider, providers_of}
use Rattle.pec_ledger.specs.Network.{Site}
use Rattle.pec_ledger.specs.Trade.{Trade}
use Rattle.pec_plays.specs.Commands.{Answer, Luck, NoScreen, NoSpare, Played, Refuses, Screen, Screened, answers, played}
use Rattle.pec_screen.specs.Verdicts.{Patterns}
use Rattle.pec_network.specs.Carrying.{AllStand}
use Rattle.pec_network.specs.Network.{NetworkState, sites}
use Rattle.pec_network.specs.OfProviders.{SwapFault, luck_of}
use Rattle.pec_network.specs.OfProviders.swaps as swaps
use Rattle.pec_network.specs.Playing.{IsSwapped}
use Rattle.pec_script.specs.Texts as texts
use Rattle.pec_script.specs.declared.answers.Answer.TheVariants as lines
use Rattle.pec_runs.specs.AnswerLines.{answer_text}
use Rattle.pec_runs.specs.Plays.{HasMemory, faults_by, spares_left}
use Rattle.pec_runs.specs.Ran.{LeavesOff, Behind}
use Rattle.pec_playing.specs.Doing.{Does}
use Rattle.pec_playing.specs.Looking.{IsReplaced}
use Rattle.pec_playing.specs.Playing.{IsPlayedSo, counts_in}
use Rattle.pec_playing.specs.Saying.{IsSwapText}
use Rattle.pec_playing.specs.Spares.{LeavesSpares}
use Rattle.pec_playing.proofs.AskLemmas.{IsTold, ask_says, ask_stops, refusal_line}
use Rattle.pec_playing.proofs.ChangeLemmas.{screen_unchanged}
use Rattle.pec_playing.proofs.CountLemmas.{counts_stay}
use Rattle.pec_playing.proofs.KeptLemmas.{keeps_screens}
use Rattle.pec_playing.proofs.PlayLemmas.{IsFree, does_say, does_stop, left_so, none_read, played_so}
use Rattle.pec_playing.proofs.SpareLemmas.{others_are}

pub screen_free : (trade : Trade) (provider place : ℕ) (spare : Option Patterns) → IsFree trade (Screen provider place spare)
screen_free trade provider place spare = record {
  meets = λ luck state. tt;
  blames = λ provider answer. refl;
  unchanged = λ luck state. screen_unchanged trade luck state provider place spare;
}

-- ---- where none is left

none_played : (trade : Trade) (luck : Luck) (state : List Site) (provider place : ℕ)
    → played trade luck state (Screen provider place None) ≡ answers state NoSpare
unfolding played
none_played trade luck state provider place = refl

no_spare_told : IsTold NoSpare (λ providers. texts.answer_text lines.NoSpare)
unfolding answer_text
no_spare_told = record { memory = tt; no_fault = λ provider asked. refl; text = λ providers. refl }

module _ {D S : Type 0} (sight : D → Sight) (count : D → ℕ) (tells : Type 0) (trade : Trade) (provider place : ℕ)
    (network : NetworkState D S) where
  pub none_says : (text : Vec ℕ Global) → text.items ≡ texts.answer_text lines.NoSpare
      → Does sight count tells trade (Screen provider place None) network network (Ok text)
  none_says text written =
      ask_says sight count tells trade (Screen provider place None) network (screen_free trade provider place None)
      (λ (done : Unit {0}). NoSpare) tt (λ providers. texts.answer_text lines.NoSpare) no_spare_told
      (none_played trade (luck_of false) (sites network) provider place) text written

  pub none_stops : (result : Result (Vec ℕ Global) NoMemory) → IsErr result
      → Does sight count tells trade (Screen provider place None) network network result
  none_stops result failed =
      ask_stops sight count tells trade (Screen provider place None) network (screen_free trade provider place None)
      (λ (done : Unit {0}). NoSpare) result failed

-- and none is taken
pub none_taken : (trade : Trade) (spares : List Patterns) (state : List Site) (provider place : ℕ)
    → LeavesSpares trade spares state (Screen provider place None) spares
none_taken trade spares state provider place luck =
    ap (λ (p : Played). spares_left spares (Screen provider place None) p.answer)
    (sym (none_played trade luck state provider place))

-- ---- where one is put

-- an answer with the line that is written of it
pub record IsWrittenSo (answer : Answer) (line : Bytes) : Type 0 where
  pub memory : HasMemory answer
  pub text : (providers : List Provider) → answer_text providers answer ≡ line

screened_line : IsWrittenSo Screened (texts.answer_text lines.Screened)
unfolding answer_text
screened_line = record { memory = tt; text = λ providers. refl }

no_screen_line : IsWrittenSo NoScreen (texts.answer_text lines.NoScreen)
unfolding answer_text
no_screen_line = record { memory = tt; text = λ providers. refl }

down_line : IsWrittenSo (Refuses faults.Down) (texts.fault_text faults.Down)
down_line = record { memory = tt; text = λ providers. refusal_line providers faults.Down }

module _ {D S X : Type 0} (sight : D → Sight) (count : D → ℕ) (tells : Type 0) (trade : Trade) (provider place : ℕ)
    (patterns : Patterns) (old new : NetworkState D S)
    (same : new ≡ record old { screens = new.screens; looks = new.looks })
    (outcome : Result (Unit {0}) (X × SwapFault))
    (plays : (t : Trade) (luck : Luck)
    → IsSwapped (played t luck (sites old) (Screen provider place (Some patterns))) (sites old) (sites new) outcome) where
  abbrev Done : Result (Vec ℕ Global) NoMemory → Type 0
  Done result = Does sight count tells trade (Screen provider place (Some patterns)) old new result

  abbrev Comes : Bytes → Type 0
  Comes text =
      (elsewhere : ℕ → ℕ) → IsPlayedSo (tells × AllStand sight old.providers) trade (providers_of old.kept) (sites old)
      (counts_in count old.providers elsewhere) (counts_in count new.providers elsewhere)
      (Screen provider place (Some patterns)) text (sites new)

  comes : (answer : Answer) (line : Bytes) → IsWrittenSo answer line → (text : Bytes)
      → played trade (luck_of false) (sites old) (Screen provider place (Some patterns))
      ≡ record { answer = answer; after = sites new }
      → text ≡ line → Comes text
  comes answer line of text is written elsewhere =
      played_so (tells × AllStand sight old.providers) trade (sites old) (Screen provider place (Some patterns))
      (providers_of old.kept) (counts_in count old.providers elsewhere) (counts_in count new.providers elsewhere)
      (luck_of false) answer (sites new) text is tt of.memory
      (λ number. counts_stay count old.providers new.providers
      (ap (λ (n : NetworkState D S). length n.providers) same) elsewhere
      (keeps_screens sight count tells old new same).later number
      (faults_by trade number (Screen provider place (Some patterns)) answer) refl)
      (none_read (tells × AllStand sight old.providers) trade (sites old) (Screen provider place (Some patterns)) false
      (screen_unchanged trade (luck_of false) (sites old) provider place (Some patterns)))
      (written ∙ sym (of.text (providers_of old.kept)))

  unchanged : (answer : Answer)
      → played trade (luck_of false) (sites old) (Screen provider place (Some patterns)) ≡ answers (sites old) answer
      → sites new ≡ sites old
      → played trade (luck_of false) (sites old) (Screen provider place (Some patterns))
      ≡ record { answer = answer; after = sites new }
  unchanged answer is stays =
      is ∙ ap (λ (s : List Site). (let p : Played = record { answer = answer; after = s } in p)) (sym stays)

  abbrev Swapped : Result (Unit {0}) (X × SwapFault) → Type 0
  Swapped result =
      IsSwapped (played trade (luck_of false) (sites old) (Screen provider place (Some patterns))) (sites old) (sites new)
      result

  put_comes : (x : Unit {0}) → Swapped (Ok x) → (text : Bytes) → text ≡ texts.answer_text lines.Screened → Comes text
  put_comes x is text written = comes Screened (texts.answer_text lines.Screened) screened_line text is written

  refused_comes : (spare : X) (fault : SwapFault) → Swapped (Err (spare, fault)) → (text : Bytes)
      → IsSwapText fault text → Comes text
  refused_comes spare swaps.Down is text written =
      comes (Refuses faults.Down) (texts.fault_text faults.Down) down_line text
      (unchanged (Refuses faults.Down) is.0 is.1) written
  refused_comes spare swaps.NoSuchPlace is text written =
      comes NoScreen (texts.answer_text lines.NoScreen) no_screen_line text (unchanged NoScreen is.0 is.1) written

  pub put_says : (x : Unit {0}) → outcome ≡ Ok x → (text : Vec ℕ Global)
      → text.items ≡ texts.answer_text lines.Screened → Done (Ok text)
  put_says x is text written =
      does_say sight count tells trade (Screen provider place (Some patterns)) old new
      (keeps_screens sight count tells old new same) text
      (put_comes x (subst Swapped is (plays trade (luck_of false))) text.items written)

  pub refused_says : (spare : X) (fault : SwapFault) → outcome ≡ Err (spare, fault) → (text : Vec ℕ Global)
      → IsSwapText fault text.items → Done (Ok text)
  refused_says spare fault is text written =
      does_say sight count tells trade (Screen provider place (Some patterns)) old new
      (keeps_screens sight count tells old new same) text
      (refused_comes spare fault (subst Swapped is (plays trade (luck_of false))) text.items written)

  left_by : (result : Result (Unit {0}) (X × SwapFault)) → Swapped result
      → LeavesOff trade (sites old) (Some (Screen provider place (Some patterns))) (sites new)
  left_by (Ok x) is =
      left_so trade (sites old) (Screen provider place (Some patterns)) (luck_of false) Screened (sites new) is
  left_by (Err (spare, swaps.Down)) is = Behind is.1
  left_by (Err (spare, swaps.NoSuchPlace)) is = Behind is.1

  pub put_stops : (result : Result (Vec ℕ Global) NoMemory) → IsErr result → Done result
  put_stops result failed =
      does_stop sight count tells trade (Screen provider place (Some patterns)) old new
      (keeps_screens sight count tells old new same) result failed (left_by outcome (plays trade (luck_of false)))

  -- ---- spares

  -- the spare that was put is gone
  pub put_leaves : (x : Unit {0}) → outcome ≡ Ok x → (front : List Patterns)
      → LeavesSpares trade (front ++ patterns ∷ []) (sites old) (Screen provider place (Some patterns)) front
  put_leaves x is front luck =
      sym (others_are front patterns)
      ∙ ap (λ (p : Played). spares_left (front ++ patterns ∷ []) (Screen provider place (Some patterns)) p.answer)
      (sym (put_so x (subst (λ (r : Result (Unit {0}) (X × SwapFault)).
      IsSwapped (played trade luck (sites old) (Screen provider place (Some patterns))) (sites old) (sites new) r) is
      (plays trade luck))))
    where
      put_so : (x : Unit {0})
          → IsSwapped {X = X} (played trade luck (sites old) (Screen provider place (Some patterns))) (sites old)
          (sites new) (Ok x)
          → played trade luck (sites old) (Screen provider place (Some patterns))
          ≡ record { answer = Screened; after = sites new }
      put_so x so = so

  refused_by : (luck : Luck) (spares : List Patterns) (spare : X) (fault : SwapFault)
      → IsSwapped (played trade luck (sites old) (Screen provider place (Some patterns))) (sites old) (sites new)
      (Err (spare, fault))
      → spares ≡ spares_left spares (Screen provider place (Some patterns))
      (played trade luck (sites old) (Screen provider place (Some patterns))).answer
  refused_by luck spares spare swaps.Down is =
      ap (λ (p : Played). spares_left spares (Screen provider place (Some patterns)) p.answer) (sym is.0)
  refused_by luck spares spare swaps.NoSuchPlace is =
      ap (λ (p : Played). spares_left spares (Screen provider place (Some patterns)) p.answer) (sym is.0)

  -- one that was refused is there again
  pub refused_leaves : (spare : X) (fault : SwapFault) → outcome ≡ Err (spare, fault) → (spares : List Patterns)
      → LeavesSpares trade spares (sites old) (Screen provider place (Some patterns)) spares
  refused_leaves spare fault is spares luck =
      refused_by luck spares spare fault
      (subst (λ (r : Result (Unit {0}) (X × SwapFault)).
      IsSwapped (played trade luck (sites old) (Screen provider place (Some patterns))) (sites old) (sites new) r) is
      (plays trade luck))

-- ---- looks

pub swap_looks : {X E : Type 0} (provider place seen : ℕ) (before after : List (List ℕ)) (outcome : Result X E)
    → OnOk outcome (after ≡ slice_set before provider (slice_set (slice_index_or before provider []) place seen))
    → OnErr outcome (after ≡ before) → (after ≡ before) ⊎ IsReplaced provider place before after
swap_looks provider place seen before after (Ok x) put kept = inr (record { seen = seen; is = put })
swap_looks provider place seen before after (Err e) put kept = inl kept

-- where it was refused all is as it was
pub kept_looks : {D S X E : Type 0} (old new : NetworkState D S) (outcome : Result X E) → OnErr outcome (new ≡ old)
    → OnErr outcome (new.looks ≡ old.looks)
kept_looks old new (Ok x) kept = tt
kept_looks {D} {S} old new (Err e) kept = ap (λ (n : NetworkState D S). n.looks) kept
