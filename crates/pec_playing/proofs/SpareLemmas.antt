-- The spare that a command is handed, and those that are left behind it.
use Rattle.std.proofs.Common.{◌≡◌, ℕ, ◌-◌, List, [], ◌∷◌, ◌++◌, length, map, refl, ap, ◌∙◌, arith, None, Some}
use Rattle.std.proofs.Common.{Result, Ok, Err}
use Rattle.std.specs.Prelude.{IfOk, slice_get, take}
use Rattle.std.proofs.lemmas.List.{append-nil, length-append}
use Rattle.pec_ledger.specs.Network.{Site}
use Rattle.pec_ledger.specs.Trade.{Trade}
use Rattle.pec_plays.specs.Scripts.{HandsIn}
use Rattle.pec_screen.specs.Verdicts.{Patterns}
use Rattle.pec_script.specs.declared.commands.Command.{Command as Written}
use Rattle.pec_script.specs.declared.commands.Command.TheVariants as written
use Rattle.pec_runs.specs.ScriptLines.{command_in}
use Rattle.pec_playing.specs.Spares.{LeavesSpares, NeedsNoSpare, last_spare}

-- a command that asks for a spare is handed the last one
pub last_hands : (spares : List Patterns) (command : Written) → HandsIn spares (command_in (last_spare spares) command)
last_hands spares (written.Submit provider moment sender path message) = tt
last_hands spares (written.Tick provider moment) = tt
last_hands spares (written.Round moment) = tt
last_hands spares (written.Lose from to place) = tt
last_hands spares (written.Repeat from to place) = tt
last_hands spares (written.Swap from to place) = tt
last_hands spares (written.Inject from to frame) = tt
last_hands spares (written.Crash provider) = tt
last_hands spares (written.Restart provider) = tt
last_hands spares (written.Book address) = tt
last_hands spares (written.Mailbox address) = tt
last_hands spares (written.Show address place) = tt
last_hands spares (written.Archive address moment place) = tt
last_hands spares (written.Upgrade provider moment) = tt
last_hands spares (written.Vault address) = tt
last_hands spares (written.VaultShow address place) = tt
last_hands spares (written.Screen provider place) = refl

-- what takes no spare leaves all
leaves_all : (trade : Trade) (spares : List Patterns) (sites : List Site) (command : Written) → NeedsNoSpare command
    → LeavesSpares trade spares sites (command_in (last_spare spares) command) spares
leaves_all trade spares sites (written.Submit provider moment sender path message) none = λ luck. refl
leaves_all trade spares sites (written.Tick provider moment) none = λ luck. refl
leaves_all trade spares sites (written.Round moment) none = λ luck. refl
leaves_all trade spares sites (written.Lose from to place) none = λ luck. refl
leaves_all trade spares sites (written.Repeat from to place) none = λ luck. refl
leaves_all trade spares sites (written.Swap from to place) none = λ luck. refl
leaves_all trade spares sites (written.Inject from to frame) none = λ luck. refl
leaves_all trade spares sites (written.Crash provider) none = λ luck. refl
leaves_all trade spares sites (written.Restart provider) none = λ luck. refl
leaves_all trade spares sites (written.Book address) none = λ luck. refl
leaves_all trade spares sites (written.Mailbox address) none = λ luck. refl
leaves_all trade spares sites (written.Show address place) none = λ luck. refl
leaves_all trade spares sites (written.Archive address moment place) none = λ luck. refl
leaves_all trade spares sites (written.Upgrade provider moment) none = λ luck. refl
leaves_all trade spares sites (written.Vault address) none = λ luck. refl
leaves_all trade spares sites (written.VaultShow address place) none = λ luck. refl
leaves_all trade spares sites (written.Screen provider place) none = absurd none

pub all_left : {T E : Type 0} (trade : Trade) (spares : List Patterns) (sites : List Site) (command : Written)
    (result : Result T E) → NeedsNoSpare command
    → IfOk result (λ (value : T). LeavesSpares trade spares sites (command_in (last_spare spares) command) spares)
all_left trade spares sites command (Ok value) none = leaves_all trade spares sites command none
all_left trade spares sites command (Err fault) none = tt

-- ---- the last of them

at_length : (front : List Patterns) (last : Patterns) → slice_get (front ++ last ∷ []) (length front) ≡ Some last
at_length [] last = refl
at_length (patterns ∷ front) last = at_length front last

before_length : (front : List Patterns) (last : Patterns) → take (length front) (front ++ last ∷ []) ≡ front
before_length [] last = refl
before_length (patterns ∷ front) last = ap (λ (l : List Patterns). patterns ∷ l) (before_length front last)

one_less : (front : List Patterns) (last : Patterns) → length (front ++ last ∷ []) - 1 ≡ length front
one_less front last = omega (arith, length-append front (last ∷ []))

pub last_is : (front : List Patterns) (last : Patterns) → last_spare (front ++ last ∷ []) ≡ Some last
last_is front last =
    ap (λ (n : ℕ). slice_get (front ++ last ∷ []) n) (one_less front last) ∙ at_length front last

pub others_are : (front : List Patterns) (last : Patterns)
    → take (length (front ++ last ∷ []) - 1) (front ++ last ∷ []) ≡ front
others_are front last =
    ap (λ (n : ℕ). take n (front ++ last ∷ [])) (one_less front last) ∙ before_length front last

module _ {X : Type 0} (patterns : X → Patterns) where
  pub map_last : (front : List X) (last : X) → map patterns (front ++ last ∷ []) ≡ map patterns front ++ patterns last ∷ []
  map_last [] last = refl
  map_last (one ∷ front) last = ap (λ (l : List Patterns). patterns one ∷ l) (map_last front last)

  -- where one is taken off
  pub popped : (all front : List X) (last : X) → all ≡ front ++ last ∷ []
      → map patterns all ≡ map patterns front ++ patterns last ∷ []
  popped all front last is = ap (map patterns) is ∙ map_last front last

  pub popped_last : (all front : List X) (last : X) → all ≡ front ++ last ∷ []
      → last_spare (map patterns all) ≡ Some (patterns last)
  popped_last all front last is = ap last_spare (popped all front last is) ∙ last_is (map patterns front) (patterns last)

  pub none_popped : (all front : List X) → all ≡ front ++ [] → map patterns all ≡ map patterns front
  none_popped all front is = ap (map patterns) (is ∙ append-nil front)

  -- where none is there
  pub none_there : (all : List X) (size : ℕ) → size ≡ length all → size ≡ 0 → last_spare (map patterns all) ≡ None
  none_there [] size count none = refl
  none_there (one ∷ all) size count none = absurd (omega (arith, count, none))
