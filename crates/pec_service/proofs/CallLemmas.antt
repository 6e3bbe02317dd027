-- Calls one after another: they are joined, and they are a script.
use Rattle.std.proofs.Common.{◌≡◌, ℕ, ◌+◌, ◌≤◌, List, [], ◌∷◌, ◌++◌, refl, ap, sym, subst, ◌∙◌, arith}
use Rattle.std.specs.List.{AllByRecursion}
use Rattle.std.proofs.lemmas.List.{append-nil, append_assoc}
use Rattle.pec_types.specs.Bytes.{Bytes}
use Rattle.pec_directory.specs.Directory.{Provider}
use Rattle.pec_ledger.specs.Network.{Site}
use Rattle.pec_ledger.specs.Trade.{Trade}
use Rattle.pec_plays.specs.Commands.{Command, played}
use Rattle.pec_plays.specs.Possible.{GaveWhatWasKept, MayMeet}
use Rattle.pec_plays.specs.Scripts.{script}
use Rattle.pec_runs.specs.AnswerLines.{answer_text}
use Rattle.pec_runs.specs.Plays.{HasMemory, RoseBy, ShowsItsOwn, UnchangedIn, faults_by}
use Rattle.pec_service.specs.Calls.{AreCalls, Call, IsCall, State, answer_of, calls_text, commands_of, lucks_of, state_behind}

pub behind_append : (here : State) (calls more : List Call)
    → state_behind here (calls ++ more) ≡ state_behind (state_behind here calls) more
behind_append here [] more = refl
behind_append here (call ∷ calls) more = behind_append call.behind calls more

pub commands_append : (calls more : List Call) → commands_of (calls ++ more) ≡ commands_of calls ++ commands_of more
commands_append [] more = refl
commands_append (call ∷ calls) more = ap (λ (l : List Command). call.command ∷ l) (commands_append calls more)

-- counts that rose since earlier
rose_since : (n a b c : ℕ) → a ≤ b → RoseBy n b c → RoseBy n a c
rose_since n a b c l rose =
    let k = rose.0
    in (omega arith, λ h. let x : b + n ≤ c = rose.1 h in omega (arith, x, l))

-- ---- counts that are taken earlier

pub sites_since : (here there : State) (calls : List Call) → here.sites ≡ there.sites
    → (state_behind here calls).sites ≡ (state_behind there calls).sites
sites_since here there [] same = same
sites_since here there (call ∷ calls) same = refl

pub counts_since : (here there : State) (calls : List Call) → ((p : ℕ) → here.counts p ≤ there.counts p) → (p : ℕ)
    → (state_behind here calls).counts p ≤ (state_behind there calls).counts p
counts_since here there [] later p = later p
counts_since here there (call ∷ calls) later p = omega arith

pub text_since : (trade : Trade) (providers : List Provider) (here there : State) (calls : List Call)
    → here.sites ≡ there.sites → calls_text trade providers here calls ≡ calls_text trade providers there calls
text_since trade providers here there [] same = refl
text_since trade providers here there (call ∷ calls) same =
    ap (λ (s : List Site). answer_text providers (answer_of trade s call) ++ calls_text trade providers call.behind calls) same

module _ (here there : State) (same : here.sites ≡ there.sites) (later : (p : ℕ) → here.counts p ≤ there.counts p) where
  pub calls_since : (trade : Trade) (tells : Type 0) (calls : List Call) → AreCalls trade tells there calls
      → AreCalls trade tells here calls
  calls_since trade tells [] are = tt
  calls_since trade tells (call ∷ calls) are = (
    record {
      meet = subst (λ (s : List Site). MayMeet trade call.luck s call.command) (sym same) are.0.meet;
      memory = subst (λ (s : List Site). HasMemory (answer_of trade s call)) (sym same) are.0.memory;
      counts = λ p.
          subst (λ (s : List Site). RoseBy (faults_by trade p call.command (answer_of trade s call)) (here.counts p)
          (call.behind.counts p)) (sym same)
          (rose_since (faults_by trade p call.command (answer_of trade there.sites call)) (here.counts p) (there.counts p)
          (call.behind.counts p) (later p) (are.0.counts p));
      state = are.0.state ∙ ap (λ (s : List Site). (played trade call.luck s call.command).after) (sym same);
      kept = are.0.kept;
      shown = are.0.shown;
      unchanged = λ told. subst (λ (s : List Site). UnchangedIn trade s (answer_of trade s call)) (sym same)
          (are.0.unchanged told);
    },
    are.1,
  )

-- ---- joining

module _ (trade : Trade) (tells : Type 0) where
  pub calls_append : (here : State) (calls more : List Call) → AreCalls trade tells here calls
      → AreCalls trade tells (state_behind here calls) more → AreCalls trade tells here (calls ++ more)
  calls_append here [] more are then = then
  calls_append here (call ∷ calls) more are then = (are.0, calls_append call.behind calls more are.1 then)

  pub call_append : (here : State) (calls : List Call) (call : Call) → AreCalls trade tells here calls
      → IsCall trade tells (state_behind here calls) call → AreCalls trade tells here (calls ++ call ∷ [])
  call_append here calls call are is = calls_append here calls (call ∷ []) are (is, tt)

  -- the state behind calls is that of their script
  pub script_is : (here : State) (calls : List Call) → AreCalls trade tells here calls
      → (script trade (lucks_of calls) here.sites (commands_of calls)).after ≡ (state_behind here calls).sites
  script_is here [] are = refl
  script_is here (call ∷ calls) are =
      ap (λ (s : List Site). (script trade (lucks_of calls) s (commands_of calls)).after) (sym are.0.state)
      ∙ script_is call.behind calls are.1

  -- where disks tell what they hold, each turn put what was due
  pub calls_kept : tells → (here : State) (calls : List Call) → AreCalls trade tells here calls
      → AllByRecursion GaveWhatWasKept (lucks_of calls)
  calls_kept told here [] are = tt
  calls_kept told here (call ∷ calls) are = (are.0.kept told, calls_kept told call.behind calls are.1)

  -- and items were shown with their own bytes
  pub calls_shown : tells → (here : State) (calls more : List Call) → AreCalls trade tells here (calls ++ more)
      → AllByRecursion ShowsItsOwn (lucks_of calls)
  calls_shown told here [] more are = tt
  calls_shown told here (call ∷ calls) more are = (are.0.shown told, calls_shown told call.behind calls more are.1)

module _ (trade : Trade) where
  pub text_append : (providers : List Provider) (here : State) (calls : List Call) (call : Call)
      → calls_text trade providers here (calls ++ call ∷ [])
      ≡ calls_text trade providers here calls ++ answer_text providers (answer_of trade (state_behind here calls).sites call)
  text_append providers here [] call = append-nil (answer_text providers (answer_of trade here.sites call))
  text_append providers here (one ∷ calls) call =
      ap (λ (t : Bytes). answer_text providers (answer_of trade here.sites one) ++ t)
      (text_append providers one.behind calls call)
      ∙ sym (append_assoc (answer_text providers (answer_of trade here.sites one))
      (calls_text trade providers one.behind calls)
      (answer_text providers (answer_of trade (state_behind one.behind calls).sites call)))
