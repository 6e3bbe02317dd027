-- Connections one after another: what is played of them, and that it may come in a script.
use Rattle.std.proofs.Common.{◌≡◌, ℕ, zero, suc, ◌+◌, ◌<◌, ◌≤◌, List, [], ◌∷◌, ◌++◌, length, refl, ap, sym, subst, ◌∙◌, Some, Option, arith}
use Rattle.std.specs.Prelude.{IfSome, map}
use Rattle.std.specs.List.{AllByRecursion}
use Rattle.std.proofs.lemmas.List.{append-nil, append_assoc}
use Rattle.pec_types.specs.Bytes.{Bytes}
use Rattle.pec_types.specs.declared.moments.TheConstants.{END_OF_TIME}
use Rattle.pec_outside.specs.Doors.{Reply}
use Rattle.pec_directory.specs.Directory.{Kept}
use Rattle.pec_ledger.specs.Network.{Site, Sound}
use Rattle.pec_ledger.specs.Trade.{Trade}
use Rattle.pec_plays.specs.Commands.{Command, Luck, played}
use Rattle.pec_plays.specs.Possible.{GaveWhatWasKept}
use Rattle.pec_plays.specs.Scripts.{AllUnforged, IsUnforged, script}
use Rattle.pec_http.specs.declared.demands.Look.TheVariants as looks
use Rattle.pec_runs.specs.Headline.{AllHonest, IsHonest, NoneInjected, PutsHonestly}
use Rattle.pec_service.specs.Calls.{AreCalls, Call, State, clock_from, commands_of, lucks_of, state_behind}
use Rattle.pec_service.specs.Connections.{Answering, Connection, Hearing, IsConnection, IsHeardSo, Place, calls_of, connection_text, handed_by, handed_in}
use Rattle.pec_service.specs.Connections as connections
use Rattle.pec_service.specs.Services.{AreConnections, calls_in, connections_text, place_behind}
use Rattle.pec_service.proofs.CallLemmas.{behind_append, calls_append, calls_kept, calls_since, commands_append, counts_since, script_is, sites_since}

-- ---- joining

pub place_append : (here : Place) (all : List Connection) (one : Connection)
    → place_behind here (all ++ one ∷ []) ≡ one.behind
place_append here [] one = refl
place_append here (first ∷ all) one = place_append first.behind all one

module _ (trade : Trade) (kept : List Kept) where
  pub lines_append : (here : Place) (all : List Connection) (one : Connection)
      → connections_text trade kept here (all ++ one ∷ [])
      ≡ connections_text trade kept here all ++ connection_text trade kept (place_behind here all).network one
  lines_append here [] one = append-nil (connection_text trade kept here.network one)
  lines_append here (first ∷ all) one =
      ap (λ (t : Bytes). connection_text trade kept here.network first ++ t) (lines_append first.behind all one)
      ∙ sym (append_assoc (connection_text trade kept here.network first) (connections_text trade kept first.behind all)
      (connection_text trade kept (place_behind first.behind all).network one))

module _ (trade : Trade) (tells : Type 0) (kept : List Kept) where
  pub connection_append : (here : Place) (all : List Connection) (one : Connection) → AreConnections trade tells kept here all
      → IsConnection trade tells kept (place_behind here all) one → AreConnections trade tells kept here (all ++ one ∷ [])
  connection_append here [] one are is = (is, tt)
  connection_append here (first ∷ all) one are is = (are.0, connection_append first.behind all one are.1 is)

  -- ---- replies

  pub replies_are : (here : Place) (all : List Connection) (replies : List Reply) → AreConnections trade tells kept here all
      → here.replies ≡ Some replies
      → (place_behind here all).replies ≡ Some (replies ++ map (λ (one : Connection). one.reply) all)
  replies_are here [] replies are told = told ∙ ap (λ (l : List Reply). Some l) (sym (append-nil replies))
  replies_are here (first ∷ all) replies are told =
      replies_are first.behind all (replies ++ first.reply ∷ []) are.1
      (subst (λ (o : Option (List Reply)). IfSome o (λ rs. first.behind.replies ≡ Some (rs ++ first.reply ∷ []))) told are.0.replies)
      ∙ ap (λ (l : List Reply). Some l)
      (append_assoc replies (first.reply ∷ []) (map (λ (one : Connection). one.reply) all))

  -- ---- what is played

  pub record Played (here : Place) (all : List Connection) : Type 0 where
    pub calls : AreCalls trade tells here.network (calls_in all)
    pub state : (state_behind here.network (calls_in all)).sites ≡ (place_behind here all).network.sites
    pub later : (p : ℕ) → (state_behind here.network (calls_in all)).counts p ≤ (place_behind here all).network.counts p

  pub are_played : (here : Place) (all : List Connection) → AreConnections trade tells kept here all → Played here all
  are_played here [] are = record { calls = tt; state = refl; later = λ p. omega arith }
  are_played here (first ∷ all) are =
      let more = are_played first.behind all are.1
      in let mid = state_behind here.network (calls_of first)
      in let behind = behind_append here.network (calls_of first) (calls_in all)
      in record {
        calls = calls_append trade tells here.network (calls_of first) (calls_in all) are.0.calls
            (calls_since mid first.behind.network (sym are.0.state) are.0.later trade tells (calls_in all) more.calls);
        state = ap (λ (s : State). s.sites) behind
            ∙ sites_since mid first.behind.network (calls_in all) (sym are.0.state) ∙ more.state;
        later = λ p. omega (
          arith,
          ap (λ (s : State). s.counts p) behind,
          counts_since mid first.behind.network (calls_in all) are.0.later p,
          more.later p,
        );
      }

  pub states_are : (here : Place) (all : List Connection) → AreConnections trade tells kept here all
      → (script trade (lucks_of (calls_in all)) here.network.sites (commands_of (calls_in all))).after
      ≡ (place_behind here all).network.sites
  states_are here all are =
      let played = are_played here all are
      in script_is trade tells here.network (calls_in all) played.calls ∙ played.state

  -- ---- what may come

  -- a command injects nothing, and may come in any state, where no forged frame is put in place of a due one
  abbrev MayCome : Command → Type 0
  MayCome command = ((sites : List Site) → IsHonest trade sites command)
      × ((luck : Luck) (sites : List Site) → PutsHonestly trade luck sites command → IsUnforged trade luck sites command)

  abbrev AllMayCome : List Command → Type 0
  AllMayCome [] = Unit {0}
  AllMayCome (command ∷ commands) = MayCome command × AllMayCome commands

  all_append : (some more : List Command) → AllMayCome some → AllMayCome more → AllMayCome (some ++ more)
  all_append [] more first then = then
  all_append (command ∷ some) more first then = (first.0, all_append some more first.1 then)

  all_front : (some more : List Command) → AllMayCome (some ++ more) → AllMayCome some
  all_front [] more all = tt
  all_front (command ∷ some) more all = (all.0, all_front some more all.1)

  clock_may : (more from moment : ℕ) → moment < END_OF_TIME → AllMayCome (clock_from more from moment)
  clock_may zero from moment in_time = ((λ sites. tt, λ luck sites puts. (in_time, puts)), tt)
  clock_may (suc more) from moment in_time =
      ((λ sites. tt, λ luck sites puts. in_time), clock_may more (from + 1) moment in_time)

  answer_may : (moment : ℕ) (input : Bytes) (answering : Answering) → moment < END_OF_TIME
      → connections.AsksSo kept input answering → AllMayCome (handed_by moment answering)
  answer_may moment input connections.Lacks in_time asks = tt
  answer_may moment input (connections.Stops stop) in_time asks = tt
  answer_may moment input (connections.Sees address looks.Book) in_time asks = tt
  answer_may moment input (connections.Sees address looks.Items) in_time asks = tt
  answer_may moment input (connections.Sees address (looks.Item place)) in_time asks =
      ((λ sites. tt, λ luck sites puts. tt), tt)
  answer_may moment input (connections.HandsIn number address path message) in_time asks =
      ((λ sites. tt, λ luck sites puts. (asks.2, asks.3, in_time)), tt)

  heard_may : (moment : ℕ) (input : Bytes) (hearing : Hearing) → moment < END_OF_TIME → IsHeardSo kept input hearing
      → AllMayCome (handed_in moment hearing)
  heard_may moment input connections.Unheard in_time heard = tt
  heard_may moment input (connections.Heard answering) in_time heard = answer_may moment input answering in_time heard
  heard_may moment input (connections.Broken answering) in_time heard = answer_may moment input answering in_time heard

  one_may : (here : Place) (one : Connection) → IsConnection trade tells kept here one → AllMayCome (commands_of (calls_of one))
  one_may here one is =
      subst AllMayCome (sym (commands_append one.handed one.clock))
      (all_append (commands_of one.handed) (commands_of one.clock)
      (subst AllMayCome (sym is.hands) (heard_may one.moment one.input one.hearing is.in_time is.heard))
      (all_front (commands_of one.clock) is.unplayed
      (subst AllMayCome (sym is.plays) (clock_may (length kept) 0 one.moment is.in_time))))

  pub all_may : (here : Place) (all : List Connection) → AreConnections trade tells kept here all
      → AllMayCome (commands_of (calls_in all))
  all_may here [] are = tt
  all_may here (first ∷ all) are =
      subst AllMayCome (sym (commands_append (calls_of first) (calls_in all)))
      (all_append (commands_of (calls_of first)) (commands_of (calls_in all)) (one_may here first are.0)
      (all_may first.behind all are.1))

  unforged_by : (lucks : List Luck) (sites : List Site) (commands : List Command) → AllMayCome commands
      → AllHonest trade lucks sites commands → AllUnforged trade lucks sites commands
  unforged_by [] sites commands may honest = tt
  unforged_by (luck ∷ lucks) sites [] may honest = tt
  unforged_by (luck ∷ lucks) sites (command ∷ commands) may honest = (
    may.0.1 luck sites honest.1,
    unforged_by lucks (played trade luck sites command).after commands may.1 honest.2,
  )

  none_injected : (lucks : List Luck) (sites : List Site) (commands : List Command) → AllMayCome commands
      → NoneInjected trade lucks sites commands
  none_injected [] sites commands may = tt
  none_injected (luck ∷ lucks) sites [] may = tt
  none_injected (luck ∷ lucks) sites (command ∷ commands) may =
      (may.0.0 sites, none_injected lucks (played trade luck sites command).after commands may.1)

  abbrev Honest : Place → List Connection → Type 0
  Honest here all = AllHonest trade (lucks_of (calls_in all)) here.network.sites (commands_of (calls_in all))

  pub are_unforged : (here : Place) (all : List Connection) → AreConnections trade tells kept here all
      → Honest here all
      → AllUnforged trade (lucks_of (calls_in all)) here.network.sites (commands_of (calls_in all))
  are_unforged here all are honest =
      unforged_by (lucks_of (calls_in all)) here.network.sites (commands_of (calls_in all)) (all_may here all are) honest

  -- where disks tell what they hold no forged frame is put
  pub are_honest : ((lucks : List Luck) (sites : List Site) (commands : List Command)
      → AllByRecursion GaveWhatWasKept lucks → NoneInjected trade lucks sites commands
      → AllHonest trade lucks sites commands)
      → tells → (here : Place) (all : List Connection) → AreConnections trade tells kept here all
      → Honest here all
  are_honest due told here all are =
      due (lucks_of (calls_in all)) here.network.sites (commands_of (calls_in all))
      (calls_kept trade tells told here.network (calls_in all) (are_played here all are).calls)
      (none_injected (lucks_of (calls_in all)) here.network.sites (commands_of (calls_in all)) (all_may here all are))

  -- ---- sound

  -- what the law of Soundness says of one command
  abbrev pub StaysSound : Type 0
  StaysSound = (luck : Luck) (sites : List Site) (command : Command) → Sound trade sites
      → IsUnforged trade luck sites command → Sound trade (played trade luck sites command).after

  sound_by : StaysSound → (here : State) (calls : List Call) → AreCalls trade tells here calls
      → AllUnforged trade (lucks_of calls) here.sites (commands_of calls)
      → Sound trade here.sites → Sound trade (state_behind here calls).sites
  sound_by stays here [] are given sound = sound
  sound_by stays here (call ∷ calls) are given sound =
      sound_by stays call.behind calls are.1
      (subst (λ (s : List Site). AllUnforged trade (lucks_of calls) s (commands_of calls)) (sym are.0.state) given.1)
      (subst (λ (s : List Site). Sound trade s) (sym are.0.state)
      (stays call.luck here.sites call.command sound given.0))

  pub sound_behind : StaysSound → (here : Place) (all : List Connection) → AreConnections trade tells kept here all
      → Honest here all → Sound trade here.network.sites → Sound trade (place_behind here all).network.sites
  sound_behind stays here all are honest sound =
      let played = are_played here all are
      in subst (λ (s : List Site). Sound trade s) played.state
      (sound_by stays here.network (calls_in all) played.calls (are_unforged here all are honest) sound)
