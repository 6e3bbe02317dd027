-- How a loop over connections goes on and ends, from the network with which the service began.
use Rattle.std.proofs.Common.{◌≡◌, ◌+◌, ◌<◌, ◌≤◌, ◌-◌, ◌^◌, refl, ℕ, List, [], length, arith, inl, inr, Option, None, Some}
use Rattle.std.proofs.lemmas.Bool.{cases_lt}
use Rattle.pec_types.specs.Bytes.{Bytes}
use Rattle.pec_outside.specs.DiskModel.{Sight}
use Rattle.pec_outside.specs.Doors.{Reply}
use Rattle.pec_outside.specs.Flow.{HasRisen, WrotePart, followed_by}
use Rattle.pec_directory.specs.Directory.{Kept, providers_of}
use Rattle.pec_seal.specs.Seals.{Seals}
use Rattle.pec_ledger.specs.Trade.{Trade}
use Rattle.pec_playing.specs.OfNetworks.{AllStand, NetworkState, world_of}
use Rattle.pec_http.specs.declared.serving.Served.{Served}
use Rattle.pec_playing.specs.Doing.{Keeps}
use Rattle.pec_playing.specs.Points.{point_of, state_in}
use Rattle.pec_service.specs.OfRuns.{Moves, MovesOn, NoMemory, State as RunState, Stop, WriteFault}
use Rattle.pec_service.specs.Calls.{ClockWent, State, calls_text, clock_from}
use Rattle.pec_service.specs.Connections.{Place}
use Rattle.pec_serving.specs.Playing.{state_of}
use Rattle.pec_serving.specs.Serving.{ComesNext, ServesSo, place_of, served_line}
use Rattle.pec_serving.specs.declared.next.Came.{Came}
use Rattle.pec_serving.specs.declared.next.Came.TheVariants as came
use Rattle.pec_serving.specs.declared.serving.Ending.TheVariants as endings
use Rattle.pec_serving.proofs.KeepLemmas.{as_begun}
use Rattle.pec_serving.proofs.NextLemmas.{comes_told}
use Rattle.pec_serving.proofs.ServiceLemmas.{CallLaws, ConnectionLaws, Going, broke, goes, lacks, line_broke, none_met, none_told}
use Rattle.pec_serving.proofs.WritingLemmas.{part_behind}

module _ {D S : Type 0} (sight : D → Sight) (count : D → ℕ) (disks all : Type 0) (seals : S → Seals)
    (start : NetworkState D S) (laws : CallLaws (world_of seals start) all)
    (joins : ConnectionLaws (world_of seals start) all start.kept) (elsewhere : ℕ → ℕ) (here : Place)
    (now again : NetworkState D S) (stood : all → disks × AllStand sight now.providers)
    (keeps : Keeps sight count disks start now) (moments : Option (List ℕ))
    (requests : Option (List Bytes)) (replies : Option (List Reply)) (served : ℕ) (before mid : Option Bytes)
    (going : Going (world_of seals start) all sight count start.kept (state_in count elsewhere [] start)
    (state_in count elsewhere [] now) here (place_of count elsewhere now moments requests replies) served before mid)
    (moments_then : Option (List ℕ)) (requests_then : Option (List Bytes)) (replies_then : Option (List Reply))
    (wanted : ℕ) (few : served < wanted) where
  abbrev trade : Trade
  trade = world_of seals start

  abbrev at : Place
  at = place_of count elsewhere now moments requests replies

  abbrev left : Place
  left = place_of count elsewhere again moments_then requests_then replies_then

  abbrev Comes : Came → Type 0
  Comes came = ComesNext (world_of seals now) (disks × AllStand sight now.providers) now.kept at left came

  abbrev first : RunState D
  first = state_in count elsewhere [] start

  abbrev stands_at : RunState D
  stands_at = state_in count elsewhere [] now

  abbrev behind_next : RunState D
  behind_next = state_in count elsewhere [] again

  abbrev Part : RunState D → Type 0
  Part last = Moves (world_of seals start) all sight count stands_at last

  -- what came next, in the world of the beginning
  comes_so : (came : Came) → Comes came → ComesNext trade all start.kept at left came
  comes_so came comes =
      as_begun sight count disks seals start now keeps
      (λ (t : Trade) (k : List Kept). ComesNext t all k at left came)
      (comes_told (world_of seals now) (disks × AllStand sight now.providers) all stood now.kept at left came comes)

  pub ends_unmet : Comes came.NoConnection → Part behind_next
      → ServesSo trade all sight count start.kept wanted first behind_next here left before mid endings.NoConnection
  ends_unmet comes moves =
      let is = comes_so came.NoConnection comes
      in none_met trade all sight count start.kept laws joins first stands_at here at served before mid going wanted few left
      is.network is.replies behind_next moves

  pub ends_untold : Comes came.NoMoment → Part behind_next
      → ServesSo trade all sight count start.kept wanted first behind_next here left before mid endings.NoMoment
  ends_untold comes moves =
      let is = comes_so came.NoMoment comes
      in none_told trade all sight count start.kept laws joins first stands_at here at served before mid going wanted few left
      is.network is.replies behind_next moves

  module _ (moment : ℕ) (told : Served)
      (comes : Comes (came.Served moment told)) where
    pub ends_broken : (after : Option Bytes) → WrotePart mid after (served_line told) → Part behind_next
        → ServesSo trade all sight count start.kept wanted first behind_next here left before after endings.WriteFault
    ends_broken after part moves =
        line_broke trade all sight count start.kept laws joins first stands_at here at served before mid going left moment
        told (comes_so (came.Served moment told) comes) wanted few after part behind_next moves

    module _ (keeps_again : Keeps sight count disks start again) (last : NetworkState D S) (line_held after : Option Bytes)
        (from upto : ℕ) (line : line_held ≡ followed_by mid (served_line told)) where
      abbrev network_left : State
      network_left = state_of count elsewhere last

      abbrev Went : Trade → List Kept → Option Stop → Type 0
      Went t k stop = ClockWent t (providers_of k) all sight count (clock_from (length k) 0 moment)
          (point_of count elsewhere [] again line_held from) (point_of count elsewhere [] last after upto) stop

      abbrev behind_last : RunState D
      behind_last = state_in count elsewhere [] last

      -- the clock calls, in the world of the beginning
      went_so : (stop : Option Stop) → Went (world_of seals again) again.kept stop → Went trade start.kept stop
      went_so stop went =
          as_begun sight count disks seals start again keeps_again (λ (t : Trade) (k : List Kept). Went t k stop) went

      pub ends_written : Went (world_of seals again) again.kept None
          → MovesOn (world_of seals start) all sight count stands_at behind_last
          → Going trade all sight count start.kept first behind_last here
          (place_of count elsewhere last moments_then requests_then replies_then) (served + 1) before after
      ends_written clock moves =
          let went = went_so None clock
          in goes trade all sight count start.kept laws joins first stands_at here at served before mid going left moment told
          (comes_so (came.Served moment told) comes) line_held line network_left went.calls went.unplayed went.plays went.are
          went.ends.0 went.ends.1 after went.ends.2 behind_last refl moves

      pub ends_stopped : Went (world_of seals again) again.kept (Some WriteFault) → Part behind_last
          → ServesSo trade all sight count start.kept wanted first behind_last here
          (place_of count elsewhere last moments_then requests_then replies_then) before after endings.WriteFault
      ends_stopped clock moves =
          let went = went_so (Some WriteFault) clock
          in broke trade all sight count start.kept laws joins first stands_at here at served before mid going left moment told
          (comes_so (came.Served moment told) comes) line_held line network_left went.calls went.unplayed went.plays went.are
          wanted few went.ends.0 after
          (part_behind mid line_held after (served_line told)
          (calls_text trade (providers_of start.kept) left.network went.calls) line went.ends.1) behind_last moves

      pub ends_lacking : Went (world_of seals again) again.kept (Some NoMemory) → Part behind_last
          → ServesSo trade all sight count start.kept wanted first behind_last here
          (place_of count elsewhere last moments_then requests_then replies_then) before after endings.NoMemory
      ends_lacking clock moves =
          let went = went_so (Some NoMemory) clock
          in lacks trade all sight count start.kept laws joins first stands_at here at served before mid going left moment told
          (comes_so (came.Served moment told) comes) line_held line network_left went.calls went.unplayed went.plays went.are
          wanted few went.ends.0 went.ends.2 after went.ends.1 behind_last moves

-- a count that rose later rose from the beginning
pub risen_since : (a b d : ℕ) → a ≤ b → b ≤ d → HasRisen b d → HasRisen a d
risen_since a b d first second risen = λ low. elim (cases_lt b (2 ^ 64 - 1)) [
  | inl below ↦ omega (arith, first, risen below)
  | inr past ↦ omega (arith, low, second, past)
]
