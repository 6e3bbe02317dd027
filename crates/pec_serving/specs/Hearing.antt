-- What became of one connection at the desk, before its line is written: `Hears`. This project's profile.
use Rattle.std.specs.Prelude.{◌≡◌, ℕ, ◌≤◌, List, Option}
use Rattle.pec_types.specs.Bytes.{Bytes}
use Rattle.pec_outside.specs.Flow.{WrotePart, followed_by}
use Rattle.pec_directory.specs.Directory.{Kept}
use Rattle.pec_ledger.specs.Network.{Site}
use Rattle.pec_ledger.specs.Trade.{Trade}
use Rattle.pec_http.specs.Input.{IsInput}
use Rattle.pec_http.specs.Replies.{reply_text}
use Rattle.pec_http.specs.Statuses.{number_of}
use Rattle.pec_http.specs.declared.serving.Served.{Served}
use Rattle.pec_http.specs.declared.serving.Served.TheVariants as served
use Rattle.pec_service.specs.Calls.{AreCalls, Call, State, commands_of, state_behind}
use Rattle.pec_service.specs.Connections.{Broken, Heard, Hearing, IsHeardSo, Unheard, answered_by, handed_in}

module _ (trade : Trade) (kept : List Kept) where
  -- what `serve_one` told, and what it wrote to a connection that held this
  abbrev pub IsServed : List Site → List Call → Hearing → (held held_then : Option Bytes) → Served → Type 0
  IsServed sites handed Unheard held held_then told = (told ≡ served.ReadFault) × (held_then ≡ held)
  IsServed sites handed (Heard answering) held held_then told =
      (told ≡ served.Answered (number_of (answered_by trade kept sites handed answering).status))
      × (held_then ≡ followed_by held (reply_text (answered_by trade kept sites handed answering)))
  IsServed sites handed (Broken answering) held held_then told =
      (told ≡ served.WriteFault) × WrotePart held held_then (reply_text (answered_by trade kept sites handed answering))

module _ (trade : Trade) (tells : Type 0) (kept : List Kept) where
  -- A connection that had this to come and held that was answered at the desk at a moment, or failed.
  pub record Hears (moment : ℕ) (here there : State) (left held held_then : Option Bytes) (told : Served) : Type 0 where
    pub input : Bytes
    pub is_input : IsInput left input
    pub hearing : Hearing
    pub handed : List Call
    pub heard : IsHeardSo kept input hearing
    pub hands : commands_of handed ≡ handed_in moment hearing
    pub calls : AreCalls trade tells here handed
    pub state : there.sites ≡ (state_behind here handed).sites
    pub later : (provider : ℕ) → (state_behind here handed).counts provider ≤ there.counts provider
    pub served : IsServed trade kept here.sites handed hearing held held_then told
