-- A round: the turns of all providers, each from the state as the round began, and then the delivery of what they put
-- (`rounded`). So no turn sees a frame that was put in the same round. This project's profile.
use Rattle.std.specs.Prelude.{ℕ, ◌+◌, ◌-◌, nat_lt, List, [], ◌∷◌, ◌++◌, length, map, slice_index_or, if◌then◌else◌}
use Rattle.pec_types.specs.Bytes.{Bytes}
use Rattle.pec_types.specs.declared.turns.Turn.{Turn}
use Rattle.pec_ledger.specs.Network.{Site, frames_between}
use Rattle.pec_ledger.specs.Trade.{Trade}
use Rattle.pec_plays.specs.Turns.{Cut, Turned, turned}

-- frames that a link holds at most
abbrev pub link_size : ℕ
link_size = 64

-- how many frames the link from a provider to another has room for, as the round begins
abbrev pub rooms_of : List Site → ℕ → ℕ → ℕ
rooms_of sites provider to = link_size - length (frames_between sites provider to)

-- the turns of these providers, numbered from here on
abbrev pub turns_from : Trade → ℕ → List Site → (ℕ → Cut) → ℕ → List Site → List Turned
turns_from trade now all cuts provider [] = []
turns_from trade now all cuts provider (site ∷ sites) =
    turned trade provider now (rooms_of all provider) (cuts provider) site ∷ turns_from trade now all cuts (provider + 1) sites

-- what was put for a provider, behind what waits for it, link by link
abbrev pub delivered_to : ℕ → List (List (List Bytes)) → List (List Bytes) → List (List Bytes)
delivered_to to [] links = links
delivered_to to (out ∷ outs) [] = slice_index_or out to [] ∷ delivered_to to outs []
delivered_to to (out ∷ outs) (link ∷ links) = (link ++ slice_index_or out to []) ∷ delivered_to to outs links

-- a provider for which these frames wait, a list for each that sent them
abbrev pub with_waiting : Site → List (List Bytes) → Site
with_waiting site waiting = record {
  journal = site.journal;
  up = site.up;
  interrupted = site.interrupted;
  screens = site.screens;
  waiting = waiting;
}

-- the providers behind their turns, numbered from here on, each with the frames that were put for it
abbrev pub delivered : List (List (List Bytes)) → ℕ → List Turned → List Site
delivered outs to [] = []
delivered outs to (turn ∷ turns) =
    with_waiting turn.site (delivered_to to outs turn.site.waiting) ∷ delivered outs (to + 1) turns

-- ---- what is told

-- the peers to which frames were put, each with how many
abbrev pub sent_from : ℕ → List (List Bytes) → List (ℕ × ℕ)
sent_from to [] = []
sent_from to (frames ∷ out) = if nat_lt 0 (length frames) then (to, length frames) ∷ sent_from (to + 1) out else sent_from (to + 1) out

-- the turns as they are told, numbered from here on
abbrev pub told_from : ℕ → List Turned → List Turn
told_from provider [] = []
told_from provider (turn ∷ turns) =
    record { provider = provider; events = turn.events; sent = sent_from 0 turn.out; ended = turn.ended }
    ∷ told_from (provider + 1) turns

-- What a round comes to: the sites behind it, and its turns as they are told.
pub record Rounded : Type 0 where
  pub sites : List Site
  pub turns : List Turn

-- The turns of all providers, at a moment and with a cut for each provider's turn.
unfoldable pub turns_of : Trade → ℕ → (ℕ → Cut) → List Site → List Turned
turns_of trade now cuts sites = turns_from trade now sites cuts 0 sites

-- what each turn put, a list of frames for each provider
abbrev pub outs_of : List Turned → List (List (List Bytes))
outs_of turns = map (λ (turn : Turned). turn.out) turns

-- What a round does, at a moment in seconds and with these cuts.
unfoldable pub rounded : Trade → ℕ → (ℕ → Cut) → List Site → Rounded
rounded trade now cuts sites = record {
  sites = delivered (outs_of (turns_of trade now cuts sites)) 0 (turns_of trade now cuts sites);
  turns = told_from 0 (turns_of trade now cuts sites);
}
