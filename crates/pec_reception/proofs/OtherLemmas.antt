-- What is done with a frame that holds no letter for the provider, by the accounts in its path that have room.
use Rattle.std.proofs.Common.{◌≡◌, ℕ, ◌<◌, ◌≤◌, List, [], ◌∷◌, length, filter, refl, ap, sym, subst, ◌∙◌, arith, Some}
use Rattle.std.proofs.Common.{None}
use Rattle.std.specs.Str.{bytes_eq}
use Rattle.pec_types.specs.Bytes.{Bytes, Path}
use Rattle.pec_types.specs.declared.turns.Event.TheVariants as events
use Rattle.pec_records.specs.Entry.{longest_message, most_accounts}
use Rattle.pec_records.specs.declared.entries.Entry.{Entry}
use Rattle.pec_records.specs.declared.entries.Entry.TheVariants as entries
use Rattle.pec_ledger.specs.Half.{Half}
use Rattle.pec_ledger.specs.Lookups.{has_room}
use Rattle.pec_ledger.specs.Steps.{half}
use Rattle.pec_ledger.specs.Trade.{Framed, Trade}
use Rattle.pec_plays.specs.Reception.{accounts_with_room, anomaly, each_once, otherwise}
use Rattle.pec_reception.specs.Shows.{IsLimited, Shows}
use Rattle.pec_reception.specs.declared.received.Received.{Received}

abbrev pub dropped : Received
dropped = record { entry = None; event = events.Dropped; owed = None }

abbrev pub placed : ℕ → Path → Bytes → ℕ → Received
placed moment accounts message count =
    record { entry = Some (entries.Anomaly moment accounts message); event = events.Anomaly count; owed = None }

pub empty : (accounts : Path) → length accounts ≡ 0 → accounts ≡ []
empty [] none = refl
empty (account ∷ accounts) none = absurd (omega arith)

pub placed_limited : (moment : ℕ) (accounts : Path) (message : Bytes) (count : ℕ) (received : Received)
    → received ≡ placed moment accounts message count
    → length accounts ≤ most_accounts → length message ≤ longest_message → IsLimited received
placed_limited moment accounts message count received r few short = subst IsLimited (sym r) (few, short)

module _ (trade : Trade) (me moment : ℕ) (journal : List Entry) (framed : Framed) (h : Half)
    (is : h ≡ half trade me journal) where
  -- these are the accounts
  they : (accounts : Path) → accounts ≡ filter (has_room trade me h) (each_once bytes_eq framed.path)
      → accounts ≡ accounts_with_room trade me journal framed.path
  they accounts e = e ∙ ap (λ (x : Half). filter (has_room trade me x) (each_once bytes_eq framed.path)) is

  some_shown : (accounts : Path) → 0 < length accounts
      → Shows (placed moment accounts framed.message (length accounts))
      (anomaly trade me moment journal framed.message accounts)
  some_shown [] some = absurd (omega arith)
  some_shown (account ∷ accounts) some = (refl, refl, refl)

  pub shows_anomaly : (accounts : Path) (count : ℕ) (received : Received) → accounts ≡ filter (has_room trade me h)
      (each_once bytes_eq framed.path)
      → 0 < length accounts → count ≡ length accounts → received ≡ placed moment accounts framed.message count
      → Shows received (otherwise trade me moment journal framed)
  shows_anomaly accounts count received e some n r =
      subst (λ (x : Received). Shows x (otherwise trade me moment journal framed))
      (sym (r ∙ ap (λ (k : ℕ). placed moment accounts framed.message k) n))
      (subst (λ (xs : Path). Shows (placed moment accounts framed.message (length accounts))
      (anomaly trade me moment journal framed.message xs)) (they accounts e)
      (some_shown accounts some))

  pub shows_dropped : (accounts : Path) (received : Received) → accounts ≡ filter (has_room trade me h)
      (each_once bytes_eq framed.path)
      → accounts ≡ [] → received ≡ dropped → Shows received (otherwise trade me moment journal framed)
  shows_dropped accounts received e none r =
      subst (λ (x : Received). Shows x (otherwise trade me moment journal framed)) (sym r)
      (subst (λ (xs : Path). Shows dropped (anomaly trade me moment journal framed.message xs)) (sym none
      ∙ they accounts e) (refl, refl, refl))
