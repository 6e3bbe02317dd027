-- How a letter stands, kind by kind, is what the table of reception answers on what is seen of it.
use Rattle.std.proofs.Common.{◌≡◌, ℕ, List, [], ◌∷◌, Bool, true, false, not, ◌&&◌, cond, refl, ap, sym, ◌∙◌, Option}
use Rattle.std.proofs.Common.{Some, None}
use Rattle.std.specs.Prelude.{◌==◌, is_some, unwrap_or}
use Rattle.std.proofs.lemmas.Bool.{eq-eqb, eqb-true}
use Rattle.std.proofs.lemmas.Bool.Decides.{same_from_decides}
use Rattle.pec_types.specs.Bytes.{Bytes}
use Rattle.pec_types.specs.Message.{Id}
use Rattle.pec_types.specs.declared.messages.Decision.{Decision}
use Rattle.pec_records.specs.declared.entries.Entry.{Entry}
use Rattle.pec_points.specs.Reception.{FrameRow, KnownAck, KnownCharge, KnownEnvelope, KnownOutcome, NewAck, NewCharge}
use Rattle.pec_points.specs.Reception.{NewEnvelope, NewOutcome, NoRoom, received_by}
use Rattle.pec_points.specs.ReceptionReading as points
use Rattle.pec_points.specs.ReceptionReading.{reception_of}
use Rattle.pec_points.specs.declared.reception.Arrived.{Arrived}
use Rattle.pec_ledger.specs.Lookups.{accepted_at, charged_of, decided_of, is_acked, is_home, known_of, taken_of}
use Rattle.pec_ledger.specs.Pairs.{pair_of}
use Rattle.pec_ledger.specs.Steps.{half}
use Rattle.pec_ledger.specs.Trade.{Framed, Receipt, Trade}
use Rattle.pec_plays.specs.Reception.{ack_fits, charge_fits, envelope_fits, has_pair, is_outcome_path, outcome_fits}
use Rattle.pec_plays.specs.Reception.{same_path}
use Rattle.pec_plays.specs.TableSight.{a_charge, an_ack, an_envelope, an_outcome}
use Rattle.pec_reception.specs.Standings.{standing_of, unasked}
use Rattle.pec_reception.specs.declared.standing.Standing.{Standing}
use Rattle.pec_reception.specs.declared.standing.Standing.TheVariants.{New, Known, Foreign}

-- a letter is one for the provider or isn't, and was had before or wasn't
abbrev pub stands_as : Bool → Bool → Standing
stands_as false had = Foreign
stands_as true false = New
stands_as true true = Known

-- ---- the rows of one kind

rows_are : (new known : FrameRow) → standing_of (received_by new) ≡ New → standing_of (received_by known) ≡ Known
    → (fits had : Bool)
    → standing_of (received_by
    (unwrap_or (cond (fits && not had) (Some new) (cond (fits && had) (Some known) (Some NoRoom))) NoRoom))
    ≡ stands_as fits had
rows_are new known n k false had = refl
rows_are new known n k true false = n
rows_are new known n k true true = k

-- ---- tests

same_number : (a : ℕ) (t : Bool) → ((a == a) && t) ≡ t
same_number a t = ap (λ s. s && t) (eq-eqb a a refl)

turned : (a b : ℕ) → (a == b) ≡ (b == a)
turned a b = same_from_decides {P = a ≡ b} (a == b) (b == a) (λ e. eqb-true a b e, λ e. eq-eqb a b e)
    (λ e. sym (eqb-true b a e), λ e. eq-eqb b a (sym e))

home_turned : (a : ℕ) (home : Option ℕ) → points.is_home a home ≡ is_home a home
home_turned a None = refl
home_turned a (Some b) = turned b a

exchanged : (a b t : Bool) → (a && (b && t)) ≡ (b && (a && t))
exchanged true true t = refl
exchanged true false t = refl
exchanged false true t = refl
exchanged false false t = refl

-- ---- the four kinds

-- how it stands, when what was seen is told in other words
stands_there : (s r : Standing) (number me : ℕ) (a seen : Arrived) → standing_of (reception_of me seen) ≡ r
    → number ≡ me → a ≡ seen → s ≡ standing_of (reception_of number a) → s ≡ r
stands_there s r number me a seen table n e is =
    is ∙ ap (λ (k : ℕ). standing_of (reception_of k a)) n ∙ ap (λ (x : Arrived). standing_of (reception_of me x)) e
    ∙ table

module _ (trade : Trade) (me : ℕ) (journal : List Entry) (framed : Framed) where
  envelope_table : (id : Id)
      → standing_of (reception_of me (unasked (an_envelope trade me journal framed id)))
      ≡ stands_as (envelope_fits trade me framed) (is_some (taken_of (half trade me journal) id))
  unfolding reception_of
  envelope_table id =
      let had = is_some (taken_of (half trade me journal) id)
      in rows_are NewEnvelope KnownEnvelope refl refl
      ((id.provider == id.provider) && envelope_fits trade me framed) had
      ∙ ap (λ fits. stands_as fits had) (same_number id.provider (envelope_fits trade me framed))

  charge_table : (now : ℕ) (receipt : Receipt)
      → standing_of (reception_of me (unasked (a_charge trade me journal framed receipt)))
      ≡ stands_as (charge_fits trade me now journal framed receipt)
      (is_some (charged_of (half trade me journal) receipt.id receipt.by))
  unfolding reception_of
  charge_table now receipt =
      let had = is_some (charged_of (half trade me journal) receipt.id receipt.by)
      in rows_are NewCharge KnownCharge refl refl
      ((receipt.by == receipt.by) && charge_fits trade me now journal framed receipt) had
      ∙ ap (λ fits. stands_as fits had) (same_number receipt.by (charge_fits trade me now journal framed receipt))

  outcome_table : (now : ℕ) (receipt : Receipt) (recipient : Bytes) (decision : Decision)
      → standing_of (reception_of me (unasked (an_outcome trade me journal framed receipt decision (Some recipient))))
      ≡ stands_as (outcome_fits trade me now journal framed receipt recipient decision)
      (is_some (known_of (half trade me journal) (pair_of receipt.id recipient)))
  unfolding reception_of
  outcome_table now receipt recipient decision =
      let had = is_some (known_of (half trade me journal) (pair_of receipt.id recipient))
      in let ours = receipt.id.provider == me
      in let home = points.is_home receipt.by (trade.home recipient)
      in let message = accepted_at (half trade me journal) receipt.id.number
      in let there = has_pair trade recipient message && is_outcome_path trade receipt.id decision framed.path message
      in rows_are NewOutcome KnownOutcome refl refl (home && (ours && there)) had
      ∙ ap (λ fits. stands_as fits had) (exchanged home ours there
      ∙ ap (λ t. ours && (t && there)) (home_turned receipt.by (trade.home recipient)))

  ack_table : (now : ℕ) (receipt : Receipt) (recipient : Bytes)
      → standing_of (reception_of me (unasked (an_ack trade me journal framed receipt (Some recipient))))
      ≡ stands_as (ack_fits trade me now journal framed receipt recipient)
      (is_acked (half trade me journal) (pair_of receipt.id recipient))
  unfolding reception_of
  ack_table now receipt recipient =
      let had = is_acked (half trade me journal) (pair_of receipt.id recipient)
      in let sealed = receipt.by == receipt.id.provider
      in let there = is_some (decided_of (half trade me journal) (pair_of receipt.id recipient)) && same_path
      framed.path (trade.receipts me ∷ [])
      in rows_are NewAck KnownAck refl refl (sealed && (points.is_home me (trade.home recipient) && there)) had
      ∙ ap (λ fits. stands_as fits had) (ap (λ t. sealed && (t && there)) (home_turned me (trade.home recipient)))

  pub envelope_stands : (id : Id) (s : Standing) (number : ℕ) (a : Arrived) → number ≡ me
      → a ≡ unasked (an_envelope trade me journal framed id)
      → s ≡ standing_of (reception_of number a) → s ≡ stands_as (envelope_fits trade me framed)
      (is_some (taken_of (half trade me journal) id))
  envelope_stands id s number a n e is =
      stands_there s (stands_as (envelope_fits trade me framed) (is_some (taken_of (half trade me journal) id))) number
      me a
      (unasked (an_envelope trade me journal framed id)) (envelope_table id) n e is

  pub charge_stands : (now : ℕ) (receipt : Receipt) (s : Standing) (number : ℕ) (a : Arrived) → number ≡ me
      → a ≡ unasked (a_charge trade me journal framed receipt) → s ≡ standing_of (reception_of number a)
      → s ≡ stands_as (charge_fits trade me now journal framed receipt)
      (is_some (charged_of (half trade me journal) receipt.id receipt.by))
  charge_stands now receipt s number a n e is =
      stands_there s (stands_as (charge_fits trade me now journal framed receipt)
      (is_some (charged_of (half trade me journal) receipt.id receipt.by))) number me a
      (unasked (a_charge trade me journal framed receipt)) (charge_table now receipt) n e is

  pub outcome_stands : (now : ℕ) (receipt : Receipt) (recipient : Bytes) (decision : Decision) (s : Standing) (number : ℕ) (a : Arrived)
      → number ≡ me
      → a ≡ unasked (an_outcome trade me journal framed receipt decision (Some recipient))
      → s ≡ standing_of (reception_of number a)
      → s ≡ stands_as (outcome_fits trade me now journal framed receipt recipient decision)
      (is_some (known_of (half trade me journal) (pair_of receipt.id recipient)))
  outcome_stands now receipt recipient decision s number a n e is =
      stands_there s (stands_as (outcome_fits trade me now journal framed receipt recipient decision)
      (is_some (known_of (half trade me journal) (pair_of receipt.id recipient)))) number me a
      (unasked (an_outcome trade me journal framed receipt decision (Some recipient)))
      (outcome_table now receipt recipient decision) n e is

  pub ack_stands : (now : ℕ) (receipt : Receipt) (recipient : Bytes) (s : Standing) (number : ℕ) (a : Arrived)
      → number ≡ me
      → a ≡ unasked (an_ack trade me journal framed receipt (Some recipient)) → s ≡ standing_of (reception_of number a)
      → s ≡ stands_as (ack_fits trade me now journal framed receipt recipient)
      (is_acked (half trade me journal) (pair_of receipt.id recipient))
  ack_stands now receipt recipient s number a n e is =
      stands_there s (stands_as (ack_fits trade me now journal framed receipt recipient)
      (is_acked (half trade me journal) (pair_of receipt.id recipient))) number me a
      (unasked (an_ack trade me journal framed receipt (Some recipient))) (ack_table now receipt recipient) n e is
