-- What is answered on a letter by how it stands: the rows of one kind of letter, of which one is for what is none, one
-- for what is new and one for what was had before.
use Rattle.std.proofs.Common.{◌≡◌, ℕ, List, Bool, true, false, refl, sym, subst, Option, Some, None}
use Rattle.std.specs.Prelude.{is_some}
use Rattle.pec_types.specs.declared.messages.Refusal.{Refusal}
use Rattle.pec_types.specs.declared.receipts.Kind.{Kind}
use Rattle.pec_types.specs.declared.receipts.Kind.TheVariants as kinds
use Rattle.pec_records.specs.declared.entries.Entry.{Entry}
use Rattle.pec_ledger.specs.Trade.{Framed, Receipt, Trade}
use Rattle.pec_plays.specs.Reception.{by_receipt, otherwise}
use Rattle.pec_plays.specs.Steps.{Step}
use Rattle.pec_reception.proofs.TableLemmas.{stands_as}
use Rattle.pec_reception.specs.Shows.{Shows}
use Rattle.pec_reception.specs.declared.received.Received.{Received}
use Rattle.pec_reception.specs.declared.standing.Standing.TheVariants.{New, Known, Foreign}

-- ---- rows by a look-up

new_row : {X : Type 0} (rows : Bool → Option X → Step) (fits : Bool) (found : Option X)
    → New ≡ stands_as fits (is_some found) → rows fits found ≡ rows true None
new_row rows false found e = absurd (cc)
new_row rows true None e = refl
new_row rows true (Some x) e = absurd (cc)

known_row : {X : Type 0} (rows : Bool → Option X → Step) (fits : Bool) (found : Option X)
    → Known ≡ stands_as fits (is_some found)
    → (x : X) × (rows fits found ≡ rows true (Some x))
known_row rows false found e = absurd (cc)
known_row rows true None e = absurd (cc)
known_row rows true (Some x) e = (x, refl)

foreign_row : {X : Type 0} (rows : Bool → Option X → Step) (fits : Bool) (found : Option X)
    → Foreign ≡ stands_as fits (is_some found) → rows fits found ≡ rows false found
foreign_row rows false found e = refl
foreign_row rows true None e = absurd (cc)
foreign_row rows true (Some x) e = absurd (cc)

pub shows_new : {X : Type 0} (rows : Bool → Option X → Step) (fits : Bool) (found : Option X)
    (received given : Received)
    → received ≡ given → New ≡ stands_as fits (is_some found) → Shows given (rows true None)
    → Shows received (rows fits found)
shows_new rows fits found received given r e shows =
    subst (λ (x : Received). Shows x (rows fits found)) (sym r) (subst (λ (s : Step). Shows given s)
    (sym (new_row rows fits found e)) shows)

pub shows_known : {X : Type 0} (rows : Bool → Option X → Step) (fits : Bool) (found : Option X)
    (received given : Received)
    → received ≡ given → Known ≡ stands_as fits (is_some found) → ((x : X) → Shows given (rows true (Some x)))
    → Shows received (rows fits found)
shows_known rows fits found received given r e shows =
    let row = known_row rows fits found e
    in subst (λ (x : Received). Shows x (rows fits found)) (sym r) (subst (λ (s : Step). Shows given s) (sym row.1)
    (shows row.0))

pub is_foreign : {X : Type 0} (rows : Bool → Option X → Step) (fits : Bool) (found : Option X)
    → Foreign ≡ stands_as fits (is_some found) → rows fits found ≡ rows false found
is_foreign rows fits found e = foreign_row rows fits found e

-- ---- rows by a test

shows_row : (rows : Bool → Bool → Step) (fits had : Bool) (given : Received) → New ≡ stands_as fits had
    → Shows given (rows true false) → Shows given (rows fits had)
shows_row rows false had given e shows = absurd (cc)
shows_row rows true false given e shows = shows
shows_row rows true true given e shows = absurd (cc)

shows_again : (rows : Bool → Bool → Step) (fits had : Bool) (given : Received) → Known ≡ stands_as fits had
    → Shows given (rows true true) → Shows given (rows fits had)
shows_again rows false had given e shows = absurd (cc)
shows_again rows true false given e shows = absurd (cc)
shows_again rows true true given e shows = shows

pub shows_new_by : (rows : Bool → Bool → Step) (fits had : Bool) (received given : Received) → received ≡ given
    → New ≡ stands_as fits had → Shows given (rows true false) → Shows received (rows fits had)
shows_new_by rows fits had received given r e shows =
    subst (λ (x : Received). Shows x (rows fits had)) (sym r) (shows_row rows fits had given e shows)

pub shows_known_by : (rows : Bool → Bool → Step) (fits had : Bool) (received given : Received) → received ≡ given
    → Known ≡ stands_as fits had → Shows given (rows true true) → Shows received (rows fits had)
shows_known_by rows fits had received given r e shows =
    subst (λ (x : Received). Shows x (rows fits had)) (sym r) (shows_again rows fits had given e shows)

pub is_foreign_by : (rows : Bool → Bool → Step) (fits had : Bool) → Foreign ≡ stands_as fits had
    → rows fits had ≡ rows false had
is_foreign_by rows false had e = refl
is_foreign_by rows true false e = absurd (cc)
is_foreign_by rows true true e = absurd (cc)

-- ---- receipts that are no letters

pub no_letter : (trade : Trade) (me now : ℕ) (journal : List Entry) (framed : Framed) (receipt : Receipt) (kind : Kind)
    → (kind ≡ kinds.Charge → ⊥) → (kind ≡ kinds.Delivery → ⊥)
    → ((refusal : Refusal) → kind ≡ kinds.DeliveryError refusal → ⊥) → (kind ≡ kinds.VirusFound → ⊥) → (kind ≡ kinds.Ack → ⊥)
    → by_receipt trade me now journal framed receipt kind ≡ otherwise trade me now journal framed
no_letter trade me now journal framed receipt kinds.Acceptance a b c d e = refl
no_letter trade me now journal framed receipt (kinds.NonAcceptance cause) a b c d e = refl
no_letter trade me now journal framed receipt kinds.Charge a b c d e = absurd (a refl)
no_letter trade me now journal framed receipt kinds.Delivery a b c d e = absurd (b refl)
no_letter trade me now journal framed receipt (kinds.DeliveryError refusal) a b c d e = absurd (c refusal refl)
no_letter trade me now journal framed receipt kinds.Warning a b c d e = refl
no_letter trade me now journal framed receipt kinds.Notice a b c d e = refl
no_letter trade me now journal framed receipt kinds.LateNotice a b c d e = refl
no_letter trade me now journal framed receipt kinds.VirusFound a b c d e = absurd (d refl)
no_letter trade me now journal framed receipt kinds.Ack a b c d e = absurd (e refl)
