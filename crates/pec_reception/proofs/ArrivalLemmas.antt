-- What is seen of a letter, kind by kind, from what the shelf and the directory answer.
use Rattle.std.proofs.Common.{◌≡◌, ℕ, List, [], ◌∷◌, Bool, true, ◌&&◌, length, refl, ap, ◌∙◌, Option, Some, None}
use Rattle.std.specs.Prelude.{is_some, nat_lt, option_map}
use Rattle.pec_types.specs.Bytes.{Bytes, Path}
use Rattle.pec_types.specs.Message.{Id}
use Rattle.pec_types.specs.declared.letters.Letter.{Letter}
use Rattle.pec_types.specs.declared.letters.Letter.TheVariants as letters
use Rattle.pec_types.specs.declared.messages.Decision.{Decision}
use Rattle.pec_records.specs.declared.entries.Entry.{Entry}
use Rattle.pec_directory.specs.Directory.{Kept}
use Rattle.pec_seal.specs.Seals.{Seals}
use Rattle.pec_points.specs.declared.reception.Arrived.{Arrived}
use Rattle.pec_ledger.specs.Half.{Half}
use Rattle.pec_ledger.specs.Lookups.{accepted_at, at_home, charged_of, decided_of, is_acked, known_of, taken_of}
use Rattle.pec_ledger.specs.OfDirectory.{IsOf}
use Rattle.pec_ledger.specs.Pairs.{pair_of}
use Rattle.pec_ledger.specs.Steps.{half}
use Rattle.pec_ledger.specs.Trade.{Framed, Receipt, Trade}
use Rattle.pec_plays.specs.Reception.{has_pair, has_pairs_at, is_outcome_path, same_path}
use Rattle.pec_plays.specs.TableSight.{a_charge, an_ack, an_envelope, an_outcome}
use Rattle.pec_trade.specs.TradeOf.{trade_of}
use Rattle.pec_reception.specs.Standings.{unasked}

-- the trade of a directory is one of it
pub of_directory : (kept : List Kept) (seals : Seals) → IsOf kept (trade_of kept seals)
of_directory kept seals = record {
  providers = refl;
  digest = refl;
  home = λ address. refl;
  is_account = λ provider address. refl;
  quota = λ address. refl;
  facts = λ message. refl;
  envelope_recipients = λ message. refl;
}

-- something is found exactly where its row is
pub is_there : {A B : Type 0} (f : A → B) (found : Option A) (row : Option B) (there : Bool)
    → there ≡ is_some found → option_map f found ≡ row → there ≡ is_some row
is_there f None row there e rows = e ∙ ap is_some rows
is_there f (Some x) row there e rows = e ∙ ap is_some rows

-- a path that is compared with the address for receipts, in other words
pub receipts_path : (trade : Trade) (me number : ℕ) (framed path : Path) (fits : Bool) → path ≡ framed → number ≡ me
    → fits ≡ same_path path (trade.receipts number ∷ []) → fits ≡ same_path framed (trade.receipts me ∷ [])
receipts_path trade me number framed path fits p n e =
    e ∙ ap (λ (x : Path). same_path x (trade.receipts number ∷ [])) p
    ∙ ap (λ (k : ℕ). same_path framed (trade.receipts k ∷ [])) n

-- Each is given as the code has it: numbers and copies that are those of the receipt.
module _ (trade : Trade) (me : ℕ) (journal : List Entry) (framed : Framed) (h : Half)
    (is : h ≡ half trade me journal) where
  abbrev pub envelope_in : Id → ℕ → ℕ → Bool → Bool → Arrived
  envelope_in id to provider fits had = record {
    letter = Some (letters.Envelope id to);
    sealer = provider;
    id_provider = provider;
    recipient_home = None;
    path_fits = fits;
    row_there = true;
    done = had;
    accounts_with_room = 0;
  }

  pub envelope_seen : (id : Id) (to provider : ℕ) (here : Path) (fits had : Bool) → to ≡ me → provider ≡ id.provider
      → here ≡ at_home trade me (trade.envelope_recipients framed.message)
      → fits ≡ (same_path framed.path here && nat_lt 0 (length here)) → had ≡ is_some (taken_of h id)
      → envelope_in id to provider fits had ≡ unasked (an_envelope trade me journal framed id)
  envelope_seen id to provider here fits had t p a b c = rw (t, p, b, a, c, is) refl

  abbrev pub charge_in : Id → ℕ → ℕ → Bool → Bool → Bool → Arrived
  charge_in id by provider fits there had = record {
    letter = Some (letters.Charge id by);
    sealer = by;
    id_provider = provider;
    recipient_home = None;
    path_fits = fits;
    row_there = there;
    done = had;
    accounts_with_room = 0;
  }

  pub charge_seen : (receipt : Receipt) (by provider number : ℕ) (fits there had : Bool)
      → by ≡ receipt.by → provider ≡ receipt.id.provider → number ≡ receipt.id.number
      → fits ≡ same_path framed.path (trade.receipts me ∷ []) → there ≡ has_pairs_at trade by (accepted_at h number)
      → had ≡ is_some (charged_of h receipt.id by)
      → charge_in receipt.id by provider fits there had ≡ unasked (a_charge trade me journal framed receipt)
  charge_seen receipt by provider number fits there had b p n x y z = rw (x, y, z, b, p, n, is) refl

  abbrev pub named_in : Letter → ℕ → ℕ → Option ℕ → Bool → Bool → Bool → Arrived
  named_in letter by provider home fits there had = record {
    letter = Some letter;
    sealer = by;
    id_provider = provider;
    recipient_home = home;
    path_fits = fits;
    row_there = there;
    done = had;
    accounts_with_room = 0;
  }

  pub outcome_seen : (receipt : Receipt) (recipient copy : Bytes) (decision : Decision) (by provider number : ℕ)
      (home : Option ℕ) (fits there had : Bool)
      → copy ≡ recipient → by ≡ receipt.by → provider ≡ receipt.id.provider → number ≡ receipt.id.number
      → home ≡ trade.home recipient
      → fits ≡ is_outcome_path trade receipt.id decision framed.path (accepted_at h receipt.id.number)
      → there ≡ has_pair trade recipient (accepted_at h number)
      → had ≡ is_some (known_of h (pair_of receipt.id recipient))
      → named_in (letters.Outcome receipt.id copy) by provider home fits there had
      ≡ unasked (an_outcome trade me journal framed receipt decision (Some recipient))
  outcome_seen receipt recipient copy decision by provider number home fits there had c b p n w x y z = rw
      (w, x, y, z, c, b, p, n, is) refl

  pub ack_seen : (receipt : Receipt) (recipient copy : Bytes) (by provider : ℕ) (home : Option ℕ)
      (fits there had : Bool)
      → copy ≡ recipient → by ≡ receipt.by → provider ≡ receipt.id.provider → home ≡ trade.home recipient
      → fits ≡ same_path framed.path (trade.receipts me ∷ [])
      → there ≡ is_some (decided_of h (pair_of receipt.id recipient))
      → had ≡ is_acked h (pair_of receipt.id recipient)
      → named_in (letters.Ack receipt.id copy) by provider home fits there had ≡ unasked
      (an_ack trade me journal framed receipt (Some recipient))
  ack_seen receipt recipient copy by provider home fits there had c b p w x y z = rw (w, x, y, z, c, b, p, is) refl
