-- A trade of a directory is one whose directory and heads are the directory's.
use Rattle.std.proofs.Common.{◌≡◌, ℕ, Bool, false, List, [], ◌∷◌, length, arith, Option, None, refl, sym, subst}
use Rattle.std.proofs.Math.Path.{fun_ext}
use Rattle.pec_types.specs.Bytes.{Bytes, Path}
use Rattle.pec_types.specs.declared.messages.Facts.{Facts}
use Rattle.pec_directory.specs.Directory.{Kept, providers_of}
use Rattle.pec_ledger.specs.OfDirectory.{IsOf}
use Rattle.pec_ledger.specs.Trade.{Trade}
use Rattle.pec_shelf.specs.Settled.{settled}

with_all : (trade : Trade) (n : ℕ) (d : Bytes) (h : Bytes → Option ℕ) (a : ℕ → Bytes → Bool) (q : Bytes → ℕ) (f : Bytes → Option Facts) (r : Bytes → Path)
    → trade.providers ≡ n → trade.digest ≡ d → trade.home ≡ h → trade.is_account ≡ a → trade.quota ≡ q → trade.facts ≡ f → trade.envelope_recipients ≡ r
    → trade ≡ record trade { providers = n; digest = d; home = h; is_account = a; quota = q; facts = f; envelope_recipients = r }
with_all trade n d h a q f r en ed eh ea eq ef er =
    subst (λ x. trade ≡ record trade { providers = x; digest = d; home = h; is_account = a; quota = q; facts = f; envelope_recipients = r }) en
    (subst (λ x. trade ≡ record trade { digest = x; home = h; is_account = a; quota = q; facts = f; envelope_recipients = r }) ed
    (subst (λ x. trade ≡ record trade { home = x; is_account = a; quota = q; facts = f; envelope_recipients = r }) eh
    (subst (λ x. trade ≡ record trade { is_account = x; quota = q; facts = f; envelope_recipients = r }) ea
    (subst (λ x. trade ≡ record trade { quota = x; facts = f; envelope_recipients = r }) eq
    (subst (λ x. trade ≡ record trade { facts = x; envelope_recipients = r }) ef
    (subst (λ x. trade ≡ record trade { envelope_recipients = x }) er refl))))))

pub settled_is : (kept : List Kept) (trade : Trade) → IsOf kept trade → trade ≡ settled kept trade
settled_is kept trade of =
    with_all trade _ _ _ _ _ _ _ of.providers of.digest (fun_ext of.home) (fun_ext (λ p. fun_ext (of.is_account p))) (fun_ext of.quota) (fun_ext of.facts) (fun_ext of.envelope_recipients)

-- what holds of the settled trade, where it is one of the directory, holds of the trade
pub from_settled : (kept : List Kept) (trade : Trade) (P : Trade → Type 0) → IsOf kept trade → P (settled kept trade) → P trade
from_settled kept trade P of h = subst P (sym (settled_is kept trade of)) h

pub into_settled : (kept : List Kept) (trade : Trade) (P : Trade → Type 0) → IsOf kept trade → P trade → P (settled kept trade)
into_settled kept trade P of h = subst P (settled_is kept trade of) h

pub settled_of : (kept : List Kept) (trade : Trade) → IsOf kept (settled kept trade)
settled_of kept trade = record {
  providers = refl;
  digest = refl;
  home = λ address. refl;
  is_account = λ provider address. refl;
  quota = λ address. refl;
  facts = λ message. refl;
  envelope_recipients = λ message. refl;
}

-- a trade of which nothing is said
some_trade : Trade
some_trade = record {
  providers = 0;
  digest = [];
  home = λ address. None;
  is_account = λ provider address. false;
  quota = λ address. 0;
  receipts = λ provider. [];
  facts = λ message. None;
  envelope_recipients = λ message. [];
  cause = λ provider account path message. None;
  unframed = λ frame. None;
  framed = λ path message. None;
  opens = λ message. false;
  view = λ message. None;
  envelope_text = λ id moment original. [];
  receipt_text = λ receipt original. [];
  refusal_text = λ id moment sender cause path message. [];
  anomaly_text = λ provider entry moment message. [];
}

pub trade_of : (kept : List Kept) → (trade : Trade) × IsOf kept trade
trade_of kept = (settled kept some_trade, settled_of kept some_trade)

pub providers_counted : (kept : List Kept) → length (providers_of kept) ≡ length kept
providers_counted [] = refl
providers_counted (one ∷ kept) = omega (arith, providers_counted kept)
