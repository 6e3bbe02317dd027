-- What is a step in one world of a directory is one in every world of it.
use Rattle.std.proofs.Common.{◌≡◌, ℕ, Bool, List, [], ◌∷◌, length, inl, inr, refl, sym, subst, Option}
use Rattle.std.proofs.Math.Path.{fun_ext}
use Rattle.pec_types.specs.Bytes.{Bytes, Path}
use Rattle.pec_types.specs.declared.messages.Facts.{Facts}
use Rattle.pec_directory.specs.Directory.{Kept}
use Rattle.pec_records.specs.declared.entries.Entry.{Entry}
use Rattle.pec_records.specs.declared.entries.Entry.TheVariants as entries
use Rattle.pec_ledger.specs.Half.{Half}
use Rattle.pec_ledger.specs.OfDirectory.{IsOf}
use Rattle.pec_ledger.specs.Own.{MayDecide, Own, decision_at}
use Rattle.pec_ledger.specs.Trade.{Trade}
use Rattle.pec_shelf.specs.Prepared.{IsStep}
use Rattle.pec_shelf.specs.Settled.{settled}

with_all : (trade : Trade) (n : ℕ) (d : Bytes) (h : Bytes → Option ℕ) (a : ℕ → Bytes → Bool) (q : Bytes → ℕ) (f : Bytes → Option Facts) (r : Bytes → Path)
    → trade.providers ≡ n → trade.digest ≡ d → trade.home ≡ h → trade.is_account ≡ a → trade.quota ≡ q → trade.facts ≡ f → trade.envelope_recipients ≡ r
    → trade ≡ record trade { providers = n; digest = d; home = h; is_account = a; quota = q; facts = f; envelope_recipients = r }
with_all trade n d h a q f r en ed eh ea eq ef er =
    subst (λ x. trade ≡ record trade { providers = x; digest = d; home = h; is_account = a; quota = q; facts = f; envelope_recipients = r }) en
    (subst (λ x. trade ≡ record trade { digest = x; home = h; is_account = a; quota = q; facts = f; envelope_recipients = r }) ed
    (subst (λ x. trade ≡ record trade { home = x; is_account = a; quota = q; facts = f; envelope_recipients = r }) eh
    (subst (λ x. trade ≡ record trade { is_account = x; quota = q; facts = f; envelope_recipients = r }) ea
    (subst (λ x. trade ≡ record trade { quota = x; facts = f; envelope_recipients = r }) eq
    (subst (λ x. trade ≡ record trade { facts = x; envelope_recipients = r }) ef
    (subst (λ x. trade ≡ record trade { envelope_recipients = x }) er refl))))))

settled_is : (kept : List Kept) (trade : Trade) → IsOf kept trade → trade ≡ settled kept trade
settled_is kept trade of =
    with_all trade _ _ _ _ _ _ _ of.providers of.digest (fun_ext of.home) (fun_ext (λ p. fun_ext (of.is_account p))) (fun_ext of.quota) (fun_ext of.facts) (fun_ext of.envelope_recipients)

-- the conditions of an entry ask the directory and heads alone
own_so : (kept : List Kept) (one other : Trade) (me : ℕ) (half : Half) (entry : Entry) → Own (settled kept one) me half entry
    → Own (settled kept other) me half entry
unfolding decision_at
own_so kept one other me half (entries.Start provider digest) own = own
own_so kept one other me half (entries.Accepted moment sender message) own =
    (own.0, own.1, record { facts = own.2.facts; are = own.2.are; sent = own.2.sent; few = own.2.few })
own_so kept one other me half (entries.NotAccepted moment sender cause path message) own = own
own_so kept one other me half (entries.Took moment id message) own = own
own_so kept one other me half (entries.Decided moment id recipient decision) own =
    (record { row = own.0.row; taken = own.0.taken; recipient = own.0.recipient }, own.1, own.2)
own_so kept one other me half (entries.Charged moment id by) own = own
own_so kept one other me half (entries.Learned moment id recipient decision decided message) own =
    (record { ours = own.0.ours; message = own.0.message; accepted = own.0.accepted; recipient = own.0.recipient }, own.1)
own_so kept one other me half (entries.Acked moment id recipient) own = own
own_so kept one other me half (entries.Ticked moment) own = own
own_so kept one other me half (entries.Anomaly moment accounts message) own = own
own_so kept one other me half (entries.StartTwo provider digest) own = own
own_so kept one other me half (entries.Upgraded moment) own = own
own_so kept one other me half (entries.Archived moment account place) own = own

pub same_step : (kept : List Kept) (one other : Trade) → IsOf kept one → IsOf kept other → (me : ℕ) (half : Half) (entry : Entry)
    → IsStep one me half entry → IsStep other me half entry
same_step kept one other of also me half entry is = record {
  own = subst (λ (t : Trade). Own t me half entry) (sym (settled_is kept other also))
      (own_so kept one other me half entry (subst (λ (t : Trade). Own t me half entry) (settled_is kept one of) is.own));
  in_time = is.in_time;
}
