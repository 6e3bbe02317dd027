-- The small world meets all laws.
use Rattle.std.proofs.Common.{◌≡◌, ℕ, ◌<◌, ◌≤◌, [], ◌∷◌, Bool, true, false, not, ◌&&◌, ◌||◌, cond, length, refl, ap, sym, subst, ◌∙◌, arith, nat_lt, nat_le, Option, Some, None}
use Rattle.std.specs.Prelude.{IsTrue, is_some, ◌==◌, if◌then◌else◌}
use Rattle.std.specs.List.{list_any}
use Rattle.std.specs.Str.{bytes_eq}
use Rattle.std.proofs.lemmas.Bool.{and_parts, eqb-true, false≢true, leb-true, le-leb, lt-ltb, ltb-true}
use Rattle.std.proofs.lemmas.List.{drop_at, length-map, take_at}
use Rattle.std.proofs.lemmas.Option.{none-some, same_Some}
use Rattle.std.proofs.lemmas.Slice.Eq.{bytes_eq-Decides}
use Rattle.pec_types.specs.Bytes.{Bytes, Path}
use Rattle.pec_types.specs.Message.{Id}
use Rattle.pec_types.specs.declared.messages.Cause.{Cause}
use Rattle.pec_types.specs.declared.messages.Cause.TheVariants as causes
use Rattle.pec_types.specs.declared.messages.Facts.{Facts}
use Rattle.pec_types.specs.declared.messages.Recipient.{Recipient}
use Rattle.pec_types.specs.declared.messages.Refusal.TheVariants as refusals
use Rattle.pec_types.specs.declared.receipts.Kind.{Kind}
use Rattle.pec_types.specs.declared.receipts.Kind.TheVariants as kinds
use Rattle.pec_ledger.specs.Along.{AllDiffer, StandsNotIn}
use Rattle.pec_ledger.specs.Lookups.{addresses_of}
use Rattle.pec_ledger.specs.Pairs.{id_of}
use Rattle.pec_ledger.specs.SmallWorld.{frame_along, framed_behind, framed_in, path_before, with_address, address, all_differ, cause_in, envelope_in, facts_from, facts_in, has_account, home_in, kind_at, kind_code, path_in, receipt_in, recipient_at, recipient_text, seen_in, small, unless_twice}
use Rattle.pec_ledger.specs.Trade.{Framed, Receipt, Seen, SeenEnvelope, SeenReceipt}
use Rattle.pec_ledger.specs.TradeLaws.{CanBeComposed, IsOfKind, IsTrade}

-- ---- the directory

home_of : (provider number : ℕ) (b : Bool) → nat_lt provider 2 ≡ b → cond b (Some provider) None ≡ Some number → (number < 2)
home_of provider number true e f = subst (λ n. n < 2) (same_Some provider number f) (ltb-true provider 2 e)
home_of provider number false e f = absurd (none-some number f)

homes : (a : Bytes) (p : ℕ) → home_in a ≡ Some p → p < 2
homes [] p e = absurd (none-some p e)
homes (q ∷ rest) p e = home_of q p (nat_lt q 2) refl e

accounts : (p : ℕ) (a : Bytes) → IsTrue (has_account p a) → home_in a ≡ Some p
accounts p [] e = absurd (false≢true e)
accounts p (q ∷ []) e = absurd (false≢true e)
accounts p (q ∷ n ∷ []) e =
    let parts = and_parts (q == p) (nat_lt q 2 && nat_lt n 9) e
    in let below = and_parts (nat_lt q 2) (nat_lt n 9) parts.1
    in ap (λ (b : Bool). cond b (Some q) None) below.0 ∙ ap (λ k. Some k) (eqb-true q p parts.0)
accounts p (q ∷ n ∷ m ∷ rest) e = absurd (false≢true e)

-- ---- heads

stands_not : (a : Bytes) (others : Path) → list_any (bytes_eq a) others ≡ false → StandsNotIn a others
stands_not a [] e = tt
stands_not a (b ∷ others) e = ((λ same. both (bytes_eq a b) (list_any (bytes_eq a) others) e ((bytes_eq-Decides a b).1 same)), stands_not a others (later (bytes_eq a b) (list_any (bytes_eq a) others) e))
  where
    both : (x y : Bool) → (x || y) ≡ false → x ≡ true → ⊥
    both true y e f = false≢true (sym e)
    both false y e f = false≢true f

    later : (x y : Bool) → (x || y) ≡ false → y ≡ false
    later false y e = e
    later true y e = absurd (false≢true (sym e))

negated : (b : Bool) → not b ≡ true → b ≡ false
negated true e = sym e
negated false e = refl

they_differ : (path : Path) → all_differ path ≡ true → AllDiffer path
they_differ [] e = tt
they_differ (a ∷ others) e =
    let parts = and_parts (not (list_any (bytes_eq a) others)) (all_differ others) e
    in (stands_not a others (negated (list_any (bytes_eq a) others) parts.0), they_differ others parts.1)

only_once : (made facts : Facts) (b : Bool) → all_differ (addresses_of made) ≡ b → unless_twice b made ≡ Some facts → AllDiffer (addresses_of facts)
only_once made facts true e f = subst (λ (x : Facts). AllDiffer (addresses_of x)) (same_Some made facts f) (they_differ (addresses_of made) e)
only_once made facts false e f = absurd (none-some facts f)

differ : (message : Bytes) (facts : Facts) → facts_in message ≡ Some facts → AllDiffer (addresses_of facts)
differ [] facts e = absurd (none-some facts e)
differ (p ∷ []) facts e = absurd (none-some facts e)
differ (p ∷ n ∷ rest) facts e = only_once (facts_from (address p n) rest) facts (all_differ (addresses_of (facts_from (address p n) rest))) refl e

-- ---- admission

abbrev Admits : Option Facts → Bytes → ℕ → Type 0
Admits found sender longest = (facts : Facts) × (found ≡ Some facts) × (facts.sender ≡ sender)
    × (cause_in found sender (addresses_of facts) ≡ None) × (length facts.recipients ≤ longest)

enough : (facts : Facts) → nat_le (length facts.recipients) (length (addresses_of facts)) ≡ true
enough facts =
    le-leb (length facts.recipients) (length (addresses_of facts))
    (let e = length-map facts.recipients (λ (r : Recipient). r.address) in omega (arith, e))

admits : (facts : Facts) (sender : Bytes) (path : Path) (same fits : Bool) → bytes_eq facts.sender sender ≡ same → nat_le (length facts.recipients) (length path) ≡ fits
    → (if same then (if fits then None else Some (let c : Cause = causes.ForwardPath in c)) else Some causes.ReversePath) ≡ None → Admits (Some facts) sender (length path)
admits facts sender path true true s f e = (
  facts,
  refl,
  (bytes_eq-Decides facts.sender sender).0 s,
  rw (s, enough facts) refl,
  leb-true (length facts.recipients) (length path) f,
)
admits facts sender path true false s f e = absurd (none-some causes.ForwardPath (sym e))
admits facts sender path false fits s f e = absurd (none-some causes.ReversePath (sym e))

admitted : (found : Option Facts) (sender : Bytes) (path : Path) → cause_in found sender path ≡ None → Admits found sender (length path)
admitted None sender path e = absurd (none-some causes.Head (sym e))
admitted (Some facts) sender path e =
    admits facts sender path (bytes_eq facts.sender sender) (nat_le (length facts.recipients) (length path)) refl refl e

-- ---- letters

seen_so : (provider number moment : ℕ) (original : Bytes) → provider < 2
    → seen_in (1 ∷ provider ∷ number ∷ moment ∷ original) ≡ Some (SeenEnvelope (id_of provider number) moment original)
seen_so provider number moment original l = ap (λ (b : Bool). cond b (Some (SeenEnvelope (id_of provider number) moment original)) None) (lt-ltb provider 2 l)

below_two : (provider other : ℕ) (a b : Seen) (t : Bool) → nat_lt provider 2 ≡ t → cond t (Some a) None ≡ Some b → provider < 2
below_two provider other a b true e f = ltb-true provider 2 e
below_two provider other a b false e f = absurd (none-some b f)

of_envelope : (rest : Bytes) (id : Id) (moment : ℕ) (original : Bytes) → envelope_in rest ≡ Some (SeenEnvelope id moment original) → id.provider < 2
of_envelope [] id moment original e = absurd (none-some (SeenEnvelope id moment original) e)
of_envelope (p ∷ []) id moment original e = absurd (none-some (SeenEnvelope id moment original) e)
of_envelope (p ∷ n ∷ []) id moment original e = absurd (none-some (SeenEnvelope id moment original) e)
of_envelope (p ∷ n ∷ t ∷ o) id moment original e = seen_of p n t o id moment original (nat_lt p 2) refl e
  where
    seen_of : (p n t : ℕ) (o : Bytes) (id : Id) (moment : ℕ) (original : Bytes) (b : Bool) → nat_lt p 2 ≡ b
        → cond b (Some (SeenEnvelope (id_of p n) t o)) None ≡ Some (SeenEnvelope id moment original) → id.provider < 2
    seen_of p n t o id moment original true e f =
        let g = same_Some (SeenEnvelope (id_of p n) t o) (SeenEnvelope id moment original) f
        in let h : id_of p n ≡ id = cc
        in subst (λ (i : Id). i.provider < 2) h (ltb-true p 2 e)
    seen_of p n t o id moment original false e f = absurd (none-some (SeenEnvelope id moment original) f)

no_envelope : (rest : Bytes) (id : Id) (moment : ℕ) (original : Bytes) → receipt_in rest ≡ Some (SeenEnvelope id moment original) → ⊥
no_envelope [] id moment original e = none-some (SeenEnvelope id moment original) e
no_envelope (a ∷ []) id moment original e = none-some (SeenEnvelope id moment original) e
no_envelope (a ∷ b ∷ []) id moment original e = none-some (SeenEnvelope id moment original) e
no_envelope (a ∷ b ∷ c ∷ []) id moment original e = none-some (SeenEnvelope id moment original) e
no_envelope (a ∷ b ∷ c ∷ d ∷ []) id moment original e = none-some (SeenEnvelope id moment original) e
no_envelope (a ∷ b ∷ c ∷ d ∷ f ∷ rest) id moment original e = cc

by_tag : (rest : Bytes) (id : Id) (moment : ℕ) (original : Bytes) (one two : Bool)
    → (if one then envelope_in rest else (if two then receipt_in rest else None)) ≡ Some (SeenEnvelope id moment original) → id.provider < 2
by_tag rest id moment original true two e = of_envelope rest id moment original e
by_tag rest id moment original false true e = absurd (no_envelope rest id moment original e)
by_tag rest id moment original false false e = absurd (none-some (SeenEnvelope id moment original) e)

envelope_of : (message : Bytes) (id : Id) (moment : ℕ) (original : Bytes) → seen_in message ≡ Some (SeenEnvelope id moment original) → id.provider < 2
envelope_of [] id moment original e = absurd (none-some (SeenEnvelope id moment original) e)
envelope_of (what ∷ rest) id moment original e = by_tag rest id moment original (what == 1) (what == 2) e

-- ---- receipts

recipient_back : (recipient : Option Bytes) → recipient_at (recipient_text recipient) ≡ recipient
recipient_back None = refl
recipient_back (Some a) = refl

kind_back : (facts : Facts) (kind : Kind) (receipt : Receipt) → IsOfKind small facts kind receipt → kind_at (kind_code kind) ≡ kind
kind_back facts kinds.Acceptance receipt is = refl
kind_back facts (kinds.NonAcceptance cause) receipt is = absurd is
kind_back facts kinds.Charge receipt is = refl
kind_back facts kinds.Delivery receipt is = refl
kind_back facts (kinds.DeliveryError refusals.NoMailbox) receipt is = refl
kind_back facts (kinds.DeliveryError refusals.MailboxFull) receipt is = refl
kind_back facts (kinds.DeliveryError refusals.Virus) receipt is = refl
kind_back facts kinds.Warning receipt is = refl
kind_back facts kinds.Notice receipt is = refl
kind_back facts kinds.LateNotice receipt is = refl
kind_back facts kinds.Ack receipt is = refl
kind_back facts kinds.VirusFound receipt is = refl

receipts_same : (a b : Kind) (id : Id) (by moment : ℕ) (r s : Option Bytes) → a ≡ b → r ≡ s
    → (let x : Receipt = record { kind = a; id = id; by = by; moment = moment; recipient = r } in let y : Receipt = record { kind = b; id = id; by = by; moment = moment; recipient = s } in x ≡ y)
receipts_same a b id by moment r s e f = rw (e, f) refl

receipt_seen : (receipt : Receipt) (original : Bytes) → CanBeComposed small receipt original
    → seen_in (2 ∷ kind_code receipt.kind ∷ receipt.id.provider ∷ receipt.id.number ∷ receipt.by ∷ receipt.moment ∷ recipient_text receipt.recipient) ≡ Some (SeenReceipt receipt)
receipt_seen receipt original can =
    ap (λ (r : Receipt). Some (SeenReceipt r))
    (receipts_same (kind_at (kind_code receipt.kind)) receipt.kind receipt.id receipt.by receipt.moment (recipient_at (recipient_text receipt.recipient)) receipt.recipient
    (kind_back can.sent.facts receipt.kind receipt can.kind) (recipient_back receipt.recipient))

-- ---- frames

framed_back : (path : Path) (message : Bytes) → framed_behind (length path) (path_before path message) ≡ record { path = path; message = message }
framed_back [] message = refl
framed_back (one ∷ others) message =
    let rest = path_before others message
    in rw (take_at one rest (length one) refl, drop_at one rest (length one) refl) (ap (with_address one) (framed_back others message))

frames_back : (path : Path) (message frame : Bytes) → frame_along path message ≡ Some frame → framed_in frame ≡ Some (record { path = path; message = message })
frames_back [] message frame e = absurd (none-some frame e)
frames_back (one ∷ others) message frame e =
    subst (λ (f : Bytes). framed_in f ≡ Some (record { path = one ∷ others; message = message }))
    (same_Some (length (one ∷ others) ∷ path_before (one ∷ others) message) frame e) (ap (λ (x : Framed). Some x) (framed_back (one ∷ others) message))

pub small_is_trade : IsTrade small
small_is_trade = record {
  homes = homes;
  accounts = accounts;
  recipients_differ = differ;
  admitted = λ p sender path message e. admitted (facts_in message) sender path e;
  envelope_seen = λ id moment original sent range. seen_so id.provider id.number moment original sent.provider;
  envelope_names = λ id moment original sent range. ap path_in sent.are;
  envelope_of = envelope_of;
  receipt_seen = receipt_seen;
  refusal_seen = λ id moment sender cause path message l n a s f range seen e. absurd (none-some seen e);
  anomaly_seen = λ p entry moment message l range. refl;
  nothing_seen = refl;
  seen_opens = λ message seen e. ap is_some e;
  frames = frames_back;
}
