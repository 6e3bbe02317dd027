-- The sender's side of a pair, over the recipients that are kept, is that of the ledger where they are the trade's.
use Rattle.std.proofs.Common.{◌≡◌, ℕ, ◌==◌, Bool, true, false, cond, ◌⊎◌, inl, inr, List, [], ◌∷◌, map, refl, ap, ◌∙◌, Option, Some, None, is_some, unwrap_or, slice_get}
use Rattle.std.specs.List.{cons_option, filter_map, list_any}
use Rattle.std.specs.Option.{option_and_then, option_map}
use Rattle.std.specs.Str.{bytes_eq}
use Rattle.std.specs.Cmp.Lexicographic.{bytes_decides}
use Rattle.pec_types.specs.Bytes.{Bytes, Path}
use Rattle.pec_types.specs.declared.messages.Facts.{Facts}
use Rattle.pec_types.specs.declared.messages.Recipient.{Recipient}
use Rattle.pec_ledger.specs.Half.{Half, Message}
use Rattle.pec_ledger.specs.Lookups.{Accepted, accepted_at, accepted_of, certified}
use Rattle.pec_ledger.specs.Pairs.{Pair}
use Rattle.pec_ledger.specs.Trade.{Trade}
use Rattle.pec_shelf.specs.PairRows.{home_in, not_sent, received, received_half, row_of, row_with, sent, sent_half, sent_to, with_recipient}
use Rattle.pec_shelf.specs.Seen.{IsFor, Seen, certified_at, certified_by, certified_in, certified_of}
use Rattle.pec_shelf.specs.declared.certified.Certified.{Certified}
use Rattle.pec_shelf.specs.declared.pair_rows.ReceivedHalf.{ReceivedHalf}
use Rattle.pec_shelf.specs.declared.pair_rows.Row.{Row}
use Rattle.pec_shelf.specs.declared.pair_rows.SentHalf.{SentHalf}
use Rattle.pec_shelf.proofs.OwnLemmas.{kept_at}

-- an address isn't certified, and has no home among those that are kept; or it is, and its home is the trade's
abbrev Told : Trade → Bytes → Path → Option ℕ → Type 0
Told trade a names home =
    ((list_any (bytes_eq a) names ≡ false) × (home ≡ None))
    ⊎ ((h : ℕ) × (list_any (bytes_eq a) names ≡ true) × (trade.home a ≡ Some h) × (home ≡ Some h))

told_here : (trade : Trade) (a x : Bytes) (names : Path) (h : ℕ) (cs : List Certified) (c : Certified) → trade.home x ≡ Some h → c.address ≡ x → c.home ≡ h
    → Told trade a names (home_in a cs) → (same : Bool) → bytes_eq a x ≡ same → Told trade a (x ∷ names) (home_in a (c ∷ cs))
told_here trade a x names h cs c e is at told true s =
    inr (h, rw s refl, ap trade.home ((bytes_decides a x).0 s) ∙ e, rw (is, s) (ap Some at))
told_here trade a x names h cs c e is at told false s = rw (is, s) told

told_step : (trade : Trade) (a : Bytes) (r : Recipient) (names : Path) (cs : List Certified) → Told trade a names (home_in a cs)
    → (own : Option ℕ) → trade.home r.address ≡ own
    → Told trade a (cond (is_some own) (r.address ∷ names) names) (home_in a (cons_option (option_map (certified_at r) own) cs))
told_step trade a r names cs told None e = told
told_step trade a r names cs told (Some h) e =
    told_here trade a r.address names h cs (certified_at r h) e refl refl told (bytes_eq a r.address) refl

told_all : (trade : Trade) (a : Bytes) (rs : List Recipient)
    → Told trade a (certified trade (map (λ (recipient : Recipient). recipient.address) rs)) (home_in a (filter_map (certified_of trade) rs))
told_all trade a [] = inl (refl, refl)
told_all trade a (r ∷ rs) = told_step trade a r _ _ (told_all trade a rs) (trade.home r.address) refl

abbrev as_accepted : Message → Facts → Accepted
as_accepted m facts = record { moment = m.moment; sender = m.sender; facts = facts; entry = m.entry }

half_told : (trade : Trade) (half : Half) (pair : Pair) (m : Message) (facts : Facts) (home : Option ℕ)
    → Told trade pair.recipient (certified trade (map (λ (recipient : Recipient). recipient.address) facts.recipients)) home
    → sent_to half pair (Some m) home ≡ sent_half trade half pair (with_recipient trade pair.recipient (as_accepted m facts))
half_told trade half pair m facts home (inl (absent, none)) = rw (absent, none) refl
half_told trade half pair m facts home (inr (h, listed, at, some)) = rw (listed, at, some) refl

facts_told : (trade : Trade) (half : Half) (pair : Pair) (m : Message) (facts : Option Facts) → m.facts ≡ facts
    → sent_to half pair (Some m) (home_in pair.recipient (certified_in trade facts))
    ≡ sent_half trade half pair (option_and_then (with_recipient trade pair.recipient) (option_map (as_accepted m) facts))
facts_told trade half pair m None e = refl
facts_told trade half pair m (Some facts) e = half_told trade half pair m facts _ (told_all trade pair.recipient facts.recipients)

message_told : (trade : Trade) (half : Half) (pair : Pair) (m : Option Message)
    → sent_to half pair m (home_in pair.recipient (unwrap_or (option_map (certified_by trade) m) []))
    ≡ sent_half trade half pair (option_and_then (with_recipient trade pair.recipient) (option_and_then accepted_of m))
message_told trade half pair None = refl
message_told trade half pair (Some m) = facts_told trade half pair m m.facts refl

own_told : (trade : Trade) (shelf : Seen) (pair : Pair) → IsFor trade shelf → (ours : Bool)
    → cond ours (sent_to shelf.half pair (slice_get shelf.half.messages pair.id.number) (home_in pair.recipient (unwrap_or (slice_get shelf.certified pair.id.number) []))) not_sent
    ≡ sent_half trade shelf.half pair (cond ours (option_and_then (with_recipient trade pair.recipient) (accepted_at shelf.half pair.id.number)) None)
own_told trade shelf pair for true =
    ap (λ (o : Option (List Certified)). sent_to shelf.half pair (slice_get shelf.half.messages pair.id.number) (home_in pair.recipient (unwrap_or o [])))
    (kept_at trade shelf pair.id.number for)
    ∙ message_told trade shelf.half pair (slice_get shelf.half.messages pair.id.number)
own_told trade shelf pair for false = refl

-- the sender's side of a pair is that of the ledger
pub sent_is : (trade : Trade) (shelf : Seen) (pair : Pair) (side : SentHalf) → IsFor trade shelf
    → side ≡ cond (pair.id.provider == shelf.me)
    (sent_to shelf.half pair (slice_get shelf.half.messages pair.id.number) (home_in pair.recipient (unwrap_or (slice_get shelf.certified pair.id.number) []))) not_sent
    → side ≡ sent_half trade shelf.half pair (sent trade shelf.me shelf.half pair)
sent_is trade shelf pair side for is = is ∙ own_told trade shelf pair for (pair.id.provider == shelf.me)

pub row_is : (trade : Trade) (shelf : Seen) (pair : Pair) (side : SentHalf) (other : ReceivedHalf) (row : Option Row) → IsFor trade shelf
    → side ≡ cond (pair.id.provider == shelf.me)
    (sent_to shelf.half pair (slice_get shelf.half.messages pair.id.number) (home_in pair.recipient (unwrap_or (slice_get shelf.certified pair.id.number) []))) not_sent
    → other ≡ received_half shelf.half pair (received shelf.half pair) → row ≡ row_with side other → row ≡ row_of trade shelf.me shelf.half pair
unfolding row_of
row_is trade shelf pair side other row for s r is =
    is ∙ ap (λ (x : SentHalf). row_with x other) (sent_is trade shelf pair side for s) ∙ ap (row_with (sent_half trade shelf.half pair (sent trade shelf.me shelf.half pair))) r
