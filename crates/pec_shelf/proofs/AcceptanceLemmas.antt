-- The acceptances of a half are those of the pairs that a shelf keeps, where the homes that are kept are the trade's.
use Rattle.std.proofs.Common.{◌≡◌, ℕ, cond, List, [], ◌∷◌, ◌++◌, map, refl, sym, ap, ◌∙◌, Option, Some, None, is_some, filter, flat_map}
use Rattle.std.specs.List.{cons_option, filter_map}
use Rattle.std.specs.Option.{option_map}
use Rattle.std.proofs.lemmas.Option.{same_Some}
use Rattle.pec_types.specs.Bytes.{Bytes, Path}
use Rattle.pec_types.specs.declared.messages.Facts.{Facts}
use Rattle.pec_types.specs.declared.messages.Recipient.{Recipient}
use Rattle.pec_ledger.specs.Deadlines.{acceptances, acceptances_of}
use Rattle.pec_ledger.specs.Half.{Half, Message}
use Rattle.pec_ledger.specs.Lookups.{accepted_of}
use Rattle.pec_ledger.specs.Trade.{Trade}
use Rattle.pec_shelf.specs.Deadlines.{IsSideOf, IsWatched, Watch, accepted_in, clock_at}
use Rattle.pec_shelf.specs.Looked.{acceptances_seen}
use Rattle.pec_shelf.specs.Seen.{IsFor, Seen, certified_at, certified_by, certified_in, certified_of}
use Rattle.pec_shelf.specs.Sides.{Kept, Sent, certified_of_rows, messages_of}
use Rattle.pec_shelf.specs.declared.certified.Certified.{Certified}
use Rattle.pec_shelf.specs.declared.deadlines.Clock.{Clock}
use Rattle.pec_shelf.proofs.PairingLemmas.{moments_kept}

one_more : (trade : Trade) (at : ℕ) (r : Recipient) (xs : List Certified) (ys : Path)
    → map (λ (one : Certified). at) xs ≡ map (λ (recipient : Bytes). at) ys → (home : Option ℕ)
    → map (λ (one : Certified). at) (cons_option (option_map (certified_at r) home) xs)
    ≡ map (λ (recipient : Bytes). at) (cond (is_some home) (r.address ∷ ys) ys)
one_more trade at r xs ys more None = more
one_more trade at r xs ys more (Some home) = ap (λ (ms : List ℕ). at ∷ ms) more

of_recipients : (trade : Trade) (at : ℕ) (rs : List Recipient)
    → map (λ (one : Certified). at) (filter_map (certified_of trade) rs)
    ≡ map (λ (recipient : Bytes). at) (filter (λ (address : Bytes). is_some (trade.home address)) (map (λ (recipient : Recipient). recipient.address) rs))
of_recipients trade at [] = refl
of_recipients trade at (r ∷ rs) = one_more trade at r _ _ (of_recipients trade at rs) (trade.home r.address)

of_message : (trade : Trade) (message : Message) (facts : Option Facts) → message.facts ≡ facts
    → map (λ (one : Certified). message.moment) (certified_in trade facts) ≡ acceptances_of trade (accepted_of message)
of_message trade message None e = rw e refl
of_message trade message (Some facts) e = rw e (of_recipients trade message.moment facts.recipients)

of_messages : (trade : Trade) (messages : List Message)
    → accepted_in messages (map (certified_by trade) messages) ≡ flat_map (λ (message : Message). acceptances_of trade (accepted_of message)) messages
of_messages trade [] = refl
of_messages trade (message ∷ messages) =
    ap (λ (ms : List ℕ). ms ++ accepted_in messages (map (certified_by trade) messages)) (of_message trade message message.facts refl)
    ∙ ap (λ (ms : List ℕ). acceptances_of trade (accepted_of message) ++ ms) (of_messages trade messages)

pub acceptances_are : (trade : Trade) (half : Half) (rows : List Kept) → messages_of rows ≡ half.messages
    → certified_of_rows rows ≡ map (certified_by trade) half.messages → acceptances trade half ≡ accepted_in (messages_of rows) (certified_of_rows rows)
acceptances_are trade half rows messages homes =
    sym (of_messages trade half.messages) ∙ ap (accepted_in half.messages) (sym homes)
    ∙ ap (λ (ms : List Message). accepted_in ms (certified_of_rows rows)) (sym messages)

-- the acceptances that are seen of a shelf are the half's
pub seen_are : (trade : Trade) (shelf : Seen) → IsFor trade shelf → acceptances_seen shelf ≡ acceptances trade shelf.half
seen_are trade shelf for = ap (accepted_in shelf.half.messages) for ∙ of_messages trade shelf.half.messages

-- they are those over which the cursors go
pub watched_are : (shelf : Seen) (watch : Watch) (last : ℕ) (sent : Sent) → IsWatched watch last sent → IsSideOf shelf.me shelf.half sent
    → certified_of_rows sent.messages ≡ shelf.certified → acceptances_seen shelf ≡ watch.moments
watched_are shelf watch last sent watched side homes =
    ap (accepted_in shelf.half.messages) (sym homes) ∙ ap (λ (ms : List Message). accepted_in ms (certified_of_rows sent.messages)) (sym side.messages)
    ∙ sym (moments_kept 0 sent.messages) ∙ sym watched.moments

-- where the cursors stand, as it was told
pub clock_is : (now : ℕ) (seen watched : List ℕ) (told : Option Clock) (clock : Clock) → told ≡ Some (clock_at now seen) → told ≡ Some clock → seen ≡ watched
    → clock ≡ clock_at now watched
clock_is now seen watched told clock is some are = same_Some clock (clock_at now seen) (sym some ∙ is) ∙ ap (clock_at now) are
