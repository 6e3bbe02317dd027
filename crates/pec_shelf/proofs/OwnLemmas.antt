-- What the certified recipients that a shelf keeps say of its messages' pairs.
use Rattle.std.proofs.Common.{◌≡◌, ◌↔◌, ℕ, zero, suc, ◌==◌, Bool, true, false, ◌||◌, ◌⊎◌, inl, inr, List, [], ◌∷◌, map, refl, sym, ap, subst, ◌∙◌, arith, Option, Some, None, IsTrue, IsSome, unwrap_or, slice_get, Contains}
use Rattle.std.specs.List.{cons_option, filter_map, list_any}
use Rattle.std.specs.Option.{option_and_then, option_map}
use Rattle.std.specs.Str.{bytes_eq}
use Rattle.std.specs.Cmp.Lexicographic.{bytes_decides}
use Rattle.std.proofs.lemmas.Bool.{false≢true}
use Rattle.std.proofs.lemmas.Bool.Decides.{nat_tests}
use Rattle.std.proofs.lemmas.Option.{slice_get-map}
use Rattle.pec_types.specs.Bytes.{Bytes, Path}
use Rattle.pec_types.specs.declared.messages.Facts.{Facts}
use Rattle.pec_types.specs.declared.messages.Recipient.{Recipient}
use Rattle.pec_ledger.specs.Half.{Half, Message}
use Rattle.pec_ledger.specs.Lookups.{Accepted, HasPair, HasPairsAt, accepted_at, accepted_of, addresses_of}
use Rattle.pec_ledger.specs.Trade.{Trade}
use Rattle.pec_shelf.specs.Lines.{is_at, is_for}
use Rattle.pec_shelf.specs.Seen.{IsFor, Seen, certified_at, certified_by, certified_in, certified_of}
use Rattle.pec_shelf.specs.declared.certified.Certified.{Certified}
use mathlib.Core.Logic.{⊎_elim}

here : {X : Type 0} (x : X) (xs : List X) → Contains (x ∷ xs) x
here x xs = (0, omega arith, refl)

there : {X : Type 0} (y : X) (xs : List X) (x : X) → Contains xs x → Contains (y ∷ xs) x
there y xs x (k, l, e) = (suc k, omega arith, e)

first_or_later : {X : Type 0} (y : X) (xs : List X) (x : X) → Contains (y ∷ xs) x → (y ≡ x) ⊎ Contains xs x
first_or_later y xs x (zero, l, e) = inl e
first_or_later y xs x (suc k, l, e) = inr (k, omega arith, e)

in_none : {X : Type 0} (x : X) → Contains [] x → ⊥
in_none x (k, l, e) = omega arith

or_true : (a b : Bool) → a || b ≡ true → (a ≡ true) ⊎ (b ≡ true)
or_true true b e = inl refl
or_true false b e = inr e

or_left : (a b : Bool) → a ≡ true → a || b ≡ true
or_left true b e = refl
or_left false b e = absurd (false≢true e)

or_right : (a b : Bool) → b ≡ true → a || b ≡ true
or_right true b e = refl
or_right false b e = e

none_some : {X : Type 0} (x : X) → None ≡ Some x → ⊥
none_some x e = cc

same_some : {X : Type 0} (x y : X) → Some x ≡ Some y → x ≡ y
same_some x y e = cc

-- ---- a recipient that passes a test, and has a home

-- some certified recipient passes a test of its address and its home
abbrev Found : Trade → (Bytes → ℕ → Bool) → Path → Type 0
Found trade test names = (a : Bytes) × Contains names a × ((home : ℕ) × (trade.home a ≡ Some home) × (test a home ≡ true))

abbrev of_test : (Bytes → ℕ → Bool) → Certified → Bool
of_test test c = test c.address c.home

found_step : (trade : Trade) (test : Bytes → ℕ → Bool) (r : Recipient) (rs : List Recipient)
    → (list_any (of_test test) (filter_map (certified_of trade) rs) ≡ true → Found trade test (map (λ (recipient : Recipient). recipient.address) rs))
    → (home : Option ℕ) → trade.home r.address ≡ home
    → list_any (of_test test) (cons_option (option_map (certified_at r) home) (filter_map (certified_of trade) rs)) ≡ true
    → Found trade test (r.address ∷ map (λ (recipient : Recipient). recipient.address) rs)
found_step trade test r rs more None e t =
    let found = more t in
    (found.0, there r.address _ found.0 found.1, found.2)
found_step trade test r rs more (Some home) e t =
    ⊎_elim
    (λ first. (r.address, here r.address _, (home, e, first)))
    (λ later. let found = more later in (found.0, there r.address _ found.0 found.1, found.2))
    (or_true (test r.address home) (list_any (of_test test) (filter_map (certified_of trade) rs)) t)

found : (trade : Trade) (test : Bytes → ℕ → Bool) (rs : List Recipient) → list_any (of_test test) (filter_map (certified_of trade) rs) ≡ true
    → Found trade test (map (λ (recipient : Recipient). recipient.address) rs)
found trade test [] t = absurd (false≢true t)
found trade test (r ∷ rs) t = found_step trade test r rs (found trade test rs) (trade.home r.address) refl t

met_step : (trade : Trade) (test : Bytes → ℕ → Bool) (r : Recipient) (rs : List Recipient) (a : Bytes) (home : ℕ) → trade.home a ≡ Some home → test a home ≡ true
    → (r.address ≡ a) ⊎ (list_any (of_test test) (filter_map (certified_of trade) rs) ≡ true)
    → (own : Option ℕ) → trade.home r.address ≡ own
    → list_any (of_test test) (cons_option (option_map (certified_at r) own) (filter_map (certified_of trade) rs)) ≡ true
met_step trade test r rs a home e t (inl same) None f = absurd (none_some home (sym f ∙ ap trade.home same ∙ e))
met_step trade test r rs a home e t (inl same) (Some own) f =
    or_left (test r.address own) _ (ap (λ x. test x own) same ∙ ap (test a) (same_some own home (sym f ∙ ap trade.home same ∙ e)) ∙ t)
met_step trade test r rs a home e t (inr later) None f = later
met_step trade test r rs a home e t (inr later) (Some own) f = or_right (test r.address own) _ later

met : (trade : Trade) (test : Bytes → ℕ → Bool) (rs : List Recipient) (a : Bytes) (home : ℕ) → trade.home a ≡ Some home → test a home ≡ true
    → Contains (map (λ (recipient : Recipient). recipient.address) rs) a → list_any (of_test test) (filter_map (certified_of trade) rs) ≡ true
met trade test [] a home e t c = absurd (in_none a c)
met trade test (r ∷ rs) a home e t c =
    met_step trade test r rs a home e t
    (⊎_elim (λ same. inl same) (λ later. inr (met trade test rs a home e t later)) (first_or_later r.address _ a c))
    (trade.home r.address) refl

-- ---- the message of a number

pub kept_at : (trade : Trade) (shelf : Seen) (n : ℕ) → IsFor trade shelf → slice_get shelf.certified n ≡ option_map (certified_by trade) (slice_get shelf.half.messages n)
kept_at trade shelf n for = ap (λ c. slice_get c n) for ∙ slice_get-map (certified_by trade) shelf.half.messages n

abbrev as_accepted : Message → Facts → Accepted
as_accepted m facts = record { moment = m.moment; sender = m.sender; facts = facts; entry = m.entry }

-- the accepted message of a number, and a recipient of it that passes a test
abbrev FoundAt : Trade → Half → ℕ → (Bytes → ℕ → Bool) → Type 0
FoundAt trade half n test = (message : Accepted) × (accepted_at half n ≡ Some message) × Found trade test (addresses_of message.facts)

facts_found : (trade : Trade) (half : Half) (n : ℕ) (test : Bytes → ℕ → Bool) (m : Message) → slice_get half.messages n ≡ Some m → (facts : Option Facts) → m.facts ≡ facts
    → list_any (of_test test) (certified_in trade facts) ≡ true → FoundAt trade half n test
facts_found trade half n test m e None f t = absurd (false≢true t)
facts_found trade half n test m e (Some facts) f t = (as_accepted m facts, rw (e, f) refl, found trade test facts.recipients t)

message_found : (trade : Trade) (half : Half) (n : ℕ) (test : Bytes → ℕ → Bool) (m : Option Message) → slice_get half.messages n ≡ m
    → list_any (of_test test) (unwrap_or (option_map (certified_by trade) m) []) ≡ true → FoundAt trade half n test
message_found trade half n test None e t = absurd (false≢true t)
message_found trade half n test (Some m) e t = facts_found trade half n test m e m.facts refl t

facts_met : (trade : Trade) (test : Bytes → ℕ → Bool) (m : Message) (message : Accepted) (a : Bytes) (home : ℕ) → trade.home a ≡ Some home → test a home ≡ true
    → Contains (addresses_of message.facts) a → (facts : Option Facts) → option_map (as_accepted m) facts ≡ Some message
    → list_any (of_test test) (certified_in trade facts) ≡ true
facts_met trade test m message a home e t c None f = absurd (none_some message f)
facts_met trade test m message a home e t c (Some facts) f =
    let same = ap (λ (x : Accepted). x.facts) (same_some (as_accepted m facts) message f) in
    met trade test facts.recipients a home e t (subst (λ (x : Facts). Contains (addresses_of x) a) (sym same) c)

message_met : (trade : Trade) (test : Bytes → ℕ → Bool) (message : Accepted) (a : Bytes) (home : ℕ) → trade.home a ≡ Some home → test a home ≡ true
    → Contains (addresses_of message.facts) a → (m : Option Message) → option_and_then accepted_of m ≡ Some message
    → list_any (of_test test) (unwrap_or (option_map (certified_by trade) m) []) ≡ true
message_met trade test message a home e t c None f = absurd (none_some message f)
message_met trade test message a home e t c (Some m) f = facts_met trade test m message a home e t c m.facts f

-- ---- what the code asks

as_true : (b : Bool) → IsTrue b → b ≡ true
as_true b t = t

truth : (b : Bool) → b ≡ true → IsTrue b
truth b e = e

home_there : (o : Option ℕ) → IsSome o → (home : ℕ) × (o ≡ Some home)
home_there None s = absurd (false≢true s)
home_there (Some home) s = (home, refl)

some_home : (o : Option ℕ) (home : ℕ) → o ≡ Some home → IsSome o
some_home o home e = rw e refl

same_number : (a b : ℕ) → (a == b) ≡ true → a ≡ b
same_number a b e = grind (arith, nat_tests)

own_number : (a : ℕ) → (a == a) ≡ true
own_number a = grind (arith, nat_tests)

-- some pair of the message is at a provider
pub pairs_at : (trade : Trade) (shelf : Seen) (n by : ℕ) (b : Bool) → IsFor trade shelf → b ≡ list_any (is_at by) (unwrap_or (slice_get shelf.certified n) []) → IsTrue b
    → (message : Accepted) × (accepted_at shelf.half n ≡ Some message) × HasPairsAt trade message by
pairs_at trade shelf n by b for is t =
    let all = ap (λ (o : Option (List Certified)). list_any (is_at by) (unwrap_or o [])) (kept_at trade shelf n for) in
    let f = message_found trade shelf.half n (λ a home. by == home) (slice_get shelf.half.messages n) refl (sym all ∙ sym is ∙ as_true b t) in
    (f.0, f.1, (f.2.0, f.2.1, f.2.2.1 ∙ ap Some (sym (same_number by f.2.2.0 f.2.2.2))))

pub pairs_at_back : (trade : Trade) (shelf : Seen) (n by : ℕ) (b : Bool) → IsFor trade shelf → b ≡ list_any (is_at by) (unwrap_or (slice_get shelf.certified n) [])
    → (message : Accepted) × (accepted_at shelf.half n ≡ Some message) × HasPairsAt trade message by → IsTrue b
pairs_at_back trade shelf n by b for is (message, accepted, pairs) =
    let all = ap (λ (o : Option (List Certified)). list_any (is_at by) (unwrap_or o [])) (kept_at trade shelf n for) in
    truth b (is ∙ all ∙ message_met trade (λ a home. by == home) message pairs.0 by pairs.2 (own_number by) pairs.1 (slice_get shelf.half.messages n) accepted)

-- an address is one of a pair of the message
pub pair_at : (trade : Trade) (shelf : Seen) (n : ℕ) (a : Bytes) (b : Bool) → IsFor trade shelf → b ≡ list_any (is_for a) (unwrap_or (slice_get shelf.certified n) []) → IsTrue b
    → (message : Accepted) × (accepted_at shelf.half n ≡ Some message) × HasPair trade message a
pair_at trade shelf n a b for is t =
    let all = ap (λ (o : Option (List Certified)). list_any (is_for a) (unwrap_or o [])) (kept_at trade shelf n for) in
    let f = message_found trade shelf.half n (λ x home. bytes_eq a x) (slice_get shelf.half.messages n) refl (sym all ∙ sym is ∙ as_true b t) in
    let same = (bytes_decides a f.2.0).0 f.2.2.2 in
    (f.0, f.1, (subst (λ x. Contains (addresses_of f.0.facts) x) (sym same) f.2.1, some_home (trade.home a) f.2.2.0 (ap trade.home same ∙ f.2.2.1)))

pub pair_at_back : (trade : Trade) (shelf : Seen) (n : ℕ) (a : Bytes) (b : Bool) → IsFor trade shelf → b ≡ list_any (is_for a) (unwrap_or (slice_get shelf.certified n) [])
    → (message : Accepted) × (accepted_at shelf.half n ≡ Some message) × HasPair trade message a → IsTrue b
pair_at_back trade shelf n a b for is (message, accepted, pair) =
    let all = ap (λ (o : Option (List Certified)). list_any (is_for a) (unwrap_or o [])) (kept_at trade shelf n for) in
    let home = home_there (trade.home a) pair.1 in
    truth b
    (is ∙ all
    ∙ message_met trade (λ x own. bytes_eq a x) message a home.0 home.1 ((bytes_decides a a).1 refl) pair.0 (slice_get shelf.half.messages n) accepted)

-- ---- addresses of a list

among : (a : Bytes) (xs : Path) → list_any (bytes_eq a) xs ≡ true → Contains xs a
among a [] t = absurd (false≢true t)
among a (x ∷ xs) t =
    ⊎_elim (λ first. subst (λ y. Contains (x ∷ xs) y) (sym ((bytes_decides a x).0 first)) (here x xs)) (λ later. there x xs a (among a xs later))
    (or_true (bytes_eq a x) (list_any (bytes_eq a) xs) t)

among_back : (a : Bytes) (xs : Path) → Contains xs a → list_any (bytes_eq a) xs ≡ true
among_back a [] c = absurd (in_none a c)
among_back a (x ∷ xs) c =
    ⊎_elim (λ same. or_left (bytes_eq a x) _ ((bytes_decides a x).1 (sym same))) (λ later. or_right (bytes_eq a x) _ (among_back a xs later)) (first_or_later x xs a c)

pub among_is : (a : Bytes) (xs : Path) (b : Bool) → b ≡ list_any (bytes_eq a) xs → IsTrue b ↔ Contains xs a
among_is a xs b e = (λ t. among a xs (sym e ∙ t), λ c. e ∙ among_back a xs c)
