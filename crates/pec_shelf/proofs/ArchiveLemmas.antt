-- What an entry that archives an item asks of a half: the item stands in its mailbox.
use Rattle.std.proofs.Common.{◌≡◌, ◌↔◌, ℕ, suc, zero, ◌<◌, ◌≤◌, List, [], ◌∷◌, Bool, true, false, length, sym, subst, ◌∙◌, arith, Option, Some, None, IsTrue, is_some, slice_get}
use Rattle.std.specs.Option.{IfSome, option_map, option_to_list}
use Rattle.std.proofs.lemmas.Bool.{false≢true}
use Rattle.std.proofs.lemmas.Option.{slice_get_within}
use Rattle.pec_types.specs.Bytes.{Bytes}
use Rattle.pec_records.specs.declared.entries.Entry.{Entry}
use Rattle.pec_records.specs.declared.entries.Entry.TheVariants as entries
use Rattle.pec_ledger.specs.Half.{Half, Move}
use Rattle.pec_ledger.specs.Lookups.{mailbox}
use Rattle.pec_ledger.specs.Own.{Own}
use Rattle.pec_ledger.specs.Steps.{moves_by}
use Rattle.pec_ledger.specs.Trade.{Trade}

abbrev the_move : Bytes → ℕ → Move
the_move account place = record { account = account; place = place }

not_one : {X : Type 0} (x : X) → x ∷ [] ≡ [] → ⊥
not_one x e = cc

same_first : {X : Type 0} (x y : X) → x ∷ [] ≡ y ∷ [] → x ≡ y
same_first x y e = cc

none_there : (half : Half) (moved : Option Move) → option_to_list moved ≡ []
    → IfSome moved (λ (row : Move). row.place < length (mailbox half row.account))
none_there half None e = tt
none_there half (Some row) e = absurd (not_one row e)

one_there : (half : Half) (account : Bytes) (place : ℕ) (moved : Option Move) → option_to_list moved ≡ the_move account place ∷ []
    → place < length (mailbox half account) → IfSome moved (λ (row : Move). row.place < length (mailbox half row.account))
one_there half account place None e l = absurd (not_one (the_move account place) (sym e))
one_there half account place (Some row) e l =
    subst (λ (m : Move). m.place < length (mailbox half m.account)) (sym (same_first row (the_move account place) e)) l

-- what an entry moves stands in its mailbox
pub may_move : (trade : Trade) (me : ℕ) (half : Half) (entry : Entry) (moved : Option Move) → Own trade me half entry
    → option_to_list moved ≡ moves_by entry → IfSome moved (λ (row : Move). row.place < length (mailbox half row.account))
may_move trade me half (entries.Archived moment account place) moved own e = one_there half account place moved e own.2
may_move trade me half (entries.Start number digest) moved own e = none_there half moved e
may_move trade me half entry moved own e = none_there half moved e

-- ---- what stands at a place

got_some : {X : Type 0} (xs : List X) (n : ℕ) → n < length xs → slice_get xs n ≡ None → ⊥
got_some [] n l e = omega (arith, l)
got_some (x ∷ xs) zero l e = cc
got_some (x ∷ xs) (suc n) l e = got_some xs n (omega (arith, l)) e

-- something is found at a place exactly where the list is longer
pub found_there : {X Y : Type 0} (found : Option X) (f : X → Y) (xs : List Y) (n : ℕ) (b : Bool)
    → option_map f found ≡ slice_get xs n → b ≡ is_some found → IsTrue b ↔ (n < length xs)
found_there None f xs n b e is = (λ t. absurd (false≢true (sym is ∙ t)), λ l. absurd (got_some xs n l (sym e)))
found_there (Some x) f xs n b e is = (λ t. slice_get_within xs n (f x) (sym e), λ l. is)

-- what is there or isn't is one at most
pub one_at_most : {X : Type 0} (o : Option X) → length (option_to_list o) ≤ 1
one_at_most None = omega arith
one_at_most (Some x) = omega arith
