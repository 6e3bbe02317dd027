-- An account that a directory finds is that of the address.
use Rattle.std.proofs.Common.{◌≡◌, Bool, true, false, cond, List, [], ◌∷◌, find, refl, sym, subst, Some, None}
use Rattle.std.specs.Str.{bytes_eq}
use Rattle.std.specs.Cmp.Lexicographic.{bytes_decides}
use Rattle.pec_types.specs.Bytes.{Bytes}
use Rattle.pec_directory.specs.Directory.{Account, Provider, account_of, accounts_of}

none_some : {X Y : Type 0} (x : X) → None ≡ Some x → Y
none_some x e = cc

same_some : {X : Type 0} (x y : X) → Some x ≡ Some y → x ≡ y
same_some x y e = cc

found_passes : {X : Type 0} (passes : X → Bool) (xs : List X) (x : X) → find passes xs ≡ Some x → passes x ≡ true
found_passes passes [] x e = none_some x e
found_passes {X} passes (y ∷ ys) x e = by (found_passes passes ys x) (passes y) refl e
  where
    by : (find passes ys ≡ Some x → passes x ≡ true) → (b : Bool) → passes y ≡ b → cond b (Some y) (find passes ys) ≡ Some x → passes x ≡ true
    by later true is e = subst (λ (z : X). passes z ≡ true) (same_some y x e) is
    by later false is e = later e

pub account_is : (providers : List Provider) (address : Bytes) (account : Account) → account_of providers address ≡ Some account
    → account.address ≡ address
unfolding account_of
account_is providers address account is =
    sym ((bytes_decides address account.address).0
    (found_passes (λ (a : Account). bytes_eq address a.address) (accounts_of providers) account is))
