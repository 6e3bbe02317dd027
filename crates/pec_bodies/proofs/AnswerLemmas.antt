-- Equal answers have equal values.
use Rattle.std.proofs.Common.{◌≡◌, Some, Result, Ok, Err}

pub some_is : {A : Type 0} (x y : A) → Some x ≡ Some y → x ≡ y
some_is x y e = cc

abbrev sent : {A E : Type 0} → A → Result A E
sent x = Ok x

abbrev refused : {A E : Type 0} → E → Result A E
refused e = Err e

pub ok_is : {A E : Type 0} (x y : A) → sent {A = A} {E = E} x ≡ sent y → x ≡ y
ok_is x y e = cc

pub err_is : {A E : Type 0} (x y : E) → refused {A = A} {E = E} x ≡ refused y → x ≡ y
err_is x y e = cc
