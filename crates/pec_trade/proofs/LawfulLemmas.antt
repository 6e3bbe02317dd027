-- Names of a lawful directory's providers differ, and its keys are keys of seals.
use Rattle.std.proofs.Common.{◌≡◌, ◌≢◌, ℕ, zero, suc, ◌+◌, ◌<◌, ◌≤◌, Bool, true, false, ◌||◌, List, [], ◌∷◌, ◌++◌, length, map, slice_get, get_or, take, Some, refl, ap, sym, ◌∙◌, subst, arith}
use Rattle.std.specs.Prelude.{All, AllPairs}
use Rattle.std.specs.Str.{bytes_eq}
use Rattle.std.proofs.Math.Bool.{or-true}
use Rattle.std.proofs.lemmas.Bool.{false≢true}
use Rattle.std.proofs.lemmas.List.{length-map, map-append, take_more}
use Rattle.std.proofs.lemmas.Option.{get_or_from_slice_get, none-some, same_Some, slice_get-map, slice_get_within}
use Rattle.std.proofs.lemmas.Slice.Eq.{bytes_eq-Decides}
use Rattle.pec_types.specs.Bytes.{Bytes}
use Rattle.pec_directory.specs.Directory.{Kept, Provider, providers_of}
use Rattle.pec_directory.specs.Lawful.{AreNext, IsLawful}
use Rattle.pec_directory.specs.Walk.{is_named}
use Rattle.pec_letters.specs.Fitting.{Fits}
use Rattle.pec_seal.specs.Hmac.{IsKey, hmac_seals}
use Rattle.pec_trade.specs.Keys.{keys_of, names_of}

-- ---- names

named_last : (name : Bytes) (earlier : List Provider) (p : Provider) → name ≡ p.name → is_named name (earlier ++ p ∷ []) ≡ true
named_last name [] p e = ap (λ (t : Bool). t || false) ((bytes_eq-Decides name p.name).1 e)
named_last name (q ∷ earlier) p e =
    ap (λ (t : Bool). bytes_eq name q.name || t) (named_last name earlier p e) ∙ or-true (bytes_eq name q.name)

named_still : (name : Bytes) (earlier more : List Provider) → is_named name earlier ≡ true → is_named name (earlier ++ more) ≡ true
named_still name [] more e = absurd (false≢true e)
named_still name (q ∷ earlier) more e = here (bytes_eq name q.name) (named_still name earlier more) e
  where
    here : (t : Bool) → (is_named name earlier ≡ true → is_named name (earlier ++ more) ≡ true) → (t || is_named name earlier) ≡ true
        → (t || is_named name (earlier ++ more)) ≡ true
    here true later e = refl
    here false later e = later e

-- no provider has the name of one before it
apart_from : (earlier providers : List Provider) → AreNext earlier providers → (name : Bytes) → is_named name earlier ≡ true
    → (j : ℕ) (p : Provider) → slice_get providers j ≡ Some p → name ≡ p.name → ⊥
apart_from earlier [] next name named j p e same = none-some p e
apart_from earlier (q ∷ ps) next name named zero p e same =
    false≢true (sym next.0.name_once ∙ ap (λ (n : Bytes). is_named n earlier) (ap (λ (x : Provider). x.name) (same_Some q p e) ∙ sym same) ∙ named)
apart_from earlier (q ∷ ps) next name named (suc j) p e same =
    apart_from (earlier ++ q ∷ []) ps next.1 name (named_still name earlier (q ∷ []) named) j p e same

apart : (earlier providers : List Provider) → AreNext earlier providers → (i j : ℕ) (p q : Provider) → i < j → slice_get providers i ≡ Some p
    → slice_get providers j ≡ Some q → p.name ≡ q.name → ⊥
apart earlier [] next i j p q before e f same = none-some p e
apart earlier (x ∷ ps) next i zero p q before e f same = omega (arith, before)
apart earlier (x ∷ ps) next zero (suc j) p q before e f same =
    apart_from (earlier ++ x ∷ []) ps next.1 p.name (named_last p.name earlier x (ap (λ (y : Provider). y.name) (sym (same_Some x p e)))) j q f same
apart earlier (x ∷ ps) next (suc i) (suc j) p q before e f same = apart (earlier ++ x ∷ []) ps next.1 i j p q (omega (arith, before)) e f same

-- what is at a place of a list that was mapped comes of what is there in the list
at_place : {X Y : Type 0} (f : X → Y) (xs : List X) (i : ℕ) (d : Y) → i < length (map f xs) → (x : X) × ((slice_get xs i ≡ Some x) × (f x ≡ get_or (map f xs) i d))
at_place f [] i d within = absurd (omega (arith, within))
at_place f (x ∷ xs) zero d within = (x, (refl, refl))
at_place f (x ∷ xs) (suc i) d within = at_place f xs i d (omega (arith, within))

pub names_differ : (providers : List Provider) → IsLawful providers → AllPairs ◌≢◌ (names_of providers)
names_differ providers lawful i j d before within same =
    let name = λ (p : Provider). p.name
    in let p = at_place name providers i d (omega (arith, before, within))
    in let q = at_place name providers j d within
    in apart [] providers lawful.each i j p.0 q.0 before p.1.0 q.1.0 (p.1.1 ∙ same ∙ sym q.1.1)

-- ---- keys

key_at : (earlier providers : List Provider) → AreNext earlier providers → (i : ℕ) (p : Provider) → slice_get providers i ≡ Some p → IsKey p.key
key_at earlier [] next i p e = absurd (none-some p e)
key_at earlier (q ∷ ps) next zero p e =
    subst (λ (x : Provider). IsKey x.key) (same_Some q p e) (omega (arith, next.0.key.0), next.0.key.1)
key_at earlier (q ∷ ps) next (suc i) p e = key_at (earlier ++ q ∷ []) ps next.1 i p e

pub keys_are : (providers : List Provider) → IsLawful providers → All IsKey (keys_of providers)
keys_are providers lawful i d within =
    let p = at_place (λ (x : Provider). x.key) providers i d within
    in subst IsKey p.1.1 (key_at [] providers lawful.each i p.0 p.1.0)

pub few : (kept : List Kept) → IsLawful (providers_of kept) → length kept < 4294967296
few kept lawful =
    let sixteen : length (providers_of kept) ≤ 16 = lawful.few
    in omega (arith, length-map kept (λ (one : Kept). one.provider), sixteen)

-- ---- one provider more

pub one_more : (f : Provider → Bytes) (kept : List Kept) (i : ℕ) (one : Kept) → slice_get kept i ≡ Some one
    → map f (providers_of (take (i + 1) kept)) ≡ map f (providers_of (take i kept)) ++ f one.provider ∷ []
one_more f kept i one e =
    let within = slice_get_within kept i one e
    in let last : take (i + 1) kept ≡ take i kept ++ one ∷ [] =
    take_more kept i one within ∙ ap (λ (x : Kept). take i kept ++ x ∷ []) (get_or_from_slice_get kept i one one e)
    in ap (λ (xs : List Kept). map f (providers_of xs)) last
    ∙ ap (map f) (map-append (λ (x : Kept). x.provider) (take i kept) (one ∷ []))
    ∙ map-append f (providers_of (take i kept)) (one.provider ∷ [])

-- ---- the sealer

pub sealer_fits : (providers : List Provider) → Fits (hmac_seals (names_of providers) (keys_of providers)) providers
sealer_fits providers = record { names = λ number. slice_get-map (λ (p : Provider). p.name) providers number }
