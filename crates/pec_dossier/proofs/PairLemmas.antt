-- The test for pairs decides whether they are equal.
use Rattle.std.proofs.Common.{◌≡◌, true, refl}
use Rattle.std.specs.Prelude.{◌==◌, ◌&&◌}
use Rattle.std.specs.Str.{bytes_eq}
use Rattle.std.proofs.lemmas.Bool.{and_from, and_parts, eqb-true, eq-eqb}
use Rattle.std.proofs.lemmas.Slice.Eq.{bytes_eq-Decides}
use Rattle.pec_types.specs.Bytes.{Bytes}
use Rattle.pec_types.specs.Message.{Id}
use Rattle.pec_check.specs.Findings.{is_pair}
use Rattle.pec_check.specs.declared.pairs.PairKey.{PairKey}

pairs : (a b : Id) (c d : Bytes) → a.provider ≡ b.provider → a.number ≡ b.number → c ≡ d
    → (let p : PairKey = record { id = a; recipient = c } in let q : PairKey = record { id = b; recipient = d } in p ≡ q)
pairs a b c d e f g = rw (e, f, g) refl

pub same_pairs : (a b : PairKey) → is_pair a b ≡ true → a ≡ b
same_pairs a b e =
    let parts = and_parts ((a.id.provider == b.id.provider) && (a.id.number == b.id.number))
    (bytes_eq a.recipient b.recipient) e
    in let ids = and_parts (a.id.provider == b.id.provider) (a.id.number == b.id.number) parts.0
    in pairs a.id b.id a.recipient b.recipient (eqb-true a.id.provider b.id.provider ids.0)
    (eqb-true a.id.number b.id.number ids.1) ((bytes_eq-Decides a.recipient b.recipient).0 parts.1)

pub pair_again : (a : PairKey) → is_pair a a ≡ true
pair_again a =
    and_from ((a.id.provider == a.id.provider) && (a.id.number == a.id.number)) (bytes_eq a.recipient a.recipient)
    (and_from (a.id.provider == a.id.provider) (a.id.number == a.id.number)
    (eq-eqb a.id.provider a.id.provider refl) (eq-eqb a.id.number a.id.number refl))
    ((bytes_eq-Decides a.recipient a.recipient).1 refl)
