-- The loop over the bytes of an address, a turn at a time, and what was read by it.
use Rattle.std.proofs.Common.{◌≡◌, ℕ, zero, suc, ◌-◌, ◌<◌, ◌≤◌, List, [], ◌∷◌, ◌++◌, Ok, Err, refl, sym, ap, subst, ◌∙◌, arith}
use Rattle.pec_types.specs.Address.{IsLowerAddress}
use Rattle.pec_types.specs.AddressSteps.{further, LowerAddressesPass}
use Rattle.pec_types.specs.declared.scanning.Stand.{Stand}
use Rattle.pec_types.specs.declared.scanning.Stand.TheVariants as stands
use Rattle.pec_grammar.specs.Grammar.{Cursor, Read, ◌>>=◌, byte_at}
use Rattle.pec_grammar.proofs.Parts.{Answers}
use Rattle.pec_grammar.proofs.TimesLemmas.{before_all, before_more, before_end}
use Rattle.pec_records.specs.EntryReading.{can_go_on, stand_behind, rest_at, length_at, address_at}
use Rattle.pec_records.proofs.FieldLaws.{address, address_lawful}

-- what is read from a byte on
abbrev from_byte : Stand → ℕ → ℕ × Cursor → Read (List ℕ)
from_byte stand left b = rest_at (stand_behind stand (further stand b.0)) left b.1 >>= λ bs. Ok (b.0 ∷ bs.0, bs.1)

rest_next : (stand : Stand) (left : ℕ) (at : Cursor) → 0 < left → rest_at stand left at ≡ (byte_at (can_go_on stand (left - 1)) at >>= from_byte stand (left - 1))
unfolding rest_at
rest_next stand zero at lt = absurd (omega arith)
rest_next stand (suc left) at lt = let e : suc left - 1 ≡ left = omega arith in rw e refl

pub rest_goes_on : (stand next : Stand) (left : ℕ) (at after : Cursor) (xs : List ℕ) (b : ℕ) (total : Read (List ℕ)) → 0 < left
    → byte_at (can_go_on stand (left - 1)) at ≡ Ok (b, after) → next ≡ stand_behind stand (further stand b)
    → total ≡ before_all xs (rest_at stand left at) → total ≡ before_all (xs ++ b ∷ []) (rest_at next (left - 1) after)
rest_goes_on stand next left at after xs b total lt read is so_far =
    so_far ∙ (ap (λ r. before_all xs r) (rest_next stand left at lt ∙ ap (λ r. r >>= from_byte stand (left - 1)) read)
    ∙ (before_more xs b (rest_at (stand_behind stand (further stand b)) (left - 1) after) ∙ ap (λ s. before_all (xs ++ b ∷ []) (rest_at s (left - 1) after)) (sym is)))

pub rest_stops : (stand : Stand) (left : ℕ) (at : Cursor) (xs stop : List ℕ) (total : Read (List ℕ)) → 0 < left → byte_at (can_go_on stand (left - 1)) at ≡ Err stop
    → total ≡ before_all xs (rest_at stand left at) → total ≡ Err stop
rest_stops stand left at xs stop total lt read so_far =
    so_far ∙ ap (λ r. before_all xs r) (rest_next stand left at lt ∙ ap (λ r. r >>= from_byte stand (left - 1)) read)

pub rest_ends : (stand : Stand) (left : ℕ) (at : Cursor) (xs : List ℕ) (total : Read (List ℕ)) → left ≤ 0 → total ≡ before_all xs (rest_at stand left at) → total ≡ Ok (xs, at)
unfolding rest_at
rest_ends stand zero at xs total le so_far = so_far ∙ before_end xs at
rest_ends stand (suc left) at xs total le so_far = absurd (omega arith)

-- what was read is an address in lower case
pub read_is_lower : LowerAddressesPass → (n : ℕ) (at after_length after : Cursor) (bytes : List ℕ) → length_at at ≡ Ok (n, after_length)
    → rest_at stands.AtomBegins n after_length ≡ Ok (bytes, after) → IsLowerAddress bytes
unfolding address_at
read_is_lower law n at after_length after bytes length rest =
    let whole : address_at at ≡ Ok (bytes, after) = ap (λ r. r >>= λ a. rest_at stands.AtomBegins a.0 a.1) length ∙ rest in
    let told : Answers address at (Ok (bytes, after)) = subst (λ r. Answers address at r) whole ((address_lawful law).answers at) in
    told.fits
