-- What came, and what a connection still has to come.
use Rattle.std.proofs.Common.{◌≡◌, ◌++◌, [], Option, None, Some, refl, sym, ap, subst}
use Rattle.pec_outside.specs.Flow.{behind}
use Rattle.pec_types.specs.Bytes.{Bytes}
use Rattle.pec_http_head.specs.Cuts.{WholeCut, cut_of}
use Rattle.pec_http.specs.Input.{IsInput}

-- some bytes are those to come
pub rest_of : (left : Option Bytes) → (rest : Bytes) × IsInput left rest
rest_of None = ([], record {})
rest_of (Some told) = (told, refl)

known : (came : Bytes) (left_then : Option Bytes) (rest : Bytes) → IsInput left_then rest → IsInput (behind came left_then) (came ++ rest)
known came None rest is = record {}
known came (Some told) rest is = ap (λ more. came ++ more) is

-- what came and what comes are the input
pub input_known : (left left_then : Option Bytes) (came rest : Bytes) → left ≡ behind came left_then → IsInput left_then rest → IsInput left (came ++ rest)
input_known left left_then came rest taken is =
    let P : Option Bytes → Type 0 = λ o. IsInput o (came ++ rest) in subst P (sym taken) (known came left_then rest is)

-- what is known of a cut whatever comes is known of the input
pub cut_known : (left left_then : Option Bytes) (came : Bytes) (cut : WholeCut) → left ≡ behind came left_then → ((more : Bytes) → cut_of (came ++ more) ≡ cut)
    → (input : Bytes) × IsInput left input × (cut_of input ≡ cut)
cut_known left left_then came cut taken each =
    let rest = rest_of left_then in (came ++ rest.0, input_known left left_then came rest.0 taken rest.1, each rest.0)
