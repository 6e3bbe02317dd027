-- What a lawful directory's provider takes is within the limit.
use Rattle.std.proofs.Common.{ℕ, zero, suc, ◌≤◌, List, [], ◌∷◌, ◌++◌, arith}
use Rattle.std.specs.Prelude.{slice_get}
use Rattle.pec_directory.specs.Directory.{Kept, Provider, providers_of}
use Rattle.pec_directory.specs.Lawful.{AreNext, IsLawful}
use Rattle.pec_service.specs.Passes.{limit_in}

among : (earlier : List Provider) (kept : List Kept) (number : ℕ)
    → AreNext earlier (providers_of kept) → limit_in (slice_get kept number) ≤ 31457280
among earlier [] number next = omega arith
among earlier (one ∷ kept) zero next = next.0.limit.1
among earlier (one ∷ kept) (suc number) next = among (earlier ++ one.provider ∷ []) kept number next.1

pub limit_is_small : (kept : List Kept) (number : ℕ) → IsLawful (providers_of kept)
    → limit_in (slice_get kept number) ≤ 31457280
limit_is_small kept number lawful = among [] kept number lawful.each
