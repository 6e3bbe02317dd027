use Rattle.std.proofs.Common.{ℕ, ◌<◌, List, slice_index_or}
use Rattle.pec_types.specs.Text.{AllPrintable}
use Rattle.pec_seal.proofs.hmac.HmacSealer.new.Given as goal

abbrev pub invariant-loop-name : goal.invariant-loop-name
invariant-loop-name l =
    (place : ℕ) (other : List ℕ) → place < l.name-index → AllPrintable (slice_index_or l.name-items place other)
