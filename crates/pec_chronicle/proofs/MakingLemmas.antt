-- How long images grow while a journal is made.
use Rattle.std.proofs.Common.{◌≡◌, ℕ, ◌+◌, ◌<◌, ◌≤◌, [], ◌∷◌, ◌++◌, length, ap, arith}
use Rattle.std.specs.Prelude.{Result, IfOk, IfErr}
use Rattle.std.proofs.lemmas.Result.{IfErr-weaker, IfOk-weaker}
use Rattle.pec_outside.specs.DiskModel.{GrowsTo, Sight}
use Rattle.pec_outside.specs.Moments.{grows_and_then, grows_less}
use Rattle.pec_types.specs.Bytes.{Bytes}
use Rattle.pec_journal.specs.JournalFile.{closed_gate, header}
use Rattle.pec_records.specs.declared.entries.Entry.{Entry}
use Rattle.pec_chronicle.specs.Chronicle.{made_size}

-- a journal that holds no entry has a gate behind its header
pub gate_there : (seen : Bytes) → seen ≡ header ++ closed_gate ∷ [] → length header < length seen
gate_there seen is = omega (arith, ap (λ (s : Bytes). length s) is)

module _ (start : Entry) (old mid : Sight) where
  -- the header and the gate are written, and no more
  pub begun_grows : GrowsTo (length header + 1) old mid → GrowsTo (made_size start) old mid
  begun_grows = grows_less (length header + 1) (made_size start) (omega arith) old mid

  module _ (begun : GrowsTo (length header + 1) old mid)
      (counts_now : (t : ℕ) (image : Bytes) → t ≤ mid.moment → mid.may_leave image → mid.left_since t image) where
    made_grows : (new : Sight) → GrowsTo (made_size start) mid new → GrowsTo (made_size start) old new
    made_grows new =
        grows_and_then (length header + 1) (made_size start) (made_size start) (omega arith) (omega arith) old mid new counts_now begun

    -- and then the entry
    pub made_ok : {T E : Type 0} (answer : Result T E) (sight : T → Sight) → IfOk answer (λ made. GrowsTo (made_size start) mid (sight made))
        → IfOk answer (λ made. GrowsTo (made_size start) old (sight made))
    made_ok answer sight =
        IfOk-weaker answer (λ made. GrowsTo (made_size start) mid (sight made)) (λ made. GrowsTo (made_size start) old (sight made))
        (λ made. made_grows (sight made))

    pub made_err : {T E : Type 0} (answer : Result T E) (sight : E → Sight) → IfErr answer (λ fault. GrowsTo (made_size start) mid (sight fault))
        → IfErr answer (λ fault. GrowsTo (made_size start) old (sight fault))
    made_err answer sight =
        IfErr-weaker answer (λ fault. GrowsTo (made_size start) mid (sight fault)) (λ fault. GrowsTo (made_size start) old (sight fault))
        (λ fault. made_grows (sight fault))
