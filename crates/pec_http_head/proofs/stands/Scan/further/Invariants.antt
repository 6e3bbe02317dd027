use Rattle.std.proofs.Common.{◌≡◌, ◌+◌, ◌++◌, drop}
use Rattle.pec_types.specs.Bytes.{Bytes}
use Rattle.pec_http_head.specs.Cuts.{cut_from}
use Rattle.pec_http_head.proofs.stands.Scan.further.Given as goal

abbrev pub invariant-loop-b : goal.invariant-loop-b
invariant-loop-b l = record {
  at : l.scan.at ≡ l.fn.self.at + l.b-index;
  cut : (more : Bytes) → cut_from l.fn.self.stand l.fn.self.lines l.fn.self.at (l.piece ++ more)
      ≡ cut_from l.scan.stand l.scan.lines l.scan.at (drop l.b-index l.piece ++ more);
}
