use Rattle.std.proofs.Common.{◌≡◌, ◌++◌, arith}
use Rattle.std.proofs.lemmas.Grind.{common_steps}
use Rattle.pec_outside.specs.Flow.{behind}
use Rattle.pec_types.specs.Bytes.{Bytes}
use Rattle.pec_http_head.specs.Cuts.{TooLarge, cut_of}
use Rattle.pec_http.proofs.InputLemmas.{cut_known}
use Rattle.pec_http.proofs.reading.read_head.Goals as goal

pub returns-in-TooLarge-clause-stop : goal.returns-in-TooLarge-clause-stop
returns-in-TooLarge-clause-stop g c =
    let taken : g.S.Stream.left c.args.connection.now ≡ behind c.read_piece.new.came.items (g.S.Stream.left c.read_piece.new.connection) = grind (arith, common_steps) in
    let each : (more : Bytes) → cut_of (c.read_piece.new.came.items ++ more) ≡ TooLarge = λ more. grind (arith, common_steps) in
    cut_known _ _ _ _ taken each
