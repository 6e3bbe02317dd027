-- Cuts: from the lemmas.
use Rattle.std.proofs.Common.{List, ◌++◌, ap, ◌∙◌, sym}
use Rattle.pec_ledger.specs.Network.{Site}
use Rattle.pec_plays.specs.Scripts.{script}
use Rattle.pec_runs.proofs.CutLemmas.{book_stays, cut_after, cut_answers, rest_again}
use Rattle.pec_runs.proofs.resuming.a_script_may_be_cut.Goals as goal

pub returns : goal.returns
returns c = record {
  answers = cut_answers;
  after = cut_after;
  in_two_runs = λ trade lucks more sites commands others e rests.
      cut_answers trade lucks more sites commands others e
      ∙ ap (λ (s : List Site). (script trade lucks sites commands).answers ++ (script trade more s others).answers)
      (sym (rest_again trade (script trade lucks sites commands).after rests));
  at_rest = rest_again;
  books = book_stays;
}
