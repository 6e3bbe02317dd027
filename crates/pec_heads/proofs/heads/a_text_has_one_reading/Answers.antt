-- The law of heads, from the lemmas.
use Rattle.pec_heads.proofs.HeadLaws.{either, never_both, one_head, one_fault}
use Rattle.pec_heads.proofs.LineLemmas.{head_within}
use Rattle.pec_heads.proofs.ReadingLaws.{head_told}
use Rattle.pec_heads.proofs.heads.a_text_has_one_reading.Goals as goal

pub returns : goal.returns
returns c = record {
  some = either;
  either = never_both;
  head = one_head;
  fault = one_fault;
  told = head_told;
  within = head_within;
}
