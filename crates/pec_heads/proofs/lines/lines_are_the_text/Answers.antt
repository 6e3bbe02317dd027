-- The law of lines, from the lemmas.
use Rattle.pec_heads.proofs.LineLemmas.{lines_are, next_line, no_line, returned_line, lines_then, piece_behind, piece_plain, content_again, own_content}
use Rattle.pec_heads.proofs.lines.lines_are_the_text.Goals as goal

pub returns : goal.returns
returns c = record {
  whole = lines_are;
  next = next_line;
  last = no_line;
  next_returned = returned_line;
  several = lines_then;
  behind = piece_behind;
  piece = piece_plain;
  returned = content_again;
  own = own_content;
}
