use Rattle.std.proofs.Common.{◌++◌}
use Rattle.std.specs.Prelude.{codes}
use Rattle.pec_cert.specs.Lines.{class_word}
use Rattle.pec_cert.proofs.PutLemmas.{put_more, put_same}
use Rattle.pec_cert.proofs.writing.put_addressee_opening.Goals as goal

pub returns : goal.returns
returns c =
    put_more c.args.out.now.items c.extend_from_slice.new.self.items c.extend_from_slice-3.new.self.items (codes "<destinatari tipo=\"") ((class_word c.args.certified) ++ (codes "\">")) c.in_ok-extend_from_slice.ensures.items
    (put_more c.extend_from_slice.new.self.items c.extend_from_slice-2.new.self.items c.extend_from_slice-3.new.self.items (class_word c.args.certified) (codes "\">") (put_same c.extend_from_slice.new.self.items c.extend_from_slice-2.new.self.items c.word_of_class.result.now (class_word c.args.certified) c.in_ok-extend_from_slice-2.ensures.items c.word_of_class.ensures)
    (c.in_ok-extend_from_slice-3.ensures.items))
