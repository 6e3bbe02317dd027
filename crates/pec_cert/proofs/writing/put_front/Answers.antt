use Rattle.std.proofs.Common.{◌++◌}
use Rattle.std.specs.Prelude.{codes}
use Rattle.pec_cert.specs.Lines.{kind_word, error_word}
use Rattle.pec_cert.proofs.PutLemmas.{put_more, put_same}
use Rattle.pec_cert.proofs.writing.put_front.Goals as goal

pub returns : goal.returns
returns c =
    put_more c.args.out.now.items c.extend_from_slice.new.self.items c.extend_from_slice-5.new.self.items (codes "<?xml version=\"1.0\" encoding=\"UTF-8\"?>\r\n<postacert tipo=\"") ((kind_word c.args.kind) ++ ((codes "\" errore=\"") ++ ((error_word c.args.error) ++ (codes "\">\r\n<intestazione>\r\n")))) c.in_ok-extend_from_slice.ensures.items
    (put_more c.extend_from_slice.new.self.items c.extend_from_slice-2.new.self.items c.extend_from_slice-5.new.self.items (kind_word c.args.kind) ((codes "\" errore=\"") ++ ((error_word c.args.error) ++ (codes "\">\r\n<intestazione>\r\n"))) (put_same c.extend_from_slice.new.self.items c.extend_from_slice-2.new.self.items c.word_of_kind.result.now (kind_word c.args.kind) c.in_ok-extend_from_slice-2.ensures.items c.word_of_kind.ensures)
    (put_more c.extend_from_slice-2.new.self.items c.extend_from_slice-3.new.self.items c.extend_from_slice-5.new.self.items (codes "\" errore=\"") ((error_word c.args.error) ++ (codes "\">\r\n<intestazione>\r\n")) c.in_ok-extend_from_slice-3.ensures.items
    (put_more c.extend_from_slice-3.new.self.items c.extend_from_slice-4.new.self.items c.extend_from_slice-5.new.self.items (error_word c.args.error) (codes "\">\r\n<intestazione>\r\n") (put_same c.extend_from_slice-3.new.self.items c.extend_from_slice-4.new.self.items c.word_of_error.result.now (error_word c.args.error) c.in_ok-extend_from_slice-4.ensures.items c.word_of_error.ensures)
    (c.in_ok-extend_from_slice-5.ensures.items))))
