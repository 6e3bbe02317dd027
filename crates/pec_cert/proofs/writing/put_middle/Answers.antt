use Rattle.std.proofs.Common.{◌++◌}
use Rattle.std.specs.Prelude.{codes}
use Rattle.pec_grammar.specs.Grammar.{optional_text}
use Rattle.pec_cert.specs.Markup.{element}
use Rattle.pec_cert.proofs.PutLemmas.{put_more}
use Rattle.pec_cert.proofs.writing.put_middle.Goals as goal

pub returns-clause-lines : goal.returns-clause-lines
returns-clause-lines c =
    put_more c.args.out.now.items c.put_element.new.out.items c.put_element-2.new.out.items (element (codes "risposte") c.args.reply.now) ((optional_text (element (codes "oggetto")) c.args.subject.now) ++ ((codes "</intestazione>\r\n<dati>\r\n") ++ (element (codes "gestore-emittente") c.args.provider.now))) (rw c.bytes.ensures.value at c.in_ok-put_element.ensures)
    (put_more c.put_element.new.out.items c.put_optional.new.out.items c.put_element-2.new.out.items (optional_text (element (codes "oggetto")) c.args.subject.now) ((codes "</intestazione>\r\n<dati>\r\n") ++ (element (codes "gestore-emittente") c.args.provider.now)) c.in_ok-put_optional.ensures.line
    (put_more c.put_optional.new.out.items c.extend_from_slice.new.self.items c.put_element-2.new.out.items (codes "</intestazione>\r\n<dati>\r\n") (element (codes "gestore-emittente") c.args.provider.now) c.in_ok-extend_from_slice.ensures.items
    ((rw c.bytes-2.ensures.value at c.in_ok-put_element-2.ensures))))
