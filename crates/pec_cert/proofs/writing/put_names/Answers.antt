use Rattle.std.proofs.Common.{◌++◌}
use Rattle.std.specs.Prelude.{codes}
use Rattle.pec_grammar.specs.Grammar.{optional_text}
use Rattle.pec_cert.specs.Markup.{element}
use Rattle.pec_cert.specs.Lines.{wish_text}
use Rattle.pec_cert.proofs.PutLemmas.{put_more}
use Rattle.pec_cert.proofs.writing.put_names.Goals as goal

pub returns-clause-lines : goal.returns-clause-lines
returns-clause-lines c =
    put_more c.args.out.now.items c.put_element.new.out.items c.put_wish.new.out.items (element (codes "identificativo") c.args.id.now) ((optional_text (element (codes "msgid")) c.args.reference.now) ++ (optional_text wish_text c.args.wish)) (rw c.bytes.ensures.value at c.in_ok-put_element.ensures)
    (put_more c.put_element.new.out.items c.put_optional.new.out.items c.put_wish.new.out.items (optional_text (element (codes "msgid")) c.args.reference.now) (optional_text wish_text c.args.wish) c.in_ok-put_optional.ensures.line
    (c.in_ok-put_wish.ensures))
