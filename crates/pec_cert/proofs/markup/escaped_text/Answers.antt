use Rattle.pec_grammar.specs.Reading.{standing}
use Rattle.pec_grammar.proofs.Repeats.{goes_on, ends_here, shrinks}
use Rattle.pec_cert.specs.LinesReading.{char_at}
use Rattle.pec_cert.proofs.Texts.{character, character_lawful, character_has_byte, printable_push, read_printable}
use Rattle.pec_cert.proofs.markup.escaped_text.Goals as goal

pub bytes-smaller : goal.bytes-smaller
bytes-smaller c = shrinks character character_lawful character_has_byte (standing c.bytes.at) (standing c.in-Ok.taken.1) c.in-Ok.taken.0 c.in-Ok.ensures

pub bytes-preserved : goal.bytes-preserved
bytes-preserved c =
    let less = shrinks character character_lawful character_has_byte (standing c.bytes.at) (standing c.in-Ok.taken.1) c.in-Ok.taken.0 c.in-Ok.ensures in
    rw c.in_ok-push.ensures.items (record {
      read = goes_on char_at c.bytes.bytes.items (standing c.bytes.at) (standing c.in-Ok.taken.1) c.in-Ok.taken.0 _ c.bytes.invariant.read c.in-Ok.ensures less;
      printable = printable_push c.bytes.bytes.items c.in-Ok.taken.0 c.bytes.invariant.printable (read_printable (standing c.bytes.at) (standing c.in-Ok.taken.1) c.in-Ok.taken.0 c.in-Ok.ensures);
    })

pub returns-in-Err : goal.returns-in-Err
returns-in-Err c =
    rw (c.in_ok-text-in-Err.ensures, c.as_slice.ensures.value, c.tried.ensures)
    (ends_here char_at c.bytes.bytes.items (standing c.bytes.at) c.in-Err.stop.rest.now _ c.bytes.invariant.read c.in-Err.ensures)
