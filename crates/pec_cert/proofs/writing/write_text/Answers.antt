use Rattle.std.proofs.Common.{◌++◌, map}
use Rattle.std.specs.Prelude.{codes}
use Rattle.std.specs.List.{flat_map}
use Rattle.pec_types.specs.Address.{IsLowerAddress}
use Rattle.pec_grammar.specs.Grammar.{optional_text}
use Rattle.pec_cert.specs.Certificate.{addressee, lines_of}
use Rattle.pec_cert.specs.Lines.{front_text, addressee_text, shown_text, wish_text, text_of}
use Rattle.pec_cert.specs.Markup.{element}
use Rattle.pec_cert.specs.declared.certificates.CertRecipient.{CertRecipient}
use Rattle.pec_cert.proofs.PutLemmas.{put_more, put_first, assembled, some_all}
use Rattle.pec_cert.proofs.writing.write_text.Goals as goal

-- Eight pieces are put one behind another, and are the lines of the text.
pub returns : goal.returns
returns c =
    let cert = c.args.cert.now in
    let front = front_text cert.kind cert.error in
    let sender = element (codes "mittente") cert.sender in
    let recipients = flat_map addressee_text (map addressee cert.recipients) in
    let reply = element (codes "risposte") cert.reply in
    let subject = optional_text (element (codes "oggetto")) cert.subject in
    let between = codes "</intestazione>\r\n<dati>\r\n" in
    let provider = element (codes "gestore-emittente") cert.provider in
    let shown = shown_text c.shown.result in
    let id = element (codes "identificativo") cert.id in
    let reference = optional_text (element (codes "msgid")) cert.reference in
    let wish = optional_text wish_text cert.wish in
    let delivered = optional_text (element (codes "consegna")) cert.delivered in
    let received = flat_map (element (codes "ricezione")) cert.received in
    let detail = optional_text (element (codes "errore-esteso")) cert.detail in
    let end = codes "</dati>\r\n</postacert>\r\n" in
    let middle = reply ++ (subject ++ (between ++ provider)) in
    let names = id ++ (reference ++ wish) in
    let out = c.extend_from_slice.new.self.items in
    let put =
    put_more c.in_ok-out.out.items c.put_beginning.new.out.items out (front ++ sender) (recipients ++ (middle ++ (shown ++ (names ++ (delivered ++ (received ++ (detail ++ end)))))))
    (rw c.bytes.ensures.value at c.in_ok-put_beginning.ensures)
    (put_more c.put_beginning.new.out.items c.put_recipients.new.out.items out recipients (middle ++ (shown ++ (names ++ (delivered ++ (received ++ (detail ++ end))))))
    (rw c.as_slice.ensures at c.in_ok-put_recipients.ensures.lines)
    (put_more c.put_recipients.new.out.items c.put_middle.new.out.items out middle (shown ++ (names ++ (delivered ++ (received ++ (detail ++ end))))) c.in_ok-put_middle.ensures.lines
    (put_more c.put_middle.new.out.items c.put_shown.new.out.items out shown (names ++ (delivered ++ (received ++ (detail ++ end)))) c.in_ok-put_shown.ensures
    (put_more c.put_shown.new.out.items c.put_names.new.out.items out names (delivered ++ (received ++ (detail ++ end))) c.in_ok-put_names.ensures.lines
    (put_more c.put_names.new.out.items c.put_delivered.new.out.items out delivered (received ++ (detail ++ end)) c.in_ok-put_delivered.ensures.line
    (put_more c.put_delivered.new.out.items c.put_received.new.out.items out received (detail ++ end) (rw c.as_slice-2.ensures at c.in_ok-put_received.ensures.lines)
    (put_more c.put_received.new.out.items c.put_optional.new.out.items out detail end c.in_ok-put_optional.ensures.line c.in_ok-extend_from_slice.ensures.items))))))) in
    let lines = assembled front sender recipients reply subject between provider shown id reference wish delivered received detail end in
    let printable = c.in_ok-put_middle.ensures.printable in
    let named = c.in_ok-put_names.ensures.printable in
    record {
      shown = c.shown.result;
      stamp = c.shown.ensures.shown;
      written = record {
        sender = c.bytes.ensures.is;
        recipients = some_all (λ (r : CertRecipient). IsLowerAddress r.address) cert.recipients c.requires (rw c.as_slice.ensures at c.in_ok-put_recipients.ensures.lower);
        reply = printable.0;
        subject = printable.1;
        provider = printable.2;
        id = named.0;
        reference = named.1;
        delivered = c.in_ok-put_delivered.ensures.lower;
        received = rw c.as_slice-2.ensures at c.in_ok-put_received.ensures.lower;
        detail = c.in_ok-put_optional.ensures.printable;
      };
      spelled = put_first c.in_ok-out.out.items out _ (text_of (lines_of cert c.shown.result)) c.in_ok-out.ensures.items put lines;
    }
