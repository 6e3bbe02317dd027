-- What contracts see of the crate's types: without where their bytes lie in memory.
use Rattle.std.specs.Prelude.{map, option_map}
use Rattle.pec_letter_parts.specs.Contents as contents
use Rattle.pec_letter_parts.specs.Headings as headings
use Rattle.pec_letter_parts.specs.Letters as letters
use Rattle.pec_letter_parts.specs.declared.contents.Contents.{Contents}
use Rattle.pec_letter_parts.specs.declared.headings.Heading.{Heading}
use Rattle.pec_letter_parts.specs.declared.letters.Headed.{Headed}
use Rattle.pec_letter_parts.specs.declared.letters.Letter.{Letter}

abbrev pub heading_shown : Heading → headings.Heading
heading_shown h = record {
  marking = h.marking;
  kind = h.kind.now;
  virus = h.virus;
  wish = h.wish;
  name = h.name.now;
  reference = option_map (λ text. text.now) h.reference;
  stamp = h.stamp;
  from = h.from.now;
  reply = option_map (λ text. text.now) h.reply;
  to = map (λ address. address.now) h.to.now;
  copies = map (λ address. address.now) h.copies.now;
  subject = h.subject.now;
}

abbrev pub contents_shown : Contents → contents.Contents
contents_shown c = record {
  text = c.text.now;
  message = option_map (λ text. text.now) c.message;
  certificate = option_map (λ text. text.now) c.certificate;
}

abbrev pub headed_shown : Headed → letters.Headed
headed_shown read = record { sealer = read.sealer; head = read.head; body = read.body.now }

abbrev pub letter_shown : Letter → letters.Letter
letter_shown letter = record { sealer = letter.sealer; head = letter.head; parts = letter.parts; cert = letter.cert }
