-- How the shape of a certification text is read: its parts as grammars of pec_grammar, and all of them in `lines_at`,
-- at the end. That they spell the text of `Lines`, and are read exactly, stands in `read`'s contract.
use Rattle.std.specs.Prelude.{ℕ, ◌+◌, ◌-◌, ◌*◌, Bool, true, false, not, ◌||◌, ◌==◌, List, [], ◌∷◌, Ok, codes}
use Rattle.std.specs.Char.{is_ascii_digit}
use Rattle.pec_types.specs.Bytes.{Bytes, digit_zero, quote}
use Rattle.pec_types.specs.Text.{is_unprintable}
use Rattle.pec_types.specs.declared.messages.Wish.{Wish}
use Rattle.pec_types.specs.declared.messages.Wish.TheVariants.{Full, Brief, Concise}
use Rattle.pec_grammar.specs.Grammar.{Cursor, Read, ◌>>=◌, byte_at, both_at, seen_at, word_at, led_at, ended_at, otherwise, choice_at, optional_at, many_at, several_at}
use Rattle.pec_cert.specs.Markup.{ampersand, less_than, greater_than}
use Rattle.pec_cert.specs.declared.certificates.CertKind.{CertKind}
use Rattle.pec_cert.specs.declared.certificates.CertKind.TheVariants as kinds
use Rattle.pec_cert.specs.declared.certificates.CertError.{CertError}
use Rattle.pec_cert.specs.declared.certificates.CertError.TheVariants as errors
use Rattle.pec_cert.specs.declared.lines.Addressee.{Addressee}
use Rattle.pec_cert.specs.declared.lines.Heading.{Heading}
use Rattle.pec_cert.specs.declared.lines.Issue.{Issue}
use Rattle.pec_cert.specs.declared.lines.Closing.{Closing}
use Rattle.pec_cert.specs.declared.lines.Lines.{Lines}
use Rattle.pec_cert.specs.declared.stamps.ShownZone.{ShownZone}
use Rattle.pec_cert.specs.declared.stamps.ShownDay.{ShownDay}
use Rattle.pec_cert.specs.declared.stamps.ShownTime.{ShownTime}
use Rattle.pec_cert.specs.declared.stamps.Shown.{Shown}

-- Text.

-- a byte that stands for itself
abbrev pub is_plain : ℕ → Bool
is_plain c = not (is_unprintable c || (c == ampersand || (c == less_than || (c == greater_than || c == quote))))

-- the four escapes, each with the byte that it stands for
abbrev pub escapes : List (Bytes × ℕ)
escapes =
    (codes "&amp;", ampersand) ∷ (codes "&lt;", less_than) ∷ (codes "&gt;", greater_than) ∷ (codes "&quot;", quote) ∷ []

-- a byte of a text
unfoldable pub char_at : Cursor → Read ℕ
char_at at = otherwise (byte_at is_plain at) at (choice_at escapes)

-- text, and the closing tag behind it
unfoldable pub content_at : Bytes → Cursor → Read Bytes
content_at end_tag = ended_at (many_at char_at) end_tag

-- an element with its two tags
unfoldable pub element_at : Bytes → Bytes → Cursor → Read Bytes
element_at start_tag end_tag = led_at start_tag (content_at end_tag)

-- Numbers.

-- a digit, as its number
unfoldable pub digit_at : Cursor → Read ℕ
digit_at = seen_at (λ b. b - digit_zero) (byte_at is_ascii_digit)

-- two digits
unfoldable pub two_at : Cursor → Read ℕ
two_at = seen_at (λ p. p.0 * 10 + p.1) (both_at digit_at digit_at)

-- four digits
unfoldable pub four_at : Cursor → Read ℕ
four_at = seen_at (λ p. p.0 * 100 + p.1) (both_at two_at two_at)

-- What is shown of a moment.

-- the two signs: whether the zone is ahead of UTC
abbrev pub signs : List (Bytes × Bool)
signs = (codes "+", true) ∷ (codes "-", false) ∷ []

abbrev pub zone_from : Bool × (ℕ × ℕ) → ShownZone
zone_from p = record { ahead = p.0; hours = p.1.0; minutes = p.1.1 }

-- `+0100`
unfoldable pub zone_at : Cursor → Read ShownZone
zone_at = seen_at zone_from (both_at (choice_at signs) (both_at two_at two_at))

abbrev pub day_from : ℕ × (ℕ × ℕ) → ShownDay
day_from p = record { day = p.0; month = p.1.0; year = p.1.1 }

-- `02/01/2024`
unfoldable pub day_at : Cursor → Read ShownDay
day_at = seen_at day_from (both_at two_at (led_at (codes "/") (both_at two_at (led_at (codes "/") four_at))))

abbrev pub time_from : ℕ × (ℕ × ℕ) → ShownTime
time_from p = record { hour = p.0; minute = p.1.0; second = p.1.1 }

-- `10:00:00`
unfoldable pub time_at : Cursor → Read ShownTime
time_at = seen_at time_from (both_at two_at (led_at (codes ":") (both_at two_at (led_at (codes ":") two_at))))

abbrev pub shown_from : ShownZone × (ShownDay × ShownTime) → Shown
shown_from p = record { zone = p.0; day = p.1.0; time = p.1.1 }

-- the four lines of `data`
unfoldable pub shown_at : Cursor → Read Shown
shown_at =
    seen_at shown_from (led_at (codes "<data zona=\"") (both_at zone_at (led_at (codes "\">\r\n<giorno>")
    (both_at day_at (led_at (codes "</giorno>\r\n<ora>")
    (ended_at time_at (codes "</ora>\r\n</data>\r\n")))))))

-- The lines.

-- the kinds, by their words
abbrev pub kind_table : List (Bytes × CertKind)
kind_table =
    (codes "accettazione", kinds.Acceptance) ∷ (codes "non-accettazione", kinds.NonAcceptance)
    ∷ (codes "presa-in-carico", kinds.Charge)
    ∷ (codes "avvenuta-consegna", kinds.Delivery) ∷ (codes "posta-certificata", kinds.Envelope)
    ∷ (codes "errore-consegna", kinds.DeliveryError)
    ∷ (codes "preavviso-errore-consegna", kinds.DelayNotice) ∷ (codes "rilevazione-virus", kinds.VirusDetection) ∷ []

-- the errors, by their words
abbrev pub error_table : List (Bytes × CertError)
error_table =
    (codes "nessuno", errors.Nothing) ∷ (codes "no-dest", errors.NoRecipient) ∷ (codes "no-dominio", errors.NoDomain)
    ∷ (codes "virus", errors.Virus)
    ∷ (codes "altro", errors.Other) ∷ []

-- the first three lines
unfoldable pub front_at : Cursor → Read (CertKind × CertError)
front_at =
    led_at (codes "<?xml version=\"1.0\" encoding=\"UTF-8\"?>\r\n<postacert tipo=\"")
    (both_at (choice_at kind_table) (led_at (codes "\" errore=\"") (ended_at (choice_at error_table)
    (codes "\">\r\n<intestazione>\r\n"))))

-- whether a recipient is certified, by the words for it
abbrev pub class_table : List (Bytes × Bool)
class_table = (codes "certificato", true) ∷ (codes "esterno", false) ∷ []

abbrev pub addressee_from : Bool × Bytes → Addressee
addressee_from p = record { certified = p.0; address = p.1 }

-- the line of a recipient
unfoldable pub addressee_at : Cursor → Read Addressee
addressee_at =
    seen_at addressee_from (led_at (codes "<destinatari tipo=\"") (both_at (choice_at class_table)
    (led_at (codes "\">") (content_at (codes "</destinatari>\r\n")))))

-- the wishes, by their words
abbrev pub wish_table : List (Bytes × Wish)
wish_table = (codes "completa", Full) ∷ (codes "breve", Brief) ∷ (codes "sintetica", Concise) ∷ []

-- the line of a wish
unfoldable pub wish_at : Cursor → Read Wish
wish_at = led_at (codes "<ricevuta tipo=\"") (ended_at (choice_at wish_table) (codes "\"/>\r\n"))

-- the line of an address that was received
unfoldable pub received_at : Cursor → Read Bytes
received_at = element_at (codes "<ricezione>") (codes "</ricezione>\r\n")

-- all the lines
-- the lines up to those of the data
unfoldable pub heading_at : Cursor → Read Heading
heading_at at = do
  front ← front_at at
  sender ← element_at (codes "<mittente>") (codes "</mittente>\r\n") front.1
  recipients ← several_at addressee_at sender.1
  reply ← element_at (codes "<risposte>") (codes "</risposte>\r\n") recipients.1
  subject ← optional_at (element_at (codes "<oggetto>") (codes "</oggetto>\r\n")) reply.1
  between ← word_at (codes "</intestazione>\r\n<dati>\r\n") subject.1
  Ok (
    record {
      kind = front.0.0;
      error = front.0.1;
      sender = sender.0;
      recipients = recipients.0;
      reply = reply.0;
      subject = subject.0;
    },
    between.1,
  )

-- the lines of the data that say who certifies, when, and what
unfoldable pub issue_at : Cursor → Read Issue
issue_at at = do
  provider ← element_at (codes "<gestore-emittente>") (codes "</gestore-emittente>\r\n") at
  shown ← shown_at provider.1
  id ← element_at (codes "<identificativo>") (codes "</identificativo>\r\n") shown.1
  reference ← optional_at (element_at (codes "<msgid>") (codes "</msgid>\r\n")) id.1
  Ok (record { provider = provider.0; shown = shown.0; id = id.0; reference = reference.0 }, reference.1)

-- the lines of the data behind these, up to the end
unfoldable pub closing_at : Cursor → Read Closing
closing_at at = do
  wish ← optional_at wish_at at
  delivered ← optional_at (element_at (codes "<consegna>") (codes "</consegna>\r\n")) wish.1
  received ← many_at received_at delivered.1
  detail ← optional_at (element_at (codes "<errore-esteso>") (codes "</errore-esteso>\r\n")) received.1
  end ← word_at (codes "</dati>\r\n</postacert>\r\n") detail.1
  Ok (record { wish = wish.0; delivered = delivered.0; received = received.0; detail = detail.0 }, end.1)

unfoldable pub lines_at : Cursor → Read Lines
lines_at at = do
  heading ← heading_at at
  issue ← issue_at heading.1
  closing ← closing_at issue.1
  Ok (
    record {
      kind = heading.0.kind;
      error = heading.0.error;
      sender = heading.0.sender;
      recipients = heading.0.recipients;
      reply = heading.0.reply;
      subject = heading.0.subject;
      provider = issue.0.provider;
      shown = issue.0.shown;
      id = issue.0.id;
      reference = issue.0.reference;
      wish = closing.0.wish;
      delivered = closing.0.delivered;
      received = closing.0.received;
      detail = closing.0.detail;
    },
    closing.1,
  )
