-- The lines of a certification text are read exactly.
use Rattle.std.proofs.Common.{◌≡◌, ℕ, List, [], ◌∷◌, Option, Some, None, Ok, Err, refl, ◌∙◌}
use Rattle.std.specs.Prelude.{codes, IfSome}
use Rattle.pec_types.specs.declared.messages.Wish.{Wish}
use Rattle.pec_grammar.specs.Grammar.{Cursor, Read, Grammar, ◌>>=◌, both_at, both, seen_at, word_at, word, led, optional_at, maybe, many_at, many, several_at, several}
use Rattle.pec_grammar.proofs.Parts.{Lawful}
use Rattle.pec_grammar.proofs.Sequences.{Views, seen_lawful, both_lawful, led_lawful, word_lawful}
use Rattle.pec_grammar.proofs.Alternatives.{maybe_lawful, many_lawful}
use Rattle.pec_grammar.proofs.Openings.{Opens, apart_by, led_opens, word_opens, maybe_opens, many_opens, both_opens}
use Rattle.pec_grammar.proofs.Repeats.{several_lawful}
use Rattle.pec_cert.specs.Lines.{text_of, Fits}
use Rattle.pec_cert.specs.LinesReading.{front_at, addressee_at, shown_at, wish_at, received_at, heading_at, issue_at, closing_at, lines_at}
use Rattle.pec_cert.specs.declared.certificates.CertKind.{CertKind}
use Rattle.pec_cert.specs.declared.certificates.CertError.{CertError}
use Rattle.pec_cert.specs.declared.lines.Addressee.{Addressee}
use Rattle.pec_cert.specs.declared.stamps.Shown.{Shown}
use Rattle.pec_cert.specs.declared.lines.Lines.{Lines}
use Rattle.pec_cert.proofs.NumberLemmas.{shown, shown_lawful}
use Rattle.pec_cert.proofs.PartLemmas.{front, front_lawful, addressee, addressee_lawful, addressee_opens, addressee_has_byte, wish, wish_lawful, wish_opens, received, received_lawful, received_opens, received_has_byte}
use Rattle.pec_cert.proofs.Texts.{tagged, tagged_lawful, tagged_opens}

-- The grammar, from its end.

abbrev end : Grammar (Unit {0})
end = word (codes "</dati>\r\n</postacert>\r\n")

abbrev detail : Grammar (List ℕ)
detail = tagged (codes "<errore-esteso>") (codes "</errore-esteso>\r\n")

abbrev Detail : Type 0
Detail = Option (List ℕ) × Unit {0}

abbrev from_detail : Grammar Detail
from_detail = maybe detail end

abbrev Received : Type 0
Received = List (List ℕ) × Detail

abbrev from_received : Grammar Received
from_received = many received from_detail

abbrev delivered : Grammar (List ℕ)
delivered = tagged (codes "<consegna>") (codes "</consegna>\r\n")

abbrev Delivered : Type 0
Delivered = Option (List ℕ) × Received

abbrev from_delivered : Grammar Delivered
from_delivered = maybe delivered from_received

abbrev Wished : Type 0
Wished = Option Wish × Delivered

abbrev from_wish : Grammar Wished
from_wish = maybe wish from_delivered

abbrev reference : Grammar (List ℕ)
reference = tagged (codes "<msgid>") (codes "</msgid>\r\n")

abbrev Referred : Type 0
Referred = Option (List ℕ) × Wished

abbrev from_reference : Grammar Referred
from_reference = maybe reference from_wish

abbrev id : Grammar (List ℕ)
id = tagged (codes "<identificativo>") (codes "</identificativo>\r\n")

abbrev Named : Type 0
Named = List ℕ × Referred

abbrev from_id : Grammar Named
from_id = both id from_reference

abbrev Dated : Type 0
Dated = Shown × Named

abbrev from_shown : Grammar Dated
from_shown = both shown from_id

abbrev provider : Grammar (List ℕ)
provider = tagged (codes "<gestore-emittente>") (codes "</gestore-emittente>\r\n")

abbrev Provided : Type 0
Provided = List ℕ × Dated

abbrev from_provider : Grammar Provided
from_provider = both provider from_shown

abbrev between : Grammar Provided
between = led (codes "</intestazione>\r\n<dati>\r\n") from_provider

abbrev subject : Grammar (List ℕ)
subject = tagged (codes "<oggetto>") (codes "</oggetto>\r\n")

abbrev Titled : Type 0
Titled = Option (List ℕ) × Provided

abbrev from_subject : Grammar Titled
from_subject = maybe subject between

abbrev reply : Grammar (List ℕ)
reply = tagged (codes "<risposte>") (codes "</risposte>\r\n")

abbrev Replied : Type 0
Replied = List ℕ × Titled

abbrev from_reply : Grammar Replied
from_reply = both reply from_subject

abbrev Addressed : Type 0
Addressed = List Addressee × Replied

abbrev from_addressees : Grammar Addressed
from_addressees = several addressee from_reply

abbrev sender : Grammar (List ℕ)
sender = tagged (codes "<mittente>") (codes "</mittente>\r\n")

abbrev Sent : Type 0
Sent = List ℕ × Addressed

abbrev from_sender : Grammar Sent
from_sender = both sender from_addressees

abbrev Fronted : Type 0
Fronted = (CertKind × CertError) × Sent

abbrev all : Grammar Fronted
all = both front from_sender

-- It is lawful.

detail_opens : Opens from_detail (codes "<errore-esteso>" ∷ codes "</dati>\r\n</postacert>\r\n" ∷ [])
detail_opens = maybe_opens detail end (codes "<errore-esteso>" ∷ []) (codes "</dati>\r\n</postacert>\r\n" ∷ []) (tagged_opens (codes "<errore-esteso>") (codes "</errore-esteso>\r\n")) (word_opens (codes "</dati>\r\n</postacert>\r\n"))

from_detail_lawful : Lawful from_detail
from_detail_lawful =
    maybe_lawful detail end
    (apart_by detail end (codes "<errore-esteso>" ∷ []) (codes "</dati>\r\n</postacert>\r\n" ∷ []) (tagged_opens (codes "<errore-esteso>") (codes "</errore-esteso>\r\n")) (word_opens (codes "</dati>\r\n</postacert>\r\n")) refl)
    (tagged_lawful (codes "<errore-esteso>") (codes "/errore-esteso>\r\n")) (word_lawful (codes "</dati>\r\n</postacert>\r\n"))

abbrev received_words : List (List ℕ)
received_words = codes "<ricezione>" ∷ codes "<errore-esteso>" ∷ codes "</dati>\r\n</postacert>\r\n" ∷ []

many_received_opens : Opens from_received received_words
many_received_opens = many_opens received from_detail (codes "<ricezione>" ∷ []) (codes "<errore-esteso>" ∷ codes "</dati>\r\n</postacert>\r\n" ∷ []) received_opens detail_opens

from_received_lawful : Lawful from_received
from_received_lawful =
    many_lawful received from_detail
    (apart_by received from_detail (codes "<ricezione>" ∷ []) (codes "<errore-esteso>" ∷ codes "</dati>\r\n</postacert>\r\n" ∷ []) received_opens detail_opens refl)
    received_has_byte received_lawful from_detail_lawful

delivered_opens : Opens from_delivered (codes "<consegna>" ∷ received_words)
delivered_opens = maybe_opens delivered from_received (codes "<consegna>" ∷ []) received_words (tagged_opens (codes "<consegna>") (codes "</consegna>\r\n")) many_received_opens

from_delivered_lawful : Lawful from_delivered
from_delivered_lawful =
    maybe_lawful delivered from_received (apart_by delivered from_received (codes "<consegna>" ∷ []) received_words (tagged_opens (codes "<consegna>") (codes "</consegna>\r\n")) many_received_opens refl)
    (tagged_lawful (codes "<consegna>") (codes "/consegna>\r\n")) from_received_lawful

from_wish_opens : Opens from_wish (codes "<ricevuta tipo=\"" ∷ codes "<consegna>" ∷ received_words)
from_wish_opens = maybe_opens wish from_delivered (codes "<ricevuta tipo=\"" ∷ []) (codes "<consegna>" ∷ received_words) wish_opens delivered_opens

from_wish_lawful : Lawful from_wish
from_wish_lawful =
    maybe_lawful wish from_delivered (apart_by wish from_delivered (codes "<ricevuta tipo=\"" ∷ []) (codes "<consegna>" ∷ received_words) wish_opens delivered_opens refl)
    wish_lawful from_delivered_lawful

from_reference_lawful : Lawful from_reference
from_reference_lawful =
    maybe_lawful reference from_wish
    (apart_by reference from_wish (codes "<msgid>" ∷ []) (codes "<ricevuta tipo=\"" ∷ codes "<consegna>" ∷ received_words) (tagged_opens (codes "<msgid>") (codes "</msgid>\r\n")) from_wish_opens refl)
    (tagged_lawful (codes "<msgid>") (codes "/msgid>\r\n")) from_wish_lawful

between_lawful : Lawful between
between_lawful =
    led_lawful (codes "</intestazione>\r\n<dati>\r\n") from_provider
    (both_lawful provider from_shown (tagged_lawful (codes "<gestore-emittente>") (codes "/gestore-emittente>\r\n"))
    (both_lawful shown from_id shown_lawful
    (both_lawful id from_reference (tagged_lawful (codes "<identificativo>") (codes "/identificativo>\r\n")) from_reference_lawful)))

from_subject_lawful : Lawful from_subject
from_subject_lawful =
    maybe_lawful subject between
    (apart_by subject between (codes "<oggetto>" ∷ []) (codes "</intestazione>\r\n<dati>\r\n" ∷ []) (tagged_opens (codes "<oggetto>") (codes "</oggetto>\r\n")) (led_opens (codes "</intestazione>\r\n<dati>\r\n") from_provider) refl)
    (tagged_lawful (codes "<oggetto>") (codes "/oggetto>\r\n")) between_lawful

reply_opens : Opens from_reply (codes "<risposte>" ∷ [])
reply_opens = both_opens reply from_subject (codes "<risposte>" ∷ []) (tagged_opens (codes "<risposte>") (codes "</risposte>\r\n"))

from_addressees_lawful : Lawful from_addressees
from_addressees_lawful =
    several_lawful addressee from_reply (apart_by addressee from_reply (codes "<destinatari tipo=\"" ∷ []) (codes "<risposte>" ∷ []) addressee_opens reply_opens refl)
    addressee_has_byte addressee_lawful
    (both_lawful reply from_subject (tagged_lawful (codes "<risposte>") (codes "/risposte>\r\n")) from_subject_lawful)

all_lawful : Lawful all
all_lawful =
    both_lawful front from_sender front_lawful
    (both_lawful sender from_addressees (tagged_lawful (codes "<mittente>") (codes "/mittente>\r\n")) from_addressees_lawful)

-- Its values are the lines.

abbrev view : Fronted → Lines
view p =
    let s : Sent = p.1 in
    let r : Addressed = s.1 in
    let a : Replied = r.1 in
    let o : Titled = a.1 in
    let g : Provided = o.1 in
    let d : Dated = g.1 in
    let i : Named = d.1 in
    let m : Referred = i.1 in
    let w : Wished = m.1 in
    let e : Delivered = w.1 in
    let c : Received = e.1 in
    let t : Detail = c.1 in
    record {
      kind = p.0.0;
      error = p.0.1;
      sender = s.0;
      recipients = r.0;
      reply = a.0;
      subject = o.0;
      provider = g.0;
      shown = d.0;
      id = i.0;
      reference = m.0;
      wish = w.0;
      delivered = e.0;
      received = c.0;
      detail = t.0;
    }

abbrev back : Lines → Fronted
back l =
    ((l.kind, l.error), (l.sender, (l.recipients, (l.reply, (l.subject, (l.provider, (l.shown, (l.id, (l.reference, (l.wish, (l.delivered, (l.received, (l.detail, tt)))))))))))))

abbrev pub lines : Grammar Lines
lines = record { Fits = Fits; spell = text_of; read = lines_at }

any_wish : (o : Option Wish) → IfSome o wish.Fits
any_wish None = tt
any_wish (Some w) = tt

fits_there : (p : Fronted) → all.Fits p → Fits (view p)
fits_there p fits =
    let s = fits.1 in
    let r = s.1 in
    let a = r.1 in
    let o = a.1 in
    let g = o.1 in
    let d = g.1 in
    let i = d.1 in
    let m = i.1 in
    let w = m.1 in
    let e = w.1 in
    let c = e.1 in
    record {
      sender = s.0;
      recipients = r.0;
      reply = a.0;
      subject = o.0;
      provider = g.0;
      shown = d.0;
      id = i.0;
      reference = m.0;
      delivered = e.0;
      received = c.0;
      detail = c.1.0;
    }

fits_back : (l : Lines) → Fits l → all.Fits (back l)
fits_back l f =
    (tt, (f.sender, (f.recipients, (f.reply, (f.subject, (f.provider, (f.shown, (f.id, (f.reference, (any_wish l.wish, (f.delivered, (f.received, (f.detail, tt)))))))))))))

lines_views : Views all lines view back
lines_views = record { there = fits_there; spelled = λ p fits. refl; again = fits_back; respelled = λ l fits. refl; undone = λ l fits. refl }

-- Reading goes along the grammar.

both_step : {A B C : Type 0} (r : Read A) (s : Cursor → Read B) (view : A × B → C) (next : A × Cursor → Read C) (at : Cursor)
    → ((a : A × Cursor) → next a ≡ seen_at (λ q. view (a.0, q)) s a.1) → (r >>= next) ≡ seen_at view (both_at (λ _. r) s) at
both_step {A} {B} {C} (Ok a) s view next at further = further a ∙ rest_step (s a.1)
  where
    rest_step : (r : Read B) → (r >>= λ b. Ok (view (a.0, b.0), b.1)) ≡ seen_at view (both_at (λ _. Ok a) (λ _. r)) at
    rest_step (Ok b) = refl
    rest_step (Err stop) = refl
both_step (Err stop) s view next at further = refl

led_step : {B C : Type 0} (r : Read (Unit {0})) (s : Cursor → Read B) (view : B → C) (next : Unit {0} × Cursor → Read C) (at : Cursor)
    → ((a : Unit {0} × Cursor) → next a ≡ seen_at view s a.1) → (r >>= next) ≡ seen_at view (λ _. r >>= λ w. s w.1) at
led_step (Ok a) s view next at further = further a
led_step (Err stop) s view next at further = refl

-- Reading goes along parts that are read one behind the other as along all their pieces.
onward : {A B C : Type 0} (r : Read A) (f : A × Cursor → Read B) (k : B × Cursor → Read C) (g : A × Cursor → Read C)
    → ((a : A × Cursor) → (f a >>= k) ≡ g a) → ((r >>= f) >>= k) ≡ (r >>= g)
onward (Ok a) f k g further = further a
onward (Err stop) f k g further = refl

-- the pieces of a text in a row
abbrev row_at : Cursor → Read Lines
row_at at =
    front_at at >>= λ f.
    sender.read f.1 >>= λ s.
    several_at addressee_at s.1 >>= λ r.
    reply.read r.1 >>= λ a.
    optional_at subject.read a.1 >>= λ o.
    word_at (codes "</intestazione>\r\n<dati>\r\n") o.1 >>= λ b.
    provider.read b.1 >>= λ g.
    shown_at g.1 >>= λ d.
    id.read d.1 >>= λ i.
    optional_at reference.read i.1 >>= λ m.
    optional_at wish_at m.1 >>= λ w.
    optional_at delivered.read w.1 >>= λ e.
    many_at received_at e.1 >>= λ c.
    optional_at detail.read c.1 >>= λ t.
    word_at (codes "</dati>\r\n</postacert>\r\n") t.1 >>= λ z.
    Ok (
      record {
        kind = f.0.0;
        error = f.0.1;
        sender = s.0;
        recipients = r.0;
        reply = a.0;
        subject = o.0;
        provider = g.0;
        shown = d.0;
        id = i.0;
        reference = m.0;
        wish = w.0;
        delivered = e.0;
        received = c.0;
        detail = t.0;
      },
      z.1,
    )

in_a_row : (at : Cursor) → lines_at at ≡ row_at at
unfolding lines_at heading_at issue_at closing_at
in_a_row at =
    onward (front_at at) _ _ _ (λ f.
    onward (sender.read f.1) _ _ _ (λ s.
    onward (several_at addressee_at s.1) _ _ _ (λ r.
    onward (reply.read r.1) _ _ _ (λ a.
    onward (optional_at subject.read a.1) _ _ _ (λ o.
    onward (word_at (codes "</intestazione>\r\n<dati>\r\n") o.1) _ _ _ (λ b.
    onward (provider.read b.1) _ _ _ (λ g.
    onward (shown_at g.1) _ _ _ (λ d.
    onward (id.read d.1) _ _ _ (λ i.
    onward (optional_at reference.read i.1) _ _ _ (λ m.
    onward (optional_at wish_at m.1) _ _ _ (λ w.
    onward (optional_at delivered.read w.1) _ _ _ (λ e.
    onward (many_at received_at e.1) _ _ _ (λ c.
    onward (optional_at detail.read c.1) _ _ _ (λ t.
    onward (word_at (codes "</dati>\r\n</postacert>\r\n") t.1) _ _ _ (λ z. refl)))))))))))))))

reads : (at : Cursor) → lines_at at ≡ seen_at view all.read at
reads at =
    in_a_row at ∙
    both_step (front_at at) from_sender.read view _ at (λ f.
    both_step (sender.read f.1) from_addressees.read _ _ f.1 (λ s.
    both_step (several_at addressee_at s.1) from_reply.read _ _ s.1 (λ r.
    both_step (reply.read r.1) from_subject.read _ _ r.1 (λ a.
    both_step (optional_at subject.read a.1) between.read _ _ a.1 (λ o.
    led_step (word_at (codes "</intestazione>\r\n<dati>\r\n") o.1) from_provider.read _ _ o.1 (λ b.
    both_step (provider.read b.1) from_shown.read _ _ b.1 (λ g.
    both_step (shown_at g.1) from_id.read _ _ g.1 (λ d.
    both_step (id.read d.1) from_reference.read _ _ d.1 (λ i.
    both_step (optional_at reference.read i.1) from_wish.read _ _ i.1 (λ m.
    both_step (optional_at wish_at m.1) from_delivered.read _ _ m.1 (λ w.
    both_step (optional_at delivered.read w.1) from_received.read _ _ w.1 (λ e.
    both_step (many_at received_at e.1) from_detail.read _ _ e.1 (λ c.
    both_step (optional_at detail.read c.1) end.read _ _ c.1 (λ t. refl))))))))))))))

pub lines_lawful : Lawful lines
lines_lawful = seen_lawful all lines view back lines_views reads all_lawful
