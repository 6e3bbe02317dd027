-- The lines that have words of their own are read exactly: the first three, a recipient's, and the wish's.
use Rattle.std.proofs.Common.{◌≡◌, ℕ, Bool, true, false, List, [], ◌∷◌, ◌++◌, length, refl, sym, ap, ◌∙◌, inl, inr, arith, append_assoc}
use Rattle.std.specs.Prelude.{codes}
use Rattle.std.specs.List.{flat_map}
use Rattle.pec_types.specs.Text.{AllPrintable}
use Rattle.pec_types.specs.Words.{wish_word}
use Rattle.pec_types.specs.declared.messages.Wish.{Wish}
use Rattle.pec_types.specs.declared.messages.Wish.TheVariants.{Full, Brief, Concise}
use Rattle.pec_grammar.specs.Grammar.{Grammar, both, choice, HasValue, led, ended}
use Rattle.pec_grammar.proofs.Parts.{Lawful}
use Rattle.pec_grammar.proofs.Sequences.{Views, seen_lawful, same_lawful, both_lawful, led_lawful, ended_lawful}
use Rattle.pec_grammar.proofs.Alternatives.{HasByte}
use Rattle.pec_grammar.proofs.Openings.{choice_lawful, Opens}
use Rattle.pec_cert.specs.Markup.{escape, closing}
use Rattle.pec_cert.specs.Lines.{kind_word, error_word, class_word, front_text, addressee_text, wish_text}
use Rattle.pec_cert.specs.LinesReading.{kind_table, error_table, class_table, wish_table, front_at, addressee_from, addressee_at, wish_at, received_at}
use Rattle.pec_cert.specs.declared.certificates.CertKind.{CertKind}
use Rattle.pec_cert.specs.declared.certificates.CertKind.TheVariants as kinds
use Rattle.pec_cert.specs.declared.certificates.CertError.{CertError}
use Rattle.pec_cert.specs.declared.certificates.CertError.TheVariants as errors
use Rattle.pec_cert.specs.declared.lines.Addressee.{Addressee}
use Rattle.pec_cert.proofs.Texts.{content, content_lawful, tagged, tagged_lawful}

abbrev kind : Grammar CertKind
kind = choice kind_word kind_table

kind_lawful : Lawful kind
kind_lawful =
    choice_lawful kind_word (codes "accettazione", kinds.Acceptance)
    ((codes "non-accettazione", kinds.NonAcceptance) ∷ (codes "presa-in-carico", kinds.Charge)
    ∷ (codes "avvenuta-consegna", kinds.Delivery) ∷ (codes "posta-certificata", kinds.Envelope) ∷ (codes "errore-consegna", kinds.DeliveryError)
    ∷ (codes "preavviso-errore-consegna", kinds.DelayNotice) ∷ (codes "rilevazione-virus", kinds.VirusDetection) ∷ [])
    (refl, (refl, (refl, (refl, (refl, (refl, (refl, (refl, tt)))))))) refl

has_kind : (k : CertKind) → HasValue kind_table k
has_kind kinds.Acceptance = inl refl
has_kind kinds.NonAcceptance = inr (inl refl)
has_kind kinds.Charge = inr (inr (inl refl))
has_kind kinds.Delivery = inr (inr (inr (inl refl)))
has_kind kinds.Envelope = inr (inr (inr (inr (inl refl))))
has_kind kinds.DeliveryError = inr (inr (inr (inr (inr (inl refl)))))
has_kind kinds.DelayNotice = inr (inr (inr (inr (inr (inr (inl refl))))))
has_kind kinds.VirusDetection = inr (inr (inr (inr (inr (inr (inr (inl refl)))))))

abbrev error : Grammar CertError
error = choice error_word error_table

error_lawful : Lawful error
error_lawful =
    choice_lawful error_word (codes "nessuno", errors.Nothing)
    ((codes "no-dest", errors.NoRecipient) ∷ (codes "no-dominio", errors.NoDomain) ∷ (codes "virus", errors.Virus) ∷ (codes "altro", errors.Other) ∷ [])
    (refl, (refl, (refl, (refl, (refl, tt))))) refl

has_error : (e : CertError) → HasValue error_table e
has_error errors.Nothing = inl refl
has_error errors.NoRecipient = inr (inl refl)
has_error errors.NoDomain = inr (inr (inl refl))
has_error errors.Virus = inr (inr (inr (inl refl)))
has_error errors.Other = inr (inr (inr (inr (inl refl))))

abbrev pub front : Grammar (CertKind × CertError)
front = record { Fits = λ p. Unit {0}; spell = λ p. front_text p.0 p.1; read = front_at }

abbrev error_line : Grammar CertError
error_line = led (codes "\" errore=\"") (ended error (codes "\">\r\n<intestazione>\r\n"))

pub front_lawful : Lawful front
unfolding front_at
front_lawful =
    same_lawful (led (codes "<?xml version=\"1.0\" encoding=\"UTF-8\"?>\r\n<postacert tipo=\"") (both kind error_line)) front
    (λ p fits. tt) (λ p fits. (has_kind p.0, has_error p.1)) (λ p fits. refl) (λ at. refl)
    (led_lawful (codes "<?xml version=\"1.0\" encoding=\"UTF-8\"?>\r\n<postacert tipo=\"") (both kind error_line)
    (both_lawful kind error_line kind_lawful (led_lawful (codes "\" errore=\"") (ended error (codes "\">\r\n<intestazione>\r\n")) (ended_lawful error (codes "\">\r\n<intestazione>\r\n") error_lawful))))

-- A recipient.

abbrev class : Grammar Bool
class = choice class_word class_table

pub class_lawful : Lawful class
class_lawful = choice_lawful class_word (codes "certificato", true) ((codes "esterno", false) ∷ []) (refl, (refl, tt)) refl

pub has_class : (b : Bool) → HasValue class_table b
has_class true = inl refl
has_class false = inr (inl refl)

abbrev pub addressee : Grammar Addressee
addressee = record { Fits = λ r. AllPrintable r.address; spell = addressee_text; read = addressee_at }

abbrev address_part : Grammar (List ℕ)
address_part = led (codes "\">") (content (codes "</destinatari>\r\n"))

-- the two ways to part a line that begins with these words
regrouped : (word class rest : List ℕ) → word ++ (class ++ (codes "\">" ++ rest)) ≡ (word ++ (class ++ codes "\">")) ++ rest
regrouped word class rest =
    ap (λ z. word ++ z) (sym (append_assoc class (codes "\">") rest)) ∙ sym (append_assoc word (class ++ codes "\">") rest)

addressee_views : Views (led (codes "<destinatari tipo=\"") (both class address_part)) addressee addressee_from (λ r. (r.certified, r.address))
addressee_views = record {
  there = λ p fits. fits.1;
  spelled = λ p fits. sym (regrouped (codes "<destinatari tipo=\"") (class_word p.0) (flat_map escape p.1 ++ closing (codes "destinatari")));
  again = λ r fits. (has_class r.certified, fits);
  respelled = λ r fits. regrouped (codes "<destinatari tipo=\"") (class_word r.certified) (flat_map escape r.address ++ closing (codes "destinatari"));
  undone = λ r fits. refl;
}

pub addressee_lawful : Lawful addressee
unfolding addressee_at
addressee_lawful =
    seen_lawful (led (codes "<destinatari tipo=\"") (both class address_part)) addressee addressee_from (λ r. (r.certified, r.address)) addressee_views (λ at. refl)
    (led_lawful (codes "<destinatari tipo=\"") (both class address_part)
    (both_lawful class address_part class_lawful (led_lawful (codes "\">") (content (codes "</destinatari>\r\n")) (content_lawful (codes "/destinatari>\r\n")))))

pub addressee_opens : Opens addressee (codes "<destinatari tipo=\"" ∷ [])
addressee_opens r fits = record {
  front = codes "<destinatari tipo=\"";
  among = inl refl;
  more = class_word r.certified ++ (codes "\">" ++ (flat_map escape r.address ++ closing (codes "destinatari")));
  parts = sym (regrouped (codes "<destinatari tipo=\"") (class_word r.certified) (flat_map escape r.address ++ closing (codes "destinatari")));
}

pub addressee_has_byte : HasByte addressee
addressee_has_byte r fits = let b = addressee_opens r fits in omega (arith, ap length (regrouped (codes "<destinatari tipo=\"") (class_word r.certified) (flat_map escape r.address ++ closing (codes "destinatari"))))

-- The wish.

abbrev wish_kind : Grammar Wish
wish_kind = choice wish_word wish_table

wish_kind_lawful : Lawful wish_kind
wish_kind_lawful = choice_lawful wish_word (codes "completa", Full) ((codes "breve", Brief) ∷ (codes "sintetica", Concise) ∷ []) (refl, (refl, (refl, tt))) refl

has_wish : (w : Wish) → HasValue wish_table w
has_wish Full = inl refl
has_wish Brief = inr (inl refl)
has_wish Concise = inr (inr (inl refl))

abbrev pub wish : Grammar Wish
wish = record { Fits = λ w. Unit {0}; spell = wish_text; read = wish_at }

pub wish_lawful : Lawful wish
unfolding wish_at
wish_lawful =
    same_lawful (led (codes "<ricevuta tipo=\"") (ended wish_kind (codes "\"/>\r\n"))) wish (λ w fits. tt) (λ w fits. has_wish w) (λ w fits. refl) (λ at. refl)
    (led_lawful (codes "<ricevuta tipo=\"") (ended wish_kind (codes "\"/>\r\n")) (ended_lawful wish_kind (codes "\"/>\r\n") wish_kind_lawful))

pub wish_opens : Opens wish (codes "<ricevuta tipo=\"" ∷ [])
wish_opens w fits = record { front = codes "<ricevuta tipo=\""; among = inl refl; more = wish_word w ++ codes "\"/>\r\n"; parts = refl }

-- A recipient that a provider took charge of.

abbrev pub received : Grammar (List ℕ)
received = record { Fits = AllPrintable; spell = (tagged (codes "<ricezione>") (codes "</ricezione>\r\n")).spell; read = received_at }

pub received_lawful : Lawful received
unfolding received_at
received_lawful =
    same_lawful (tagged (codes "<ricezione>") (codes "</ricezione>\r\n")) received (λ x fits. fits) (λ x fits. fits) (λ x fits. refl) (λ at. refl)
    (tagged_lawful (codes "<ricezione>") (codes "/ricezione>\r\n"))

pub received_opens : Opens received (codes "<ricezione>" ∷ [])
received_opens x fits = record { front = codes "<ricezione>"; among = inl refl; more = flat_map escape x ++ codes "</ricezione>\r\n"; parts = refl }

pub received_has_byte : HasByte received
received_has_byte x fits = omega arith
