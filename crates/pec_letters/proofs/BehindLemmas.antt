-- What is seen of a text is what is seen behind the head that was read of it.
use Rattle.std.proofs.Common.{◌≡◌, Bool, true, false, ◌&&◌, List, Option, None, Some, Result, Ok, Err, refl, ap, sym, ◌∙◌, subst}
use Rattle.std.specs.Result.{result_ok}
use Rattle.pec_types.specs.Bytes.{Bytes}
use Rattle.pec_types.specs.Results.{◌>>=◌}
use Rattle.pec_types.specs.declared.disputes.LetterFault.{LetterFault}
use Rattle.pec_directory.specs.Directory.{Provider}
use Rattle.pec_bodies.specs.Multiparts.{ReadPart}
use Rattle.pec_bodies.specs.PartsReading.{parts_of}
use Rattle.pec_cert.specs.declared.certificates.CertData.{CertData}
use Rattle.pec_seal.specs.Seals.{Seals}
use Rattle.pec_letter_parts.specs.Asking.{claim, readable}
use Rattle.pec_letter_parts.specs.Letters.{Headed, Letter}
use Rattle.pec_letter_parts.specs.LettersReading.{certified_by, headed_of, letter_in, letter_of}
use Rattle.pec_letter_facts.specs.Questions.{marking_of}
use Rattle.pec_letters.specs.Seen.{Seen, certifies_envelope, is_envelope, is_marked, seen_of}
use Rattle.pec_letters.specs.Behind.{view_in}
use Rattle.pec_letters.specs.SeenReading.{view}

-- a text whose head is read is seen as what is behind that
pub behind_head : (seals : Seals) (providers : List Provider) (text : Bytes) (read : Headed) → headed_of seals text ≡ Ok read
    → view seals providers text ≡ view_in providers read
unfolding view view_in letter_of
behind_head seals providers text read e = ap (λ (r : Result Headed LetterFault). (r >>= letter_in) >>= seen_of providers) e

-- a text of which no head is read has that fault
pub no_head : (seals : Seals) (providers : List Provider) (text : Bytes) (fault : LetterFault) → headed_of seals text ≡ Err fault
    → view seals providers text ≡ Err fault
unfolding view letter_of
no_head seals providers text fault e = ap (λ (r : Result Headed LetterFault). (r >>= letter_in) >>= seen_of providers) e

-- ---- a head that isn't an envelope's

Unseen : Headed → Result Letter LetterFault → Type 0
Unseen read (Ok letter) = letter.head ≡ read.head
Unseen read (Err fault) = Unit {0}

-- the letter behind a head has that head
head_kept : (read : Headed) → Unseen read (letter_in read)
unfolding letter_in Unseen
head_kept read = by_parts (readable (parts_of read.head read.body) _)
  where
    by_cert : (parts : List ReadPart) (cert : Result CertData LetterFault)
        → Unseen read (cert >>= λ (cert : CertData). Ok (record { sealer = read.sealer; head = read.head; parts = parts; cert = cert }))
    by_cert parts (Ok cert) = refl
    by_cert parts (Err fault) = tt

    by_parts : (parts : Result (List ReadPart) LetterFault)
        → Unseen read (parts >>= λ (parts : List ReadPart). certified_by parts >>= λ (cert : CertData).
        Ok (record { sealer = read.sealer; head = read.head; parts = parts; cert = cert }))
    by_parts (Ok parts) = by_cert parts (certified_by parts)
    by_parts (Err fault) = tt

-- a letter with such a head is no envelope
no_mark : (providers : List Provider) (letter : Letter) → is_marked (marking_of letter.head) ≡ false
    → result_ok (seen_of providers letter) ≡ None
unfolding seen_of is_envelope
no_mark providers letter e = rw e refl

pub other_head : (seals : Seals) (providers : List Provider) (text : Bytes) (read : Headed) → headed_of seals text ≡ Ok read
    → is_marked (marking_of read.head) ≡ false → result_ok (view seals providers text) ≡ None
unfolding view_in Unseen
other_head seals providers text read e unmarked =
    ap (result_ok {T = Seen} {E = LetterFault}) (behind_head seals providers text read e) ∙ by_letter (letter_in read) (head_kept read)
  where
    by_letter : (letter : Result Letter LetterFault) → Unseen read letter → result_ok (letter >>= seen_of providers) ≡ None
    by_letter (Ok letter) same = no_mark providers letter (ap (λ head. is_marked (marking_of head)) same ∙ unmarked)
    by_letter (Err fault) tt = refl
