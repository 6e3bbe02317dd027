-- What is seen of letters of other kinds: an envelope is no receipt, and neither is what is no letter.
use Rattle.std.proofs.Common.{◌≡◌, List, None, Some, Result, Err, refl, ap, sym, ◌∙◌}
use Rattle.pec_types.specs.Answers.{TellsExactly}
use Rattle.pec_types.specs.Bytes.{Bytes}
use Rattle.pec_types.specs.Results.{◌>>=◌}
use Rattle.pec_types.specs.declared.disputes.LetterFault.{LetterFault}
use Rattle.pec_types.specs.declared.disputes.LetterFault.TheVariants.{NotThis}
use Rattle.pec_directory.specs.Directory.{Provider}
use Rattle.pec_seal.specs.Seals.{Seals}
use Rattle.pec_letter_parts.specs.Letters.{Headed, IsHeaded, IsLetter, IsLetterIn, IsUnheaded, IsUnreadIn, Letter}
use Rattle.pec_letter_parts.specs.LettersReading.{headed_of, letter_in, letter_of}
use Rattle.pec_letter_parts.specs.declared.headings.Marking.TheVariants as markings
use Rattle.pec_letter_facts.specs.Questions.{marking_of}
use Rattle.pec_receipts.proofs.AgainLemmas.{no_kind, none_acknowledged, unseen}
use Rattle.pec_receipts.specs.Seen.{reply_of, seen_of}
use Rattle.pec_receipts.specs.SeenReading.{seen_by, seen_in, view}

-- what the laws of the crates below say
pub record OtherLaws (seals : Seals) : Type 0 where
  pub heads : (text : Bytes) → TellsExactly (IsHeaded seals text) (IsUnheaded seals text) (headed_of seals text)
  pub letters : (read : Headed) → TellsExactly (IsLetterIn read) (IsUnreadIn read) (letter_in read)

module _ (seals : Seals) (laws : OtherLaws seals) where
  -- what is behind the head of an envelope is asked as a letter
  asked : (providers : List Provider) (text : Bytes) (read : Headed) (word : Bytes) → IsHeaded seals text read
      → marking_of read.head ≡ Some (markings.Transport, word) → view seals providers text ≡ (letter_in read >>= seen_of providers)
  unfolding view seen_in
  asked providers text read word headed marked =
      let reply : reply_of read ≡ None = none_acknowledged read.head markings.Transport word refl marked
      in ap (λ (given : Result Headed LetterFault). given >>= seen_in providers) (((laws.heads text).value read).1 headed)
      ∙ ap (seen_by providers read) reply

  pub envelope_unseen : (providers : List Provider) (text : Bytes) (letter : Letter) (word : Bytes) → IsLetter seals text letter
      → marking_of letter.head ≡ Some (markings.Transport, word) → view seals providers text ≡ Err NotThis
  envelope_unseen providers text letter word is marked =
      let read = is.0
      in asked providers text read word is.1.0 (ap marking_of (sym is.1.1.head_is) ∙ marked)
      ∙ ap (λ (given : Result Letter LetterFault). given >>= seen_of providers) (((laws.letters read).value letter).1 is.1.1)
      ∙ unseen providers letter (no_kind letter word marked)

  pub unread_unseen : (providers : List Provider) (text : Bytes) (read : Headed) (word : Bytes) (fault : LetterFault) → IsHeaded seals text read
      → marking_of read.head ≡ Some (markings.Transport, word) → letter_of seals text ≡ Err fault → view seals providers text ≡ Err fault
  unfolding letter_of
  unread_unseen providers text read word fault headed marked unread =
      let none : letter_in read ≡ Err fault =
      ap (λ (given : Result Headed LetterFault). given >>= letter_in) (sym (((laws.heads text).value read).1 headed)) ∙ unread
      in asked providers text read word headed marked ∙ ap (λ (given : Result Letter LetterFault). given >>= seen_of providers) none
