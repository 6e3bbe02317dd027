-- What is seen of a letter has passed each row of the table.
use Rattle.std.proofs.Common.{◌≡◌, Bool, true, ◌&&◌, List, map, Option, Some, Result, Ok, codes, ap, sym, ◌∙◌}
use Rattle.std.proofs.lemmas.Bool.{and_parts}
use Rattle.std.specs.Option.{is_none}
use Rattle.pec_types.specs.Bytes.{Bytes}
use Rattle.pec_types.specs.Message.{Id}
use Rattle.pec_types.specs.Results.{◌>>=◌}
use Rattle.pec_types.specs.declared.disputes.Disputed.TheVariants as disputed
use Rattle.pec_types.specs.declared.disputes.LetterFault.{LetterFault}
use Rattle.pec_types.specs.declared.disputes.LetterFault.TheVariants.{NotThis, Disagree}
use Rattle.pec_types.specs.declared.messages.Facts.{Facts}
use Rattle.pec_heads.specs.BoundedFacts.{addresses_of}
use Rattle.pec_cert.specs.declared.certificates.CertRecipient.{CertRecipient}
use Rattle.pec_directory.specs.Directory.{Provider}
use Rattle.pec_letter_parts.specs.Asking.{claim, known}
use Rattle.pec_letter_parts.specs.Contents.{message_name}
use Rattle.pec_letter_parts.specs.Letters.{Letter, body_of}
use Rattle.pec_letter_facts.specs.Questions.{are_typed, id_named, is_dated, is_from_home}
use Rattle.pec_letters.proofs.PlaceLemmas.{claimed, known_as, named_is}
use Rattle.pec_letters.specs.Seen.{Seen, are_recipients, facts_in, is_envelope, is_named_path, is_path, is_sealed_at_home, is_wished, named_in, seen_of}

module _ (providers : List Provider) (letter : Letter) where
  -- the rows from each one on, from the last to the first

  abbrev on_date : Bytes → Id → Facts → Result Seen LetterFault
  on_date original id facts =
      claim (is_dated letter) (Disagree disputed.Moment) >>= λ date. Ok (record { id = id; moment = letter.cert.stamp.moment; facts = facts; original = original })

  abbrev on_wish : Bytes → Id → Facts → Result Seen LetterFault
  on_wish original id facts = claim (is_wished facts letter) (Disagree disputed.Wish) >>= λ wish. on_date original id facts

  abbrev on_recipients : Bytes → Id → Facts → Result Seen LetterFault
  on_recipients original id facts = claim (are_recipients providers facts letter) (Disagree disputed.Recipient) >>= λ recipients. on_wish original id facts

  abbrev on_facts : Bytes → Id → Result Seen LetterFault
  on_facts original id = known (facts_in original letter) (Disagree disputed.Sender) >>= λ facts. on_recipients original id facts

  abbrev on_home : Bytes → Id → Result Seen LetterFault
  on_home original id = claim (is_from_home providers id letter) (Disagree disputed.Sender) >>= λ home. on_facts original id

  abbrev on_sealer : Bytes → Id → Result Seen LetterFault
  on_sealer original id = claim (is_sealed_at_home providers id letter) (Disagree disputed.Sealer) >>= λ sealer. on_home original id

  abbrev on_id : Bytes → Result Seen LetterFault
  on_id original = known (id_named providers (codes "Message-ID") letter) (Disagree disputed.Identifier) >>= λ id. on_sealer original id

  abbrev on_original : Result Seen LetterFault
  on_original = known (body_of message_name letter.parts) NotThis >>= λ original. on_id original

  by_wish : (original : Bytes) (id : Id) (facts : Facts) (seen : Seen) → on_wish original id facts ≡ Ok seen → facts ≡ seen.facts
  by_wish original id facts seen e =
      let a = claimed (is_wished facts letter) (Disagree disputed.Wish) (λ wish. on_date original id facts) seen e
      in let b = claimed (is_dated letter) (Disagree disputed.Moment) (λ date. Ok (record { id = id; moment = letter.cert.stamp.moment; facts = facts; original = original })) seen a.1
      in cc

  -- The recipients of what is seen have passed their row.
  pub recipients_passed : (seen : Seen) → seen_of providers letter ≡ Ok seen → are_recipients providers seen.facts letter ≡ true
  unfolding seen_of
  recipients_passed seen e =
      let a = claimed (is_envelope letter) NotThis (λ kind. on_original) seen e
      in let original = known_as (body_of message_name letter.parts) NotThis (λ original. on_id original) seen a.1
      in let id = known_as (id_named providers (codes "Message-ID") letter) (Disagree disputed.Identifier) (λ id. on_sealer original.0 id) seen original.1.1
      in let d = claimed (is_sealed_at_home providers id.0 letter) (Disagree disputed.Sealer) (λ sealer. on_home original.0 id.0) seen id.1.1
      in let h = claimed (is_from_home providers id.0 letter) (Disagree disputed.Sender) (λ home. on_facts original.0 id.0) seen d.1
      in let facts = known_as (facts_in original.0 letter) (Disagree disputed.Sender) (λ facts. on_recipients original.0 id.0 facts) seen h.1
      in let r = claimed (are_recipients providers facts.0 letter) (Disagree disputed.Recipient) (λ recipients. on_wish original.0 id.0 facts.0) seen facts.1.1
      in ap (λ (f : Facts). are_recipients providers f letter) (sym (by_wish original.0 id.0 facts.0 seen r.1)) ∙ r.0

  -- They are those that `To` and `Cc` name.
  pub names_passed : (seen : Seen) → seen_of providers letter ≡ Ok seen → named_in letter.head ≡ Some (addresses_of seen.facts.recipients)
  unfolding are_recipients
  names_passed seen e =
      let path = addresses_of seen.facts.recipients
      in let certified = map (λ (r : CertRecipient). r.address) letter.cert.recipients
      in named_is path (named_in letter.head)
      (and_parts ((are_typed providers letter && is_none letter.cert.delivered) && is_path certified path) (is_named_path path (named_in letter.head)) (recipients_passed seen e)).1
