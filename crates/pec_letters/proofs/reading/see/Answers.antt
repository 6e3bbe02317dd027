-- Each row but the last was passed.
use Rattle.std.proofs.Common.{◌≡◌, ℕ, true, Some, Result, codes, sym, ap, subst, ◌∙◌}
use Rattle.pec_types.specs.Answers.{Gives}
use Rattle.pec_types.specs.declared.disputes.LetterFault.{LetterFault}
use Rattle.pec_types.specs.declared.disputes.LetterFault.TheVariants.{NoMemory}
use Rattle.pec_directory.specs.Directory.{providers_of}
use Rattle.pec_letter_parts.specs.Contents.{message_name}
use Rattle.pec_letter_parts.specs.Letters.{body_of}
use Rattle.pec_letter_parts.specs.Views.{letter_shown}
use Rattle.pec_letter_facts.specs.Questions.{id_named, is_from_home}
use Rattle.pec_letters.proofs.SeenLemmas.{passes_to_date}
use Rattle.pec_letters.specs.Seen.{Seen, are_recipients, dated, facts_in, is_envelope, is_sealed_at_home, is_wished}
use Rattle.pec_letters.specs.Views.{view_shown}
use Rattle.pec_letters.proofs.reading.see.Goals as goal

pub returns : goal.returns
returns c =
    let providers = providers_of c.args.directory.now
    in let letter = letter_shown c.args.letter.now
    in let original = c.in-Some.original.now
    in let id = c.in-Some-2.id
    in let facts = c.in-Some-3.facts
    in let a : is_envelope letter ≡ true = cc c.if-not-is_envelope.ensures
    in let b : body_of message_name letter.parts ≡ Some original = sym c.in-Some.ensures
    in let i : id_named providers (codes "Message-ID") letter ≡ Some id = sym c.in_ok-id.ensures ∙ c.in-Some-2.is
    in let s : is_sealed_at_home providers id letter ≡ true = cc c.if-not-is_sealed_at_home.ensures
    in let h : is_from_home providers id letter ≡ true = cc c.if-not-is_from_home.ensures
    in let f : facts_in original letter ≡ Some facts = sym c.in_ok-facts.ensures ∙ c.in-Some-3.is
    in let r : are_recipients providers facts letter ≡ true = sym c.in_ok-are_recipients.ensures ∙ c.if-not-branch.false
    in let w : is_wished facts letter ≡ true = cc c.if-not-is_wished.ensures
    in subst (λ (given : Result Seen LetterFault). Gives NoMemory view_shown c.dated.result given)
    (ap (λ (m : ℕ). dated letter (record { id = id; moment = m; facts = facts; original = original })) c.moment_of.ensures
    ∙ sym (passes_to_date providers letter original id facts a b i s h f r w))
    c.dated.ensures
