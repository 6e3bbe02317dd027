-- Each question is passed.
use Rattle.pec_letter_facts.proofs.QuestionLemmas.{date_passes, home_passes, id_passes, issuer_passes, types_pass, wish_passes}
use Rattle.pec_letter_facts.proofs.read_back.what_is_composed_passes.Goals as goal

pub returns : goal.returns
returns c = record {
  id = λ providers id field letter lawful within below same e.
      id_passes providers id field letter same (c.a_text_names_one_message.ensures.named providers id lawful within below) e;
  issuer = λ providers issuer letter e called. issuer_passes providers issuer letter e called;
  home = λ providers id letter e. home_passes providers id letter e;
  typed = λ providers recipients letter e. types_pass providers recipients letter e;
  wish = λ wish head e. wish_passes wish head e;
  dated = λ letter e. date_passes letter e;
}
