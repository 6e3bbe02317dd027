-- What is shown: from the lemmas.
use Rattle.pec_service.proofs.ShownLemmas.{shows_book, shows_items}
use Rattle.pec_service.proofs.showing.what_is_shown_is_the_ledgers.Goals as goal

pub returns : goal.returns
returns c = record {
  book = λ kept seals sites handed address done. shows_book kept seals sites address done;
  items = λ kept seals sites handed address done. shows_items kept seals sites address done;
}
