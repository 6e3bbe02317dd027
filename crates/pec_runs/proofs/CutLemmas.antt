-- Scripts that are cut in two.
use Rattle.std.proofs.Common.{◌≡◌, ℕ, List, [], ◌∷◌, ◌++◌, inl, inr, length, refl, ap, sym, ◌∙◌, arith}
use Rattle.std.specs.Prelude.{slice_index_or}
use Rattle.std.proofs.lemmas.Bool.{cases_lt}
use Rattle.std.proofs.lemmas.List.{get_or-map, get_or_past, length-map}
use Rattle.pec_types.specs.Bytes.{Bytes}
use Rattle.pec_types.specs.declared.messages.BookLine.{BookLine}
use Rattle.pec_records.specs.declared.entries.Entry.{Entry}
use Rattle.pec_ledger.specs.Books.{book}
use Rattle.pec_ledger.specs.Ledger.{ledger}
use Rattle.pec_ledger.specs.Network.{Site, empty_site, journal_at}
use Rattle.pec_ledger.specs.Steps.{half}
use Rattle.pec_ledger.specs.Trade.{Trade}
use Rattle.pec_plays.specs.Commands.{Answer, Command, Luck, played}
use Rattle.pec_plays.specs.Scripts.{script}
use Rattle.pec_screen.specs.Verdicts.{Patterns}
use Rattle.pec_runs.specs.Headline.{IsBook}
use Rattle.pec_runs.specs.Openings.{opened}
use Rattle.pec_runs.specs.Resuming.{IsAtRest, journals_left, resumed, screens_left}
use Rattle.pec_runs.proofs.BeginningLemmas.{journal_opened}

module _ (trade : Trade) where
  pub cut_answers : (lucks more : List Luck) (sites : List Site) (commands others : List Command)
      → length lucks ≡ length commands
      → (script trade (lucks ++ more) sites (commands ++ others)).answers
      ≡ (script trade lucks sites commands).answers ++
      (script trade more (script trade lucks sites commands).after others).answers
  cut_answers [] more sites [] others e = refl
  cut_answers [] more sites (c ∷ commands) others e = absurd (omega (arith, e))
  cut_answers (l ∷ lucks) more sites [] others e = absurd (omega (arith, e))
  cut_answers (l ∷ lucks) more sites (c ∷ commands) others e =
      ap (λ (answers : List Answer). (played trade l sites c).answer ∷ answers)
      (cut_answers lucks more (played trade l sites c).after commands others
      (let f : length lucks ≡ length commands = omega (arith, e) in f))

  pub cut_after : (lucks more : List Luck) (sites : List Site) (commands others : List Command)
      → length lucks ≡ length commands
      → (script trade (lucks ++ more) sites (commands ++ others)).after
      ≡ (script trade more (script trade lucks sites commands).after others).after
  cut_after [] more sites [] others e = refl
  cut_after [] more sites (c ∷ commands) others e = absurd (omega (arith, e))
  cut_after (l ∷ lucks) more sites [] others e = absurd (omega (arith, e))
  cut_after (l ∷ lucks) more sites (c ∷ commands) others e =
      cut_after lucks more (played trade l sites c).after commands others
      (let f : length lucks ≡ length commands = omega (arith, e) in f)

  both_sites : (x y : Site) (xs ys : List Site) → x ≡ y → xs ≡ ys → x ∷ xs ≡ y ∷ ys
  both_sites x y xs ys e f = rw (e, f) refl

  -- a state at rest is the one that is resumed from its journals
  pub rest_again : (sites : List Site) → IsAtRest trade sites → resumed trade (screens_left sites) sites ≡ sites
  rest_again [] rests = refl
  rest_again (site ∷ sites) rests =
      both_sites (opened trade site.screens site.journal) site (resumed trade (screens_left sites) sites) sites (sym rests.0) (rest_again sites rests.1)

  -- ---- journals stay

  left_at : (sites : List Site) (p : ℕ) → slice_index_or (journals_left sites) p [] ≡ journal_at sites p
  left_at sites p =
      elim (cases_lt p (length sites)) [
        | inl l ↦ get_or-map (λ (site : Site). site.journal) sites p empty_site [] l
        | inr l ↦
            get_or_past (journals_left sites) p []
            (let e = length-map sites (λ (site : Site). site.journal) in omega (arith, e, l))
            ∙ sym (ap (λ (site : Site). site.journal) (get_or_past sites p empty_site l))
      ]

  pub journals_stay : (screens : List (List Patterns)) (sites : List Site) (p : ℕ)
      → journal_at (resumed trade screens sites) p ≡ journal_at sites p
  journals_stay screens sites p = journal_opened trade screens (journals_left sites) p ∙ left_at sites p

  pub book_stays : (screens : List (List Patterns)) (sites : List Site) (address : Bytes) (lines : List BookLine) → IsBook trade sites address lines
      → IsBook trade (resumed trade screens sites) address lines
  unfolding ledger
  book_stays screens sites address lines is = record {
    provider = is.provider;
    home = is.home;
    account = is.account;
    are = is.are ∙ ap (λ (es : List Entry). book trade is.provider (half trade is.provider es) address)
        (sym (journals_stay screens sites is.provider));
  }
