-- Outcomes behind rounds that are printed to go well: from the lemmas, the law of scripts and the laws of runs.
use Rattle.pec_progress_runs.proofs.RunLemmas.{all_kept, can_be_put, setting}
use Rattle.pec_progress_runs.proofs.runs.printed_rounds_bring_outcomes.Goals as goal

pub returns : goal.returns
returns g c = record {
  known = λ asked status unread held after depot left old new told ran providers script plays sealer same fits number four.
      let is = setting asked status unread held after _ _ _ old new ran providers script plays
      in let put = can_be_put asked status unread held after _ _ _ old new ran providers script plays (g.S.Sealer.seals sealer) same fits
      (c.the_texts_are_a_trade.ensures.put sealer ran.happened.setting.kept)
      in let kept = all_kept asked status unread held after _ _ _ old new ran providers script plays told
      in let honest = c.what_is_due_is_no_forged_frame.ensures.runs asked status unread held after depot left old new told ran plays.form script plays.begun plays.all plays.honest
      in let headline = c.a_runs_books_belong_to_the_ledger.ensures asked status unread held after depot left old new ran plays.form script plays.begun plays.all plays.fit honest
      in c.told_rounds_bring_outcomes.ensures.known _ is.world put ran.happened.lucks _ script.commands kept number (headline.each number).sound four;
  settled = λ asked status unread held after depot left old new told ran providers script plays sealer same fits number four.
      let is = setting asked status unread held after _ _ _ old new ran providers script plays
      in let put = can_be_put asked status unread held after _ _ _ old new ran providers script plays (g.S.Sealer.seals sealer) same fits
      (c.the_texts_are_a_trade.ensures.put sealer ran.happened.setting.kept)
      in let kept = all_kept asked status unread held after _ _ _ old new ran providers script plays told
      in let honest = c.what_is_due_is_no_forged_frame.ensures.runs asked status unread held after depot left old new told ran plays.form script plays.begun plays.all plays.honest
      in let headline = c.a_runs_books_belong_to_the_ledger.ensures asked status unread held after depot left old new ran plays.form script plays.begun plays.all plays.fit honest
      in c.told_rounds_bring_outcomes.ensures.settled _ is.world put ran.happened.lucks _ script.commands kept number (headline.each number).sound four;
  books = λ asked status unread held after depot left old new told ran providers script plays sealer same fits number four.
      let is = setting asked status unread held after _ _ _ old new ran providers script plays
      in let put = can_be_put asked status unread held after _ _ _ old new ran providers script plays (g.S.Sealer.seals sealer) same fits
      (c.the_texts_are_a_trade.ensures.put sealer ran.happened.setting.kept)
      in let kept = all_kept asked status unread held after _ _ _ old new ran providers script plays told
      in let honest = c.what_is_due_is_no_forged_frame.ensures.runs asked status unread held after depot left old new told ran plays.form script plays.begun plays.all plays.honest
      in let headline = c.a_runs_books_belong_to_the_ledger.ensures asked status unread held after depot left old new ran plays.form script plays.begun plays.all plays.fit honest
      in c.told_rounds_bring_outcomes.ensures.books _ is.world put ran.happened.lucks _ script.commands kept number (headline.each number).sound four;
}
