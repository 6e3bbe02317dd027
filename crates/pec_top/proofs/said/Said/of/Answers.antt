-- What was found says what the line does, or ends the script.
use Rattle.std.proofs.Common.{◌∙◌, refl, sym}
use Rattle.pec_directory.specs.Directory.{providers_of}
use Rattle.pec_runs.specs.Endings as ends
use Rattle.pec_top.proofs.SaidLemmas.{done_text, past_ends}
use Rattle.pec_top.proofs.said.Said.of.Goals as goal

pub returns-in-End-clause-says : goal.returns-in-End-clause-says
returns-in-End-clause-says c = λ spare. rw c.in-End.is (record {
  end = ends.Done;
  script = λ hands. refl;
  text_is = c.new.ensures.items ∙ sym (done_text (providers_of c.args.directory.now));
  shown = refl;
})

pub returns-in_ok-said-in-Line-clause-says : goal.returns-in_ok-said-in-Line-clause-says
returns-in_ok-said-in-Line-clause-says c = λ spare.
    rw c.in-Line.is (c.in_ok-said-in-Line.ensures.says spare c.args.line.now (sym c.content.ensures))

pub returns-in_ok-text-in-Long-clause-says : goal.returns-in_ok-text-in-Long-clause-says
returns-in_ok-text-in-Long-clause-says c = λ spare.
    rw c.in-Long.is (λ long lines too.
    past_ends (providers_of c.args.directory.now) c.args.number long lines _ (λ few. too)
    c.in_ok-text-in-Long.ensures)
