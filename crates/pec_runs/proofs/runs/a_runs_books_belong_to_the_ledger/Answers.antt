-- The headline of a run: its beginning is Sound, and its commands are unforged.
use Rattle.pec_runs.specs.Ran.{beginning, world}
use Rattle.pec_runs.proofs.BeginningLemmas.{none_interrupted}
use Rattle.pec_runs.proofs.LineLemmas.{all_unforged}
use Rattle.pec_runs.proofs.RunLemmas.{commands_can, has_begun, is_world, sound_beginning}
use Rattle.pec_runs.proofs.runs.a_runs_books_belong_to_the_ledger.Goals as goal

pub returns : goal.returns
returns g c =
    λ words status unread before after depot left old new ran form script begun at_hand fit honest.
    let trade = world ran.happened
    in let start = beginning ran.happened
    in let is = has_begun words status unread before after _ _ _ old new ran form script begun
    in c.the_books_belong_to_the_ledger.ensures trade
    (is_world words status unread before after _ _ _ old new ran form script begun)
    ran.happened.lucks start script.commands
    (sound_beginning trade _ ran.happened.screens form ran.happened.opening (c.licences_stand.ensures.conditions trade)
    (c.soundness.ensures.start trade)
    is.opening at_hand fit)
    (none_interrupted trade ran.happened.screens ran.happened.opening.journals)
    (all_unforged trade ran.happened.lucks start script.commands
    (commands_can words status unread before after _ _ _ old new ran form script begun
    c.a_line_has_one_reading.ensures) honest)
