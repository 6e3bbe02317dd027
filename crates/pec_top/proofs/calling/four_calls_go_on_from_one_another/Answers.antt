-- Four calls one after another: from the laws of rows of calls and of journals that are opened.
use Rattle.std.proofs.Common.{[], ◌∷◌}
use Rattle.pec_service.specs.Calling.{Plays, Serves}
use Rattle.pec_top.specs.Calling.{run_of, service_of}
use Rattle.pec_top.proofs.calling.four_calls_go_on_from_one_another.Goals as goal

pub returns-clause-plays : goal.returns-clause-plays
returns-clause-plays g c = λ call form ran. ran

pub returns-clause-serves : goal.returns-clause-serves
returns-clause-serves g c = λ call wanted ran. ran

pub returns-clause-loads : goal.returns-clause-loads
returns-clause-loads g c = λ call count load. load.through

pub returns-clause-four : goal.returns-clause-four
returns-clause-four g c =
    λ told trade first second third fourth wanted none one found_second two found_third three found_fourth honest script begun
    all.
    c.runs_go_on_from_one_another.ensures.opened told trade (run_of fourth)
    (c.calls_go_on_from_one_another.ensures.fitting told trade (Plays (run_of first))
    (Plays (run_of second) ∷ Serves (service_of wanted third) ∷ Plays (run_of fourth) ∷ []) none
    (one, found_second, (two, found_third, (three, found_fourth, honest))))
    honest script begun all
