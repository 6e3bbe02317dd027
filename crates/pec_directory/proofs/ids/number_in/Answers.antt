use Rattle.pec_directory.proofs.NumberLemmas.{seven_worth}
use Rattle.pec_directory.proofs.ids.number_in.Goals as goal

pub returns : goal.returns
returns c =
    rw (c.worth.ensures.worth, c.worth-2.ensures.worth, c.worth-3.ensures.worth, c.worth-4.ensures.worth, c.worth-5.ensures.worth, c.worth-6.ensures.worth, c.worth-7.ensures.worth)
    (seven_worth c.args.seven.now c.requires)
