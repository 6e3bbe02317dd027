use Rattle.pec_network.proofs.laws.any_images.Goals as goal

pub returns : goal.returns
returns c = c.any_images.ensures.lists
