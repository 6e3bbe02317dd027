use Rattle.pec_posts.proofs.LinkLemmas.{swapped_link}
use Rattle.pec_posts.proofs.arrivals.Arrivals.swap.Goals as goal

pub returns-clause-swapped : goal.returns-clause-swapped
returns-clause-swapped c =
    swapped_link c.swap.result c.args.self.now c.self.inside.links.items c.args.from c.args.place c.index_mut.result.now c.swap.new.self
    c.self.view_is c.requires c.index_mut.ensures.value c.swap.ensures.swapped
