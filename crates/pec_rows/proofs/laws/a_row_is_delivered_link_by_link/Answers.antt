-- From the lemmas.
use Rattle.pec_rows.proofs.LinkByLink.{row_is}
use Rattle.pec_rows.proofs.laws.a_row_is_delivered_link_by_link.Goals as goal

pub returns : goal.returns
returns c = row_is
