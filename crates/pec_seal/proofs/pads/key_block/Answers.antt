use Rattle.std.proofs.lemmas.List.{drop-replicate}
use Rattle.pec_seal.specs.Hmac.{key_block}
use Rattle.pec_seal.proofs.pads.key_block.Goals as goal

pub returns : goal.returns
unfolding key_block
returns c = rw (c.copy_from_slice.ensures.after) (simp drop-replicate)
