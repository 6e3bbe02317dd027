-- The head with the name of the attachment, and the digest behind it.
use Rattle.hex.specs.Hex.{encode_lower}
use Rattle.sha2.specs.Sha256.{sha256}
use Rattle.pec_heads.specs.WrittenHeads.{head_text}
use Rattle.pec_brief.specs.Attachments.{hash_name, replacement, replacement_fields}
use Rattle.pec_brief.proofs.PutLemmas.{replaced}
use Rattle.pec_brief.proofs.attachments.put_replacement.Goals as goal

pub returns : goal.returns
unfolding replacement
returns c =
    replaced c.args.out.now.items (head_text (replacement_fields (hash_name c.args.head.now))) (encode_lower (sha256 c.args.body.now))
    c.put_head.new.out.items c.extend_from_slice.new.self.items
    (rw (c.as_slice.ensures.value, c.in_ok-name.ensures) at c.in_ok-put_head.ensures)
    (rw (c.as_bytes.ensures.value, c.in_ok-digits.ensures, c.digest.ensures) at c.in_ok-extend_from_slice.ensures.items)
