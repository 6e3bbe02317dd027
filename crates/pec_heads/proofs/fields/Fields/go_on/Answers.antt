-- The last field goes on to the end of the bytes.
use Rattle.std.proofs.Common.{◌++◌, length, arith, length-append}
use Rattle.pec_heads.proofs.FieldLemmas.{grows, within_more}
use Rattle.pec_heads.proofs.fields.Fields.go_on.Goals as goal

pub returns-clause-grown : goal.returns-clause-grown
returns-clause-grown c = rw c.in_ok-extend_from_slice.ensures.items (grows c.args.self.now.bytes.items c.args.bytes.now c.args.self.now.starts.items c.requires)

pub returns-clause-stored : goal.returns-clause-stored
returns-clause-stored c =
    rw c.in_ok-extend_from_slice.ensures.items
    (within_more (length c.args.self.now.bytes.items) (length (c.args.self.now.bytes.items ++ c.args.bytes.now)) c.args.self.now.starts.items (omega (arith, length-append c.args.self.now.bytes.items c.args.bytes.now)) c.requires)
