use Rattle.std.proofs.Common.{sym, subst}
use Rattle.pec_records.specs.declared.entries.Entry.{Entry}
use Rattle.pec_records.specs.Entry.{IsEntry}
use Rattle.pec_chronicle.proofs.EntryLemmas.{told_is}
use Rattle.pec_chronicle.proofs.encoded.Encoded.of.Goals as goal

pub invariant_of-result : goal.invariant_of-result
invariant_of-result c =
    let told = told_is c.args.entry.now c.args.bytes.items (c.an_entry_is_told_exactly.ensures c.args.bytes.items) c.requires in
    subst (λ (e : Entry). IsEntry e c.args.bytes.items) (sym told) c.requires

pub returns : goal.returns
returns c = told_is c.args.entry.now c.args.bytes.items (c.an_entry_is_told_exactly.ensures c.args.bytes.items) c.requires
