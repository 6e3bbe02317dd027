-- What contracts see of the crate's own types.
use Rattle.pec_directory.specs.Walk as walk
use Rattle.pec_directory.specs.declared.own_fields.Fields.{Fields}

-- the fields of a provider, as the walk has them
abbrev pub fields_shown : Fields → walk.Fields
fields_shown f = record {
  name = f.name;
  receipts = f.receipts;
  domains = f.domains.items;
  key = f.key.items;
  rule = f.rule;
  limit = f.limit;
}
