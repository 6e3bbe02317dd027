-- The new field starts where the bytes ended, and its value behind its name.
use Rattle.std.proofs.Common.{◌≡◌, ◌++◌, ◌∙◌, length, ap}
use Rattle.pec_heads.proofs.FieldLemmas.{opened, opened_within}
use Rattle.pec_heads.proofs.fields.Fields.open.Goals as goal

starts_at : (c : goal.In_ok-push) → c.len-at.result ≡ length c.args.self.now.bytes.items
starts_at c = c.len-at.ensures ∙ c.args.self.now.bytes.ok.0

value_at : (c : goal.In_ok-push) → c.len-value.result ≡ length (c.args.self.now.bytes.items ++ c.args.name.now)
value_at c = c.len-value.ensures ∙ c.extend_from_slice.new.self.ok.0 ∙ ap length c.in_ok-extend_from_slice.ensures.items

pub returns-clause-opened : goal.returns-clause-opened
returns-clause-opened c =
    rw (c.in_ok-push.ensures.items, c.in_ok-extend_from_slice-2.ensures.items, c.in_ok-extend_from_slice.ensures.items)
    (opened c.args.self.now.bytes.items c.args.name.now c.args.rest.now c.args.self.now.starts.items (record { name = c.len-at.result; value = c.len-value.result }) c.requires (starts_at c) (value_at c))

pub returns-clause-stored : goal.returns-clause-stored
returns-clause-stored c =
    rw (c.in_ok-push.ensures.items, c.in_ok-extend_from_slice-2.ensures.items, c.in_ok-extend_from_slice.ensures.items)
    (opened_within c.args.self.now.bytes.items c.args.name.now c.args.rest.now c.args.self.now.starts.items (record { name = c.len-at.result; value = c.len-value.result }) c.requires (starts_at c) (value_at c))
