-- An address that the set has stands among the recipients, and one that it hasn't comes to both.
use Rattle.std.proofs.Common.{◌∙◌}
use Rattle.pec_heads.proofs.KnownAddresses.{known_more, with_known, with_new}
use Rattle.pec_heads.proofs.recipients.Gathered.add.Goals as goal

pub returns-then-not-is_new-clause-added : goal.returns-then-not-is_new-clause-added
returns-then-not-is_new-clause-added c =
    with_known c.args.class c.args.self.now.all.items c.args.self.now.known.keys c.in_ok-key.key c.args.address c.in_ok-is_new.is_new
    (c.in_ok-key.ensures.items ∙ c.bytes.ensures.value) c.requires c.in_ok-is_new.ensures.added c.if-not-is_new.true

pub returns-clause-added : goal.returns-clause-added
returns-clause-added c =
    with_new c.args.class c.args.self.now.all.items c.push.new.self.items c.args.self.now.known.keys c.in_ok-key.key c.args.address c.in_ok-is_new.is_new
    (c.in_ok-key.ensures.items ∙ c.bytes.ensures.value) c.requires c.in_ok-is_new.ensures.added c.if-not-is_new.false c.in_ok-push.ensures.items

pub returns-clause-known : goal.returns-clause-known
returns-clause-known c =
    rw c.in_ok-push.ensures.items
    (known_more c.args.class c.args.self.now.all.items c.args.self.now.known.keys c.insert.new.self.keys c.in_ok-key.key c.args.address c.in_ok-is_new.ensures.keys
    (c.in_ok-key.ensures.items ∙ c.bytes.ensures.value) c.requires)
