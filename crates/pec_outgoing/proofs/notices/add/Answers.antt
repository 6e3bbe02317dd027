-- A known address stays out, and a new one comes to both.
use Rattle.std.proofs.Common.{[], ◌∷◌, ◌++◌, map, ap, ◌∙◌}
use Rattle.pec_types.specs.Bytes.{Bytes}
use Rattle.pec_types.specs.declared.messages.Class.TheVariants.{Primary}
use Rattle.pec_heads.specs.FactsOfHeads.{recipient}
use Rattle.pec_outgoing.specs.Known.{key_of}
use Rattle.pec_outgoing.proofs.OnceLemmas.{known_stays, new_comes, new_is_known}
use Rattle.pec_outgoing.proofs.notices.add.Goals as goal

pub returns-then-not-is_new-clause-added : goal.returns-then-not-is_new-clause-added
returns-then-not-is_new-clause-added c =
    known_stays c.args.all.now.items c.add.new.self c.bytes.result.now c.args.address.now c.in_ok-is_new.is_new
    c.bytes.ensures.value
    c.if-not-is_new.true (c.in_ok-is_new.ensures.added (map key_of c.args.all.now.items) c.requires)

pub returns-clause-known : goal.returns-clause-known
returns-clause-known c =
    new_is_known c.args.all.now.items c.push.new.self.items c.add.new.self c.bytes.result.now c.args.address.now
    c.in_ok-is_new.is_new
    c.bytes.ensures.value c.if-not-is_new.false (c.in_ok-is_new.ensures.added (map key_of c.args.all.now.items)
    c.requires)
    (c.in_ok-push.ensures.items ∙ ap (λ (a : Bytes). c.args.all.now.items ++ recipient Primary a ∷ [])
    c.in_ok-copy.ensures)

pub returns-clause-added : goal.returns-clause-added
returns-clause-added c =
    new_comes c.args.all.now.items c.push.new.self.items c.add.new.self c.bytes.result.now c.args.address.now
    c.in_ok-is_new.is_new
    c.bytes.ensures.value c.if-not-is_new.false (c.in_ok-is_new.ensures.added (map key_of c.args.all.now.items)
    c.requires)
    (c.in_ok-push.ensures.items ∙ ap (λ (a : Bytes). c.args.all.now.items ++ recipient Primary a ∷ [])
    c.in_ok-copy.ensures)
