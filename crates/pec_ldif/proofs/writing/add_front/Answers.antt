-- Line behind line.
use Rattle.std.proofs.Common.{◌≡◌, ◌++◌, [], ◌∷◌, codes, ap, ◌∙◌}
use Rattle.pec_ldif.specs.Writing.{provider_dn, record_text, said}
use Rattle.pec_ldif.proofs.WritingLemmas.{said_behind}
use Rattle.pec_ldif.proofs.writing.add_front.Goals as goal

pub returns : goal.returns
returns c =
    let t = c.args.text.now.items in
    let provider = c.args.provider.now.provider in
    let class = said (codes "objectClass") (codes "pecProvider") in
    let dn = said (codes "dn") (provider_dn c.args.number) in
    let head : c.add_head.new.text.items ≡ t ++ record_text (dn ∷ class ∷ []) =
    c.in_ok-add_head.ensures ∙ ap (λ d. t ++ record_text (said (codes "dn") d ∷ class ∷ [])) (c.deref.ensures.value ∙ c.in_ok-name.ensures) in
    let name = said (codes "pecName") provider.name in
    let named : c.add_attribute.new.text.items ≡ t ++ record_text (dn ∷ class ∷ name ∷ []) =
    said_behind t c.add_head.new.text.items c.add_attribute.new.text.items (dn ∷ class ∷ []) (codes "pecName") provider.name c.bytes.result.now
    head (c.bytes.ensures.value ∙ c.name.ensures) c.in_ok-add_attribute.ensures in
    said_behind t c.add_attribute.new.text.items c.add_attribute-2.new.text.items (dn ∷ class ∷ name ∷ []) (codes "mailReceipt") provider.receipts
    c.bytes-2.result.now named (c.bytes-2.ensures.value ∙ c.receipts.ensures) c.in_ok-add_attribute-2.ensures
