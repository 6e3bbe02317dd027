-- Line behind line.
use Rattle.std.proofs.Common.{◌≡◌, ◌++◌, [], ◌∷◌, codes, ap, ◌∙◌}
use Rattle.std.specs.Fmt.{decimal}
use Rattle.pec_ldif.specs.Writing.{account_dn, record_text, said}
use Rattle.pec_ldif.proofs.WritingLemmas.{said_behind}
use Rattle.pec_ldif.proofs.writing.add_account.Goals as goal

pub returns : goal.returns
returns c =
    let t = c.args.text.now.items in
    let account = c.args.account.now in
    let class = said (codes "objectClass") (codes "pecAccount") in
    let dn = said (codes "dn") (account_dn c.args.number c.args.at) in
    let address = said (codes "pecAddress") account.address in
    let quota = said (codes "pecQuota") (decimal account.quota) in
    let head : c.add_head.new.text.items ≡ t ++ record_text (dn ∷ class ∷ []) =
    c.in_ok-add_head.ensures ∙ ap (λ d. t ++ record_text (said (codes "dn") d ∷ class ∷ [])) (c.deref.ensures.value ∙ c.in_ok-name.ensures) in
    let one : c.add_attribute.new.text.items ≡ t ++ record_text (dn ∷ class ∷ address ∷ []) =
    said_behind t c.add_head.new.text.items c.add_attribute.new.text.items (dn ∷ class ∷ []) (codes "pecAddress") account.address c.bytes.result.now
    head (c.bytes.ensures.value ∙ c.address.ensures) c.in_ok-add_attribute.ensures in
    let two : c.add_number.new.text.items ≡ t ++ record_text (dn ∷ class ∷ address ∷ quota ∷ []) =
    said_behind t c.add_attribute.new.text.items c.add_number.new.text.items (dn ∷ class ∷ address ∷ []) (codes "pecQuota") (decimal account.quota)
    (decimal c.quota.result) one (ap decimal c.quota.ensures) c.in_ok-add_number.ensures in
    said_behind t c.add_number.new.text.items c.add_attribute-2.new.text.items (dn ∷ class ∷ address ∷ quota ∷ []) (codes "pecKey") account.key
    c.bytes-2.result.now two (c.bytes-2.ensures.value ∙ c.key.ensures) c.in_ok-add_attribute-2.ensures
