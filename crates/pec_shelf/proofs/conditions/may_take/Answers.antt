use Rattle.std.proofs.Common.{◌≡◌, ◌<◌, length, None, ap, subst, ◌∙◌}
use Rattle.std.specs.List.{list_any}
use Rattle.pec_types.specs.Bytes.{Bytes}
use Rattle.pec_types.specs.Message.{Id}
use Rattle.pec_directory.specs.Directory.{home_of, providers_of}
use Rattle.pec_ledger.specs.Lookups.{is_home, taken_of}
use Rattle.pec_ledger.specs.OfDirectory.{recipients_named}
use Rattle.pec_shelf.proofs.ListLemmas.{missing, some_pass}
use Rattle.pec_shelf.proofs.conditions.may_take.Goals as goal

pub returns : goal.returns
returns c = λ trade moment message read.
    let fresh : taken_of c.args.shelf.now.half c.args.id ≡ None = missing c.taken.result _ _ c.is_some.result c.taken.ensures c.is_some.ensures c.if-is_some.false in
    let known = subst (λ (i : Id). i.provider < length (providers_of c.args.directory.now)) c.id.view_is (c.is_provider.ensures.0 c.if-not-is_provider.false) in
    let any = c.are_some_here.ensures
    ∙ ap (λ me. list_any (λ (address : Bytes). is_home me (home_of (providers_of c.args.directory.now) address)) c.args.named.now) c.me.ensures
    ∙ ap (list_any (λ (address : Bytes). is_home c.args.shelf.now.me (home_of (providers_of c.args.directory.now) address))) read in
    let some = some_pass (λ (address : Bytes). is_home c.args.shelf.now.me (home_of (providers_of c.args.directory.now) address)) (recipients_named message) c.are_some_here.result any in
    (λ here. (known, fresh, some.0 here), λ own. some.1 own.2)
