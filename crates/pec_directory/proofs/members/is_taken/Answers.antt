use Rattle.std.proofs.Common.{◌≡◌, ◌||◌, length, sym, ◌∙◌, false, rules}
use Rattle.pec_directory.specs.Directory.{providers_of}
use Rattle.pec_directory.specs.Walk.{is_service, takes_receipts}
use Rattle.pec_directory.proofs.WalkLemmas.{put_there, taken_is}
use Rattle.pec_directory.proofs.members.is_taken.Goals as goal

pub returns-clause-taken : goal.returns-clause-taken
returns-clause-taken c =
    let kept = c.args.draft.now.providers.items in
    let number : c.len.result ≡ length kept = search rules in
    let free : (takes_receipts (providers_of kept) c.args.fields.now.receipts c.args.address.now || is_service c.args.address.now) ≡ false =
    rw (← c.as_slice.ensures.value) (sym c.is_reserved.ensures ∙ c.if-is_reserved.false) in
    taken_is c.args.places.now c.add.new.self kept c.args.before.now c.args.address.now c.len.result number c.requires c.args.fields.now.receipts c.in_ok-added.added (rw (← c.bytes.ensures.value) c.in_ok-added.ensures.added) free

pub returns-clause-put : goal.returns-clause-put
returns-clause-put c =
    let kept = c.args.draft.now.providers.items in
    let number : c.len.result ≡ length kept = search rules in
    put_there c.args.places.now c.add.new.self kept c.args.before.now c.args.address.now c.len.result number c.requires c.in_ok-added.added (rw (← c.bytes.ensures.value) c.in_ok-added.ensures.added)
