-- The message has a recipient and a provider, and what was composed is its one envelope.
use Rattle.std.proofs.Common.{◌≡◌, ◌<◌, length, ap, arith}
use Rattle.std.proofs.lemmas.List.{length-map}
use Rattle.pec_types.specs.Message.{Id}
use Rattle.pec_types.specs.declared.messages.TheConstants.{MESSAGES}
use Rattle.pec_heads.specs.BoundedFacts.{is_primary}
use Rattle.pec_directory.specs.Directory.{Kept, providers_of}
use Rattle.pec_letters.proofs.PlaceLemmas.{home_within, some_of_some}
use Rattle.pec_letters.proofs.envelopes.compose_envelope.Goals as goal

pub compose_text-requires-clause-some : goal.compose_text-requires-clause-some
compose_text-requires-clause-some g c =
    let has = c.requires.head
    in some_of_some is_primary c.args.facts.now.recipients
    (c.facts_are_bounded.ensures.recipients has.fields c.args.facts.now has.facts_are.to has.facts_are.copies has.facts_are has.facts_are.to_is has.facts_are.copies_are).some

pub compose_text-requires-clause-within : goal.compose_text-requires-clause-within
compose_text-requires-clause-within g c =
    let within : c.args.id.provider < length (providers_of c.args.directory.now) = home_within (providers_of c.args.directory.now) c.args.facts.now.sender c.args.id.provider c.requires.home.home
    in omega (arith, length-map c.args.directory.now (λ (one : Kept). one.provider))

pub returns-clause-exact : goal.returns-clause-exact
returns-clause-exact g c =
    c.a_message_has_one_envelope.ensures.only (g.S.Sealer.seals c.args.sealer.now) c.args.directory.now c.args.id c.args.moment c.args.facts.now c.args.original.now c.in_ok-text.text.items
    c.in_ok-text.ensures

pub returns-clause-seen : goal.returns-clause-seen
returns-clause-seen g c =
    let same : c.id.inside.number ≡ c.args.id.number = ap (λ (i : Id). i.number) c.id.view_is
    in let below : c.args.id.number < MESSAGES = omega arith
    in c.what_is_composed_is_seen.ensures c.args.sealer.now c.args.directory.now c.args.id c.args.moment c.args.facts.now c.args.original.now c.in_ok-text.text.items
    c.count.ensures.lawful c.requires.head c.requires.home below c.seconds.ensures.below c.in_ok-text.ensures
