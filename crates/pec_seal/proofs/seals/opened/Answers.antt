-- Each exit of the code has the answer of `opened_of`, and that is what `told` reads the clauses from.
use Rattle.std.proofs.Common.{rules, Ok, Err}
use Rattle.pec_seal.specs.Opening.{opened_of}
use Rattle.pec_seal.specs.declared.seals.SealFault.TheVariants.{NoSeal, UnknownProvider, WrongTag}
use Rattle.pec_seal.proofs.OpeningLaws.{told}
use Rattle.pec_seal.proofs.seals.opened.Goals as goal

pub returns-in_default : goal.returns-in_default
unfolding opened_of
returns-in_default g c =
    let lawful = g.met.S.Sealer.lawful c.args.sealer.now in
    let t = told _ c.args.message.now (Err NoSeal) lawful c.read_line.ensures.bytes (search rules) in record {
      sealed = t.sealed;
      refused = t.refused;
      no_seal = t.no_seal;
      unknown_provider = t.unknown_provider;
      wrong_tag = t.wrong_tag;
      exact = search rules;
    }

pub returns-in_default-number : goal.returns-in_default-number
unfolding opened_of
returns-in_default-number g c =
    let lawful = g.met.S.Sealer.lawful c.args.sealer.now in
    let t = told _ c.args.message.now (Err UnknownProvider) lawful c.read_line.ensures.bytes (search rules) in record {
      sealed = t.sealed;
      refused = t.refused;
      no_seal = t.no_seal;
      unknown_provider = t.unknown_provider;
      wrong_tag = t.wrong_tag;
      exact = search rules;
    }

pub returns-then-not-agrees : goal.returns-then-not-agrees
unfolding opened_of
returns-then-not-agrees g c =
    let lawful = g.met.S.Sealer.lawful c.args.sealer.now in
    let t = told _ c.args.message.now (Err WrongTag) lawful c.read_line.ensures.bytes (search rules) in record {
      sealed = t.sealed;
      refused = t.refused;
      no_seal = t.no_seal;
      unknown_provider = t.unknown_provider;
      wrong_tag = t.wrong_tag;
      exact = search rules;
    }

pub returns-clause-sealed : goal.returns-clause-sealed
unfolding opened_of
returns-clause-sealed g c =
    let lawful = g.met.S.Sealer.lawful c.args.sealer.now in
    let found = c.in-Some.line in
    (told _ c.args.message.now (Ok (c.in-Some-number.provider, found.bytes)) lawful c.read_line.ensures.bytes (search rules)).sealed

pub returns-clause-no_seal : goal.returns-clause-no_seal
unfolding opened_of
returns-clause-no_seal g c =
    let lawful = g.met.S.Sealer.lawful c.args.sealer.now in
    (told _ c.args.message.now _ lawful c.read_line.ensures.bytes (search rules)).no_seal

pub returns-clause-unknown_provider : goal.returns-clause-unknown_provider
unfolding opened_of
returns-clause-unknown_provider g c =
    let lawful = g.met.S.Sealer.lawful c.args.sealer.now in
    (told _ c.args.message.now _ lawful c.read_line.ensures.bytes (search rules)).unknown_provider

pub returns-clause-wrong_tag : goal.returns-clause-wrong_tag
unfolding opened_of
returns-clause-wrong_tag g c =
    let lawful = g.met.S.Sealer.lawful c.args.sealer.now in
    (told _ c.args.message.now _ lawful c.read_line.ensures.bytes (search rules)).wrong_tag
