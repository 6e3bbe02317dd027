use Rattle.std.proofs.Common.{◌≡◌, ◌∙◌, ◌<◌, List, length, ap, refl, sym, arith}
use Rattle.pec_directory.specs.Directory.{Kept}
use Rattle.pec_network.specs.Network.{sites}
use Rattle.pec_desk.proofs.DeskLemmas.{count_rises, counts_stay_or_rise, kept_stays, sealer_stays}
use Rattle.pec_desk.proofs.ShareLemmas.{submission_refuses}
use Rattle.pec_desk.proofs.handing.hand_in.Goals as goal

pub returns-clause-handed : goal.returns-clause-handed
returns-clause-handed g c = record {
  number = c.args.number;
  home = c.requires.home;
  within = c.requires.within;
  moment = refl;
  path = c.requires.path;
  plays = c.submit-said.ensures.plays;
  concerns = c.submit-said.ensures.concerns;
}

pub returns-clause-same : goal.returns-clause-same
returns-clause-same g c =
    let within : c.args.number < length c.args.network.now.providers =
    omega (arith, c.as_many_providers.ensures, c.requires.within) in (
      kept_stays c.args.network.now c.submit-said.new.self c.args.number within c.submit-said.ensures.concerns.others,
      sealer_stays c.args.network.now c.submit-said.new.self c.args.number within c.submit-said.ensures.concerns.others,
    )

pub returns-clause-refusals : goal.returns-clause-refusals
returns-clause-refusals g c =
    submission_refuses c.args.network.now.kept (g.S.Sealer.seals c.args.network.now.sealer) (sites c.args.network.now)
    c.args.account.now c.args.number c.requires.home c.args.moment c.args.path.now c.args.message.now
    (sites c.submit-said.new.self) c.submit-said.result c.submit-said.ensures.plays

pub returns-clause-later : goal.returns-clause-later
returns-clause-later g c =
    let within : c.args.number < length c.args.network.now.providers =
    omega (arith, c.as_many_providers.ensures, c.requires.within) in
    let kept = kept_stays c.args.network.now c.submit-said.new.self c.args.number within c.submit-said.ensures.concerns.others in
    let many : length c.submit-said.new.self.providers ≡ length c.args.network.now.providers =
    c.as_many_providers-2.ensures ∙ ap (λ (k : List Kept). length k) kept ∙ sym c.as_many_providers.ensures in
    counts_stay_or_rise g.D.Counted.faults c.args.network.now.providers c.submit-said.new.self.providers many
    c.submit-said.ensures.concerns.later

pub returns-clause-cause : goal.returns-clause-cause
returns-clause-cause g c = λ is.
    let within : c.args.number < length c.args.network.now.providers =
    omega (arith, c.as_many_providers.ensures, c.requires.within) in
    let kept = kept_stays c.args.network.now c.submit-said.new.self c.args.number within c.submit-said.ensures.concerns.others in
    let many : length c.submit-said.new.self.providers ≡ length c.args.network.now.providers =
    c.as_many_providers-2.ensures ∙ ap (λ (k : List Kept). length k) kept ∙ sym c.as_many_providers.ensures in
    count_rises g.D.Counted.faults c.args.network.now.providers c.submit-said.new.self.providers many c.args.number within
    (c.submit-said.ensures.concerns.disk_fault is)
