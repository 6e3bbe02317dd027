use Rattle.std.proofs.Common.{◌≡◌, ◌∙◌, ◌<◌, ℕ, List, length, ap, refl, sym, Global, Vec, arith}
use Rattle.pec_types.specs.Answers.{seen_as}
use Rattle.pec_directory.specs.Directory.{Kept}
use Rattle.pec_plays.specs.Commands.{Show}
use Rattle.pec_network.specs.Network.{sites, world_of}
use Rattle.pec_desk.proofs.DeskLemmas.{count_rises, counts_stay_or_rise}
use Rattle.pec_http.specs.Desks.{IsItemFault}
use Rattle.pec_desk.proofs.LookLemmas.{err_fits, item_refuses, seen_concerns, seen_over}
use Rattle.pec_desk.proofs.ShareLemmas.{at_home}
use Rattle.pec_desk.proofs.showing.item.Goals as goal

pub returns-clause-looks : goal.returns-clause-looks
returns-clause-looks g c = λ moment. record {
  number = c.args.number;
  home = c.requires.home;
  within = c.requires.within;
  moment = refl;
  reads = seen_over g.S.Sealer.seals c.args.network.now c.show-said.new.self (λ (v : Vec ℕ Global). v.items) c.show-said.result _
      (Show c.args.account.now c.args.place) c.show-said.ensures.shown;
  concerns = seen_concerns g.S.Sealer.seals c.args.network.now c.show-said.new.self (λ (v : Vec ℕ Global). v.items) c.show-said.result
      g.D.Disk.sight g.D.Counted.faults g.D.Disk.tells ((world_of g.S.Sealer.seals c.args.network.now).home c.args.account.now)
      c.args.number
      (at_home c.args.network.now.kept (g.S.Sealer.seals c.args.network.now.sealer) (sites c.args.network.now)
      c.args.account.now c.args.number c.requires.home) c.show-said.ensures.concerns;
}

pub returns-clause-refusals : goal.returns-clause-refusals
returns-clause-refusals g c =
    let over = seen_over g.S.Sealer.seals c.args.network.now c.show-said.new.self (λ (v : Vec ℕ Global). v.items) c.show-said.result _
    (Show c.args.account.now c.args.place) c.show-said.ensures.shown in
    err_fits (λ (v : Vec ℕ Global). v.items) c.show-said.result IsItemFault
    (item_refuses c.args.network.now.kept (g.S.Sealer.seals c.args.network.now.sealer) (sites c.args.network.now)
    (sites c.show-said.new.self) c.args.account.now c.args.number c.requires.home c.args.place over.shown _ over.is)

pub returns-clause-later : goal.returns-clause-later
returns-clause-later g c =
    let many : length c.show-said.new.self.providers ≡ length c.args.network.now.providers =
    c.as_many_providers-2.ensures ∙ ap (λ (k : List Kept). length k) c.show-said.ensures.same.0 ∙ sym c.as_many_providers.ensures in
    counts_stay_or_rise g.D.Counted.faults c.args.network.now.providers c.show-said.new.self.providers many
    c.show-said.ensures.concerns.later

pub returns-clause-cause : goal.returns-clause-cause
returns-clause-cause g c = λ is.
    let within : c.args.number < length c.args.network.now.providers =
    omega (arith, c.as_many_providers.ensures, c.requires.within) in
    let many : length c.show-said.new.self.providers ≡ length c.args.network.now.providers =
    c.as_many_providers-2.ensures ∙ ap (λ (k : List Kept). length k) c.show-said.ensures.same.0 ∙ sym c.as_many_providers.ensures in
    let concerns = seen_concerns g.S.Sealer.seals c.args.network.now c.show-said.new.self (λ (v : Vec ℕ Global). v.items) c.show-said.result
    g.D.Disk.sight g.D.Counted.faults g.D.Disk.tells ((world_of g.S.Sealer.seals c.args.network.now).home c.args.account.now)
    c.args.number
    (at_home c.args.network.now.kept (g.S.Sealer.seals c.args.network.now.sealer) (sites c.args.network.now)
    c.args.account.now c.args.number c.requires.home) c.show-said.ensures.concerns in
    count_rises g.D.Counted.faults c.args.network.now.providers c.show-said.new.self.providers many c.args.number within
    (concerns.disk_fault (ap (seen_as (λ (v : Vec ℕ Global). v.items)) is))
