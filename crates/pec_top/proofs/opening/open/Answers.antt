-- All journals are had; or memory ran out before, or a disk couldn't be looked at, or one came to nothing.
use Rattle.std.proofs.Common.{◌∙◌, ℕ, ap, map, refl, sym, subst, List, length, arith}
use Rattle.std.proofs.lemmas.Result.{err_from_is_err_and}
use Rattle.pec_directory.specs.Directory.{Kept, providers_of}
use Rattle.pec_seal.specs.Hmac.{hmac_seals}
use Rattle.pec_seal.specs.Seals.{Seals}
use Rattle.pec_seal.specs.declared.hmac.HmacSealer.{HmacSealer}
use Rattle.pec_serving.specs.OfNetworks.{AllBegun, Form as Way, IsRefused}
use Rattle.pec_runs.specs.Happened.{IsSetting}
use Rattle.pec_runs.specs.Openings.{Resume, disks_at}
use Rattle.pec_top.specs.Opened.{Halted, IsFormOf, IsRefusedSo, Refused, Unlooked}
use Rattle.pec_top.specs.Shown.{form_shown}
use Rattle.pec_top.proofs.HadFromLemmas.{had_none, had_rest}
use Rattle.pec_top.proofs.OpenedLemmas.{Known, begun_blames, opened_so, refused_at}
use Rattle.pec_top.proofs.RefusedLemmas.{home_again}
use Rattle.pec_top.proofs.RestLemmas.{home_rest, untouched_rest}
use Rattle.pec_top.proofs.RunningLemmas.{untouched}
use Rattle.pec_top.proofs.opening.open.Goals as goal

pub returns-in_err-sealer-clause-refused : goal.returns-in_err-sealer-clause-refused
returns-in_err-sealer-clause-refused g c =
    let p = err_from_is_err_and c.from_residual.result c.from_residual.ensures.1 in
    let tells = g.P.Depot.tells × g.P.D.Disk.tells in
    let home = g.P.Depot.home c.args.depot.now in
    rw (p.1, p.2) (Halted refl (untouched tells g.P.D.Disk.sight home)
    (λ trade. had_none tells g.P.D.Disk.sight Resume trade home))

pub returns-in_default-clause-refused : goal.returns-in_default-clause-refused
returns-in_default-clause-refused g c =
    let kept = c.args.directory in
    let seals = hmac_seals c.in_ok-sealer.sealer.names.items c.in_ok-sealer.sealer.keys.items in
    let setting : IsSetting (providers_of kept) (record { kept = kept; seals = seals }) = record {
      kept = refl;
      zones = c.count-count.ensures.zones;
      lawful = c.count-count.ensures.lawful;
      seals = c.in_ok-sealer.ensures.exact;
      world = c.the_texts_are_a_trade.ensures.trade c.in_ok-sealer.sealer kept c.count-count.ensures.lawful
          c.in_ok-sealer.ensures.fits;
    } in
    Unlooked seals c.in_default.ensures.chosen refl setting
    (untouched_rest g.P.Depot.tells g.P.D.Disk.tells g.P.D.Disk.sight (g.P.Depot.home c.args.depot.now)
    (g.P.Depot.home c.form_of.new.depot) c.form_of.ensures.rest)
    (λ trade. had_rest g.P.Depot.tells g.P.D.Disk.tells g.P.D.Disk.sight Resume trade (g.P.Depot.home c.args.depot.now)
    (g.P.Depot.home c.form_of.new.depot) c.form_of.ensures.rest)

pub returns-in_default-clause-home : goal.returns-in_default-clause-home
returns-in_default-clause-home g c = λ told k some.
    home_rest g.P.Depot.tells g.P.D.Disk.tells g.P.D.Disk.sight (g.P.Depot.home c.args.depot.now)
    (g.P.Depot.home c.form_of.new.depot) c.form_of.ensures.rest told k some

abbrev seals_of : HmacSealer → Seals
seals_of sealer = hmac_seals sealer.names.items sealer.keys.items

pub returns-in-Ok-begin-clause-opened : goal.returns-in-Ok-begin-clause-opened
returns-in-Ok-begin-clause-opened g c =
    let tells = g.P.Depot.tells in
    let reads = g.P.D.Disk.tells in
    let sight = g.P.D.Disk.sight in
    let how = c.args.how in
    let kept = c.args.directory in
    let sealer = c.in_ok-sealer.sealer in
    let network = c.in-Ok-begin.network in
    let same = c.in-Ok-begin.ensures.same in
    let home = g.P.Depot.home c.args.depot.now in
    let looked = g.P.Depot.home c.form_of.new.depot in
    let form = c.in-Ok.form in
    let known : Known tells reads sight seals_of how form home looked network.providers kept sealer = record {
      is_form = subst (λ (n : ℕ). IsFormOf (disks_at (tells × reads) sight home) n how (form_shown form))
          c.count-count.ensures.count c.in-Ok.ensures.is;
      setting = record {
        kept = refl;
        zones = c.count-count.ensures.zones;
        lawful = c.count-count.ensures.lawful;
        seals = c.in_ok-sealer.ensures.exact;
        world = c.the_texts_are_a_trade.ensures.trade sealer kept c.count-count.ensures.lawful c.in_ok-sealer.ensures.fits;
      };
      of = c.a_trade_says_what_its_parts_say.ensures.directory kept (seals_of sealer);
      count = c.a_network_is_whole.ensures.count ∙ ap (λ (k : List Kept). length k) same.0;
      begun = subst (λ (w : Way). AllBegun tells reads sight kept w looked network.providers) c.way.ensures
          c.in-Ok-begin.ensures.begun;
    } in
    let of_its_own = subst (λ (k : List Kept). Known tells reads sight seals_of how form home looked network.providers k
    network.sealer) (sym same.0)
    (subst (λ (s : HmacSealer). Known tells reads sight seals_of how form home looked network.providers kept s) (sym same.1)
    known) in
    opened_so tells reads sight seals_of g.P.D.Counted.faults
    (map g.J.Judge.patterns c.args.screens.items) how form home looked (g.P.Depot.home c.begin.new.depot)
    (g.P.Depot.last c.args.depot.now) (g.P.Depot.last c.form_of.new.depot) (g.P.Depot.last c.begin.new.depot) network
    of_its_own c.form_of.ensures.rest
    (λ told k past. c.form_of.ensures.elsewhere told k
    (let n = c.count-count.ensures.count in let e = ap (λ (k : List Kept). length k) same.0 in omega (arith, n, e, past)))
    c.a_disk_is_so.ensures.reads c.a_disk_is_so.ensures.counts c.in-Ok-begin.ensures.rests
    (λ told. c.in-Ok-begin.ensures.out told) c.in-Ok-begin.ensures.counts c.in-Ok-begin.ensures.last c.form_of.ensures.last

pub returns-in-Ok-begin-clause-last : goal.returns-in-Ok-begin-clause-last
returns-in-Ok-begin-clause-last g c = λ k.
    let a = c.form_of.ensures.last k in let e = c.in-Ok-begin.ensures.last k in omega (arith, a, e)

pub returns-in-Err-clause-refused : goal.returns-in-Err-clause-refused
returns-in-Err-clause-refused g c =
    let tells = g.P.Depot.tells in
    let reads = g.P.D.Disk.tells in
    let sight = g.P.D.Disk.sight in
    let how = c.args.how in
    let kept = c.args.directory in
    let sealer = c.in_ok-sealer.sealer in
    let seals = seals_of sealer in
    let home = g.P.Depot.home c.args.depot.now in
    let looked = g.P.Depot.home c.form_of.new.depot in
    let mid = g.P.Depot.home c.begin.new.depot in
    let form = c.in-Ok.form in
    let fault = c.in-Err.refused.0 in
    let setting : IsSetting (providers_of kept) (record { kept = kept; seals = seals }) = record {
      kept = refl;
      zones = c.count-count.ensures.zones;
      lawful = c.count-count.ensures.lawful;
      seals = c.in_ok-sealer.ensures.exact;
      world = c.the_texts_are_a_trade.ensures.trade sealer kept c.count-count.ensures.lawful c.in_ok-sealer.ensures.fits;
    } in
    let is_form = subst (λ (n : ℕ). IsFormOf (disks_at (tells × reads) sight home) n how (form_shown form))
    c.count-count.ensures.count c.in-Ok.ensures.is in
    let refused = subst (λ (w : Way). IsRefused tells reads sight kept w looked mid fault) c.way.ensures
    c.in-Err.ensures.refused in
    let so = subst (λ (k : List Kept). IsRefusedSo how (providers_of k) fault (disks_at (tells × reads) sight mid)
    c.refuse.result) c.in-Err.ensures.given_back c.refuse.ensures.refused in
    Refused seals (refused_at tells reads sight kept seals
    (c.a_trade_says_what_its_parts_say.ensures.directory kept seals) (map g.J.Judge.patterns c.args.screens.items) how home looked mid
    (g.P.Depot.home c.refuse.new.depot) form fault c.refuse.result refused c.a_disk_is_so.ensures.reads
    c.a_disk_is_so.ensures.counts c.form_of.ensures.rest c.refuse.ensures.rest is_form setting so)

pub returns-in-Err-clause-home : goal.returns-in-Err-clause-home
returns-in-Err-clause-home g c = λ told k some.
    let tells = g.P.Depot.tells in
    let reads = g.P.D.Disk.tells in
    let sight = g.P.D.Disk.sight in
    let kept = c.args.directory in
    let looked = g.P.Depot.home c.form_of.new.depot in
    let mid = g.P.Depot.home c.begin.new.depot in
    let fault = c.in-Err.refused.0 in
    let refused = subst (λ (w : Way). IsRefused tells reads sight kept w looked mid fault) c.way.ensures
    c.in-Err.ensures.refused in
    home_rest tells reads sight mid (g.P.Depot.home c.refuse.new.depot) c.refuse.ensures.rest told k
    (home_again tells reads sight kept c.in-Ok.form looked mid fault refused told k
    (home_rest tells reads sight (g.P.Depot.home c.args.depot.now) looked c.form_of.ensures.rest told k some))

pub returns-in-Err-clause-blame : goal.returns-in-Err-clause-blame
returns-in-Err-clause-blame g c = λ failed.
    begun_blames c.in-Err.refused.0 (g.P.Counted.faults c.args.depot.now) (g.P.Counted.faults c.form_of.new.depot)
    (g.P.Counted.faults c.begin.new.depot) (g.P.Counted.faults c.refuse.new.depot) (g.P.Depot.last c.args.depot.now)
    (g.P.Depot.last c.form_of.new.depot) (g.P.Depot.last c.begin.new.depot) (g.P.Depot.last c.refuse.new.depot)
    c.form_of.ensures.later c.begin.ensures.later c.refuse.ensures.later c.form_of.ensures.last c.in-Err.ensures.last_err
    c.refuse.ensures.last c.in-Err.ensures.blame (c.refuse.ensures.blame failed)

pub returns-in-Err-clause-last : goal.returns-in-Err-clause-last
returns-in-Err-clause-last g c = λ k.
    let a = c.form_of.ensures.last k in let b = c.in-Err.ensures.last_err k in let d = c.refuse.ensures.last k in
    omega (arith, a, b, d)
