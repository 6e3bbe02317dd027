-- All journals are opened, and their logs are written; or not all are.
use Rattle.std.proofs.Common.{sym, subst, List, arith}
use Rattle.pec_directory.specs.Directory.{Kept, providers_of}
use Rattle.pec_runs.specs.Openings.{NoMore}
use Rattle.pec_seal.specs.Hmac.{hmac_seals}
use Rattle.pec_serving.specs.OfNetworks.{journals_had, trade_of}
use Rattle.pec_top.specs.Extracting.{devices_of, header_text}
use Rattle.pec_top.specs.Inputs.{IsWholeTaken}
use Rattle.pec_top.specs.Shown.{range_shown, result_shown, status_shown}
use Rattle.pec_top.proofs.ExtractEndLemmas.{log_blames, log_opened, log_unopened, never_changed, refused_go}
use Rattle.pec_top.proofs.ExtractingLemmas.{all_up, failing_so, fell_so, home_so, opened_so}
use Rattle.pec_top.proofs.RefusedLemmas.{refused_lines}
use Rattle.pec_top.proofs.extracting.extract_opened.Goals as goal

pub extract_network-requires-clause-up : goal.extract_network-requires-clause-up
extract_network-requires-clause-up g c κs within =
    let network = c.in-Ok.network in
    let opened = rw c.new-screens.ensures.items at c.in-Ok.ensures.opened in
    all_up network c.a_network_is_whole.ensures
    (trade_of network.kept (hmac_seals network.sealer.names.items network.sealer.keys.items)) opened.begins

pub returns-in-Ok-clause-ran : goal.returns-in-Ok-clause-ran
returns-in-Ok-clause-ran g c = λ unread rest taken.
    let tells = g.P.Depot.tells × g.P.D.Disk.tells in
    let network = c.in-Ok.network in
    let kept = network.kept in
    let seals = hmac_seals network.sealer.names.items network.sealer.keys.items in
    let opened = rw c.new-screens.ensures.items at c.in-Ok.ensures.opened in
    let here = subst (λ (k : List Kept). IsWholeTaken unread rest (providers_of k)) (sym c.in-Ok.ensures.same) taken in
    let of = c.extract_network.ensures in
    let before = g.W.Stream.held c.args.out.now in
    let after = g.W.Stream.held c.extract_network.new.out in
    let range = range_shown (c.args.from, c.args.upto) in
    log_opened tells g.P.D.Disk.sight g.P.D.Counted.faults range (status_shown c.extract_network.result) unread before after
    (g.P.Depot.home c.args.depot.now) (g.P.Depot.home c.extract_network.new.depot)
    (g.P.Depot.last c.args.depot.now) (g.P.Depot.last c.extract_network.new.depot)
    here.bytes here.input here.short kept here.reads seals
    (record { journals = journals_had network.providers; next = NoMore }) opened.setting
    (opened_so g.P.Depot.tells g.P.D.Disk.tells g.P.D.Disk.sight _ g.P.D.Counted.faults
    (g.P.Depot.home c.args.depot.now) (g.P.Depot.home c.open.new.depot) (g.P.Depot.home c.extract_network.new.depot)
    (g.P.Depot.last c.args.depot.now) (g.P.Depot.last c.open.new.depot) (g.P.Depot.last c.extract_network.new.depot)
    (status_shown c.extract_network.result) network opened c.a_network_is_whole.ensures of.read range before after
    of.headed of.told)
    (λ told is. of.changed told.1 (opened.stands told) is)
    (λ told is whole. of.unchanged told.1 (opened.stands told) is)

pub returns-in-Ok-clause-counts : goal.returns-in-Ok-clause-counts
returns-in-Ok-clause-counts g c =
    let network = c.in-Ok.network in
    let opened = rw c.new-screens.ensures.items at c.in-Ok.ensures.opened in
    let of = c.extract_network.ensures in
    let status = status_shown c.extract_network.result in (
      log_blames status header_text (g.W.Stream.held c.args.out.now) (g.W.Stream.held c.extract_network.new.out)
          (devices_of 0 (g.W.Counted.faults c.args.out.now) (g.P.Counted.faults c.args.depot.now)
          (g.P.Depot.last c.args.depot.now))
          (devices_of 0 (g.W.Counted.faults c.extract_network.new.out) (g.P.Counted.faults c.extract_network.new.depot)
          (g.P.Depot.last c.extract_network.new.depot))
          of.headed of.write_fault
          (failing_so g.P.Depot.tells g.P.D.Disk.tells g.P.D.Disk.sight _ g.P.D.Counted.faults
          (g.P.Depot.home c.args.depot.now) (g.P.Depot.home c.open.new.depot)
          (g.P.Depot.home c.extract_network.new.depot)
          (g.P.Depot.last c.args.depot.now) (g.P.Depot.last c.open.new.depot)
          (g.P.Depot.last c.extract_network.new.depot) status network opened c.a_network_is_whole.ensures of.read),
      record {
        source = omega arith;
        sink = of.out_later;
        depot = omega (arith, c.open.ensures.later, of.later);
        disks = fell_so g.P.Depot.tells g.P.D.Disk.tells g.P.D.Disk.sight _ g.P.D.Counted.faults
            (g.P.Depot.home c.args.depot.now) (g.P.Depot.home c.open.new.depot)
            (g.P.Depot.home c.extract_network.new.depot)
            (g.P.Depot.last c.args.depot.now) (g.P.Depot.last c.open.new.depot)
            (g.P.Depot.last c.extract_network.new.depot) status network opened c.a_network_is_whole.ensures of.read;
      },
    )

pub returns-in-Ok-clause-home : goal.returns-in-Ok-clause-home
returns-in-Ok-clause-home g c =
    let opened = rw c.new-screens.ensures.items at c.in-Ok.ensures.opened in
    home_so g.P.Depot.tells g.P.D.Disk.tells g.P.D.Disk.sight _ g.P.D.Counted.faults
    (g.P.Depot.home c.args.depot.now) (g.P.Depot.home c.open.new.depot) (g.P.Depot.home c.extract_network.new.depot)
    (g.P.Depot.last c.args.depot.now) (g.P.Depot.last c.open.new.depot) (g.P.Depot.last c.extract_network.new.depot)
    (status_shown c.extract_network.result) c.in-Ok.network opened c.a_network_is_whole.ensures
    c.extract_network.ensures.read

pub returns-in-Err-clause-ran : goal.returns-in-Err-clause-ran
returns-in-Err-clause-ran g c = λ unread rest taken.
    let tells = g.P.Depot.tells × g.P.D.Disk.tells in
    let refused = rw c.new-screens.ensures.items at c.in-Err.ensures.refused in
    rw c.status_of.ensures.shown (log_unopened tells g.P.D.Disk.sight g.P.D.Counted.faults (range_shown (c.args.from, c.args.upto))
    (result_shown c.end_refused.result) unread (g.W.Stream.held c.args.out.now)
    (g.W.Stream.held c.end_refused.new.out) (g.P.Depot.home c.args.depot.now) (g.P.Depot.home c.open.new.depot)
    (g.P.Depot.last c.args.depot.now) (g.P.Depot.last c.open.new.depot) taken.bytes taken.input taken.short
    c.args.directory taken.reads (never_changed c.end_refused.result) c.in-Err.refusal c.end_refused.ensures.told
    (λ providers holds number next given.
    refused_lines providers c.in-Err.refusal c.end_refused.result holds number next c.end_refused.ensures.line given)
    refused)

pub returns-in-Err-clause-counts : goal.returns-in-Err-clause-counts
returns-in-Err-clause-counts g c =
    rw c.status_of.ensures.shown (refused_go c.in-Err.refusal c.end_refused.result (g.W.Counted.faults c.args.out.now)
    (g.W.Counted.faults c.end_refused.new.out) (g.P.Counted.faults c.args.depot.now)
    (g.P.Counted.faults c.open.new.depot) (g.P.Depot.last c.args.depot.now) (g.P.Depot.last c.open.new.depot)
    c.end_refused.ensures.blame c.in-Err.ensures.blame c.end_refused.ensures.later c.open.ensures.later
    c.open.ensures.last)
