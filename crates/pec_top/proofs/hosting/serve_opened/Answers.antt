-- All journals are had, and connections are served; or not all are.
use Rattle.std.proofs.Common.{map, [], ◌<◌, ◌∙◌, ℕ, inl, inr, ap, arith, refl, sym, subst, List, length, false}
use Rattle.std.proofs.lemmas.Bool.{cases_lt}
use Rattle.std.proofs.lemmas.List.{length-map}
use Rattle.pec_directory.specs.Directory.{Kept, providers_of}
use Rattle.pec_ledger.specs.Network.{Site}
use Rattle.pec_seal.specs.Hmac.{hmac_seals}
use Rattle.pec_serving.specs.OfNetworks.{counts_in, journals_had, sites, state_in}
use Rattle.pec_runs.specs.Happened.{Setting, trade_in}
use Rattle.pec_runs.specs.Openings.{NoMore, disks_at}
use Rattle.pec_runs.specs.Statuses.{Status}
use Rattle.pec_service.specs.Runs.{Asked, Blames, Course, IsChosen, Outside, TellsService, first_place, place_with}
use Rattle.pec_service.specs.Services.{IsService, service_text}
use Rattle.pec_serving.specs.Playing.{state_of}
use Rattle.pec_top.specs.Hosting.{counts_of, ended_as}
use Rattle.pec_top.specs.Inputs.{IsWholeTaken}
use Rattle.pec_top.specs.Scripts.{AreKept}
use Rattle.pec_top.specs.Shown.{result_shown}
use Rattle.pec_top.proofs.CountLemmas.{closed_so, counts_later}
use Rattle.pec_top.proofs.HostingLemmas.{blames_ended, refused_counts, told_as}
use Rattle.pec_top.proofs.ServedLemmas.{served_through, unopened_through}
use Rattle.pec_top.proofs.RefusedLemmas.{refused_lines}
use Rattle.pec_top.proofs.ThroughLemmas.{all_counted, all_kept, all_seen, all_stand}
use Rattle.pec_top.proofs.WholeLemmas.{all_kept_so, none_gone}
use Rattle.pec_top.proofs.hosting.serve_opened.Goals as goal

pub returns-in-Ok-clause-served : goal.returns-in-Ok-clause-served
returns-in-Ok-clause-served g c = λ unread rest whole.
    let asked : Asked = record { wanted = c.args.wanted; screens = map g.J.Judge.patterns c.args.screens.items } in
    let tells = g.P.Depot.tells × g.P.D.Disk.tells in
    let sight = g.P.D.Disk.sight in
    let faults = g.P.D.Counted.faults in
    let network = c.in-Ok.network in
    let kept = network.kept in
    let seals = hmac_seals network.sealer.names.items network.sealer.keys.items in
    let setting : Setting = record { kept = kept; seals = seals } in
    let opened = c.in-Ok.ensures.opened in
    let taken = subst (λ (k : List Kept). IsWholeTaken unread rest (providers_of k)) (sym c.in-Ok.ensures.same) whole in
    let old = g.P.Depot.home c.args.depot.now in
    let mid = g.P.Depot.home c.open.new.depot in
    let new = g.P.Depot.home c.close.new.depot in
    let from = g.P.Depot.last c.args.depot.now in
    let mid_last = g.P.Depot.last c.open.new.depot in
    let upto = g.P.Depot.last c.close.new.depot in
    let served = c.serve-network.result.0 in
    let ending = c.serve-network.result.1 in
    let keeps = c.serve-network.ensures.keeps in
    let before = g.W.Stream.held c.args.out.now in
    let after = g.W.Stream.held c.serve-network.new.out in
    let closed = closed_so faults mid_last (g.P.Depot.last c.serve-network.new.depot) upto served.providers
    c.serve-network.ensures.last c.close.ensures.last in
    let here : Outside = record {
      moments = g.T.Ticks.coming c.args.ticks.now;
      requests = g.R.Door.requests c.args.door.now;
      replies = g.R.Door.replies c.args.door.now;
    } in
    let there : Outside = record {
      moments = g.T.Ticks.coming c.serve-network.new.ticks;
      requests = g.R.Door.requests c.serve-network.new.door;
      replies = g.R.Door.replies c.serve-network.new.door;
    } in
    let counts = counts_in faults network.providers mid_last in
    let serves = c.serve-network.ensures.serves opened.stands mid_last in
    let journals = journals_had network.providers in
    let trade = trade_in setting in
    let course : Course = record {
      opening = record { journals = journals; next = NoMore };
      holds = false;
      service = serves.service;
    } in
    let kept_so = subst (λ (k : List Kept). AreKept tells sight (length k) (sites served) mid new) keeps.directory
    (all_kept_so g.P.Depot.tells g.P.D.Disk.tells sight served c.a_network_is_whole-in-Ok.ensures
    (g.P.Depot.home c.serve-network.new.depot) new c.close.ensures.kept mid
    (λ told. keeps.stands told.1 (opened.stands told)) c.serve-network.ensures.home) in
    let many = length-map kept (λ (one : Kept). one.provider) in
    let chosen = subst (λ (count : ℕ). IsChosen (disks_at tells sight old) count opened.form) (sym many) opened.is_form in
    let at_home = λ (told : tells) (k : ℕ) (within : k < (trade_in setting).providers).
    all_kept g.P.Depot.tells g.P.D.Disk.tells sight served c.a_network_is_whole-in-Ok.ensures
    (g.P.Depot.home c.serve-network.new.depot) new c.close.ensures.kept told.0 k
    (let same = ap (λ (k : List Kept). length k) keeps.directory in omega (arith, many, same, within)) in
    served_through asked (result_shown c.ended.result) unread before after tells sight faults old new
    here there from upto taken.bytes taken.short setting taken.reads opened.setting taken.input opened.form course chosen
    (record {
      opening = opened.opening;
      looked_at = tt;
      writes = λ failed. tt;
      goes_on = record {
        counts = counts;
        sooner = opened.counts;
        network = state_of faults mid_last served;
        is = subst (λ (s : List Site). IsService trade tells kept asked.wanted
            (place_with (record { sites = s; counts = counts }) here)
            (place_with (state_of faults mid_last served) there) serves.service) opened.begins serves.is;
        told = subst (λ (s : Status). TellsService s before after (service_text trade kept
            (first_place trade asked.screens journals counts here) serves.service) serves.service.ending) (sym c.ended.ensures)
            (subst (λ (s : List Site). TellsService (ended_as ending) before after (service_text trade kept
            (place_with (record { sites = s; counts = counts }) here) serves.service) serves.service.ending) opened.begins
            (told_as ending before after (service_text trade kept
            (place_with (record { sites = sites network; counts = counts }) here) serves.service)
            serves.service.ending serves.ending_is serves.written));
        later = λ k. let e = closed k in omega (arith, e);
        disks = opened.leaves (sites served) (sites served) new (λ told. refl) kept_so;
      };
    })
    refl
    (record {
      through = record {
        first = state_in faults mid_last [] network;
        last = state_in faults mid_last [] served;
        begins = opened.begins;
        seen = all_seen g.P.Depot.tells g.P.D.Disk.tells sight network c.a_network_is_whole.ensures;
        stand = λ told. all_stand g.P.Depot.tells g.P.D.Disk.tells sight network c.a_network_is_whole.ensures
            (opened.stands told);
        had = opened.had;
        begun = all_counted g.P.Depot.tells g.P.D.Disk.tells sight network c.a_network_is_whole.ensures faults mid_last [];
        moves = c.serve-network.ensures.moves opened.stands mid_last;
        kept = at_home;
        elsewhere = λ told k past. kept_so.elsewhere told k (omega (arith, many, past))
            ∙ opened.apart told.0 k (omega (arith, many, past));
      };
      moved = serves.moved;
    })

pub returns-in-Ok-clause-counts : goal.returns-in-Ok-clause-counts
returns-in-Ok-clause-counts g c =
    let faults = g.P.D.Counted.faults in
    let mid_last = g.P.Depot.last c.open.new.depot in
    let network = c.in-Ok.network in
    let served = c.serve-network.result.0 in
    let closed = closed_so faults mid_last (g.P.Depot.last c.serve-network.new.depot) (g.P.Depot.last c.close.new.depot)
    served.providers c.serve-network.ensures.last c.close.ensures.last in
    let began = c.in-Ok.ensures.opened.counts in
    let later = counts_later faults network.providers served.providers (sym c.serve-network.ensures.keeps.many)
    c.serve-network.ensures.keeps.later mid_last in
    let old = counts_of 0 (g.W.Counted.faults c.args.out.now) (g.P.Counted.faults c.args.depot.now)
    (g.P.Depot.last c.args.depot.now) (g.T.Counted.faults c.args.ticks.now) (g.R.Counted.faults c.args.door.now) in
    let new = counts_of 0 (g.W.Counted.faults c.serve-network.new.out) (g.P.Counted.faults c.close.new.depot)
    (g.P.Depot.last c.close.new.depot) (g.T.Counted.faults c.serve-network.new.ticks)
    (g.R.Counted.faults c.serve-network.new.door) in (
      subst (λ (s : Status). Blames s old new) (sym c.ended.ensures)
          (blames_ended c.serve-network.result.1 old new c.serve-network.ensures.no_moment c.serve-network.ensures.no_connection
          c.serve-network.ensures.write_fault),
      record {
        devices = record {
          source = omega arith;
          sink = c.serve-network.ensures.out_later;
          depot = omega (arith, c.open.ensures.later, c.serve-network.ensures.depot_later, c.close.ensures.later);
          disks = λ k. let a = began k in let b = later k in let e = closed k in omega (arith, a, b, e);
        };
        clock = c.serve-network.ensures.clock_later;
        door = c.serve-network.ensures.door_later;
      },
    )

pub returns-in-Ok-clause-home : goal.returns-in-Ok-clause-home
returns-in-Ok-clause-home g c = λ told k some.
    let served = c.serve-network.result.0 in
    let count = c.a_network_is_whole-in-Ok.ensures.count in
    let first = c.a_network_is_whole.ensures.count in
    let many = c.serve-network.ensures.keeps.many in
    elim (cases_lt k (length served.kept)) [
      | inl within ↦ none_gone g.P.Depot.tells g.P.D.Disk.tells g.P.D.Disk.sight served c.a_network_is_whole-in-Ok.ensures
          (g.P.Depot.home c.serve-network.new.depot) (g.P.Depot.home c.close.new.depot) c.close.ensures.kept told k within
      | inr past ↦ λ gone. some (sym (c.in-Ok.ensures.opened.apart told k (omega (arith, count, first, many, past)))
          ∙ (sym (c.serve-network.ensures.home told k)
          ∙ (sym ((c.close.ensures.kept told).elsewhere k (omega (arith, count, past))) ∙ gone)))
    ]

pub returns-in-Err-clause-served : goal.returns-in-Err-clause-served
returns-in-Err-clause-served g c = λ unread rest taken.
    let asked : Asked = record { wanted = c.args.wanted; screens = map g.J.Judge.patterns c.args.screens.items } in
    let tells = g.P.Depot.tells × g.P.D.Disk.tells in
    let sight = g.P.D.Disk.sight in
    let here : Outside = record {
      moments = g.T.Ticks.coming c.args.ticks.now;
      requests = g.R.Door.requests c.args.door.now;
      replies = g.R.Door.replies c.args.door.now;
    } in
    unopened_through asked (result_shown c.end_refused.result) unread (g.W.Stream.held c.args.out.now)
    (g.W.Stream.held c.end_refused.new.out) tells sight g.P.D.Counted.faults (g.P.Depot.home c.args.depot.now)
    (g.P.Depot.home c.open.new.depot) here (g.P.Depot.last c.args.depot.now)
    (g.P.Depot.last c.open.new.depot) taken.bytes taken.short c.args.directory taken.reads taken.input c.in-Err.refusal
    c.end_refused.ensures.told
    (λ providers holds number next given.
    refused_lines providers c.in-Err.refusal c.end_refused.result holds number next c.end_refused.ensures.line given)
    c.in-Err.ensures.refused

pub returns-in-Err-clause-counts : goal.returns-in-Err-clause-counts
returns-in-Err-clause-counts g c =
    refused_counts c.in-Err.refusal c.end_refused.result (g.W.Counted.faults c.args.out.now)
    (g.W.Counted.faults c.end_refused.new.out) (g.P.Counted.faults c.args.depot.now) (g.P.Counted.faults c.open.new.depot)
    (g.P.Depot.last c.args.depot.now) (g.P.Depot.last c.open.new.depot) (g.T.Counted.faults c.args.ticks.now)
    (g.R.Counted.faults c.args.door.now) c.end_refused.ensures.blame c.in-Err.ensures.blame c.end_refused.ensures.later
    c.open.ensures.later c.open.ensures.last
