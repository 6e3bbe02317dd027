use Rattle.std.proofs.Common.{◌≡◌, ◌∙◌, List, ap, arith, subst, sym}
use Rattle.std.specs.List.{insert}
use Rattle.pec_plays.specs.Commands.{Crash, Crashed, played}
use Rattle.pec_chronicle.specs.CarryingLaws.{carries_nothing}
use Rattle.pec_provider.specs.Following.{MayFollow}
use Rattle.pec_provider.specs.Provider.{ProviderState}
use Rattle.pec_network.specs.Judging.{lists_of}
use Rattle.pec_network.specs.Carrying.{AllCarryOn}
use Rattle.pec_network.specs.Changing.{CrashedAt, SameCounts}
use Rattle.pec_network.specs.Network.{IsOfDirectory, NetworkState, sites, sites_of}
use Rattle.pec_network.proofs.ChangeLemmas.{carries_from, number_within, runs_from, whole_from}
use Rattle.pec_network.proofs.CrashLemmas.{changes_only, crashed_disk, crashed_so, put_instead, same_counts}
use Rattle.pec_network.proofs.network.Network.crash.Goals as goal

pub remove-requires : goal.remove-requires
remove-requires g c =
    let within = number_within _ c.args.self.now c.self.view_is c.self.invariant.0 c.args.provider c.requires in
    let size = c.self.inside.providers.ok.0 in
    omega arith

pub crash-crashed-requires-after_bounds : goal.crash-crashed-requires-after_bounds
crash-crashed-requires-after_bounds g c κs within-bounds =
    let within = number_within _ c.args.self.now c.self.view_is c.self.invariant.0 c.args.provider c.requires in
    let few = c.few_providers.ensures in
    let count = c.self.invariant.0.count in
    omega arith

pub put_back-requires-clause-place : goal.put_back-requires-clause-place
put_back-requires-clause-place g c =
    let within = number_within _ c.args.self.now c.self.view_is c.self.invariant.0 c.args.provider c.requires in
    let size = c.self.inside.providers.ok.0 in
    let less = c.remove.ensures.len in
    omega arith

pub invariant_of-self : goal.invariant_of-self
invariant_of-self g c =
    let within = number_within _ c.args.self.now c.self.view_is c.self.invariant.0 c.args.provider c.requires in (
      subst (λ (l : List (ProviderState g.row.D.Denot)). IsOfDirectory c.self.inside.directory (g.S.Sealer.seals c.self.inside.sealer) l c.self.inside.arrivals.items) (sym (c.put_back.ensures ∙ ap (λ (l : List (ProviderState g.row.D.Denot)). insert l c.args.provider c.crash-crashed.result) c.remove.ensures.items ∙ put_instead c.self.inside.providers.items c.args.provider c.crash-crashed.result within))
          (whole_from c.self.inside.providers.items c.args.provider c.remove.result c.crash-crashed.result within c.remove.ensures.value c.self.inside.directory c.self.inside.arrivals.items c.self.invariant.0
          (c.crash-crashed.ensures.runs c.self.inside.directory (g.S.Sealer.seals c.self.inside.sealer)
          (runs_from c.self.inside.providers.items c.args.provider c.remove.result c.crash-crashed.result within c.remove.ensures.value c.self.inside.directory c.self.inside.arrivals.items c.self.invariant.0))
          (ap (λ d. d.owed) c.crash-crashed.ensures.stopped)),
      c.self.invariant.1,
    )

pub returns-clause-plays : goal.returns-clause-plays
returns-clause-plays g c = λ trade luck.
    let within = number_within _ c.args.self.now c.self.view_is c.self.invariant.0 c.args.provider c.requires in
    subst (λ (l : List (ProviderState g.row.D.Denot)). played trade luck (sites c.args.self.now) (Crash c.args.provider)
    ≡ record { answer = Crashed; after = sites_of l (lists_of g.J.Judge.patterns c.self.inside.judges.items) c.self.inside.arrivals.items }) (sym (c.put_back.ensures ∙ ap (λ (l : List (ProviderState g.row.D.Denot)). insert l c.args.provider c.crash-crashed.result) c.remove.ensures.items ∙ put_instead c.self.inside.providers.items c.args.provider c.crash-crashed.result within))
    (rw (← c.self.view_is)
    (crashed_so trade c.self.inside.providers.items (lists_of g.J.Judge.patterns c.self.inside.judges.items) c.self.inside.arrivals.items c.args.provider c.remove.result c.crash-crashed.result within c.remove.ensures.value luck c.crash-crashed.ensures.stopped))

pub returns-clause-others : goal.returns-clause-others
returns-clause-others g c =
    let within = number_within _ c.args.self.now c.self.view_is c.self.invariant.0 c.args.provider c.requires in
    let was : NetworkState g.row.D.Denot g.row.S.Denot = record {
      kept = c.self.inside.directory;
      sealer = c.self.inside.sealer;
      providers = c.self.inside.providers.items;
      screens = lists_of g.J.Judge.patterns c.self.inside.judges.items;
      looks = lists_of g.J.Judge.seen c.self.inside.judges.items;
      waiting = c.self.inside.arrivals.items;
    } in
    rw (← c.self.view_is, (c.put_back.ensures ∙ ap (λ (l : List (ProviderState g.row.D.Denot)). insert l c.args.provider c.crash-crashed.result) c.remove.ensures.items ∙ put_instead c.self.inside.providers.items c.args.provider c.crash-crashed.result within)) (changes_only was c.args.provider c.crash-crashed.result was.looks within)

pub returns-clause-disk : goal.returns-clause-disk
returns-clause-disk g c = λ tells.
    let within = number_within _ c.args.self.now c.self.view_is c.self.invariant.0 c.args.provider c.requires in
    subst (λ (l : List (ProviderState g.row.D.Denot)). CrashedAt g.D.Disk.sight c.args.provider c.args.self.now.providers l) (sym (c.put_back.ensures ∙ ap (λ (l : List (ProviderState g.row.D.Denot)). insert l c.args.provider c.crash-crashed.result) c.remove.ensures.items ∙ put_instead c.self.inside.providers.items c.args.provider c.crash-crashed.result within))
    (rw (← c.self.view_is)
    (crashed_disk c.self.inside.providers.items c.args.provider c.remove.result c.crash-crashed.result within c.remove.ensures.value g.D.Disk.sight (c.crash-crashed.ensures.left tells) (c.crash-crashed.ensures.durable tells)))

pub returns-clause-carries : goal.returns-clause-carries
returns-clause-carries g c = λ tells trade journals.
    let within = number_within _ c.args.self.now c.self.view_is c.self.invariant.0 c.args.provider c.requires in
    subst (λ (l : List (ProviderState g.row.D.Denot)). AllCarryOn g.D.Disk.sight trade journals c.args.self.now.providers l) (sym (c.put_back.ensures ∙ ap (λ (l : List (ProviderState g.row.D.Denot)). insert l c.args.provider c.crash-crashed.result) c.remove.ensures.items ∙ put_instead c.self.inside.providers.items c.args.provider c.crash-crashed.result within))
    (rw (← c.self.view_is)
    (carries_from c.self.inside.providers.items c.args.provider c.remove.result c.crash-crashed.result within c.remove.ensures.value g.D.Disk.sight trade journals (c.what_rests_carries_on.ensures tells)
    (carries_nothing g.D.Disk.sight (MayFollow trade journals c.args.provider) c.remove.result.chronicle c.crash-crashed.result.chronicle
    (c.crash-crashed.ensures.carries tells))))

pub returns-clause-counts : goal.returns-clause-counts
returns-clause-counts g c =
    let within = number_within _ c.args.self.now c.self.view_is c.self.invariant.0 c.args.provider c.requires in
    subst (λ (l : List (ProviderState g.row.D.Denot)). SameCounts g.D.Counted.faults c.args.self.now.providers l) (sym (c.put_back.ensures ∙ ap (λ (l : List (ProviderState g.row.D.Denot)). insert l c.args.provider c.crash-crashed.result) c.remove.ensures.items ∙ put_instead c.self.inside.providers.items c.args.provider c.crash-crashed.result within))
    (rw (← c.self.view_is)
    (same_counts c.self.inside.providers.items c.args.provider c.remove.result c.crash-crashed.result within c.remove.ensures.value g.D.Counted.faults c.crash-crashed.ensures.count))

pub returns-clause-home : goal.returns-clause-home
returns-clause-home g c = c.crash-crashed.ensures.home

pub returns-clause-last : goal.returns-clause-last
returns-clause-last g c = c.crash-crashed.ensures.last

pub returns-clause-later : goal.returns-clause-later
returns-clause-later g c = c.crash-crashed.ensures.later
