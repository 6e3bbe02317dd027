use Rattle.std.proofs.Common.{◌≡◌, ◌∙◌, false, List, ap, arith, refl, subst, sym}
use Rattle.std.specs.List.{insert}
use Rattle.pec_plays.specs.Commands.{Luck, Restart, played}
use Rattle.pec_chronicle.specs.CarryingLaws.{carries_nothing}
use Rattle.pec_provider.specs.Playing.{luck_of}
use Rattle.pec_provider.specs.Following.{MayFollow}
use Rattle.pec_provider.specs.Provider.{ProviderState}
use Rattle.pec_provider.specs.OfTrades.{trade_of}
use Rattle.pec_network.specs.Judging.{lists_of}
use Rattle.pec_network.specs.Carrying.{AllCarryOn, NoneFalls}
use Rattle.pec_network.specs.Changing.{HasRisenAt, StandsAt}
use Rattle.pec_network.specs.Network.{IsOfDirectory, NetworkState, sites, sites_of}
use Rattle.pec_network.specs.Restarting.{IsNotRestarted, IsRestarted, IsUpAt}
use Rattle.pec_network.specs.declared.faults.RestartFault.TheVariants as faults
use Rattle.pec_network.proofs.ChangeLemmas.{at_old, carries_from, falls_from, number_within, owed_from, risen_from, runs_from, stands_from, whole_from}
use Rattle.pec_network.proofs.CrashLemmas.{changes_nothing, changes_only, disk_fault_so, down_there, fit_outside, not_restarted_so, put_instead, restarted_so, up_at, up_so}
use Rattle.pec_network.proofs.network.Network.restart.Goals as goal

pub index-requires : goal.index-requires
index-requires g c =
    let within = number_within _ c.args.self.now c.self.view_is c.self.invariant.0 c.args.provider c.requires in
    let size = c.self.inside.providers.ok.0 in
    omega arith

pub same-self : goal.same-self
same-self g c = refl

-- ---- it is up

pub returns-then-not-is_down-clause-refused : goal.returns-then-not-is_down-clause-refused
returns-then-not-is_down-clause-refused g c = λ trade.
    let within = number_within _ c.args.self.now c.self.view_is c.self.invariant.0 c.args.provider c.requires in (
      rw (← c.self.view_is)
          (up_so trade c.self.inside.providers.items (lists_of g.J.Judge.patterns c.self.inside.judges.items) c.self.inside.arrivals.items c.args.provider c.index.result.now c.index.result.now within c.index.ensures (sym c.is_down.ensures ∙ c.if-not-is_down.true) (luck_of false)),
      refl,
    )

pub returns-then-not-is_down-clause-others : goal.returns-then-not-is_down-clause-others
returns-then-not-is_down-clause-others g c =
    let within = number_within _ c.args.self.now c.self.view_is c.self.invariant.0 c.args.provider c.requires in
    let was : NetworkState g.row.D.Denot g.row.S.Denot = record {
      kept = c.self.inside.directory;
      sealer = c.self.inside.sealer;
      providers = c.self.inside.providers.items;
      screens = lists_of g.J.Judge.patterns c.self.inside.judges.items;
      looks = lists_of g.J.Judge.seen c.self.inside.judges.items;
      waiting = c.self.inside.arrivals.items;
    } in
    rw (← c.self.view_is) (changes_nothing was c.args.provider within)

pub returns-then-not-is_down-clause-carries : goal.returns-then-not-is_down-clause-carries
returns-then-not-is_down-clause-carries g c = λ tells trade journals number other l.
    carries_nothing g.D.Disk.sight (MayFollow trade journals number) _ _ (c.what_rests_carries_on.ensures tells _)

pub returns-then-not-is_down-clause-disk_fault : goal.returns-then-not-is_down-clause-disk_fault
returns-then-not-is_down-clause-disk_fault g c = λ failed. absurd (cc)

pub returns-then-not-is_down-clause-later : goal.returns-then-not-is_down-clause-later
returns-then-not-is_down-clause-later g c = λ number other l. omega arith

-- ---- it is restarted

pub remove-requires : goal.remove-requires
remove-requires g c =
    let within = number_within _ c.args.self.now c.self.view_is c.self.invariant.0 c.args.provider c.requires in
    let size = c.self.inside.providers.ok.0 in
    omega arith

pub restart-requires : goal.restart-requires
restart-requires g c =
    let within = number_within _ c.args.self.now c.self.view_is c.self.invariant.0 c.args.provider c.requires in
    runs_from c.self.inside.providers.items c.args.provider c.remove.result c.remove.result within c.remove.ensures.value c.self.inside.directory
    c.self.inside.arrivals.items c.self.invariant.0

pub put_back-requires-clause-place : goal.put_back-requires-clause-place
put_back-requires-clause-place g c =
    let within = number_within _ c.args.self.now c.self.view_is c.self.invariant.0 c.args.provider c.requires in
    let size = c.self.inside.providers.ok.0 in
    let less = c.remove.ensures.len in
    omega arith

pub invariant_of-self : goal.invariant_of-self
invariant_of-self g c =
    let within = number_within _ c.args.self.now c.self.view_is c.self.invariant.0 c.args.provider c.requires in (
      subst (λ (l : List (ProviderState g.row.D.Denot)). IsOfDirectory c.self.inside.directory (g.S.Sealer.seals c.self.inside.sealer) l c.self.inside.arrivals.items) (sym (c.put_back.ensures ∙ ap (λ (l : List (ProviderState g.row.D.Denot)). insert l c.args.provider c.in-Ok.opened) c.remove.ensures.items ∙ put_instead c.self.inside.providers.items c.args.provider c.in-Ok.opened within))
          (whole_from c.self.inside.providers.items c.args.provider c.remove.result c.in-Ok.opened within c.remove.ensures.value c.self.inside.directory c.self.inside.arrivals.items c.self.invariant.0 c.in-Ok.ensures.runs
          (ap (λ d. d.owed) c.in-Ok.ensures.up ∙ sym (owed_from c.self.inside.providers.items c.args.provider c.remove.result c.in-Ok.opened within c.remove.ensures.value c.self.inside.directory c.self.inside.arrivals.items c.self.invariant.0))),
      c.self.invariant.1,
    )

pub returns-in-Ok-clause-others : goal.returns-in-Ok-clause-others
returns-in-Ok-clause-others g c =
    let within = number_within _ c.args.self.now c.self.view_is c.self.invariant.0 c.args.provider c.requires in
    let was : NetworkState g.row.D.Denot g.row.S.Denot = record {
      kept = c.self.inside.directory;
      sealer = c.self.inside.sealer;
      providers = c.self.inside.providers.items;
      screens = lists_of g.J.Judge.patterns c.self.inside.judges.items;
      looks = lists_of g.J.Judge.seen c.self.inside.judges.items;
      waiting = c.self.inside.arrivals.items;
    } in
    rw (← c.self.view_is, (c.put_back.ensures ∙ ap (λ (l : List (ProviderState g.row.D.Denot)). insert l c.args.provider c.in-Ok.opened) c.remove.ensures.items ∙ put_instead c.self.inside.providers.items c.args.provider c.in-Ok.opened within)) (changes_only was c.args.provider c.in-Ok.opened was.looks within)

pub returns-in-Ok-clause-carries : goal.returns-in-Ok-clause-carries
returns-in-Ok-clause-carries g c = λ tells trade journals.
    let within = number_within _ c.args.self.now c.self.view_is c.self.invariant.0 c.args.provider c.requires in
    subst (λ (l : List (ProviderState g.row.D.Denot)). AllCarryOn g.D.Disk.sight trade journals c.args.self.now.providers l) (sym (c.put_back.ensures ∙ ap (λ (l : List (ProviderState g.row.D.Denot)). insert l c.args.provider c.in-Ok.opened) c.remove.ensures.items ∙ put_instead c.self.inside.providers.items c.args.provider c.in-Ok.opened within))
    (rw (← c.self.view_is)
    (carries_from c.self.inside.providers.items c.args.provider c.remove.result c.in-Ok.opened within c.remove.ensures.value g.D.Disk.sight trade journals (c.what_rests_carries_on.ensures tells)
    (carries_nothing g.D.Disk.sight (MayFollow trade journals c.args.provider) c.remove.result.chronicle c.in-Ok.opened.chronicle
    (c.in-Ok.ensures.carries tells))))

pub returns-in-Ok-clause-later : goal.returns-in-Ok-clause-later
returns-in-Ok-clause-later g c =
    let within = number_within _ c.args.self.now c.self.view_is c.self.invariant.0 c.args.provider c.requires in
    subst (λ (l : List (ProviderState g.row.D.Denot)). NoneFalls g.D.Counted.faults c.args.self.now.providers l) (sym (c.put_back.ensures ∙ ap (λ (l : List (ProviderState g.row.D.Denot)). insert l c.args.provider c.in-Ok.opened) c.remove.ensures.items ∙ put_instead c.self.inside.providers.items c.args.provider c.in-Ok.opened within))
    (rw (← c.self.view_is) (falls_from c.self.inside.providers.items c.args.provider c.remove.result c.in-Ok.opened within c.remove.ensures.value g.D.Counted.faults c.in-Ok.ensures.later))

pub put_back-requires-in-Err-clause-place : goal.put_back-requires-in-Err-clause-place
put_back-requires-in-Err-clause-place g c =
    let within = number_within _ c.args.self.now c.self.view_is c.self.invariant.0 c.args.provider c.requires in
    let size = c.self.inside.providers.ok.0 in
    let less = c.remove.ensures.len in
    omega arith

pub invariant_of-self-in-Err : goal.invariant_of-self-in-Err
invariant_of-self-in-Err g c =
    let within = number_within _ c.args.self.now c.self.view_is c.self.invariant.0 c.args.provider c.requires in (
      subst (λ (l : List (ProviderState g.row.D.Denot)). IsOfDirectory c.self.inside.directory (g.S.Sealer.seals c.self.inside.sealer) l c.self.inside.arrivals.items) (sym (c.put_back-in-Err.ensures ∙ ap (λ (l : List (ProviderState g.row.D.Denot)). insert l c.args.provider c.in-Err.down) c.remove.ensures.items ∙ put_instead c.self.inside.providers.items c.args.provider c.in-Err.down within))
          (whole_from c.self.inside.providers.items c.args.provider c.remove.result c.in-Err.down within c.remove.ensures.value c.self.inside.directory c.self.inside.arrivals.items c.self.invariant.0 c.in-Err.ensures.runs_err
          (ap (λ d. d.owed) c.in-Err.ensures.stopped)),
      c.self.invariant.1,
    )

pub returns-in-Err-clause-others : goal.returns-in-Err-clause-others
returns-in-Err-clause-others g c =
    let within = number_within _ c.args.self.now c.self.view_is c.self.invariant.0 c.args.provider c.requires in
    let was : NetworkState g.row.D.Denot g.row.S.Denot = record {
      kept = c.self.inside.directory;
      sealer = c.self.inside.sealer;
      providers = c.self.inside.providers.items;
      screens = lists_of g.J.Judge.patterns c.self.inside.judges.items;
      looks = lists_of g.J.Judge.seen c.self.inside.judges.items;
      waiting = c.self.inside.arrivals.items;
    } in
    rw (← c.self.view_is, (c.put_back-in-Err.ensures ∙ ap (λ (l : List (ProviderState g.row.D.Denot)). insert l c.args.provider c.in-Err.down) c.remove.ensures.items ∙ put_instead c.self.inside.providers.items c.args.provider c.in-Err.down within)) (changes_only was c.args.provider c.in-Err.down was.looks within)

pub returns-in-Err-clause-carries : goal.returns-in-Err-clause-carries
returns-in-Err-clause-carries g c = λ tells trade journals.
    let within = number_within _ c.args.self.now c.self.view_is c.self.invariant.0 c.args.provider c.requires in
    subst (λ (l : List (ProviderState g.row.D.Denot)). AllCarryOn g.D.Disk.sight trade journals c.args.self.now.providers l) (sym (c.put_back-in-Err.ensures ∙ ap (λ (l : List (ProviderState g.row.D.Denot)). insert l c.args.provider c.in-Err.down) c.remove.ensures.items ∙ put_instead c.self.inside.providers.items c.args.provider c.in-Err.down within))
    (rw (← c.self.view_is)
    (carries_from c.self.inside.providers.items c.args.provider c.remove.result c.in-Err.down within c.remove.ensures.value g.D.Disk.sight trade journals (c.what_rests_carries_on.ensures tells)
    (carries_nothing g.D.Disk.sight (MayFollow trade journals c.args.provider) c.remove.result.chronicle c.in-Err.down.chronicle
    (c.in-Err.ensures.carries_err tells))))

pub returns-in-Err-clause-later : goal.returns-in-Err-clause-later
returns-in-Err-clause-later g c =
    let within = number_within _ c.args.self.now c.self.view_is c.self.invariant.0 c.args.provider c.requires in
    subst (λ (l : List (ProviderState g.row.D.Denot)). NoneFalls g.D.Counted.faults c.args.self.now.providers l) (sym (c.put_back-in-Err.ensures ∙ ap (λ (l : List (ProviderState g.row.D.Denot)). insert l c.args.provider c.in-Err.down) c.remove.ensures.items ∙ put_instead c.self.inside.providers.items c.args.provider c.in-Err.down within))
    (rw (← c.self.view_is) (falls_from c.self.inside.providers.items c.args.provider c.remove.result c.in-Err.down within c.remove.ensures.value g.D.Counted.faults c.in-Err.ensures.later_err))

pub returns-in-Ok-clause-plays : goal.returns-in-Ok-clause-plays
returns-in-Ok-clause-plays g c = λ tells stands trade.
    let within = number_within _ c.args.self.now c.self.view_is c.self.invariant.0 c.args.provider c.requires in
    let old_stands = stands_from c.self.inside.providers.items c.args.provider c.remove.result c.in-Ok.opened within c.remove.ensures.value g.D.Disk.sight
    (subst (λ (n : NetworkState g.row.D.Denot g.row.S.Denot). StandsAt g.D.Disk.sight c.args.provider n.providers) (sym c.self.view_is) stands) in
    subst (λ (l : List (ProviderState g.row.D.Denot)). IsRestarted (λ (luck : Luck). played trade luck (sites c.args.self.now) (Restart c.args.provider))
    (sites c.args.self.now) c.args.provider (sites_of l (lists_of g.J.Judge.patterns c.self.inside.judges.items) c.self.inside.arrivals.items) c.entries-entries.result) (sym (c.put_back.ensures ∙ ap (λ (l : List (ProviderState g.row.D.Denot)). insert l c.args.provider c.in-Ok.opened) c.remove.ensures.items ∙ put_instead c.self.inside.providers.items c.args.provider c.in-Ok.opened within))
    (rw (
      ← c.self.view_is,
      (c.entries-entries.ensures c.self.inside.directory (g.S.Sealer.seals c.self.inside.sealer) c.args.provider
          (trade_of c.self.inside.directory (g.S.Sealer.seals c.self.inside.sealer)) c.in-Ok.ensures.runs
          (c.a_trade_says_what_its_parts_say.ensures.directory c.self.inside.directory (g.S.Sealer.seals c.self.inside.sealer))),
    )
    (restarted_so trade c.self.inside.providers.items (lists_of g.J.Judge.patterns c.self.inside.judges.items) c.self.inside.arrivals.items c.args.provider c.remove.result c.in-Ok.opened within c.remove.ensures.value ((ap (λ (p : ProviderState g.row.D.Denot). p.chronicle.down) (c.remove.ensures.value ∙ at_old c.self.inside.providers.items c.args.provider c.index.result.now c.index.result.now within c.index.ensures c.remove.result)) ∙ sym c.is_down.ensures ∙ c.if-not-is_down.false) c.in-Ok.ensures.up
    (c.in-Ok.ensures.found tells old_stands)))

pub returns-in-Ok-clause-up : goal.returns-in-Ok-clause-up
returns-in-Ok-clause-up g c =
    let within = number_within _ c.args.self.now c.self.view_is c.self.invariant.0 c.args.provider c.requires in
    subst (λ (l : List (ProviderState g.row.D.Denot)). IsUpAt c.args.provider l c.entries-entries.result) (sym (c.put_back.ensures ∙ ap (λ (l : List (ProviderState g.row.D.Denot)). insert l c.args.provider c.in-Ok.opened) c.remove.ensures.items ∙ put_instead c.self.inside.providers.items c.args.provider c.in-Ok.opened within))
    (up_at c.self.inside.providers.items c.args.provider c.remove.result c.in-Ok.opened within c.remove.ensures.value c.entries-entries.result
    (c.entries-entries.ensures c.self.inside.directory (g.S.Sealer.seals c.self.inside.sealer) c.args.provider
    (trade_of c.self.inside.directory (g.S.Sealer.seals c.self.inside.sealer)) c.in-Ok.ensures.runs
    (c.a_trade_says_what_its_parts_say.ensures.directory c.self.inside.directory (g.S.Sealer.seals c.self.inside.sealer))) c.in-Ok.ensures.up)

pub returns-in-Ok-clause-down : goal.returns-in-Ok-clause-down
returns-in-Ok-clause-down g c =
    let within = number_within _ c.args.self.now c.self.view_is c.self.invariant.0 c.args.provider c.requires in
    rw (← c.self.view_is)
    (down_there c.self.inside.providers.items (lists_of g.J.Judge.patterns c.self.inside.judges.items) c.self.inside.arrivals.items c.args.provider c.remove.result within c.remove.ensures.value ((ap (λ (p : ProviderState g.row.D.Denot). p.chronicle.down) (c.remove.ensures.value ∙ at_old c.self.inside.providers.items c.args.provider c.index.result.now c.index.result.now within c.index.ensures c.remove.result)) ∙ sym c.is_down.ensures ∙ c.if-not-is_down.false))

pub returns-in-Ok-clause-disk_fault : goal.returns-in-Ok-clause-disk_fault
returns-in-Ok-clause-disk_fault g c = λ failed. absurd (cc)

pub returns-in-Err-clause-fit : goal.returns-in-Err-clause-fit
returns-in-Err-clause-fit g c = λ tells stands.
    let within = number_within _ c.args.self.now c.self.view_is c.self.invariant.0 c.args.provider c.requires in
    let old_stands = stands_from c.self.inside.providers.items c.args.provider c.remove.result c.in-Err.down within c.remove.ensures.value g.D.Disk.sight
    (subst (λ (n : NetworkState g.row.D.Denot g.row.S.Denot). StandsAt g.D.Disk.sight c.args.provider n.providers) (sym c.self.view_is) stands) in
    rw c.from.ensures (fit_outside c.in-Err.fault (c.in-Err.ensures.outside tells old_stands))

pub returns-in-Err-clause-refused : goal.returns-in-Err-clause-refused
returns-in-Err-clause-refused g c = λ trade.
    let within = number_within _ c.args.self.now c.self.view_is c.self.invariant.0 c.args.provider c.requires in
    subst (λ (l : List (ProviderState g.row.D.Denot)). IsNotRestarted (λ (luck : Luck). played trade luck (sites c.args.self.now) (Restart c.args.provider))
    (sites c.args.self.now) c.args.provider (sites_of l (lists_of g.J.Judge.patterns c.self.inside.judges.items) c.self.inside.arrivals.items) c.from.result) (sym (c.put_back-in-Err.ensures ∙ ap (λ (l : List (ProviderState g.row.D.Denot)). insert l c.args.provider c.in-Err.down) c.remove.ensures.items ∙ put_instead c.self.inside.providers.items c.args.provider c.in-Err.down within))
    (rw (← c.self.view_is, c.from.ensures)
    (not_restarted_so trade c.self.inside.providers.items (lists_of g.J.Judge.patterns c.self.inside.judges.items) c.self.inside.arrivals.items c.args.provider c.remove.result c.in-Err.down within c.remove.ensures.value ((ap (λ (p : ProviderState g.row.D.Denot). p.chronicle.down) (c.remove.ensures.value ∙ at_old c.self.inside.providers.items c.args.provider c.index.result.now c.index.result.now within c.index.ensures c.remove.result)) ∙ sym c.is_down.ensures ∙ c.if-not-is_down.false) c.in-Err.ensures.stopped c.in-Err.fault))

pub returns-in-Err-clause-disk_fault : goal.returns-in-Err-clause-disk_fault
returns-in-Err-clause-disk_fault g c = λ failed.
    let told : c.from.result ≡ faults.DiskFault = (let e = failed in cc) in
    let within = number_within _ c.args.self.now c.self.view_is c.self.invariant.0 c.args.provider c.requires in
    subst (λ (l : List (ProviderState g.row.D.Denot)). HasRisenAt g.D.Counted.faults c.args.provider c.args.self.now.providers l) (sym (c.put_back-in-Err.ensures ∙ ap (λ (l : List (ProviderState g.row.D.Denot)). insert l c.args.provider c.in-Err.down) c.remove.ensures.items ∙ put_instead c.self.inside.providers.items c.args.provider c.in-Err.down within))
    (rw (← c.self.view_is)
    (risen_from c.self.inside.providers.items c.args.provider c.remove.result c.in-Err.down within c.remove.ensures.value g.D.Counted.faults
    (c.in-Err.ensures.disk_fault (disk_fault_so c.in-Err.fault (sym c.from.ensures ∙ told)))))
