use Rattle.std.proofs.Common.{◌≡◌, ◌<◌, ◌≤◌, ℕ, Result, length, ap, refl, sym, subst, ◌∙◌}
use Rattle.pec_types.specs.declared.messages.TheConstants.{MESSAGES}
use Rattle.pec_types.specs.declared.turns.ProviderFault.{ProviderFault}
use Rattle.pec_types.specs.declared.turns.Submitted.{Submitted}
use Rattle.pec_directory.specs.Directory.{providers_of}
use Rattle.pec_records.specs.Entry.{IsWithinLimits}
use Rattle.pec_points.specs.Case.{case_at}
use Rattle.pec_reception.specs.OfTrades.{cause_in, trade_of, world_at}
use Rattle.pec_provider.specs.Looking.{Looks}
use Rattle.pec_provider.proofs.LookLemmas.{handed, still, within_limits}
use Rattle.pec_records.specs.declared.entries.Entry.{Entry}
use Rattle.pec_ledger.specs.Ledger.{Meets}
use Rattle.pec_ledger.specs.Pairs.{id_of}
use Rattle.pec_ledger.specs.Steps.{half}
use Rattle.pec_plays.specs.Commands.{Submit, Submits, entry_by, played, screened_cause, told_by}
use Rattle.pec_screen.specs.VerdictReading.{finds}
use Rattle.pec_provider.specs.Appending.{ComesTo}
use Rattle.pec_provider.specs.Provider.{desk_of}
use Rattle.pec_provider.proofs.PlayLemmas.{admits_handed, comes_to, no_account, no_number}
use Rattle.pec_provider.proofs.RunLemmas.{count_runs, me_runs}
use Rattle.pec_provider.proofs.provider.Provider.admitted.Goals as goal

pub returns-then-not-is_account_of-clause-admits : goal.returns-then-not-is_account_of-clause-admits
returns-then-not-is_account_of-clause-admits g c =
    no_account (Entry × Submitted) (world_at c.args.house.now) c.args.house.now.me
    c.args.moment (g.J.Judge.patterns c.args.screens.now) (desk_of c.args.self.now) c.args.sender.now c.args.path.now
    c.args.message.now
    (sym c.is_account_of.ensures.value ∙ c.if-not-is_account_of.true)

pub returns-in_err-at_work-clause-admits : goal.returns-in_err-at_work-clause-admits
returns-in_err-at_work-clause-admits g c =
    let kept = c.args.house.now.directory.now in
    let me = c.args.house.now.me in
    let trade = trade_of kept (g.S.Sealer.seals c.args.house.now.sealer.now) in
    admits_handed trade me c.args.moment (desk_of c.args.self.now) c.args.sender.now c.args.path.now c.args.message.now
    (g.J.Judge.patterns c.args.screens.now)
    (sym c.is_account_of.ensures.value ∙ c.if-not-is_account_of.false)
    c.in_err-at_work.field-0.0 c.from_residual.result c.from_residual.ensures.1
    (c.in_err-at_work.ensures.works kept (g.S.Sealer.seals c.args.house.now.sealer.now) me trade c.requires.runs c.a_house_is_a_trade.ensures.of)

pub returns-in_default-clause-admits : goal.returns-in_default-clause-admits
returns-in_default-clause-admits g c =
    let kept = c.args.house.now.directory.now in
    let me = c.args.house.now.me in
    let trade = trade_of kept (g.S.Sealer.seals c.args.house.now.sealer.now) in
    let of = c.a_house_is_a_trade.ensures.of in
    no_number (Entry × Submitted) trade me c.args.moment (g.J.Judge.patterns c.args.screens.now)
    (desk_of c.args.self.now)
    c.args.sender.now c.args.path.now c.args.message.now
    (sym c.is_account_of.ensures.value ∙ c.if-not-is_account_of.false)
    (c.in_ok-at_work.ensures.works kept (g.S.Sealer.seals c.args.house.now.sealer.now) me trade c.requires.runs of)
    (subst (λ (n : ℕ). MESSAGES ≤ n) (count_runs kept me _ c.args.self.now c.self.view_is trade c.requires.runs of)
    c.in_default.ensures)

pub returns-clause-admits : goal.returns-clause-admits
returns-clause-admits g c =
    let kept = c.args.house.now.directory.now in
    let me = c.args.house.now.me in
    let trade = trade_of kept (g.S.Sealer.seals c.args.house.now.sealer.now) in
    let found = finds (g.J.Judge.patterns c.args.screens.now) c.args.message.now in
    let of = c.a_house_is_a_trade.ensures.of in
    let count = count_runs kept me _ c.args.self.now c.self.view_is trade c.requires.runs of in
    let id : c.in-Some.id ≡ id_of me (length (half trade me c.args.self.now.chronicle.entries).messages) =
    c.in-Some.ensures.1
    ∙ (ap (λ (n : ℕ). id_of n (length c.self.inside.shelf.half.messages))
    (me_runs kept me _ c.args.self.now c.self.view_is c.requires.runs)
    ∙ ap (λ (n : ℕ). id_of me n) count) in
    let submitted : c.told_by-answer.result ≡ told_by (screened_cause found (trade.cause me c.args.sender.now c.args.path.now c.args.message.now))
    (id_of me (length (half trade me c.args.self.now.chronicle.entries).messages)) =
    c.told_by-answer.ensures ∙ (ap (λ cause. told_by cause c.in-Some.id) c.in_ok-admission.ensures.cause
    ∙ ap (λ i. told_by (screened_cause found (trade.cause me c.args.sender.now c.args.path.now c.args.message.now)) i) id) in
    let entry : c.in_ok-entry.entry ≡ entry_by (screened_cause found (trade.cause me c.args.sender.now c.args.path.now c.args.message.now))
    c.args.moment
    c.args.sender.now c.args.path.now c.args.message.now =
    c.in_ok-entry.ensures
    ∙ ap (λ cause. entry_by cause c.args.moment c.args.sender.now c.args.path.now c.args.message.now)
    c.in_ok-admission.ensures.cause in
    subst (λ (e : Entry). ComesTo (λ luck sites. played trade luck sites
    (Submit me c.args.moment c.args.sender.now c.args.path.now c.args.message.now))
    trade me (g.J.Judge.patterns c.args.screens.now) (desk_of c.args.self.now) e (Submits c.told_by-answer.result))
    (sym entry)
    (subst (λ (s : Submitted). ComesTo (λ luck sites. played trade luck sites
    (Submit me c.args.moment c.args.sender.now c.args.path.now c.args.message.now))
    trade me (g.J.Judge.patterns c.args.screens.now) (desk_of c.args.self.now)
    (entry_by (screened_cause found (trade.cause me c.args.sender.now c.args.path.now c.args.message.now)) c.args.moment c.args.sender.now
    c.args.path.now c.args.message.now)
    (Submits s)) (sym submitted)
    (comes_to (Entry × Submitted) trade me c.args.moment (g.J.Judge.patterns c.args.screens.now)
    (desk_of c.args.self.now)
    c.args.sender.now c.args.path.now c.args.message.now
    (sym c.is_account_of.ensures.value ∙ c.if-not-is_account_of.false)
    (c.in_ok-at_work.ensures.works kept (g.S.Sealer.seals c.args.house.now.sealer.now) me trade c.requires.runs of)
    (subst (λ (n : ℕ). n < MESSAGES) count c.in-Some.ensures.0)))

pub returns-clause-follows : goal.returns-clause-follows
returns-clause-follows g c = λ journals.
    let kept = c.args.house.now.directory.now in
    let me = c.args.house.now.me in
    let trade = trade_of kept (g.S.Sealer.seals c.args.house.now.sealer.now) in
    let found = finds (g.J.Judge.patterns c.args.screens.now) c.args.message.now in
    let of = c.a_house_is_a_trade.ensures.of in
    let count = count_runs kept me _ c.args.self.now c.self.view_is trade c.requires.runs of in
    let entry : c.in_ok-entry.entry ≡ entry_by (screened_cause found (trade.cause me c.args.sender.now c.args.path.now c.args.message.now))
    c.args.moment
    c.args.sender.now c.args.path.now c.args.message.now =
    c.in_ok-entry.ensures
    ∙ ap (λ cause. entry_by cause c.args.moment c.args.sender.now c.args.path.now c.args.message.now)
    c.in_ok-admission.ensures.cause in
    subst (λ (e : Entry). Meets trade journals me (half trade me c.args.self.now.chronicle.entries) e) (sym entry)
    (c.what_a_provider_does_may_follow.ensures.submissions trade c.a_house_is_a_trade.ensures.trade
    journals me c.args.moment
    c.args.self.now.chronicle.entries (c.in_ok-at_work.ensures.works kept (g.S.Sealer.seals c.args.house.now.sealer.now) me trade c.requires.runs of).in_time
    c.at_work.ensures.in_range
    c.args.sender.now c.args.path.now c.args.message.now found
    (sym c.is_account_of.ensures.value ∙ c.if-not-is_account_of.false)
    (subst (λ (n : ℕ). n < MESSAGES) count c.in-Some.ensures.0) c.requires.path.0 c.requires.path.1)

pub returns-in_err-at_work-clause-looked : goal.returns-in_err-at_work-clause-looked
returns-in_err-at_work-clause-looked g c =
    let kept = c.args.house.now.directory.now in
    let me = c.args.house.now.me in
    let trade = trade_of kept (g.S.Sealer.seals c.args.house.now.sealer.now) in
    let found = finds (g.J.Judge.patterns c.args.screens.now) c.args.message.now in
    let case = case_at (providers_of kept) me c.args.sender.now c.args.path.now c.args.message.now found in
    let seen = g.J.Judge.seen c.args.screens.now in
    handed (λ (r : Result (Entry × Submitted) ProviderFault). Looks case seen seen r) c.in_err-at_work.field-0.0
    c.from_residual.result c.from_residual.ensures.1
    (still (Entry × Submitted) case seen seen trade me c.args.moment (desk_of c.args.self.now) c.in_err-at_work.field-0.0
    (c.in_err-at_work.ensures.works kept (g.S.Sealer.seals c.args.house.now.sealer.now) me trade c.requires.runs c.a_house_is_a_trade.ensures.of) refl)

pub returns-clause-limits : goal.returns-clause-limits
returns-clause-limits g c =
    subst (λ (e : Entry). IsWithinLimits e) (sym c.in_ok-entry.ensures)
    (within_limits (cause_in c.in_ok-admission.admission) c.args.moment c.args.sender.now c.args.path.now c.args.message.now c.requires.path.1
    c.requires.message)
