-- What is shown of an item that was placed, in the words of the entries.
use Rattle.std.proofs.Common.{ap, not, refl, sym, subst, ℕ, Global, Option, Some, None, Vec, ◌≡◌, ◌∙◌}
use Rattle.std.specs.Prelude.{IsSome}
use Rattle.std.proofs.lemmas.Result.{err_from_is_err_and}
use Rattle.pec_directory.specs.Directory.{is_account_of, providers_of}
use Rattle.pec_ledger.specs.Half.{Posted}
use Rattle.pec_ledger.specs.Items.{item_text}
use Rattle.pec_ledger.specs.Steps.{half}
use Rattle.pec_shelf.specs.Prepared.{AreSteps}
use Rattle.pec_chronicle.specs.Chronicle.{Stands}
use Rattle.pec_outgoing.specs.ItemNeeds.{needed_item}
use Rattle.pec_reception.specs.OfTrades.{world_at}
use Rattle.pec_provider.specs.Keeping.{kept_at}
use Rattle.pec_provider.specs.Playing.{text_at}
use Rattle.pec_provider.specs.Provider.{desk_of}
use Rattle.pec_provider.specs.Reading.{PostedIsChanged}
use Rattle.pec_provider.proofs.ComposeLemmas.{over_half}
use Rattle.pec_provider.proofs.DecideLemmas.{steps_of}
use Rattle.pec_provider.proofs.KeptLemmas.{needed_there, paths_of}
use Rattle.pec_provider.proofs.RunLemmas.{desk_read, runs_inside, runs_read, up_inside}
use Rattle.pec_provider.proofs.ShowLemmas.{changed_so, cut_off, given_for, kept_placed, not_asked, on_ok, shown_so, unasked_changed, unasked_reads, unasked_whole}
use Rattle.pec_provider.proofs.provider.Provider.shown_at.Goals as goal

pub returns-in_err-asked-clause-refused : goal.returns-in_err-asked-clause-refused
returns-in_err-asked-clause-refused g c =
    let trade = world_at c.args.house.now in
    let journal = c.args.self.now.chronicle.entries in
    not_asked (is_account_of (providers_of c.args.house.now.directory.now) c.args.house.now.me c.args.account.now)
    (not c.args.self.now.chronicle.down)
    (text_at trade c.args.house.now.me journal (kept_at c.args.keeping (half trade c.args.house.now.me journal)
    c.args.account.now c.args.place))
    c.in_err-asked.field-0.0
    c.from_residual.result c.from_residual.ensures.1
    (c.in_err-asked.ensures.refused trade c.a_house_is_a_trade.ensures.of)

pub returns-in_err-asked-clause-changed : goal.returns-in_err-asked-clause-changed
returns-in_err-asked-clause-changed g c = λ tells stands.
    let trade = world_at c.args.house.now in
    let journal = c.args.self.now.chronicle.entries in
    let p = err_from_is_err_and c.from_residual.result c.from_residual.ensures.1 in
    rw (p.1, p.2) (unasked_changed (PostedIsChanged trade c.args.house.now.me journal
    (kept_at c.args.keeping (half trade c.args.house.now.me journal) c.args.account.now c.args.place)) _ _
    c.in_err-asked.field-0.0
    (c.in_err-asked.ensures.refused trade c.a_house_is_a_trade.ensures.of))

pub returns-in_err-asked-clause-reads : goal.returns-in_err-asked-clause-reads
returns-in_err-asked-clause-reads g c =
    let p = err_from_is_err_and c.from_residual.result c.from_residual.ensures.1 in
    rw (p.1, p.2) (unasked_reads (Vec ℕ Global) (desk_of c.args.self.now) _ _ c.in_err-asked.field-0.0
    (c.in_err-asked.ensures.refused (world_at c.args.house.now) c.a_house_is_a_trade.ensures.of))

pub returns-in_err-asked-clause-disk_fault : goal.returns-in_err-asked-clause-disk_fault
returns-in_err-asked-clause-disk_fault g c =
    let p = err_from_is_err_and c.from_residual.result c.from_residual.ensures.1 in
    rw (p.1, p.2) (λ fault. absurd (unasked_whole (Vec ℕ Global) _ _ c.in_err-asked.field-0.0
    (c.in_err-asked.ensures.refused (world_at c.args.house.now) c.a_house_is_a_trade.ensures.of) fault))

pub returns-in_default-clause-refused : goal.returns-in_default-clause-refused
returns-in_default-clause-refused g c =
    let trade = world_at c.args.house.now in
    let of = c.a_house_is_a_trade.ensures.of in
    let asked = c.in_ok-asked.ensures.asked trade of in
    let inside = c.self.inside in
    let runs = runs_inside c.args.house.now.directory.now c.args.house.now.me _ c.args.self.now c.self.view_is
    c.requires.runs in (
      asked.0,
      ap not asked.1,
      rw (← c.self.view_is)
          (ap (text_at trade c.args.house.now.me inside.chronicle.entries)
          (over_half (λ n h. kept_at c.args.keeping h c.args.account.now c.args.place ≡ None) trade inside.shelf
          c.args.house.now.me inside.chronicle.entries runs.is (runs.agree.holds.is_half trade of)
          (sym c.in_default.ensures))),
    )

pub returns-in_default-needed_item-clause-refused : goal.returns-in_default-needed_item-clause-refused
returns-in_default-needed_item-clause-refused g c =
    let trade = world_at c.args.house.now in
    let of = c.a_house_is_a_trade.ensures.of in
    let asked = c.in_ok-asked.ensures.asked trade of in
    let inside = c.self.inside in
    let runs = runs_inside c.args.house.now.directory.now c.args.house.now.me _ c.args.self.now c.self.view_is
    c.requires.runs in (
      asked.0,
      ap not asked.1,
      rw (← c.self.view_is)
          (ap (text_at trade c.args.house.now.me inside.chronicle.entries)
          (over_half (λ n h. kept_at c.args.keeping h c.args.account.now c.args.place ≡ Some c.in-Some.posted.now) trade
          inside.shelf c.args.house.now.me inside.chronicle.entries runs.is (runs.agree.holds.is_half trade of)
          (sym c.in-Some.ensures))
          ∙ over_half (λ n h. item_text trade n inside.chronicle.entries c.in-Some.posted.now ≡ None) trade inside.shelf
          c.args.house.now.me inside.chronicle.entries runs.is (runs.agree.holds.is_half trade of)
          (c.in_default-needed_item.ensures.none refl trade inside.chronicle.entries
          (record { half_is = runs.agree.holds.is_half trade of; homes = runs.agree.holds.homes trade of }))),
    )

pub bytes_of-requires-clause-up : goal.bytes_of-requires-clause-up
bytes_of-requires-clause-up g c =
    let asked = c.in_ok-asked.ensures.asked (world_at c.args.house.now) c.a_house_is_a_trade.ensures.of in
    up_inside c.self.view_is asked.1

pub bytes_of-requires-clause-agree : goal.bytes_of-requires-clause-agree
bytes_of-requires-clause-agree g c =
    let runs = runs_inside c.args.house.now.directory.now c.args.house.now.me _ c.args.self.now c.self.view_is
    c.requires.runs in
    runs.agree

pub returns-clause-shown : goal.returns-clause-shown
returns-clause-shown g c =
    let trade = world_at c.args.house.now in
    let of = c.a_house_is_a_trade.ensures.of in
    let inside = c.self.inside in
    let runs = runs_inside c.args.house.now.directory.now c.args.house.now.me _ c.args.self.now c.self.view_is
    c.requires.runs in
    rw (← c.self.view_is) (λ tells stands.
    shown_so trade c.args.house.now.me inside.chronicle.entries _ c.in-Some.posted.now
    (over_half (λ n h. kept_at c.args.keeping h c.args.account.now c.args.place ≡ Some c.in-Some.posted.now) trade
    inside.shelf c.args.house.now.me inside.chronicle.entries runs.is (runs.agree.holds.is_half trade of)
    (sym c.in-Some.ensures)) c.bytes_of.result (c.bytes_of.ensures.shown tells stands))

pub returns-clause-given : goal.returns-clause-given
returns-clause-given g c =
    let trade = world_at c.args.house.now in
    let of = c.a_house_is_a_trade.ensures.of in
    let inside = c.self.inside in
    let runs = runs_inside c.args.house.now.directory.now c.args.house.now.me _ c.args.self.now c.self.view_is
    c.requires.runs in
    rw (← c.self.view_is) (given_for trade c.args.house.now.me inside.chronicle.entries _ c.in-Some.posted.now
    (over_half (λ n h. kept_at c.args.keeping h c.args.account.now c.args.place ≡ Some c.in-Some.posted.now) trade
    inside.shelf c.args.house.now.me inside.chronicle.entries runs.is (runs.agree.holds.is_half trade of)
    (sym c.in-Some.ensures)) (g.D.Disk.tells × Stands g.D.Disk.sight inside.chronicle) c.bytes_of.result
    c.bytes_of.ensures.given)

pub returns-clause-some : goal.returns-clause-some
returns-clause-some g c =
    let trade = world_at c.args.house.now in
    let of = c.a_house_is_a_trade.ensures.of in
    let inside = c.self.inside in
    let runs = runs_inside c.args.house.now.directory.now c.args.house.now.me _ c.args.self.now c.self.view_is
    c.requires.runs in
    let half_is = runs.agree.holds.is_half trade of in
    let me = c.args.house.now.me in
    let journal = inside.chronicle.entries in
    let there = over_half (λ n h. kept_at c.args.keeping h c.args.account.now c.args.place ≡ Some c.in-Some.posted.now)
    trade inside.shelf me journal runs.is half_is (sym c.in-Some.ensures) in
    rw (← c.self.view_is) (on_ok c.bytes_of.result
    (subst (λ (o : Option Posted). IsSome (text_at trade me journal o)) (sym there)
    (needed_there trade me journal c.a_taken_message_has_its_envelope.ensures
    (paths_of trade me journal (subst (λ (n : ℕ). AreSteps trade n journal) runs.is
    (steps_of c.args.house.now.directory.now inside.chronicle inside.shelf trade runs.agree of))) c.in-Some.posted.now
    c.in-Some-needed_item.number
    (kept_placed c.boxes_hold_what_was_placed.ensures.mailboxes c.boxes_hold_what_was_placed.ensures.archives
    c.args.keeping (half trade me journal) c.args.account.now c.args.place c.in-Some.posted.now there)
    (over_half (λ n h. needed_item h c.in-Some.posted.now ≡ Some c.in-Some-needed_item.number) trade inside.shelf me
    journal
    runs.is half_is (sym c.in-Some-needed_item.ensures.number))).has))

pub returns-clause-refused : goal.returns-clause-refused
returns-clause-refused g c =
    let trade = world_at c.args.house.now in
    let of = c.a_house_is_a_trade.ensures.of in
    let inside = c.self.inside in
    let runs = runs_inside c.args.house.now.directory.now c.args.house.now.me _ c.args.self.now c.self.view_is
    c.requires.runs in
    let asked = c.in_ok-asked.ensures.asked trade of in
    let half_is = runs.agree.holds.is_half trade of in
    let me = c.args.house.now.me in
    let journal = inside.chronicle.entries in
    let there = over_half (λ n h. kept_at c.args.keeping h c.args.account.now c.args.place ≡ Some c.in-Some.posted.now)
    trade inside.shelf me journal runs.is half_is (sym c.in-Some.ensures) in
    rw (← c.self.view_is) (cut_off inside.chronicle c.bytes_of.new.chronicle c.bytes_of.result c.bytes_of.ensures.reads
    (trade.is_account me c.args.account.now) inside.chronicle.down
    (text_at trade me journal (kept_at c.args.keeping (half trade me journal) c.args.account.now c.args.place))
    (asked.0, up_inside c.self.view_is asked.1)
    (subst (λ (o : Option Posted). IsSome (text_at trade me journal o)) (sym there)
    (needed_there trade me journal c.a_taken_message_has_its_envelope.ensures
    (paths_of trade me journal (subst (λ (n : ℕ). AreSteps trade n journal) runs.is
    (steps_of c.args.house.now.directory.now inside.chronicle inside.shelf trade runs.agree of))) c.in-Some.posted.now
    c.in-Some-needed_item.number
    (kept_placed c.boxes_hold_what_was_placed.ensures.mailboxes c.boxes_hold_what_was_placed.ensures.archives
    c.args.keeping (half trade me journal) c.args.account.now c.args.place c.in-Some.posted.now there)
    (over_half (λ n h. needed_item h c.in-Some.posted.now ≡ Some c.in-Some-needed_item.number) trade inside.shelf me
    journal
    runs.is half_is (sym c.in-Some-needed_item.ensures.number))).has))

pub returns-clause-changed : goal.returns-clause-changed
returns-clause-changed g c =
    let trade = world_at c.args.house.now in
    let of = c.a_house_is_a_trade.ensures.of in
    let inside = c.self.inside in
    let runs = runs_inside c.args.house.now.directory.now c.args.house.now.me _ c.args.self.now c.self.view_is
    c.requires.runs in
    rw (← c.self.view_is) (λ tells stands.
    changed_so trade c.args.house.now.me inside.chronicle.entries _ c.in-Some.posted.now
    (over_half (λ n h. kept_at c.args.keeping h c.args.account.now c.args.place ≡ Some c.in-Some.posted.now) trade
    inside.shelf c.args.house.now.me inside.chronicle.entries runs.is (runs.agree.holds.is_half trade of)
    (sym c.in-Some.ensures)) c.bytes_of.result (c.bytes_of.ensures.changed tells stands))

pub returns-clause-reads : goal.returns-clause-reads
returns-clause-reads g c =
    let kept = c.args.house.now.directory.now in
    let me = c.args.house.now.me in
    let asked = c.in_ok-asked.ensures.asked (world_at c.args.house.now) c.a_house_is_a_trade.ensures.of in
    rw (← c.self.view_is) (desk_read kept me _ c.bytes_of.new.chronicle 0 c.bytes_of.result
    c.bytes_of.ensures.reads (up_inside c.self.view_is asked.1)
    (runs_inside kept me _ c.args.self.now c.self.view_is c.requires.runs))

pub returns-clause-runs : goal.returns-clause-runs
returns-clause-runs g c =
    runs_read c.args.house.now.directory.now c.args.house.now.me _ c.args.self.now c.self.view_is
    c.bytes_of.new.chronicle _ c.bytes_of.result c.bytes_of.ensures.reads c.requires.runs

pub returns-clause-carries : goal.returns-clause-carries
returns-clause-carries g c = rw (← c.self.view_is) c.bytes_of.ensures.carries
