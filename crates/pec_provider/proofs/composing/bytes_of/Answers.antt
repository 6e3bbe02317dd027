use Rattle.std.proofs.Common.{ℕ, Global, Vec, ◌≡◌, Some, arith, ap, refl, Err}
use Rattle.std.proofs.lemmas.Result.{err_from_is_err_and}
use Rattle.pec_records.specs.declared.entries.Entry.{Entry}
use Rattle.pec_ledger.specs.Items.{item_text}
use Rattle.pec_chronicle.specs.Carrying.{NothingMay}
use Rattle.pec_chronicle.specs.CarryingLaws.{carries_and_then}
use Rattle.pec_outgoing.specs.ItemNeeds.{ServesItem, ShownOf, needed_item}
use Rattle.pec_reception.specs.OfTrades.{world_at}
use Rattle.pec_provider.specs.Reading.{PostedIsChanged}
use Rattle.pec_provider.proofs.ComposeLemmas.{changed_by, no_item, other_item, over_half}
use Rattle.pec_provider.proofs.ReadLemmas.{given_up_over, gives_count, reads_as}
use Rattle.pec_provider.proofs.composing.bytes_of.Goals as goal

pub read-requires-clause-places : goal.read-requires-clause-places
read-requires-clause-places g c = c.requires.agree.holds.places

pub returns-in_err-entry-clause-reads : goal.returns-in_err-entry-clause-reads
returns-in_err-entry-clause-reads g c =
    let p = err_from_is_err_and c.from_residual.result c.from_residual.ensures.1 in
    rw (p.1, p.2) (reads_as Entry (Vec ℕ Global) c.args.chronicle.now c.read.new.chronicle _ c.in_err-entry.ensures.reads)

pub returns-in_err-entry-clause-changed : goal.returns-in_err-entry-clause-changed
returns-in_err-entry-clause-changed g c = λ tells stands.
    let p = err_from_is_err_and c.from_residual.result c.from_residual.ensures.1 in
    let trade = world_at c.args.house.now in
    let journal = c.args.chronicle.now.entries in
    rw (p.1, p.2) (no_item trade c.args.house.now.me journal c.args.posted.now c.args.number
    (over_half (λ n h. needed_item h c.args.posted.now ≡ Some c.args.number) trade c.args.shelf.now
    c.args.house.now.me journal c.requires.is
    (c.requires.agree.holds.is_half trade c.a_house_is_a_trade.ensures.of) c.requires.needs)
    _ (c.in_err-entry.ensures.changed tells stands))

pub returns-in-Ok-clause-shown : goal.returns-in-Ok-clause-shown
returns-in-Ok-clause-shown g c = λ tells stands.
    let trade = world_at c.args.house.now in
    let of = c.a_house_is_a_trade.ensures.of in
    let journal = c.args.chronicle.now.entries in
    over_half (λ n h. item_text trade n journal c.args.posted.now ≡ Some c.in-Ok.bytes.items) trade c.args.shelf.now
    c.args.house.now.me journal c.requires.is
    (c.requires.agree.holds.is_half trade of)
    (c.in-Ok.ensures.text journal c.args.number
    (record { half_is = c.requires.agree.holds.is_half trade of; homes = c.requires.agree.holds.homes trade of })
    c.requires.needs (c.in_ok-entry.ensures.entry tells stands))

pub returns-in-Ok-clause-given : goal.returns-in-Ok-clause-given
returns-in-Ok-clause-given g c =
    let trade = world_at c.args.house.now in
    let me = c.args.house.now.me in
    let journal = c.args.chronicle.now.entries in
    let half_is = c.requires.agree.holds.is_half trade c.a_house_is_a_trade.ensures.of in
    record {
      posted = c.args.posted.now;
      there = refl;
      number = c.args.number;
      needs = over_half (λ n h. needed_item h c.args.posted.now ≡ Some c.args.number) trade c.args.shelf.now me journal
          c.requires.is half_is c.requires.needs;
      entry = c.in_ok-entry.entry;
      given = record {
        there = λ stood. c.in_ok-entry.ensures.entry stood.0 stood.1;
        written = c.in_ok-entry.ensures.written;
      };
      of = over_half (λ n h. ShownOf trade n h c.args.posted.now c.in_ok-entry.entry c.in-Ok.bytes.items) trade
          c.args.shelf.now me journal c.requires.is half_is c.in-Ok.ensures.of;
    }

pub returns-clause-changed : goal.returns-clause-changed
returns-clause-changed g c = λ tells stands.
    let trade = world_at c.args.house.now in
    let journal = c.args.chronicle.now.entries in
    let half_is = c.requires.agree.holds.is_half trade c.a_house_is_a_trade.ensures.of in
    rw c.given_up.ensures.fault
    (changed_by (PostedIsChanged trade c.args.house.now.me journal (Some c.args.posted.now)) c.args.number
    c.in-Err.fault (λ is.
    other_item trade c.args.house.now.me journal c.args.posted.now c.args.number
    (over_half (λ n h. needed_item h c.args.posted.now ≡ Some c.args.number) trade c.args.shelf.now
    c.args.house.now.me journal c.requires.is half_is c.requires.needs)
    c.in_ok-entry.entry (c.in_ok-entry.ensures.entry tells stands)
    (over_half (λ n h. ServesItem trade n h c.args.posted.now c.in_ok-entry.entry → ⊥) trade
    c.args.shelf.now c.args.house.now.me journal c.requires.is half_is (c.in-Err.ensures.changed (ap (λ fault. Err fault) is)))))

pub returns-clause-reads : goal.returns-clause-reads
returns-clause-reads g c =
    rw c.given_up.ensures.fault
    (given_up_over {X = Entry} (Vec ℕ Global) c.args.chronicle.now c.read.new.chronicle c.given_up.new.chronicle
    c.in_ok-entry.entry c.args.number c.in-Err.fault c.in_ok-entry.ensures.reads c.given_up.ensures.over)

pub returns-clause-carries : goal.returns-clause-carries
returns-clause-carries g c = λ tells.
    carries_and_then g.D.Disk.sight NothingMay c.args.chronicle.now c.read.new.chronicle c.given_up.new.chronicle
    (c.in_ok-entry.ensures.carries tells) (c.given_up.ensures.carries tells)

pub returns-clause-later : goal.returns-clause-later
returns-clause-later g c =
    let first = c.in_ok-entry.ensures.later in
    let second = gives_count g.D.Counted.faults c.read.new.chronicle c.given_up.new.chronicle c.in-Err.fault
    c.given_up.ensures.over in
    omega (arith, first, second)
