-- The envelope is read at the entry by which the message was taken.
use Rattle.std.proofs.Common.{ℕ, Bool, Some, Err, arith, ap, ◌∙◌}
use Rattle.std.specs.Prelude.{slice_get}
use Rattle.std.proofs.lemmas.Result.{err_from_is_err_and}
use Rattle.pec_types.specs.declared.letters.Letter.TheVariants as letters
use Rattle.pec_records.specs.declared.entries.Entry.{Entry}
use Rattle.pec_chronicle.specs.Carrying.{NothingMay}
use Rattle.pec_chronicle.specs.CarryingLaws.{carries_and_then}
use Rattle.pec_reception.specs.OfTrades.{world_at}
use Rattle.pec_provider.specs.Reading.{IsNotOf}
use Rattle.pec_provider.proofs.ComposeLemmas.{changed_by, charge_holds, charge_needs, found_there, no_letter, other_letter, taken_at}
use Rattle.pec_provider.proofs.ReadLemmas.{given_up_over, gives_count, reads_as}
use Rattle.pec_provider.proofs.deciding.found_in.Goals as goal

pub read-requires-clause-places : goal.read-requires-clause-places
read-requires-clause-places g c = c.requires.agree.holds.places

pub returns-in_err-entry-clause-reads : goal.returns-in_err-entry-clause-reads
returns-in_err-entry-clause-reads g c =
    let p = err_from_is_err_and c.from_residual.result c.from_residual.ensures.1 in
    rw (p.1, p.2) (reads_as Entry Bool c.args.chronicle.now c.read.new.chronicle _ c.in_err-entry.ensures.reads)

pub returns-in_err-entry-clause-changed : goal.returns-in_err-entry-clause-changed
returns-in_err-entry-clause-changed g c = λ tells stands.
    let p = err_from_is_err_and c.from_residual.result c.from_residual.ensures.1 in
    let trade = world_at c.args.house.now in
    let me = c.args.house.now.me in
    let journal = c.args.chronicle.now.entries in
    let row = taken_at trade me journal c.args.shelf.now c.requires.is
    (c.requires.agree.holds.is_half trade c.a_house_is_a_trade.ensures.of) c.args.id c.taken_by-number.result
    c.requires.taken c.taken_by-number.ensures in
    rw (p.1, p.2) (no_letter trade me journal (letters.Charge c.args.id me) c.taken_by-number.result
    (charge_needs trade me journal c.args.id row.row row.taken ∙ ap Some row.entry)
    _ (c.in_err-entry.ensures.changed tells stands))

pub returns-in-Ok-clause-found : goal.returns-in-Ok-clause-found
returns-in-Ok-clause-found g c = λ tells stands.
    let trade = world_at c.args.house.now in
    let me = c.args.house.now.me in
    let journal = c.args.chronicle.now.entries in
    let row = taken_at trade me journal c.args.shelf.now c.requires.is
    (c.requires.agree.holds.is_half trade c.a_house_is_a_trade.ensures.of) c.args.id c.taken_by-number.result
    c.requires.taken c.taken_by-number.ensures in
    c.some_finds.ensures.found
    ∙ found_there trade me journal c.args.id row.row row.taken (g.J.Judge.patterns c.args.screens.now)
    c.in-Ok.original.now
    (c.in-Ok.ensures.taken me journal row.row
    (ap (λ (n : ℕ). slice_get journal n) row.entry ∙ c.in_ok-entry.ensures.entry tells stands))

pub returns-in-Ok-clause-given : goal.returns-in-Ok-clause-given
returns-in-Ok-clause-given g c =
    let trade = world_at c.args.house.now in
    let me = c.args.house.now.me in
    let journal = c.args.chronicle.now.entries in
    let row = taken_at trade me journal c.args.shelf.now c.requires.is
    (c.requires.agree.holds.is_half trade c.a_house_is_a_trade.ensures.of) c.args.id c.taken_by-number.result
    c.requires.taken c.taken_by-number.ensures in
    record {
      number = c.taken_by-number.result;
      needs = charge_needs trade me journal c.args.id row.row row.taken ∙ ap Some row.entry;
      entry = c.in_ok-entry.entry;
      given = record {
        there = λ stood. c.in_ok-entry.ensures.entry stood.0 stood.1;
        written = c.in_ok-entry.ensures.written;
      };
      original = c.in-Ok.original.now;
      holds = c.in-Ok.ensures.holds;
      is = c.some_finds.ensures.found;
    }

pub returns-clause-changed : goal.returns-clause-changed
returns-clause-changed g c = λ tells stands.
    let trade = world_at c.args.house.now in
    let me = c.args.house.now.me in
    let journal = c.args.chronicle.now.entries in
    let row = taken_at trade me journal c.args.shelf.now c.requires.is
    (c.requires.agree.holds.is_half trade c.a_house_is_a_trade.ensures.of) c.args.id c.taken_by-number.result
    c.requires.taken c.taken_by-number.ensures in
    rw c.given_up.ensures.fault
    (changed_by (IsNotOf trade me journal (letters.Charge c.args.id me)) c.taken_by-number.result c.in-Err.fault (λ is.
    other_letter trade me journal (letters.Charge c.args.id me) c.taken_by-number.result
    (charge_needs trade me journal c.args.id row.row row.taken ∙ ap Some row.entry)
    c.in_ok-entry.entry (c.in_ok-entry.ensures.entry tells stands)
    (λ serves.
    let holds = charge_holds trade me journal c.args.id row.row row.taken c.in_ok-entry.entry serves in
    c.in-Err.ensures.changed (ap (λ fault. Err fault) is) holds.0 holds.1)))

pub returns-clause-reads : goal.returns-clause-reads
returns-clause-reads g c =
    rw c.given_up.ensures.fault
    (given_up_over {X = Entry} Bool c.args.chronicle.now c.read.new.chronicle c.given_up.new.chronicle
    c.in_ok-entry.entry c.taken_by-number.result c.in-Err.fault c.in_ok-entry.ensures.reads c.given_up.ensures.over)

pub returns-clause-carries : goal.returns-clause-carries
returns-clause-carries g c = λ tells.
    carries_and_then g.D.Disk.sight NothingMay c.args.chronicle.now c.read.new.chronicle c.given_up.new.chronicle
    (c.in_ok-entry.ensures.carries tells) (c.given_up.ensures.carries tells)

pub returns-clause-later : goal.returns-clause-later
returns-clause-later g c =
    let first = c.in_ok-entry.ensures.later in
    let second = gives_count g.D.Counted.faults c.read.new.chronicle c.given_up.new.chronicle c.in-Err.fault
    c.given_up.ensures.over in
    omega (arith, first, second)
