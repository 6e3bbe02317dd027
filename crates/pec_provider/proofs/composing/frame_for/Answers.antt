use Rattle.std.proofs.Common.{ℕ, Option, inl, inr, refl, sym, subst, ◌≡◌, None, Some, Err, arith, ap}
use Rattle.std.proofs.lemmas.Result.{err_from_is_err_and}
use Rattle.pec_types.specs.Bytes.{Bytes}
use Rattle.pec_records.specs.declared.entries.Entry.{Entry}
use Rattle.pec_chronicle.specs.Carrying.{NothingMay}
use Rattle.pec_chronicle.specs.CarryingLaws.{carries_and_then}
use Rattle.pec_plays.specs.Frames.{frame_of}
use Rattle.pec_outgoing.specs.Needs.{FramedOf, Serves, needed}
use Rattle.pec_reception.specs.OfTrades.{world_at}
use Rattle.pec_provider.specs.Reading.{IsNotOf}
use Rattle.pec_provider.proofs.ComposeLemmas.{changed_by, no_letter, other_letter, over_half}
use Rattle.pec_provider.proofs.ReadLemmas.{given_up_over, gives_count, reads_as}
use Rattle.pec_provider.proofs.composing.frame_for.Goals as goal

pub read-requires-clause-places : goal.read-requires-clause-places
read-requires-clause-places g c = c.requires.agree.holds.places

pub returns-in_default-clause-frame : goal.returns-in_default-clause-frame
returns-in_default-clause-frame g c = λ tells stands.
    let trade = world_at c.args.house.now in
    let of = c.a_house_is_a_trade.ensures.of in
    sym (subst (λ (n : ℕ). frame_of trade n c.args.chronicle.now.entries c.args.letter.now ≡ None) c.requires.is
    (c.in_default.ensures.none refl trade c.args.chronicle.now.entries
    (record { half_is = c.requires.agree.holds.is_half trade of; homes = c.requires.agree.holds.homes trade of })))

pub returns-in_err-entry-clause-reads : goal.returns-in_err-entry-clause-reads
returns-in_err-entry-clause-reads g c =
    let p = err_from_is_err_and c.from_residual.result c.from_residual.ensures.1 in
    rw (p.1, p.2) (reads_as Entry (Option Bytes) c.args.chronicle.now c.read.new.chronicle _ c.in_err-entry.ensures.reads)

pub returns-in-Ok-clause-frame : goal.returns-in-Ok-clause-frame
returns-in-Ok-clause-frame g c = λ tells stands.
    let trade = world_at c.args.house.now in
    let of = c.a_house_is_a_trade.ensures.of in
    subst (λ (n : ℕ). c.in-Ok.frame ≡ frame_of trade n c.args.chronicle.now.entries c.args.letter.now) c.requires.is
    (c.in-Ok.ensures.frame c.args.chronicle.now.entries c.in-Some.number
    (record { half_is = c.requires.agree.holds.is_half trade of; homes = c.requires.agree.holds.homes trade of })
    (sym c.in-Some.ensures.number) (c.in_ok-entry.ensures.entry tells stands))

pub returns-in_err-entry-clause-changed : goal.returns-in_err-entry-clause-changed
returns-in_err-entry-clause-changed g c = λ tells stands.
    let p = err_from_is_err_and c.from_residual.result c.from_residual.ensures.1 in
    let trade = world_at c.args.house.now in
    let journal = c.args.chronicle.now.entries in
    rw (p.1, p.2) (no_letter trade c.args.house.now.me journal c.args.letter.now c.in-Some.number
    (over_half (λ n h. needed n h c.args.letter.now ≡ Some c.in-Some.number) trade c.args.shelf.now
    c.args.house.now.me journal c.requires.is
    (c.requires.agree.holds.is_half trade c.a_house_is_a_trade.ensures.of) (sym c.in-Some.ensures.number))
    _ (c.in_err-entry.ensures.changed tells stands))

pub returns-clause-changed : goal.returns-clause-changed
returns-clause-changed g c = λ tells stands.
    let trade = world_at c.args.house.now in
    let journal = c.args.chronicle.now.entries in
    let half_is = c.requires.agree.holds.is_half trade c.a_house_is_a_trade.ensures.of in
    rw c.given_up.ensures.fault
    (changed_by (IsNotOf trade c.args.house.now.me journal c.args.letter.now) c.in-Some.number c.in-Err.fault (λ is.
    other_letter trade c.args.house.now.me journal c.args.letter.now c.in-Some.number
    (over_half (λ n h. needed n h c.args.letter.now ≡ Some c.in-Some.number) trade c.args.shelf.now
    c.args.house.now.me journal c.requires.is half_is (sym c.in-Some.ensures.number))
    c.in_ok-entry.entry (c.in_ok-entry.ensures.entry tells stands)
    (over_half (λ n h. Serves trade n h c.args.letter.now c.in_ok-entry.entry → ⊥) trade c.args.shelf.now
    c.args.house.now.me journal c.requires.is half_is (c.in-Err.ensures.changed (ap (λ fault. Err fault) is)))))

pub returns-clause-reads : goal.returns-clause-reads
returns-clause-reads g c =
    rw c.given_up.ensures.fault
    (given_up_over {X = Entry} (Option Bytes) c.args.chronicle.now c.read.new.chronicle c.given_up.new.chronicle
    c.in_ok-entry.entry c.in-Some.number c.in-Err.fault c.in_ok-entry.ensures.reads c.given_up.ensures.over)

pub returns-clause-carries : goal.returns-clause-carries
returns-clause-carries g c = λ tells.
    carries_and_then g.D.Disk.sight NothingMay c.args.chronicle.now c.read.new.chronicle c.given_up.new.chronicle
    (c.in_ok-entry.ensures.carries tells) (c.given_up.ensures.carries tells)

pub returns-clause-later : goal.returns-clause-later
returns-clause-later g c =
    let first = c.in_ok-entry.ensures.later in
    let second = gives_count g.D.Counted.faults c.read.new.chronicle c.given_up.new.chronicle c.in-Err.fault
    c.given_up.ensures.over in
    omega (arith, first, second)

pub returns-in_default-clause-given : goal.returns-in_default-clause-given
returns-in_default-clause-given g c =
    let trade = world_at c.args.house.now in
    inl (
      over_half (λ n h. needed n h c.args.letter.now ≡ None) trade c.args.shelf.now c.args.house.now.me
          c.args.chronicle.now.entries c.requires.is
          (c.requires.agree.holds.is_half trade c.a_house_is_a_trade.ensures.of) (sym c.in_default.ensures.number),
      refl,
    )

pub returns-in-Ok-clause-given : goal.returns-in-Ok-clause-given
returns-in-Ok-clause-given g c =
    let trade = world_at c.args.house.now in
    let me = c.args.house.now.me in
    let journal = c.args.chronicle.now.entries in
    let half_is = c.requires.agree.holds.is_half trade c.a_house_is_a_trade.ensures.of in
    inr (record {
      number = c.in-Some.number;
      needs = over_half (λ n h. needed n h c.args.letter.now ≡ Some c.in-Some.number) trade c.args.shelf.now me journal
          c.requires.is half_is (sym c.in-Some.ensures.number);
      entry = c.in_ok-entry.entry;
      given = record {
        there = λ stood. c.in_ok-entry.ensures.entry stood.0 stood.1;
        written = c.in_ok-entry.ensures.written;
      };
      of = over_half (λ n h. FramedOf trade n h c.args.letter.now c.in_ok-entry.entry c.in-Ok.frame) trade
          c.args.shelf.now me journal c.requires.is half_is c.in-Ok.ensures.of;
    })
