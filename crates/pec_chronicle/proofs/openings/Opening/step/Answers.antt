use Rattle.std.proofs.Common.{◌≡◌, ◌+◌, ◌∷◌, [], length, map, refl, sym, ap, subst, arith, rules, ◌∙◌, List, length-append}
use Rattle.std.specs.List.{All}
use Rattle.std.proofs.lemmas.List.{length-map, map-append}
use Rattle.std.proofs.lemmas.List.Elements.{All-push}
use Rattle.std.proofs.lemmas.Option.{slice_get_within}
use Rattle.pec_journal.specs.JournalFile.{framing, front}
use Rattle.pec_journal.specs.JournalState.{JournalState}
use Rattle.pec_types.specs.Bytes.{Bytes}
use Rattle.pec_records.specs.declared.entries.Entry.{Entry}
use Rattle.pec_records.specs.Entry.{CanBeWritten, entry_text}
use Rattle.pec_chronicle.specs.Carrying.{with_entry}
use Rattle.pec_chronicle.proofs.ReadingLemmas.{ends_behind, next_stands, next_text, next_within, place_is, reads_on, stops_at}
use Rattle.pec_chronicle.proofs.openings.Opening.step.Goals as goal

pub returns-in_err-encoded-clause-bad_entry : goal.returns-in_err-encoded-clause-bad_entry
returns-in_err-encoded-clause-bad_entry g c tells texts so_far number is =
    let so = rw (← c.self.view_is) at so_far in
    let there = rw (← c.self.view_is) at c.requires in
    let read = c.self.inside.history.items in
    let next = next_text (map entry_text read) so.rest texts c.self.inside.places.items (length read) c.args.place so.is so.places (sym (length-map read entry_text)) there in
    let stands = next_stands (map entry_text read) so.rest texts c.args.place so.is next in
    let bad = c.in_err-encoded.ensures.bad_entry tells texts next.text so.keeps.file stands number (search rules) in
    let count : number ≡ length read = omega (arith, bad.0, c.self.invariant.counted) in
    rw (← c.self.view_is) (stops_at g.D.Disk.sight _ texts c.args.place number so next count bad.1)

pub returns-clause-bad_entry : goal.returns-clause-bad_entry
returns-clause-bad_entry g c tells texts so_far number is =
    let so = rw (← c.self.view_is) at so_far in
    let there = rw (← c.self.view_is) at c.requires in
    let read = c.self.inside.history.items in
    let entry = c.in_ok-encoded.entry in
    let next = next_text (map entry_text read) so.rest texts c.self.inside.places.items (length read) c.args.place so.is so.places (sym (length-map read entry_text)) there in
    let stands = next_stands (map entry_text read) so.rest texts c.args.place so.is next in
    let is_entry = c.in_ok-encoded.ensures.is tells texts next.text so.keeps.file stands in
    let text : c.bytes.result.now ≡ entry_text entry = c.bytes.ensures.text ∙ ap entry_text c.in_ok-encoded.ensures.same in
    let ends : c.end.result ≡ length (front texts) =
    c.end.ensures ∙ ap (λ (j : JournalState g.row.D.Denot). j.end) c.read_entry.ensures.journal ∙ so.keeps.ends in
    absurd (c.in-None.ensures.none refl
    (next.place_is
    ∙ ap (λ (t : Bytes). record { at = length (front (map entry_text read)) + framing; length = length t }) is_entry.1
    ∙ sym (place_is c.self.inside.behind c.bytes.result.now read entry c.self.invariant.ends text))
    (omega (
      arith,
      next_within (map entry_text read) so.rest texts c.args.place c.end.result so.is ends next,
      c.self.invariant.ends,
      ap length is_entry.1,
      ap length text,
    )))

pub returns-in-Some-clause-reads : goal.returns-in-Some-clause-reads
returns-in-Some-clause-reads g c tells texts so_far =
    let so = rw (← c.self.view_is) at so_far in
    let there = rw (← c.self.view_is) at c.requires in
    let read = c.self.inside.history.items in
    let next = next_text (map entry_text read) so.rest texts c.self.inside.places.items (length read) c.args.place so.is so.places (sym (length-map read entry_text)) there in
    let stands = next_stands (map entry_text read) so.rest texts c.args.place so.is next in
    let is = c.in_ok-encoded.ensures.is tells texts next.text so.keeps.file stands in
    let more : c.and-self-inside.result.items ≡ with_entry read c.in_ok-encoded.entry =
    c.and-self-inside.ensures ∙ ap (λ (e : Entry). with_entry read e) c.in_ok-encoded.ensures.same in
    reads_on g.D.Disk.sight _ _ _ _ _ texts c.args.place c.in_ok-encoded.entry (ap (λ (j : JournalState g.row.D.Denot). j.end) c.read_entry.ensures.journal)
    refl more (c.read_entry.ensures.rests tells) so next is

pub returns-in-Some-clause-place : goal.returns-in-Some-clause-place
returns-in-Some-clause-place g c =
    rw (← c.self.view_is) (c.in-Some.ensures.some.0
    ∙ place_is c.self.inside.behind c.bytes.result.now c.self.inside.history.items c.in_ok-encoded.entry c.self.invariant.ends
    (c.bytes.ensures.text ∙ ap entry_text c.in_ok-encoded.ensures.same))

pub invariant_of-self-in-Some : goal.invariant_of-self-in-Some
invariant_of-self-in-Some g c =
    let there = rw (← c.self.view_is) at c.requires in
    let read = c.self.inside.history.items in
    let entry = c.in_ok-encoded.entry in
    let more : c.and-self-inside.result.items ≡ with_entry read entry =
    c.and-self-inside.ensures ∙ ap (λ (e : Entry). with_entry read e) c.in_ok-encoded.ensures.same in
    let text : c.bytes.result.now ≡ entry_text entry = c.bytes.ensures.text ∙ ap entry_text c.in_ok-encoded.ensures.same in
    let after : length (front (map entry_text c.and-self-inside.result.items)) ≡ length (front (map entry_text read)) + (5 + length (entry_text entry)) =
    ap (λ (l : List Entry). length (front (map entry_text l))) more
    ∙ ap (λ (texts : List Bytes). length (front texts)) (map-append entry_text read (entry ∷ []))
    ∙ ends_behind (map entry_text read) (entry_text entry) in
    record {
      ready = ap (λ (j : JournalState g.row.D.Denot). j.spent) c.read_entry.ensures.journal ∙ c.self.invariant.ready;
      written = subst (λ (l : List Entry). All CanBeWritten l) (sym more) (All-push CanBeWritten read entry c.self.invariant.written c.in_ok-encoded.ensures.can);
      counted = omega (arith, c.self.invariant.counted, ap length more, length-append read (entry ∷ []));
      within = omega (arith, c.self.invariant.counted, slice_get_within c.self.inside.places.items (length read) c.args.place there, c.self.inside.places.ok.0);
      ends = omega (arith, after, c.in-Some.ensures.some.1, c.self.invariant.ends, ap length text);
    }
