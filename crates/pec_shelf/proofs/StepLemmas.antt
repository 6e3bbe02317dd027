-- What is answered on an entry by the directory's own trade is so for each trade of the directory.
use Rattle.std.proofs.Common.{◌≡◌, ◌↔◌, ℕ, ◌+◌, ◌^◌, ◌<◌, ◌≤◌, arith, Bool, true, false, List, length, map, slice_get, refl, sym, ap, subst, ◌∙◌, Option, None, Some, Result, Ok, IfOk, IsOk, IsTrue}
use Rattle.std.specs.Option.{option_and_then}
use Rattle.std.proofs.lemmas.Bool.{false≢true}
use Rattle.pec_types.specs.Bytes.{Bytes, Path}
use Rattle.pec_types.specs.declared.messages.Facts.{Facts}
use Rattle.pec_types.specs.declared.places.Place.{Place}
use Rattle.pec_types.specs.declared.messages.TheConstants.{MESSAGES}
use Rattle.pec_records.specs.declared.entries.Entry.{Entry}
use Rattle.pec_records.specs.declared.entries.Entry.TheVariants as entries
use Rattle.pec_directory.specs.Directory.{Kept}
use Rattle.pec_ledger.specs.Half.{Half, Message}
use Rattle.pec_ledger.specs.Lookups.{Accepted, accepted_at, accepted_of}
use Rattle.pec_ledger.specs.OfDirectory.{IsOf, facts_in}
use Rattle.pec_ledger.specs.Own.{Own}
use Rattle.pec_ledger.specs.Steps.{messages_by, moment_of, size_of, version_by}
use Rattle.pec_ledger.specs.Trade.{Trade}
use Rattle.pec_types.specs.Looks.{AtLeast, AtMost}
use Rattle.pec_types.specs.Passed.{passing}
use Rattle.pec_shelf.specs.Drafts.{facts_read, read_in}
use Rattle.pec_shelf.specs.Looked.{Looked, LookedSo}
use Rattle.pec_shelf.specs.Prepared.{AreRows, AreWithin, CameFrom, Drafts, HasRoomFor, IsStep, IsStepOf, Prepared, prepared}
use Rattle.pec_shelf.specs.Seen.{HoldsAs, IsFor, Seen, certified_by}
use Rattle.pec_shelf.specs.Settled.{settled}
use Rattle.pec_shelf.specs.declared.drafts.Read.TheVariants as reads
use Rattle.pec_shelf.proofs.AcceptanceLemmas.{seen_are}
use Rattle.pec_shelf.proofs.TradeLemmas.{from_settled, into_settled}

-- what is answered on an entry is so for the same entry
pub at_entry : {E : Type 0} (trade : Trade) (me : ℕ) (half : Half) (entry other : Entry) (answer : Result Prepared E) → entry ≡ other
    → IfOk answer (AreRows trade me half other) → IfOk answer (AreRows trade me half entry)
at_entry trade me half entry other answer is rows = subst (λ (e : Entry). IfOk answer (AreRows trade me half e)) (sym is) rows

pub own_at : (trade : Trade) (me : ℕ) (half : Half) (entry other : Entry) (own : Bool) → entry ≡ other → (IsTrue own ↔ Own trade me half other)
    → IsTrue own ↔ Own trade me half entry
own_at trade me half entry other own is decides = subst (λ (e : Entry). IsTrue own ↔ Own trade me half e) (sym is) decides

same_named : (a b : Path) → reads.Named a ≡ reads.Named b → a ≡ b
same_named a b e = cc

-- what was read of an envelope is what it names
pub named_is : (entry other : Entry) (named all : Path) → entry ≡ other → read_in entry ≡ reads.Named named → read_in other ≡ reads.Named all → named ≡ all
named_is entry other named all is read found = same_named named all (sym read ∙ ap read_in is ∙ found)

same_facts : (a b : Facts) → reads.Facts a ≡ reads.Facts b → a ≡ b
same_facts a b e = cc

-- and what was read of an accepted message are its facts
pub facts_are : (entry : Entry) (moment : ℕ) (sender message : Bytes) (facts : Facts) → entry ≡ entries.Accepted moment sender message → read_in entry ≡ reads.Facts facts
    → facts_in message ≡ Some facts
facts_are entry moment sender message facts is read = by (facts_in message) refl (sym (ap read_in is) ∙ read)
  where
    by : (o : Option Facts) → facts_in message ≡ o → facts_read o ≡ reads.Facts facts → facts_in message ≡ Some facts
    by None f e = cc
    by (Some found) f e = f ∙ ap Some (same_facts found facts e)

figures : (ready : Prepared) (moment version size : ℕ) → moment ≡ ready.adds.moment → version ≡ ready.adds.version → size ≡ ready.adds.size
    → record ready { adds = record ready.adds { moment = moment; version = version; size = size } } ≡ ready
figures ready moment version size m v s = rw (m, v, s) refl

pub ready_is : (kept : List Kept) (trade : Trade) (me : ℕ) (half : Half) (entry : Entry) (rows ready : Prepared) (moment version size : ℕ) (place : Place) → IsOf kept trade
    → AreRows (settled kept trade) me half entry rows
    → ready ≡ record rows { adds = record rows.adds { moment = moment; version = version; size = size }; place = place }
    → moment ≡ moment_of entry → version ≡ version_by entry → size ≡ size_of entry → ready ≡ prepared trade me half entry place
ready_is kept trade me half entry rows ready moment version size place of are is m v s =
    let own = from_settled kept trade (λ (t : Trade). AreRows t me half entry rows) of are in
    is ∙ ap (λ (r : Prepared). record r { adds = record r.adds { moment = moment; version = version; size = size }; place = place }) own
    ∙ figures (prepared trade me half entry place) moment version size m v s

-- an entry is drafted where it is one's own
pub drafts_own : (kept : List Kept) (trade : Trade) (me : ℕ) (half : Half) (entry draft : Entry) (own : Bool) → IsOf kept trade
    → (IsTrue own ↔ Own (settled kept trade) me half draft) → own ≡ true → draft ≡ entry → half.last ≤ moment_of entry → Drafts trade me half entry (Ok draft)
drafts_own kept trade me half entry draft own of decides yes_ is late = (
  record {
    own = subst (λ (e : Entry). Own trade me half e) is (from_settled kept trade (λ (t : Trade). Own t me half draft) of (decides.0 yes_));
    in_time = late;
  },
  is,
)

-- and not where it isn't
pub drafts_none : (kept : List Kept) (trade : Trade) (me : ℕ) (half : Half) (entry draft : Entry) (own : Bool) → IsOf kept trade
    → (IsTrue own ↔ Own (settled kept trade) me half draft) → own ≡ false → draft ≡ entry → IsStep trade me half entry → ⊥
drafts_none kept trade me half entry draft own of decides not_own is step =
    false≢true
    (sym not_own ∙ decides.1 (into_settled kept trade (λ (t : Trade). Own t me half draft) of (subst (λ (e : Entry). Own trade me half e) (sym is) step.own)))

none_some : {X : Type 0} (x : X) → None ≡ Some x → ⊥
none_some x e = cc

-- there are still not too many messages behind an entry
pub few_after : (trade : Trade) (me : ℕ) (half : Half) (entry : Entry) → Own trade me half entry → length half.messages ≤ MESSAGES
    → length half.messages + length (messages_by trade me half entry) ≤ MESSAGES
few_after trade me half (entries.Start number digest) own few = omega (arith, few)
few_after trade me half (entries.Accepted moment sender message) own few = let less = own.0 in omega (arith, less)
few_after trade me half (entries.NotAccepted moment sender cause path message) own few = let less = own.0 in omega (arith, less)
few_after trade me half (entries.Took moment id message) own few = omega (arith, few)
few_after trade me half (entries.Decided moment id recipient decision) own few = omega (arith, few)
few_after trade me half (entries.Charged moment id by) own few = omega (arith, few)
few_after trade me half (entries.Learned moment id recipient decision decided message) own few = omega (arith, few)
few_after trade me half (entries.Acked moment id recipient) own few = omega (arith, few)
few_after trade me half (entries.Ticked moment) own few = omega (arith, few)
few_after trade me half (entries.Anomaly moment accounts message) own few = omega (arith, few)
few_after trade me half (entries.StartTwo number digest) own few = omega (arith, few)
few_after trade me half (entries.Upgraded moment) own few = omega (arith, few)
few_after trade me half (entries.Archived moment account place) own few = omega (arith, few)

-- ---- a shelf of which acceptances were looked up

-- what is prepared is so for the shelf as it was
pub prepared_still : (trade : Trade) (old now : Seen) (entry : Entry) (place : Place) (ready : Prepared) → now ≡ record old { looks = now.looks }
    → ready ≡ prepared trade now.me now.half entry place → ready ≡ prepared trade old.me old.half entry place
prepared_still trade old now entry place ready same is =
    subst (λ (m : ℕ). ready ≡ prepared trade m old.half entry place) (ap (λ (s : Seen). s.me) same)
    (subst (λ (h : Half). ready ≡ prepared trade now.me h entry place) (ap (λ (s : Seen). s.half) same) is)

-- an entry that may follow still may
pub follows_still : (kept : List Kept) (old now : Seen) (entry : Entry) → now ≡ record old { looks = now.looks } → IsStepOf kept old entry → IsStepOf kept now entry
follows_still kept old now entry same may = record {
  trade = may.trade;
  of = may.of;
  step = subst (λ (h : Half). IsStep may.trade now.me h entry) (sym (ap (λ (s : Seen). s.half) same))
      (subst (λ (m : ℕ). IsStep may.trade m old.half entry) (sym (ap (λ (s : Seen). s.me) same)) may.step);
}

-- what was prepared came from the shelf, in which only room was made
pub came_from : (kept : List Kept) (old new : Seen) (entry : Entry) (place : Place) (ready : Prepared) → HoldsAs old new
    → ((trade : Trade) → IsOf kept trade → IsFor trade old) → IsStepOf kept old entry
    → ((trade : Trade) → IsOf kept trade → ready ≡ prepared trade old.me old.half entry place) → CameFrom new ready
came_from kept old new entry place ready same homes may all =
    let is = all may.trade may.of in
    record {
      trade = may.trade;
      entry = entry;
      for = same.2 ∙ homes may.trade may.of ∙ ap (λ (h : Half). map (certified_by may.trade) h.messages) (sym same.1);
      step = subst (λ (h : Half). IsStep may.trade new.me h entry) (sym same.1)
          (subst (λ (m : ℕ). IsStep may.trade m old.half entry) (sym same.0) may.step);
      is = subst (λ (p : Place). ready ≡ prepared may.trade new.me new.half entry p) (sym (ap (λ (p : Prepared). p.place) is))
          (subst (λ (h : Half). ready ≡ prepared may.trade new.me h entry place) (sym same.1)
          (subst (λ (m : ℕ). ready ≡ prepared may.trade m old.half entry place) (sym same.0) is));
    }

-- the message of a number that was accepted is there
pub accepted_there : (half : Half) (n : ℕ) (message : Accepted) → accepted_at half n ≡ Some message → (submitted : Message) × (slice_get half.messages n ≡ Some submitted)
accepted_there half n message e = by (slice_get half.messages n) refl e
  where
    by : (o : Option Message) → slice_get half.messages n ≡ o → option_and_then accepted_of o ≡ Some message
        → (submitted : Message) × (slice_get half.messages n ≡ Some submitted)
    by None f e = absurd (none_some message e)
    by (Some m) f e = (m, f)

-- the look-ups over what a shelf keeps are those over its half
pub looked_is : {X Y : Type 0} (trade : Trade) (shelf : Seen) (entry : Entry) (looks steps later : ℕ) (result : Result X Y) → IsFor trade shelf
    → LookedSo shelf entry looks steps later → (IsOk result → shelf.half.last ≤ moment_of entry) → Looked trade shelf entry looks steps later result
looked_is trade shelf (entries.Start provider digest) looks steps later result for so through = so
looked_is trade shelf (entries.Accepted moment sender message) looks steps later result for so through = so
looked_is trade shelf (entries.NotAccepted moment sender cause path message) looks steps later result for so through = so
looked_is trade shelf (entries.Took moment id message) looks steps later result for so through = so
looked_is trade shelf (entries.Decided moment id recipient decision) looks steps later result for so through = so
looked_is trade shelf (entries.Charged moment id by) looks steps later result for so through = so
looked_is trade shelf (entries.Learned moment id recipient decision decided message) looks steps later result for so through = so
looked_is trade shelf (entries.Acked moment id recipient) looks steps later result for so through = so
looked_is trade shelf (entries.Ticked moment) looks steps later result for so through =
    let same = seen_are trade shelf for in
    record {
      alike = so.alike;
      most = subst (λ (ms : List ℕ). AtMost (passing shelf.ticked moment ms) steps later) same so.most;
      least = λ ok. subst (λ (ms : List ℕ). AtLeast (passing shelf.ticked moment ms) steps later) same (so.least (through ok));
    }
looked_is trade shelf (entries.Anomaly moment accounts message) looks steps later result for so through = so
looked_is trade shelf (entries.StartTwo provider digest) looks steps later result for so through = so
looked_is trade shelf (entries.Upgraded moment) looks steps later result for so through = so
looked_is trade shelf (entries.Archived moment account place) looks steps later result for so through = so

-- only look-ups were made
pub holds_looked : (old now : Seen) → now ≡ record old { looks = now.looks } → HoldsAs old now
holds_looked old now same =
    (ap (λ (s : Seen). s.me) same, ap (λ (s : Seen). s.half) same, ap (λ (s : Seen). s.certified) same, ap (λ (s : Seen). s.ticked) same, ap (λ (s : Seen). s.places) same)

-- and then room
pub holds_roomy : (old now new : Seen) → now ≡ record old { looks = now.looks } → new ≡ record now { room = new.room } → HoldsAs old new
holds_roomy old now new same more = (
  ap (λ (s : Seen). s.me) more ∙ ap (λ (s : Seen). s.me) same,
  ap (λ (s : Seen). s.half) more ∙ ap (λ (s : Seen). s.half) same,
  ap (λ (s : Seen). s.certified) more ∙ ap (λ (s : Seen). s.certified) same,
  ap (λ (s : Seen). s.ticked) more ∙ ap (λ (s : Seen). s.ticked) same,
  ap (λ (s : Seen). s.places) more ∙ ap (λ (s : Seen). s.places) same,
)

-- there is room for what was prepared
pub room_for : (now new : Seen) (ready : Prepared) (rows : ℕ) → new ≡ record now { room = new.room } → AreWithin ready rows → rows ≤ new.room
    → now.half.entries + 1 < 2 ^ 64 → now.half.end + ready.adds.size < 2 ^ 64 → HasRoomFor new ready
room_for now new ready rows more within room entries bytes = record {
  lists = record {
    pairs = omega (arith, within.pairs);
    messages = omega (arith, within.messages);
    certified = omega (arith, within.certified);
    charged = omega (arith, within.charged);
    marks = omega (arith, within.marks);
    known = omega (arith, within.known);
    taken = omega (arith, within.taken);
    decided = omega (arith, within.decided);
    acked = omega (arith, within.acked);
    items = omega (arith, within.items);
    moves = omega (arith, within.moves);
    place = omega (arith, within.place);
  };
  entries = omega (arith, ap (λ (s : Seen). s.half.entries) more);
  bytes = omega (arith, ap (λ (s : Seen). s.half.end) more);
}
