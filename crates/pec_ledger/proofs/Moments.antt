-- In journals that are Fit each row's moment is below END_OF_TIME, since it is an entry's.
use Rattle.std.proofs.Common.{◌≡◌, ℕ, ◌<◌, [], ◌∷◌, map, subst, Some}
use Rattle.std.specs.Prelude.{All, Contains}
use Rattle.std.proofs.lemmas.List.Elements.{All-append, All-cons, All-contains, All-contains_itself, All-map, All-nil, All-weaker}
use Rattle.std.proofs.lemmas.Option.{none-some, same_Some}
use Rattle.pec_types.specs.Bytes.{Bytes}
use Rattle.pec_types.specs.Message.{Id}
use Rattle.pec_types.specs.declared.limits.Due.{Due}
use Rattle.pec_types.specs.declared.limits.Due.TheVariants as dues
use Rattle.pec_types.specs.declared.messages.Decision.{Decision}
use Rattle.pec_types.specs.declared.messages.Decision.TheVariants.{Placed, Refused}
use Rattle.pec_types.specs.declared.moments.TheConstants.{END_OF_TIME}
use Rattle.pec_records.specs.declared.entries.Entry.{Entry}
use Rattle.pec_records.specs.declared.entries.Entry.TheVariants as entries
use Rattle.pec_ledger.specs.Half.{Fate, Half, Item, Known, Mark, Message, Posted, Taken, EnvelopeItem, ReceiptItem, AnomalyItem, empty}
use Rattle.pec_ledger.specs.Ledger.{Fit, Journals, ledger}
use Rattle.pec_ledger.specs.Lookups.{decided_of, known_of, taken_of}
use Rattle.pec_ledger.specs.Marks.{marked, marks_from}
use Rattle.pec_ledger.specs.Pairs.{Pair, same_id, same_pair}
use Rattle.pec_ledger.specs.Steps.{anomaly_by, decided_by, items_by, known_by, messages_by, moment_of, notice_by, placed_by, step, taken_by}
use Rattle.pec_ledger.specs.Trade.{Trade}
use Rattle.pec_ledger.proofs.GuaranteeLemmas.{holds_in_all}
use Rattle.pec_ledger.proofs.ListLemmas.{found_there}
use Rattle.pec_ledger.proofs.MarkLemmas.{Marked, marked_from}

-- ---- rows

abbrev MessageInRange : Message → Type 0
MessageInRange row = row.moment < END_OF_TIME

abbrev KnownInRange : Known → Type 0
KnownInRange row = row.moment < END_OF_TIME

abbrev TakenInRange : Taken → Type 0
TakenInRange row = row.moment < END_OF_TIME

abbrev FateInRange : Fate → Type 0
FateInRange fate = fate.moment < END_OF_TIME

-- an envelope has its moment from its message
abbrev pub ItemInRange : Item → Type 0
ItemInRange (EnvelopeItem id) = Unit {0}
ItemInRange (ReceiptItem kind id recipient moment) = moment < END_OF_TIME
ItemInRange (AnomalyItem moment) = moment < END_OF_TIME

abbrev PostedInRange : Posted → Type 0
PostedInRange posted = ItemInRange posted.item

record InRange (h : Half) : Type 0 where
  messages : All MessageInRange h.messages
  known : All KnownInRange h.known
  taken : All TakenInRange h.taken
  decided : All FateInRange h.decided
  items : All PostedInRange h.items

-- ---- what an entry adds has its moment

just_one : {X : Type 0} (P : X → Type 0) (x : X) → P x → All P (x ∷ [])
just_one P x is = All-cons P x [] is (All-nil P)

known_in : (e : Entry) → moment_of e < END_OF_TIME → All KnownInRange (known_by e)
known_in (entries.Learned moment id recipient decision decided message) l = just_one KnownInRange _ l
known_in (entries.Start number digest) l = All-nil KnownInRange
known_in e l = All-nil KnownInRange

fates_in : (e : Entry) → moment_of e < END_OF_TIME → All FateInRange (decided_by e)
fates_in (entries.Decided moment id recipient decision) l = just_one FateInRange _ l
fates_in (entries.Start number digest) l = All-nil FateInRange
fates_in e l = All-nil FateInRange

marked_at : (pair : Pair) (now : ℕ) (due : Due) (mark : Mark) → marked pair now due ≡ Some mark → now < END_OF_TIME → mark.moment < END_OF_TIME
marked_at pair now dues.Nothing mark e l = absurd (none-some mark e)
marked_at pair now dues.Warning mark e l = subst (λ (m : Mark). m.moment < END_OF_TIME) (same_Some _ mark e) l
marked_at pair now dues.Notice mark e l = subst (λ (m : Mark). m.moment < END_OF_TIME) (same_Some _ mark e) l
marked_at pair now dues.LateNotice mark e l = subst (λ (m : Mark). m.moment < END_OF_TIME) (same_Some _ mark e) l

placed_in : (h : Half) (id : Id) (recipient : Bytes) (decision : Decision) → All PostedInRange (placed_by h id recipient decision)
placed_in h id recipient Placed = just_one PostedInRange _ tt
placed_in h id recipient (Refused refusal) = All-nil PostedInRange

module _ (trade : Trade) (p : ℕ) where
  messages_in : (h : Half) (e : Entry) → moment_of e < END_OF_TIME → All MessageInRange (messages_by trade p h e)
  messages_in h (entries.Accepted moment sender message) l = just_one MessageInRange _ l
  messages_in h (entries.NotAccepted moment sender cause path message) l = just_one MessageInRange _ l
  messages_in h (entries.Start number digest) l = All-nil MessageInRange
  messages_in h e l = All-nil MessageInRange

  taken_in : (h : Half) (e : Entry) → moment_of e < END_OF_TIME → All TakenInRange (taken_by trade p h e)
  taken_in h (entries.Took moment id message) l = just_one TakenInRange _ l
  taken_in h (entries.Start number digest) l = All-nil TakenInRange
  taken_in h e l = All-nil TakenInRange

  notices_in : (h : Half) (now : ℕ) → now < END_OF_TIME → All PostedInRange (map (notice_by h) (marks_from trade p h now 0 h.messages))
  notices_in h now l =
      All-map PostedInRange (notice_by h) (marks_from trade p h now 0 h.messages)
      (All-weaker (Contains (marks_from trade p h now 0 h.messages)) (λ (mark : Mark). mark.moment < END_OF_TIME)
      (λ mark c. of_mark mark (marked_from trade p h now 0 h.messages mark c)) (marks_from trade p h now 0 h.messages)
      (All-contains_itself (marks_from trade p h now 0 h.messages)))
    where
      of_mark : (mark : Mark) → Marked trade p h now 0 h.messages mark → mark.moment < END_OF_TIME
      of_mark mark is = marked_at _ now _ mark is.due l

  items_in : (h : Half) (e : Entry) → moment_of e < END_OF_TIME → All PostedInRange (items_by trade p h e)
  items_in h (entries.Accepted moment sender message) l = just_one PostedInRange _ l
  items_in h (entries.NotAccepted moment sender cause path message) l = just_one PostedInRange _ l
  items_in h (entries.Decided moment id recipient decision) l = placed_in h id recipient decision
  items_in h (entries.Learned moment id recipient decision decided message) l = just_one PostedInRange _ l
  items_in h (entries.Ticked moment) l = notices_in h moment l
  items_in h (entries.Anomaly moment accounts message) l = All-map PostedInRange (anomaly_by h moment) accounts (λ i d in_list. l)
  items_in h (entries.Start number digest) l = All-nil PostedInRange
  items_in h e l = All-nil PostedInRange

  in_range_step : (h : Half) (e : Entry) → InRange h → moment_of e < END_OF_TIME → InRange (step trade p h e)
  unfolding step
  in_range_step h e is l = record {
    messages = All-append MessageInRange h.messages (messages_by trade p h e) is.messages (messages_in h e l);
    known = All-append KnownInRange h.known (known_by e) is.known (known_in e l);
    taken = All-append TakenInRange h.taken (taken_by trade p h e) is.taken (taken_in h e l);
    decided = All-append FateInRange h.decided (decided_by e) is.decided (fates_in e l);
    items = All-append PostedInRange h.items (items_by trade p h e) is.items (items_in h e l);
  }

nothing_yet : InRange empty
nothing_yet = record {
  messages = All-nil MessageInRange;
  known = All-nil KnownInRange;
  taken = All-nil TakenInRange;
  decided = All-nil FateInRange;
  items = All-nil PostedInRange;
}

-- ---- in journals that are Fit

module _ (trade : Trade) (J : Journals) (fit : Fit trade J) where
  in_range : (p : ℕ) → InRange (ledger trade J p)
  in_range p = holds_in_all trade J fit p InRange nothing_yet (λ h e is meets. in_range_step trade p h e is meets.in_range)

  pub message_in_range : (p : ℕ) (row : Message) → Contains (ledger trade J p).messages row → row.moment < END_OF_TIME
  message_in_range p row c = All-contains MessageInRange (ledger trade J p).messages row (in_range p).messages c

  pub taken_in_range : (p : ℕ) (id : Id) (row : Taken) → taken_of (ledger trade J p) id ≡ Some row → row.moment < END_OF_TIME
  taken_in_range p id row e =
      All-contains TakenInRange (ledger trade J p).taken row (in_range p).taken
      (found_there (λ (t : Taken). same_id id t.id) (ledger trade J p).taken row e).0

  pub fate_in_range : (p : ℕ) (pair : Pair) (fate : Fate) → decided_of (ledger trade J p) pair ≡ Some fate → fate.moment < END_OF_TIME
  fate_in_range p pair fate e =
      All-contains FateInRange (ledger trade J p).decided fate (in_range p).decided
      (found_there (λ (f : Fate). same_pair pair f.pair) (ledger trade J p).decided fate e).0

  pub known_in_range : (p : ℕ) (pair : Pair) (row : Known) → known_of (ledger trade J p) pair ≡ Some row → row.moment < END_OF_TIME
  known_in_range p pair row e =
      All-contains KnownInRange (ledger trade J p).known row (in_range p).known
      (found_there (λ (k : Known). same_pair pair k.pair) (ledger trade J p).known row e).0

  pub item_in_range : (p : ℕ) (posted : Posted) → Contains (ledger trade J p).items posted → ItemInRange posted.item
  item_in_range p posted c = All-contains PostedInRange (ledger trade J p).items posted (in_range p).items c
