-- What stands behind the answers that a turn owes: a message that was taken, or a pair whose outcome is known.
use Rattle.std.proofs.Common.{◌≡◌, ℕ, List, [], ◌∷◌, ◌++◌, Bool, true, Option, Some, None, fold, inl, inr, refl, ap, sym, subst, ◌∙◌}
use Rattle.std.specs.Prelude.{Contains, IsSome, is_some}
use Rattle.std.specs.List.{find}
use Rattle.std.specs.Option.{option_to_list}
use Rattle.std.proofs.lemmas.List.{append-nil, append_assoc}
use Rattle.std.proofs.lemmas.List.Elements.{Contains-append_cases, Contains-append_right}
use Rattle.std.proofs.lemmas.List.Sums.{fold-append}
use Rattle.pec_types.specs.Bytes.{Bytes}
use Rattle.pec_types.specs.Message.{Id}
use Rattle.pec_types.specs.declared.letters.Letter.{Letter}
use Rattle.pec_types.specs.declared.letters.Letter.TheVariants as letters
use Rattle.pec_types.specs.declared.messages.Decision.{Decision}
use Rattle.pec_records.specs.declared.entries.Entry.{Entry}
use Rattle.pec_records.specs.declared.entries.Entry.TheVariants as entries
use Rattle.pec_ledger.specs.Along.{GoesOnAs}
use Rattle.pec_ledger.specs.Half.{Half, Known, Taken, empty}
use Rattle.pec_ledger.specs.Lookups.{at_home, known_of, taken_of}
use Rattle.pec_ledger.specs.Pairs.{Pair, pair_of, same_id, same_pair}
use Rattle.pec_ledger.specs.Steps.{half, known_by, step, taken_by}
use Rattle.pec_ledger.specs.Trade.{Framed, Trade}
use Rattle.pec_plays.specs.Decisions.{Looks, decide, undecided}
use Rattle.pec_plays.specs.Reception.{arrive}
use Rattle.pec_plays.specs.ReceptionRows.{IsReceived, NewEnvelope, KnownEnvelope, NewCharge, KnownCharge, NewOutcome, KnownOutcome, NewAck, KnownAck, SomeRoom, NoRoom}
use Rattle.pec_plays.specs.Steps.{Step, journal_after}
use Rattle.pec_plays.specs.Turns.{decisions, entries_of, owed_of, plan}
use Rattle.pec_plays.proofs.ListLemmas.{contains_cases, contains_here, contains_none, found_stays, id_again, pair_again, some_found, what_is}
use Rattle.pec_plays.proofs.PlanLemmas.{half_one}
use Rattle.pec_plays.proofs.ReceptionLemmas.{no_frame, row_says}

abbrev pub IsBacked : ℕ → Half → Letter → Type 0
IsBacked p h (letters.Charge id by) = (by ≡ p) × IsSome (taken_of h id)
IsBacked p h (letters.Ack id recipient) = (id.provider ≡ p) × IsSome (known_of h (pair_of id recipient))
IsBacked p h (letters.Envelope id to) = ⊥
IsBacked p h (letters.Outcome id recipient) = ⊥

only_item : {X : Type 0} (y x : X) → Contains (y ∷ []) x → y ≡ x
only_item y x c =
    elim (contains_cases y [] x c) [
      | inl same ↦ same
      | inr there ↦ absurd (contains_none x there)
    ]

last_found : {X : Type 0} (test : X → Bool) (xs : List X) (x : X) → test x ≡ true → IsSome (find test (xs ++ x ∷ []))
last_found test xs x e =
    let found = some_found test (xs ++ x ∷ []) x (Contains-append_right xs (x ∷ []) x (contains_here x [])) e in ap is_some found.1

-- ---- rows stay

module _ (trade : Trade) (p : ℕ) where
  taken_on : (h : Half) (es : List Entry) → GoesOnAs h.taken (fold (step trade p) h es).taken
  unfolding step
  taken_on h [] = ([], sym (append-nil h.taken))
  taken_on h (e ∷ es) =
      let more = taken_on (step trade p h e) es
      in (taken_by trade p h e ++ more.0, more.1 ∙ append_assoc h.taken (taken_by trade p h e) more.0)

  known_on : (h : Half) (es : List Entry) → GoesOnAs h.known (fold (step trade p) h es).known
  unfolding step
  known_on h [] = ([], sym (append-nil h.known))
  known_on h (e ∷ es) =
      let more = known_on (step trade p h e) es in (known_by e ++ more.0, more.1 ∙ append_assoc h.known (known_by e) more.0)

  half_on : (es more : List Entry) → half trade p (es ++ more) ≡ fold (step trade p) (half trade p es) more
  unfolding half
  half_on es more = fold-append (step trade p) empty es more

  some_stays : {X : Type 0} (test : X → Bool) (xs ys : List X) → GoesOnAs xs ys → IsSome (find test xs) → IsSome (find test ys)
  some_stays test xs ys more some =
      let found = what_is (find test xs) some in ap is_some (found_stays test xs ys found.0 more found.1)

  backed_on : (h : Half) (more : List Entry) (letter : Letter) → IsBacked p h letter → IsBacked p (fold (step trade p) h more) letter
  backed_on h more (letters.Charge id by) b =
      (b.0, some_stays (λ (t : Taken). same_id id t.id) h.taken (fold (step trade p) h more).taken (taken_on h more) b.1)
  backed_on h more (letters.Ack id recipient) b =
      (b.0, some_stays (λ (k : Known). same_pair (pair_of id recipient) k.pair) h.known (fold (step trade p) h more).known (known_on h more) b.1)
  backed_on h more (letters.Envelope id to) b = b
  backed_on h more (letters.Outcome id recipient) b = b

  -- what is backed stays so while the journal goes on
  pub backed_stays : (es fs : List Entry) (letter : Letter) → GoesOnAs es fs → IsBacked p (half trade p es) letter → IsBacked p (half trade p fs) letter
  backed_stays es fs letter more b =
      subst (λ (l : List Entry). IsBacked p (half trade p l) letter) (sym more.1)
      (subst (λ (h : Half). IsBacked p h letter) (sym (half_on es more.0)) (backed_on (half trade p es) more.0 letter b))

  -- ---- steps

  module _ (now : ℕ) where
    -- what a step owes is backed behind it
    abbrev Backs : List Entry → Step → Type 0
    Backs es s = (letter : Letter) → Contains s.owed letter → IsBacked p (half trade p (journal_after es s)) letter

    nothing_owed : (es : List Entry) (s : Step) → s.owed ≡ [] → Backs es s
    nothing_owed es s e letter c = absurd (contains_none letter (subst (λ (l : List Letter). Contains l letter) e c))

    one_owed : (es : List Entry) (s : Step) (owed : Letter) → s.owed ≡ owed ∷ [] → IsBacked p (half trade p (journal_after es s)) owed → Backs es s
    one_owed es s owed e b letter c =
        subst (IsBacked p (half trade p (journal_after es s))) (only_item owed letter (subst (λ (l : List Letter). Contains l letter) e c)) b

    behind_entry : (es : List Entry) (s : Step) (entry : Entry) (letter : Letter) → s.entry ≡ Some entry → IsBacked p (step trade p (half trade p es) entry) letter
        → IsBacked p (half trade p (journal_after es s)) letter
    behind_entry es s entry letter e b =
        subst (λ (o : Option Entry). IsBacked p (half trade p (es ++ option_to_list o)) letter) (sym e)
        (subst (λ (h : Half). IsBacked p h letter) (sym (half_one trade p es entry)) b)

    behind_none : (es : List Entry) (s : Step) (letter : Letter) → s.entry ≡ None → IsBacked p (half trade p es) letter → IsBacked p (half trade p (journal_after es s)) letter
    behind_none es s letter e b =
        subst (λ (o : Option Entry). IsBacked p (half trade p (es ++ option_to_list o)) letter) (sym e)
        (subst (λ (l : List Entry). IsBacked p (half trade p l) letter) (sym (append-nil es)) b)

    new_taken : (h : Half) (id : Id) (message : Bytes) → IsBacked p (step trade p h (entries.Took now id message)) (letters.Charge id p)
    unfolding step
    new_taken h id message =
        let row : Taken = record { id = id; moment = now; recipients = at_home trade p (trade.envelope_recipients message); entry = h.entries }
        in (refl, last_found (λ (t : Taken). same_id id t.id) h.taken row (id_again id))

    new_known : (h : Half) (id : Id) (recipient : Bytes) (decision : Decision) (decided : ℕ) (message : Bytes) → id.provider ≡ p
        → IsBacked p (step trade p h (entries.Learned now id recipient decision decided message)) (letters.Ack id recipient)
    unfolding step
    new_known h id recipient decision decided message ours =
        let row : Known = record { pair = pair_of id recipient; decision = decision; decided = decided; moment = now }
        in (ours, last_found (λ (k : Known). same_pair (pair_of id recipient) k.pair) h.known row (pair_again (pair_of id recipient)))

    row_backs : (es : List Entry) (f : Framed) (s : Step) → IsReceived trade p es f now s → Backs es s
    row_backs es f s (NewEnvelope id is t e) =
        one_owed es s (letters.Charge id p) (ap (λ (x : Step). x.owed) e)
        (behind_entry es s (entries.Took now id f.message) (letters.Charge id p) (ap (λ (x : Step). x.entry) e) (new_taken (half trade p es) id f.message))
    row_backs es f s (KnownEnvelope id is t e) =
        one_owed es s (letters.Charge id p) (ap (λ (x : Step). x.owed) e) (behind_none es s (letters.Charge id p) (ap (λ (x : Step). x.entry) e) (refl, t))
    row_backs es f s (NewCharge r is t e) = nothing_owed es s (ap (λ (x : Step). x.owed) e)
    row_backs es f s (KnownCharge r is t e) = nothing_owed es s (ap (λ (x : Step). x.owed) e)
    row_backs es f s (NewOutcome r recipient decision is t e) =
        one_owed es s (letters.Ack r.id recipient) (ap (λ (x : Step). x.owed) e)
        (behind_entry es s (entries.Learned now r.id recipient decision r.moment f.message) (letters.Ack r.id recipient) (ap (λ (x : Step). x.entry) e)
        (new_known (half trade p es) r.id recipient decision r.moment f.message is.ours))
    row_backs es f s (KnownOutcome r recipient decision is t e) =
        one_owed es s (letters.Ack r.id recipient) (ap (λ (x : Step). x.owed) e) (behind_none es s (letters.Ack r.id recipient) (ap (λ (x : Step). x.entry) e) (is.ours, t))
    row_backs es f s (NewAck r recipient is t e) = nothing_owed es s (ap (λ (x : Step). x.owed) e)
    row_backs es f s (KnownAck r recipient is t e) = nothing_owed es s (ap (λ (x : Step). x.owed) e)
    row_backs es f s (SomeRoom n a accounts t e) = nothing_owed es s (ap (λ (x : Step). x.owed) e)
    row_backs es f s (NoRoom n t e) = nothing_owed es s (ap (λ (x : Step). x.owed) e)

    frame_backs : (es : List Entry) (frame : Bytes) (found : Option Framed) → trade.unframed frame ≡ found → Backs es (arrive trade p now es frame)
    frame_backs es frame None u = nothing_owed es (arrive trade p now es frame) (ap (λ (x : Step). x.owed) (no_frame trade p now es frame u))
    frame_backs es frame (Some f) u =
        row_backs es f (arrive trade p now es frame) ((row_says trade p now es frame f u (arrive trade p now es frame)).0 refl)

    -- ---- turns

    decide_owes_nothing : (looks : Looks) (es : List Entry) (pair : Pair) → (decide trade p now looks es pair).owed ≡ []
    unfolding decide
    decide_owes_nothing looks es pair = refl

    decisions_owe_nothing : (looks : Looks) (es : List Entry) (pairs : List Pair) → owed_of (decisions trade p now looks es pairs) ≡ []
    decisions_owe_nothing looks es [] = refl
    decisions_owe_nothing looks es (pair ∷ pairs) =
        ap (λ (l : List Letter). l ++ owed_of (decisions trade p now looks (journal_after es (decide trade p now looks es pair)) pairs)) (decide_owes_nothing looks es pair)
        ∙ decisions_owe_nothing looks (journal_after es (decide trade p now looks es pair)) pairs

    pub plan_backs : (looks : Looks) (es : List Entry) (frames : List Bytes) (letter : Letter) → Contains (owed_of (plan trade p now looks es frames)) letter
        → IsBacked p (half trade p (es ++ entries_of (plan trade p now looks es frames))) letter
    plan_backs looks es [] letter c =
        absurd (contains_none letter (subst (λ (l : List Letter). Contains l letter) (decisions_owe_nothing looks es (undecided trade p es)) c))
    plan_backs looks es (frame ∷ frames) letter c =
        let s = arrive trade p now es frame
        in let behind = journal_after es s
        in let rest = plan trade p now looks behind frames
        in let all : (behind ++ entries_of rest) ≡ es ++ (option_to_list s.entry ++ entries_of rest) = append_assoc es (option_to_list s.entry) (entries_of rest)
        in subst (λ (l : List Entry). IsBacked p (half trade p l) letter) all
        (elim (Contains-append_cases s.owed (owed_of rest) letter c) [
          | inl here ↦ backed_stays behind (behind ++ entries_of rest) letter (entries_of rest, refl) (frame_backs es frame (trade.unframed frame) refl letter here)
          | inr later ↦ plan_backs looks behind frames letter later
        ])
