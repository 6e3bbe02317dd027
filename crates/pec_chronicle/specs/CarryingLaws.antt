-- How entries over a disk carry on from call to call: the crates above compose their clauses by these lemmas.
use Rattle.std.proofs.Common.{◌≡◌, Bool, List, [], ◌∷◌, ◌++◌, ◌∙◌, sym, ap, subst, append_assoc}
use Rattle.std.specs.Prelude.{Option, ℕ}
use Rattle.std.proofs.lemmas.List.{append-nil}
use Rattle.pec_outside.specs.DiskModel.{Sight}
use Rattle.pec_outside.specs.Moments.{started, and_then, weaker}
use Rattle.pec_types.specs.Bytes.{Bytes}
use Rattle.pec_records.specs.declared.entries.Entry.{Entry}
use Rattle.pec_ledger.specs.Network.{chosen}
use Rattle.pec_chronicle.specs.Chronicle.{ChronicleState, IsJournalOf}
use Rattle.pec_chronicle.specs.Carrying.{AllFollow, CarriesOn, Following, GoesOn, IsImage, NothingMay, ThisMay, with_entry}

-- ---- entries that follow

pub follow_and : (May : Following) (list first second : List Entry) → AllFollow May list first
    → AllFollow May (list ++ first) second
    → AllFollow May list (first ++ second)
follow_and May list [] second here rest = subst (λ (l : List Entry). AllFollow May l second) (append-nil list) rest
follow_and May list (e ∷ es) second here rest = (
  here.0,
  follow_and May (with_entry list e) es second here.1
      (subst (λ (l : List Entry). AllFollow May l second) (sym (append_assoc list (e ∷ []) es)) rest),
)

pub follow_wider : (May Wider : Following) → ((list : List Entry) (entry : Entry) → May list entry → Wider list entry)
    → (list further : List Entry) → AllFollow May list further → AllFollow Wider list further
follow_wider May Wider wider list [] follow = tt
follow_wider May Wider wider list (e ∷ es) follow =
    (wider list e follow.0, follow_wider May Wider wider (with_entry list e) es follow.1)

-- ---- lists that go on

-- a list goes on from itself
pub goes_nowhere : (May : Following) (old : List Entry) (interrupted : Option Entry) (choice : Bool)
    → GoesOn May old interrupted (old ++ chosen choice interrupted)
goes_nowhere May old interrupted choice = record {
  choice = choice;
  further = [];
  is = ap (λ (l : List Entry). old ++ l) (sym (append-nil (chosen choice interrupted)));
  follow = tt;
}

-- what goes on from a list that went on goes on from the first
pub goes_on_from : (May : Following) (old : List Entry) (interrupted : Option Entry) (mid : List Entry)
    (also : Option Entry) (list : List Entry)
    → ((choice : Bool) → GoesOn May old interrupted (mid ++ chosen choice also)) → GoesOn May mid also list
    → GoesOn May old interrupted list
goes_on_from May old interrupted mid also list before after =
    let first = before after.choice in
    let begun = old ++ chosen first.choice interrupted in
    let joined : mid ++ chosen after.choice also ≡ begun ++ first.further =
    first.is ∙ sym (append_assoc old (chosen first.choice interrupted) first.further) in
    record {
      choice = first.choice;
      further = first.further ++ after.further;
      is = after.is
          ∙ sym (append_assoc mid (chosen after.choice also) after.further)
          ∙ ap (λ (l : List Entry). l ++ after.further) joined
          ∙ append_assoc begun first.further after.further
          ∙ append_assoc old (chosen first.choice interrupted) (first.further ++ after.further);
      follow = follow_and May begun first.further after.further first.follow
          (subst (λ (l : List Entry). AllFollow May l after.further) joined after.follow);
    }

pub goes_wider : (May Wider : Following) → ((list : List Entry) (entry : Entry) → May list entry → Wider list entry)
    → (old : List Entry) (interrupted : Option Entry) (list : List Entry) → GoesOn May old interrupted list
    → GoesOn Wider old interrupted list
goes_wider May Wider wider old interrupted list goes = record {
  choice = goes.choice;
  further = goes.further;
  is = goes.is;
  follow = follow_wider May Wider wider (old ++ chosen goes.choice interrupted) goes.further goes.follow;
}

-- the journal of the entries, with the interrupted one or without it, is an image
pub image_of : (May : Following) (old : List Entry) (interrupted : Option Entry) (bytes : Bytes)
    → ((choice : Bool) × IsJournalOf (old ++ chosen choice interrupted) bytes) → IsImage May old interrupted bytes
image_of May old interrupted bytes is = (old ++ chosen is.0 interrupted, goes_nowhere May old interrupted is.0, is.1)

-- ---- values that carry on

module _ {D : Type 0} (sight : D → Sight) where
  -- nothing has changed but the room
  pub carries_same : (May : Following) (old : ChronicleState D) (spare : ℕ)
      → ((image : Bytes) → (sight old.disk).left_since (sight old.disk).moment image → (sight old.disk).may_leave image)
      → CarriesOn sight May old (record old { spare = spare })
  carries_same May old spare only = record {
    list = λ stands choice. goes_nowhere May old.entries old.interrupted choice;
    stands = λ stands. record { up = stands.up; images = stands.images };
    images = λ stands. started (sight old.disk) (IsImage May old.entries old.interrupted)
        (λ image left. image_of May old.entries old.interrupted image (stands.images image (only image left)));
  }

  -- one stretch of calls behind another
  pub carries_and_then : (May : Following) (old mid new : ChronicleState D) → CarriesOn sight May old mid
      → CarriesOn sight May mid new
      → CarriesOn sight May old new
  carries_and_then May old mid new first second = record {
    list = λ stands choice. goes_on_from May old.entries old.interrupted mid.entries mid.interrupted _
        (first.list stands) (second.list (first.stands stands) choice);
    stands = λ stands. second.stands (first.stands stands);
    images = λ stands. and_then (sight old.disk) (sight mid.disk) (sight new.disk) (IsImage May old.entries old.interrupted)
        (first.images stands)
        (weaker (sight mid.disk) (sight new.disk) (IsImage May mid.entries mid.interrupted) (IsImage May old.entries old.interrupted)
        (second.images (first.stands stands))
        (λ image is. (is.0, goes_on_from May old.entries old.interrupted mid.entries mid.interrupted is.0 (first.list stands) is.1, is.2)));
  }

  -- what may follow may follow in a wider sense, too
  pub carries_wider : (May Wider : Following)
      → ((list : List Entry) (entry : Entry) → May list entry → Wider list entry)
      → (old new : ChronicleState D) → CarriesOn sight May old new → CarriesOn sight Wider old new
  carries_wider May Wider wider old new carries = record {
    list = λ stands choice. goes_wider May Wider wider old.entries old.interrupted _ (carries.list stands choice);
    stands = carries.stands;
    images = λ stands. weaker (sight old.disk) (sight new.disk) (IsImage May old.entries old.interrupted) (IsImage Wider old.entries old.interrupted)
        (carries.images stands)
        (λ image is. (is.0, goes_wider May Wider wider old.entries old.interrupted is.0 is.1, is.2));
  }

  -- a call that appends nothing carries on, whatever may follow
  pub carries_nothing : (May : Following) (old new : ChronicleState D) → CarriesOn sight NothingMay old new
      → CarriesOn sight May old new
  carries_nothing May = carries_wider NothingMay May (λ list entry none. absurd none)

  -- an append carries on, where its entry may follow
  pub carries_this : (May : Following) (list : List Entry) (entry : Entry) → May list entry
      → (old new : ChronicleState D) → CarriesOn sight (ThisMay list entry) old new → CarriesOn sight May old new
  carries_this May list entry may = carries_wider (ThisMay list entry) May (λ there this is.
      subst (λ (l : List Entry). May l this) (sym is.0) (subst (λ (e : Entry). May list e) (sym is.1) may))
