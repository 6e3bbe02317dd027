-- What an entry does with mailboxes and archives: one that archives moves an item, all others place behind what a
-- mailbox holds.
use Rattle.std.proofs.Common.{◌≡◌, ◌≢◌, ℕ, ◌<◌, List, [], ◌∷◌, ◌++◌, Bool, true, false, cond, length, map, refl, ap, sym, subst, ◌∙◌, Option, Some}
use Rattle.std.specs.Prelude.{filter, fold, slice_get}
use Rattle.std.specs.Option.{option_to_list}
use Rattle.std.specs.Str.{bytes_eq}
use Rattle.std.proofs.lemmas.List.{append-nil, map-append}
use Rattle.std.proofs.lemmas.List.Elements.{filter-append}
use Rattle.std.proofs.lemmas.Slice.Eq.{bytes_eq-Decides}
use Rattle.pec_types.specs.Bytes.{Bytes}
use Rattle.pec_records.specs.declared.entries.Entry.{Entry}
use Rattle.pec_records.specs.declared.entries.Entry.TheVariants as entries
use Rattle.pec_ledger.specs.Boxes.{AllWithin, Boxes, boxes_of, moved, unmoved, with_more, without_at}
use Rattle.pec_ledger.specs.Half.{Half, Move, Posted, empty}
use Rattle.pec_ledger.specs.Ledger.{Follows, Journals}
use Rattle.pec_ledger.specs.Lookups.{archive, boxes, ever_placed, mailbox, places_moved}
use Rattle.pec_ledger.specs.Own.{Own}
use Rattle.pec_ledger.specs.Steps.{half, items_by, moves_by, step}
use Rattle.pec_ledger.specs.Trade.{Trade}
use Rattle.pec_ledger.proofs.AlongLemmas.{along_append}
use Rattle.pec_ledger.proofs.BoxLemmas.{moved_once, same_boxes, stand_behind, within_more}
use Rattle.pec_ledger.proofs.GuaranteeLemmas.{holds_along}
use Rattle.pec_ledger.proofs.Places.{different}

abbrev the_move : Bytes → ℕ → Move
the_move account place = record { account = account; place = place }

-- the places of an account in moves
abbrev places_in : Bytes → List Move → List ℕ
places_in account moves = map (λ (move : Move). move.place) (filter (λ (move : Move). bytes_eq account move.account) moves)

-- those items that are the account's
abbrev items_in : Bytes → List Posted → List Posted
items_in account items = filter (λ (posted : Posted). bytes_eq account posted.account) items

one_place : (account other : Bytes) (place : ℕ) (b : Bool) → bytes_eq account other ≡ b
    → places_in account (the_move other place ∷ []) ≡ cond b (place ∷ []) []
one_place account other place true e = ap (λ (c : Bool). map (λ (move : Move). move.place) (cond c (the_move other place ∷ []) [])) e
one_place account other place false e = ap (λ (c : Bool). map (λ (move : Move). move.place) (cond c (the_move other place ∷ []) [])) e

-- and of one more move
places_more : (account other : Bytes) (place : ℕ) (moves : List Move) (b : Bool) → bytes_eq account other ≡ b
    → places_in account (moves ++ the_move other place ∷ []) ≡ places_in account moves ++ cond b (place ∷ []) []
places_more account other place moves b e =
    let test = λ (move : Move). bytes_eq account move.account
    in ap (map (λ (move : Move). move.place)) (filter-append test moves (the_move other place ∷ []))
    ∙ map-append (λ (move : Move). move.place) (filter test moves) (filter test (the_move other place ∷ []))
    ∙ ap (λ (ps : List ℕ). places_in account moves ++ ps) (one_place account other place b e)

no_more_items : (account : Bytes) (items : List Posted) → items_in account (items ++ []) ≡ items_in account items
no_more_items account items = ap (items_in account) (append-nil items)

no_more_places : (account : Bytes) (moves more : List Move) → more ≡ [] → places_in account (moves ++ more) ≡ places_in account moves
no_more_places account moves more none =
    ap (λ (ms : List Move). places_in account (moves ++ ms)) none ∙ ap (places_in account) (append-nil moves)

-- ---- an entry that archives

module _ (trade : Trade) (p : ℕ) where
  pub moved_by : (h : Half) (moment : ℕ) (account : Bytes) (place : ℕ)
      → boxes (step trade p h (entries.Archived moment account place)) account ≡ moved (boxes h account) place
  unfolding step
  moved_by h moment account place =
      same_boxes (items_in account (h.items ++ [])) (ever_placed h account)
      (places_in account (h.moves ++ the_move account place ∷ [])) (places_moved h account ++ place ∷ [])
      (no_more_items account h.items)
      (places_more account account place h.moves true ((bytes_eq-Decides account account).1 refl))
      ∙ moved_once (ever_placed h account) (places_moved h account) place

  pub archived_mailbox : (h : Half) (moment : ℕ) (account : Bytes) (place : ℕ)
      → mailbox (step trade p h (entries.Archived moment account place)) account ≡ without_at (mailbox h account) place
  archived_mailbox h moment account place = ap (λ (b : Boxes). b.mailbox) (moved_by h moment account place)

  pub archived_archive : (h : Half) (moment : ℕ) (account : Bytes) (place : ℕ) (posted : Posted) → slice_get (mailbox h account) place ≡ Some posted
      → archive (step trade p h (entries.Archived moment account place)) account ≡ archive h account ++ posted ∷ []
  archived_archive h moment account place posted e =
      ap (λ (b : Boxes). b.archive) (moved_by h moment account place)
      ∙ ap (λ (o : Option Posted). archive h account ++ option_to_list o) e

  -- the boxes of another account stay
  pub others_stay : (h : Half) (moment : ℕ) (account other : Bytes) (place : ℕ) → other ≢ account
      → boxes (step trade p h (entries.Archived moment account place)) other ≡ boxes h other
  unfolding step
  others_stay h moment account other place apart =
      same_boxes (items_in other (h.items ++ [])) (ever_placed h other)
      (places_in other (h.moves ++ the_move account place ∷ [])) (places_moved h other)
      (no_more_items other h.items)
      (places_more other account place h.moves false (different other account apart) ∙ append-nil (places_moved h other))

-- ---- along a journal

-- each move was of an item that stood there
abbrev MovesWithin : Half → Type 0
MovesWithin h = (account : Bytes) → AllWithin (unmoved (ever_placed h account)) (places_moved h account)

within_at : (items others : List Posted) (places more : List ℕ) → items ≡ others → places ≡ more
    → AllWithin (unmoved items) places → AllWithin (unmoved others) more
within_at items others places more e f within =
    subst (λ (ps : List ℕ). AllWithin (unmoved others) ps) f (subst (λ (xs : List Posted). AllWithin (unmoved xs) places) e within)

module _ (trade : Trade) (p : ℕ) where
  -- an entry that moves nothing
  placing_within : (h : Half) (e : Entry) → moves_by e ≡ [] → MovesWithin h → MovesWithin (step trade p h e)
  unfolding step
  placing_within h e none within account =
      let more = items_in account (items_by trade p h e)
      in within_at (ever_placed h account ++ more) (items_in account (h.items ++ items_by trade p h e))
      (places_moved h account) (places_in account (h.moves ++ moves_by e))
      (sym (filter-append (λ (posted : Posted). bytes_eq account posted.account) h.items (items_by trade p h e)))
      (sym (no_more_places account h.moves (moves_by e) none))
      (within_more (unmoved (ever_placed h account)) more (places_moved h account) (within account))

  -- the moves of an account, and one of this account or of another one
  moving_within : (h : Half) (owner : Bytes) (place : ℕ) → place < length (mailbox h owner) → MovesWithin h
      → (account : Bytes) (b : Bool) → bytes_eq account owner ≡ b
      → AllWithin (unmoved (ever_placed h account)) (places_moved h account ++ cond b (place ∷ []) [])
  unfolding boxes_of
  moving_within h owner place l within account false e =
      subst (λ (ps : List ℕ). AllWithin (unmoved (ever_placed h account)) ps) (sym (append-nil (places_moved h account))) (within account)
  moving_within h owner place l within account true e =
      along_append moved (λ (now : Boxes) (at : ℕ). at < length now.mailbox) (unmoved (ever_placed h account)) (places_moved h account) (place ∷ [])
      (within account)
      (subst (λ (a : Bytes). place < length (mailbox h a)) (sym ((bytes_eq-Decides account owner).0 e)) l, tt)

  archiving_within : (h : Half) (moment : ℕ) (owner : Bytes) (place : ℕ) → place < length (mailbox h owner) → MovesWithin h
      → MovesWithin (step trade p h (entries.Archived moment owner place))
  unfolding step
  archiving_within h moment owner place l within account =
      within_at (ever_placed h account) (items_in account (h.items ++ []))
      (places_moved h account ++ cond (bytes_eq account owner) (place ∷ []) [])
      (places_in account (h.moves ++ the_move owner place ∷ []))
      (sym (no_more_items account h.items))
      (sym (places_more account owner place h.moves (bytes_eq account owner) refl))
      (moving_within h owner place l within account (bytes_eq account owner) refl)

  within_step : (h : Half) (e : Entry) → Own trade p h e → MovesWithin h → MovesWithin (step trade p h e)
  within_step h (entries.Archived moment owner place) own within = archiving_within h moment owner place own.2 within
  within_step h (entries.Start number digest) own within = placing_within h (entries.Start number digest) refl within
  within_step h e own within = placing_within h e refl within

  moves_within : (J : Journals) (es : List Entry) → Follows trade J p empty es → MovesWithin (half trade p es)
  moves_within J es follows =
      holds_along trade J p es follows MovesWithin (λ account. tt) (λ h e within meets. within_step h e meets.own within)

  -- behind an entry that moves nothing, what it placed stands behind what a mailbox held
  placed_behind : (J : Journals) (es : List Entry) → Follows trade J p empty es → (e : Entry) → moves_by e ≡ [] → (account : Bytes)
      → boxes (step trade p (half trade p es) e) account
      ≡ with_more (boxes (half trade p es) account) (items_in account (items_by trade p (half trade p es) e))
  unfolding step boxes_of
  placed_behind J es follows e none account =
      let h = half trade p es
      in let more = items_in account (items_by trade p h e)
      in ap (λ (xs : List Posted). fold moved (unmoved xs) (places_in account (h.moves ++ moves_by e)))
      (filter-append (λ (posted : Posted). bytes_eq account posted.account) h.items (items_by trade p h e))
      ∙ ap (λ (ps : List ℕ). fold moved (with_more (unmoved (ever_placed h account)) more) ps) (no_more_places account h.moves (moves_by e) none)
      ∙ stand_behind (unmoved (ever_placed h account)) more (places_moved h account) (moves_within J es follows account)

  pub placed_mailbox : (J : Journals) (es : List Entry) → Follows trade J p empty es → (e : Entry) → moves_by e ≡ [] → (account : Bytes)
      → mailbox (step trade p (half trade p es) e) account
      ≡ mailbox (half trade p es) account ++ items_in account (items_by trade p (half trade p es) e)
  placed_mailbox J es follows e none account = ap (λ (b : Boxes). b.mailbox) (placed_behind J es follows e none account)

  pub placed_archive : (J : Journals) (es : List Entry) → Follows trade J p empty es → (e : Entry) → moves_by e ≡ [] → (account : Bytes)
      → archive (step trade p (half trade p es) e) account ≡ archive (half trade p es) account
  placed_archive J es follows e none account = ap (λ (b : Boxes). b.archive) (placed_behind J es follows e none account)
