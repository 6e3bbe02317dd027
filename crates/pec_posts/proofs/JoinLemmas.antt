-- Links are put together again: those of one provider link by link, and those of all provider by provider.
use Rattle.std.proofs.Common.{◌≡◌, ℕ, suc, ◌+◌, ◌<◌, ◌≤◌, List, [], ◌∷◌, ◌++◌, inl, inr, length, drop, get_or, set, refl, ap, sym, subst, ◌∙◌, arith}
use Rattle.std.specs.Prelude.{Vec, vec_capacity}
use Rattle.std.specs.List.{All}
use Rattle.std.specs.declared.alloc.Global.{Global}
use Rattle.std.proofs.Math.Seq.{get_or-append_seam}
use Rattle.std.proofs.lemmas.Bool.{cases_eq}
use Rattle.std.proofs.lemmas.List.{drop-drop, get_or-drop, get_or-set_other, get_or-set_same, get_or_append_left, get_or_default, length-append, length-drop, length-set}
use Rattle.pec_types.specs.Bytes.{Bytes}
use Rattle.pec_link.specs.Ends.{ArePair, Putting, Taking, waiting_on}
use Rattle.pec_posts.specs.Arrivals.{Waiting, waiting_for, waiting_from}
use Rattle.pec_posts.specs.Parting.{AreJoined, ArePaired, AreRows, AreShorter, HasRoom, IsJoined}

-- what is left of a list, one further
pub drop_one_more : {X : Type 0} (xs : List X) (k : ℕ) → drop 1 (drop k xs) ≡ drop (k + 1) xs
drop_one_more xs k = drop-drop 1 k xs

-- the first of what is left of a list
pub first_left : {X : Type 0} (xs rest : List X) (k : ℕ) (x d : X) → x ∷ rest ≡ drop k xs → get_or xs k d ≡ x
first_left xs rest k x d left =
    ap (λ (n : ℕ). get_or xs n d) (let e : k ≡ k + 0 = omega arith in e) ∙ sym (get_or-drop k xs 0 d)
    ∙ ap (λ (l : List _). get_or l 0 d) (sym left)

pub rest_left : {X : Type 0} (xs rest : List X) (k : ℕ) (x : X) → x ∷ rest ≡ drop k xs → rest ≡ drop (k + 1) xs
rest_left xs rest k x left = ap (λ (l : List _). drop 1 l) left ∙ drop_one_more xs k

-- ---- one provider's links

-- Some links were put together; the ends that take of the others are left.
pub record IsJoinedSoFar (rows : List (List Putting)) (takers : List Taking) (now : List (List Putting)) (links : Vec (List Bytes) Global)
    (rest : List Taking) : Type 0 where
  pub shorter : AreShorter rows (length links.items) now
  pub left : rest ≡ drop (length links.items) takers
  pub few : length links.items ≤ length takers
  pub waiting : (from : ℕ) (putter : Putting) (taker : Taking) → from < length links.items
      → get_or links.items from [] ≡ waiting_on (get_or (get_or rows from []) 0 putter) (get_or takers from taker)
  pub room : length takers ≤ vec_capacity links

pub joined_none : (rows : List (List Putting)) (takers : List Taking) (links : Vec (List Bytes) Global) → HasRoom (length takers) links
    → IsJoinedSoFar rows takers rows links takers
joined_none rows takers links has =
    let none : length links.items ≡ 0 = ap (λ (l : List (List Bytes)). length l) has.none in record {
      shorter = record { rows = refl; shorter = λ from l. absurd (omega (arith, l, none)); same = λ from l. refl };
      left = ap (λ (n : ℕ). drop n takers) (sym none);
      few = omega (arith, none);
      waiting = λ from putter taker l. absurd (omega (arith, l, none));
      room = has.room;
    }

module _ (rows : List (List Putting)) (takers : List Taking) (now : List (List Putting)) (links : Vec (List Bytes) Global)
    (taker : Taking) (rest : List Taking) (many : length takers ≤ length rows) (paired : ArePaired rows takers)
    (so_far : IsJoinedSoFar rows takers now links (taker ∷ rest)) where
  within : length links.items < length takers
  within =
      let e = ap (λ (l : List Taking). length l) so_far.left in
      let d = length-drop (length links.items) takers in
      omega (arith, e, d)

  pub row_within : links.len < length now
  row_within = omega (arith, within, links.ok.0, many, so_far.shorter.rows)

  pub link_room : links.len < vec_capacity links
  link_room = omega (arith, within, links.ok.0, so_far.room)

  -- the row is as it was
  row_was : (row : List Putting) → row ≡ get_or now links.len row → row ≡ get_or rows links.len []
  row_was row is =
      is ∙ get_or_default now links.len row [] row_within ∙ so_far.shorter.same links.len (omega (arith, links.ok.0))

  pub row_some : (row : List Putting) → row ≡ get_or now links.len row → 0 < length row
  row_some row is =
      subst (λ (l : List Putting). 0 < length l) (sym (row_was row is)) (paired.some links.len (omega (arith, within, links.ok.0)))

  module _ (row later_row : List Putting) (putter : Putting) (is : row ≡ get_or now links.len row) (first : row ≡ putter ∷ later_row) where
    putter_is : (other : Putting) → get_or (get_or rows links.len []) 0 other ≡ putter
    putter_is other = ap (λ (l : List Putting). get_or l 0 other) (sym (row_was row is)) ∙ ap (λ (l : List Putting). get_or l 0 other) first

    taker_is : (other : Taking) → get_or takers links.len other ≡ taker
    taker_is other =
        ap (λ (n : ℕ). get_or takers n other) links.ok.0
        ∙ first_left takers rest (length links.items) taker other so_far.left

    pub are_pair : ArePair putter taker
    are_pair =
        subst (λ (p : Putting). ArePair p taker) (putter_is putter)
        (subst (λ (t : Taking). ArePair (get_or (get_or rows links.len []) 0 putter) t) (taker_is taker)
        (paired.pair links.len putter taker (omega (arith, within, links.ok.0))))

    module _ (link : List Bytes) (later : Vec (List Bytes) Global) (waits_so : link ≡ waiting_on putter taker)
        (more : later.items ≡ links.items ++ link ∷ []) (room_stays : vec_capacity later ≡ vec_capacity links) where
      later_many : length later.items ≡ links.len + 1
      later_many =
          ap (λ (l : List (List Bytes)). length l) more ∙ length-append links.items (link ∷ [])
          ∙ ap (λ (n : ℕ). n + 1) (sym links.ok.0)

      pub joined_more : IsJoinedSoFar rows takers (set now links.len later_row) later rest
      joined_more = record {
        shorter = record {
          rows = length-set now links.len later_row ∙ so_far.shorter.rows;
          shorter = λ from l.
              elim (cases_eq from links.len) [
                | inl e ↦
                    subst (λ (n : ℕ). get_or (set now links.len later_row) n [] ≡ drop 1 (get_or rows n [])) (sym e)
                    (get_or-set_same now links.len later_row [] row_within
                    ∙ ap (λ (l : List Putting). drop 1 l) (sym first) ∙ ap (λ (l : List Putting). drop 1 l) (row_was row is))
                | inr apart ↦
                    get_or-set_other now links.len from later_row [] apart
                    ∙ so_far.shorter.shorter from (omega (arith, l, apart, later_many, links.ok.0))
              ];
          same = λ from l.
              let apart : from ≡ links.len → ⊥ = λ e. absurd (omega (arith, l, e, later_many)) in
              get_or-set_other now links.len from later_row [] apart
              ∙ so_far.shorter.same from (omega (arith, l, later_many, links.ok.0));
        };
        left =
            rest_left takers rest (length links.items) taker so_far.left
            ∙ ap (λ (n : ℕ). drop n takers) (let e : length links.items + 1 ≡ length later.items = omega (arith, later_many, links.ok.0) in e);
        few = omega (arith, within, later_many, links.ok.0);
        waiting = λ from p t l.
            elim (cases_eq from links.len) [
              | inl e ↦
                  subst (λ (n : ℕ). get_or later.items n [] ≡ waiting_on (get_or (get_or rows n []) 0 p) (get_or takers n t)) (sym e)
                  (ap (λ (l : List (List Bytes)). get_or l links.len []) more
                  ∙ ap (λ (n : ℕ). get_or (links.items ++ link ∷ []) n []) links.ok.0
                  ∙ get_or-append_seam links.items link [] [] ∙ waits_so
                  ∙ ap (λ (q : Putting). waiting_on q taker) (sym (putter_is p))
                  ∙ ap (λ (q : Taking). waiting_on (get_or (get_or rows links.len []) 0 p) q) (sym (taker_is t)))
              | inr apart ↦
                  let before : from < length links.items = omega (arith, l, apart, later_many, links.ok.0) in
                  ap (λ (l : List (List Bytes)). get_or l from []) more
                  ∙ get_or_append_left links.items (link ∷ []) [] from before
                  ∙ so_far.waiting from p t before
            ];
        room = omega (arith, so_far.room, room_stays);
      }

pub joined_all : (rows : List (List Putting)) (takers : List Taking) (now : List (List Putting)) (links : Vec (List Bytes) Global)
    (rest : List Taking) → rest ≡ [] → IsJoinedSoFar rows takers now links rest
    → IsJoined rows takers links.items × AreShorter rows (length takers) now
joined_all rows takers now links rest none so_far =
    let e = ap (λ (l : List Taking). length l) (sym so_far.left ∙ none) in
    let d = length-drop (length links.items) takers in
    let many : length links.items ≡ length takers = omega (arith, e, d, so_far.few) in (
      record {
        count = many;
        waiting = λ from putter taker l. so_far.waiting from putter taker (omega (arith, l, many));
      },
      subst (λ (n : ℕ). AreShorter rows n now) many so_far.shorter,
    )

-- ---- all links

-- The links of some providers were put together; the ends of the others are left, and so are lists for them.
pub record AllJoinedSoFar (count : ℕ) (rows : List (List Putting)) (takers : List (List Taking)) (now : List (List Putting))
    (left : List (List Taking)) (arrivals : Vec Waiting Global) (trays : List (Vec (List Bytes) Global)) : Type 0 where
  pub rows_count : length now ≡ count
  pub rows_are : (from : ℕ) → from < count → get_or now from [] ≡ drop (length arrivals.items) (get_or rows from [])
  pub left_are : left ≡ drop (length arrivals.items) takers
  pub few : length arrivals.items ≤ count
  pub trays_left : length trays ≡ length left
  pub trays_are : All (HasRoom count) trays
  pub senders : (to : ℕ) → to < length arrivals.items → length (waiting_for arrivals.items to) ≡ count
  pub waiting : (from to : ℕ) (putter : Putting) (taker : Taking) → from < count → to < length arrivals.items
      → waiting_from (waiting_for arrivals.items to) from
      ≡ waiting_on (get_or (get_or rows from []) to putter) (get_or (get_or takers to []) from taker)
  pub room : count ≤ vec_capacity arrivals

pub all_joined_none : (rows : List (List Putting)) (takers : List (List Taking)) (arrivals : Vec Waiting Global)
    (trays : List (Vec (List Bytes) Global))
    → AreRows ArePair (length rows) rows takers → length trays ≡ length rows → All (HasRoom (length rows)) trays → HasRoom (length rows) arrivals
    → AllJoinedSoFar (length rows) rows takers rows takers arrivals trays
all_joined_none rows takers arrivals trays ends lists are has =
    let none : length arrivals.items ≡ 0 = ap (λ (l : List Waiting). length l) has.none in record {
      rows_count = refl;
      rows_are = λ from l. ap (λ (n : ℕ). drop n (get_or rows from [])) (sym none);
      left_are = ap (λ (n : ℕ). drop n takers) (sym none);
      few = omega (arith, none);
      trays_left = lists ∙ sym ends.addressees;
      trays_are = are;
      senders = λ to l. absurd (omega (arith, l, none));
      waiting = λ from to putter taker l m. absurd (omega (arith, m, none));
      room = has.room;
    }

module _ (count : ℕ) (rows : List (List Putting)) (takers : List (List Taking)) (now : List (List Putting))
    (row : List Taking) (left : List (List Taking)) (arrivals : Vec Waiting Global)
    (tray : Vec (List Bytes) Global) (trays : List (Vec (List Bytes) Global)) (ends : AreRows ArePair count rows takers)
    (so_far : AllJoinedSoFar count rows takers now (row ∷ left) arrivals (tray ∷ trays)) where
  place : length arrivals.items < count
  place =
      let e = ap (λ (l : List (List Taking)). length l) so_far.left_are in
      let d = length-drop (length arrivals.items) takers in
      omega (arith, e, d, ends.addressees)

  pub list_room : arrivals.len < vec_capacity arrivals
  list_room = omega (arith, place, arrivals.ok.0, so_far.room)

  row_is : get_or takers (length arrivals.items) [] ≡ row
  row_is = first_left takers left (length arrivals.items) row [] so_far.left_are

  pub row_many : length row ≡ count
  row_many = ap (λ (l : List Taking). length l) (sym row_is) ∙ ends.taking (length arrivals.items) place

  pub few_takers : length row ≤ length now
  few_takers = omega (arith, row_many, so_far.rows_count)

  pub tray_room : HasRoom (length row) tray
  tray_room = subst (λ (n : ℕ). HasRoom n tray) (sym row_many) (so_far.trays_are 0 tray (omega arith))

  -- the end that puts on the next link of a row
  next_is : (from : ℕ) (putter : Putting) → from < count
      → get_or (get_or now from []) 0 putter ≡ get_or (get_or rows from []) (length arrivals.items) putter
  next_is from putter l =
      ap (λ (r : List Putting). get_or r 0 putter) (so_far.rows_are from l)
      ∙ get_or-drop (length arrivals.items) (get_or rows from []) 0 putter
      ∙ ap (λ (n : ℕ). get_or (get_or rows from []) n putter) (let e : length arrivals.items + 0 ≡ length arrivals.items = omega arith in e)

  pub rows_paired : ArePaired now row
  rows_paired = record {
    some = λ from l.
        let within : from < count = omega (arith, l, row_many) in
        let many = ends.putting from within in
        let d = length-drop (length arrivals.items) (get_or rows from []) in
        let e = ap (λ (r : List Putting). length r) (so_far.rows_are from within) in
        omega (arith, place, many, d, e);
    pair = λ from putter taker l.
        let within : from < count = omega (arith, l, row_many) in
        subst (λ (p : Putting). ArePair p (get_or row from taker)) (sym (next_is from putter within))
        (subst (λ (r : List Taking). ArePair (get_or (get_or rows from []) (length arrivals.items) putter) (get_or r from taker)) row_is
        (ends.ends from (length arrivals.items) putter taker within place));
  }

  module _ (later_rows : List (List Putting)) (links : Waiting) (later : Vec Waiting Global) (joined : IsJoined now row links)
      (shorter : AreShorter now (length row) later_rows) (more : later.items ≡ arrivals.items ++ links ∷ [])
      (room_stays : vec_capacity later ≡ vec_capacity arrivals) where
    arrivals_many : length later.items ≡ length arrivals.items + 1
    arrivals_many = ap (λ (l : List Waiting). length l) more ∙ length-append arrivals.items (links ∷ [])

    last_links : waiting_for later.items (length arrivals.items) ≡ links
    last_links =
        ap (λ (l : List Waiting). get_or l (length arrivals.items) []) more ∙ get_or-append_seam arrivals.items links [] []

    front_links : (to : ℕ) → to < length arrivals.items → waiting_for later.items to ≡ waiting_for arrivals.items to
    front_links to l =
        ap (λ (l : List Waiting). get_or l to []) more ∙ get_or_append_left arrivals.items (links ∷ []) [] to l

    pub all_joined_more : AllJoinedSoFar count rows takers later_rows left later trays
    all_joined_more = record {
      rows_count = shorter.rows ∙ so_far.rows_count;
      rows_are = λ from l.
          shorter.shorter from (omega (arith, l, row_many))
          ∙ ap (λ (r : List Putting). drop 1 r) (so_far.rows_are from l)
          ∙ drop_one_more (get_or rows from []) (length arrivals.items)
          ∙ ap (λ (n : ℕ). drop n (get_or rows from [])) (sym arrivals_many);
      left_are =
          rest_left takers left (length arrivals.items) row so_far.left_are
          ∙ ap (λ (n : ℕ). drop n takers) (sym arrivals_many);
      few = omega (arith, place, arrivals_many);
      trays_left = let e = so_far.trays_left in omega (arith, e);
      trays_are = λ k other l. so_far.trays_are (suc k) other (omega (arith, l));
      senders = λ to l.
          elim (cases_eq to (length arrivals.items)) [
            | inl e ↦
                ap (λ (n : ℕ). length (waiting_for later.items n)) e ∙ ap (λ (w : Waiting). length w) last_links
                ∙ joined.count ∙ row_many
            | inr apart ↦
                let before : to < length arrivals.items = omega (arith, l, apart, arrivals_many) in
                ap (λ (w : Waiting). length w) (front_links to before) ∙ so_far.senders to before
          ];
      waiting = λ from to putter taker l m.
          elim (cases_eq to (length arrivals.items)) [
            | inl e ↦
                subst (λ (n : ℕ). waiting_from (waiting_for later.items n) from
                ≡ waiting_on (get_or (get_or rows from []) n putter) (get_or (get_or takers n []) from taker)) (sym e)
                (ap (λ (w : Waiting). waiting_from w from) last_links
                ∙ joined.waiting from putter taker (omega (arith, l, row_many))
                ∙ ap (λ (p : Putting). waiting_on p (get_or row from taker)) (next_is from putter l)
                ∙ ap (λ (r : List Taking). waiting_on (get_or (get_or rows from []) (length arrivals.items) putter) (get_or r from taker))
                (sym row_is))
            | inr apart ↦
                let before : to < length arrivals.items = omega (arith, m, apart, arrivals_many) in
                ap (λ (w : Waiting). waiting_from w from) (front_links to before) ∙ so_far.waiting from to putter taker l before
          ];
      room = omega (arith, so_far.room, room_stays);
    }

pub all_joined : (count : ℕ) (rows : List (List Putting)) (takers : List (List Taking)) (now : List (List Putting))
    (left : List (List Taking)) (arrivals : Vec Waiting Global) (trays : List (Vec (List Bytes) Global))
    → AreRows ArePair count rows takers → trays ≡ [] → AllJoinedSoFar count rows takers now left arrivals trays
    → AreJoined count rows takers arrivals.items
all_joined count rows takers now left arrivals trays ends none so_far =
    let l = so_far.trays_left in
    let n = ap (λ (l : List (Vec (List Bytes) Global)). length l) none in
    let e = ap (λ (l : List (List Taking)). length l) so_far.left_are in
    let d = length-drop (length arrivals.items) takers in
    let many : length arrivals.items ≡ count = omega (arith, l, n, e, d, ends.addressees, so_far.few) in record {
      addressees = many;
      senders = λ to l. so_far.senders to (omega (arith, l, many));
      waiting = λ from to putter taker l m. so_far.waiting from to putter taker l (omega (arith, m, many));
    }
