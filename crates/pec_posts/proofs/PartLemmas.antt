-- Links are taken apart: those of one provider link by link, and those of all provider by provider.
use Rattle.std.proofs.Common.{◌≡◌, ℕ, zero, suc, ◌+◌, ◌<◌, ◌≤◌, List, [], ◌∷◌, ◌++◌, inl, inr, length, map, get_or, set, refl, ap, sym, subst, ◌∙◌, arith}
use Rattle.std.specs.Prelude.{Vec, vec_capacity, vec_len}
use Rattle.std.specs.List.{All, remove}
use Rattle.std.specs.declared.alloc.Global.{Global}
use Rattle.std.proofs.Math.Seq.{get_or-append_seam}
use Rattle.std.proofs.lemmas.Bool.{cases_eq}
use Rattle.std.proofs.lemmas.List.{append-nil, append_assoc, get_or-set_other, get_or-set_same, get_or_append_left, get_or_at, get_or_default, length-append, length-map, length-set, map-append, nil_from_length}
use Rattle.pec_types.specs.Bytes.{Bytes}
use Rattle.pec_link.specs.Ends.{AreSettled, Putting, Taking}
use Rattle.pec_posts.specs.Arrivals.{Waiting, waiting_for}
use Rattle.pec_posts.specs.Parting.{AreAdded, AreColumn, AreRows, HasRoom, IsParted, ends_in}
use Rattle.pec_rows.specs.Rows.{waits}

-- ---- one provider's links

-- Some links were taken apart; the others are left.
pub record IsPartedSoFar (links : Waiting) (old now : List (Vec Putting Global)) (takers : Vec Taking Global) (rest : List (List Bytes)) : Type 0 where
  pub column : List Putting
  pub added : AreAdded old column now
  pub ends : AreColumn column takers.items
  pub waiting : waits takers.items ++ rest ≡ links
  pub room : length links ≤ vec_capacity takers

pub parted_none : (links : Waiting) (old : List (Vec Putting Global)) (takers : Vec Taking Global)
    → HasRoom (length links) takers → IsPartedSoFar links old old takers links
parted_none links old takers has = record {
  column = [];
  added = record {
    count = refl;
    few = omega arith;
    added = λ from row putter l. absurd (omega arith);
    longer = λ from row l. absurd (omega arith);
    same = λ from row l. refl;
    capacity = λ from row. refl;
  };
  ends = record {
    count = ap (λ (l : List Taking). length l) (sym has.none);
    settled = λ from putter taker l. let e = ap (λ (l : List Taking). length l) has.none in absurd (omega (arith, l, e));
  };
  waiting = ap (λ (l : List Taking). waits l ++ links) has.none;
  room = has.room;
}

module _ (links : Waiting) (old now : List (Vec Putting Global)) (takers : Vec Taking Global) (link : List Bytes) (rest : List (List Bytes))
    (same : length old ≡ length links) (so_far : IsPartedSoFar links old now takers (link ∷ rest)) where
  pub many : length takers.items + suc (length rest) ≡ length links
  many =
      ap (λ (n : ℕ). n + suc (length rest)) (sym (length-map takers.items (λ (taker : Taking). taker.waiting)))
      ∙ sym (length-append (waits takers.items) (link ∷ rest))
      ∙ ap (λ (l : Waiting). length l) so_far.waiting

  pub place_within : takers.len < length now
  place_within = omega (arith, many, takers.ok.0, so_far.added.count, same)

  pub takers_room : takers.len < vec_capacity takers
  takers_room = omega (arith, many, takers.ok.0, so_far.room)

  column_is : length so_far.column ≡ takers.len
  column_is = so_far.ends.count ∙ sym takers.ok.0

  pub row_room : ((from : ℕ) (row : Vec Putting Global) → from < length old → vec_len (get_or old from row) < vec_capacity (get_or old from row))
      → (row : Vec Putting Global) → row ≡ get_or now takers.len row → vec_len row < vec_capacity row
  row_room room row is =
      let same_row : row ≡ get_or old takers.len row = is ∙ so_far.added.same takers.len row (omega (arith, column_is)) in
      subst (λ (r : Vec Putting Global). vec_len r < vec_capacity r) (sym same_row)
      (room takers.len row (omega (arith, place_within, so_far.added.count)))

  module _ (putter : Putting) (taker : Taking) (settled : AreSettled putter taker) (is_link : taker.waiting ≡ link)
      (row pushed : Vec Putting Global) (later : Vec Taking Global) (is : row ≡ get_or now takers.len row)
      (items : pushed.items ≡ row.items ++ putter ∷ []) (capacity : vec_capacity pushed ≡ vec_capacity row)
      (more : later.items ≡ takers.items ++ taker ∷ []) (room_stays : vec_capacity later ≡ vec_capacity takers) where
    abbrev all : List (Vec Putting Global)
    all = set now takers.len pushed

    abbrev column : List Putting
    column = so_far.column ++ putter ∷ []

    column_length : length column ≡ takers.len + 1
    column_length = length-append so_far.column (putter ∷ []) ∙ ap (λ (n : ℕ). n + 1) column_is

    here : (other : Vec Putting Global) → get_or old takers.len other ≡ row
    here other =
        sym (so_far.added.same takers.len other (omega (arith, column_is)))
        ∙ get_or_default now takers.len other row place_within ∙ sym is

    last : (other : Putting) → get_or column takers.len other ≡ putter
    last other =
        ap (λ (n : ℕ). get_or column n other) (sym column_is) ∙ get_or-append_seam so_far.column putter [] other

    added_more : AreAdded old column all
    added_more = record {
      count = length-set now takers.len pushed ∙ so_far.added.count;
      few = omega (arith, column_length, place_within, so_far.added.count);
      added = λ from other end l.
          elim (cases_eq from takers.len) [
            | inl e ↦
                subst (λ (n : ℕ). (get_or all n other).items ≡ (get_or old n other).items ++ get_or column n end ∷ []) (sym e)
                (ap (λ (r : Vec Putting Global). r.items) (get_or-set_same now takers.len pushed other place_within)
                ∙ items
                ∙ ap (λ (r : Vec Putting Global). r.items ++ putter ∷ []) (sym (here other))
                ∙ ap (λ (p : Putting). (get_or old takers.len other).items ++ p ∷ []) (sym (last end)))
            | inr apart ↦
                let before : from < length so_far.column = omega (arith, l, apart, column_length, column_is) in
                ap (λ (r : Vec Putting Global). r.items) (get_or-set_other now takers.len from pushed other apart)
                ∙ so_far.added.added from other end before
                ∙ ap (λ (p : Putting). (get_or old from other).items ++ p ∷ [])
                (sym (get_or_append_left so_far.column (putter ∷ []) end from before))
          ];
      longer = λ from other l.
          elim (cases_eq from takers.len) [
            | inl e ↦
                subst (λ (n : ℕ). length (get_or all n other).items ≡ length (get_or old n other).items + 1) (sym e)
                (ap (λ (r : Vec Putting Global). length r.items) (get_or-set_same now takers.len pushed other place_within)
                ∙ ap (λ (l : List Putting). length l) items ∙ length-append row.items (putter ∷ [])
                ∙ ap (λ (r : Vec Putting Global). length r.items + 1) (sym (here other)))
            | inr apart ↦
                let before : from < length so_far.column = omega (arith, l, apart, column_length, column_is) in
                ap (λ (r : Vec Putting Global). length r.items) (get_or-set_other now takers.len from pushed other apart)
                ∙ so_far.added.longer from other before
          ];
      same = λ from other l.
          let apart : from ≡ takers.len → ⊥ = λ e. absurd (omega (arith, l, e, column_length)) in
          get_or-set_other now takers.len from pushed other apart
          ∙ so_far.added.same from other (omega (arith, l, column_length, column_is));
      capacity = λ from other.
          elim (cases_eq from takers.len) [
            | inl e ↦
                subst (λ (n : ℕ). vec_capacity (get_or all n other) ≡ vec_capacity (get_or old n other)) (sym e)
                (ap (λ (r : Vec Putting Global). vec_capacity r) (get_or-set_same now takers.len pushed other place_within)
                ∙ capacity ∙ ap (λ (r : Vec Putting Global). vec_capacity r) (sym (here other)))
            | inr apart ↦
                ap (λ (r : Vec Putting Global). vec_capacity r) (get_or-set_other now takers.len from pushed other apart)
                ∙ so_far.added.capacity from other
          ];
    }

    ends_more : AreColumn column later.items
    ends_more =
        let now_many : length later.items ≡ takers.len + 1 =
        ap (λ (l : List Taking). length l) more ∙ length-append takers.items (taker ∷ [])
        ∙ ap (λ (n : ℕ). n + 1) (sym takers.ok.0) in record {
          count = column_length ∙ sym now_many;
          settled = λ from end other l.
              elim (cases_eq from takers.len) [
                | inl e ↦
                    subst (λ (n : ℕ). AreSettled (get_or column n end) (get_or later.items n other)) (sym e)
                    (subst (λ (p : Putting). AreSettled p (get_or later.items takers.len other)) (sym (last end))
                    (subst (λ (t : Taking). AreSettled putter t)
                    (sym (ap (λ (l : List Taking). get_or l takers.len other) more
                    ∙ ap (λ (n : ℕ). get_or (takers.items ++ taker ∷ []) n other) takers.ok.0
                    ∙ get_or-append_seam takers.items taker [] other)) settled))
                | inr apart ↦
                    let before : from < length takers.items = omega (arith, l, apart, now_many, takers.ok.0) in
                    let in_column : from < length so_far.column = omega (arith, before, so_far.ends.count) in
                    subst (λ (p : Putting). AreSettled p (get_or later.items from other))
                    (sym (get_or_append_left so_far.column (putter ∷ []) end from in_column))
                    (subst (λ (t : Taking). AreSettled (get_or so_far.column from end) t)
                    (sym (ap (λ (l : List Taking). get_or l from other) more
                    ∙ get_or_append_left takers.items (taker ∷ []) other from before))
                    (so_far.ends.settled from end other before))
              ];
        }

    pub parted_more : IsPartedSoFar links old all later rest
    parted_more = record {
      column = column;
      added = added_more;
      ends = ends_more;
      waiting =
          ap (λ (l : List Taking). waits l ++ rest) more
          ∙ ap (λ (l : Waiting). l ++ rest) (map-append (λ (t : Taking). t.waiting) takers.items (taker ∷ []))
          ∙ append_assoc (waits takers.items) (taker.waiting ∷ []) rest
          ∙ ap (λ (f : List Bytes). waits takers.items ++ f ∷ rest) is_link
          ∙ so_far.waiting;
      room = omega (arith, so_far.room, room_stays);
    }

pub parted_all : (links : Waiting) (old now : List (Vec Putting Global)) (takers : Vec Taking Global) (rest : List (List Bytes))
    → rest ≡ [] → IsPartedSoFar links old now takers rest → IsParted links old now takers.items
parted_all links old now takers rest none so_far = record {
  column = so_far.column;
  added = so_far.added;
  ends = so_far.ends;
  waiting = sym (append-nil (waits takers.items)) ∙ ap (λ (l : List (List Bytes)). waits takers.items ++ l) (sym none) ∙ so_far.waiting;
}

-- ---- all links

pub first_gone : {X : Type 0} (old new : List X) (x : X) → 0 < length old → x ≡ get_or old 0 x → new ≡ remove old 0 → old ≡ x ∷ new
first_gone [] new x l is gone = absurd (omega arith)
first_gone (y ∷ ys) new x l is gone = ap (λ (z : _). z ∷ ys) (sym is) ∙ ap (λ (zs : _). x ∷ zs) (sym gone)

-- The links of some providers were taken apart; the others are left, and so are lists for them.
pub record AllPartedSoFar (count : ℕ) (all : List Waiting) (rows : List (Vec Putting Global)) (takers : Vec (List Taking) Global)
    (left : List Waiting) (trays : List (Vec Taking Global)) : Type 0 where
  pub senders : length rows ≡ count
  pub sizes : (from : ℕ) (row : Vec Putting Global) → from < count → length (get_or rows from row).items ≡ length takers.items
  pub capacity : (from : ℕ) (row : Vec Putting Global) → from < count → count ≤ vec_capacity (get_or rows from row)
  pub taking : (to : ℕ) → to < length takers.items → length (get_or takers.items to []) ≡ count
  pub settled : (from to : ℕ) (row : Vec Putting Global) (putter : Putting) (taker : Taking) → from < count → to < length takers.items
      → AreSettled (get_or (get_or rows from row).items to putter) (get_or (get_or takers.items to []) from taker)
  pub waiting : map waits takers.items ++ left ≡ all
  pub trays_left : length trays ≡ length left
  pub trays_are : All (HasRoom count) trays
  pub room : count ≤ vec_capacity takers

pub all_parted_none : (all : List Waiting) (rows : List (Vec Putting Global)) (takers : Vec (List Taking) Global) (trays : List (Vec Taking Global))
    → length rows ≡ length all → All (HasRoom (length all)) rows → length trays ≡ length all → All (HasRoom (length all)) trays
    → HasRoom (length all) takers → AllPartedSoFar (length all) all rows takers all trays
all_parted_none all rows takers trays senders rooms lists are has =
    let none : length takers.items ≡ 0 = ap (λ (l : List (List Taking)). length l) has.none in record {
      senders = senders;
      sizes = λ from row l.
          ap (λ (l : List Putting). length l) (rooms from row (omega (arith, l, senders))).none ∙ sym none;
      capacity = λ from row l. (rooms from row (omega (arith, l, senders))).room;
      taking = λ to l. absurd (omega (arith, l, none));
      settled = λ from to row putter taker l m. absurd (omega (arith, m, none));
      waiting = ap (λ (l : List (List Taking)). map waits l ++ all) has.none;
      trays_left = lists;
      trays_are = are;
      room = has.room;
    }

module _ (count : ℕ) (all : List Waiting) (rows : List (Vec Putting Global)) (takers : Vec (List Taking) Global)
    (links : Waiting) (left : List Waiting) (tray : Vec Taking Global) (trays : List (Vec Taking Global))
    (size : length all ≡ count) (square : (to : ℕ) → to < length all → length (waiting_for all to) ≡ length all)
    (so_far : AllPartedSoFar count all rows takers (links ∷ left) (tray ∷ trays)) where
  all_many : length takers.items + suc (length left) ≡ count
  all_many =
      ap (λ (n : ℕ). n + suc (length left)) (sym (length-map takers.items waits))
      ∙ sym (length-append (map waits takers.items) (links ∷ left))
      ∙ ap (λ (l : List Waiting). length l) so_far.waiting ∙ size

  pub list_room : takers.len < vec_capacity takers
  list_room = omega (arith, all_many, takers.ok.0, so_far.room)

  pub links_many : length links ≡ count
  links_many =
      let at : get_or all (length takers.items) [] ≡ links =
      ap (λ (l : List Waiting). get_or l (length takers.items) []) (sym so_far.waiting)
      ∙ get_or_at (map waits takers.items) links left [] (length takers.items) (length-map takers.items waits) in
      ap (λ (l : Waiting). length l) (sym at) ∙ square (length takers.items) (omega (arith, all_many, size)) ∙ size

  pub rows_many : length rows ≡ length links
  rows_many = so_far.senders ∙ sym links_many

  pub rows_room : (from : ℕ) (row : Vec Putting Global) → from < length rows → vec_len (get_or rows from row) < vec_capacity (get_or rows from row)
  rows_room from row l =
      let within : from < count = omega (arith, l, so_far.senders) in
      let e = so_far.sizes from row within in
      let c = so_far.capacity from row within in
      let k = (get_or rows from row).ok.0 in
      omega (arith, all_many, e, c, k)

  pub tray_room : HasRoom (length links) tray
  tray_room = subst (λ (n : ℕ). HasRoom n tray) (sym links_many) (so_far.trays_are 0 tray (omega arith))

  module _ (later_rows : List (Vec Putting Global)) (row : List Taking) (later : Vec (List Taking) Global)
      (parted : IsParted links rows later_rows row) (more : later.items ≡ takers.items ++ row ∷ [])
      (room_stays : vec_capacity later ≡ vec_capacity takers) where
    row_many : length row ≡ count
    row_many = sym (length-map row (λ (t : Taking). t.waiting)) ∙ ap (λ (l : Waiting). length l) parted.waiting ∙ links_many

    column_many : length parted.column ≡ count
    column_many = parted.ends.count ∙ row_many

    later_many : length later.items ≡ length takers.items + 1
    later_many = ap (λ (l : List (List Taking)). length l) more ∙ length-append takers.items (row ∷ [])

    last_row : get_or later.items (length takers.items) [] ≡ row
    last_row =
        ap (λ (l : List (List Taking)). get_or l (length takers.items) []) more ∙ get_or-append_seam takers.items row [] []

    front_row : (to : ℕ) → to < length takers.items → get_or later.items to [] ≡ get_or takers.items to []
    front_row to l =
        ap (λ (l : List (List Taking)). get_or l to []) more ∙ get_or_append_left takers.items (row ∷ []) [] to l

    row_is : (from : ℕ) (other : Vec Putting Global) (putter : Putting) → from < count
        → (get_or later_rows from other).items ≡ (get_or rows from other).items ++ get_or parted.column from putter ∷ []
    row_is from other putter l = parted.added.added from other putter (omega (arith, l, column_many))

    pub all_parted_more : AllPartedSoFar count all later_rows later left trays
    all_parted_more = record {
      senders = parted.added.count ∙ so_far.senders;
      sizes = λ from other l.
          parted.added.longer from other (omega (arith, l, column_many))
          ∙ ap (λ (n : ℕ). n + 1) (so_far.sizes from other l) ∙ sym later_many;
      capacity = λ from other l.
          let e = parted.added.capacity from other in
          let c = so_far.capacity from other l in
          omega (arith, e, c);
      taking = λ to l.
          elim (cases_eq to (length takers.items)) [
            | inl e ↦
                ap (λ (n : ℕ). length (get_or later.items n [])) e ∙ ap (λ (l : List Taking). length l) last_row ∙ row_many
            | inr apart ↦
                let before : to < length takers.items = omega (arith, l, apart, later_many) in
                ap (λ (l : List Taking). length l) (front_row to before) ∙ so_far.taking to before
          ];
      settled = λ from to other putter taker l m.
          let old = (get_or rows from other).items in
          let end = get_or parted.column from putter in
          elim (cases_eq to (length takers.items)) [
            | inl e ↦
                let puts : get_or (get_or later_rows from other).items (length takers.items) putter ≡ end =
                ap (λ (l : List Putting). get_or l (length takers.items) putter) (row_is from other putter l)
                ∙ ap (λ (n : ℕ). get_or (old ++ end ∷ []) n putter) (sym (so_far.sizes from other l))
                ∙ get_or-append_seam old end [] putter in
                let takes : get_or (get_or later.items (length takers.items) []) from taker ≡ get_or row from taker =
                ap (λ (r : List Taking). get_or r from taker) last_row in
                subst (λ (n : ℕ). AreSettled (get_or (get_or later_rows from other).items n putter) (get_or (get_or later.items n []) from taker)) (sym e)
                (subst (λ (p : Putting). AreSettled p (get_or (get_or later.items (length takers.items) []) from taker)) (sym puts)
                (subst (λ (t : Taking). AreSettled end t) (sym takes)
                (parted.ends.settled from putter taker (omega (arith, l, row_many)))))
            | inr apart ↦
                let before : to < length takers.items = omega (arith, m, apart, later_many) in
                let s = so_far.sizes from other l in
                let puts : get_or (get_or later_rows from other).items to putter ≡ get_or old to putter =
                ap (λ (l : List Putting). get_or l to putter) (row_is from other putter l)
                ∙ get_or_append_left old (end ∷ []) putter to (omega (arith, before, s)) in
                let takes : get_or (get_or later.items to []) from taker ≡ get_or (get_or takers.items to []) from taker =
                ap (λ (r : List Taking). get_or r from taker) (front_row to before) in
                subst (λ (p : Putting). AreSettled p (get_or (get_or later.items to []) from taker)) (sym puts)
                (subst (λ (t : Taking). AreSettled (get_or old to putter) t) (sym takes)
                (so_far.settled from to other putter taker l before))
          ];
      waiting =
          ap (λ (l : List (List Taking)). map waits l ++ left) more
          ∙ ap (λ (l : List Waiting). l ++ left) (map-append waits takers.items (row ∷ []))
          ∙ append_assoc (map waits takers.items) (waits row ∷ []) left
          ∙ ap (λ (w : Waiting). map waits takers.items ++ w ∷ left) parted.waiting
          ∙ so_far.waiting;
      trays_left = let e = so_far.trays_left in omega (arith, e);
      trays_are = λ k other l. so_far.trays_are (suc k) other (omega (arith, l));
      room = omega (arith, so_far.room, room_stays);
    }

-- an element, as it is and as a list
pub element : (rows : List (Vec Putting Global)) (from : ℕ) → from < length rows
    → (row : Vec Putting Global) × (get_or rows from row ≡ row) × (get_or (ends_in rows) from [] ≡ row.items)
element [] from l = absurd (omega arith)
element (row ∷ rows) zero l = (row, refl, refl)
element (row ∷ rows) (suc from) l = element rows from (omega arith)

pub all_parted : (count : ℕ) (all : List Waiting) (rows : List (Vec Putting Global)) (takers : Vec (List Taking) Global)
    (left : List Waiting) (trays : List (Vec Taking Global))
    → length all ≡ count → trays ≡ [] → AllPartedSoFar count all rows takers left trays
    → AreRows AreSettled count (ends_in rows) takers.items × (map waits takers.items ≡ all) × (left ≡ [])
all_parted count all rows takers left trays size gone so_far =
    let none : left ≡ [] = nil_from_length left (sym so_far.trays_left ∙ ap (λ (l : List (Vec Taking Global)). length l) gone) in
    let waiting : map waits takers.items ≡ all =
    sym (append-nil (map waits takers.items)) ∙ ap (λ (l : List Waiting). map waits takers.items ++ l) (sym none) ∙ so_far.waiting in
    let many : length takers.items ≡ count =
    sym (length-map takers.items waits) ∙ ap (λ (l : List Waiting). length l) waiting ∙ size in (
      record {
        senders = length-map rows (λ (row : Vec Putting Global). row.items) ∙ so_far.senders;
        addressees = many;
        putting = λ from l.
            let one = element rows from (omega (arith, l, so_far.senders)) in
            ap (λ (l : List Putting). length l) one.2 ∙ ap (λ (r : Vec Putting Global). length r.items) (sym one.1)
            ∙ so_far.sizes from one.0 l ∙ many;
        taking = λ to l. so_far.taking to (omega (arith, l, many));
        ends = λ from to putter taker l m.
            let one = element rows from (omega (arith, l, so_far.senders)) in
            let same : (get_or rows from one.0).items ≡ get_or (ends_in rows) from [] =
            ap (λ (r : Vec Putting Global). r.items) one.1 ∙ sym one.2 in
            subst (λ (r : List Putting). AreSettled (get_or r to putter) (get_or (get_or takers.items to []) from taker)) same
            (so_far.settled from to one.0 putter taker l (omega (arith, m, many)));
      },
      waiting,
      none,
    )
