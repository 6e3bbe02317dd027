-- One taker of a row has taken a frame; frames are put at the ends of a row.
use Rattle.std.proofs.Common.{◌≡◌, ℕ, ◌-◌, ◌<◌, ◌≤◌, List, [], ◌∷◌, ◌++◌, inl, inr, length, get_or, set, refl, ap, sym, subst, ◌∙◌, arith, append_assoc, length-append}
use Rattle.std.proofs.Math.Seq.{get_or-append_seam}
use Rattle.std.proofs.lemmas.Bool.{cases_eq}
use Rattle.std.proofs.lemmas.List.{append-nil, get_or-set_other, get_or-set_same, get_or_append_left, get_or_default, get_or_past, length-set}
use Rattle.pec_types.specs.Bytes.{Bytes}
use Rattle.pec_link.specs.Ends.{Putting, Ring, Taking}
use Rattle.pec_plays.specs.Turns.{without_first}
use Rattle.pec_rows.specs.Rows.{ArePut, CanPut, Known, known}

knowns_same : (a b : Ring) (x y : List Bytes) → a ≡ b → x ≡ y
    → (let one : Known = record { ring = a; frames = x } in let other : Known = record { ring = b; frames = y } in one ≡ other)
knowns_same a b x y e f = rw (e, f) refl

pub take_keeps : (old new : Taking) (taken : List Bytes) → new.ring ≡ old.ring → new.taken ≡ old.taken ++ taken
    → old.waiting ≡ taken ++ new.waiting → known new ≡ known old
take_keeps old new taken ring one two =
    knowns_same new.ring old.ring (new.taken ++ new.waiting) (old.taken ++ old.waiting) ring
    (ap (λ (l : List Bytes). l ++ new.waiting) one ∙ append_assoc old.taken taken new.waiting
    ∙ ap (λ (l : List Bytes). old.taken ++ l) (sym two))

without_none : (links : List (List Bytes)) → without_first 0 links ≡ links
without_none [] = refl
without_none (link ∷ links) =
    let none : 0 - length link ≡ 0 = omega arith in
    rw none (ap (λ (more : List (List Bytes)). link ∷ more) (without_none links))

-- the first frame of the first link
pub without_one : (frame : Bytes) (link : List Bytes) (links : List (List Bytes))
    → without_first 1 ((frame ∷ link) ∷ links) ≡ link ∷ links
without_one frame link links =
    let none : 1 - length (frame ∷ link) ≡ 0 = omega arith in
    rw none (ap (λ (more : List (List Bytes)). link ∷ more) (without_none links))

-- ---- frames are put, from the last addressee on

-- How far it has come, where these lists are left to be put.
pub record IsFar (old : List Putting) (all : List (List Bytes)) (now : List Putting) (left : List (List Bytes)) : Type 0 where
  pub count : length now ≡ length old
  pub few : length left ≤ length all
  pub same : (to : ℕ) → to < length left → get_or left to [] ≡ get_or all to []
  pub others : (to : ℕ) (other : Putting) → to < length left → get_or now to other ≡ get_or old to other
  pub ring : (to : ℕ) (other : Putting) → length left ≤ to → to < length old → (get_or now to other).ring ≡ (get_or old to other).ring
  pub put : (to : ℕ) (other : Putting) → length left ≤ to → to < length old
      → (get_or now to other).put ≡ (get_or old to other).put ++ get_or all to []

pub far_begun : (old : List Putting) (all : List (List Bytes)) → IsFar old all old all
far_begun old all = record {
  count = refl;
  few = omega arith;
  same = λ to l. refl;
  others = λ to other l. refl;
  ring = λ to other past l. refl;
  put = λ to other past l.
      sym (append-nil (get_or old to other).put) ∙ ap (λ (l : List Bytes). (get_or old to other).put ++ l) (sym (get_or_past all to [] past));
}

module _ (old now : List Putting) (all left rest : List (List Bytes)) (frames : List Bytes) (at : ℕ) (before : Putting)
    (can : CanPut old all) (far : IsFar old all now left) (whole : left ≡ rest ++ frames ∷ []) (place : at ≡ length rest)
    (is : before ≡ get_or now at before) where
  here : at < length left
  here = omega (arith, place, ap length whole, length-append rest (frames ∷ []))

  within : at < length old
  within = omega (arith, here, far.few, can.addressees)

  pub index_within : at < length now
  index_within = omega (arith, within, far.count)

  -- it is as it was, and these are its frames
  before_is : (other : Putting) → before ≡ get_or old at other
  before_is other = is ∙ get_or_default now at before other index_within ∙ far.others at other here

  frames_are : frames ≡ get_or all at []
  frames_are =
      sym (get_or-append_seam rest frames [] [])
      ∙ ap (λ (n : ℕ). get_or (rest ++ frames ∷ []) n []) (sym place)
      ∙ ap (λ (l : List (List Bytes)). get_or l at []) (sym whole)
      ∙ far.same at here

  pub frees : length frames ≤ before.free
  frees =
      let free : length (get_or all at []) ≤ (get_or old at before).free = can.free at before (omega (arith, here, far.few)) in
      omega (arith, free, ap length frames_are, ap (λ (p : Putting). p.free) (before_is before))

  pub far_more : (after : Putting) (given : List Bytes) → given ≡ frames → after.ring ≡ before.ring → after.put ≡ before.put ++ given
      → IsFar old all (set now at after) rest
  far_more after given same ring put = record {
    count = length-set now at after ∙ far.count;
    few = omega (arith, far.few, ap length whole, length-append rest (frames ∷ []));
    same = λ to l.
        sym (get_or_append_left rest (frames ∷ []) [] to l) ∙ ap (λ (x : List (List Bytes)). get_or x to []) (sym whole)
        ∙ far.same to (omega (arith, l, here, place));
    others = λ to other l.
        get_or-set_other now at to after other (λ e. omega (arith, l, place, e)) ∙ far.others to other (omega (arith, l, here, place));
    ring = λ to other past l.
        elim (cases_eq to at) [
          | inl e ↦ subst (λ (n : ℕ). (get_or (set now at after) n other).ring ≡ (get_or old n other).ring) (sym e)
              (ap (λ (p : Putting). p.ring) (get_or-set_same now at after other index_within) ∙ ring ∙ ap (λ (p : Putting). p.ring) (before_is other))
          | inr e ↦ ap (λ (p : Putting). p.ring) (get_or-set_other now at to after other e)
              ∙ far.ring to other (omega (arith, past, e, place, ap length whole, length-append rest (frames ∷ []))) l
        ];
    put = λ to other past l.
        elim (cases_eq to at) [
          | inl e ↦ subst (λ (n : ℕ). (get_or (set now at after) n other).put ≡ (get_or old n other).put ++ get_or all n []) (sym e)
              (ap (λ (p : Putting). p.put) (get_or-set_same now at after other index_within) ∙ put
              ∙ ap (λ (p : Putting). p.put ++ given) (before_is other)
              ∙ ap (λ (x : List Bytes). (get_or old at other).put ++ x) (same ∙ frames_are))
          | inr e ↦ ap (λ (p : Putting). p.put) (get_or-set_other now at to after other e)
              ∙ far.put to other (omega (arith, past, e, place, ap length whole, length-append rest (frames ∷ []))) l
        ];
  }

pub all_put : (old now : List Putting) (all left : List (List Bytes)) → IsFar old all now left → length left ≡ 0 → ArePut old all now
all_put old now all left far none = record {
  count = far.count;
  ring = λ to other l. far.ring to other (omega (arith, none)) l;
  put = λ to other l. far.put to other (omega (arith, none)) l;
}
