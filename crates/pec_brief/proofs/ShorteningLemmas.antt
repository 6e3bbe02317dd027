-- Where shortening stands behind some parts.
use Rattle.std.proofs.Common.{◌≡◌, ◌≤◌, ◌<◌, ℕ, zero, suc, ◌+◌, ◌-◌, List, [], ◌∷◌, ◌++◌, length, take, drop, Some, None, option_map, slice_get, sym, ap, subst, refl, ◌∙◌, append_assoc, length-append, nat_le, arith}
use Rattle.std.proofs.lemmas.List.{drop_all}
use Rattle.std.proofs.lemmas.Option.{same_Some}
use Rattle.pec_types.specs.Bytes.{Bytes}
use Rattle.pec_heads.specs.Heads.{NamedValue}
use Rattle.pec_bodies.specs.Multiparts.{ReadPart, StandInOrder, with_parts}
use Rattle.pec_brief.proofs.BriefLemmas.{none_past}
use Rattle.pec_brief.specs.BriefForm.{brief_part, shortened}
use Rattle.pec_brief.specs.BriefReading.{within_limit}
use Rattle.pec_brief.specs.declared.TheConstants.{BRIEF_LIMIT}

-- Of a message with its body from a place on and these parts, so many parts are done, up to a place of the body, and this was put.
pub record Underway (original : Bytes) (place : ℕ) (parts : List ReadPart) (done past : ℕ) (out : Bytes) : Type 0 where
  pub order : StandInOrder past (drop place original) (drop done parts)
  pub whole : out ++ with_parts brief_part past (drop place original) (drop done parts) ≡ shortened original place parts

-- the part at a place, by what is seen of it
abbrev pub seen_part : ℕ → Bytes → List NamedValue → Bytes → ReadPart
seen_part start whole head body = record { start = start; whole = whole; head = head; body = body }

same_part : (part : ReadPart) (start : ℕ) (whole : Bytes) (head : List NamedValue) (body : Bytes)
    → start ≡ part.start → whole ≡ part.whole → head ≡ part.head → body ≡ part.body → part ≡ seen_part start whole head body
same_part part start whole head body e f g h =
    ap (λ s. seen_part s part.whole part.head part.body) (sym e) ∙ ap (λ w. seen_part start w part.head part.body) (sym f)
    ∙ ap (λ fields. seen_part start whole fields part.body) (sym g) ∙ ap (λ b. seen_part start whole head b) (sym h)

-- the parts from a place on begin with the one that is there
pub part_there : (i : ℕ) (parts : List ReadPart) (start : ℕ) (whole : Bytes) (head : List NamedValue) (body : Bytes)
    → Some start ≡ option_map (λ (part : ReadPart). part.start) (slice_get parts i)
    → Some whole ≡ option_map (λ (part : ReadPart). part.whole) (slice_get parts i)
    → Some head ≡ option_map (λ (part : ReadPart). part.head) (slice_get parts i)
    → Some body ≡ option_map (λ (part : ReadPart). part.body) (slice_get parts i)
    → drop i parts ≡ seen_part start whole head body ∷ drop (suc i) parts
part_there zero [] start whole head body e f g h = absurd cc
part_there (suc i) [] start whole head body e f g h = absurd cc
part_there zero (part ∷ parts) start whole head body e f g h =
    ap (λ p. p ∷ parts)
    (same_part part start whole head body (same_Some start part.start e) (same_Some whole part.whole f) (same_Some head part.head g)
    (same_Some body part.body h))
part_there (suc i) (part ∷ parts) start whole head body e f g h = part_there i parts start whole head body e f g h

-- what stands in order ends in the body
order_within : (past : ℕ) (body : Bytes) (parts : List ReadPart) → StandInOrder past body parts → past ≤ length body
order_within past body [] order = order
order_within past body (part ∷ parts) order =
    let before : past < part.start = order.0
    in let behind : part.start + length part.whole ≤ length body = order_within (part.start + length part.whole) body parts order.1.1
    in omega arith

module _ (original : Bytes) (place : ℕ) (parts : List ReadPart) (done past : ℕ) (out : Bytes) (underway : Underway original place parts done past out) where
  -- ---- the next part

  module _ (part : ReadPart) (there : drop done parts ≡ part ∷ drop (suc done) parts) where
    order_here : StandInOrder past (drop place original) (part ∷ drop (suc done) parts)
    order_here = subst (λ ps. StandInOrder past (drop place original) ps) there underway.order

    -- it begins behind what was put, and ends in the body
    pub begins_behind : past ≤ part.start
    begins_behind = let before : past < part.start = order_here.0 in omega arith

    pub ends_within : part.start + length part.whole ≤ length (drop place original)
    ends_within = order_within (part.start + length part.whole) (drop place original) (drop (suc done) parts) order_here.1.1

    -- what stands behind it, once something stands in its place
    pub next_underway : (gap more : Bytes) → gap ≡ out ++ take (part.start - past) (drop past (drop place original))
        → more ≡ gap ++ brief_part part → Underway original place parts (done + 1) (part.start + length part.whole) more
    next_underway gap more e f =
        let body = drop place original
        in let next = part.start + length part.whole
        in let rest = with_parts brief_part next body (drop (suc done) parts)
        in let same : suc done ≡ done + 1 = omega arith
        in let put : more ++ rest ≡ shortened original place parts =
        ap (λ text. text ++ rest) (f ∙ ap (λ text. text ++ brief_part part) e)
        ∙ append_assoc (out ++ take (part.start - past) (drop past body)) (brief_part part) rest
        ∙ append_assoc out (take (part.start - past) (drop past body)) (brief_part part ++ rest)
        ∙ ap (λ ps. out ++ with_parts brief_part past body ps) (sym there) ∙ underway.whole
        in record {
          order = subst (λ k. StandInOrder next body (drop k parts)) same order_here.1.1;
          whole = subst (λ k. more ++ with_parts brief_part next body (drop k parts) ≡ shortened original place parts) same put;
        }

  -- ---- the end

  -- what was put is too long already
  pub grown : BRIEF_LIMIT < length out → None ≡ within_limit (shortened original place parts)
  grown long =
      let all = shortened original place parts
      in let rest = with_parts brief_part past (drop place original) (drop done parts)
      in let longer : BRIEF_LIMIT < length all = omega (arith, length-append out rest, ap length underway.whole)
      in sym (none_past all longer (nat_le (length all) BRIEF_LIMIT) refl)

  -- no part is left
  pub past_within : length parts ≤ done → past ≤ length (drop place original)
  past_within all = order_within past (drop place original) (drop done parts) underway.order

  pub all_put : length parts ≤ done → out ++ drop past (drop place original) ≡ shortened original place parts
  all_put all =
      ap (λ ps. out ++ with_parts brief_part past (drop place original) ps) (sym (drop_all done parts all)) ∙ underway.whole
