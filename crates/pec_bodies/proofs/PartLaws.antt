-- Parts with their heads, and whole bodies: what reading gives is what `Multiparts` says, and nothing else is.
use Rattle.std.proofs.Common.{◌≡◌, ℕ, ◌+◌, ◌⊎◌, inl, inr, List, [], ◌∷◌, ◌++◌, map, length, drop, Option, Some, None, Result, Ok, Err, refl, ap, sym, ◌∙◌, arith, append_assoc, length-append, suc, zero-add}
use Rattle.std.proofs.lemmas.List.{append-nil}
use Rattle.pec_types.specs.Answers.{TellsExactly}
use Rattle.pec_types.specs.Results.{◌>>=◌}
use Rattle.pec_heads.specs.HeadReading.{read_of}
use Rattle.pec_heads.specs.Heads.{NamedValue, IsHead, IsFaulty, IsRead}
use Rattle.pec_heads.specs.declared.faults.HeadFault.{HeadFault}
use Rattle.pec_bodies.proofs.AnswerLemmas.{ok_is, err_is}
use Rattle.pec_bodies.proofs.BoundaryLaws.{boundary_again, boundary_says, no_boundary_again, no_boundary_says}
use Rattle.pec_bodies.proofs.CutLaws.{CutSays, cut_says, cut_again, no_opening_again, no_closing_again}
use Rattle.pec_bodies.specs.Multiparts.{AreParts, HasBadHead, HasFault, HasFaultOf, HasParts, IsBodyFault, IsMultipart, IsPart, IsParts, Span, ReadPart, bytes_in}
use Rattle.pec_bodies.specs.Parameters.{IsBoundary}
use Rattle.pec_bodies.specs.ParametersReading.{boundary_of}
use Rattle.pec_bodies.specs.PartsReading.{PlacedBytes, cut_of, parts_behind, parts_from, parts_of, placed_at, read_part}
use Rattle.pec_bodies.specs.declared.faults.BodyFault.{BodyFault}
use Rattle.pec_bodies.specs.declared.faults.BodyFault.TheVariants.{NoBoundary, NoOpening, NoClosing, PartHead, NoMemory}

-- a part that isn't read stops the reading
pub stopped : (parts : List ReadPart) (i : ℕ) (whole : PlacedBytes) (wholes : List PlacedBytes) (fault : BodyFault) → i ≡ length parts → read_part i whole (read_of whole.bytes) ≡ Err fault
    → parts_from parts (whole ∷ wholes) ≡ Err fault
stopped parts i whole wholes fault e h =
    ap (λ r. r >>= λ part. parts_from (parts ++ part ∷ []) wholes) (ap (λ k. read_part k whole (read_of whole.bytes)) (sym e) ∙ h)

-- what the law of heads says of its reader
module _ (heads : (text : List ℕ) → TellsExactly (IsRead text) (IsFaulty text) (read_of text)) where
  -- ---- a head

  abbrev ReadSays : List ℕ → Result (List NamedValue × ℕ) HeadFault → Type 0
  ReadSays whole (Ok read) = IsHead whole read.0 read.1
  ReadSays whole (Err fault) = IsFaulty whole fault

  read_says : (whole : List ℕ) → ReadSays whole (read_of whole)
  read_says whole = by_result whole (read_of whole) refl
    where
      by_result : (whole : List ℕ) (r : Result (List NamedValue × ℕ) HeadFault) → read_of whole ≡ r → ReadSays whole r
      by_result whole (Ok read) e = ((heads whole).value read).0 e
      by_result whole (Err fault) e = ((heads whole).fault fault).0 e

  read_again : (whole : List ℕ) (fields : List NamedValue) (place : ℕ) → IsHead whole fields place → read_of whole ≡ Ok (fields, place)
  read_again whole fields place h = ((heads whole).value (fields, place)).1 h

  bad_again : (whole : List ℕ) (fault : HeadFault) → IsFaulty whole fault → read_of whole ≡ Err fault
  bad_again whole fault h = ((heads whole).fault fault).1 h

  -- ---- all heads

  record Found (body : List ℕ) (parts : List ReadPart) (places : List Span) (read : List ReadPart) : Type 0 where
    more : List ReadPart
    read_is : read ≡ parts ++ more
    are : AreParts body places more

  record Bad (body : List ℕ) (number : ℕ) (places : List Span) (i : ℕ) (fault : HeadFault) : Type 0 where
    first : ℕ
    bad : HasBadHead body places first fault
    number_is : i ≡ number + first

  abbrev PartsSay : List ℕ → List ReadPart → List Span → Result (List ReadPart) BodyFault → Type 0
  PartsSay body parts places (Ok read) = Found body parts places read
  PartsSay body parts places (Err (PartHead i fault)) = Bad body (length parts) places i fault
  PartsSay body parts places (Err NoBoundary) = ⊥
  PartsSay body parts places (Err NoOpening) = ⊥
  PartsSay body parts places (Err NoClosing) = ⊥
  PartsSay body parts places (Err NoMemory) = ⊥

  part_later : (body : List ℕ) (parts : List ReadPart) (place : Span) (places : List Span) (part : ReadPart) (r : Result (List ReadPart) BodyFault) → IsPart body place part
      → PartsSay body (parts ++ part ∷ []) places r → PartsSay body parts (place ∷ places) r
  part_later body parts place places part (Ok read) p h = record { more = part ∷ h.more; read_is = h.read_is ∙ append_assoc parts (part ∷ []) h.more; are = (p, h.are) }
  part_later body parts place places part (Err (PartHead i fault)) p h = record {
    first = h.first + 1;
    bad = record {
      front = place ∷ h.bad.front;
      place = h.bad.place;
      back = h.bad.back;
      before = part ∷ h.bad.before;
      places_are = ap (λ ps. place ∷ ps) h.bad.places_are;
      before_are = (p, h.bad.before_are);
      number = omega (arith, h.bad.number);
      faulty = h.bad.faulty;
    };
    number_is = omega (arith, h.number_is, length-append parts (part ∷ []));
  }
  part_later body parts place places part (Err NoBoundary) p h = h
  part_later body parts place places part (Err NoOpening) p h = h
  part_later body parts place places part (Err NoClosing) p h = h
  part_later body parts place places part (Err NoMemory) p h = h

  part_step : (body : List ℕ) (parts : List ReadPart) (place : Span) (places : List Span) (r : Result (List NamedValue × ℕ) HeadFault) → ReadSays (bytes_in body place) r
      → ((part : ReadPart) → PartsSay body (parts ++ part ∷ []) places (parts_from (parts ++ part ∷ []) (map (placed_at body) places)))
      → PartsSay body parts (place ∷ places) (read_part (length parts) (placed_at body place) r >>= λ part. parts_from (parts ++ part ∷ []) (map (placed_at body) places))
  part_step body parts place places (Ok read) h ih =
      let part : ReadPart = record { start = place.start; whole = bytes_in body place; head = read.0; body = drop read.1 (bytes_in body place) }
      in let is : IsPart body place part = record { start_is = refl; whole_is = refl; headed = record { place = read.1; head_is = h; body_is = refl } }
      in part_later body parts place places part (parts_from (parts ++ part ∷ []) (map (placed_at body) places)) is (ih part)
  part_step body parts place places (Err fault) h ih = record {
    first = 0;
    bad = record { front = []; place = place; back = places; before = []; places_are = refl; before_are = tt; number = refl; faulty = h };
    number_is = omega arith;
  }

  parts_say : (body : List ℕ) (parts : List ReadPart) (places : List Span) → PartsSay body parts places (parts_from parts (map (placed_at body) places))
  parts_say body parts [] = record { more = []; read_is = sym (append-nil parts); are = tt }
  parts_say body parts (place ∷ places) =
      part_step body parts place places (read_of (bytes_in body place)) (read_says (bytes_in body place)) (λ part. parts_say body (parts ++ part ∷ []) places)

  part_is : (body : List ℕ) (place : Span) (part : ReadPart) (i : ℕ) → IsPart body place part → read_part i (placed_at body place) (read_of (bytes_in body place)) ≡ Ok part
  part_is body place part i h =
      ap (λ bytes. read_part i (record { start = place.start; bytes = bytes }) (read_of bytes)) (sym h.whole_is)
      ∙ ap (read_part i (record { start = place.start; bytes = part.whole })) (read_again part.whole part.head h.headed.place h.headed.head_is)
      ∙ ap (λ behind. Ok (record { start = place.start; whole = part.whole; head = part.head; body = behind })) (sym h.headed.body_is)
      ∙ ap (λ start. Ok (record { start = start; whole = part.whole; head = part.head; body = part.body })) (sym h.start_is)

  parts_again : (body : List ℕ) (parts : List ReadPart) (front back : List Span) (more : List ReadPart) → AreParts body front more
      → parts_from parts (map (placed_at body) (front ++ back)) ≡ parts_from (parts ++ more) (map (placed_at body) back)
  parts_again body parts [] back [] h = ap (λ ps. parts_from ps (map (placed_at body) back)) (sym (append-nil parts))
  parts_again body parts [] back (part ∷ more) h = absurd h
  parts_again body parts (place ∷ front) back [] h = absurd h
  parts_again body parts (place ∷ front) back (part ∷ more) h =
      ap (λ r. r >>= λ p. parts_from (parts ++ p ∷ []) (map (placed_at body) (front ++ back))) (part_is body place part (length parts) h.0)
      ∙ parts_again body (parts ++ part ∷ []) front back more h.1
      ∙ ap (λ ps. parts_from ps (map (placed_at body) back)) (append_assoc parts (part ∷ []) more)

  same_number : (body : List ℕ) (front : List Span) (more : List ReadPart) → AreParts body front more → length more ≡ length front
  same_number body [] [] h = refl
  same_number body [] (part ∷ more) h = absurd h
  same_number body (place ∷ front) [] h = absurd h
  same_number body (place ∷ front) (part ∷ more) h = ap (λ n. suc n) (same_number body front more h.1)

  bad_head_again : (body : List ℕ) (places : List Span) (i : ℕ) (fault : HeadFault) → HasBadHead body places i fault → parts_from [] (map (placed_at body) places) ≡ Err (PartHead i fault)
  bad_head_again body places i fault h =
      ap (λ ps. parts_from [] (map (placed_at body) ps)) h.places_are
      ∙ parts_again body [] h.front (h.place ∷ h.back) h.before h.before_are
      ∙ ap (λ r. read_part (length h.before) (placed_at body h.place) r >>= λ p. parts_from (h.before ++ p ∷ []) (map (placed_at body) h.back)) (bad_again (bytes_in body h.place) fault h.faulty)
      ∙ ap (λ k. Err (PartHead k fault)) (same_number body h.front h.before h.before_are ∙ sym h.number)

  -- ---- whole bodies

  abbrev BodySays : List NamedValue → List ℕ → Result (List ReadPart) BodyFault → Type 0
  BodySays head body (Ok parts) = IsParts head body parts
  BodySays head body (Err fault) = IsBodyFault head body fault

  by_places : (head : List NamedValue) (body boundary : List ℕ) (places : List Span) → IsBoundary head boundary → IsMultipart boundary body places → (r : Result (List ReadPart) BodyFault)
      → PartsSay body [] places r → BodySays head body r
  by_places head body boundary places e m (Ok read) h =
      rw h.read_is record { boundary = boundary; places = places; boundary_is = e; multipart = m; parts_are = h.are }
  by_places head body boundary places e m (Err (PartHead i fault)) h =
      inr (boundary, (e, record { places = places; multipart = m; bad = rw (h.number_is, zero-add) h.bad }))
  by_places head body boundary places e m (Err NoBoundary) h = absurd h
  by_places head body boundary places e m (Err NoOpening) h = absurd h
  by_places head body boundary places e m (Err NoClosing) h = absurd h
  by_places head body boundary places e m (Err NoMemory) h = absurd h

  by_cut : (head : List NamedValue) (body boundary : List ℕ) → IsBoundary head boundary → (r : Result (List PlacedBytes) BodyFault) → CutSays boundary body r
      → BodySays head body (r >>= λ wholes. parts_from [] wholes)
  by_cut head body boundary e (Ok wholes) h =
      rw h.1.1 (by_places head body boundary h.0 e h.1.0 (parts_from [] (map (placed_at body) h.0)) (parts_say body [] h.0))
  by_cut head body boundary e (Err NoOpening) h = inr (boundary, (e, h))
  by_cut head body boundary e (Err NoClosing) h = inr (boundary, (e, h))
  by_cut head body boundary e (Err NoBoundary) h = absurd h
  by_cut head body boundary e (Err (PartHead i fault)) h = absurd h
  by_cut head body boundary e (Err NoMemory) h = absurd h

  by_boundary : (head : List NamedValue) (body : List ℕ) (o : Option (List ℕ)) → boundary_of head ≡ o → BodySays head body (parts_behind body o)
  by_boundary head body None e = inl (no_boundary_says head e, refl)
  by_boundary head body (Some boundary) e = by_cut head body boundary (boundary_says head boundary e) (cut_of boundary body) (cut_says boundary body)

  body_says : (head : List NamedValue) (body : List ℕ) → BodySays head body (parts_of head body)
  unfolding parts_of
  body_says head body = by_boundary head body (boundary_of head) refl

  parts_are_again : (head : List NamedValue) (body : List ℕ) (parts : List ReadPart) → IsParts head body parts → parts_of head body ≡ Ok parts
  unfolding parts_of
  parts_are_again head body parts h =
      ap (parts_behind body) (boundary_again head h.boundary h.boundary_is)
      ∙ ap (λ r. r >>= λ wholes. parts_from [] wholes) (cut_again h.boundary body h.places h.multipart)
      ∙ ap (λ ps. parts_from [] (map (placed_at body) ps)) (sym (append-nil h.places))
      ∙ parts_again body [] h.places [] parts h.parts_are

  fault_by : (head : List NamedValue) (body boundary : List ℕ) (fault : BodyFault) → HasFault boundary body fault → parts_behind body (Some boundary) ≡ Err fault
  fault_by head body boundary NoBoundary h = absurd h
  fault_by head body boundary NoOpening h = ap (λ r. r >>= λ wholes. parts_from [] wholes) (no_opening_again boundary body h)
  fault_by head body boundary NoClosing h = ap (λ r. r >>= λ wholes. parts_from [] wholes) (no_closing_again boundary body h)
  fault_by head body boundary (PartHead i fault) h =
      ap (λ r. r >>= λ wholes. parts_from [] wholes) (cut_again boundary body h.places h.multipart) ∙ bad_head_again body h.places i fault h.bad
  fault_by head body boundary NoMemory h = absurd h

  fault_again : (head : List NamedValue) (body : List ℕ) (fault : BodyFault) → IsBodyFault head body fault → parts_of head body ≡ Err fault
  unfolding parts_of
  fault_again head body fault h =
      elim h [ inl n ↦ ap (parts_behind body) (no_boundary_again head n.0) ∙ ap Err (sym n.1) | inr f ↦ ap (parts_behind body) (boundary_again head f.0 f.1.0) ∙ fault_by head body f.0 fault f.1.1 ]

  fault_says : (head : List NamedValue) (body : List ℕ) (fault : BodyFault) → parts_of head body ≡ Err fault → IsBodyFault head body fault
  fault_says head body fault e = rw e at (body_says head body)

  ok_says : (head : List NamedValue) (body : List ℕ) (parts : List ReadPart) → parts_of head body ≡ Ok parts → IsParts head body parts
  ok_says head body parts e = rw e at (body_says head body)

  pub body_told : (head : List NamedValue) (body : List ℕ) → TellsExactly (IsParts head body) (IsBodyFault head body) (parts_of head body)
  body_told head body = record {
    value = λ parts. (ok_says head body parts, parts_are_again head body parts);
    fault = λ fault. (fault_says head body fault, fault_again head body fault);
  }

  -- ---- one reading

  either_says : (head : List NamedValue) (body : List ℕ) (r : Result (List ReadPart) BodyFault) → BodySays head body r → HasParts head body ⊎ HasFaultOf head body
  either_says head body (Ok parts) h = inl (parts, h)
  either_says head body (Err fault) h = inr (fault, h)

  pub some_reading : (head : List NamedValue) (body : List ℕ) → HasParts head body ⊎ HasFaultOf head body
  some_reading head body = either_says head body (parts_of head body) (body_says head body)

  ok_no_err : (parts : List ReadPart) (fault : BodyFault) → Ok parts ≡ Err fault → ⊥
  ok_no_err parts fault e = absurd cc

  pub never_both : (head : List NamedValue) (body : List ℕ) → HasParts head body → HasFaultOf head body → ⊥
  never_both head body h f = ok_no_err h.0 f.0 (sym (parts_are_again head body h.0 h.1) ∙ fault_again head body f.0 f.1)

  pub one_list : (head : List NamedValue) (body : List ℕ) (parts others : List ReadPart) → IsParts head body parts → IsParts head body others → parts ≡ others
  one_list head body parts others h k = ok_is parts others (sym (parts_are_again head body parts h) ∙ parts_are_again head body others k)

  pub one_fault : (head : List NamedValue) (body : List ℕ) (fault other : BodyFault) → IsBodyFault head body fault → IsBodyFault head body other → fault ≡ other
  one_fault head body fault other h k = err_is {A = List ReadPart} fault other (sym (fault_again head body fault h) ∙ fault_again head body other k)
