-- Lists of frames that go round: so many are taken from the front, each is put again behind the others.
use Rattle.std.proofs.Common.{◌≡◌, ℕ, zero, suc, ◌+◌, ◌-◌, ◌<◌, List, [], ◌∷◌, ◌++◌, length, take, drop, get_or, set, refl, ap, sym, ◌∙◌, arith}
use Rattle.std.specs.Prelude.{slice_get}
use Rattle.std.specs.List.{remove, swap}
use Rattle.std.specs.Option.{option_to_list}
use Rattle.std.proofs.Math.Seq.{drop-append_seam, take-append_seam}
use Rattle.std.proofs.lemmas.Grind.{take_at_read}
use Rattle.std.proofs.lemmas.List.{append_assoc, drop_more, length-drop, take-append-drop}
use Rattle.std.proofs.lemmas.Option.{slice_get_read}
use Rattle.pec_types.specs.Bytes.{Bytes}

-- one is put, and all that waits is known
pub put_behind : (taken waiting put new : List Bytes) (frame : Bytes) → taken ++ waiting ≡ put
    → new ≡ drop (length taken) (put ++ frame ∷ []) → new ≡ waiting ++ frame ∷ []
put_behind taken waiting put new frame fifo is =
    is ∙ ap (λ (l : List Bytes). drop (length taken) (l ++ frame ∷ [])) (sym fifo)
    ∙ ap (drop (length taken)) (append_assoc taken waiting (frame ∷ []))
    ∙ drop-append_seam taken (waiting ++ frame ∷ [])

-- the first is taken, and all that waits is known
pub taken_first : (taken waiting put new rest : List Bytes) (frame : Bytes) → taken ++ waiting ≡ put → waiting ≡ frame ∷ rest
    → new ≡ drop (length (taken ++ frame ∷ [])) put → waiting ≡ frame ∷ new
taken_first taken waiting put new rest frame fifo first is =
    let all : put ≡ (taken ++ frame ∷ []) ++ rest =
    sym fifo ∙ ap (λ (l : List Bytes). taken ++ l) first ∙ sym (append_assoc taken (frame ∷ []) rest) in
    let same : new ≡ rest = is ∙ ap (drop (length (taken ++ frame ∷ []))) all ∙ drop-append_seam (taken ++ frame ∷ []) rest in
    first ∙ ap (λ (l : List Bytes). frame ∷ l) (sym same)

tail_is : (x y : Bytes) (xs ys : List Bytes) → x ∷ xs ≡ y ∷ ys → xs ≡ ys
tail_is x y xs ys e = cc

-- so many are in front, and all of these go round
pub turned_through : (front back : List Bytes) (count : ℕ) → length front ≡ count
    → (drop count (front ++ back) ++ take count (front ++ back) ≡ back ++ front) × (take count (front ++ back) ≡ front)
turned_through front back count is =
    let first : take count (front ++ back) ≡ front = ap (λ (n : ℕ). take n (front ++ back)) (sym is) ∙ take-append_seam front back in
    let last : drop count (front ++ back) ≡ back = ap (λ (n : ℕ). drop n (front ++ back)) (sym is) ∙ drop-append_seam front back in
    (ap (λ (l : List Bytes). l ++ take count (front ++ back)) last ∙ ap (λ (l : List Bytes). back ++ l) first, first)

-- ---- the frame at a place

module _ (frames : List Bytes) (place : ℕ) (frame : Bytes) (rest : List Bytes) (within : place < length frames)
    (is : drop place frames ++ take place frames ≡ frame ∷ rest) where
  -- it comes to the front, where those before it go round
  pub first_is : drop place frames ≡ frame ∷ drop (place + 1) frames
  first_is =
      let more : drop place frames ≡ get_or frames place frame ∷ drop (place + 1) frames = drop_more frames place frame within in
      let both : frame ∷ rest ≡ get_or frames place frame ∷ (drop (place + 1) frames ++ take place frames) =
      sym is ∙ ap (λ (l : List Bytes). l ++ take place frames) more in
      let same : frame ≡ get_or frames place frame = cc in
      more ∙ ap (λ (x : Bytes). x ∷ drop (place + 1) frames) (sym same)

  pub rest_is : rest ≡ drop (place + 1) frames ++ take place frames
  rest_is =
      let both : frame ∷ (drop (place + 1) frames ++ take place frames) ≡ frame ∷ rest =
      ap (λ (l : List Bytes). l ++ take place frames) (sym first_is) ∙ is in
      sym (tail_is frame frame (drop (place + 1) frames ++ take place frames) rest both)

module _ (frames : List Bytes) (place : ℕ) (frame : Bytes) (within : place < length frames)
    (first : drop place frames ≡ frame ∷ drop (place + 1) frames) where
  abbrev before : List Bytes
  before = take place frames

  abbrev behind : List Bytes
  behind = drop (place + 1) frames

  frame_is : frame ≡ get_or frames place frame
  frame_is = ap (λ (l : List Bytes). get_or l 0 frame) (sym first ∙ drop_more frames place frame within)

  pub first_with : take (place + 1) frames ≡ before ++ frame ∷ []
  first_with = (take_at_read frames place frame within).1 ∙ ap (λ (x : Bytes). before ++ x ∷ []) (sym frame_is)

  -- it is put behind the others
  pub one_turned : (behind ++ before) ++ frame ∷ [] ≡ behind ++ take (place + 1) frames
  one_turned = append_assoc behind before (frame ∷ []) ∙ ap (λ (l : List Bytes). behind ++ l) (sym first_with)

  whole_is : before ++ frame ∷ behind ≡ frames
  whole_is = ap (λ (l : List Bytes). before ++ l) (sym first) ∙ take-append-drop place frames

  pub at_place : option_to_list (slice_get frames place) ≡ frame ∷ []
  at_place = ap option_to_list (slice_get_read frames (length frames) place frame refl within frame_is)

  length_behind : length behind ≡ length frames - place - 1
  length_behind = omega (arith, length-drop (place + 1) frames)

  -- It is gone, and those behind it go round.
  pub lost_is : (count : ℕ) → count ≡ length frames - place - 1
      → (drop count (behind ++ before) ++ take count (behind ++ before) ≡ remove frames place) × (take count (behind ++ before) ≡ behind)
  lost_is count number =
      let through = turned_through behind before count (length_behind ∙ sym number) in
      let one : place + 1 ≡ suc place = omega arith in
      (through.0 ∙ ap (λ (n : ℕ). before ++ drop n frames) one, through.1)

  -- It is put again, and those behind it go round: so all did.
  pub again_is : (all : List Bytes) (count : ℕ) → count ≡ length frames - place - 1 → all ≡ (behind ++ before) ++ frame ∷ []
      → (drop count all ++ take count all ≡ frames) × (take count all ≡ behind)
  again_is all count number is =
      let through = turned_through behind (before ++ frame ∷ []) count (length_behind ∙ sym number) in
      let put : all ≡ behind ++ (before ++ frame ∷ []) = is ∙ append_assoc behind before (frame ∷ []) in (
        ap (λ (l : List Bytes). drop count l ++ take count l) put ∙ through.0 ∙ append_assoc before (frame ∷ []) behind ∙ whole_is,
        ap (take count) put ∙ through.1,
      )

-- those that are taken at last, behind all before them
pub all_taken : (frames begun middle last : List Bytes) (count : ℕ) → middle ≡ begun ++ take count frames → last ≡ middle ++ drop count frames
    → last ≡ begun ++ frames
all_taken frames begun middle last count one two =
    two ∙ ap (λ (l : List Bytes). l ++ drop count frames) one ∙ append_assoc begun (take count frames) (drop count frames)
    ∙ ap (λ (l : List Bytes). begun ++ l) (take-append-drop count frames)

-- ---- two frames that follow each other

swap_at : (d : Bytes) (frames : List Bytes) (place : ℕ) → place + 1 < length frames
    → set (set frames place (get_or frames (place + 1) d)) (place + 1) (get_or frames place d)
    ≡ take place frames ++ take 1 (drop (place + 1) frames) ++ take 1 (drop place frames) ++ drop (place + 2) frames
swap_at d [] place l = absurd (omega arith)
swap_at d (x ∷ []) place l = absurd (omega arith)
swap_at d (x ∷ y ∷ frames) zero l = refl
swap_at d (x ∷ y ∷ frames) (suc place) l =
    let one : suc place + 1 ≡ suc (place + 1) = omega arith in
    let two : suc place + 2 ≡ suc (place + 2) = omega arith in
    rw (one, two) (ap (λ (more : List Bytes). x ∷ more) (swap_at d (y ∷ frames) place (omega arith)))

-- exchanged, by the frames before them and behind them
pub swap_is : (frames : List Bytes) (place : ℕ) → place + 1 < length frames
    → swap frames place (place + 1)
    ≡ take place frames ++ take 1 (drop (place + 1) frames) ++ take 1 (drop place frames) ++ drop (place + 2) frames
swap_is [] place l = absurd (omega arith)
swap_is (frame ∷ frames) place l = swap_at frame (frame ∷ frames) place l

module _ (frames : List Bytes) (place : ℕ) (frame : Bytes) (within : place + 1 < length frames)
    (first : drop place frames ≡ frame ∷ drop (place + 1) frames) where
  -- the next one
  abbrev next : Bytes
  next = get_or frames (place + 1) frame

  abbrev last_ones : List Bytes
  last_ones = drop (place + 2) frames

  two_behind : drop (place + 1) frames ≡ next ∷ last_ones
  two_behind =
      let two : (place + 1) + 1 ≡ place + 2 = omega arith in
      drop_more frames (place + 1) frame within ∙ ap (λ (n : ℕ). next ∷ drop n frames) two

  -- what waits once that one is taken
  abbrev rest_of : List Bytes
  rest_of = drop (place + 1) frames ++ take place frames

  next_first : rest_of ≡ next ∷ (last_ones ++ take place frames)
  next_first = ap (λ (l : List Bytes). l ++ take place frames) two_behind

  -- The next one goes behind the rest, then that one is put, and then those that stood behind both go round.
  pub swapped_is : (all : List Bytes) (count : ℕ) → count ≡ length frames - place - 2
      → all ≡ (drop 1 rest_of ++ take 1 rest_of) ++ frame ∷ []
      → (drop count all ++ take count all ≡ swap frames place (place + 1)) × (take count all ≡ last_ones)
  swapped_is all count number is =
      let before : List Bytes = take place frames in
      let both : List Bytes = before ++ next ∷ [] ++ frame ∷ [] in
      let through = turned_through last_ones both count (omega (arith, number, length-drop (place + 2) frames)) in
      let put : all ≡ last_ones ++ both =
      is ∙ ap (λ (l : List Bytes). (drop 1 l ++ take 1 l) ++ frame ∷ []) next_first
      ∙ ap (λ (l : List Bytes). l ++ frame ∷ []) (append_assoc last_ones before (next ∷ []))
      ∙ append_assoc last_ones (before ++ next ∷ []) (frame ∷ []) in
      let exchanged : both ++ last_ones ≡ swap frames place (place + 1) =
      ap (λ (l : List Bytes). before ++ l ++ frame ∷ [] ++ last_ones) (sym (ap (take 1) two_behind))
      ∙ ap (λ (l : List Bytes). before ++ take 1 (drop (place + 1) frames) ++ l ++ last_ones) (sym (ap (take 1) first))
      ∙ sym (swap_is frames place within) in (
        ap (λ (l : List Bytes). drop count l ++ take count l) put ∙ through.0 ∙ exchanged,
        ap (take count) put ∙ through.1,
      )

  -- both and those behind them are taken
  pub both_taken : (begun one two last : List Bytes) → one ≡ begun ++ take (place + 1) frames → two ≡ one ++ take 1 rest_of
      → last ≡ two ++ last_ones → last ≡ begun ++ frames
  both_taken begun one two last e f g =
      let behind : last ≡ one ++ drop (place + 1) frames =
      g ∙ ap (λ (l : List Bytes). l ++ last_ones) (f ∙ ap (λ (l : List Bytes). one ++ take 1 l) next_first)
      ∙ append_assoc one (next ∷ []) last_ones ∙ ap (λ (l : List Bytes). one ++ l) (sym two_behind) in
      all_taken frames begun one last (place + 1) e behind
