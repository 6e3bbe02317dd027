-- A head ends where its lines say.
use Rattle.std.proofs.Common.{◌≡◌, ℕ, ◌+◌, ◌<◌, ◌≤◌, ◌↔◌, inl, inr, subst, arith}
use Rattle.pec_types.specs.Bytes.{Bytes}
use Rattle.pec_http_head.specs.Cuts.{WholeCut, Ends, TooLarge, Short, cut_of}
use Rattle.pec_http_head.specs.HeadEnds.{BeginsWith, IsHead, IsWholeCut}
use Rattle.pec_http_head.specs.declared.stands.Stand.TheVariants.{Blank}
use Rattle.pec_http_head.proofs.HeadLemmas.{Begins, Says, one_saying, told_from}
use Rattle.pec_http_head.proofs.RunLemmas.{Runs, head_runs, runs_head}

begins_with : (text : Bytes) (bytes total : ℕ) → Begins (Runs Blank 0) 0 text bytes total → (count : ℕ) × BeginsWith text bytes count × (total ≡ count + 1)
begins_with text bytes total begins =
    let is : (count : ℕ) × IsHead begins.head count × (total ≡ count + 1) = runs_head begins.head total begins.runs in
    (is.0, record { head = begins.head; rest = begins.rest; parts = begins.parts; size = omega (arith, begins.size); is = is.1; fits = begins.fits }, is.2)

begins_again : (text : Bytes) (bytes count : ℕ) → BeginsWith text bytes count → Begins (Runs Blank 0) 0 text bytes (count + 1)
begins_again text bytes count with_head = record {
  head = with_head.head;
  rest = with_head.rest;
  parts = with_head.parts;
  size = omega (arith, with_head.size);
  runs = head_runs with_head.head count with_head.is;
  fits = with_head.fits;
}

is_cut : (text : Bytes) (cut : WholeCut) → Says (Runs Blank 0) 0 text cut → IsWholeCut text cut
is_cut text (Ends at) h =
    let is = begins_with text at h.0 h.1 in
    let few : is.0 ≤ 64 = omega (arith, is.2, h.2) in
    (is.0, is.1, few)
is_cut text TooLarge (inl h) = inl ((λ bytes count begins. h.0 bytes (count + 1) (begins_again text bytes count begins)), omega (arith, h.1))
is_cut text TooLarge (inr h) =
    let is = begins_with text h.0 h.1 h.2 in
    let many : 64 < is.0 = omega (arith, is.2, h.3) in
    inr (h.0, is.0, is.1, many)
is_cut text Short h = ((λ bytes count begins. h.0 bytes (count + 1) (begins_again text bytes count begins)), omega (arith, h.1))

says_cut : (text : Bytes) (cut : WholeCut) → IsWholeCut text cut → Says (Runs Blank 0) 0 text cut
says_cut text (Ends at) is = let few : is.0 + 1 ≤ 65 = omega (arith, is.2) in (is.0 + 1, begins_again text at is.0 is.1, few)
says_cut text TooLarge (inl is) =
    inl ((λ bytes total begins. let with_head = begins_with text bytes total begins in is.0 bytes with_head.0 with_head.1), omega (arith, is.1))
says_cut text TooLarge (inr is) = let many : 65 < is.1 + 1 = omega (arith, is.3) in inr (is.0, is.1 + 1, begins_again text is.0 is.1 is.2, many)
says_cut text Short is =
    ((λ bytes total begins. let with_head = begins_with text bytes total begins in is.0 bytes with_head.0 with_head.1), omega (arith, is.1))

pub one_end : (text : Bytes) (cut : WholeCut) → (cut_of text ≡ cut) ↔ IsWholeCut text cut
one_end text cut = (
  (λ e. is_cut text cut (subst (Says (Runs Blank 0) 0 text) e (told_from Blank 0 0 text (omega arith)))),
  (λ is. one_saying Blank 0 0 text (cut_of text) cut (told_from Blank 0 0 text (omega arith)) (says_cut text cut is)),
)
