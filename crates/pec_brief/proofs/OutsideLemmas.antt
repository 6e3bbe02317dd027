-- What stands outside of attachments is unchanged.
use Rattle.std.proofs.Common.{◌≡◌, ℕ, ◌+◌, ◌-◌, List, [], ◌∷◌, ◌++◌, Bool, true, false, length, take, drop, sym, ap, subst, refl, ◌∙◌, inl, inr, append_assoc}
use Rattle.std.specs.List.{AllByRecursion}
use Rattle.std.proofs.lemmas.List.{take-append-drop}
use Rattle.pec_types.specs.Bytes.{Bytes}
use Rattle.pec_heads.specs.Heads.{NamedValue}
use Rattle.pec_bodies.specs.Multiparts.{IsParts, ReadPart, with_parts}
use Rattle.pec_brief.specs.Attachments.{is_attachment, replacement}
use Rattle.pec_brief.specs.BriefForm.{DifferInAttachments, HasNoAttachment, IsBrief, IsShortened, Reached, brief_part, shortened, woven}

-- with each part in its own place a body is as it was, as the law of places says
abbrev pub Unchanged : Type 0
Unchanged = (head : List NamedValue) (body : Bytes) (parts : List ReadPart)
    → IsParts head body parts → with_parts (λ part. part.whole) 0 body parts ≡ body

-- ---- without attachments

abbrev pub NoneAttached : List ReadPart → Type 0
NoneAttached parts = AllByRecursion (λ (part : ReadPart). is_attachment part.head ≡ false) parts

parts_stay : (past : ℕ) (body : Bytes) (parts : List ReadPart) → NoneAttached parts
    → with_parts brief_part past body parts ≡ with_parts (λ part. part.whole) past body parts
parts_stay past body [] none = refl
parts_stay past body (part ∷ parts) none =
    let here : brief_part part ≡ part.whole = rw none.0 refl
    in let others = parts_stay (part.start + length part.whole) body parts none.1
    in ap (λ text. take (part.start - past) (drop past body) ++ (text ++ with_parts brief_part (part.start + length part.whole) body parts)) here
    ∙ ap (λ text. take (part.start - past) (drop past body) ++ (part.whole ++ text)) others

-- a message without attachments is its own brief form
pub plain_stays : Unchanged → (original brief : Bytes) → HasNoAttachment original → IsBrief original brief → brief ≡ original
plain_stays unchanged original brief none (inl (is, small)) =
    let body = drop is.place original
    in let same : with_parts brief_part 0 body is.parts ≡ body =
    parts_stay 0 body is.parts (none is.fields is.place is.parts is.head_is is.parts_are) ∙ unchanged is.fields body is.parts is.parts_are
    in is.short_is ∙ ap (λ text. take is.place original ++ text) same ∙ take-append-drop is.place original
plain_stays unchanged original brief none (inr (whole, same)) = same

-- ---- around attachments

-- more in front of both texts
behind_front : (front one other : Bytes) (reached : List Reached) (last : Bytes)
    → AllByRecursion (λ (next : Reached). is_attachment next.part.head ≡ true) reached
    → one ≡ woven (λ part. part.whole) reached last → other ≡ woven (λ part. replacement part.head part.body) reached last
    → DifferInAttachments (front ++ one) (front ++ other)
behind_front front one other [] last attachments is same = record {
  reached = [];
  last = front ++ last;
  attachments = tt;
  original_is = ap (λ text. front ++ text) is;
  short_is = ap (λ text. front ++ text) same;
}
behind_front front one other (next ∷ others) last attachments is same = record {
  reached = record { before = front ++ next.before; part = next.part } ∷ others;
  last = last;
  attachments = attachments;
  original_is = ap (λ text. front ++ text) is ∙ sym (append_assoc front next.before _);
  short_is = ap (λ text. front ++ text) same ∙ sym (append_assoc front next.before _);
}

in_front : (front one other : Bytes) → DifferInAttachments one other → DifferInAttachments (front ++ one) (front ++ other)
in_front front one other d = behind_front front one other d.reached d.last d.attachments d.original_is d.short_is

-- a part in front of both texts
part_in_front : (part : ReadPart) (one other : Bytes) → DifferInAttachments one other → (attached : Bool) → is_attachment part.head ≡ attached
    → DifferInAttachments (part.whole ++ one) (brief_part part ++ other)
part_in_front part one other d false e =
    let here : brief_part part ≡ part.whole = rw e refl
    in subst (λ text. DifferInAttachments (part.whole ++ one) (text ++ other)) (sym here) (in_front part.whole one other d)
part_in_front part one other d true e =
    let here : brief_part part ≡ replacement part.head part.body = rw e refl
    in record {
      reached = record { before = []; part = part } ∷ d.reached;
      last = d.last;
      attachments = (e, d.attachments);
      original_is = ap (λ text. part.whole ++ text) d.original_is;
      short_is = ap (λ text. text ++ other) here ∙ ap (λ text. replacement part.head part.body ++ text) d.short_is;
    }

parts_differ : (past : ℕ) (body : Bytes) (parts : List ReadPart)
    → DifferInAttachments (with_parts (λ part. part.whole) past body parts) (with_parts brief_part past body parts)
parts_differ past body [] =
    record { reached = []; last = drop past body; attachments = tt; original_is = refl; short_is = refl }
parts_differ past body (part ∷ parts) =
    let next = part.start + length part.whole
    in let one = with_parts (λ part. part.whole) next body parts
    in let other = with_parts brief_part next body parts
    in in_front (take (part.start - past) (drop past body)) (part.whole ++ one) (brief_part part ++ other)
    (part_in_front part one other (parts_differ next body parts) (is_attachment part.head) refl)

-- the message and its brief form are the same around its attachments
pub outside_stays : Unchanged → (original short : Bytes) → IsShortened original short → DifferInAttachments original short
outside_stays unchanged original short is =
    let body = drop is.place original
    in let one = with_parts (λ part. part.whole) 0 body is.parts
    in let d : DifferInAttachments (take is.place original ++ one) (shortened original is.place is.parts) =
    in_front (take is.place original) one (with_parts brief_part 0 body is.parts) (parts_differ 0 body is.parts)
    in let whole : take is.place original ++ one ≡ original =
    ap (λ text. take is.place original ++ text) (unchanged is.fields body is.parts is.parts_are) ∙ take-append-drop is.place original
    in record {
      reached = d.reached;
      last = d.last;
      attachments = d.attachments;
      original_is = sym whole ∙ d.original_is;
      short_is = is.short_is ∙ d.short_is;
    }
