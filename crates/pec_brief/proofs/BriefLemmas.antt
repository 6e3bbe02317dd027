-- The brief form by the function is the one by the relation, and the other way round.
use Rattle.std.proofs.Common.{◌≡◌, ◌≤◌, ◌<◌, ◌↔◌, ℕ, List, Bool, true, false, length, drop, Ok, Err, Result, Some, None, nat_le, sym, ap, subst, refl, ◌∙◌, inl, inr, arith}
use borrow.Author.Tests.{leb-true, leb-false}
use Rattle.pec_types.specs.Answers.{TellsExactly}
use Rattle.pec_types.specs.Bytes.{Bytes}
use Rattle.pec_heads.specs.Heads.{NamedValue, IsFaulty, IsHead, IsRead}
use Rattle.pec_heads.specs.HeadReading.{read_of}
use Rattle.pec_heads.specs.declared.faults.HeadFault.{HeadFault}
use Rattle.pec_bodies.specs.Multiparts.{IsBodyFault, IsParts, ReadPart}
use Rattle.pec_bodies.specs.PartsReading.{parts_of}
use Rattle.pec_bodies.specs.declared.faults.BodyFault.{BodyFault}
use Rattle.pec_brief.specs.BriefForm.{IsBrief, IsShortened, StaysWhole, shortened}
use Rattle.pec_brief.specs.BriefReading.{brief_of, or_whole, short_behind, short_by, short_of, within_limit}
use Rattle.pec_brief.specs.declared.TheConstants.{BRIEF_LIMIT}

-- what the laws of heads and of bodies say
pub record Told : Type 0 where
  pub heads : (text : Bytes) → TellsExactly (IsRead text) (IsFaulty text) (read_of text)
  pub bodies : (head : List NamedValue) (body : Bytes) → TellsExactly (IsParts head body) (IsBodyFault head body) (parts_of head body)

-- ---- by the relation, where it is by the function

by_length : (original short : Bytes) → IsShortened original short → (fits : Bool) → nat_le (length short) BRIEF_LIMIT ≡ fits
    → IsBrief original (or_whole original (within_limit short))
unfolding within_limit
by_length original short is true e = rw e (inl (is, leb-true (length short) BRIEF_LIMIT e))
by_length original short is false e =
    let long : BRIEF_LIMIT < length short = leb-false (length short) BRIEF_LIMIT e
    in rw e (inr (inr (inr (record { short = short; is = is; long = long })), refl))

by_parts : Told → (original : Bytes) (read : List NamedValue × ℕ) → IsHead original read.0 read.1
    → (parts : Result (List ReadPart) BodyFault) → parts_of read.0 (drop read.1 original) ≡ parts
    → IsBrief original (or_whole original (short_by original read.1 parts))
by_parts told original read head (Ok parts) e =
    by_length original (shortened original read.1 parts)
    (record {
      fields = read.0;
      place = read.1;
      parts = parts;
      head_is = head;
      parts_are = ((told.bodies read.0 (drop read.1 original)).value parts).0 e;
      short_is = refl;
    })
    (nat_le (length (shortened original read.1 parts)) BRIEF_LIMIT) refl
by_parts told original read head (Err fault) e =
    inr (
      inr (inl (record {
        fields = read.0;
        place = read.1;
        head_is = head;
        fault = (fault, ((told.bodies read.0 (drop read.1 original)).fault fault).0 e);
      })),
      refl,
    )

by_head : Told → (original : Bytes) → (read : Result (List NamedValue × ℕ) HeadFault) → read_of original ≡ read
    → IsBrief original (or_whole original (short_behind original read))
by_head told original (Ok read) e =
    by_parts told original read (((told.heads original).value read).0 e) (parts_of read.0 (drop read.1 original)) refl
by_head told original (Err fault) e = inr (inl (fault, ((told.heads original).fault fault).0 e), refl)

-- what the function gives is the brief form
pub given_is_brief : Told → (original : Bytes) → IsBrief original (brief_of original)
unfolding brief_of short_of
given_is_brief told original = by_head told original (read_of original) refl

-- ---- by the function, where it is by the relation

-- the message with something in the place of each attachment is the function's
short_is_given : Told → (original short : Bytes) → IsShortened original short → short_of original ≡ within_limit short
unfolding short_of
short_is_given told original short is =
    let head = ((told.heads original).value (is.fields, is.place)).1 is.head_is
    in let parts = ((told.bodies is.fields (drop is.place original)).value is.parts).1 is.parts_are
    in ap (short_behind original) head ∙ ap (short_by original is.place) parts ∙ ap within_limit (sym is.short_is)

short_within : (short : Bytes) → length short ≤ BRIEF_LIMIT → (fits : Bool) → nat_le (length short) BRIEF_LIMIT ≡ fits → within_limit short ≡ Some short
unfolding within_limit
short_within short small true e = rw e refl
short_within short small false e = absurd (omega (arith, leb-false (length short) BRIEF_LIMIT e))

-- a text that is too long is none
pub none_past : (short : Bytes) → BRIEF_LIMIT < length short → (fits : Bool) → nat_le (length short) BRIEF_LIMIT ≡ fits → within_limit short ≡ None
unfolding within_limit
none_past short long true e = absurd (omega (arith, leb-true (length short) BRIEF_LIMIT e))
none_past short long false e = rw e refl

whole_is_given : Told → (original : Bytes) → StaysWhole original → short_of original ≡ None
unfolding short_of
whole_is_given told original (inl (fault, is)) = ap (short_behind original) (((told.heads original).fault fault).1 is)
whole_is_given told original (inr (inl is)) =
    let head = ((told.heads original).value (is.fields, is.place)).1 is.head_is
    in let fault = ((told.bodies is.fields (drop is.place original)).fault is.fault.0).1 is.fault.1
    in ap (short_behind original) head ∙ ap (short_by original is.place) fault
whole_is_given told original (inr (inr is)) =
    short_is_given told original is.short is.is ∙ none_past is.short is.long (nat_le (length is.short) BRIEF_LIMIT) refl

brief_is_given : Told → (original brief : Bytes) → IsBrief original brief → brief_of original ≡ brief
unfolding brief_of
brief_is_given told original brief (inl (is, small)) =
    ap (or_whole original) (short_is_given told original brief is ∙ short_within brief small (nat_le (length brief) BRIEF_LIMIT) refl)
brief_is_given told original brief (inr (whole, same)) = ap (or_whole original) (whole_is_given told original whole) ∙ sym same

-- The function gives a text exactly where it is the brief form.
pub brief_is_told : Told → (original brief : Bytes) → (brief_of original ≡ brief) ↔ IsBrief original brief
brief_is_told told original brief =
    (λ e. subst (IsBrief original) e (given_is_brief told original), brief_is_given told original brief)
