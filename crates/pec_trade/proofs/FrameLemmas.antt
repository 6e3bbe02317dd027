-- Which frames can be made, and that what was framed stands in the frame.
use Rattle.std.proofs.Common.{◌≡◌, ◌↔◌, ℕ, nat_lt, nat_le, Bool, true, false, ◌&&◌, cond, [], ◌∷◌, length, drop, None, Some, Result, Ok, Err, refl, ap, sym, ◌∙◌}
use Rattle.std.specs.List.{AllByRecursion, list_all}
use Rattle.std.specs.Option.{option_map}
use Rattle.std.specs.Result.{result_ok}
use Rattle.std.proofs.lemmas.Bool.{and_from, and_parts, false≢true, leb-true, le-leb, lt-ltb, ltb-true}
use Rattle.std.proofs.lemmas.Option.{none-some, same_Some}
use Rattle.std.proofs.lemmas.Slice.Eq.{bytes_eq-Decides}
use Rattle.pec_types.specs.Address.{IsAddressFault, IsLowerAddress, IsReadAs}
use Rattle.pec_types.specs.AddressReading.{address_of}
use Rattle.pec_types.specs.Answers.{TellsExactly}
use Rattle.pec_types.specs.Bytes.{Bytes, Path}
use Rattle.pec_types.specs.declared.addresses.AddressFault.{AddressFault}
use Rattle.pec_cert.specs.ValueTests.{is_kept, is_lower}
use Rattle.pec_frames.specs.Frames.{HasFrame, IsFrame, IsFrameFault, frame_text, message_at, path_line}
use Rattle.pec_frames.specs.FramesReading.{framed_of}
use Rattle.pec_frames.specs.declared.TheConstants.{FRAME_LIMIT, MOST_ADDRESSES}
use Rattle.pec_frames.specs.declared.faults.FrameFault.{FrameFault}
use Rattle.pec_ledger.specs.Trade.{Framed}
use Rattle.pec_trade.specs.Texts.{can_be_framed, frame_along, framed_at, unframed_of}
use Rattle.pec_trade.proofs.PathLemmas.{equal_itself}

-- the law of addresses
abbrev pub Told : Type 0
Told = (text : Bytes) → TellsExactly (IsReadAs text) (IsAddressFault text) (address_of text)

kept_lower : Told → (bytes : Bytes) (r : Result Bytes AddressFault) → address_of bytes ≡ r → is_kept bytes r ≡ true → IsLowerAddress bytes
kept_lower told bytes (Ok lower) e same =
    let read = ((told bytes).value lower).0 e
    in record { address = read.0; lower = sym read.1 ∙ (bytes_eq-Decides lower bytes).0 same }
kept_lower told bytes (Err fault) e same = absurd (false≢true same)

pub lower_is : Told → (bytes : Bytes) → is_lower bytes ≡ true → IsLowerAddress bytes
unfolding is_lower
lower_is told bytes e = kept_lower told bytes (address_of bytes) refl e

lower_again : Told → (bytes : Bytes) → IsLowerAddress bytes → is_lower bytes ≡ true
unfolding is_lower
lower_again told bytes lower =
    ap (is_kept bytes) (((told bytes).value bytes).1 (lower.address, sym lower.lower)) ∙ equal_itself bytes

pub path_lower : Told → (path : Path) → list_all is_lower path ≡ true → AllByRecursion IsLowerAddress path
path_lower told [] e = tt
path_lower told (a ∷ path) e =
    let parts = and_parts (is_lower a) (list_all is_lower path) e in (lower_is told a parts.0, path_lower told path parts.1)

pub path_again : Told → (path : Path) → AllByRecursion IsLowerAddress path → list_all is_lower path ≡ true
path_again told [] all = refl
path_again told (a ∷ path) all = and_from (is_lower a) (list_all is_lower path) (lower_again told a all.0) (path_again told path all.1)

-- ---- which frames can be made

can_be : Told → (path : Path) (message : Bytes) → can_be_framed path message ≡ true → HasFrame path message
unfolding can_be_framed
can_be told path message e =
    let parts = and_parts (nat_lt 0 (length path) && nat_le (length path) MOST_ADDRESSES)
    (list_all is_lower path && nat_le (length (frame_text path message)) FRAME_LIMIT) e
    in let count = and_parts (nat_lt 0 (length path)) (nat_le (length path) MOST_ADDRESSES) parts.0
    in let rest = and_parts (list_all is_lower path) (nat_le (length (frame_text path message)) FRAME_LIMIT) parts.1
    in record {
      some = ltb-true 0 (length path) count.0;
      few = leb-true (length path) MOST_ADDRESSES count.1;
      lower = path_lower told path rest.0;
      short = leb-true (length (frame_text path message)) FRAME_LIMIT rest.1;
    }

can_again : Told → (path : Path) (message : Bytes) → HasFrame path message → can_be_framed path message ≡ true
unfolding can_be_framed
can_again told path message has =
    and_from (nat_lt 0 (length path) && nat_le (length path) MOST_ADDRESSES)
    (list_all is_lower path && nat_le (length (frame_text path message)) FRAME_LIMIT)
    (and_from (nat_lt 0 (length path)) (nat_le (length path) MOST_ADDRESSES) (lt-ltb 0 (length path) has.some) (le-leb (length path) MOST_ADDRESSES has.few))
    (and_from (list_all is_lower path) (nat_le (length (frame_text path message)) FRAME_LIMIT) (path_again told path has.lower)
    (le-leb (length (frame_text path message)) FRAME_LIMIT has.short))

made_by : Told → (path : Path) (message frame : Bytes) (t : Bool) → can_be_framed path message ≡ t → cond t (Some (frame_text path message)) None ≡ Some frame
    → HasFrame path message × (frame ≡ frame_text path message)
made_by told path message frame true e f = (can_be told path message e, sym (same_Some (frame_text path message) frame f))
made_by told path message frame false e f = absurd (none-some frame f)

-- a frame is made exactly where it can be
pub made : Told → (path : Path) (message frame : Bytes) → (frame_along path message ≡ Some frame) ↔ (HasFrame path message × (frame ≡ frame_text path message))
unfolding frame_along
made told path message frame = (
  (λ e. made_by told path message frame (can_be_framed path message) refl e),
  (λ has. ap (λ (t : Bool). cond t (Some (frame_text path message)) None) (can_again told path message has.0) ∙ ap (λ (f : Bytes). Some f) (sym has.1)),
)

-- ---- reading it

-- the laws of frames
pub record Frames : Type 0 where
  pub told : Told
  pub tells : (text : Bytes) → TellsExactly (λ (read : Path × ℕ). IsFrame text read.0 read.1) (IsFrameFault text) (framed_of text)
  pub path : (path : Path) (message : Bytes) → HasFrame path message → IsFrame (frame_text path message) path (message_at (path_line path))
  pub message : (path : Path) (message : Bytes) → drop (message_at (path_line path)) (frame_text path message) ≡ message

abbrev pub framed : Path → Bytes → Framed
framed path message = record { path = path; message = message }

read_back : Frames → (path : Path) (message : Bytes) → HasFrame path message → unframed_of (frame_text path message) ≡ Some (framed path message)
unfolding unframed_of
read_back laws path message has =
    ap (λ (r : Result (Path × ℕ) FrameFault). option_map (framed_at (frame_text path message)) (result_ok r))
    (((laws.tells (frame_text path message)).value (path, message_at (path_line path))).1 (laws.path path message has))
    ∙ ap (λ (m : Bytes). Some (framed path m)) (laws.message path message)

-- what was framed stands in the frame
pub framed_back : Frames → (path : Path) (message frame : Bytes) → frame_along path message ≡ Some frame
    → unframed_of frame ≡ Some (framed path message)
framed_back laws path message frame e =
    let has = (made laws.told path message frame).0 e
    in ap unframed_of has.1 ∙ read_back laws path message has.0
