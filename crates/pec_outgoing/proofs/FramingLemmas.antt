-- A frame is made exactly where it can be.
use Rattle.std.proofs.Common.{◌≡◌, ◌↔◌, ℕ, ◌<◌, ◌≤◌, List, [], ◌∷◌, length, Option, None, Some, refl, sym, subst}
use Rattle.std.specs.List.{AllByRecursion}
use Rattle.pec_types.specs.Address.{IsLowerAddress, IsReadAs}
use Rattle.pec_types.specs.Bytes.{Bytes, Path}
use Rattle.pec_directory.specs.Directory.{Kept}
use Rattle.pec_seal.specs.Seals.{Seals}
use Rattle.pec_frames.specs.Frames.{AreReadAs, HasFrame, IsFrame, frame_text}
use Rattle.pec_frames.specs.declared.TheConstants.{FRAME_LIMIT, MOST_ADDRESSES}
use Rattle.pec_trade.specs.Texts.{frame_along}
use Rattle.pec_trade.specs.TradeOf.{trade_of}

-- what the law of a trade says of frames
abbrev pub Framing : Type 0
Framing = (kept : List Kept) (seals : Seals) (path : Path) (message frame : Bytes)
    → ((trade_of kept seals).framed path message ≡ Some frame) ↔ (HasFrame path message × (frame
    ≡ frame_text path message))

lower_as_read : ((text address : Bytes) → IsReadAs text address → IsLowerAddress address)
    → (entries : List Bytes) (path : Path) → AreReadAs entries path → AllByRecursion IsLowerAddress path
lower_as_read law [] [] are = tt
lower_as_read law [] (address ∷ path) are = absurd are
lower_as_read law (entry ∷ entries) [] are = absurd are
lower_as_read law (entry ∷ entries) (address ∷ path) are = (
  law entry address are.0,
  lower_as_read law entries path
      are.1,
)

-- what was made is the frame
pub framed_so : Framing → ((text address : Bytes) → IsReadAs text address → IsLowerAddress address)
    → (kept : List Kept) (seals : Seals)
    → (path : Path) (message frame : Bytes) (place : ℕ) → 0 < length path → length path ≤ MOST_ADDRESSES
    → frame ≡ frame_text path message → IsFrame frame path place → length frame ≤ FRAME_LIMIT → Some frame
    ≡ frame_along path message
framed_so law lower kept seals path message frame place some few text is short =
    sym ((law kept seals path message frame).1 (
      record {
        some = some;
        few = few;
        lower = lower_as_read lower is.entries path is.read;
        short = subst (λ (f : Bytes). length f ≤ FRAME_LIMIT) text short;
      },
      text,
    ))

none_by : (found : Option Bytes) → ((frame : Bytes) → found ≡ Some frame → ⊥) → None ≡ found
none_by None none = refl
none_by (Some frame) none = absurd (none frame refl)

-- where none can be made there is none
pub not_framed : Framing → (kept : List Kept) (seals : Seals) → (path : Path) (message : Bytes)
    → (HasFrame path message → ⊥) → None ≡ frame_along path message
not_framed law kept seals path message none = none_by (frame_along path message) (λ frame e. none ((law kept seals
    path message frame).0 e).0)
