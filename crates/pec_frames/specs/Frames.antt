-- Frames: what one provider hands to another, a path and a message (this project's profile, in place of the forward path of RFC
-- 5321, section 3.3). The headlines are `frame_text`, the frame of a path and a message, and `IsFrame` and `IsFrameFault`, what a
-- text is read as.
use Rattle.std.specs.Prelude.{◌≡◌, ◌≢◌, ◌⊎◌, ℕ, ◌+◌, ◌<◌, ◌≤◌, List, [], ◌∷◌, ◌++◌, codes, length, take, drop}
use Rattle.std.specs.List.{AllByRecursion, join_with_byte}
use Rattle.pec_types.specs.Address.{IsAddress, IsLowerAddress, IsReadAs}
use Rattle.pec_types.specs.Bytes.{Bytes, Path, carriage_return, comma, line_feed}
use Rattle.pec_frames.specs.declared.TheConstants.{FRAME_LIMIT, MOST_ADDRESSES}
use Rattle.pec_frames.specs.declared.faults.FrameFault.{FrameFault}
use Rattle.pec_frames.specs.declared.faults.FrameFault.TheVariants.{TooLong, NoPath, BadPath, NoMemory}

-- what a frame begins with
abbrev pub path_front : Bytes
path_front = codes "Per: "

-- what stands behind the path
abbrev pub path_end : Bytes
path_end = carriage_return ∷ line_feed ∷ []

-- a path as it stands, in a line, before a message
abbrev pub with_path : Bytes → Bytes → Bytes
with_path line message = path_front ++ (line ++ (path_end ++ message))

-- entries joined by commas
abbrev pub path_line : List Bytes → Bytes
path_line entries = join_with_byte comma entries

-- The frame of a path and a message.
abbrev pub frame_text : Path → Bytes → Bytes
frame_text path message = with_path (path_line path) message

-- ---- a text that is read

-- no CRLF stands in these bytes
abbrev pub HasNoEnd : Bytes → Type 0
HasNoEnd line = (at : ℕ) → take 2 (drop at line) ≢ path_end

-- The text begins with a path in its line, which the first CRLF ends, before a message.
pub record HasLine (text line message : Bytes) : Type 0 where
  pub short : length text ≤ FRAME_LIMIT
  pub parts : text ≡ with_path line message
  pub first : HasNoEnd line

abbrev pub HasNoComma : Bytes → Type 0
HasNoComma entry = AllByRecursion (λ b. b ≢ comma) entry

-- What stands between the commas of a line: an entry or more, each of any bytes, or of none.
pub record AreEntries (line : Bytes) (entries : List Bytes) : Type 0 where
  pub some : entries ≢ []
  pub apart : AllByRecursion HasNoComma entries
  pub joined : line ≡ path_line entries

-- each entry is an address, and the path has it in lower case
abbrev pub AreReadAs : List Bytes → Path → Type 0
AreReadAs [] [] = Unit {0}
AreReadAs [] (address ∷ path) = ⊥
AreReadAs (entry ∷ entries) [] = ⊥
AreReadAs (entry ∷ entries) (address ∷ path) = IsReadAs entry address × AreReadAs entries path

-- where a message begins behind this line
abbrev pub message_at : Bytes → ℕ
message_at line = length path_front + (length line + length path_end)

-- The text is a frame of this path, and its message begins at this place.
pub record IsFrame (text : Bytes) (path : Path) (place : ℕ) : Type 0 where
  pub line : Bytes
  pub message : Bytes
  pub entries : List Bytes
  pub has_line : HasLine text line message
  pub parted : AreEntries line entries
  pub few : length entries ≤ MOST_ADDRESSES
  pub read : AreReadAs entries path
  pub begins : place ≡ message_at line

-- how many bytes entries take, each with the comma behind it
abbrev pub size_before : List Bytes → ℕ
size_before [] = 0
size_before (entry ∷ entries) = length entry + (1 + size_before entries)

-- The first wrong entry of the path begins at this place: the first that is no address, or the 1,001st.
pub record IsBadPath (text : Bytes) (place : ℕ) : Type 0 where
  pub line : Bytes
  pub message : Bytes
  pub earlier : List Bytes
  pub wrong : Bytes
  pub later : List Bytes
  pub has_line : HasLine text line message
  pub parted : AreEntries line (earlier ++ wrong ∷ later)
  pub right : AllByRecursion IsAddress earlier
  pub few : length earlier ≤ MOST_ADDRESSES
  pub bad : (length earlier ≡ MOST_ADDRESSES) ⊎ (IsAddress wrong → ⊥)
  pub at : place ≡ length path_front + size_before earlier

-- Why a text is no frame.
abbrev pub IsFrameFault : Bytes → FrameFault → Type 0
IsFrameFault text TooLong = FRAME_LIMIT < length text
IsFrameFault text NoPath = (length text ≤ FRAME_LIMIT) × ((line message : Bytes) → text ≢ with_path line message)
IsFrameFault text (BadPath place) = IsBadPath text place
IsFrameFault text NoMemory = ⊥

-- ---- a frame that is made

-- A frame of this path and this message can be made.
pub record HasFrame (path : Path) (message : Bytes) : Type 0 where
  pub some : 0 < length path
  pub few : length path ≤ MOST_ADDRESSES
  pub lower : AllByRecursion IsLowerAddress path
  pub short : length (frame_text path message) ≤ FRAME_LIMIT
