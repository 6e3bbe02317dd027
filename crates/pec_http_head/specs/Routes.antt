-- The routes of a request's target: `route_of`, at the end. The whole target is the path (RFC 9112, section 3.2.1):
-- nothing is cut off at a `?`, and `http://host/..` is no route. This project's profile.
use Rattle.std.specs.Prelude.{ℕ, ◌+◌, ◌==◌, Bool, [], ◌∷◌, zero, suc, take, drop, codes, position, Option, Some, option_map, if◌then◌else◌}
use Rattle.std.specs.Result.{result_ok}
use Rattle.std.specs.Str.{bytes_eq}
use Rattle.pec_types.specs.AddressReading.{address_of}
use Rattle.pec_types.specs.Bytes.{Bytes, after_front, at_sign}
use Rattle.pec_types.specs.Options.{◌>>=◌}
use Rattle.pec_http_head.specs.declared.routes.Call.{Call}
use Rattle.pec_http_head.specs.declared.routes.Call.TheVariants.{Submit, Book, Items, Item}
use Rattle.pec_http_head.specs.declared.routes.Route.{Route}
use Rattle.pec_words.specs.Numbers.{number_below}

-- b'/'
abbrev pub slash : ℕ
slash = 47

abbrev pub is_slash : ℕ → Bool
is_slash b = b == slash

-- The text begins with `%40`, an `@` as targets may spell it (RFC 3986, section 2.1).
abbrev pub is_sign : Bytes → Bool
is_sign text = bytes_eq (take 3 text) (codes "%40")

-- The text from a byte on, of which so many are passed over: each `%40` is an `@`. No other escape is read.
abbrev pub signs_read : ℕ → Bytes → Bytes
signs_read zero [] = []
signs_read zero (b ∷ bs) = (if is_sign (b ∷ bs) then at_sign else b) ∷ signs_read (if is_sign (b ∷ bs) then 2 else 0) bs
signs_read (suc passed) [] = []
signs_read (suc passed) (b ∷ bs) = signs_read passed bs

-- The address that a segment of a target spells.
unfoldable pub account_in : Bytes → Option Bytes
account_in segment = result_ok (address_of (signs_read 0 segment))

-- The text up to its first slash, and what stands behind that.
unfoldable pub segment_at : Bytes → Option (Bytes × Bytes)
segment_at text = option_map (λ at. (take at text, drop (at + 1) text)) (position is_slash text)

-- The place of an item: a number without zeros in front, of at most nine digits.
unfoldable pub place_in : Bytes → Option ℕ
place_in text = number_below 1000000000 text

-- What is asked of an account, by what stands behind its address.
unfoldable pub call_in : Bytes → Option Call
call_in text =
    if bytes_eq text (codes "submit") then Some Submit else (
    if bytes_eq text (codes "book") then Some Book else (
    if bytes_eq text (codes "items") then Some Items else
    (after_front (codes "items/") text >>= λ digits. option_map Item (place_in digits))))

-- `/mail/ADDRESS/submit`, `/mail/ADDRESS/book`, `/mail/ADDRESS/items` and `/mail/ADDRESS/items/N`.
unfoldable pub route_of : Bytes → Option Route
route_of target = do
  behind ← after_front (codes "/mail/") target
  cut ← segment_at behind
  call ← call_in cut.1
  address ← account_in cut.0
  Some (record { address = address; call = call })

-- The method of a call.
abbrev pub method_of : Call → Bytes
method_of Submit = codes "POST"
method_of _ = codes "GET"
