-- The patterns of the service as a router holds them, `rows`, and the targets that they spell, `IsSpelled`. This project's
-- profile.
use Rattle.std.specs.Prelude.{◌≡◌, ℕ, false, List, [], ◌∷◌, ◌++◌, codes, Option, Some, option_map, Ok}
use Rattle.matchit.specs.Rows.{RowsOf, param_token}
use Rattle.matchit.specs.Router.{RouteOf, route_from}
use Rattle.matchit.specs.Seek.{has_slash}
use Rattle.pec_types.specs.Bytes.{Bytes}
use Rattle.pec_http_head.specs.declared.patterns.Asked.{Asked}
use Rattle.pec_http_head.specs.declared.patterns.Asked.TheVariants.{Submit, Book, Items, Item}
use Rattle.pec_http_head.specs.Routes.{place_in, slash}
use Rattle.pec_http_head.specs.declared.routes.Call.{Call}
use Rattle.pec_http_head.specs.declared.routes.Call.TheVariants as calls
use Rattle.matchit.specs.Route.{Scan, parse_route}

-- The tokens of a pattern: those of `/mail/{address}/`, and behind them these bytes and then these tokens.
unfoldable pub tokens : Bytes → Bytes → List ℕ
tokens behind last = codes "/mail/" ++ (param_token ∷ (slash ∷ (behind ++ last)))

-- What a router keeps of each pattern: the places of the names in its text are those between the braces.
unfoldable pub entry_of : Asked → RouteOf Asked
entry_of Submit = record {
  pattern = tokens (codes "submit") [];
  text = codes "/mail/{address}/submit";
  names = (7, 14) ∷ [];
  value = Submit;
}
entry_of Book = record {
  pattern = tokens (codes "book") [];
  text = codes "/mail/{address}/book";
  names = (7, 14) ∷ [];
  value = Book;
}
entry_of Items = record {
  pattern = tokens (codes "items") [];
  text = codes "/mail/{address}/items";
  names = (7, 14) ∷ [];
  value = Items;
}
entry_of Item = record {
  pattern = tokens (codes "items/") (param_token ∷ []);
  text = codes "/mail/{address}/items/{place}";
  names = (7, 14) ∷ (23, 28) ∷ [];
  value = Item;
}

unfoldable pub row_of : Asked → List ℕ × RouteOf Asked
row_of asked = ((entry_of asked).pattern, entry_of asked)

-- The four patterns, in the order of their tokens.
unfoldable pub rows : RowsOf (RouteOf Asked)
rows = row_of Book ∷ row_of Item ∷ row_of Items ∷ row_of Submit ∷ []

-- What stands behind the account's segment, where a place is asked or not.
unfoldable pub behind_account : Asked → Bytes → Bytes
behind_account Submit place = codes "submit"
behind_account Book place = codes "book"
behind_account Items place = codes "items"
behind_account Item place = codes "items/" ++ place

-- A pattern spells the target with this account and this place.
pub record IsSpelled (target : Bytes) (asked : Asked) (account place : Bytes) : Type 0 where
  pub spelled : target ≡ codes "/mail/" ++ account ++ slash ∷ behind_account asked place
  pub segment : has_slash account ≡ false

-- What a pattern asks, with the place that it leaves open.
unfoldable pub call_as : Asked → Bytes → Option Call
call_as Submit place = Some calls.Submit
call_as Book place = Some calls.Book
call_as Items place = Some calls.Items
call_as Item place = option_map calls.Item (place_in place)

-- A text is read as the pattern that asks this.
pub record IsPattern (text : Bytes) (asked : Asked) : Type 0 where
  pub scan : Scan
  pub read : parse_route text ≡ Ok scan
  pub entry : route_from scan asked ≡ entry_of asked
