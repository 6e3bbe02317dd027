-- What a router holds once the text of a pattern is added.
use Rattle.std.proofs.Common.{◌≡◌, Option, Some, None, Ok, Err, codes, refl, ap, ◌∙◌}
use Rattle.matchit.specs.declared.error.InsertError.{InsertError}
use Rattle.matchit.specs.declared.error.InsertError.TheVariants.{Conflict, InvalidParam, InvalidParamSegment, InvalidCatchAll, OutOfMemory}
use Rattle.matchit.specs.Order.{placed}
use Rattle.matchit.specs.Route.{parse_route}
use Rattle.matchit.specs.Router.{InsertsRead, RouteOf, nearest}
use Rattle.matchit.specs.Rows.{RowsOf}
use Rattle.matchit.proofs.OnLiterals.{matchit_on_literals}
use Rattle.pec_types.specs.Bytes.{Bytes}
use Rattle.pec_http_head.specs.declared.patterns.Asked.{Asked}
use Rattle.pec_http_head.specs.declared.patterns.Asked.TheVariants.{Submit, Book, Items, Item}
use Rattle.pec_http_head.specs.Patterns.{IsPattern, entry_of, row_of, tokens}

not_there : (found : Option (RouteOf Asked)) (one : RouteOf Asked) → found ≡ None → found ≡ Some one → ⊥
not_there None one e f = absurd cc
not_there (Some other) one e f = absurd cc

module _ (text : Bytes) (asked : Asked) (old new : RowsOf (RouteOf Asked)) (is : IsPattern text asked) where
  pub memory_alone : (error : InsertError) → (error ≡ OutOfMemory → ⊥) → nearest (entry_of asked).pattern old ≡ None → InsertsRead (parse_route text) asked old new (Err error) → ⊥
  memory_alone OutOfMemory other free h = other refl
  memory_alone (Conflict with) other free h =
      let refused = rw is.read at h in
      not_there (nearest is.scan.pattern old) refused.1.0 (ap (λ route. nearest route.pattern old) is.entry ∙ free) refused.1.1
  memory_alone InvalidParamSegment other free h = (rw is.read at h).1
  memory_alone InvalidParam other free h = (rw is.read at h).1
  memory_alone InvalidCatchAll other free h = (rw is.read at h).1

  pub inserted : (u : _) → InsertsRead (parse_route text) asked old new (Ok u) → new ≡ placed (row_of asked) old
  unfolding row_of
  inserted u h =
      let added = rw is.read at h in
      added.1 ∙ ap (λ route. placed (route.pattern, route) old) is.entry

-- ---- the four texts

pub submit_read : IsPattern (codes "/mail/{address}/submit") Submit
unfolding matchit_on_literals entry_of tokens
submit_read = record { scan = _; read = refl; entry = refl }

pub book_read : IsPattern (codes "/mail/{address}/book") Book
unfolding matchit_on_literals entry_of tokens
book_read = record { scan = _; read = refl; entry = refl }

pub items_read : IsPattern (codes "/mail/{address}/items") Items
unfolding matchit_on_literals entry_of tokens
items_read = record { scan = _; read = refl; entry = refl }

pub item_read : IsPattern (codes "/mail/{address}/items/{place}") Item
unfolding matchit_on_literals entry_of tokens
item_read = record { scan = _; read = refl; entry = refl }
