-- What is asked while a path is compared with recipients: whether both are alike, and which addresses an index knows.
use Rattle.std.specs.Prelude.{◌≡◌, Bool, true, false, ◌&&◌, List, [], ◌∷◌, is_some}
use Rattle.std.specs.Str.{bytes_eq}
use Rattle.pec_types.specs.Bytes.{Bytes, Path}
use Rattle.pec_types.specs.declared.messages.Recipient.{Recipient}
use Rattle.pec_index.specs.Entries.{Entries, value_at}

-- the path has the addresses of the recipients in their order
abbrev pub is_in_order : Path → List Recipient → Bool
is_in_order [] [] = true
is_in_order [] (r ∷ recipients) = false
is_in_order (address ∷ path) [] = false
is_in_order (address ∷ path) (r ∷ recipients) = bytes_eq address r.address && is_in_order path recipients

-- something stands at the key
abbrev pub has_key : Entries Bool → Bytes → Bool
has_key known key = is_some (value_at key known)

-- The index has exactly the addresses that pass a test.
abbrev pub AreKnown : Entries Bool → (Bytes → Bool) → Type 0
AreKnown known test = (key : Bytes) → has_key known key ≡ test key
