-- What the two hashes of a key hold behind its pads, where a tag under it begins: `ArePads` (RFC 2104, section 4).
use Rattle.std.specs.Prelude.{◌≡◌, ℕ, ◌<◌, List, [], length}
use Rattle.std.specs.List.{slice_index_or}
use Rattle.sha2.specs.Hashers.{Holds256}
use Rattle.pec_types.specs.Bytes.{Path}
use Rattle.pec_seal.specs.Hmac.{key_block, padded}
use Rattle.pec_seal.specs.declared.pads.Pads.{Pads}

-- the inner hash holds the key's inner pad, and the outer one its outer pad
pub record ArePads (key : List ℕ) (pads : Pads) : Type 0 where
  pub inner : Holds256 pads.inner (padded (key_block key) 0x36)
  pub outer : Holds256 pads.outer (padded (key_block key) 0x5c)

-- There are pads for each key, in the order of the keys.
pub record AreAllPads (keys : Path) (pads : List Pads) : Type 0 where
  pub count : length pads ≡ length keys
  pub each : (place : ℕ) (other : Pads) → place < length pads
      → ArePads (slice_index_or keys place []) (slice_index_or pads place other)
