-- What a hasher was fed (FIPS 180-4).
use Rattle.std.specs.Prelude.{◌++◌}
use Rattle.sha2.specs.Hashers.{Holds256}
use Rattle.sha2.specs.declared.Sha256.{Sha256}
use Rattle.pec_types.specs.Bytes.{Bytes}

-- the second holds what the first held, and this behind it
abbrev pub Fed : Sha256 → Sha256 → Bytes → Type 0
Fed before after text = (held : Bytes) → Holds256 before held → Holds256 after (held ++ text)
