-- A forward path as a request spells it, one to 1,000 addresses joined by commas with blanks round them: `IsSpacedPath`,
-- and how it is read, `addresses_in`. This project's profile.
use Rattle.std.specs.Prelude.{List, [], map, Option}
use Rattle.std.specs.List.{slice_split}
use Rattle.pec_heads.specs.Bytes.{trimmed}
use Rattle.pec_types.specs.Bytes.{Bytes, Path, comma}
use Rattle.pec_words.specs.Cuts.{IsCut, is_at}
use Rattle.pec_words.specs.Paths.{ArePath, path_with}

-- Between its commas the text has the addresses of this path, with blanks round them or none.
pub record IsSpacedPath (text : Bytes) (path : Path) : Type 0 where
  pub parts : List Bytes
  pub cut : IsCut comma text parts
  pub are : ArePath (map trimmed parts) path

-- The path that a text is.
unfoldable pub addresses_in : Bytes → Option Path
addresses_in text = path_with [] (map trimmed (slice_split (is_at comma) text))
