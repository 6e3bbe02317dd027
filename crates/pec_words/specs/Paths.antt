-- Forward paths: one to 1,000 addresses joined by commas: `IsPath`, and how it is read, `path_of`. Where an owner lets
-- more stand round the addresses, `ArePath` and `path_with` say the same of what is left. This project's profile.
use Rattle.std.specs.Prelude.{◌≡◌, ◌≤◌, ◌==◌, List, [], ◌∷◌, ◌++◌, length, map, Option, Some, None, option_map, if◌then◌else◌}
use Rattle.std.specs.List.{AllByRecursion, slice_split}
use Rattle.std.specs.Result.{result_ok}
use Rattle.pec_types.specs.Address.{IsAddress, lowered}
use Rattle.pec_types.specs.AddressReading.{address_of}
use Rattle.pec_types.specs.Bytes.{Bytes, Path, comma}
use Rattle.pec_types.specs.Options.{◌>>=◌}
use Rattle.pec_words.specs.Cuts.{IsCut, is_at}
use Rattle.pec_words.specs.declared.paths.TheConstants.{MOST_ADDRESSES}

-- The parts are the addresses of this path, in its order: at most 1,000 of them, kept in lower case.
pub record ArePath (parts : List Bytes) (path : Path) : Type 0 where
  pub each : AllByRecursion IsAddress parts
  pub within : length parts ≤ MOST_ADDRESSES
  pub path_is : path ≡ map lowered parts

-- Between its commas the text has the addresses of this path.
pub record IsPath (text : Bytes) (path : Path) : Type 0 where
  pub parts : List Bytes
  pub cut : IsCut comma text parts
  pub are : ArePath parts path

-- A path with the address that a part is behind it; none where the part is no address, or the path is full.
unfoldable pub with_address : Path → Bytes → Option Path
with_address path part =
    if length path == MOST_ADDRESSES then None else option_map (λ address. path ++ address ∷ []) (result_ok (address_of part))

-- a path with the addresses that these parts are behind it
abbrev pub path_with : Path → List Bytes → Option Path
path_with path [] = Some path
path_with path (part ∷ parts) = with_address path part >>= λ more. path_with more parts

-- The path that a text is.
unfoldable pub path_of : Bytes → Option Path
path_of text = path_with [] (slice_split (is_at comma) text)
