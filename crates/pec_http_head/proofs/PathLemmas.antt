-- A path with blanks round its addresses is read exactly where it is one, and has as many addresses as the text has parts.
use Rattle.std.proofs.Common.{◌≡◌, ◌<◌, ◌≤◌, ◌↔◌, List, [], length, map, Option, Some, None, option_map, refl, sym, ◌∙◌, ap, arith}
use Rattle.std.proofs.lemmas.List.{length-map}
use Rattle.std.proofs.lemmas.List.Splits.{length-slice_split}
use Rattle.std.specs.List.{slice_split}
use Rattle.std.specs.Prelude.{IfSome}
use Rattle.pec_heads.specs.Bytes.{trimmed}
use Rattle.pec_types.specs.Address.{lowered}
use Rattle.pec_types.specs.Bytes.{Bytes, Path, comma}
use Rattle.pec_words.specs.Cuts.{IsCut, is_at}
use Rattle.pec_words.specs.Paths.{ArePath, path_with}
use Rattle.pec_http_head.specs.Paths.{IsSpacedPath, addresses_in}

-- what laws of paths and of cuts say
abbrev pub PathsTold : Type 0
PathsTold = (parts : List Bytes) (path : Path) → (path_with [] parts ≡ Some path) ↔ ArePath parts path

abbrev pub CutsTold : Type 0
CutsTold = (separator : _) (text : Bytes) (parts : List Bytes) → IsCut separator text parts ↔ (slice_split (is_at separator) text ≡ parts)

pub spaced : PathsTold → CutsTold → (text : Bytes) (path : Path) → (addresses_in text ≡ Some path) ↔ IsSpacedPath text path
unfolding addresses_in
spaced paths cuts text path =
    let parts = slice_split (is_at comma) text in (
      (λ e. record { parts = parts; cut = (cuts comma text parts).1 refl; are = (paths (map trimmed parts) path).0 e }),
      (λ is. ap (λ all. path_with [] (map trimmed all)) ((cuts comma text is.parts).0 is.cut) ∙ (paths (map trimmed is.parts) path).1 is.are),
    )

pub bounded : PathsTold → (text : Bytes) (path : Path) → addresses_in text ≡ Some path → (0 < length path) × (length path ≤ 1000)
unfolding addresses_in
bounded paths text path e =
    let parts = slice_split (is_at comma) text in
    let are : ArePath (map trimmed parts) path = (paths (map trimmed parts) path).0 e in
    let size : length path ≡ length parts = ap (λ l. length l) are.path_is ∙ (length-map (map trimmed parts) lowered ∙ length-map parts trimmed) in
    let fits : length (map trimmed parts) ≤ 1000 = are.within in
    (omega (arith, length-slice_split (is_at comma) text), omega (arith, length-map parts trimmed))

pub found_some : {V : Type 0} (items : V → Path) → PathsTold → (text : Bytes) (found : Option V) → option_map items found ≡ addresses_in text → IfSome found (λ path. 0 < length (items path))
found_some items paths text None e = record {}
found_some items paths text (Some path) e = (bounded paths text (items path) (sym e)).0

pub found_few : {V : Type 0} (items : V → Path) → PathsTold → (text : Bytes) (found : Option V) → option_map items found ≡ addresses_in text → IfSome found (λ path. length (items path) ≤ 1000)
found_few items paths text None e = record {}
found_few items paths text (Some path) e = (bounded paths text (items path) (sym e)).1
