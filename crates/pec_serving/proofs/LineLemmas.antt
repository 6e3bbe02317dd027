-- The line of a status, in three pieces.
use Rattle.std.proofs.Common.{◌≡◌, ℕ, [], ◌∷◌, ◌++◌, sym}
use Rattle.std.specs.Prelude.{codes}
use Rattle.std.specs.Fmt.{decimal}
use Rattle.std.proofs.lemmas.List.{append-nil}
use Rattle.pec_http.specs.declared.serving.Served.TheVariants as served
use Rattle.pec_script.specs.Texts.{line_of}
use Rattle.pec_serving.specs.Serving.{served_line}

pub status_line : (code : ℕ) → codes "http " ++ (decimal code ++ 10 ∷ []) ≡ served_line (served.Answered code)
unfolding line_of
status_line code = sym (append-nil (line_of (codes "http" ∷ decimal code ∷ [])))
