-- A journal's name has its provider's number in it.
use Rattle.std.proofs.Common.{◌≡◌, ℕ, List, ◌++◌, ◌<◌, ◌^◌, codes, decimal, arith}
use Rattle.std.proofs.lemmas.Fmt.{decimal_injective}
use Rattle.std.proofs.lemmas.List.{append_cancel_left, append_cancel_right}
use Rattle.pec_files.specs.Names.{journal_name, path_in}

pub one_name : (k j : ℕ) → k < 2 ^ 32 → j < 2 ^ 32 → journal_name k ≡ journal_name j → k ≡ j
one_name k j small also_small same =
    decimal_injective k j (omega (arith, small)) (omega (arith, also_small))
    (append_cancel_right (decimal k) (decimal j) (codes ".journal")
    (append_cancel_left (codes "pec-") (decimal k ++ codes ".journal") (decimal j ++ codes ".journal") same))

pub one_path : (folder : List ℕ) (k j : ℕ) → k < 2 ^ 32 → j < 2 ^ 32 → path_in folder k ≡ path_in folder j → k ≡ j
one_path folder k j small also_small same =
    one_name k j small also_small
    (append_cancel_left (codes "/") (journal_name k) (journal_name j)
    (append_cancel_left folder (codes "/" ++ journal_name k) (codes "/" ++ journal_name j) same))
