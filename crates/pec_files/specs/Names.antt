-- Where the journals of providers stand in a folder. This project's profile.
use Rattle.std.specs.Prelude.{ℕ, List, ◌++◌, codes, decimal}

-- the name of a provider's journal
abbrev pub journal_name : ℕ → List ℕ
journal_name provider = codes "pec-" ++ (decimal provider ++ codes ".journal")

-- where it stands in the folder
abbrev pub path_in : List ℕ → ℕ → List ℕ
path_in folder provider = folder ++ (codes "/" ++ journal_name provider)
