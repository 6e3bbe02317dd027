-- How a run ends: by its words, its input or its disks (`End`), each but one with a last line that says so
-- (`end_text`). This project's profile.
use Rattle.std.specs.Prelude.{ℕ, List, [], ◌∷◌, codes}
use Rattle.std.specs.Fmt.{decimal}
use Rattle.pec_types.specs.Bytes.{Bytes}
use Rattle.pec_directory.specs.Directory.{Provider}
use Rattle.pec_input.specs.Directory.{Refusal}
use Rattle.pec_input.specs.Faults.{refused_directory_words}
use Rattle.pec_script.specs.Texts.{Row, name_of, refused_rows, text_of, unfit_words}
use Rattle.pec_script.specs.declared.answers.Unfit.{Unfit}
use Rattle.pec_script.specs.declared.faults.LineFault.{LineFault}

-- How a run ends where nothing stops it. Lines of the script are numbered from 1, providers from 0.
pub data End : Type 0 where
  Done : End  -- the script was played to its end
  Usage : End  -- the words are no form
  LongDirectory : End
  NoScript : End
  DirectoryRefused : (why : Refusal) → End
  NotEmpty : (provider : ℕ) → End  -- a journal was to be made on a disk that holds something
  NotFit : (provider : ℕ) (unfit : Unfit) → End  -- a disk holds no journal of the provider
  LongLine : (number : ℕ) → End
  LongScript : End
  LineRefused : (number : ℕ) (fault : LineFault) → End

-- ---- last lines

-- The last line that a run writes, in a directory of these providers; a run that is done writes none.
abbrev pub end_rows : List Provider → End → List Row
end_rows providers Done = []
end_rows providers Usage = (codes "usage" ∷ []) ∷ []
end_rows providers LongDirectory = (codes "too-long" ∷ codes "directory" ∷ []) ∷ []
end_rows providers NoScript = (codes "refused" ∷ codes "no-script" ∷ []) ∷ []
end_rows providers (DirectoryRefused why) = refused_directory_words why ∷ []
end_rows providers (NotEmpty provider) = (codes "not-empty" ∷ name_of providers provider ∷ []) ∷ []
end_rows providers (NotFit provider unfit) = (codes "not-fit" ∷ name_of providers provider ∷ unfit_words unfit) ∷ []
end_rows providers (LongLine number) = (codes "too-long" ∷ codes "line" ∷ decimal number ∷ []) ∷ []
end_rows providers LongScript = (codes "too-long" ∷ codes "script" ∷ []) ∷ []
end_rows providers (LineRefused number fault) = refused_rows number fault

-- That line in bytes.
unfoldable pub end_text : List Provider → End → Bytes
end_text providers end = text_of (end_rows providers end)
