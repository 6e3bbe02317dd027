-- Piece by piece.
use Rattle.std.proofs.Common.{refl}
use Rattle.pec_load.specs.Accounts.{provider_text}
use Rattle.pec_load.proofs.directory.provider_text.Goals as goal

pub returns : goal.returns
unfolding provider_text
returns c =
    rw (c.in_ok-page-5.ensures, c.in_ok-page-4.ensures, c.in_ok-page-3.ensures, c.in_ok-page-2.ensures, c.in_ok-page.ensures, c.new.ensures)
    refl
