-- Piece by piece.
use Rattle.std.proofs.Common.{refl}
use Rattle.pec_load.specs.Accounts.{account_text}
use Rattle.pec_load.proofs.directory.account_text.Goals as goal

pub returns : goal.returns
unfolding account_text
returns c =
    rw (c.in_ok-page-4.ensures, c.in_ok-with_number-2.ensures, c.in_ok-page-3.ensures, c.in_ok-page-2.ensures, c.in_ok-with_number.ensures, c.in_ok-page.ensures, c.new.ensures)
    refl
