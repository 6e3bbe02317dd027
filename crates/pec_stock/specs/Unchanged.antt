-- `IsUnchanged`, what is said of a disk on which nothing was written. This project's profile.
use Rattle.std.specs.Prelude.{◌≡◌}
use Rattle.pec_types.specs.Bytes.{Bytes}
use Rattle.pec_outside.specs.DiskModel.{Sight}

-- A disk reads as it did, and a crash leaves nothing that it wouldn't have left.
pub record IsUnchanged (old new : Sight) : Type 0 where
  pub seen : new.seen ≡ old.seen
  pub crash : (image : Bytes) → new.may_leave image → old.may_leave image
