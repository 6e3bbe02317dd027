-- What the crates above name of networks where they speak of a desk: this crate hands it on, so that they needn't list what
-- stands below.
pub use Rattle.pec_network.specs.Changing.{ConcernsOne}
pub use Rattle.pec_network.specs.Playing.{IsReadOver, IsReadSo, luck_of_read}
