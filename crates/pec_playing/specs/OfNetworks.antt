-- What the crates above name of networks and of their providers: this crate hands it on, so that they needn't list what
-- stands below.
pub use Rattle.pec_network.specs.Beginning.{AllBegun, BlamesDisk, IsAbout, IsBegun, IsLeft, IsRefused, IsUnwritten}
pub use Rattle.pec_network.specs.Beginning.{NoneFell, Says, all_rested, all_rested_of, journals_had, reopened_as}
pub use Rattle.pec_network.specs.Beginning.{rested}
pub use Rattle.pec_network.specs.Carrying.{AllStand, NoneFalls}
pub use Rattle.pec_network.specs.Changing.{HasRisenAt}
pub use Rattle.pec_network.specs.Homes.{AllAt}
pub use Rattle.pec_network.specs.Network.{IsOfDirectory, NetworkState, behind_first, first_of, sites, sites_of}
pub use Rattle.pec_network.specs.Network.{world_of}
pub use Rattle.pec_network.specs.OfProviders.{CarriesOn, ChronicleState, Desk, IsJournalOf, IsUnchanged, IsUnfit}
pub use Rattle.pec_network.specs.OfProviders.{NothingMay, ProviderState, Runs, Stands, Summary, desk_of, luck_of}
pub use Rattle.pec_network.specs.OfProviders.{site_of, total_of}
pub use Rattle.pec_network.specs.Playing.{IsPlayed}
pub use Rattle.pec_network.specs.declared.faults.NotFit.{NotFit}
pub use Rattle.pec_network.specs.declared.faults.StartFault.{StartFault}
pub use Rattle.pec_network.specs.declared.opening.Form.{Form}
pub use Rattle.pec_posts.specs.Arrivals.{Waiting, waiting_for}
pub use Rattle.pec_network.specs.OfProviders.{Fits, trade_of}
pub use Rattle.pec_network.specs.declared.faults.NotFit.TheVariants as reasons
pub use Rattle.pec_network.specs.declared.faults.StartFault.TheVariants as faults
pub use Rattle.pec_network.specs.declared.opening.Form.TheVariants as ways
