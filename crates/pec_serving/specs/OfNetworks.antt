-- What the program names of networks, of their providers and of the commands that are played over them: this crate hands
-- it on, so that the program needn't list what stands below.
pub use Rattle.pec_playing.specs.OfNetworks.{AllAt, AllBegun, AllStand, BlamesDisk, CarriesOn, ChronicleState}
pub use Rattle.pec_playing.specs.OfNetworks.{Desk, Fits, Form}
pub use Rattle.pec_playing.specs.OfNetworks.{IsAbout, IsBegun, IsJournalOf, IsLeft, IsOfDirectory, IsUnchanged, IsUnwritten}
pub use Rattle.pec_playing.specs.OfNetworks.{IsRefused, IsUnfit, NetworkState, NoneFalls, NoneFell, NotFit, NothingMay}
pub use Rattle.pec_playing.specs.OfNetworks.{ProviderState, Runs, Says, Stands, StartFault, Waiting, all_rested, all_rested_of}
pub use Rattle.pec_playing.specs.OfNetworks.{behind_first, desk_of, first_of}
pub use Rattle.pec_playing.specs.OfNetworks.{journals_had, reopened_as, rested, site_of, sites, sites_of, trade_of}
pub use Rattle.pec_playing.specs.OfNetworks.{Summary, total_of, waiting_for, world_of}
pub use Rattle.pec_playing.specs.Doing.{Keeps}
pub use Rattle.pec_playing.specs.Playing.{CanPlay, count_or, counts_in}
pub use Rattle.pec_playing.specs.Points.{point_of, state_in, stop_in}
pub use Rattle.pec_playing.specs.Spares.{last_spare}
pub use Rattle.pec_plays.specs.Commands.{Command, Luck, played}
pub use Rattle.pec_playing.specs.OfNetworks.faults as faults
pub use Rattle.pec_playing.specs.OfNetworks.reasons as reasons
pub use Rattle.pec_playing.specs.OfNetworks.ways as ways
pub use Rattle.pec_playing.specs.declared.stops.Stop.{Stop}
pub use Rattle.pec_playing.specs.declared.stops.Stop.TheVariants as play_stops
