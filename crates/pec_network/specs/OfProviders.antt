-- What the crates above name of providers: this crate hands it on, so that they needn't list what stands below.
pub use Rattle.pec_chronicle.specs.Carrying.{CarriesOn, FollowsSo, NothingMay}
pub use Rattle.pec_chronicle.specs.Chronicle.{ChronicleState, IsJournalOf, Stands}
pub use Rattle.pec_points.specs.Admission.{Looked}
pub use Rattle.pec_points.specs.Case.{Case, case_at}
pub use Rattle.pec_provider.specs.Looking.{Looks}
pub use Rattle.pec_provider.specs.OfTrades.{Fits, trade_of}
pub use Rattle.pec_provider.specs.Playing.{luck_of}
pub use Rattle.pec_provider.specs.Provider.{Desk, ProviderState, Runs, desk_of, site_of}
pub use Rattle.pec_provider.specs.Summing.{Summary, total_of}
pub use Rattle.pec_provider.specs.declared.swapping.SwapFault.{SwapFault}
pub use Rattle.pec_provider.specs.declared.swapping.SwapFault.TheVariants as swaps
pub use Rattle.pec_stock.specs.Opening.{IsUnfit}
pub use Rattle.pec_stock.specs.Unchanged.{IsUnchanged}
