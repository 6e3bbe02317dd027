-- What an account is shown of its own is what the ledger has of it.
use Rattle.std.proofs.Common.{◌≡◌, ℕ, Bool, true, false, List, [], ◌∷◌, ◌++◌, refl, ap, ◌∙◌, Option, Some, None}
use Rattle.std.specs.Prelude.{if◌then◌else◌}
use Rattle.std.specs.Option.{option_map}
use Rattle.std.proofs.lemmas.Bool.{eq-eqb}
use Rattle.std.proofs.lemmas.Option.{none-some}
use Rattle.pec_types.specs.Bytes.{Bytes}
use Rattle.pec_directory.specs.Directory.{Kept, account_home, is_account_of, is_number, providers_of}
use Rattle.pec_seal.specs.Seals.{Seals}
use Rattle.pec_ledger.specs.Books.{book, mailbox_lines}
use Rattle.pec_ledger.specs.Ledger.{ledger}
use Rattle.pec_ledger.specs.Network.{Site, journal_at, site_at}
use Rattle.pec_ledger.specs.Steps.{half}
use Rattle.pec_ledger.specs.Trade.{Trade}
use Rattle.pec_http.specs.Replies.{Reply, shown_reply}
use Rattle.pec_http.specs.Serving.{kind_of}
use Rattle.pec_http.specs.declared.demands.Look.{Look}
use Rattle.pec_http.specs.declared.demands.Look.TheVariants as looks
use Rattle.pec_http.specs.declared.statuses.Status.TheVariants as codes_of
use Rattle.pec_runs.specs.OfTrades.{trade_of}
use Rattle.pec_service.specs.Own.{share_at, shown_with}
use Rattle.pec_service.specs.Connections.{Connection, Place}
use Rattle.pec_service.specs.Services.{AreConnections}
use Rattle.pec_service.specs.Shown.{ShowsBook, ShowsItems}

home_found : (found : Bool) (home : Option ℕ) (number : ℕ) → (if found then home else None) ≡ Some number
    → home ≡ Some number
home_found true home number e = e
home_found false home number e = absurd (none-some number e)

module _ (kept : List Kept) (seals : Seals) (sites : List Site) (address : Bytes) where
  abbrev trade : Trade
  trade = trade_of kept seals

  home_is : (number : ℕ) → account_home (providers_of kept) address ≡ Some number → trade.home address ≡ Some number
  unfolding account_home
  home_is number home = home_found _ _ number home

  account_is : (number : ℕ) → account_home (providers_of kept) address ≡ Some number
      → trade.is_account number address ≡ true
  unfolding is_account_of
  account_is number home = ap (is_number number) home ∙ eq-eqb number number refl

  -- what is answered, by the share of the account
  abbrev answer : Option ℕ → Look → Reply
  answer home looked =
      shown_reply (kind_of looked) (shown_with (providers_of kept) (option_map (share_at trade sites address) home) looked)

  book_up : (number : ℕ) → account_home (providers_of kept) address ≡ Some number → (up : Bool)
      → (site_at sites number).up ≡ up → (answer (Some number) looks.Book).status ≡ codes_of.Ok
      → ShowsBook trade (providers_of kept) sites address (answer (Some number) looks.Book)
  unfolding ledger
  book_up number home true up done = record {
    lines = book trade number (half trade number (journal_at sites number)) address;
    is_book = record { provider = number; home = home_is number home; account = account_is number home; are = refl };
    text = rw up refl;
  }
  book_up number home false up done = absurd (let e = rw up at done in cc)

  items_up : (number : ℕ) → account_home (providers_of kept) address ≡ Some number → (up : Bool)
      → (site_at sites number).up ≡ up → (answer (Some number) looks.Items).status ≡ codes_of.Ok
      → ShowsItems trade (providers_of kept) sites address (answer (Some number) looks.Items)
  unfolding ledger
  items_up number home true up done = record {
    lines = mailbox_lines (half trade number (journal_at sites number)) address;
    is_mailbox = record { provider = number; home = home_is number home; account = account_is number home; are = refl };
    text = rw up refl;
  }
  items_up number home false up done = absurd (let e = rw up at done in cc)

  book_by : (home : Option ℕ) → account_home (providers_of kept) address ≡ home
      → (answer home looks.Book).status ≡ codes_of.Ok
      → ShowsBook trade (providers_of kept) sites address (answer home looks.Book)
  book_by None home done = absurd (cc)
  book_by (Some number) home done = book_up number home (site_at sites number).up refl done

  items_by : (home : Option ℕ) → account_home (providers_of kept) address ≡ home
      → (answer home looks.Items).status ≡ codes_of.Ok
      → ShowsItems trade (providers_of kept) sites address (answer home looks.Items)
  items_by None home done = absurd (cc)
  items_by (Some number) home done = items_up number home (site_at sites number).up refl done

  pub shows_book : (answer (account_home (providers_of kept) address) looks.Book).status ≡ codes_of.Ok
      → ShowsBook trade (providers_of kept) sites address (answer (account_home (providers_of kept) address) looks.Book)
  shows_book done = book_by (account_home (providers_of kept) address) refl done

  pub shows_items : (answer (account_home (providers_of kept) address) looks.Items).status ≡ codes_of.Ok
      → ShowsItems trade (providers_of kept) sites address (answer (account_home (providers_of kept) address) looks.Items)
  shows_items done = items_by (account_home (providers_of kept) address) refl done

-- those that were served before one were served
pub front_are : (trade : Trade) (tells : Type 0) (kept : List Kept) (here : Place) (front rest : List Connection)
    (connection : Connection) → AreConnections trade tells kept here (front ++ connection ∷ rest)
    → AreConnections trade tells kept here front
front_are trade tells kept here [] rest connection are = tt
front_are trade tells kept here (one ∷ front) rest connection are =
    (are.0, front_are trade tells kept one.behind front rest connection are.1)
