use Rattle.std.proofs.Common.{◌++◌}
use Rattle.std.specs.List.{flat_map}
use Rattle.pec_directory.specs.Canonical.{account_line, back_of, domain_line, front_of, provider_text}
use Rattle.pec_directory.proofs.FeedLemmas.{fed_more}
use Rattle.pec_directory.proofs.digesting.feed_provider.Goals as goal

pub returns : goal.returns
unfolding provider_text
returns c =
    let provider = c.args.provider.now.provider in
    let front = front_of provider in
    let domains = flat_map domain_line provider.domains in
    let back = back_of provider in
    let accounts = flat_map account_line provider.accounts in
    let start = c.args.hasher.now in
    fed_more start c.feed_back.new.hasher c.feed_accounts.new.hasher ((front ++ domains) ++ back) accounts
    (fed_more start c.feed_domains.new.hasher c.feed_back.new.hasher (front ++ domains) back
    (fed_more start c.feed_front.new.hasher c.feed_domains.new.hasher front domains c.feed_front.ensures (rw c.domains.ensures at c.feed_domains.ensures))
    c.in_ok-feed_back.ensures)
    (rw c.accounts.ensures at c.in_ok-feed_accounts.ensures)
