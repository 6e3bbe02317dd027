-- The recipient at hand goes from what is left to what was added.
use Rattle.std.proofs.Common.{◌≡◌, ◌++◌, ◌∷◌, List, ◌-◌, take, drop, length, map, sym, ap, ◌∙◌}
use Rattle.pec_types.specs.Bytes.{Path}
use Rattle.pec_types.specs.declared.messages.Recipient.{Recipient}
use Rattle.pec_heads.specs.BoundedFacts.{addresses_where}
use Rattle.pec_letters.proofs.PlaceLemmas.{added_before, first_and_rest}
use Rattle.pec_letters.specs.Envelopes.{is_of}
use Rattle.pec_letters.proofs.envelopes.addresses.Goals as goal

pub loop-rest-preserved : goal.loop-rest-preserved
loop-rest-preserved c =
    let test = is_of c.args.class
    in let rest = c.loop-rest.rest.now
    in let r = c.recipient-item.result
    in let further : List Recipient = take (length rest - 1) (drop 1 rest)
    in let whole : rest ≡ r ∷ further = first_and_rest rest r c.in-len1-up.len_at_least c.recipient-item.is
    in ap (λ (path : Path). path ++ addresses_where test further) c.in_ok-add.ensures
    ∙ added_before test (map (λ address. address.now) c.loop-rest.all.items) r further
    ∙ ap (λ (all : List Recipient). map (λ address. address.now) c.loop-rest.all.items ++ addresses_where test all) (sym whole)
    ∙ c.loop-rest.invariant
