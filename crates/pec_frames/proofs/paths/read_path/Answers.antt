-- One entry more than there may be.
use Rattle.std.proofs.Common.{◌≡◌, ap, sym, ◌∙◌, arith, eqb, length, option_map}
use Rattle.pec_frames.proofs.EntryLemmas.{one_too_many}
use Rattle.pec_frames.specs.Entries.{entries_behind}
use Rattle.pec_frames.specs.FramesReading.{entries_from, path_of}
use Rattle.pec_frames.specs.declared.TheConstants.{MOST_ADDRESSES}
use Rattle.pec_frames.proofs.paths.read_path.Goals as goal

pub returns-then-len-eq-MOST_ADDRESSES : goal.returns-then-len-eq-MOST_ADDRESSES
unfolding path_of
returns-then-len-eq-MOST_ADDRESSES c = λ stays.
    let found = c.loop-rest.addresses.items
    in let all : length found ≡ MOST_ADDRESSES = omega (arith, c.loop-rest.addresses.ok.0, c.if-len-eq-MOST_ADDRESSES.true)
    in sym c.loop-rest.invariant.0
    ∙ ap (λ rest. entries_from c.loop-rest.place found (entries_behind (option_map (λ text. text.now) rest))) c.in-Some.is
    ∙ one_too_many c.loop-rest.place found c.in-Some.text.now (ap (λ n. eqb n MOST_ADDRESSES) all)
