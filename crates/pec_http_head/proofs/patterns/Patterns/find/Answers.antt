-- Which target has which parts.
use Rattle.std.proofs.Common.{◌≡◌, ◌∙◌, ap, sym, None, Some}
use Rattle.matchit.specs.Seek.{first}
use Rattle.pec_http_head.specs.Patterns.{rows}
use Rattle.pec_http_head.proofs.AsciiLemmas.{foreign, text_of}
use Rattle.pec_http_head.proofs.PartLemmas.{matched, not_absent, spelled_so}
use Rattle.pec_http_head.proofs.PatternLemmas.{nothing_found, outcome}
use Rattle.pec_http_head.proofs.patterns.Patterns.find.Goals as goal

pub returns-in_default : goal.returns-in_default
returns-in_default c = foreign c.an_address_is_told_exactly.ensures c.an_address_has_its_bytes_alone.ensures c.args.target.now c.in_default.ensures

pub returns-in_default-at : goal.returns-in_default-at
returns-in_default-at c =
    let target = c.args.target.now in
    let missing : first rows target ≡ None = rw (c.self.invariant, c.in-Some.ensures.0) at c.in_default-at.ensures.missing in
    nothing_found target (first rows target) (outcome target (text_of target c.in-Some.ensures.1)) missing

pub returns-in_default-get : goal.returns-in_default-get
returns-in_default-get c =
    let found = matched c.args.target.now c.in-Some.path.now c.in-Ok.found.params.path.now c.self.inside.router _ c.self.invariant c.in-Some.ensures.1 c.in-Some.ensures.0 c.in-Ok.ensures.path c.in-Ok.ensures.found in
    absurd (not_absent _ found.account (c.in_default-get.ensures found.told.all_text) found.told.address)

pub returns : goal.returns
returns c =
    let found = matched c.args.target.now c.in-Some.path.now c.in-Ok.found.params.path.now c.self.inside.router _ c.self.invariant c.in-Some.ensures.1 c.in-Some.ensures.0 c.in-Ok.ensures.path c.in-Ok.ensures.found in
    spelled_so (λ part. part.now) c.args.target.now c.in-Ok.found.value.now _ found c.as_bytes.result.now c.as_bytes-2.result.now c.get-2.result _
    (c.in-Some-get.ensures found.told.all_text ∙ ap (λ part. Some part) (sym c.as_bytes.ensures.value)) (c.get-2.ensures found.told.all_text) (c.as_bytes-2.ensures.value ∙ ap (λ part. part.now) c.unwrap_or-place.ensures)
