-- What is seen of a request is one thing, since the grammar of heads has one reading.
use Rattle.std.proofs.Common.{◌≡◌, [], take, drop, Option, Some, None, refl, sym, ap, ◌∙◌}
use Rattle.httparse.proofs.GrammarLemmas.{request_unique}
use Rattle.pec_types.specs.Bytes.{Bytes}
use Rattle.pec_http_head.specs.Cuts.{WholeCut, Ends, TooLarge, Short, cut_of}
use Rattle.pec_http_head.specs.Requests.{IsRequest, ReadsHead, Request, Seen, Sees, SeesCut, request_of, seen_behind}

pub one_request : (text : Bytes) (request other : Request) → IsRequest text request → IsRequest text other → request ≡ other
one_request text request other h k =
    let same = request_unique text h.head k.head [] [] h.reads k.reads in
    h.parts ∙ (ap request_of same.0 ∙ sym k.parts)

one_found : (text : Bytes) (found other : Option Request) → ReadsHead text found → ReadsHead text other → found ≡ other
one_found text None None h k = refl
one_found text None (Some other) h k = absurd (h other k)
one_found text (Some request) None h k = absurd (k request h)
one_found text (Some request) (Some other) h k = ap (λ r. Some r) (one_request text request other h k)

one_by_cut : (input : Bytes) (cut : WholeCut) (seen other : Seen) → SeesCut input cut seen → SeesCut input cut other → seen ≡ other
one_by_cut input TooLarge seen other h k = h ∙ sym k
one_by_cut input Short seen other h k = h ∙ sym k
one_by_cut input (Ends end) seen other h k =
    h.2 ∙ (ap (λ found. seen_behind (drop end input) found) (one_found (take end input) h.0 k.0 h.1 k.1) ∙ sym k.2)

pub one_seen : (input : Bytes) (seen other : Seen) → Sees input seen → Sees input other → seen ≡ other
one_seen input seen other h k = one_by_cut input (cut_of input) seen other h k
