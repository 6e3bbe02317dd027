-- The fields are put one behind another.
use Rattle.std.proofs.Common.{codes, option_map}
use Rattle.pec_heads.specs.WrittenHeads.{field}
use Rattle.pec_cert.specs.HeaderDate.{header_date_of}
use Rattle.pec_letter_parts.proofs.PutLemmas.{put_round}
use Rattle.pec_letter_parts.specs.Headings.{angled, optional_field}
use Rattle.pec_letter_parts.proofs.headings.put_names.Goals as goal

pub returns : goal.returns
returns c =
    let h = c.args.heading.now
    in put_round c.args.out.now.items c.put_name.new.out.items c.put_optional.new.out.items c.put_date.new.out.items
    (field (codes "Message-ID") (angled h.name.now))
    (optional_field (codes "X-Riferimento-Message-ID") (option_map (λ text. text.now) h.reference))
    (field (codes "Date") (header_date_of h.stamp))
    c.in_ok-put_name.ensures c.in_ok-put_optional.ensures c.in_ok-put_date.ensures
