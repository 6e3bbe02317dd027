use Rattle.std.proofs.Common.{◌∷◌, [], ap, ◌∙◌}
use Rattle.base64.specs.Engines.{standard}
use Rattle.base64.specs.GeneralPurpose.{encode_of}
use Rattle.pec_script.proofs.RowLemmas.{text_is}
use Rattle.pec_script.specs.Pages.{line_after}
use Rattle.pec_script.specs.Texts.{item_text}
use Rattle.pec_script.proofs.mailboxes.item_text.Goals as goal

pub returns : goal.returns
unfolding item_text
returns c =
    c.in_ok-page.ensures
    ∙ (ap (λ t. line_after t (c.as_bytes.result.now ∷ [])) c.new.ensures
    ∙ (ap (λ word. line_after [] (word ∷ [])) (c.as_bytes.ensures.value ∙ c.in_ok-encoded.ensures.text)
    ∙ text_is ((encode_of standard c.args.bytes.now ∷ []) ∷ [])))
