-- What is put one after another.
use Rattle.std.proofs.Common.{◌≡◌, [], ◌∷◌, ◌++◌, ap, ◌∙◌, append_assoc}
use Rattle.std.proofs.lemmas.List.{append-nil}
use Rattle.pec_types.specs.Bytes.{Bytes, carriage_return, line_feed}

-- two fields, and the end of the head
pub head_put : (out one two end after-one after-two after-end : Bytes) → after-one ≡ out ++ one → after-two ≡ after-one ++ two
    → after-end ≡ after-two ++ end → after-end ≡ out ++ ((one ++ (two ++ [])) ++ end)
head_put out one two end after-one after-two after-end e f g =
    g ∙ ap (λ text. text ++ end) (f ∙ ap (λ text. text ++ two) e) ∙ simp (append_assoc, append-nil)

-- a head, and what stands behind it
pub replaced : (out head behind after-head after : Bytes) → after-head ≡ out ++ (head ++ carriage_return ∷ line_feed ∷ [])
    → after ≡ after-head ++ behind → after ≡ out ++ (head ++ carriage_return ∷ line_feed ∷ behind)
replaced out head behind after-head after e f = f ∙ ap (λ text. text ++ behind) e ∙ simp append_assoc
