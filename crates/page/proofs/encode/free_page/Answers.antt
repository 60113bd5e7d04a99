use Rattle.std.proofs.Common.{[], ◌∷◌, refl, ap, ◌∙◌}
use Rattle.page.specs.Form.{padded, encode}
use Rattle.page.proofs.encode.free_page.Goals as goal

pub returns : goal.returns
unfolding encode
returns g c = c.put_bytes.ensures (0 ∷ []) refl refl ∙ ap (λ z. padded (0 ∷ z)) c.to_le_bytes.ensures
