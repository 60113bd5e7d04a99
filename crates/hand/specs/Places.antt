-- Sixteen places, four by four.
use Rattle.std.specs.Prelude.{List, [], ◌∷◌}
use Rattle.std.specs.List.{flat_map}
use Rattle.hand.specs.declared.places.Four.{Four}

-- what stands in four places, in their order
abbrev pub four : {T : Type 0} → Four T → List T
four x = x.a ∷ (x.b ∷ (x.c ∷ (x.d ∷ [])))

-- what stands in sixteen places, in their order
unfoldable pub sixteen : {T : Type 0} → Four (Four T) → List T
sixteen x = flat_map four (four x)
