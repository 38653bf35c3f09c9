-- What holds of each element. Assumes nothing.
use Rattle.std.specs.Prelude.{List, [], ◌∷◌}

-- what holds of each element
abbrev pub Each : {A : Type 0} → (A → Type 0) → List A → Type 0
Each P [] = Unit {0}
Each P (x ∷ xs) = P x × Each P xs
