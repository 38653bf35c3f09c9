-- Rows while they are written, and the trees that they become. Assumes nothing.
use Rattle.std.proofs.Common.{◌≡◌, ℕ, suc, List, [], ◌∷◌, length, ap, ◌∙◌, arith, length-append}
use Rattle.image_encode.specs.Opens.{Closed}

-- closing leaves one row fewer around
pub fewer : (top : List ℕ) (below : List (List ℕ)) (top' : List ℕ) (below' : List (List ℕ)) → Closed top below top' below' → length below ≡ suc (length below')
fewer top below top' below' k = let e = ap length k.around ∙ length-append below' (k.parent ∷ []) in omega arith
