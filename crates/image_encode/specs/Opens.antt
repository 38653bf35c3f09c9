-- Open rows while they are written. Assumes nothing.
use Rattle.std.specs.Prelude.{◌≡◌, ℕ, ◌^◌, ◌<◌, ◌≤◌, Bool, ◌&&◌, ◌||◌, List, [], ◌∷◌, ◌++◌, length, ◌==◌, nat_le, nat_lt}
use Rattle.reactive.specs.declared.row.RowHead.{RowHead}
use Rattle.reactive.specs.Rows.{Row}
use Rattle.image.specs.Bytes.{be}
use Rattle.image.specs.Format.{fields}
use Rattle.image_encode.specs.Fields.{fields_of, fits_in}

-- the innermost open row, of which a length can tell, is closed: its length and its bytes go behind those of the row around it
pub record Closed (top : List ℕ) (below : List (List ℕ)) (top' : List ℕ) (below' : List (List ℕ)) : Type 0 where
  pub parent : List ℕ
  pub short : length top < 2 ^ 32
  pub around : below ≡ below' ++ (parent ∷ [])
  pub bytes : top' ≡ parent ++ (be (length top) ++ top)

-- some open rows are closed, innermost first
pub data ClosedTo : List ℕ → List (List ℕ) → List ℕ → List (List ℕ) → Type 0 where
  none : {top : List ℕ} {below : List (List ℕ)} → ClosedTo top below top below
  more : {top top' top'' : List ℕ} {below below' below'' : List (List ℕ)} → ClosedTo top below top' below' → Closed top' below' top'' below'' → ClosedTo top below top'' below''

-- a row that would be closed on the way to this depth has more bytes than its length can count
pub record TooLong (depth : ℕ) (top : List ℕ) (below : List (List ℕ)) : Type 0 where
  pub inner : List ℕ
  pub around : List (List ℕ)
  pub closes : ClosedTo top below inner around
  pub deep : depth < length around
  pub long : 2 ^ 32 ≤ length inner

-- a row can stand where this many are open: no deeper than within the last, at most 127 deep, and one alone at depth 0
abbrev pub fits_at : ℕ → RowHead → Bool
fits_at height h = (nat_le h.depth height && nat_lt h.depth 128) && ((height == 0 || nat_lt 0 h.depth) && fits_in h.code h.identifier h.number)

-- a row without rows within it is opened in the innermost
pub record Entered (r : Row) (top : List ℕ) (below : List (List ℕ)) (top' : List ℕ) (below' : List (List ℕ)) : Type 0 where
  pub fine : fields.Fine (fields_of r)
  pub bytes : top' ≡ fields.write (fields_of r)
  pub around : below' ≡ below ++ (top ∷ [])
