-- What a walk does, as a list of events that the rows alone determine. Assumes nothing.
use Rattle.std.specs.Prelude.{ℕ, ◌<◌, cond, List, [], ◌∷◌, ◌++◌, length, Some, None, Option, nat_le}
use Rattle.std.specs.List.{fold}
use Rattle.hir.specs.Scratches.{Tables}
use Rattle.reactive.specs.declared.row.RowHead.{RowHead}
use Rattle.reactive.specs.Rows.{Row, head}

-- a visitor with the tables that it writes
pub record Whole (V : Type 0) : Type 0 where
  pub visitor : V
  pub tables : Tables

-- a visitor and the tables that it writes, as one value
abbrev pub whole : {V : Type 0} → V → Tables → Whole V
whole v t = record { visitor = v; tables = t }

-- a row is entered, within its parent, or left; the parent, and the row that is left, stand there as what the pass keeps of them
pub data Event (K : Type 0) : Type 0 where
  entering : Option K → Row → Event K
  leaving : K → Event K

module _ {K : Type 0} where
  -- of the open rows, innermost first, those with d or more around them are left
  abbrev pub closing : ℕ → List K → List (Event K)
  closing d [] = []
  closing d (r ∷ around) = cond (nat_le d (length around)) (leaving r ∷ closing d around) []

  -- the others stay open
  abbrev pub staying : ℕ → List K → List K
  staying d [] = []
  staying d (r ∷ around) = cond (nat_le d (length around)) (staying d around) (r ∷ around)

  -- the innermost of the open rows, which is the first; none, where no row is open
  abbrev pub innermost_of : List K → Option K
  innermost_of [] = None
  innermost_of (r ∷ around) = Some r

  -- the events of rows, with these rows open, innermost first, for a pass that keeps of each row what `keeps` says
  abbrev pub events : (RowHead → K) → List K → List Row → List (Event K)
  events keeps around [] = closing 0 around
  events keeps around (r ∷ rs) =
      closing r.depth around
      ++ (entering (innermost_of (staying r.depth around)) r ∷ events keeps (keeps (head r) ∷ staying r.depth around) rs)

  -- each event may come where it comes
  abbrev pub Allowed : {W : Type 0} → (W → Event K → Type 0) → (W → Event K → W) → W → List (Event K) → Type 0
  Allowed can after w [] = Unit {0}
  Allowed can after w (e ∷ es) = can w e × Allowed can after (after w e) es

-- the row can be open
-- No type has it of all rows of a source: a source is lent to each pass, and a struct around it would need a clause in each that the reference stays the same.
abbrev pub Shallow : Row → Type 0
Shallow r = r.depth < 128

module _ {K A : Type 0} where
  -- a pass that turns each event into acts does them one after another
  abbrev pub acting : {W : Type 0} → (W → A → W) → (Event K → List A) → W → Event K → W
  acting does acts w e = fold does w (acts e)

  -- the acts of a list of events
  abbrev pub acts_of : (Event K → List A) → List (Event K) → List A
  acts_of acts [] = []
  acts_of acts (e ∷ es) = acts e ++ acts_of acts es

  -- a pass that only turns events into acts on the tables
  abbrev pub on_tables : {V : Type 0} → (Tables → A → Tables) → (Event K → List A) → Whole V → Event K → Whole V
  on_tables does acts w e = whole w.visitor (fold does w.tables (acts e))
