-- One row of a walk. Assumes nothing.
use Rattle.std.proofs.Common.{◌≡◌, ◌<◌, true, List, [], ◌∷◌, ◌++◌, length, is_some, Some, None, Option, unwrap_or, sym, ap, ◌∙◌, subst, arith}
use Rattle.std.proofs.lemmas.List.Sums.{fold-append}
use Rattle.hir.specs.Lists.{Each}
use Rattle.std.specs.List.{fold}
use Rattle.reactive.specs.declared.row.RowHead.{RowHead}
use Rattle.reactive.specs.Rows.{Reading, head, left, upcoming, advanced, given, last_row, no_row}
use Rattle.reactive.proofs.Steps.{gives, ended}
use Rattle.walk.specs.Events.{Event, entering, closing, staying, innermost_of, events, Allowed, Shallow}

module _ {W K : Type 0} (keeps : RowHead → K) (can : W → Event K → Type 0) (after : W → Event K → W) where
  allowed_front : (xs ys : List (Event K)) (w : W) → Allowed can after w (xs ++ ys) → Allowed can after w xs
  allowed_front [] ys w a = tt
  allowed_front (x ∷ xs) ys w a = (a.0, allowed_front xs ys (after w x) a.1)

  allowed_back : (xs ys : List (Event K)) (w : W) → Allowed can after w (xs ++ ys) → Allowed can after (fold after w xs) ys
  allowed_back [] ys w a = a
  allowed_back (x ∷ xs) ys w a = allowed_back xs ys (after w x) a.1

  -- the rest of the events leads from here to where all lead from the start
  pub record Onward (start at : W) (all rest : List (Event K)) : Type 0 where
    pub same : fold after start all ≡ fold after at rest
    pub allowed : Allowed can after at rest

  pub onward_same : (start at : W) (all rest more : List (Event K)) → Onward start at all rest → rest ≡ more → Onward start at all more
  onward_same start at all rest more o e = subst (Onward start at all) e o

  pub onward_step : (start at on : W) (all rest : List (Event K)) (e : Event K) → Onward start at all (e ∷ rest) → on ≡ after at e → Onward start on all rest
  onward_step start at on all rest e o h =
      let P : W → Type 0 = λ w. Onward start w all rest in
      subst P (sym h) (record { same = o.same; allowed = o.allowed.1 })

  pub onward_front : (start at : W) (all xs rest : List (Event K)) → Onward start at all (xs ++ rest) → Allowed can after at xs
  onward_front start at all xs rest o = allowed_front xs rest at o.allowed

  pub onward_over : (start at on : W) (all xs rest : List (Event K)) → Onward start at all (xs ++ rest) → on ≡ fold after at xs → Onward start on all rest
  onward_over start at on all xs rest o h =
      let P : W → Type 0 = λ w. Onward start w all rest in
      subst P (sym h) (record { same = o.same ∙ fold-append after at xs rest; allowed = allowed_back xs rest at o.allowed })

  pub onward_end : (start at : W) (all rest : List (Event K)) → Onward start at all rest → rest ≡ [] → at ≡ fold after start all
  onward_end start at all rest o e = sym (onward_same start at all rest [] o e).same

  -- the rows so far were walked, and these rows are open
  pub record Walking (start at : W) (first s : Reading) (around : List K) : Type 0 where
    pub same : s.rows ≡ first.rows
    pub shallow : Each Shallow (left s)
    pub onward : Onward start at (events keeps [] first.rows) (events keeps around (left s))

  module _ (start at : W) (first s t : Reading) (around : List K) (inv : Walking start at first s around) (row : RowHead) (gave : Some row ≡ upcoming s) (on : t ≡ advanced s) where
    last_is : last_row t ≡ (gives s row gave).item
    last_is = ap last_row on ∙ ap (λ o. unwrap_or o no_row) (gives s row gave).last

    pub some_last : is_some (given t) ≡ true
    some_last = ap (λ (r : Reading). is_some (given r)) on ∙ ap is_some (gives s row gave).last

    pub row_last : row ≡ head (last_row t)
    row_last = sym (gives s row gave).is ∙ ap head (sym last_is)

    rest_is : left s ≡ last_row t ∷ left t
    rest_is = (gives s row gave).rest ∙ (λ i. sym last_is i ∷ left (sym on i))

    depth_is : (last_row t).depth ≡ row.depth
    depth_is = sym (ap (λ (r : RowHead). r.depth) row_last)

    pub deep : row.depth < 128
    deep = let h = subst (Each Shallow) rest_is inv.shallow in omega (arith, h.0, depth_is)

    pub shrinks : length (left t) < length (left s)
    shrinks = let e = ap length rest_is in omega arith

    stay : List K
    stay = staying row.depth around

    split : events keeps around (left s) ≡ closing row.depth around ++ (entering (innermost_of stay) (last_row t) ∷ events keeps (keeps row ∷ stay) (left t))
    unfolding stay
    split =
        ap (events keeps around) rest_is
        ∙ (λ i. closing (depth_is i) around ++ (entering (innermost_of (staying (depth_is i) around)) (last_row t) ∷ events keeps (keeps (sym row_last i) ∷ staying (depth_is i) around) (left t)))

    splits : Onward start at (events keeps [] first.rows) (closing row.depth around ++ (entering (innermost_of stay) (last_row t) ∷ events keeps (keeps row ∷ stay) (left t)))
    splits = onward_same start at _ _ _ inv.onward split

    pub closes : Allowed can after at (closing row.depth around)
    closes = onward_front start at _ (closing row.depth around) _ splits

    module _ (mid : W) (parent : Option K) (closed : mid ≡ fold after at (closing row.depth around)) (is : parent ≡ innermost_of (staying row.depth around)) where
      enters : Onward start mid (events keeps [] first.rows) (entering parent (last_row t) ∷ events keeps (keeps row ∷ staying row.depth around) (left t))
      unfolding stay
      enters =
          onward_same start mid _ _ _ (onward_over start at mid _ (closing row.depth around) _ splits closed)
          (ap (λ p. entering p (last_row t) ∷ events keeps (keeps row ∷ staying row.depth around) (left t)) (sym is))

      pub may_enter : can mid (entering parent (last_row t))
      may_enter = enters.allowed.0

      pub walked : (next : W) → next ≡ after mid (entering parent (last_row t)) → Walking start next first t (keeps row ∷ staying row.depth around)
      walked next e =
          record {
            same = ap (λ (r : Reading). r.rows) on ∙ inv.same;
            shallow = (subst (Each Shallow) rest_is inv.shallow).1;
            onward = onward_step start mid next _ _ _ enters e;
          }

  -- the last row was walked
  module _ (start at : W) (first s : Reading) (around : List K) (inv : Walking start at first s around) (gave : None ≡ upcoming s) where
    finishing : Onward start at (events keeps [] first.rows) (closing 0 around)
    finishing = onward_same start at _ _ _ inv.onward (ap (events keeps around) (ended s gave).0)

    pub closes_all : Allowed can after at (closing 0 around)
    closes_all = finishing.allowed

    pub walked_all : (on : W) → on ≡ fold after at (closing 0 around) → on ≡ fold after start (events keeps [] first.rows)
    walked_all on h = h ∙ sym finishing.same
