-- The lists of the row last given, one element after another. Assumes nothing.
use Rattle.std.proofs.Common.{◌≡◌, ℕ, ◌+◌, ◌<◌, ◌^◌, Bool, true, false, List, [], ◌∷◌, length, drop, is_some, Some, None, Option, unwrap_or, sym, refl, ap, ◌∙◌, subst, add-one, arith}
use Rattle.std.specs.List.{slice_get}
use Rattle.std.proofs.lemmas.List.{drop_all}
use Rattle.std.proofs.lemmas.Option.{slice_get_within}
use Rattle.hir.specs.declared.ids.IdentifierId.{IdentifierId}
use Rattle.reactive.specs.declared.given.RowList.{RowList}
use Rattle.reactive.specs.declared.given.RowList.TheVariants.{Operands, Marks}
use Rattle.reactive.specs.declared.row.RowHead.{RowHead}
use Rattle.reactive.specs.Given.{Given, Lists}
use Rattle.reactive.specs.Rows.{Row, Reading, given, pick, last_row, no_row}
use Rattle.reactive.proofs.Steps.{drop_at_some, none_place}

picked : (f : Row → List IdentifierId) (o : Option Row) (i : ℕ) → is_some o ≡ true → pick f o i ≡ slice_get (f (unwrap_or o no_row)) i
picked f None i h = absurd (let z : ◌≡◌ {A = Bool} false true = h in let k : ◌≡◌ {A = ℕ} 0 1 = cc in omega arith)
picked f (Some r) i h = refl

module _ (f : Row → List IdentifierId) (s : Reading) (i : ℕ) (some : is_some (given s) ≡ true) where
  -- the element that was found, and those after it
  pub found_here : (id : IdentifierId) → Some id ≡ pick f (given s) i → drop i (f (last_row s)) ≡ id ∷ drop (i + 1) (f (last_row s))
  found_here id found =
      drop_at_some (f (last_row s)) i id (sym (found ∙ picked f (given s) i some))
      ∙ ap (λ k. id ∷ drop k (f (last_row s))) (sym (add-one i))

  -- it is within the list
  pub found_low : (id : IdentifierId) → Some id ≡ pick f (given s) i → i < length (f (last_row s))
  found_low id found = slice_get_within (f (last_row s)) i id (sym (found ∙ picked f (given s) i some))

  -- where none was found, none is left
  pub none_left : None ≡ pick f (given s) i → drop i (f (last_row s)) ≡ []
  none_left found = drop_all _ _ (none_place (f (last_row s)) i (sym (found ∙ picked f (given s) i some)))

-- the lists of a row that was given have fewer than 2 ^ 64 identifiers, as its head has their lengths
pub lists_given : (s : Reading) (h : RowHead) → Given s h → h.operands < 2 ^ 64 → h.marks < 2 ^ 64 → (l : RowList) → Lists s l
lists_given s h g few scarce Operands = record { given = g.given; short = subst (λ (x : RowHead). x.operands < 2 ^ 64) g.row few }
lists_given s h g few scarce Marks = record { given = g.given; short = subst (λ (x : RowHead). x.marks < 2 ^ 64) g.row scarce }
