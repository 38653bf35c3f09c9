-- What a source over bytes knows by what it keeps. Assumes nothing.
use Rattle.std.proofs.Common.{◌≡◌, ℕ, zero, suc, ◌+◌, ◌^◌, ◌<◌, ◌≤◌, List, [], ◌∷◌, map, reverse, length, drop, Bor, ◌++◌, Some, None, Ok, Err, Option, sym, refl, ap, ◌∙◌, subst, arith}
use mathlib.Core.Logic.{∥∥₁_elim, ∥∥₁_map}
use native.Mathlib.Bridge.{le_prop}
use lib.ListN.{length-map}
use Rattle.std.proofs.lemmas.List.{map-append, reverse-append, length-reverse}
use Rattle.std.specs.Coded.{Coded-set, coded_option}
use Rattle.std.specs.Option.{option_map}
use Rattle.std.specs.List.{slice_get}
use Rattle.std.proofs.lemmas.Option.{slice_get-map}
use Rattle.std.proofs.lemmas.Bool.{cond-true, cond-false, lt-ltb, le-ltb}
use Rattle.hir.specs.declared.ids.IdentifierId.{IdentifierId}
use Rattle.hir.specs.contracts.ids.IdentifierId as identifier
use Rattle.hir.specs.Spans.{ident}
use Rattle.reactive.specs.declared.row.RowHead.{RowHead}
use Rattle.reactive.specs.contracts.row.RowHead as row_head
use Rattle.reactive.specs.Rows.{Row, at_place, head, upcoming, advanced, given, pick, operand_at, mark_at}
use Rattle.image.specs.declared.cursor.Cursor.{Cursor}
use Rattle.image.specs.declared.fault.SectionFault.{SectionFault}
use Rattle.image.specs.declared.fields.RowFields.{RowFields}
use Rattle.image.specs.Bytes.{Place, Inside, see}
use Rattle.image.specs.Steps.{see_numbers, see_fields, passed, head_at, many_at, row_at}
use Rattle.image_source.specs.declared.standing.Standing.{Standing}
use Rattle.image_source.specs.declared.state.ImageSource.{ImageSource}
use Rattle.image_source.specs.Trees.{row_of}
use Rattle.image_source.specs.Sections.{held_rows}
use Rattle.image_source.specs.Standings.{innermost_first, list_of, Stand, see_standing, starting, closed_to, opened_to, Stands}
use Rattle.image_source.specs.Sources.{image_reading}
use Rattle.image_source.proofs.Moves.{starts, closes, ends, faultless, Gives, gives}

head_set : IsSet (Option RowHead)
head_set = Coded-set (coded_option (row_head.the_row).coded)

identifier_set : IsSet (Option IdentifierId)
identifier_set = Coded-set (coded_option (identifier.the_row).coded)

picked : (f : Row → List IdentifierId) (o : Option Row) (i : ℕ) → slice_get (list_of f o) i ≡ pick f o i
picked f None i = refl
picked f (Some r) i = refl

drop_none : {A : Type 0} (k : ℕ) (xs : List A) → drop k xs ≡ [] → (slice_get xs k ≡ None) × (length xs ≤ k)
drop_none zero [] e = (refl, omega arith)
drop_none (suc k) [] e = (refl, omega arith)
drop_none zero (x ∷ xs) e = absurd (cc)
drop_none (suc k) (x ∷ xs) e = let h = drop_none k xs e in (h.0, omega (arith, h.1))

as_many : (behind : List (Bor (List ℕ))) → length (innermost_first behind) ≡ length behind
as_many behind = length-reverse (map (λ x. x.now) behind) ∙ length-map behind (λ x. x.now)

opened : (behind more : List (Bor (List ℕ))) (x : Bor (List ℕ)) → more ≡ behind ++ (x ∷ []) → innermost_first more ≡ x.now ∷ innermost_first behind
opened behind more x e = ap innermost_first e ∙ ap reverse (map-append (λ x. x.now) behind (x ∷ [])) ∙ reverse-append (map (λ x. x.now) behind) (x.now ∷ [])

-- before the first row none is open
pub begun : (rows : Place) (at : Stand) (behind : List (Bor (List ℕ))) → at ≡ starting rows → behind ≡ [] → Inside rows → passed (many_at (row_at 128) rows) ≡ Ok tt → ∥ Stands rows at (innermost_first behind) ∥₁
begun rows at behind e none inside fills = ∣ subst (λ b. Stands rows at (innermost_first b)) (sym none) (starts rows at e inside fills) ∣₁

module _ (s : ImageSource) where
  abbrev Now : Type 0
  Now = Stands (see s.rows) (see_standing s.at) (innermost_first s.behind.items)

  pub restarts : (at : Standing) (behind : List (Bor (List ℕ))) → see_standing at ≡ starting (see s.rows) → behind ≡ [] → ∥ Stands (see s.rows) (see_standing at) (innermost_first behind) ∥₁
  restarts at behind e none = ∥∥₁_map s.ok (λ st. subst (λ b. Stands (see s.rows) (see_standing at) (innermost_first b)) (sym none) (starts (see s.rows) (see_standing at) e st.holder st.fills))

  -- the innermost row is read to its end: it is closed
  pub closed : (behind : List (Bor (List ℕ))) (x : Bor (List ℕ)) → s.behind.items ≡ behind ++ (x ∷ []) → length s.at.left.rest.now ≡ 0 → ∥ Stands (see s.rows) (closed_to (see_standing s.at) x.now) (innermost_first behind) ∥₁
  closed behind x e none = ∥∥₁_map s.ok (λ st. closes (see s.rows) (see_standing s.at) x.now (innermost_first behind) (subst (Stands (see s.rows) (see_standing s.at)) (opened behind s.behind.items x e) st) none)

  pub operand_is : (i : ℕ) → option_map ident (slice_get (see_numbers s.at.operands) i) ≡ operand_at (image_reading s) i
  operand_is i = ∥∥₁_elim s.ok (identifier_set _ _) (λ st. sym (slice_get-map ident (see_numbers s.at.operands) i) ∙ ap (λ l. slice_get l i) (sym st.operands) ∙ picked (λ r. r.operands) (given (image_reading s)) i)

  pub mark_is : (i : ℕ) → option_map ident (slice_get (see_numbers s.at.marks) i) ≡ mark_at (image_reading s) i
  mark_is i = ∥∥₁_elim s.ok (identifier_set _ _) (λ st. sym (slice_get-map ident (see_numbers s.at.marks) i) ∙ ap (λ l. slice_get l i) (sym st.marks) ∙ picked (λ r. r.marks) (given (image_reading s)) i)

  -- no row is left to close, and none reads: all were given
  module _ (none_open : length s.at.left.rest.now ≡ 0 → s.behind.items ≡ []) (e : SectionFault) (is : head_at (see s.at.left) ≡ Err e) where
    over : Now → (slice_get (held_rows (see s.rows)) s.at.given ≡ None) × (length (held_rows (see s.rows)) ≤ s.at.given)
    over st =
        let none = faultless (see s.rows) (see_standing s.at) (innermost_first s.behind.items) st e is in
        let alone = subst (λ b. Stands (see s.rows) (see_standing s.at) (innermost_first b)) (none_open none) st in
        drop_none s.at.given (held_rows (see s.rows)) (ends (see s.rows) (see_standing s.at) alone none)

    pub over_value : None ≡ upcoming (image_reading s)
    over_value = ∥∥₁_elim s.ok (head_set _ _) (λ st. sym (ap (option_map head) (over st).0))

    pub over_after : image_reading s ≡ advanced (image_reading s)
    over_after = ap (at_place (held_rows (see s.rows))) (sym (cond-false _ _ _ (le-ltb _ _ (∥∥₁_elim s.ok le_prop (λ st. (over st).1)))))

  -- a row reads: it is given
  module _ (fields : RowFields) (children after : Cursor) (is : head_at (see s.at.left) ≡ Ok (see_fields fields, see children, see after)) where
    it : Now → Gives (see s.rows) (see_standing s.at) (innermost_first s.behind.items) (see_fields fields, see children, see after)
    it st = gives (see s.rows) (see_standing s.at) (innermost_first s.behind.items) st (see_fields fields, see children, see after) is

    pub room : length s.behind.items < 128
    room = ∥∥₁_elim s.ok le_prop (λ st. omega (arith, (it st).room, as_many s.behind.items))

    pub fits : s.at.given + 1 < 2 ^ 64
    fits = ∥∥₁_elim s.ok le_prop (λ st. (it st).fits)

    pub next_value : Some (head (row_of (length s.behind.items) (see_fields fields))) ≡ upcoming (image_reading s)
    next_value =
        ap (λ d. Some (head (row_of d (see_fields fields)))) (sym (as_many s.behind.items))
        ∙ ∥∥₁_elim s.ok (head_set _ _) (λ st. sym (ap (option_map head) (it st).row))

    pub next_after : at_place (held_rows (see s.rows)) (s.at.given + 1) ≡ advanced (image_reading s)
    next_after = ap (at_place (held_rows (see s.rows))) (sym (cond-true _ _ _ (lt-ltb _ _ (∥∥₁_elim s.ok le_prop (λ st. (it st).more)))))

    pub keeps : (behind : List (Bor (List ℕ))) → behind ≡ s.behind.items ++ (after.rest ∷ []) → ∥ Stands (see s.rows) (opened_to (see_standing s.at) (see_fields fields, see children, see after)) (innermost_first behind) ∥₁
    keeps behind e =
        subst (λ b. ∥ Stands (see s.rows) (opened_to (see_standing s.at) (see_fields fields, see children, see after)) b ∥₁) (sym (opened s.behind.items behind after.rest e))
        (∥∥₁_map s.ok (λ st. (it st).on))
