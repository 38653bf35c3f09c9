-- The loop over a tree's rows. Assumes nothing.
use Rattle.std.proofs.Common.{◌≡◌, ℕ, ◌+◌, ◌<◌, ◌≤◌, Bool, true, false, ◌&&◌, ◌||◌, cond, eqb, ltb, leb, [], ◌∷◌, length, is_some, Some, None, Option, unwrap_or, sym, ap, ◌∙◌, arith}
use Rattle.std.proofs.Math.Bool.{or_assoc, or-false, or-true}
use Rattle.std.proofs.lemmas.Bool.{cond-true, cond-false, eqb-true, lt-ltb, le-ltb, or_parts, leb-false}
use Rattle.hir.specs.declared.refusal.Refusal.{Refusal}
use Rattle.hir.specs.declared.refusal.Refusal.TheVariants as refusals
use Rattle.hir.specs.Environments.{Model}
use Rattle.hir.specs.Refusals.{refused_if}
use Rattle.reactive.specs.declared.row.RowHead.{RowHead}
use Rattle.reactive.specs.Rows.{Reading, head, upcoming, advanced, given, left, last_row, no_row, scope_rows}
use Rattle.reactive.specs.Lvalues.{absent_or_named, without_temporary, some_without_temporary}
use Rattle.reactive.proofs.Steps as steps
use Rattle.checks.specs.Rows.{sizes, Open, row_passes_limit, opened, shaped, wrong_fields, ended, rows_refusal}

-- the rows so far are sound: what is left decides
pub record Seen (m : Model) (start s : Reading) (stack : Open) (seen scopes : ℕ) (some : Bool) : Type 0 where
  pub same : s.rows ≡ start.rows
  pub refusal : rows_refusal (sizes m) seen stack (left s) ≡ rows_refusal (sizes m) 0 [] start.rows
  pub sum : scopes + scope_rows (left s) ≡ scope_rows start.rows
  pub few : scopes ≤ seen
  pub limit : seen ≤ 262144
  pub found : some || some_without_temporary m (left s) ≡ some_without_temporary m start.rows

-- a Scope row is no Instruction
pub no_instruction : (m : Model) (row : RowHead) → true ≡ eqb row.code 3 → without_temporary m row ≡ false
no_instruction m row e = ap (λ n. eqb n 2 && absent_or_named m row.identifier) (eqb-true row.code 3 (sym e))

pub or_fails : (some : Bool) {b : Bool} → b ≡ false → some ≡ some || b
or_fails some e = sym (ap (λ x. some || x) e ∙ or-false some)

pub or_holds : (some : Bool) {b : Bool} → b ≡ true → true ≡ some || b
or_holds some e = sym (ap (λ x. some || x) e ∙ or-true some)

-- one row more is given
module _ {m : Model} {start s : Reading} {stack : Open} {seen scopes : ℕ} {some : Bool} (inv : Seen m start s stack seen scopes some) {t : Reading} (row : RowHead) (gave : Some row ≡ upcoming s) (on : t ≡ advanced s) where
  last_is : (got : steps.Gives s row) → last_row t ≡ got.item
  last_is got = ap last_row on ∙ ap (λ o. unwrap_or o no_row) got.last

  pub row_given : is_some (given t) ≡ true
  row_given = ap (λ (r : Reading). is_some (given r)) on ∙ ap is_some (steps.gives s row gave).last

  pub row_head : row ≡ head (last_row t)
  row_head = let got = steps.gives s row gave in sym got.is ∙ ap head (sym (last_is got))

  rest_is : left s ≡ last_row t ∷ left t
  rest_is = let got = steps.gives s row gave in got.rest ∙ (λ k. sym (last_is got) k ∷ left (sym on k))

  pub shrinks : length (left t) < length (left s)
  shrinks = let e = ap length rest_is in omega arith

  pub rows_same : t.rows ≡ start.rows
  rows_same = ap (λ (r : Reading). r.rows) on ∙ inv.same

  -- what is tested of the row once it is opened, and the rows after it
  opened_then : Open → Option Refusal
  opened_then o = refused_if (wrong_fields (sizes m) (last_row t)) refusals.Field (rows_refusal (sizes m) (seen + 1) o (left t))

  -- the answer, by the tests of this row
  tests : rows_refusal (sizes m) 0 [] start.rows ≡ refused_if (row_passes_limit seen row) refusals.Limit (refused_if (ltb 127 row.depth) refusals.Depth (shaped (opened stack row.depth row.code) opened_then))
  unfolding opened_then
  tests =
      sym inv.refusal ∙ ap (rows_refusal (sizes m) seen stack) rest_is
      ∙ ap (λ (h : RowHead). refused_if (row_passes_limit seen h) refusals.Limit (refused_if (ltb 127 h.depth) refusals.Depth (shaped (opened stack h.depth h.code) opened_then))) (sym row_head)

  pub over_limit : true ≡ row_passes_limit seen row → rows_refusal (sizes m) 0 [] start.rows ≡ Some refusals.Limit
  over_limit e = tests ∙ cond-true _ _ _ (sym e)

  module _ (in_limit : false ≡ row_passes_limit seen row) where
    pub over_depth : 127 < row.depth → rows_refusal (sizes m) 0 [] start.rows ≡ Some refusals.Depth
    over_depth h = tests ∙ cond-false _ _ _ (sym in_limit) ∙ cond-true _ _ _ (lt-ltb _ _ h)

    module _ (shallow : row.depth < 128) where
      further : (o : Option Open) → opened stack row.depth row.code ≡ o → rows_refusal (sizes m) 0 [] start.rows ≡ shaped o opened_then
      further o e =
          let at_most : row.depth ≤ 127 = omega (arith, shallow) in
          tests ∙ cond-false _ _ _ (sym in_limit) ∙ cond-false _ _ _ (le-ltb _ _ at_most) ∙ ap (λ x. shaped x opened_then) e

      pub over_shape : opened stack row.depth row.code ≡ None → rows_refusal (sizes m) 0 [] start.rows ≡ Some refusals.Shape
      over_shape e = further None e

      module _ (after : Open) (opens : opened stack row.depth row.code ≡ Some after) where
        pub over_field : true ≡ wrong_fields (sizes m) (last_row t) → rows_refusal (sizes m) 0 [] start.rows ≡ Some refusals.Field
        unfolding opened_then
        over_field e = further (Some after) opens ∙ cond-true _ _ _ (sym e)

        -- the row is sound, so that the rows after it decide
        pub seen_on : false ≡ wrong_fields (sizes m) (last_row t) → (n : ℕ) → n ≡ scopes + cond (eqb row.code 3) 1 0 → n ≤ seen + 1 → (b : Bool) → b ≡ some || without_temporary m row → Seen m start t after (seen + 1) n b
        unfolding opened_then
        seen_on e n is few b so =
            let low : seen < 262144 = leb-false 262144 seen (or_parts (leb 262144 seen) _ (sym in_limit)).0 in
            let a : scope_rows (left s) ≡ cond (eqb row.code 3) 1 0 + scope_rows (left t) = ap scope_rows rest_is ∙ ap (λ (h : RowHead). cond (eqb h.code 3) 1 0 + scope_rows (left t)) (sym row_head) in
            record {
              same = rows_same;
              refusal = sym (further (Some after) opens ∙ cond-false _ _ _ (sym e));
              sum = omega (arith, inv.sum);
              few = few;
              limit = omega arith;
              found =
                  ap (λ x. x || some_without_temporary m (left t)) (so ∙ ap (λ (h : RowHead). some || without_temporary m h) row_head)
                  ∙ or_assoc some (without_temporary m (head (last_row t))) (some_without_temporary m (left t))
                  ∙ ap (λ xs. some || some_without_temporary m xs) (sym rest_is)
                  ∙ inv.found;
            }

-- no row is left
module _ {m : Model} {start s : Reading} {stack : Open} {seen scopes : ℕ} {some : Bool} (inv : Seen m start s stack seen scopes some) (gave : None ≡ upcoming s) where
  pub ends : rows_refusal (sizes m) 0 [] start.rows ≡ ended stack
  ends = sym inv.refusal ∙ ap (rows_refusal (sizes m) seen stack) (steps.ended s gave).0

  pub counted : scopes ≡ scope_rows start.rows
  counted = let e = ap scope_rows (steps.ended s gave).0 in omega (arith, inv.sum)

  pub found_all : some ≡ some_without_temporary m start.rows
  found_all = sym (or-false some) ∙ ap (λ xs. some || some_without_temporary m xs) (sym (steps.ended s gave).0) ∙ inv.found

  pub rows_kept : {t : Reading} → t ≡ advanced s → t.rows ≡ start.rows
  rows_kept on = ap (λ (r : Reading). r.rows) on ∙ inv.same
