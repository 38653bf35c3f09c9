use Rattle.std.proofs.Common.{◌≡◌, ◌+◌, ◌≤◌, ◌||◌, cond, eqb, Some, sym, ap, ◌∙◌, arith}
use Rattle.std.proofs.lemmas.Result.{err_from_is_err_and}
use Rattle.std.proofs.lemmas.Bool.Decides.{nat_tests}
use Rattle.hir.specs.Environments.{model}
use Rattle.hir.specs.Refusals.{answered}
use Rattle.reactive.specs.declared.row.RowHead.{RowHead}
use Rattle.reactive.specs.Rows.{Row}
use Rattle.reactive.specs.Lvalues.{without_temporary}
use Rattle.checks.specs.Rows.{opened, wrong_fields}
use Rattle.checks.proofs.Answering.{refuses, hands_on, refused_by, not_refused, unplaced_refused}
use Rattle.checks.proofs.Seeing as seeing
use Rattle.checks.proofs.Slots.{opened_none}
use Rattle.checks.proofs.rows.check_all.Goals as goal
use Rattle.checks.proofs.rows.check_all.Goals.{then-is, else-is+then-without_temporary, else-is+else-without_temporary}

pub returns-then-passes_limit : goal.returns-then-passes_limit
returns-then-passes_limit g c =
    let gave = c.in-Some.ensures.value in
    let on = c.next.ensures.after in
    record {
      value = refuses _ _ _ (seeing.over_limit c.loop-row.invariant c.in-Some.row gave on c.if-passes_limit.ensures);
      rows = seeing.rows_same c.loop-row.invariant c.in-Some.row gave on;
    }

pub returns-then-depth-ge-MOST_OPEN : goal.returns-then-depth-ge-MOST_OPEN
returns-then-depth-ge-MOST_OPEN g c =
    let gave = c.in-Some.ensures.value in
    let on = c.next.ensures.after in
    record {
      value = refuses _ _ _ (seeing.over_depth c.loop-row.invariant c.in-Some.row gave on c.if-passes_limit.ensures c.if-depth-ge-MOST_OPEN.true);
      rows = seeing.rows_same c.loop-row.invariant c.in-Some.row gave on;
    }

pub loop-row-smaller : goal.loop-row-smaller
loop-row-smaller g c = seeing.shrinks c.loop-row.invariant c.in-Some.row c.in-Some.ensures.value c.next.ensures.after

pub returns : goal.returns
returns g c =
    let gave = c.in_default.ensures.value in
    let sound = seeing.ends c.loop-row.invariant gave ∙ not_refused _ tt tt c.in_ok-finish.ensures in
    record {
      value = sym (λ k. answered (sound k) (sym (seeing.counted c.loop-row.invariant gave) k, sym (seeing.found_all c.loop-row.invariant gave) k));
      rows = seeing.rows_kept c.loop-row.invariant gave c.next.ensures.after;
    }

pub returns-in_default-try_from-clause-value : goal.returns-in_default-try_from-clause-value
returns-in_default-try_from-clause-value g c =
    refuses _ _ _ (seeing.over_shape c.loop-row.invariant c.in-Some.row c.in-Some.ensures.value c.next.ensures.after c.if-passes_limit.ensures c.if-depth-ge-MOST_OPEN.false (opened_none c.in-Some.row.code c.in_default-try_from.ensures.1 c.loop-row.stack c.in-Some.row.depth))

pub returns-in_err-enter-clause-value : goal.returns-in_err-enter-clause-value
returns-in_err-enter-clause-value g c =
    let p = err_from_is_err_and c.from_residual.result c.from_residual.ensures.1 in
    let q = unplaced_refused _ c.in_err-enter.field-0.0 c.in_err-enter.ensures.value in
    let none = ap (opened c.loop-row.stack c.in-Some.row.depth) (sym c.in-Ok.ensures) ∙ q.0 in
    hands_on c.from_residual.result _ p.0 c.in_err-enter.field-0.0 _ p.1 p.2
    (seeing.over_shape c.loop-row.invariant c.in-Some.row c.in-Some.ensures.value c.next.ensures.after c.if-passes_limit.ensures c.if-depth-ge-MOST_OPEN.false none ∙ ap Some (sym q.1))

pub new-requires : goal.new-requires
new-requires g c =
    let gave = c.in-Some.ensures.value in
    let on = c.next.ensures.after in
    record { given = seeing.row_given c.loop-row.invariant c.in-Some.row gave on; row = seeing.row_head c.loop-row.invariant c.in-Some.row gave on }

pub wrong_fields-requires : goal.wrong_fields-requires
wrong_fields-requires g c = c.in-Ok.ensures ∙ ap (λ (h : RowHead). h.code) (seeing.row_head c.loop-row.invariant c.in-Some.row c.in-Some.ensures.value c.next.ensures.after) ∙ ap (λ (r : Row). r.code) (sym c.new.ensures)

pub returns-then-wrong_fields-clause-value : goal.returns-then-wrong_fields-clause-value
returns-then-wrong_fields-clause-value g c =
    let opens = ap (opened c.loop-row.stack c.in-Some.row.depth) (sym c.in-Ok.ensures) ∙ c.in_ok-enter.ensures.rows in
    let wrong = c.if-wrong_fields.ensures ∙ (λ k. wrong_fields (c.from-sizes.ensures k) (c.new.ensures k)) in
    refuses _ _ _ (seeing.over_field c.loop-row.invariant c.in-Some.row c.in-Some.ensures.value c.next.ensures.after c.if-passes_limit.ensures c.if-depth-ge-MOST_OPEN.false c.enter.new.self opens wrong)

pub loop-row-preserved : goal.loop-row-preserved
loop-row-preserved g c =
    let opens = ap (opened c.loop-row.stack c.in-Some.row.depth) (sym c.in-Ok.ensures) ∙ c.in_ok-enter.ensures.rows in
    let right = c.if-wrong_fields.ensures ∙ (λ k. wrong_fields (c.from-sizes.ensures k) (c.new.ensures k)) in
    let is : c.if-is.scopes ≡ c.loop-row.scopes + cond (eqb c.in-Some.row.code 3) 1 0 =
    elim c.if-is.branch [
      | then-is w ↦ grind (arith, nat_tests)
      | else-is+then-without_temporary w ↦ grind (arith, nat_tests)
      | else-is+else-without_temporary w ↦ grind (arith, nat_tests)
    ] in
    let few : c.if-is.scopes ≤ c.loop-row.seen + 1 =
    elim c.if-is.branch [
      | then-is w ↦ omega (arith, w.scopes-is, c.loop-row.invariant.few)
      | else-is+then-without_temporary w ↦ omega (arith, w.scopes-is, c.loop-row.invariant.few)
      | else-is+else-without_temporary w ↦ omega (arith, w.scopes-is, c.loop-row.invariant.few)
    ] in
    let m = model c.args.env.now in
    let some = c.loop-row.some_without in
    let so : c.if-is.some_without ≡ some || without_temporary m c.in-Some.row =
    elim c.if-is.branch [
      | then-is w ↦ w.some_without-is ∙ seeing.or_fails some (seeing.no_instruction m c.in-Some.row w.if-is.ensures)
      | else-is+then-without_temporary w ↦ w.some_without-is ∙ seeing.or_holds some (sym w.if-without_temporary.ensures)
      | else-is+else-without_temporary w ↦ w.some_without-is ∙ seeing.or_fails some (sym w.if-without_temporary.ensures)
    ] in
    seeing.seen_on c.loop-row.invariant c.in-Some.row c.in-Some.ensures.value c.next.ensures.after c.if-passes_limit.ensures c.if-depth-ge-MOST_OPEN.false c.enter.new.self opens right _ is few _ so

pub returns-in_err-finish-clause-value : goal.returns-in_err-finish-clause-value
returns-in_err-finish-clause-value g c =
    let p = err_from_is_err_and c.from_residual-in_err-finish.result c.from_residual-in_err-finish.ensures.1 in
    let gave = c.in_default.ensures.value in
    hands_on c.from_residual-in_err-finish.result _ p.0 c.in_err-finish.field-0.0 _ p.1 p.2 (seeing.ends c.loop-row.invariant gave ∙ refused_by _ c.in_err-finish.field-0.0 tt c.in_err-finish.ensures)
