use Rattle.std.proofs.Common.{◌≡◌, ℕ, length, map, Vec, Global, vec_items, vec_len, arith}
use Rattle.std.proofs.lemmas.List.{length-map}
use Rattle.std.proofs.lemmas.Result.{err_from_is_err_and}
use Rattle.image_encode.proofs.Refusing.{hand_on}
use Rattle.image_encode.proofs.Rows as rows
use Rattle.image_encode.proofs.tree.write_rows.Goals as goal

pub loop-row-init : goal.loop-row-init
loop-row-init g c = rows.start _ c.requires _ _ c.new-open.ensures.top c.new-open.ensures.around

pub new-requires : goal.new-requires
new-requires g c = rows.row_given _ _ _ _ _ c.loop-row.invariant c.in-Some.row c.in-Some.ensures.value c.next.ensures.after

many : (rows : Vec (Vec ℕ Global) Global) → vec_len rows ≡ length (map vec_items (vec_items rows))
many rows = omega (arith, rows.ok.0, length-map (vec_items rows) vec_items)

pub loop-row-preserved : goal.loop-row-preserved
loop-row-preserved g c =
    let old = c.loop-row.open.around in
    let now = c.close_to.new.self.around in
    rows.turn _ _ _ _ _ c.loop-row.invariant c.in-Some.row c.in-Some.ensures.value c.next.ensures.after (vec_len old) (many old) c.if-not-takes.ensures _ c.new.ensures _ _ _ _ c.in_ok-close_to.ensures.closed (omega (arith, many now, c.in_ok-close_to.ensures.left)) c.in_ok-enter.ensures.entered

pub returns-clause-tree : goal.returns-clause-tree
returns-clause-tree g c = rows.stopped _ _ _ _ c.loop-row.invariant c.in_default.ensures.value _ (many c.loop-row.open.around) c.finish.result c.finish.ensures.some c.finish.ensures.closed

pub returns-then-not-takes-clause-none : goal.returns-then-not-takes-clause-none
returns-then-not-takes-clause-none g c = λ u. rows.unfit_row _ _ _ _ _ c.loop-row.invariant c.in-Some.row c.in-Some.ensures.value c.next.ensures.after _ (many c.loop-row.open.around) c.if-not-takes.ensures

pub returns-in_err-close_to-clause-none : goal.returns-in_err-close_to-clause-none
returns-in_err-close_to-clause-none g c =
    let p = err_from_is_err_and c.from_residual.result c.from_residual.ensures.1 in
    hand_on c.from_residual.result p.0 c.in_err-close_to.field-0.0 p.1 p.2 (λ u. rows.unfit_close _ _ _ _ _ c.loop-row.invariant c.in-Some.row c.in-Some.ensures.value c.next.ensures.after (c.in_err-close_to.ensures.fault u))

pub returns-in_err-enter-clause-none : goal.returns-in_err-enter-clause-none
returns-in_err-enter-clause-none g c =
    let p = err_from_is_err_and c.from_residual-in_err-enter.result c.from_residual-in_err-enter.ensures.1 in
    hand_on c.from_residual-in_err-enter.result p.0 c.in_err-enter.field-0.0 p.1 p.2 (λ u. rows.unfit_lists _ _ _ _ _ c.loop-row.invariant c.in-Some.row c.in-Some.ensures.value c.next.ensures.after _ c.new.ensures (c.in_err-enter.ensures.fault u))

pub returns-clause-none : goal.returns-clause-none
returns-clause-none g c = rows.unfit_ended _ _ _ _ c.loop-row.invariant c.in_default.ensures.value _ (many c.loop-row.open.around) c.finish.result c.finish.ensures.fault
