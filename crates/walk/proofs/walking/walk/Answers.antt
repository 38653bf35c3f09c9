use Rattle.std.proofs.Common.{◌-◌, [], ◌∷◌, ◌++◌, length, sym, ap, ◌∙◌, subst, arith}
use Rattle.std.proofs.lemmas.List.{length-take}
use Rattle.std.specs.List.{slice_get}
use Rattle.hir.specs.Scratches.{tables}
use Rattle.reactive.specs.Rows.{Reading}
use Rattle.walk.specs.Events.{whole, entering}
use Rattle.walk.proofs.Opened.{parent_last, entered}
use Rattle.walk.proofs.Rows.{Walking, some_last, row_last, deep, closes, shrinks, may_enter, walked, closes_all, walked_all}
use Rattle.walk.proofs.walking.walk.Goals as goal

pub close-requires : goal.close-requires
close-requires g c = (omega arith, closes _ _ _ _ _ _ _ _ _ c.loop-row.invariant c.in-Some.row c.in-Some.ensures.value c.next.ensures.after)

pub new-requires : goal.new-requires
new-requires g c =
    let inv = c.loop-row.invariant in
    let gave = c.in-Some.ensures.value in
    let on = c.next.ensures.after in
    record { given = some_last _ _ _ _ _ _ _ _ _ inv c.in-Some.row gave on; row = row_last _ _ _ _ _ _ _ _ _ inv c.in-Some.row gave on }

pub enter-requires : goal.enter-requires
enter-requires g c =
    let mid = c.close.new.opened in
    let last = c.copied-parent.ensures ∙ c.last.ensures.value ∙ ap (λ rs. slice_get rs (length rs - 1)) c.deref.ensures.0 in
    subst (λ r. g.V.Visitor.can (whole c.close.new.visitor (tables c.close.new.env c.close.new.scratch)) (entering c.copied-parent.result r)) (sym c.new.ensures)
    (may_enter _ _ _ _ _ _ _ _ _ c.loop-row.invariant c.in-Some.row c.in-Some.ensures.value c.next.ensures.after _ _ c.close.ensures.after (parent_last c.loop-row.opened mid c.in-Some.row.depth _ c.close.ensures.rows last))

pub push-requires : goal.push-requires
push-requires g c =
    let d = deep _ _ _ _ _ _ _ _ _ c.loop-row.invariant c.in-Some.row c.in-Some.ensures.value c.next.ensures.after in
    (omega arith, omega (arith, d, ap length c.close.ensures.rows, length-take c.in-Some.row.depth c.loop-row.opened))

pub loop-row-smaller : goal.loop-row-smaller
loop-row-smaller g c = shrinks _ _ _ _ _ _ _ _ _ c.loop-row.invariant c.in-Some.row c.in-Some.ensures.value c.next.ensures.after

pub loop-row-preserved : goal.loop-row-preserved
loop-row-preserved g c =
    let rs = c.loop-row.opened in
    let mid = c.close.new.opened in
    let last = c.copied-parent.ensures ∙ c.last.ensures.value ∙ ap (λ xs. slice_get xs (length xs - 1)) c.deref.ensures.0 in
    let on = c.enter.ensures ∙ ap (λ r. g.V.Visitor.after (whole c.close.new.visitor (tables c.close.new.env c.close.new.scratch)) (entering c.copied-parent.result r)) c.new.ensures in
    subst (Walking g.V.Visitor.keeps g.V.Visitor.can g.V.Visitor.after _ _ _ _) (entered rs mid c.push.new.self c.in-Some.row.depth (g.V.Visitor.keeps c.in-Some.row) c.close.ensures.rows (c.push.ensures ∙ ap (λ o. mid ++ o ∷ []) c.keep.ensures))
    (walked _ _ _ _ _ _ _ _ _ c.loop-row.invariant c.in-Some.row c.in-Some.ensures.value c.next.ensures.after _ _ c.close.ensures.after (parent_last rs mid c.in-Some.row.depth _ c.close.ensures.rows last) _ on)

pub close-requires-2 : goal.close-requires-2
close-requires-2 g c = (omega arith, closes_all _ _ _ _ _ _ _ _ c.loop-row.invariant c.in_default.ensures.value)

pub returns-clause-after : goal.returns-clause-after
returns-clause-after g c =
    let e = ap (λ (s : Reading). s.rows) c.rewind.ensures in
    rw e at (walked_all _ _ _ _ _ _ _ _ c.loop-row.invariant c.in_default.ensures.value _ c.close-2.ensures.after)
