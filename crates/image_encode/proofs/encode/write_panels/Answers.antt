use Rattle.std.proofs.Common.{arith}
use Rattle.std.proofs.lemmas.Result.{err_from_is_err_and}
use Rattle.image_encode.proofs.Refusing.{hand_on}
use Rattle.image_encode.proofs.Panels.{lending_rows, all_written, panel_more, panel_rows, panel_fits}
use Rattle.image_encode.proofs.encode.write_panels.Goals as goal

pub returns-in_err-write_panel-clause-rows : goal.returns-in_err-write_panel-clause-rows
returns-in_err-write_panel-clause-rows g c = panel_rows g.S.TreeSource.reading _ _ _ _ _ _ c.loop-i.invariant c.index-panels-i.result c.write_panel.new.panel c.write_panel.ensures.panel

pub loop-i-preserved : goal.loop-i-preserved
loop-i-preserved g c = panel_more g.S.TreeSource.reading _ _ _ _ _ _ c.loop-i.invariant c.index-panels-i.result c.write_panel.new.panel c.write_panel.ensures.panel _ (omega arith) c.in_ok-write_panel.ensures.items

pub returns-clause-rewound : goal.returns-clause-rewound
returns-clause-rewound g c = (all_written g.S.TreeSource.reading _ _ _ _ _ _ c.loop-i.invariant (omega arith)).0

pub returns-clause-rows : goal.returns-clause-rows
returns-clause-rows g c = lending_rows _ _ _ _ _ _ c.loop-i.invariant

pub returns-in_err-write_panel-clause-fault : goal.returns-in_err-write_panel-clause-fault
returns-in_err-write_panel-clause-fault g c =
    let p = err_from_is_err_and c.from_residual.result c.from_residual.ensures.1 in
    hand_on c.from_residual.result p.0 c.in_err-write_panel.field-0.0 p.1 p.2 (λ u all. c.in_err-write_panel.ensures.fault u (panel_fits g.S.TreeSource.reading _ _ _ _ _ _ c.loop-i.invariant c.index-panels-i.result c.write_panel.new.panel c.write_panel.ensures.panel (omega arith) all))
