use Rattle.std.proofs.Common.{[], sym, ap, ◌∙◌, subst, arith}
use Rattle.std.specs.List.{fold}
use Rattle.hir.specs.Scratches.{Tables, tables}
use Rattle.walk.specs.Events.{Whole, whole, events}
use Rattle.walk.proofs.Acting.{tables_over, tables_allowed}
use Rattle.promote.specs.Growth.{Grows}
use Rattle.instances.specs.declared.instances.PromoteAllInstances.{PromoteAllInstances}
use Rattle.instances.specs.Instances.{does, keeps, acts, Ready, pass_acts}
use Rattle.instances.proofs.Idle.{idle}
use Rattle.instances.proofs.Passes.{grows_list, splits, ready_grows}
use Rattle.instances.proofs.instances.promote_all_instances.Goals as goal

pub walk-requires : goal.walk-requires
walk-requires g c =
    let b = tables c.args.env.now c.args.scratch.now in
    let on = tables c.promote_all_instances_list.new.env c.promote_all_instances_list.new.scratch in
    let rows = (g.S.TreeSource.reading c.args.source.now).rows in
    let grown = subst (Grows b) (sym c.promote_all_instances_list.ensures) (grows_list b _ c.requires.ready.sound c.requires.known) in (
      omega arith,
      (
        c.requires.shallow,
        tables_allowed does Ready splits acts (events keeps [] rows) (whole _ on) (ready_grows b on (pass_acts rows) c.requires.ready grown),
      ),
    )

pub returns-then-not-some_left-clause-after : goal.returns-then-not-some_left-clause-after
returns-then-not-some_left-clause-after g c =
    let b = tables c.args.env.now c.args.scratch.now in
    sym (idle b c.requires.ready.sound (sym c.if-not-some_left.ensures) c.args.parameters (g.S.TreeSource.reading c.args.source.now).rows c.requires.known c.requires.ready.fits)

pub returns : goal.returns
returns g c =
    let on = tables c.promote_all_instances_list.new.env c.promote_all_instances_list.new.scratch in
    let rows = (g.S.TreeSource.reading c.args.source.now).rows in
    record {
      after =
          ap (λ (w : Whole PromoteAllInstances). w.tables) (c.walk.ensures.after ∙ tables_over does Ready splits acts (events keeps [] rows) (whole _ on))
          ∙ ap (λ (t : Tables). fold does t (pass_acts rows)) c.promote_all_instances_list.ensures;
      source = c.walk.ensures.source;
    }
