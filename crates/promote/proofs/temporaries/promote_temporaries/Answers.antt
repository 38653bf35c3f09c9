use Rattle.std.proofs.Common.{◌≡◌, [], sym, ap, ◌∙◌, arith}
use Rattle.std.proofs.lemmas.Bool.{eqb-true}
use Rattle.hir.specs.declared.tables.Reason.TheVariants as reasons
use Rattle.hir.specs.Spans.{identifiers_in}
use Rattle.std.specs.List.{fold}
use Rattle.hir.specs.Scratches.{Tables, tables}
use Rattle.walk.specs.Events.{Whole, whole, events}
use Rattle.walk.proofs.Acting.{tables_over, tables_allowed}
use Rattle.promote.specs.declared.temporaries.PromoteTemporaries.{PromoteTemporaries}
use Rattle.promote.specs.Identifier.{promote_unnamed}
use Rattle.promote.specs.Temporaries.{does, keeps, acts, Ready, pass_acts}
use Rattle.promote.proofs.Visiting.{splits, ready_listed, no_acts}
use Rattle.promote.proofs.temporaries.promote_temporaries.Goals as goal

pub walk-requires : goal.walk-requires
walk-requires g c =
    let b = tables c.args.env.now c.args.scratch.now in
    let on = tables c.promote_list.new.env c.promote_list.new.scratch in
    let rows = (g.S.TreeSource.reading c.args.source.now).rows in (
      omega arith,
      (
        c.requires.shallow,
        tables_allowed does Ready splits acts (events keeps [] rows) (whole _ on) (ready_listed b on _ (pass_acts rows) c.requires.ready c.requires.known c.promote_list.ensures),
      ),
    )

pub returns-then-is_empty-2-clause-after : goal.returns-then-is_empty-2-clause-after
returns-then-is_empty-2-clause-after g c =
    let b = tables c.args.env.now c.args.scratch.now in
    let on = tables c.promote_list.new.env c.promote_list.new.scratch in
    let rows = (g.S.TreeSource.reading c.args.source.now).rows in
    let none : pass_acts rows ≡ [] = no_acts on.env (pass_acts rows) (eqb-true _ _ (sym c.if-is_empty.ensures)) (eqb-true _ _ (sym c.if-is_empty-2.ensures)) (ready_listed b on _ (pass_acts rows) c.requires.ready c.requires.known c.promote_list.ensures).fits in
    c.promote_list.ensures ∙ ap (fold does (fold (promote_unnamed reasons.OwnParameter) b (identifiers_in b.env.pool c.args.parameters))) (sym none)

pub returns : goal.returns
returns g c =
    let on = tables c.promote_list.new.env c.promote_list.new.scratch in
    let rows = (g.S.TreeSource.reading c.args.source.now).rows in
    record {
      after =
          ap (λ (w : Whole PromoteTemporaries). w.tables) (c.walk.ensures.after ∙ tables_over does Ready splits acts (events keeps [] rows) (whole _ on))
          ∙ ap (λ (t : Tables). fold does t (pass_acts rows)) c.promote_list.ensures;
      source = c.walk.ensures.source;
    }
