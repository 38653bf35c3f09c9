use Rattle.std.proofs.Common.{ap, ◌∙◌}
use Rattle.hir.specs.declared.tables.Reason.TheVariants as reasons
use Rattle.hir.specs.Environments.{scope_of}
use Rattle.std.specs.List.{fold}
use Rattle.hir.specs.Scratches.{Tables, tables}
use Rattle.hir.specs.Spans.{identifiers_in}
use Rattle.promote.specs.Identifier.{promote_unnamed}
use Rattle.promote.proofs.Growing.{grows_none, grows_unnamed}
use Rattle.promote.proofs.Listing.{next_sound, next_known, next_grows, next_same}
use Rattle.promote.proofs.temporaries.promote_scope.Goals as goal

pub promote_list-requires-2 : goal.promote_list-requires-2
promote_list-requires-2 c =
    let b = tables c.args.env.now c.args.scratch.now in
    let scope = scope_of b.env c.args.id.0 in
    let sound = c.requires.sound.scopes c.args.id.0 c.requires.known in
    let g = next_grows (promote_unnamed reasons.Scope) (grows_unnamed reasons.Scope) b b c.requires.sound (grows_none b) scope.dependencies sound.dependencies _ c.promote_list.ensures in
    record {
      known = next_known (promote_unnamed reasons.Scope) (grows_unnamed reasons.Scope) b _ c.requires.sound g scope.declarations sound.declarations;
      sound = next_sound (promote_unnamed reasons.Scope) (grows_unnamed reasons.Scope) b _ c.requires.sound g scope.declarations sound.declarations;
    }

pub returns : goal.returns
returns c =
    let b = tables c.args.env.now c.args.scratch.now in
    let scope = scope_of b.env c.args.id.0 in
    let sound = c.requires.sound.scopes c.args.id.0 c.requires.known in
    let g = next_grows (promote_unnamed reasons.Scope) (grows_unnamed reasons.Scope) b b c.requires.sound (grows_none b) scope.dependencies sound.dependencies _ c.promote_list.ensures in
    next_same (promote_unnamed reasons.Scope) (grows_unnamed reasons.Scope) b _ c.requires.sound g scope.declarations sound.declarations _ c.promote_list-2.ensures
    ∙ ap (λ (t : Tables). fold (promote_unnamed reasons.Scope) t (identifiers_in b.env.pool scope.declarations)) c.promote_list.ensures
