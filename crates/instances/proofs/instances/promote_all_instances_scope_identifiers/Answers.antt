use Rattle.std.proofs.Common.{ap, ◌∙◌}
use Rattle.hir.specs.Environments.{scope_of}
use Rattle.std.specs.List.{fold}
use Rattle.hir.specs.Scratches.{Tables, tables}
use Rattle.hir.specs.Spans.{identifiers_in}
use Rattle.promote.proofs.Growing.{grows_none}
use Rattle.promote.proofs.Listing.{next_sound, next_known, next_grows, next_same}
use Rattle.instances.specs.Instances.{promote_instance}
use Rattle.instances.proofs.Passes.{grows_instance}
use Rattle.instances.proofs.instances.promote_all_instances_scope_identifiers.Goals as goal

pub promote_all_instances_list-requires-2 : goal.promote_all_instances_list-requires-2
promote_all_instances_list-requires-2 c =
    let b = tables c.args.env.now c.args.scratch.now in
    let scope = scope_of b.env c.args.id.0 in
    let sound = c.requires.sound.scopes c.args.id.0 c.requires.known in
    let g = next_grows promote_instance grows_instance b b c.requires.sound (grows_none b) scope.declarations sound.declarations _ c.promote_all_instances_list.ensures in
    record {
      known = next_known promote_instance grows_instance b _ c.requires.sound g scope.dependencies sound.dependencies;
      sound = next_sound promote_instance grows_instance b _ c.requires.sound g scope.dependencies sound.dependencies;
    }

pub promote_all_instances_list-requires-3 : goal.promote_all_instances_list-requires-3
promote_all_instances_list-requires-3 c =
    let b = tables c.args.env.now c.args.scratch.now in
    let scope = scope_of b.env c.args.id.0 in
    let sound = c.requires.sound.scopes c.args.id.0 c.requires.known in
    let g = next_grows promote_instance grows_instance b b c.requires.sound (grows_none b) scope.declarations sound.declarations _ c.promote_all_instances_list.ensures in
    let h = next_grows promote_instance grows_instance b _ c.requires.sound g scope.dependencies sound.dependencies _ c.promote_all_instances_list-2.ensures in
    record {
      known = next_known promote_instance grows_instance b _ c.requires.sound h scope.reassignments sound.reassignments;
      sound = next_sound promote_instance grows_instance b _ c.requires.sound h scope.reassignments sound.reassignments;
    }

pub returns : goal.returns
returns c =
    let b = tables c.args.env.now c.args.scratch.now in
    let scope = scope_of b.env c.args.id.0 in
    let sound = c.requires.sound.scopes c.args.id.0 c.requires.known in
    let g = next_grows promote_instance grows_instance b b c.requires.sound (grows_none b) scope.declarations sound.declarations _ c.promote_all_instances_list.ensures in
    let h = next_grows promote_instance grows_instance b _ c.requires.sound g scope.dependencies sound.dependencies _ c.promote_all_instances_list-2.ensures in
    next_same promote_instance grows_instance b _ c.requires.sound h scope.reassignments sound.reassignments _ c.promote_all_instances_list-3.ensures
    ∙ ap (λ (t : Tables). fold promote_instance t (identifiers_in b.env.pool scope.reassignments))
    (next_same promote_instance grows_instance b _ c.requires.sound g scope.dependencies sound.dependencies _ c.promote_all_instances_list-2.ensures
    ∙ ap (λ (t : Tables). fold promote_instance t (identifiers_in b.env.pool scope.dependencies)) c.promote_all_instances_list.ensures)
