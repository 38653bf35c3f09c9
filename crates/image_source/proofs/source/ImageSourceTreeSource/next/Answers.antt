use Rattle.std.proofs.Common.{◌+◌, ◌^◌, ◌<◌, Some, ap, ◌∙◌, arith, rules}
use Rattle.image.specs.Steps.{see_fields}
use Rattle.reactive.specs.Rows.{head, upcoming, advanced}
use Rattle.image_source.specs.Trees.{row_of}
use Rattle.image_source.proofs.Keeps.{over_value, over_after, room, fits, next_value, next_after, keeps}
use Rattle.image_source.proofs.source.ImageSourceTreeSource.next.Goals as goal

pub returns-in_default : goal.returns-in_default
returns-in_default c =
    let s = c.close_ended.new.self in
    let none_open = c.close_ended.ensures.closed in
    let same = c.close_ended.ensures.same in
    let is = c.in_default.ensures.is in
    record { value = over_value s none_open _ is ∙ ap upcoming same; after = over_after s none_open _ is ∙ ap advanced same }

pub push-requires : goal.push-requires
push-requires c = (omega arith, room c.close_ended.new.self c.in-Ok.fields c.in-Ok.children c.in-Ok.after c.in-Ok.ensures.is)

pub overflow_add-self : goal.overflow_add-self
overflow_add-self c =
    let s = c.close_ended.new.self in
    let few : s.at.given + 1 < 2 ^ 64 = fits s c.in-Ok.fields c.in-Ok.children c.in-Ok.after c.in-Ok.ensures.is in
    search rules

pub invariant_of-self : goal.invariant_of-self
invariant_of-self c = record { ok = keeps c.close_ended.new.self c.in-Ok.fields c.in-Ok.children c.in-Ok.after c.in-Ok.ensures.is c.push.new.self.items c.push.ensures.items }

pub returns : goal.returns
returns c =
    let s = c.close_ended.new.self in
    let same = c.close_ended.ensures.same in
    let is = c.in-Ok.ensures.is in
    record {
      value = ap Some (c.row_head.ensures ∙ ap (λ d. head (row_of d (see_fields c.in-Ok.fields))) c.len-depth.ensures.value) ∙ next_value s c.in-Ok.fields c.in-Ok.children c.in-Ok.after is ∙ ap upcoming same;
      after = next_after s c.in-Ok.fields c.in-Ok.children c.in-Ok.after is ∙ ap advanced same;
    }
