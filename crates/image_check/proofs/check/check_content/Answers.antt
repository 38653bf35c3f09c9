use Rattle.std.proofs.Common.{sym, ap, ◌∙◌, subst}
use Rattle.image.specs.Bytes.{see}
use Rattle.image.specs.Steps.{Is, and_then, in_row, ended, row_at}
use Rattle.image_check.specs.Ranks.{rank_number}
use Rattle.image_check.specs.Steps.{content_at}
use Rattle.image_check.proofs.Lists.{tree_ends}
use Rattle.image_check.proofs.check.check_content.Goals as goal

pub returns-in_ok-past_lists-in-Tree : goal.returns-in_ok-past_lists-in-Tree
returns-in_ok-past_lists-in-Tree c =
    let p = see c.args.content in
    let e = ap (λ r. ended (content_at (rank_number r) p)) c.in-Tree.is ∙ tree_ends p ∙ ap (λ r. and_then (in_row r) (λ q. ended (row_at 128 q))) c.in_ok-past_lists-in-Tree.ensures in
    subst (Is see c.check_row.result) (sym e) c.check_row.ensures.is
