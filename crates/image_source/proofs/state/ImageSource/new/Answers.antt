use Rattle.image.specs.Bytes.{see}
use Rattle.image_source.specs.Standings.{see_standing}
use Rattle.image_source.proofs.Keeps.{begun}
use Rattle.image_source.proofs.state.ImageSource.new.Goals as goal

pub invariant_of-result : goal.invariant_of-result
invariant_of-result c =
    let rows = c.checked_rows-rows in
    record { ok = begun (see rows.result) (see_standing c.new.result) c.new-2.result.items c.new.ensures c.new-2.ensures rows.result.inside rows.ensures.fills }
