use Rattle.std.proofs.Common.{ℕ, List, map, sym, subst}
use Rattle.hir.specs.Scratches.{tables}
use Rattle.hir.specs.Spans.{ident}
use Rattle.walk.specs.Events.{whole}
use Rattle.walk.proofs.Acting.{doing_none}
use Rattle.interposed.specs.Acts.{fixes, does, Ready}
use Rattle.interposed.proofs.Passes.{splits, map_map}
use Rattle.interposed.proofs.interposed.fix_parameters.Goals as goal

pub loop-n-init : goal.loop-n-init
loop-n-init c =
    let w = whole c.args.visitor.now (tables c.args.env.now c.args.scratch.now) in
    let P : List ℕ → Type 0 = λ ns. Ready w (map (λ n. fixes (ident n)) ns) in
    doing_none does Ready splits (λ n. fixes (ident n)) w _ (subst P (sym c.of-n-items.ensures) (subst (Ready w) (map_map fixes ident _) c.requires))
