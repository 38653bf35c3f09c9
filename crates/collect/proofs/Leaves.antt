-- A Leaf: the uses of its operands, and then its tags. Assumes nothing.
use Rattle.std.proofs.Common.{◌≡◌, true, ◌==◌, ◌++◌, map, ap, subst}
use Rattle.std.proofs.lemmas.Bool.{cond-true}
use Rattle.std.specs.List.{fold}
use Rattle.reactive.specs.Rows.{Row}
use Rattle.walk.specs.Events.{Whole}
use Rattle.walk.proofs.Acting.{ready_onward}
use Rattle.collect.specs.declared.promotable.CollectPromotable.{CollectPromotable}
use Rattle.collect.specs.Promotable.{sees, flags, does, leaf_acts, Ready}
use Rattle.collect.proofs.Keeping.{splits}

module _ (r : Row) (w : Whole CollectPromotable) (ready : Ready w (leaf_acts r)) where
  pub ready_uses : Ready w (map sees r.operands)
  ready_uses = splits.front w (map sees r.operands) _ ready

  -- where it is a JSX expression
  module _ (is : (r.kind == 15) ≡ true) (v : Whole CollectPromotable) (went : v ≡ fold does w (map sees r.operands)) where
    leaf_acts_begin : leaf_acts r ≡ map sees r.operands ++ map flags r.marks
    leaf_acts_begin = ap (λ xs. map sees r.operands ++ xs) (cond-true _ _ _ is)

    pub ready_tags : Ready v (map flags r.marks)
    ready_tags = ready_onward does Ready splits w v _ _ (subst (Ready w) leaf_acts_begin ready) went
