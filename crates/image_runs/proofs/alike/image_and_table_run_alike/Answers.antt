use Rattle.std.proofs.Common.{◌≡◌, List, sym, ap, ◌∙◌, subst}
use Rattle.reactive.specs.Rows.{Row, at_place}
use Rattle.calls.specs.Steps.{RunStep}
use Rattle.calls.proofs.Equal.{equal_runs}
use Rattle.image_source.proofs.Given.{gives_its_tree}
use Rattle.image_runs.proofs.alike.image_and_table_run_alike.Goals as goal

pub returns : goal.returns
returns c = record {
  sources = λ t es pool h. ap (λ rows. at_place rows 0) (gives_its_tree t h.fine ∙ sym h.rows);
  answers = λ t es pool h m ps n k same answer other after leaves noted left one two.
      let rows = gives_its_tree t h.fine ∙ sym h.rows in
      equal_runs m ps _ n k same answer other after leaves noted left (subst (λ (rs : List Row). RunStep m n ps rs answer after noted) rows one) two;
}
