use Rattle.std.proofs.Common.{ap, sym, ◌∙◌}
use Rattle.std.specs.Option.{option_map}
use Rattle.reactive.proofs.Places.{table_list}
use Rattle.reactive.proofs.table.TableSourceTreeSource.operand.Goals as goal

pub returns : goal.returns
returns c =
    let s = c.args.self.now in
    c.identifier_at.ensures ∙ table_list (λ r. r.operands) s.rows.now s.pool.now s.position c.args.i _ (sym (ap (option_map (λ e. e.now)) c.in_ok-given.was) ∙ c.given.ensures)
