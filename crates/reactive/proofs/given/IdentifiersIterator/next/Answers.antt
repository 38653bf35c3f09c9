use Rattle.std.proofs.Common.{length, sym, ap, ◌∙◌, arith}
use Rattle.reactive.specs.Given.{list_of}
use Rattle.reactive.proofs.Lists.{found_here, found_low, none_left}
use Rattle.reactive.proofs.given.IdentifiersIterator.next.Goals as goal

pub returns-in_err-id-clause-steps : goal.returns-in_err-id-clause-steps
returns-in_err-id-clause-steps g c =
    let i = c.self.inside in
    let none = sym c.self.view_is ∙ none_left (list_of i.list) (g.S.TreeSource.reading i.source.now) i.place c.self.invariant.given (sym c.in_err-id.was ∙ c.item.ensures) in
    rw c.from_residual.ensures (none, none)

pub overflow_add-self : goal.overflow_add-self
overflow_add-self g c =
    let i = c.self.inside in
    let low = found_low (list_of i.list) (g.S.TreeSource.reading i.source.now) i.place c.self.invariant.given c.in_ok-id.id (sym c.in_ok-id.was ∙ c.item.ensures) in
    omega (arith, low, c.self.invariant.short)

pub returns-clause-steps : goal.returns-clause-steps
returns-clause-steps g c =
    let i = c.self.inside in
    sym c.self.view_is ∙ found_here (list_of i.list) (g.S.TreeSource.reading i.source.now) i.place c.self.invariant.given c.in_ok-id.id (sym c.in_ok-id.was ∙ c.item.ensures)

pub returns-clause-goes : goal.returns-clause-goes
returns-clause-goes g c = record { on = λ f. (tt, tt, omega (arith, ap length (returns-clause-steps g c))); keeps = tt; rests = λ f. tt }
