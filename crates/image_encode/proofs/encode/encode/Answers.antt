use Rattle.std.proofs.Common.{rules}
use Rattle.std.proofs.lemmas.Result.{err_from_is_err_and}
use Rattle.image.specs.Format.{of_scope, of_function}
use Rattle.image_tables.specs.Tables.{scope_lists, function_lists}
use Rattle.image_encode.proofs.Refusing.{hand_on}
use Rattle.image_encode.proofs.Fitting.{all_fit}
use Rattle.image_encode.proofs.Putting.{put_twice}
use Rattle.image_encode.proofs.Values.{image_put}
use Rattle.image_encode.proofs.encode.encode.Goals as goal

pub returns-clause-image : goal.returns-clause-image
returns-clause-image g c =
    let pool = c.args.pool.now in
    let scopes = c.in_ok-write_scopes.ensures.items in
    let functions = c.in_ok-write_functions.ensures.items in
    let panels = c.in_ok-write_panels.ensures.items in
    record {
      within = record { scopes = scopes.0; functions = functions.0; panels = panels.0 };
      image = image_put _ _ _ panels.1.trees _ _ _ _ _ (search rules) c.in_ok-write_identifiers.ensures.items (put_twice _ of_scope (scope_lists pool) c.args.scopes.now _ _ scopes.1) (put_twice _ of_function (function_lists pool) c.args.functions.now _ _ functions.1) panels.1.put _ panels.1.says;
    }

pub returns-in_err-write_identifiers-clause-none : goal.returns-in_err-write_identifiers-clause-none
returns-in_err-write_identifiers-clause-none g c =
    let p = err_from_is_err_and c.from_residual-in_err-write_identifiers.result c.from_residual-in_err-write_identifiers.ensures.1 in
    hand_on c.from_residual-in_err-write_identifiers.result p.0 c.in_err-write_identifiers.field-0.0 p.1 p.2 (λ u bs e. c.in_err-write_identifiers.ensures.fault u (all_fit _ _ _ _ _ bs e).identifiers)

pub returns-in_err-write_scopes-clause-none : goal.returns-in_err-write_scopes-clause-none
returns-in_err-write_scopes-clause-none g c =
    let p = err_from_is_err_and c.from_residual-in_err-write_scopes.result c.from_residual-in_err-write_scopes.ensures.1 in
    hand_on c.from_residual-in_err-write_scopes.result p.0 c.in_err-write_scopes.field-0.0 p.1 p.2 (λ u bs e. c.in_err-write_scopes.ensures.fault u (all_fit _ _ _ _ _ bs e).scopes)

pub returns-in_err-write_functions-clause-none : goal.returns-in_err-write_functions-clause-none
returns-in_err-write_functions-clause-none g c =
    let p = err_from_is_err_and c.from_residual-in_err-write_functions.result c.from_residual-in_err-write_functions.ensures.1 in
    hand_on c.from_residual-in_err-write_functions.result p.0 c.in_err-write_functions.field-0.0 p.1 p.2 (λ u bs e. c.in_err-write_functions.ensures.fault u (all_fit _ _ _ _ _ bs e).functions)

pub returns-in_err-write_panels-clause-none : goal.returns-in_err-write_panels-clause-none
returns-in_err-write_panels-clause-none g c =
    let p = err_from_is_err_and c.from_residual-in_err-write_panels.result c.from_residual-in_err-write_panels.ensures.1 in
    hand_on c.from_residual-in_err-write_panels.result p.0 c.in_err-write_panels.field-0.0 p.1 p.2 (λ u bs e. c.in_err-write_panels.ensures.fault u (all_fit _ _ _ _ _ bs e).panels)
