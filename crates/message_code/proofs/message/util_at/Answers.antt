use Rattle.std.proofs.lemmas.Result.{err_from_is_err_and}
use Rattle.message_code.specs.Code.{variable_code, list_code}
use Rattle.message_code.specs.Form.{Form, variable_list, cell_list, fields}
use Rattle.message_code.proofs.PartLaws.{stopped_first, stopped_behind}
use Rattle.message_code.proofs.PassLaws.{variables_pass}
use Rattle.message_code.proofs.message.util_at.Goals as goal

pub returns-in_err-scope : goal.returns-in_err-scope
returns-in_err-scope c =
    let p = err_from_is_err_and c.from_residual.result c.from_residual.ensures.1 in
    rw (p.1, p.2) (stopped_first variable_list (λ (next : Form). cell_list next) c.args.bytes.now c.in_err-scope.field-0.0 c.in_err-scope.ensures.read)

pub returns-in_err-cells : goal.returns-in_err-cells
returns-in_err-cells c =
    let p = err_from_is_err_and c.from_residual-in_err-cells.result c.from_residual-in_err-cells.ensures.1 in
    rw (p.1, p.2) (stopped_behind (fields 3) cell_list c.args.bytes.now (list_code variable_code c.in_ok-scope.scope) c.in_ok-scope.rest.now c.in_err-cells.field-0.0 c.in_ok-scope.ensures.read (λ next. variables_pass c.in_ok-scope.scope c.in_ok-scope.rest.now c.in_ok-scope.ensures.range (cell_list next)) c.in_err-cells.ensures.read)
