use Rattle.std.proofs.Common.{◌≡◌, map, ◌∙◌, ap, sym, arith, subst}
use Rattle.std.specs.Prelude.{unwrap_or}
use Rattle.pk_typed.specs.Views.{unit_tree}
use Rattle.pk_calls.specs.Calls.{body_of}
use Rattle.pk_meaning.specs.Programs.{zeros_of}
use Rattle.pk_runner_state.proofs.ObjectLemmas.{rows_of}
use Rattle.pk_runner_state.proofs.ProgramLemmas.{block_is}
use Rattle.std.specs.Prelude.{Option, Some, None, option_map, IfOk}
use Rattle.pk_typed.specs.declared.units.Body.{Body}
use Rattle.pk_typed.specs.Trees.{BodyTree}
use Rattle.pk_typed.specs.Views.{body_tree}
use Rattle.pk_calls.proofs.CallLemmas.{body_past}
use Rattle.pk_runner_state.proofs.objects.zeros_of.Goals as goal
use Rattle.pk_typed.specs.Defaults.{no_body}

pub returns-in-Some : goal.returns-in-Some
returns-in-Some c =
    let same : body_tree c.in-Some.body ≡ unwrap_or (body_of (unit_tree c.args.program.now.unit.now) c.args.function) no_body =
    ap (λ (o : Option Body). unwrap_or (option_map body_tree o) no_body) (sym c.in-Some.is) ∙ block_is c.args.program.now.unit.now c.args.function c.index.result.now (omega arith) c.index.ensures in
    subst (λ (b : BodyTree). IfOk c.zeros_of_body.result (λ rows. rows_of rows.items ≡ map zeros_of b.locals)) same c.zeros_of_body.ensures

pub returns-in-None : goal.returns-in-None
returns-in-None c =
    let same : no_body ≡ unwrap_or (body_of (unit_tree c.args.program.now.unit.now) c.args.function) no_body =
    ap (λ (o : Option Body). unwrap_or (option_map body_tree o) no_body) (sym c.in-None.is) ∙ block_is c.args.program.now.unit.now c.args.function c.index.result.now (omega arith) c.index.ensures in
    ap rows_of c.new.ensures.items ∙ ap (λ (b : BodyTree). map zeros_of b.locals) same

pub returns-else-function-len : goal.returns-else-function-len
returns-else-function-len c =
    ap rows_of c.new-else-function-len.ensures.items ∙ ap (λ (o : Option BodyTree). map zeros_of (unwrap_or o no_body).locals) (body_past c.args.program.now.unit.now c.args.function (omega arith))
