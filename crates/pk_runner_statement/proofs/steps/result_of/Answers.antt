use Rattle.std.proofs.Common.{ap, ◌∙◌, sym, Option, Some}
use Rattle.std.specs.Prelude.{ℤ}
use Rattle.std.proofs.lemmas.Int.{to_z-of_z}
use mir.Syntax.{w128}
use Rattle.pk_ctypes.specs.declared.types.IntType.{IntType}
use Rattle.pk_meaning.specs.Steps as steps
use Rattle.pk_meaning.specs.Steps.{Config, on}
use Rattle.pk_runner_state.specs.Shown.{shown}
use Rattle.pk_runner_statement.proofs.steps.result_of.Goals as goal

pub returns-in-Some : goal.returns-in-Some
unfolding shown
returns-in-Some c = λ s.
    let old : Config = shown s c.args.state.now in
    ap (λ (z : ℤ). Some z) (to_z-of_z w128 c.number.result (record { sfits = c.number.type_inv }) ∙ c.number.ensures)
    ∙ ap (λ (o : Option IntType). steps.result_of old o) (sym c.in-Some.is ∙ c.returns.ensures)
