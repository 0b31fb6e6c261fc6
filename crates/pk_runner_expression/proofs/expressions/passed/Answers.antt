use Rattle.std.proofs.Common.{◌≡◌, ◌∙◌, ap, sym, arith, List, ◌∷◌, drop}
use Rattle.pk_typed.specs.Views.{value_tree, value_trees}
use Rattle.pk_meaning.specs.Work as works
use Rattle.pk_runner_frame.specs.Frames.{held, work_at, work_in, expression_in}
use Rattle.pk_typed.specs.declared.values.Value.{Value}
use Rattle.std.proofs.lemmas.List.{drop_more, take_rest}
use Rattle.pk_meaning.specs.Steps as steps
use Rattle.pk_runner_expression.proofs.expressions.passed.Goals as goal

pub returns-in_ok-keep : goal.returns-in_ok-keep
unfolding work_in expression_in
returns-in_ok-keep c = λ s.
    let whole : c.args.arguments.now ≡ c.index-arguments-0.result ∷ drop 1 c.args.arguments.now = drop_more c.args.arguments.now 0 c.index-arguments-0.result (omega arith)
    ∙ ap (λ (v : Value). v ∷ drop 1 c.args.arguments.now) (sym c.index-arguments-0.is) in
    ap (works.Evaluate (value_tree c.index-arguments-0.result)) (c.in_ok-keep.ensures.work s ∙ ap works.Keep (c.in_ok-pass.ensures.work s
    ∙ ap (λ (vs : List Value). works.Pass (value_trees vs) (work_at (held s c.args.frames.now.items) c.args.number)) (take_rest c.args.arguments.now 1)))
    ∙ sym (ap (λ (vs : List Value). steps.pass (value_trees vs) (work_at (held s c.args.frames.now.items) c.args.number)) whole)
