use Rattle.std.proofs.Common.{◌≡◌, ◌+◌, ℕ, ◌∙◌, ap, sym, arith, List, ◌∷◌, drop}
use Rattle.pk_typed.specs.Views.{value_tree, value_trees}
use Rattle.pk_meaning.specs.Work as works
use Rattle.pk_runner_frame.specs.Frames.{held, work_at, work_in, array_in, expression_in}
use Rattle.pk_typed.specs.declared.values.Value.{Value}
use Rattle.std.proofs.lemmas.List.{drop_more, take_rest}
use Rattle.pk_meaning.specs.Steps as steps
use Rattle.pk_runner_expression.proofs.expressions.filled.Goals as goal

pub returns-in_ok-item : goal.returns-in_ok-item
unfolding work_in expression_in
returns-in_ok-item c = λ s.
    let whole : c.args.items.now ≡ c.index-items-0.result ∷ drop 1 c.args.items.now = drop_more c.args.items.now 0 c.index-items-0.result (omega arith)
    ∙ ap (λ (v : Value). v ∷ drop 1 c.args.items.now) (sym c.index-items-0.is) in
    let next : c.in_ok-next.next ≡ c.args.place + 1 = grind (arith, c.checked_add.ensures, c.in_ok-next.ensures.ok_part) in
    ap (works.Evaluate (value_tree c.index-items-0.result)) (c.in_ok-item.ensures.work s ∙ ap (works.Item (array_in c.args.array) c.args.place) (c.in_ok-fill.ensures.work s
    ∙ (ap (λ (vs : List Value). works.Fill (array_in c.args.array) c.in_ok-next.next (value_trees vs) (work_at (held s c.args.frames.now.items) c.args.number))
    (take_rest c.args.items.now 1) ∙ ap (λ (n : ℕ). works.Fill (array_in c.args.array) n (value_trees (drop 1 c.args.items.now)) (work_at
    (held s c.args.frames.now.items) c.args.number)) next)))
    ∙ sym (ap (λ (vs : List Value). steps.fill (array_in c.args.array) c.args.place (value_trees vs) (work_at (held s c.args.frames.now.items) c.args.number)) whole)
