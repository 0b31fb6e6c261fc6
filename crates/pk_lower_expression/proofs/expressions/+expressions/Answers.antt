-- Each form by the lemmas on it.
use Rattle.std.proofs.lemmas.Result.{IfOk-weaker, on_ok_weaker}
use Rattle.std.proofs.Common.{ℕ, List, [], ◌∷◌, ◌++◌, map, Bool, sym, ◌∙◌, ap}
use Rattle.pk_ctypes.specs.declared.types.IntType.{IntType}
use Rattle.pk_ctypes.specs.declared.types.IntType.TheVariants.{Int}
use Rattle.pk_ctypes.specs.Types.{represents}
use Rattle.pk_typed.specs.declared.values.Value.{Value}
use Rattle.pk_typed.specs.declared.values.Effect.{Effect}
use Rattle.pk_typed.specs.Types.{type_of}
use Rattle.pk_typed.specs.Views.{place_tree, value_tree, effect_tree, value_trees}
use Rattle.pk_typed.proofs.ViewLemmas.{tree_of_call, tree_of_run}
use Rattle.pk_graph.specs.declared.trees.Tree.{Tree}
use Rattle.pk_graph.specs.Trees.{TreeOf}
use Rattle.pk_graph.specs.Views.{tree_view, array_view}
use Rattle.pk_draft.specs.Drafts.{DraftOf, Given}
use Rattle.pk_draft.specs.Shown.{drafted}
use Rattle.pk_lower_row.specs.declared.shapes.Shape.{Shape}
use Rattle.pk_lower_row.specs.declared.shapes.Waiting.{Waiting}
use Rattle.pk_lower_row.specs.Shapes.{shape_of, makes}
use Rattle.pk_lower_row.specs.Contexts.{Context}
use Rattle.pk_lower_row.specs.Rows as rows
use Rattle.pk_lower_row.specs.Views.{context_in}
use Rattle.pk_lower_expression.specs.Expressions.{passed, performed, ways}
use Rattle.pk_lower_expression.proofs.WayLemmas as way
use Rattle.pk_lower_expression.proofs.WayLemmas.{lowered, decision, drop_of}
use Rattle.pk_lower_expression.proofs.ArmLemmas as arm
use Rattle.pk_lower_expression.proofs.CallLemmas.{passed_next, passed_end, call_is, with_both}
use Rattle.pk_lower_expression.proofs.expressions.+expressions.Goals as goal

abbrev value_at : Context → DraftOf ℕ → Value → Given ℕ
value_at c d v = (ways c (value_tree v)).value d

abbrev choice_at : Context → (p q : ℕ) → DraftOf ℕ → Value → DraftOf ℕ
choice_at c p q d v = (ways c (value_tree v)).choice p q d

abbrev unused_at : Context → DraftOf ℕ → Value → DraftOf ℕ
unused_at c d v = (ways c (value_tree v)).unused d

abbrev performed_at : Context → DraftOf ℕ → Effect → DraftOf ℕ
performed_at c d e = performed c (effect_tree e) d

abbrev held_at : Context → Waiting → DraftOf ℕ → Value → Given ℕ
held_at c how d v = rows.held how (shape_of (value_tree v)) (type_of (value_tree v)) ((ways c (value_tree v)).value d)

abbrev converted_at : Context → IntType → DraftOf ℕ → Value → Given ℕ
converted_at c t d v = rows.convert_after (type_of (value_tree v)) t ((ways c (value_tree v)).value d)

abbrev type_at : Value → IntType
type_at v = type_of (value_tree v)

abbrev shape_at : Value → Shape
shape_at v = shape_of (value_tree v)

abbrev makes_at : Value → Bool
makes_at v = makes (value_tree v)

pub waiting-returns : goal.waiting-returns
waiting-returns t c =
    IfOk-weaker c.held.result _ _ (λ e h. h ∙ ap (rows.held c.args.how (shape_of (value_tree c.args.expression.now)) (type_of (value_tree c.args.expression.now))) c.in_ok-tree.ensures) c.held.ensures

pub converted-returns : goal.converted-returns
converted-returns t c =
    IfOk-weaker c.converted.result _ _ (λ e h. ap (λ (x : TreeOf ℕ). let g : Given ℕ = (x, drafted c.value.new.draft) in g) h
    ∙ (ap (λ (u : IntType). rows.convert_after u c.args.int_type (tree_view c.in_ok-tree.tree.value, drafted c.value.new.draft)) c.int_type.ensures
    ∙ ap (rows.convert_after (type_of (value_tree c.args.expression.now)) c.args.int_type) c.in_ok-tree.ensures)) c.converted.ensures

pub decide-returns : goal.decide-returns
decide-returns t c =
    on_ok_weaker c.guards.result (λ h. h ∙ ap (rows.guards c.args.if_true c.args.if_false) c.in_ok-tree.ensures) c.guards.ensures

pub discard-returns : goal.discard-returns
discard-returns t c =
    on_ok_weaker c.dropped.result (λ h. h
    ∙ (ap (λ (s : Shape). rows.dropped s c.int_type.result (tree_view c.in_ok-tree.tree.value, drafted c.value.new.draft)) c.shape_of.ensures
    ∙ (ap (λ (u : IntType). rows.dropped (shape_of (value_tree c.args.expression.now)) u (tree_view c.in_ok-tree.tree.value, drafted c.value.new.draft)) c.int_type.ensures
    ∙ ap (rows.dropped (shape_of (value_tree c.args.expression.now)) (type_of (value_tree c.args.expression.now))) c.in_ok-tree.ensures))) c.dropped.ensures

pub load_for_step-returns : goal.load_for_step-returns
load_for_step-returns t c =
    IfOk-weaker c.load_between.result _ _ (λ l h. h ∙ arm.loads_for_step (context_in c.args.context.now) c.args.int_type c.args.site (array_view c.args.array) (value_tree c.args.expression.now) _ _ (drafted c.args.draft.now) _ c.in_ok-index.ensures c.in_ok-one.ensures) c.load_between.ensures

pub read-returns-in-Scalar : goal.read-returns-in-Scalar
unfolding place_tree
read-returns-in-Scalar t c =
    IfOk-weaker c.variable-in-Scalar.result _ _ (λ e. arm.scalar (context_in c.args.context.now) (place_tree c.args.place.now) _ _ _ _ (drafted c.args.draft.now) (ap place_tree c.in-Scalar.is) c.variable.ensures) c.variable-in-Scalar.ensures

pub read-returns-in_ok-index-in-Element : goal.read-returns-in_ok-index-in-Element
unfolding place_tree
read-returns-in_ok-index-in-Element t c =
    IfOk-weaker c.load.result _ _ (λ e. arm.element (context_in c.args.context.now) (place_tree c.args.place.now) _ _ _ _ c.site.result (array_view c.array-array.result) _ _ (drafted c.args.draft.now) _ (ap place_tree c.in-Element.is) c.site.ensures c.array-array.ensures
    (c.in_ok-index-in-Element.ensures ∙ ap (value_at (context_in c.args.context.now) (drafted c.args.draft.now)) c.deref.ensures)) c.load.ensures

pub step-returns-in-Scalar : goal.step-returns-in-Scalar
unfolding place_tree
step-returns-in-Scalar t c =
    IfOk-weaker c.step_kept.result _ _ (λ e. arm.step_scalar (context_in c.args.context.now) (place_tree c.args.place.now) c.args.op c.args.site c.args.in_type _ _ c.variable-variable.result _ (drafted c.args.draft.now) (ap place_tree c.in-Scalar.is) c.variable-variable.ensures) c.step_kept.ensures

pub step-returns-in_ok-loaded-in-Element : goal.step-returns-in_ok-loaded-in-Element
unfolding place_tree
step-returns-in_ok-loaded-in-Element t c =
    IfOk-weaker c.renew_kept.result _ _ (λ e. arm.step_element (context_in c.args.context.now) (place_tree c.args.place.now) c.args.op c.args.site c.site-place.result c.args.in_type _ _ _ _ (array_view c.array-array.result) _ _ (drafted c.args.draft.now) (ap place_tree c.in-Element.is) c.site-place.ensures c.array-array.ensures
    (c.in_ok-loaded-in-Element.ensures ∙ ap (λ (v : Value). rows.loaded c.in-Element.int_type c.site-place.result (array_view c.array-array.result) (lowered (context_in c.args.context.now) (value_tree v)) rows.one (drafted c.args.draft.now)) c.deref.ensures)) c.renew_kept.ensures

pub step_after-returns-in-Scalar : goal.step_after-returns-in-Scalar
unfolding place_tree
step_after-returns-in-Scalar t c =
    IfOk-weaker c.step_after.result _ _ (λ e. arm.after_scalar (context_in c.args.context.now) (place_tree c.args.place.now) c.args.op c.args.site c.args.in_type _ _ c.variable-variable.result _ (drafted c.args.draft.now) (ap place_tree c.in-Scalar.is) c.variable-variable.ensures) c.step_after.ensures

pub step_after-returns-in_ok-loaded-in-Element : goal.step_after-returns-in_ok-loaded-in-Element
unfolding place_tree
step_after-returns-in_ok-loaded-in-Element t c =
    IfOk-weaker c.renew_after.result _ _ (λ e. arm.after_element (context_in c.args.context.now) (place_tree c.args.place.now) c.args.op c.args.site c.site-place.result c.args.in_type _ _ _ _ (array_view c.array-array.result) _ _ (drafted c.args.draft.now) (ap place_tree c.in-Element.is) c.site-place.ensures c.array-array.ensures
    (c.in_ok-loaded-in-Element.ensures ∙ ap (λ (v : Value). rows.loaded c.in-Element.int_type c.site-place.result (array_view c.array-array.result) (lowered (context_in c.args.context.now) (value_tree v)) rows.one (drafted c.args.draft.now)) c.deref.ensures)) c.renew_after.ensures

pub step_unused-returns-in-Scalar : goal.step_unused-returns-in-Scalar
unfolding place_tree
step_unused-returns-in-Scalar t c =
    on_ok_weaker c.step.result (arm.unused_scalar (context_in c.args.context.now) (place_tree c.args.place.now) c.args.op c.args.site c.args.in_type _ _ c.variable-variable.result _ (drafted c.args.draft.now) (ap place_tree c.in-Scalar.is) c.variable-variable.ensures) c.step.ensures

pub step_unused-returns-in_ok-loaded-in-Element : goal.step_unused-returns-in_ok-loaded-in-Element
unfolding place_tree
step_unused-returns-in_ok-loaded-in-Element t c =
    on_ok_weaker c.renew.result (arm.unused_element (context_in c.args.context.now) (place_tree c.args.place.now) c.args.op c.args.site c.site-place.result c.args.in_type _ _ _ _ (array_view c.array-array.result) _ _ (drafted c.args.draft.now) (ap place_tree c.in-Element.is) c.site-place.ensures c.array-array.ensures
    (c.in_ok-loaded-in-Element.ensures ∙ ap (λ (v : Value). rows.loaded c.in-Element.int_type c.site-place.result (array_view c.array-array.result) (lowered (context_in c.args.context.now) (value_tree v)) rows.one (drafted c.args.draft.now)) c.deref.ensures)) c.renew.ensures

pub pass-loop-number-preserved : goal.pass-loop-number-preserved
pass-loop-number-preserved t c =
    passed_next (context_in c.args.context.now) c.loop-number.number c.last_making-last.result c.args.arguments.now c.index-arguments-number.result c.loop-number.trees.items c.push.new.self.items c.in_ok-tree.tree.value c.strong_if-how.result c.loop-number.draft c.waiting.new.draft
    c.loop-number-test.true c.index-arguments-number.is c.strong_if-how.ensures c.last_making-last.ensures c.in_ok-tree.ensures
    (c.in_ok-push.ensures.items ∙ ap (λ (x : Tree). c.loop-number.trees.items ++ x ∷ []) c.into_inner.ensures)
    ∙ c.loop-number.invariant

pub pass-returns : goal.pass-returns
pass-returns t c =
    passed_end (context_in c.args.context.now) c.loop-number.number c.args.arguments.now c.loop-number.trees.items c.loop-number.draft c.loop-number-test.false ∙ c.loop-number.invariant

pub call-returns : goal.call-returns
call-returns t c =
    with_both c.enter.result (λ x p q.
    call_is (context_in c.args.context.now) c.args.function c.args.site x (rows.types_of (value_trees c.args.arguments.now)) c.in_ok-path.path c.size.result c.parameters.result.now c.in_ok-trees.trees.items (passed (context_in c.args.context.now) (value_trees c.args.arguments.now)) (drafted c.args.draft.now) c.pass.new.draft (drafted c.enter.new.draft)
    c.in_ok-trees.ensures c.in_ok-path.ensures c.size.ensures c.parameters.ensures
    (p ∙ ap (λ (rs : List Tree). rows.entered_after c.in_ok-path.path c.size.result c.parameters.result.now (rows.types_of (value_trees c.args.arguments.now)) (map tree_view rs) (drafted c.pass.new.draft)) c.deref.ensures.value) q)
    c.enter.ensures.draft c.enter.ensures.variable

pub choose-returns-in-Constant : goal.choose-returns-in-Constant
unfolding value_tree
choose-returns-in-Constant t c =
    on_ok_weaker c.decide.result (λ h. h ∙ decision (ways (context_in c.args.context.now) (value_tree c.args.expression.now)) c.args.if_true c.args.if_false (drafted c.args.draft.now) (way.decides_constant (context_in c.args.context.now) (value_tree c.args.expression.now) _ _ (ap value_tree c.in-Constant.is))) c.decide.ensures

pub choose-returns-in-Read : goal.choose-returns-in-Read
unfolding value_tree
choose-returns-in-Read t c =
    on_ok_weaker c.decide-in-Read.result (λ h. h ∙ decision (ways (context_in c.args.context.now) (value_tree c.args.expression.now)) c.args.if_true c.args.if_false (drafted c.args.draft.now) (way.decides_read (context_in c.args.context.now) (value_tree c.args.expression.now) _ (ap value_tree c.in-Read.is))) c.decide-in-Read.ensures

pub choose-returns-in-Assign : goal.choose-returns-in-Assign
unfolding value_tree
choose-returns-in-Assign t c =
    on_ok_weaker c.decide-in-Assign.result (λ h. h ∙ decision (ways (context_in c.args.context.now) (value_tree c.args.expression.now)) c.args.if_true c.args.if_false (drafted c.args.draft.now) (way.decides_assign (context_in c.args.context.now) (value_tree c.args.expression.now) _ _ _ (ap value_tree c.in-Assign.is))) c.decide-in-Assign.ensures

pub choose-returns-in-Update : goal.choose-returns-in-Update
unfolding value_tree
choose-returns-in-Update t c =
    on_ok_weaker c.decide-in-Update.result (λ h. h ∙ decision (ways (context_in c.args.context.now) (value_tree c.args.expression.now)) c.args.if_true c.args.if_false (drafted c.args.draft.now) (way.decides_update (context_in c.args.context.now) (value_tree c.args.expression.now) _ _ _ _ _ (ap value_tree c.in-Update.is))) c.decide-in-Update.ensures

pub choose-returns-in-Step : goal.choose-returns-in-Step
unfolding value_tree
choose-returns-in-Step t c =
    on_ok_weaker c.decide-in-Step.result (λ h. h ∙ decision (ways (context_in c.args.context.now) (value_tree c.args.expression.now)) c.args.if_true c.args.if_false (drafted c.args.draft.now) (way.decides_step (context_in c.args.context.now) (value_tree c.args.expression.now) _ _ _ _ _ (ap value_tree c.in-Step.is))) c.decide-in-Step.ensures

pub choose-returns-in-Call : goal.choose-returns-in-Call
choose-returns-in-Call t c =
    on_ok_weaker c.decide-in-Call.result (λ h. h ∙ decision (ways (context_in c.args.context.now) (value_tree c.args.expression.now)) c.args.if_true c.args.if_false (drafted c.args.draft.now) (way.decides_call (context_in c.args.context.now) (value_tree c.args.expression.now) _ _ _ _ _ (ap value_tree c.in-Call.is ∙ tree_of_call _ _ _ _ _))) c.decide-in-Call.ensures

pub choose-returns-in-Any : goal.choose-returns-in-Any
unfolding value_tree
choose-returns-in-Any t c =
    on_ok_weaker c.decide-in-Any.result (λ h. h ∙ decision (ways (context_in c.args.context.now) (value_tree c.args.expression.now)) c.args.if_true c.args.if_false (drafted c.args.draft.now) (way.decides_any (context_in c.args.context.now) (value_tree c.args.expression.now) _ _ (ap value_tree c.in-Any.is))) c.decide-in-Any.ensures

pub choose-returns-in-Convert : goal.choose-returns-in-Convert
unfolding value_tree
choose-returns-in-Convert t c =
    on_ok_weaker c.decide-in-Convert.result (λ h. h ∙ decision (ways (context_in c.args.context.now) (value_tree c.args.expression.now)) c.args.if_true c.args.if_false (drafted c.args.draft.now) (way.decides_convert (context_in c.args.context.now) (value_tree c.args.expression.now) _ _ (ap value_tree c.in-Convert.is))) c.decide-in-Convert.ensures

pub choose-returns-in-Binary : goal.choose-returns-in-Binary
unfolding value_tree
choose-returns-in-Binary t c =
    on_ok_weaker c.decide-in-Binary.result (λ h. h ∙ decision (ways (context_in c.args.context.now) (value_tree c.args.expression.now)) c.args.if_true c.args.if_false (drafted c.args.draft.now) (way.decides_binary (context_in c.args.context.now) (value_tree c.args.expression.now) _ _ _ _ _ (ap value_tree c.in-Binary.is))) c.decide-in-Binary.ensures

pub choose-returns-in-Conditional : goal.choose-returns-in-Conditional
unfolding value_tree
choose-returns-in-Conditional t c =
    on_ok_weaker c.decide-in-Conditional.result (λ h. h ∙ decision (ways (context_in c.args.context.now) (value_tree c.args.expression.now)) c.args.if_true c.args.if_false (drafted c.args.draft.now) (way.decides_conditional (context_in c.args.context.now) (value_tree c.args.expression.now) _ _ _ _ (ap value_tree c.in-Conditional.is))) c.decide-in-Conditional.ensures

pub choose-returns-else-is_not : goal.choose-returns-else-is_not
unfolding value_tree
choose-returns-else-is_not t c =
    on_ok_weaker c.decide-else-is_not.result (λ h. h ∙ decision (ways (context_in c.args.context.now) (value_tree c.args.expression.now)) c.args.if_true c.args.if_false (drafted c.args.draft.now) (way.decides_unary (context_in c.args.context.now) (value_tree c.args.expression.now) _ _ _ _ (ap value_tree c.in-Unary.is) (sym c.is_not.ensures ∙ c.if-is_not.false))) c.decide-else-is_not.ensures

pub choose-returns-then-is_not : goal.choose-returns-then-is_not
unfolding value_tree
choose-returns-then-is_not t c =
    on_ok_weaker c.choose.result (λ h. arm.not_choice (context_in c.args.context.now) (value_tree c.args.expression.now) _ _ _ _ c.args.if_true c.args.if_false (drafted c.args.draft.now) _ (ap value_tree c.in-Unary.is) (sym c.is_not.ensures ∙ c.if-is_not.true) (h ∙ ap (choice_at (context_in c.args.context.now) c.args.if_false c.args.if_true (drafted c.args.draft.now)) c.deref.ensures)) c.choose.ensures

pub choose-returns-in_ok-choose-in-And : goal.choose-returns-in_ok-choose-in-And
unfolding value_tree
choose-returns-in_ok-choose-in-And t c =
    on_ok_weaker c.choose-in-And-2.result (λ h. arm.and_choice (context_in c.args.context.now) (value_tree c.args.expression.now) _ _ c.args.if_true c.args.if_false c.in_ok-between-in-And.between (drafted c.args.draft.now) _ _ _ _ (ap value_tree c.in-And.is) c.in_ok-between-in-And.ensures.first c.in_ok-between-in-And.ensures.draft
    (c.in_ok-choose-in-And.ensures ∙ ap (choice_at (context_in c.args.context.now) c.in_ok-between-in-And.between c.args.if_false (drafted c.fresh.new.self)) c.deref-in-And.ensures)
    c.at.ensures
    (h ∙ ap (choice_at (context_in c.args.context.now) c.args.if_true c.args.if_false (drafted c.at.new.self)) c.deref-in-And-2.ensures)) c.choose-in-And-2.ensures

pub choose-returns-in_ok-choose-in-Or : goal.choose-returns-in_ok-choose-in-Or
unfolding value_tree
choose-returns-in_ok-choose-in-Or t c =
    on_ok_weaker c.choose-in-Or-2.result (λ h. arm.or_choice (context_in c.args.context.now) (value_tree c.args.expression.now) _ _ c.args.if_true c.args.if_false c.in_ok-between-in-Or.between (drafted c.args.draft.now) _ _ _ _ (ap value_tree c.in-Or.is) c.in_ok-between-in-Or.ensures.first c.in_ok-between-in-Or.ensures.draft
    (c.in_ok-choose-in-Or.ensures ∙ ap (choice_at (context_in c.args.context.now) c.args.if_true c.in_ok-between-in-Or.between (drafted c.fresh-in-Or.new.self)) c.deref-in-Or.ensures)
    c.at-in-Or.ensures
    (h ∙ ap (choice_at (context_in c.args.context.now) c.args.if_true c.args.if_false (drafted c.at-in-Or.new.self)) c.deref-in-Or-2.ensures)) c.choose-in-Or-2.ensures

pub choose-returns-in_ok-perform-in-Then : goal.choose-returns-in_ok-perform-in-Then
unfolding value_tree
choose-returns-in_ok-perform-in-Then t c =
    on_ok_weaker c.choose-in-Then.result (λ h. arm.then_choice (context_in c.args.context.now) (value_tree c.args.expression.now) _ _ c.args.if_true c.args.if_false (drafted c.args.draft.now) _ _ (ap value_tree c.in-Then.is)
    (c.in_ok-perform-in-Then.ensures ∙ ap (performed_at (context_in c.args.context.now) (drafted c.args.draft.now)) c.deref-in-Then.ensures)
    (h ∙ ap (choice_at (context_in c.args.context.now) c.args.if_true c.args.if_false (drafted c.perform.new.draft)) c.deref-in-Then-2.ensures)) c.choose-in-Then.ensures

pub unused-returns-in_ok-perform-in-Then : goal.unused-returns-in_ok-perform-in-Then
unfolding value_tree
unused-returns-in_ok-perform-in-Then t c =
    on_ok_weaker c.unused.result (λ h. arm.then_unused (context_in c.args.context.now) (value_tree c.args.expression.now) _ _ (drafted c.args.draft.now) _ _ (ap value_tree c.in-Then.is)
    (c.in_ok-perform-in-Then.ensures ∙ ap (performed_at (context_in c.args.context.now) (drafted c.args.draft.now)) c.deref-in-Then.ensures)
    (h ∙ ap (unused_at (context_in c.args.context.now) (drafted c.perform.new.draft)) c.deref-in-Then-2.ensures)) c.unused.ensures

pub value-returns-in_ok-perform-in-Then : goal.value-returns-in_ok-perform-in-Then
unfolding value_tree
value-returns-in_ok-perform-in-Then t c =
    IfOk-weaker c.value-in-Then.result _ _ (λ e h. arm.then_value (context_in c.args.context.now) (value_tree c.args.expression.now) _ _ _ (drafted c.args.draft.now) _ (ap value_tree c.in-Then.is)
    (c.in_ok-perform-in-Then.ensures ∙ ap (performed_at (context_in c.args.context.now) (drafted c.args.draft.now)) c.deref-in-Then.ensures)
    (h ∙ ap (value_at (context_in c.args.context.now) (drafted c.perform.new.draft)) c.deref-in-Then-2.ensures)) c.value-in-Then.ensures

pub unused-returns-in-Constant : goal.unused-returns-in-Constant
unfolding value_tree
unused-returns-in-Constant t c =
    on_ok_weaker c.discard.result (λ h. h ∙ drop_of (context_in c.args.context.now) (value_tree c.args.expression.now) (drafted c.args.draft.now) (way.drops_constant (context_in c.args.context.now) (value_tree c.args.expression.now) _ _ (ap value_tree c.in-Constant.is))) c.discard.ensures

pub unused-returns-in-Any : goal.unused-returns-in-Any
unfolding value_tree
unused-returns-in-Any t c =
    on_ok_weaker c.discard-in-Any.result (λ h. h ∙ drop_of (context_in c.args.context.now) (value_tree c.args.expression.now) (drafted c.args.draft.now) (way.drops_any (context_in c.args.context.now) (value_tree c.args.expression.now) _ _ (ap value_tree c.in-Any.is))) c.discard-in-Any.ensures

pub unused-returns-in-Conditional : goal.unused-returns-in-Conditional
unfolding value_tree
unused-returns-in-Conditional t c =
    on_ok_weaker c.discard-in-Conditional.result (λ h. h ∙ drop_of (context_in c.args.context.now) (value_tree c.args.expression.now) (drafted c.args.draft.now) (way.drops_conditional (context_in c.args.context.now) (value_tree c.args.expression.now) _ _ _ _ (ap value_tree c.in-Conditional.is))) c.discard-in-Conditional.ensures

pub unused-returns-in-Convert : goal.unused-returns-in-Convert
unfolding value_tree
unused-returns-in-Convert t c =
    on_ok_weaker c.discard-in-Convert.result (λ h. h ∙ drop_of (context_in c.args.context.now) (value_tree c.args.expression.now) (drafted c.args.draft.now) (way.drops_convert (context_in c.args.context.now) (value_tree c.args.expression.now) _ _ (ap value_tree c.in-Convert.is))) c.discard-in-Convert.ensures

pub unused-returns-in-Binary : goal.unused-returns-in-Binary
unfolding value_tree
unused-returns-in-Binary t c =
    on_ok_weaker c.discard-in-Binary.result (λ h. h ∙ drop_of (context_in c.args.context.now) (value_tree c.args.expression.now) (drafted c.args.draft.now) (way.drops_binary (context_in c.args.context.now) (value_tree c.args.expression.now) _ _ _ _ _ (ap value_tree c.in-Binary.is))) c.discard-in-Binary.ensures

pub unused-returns-in-And : goal.unused-returns-in-And
unfolding value_tree
unused-returns-in-And t c =
    on_ok_weaker c.discard-in-And.result (λ h. h ∙ drop_of (context_in c.args.context.now) (value_tree c.args.expression.now) (drafted c.args.draft.now) (way.drops_and (context_in c.args.context.now) (value_tree c.args.expression.now) _ _ (ap value_tree c.in-And.is))) c.discard-in-And.ensures

pub unused-returns-in-Or : goal.unused-returns-in-Or
unfolding value_tree
unused-returns-in-Or t c =
    on_ok_weaker c.discard-in-Or.result (λ h. h ∙ drop_of (context_in c.args.context.now) (value_tree c.args.expression.now) (drafted c.args.draft.now) (way.drops_or (context_in c.args.context.now) (value_tree c.args.expression.now) _ _ (ap value_tree c.in-Or.is))) c.discard-in-Or.ensures

pub unused-returns-in-Unary : goal.unused-returns-in-Unary
unfolding value_tree
unused-returns-in-Unary t c =
    on_ok_weaker c.discard-in-Unary.result (λ h. h ∙ drop_of (context_in c.args.context.now) (value_tree c.args.expression.now) (drafted c.args.draft.now) (way.drops_unary (context_in c.args.context.now) (value_tree c.args.expression.now) _ _ _ _ (ap value_tree c.in-Unary.is))) c.discard-in-Unary.ensures

pub unused-returns-in-Read : goal.unused-returns-in-Read
unfolding value_tree
unused-returns-in-Read t c =
    on_ok_weaker c.discard-in-Read.result (λ h. h ∙ drop_of (context_in c.args.context.now) (value_tree c.args.expression.now) (drafted c.args.draft.now) (way.drops_read (context_in c.args.context.now) (value_tree c.args.expression.now) _ (ap value_tree c.in-Read.is))) c.discard-in-Read.ensures

pub unused-returns-in-Call : goal.unused-returns-in-Call
unused-returns-in-Call t c =
    on_ok_weaker c.discard-in-Call.result (λ h. h ∙ drop_of (context_in c.args.context.now) (value_tree c.args.expression.now) (drafted c.args.draft.now) (way.drops_call (context_in c.args.context.now) (value_tree c.args.expression.now) _ _ _ _ _ (ap value_tree c.in-Call.is ∙ tree_of_call _ _ _ _ _))) c.discard-in-Call.ensures

pub unused-returns-in-Scalar : goal.unused-returns-in-Scalar
unfolding value_tree place_tree
unused-returns-in-Scalar t c =
    on_ok_weaker c.discard-in-Scalar.result (λ h. h ∙ drop_of (context_in c.args.context.now) (value_tree c.args.expression.now) (drafted c.args.draft.now) (way.drops_assign (context_in c.args.context.now) (value_tree c.args.expression.now) _ _ _ _ _ (ap value_tree c.in-Assign.is) (ap place_tree c.in-Scalar.is))) c.discard-in-Scalar.ensures

pub unused-returns-in-Scalar-place : goal.unused-returns-in-Scalar-place
unfolding value_tree place_tree
unused-returns-in-Scalar-place t c =
    on_ok_weaker c.discard-in-Scalar-place.result (λ h. h ∙ drop_of (context_in c.args.context.now) (value_tree c.args.expression.now) (drafted c.args.draft.now) (way.drops_update (context_in c.args.context.now) (value_tree c.args.expression.now) _ _ _ _ _ _ _ (ap value_tree c.in-Update.is) (ap place_tree c.in-Scalar-place.is))) c.discard-in-Scalar-place.ensures

pub unused-returns-in-Step : goal.unused-returns-in-Step
unfolding value_tree
unused-returns-in-Step t c =
    on_ok_weaker c.step_unused.result (arm.step_unused (context_in c.args.context.now) (value_tree c.args.expression.now) _ _ _ _ _ _ (drafted c.args.draft.now) _ (ap value_tree c.in-Step.is) c.site.ensures) c.step_unused.ensures

pub unused-returns-in_ok-tree-in-Element : goal.unused-returns-in_ok-tree-in-Element
unfolding value_tree place_tree
unused-returns-in_ok-tree-in-Element t c =
    on_ok_weaker c.put.result (arm.put_element (context_in c.args.context.now) (value_tree c.args.expression.now) _ _ _ _ _ _ _ c.site-site.result (array_view c.array-array.result) c.int_type.result c.makes.result c.strong_if-how.result _ _ _ (drafted c.args.draft.now) _ _
    (ap value_tree c.in-Assign.is) (ap place_tree c.in-Element.is) c.site-site.ensures c.array-array.ensures (c.int_type.ensures ∙ ap type_at c.deref-in-Element-3.ensures) (c.makes.ensures ∙ ap makes_at c.deref.ensures) c.strong_if-how.ensures
    (c.in_ok-index-in-Element.ensures ∙ ap (held_at (context_in c.args.context.now) c.strong_if-how.result (drafted c.args.draft.now)) c.deref-in-Element.ensures)
    (c.in_ok-tree-in-Element.ensures ∙ ap (value_at (context_in c.args.context.now) (drafted c.waiting.new.draft)) c.deref-in-Element-2.ensures)) c.put.ensures

pub unused-returns-in_ok-tree-in-Element-place : goal.unused-returns-in_ok-tree-in-Element-place
unfolding value_tree place_tree
unused-returns-in_ok-tree-in-Element-place t c =
    on_ok_weaker c.update_element.result (arm.update_element_unused (context_in c.args.context.now) (value_tree c.args.expression.now) _ _ _ _ _ _ _ _ _ c.site-site-in-Element-place.result c.site-place.result (array_view c.array-array-in-Element-place.result) c.shape_of.result c.int_type-in-Element-place.result c.makes-in-Element-place.result c.strong_or_weak-how.result _ _ _ (drafted c.args.draft.now) _ _
    (ap value_tree c.in-Update.is) (ap place_tree c.in-Element-place.is) c.site-site-in-Element-place.ensures c.site-place.ensures c.array-array-in-Element-place.ensures (c.shape_of.ensures ∙ ap shape_at c.deref-in-Element-place-4.ensures) (c.int_type-in-Element-place.ensures ∙ ap type_at c.deref-in-Element-place-5.ensures) (c.makes-in-Element-place.ensures ∙ ap makes_at c.deref-in-Element-place.ensures) c.strong_or_weak-how.ensures
    (c.in_ok-index-in-Element-place.ensures ∙ ap (held_at (context_in c.args.context.now) c.strong_or_weak-how.result (drafted c.args.draft.now)) c.deref-in-Element-place-2.ensures)
    (c.in_ok-tree-in-Element-place.ensures ∙ ap (value_at (context_in c.args.context.now) (drafted c.waiting-in-Element-place.new.draft)) c.deref-in-Element-place-3.ensures)) c.update_element.ensures

pub value-returns-in_ok-tree-in-Element-place : goal.value-returns-in_ok-tree-in-Element-place
unfolding value_tree place_tree
value-returns-in_ok-tree-in-Element-place t c =
    IfOk-weaker c.update_element_kept.result _ _ (λ e. arm.update_element (context_in c.args.context.now) (value_tree c.args.expression.now) _ _ _ _ _ _ _ _ _ c.site-site-in-Element-place.result c.site-place.result (array_view c.array-array-in-Element-place.result) c.shape_of.result c.int_type-in-Element-place.result c.makes-in-Element-place.result c.strong_or_weak-how-in-Element-place.result _ _ _ (drafted c.args.draft.now) _ _
    (ap value_tree c.in-Update.is) (ap place_tree c.in-Element-place.is) c.site-site-in-Element-place.ensures c.site-place.ensures c.array-array-in-Element-place.ensures (c.shape_of.ensures ∙ ap shape_at c.deref-in-Element-place-4.ensures) (c.int_type-in-Element-place.ensures ∙ ap type_at c.deref-in-Element-place-5.ensures) (c.makes-in-Element-place.ensures ∙ ap makes_at c.deref-in-Element-place.ensures) c.strong_or_weak-how-in-Element-place.ensures
    (c.in_ok-index-in-Element-place.ensures ∙ ap (held_at (context_in c.args.context.now) c.strong_or_weak-how-in-Element-place.result (drafted c.args.draft.now)) c.deref-in-Element-place-2.ensures)
    (c.in_ok-tree-in-Element-place.ensures ∙ ap (value_at (context_in c.args.context.now) (drafted c.waiting-in-Element-place.new.draft)) c.deref-in-Element-place-3.ensures)) c.update_element_kept.ensures

pub value-returns-in-Constant : goal.value-returns-in-Constant
unfolding value_tree
value-returns-in-Constant t c =
    IfOk-weaker c.constant.result _ _ (λ e. arm.constant (context_in c.args.context.now) (value_tree c.args.expression.now) _ _ _ (drafted c.args.draft.now) (ap value_tree c.in-Constant.is)) c.constant.ensures

pub value-returns-in-Read : goal.value-returns-in-Read
unfolding value_tree
value-returns-in-Read t c =
    IfOk-weaker c.read.result _ _ (λ e. arm.read (context_in c.args.context.now) (value_tree c.args.expression.now) _ _ (drafted c.args.draft.now) (ap value_tree c.in-Read.is)) c.read.ensures

pub value-returns-in-Any : goal.value-returns-in-Any
unfolding value_tree
value-returns-in-Any t c =
    IfOk-weaker c.any.result _ _ (λ e. arm.any (context_in c.args.context.now) (value_tree c.args.expression.now) _ _ _ (drafted c.args.draft.now) (ap value_tree c.in-Any.is)) c.any.ensures

pub value-returns-in-Convert : goal.value-returns-in-Convert
unfolding value_tree
value-returns-in-Convert t c =
    IfOk-weaker c.converted.result _ _ (λ e h. arm.convert (context_in c.args.context.now) (value_tree c.args.expression.now) _ _ _ (drafted c.args.draft.now) (ap value_tree c.in-Convert.is) (h ∙ ap (converted_at (context_in c.args.context.now) c.in-Convert.int_type (drafted c.args.draft.now)) c.deref-in-Convert.ensures)) c.converted.ensures

pub value-returns-in_ok-tree-in-Scalar : goal.value-returns-in_ok-tree-in-Scalar
unfolding value_tree place_tree
value-returns-in_ok-tree-in-Scalar t c =
    IfOk-weaker c.set_kept.result _ _ (λ e. arm.set_scalar (context_in c.args.context.now) (value_tree c.args.expression.now) _ _ _ _ _ c.int_type.result c.variable-variable.result _ _ (drafted c.args.draft.now) _ (ap value_tree c.in-Assign.is) (ap place_tree c.in-Scalar.is)
    c.variable-variable.ensures (c.int_type.ensures ∙ ap type_at c.deref-in-Scalar.ensures) (c.in_ok-tree-in-Scalar.ensures ∙ ap (value_at (context_in c.args.context.now) (drafted c.args.draft.now)) c.deref.ensures)) c.set_kept.ensures

pub value-returns-in_ok-tree-in-Element : goal.value-returns-in_ok-tree-in-Element
unfolding value_tree place_tree
value-returns-in_ok-tree-in-Element t c =
    IfOk-weaker c.put_kept.result _ _ (λ e. arm.set_element (context_in c.args.context.now) (value_tree c.args.expression.now) _ _ _ _ _ _ _ c.site-site.result (array_view c.array-array.result) c.int_type-in-Element.result c.makes.result c.strong_or_weak-how.result _ _ _ (drafted c.args.draft.now) _ _
    (ap value_tree c.in-Assign.is) (ap place_tree c.in-Element.is) c.site-site.ensures c.array-array.ensures (c.int_type-in-Element.ensures ∙ ap type_at c.deref-in-Element-4.ensures) (c.makes.ensures ∙ ap makes_at c.deref-in-Element.ensures) c.strong_or_weak-how.ensures
    (c.in_ok-index-in-Element.ensures ∙ ap (held_at (context_in c.args.context.now) c.strong_or_weak-how.result (drafted c.args.draft.now)) c.deref-in-Element-2.ensures)
    (c.in_ok-tree-in-Element.ensures ∙ ap (value_at (context_in c.args.context.now) (drafted c.waiting.new.draft)) c.deref-in-Element-3.ensures)) c.put_kept.ensures

pub value-returns-in_ok-tree-in-Scalar-place : goal.value-returns-in_ok-tree-in-Scalar-place
unfolding value_tree place_tree
value-returns-in_ok-tree-in-Scalar-place t c =
    IfOk-weaker c.update_kept.result _ _ (λ e. arm.update_scalar (context_in c.args.context.now) (value_tree c.args.expression.now) _ _ _ _ _ _ _ c.site-site-in-Scalar-place.result c.int_type-in-Scalar-place.result c.variable-variable-in-Scalar-place.result _ _ (drafted c.args.draft.now) _ (ap value_tree c.in-Update.is) (ap place_tree c.in-Scalar-place.is)
    c.site-site-in-Scalar-place.ensures c.variable-variable-in-Scalar-place.ensures (c.int_type-in-Scalar-place.ensures ∙ ap type_at c.deref-in-Scalar-place-2.ensures) (c.in_ok-tree-in-Scalar-place.ensures ∙ ap (value_at (context_in c.args.context.now) (drafted c.args.draft.now)) c.deref-in-Scalar-place.ensures)) c.update_kept.ensures

pub value-returns-then-is_prefix : goal.value-returns-then-is_prefix
unfolding value_tree
value-returns-then-is_prefix t c =
    IfOk-weaker c.step.result _ _ (λ e. arm.step_prefix (context_in c.args.context.now) (value_tree c.args.expression.now) _ _ _ _ _ c.site-site-in-Step.result _ (drafted c.args.draft.now) (ap value_tree c.in-Step.is) c.site-site-in-Step.ensures c.if-is_prefix.true) c.step.ensures

pub value-returns-else-is_prefix : goal.value-returns-else-is_prefix
unfolding value_tree
value-returns-else-is_prefix t c =
    IfOk-weaker c.step_after.result _ _ (λ e. arm.step_postfix (context_in c.args.context.now) (value_tree c.args.expression.now) _ _ _ _ _ c.site-site-in-Step.result _ (drafted c.args.draft.now) (ap value_tree c.in-Step.is) c.site-site-in-Step.ensures c.if-is_prefix.false) c.step_after.ensures

pub value-returns-in_ok-result-in-Call : goal.value-returns-in_ok-result-in-Call
value-returns-in_ok-result-in-Call t c =
    IfOk-weaker c.variable.result _ _ (λ e. arm.call (context_in c.args.context.now) (value_tree c.args.expression.now) _ _ _ _ _ c.in-Call.arguments.items _ _ (drafted c.args.draft.now) _ (ap value_tree c.in-Call.is ∙ tree_of_call _ _ _ _ c.in-Call.arguments) c.as_slice.ensures.value c.in_ok-result-in-Call.ensures) c.variable.ensures

pub value-returns-in_ok-tree-in-Unary : goal.value-returns-in_ok-tree-in-Unary
unfolding value_tree
value-returns-in_ok-tree-in-Unary t c =
    IfOk-weaker c.unary.result _ _ (λ e. arm.unary (context_in c.args.context.now) (value_tree c.args.expression.now) _ _ _ _ c.site-site-in-Unary.result c.int_type-from.result _ _ (drafted c.args.draft.now) _ (ap value_tree c.in-Unary.is)
    c.site-site-in-Unary.ensures (c.int_type-from.ensures ∙ ap type_at c.deref-in-Unary.ensures) (c.in_ok-tree-in-Unary.ensures ∙ ap (value_at (context_in c.args.context.now) (drafted c.args.draft.now)) c.deref-in-Unary-2.ensures)) c.unary.ensures

pub value-returns-in_ok-second-in-Binary : goal.value-returns-in_ok-second-in-Binary
unfolding value_tree
value-returns-in_ok-second-in-Binary t c =
    IfOk-weaker c.binary.result _ _ (λ e. arm.binary (context_in c.args.context.now) (value_tree c.args.expression.now) _ _ _ _ _ c.site-site-in-Binary.result c.int_type-in-Binary.result c.int_type-in-Binary-2.result c.makes-in-Binary.result c.strong_if-how.result _ _ _ (drafted c.args.draft.now) _ _ (ap value_tree c.in-Binary.is)
    c.site-site-in-Binary.ensures (c.int_type-in-Binary.ensures ∙ ap type_at c.deref-in-Binary-4.ensures) (c.int_type-in-Binary-2.ensures ∙ ap type_at c.deref-in-Binary-5.ensures) (c.makes-in-Binary.ensures ∙ ap makes_at c.deref-in-Binary.ensures) c.strong_if-how.ensures
    (c.in_ok-first-in-Binary.ensures ∙ ap (held_at (context_in c.args.context.now) c.strong_if-how.result (drafted c.args.draft.now)) c.deref-in-Binary-2.ensures)
    (c.in_ok-second-in-Binary.ensures ∙ ap (value_at (context_in c.args.context.now) (drafted c.waiting-in-Binary.new.draft)) c.deref-in-Binary-3.ensures)) c.binary.ensures

pub value-returns-in_ok-choose-in-And-2 : goal.value-returns-in_ok-choose-in-And-2
unfolding value_tree
value-returns-in_ok-choose-in-And-2 t c =
    IfOk-weaker c.end_truth.result _ _ (λ e. arm.and_value (context_in c.args.context.now) (value_tree c.args.expression.now) _ _ c.in_ok-join-in-And.join c.in_ok-between-in-And.between _ c.args.draft.now (drafted c.begin_join.new.draft) _ _ _ _ (ap value_tree c.in-And.is) c.in_ok-join-in-And.ensures.join c.in_ok-join-in-And.ensures.draft c.in_ok-between-in-And.ensures.first c.in_ok-between-in-And.ensures.draft
    (c.in_ok-choose-in-And.ensures ∙ ap (choice_at (context_in c.args.context.now) c.in_ok-between-in-And.between c.in_ok-join-in-And.join.if_false (drafted c.fresh.new.self)) c.deref-in-And.ensures)
    c.at.ensures
    (c.in_ok-choose-in-And-2.ensures ∙ ap (choice_at (context_in c.args.context.now) c.in_ok-join-in-And.join.if_true c.in_ok-join-in-And.join.if_false (drafted c.at.new.self)) c.deref-in-And-2.ensures)) c.end_truth.ensures

pub value-returns-in_ok-choose-in-Or-2 : goal.value-returns-in_ok-choose-in-Or-2
unfolding value_tree
value-returns-in_ok-choose-in-Or-2 t c =
    IfOk-weaker c.end_truth-in-Or.result _ _ (λ e. arm.or_value (context_in c.args.context.now) (value_tree c.args.expression.now) _ _ c.in_ok-join-in-Or.join c.in_ok-between-in-Or.between _ c.args.draft.now (drafted c.begin_join-in-Or.new.draft) _ _ _ _ (ap value_tree c.in-Or.is) c.in_ok-join-in-Or.ensures.join c.in_ok-join-in-Or.ensures.draft c.in_ok-between-in-Or.ensures.first c.in_ok-between-in-Or.ensures.draft
    (c.in_ok-choose-in-Or.ensures ∙ ap (choice_at (context_in c.args.context.now) c.in_ok-join-in-Or.join.if_true c.in_ok-between-in-Or.between (drafted c.fresh-in-Or.new.self)) c.deref-in-Or.ensures)
    c.at-in-Or.ensures
    (c.in_ok-choose-in-Or-2.ensures ∙ ap (choice_at (context_in c.args.context.now) c.in_ok-join-in-Or.join.if_true c.in_ok-join-in-Or.join.if_false (drafted c.at-in-Or.new.self)) c.deref-in-Or-2.ensures)) c.end_truth-in-Or.ensures

pub value-returns-in_ok-second-in-Conditional : goal.value-returns-in_ok-second-in-Conditional
unfolding value_tree
value-returns-in_ok-second-in-Conditional t c =
    IfOk-weaker c.end_join.result _ _ (λ e. arm.conditional (context_in c.args.context.now) (value_tree c.args.expression.now) _ _ _ _ c.in_ok-join-in-Conditional.join _ _ _ c.args.draft.now _ _ _ _ _ _ (ap value_tree c.in-Conditional.is) c.in_ok-join-in-Conditional.ensures.join c.in_ok-join-in-Conditional.ensures.draft
    (c.in_ok-choose-in-Conditional.ensures ∙ ap (choice_at (context_in c.args.context.now) c.in_ok-join-in-Conditional.join.if_true c.in_ok-join-in-Conditional.join.if_false (drafted c.begin_join-in-Conditional.new.draft)) c.deref-in-Conditional.ensures)
    c.at-in-Conditional.ensures
    (c.in_ok-first-in-Conditional.ensures ∙ ap (converted_at (context_in c.args.context.now) c.in-Conditional.int_type (drafted c.at-in-Conditional.new.self)) c.deref-in-Conditional-2.ensures)
    c.in_ok-set_between-in-Conditional.ensures
    (c.in_ok-second-in-Conditional.ensures ∙ ap (converted_at (context_in c.args.context.now) c.in-Conditional.int_type (drafted c.set_between.new.draft)) c.deref-in-Conditional-3.ensures)) c.end_join.ensures

pub assume-returns-in_ok-choose : goal.assume-returns-in_ok-choose
assume-returns-in_ok-choose t c =
    arm.assumed_as_it_is (lowered (context_in c.args.context.now) (value_tree c.args.expression.now)) c.in_ok-after.after (drafted c.args.draft.now) _ _ _ (sym (c.represents.ensures ∙ ap (represents Int) c.int_type.ensures) ∙ c.if-represents.true) c.in_ok-after.ensures.first c.in_ok-after.ensures.draft c.in_ok-choose.ensures c.at.ensures

pub assume-returns-in_ok-guards : goal.assume-returns-in_ok-guards
assume-returns-in_ok-guards t c =
    arm.assumed_converted (lowered (context_in c.args.context.now) (value_tree c.args.expression.now)) c.in_ok-after.after _ (drafted c.args.draft.now) _ _ _ _ (sym (c.represents.ensures ∙ ap (represents Int) c.int_type.ensures) ∙ c.if-represents.false) c.in_ok-after.ensures.first c.in_ok-after.ensures.draft c.in_ok-tree.ensures c.in_ok-guards.ensures c.at-else-represents.ensures

pub perform-returns-in-Abort : goal.perform-returns-in-Abort
unfolding effect_tree
perform-returns-in-Abort t c =
    on_ok_weaker c.abort.result (arm.abort (context_in c.args.context.now) (effect_tree c.args.effect.now) _ (drafted c.args.draft.now) _ (ap effect_tree c.in-Abort.is)) c.abort.ensures

pub perform-returns-in-Assume : goal.perform-returns-in-Assume
unfolding effect_tree
perform-returns-in-Assume t c =
    on_ok_weaker c.assume.result (λ h. arm.assume (context_in c.args.context.now) (effect_tree c.args.effect.now) _ _ (drafted c.args.draft.now) _ (ap effect_tree c.in-Assume.is) (h ∙ ap (λ (v : Value). rows.assumed (rows.as_int (lowered (context_in c.args.context.now) (value_tree v))) (drafted c.args.draft.now)) c.deref.ensures)) c.assume.ensures

pub perform-returns-in-Unused : goal.perform-returns-in-Unused
unfolding effect_tree
perform-returns-in-Unused t c =
    on_ok_weaker c.unused.result (arm.discarded (context_in c.args.context.now) (effect_tree c.args.effect.now) _ (drafted c.args.draft.now) _ (ap effect_tree c.in-Unused.is)) c.unused.ensures

pub perform-returns-in_ok-call-in-Call : goal.perform-returns-in_ok-call-in-Call
perform-returns-in_ok-call-in-Call t c =
    arm.run (context_in c.args.context.now) (effect_tree c.args.effect.now) _ _ _ _ c.in-Call.arguments.items _ (drafted c.args.draft.now) _ (ap effect_tree c.in-Call.is ∙ tree_of_run _ _ _ c.in-Call.arguments) c.as_slice.ensures.value c.in_ok-call-in-Call.ensures

pub perform-returns-in_ok-perform-in-Then : goal.perform-returns-in_ok-perform-in-Then
unfolding effect_tree
perform-returns-in_ok-perform-in-Then t c =
    on_ok_weaker c.perform-in-Then.result (λ h. arm.then_effect (context_in c.args.context.now) (effect_tree c.args.effect.now) _ _ (drafted c.args.draft.now) _ _ (ap effect_tree c.in-Then.is) (c.in_ok-perform-in-Then.ensures ∙ ap (performed_at (context_in c.args.context.now) (drafted c.args.draft.now)) c.deref-in-Then.ensures) (h ∙ ap (performed_at (context_in c.args.context.now) (drafted c.perform.new.draft)) c.deref-in-Then-2.ensures)) c.perform-in-Then.ensures

pub perform-returns-in_ok-tree-in-Assert : goal.perform-returns-in_ok-tree-in-Assert
unfolding effect_tree
perform-returns-in_ok-tree-in-Assert t c =
    on_ok_weaker c.check.result (arm.assert (context_in c.args.context.now) (effect_tree c.args.effect.now) _ _ c.site-site.result c.int_type.result _ (drafted c.args.draft.now) _ _ (ap effect_tree c.in-Assert.is) c.site-site.ensures (c.int_type.ensures ∙ ap type_at c.deref-in-Assert-2.ensures) (c.in_ok-tree-in-Assert.ensures ∙ ap (value_at (context_in c.args.context.now) (drafted c.args.draft.now)) c.deref-in-Assert.ensures)) c.check.ensures
