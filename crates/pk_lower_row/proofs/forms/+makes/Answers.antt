-- Each form by what its parts are.
use Rattle.std.proofs.Common.{ap, sym, ◌∙◌, Bool, not}
use Rattle.std.specs.Prelude.{◌||◌}
use Rattle.pk_typed.specs.declared.values.Value.{Value}
use Rattle.pk_typed.specs.declared.values.Effect.{Effect}
use Rattle.pk_typed.specs.Views.{value_tree, effect_tree}
use Rattle.pk_lower_row.specs.Shapes as shapes
use Rattle.pk_lower_row.proofs.forms.+makes.Goals as goal

abbrev value : Value → Bool
value v = shapes.makes (value_tree v)

abbrev effect : Effect → Bool
effect e = shapes.makes_effect (effect_tree e)

pub makes-returns-in-Constant : goal.makes-returns-in-Constant
unfolding value_tree effect_tree
makes-returns-in-Constant t c = sym (ap value c.in-Constant.is)

pub makes-returns-in-Assign : goal.makes-returns-in-Assign
unfolding value_tree effect_tree
makes-returns-in-Assign t c = sym (ap value c.in-Assign.is)

pub makes-returns-in-Update : goal.makes-returns-in-Update
unfolding value_tree effect_tree
makes-returns-in-Update t c = sym (ap value c.in-Update.is)

pub makes-returns-in-Step : goal.makes-returns-in-Step
unfolding value_tree effect_tree
makes-returns-in-Step t c = sym (ap value c.in-Step.is)

pub makes-returns-in-Call : goal.makes-returns-in-Call
unfolding value_tree effect_tree
makes-returns-in-Call t c = sym (ap value c.in-Call.is)

pub makes-returns-in-Any : goal.makes-returns-in-Any
unfolding value_tree effect_tree
makes-returns-in-Any t c = sym (ap value c.in-Any.is)

pub makes-returns-in-And : goal.makes-returns-in-And
unfolding value_tree effect_tree
makes-returns-in-And t c = sym (ap value c.in-And.is)

pub makes-returns-in-Or : goal.makes-returns-in-Or
unfolding value_tree effect_tree
makes-returns-in-Or t c = sym (ap value c.in-Or.is)

pub makes-returns-in-Conditional : goal.makes-returns-in-Conditional
unfolding value_tree effect_tree
makes-returns-in-Conditional t c = sym (ap value c.in-Conditional.is)

pub makes-returns-in-Read : goal.makes-returns-in-Read
unfolding value_tree effect_tree
makes-returns-in-Read t c = c.makes_at_place.ensures ∙ sym (ap value c.in-Read.is)

pub makes-returns-in-Unary : goal.makes-returns-in-Unary
unfolding value_tree effect_tree
makes-returns-in-Unary t c = c.makes.ensures ∙ (ap value c.deref.ensures ∙ sym (ap value c.in-Unary.is))

pub makes-returns-in-Convert : goal.makes-returns-in-Convert
unfolding value_tree effect_tree
makes-returns-in-Convert t c = c.makes-in-Convert.ensures ∙ (ap value c.deref-in-Convert.ensures ∙ sym (ap value c.in-Convert.is))

pub makes-returns-in-Binary : goal.makes-returns-in-Binary
unfolding value_tree effect_tree
makes-returns-in-Binary t c = c.or.ensures ∙ (ap (λ (x : Bool). x || c.makes-in-Binary-2.result) (c.makes-in-Binary.ensures ∙ ap value c.deref-in-Binary.ensures) ∙ (ap (λ (x : Bool). value c.in-Binary.left.value || x) (c.makes-in-Binary-2.ensures ∙ ap value c.deref-in-Binary-2.ensures) ∙ sym (ap value c.in-Binary.is)))

pub makes-returns-in-Then : goal.makes-returns-in-Then
unfolding value_tree effect_tree
makes-returns-in-Then t c = c.or-in-Then.ensures ∙ (ap (λ (x : Bool). x || c.makes-in-Then.result) (c.makes_effect.ensures ∙ ap effect c.deref-in-Then.ensures) ∙ (ap (λ (x : Bool). effect c.in-Then.first.value || x) (c.makes-in-Then.ensures ∙ ap value c.deref-in-Then-2.ensures) ∙ sym (ap value c.in-Then.is)))

pub makes_effect-returns-in-Call : goal.makes_effect-returns-in-Call
unfolding value_tree effect_tree
makes_effect-returns-in-Call t c = sym (ap effect c.in-Call.is)

pub makes_effect-returns-in-Assume : goal.makes_effect-returns-in-Assume
unfolding value_tree effect_tree
makes_effect-returns-in-Assume t c = sym (ap effect c.in-Assume.is)

pub makes_effect-returns-in-Assert : goal.makes_effect-returns-in-Assert
unfolding value_tree effect_tree
makes_effect-returns-in-Assert t c = sym (ap effect c.in-Assert.is)

pub makes_effect-returns-in-Abort : goal.makes_effect-returns-in-Abort
unfolding value_tree effect_tree
makes_effect-returns-in-Abort t c = sym (ap effect c.in-Abort.is)

pub makes_effect-returns-in-Then : goal.makes_effect-returns-in-Then
unfolding value_tree effect_tree
makes_effect-returns-in-Then t c = c.or-in-Then.ensures ∙ (ap (λ (x : Bool). x || c.makes_effect-in-Then.result) (c.makes_effect.ensures ∙ ap effect c.deref.ensures) ∙ (ap (λ (x : Bool). effect c.in-Then.first.value || x) (c.makes_effect-in-Then.ensures ∙ ap effect c.deref-in-Then.ensures) ∙ sym (ap effect c.in-Then.is)))

pub makes_effect-returns-in-Unused : goal.makes_effect-returns-in-Unused
unfolding value_tree effect_tree
makes_effect-returns-in-Unused t c = c.or.ensures ∙ (ap (λ (x : Bool). x || not c.is_plain.result) c.makes.ensures ∙ (ap (λ (x : Bool). value c.in-Unused.value || not x) (c.is_plain.ensures ∙ ap shapes.is_plain c.shape_of.ensures) ∙ sym (ap effect c.in-Unused.is)))
