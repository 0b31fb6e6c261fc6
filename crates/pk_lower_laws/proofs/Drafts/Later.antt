-- What is well typed at a place is so behind more objects.
use Rattle.std.proofs.Common.{◌≤◌, Option, Some, None, arith}
use Rattle.pk_typed.specs.declared.values.Variable.{Variable}
use Rattle.pk_typed.specs.declared.values.Variable.TheVariants.{File, Local}
use Rattle.pk_typed.specs.Trees.{PlaceTree, ValueTree, EffectTree, ValueTrees}
use Rattle.pk_typed.specs.Trees as tree
use Rattle.pk_welltyped.specs.WellTyped.{IsObject, IsPlace, IsValue, IsEffect, AreValues, IsEffectIf}
use Rattle.pk_lower_laws.proofs.Drafts.Places.{Place, Stage}
use Rattle.pk_lower_laws.proofs.Drafts.Expressions.{around}
use Rattle.pk_graph.specs.Kinds.{Kind, scalar_kind, array_kind}

object_later : (w : Place) (s k : Stage) → s.objects ≤ k.objects → (q : Kind) (x : Variable) → IsObject (around w s) q x → IsObject (around w k) q x
object_later w s k l q (File i) h = h
object_later w s k l q (Local i) h = (omega (h.0, l, arith), h.1)

mutual
  unfolding IsPlace IsValue IsEffect AreValues

  place_later : (w : Place) (s k : Stage) → s.objects ≤ k.objects → (p : PlaceTree) → IsPlace (around w s) p → IsPlace (around w k) p
  place_later w s k l (tree.scalar t x) h = object_later w s k l (scalar_kind t) x h
  place_later w s k l (tree.element t x o i) h = ((h.0.0, object_later w s k l (array_kind t h.0.0) x h.0.1), value_later w s k l i h.1)

  pub value_later : (w : Place) (s k : Stage) → s.objects ≤ k.objects → (v : ValueTree) → IsValue (around w s) v → IsValue (around w k) v
  value_later w s k l (tree.constant t z) h = h
  value_later w s k l (tree.read p) h = place_later w s k l p h
  value_later w s k l (tree.assign o p e) h = (place_later w s k l p h.0, value_later w s k l e h.1)
  value_later w s k l (tree.update op o t p e) h = (h.0, place_later w s k l p h.1, value_later w s k l e h.2)
  value_later w s k l (tree.step op o t p prefix) h = (h.0, place_later w s k l p h.1)
  value_later w s k l (tree.call t f n o es) h = (h.0, values_later w s k l es h.1)
  value_later w s k l (tree.any t o) h = tt
  value_later w s k l (tree.unary op o t e) h = (h.0, value_later w s k l e h.1)
  value_later w s k l (tree.convert t e) h = value_later w s k l e h
  value_later w s k l (tree.binary op o t a b) h = (h.0, value_later w s k l a h.1, value_later w s k l b h.2)
  value_later w s k l (tree.and a b) h = (value_later w s k l a h.0, value_later w s k l b h.1)
  value_later w s k l (tree.or a b) h = (value_later w s k l a h.0, value_later w s k l b h.1)
  value_later w s k l (tree.conditional t c a b) h = (value_later w s k l c h.0, value_later w s k l a h.1, value_later w s k l b h.2)
  value_later w s k l (tree.then_value e v) h = (effect_later w s k l e h.0, value_later w s k l v h.1)

  pub effect_later : (w : Place) (s k : Stage) → s.objects ≤ k.objects → (e : EffectTree) → IsEffect (around w s) e → IsEffect (around w k) e
  effect_later w s k l (tree.unused v) h = value_later w s k l v h
  effect_later w s k l (tree.run f n o es) h = (h.0, values_later w s k l es h.1)
  effect_later w s k l (tree.assume o v) h = value_later w s k l v h
  effect_later w s k l (tree.assert o v) h = value_later w s k l v h
  effect_later w s k l (tree.abort o) h = tt
  effect_later w s k l (tree.then_effect a b) h = (effect_later w s k l a h.0, effect_later w s k l b h.1)

  values_later : (w : Place) (s k : Stage) → s.objects ≤ k.objects → (es : ValueTrees) → AreValues (around w s) es → AreValues (around w k) es
  values_later w s k l tree.no_values h = tt
  values_later w s k l (tree.value_before e es) h = (value_later w s k l e h.0, values_later w s k l es h.1)

pub effect_if_later : (w : Place) (s k : Stage) → s.objects ≤ k.objects → (e : Option EffectTree) → IsEffectIf (around w s) e → IsEffectIf (around w k) e
effect_if_later w s k l None h = tt
effect_if_later w s k l (Some e) h = effect_later w s k l e h
