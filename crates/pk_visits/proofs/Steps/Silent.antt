-- An expression that makes no edge leaves the draft as it is.
use Rattle.std.proofs.Common.{◌≡◌, Bool, true, false, ◌||◌, not, refl, ◌∙◌, arith}
use Rattle.pk_ctypes.specs.declared.types.IntType.{IntType}
use Rattle.pk_ctypes.specs.Operators.{result_type}
use Rattle.pk_typed.specs.Trees.{ValueTree, EffectTree}
use Rattle.pk_typed.specs.Trees as tree
use Rattle.pk_typed.specs.Types.{type_of}
use Rattle.pk_draft.specs.Drafts.{Given}
use Rattle.pk_lower_row.specs.Shapes.{shape_of, unary_shape, converted_shape, operated_shape, is_plain, makes, makes_effect, strong_if}
use Rattle.pk_lower_row.specs.Contexts.{Context, site}
use Rattle.pk_lower_row.specs.Rows as rows
use Rattle.pk_lower_row.specs.Rows.{Operand, two, stored_unless}
use Rattle.pk_lower_expression.specs.Expressions.{target, ways, performed}
use Rattle.pk_visits.proofs.Slots.{Slot, Draft}
use Rattle.pk_visits.proofs.Grows.Expressions.{lowered}

pub left_false : (a b : Bool) → (a || b) ≡ false → a ≡ false
left_false true b h = h
left_false false b h = refl

pub right_false : (a b : Bool) → (a || b) ≡ false → b ≡ false
right_false true b h = absurd (grind (arith, h))
right_false false b h = h

not_false : (b : Bool) → not b ≡ false → b ≡ true
not_false true h = refl
not_false false h = absurd (grind (arith, h))

two_same : (m : Bool) (a b : Operand Slot) (d : Draft) → m ≡ false → (a.ways.value d).1 ≡ d → ((e : Draft) → e ≡ d → (b.ways.value e).1 ≡ d) → (two (strong_if m) a b d).draft ≡ d
two_same true a b d h e f = absurd (grind (arith, h))
two_same false a b d h e f = f (a.ways.value d).1 e

dropped_same : (b : Bool) (t : IntType) (r : Given Slot) (d : Draft) → b ≡ true → r.1 ≡ d → (stored_unless b t r).1 ≡ d
dropped_same true t r d h e = e
dropped_same false t r d h e = absurd (grind (arith, h))

mutual
  unfolding target ways performed

  pub silent : (c : Context) (e : ValueTree) (d : Draft) → makes e ≡ false → ((ways c e).value d).1 ≡ d
  silent c (tree.constant t z) d h = refl
  silent c (tree.read (tree.scalar t x)) d h = refl
  silent c (tree.read (tree.element t x at i)) d h = absurd (grind (arith, h))
  silent c (tree.assign at r e) d h = absurd (grind (arith, h))
  silent c (tree.update op at o r e) d h = absurd (grind (arith, h))
  silent c (tree.step op at o r prefix) d h = absurd (grind (arith, h))
  silent c (tree.call t f n at es) d h = absurd (grind (arith, h))
  silent c (tree.any t at) d h = absurd (grind (arith, h))
  silent c (tree.unary op at t e) d h = silent c e d h
  silent c (tree.convert t e) d h = silent c e d h
  silent c (tree.binary op at t a b) d h =
      two_same (makes b) (lowered c a) (lowered c b) d (right_false (makes a) (makes b) h) (silent c a d (left_false (makes a) (makes b) h))
      (λ e same. silent c b e (right_false (makes a) (makes b) h) ∙ same)
  silent c (tree.and a b) d h = absurd (grind (arith, h))
  silent c (tree.or a b) d h = absurd (grind (arith, h))
  silent c (tree.conditional t e a b) d h = absurd (grind (arith, h))
  silent c (tree.then_value f v) d h =
      silent c v (performed c f d) (right_false (makes_effect f) (makes v) h) ∙ silent_effect c f d (left_false (makes_effect f) (makes v) h)

  pub silent_effect : (c : Context) (f : EffectTree) (d : Draft) → makes_effect f ≡ false → performed c f d ≡ d
  silent_effect c (tree.unused v) d h =
      silent_unused c v d (left_false (makes v) (not (is_plain (shape_of v))) h) (not_false (is_plain (shape_of v)) (right_false (makes v) (not (is_plain (shape_of v))) h))
  silent_effect c (tree.run f n at es) d h = absurd (grind (arith, h))
  silent_effect c (tree.assume at v) d h = absurd (grind (arith, h))
  silent_effect c (tree.assert at v) d h = absurd (grind (arith, h))
  silent_effect c (tree.abort at) d h = absurd (grind (arith, h))
  silent_effect c (tree.then_effect a b) d h =
      silent_effect c b (performed c a d) (right_false (makes_effect a) (makes_effect b) h) ∙ silent_effect c a d (left_false (makes_effect a) (makes_effect b) h)

  -- a plain tree is dropped
  pub silent_unused : (c : Context) (v : ValueTree) (d : Draft) → makes v ≡ false → is_plain (shape_of v) ≡ true → (ways c v).unused d ≡ d
  silent_unused c (tree.constant t z) d h k = refl
  silent_unused c (tree.read (tree.scalar t x)) d h k = refl
  silent_unused c (tree.read (tree.element t x at i)) d h k = absurd (grind (arith, h))
  silent_unused c (tree.assign at r e) d h k = absurd (grind (arith, h))
  silent_unused c (tree.update op at o r e) d h k = absurd (grind (arith, h))
  silent_unused c (tree.step op at o r prefix) d h k = absurd (grind (arith, h))
  silent_unused c (tree.call t f n at es) d h k = absurd (grind (arith, h))
  silent_unused c (tree.any t at) d h k = absurd (grind (arith, h))
  silent_unused c (tree.unary op at t e) d h k =
      dropped_same (is_plain (unary_shape op t (converted_shape (type_of e) t (shape_of e)))) (result_type op t) (rows.unary_value op (site c at) t (lowered c e) d) d k (silent c e d h)
  silent_unused c (tree.convert t e) d h k =
      dropped_same (is_plain (converted_shape (type_of e) t (shape_of e))) t (rows.convert_value t (lowered c e) d) d k (silent c e d h)
  silent_unused c (tree.binary op at t a b) d h k =
      dropped_same (is_plain (operated_shape op t (type_of a) (type_of b) (shape_of a) (shape_of b))) (result_type op t) (rows.binary_value op (site c at) t (lowered c a) (lowered c b) d) d k
      (two_same (makes b) (lowered c a) (lowered c b) d (right_false (makes a) (makes b) h) (silent c a d (left_false (makes a) (makes b) h))
      (λ e same. silent c b e (right_false (makes a) (makes b) h) ∙ same))
  silent_unused c (tree.and a b) d h k = absurd (grind (arith, h))
  silent_unused c (tree.or a b) d h k = absurd (grind (arith, h))
  silent_unused c (tree.conditional t e a b) d h k = absurd (grind (arith, h))
  silent_unused c (tree.then_value f v) d h k =
      silent_unused c v (performed c f d) (right_false (makes_effect f) (makes v) h) k ∙ silent_effect c f d (left_false (makes_effect f) (makes v) h)
