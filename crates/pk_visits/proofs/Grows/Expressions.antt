-- Expressions add to a draft: edges, variables, points with the label that is at hand, and the regions of the paths that are called.
use Rattle.std.proofs.Common.{ℕ, List, [], ◌∷◌, ◌++◌}
use Rattle.pk_ctypes.specs.declared.types.IntType.TheVariants.{Int}
use Rattle.pk_ctypes.specs.Types.{represents}
use Rattle.pk_typed.specs.Trees.{PlaceTree, ValueTree, EffectTree, ValueTrees}
use Rattle.pk_typed.specs.Trees as tree
use Rattle.pk_typed.specs.Types.{type_of}
use Rattle.pk_welltyped.specs.Listed.{Numbered, calls_at_place, calls_in, calls_in_effect, calls_in_values}
use Rattle.pk_draft.specs.declared.drafts.Size.{Size}
use Rattle.pk_lower_row.specs.declared.shapes.Shape.TheVariants.{Fixed, Named}
use Rattle.pk_lower_row.specs.Shapes.{any_makes}
use Rattle.pk_lower_row.specs.Contexts.{Context, site, callee, size_in, parameters_of}
use Rattle.pk_lower_row.specs.Rows.{Operand, operand, convert_ways, types_of, and_choice, or_choice}
use Rattle.pk_lower_expression.specs.Expressions.{target, ways, performed, passed}
use Rattle.pk_visits.proofs.Slots.{Slot}
use Rattle.pk_visits.proofs.Grows.Rows.{WaysGrow, TargetGrows, PassGrows, Makes, grows_trans, grows_refl, emit_grows, valuing, reading, assigning, updating, stepping, havocking, converting, unary_grows, binary_grows, and_grows, or_grows, deciding, conditional_grows, then_grows, assuming, calling, passing, either_way, zero_grows}

-- C holds of the paths that calls lead to and of their sizes
abbrev pub AllCalled : (C : ℕ → Size → Type 0) → Context → List Numbered → Type 0
AllCalled C c [] = Unit {0}
AllCalled C c (x ∷ xs) = C (callee c x.number) (size_in c.sizes x.call.function) × AllCalled C c xs

pub front_called : (C : ℕ → Size → Type 0) (c : Context) (xs ys : List Numbered) → AllCalled C c (xs ++ ys) → AllCalled C c xs
front_called C c [] ys h = tt
front_called C c (x ∷ xs) ys h = (h.0, front_called C c xs ys h.1)

pub back_called : (C : ℕ → Size → Type 0) (c : Context) (xs ys : List Numbered) → AllCalled C c (xs ++ ys) → AllCalled C c ys
back_called C c [] ys h = h
back_called C c (x ∷ xs) ys h = back_called C c xs ys h.1

abbrev pub lowered : Context → ValueTree → Operand Slot
lowered c e = operand e (ways c e)

mutual
  unfolding target ways performed passed calls_at_place calls_in calls_in_effect calls_in_values

  pub targets : (C : ℕ → Size → Type 0) (c : Context) (r : PlaceTree) → AllCalled C c (calls_at_place r) → TargetGrows C (target c r)
  targets C c (tree.scalar t x) h = tt
  targets C c (tree.element t x at i) h = values C c i h

  pub values : (C : ℕ → Size → Type 0) (c : Context) (e : ValueTree) → AllCalled C c (calls_in e) → WaysGrow C (ways c e)
  values C c (tree.constant t z) h = valuing C (Fixed z) t _ (grows_refl C)
  values C c (tree.read r) h = reading C (target c r) (targets C c r h)
  values C c (tree.assign at r e) h =
      assigning C (target c r) (lowered c e) (targets C c r (front_called C c (calls_at_place r) (calls_in e) h)) (values C c e (back_called C c (calls_at_place r) (calls_in e) h))
  values C c (tree.update op at o r e) h =
      updating C op (site c at) o (target c r) (lowered c e) (targets C c r (front_called C c (calls_at_place r) (calls_in e) h)) (values C c e (back_called C c (calls_at_place r) (calls_in e) h))
  values C c (tree.step op at o r prefix) h = stepping C op (site c at) o (target c r) prefix (targets C c r h)
  values C c (tree.call t f n at es) h =
      valuing C Named t _ (calling C (callee c n) (size_in c.sizes f) (parameters_of c.unit f) (types_of es) (passed c es) h.0 (arguments C c es h.1))
  values C c (tree.any t at) h = havocking C t
  values C c (tree.unary op at t e) h = unary_grows C op (site c at) t (lowered c e) (values C c e h)
  values C c (tree.convert t e) h = converting C t (lowered c e) (values C c e h)
  values C c (tree.binary op at t a b) h =
      binary_grows C op (site c at) t (lowered c a) (lowered c b) (values C c a (front_called C c (calls_in a) (calls_in b) h)) (values C c b (back_called C c (calls_in a) (calls_in b) h))
  values C c (tree.and a b) h =
      deciding C (and_choice (ways c a) (ways c b)) (and_grows C (ways c a) (ways c b) (values C c a (front_called C c (calls_in a) (calls_in b) h)) (values C c b (back_called C c (calls_in a) (calls_in b) h)))
  values C c (tree.or a b) h =
      deciding C (or_choice (ways c a) (ways c b)) (or_grows C (ways c a) (ways c b) (values C c a (front_called C c (calls_in a) (calls_in b) h)) (values C c b (back_called C c (calls_in a) (calls_in b) h)))
  values C c (tree.conditional t e a b) h =
      let k = front_called C c (calls_in e ++ calls_in a) (calls_in b) h in
      conditional_grows C t (ways c e) (lowered c a) (lowered c b) (values C c e (front_called C c (calls_in e) (calls_in a) k)) (values C c a (back_called C c (calls_in e) (calls_in a) k))
      (values C c b (back_called C c (calls_in e ++ calls_in a) (calls_in b) h))
  values C c (tree.then_value f v) h =
      then_grows C (performed c f) (ways c v) (effects C c f (front_called C c (calls_in_effect f) (calls_in v) h)) (values C c v (back_called C c (calls_in_effect f) (calls_in v) h))

  pub effects : (C : ℕ → Size → Type 0) (c : Context) (f : EffectTree) → AllCalled C c (calls_in_effect f) → Makes C (performed c f)
  effects C c (tree.unused v) h = (values C c v h).unused
  effects C c (tree.run f n at es) h = calling C (callee c n) (size_in c.sizes f) (parameters_of c.unit f) (types_of es) (passed c es) h.0 (arguments C c es h.1)
  effects C c (tree.assume at v) h =
      assuming C _ (either_way C (represents Int (type_of v)) (ways c v) (convert_ways Int (lowered c v)) (values C c v h) (converting C Int (lowered c v) (values C c v h)))
  effects C c (tree.assert at v) h = λ d. grows_trans ((values C c v h).value d) (emit_grows C _ ((ways c v).value d).1)
  effects C c (tree.abort at) h = assuming C _ (zero_grows C)
  effects C c (tree.then_effect a b) h = λ d.
      grows_trans (effects C c a (front_called C c (calls_in_effect a) (calls_in_effect b) h) d)
      (effects C c b (back_called C c (calls_in_effect a) (calls_in_effect b) h) (performed c a d))

  pub arguments : (C : ℕ → Size → Type 0) (c : Context) (es : ValueTrees) → AllCalled C c (calls_in_values es) → PassGrows C (passed c es)
  arguments C c tree.no_values h = grows_refl C
  arguments C c (tree.value_before e es) h =
      passing C (any_makes es) (lowered c e) (passed c es) (values C c e (front_called C c (calls_in e) (calls_in_values es) h)) (arguments C c es (back_called C c (calls_in e) (calls_in_values es) h))
