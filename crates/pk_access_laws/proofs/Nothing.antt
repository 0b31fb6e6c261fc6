-- Where no place counts, nothing does.
use Rattle.std.specs.Prelude.{◌≡◌, ℕ, List, [], ◌∷◌, Option, Some, None}
use Rattle.std.proofs.Common.{arith, refl}
use Rattle.pk_typed.specs.Trees.{PlaceTree, ValueTree, EffectTree, ValueTrees, DeclaredTree, ForStartTree, StatementTree, ItemTrees}
use Rattle.pk_typed.specs.Trees as tree
use Rattle.pk_access_laws.specs.Operators.{in_place, in_value, in_effect, in_values, if_some, in_declared, in_all_declared, in_start, in_statement, in_items}
use Rattle.pk_access_laws.specs.Kept.{nothing}

mutual
  unfolding in_place in_value in_effect in_values

  no_place : (p : PlaceTree) → in_place nothing p ≡ 0
  no_place (tree.scalar t x) = refl
  no_place (tree.element t x at i) = omega (arith, no_value i)

  no_value : (e : ValueTree) → in_value nothing e ≡ 0
  no_value (tree.constant t z) = refl
  no_value (tree.read p) = no_place p
  no_value (tree.assign at p e) = omega (arith, no_place p, no_value e)
  no_value (tree.update op at t p e) = omega (arith, no_place p, no_value e)
  no_value (tree.step op at t p prefix) = omega (arith, no_place p)
  no_value (tree.call t f n at es) = no_values es
  no_value (tree.any t at) = refl
  no_value (tree.unary op at t e) = omega (arith, no_value e)
  no_value (tree.convert t e) = no_value e
  no_value (tree.binary op at t a b) = omega (arith, no_value a, no_value b)
  no_value (tree.and a b) = omega (arith, no_value a, no_value b)
  no_value (tree.or a b) = omega (arith, no_value a, no_value b)
  no_value (tree.conditional t c a b) = omega (arith, no_value c, no_value a, no_value b)
  no_value (tree.then_value e v) = omega (arith, no_effect e, no_value v)

  no_effect : (e : EffectTree) → in_effect nothing e ≡ 0
  no_effect (tree.unused v) = no_value v
  no_effect (tree.run f n at es) = no_values es
  no_effect (tree.assume at v) = no_value v
  no_effect (tree.assert at v) = omega (arith, no_value v)
  no_effect (tree.abort at) = refl
  no_effect (tree.then_effect a b) = omega (arith, no_effect a, no_effect b)

  no_values : (es : ValueTrees) → in_values nothing es ≡ 0
  no_values tree.no_values = refl
  no_values (tree.value_before e es) = omega (arith, no_value e, no_values es)

none : {A : Type 0} (f : A → ℕ) → ((x : A) → f x ≡ 0) → (o : Option A) → if_some f o ≡ 0
none f h None = refl
none f h (Some x) = h x

no_declared : (x : DeclaredTree) → in_declared nothing x ≡ 0
no_declared (tree.scalar_object i at e) = none (in_value nothing) no_value e
no_declared (tree.array_object i at es) = none (in_values nothing) no_values es
no_declared (tree.static_object n at) = refl
no_declared (tree.hiding_constant x at) = refl

none_declared : (xs : List DeclaredTree) → in_all_declared nothing xs ≡ 0
none_declared [] = refl
none_declared (x ∷ xs) = omega (arith, no_declared x, none_declared xs)

no_start : (s : ForStartTree) → in_start nothing s ≡ 0
no_start (tree.declarations xs) = none_declared xs
no_start (tree.expression e) = none (in_effect nothing) no_effect e

mutual
  unfolding in_statement in_items

  no_statement : (s : StatementTree) → in_statement nothing s ≡ 0
  no_statement (tree.block p is) = no_items is
  no_statement (tree.empty p) = refl
  no_statement (tree.effect p e) = no_effect e
  no_statement (tree.label p l s) = no_statement s
  no_statement (tree.case p i s) = no_statement s
  no_statement (tree.default p s) = no_statement s
  no_statement (tree.if_then p e s) = omega (arith, no_value e, no_statement s)
  no_statement (tree.if_else p e s r) = omega (arith, no_value e, no_statement s, no_statement r)
  no_statement (tree.switch p t e zs has_default s) = omega (arith, no_value e, no_statement s)
  no_statement (tree.while p e s) = omega (arith, no_value e, no_statement s)
  no_statement (tree.do_while p s e) = omega (arith, no_value e, no_statement s)
  no_statement (tree.for_loop p start e third s) =
      omega (arith, no_start start, none (in_value nothing) no_value e, none (in_effect nothing) no_effect third, no_statement s)
  no_statement (tree.goto p l) = refl
  no_statement (tree.continue p) = refl
  no_statement (tree.break p) = refl
  no_statement (tree.return p e) = none (in_value nothing) no_value e

  pub no_items : (is : ItemTrees) → in_items nothing is ≡ 0
  no_items tree.no_items = refl
  no_items (tree.declared_before x is) = omega (arith, no_declared x, no_items is)
  no_items (tree.statement_before s is) = omega (arith, no_statement s, no_items is)
