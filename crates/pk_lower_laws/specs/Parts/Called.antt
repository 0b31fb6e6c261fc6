-- What holds of each call in a tree: P of the function's number and the call's.
use Rattle.std.specs.Prelude.{ℕ, List, [], ◌∷◌, Option, Some, None}
use Rattle.pk_typed.specs.Trees.{PlaceTree, ValueTree, EffectTree, ValueTrees, DeclaredTree, ForStartTree, StatementTree, ItemTrees}
use Rattle.pk_typed.specs.Trees as tree

abbrev pub OfCalls : Type 1
OfCalls = (f n : ℕ) → Type 0

unfoldable mutual
  pub AtPlace : OfCalls → PlaceTree → Type 0
  AtPlace P (tree.scalar t x) = Unit {0}
  AtPlace P (tree.element t x at i) = AtValue P i

  pub AtValue : OfCalls → ValueTree → Type 0
  AtValue P (tree.constant t z) = Unit {0}
  AtValue P (tree.read p) = AtPlace P p
  AtValue P (tree.assign at p e) = AtPlace P p × AtValue P e
  AtValue P (tree.update op at t p e) = AtPlace P p × AtValue P e
  AtValue P (tree.step op at t p prefix) = AtPlace P p
  AtValue P (tree.call t f n at es) = P f n × AtValues P es
  AtValue P (tree.any t at) = Unit {0}
  AtValue P (tree.unary op at t e) = AtValue P e
  AtValue P (tree.convert t e) = AtValue P e
  AtValue P (tree.binary op at t a b) = AtValue P a × AtValue P b
  AtValue P (tree.and a b) = AtValue P a × AtValue P b
  AtValue P (tree.or a b) = AtValue P a × AtValue P b
  AtValue P (tree.conditional t c a b) = AtValue P c × AtValue P a × AtValue P b
  AtValue P (tree.then_value e v) = AtEffect P e × AtValue P v

  pub AtEffect : OfCalls → EffectTree → Type 0
  AtEffect P (tree.unused v) = AtValue P v
  AtEffect P (tree.run f n at es) = P f n × AtValues P es
  AtEffect P (tree.assume at v) = AtValue P v
  AtEffect P (tree.assert at v) = AtValue P v
  AtEffect P (tree.abort at) = Unit {0}
  AtEffect P (tree.then_effect a b) = AtEffect P a × AtEffect P b

  pub AtValues : OfCalls → ValueTrees → Type 0
  AtValues P tree.no_values = Unit {0}
  AtValues P (tree.value_before e es) = AtValue P e × AtValues P es

abbrev pub AtValueIf : OfCalls → Option ValueTree → Type 0
AtValueIf P None = Unit {0}
AtValueIf P (Some e) = AtValue P e

abbrev pub AtValuesIf : OfCalls → Option ValueTrees → Type 0
AtValuesIf P None = Unit {0}
AtValuesIf P (Some es) = AtValues P es

abbrev pub AtEffectIf : OfCalls → Option EffectTree → Type 0
AtEffectIf P None = Unit {0}
AtEffectIf P (Some e) = AtEffect P e

abbrev pub AtDeclared : OfCalls → DeclaredTree → Type 0
AtDeclared P (tree.scalar_object i at e) = AtValueIf P e
AtDeclared P (tree.array_object i at es) = AtValuesIf P es
AtDeclared P (tree.static_object n at) = Unit {0}
AtDeclared P (tree.hiding_constant x at) = Unit {0}

abbrev pub AtAllDeclared : OfCalls → List DeclaredTree → Type 0
AtAllDeclared P [] = Unit {0}
AtAllDeclared P (x ∷ xs) = AtDeclared P x × AtAllDeclared P xs

abbrev pub AtStart : OfCalls → ForStartTree → Type 0
AtStart P (tree.declarations xs) = AtAllDeclared P xs
AtStart P (tree.expression e) = AtEffectIf P e

unfoldable mutual
  pub AtStatement : OfCalls → StatementTree → Type 0
  AtStatement P (tree.block p is) = AtItems P is
  AtStatement P (tree.empty p) = Unit {0}
  AtStatement P (tree.effect p e) = AtEffect P e
  AtStatement P (tree.label p l s) = AtStatement P s
  AtStatement P (tree.case p i s) = AtStatement P s
  AtStatement P (tree.default p s) = AtStatement P s
  AtStatement P (tree.if_then p e s) = AtValue P e × AtStatement P s
  AtStatement P (tree.if_else p e s r) = AtValue P e × AtStatement P s × AtStatement P r
  AtStatement P (tree.switch p t e zs has_default s) = AtValue P e × AtStatement P s
  AtStatement P (tree.while p e s) = AtValue P e × AtStatement P s
  AtStatement P (tree.do_while p s e) = AtStatement P s × AtValue P e
  AtStatement P (tree.for_loop p start e third s) =
      AtStart P start × AtValueIf P e × AtEffectIf P third × AtStatement P s
  AtStatement P (tree.goto p l) = Unit {0}
  AtStatement P (tree.continue p) = Unit {0}
  AtStatement P (tree.break p) = Unit {0}
  AtStatement P (tree.return p e) = AtValueIf P e

  pub AtItems : OfCalls → ItemTrees → Type 0
  AtItems P tree.no_items = Unit {0}
  AtItems P (tree.declared_before x is) = AtDeclared P x × AtItems P is
  AtItems P (tree.statement_before s is) = AtStatement P s × AtItems P is
