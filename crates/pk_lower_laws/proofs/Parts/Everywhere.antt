-- What holds of each call has consequences for each call.
use Rattle.std.proofs.Common.{ℕ, List, [], ◌∷◌}
use Rattle.std.specs.Prelude.{Option, Some, None}
use Rattle.pk_typed.specs.Trees.{PlaceTree, ValueTree, EffectTree, ValueTrees, DeclaredTree, ForStartTree, StatementTree, ItemTrees}
use Rattle.pk_typed.specs.Trees as tree
use Rattle.pk_lower_laws.specs.Parts.Called.{OfCalls, AtPlace, AtValue, AtEffect, AtValues, AtValueIf, AtValuesIf, AtEffectIf, AtDeclared, AtAllDeclared, AtStart, AtStatement, AtItems}

mutual
  unfolding AtPlace AtValue AtEffect AtValues

  at_place : (P Q : OfCalls) → ((f n : ℕ) → P f n → Q f n) → (r : PlaceTree) → AtPlace P r → AtPlace Q r
  at_place P Q m (tree.scalar t x) h = tt
  at_place P Q m (tree.element t x o i) h = at_value P Q m i h

  at_value : (P Q : OfCalls) → ((f n : ℕ) → P f n → Q f n) → (v : ValueTree) → AtValue P v → AtValue Q v
  at_value P Q m (tree.constant t z) h = tt
  at_value P Q m (tree.read r) h = at_place P Q m r h
  at_value P Q m (tree.assign o r a) h = (at_place P Q m r h.0, at_value P Q m a h.1)
  at_value P Q m (tree.update op o t r a) h = (at_place P Q m r h.0, at_value P Q m a h.1)
  at_value P Q m (tree.step op o t r prefix) h = at_place P Q m r h
  at_value P Q m (tree.call t f n o xs) h = (m f n h.0, at_values P Q m xs h.1)
  at_value P Q m (tree.any t o) h = tt
  at_value P Q m (tree.unary op o t a) h = at_value P Q m a h
  at_value P Q m (tree.convert t a) h = at_value P Q m a h
  at_value P Q m (tree.binary op o t a b) h = (at_value P Q m a h.0, at_value P Q m b h.1)
  at_value P Q m (tree.and a b) h = (at_value P Q m a h.0, at_value P Q m b h.1)
  at_value P Q m (tree.or a b) h = (at_value P Q m a h.0, at_value P Q m b h.1)
  at_value P Q m (tree.conditional t w a b) h = (at_value P Q m w h.0, at_value P Q m a h.1, at_value P Q m b h.2)
  at_value P Q m (tree.then_value f v) h = (at_effect P Q m f h.0, at_value P Q m v h.1)

  at_effect : (P Q : OfCalls) → ((f n : ℕ) → P f n → Q f n) → (e : EffectTree) → AtEffect P e → AtEffect Q e
  at_effect P Q m (tree.unused v) h = at_value P Q m v h
  at_effect P Q m (tree.run f n o xs) h = (m f n h.0, at_values P Q m xs h.1)
  at_effect P Q m (tree.assume o v) h = at_value P Q m v h
  at_effect P Q m (tree.assert o v) h = at_value P Q m v h
  at_effect P Q m (tree.abort o) h = tt
  at_effect P Q m (tree.then_effect a b) h = (at_effect P Q m a h.0, at_effect P Q m b h.1)

  at_values : (P Q : OfCalls) → ((f n : ℕ) → P f n → Q f n) → (xs : ValueTrees) → AtValues P xs → AtValues Q xs
  at_values P Q m tree.no_values h = tt
  at_values P Q m (tree.value_before a xs) h = (at_value P Q m a h.0, at_values P Q m xs h.1)

value_if : (P Q : OfCalls) → ((f n : ℕ) → P f n → Q f n) → (a : Option ValueTree) → AtValueIf P a → AtValueIf Q a
value_if P Q m None h = tt
value_if P Q m (Some a) h = at_value P Q m a h

effect_if : (P Q : OfCalls) → ((f n : ℕ) → P f n → Q f n) → (a : Option EffectTree) → AtEffectIf P a → AtEffectIf Q a
effect_if P Q m None h = tt
effect_if P Q m (Some a) h = at_effect P Q m a h

values_if : (P Q : OfCalls) → ((f n : ℕ) → P f n → Q f n) → (a : Option ValueTrees) → AtValuesIf P a → AtValuesIf Q a
values_if P Q m None h = tt
values_if P Q m (Some a) h = at_values P Q m a h

at_declared : (P Q : OfCalls) → ((f n : ℕ) → P f n → Q f n) → (x : DeclaredTree) → AtDeclared P x → AtDeclared Q x
at_declared P Q m (tree.scalar_object i o a) h = value_if P Q m a h
at_declared P Q m (tree.array_object i o es) h = values_if P Q m es h
at_declared P Q m (tree.static_object i o) h = tt
at_declared P Q m (tree.hiding_constant x o) h = tt

all_declared : (P Q : OfCalls) → ((f n : ℕ) → P f n → Q f n) → (xs : List DeclaredTree) → AtAllDeclared P xs → AtAllDeclared Q xs
all_declared P Q m [] h = tt
all_declared P Q m (x ∷ xs) h = (at_declared P Q m x h.0, all_declared P Q m xs h.1)

at_start : (P Q : OfCalls) → ((f n : ℕ) → P f n → Q f n) → (x : ForStartTree) → AtStart P x → AtStart Q x
at_start P Q m (tree.declarations xs) h = all_declared P Q m xs h
at_start P Q m (tree.expression e) h = effect_if P Q m e h

mutual
  unfolding AtStatement AtItems

  at_statement : (P Q : OfCalls) → ((f n : ℕ) → P f n → Q f n) → (s : StatementTree) → AtStatement P s → AtStatement Q s
  at_statement P Q m (tree.block o is) h = at_items P Q m is h
  at_statement P Q m (tree.empty o) h = tt
  at_statement P Q m (tree.effect o e) h = at_effect P Q m e h
  at_statement P Q m (tree.label o l s) h = at_statement P Q m s h
  at_statement P Q m (tree.case o i s) h = at_statement P Q m s h
  at_statement P Q m (tree.default o s) h = at_statement P Q m s h
  at_statement P Q m (tree.if_then o e s) h = (at_value P Q m e h.0, at_statement P Q m s h.1)
  at_statement P Q m (tree.if_else o e s r) h = (at_value P Q m e h.0, at_statement P Q m s h.1, at_statement P Q m r h.2)
  at_statement P Q m (tree.switch o t e zs b s) h = (at_value P Q m e h.0, at_statement P Q m s h.1)
  at_statement P Q m (tree.while o e s) h = (at_value P Q m e h.0, at_statement P Q m s h.1)
  at_statement P Q m (tree.do_while o s e) h = (at_statement P Q m s h.0, at_value P Q m e h.1)
  at_statement P Q m (tree.for_loop o start e third s) h = (at_start P Q m start h.0, value_if P Q m e h.1, effect_if P Q m third h.2, at_statement P Q m s h.3)
  at_statement P Q m (tree.goto o l) h = tt
  at_statement P Q m (tree.continue o) h = tt
  at_statement P Q m (tree.break o) h = tt
  at_statement P Q m (tree.return o e) h = value_if P Q m e h

  pub at_items : (P Q : OfCalls) → ((f n : ℕ) → P f n → Q f n) → (is : ItemTrees) → AtItems P is → AtItems Q is
  at_items P Q m tree.no_items h = tt
  at_items P Q m (tree.declared_before x is) h = (at_declared P Q m x h.0, at_items P Q m is h.1)
  at_items P Q m (tree.statement_before s is) h = (at_statement P Q m s h.0, at_items P Q m is h.1)
