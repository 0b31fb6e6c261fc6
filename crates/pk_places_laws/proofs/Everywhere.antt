-- What holds of every place holds of those of a unit.
use Rattle.std.specs.Prelude.{slice_index_or, Option, Some, None, IfSome}
use Rattle.pk_ctypes.specs.declared.places.Pos.{Pos}
use Rattle.pk_typed.specs.Trees.{PlaceTree, ValueTree, EffectTree, ValueTrees, DeclaredTree, ForStartTree, StatementTree, ItemTrees, BodyTree, UnitTree}
use Rattle.pk_typed.specs.Trees as tree
use Rattle.pk_places_laws.specs.Places.{OfPlaces, InPlace, InValue, InEffect, InValues, InDeclared, InStart, InStatement, InItems, InBody, InUnit}

mutual
  unfolding InPlace InValue InEffect InValues

  in_place : (P : OfPlaces) → ((at : Pos) → P at) → (p : PlaceTree) → InPlace P p
  in_place P f (tree.scalar t x) = tt
  in_place P f (tree.element t x at i) = (f at, in_value P f i)

  in_value : (P : OfPlaces) → ((at : Pos) → P at) → (e : ValueTree) → InValue P e
  in_value P f (tree.constant t z) = tt
  in_value P f (tree.read p) = in_place P f p
  in_value P f (tree.assign at p e) = (f at, in_place P f p, in_value P f e)
  in_value P f (tree.update op at t p e) = (f at, in_place P f p, in_value P f e)
  in_value P f (tree.step op at t p prefix) = (f at, in_place P f p)
  in_value P f (tree.call t g n at es) = (f at, in_values P f es)
  in_value P f (tree.any t at) = f at
  in_value P f (tree.unary op at t e) = (f at, in_value P f e)
  in_value P f (tree.convert t e) = in_value P f e
  in_value P f (tree.binary op at t a b) = (f at, in_value P f a, in_value P f b)
  in_value P f (tree.and a b) = (in_value P f a, in_value P f b)
  in_value P f (tree.or a b) = (in_value P f a, in_value P f b)
  in_value P f (tree.conditional t c a b) = (in_value P f c, in_value P f a, in_value P f b)
  in_value P f (tree.then_value e v) = (in_effect P f e, in_value P f v)

  in_effect : (P : OfPlaces) → ((at : Pos) → P at) → (e : EffectTree) → InEffect P e
  in_effect P f (tree.unused v) = in_value P f v
  in_effect P f (tree.run g n at es) = (f at, in_values P f es)
  in_effect P f (tree.assume at v) = (f at, in_value P f v)
  in_effect P f (tree.assert at v) = (f at, in_value P f v)
  in_effect P f (tree.abort at) = f at
  in_effect P f (tree.then_effect a b) = (in_effect P f a, in_effect P f b)

  in_values : (P : OfPlaces) → ((at : Pos) → P at) → (es : ValueTrees) → InValues P es
  in_values P f tree.no_values = tt
  in_values P f (tree.value_before e es) = (in_value P f e, in_values P f es)

-- an option of what holds
pub if_some : {A : Type 0} (Q : A → Type 0) → ((x : A) → Q x) → (o : Option A) → IfSome o Q
if_some Q f None = tt
if_some Q f (Some x) = f x

in_declared : (P : OfPlaces) → ((at : Pos) → P at) → (x : DeclaredTree) → InDeclared P x
in_declared P f (tree.scalar_object i at e) = (f at, if_some (InValue P) (in_value P f) e)
in_declared P f (tree.array_object i at es) = (f at, if_some (InValues P) (in_values P f) es)
in_declared P f (tree.static_object n at) = f at
in_declared P f (tree.hiding_constant x at) = f at

in_start : (P : OfPlaces) → ((at : Pos) → P at) → (s : ForStartTree) → InStart P s
in_start P f (tree.declarations xs) = λ k d l. in_declared P f (slice_index_or xs k d)
in_start P f (tree.expression e) = if_some (InEffect P) (in_effect P f) e

mutual
  unfolding InStatement InItems

  in_statement : (P : OfPlaces) → ((at : Pos) → P at) → (s : StatementTree) → InStatement P s
  in_statement P f (tree.block p is) = (f p, in_items P f is)
  in_statement P f (tree.empty p) = f p
  in_statement P f (tree.effect p e) = (f p, in_effect P f e)
  in_statement P f (tree.label p l s) = (f p, in_statement P f s)
  in_statement P f (tree.case p i s) = (f p, in_statement P f s)
  in_statement P f (tree.default p s) = (f p, in_statement P f s)
  in_statement P f (tree.if_then p e s) = (f p, in_value P f e, in_statement P f s)
  in_statement P f (tree.if_else p e s r) = (f p, in_value P f e, in_statement P f s, in_statement P f r)
  in_statement P f (tree.switch p t e zs b s) = (f p, in_value P f e, in_statement P f s)
  in_statement P f (tree.while p e s) = (f p, in_value P f e, in_statement P f s)
  in_statement P f (tree.do_while p s e) = (f p, in_statement P f s, in_value P f e)
  in_statement P f (tree.for_loop p start e third s) =
      (f p, in_start P f start, if_some (InValue P) (in_value P f) e, if_some (InEffect P) (in_effect P f) third, in_statement P f s)
  in_statement P f (tree.goto p l) = f p
  in_statement P f (tree.continue p) = f p
  in_statement P f (tree.break p) = f p
  in_statement P f (tree.return p e) = (f p, if_some (InValue P) (in_value P f) e)

  in_items : (P : OfPlaces) → ((at : Pos) → P at) → (is : ItemTrees) → InItems P is
  in_items P f tree.no_items = tt
  in_items P f (tree.declared_before x is) = (in_declared P f x, in_items P f is)
  in_items P f (tree.statement_before s is) = (in_statement P f s, in_items P f is)

in_body : (P : OfPlaces) → ((at : Pos) → P at) → (b : BodyTree) → InBody P b
in_body P f b = record { opened = f b.opened; closed = f b.closed; calls = λ k d l. f (slice_index_or b.calls k d).at; items = in_items P f b.items }

pub in_unit : (P : OfPlaces) → ((at : Pos) → P at) → (u : UnitTree) → InUnit P u
in_unit P f u = λ k d l. if_some (InBody P) (in_body P f) (slice_index_or u.functions k d).body
