-- What holds of each place: P of those of a typed unit, and of those of a graph.
use Rattle.std.specs.Prelude.{All, IfSome}
use Rattle.pk_ctypes.specs.declared.places.Pos.{Pos}
use Rattle.pk_typed.specs.declared.units.CallSite.{CallSite}
use Rattle.pk_typed.specs.Trees.{PlaceTree, ValueTree, EffectTree, ValueTrees, DeclaredTree, ForStartTree, StatementTree, ItemTrees, BodyTree, FunctionTree, UnitTree}
use Rattle.pk_typed.specs.Trees as tree
use Rattle.pk_graph.specs.declared.trees.Site.{Site}
use Rattle.pk_graph.specs.Accesses.{AccessOf, accesses_of}
use Rattle.pk_graph.specs.Graphs.{PathOf, PointOf, GraphOf}

abbrev pub OfPlaces : Type 1
OfPlaces = Pos → Type 0

-- ---- typed trees

unfoldable mutual
  pub InPlace : OfPlaces → PlaceTree → Type 0
  InPlace P (tree.scalar t x) = Unit {0}
  InPlace P (tree.element t x at i) = P at × InValue P i

  pub InValue : OfPlaces → ValueTree → Type 0
  InValue P (tree.constant t z) = Unit {0}
  InValue P (tree.read p) = InPlace P p
  InValue P (tree.assign at p e) = P at × InPlace P p × InValue P e
  InValue P (tree.update op at t p e) = P at × InPlace P p × InValue P e
  InValue P (tree.step op at t p prefix) = P at × InPlace P p
  InValue P (tree.call t f n at es) = P at × InValues P es
  InValue P (tree.any t at) = P at
  InValue P (tree.unary op at t e) = P at × InValue P e
  InValue P (tree.convert t e) = InValue P e
  InValue P (tree.binary op at t a b) = P at × InValue P a × InValue P b
  InValue P (tree.and a b) = InValue P a × InValue P b
  InValue P (tree.or a b) = InValue P a × InValue P b
  InValue P (tree.conditional t c a b) = InValue P c × InValue P a × InValue P b
  InValue P (tree.then_value e v) = InEffect P e × InValue P v

  pub InEffect : OfPlaces → EffectTree → Type 0
  InEffect P (tree.unused v) = InValue P v
  InEffect P (tree.run f n at es) = P at × InValues P es
  InEffect P (tree.assume at v) = P at × InValue P v
  InEffect P (tree.assert at v) = P at × InValue P v
  InEffect P (tree.abort at) = P at
  InEffect P (tree.then_effect a b) = InEffect P a × InEffect P b

  pub InValues : OfPlaces → ValueTrees → Type 0
  InValues P tree.no_values = Unit {0}
  InValues P (tree.value_before e es) = InValue P e × InValues P es

abbrev pub InDeclared : OfPlaces → DeclaredTree → Type 0
InDeclared P (tree.scalar_object i at e) = P at × IfSome e (InValue P)
InDeclared P (tree.array_object i at es) = P at × IfSome es (InValues P)
InDeclared P (tree.static_object n at) = P at
InDeclared P (tree.hiding_constant x at) = P at

abbrev pub InStart : OfPlaces → ForStartTree → Type 0
InStart P (tree.declarations xs) = All (InDeclared P) xs
InStart P (tree.expression e) = IfSome e (InEffect P)

unfoldable mutual
  pub InStatement : OfPlaces → StatementTree → Type 0
  InStatement P (tree.block p is) = P p × InItems P is
  InStatement P (tree.empty p) = P p
  InStatement P (tree.effect p e) = P p × InEffect P e
  InStatement P (tree.label p l s) = P p × InStatement P s
  InStatement P (tree.case p i s) = P p × InStatement P s
  InStatement P (tree.default p s) = P p × InStatement P s
  InStatement P (tree.if_then p e s) = P p × InValue P e × InStatement P s
  InStatement P (tree.if_else p e s r) = P p × InValue P e × InStatement P s × InStatement P r
  InStatement P (tree.switch p t e zs has_default s) = P p × InValue P e × InStatement P s
  InStatement P (tree.while p e s) = P p × InValue P e × InStatement P s
  InStatement P (tree.do_while p s e) = P p × InStatement P s × InValue P e
  InStatement P (tree.for_loop p start e third s) =
      P p × InStart P start × IfSome e (InValue P) × IfSome third (InEffect P) × InStatement P s
  InStatement P (tree.goto p l) = P p
  InStatement P (tree.continue p) = P p
  InStatement P (tree.break p) = P p
  InStatement P (tree.return p e) = P p × IfSome e (InValue P)

  pub InItems : OfPlaces → ItemTrees → Type 0
  InItems P tree.no_items = Unit {0}
  InItems P (tree.declared_before x is) = InDeclared P x × InItems P is
  InItems P (tree.statement_before s is) = InStatement P s × InItems P is

-- ---- units

pub record InBody (P : OfPlaces) (b : BodyTree) : Type 0 where
  pub opened : P b.opened
  pub closed : P b.closed
  pub calls : All (λ (c : CallSite). P c.at) b.calls
  pub items : InItems P b.items

abbrev pub InUnit : OfPlaces → UnitTree → Type 0
InUnit P u = All (λ (f : FunctionTree). IfSome f.body (InBody P)) u.functions

-- ---- graphs

-- of each point, each call that a path is entered by, and each access
pub record InGraph (P : OfPlaces) (g : GraphOf) : Type 0 where
  pub points : All (λ (p : PointOf). P p.at) g.points
  pub calls : All (λ (p : PathOf). IfSome p.call (λ (s : Site). P s.at)) g.paths
  pub accesses : All (λ (a : AccessOf). P a.site.at) (accesses_of g)
