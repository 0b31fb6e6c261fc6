-- The accesses that values of the code stand for.
use Rattle.std.specs.Prelude.{List, map}
use Rattle.pk_graph.specs.declared.operations.Operation.{Operation}
use Rattle.pk_graph.specs.declared.operations.Operation.TheVariants as operations
use Rattle.pk_graph.specs.declared.operations.Access.{Access}
use Rattle.pk_graph.specs.Views.{tree_view}
use Rattle.pk_graph.specs.Accesses.{OperationOf, Index, Divisor, Negation, Result, Shift, Assertion, AccessOf}

unfoldable pub operation_view : Operation → OperationOf
operation_view (operations.Index n i) = Index n (tree_view i.now)
operation_view (operations.Divisor a b) = Divisor (tree_view a.now) (tree_view b.now)
operation_view (operations.Negation t e) = Negation t (tree_view e.now)
operation_view (operations.Result op t a b) = Result op t (tree_view a.now) (tree_view b.now)
operation_view (operations.Shift op t a b) = Shift op t (tree_view a.now) (tree_view b.now)
operation_view (operations.Assertion e) = Assertion (tree_view e.now)

unfoldable pub access_view : Access → AccessOf
access_view a = record { point = a.point; site = a.site; operation = operation_view a.operation }

abbrev pub access_views : List Access → List AccessOf
access_views = map access_view
