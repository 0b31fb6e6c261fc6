-- Which objects an expression names, and which it changes. Calls are not looked into.
use Rattle.std.specs.Prelude.{Bool, true, false, ◌||◌, Option, Some, None, List, [], ◌∷◌, ◌++◌, nat_eq, if◌then◌else◌}
use Rattle.std.specs.List.{list_any}
use Rattle.pk_ast.specs.Trees.{ExpressionTree, ExpressionTrees, name, call, index, element, constant, character, parenthesized, postfix, prefix, unary, cast, binary, conditional, assignment, comma, no_expressions, expression_then}
use Rattle.pk_typed.specs.declared.values.Variable.{Variable}
use Rattle.pk_typed.specs.declared.values.Variable.TheVariants.{File, Local}
use Rattle.pk_type_scope.specs.declared.declarations.Declaration.{Declaration}
use Rattle.pk_type_scope.specs.declared.declarations.Declaration.TheVariants as declared
use Rattle.pk_type_expression.specs.declared.names.Target.{Target}
use Rattle.pk_type_scope.specs.Declarations.{Names}
use Rattle.pk_type_expression.specs.Types.{target_of}

abbrev pub is_same : Variable → Variable → Bool
is_same (File a) (File b) = nat_eq a b
is_same (Local a) (Local b) = nat_eq a b
is_same x y = false

abbrev pub object_named : Option Declaration → List Variable
object_named (Some (declared.Object o)) = o.variable ∷ []
object_named d = []

abbrev pub object_changed : Option Target → List Variable
object_changed None = []
object_changed (Some t) = t.variable ∷ []

unfoldable mutual
  pub named : Names → ExpressionTree → List Variable
  named d (name x) = object_named (d x)
  named d (call x es) = named_in_all d es
  named d (index x at e) = object_named (d x) ++ named d e
  named d (element x at e column_at c) = (object_named (d x) ++ named d e) ++ named d c
  named d (constant at t n) = []
  named d (character at n) = []
  named d (parenthesized at e) = named d e
  named d (postfix op at e) = named d e
  named d (prefix op at e) = named d e
  named d (unary op at e) = named d e
  named d (cast at words e) = named d e
  named d (binary op at a b) = named d a ++ named d b
  named d (conditional at a b c) = (named d a ++ named d b) ++ named d c
  named d (assignment op at a b) = named d a ++ named d b
  named d (comma at a b) = named d a ++ named d b

  pub named_in_all : Names → ExpressionTrees → List Variable
  named_in_all d no_expressions = []
  named_in_all d (expression_then e es) = named d e ++ named_in_all d es

unfoldable mutual
  pub changed : Names → ExpressionTree → List Variable
  changed d (name x) = []
  changed d (call x es) = changed_in_all d es
  changed d (index x at e) = changed d e
  changed d (element x at e column_at c) = changed d e ++ changed d c
  changed d (constant at t n) = []
  changed d (character at n) = []
  changed d (parenthesized at e) = changed d e
  changed d (postfix op at e) = changed d e ++ object_changed (target_of d e)
  changed d (prefix op at e) = changed d e ++ object_changed (target_of d e)
  changed d (unary op at e) = changed d e
  changed d (cast at words e) = changed d e
  changed d (binary op at a b) = changed d a ++ changed d b
  changed d (conditional at a b c) = (changed d a ++ changed d b) ++ changed d c
  changed d (assignment op at a b) = (changed d a ++ changed d b) ++ object_changed (target_of d a)
  changed d (comma at a b) = changed d a ++ changed d b

  pub changed_in_all : Names → ExpressionTrees → List Variable
  changed_in_all d no_expressions = []
  changed_in_all d (expression_then e es) = changed d e ++ changed_in_all d es

-- both lists of an expression
pub record Mentioned : Type 0 where
  pub named : List Variable
  pub changed : List Variable

abbrev pub mentions : Names → ExpressionTree → Mentioned
mentions d e = record { named = named d e; changed = changed d e }

abbrev pub mentions_in_all : Names → ExpressionTrees → Mentioned
mentions_in_all d es = record { named = named_in_all d es; changed = changed_in_all d es }

abbrev pub nothing_mentioned : Mentioned
nothing_mentioned = record { named = []; changed = [] }

-- those of two expressions
abbrev pub joined : Mentioned → Mentioned → Mentioned
joined m n = record { named = m.named ++ n.named; changed = m.changed ++ n.changed }

-- and an object that is changed
abbrev pub changing : Mentioned → Option Target → Mentioned
changing m t = record { named = m.named; changed = m.changed ++ object_changed t }

abbrev pub is_among : List Variable → Variable → Bool
is_among xs x = list_any (is_same x) xs

-- one of these is among those
abbrev pub meet : List Variable → List Variable → Bool
meet xs ys = list_any (is_among xs) ys

-- one changes an object that the other names
abbrev pub clash : Mentioned → Mentioned → Bool
clash m n = meet m.changed n.named || meet n.changed m.named

abbrev pub is_empty : List Variable → Bool
is_empty [] = true
is_empty (x ∷ xs) = false

-- those of all of these
abbrev pub all_joined : List Mentioned → Mentioned
all_joined [] = nothing_mentioned
all_joined (m ∷ ms) = joined m (all_joined ms)

-- those of each expression
unfoldable pub mentions_of_each : Names → ExpressionTrees → List Mentioned
mentions_of_each d no_expressions = []
mentions_of_each d (expression_then e es) = mentions d e ∷ mentions_of_each d es

-- two of these clash
abbrev pub some_clash : List Mentioned → Bool
some_clash [] = false
some_clash (m ∷ ms) = list_any (clash m) ms || some_clash ms

abbrev pub change_nothing : List Mentioned → Bool
change_nothing [] = true
change_nothing (m ∷ ms) = if is_empty m.changed then change_nothing ms else false
