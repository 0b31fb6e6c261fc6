-- What the loops in the trees of a text count, where each counts the number that its place is given.
use Rattle.std.specs.Prelude.{ℕ, ◌+◌, List, [], ◌∷◌, Option, Some, None}
use Rattle.pk_ast.specs.Trees.{StatementTree, block, empty, expression_statement, label, case, default, if_then, if_else, switch, while, do_while, for_loop, goto, continue, break, return, ItemTrees, no_items, declaration_then, statement_then, BlockTree, ExternalTree, function, objects, type_names}
use Rattle.pk_access_laws.specs.Operators.{Counting}

-- a loop at its first word
unfoldable mutual
  pub statement_loops : Counting → StatementTree → ℕ
  statement_loops q (block opened items closed) = item_loops q items
  statement_loops q (empty at) = 0
  statement_loops q (expression_statement e) = 0
  statement_loops q (label x s) = statement_loops q s
  statement_loops q (case at e s) = statement_loops q s
  statement_loops q (default at s) = statement_loops q s
  statement_loops q (if_then at e s) = statement_loops q s
  statement_loops q (if_else at e s t) = statement_loops q s + statement_loops q t
  statement_loops q (switch at e s) = statement_loops q s
  statement_loops q (while at e s) = q at + statement_loops q s
  statement_loops q (do_while at s e) = q at + statement_loops q s
  statement_loops q (for_loop at start test step s) = q at + statement_loops q s
  statement_loops q (goto at x) = 0
  statement_loops q (continue at) = 0
  statement_loops q (break at) = 0
  statement_loops q (return at e) = 0

  pub item_loops : Counting → ItemTrees → ℕ
  item_loops q no_items = 0
  item_loops q (declaration_then s d items) = item_loops q items
  item_loops q (statement_then s items) = statement_loops q s + item_loops q items

abbrev pub block_loops : Counting → Option BlockTree → ℕ
block_loops q None = 0
block_loops q (Some b) = item_loops q b.items

-- in the bodies of functions
abbrev pub external_loops : Counting → ExternalTree → ℕ
external_loops q (function f) = block_loops q f.body
external_loops q (objects storage d) = 0
external_loops q (type_names d) = 0

abbrev pub all_loops : Counting → List ExternalTree → ℕ
all_loops q [] = 0
all_loops q (x ∷ xs) = external_loops q x + all_loops q xs
