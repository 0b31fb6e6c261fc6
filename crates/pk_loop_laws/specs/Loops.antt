-- What the loops of typed statements count, where each counts the number that its place is given.
use Rattle.std.specs.Prelude.{ℕ, ◌+◌}
use Rattle.pk_typed.specs.Trees.{StatementTree, ItemTrees}
use Rattle.pk_typed.specs.Trees as tree
use Rattle.pk_access_laws.specs.Operators.{Counting}

unfoldable mutual
  pub loops_in : Counting → StatementTree → ℕ
  loops_in q (tree.block p is) = loops_in_items q is
  loops_in q (tree.empty p) = 0
  loops_in q (tree.effect p e) = 0
  loops_in q (tree.label p l s) = loops_in q s
  loops_in q (tree.case p i s) = loops_in q s
  loops_in q (tree.default p s) = loops_in q s
  loops_in q (tree.if_then p e s) = loops_in q s
  loops_in q (tree.if_else p e s r) = loops_in q s + loops_in q r
  loops_in q (tree.switch p t e zs has_default s) = loops_in q s
  loops_in q (tree.while p e s) = q p + loops_in q s
  loops_in q (tree.do_while p s e) = q p + loops_in q s
  loops_in q (tree.for_loop p start e third s) = q p + loops_in q s
  loops_in q (tree.goto p l) = 0
  loops_in q (tree.continue p) = 0
  loops_in q (tree.break p) = 0
  loops_in q (tree.return p e) = 0

  pub loops_in_items : Counting → ItemTrees → ℕ
  loops_in_items q tree.no_items = 0
  loops_in_items q (tree.declared_before x is) = loops_in_items q is
  loops_in_items q (tree.statement_before s is) = loops_in q s + loops_in_items q is
