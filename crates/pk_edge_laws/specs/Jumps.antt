-- Jumps to labels (C99 6.8.6.1), and to cases and defaults (C99 6.8.4.2).
use Rattle.std.specs.Prelude.{◌≡◌, ℕ, ◌+◌, nat_eq}
use Rattle.pk_typed.specs.Trees.{StatementTree, ItemTrees}
use Rattle.pk_typed.specs.Trees as tree
use Rattle.pk_welltyped.specs.Marks.{one_if, times}
use Rattle.pk_meaning.specs.Steps.{numbered, otherwise}

unfoldable mutual
  -- how often a goto to label l stands in a statement
  pub gotos : (l : ℕ) → StatementTree → ℕ
  gotos l (tree.block p is) = gotos_in l is
  gotos l (tree.empty p) = 0
  gotos l (tree.effect p e) = 0
  gotos l (tree.label p k s) = gotos l s
  gotos l (tree.case p i s) = gotos l s
  gotos l (tree.default p s) = gotos l s
  gotos l (tree.if_then p e s) = gotos l s
  gotos l (tree.if_else p e s r) = gotos l s + gotos l r
  gotos l (tree.switch p t e zs b s) = gotos l s
  gotos l (tree.while p e s) = gotos l s
  gotos l (tree.do_while p s e) = gotos l s
  gotos l (tree.for_loop p start e third s) = gotos l s
  gotos l (tree.goto p k) = one_if (nat_eq l k)
  gotos l (tree.continue p) = 0
  gotos l (tree.break p) = 0
  gotos l (tree.return p e) = 0

  pub gotos_in : (l : ℕ) → ItemTrees → ℕ
  gotos_in l tree.no_items = 0
  gotos_in l (tree.declared_before v is) = gotos_in l is
  gotos_in l (tree.statement_before s is) = gotos l s + gotos_in l is

-- No case or default of a switch around the statement stands in it.
pub record HasNoCase (s : StatementTree) : Type 0 where
  pub cases : (i : ℕ) → times (numbered i) s ≡ 0
  pub default : times otherwise s ≡ 0
