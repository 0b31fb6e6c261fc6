-- Loops into which nothing jumps.
use Rattle.std.specs.Prelude.{◌≡◌, ◌≢◌, ◌⊎◌, ℕ}
use Rattle.pk_ctypes.specs.declared.places.Pos.{Pos}
use Rattle.pk_typed.specs.Trees.{StatementTree, ItemTrees}
use Rattle.pk_typed.specs.Trees as tree
use Rattle.pk_welltyped.specs.Marks.{times}
use Rattle.pk_meaning.specs.Steps.{labelled}
use Rattle.pk_edge_laws.specs.Jumps.{gotos, gotos_in, HasNoCase}

-- Of the jumps in a function's items none leads into the statement from outside: each goto to a label that stands in it stands in it too, and no case or default of a switch around it does.
pub record IsClosed (items : ItemTrees) (s : StatementTree) : Type 0 where
  pub labels : (l : ℕ) → times (labelled l) s ≢ 0 → gotos_in l items ≡ gotos l s
  pub no_case : HasNoCase s

unfoldable mutual
  -- At this place in a statement stands a loop with this body.
  pub HasLoop : Pos → (body : StatementTree) → StatementTree → Type 0
  HasLoop at b (tree.block p is) = HasLoopIn at b is
  HasLoop at b (tree.empty p) = ⊥
  HasLoop at b (tree.effect p e) = ⊥
  HasLoop at b (tree.label p l s) = HasLoop at b s
  HasLoop at b (tree.case p i s) = HasLoop at b s
  HasLoop at b (tree.default p s) = HasLoop at b s
  HasLoop at b (tree.if_then p e s) = HasLoop at b s
  HasLoop at b (tree.if_else p e s r) = HasLoop at b s ⊎ HasLoop at b r
  HasLoop at b (tree.switch p t e zs d s) = HasLoop at b s
  HasLoop at b (tree.while p e s) = ((at ≡ p) × (b ≡ s)) ⊎ HasLoop at b s
  HasLoop at b (tree.do_while p s e) = ((at ≡ p) × (b ≡ s)) ⊎ HasLoop at b s
  HasLoop at b (tree.for_loop p start e third s) = ((at ≡ p) × (b ≡ s)) ⊎ HasLoop at b s
  HasLoop at b (tree.goto p l) = ⊥
  HasLoop at b (tree.continue p) = ⊥
  HasLoop at b (tree.break p) = ⊥
  HasLoop at b (tree.return p e) = ⊥

  pub HasLoopIn : Pos → (body : StatementTree) → ItemTrees → Type 0
  HasLoopIn at b tree.no_items = ⊥
  HasLoopIn at b (tree.declared_before v is) = HasLoopIn at b is
  HasLoopIn at b (tree.statement_before s is) = HasLoop at b s ⊎ HasLoopIn at b is
