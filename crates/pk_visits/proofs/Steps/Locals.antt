-- Objects that are declared are among those of their function.
use Rattle.std.proofs.Common.{◌≡◌, ℕ, zero, suc, ◌+◌, ◌<◌, ◌≤◌, List, [], ◌∷◌, length, arith, Some}
use Rattle.pk_typed.specs.Trees.{DeclaredTree, ForStartTree, StatementTree, ItemTrees, LocalTree}
use Rattle.pk_typed.specs.Trees as tree
use Rattle.pk_welltyped.specs.Listed.{objects_in_declared, objects_in_all_declared, objects_at_start, objects_in, objects_in_items}
use Rattle.pk_welltyped.specs.WellTyped
use Rattle.pk_welltyped.specs.WellTyped.{Around, behind, kind_among, Marks, IsDeclared, AreDeclared, IsForStart, IsStatement, AreItems}
use Rattle.pk_graph.specs.Kinds.{Kind, scalar_kind, array_kind}

local_below : (xs : List LocalTree) (i : ℕ) (k : Kind) → kind_among xs i ≡ Some k → i < length xs
local_below [] i k h = absurd (grind (arith, h))
local_below (x ∷ xs) zero k h = omega arith
local_below (x ∷ xs) (suc i) k h = let z = local_below xs i k h in omega (arith, z)

-- so many objects of the function are declared in all
abbrev pub Fits : Around → ℕ → Type 0
Fits a n = a.objects + n ≤ length a.locals

declared_fits : (a : Around) (v : DeclaredTree) → IsDeclared a v → Fits a 0 → Fits a (objects_in_declared v)
declared_fits a (tree.scalar_object i at e) h f = let z = local_below a.locals i (scalar_kind h.1.0) h.1.1 in let y = h.0 in omega (arith, z, y)
declared_fits a (tree.array_object i at es) h f = let z = local_below a.locals i (array_kind h.1.0 h.1.1) h.1.2 in let y = h.0 in omega (arith, z, y)
declared_fits a (tree.static_object i at) h f = f
declared_fits a (tree.hiding_constant x at) h f = f

all_fit : (vs : List DeclaredTree) (a : Around) → AreDeclared a vs → Fits a 0 → Fits a (objects_in_all_declared vs)
all_fit [] a h f = f
all_fit (v ∷ vs) a h f = let z = all_fit vs (behind (objects_in_declared v) a) h.1 (let y = declared_fits a v h.0 f in omega (arith, y)) in omega (arith, z)

start_fits : (s : ForStartTree) (a : Around) → IsForStart a s → Fits a 0 → Fits a (objects_at_start s)
start_fits (tree.declarations vs) a h f = all_fit vs a h f
start_fits (tree.expression e) a h f = f

mutual
  unfolding IsStatement AreItems objects_in objects_in_items

  pub statement_fits : (s : StatementTree) (a : Around) (m : Marks) → IsStatement a m s → Fits a 0 → Fits a (objects_in s)
  statement_fits (tree.block at is) a m h f = items_fit is a m h f
  statement_fits (tree.empty at) a m h f = f
  statement_fits (tree.effect at e) a m h f = f
  statement_fits (tree.label at l s) a m h f = statement_fits s a m h.1 f
  statement_fits (tree.case at i s) a m h f = statement_fits s a m h.1 f
  statement_fits (tree.default at s) a m h f = statement_fits s a m h.1 f
  statement_fits (tree.if_then at c s) a m h f = statement_fits s a m h.1 f
  statement_fits (tree.if_else at c s r) a m h f = let z = statement_fits r (behind (objects_in s) a) m h.2 (let y = statement_fits s a m h.1 f in omega (arith, y)) in omega (arith, z)
  statement_fits (tree.switch at t e zs b s) a m h f = statement_fits s a (WellTyped.in_switch (length zs) b m) h.2 f
  statement_fits (tree.while at c s) a m h f = statement_fits s a m h.1 f
  statement_fits (tree.do_while at s c) a m h f = statement_fits s a m h.0 f
  statement_fits (tree.for_loop at start c e s) a m h f = let z = statement_fits s (behind (objects_at_start start) a) m h.3 (let y = start_fits start a h.0 f in omega (arith, y)) in omega (arith, z)
  statement_fits (tree.goto at l) a m h f = f
  statement_fits (tree.continue at) a m h f = f
  statement_fits (tree.break at) a m h f = f
  statement_fits (tree.return at e) a m h f = f

  pub items_fit : (is : ItemTrees) (a : Around) (m : Marks) → AreItems a m is → Fits a 0 → Fits a (objects_in_items is)
  items_fit tree.no_items a m h f = f
  items_fit (tree.declared_before v is) a m h f = let z = items_fit is (behind (objects_in_declared v) a) m h.1 (let y = declared_fits a v h.0 f in omega (arith, y)) in omega (arith, z)
  items_fit (tree.statement_before s is) a m h f = let z = items_fit is (behind (objects_in s) a) m h.1 (let y = statement_fits s a m h.0 f in omega (arith, y)) in omega (arith, z)
