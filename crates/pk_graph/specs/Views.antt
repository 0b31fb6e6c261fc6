-- The tree and the instruction that a value of the code stands for.
use Rattle.std.specs.Prelude.{ℕ}
use Rattle.pk_graph.specs.declared.trees.Tree.{Tree}
use Rattle.pk_graph.specs.declared.trees.Tree.TheVariants as trees
use Rattle.pk_graph.specs.declared.instructions.Array.{Array}
use Rattle.pk_graph.specs.declared.instructions.Instr.{Instr}
use Rattle.pk_graph.specs.declared.instructions.Instr.TheVariants as instructions
use Rattle.pk_graph.specs.Trees.{TreeOf, ArrayOf, InstrOf}
use Rattle.pk_graph.specs.Trees as tree

unfoldable pub tree_view : Tree → TreeOf ℕ
tree_view (trees.Constant t n) = tree.constant t n
tree_view (trees.Variable x) = tree.variable x
tree_view (trees.Converted' t p e) = tree.converted t (tree_view e)
tree_view (trees.Unary' op s t p e) = tree.unary op s t (tree_view e)
tree_view (trees.Binary' op s t p a q b) = tree.binary op s t (tree_view a) (tree_view b)

abbrev pub array_view : Array → ArrayOf ℕ
array_view a = record { variable = a.variable; length = a.length }

unfoldable pub instr_view : Instr → InstrOf ℕ
instr_view instructions.Skip = tree.Skip
instr_view (instructions.Set x e) = tree.Set x (tree_view e)
instr_view (instructions.Havoc x t n) = tree.Havoc x t n
instr_view (instructions.Clear a) = tree.Clear (array_view a)
instr_view (instructions.Load x a s b i) = tree.Load x (array_view a) s b (tree_view i)
instr_view (instructions.Store a s b i e) = tree.Store (array_view a) s b (tree_view i) (tree_view e)
instr_view (instructions.Guard e b) = tree.Guard (tree_view e) b
instr_view (instructions.Check s e) = tree.Check s (tree_view e)
