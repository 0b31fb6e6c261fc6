-- The number of each form of tree.
use Rattle.std.proofs.Common.{◌≡◌, ℕ, ap, sym, subst, refl, Bool, true, false, Option, Some, None, IfSome}
use Rattle.std.specs.Prelude.{ℤ, Result, Ok, IfOk}
use Rattle.std.specs.declared.alloc.AllocError.{AllocError}
use Rattle.std.specs.declared.alloc.Global.{Global}
use Rattle.std.specs.declared.boxed.Box.{Box}
use Rattle.pk_ctypes.specs.declared.types.Op.TheVariants.{Add, Sub, Mul, Div, Rem, Shl, Shr, And, Or, Xor, Lt, Gt, Le, Ge, Eq, Ne, Neg, BitNot, Not}
use Rattle.pk_ctypes.specs.Types.{InType, represents}
use Rattle.pk_ctypes.specs.Operators.{HasRight}
use Rattle.pk_ctypes.proofs.Wrapped.{conversion}
use Rattle.pk_ctypes.specs.declared.types.IntType.{IntType}
use Rattle.pk_ctypes.specs.declared.types.Op.{Op}
use Rattle.pk_graph.specs.declared.trees.Site.{Site}
use Rattle.pk_graph.specs.declared.trees.Tree.{Tree}
use Rattle.pk_graph.specs.declared.trees.Tree.TheVariants as trees
use Rattle.pk_graph.specs.Trees.{TreeOf}
use Rattle.pk_graph.specs.Trees as tree
use Rattle.pk_graph.specs.Views.{tree_view}
use Rattle.pk_draft.specs.Folding as folding

pub of_constant : (e : Tree) (t : IntType) (z : ℤ) → e ≡ trees.Constant t z → folding.number_in (tree_view e) ≡ Some z
unfolding tree_view
of_constant e t z is = ap (λ d. folding.number_in (tree_view d)) is

pub of_variable : (e : Tree) (x : ℕ) → e ≡ trees.Variable x → folding.number_in (tree_view e) ≡ None
unfolding tree_view
of_variable e x is = ap (λ d. folding.number_in (tree_view d)) is

pub of_converted : (e : Tree) (t : IntType) {p : _} (a : Tree) → e ≡ trees.Converted' t p a → folding.number_in (tree_view e) ≡ None
unfolding tree_view
of_converted e t a is = ap (λ d. folding.number_in (tree_view d)) is

pub of_unary : (e : Tree) (op : Op) (s : Site) (t : IntType) {p : _} (a : Tree) → e ≡ trees.Unary' op s t p a → folding.number_in (tree_view e) ≡ None
unfolding tree_view
of_unary e op s t a is = ap (λ d. folding.number_in (tree_view d)) is

pub of_binary : (e : Tree) (op : Op) (s : Site) (t : IntType) {p : _} (a : Tree) {q : _} (b : Tree) → e ≡ trees.Binary' op s t p a q b → folding.number_in (tree_view e) ≡ None
unfolding tree_view
of_binary e op s t a b is = ap (λ d. folding.number_in (tree_view d)) is

-- a tree without a number, converted or not, has none
of_kept : (b : Bool) (t : IntType) (e : TreeOf ℕ) → folding.number_in e ≡ None → folding.number_in (folding.kept_if b t e) ≡ None
of_kept true t e h = h
of_kept false t e h = refl

none_holds : (o : Option ℤ) (P : ℤ → Type 0) → o ≡ None → IfSome o P
none_holds o P h = subst (λ (p : Option ℤ). IfSome p P) (sym h) tt

-- a conversion's number lies in its type
pub of_conversion : (u t : IntType) (e : TreeOf ℕ) → IfSome (folding.number_in (folding.conversion u t e)) (InType t)
of_conversion u t (tree.constant v z) = (conversion.holds t z).inside
of_conversion u t (tree.variable x) = none_holds _ _ (of_kept (represents t u) t (tree.variable x) refl)
of_conversion u t (tree.converted v e) = none_holds _ _ (of_kept (represents t u) t (tree.converted v e) refl)
of_conversion u t (tree.unary op s v e) = none_holds _ _ (of_kept (represents t u) t (tree.unary op s v e) refl)
of_conversion u t (tree.binary op s v a b) = none_holds _ _ (of_kept (represents t u) t (tree.binary op s v a b) refl)

pub right_number : (op : Op) (v t : IntType) (z : ℤ) → InType (folding.right_type op v t) z → HasRight op t z
right_number Add v t z h = h
right_number Sub v t z h = h
right_number Mul v t z h = h
right_number Div v t z h = h
right_number Rem v t z h = h
right_number Shl v t z h = tt
right_number Shr v t z h = tt
right_number And v t z h = h
right_number Or v t z h = h
right_number Xor v t z h = h
right_number Lt v t z h = h
right_number Gt v t z h = h
right_number Le v t z h = h
right_number Ge v t z h = h
right_number Eq v t z h = h
right_number Ne v t z h = h
right_number Neg v t z h = tt
right_number BitNot v t z h = tt
right_number Not v t z h = tt

some_right : (o : Option ℤ) (op : Op) (v t : IntType) → IfSome o (InType (folding.right_type op v t)) → IfSome o (HasRight op t)
some_right None op v t h = tt
some_right (Some z) op v t h = right_number op v t z h

-- a right operand's number is one that the operator takes
pub of_right : (op : Op) (v t : IntType) (e : TreeOf ℕ) → IfSome (folding.number_in (folding.conversion v (folding.right_type op v t) e)) (HasRight op t)
of_right op v t e = some_right _ op v t (of_conversion v (folding.right_type op v t) e)

-- what was made, where there was memory
pub made : (r : Result (Box Tree Global) AllocError) (e : Box Tree Global) (t : TreeOf ℕ) → IfOk r (λ b. tree_view b.value ≡ t) → r ≡ Ok e → tree_view e.value ≡ t
made r e t h is = subst (λ (s : Result (Box Tree Global) AllocError). IfOk s (λ b. tree_view b.value ≡ t)) is h
