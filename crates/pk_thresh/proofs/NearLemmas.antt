-- The constants of a graph lie in types.
use Rattle.std.proofs.Common.{ℕ, ℤ, List, [], ◌∷◌, All, arith}
use Rattle.std.proofs.lemmas.Int.{ints}
use Rattle.std.specs.List.{flat_map}
use Rattle.std.proofs.lemmas.List.Elements.{All-nil, All-cons, All-head, All-tail, All-append}
use Rattle.pk_ctypes.specs.declared.types.IntType.{IntType}
use Rattle.pk_ctypes.specs.declared.types.IntType.TheVariants.{Char, SChar, UChar, Short, UShort, Int, UInt, Long, ULong, LLong, ULLong}
use Rattle.pk_ctypes.specs.Types.{InType}
use Rattle.pk_graph.specs.Trees.{TreeOf, constant, variable, converted, unary, binary, InstrOf, Skip, Set, Havoc, Clear, Load, Store, Guard, Check}
use Rattle.pk_graph.specs.Kinds.{Kinds, IsTyped, IsTypedInstr}
use Rattle.pk_graph.specs.Graphs.{EdgeOf, GraphOf, kinds_of}
use Rattle.pk_graph.specs.WellMade.{IsPointOf, IsGraph}
use Rattle.pk_thresh.specs.Thresholds.{constants_in, constants_on, constants_at, constants_of}
use Rattle.pk_thresh.specs.Near.{IsNear}

near_type : (t : IntType) (z : ℤ) → InType t z → IsNear z
near_type Char z h = record { from = omega (arith, ints, h.from); to = omega (arith, ints, h.to) }
near_type SChar z h = record { from = omega (arith, ints, h.from); to = omega (arith, ints, h.to) }
near_type UChar z h = record { from = omega (arith, ints, h.from); to = omega (arith, ints, h.to) }
near_type Short z h = record { from = omega (arith, ints, h.from); to = omega (arith, ints, h.to) }
near_type UShort z h = record { from = omega (arith, ints, h.from); to = omega (arith, ints, h.to) }
near_type Int z h = record { from = omega (arith, ints, h.from); to = omega (arith, ints, h.to) }
near_type UInt z h = record { from = omega (arith, ints, h.from); to = omega (arith, ints, h.to) }
near_type Long z h = record { from = omega (arith, ints, h.from); to = omega (arith, ints, h.to) }
near_type ULong z h = record { from = omega (arith, ints, h.from); to = omega (arith, ints, h.to) }
near_type LLong z h = record { from = omega (arith, ints, h.from); to = omega (arith, ints, h.to) }
near_type ULLong z h = record { from = omega (arith, ints, h.from); to = omega (arith, ints, h.to) }

near_tree : (ks : Kinds) (e : TreeOf ℕ) → IsTyped ks e → All IsNear (constants_in e)
unfolding constants_in
near_tree ks (constant t n) h = All-cons IsNear n [] (near_type t n h) (All-nil IsNear)
near_tree ks (variable x) h = All-nil IsNear
near_tree ks (converted t e) h = near_tree ks e h
near_tree ks (unary op s t e) h = near_tree ks e h.1
near_tree ks (binary op s t a b) h = All-append IsNear (constants_in a) (constants_in b) (near_tree ks a h.0) (near_tree ks b h.1)

near_instr : (ks : Kinds) (i : InstrOf ℕ) → IsTypedInstr ks i → All IsNear (constants_on i)
unfolding constants_on
near_instr ks Skip h = All-nil IsNear
near_instr ks (Set x e) h = near_tree ks e h.1.typed
near_instr ks (Havoc x t n) h = All-nil IsNear
near_instr ks (Clear a) h = All-nil IsNear
near_instr ks (Load x a s b i) h = near_tree ks i h.3
near_instr ks (Store a s b i e) h = All-append IsNear (constants_in i) (constants_in e) (near_tree ks i h.1) (near_tree ks e h.2.typed)
near_instr ks (Guard e b) h = near_tree ks e h
near_instr ks (Check s e) h = near_tree ks e h

-- what holds of each part of a list's parts, holds of them all
all_parts : {X : Type 0} (P : ℤ → Type 0) (f : X → List ℤ) (xs : List X) → All (λ x. All P (f x)) xs → All P (flat_map f xs)
all_parts P f [] h = All-nil P
all_parts P f (x ∷ xs) h = All-append P (f x) (flat_map f xs) (All-head (λ y. All P (f y)) x xs h) (all_parts P f xs (All-tail (λ y. All P (f y)) x xs h))

pub near_graph : (g : GraphOf) → IsGraph g → All IsNear (constants_of g)
near_graph g h =
    all_parts IsNear constants_at g.points (λ k d below.
    let there : IsPointOf g _ = h.points k d below in
    all_parts IsNear (λ (e : EdgeOf). constants_on e.instr) _ (λ j e within. near_instr (kinds_of g) _ (there.edges j e within).typed))
