-- What the accesses of a graph count, those of one fault: no more than the operators of its trees.
use Rattle.std.specs.Prelude.{◌≡◌, ℕ, zero, suc, ◌+◌, ◌<◌, ◌≤◌, nat_eq, Bool, true, false, List, [], ◌∷◌, ◌++◌, map, Some, slice_get}
use Rattle.std.proofs.Common.{arith, refl, ap, subst}
use Rattle.pk_ctypes.specs.declared.faults.Fault.{Fault}
use Rattle.pk_ctypes.specs.declared.faults.Fault.TheVariants as faults
use Rattle.pk_ctypes.specs.declared.types.IntType.{IntType}
use Rattle.pk_ctypes.specs.declared.types.IntType.TheVariants.{Char, SChar, UChar, Short, UShort, Int, UInt, Long, ULong, LLong, ULLong}
use Rattle.pk_ctypes.specs.declared.types.Op.{Op}
use Rattle.pk_ctypes.specs.declared.types.Op.TheVariants.{Add, Sub, Mul, Div, Rem, Shl, Shr, And, Or, Xor, Lt, Gt, Le, Ge, Eq, Ne, Neg, BitNot, Not}
use Rattle.pk_graph.specs.declared.trees.Site.{Site}
use Rattle.pk_graph.specs.Trees.{TreeOf, constant, variable, converted, unary, binary, InstrOf, Skip, Set, Havoc, Clear, Load, Store, Guard, Check}
use Rattle.pk_graph.specs.Accesses.{OperationOf, Index, Divisor, Negation, Result, Shift, Assertion, fault_of, AccessOf, access, if_signed, of_unary, of_binary, of_tree, of_index, of_instr, of_edges, of_points}
use Rattle.pk_draft.specs.Drafts.{EdgeFrom, DraftOf}
use Rattle.pk_number.specs.Numbering.{edges_from, edge_of, point_of}
use Rattle.pk_access_laws.proofs.Spent.{Asked, in_tree, in_instr, in_first, in_points, can_fault, count_if}

abbrev pub fault_number : Fault → ℕ
fault_number faults.Index = 0
fault_number faults.DivZero = 1
fault_number faults.Overflow = 2
fault_number faults.Shift = 3
fault_number faults.Assert = 4

abbrev pub counts : Asked → Fault → Fault → Site → ℕ
counts w f g s = count_if (nat_eq (fault_number f) (fault_number g)) (w.count s)

abbrev pub counted : Asked → Fault → List AccessOf → ℕ
counted w f [] = 0
counted w f (a ∷ rest) = counts w f (fault_of a.operation) a.site + counted w f rest

pub counted_append : (w : Asked) (f : Fault) (xs ys : List AccessOf) → counted w f (xs ++ ys) ≡ counted w f xs + counted w f ys
counted_append w f [] ys = omega arith
counted_append w f (x ∷ xs) ys = omega (arith, counted_append w f xs ys)

if_less : (b : Bool) (n : ℕ) → count_if b n ≤ n
if_less true n = omega arith
if_less false n = omega arith

one : (w : Asked) (f : Fault) (p : ℕ) (s : Site) (o : OperationOf) → counted w f (access p s o ∷ []) ≤ w.count s
one w f p s o = omega (arith, if_less (nat_eq (fault_number f) (fault_number (fault_of o))) (w.count s))

signed : (w : Asked) (f : Fault) (p : ℕ) (t : IntType) (s : Site) (o : OperationOf) → counted w f (if_signed t (access p s o)) ≤ counts w f (fault_of o) s
signed w f p Char s o = omega arith
signed w f p SChar s o = omega arith
signed w f p Short s o = omega arith
signed w f p Int s o = omega arith
signed w f p Long s o = omega arith
signed w f p LLong s o = omega arith
signed w f p UChar s o = omega arith
signed w f p UShort s o = omega arith
signed w f p UInt s o = omega arith
signed w f p ULong s o = omega arith
signed w f p ULLong s o = omega arith

-- ---- trees

in_unary : (w : Asked) (f : Fault) (p : ℕ) (op : Op) (s : Site) (t : IntType) (e : TreeOf ℕ) → counted w f (of_unary p op s t e) ≤ count_if (can_fault op) (w.count s)
in_unary w f p Add s t e = omega arith
in_unary w f p Sub s t e = omega arith
in_unary w f p Mul s t e = omega arith
in_unary w f p Div s t e = omega arith
in_unary w f p Rem s t e = omega arith
in_unary w f p Shl s t e = omega arith
in_unary w f p Shr s t e = omega arith
in_unary w f p And s t e = omega arith
in_unary w f p Or s t e = omega arith
in_unary w f p Xor s t e = omega arith
in_unary w f p Lt s t e = omega arith
in_unary w f p Gt s t e = omega arith
in_unary w f p Le s t e = omega arith
in_unary w f p Ge s t e = omega arith
in_unary w f p Eq s t e = omega arith
in_unary w f p Ne s t e = omega arith
in_unary w f p Neg s t e = omega (arith, signed w f p t s (Negation t e), if_less (nat_eq (fault_number f) 2) (w.count s))
in_unary w f p BitNot s t e = omega arith
in_unary w f p Not s t e = omega arith

-- a fault is not both
not_both : (w : Asked) (f : Fault) (s : Site) → counts w f faults.DivZero s + counts w f faults.Overflow s ≤ w.count s
not_both w faults.Index s = omega arith
not_both w faults.DivZero s = omega arith
not_both w faults.Overflow s = omega arith
not_both w faults.Shift s = omega arith
not_both w faults.Assert s = omega arith

overflowing : (w : Asked) (f : Fault) (p : ℕ) (t : IntType) (s : Site) (o : OperationOf) → fault_of o ≡ faults.Overflow → counted w f (if_signed t (access p s o)) ≤ w.count s
overflowing w f p t s o e = omega (arith, signed w f p t s o, if_less (nat_eq (fault_number f) (fault_number (fault_of o))) (w.count s))

dividing : (w : Asked) (f : Fault) (p : ℕ) (op : Op) (s : Site) (t : IntType) (a b : TreeOf ℕ) → counted w f (access p s (Divisor a b) ∷ if_signed t (access p s (Result op t a b))) ≤ w.count s
dividing w f p op s t a b = omega (arith, signed w f p t s (Result op t a b), not_both w f s)

in_binary : (w : Asked) (f : Fault) (p : ℕ) (op : Op) (s : Site) (t : IntType) (a b : TreeOf ℕ) → counted w f (of_binary p op s t a b) ≤ count_if (can_fault op) (w.count s)
in_binary w f p Add s t a b = overflowing w f p t s (Result Add t a b) refl
in_binary w f p Sub s t a b = overflowing w f p t s (Result Sub t a b) refl
in_binary w f p Mul s t a b = overflowing w f p t s (Result Mul t a b) refl
in_binary w f p Div s t a b = dividing w f p Div s t a b
in_binary w f p Rem s t a b = dividing w f p Rem s t a b
in_binary w f p Shl s t a b = one w f p s (Shift Shl t a b)
in_binary w f p Shr s t a b = one w f p s (Shift Shr t a b)
in_binary w f p And s t a b = omega arith
in_binary w f p Or s t a b = omega arith
in_binary w f p Xor s t a b = omega arith
in_binary w f p Lt s t a b = omega arith
in_binary w f p Gt s t a b = omega arith
in_binary w f p Le s t a b = omega arith
in_binary w f p Ge s t a b = omega arith
in_binary w f p Eq s t a b = omega arith
in_binary w f p Ne s t a b = omega arith
in_binary w f p Neg s t a b = omega arith
in_binary w f p BitNot s t a b = omega arith
in_binary w f p Not s t a b = omega arith

tree_counts : (w : Asked) (f : Fault) (p : ℕ) (e : TreeOf ℕ) → counted w f (of_tree p e) ≤ in_tree w e
unfolding of_tree
tree_counts w f p (constant t n) = omega arith
tree_counts w f p (variable x) = omega arith
tree_counts w f p (converted t e) = tree_counts w f p e
tree_counts w f p (unary op s t e) =
    omega (arith, counted_append w f (of_tree p e) (of_unary p op s t e), tree_counts w f p e, in_unary w f p op s t e)
tree_counts w f p (binary op s t a b) =
    omega (arith, counted_append w f (of_tree p a ++ of_tree p b) (of_binary p op s t a b), counted_append w f (of_tree p a) (of_tree p b), tree_counts w f p a, tree_counts w f p b, in_binary w f p op s t a b)

-- ---- instructions, points

index_counts : (w : Asked) (f : Fault) (p : ℕ) (b : Bool) (s : Site) (n : ℕ) (i : TreeOf ℕ) → counted w f (of_index p b s n i) ≤ count_if b (w.count s)
index_counts w f p true s n i = one w f p s (Index n i)
index_counts w f p false s n i = omega arith

instr_counts : (w : Asked) (f : Fault) (p : ℕ) (i : InstrOf ℕ) → counted w f (of_instr p i) ≤ in_instr w i
unfolding of_instr
instr_counts w f p Skip = omega arith
instr_counts w f p (Set x e) = tree_counts w f p e
instr_counts w f p (Havoc x t n) = omega arith
instr_counts w f p (Clear a) = omega arith
instr_counts w f p (Load x a s b i) =
    omega (arith, counted_append w f (of_tree p i) (of_index p b s a.length i), tree_counts w f p i, index_counts w f p b s a.length i)
instr_counts w f p (Store a s b i e) =
    omega (arith, counted_append w f (of_tree p i ++ of_tree p e) (of_index p b s a.length i), counted_append w f (of_tree p i) (of_tree p e), tree_counts w f p i, tree_counts w f p e, index_counts w f p b s a.length i)
instr_counts w f p (Guard e b) = tree_counts w f p e
instr_counts w f p (Check s e) =
    omega (arith, counted_append w f (of_tree p e) (access p s (Assertion e) ∷ []), tree_counts w f p e, one w f p s (Assertion e))

first_counts : (w : Asked) (f : Fault) (n : ℕ) (order : List ℕ) (es : List (EdgeFrom ℕ)) → counted w f (of_edges n (map (edge_of order) es)) ≤ in_first w es
first_counts w f n order [] = omega arith
first_counts w f n order (e ∷ es) = instr_counts w f n e.instr

pub points_count : (w : Asked) (f : Fault) (n : ℕ) (order : List ℕ) (d : DraftOf ℕ) (ps : List ℕ) → counted w f (of_points n (map (point_of order d) ps)) ≤ in_points w ps d.edges
points_count w f n order d [] = omega arith
points_count w f n order d (p ∷ ps) =
    omega (arith, counted_append w f (of_edges n (map (edge_of order) (edges_from p d.edges))) (of_points (n + 1) (map (point_of order d) ps)), first_counts w f n order (edges_from p d.edges), points_count w f (n + 1) order d ps)

-- ---- two of a list

some_counts : (w : Asked) (f : Fault) (xs : List AccessOf) (i : ℕ) (a : AccessOf) → slice_get xs i ≡ Some a → counts w f (fault_of a.operation) a.site ≤ counted w f xs
some_counts w f [] i a h = absurd (cc h)
some_counts w f (x ∷ xs) zero a h =
    let same : x ≡ a = cc h in
    subst (λ (y : AccessOf). counts w f (fault_of y.operation) y.site ≤ counts w f (fault_of x.operation) x.site + counted w f xs) same (omega arith)
some_counts w f (x ∷ xs) (suc i) a h = omega (arith, some_counts w f xs i a h)

pub two_count : (w : Asked) (f : Fault) (xs : List AccessOf) (i j : ℕ) (a b : AccessOf) → i < j → slice_get xs i ≡ Some a → slice_get xs j ≡ Some b
    → counts w f (fault_of a.operation) a.site + counts w f (fault_of b.operation) b.site ≤ counted w f xs
two_count w f [] i j a b l h k = absurd (cc h)
two_count w f (x ∷ xs) i zero a b l h k = absurd (omega arith)
two_count w f (x ∷ xs) zero (suc j) a b l h k =
    let same : x ≡ a = cc h in
    let rest = some_counts w f xs j b k in
    subst (λ (y : AccessOf). counts w f (fault_of y.operation) y.site + counts w f (fault_of b.operation) b.site ≤ counts w f (fault_of x.operation) x.site + counted w f xs) same (omega (arith, rest))
two_count w f (x ∷ xs) (suc i) (suc j) a b l h k = omega (arith, two_count w f xs i j a b (omega arith) h k)
