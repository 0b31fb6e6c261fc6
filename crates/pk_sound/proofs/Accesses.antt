-- The accesses of a graph: at its points, with typed operands, each an operation of its kind.
use Rattle.std.specs.Prelude.{◌≡◌, ℕ, ◌+◌, ◌<◌, Bool, true, false, List, [], ◌∷◌, ◌++◌, length, All}
use Rattle.std.proofs.Common.{arith, refl}
use Rattle.std.proofs.lemmas.List.Elements.{All-nil, All-cons, All-head, All-tail, All-append}
use Rattle.pk_ctypes.specs.declared.types.IntType.{IntType}
use Rattle.pk_ctypes.specs.declared.types.IntType.TheVariants.{Char, SChar, UChar, Short, UShort, Int, UInt, Long, ULong, LLong, ULLong}
use Rattle.pk_ctypes.specs.declared.types.Op.{Op}
use Rattle.pk_ctypes.specs.declared.types.Op.TheVariants.{Add, Sub, Mul, Div, Rem, Shl, Shr, And, Or, Xor, Lt, Gt, Le, Ge, Eq, Ne, Neg, BitNot, Not}
use Rattle.pk_ctypes.specs.Types.{is_signed_of}
use Rattle.pk_graph.specs.declared.trees.Site.{Site}
use Rattle.pk_graph.specs.Trees.{TreeOf, constant, variable, converted, unary, binary, InstrOf, Skip, Set, Havoc, Clear, Load, Store, Guard, Check}
use Rattle.pk_graph.specs.Kinds.{Kinds, IsTyped, IsOfType, IsTypedInstr, IsRight, type_of}
use Rattle.pk_graph.specs.Graphs.{EdgeOf, PointOf, GraphOf, kinds_of}
use Rattle.pk_graph.specs.WellMade.{IsGraph, IsPointOf, IsEdgeOf}
use Rattle.pk_graph.specs.Accesses.{OperationOf, Index, Divisor, Negation, Result, Shift, Assertion, AccessOf, access, if_signed, of_unary, of_binary, of_tree, of_index, of_instr, of_edges, of_points, accesses_of}
use Rattle.pk_verdict.specs.Verdicts.{IsTypedOperation}

-- operators whose result may lie outside of its type, and shifts
abbrev pub HasResult : Op → Type 0
HasResult Add = Unit {0}
HasResult Sub = Unit {0}
HasResult Mul = Unit {0}
HasResult Div = Unit {0}
HasResult Rem = Unit {0}
HasResult Shl = ⊥
HasResult Shr = ⊥
HasResult And = ⊥
HasResult Or = ⊥
HasResult Xor = ⊥
HasResult Lt = ⊥
HasResult Gt = ⊥
HasResult Le = ⊥
HasResult Ge = ⊥
HasResult Eq = ⊥
HasResult Ne = ⊥
HasResult Neg = ⊥
HasResult BitNot = ⊥
HasResult Not = ⊥

abbrev pub IsShift : Op → Type 0
IsShift Add = ⊥
IsShift Sub = ⊥
IsShift Mul = ⊥
IsShift Div = ⊥
IsShift Rem = ⊥
IsShift Shl = Unit {0}
IsShift Shr = Unit {0}
IsShift And = ⊥
IsShift Or = ⊥
IsShift Xor = ⊥
IsShift Lt = ⊥
IsShift Gt = ⊥
IsShift Le = ⊥
IsShift Ge = ⊥
IsShift Eq = ⊥
IsShift Ne = ⊥
IsShift Neg = ⊥
IsShift BitNot = ⊥
IsShift Not = ⊥

abbrev pub HasKind : OperationOf → Type 0
HasKind (Index n i) = Unit {0}
HasKind (Divisor a b) = Unit {0}
HasKind (Negation t e) = Unit {0}
HasKind (Result op t a b) = HasResult op × (is_signed_of t ≡ true)
HasKind (Shift op t a b) = IsShift op
HasKind (Assertion e) = Unit {0}

pub record IsAccessAt (ks : Kinds) (p : ℕ) (a : AccessOf) : Type 0 where
  pub point : a.point ≡ p
  pub typed : IsTypedOperation ks a.operation
  pub kind : HasKind a.operation

one : (ks : Kinds) (p : ℕ) (s : Site) (o : OperationOf) → IsTypedOperation ks o → HasKind o → All (IsAccessAt ks p) (access p s o ∷ [])
one ks p s o h k = All-cons (IsAccessAt ks p) (access p s o) [] (record { point = refl; typed = h; kind = k }) (All-nil (IsAccessAt ks p))

signed : (ks : Kinds) (p : ℕ) (t : IntType) (s : Site) (o : OperationOf) → IsTypedOperation ks o → (is_signed_of t ≡ true → HasKind o) → All (IsAccessAt ks p) (if_signed t (access p s o))
signed ks p Char s o h k = one ks p s o h (k refl)
signed ks p SChar s o h k = one ks p s o h (k refl)
signed ks p Short s o h k = one ks p s o h (k refl)
signed ks p Int s o h k = one ks p s o h (k refl)
signed ks p Long s o h k = one ks p s o h (k refl)
signed ks p LLong s o h k = one ks p s o h (k refl)
signed ks p UChar s o h k = All-nil (IsAccessAt ks p)
signed ks p UShort s o h k = All-nil (IsAccessAt ks p)
signed ks p UInt s o h k = All-nil (IsAccessAt ks p)
signed ks p ULong s o h k = All-nil (IsAccessAt ks p)
signed ks p ULLong s o h k = All-nil (IsAccessAt ks p)

-- ---- trees

at_unary : (ks : Kinds) (p : ℕ) (op : Op) (s : Site) (t : IntType) (e : TreeOf ℕ) → IsOfType ks t e → All (IsAccessAt ks p) (of_unary p op s t e)
at_unary ks p Neg s t e h = signed ks p t s (Negation t e) h (λ is. tt)
at_unary ks p BitNot s t e h = All-nil (IsAccessAt ks p)
at_unary ks p Not s t e h = All-nil (IsAccessAt ks p)
at_unary ks p Add s t e h = All-nil (IsAccessAt ks p)
at_unary ks p Sub s t e h = All-nil (IsAccessAt ks p)
at_unary ks p Mul s t e h = All-nil (IsAccessAt ks p)
at_unary ks p Div s t e h = All-nil (IsAccessAt ks p)
at_unary ks p Rem s t e h = All-nil (IsAccessAt ks p)
at_unary ks p Shl s t e h = All-nil (IsAccessAt ks p)
at_unary ks p Shr s t e h = All-nil (IsAccessAt ks p)
at_unary ks p And s t e h = All-nil (IsAccessAt ks p)
at_unary ks p Or s t e h = All-nil (IsAccessAt ks p)
at_unary ks p Xor s t e h = All-nil (IsAccessAt ks p)
at_unary ks p Lt s t e h = All-nil (IsAccessAt ks p)
at_unary ks p Gt s t e h = All-nil (IsAccessAt ks p)
at_unary ks p Le s t e h = All-nil (IsAccessAt ks p)
at_unary ks p Ge s t e h = All-nil (IsAccessAt ks p)
at_unary ks p Eq s t e h = All-nil (IsAccessAt ks p)
at_unary ks p Ne s t e h = All-nil (IsAccessAt ks p)

at_binary : (ks : Kinds) (p : ℕ) (op : Op) (s : Site) (t : IntType) (a b : TreeOf ℕ) → IsOfType ks t a → IsTyped ks b → IsRight op t (type_of ks b) → All (IsAccessAt ks p) (of_binary p op s t a b)
at_binary ks p Add s t a b h k r = signed ks p t s (Result Add t a b) (h, k, r) (λ is. (tt, is))
at_binary ks p Sub s t a b h k r = signed ks p t s (Result Sub t a b) (h, k, r) (λ is. (tt, is))
at_binary ks p Mul s t a b h k r = signed ks p t s (Result Mul t a b) (h, k, r) (λ is. (tt, is))
at_binary ks p Div s t a b h k r =
    All-cons (IsAccessAt ks p) (access p s (Divisor a b)) (if_signed t (access p s (Result Div t a b))) (record { point = refl; typed = (h.typed, k); kind = tt }) (signed ks p t s (Result Div t a b) (h, k, r) (λ is. (tt, is)))
at_binary ks p Rem s t a b h k r =
    All-cons (IsAccessAt ks p) (access p s (Divisor a b)) (if_signed t (access p s (Result Rem t a b))) (record { point = refl; typed = (h.typed, k); kind = tt }) (signed ks p t s (Result Rem t a b) (h, k, r) (λ is. (tt, is)))
at_binary ks p Shl s t a b h k r = one ks p s (Shift Shl t a b) (h, k, r) tt
at_binary ks p Shr s t a b h k r = one ks p s (Shift Shr t a b) (h, k, r) tt
at_binary ks p And s t a b h k r = All-nil (IsAccessAt ks p)
at_binary ks p Or s t a b h k r = All-nil (IsAccessAt ks p)
at_binary ks p Xor s t a b h k r = All-nil (IsAccessAt ks p)
at_binary ks p Lt s t a b h k r = All-nil (IsAccessAt ks p)
at_binary ks p Gt s t a b h k r = All-nil (IsAccessAt ks p)
at_binary ks p Le s t a b h k r = All-nil (IsAccessAt ks p)
at_binary ks p Ge s t a b h k r = All-nil (IsAccessAt ks p)
at_binary ks p Eq s t a b h k r = All-nil (IsAccessAt ks p)
at_binary ks p Ne s t a b h k r = All-nil (IsAccessAt ks p)
at_binary ks p Neg s t a b h k r = absurd r
at_binary ks p BitNot s t a b h k r = absurd r
at_binary ks p Not s t a b h k r = absurd r

in_tree : (ks : Kinds) (p : ℕ) (e : TreeOf ℕ) → IsTyped ks e → All (IsAccessAt ks p) (of_tree p e)
unfolding of_tree
in_tree ks p (constant t n) h = All-nil (IsAccessAt ks p)
in_tree ks p (variable x) h = All-nil (IsAccessAt ks p)
in_tree ks p (converted t e) h = in_tree ks p e h
in_tree ks p (unary op s t e) h =
    All-append (IsAccessAt ks p) (of_tree p e) (of_unary p op s t e) (in_tree ks p e h.1) (at_unary ks p op s t e (record { typed = h.1; fits = h.2 }))
in_tree ks p (binary op s t a b) h =
    All-append (IsAccessAt ks p) (of_tree p a ++ of_tree p b) (of_binary p op s t a b)
    (All-append (IsAccessAt ks p) (of_tree p a) (of_tree p b) (in_tree ks p a h.0) (in_tree ks p b h.1))
    (at_binary ks p op s t a b (record { typed = h.0; fits = h.2 }) h.1 h.3)

-- ---- instructions, points

at_index : (ks : Kinds) (p : ℕ) (b : Bool) (s : Site) (n : ℕ) (i : TreeOf ℕ) → IsTyped ks i → All (IsAccessAt ks p) (of_index p b s n i)
at_index ks p true s n i h = one ks p s (Index n i) h tt
at_index ks p false s n i h = All-nil (IsAccessAt ks p)

pub in_instr : (ks : Kinds) (p : ℕ) (i : InstrOf ℕ) → IsTypedInstr ks i → All (IsAccessAt ks p) (of_instr p i)
unfolding of_instr
in_instr ks p Skip h = All-nil (IsAccessAt ks p)
in_instr ks p (Set x e) h = in_tree ks p e h.1.typed
in_instr ks p (Havoc x t n) h = All-nil (IsAccessAt ks p)
in_instr ks p (Clear a) h = All-nil (IsAccessAt ks p)
in_instr ks p (Load x a s b i) h = All-append (IsAccessAt ks p) (of_tree p i) (of_index p b s a.length i) (in_tree ks p i h.3) (at_index ks p b s a.length i h.3)
in_instr ks p (Store a s b i e) h =
    All-append (IsAccessAt ks p) (of_tree p i ++ of_tree p e) (of_index p b s a.length i)
    (All-append (IsAccessAt ks p) (of_tree p i) (of_tree p e) (in_tree ks p i h.1) (in_tree ks p e h.2.typed))
    (at_index ks p b s a.length i h.1)
in_instr ks p (Guard e b) h = in_tree ks p e h
in_instr ks p (Check s e) h = All-append (IsAccessAt ks p) (of_tree p e) (access p s (Assertion e) ∷ []) (in_tree ks p e h) (one ks p s (Assertion e) h tt)

at_point : (g : GraphOf) (p : ℕ) (es : List EdgeOf) → All (IsEdgeOf g) es → All (IsAccessAt (kinds_of g) p) (of_edges p es)
at_point g p [] h = All-nil (IsAccessAt (kinds_of g) p)
at_point g p (e ∷ es) h = in_instr (kinds_of g) p e.instr (All-head (IsEdgeOf g) e es h).typed

-- ---- the graph

pub record IsAccess (g : GraphOf) (a : AccessOf) : Type 0 where
  pub typed : IsTypedOperation (kinds_of g) a.operation
  pub kind : HasKind a.operation

whole : (g : GraphOf) (ps : List PointOf) (p : ℕ) → All (IsPointOf g) ps → All (IsAccess g) (of_points p ps)
whole g [] p h = All-nil (IsAccess g)
whole g (x ∷ xs) p h =
    All-append (IsAccess g) (of_edges p x.edges) (of_points (p + 1) xs) (each (of_edges p x.edges) (at_point g p x.edges (All-head (IsPointOf g) x xs h).edges)) (whole g xs (p + 1) (All-tail (IsPointOf g) x xs h))
  where
    each : (more : List AccessOf) → All (IsAccessAt (kinds_of g) p) more → All (IsAccess g) more
    each more k = λ i d j. let h = k i d j in record { typed = h.typed; kind = h.kind }

pub accesses_are : (g : GraphOf) → IsGraph g → All (IsAccess g) (accesses_of g)
accesses_are g made = whole g g.points 0 made.points

abbrev IsBelow : ℕ → AccessOf → Type 0
IsBelow n a = a.point < n

-- each is at a point of the graph
below : (g : GraphOf) (ps : List PointOf) (p : ℕ) → All (IsPointOf g) ps → All (IsBelow (p + length ps)) (of_points p ps)
below g [] p h = All-nil (IsBelow (p + length (let none : List PointOf = [] in none)))
below g (x ∷ xs) p h =
    All-append (IsBelow (p + length (x ∷ xs))) (of_edges p x.edges) (of_points (p + 1) xs) (first (of_edges p x.edges) (at_point g p x.edges (All-head (IsPointOf g) x xs h).edges)) (rest (of_points (p + 1) xs) (below g xs (p + 1) (All-tail (IsPointOf g) x xs h)))
  where
    first : (more : List AccessOf) → All (IsAccessAt (kinds_of g) p) more → All (IsBelow (p + length (x ∷ xs))) more
    first more k = λ i d j. let at = (k i d j).point in omega (arith, at)

    rest : (more : List AccessOf) → All (IsBelow (p + 1 + length xs)) more → All (IsBelow (p + length (x ∷ xs))) more
    rest more k = λ i d j. let at = k i d j in omega (arith, at)

pub points_are_there : (g : GraphOf) → IsGraph g → All (λ (a : AccessOf). a.point < length g.points) (accesses_of g)
points_are_there g made = λ i d j. let at = below g g.points 0 made.points i d j in omega (arith, at)
