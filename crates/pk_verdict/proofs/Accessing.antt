-- The operands of a graph's accesses are typed.
use Rattle.std.specs.Prelude.{◌≡◌, ℕ, ◌+◌, Bool, true, false, List, [], ◌∷◌, ◌++◌, length, All}
use Rattle.std.proofs.Common.{arith, refl, sym, subst}
use Rattle.std.proofs.lemmas.List.Elements.{All-nil, All-cons, All-head, All-tail, All-append}
use Rattle.pk_ctypes.specs.declared.types.IntType.{IntType}
use Rattle.pk_ctypes.specs.declared.types.IntType.TheVariants.{Char, SChar, UChar, Short, UShort, Int, UInt, Long, ULong, LLong, ULLong}
use Rattle.pk_ctypes.specs.declared.types.Op.{Op}
use Rattle.pk_ctypes.specs.declared.types.Op.TheVariants.{Add, Sub, Mul, Div, Rem, Shl, Shr, And, Or, Xor, Lt, Gt, Le, Ge, Eq, Ne, Neg, BitNot, Not}
use Rattle.pk_ctypes.specs.Types.{Represents}
use Rattle.pk_graph.specs.declared.trees.Site.{Site}
use Rattle.pk_graph.specs.Trees.{TreeOf, constant, variable, converted, unary, binary, InstrOf, Skip, Set, Havoc, Clear, Load, Store, Guard, Check}
use Rattle.pk_graph.specs.Kinds.{Kinds, IsTyped, IsOfType, IsTypedInstr, IsRight, type_of}
use Rattle.pk_graph.specs.Graphs.{EdgeOf, PointOf, GraphOf}
use Rattle.pk_graph.specs.Graphs as graphs
use Rattle.pk_graph.specs.WellMade.{IsPointOf, IsEdgeOf}
use Rattle.pk_graph.specs.Accesses.{OperationOf, Index, Divisor, Negation, Result, Shift, Assertion, AccessOf, access, if_signed, of_unary, of_binary, of_tree, of_index, of_instr, of_edges, of_points}
use Rattle.pk_state.specs.Layouts.{Layout}
use Rattle.pk_transfer.specs.Trees.{kinds_of, IsOver}
use Rattle.pk_transfer.proofs.Told.{typed_in}
use Rattle.pk_verdict.specs.Verdicts.{IsTypedOperation}
use Rattle.pk_verdict.specs.Typed.{IsAccessOver, AccessesAreOver}

-- an access of point p
record IsAt (ks : Kinds) (p : ℕ) (a : AccessOf) : Type 0 where
  point : a.point ≡ p
  typed : IsTypedOperation ks a.operation

one : (ks : Kinds) (p : ℕ) (s : Site) (o : OperationOf) → IsTypedOperation ks o → All (IsAt ks p) (access p s o ∷ [])
one ks p s o h = All-cons (IsAt ks p) (access p s o) [] (record { point = refl; typed = h }) (All-nil (IsAt ks p))

signed : (ks : Kinds) (p : ℕ) (t : IntType) (s : Site) (o : OperationOf) → IsTypedOperation ks o → All (IsAt ks p) (if_signed t (access p s o))
signed ks p Char s o h = one ks p s o h
signed ks p SChar s o h = one ks p s o h
signed ks p Short s o h = one ks p s o h
signed ks p Int s o h = one ks p s o h
signed ks p Long s o h = one ks p s o h
signed ks p LLong s o h = one ks p s o h
signed ks p UChar s o h = All-nil (IsAt ks p)
signed ks p UShort s o h = All-nil (IsAt ks p)
signed ks p UInt s o h = All-nil (IsAt ks p)
signed ks p ULong s o h = All-nil (IsAt ks p)
signed ks p ULLong s o h = All-nil (IsAt ks p)

-- ---- trees

at_unary : (ks : Kinds) (p : ℕ) (op : Op) (s : Site) (t : IntType) (e : TreeOf ℕ) → IsOfType ks t e → All (IsAt ks p) (of_unary p op s t e)
at_unary ks p Neg s t e h = signed ks p t s (Negation t e) h
at_unary ks p BitNot s t e h = All-nil (IsAt ks p)
at_unary ks p Not s t e h = All-nil (IsAt ks p)
at_unary ks p Add s t e h = All-nil (IsAt ks p)
at_unary ks p Sub s t e h = All-nil (IsAt ks p)
at_unary ks p Mul s t e h = All-nil (IsAt ks p)
at_unary ks p Div s t e h = All-nil (IsAt ks p)
at_unary ks p Rem s t e h = All-nil (IsAt ks p)
at_unary ks p Shl s t e h = All-nil (IsAt ks p)
at_unary ks p Shr s t e h = All-nil (IsAt ks p)
at_unary ks p And s t e h = All-nil (IsAt ks p)
at_unary ks p Or s t e h = All-nil (IsAt ks p)
at_unary ks p Xor s t e h = All-nil (IsAt ks p)
at_unary ks p Lt s t e h = All-nil (IsAt ks p)
at_unary ks p Gt s t e h = All-nil (IsAt ks p)
at_unary ks p Le s t e h = All-nil (IsAt ks p)
at_unary ks p Ge s t e h = All-nil (IsAt ks p)
at_unary ks p Eq s t e h = All-nil (IsAt ks p)
at_unary ks p Ne s t e h = All-nil (IsAt ks p)

at_binary : (ks : Kinds) (p : ℕ) (op : Op) (s : Site) (t : IntType) (a b : TreeOf ℕ) → IsOfType ks t a → IsTyped ks b → IsRight op t (type_of ks b) → All (IsAt ks p) (of_binary p op s t a b)
at_binary ks p Add s t a b h k r = signed ks p t s (Result Add t a b) (h, k, r)
at_binary ks p Sub s t a b h k r = signed ks p t s (Result Sub t a b) (h, k, r)
at_binary ks p Mul s t a b h k r = signed ks p t s (Result Mul t a b) (h, k, r)
at_binary ks p Div s t a b h k r = All-cons (IsAt ks p) (access p s (Divisor a b)) (if_signed t (access p s (Result Div t a b))) (record { point = refl; typed = (h.typed, k) }) (signed ks p t s (Result Div t a b) (h, k, r))
at_binary ks p Rem s t a b h k r = All-cons (IsAt ks p) (access p s (Divisor a b)) (if_signed t (access p s (Result Rem t a b))) (record { point = refl; typed = (h.typed, k) }) (signed ks p t s (Result Rem t a b) (h, k, r))
at_binary ks p Shl s t a b h k r = one ks p s (Shift Shl t a b) (h, k, r)
at_binary ks p Shr s t a b h k r = one ks p s (Shift Shr t a b) (h, k, r)
at_binary ks p And s t a b h k r = All-nil (IsAt ks p)
at_binary ks p Or s t a b h k r = All-nil (IsAt ks p)
at_binary ks p Xor s t a b h k r = All-nil (IsAt ks p)
at_binary ks p Lt s t a b h k r = All-nil (IsAt ks p)
at_binary ks p Gt s t a b h k r = All-nil (IsAt ks p)
at_binary ks p Le s t a b h k r = All-nil (IsAt ks p)
at_binary ks p Ge s t a b h k r = All-nil (IsAt ks p)
at_binary ks p Eq s t a b h k r = All-nil (IsAt ks p)
at_binary ks p Ne s t a b h k r = All-nil (IsAt ks p)
at_binary ks p Neg s t a b h k r = absurd r
at_binary ks p BitNot s t a b h k r = absurd r
at_binary ks p Not s t a b h k r = absurd r

in_tree : (ks : Kinds) (p : ℕ) (e : TreeOf ℕ) → IsTyped ks e → All (IsAt ks p) (of_tree p e)
unfolding of_tree
in_tree ks p (constant t n) h = All-nil (IsAt ks p)
in_tree ks p (variable x) h = All-nil (IsAt ks p)
in_tree ks p (converted t e) h = in_tree ks p e h
in_tree ks p (unary op s t e) h =
    All-append (IsAt ks p) (of_tree p e) (of_unary p op s t e) (in_tree ks p e h.1) (at_unary ks p op s t e (record { typed = h.1; fits = h.2 }))
in_tree ks p (binary op s t a b) h =
    All-append (IsAt ks p) (of_tree p a ++ of_tree p b) (of_binary p op s t a b)
    (All-append (IsAt ks p) (of_tree p a) (of_tree p b) (in_tree ks p a h.0) (in_tree ks p b h.1))
    (at_binary ks p op s t a b (record { typed = h.0; fits = h.2 }) h.1 h.3)

-- ---- instructions, points

at_index : (ks : Kinds) (p : ℕ) (b : Bool) (s : Site) (n : ℕ) (i : TreeOf ℕ) → IsTyped ks i → All (IsAt ks p) (of_index p b s n i)
at_index ks p true s n i h = one ks p s (Index n i) h
at_index ks p false s n i h = All-nil (IsAt ks p)

in_instr : (ks : Kinds) (p : ℕ) (i : InstrOf ℕ) → IsTypedInstr ks i → All (IsAt ks p) (of_instr p i)
unfolding of_instr
in_instr ks p Skip h = All-nil (IsAt ks p)
in_instr ks p (Set x e) h = in_tree ks p e h.1.typed
in_instr ks p (Havoc x t n) h = All-nil (IsAt ks p)
in_instr ks p (Clear a) h = All-nil (IsAt ks p)
in_instr ks p (Load x a s b i) h = All-append (IsAt ks p) (of_tree p i) (of_index p b s a.length i) (in_tree ks p i h.3) (at_index ks p b s a.length i h.3)
in_instr ks p (Store a s b i e) h =
    All-append (IsAt ks p) (of_tree p i ++ of_tree p e) (of_index p b s a.length i)
    (All-append (IsAt ks p) (of_tree p i) (of_tree p e) (in_tree ks p i h.1) (in_tree ks p e h.2.typed))
    (at_index ks p b s a.length i h.1)
in_instr ks p (Guard e b) h = in_tree ks p e h
in_instr ks p (Check s e) h = All-append (IsAt ks p) (of_tree p e) (access p s (Assertion e) ∷ []) (in_tree ks p e h) (one ks p s (Assertion e) h)

at_point : (g : GraphOf) (p : ℕ) (es : List EdgeOf) → All (IsEdgeOf g) es → All (IsAt (graphs.kinds_of g) p) (of_edges p es)
at_point g p [] h = All-nil (IsAt (graphs.kinds_of g) p)
at_point g p (e ∷ es) h = in_instr (graphs.kinds_of g) p e.instr (All-head (IsEdgeOf g) e es h).typed

-- ---- over a layout

of_type : (ks : Kinds) (y : Layout) (t : IntType) (e : TreeOf ℕ) → IsOver ks y → IsOfType ks t e → IsOfType (kinds_of y) t e
of_type ks y t e v h = record { typed = (typed_in ks y e v h.typed).0; fits = subst (Represents t) (sym (typed_in ks y e v h.typed).1) h.fits }

operands_over : (ks : Kinds) (y : Layout) (o : OperationOf) → IsOver ks y → IsTypedOperation ks o → IsTypedOperation (kinds_of y) o
operands_over ks y (Index n i) v h = (typed_in ks y i v h).0
operands_over ks y (Divisor a b) v h = ((typed_in ks y a v h.0).0, (typed_in ks y b v h.1).0)
operands_over ks y (Negation t e) v h = of_type ks y t e v h
operands_over ks y (Result op t a b) v h = (of_type ks y t a v h.0, (typed_in ks y b v h.1).0, subst (IsRight op t) (sym (typed_in ks y b v h.1).1) h.2)
operands_over ks y (Shift op t a b) v h = (of_type ks y t a v h.0, (typed_in ks y b v h.1).0, subst (IsRight op t) (sym (typed_in ks y b v h.1).1) h.2)
operands_over ks y (Assertion e) v h = (typed_in ks y e v h).0

whole : (g : GraphOf) (y : Layout) → IsOver (graphs.kinds_of g) y → (ps : List PointOf) (p : ℕ) → p + length ps ≡ length g.points → All (IsPointOf g) ps → All (IsAccessOver g y) (of_points p ps)
whole g y v [] p e h = All-nil (IsAccessOver g y)
whole g y v (x ∷ xs) p e h =
    All-append (IsAccessOver g y) (of_edges p x.edges) (of_points (p + 1) xs)
    (each (of_edges p x.edges) (at_point g p x.edges (All-head (IsPointOf g) x xs h).edges))
    (whole g y v xs (p + 1) (omega (arith, e)) (All-tail (IsPointOf g) x xs h))
  where
    each : (more : List AccessOf) → All (IsAt (graphs.kinds_of g) p) more → All (IsAccessOver g y) more
    each [] k = All-nil (IsAccessOver g y)
    each (a ∷ more) k =
        let h = All-head (IsAt (graphs.kinds_of g) p) a more k in
        All-cons (IsAccessOver g y) a more
        (record { point = omega (arith, e, h.point); typed = operands_over (graphs.kinds_of g) y a.operation v h.typed })
        (each more (All-tail (IsAt (graphs.kinds_of g) p) a more k))

pub accesses_over : AccessesAreOver
accesses_over g y h v = whole g y v g.points 0 (omega arith) h.points
