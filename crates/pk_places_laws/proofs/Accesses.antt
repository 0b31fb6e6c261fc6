-- The accesses of a graph are made at the sites of its trees.
use Rattle.std.specs.Prelude.{ℕ, ◌+◌, Bool, true, false, List, [], ◌∷◌, ◌++◌, All}
use Rattle.std.proofs.lemmas.List.Elements.{All-nil, All-cons, All-head, All-tail, All-append}
use Rattle.pk_ctypes.specs.declared.types.IntType.{IntType}
use Rattle.pk_ctypes.specs.declared.types.IntType.TheVariants.{Char, SChar, UChar, Short, UShort, Int, UInt, Long, ULong, LLong, ULLong}
use Rattle.pk_ctypes.specs.declared.types.Op.{Op}
use Rattle.pk_ctypes.specs.declared.types.Op.TheVariants.{Add, Sub, Mul, Div, Rem, Shl, Shr, And, Or, Xor, Lt, Gt, Le, Ge, Eq, Ne, Neg, BitNot, Not}
use Rattle.pk_graph.specs.declared.trees.Site.{Site}
use Rattle.pk_graph.specs.Trees.{TreeOf, constant, variable, converted, unary, binary, InstrOf, Skip, Set, Havoc, Clear, Load, Store, Guard, Check}
use Rattle.pk_graph.specs.Graphs.{EdgeOf, PointOf}
use Rattle.pk_graph.specs.Accesses.{OperationOf, Index, Divisor, Negation, Result, Shift, Assertion, AccessOf, access, if_signed, of_unary, of_binary, of_tree, of_index, of_instr, of_edges, of_points}
use Rattle.pk_places_laws.proofs.Told.{Asked, AtSite, AtTree, AtInstr}

abbrev pub IsAt : Asked → AccessOf → Type 0
IsAt w a = AtSite w a.site

one : (w : Asked) (p : ℕ) (s : Site) (o : OperationOf) → AtSite w s → All (IsAt w) (access p s o ∷ [])
one w p s o h = All-cons (IsAt w) (access p s o) [] h (All-nil (IsAt w))

signed : (w : Asked) (p : ℕ) (t : IntType) (s : Site) (o : OperationOf) → AtSite w s → All (IsAt w) (if_signed t (access p s o))
signed w p Char s o h = one w p s o h
signed w p SChar s o h = one w p s o h
signed w p Short s o h = one w p s o h
signed w p Int s o h = one w p s o h
signed w p Long s o h = one w p s o h
signed w p LLong s o h = one w p s o h
signed w p UChar s o h = All-nil (IsAt w)
signed w p UShort s o h = All-nil (IsAt w)
signed w p UInt s o h = All-nil (IsAt w)
signed w p ULong s o h = All-nil (IsAt w)
signed w p ULLong s o h = All-nil (IsAt w)

-- ---- trees

at_unary : (w : Asked) (p : ℕ) (op : Op) (s : Site) (t : IntType) (e : TreeOf ℕ) → AtSite w s → All (IsAt w) (of_unary p op s t e)
at_unary w p Add s t e h = All-nil (IsAt w)
at_unary w p Sub s t e h = All-nil (IsAt w)
at_unary w p Mul s t e h = All-nil (IsAt w)
at_unary w p Div s t e h = All-nil (IsAt w)
at_unary w p Rem s t e h = All-nil (IsAt w)
at_unary w p Shl s t e h = All-nil (IsAt w)
at_unary w p Shr s t e h = All-nil (IsAt w)
at_unary w p And s t e h = All-nil (IsAt w)
at_unary w p Or s t e h = All-nil (IsAt w)
at_unary w p Xor s t e h = All-nil (IsAt w)
at_unary w p Lt s t e h = All-nil (IsAt w)
at_unary w p Gt s t e h = All-nil (IsAt w)
at_unary w p Le s t e h = All-nil (IsAt w)
at_unary w p Ge s t e h = All-nil (IsAt w)
at_unary w p Eq s t e h = All-nil (IsAt w)
at_unary w p Ne s t e h = All-nil (IsAt w)
at_unary w p Neg s t e h = signed w p t s (Negation t e) h
at_unary w p BitNot s t e h = All-nil (IsAt w)
at_unary w p Not s t e h = All-nil (IsAt w)

at_binary : (w : Asked) (p : ℕ) (op : Op) (s : Site) (t : IntType) (a b : TreeOf ℕ) → AtSite w s → All (IsAt w) (of_binary p op s t a b)
at_binary w p Add s t a b h = signed w p t s (Result Add t a b) h
at_binary w p Sub s t a b h = signed w p t s (Result Sub t a b) h
at_binary w p Mul s t a b h = signed w p t s (Result Mul t a b) h
at_binary w p Div s t a b h = All-cons (IsAt w) (access p s (Divisor a b)) (if_signed t (access p s (Result Div t a b))) h (signed w p t s (Result Div t a b) h)
at_binary w p Rem s t a b h = All-cons (IsAt w) (access p s (Divisor a b)) (if_signed t (access p s (Result Rem t a b))) h (signed w p t s (Result Rem t a b) h)
at_binary w p Shl s t a b h = one w p s (Shift Shl t a b) h
at_binary w p Shr s t a b h = one w p s (Shift Shr t a b) h
at_binary w p And s t a b h = All-nil (IsAt w)
at_binary w p Or s t a b h = All-nil (IsAt w)
at_binary w p Xor s t a b h = All-nil (IsAt w)
at_binary w p Lt s t a b h = All-nil (IsAt w)
at_binary w p Gt s t a b h = All-nil (IsAt w)
at_binary w p Le s t a b h = All-nil (IsAt w)
at_binary w p Ge s t a b h = All-nil (IsAt w)
at_binary w p Eq s t a b h = All-nil (IsAt w)
at_binary w p Ne s t a b h = All-nil (IsAt w)
at_binary w p Neg s t a b h = All-nil (IsAt w)
at_binary w p BitNot s t a b h = All-nil (IsAt w)
at_binary w p Not s t a b h = All-nil (IsAt w)

in_tree : (w : Asked) (p : ℕ) (e : TreeOf ℕ) → AtTree w e → All (IsAt w) (of_tree p e)
unfolding of_tree
in_tree w p (constant t n) h = All-nil (IsAt w)
in_tree w p (variable x) h = All-nil (IsAt w)
in_tree w p (converted t e) h = in_tree w p e h
in_tree w p (unary op s t e) h = All-append (IsAt w) (of_tree p e) (of_unary p op s t e) (in_tree w p e h.1) (at_unary w p op s t e h.0)
in_tree w p (binary op s t a b) h =
    All-append (IsAt w) (of_tree p a ++ of_tree p b) (of_binary p op s t a b)
    (All-append (IsAt w) (of_tree p a) (of_tree p b) (in_tree w p a h.1) (in_tree w p b h.2))
    (at_binary w p op s t a b h.0)

-- ---- instructions, points

at_index : (w : Asked) (p : ℕ) (b : Bool) (s : Site) (n : ℕ) (i : TreeOf ℕ) → AtSite w s → All (IsAt w) (of_index p b s n i)
at_index w p true s n i h = one w p s (Index n i) h
at_index w p false s n i h = All-nil (IsAt w)

in_instr : (w : Asked) (p : ℕ) (i : InstrOf ℕ) → AtInstr w i → All (IsAt w) (of_instr p i)
unfolding of_instr
in_instr w p Skip h = All-nil (IsAt w)
in_instr w p (Set x e) h = in_tree w p e h
in_instr w p (Havoc x t n) h = All-nil (IsAt w)
in_instr w p (Clear a) h = All-nil (IsAt w)
in_instr w p (Load x a s b i) h = All-append (IsAt w) (of_tree p i) (of_index p b s a.length i) (in_tree w p i h.1) (at_index w p b s a.length i h.0)
in_instr w p (Store a s b i e) h =
    All-append (IsAt w) (of_tree p i ++ of_tree p e) (of_index p b s a.length i)
    (All-append (IsAt w) (of_tree p i) (of_tree p e) (in_tree w p i h.1) (in_tree w p e h.2))
    (at_index w p b s a.length i h.0)
in_instr w p (Guard e b) h = in_tree w p e h
in_instr w p (Check s e) h = All-append (IsAt w) (of_tree p e) (access p s (Assertion e) ∷ []) (in_tree w p e h.1) (one w p s (Assertion e) h.0)

abbrev pub AreAt : Asked → List EdgeOf → Type 0
AreAt w = All (λ (e : EdgeOf). AtInstr w e.instr)

at_point : (w : Asked) (p : ℕ) (es : List EdgeOf) → AreAt w es → All (IsAt w) (of_edges p es)
at_point w p [] h = All-nil (IsAt w)
at_point w p (e ∷ es) h = in_instr w p e.instr (All-head (λ (e : EdgeOf). AtInstr w e.instr) e es h)

pub at_points : (w : Asked) (p : ℕ) (ps : List PointOf) → All (λ (q : PointOf). AreAt w q.edges) ps → All (IsAt w) (of_points p ps)
at_points w p [] h = All-nil (IsAt w)
at_points w p (q ∷ ps) h =
    All-append (IsAt w) (of_edges p q.edges) (of_points (p + 1) ps) (at_point w p q.edges (All-head (λ (q : PointOf). AreAt w q.edges) q ps h))
    (at_points w (p + 1) ps (All-tail (λ (q : PointOf). AreAt w q.edges) q ps h))
