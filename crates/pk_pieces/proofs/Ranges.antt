-- The accesses of a graph, point by point.
use Rattle.std.specs.Prelude.{◌≡◌, ℕ, zero, suc, ◌+◌, ◌<◌, ◌≤◌, Bool, true, false, List, [], ◌∷◌, ◌++◌, length, take, drop, slice_index_or, All}
use Rattle.std.proofs.Common.{arith, refl, sym, ap, ◌∙◌, append_assoc, append-nil}
use Rattle.std.proofs.lemmas.List.Elements.{All-nil, All-cons, All-append, All-weaker}
use Rattle.pk_ctypes.specs.declared.types.IntType.{IntType}
use Rattle.pk_ctypes.specs.Types.{is_signed_of}
use Rattle.pk_ctypes.specs.declared.types.Op.{Op}
use Rattle.pk_ctypes.specs.declared.types.Op.TheVariants.{Add, Sub, Mul, Div, Rem, Shl, Shr, Neg}
use Rattle.pk_graph.specs.declared.trees.Site.{Site}
use Rattle.pk_graph.specs.Trees.{TreeOf, constant, variable, converted, unary, binary, InstrOf, Skip, Set, Havoc, Clear, Load, Store, Guard, Check}
use Rattle.pk_graph.specs.Graphs.{EdgeOf, PointOf, no_point}
use Rattle.pk_graph.specs.Accesses.{OperationOf, Divisor, Negation, Result, Shift, Index, Assertion, AccessOf, access, if_signed, of_unary, of_binary, of_tree, of_index, of_instr, of_edges, of_points}

-- an access of point p
abbrev pub IsAt : ℕ → AccessOf → Type 0
IsAt p a = a.point ≡ p

one : (p : ℕ) (s : Site) (o : OperationOf) → All (IsAt p) (access p s o ∷ [])
one p s o = All-cons (IsAt p) (access p s o) [] refl (All-nil (IsAt p))

signed : (p : ℕ) (t : IntType) (s : Site) (o : OperationOf) → All (IsAt p) (if_signed t (access p s o))
signed p t s o = by (is_signed_of t) refl
  where
    by : (b : Bool) → is_signed_of t ≡ b → All (IsAt p) (if_signed t (access p s o))
    by true e = rw e (one p s o)
    by false e = rw e (All-nil (IsAt p))

at_unary : (p : ℕ) (op : Op) (s : Site) (t : IntType) (e : TreeOf ℕ) → All (IsAt p) (of_unary p op s t e)
at_unary p Neg s t e = signed p t s (Negation t e)
at_unary p op s t e = All-nil (IsAt p)

at_binary : (p : ℕ) (op : Op) (s : Site) (t : IntType) (a b : TreeOf ℕ) → All (IsAt p) (of_binary p op s t a b)
at_binary p Add s t a b = signed p t s (Result Add t a b)
at_binary p Sub s t a b = signed p t s (Result Sub t a b)
at_binary p Mul s t a b = signed p t s (Result Mul t a b)
at_binary p Div s t a b = All-cons (IsAt p) (access p s (Divisor a b)) (if_signed t (access p s (Result Div t a b))) refl (signed p t s (Result Div t a b))
at_binary p Rem s t a b = All-cons (IsAt p) (access p s (Divisor a b)) (if_signed t (access p s (Result Rem t a b))) refl (signed p t s (Result Rem t a b))
at_binary p Shl s t a b = one p s (Shift Shl t a b)
at_binary p Shr s t a b = one p s (Shift Shr t a b)
at_binary p op s t a b = All-nil (IsAt p)

at_tree : (p : ℕ) (e : TreeOf ℕ) → All (IsAt p) (of_tree p e)
unfolding of_tree
at_tree p (constant t n) = All-nil (IsAt p)
at_tree p (variable x) = All-nil (IsAt p)
at_tree p (converted t e) = at_tree p e
at_tree p (unary op s t e) = All-append (IsAt p) (of_tree p e) (of_unary p op s t e) (at_tree p e) (at_unary p op s t e)
at_tree p (binary op s t a b) =
    All-append (IsAt p) (of_tree p a ++ of_tree p b) (of_binary p op s t a b)
    (All-append (IsAt p) (of_tree p a) (of_tree p b) (at_tree p a) (at_tree p b))
    (at_binary p op s t a b)

at_index : (p : ℕ) (b : Bool) (s : Site) (n : ℕ) (i : TreeOf ℕ) → All (IsAt p) (of_index p b s n i)
at_index p true s n i = one p s (Index n i)
at_index p false s n i = All-nil (IsAt p)

at_instr : (p : ℕ) (i : InstrOf ℕ) → All (IsAt p) (of_instr p i)
unfolding of_instr
at_instr p Skip = All-nil (IsAt p)
at_instr p (Set x e) = at_tree p e
at_instr p (Havoc x t n) = All-nil (IsAt p)
at_instr p (Clear a) = All-nil (IsAt p)
at_instr p (Load x a s b i) = All-append (IsAt p) (of_tree p i) (of_index p b s a.length i) (at_tree p i) (at_index p b s a.length i)
at_instr p (Store a s b i e) =
    All-append (IsAt p) (of_tree p i ++ of_tree p e) (of_index p b s a.length i)
    (All-append (IsAt p) (of_tree p i) (of_tree p e) (at_tree p i) (at_tree p e))
    (at_index p b s a.length i)
at_instr p (Guard e b) = at_tree p e
at_instr p (Check s e) = All-append (IsAt p) (of_tree p e) (access p s (Assertion e) ∷ []) (at_tree p e) (one p s (Assertion e))

pub at_edges : (p : ℕ) (es : List EdgeOf) → All (IsAt p) (of_edges p es)
at_edges p [] = All-nil (IsAt p)
at_edges p (e ∷ es) = at_instr p e.instr

-- ---- those before a point's, and those from there on

pub parts : (p v q : ℕ) (xs : List PointOf) → q ≡ p + v → of_points p xs ≡ of_points p (take v xs) ++ of_points q (drop v xs)
parts p zero q [] e = refl
parts p (suc v) q [] e = refl
parts p zero q (x ∷ xs) e = let is : q ≡ p = omega (arith, e) in rw is refl
parts p (suc v) q (x ∷ xs) e =
    ap (λ (ys : List AccessOf). of_edges p x.edges ++ ys) (parts (p + 1) v q xs (omega (arith, e)))
    ∙ sym (append_assoc (of_edges p x.edges) (of_points (p + 1) (take v xs)) (of_points q (drop v xs)))

pub next : (p v q : ℕ) (xs : List PointOf) → q ≡ p + v → of_points p (take (suc v) xs) ≡ of_points p (take v xs) ++ of_edges q (slice_index_or xs v no_point).edges
next p zero q [] e = refl
next p (suc v) q [] e = refl
next p zero q (x ∷ xs) e = let is : q ≡ p = omega (arith, e) in rw is (append-nil (of_edges p x.edges))
next p (suc v) q (x ∷ xs) e =
    ap (λ (ys : List AccessOf). of_edges p x.edges ++ ys) (next (p + 1) v q xs (omega (arith, e)))
    ∙ sym (append_assoc (of_edges p x.edges) (of_points (p + 1) (take v xs)) (of_edges q (slice_index_or xs v no_point).edges))

-- an access of one of the points from p up to q
abbrev pub IsWithin : (p q : ℕ) → AccessOf → Type 0
IsWithin p q a = (p ≤ a.point) × (a.point < q)

pub within : (p q : ℕ) (xs : List PointOf) → p + length xs ≤ q → All (IsWithin p q) (of_points p xs)
within p q [] h = All-nil (IsWithin p q)
within p q (x ∷ xs) h =
    All-append (IsWithin p q) (of_edges p x.edges) (of_points (p + 1) xs)
    (All-weaker (IsAt p) (IsWithin p q) (λ a e. (omega (arith, e), omega (arith, e, h))) (of_edges p x.edges) (at_edges p x.edges))
    (All-weaker (IsWithin (p + 1) q) (IsWithin p q) (λ a i. (omega (arith, i.0), i.1)) (of_points (p + 1) xs) (within (p + 1) q xs (omega (arith, h))))
