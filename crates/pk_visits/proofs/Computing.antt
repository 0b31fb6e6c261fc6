-- What the next step computes is computed by an edge from the point on: an operator, unless it was begun on constants and doesn't fault; an index; an assertion.
use Rattle.std.proofs.Common.{◌≡◌, ℕ, ◌⊎◌, List, [], ◌∷◌, Bool, true, false, refl, sym, ap, ◌∙◌, subst, inl, inr, ℤ, Some}
use Rattle.std.specs.Prelude.{pos, Result, Ok, Err}
use Rattle.pk_ctypes.specs.declared.faults.Fault.{Fault}
use Rattle.pk_ctypes.specs.declared.places.Pos.{Pos}
use Rattle.pk_ctypes.specs.declared.types.IntType.{IntType}
use Rattle.pk_ctypes.specs.declared.types.IntType.TheVariants.{Int}
use Rattle.pk_ctypes.specs.declared.types.Op.{Op}
use Rattle.pk_ctypes.specs.Types.{represents, wrapped}
use Rattle.pk_ctypes.specs.Operators.{value_of, result_type}
use Rattle.pk_graph.specs.declared.trees.Site.{Site}
use Rattle.pk_graph.specs.Trees.{constant, variable, converted, unary, binary, Skip, Set, Havoc, Clear, Load, Store, Guard, Check}
use Rattle.pk_graph.specs.Steps.{Numbers, Failure, number_at, tree_value, at_site}
use Rattle.pk_draft.specs.Folding.{conversion, kept_if, folded, unary_tree, binary_tree, operated_tree, right_type}
use Rattle.pk_lower_row.specs.Rows.{one_tree}
use Rattle.pk_lower_statement.specs.declared.statements.Exits.{Exits}
use Rattle.pk_meaning.specs.Objects.{Object, Array}
use Rattle.pk_meaning.specs.Work as work
use Rattle.pk_meaning.specs.Work.{Place, Work}
use Rattle.pk_meaning.specs.Steps.{operated}
use Rattle.pk_visits.proofs.Slots.{own, temporary, SlotTree, Instr, Memory, memory, memory_numbers}
use Rattle.pk_visits.proofs.Stands.{Whole, Held, held, IsApart, IsNumber, IsVariable, IsBegunOne, IsBegunTwo, IsTested, Means, site_at, cells, Laid}
use Rattle.pk_visits.proofs.Stores.{apart_value}
use Rattle.pk_visits.proofs.Steps.Values.{conversion_ok, unary_value, operated_value}
use Rattle.pk_visits.proofs.Steps.Operators.{sound_means}
use Rattle.pk_visits.proofs.Doom.{both_bools}
use Rattle.pk_visits.proofs.Computed.{Holds, Lasts, Computed, ComputedBy, now, computed, converted_holds}

-- ---- what is sought

-- an operator with one operand, which has a value
abbrev pub IsUnary : Op → Site → IntType → Memory → SlotTree → Type 0
IsUnary op s t m e = (a : SlotTree) × (e ≡ unary op s t a) × (x : ℤ) × (tree_value memory a m ≡ Ok x)

-- with two, which have values
abbrev pub IsBinary : Op → Site → IntType → Memory → SlotTree → Type 0
IsBinary op s t m e = (a : SlotTree) × (b : SlotTree) × (e ≡ binary op s t a b) × (x : ℤ) × (y : ℤ) × (tree_value memory a m ≡ Ok x) × (tree_value memory b m ≡ Ok y)

-- an index that the report lists, which has a value
abbrev pub IsIndex : Site → Memory → Instr → Type 0
IsIndex s m Skip = ⊥
IsIndex s m (Set x e) = ⊥
IsIndex s m (Havoc x t n) = ⊥
IsIndex s m (Clear a) = ⊥
IsIndex s m (Load x a q b i) = (b ≡ true) × (q ≡ s) × (z : ℤ) × (tree_value memory i m ≡ Ok z)
IsIndex s m (Store a q b i e) = (b ≡ true) × (q ≡ s) × (z : ℤ) × (tree_value memory i m ≡ Ok z)
IsIndex s m (Guard e b) = ⊥
IsIndex s m (Check q e) = ⊥

-- an assertion, which has a value
abbrev pub IsAssertion : Site → Memory → Instr → Type 0
IsAssertion s m Skip = ⊥
IsAssertion s m (Set x e) = ⊥
IsAssertion s m (Havoc x t n) = ⊥
IsAssertion s m (Clear a) = ⊥
IsAssertion s m (Load x a q b i) = ⊥
IsAssertion s m (Store a q b i e) = ⊥
IsAssertion s m (Guard e b) = ⊥
IsAssertion s m (Check q e) = (q ≡ s) × (z : ℤ) × (tree_value memory e m ≡ Ok z)

unary_lasts : (op : Op) (s : Site) (t : IntType) → Lasts (IsUnary op s t)
unary_lasts op s t x v m e apart (a, is, y, k) = (a, is, y, apart_value x (v ∷ []) m a (subst (IsApart x) is apart) ∙ k)

binary_lasts : (op : Op) (s : Site) (t : IntType) → Lasts (IsBinary op s t)
binary_lasts op s t x v m e apart (a, b, is, y, z, k, l) =
    let both = subst (IsApart x) is apart in (a, b, is, y, z, apart_value x (v ∷ []) m a both.0 ∙ k, apart_value x (v ∷ []) m b both.1 ∙ l)

-- ---- operators on constants

kept_number : (b : Bool) (t : IntType) (e : SlotTree) → (IsNumber e → ⊥) → IsNumber (kept_if b t e) → ⊥
kept_number true t e h k = h k
kept_number false t e h k = k

number_back : (u t : IntType) (e : SlotTree) → IsNumber (conversion u t e) → IsNumber e
number_back u t (constant r z) h = tt
number_back u t (variable x) h = kept_number (represents t u) t (variable x) (λ k. k) h
number_back u t (converted r e) h = kept_number (represents t u) t (converted r e) (λ k. k) h
number_back u t (unary op s r e) h = kept_number (represents t u) t (unary op s r e) (λ k. k) h
number_back u t (binary op s r a b) h = kept_number (represents t u) t (binary op s r a b) (λ k. k) h

no_number : (e : SlotTree) → IsVariable e → IsNumber e → ⊥
no_number (constant t z) h k = h
no_number (variable x) h k = k
no_number (converted t e) h k = k
no_number (unary op s t e) h k = k
no_number (binary op s t a b) h k = k

-- what is folded has a value
abbrev HasValue : Memory → SlotTree → Type 0
HasValue m e = IsNumber e × ((z : ℤ) × (tree_value memory e m ≡ Ok z))

unary_folded : (P : SlotTree → Type 0) (m : Memory) (r : IntType) (op : Op) (s : Site) (t : IntType) (a : SlotTree) (o : Result ℤ Fault) → P (unary op s t a) → Holds P (folded r (unary op s t a) (Some o)) ⊎ HasValue m (folded r (unary op s t a) (Some o))
unary_folded P m r op s t a (Ok z) h = inr (tt, (z, refl))
unary_folded P m r op s t a (Err f) h = inl (inl h)

unary_node : (op : Op) (s : Site) (t : IntType) (a : SlotTree) (m : Memory) (x : ℤ) → tree_value memory a m ≡ Ok x
    → Holds (IsUnary op s t m) (unary_tree op s t a) ⊎ (IsNumber a × HasValue m (unary_tree op s t a))
unary_node op s t (constant u i) m x k = by (unary_folded (IsUnary op s t m) m (result_type op t) op s t (constant u i) (value_of op t i i) (constant u i, refl, x, k)) where
  by : Holds (IsUnary op s t m) (unary_tree op s t (constant u i)) ⊎ HasValue m (unary_tree op s t (constant u i)) → Holds (IsUnary op s t m) (unary_tree op s t (constant u i)) ⊎ (Unit {0} × HasValue m (unary_tree op s t (constant u i)))
  by (inl h) = inl h
  by (inr h) = inr (tt, h)
unary_node op s t (variable y) m x k = inl (inl (variable y, refl, x, k))
unary_node op s t (converted u e) m x k = inl (inl (converted u e, refl, x, k))
unary_node op s t (unary o q u e) m x k = inl (inl (unary o q u e, refl, x, k))
unary_node op s t (binary o q u a b) m x k = inl (inl (binary o q u a b, refl, x, k))

binary_folded : (P : SlotTree → Type 0) (m : Memory) (r : IntType) (op : Op) (s : Site) (t : IntType) (a b : SlotTree) (o : Result ℤ Fault) → P (binary op s t a b) → Holds P (folded r (binary op s t a b) (Some o)) ⊎ HasValue m (folded r (binary op s t a b) (Some o))
binary_folded P m r op s t a b (Ok z) h = inr (tt, (z, refl))
binary_folded P m r op s t a b (Err f) h = inl (inl h)

constant_node : (op : Op) (s : Site) (t u : IntType) (i : ℤ) (b : SlotTree) (m : Memory) (x y : ℤ) → tree_value memory (constant u i) m ≡ Ok x → tree_value memory b m ≡ Ok y
    → Holds (IsBinary op s t m) (binary_tree op s t (constant u i) b) ⊎ (IsNumber b × HasValue m (binary_tree op s t (constant u i) b))
constant_node op s t u i (constant r j) m x y k l = by (binary_folded (IsBinary op s t m) m (result_type op t) op s t (constant u i) (constant r j) (value_of op t i j) (constant u i, constant r j, refl, x, y, k, l)) where
  by : Holds (IsBinary op s t m) (binary_tree op s t (constant u i) (constant r j)) ⊎ HasValue m (binary_tree op s t (constant u i) (constant r j))
      → Holds (IsBinary op s t m) (binary_tree op s t (constant u i) (constant r j)) ⊎ (Unit {0} × HasValue m (binary_tree op s t (constant u i) (constant r j)))
  by (inl h) = inl h
  by (inr h) = inr (tt, h)
constant_node op s t u i (variable z) m x y k l = inl (inl (constant u i, variable z, refl, x, y, k, l))
constant_node op s t u i (converted r e) m x y k l = inl (inl (constant u i, converted r e, refl, x, y, k, l))
constant_node op s t u i (unary o q r e) m x y k l = inl (inl (constant u i, unary o q r e, refl, x, y, k, l))
constant_node op s t u i (binary o q r c d) m x y k l = inl (inl (constant u i, binary o q r c d, refl, x, y, k, l))

binary_node : (op : Op) (s : Site) (t : IntType) (a b : SlotTree) (m : Memory) (x y : ℤ) → tree_value memory a m ≡ Ok x → tree_value memory b m ≡ Ok y
    → Holds (IsBinary op s t m) (binary_tree op s t a b) ⊎ (IsNumber a × IsNumber b × HasValue m (binary_tree op s t a b))
binary_node op s t (constant u i) b m x y k l = by (constant_node op s t u i b m x y k l) where
  by : Holds (IsBinary op s t m) (binary_tree op s t (constant u i) b) ⊎ (IsNumber b × HasValue m (binary_tree op s t (constant u i) b))
      → Holds (IsBinary op s t m) (binary_tree op s t (constant u i) b) ⊎ (Unit {0} × IsNumber b × HasValue m (binary_tree op s t (constant u i) b))
  by (inl h) = inl h
  by (inr h) = inr (tt, h.0, h.1)
binary_node op s t (variable z) b m x y k l = inl (inl (variable z, b, refl, x, y, k, l))
binary_node op s t (converted u e) b m x y k l = inl (inl (converted u e, b, refl, x, y, k, l))
binary_node op s t (unary o q u e) b m x y k l = inl (inl (unary o q u e, b, refl, x, y, k, l))
binary_node op s t (binary o q u c d) b m x y k l = inl (inl (binary o q u c d, b, refl, x, y, k, l))

-- the left operand is a variable
left_node : (op : Op) (s : Site) (t u v : IntType) (a b : SlotTree) (m : Memory) (x y : ℤ) → IsVariable a → tree_value memory a m ≡ Ok x → tree_value memory b m ≡ Ok y → Holds (IsBinary op s t m) (operated_tree op s t u v a b)
left_node op s t u v a b m x y h k l =
    let i = conversion_ok u t a x m k in
    let j = conversion_ok v (right_type op v t) b y m l in
    by (binary_node op s t (conversion u t a) (conversion v (right_type op v t) b) m i.0 j.0 i.1 j.1) where
      by : Holds (IsBinary op s t m) (operated_tree op s t u v a b) ⊎ (IsNumber (conversion u t a) × IsNumber (conversion v (right_type op v t) b) × HasValue m (operated_tree op s t u v a b)) → Holds (IsBinary op s t m) (operated_tree op s t u v a b)
      by (inl q) = q
      by (inr q) = absurd (no_number a h (number_back u t a q.0))

updated_node : (op : Op) (s : Site) (o t v : IntType) (a b : SlotTree) (m : Memory) (x y : ℤ) → IsVariable a → tree_value memory a m ≡ Ok x → tree_value memory b m ≡ Ok y
    → Holds (IsBinary op s o m) (conversion (result_type op o) t (operated_tree op s o t v a b))
updated_node op s o t v a b m x y h k l = converted_holds (IsBinary op s o m) (result_type op o) t (operated_tree op s o t v a b) (left_node op s o t v a b m x y h k l)

ok_of : (s : Site) (r : Result ℤ Fault) (z : ℤ) → at_site s r ≡ Ok z → r ≡ Ok z
ok_of s (Ok v) z h = ap Ok (same v z h) where
  same : (v z : ℤ) → (let x : Result ℤ Failure = Ok v in x) ≡ Ok z → v ≡ z
  same v z e = cc e
ok_of s (Err f) z h = absurd (cc h)

-- ---- by the work at hand

pub apply_computed : (g : Whole) (k : ℕ) (h : Place) (x : Exits) (op : Op) (at : Pos) (t : IntType) (w : Work) (p : ℕ) (m : Memory) (a : Held) (hs : List Held) (v : ℤ) (vs : Numbers)
    → Laid g k h x (work.Apply op at t w) p (a ∷ hs) → Means m (a ∷ hs) (v ∷ vs)
    → Computed g k h (ComputedBy (IsUnary op (site_at k at) t)) p m ⊎ (IsBegunOne g k op at t w × ((z : ℤ) × (value_of op t (wrapped t v) (wrapped t v) ≡ Ok z)))
apply_computed g k h x op at t w p m a hs v vs l e =
    let q = conversion_ok a.int_type t a.tree v m e.0 in by (unary_node op (site_at k at) t (conversion a.int_type t a.tree) m q.0 q.1) where
      by : Holds (IsUnary op (site_at k at) t m) (unary_tree op (site_at k at) t (conversion a.int_type t a.tree)) ⊎ (IsNumber (conversion a.int_type t a.tree) × HasValue m (unary_tree op (site_at k at) t (conversion a.int_type t a.tree)))
          → Computed g k h (ComputedBy (IsUnary op (site_at k at) t)) p m ⊎ (IsBegunOne g k op at t w × ((z : ℤ) × (value_of op t (wrapped t v) (wrapped t v) ≡ Ok z)))
      by (inl i) = inl (computed g (IsUnary op (site_at k at) t) (unary_lasts op (site_at k at) t) k h x w p (held (unary_tree op (site_at k at) t (conversion a.int_type t a.tree)) (result_type op t) ∷ hs) m l.0 (inl (i, sound_means m hs vs e.2)))
      by (inr (n, (folds, (z, i)))) = inr (l.1 folds, (z, ok_of (site_at k at) (value_of op t (wrapped t v) (wrapped t v)) z (sym (unary_value op (site_at k at) t a.int_type a.tree v m e.1 e.0) ∙ i)))

pub operate_computed : (g : Whole) (k : ℕ) (h : Place) (x : Exits) (op : Op) (at : Pos) (t : IntType) (w : Work) (p : ℕ) (m : Memory) (a c : Held) (hs : List Held) (u v : ℤ) (vs : Numbers)
    → Laid g k h x (work.Operate op at t w) p (c ∷ a ∷ hs) → Means m (c ∷ a ∷ hs) (v ∷ u ∷ vs)
    → Computed g k h (ComputedBy (IsBinary op (site_at k at) t)) p m ⊎ (IsBegunTwo g k op at t w × ((z : ℤ) × (operated op t u v ≡ Ok z)))
operate_computed g k h x op at t w p m a c hs u v vs l e =
    let q = conversion_ok a.int_type t a.tree u m e.2.0 in
    let r = conversion_ok c.int_type (right_type op c.int_type t) c.tree v m e.0 in
    by (binary_node op (site_at k at) t (conversion a.int_type t a.tree) (conversion c.int_type (right_type op c.int_type t) c.tree) m q.0 r.0 q.1 r.1) where
      i : SlotTree
      i = operated_tree op (site_at k at) t a.int_type c.int_type a.tree c.tree

      by : Holds (IsBinary op (site_at k at) t m) i ⊎ (IsNumber (conversion a.int_type t a.tree) × IsNumber (conversion c.int_type (right_type op c.int_type t) c.tree) × HasValue m i)
          → Computed g k h (ComputedBy (IsBinary op (site_at k at) t)) p m ⊎ (IsBegunTwo g k op at t w × ((z : ℤ) × (operated op t u v ≡ Ok z)))
      by (inl j) = inl (computed g (IsBinary op (site_at k at) t) (binary_lasts op (site_at k at) t) k h x w p (held i (result_type op t) ∷ hs) m l.0 (inl (j, sound_means m hs vs e.2.2)))
      by (inr (n, o, (folds, (z, j)))) = inr (l.1 folds, (z, ok_of (site_at k at) (operated op t u v) z (sym (operated_value op (site_at k at) t a.int_type c.int_type a.tree c.tree u v m e.2.1 e.2.0 e.1 e.0) ∙ j)))

pub update_computed : (g : Whole) (k : ℕ) (h : Place) (x : Exits) (op : Op) (at : Pos) (o t : IntType) (y : Object) (w : Work) (p : ℕ) (m : Memory) (a : Held) (hs : List Held) (v : ℤ) (vs : Numbers)
    → Laid g k h x (work.Update op at o t y w) p (a ∷ hs) → Means m (a ∷ hs) (v ∷ vs) → Computed g k h (ComputedBy (IsBinary op (site_at k at) o)) p m
update_computed g k h x op at o t y w p m a hs v vs l e =
    now l.0 (Set (own y) (conversion (result_type op o) t (operated_tree op (site_at k at) o t a.int_type (variable (own y)) a.tree))) l.2.there
    (updated_node op (site_at k at) o t a.int_type (variable (own y)) a.tree m (number_at (memory_numbers (own y) m) 0) v tt refl e.0)

pub advance_computed : (g : Whole) (k : ℕ) (h : Place) (x : Exits) (op : Op) (at : Pos) (o t : IntType) (y : Object) (w : Work) (p : ℕ) (m : Memory) (hs : List Held)
    → Laid g k h x (work.Advance op at o t y w) p hs → Computed g k h (ComputedBy (IsBinary op (site_at k at) o)) p m
advance_computed g k h x op at o t y w p m hs l =
    now l.0 (Set (own y) (conversion (result_type op o) t (operated_tree op (site_at k at) o t Int (variable (own y)) one_tree))) l.2.there
    (updated_node op (site_at k at) o t Int (variable (own y)) one_tree m (number_at (memory_numbers (own y) m) 0) (pos 1) tt refl refl)

pub renew_computed : (g : Whole) (k : ℕ) (h : Place) (x : Exits) (op : Op) (at : Pos) (o : IntType) (r : Pos) (a : Array) (w : Work) (p : ℕ) (m : Memory) (n c d : Held) (hs : List Held) (i v u : ℤ) (vs : Numbers)
    → Laid g k h x (work.Renew op at o r a w) p (d ∷ c ∷ n ∷ hs) → Means m (d ∷ c ∷ n ∷ hs) (u ∷ v ∷ i ∷ vs) → Computed g k h (ComputedBy (IsBinary op (site_at k at) o)) p m
renew_computed g k h x op at o r a w p m n c d hs i v u vs l e =
    now l.0 (Store (cells a) (site_at k r) false n.tree (conversion (result_type op o) a.int_type (operated_tree op (site_at k at) o a.int_type c.int_type d.tree c.tree))) l.4.there
    (inr (updated_node op (site_at k at) o a.int_type c.int_type d.tree c.tree m u v l.7 e.0 e.2.0))

pub replace_computed : (g : Whole) (k : ℕ) (h : Place) (x : Exits) (op : Op) (at : Pos) (o : IntType) (r : Pos) (a : Array) (w : Work) (p : ℕ) (m : Memory) (n c d : Held) (hs : List Held) (i v u : ℤ) (vs : Numbers)
    → Laid g k h x (work.Replace op at o r a w) p (d ∷ c ∷ n ∷ hs) → Means m (d ∷ c ∷ n ∷ hs) (u ∷ v ∷ i ∷ vs) → Computed g k h (ComputedBy (IsBinary op (site_at k at) o)) p m
replace_computed g k h x op at o r a w p m n c d hs i v u vs l e =
    now l.0 (Store (cells a) (site_at k r) false n.tree (conversion (result_type op o) a.int_type (operated_tree op (site_at k at) o a.int_type c.int_type d.tree c.tree))) l.4.there
    (inr (updated_node op (site_at k at) o a.int_type c.int_type d.tree c.tree m u v l.7 e.0 e.2.0))

pub renewed_computed : (g : Whole) (k : ℕ) (h : Place) (x : Exits) (op : Op) (at : Pos) (o t : IntType) (w : Work) (p : ℕ) (m : Memory) (n c d : Held) (hs : List Held) (i v u : ℤ) (vs : Numbers)
    → Laid g k h x (work.Renewed op at o t w) p (d ∷ c ∷ n ∷ hs) → Means m (d ∷ c ∷ n ∷ hs) (u ∷ v ∷ i ∷ vs) → Computed g k h (ComputedBy (IsBinary op (site_at k at) o)) p m
renewed_computed g k h x op at o t w p m n c d hs i v u vs l e =
    now l.0 (Set (temporary l.1) (conversion (result_type op o) t (operated_tree op (site_at k at) o t c.int_type d.tree c.tree))) l.4.there
    (updated_node op (site_at k at) o t c.int_type d.tree c.tree m u v l.6 e.0 e.2.0)

-- ---- indices and assertions

pub load_computed : (g : Whole) (k : ℕ) (h : Place) (x : Exits) (at : Pos) (a : Array) (w : Work) (p : ℕ) (m : Memory) (c : Held) (hs : List Held) (i : ℤ) (vs : Numbers)
    → Laid g k h x (work.Load at a w) p (c ∷ hs) → Means m (c ∷ hs) (i ∷ vs) → Computed g k h (IsIndex (site_at k at)) p m
load_computed g k h x at a w p m c hs i vs l e = now l.0 (Load (temporary l.1) (cells a) (site_at k at) true c.tree) l.3.there (refl, refl, i, e.0)

pub reload_computed : (g : Whole) (k : ℕ) (h : Place) (x : Exits) (at : Pos) (a : Array) (w : Work) (p : ℕ) (m : Memory) (c d : Held) (hs : List Held) (i v : ℤ) (vs : Numbers)
    → Laid g k h x (work.Reload at a w) p (d ∷ c ∷ hs) → Means m (d ∷ c ∷ hs) (v ∷ i ∷ vs) → Computed g k h (IsIndex (site_at k at)) p m
reload_computed g k h x at a w p m c d hs i v vs l e = now l.0 (Load (temporary l.1) (cells a) (site_at k at) true c.tree) l.3.there (refl, refl, i, e.2.0)

pub store_computed : (g : Whole) (k : ℕ) (h : Place) (x : Exits) (at : Pos) (a : Array) (w : Work) (p : ℕ) (m : Memory) (c d : Held) (hs : List Held) (i v : ℤ) (vs : Numbers)
    → Laid g k h x (work.Store at a w) p (d ∷ c ∷ hs) → Means m (d ∷ c ∷ hs) (v ∷ i ∷ vs) → Computed g k h (IsIndex (site_at k at)) p m
store_computed g k h x at a w p m c d hs i v vs l e = now l.0 (Store (cells a) (site_at k at) true c.tree (conversion d.int_type a.int_type d.tree)) l.2.there (refl, refl, i, e.2.0)

-- an element that is read before it is written has its index tested there
pub store_kept_computed : (g : Whole) (k : ℕ) (h : Place) (x : Exits) (at : Pos) (a : Array) (w : Work) (p : ℕ) (m : Memory) (c d : Held) (hs : List Held) (i v : ℤ) (vs : Numbers)
    → Laid g k h x (work.StoreKept at a w) p (d ∷ c ∷ hs) → Means m (d ∷ c ∷ hs) (v ∷ i ∷ vs) → Computed g k h (IsIndex (site_at k at)) p m ⊎ g.read k at
store_kept_computed g k h x at a w p m c d hs i v vs l e = both_bools (Computed g k h (IsIndex (site_at k at)) p m ⊎ g.read k at) l.1
    (λ is. inl (now l.0 (Store (cells a) (site_at k at) l.1 c.tree d.tree) l.4.there (is, refl, i, e.2.0)))
    (λ is. inr (subst (λ t. IsTested t c.below a.length (g.read k at)) is l.6).1)

pub claim_computed : (g : Whole) (k : ℕ) (h : Place) (x : Exits) (at : Pos) (w : Work) (p : ℕ) (m : Memory) (a : Held) (hs : List Held) (v : ℤ) (vs : Numbers)
    → Laid g k h x (work.Claim at w) p (a ∷ hs) → Means m (a ∷ hs) (v ∷ vs) → Computed g k h (IsAssertion (site_at k at)) p m
claim_computed g k h x at w p m a hs v vs l e = now l.1 (Check (site_at k at) (conversion a.int_type Int a.tree)) l.2 (let z = conversion_ok a.int_type Int a.tree v m e.0 in (refl, z.0, z.1))
