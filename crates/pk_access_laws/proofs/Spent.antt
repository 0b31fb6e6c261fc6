-- What the accesses of a draft count: a step adds no more than its instruction counts.
use Rattle.std.proofs.Common.{ℕ, zero, suc, ◌+◌, ◌≤◌, ap, sym, subst, nat_eq, Bool, true, false, not, ◌&&◌, if◌then◌else◌, List, [], ◌∷◌, ◌++◌, append_assoc, arith}
use Rattle.std.specs.List.{filter}
use Rattle.std.proofs.lemmas.List.Elements.{filter-append}
use Rattle.pk_ctypes.specs.declared.types.Op.{Op}
use Rattle.pk_ctypes.specs.declared.types.Op.TheVariants.{Add, Sub, Mul, Div, Rem, Shl, Shr, And, Or, Xor, Lt, Gt, Le, Ge, Eq, Ne, Neg, BitNot, Not}
use Rattle.pk_graph.specs.declared.trees.Site.{Site}
use Rattle.pk_graph.specs.Trees.{TreeOf, constant, variable, converted, unary, binary, InstrOf, Skip, Set, Havoc, Clear, Load, Store, Guard, Check}
use Rattle.pk_draft.specs.Drafts.{DraftOf, EdgeFrom, nowhere, all_placed, placed, fresh, emit}
use Rattle.pk_number.specs.Numbering.{is_from, edges_from}

-- m for each time that a number stands in a list
abbrev pub repeated : (x m : ℕ) → List ℕ → ℕ
repeated x m [] = 0
repeated x m (p ∷ ps) = (if nat_eq x p then m else 0) + repeated x m ps

-- what an operation at a site counts, and points, of which none stands twice
pub record Asked : Type 0 where
  pub count : Site → ℕ
  pub points : List ℕ
  pub once : (x m : ℕ) → repeated x m points ≤ m

-- ---- trees and instructions

abbrev pub can_fault : Op → Bool
can_fault Add = true
can_fault Sub = true
can_fault Mul = true
can_fault Div = true
can_fault Rem = true
can_fault Shl = true
can_fault Shr = true
can_fault Neg = true
can_fault And = false
can_fault Or = false
can_fault Xor = false
can_fault Lt = false
can_fault Gt = false
can_fault Le = false
can_fault Ge = false
can_fault Eq = false
can_fault Ne = false
can_fault BitNot = false
can_fault Not = false

abbrev pub count_if : Bool → ℕ → ℕ
count_if true n = n
count_if false n = 0

abbrev pub in_tree : {V : Type 0} → Asked → TreeOf V → ℕ
in_tree w (constant t n) = 0
in_tree w (variable x) = 0
in_tree w (converted t e) = in_tree w e
in_tree w (unary op s t e) = in_tree w e + count_if (can_fault op) (w.count s)
in_tree w (binary op s t a b) = in_tree w a + in_tree w b + count_if (can_fault op) (w.count s)

abbrev pub in_instr : {V : Type 0} → Asked → InstrOf V → ℕ
in_instr w Skip = 0
in_instr w (Set x e) = in_tree w e
in_instr w (Havoc x t n) = 0
in_instr w (Clear a) = 0
in_instr w (Load x a s b i) = in_tree w i + count_if b (w.count s)
in_instr w (Store a s b i e) = in_tree w i + in_tree w e + count_if b (w.count s)
in_instr w (Guard e b) = in_tree w e
in_instr w (Check s e) = in_tree w e + w.count s

pub less_if : (b : Bool) (n : ℕ) → count_if b n ≤ n
less_if true n = omega arith
less_if false n = omega arith

-- ---- edges: those that a point begins with

abbrev pub in_first : {V : Type 0} → Asked → List (EdgeFrom V) → ℕ
in_first w [] = 0
in_first w (e ∷ es) = in_instr w e.instr

abbrev pub in_points : {V : Type 0} → Asked → List ℕ → List (EdgeFrom V) → ℕ
in_points w [] es = 0
in_points w (p ∷ ps) es = in_first w (edges_from p es) + in_points w ps es

abbrev pub in_edges : {V : Type 0} → Asked → List (EdgeFrom V) → ℕ
in_edges w es = in_points w w.points es

-- at most m more
pub record Adds (x m y : ℕ) : Type 0 where
  pub most : y ≤ x + m

pub then_adds : {x m y k z : ℕ} → Adds x m y → Adds y k z → Adds x (m + k) z
then_adds h g = record { most = omega (arith, h.most, g.most) }

pub no_more : {x : ℕ} → Adds x 0 x
no_more = record { most = omega arith }

pub up_to : {x m k y : ℕ} → Adds x m y → m ≤ k → Adds x k y
up_to h l = record { most = omega (arith, h.most, l) }

-- edges from one point, whichever comes first
record Begins {V : Type 0} (w : Asked) (x m : ℕ) (more : List (EdgeFrom V)) : Type 0 where
  pub first : (p : ℕ) → in_first w (filter (is_from p) more) ≤ (if nat_eq x p then m else 0)

after_first : {V : Type 0} (w : Asked) (x m p : ℕ) (before more : List (EdgeFrom V)) → in_first w more ≤ (if nat_eq x p then m else 0) → in_first w (before ++ more) ≤ in_first w before + (if nat_eq x p then m else 0)
after_first w x m p [] more h = omega (arith, h)
after_first w x m p (b ∷ before) more h = omega arith

points_begin : {V : Type 0} (w : Asked) (x m : ℕ) (es more : List (EdgeFrom V)) → Begins w x m more → (ps : List ℕ) → in_points w ps (es ++ more) ≤ in_points w ps es + repeated x m ps
points_begin w x m es more h [] = omega arith
points_begin w x m es more h (p ∷ ps) =
    let here : in_first w (filter (is_from p) (es ++ more)) ≤ in_first w (filter (is_from p) es) + (if nat_eq x p then m else 0) =
    subst (λ (l : List _). in_first w l ≤ in_first w (filter (is_from p) es) + (if nat_eq x p then m else 0)) (sym (filter-append (is_from p) es more))
    (after_first w x m p (filter (is_from p) es) (filter (is_from p) more) (h.first p)) in
    omega (arith, here, points_begin w x m es more h ps)

edges_begin : {V : Type 0} (w : Asked) (x m : ℕ) (es more : List (EdgeFrom V)) → Begins w x m more → Adds (in_edges w es) m (in_edges w (es ++ more))
edges_begin w x m es more h = record { most = omega (arith, points_begin w x m es more h w.points, w.once x m) }

one_begins : {V : Type 0} (w : Asked) (e : EdgeFrom V) → Begins w e.from (in_instr w e.instr) (e ∷ [])
one_begins {V = V} w e = record { first = λ p. told (nat_eq e.from p) (not (nat_eq e.to nowhere)) }
  where
    told : (a b : Bool) → in_first w (if a && b then e ∷ [] else []) ≤ (if a then in_instr w e.instr else 0)
    told true true = omega arith
    told true false = omega arith
    told false b = omega arith

pair_begins : {V : Type 0} (w : Asked) (x m p q : ℕ) (i j : InstrOf V) → in_instr w i ≤ m → in_instr w j ≤ m → Begins w x m (record { from = x; instr = i; to = p } ∷ record { from = x; instr = j; to = q } ∷ [])
pair_begins {V = V} w x m p q i j h k = record { first = λ r. told (nat_eq x r) (not (nat_eq p nowhere)) (not (nat_eq q nowhere)) }
  where
    one : EdgeFrom V
    one = record { from = x; instr = i; to = p }

    two : EdgeFrom V
    two = record { from = x; instr = j; to = q }

    told : (a b c : Bool) → in_first w (if a && b then one ∷ (if a && c then two ∷ [] else []) else (if a && c then two ∷ [] else [])) ≤ (if a then m else 0)
    told true true c = h
    told true false true = k
    told true false false = omega arith
    told false b c = omega arith

-- ---- steps

pub linking : {V : Type 0} (w : Asked) (es : List (EdgeFrom V)) (p q : ℕ) (i : InstrOf V) → Adds (in_edges w es) (in_instr w i) (in_edges w (es ++ record { from = p; instr = i; to = q } ∷ []))
linking w es p q i = edges_begin w p (in_instr w i) es _ (one_begins w (record { from = p; instr = i; to = q }))

-- two edges from one point
pub linking_both : {V : Type 0} (w : Asked) (es : List (EdgeFrom V)) (x p q m : ℕ) (i j : InstrOf V) → in_instr w i ≤ m → in_instr w j ≤ m
    → Adds (in_edges w es) m (in_edges w ((es ++ record { from = x; instr = i; to = p } ∷ []) ++ record { from = x; instr = j; to = q } ∷ []))
linking_both {V = V} w es x p q m i j h k =
    subst (λ (l : List (EdgeFrom V)). Adds (in_edges w es) m (in_edges w l)) (sym (append_assoc es (record { from = x; instr = i; to = p } ∷ []) (record { from = x; instr = j; to = q } ∷ [])))
    (edges_begin w x m es _ (pair_begins w x m p q i j h k))

all_placing : {V : Type 0} (w : Asked) (n p : ℕ) (d : DraftOf V) → Adds (in_edges w d.edges) 0 (in_edges w (all_placed n p d).edges)
all_placing w zero p d = no_more
all_placing w (suc n) p d = all_placing w n (p + 1) (placed p d)

pub freshening : {V : Type 0} (w : Asked) (n : ℕ) (d : DraftOf V) → Adds (in_edges w d.edges) 0 (in_edges w (fresh n d).edges)
freshening w n d = all_placing w n d.points d

pub emitting : {V : Type 0} (w : Asked) (i : InstrOf V) (d : DraftOf V) → Adds (in_edges w d.edges) (in_instr w i) (in_edges w (emit i d).edges)
emitting w i d = linking w d.edges d.point d.points i
