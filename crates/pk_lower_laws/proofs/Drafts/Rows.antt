-- The rows of the lowering of expressions as steps.
use Rattle.std.proofs.Common.{◌≡◌, ℕ, ◌<◌, Bool, true, false, List, [], ◌∷◌, ◌++◌, Option, Some, None, refl, ap, sym, subst, arith}
use Rattle.pk_ctypes.specs.declared.types.IntType.{IntType}
use Rattle.pk_ctypes.specs.Types.{InType}
use Rattle.pk_graph.specs.declared.trees.Site.{Site}
use Rattle.pk_graph.specs.Trees.{TreeOf, variable, ArrayOf, InstrOf, Set, Store, Guard}
use Rattle.pk_graph.specs.Kinds.{Kind}
use Rattle.pk_lower_laws.proofs.Drafts.Tables.{Table, type_at, IsScalar, IsArray, IsOfType, IsTypedInstr}
use Rattle.pk_graph.specs.WellMade.{IsStartOf}
use Rattle.pk_draft.specs.Drafts.{Given, Names, EdgeFrom, nowhere, inner, with_temporary, next_temporary, link, emit, stored}
use Rattle.pk_lower_row.specs.declared.shapes.Shape.{Shape}
use Rattle.pk_lower_row.specs.declared.shapes.Waiting.{Waiting}
use Rattle.pk_lower_row.specs.Shapes.{is_plain, stays}
use Rattle.pk_lower_row.specs.Rows.{Ways, Operand, stored_unless, dropped, guards, by_both, by_value, by_choice, two}
use Rattle.pk_lower_laws.proofs.Drafts.Places.{D, Place, Has, Stage, Typed, Proper, Step, step, step_for, step_beside, quiet, same_scopes}
use Rattle.pk_lower_laws.proofs.Drafts.Verbs.{all_shorter, the_last, typed_link, emit_step, temporary_made}

abbrev pub Gives : (w : Place) → (m n : ℕ) → Stage → IntType → (D w → Given w.table.Variable) → Type 0
Gives w m n s t f = (d : D w) → Step w m n s s d (f d).1 (Unit {0}) (IsOfType w.table t (f d).0)

abbrev pub Works : (w : Place) → (m n : ℕ) → Stage → (D w → D w) → Type 0
Works w m n s f = (d : D w) → Step w m n s s d (f d) (Unit {0}) (Unit {0})

-- two points that are there, not both of them nowhere
abbrev pub Reaches : Place → (p q : ℕ) → Type 0
Reaches w p q = (p < w.points) × (q < w.points) × (p ≡ nowhere → q ≡ nowhere → ⊥)

abbrev pub Chooses : (w : Place) → (m n : ℕ) → Stage → ((p q : ℕ) → D w → D w) → Type 0
Chooses w m n s f = (p q : ℕ) (d : D w) → Step w m n s s d (f p q d) (Reaches w p q) (Unit {0})

pub record WaysAre (w : Place) (m n : ℕ) (s : Stage) (t : IntType) (f : Ways w.table.Variable) : Type 0 where
  pub value : Gives w m n s t f.value
  pub choice : Chooses w m n s f.choice
  pub unused : Works w m n s f.unused

-- ---- steps that stay, and that look

pub idle : (w : Place) (m : ℕ) (s : Stage) (d : D w) (P : Type 0) → Step w m m s s d d P P
idle w m s d P = quiet w m s d d P P refl refl refl refl (λ z. z) (same_scopes _ _ refl) (omega arith) (λ o b z t p. (t, p))

-- what is known where the draft is typed
pub seen : (w : Place) (m : ℕ) (s : Stage) (d : D w) (P Q : Type 0) → (Typed w s d → P → Q) → Step w m m s s d d P Q
seen w m s d P Q f = quiet w m s d d P Q refl refl refl refl (λ z. z) (same_scopes _ _ refl) (omega arith) (λ o b z t p. (t, f t p))

-- ---- variables

pub scalar_is : (ks : Table) (x : ks.Variable) (t : IntType) → Has ks x t None → IsScalar ks x
scalar_is ks x t h = record { there = h.there; scalar = ap (λ (k : Kind). k.length) h.kind }

pub type_is : (ks : Table) (x : ks.Variable) (t : IntType) (n : Option ℕ) → Has ks x t n → type_at ks x ≡ t
type_is ks x t n h = ap (λ (k : Kind). k.int_type) h.kind

pub variable_is : (ks : Table) (x : ks.Variable) (t : IntType) → Has ks x t None → IsOfType ks t (variable x)
variable_is ks x t h = record { typed = scalar_is ks x t h; fits = λ z k. subst (λ (u : IntType). InType u z) (type_is ks x t None h) k }

of_place : (ks : Table) (x : ks.Variable) (t : IntType) (n : Option ℕ) (e : TreeOf ks.Variable) → Has ks x t n → IsOfType ks t e → IsOfType ks (type_at ks x) e
of_place ks x t n e h k = subst (λ (u : IntType). IsOfType ks u e) (sym (type_is ks x t n h)) k

pub set_is : (ks : Table) (x : ks.Variable) (t : IntType) (e : TreeOf ks.Variable) → Has ks x t None → IsOfType ks t e → IsTypedInstr ks (Set x e)
set_is ks x t e h k = (scalar_is ks x t h, of_place ks x t None e h k)

-- an array of elements of the type
pub record HasArray (ks : Table) (a : ArrayOf ks.Variable) (t : IntType) : Type 0 where
  pub array : Has ks a.variable t (Some a.length)

pub array_is : (ks : Table) (a : ArrayOf ks.Variable) (t : IntType) → HasArray ks a t → IsArray ks a
array_is ks a t h = record { there = h.array.there; array = ap (λ (k : Kind). k.length) h.array.kind }

pub store_is : (ks : Table) (a : ArrayOf ks.Variable) (t u : IntType) (s : Site) (b : Bool) (i e : TreeOf ks.Variable) → HasArray ks a t → IsOfType ks u i → IsOfType ks t e → IsTypedInstr ks (Store a s b i e)
store_is ks a t u s b i e h k l = (array_is ks a t h, k.typed, of_place ks a.variable t (Some a.length) e h.array l)

pub inner_start : (name : Option (List ℕ)) (t : IntType) (n : Option ℕ) (k : ℕ) → IsStartOf (inner name t n k) (inner name t n k).start
inner_start name t n k = (omega arith, λ i d l. absurd (omega (l, arith)))

-- a new temporary
pub temporary_step : (w : Place) → Proper w → (m : ℕ) (s : Stage) (t : IntType) (d : D w) → Step w m m s s d (with_temporary t d) (Unit {0}) (Has w.table (next_temporary d) t None)
temporary_step w g m s t d =
    let v = temporary_made w g m s t d in
    record {
      order = v.order;
      variables = v.variables;
      points = v.points;
      scopes = v.scopes;
      after = v.after;
      objects = v.objects;
      before = v.before;
      typed = λ b y f z q. let r = v.typed b y f z q in (r.0, subst (λ (n : Names w.table.Variable). Has w.table (n.temporary d.variables) t None) (sym z.names) r.1);
    }

-- a tree put in a fresh temporary
pub stored_step : (w : Place) → Proper w → (m : ℕ) (s : Stage) (t : IntType) (e : TreeOf w.table.Variable) (d : D w) → Step w m m s s d (stored t e d).1 (IsOfType w.table t e) (IsOfType w.table t (stored t e d).0)
stored_step w g m s t e d =
    let x = next_temporary d in
    let h = Has w.table x t None in
    let k = IsOfType w.table t e in
    let a = step_for w m m s s d (with_temporary t d) (Unit {0} × k) (h × k) k (h × k) (λ q. (tt, q)) (λ q. q) (step_beside w m m s s d (with_temporary t d) (Unit {0}) h k (temporary_step w g m s t d)) in
    let b = step_for w m m s s (with_temporary t d) (emit (Set x e) (with_temporary t d)) (IsTypedInstr w.table (Set x e) × h) (Unit {0} × h) (h × k) (IsOfType w.table t (variable x)) (λ q. (set_is w.table x t e q.0 q.1, q.0)) (λ q. variable_is w.table x t q.1)
    (step_beside w m m s s (with_temporary t d) (emit (Set x e) (with_temporary t d)) (IsTypedInstr w.table (Set x e)) (Unit {0}) h (emit_step w g m s (Set x e) (with_temporary t d))) in
    step w m m m s s s d (with_temporary t d) (stored t e d).1 k (h × k) (IsOfType w.table t (variable x)) a b

pub unless_step : (w : Place) → Proper w → (m : ℕ) (s : Stage) (b : Bool) (t : IntType) (r : Given w.table.Variable) → Step w m m s s r.1 (stored_unless b t r).1 (IsOfType w.table t r.0) (IsOfType w.table t (stored_unless b t r).0)
unless_step w g m s true t r = idle w m s r.1 (IsOfType w.table t r.0)
unless_step w g m s false t r = stored_step w g m s t r.0 r.1

-- ---- ways

pub guards_step : (w : Place) (m : ℕ) (s : Stage) (t : IntType) (p q : ℕ) (r : Given w.table.Variable) → Step w m m s s r.1 (guards p q r) (IsOfType w.table t r.0 × Reaches w p q) (Unit {0})
guards_step w m s t p q r =
    let yes : EdgeFrom w.table.Variable = record { from = r.1.point; instr = Guard r.0 true; to = p } in
    let no : EdgeFrom w.table.Variable = record { from = r.1.point; instr = Guard r.0 false; to = q } in
    quiet w m s r.1 (guards p q r) (IsOfType w.table t r.0 × Reaches w p q) (Unit {0}) refl refl refl refl (λ z. all_shorter w.IsEdge r.1.edges yes (all_shorter w.IsEdge (r.1.edges ++ yes ∷ []) no z)) (same_scopes _ _ refl) (omega arith)
    (λ o b e z k. (
      typed_link w s (Guard r.0 false) q (link (Guard r.0 true) p r.1) k.1.1 k.0.typed (λ a. (p, the_last w.IsEdge r.1.edges yes (all_shorter w.IsEdge (r.1.edges ++ yes ∷ []) no e), λ c. k.1.2 c a))
          (typed_link w s (Guard r.0 true) p r.1 k.1.0 k.0.typed (λ a. (q, the_last w.IsEdge (r.1.edges ++ yes ∷ []) no e, λ c. k.1.2 a c)) z),
      tt,
    ))

pub choice_of : (w : Place) (m n : ℕ) (s : Stage) (t : IntType) (f : D w → Given w.table.Variable) → Gives w m n s t f → Chooses w m n s (λ p q d. guards p q (f d))
choice_of w m n s t f h p q d =
    let c = Reaches w p q in
    let k = IsOfType w.table t (f d).0 in
    let a = step_for w m n s s d (f d).1 (Unit {0} × c) (k × c) c (k × c) (λ x. (tt, x)) (λ x. x) (step_beside w m n s s d (f d).1 (Unit {0}) k c (h d)) in
    step w m n n s s s d (f d).1 (guards p q (f d)) c (k × c) (Unit {0}) a (guards_step w n s t p q (f d))

pub both_are : (w : Place) (m n : ℕ) (s : Stage) (t : IntType) (f : D w → Given w.table.Variable) (h : D w → D w) → Gives w m n s t f → Works w m n s h → WaysAre w m n s t (by_both f h)
both_are w m n s t f h a b = record { value = a; choice = choice_of w m n s t f a; unused = b }

pub dropped_of : (w : Place) → Proper w → (m n : ℕ) (s : Stage) (shape : Shape) (t : IntType) (f : D w → Given w.table.Variable) → Gives w m n s t f → Works w m n s (λ d. dropped shape t (f d))
dropped_of w g m n s shape t f h d =
    let k = IsOfType w.table t (f d).0 in
    let r = stored_unless (is_plain shape) t (f d) in
    step w m n n s s s d (f d).1 r.1 (Unit {0}) k (Unit {0}) (h d)
    (step_for w n n s s (f d).1 r.1 k (IsOfType w.table t r.0) k (Unit {0}) (λ x. x) (λ x. tt) (unless_step w g n s (is_plain shape) t (f d)))

pub value_are : (w : Place) → Proper w → (m n : ℕ) (s : Stage) (shape : Shape) (t : IntType) (f : D w → Given w.table.Variable) → Gives w m n s t f → WaysAre w m n s t (by_value shape t f)
value_are w g m n s shape t f a = both_are w m n s t f (λ d. dropped shape t (f d)) a (dropped_of w g m n s shape t f a)

pub choice_are : (w : Place) → Proper w → (m n : ℕ) (s : Stage) (shape : Shape) (t : IntType) (f : D w → Given w.table.Variable) (c : (p q : ℕ) → D w → D w) → Gives w m n s t f → Chooses w m n s c → WaysAre w m n s t (by_choice shape t f c)
choice_are w g m n s shape t f c a b = record { value = a; choice = b; unused = dropped_of w g m n s shape t f a }

-- ---- two operands

abbrev pub OperandIs : (w : Place) → (m n : ℕ) → Stage → Operand w.table.Variable → Type 0
OperandIs w m n s o = WaysAre w m n s o.int_type o.ways

pub two_step : (w : Place) → Proper w → (m l n : ℕ) (s : Stage) (how : Waiting) (a b : Operand w.table.Variable) → OperandIs w m l s a → OperandIs w l n s b → (d : D w)
    → Step w m n s s d (two how a b d).draft (Unit {0}) (IsOfType w.table a.int_type (two how a b d).first × IsOfType w.table b.int_type (two how a b d).second)
two_step w g m l n s how a b h k d =
    let r = a.ways.value d in
    let o = stays how a.shape in
    let first = stored_unless o a.int_type r in
    let second = b.ways.value first.1 in
    let x = IsOfType w.table a.int_type r.0 in
    let y = IsOfType w.table a.int_type first.0 in
    let z = IsOfType w.table b.int_type second.0 in
    let one = step w m l l s s s d r.1 first.1 (Unit {0}) x y (h.value d) (unless_step w g l s o a.int_type r) in
    step w m l n s s s d first.1 second.1 (Unit {0}) y (y × z) one
    (step_for w l n s s first.1 second.1 (Unit {0} × y) (z × y) y (y × z) (λ q. (tt, q)) (λ q. (q.1, q.0)) (step_beside w l n s s first.1 second.1 (Unit {0}) z y (k.value first.1)))

-- an instruction behind what gives what it needs
pub then_emit : (w : Place) → Proper w → (m n : ℕ) (s : Stage) (d e : D w) (i : InstrOf w.table.Variable) (P Q : Type 0) → Step w m n s s d e P Q → (Q → IsTypedInstr w.table i) → Step w m n s s d (emit i e) P Q
then_emit w g m n s d e i P Q a f =
    let b = step_for w n n s s e (emit i e) (IsTypedInstr w.table i × Q) (Unit {0} × Q) Q Q (λ q. (f q, q)) (λ q. q.1) (step_beside w n n s s e (emit i e) (IsTypedInstr w.table i) (Unit {0}) Q (emit_step w g n s i e)) in
    step w m n n s s s d e (emit i e) P Q Q a b

-- a tree that is stored behind what gives it
pub then_store : (w : Place) → Proper w → (m n : ℕ) (s : Stage) (d e : D w) (t : IntType) (r : TreeOf w.table.Variable) (P Q : Type 0) → Step w m n s s d e P Q → (Q → IsOfType w.table t r)
    → Step w m n s s d (stored t r e).1 P (Q × IsOfType w.table t (stored t r e).0)
then_store w g m n s d e t r P Q a f =
    let k = IsOfType w.table t r in
    let o = IsOfType w.table t (stored t r e).0 in
    let b = step_for w n n s s e (stored t r e).1 (k × Q) (o × Q) Q (Q × o) (λ q. (f q, q)) (λ q. (q.1, q.0)) (step_beside w n n s s e (stored t r e).1 k o Q (stored_step w g n s t r e)) in
    step w m n n s s s d e (stored t r e).1 P Q (Q × o) a b

pub weaker : (w : Place) (m n : ℕ) (s : Stage) (d e : D w) (P Q R : Type 0) → (Q → R) → Step w m n s s d e P Q → Step w m n s s d e P R
weaker w m n s d e P Q R f a = step_for w m n s s d e P Q P R (λ x. x) f a

-- what is seen at the beginning stays known
pub knowing : (w : Place) (m n : ℕ) (s : Stage) (d e : D w) (P Q : Type 0) → (Typed w s d → P) → Step w m n s s d e (Unit {0}) Q → Step w m n s s d e (Unit {0}) (Q × P)
knowing w m n s d e P Q f a =
    step w m m n s s s d d e (Unit {0}) (Unit {0} × P) (Q × P) (seen w m s d (Unit {0}) (Unit {0} × P) (λ t u. (tt, f t))) (step_beside w m n s s d e (Unit {0}) Q P a)
