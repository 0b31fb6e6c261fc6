-- What is read, assigned and stepped.
use Rattle.std.proofs.Common.{◌≡◌, ℕ, Bool, true, false, Some, None, sym, subst, ◌∙◌, arith}
use Rattle.std.specs.Prelude.{ℤ, pos}
use Rattle.std.proofs.lemmas.Int.{ints}
use Rattle.pk_ctypes.specs.declared.types.IntType.{IntType}
use Rattle.pk_ctypes.specs.declared.types.IntType.TheVariants.{Int}
use Rattle.pk_ctypes.specs.declared.types.Op.{Op}
use Rattle.pk_ctypes.specs.Types.{InType}
use Rattle.pk_graph.specs.declared.trees.Site.{Site}
use Rattle.pk_graph.specs.Trees.{TreeOf, constant, variable, ArrayOf, Set, Load, Store}
use Rattle.pk_lower_laws.proofs.Drafts.Tables.{IsOfType}
use Rattle.pk_draft.specs.Drafts.{with_temporary, next_temporary, stored}
use Rattle.pk_draft.specs.Folding.{conversion, updated_tree}
use Rattle.pk_lower_row.specs.declared.shapes.Shape.TheVariants.{Fixed, Temporary, Named}
use Rattle.pk_lower_row.specs.declared.shapes.Waiting.{Waiting}
use Rattle.pk_lower_row.specs.declared.shapes.Waiting.TheVariants.{Weak}
use Rattle.pk_lower_row.specs.Shapes.{stays, strong_if, strong_or_weak}
use Rattle.pk_lower_row.specs.Rows as row
use Rattle.pk_lower_row.specs.Rows.{Ways, Operand, Loaded, Target, scalar, element, stored_unless, two}
use Rattle.pk_welltyped.specs.WellTyped.{operands}
use Rattle.pk_lower_laws.proofs.Drafts.Places.{D, Place, Has, Stage, Typed, Proper, Step, step, step_for, step_beside}
use Rattle.pk_lower_laws.proofs.Drafts.Trees.{constant_is, conversion_is, updated_is}
use Rattle.pk_lower_laws.proofs.Drafts.Rows.{Gives, Works, WaysAre, OperandIs, seen, scalar_is, type_is, variable_is, set_is, HasArray, array_is, store_is, temporary_step, unless_step, both_are, value_are, two_step, then_emit, then_store, weaker, knowing}

abbrev pub TargetIs : (w : Place) → (m n : ℕ) → Stage → Target w.table.Variable → Type 0
TargetIs w m n s (scalar t x) = (m ≡ n) × ((d : D w) → Typed w s d → Has w.table (x d) t None)
TargetIs w m n s (element t o a i) = OperandIs w m n s i × ((d : D w) → Typed w s d → HasArray w.table (a d) t)

abbrev pub type_of_target : {V : Type 0} → Target V → IntType
type_of_target (scalar t x) = t
type_of_target (element t o a i) = t

-- an element in a temporary, behind what gives its index
then_load : (w : Place) → Proper w → (m n : ℕ) (s : Stage) (d e : D w) (t u : IntType) (o : Site) (a : ArrayOf w.table.Variable) (r : TreeOf w.table.Variable) (P Q : Type 0) → Step w m n s s d e P Q → (Q → IsOfType w.table u r × HasArray w.table a t)
    → Step w m n s s d (row.load t o a (r, e)).1 P (Q × IsOfType w.table t (row.load t o a (r, e)).0)
then_load w g m n s d e t u o a r P Q b f =
    let x = next_temporary e in
    let h = Has w.table x t None in
    let v = with_temporary t e in
    let one = step_for w n n s s e v (Unit {0} × Q) (h × Q) Q (Q × h) (λ q. (tt, q)) (λ q. (q.1, q.0)) (step_beside w n n s s e v (Unit {0}) h Q (temporary_step w g n s t e)) in
    let both = step w m n n s s s d e v P Q (Q × h) b one in
    weaker w m n s d (row.load t o a (r, e)).1 P (Q × h) (Q × IsOfType w.table t (variable x)) (λ q. (q.0, variable_is w.table x t q.1))
    (then_emit w g m n s d v (Load x a o true r) P (Q × h) both
    (λ q. let k = f q.0 in (scalar_is w.table x t q.1, array_is w.table a t k.1, type_is w.table x t None q.1 ∙ sym (type_is w.table a.variable t (Some a.length) k.1.array), k.0.typed)))

-- ---- reading

pub read_are : (w : Place) → Proper w → (m n : ℕ) (s : Stage) (x : Target w.table.Variable) → TargetIs w m n s x → WaysAre w m n s (type_of_target x) (row.read_ways x)
read_are w g m n s (scalar t x) h =
    subst (λ (k : ℕ). WaysAre w m k s t (row.read_ways (scalar t x))) h.0
    (value_are w g m m s Named t (λ d. (variable (x d), d)) (λ d. seen w m s d (Unit {0}) (IsOfType w.table t (variable (x d))) (λ z q. variable_is w.table (x d) t (h.1 d z))))
read_are w g m n s (element t o a i) h =
    value_are w g m n s Temporary t (λ d. row.element_value t o (a d) i d)
    (λ d. let r = i.ways.value d in
    let k = IsOfType w.table i.int_type r.0 in
    let b = HasArray w.table (a d) t in
    let l = row.load t o (a d) r in
    weaker w m n s d l.1 (Unit {0}) ((k × b) × IsOfType w.table t l.0) (IsOfType w.table t l.0) (λ q. q.1)
    (then_load w g m n s d r.1 t i.int_type o (a d) r.0 (Unit {0}) (k × b) (knowing w m n s d r.1 b k (h.1 d) (h.0.value d)) (λ q. q)))

-- ---- assigning

pub set_step : (w : Place) → Proper w → (m n : ℕ) (s : Stage) (t : IntType) (x : w.table.Variable) (e : Operand w.table.Variable) → OperandIs w m n s e → (d : D w) → (Typed w s d → Has w.table x t None)
    → Step w m n s s d (row.set_after t e.int_type x (e.ways.value d)) (Unit {0}) (IsOfType w.table t (variable x))
set_step w g m n s t x e h d k =
    let r = e.ways.value d in
    let a = IsOfType w.table e.int_type r.0 in
    let b = Has w.table x t None in
    weaker w m n s d (row.set_after t e.int_type x r) (Unit {0}) (a × b) (IsOfType w.table t (variable x)) (λ q. variable_is w.table x t q.1)
    (then_emit w g m n s d r.1 (Set x (conversion e.int_type t r.0)) (Unit {0}) (a × b) (knowing w m n s d r.1 b a k (h.value d))
    (λ q. set_is w.table x t (conversion e.int_type t r.0) q.1 (conversion_is w.table e.int_type t r.0 q.0)))

-- both operands of an element's assignment, and the array
elements : (w : Place) → Proper w → (m l n : ℕ) (s : Stage) (how : Waiting) (t : IntType) (a : ArrayOf w.table.Variable) (i e : Operand w.table.Variable) → OperandIs w m l s i → OperandIs w l n s e → (d : D w) → (Typed w s d → HasArray w.table a t)
    → Step w m n s s d (two how i e d).draft (Unit {0}) ((IsOfType w.table i.int_type (two how i e d).first × IsOfType w.table e.int_type (two how i e d).second) × HasArray w.table a t)
elements w g m l n s how t a i e h k d f =
    let p = two how i e d in
    knowing w m n s d p.draft (HasArray w.table a t) (IsOfType w.table i.int_type p.first × IsOfType w.table e.int_type p.second) f (two_step w g m l n s how i e h k d)

put_unused : (w : Place) → Proper w → (m l n : ℕ) (s : Stage) (t : IntType) (o : Site) (a : D w → ArrayOf w.table.Variable) (i e : Operand w.table.Variable) → OperandIs w m l s i → OperandIs w l n s e → ((d : D w) → Typed w s d → HasArray w.table (a d) t)
    → Works w m n s (λ d. row.put_unused t o (a d) i e d)
put_unused w g m l n s t o a i e h k f d =
    let p = two (strong_if e.makes) i e d in
    let q = (IsOfType w.table i.int_type p.first × IsOfType w.table e.int_type p.second) × HasArray w.table (a d) t in
    weaker w m n s d (row.put_unused t o (a d) i e d) (Unit {0}) q (Unit {0}) (λ x. tt)
    (then_emit w g m n s d p.draft (Store (a d) o true p.first (conversion e.int_type t p.second)) (Unit {0}) q (elements w g m l n s (strong_if e.makes) t (a d) i e h k d (f d))
    (λ x. store_is w.table (a d) t i.int_type o true p.first (conversion e.int_type t p.second) x.1 x.0.0 (conversion_is w.table e.int_type t p.second x.0.1)))

-- a stored tree is written to an element
written : (w : Place) → Proper w → (m n : ℕ) (s : Stage) (d e : D w) (t u : IntType) (o : Site) (b : Bool) (a : ArrayOf w.table.Variable) (i r : TreeOf w.table.Variable) (Q : Type 0) → Step w m n s s d e (Unit {0}) Q
    → (Q → IsOfType w.table u i × IsOfType w.table t r × HasArray w.table a t)
    → Step w m n s s d (row.written a o b i (stored t r e)).1 (Unit {0}) (IsOfType w.table t (row.written a o b i (stored t r e)).0)
written w g m n s d e t u o b a i r Q x f =
    let v = stored t r e in
    let k = IsOfType w.table t v.0 in
    weaker w m n s d (row.written a o b i v).1 (Unit {0}) (Q × k) k (λ q. q.1)
    (then_emit w g m n s d v.1 (Store a o b i v.0) (Unit {0}) (Q × k) (then_store w g m n s d e t r (Unit {0}) Q x (λ q. (f q).1)) (λ q. let c = f q.0 in store_is w.table a t u o b i v.0 c.2 c.0 q.1))

put_used : (w : Place) → Proper w → (m l n : ℕ) (s : Stage) (t : IntType) (o : Site) (a : D w → ArrayOf w.table.Variable) (i e : Operand w.table.Variable) → OperandIs w m l s i → OperandIs w l n s e → ((d : D w) → Typed w s d → HasArray w.table (a d) t)
    → Gives w m n s t (λ d. row.put_used t o (a d) i e d)
put_used w g m l n s t o a i e h k f d =
    let p = two (strong_or_weak e.makes) i e d in
    let q = (IsOfType w.table i.int_type p.first × IsOfType w.table e.int_type p.second) × HasArray w.table (a d) t in
    written w g m n s d p.draft t i.int_type o true (a d) p.first (conversion e.int_type t p.second) q (elements w g m l n s (strong_or_weak e.makes) t (a d) i e h k d (f d))
    (λ x. (x.0.0, conversion_is w.table e.int_type t p.second x.0.1, x.1))

pub assign_are : (w : Place) → Proper w → (m l n : ℕ) (s : Stage) (x : Target w.table.Variable) (e : Operand w.table.Variable) → TargetIs w m l s x → OperandIs w l n s e → WaysAre w m n s (type_of_target x) (row.assign_ways x e)
assign_are w g m l n s (scalar t x) e h k =
    subst (λ (j : ℕ). WaysAre w j n s t (row.assign_ways (scalar t x) e)) (sym h.0)
    (value_are w g l n s Named t (λ d. (variable (x d), row.set_after t e.int_type (x d) (e.ways.value d))) (λ d. set_step w g l n s t (x d) e k d (h.1 d)))
assign_are w g m l n s (element t o a i) e h k =
    both_are w m n s t (λ d. row.put_used t o (a d) i e d) (λ d. row.put_unused t o (a d) i e d) (put_used w g m l n s t o a i e h.0 k h.1) (put_unused w g m l n s t o a i e h.0 k h.1)

-- ---- assigning with an operator

update_step : (w : Place) → Proper w → (m n : ℕ) (s : Stage) (op : Op) → operands op ≡ 2 → (o : Site) (c t : IntType) (x : w.table.Variable) (e : Operand w.table.Variable) → OperandIs w m n s e → (d : D w) → (Typed w s d → Has w.table x t None)
    → Step w m n s s d (row.update_scalar op o c t x e d) (Unit {0}) (IsOfType w.table t (variable x))
update_step w g m n s op z o c t x e h d k =
    let r = e.ways.value d in
    let a = IsOfType w.table e.int_type r.0 in
    let b = Has w.table x t None in
    weaker w m n s d (row.update_scalar op o c t x e d) (Unit {0}) (a × b) (IsOfType w.table t (variable x)) (λ q. variable_is w.table x t q.1)
    (then_emit w g m n s d r.1 (Set x (updated_tree op o c t e.int_type (variable x) r.0)) (Unit {0}) (a × b) (knowing w m n s d r.1 b a k (h.value d))
    (λ q. set_is w.table x t (updated_tree op o c t e.int_type (variable x) r.0) q.1 (updated_is w.table op o c t e.int_type (variable x) r.0 z (variable_is w.table x t q.1) q.0)))

abbrev LoadedIs : (w : Place) → (i u t : IntType) → ArrayOf w.table.Variable → Loaded w.table.Variable → Type 0
LoadedIs w i u t a p = IsOfType w.table i p.index × IsOfType w.table u p.right × IsOfType w.table t p.element × HasArray w.table a t

loaded_step : (w : Place) → Proper w → (m l n : ℕ) (s : Stage) (t : IntType) (o : Site) (a : ArrayOf w.table.Variable) (i e : Operand w.table.Variable) → OperandIs w m l s i → OperandIs w l n s e → (d : D w) → (Typed w s d → HasArray w.table a t)
    → Step w m n s s d (row.loaded t o a i e d).draft (Unit {0}) (LoadedIs w i.int_type e.int_type t a (row.loaded t o a i e d))
loaded_step w g m l n s t o a i e h k d f =
    let p = two (strong_or_weak e.makes) i e d in
    let b = stays Weak e.shape in
    let r = stored_unless b e.int_type (p.second, p.draft) in
    let x = IsOfType w.table i.int_type p.first in
    let y = IsOfType w.table e.int_type p.second in
    let z = HasArray w.table a t in
    let v = IsOfType w.table e.int_type r.0 in
    let q = (x × y) × z in
    let c = (v × (x × z)) in
    let u = row.load t o a (p.first, r.1) in
    let one = elements w g m l n s (strong_or_weak e.makes) t a i e h k d f in
    let wait = step_for w n n s s p.draft r.1 (y × (x × z)) c q c (λ j. (j.0.1, (j.0.0, j.1))) (λ j. j) (step_beside w n n s s p.draft r.1 y v (x × z) (unless_step w g n s b e.int_type (p.second, p.draft))) in
    let both = step w m n n s s s d p.draft r.1 (Unit {0}) q c one wait in
    weaker w m n s d u.1 (Unit {0}) (c × IsOfType w.table t u.0) (LoadedIs w i.int_type e.int_type t a (row.loaded t o a i e d)) (λ j. (j.0.1.0, j.0.0, j.1, j.0.1.1))
    (then_load w g m n s d r.1 t i.int_type o a p.first (Unit {0}) c both (λ j. (j.1.0, j.1.1)))

renew_unused : (w : Place) → Proper w → (m n : ℕ) (s : Stage) (op : Op) → operands op ≡ 2 → (o r : Site) (c t i u : IntType) (a : ArrayOf w.table.Variable) (p : Loaded w.table.Variable) (d : D w) → Step w m n s s d p.draft (Unit {0}) (LoadedIs w i u t a p)
    → Step w m n s s d (row.renew_unused op o c t r a u p) (Unit {0}) (LoadedIs w i u t a p)
renew_unused w g m n s op z o r c t i u a p d h =
    let new = row.renewed_tree op o c t u p in
    then_emit w g m n s d p.draft (Store a r false p.index new) (Unit {0}) (LoadedIs w i u t a p) h (λ q. store_is w.table a t i r false p.index new q.3 q.0 (updated_is w.table op o c t u p.element p.right z q.2 q.1))

renew_used : (w : Place) → Proper w → (m n : ℕ) (s : Stage) (op : Op) → operands op ≡ 2 → (o r : Site) (c t i u : IntType) (a : ArrayOf w.table.Variable) (p : Loaded w.table.Variable) (d : D w) → Step w m n s s d p.draft (Unit {0}) (LoadedIs w i u t a p)
    → Step w m n s s d (row.renew_used op o c t r a u p).1 (Unit {0}) (IsOfType w.table t (row.renew_used op o c t r a u p).0)
renew_used w g m n s op z o r c t i u a p d h =
    let new = row.renewed_tree op o c t u p in
    written w g m n s d p.draft t i r false a p.index new (LoadedIs w i u t a p) h (λ q. (q.0, updated_is w.table op o c t u p.element p.right z q.2 q.1, q.3))

pub update_are : (w : Place) → Proper w → (m l n : ℕ) (s : Stage) (op : Op) → operands op ≡ 2 → (o : Site) (c : IntType) (x : Target w.table.Variable) (e : Operand w.table.Variable) → TargetIs w m l s x → OperandIs w l n s e
    → WaysAre w m n s (type_of_target x) (row.update_ways op o c x e)
update_are w g m l n s op z o c (scalar t x) e h k =
    subst (λ (j : ℕ). WaysAre w j n s t (row.update_ways op o c (scalar t x) e)) (sym h.0)
    (value_are w g l n s Named t (λ d. (variable (x d), row.update_scalar op o c t (x d) e d)) (λ d. update_step w g l n s op z o c t (x d) e k d (h.1 d)))
update_are w g m l n s op z o c (element t r a i) e h k =
    both_are w m n s t (λ d. row.renew_used op o c t r (a d) e.int_type (row.loaded t r (a d) i e d)) (λ d. row.renew_unused op o c t r (a d) e.int_type (row.loaded t r (a d) i e d))
    (λ d. renew_used w g m n s op z o r c t i.int_type e.int_type (a d) (row.loaded t r (a d) i e d) d (loaded_step w g m l n s t r (a d) i e h.0 k d (h.1 d)))
    (λ d. let p = row.loaded t r (a d) i e d in
    weaker w m n s d (row.renew_unused op o c t r (a d) e.int_type p) (Unit {0}) (LoadedIs w i.int_type e.int_type t (a d) p) (Unit {0}) (λ q. tt)
    (renew_unused w g m n s op z o r c t i.int_type e.int_type (a d) p d (loaded_step w g m l n s t r (a d) i e h.0 k d (h.1 d))))

-- ---- steps of one

pub constant_are : (w : Place) → Proper w → (m : ℕ) (s : Stage) (t : IntType) (z : ℤ) → InType t z → WaysAre w m m s t (row.by_value (Fixed z) t (λ d. (constant t z, d)))
constant_are w g m s t z h = value_are w g m m s (Fixed z) t (λ d. (constant t z, d)) (λ d. seen w m s d (Unit {0}) (IsOfType w.table t (constant t z)) (λ x q. constant_is w.table t z h))

one_in : InType Int (pos 1)
one_in = record { from = omega (arith, ints); to = omega (arith, ints) }

one_is : (w : Place) → Proper w → (m : ℕ) (s : Stage) → OperandIs w m m s row.one
one_is w g m s = constant_are w g m s Int (pos 1) one_in

after_are : (w : Place) → Proper w → (m n : ℕ) (s : Stage) (op : Op) → operands op ≡ 2 → (o : Site) (c : IntType) (x : Target w.table.Variable) → TargetIs w m n s x → WaysAre w m n s (type_of_target x) (row.after_ways op o c x)
after_are w g m n s op z o c (scalar t x) h =
    subst (λ (j : ℕ). WaysAre w m j s t (row.after_ways op o c (scalar t x))) h.0
    (both_are w m m s t (λ d. row.after_scalar op o c t (x d) d) (λ d. row.update_scalar op o c t (x d) row.one d)
    (λ d. let r = stored t (variable (x d)) d in
    let k = IsOfType w.table t r.0 in
    let b = Has w.table (x d) t None in
    let f = row.update_scalar op o c t (x d) row.one r.1 in
    let first = then_store w g m m s d d t (variable (x d)) (Unit {0}) b (seen w m s d (Unit {0}) b (λ y q. h.1 d y)) (λ q. variable_is w.table (x d) t q) in
    weaker w m m s d f (Unit {0}) (b × k) k (λ q. q.1)
    (then_emit w g m m s d r.1 (Set (x d) (updated_tree op o c t Int (variable (x d)) (constant Int (pos 1)))) (Unit {0}) (b × k) first
    (λ q. set_is w.table (x d) t (updated_tree op o c t Int (variable (x d)) (constant Int (pos 1))) q.0
    (updated_is w.table op o c t Int (variable (x d)) (constant Int (pos 1)) z (variable_is w.table (x d) t q.0) (constant_is w.table Int (pos 1) one_in)))))
    (λ d. weaker w m m s d (row.update_scalar op o c t (x d) row.one d) (Unit {0}) (IsOfType w.table t (variable (x d))) (Unit {0}) (λ q. tt) (update_step w g m m s op z o c t (x d) row.one (one_is w g m s) d (h.1 d))))
after_are w g m n s op z o c (element t r a i) h =
    both_are w m n s t (λ d. row.after_element op o c t r (a d) i d) (λ d. row.renew_unused op o c t r (a d) Int (row.loaded t r (a d) i row.one d))
    (λ d. let p = row.loaded t r (a d) i row.one d in
    weaker w m n s d (row.renew_unused op o c t r (a d) Int p) (Unit {0}) (LoadedIs w i.int_type Int t (a d) p) (IsOfType w.table t p.element) (λ q. q.2)
    (renew_unused w g m n s op z o r c t i.int_type Int (a d) p d (loaded_step w g m n n s t r (a d) i row.one h.0 (one_is w g n s) d (h.1 d))))
    (λ d. let p = row.loaded t r (a d) i row.one d in
    weaker w m n s d (row.renew_unused op o c t r (a d) Int p) (Unit {0}) (LoadedIs w i.int_type Int t (a d) p) (Unit {0}) (λ q. tt)
    (renew_unused w g m n s op z o r c t i.int_type Int (a d) p d (loaded_step w g m n n s t r (a d) i row.one h.0 (one_is w g n s) d (h.1 d))))

pub step_are : (w : Place) → Proper w → (m n : ℕ) (s : Stage) (op : Op) → operands op ≡ 2 → (o : Site) (c : IntType) (x : Target w.table.Variable) (prefix : Bool) → TargetIs w m n s x → WaysAre w m n s (type_of_target x) (row.step_ways op o c x prefix)
step_are w g m n s op z o c x true h = update_are w g m n n s op z o c x row.one h (one_is w g n s)
step_are w g m n s op z o c x false h = after_are w g m n s op z o c x h
