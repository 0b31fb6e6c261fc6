-- Calls: the parameters are set from the arguments, and the callee's region is kept.
use Rattle.std.proofs.Common.{◌≡◌, ℕ, ◌+◌, ◌≤◌, Bool, List, [], ◌∷◌, Option, Some, None, length, refl, ap, sym, subst, ◌∙◌, arith}
use Rattle.std.specs.Prelude.{slice_get}
use Rattle.std.specs.Option.{option_and_then}
use Rattle.pk_ctypes.specs.declared.types.IntType.{IntType}
use Rattle.pk_typed.specs.Trees.{FunctionTree, UnitTree}
use Rattle.pk_graph.specs.Trees.{TreeOf, variable, Set}
use Rattle.pk_lower_laws.proofs.Drafts.Tables.{Table, IsOfType}
use Rattle.pk_draft.specs.Drafts.{Names, emit, entered}
use Rattle.pk_draft.specs.Folding.{conversion}
use Rattle.pk_lower_row.specs.Contexts.{size_in, parameters_of}
use Rattle.pk_lower_row.specs.Shapes.{strong_if, stays}
use Rattle.pk_lower_row.specs.Rows as row
use Rattle.pk_lower_row.specs.Rows.{Operand, Passed, bound, stored_unless}
use Rattle.pk_welltyped.specs.WellTyped.{Takes}
use Rattle.pk_lower_laws.proofs.Drafts.Places.{D, Place, Has, HasIf, HasAll, Promised, returned_by, Stage, Proper, Before, Step, step, step_for, step_beside, step_around, laid_more}
use Rattle.pk_lower_laws.proofs.Drafts.Trees.{conversion_is}
use Rattle.pk_lower_laws.proofs.Drafts.Verbs.{emit_step, IsCallee, entered_promised, entered_step}
use Rattle.pk_lower_laws.proofs.Drafts.Rows.{Gives, Works, OperandIs, idle, seen, set_is, variable_is, unless_step, weaker}

-- trees of the types, as far as both go
abbrev pub TreesAre : (ks : Table) → List IntType → List (TreeOf ks.Variable) → Type 0
TreesAre ks [] rs = Unit {0}
TreesAre ks (u ∷ us) [] = Unit {0}
TreesAre ks (u ∷ us) (r ∷ rs) = IsOfType ks u r × TreesAre ks us rs

-- ---- parameters

record SameLayout (w : Place) (d e : D w) : Type 0 where
  names : e.names ≡ d.names
  variables : e.variables ≡ d.variables
  made : e.made ≡ d.made
  regions : e.regions ≡ d.regions
  objects : e.objects ≡ d.objects
  points : d.points ≤ e.points

same_layout : (w : Place) (d : D w) → SameLayout w d d
same_layout w d = record { names = refl; variables = refl; made = refl; regions = refl; objects = refl; points = omega arith }

bound_same : (w : Place) (k i x : ℕ) (ts us : List IntType) (rs : List (TreeOf w.table.Variable)) (d : D w) → SameLayout w d (bound k i x ts us rs d)
bound_same w k i x [] us rs d = same_layout w d
bound_same w k i x (t ∷ ts) [] rs d = same_layout w d
bound_same w k i x (t ∷ ts) (u ∷ us) [] d = same_layout w d
bound_same w k i x (t ∷ ts) (u ∷ us) (r ∷ rs) d =
    let h = bound_same w k (i + 1) (x + 1) ts us rs (emit (Set (d.names.object k i x) (conversion u t r)) d) in
    record { names = h.names; variables = h.variables; made = h.made; regions = h.regions; objects = h.objects; points = omega (h.points, arith) }

abbrev Bindable : (w : Place) (k i x : ℕ) (ts us : List IntType) (rs : List (TreeOf w.table.Variable)) → Type 0
Bindable w k i x ts us rs = HasAll w.table k i x ts × TreesAre w.table us rs

nothing_bound : (w : Place) (m : ℕ) (s : Stage) (d : D w) (P : Type 0) → Step w m m s s d d P (Unit {0})
nothing_bound w m s d P = weaker w m m s d d P P (Unit {0}) (λ q. tt) (idle w m s d P)

bound_step : (w : Place) → Proper w → (m : ℕ) (s : Stage) (k i x : ℕ) (ts us : List IntType) (rs : List (TreeOf w.table.Variable)) (d : D w) → Step w m m s s d (bound k i x ts us rs d) (Bindable w k i x ts us rs) (Unit {0})
bound_step w g m s k i x [] us rs d = nothing_bound w m s d (Bindable w k i x [] us rs)
bound_step w g m s k i x (t ∷ ts) [] rs d = nothing_bound w m s d (Bindable w k i x (t ∷ ts) [] rs)
bound_step w g m s k i x (t ∷ ts) (u ∷ us) [] d = nothing_bound w m s d (Bindable w k i x (t ∷ ts) (u ∷ us) [])
bound_step w g m s k i x (t ∷ ts) (u ∷ us) (r ∷ rs) d =
    let y = d.names.object k i x in
    let e = emit (Set y (conversion u t r)) d in
    let P = Bindable w k i x (t ∷ ts) (u ∷ us) (r ∷ rs) in
    let Q = Bindable w k (i + 1) (x + 1) ts us rs in
    let named : Step w m m s s d d P (Has w.table y t None × P) = seen w m s d P (Has w.table y t None × P) (λ z p. (subst (λ (n : Names w.table.Variable). Has w.table (n.object k i x) t None) (sym z.names) p.0.0, p)) in
    let set = step_for w m m s s d e (_ × Q) (Unit {0} × Q) (Has w.table y t None × P) Q (λ q. (set_is w.table y t (conversion u t r) q.0 (conversion_is w.table u t r q.1.1.0), (q.1.0.1, q.1.1.1))) (λ q. q.1)
    (step_beside w m m s s d e _ (Unit {0}) Q (emit_step w g m s (Set y (conversion u t r)) d)) in
    step w m m m s s s d e (bound k i x (t ∷ ts) (u ∷ us) (r ∷ rs) d) P Q (Unit {0}) (step w m m m s s s d d e P (Has w.table y t None × P) Q named set) (bound_step w g m s k (i + 1) (x + 1) ts us rs e)

-- ---- a call behind its arguments

call_step : (w : Place) → Proper w → (m : ℕ) (s : Stage) (f : ℕ) (us : List IntType) (rs : List (TreeOf w.table.Variable)) (d : D w) → IsCallee w (w.context.first + m) f
    → (let ts = parameters_of w.context.unit f in let k = w.context.first + m in
    Step w m (m + 1) s s d (row.entered_after k (size_in w.context.sizes f) ts us rs d) (TreesAre w.table us rs) (HasIf w.table (d.names.result k (d.variables + length ts)) (returned_by w.context.unit f)))
call_step w g m s f us rs d c =
    let ts = parameters_of w.context.unit f in
    let k = w.context.first + m in
    let b = bound k 0 d.variables ts us rs d in
    let e = entered k (size_in w.context.sizes f) b in
    let same = bound_same w k 0 d.variables ts us rs d in
    let P = Bindable w k 0 d.variables ts us rs in
    let both = step w m m (m + 1) s s s d b e P (Unit {0}) (Promised w k f b.variables) (bound_step w g m s k 0 d.variables ts us rs d) (entered_step w g m s f b c) in
    record {
      order = both.order;
      variables = both.variables;
      points = both.points;
      scopes = both.scopes;
      after = both.after;
      objects = both.objects;
      before = both.before;
      typed = λ x y z t q.
          let at_b : Before w m (m + 1) b = record {
            laid = laid_more w b.variables d.points b.points b.made b.regions same.points (rw (same.variables, same.made, same.regions) x.laid);
            not_made = rw same.regions x.not_made;
            positive = omega (x.positive, same.points, arith);
            files = rw same.variables x.files;
            slots = ap length same.objects ∙ x.slots;
          } in
          let promise : Promised w k f b.variables = (entered_promised w m f b c at_b z.regions).0 in
          let here : Promised w k f d.variables = subst (Promised w k f) same.variables promise in
          let r = both.typed x y z t (here.parameters, q) in
          (r.0, subst (λ (n : Names w.table.Variable). HasIf w.table (n.result k (d.variables + length ts)) (returned_by w.context.unit f)) (sym t.names) here.result);
    }

-- ---- arguments

abbrev pub Passes : (w : Place) → (m n : ℕ) → Stage → List IntType → (D w → Passed w.table.Variable) → Type 0
Passes w m n s us f = (d : D w) → Step w m n s s d (f d).draft (Unit {0}) (TreesAre w.table us (f d).trees)

pub passing : (w : Place) → Proper w → (m l n : ℕ) (s : Stage) (later : Bool) (e : Operand w.table.Variable) (us : List IntType) (rest : D w → Passed w.table.Variable) → OperandIs w m l s e → Passes w l n s us rest → Passes w m n s (e.int_type ∷ us) (row.passed_before later e rest)
passing w g m l n s later e us rest h k d =
    let r = e.ways.value d in
    let b = stays (strong_if later) e.shape in
    let o = stored_unless b e.int_type r in
    let p = rest o.1 in
    let x = IsOfType w.table e.int_type r.0 in
    let y = IsOfType w.table e.int_type o.0 in
    let z = TreesAre w.table us p.trees in
    step w m l n s s s d o.1 p.draft (Unit {0}) y (y × z) (step w m l l s s s d r.1 o.1 (Unit {0}) x y (h.value d) (unless_step w g l s b e.int_type r))
    (step_for w l n s s o.1 p.draft (Unit {0} × y) (z × y) y (y × z) (λ q. (tt, q)) (λ q. (q.1, q.0)) (step_beside w l n s s o.1 p.draft (Unit {0}) z y (k o.1)))

-- ---- calls

returned : (u : UnitTree) (f k : ℕ) (r : Option IntType) (g : Option FunctionTree) → slice_get u.functions f ≡ g → Takes k r g → returned_by u f ≡ r
returned u f k r None is h = absurd h
returned u f k r (Some g) is h = ap (option_and_then (λ (x : FunctionTree). x.returns)) is ∙ h.0

pub called_step : (w : Place) → Proper w → (m n : ℕ) (s : Stage) (f : ℕ) (us : List IntType) (arguments : D w → Passed w.table.Variable) → IsCallee w (w.context.first + m) f → Passes w (m + 1) n s us arguments → (d : D w)
    → (let a = arguments d in let k = w.context.first + m in let ts = parameters_of w.context.unit f in
    Step w m n s s d (row.called w.context f m us arguments d).1 (Unit {0}) (HasIf w.table (a.draft.names.result k (a.draft.variables + length ts)) (returned_by w.context.unit f)))
called_step w g m n s f us arguments c h d =
    let a = arguments d in
    let k = w.context.first + m in
    let ts = parameters_of w.context.unit f in
    step_around w m n s s s d a.draft (row.called w.context f m us arguments d).1 (Unit {0}) (TreesAre w.table us a.trees) (HasIf w.table (a.draft.names.result k (a.draft.variables + length ts)) (returned_by w.context.unit f))
    (h d) (call_step w g m s f us a.trees a.draft c)

pub called_gives : (w : Place) → Proper w → (m n : ℕ) (s : Stage) (t : IntType) (f j : ℕ) (us : List IntType) (arguments : D w → Passed w.table.Variable) → IsCallee w (w.context.first + m) f → Takes j (Some t) (slice_get w.context.unit.functions f)
    → Passes w (m + 1) n s us arguments
    → Gives w m n s t (row.called w.context f m us arguments)
called_gives w g m n s t f j us arguments c takes h d =
    let a = arguments d in
    let x = a.draft.names.result (w.context.first + m) (a.draft.variables + length (parameters_of w.context.unit f)) in
    weaker w m n s d (row.called w.context f m us arguments d).1 (Unit {0}) (HasIf w.table x (returned_by w.context.unit f)) (IsOfType w.table t (variable x))
    (λ q. variable_is w.table x t (subst (HasIf w.table x) (returned w.context.unit f j (Some t) (slice_get w.context.unit.functions f) refl takes) q)) (called_step w g m n s f us arguments c h d)

pub called_works : (w : Place) → Proper w → (m n : ℕ) (s : Stage) (f : ℕ) (us : List IntType) (arguments : D w → Passed w.table.Variable) → IsCallee w (w.context.first + m) f → Passes w (m + 1) n s us arguments → Works w m n s (λ d. (row.called w.context f m us arguments d).1)
called_works w g m n s f us arguments c h d =
    let a = arguments d in
    let x = a.draft.names.result (w.context.first + m) (a.draft.variables + length (parameters_of w.context.unit f)) in
    weaker w m n s d (row.called w.context f m us arguments d).1 (Unit {0}) (HasIf w.table x (returned_by w.context.unit f)) (Unit {0}) (λ q. tt) (called_step w g m n s f us arguments c h d)
