-- Behind a declaration that is settled a point shows its name.
use Rattle.std.proofs.Common.{◌≡◌, ℕ, ◌+◌, ◌<◌, List, [], ◌∷◌, ◌++◌, length, refl, sym, subst, Option, Some, None}
use Rattle.std.specs.Prelude.{slice_get}
use Rattle.pk_ctypes.specs.declared.places.Pos.{Pos}
use Rattle.pk_typed.specs.Trees.{EffectTree, DeclaredTree, ForStartTree}
use Rattle.pk_typed.specs.Trees as tree
use Rattle.pk_graph.specs.declared.graphs.Scope.{Scope}
use Rattle.pk_graph.specs.Graphs.{naming, hiding}
use Rattle.pk_draft.specs.declared.drafts.Label.{Label}
use Rattle.pk_draft.specs.Drafts.{on, fresh, inner, with_name, with_object}
use Rattle.pk_lower_row.specs.Contexts.{local_at}
use Rattle.pk_lower_statement.specs.Statements.{named, introduced, number_of, hidden, declared, all_declared, performed_if, for_start}
use Rattle.pk_welltyped.specs.Listed.{calls_if, calls_in_values_if, calls_in_effect_if, calls_in_all_declared, calls_at_start, objects_in_declared}
use Rattle.pk_welltyped.specs.WellTyped.{IsDeclared, AreDeclared, IsForStart}
use Rattle.pk_meaning.specs.Objects as objects
use Rattle.pk_meaning.specs.Objects.{file, local}
use Rattle.pk_meaning.specs.Programs as program
use Rattle.pk_meaning.specs.Programs.{with_local, with_declared, with_all_declared}
use Rattle.pk_meaning.specs.Work.{Place}
use Rattle.pk_meaning.specs.Steps as meaning
use Rattle.pk_meaning.specs.Steps.{place}
use Rattle.pk_visits.proofs.Slots.{Draft, Scoping, Extends}
use Rattle.pk_visits.proofs.Stands.{Whole, Proper, context_of, final, around, Stage}
use Rattle.pk_visits.proofs.Settled.Trees.{IsSettled, AreAllSettled, IsSettledStart}
use Rattle.pk_visits.proofs.Steps.Tells.{any_called, Any}
use Rattle.pk_visits.proofs.Grows.Statements.{stays_then, on_adds, fresh_adds, third_adds, scalar_first_grows, array_first_grows, all_declared_enlarges, Free, all_free}
use Rattle.pk_visits.proofs.Steps.Statements.{shows_on}

-- behind the name of the declared object a point shows it in scope
abbrev pub ShowsName : Whole → (k : ℕ) → Place → DeclaredTree → Draft → Type 0
ShowsName g k h (tree.scalar_object i q e) d = g.shows (introduced (context_of g k) i (on q d)).here k (place q (with_local g.program k i h.scope))
ShowsName g k h (tree.array_object i q es) d = g.shows (introduced (context_of g k) i (on q d)).here k (place q (with_local g.program k i h.scope))
ShowsName g k h (tree.static_object i q) d = g.shows (with_name i (on q d)).here k (place q (file i ∷ h.scope))
ShowsName g k h (tree.hiding_constant x q) d = g.shows (hidden x (on q d)).here k (place q h.scope)

-- the place behind the name is that behind the whole declaration
pub shown_behind : (g : Whole) (proper : Proper g) (k : ℕ) (h : Place) (v : DeclaredTree) (d : Draft) → ShowsName g k h v d
    → g.shows (declared (context_of g k) v d).here k (place (declared (context_of g k) v d).here.at (with_declared g.program k v h.scope))
shown_behind g proper k h (tree.scalar_object i q e) d shown =
    let c = context_of g k in
    let e0 = introduced c i (on q d) in
    let f = declared c (tree.scalar_object i q e) d in
    let same = (scalar_first_grows Any c i e e0 (any_called c (calls_if e))).here in
    let there : g.shows f.here k (place q (with_local g.program k i h.scope)) = subst (λ (l : Label). g.shows l k (place q (with_local g.program k i h.scope))) (sym same) shown in
    subst (λ z. g.shows f.here k (place z (with_local g.program k i h.scope))) (proper.at_positions f.here k _ there) there
shown_behind g proper k h (tree.array_object i q es) d shown =
    let c = context_of g k in
    let e0 = introduced c i (on q d) in
    let f = declared c (tree.array_object i q es) d in
    let same = (array_first_grows Any c i es e0 (any_called c (calls_in_values_if es))).here in
    let there : g.shows f.here k (place q (with_local g.program k i h.scope)) = subst (λ (l : Label). g.shows l k (place q (with_local g.program k i h.scope))) (sym same) shown in
    subst (λ z. g.shows f.here k (place z (with_local g.program k i h.scope))) (proper.at_positions f.here k _ there) there
shown_behind g proper k h (tree.static_object i q) d shown = shown
shown_behind g proper k h (tree.hiding_constant x q) d shown = shown

last_entry : (ss : Scoping) (z : Scope) → slice_get (ss ++ z ∷ []) (length ss) ≡ Some z
last_entry [] z = refl
last_entry (s ∷ ss) z = last_entry ss z

-- behind the name of the path's object, if it has one
pub name_shown : (g : Whole) (proper : Proper g) (k i : ℕ) (h : Place) (o : Option (List ℕ)) (x : ℕ) (d : Draft) → g.shows d.here k h → k < length g.program.paths → i < g.objects k → g.numbers k i ≡ x → Extends (named o x d).scopes g.scopes
    → g.shows (named o x d).here k (place h.at (program.named o (local k i) h.scope))
name_shown g proper k i h None x d shows path less is scopes = shows
name_shown g proper k i h (Some name) x d shows path less is scopes =
    let entry : ℕ → Scope = λ v. record { entry = naming v; outer = d.here.scope } in
    proper.enters d.here k i (length d.scopes) h shows path less
    (subst (λ v. slice_get g.scopes (length d.scopes) ≡ Some (entry v)) (sym is) (scopes (length d.scopes) (entry x) (last_entry d.scopes (entry x))))

pub shows_name : (g : Whole) (proper : Proper g) (k : ℕ) (h : Place) (v : DeclaredTree) (n : ℕ) (d : Draft) → IsDeclared (around g k n) v → g.shows d.here k (place d.here.at h.scope) → k < length g.program.paths → IsSettled (final g k) v d → Extends (declared (context_of g k) v d).scopes g.scopes
    → ShowsName g k h v d
shows_name g proper k h (tree.scalar_object i q e) n d fits shows path settled scopes =
    let c = context_of g k in
    let x = local_at c i in
    let first = (scalar_first_grows Any c i e (introduced c i (on q d)) (any_called c (calls_if e))).scopes in
    name_shown g proper k i (place q h.scope) x.name d.variables (with_object i (inner x.name x.int_type x.length c.path) (on q d)) (proper.positions d.here k h.scope q shows) path settled.0 settled.1
    (λ n z y. scopes n z (first n z y))
shows_name g proper k h (tree.array_object i q es) n d fits shows path settled scopes =
    let c = context_of g k in
    let x = local_at c i in
    let first = (array_first_grows Any c i es (introduced c i (on q d)) (any_called c (calls_in_values_if es))).scopes in
    name_shown g proper k i (place q h.scope) x.name d.variables (with_object i (inner x.name x.int_type x.length c.path) (on q d)) (proper.positions d.here k h.scope q shows) path settled.0 settled.1
    (λ n z y. scopes n z (first n z y))
shows_name g proper k h (tree.static_object i q) n d fits shows path settled scopes =
    let entry : Scope = record { entry = naming i; outer = d.here.scope } in
    proper.shares (on q d).here k i (length d.scopes) (place q h.scope) (proper.positions d.here k h.scope q shows) fits (scopes (length d.scopes) entry (last_entry d.scopes entry))
shows_name g proper k h (tree.hiding_constant x q) n d fits shows path settled scopes =
    let entry : Scope = record { entry = hiding (number_of x (on q d)); outer = d.here.scope } in
    proper.hides (on q d).here k (number_of x (on q d)) (length d.scopes) (place q h.scope) (proper.positions d.here k h.scope q shows) (scopes (length d.scopes) entry (last_entry d.scopes entry))

-- behind declarations
all_shown : (g : Whole) (proper : Proper g) (k : ℕ) (xs : objects.Scope) (vs : List DeclaredTree) (n : ℕ) (d : Draft) → AreDeclared (around g k n) vs → g.shows d.here k (place d.here.at xs) → k < length g.program.paths → AreAllSettled (final g k) (context_of g k) vs d
    → Extends (all_declared (context_of g k) vs d).scopes g.scopes → g.shows (all_declared (context_of g k) vs d).here k (place (all_declared (context_of g k) vs d).here.at (with_all_declared g.program k vs xs))
unfolding all_declared AreAllSettled
all_shown g proper k xs [] n d fits shows path settled scopes = shows
all_shown g proper k xs (v ∷ vs) n d fits shows path settled scopes =
    let c = context_of g k in
    let e = declared c v d in
    let rest = (all_declared_enlarges [] Free Any c vs e (all_free vs) (any_called c (calls_in_all_declared vs))).scopes in
    let name = shows_name g proper k (place d.here.at xs) v n d fits.0 shows path settled.0 (λ n z y. scopes n z (rest n z y)) in
    all_shown g proper k (with_declared g.program k v xs) vs (n + objects_in_declared v) e fits.1 (shown_behind g proper k (place d.here.at xs) v d name) path settled.1 scopes

-- ---- the first part of a `for`

-- behind an expression names are in scope as before
started : (g : Whole) (proper : Proper g) (k : ℕ) (xs : objects.Scope) (q : Pos) (v : Option EffectTree) (d : Draft) → g.shows d.here k (place d.here.at xs) → g.shows (on q (performed_if (context_of g k) v (fresh 1 (on q d)))).here k (place q xs)
started g proper k xs q v d shows =
    let c = context_of g k in
    let U = Any in
    let e = fresh 1 (on q d) in
    let first = third_adds [] Free U c v (any_called c (calls_in_effect_if v)) e in
    let all = stays_then (stays_then (on_adds [] Free U q d) (fresh_adds [] Free U 1 (on q d))) (stays_then first (on_adds [] Free U q (performed_if c v e))) in
    shows_on g proper k xs d.here (on q (performed_if c v e)).here shows all.here

-- the names in scope in a `for`, behind its first part
pub start_shown : (g : Whole) (proper : Proper g) (k : ℕ) (xs : objects.Scope) (q : Pos) (start : ForStartTree) (n : ℕ) (d : Draft) → IsForStart (around g k n) start → g.shows d.here k (place d.here.at xs) → IsSettledStart (final g k) (context_of g k) start (fresh 1 (on q d))
    → Stage g k (place q xs) (calls_at_start start) (fresh 1 (on q d)) (for_start (context_of g k) start (fresh 1 (on q d)))
    → g.shows (on q (for_start (context_of g k) start (fresh 1 (on q d)))).here k (place q (meaning.for_scope g.program k start xs))
start_shown g proper k xs q (tree.declarations vs) n d fits shows settled st =
    proper.positions (all_declared (context_of g k) vs (fresh 1 (on q d))).here k (with_all_declared g.program k vs xs) q (all_shown g proper k xs vs n (fresh 1 (on q d)) fits st.here st.path settled st.leads.scopes)
start_shown g proper k xs q (tree.expression v) n d fits shows settled st = started g proper k xs q v d shows
