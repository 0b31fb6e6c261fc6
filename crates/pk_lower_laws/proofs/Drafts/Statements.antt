-- Well-typed statements are lowered typed.
use Rattle.std.proofs.Common.{◌≡◌, ℕ, ◌+◌, suc, ◌<◌, ◌≤◌, Bool, true, false, List, [], ◌∷◌, ◌++◌, Option, Some, None, length, refl, ap, sym, subst, arith, slice_index_or, if◌then◌else◌}
use Rattle.std.specs.Prelude.{ℤ, All}
use Rattle.pk_ctypes.specs.declared.places.Pos.{Pos}
use Rattle.pk_ctypes.specs.declared.types.IntType.{IntType}
use Rattle.pk_ctypes.specs.declared.types.IntType.TheVariants.{Int}
use Rattle.pk_ctypes.specs.declared.types.Op.TheVariants.{Eq}
use Rattle.pk_ctypes.specs.Types.{InType}
use Rattle.pk_typed.specs.Trees.{ValueTree, EffectTree, ForStartTree, StatementTree, ItemTrees}
use Rattle.pk_typed.specs.Trees as tree
use Rattle.pk_typed.specs.Types.{type_of}
use Rattle.pk_graph.specs.declared.trees.Site.{Site}
use Rattle.pk_lower_laws.proofs.Drafts.Tables.{IsOfType}
use Rattle.pk_graph.specs.Trees.{TreeOf, constant, variable, Skip}
use Rattle.pk_draft.specs.Drafts.{Names, at, on, in_scope, fresh, link, go, away, come}
use Rattle.pk_draft.specs.Folding.{binary_tree}
use Rattle.pk_lower_row.specs.declared.shapes.Waiting.TheVariants.{Strong}
use Rattle.pk_lower_row.specs.Shapes.{converted_shape, stays}
use Rattle.pk_lower_row.specs.Contexts.{site, own_result}
use Rattle.pk_lower_row.specs.Rows as row
use Rattle.pk_lower_row.specs.Rows.{Ways, Operand, operand, stored_unless, guards, convert_after}
use Rattle.pk_lower_expression.specs.Expressions.{ways}
use Rattle.pk_lower_statement.specs.Statements as form
use Rattle.pk_lower_statement.specs.Statements.{lowered, lowered_items}
use Rattle.pk_lower_statement.specs.declared.statements.Exits.{Exits}
use Rattle.pk_welltyped.specs.Listed.{calls_in, calls_if, calls_in_effect_if, calls_in_declared, calls_at_start, calls_in_statement, calls_in_items, objects_in_declared, objects_at_start, objects_in, objects_in_items}
use Rattle.pk_welltyped.specs.WellTyped as good
use Rattle.pk_welltyped.specs.WellTyped.{Marks, IsReturned, IsValueIf, IsEffectIf, IsForStart, IsStatement, AreItems}
use Rattle.pk_lower_laws.proofs.Drafts.Places.{D, Place, Has, HasIf, Stage, Typed, Proper, Step, step_for, step_beside, step_back, quiet, same_scopes}
use Rattle.pk_lower_laws.proofs.Drafts.Verbs.{all_shorter, with_objects, typed_at, typed_standing, typed_link, typed_fresh, fresh_step, fresh_behind, at_step, link_step, away_step, come_step}
use Rattle.pk_lower_laws.proofs.Drafts.Trees.{constant_is, binary_is}
use Rattle.pk_lower_laws.proofs.Drafts.Rows.{Works, Reaches, Chooses, WaysAre, idle, seen, unless_step, guards_step}
use Rattle.pk_lower_laws.proofs.Drafts.Targets.{set_step}
use Rattle.pk_lower_laws.proofs.Drafts.Operators.{convert_gives}
use Rattle.pk_lower_laws.proofs.Drafts.Expressions.{CallsAre, split, around, values, effects}
use Rattle.pk_lower_laws.proofs.Drafts.Later.{value_later, effect_if_later}
use Rattle.pk_lower_laws.proofs.Drafts.Chains.{chain, run, use_it, gain, given, on_step, scope_step, go_step, begun_step}
use Rattle.pk_lower_laws.proofs.Drafts.Declarations.{more, declared_works, all_declared_work}

-- the points where jumps lead are there
pub record ExitsAre (w : Place) (m : Marks) (x : Exits) : Type 0 where
  pub broken : x.broken < w.points
  pub continued : x.continued < w.points
  pub left : x.left < w.points
  pub labels : (l : ℕ) → l < m.labels → x.labels + l < w.points
  pub cases : (i : ℕ) → i < m.cases → x.cases + i < w.points
  pub otherwise : m.has_default ≡ true → x.otherwise < w.points

-- a statement wherever its jumps lead
abbrev pub BodyIs : (w : Place) → (m n : ℕ) → (s k : Stage) → Marks → (Exits → D w → D w) → Type 0
BodyIs w m n s k marks f = (x : Exits) (d : D w) → Step w m n s k d (f x d) (ExitsAre w marks x) (Unit {0})

-- ---- choices

pub branching_step : (w : Place) → Proper w → (m n : ℕ) (s : Stage) (p : Pos) (c : Ways w.table.Variable) → Chooses w m n s c.choice → (d : D w) → Step w m n s s d (form.branching p c d) (Unit {0}) (d.points + 2 ≤ w.points)
branching_step w g m n s p c h d =
    let o = on p d in
    let few = d.points + 2 ≤ w.points in
    let e = c.choice d.points (d.points + 1) (fresh 2 o) in
    chain (chain (chain (on_step w m s p d) (fresh_step w g m 2 s o)) (use_it few (λ f. (omega (f, arith), omega (f, arith), λ a b. absurd (omega (b, arith)))) (h d.points (d.points + 1) (fresh 2 o)))) (use_it few (λ f. omega (f, arith)) (at_step w n s d.points e))

meeting_step : (w : Place) → Proper w → (m : ℕ) (s : Stage) (p : Pos) (e : ℕ) (d : D w) → Step w m m s s d (form.meeting p e d) (e < w.points) (Unit {0})
meeting_step w g m s p e d = quiet w m s d (form.meeting p e d) (e < w.points) (Unit {0}) refl refl refl refl (λ z. all_shorter w.IsEdge d.edges _ (all_shorter w.IsEdge (d.edges ++ _ ∷ []) _ z)) (same_scopes _ _ refl) (omega arith)
    (λ o b z t k.
    let q : d.points < w.points = omega (b.1, arith) in
    let d1 = on p d in
    let d2 = fresh 1 d1 in
    let d3 = link Skip d.points (at e d2) in
    let d4 = at d.point d3 in
    let t2 = typed_fresh w g s 1 d1 (typed_standing w s (record { at = p; path = d.here.path; scope = d.here.scope }) d refl t.scope t) in
    let t3 = typed_link w s Skip d.points (at e d2) q tt (λ c. tt) (typed_at w s e d2 k t2) in
    let t4 = typed_at w s d.point d3 t.point t3 in
    (typed_at w s d.points (link Skip d.points d4) q (typed_link w s Skip d.points d4 q tt (λ c. tt) t4), tt))

pub if_works : (w : Place) → Proper w → (m l j n : ℕ) (s t u : Stage) (marks : Marks) (x : Exits) (p : Pos) (c : Ways w.table.Variable) (a b : D w → D w) → Chooses w m l s c.choice
    → ((d : D w) → Step w l j s t d (a d) (ExitsAre w marks x) (Unit {0})) → ((d : D w) → Step w j n t u d (b d) (ExitsAre w marks x) (Unit {0})) → (d : D w) → Step w m n s u d (form.if_draft p c a b d) (ExitsAre w marks x) (Unit {0})
if_works w g m l j n s t u marks x p c a b h i k d =
    let R = ExitsAre w marks x in
    let few = d.points + 2 ≤ w.points in
    let e = form.branching p c d in
    let f = a e in
    let z = at (d.points + 1) f in
    let v = b z in
    let met = f.point < w.points in
    let F = R × few in
    let one = gain R (branching_step w g m l s p c h d) in
    let two = use_it F (λ q. q.0) (i e) in
    let three = seen w j t f F (F × met) (λ y q. (q, y.point)) in
    let four = use_it (F × met) (λ q. omega (q.0.1, arith)) (at_step w j t (d.points + 1) f) in
    let five = use_it (F × met) (λ q. q.0.0) (k z) in
    let six = step_for w n n u u v (form.meeting p f.point v) met (Unit {0}) (F × met) (Unit {0}) (λ q. q.1) (λ q. q) (meeting_step w g n u p f.point v) in
    chain (chain (chain (chain (chain one two) three) four) five) six

-- ---- loops

inside_are : (w : Place) (marks : Marks) (x : Exits) (e k : ℕ) → ExitsAre w marks x → e < w.points → k < w.points → ExitsAre w marks (form.inside e k x)
inside_are w marks x e k h a b = record { broken = a; continued = b; left = h.left; labels = h.labels; cases = h.cases; otherwise = h.otherwise }

pub while_works : (w : Place) → Proper w → (m l n : ℕ) (s t : Stage) (marks : Marks) (c : Ways w.table.Variable) (f : Exits → D w → D w) → Chooses w m l s c.choice → BodyIs w l n s t marks f → BodyIs w m n s t marks (form.while_draft c f)
while_works w g m l n s t marks c f h i x d =
    let R = ExitsAre w marks x in
    let q = d.points in
    let F = R × (q + 3 ≤ w.points) in
    let a = form.loop_begun d in
    let b = c.choice (q + 1) (q + 2) a in
    let e = at (q + 1) b in
    let y = f (form.inside (q + 2) q x) e in
    let z = go Skip q y in
    chain (chain (chain (chain (chain (gain R (begun_step w g m s d)) (use_it F (λ r. (omega (r.1, arith), omega (r.1, arith), λ x y. absurd (omega (x, arith)))) (h (q + 1) (q + 2) a))) (use_it F (λ r. omega (r.1, arith)) (at_step w l s (q + 1) b)))
    (use_it F (λ r. inside_are w marks x (q + 2) q r.0 (omega (r.1, arith)) (omega (r.1, arith))) (i (form.inside (q + 2) q x) e))) (use_it F (λ r. omega (r.1, arith)) (go_step w n t q y)))
    (given (Unit {0}) (λ r. tt) (use_it F (λ r. omega (r.1, arith)) (at_step w n t (q + 2) z)))

pub do_works : (w : Place) → Proper w → (m l n : ℕ) (s t : Stage) (marks : Marks) (p : Pos) (c : Ways w.table.Variable) (f : Exits → D w → D w) → BodyIs w m l s t marks f → Chooses w l n t c.choice → BodyIs w m n s t marks (form.do_draft p c f)
do_works w g m l n s t marks p c f i h x d =
    let R = ExitsAre w marks x in
    let q = d.points in
    let F = R × (q + 3 ≤ w.points) in
    let a = form.loop_begun d in
    let e = at q a in
    let y = f (form.inside (q + 2) (q + 1) x) e in
    let z = go Skip (q + 1) y in
    let o = on p z in
    let v = c.choice q (q + 2) o in
    chain (chain (chain (chain (chain (chain (gain R (begun_step w g m s d)) (use_it F (λ r. omega (r.1, arith)) (at_step w m s q a)))
    (use_it F (λ r. inside_are w marks x (q + 2) (q + 1) r.0 (omega (r.1, arith)) (omega (r.1, arith))) (i (form.inside (q + 2) (q + 1) x) e))) (use_it F (λ r. omega (r.1, arith)) (go_step w l t (q + 1) y))) (run F (on_step w l t p z)))
    (use_it F (λ r. (omega (r.1, arith), omega (r.1, arith), λ x y. absurd (omega (y, arith)))) (h q (q + 2) o))) (given (Unit {0}) (λ r. tt) (use_it F (λ r. omega (r.1, arith)) (at_step w n t (q + 2) v)))

-- The third part's calls stand before those of the body, which is made first.
pub for_works : (w : Place) → Proper w → (m a b l n : ℕ) (s t u : Stage) (marks : Marks) (p : Pos) (first : D w → D w) (test : (p q : ℕ) → D w → D w) (third : D w → D w) (f : Exits → D w → D w)
    → ((d : D w) → Step w m a s t d (first d) (Unit {0}) (Unit {0})) → Chooses w a b t test → Works w b l u third → BodyIs w l n t u marks f → BodyIs w m n s u marks (form.for_draft p first test third f)
for_works w g m a b l n s t u marks p first test third f hf ht hl hb x d =
    let R = ExitsAre w marks x in
    let e = d.points in
    let d1 = fresh 1 d in
    let d2 = first d1 in
    let d3 = on p d2 in
    let h = d3.points in
    let d4 = form.loop_begun d3 in
    let d5 = test (h + 1) e d4 in
    let d6 = at (h + 1) d5 in
    let d7 = f (form.inside e (h + 2) x) d6 in
    let d8 = go Skip (h + 2) d7 in
    let d9 = on p d8 in
    let d10 = in_scope d3.here.scope d9 in
    let d11 = third d10 in
    let d12 = go Skip h d11 in
    let d13 = at e d12 in
    let one = e + 1 ≤ w.points in
    let S = (R × one) × (d.here.scope ≤ length d.scopes) in
    let T = S × (d3.here.scope ≤ length d3.scopes) in
    let F = T × (h + 3 ≤ w.points) in
    let started = hf d1 in
    let testing = ht (h + 1) e d4 in
    let body = hb (form.inside e (h + 2) x) d6 in
    let behind = hl d10 in
    let begin = chain (chain (chain (chain (gain R (fresh_step w g m 1 s d)) (seen w m s d1 (R × one) S (λ t r. (r, t.scope)))) (run S started)) (run S (on_step w a t p d2)))
    (chain (seen w a t d3 S T (λ y r. (r, y.scope))) (gain T (begun_step w g a t d3))) in
    let tested = chain (chain begin (use_it F (λ r. (omega (r.1, arith), omega (r.0.0.0.1, arith), λ x y. absurd (omega (x, arith)))) testing)) (use_it F (λ r. omega (r.1, arith)) (at_step w b t (h + 1) d5)) in
    let round = chain (chain (chain (use_it F (λ r. inside_are w marks x e (h + 2) r.0.0.0.0 (omega (r.0.0.0.1, arith)) (omega (r.1, arith))) body) (use_it F (λ r. omega (r.1, arith)) (go_step w n u (h + 2) d7))) (run F (on_step w n u p d8)))
    (use_it F (λ r. let i = testing.scopes.many in let j = body.scopes.many in let k = r.0.1 in omega (i, j, k, arith)) (scope_step w n u d3.here.scope d9)) in
    let last = chain (chain (chain (run F behind) (use_it F (λ r. omega (r.1, arith)) (go_step w l u h d11))) (use_it F (λ r. omega (r.0.0.0.1, arith)) (at_step w l u e d12)))
    (given (Unit {0}) (λ r. tt) (use_it F (λ r. let o = started.scopes.many in let i = testing.scopes.many in let j = body.scopes.many in let z = behind.scopes.many in let k = r.0.0.1 in omega (o, i, j, z, k, arith)) (scope_step w l u d.here.scope d13))) in
    chain tested (step_back w b l n t u u d6 d10 (in_scope d.here.scope d13) F F (Unit {0}) round last)

-- ---- switches

abbrev AllIn : IntType → List ℤ → Type 0
AllIn t [] = Unit {0}
AllIn t (z ∷ zs) = InType t z × AllIn t zs

all_in : (t : IntType) (zs : List ℤ) → All (InType t) zs → AllIn t zs
all_in t [] h = tt
all_in t (z ∷ zs) h = (h 0 z (omega arith), all_in t zs (λ k d l. h (suc k) d (omega (l, arith))))

case_step : (w : Place) → Proper w → (m : ℕ) (s : Stage) (o : Site) (t : IntType) (r : TreeOf w.table.Variable) (z : ℤ) (p : ℕ) (d : D w) (R : Type 0) → (R → IsOfType w.table t r × InType t z × (p < w.points)) → Step w m m s s d (form.case_test o t r z p d) R R
case_step w g m s o t r z p d R f =
    let e = fresh 1 d in
    let c = binary_tree Eq o t r (constant t z) in
    let few = (d.points + 1 ≤ w.points) × (0 < d.points) in
    let F = R × few in
    let x = guards p d.points (c, e) in
    let is : F → IsOfType w.table Int c = λ q. let k = f q.0 in binary_is w.table Eq o t t r (constant t z) refl k.0 (constant_is w.table t z k.1) in
    chain (chain (gain R (fresh_behind w g m 1 s d)) (use_it F (λ q. (is q, ((f q.0).2, omega (q.1.0, arith), λ a b. absurd (omega (b, q.1.1, arith))))) (guards_step w m s Int p d.points (c, e)))) (given R (λ q. q.0) (use_it F (λ q. omega (q.1.0, arith)) (at_step w m s d.points x)))

cases_step : (w : Place) → Proper w → (m : ℕ) (s : Stage) (o : Site) (t : IntType) (r : TreeOf w.table.Variable) (zs : List ℤ) (p : ℕ) (d : D w) (R : Type 0) → AllIn t zs → (R → IsOfType w.table t r × (p + length zs ≤ w.points))
    → Step w m m s s d (form.case_tests o t r zs p d) R R
unfolding form.case_tests
cases_step w g m s o t r [] p d R h f = idle w m s d R
cases_step w g m s o t r (z ∷ zs) p d R h f =
    chain (case_step w g m s o t r z p d R (λ q. let k = f q in (k.0, h.0, omega (k.1, arith))))
    (cases_step w g m s o t r zs (p + 1) (form.case_test o t r z p d) R h.1 (λ q. let k = f q in (k.0, omega (k.1, arith))))

abbrev some : Bool → ℕ
some b = if b then 1 else 0

in_switch_are : (w : Place) (marks : Marks) (x : Exits) (e n : ℕ) (b : Bool) → ExitsAre w marks x → e + (1 + n + (if b then 1 else 0)) ≤ w.points → ExitsAre w (good.in_switch n b marks) (form.in_switch e n x)
in_switch_are w marks x e n b h k = record {
  broken = omega (k, arith);
  continued = h.continued;
  left = h.left;
  labels = h.labels;
  cases = λ i l. omega (l, k, arith);
  otherwise = λ is. omega (ap some is, k, arith);
}

away_where : (e n : ℕ) (b : Bool) (q : ℕ) → e + (1 + n + (if b then 1 else 0)) ≤ q → (if b then e + 1 + n else e) < q
away_where e n true q h = omega (h, arith)
away_where e n false q h = omega (h, arith)

pub switch_works : (w : Place) → Proper w → (m l n : ℕ) (s u : Stage) (marks : Marks) (o : Site) (t : IntType) (v : Operand w.table.Variable) (zs : List ℤ) (b : Bool) (f : Exits → D w → D w) → WaysAre w m l s v.int_type v.ways → AllIn t zs
    → BodyIs w l n s u (good.in_switch (length zs) b marks) f → BodyIs w m n s u marks (form.switch_draft o t v zs b f)
switch_works w g m l n s u marks o t v zs b f h zin i x d =
    let R = ExitsAre w marks x in
    let c = convert_after v.int_type t (v.ways.value d) in
    let stay = stays Strong (converted_shape v.int_type t v.shape) in
    let k = stored_unless stay t c in
    let e = k.1.points in
    let len = length zs in
    let many = 1 + len + (if b then 1 else 0) in
    let d2 = fresh many k.1 in
    let d3 = form.case_tests o t k.0 zs (e + 1) d2 in
    let q = if b then e + 1 + len else e in
    let d4 = away q d3 in
    let y = f (form.in_switch e len x) d4 in
    let is = IsOfType w.table t k.0 in
    let few = e + many ≤ w.points in
    let F = (R × is) × few in
    let value = gain R (convert_gives w m l s t v h d) in
    let wait = step_for w l l s s c.1 k.1 (IsOfType w.table t c.0 × R) (is × R) (R × IsOfType w.table t c.0) (R × is) (λ z. (z.1, z.0)) (λ z. (z.1, z.0)) (step_beside w l l s s c.1 k.1 (IsOfType w.table t c.0) is R (unless_step w g l s stay t c)) in
    let begin = chain (chain (chain value wait) (gain (R × is) (fresh_step w g l many s k.1))) (cases_step w g l s o t k.0 zs (e + 1) d2 F zin (λ z. (z.0.1, omega (z.1, arith)))) in
    chain (chain (chain begin (use_it F (λ z. away_where e len b w.points z.1) (away_step w g l s q d3))) (use_it F (λ z. in_switch_are w marks x e len b z.0.0 z.1) (i (form.in_switch e len x) d4)))
    (given (Unit {0}) (λ z. tt) (use_it F (λ z. omega (z.1, arith)) (go_step w n u e y)))

-- ---- the forms

pub result_there : (w : Place) (s : Stage) (t : IntType) (d : D w) → s.result ≡ Some t → Typed w s d → Has w.table (own_result w.context d) t None
result_there w s t d r z =
    subst (λ (n : Names w.table.Variable). Has w.table (n.result w.context.path (slice_index_or d.objects (length w.context.locals) 0)) t None) (sym z.names) (subst (HasIf w.table (w.table.names.result w.context.path (slice_index_or d.objects (length w.context.locals) 0))) r z.objects.result)

returned_works : (w : Place) → Proper w → (m n : ℕ) (s : Stage) (q : ℕ) (r : Option IntType) (e : Option ValueTree) → s.result ≡ r → IsReturned (around w s) r e → CallsAre w m (calls_if e) n → (d : D w)
    → Step w m n s s d (form.returned w.context q r e d) (q < w.points) (Unit {0})
returned_works w g m n s q None None h k c d = subst (λ (j : ℕ). Step w m j s s d (away q d) (q < w.points) (Unit {0})) c (away_step w g m s q d)
returned_works w g m n s q None (Some e) h k c d = absurd k
returned_works w g m n s q (Some t) None h k c d = absurd k
returned_works w g m n s q (Some t) (Some e) h k c d =
    let P = q < w.points in
    let y = own_result w.context d in
    let f = row.set_after t (type_of e) y ((ways w.context e).value d) in
    chain (run P (given (Unit {0}) (λ (z : IsOfType w.table t (variable y)). tt) (set_step w g m n s t y (operand e (ways w.context e)) (values w g m n s e k c) d (result_there w s t d h)))) (away_step w g n s q f)

value_if : (w : Place) → Proper w → (m n : ℕ) (s : Stage) (e : Option ValueTree) → IsValueIf (around w s) e → CallsAre w m (calls_if e) n → Chooses w m n s (form.for_test w.context e)
value_if w g m n s None h c p q d = subst (λ (j : ℕ). Step w m j s s d (link Skip p d) (Reaches w p q) (Unit {0})) c (step_for w m m s s d (link Skip p d) (p < w.points) (Unit {0}) (Reaches w p q) (Unit {0}) (λ x. x.0) (λ x. x) (link_step w m s p d))
value_if w g m n s (Some e) h c p q d = (values w g m n s e h c).choice p q d

effect_if : (w : Place) → Proper w → (m n : ℕ) (s : Stage) (e : Option EffectTree) → IsEffectIf (around w s) e → CallsAre w m (calls_in_effect_if e) n → Works w m n s (form.performed_if w.context e)
effect_if w g m n s None h c d = subst (λ (j : ℕ). Step w m j s s d d (Unit {0}) (Unit {0})) c (idle w m s d (Unit {0}))
effect_if w g m n s (Some e) h c d = effects w g m n s e h c d

start_works : (w : Place) → Proper w → (m n : ℕ) (s : Stage) (x : ForStartTree) → IsForStart (around w s) x → CallsAre w m (calls_at_start x) n → (d : D w)
    → Step w m n s (more (objects_at_start x) s) d (form.for_start w.context x d) (Unit {0}) (Unit {0})
start_works w g m n s (tree.declarations ds) h c d = all_declared_work w g m n s ds h c d
start_works w g m n s (tree.expression e) h c d =
    let same : s.objects ≡ s.objects + 0 = omega arith in
    subst (λ (q : ℕ). Step w m n s (with_objects q s) d (form.performed_if w.context e d) (Unit {0}) (Unit {0})) same (effect_if w g m n s e h c d)

-- a statement that declares as many objects
to_objects : (w : Place) (m n : ℕ) (s : Stage) (marks : Marks) (f : Exits → D w → D w) (j k : ℕ) → j ≡ k → BodyIs w m n s (with_objects j s) marks f → BodyIs w m n s (with_objects k s) marks f
to_objects w m n s marks f j k e h = subst (λ (q : ℕ). BodyIs w m n s (with_objects q s) marks f) e h

-- one that makes no calls and declares nothing
to_end : (w : Place) (m n : ℕ) (s : Stage) (marks : Marks) (f : Exits → D w → D w) → m ≡ n → BodyIs w m m s s marks f → BodyIs w m n s (more 0 s) marks f
to_end w m n s marks f c h =
    let same : s.objects ≡ s.objects + 0 = omega arith in
    subst (λ (q : ℕ). BodyIs w m q s (more 0 s) marks f) c (to_objects w m m s marks f s.objects (s.objects + 0) same h)

none_more : (w : Place) (m n : ℕ) (s : Stage) (marks : Marks) (f : Exits → D w → D w) → BodyIs w m n s s marks f → BodyIs w m n s (more 0 s) marks f
none_more w m n s marks f h = let same : s.objects ≡ s.objects + 0 = omega arith in to_objects w m n s marks f s.objects (s.objects + 0) same h

mutual
  unfolding lowered lowered_items IsStatement AreItems calls_in_statement calls_in_items objects_in objects_in_items

  pub statements : (w : Place) → Proper w → (m n : ℕ) (s : Stage) (marks : Marks) → s.result ≡ w.context.returns → marks.returns ≡ w.context.returns → (t : StatementTree) → IsStatement (around w s) marks t → CallsAre w m (calls_in_statement t) n
      → BodyIs w m n s (more (objects_in t) s) marks (lowered w.context t)
  statements w g m n s marks r q (tree.block p is) h c = λ x d.
      let R = ExitsAre w marks x in
      let F = R × (d.here.scope ≤ length d.scopes) in
      let a = items w g m n s marks r q is h c x d in
      chain (chain (seen w m s d R F (λ t z. (z, t.scope))) (use_it F (λ z. z.0) a))
      (given (Unit {0}) (λ z. tt) (use_it F (λ z. let x = a.scopes.many in let y = z.1 in omega (x, y, arith)) (scope_step w n (more (objects_in_items is) s) d.here.scope (lowered_items w.context is x d))))
  statements w g m n s marks r q (tree.empty p) h c = to_end w m n s marks (lowered w.context (tree.empty p)) c (λ x d. given (Unit {0}) (λ z. tt) (idle w m s d (ExitsAre w marks x)))
  statements w g m n s marks r q (tree.effect p e) h c =
      none_more w m n s marks (lowered w.context (tree.effect p e)) (λ x d. given (Unit {0}) (λ z. tt) (run (ExitsAre w marks x) (chain (on_step w m s p d) (effects w g m n s e h c (on p d)))))
  statements w g m n s marks r q (tree.label p l t) h c =
      λ x d. let R = ExitsAre w marks x in chain (chain (run R (on_step w m s p d)) (use_it R (λ z. z.labels l h.0) (come_step w g m s (x.labels + l) (on p d)))) (statements w g m n s marks r q t h.1 c x (come (x.labels + l) (on p d)))
  statements w g m n s marks r q (tree.case p i t) h c =
      λ x d. let R = ExitsAre w marks x in chain (chain (run R (on_step w m s p d)) (use_it R (λ z. z.cases i h.0) (come_step w g m s (x.cases + i) (on p d)))) (statements w g m n s marks r q t h.1 c x (come (x.cases + i) (on p d)))
  statements w g m n s marks r q (tree.default p t) h c =
      λ x d. let R = ExitsAre w marks x in chain (chain (run R (on_step w m s p d)) (use_it R (λ z. z.otherwise h.0) (come_step w g m s x.otherwise (on p d)))) (statements w g m n s marks r q t h.1 c x (come x.otherwise (on p d)))
  statements w g m n s marks r q (tree.if_then p e t) h c =
      let k = split w m n (calls_in e) (calls_in_statement t) c in
      let u = more (objects_in t) s in
      λ x d. if_works w g m k.middle n n s u u marks x p (ways w.context e) (lowered w.context t x) (λ f. f) (values w g m k.middle s e h.0 k.first).choice (statements w g k.middle n s marks r q t h.1 k.second x)
      (λ f. given (Unit {0}) (λ z. tt) (idle w n u f (ExitsAre w marks x))) d
  statements w g m n s marks r q (tree.if_else p e t o) h c =
      let k = split w m n (calls_in e ++ calls_in_statement t) (calls_in_statement o) c in
      let l = split w m k.middle (calls_in e) (calls_in_statement t) k.first in
      let u = more (objects_in t) s in
      let same : s.objects + objects_in t + objects_in o ≡ s.objects + (objects_in t + objects_in o) = omega arith in
      to_objects w m n s marks (lowered w.context (tree.if_else p e t o)) (s.objects + objects_in t + objects_in o) (s.objects + (objects_in t + objects_in o)) same
      (λ x d. if_works w g m l.middle k.middle n s u (more (objects_in o) u) marks x p (ways w.context e) (lowered w.context t x) (lowered w.context o x) (values w g m l.middle s e h.0 l.first).choice
      (statements w g l.middle k.middle s marks r q t h.1 l.second x) (statements w g k.middle n u marks r q o h.2 k.second x) d)
  statements w g m n s marks r q (tree.switch p t e zs b o) h c =
      let k = split w m n (calls_in e) (calls_in_statement o) c in
      let u = more (objects_in o) s in
      λ x d. chain (run (ExitsAre w marks x) (on_step w m s p d))
      (switch_works w g m k.middle n s u marks (site w.context p) t (operand e (ways w.context e)) zs b (lowered w.context o) (values w g m k.middle s e h.0 k.first) (all_in t zs h.1)
      (statements w g k.middle n s (good.in_switch (length zs) b marks) r q o h.2 k.second) x (on p d))
  statements w g m n s marks r q (tree.while p e t) h c =
      let k = split w m n (calls_in e) (calls_in_statement t) c in
      λ x d. chain (run (ExitsAre w marks x) (on_step w m s p d))
      (while_works w g m k.middle n s (more (objects_in t) s) marks (ways w.context e) (lowered w.context t) (values w g m k.middle s e h.0 k.first).choice (statements w g k.middle n s marks r q t h.1 k.second) x (on p d))
  statements w g m n s marks r q (tree.do_while p t e) h c =
      let k = split w m n (calls_in_statement t) (calls_in e) c in
      let u = more (objects_in t) s in
      λ x d. chain (run (ExitsAre w marks x) (on_step w m s p d))
      (do_works w g m k.middle n s u marks p (ways w.context e) (lowered w.context t) (statements w g m k.middle s marks r q t h.0 k.first) (values w g k.middle n u e (value_later w s u (omega arith) e h.1) k.second).choice x (on p d))
  statements w g m n s marks r q (tree.for_loop p a e third t) h c =
      let k = split w m n (calls_at_start a ++ calls_if e ++ calls_in_effect_if third) (calls_in_statement t) c in
      let l = split w m k.middle (calls_at_start a ++ calls_if e) (calls_in_effect_if third) k.first in
      let j = split w m l.middle (calls_at_start a) (calls_if e) l.first in
      let v = more (objects_at_start a) s in
      let u = more (objects_in t) v in
      let same : s.objects + objects_at_start a + objects_in t ≡ s.objects + (objects_at_start a + objects_in t) = omega arith in
      to_objects w m n s marks (lowered w.context (tree.for_loop p a e third t)) (s.objects + objects_at_start a + objects_in t) (s.objects + (objects_at_start a + objects_in t)) same
      (λ x d. chain (run (ExitsAre w marks x) (on_step w m s p d))
      (for_works w g m j.middle l.middle k.middle n s v u marks p (form.for_start w.context a) (form.for_test w.context e) (form.performed_if w.context third) (lowered w.context t)
      (start_works w g m j.middle s a h.0 j.first) (value_if w g j.middle l.middle v e h.1 j.second) (effect_if w g l.middle k.middle u third (effect_if_later w v u (omega arith) third h.2) l.second) (statements w g k.middle n v marks r q t h.3 k.second) x (on p d)))
  statements w g m n s marks r q (tree.goto p l) h c = to_end w m n s marks (lowered w.context (tree.goto p l)) c
      (λ x d. let R = ExitsAre w marks x in chain (run R (on_step w m s p d)) (given (Unit {0}) (λ z. tt) (use_it R (λ z. z.labels l h) (away_step w g m s (x.labels + l) (on p d)))))
  statements w g m n s marks r q (tree.continue p) h c = to_end w m n s marks (lowered w.context (tree.continue p)) c
      (λ x d. let R = ExitsAre w marks x in chain (run R (on_step w m s p d)) (given (Unit {0}) (λ z. tt) (use_it R (λ z. z.continued) (away_step w g m s x.continued (on p d)))))
  statements w g m n s marks r q (tree.break p) h c = to_end w m n s marks (lowered w.context (tree.break p)) c
      (λ x d. let R = ExitsAre w marks x in chain (run R (on_step w m s p d)) (given (Unit {0}) (λ z. tt) (use_it R (λ z. z.broken) (away_step w g m s x.broken (on p d)))))
  statements w g m n s marks r q (tree.return p e) h c = none_more w m n s marks (lowered w.context (tree.return p e))
      (λ x d. let R = ExitsAre w marks x in chain (run R (on_step w m s p d)) (given (Unit {0}) (λ z. tt) (use_it R (λ z. z.left)
      (returned_works w g m n s x.left w.context.returns e r (subst (λ (o : Option IntType). IsReturned (around w s) o e) q h) c (on p d)))))

  pub items : (w : Place) → Proper w → (m n : ℕ) (s : Stage) (marks : Marks) → s.result ≡ w.context.returns → marks.returns ≡ w.context.returns → (is : ItemTrees) → AreItems (around w s) marks is → CallsAre w m (calls_in_items is) n
      → BodyIs w m n s (more (objects_in_items is) s) marks (lowered_items w.context is)
  items w g m n s marks r q tree.no_items h c = to_end w m n s marks (lowered_items w.context tree.no_items) c (λ x d. given (Unit {0}) (λ z. tt) (idle w m s d (ExitsAre w marks x)))
  items w g m n s marks r q (tree.declared_before v is) h c =
      let k = split w m n (calls_in_declared v) (calls_in_items is) c in
      let one = objects_in_declared v in
      let same : s.objects + one + objects_in_items is ≡ s.objects + (one + objects_in_items is) = omega arith in
      to_objects w m n s marks (lowered_items w.context (tree.declared_before v is)) (s.objects + one + objects_in_items is) (s.objects + (one + objects_in_items is)) same
      (λ x d. chain (run (ExitsAre w marks x) (declared_works w g m k.middle s v h.0 k.first d)) (items w g k.middle n (more one s) marks r q is h.1 k.second x (form.declared w.context v d)))
  items w g m n s marks r q (tree.statement_before t is) h c =
      let k = split w m n (calls_in_statement t) (calls_in_items is) c in
      let u = more (objects_in t) s in
      let same : s.objects + objects_in t + objects_in_items is ≡ s.objects + (objects_in t + objects_in_items is) = omega arith in
      to_objects w m n s marks (lowered_items w.context (tree.statement_before t is)) (s.objects + objects_in t + objects_in_items is) (s.objects + (objects_in t + objects_in_items is)) same
      (λ x d. let R = ExitsAre w marks x in let f = lowered w.context t x d in
      chain (step_for w m k.middle s u d f (R × R) (Unit {0} × R) R R (λ z. (z, z)) (λ z. z.1) (step_beside w m k.middle s u d f R (Unit {0}) R (statements w g m k.middle s marks r q t h.0 k.first x d)))
      (items w g k.middle n u marks r q is h.1 k.second x f))
