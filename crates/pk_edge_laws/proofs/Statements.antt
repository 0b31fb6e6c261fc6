-- The edges of each statement stay among its points, those of its marks and its exits.
use Rattle.std.proofs.Common.{◌≡◌, ℕ, zero, suc, ◌+◌, ◌<◌, ◌≤◌, ◌⊎◌, List, [], ◌∷◌, ◌++◌, length, Bool, true, false, if◌then◌else◌, ℤ, Option, Some, None, refl, sym, ◌∙◌, subst, inl, inr, arith}
use Rattle.std.specs.List.{Contains}
use Rattle.std.proofs.lemmas.List.Elements.{Contains-push_cases}
use Rattle.pk_ctypes.specs.declared.places.Pos.{Pos}
use Rattle.pk_ctypes.specs.declared.types.IntType.{IntType}
use Rattle.pk_ctypes.specs.declared.types.Op.TheVariants.{Eq}
use Rattle.pk_typed.specs.Trees.{ValueTree, EffectTree, ValueTrees, DeclaredTree, ForStartTree, StatementTree, ItemTrees}
use Rattle.pk_typed.specs.Trees as tree
use Rattle.pk_typed.specs.Types.{type_of}
use Rattle.pk_typed.specs.declared.values.Variable.TheVariants.{Local}
use Rattle.pk_welltyped.specs.Listed.{calls_in, calls_in_values, calls_if, calls_in_values_if, calls_in_effect_if, calls_in_declared, calls_in_all_declared, calls_at_start, calls_in_statement, calls_in_items}
use Rattle.pk_welltyped.specs.WellTyped as WellTyped
use Rattle.pk_welltyped.specs.WellTyped.{Around, Marks, IsStatement, AreItems}
use Rattle.pk_welltyped.specs.Marks as marks
use Rattle.pk_welltyped.specs.Marks.{one_if, times, times_in}
use Rattle.pk_meaning.specs.Steps.{Mark, labelled, numbered, otherwise, is_label, is_case, is_default}
use Rattle.pk_graph.specs.declared.trees.Site.{Site}
use Rattle.pk_graph.specs.Trees.{TreeOf, constant, Skip, Clear}
use Rattle.pk_draft.specs.declared.drafts.Region.{Region}
use Rattle.pk_draft.specs.Drafts.{EdgeFrom, DraftOf, Given, at, on, in_scope, placed, all_placed, fresh, link, go, emit, away, come, inner, with_object}
use Rattle.pk_draft.specs.Folding.{conversion, binary_tree}
use Rattle.pk_lower_row.specs.declared.shapes.Waiting.TheVariants.{Strong}
use Rattle.pk_lower_row.specs.Shapes.{converted_shape, shape_of}
use Rattle.pk_lower_row.specs.Contexts.{Context, site, own_result, local_at, array_of}
use Rattle.pk_lower_row.specs.Rows as rows
use Rattle.pk_lower_row.specs.Rows.{operand}
use Rattle.pk_lower_expression.specs.Expressions.{ways}
use Rattle.pk_lower_statement.specs.declared.statements.Exits.{Exits}
use Rattle.pk_lower_statement.specs.Statements as statements
use Rattle.pk_lower_statement.specs.Statements.{named, introduced, item, items, declared, all_declared, returned, performed_if, for_start, for_test, inside, in_switch, if_draft, loop_begun, while_draft, do_draft, for_draft, case_test, case_tests, tested, switch_begun, lowered, lowered_items}
use Rattle.pk_visits.proofs.Settled.Trees.{mark_point}
use Rattle.pk_visits.proofs.Grows.Statements.{IsMark, label_once, case_once}
use Rattle.pk_edge_laws.specs.Jumps.{gotos, gotos_in, HasNoCase}
use Rattle.pk_edge_laws.specs.Edges.{IsNew, region_at, IsSame, IsLeftOut, IsTaken, IsMade, SplitsBy, GoesBy, NoPoint, IsOneOf, GoesOn, Goes, AreSized, IsExit, StatementsStay, IsLabelIn, IsInLoop, IsPartOf, IsEnteredAt, LoopsAreEntered}
use Rattle.pk_edge_laws.proofs.Goes.{splits_from, splits_then, goes_then, reserving, going_on, one_edge, next_out, one_more, loosened}
use Rattle.pk_edge_laws.proofs.Rows.{Makes, Chooses, goes_trans, goes_refl, emit_goes, guards_split, held_goes}
use Rattle.pk_edge_laws.proofs.Expressions.{front_sized, back_sized, values, effects}

-- named points, and c new ones
abbrev pub New : (ℕ → Type 0) → (n c x : ℕ) → Type 0
New M n c x = M x ⊎ IsNew n (n + c) x

pub with_more : {V : Type 0} {z : ℕ → ℕ} (M N : ℕ → Type 0) {p n q m : ℕ} {es fs : List (EdgeFrom V)} {rs ts : List Region} → GoesBy z NoPoint NoPoint p n es rs q m fs ts → GoesBy z M N p n es rs q m fs ts
with_more M N {p} {n} {q} {m} a = record { point = elim a.point [ inl e ↦ inl e | inr k ↦ elim k [ inl never ↦ absurd never | inr h ↦ inr (inr h) ] ]; splits = loosened (λ x k. absurd k) (λ x k. absurd k) a.splits }

-- on from a named point
next : {V : Type 0} {z : ℕ → ℕ} {M N : ℕ → Type 0} {p s n m l : ℕ} {es fs gs : List (EdgeFrom V)} {rs ts us : List Region} → M s → SplitsBy z M N p n es rs m fs ts → SplitsBy z M N s m fs ts l gs us → SplitsBy z M N p n es rs l gs us
next {M = M} {N = N} h a b = splits_from {K = M} {L = N} (inr (inl h)) (λ x k. k) (λ x k. k) a b

pub leads : {V : Type 0} {z : ℕ → ℕ} (M N : ℕ → Type 0) (q : ℕ) (d : DraftOf V) → N q → SplitsBy z M N d.point d.points d.edges d.regions d.points (link Skip q d).edges d.regions
leads {z = z} M N q d h = one_edge z M N d.point d.points d.points Skip q d.edges d.regions (omega arith) (inl h)

chooses : {V : Type 0} {z : ℕ → ℕ} (M N : ℕ → Type 0) (p q : ℕ) {a n m : ℕ} {es fs : List (EdgeFrom V)} {rs ts : List Region} → N p → N q → SplitsBy z NoPoint (IsOneOf p q) a n es rs m fs ts → SplitsBy z M N a n es rs m fs ts
chooses M N p q h k s = loosened (λ x none. absurd none) (λ x e. elim e [ inl i ↦ subst N (sym i) h | inr i ↦ subst N (sym i) k ]) s

pub away_goes : {V : Type 0} {z : ℕ → ℕ} (N : ℕ → Type 0) (M : ℕ → Type 0) (q : ℕ) (d : DraftOf V) → N q → GoesOn z M N d (away q d)
away_goes {z = z} N M q d h = record { point = inr (inr (omega arith, omega arith)); splits = one_edge z M N d.point d.points (d.points + 1) Skip q d.edges d.regions (omega arith) (inl h) }

pub come_goes : {V : Type 0} {z : ℕ → ℕ} (M N : ℕ → Type 0) (q : ℕ) (d : DraftOf V) → M q → N q → GoesOn z M N d (come q d)
come_goes M N q d h k = record { point = inr (inl h); splits = leads M N q d k }

-- ---- declarations

named_goes : {V : Type 0} {z : ℕ → ℕ} (o : Option (List ℕ)) (x : ℕ) (d : DraftOf V) → Goes z d (named o x d)
named_goes None x d = goes_refl d
named_goes (Some name) x d = goes_refl d

introduced_goes : {V : Type 0} {z : ℕ → ℕ} (c : Context) (i : ℕ) (d : DraftOf V) → Goes z d (introduced c i d)
introduced_goes c i d = let x = local_at c i in named_goes x.name d.variables (with_object i (inner x.name x.int_type x.length c.path) d)

items_go : {V : Type 0} (z : ℕ → ℕ) (c : Context) (i j : ℕ) (es : ValueTrees) (d : DraftOf V) → AreSized z c (calls_in_values es) → Goes z d (items c i j es d)
unfolding items calls_in_values
items_go z c i j tree.no_values d h = goes_refl d
items_go {V} z c i j (tree.value_before e es) d h =
    let r = (ways c e).value d in
    goes_trans ((values V z c e (front_sized z c (calls_in e) (calls_in_values es) h)).value d) (goes_trans (emit_goes _ r.1)
    (items_go z c i (j + 1) es (item c i j (type_of e) (ways c e) d) (back_sized z c (calls_in e) (calls_in_values es) h)))

scalar_first_goes : {V : Type 0} (z : ℕ → ℕ) (c : Context) (i : ℕ) (e : Option ValueTree) (d : DraftOf V) → AreSized z c (calls_if e) → Goes z d (statements.scalar_first c i e d)
scalar_first_goes z c i None d h = emit_goes _ d
scalar_first_goes {V} z c i (Some e) d h = goes_trans ((values V z c e h).value d) (emit_goes _ ((ways c e).value d).1)

array_first_goes : {V : Type 0} (z : ℕ → ℕ) (c : Context) (i : ℕ) (es : Option ValueTrees) (d : DraftOf V) → AreSized z c (calls_in_values_if es) → Goes z d (statements.array_first c i es d)
array_first_goes z c i None d h = emit_goes _ d
array_first_goes z c i (Some es) d h = goes_trans (emit_goes (Clear (array_of c (Local i) d)) d) (items_go z c i 0 es (emit (Clear (array_of c (Local i) d)) d) h)

pub declared_goes : {V : Type 0} (z : ℕ → ℕ) (c : Context) (v : DeclaredTree) (d : DraftOf V) → AreSized z c (calls_in_declared v) → Goes z d (declared c v d)
declared_goes z c (tree.scalar_object i p e) d h = goes_trans (introduced_goes c i (on p d)) (scalar_first_goes z c i e (introduced c i (on p d)) h)
declared_goes z c (tree.array_object i p es) d h = goes_trans (introduced_goes c i (on p d)) (array_first_goes z c i es (introduced c i (on p d)) h)
declared_goes z c (tree.static_object i p) d h = goes_refl d
declared_goes z c (tree.hiding_constant x p) d h = goes_refl d

all_declared_go : {V : Type 0} (z : ℕ → ℕ) (c : Context) (vs : List DeclaredTree) (d : DraftOf V) → AreSized z c (calls_in_all_declared vs) → Goes z d (all_declared c vs d)
unfolding all_declared
all_declared_go z c [] d h = goes_refl d
all_declared_go z c (v ∷ vs) d h =
    goes_trans (declared_goes z c v d (front_sized z c (calls_in_declared v) (calls_in_all_declared vs) h))
    (all_declared_go z c vs (declared c v d) (back_sized z c (calls_in_declared v) (calls_in_all_declared vs) h))

pub performed_goes : {V : Type 0} (z : ℕ → ℕ) (c : Context) (e : Option EffectTree) → AreSized z c (calls_in_effect_if e) → Makes {V = V} z (performed_if c e)
performed_goes z c None h d = goes_refl d
performed_goes {V} z c (Some e) h d = effects V z c e h d

pub test_splits : {V : Type 0} (z : ℕ → ℕ) (c : Context) (e : Option ValueTree) → AreSized z c (calls_if e) → Chooses {V = V} z (for_test c e)
test_splits z c None h p q d = one_edge z NoPoint (IsOneOf p q) d.point d.points d.points Skip p d.edges d.regions (omega arith) (inl (inl refl))
test_splits {V} z c (Some e) h p q d = (values V z c e h).choice p q d

pub start_goes : {V : Type 0} (z : ℕ → ℕ) (c : Context) (f : ForStartTree) → AreSized z c (calls_at_start f) → Makes {V = V} z (for_start c f)
start_goes z c (tree.declarations vs) h d = all_declared_go z c vs d h
start_goes z c (tree.expression e) h d = performed_goes z c e h d

returned_goes : {V : Type 0} (z : ℕ → ℕ) (M N : ℕ → Type 0) (c : Context) (left : ℕ) (r : Option IntType) (e : Option ValueTree) → N left → AreSized z c (calls_if e) → (d : DraftOf V) → GoesOn z M N d (returned c left r e d)
returned_goes z M N c left None None k h d = away_goes N M left d k
returned_goes z M N c left None (Some e) k h d = away_goes N M left d k
returned_goes z M N c left (Some t) None k h d = away_goes N M left d k
returned_goes {V} z M N c left (Some t) (Some e) k h d =
    let r = (ways c e).value d in
    let f = rows.set_after t (type_of e) (own_result c d) r in
    goes_then (with_more M N (goes_trans ((values V z c e h).value d) (emit_goes _ r.1))) (away_goes N M left f k)

-- ---- branches and loops, whose parts have the new points as marks and ends

abbrev Body : {V : Type 0} → (z : ℕ → ℕ) → (M N : ℕ → Type 0) → (n c : ℕ) → (DraftOf V → DraftOf V) → Type 0
Body {V} z M N n c f = (d : DraftOf V) → GoesOn z (New M n c) (New N n c) d (f d)

-- where it stands behind a part that began at a named point
behind : (M : ℕ → Type 0) (p s q k n m l : ℕ) → M s → k ≤ n → m ≤ l → (q ≡ s) ⊎ (M q ⊎ IsNew n m q) → (q ≡ p) ⊎ (M q ⊎ IsNew k l q)
behind M p s q k n m l h a b (inl e) = inr (inl (subst M (sym e) h))
behind M p s q k n m l h a b (inr (inl i)) = inr (inl i)
behind M p s q k n m l h a b (inr (inr i)) = let u = i.0 in let v = i.1 in inr (inr (omega (arith, a, u), omega (arith, b, v)))

-- a `while` from its head on
while_turns : {V : Type 0} {z : ℕ → ℕ} (M N : ℕ → Type 0) (w : rows.Ways V) (s : Exits → DraftOf V → DraftOf V) (x : Exits) (d : DraftOf V) → Chooses z w.choice
    → ((b k : ℕ) → IsNew d.points (d.points + 3) b → IsNew d.points (d.points + 3) k → Body z M N d.points 3 (s (inside b k x))) → SplitsBy z (New M d.points 3) (New N d.points 3) d.points (d.points + 3) (loop_begun d).edges d.regions (while_draft w s x d).points (while_draft w s x d).edges (while_draft w s x d).regions
while_turns M N w s x d c h =
    let n = d.points in
    let K = New M n 3 in
    let L = New N n 3 in
    let d1 = loop_begun d in
    let d2 = w.choice (n + 1) (n + 2) d1 in
    let r = at (n + 1) d2 in
    let b = h (n + 2) n (omega arith, omega arith) (omega arith, omega arith) r in
    next {M = K} {N = L} (inr (omega arith, omega arith)) (chooses K L (n + 1) (n + 2) (inr (omega arith, omega arith)) (inr (omega arith, omega arith)) (c (n + 1) (n + 2) d1))
    (splits_then b (leads K L n (s (inside (n + 2) n x) r) (inr (omega arith, omega arith))))

-- to where a loop begins again
entering : {V : Type 0} {z : ℕ → ℕ} (M N : ℕ → Type 0) (d : DraftOf V) → SplitsBy z (New M d.points 3) (New N d.points 3) d.point (d.points + 3) d.edges d.regions (d.points + 3) (loop_begun d).edges d.regions
entering {z = z} M N d = one_edge z (New M d.points 3) (New N d.points 3) d.point (d.points + 3) (d.points + 3) Skip d.points d.edges d.regions (omega arith) (inl (inr (omega arith, omega arith)))

while_goes : {V : Type 0} {z : ℕ → ℕ} (M N : ℕ → Type 0) (w : rows.Ways V) (s : Exits → DraftOf V → DraftOf V) (x : Exits) (d : DraftOf V) → Chooses z w.choice
    → ((b k : ℕ) → IsNew d.points (d.points + 3) b → IsNew d.points (d.points + 3) k → Body z M N d.points 3 (s (inside b k x))) → GoesOn z M N d (while_draft w s x d)
while_goes M N w s x d c h =
    let n = d.points in
    going_on {K = M} {L = N} {M = New M n 3} {N = New N n 3} 3 (n + 2) (omega arith, omega arith) (λ y k. k) (λ y k. k)
    (next {M = New M n 3} {N = New N n 3} (inr (omega arith, omega arith)) (entering M N d) (while_turns M N w s x d c h))

do_turns : {V : Type 0} {z : ℕ → ℕ} (M N : ℕ → Type 0) (p : Pos) (w : rows.Ways V) (s : Exits → DraftOf V → DraftOf V) (x : Exits) (d : DraftOf V) → Chooses z w.choice
    → ((b k : ℕ) → IsNew d.points (d.points + 3) b → IsNew d.points (d.points + 3) k → Body z M N d.points 3 (s (inside b k x))) → SplitsBy z (New M d.points 3) (New N d.points 3) d.points (d.points + 3) (loop_begun d).edges d.regions (do_draft p w s x d).points (do_draft p w s x d).edges (do_draft p w s x d).regions
do_turns M N p w s x d c h =
    let n = d.points in
    let K = New M n 3 in
    let L = New N n 3 in
    let r = at n (loop_begun d) in
    let e = s (inside (n + 2) (n + 1) x) r in
    let o = on p (go Skip (n + 1) e) in
    let b = h (n + 2) (n + 1) (omega arith, omega arith) (omega arith, omega arith) r in
    next {M = K} {N = L} (inr (omega arith, omega arith)) (splits_then b (leads K L (n + 1) e (inr (omega arith, omega arith))))
    (chooses K L n (n + 2) (inr (omega arith, omega arith)) (inr (omega arith, omega arith)) (c n (n + 2) o))

do_goes : {V : Type 0} {z : ℕ → ℕ} (M N : ℕ → Type 0) (p : Pos) (w : rows.Ways V) (s : Exits → DraftOf V → DraftOf V) (x : Exits) (d : DraftOf V) → Chooses z w.choice
    → ((b k : ℕ) → IsNew d.points (d.points + 3) b → IsNew d.points (d.points + 3) k → Body z M N d.points 3 (s (inside b k x))) → GoesOn z M N d (do_draft p w s x d)
do_goes M N p w s x d c h =
    let n = d.points in
    going_on {K = M} {L = N} {M = New M n 3} {N = New N n 3} 3 (n + 2) (omega arith, omega arith) (λ y k. k) (λ y k. k)
    (next {M = New M n 3} {N = New N n 3} (inr (omega arith, omega arith)) (entering M N d) (do_turns M N p w s x d c h))

if_goes : {V : Type 0} {z : ℕ → ℕ} (M N : ℕ → Type 0) (p : Pos) (w : rows.Ways V) (a b : DraftOf V → DraftOf V) (d : DraftOf V) → Chooses z w.choice → Body z M N d.points 2 a → Body z M N d.points 2 b → GoesOn z M N d (if_draft p w a b d)
if_goes {V} M N p w a b d c f g =
    let n = d.points in
    let K = New M n 2 in
    let L = New N n 2 in
    let d1 = w.choice n (n + 1) (fresh 2 (on p d)) in
    let t = a (at n d1) in
    let u = b (at (n + 1) t) in
    let split = chooses K L n (n + 1) (inr (omega arith, omega arith)) (inr (omega arith, omega arith)) (c n (n + 1) (fresh 2 (on p d))) in
    let first = f (at n d1) in
    let second = g (at (n + 1) t) in
    let i = split.points in
    let j = first.splits.points in
    let k = second.splits.points in
    let both = next {M = K} {N = L} (inr (omega arith, omega arith)) (next {M = K} {N = L} (inr (omega arith, omega arith)) split first.splits) second.splits in
    let one = one_more {M = K} {N = L} (u.points + 1) t.point Skip u.points both (behind K d.point n t.point (n + 2) d1.points t.points (u.points + 1) (inr (omega arith, omega arith)) i (omega (arith, k)) first.point) (omega arith) (inr ((omega (arith, i, j, k), omega arith), next_out both)) in
    let two = one_more {M = K} {N = L} (u.points + 1) u.point Skip u.points one (behind K d.point (n + 1) u.point (n + 2) t.points u.points (u.points + 1) (inr (omega arith, omega arith)) (omega (arith, i, j)) (omega arith) second.point) (omega arith) (inr ((omega (arith, i, j, k), omega arith), next_out both)) in
    record { point = inr (inr (omega (arith, i, j, k), omega arith)); splits = reserving {K = M} {L = N} {M = K} {N = L} 2 (λ y h. h) (λ y h. h) two }

-- a `for` from its head on, behind the first part, where its end is e
for_turns : {V : Type 0} {z : ℕ → ℕ} (M N : ℕ → Type 0) (p : Pos) (test : (p q : ℕ) → DraftOf V → DraftOf V) (third : DraftOf V → DraftOf V) (s : Exits → DraftOf V → DraftOf V) (x : Exits) (e : ℕ) (d : DraftOf V) → N e → Chooses z test → Makes z third
    → ((k : ℕ) → IsNew d.points (d.points + 3) k → Body z M N d.points 3 (s (inside e k x))) → SplitsBy z (New M d.points 3) (New N d.points 3) d.points (d.points + 3) (loop_begun d).edges d.regions (statements.for_from p test third s x (d.points + 1) (d.points + 2) e (loop_begun d)).points (statements.for_from p test third s x (d.points + 1) (d.points + 2) e (loop_begun d)).edges (statements.for_from p test third s x (d.points + 1) (d.points + 2) e (loop_begun d)).regions
for_turns M N p test third s x e d at_end c c3 h =
    let n = d.points in
    let K = New M n 3 in
    let L = New N n 3 in
    let d1 = loop_begun d in
    let d2 = test (n + 1) e d1 in
    let r = at (n + 1) d2 in
    let f = go Skip (n + 2) (s (inside e (n + 2) x) r) in
    let o = in_scope d1.here.scope (on p f) in
    let b = h (n + 2) (omega arith, omega arith) r in
    next {M = K} {N = L} (inr (omega arith, omega arith)) (chooses K L (n + 1) e (inr (omega arith, omega arith)) (inl at_end) (c (n + 1) e d1))
    (next {M = K} {N = L} (inr (omega arith, omega arith)) (splits_then b (leads K L (n + 2) (s (inside e (n + 2) x) r) (inr (omega arith, omega arith))))
    (splits_then (with_more K L (c3 o)) (leads K L n (third o) (inr (omega arith, omega arith)))))

for_splits : {V : Type 0} {z : ℕ → ℕ} (M N : ℕ → Type 0) (p : Pos) (test : (p q : ℕ) → DraftOf V → DraftOf V) (third : DraftOf V → DraftOf V) (s : Exits → DraftOf V → DraftOf V) (x : Exits) (e : ℕ) (d : DraftOf V) → N e → Chooses z test → Makes z third
    → ((k : ℕ) → IsNew d.points (d.points + 3) k → Body z M N d.points 3 (s (inside e k x))) → SplitsBy z M N d.point d.points d.edges d.regions (statements.for_from p test third s x (d.points + 1) (d.points + 2) e (loop_begun d)).points (statements.for_from p test third s x (d.points + 1) (d.points + 2) e (loop_begun d)).edges (statements.for_from p test third s x (d.points + 1) (d.points + 2) e (loop_begun d)).regions
for_splits M N p test third s x e d at_end c c3 h =
    let n = d.points in
    reserving {K = M} {L = N} {M = New M n 3} {N = New N n 3} 3 (λ y k. k) (λ y k. k)
    (next {M = New M n 3} {N = New N n 3} (inr (omega arith, omega arith)) (entering M N d) (for_turns M N p test third s x e d at_end c c3 h))

for_goes : {V : Type 0} {z : ℕ → ℕ} (M N : ℕ → Type 0) (p : Pos) (first : DraftOf V → DraftOf V) (test : (p q : ℕ) → DraftOf V → DraftOf V) (third : DraftOf V → DraftOf V) (s : Exits → DraftOf V → DraftOf V) (x : Exits) (d : DraftOf V) → Makes z first → Chooses z test → Makes z third
    → ((k n : ℕ) → IsNew n (n + 3) k → Body z (New M d.points 1) (New N d.points 1) n 3 (s (inside d.points k x))) → GoesOn z M N d (for_draft p first test third s x d)
for_goes M N p first test third s x d c1 c c3 h =
    let n = d.points in
    let f = on p (first (fresh 1 d)) in
    going_on {K = M} {L = N} {M = New M n 1} {N = New N n 1} 1 n (omega arith, omega arith) (λ y k. k) (λ y k. k)
    (splits_then (with_more (New M n 1) (New N n 1) (c1 (fresh 1 d))) (for_splits (New M n 1) (New N n 1) p test third s x n f (inr (omega arith, omega arith)) c c3 (λ k i. h k f.points i)))

-- ---- switches

-- points that are placed leave the current one, the edges and the regions
pub placing : {V : Type 0} (n p : ℕ) (d : DraftOf V) → ((all_placed n p d).point ≡ d.point) × ((all_placed n p d).edges ≡ d.edges) × ((all_placed n p d).regions ≡ d.regions)
placing zero p d = (refl, refl, refl)
placing (suc n) p d = placing n (p + 1) (placed p d)

pub from_fresh : {V : Type 0} {z : ℕ → ℕ} (M N : ℕ → Type 0) (n : ℕ) (d e : DraftOf V) → SplitsBy z M N (fresh n d).point (fresh n d).points (fresh n d).edges (fresh n d).regions e.points e.edges e.regions → SplitsBy z M N d.point (d.points + n) d.edges d.regions e.points e.edges e.regions
from_fresh {z = z} M N n d e a =
    subst (λ q. SplitsBy z M N q (d.points + n) d.edges d.regions e.points e.edges e.regions) (placing n d.points d).0
    (subst (λ es. SplitsBy z M N (fresh n d).point (d.points + n) es d.regions e.points e.edges e.regions) (placing n d.points d).1
    (subst (λ rs. SplitsBy z M N (fresh n d).point (d.points + n) (fresh n d).edges rs e.points e.edges e.regions) (placing n d.points d).2 a))

-- a point for each case is an end
pub cases_go : {V : Type 0} {z : ℕ → ℕ} (M N : ℕ → Type 0) (s : Site) (t : IntType) (r : TreeOf V) (zs : List ℤ) (p : ℕ) (d : DraftOf V) → ((i : ℕ) → i < length zs → N (p + i)) → GoesOn z M N d (case_tests s t r zs p d)
unfolding case_tests
cases_go M N s t r [] p d h = with_more M N (goes_refl d)
cases_go M N s t r (i ∷ zs) p d h =
    let at : p + 0 ≡ p = omega arith in
    let here : N p = subst N at (h 0 (omega arith)) in
    goes_then (going_on {K = M} {L = N} {M = M} {N = New N d.points 1} 1 d.points (omega arith, omega arith) (λ y k. inl k) (λ y k. k) (chooses M (New N d.points 1) p d.points (inl here) (inr (omega arith, omega arith)) (guards_split p d.points (binary_tree Eq s t r (constant t i), fresh 1 d))))
    (cases_go M N s t r zs (p + 1) (case_test s t r i p d) (λ j l. let up : p + suc j ≡ p + 1 + j = omega arith in subst N up (h (suc j) (omega (arith, l)))))

abbrev pub ends_of : List ℤ → Bool → ℕ
ends_of zs b = 1 + length zs + (if b then 1 else 0)

pub default_new : (n m : ℕ) (b : Bool) → IsNew n (n + (1 + m + (if b then 1 else 0))) (if b then n + 1 + m else n)
default_new n m true = (omega arith, omega arith)
default_new n m false = (omega arith, omega arith)

switch_goes : {V : Type 0} {z : ℕ → ℕ} (M N : ℕ → Type 0) (s : Site) (t : IntType) (zs : List ℤ) (b : Bool) (body : Exits → DraftOf V → DraftOf V) (x : Exits) (k : Given V) → Body z M N k.1.points (ends_of zs b) (body (in_switch k.1.points (length zs) x))
    → GoesOn z M N k.1 (go Skip k.1.points (body (in_switch k.1.points (length zs) x) (switch_begun s t zs b k)))
switch_goes M N s t zs b body x k h =
    let e = k.1.points in
    let K = New M e (ends_of zs b) in
    let L = New N e (ends_of zs b) in
    let f = fresh (ends_of zs b) k.1 in
    let u = switch_begun s t zs b k in
    let y = in_switch e (length zs) x in
    let to = if b then e + 1 + length zs else e in
    let tests = cases_go K L s t k.0 zs (e + 1) f (λ i l. inr (omega arith, omega (arith, l))) in
    going_on {K = M} {L = N} {M = K} {N = L} (ends_of zs b) e (omega arith, omega arith) (λ z i. i) (λ z i. i)
    (from_fresh K L (ends_of zs b) k.1 (go Skip e (body y u)) (splits_then (goes_then tests (away_goes L K to (case_tests s t k.0 zs (e + 1) f) (inr (default_new e (length zs) b)))) (splits_then (h u) (leads K L e (body y u) (inr (omega arith, omega arith))))))

-- ---- statements

-- the exits are ends, and of the labels those to which gotos lead
pub record AreEnds (N : ℕ → Type 0) (m : Marks) (x : Exits) (t : ℕ → ℕ) : Type 0 where
  pub broken : N x.broken
  pub continued : N x.continued
  pub left : N x.left
  pub labels : (l : ℕ) → l < m.labels → (t l ≡ 0 → ⊥) → N (x.labels + l)

fewer_ends : (N : ℕ → Type 0) (x : Exits) (m : Marks) (t u : ℕ → ℕ) → ((l : ℕ) → t l ≤ u l) → AreEnds N m x u → AreEnds N m x t
fewer_ends N x m t u le e = record {
  broken = e.broken;
  continued = e.continued;
  left = e.left;
  labels = λ l h some. e.labels l h (λ none. some (let i = le l in omega (arith, i, none)));
}

-- the marks that stand there are named, and ends
abbrev pub AreNamed : (M N : ℕ → Type 0) → Exits → Marks → (Mark → ℕ) → Type 0
AreNamed M N x m t = (b : Mark) → IsMark m b → (t b ≡ 0 → ⊥) → M (mark_point b x) × N (mark_point b x)

fewer : (M N : ℕ → Type 0) (x : Exits) (m : Marks) (t u : Mark → ℕ) → ((b : Mark) → t b ≤ u b) → AreNamed M N x m u → AreNamed M N x m t
fewer M N x m t u le h b is some = h b is (λ none. some (let i = le b in omega (arith, i, none)))

wider_ends : (N : ℕ → Type 0) (n c b k : ℕ) (m : Marks) (x : Exits) (t : ℕ → ℕ) → IsNew n (n + c) b → IsNew n (n + c) k → AreEnds N m x t → AreEnds (New N n c) m (inside b k x) t
wider_ends N n c b k m x t i j e = record { broken = inr i; continued = inr j; left = inl e.left; labels = λ l h some. inl (e.labels l h some) }

wider_marks : (M N : ℕ → Type 0) (n c : ℕ) (x : Exits) (m : Marks) (t : Mark → ℕ) → AreNamed M N x m t → AreNamed (New M n c) (New N n c) x m t
wider_marks M N n c x m t h b is some = let r = h b is some in (inl r.0, inl r.1)

inside_marks : (M N : ℕ → Type 0) (n c i j : ℕ) (x : Exits) (m : Marks) (t : Mark → ℕ) → AreNamed M N x m t → AreNamed (New M n c) (New N n c) (inside i j x) m t
inside_marks M N n c i j x m t h (labelled l) is some = let r = h (labelled l) is some in (inl r.0, inl r.1)
inside_marks M N n c i j x m t h (numbered k) is some = let r = h (numbered k) is some in (inl r.0, inl r.1)
inside_marks M N n c i j x m t h otherwise is some = let r = h otherwise is some in (inl r.0, inl r.1)

plain_ends : (N : ℕ → Type 0) (n c : ℕ) (m : Marks) (x : Exits) (t : ℕ → ℕ) → AreEnds N m x t → AreEnds (New N n c) m x t
plain_ends N n c m x t e = record { broken = inl e.broken; continued = inl e.continued; left = inl e.left; labels = λ l h some. inl (e.labels l h some) }

switch_ends : (N : ℕ → Type 0) (n k c : ℕ) (b : Bool) (m : Marks) (x : Exits) (t : ℕ → ℕ) → n < n + c → AreEnds N m x t → AreEnds (New N n c) (WellTyped.in_switch k b m) (in_switch n k x) t
switch_ends N n k c b m x t some e = record { broken = inr (omega arith, some); continued = inl e.continued; left = inl e.left; labels = λ l h some. inl (e.labels l h some) }

switch_marks : (M N : ℕ → Type 0) (n : ℕ) (zs : List ℤ) (b : Bool) (x : Exits) (m : Marks) (t : Mark → ℕ) → AreNamed M N x m (λ q. marks.in_switch q (t q)) → AreNamed (New M n (ends_of zs b)) (New N n (ends_of zs b)) (in_switch n (length zs) x) (WellTyped.in_switch (length zs) b m) t
switch_marks M N n zs b x m t h (labelled l) is some = let r = h (labelled l) is some in (inl r.0, inl r.1)
switch_marks M N n zs b x m t h (numbered i) is some = (inr (omega arith, omega (arith, is)), inr (omega arith, omega (arith, is)))
switch_marks M N n zs true x m t h otherwise is some = (inr (omega arith, omega arith), inr (omega arith, omega arith))
switch_marks M N n zs false x m t h otherwise is some = absurd (cc is)

mutual
  unfolding lowered lowered_items IsStatement AreItems calls_in_statement calls_in_items times times_in gotos gotos_in

  pub statement_goes : (V : Type 0) (z : ℕ → ℕ) (M N : ℕ → Type 0) (c : Context) (a : Around) (m : Marks) (s : StatementTree) (x : Exits) (d : DraftOf V) → IsStatement a m s → AreSized z c (calls_in_statement s) → AreEnds N m x (λ l. gotos l s) → AreNamed M N x m (λ b. times b s) → GoesOn z M N d (lowered c s x d)
  statement_goes V z M N c a m (tree.block p is) x d f called e h = items_of V z M N c a m is x d f called e h
  statement_goes V z M N c a m (tree.empty p) x d f called e h = with_more M N (goes_refl d)
  statement_goes V z M N c a m (tree.effect p v) x d f called e h = with_more M N (effects V z c v called (on p d))
  statement_goes V z M N c a m (tree.label p l s) x d f called e h =
      let r = h (labelled l) f.0 (λ none. let i = label_once l 0 in absurd (omega (arith, none, i))) in
      goes_then (come_goes M N (x.labels + l) (on p d) r.0 r.1) (statement_goes V z M N c a m s x (come (x.labels + l) (on p d)) f.1 called e (fewer M N x m (λ b. times b s) (λ b. one_if (is_label b l) + times b s) (λ b. omega arith) h))
  statement_goes V z M N c a m (tree.case p i s) x d f called e h =
      let r = h (numbered i) f.0 (λ none. let j = case_once i 0 in absurd (omega (arith, none, j))) in
      goes_then (come_goes M N (x.cases + i) (on p d) r.0 r.1) (statement_goes V z M N c a m s x (come (x.cases + i) (on p d)) f.1 called e (fewer M N x m (λ b. times b s) (λ b. one_if (is_case b i) + times b s) (λ b. omega arith) h))
  statement_goes V z M N c a m (tree.default p s) x d f called e h =
      let r = h otherwise f.0 (λ none. absurd (omega (arith, none))) in
      goes_then (come_goes M N x.otherwise (on p d) r.0 r.1) (statement_goes V z M N c a m s x (come x.otherwise (on p d)) f.1 called e (fewer M N x m (λ b. times b s) (λ b. one_if (is_default b) + times b s) (λ b. omega arith) h))
  statement_goes V z M N c a m (tree.if_then p v s) x d f called e h =
      let K = New M d.points 2 in
      let L = New N d.points 2 in
      if_goes M N p (ways c v) (lowered c s x) (λ r. r) d (values V z c v (front_sized z c (calls_in v) (calls_in_statement s) called)).choice
      (λ r. statement_goes V z K L c a m s x r f.1 (back_sized z c (calls_in v) (calls_in_statement s) called) (plain_ends N d.points 2 m x (λ l. gotos l s) e) (wider_marks M N d.points 2 x m (λ b. times b s) h)) (λ r. with_more K L (goes_refl r))
  statement_goes V z M N c a m (tree.if_else p v s r) x d f called e h =
      let K = New M d.points 2 in
      let L = New N d.points 2 in
      let k1 = front_sized z c (calls_in v ++ calls_in_statement s) (calls_in_statement r) called in
      let w = λ (b : Mark). times b s + times b r in
      let g = λ (l : ℕ). gotos l s + gotos l r in
      if_goes M N p (ways c v) (lowered c s x) (lowered c r x) d (values V z c v (front_sized z c (calls_in v) (calls_in_statement s) k1)).choice
      (λ o. statement_goes V z K L c a m s x o f.1 (back_sized z c (calls_in v) (calls_in_statement s) k1) (plain_ends N d.points 2 m x (λ l. gotos l s) (fewer_ends N x m (λ l. gotos l s) g (λ l. omega arith) e)) (wider_marks M N d.points 2 x m (λ b. times b s) (fewer M N x m (λ b. times b s) w (λ b. omega arith) h)))
      (λ o. statement_goes V z K L c _ m r x o f.2 (back_sized z c (calls_in v ++ calls_in_statement s) (calls_in_statement r) called) (plain_ends N d.points 2 m x (λ l. gotos l r) (fewer_ends N x m (λ l. gotos l r) g (λ l. omega arith) e)) (wider_marks M N d.points 2 x m (λ b. times b r) (fewer M N x m (λ b. times b r) w (λ b. omega arith) h)))
  statement_goes V z M N c a m (tree.switch p t v zs b s) x d f called e h =
      let o = on p d in
      let r = (ways c v).value o in
      let k = tested t (operand v (ways c v)) o in
      let n = k.1.points in
      let valued = goes_trans ((values V z c v (front_sized z c (calls_in v) (calls_in_statement s) called)).value o) (held_goes Strong (converted_shape (type_of v) t (shape_of v)) t (conversion (type_of v) t r.0, r.1)) in
      goes_then (with_more M N valued) (switch_goes M N (site c p) t zs b (lowered c s) x k
      (λ u. statement_goes V z (New M n (ends_of zs b)) (New N n (ends_of zs b)) c a (WellTyped.in_switch (length zs) b m) s (in_switch n (length zs) x) u f.2 (back_sized z c (calls_in v) (calls_in_statement s) called) (switch_ends N n (length zs) (ends_of zs b) b m x (λ l. gotos l s) (omega arith) e) (switch_marks M N n zs b x m (λ q. times q s) h)))
  statement_goes V z M N c a m (tree.while p v s) x d f called e h =
      let n = d.points in
      while_goes M N (ways c v) (lowered c s) x (on p d) (values V z c v (front_sized z c (calls_in v) (calls_in_statement s) called)).choice
      (λ i j u w r. statement_goes V z (New M n 3) (New N n 3) c a m s (inside i j x) r f.1 (back_sized z c (calls_in v) (calls_in_statement s) called) (wider_ends N n 3 i j m x (λ l. gotos l s) u w e) (inside_marks M N n 3 i j x m (λ b. times b s) h))
  statement_goes V z M N c a m (tree.do_while p s v) x d f called e h =
      let n = d.points in
      do_goes M N p (ways c v) (lowered c s) x (on p d) (values V z c v (back_sized z c (calls_in_statement s) (calls_in v) called)).choice
      (λ i j u w r. statement_goes V z (New M n 3) (New N n 3) c a m s (inside i j x) r f.0 (front_sized z c (calls_in_statement s) (calls_in v) called) (wider_ends N n 3 i j m x (λ l. gotos l s) u w e) (inside_marks M N n 3 i j x m (λ b. times b s) h))
  statement_goes V z M N c a m (tree.for_loop p g v third s) x d f called e h =
      let n = d.points in
      let k1 = front_sized z c (calls_at_start g ++ calls_if v ++ calls_in_effect_if third) (calls_in_statement s) called in
      let k2 = front_sized z c (calls_at_start g ++ calls_if v) (calls_in_effect_if third) k1 in
      for_goes M N p (for_start c g) (for_test c v) (performed_if c third) (lowered c s) x (on p d) (start_goes z c g (front_sized z c (calls_at_start g) (calls_if v) k2)) (test_splits z c v (back_sized z c (calls_at_start g) (calls_if v) k2))
      (performed_goes z c third (back_sized z c (calls_at_start g ++ calls_if v) (calls_in_effect_if third) k1))
      (λ k q new r. statement_goes V z (New (New M n 1) q 3) (New (New N n 1) q 3) c _ m s (inside n k x) r f.3 (back_sized z c (calls_at_start g ++ calls_if v ++ calls_in_effect_if third) (calls_in_statement s) called)
      (record { broken = inl (inr (omega arith, omega arith)); continued = inr new; left = inl (inl e.left); labels = λ l i some. inl (inl (e.labels l i some)) })
      (inside_marks (New M n 1) (New N n 1) q 3 n k x m (λ b. times b s) (wider_marks M N n 1 x m (λ b. times b s) h)))
  statement_goes V z M N c a m (tree.goto p l) x d f called e h = away_goes N M (x.labels + l) (on p d) (e.labels l f (λ none. let i = label_once l 0 in absurd (omega (arith, none, i))))
  statement_goes V z M N c a m (tree.continue p) x d f called e h = away_goes N M x.continued (on p d) e.continued
  statement_goes V z M N c a m (tree.break p) x d f called e h = away_goes N M x.broken (on p d) e.broken
  statement_goes V z M N c a m (tree.return p v) x d f called e h = returned_goes z M N c x.left c.returns v e.left called (on p d)

  pub items_of : (V : Type 0) (z : ℕ → ℕ) (M N : ℕ → Type 0) (c : Context) (a : Around) (m : Marks) (is : ItemTrees) (x : Exits) (d : DraftOf V) → AreItems a m is → AreSized z c (calls_in_items is) → AreEnds N m x (λ l. gotos_in l is) → AreNamed M N x m (λ b. times_in b is) → GoesOn z M N d (lowered_items c is x d)
  items_of V z M N c a m tree.no_items x d f called e h = with_more M N (goes_refl d)
  items_of V z M N c a m (tree.declared_before v is) x d f called e h =
      goes_then (with_more M N (declared_goes z c v d (front_sized z c (calls_in_declared v) (calls_in_items is) called)))
      (items_of V z M N c _ m is x (declared c v d) f.1 (back_sized z c (calls_in_declared v) (calls_in_items is) called) e h)
  items_of V z M N c a m (tree.statement_before s is) x d f called e h =
      let w = λ (b : Mark). times b s + times_in b is in
      let g = λ (l : ℕ). gotos l s + gotos_in l is in
      goes_then (statement_goes V z M N c a m s x d f.0 (front_sized z c (calls_in_statement s) (calls_in_items is) called) (fewer_ends N x m (λ l. gotos l s) g (λ l. omega arith) e) (fewer M N x m (λ b. times b s) w (λ b. omega arith) h))
      (items_of V z M N c _ m is x (lowered c s x d) f.1 (back_sized z c (calls_in_statement s) (calls_in_items is) called) (fewer_ends N x m (λ l. gotos_in l is) g (λ l. omega arith) e) (fewer M N x m (λ b. times_in b is) w (λ b. omega arith) h))

-- ---- the laws

no_marks : (M N : ℕ → Type 0) (x : Exits) (m : Marks) (t : Mark → ℕ) → ((b : Mark) → t b ≡ 0) → AreNamed M N x m t
no_marks M N x m t none b is some = absurd (some (none b))

exits : (m : Marks) (s : StatementTree) (x : Exits) → AreEnds (IsExit s x) m x (λ l. gotos l s)
exits m s x = record { broken = inl refl; continued = inr (inl refl); left = inr (inr (inl refl)); labels = λ l h some. inr (inr (inr (l, some, refl))) }

pub statements_stay : {V : Type 0} → StatementsStay V
statements_stay {V} z c a m s x d f called none = statement_goes V z NoPoint (IsExit s x) c a m s x d f called (exits m s x) (no_marks NoPoint (IsExit s x) x m (λ b. times b s) none)

-- ---- loops

abbrev AnyPoint : ℕ → Type 0
AnyPoint x = Unit {0}

-- the points of the labels that stand in a statement
abbrev pub Labels : Marks → Exits → StatementTree → ℕ → Type 0
Labels m x s = IsLabelIn x.labels m.labels s

-- inside a loop each point is an end
any_ends : (n c : ℕ) (m : Marks) (x : Exits) (t : ℕ → ℕ) → AreEnds (New AnyPoint n c) m x t
any_ends n c m x t = record { broken = inl tt; continued = inl tt; left = inl tt; labels = λ l h some. inl tt }

-- and marks are labels
any_marks : (m : Marks) (x : Exits) (s : StatementTree) → HasNoCase s → AreNamed (Labels m x s) AnyPoint x m (λ b. times b s)
any_marks m x s none (labelled l) is some = ((l, is, some, refl), tt)
any_marks m x s none (numbered i) is some = absurd (some (none.cases i))
any_marks m x s none otherwise is some = absurd (some none.default)

inside_any : (m : Marks) (x : Exits) (s : StatementTree) (n i j : ℕ) → HasNoCase s → AreNamed (New (Labels m x s) n 3) (New AnyPoint n 3) (inside i j x) m (λ b. times b s)
inside_any m x s n i j none = inside_marks (Labels m x s) AnyPoint n 3 i j x m (λ b. times b s) (any_marks m x s none)

-- an edge of the loop begins at its points, or it is the one from q to h
abbrev Enters : {V : Type 0} → (K : ℕ → Type 0) → (q h l : ℕ) → EdgeFrom V → Type 0
Enters K q h l f = IsInLoop K h l f.from ⊎ ((f.from ≡ q) × (f.to ≡ h))

-- where a form from the head on begins
in_loop : (K : ℕ → Type 0) {x : ℕ} (n l : ℕ) → n + 3 ≤ l → (x ≡ n) ⊎ (New K n 3 x ⊎ IsNew (n + 3) l x) → IsInLoop K n l x
in_loop K n l more (inl e) = inr (omega (arith, e), omega (arith, e, more))
in_loop K n l more (inr (inl (inl k))) = inl k
in_loop K n l more (inr (inl (inr k))) = let v = k.1 in inr (k.0, omega (arith, v, more))
in_loop K n l more (inr (inr k)) = let u = k.0 in inr (omega (arith, u), k.1)

-- what is made from the head on, in the loop
abbrev Turned : {V : Type 0} → (z : ℕ → ℕ) → (K : ℕ → Type 0) → DraftOf V → DraftOf V → Type 0
Turned z K d e = SplitsBy z (New K d.points 3) (New AnyPoint d.points 3) d.points (d.points + 3) (loop_begun d).edges d.regions e.points e.edges e.regions

-- begins there or behind it, or at a label, and one edge leads to it
begun_again : {V : Type 0} (z : ℕ → ℕ) (K : ℕ → Type 0) (d e : DraftOf V) → Turned z K d e → (f : EdgeFrom V) → Contains e.edges f → Contains d.edges f ⊎ Enters K d.point d.points e.points f
begun_again {V} z K d e a f h = by (a.edges f h) where
  n : ℕ
  n = d.points

  l : ℕ
  l = e.points

  more : n + 3 ≤ l
  more = a.points

  first : EdgeFrom V
  first = record { from = d.point; instr = Skip; to = n }

  old : Contains d.edges f ⊎ (first ≡ f) → Contains d.edges f ⊎ Enters K d.point n l f
  old (inl k) = inl k
  old (inr s) = inr (inr (subst (λ (g : EdgeFrom V). (g.from ≡ d.point) × (g.to ≡ n)) s (refl, refl)))

  by : Contains (loop_begun d).edges f ⊎ IsMade z (New K n 3) (New AnyPoint n 3) n (n + 3) d.regions l e.regions f → Contains d.edges f ⊎ Enters K d.point n l f
  by (inl k) = old (Contains-push_cases d.edges first f k)
  by (inr k) = inr (inl (in_loop K n l more k.begins))

-- and so do the parts of paths that are called
within : {V : Type 0} (z : ℕ → ℕ) (K : ℕ → Type 0) (n : ℕ) (d e : DraftOf V) → Turned z K d e → (j : ℕ) → IsSame d.regions e.regions j ⊎ IsPartOf K n d.points e.points (z j) (region_at e.regions j)
within z K n d e a j = elim (a.regions j) [
  | inl k ↦ inl k
  | inr t ↦ inr (inr (in_loop K d.points e.points a.points t.begins, (let u = t.from in omega (arith, u)), t.to))
]

entered : {V : Type 0} (z : ℕ → ℕ) (K : ℕ → Type 0) (d e : DraftOf V) → Turned z K d e → IsEnteredAt z K d e d.point d.points
entered z K d e a = record {
  behind = omega arith;
  before = let more = a.points in omega (arith, more);
  edges = λ f h. elim (begun_again z K d e a f h) [ inl i ↦ inl i | inr i ↦ inr (inr (elim i [ inl j ↦ inl j | inr j ↦ inr (inl j) ])) ];
  regions = within z K d.points d e a;
}

-- behind a first part
entered_behind : {V : Type 0} (z : ℕ → ℕ) (K : ℕ → Type 0) {p : ℕ} (d b e : DraftOf V) → SplitsBy z NoPoint NoPoint p (d.points + 1) d.edges d.regions b.points b.edges b.regions → Turned z K b e → IsEnteredAt z K d e b.point b.points
entered_behind {V} z K {p} d b e a t = record {
  behind = let start = a.points in omega (arith, start);
  before = let more = t.points in omega (arith, more);
  edges = λ f c. by f (begun_again z K b e t f c);
  regions = λ j. beside j (a.regions j) (within z K d.points b e t j);
} where
  Out : EdgeFrom V → Type 0
  Out f = Contains d.edges f ⊎ ((f.to ≡ 0) ⊎ (IsInLoop K b.points e.points f.from ⊎ (((f.from ≡ b.point) × (f.to ≡ b.points)) ⊎ IsNew d.points b.points f.to)))

  made : (f : EdgeFrom V) → (f.to ≡ 0) ⊎ (NoPoint f.to ⊎ (IsNew (d.points + 1) b.points f.to × IsLeftOut z d.regions b.regions f.to)) → Out f
  made f (inl none) = inr (inl none)
  made f (inr (inl never)) = absurd never
  made f (inr (inr j)) = let u = j.0.0 in inr (inr (inr (inr (omega (arith, u), j.0.1))))

  first : (f : EdgeFrom V) → Contains d.edges f ⊎ IsMade z NoPoint NoPoint p (d.points + 1) d.regions b.points b.regions f → Out f
  first f (inl i) = inl i
  first f (inr i) = made f i.leads

  by : (f : EdgeFrom V) → Contains b.edges f ⊎ Enters K b.point b.points e.points f → Out f
  by f (inl i) = first f (a.edges f i)
  by f (inr (inl i)) = inr (inr (inl i))
  by f (inr (inr i)) = inr (inr (inr (inl i)))

  beside : (j : ℕ) → IsSame d.regions b.regions j ⊎ IsTaken NoPoint p (d.points + 1) b.points (z j) (region_at b.regions j) → IsSame b.regions e.regions j ⊎ IsPartOf K d.points b.points e.points (z j) (region_at e.regions j)
      → IsSame d.regions e.regions j ⊎ IsPartOf K d.points b.points e.points (z j) (region_at e.regions j)
  beside j (inl i) (inl o) = inl (o ∙ i)
  beside j (inr t) (inl o) = let u = t.from in inr (subst (IsPartOf K d.points b.points e.points (z j)) (sym o) (inl (omega (arith, u), t.to)))
  beside j i (inr o) = inr o

pub loops_are_entered : {V : Type 0} → LoopsAreEntered V
unfolding lowered IsStatement calls_in_statement
loops_are_entered {V} = record {
  while = λ z c a m p v s x d f called none.
      let n = d.points in
      let o = on p d in
      let K = Labels m x s in
      let t = while_turns {z = z} K AnyPoint (ways c v) (lowered c s) x o (values V z c v (front_sized z c (calls_in v) (calls_in_statement s) called)).choice
      (λ i j u w r. statement_goes V z (New K n 3) (New AnyPoint n 3) c a m s (inside i j x) r f.1 (back_sized z c (calls_in v) (calls_in_statement s) called) (any_ends n 3 m (inside i j x) (λ l. gotos l s)) (inside_any m x s n i j none)) in
      let r = entered z K o (while_draft (ways c v) (lowered c s) x o) t in
      record { behind = r.behind; before = r.before; edges = r.edges; regions = r.regions };
  do_while = λ z c a m p s v x d f called none.
      let n = d.points in
      let o = on p d in
      let K = Labels m x s in
      let t = do_turns {z = z} K AnyPoint p (ways c v) (lowered c s) x o (values V z c v (back_sized z c (calls_in_statement s) (calls_in v) called)).choice
      (λ i j u w r. statement_goes V z (New K n 3) (New AnyPoint n 3) c a m s (inside i j x) r f.0 (front_sized z c (calls_in_statement s) (calls_in v) called) (any_ends n 3 m (inside i j x) (λ l. gotos l s)) (inside_any m x s n i j none)) in
      let r = entered z K o (do_draft p (ways c v) (lowered c s) x o) t in
      record { behind = r.behind; before = r.before; edges = r.edges; regions = r.regions };
  for_loop = λ z c a m p g v third s x d f called none.
      let n = d.points in
      let o = on p d in
      let K = Labels m x s in
      let k1 = front_sized z c (calls_at_start g ++ calls_if v ++ calls_in_effect_if third) (calls_in_statement s) called in
      let k2 = front_sized z c (calls_at_start g ++ calls_if v) (calls_in_effect_if third) k1 in
      let begin = start_goes z c g (front_sized z c (calls_at_start g) (calls_if v) k2) (fresh 1 o) in
      let b = on p (for_start c g (fresh 1 o)) in
      let h = b.points in
      let t = for_turns {z = z} K AnyPoint p (for_test c v) (performed_if c third) (lowered c s) x n b tt (test_splits z c v (back_sized z c (calls_at_start g) (calls_if v) k2))
      (performed_goes z c third (back_sized z c (calls_at_start g ++ calls_if v) (calls_in_effect_if third) k1))
      (λ k new r. statement_goes V z (New K h 3) (New AnyPoint h 3) c _ m s (inside n k x) r f.3 (back_sized z c (calls_at_start g ++ calls_if v ++ calls_in_effect_if third) (calls_in_statement s) called) (any_ends h 3 m (inside n k x) (λ l. gotos l s)) (inside_any m x s h n k none)) in
      let r = entered_behind z K o b (for_draft p (for_start c g) (for_test c v) (performed_if c third) (lowered c s) x o) begin.splits t in
      record { behind = r.behind; before = r.before; edges = r.edges; regions = r.regions };
}
