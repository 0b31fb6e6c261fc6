-- What declarations and statements add to a draft: points but marks keep their labels, and the names in scope stay behind a statement.
use Rattle.std.proofs.Common.{◌≡◌, ℕ, zero, suc, ◌+◌, ◌<◌, ◌≤◌, ◌⊎◌, List, [], ◌∷◌, ◌++◌, length, Bool, if◌then◌else◌, refl, sym, ap, ◌∙◌, subst, inl, inr, arith, eq-eqb, ◌≢◌, ℤ, true, Option, Some, None}
use Rattle.std.proofs.lemmas.Bool.Decides.{nat_tests}
use Rattle.std.specs.Prelude.{slice_set, slice_get}
use Rattle.std.proofs.lemmas.List.{get_or-set_other, length-set}
use Rattle.pk_ctypes.specs.declared.places.Pos.{Pos}
use Rattle.pk_ctypes.specs.declared.types.IntType.{IntType}
use Rattle.pk_ctypes.specs.declared.types.Op.TheVariants.{Eq}
use Rattle.pk_typed.specs.Trees.{ValueTree, EffectTree, ValueTrees, DeclaredTree, ForStartTree, StatementTree, ItemTrees}
use Rattle.pk_typed.specs.Trees as tree
use Rattle.pk_typed.specs.Types.{type_of}
use Rattle.pk_typed.specs.declared.values.Variable.TheVariants.{Local}
use Rattle.pk_welltyped.specs.Listed.{calls_in, calls_in_values, calls_if, calls_in_values_if, calls_in_effect_if, calls_in_declared, calls_in_all_declared, calls_at_start, calls_in_statement, calls_in_items, objects_in_declared}
use Rattle.pk_welltyped.specs.WellTyped.{Around, Marks, IsDeclared, AreDeclared, IsForStart, IsStatement, AreItems}
use Rattle.pk_welltyped.specs.WellTyped
use Rattle.pk_graph.specs.declared.trees.Site.{Site}
use Rattle.pk_graph.specs.Graphs.{VariableOf, no_variable}
use Rattle.pk_graph.specs.Trees.{constant, Skip, Clear}
use Rattle.pk_graph.specs.declared.graphs.Entry.{Entry}
use Rattle.pk_graph.specs.Graphs.{naming, hiding}
use Rattle.pk_draft.specs.declared.drafts.Label.{Label}
use Rattle.pk_draft.specs.declared.drafts.Region.{Region}
use Rattle.pk_draft.specs.declared.drafts.Size.{Size}
use Rattle.pk_draft.specs.Drafts.{Names, Given, no_label, at, on, in_scope, placed, all_placed, fresh, inner, with_object, link, go, emit, away, come, with_entry}
use Rattle.pk_draft.specs.Folding.{conversion, binary_tree}
use Rattle.pk_lower_row.specs.declared.shapes.Waiting.TheVariants.{Strong}
use Rattle.pk_lower_row.specs.Shapes.{converted_shape, shape_of}
use Rattle.pk_lower_row.specs.Contexts.{Context, site, own_result, local_at, array_of}
use Rattle.pk_lower_row.specs.Rows as rows
use Rattle.pk_lower_row.specs.Rows.{Ways, operand}
use Rattle.pk_lower_expression.specs.Expressions.{ways, performed}
use Rattle.pk_lower_statement.specs.declared.statements.Exits.{Exits}
use Rattle.pk_lower_statement.specs.Statements as statements
use Rattle.pk_lower_statement.specs.Statements.{named, introduced, item, items, declared, all_declared, inside, meeting, if_draft, round, while_from, do_from, for_from, loop_begun, case_test, case_tests, in_switch, switch_begun, returned, performed_if, for_start, for_test, lowered, lowered_items}
use Rattle.pk_welltyped.specs.Marks as Marks
use Rattle.pk_welltyped.specs.Marks.{one_if, times, times_in}
use Rattle.pk_meaning.specs.Steps.{Mark, labelled, numbered, otherwise, is_label, is_case, is_default}
use Rattle.pk_visits.proofs.Settled.Trees.{mark_point}
use Rattle.pk_visits.proofs.Slots.{Slot, SlotTree, Draft, Instr, KeepsBy, Keeps, Grows, Scoping, Extends, front_among, Among, label_at, region_at, made_at, object_at, Edge}
use Rattle.pk_visits.proofs.Grows.Rows.{keeps_trans, grows_refl, grows_trans, link_grows, emit_grows, fresh_one_grows, held_grows, guards_grow, WaysGrow}
use Rattle.pk_visits.proofs.Grows.Expressions.{AllCalled, values, effects, front_called, back_called}
use Rattle.pk_visits.proofs.Stands.{Marking}
use Rattle.pk_visits.proofs.Stores.{decided}

-- the same path; and the same names in scope too
abbrev pub OnPath : Label → Label → Type 0
OnPath h i = i.path ≡ h.path

abbrev pub Stays : Label → Label → Type 0
Stays h i = (i.path ≡ h.path) × (i.scope ≡ h.scope)

abbrev pub Marked : List ℕ → ℕ → Type 0
Marked ms n = Among n ms

-- any object
abbrev pub Free : ℕ → Type 0
Free i = Unit {0}

-- Of a statement with these marks, which declares objects among S. Of declarations.
abbrev pub Adds : List ℕ → (ℕ → Type 0) → (ℕ → Size → Type 0) → Draft → Draft → Type 0
Adds ms S C d e = Keeps Stays (Marked ms) S C d e

abbrev pub Enlarges : List ℕ → (ℕ → Type 0) → (ℕ → Size → Type 0) → Draft → Draft → Type 0
Enlarges ms S C d e = Keeps OnPath (Marked ms) S C d e

no_matter : {A B : Type 0} → ⊥ ⊎ A → B ⊎ A
no_matter (inl h) = absurd h
no_matter (inr a) = inr a

-- what an expression adds, a statement adds
pub adds : (ms : List ℕ) (S : ℕ → Type 0) (C : ℕ → Size → Type 0) (d e : Draft) → Grows C d e → Adds ms S C d e
adds ms S C d e g = record {
  edges = g.edges;
  names = g.names;
  variables = g.variables;
  points = g.points;
  size = g.size;
  labels = λ n h. no_matter (g.labels n h);
  beyond = λ n h. no_matter (g.beyond n h);
  regions = g.regions;
  apart = g.apart;
  paths = g.paths;
  scopes = g.scopes;
  here = (ap (λ (l : Label). l.path) g.here, ap (λ (l : Label). l.scope) g.here);
  many = g.many;
  made = g.made;
  unmade = g.unmade;
  slots = g.slots;
  objects = λ n. no_matter (g.objects n);
}

pub enlarges : (ms : List ℕ) (S : ℕ → Type 0) (C : ℕ → Size → Type 0) (d e : Draft) → Adds ms S C d e → Enlarges ms S C d e
enlarges ms S C d e g = record { edges = g.edges; names = g.names; variables = g.variables; points = g.points; size = g.size; labels = g.labels; beyond = g.beyond; regions = g.regions; apart = g.apart; paths = g.paths; scopes = g.scopes; many = g.many; made = g.made; unmade = g.unmade; slots = g.slots; objects = g.objects; here = g.here.0 }

-- one after the other
pub stays_then : {M S : ℕ → Type 0} {C : ℕ → Size → Type 0} {es fs gs : List Edge} {ns ms os : Names Slot} {v w x p q r : ℕ} {ls ks js : List Label} {rs ts us : List Region} {aa bb cc : Scoping} {h i j : Label} {xs ys zs : List VariableOf} {ps qs bs : List ℕ}
    → KeepsBy Stays M S C es ns v p ls rs aa h xs ps fs ms w q ks ts bb i ys qs → KeepsBy Stays M S C fs ms w q ks ts bb i ys qs gs os x r js us cc j zs bs → KeepsBy Stays M S C es ns v p ls rs aa h xs ps gs os x r js us cc j zs bs
stays_then a b = keeps_trans (λ m n. (n.0 ∙ m.0, n.1 ∙ m.1)) a b

pub path_then : {M S : ℕ → Type 0} {C : ℕ → Size → Type 0} {es fs gs : List Edge} {ns ms os : Names Slot} {v w x p q r : ℕ} {ls ks js : List Label} {rs ts us : List Region} {aa bb cc : Scoping} {h i j : Label} {xs ys zs : List VariableOf} {ps qs bs : List ℕ}
    → KeepsBy OnPath M S C es ns v p ls rs aa h xs ps fs ms w q ks ts bb i ys qs → KeepsBy OnPath M S C fs ms w q ks ts bb i ys qs gs os x r js us cc j zs bs → KeepsBy OnPath M S C es ns v p ls rs aa h xs ps gs os x r js us cc j zs bs
path_then a b = keeps_trans (λ m n. n ∙ m) a b

pub on_adds : (ms : List ℕ) (S : ℕ → Type 0) (C : ℕ → Size → Type 0) (p : Pos) (d : Draft) → Adds ms S C d (on p d)
on_adds ms S C p d = record {
  edges = λ e h. h;
  names = refl;
  variables = omega arith;
  points = omega arith;
  size = refl;
  labels = λ n h. inr refl;
  beyond = λ n h. inr refl;
  regions = λ k. inr refl;
  apart = λ j k n. inl refl;
  paths = refl;
  scopes = λ n z h. h;
  here = (refl, refl);
  many = refl;
  made = λ n h. refl;
  unmade = λ n h. refl;
  slots = refl;
  objects = λ n. inr refl;
}

pub link_adds : (ms : List ℕ) (S : ℕ → Type 0) (C : ℕ → Size → Type 0) (i : Instr) (q : ℕ) (d : Draft) → Adds ms S C d (link i q d)
link_adds ms S C i q d = adds ms S C d (link i q d) (link_grows C i q d)

pub emit_adds : (ms : List ℕ) (S : ℕ → Type 0) (C : ℕ → Size → Type 0) (i : Instr) (d : Draft) → Adds ms S C d (emit i d)
emit_adds ms S C i d = adds ms S C d (emit i d) (emit_grows C i d)

pub away_adds : (ms : List ℕ) (S : ℕ → Type 0) (C : ℕ → Size → Type 0) (q : ℕ) (d : Draft) → Adds ms S C d (away q d)
away_adds ms S C q d = adds ms S C d (away q d) (grows_trans (link_grows C Skip q d) (fresh_one_grows C (link Skip q d)))

-- a point that was made before is here
pub come_adds : (ms : List ℕ) (S : ℕ → Type 0) (C : ℕ → Size → Type 0) (p : ℕ) (d : Draft) → Among p ms → Adds ms S C d (come p d)
come_adds ms S C p d m = record {
  edges = λ e h. front_among d.edges _ e h;
  names = refl;
  variables = omega arith;
  points = omega arith;
  size = length-set d.labels p d.here;
  labels = λ n h. by n (decided n p);
  beyond = λ n h. by n (decided n p);
  regions = λ k. inr refl;
  apart = λ j k n. inl refl;
  paths = refl;
  scopes = λ n z h. h;
  here = (refl, refl);
  many = refl;
  made = λ n h. refl;
  unmade = λ n h. refl;
  slots = refl;
  objects = λ n. inr refl;
} where
  by : (n : ℕ) → (n ≡ p) ⊎ (n ≢ p) → Among n ms ⊎ (label_at (slice_set d.labels p d.here) n ≡ label_at d.labels n)
  by n (inl e) = inl (subst (λ q. Among q ms) (sym e) m)
  by n (inr h) = inr (get_or-set_other d.labels p n d.here no_label h)

pub record Placing (n p : ℕ) (d : Draft) : Type 0 where
  pub edges : (all_placed n p d).edges ≡ d.edges
  pub names : (all_placed n p d).names ≡ d.names
  pub variables : (all_placed n p d).variables ≡ d.variables
  pub regions : (all_placed n p d).regions ≡ d.regions
  pub scopes : (all_placed n p d).scopes ≡ d.scopes
  pub here : (all_placed n p d).here ≡ d.here
  pub made : (all_placed n p d).made ≡ d.made
  pub objects : (all_placed n p d).objects ≡ d.objects
  pub size : length (all_placed n p d).labels ≡ length d.labels
  pub labels : (q : ℕ) → q < p → label_at (all_placed n p d).labels q ≡ label_at d.labels q
  pub beyond : (q : ℕ) → p + n ≤ q → label_at (all_placed n p d).labels q ≡ label_at d.labels q

pub placing : (n p : ℕ) (d : Draft) → Placing n p d
placing zero p d = record { edges = refl; names = refl; variables = refl; regions = refl; scopes = refl; here = refl; made = refl; objects = refl; size = refl; labels = λ q h. refl; beyond = λ q h. refl }
placing (suc n) p d =
    let r = placing n (p + 1) (placed p d) in
    record {
      edges = r.edges;
      names = r.names;
      variables = r.variables;
      regions = r.regions;
      scopes = r.scopes;
      here = r.here;
      made = r.made;
      objects = r.objects;
      size = r.size ∙ length-set d.labels p d.here;
      labels = λ q h. r.labels q (omega (arith, h)) ∙ get_or-set_other d.labels p q d.here no_label (λ e. absurd (omega (arith, h, e)));
      beyond = λ q h. r.beyond q (omega (arith, h)) ∙ get_or-set_other d.labels p q d.here no_label (λ e. absurd (omega (arith, h, e)));
    }

pub fresh_grows : (C : ℕ → Size → Type 0) (n : ℕ) (d : Draft) → Grows C d (fresh n d)
fresh_grows C n d =
    let r = placing n d.points d in
    record {
      edges = λ e h. subst (λ es. Among e es) (sym r.edges) h;
      names = r.names;
      variables = let v = r.variables in omega (arith, v);
      points = omega arith;
      size = r.size;
      labels = λ q h. inr (r.labels q h);
      beyond = λ q h. inr (r.beyond q h);
      regions = λ k. inr (ap (λ rs. region_at rs k) r.regions);
      apart = λ j k n. inl (ap (λ rs. region_at rs j) r.regions);
      paths = ap length r.regions;
      scopes = λ i z h. subst (λ ss. slice_get ss i ≡ Some z) (sym r.scopes) h;
      here = r.here;
      many = ap length r.made;
      made = λ q h. ap (λ xs. made_at xs q) r.made;
      unmade = λ q h. ap (λ xs. made_at xs q) r.made;
      slots = ap length r.objects;
      objects = λ q. inr (ap (λ os. object_at os q) r.objects);
    }

-- ---- declarations

-- an entry more
extended : (ss : Scoping) (z : Rattle.pk_graph.specs.declared.graphs.Scope.Scope) → Extends ss (ss ++ z ∷ [])
extended [] z n y h = absurd (grind (arith, h))
extended (s ∷ ss) z zero y h = h
extended (s ∷ ss) z (suc n) y h = extended ss z n y h

pub entry_enlarges : (ms : List ℕ) (S : ℕ → Type 0) (C : ℕ → Size → Type 0) (e : Entry) (d : Draft) → Enlarges ms S C d (with_entry e d)
entry_enlarges ms S C e d = record { edges = λ z h. h; names = refl; variables = omega arith; points = omega arith; size = refl; labels = λ n h. inr refl; beyond = λ n h. inr refl; regions = λ k. inr refl; apart = λ j k n. inl refl; paths = refl; scopes = extended d.scopes (record { entry = e; outer = d.here.scope }); here = refl; many = refl; made = λ n h. refl; unmade = λ n h. refl; slots = refl; objects = λ n. inr refl }

pub named_enlarges : (ms : List ℕ) (S : ℕ → Type 0) (C : ℕ → Size → Type 0) (o : Option (List ℕ)) (x : ℕ) (d : Draft) → Enlarges ms S C d (named o x d)
named_enlarges ms S C None x d = record { edges = λ e h. h; names = refl; variables = omega arith; points = omega arith; size = refl; labels = λ n h. inr refl; beyond = λ n h. inr refl; regions = λ k. inr refl; apart = λ j k n. inl refl; paths = refl; scopes = λ n z h. h; here = refl; many = refl; made = λ n h. refl; unmade = λ n h. refl; slots = refl; objects = λ n. inr refl }
named_enlarges ms S C (Some name) x d = entry_enlarges ms S C (naming x) d

pub object_enlarges : (ms : List ℕ) (S : ℕ → Type 0) (C : ℕ → Size → Type 0) (i : ℕ) (x : VariableOf) (d : Draft) → S i → Enlarges ms S C d (with_object i x d)
object_enlarges ms S C i x d h = record {
  edges = λ e h. h;
  names = refl;
  variables = omega arith;
  points = omega arith;
  size = refl;
  labels = λ n h. inr refl;
  beyond = λ n h. inr refl;
  regions = λ k. inr refl;
  apart = λ j k n. inl refl;
  paths = refl;
  scopes = λ n z h. h;
  here = refl;
  many = length-set d.made d.variables x;
  made = λ n h. get_or-set_other d.made d.variables n x no_variable (λ e. absurd (omega (arith, h, e)));
  unmade = λ n h. get_or-set_other d.made d.variables n x no_variable (λ e. absurd (omega (arith, h, e)));
  slots = length-set d.objects i d.variables;
  objects = λ n. by n (decided n i);
} where
  by : (n : ℕ) → (n ≡ i) ⊎ (n ≢ i) → S n ⊎ (object_at (slice_set d.objects i d.variables) n ≡ object_at d.objects n)
  by n (inl e) = inl (subst S (sym e) h)
  by n (inr k) = inr (get_or-set_other d.objects i n d.variables 0 k)

pub introduced_enlarges : (ms : List ℕ) (S : ℕ → Type 0) (C : ℕ → Size → Type 0) (c : Context) (i : ℕ) (d : Draft) → S i → Enlarges ms S C d (introduced c i d)
introduced_enlarges ms S C c i d h =
    let x = local_at c i in
    let e = with_object i (inner x.name x.int_type x.length c.path) d in
    path_then (object_enlarges ms S C i (inner x.name x.int_type x.length c.path) d h) (named_enlarges ms S C x.name d.variables e)

pub items_adds : (C : ℕ → Size → Type 0) (c : Context) (i j : ℕ) (es : ValueTrees) (d : Draft) → AllCalled C c (calls_in_values es) → Grows C d (items c i j es d)
unfolding items calls_in_values
items_adds C c i j tree.no_values d h = grows_refl C d
items_adds C c i j (tree.value_before e es) d h =
    let r = (ways c e).value d in
    grows_trans ((values C c e (front_called C c (calls_in e) (calls_in_values es) h)).value d) (grows_trans (emit_grows C _ r.1)
    (items_adds C c i (j + 1) es (item c i j (type_of e) (ways c e) d) (back_called C c (calls_in e) (calls_in_values es) h)))

pub scalar_first_grows : (C : ℕ → Size → Type 0) (c : Context) (i : ℕ) (e : Option ValueTree) (d : Draft) → AllCalled C c (calls_if e) → Grows C d (statements.scalar_first c i e d)
scalar_first_grows C c i None d h = emit_grows C _ d
scalar_first_grows C c i (Some e) d h = grows_trans ((values C c e h).value d) (emit_grows C _ ((ways c e).value d).1)

pub array_first_grows : (C : ℕ → Size → Type 0) (c : Context) (i : ℕ) (es : Option ValueTrees) (d : Draft) → AllCalled C c (calls_in_values_if es) → Grows C d (statements.array_first c i es d)
array_first_grows C c i None d h = emit_grows C _ d
array_first_grows C c i (Some es) d h = grows_trans (emit_grows C (Clear (array_of c (Local i) d)) d) (items_adds C c i 0 es (emit (Clear (array_of c (Local i) d)) d) h)

-- an object of the function that is declared is among S
abbrev pub DeclaresAmong : (S : ℕ → Type 0) → DeclaredTree → Type 0
DeclaresAmong S (tree.scalar_object i p e) = S i
DeclaresAmong S (tree.array_object i p es) = S i
DeclaresAmong S (tree.static_object i p) = Unit {0}
DeclaresAmong S (tree.hiding_constant x p) = Unit {0}

abbrev pub AllAmong : (S : ℕ → Type 0) → List DeclaredTree → Type 0
AllAmong S [] = Unit {0}
AllAmong S (v ∷ vs) = DeclaresAmong S v × AllAmong S vs

abbrev pub StartAmong : (S : ℕ → Type 0) → ForStartTree → Type 0
StartAmong S (tree.declarations vs) = AllAmong S vs
StartAmong S (tree.expression e) = Unit {0}

pub declared_free : (v : DeclaredTree) → DeclaresAmong Free v
declared_free (tree.scalar_object i p e) = tt
declared_free (tree.array_object i p es) = tt
declared_free (tree.static_object i p) = tt
declared_free (tree.hiding_constant x p) = tt

pub all_free : (vs : List DeclaredTree) → AllAmong Free vs
all_free [] = tt
all_free (v ∷ vs) = (declared_free v, all_free vs)

pub start_free : (f : ForStartTree) → StartAmong Free f
start_free (tree.declarations vs) = all_free vs
start_free (tree.expression e) = tt

-- objects are declared in order
pub declared_among : (S : ℕ → Type 0) (a : Around) (v : DeclaredTree) → IsDeclared a v → ((i : ℕ) → a.objects ≤ i → S i) → DeclaresAmong S v
declared_among S a (tree.scalar_object i p e) h from = from i (let z = h.0 in omega (arith, z))
declared_among S a (tree.array_object i p es) h from = from i (let z = h.0 in omega (arith, z))
declared_among S a (tree.static_object i p) h from = tt
declared_among S a (tree.hiding_constant x p) h from = tt

pub all_among : (S : ℕ → Type 0) (vs : List DeclaredTree) (a : Around) → AreDeclared a vs → ((i : ℕ) → a.objects ≤ i → S i) → AllAmong S vs
all_among S [] a h from = tt
all_among S (v ∷ vs) a h from = (declared_among S a v h.0 from, all_among S vs (WellTyped.behind (objects_in_declared v) a) h.1 (λ i k. from i (omega (arith, k))))

pub start_among : (S : ℕ → Type 0) (a : Around) (f : ForStartTree) → IsForStart a f → ((i : ℕ) → a.objects ≤ i → S i) → StartAmong S f
start_among S a (tree.declarations vs) h from = all_among S vs a h from
start_among S a (tree.expression e) h from = tt

pub declared_enlarges : (ms : List ℕ) (S : ℕ → Type 0) (C : ℕ → Size → Type 0) (c : Context) (v : DeclaredTree) (d : Draft) → DeclaresAmong S v → AllCalled C c (calls_in_declared v) → Enlarges ms S C d (declared c v d)
declared_enlarges ms S C c (tree.scalar_object i p e) d o h =
    let f = introduced c i (on p d) in
    path_then (enlarges ms S C d (on p d) (on_adds ms S C p d)) (path_then (introduced_enlarges ms S C c i (on p d) o)
    (enlarges ms S C f (statements.scalar_first c i e f) (adds ms S C f (statements.scalar_first c i e f) (scalar_first_grows C c i e f h))))
declared_enlarges ms S C c (tree.array_object i p es) d o h =
    let f = introduced c i (on p d) in
    path_then (enlarges ms S C d (on p d) (on_adds ms S C p d)) (path_then (introduced_enlarges ms S C c i (on p d) o)
    (enlarges ms S C f (statements.array_first c i es f) (adds ms S C f (statements.array_first c i es f) (array_first_grows C c i es f h))))
declared_enlarges ms S C c (tree.static_object i p) d o h = path_then (enlarges ms S C d (on p d) (on_adds ms S C p d)) (entry_enlarges ms S C (naming i) (on p d))
declared_enlarges ms S C c (tree.hiding_constant x p) d o h = path_then (enlarges ms S C d (on p d) (on_adds ms S C p d)) (entry_enlarges ms S C (hiding (statements.number_of x (on p d))) (on p d))

pub all_declared_enlarges : (ms : List ℕ) (S : ℕ → Type 0) (C : ℕ → Size → Type 0) (c : Context) (vs : List DeclaredTree) (d : Draft) → AllAmong S vs → AllCalled C c (calls_in_all_declared vs) → Enlarges ms S C d (all_declared c vs d)
unfolding all_declared
all_declared_enlarges ms S C c [] d o h = enlarges ms S C d d (adds ms S C d d (grows_refl C d))
all_declared_enlarges ms S C c (v ∷ vs) d o h =
    path_then (declared_enlarges ms S C c v d o.0 (front_called C c (calls_in_declared v) (calls_in_all_declared vs) h))
    (all_declared_enlarges ms S C c vs (declared c v d) o.1 (back_called C c (calls_in_declared v) (calls_in_all_declared vs) h))

-- ---- choices and loops

abbrev pub AddsTo : List ℕ → (ℕ → Type 0) → (ℕ → Size → Type 0) → (Draft → Draft) → Type 0
AddsTo ms S C f = (d : Draft) → Adds ms S C d (f d)

abbrev pub ChoiceAdds : List ℕ → (ℕ → Type 0) → (ℕ → Size → Type 0) → ((p q : ℕ) → Draft → Draft) → Type 0
ChoiceAdds ms S C f = (p q : ℕ) (d : Draft) → Adds ms S C d (f p q d)

abbrev pub BodyAdds : List ℕ → (ℕ → Type 0) → (ℕ → Size → Type 0) → Exits → (Exits → Draft → Draft) → Type 0
BodyAdds ms S C x s = (b k : ℕ) (d : Draft) → Adds ms S C d (s (inside b k x) d)

pub fresh_adds : (ms : List ℕ) (S : ℕ → Type 0) (C : ℕ → Size → Type 0) (n : ℕ) (d : Draft) → Adds ms S C d (fresh n d)
fresh_adds ms S C n d = adds ms S C d (fresh n d) (fresh_grows C n d)

pub nothing_adds : (ms : List ℕ) (S : ℕ → Type 0) (C : ℕ → Size → Type 0) (d : Draft) → Adds ms S C d d
nothing_adds ms S C d = adds ms S C d d (grows_refl C d)

-- two ends meet at a new point
pub meeting_adds : (ms : List ℕ) (S : ℕ → Type 0) (C : ℕ → Size → Type 0) (p : Pos) (t : ℕ) (u : Draft) → Adds ms S C u (meeting p t u)
meeting_adds ms S C p t u =
    let j = fresh 1 (on p u) in
    let l = link Skip (on p u).points (at t j) in
    stays_then (on_adds ms S C p u) (stays_then (fresh_adds ms S C 1 (on p u)) (stays_then (link_adds ms S C Skip (on p u).points (at t j)) (link_adds ms S C Skip (on p u).points (at u.point l))))

if_adds : (ms : List ℕ) (S : ℕ → Type 0) (C : ℕ → Size → Type 0) (p : Pos) (c : Ways Slot) (a b : Draft → Draft) → ChoiceAdds ms S C c.choice → AddsTo ms S C a → AddsTo ms S C b → AddsTo ms S C (if_draft p c a b)
if_adds ms S C p c a b hc ha hb d =
    let d0 = on p d in
    let d1 = fresh 2 d0 in
    let d2 = c.choice d0.points (d0.points + 1) d1 in
    let t = a (at d0.points d2) in
    let u = b (at (d.points + 1) t) in
    stays_then (on_adds ms S C p d) (stays_then (fresh_adds ms S C 2 d0) (stays_then (hc d0.points (d0.points + 1) d1) (stays_then (ha (at d0.points d2)) (stays_then (hb (at (d.points + 1) t)) (meeting_adds ms S C p t.point u)))))

pub round_adds : (ms : List ℕ) (S : ℕ → Type 0) (C : ℕ → Size → Type 0) (x : Exits) (s : Exits → Draft → Draft) → BodyAdds ms S C x s → (b e k : ℕ) (d : Draft) → Adds ms S C d (round x s b e k d)
round_adds ms S C x s h b e k d = stays_then (h e k (at b d)) (link_adds ms S C Skip k (s (inside e k x) (at b d)))

pub begun_adds : (ms : List ℕ) (S : ℕ → Type 0) (C : ℕ → Size → Type 0) (d : Draft) → Adds ms S C d (loop_begun d)
begun_adds ms S C d = stays_then (fresh_adds ms S C 3 d) (link_adds ms S C Skip d.points (fresh 3 d))

pub while_adds : (ms : List ℕ) (S : ℕ → Type 0) (C : ℕ → Size → Type 0) (c : Ways Slot) (s : Exits → Draft → Draft) (x : Exits) → ChoiceAdds ms S C c.choice → BodyAdds ms S C x s → (b e : ℕ) (d : Draft) → Adds ms S C d (while_from c s x b e d)
while_adds ms S C c s x hc hs b e d = stays_then (hc b e d) (round_adds ms S C x s hs b e d.point (c.choice b e d))

pub do_adds : (ms : List ℕ) (S : ℕ → Type 0) (C : ℕ → Size → Type 0) (p : Pos) (c : Ways Slot) (s : Exits → Draft → Draft) (x : Exits) → ChoiceAdds ms S C c.choice → BodyAdds ms S C x s → (k e : ℕ) (d : Draft) → Adds ms S C d (do_from p c s x k e d)
do_adds ms S C p c s x hc hs k e d =
    let r = round x s d.point e k d in
    stays_then (round_adds ms S C x s hs d.point e k d) (stays_then (on_adds ms S C p r) (hc d.point e (on p r)))

-- in another block's scope
pub scope_enlarges : (ms : List ℕ) (S : ℕ → Type 0) (C : ℕ → Size → Type 0) (n : ℕ) (d : Draft) → Enlarges ms S C d (in_scope n d)
scope_enlarges ms S C n d = record { edges = λ e z. z; names = refl; variables = omega arith; points = omega arith; size = refl; labels = λ q z. inr refl; beyond = λ q z. inr refl; regions = λ j. inr refl; apart = λ m o w. inl refl; paths = refl; scopes = λ n z h. h; here = refl; many = refl; made = λ n z. refl; unmade = λ n z. refl; slots = refl; objects = λ n. inr refl }

pub scope_adds : (ms : List ℕ) (S : ℕ → Type 0) (C : ℕ → Size → Type 0) (d e : Draft) → Enlarges ms S C d e → Adds ms S C d (in_scope d.here.scope e)
scope_adds ms S C d e g = record { edges = g.edges; names = g.names; variables = g.variables; points = g.points; size = g.size; labels = g.labels; beyond = g.beyond; regions = g.regions; apart = g.apart; paths = g.paths; scopes = g.scopes; many = g.many; made = g.made; unmade = g.unmade; slots = g.slots; objects = g.objects; here = (g.here, refl) }

-- the names in scope are those of an earlier draft
pub scoped_adds : (ms : List ℕ) (S : ℕ → Type 0) (C : ℕ → Size → Type 0) (k : ℕ) (d e : Draft) → Adds ms S C d e → Adds ms S C d (in_scope d.here.scope e)
scoped_adds ms S C k d e g = scope_adds ms S C d e (enlarges ms S C d e g)

pub for_adds : (ms : List ℕ) (S : ℕ → Type 0) (C : ℕ → Size → Type 0) (p : Pos) (test : (p q : ℕ) → Draft → Draft) (third : Draft → Draft) (s : Exits → Draft → Draft) (x : Exits) → ChoiceAdds ms S C test → AddsTo ms S C third → BodyAdds ms S C x s → (b k e : ℕ) (d : Draft)
    → Adds ms S C d (for_from p test third s x b k e d)
for_adds ms S C p test third s x ht h3 hs b k e d =
    let t = test b e d in
    let r = round x s b e k t in
    let o = in_scope d.here.scope (on p r) in
    stays_then (scoped_adds ms S C 0 d (on p r) (stays_then (ht b e d) (stays_then (round_adds ms S C x s hs b e k t) (on_adds ms S C p r))))
    (stays_then (h3 o) (link_adds ms S C Skip d.point (third o)))

-- ---- switches

pub case_adds : (ms : List ℕ) (S : ℕ → Type 0) (C : ℕ → Size → Type 0) (s : Site) (t : IntType) (r : SlotTree) (zs : List ℤ) (p : ℕ) (d : Draft) → Adds ms S C d (case_tests s t r zs p d)
unfolding case_tests
case_adds ms S C s t r [] p d = nothing_adds ms S C d
case_adds ms S C s t r (z ∷ zs) p d =
    let q : Given Slot = (binary_tree Eq s t r (constant t z), fresh 1 d) in
    stays_then (fresh_adds ms S C 1 d) (stays_then (adds ms S C (fresh 1 d) (rows.guards p d.points q) (guards_grow C p d.points q)) (case_adds ms S C s t r zs (p + 1) (case_test s t r z p d)))

-- n points from p on
abbrev pub upto : (n p : ℕ) → List ℕ
upto zero p = []
upto (suc n) p = p ∷ upto n (p + 1)

pub upto_from : (n p q : ℕ) → Among q (upto n p) → p ≤ q
upto_from zero p q h = absurd h
upto_from (suc n) p q (inl e) = omega (arith, e)
upto_from (suc n) p q (inr h) = let z = upto_from n (p + 1) q h in omega (arith, z)

pub upto_before : (n p q : ℕ) → Among q (upto n p) → q < p + n
upto_before zero p q h = absurd h
upto_before (suc n) p q (inl e) = omega (arith, e)
upto_before (suc n) p q (inr h) = let z = upto_before n (p + 1) q h in omega (arith, z)

pub upto_has : (n p i : ℕ) → i < n → Among (p + i) (upto n p)
upto_has zero p i h = absurd (omega (arith, h))
upto_has (suc n) p zero h = inl (omega arith)
upto_has (suc n) p (suc i) h = inr (subst (λ q. Among q (upto n (p + 1))) (omega arith) (upto_has n (p + 1) i (omega (arith, h))))

pub front_list : (xs ys : List ℕ) (m : ℕ) → Among m xs → Among m (xs ++ ys)
front_list xs ys m h = front_among xs ys m h

pub back_list : (xs ys : List ℕ) (m : ℕ) → Among m ys → Among m (xs ++ ys)
back_list [] ys m h = h
back_list (x ∷ xs) ys m h = inr (back_list xs ys m h)

either_list : (xs ys : List ℕ) (m : ℕ) → Among m (xs ++ ys) → Among m xs ⊎ Among m ys
either_list [] ys m h = inr h
either_list (x ∷ xs) ys m (inl e) = inl (inl e)
either_list (x ∷ xs) ys m (inr h) = by (either_list xs ys m h) where
  by : Among m xs ⊎ Among m ys → Among m (x ∷ xs) ⊎ Among m ys
  by (inl k) = inl (inr k)
  by (inr k) = inr k

-- marks of points that were made behind a draft are no marks for it
pub fewer_marks : {R : Label → Label → Type 0} {S : ℕ → Type 0} {C : ℕ → Size → Type 0} (ms ys : List ℕ) (d f : Draft) → ((q : ℕ) → Among q ys → (d.points ≤ q) × (q < f.points)) → Keeps R (Marked (ys ++ ms)) S C d f → Keeps R (Marked ms) S C d f
fewer_marks ms ys d f from a = record {
  edges = a.edges;
  names = a.names;
  variables = a.variables;
  points = a.points;
  size = a.size;
  labels = λ q h. less q (inl h) (a.labels q h);
  beyond = λ q h. less q (inr h) (a.beyond q h);
  regions = a.regions;
  apart = a.apart;
  paths = a.paths;
  scopes = a.scopes;
  here = a.here;
  many = a.many;
  made = a.made;
  unmade = a.unmade;
  slots = a.slots;
  objects = a.objects;
} where
  by : (q : ℕ) → (q < d.points) ⊎ (f.points ≤ q) → Among q ys ⊎ Among q ms → Among q ms
  by q (inl h) (inl k) = let z = (from q k).0 in absurd (omega (arith, h, z))
  by q (inr h) (inl k) = let z = (from q k).1 in absurd (omega (arith, h, z))
  by q h (inr k) = k

  less : (q : ℕ) {A : Type 0} → (q < d.points) ⊎ (f.points ≤ q) → Among q (ys ++ ms) ⊎ A → Among q ms ⊎ A
  less q h (inl k) = inl (by q h (either_list ys ms q k))
  less q h (inr z) = inr z

more_marks : {R : Label → Label → Type 0} {S : ℕ → Type 0} {C : ℕ → Size → Type 0} (ms ys : List ℕ) (d f : Draft) → Keeps R (Marked ms) S C d f → Keeps R (Marked (ys ++ ms)) S C d f
more_marks ms ys d f a = record {
  edges = a.edges;
  names = a.names;
  variables = a.variables;
  points = a.points;
  size = a.size;
  labels = λ q h. more q (a.labels q h);
  beyond = λ q h. more q (a.beyond q h);
  regions = a.regions;
  apart = a.apart;
  paths = a.paths;
  scopes = a.scopes;
  here = a.here;
  many = a.many;
  made = a.made;
  unmade = a.unmade;
  slots = a.slots;
  objects = a.objects;
} where
  more : (q : ℕ) {A : Type 0} → Among q ms ⊎ A → Among q (ys ++ ms) ⊎ A
  more q (inl h) = inl (back_list ys ms q h)
  more q (inr z) = inr z

pub inner_adds : (ms ys : List ℕ) (S : ℕ → Type 0) (C : ℕ → Size → Type 0) (d e f : Draft) → ((q : ℕ) → Among q ys → (d.points ≤ q) × (q < e.points)) → Adds ms S C d e → Adds (ys ++ ms) S C e f → Adds ms S C d f
inner_adds ms ys S C d e f from a b = fewer_marks ms ys d f (λ q h. ((from q h).0, let x = (from q h).1 in let y = b.points in omega (arith, x, y))) (stays_then (more_marks ms ys d e a) b)

pub marking_inside : (x : Exits) (m : Marks) (ms : List ℕ) (b k : ℕ) → Marking x m ms → Marking (inside b k x) m ms
marking_inside x m ms b k h = record { labels = h.labels; cases = h.cases; default = h.default }

-- a mark of the function, or of the switch at hand
abbrev pub IsMark : Marks → Mark → Type 0
IsMark m (labelled l) = l < m.labels
IsMark m (numbered i) = i < m.cases
IsMark m otherwise = m.has_default ≡ true

-- the points of the marks that stand as often as t says
abbrev pub Covers : Exits → Marks → (Mark → ℕ) → List ℕ → Type 0
Covers x m t ms = (b : Mark) → IsMark m b → (t b ≡ 0 → ⊥) → Among (mark_point b x) ms

-- those of all marks
pub covers_all : (x : Exits) (m : Marks) (t : Mark → ℕ) (ms : List ℕ) → Marking x m ms → Covers x m t ms
covers_all x m t ms h (labelled l) is some = h.labels l is
covers_all x m t ms h (numbered i) is some = h.cases i is
covers_all x m t ms h otherwise is some = h.default is

covers_first : (x : Exits) (m : Marks) (t u : Mark → ℕ) (ms : List ℕ) → Covers x m (λ b. t b + u b) ms → Covers x m t ms
covers_first x m t u ms h b is some = h b is (λ e. some (omega (arith, e)))

covers_second : (x : Exits) (m : Marks) (t u : Mark → ℕ) (ms : List ℕ) → Covers x m (λ b. t b + u b) ms → Covers x m u ms
covers_second x m t u ms h b is some = h b is (λ e. some (omega (arith, e)))

-- a loop has no marks of its own
pub point_inside : (m : Mark) (b c : ℕ) (x : Exits) → mark_point m (inside b c x) ≡ mark_point m x
point_inside (labelled l) b c x = refl
point_inside (numbered i) b c x = refl
point_inside otherwise b c x = refl

covers_inside : (x : Exits) (m : Marks) (t : Mark → ℕ) (ms : List ℕ) (b k : ℕ) → Covers x m t ms → Covers (inside b k x) m t ms
covers_inside x m t ms b k h c is some = subst (λ q. Among q ms) (sym (point_inside c b k x)) (h c is some)

covers_switch : (x : Exits) (m : Marks) (t : Mark → ℕ) (ms : List ℕ) (e n : ℕ) (b : Bool) → Covers x m (λ k. Marks.in_switch k (t k)) ms → Covers (in_switch e n x) (WellTyped.in_switch n b m) t (upto (n + 1) (e + 1) ++ ms)
covers_switch x m t ms e n b h (labelled l) is some = back_list (upto (n + 1) (e + 1)) ms (x.labels + l) (h (labelled l) is some)
covers_switch x m t ms e n b h (numbered i) is some = front_list (upto (n + 1) (e + 1)) ms (e + 1 + i) (upto_has (n + 1) (e + 1) i (omega (arith, is)))
covers_switch x m t ms e n b h otherwise is some = front_list (upto (n + 1) (e + 1)) ms (e + 1 + n) (upto_has (n + 1) (e + 1) n (omega arith))

-- a mark stands where it is
pub label_once : (l n : ℕ) → one_if (is_label (labelled l) l) + n ≡ 1 + n
label_once l n = let e = eq-eqb l l refl in grind (arith, nat_tests, e)

pub case_once : (i n : ℕ) → one_if (is_case (numbered i) i) + n ≡ 1 + n
case_once i n = let e = eq-eqb i i refl in grind (arith, nat_tests, e)

pub choice_adds : (ms : List ℕ) (S : ℕ → Type 0) (C : ℕ → Size → Type 0) (w : Ways Slot) → WaysGrow C w → ChoiceAdds ms S C w.choice
choice_adds ms S C w g p q d = adds ms S C d (w.choice p q d) (g.choice p q d)

-- behind the value of a switch
pub begun_switch_adds : (ms : List ℕ) (S : ℕ → Type 0) (C : ℕ → Size → Type 0) (s : Site) (t : IntType) (zs : List ℤ) (b : Bool) (k : Given Slot) → Adds ms S C k.1 (switch_begun s t zs b k)
begun_switch_adds ms S C s t zs b k =
    let e = k.1.points in
    let n = length zs in
    let f = fresh (1 + n + (if b then 1 else 0)) k.1 in
    stays_then (fresh_adds ms S C (1 + n + (if b then 1 else 0)) k.1) (stays_then (case_adds ms S C s t k.0 zs (e + 1) f) (away_adds ms S C (if b then e + 1 + n else e) (case_tests s t k.0 zs (e + 1) f)))

-- all of its points are made
pub begun_switch_points : (ms : List ℕ) (S : ℕ → Type 0) (C : ℕ → Size → Type 0) (s : Site) (t : IntType) (zs : List ℤ) (b : Bool) (k : Given Slot) → k.1.points + length zs + 1 < (switch_begun s t zs b k).points
begun_switch_points ms S C s t zs b k =
    let n = length zs in
    let f = fresh (1 + n + (if b then 1 else 0)) k.1 in
    let z = (case_adds ms S C s t k.0 zs (k.1.points + 1) f).points in
    omega (arith, z)

switch_adds : (ms : List ℕ) (S : ℕ → Type 0) (C : ℕ → Size → Type 0) (s : Site) (t : IntType) (c : Context) (v : ValueTree) (zs : List ℤ) (b : Bool) (body : Exits → Draft → Draft) (x : Exits) → WaysGrow C (ways c v)
    → ((e : ℕ) (d : Draft) → Adds (upto (length zs + 1) (e + 1) ++ ms) S C d (body (in_switch e (length zs) x) d)) → (d : Draft) → Adds ms S C d (statements.switch_draft s t (operand v (ways c v)) zs b body x d)
switch_adds ms S C s t c v zs b body x hv hb d =
    let r = (ways c v).value d in
    let k = statements.tested t (operand v (ways c v)) d in
    let e = k.1.points in
    let u = switch_begun s t zs b k in
    let valued : Grows C d k.1 = grows_trans (hv.value d) (held_grows C Strong (converted_shape (type_of v) t (shape_of v)) t (conversion (type_of v) t r.0, r.1)) in
    let le = valued.points in
    stays_then (inner_adds ms (upto (length zs + 1) (e + 1)) S C d u (body (in_switch e (length zs) x) u) (λ q m. let z = upto_from (length zs + 1) (e + 1) q m in let y = upto_before (length zs + 1) (e + 1) q m in let x = begun_switch_points ms S C s t zs b k in (omega (arith, le, z), omega (arith, x, y)))
    (stays_then (adds ms S C d k.1 valued) (begun_switch_adds ms S C s t zs b k)) (hb e u)) (link_adds ms S C Skip e (body (in_switch e (length zs) x) u))

-- ---- the forms

returned_adds : (ms : List ℕ) (S : ℕ → Type 0) (C : ℕ → Size → Type 0) (c : Context) (left : ℕ) (r : Option IntType) (e : Option ValueTree) → AllCalled C c (calls_if e) → AddsTo ms S C (returned c left r e)
returned_adds ms S C c left None None h d = away_adds ms S C left d
returned_adds ms S C c left None (Some e) h d = away_adds ms S C left d
returned_adds ms S C c left (Some t) None h d = away_adds ms S C left d
returned_adds ms S C c left (Some t) (Some e) h d =
    let r = (ways c e).value d in
    let f = rows.set_after t (type_of e) (own_result c d) r in
    stays_then (adds ms S C d f (grows_trans ((values C c e h).value d) (emit_grows C _ r.1))) (away_adds ms S C left f)

pub third_adds : (ms : List ℕ) (S : ℕ → Type 0) (C : ℕ → Size → Type 0) (c : Context) (e : Option EffectTree) → AllCalled C c (calls_in_effect_if e) → AddsTo ms S C (performed_if c e)
third_adds ms S C c None h d = nothing_adds ms S C d
third_adds ms S C c (Some e) h d = adds ms S C d (performed c e d) (effects C c e h d)

-- from the end of a `for`'s body: the third part, and back
pub third_enlarges : (ms : List ℕ) (S : ℕ → Type 0) (C : ℕ → Size → Type 0) (c : Context) (p : Pos) (e : Option EffectTree) → AllCalled C c (calls_in_effect_if e) → (n h : ℕ) (d : Draft) → Enlarges ms S C d (go Skip h (performed_if c e (in_scope n (on p d))))
third_enlarges ms S C c p e called n h d =
    let o = on p d in
    let u = in_scope n o in
    path_then (enlarges ms S C d o (on_adds ms S C p d)) (path_then (scope_enlarges ms S C n o) (enlarges ms S C u (go Skip h (performed_if c e u)) (stays_then (third_adds ms S C c e called u) (link_adds ms S C Skip h (performed_if c e u)))))

pub test_adds : (ms : List ℕ) (S : ℕ → Type 0) (C : ℕ → Size → Type 0) (c : Context) (e : Option ValueTree) → AllCalled C c (calls_if e) → ChoiceAdds ms S C (for_test c e)
test_adds ms S C c None h p q d = link_adds ms S C Skip p d
test_adds ms S C c (Some e) h p q d = adds ms S C d ((ways c e).choice p q d) ((values C c e h).choice p q d)

pub start_enlarges : (ms : List ℕ) (S : ℕ → Type 0) (C : ℕ → Size → Type 0) (c : Context) (f : ForStartTree) (d : Draft) → StartAmong S f → AllCalled C c (calls_at_start f) → Enlarges ms S C d (for_start c f d)
start_enlarges ms S C c (tree.declarations vs) d o h = all_declared_enlarges ms S C c vs d o h
start_enlarges ms S C c (tree.expression e) d o h = enlarges ms S C d (performed_if c e d) (third_adds ms S C c e h d)

for_draft_adds : (ms : List ℕ) (S : ℕ → Type 0) (C : ℕ → Size → Type 0) (p : Pos) (c : Context) (f : ForStartTree) (e : Option ValueTree) (third : Option EffectTree) (s : Exits → Draft → Draft) (x : Exits)
    → StartAmong S f → AllCalled C c (calls_at_start f) → AllCalled C c (calls_if e) → AllCalled C c (calls_in_effect_if third) → BodyAdds ms S C x s → (d : Draft) → Adds ms S C d (statements.for_draft p (for_start c f) (for_test c e) (performed_if c third) s x d)
for_draft_adds ms S C p c f e third s x o hf he h3 hs d =
    let d1 = fresh 1 d in
    let g = for_start c f d1 in
    let u = on p g in
    let h = u.points in
    let b = loop_begun u in
    let w = for_from p (for_test c e) (performed_if c third) s x (h + 1) (h + 2) d.points b in
    scope_adds ms S C d (at d.points w) (path_then (enlarges ms S C d d1 (fresh_adds ms S C 1 d)) (path_then (start_enlarges ms S C c f d1 o hf) (enlarges ms S C g w (stays_then (on_adds ms S C p g) (stays_then (begun_adds ms S C u)
    (for_adds ms S C p (for_test c e) (performed_if c third) s x (test_adds ms S C c e he) (third_adds ms S C c third h3) hs (h + 1) (h + 2) d.points b))))))

mutual
  unfolding lowered lowered_items IsStatement AreItems calls_in_statement calls_in_items times times_in

  pub statement_adds : (C : ℕ → Size → Type 0) (c : Context) (a : Around) (m : Marks) (s : StatementTree) (x : Exits) (ms : List ℕ) (S : ℕ → Type 0) → ((i : ℕ) → a.objects ≤ i → S i) → IsStatement a m s → Covers x m (λ b. times b s) ms → AllCalled C c (calls_in_statement s) → AddsTo ms S C (lowered c s x)
  statement_adds C c a m (tree.block p is) x ms S from f h k d = scope_adds ms S C d (lowered_items c is x d) (block_enlarges C c a m is x ms S from f h k d)
  statement_adds C c a m (tree.empty p) x ms S from f h k d = nothing_adds ms S C d
  statement_adds C c a m (tree.effect p e) x ms S from f h k d = stays_then (on_adds ms S C p d) (adds ms S C (on p d) (performed c e (on p d)) (effects C c e k (on p d)))
  statement_adds C c a m (tree.label p l s) x ms S from f h k d =
      stays_then (on_adds ms S C p d) (stays_then (come_adds ms S C (x.labels + l) (on p d) (h (labelled l) f.0 (λ e. let z = label_once l (times (labelled l) s) in absurd (omega (arith, e, z))))) (statement_adds C c a m s x ms S from f.1 (covers_second x m (λ b. one_if (is_label b l)) (λ b. times b s) ms h) k (come (x.labels + l) (on p d))))
  statement_adds C c a m (tree.case p i s) x ms S from f h k d =
      stays_then (on_adds ms S C p d) (stays_then (come_adds ms S C (x.cases + i) (on p d) (h (numbered i) f.0 (λ e. let z = case_once i (times (numbered i) s) in absurd (omega (arith, e, z))))) (statement_adds C c a m s x ms S from f.1 (covers_second x m (λ b. one_if (is_case b i)) (λ b. times b s) ms h) k (come (x.cases + i) (on p d))))
  statement_adds C c a m (tree.default p s) x ms S from f h k d =
      stays_then (on_adds ms S C p d) (stays_then (come_adds ms S C x.otherwise (on p d) (h otherwise f.0 (λ e. absurd (omega (arith, e))))) (statement_adds C c a m s x ms S from f.1 (covers_second x m (λ b. one_if (is_default b)) (λ b. times b s) ms h) k (come x.otherwise (on p d))))
  statement_adds C c a m (tree.if_then p e s) x ms S from f h k d =
      if_adds ms S C p (ways c e) (lowered c s x) (λ r. r) (choice_adds ms S C (ways c e) (values C c e (front_called C c (calls_in e) (calls_in_statement s) k)))
      (statement_adds C c a m s x ms S from f.1 h (back_called C c (calls_in e) (calls_in_statement s) k)) (nothing_adds ms S C) d
  statement_adds C c a m (tree.if_else p e s r) x ms S from f h k d =
      let k1 = front_called C c (calls_in e ++ calls_in_statement s) (calls_in_statement r) k in
      if_adds ms S C p (ways c e) (lowered c s x) (lowered c r x) (choice_adds ms S C (ways c e) (values C c e (front_called C c (calls_in e) (calls_in_statement s) k1)))
      (statement_adds C c a m s x ms S from f.1 (covers_first x m (λ b. times b s) (λ b. times b r) ms h) (back_called C c (calls_in e) (calls_in_statement s) k1)) (statement_adds C c _ m r x ms S (λ i o. from i (omega (arith, o))) f.2 (covers_second x m (λ b. times b s) (λ b. times b r) ms h) (back_called C c (calls_in e ++ calls_in_statement s) (calls_in_statement r) k)) d
  statement_adds C c a m (tree.switch p t e zs b s) x ms S from f h k d =
      stays_then (on_adds ms S C p d) (switch_adds ms S C (site c p) t c e zs b (lowered c s) x (values C c e (front_called C c (calls_in e) (calls_in_statement s) k))
      (λ q r. statement_adds C c a (WellTyped.in_switch (length zs) b m) s (in_switch q (length zs) x) (upto (length zs + 1) (q + 1) ++ ms) S from f.2 (covers_switch x m (λ k. times k s) ms q (length zs) b h) (back_called C c (calls_in e) (calls_in_statement s) k) r) (on p d))
  statement_adds C c a m (tree.while p e s) x ms S from f h k d =
      let o = on p d in
      stays_then (on_adds ms S C p d) (stays_then (begun_adds ms S C o)
      (while_adds ms S C (ways c e) (lowered c s) x (choice_adds ms S C (ways c e) (values C c e (front_called C c (calls_in e) (calls_in_statement s) k)))
      (λ b q r. statement_adds C c a m s (inside b q x) ms S from f.1 (covers_inside x m (λ k. times k s) ms b q h) (back_called C c (calls_in e) (calls_in_statement s) k) r) (o.points + 1) (o.points + 2) (loop_begun o)))
  statement_adds C c a m (tree.do_while p s e) x ms S from f h k d =
      let o = on p d in
      stays_then (on_adds ms S C p d) (stays_then (begun_adds ms S C o)
      (do_adds ms S C p (ways c e) (lowered c s) x (choice_adds ms S C (ways c e) (values C c e (back_called C c (calls_in_statement s) (calls_in e) k)))
      (λ b q r. statement_adds C c a m s (inside b q x) ms S from f.0 (covers_inside x m (λ k. times k s) ms b q h) (front_called C c (calls_in_statement s) (calls_in e) k) r) (o.points + 1) (o.points + 2) (loop_begun o)))
  statement_adds C c a m (tree.for_loop p g e third s) x ms S from f h k d =
      let k1 = front_called C c (calls_at_start g ++ calls_if e ++ calls_in_effect_if third) (calls_in_statement s) k in
      let k2 = front_called C c (calls_at_start g ++ calls_if e) (calls_in_effect_if third) k1 in
      stays_then (on_adds ms S C p d) (for_draft_adds ms S C p c g e third (lowered c s) x (start_among S a g f.0 from) (front_called C c (calls_at_start g) (calls_if e) k2) (back_called C c (calls_at_start g) (calls_if e) k2)
      (back_called C c (calls_at_start g ++ calls_if e) (calls_in_effect_if third) k1)
      (λ b q r. statement_adds C c _ m s (inside b q x) ms S (λ i o. from i (omega (arith, o))) f.3 (covers_inside x m (λ k. times k s) ms b q h) (back_called C c (calls_at_start g ++ calls_if e ++ calls_in_effect_if third) (calls_in_statement s) k) r) (on p d))
  statement_adds C c a m (tree.goto p l) x ms S from f h k d = stays_then (on_adds ms S C p d) (away_adds ms S C (x.labels + l) (on p d))
  statement_adds C c a m (tree.continue p) x ms S from f h k d = stays_then (on_adds ms S C p d) (away_adds ms S C x.continued (on p d))
  statement_adds C c a m (tree.break p) x ms S from f h k d = stays_then (on_adds ms S C p d) (away_adds ms S C x.broken (on p d))
  statement_adds C c a m (tree.return p e) x ms S from f h k d = stays_then (on_adds ms S C p d) (returned_adds ms S C c x.left c.returns e k (on p d))

  pub block_enlarges : (C : ℕ → Size → Type 0) (c : Context) (a : Around) (m : Marks) (is : ItemTrees) (x : Exits) (ms : List ℕ) (S : ℕ → Type 0) → ((i : ℕ) → a.objects ≤ i → S i) → AreItems a m is → Covers x m (λ b. times_in b is) ms → AllCalled C c (calls_in_items is) → (d : Draft) → Enlarges ms S C d (lowered_items c is x d)
  block_enlarges C c a m tree.no_items x ms S from f h k d = enlarges ms S C d d (nothing_adds ms S C d)
  block_enlarges C c a m (tree.declared_before v is) x ms S from f h k d =
      path_then (declared_enlarges ms S C c v d (declared_among S a v f.0 from) (front_called C c (calls_in_declared v) (calls_in_items is) k)) (block_enlarges C c _ m is x ms S (λ i o. from i (omega (arith, o))) f.1 h (back_called C c (calls_in_declared v) (calls_in_items is) k) (declared c v d))
  block_enlarges C c a m (tree.statement_before s is) x ms S from f h k d =
      path_then (enlarges ms S C d (lowered c s x d) (statement_adds C c a m s x ms S from f.0 (covers_first x m (λ b. times b s) (λ b. times_in b is) ms h) (front_called C c (calls_in_statement s) (calls_in_items is) k) d))
      (block_enlarges C c _ m is x ms S (λ i o. from i (omega (arith, o))) f.1 (covers_second x m (λ b. times b s) (λ b. times_in b is) ms h) (back_called C c (calls_in_statement s) (calls_in_items is) k) (lowered c s x d))

-- with all marks of the function and of the switch at hand
pub statement : (C : ℕ → Size → Type 0) (c : Context) (a : Around) (m : Marks) (s : StatementTree) (x : Exits) (ms : List ℕ) (S : ℕ → Type 0) → ((i : ℕ) → a.objects ≤ i → S i) → IsStatement a m s → Marking x m ms → AllCalled C c (calls_in_statement s) → AddsTo ms S C (lowered c s x)
statement C c a m s x ms S from f h k = statement_adds C c a m s x ms S from f (covers_all x m (λ b. times b s) ms h) k

pub block : (C : ℕ → Size → Type 0) (c : Context) (a : Around) (m : Marks) (is : ItemTrees) (x : Exits) (ms : List ℕ) (S : ℕ → Type 0) → ((i : ℕ) → a.objects ≤ i → S i) → AreItems a m is → Marking x m ms → AllCalled C c (calls_in_items is) → (d : Draft) → Enlarges ms S C d (lowered_items c is x d)
block C c a m is x ms S from f h k = block_enlarges C c a m is x ms S from f (covers_all x m (λ b. times_in b is) ms h) k
