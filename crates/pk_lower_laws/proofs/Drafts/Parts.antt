-- The part of a path: parameters, result, body.
use Rattle.std.proofs.Common.{◌≡◌, ℕ, zero, suc, ◌+◌, ◌<◌, ◌≤◌, Bool, true, false, inl, inr, List, [], ◌∷◌, ◌++◌, Option, Some, None, length, refl, ap, sym, subst, ◌∙◌, arith, slice_set, length-append, if◌then◌else◌}
use Rattle.std.proofs.lemmas.List.{get_or-set_same, get_or-set_other, length-set}
use Rattle.std.proofs.lemmas.Bool.{false≢true}
use Rattle.std.specs.Prelude.{pos, slice_get}
use Rattle.std.specs.Option.{option_map}
use Rattle.pk_ctypes.specs.declared.types.IntType.{IntType}
use Rattle.pk_ctypes.proofs.Wrapped.{zero_in}
use Rattle.pk_typed.specs.Trees.{LocalTree, BodyTree, FunctionTree}
use Rattle.pk_calls.specs.declared.listings.Caller.{Caller}
use Rattle.pk_graph.specs.Kinds.{Kind, count_of, scalar_kind}
use Rattle.pk_graph.specs.Trees.{constant, Set, Havoc}
use Rattle.pk_graph.specs.Graphs.{VariableOf, no_variable}
use Rattle.pk_graph.specs.WellMade.{IsStartOf}
use Rattle.pk_draft.specs.declared.drafts.Region.{Region}
use Rattle.pk_draft.specs.declared.drafts.Label.{Label}
use Rattle.pk_draft.specs.Drafts.{DraftOf, begun_at, on, standing, placed, fresh, inner, with_object, emit}
use Rattle.pk_lower_row.specs.Contexts.{own_result, local_at}
use Rattle.pk_lower_statement.specs.Statements as form
use Rattle.pk_lower_statement.specs.Statements.{lowered_items}
use Rattle.pk_lower.specs.Parts as part
use Rattle.pk_welltyped.specs.Listed.{calls_in_items, objects_in_items}
use Rattle.pk_welltyped.specs.WellTyped.{AreParameters, AreItems, kind_among}
use Rattle.pk_lower_laws.proofs.Drafts.Places.{D, Place, Has, inner_object, outer_object, IsObjectOf, Stage, ResultIs, own_number, ObjectsForeseen, Proper, Below, Before, Step, step_for, step_beside, variable_in, quiet, same_scopes}
use Rattle.pk_lower_laws.proofs.Drafts.Verbs.{with_objects, within, typed_standing, typed_placed, object_step, result_step, fresh_step}
use Rattle.pk_lower_laws.proofs.Drafts.Trees.{constant_is}
use Rattle.pk_lower_laws.proofs.Drafts.Rows.{Works, idle, seen, type_is, set_is, inner_start, then_emit}
use Rattle.pk_lower_laws.proofs.Drafts.Expressions.{CallsAre, around}
use Rattle.pk_lower_laws.proofs.Drafts.Chains.{chain, run, use_it, given, on_step, go_step, named_step}
use Rattle.pk_lower_laws.proofs.Drafts.Declarations.{more}
use Rattle.pk_lower_laws.proofs.Drafts.Statements.{ExitsAre, items, result_there}

-- ---- parameters

-- parameters of the types are the objects from number i on
abbrev pub ParametersAt : List LocalTree → ℕ → List IntType → Type 0
ParametersAt xs i [] = Unit {0}
ParametersAt xs i (t ∷ ts) = (kind_among xs i ≡ Some (scalar_kind t)) × ParametersAt xs (i + 1) ts

-- there are no more of them than objects
few_parameters : (xs : List LocalTree) (i : ℕ) (ts : List IntType) → i ≤ length xs → ParametersAt xs i ts → i + length ts ≤ length xs
few_parameters xs i [] l h = omega (l, arith)
few_parameters xs i (t ∷ ts) l h = let b = within xs i h.0 in let r = few_parameters xs (i + 1) ts (omega (b, arith)) h.1 in omega (r, arith)

nth : (pre : List LocalTree) (x : LocalTree) (xs : List LocalTree) → slice_get (pre ++ x ∷ xs) (length pre) ≡ Some x
nth [] x xs = refl
nth (y ∷ pre) x xs = nth pre x xs

append_one : (pre : List LocalTree) (x : LocalTree) (xs : List LocalTree) → (pre ++ x ∷ []) ++ xs ≡ pre ++ x ∷ xs
append_one [] x xs = refl
append_one (y ∷ pre) x xs = ap (λ (l : List LocalTree). y ∷ l) (append_one pre x xs)

parameters_from : (pre xs : List LocalTree) (ts : List IntType) → AreParameters ts xs → ParametersAt (pre ++ xs) (length pre) ts
parameters_from pre xs [] h = tt
parameters_from pre [] (t ∷ ts) h = absurd h
parameters_from pre (x ∷ xs) (t ∷ ts) h =
    let is : kind_among (pre ++ x ∷ xs) (length pre) ≡ Some (scalar_kind t) =
    ap (option_map (λ (y : LocalTree). record { int_type = y.int_type; length = y.length })) (nth pre x xs)
    ∙ (ap (λ (u : IntType). Some (record { int_type = u; length = x.length })) h.0 ∙ ap (λ (n : Option ℕ). Some (record { int_type = t; length = n })) h.1) in (
      is,
      subst (λ (l : List LocalTree). ParametersAt l (length pre + 1) ts) (append_one pre x xs)
          (subst (λ (i : ℕ). ParametersAt ((pre ++ x ∷ []) ++ xs) i ts) (length-append pre (x ∷ [])) (parameters_from (pre ++ x ∷ []) xs ts h.2)),
    )

pub parameters_at : (xs : List LocalTree) (ts : List IntType) → AreParameters ts xs → ParametersAt xs 0 ts
parameters_at xs ts h = parameters_from [] xs ts h

-- what a parameter is as a variable, where a call or nothing enters the part
abbrev pub parameter_in : List LocalTree → (path : ℕ) → Option Caller → ℕ → VariableOf
parameter_in xs k None i = outer_object xs k i
parameter_in xs k (Some c) i = inner_object xs k i

-- parameters from number i on have been made, as variables from y on; and the result
abbrev pub AreWritten : List LocalTree → (path : ℕ) → Option Caller → List VariableOf → (i y : ℕ) → List IntType → Type 0
AreWritten xs k from ms i y [] = Unit {0}
AreWritten xs k from ms i y (t ∷ ts) = (variable_in ms y ≡ parameter_in xs k from i) × AreWritten xs k from ms (i + 1) (y + 1) ts

abbrev pub IsWrittenIf : ℕ → List VariableOf → ℕ → Option IntType → Type 0
IsWrittenIf k ms y None = Unit {0}
IsWrittenIf k ms y (Some t) = variable_in ms y ≡ inner None t None k

abbrev pub Stays : List VariableOf → List VariableOf → Type 0
Stays ms ns = (y k : ℕ) → (variable_in ms y).path ≡ Some k → variable_in ns y ≡ variable_in ms y

pub parameter_path : (xs : List LocalTree) (k : ℕ) (from : Option Caller) (i : ℕ) → (parameter_in xs k from i).path ≡ Some k
parameter_path xs k None i = refl
parameter_path xs k (Some c) i = refl

written_stays : (ms ns : List VariableOf) (y k : ℕ) (x : VariableOf) → Stays ms ns → x.path ≡ Some k → variable_in ms y ≡ x → variable_in ns y ≡ x
written_stays ms ns y k x s q h = s y k (ap (λ (v : VariableOf). v.path) h ∙ q) ∙ h

pub all_stay : (xs : List LocalTree) (k : ℕ) (from : Option Caller) (ms ns : List VariableOf) (i y : ℕ) (ts : List IntType) → Stays ms ns → AreWritten xs k from ms i y ts → AreWritten xs k from ns i y ts
all_stay xs k from ms ns i y [] s h = tt
all_stay xs k from ms ns i y (t ∷ ts) s h = (written_stays ms ns y k (parameter_in xs k from i) s (parameter_path xs k from i) h.0, all_stay xs k from ms ns (i + 1) (y + 1) ts s h.1)

pub if_stays : (k : ℕ) (ms ns : List VariableOf) (y : ℕ) (t : Option IntType) → Stays ms ns → IsWrittenIf k ms y t → IsWrittenIf k ns y t
if_stays k ms ns y None s h = tt
if_stays k ms ns y (Some t) s h = written_stays ms ns y k (inner None t None k) s refl h

-- one parameter
abbrev parameter_variable : (w : Place) → Option Caller → ℕ → VariableOf
parameter_variable w from i = parameter_in w.context.locals w.context.path from i

-- where nothing enters the part its parameters get their values from outside
abbrev pub ComeFromOutside : Place → Option Caller → (i : ℕ) → List IntType → Type 0
ComeFromOutside w from i [] = Unit {0}
ComeFromOutside w from i (t ∷ ts) = (from ≡ None → w.FromOutside i) × ComeFromOutside w from (i + 1) ts

pub object_is : (w : Place) (from : Option Caller) (i : ℕ) → (from ≡ None → w.FromOutside i) → IsObjectOf w i (parameter_variable w from i)
object_is w None i h = inr (h refl, refl)
object_is w (Some c) i h = inl refl

introduced : (w : Place) (from : Option Caller) (i : ℕ) (d : D w) → part.introduced_parameter w.context from i d ≡ form.named (local_at w.context i).name d.variables (with_object i (parameter_variable w from i) d)
introduced w None i d = refl
introduced w (Some c) i d = refl

its_start : (w : Place) (from : Option Caller) (i : ℕ) → IsStartOf (parameter_variable w from i) (parameter_variable w from i).start
its_start w None i = tt
its_start w (Some c) i = let x = local_at w.context i in inner_start x.name x.int_type x.length w.context.path

named_made : (w : Place) (name : Option (List ℕ)) (x : ℕ) (d : D w) → ((form.named name x d).made ≡ d.made) × ((form.named name x d).variables ≡ d.variables)
named_made w None x d = (refl, refl)
named_made w (Some n) x d = (refl, refl)

parameter_step : (w : Place) → Proper w → (s : Stage) (from : Option Caller) (t : IntType) → kind_among w.context.locals s.objects ≡ Some (scalar_kind t) → (from ≡ None → w.FromOutside s.objects) → (d : D w)
    → Step w 0 0 s (more 1 s) d (part.introduced_parameter w.context from s.objects d) (Unit {0}) (Unit {0})
parameter_step w g s from t k o d =
    let i = s.objects in
    let v = parameter_variable w from i in
    subst (λ (e : D w). Step w 0 0 s (more 1 s) d e (Unit {0}) (Unit {0})) (sym (introduced w from i d))
    (chain (object_step w g 0 s v d (parameter_path w.context.locals w.context.path from i) (its_start w from i) (scalar_kind t) k (omega arith) (object_is w from i o)) (named_step w 0 (more 1 s) (local_at w.context i).name d.variables (with_object i v d)))

parameter_variables : (w : Place) (from : Option Caller) (i : ℕ) (d : D w) → (part.introduced_parameter w.context from i d).variables ≡ d.variables + 1
parameter_variables w from i d = ap (λ (q : D w). q.variables) (introduced w from i d) ∙ (named_made w (local_at w.context i).name d.variables (with_object i (parameter_variable w from i) d)).1

parameter_written : (w : Place) (from : Option Caller) (i : ℕ) (d : D w) → d.variables < length d.made
    → (variable_in (part.introduced_parameter w.context from i d).made d.variables ≡ parameter_variable w from i) × ((part.introduced_parameter w.context from i d).variables ≡ d.variables + 1)
parameter_written w from i d l =
    let v = parameter_variable w from i in
    let e = with_object i v d in
    let n = named_made w (local_at w.context i).name d.variables e in
    let made : (part.introduced_parameter w.context from i d).made ≡ slice_set d.made d.variables v = ap (λ (q : D w). q.made) (introduced w from i d) ∙ n.0 in
    (ap (λ (ms : List VariableOf). variable_in ms d.variables) made ∙ get_or-set_same d.made d.variables v no_variable l, ap (λ (q : D w). q.variables) (introduced w from i d) ∙ n.1)

to_objects : (w : Place) (s : Stage) (j k : ℕ) (d e : D w) → j ≡ k → Step w 0 0 s (with_objects j s) d e (Unit {0}) (Unit {0}) → Step w 0 0 s (with_objects k s) d e (Unit {0}) (Unit {0})
to_objects w s j k d e q h = subst (λ (i : ℕ). Step w 0 0 s (with_objects i s) d e (Unit {0}) (Unit {0})) q h

pub parameters_step : (w : Place) → Proper w → (s : Stage) (from : Option Caller) (ts : List IntType) → ParametersAt w.context.locals s.objects ts → ComeFromOutside w from s.objects ts → (d : D w)
    → Step w 0 0 s (more (length ts) s) d (part.all_introduced w.context from s.objects ts d) (Unit {0}) (Unit {0})
unfolding part.all_introduced
parameters_step w g s from [] h u d = let same : s.objects ≡ s.objects + 0 = omega arith in to_objects w s s.objects (s.objects + 0) d d same (idle w 0 s d (Unit {0}))
parameters_step w g s from (t ∷ ts) h u d =
    let same : s.objects + 1 + length ts ≡ s.objects + length (t ∷ ts) = omega arith in
    let e = part.introduced_parameter w.context from s.objects d in
    to_objects w s (s.objects + 1 + length ts) (s.objects + length (t ∷ ts)) d (part.all_introduced w.context from (s.objects + 1) ts e) same
    (chain (parameter_step w g s from t h.0 u.0 d) (parameters_step w g (more 1 s) from ts h.1 u.1 e))

pub parameters_written : (w : Place) → Proper w → (s : Stage) (from : Option Caller) (ts : List IntType) → ParametersAt w.context.locals s.objects ts → ComeFromOutside w from s.objects ts → (d : D w) → Before w 0 0 d
    → Below w (part.all_introduced w.context from s.objects ts d)
    → AreWritten w.context.locals w.context.path from (part.all_introduced w.context from s.objects ts d).made s.objects d.variables ts × ((part.all_introduced w.context from s.objects ts d).variables ≡ d.variables + length ts)
unfolding part.all_introduced
parameters_written w g s from [] h u d b y = (tt, omega arith)
parameters_written w g s from (t ∷ ts) h u d b y =
    let e = part.introduced_parameter w.context from s.objects d in
    let rest = parameters_step w g (more 1 s) from ts h.1 u.1 e in
    let be : Below w e = (omega (rest.variables, y.0, arith), omega (rest.points, y.1, arith), omega (rest.points, y.2, arith)) in
    let one = parameter_step w g s from t h.0 u.0 d in
    let a = one.after b be in
    let at_e : Before w 0 0 e = record { laid = a.laid; not_made = λ i l m. absurd (omega (m, arith)); positive = omega (b.positive, one.points, arith); files = omega (b.files, one.variables, arith); slots = a.slots ∙ b.slots } in
    let first_be : d.variables + 1 ≤ w.limit = omega (parameter_variables w from s.objects d, be.0, arith) in
    let first = parameter_written w from s.objects d (omega (first_be, g.limit, b.laid.many, arith)) in
    let all = parameters_written w g (more 1 s) from ts h.1 u.1 e at_e y in
    let path = parameter_path w.context.locals w.context.path from s.objects in (
      (
        written_stays e.made (part.all_introduced w.context from (s.objects + 1) ts e).made d.variables w.context.path (parameter_variable w from s.objects) (rest.after at_e y).old path first.0,
        subst (λ (v : ℕ). AreWritten w.context.locals w.context.path from (part.all_introduced w.context from (s.objects + 1) ts e).made (s.objects + 1) v ts) first.1 all.0,
      ),
      omega (all.1, first.1, arith),
    )

-- the variables of the parameters follow one another
introduced_objects : (w : Place) (from : Option Caller) (i : ℕ) (d : D w) → (part.introduced_parameter w.context from i d).objects ≡ slice_set d.objects i d.variables
introduced_objects w from i d = ap (λ (q : D w). q.objects) (introduced w from i d) ∙ by (local_at w.context i).name (with_object i (parameter_variable w from i) d) where
  by : (name : Option (List ℕ)) (e : D w) → (form.named name d.variables e).objects ≡ e.objects
  by None e = refl
  by (Some name) e = refl

introduced_before : (w : Place) (from : Option Caller) (i : ℕ) (ts : List IntType) (d : D w) (j : ℕ) → j < i → own_number (part.all_introduced w.context from i ts d).objects j ≡ own_number d.objects j
unfolding part.all_introduced
introduced_before w from i [] d j l = refl
introduced_before w from i (t ∷ ts) d j l =
    introduced_before w from (i + 1) ts (part.introduced_parameter w.context from i d) j (omega (l, arith))
    ∙ (ap (λ (os : List ℕ). own_number os j) (introduced_objects w from i d) ∙ get_or-set_other d.objects i j d.variables 0 (λ e. absurd (omega (e, l, arith))))

introduced_number : (w : Place) (from : Option Caller) (i : ℕ) (ts : List IntType) (d : D w) (j : ℕ) → j < length ts → i + length ts ≤ length d.objects → own_number (part.all_introduced w.context from i ts d).objects (i + j) ≡ d.variables + j
unfolding part.all_introduced
introduced_number w from i [] d j l m = absurd (omega (l, arith))
introduced_number w from i (t ∷ ts) d zero l m =
    let at : i + zero ≡ i = omega arith in
    ap (own_number (part.all_introduced w.context from (i + 1) ts (part.introduced_parameter w.context from i d)).objects) at
    ∙ (introduced_before w from (i + 1) ts (part.introduced_parameter w.context from i d) i (omega arith)
    ∙ (ap (λ (os : List ℕ). own_number os i) (introduced_objects w from i d) ∙ (get_or-set_same d.objects i d.variables 0 (omega (m, arith)) ∙ omega arith)))
introduced_number w from i (t ∷ ts) d (suc j) l m =
    let at : i + suc j ≡ i + 1 + j = omega arith in
    let e = part.introduced_parameter w.context from i d in
    let many : length e.objects ≡ length d.objects = ap length (introduced_objects w from i d) ∙ length-set d.objects i d.variables in
    let v = parameter_variables w from i d in
    let r = introduced_number w from (i + 1) ts e j (omega (l, arith)) (omega (m, many, arith)) in
    ap (own_number (part.all_introduced w.context from (i + 1) ts e).objects) at ∙ (r ∙ omega (v, arith))

-- ---- a whole part

abbrev start : Stage
start = record { objects = 0; result = None }

with_result_step : (w : Place) → Proper w → (n : ℕ) (t : Option IntType) (d : D w) → n ≤ length w.context.locals → t ≡ w.context.returns → Step w 0 0 (record { objects = n; result = None }) (record { objects = n; result = t }) d (part.with_result w.context t d) (Unit {0}) (Unit {0})
with_result_step w g n None d l r = idle w 0 (record { objects = n; result = None }) d (Unit {0})
with_result_step w g n (Some t) d l r = result_step w g 0 n t d l (sym r)

result_written : (w : Place) → Proper w → (t : Option IntType) (d : D w) → length d.made ≡ length w.kinds → Below w (part.with_result w.context t d) → IsWrittenIf w.context.path (part.with_result w.context t d).made d.variables t
result_written w g None d m y = tt
result_written w g (Some t) d m y = get_or-set_same d.made d.variables (inner None t None w.context.path) no_variable (omega (m, y.0, g.limit, arith))

entry_step : (w : Place) → Proper w → (s : Stage) (from : Option Caller) (d : D w) → Step w 0 0 s s d (part.placed_entry from d) (Unit {0}) (Unit {0})
entry_step w g s None d = quiet w 0 s d (placed d.point d) (Unit {0}) (Unit {0}) refl refl refl refl (λ z. z) (same_scopes _ _ refl) (omega arith) (λ o b z t q. (typed_placed w g s d.point d t, tt))
entry_step w g s (Some c) d = idle w 0 s d (Unit {0})

ended_works : (w : Place) → Proper w → (m : ℕ) (s : Stage) (name : List ℕ) (t : Option IntType) → s.result ≡ t → Works w m m s (part.ended w.context name t)
ended_works w g m s name None h d = idle w m s d (Unit {0})
ended_works w g m s name (Some t) h d =
    let y = own_result w.context d in
    let k = Has w.table y t None in
    let a = emit (Set y (constant t (pos 0))) d in
    let b = emit (Havoc y t 1) d in
    let known = seen w m s d (Unit {0}) k (λ z q. result_there w s t d h z) in
    let set : Step w m m s s d a (Unit {0}) (Unit {0}) = given (Unit {0}) (λ (q : k). tt) (then_emit w g m m s d d (Set y (constant t (pos 0))) (Unit {0}) k known (λ q. set_is w.table y t (constant t (pos 0)) q (constant_is w.table t (pos 0) (record { from = (zero_in t).0; to = (zero_in t).1 })))) in
    let havoc : Step w m m s s d b (Unit {0}) (Unit {0}) = given (Unit {0}) (λ (q : k). tt) (then_emit w g m m s d d (Havoc y t 1) (Unit {0}) k known (λ q. (q.there, type_is w.table y t None q, ap (λ (z : Kind). count_of z.length) q.kind))) in
    chosen (part.is_main name) a b set havoc
  where
    chosen : (c : Bool) (x y : D w) → Step w m m s s d x (Unit {0}) (Unit {0}) → Step w m m s s d y (Unit {0}) (Unit {0}) → Step w m m s s d (if c then x else y) (Unit {0}) (Unit {0})
    chosen true x y h k = h
    chosen false x y h k = k

-- the draft where the exit and the labels are made
abbrev pub with_exits : {V : Type 0} → BodyTree → DraftOf V → DraftOf V
with_exits b d = fresh (b.labels + 1) d

exits_are : (w : Place) (g : FunctionTree) (b : BodyTree) (d : D w) → d.points + (b.labels + 1) ≤ w.points → ExitsAre w (record { labels = b.labels; returns = g.returns; cases = 0; has_default = false }) (part.start_exits d.points)
exits_are w g b d h = record {
  broken = omega (h, arith);
  continued = omega (h, arith);
  left = omega (h, arith);
  labels = λ l k. omega (h, k, arith);
  cases = λ i k. absurd (omega (k, arith));
  otherwise = λ k. absurd (false≢true k);
}

standing_step : (w : Place) (m : ℕ) (s : Stage) (l : Label) (d : D w) → Step w m m s s d (standing l d) ((l.path ≡ w.context.path) × (l.scope ≤ length d.scopes)) (Unit {0})
standing_step w m s l d = quiet w m s d (standing l d) ((l.path ≡ w.context.path) × (l.scope ≤ length d.scopes)) (Unit {0}) refl refl refl refl (λ z. z) (same_scopes _ _ refl) (omega arith) (λ o b z t k. (typed_standing w s l d (k.0 ∙ sym t.here) k.1 t, tt))

-- from the exit on
abbrev BodySteps : (w : Place) → ℕ → Stage → Stage → FunctionTree → BodyTree → D w → Type 0
BodySteps w n s u g b d = Step w 0 n s u (with_exits b d) (part.body_draft w.context g b d) ((d.points + (b.labels + 1) ≤ w.points) × (d.here.path ≡ w.context.path) × (d.here.scope ≤ length d.scopes)) (Unit {0})

body_steps : (w : Place) → Proper w → (n : ℕ) (s : Stage) (g : FunctionTree) (b : BodyTree) → s.result ≡ w.context.returns → g.returns ≡ w.context.returns → AreItems (around w s) (record { labels = b.labels; returns = g.returns; cases = 0; has_default = false }) b.items
    → CallsAre w 0 (calls_in_items b.items) n → (d : D w) → BodySteps w n s (more (objects_in_items b.items) s) g b d
unfolding part.body_draft
body_steps w p n s g b r q h c d =
    let u = more (objects_in_items b.items) s in
    let R = (d.points + (b.labels + 1) ≤ w.points) × (d.here.path ≡ w.context.path) × (d.here.scope ≤ length d.scopes) in
    let d1 = with_exits b d in
    let d2 = lowered_items w.context b.items (part.start_exits d.points) d1 in
    let d3 = standing d.here d2 in
    let d4 = on b.closed d3 in
    let d5 = part.ended w.context g.name g.returns d4 in
    let begin = fresh_step w p 0 (b.labels + 1) s d in
    let body = items w p 0 n s (record { labels = b.labels; returns = g.returns; cases = 0; has_default = false }) r q b.items h c (part.start_exits d.points) d1 in
    chain (chain (chain (chain (use_it R (λ z. exits_are w g b d z.0) body)
    (use_it R (λ z. (z.1, let x = begin.scopes.many in let y = body.scopes.many in let k = z.2 in omega (x, y, k, arith))) (standing_step w n u d.here d2))) (run R (on_step w n u b.closed d3))) (run R (ended_works w p n u g.name g.returns (r ∙ sym q) d4))) (given (Unit {0}) (λ z. tt) (use_it R (λ z. omega (z.0, arith)) (go_step w n u d.points d5)))

-- where a part begins
abbrev pub begun_here : (w : Place) → BodyTree → Region → D w → D w
begun_here w b r d = begun_at r (record { at = b.opened; path = w.context.path; scope = b.visible }) (length w.context.locals + 1) d

-- a part of a body that is well typed
pub record PartIs (w : Place) (n : ℕ) (g : FunctionTree) (b : BodyTree) (from : Option Caller) : Type 0 where
  pub proper : Proper w
  pub locals : w.context.locals ≡ b.locals
  pub returns : g.returns ≡ w.context.returns
  pub parameters : ParametersAt w.context.locals 0 g.parameters
  pub outside : ComeFromOutside w from 0 g.parameters
  pub items : AreItems (record { unit = w.context.unit; locals = w.context.locals; objects = length g.parameters }) (record { labels = b.labels; returns = g.returns; cases = 0; has_default = false }) b.items
  pub calls : CallsAre w 0 (calls_in_items b.items) n

abbrev pub made_part : (w : Place) → FunctionTree → BodyTree → Option Caller → Region → D w → D w
made_part w g b from r d = part.body_draft w.context g b (part.placed_entry from (part.begun w.context g b from r d))

abbrev pub ends : FunctionTree → BodyTree → Stage
ends g b = record { objects = length g.parameters + objects_in_items b.items; result = g.returns }

pub part_step : (w : Place) (n : ℕ) (g : FunctionTree) (b : BodyTree) → (from : Option Caller) → PartIs w n g b from → (r : Region) (d : D w) → Step w 0 n start (ends g b) (begun_here w b r d) (made_part w g b from r d) (Unit {0}) (Unit {0})
part_step w n g b from h r d =
    let p = h.proper in
    let k = length g.parameters in
    let d0 = begun_here w b r d in
    let d1 = part.all_introduced w.context from 0 g.parameters d0 in
    let d2 = part.with_result w.context g.returns d1 in
    let d3 = part.placed_entry from d2 in
    let d4 = with_exits b d3 in
    let s : Stage = record { objects = k; result = g.returns } in
    let few = d3.points + (b.labels + 1) ≤ w.points in
    let named = (d3.here.path ≡ w.context.path) × (d3.here.scope ≤ length d3.scopes) in
    let zero_more : 0 + k ≡ k = omega arith in
    let one = to_objects w start (0 + k) k d0 d1 zero_more (parameters_step w p start from g.parameters h.parameters h.outside d0) in
    let two = chain one (with_result_step w p k g.returns d1 (let z = few_parameters w.context.locals 0 g.parameters (omega arith) h.parameters in omega (z, arith)) h.returns) in
    let three = chain two (entry_step w p s from d2) in
    let four = chain three (chain (seen w 0 s d3 (Unit {0}) named (λ t q. (t.here, t.scope))) (step_for w 0 0 s s d3 d4 (Unit {0} × named) (few × named) named (few × (d3.here.path ≡ w.context.path) × (d3.here.scope ≤ length d3.scopes)) (λ z. (tt, z)) (λ z. (z.0, z.1.0, z.1.1)) (step_beside w 0 0 s s d3 d4 (Unit {0}) few named (fresh_step w p 0 (b.labels + 1) s d3)))) in
    chain four (body_steps w p n s g b h.returns h.returns h.items h.calls d3)

-- ---- what a part makes of its parameters and its result

pub before_next : (w : Place) (n : ℕ) (i j : Stage) (d e : D w) → Step w 0 0 i j d e (Unit {0}) (Unit {0}) → Before w 0 n d → Below w e → Before w 0 n e
before_next w n i j d e s b y =
    let one : Before w 0 0 d = record { laid = b.laid; not_made = λ q l m. absurd (omega (m, arith)); positive = b.positive; files = b.files; slots = b.slots } in
    let a = s.after one y in
    record {
      laid = a.laid;
      not_made = λ q l m k. b.not_made q l m (subst (λ (r : Region). 0 < r.points) (a.same (w.context.first + q) (inr (omega arith))) k);
      positive = omega (b.positive, s.points, arith);
      files = omega (b.files, s.variables, arith);
      slots = a.slots ∙ b.slots;
    }

pub record PartMade (w : Place) (n : ℕ) (g : FunctionTree) (b : BodyTree) (from : Option Caller) (r : Region) (d : D w) : Type 0 where
  pub parameters : AreWritten w.context.locals w.context.path from (made_part w g b from r d).made 0 r.variables g.parameters
  pub result : IsWrittenIf w.context.path (made_part w g b from r d).made (r.variables + length g.parameters) g.returns
  pub declared : length g.parameters ≤ w.ends.objects
  pub numbers : (i : ℕ) → i < length g.parameters → w.ends.numbers i ≡ r.variables + i
  pub result_number : ResultIs g.returns (λ y. w.ends.result ≡ y) (r.variables + length g.parameters)

pub part_points : (w : Place) (n : ℕ) (g : FunctionTree) (b : BodyTree) → (from : Option Caller) → PartIs w n g b from → (r : Region) (d : D w) → r.points + 1 ≤ (made_part w g b from r d).points
part_points w n g b from h r d =
    let p = h.proper in
    let k = length g.parameters in
    let d0 = begun_here w b r d in
    let d1 = part.all_introduced w.context from 0 g.parameters d0 in
    let d2 = part.with_result w.context g.returns d1 in
    let d3 = part.placed_entry from d2 in
    let s : Stage = record { objects = k; result = g.returns } in
    let one = parameters_step w p start from g.parameters h.parameters h.outside d0 in
    let two = with_result_step w p k g.returns d1 (let z = few_parameters w.context.locals 0 g.parameters (omega arith) h.parameters in omega (z, arith)) h.returns in
    let three = entry_step w p s from d2 in
    let last = body_steps w p n s g b h.returns h.returns h.items h.calls d3 in
    omega (one.points, two.points, three.points, last.points, arith)

result_at : (w : Place) (t : Option IntType) (d : D w) (v : ℕ) → d.variables ≡ v → length d.objects ≡ length w.context.locals + 1
    → ResultIs t (λ y. w.ends.result ≡ y) (own_number (part.with_result w.context t d).objects (length w.context.locals)) → ResultIs t (λ y. w.ends.result ≡ y) v
result_at w None d v e n h = tt
result_at w (Some t) d v e n h = h ∙ (get_or-set_same d.objects (length w.context.locals) d.variables 0 (omega (n, arith)) ∙ e)

pub part_made : (w : Place) (n : ℕ) (g : FunctionTree) (b : BodyTree) → (from : Option Caller) → PartIs w n g b from → (r : Region) (d : D w) → Before w 0 n (begun_here w b r d) → Below w (made_part w g b from r d)
    → ObjectsForeseen w (ends g b) (made_part w g b from r d).variables (made_part w g b from r d).objects → PartMade w n g b from r d
part_made w n g b from h r d x y o =
    let p = h.proper in
    let k = length g.parameters in
    let d0 = begun_here w b r d in
    let d1 = part.all_introduced w.context from 0 g.parameters d0 in
    let d2 = part.with_result w.context g.returns d1 in
    let d3 = part.placed_entry from d2 in
    let d4 = with_exits b d3 in
    let e = made_part w g b from r d in
    let s : Stage = record { objects = k; result = g.returns } in
    let few = d3.points + (b.labels + 1) ≤ w.points in
    let named = (d3.here.path ≡ w.context.path) × (d3.here.scope ≤ length d3.scopes) in
    let zero_more : 0 + k ≡ k = omega arith in
    let one = to_objects w start (0 + k) k d0 d1 zero_more (parameters_step w p start from g.parameters h.parameters h.outside d0) in
    let two = with_result_step w p k g.returns d1 (let z = few_parameters w.context.locals 0 g.parameters (omega arith) h.parameters in omega (z, arith)) h.returns in
    let three = entry_step w p s from d2 in
    let four = chain (seen w 0 s d3 (Unit {0}) named (λ t q. (t.here, t.scope))) (step_for w 0 0 s s d3 d4 (Unit {0} × named) (few × named) named (few × (d3.here.path ≡ w.context.path) × (d3.here.scope ≤ length d3.scopes)) (λ z. (tt, z)) (λ z. (z.0, z.1.0, z.1.1)) (step_beside w 0 0 s s d3 d4 (Unit {0}) few named (fresh_step w p 0 (b.labels + 1) s d3))) in
    let from_two = chain three (chain four (body_steps w p n s g b h.returns h.returns h.items h.calls d3)) in
    let from_one = chain two from_two in
    let y2 : Below w d2 = (omega (from_two.variables, y.0, arith), omega (from_two.points, y.1, arith), omega (from_two.points, y.2, arith)) in
    let y1 : Below w d1 = (omega (from_one.variables, y.0, arith), omega (from_one.points, y.1, arith), omega (from_one.points, y.2, arith)) in
    let x1 = before_next w n start (record { objects = k; result = None }) d0 d1 one x y1 in
    let x2 = before_next w n (record { objects = k; result = None }) s d1 d2 two x1 y2 in
    let x0 : Before w 0 0 d0 = record { laid = x.laid; not_made = λ q l m. absurd (omega (m, arith)); positive = x.positive; files = x.files; slots = x.slots } in
    let wr = parameters_written w p start from g.parameters h.parameters h.outside d0 x0 y1 in
    let few = few_parameters w.context.locals 0 g.parameters (omega arith) h.parameters in
    let o1 = from_one.objects x1 y o in
    let o2 = from_two.objects x2 y o in
    record {
      declared = o1.declared;
      numbers = λ i l.
          let zero_more : 0 + i ≡ i = omega arith in
          o1.objects i l ∙ (ap (own_number d1.objects) (sym zero_more) ∙ introduced_number w from 0 g.parameters d0 i l (omega (few, x.slots, arith)));
      result_number = result_at w g.returns d1 (r.variables + k) wr.1 x1.slots o2.result;
      parameters = all_stay w.context.locals w.context.path from d1.made e.made 0 r.variables g.parameters (from_one.after x1 y).old wr.0;
      result = if_stays w.context.path d2.made e.made (r.variables + k) g.returns (from_two.after x2 y).old (subst (λ (v : ℕ). IsWrittenIf w.context.path d2.made v g.returns) wr.1 (result_written w p g.returns d1 x1.laid.many y2));
    }
