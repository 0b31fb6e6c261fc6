-- The graph follows the program at what a declared object begins with, from where its name is in scope.
use Rattle.std.proofs.Common.{◌≡◌, ℕ, zero, suc, ◌≤◌, List, [], length, Bool, true, false, ◌&&◌, nat_eq, if◌then◌else◌, refl, ap, subst, arith, Option, Some, None}
use Rattle.std.proofs.lemmas.Bool.{eqb-true}
use Rattle.std.proofs.lemmas.List.{length-replicate}
use Rattle.std.specs.Prelude.{pos, replicate}
use Rattle.pk_ctypes.specs.declared.types.IntType.{IntType}
use Rattle.pk_ctypes.specs.Types.{is_in_type}
use Rattle.pk_ctypes.proofs.Wrapped.{zero_in}
use Rattle.pk_ctypes.proofs.Values.{in_type_test}
use Rattle.pk_typed.specs.declared.values.Variable.TheVariants.{Local}
use Rattle.pk_typed.specs.Trees.{ValueTree, ValueTrees}
use Rattle.pk_typed.specs.Types.{type_of}
use Rattle.pk_graph.specs.Kinds.{count_of, Kind, scalar_kind, array_kind}
use Rattle.pk_graph.specs.Trees.{ArrayOf, Set, Havoc, Clear}
use Rattle.pk_graph.specs.Steps as steps
use Rattle.pk_graph.specs.Steps.{Numbers, are_any, all_in_type}
use Rattle.pk_draft.specs.Drafts.{emit}
use Rattle.pk_draft.specs.Folding.{conversion}
use Rattle.pk_lower_row.specs.Contexts as lower
use Rattle.pk_lower_expression.specs.Expressions.{ways}
use Rattle.pk_lower_statement.specs.declared.statements.Exits.{Exits}
use Rattle.pk_lower_statement.specs.Statements as statements
use Rattle.pk_welltyped.specs.Listed.{calls_in, calls_if, calls_in_values, calls_in_values_if}
use Rattle.pk_welltyped.specs.WellTyped.{IsValueIf, AreValuesIf, count_if}
use Rattle.pk_meaning.specs.Objects.{Objects, local, with_numbers, is_in_scope}
use Rattle.pk_meaning.specs.Programs.{local_of}
use Rattle.pk_meaning.specs.Work as work
use Rattle.pk_meaning.specs.Work.{Place, Work}
use Rattle.pk_meaning.specs.Steps as meaning
use Rattle.pk_visits.proofs.Slots.{Slot, own, slots, Draft, Memory, with_memory, Among, edge, Uncalled}
use Rattle.pk_visits.proofs.Stands.{Whole, context_of, Held, around, local_array, cells, AreCalm, HasKind, Means, FitsObjects, Stage, Laid, IsCalled}
use Rattle.pk_visits.proofs.Stores.{Fitting, fits_written, means_apart}
use Rattle.pk_visits.proofs.Follow.{Answers, config, still, moved, kind_is}
use Rattle.pk_visits.proofs.Stages.{all_called, ways_grow, stage_until, stage_from, stage_edge}
use Rattle.pk_visits.proofs.Grows.Statements.{items_adds}
use Rattle.pk_visits.proofs.Steps.ElementTrees.{array_is}
use Rattle.pk_visits.proofs.Grows.Rows.{grows_refl, grows_trans, emit_grows}
use Rattle.pk_visits.proofs.Steps.Tells.{Any, sane, any_called, variable_is}
use Rattle.pk_visits.proofs.Steps.Trees.{stage_names}
use Rattle.pk_visits.proofs.Operands.{all_own}
use Rattle.pk_visits.proofs.Doom.{calm_plain}

true_both : (a b : Bool) → a ≡ true → b ≡ true → (a && b) ≡ true
true_both true b h k = k
true_both false b h k = absurd (grind (arith, h))

both_true : (a b : Bool) → (a && b) ≡ true → (a ≡ true) × (b ≡ true)
both_true true b h = (refl, h)
both_true false b h = absurd (grind (arith, h))

-- an object without initialiser
pub anything_follows : (y : Place) (g : Whole) (chosen : Numbers) (m : Memory) (k : ℕ) (j : Place) (x : Exits) (i : ℕ) (d : Draft) (vs : Numbers) (s : Objects) (b : Bool) (u w : Work) (hs : List Held) (n : Kind)
    → HasKind g.program (local k i) n → (local_of g.program k i).int_type ≡ n.int_type → (local_of g.program k i).length ≡ n.length
    → AreCalm d.variables hs → Stage g k j [] d (statements.anything (context_of g k) i d) → Laid g k j x w (statements.anything (context_of g k) i d).point hs → Means m hs vs → m.objects ≡ s → FitsObjects g.program s
    → Answers g chosen k y d.point m (meaning.anything g.program chosen (config k j u vs s b) i w)
anything_follows y g chosen m k j x i d vs s b u w hs n kind types lengths calm st l e same f = by (are_any t c chosen) refl where
  t : Rattle.pk_ctypes.specs.declared.types.IntType.IntType
  t = (local_of g.program k i).int_type

  c : ℕ
  c = count_of (local_of g.program k i).length

  ns : d.names ≡ slots
  ns = stage_names g k j [] Any d (statements.anything (context_of g k) i d) st (emit_grows Any (Havoc (lower.own (context_of g k) i d) t c) d)

  is : lower.own (context_of g k) i d ≡ own (local k i)
  is = variable_is (context_of g k) (Local i) d ns

  z : Among (edge d.point (Havoc (lower.own (context_of g k) i d) t c) d.points) g.edges × Rattle.pk_visits.proofs.Stands.ShowsAt g d.points k j
  z = stage_edge g k j Uncalled [] d d (statements.anything (context_of g k) i d) (Havoc (lower.own (context_of g k) i d) t c) st (grows_refl (IsCalled (context_of g k) []) d) (grows_refl Uncalled (statements.anything (context_of g k) i d))

  by : (r : Bool) → are_any t c chosen ≡ r
      → Answers g chosen k y d.point m (if r then meaning.writes (config k j u vs s b) (local k i) chosen w vs else meaning.Wants t c)
  by false none = (d.points, own (local k i), subst (λ (y : Slot). Among (edge d.point (Havoc y t c) d.points) g.edges) is z.0, none)
  by true choice =
      let a = both_true (nat_eq (length chosen) c) (all_in_type t chosen) choice in
      let many : length chosen ≡ c = eqb-true (length chosen) c a.0 in
      moved g chosen d.point d.points m (with_memory (own (local k i)) chosen m) (Havoc (own (local k i)) t c) k j w vs (with_numbers (local k i) chosen s) (is_in_scope (local k i) j.scope) x hs
      (subst (λ (y : Slot). Among (edge d.point (Havoc y t c) d.points) g.edges) is z.0) (ap (λ y. if y then steps.To (with_memory (own (local k i)) chosen m) else steps.Wants t c) choice) (refl, z.1) l
      (means_apart (own (local k i)) chosen m hs vs (all_own d.variables (local k i) hs calm) e) (ap (with_numbers (local k i) chosen) same)
      (fits_written g.program (local k i) chosen s (λ o q. subst (λ (v : Kind). Fitting v chosen) (kind_is g.program (local k i) n o kind q)
      (subst (λ (v : Option ℕ). length chosen ≡ count_of v) lengths many, subst (λ (v : Rattle.pk_ctypes.specs.declared.types.IntType.IntType). all_in_type v chosen ≡ true) types a.1)) f)

-- a scalar
pub scalar_follows : (y : Place) (g : Whole) (chosen : Numbers) (m : Memory) (k : ℕ) (j : Place) (x : Exits) (i : ℕ) (v : Option ValueTree) (o : ℕ) (d : Draft) (vs : Numbers) (s : Objects) (b : Bool) (u w : Work) (hs : List Held) (n : Kind)
    → HasKind g.program (local k i) n → (local_of g.program k i).int_type ≡ n.int_type → (local_of g.program k i).length ≡ n.length → n ≡ scalar_kind (local_of g.program k i).int_type → IsValueIf (around g k o) v
    → AreCalm d.variables hs → Stage g k j (calls_if v) d (statements.scalar_first (context_of g k) i v d) → Laid g k j x w (statements.scalar_first (context_of g k) i v d).point hs → Means m hs vs → m.objects ≡ s → FitsObjects g.program s
    → Answers g chosen k y d.point m (meaning.scalar_first g.program chosen (config k j u vs s b) i v w)
scalar_follows y g chosen m k j x i None o d vs s b u w hs n kind types lengths one fits calm st l e same f = anything_follows y g chosen m k j x i d vs s b u w hs n kind types lengths calm st l e same f
scalar_follows y g chosen m k j x i (Some v) o d vs s b u w hs n kind types lengths one fits calm st l e same f =
    let c = context_of g k in
    let t = (local_of g.program k i).int_type in
    let r = (ways c v).value d in
    let v0 = lower.own c i d in
    let I = Set v0 (conversion (type_of v) t r.0) in
    let end = emit I r.1 in
    let ge = (ways_grow c v).value d in
    let ns = stage_names g k j (calls_in v) Any d end st (grows_trans ((sane c v).value d) (emit_grows Any I r.1)) in
    let is : v0 ≡ own (local k i) = variable_is c (Local i) d ns in
    let z = stage_edge g k j Uncalled (calls_in v) d r.1 end I st ge (grows_refl Uncalled end) in
    still g chosen d.point m k j (work.Evaluate v (work.Put t (local k i) w)) vs s x hs (
      d,
      o,
      refl,
      fits,
      (λ q. calm),
      stage_until g k j (calls_in v) d r.1 end st (emit_grows Uncalled I r.1),
      (
        r.1.points,
        subst (HasKind g.program (local k i)) one kind,
        record {
          there = subst (λ (q : Slot). Among (edge r.1.point (Set q (conversion (type_of v) t r.0)) r.1.points) g.edges) is z.0;
          shown = z.1;
          apart = all_own d.variables (local k i) hs calm;
          plain = calm_plain d.variables hs calm;
        },
        l,
      ),
    ) e same f

zeros_in : (t : IntType) (n : ℕ) → all_in_type t (replicate n (pos 0)) ≡ true
zeros_in t zero = refl
zeros_in t (suc n) = true_both (is_in_type t (pos 0)) (all_in_type t (replicate n (pos 0))) (in_type_test t (pos 0) (let z = zero_in t in record { from = z.0; to = z.1 })) (zeros_in t n)

-- an array, which begins with zeros where it has a braced list
pub array_follows : (y : Place) (g : Whole) (chosen : Numbers) (m : Memory) (k : ℕ) (j : Place) (x : Exits) (i : ℕ) (v : Option ValueTrees) (o : ℕ) (d : Draft) (vs : Numbers) (s : Objects) (b : Bool) (u w : Work) (hs : List Held) (n : Kind)
    → HasKind g.program (local k i) n → (local_of g.program k i).int_type ≡ n.int_type → (local_of g.program k i).length ≡ n.length → n ≡ array_kind (local_array g k i).int_type (local_array g k i).length
    → AreValuesIf (around g k o) v → count_if v ≤ (local_array g k i).length
    → AreCalm d.variables hs → Stage g k j (calls_in_values_if v) d (statements.array_first (context_of g k) i v d) → Laid g k j x w (statements.array_first (context_of g k) i v d).point hs → Means m hs vs → m.objects ≡ s → FitsObjects g.program s
    → Answers g chosen k y d.point m (meaning.array_first g.program chosen (config k j u vs s b) i v w)
array_follows y g chosen m k j x i None o d vs s b u w hs n kind types lengths one fits room calm st l e same f = anything_follows y g chosen m k j x i d vs s b u w hs n kind types lengths calm st l e same f
array_follows y g chosen m k j x i (Some es) o d vs s b u w hs n kind types lengths one fits room calm st l e same f =
    let c = context_of g k in
    let a = local_array g k i in
    let I = Clear (lower.array_of c (Local i) d) in
    let d1 = emit I d in
    let end = statements.items c i 0 es d1 in
    let C = IsCalled c (calls_in_values es) in
    let rest = items_adds C c i 0 es d1 (all_called c (calls_in_values es)) in
    let ns = stage_names g k j (calls_in_values es) Any d end st (grows_trans (emit_grows Any I d) (items_adds Any c i 0 es d1 (any_called c (calls_in_values es)))) in
    let is : lower.array_of c (Local i) d ≡ cells a = array_is g k a.int_type (Local i) d ns in
    let z = stage_edge g k j C (calls_in_values es) d d end I st (grows_refl C d) rest in
    let zs = replicate a.length (pos 0) in
    let here : HasKind g.program (local k i) (array_kind a.int_type a.length) = subst (HasKind g.program (local k i)) one kind in
    moved g chosen d.point d.points m (with_memory (own (local k i)) zs m) (Clear (cells a)) k j (work.Fill a 0 es w) vs (with_numbers (local k i) zs s) (is_in_scope (local k i) j.scope) x hs
    (subst (λ (y : ArrayOf Slot). Among (edge d.point (Clear y) d.points) g.edges) is z.0) refl (refl, z.1)
    (d1, o, i, refl, refl, here, fits, omega (arith, room), calm, stage_from g k j (calls_in_values es) d d1 end st (emit_grows Uncalled I d), l)
    (means_apart (own (local k i)) zs m hs vs (all_own d.variables (local k i) hs calm) e) (ap (with_numbers (local k i) zs) same)
    (fits_written g.program (local k i) zs s (λ q h. subst (λ (y : Kind). Fitting y zs) (kind_is g.program (local k i) (array_kind a.int_type a.length) q here h) (length-replicate a.length (pos 0), zeros_in a.int_type a.length)) f)
