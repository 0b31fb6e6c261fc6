-- From the work of a braced list to that of its items.
use Rattle.std.proofs.Common.{◌≡◌, ℕ, ◌+◌, ◌≤◌, List, ◌++◌, false, refl, sym, subst, arith}
use Rattle.std.specs.Prelude.{pos}
use Rattle.pk_ctypes.specs.declared.types.IntType.TheVariants.{Int}
use Rattle.pk_typed.specs.declared.values.Variable.TheVariants.{Local}
use Rattle.pk_typed.specs.Trees.{ValueTree, ValueTrees}
use Rattle.pk_typed.specs.Trees as tree
use Rattle.pk_typed.specs.Types.{type_of}
use Rattle.pk_welltyped.specs.Listed.{calls_in, calls_in_values}
use Rattle.pk_welltyped.specs.WellTyped.{count, AreValues}
use Rattle.pk_graph.specs.Trees.{constant, ArrayOf, Store}
use Rattle.pk_draft.specs.Folding.{conversion}
use Rattle.pk_lower_row.specs.Contexts as lower
use Rattle.pk_lower_row.specs.Contexts.{site}
use Rattle.pk_lower_expression.specs.Expressions.{ways}
use Rattle.pk_lower_statement.specs.declared.statements.Exits.{Exits}
use Rattle.pk_lower_statement.specs.Statements.{item, items}
use Rattle.pk_meaning.specs.Objects.{Array}
use Rattle.pk_meaning.specs.Work as work
use Rattle.pk_meaning.specs.Work.{Place, Work}
use Rattle.pk_visits.proofs.Slots.{Slot, Among, edge}
use Rattle.pk_visits.proofs.Grows.Rows.{grows_trans, emit_grows, loosened}
use Rattle.pk_visits.proofs.Stands.{Whole, context_of, Held, IsArrayOf, local_array, cells, Laid, IsCalled}
use Rattle.pk_visits.proofs.Stages.{all_called, ways_grow, stage_first, stage_second, stage_edge, first_called}
use Rattle.pk_visits.proofs.Grows.Statements.{items_adds}
use Rattle.pk_visits.proofs.Steps.Tells.{Any, sane, any_called}
use Rattle.pk_visits.proofs.Steps.ElementTrees.{array_is}
use Rattle.pk_visits.proofs.Steps.Trees.{stage_names}
use Rattle.pk_visits.proofs.Operands.{all_own, calm_more}
use Rattle.pk_visits.proofs.Doom.{calm_plain}

-- the end of a braced list
pub filled_laid : (g : Whole) (k : ℕ) (h : Place) (x : Exits) (a : Array) (j : ℕ) (w : Work) (p : ℕ) (hs : List Held) → Laid g k h x (work.Fill a j tree.no_values w) p hs → Laid g k h x w p hs
unfolding items
filled_laid g k h x a j w p hs (d, n, i, at, same, fine, fits, bound, calm, s, l) = subst (λ q. Laid g k h x w q hs) at l

-- the next item, then the others
pub item_laid : (g : Whole) (k : ℕ) (h : Place) (x : Exits) (a : Array) (j : ℕ) (e : ValueTree) (es : ValueTrees) (w : Work) (p : ℕ) (hs : List Held) → Laid g k h x (work.Fill a j (tree.value_before e es) w) p hs
    → Laid g k h x (work.Evaluate e (work.Item a j (work.Fill a (j + 1) es w))) p hs
unfolding items AreValues calls_in_values
item_laid g k h x a j e es w p hs (d, n, i, at, same, fine, fits, bound, calm, s, l) =
    let c = context_of g k in
    let b = local_array g k i in
    let r = (ways c e).value d in
    let f1 = item c i j (type_of e) (ways c e) d in
    let f = items c i (j + 1) es f1 in
    let v = conversion (type_of e) b.int_type r.0 in
    let I = Store (lower.array_of c (Local i) d) (site c d.here.at) false (constant Int (pos j)) v in
    let C = IsCalled c (calls_in e) in
    let D = IsCalled c (calls_in_values es) in
    let ge = (ways_grow c e).value d in
    let rest = items_adds D c i (j + 1) es f1 (all_called c (calls_in_values es)) in
    let z = stage_edge g k h D (calls_in e ++ calls_in_values es) d r.1 f I s (loosened (first_called c (calls_in e) (calls_in_values es)) ge) rest in
    let whole = grows_trans ((sane c e).value d) (grows_trans (emit_grows Any I r.1) (items_adds Any c i (j + 1) es f1 (any_called c (calls_in_values es)))) in
    let ns = stage_names g k h (calls_in e ++ calls_in_values es) Any d f s whole in
    let cells_are : lower.array_of c (Local i) d ≡ cells b = array_is g k b.int_type (Local i) d ns in
    let v1 = ge.variables in
    let first = grows_trans ge (emit_grows C I r.1) in
    let v2 = first.variables in
    subst (λ (y : Array). Laid g k h x (work.Evaluate e (work.Item y j (work.Fill y (j + 1) es w))) p hs) (sym same) (
      d,
      n,
      at,
      fits.0,
      (λ q. calm),
      stage_first g k h (calls_in e) (calls_in_values es) d r.1 f s (grows_trans (emit_grows D I r.1) rest),
      (
        r.1.points,
        site c d.here.at,
        omega (arith, subst (λ (y : Array). j + (1 + count es) ≤ y.length) same bound),
        subst (IsArrayOf g) same fine,
        record {
          there = subst (λ (y : ArrayOf Slot). Among (edge r.1.point (Store y (site c d.here.at) false (constant Int (pos j)) v) r.1.points) g.edges) cells_are z.0;
          shown = z.1;
          apart = all_own d.variables b.object hs calm;
          plain = calm_plain d.variables hs calm;
        },
        (
          f1,
          n,
          i,
          refl,
          refl,
          subst (IsArrayOf g) same fine,
          fits.1,
          (let q = subst (λ (y : Array). j + (1 + count es) ≤ y.length) same bound in omega (arith, q)),
          calm_more d.variables f1.variables hs v2 calm,
          stage_second g k h (calls_in e) (calls_in_values es) d f1 f s first,
          l,
        ),
      ),
    )
