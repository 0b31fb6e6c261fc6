-- What a run begins to evaluate is a part of the body of its path, so that what is folded there has no access.
use Rattle.std.specs.Prelude.{◌≡◌, ℕ, ◌+◌, ◌≤◌, ◌⊎◌, ℤ, List, Option, Some, None, option_map}
use Rattle.std.proofs.Common.{arith, sym, ap, ◌∙◌, subst, inl, inr}
use Rattle.pk_ctypes.specs.declared.places.Pos.{Pos}
use Rattle.pk_ctypes.specs.declared.types.Op.{Op}
use Rattle.pk_typed.specs.Trees.{ValueTree}
use Rattle.pk_typed.specs.Types.{type_of}
use Rattle.pk_lower.specs.Graphs.{graph_of}
use Rattle.pk_lower_row.specs.declared.shapes.Shape.{Shape}
use Rattle.pk_lower_row.specs.declared.shapes.Shape.TheVariants.{Fixed, Temporary, Named, Other}
use Rattle.pk_lower_row.specs.Shapes.{converted_shape, unary_shape, operated_shape, shape_of}
use Rattle.pk_meaning.specs.Objects.{Objects}
use Rattle.pk_meaning.specs.Programs.{Program}
use Rattle.pk_meaning.specs.Work.{Work}
use Rattle.pk_meaning.specs.Steps.{Config}
use Rattle.pk_meaning.specs.Runs.{Visit, begins, Runs}
use Rattle.pk_access_laws.specs.Operators.{Counting}
use Rattle.pk_access_laws.specs.Kept.{unless_fixed, counts_in_value, folded_in_value}
use Rattle.pk_access_laws.specs.Laws.{one_at}
use Rattle.pk_computed_laws.specs.Computed.{Operation, Computes, apply, operate, IsOfConstants, one_constant, two_constants, IsFolded, site}
use Rattle.pk_computed_laws.specs.Evaluated.{IsEvaluated, ComputedIsEvaluated}
use Rattle.pk_folded_laws.specs.Folded.{IsOperatorAt, one_operand, two_operands, HasNoAccess, FoldedHasNoAccess, AccessesAreEvaluated, ComputedAccessesAreEvaluated}
use Rattle.pk_folded_laws.proofs.Within.{Within, NextWithin}
use Rattle.pk_folded_laws.proofs.Steps.{one_step}
use Rattle.pk_folded_laws.proofs.Static.{no_access, one_there}

-- ---- all of a run is made of parts of bodies

start_within : (p : Program) (q : Counting) (o : Option Objects) (first : Config) → option_map (begins p) o ≡ Some first → Within p q first.path first.work
start_within p q None first h = absurd (cc h)
start_within p q (Some s) first h =
    let same : begins p s ≡ first = cc h in
    subst (λ (c : Config). Within p q c.path c.work) same (omega arith, tt)

run_within : (p : Program) (q : Counting) {c e : Config} {vs : List Visit} → Runs p c vs e → Within p q c.path c.work → Within p q e.path e.work
run_within p q Runs.ends h = h
run_within p q (Runs.steps {c = c} chosen is rest) h = run_within p q rest (subst (NextWithin p q) is (one_step p q chosen c c.work h))

-- ---- what is folded counts at its place

at_least : (s : Shape) (z : ℤ) (n m : ℕ) → s ≡ Fixed z → n ≤ unless_fixed s 0 n + m
at_least (Fixed y) z n m h = omega arith
at_least Temporary z n m h = absurd (cc h)
at_least Named z n m h = absurd (cc h)
at_least Other z n m h = absurd (cc h)

counts_one : {e : ValueTree} {at : Pos} (z : ℤ) → IsOperatorAt e at → shape_of e ≡ Fixed z → 1 ≤ folded_in_value (one_at at) e
unfolding counts_in_value
counts_one z (one_operand {op = op} {at = at} {t = t} {e = e}) h =
    omega (arith, one_there at, at_least (unary_shape op t (converted_shape (type_of e) t (shape_of e))) z (one_at at at) (folded_in_value (one_at at) e) h)
counts_one z (two_operands {op = op} {at = at} {t = t} {a = a} {b = b}) h =
    omega (arith, one_there at, at_least (operated_shape op t (type_of a) (type_of b) (shape_of a) (shape_of b)) z (one_at at at) (folded_in_value (one_at at) a + folded_in_value (one_at at) b) h)

pub folded_has_no_access : FoldedHasNoAccess
folded_has_no_access u paths apart choice first last visits e behind at z starts runs is op shape =
    let p : Program = record { unit = u; paths = paths } in
    let q = one_at at in
    let there = subst (Within p q last.path) is (run_within p q runs (start_within p q _ first starts)) in
    no_access u paths last.path at apart (omega (arith, there.0, counts_one z op shape))

-- ---- where an operator was folded

operator_at : {w : Work} {at : Pos} {operation : Operation} {e : ValueTree} {v : Work} → IsOfConstants w e v → Computes w at operation → IsOperatorAt e at
operator_at (one_constant c) apply = one_operand
operator_at (two_constants c d) operate = two_operands

pub computed_accesses_are_evaluated : ComputedIsEvaluated → ComputedAccessesAreEvaluated
computed_accesses_are_evaluated law u name paths unit marked has few apart choice first last visits at operation fault starts runs computes can a listed here kind =
    by (law u name paths unit marked has few choice first last visits at operation fault starts runs computes can) where
      by : IsEvaluated (graph_of u paths) (site last at) fault ⊎ IsFolded (record { unit = u; paths = paths }) first last → IsEvaluated (graph_of u paths) (site last at) fault
      by (inl e) = e
      by (inr f) =
          let o = f.operator in
          absurd (folded_has_no_access u paths apart choice first o.begun o.on.visits o.expression o.behind at f.value starts o.on.before o.begins (operator_at o.constants computes) f.folded a listed
          (here ∙ ap (λ (k : ℕ). record { path = k; at = at }) (sym o.path)))
