-- From the work of a call to that of its arguments, its parameters and its body; arguments one by one; the body's begin.
use Rattle.std.proofs.Common.{◌≡◌, ℕ, zero, suc, ◌+◌, ◌<◌, List, [], ◌∷◌, ◌++◌, length, Bool, true, false, refl, sym, ap, ◌∙◌, subst, inl, inr, arith, Option, Some, None, ◌⊎◌}
use Rattle.std.specs.Prelude.{slice_get, slice_index_or, option_map, unwrap_or}
use Rattle.std.proofs.lemmas.List.{get_or-set_same, length-set}
use Rattle.pk_ctypes.specs.declared.places.Pos.{Pos}
use Rattle.pk_ctypes.specs.declared.types.IntType.{IntType}
use Rattle.pk_typed.specs.Trees.{ValueTree, ValueTrees, FunctionTree}
use Rattle.pk_typed.specs.Trees as tree
use Rattle.pk_typed.specs.Types.{type_of}
use Rattle.pk_welltyped.specs.Listed.{Numbered, call_of, calls_in, calls_in_effect, calls_in_values, calls_in_items}
use Rattle.pk_welltyped.specs.WellTyped.{count, Takes, IsValue, IsEffect, AreValues}
use Rattle.pk_graph.specs.Trees.{variable}
use Rattle.pk_draft.specs.declared.drafts.Region.{Region}
use Rattle.pk_draft.specs.declared.drafts.Size.{Size}
use Rattle.pk_draft.specs.Drafts.{Names, entered, no_region}
use Rattle.pk_lower_row.specs.Shapes.{makes, any_makes, shape_of, strong_if}
use Rattle.pk_lower_row.specs.Contexts.{callee, parameters_of, size_in}
use Rattle.pk_lower_row.specs.Rows as rows
use Rattle.pk_lower_row.specs.Rows.{types_of}
use Rattle.pk_lower_expression.specs.Expressions.{ways, performed, passed}
use Rattle.pk_lower_statement.specs.declared.statements.Exits.{Exits}
use Rattle.pk_meaning.specs.Objects.{result, local}
use Rattle.pk_meaning.specs.Programs as program
use Rattle.pk_meaning.specs.Work as work
use Rattle.pk_meaning.specs.Work.{Place, Work}
use Rattle.pk_meaning.specs.Steps as meaning
use Rattle.pk_visits.proofs.Slots.{Slot, Draft, Among, Grows, region_at}
use Rattle.pk_visits.proofs.Grows.Rows.{grows_trans, bound_grows, entered_grows, held_grows, loosened}
use Rattle.pk_visits.proofs.Steps.Tells.{Any, sane, shapes}
use Rattle.pk_visits.proofs.Stands.{Whole, Proper, context_of, Held, held, around, AreCalm, AreQuiet, IsScalar, Binds, Stage, Laid, IsCalled}
use Rattle.pk_visits.proofs.Stages.{ways_grow, passed_grows, stage_first, stage_second, stage_last, first_called, second_called}
use Rattle.pk_visits.proofs.Operands.{UnlessLoose, all_own, calm_more, keep_laid, first_calm, unless_more}
use Rattle.pk_visits.proofs.Steps.Trees.{stage_names, or_first, or_second}
use Rattle.pk_visits.proofs.Steps.Passing.{pushed_is, binds_laid}
use Rattle.pk_visits.proofs.Steps.OwnReads.{passed_apart, passed_many}
use Rattle.pk_visits.proofs.Doom.{calm_plain}
use Rattle.pk_typed.specs.Defaults.{no_function}

-- ---- functions by their numbers

pub parameters_same : (fs : List FunctionTree) (f : ℕ) → unwrap_or (option_map (λ (g : FunctionTree). g.parameters) (slice_get fs f)) [] ≡ (slice_index_or fs f no_function).parameters
parameters_same [] f = refl
parameters_same (g ∷ fs) zero = refl
parameters_same (g ∷ fs) (suc f) = parameters_same fs f

taken : (fs : List FunctionTree) (f n : ℕ) (r : Option IntType) → Takes n r (slice_get fs f) → ((slice_index_or fs f no_function).returns ≡ r) × (length (slice_index_or fs f no_function).parameters ≡ n)
taken [] f n r h = absurd h
taken (g ∷ fs) zero n r h = h
taken (g ∷ fs) (suc f) n r h = taken fs f n r h

types_count : (es : ValueTrees) → length (types_of es) ≡ count es
types_count tree.no_values = refl
types_count (tree.value_before e es) = let z = types_count es in omega (arith, z)

-- ---- a call

-- what is known where call z of path k is made: behind its arguments, its parameters and its region
called_laid : (g : Whole) (proper : Proper g) (k : ℕ) (h : Place) (x : Exits) (z : Numbered) (r : Option IntType) (es : ValueTrees) (w : Work) (n : ℕ) (d : Draft) (hs : List Held)
    → AreValues (around g k n) es → Takes (count es) r (slice_get g.program.unit.functions z.call.function) → AreCalm d.variables hs
    → Stage g k h (z ∷ calls_in_values es) d
    (rows.call_after (callee (context_of g k) z.number) (size_in g.sizes z.call.function) (parameters_of g.program.unit z.call.function) (types_of es) (passed (context_of g k) es d)).1
    → Laid g k h x w (rows.call_after (callee (context_of g k) z.number) (size_in g.sizes z.call.function) (parameters_of g.program.unit z.call.function) (types_of es) (passed (context_of g k) es d)).1.point hs
    → Laid g k h x (work.Pass es (work.Bind (callee (context_of g k) z.number) 0 (parameters_of g.program.unit z.call.function) (work.Enter (callee (context_of g k) z.number) w))) d.point hs
called_laid g proper k h x z r es w n d hs fits takes calm s l =
    let c = context_of g k in
    let m = callee c z.number in
    let ts = parameters_of g.program.unit z.call.function in
    let size = size_in g.sizes z.call.function in
    let us = types_of es in
    let q = passed c es d in
    let d1 = q.draft in
    let d2 = rows.bound m 0 d1.variables ts us q.trees d1 in
    let f = entered m size d2 in
    let noted = s.noted z (inl refl) in
    let there = proper.there k z s.path noted in
    let behind = proper.behind k z s.path noted in
    let from : (m ≡ k → ⊥) = λ e. absurd (omega (arith, e, behind)) in
    let g1 = passed_grows c es d in
    let b2 : Grows (IsCalled c (z ∷ [])) d1 d2 = bound_grows (IsCalled c (z ∷ [])) m 0 d1.variables ts us q.trees d1 in
    let b3 : Grows (IsCalled c (z ∷ [])) d2 f = entered_grows (IsCalled c (z ∷ [])) m size (z, inl refl, refl, refl) d2 in
    let weak1 : Grows Any d d1 = loosened (λ j z i. tt) g1 in
    let weak3 = entered_grows Any m size tt d2 in
    let ns = stage_names g k h (z ∷ calls_in_values es) Any d f s (grows_trans weak1 (grows_trans (bound_grows Any m 0 d1.variables ts us q.trees d1) weak3)) in
    let s1 = stage_last g k h (z ∷ []) (calls_in_values es) d d1 f s (grows_trans b2 b3) in
    let takes' = taken g.program.unit.functions z.call.function (count es) r takes in
    let same = parameters_same g.program.unit.functions z.call.function in
    let many : length us ≡ length ts = let a = types_count es in let b = takes'.1 in let e = ap length same in omega (arith, a, b, e) in
    let region : region_at g.regions m ≡ record { at = d2.point; points = d2.points; variables = d2.variables } =
    by s.later m d2 size (s.leads.regions m) (s.apart m (inl refl)) (let a = s.leads.paths in let b = length-set d2.regions m (record { at = d2.point; points = d2.points; variables = d2.variables }) in omega (arith, a, b, there)) in
    let v1 = g1.variables in
    let v2 = b2.variables in (
      d,
      n,
      refl,
      fits,
      (λ i. calm),
      s1,
      subst (λ js. Binds g k h m 0 ts (Laid g k h x (work.Enter m w)) d1.point js) (sym (pushed_is es q.trees hs))
          (binds_laid g k h m 0 d1.variables ts us q.trees (Laid g k h x (work.Enter m w)) d d1 f hs (z ∷ calls_in_values es) many (passed_many c es d)
          (λ j t is. subst (λ i. IsScalar g (local m i) t) (omega arith) (proper.parameters m j t there (subst (λ ps. slice_get ps j ≡ Some t) (parameters_at noted) is)))
          (λ j. proper.scopes d.here k m j h s.here behind) (λ j. passed_apart c m j es d from ns) (λ j. all_own d.variables (local m j) hs calm) (calm_plain d.variables hs calm) (g1.names ∙ ns)
          s (loosened (second_called c (z ∷ []) (calls_in_values es)) g1) weak3 (
            there,
            ap (λ (t : Region). t.at) region,
            subst (λ i. AreCalm i hs) (sym (ap (λ (t : Region). t.variables) region)) (calm_more d.variables d2.variables hs (omega (arith, v1, v2)) calm),
            subst (λ i. Laid g k h x w i hs) (sym (ap (λ (t : Region). t.points) region)) l,
            behind,
          )),
    ) where
      by : (later : List ℕ) (m : ℕ) (e : Draft) (size : Size) → Among m later ⊎ (region_at g.regions m ≡ region_at (entered m size e).regions m) → (Among m later → ⊥) → m < length e.regions
          → region_at g.regions m ≡ record { at = e.point; points = e.points; variables = e.variables }
      by later m e size (inl a) none there = absurd (none a)
      by later m e size (inr a) none there = a ∙ get_or-set_same e.regions m (record { at = e.point; points = e.points; variables = e.variables }) no_region there

      parameters_at : Among z (calls_in_items (program.block_of g.program k).items) → parameters_of g.program.unit z.call.function ≡ (program.function_of g.program (callee (context_of g k) z.number)).parameters
      parameters_at noted = parameters_same g.program.unit.functions z.call.function ∙ ap (λ j. (slice_index_or g.program.unit.functions j no_function).parameters) (sym (proper.functions k z s.path noted))

-- the work that the program says of a call
called_as : (g : Whole) (proper : Proper g) (k : ℕ) (h : Place) (x : Exits) (z : Numbered) (es : ValueTrees) (w : ℕ → Work) (p : ℕ) (hs : List Held) → k < length g.program.paths → Among z (calls_in_items (program.block_of g.program k).items)
    → Laid g k h x (work.Pass es (work.Bind (callee (context_of g k) z.number) 0 (parameters_of g.program.unit z.call.function) (work.Enter (callee (context_of g k) z.number) (w (callee (context_of g k) z.number))))) p hs
    → Laid g k h x (meaning.called g.program k z.number es (w (program.callee g.program k z.number))) p hs
called_as g proper k h x z es w p hs there noted l =
    let m = callee (context_of g k) z.number in
    subst (λ i. Laid g k h x (work.Pass es (work.Bind i 0 (program.function_of g.program i).parameters (work.Enter i (w i)))) p hs) (sym (proper.callees k z there noted))
    (subst (λ ts. Laid g k h x (work.Pass es (work.Bind m 0 ts (work.Enter m (w m)))) p hs)
    (parameters_same g.program.unit.functions z.call.function ∙ ap (λ j. (slice_index_or g.program.unit.functions j no_function).parameters) (sym (proper.functions k z there noted))) l)

-- a call whose value is used
pub call_laid : (g : Whole) (proper : Proper g) (k : ℕ) (h : Place) (x : Exits) (t : IntType) (f n : ℕ) (at : Pos) (es : ValueTrees) (w : Work) (p : ℕ) (hs : List Held) → Laid g k h x (work.Evaluate (tree.call t f n at es) w) p hs
    → Laid g k h x (meaning.called g.program k n es (work.Fetch t (result (program.callee g.program k n)) w)) p hs
unfolding ways IsValue calls_in type_of
call_laid g proper k h x t f n at es w p hs (d, i, is, fits, quiet, s, l) =
    let c = context_of g k in
    let z = call_of f n at in
    let m = callee c n in
    let noted = s.noted z (inl refl) in
    let q = passed c es d in
    let there = proper.there k z s.path noted in
    let g1 = passed_grows c es d in
    let F = (rows.call_after m (size_in g.sizes f) (parameters_of g.program.unit f) (types_of es) q).1 in
    let weak1 : Grows Any d q.draft = loosened (λ j z i. tt) g1 in
    let d2 = rows.bound m 0 q.draft.variables (parameters_of g.program.unit f) (types_of es) q.trees q.draft in
    let ns = stage_names g k h (z ∷ calls_in_values es) Any d F s (grows_trans weak1 (grows_trans (bound_grows Any m 0 q.draft.variables (parameters_of g.program.unit f) (types_of es) q.trees q.draft) (entered_grows Any m (size_in g.sizes f) tt d2))) in
    let kind : IsScalar g (result m) t = (
      there,
      t,
      (ap (λ (j : ℕ). (slice_index_or g.program.unit.functions j no_function).returns) (proper.functions k z s.path noted)
          ∙ (taken g.program.unit.functions f (count es) (Some t) fits.0).0),
      refl,
    ) in
    called_as g proper k h x z es (λ j. work.Fetch t (result j) w) p hs s.path noted
    (subst (λ o. Laid g k h x (work.Pass es (work.Bind m 0 (parameters_of g.program.unit f) (work.Enter m (work.Fetch t (result m) w)))) o hs) is
    (called_laid g proper k h x z (Some t) es (work.Fetch t (result m) w) i d hs fits.1 fits.0 (quiet refl) s
    (kind, subst (λ u. Laid g k h x w F.point (held (variable u) t ∷ hs)) (ap (λ (a : Names Slot). a.result m (q.draft.variables + length (parameters_of g.program.unit f))) (g1.names ∙ ns)) l)))

-- and one that isn't
pub run_laid : (g : Whole) (proper : Proper g) (k : ℕ) (h : Place) (x : Exits) (f n : ℕ) (at : Pos) (es : ValueTrees) (w : Work) (p : ℕ) (hs : List Held) → Laid g k h x (work.Perform (tree.run f n at es) w) p hs
    → Laid g k h x (meaning.called g.program k n es w) p hs
unfolding performed IsEffect calls_in_effect
run_laid g proper k h x f n at es w p hs (d, i, is, fits, quiet, s, l) =
    let z = call_of f n at in
    let m = callee (context_of g k) n in
    called_as g proper k h x z es (λ j. w) p hs s.path (s.noted z (inl refl))
    (subst (λ o. Laid g k h x (work.Pass es (work.Bind m 0 (parameters_of g.program.unit f) (work.Enter m w))) o hs) is
    (called_laid g proper k h x z None es w i d hs fits.1 fits.0 (quiet refl) s l))

-- ---- arguments one by one

quiet_loose : (m : Bool) (n : ℕ) (hs : List Held) → AreQuiet m n hs → UnlessLoose (strong_if m) (AreCalm n hs)
quiet_loose true n hs q = q refl
quiet_loose false n hs q = tt

pub pass_laid : (g : Whole) (k : ℕ) (h : Place) (x : Exits) (es : ValueTrees) (w : Work) (p : ℕ) (hs : List Held) → Laid g k h x (work.Pass es w) p hs → Laid g k h x (meaning.pass es w) p hs
unfolding passed AreValues calls_in_values
pass_laid g k h x tree.no_values w p hs (d, n, is, fits, quiet, s, l) = subst (λ q. Laid g k h x w q hs) is l
pass_laid g k h x (tree.value_before e es) w p hs (d, n, is, fits, quiet, s, l) =
    let c = context_of g k in
    let how = strong_if (any_makes es) in
    let r = (ways c e).value d in
    let v = rows.held how (shape_of e) (type_of e) r in
    let ge = (ways_grow c e).value d in
    let f = (passed c es v.1).draft in
    let gp = passed_grows c es v.1 in
    let kept = held_grows (IsCalled c (calls_in_values es)) how (shape_of e) (type_of e) r in
    let kept_e = held_grows (IsCalled c (calls_in e)) how (shape_of e) (type_of e) r in
    let any_e = (sane c e).value d in
    let any_kept = held_grows Any how (shape_of e) (type_of e) r in
    let any_p : Grows Any v.1 f = loosened (λ j z i. tt) gp in
    let ns = stage_names g k h (calls_in e ++ calls_in_values es) Any d f s (grows_trans any_e (grows_trans any_kept any_p)) in
    let nr = ge.names ∙ ns in
    let q = λ (m : any_makes es ≡ true). quiet (or_second (makes e) (any_makes es) m) in
    let va = ge.variables in
    let vb = kept_e.variables in (
      d,
      n,
      is,
      fits.0,
      (λ m. quiet (or_first (makes e) (any_makes es) m)),
      stage_first g k h (calls_in e) (calls_in_values es) d r.1 f s (grows_trans kept gp),
      keep_laid g k h x (work.Pass es w) how (shape_of e) (type_of e) r hs (IsCalled c (calls_in_values es)) (calls_in e ++ calls_in_values es) d f s (loosened (first_called c (calls_in e) (calls_in_values es)) ge) gp nr
          (unless_more how d.variables r.1.variables hs va (quiet_loose (any_makes es) d.variables hs q)) (
            v.1,
            n,
            refl,
            fits.1,
            (λ m. (first_calm how (shape_of e) (type_of e) r (ap strong_if m) nr (shapes c e d ns), calm_more d.variables v.1.variables hs (omega (arith, va, vb)) (q m))),
            stage_second g k h (calls_in e) (calls_in_values es) d v.1 f s (grows_trans ge kept_e),
            l,
          ),
    )
