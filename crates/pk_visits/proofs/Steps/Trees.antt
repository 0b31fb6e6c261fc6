-- From the work of an expression to that of its parts: names and operators.
use Rattle.std.proofs.Common.{◌≡◌, ℕ, ◌<◌, List, ◌∷◌, Bool, true, false, ◌||◌, refl, sym, ap, ◌∙◌, subst, arith, length}
use Rattle.pk_ctypes.specs.declared.places.Pos.{Pos}
use Rattle.pk_ctypes.specs.declared.types.IntType.{IntType}
use Rattle.pk_ctypes.specs.declared.types.Op.{Op}
use Rattle.pk_typed.specs.declared.values.Variable.{Variable}
use Rattle.pk_typed.specs.declared.values.Variable.TheVariants.{File, Local}
use Rattle.pk_typed.specs.Trees.{ValueTree, EffectTree}
use Rattle.pk_typed.specs.Trees as tree
use Rattle.pk_typed.specs.Types.{type_of}
use Rattle.pk_welltyped.specs.Listed.{Numbered, calls_at_place, calls_in, calls_in_effect}
use Rattle.pk_welltyped.specs.WellTyped.{IsObject, IsPlace, IsValue, IsEffect}
use Rattle.pk_graph.specs.Trees.{variable, Set}
use Rattle.pk_draft.specs.Drafts.{emit}
use Rattle.pk_draft.specs.Folding.{conversion, updated_tree}
use Rattle.pk_draft.specs.declared.drafts.Size.{Size}
use Rattle.pk_lower_row.specs.Shapes.{shape_of, makes, makes_effect, strong_if}
use Rattle.pk_lower_row.specs.declared.shapes.Waiting.TheVariants.{Strong}
use Rattle.pk_lower_row.specs.Contexts.{variable_of, site}
use Rattle.pk_lower_row.specs.Rows as rows
use Rattle.pk_lower_expression.specs.Expressions.{target, ways, performed}
use Rattle.pk_lower_statement.specs.declared.statements.Exits.{Exits}
use Rattle.pk_meaning.specs.Programs.{object_of}
use Rattle.pk_meaning.specs.Work as work
use Rattle.pk_meaning.specs.Work.{Place, Work}
use Rattle.pk_visits.proofs.Slots.{Slot, own, slots, SlotTree, Draft, Among, edge, Grows, Uncalled}
use Rattle.pk_visits.proofs.Grows.Rows.{grows_refl, grows_trans, emit_grows, two_grows}
use Rattle.pk_visits.proofs.Grows.Expressions.{lowered}
use Rattle.pk_visits.proofs.Steps.Tells.{variable_is, sane, Any}
use Rattle.pk_visits.proofs.Steps.Fixed.{fixed_of, numbers}
use Rattle.pk_visits.proofs.Stands.{Whole, context_of, Held, held, around, AreCalm, AreQuiet, HasKind, IsScalar, Writes, Stage, Laid, IsCalled}
use Rattle.pk_visits.proofs.Stages.{ways_grow, effect_grows, stage_first, stage_second, stage_until, stage_edge}
use Rattle.pk_visits.proofs.Operands.{UnlessLoose, all_own, calm_more, two_laid}
use Rattle.pk_visits.proofs.Doom.{calm_plain}
use Rattle.pk_graph.specs.Kinds.{Kind, scalar_kind}

-- the names of a draft at which a stage begins
pub stage_names : (g : Whole) (k : ℕ) (h : Place) (xs : List Numbered) (C : ℕ → Size → Type 0) (d f : Draft) → Stage g k h xs d f → Grows C d f → d.names ≡ slots
stage_names g k h xs C d f s z = sym z.names ∙ s.leads.names

pub has_kind : (g : Whole) (k n : ℕ) (t : Kind) (y : Variable) → k < length g.program.paths → IsObject (around g k n) t y → HasKind g.program (object_of k y) t
has_kind g k n t (File i) there h = h
has_kind g k n t (Local i) there h = (there, h.1)

pub or_first : (a b : Bool) → a ≡ true → (a || b) ≡ true
or_first true b h = refl
or_first false b h = absurd (grind (arith, h))

pub or_second : (a b : Bool) → b ≡ true → (a || b) ≡ true
or_second true b h = refl
or_second false b h = h

-- ---- a scalar that is written by an edge

pub writes_scalar : (g : Whole) (k : ℕ) (h : Place) (n : ℕ) (y : Variable) (e : Slot → SlotTree) (d r : Draft) (hs : List Held) (xs : List Numbered)
    → d.names ≡ slots → Stage g k h xs d (emit (Set (variable_of (context_of g k) y d) (e (variable_of (context_of g k) y d))) r) → Grows (IsCalled (context_of g k) xs) d r → AreCalm n hs
    → Writes g k h r.point (own (object_of k y)) (Set (own (object_of k y)) (e (own (object_of k y)))) r.points hs
writes_scalar g k h n y e d r hs xs ns s z calm =
    let v = variable_of (context_of g k) y d in
    let i = Set v (e v) in
    let a = stage_edge g k h Uncalled xs d r (emit i r) i s z (grows_refl Uncalled (emit i r)) in
    record {
      there = subst (λ u. Among (edge r.point (Set u (e u)) r.points) g.edges) (variable_is (context_of g k) y d ns) a.0;
      shown = a.1;
      apart = all_own n (object_of k y) hs calm;
      plain = calm_plain n hs calm;
    }

-- ---- forms

pub scalar_laid : (g : Whole) (k : ℕ) (h : Place) (x : Exits) (t : IntType) (y : Variable) (w : Work) (p : ℕ) (hs : List Held) → Laid g k h x (work.Evaluate (tree.read (tree.scalar t y)) w) p hs
    → IsScalar g (object_of k y) t × Laid g k h x w p (held (variable (own (object_of k y))) t ∷ hs)
unfolding target ways IsPlace IsValue calls_at_place calls_in type_of
scalar_laid g k h x t y w p hs (d, n, at, fits, quiet, s, l) = (
  has_kind g k n (scalar_kind t) y s.path fits,
  subst (λ q. Laid g k h x w q (held (variable (own (object_of k y))) t ∷ hs)) at
      (subst (λ u. Laid g k h x w d.point (held (variable u) t ∷ hs)) (variable_is (context_of g k) y d s.leads.names) l),
)

pub unary_laid : (g : Whole) (k : ℕ) (h : Place) (x : Exits) (op : Op) (at : Pos) (t : IntType) (e : ValueTree) (w : Work) (p : ℕ) (hs : List Held) → Laid g k h x (work.Evaluate (tree.unary op at t e) w) p hs
    → g.begun k (tree.unary op at t e) w → Laid g k h x (work.Evaluate e (work.Apply op at t w)) p hs
unfolding ways IsValue calls_in type_of
unary_laid g k h x op at t e w p hs (d, n, is, fits, quiet, s, l) come =
    let c = context_of g k in
    let ns = stage_names g k h _ Any d ((ways c e).value d).1 s ((sane c e).value d) in
    (d, n, is, fits.1, quiet, s, (l, λ i. (e, fixed_of (shape_of (tree.unary op at t e)) ((ways c (tree.unary op at t e)).value d).0 (numbers c (tree.unary op at t e) d ns) i, come)))

pub convert_laid : (g : Whole) (k : ℕ) (h : Place) (x : Exits) (t : IntType) (e : ValueTree) (w : Work) (p : ℕ) (hs : List Held) → Laid g k h x (work.Evaluate (tree.convert t e) w) p hs
    → Laid g k h x (work.Evaluate e (work.Convert t w)) p hs
unfolding ways IsValue calls_in type_of
convert_laid g k h x t e w p hs (d, n, is, fits, quiet, s, l) = (d, n, is, fits, quiet, s, l)

quiet_loose : (m : Bool) (n : ℕ) (hs : List Held) → AreQuiet m n hs → UnlessLoose (strong_if m) (AreCalm n hs)
quiet_loose true n hs q = q refl
quiet_loose false n hs q = tt

strong_true : (m : Bool) → m ≡ true → strong_if m ≡ Strong
strong_true m h = ap strong_if h

pub binary_laid : (g : Whole) (k : ℕ) (h : Place) (x : Exits) (op : Op) (at : Pos) (t : IntType) (a b : ValueTree) (w : Work) (p : ℕ) (hs : List Held) → Laid g k h x (work.Evaluate (tree.binary op at t a b) w) p hs
    → g.begun k (tree.binary op at t a b) w → Laid g k h x (work.Evaluate a (work.Keep (work.Evaluate b (work.Operate op at t w)))) p hs
unfolding ways IsValue calls_in type_of
binary_laid g k h x op at t a b w p hs (d, n, is, fits, quiet, s, l) come =
    let c = context_of g k in
    let f = (rows.two (strong_if (makes b)) (lowered c a) (lowered c b) d).draft in
    let grow = two_grows Any (strong_if (makes b)) (lowered c a) (lowered c b) (sane c a) (sane c b) d in
    let ns = stage_names g k h _ Any d f s grow in
    subst (λ q. Laid g k h x (work.Evaluate a (work.Keep (work.Evaluate b (work.Operate op at t w)))) q hs) is
    (two_laid g k h x (work.Operate op at t w) (strong_if (makes b)) a b n d f hs ns (strong_true (makes b))
    (quiet_loose (makes b) d.variables hs (λ m. quiet (or_second (makes a) (makes b) m))) (λ m. quiet (or_second (makes a) (makes b) m))
    fits.1 (λ m. quiet (or_first (makes a) (makes b) m)) fits.2 s (grows_refl Uncalled f) (l, λ i. (a, b, fixed_of (shape_of (tree.binary op at t a b)) ((ways c (tree.binary op at t a b)).value d).0 (numbers c (tree.binary op at t a b) d ns) i, come)))

pub then_laid : (g : Whole) (k : ℕ) (h : Place) (x : Exits) (f : EffectTree) (v : ValueTree) (w : Work) (p : ℕ) (hs : List Held) → Laid g k h x (work.Evaluate (tree.then_value f v) w) p hs
    → Laid g k h x (work.Perform f (work.Evaluate v w)) p hs
unfolding ways performed IsValue IsEffect calls_in calls_in_effect type_of
then_laid g k h x f v w p hs (d, n, is, fits, quiet, s, l) =
    let c = context_of g k in
    let e = performed c f d in
    let gf = effect_grows c f d in
    let gv = (ways_grow c v).value e in (
      d,
      n,
      is,
      fits.0,
      (λ m. quiet (or_first (makes_effect f) (makes v) m)),
      stage_first g k h (calls_in_effect f) (calls_in v) d e ((ways c v).value e).1 s gv,
      (
        e,
        n,
        refl,
        fits.1,
        (λ m. calm_more d.variables e.variables hs gf.variables (quiet (or_second (makes_effect f) (makes v) m))),
        stage_second g k h (calls_in_effect f) (calls_in v) d e ((ways c v).value e).1 s gf,
        l,
      ),
    )

-- ---- assignments to names

pub assign_laid : (g : Whole) (k : ℕ) (h : Place) (x : Exits) (at : Pos) (t : IntType) (y : Variable) (e : ValueTree) (w : Work) (p : ℕ) (hs : List Held) → Laid g k h x (work.Evaluate (tree.assign at (tree.scalar t y) e) w) p hs
    → Laid g k h x (work.Evaluate e (work.Assign t (object_of k y) w)) p hs
unfolding target ways IsPlace IsValue calls_at_place calls_in type_of
assign_laid g k h x at t y e w p hs (d, n, is, fits, quiet, s, l) =
    let c = context_of g k in
    let r = (ways c e).value d in
    let ge = (ways_grow c e).value d in
    let f = emit (Set (variable_of c y d) (conversion (type_of e) t r.0)) r.1 in
    let last = emit_grows Uncalled (Set (variable_of c y d) (conversion (type_of e) t r.0)) r.1 in
    let ns = stage_names g k h _ (IsCalled c (calls_in e)) d f s (grows_trans ge (emit_grows (IsCalled c (calls_in e)) (Set (variable_of c y d) (conversion (type_of e) t r.0)) r.1)) in (
      d,
      n,
      is,
      fits.1,
      (λ m. quiet refl),
      stage_until g k h _ d r.1 f s last,
      (
        r.1.points,
        has_kind g k n (scalar_kind t) y s.path fits.0,
        writes_scalar g k h d.variables y (λ u. conversion (type_of e) t r.0) d r.1 hs _ ns s ge (quiet refl),
        subst (λ u. Laid g k h x w r.1.points (held (variable u) t ∷ hs)) (variable_is c y d ns) l,
      ),
    )

pub update_laid : (g : Whole) (k : ℕ) (h : Place) (x : Exits) (op : Op) (at : Pos) (o t : IntType) (y : Variable) (e : ValueTree) (w : Work) (p : ℕ) (hs : List Held)
    → Laid g k h x (work.Evaluate (tree.update op at o (tree.scalar t y) e) w) p hs → Laid g k h x (work.Evaluate e (work.Update op at o t (object_of k y) w)) p hs
unfolding target ways IsPlace IsValue calls_at_place calls_in type_of
update_laid g k h x op at o t y e w p hs (d, n, is, fits, quiet, s, l) =
    let c = context_of g k in
    let r = (ways c e).value d in
    let ge = (ways_grow c e).value d in
    let i = Set (variable_of c y d) (updated_tree op (site c at) o t (type_of e) (variable (variable_of c y d)) r.0) in
    let ns = stage_names g k h _ (IsCalled c (calls_in e)) d (emit i r.1) s (grows_trans ge (emit_grows (IsCalled c (calls_in e)) i r.1)) in (
      d,
      n,
      is,
      fits.2,
      (λ m. quiet refl),
      stage_until g k h _ d r.1 (emit i r.1) s (emit_grows Uncalled i r.1),
      (
        r.1.points,
        has_kind g k n (scalar_kind t) y s.path fits.1,
        writes_scalar g k h d.variables y (λ u. updated_tree op (site c at) o t (type_of e) (variable u) r.0) d r.1 hs _ ns s ge (quiet refl),
        subst (λ u. Laid g k h x w r.1.points (held (variable u) t ∷ hs)) (variable_is c y d ns) l,
      ),
    )
