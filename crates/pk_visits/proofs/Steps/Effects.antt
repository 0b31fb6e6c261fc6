-- From the work of an expression whose value isn't used to that of its parts.
use Rattle.std.proofs.Common.{◌≡◌, ℕ, List, ◌∷◌, Bool, true, false, not, ◌||◌, if◌then◌else◌, refl, sym, ◌∙◌, subst, inl, inr, arith, append-nil}
use Rattle.std.specs.Prelude.{pos}
use Rattle.pk_ctypes.specs.declared.places.Pos.{Pos}
use Rattle.pk_ctypes.specs.declared.types.IntType.{IntType}
use Rattle.pk_ctypes.specs.declared.types.IntType.TheVariants.{Int}
use Rattle.pk_ctypes.specs.declared.types.Op.{Op}
use Rattle.pk_ctypes.specs.Types.{InType, represents}
use Rattle.pk_ctypes.proofs.Wrapped.{zero_in}
use Rattle.pk_typed.specs.declared.values.Variable.{Variable}
use Rattle.pk_typed.specs.Trees.{ValueTree, EffectTree}
use Rattle.pk_typed.specs.Trees as tree
use Rattle.pk_typed.specs.Types.{type_of}
use Rattle.pk_welltyped.specs.Listed.{Numbered, calls_at_place, calls_in, calls_in_effect}
use Rattle.pk_welltyped.specs.WellTyped.{IsPlace, IsValue, IsEffect}
use Rattle.pk_graph.specs.Trees.{variable, Set, Check}
use Rattle.pk_draft.specs.Drafts.{Given, at, fresh, emit, with_temporary, next_temporary}
use Rattle.pk_draft.specs.Folding.{conversion, updated_tree}
use Rattle.pk_lower_row.specs.declared.shapes.Shape.{Shape}
use Rattle.pk_lower_row.specs.declared.shapes.Shape.TheVariants.{Fixed, Temporary, Named, Other}
use Rattle.pk_lower_row.specs.Shapes.{makes, makes_effect, shape_of, is_plain}
use Rattle.pk_lower_row.specs.Contexts.{variable_of, site}
use Rattle.pk_lower_row.specs.Rows as rows
use Rattle.pk_lower_row.specs.Rows.{one_tree, stored_unless}
use Rattle.pk_lower_expression.specs.Expressions.{target, ways, performed}
use Rattle.pk_lower_statement.specs.declared.statements.Exits.{Exits}
use Rattle.pk_meaning.specs.Programs as program
use Rattle.pk_meaning.specs.Programs.{object_of}
use Rattle.pk_meaning.specs.Work as work
use Rattle.pk_meaning.specs.Work.{Place, Work, Onward, Refused}
use Rattle.pk_meaning.specs.Steps as meaning
use Rattle.pk_visits.proofs.Slots.{Slot, slots, SlotTree, Draft, Grows, Uncalled}
use Rattle.pk_visits.proofs.Grows.Rows.{grows_refl, grows_trans, emit_grows, fresh_one_grows, unless_grows}
use Rattle.pk_visits.proofs.Grows.Expressions.{lowered}
use Rattle.pk_visits.proofs.Steps.Tells.{Tells, shapes, sane}
use Rattle.pk_visits.proofs.Stands.{Whole, context_of, Held, held, around, AreCalm, AreQuiet, IsPlain, Stage, Laid, IsCalled}
use Rattle.pk_visits.proofs.Stages.{ways_grow, effect_grows, stage_first, stage_second, stage_until, stage_from, stage_edge}
use Rattle.pk_visits.proofs.Operands.{calm_more}
use Rattle.pk_visits.proofs.Steps.Trees.{stage_names, has_kind, or_first, or_second, writes_scalar}
use Rattle.pk_visits.proofs.Steps.ElementTrees.{writes_temporary, put_laid, renew_laid}
use Rattle.pk_visits.proofs.Steps.Conditions.{shows_fresh}
use Rattle.pk_visits.proofs.Steps.Operators.{one_in}
use Rattle.pk_visits.proofs.Doom.{calm_plain}
use Rattle.pk_graph.specs.Kinds.{scalar_kind}

-- a tree of a plain shape
plain_shape : (n : ℕ) (s : Shape) (e : SlotTree) → Tells n s e → is_plain s ≡ true → IsPlain e
plain_shape n (Fixed z) e h k = subst IsPlain (sym h.1) tt
plain_shape n Temporary e h k = subst IsPlain (sym h.2) tt
plain_shape n Named e h k = subst IsPlain (sym h.1) tt
plain_shape n Other e h k = absurd (grind (arith, k))

-- what waits is dropped, or put in a temporary
drop_unless : (g : Whole) (k : ℕ) (h : Place) (x : Exits) (w : Work) (b : Bool) (t : IntType) (d : Draft) (r : Given Slot) (hs : List Held) (xs : List Numbered)
    → r.1.names ≡ slots → (b ≡ true → IsPlain r.0) → (b ≡ false → AreCalm r.1.variables hs) → Grows (IsCalled (context_of g k) xs) d r.1 → Stage g k h xs d (stored_unless b t r).1 → Laid g k h x w (stored_unless b t r).1.point hs
    → Laid g k h x (work.Drop w) r.1.point (held r.0 t ∷ hs)
drop_unless g k h x w true t d r hs xs ns plain calm z s l = inl (plain refl, l)
drop_unless g k h x w false t d r hs xs ns plain calm z s l =
    inr (r.1.points, r.1.variables, writes_temporary g k h r.1.variables t (λ y. Set y r.0) d r.1 (emit (Set (next_temporary r.1) r.0) (with_temporary t r.1)) hs Uncalled xs ns s z (grows_refl Uncalled (emit (Set (next_temporary r.1) r.0) (with_temporary t r.1))) (omega arith) (calm refl), l)

not_true : (b : Bool) → b ≡ false → not b ≡ true
not_true true h = absurd (grind (arith, h))
not_true false h = refl

-- an expression whose tree is dropped
pub drop_laid : (g : Whole) (k : ℕ) (h : Place) (x : Exits) (v : ValueTree) (w : Work) (n : ℕ) (d : Draft) (hs : List Held)
    → (ways (context_of g k) v).unused d ≡ rows.dropped (shape_of v) (type_of v) ((ways (context_of g k) v).value d)
    → IsValue (around g k n) v → AreQuiet (makes v || not (is_plain (shape_of v))) d.variables hs → Stage g k h (calls_in v) d ((ways (context_of g k) v).unused d)
    → Laid g k h x w ((ways (context_of g k) v).unused d).point hs → Laid g k h x (work.Evaluate v (work.Drop w)) d.point hs
drop_laid g k h x v w n d hs same fits quiet s l =
    let c = context_of g k in
    let r = (ways c v).value d in
    let gv = (ways_grow c v).value d in
    let f = rows.dropped (shape_of v) (type_of v) r in
    let s' = subst (λ e. Stage g k h (calls_in v) d e) same s in
    let l' = subst (λ (e : Draft). Laid g k h x w e.point hs) same l in
    let ns = stage_names g k h _ (IsCalled c (calls_in v)) d f s' (grows_trans gv (unless_grows (IsCalled c (calls_in v)) (is_plain (shape_of v)) (type_of v) r)) in
    let le = gv.variables in (
      d,
      n,
      refl,
      fits,
      (λ m. quiet (or_first (makes v) (not (is_plain (shape_of v))) m)),
      stage_until g k h _ d r.1 f s' (unless_grows Uncalled (is_plain (shape_of v)) (type_of v) r),
      drop_unless g k h x w (is_plain (shape_of v)) (type_of v) d r hs _ (gv.names ∙ ns) (plain_shape r.1.variables (shape_of v) r.0 (shapes c v d ns))
          (λ m. calm_more d.variables r.1.variables hs le (quiet (or_second (makes v) (not (is_plain (shape_of v))) (not_true (is_plain (shape_of v)) m)))) gv s' l',
    )

-- ---- unused values

by_drop : (g : Whole) (k : ℕ) (h : Place) (x : Exits) (v : ValueTree) (w : Work) (p : ℕ) (hs : List Held)
    → ((d : Draft) → (ways (context_of g k) v).unused d ≡ rows.dropped (shape_of v) (type_of v) ((ways (context_of g k) v).value d))
    → Laid g k h x (work.Perform (tree.unused v) w) p hs → Laid g k h x (work.Evaluate v (work.Drop w)) p hs
unfolding performed IsEffect calls_in_effect
by_drop g k h x v w p hs same (d, n, is, fits, quiet, s, l) =
    subst (λ q. Laid g k h x (work.Evaluate v (work.Drop w)) q hs) is (drop_laid g k h x v w n d hs (same d) fits quiet s l)

advance_laid : (g : Whole) (k : ℕ) (h : Place) (x : Exits) (op : Op) (at' : Pos) (o t : IntType) (y : Variable) (prefix : Bool) (w : Work) (p : ℕ) (hs : List Held)
    → Laid g k h x (work.Perform (tree.unused (tree.step op at' o (tree.scalar t y) prefix)) w) p hs → Laid g k h x (work.Advance op at' o t (object_of k y) w) p hs
unfolding target ways performed IsPlace IsValue IsEffect calls_at_place calls_in calls_in_effect type_of
advance_laid g k h x op at' o t y true w p hs (d, n, is, fits, quiet, s, l) =
    let c = context_of g k in
    let i = Set (variable_of c y d) (updated_tree op (site c at') o t Int (variable (variable_of c y d)) one_tree) in
    let ns = stage_names g k h _ Uncalled d (emit i d) s (emit_grows Uncalled i d) in
    subst (λ q. Laid g k h x (work.Advance op at' o t (object_of k y) w) q hs) is (
      d.points,
      has_kind g k n (scalar_kind t) y s.path fits.1,
      writes_scalar g k h d.variables y (λ u. updated_tree op (site c at') o t Int (variable u) one_tree) d d hs _ ns s (grows_refl _ d) (quiet refl),
      l,
    )
advance_laid g k h x op at' o t y false w p hs (d, n, is, fits, quiet, s, l) =
    let c = context_of g k in
    let i = Set (variable_of c y d) (updated_tree op (site c at') o t Int (variable (variable_of c y d)) one_tree) in
    let ns = stage_names g k h _ Uncalled d (emit i d) s (emit_grows Uncalled i d) in
    subst (λ q. Laid g k h x (work.Advance op at' o t (object_of k y) w) q hs) is (
      d.points,
      has_kind g k n (scalar_kind t) y s.path fits.1,
      writes_scalar g k h d.variables y (λ u. updated_tree op (site c at') o t Int (variable u) one_tree) d d hs _ ns s (grows_refl _ d) (quiet refl),
      l,
    )

pub unused_laid : (g : Whole) (k : ℕ) (h : Place) (x : Exits) (v : ValueTree) (w : Work) (p : ℕ) (hs : List Held) → Laid g k h x (work.Perform (tree.unused v) w) p hs → Laid g k h x (meaning.unused g.program k v w) p hs
unfolding target ways performed IsPlace IsValue IsEffect calls_at_place calls_in calls_in_effect type_of
unused_laid g k h x (tree.constant t z) w p hs l = by_drop g k h x (tree.constant t z) w p hs (λ d. refl) l
unused_laid g k h x (tree.read (tree.scalar t y)) w p hs l = by_drop g k h x (tree.read (tree.scalar t y)) w p hs (λ d. refl) l
unused_laid g k h x (tree.read (tree.element t y q i)) w p hs l = by_drop g k h x (tree.read (tree.element t y q i)) w p hs (λ d. refl) l
unused_laid g k h x (tree.assign q (tree.scalar t y) e) w p hs l = by_drop g k h x (tree.assign q (tree.scalar t y) e) w p hs (λ d. refl) l
unused_laid g k h x (tree.assign q (tree.element t y r i) e) w p hs (d, n, is, fits, quiet, s, l) =
    let b = program.array_of g.program k t y in
    subst (λ m. Laid g k h x (work.Evaluate i (work.Keep (work.Evaluate e (work.Store r b w)))) m hs) is (put_laid g k h x r t y i e w n d hs fits.0.0 fits.0.1 fits.1 (quiet refl) s l)
unused_laid g k h x (tree.update op q o (tree.scalar t y) e) w p hs l = by_drop g k h x (tree.update op q o (tree.scalar t y) e) w p hs (λ d. refl) l
unused_laid g k h x (tree.update op q o (tree.element t y r i) e) w p hs (d, n, is, fits, quiet, s, l) =
    let b = program.array_of g.program k t y in
    subst (λ m. Laid g k h x (meaning.reload r b i e (work.Renew op q o r b w)) m hs) is (renew_laid g k h x op q o r t y i e w n d hs fits.1.0 fits.1.1 fits.2 (quiet refl) s l)
unused_laid g k h x (tree.step op q o (tree.scalar t y) prefix) w p hs l = advance_laid g k h x op q o t y prefix w p hs l
unused_laid g k h x (tree.step op q o (tree.element t y r i) true) w p hs (d, n, is, fits, quiet, s, l) =
    let b = program.array_of g.program k t y in
    subst (λ m. Laid g k h x (meaning.reload r b i meaning.one (work.Renew op q o r b w)) m hs) is
    (renew_laid g k h x op q o r t y i meaning.one w n d hs fits.1.0 fits.1.1 one_in (quiet refl) (subst (λ zs. Stage g k h zs d (performed (context_of g k) (tree.unused (tree.step op q o (tree.element t y r i) true)) d)) (sym (append-nil (calls_in i))) s) l)
unused_laid g k h x (tree.step op q o (tree.element t y r i) false) w p hs (d, n, is, fits, quiet, s, l) =
    let b = program.array_of g.program k t y in
    subst (λ m. Laid g k h x (meaning.reload r b i meaning.one (work.Renew op q o r b w)) m hs) is
    (renew_laid g k h x op q o r t y i meaning.one w n d hs fits.1.0 fits.1.1 one_in (quiet refl) (subst (λ zs. Stage g k h zs d (performed (context_of g k) (tree.unused (tree.step op q o (tree.element t y r i) false)) d)) (sym (append-nil (calls_in i))) s) l)
unused_laid g k h x (tree.call t f m q es) w p hs l = by_drop g k h x (tree.call t f m q es) w p hs (λ d. refl) l
unused_laid g k h x (tree.any t q) w p hs l = by_drop g k h x (tree.any t q) w p hs (λ d. refl) l
unused_laid g k h x (tree.unary op q t e) w p hs l = by_drop g k h x (tree.unary op q t e) w p hs (λ d. refl) l
unused_laid g k h x (tree.convert t e) w p hs l = by_drop g k h x (tree.convert t e) w p hs (λ d. refl) l
unused_laid g k h x (tree.binary op q t a b) w p hs l = by_drop g k h x (tree.binary op q t a b) w p hs (λ d. refl) l
unused_laid g k h x (tree.and a b) w p hs l = by_drop g k h x (tree.and a b) w p hs (λ d. refl) l
unused_laid g k h x (tree.or a b) w p hs l = by_drop g k h x (tree.or a b) w p hs (λ d. refl) l
unused_laid g k h x (tree.conditional t e a b) w p hs l = by_drop g k h x (tree.conditional t e a b) w p hs (λ d. refl) l
unused_laid g k h x (tree.then_value f v) w p hs (d, n, is, fits, quiet, s, l) =
    let c = context_of g k in
    let e = performed c f d in
    let gf = effect_grows c f d in
    let gv = (ways_grow c v).unused e in
    let whole = makes_effect f || makes v in
    let rest = not (is_plain (shape_of v)) in (
      d,
      n,
      is,
      fits.0,
      (λ m. quiet (or_first whole rest (or_first (makes_effect f) (makes v) m))),
      stage_first g k h (calls_in_effect f) (calls_in v) d e ((ways c v).unused e) s gv,
      (
        e,
        n,
        refl,
        fits.1,
        (λ m. calm_more d.variables e.variables hs gf.variables (quiet (regroup (makes_effect f) (makes v) rest m))),
        stage_second g k h (calls_in_effect f) (calls_in v) d e ((ways c v).unused e) s gf,
        l,
      ),
    ) where
      regroup : (a b c : Bool) → (b || c) ≡ true → ((a || b) || c) ≡ true
      regroup true b c h = refl
      regroup false b c h = h

-- ---- effects

pub assert_laid : (g : Whole) (k : ℕ) (h : Place) (x : Exits) (q : Pos) (v : ValueTree) (w : Work) (p : ℕ) (hs : List Held) → Laid g k h x (work.Perform (tree.assert q v) w) p hs
    → Laid g k h x (work.Evaluate v (work.Claim q w)) p hs
unfolding performed IsEffect calls_in_effect
assert_laid g k h x q v w p hs (d, n, is, fits, quiet, s, l) =
    let c = context_of g k in
    let r = (ways c v).value d in
    let gv = (ways_grow c v).value d in
    let i = Check (site c q) (conversion (type_of v) Int r.0) in
    let z = stage_edge g k h Uncalled _ d r.1 (emit i r.1) i s gv (grows_refl Uncalled (emit i r.1)) in
    (d, n, is, fits, (λ m. quiet refl), stage_until g k h _ d r.1 (emit i r.1) s (emit_grows Uncalled i r.1), (calm_plain d.variables hs (quiet refl), r.1.points, z.0, z.1, l))

pub then_effect_laid : (g : Whole) (k : ℕ) (h : Place) (x : Exits) (a b : EffectTree) (w : Work) (p : ℕ) (hs : List Held) → Laid g k h x (work.Perform (tree.then_effect a b) w) p hs
    → Laid g k h x (work.Perform a (work.Perform b w)) p hs
unfolding performed IsEffect calls_in_effect
then_effect_laid g k h x a b w p hs (d, n, is, fits, quiet, s, l) =
    let c = context_of g k in
    let e = performed c a d in
    let ga = effect_grows c a d in
    let gb = effect_grows c b e in (
      d,
      n,
      is,
      fits.0,
      (λ m. quiet (or_first (makes_effect a) (makes_effect b) m)),
      stage_first g k h (calls_in_effect a) (calls_in_effect b) d e (performed c b e) s gb,
      (
        e,
        n,
        refl,
        fits.1,
        (λ m. calm_more d.variables e.variables hs ga.variables (quiet (or_second (makes_effect a) (makes_effect b) m))),
        stage_second g k h (calls_in_effect a) (calls_in_effect b) d e (performed c b e) s ga,
        l,
      ),
    )

-- an assumption, which holds from here on
assumed_laid : (g : Whole) (k : ℕ) (h : Place) (x : Exits) (v : ValueTree) (w : Work) (n : ℕ) (d : Draft) (hs : List Held) → IsValue (around g k n) v → AreCalm d.variables hs
    → Stage g k h (calls_in v) d (rows.assumed (ways (context_of g k) v) d) → Laid g k h x w d.points hs → Laid g k h x (work.Test v (Onward h w) Refused) d.point hs
assumed_laid g k h x v w n d hs fits calm s l =
    let c = context_of g k in
    let e = (ways c v).choice d.points 0 (fresh 1 d) in
    let s0 = stage_from g k h _ d (fresh 1 d) (at d.points e) s (fresh_one_grows Uncalled d) in (
      fresh 1 d,
      n,
      d.points,
      0,
      refl,
      fits,
      calm,
      stage_until g k h _ (fresh 1 d) e (at d.points e) s0 (grows_refl Uncalled e),
      (shows_fresh g k h _ d (at d.points e) s ((sane c v).choice d.points 0 (fresh 1 d)), (x, l)),
      refl,
    )

pub assume_laid : (g : Whole) (k : ℕ) (h : Place) (x : Exits) (q : Pos) (v : ValueTree) (w : Work) (p : ℕ) (hs : List Held) → Laid g k h x (work.Perform (tree.assume q v) w) p hs
    → Laid g k h x (work.Test (meaning.as_int v) (Onward h w) Refused) p hs
unfolding ways performed IsValue IsEffect calls_in calls_in_effect
assume_laid g k h x q v w p hs (d, n, is, fits, quiet, s, l) = by (represents Int (type_of v)) s where
  by : (b : Bool) → Stage g k h (calls_in v) d (rows.assumed (if b then ways (context_of g k) v else rows.convert_ways Int (lowered (context_of g k) v)) d)
      → Laid g k h x (work.Test (if b then v else tree.convert Int v) (Onward h w) Refused) p hs
  by true s = subst (λ m. Laid g k h x (work.Test v (Onward h w) Refused) m hs) is (assumed_laid g k h x v w n d hs fits (quiet refl) s l)
  by false s = subst (λ m. Laid g k h x (work.Test (tree.convert Int v) (Onward h w) Refused) m hs) is (assumed_laid g k h x (tree.convert Int v) w n d hs fits (quiet refl) s l)

pub abort_laid : (g : Whole) (k : ℕ) (h : Place) (x : Exits) (q : Pos) (w : Work) (p : ℕ) (hs : List Held) → Laid g k h x (work.Perform (tree.abort q) w) p hs
    → Laid g k h x (work.Test (tree.constant Int (pos 0)) (Onward h w) Refused) p hs
unfolding ways performed IsValue IsEffect calls_in calls_in_effect
abort_laid g k h x q w p hs (d, n, is, fits, quiet, s, l) =
    subst (λ m. Laid g k h x (work.Test (tree.constant Int (pos 0)) (Onward h w) Refused) m hs) is (assumed_laid g k h x (tree.constant Int (pos 0)) w n d hs zero_in_int (quiet refl) s l) where
      zero_in_int : InType Int (pos 0)
      zero_in_int = let z = zero_in Int in record { from = z.0; to = z.1 }
