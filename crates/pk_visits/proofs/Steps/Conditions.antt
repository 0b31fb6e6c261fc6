-- From a test to its parts.
use Rattle.std.proofs.Common.{◌≡◌, ℕ, List, ◌++◌, true, false, refl, subst, arith}
use Rattle.pk_ctypes.specs.declared.places.Pos.{Pos}
use Rattle.pk_ctypes.specs.declared.types.IntType.{IntType}
use Rattle.pk_ctypes.specs.declared.types.Op.{Op}
use Rattle.pk_ctypes.specs.declared.types.Op.TheVariants.{Add, Sub, Mul, Div, Rem, Shl, Shr, And, Or, Xor, Lt, Gt, Le, Ge, Eq, Ne, Neg, BitNot, Not}
use Rattle.pk_typed.specs.Trees.{ValueTree, EffectTree}
use Rattle.pk_typed.specs.Trees as tree
use Rattle.pk_welltyped.specs.Listed.{Numbered, calls_in, calls_in_effect}
use Rattle.pk_welltyped.specs.WellTyped.{IsValue}
use Rattle.pk_graph.specs.Trees.{Guard}
use Rattle.pk_draft.specs.Drafts.{at, fresh, link}
use Rattle.pk_lower_row.specs.Rows as rows
use Rattle.pk_lower_expression.specs.Expressions.{target, ways, performed}
use Rattle.pk_lower_statement.specs.declared.statements.Exits.{Exits}
use Rattle.pk_meaning.specs.Work as work
use Rattle.pk_meaning.specs.Work.{Place, Way, Onward}
use Rattle.pk_meaning.specs.Steps as meaning
use Rattle.pk_visits.proofs.Slots.{Draft, edge, Grows, last_among, Uncalled}
use Rattle.pk_visits.proofs.Grows.Rows.{grows_trans, fresh_one_grows, link_grows, guards_grow}
use Rattle.pk_visits.proofs.Steps.Tells.{sane, Any}
use Rattle.pk_visits.proofs.Stands.{Whole, context_of, Held, around, AreCalm, ShowsAt, Stage, LaidWay, Laid}
use Rattle.pk_visits.proofs.Stages.{ways_grow, effect_grows, stage_first, stage_second, stage_until, stage_from, stage_point, stage_room, fresh_one}
use Rattle.pk_visits.proofs.Operands.{calm_more}
use Rattle.pk_visits.proofs.Doom.{calm_plain}

-- an expression that decides by two guards
pub guards_laid : (g : Whole) (k : ℕ) (h : Place) (x : Exits) (e : ValueTree) (y n : Way) (m i j : ℕ) (d : Draft) (hs : List Held) → IsValue (around g k m) e → AreCalm d.variables hs
    → Stage g k h (calls_in e) d (rows.guards i j ((ways (context_of g k) e).value d)) → LaidWay g k y i hs → LaidWay g k n j hs
    → Laid g k h x (work.Evaluate e (work.Branch y n)) d.point hs
guards_laid g k h x e y n m i j d hs fits calm s ly ln =
    let c = context_of g k in
    let r = (ways c e).value d in
    let t = link (Guard r.0 true) i r.1 in (
      d,
      m,
      refl,
      fits,
      (λ q. calm),
      stage_until g k h (calls_in e) d r.1 (rows.guards i j r) s (guards_grow Uncalled i j r),
      (
        calm_plain d.variables hs calm,
        i,
        j,
        s.leads.edges _ ((link_grows Uncalled (Guard r.0 false) j t).edges _ (last_among r.1.edges (edge r.1.point (Guard r.0 true) i))),
        s.leads.edges _ (last_among t.edges (edge r.1.point (Guard r.0 false) j)),
        ly,
        ln,
      ),
    )

-- ---- `!`, `&&`, `||`, the comma

pub not_laid : (g : Whole) (k : ℕ) (h : Place) (x : Exits) (op : Op) (at' : Pos) (t : IntType) (e : ValueTree) (y n : Way) (p : ℕ) (hs : List Held) → Laid g k h x (work.Test (tree.unary op at' t e) y n) p hs
    → Laid g k h x (meaning.tested h (tree.unary op at' t e) y n) p hs
unfolding ways IsValue calls_in
not_laid g k h x Not at' t e y n p hs (d, m, i, j, is, fits, calm, s, ly, ln) = (d, m, j, i, is, fits.1, calm, s, ln, ly)
not_laid g k h x Neg at' t e y n p hs (d, m, i, j, is, fits, calm, s, ly, ln) =
    subst (λ q. Laid g k h x (work.Evaluate (tree.unary Neg at' t e) (work.Branch y n)) q hs) is (guards_laid g k h x (tree.unary Neg at' t e) y n m i j d hs fits calm s ly ln)
not_laid g k h x BitNot at' t e y n p hs (d, m, i, j, is, fits, calm, s, ly, ln) =
    subst (λ q. Laid g k h x (work.Evaluate (tree.unary BitNot at' t e) (work.Branch y n)) q hs) is (guards_laid g k h x (tree.unary BitNot at' t e) y n m i j d hs fits calm s ly ln)
not_laid g k h x Add at' t e y n p hs (d, m, i, j, is, fits, calm, s, ly, ln) = absurd (let z = fits.0 in grind (arith, z))
not_laid g k h x Sub at' t e y n p hs (d, m, i, j, is, fits, calm, s, ly, ln) = absurd (let z = fits.0 in grind (arith, z))
not_laid g k h x Mul at' t e y n p hs (d, m, i, j, is, fits, calm, s, ly, ln) = absurd (let z = fits.0 in grind (arith, z))
not_laid g k h x Div at' t e y n p hs (d, m, i, j, is, fits, calm, s, ly, ln) = absurd (let z = fits.0 in grind (arith, z))
not_laid g k h x Rem at' t e y n p hs (d, m, i, j, is, fits, calm, s, ly, ln) = absurd (let z = fits.0 in grind (arith, z))
not_laid g k h x Shl at' t e y n p hs (d, m, i, j, is, fits, calm, s, ly, ln) = absurd (let z = fits.0 in grind (arith, z))
not_laid g k h x Shr at' t e y n p hs (d, m, i, j, is, fits, calm, s, ly, ln) = absurd (let z = fits.0 in grind (arith, z))
not_laid g k h x And at' t e y n p hs (d, m, i, j, is, fits, calm, s, ly, ln) = absurd (let z = fits.0 in grind (arith, z))
not_laid g k h x Or at' t e y n p hs (d, m, i, j, is, fits, calm, s, ly, ln) = absurd (let z = fits.0 in grind (arith, z))
not_laid g k h x Xor at' t e y n p hs (d, m, i, j, is, fits, calm, s, ly, ln) = absurd (let z = fits.0 in grind (arith, z))
not_laid g k h x Lt at' t e y n p hs (d, m, i, j, is, fits, calm, s, ly, ln) = absurd (let z = fits.0 in grind (arith, z))
not_laid g k h x Gt at' t e y n p hs (d, m, i, j, is, fits, calm, s, ly, ln) = absurd (let z = fits.0 in grind (arith, z))
not_laid g k h x Le at' t e y n p hs (d, m, i, j, is, fits, calm, s, ly, ln) = absurd (let z = fits.0 in grind (arith, z))
not_laid g k h x Ge at' t e y n p hs (d, m, i, j, is, fits, calm, s, ly, ln) = absurd (let z = fits.0 in grind (arith, z))
not_laid g k h x Eq at' t e y n p hs (d, m, i, j, is, fits, calm, s, ly, ln) = absurd (let z = fits.0 in grind (arith, z))
not_laid g k h x Ne at' t e y n p hs (d, m, i, j, is, fits, calm, s, ly, ln) = absurd (let z = fits.0 in grind (arith, z))

pub shows_fresh : (g : Whole) (k : ℕ) (h : Place) (xs : List Numbered) (d f : Draft) → Stage g k h xs d f → Grows Any (fresh 1 d) f → ShowsAt g d.points k h
shows_fresh g k h xs d f s u =
    let a = stage_room g k h Any xs d (fresh 1 d) f s u in
    let q = (fresh_one_grows Uncalled d).size in
    stage_point g k h Any xs d (fresh 1 d) f d.points s refl u (omega arith) (omega arith) (fresh_one d (omega (arith, a, q)))

pub both_laid : (g : Whole) (k : ℕ) (h : Place) (x : Exits) (a b : ValueTree) (y n : Way) (p : ℕ) (hs : List Held) → Laid g k h x (work.Test (tree.and a b) y n) p hs
    → Laid g k h x (work.Test a (Onward h (work.Test b y n)) n) p hs
unfolding ways IsValue calls_in
both_laid g k h x a b y n p hs (d, m, i, j, is, fits, calm, s, ly, ln) =
    let c = context_of g k in
    let e = (ways c a).choice d.points j (fresh 1 d) in
    let f = (ways c b).choice i j (at d.points e) in
    let ga = (ways_grow c a).choice d.points j (fresh 1 d) in
    let gb = (ways_grow c b).choice i j (at d.points e) in
    let s0 = stage_from g k h (calls_in a ++ calls_in b) d (fresh 1 d) f s (fresh_one_grows Uncalled d) in
    let va = ga.variables in (
      fresh 1 d,
      m,
      d.points,
      j,
      is,
      fits.0,
      calm,
      stage_first g k h (calls_in a) (calls_in b) (fresh 1 d) e f s0 gb,
      (
        shows_fresh g k h _ d f s (grows_trans ((sane c a).choice d.points j (fresh 1 d)) ((sane c b).choice i j (at d.points e))),
        (x, (at d.points e, m, i, j, refl, fits.1, calm_more d.variables e.variables hs va calm, stage_second g k h (calls_in a) (calls_in b) (fresh 1 d) (at d.points e) f s0 ga, ly, ln)),
      ),
      ln,
    )

pub either_laid : (g : Whole) (k : ℕ) (h : Place) (x : Exits) (a b : ValueTree) (y n : Way) (p : ℕ) (hs : List Held) → Laid g k h x (work.Test (tree.or a b) y n) p hs
    → Laid g k h x (work.Test a y (Onward h (work.Test b y n))) p hs
unfolding ways IsValue calls_in
either_laid g k h x a b y n p hs (d, m, i, j, is, fits, calm, s, ly, ln) =
    let c = context_of g k in
    let e = (ways c a).choice i d.points (fresh 1 d) in
    let f = (ways c b).choice i j (at d.points e) in
    let ga = (ways_grow c a).choice i d.points (fresh 1 d) in
    let gb = (ways_grow c b).choice i j (at d.points e) in
    let s0 = stage_from g k h (calls_in a ++ calls_in b) d (fresh 1 d) f s (fresh_one_grows Uncalled d) in
    let va = ga.variables in (
      fresh 1 d,
      m,
      i,
      d.points,
      is,
      fits.0,
      calm,
      stage_first g k h (calls_in a) (calls_in b) (fresh 1 d) e f s0 gb,
      ly,
      (
        shows_fresh g k h _ d f s (grows_trans ((sane c a).choice i d.points (fresh 1 d)) ((sane c b).choice i j (at d.points e))),
        (x, (at d.points e, m, i, j, refl, fits.1, calm_more d.variables e.variables hs va calm, stage_second g k h (calls_in a) (calls_in b) (fresh 1 d) (at d.points e) f s0 ga, ly, ln)),
      ),
    )

pub comma_laid : (g : Whole) (k : ℕ) (h : Place) (x : Exits) (f : EffectTree) (v : ValueTree) (y n : Way) (p : ℕ) (hs : List Held) → Laid g k h x (work.Test (tree.then_value f v) y n) p hs
    → Laid g k h x (work.Perform f (work.Test v y n)) p hs
unfolding ways IsValue calls_in
comma_laid g k h x f v y n p hs (d, m, i, j, is, fits, calm, s, ly, ln) =
    let c = context_of g k in
    let e = performed c f d in
    let gf = effect_grows c f d in
    let gv = (ways_grow c v).choice i j e in (
      d,
      m,
      is,
      fits.0,
      (λ q. calm),
      stage_first g k h (calls_in_effect f) (calls_in v) d e ((ways c v).choice i j e) s gv,
      (
        e,
        m,
        i,
        j,
        refl,
        fits.1,
        calm_more d.variables e.variables hs gf.variables calm,
        stage_second g k h (calls_in_effect f) (calls_in v) d e ((ways c v).choice i j e) s gf,
        ly,
        ln,
      ),
    )

-- ---- every test

by_guards : (g : Whole) (k : ℕ) (h : Place) (x : Exits) (e : ValueTree) (y n : Way) (p : ℕ) (hs : List Held)
    → ((i j : ℕ) (d : Draft) → (ways (context_of g k) e).choice i j d ≡ rows.guards i j ((ways (context_of g k) e).value d))
    → Laid g k h x (work.Test e y n) p hs → Laid g k h x (work.Evaluate e (work.Branch y n)) p hs
by_guards g k h x e y n p hs is (d, m, i, j, at', fits, calm, s, ly, ln) =
    subst (λ q. Laid g k h x (work.Evaluate e (work.Branch y n)) q hs) at'
    (guards_laid g k h x e y n m i j d hs fits calm (subst (Stage g k h (calls_in e) d) (is i j d) s) ly ln)

pub tested_laid : (g : Whole) (k : ℕ) (h : Place) (x : Exits) (e : ValueTree) (y n : Way) (p : ℕ) (hs : List Held) → Laid g k h x (work.Test e y n) p hs → Laid g k h x (meaning.tested h e y n) p hs
unfolding target ways
tested_laid g k h x (tree.constant t z) y n p hs l = by_guards g k h x (tree.constant t z) y n p hs (λ i j d. refl) l
tested_laid g k h x (tree.read (tree.scalar t v)) y n p hs l = by_guards g k h x (tree.read (tree.scalar t v)) y n p hs (λ i j d. refl) l
tested_laid g k h x (tree.read (tree.element t v q i)) y n p hs l = by_guards g k h x (tree.read (tree.element t v q i)) y n p hs (λ i j d. refl) l
tested_laid g k h x (tree.assign q (tree.scalar t v) e) y n p hs l = by_guards g k h x (tree.assign q (tree.scalar t v) e) y n p hs (λ i j d. refl) l
tested_laid g k h x (tree.assign q (tree.element t v r i) e) y n p hs l = by_guards g k h x (tree.assign q (tree.element t v r i) e) y n p hs (λ i j d. refl) l
tested_laid g k h x (tree.update op q o (tree.scalar t v) e) y n p hs l = by_guards g k h x (tree.update op q o (tree.scalar t v) e) y n p hs (λ i j d. refl) l
tested_laid g k h x (tree.update op q o (tree.element t v r i) e) y n p hs l = by_guards g k h x (tree.update op q o (tree.element t v r i) e) y n p hs (λ i j d. refl) l
tested_laid g k h x (tree.step op q o (tree.scalar t v) true) y n p hs l = by_guards g k h x (tree.step op q o (tree.scalar t v) true) y n p hs (λ i j d. refl) l
tested_laid g k h x (tree.step op q o (tree.scalar t v) false) y n p hs l = by_guards g k h x (tree.step op q o (tree.scalar t v) false) y n p hs (λ i j d. refl) l
tested_laid g k h x (tree.step op q o (tree.element t v r i) true) y n p hs l = by_guards g k h x (tree.step op q o (tree.element t v r i) true) y n p hs (λ i j d. refl) l
tested_laid g k h x (tree.step op q o (tree.element t v r i) false) y n p hs l = by_guards g k h x (tree.step op q o (tree.element t v r i) false) y n p hs (λ i j d. refl) l
tested_laid g k h x (tree.call t f m q es) y n p hs l = by_guards g k h x (tree.call t f m q es) y n p hs (λ i j d. refl) l
tested_laid g k h x (tree.any t q) y n p hs l = by_guards g k h x (tree.any t q) y n p hs (λ i j d. refl) l
tested_laid g k h x (tree.unary op q t e) y n p hs l = not_laid g k h x op q t e y n p hs l
tested_laid g k h x (tree.convert t e) y n p hs l = by_guards g k h x (tree.convert t e) y n p hs (λ i j d. refl) l
tested_laid g k h x (tree.binary op q t a b) y n p hs l = by_guards g k h x (tree.binary op q t a b) y n p hs (λ i j d. refl) l
tested_laid g k h x (tree.and a b) y n p hs l = both_laid g k h x a b y n p hs l
tested_laid g k h x (tree.or a b) y n p hs l = either_laid g k h x a b y n p hs l
tested_laid g k h x (tree.conditional t e a b) y n p hs l = by_guards g k h x (tree.conditional t e a b) y n p hs (λ i j d. refl) l
tested_laid g k h x (tree.then_value f v) y n p hs l = comma_laid g k h x f v y n p hs l
