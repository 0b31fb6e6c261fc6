-- Two operands in order, the first of which waits.
use Rattle.std.proofs.Common.{◌≡◌, ℕ, ◌+◌, ◌≤◌, List, [], ◌∷◌, ◌++◌, Bool, true, false, refl, sym, ap, ◌∙◌, subst, inl, inr, arith}
use Rattle.pk_ctypes.specs.declared.types.IntType.{IntType}
use Rattle.pk_typed.specs.Trees.{ValueTree}
use Rattle.pk_typed.specs.Types.{type_of}
use Rattle.pk_welltyped.specs.Listed.{Numbered, calls_in}
use Rattle.pk_welltyped.specs.WellTyped.{IsValue}
use Rattle.pk_graph.specs.Trees.{constant, variable, converted, unary, binary, Set}
use Rattle.pk_draft.specs.Drafts.{Given, with_temporary, next_temporary, Names}
use Rattle.pk_draft.specs.declared.drafts.Size.{Size}
use Rattle.pk_lower_row.specs.declared.shapes.Shape.{Shape}
use Rattle.pk_lower_row.specs.declared.shapes.Shape.TheVariants.{Fixed, Temporary, Named, Other}
use Rattle.pk_lower_row.specs.declared.shapes.Waiting.{Waiting}
use Rattle.pk_lower_row.specs.declared.shapes.Waiting.TheVariants.{Loose, Strong, Weak}
use Rattle.pk_lower_row.specs.Shapes.{makes, shape_of, stays}
use Rattle.pk_lower_row.specs.Rows.{two, stored_unless}
use Rattle.pk_lower_row.specs.Rows as rows
use Rattle.pk_lower_expression.specs.Expressions.{ways}
use Rattle.pk_lower_statement.specs.declared.statements.Exits.{Exits}
use Rattle.pk_meaning.specs.Objects.{Object}
use Rattle.pk_meaning.specs.Work.{Place, Work, Keep, Evaluate}
use Rattle.pk_visits.proofs.Slots.{Slot, own, temporary, slots, Draft, SlotTree, Grows, Uncalled}
use Rattle.pk_visits.proofs.Grows.Rows.{grows_trans, temporary_grows, held_grows, loosened}
use Rattle.pk_visits.proofs.Grows.Expressions.{lowered}
use Rattle.pk_visits.proofs.Steps.Tells.{Tells, shapes}
use Rattle.pk_visits.proofs.Stands.{Whole, context_of, Held, held, around, IsApart, AreApart, IsCalm, AreCalm, AreQuiet, ArePlain, Stage, Laid, IsCalled}
use Rattle.pk_visits.proofs.Stages.{ways_grow, stage_first, stage_second, stage_until, stage_edge, first_called}
use Rattle.pk_visits.proofs.Doom.{calm_plain}

-- ---- calm trees

abbrev is_own : Slot → Type 0
is_own (own y) = Unit {0}
is_own (temporary k) = ⊥

abbrev number_of_slot : Slot → ℕ
number_of_slot (own x) = 0
number_of_slot (temporary n) = n

calm_own : (n : ℕ) (x : Object) (e : SlotTree) → IsCalm n e → IsApart (own x) e
calm_own n x (constant t z) c = tt
calm_own n x (variable (own y)) c = absurd c
calm_own n x (variable (temporary m)) c = λ e. subst is_own e tt
calm_own n x (converted t e) c = absurd c
calm_own n x (unary op s t e) c = absurd c
calm_own n x (binary op s t a b) c = absurd c

calm_temporary : (n k : ℕ) (e : SlotTree) → n ≤ k → IsCalm n e → IsApart (temporary k) e
calm_temporary n k (constant t z) le c = tt
calm_temporary n k (variable (own y)) le c = absurd c
calm_temporary n k (variable (temporary m)) le c = λ e. let same : k ≡ m = ap number_of_slot e in absurd (omega (arith, le, c, same))
calm_temporary n k (converted t e) le c = absurd c
calm_temporary n k (unary op s t e) le c = absurd c
calm_temporary n k (binary op s t a b) le c = absurd c

pub all_own : (n : ℕ) (x : Object) (hs : List Held) → AreCalm n hs → AreApart (own x) hs
all_own n x [] c = tt
all_own n x (h ∷ hs) c = (calm_own n x h.tree c.0, all_own n x hs c.1)

pub all_temporary : (n k : ℕ) (hs : List Held) → n ≤ k → AreCalm n hs → AreApart (temporary k) hs
all_temporary n k [] le c = tt
all_temporary n k (h ∷ hs) le c = (calm_temporary n k h.tree le c.0, all_temporary n k hs le c.1)

tree_more : (m n : ℕ) (e : SlotTree) → m ≤ n → IsCalm m e → IsCalm n e
tree_more m n (constant t z) le c = tt
tree_more m n (variable (own y)) le c = absurd c
tree_more m n (variable (temporary k)) le c = omega (arith, le, c)
tree_more m n (converted t e) le c = absurd c
tree_more m n (unary op s t e) le c = absurd c
tree_more m n (binary op s t a b) le c = absurd c

pub calm_more : (m n : ℕ) (hs : List Held) → m ≤ n → AreCalm m hs → AreCalm n hs
calm_more m n [] le c = tt
calm_more m n (h ∷ hs) le c = (tree_more m n h.tree le c.0, calm_more m n hs le c.1)

-- a new temporary by its number
pub next_is : (d : Draft) → d.names ≡ slots → next_temporary d ≡ temporary d.variables
next_is d n = ap (λ (ns : Names Slot). ns.temporary d.variables) n

-- a tree that was held strongly is calm
pub held_calm : (s : Shape) (t : IntType) (r : Given Slot) → r.1.names ≡ slots → Tells r.1.variables s r.0 → IsCalm (rows.held Strong s t r).1.variables (rows.held Strong s t r).0
held_calm (Fixed z) t r n h = subst (IsCalm r.1.variables) (sym h.1) tt
held_calm Temporary t r n h = subst (IsCalm r.1.variables) (sym h.2) h.1
held_calm Named t r n h = subst (λ y. IsCalm (r.1.variables + 1) (variable y)) (sym (next_is r.1 n)) (omega arith)
held_calm Other t r n h = subst (λ y. IsCalm (r.1.variables + 1) (variable y)) (sym (next_is r.1 n)) (omega arith)

-- ---- an operand that waits

abbrev pub UnlessLoose : Waiting → Type 0 → Type 0
UnlessLoose Loose A = Unit {0}
UnlessLoose Strong A = A
UnlessLoose Weak A = A

keep_unless : (g : Whole) (k : ℕ) (h : Place) (x : Exits) (w : Work) (b : Bool) (t : IntType) (r : Given Slot) (hs : List Held) (E : ℕ → Size → Type 0) (xs : List Numbered) (d f : Draft)
    → Stage g k h xs d f → Grows (IsCalled (context_of g k) xs) d r.1 → Grows E (stored_unless b t r).1 f → r.1.names ≡ slots → AreApart (temporary r.1.variables) hs × ArePlain hs
    → Laid g k h x w (stored_unless b t r).1.point (held (stored_unless b t r).0 t ∷ hs) → Laid g k h x (Keep w) r.1.point (held r.0 t ∷ hs)
keep_unless g k h x w true t r hs E xs d f s u v n c l = inl l
keep_unless g k h x w false t r hs E xs d f s u v n c l =
    let e = stage_edge g k h E xs d (with_temporary t r.1) f (Set (next_temporary r.1) r.0) s (grows_trans u (temporary_grows (IsCalled (context_of g k) xs) t r.1)) v in
    inr (
      r.1.points,
      r.1.variables,
      record {
        there = subst (λ y. Rattle.pk_visits.proofs.Slots.Among (Rattle.pk_visits.proofs.Slots.edge r.1.point (Set y r.0) r.1.points) g.edges) (next_is r.1 n) e.0;
        shown = e.1;
        apart = c.0;
        plain = c.1;
      },
      subst (λ y. Laid g k h x w r.1.points (held (variable y) t ∷ hs)) (next_is r.1 n) l,
    )

pub keep_laid : (g : Whole) (k : ℕ) (h : Place) (x : Exits) (w : Work) (how : Waiting) (s : Shape) (t : IntType) (r : Given Slot) (hs : List Held) (E : ℕ → Size → Type 0) (xs : List Numbered) (d f : Draft)
    → Stage g k h xs d f → Grows (IsCalled (context_of g k) xs) d r.1 → Grows E (rows.held how s t r).1 f → r.1.names ≡ slots → UnlessLoose how (AreApart (temporary r.1.variables) hs × ArePlain hs)
    → Laid g k h x w (rows.held how s t r).1.point (held (rows.held how s t r).0 t ∷ hs) → Laid g k h x (Keep w) r.1.point (held r.0 t ∷ hs)
keep_laid g k h x w Loose s t r hs E xs d f st u v n c l = inl l
keep_laid g k h x w Strong s t r hs E xs d f st u v n c l = keep_unless g k h x w (stays Strong s) t r hs E xs d f st u v n c l
keep_laid g k h x w Weak s t r hs E xs d f st u v n c l = keep_unless g k h x w (stays Weak s) t r hs E xs d f st u v n c l

-- where the second makes an edge the first is held strongly, so that it is calm
pub first_calm : (how : Waiting) (s : Shape) (t : IntType) (r : Given Slot) → how ≡ Strong → r.1.names ≡ slots → Tells r.1.variables s r.0 → IsCalm (rows.held how s t r).1.variables (rows.held how s t r).0
first_calm how s t r is n h = subst (λ w. IsCalm (rows.held w s t r).1.variables (rows.held w s t r).0) (sym is) (held_calm s t r n h)

pub unless_more : (how : Waiting) (m n : ℕ) (hs : List Held) → m ≤ n → UnlessLoose how (AreCalm m hs) → UnlessLoose how (AreApart (temporary n) hs × ArePlain hs)
unless_more Loose m n hs le c = tt
unless_more Strong m n hs le c = (all_temporary m n hs le c, calm_plain m hs c)
unless_more Weak m n hs le c = (all_temporary m n hs le c, calm_plain m hs c)

-- The work of two operands from a draft on, of which the first waits so, and what comes behind both.
pub two_laid : (g : Whole) (k : ℕ) (h : Place) (x : Exits) (w : Work) (how : Waiting) (a b : ValueTree) (n : ℕ) (d f : Draft) (hs : List Held)
    → d.names ≡ slots → (makes b ≡ true → how ≡ Strong) → UnlessLoose how (AreCalm d.variables hs) → AreQuiet (makes b) d.variables hs
    → IsValue (around g k n) a → AreQuiet (makes a) d.variables hs → IsValue (around g k n) b
    → Stage g k h (calls_in a ++ calls_in b) d f → Grows Uncalled (two how (lowered (context_of g k) a) (lowered (context_of g k) b) d).draft f
    → Laid g k h x w (two how (lowered (context_of g k) a) (lowered (context_of g k) b) d).draft.point
    (held (two how (lowered (context_of g k) a) (lowered (context_of g k) b) d).second (type_of b) ∷ held (two how (lowered (context_of g k) a) (lowered (context_of g k) b) d).first (type_of a) ∷ hs)
    → Laid g k h x (Evaluate a (Keep (Evaluate b w))) d.point hs
two_laid g k h x w how a b n d f hs ns strong kept quiet fa qa fb s z l =
    let c = context_of g k in
    let r = (ways c a).value d in
    let v = rows.held how (shape_of a) (type_of a) r in
    let q = (ways c b).value v.1 in
    let ga = (ways_grow c a).value d in
    let gb = (ways_grow c b).value v.1 in
    let whole = stage_until g k h (calls_in a ++ calls_in b) d q.1 f s z in
    let more : Grows (IsCalled c (calls_in b)) r.1 q.1 = grows_trans (held_grows (IsCalled c (calls_in b)) how (shape_of a) (type_of a) r) gb in
    let sa = stage_first g k h (calls_in a) (calls_in b) d r.1 q.1 whole more in
    let kept_grows = held_grows (IsCalled c (calls_in a)) how (shape_of a) (type_of a) r in
    let sb = stage_second g k h (calls_in a) (calls_in b) d v.1 q.1 whole (grows_trans ga kept_grows) in
    let ra = ga.variables in
    let rb = kept_grows.variables in
    let names = ga.names ∙ ns in (
      d,
      n,
      refl,
      fa,
      qa,
      sa,
      keep_laid g k h x (Evaluate b w) how (shape_of a) (type_of a) r hs (IsCalled c (calls_in b)) (calls_in a ++ calls_in b) d q.1 whole (loosened (first_called c (calls_in a) (calls_in b)) ga) gb names
          (unless_more how d.variables r.1.variables hs ra kept) (
            v.1,
            n,
            refl,
            fb,
            (λ is. (first_calm how (shape_of a) (type_of a) r (strong is) names (shapes c a d ns), calm_more d.variables v.1.variables hs (omega (arith, ra, rb)) (quiet is))),
            sb,
            l,
          ),
    )
