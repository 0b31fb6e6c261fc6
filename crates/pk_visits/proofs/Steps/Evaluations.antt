-- The graph follows the program at every expression, test and effect.
use Rattle.std.proofs.Common.{◌≡◌, ℕ, List, [], ◌∷◌, length, Bool, true, false, ◌&&◌, nat_eq, if◌then◌else◌, refl, sym, ap, subst, arith, ℤ, append-nil}
use Rattle.std.proofs.lemmas.Bool.{eqb-true}
use Rattle.pk_ctypes.specs.declared.places.Pos.{Pos}
use Rattle.pk_ctypes.specs.declared.types.IntType.{IntType}
use Rattle.pk_ctypes.specs.declared.types.Op.{Op}
use Rattle.pk_typed.specs.declared.values.Variable.{Variable}
use Rattle.pk_typed.specs.Trees.{ValueTree, EffectTree, ValueTrees}
use Rattle.pk_typed.specs.Trees as tree
use Rattle.pk_typed.specs.Types.{type_of}
use Rattle.pk_welltyped.specs.Listed.{calls_at_place, calls_in}
use Rattle.pk_welltyped.specs.WellTyped.{IsPlace, IsValue}
use Rattle.pk_graph.specs.Trees.{constant, variable, Set, Havoc}
use Rattle.pk_graph.specs.Steps as steps
use Rattle.pk_graph.specs.Steps.{Numbers, number_at, are_any, all_in_type}
use Rattle.pk_lower_expression.specs.Expressions.{target, ways}
use Rattle.pk_lower_statement.specs.declared.statements.Exits.{Exits}
use Rattle.pk_meaning.specs.Objects.{Objects, number_of}
use Rattle.pk_meaning.specs.Programs as program
use Rattle.pk_meaning.specs.Programs.{object_of}
use Rattle.pk_meaning.specs.Work as work
use Rattle.pk_meaning.specs.Work.{Place, Work, Way}
use Rattle.pk_meaning.specs.Steps as meaning
use Rattle.pk_meaning.specs.Steps.{step_of}
use Rattle.pk_visits.proofs.Slots.{own, temporary, Memory, with_memory}
use Rattle.pk_visits.proofs.Stands.{Whole, Proper, context_of, Held, held, in_temporary, Means, FitsObjects, Stage, Laid}
use Rattle.pk_visits.proofs.Stores.{means_apart, temporary_value}
use Rattle.pk_visits.proofs.Follow.{Answers, Follows, config, still, moved, set_does, number_in_type}
use Rattle.pk_visits.proofs.Steps.Operators.{one_in, in_type, object_value, object_in}
use Rattle.pk_visits.proofs.Steps.Trees.{scalar_laid, unary_laid, convert_laid, binary_laid, then_laid, assign_laid, update_laid}
use Rattle.pk_visits.proofs.Steps.Joined.{and_laid, or_laid, conditional_laid}
use Rattle.pk_visits.proofs.Steps.Conditions.{tested_laid}
use Rattle.pk_visits.proofs.Steps.ElementTrees.{any_laid, element_laid, step_laid, after_laid, kept_laid, replace_laid, renewed_laid}
use Rattle.pk_visits.proofs.Steps.Effects.{unused_laid, assert_laid, then_effect_laid, assume_laid, abort_laid}
use Rattle.pk_visits.proofs.Calling.{call_laid, run_laid, pass_laid}

-- ---- forms with a step of their own

constant_follows : (g : Whole) (chosen : Numbers) (p : ℕ) (m : Memory) (k : ℕ) (h : Place) (t : IntType) (z : ℤ) (w : Work) (vs : Numbers) (s : Objects) (x : Exits) (hs : List Held)
    → Laid g k h x (work.Evaluate (tree.constant t z) w) p hs → Means m hs vs → m.objects ≡ s → FitsObjects g.program s → Follows g chosen p m (config k h w (z ∷ vs) s false)
unfolding ways IsValue type_of
constant_follows g chosen p m k h t z w vs s x hs (d, n, is, fits, quiet, st, l) e same f =
    still g chosen p m k h w (z ∷ vs) s x (held (constant t z) t ∷ hs) (subst (λ q. Laid g k h x w q (held (constant t z) t ∷ hs)) is l) (refl, fits, e, tt) same f

both_true : (a b : Bool) → (a && b) ≡ true → (a ≡ true) × (b ≡ true)
both_true true b h = (refl, h)
both_true false b h = absurd (grind (arith, h))

any_follows : (g : Whole) (chosen : Numbers) (p : ℕ) (m : Memory) (k : ℕ) (h : Place) (t : IntType) (at : Pos) (w : Work) (vs : Numbers) (s : Objects) (b : Bool) (x : Exits) (hs : List Held)
    → Laid g k h x (work.Evaluate (tree.any t at) w) p hs → Means m hs vs → m.objects ≡ s → FitsObjects g.program s
    → Answers g chosen k h p m (step_of g.program chosen (config k h (work.Evaluate (tree.any t at) w) vs s b) (work.Evaluate (tree.any t at) w))
any_follows g chosen p m k h t at w vs s b x hs l e same f = by (are_any t 1 chosen) refl where
  by : (c : Bool) → are_any t 1 chosen ≡ c → Answers g chosen k h p m (if c then meaning.on (config k h (work.Evaluate (tree.any t at) w) vs s b) w (number_at chosen 0 ∷ vs) else meaning.Wants t 1)
  by false is = let r = any_laid g k h x t at w p hs l in (r.0, temporary r.1, r.2.there, is)
  by true is =
      let r = any_laid g k h x t at w p hs l in
      let a = both_true (nat_eq (length chosen) 1) (all_in_type t chosen) is in
      let i = number_in_type t chosen (eqb-true (length chosen) 1 a.0) a.1 in
      moved g chosen p r.0 m (with_memory (temporary r.1) chosen m) (Havoc (temporary r.1) t 1) k h w (number_at chosen 0 ∷ vs) s false x (in_temporary r.1 t ∷ hs)
      r.2.there (ap (λ c. if c then steps.To (with_memory (temporary r.1) chosen m) else steps.Wants t 1) is) refl r.3
      (temporary_value r.1 (number_at chosen 0) m, in_type t (number_at chosen 0) i, means_apart (temporary r.1) chosen m hs vs r.2.apart e, tt) same f

-- `x++` used
after_follows : (g : Whole) (chosen : Numbers) (p : ℕ) (m : Memory) (k : ℕ) (h : Place) (op : Op) (at : Pos) (o t : IntType) (y : Variable) (w : Work) (vs : Numbers) (s : Objects) (x : Exits) (hs : List Held)
    → Laid g k h x (work.Evaluate (tree.step op at o (tree.scalar t y) false) w) p hs → Means m hs vs → m.objects ≡ s → FitsObjects g.program s
    → Follows g chosen p m (config k h (work.Advance op at o t (object_of k y) w) (number_of (object_of k y) s ∷ vs) s false)
after_follows g chosen p m k h op at o t y w vs s x hs l e same f =
    let r = after_laid g k h x op at o t y w p hs l in
    let q = r.1 in
    let v = number_of (object_of k y) s in
    moved g chosen p q.0 m (with_memory (temporary q.1) (v ∷ []) m) (Set (temporary q.1) (variable (own (object_of k y)))) k h (work.Advance op at o t (object_of k y) w) (v ∷ vs) s false x (in_temporary q.1 t ∷ hs)
    q.2.there (set_does chosen (temporary q.1) (variable (own (object_of k y))) v m (object_value (object_of k y) s m same)) refl q.3
    (temporary_value q.1 v m, object_in g.program (object_of k y) t s r.0 f, means_apart (temporary q.1) (v ∷ []) m hs vs q.2.apart e, tt) same f

scalar_follows : (g : Whole) (chosen : Numbers) (p : ℕ) (m : Memory) (k : ℕ) (h : Place) (t : IntType) (y : Variable) (w : Work) (vs : Numbers) (s : Objects) (x : Exits) (hs : List Held)
    → Laid g k h x (work.Evaluate (tree.read (tree.scalar t y)) w) p hs → Means m hs vs → m.objects ≡ s → FitsObjects g.program s → Follows g chosen p m (config k h w (number_of (object_of k y) s ∷ vs) s false)
scalar_follows g chosen p m k h t y w vs s x hs l e same f =
    let r = scalar_laid g k h x t y w p hs l in
    still g chosen p m k h w (number_of (object_of k y) s ∷ vs) s x (held (variable (own (object_of k y))) t ∷ hs) r.1 (object_value (object_of k y) s m same, object_in g.program (object_of k y) t s r.0 f, e, tt) same f

-- an element with an operator, whose value is used
updated_laid : (g : Whole) (k : ℕ) (h : Place) (x : Exits) (op : Op) (q : Pos) (o : IntType) (at : Pos) (t : IntType) (y : Variable) (i e : ValueTree) (w : Work) (p : ℕ) (hs : List Held)
    → Laid g k h x (work.Evaluate (tree.update op q o (tree.element t y at i) e) w) p hs
    → Laid g k h x (meaning.reload at (program.array_of g.program k t y) i e (work.Renewed op q o t (work.StoreKept at (program.array_of g.program k t y) w))) p hs
unfolding target ways IsPlace IsValue calls_at_place calls_in type_of
updated_laid g k h x op q o at t y i e w p hs (d, n, is, fits, quiet, s, l) =
    subst (λ j. Laid g k h x (meaning.reload at (program.array_of g.program k t y) i e (work.Renewed op q o t (work.StoreKept at (program.array_of g.program k t y) w))) j hs) is
    (renewed_laid g k h x op q o at t y i e w n d hs fits.1.0 fits.1.1 fits.2 (quiet refl) s l)

stepped_laid : (g : Whole) (k : ℕ) (h : Place) (x : Exits) (op : Op) (q : Pos) (o : IntType) (at : Pos) (t : IntType) (y : Variable) (i : ValueTree) (w : Work) (p : ℕ) (hs : List Held)
    → Laid g k h x (work.Evaluate (tree.step op q o (tree.element t y at i) true) w) p hs
    → Laid g k h x (meaning.reload at (program.array_of g.program k t y) i meaning.one (work.Renewed op q o t (work.StoreKept at (program.array_of g.program k t y) w))) p hs
unfolding target ways IsPlace IsValue calls_at_place calls_in type_of
stepped_laid g k h x op q o at t y i w p hs (d, n, is, fits, quiet, s, l) =
    subst (λ j. Laid g k h x (meaning.reload at (program.array_of g.program k t y) i meaning.one (work.Renewed op q o t (work.StoreKept at (program.array_of g.program k t y) w))) j hs) is
    (renewed_laid g k h x op q o at t y i meaning.one w n d hs fits.1.0 fits.1.1 one_in (quiet refl)
    (subst (λ zs. Stage g k h zs d ((ways (context_of g k) (tree.step op q o (tree.element t y at i) true)).value d).1) (sym (append-nil (calls_in i))) s) l)

-- ---- every expression

pub evaluate : (g : Whole) (proper : Proper g) (chosen : Numbers) (p : ℕ) (m : Memory) (k : ℕ) (h : Place) (e : ValueTree) (w : Work) (vs : Numbers) (s : Objects) (b : Bool) (x : Exits) (hs : List Held)
    → Laid g k h x (work.Evaluate e w) p hs → Means m hs vs → m.objects ≡ s → FitsObjects g.program s → g.begun k e w
    → Answers g chosen k h p m (step_of g.program chosen (config k h (work.Evaluate e w) vs s b) (work.Evaluate e w))
evaluate g proper chosen p m k h (tree.constant t z) w vs s b x hs l e same f come = constant_follows g chosen p m k h t z w vs s x hs l e same f
evaluate g proper chosen p m k h (tree.read (tree.scalar t y)) w vs s b x hs l e same f come = scalar_follows g chosen p m k h t y w vs s x hs l e same f
evaluate g proper chosen p m k h (tree.read (tree.element t y at i)) w vs s b x hs l e same f come = still g chosen p m k h _ vs s x hs (element_laid g k h x t y at i w p hs l) e same f
evaluate g proper chosen p m k h (tree.assign q (tree.scalar t y) v) w vs s b x hs l e same f come = still g chosen p m k h _ vs s x hs (assign_laid g k h x q t y v w p hs l) e same f
evaluate g proper chosen p m k h (tree.assign q (tree.element t y at i) v) w vs s b x hs l e same f come = still g chosen p m k h _ vs s x hs (kept_laid g k h x q at t y i v w p hs l) e same f
evaluate g proper chosen p m k h (tree.update op q o (tree.scalar t y) v) w vs s b x hs l e same f come = still g chosen p m k h _ vs s x hs (update_laid g k h x op q o t y v w p hs l) e same f
evaluate g proper chosen p m k h (tree.update op q o (tree.element t y at i) v) w vs s b x hs l e same f come = still g chosen p m k h _ vs s x hs (updated_laid g k h x op q o at t y i v w p hs l) e same f
evaluate g proper chosen p m k h (tree.step op q o (tree.scalar t y) true) w vs s b x hs l e same f come = still g chosen p m k h _ vs s x hs (step_laid g k h x op q o t y w p hs l) e same f
evaluate g proper chosen p m k h (tree.step op q o (tree.scalar t y) false) w vs s b x hs l e same f come = after_follows g chosen p m k h op q o t y w vs s x hs l e same f
evaluate g proper chosen p m k h (tree.step op q o (tree.element t y at i) true) w vs s b x hs l e same f come = still g chosen p m k h _ vs s x hs (stepped_laid g k h x op q o at t y i w p hs l) e same f
evaluate g proper chosen p m k h (tree.step op q o (tree.element t y at i) false) w vs s b x hs l e same f come = still g chosen p m k h _ vs s x hs (replace_laid g k h x op q o at t y i w p hs l) e same f
evaluate g proper chosen p m k h (tree.call t j n at es) w vs s b x hs l e same f come = still g chosen p m k h _ vs s x hs (call_laid g proper k h x t j n at es w p hs l) e same f
evaluate g proper chosen p m k h (tree.any t at) w vs s b x hs l e same f come = any_follows g chosen p m k h t at w vs s b x hs l e same f
evaluate g proper chosen p m k h (tree.unary op at t v) w vs s b x hs l e same f come = still g chosen p m k h _ vs s x hs (unary_laid g k h x op at t v w p hs l come) e same f
evaluate g proper chosen p m k h (tree.convert t v) w vs s b x hs l e same f come = still g chosen p m k h _ vs s x hs (convert_laid g k h x t v w p hs l) e same f
evaluate g proper chosen p m k h (tree.binary op at t u v) w vs s b x hs l e same f come = still g chosen p m k h _ vs s x hs (binary_laid g k h x op at t u v w p hs l come) e same f
evaluate g proper chosen p m k h (tree.and u v) w vs s b x hs l e same f come = still g chosen p m k h _ vs s x hs (and_laid g k h x u v w p hs l) e same f
evaluate g proper chosen p m k h (tree.or u v) w vs s b x hs l e same f come = still g chosen p m k h _ vs s x hs (or_laid g k h x u v w p hs l) e same f
evaluate g proper chosen p m k h (tree.conditional t c u v) w vs s b x hs l e same f come = still g chosen p m k h _ vs s x hs (conditional_laid g k h x t c u v w p hs l) e same f
evaluate g proper chosen p m k h (tree.then_value c v) w vs s b x hs l e same f come = still g chosen p m k h _ vs s x hs (then_laid g k h x c v w p hs l) e same f

performed_laid : (g : Whole) (proper : Proper g) (k : ℕ) (h : Place) (x : Exits) (e : EffectTree) (w : Work) (p : ℕ) (hs : List Held) → Laid g k h x (work.Perform e w) p hs → Laid g k h x (meaning.performed g.program k h e w) p hs
performed_laid g proper k h x (tree.unused v) w p hs l = unused_laid g k h x v w p hs l
performed_laid g proper k h x (tree.run j n at es) w p hs l = run_laid g proper k h x j n at es w p hs l
performed_laid g proper k h x (tree.assume at v) w p hs l = assume_laid g k h x at v w p hs l
performed_laid g proper k h x (tree.assert at v) w p hs l = assert_laid g k h x at v w p hs l
performed_laid g proper k h x (tree.abort at) w p hs l = abort_laid g k h x at w p hs l
performed_laid g proper k h x (tree.then_effect a b) w p hs l = then_effect_laid g k h x a b w p hs l

pub perform : (g : Whole) (proper : Proper g) (chosen : Numbers) (p : ℕ) (m : Memory) (k : ℕ) (h : Place) (v : EffectTree) (w : Work) (vs : Numbers) (s : Objects) (b : Bool) (x : Exits) (hs : List Held)
    → Laid g k h x (work.Perform v w) p hs → Means m hs vs → m.objects ≡ s → FitsObjects g.program s
    → Answers g chosen k h p m (step_of g.program chosen (config k h (work.Perform v w) vs s b) (work.Perform v w))
perform g proper chosen p m k h v w vs s b x hs l e same f = still g chosen p m k h (meaning.performed g.program k h v w) vs s x hs (performed_laid g proper k h x v w p hs l) e same f

pub test : (g : Whole) (chosen : Numbers) (p : ℕ) (m : Memory) (k : ℕ) (h : Place) (v : ValueTree) (y n : Way) (vs : Numbers) (s : Objects) (b : Bool) (x : Exits) (hs : List Held)
    → Laid g k h x (work.Test v y n) p hs → Means m hs vs → m.objects ≡ s → FitsObjects g.program s
    → Answers g chosen k h p m (step_of g.program chosen (config k h (work.Test v y n) vs s b) (work.Test v y n))
test g chosen p m k h v y n vs s b x hs l e same f = still g chosen p m k h (meaning.tested h v y n) vs s x hs (tested_laid g k h x v y n p hs l) e same f

pub pass : (g : Whole) (chosen : Numbers) (p : ℕ) (m : Memory) (k : ℕ) (h : Place) (es : ValueTrees) (w : Work) (vs : Numbers) (s : Objects) (b : Bool) (x : Exits) (hs : List Held)
    → Laid g k h x (work.Pass es w) p hs → Means m hs vs → m.objects ≡ s → FitsObjects g.program s
    → Answers g chosen k h p m (step_of g.program chosen (config k h (work.Pass es w) vs s b) (work.Pass es w))
pass g chosen p m k h es w vs s b x hs l e same f = still g chosen p m k h (meaning.pass es w) vs s x hs (pass_laid g k h x es w p hs l) e same f
