-- From the work of an expression to that of its parts: elements, `++` and `--`, and what holds any number.
use Rattle.std.proofs.Common.{◌≡◌, ℕ, ◌+◌, ◌<◌, ◌≤◌, List, [], ◌∷◌, ◌++◌, Bool, true, false, refl, sym, ap, ◌∙◌, subst, arith, length, Option, Some, None, append-nil}
use Rattle.std.specs.Prelude.{slice_get, slice_index_or, option_map}
use Rattle.std.specs.Option.{option_and_then}
use Rattle.pk_ctypes.specs.declared.places.Pos.{Pos}
use Rattle.pk_ctypes.specs.declared.types.IntType.{IntType}
use Rattle.pk_ctypes.specs.declared.types.IntType.TheVariants.{Int}
use Rattle.pk_ctypes.specs.declared.types.Op.{Op}
use Rattle.pk_typed.specs.declared.values.Variable.{Variable}
use Rattle.pk_typed.specs.declared.values.Variable.TheVariants.{File, Local}
use Rattle.pk_typed.specs.Trees.{ValueTree, FileObjectTree, LocalTree}
use Rattle.pk_typed.specs.Trees as tree
use Rattle.pk_typed.specs.Types.{type_of}
use Rattle.pk_welltyped.specs.Listed.{Numbered, calls_at_place, calls_in}
use Rattle.pk_welltyped.specs.WellTyped.{IsArray, IsPlace, IsValue, kind_among}
use Rattle.pk_graph.specs.Kinds.{count_of, Kind, scalar_kind, array_kind}
use Rattle.pk_graph.specs.Trees.{constant, variable, converted, unary, binary, ArrayOf, Set, Havoc, Load, Store}
use Rattle.pk_draft.specs.Drafts.{Given, emit, with_temporary, next_temporary}
use Rattle.pk_draft.specs.Folding.{conversion, updated_tree}
use Rattle.pk_graph.specs.declared.trees.Site.{Site}
use Rattle.pk_draft.specs.declared.drafts.Size.{Size}
use Rattle.pk_lower_row.specs.declared.shapes.Shape.{Shape}
use Rattle.pk_lower_row.specs.declared.shapes.Shape.TheVariants.{Fixed, Temporary, Named, Other}
use Rattle.pk_lower_row.specs.declared.shapes.Waiting.{Waiting}
use Rattle.pk_lower_row.specs.declared.shapes.Waiting.TheVariants.{Loose, Strong, Weak}
use Rattle.pk_lower_row.specs.Shapes.{makes, shape_of, strong_if, strong_or_weak}
use Rattle.pk_lower_row.specs.Contexts as lower
use Rattle.pk_lower_row.specs.Contexts.{Context, variable_of, site}
use Rattle.pk_lower_row.specs.Rows as rows
use Rattle.pk_lower_row.specs.Rows.{two, one_tree}
use Rattle.pk_lower_expression.specs.Expressions.{target, ways}
use Rattle.pk_lower_statement.specs.declared.statements.Exits.{Exits}
use Rattle.pk_meaning.specs.Objects.{Object}
use Rattle.pk_meaning.specs.Programs as program
use Rattle.pk_meaning.specs.Programs.{object_of}
use Rattle.pk_meaning.specs.Work as work
use Rattle.pk_meaning.specs.Work.{Place, Work}
use Rattle.pk_meaning.specs.Steps as meaning
use Rattle.pk_visits.proofs.Slots.{Slot, own, temporary, slots, SlotTree, Draft, Instr, Among, edge, Grows, Uncalled}
use Rattle.pk_visits.proofs.Grows.Rows.{grows_refl, grows_trans, emit_grows, temporary_grows, made_grows, two_grows, held_grows, loaded_grows}
use Rattle.pk_visits.proofs.Grows.Expressions.{lowered, front_called, back_called, values}
use Rattle.pk_visits.proofs.Steps.Tells.{Tells, variable_is, shapes, sane, Any}
use Rattle.pk_visits.proofs.Stands.{Whole, context_of, Held, held, tested, in_temporary, around, IsApart, AreCalm, IsPlain, HasKind, IsScalar, IsArrayOf, cells, Writes, Stage, Laid, IsCalled}
use Rattle.pk_visits.proofs.Stages.{ways_grow, stage_until, stage_edge, all_called}
use Rattle.pk_visits.proofs.Operands.{UnlessLoose, all_own, all_temporary, next_is, keep_laid, two_laid}
use Rattle.pk_visits.proofs.Steps.Trees.{stage_names, has_kind, writes_scalar}
use Rattle.pk_visits.proofs.Steps.Operators.{one_in}
use Rattle.pk_visits.proofs.Doom.{calm_plain}
use Rattle.pk_typed.specs.Defaults.{no_local, length_of_start}

-- ---- an edge that writes a new temporary

pub writes_temporary : (g : Whole) (k : ℕ) (h : Place) (n : ℕ) (t : IntType) (i : Slot → Instr) (d r f : Draft) (hs : List Held) (E : ℕ → Size → Type 0) (xs : List Numbered)
    → r.names ≡ slots → Stage g k h xs d f → Grows (IsCalled (context_of g k) xs) d r → Grows E (emit (i (next_temporary r)) (with_temporary t r)) f → n ≤ r.variables → AreCalm n hs
    → Writes g k h r.point (temporary r.variables) (i (temporary r.variables)) r.points hs
writes_temporary g k h n t i d r f hs E xs ns s z u le calm =
    let a = stage_edge g k h E xs d (with_temporary t r) f (i (next_temporary r)) s (grows_trans z (temporary_grows (IsCalled (context_of g k) xs) t r)) u in
    record {
      there = subst (λ y. Among (edge r.point (i y) r.points) g.edges) (next_is r ns) a.0;
      shown = a.1;
      apart = all_temporary n r.variables hs le calm;
      plain = calm_plain n hs calm;
    }

-- what holds any number
pub any_laid : (g : Whole) (k : ℕ) (h : Place) (x : Exits) (t : IntType) (at : Pos) (w : Work) (p : ℕ) (hs : List Held) → Laid g k h x (work.Evaluate (tree.any t at) w) p hs
    → (q : ℕ) × (n : ℕ) × Writes g k h p (temporary n) (Havoc (temporary n) t 1) q hs × Laid g k h x w q (in_temporary n t ∷ hs)
unfolding ways type_of
any_laid g k h x t at w p hs (d, n, is, fits, quiet, s, l) =
    let f = emit (Havoc (next_temporary d) t 1) (with_temporary t d) in
    let ns = stage_names g k h _ Uncalled d f s (made_grows Uncalled (Havoc (next_temporary d) t 1) t d) in (
      d.points,
      d.variables,
      subst (λ q. Writes g k h q (temporary d.variables) (Havoc (temporary d.variables) t 1) d.points hs) is
          (writes_temporary g k h d.variables t (λ y. Havoc y t 1) d d f hs Uncalled _ ns s (grows_refl _ d) (grows_refl Uncalled f) (omega arith) (quiet refl)),
      subst (λ y. Laid g k h x w d.points (held (variable y) t ∷ hs)) (next_is d ns) l,
    )

-- ---- arrays as the lowering has them

pub array_is : (g : Whole) (k : ℕ) (t : IntType) (y : Variable) (d : Draft) → d.names ≡ slots → lower.array_of (context_of g k) y d ≡ cells (program.array_of g.program k t y)
array_is g k t (File i) d ns = ap (λ (v : Slot). record { variable = v; length = count_of (lower.length_of (context_of g k) (File i)) }) (variable_is (context_of g k) (File i) d ns)
array_is g k t (Local i) d ns = ap (λ (v : Slot). record { variable = v; length = count_of (lower.length_of (context_of g k) (Local i)) }) (variable_is (context_of g k) (Local i) d ns)

file_length : (o : Option FileObjectTree) (n : Kind) → option_map (λ (x : FileObjectTree). record { int_type = x.int_type; length = length_of_start x.start }) o ≡ Some n
    → option_and_then (λ (x : FileObjectTree). length_of_start x.start) o ≡ n.length
file_length None n h = absurd (grind (arith, h))
file_length (Some x) n h = same (record { int_type = x.int_type; length = length_of_start x.start }) h where
  same : (m : Kind) → Some m ≡ Some n → m.length ≡ n.length
  same m e = ap (λ (o : Option Kind). length_or m o) e where
    length_or : Kind → Option Kind → Option ℕ
    length_or a None = a.length
    length_or a (Some b) = b.length

pub local_length : (xs : List LocalTree) (i : ℕ) (n : Kind) → kind_among xs i ≡ Some n → (slice_index_or xs i no_local).length ≡ n.length
local_length [] i n h = absurd (grind (arith, h))
local_length (x ∷ xs) ℕ.zero n h = same (record { int_type = x.int_type; length = x.length }) h where
  same : (m : Kind) → Some m ≡ Some n → m.length ≡ n.length
  same m e = ap (λ (o : Option Kind). length_or m o) e where
    length_or : Kind → Option Kind → Option ℕ
    length_or a None = a.length
    length_or a (Some b) = b.length
local_length (x ∷ xs) (ℕ.suc i) n h = local_length xs i n h

-- an object of the array's kind, whose length is the array's
pub is_array : (g : Whole) (k n : ℕ) (t : IntType) (y : Variable) → k < length g.program.paths → IsArray (around g k n) t y → IsArrayOf g (program.array_of g.program k t y)
is_array g k n t (File i) there h = subst (λ m. HasKind g.program (object_of k (File i)) (array_kind t m)) (sym (ap count_of (file_length (slice_get g.program.unit.objects i) (array_kind t h.0) h.1))) h.1
is_array g k n t (Local i) there h =
    subst (λ m. HasKind g.program (object_of k (Local i)) (array_kind t m)) (sym (ap count_of (local_length (program.block_of g.program k).locals i (array_kind t h.0) h.1.1))) (there, h.1.1)

-- ---- a[i]

pub element_laid : (g : Whole) (k : ℕ) (h : Place) (x : Exits) (t : IntType) (y : Variable) (at : Pos) (i : ValueTree) (w : Work) (p : ℕ) (hs : List Held)
    → Laid g k h x (work.Evaluate (tree.read (tree.element t y at i)) w) p hs → Laid g k h x (work.Evaluate i (work.Load at (program.array_of g.program k t y) w)) p hs
unfolding target ways IsPlace IsValue calls_at_place calls_in type_of
element_laid g k h x t y at i w p hs (d, n, is, fits, quiet, s, l) =
    let c = context_of g k in
    let r = (ways c i).value d in
    let gi = (ways_grow c i).value d in
    let a = lower.array_of c y d in
    let b = program.array_of g.program k t y in
    let j = λ (v : Slot). Load v a (site c at) true r.0 in
    let f = emit (j (next_temporary r.1)) (with_temporary t r.1) in
    let last = made_grows Uncalled (j (next_temporary r.1)) t r.1 in
    let ns = stage_names g k h _ Any d f s (grows_trans ((sane c i).value d) (made_grows Any (j (next_temporary r.1)) t r.1)) in
    let nr = gi.names ∙ ns in
    let v = gi.variables in
    let z = writes_temporary g k h d.variables t j d r.1 f hs Uncalled _ nr s gi (grows_refl Uncalled f) v (quiet refl) in (
      d,
      n,
      is,
      fits.1,
      (λ m. quiet refl),
      stage_until g k h _ d r.1 f s last,
      (
        r.1.points,
        r.1.variables,
        is_array g k n t y s.path fits.0,
        subst (λ (q : ArrayOf Slot). Writes g k h r.1.point (temporary r.1.variables) (Load (temporary r.1.variables) q (site c at) true r.0) r.1.points hs) (array_is g k t y d ns) z,
        subst (λ u. Laid g k h x w r.1.points (held (variable u) t ∷ hs)) (next_is r.1 nr) l,
      ),
    )

-- ---- `++` and `--` on names

pub step_laid : (g : Whole) (k : ℕ) (h : Place) (x : Exits) (op : Op) (at : Pos) (o t : IntType) (y : Variable) (w : Work) (p : ℕ) (hs : List Held)
    → Laid g k h x (work.Evaluate (tree.step op at o (tree.scalar t y) true) w) p hs → Laid g k h x (work.Evaluate meaning.one (work.Update op at o t (object_of k y) w)) p hs
unfolding target ways IsPlace IsValue calls_at_place calls_in type_of
step_laid g k h x op at o t y w p hs (d, n, is, fits, quiet, s, l) =
    let c = context_of g k in
    let i = Set (variable_of c y d) (updated_tree op (site c at) o t Int (variable (variable_of c y d)) one_tree) in
    let ns = stage_names g k h _ Uncalled d (emit i d) s (emit_grows Uncalled i d) in (
      d,
      n,
      is,
      one_in,
      (λ m. quiet refl),
      stage_until g k h _ d d (emit i d) s (emit_grows Uncalled i d),
      (
        d.points,
        has_kind g k n (scalar_kind t) y s.path fits.1,
        writes_scalar g k h d.variables y (λ u. updated_tree op (site c at) o t Int (variable u) one_tree) d d hs _ ns s (grows_refl _ d) (quiet refl),
        subst (λ u. Laid g k h x w d.points (held (variable u) t ∷ hs)) (variable_is c y d ns) l,
      ),
    )

-- `x++` used: its old value in a temporary, then the work that sets it
pub after_laid : (g : Whole) (k : ℕ) (h : Place) (x : Exits) (op : Op) (at : Pos) (o t : IntType) (y : Variable) (w : Work) (p : ℕ) (hs : List Held)
    → Laid g k h x (work.Evaluate (tree.step op at o (tree.scalar t y) false) w) p hs
    → IsScalar g (object_of k y) t × ((q : ℕ) × (n : ℕ) × Writes g k h p (temporary n) (Set (temporary n) (variable (own (object_of k y)))) q hs
    × Laid g k h x (work.Advance op at o t (object_of k y) w) q (in_temporary n t ∷ hs))
unfolding target ways IsPlace IsValue calls_at_place calls_in type_of
after_laid g k h x op at o t y w p hs (d, n, is, fits, quiet, s, l) =
    let c = context_of g k in
    let v = variable_of c y d in
    let e = emit (Set (next_temporary d) (variable v)) (with_temporary t d) in
    let i = Set v (updated_tree op (site c at) o t Int (variable v) one_tree) in
    let last = emit_grows Uncalled i e in
    let ge = made_grows Uncalled (Set (next_temporary d) (variable v)) t d in
    let ns = stage_names g k h _ Uncalled d (emit i e) s (grows_trans ge last) in
    let kind = has_kind g k n (scalar_kind t) y s.path fits.1 in
    let z = writes_temporary g k h d.variables t (λ u. Set u (variable v)) d d (emit i e) hs Uncalled _ ns s (grows_refl _ d) last (omega arith) (quiet refl) in
    let b = writes_scalar g k h d.variables y (λ u. updated_tree op (site c at) o t Int (variable u) one_tree) d e hs _ ns s (made_grows (IsCalled c []) (Set (next_temporary d) (variable v)) t d) (quiet refl) in (
      kind,
      (
        d.points,
        d.variables,
        subst (λ q. Writes g k h q (temporary d.variables) (Set (temporary d.variables) (variable (own (object_of k y)))) d.points hs) is
            (subst (λ u. Writes g k h d.point (temporary d.variables) (Set (temporary d.variables) (variable u)) d.points hs) (variable_is c y d ns) z),
        (
          e.points,
          kind,
          record { there = b.there; shown = b.shown; apart = (λ q. subst is_temporary (sym q) tt, b.apart); plain = (tt, b.plain) },
          subst (λ u. Laid g k h x w e.points (held (variable u) t ∷ hs)) (next_is d ns) l,
        ),
      ),
    ) where
      is_temporary : Slot → Type 0
      is_temporary (own z) = ⊥
      is_temporary (temporary m) = Unit {0}

-- ---- an operand that waits where edges follow

-- a constant, an object, or one of the temporaries before the n-th variable
abbrev pub IsOld : ℕ → SlotTree → Type 0
IsOld n (constant t z) = Unit {0}
IsOld n (variable (own x)) = Unit {0}
IsOld n (variable (temporary m)) = m < n
IsOld n (converted t e) = ⊥
IsOld n (unary op s t e) = ⊥
IsOld n (binary op s t a b) = ⊥

pub old_more : (m n : ℕ) (e : SlotTree) → m ≤ n → IsOld m e → IsOld n e
old_more m n (constant t z) le h = tt
old_more m n (variable (own x)) le h = tt
old_more m n (variable (temporary k)) le h = omega (arith, le, h)
old_more m n (converted t e) le h = h
old_more m n (unary op s t e) le h = h
old_more m n (binary op s t a b) le h = h

pub old_plain : (n : ℕ) (e : SlotTree) → IsOld n e → IsPlain e
old_plain n (constant t z) h = tt
old_plain n (variable x) h = tt
old_plain n (converted t e) h = h
old_plain n (unary op s t e) h = h
old_plain n (binary op s t a b) h = h

abbrev is_own : Slot → Type 0
is_own (own y) = Unit {0}
is_own (temporary k) = ⊥

abbrev number_of_slot : Slot → ℕ
number_of_slot (own x) = 0
number_of_slot (temporary n) = n

pub old_apart : (n k : ℕ) (e : SlotTree) → n ≤ k → IsOld n e → IsApart (temporary k) e
old_apart n k (constant t z) le h = tt
old_apart n k (variable (own y)) le h = λ e. absurd (subst is_own (sym e) tt)
old_apart n k (variable (temporary m)) le h = λ e. let same : k ≡ m = ap number_of_slot e in absurd (omega (arith, le, h, same))
old_apart n k (converted t e) le h = absurd h
old_apart n k (unary op s t e) le h = absurd h
old_apart n k (binary op s t a b) le h = absurd h

new_old : (d : Draft) → d.names ≡ slots → IsOld (d.variables + 1) (variable (next_temporary d))
new_old d n = subst (λ y. IsOld (d.variables + 1) (variable y)) (sym (next_is d n)) (omega arith)

-- what was held for later edges is old
pub held_old : (how : Waiting) (s : Shape) (t : IntType) (r : Given Slot) → UnlessLoose how ⊥ ≡ ⊥ → r.1.names ≡ slots → Tells r.1.variables s r.0
    → IsOld (rows.held how s t r).1.variables (rows.held how s t r).0
held_old Loose s t r k n h = absurd (subst (λ (A : Type 0). A) k tt)
held_old Strong (Fixed z) t r k n h = subst (IsOld r.1.variables) (sym h.1) tt
held_old Strong Temporary t r k n h = subst (IsOld r.1.variables) (sym h.2) h.1
held_old Strong Named t r k n h = new_old r.1 n
held_old Strong Other t r k n h = new_old r.1 n
held_old Weak (Fixed z) t r k n h = subst (IsOld r.1.variables) (sym h.1) tt
held_old Weak Temporary t r k n h = subst (IsOld r.1.variables) (sym h.2) h.1
held_old Weak Named t r k n h = subst (IsOld r.1.variables) (sym h.1) tt
held_old Weak Other t r k n h = new_old r.1 n

not_loose : (m : Bool) → UnlessLoose (strong_or_weak m) ⊥ ≡ ⊥
not_loose true = refl
not_loose false = refl

calm_unless : (how : Waiting) (n : ℕ) (hs : List Held) → AreCalm n hs → UnlessLoose how (AreCalm n hs)
calm_unless Loose n hs c = tt
calm_unless Strong n hs c = c
calm_unless Weak n hs c = c

-- the first of two operands is old behind both
two_old : (c : Context) (how : Waiting) (a b : ValueTree) (d : Draft) → UnlessLoose how ⊥ ≡ ⊥ → d.names ≡ slots → IsOld (two how (lowered c a) (lowered c b) d).draft.variables (two how (lowered c a) (lowered c b) d).first
two_old c how a b d k ns =
    let r = (ways c a).value d in
    let v = rows.held how (shape_of a) (type_of a) r in
    let q = (ways c b).value v.1 in
    old_more v.1.variables q.1.variables v.0 ((sane c b).value v.1).variables (held_old how (shape_of a) (type_of a) r k (((sane c a).value d).names ∙ ns) (shapes c a d ns))

two_names : (c : Context) (how : Waiting) (a b : ValueTree) (d : Draft) → d.names ≡ slots → (two how (lowered c a) (lowered c b) d).draft.names ≡ slots
two_names c how a b d ns = (two_grows Any how (lowered c a) (lowered c b) (sane c a) (sane c b) d).names ∙ ns

-- ---- a[i] = e

-- two operands call what both call
two_called : (c : Context) (how : Waiting) (a b : ValueTree) (d : Draft) → Grows (IsCalled c (calls_in a ++ calls_in b)) d (two how (lowered c a) (lowered c b) d).draft
two_called c how a b d =
    let C = IsCalled c (calls_in a ++ calls_in b) in
    let k = all_called c (calls_in a ++ calls_in b) in
    two_grows C how (lowered c a) (lowered c b) (values C c a (front_called C c (calls_in a) (calls_in b) k)) (values C c b (back_called C c (calls_in a) (calls_in b) k)) d

loaded_called : (c : Context) (t : IntType) (s : Site) (a : ArrayOf Slot) (i e : ValueTree) (d : Draft) → Grows (IsCalled c (calls_in i ++ calls_in e)) d (rows.loaded t s a (lowered c i) (lowered c e) d).draft
loaded_called c t s a i e d =
    let C = IsCalled c (calls_in i ++ calls_in e) in
    let k = all_called c (calls_in i ++ calls_in e) in
    loaded_grows C t s a (lowered c i) (lowered c e) (values C c i (front_called C c (calls_in i) (calls_in e) k)) (values C c e (back_called C c (calls_in i) (calls_in e) k)) d

store_strong : (m : Bool) → m ≡ true → strong_or_weak m ≡ Strong
store_strong m h = ap strong_or_weak h

quiet_loose : (m : Bool) (n : ℕ) (hs : List Held) → AreCalm n hs → UnlessLoose (strong_if m) (AreCalm n hs)
quiet_loose true n hs c = c
quiet_loose false n hs c = tt

-- not used
pub put_laid : (g : Whole) (k : ℕ) (h : Place) (x : Exits) (at : Pos) (t : IntType) (y : Variable) (i e : ValueTree) (w : Work) (n : ℕ) (d : Draft) (hs : List Held)
    → IsArray (around g k n) t y → IsValue (around g k n) i → IsValue (around g k n) e → AreCalm d.variables hs
    → Stage g k h (calls_in i ++ calls_in e) d (rows.put_unused t (site (context_of g k) at) (lower.array_of (context_of g k) y d) (lowered (context_of g k) i) (lowered (context_of g k) e) d)
    → Laid g k h x w (rows.put_unused t (site (context_of g k) at) (lower.array_of (context_of g k) y d) (lowered (context_of g k) i) (lowered (context_of g k) e) d).point hs
    → Laid g k h x (work.Evaluate i (work.Keep (work.Evaluate e (work.Store at (program.array_of g.program k t y) w)))) d.point hs
put_laid g k h x at t y i e w n d hs fa fi fe calm s l =
    let c = context_of g k in
    let how = strong_if (makes e) in
    let p = two how (lowered c i) (lowered c e) d in
    let a = lower.array_of c y d in
    let b = program.array_of g.program k t y in
    let j = λ (q : ArrayOf Slot). Store q (site c at) true p.first (conversion (type_of e) t p.second) in
    let f = emit (j a) p.draft in
    let C = IsCalled c (calls_in i ++ calls_in e) in
    let both = two_called c how i e d in
    let ns = stage_names g k h _ C d f s (grows_trans both (emit_grows C (j a) p.draft)) in
    let z = stage_edge g k h Uncalled _ d p.draft f (j a) s both (grows_refl Uncalled f) in
    two_laid g k h x (work.Store at b w) how i e n d f hs ns (λ m. ap strong_if m) (quiet_loose (makes e) d.variables hs calm) (λ m. calm) fi (λ m. calm) fe s (emit_grows Uncalled (j a) p.draft) (
      p.draft.points,
      is_array g k n t y s.path fa,
      record {
        there = subst (λ q. Among (edge p.draft.point (j q) p.draft.points) g.edges) (array_is g k t y d ns) z.0;
        shown = z.1;
        apart = all_own d.variables (object_of k y) hs calm;
        plain = calm_plain d.variables hs calm;
      },
      l,
    )

-- used: the converted value in a temporary, which is stored and given
pub kept_laid : (g : Whole) (k : ℕ) (h : Place) (x : Exits) (q : Pos) (at : Pos) (t : IntType) (y : Variable) (i e : ValueTree) (w : Work) (p : ℕ) (hs : List Held)
    → Laid g k h x (work.Evaluate (tree.assign q (tree.element t y at i) e) w) p hs
    → Laid g k h x (work.Evaluate i (work.Keep (work.Evaluate e (work.Settle t (work.StoreKept at (program.array_of g.program k t y) w))))) p hs
unfolding target ways IsPlace IsValue calls_at_place calls_in type_of
kept_laid g k h x q at t y i e w pt hs (d, n, is, fits, quiet, s, l) =
    let c = context_of g k in
    let how = strong_or_weak (makes e) in
    let p = two how (lowered c i) (lowered c e) d in
    let a = lower.array_of c y d in
    let b = program.array_of g.program k t y in
    let v = conversion (type_of e) t p.second in
    let m = emit (Set (next_temporary p.draft) v) (with_temporary t p.draft) in
    let j = λ (r : ArrayOf Slot) (u : Slot). Store r (site c at) true p.first (variable u) in
    let f = emit (j a (next_temporary p.draft)) m in
    let C = IsCalled c (calls_in i ++ calls_in e) in
    let both = two_called c how i e d in
    let set_grows = made_grows C (Set (next_temporary p.draft) v) t p.draft in
    let last = emit_grows Uncalled (j a (next_temporary p.draft)) m in
    let ns = stage_names g k h _ C d f s (grows_trans both (grows_trans set_grows (emit_grows C (j a (next_temporary p.draft)) m))) in
    let np = two_names c how i e d ns in
    let calm = quiet refl in
    let le = both.variables in
    let set_edge = stage_edge g k h Uncalled _ d (with_temporary t p.draft) f (Set (next_temporary p.draft) v) s (grows_trans both (temporary_grows C t p.draft)) last in
    let put_edge = stage_edge g k h Uncalled _ d m f (j a (next_temporary p.draft)) s (grows_trans both set_grows) (grows_refl Uncalled f) in
    let old = two_old c how i e d (not_loose (makes e)) ns in
    subst (λ o. Laid g k h x (work.Evaluate i (work.Keep (work.Evaluate e (work.Settle t (work.StoreKept at b w))))) o hs) is
    (two_laid g k h x (work.Settle t (work.StoreKept at b w)) how i e n d f hs ns (store_strong (makes e)) (calm_unless how d.variables hs calm) (λ z. calm) fits.0.1 (λ z. calm) fits.1 s
    (grows_trans (made_grows Uncalled (Set (next_temporary p.draft) v) t p.draft) last) (
      p.draft.points,
      p.draft.variables,
      record {
        there = subst (λ u. Among (edge p.draft.point (Set u v) p.draft.points) g.edges) (next_is p.draft np) set_edge.0;
        apart = (old_apart p.draft.variables p.draft.variables p.first (omega arith) old, all_temporary d.variables p.draft.variables hs le calm);
        plain = (old_plain p.draft.variables p.first old, calm_plain d.variables hs calm);
      },
      (
        m.points,
        true,
        is_array g k n t y s.path fits.0.0,
        refl,
        record {
          there = subst (λ u. Among (edge p.draft.points (j (cells b) u) m.points) g.edges) (next_is p.draft np)
              (subst (λ r. Among (edge p.draft.points (j r (next_temporary p.draft)) m.points) g.edges) (array_is g k t y d ns) put_edge.0);
          shown = put_edge.1;
          apart = ((λ o. absurd (subst is_own o tt)), all_own d.variables (object_of k y) hs calm);
          plain = (tt, calm_plain d.variables hs calm);
        },
        subst (λ u. Laid g k h x w m.points (held (variable u) t ∷ hs)) (next_is p.draft np) l,
        tt,
      ),
    ))

-- ---- a[i] op= e, a[i]++

-- index and right side, the element, and what comes behind
reload_laid : (g : Whole) (k : ℕ) (h : Place) (x : Exits) (at : Pos) (t : IntType) (y : Variable) (i e : ValueTree) (w : Work) (n : ℕ) (d f : Draft) (hs : List Held)
    → d.names ≡ slots → IsArray (around g k n) t y → IsValue (around g k n) i → IsValue (around g k n) e → AreCalm d.variables hs
    → Stage g k h (calls_in i ++ calls_in e) d f
    → Grows Uncalled (rows.loaded t (site (context_of g k) at) (lower.array_of (context_of g k) y d) (lowered (context_of g k) i) (lowered (context_of g k) e) d).draft f
    → (g.read k at → Laid g k h x w (rows.loaded t (site (context_of g k) at) (lower.array_of (context_of g k) y d) (lowered (context_of g k) i) (lowered (context_of g k) e) d).draft.point
    (held (rows.loaded t (site (context_of g k) at) (lower.array_of (context_of g k) y d) (lowered (context_of g k) i) (lowered (context_of g k) e) d).element t
    ∷ held (rows.loaded t (site (context_of g k) at) (lower.array_of (context_of g k) y d) (lowered (context_of g k) i) (lowered (context_of g k) e) d).right (type_of e)
    ∷ tested (program.array_of g.program k t y).length (held (rows.loaded t (site (context_of g k) at) (lower.array_of (context_of g k) y d) (lowered (context_of g k) i) (lowered (context_of g k) e) d).index (type_of i)) ∷ hs))
    → Laid g k h x (meaning.reload at (program.array_of g.program k t y) i e w) d.point hs
reload_laid g k h x at t y i e w n d f hs ns fa fi fe calm s after l =
    let c = context_of g k in
    let how = strong_or_weak (makes e) in
    let p = two how (lowered c i) (lowered c e) d in
    let r : Given Slot = (p.second, p.draft) in
    let v = rows.held Weak (shape_of e) (type_of e) r in
    let b = program.array_of g.program k t y in
    let j = λ (q : ArrayOf Slot) (u : Slot). Load u q (site c at) true p.first in
    let a = lower.array_of c y d in
    let C = IsCalled c (calls_in i ++ calls_in e) in
    let both = two_called c how i e d in
    let kept = held_grows C Weak (shape_of e) (type_of e) r in
    let np = two_names c how i e d ns in
    let nv = kept.names ∙ np in
    let load_grows = made_grows Uncalled (j a (next_temporary v.1)) t v.1 in
    let kept_after : Grows Uncalled v.1 f = grows_trans load_grows after in
    let behind : Grows Uncalled p.draft f = grows_trans (held_grows Uncalled Weak (shape_of e) (type_of e) r) kept_after in
    let edge' = stage_edge g k h Uncalled _ d (with_temporary t v.1) f (j a (next_temporary v.1)) s (grows_trans both (grows_trans kept (temporary_grows C t v.1))) after in
    let old = two_old c how i e d (not_loose (makes e)) ns in
    let z = rows.held how (shape_of i) (type_of i) ((ways c i).value d) in
    let nz = (held_grows C how (shape_of i) (type_of i) ((ways c i).value d)).names ∙ ((sane c i).value d).names ∙ ns in
    let right = held_old Weak (shape_of e) (type_of e) r refl np (shapes c e z.1 nz) in
    let le = both.variables in
    let le2 = kept.variables in
    let old2 = old_more p.draft.variables v.1.variables p.first le2 old in
    two_laid g k h x (work.Keep (work.Reload at b w)) how i e n d f hs ns (store_strong (makes e)) (calm_unless how d.variables hs calm) (λ m. calm) fi (λ m. calm) fe s behind
    (keep_laid g k h x (work.Reload at b w) Weak (shape_of e) (type_of e) r (held p.first (type_of i) ∷ hs) Uncalled _ d f s both kept_after np
    ((old_apart p.draft.variables p.draft.variables p.first (omega arith) old, all_temporary d.variables p.draft.variables hs le calm), (old_plain p.draft.variables p.first old, calm_plain d.variables hs calm)) (
      v.1.points,
      v.1.variables,
      is_array g k n t y s.path fa,
      record {
        there = subst (λ u. Among (edge v.1.point (j (cells b) u) v.1.points) g.edges) (next_is v.1 nv)
            (subst (λ q. Among (edge v.1.point (j q (next_temporary v.1)) v.1.points) g.edges) (array_is g k t y d ns) edge'.0);
        shown = edge'.1;
        apart = (old_apart v.1.variables v.1.variables v.0 (omega arith) right, (old_apart v.1.variables v.1.variables p.first (omega arith) old2, all_temporary d.variables v.1.variables hs (omega (arith, le, le2)) calm));
        plain = (old_plain v.1.variables v.0 right, (old_plain v.1.variables p.first old2, calm_plain d.variables hs calm));
      },
      λ was. subst (λ u. Laid g k h x w v.1.points (held (variable u) t ∷ held v.0 (type_of e) ∷ tested b.length (held p.first (type_of i)) ∷ hs)) (next_is v.1 nv) (l was),
    ))

-- what waits behind the load is old
record Olds (c : Context) (t : IntType) (s : Site) (a : ArrayOf Slot) (i e : ValueTree) (d : Draft) : Type 0 where
  pub index : IsOld (rows.loaded t s a (lowered c i) (lowered c e) d).draft.variables (rows.loaded t s a (lowered c i) (lowered c e) d).index
  pub right : IsOld (rows.loaded t s a (lowered c i) (lowered c e) d).draft.variables (rows.loaded t s a (lowered c i) (lowered c e) d).right
  pub element : IsOld (rows.loaded t s a (lowered c i) (lowered c e) d).draft.variables (rows.loaded t s a (lowered c i) (lowered c e) d).element
  pub names : (rows.loaded t s a (lowered c i) (lowered c e) d).draft.names ≡ slots
  pub more : d.variables ≤ (rows.loaded t s a (lowered c i) (lowered c e) d).draft.variables

olds : (c : Context) (t : IntType) (s : Site) (a : ArrayOf Slot) (i e : ValueTree) (d : Draft) → d.names ≡ slots → Olds c t s a i e d
olds c t s a i e d ns =
    let how = strong_or_weak (makes e) in
    let p = two how (lowered c i) (lowered c e) d in
    let r : Given Slot = (p.second, p.draft) in
    let v = rows.held Weak (shape_of e) (type_of e) r in
    let np = two_names c how i e d ns in
    let kept = held_grows Any Weak (shape_of e) (type_of e) r in
    let nv = kept.names ∙ np in
    let z = rows.held how (shape_of i) (type_of i) ((ways c i).value d) in
    let nz = (held_grows Any how (shape_of i) (type_of i) ((ways c i).value d)).names ∙ ((sane c i).value d).names ∙ ns in
    let le = (two_grows Any how (lowered c i) (lowered c e) (sane c i) (sane c e) d).variables in
    let le2 = kept.variables in
    record {
      index = old_more p.draft.variables (v.1.variables + 1) p.first (omega (arith, le2)) (two_old c how i e d (not_loose (makes e)) ns);
      right = old_more v.1.variables (v.1.variables + 1) v.0 (omega arith) (held_old Weak (shape_of e) (type_of e) r refl np (shapes c e z.1 nz));
      element = new_old v.1 nv;
      names = nv;
      more = omega (arith, le, le2);
    }

-- not used
pub renew_laid : (g : Whole) (k : ℕ) (h : Place) (x : Exits) (op : Op) (q : Pos) (o : IntType) (at : Pos) (t : IntType) (y : Variable) (i e : ValueTree) (w : Work) (n : ℕ) (d : Draft) (hs : List Held)
    → IsArray (around g k n) t y → IsValue (around g k n) i → IsValue (around g k n) e → AreCalm d.variables hs
    → Stage g k h (calls_in i ++ calls_in e) d
    (rows.renew_unused op (site (context_of g k) q) o t (site (context_of g k) at) (lower.array_of (context_of g k) y d) (type_of e) (rows.loaded t (site (context_of g k) at) (lower.array_of (context_of g k) y d) (lowered (context_of g k) i) (lowered (context_of g k) e) d))
    → Laid g k h x w (rows.renew_unused op (site (context_of g k) q) o t (site (context_of g k) at) (lower.array_of (context_of g k) y d) (type_of e) (rows.loaded t (site (context_of g k) at) (lower.array_of (context_of g k) y d) (lowered (context_of g k) i) (lowered (context_of g k) e) d)).point hs
    → Laid g k h x (meaning.reload at (program.array_of g.program k t y) i e (work.Renew op q o at (program.array_of g.program k t y) w)) d.point hs
renew_laid g k h x op q o at t y i e w n d hs fa fi fe calm s l =
    let c = context_of g k in
    let a = lower.array_of c y d in
    let b = program.array_of g.program k t y in
    let p = rows.loaded t (site c at) a (lowered c i) (lowered c e) d in
    let j = λ (r : ArrayOf Slot). Store r (site c at) false p.index (rows.renewed_tree op (site c q) o t (type_of e) p) in
    let f = emit (j a) p.draft in
    let C = IsCalled c (calls_in i ++ calls_in e) in
    let both = loaded_called c t (site c at) a i e d in
    let ns = stage_names g k h _ C d f s (grows_trans both (emit_grows C (j a) p.draft)) in
    let z = stage_edge g k h Uncalled _ d p.draft f (j a) s both (grows_refl Uncalled f) in
    let u = olds c t (site c at) a i e d ns in
    reload_laid g k h x at t y i e (work.Renew op q o at b w) n d f hs ns fa fi fe calm s (emit_grows Uncalled (j a) p.draft) (λ was. (
      p.draft.points,
      (old_plain p.draft.variables p.element u.element, (old_plain p.draft.variables p.right u.right, (old_plain p.draft.variables p.index u.index, calm_plain d.variables hs calm))),
      is_array g k n t y s.path fa,
      refl,
      record {
        there = subst (λ r. Among (edge p.draft.point (j r) p.draft.points) g.edges) (array_is g k t y d ns) z.0;
        shown = z.1;
        apart = all_own d.variables (object_of k y) hs calm;
        plain = calm_plain d.variables hs calm;
      },
      l,
      refl,
      tt,
      was,
    ))

-- an old tree that isn't an object is apart from objects
element_apart : (d : Draft) (x : Object) → d.names ≡ slots → IsApart (own x) (variable (next_temporary d))
element_apart d x n = subst (λ y. IsApart (own x) (variable y)) (sym (next_is d n)) (λ e. subst is_own e tt)

-- used: what was there before is given
pub replace_laid : (g : Whole) (k : ℕ) (h : Place) (x : Exits) (op : Op) (q : Pos) (o : IntType) (at : Pos) (t : IntType) (y : Variable) (i : ValueTree) (w : Work) (pt : ℕ) (hs : List Held)
    → Laid g k h x (work.Evaluate (tree.step op q o (tree.element t y at i) false) w) pt hs
    → Laid g k h x (meaning.reload at (program.array_of g.program k t y) i meaning.one (work.Replace op q o at (program.array_of g.program k t y) w)) pt hs
unfolding target ways IsPlace IsValue calls_at_place calls_in type_of
replace_laid g k h x op q o at t y i w pt hs (d, n, is, fits, quiet, s, l) =
    let c = context_of g k in
    let a = lower.array_of c y d in
    let b = program.array_of g.program k t y in
    let e = meaning.one in
    let p = rows.loaded t (site c at) a (lowered c i) (lowered c e) d in
    let j = λ (r : ArrayOf Slot). Store r (site c at) false p.index (rows.renewed_tree op (site c q) o t Int p) in
    let f = emit (j a) p.draft in
    let C = IsCalled c (calls_in i ++ calls_in e) in
    let both = loaded_called c t (site c at) a i e d in
    let calm = quiet refl in
    let v = rows.held Weak (shape_of e) Int ((two (strong_or_weak false) (lowered c i) (lowered c e) d).second, (two (strong_or_weak false) (lowered c i) (lowered c e) d).draft) in
    let s' = subst (λ zs. Stage g k h zs d f) (sym (append-nil (calls_in i))) s in
    let ns = stage_names g k h _ C d f s (grows_trans both (emit_grows C (j a) p.draft)) in
    let z = stage_edge g k h Uncalled _ d p.draft f (j a) s' both (grows_refl Uncalled f) in
    let u = olds c t (site c at) a i e d ns in
    subst (λ m. Laid g k h x (meaning.reload at b i e (work.Replace op q o at b w)) m hs) is
    (reload_laid g k h x at t y i e (work.Replace op q o at b w) n d f hs ns fits.1.0 fits.1.1 one_in calm s' (emit_grows Uncalled (j a) p.draft) (λ was. (
      p.draft.points,
      (old_plain p.draft.variables p.element u.element, (old_plain p.draft.variables p.right u.right, (old_plain p.draft.variables p.index u.index, calm_plain d.variables hs calm))),
      is_array g k n t y s.path fits.1.0,
      refl,
      record {
        there = subst (λ r. Among (edge p.draft.point (j r) p.draft.points) g.edges) (array_is g k t y d ns) z.0;
        shown = z.1;
        apart = (element_apart v.1 (object_of k y) u.names, all_own d.variables (object_of k y) hs calm);
        plain = (old_plain p.draft.variables p.element u.element, calm_plain d.variables hs calm);
      },
      l,
      refl,
      tt,
      was,
    )))

-- used: what is written is given
pub renewed_laid : (g : Whole) (k : ℕ) (h : Place) (x : Exits) (op : Op) (q : Pos) (o : IntType) (at : Pos) (t : IntType) (y : Variable) (i e : ValueTree) (w : Work) (n : ℕ) (d : Draft) (hs : List Held)
    → IsArray (around g k n) t y → IsValue (around g k n) i → IsValue (around g k n) e → AreCalm d.variables hs
    → Stage g k h (calls_in i ++ calls_in e) d
    (rows.renew_used op (site (context_of g k) q) o t (site (context_of g k) at) (lower.array_of (context_of g k) y d) (type_of e) (rows.loaded t (site (context_of g k) at) (lower.array_of (context_of g k) y d) (lowered (context_of g k) i) (lowered (context_of g k) e) d)).1
    → Laid g k h x w (rows.renew_used op (site (context_of g k) q) o t (site (context_of g k) at) (lower.array_of (context_of g k) y d) (type_of e) (rows.loaded t (site (context_of g k) at) (lower.array_of (context_of g k) y d) (lowered (context_of g k) i) (lowered (context_of g k) e) d)).1.point
    (held (rows.renew_used op (site (context_of g k) q) o t (site (context_of g k) at) (lower.array_of (context_of g k) y d) (type_of e) (rows.loaded t (site (context_of g k) at) (lower.array_of (context_of g k) y d) (lowered (context_of g k) i) (lowered (context_of g k) e) d)).0 t ∷ hs)
    → Laid g k h x (meaning.reload at (program.array_of g.program k t y) i e (work.Renewed op q o t (work.StoreKept at (program.array_of g.program k t y) w))) d.point hs
renewed_laid g k h x op q o at t y i e w n d hs fa fi fe calm s l =
    let c = context_of g k in
    let a = lower.array_of c y d in
    let b = program.array_of g.program k t y in
    let p = rows.loaded t (site c at) a (lowered c i) (lowered c e) d in
    let v = rows.renewed_tree op (site c q) o t (type_of e) p in
    let m = emit (Set (next_temporary p.draft) v) (with_temporary t p.draft) in
    let j = λ (r : ArrayOf Slot) (u : Slot). Store r (site c at) false p.index (variable u) in
    let f = emit (j a (next_temporary p.draft)) m in
    let C = IsCalled c (calls_in i ++ calls_in e) in
    let both = loaded_called c t (site c at) a i e d in
    let set_grows = made_grows C (Set (next_temporary p.draft) v) t p.draft in
    let last = emit_grows Uncalled (j a (next_temporary p.draft)) m in
    let ns = stage_names g k h _ C d f s (grows_trans both (grows_trans set_grows (emit_grows C (j a (next_temporary p.draft)) m))) in
    let u = olds c t (site c at) a i e d ns in
    let le = u.more in
    let set_edge = stage_edge g k h Uncalled _ d (with_temporary t p.draft) f (Set (next_temporary p.draft) v) s (grows_trans both (temporary_grows C t p.draft)) last in
    let put_edge = stage_edge g k h Uncalled _ d m f (j a (next_temporary p.draft)) s (grows_trans both set_grows) (grows_refl Uncalled f) in
    reload_laid g k h x at t y i e (work.Renewed op q o t (work.StoreKept at b w)) n d f hs ns fa fi fe calm s (grows_trans (made_grows Uncalled (Set (next_temporary p.draft) v) t p.draft) last) (λ was. (
      p.draft.points,
      p.draft.variables,
      (old_plain p.draft.variables p.element u.element, (old_plain p.draft.variables p.right u.right, (old_plain p.draft.variables p.index u.index, calm_plain d.variables hs calm))),
      refl,
      record {
        there = subst (λ z. Among (edge p.draft.point (Set z v) p.draft.points) g.edges) (next_is p.draft u.names) set_edge.0;
        shown = set_edge.1;
        apart = (old_apart p.draft.variables p.draft.variables p.index (omega arith) u.index, all_temporary d.variables p.draft.variables hs le calm);
        plain = (old_plain p.draft.variables p.index u.index, calm_plain d.variables hs calm);
      },
      (
        m.points,
        false,
        is_array g k n t y s.path fa,
        refl,
        record {
          there = subst (λ z. Among (edge p.draft.points (j (cells b) z) m.points) g.edges) (next_is p.draft u.names)
              (subst (λ r. Among (edge p.draft.points (j r (next_temporary p.draft)) m.points) g.edges) (array_is g k t y d ns) put_edge.0);
          shown = put_edge.1;
          apart = ((λ z. absurd (subst is_own z tt)), all_own d.variables (object_of k y) hs calm);
          plain = (tt, calm_plain d.variables hs calm);
        },
        subst (λ z. Laid g k h x w m.points (held (variable z) t ∷ hs)) (next_is p.draft u.names) l,
        (refl, was),
      ),
      tt,
    ))
