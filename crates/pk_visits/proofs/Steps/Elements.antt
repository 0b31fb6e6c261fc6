-- The graph follows the program at elements, their faults included.
use Rattle.std.proofs.Common.{◌≡◌, ℕ, zero, suc, ◌<◌, List, [], ◌∷◌, Bool, true, false, ◌&&◌, if◌then◌else◌, refl, sym, ap, ◌∙◌, subst, arith, ℤ}
use Rattle.std.specs.Prelude.{pos, Result, Ok, Err, Some, slice_set, unsigned_abs}
use Rattle.std.proofs.lemmas.Int.{ints}
use Rattle.std.proofs.lemmas.List.{length-set}
use Rattle.pk_ctypes.specs.declared.places.Pos.{Pos}
use Rattle.pk_ctypes.specs.declared.types.IntType.{IntType}
use Rattle.pk_ctypes.specs.declared.types.IntType.TheVariants.{Int}
use Rattle.pk_ctypes.specs.declared.types.Op.{Op}
use Rattle.pk_ctypes.specs.declared.faults.Fault.{Fault}
use Rattle.pk_ctypes.specs.declared.faults.Fault.TheVariants as faults
use Rattle.pk_ctypes.specs.Types.{InType, is_in_type, wrapped}
use Rattle.pk_ctypes.specs.Operators.{result_type, right_number}
use Rattle.pk_ctypes.proofs.Wrapped.{wrapped_in, zero_in}
use Rattle.pk_ctypes.proofs.Values.{in_type_test}
use Rattle.pk_graph.specs.declared.trees.Site.{Site}
use Rattle.pk_graph.specs.Trees.{constant, ArrayOf, Set, Load, Store}
use Rattle.pk_graph.specs.Steps as steps
use Rattle.pk_graph.specs.Steps.{Numbers, number_at, tree_value, and_then, at_site, effect, with_value, all_in_type, is_index, indexed}
use Rattle.pk_draft.specs.Folding.{conversion, operated_tree, updated_tree}
use Rattle.pk_lower_statement.specs.declared.statements.Exits.{Exits}
use Rattle.pk_meaning.specs.Objects.{Array, Objects, numbers_of, with_numbers, is_in_scope}
use Rattle.pk_meaning.specs.Programs.{Program}
use Rattle.pk_meaning.specs.Work as work
use Rattle.pk_meaning.specs.Work.{Place, Work}
use Rattle.pk_meaning.specs.Steps as meaning
use Rattle.pk_meaning.specs.Steps.{Config, Next, step_of, operated}
use Rattle.pk_visits.proofs.Slots.{Slot, own, temporary, Memory, memory, memory_numbers, with_memory, SlotTree}
use Rattle.pk_visits.proofs.Stands.{Whole, Held, in_temporary, tested, IsBelow, IsTested, Means, HasKind, IsArrayOf, FitsObjects, Writes, site_at, cells, Laid}
use Rattle.pk_visits.proofs.Stores.{Fitting, fits_written, means_apart, temporary_value}
use Rattle.pk_visits.proofs.Steps.Values.{conversion_value, conversion_fault, operated_value}
use Rattle.pk_ctypes.proofs.Operator_values.{value_in}
use Rattle.pk_visits.proofs.Follow.{Doomed, IsInside, now, Answers, Follows, config, moved, set_does, kind_is}
use Rattle.pk_visits.proofs.Doom.{set_fails, store_value_fails}
use Rattle.pk_visits.proofs.Steps.Operators.{by_result, in_type}
use Rattle.pk_graph.specs.Kinds.{Kind, array_kind}

-- ---- indices

pub by_index : (g : Whole) (chosen : Numbers) (p : ℕ) (m : Memory) (c : Config) (at : Pos) (a : Array) (i : ℤ) (next : ℕ → Next)
    → (is_index a.length i ≡ true → Answers g chosen c.path c.here p m (next (unsigned_abs i)))
    → (is_index a.length i ≡ false → Doomed g chosen c.path c.here (steps.failure faults.Index (site_at c.path at)) p m)
    → Answers g chosen c.path c.here p m (meaning.with_index c at a i next)
by_index g chosen p m c at a i next f d = by (is_index a.length i) f d where
  by : (b : Bool) → (b ≡ true → Answers g chosen c.path c.here p m (next (unsigned_abs i))) → (b ≡ false → Doomed g chosen c.path c.here (steps.failure faults.Index (site_at c.path at)) p m)
      → Answers g chosen c.path c.here p m (if b then next (unsigned_abs i) else meaning.fails c faults.Index at)
  by true f d = f refl
  by false f d = d refl

-- ---- elements
-- an index in a list of numbers of a type: 0 stands behind the last
number_at_in : (t : IntType) (zs : Numbers) (j : ℕ) → all_in_type t zs ≡ true → InType t (number_at zs j)
number_at_in t [] j a = let z = zero_in t in record { from = z.0; to = z.1 }
number_at_in t (z ∷ zs) zero a = in_type t z (first_is (is_in_type t z) (all_in_type t zs) a) where
  first_is : (a b : Bool) → (a && b) ≡ true → a ≡ true
  first_is true b h = refl
  first_is false b h = h
number_at_in t (z ∷ zs) (suc j) a = number_at_in t zs j (second_is (is_in_type t z) (all_in_type t zs) a) where
  second_is : (a b : Bool) → (a && b) ≡ true → b ≡ true
  second_is true b h = h
  second_is false b h = absurd (grind (arith, h))

pub element_in : (p : Program) (a : Array) (j : ℕ) (s : Objects) → HasKind p a.object (array_kind a.int_type a.length) → FitsObjects p s → InType a.int_type (meaning.element_of a j s)
element_in p a j s h f = number_at_in a.int_type (numbers_of a.object s) j (f a.object (array_kind a.int_type a.length) h).1

all_set : (t : IntType) (zs : Numbers) (j : ℕ) (v : ℤ) → all_in_type t zs ≡ true → is_in_type t v ≡ true → all_in_type t (slice_set zs j v) ≡ true
all_set t [] j v a i = a
all_set t (z ∷ zs) zero v a i = both (is_in_type t z) (all_in_type t zs) (is_in_type t v) a i where
  both : (a b c : Bool) → (a && b) ≡ true → c ≡ true → (c && b) ≡ true
  both true true true h k = refl
  both true true false h k = k
  both true false c h k = absurd (grind (arith, h))
  both false b c h k = absurd (grind (arith, h))
all_set t (z ∷ zs) (suc j) v a i = more (is_in_type t z) (all_in_type t zs) (all_in_type t (slice_set zs j v)) a (all_set t zs j v (second_is (is_in_type t z) (all_in_type t zs) a) i) where
  second_is : (a b : Bool) → (a && b) ≡ true → b ≡ true
  second_is true b h = h
  second_is false b h = absurd (grind (arith, h))

  more : (a b c : Bool) → (a && b) ≡ true → c ≡ true → (a && c) ≡ true
  more true b c h k = k
  more false b c h k = h

pub element_written : (p : Program) (a : Array) (j : ℕ) (v : ℤ) (s : Objects) → HasKind p a.object (array_kind a.int_type a.length) → InType a.int_type v → FitsObjects p s
    → FitsObjects p (with_numbers a.object (slice_set (numbers_of a.object s) j v) s)
element_written p a j v s h i f =
    let zs = numbers_of a.object s in
    fits_written p a.object (slice_set zs j v) s
    (λ n k. subst (λ (z : Kind). Fitting z (slice_set zs j v)) (kind_is p a.object (array_kind a.int_type a.length) n h k)
    (length-set zs j v ∙ (f a.object (array_kind a.int_type a.length) h).0, all_set a.int_type zs j v (f a.object (array_kind a.int_type a.length) h).1 (in_type_test a.int_type v i))) f

-- what edges to and from elements do
abbrev loaded : ArrayOf Slot → Slot → ℕ → Memory → Memory
loaded a x j m = with_memory x (number_at (memory_numbers a.variable m) j ∷ []) m

load_by : (chosen : Numbers) (x : Slot) (a : ArrayOf Slot) (s : Site) (b : Bool) (i : SlotTree) (z : ℤ) (m : Memory) → tree_value memory i m ≡ Ok z
    → effect memory chosen (Load x a s b i) m ≡ with_value (indexed s a.length z) (λ j. steps.To (loaded a x j m))
load_by chosen x a s b i z m k = ap (λ r. with_value (and_then r (indexed s a.length)) (λ j. steps.To (loaded a x j m))) k

index_in : (s : Site) (n : ℕ) (z : ℤ) → is_index n z ≡ true → indexed s n z ≡ Ok (unsigned_abs z)
index_in s n z h = ap (λ b. if b then Ok (unsigned_abs z) else Err (steps.failure faults.Index s)) h

index_out : (s : Site) (n : ℕ) (z : ℤ) → is_index n z ≡ false → indexed s n z ≡ Err (steps.failure faults.Index s)
index_out s n z h = ap (λ b. if b then Ok (unsigned_abs z) else Err (steps.failure faults.Index s)) h

abbrev stored : ArrayOf Slot → ℕ → ℤ → Memory → Memory
stored a j v m = with_memory a.variable (slice_set (memory_numbers a.variable m) j v) m

pub store_by : (chosen : Numbers) (a : ArrayOf Slot) (s : Site) (b : Bool) (i e : SlotTree) (z v : ℤ) (m : Memory) → tree_value memory i m ≡ Ok z → tree_value memory e m ≡ Ok v
    → effect memory chosen (Store a s b i e) m ≡ with_value (indexed s a.length z) (λ j. steps.To (stored a j v m))
store_by chosen a s b i e z v m k l =
    ap (λ r. with_value r (λ z. with_value (tree_value memory e m) (λ v. with_value (indexed s a.length z) (λ j. steps.To (stored a j v m))))) k
    ∙ ap (λ r. with_value r (λ v. with_value (indexed s a.length z) (λ j. steps.To (stored a j v m)))) l

-- an element is the graph's
element_same : (a : Array) (j : ℕ) (s : Objects) (m : Memory) → m.objects ≡ s → number_at (memory_numbers (own a.object) m) j ≡ meaning.element_of a j s
element_same a j s m same = ap (λ o. number_at (numbers_of a.object o) j) same

pub load : (g : Whole) (chosen : Numbers) (p : ℕ) (m : Memory) (k : ℕ) (h : Place) (at : Pos) (a : Array) (w : Work) (i : ℤ) (vs : Numbers) (s : Objects) (b : Bool) (x : Exits) (c : Held) (hs : List Held)
    → Laid g k h x (work.Load at a w) p (c ∷ hs) → Means m (c ∷ hs) (i ∷ vs) → m.objects ≡ s → FitsObjects g.program s
    → Answers g chosen k h p m (step_of g.program chosen (config k h (work.Load at a w) (i ∷ vs) s b) (work.Load at a w))
load g chosen p m k h at a w i vs s b x c hs l e same f =
    let by = load_by chosen (temporary l.1) (cells a) (site_at k at) true c.tree i m e.0 in
    by_index g chosen p m (config k h (work.Load at a w) (i ∷ vs) s b) at a i (λ j. meaning.on (config k h (work.Load at a w) (i ∷ vs) s b) w (meaning.element_of a j s ∷ vs))
    (λ is. let j = unsigned_abs i in let v = number_at (memory_numbers (own a.object) m) j in
    moved g chosen p l.0 m (with_memory (temporary l.1) (v ∷ []) m) (Load (temporary l.1) (cells a) (site_at k at) true c.tree) k h w (meaning.element_of a j s ∷ vs) s false x (in_temporary l.1 a.int_type ∷ hs)
    l.3.there (by ∙ ap (λ r. with_value r (λ j. steps.To (loaded (cells a) (temporary l.1) j m))) (index_in (site_at k at) a.length i is)) refl l.4
    (temporary_value l.1 v m ∙ ap Ok (element_same a j s m same), element_in g.program a j s l.2 f, means_apart (temporary l.1) (v ∷ []) m hs vs l.3.apart e.2, tt) same f)
    (λ is. now l.0 (Load (temporary l.1) (cells a) (site_at k at) true c.tree) l.3.there
    (by ∙ ap (λ r. with_value r (λ j. steps.To (loaded (cells a) (temporary l.1) j m))) (index_out (site_at k at) a.length i is)) (λ b. absurd (cc b)))

pub reload : (g : Whole) (chosen : Numbers) (p : ℕ) (m : Memory) (k : ℕ) (h : Place) (at : Pos) (a : Array) (w : Work) (i v : ℤ) (vs : Numbers) (s : Objects) (b : Bool) (x : Exits) (c d : Held) (hs : List Held)
    → Laid g k h x (work.Reload at a w) p (d ∷ c ∷ hs) → Means m (d ∷ c ∷ hs) (v ∷ i ∷ vs) → m.objects ≡ s → FitsObjects g.program s → g.read k at
    → Answers g chosen k h p m (step_of g.program chosen (config k h (work.Reload at a w) (v ∷ i ∷ vs) s b) (work.Reload at a w))
reload g chosen p m k h at a w i v vs s b x c d hs l e same f was =
    let by = load_by chosen (temporary l.1) (cells a) (site_at k at) true c.tree i m e.2.0 in
    by_index g chosen p m (config k h (work.Reload at a w) (v ∷ i ∷ vs) s b) at a i (λ j. meaning.on (config k h (work.Reload at a w) (v ∷ i ∷ vs) s b) w (meaning.element_of a j s ∷ v ∷ i ∷ vs))
    (λ is. let j = unsigned_abs i in let z = number_at (memory_numbers (own a.object) m) j in
    let y = means_apart (temporary l.1) (z ∷ []) m (d ∷ c ∷ hs) (v ∷ i ∷ vs) l.3.apart e in
    moved g chosen p l.0 m (with_memory (temporary l.1) (z ∷ []) m) (Load (temporary l.1) (cells a) (site_at k at) true c.tree) k h w (meaning.element_of a j s ∷ v ∷ i ∷ vs) s false x
    (in_temporary l.1 a.int_type ∷ d ∷ tested a.length c ∷ hs)
    l.3.there (by ∙ ap (λ r. with_value r (λ j. steps.To (loaded (cells a) (temporary l.1) j m))) (index_in (site_at k at) a.length i is)) refl (l.4 was)
    (temporary_value l.1 z m ∙ ap Ok (element_same a j s m same), element_in g.program a j s l.2 f, (y.0, y.1, (y.2.0, y.2.1, y.2.2, is), y.3), tt) same f)
    (λ is. now l.0 (Load (temporary l.1) (cells a) (site_at k at) true c.tree) l.3.there
    (by ∙ ap (λ r. with_value r (λ j. steps.To (loaded (cells a) (temporary l.1) j m))) (index_out (site_at k at) a.length i is)) (λ b. absurd (cc b)))

-- a number goes into an element of an object
pub stored_follows : (g : Whole) (chosen : Numbers) (p q : ℕ) (m : Memory) (k : ℕ) (h : Place) (s : Objects) (x : Exits) (w : Work) (a : Array) (r : Site) (f : Bool) (c e : SlotTree) (i v : ℤ) (hs : List Held) (vs : Numbers)
    → IsArrayOf g a → InType a.int_type v → tree_value memory c m ≡ Ok i → tree_value memory e m ≡ Ok v → is_index a.length i ≡ true
    → Writes g k h p (own a.object) (Store (cells a) r f c e) q hs → Laid g k h x w q hs → Means (with_memory (own a.object) (slice_set (numbers_of a.object m.objects) (unsigned_abs i) v) m) hs vs
    → m.objects ≡ s → FitsObjects g.program s
    → Follows g chosen p m (config k h w vs (with_numbers a.object (slice_set (numbers_of a.object s) (unsigned_abs i) v) s) (is_in_scope a.object h.scope))
stored_follows g chosen p q m k h s x w a r f c e i v hs vs is t d n o z l y same fit =
    let j = unsigned_abs i in
    moved g chosen p q m (with_memory (own a.object) (slice_set (numbers_of a.object m.objects) j v) m) (Store (cells a) r f c e) k h w vs (with_numbers a.object (slice_set (numbers_of a.object s) j v) s) (is_in_scope a.object h.scope) x hs
    z.there (store_by chosen (cells a) r f c e i v m d n ∙ ap (λ u. with_value u (λ j. steps.To (stored (cells a) j v m))) (index_in r a.length i o)) (refl, z.shown) l y
    (ap (λ u. with_numbers a.object (slice_set (numbers_of a.object u) j v) u) same) (element_written g.program a j v s is t fit)

-- an index that was tested lies below the length
inside : (n : ℕ) (c : Held) (m : Memory) (i : ℤ) → tree_value memory c.tree m ≡ Ok i → IsBelow c.below i → c.below ≡ Some n → (z : ℤ) → tree_value memory c.tree m ≡ Ok z → is_index n z ≡ true
inside n c m i d t is z e = subst (λ x. is_index n x ≡ true) (same i z (sym d ∙ e)) (subst (λ o. IsBelow o i) is t) where
  same : (i z : ℤ) → (let x : Result ℤ steps.Failure = Ok i in x) ≡ Ok z → i ≡ z
  same i z e = cc e

store_out : (g : Whole) (chosen : Numbers) (p q : ℕ) (m : Memory) (k : ℕ) (h : Place) (a : Array) (r : Site) (f : Bool) (c e : SlotTree) (i v : ℤ) (hs : List Held)
    → tree_value memory c m ≡ Ok i → tree_value memory e m ≡ Ok v → is_index a.length i ≡ false → Writes g k h p (own a.object) (Store (cells a) r f c e) q hs → IsInside (Store (cells a) r f c e) m
    → Doomed g chosen k h (steps.failure faults.Index r) p m
store_out g chosen p q m k h a r f c e i v hs d n o z y =
    now q (Store (cells a) r f c e) z.there (store_by chosen (cells a) r f c e i v m d n ∙ ap (λ u. with_value u (λ j. steps.To (stored (cells a) j v m))) (index_out r a.length i o)) y

pub store : (g : Whole) (chosen : Numbers) (p : ℕ) (m : Memory) (k : ℕ) (h : Place) (at : Pos) (a : Array) (w : Work) (i v : ℤ) (vs : Numbers) (s : Objects) (b : Bool) (x : Exits) (c d : Held) (hs : List Held)
    → Laid g k h x (work.Store at a w) p (d ∷ c ∷ hs) → Means m (d ∷ c ∷ hs) (v ∷ i ∷ vs) → m.objects ≡ s → FitsObjects g.program s
    → Answers g chosen k h p m (step_of g.program chosen (config k h (work.Store at a w) (v ∷ i ∷ vs) s b) (work.Store at a w))
store g chosen p m k h at a w i v vs s b x c d hs l e same f =
    let n = conversion d.int_type a.int_type d.tree in
    let is = conversion_value d.int_type a.int_type d.tree v m e.1 e.0 in
    by_index g chosen p m (config k h (work.Store at a w) (v ∷ i ∷ vs) s b) at a i (λ j. meaning.stores (config k h (work.Store at a w) (v ∷ i ∷ vs) s b) a j (wrapped a.int_type v) w vs)
    (λ o. stored_follows g chosen p l.0 m k h s x w a (site_at k at) true c.tree n i (wrapped a.int_type v) hs vs l.1 (wrapped_in a.int_type v) e.2.0 is o l.2 l.3
    (means_apart (own a.object) _ m hs vs l.2.apart e.2.2) same f)
    (λ o. store_out g chosen p l.0 m k h a (site_at k at) true c.tree n i (wrapped a.int_type v) hs e.2.0 is o l.2 (λ b. absurd (cc b)))

pub store_kept : (g : Whole) (chosen : Numbers) (p : ℕ) (m : Memory) (k : ℕ) (h : Place) (at : Pos) (a : Array) (w : Work) (i v : ℤ) (vs : Numbers) (s : Objects) (b : Bool) (x : Exits) (c d : Held) (hs : List Held)
    → Laid g k h x (work.StoreKept at a w) p (d ∷ c ∷ hs) → Means m (d ∷ c ∷ hs) (v ∷ i ∷ vs) → m.objects ≡ s → FitsObjects g.program s
    → Answers g chosen k h p m (step_of g.program chosen (config k h (work.StoreKept at a w) (v ∷ i ∷ vs) s b) (work.StoreKept at a w))
store_kept g chosen p m k h at a w i v vs s b x c d hs l e same f =
    by_index g chosen p m (config k h (work.StoreKept at a w) (v ∷ i ∷ vs) s b) at a i (λ j. meaning.stores (config k h (work.StoreKept at a w) (v ∷ i ∷ vs) s b) a j v w (v ∷ vs))
    (λ o. stored_follows g chosen p l.0 m k h s x w a (site_at k at) l.1 c.tree d.tree i v (d ∷ hs) (v ∷ vs) l.2 (subst (λ t. InType t v) l.3 e.1) e.2.0 e.0 o l.4 l.5
    (means_apart (own a.object) _ m (d ∷ hs) (v ∷ vs) l.4.apart (e.0, e.1, e.2.2, e.3)) same f)
    (λ o. store_out g chosen p l.0 m k h a (site_at k at) l.1 c.tree d.tree i v (d ∷ hs) e.2.0 e.0 o l.4 (λ b. inside a.length c m i e.2.0 e.2.3 (subst (λ t. IsTested t c.below a.length (g.read k at)) b l.6).0))

pub item : (g : Whole) (chosen : Numbers) (p : ℕ) (m : Memory) (k : ℕ) (h : Place) (a : Array) (j : ℕ) (w : Work) (v : ℤ) (vs : Numbers) (s : Objects) (b : Bool) (x : Exits) (d : Held) (hs : List Held)
    → Laid g k h x (work.Item a j w) p (d ∷ hs) → Means m (d ∷ hs) (v ∷ vs) → m.objects ≡ s → FitsObjects g.program s
    → Answers g chosen k h p m (step_of g.program chosen (config k h (work.Item a j w) (v ∷ vs) s b) (work.Item a j w))
item g chosen p m k h a j w v vs s b x d hs l e same f =
    stored_follows g chosen p l.0 m k h s x w a l.1 false (constant Int (pos j)) (conversion d.int_type a.int_type d.tree) (pos j) (wrapped a.int_type v) hs vs l.3 (wrapped_in a.int_type v) refl
    (conversion_value d.int_type a.int_type d.tree v m e.1 e.0) (below_index a.length j l.2) l.4 l.5 (means_apart (own a.object) _ m hs vs l.4.apart e.2) same f where
      below_index : (n j : ℕ) → j < n → is_index n (pos j) ≡ true
      below_index n j h = grind (arith, ints, h)

-- ---- elements with an operator

-- what is written back where the operator gives a number
renewed_value : (op : Op) (at : Site) (o t : IntType) (d c : Held) (u v z : ℤ) (m : Memory) → t ≡ d.int_type → InType d.int_type u → tree_value memory d.tree m ≡ Ok u → InType c.int_type v → tree_value memory c.tree m ≡ Ok v
    → operated op o u v ≡ Ok z → tree_value memory (updated_tree op at o t c.int_type d.tree c.tree) m ≡ Ok (wrapped t z)
renewed_value op at o t d c u v z m is i k j l ok =
    conversion_value (result_type op o) t (operated_tree op at o t c.int_type d.tree c.tree) z m (value_in op o (wrapped o u) (right_number op o v) z ok)
    (operated_value op at o t c.int_type d.tree c.tree u v m (subst (λ q. InType q u) (sym is) i) k j l ∙ ap (at_site at) ok)

renewed_fault : (op : Op) (at : Site) (o t : IntType) (d c : Held) (u v : ℤ) (n : Fault) (m : Memory) → t ≡ d.int_type → InType d.int_type u → tree_value memory d.tree m ≡ Ok u → InType c.int_type v → tree_value memory c.tree m ≡ Ok v
    → operated op o u v ≡ Err n → tree_value memory (updated_tree op at o t c.int_type d.tree c.tree) m ≡ Err (steps.failure n at)
renewed_fault op at o t d c u v n m is i k j l err =
    conversion_fault (result_type op o) t (operated_tree op at o t c.int_type d.tree c.tree) (steps.failure n at) m
    (operated_value op at o t c.int_type d.tree c.tree u v m (subst (λ q. InType q u) (sym is) i) k j l ∙ ap (at_site at) err)

store_tree_fails : (g : Whole) (chosen : Numbers) (p q : ℕ) (m : Memory) (k : ℕ) (h : Place) (a : Array) (r : Site) (f : Bool) (c e : SlotTree) (i : ℤ) (n : steps.Failure) (hs : List Held)
    → tree_value memory c m ≡ Ok i → tree_value memory e m ≡ Err n → Writes g k h p (own a.object) (Store (cells a) r f c e) q hs → IsInside (Store (cells a) r f c e) m → Doomed g chosen k h n p m
store_tree_fails g chosen p q m k h a r f c e i n hs d l z y = now q (Store (cells a) r f c e) z.there (store_value_fails chosen (cells a) r f c e i n m d l) y

pub renew : (g : Whole) (chosen : Numbers) (p : ℕ) (m : Memory) (k : ℕ) (h : Place) (op : Op) (at : Pos) (o : IntType) (r : Pos) (a : Array) (w : Work) (i v u : ℤ) (vs : Numbers) (s : Objects) (b : Bool) (x : Exits) (n c d : Held) (hs : List Held)
    → Laid g k h x (work.Renew op at o r a w) p (d ∷ c ∷ n ∷ hs) → Means m (d ∷ c ∷ n ∷ hs) (u ∷ v ∷ i ∷ vs) → m.objects ≡ s → FitsObjects g.program s
    → Answers g chosen k h p m (step_of g.program chosen (config k h (work.Renew op at o r a w) (u ∷ v ∷ i ∷ vs) s b) (work.Renew op at o r a w))
renew g chosen p m k h op at o r a w i v u vs s b x n c d hs l e same f =
    let con = config k h (work.Renew op at o r a w) (u ∷ v ∷ i ∷ vs) s b in
    let y = updated_tree op (site_at k at) o a.int_type c.int_type d.tree c.tree in
    by_result g chosen p m con at (operated op o u v) (λ z. meaning.with_index con r a i (λ j. meaning.stores con a j (wrapped a.int_type z) w vs))
    (λ z ok. let is = renewed_value op (site_at k at) o a.int_type d c u v z m (sym l.3) e.1 e.0 e.2.1 e.2.0 ok in
    by_index g chosen p m con r a i (λ j. meaning.stores con a j (wrapped a.int_type z) w vs)
    (λ t. stored_follows g chosen p l.0 m k h s x w a (site_at k r) false n.tree y i (wrapped a.int_type z) hs vs l.2 (wrapped_in a.int_type z) e.2.2.0 is t l.4 l.5
    (means_apart (own a.object) _ m hs vs l.4.apart e.2.2.2) same f)
    (λ t. store_out g chosen p l.0 m k h a (site_at k r) false n.tree y i (wrapped a.int_type z) hs e.2.2.0 is t l.4 (λ b. inside a.length n m i e.2.2.0 e.2.2.3 l.6)))
    (λ q err. store_tree_fails g chosen p l.0 m k h a (site_at k r) false n.tree y i (steps.failure q (site_at k at)) hs e.2.2.0
    (renewed_fault op (site_at k at) o a.int_type d c u v q m (sym l.3) e.1 e.0 e.2.1 e.2.0 err) l.4 (λ b. inside a.length n m i e.2.2.0 e.2.2.3 l.6))

pub replace : (g : Whole) (chosen : Numbers) (p : ℕ) (m : Memory) (k : ℕ) (h : Place) (op : Op) (at : Pos) (o : IntType) (r : Pos) (a : Array) (w : Work) (i v u : ℤ) (vs : Numbers) (s : Objects) (b : Bool) (x : Exits) (n c d : Held) (hs : List Held)
    → Laid g k h x (work.Replace op at o r a w) p (d ∷ c ∷ n ∷ hs) → Means m (d ∷ c ∷ n ∷ hs) (u ∷ v ∷ i ∷ vs) → m.objects ≡ s → FitsObjects g.program s
    → Answers g chosen k h p m (step_of g.program chosen (config k h (work.Replace op at o r a w) (u ∷ v ∷ i ∷ vs) s b) (work.Replace op at o r a w))
replace g chosen p m k h op at o r a w i v u vs s b x n c d hs l e same f =
    let con = config k h (work.Replace op at o r a w) (u ∷ v ∷ i ∷ vs) s b in
    let y = updated_tree op (site_at k at) o a.int_type c.int_type d.tree c.tree in
    by_result g chosen p m con at (operated op o u v) (λ z. meaning.with_index con r a i (λ j. meaning.stores con a j (wrapped a.int_type z) w (u ∷ vs)))
    (λ z ok. let is = renewed_value op (site_at k at) o a.int_type d c u v z m (sym l.3) e.1 e.0 e.2.1 e.2.0 ok in
    by_index g chosen p m con r a i (λ j. meaning.stores con a j (wrapped a.int_type z) w (u ∷ vs))
    (λ t. stored_follows g chosen p l.0 m k h s x w a (site_at k r) false n.tree y i (wrapped a.int_type z) (d ∷ hs) (u ∷ vs) l.2 (wrapped_in a.int_type z) e.2.2.0 is t l.4 l.5
    (means_apart (own a.object) _ m (d ∷ hs) (u ∷ vs) l.4.apart (e.0, e.1, e.2.2.2, e.3)) same f)
    (λ t. store_out g chosen p l.0 m k h a (site_at k r) false n.tree y i (wrapped a.int_type z) (d ∷ hs) e.2.2.0 is t l.4 (λ b. inside a.length n m i e.2.2.0 e.2.2.3 l.6)))
    (λ q err. store_tree_fails g chosen p l.0 m k h a (site_at k r) false n.tree y i (steps.failure q (site_at k at)) (d ∷ hs) e.2.2.0
    (renewed_fault op (site_at k at) o a.int_type d c u v q m (sym l.3) e.1 e.0 e.2.1 e.2.0 err) l.4 (λ b. inside a.length n m i e.2.2.0 e.2.2.3 l.6))

pub renewed : (g : Whole) (chosen : Numbers) (p : ℕ) (m : Memory) (k : ℕ) (h : Place) (op : Op) (at : Pos) (o t : IntType) (w : Work) (i v u : ℤ) (vs : Numbers) (s : Objects) (b : Bool) (x : Exits) (n c d : Held) (hs : List Held)
    → Laid g k h x (work.Renewed op at o t w) p (d ∷ c ∷ n ∷ hs) → Means m (d ∷ c ∷ n ∷ hs) (u ∷ v ∷ i ∷ vs) → m.objects ≡ s → FitsObjects g.program s
    → Answers g chosen k h p m (step_of g.program chosen (config k h (work.Renewed op at o t w) (u ∷ v ∷ i ∷ vs) s b) (work.Renewed op at o t w))
renewed g chosen p m k h op at o t w i v u vs s b x n c d hs l e same f =
    let con = config k h (work.Renewed op at o t w) (u ∷ v ∷ i ∷ vs) s b in
    let y = updated_tree op (site_at k at) o t c.int_type d.tree c.tree in
    by_result g chosen p m con at (operated op o u v) (λ z. meaning.on con w (wrapped t z ∷ i ∷ vs))
    (λ z ok. let q = wrapped t z in
    moved g chosen p l.0 m (with_memory (temporary l.1) (q ∷ []) m) (Set (temporary l.1) y) k h w (q ∷ i ∷ vs) s false x (in_temporary l.1 t ∷ n ∷ hs)
    l.4.there (set_does chosen (temporary l.1) y q m (renewed_value op (site_at k at) o t d c u v z m (sym l.3) e.1 e.0 e.2.1 e.2.0 ok)) refl l.5
    (temporary_value l.1 q m, wrapped_in t z, means_apart (temporary l.1) (q ∷ []) m (n ∷ hs) (i ∷ vs) l.4.apart e.2.2, tt) same f)
    (λ q err. now l.0 (Set (temporary l.1) y) l.4.there (set_fails chosen (temporary l.1) y (steps.failure q (site_at k at)) m (renewed_fault op (site_at k at) o t d c u v q m (sym l.3) e.1 e.0 e.2.1 e.2.0 err)) tt)
