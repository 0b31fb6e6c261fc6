-- Where a tree that waits has an operator in it whose operands have values, an edge from this point on has it: the program computes an operator before the graph uses the tree.
use Rattle.std.proofs.Common.{◌≡◌, ℕ, zero, suc, ◌+◌, ◌⊎◌, List, [], ◌∷◌, length, Bool, true, false, ap, ◌∙◌, subst, inl, inr, ℤ}
use Rattle.std.specs.Prelude.{pos, Ok}
use Rattle.pk_ctypes.specs.declared.types.IntType.{IntType}
use Rattle.pk_ctypes.specs.declared.types.IntType.TheVariants.{Int}
use Rattle.pk_ctypes.specs.declared.types.Op.{Op}
use Rattle.pk_ctypes.specs.Types.{represents}
use Rattle.pk_ctypes.specs.Operators.{result_type}
use Rattle.pk_typed.specs.Trees.{ValueTrees, no_values, value_before}
use Rattle.pk_typed.specs.Types.{type_of}
use Rattle.pk_graph.specs.declared.trees.Site.{Site}
use Rattle.pk_graph.specs.Trees.{constant, variable, converted, unary, binary, Skip, Set, Havoc, Clear, Load, Store, Guard, Check}
use Rattle.pk_graph.specs.Steps.{tree_value}
use Rattle.pk_draft.specs.Folding.{conversion, kept_if, unary_tree, binary_tree, operated_tree, right_type}
use Rattle.pk_lower_row.specs.Shapes.{makes, makes_effect, any_makes}
use Rattle.pk_lower_expression.specs.Expressions.{ways, passed}
use Rattle.pk_lower_statement.specs.declared.statements.Exits.{Exits}
use Rattle.pk_meaning.specs.Objects.{Object, local, is_in_scope}
use Rattle.pk_meaning.specs.Work as work
use Rattle.pk_meaning.specs.Work.{Place, Work}
use Rattle.pk_visits.proofs.Slots.{Slot, own, temporary, Draft, SlotTree, Instr, edge, Memory, memory, with_memory, Among}
use Rattle.pk_visits.proofs.Stands.{Whole, ShowsAt, context_of, Held, held, IsApart, AreApart, AreCalm, IsPlain, ArePlain, ArePlainUnder, picked, pushed, Binds, Passes, site_at, cells, Laid}
use Rattle.pk_visits.proofs.Steps.Values.{conversion_ok}
use Rattle.pk_visits.proofs.Steps.Silent.{silent, silent_effect}
use Rattle.pk_visits.proofs.Doom.{Sound, sound_apart, pick_sound, calm_plain, silent_passed, both_bools}

-- ---- parts of trees

-- some operator of the tree is such
abbrev pub Holds : (SlotTree → Type 0) → SlotTree → Type 0
Holds P (constant t z) = ⊥
Holds P (variable x) = ⊥
Holds P (converted t e) = Holds P e
Holds P (unary op s t e) = P (unary op s t e) ⊎ Holds P e
Holds P (binary op s t a b) = P (binary op s t a b) ⊎ (Holds P a ⊎ Holds P b)

-- some operator of the instruction's trees
abbrev pub HoldsIn : (SlotTree → Type 0) → Instr → Type 0
HoldsIn P Skip = ⊥
HoldsIn P (Set x e) = Holds P e
HoldsIn P (Havoc x t n) = ⊥
HoldsIn P (Clear a) = ⊥
HoldsIn P (Load x a s b i) = Holds P i
HoldsIn P (Store a s b i e) = Holds P i ⊎ Holds P e
HoldsIn P (Guard e b) = Holds P e
HoldsIn P (Check s e) = Holds P e

holds_plain : (P : SlotTree → Type 0) (e : SlotTree) → IsPlain e → Holds P e → ⊥
holds_plain P (constant t z) h k = k
holds_plain P (variable x) h k = k
holds_plain P (converted t e) h k = h
holds_plain P (unary op s t e) h k = h
holds_plain P (binary op s t a b) h k = h

kept_holds : (P : SlotTree → Type 0) (b : Bool) (t : IntType) (e : SlotTree) → Holds P e → Holds P (kept_if b t e)
kept_holds P true t e h = h
kept_holds P false t e h = h

pub converted_holds : (P : SlotTree → Type 0) (u t : IntType) (e : SlotTree) → Holds P e → Holds P (conversion u t e)
converted_holds P u t (constant r z) h = absurd h
converted_holds P u t (variable x) h = absurd h
converted_holds P u t (converted r e) h = kept_holds P (represents t u) t (converted r e) h
converted_holds P u t (unary op s r e) h = kept_holds P (represents t u) t (unary op s r e) h
converted_holds P u t (binary op s r a b) h = kept_holds P (represents t u) t (binary op s r a b) h

unary_holds : (P : SlotTree → Type 0) (op : Op) (s : Site) (t : IntType) (e : SlotTree) → Holds P e → Holds P (unary_tree op s t e)
unary_holds P op s t (constant r z) h = absurd h
unary_holds P op s t (variable x) h = absurd h
unary_holds P op s t (converted r e) h = inr h
unary_holds P op s t (unary o q r e) h = inr h
unary_holds P op s t (binary o q r a b) h = inr h

left_holds : (P : SlotTree → Type 0) (op : Op) (s : Site) (t : IntType) (a b : SlotTree) → Holds P a → Holds P (binary_tree op s t a b)
left_holds P op s t (constant r z) b h = absurd h
left_holds P op s t (variable x) b h = absurd h
left_holds P op s t (converted r e) b h = inr (inl h)
left_holds P op s t (unary o q r e) b h = inr (inl h)
left_holds P op s t (binary o q r a c) b h = inr (inl h)

beside_constant : (P : SlotTree → Type 0) (op : Op) (s : Site) (t r : IntType) (z : ℤ) (b : SlotTree) → Holds P b → Holds P (binary_tree op s t (constant r z) b)
beside_constant P op s t r z (constant u y) h = absurd h
beside_constant P op s t r z (variable x) h = absurd h
beside_constant P op s t r z (converted u e) h = inr (inr h)
beside_constant P op s t r z (unary o q u e) h = inr (inr h)
beside_constant P op s t r z (binary o q u a c) h = inr (inr h)

right_holds : (P : SlotTree → Type 0) (op : Op) (s : Site) (t : IntType) (a b : SlotTree) → Holds P b → Holds P (binary_tree op s t a b)
right_holds P op s t (constant r z) b h = beside_constant P op s t r z b h
right_holds P op s t (variable x) b h = inr (inr h)
right_holds P op s t (converted r e) b h = inr (inr h)
right_holds P op s t (unary o q r e) b h = inr (inr h)
right_holds P op s t (binary o q r a c) b h = inr (inr h)

operated_left : (P : SlotTree → Type 0) (op : Op) (s : Site) (t u v : IntType) (a b : SlotTree) → Holds P a → Holds P (operated_tree op s t u v a b)
operated_left P op s t u v a b h = left_holds P op s t (conversion u t a) (conversion v (right_type op v t) b) (converted_holds P u t a h)

operated_right : (P : SlotTree → Type 0) (op : Op) (s : Site) (t u v : IntType) (a b : SlotTree) → Holds P b → Holds P (operated_tree op s t u v a b)
operated_right P op s t u v a b h = right_holds P op s t (conversion u t a) (conversion v (right_type op v t) b) (converted_holds P v (right_type op v t) b h)

-- ---- trees that wait

-- what is sought of an operator in a memory
abbrev pub Sought : Type 1
Sought = Memory → SlotTree → Type 0

-- it stays where a slot is written that the tree doesn't read
abbrev pub Lasts : Sought → Type 0
Lasts P = (x : Slot) (v : ℤ) (m : Memory) (e : SlotTree) → IsApart x e → P m e → P (with_memory x (v ∷ []) m) e

-- some tree has such an operator, and each that was evaluated before it gives a number
abbrev pub HoldsAmong : Sought → Memory → List Held → Type 0
HoldsAmong P m [] = ⊥
HoldsAmong P m (h ∷ hs) = (Holds (P m) h.tree × Sound m hs) ⊎ HoldsAmong P m hs

plain_among : (P : Sought) (m : Memory) (hs : List Held) → ArePlain hs → HoldsAmong P m hs → ⊥
plain_among P m [] h k = k
plain_among P m (a ∷ hs) h (inl k) = holds_plain (P m) a.tree h.0 k.0
plain_among P m (a ∷ hs) h (inr k) = plain_among P m hs h.1 k

calm_among : (P : Sought) (n : ℕ) (m : Memory) (hs : List Held) → AreCalm n hs → HoldsAmong P m hs → ⊥
calm_among P n m hs h k = plain_among P m hs (calm_plain n hs h) k

among_pushed : (P : Sought) (m : Memory) (es : ValueTrees) (ts : List SlotTree) (hs : List Held) → HoldsAmong P m hs → HoldsAmong P m (pushed es ts hs)
among_pushed P m no_values ts hs k = k
among_pushed P m (value_before e es) [] hs k = k
among_pushed P m (value_before e es) (a ∷ ts) hs k = among_pushed P m es ts (held a (type_of e) ∷ hs) (inr k)

holds_apart : (P : Sought) → Lasts P → (x : Slot) (v : ℤ) (m : Memory) (e : SlotTree) → IsApart x e → Holds (P m) e → Holds (P (with_memory x (v ∷ []) m)) e
holds_apart P l x v m (constant t z) a h = h
holds_apart P l x v m (variable y) a h = h
holds_apart P l x v m (converted t e) a h = holds_apart P l x v m e a h
holds_apart P l x v m (unary op s t e) a (inl h) = inl (l x v m (unary op s t e) a h)
holds_apart P l x v m (unary op s t e) a (inr h) = inr (holds_apart P l x v m e a h)
holds_apart P l x v m (binary op s t b c) a (inl h) = inl (l x v m (binary op s t b c) a h)
holds_apart P l x v m (binary op s t b c) a (inr (inl h)) = inr (inl (holds_apart P l x v m b a.0 h))
holds_apart P l x v m (binary op s t b c) a (inr (inr h)) = inr (inr (holds_apart P l x v m c a.1 h))

among_apart : (P : Sought) → Lasts P → (x : Slot) (v : ℤ) (m : Memory) (hs : List Held) → AreApart x hs → HoldsAmong P m hs → HoldsAmong P (with_memory x (v ∷ []) m) hs
among_apart P l x v m [] a k = k
among_apart P l x v m (h ∷ hs) a (inl k) = inl (holds_apart P l x v m h.tree a.0 k.0, sound_apart x v m hs a.1 k.1)
among_apart P l x v m (h ∷ hs) a (inr k) = inr (among_apart P l x v m hs a.1 k)

-- one under n trees
abbrev HoldsUnder : Sought → ℕ → Memory → List Held → Type 0
HoldsUnder P zero m hs = HoldsAmong P m hs
HoldsUnder P (suc n) m [] = ⊥
HoldsUnder P (suc n) m (h ∷ hs) = HoldsUnder P n m hs

plain_under : (P : Sought) (n : ℕ) (m : Memory) (hs : List Held) → ArePlainUnder n hs → HoldsUnder P n m hs → ⊥
plain_under P zero m hs h k = plain_among P m hs h k
plain_under P (suc n) m [] h k = k
plain_under P (suc n) m (a ∷ hs) h k = plain_under P n m hs h k

-- the tree under n others has the operator; or it gives a number and one of the others has it; or one under it
data Case (P : Sought) (m : Memory) (n : ℕ) (a : Held) (rest : List Held) : Type 0 where
  itself : Holds (P m) a.tree → Case P m n a rest
  above : (v : ℤ) → tree_value memory a.tree m ≡ Ok v → HoldsAmong P m rest → Case P m n a rest
  under : HoldsUnder P n m rest → Case P m n a rest

with_one : (P : Sought) (m : Memory) (n : ℕ) (b a : Held) (rest : List Held) → Case P m n a rest → Case P m (suc n) a (b ∷ rest)
with_one P m n b a rest (itself e) = itself e
with_one P m n b a rest (above v e k) = above v e (inr k)
with_one P m n b a rest (under k) = under k

pick_among : (P : Sought) (n : ℕ) (m : Memory) (hs : List Held) (F : Held → List Held → Type 0) → picked n hs F → HoldsAmong P m hs
    → (a : Held) × (rest : List Held) × F a rest × Case P m n a rest
pick_among P n m [] F h k = absurd h
pick_among P zero m (a ∷ hs) F h (inl k) = (a, hs, h, itself k.0)
pick_among P zero m (a ∷ hs) F h (inr k) = (a, hs, h, under k)
pick_among P (suc n) m (b ∷ hs) F h (inl k) =
    let r = pick_sound n m hs (λ a rest. F a (b ∷ rest)) h k.1 in (r.0, b ∷ r.1, r.2, above r.3.0 r.3.1 (inl (k.0, r.4)))
pick_among P (suc n) m (b ∷ hs) F h (inr k) =
    let r = pick_among P n m hs (λ a rest. F a (b ∷ rest)) h k in (r.0, b ∷ r.1, r.2, with_one P m n b r.0 r.1 r.3)

-- ---- from a point on

-- An edge from the point does such a thing, perhaps behind edges that set objects which aren't in scope: the parameters of a call.
pub data Computed (g : Whole) (k : ℕ) (h : Place) (Q : Memory → Instr → Type 0) : ℕ → Memory → Type 0 where
  now : {p : ℕ} {m : Memory} (q : ℕ) (i : Instr) → Among (edge p i q) g.edges → Q m i → Computed g k h Q p m
  later : {p : ℕ} {m : Memory} (q : ℕ) (x : Object) (e : SlotTree) (v : ℤ) → Among (edge p (Set (own x) e) q) g.edges → tree_value memory e m ≡ Ok v → is_in_scope x h.scope ≡ false → ShowsAt g q k h
      → Computed g k h Q q (with_memory (own x) (v ∷ []) m) → Computed g k h Q p m

abbrev pub ComputedBy : Sought → Memory → Instr → Type 0
ComputedBy P m i = HoldsIn (P m) i

computed_binds : (g : Whole) (P : Sought) → Lasts P → (k : ℕ) (h : Place) (j i : ℕ) (ts : List IntType) (rest : ℕ → List Held → Type 0)
    → ((p : ℕ) (hs : List Held) (m : Memory) → rest p hs → HoldsAmong P m hs → Computed g k h (ComputedBy P) p m)
    → (p : ℕ) (hs : List Held) (m : Memory) → Binds g k h j i ts rest p hs → HoldsAmong P m hs → Computed g k h (ComputedBy P) p m
computed_binds g P lasts k h j i [] rest next p hs m l b = next p hs m l b
computed_binds g P lasts k h j i (t ∷ ts) rest next p hs m l b =
    let r = pick_among P (length ts) m hs _ l b in by r.0 r.1 r.2.0 r.2.2 r.2.3 r.3
    (λ q m. computed_binds g P lasts k h j (i + 1) ts rest next q r.1 m) where
      by : (a : Held) (hs : List Held) (q : ℕ) → Passes g k h (length ts) p (local j i) (conversion a.int_type t a.tree) q hs → Binds g k h j (i + 1) ts rest q hs
          → Case P m (length ts) a hs → ((q : ℕ) (m : Memory) → Binds g k h j (i + 1) ts rest q hs → HoldsAmong P m hs → Computed g k h (ComputedBy P) q m) → Computed g k h (ComputedBy P) p m
      by a hs q w b (itself e) more = now q (Set (own (local j i)) (conversion a.int_type t a.tree)) w.there (converted_holds (P m) a.int_type t a.tree e)
      by a hs q w b (above v e k) more =
          let z = conversion_ok a.int_type t a.tree v m e in
          later q (local j i) (conversion a.int_type t a.tree) z.0 w.there z.1 w.hidden w.shown
          (more q (with_memory (own (local j i)) (z.0 ∷ []) m) b (among_apart P lasts (own (local j i)) z.0 m hs w.apart k))
      by a hs q w b (under k) more = absurd (plain_under P (length ts) m hs w.plain k)

-- By the work that waits.
pub computed : (g : Whole) (P : Sought) → Lasts P → (k : ℕ) (h : Place) (x : Exits) (w : Work) (p : ℕ) (hs : List Held) (m : Memory) → Laid g k h x w p hs → HoldsAmong P m hs → Computed g k h (ComputedBy P) p m
computed g P lasts k h x (work.Go a) p hs m l b = absurd (plain_among P m hs l.0 b)
computed g P lasts k h x (work.Do s a) p hs m l b = absurd (calm_among P l.0.variables m hs l.5 b)
computed g P lasts k h x (work.Declare ds w) p hs m l b = absurd (calm_among P l.0.variables m hs l.4 b)
computed g P lasts k h x (work.Perform e w) p hs m l b = both_bools (Computed g k h (ComputedBy P) p m) (makes_effect e)
    (λ is. absurd (calm_among P l.0.variables m hs (l.4 is) b))
    (λ is. computed g P lasts k h x w p hs m (subst (λ q. Laid g k h x w q hs) (ap (λ (d : Draft). d.point) (silent_effect (context_of g k) e l.0 is) ∙ l.2) l.6) b)
computed g P lasts k h x (work.Evaluate e w) p hs m l b = both_bools (Computed g k h (ComputedBy P) p m) (makes e)
    (λ is. absurd (calm_among P l.0.variables m hs (l.4 is) b))
    (λ is. computed g P lasts k h x w p (held ((ways (context_of g k) e).value l.0).0 (type_of e) ∷ hs) m
    (subst (λ q. Laid g k h x w q (held ((ways (context_of g k) e).value l.0).0 (type_of e) ∷ hs)) (ap (λ (d : Draft). d.point) (silent (context_of g k) e l.0 is) ∙ l.2) l.6) (inr b))
computed g P lasts k h x (work.Test e y n) p hs m l b = absurd (calm_among P l.0.variables m hs l.6 b)
computed g P lasts k h x (work.Keep w) p [] m l b = absurd l
computed g P lasts k h x (work.Keep w) p (a ∷ hs) m (inl l) b = computed g P lasts k h x w p (a ∷ hs) m l b
computed g P lasts k h x (work.Keep w) p (a ∷ hs) m (inr l) (inl b) = now l.0 (Set (temporary l.1) a.tree) l.2.there b.0
computed g P lasts k h x (work.Keep w) p (a ∷ hs) m (inr l) (inr b) = absurd (plain_among P m hs l.2.plain b)
computed g P lasts k h x (work.Branch y n) p [] m l b = absurd l
computed g P lasts k h x (work.Branch y n) p (a ∷ hs) m l (inl b) = now l.1 (Guard a.tree true) l.3 b.0
computed g P lasts k h x (work.Branch y n) p (a ∷ hs) m l (inr b) = absurd (plain_among P m hs l.0 b)
computed g P lasts k h x (work.Apply op at t w) p [] m l b = absurd l
computed g P lasts k h x (work.Apply op at t w) p (a ∷ hs) m l (inl b) =
    let c = conversion a.int_type t a.tree in
    computed g P lasts k h x w p (held (unary_tree op (site_at k at) t c) (result_type op t) ∷ hs) m l.0
    (inl (unary_holds (P m) op (site_at k at) t c (converted_holds (P m) a.int_type t a.tree b.0), b.1))
computed g P lasts k h x (work.Apply op at t w) p (a ∷ hs) m l (inr b) =
    computed g P lasts k h x w p (held (unary_tree op (site_at k at) t (conversion a.int_type t a.tree)) (result_type op t) ∷ hs) m l.0 (inr b)
computed g P lasts k h x (work.Operate op at t w) p [] m l b = absurd l
computed g P lasts k h x (work.Operate op at t w) p (c ∷ []) m l b = absurd l
computed g P lasts k h x (work.Operate op at t w) p (c ∷ a ∷ hs) m l (inl b) =
    computed g P lasts k h x w p (held (operated_tree op (site_at k at) t a.int_type c.int_type a.tree c.tree) (result_type op t) ∷ hs) m l.0
    (inl (operated_right (P m) op (site_at k at) t a.int_type c.int_type a.tree c.tree b.0, b.1.1))
computed g P lasts k h x (work.Operate op at t w) p (c ∷ a ∷ hs) m l (inr (inl b)) =
    computed g P lasts k h x w p (held (operated_tree op (site_at k at) t a.int_type c.int_type a.tree c.tree) (result_type op t) ∷ hs) m l.0
    (inl (operated_left (P m) op (site_at k at) t a.int_type c.int_type a.tree c.tree b.0, b.1))
computed g P lasts k h x (work.Operate op at t w) p (c ∷ a ∷ hs) m l (inr (inr b)) =
    computed g P lasts k h x w p (held (operated_tree op (site_at k at) t a.int_type c.int_type a.tree c.tree) (result_type op t) ∷ hs) m l.0 (inr b)
computed g P lasts k h x (work.Convert t w) p [] m l b = absurd l
computed g P lasts k h x (work.Convert t w) p (a ∷ hs) m l (inl b) =
    computed g P lasts k h x w p (held (conversion a.int_type t a.tree) t ∷ hs) m l (inl (converted_holds (P m) a.int_type t a.tree b.0, b.1))
computed g P lasts k h x (work.Convert t w) p (a ∷ hs) m l (inr b) = computed g P lasts k h x w p (held (conversion a.int_type t a.tree) t ∷ hs) m l (inr b)
computed g P lasts k h x (work.Settle t w) p [] m l b = absurd l
computed g P lasts k h x (work.Settle t w) p (a ∷ hs) m l (inl b) =
    now l.0 (Set (temporary l.1) (conversion a.int_type t a.tree)) l.2.there (converted_holds (P m) a.int_type t a.tree b.0)
computed g P lasts k h x (work.Settle t w) p (a ∷ hs) m l (inr b) = absurd (plain_among P m hs l.2.plain b)
computed g P lasts k h x (work.Truth z w) p hs m l b = absurd (plain_among P m hs l.2.plain b)
computed g P lasts k h x (work.Drop w) p [] m l b = absurd l
computed g P lasts k h x (work.Drop w) p (a ∷ hs) m (inl l) (inl b) = absurd (holds_plain (P m) a.tree l.0 b.0)
computed g P lasts k h x (work.Drop w) p (a ∷ hs) m (inl l) (inr b) = computed g P lasts k h x w p hs m l.1 b
computed g P lasts k h x (work.Drop w) p (a ∷ hs) m (inr l) (inl b) = now l.0 (Set (temporary l.1) a.tree) l.2.there b.0
computed g P lasts k h x (work.Drop w) p (a ∷ hs) m (inr l) (inr b) = absurd (plain_among P m hs l.2.plain b)
computed g P lasts k h x (work.Assign t y w) p [] m l b = absurd l
computed g P lasts k h x (work.Assign t y w) p (a ∷ hs) m l (inl b) = now l.0 (Set (own y) (conversion a.int_type t a.tree)) l.2.there (converted_holds (P m) a.int_type t a.tree b.0)
computed g P lasts k h x (work.Assign t y w) p (a ∷ hs) m l (inr b) = absurd (plain_among P m hs l.2.plain b)
computed g P lasts k h x (work.Put t y w) p [] m l b = absurd l
computed g P lasts k h x (work.Put t y w) p (a ∷ hs) m l (inl b) = now l.0 (Set (own y) (conversion a.int_type t a.tree)) l.2.there (converted_holds (P m) a.int_type t a.tree b.0)
computed g P lasts k h x (work.Put t y w) p (a ∷ hs) m l (inr b) = absurd (plain_among P m hs l.2.plain b)
computed g P lasts k h x (work.Update op at o t y w) p [] m l b = absurd l
computed g P lasts k h x (work.Update op at o t y w) p (a ∷ hs) m l (inl b) =
    let e = operated_tree op (site_at k at) o t a.int_type (variable (own y)) a.tree in
    now l.0 (Set (own y) (conversion (result_type op o) t e)) l.2.there
    (converted_holds (P m) (result_type op o) t e (operated_right (P m) op (site_at k at) o t a.int_type (variable (own y)) a.tree b.0))
computed g P lasts k h x (work.Update op at o t y w) p (a ∷ hs) m l (inr b) = absurd (plain_among P m hs l.2.plain b)
computed g P lasts k h x (work.Advance op at o t y w) p hs m l b = absurd (plain_among P m hs l.2.plain b)
computed g P lasts k h x (work.Fetch t y w) p hs m l b = computed g P lasts k h x w p (held (variable (own y)) t ∷ hs) m l.1 (inr b)
computed g P lasts k h x (work.Load at a w) p [] m l b = absurd l
computed g P lasts k h x (work.Load at a w) p (i ∷ hs) m l (inl b) = now l.0 (Load (temporary l.1) (cells a) (site_at k at) true i.tree) l.3.there b.0
computed g P lasts k h x (work.Load at a w) p (i ∷ hs) m l (inr b) = absurd (plain_among P m hs l.3.plain b)
computed g P lasts k h x (work.Reload at a w) p [] m l b = absurd l
computed g P lasts k h x (work.Reload at a w) p (c ∷ []) m l b = absurd l
computed g P lasts k h x (work.Reload at a w) p (c ∷ i ∷ hs) m l b = absurd (plain_among P m (c ∷ i ∷ hs) l.3.plain b)
computed g P lasts k h x (work.Store at a w) p [] m l b = absurd l
computed g P lasts k h x (work.Store at a w) p (c ∷ []) m l b = absurd l
computed g P lasts k h x (work.Store at a w) p (c ∷ i ∷ hs) m l (inl b) =
    now l.0 (Store (cells a) (site_at k at) true i.tree (conversion c.int_type a.int_type c.tree)) l.2.there (inr (converted_holds (P m) c.int_type a.int_type c.tree b.0))
computed g P lasts k h x (work.Store at a w) p (c ∷ i ∷ hs) m l (inr (inl b)) =
    now l.0 (Store (cells a) (site_at k at) true i.tree (conversion c.int_type a.int_type c.tree)) l.2.there (inl b.0)
computed g P lasts k h x (work.Store at a w) p (c ∷ i ∷ hs) m l (inr (inr b)) = absurd (plain_among P m hs l.2.plain b)
computed g P lasts k h x (work.StoreKept at a w) p [] m l b = absurd l
computed g P lasts k h x (work.StoreKept at a w) p (c ∷ []) m l b = absurd l
computed g P lasts k h x (work.StoreKept at a w) p (c ∷ i ∷ hs) m l (inl b) = absurd (holds_plain (P m) c.tree l.4.plain.0 b.0)
computed g P lasts k h x (work.StoreKept at a w) p (c ∷ i ∷ hs) m l (inr (inl b)) = now l.0 (Store (cells a) (site_at k at) l.1 i.tree c.tree) l.4.there (inl b.0)
computed g P lasts k h x (work.StoreKept at a w) p (c ∷ i ∷ hs) m l (inr (inr b)) = absurd (plain_among P m hs l.4.plain.1 b)
computed g P lasts k h x (work.Renew op at o r a w) p [] m l b = absurd l
computed g P lasts k h x (work.Renew op at o r a w) p (e ∷ []) m l b = absurd l
computed g P lasts k h x (work.Renew op at o r a w) p (e ∷ c ∷ []) m l b = absurd l
computed g P lasts k h x (work.Renew op at o r a w) p (e ∷ c ∷ i ∷ hs) m l b = absurd (plain_among P m (e ∷ c ∷ i ∷ hs) l.1 b)
computed g P lasts k h x (work.Renewed op at o t w) p [] m l b = absurd l
computed g P lasts k h x (work.Renewed op at o t w) p (e ∷ []) m l b = absurd l
computed g P lasts k h x (work.Renewed op at o t w) p (e ∷ c ∷ []) m l b = absurd l
computed g P lasts k h x (work.Renewed op at o t w) p (e ∷ c ∷ i ∷ hs) m l b = absurd (plain_among P m (e ∷ c ∷ i ∷ hs) l.2 b)
computed g P lasts k h x (work.Replace op at o r a w) p [] m l b = absurd l
computed g P lasts k h x (work.Replace op at o r a w) p (e ∷ []) m l b = absurd l
computed g P lasts k h x (work.Replace op at o r a w) p (e ∷ c ∷ []) m l b = absurd l
computed g P lasts k h x (work.Replace op at o r a w) p (e ∷ c ∷ i ∷ hs) m l b = absurd (plain_among P m (e ∷ c ∷ i ∷ hs) l.1 b)
computed g P lasts k h x (work.Fill a j es w) p hs m l b = absurd (calm_among P l.0.variables m hs l.8 b)
computed g P lasts k h x (work.Item a j w) p [] m l b = absurd l
computed g P lasts k h x (work.Item a j w) p (c ∷ hs) m l (inl b) =
    now l.0 (Store (cells a) l.1 false (constant Int (pos j)) (conversion c.int_type a.int_type c.tree)) l.4.there (inr (converted_holds (P m) c.int_type a.int_type c.tree b.0))
computed g P lasts k h x (work.Item a j w) p (c ∷ hs) m l (inr b) = absurd (plain_among P m hs l.4.plain b)
computed g P lasts k h x (work.Claim at w) p [] m l b = absurd l
computed g P lasts k h x (work.Claim at w) p (a ∷ hs) m l (inl b) = now l.1 (Check (site_at k at) (conversion a.int_type Int a.tree)) l.2 (converted_holds (P m) a.int_type Int a.tree b.0)
computed g P lasts k h x (work.Claim at w) p (a ∷ hs) m l (inr b) = absurd (plain_among P m hs l.0 b)
computed g P lasts k h x (work.Pass es w) p hs m l b = both_bools (Computed g k h (ComputedBy P) p m) (any_makes es)
    (λ is. absurd (calm_among P l.0.variables m hs (l.4 is) b))
    (λ is. computed g P lasts k h x w p (pushed es (passed (context_of g k) es l.0).trees hs) m
    (subst (λ q. Laid g k h x w q (pushed es (passed (context_of g k) es l.0).trees hs)) (ap (λ (d : Draft). d.point) (silent_passed (context_of g k) es l.0 is) ∙ l.2) l.6)
    (among_pushed P m es (passed (context_of g k) es l.0).trees hs b))
computed g P lasts k h x (work.Bind j i ts w) p hs m l b = computed_binds g P lasts k h j i ts (Laid g k h x w) (λ q js n. computed g P lasts k h x w q js n) p hs m l b
computed g P lasts k h x (work.Enter j w) p hs m l b = absurd (calm_among P _ m hs l.2 b)
computed g P lasts k h x (work.Leave c) p hs m l b = absurd (plain_among P m hs l.0 b)
computed g P lasts k h x (work.Return c) p hs m l b = absurd (plain_among P m hs l.0 b)
computed g P lasts k h x (work.Turn j l e a) p hs m q b = absurd (plain_among P m hs q.1 b)
computed g P lasts k h x (work.Back j l e a) p hs m q b = absurd (plain_among P m hs q.0 b)
computed g P lasts k h x (work.Choose t zs i c s j a) p [] m l b = absurd l
computed g P lasts k h x (work.Choose t zs i c s j a) p (v ∷ hs) m l b = absurd (calm_among P l.0.variables m (v ∷ hs) l.10 b)
