-- Where a tree that waits faults, the graph faults from this point on: the program faults where it evaluates an operand, the graph where it uses the tree.
use Rattle.std.proofs.Common.{◌≡◌, ℕ, zero, suc, ◌+◌, ◌⊎◌, List, [], ◌∷◌, length, Bool, true, false, if◌then◌else◌, refl, ap, ◌∙◌, subst, inl, inr, arith, ◌<◌, ℤ}
use Rattle.std.specs.Prelude.{pos, Result, Ok, Err, slice_set}
use Rattle.std.proofs.lemmas.Int.{ints}
use Rattle.pk_ctypes.specs.declared.types.IntType.{IntType}
use Rattle.pk_ctypes.specs.declared.types.IntType.TheVariants.{Int}
use Rattle.pk_ctypes.specs.Operators.{result_type}
use Rattle.pk_typed.specs.Trees.{ValueTree, ValueTrees, no_values, value_before}
use Rattle.pk_typed.specs.Types.{type_of}
use Rattle.pk_ctypes.specs.declared.faults.Fault.TheVariants as faults
use Rattle.pk_graph.specs.declared.trees.Site.{Site}
use Rattle.pk_graph.specs.Trees.{constant, variable, converted, unary, binary, ArrayOf, Set, Load, Store, Guard, Check}
use Rattle.pk_graph.specs.Steps as steps
use Rattle.pk_graph.specs.Steps.{Numbers, Failure, tree_value, effect, with_value, and_then, indexed, is_index}
use Rattle.pk_draft.specs.Folding.{conversion, unary_tree, operated_tree}
use Rattle.pk_lower_row.specs.Shapes.{makes, makes_effect, any_makes}
use Rattle.pk_lower_row.specs.Contexts.{Context}
use Rattle.pk_lower_row.specs.Rows.{Passed, passed_before}
use Rattle.pk_lower_expression.specs.Expressions.{ways, passed}
use Rattle.pk_lower_statement.specs.declared.statements.Exits.{Exits}
use Rattle.pk_meaning.specs.Objects.{local}
use Rattle.pk_meaning.specs.Work as work
use Rattle.pk_meaning.specs.Work.{Place, Work}
use Rattle.pk_visits.proofs.Slots.{Slot, own, temporary, Draft, SlotTree, Memory, memory, memory_numbers, with_memory}
use Rattle.pk_visits.proofs.Stands.{Whole, context_of, Held, held, AreApart, IsCalm, AreCalm, IsPlain, ArePlain, ArePlainUnder, picked, pushed, Binds, Passes, site_at, cells, Laid}
use Rattle.pk_visits.proofs.Steps.Values.{conversion_ok, conversion_fault, unary_fault, operated_left, operated_right}
use Rattle.pk_visits.proofs.Stores.{apart_value}
use Rattle.pk_visits.proofs.Steps.Silent.{silent, silent_effect, left_false, right_false}
use Rattle.pk_visits.proofs.Grows.Expressions.{lowered}
use Rattle.pk_visits.proofs.Follow.{Doomed, now, later}

-- each tree gives a number
abbrev pub Sound : Memory → List Held → Type 0
Sound m [] = Unit {0}
Sound m (h ∷ hs) = ((v : ℤ) × (tree_value memory h.tree m ≡ Ok v)) × Sound m hs

-- some tree has this fault, and each that was evaluated before it gives a number
abbrev pub Faulty : Memory → Failure → List Held → Type 0
Faulty m f [] = ⊥
Faulty m f (h ∷ hs) = ((tree_value memory h.tree m ≡ Err f) × Sound m hs) ⊎ Faulty m f hs

plain_tree : (m : Memory) (f : Failure) (e : SlotTree) → IsPlain e → tree_value memory e m ≡ Err f → ⊥
plain_tree m f (constant t z) h k = grind (arith, k)
plain_tree m f (variable x) h k = grind (arith, k)
plain_tree m f (converted t e) h k = h
plain_tree m f (unary op s t e) h k = h
plain_tree m f (binary op s t a b) h k = h

pub plain_sound : (m : Memory) (f : Failure) (hs : List Held) → ArePlain hs → Faulty m f hs → ⊥
plain_sound m f [] h k = k
plain_sound m f (a ∷ hs) h (inl k) = plain_tree m f a.tree h.0 k.0
plain_sound m f (a ∷ hs) h (inr k) = plain_sound m f hs h.1 k

calm_tree : (n : ℕ) (e : SlotTree) → IsCalm n e → IsPlain e
calm_tree n (constant t z) h = tt
calm_tree n (variable x) h = tt
calm_tree n (converted t e) h = h
calm_tree n (unary op s t e) h = h
calm_tree n (binary op s t a b) h = h

pub calm_plain : (n : ℕ) (hs : List Held) → AreCalm n hs → ArePlain hs
calm_plain n [] h = tt
calm_plain n (a ∷ hs) h = (calm_tree n a.tree h.0, calm_plain n hs h.1)

pub calm_sound : (n : ℕ) (m : Memory) (f : Failure) (hs : List Held) → AreCalm n hs → Faulty m f hs → ⊥
calm_sound n m f hs h k = plain_sound m f hs (calm_plain n hs h) k

-- ---- arguments

faulty_pushed : (m : Memory) (f : Failure) (es : ValueTrees) (ts : List SlotTree) (hs : List Held) → Faulty m f hs → Faulty m f (pushed es ts hs)
faulty_pushed m f no_values ts hs k = k
faulty_pushed m f (value_before e es) [] hs k = k
faulty_pushed m f (value_before e es) (a ∷ ts) hs k = faulty_pushed m f es ts (held a (type_of e) ∷ hs) (inr k)

kept_silent : (b : Bool) (c : Context) (e : ValueTree) (rest : Draft → Passed Slot) (d : Draft) → b ≡ false → ((ways c e).value d).1 ≡ d → ((d : Draft) → (rest d).draft ≡ d)
    → (passed_before b (lowered c e) rest d).draft ≡ d
kept_silent true c e rest d k same f = absurd (grind (arith, k))
kept_silent false c e rest d k same f = f ((ways c e).value d).1 ∙ same

pub silent_passed : (c : Context) (es : ValueTrees) (d : Draft) → any_makes es ≡ false → (passed c es d).draft ≡ d
unfolding passed
silent_passed c no_values d h = refl
silent_passed c (value_before e es) d h =
    kept_silent (any_makes es) c e (passed c es) d (right_false (makes e) (any_makes es) h) (silent c e d (left_false (makes e) (any_makes es) h))
    (λ d. silent_passed c es d (right_false (makes e) (any_makes es) h))

-- ---- faults of edges

pub set_fails : (chosen : Numbers) (y : Slot) (e : SlotTree) (f : Failure) (m : Memory) → tree_value memory e m ≡ Err f → effect memory chosen (Set y e) m ≡ steps.Faulted f
set_fails chosen y e f m k = ap (λ r. with_value r (λ w. steps.To (with_memory y (w ∷ []) m))) k

-- memories and trees that are apart
pub sound_apart : (x : Slot) (v : ℤ) (m : Memory) (hs : List Held) → AreApart x hs → Sound m hs → Sound (with_memory x (v ∷ []) m) hs
sound_apart x v m [] a k = tt
sound_apart x v m (h ∷ hs) a k = ((k.0.0, apart_value x (v ∷ []) m h.tree a.0 ∙ k.0.1), sound_apart x v m hs a.1 k.1)

faulty_apart : (x : Slot) (v : ℤ) (m : Memory) (f : Failure) (hs : List Held) → AreApart x hs → Faulty m f hs → Faulty (with_memory x (v ∷ []) m) f hs
faulty_apart x v m f [] a k = k
faulty_apart x v m f (h ∷ hs) a (inl k) = inl (apart_value x (v ∷ []) m h.tree a.0 ∙ k.0, sound_apart x v m hs a.1 k.1)
faulty_apart x v m f (h ∷ hs) a (inr k) = inr (faulty_apart x v m f hs a.1 k)

-- a fault under n trees
abbrev FaultyUnder : ℕ → Memory → Failure → List Held → Type 0
FaultyUnder zero m f hs = Faulty m f hs
FaultyUnder (suc n) m f [] = ⊥
FaultyUnder (suc n) m f (h ∷ hs) = FaultyUnder n m f hs

plain_under : (n : ℕ) (m : Memory) (f : Failure) (hs : List Held) → ArePlainUnder n hs → FaultyUnder n m f hs → ⊥
plain_under zero m f hs h k = plain_sound m f hs h k
plain_under (suc n) m f [] h k = k
plain_under (suc n) m f (a ∷ hs) h k = plain_under n m f hs h k

-- the tree under n others faults; or it gives a number and one of the others has the fault; or one under it
data Case (m : Memory) (f : Failure) (n : ℕ) (a : Held) (rest : List Held) : Type 0 where
  itself : tree_value memory a.tree m ≡ Err f → Case m f n a rest
  above : (v : ℤ) → tree_value memory a.tree m ≡ Ok v → Faulty m f rest → Case m f n a rest
  under : FaultyUnder n m f rest → Case m f n a rest

pub pick_sound : (n : ℕ) (m : Memory) (hs : List Held) (F : Held → List Held → Type 0) → picked n hs F → Sound m hs
    → (a : Held) × (rest : List Held) × F a rest × ((v : ℤ) × (tree_value memory a.tree m ≡ Ok v)) × Sound m rest
pick_sound n m [] F h k = absurd h
pick_sound zero m (a ∷ hs) F h k = (a, hs, h, k.0, k.1)
pick_sound (suc n) m (b ∷ hs) F h k =
    let r = pick_sound n m hs (λ a rest. F a (b ∷ rest)) h k.1 in (r.0, b ∷ r.1, r.2, r.3, (k.0, r.4))

with_one : (m : Memory) (f : Failure) (n : ℕ) (b a : Held) (rest : List Held) → Case m f n a rest → Case m f (suc n) a (b ∷ rest)
with_one m f n b a rest (itself e) = itself e
with_one m f n b a rest (above v e k) = above v e (inr k)
with_one m f n b a rest (under k) = under k

pick_faulty : (n : ℕ) (m : Memory) (f : Failure) (hs : List Held) (F : Held → List Held → Type 0) → picked n hs F → Faulty m f hs
    → (a : Held) × (rest : List Held) × F a rest × Case m f n a rest
pick_faulty n m f [] F h k = absurd h
pick_faulty zero m f (a ∷ hs) F h (inl k) = (a, hs, h, itself k.0)
pick_faulty zero m f (a ∷ hs) F h (inr k) = (a, hs, h, under k)
pick_faulty (suc n) m f (b ∷ hs) F h (inl k) =
    let r = pick_sound n m hs (λ a rest. F a (b ∷ rest)) h k.1 in (r.0, b ∷ r.1, r.2, above r.3.0 r.3.1 (inl (k.0, r.4)))
pick_faulty (suc n) m f (b ∷ hs) F h (inr k) =
    let r = pick_faulty n m f hs (λ a rest. F a (b ∷ rest)) h k in (r.0, b ∷ r.1, r.2, with_one m f n b r.0 r.1 r.3)

doomed_binds : (g : Whole) (chosen : Numbers) (k : ℕ) (h : Place) (f : Failure) (j i : ℕ) (ts : List IntType) (rest : ℕ → List Held → Type 0)
    → ((p : ℕ) (hs : List Held) (m : Memory) → rest p hs → Faulty m f hs → Doomed g chosen k h f p m)
    → (p : ℕ) (hs : List Held) (m : Memory) → Binds g k h j i ts rest p hs → Faulty m f hs → Doomed g chosen k h f p m
doomed_binds g chosen k h f j i [] rest next p hs m l bad = next p hs m l bad
doomed_binds g chosen k h f j i (t ∷ ts) rest next p hs m l bad =
    let r = pick_faulty (length ts) m f hs _ l bad in by r.0 r.1 r.2.0 r.2.2 r.2.3 r.3
    (λ q m. doomed_binds g chosen k h f j (i + 1) ts rest next q r.1 m) where
      by : (a : Held) (hs : List Held) (q : ℕ) → Passes g k h (length ts) p (local j i) (conversion a.int_type t a.tree) q hs → Binds g k h j (i + 1) ts rest q hs
          → Case m f (length ts) a hs → ((q : ℕ) (m : Memory) → Binds g k h j (i + 1) ts rest q hs → Faulty m f hs → Doomed g chosen k h f q m) → Doomed g chosen k h f p m
      by a hs q w b (itself e) more = now q (Set (own (local j i)) (conversion a.int_type t a.tree)) w.there (set_fails chosen (own (local j i)) (conversion a.int_type t a.tree) f m (conversion_fault a.int_type t a.tree f m e)) tt
      by a hs q w b (above v e k) more =
          let z = conversion_ok a.int_type t a.tree v m e in
          later q (local j i) (conversion a.int_type t a.tree) z.0 w.there z.1 w.hidden w.shown
          (more q (with_memory (own (local j i)) (z.0 ∷ []) m) b (faulty_apart (own (local j i)) z.0 m f hs w.apart k))
      by a hs q w b (under k) more = absurd (plain_under (length ts) m f hs w.plain k)

-- ---- by the work that waits

pub both_bools : (P : Type 0) (b : Bool) → (b ≡ true → P) → (b ≡ false → P) → P
both_bools P true f g = f refl
both_bools P false f g = g refl

pub load_fails : (chosen : Numbers) (x : Slot) (a : ArrayOf Slot) (s : Site) (b : Bool) (i : SlotTree) (f : Failure) (m : Memory) → tree_value memory i m ≡ Err f
    → effect memory chosen (Load x a s b i) m ≡ steps.Faulted f
load_fails chosen x a s b i f m k =
    ap (λ r. with_value (and_then r (indexed s a.length)) (λ j. steps.To (with_memory x (steps.number_at (memory_numbers a.variable m) j ∷ []) m))) k

pub store_index_fails : (chosen : Numbers) (a : ArrayOf Slot) (s : Site) (b : Bool) (i e : SlotTree) (f : Failure) (m : Memory) → tree_value memory i m ≡ Err f
    → effect memory chosen (Store a s b i e) m ≡ steps.Faulted f
store_index_fails chosen a s b i e f m k =
    ap (λ r. with_value r (λ z. with_value (tree_value memory e m) (λ v. with_value (indexed s a.length z) (λ j. steps.To (with_memory a.variable (slice_set (memory_numbers a.variable m) j v) m))))) k

pub store_value_fails : (chosen : Numbers) (a : ArrayOf Slot) (s : Site) (b : Bool) (i e : SlotTree) (z : ℤ) (f : Failure) (m : Memory) → tree_value memory i m ≡ Ok z → tree_value memory e m ≡ Err f
    → effect memory chosen (Store a s b i e) m ≡ steps.Faulted f
store_value_fails chosen a s b i e z f m k l =
    ap (λ r. with_value r (λ z. with_value (tree_value memory e m) (λ v. with_value (indexed s a.length z) (λ j. steps.To (with_memory a.variable (slice_set (memory_numbers a.variable m) j v) m))))) k
    ∙ ap (λ r. with_value r (λ v. with_value (indexed s a.length z) (λ j. steps.To (with_memory a.variable (slice_set (memory_numbers a.variable m) j v) m)))) l

-- the tree on top gives no number, where its work uses it at once
-- an item of a braced list is one of the array
item_inside : (n j : ℕ) → j < n → (z : ℤ) → (let x : Result ℤ Failure = Ok (pos j) in x) ≡ Ok z → is_index n z ≡ true
item_inside n j h z e = subst (λ x. is_index n x ≡ true) (same z e) (below n j h) where
  same : (z : ℤ) → (let x : Result ℤ Failure = Ok (pos j) in x) ≡ Ok z → pos j ≡ z
  same z e = cc e

  below : (n j : ℕ) → j < n → is_index n (pos j) ≡ true
  below n j h = grind (arith, ints, h)

pub doom : (g : Whole) (chosen : Numbers) (k : ℕ) (h : Place) (x : Exits) (f : Failure) (w : Work) (p : ℕ) (hs : List Held) (m : Memory) → Laid g k h x w p hs → Faulty m f hs → Doomed g chosen k h f p m
doom g chosen k h x f (work.Go a) p hs m l b = absurd (plain_sound m f hs l.0 b)
doom g chosen k h x f (work.Do s a) p hs m l b = absurd (calm_sound l.0.variables m f hs l.5 b)
doom g chosen k h x f (work.Declare ds w) p hs m l b = absurd (calm_sound l.0.variables m f hs l.4 b)
doom g chosen k h x f (work.Perform e w) p hs m l b = both_bools (Doomed g chosen k h f p m) (makes_effect e)
    (λ is. absurd (calm_sound l.0.variables m f hs (l.4 is) b))
    (λ is. doom g chosen k h x f w p hs m (subst (λ q. Laid g k h x w q hs) (ap (λ (d : Draft). d.point) (silent_effect (context_of g k) e l.0 is) ∙ l.2) l.6) b)
doom g chosen k h x f (work.Evaluate e w) p hs m l b = both_bools (Doomed g chosen k h f p m) (makes e)
    (λ is. absurd (calm_sound l.0.variables m f hs (l.4 is) b))
    (λ is. doom g chosen k h x f w p (held ((ways (context_of g k) e).value l.0).0 (type_of e) ∷ hs) m
    (subst (λ q. Laid g k h x w q (held ((ways (context_of g k) e).value l.0).0 (type_of e) ∷ hs)) (ap (λ (d : Draft). d.point) (silent (context_of g k) e l.0 is) ∙ l.2) l.6) (inr b))
doom g chosen k h x f (work.Test e y n) p hs m l b = absurd (calm_sound l.0.variables m f hs l.6 b)
doom g chosen k h x f (work.Keep w) p [] m l b = absurd l
doom g chosen k h x f (work.Keep w) p (a ∷ hs) m (inl l) b = doom g chosen k h x f w p (a ∷ hs) m l b
doom g chosen k h x f (work.Keep w) p (a ∷ hs) m (inr l) (inl b) = now l.0 (Set (temporary l.1) a.tree) l.2.there (set_fails chosen (temporary l.1) a.tree f m b.0) tt
doom g chosen k h x f (work.Keep w) p (a ∷ hs) m (inr l) (inr b) = absurd (plain_sound m f hs l.2.plain b)
doom g chosen k h x f (work.Branch y n) p [] m l b = absurd l
doom g chosen k h x f (work.Branch y n) p (a ∷ hs) m l (inl b) = now l.1 (Guard a.tree true) l.3 (ap (λ r. with_value r (λ v. steps.passed (steps.is_true v) true m)) b.0) tt
doom g chosen k h x f (work.Branch y n) p (a ∷ hs) m l (inr b) = absurd (plain_sound m f hs l.0 b)
doom g chosen k h x f (work.Apply op at t w) p [] m l b = absurd l
doom g chosen k h x f (work.Apply op at t w) p (a ∷ hs) m l (inl b) =
    doom g chosen k h x f w p (held (unary_tree op (site_at k at) t (conversion a.int_type t a.tree)) (result_type op t) ∷ hs) m l.0
    (inl (unary_fault op (site_at k at) t a.int_type a.tree f m b.0, b.1))
doom g chosen k h x f (work.Apply op at t w) p (a ∷ hs) m l (inr b) =
    doom g chosen k h x f w p (held (unary_tree op (site_at k at) t (conversion a.int_type t a.tree)) (result_type op t) ∷ hs) m l.0 (inr b)
doom g chosen k h x f (work.Operate op at t w) p [] m l b = absurd l
doom g chosen k h x f (work.Operate op at t w) p (c ∷ []) m l b = absurd l
doom g chosen k h x f (work.Operate op at t w) p (c ∷ a ∷ hs) m l (inl b) =
    doom g chosen k h x f w p (held (operated_tree op (site_at k at) t a.int_type c.int_type a.tree c.tree) (result_type op t) ∷ hs) m l.0
    (inl (operated_right op (site_at k at) t a.int_type c.int_type a.tree c.tree b.1.0.0 f m b.1.0.1 b.0, b.1.1))
doom g chosen k h x f (work.Operate op at t w) p (c ∷ a ∷ hs) m l (inr (inl b)) =
    doom g chosen k h x f w p (held (operated_tree op (site_at k at) t a.int_type c.int_type a.tree c.tree) (result_type op t) ∷ hs) m l.0
    (inl (operated_left op (site_at k at) t a.int_type c.int_type a.tree c.tree f m b.0, b.1))
doom g chosen k h x f (work.Operate op at t w) p (c ∷ a ∷ hs) m l (inr (inr b)) =
    doom g chosen k h x f w p (held (operated_tree op (site_at k at) t a.int_type c.int_type a.tree c.tree) (result_type op t) ∷ hs) m l.0 (inr b)
doom g chosen k h x f (work.Convert t w) p [] m l b = absurd l
doom g chosen k h x f (work.Convert t w) p (a ∷ hs) m l (inl b) =
    doom g chosen k h x f w p (held (conversion a.int_type t a.tree) t ∷ hs) m l (inl (conversion_fault a.int_type t a.tree f m b.0, b.1))
doom g chosen k h x f (work.Convert t w) p (a ∷ hs) m l (inr b) = doom g chosen k h x f w p (held (conversion a.int_type t a.tree) t ∷ hs) m l (inr b)
doom g chosen k h x f (work.Settle t w) p [] m l b = absurd l
doom g chosen k h x f (work.Settle t w) p (a ∷ hs) m l (inl b) =
    now l.0 (Set (temporary l.1) (conversion a.int_type t a.tree)) l.2.there (set_fails chosen (temporary l.1) (conversion a.int_type t a.tree) f m (conversion_fault a.int_type t a.tree f m b.0)) tt
doom g chosen k h x f (work.Settle t w) p (a ∷ hs) m l (inr b) = absurd (plain_sound m f hs l.2.plain b)
doom g chosen k h x f (work.Truth z w) p hs m l b = absurd (plain_sound m f hs l.2.plain b)
doom g chosen k h x f (work.Drop w) p [] m l b = absurd l
doom g chosen k h x f (work.Drop w) p (a ∷ hs) m (inl l) (inl b) = absurd (plain_tree m f a.tree l.0 b.0)
doom g chosen k h x f (work.Drop w) p (a ∷ hs) m (inl l) (inr b) = doom g chosen k h x f w p hs m l.1 b
doom g chosen k h x f (work.Drop w) p (a ∷ hs) m (inr l) (inl b) = now l.0 (Set (temporary l.1) a.tree) l.2.there (set_fails chosen (temporary l.1) a.tree f m b.0) tt
doom g chosen k h x f (work.Drop w) p (a ∷ hs) m (inr l) (inr b) = absurd (plain_sound m f hs l.2.plain b)
doom g chosen k h x f (work.Assign t y w) p [] m l b = absurd l
doom g chosen k h x f (work.Assign t y w) p (a ∷ hs) m l (inl b) =
    now l.0 (Set (own y) (conversion a.int_type t a.tree)) l.2.there (set_fails chosen (own y) (conversion a.int_type t a.tree) f m (conversion_fault a.int_type t a.tree f m b.0)) tt
doom g chosen k h x f (work.Assign t y w) p (a ∷ hs) m l (inr b) = absurd (plain_sound m f hs l.2.plain b)
doom g chosen k h x f (work.Put t y w) p [] m l b = absurd l
doom g chosen k h x f (work.Put t y w) p (a ∷ hs) m l (inl b) =
    now l.0 (Set (own y) (conversion a.int_type t a.tree)) l.2.there (set_fails chosen (own y) (conversion a.int_type t a.tree) f m (conversion_fault a.int_type t a.tree f m b.0)) tt
doom g chosen k h x f (work.Put t y w) p (a ∷ hs) m l (inr b) = absurd (plain_sound m f hs l.2.plain b)
doom g chosen k h x f (work.Update op at o t y w) p [] m l b = absurd l
doom g chosen k h x f (work.Update op at o t y w) p (a ∷ hs) m l (inl b) =
    let e = operated_tree op (site_at k at) o t a.int_type (variable (own y)) a.tree in
    now l.0 (Set (own y) (conversion (result_type op o) t e)) l.2.there (set_fails chosen (own y) (conversion (result_type op o) t e) f m
    (conversion_fault (result_type op o) t e f m (operated_right op (site_at k at) o t a.int_type (variable (own y)) a.tree _ f m refl b.0))) tt
doom g chosen k h x f (work.Update op at o t y w) p (a ∷ hs) m l (inr b) = absurd (plain_sound m f hs l.2.plain b)
doom g chosen k h x f (work.Advance op at o t y w) p hs m l b = absurd (plain_sound m f hs l.2.plain b)
doom g chosen k h x f (work.Fetch t y w) p hs m l b = doom g chosen k h x f w p (held (variable (own y)) t ∷ hs) m l.1 (inr b)
doom g chosen k h x f (work.Load at a w) p [] m l b = absurd l
doom g chosen k h x f (work.Load at a w) p (i ∷ hs) m l (inl b) = now l.0 (Load (temporary l.1) (cells a) (site_at k at) true i.tree) l.3.there (load_fails chosen (temporary l.1) (cells a) (site_at k at) true i.tree f m b.0) (λ q. absurd (cc q))
doom g chosen k h x f (work.Load at a w) p (i ∷ hs) m l (inr b) = absurd (plain_sound m f hs l.3.plain b)
doom g chosen k h x f (work.Reload at a w) p [] m l b = absurd l
doom g chosen k h x f (work.Reload at a w) p (c ∷ []) m l b = absurd l
doom g chosen k h x f (work.Reload at a w) p (c ∷ i ∷ hs) m l b = absurd (plain_sound m f (c ∷ i ∷ hs) l.3.plain b)
doom g chosen k h x f (work.Store at a w) p [] m l b = absurd l
doom g chosen k h x f (work.Store at a w) p (c ∷ []) m l b = absurd l
doom g chosen k h x f (work.Store at a w) p (c ∷ i ∷ hs) m l (inl b) =
    let e = conversion c.int_type a.int_type c.tree in
    now l.0 (Store (cells a) (site_at k at) true i.tree e) l.2.there (store_value_fails chosen (cells a) (site_at k at) true i.tree e b.1.0.0 f m b.1.0.1 (conversion_fault c.int_type a.int_type c.tree f m b.0)) (λ q. absurd (cc q))
doom g chosen k h x f (work.Store at a w) p (c ∷ i ∷ hs) m l (inr (inl b)) =
    let e = conversion c.int_type a.int_type c.tree in
    now l.0 (Store (cells a) (site_at k at) true i.tree e) l.2.there (store_index_fails chosen (cells a) (site_at k at) true i.tree e f m b.0) (λ q. absurd (cc q))
doom g chosen k h x f (work.Store at a w) p (c ∷ i ∷ hs) m l (inr (inr b)) = absurd (plain_sound m f hs l.2.plain b)
doom g chosen k h x f (work.StoreKept at a w) p [] m l b = absurd l
doom g chosen k h x f (work.StoreKept at a w) p (c ∷ []) m l b = absurd l
doom g chosen k h x f (work.StoreKept at a w) p (c ∷ i ∷ hs) m l (inl b) = absurd (plain_tree m f c.tree l.4.plain.0 b.0)
doom g chosen k h x f (work.StoreKept at a w) p (c ∷ i ∷ hs) m l (inr (inl b)) =
    now l.0 (Store (cells a) (site_at k at) l.1 i.tree c.tree) l.4.there (store_index_fails chosen (cells a) (site_at k at) l.1 i.tree c.tree f m b.0) (λ q z u. absurd (cc (b.0, u)))
doom g chosen k h x f (work.StoreKept at a w) p (c ∷ i ∷ hs) m l (inr (inr b)) = absurd (plain_sound m f hs l.4.plain.1 b)
doom g chosen k h x f (work.Renew op at o r a w) p [] m l b = absurd l
doom g chosen k h x f (work.Renew op at o r a w) p (e ∷ []) m l b = absurd l
doom g chosen k h x f (work.Renew op at o r a w) p (e ∷ c ∷ []) m l b = absurd l
doom g chosen k h x f (work.Renew op at o r a w) p (e ∷ c ∷ i ∷ hs) m l b = absurd (plain_sound m f (e ∷ c ∷ i ∷ hs) l.1 b)
doom g chosen k h x f (work.Renewed op at o t w) p [] m l b = absurd l
doom g chosen k h x f (work.Renewed op at o t w) p (e ∷ []) m l b = absurd l
doom g chosen k h x f (work.Renewed op at o t w) p (e ∷ c ∷ []) m l b = absurd l
doom g chosen k h x f (work.Renewed op at o t w) p (e ∷ c ∷ i ∷ hs) m l b = absurd (plain_sound m f (e ∷ c ∷ i ∷ hs) l.2 b)
doom g chosen k h x f (work.Replace op at o r a w) p [] m l b = absurd l
doom g chosen k h x f (work.Replace op at o r a w) p (e ∷ []) m l b = absurd l
doom g chosen k h x f (work.Replace op at o r a w) p (e ∷ c ∷ []) m l b = absurd l
doom g chosen k h x f (work.Replace op at o r a w) p (e ∷ c ∷ i ∷ hs) m l b = absurd (plain_sound m f (e ∷ c ∷ i ∷ hs) l.1 b)
doom g chosen k h x f (work.Fill a j es w) p hs m l b = absurd (calm_sound l.0.variables m f hs l.8 b)
doom g chosen k h x f (work.Item a j w) p [] m l b = absurd l
doom g chosen k h x f (work.Item a j w) p (c ∷ hs) m l (inl b) =
    let e = conversion c.int_type a.int_type c.tree in
    now l.0 (Store (cells a) l.1 false (constant Int (pos j)) e) l.4.there (store_value_fails chosen (cells a) l.1 false (constant Int (pos j)) e (pos j) f m refl (conversion_fault c.int_type a.int_type c.tree f m b.0)) (λ q z u. item_inside a.length j l.2 z u)
doom g chosen k h x f (work.Item a j w) p (c ∷ hs) m l (inr b) = absurd (plain_sound m f hs l.4.plain b)
doom g chosen k h x f (work.Claim at w) p [] m l b = absurd l
doom g chosen k h x f (work.Claim at w) p (a ∷ hs) m l (inl b) =
    now l.1 (Check (site_at k at) (conversion a.int_type Int a.tree)) l.2
    (ap (λ r. with_value r (λ v. if steps.is_true v then steps.To m else steps.Faulted (steps.failure faults.Assert (site_at k at)))) (conversion_fault a.int_type Int a.tree f m b.0)) tt
doom g chosen k h x f (work.Claim at w) p (a ∷ hs) m l (inr b) = absurd (plain_sound m f hs l.0 b)
doom g chosen k h x f (work.Pass es w) p hs m l b = both_bools (Doomed g chosen k h f p m) (any_makes es)
    (λ is. absurd (calm_sound l.0.variables m f hs (l.4 is) b))
    (λ is. doom g chosen k h x f w p (pushed es (passed (context_of g k) es l.0).trees hs) m
    (subst (λ q. Laid g k h x w q (pushed es (passed (context_of g k) es l.0).trees hs)) (ap (λ (d : Draft). d.point) (silent_passed (context_of g k) es l.0 is) ∙ l.2) l.6)
    (faulty_pushed m f es (passed (context_of g k) es l.0).trees hs b))
doom g chosen k h x f (work.Bind j i ts w) p hs m l b = doomed_binds g chosen k h f j i ts (Laid g k h x w) (λ q js n. doom g chosen k h x f w q js n) p hs m l b
doom g chosen k h x f (work.Enter j w) p hs m l b = absurd (calm_sound _ m f hs l.2 b)
doom g chosen k h x f (work.Leave c) p hs m l b = absurd (plain_sound m f hs l.0 b)
doom g chosen k h x f (work.Return c) p hs m l b = absurd (plain_sound m f hs l.0 b)
doom g chosen k h x f (work.Turn j l e a) p hs m q b = absurd (plain_sound m f hs q.1 b)
doom g chosen k h x f (work.Back j l e a) p hs m q b = absurd (plain_sound m f hs q.0 b)
doom g chosen k h x f (work.Choose t zs i c s j a) p [] m l b = absurd l
doom g chosen k h x f (work.Choose t zs i c s j a) p (v ∷ hs) m l b = absurd (calm_sound l.0.variables m f (v ∷ hs) l.10 b)
