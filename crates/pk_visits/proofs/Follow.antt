-- The graph follows the program at the kinds of work that make one edge at most and open no tree.
use Rattle.std.proofs.Common.{◌≡◌, ℕ, ◌<◌, ◌⊎◌, List, [], ◌∷◌, length, Bool, true, false, ◌&&◌, refl, sym, ap, ◌∙◌, subst, inl, inr, arith, ℤ, Option, Some, None}
use Rattle.std.specs.Prelude.{Ok}
use Rattle.pk_ctypes.specs.declared.places.Pos.{Pos}
use Rattle.pk_ctypes.specs.declared.types.IntType.{IntType}
use Rattle.pk_ctypes.specs.declared.types.IntType.TheVariants.{Int}
use Rattle.pk_ctypes.specs.Types.{InType, is_in_type, wrapped}
use Rattle.pk_ctypes.proofs.Wrapped.{wrapped_in}
use Rattle.pk_ctypes.proofs.Values.{in_type_test}
use Rattle.pk_typed.specs.Trees.{ValueTree}
use Rattle.pk_graph.specs.Trees.{constant, variable, Skip, Set, Havoc, Clear, Load, Store, Guard, Check}
use Rattle.pk_graph.specs.Steps as steps
use Rattle.pk_graph.specs.Steps.{Numbers, number_at, tree_value, effect, with_value, all_in_type, is_index, are_any}
use Rattle.pk_draft.specs.Drafts.{nowhere}
use Rattle.pk_draft.specs.Folding.{conversion}
use Rattle.pk_lower_statement.specs.declared.statements.Exits.{Exits}
use Rattle.pk_meaning.specs.Objects.{Array, Object, file, local, result, Objects, numbers_of, with_numbers, is_in_scope}
use Rattle.pk_meaning.specs.Programs.{Program}
use Rattle.pk_meaning.specs.Work as work
use Rattle.pk_meaning.specs.Work.{Place, Work}
use Rattle.pk_meaning.specs.Steps.{Config, Next, To, Faulted, Assumed, Returned, Wants, Stuck, step_of}
use Rattle.pk_visits.proofs.Slots.{Slot, own, temporary, Instr, edge, Memory, memory, with_memory, SlotTree, Among, region_at}
use Rattle.pk_visits.proofs.Stands.{Whole, ShowsAt, Held, held, in_temporary, Means, HasKind, FitsObjects, Laid, StandsAt}
use Rattle.pk_visits.proofs.Stores.{Fitting, fits_written, means_apart, temporary_value, own_value}
use Rattle.pk_visits.proofs.Steps.Values.{conversion_value}
use Rattle.pk_graph.specs.Kinds.{Kind, scalar_kind}

-- the slot that an instruction writes
abbrev pub written : Instr → Option Slot
written Skip = None
written (Set x e) = Some x
written (Havoc x t n) = Some x
written (Clear a) = Some a.variable
written (Load x a s b i) = Some x
written (Store a s b i e) = Some a.variable
written (Guard e b) = None
written (Check s e) = None

-- what is seen of a step over an edge to a point: that is what is seen of the program's step
abbrev pub Seen : Whole → Config → Option Slot → (q : ℕ) → Type 0
Seen g d None q = (d.is_visit ≡ true) × ShowsAt g q d.path d.here
Seen g d (Some (own x)) q = (d.is_visit ≡ is_in_scope x d.here.scope) × ShowsAt g q d.path d.here
Seen g d (Some (temporary n)) q = d.is_visit ≡ false

-- over one edge
pub record Moves (g : Whole) (chosen : Numbers) (p : ℕ) (m : Memory) (d : Config) : Type 0 where
  pub to : ℕ
  pub after : Memory
  pub instr : Instr
  pub there : Among (edge p instr to) g.edges
  pub does : effect memory chosen instr m ≡ steps.To after
  pub seen : Seen g d (written instr) to
  pub stands : StandsAt g d to after

-- Where the program goes on the graph stays, which is no visit, or goes over one edge.
abbrev pub Follows : Whole → Numbers → (p : ℕ) → Memory → Config → Type 0
Follows g chosen p m d = ((d.is_visit ≡ false) × StandsAt g d p m) ⊎ Moves g chosen p m d

-- The graph faults from a point on, behind edges that set objects which aren't in scope: the parameters of a call, where a later argument faults.
-- an index without a test of its own, if it has a value, lies below the array's length
abbrev pub IsInside : Instr → Memory → Type 0
IsInside Skip m = Unit {0}
IsInside (Set x e) m = Unit {0}
IsInside (Havoc x t n) m = Unit {0}
IsInside (Clear a) m = Unit {0}
IsInside (Load x a s b i) m = b ≡ false → (z : ℤ) → tree_value memory i m ≡ Ok z → is_index a.length z ≡ true
IsInside (Store a s b i e) m = b ≡ false → (z : ℤ) → tree_value memory i m ≡ Ok z → is_index a.length z ≡ true
IsInside (Guard e b) m = Unit {0}
IsInside (Check s e) m = Unit {0}

pub data Doomed (g : Whole) (chosen : Numbers) (k : ℕ) (h : Place) (f : steps.Failure) : ℕ → Memory → Type 0 where
  now : {p : ℕ} {m : Memory} (q : ℕ) (i : Instr) → Among (edge p i q) g.edges → effect memory chosen i m ≡ steps.Faulted f → IsInside i m → Doomed g chosen k h f p m
  later : {p : ℕ} {m : Memory} (q : ℕ) (x : Object) (e : SlotTree) (v : ℤ) → Among (edge p (Set (own x) e) q) g.edges → tree_value memory e m ≡ Ok v → is_in_scope x h.scope ≡ false → ShowsAt g q k h
      → Doomed g chosen k h f q (with_memory (own x) (v ∷ []) m) → Doomed g chosen k h f p m

-- It goes nowhere.
abbrev pub Refuses : Whole → Numbers → (p : ℕ) → Memory → Type 0
Refuses g chosen p m = (i : Instr) × Among (edge p i nowhere) g.edges × (effect memory chosen i m ≡ steps.To m)

-- It waits for numbers too.
abbrev pub Awaits : Whole → Numbers → (p : ℕ) → IntType → ℕ → Type 0
Awaits g chosen p t n = (q : ℕ) × (x : Slot) × Among (edge p (Havoc x t n) q) g.edges × (are_any t n chosen ≡ false)

-- what a run came to with this work is noted
pub record IsNoted (g : Whole) (k : ℕ) (w : Work) : Type 0 where
  pub begins : (e : ValueTree) (v : Work) → w ≡ work.Evaluate e v → g.begun k e v
  pub reads : (at : Pos) (a : Array) (v : Work) → w ≡ work.Reload at a v → g.read k at

-- What the graph does where the program makes this step, from a configuration of path k at place h.
abbrev pub Answers : Whole → Numbers → ℕ → Place → (p : ℕ) → Memory → Next → Type 0
Answers g chosen k h p m (To d) = Follows g chosen p m d
Answers g chosen k h p m (Faulted f at) = Doomed g chosen k h (steps.failure f at) p m
Answers g chosen k h p m Assumed = Refuses g chosen p m
Answers g chosen k h p m (Returned v) = p ≡ (region_at g.regions 0).points
Answers g chosen k h p m (Wants t n) = Awaits g chosen p t n
Answers g chosen k h p m Stuck = ⊥

abbrev pub config : ℕ → Place → Work → Numbers → Objects → Bool → Config
config k h w vs s b = record { path = k; here = h; work = w; values = vs; objects = s; is_visit = b }

pub still : (g : Whole) (chosen : Numbers) (p : ℕ) (m : Memory) (k : ℕ) (h : Place) (w : Work) (vs : Numbers) (s : Objects) (x : Exits) (hs : List Held)
    → Laid g k h x w p hs → Means m hs vs → m.objects ≡ s → FitsObjects g.program s → Follows g chosen p m (config k h w vs s false)
still g chosen p m k h w vs s x hs l e same f = inl (refl, record { exits = x; waiting = hs; laid = l; means = e; same = same; fits = f })

pub moved : (g : Whole) (chosen : Numbers) (p q : ℕ) (m n : Memory) (i : Instr) (k : ℕ) (h : Place) (w : Work) (vs : Numbers) (s : Objects) (b : Bool) (x : Exits) (hs : List Held)
    → Among (edge p i q) g.edges → effect memory chosen i m ≡ steps.To n → Seen g (config k h w vs s b) (written i) q
    → Laid g k h x w q hs → Means n hs vs → n.objects ≡ s → FitsObjects g.program s → Follows g chosen p m (config k h w vs s b)
moved g chosen p q m n i k h w vs s b x hs a d v l e same f =
    inr (record { to = q; after = n; instr = i; there = a; does = d; seen = v; stands = record { exits = x; waiting = hs; laid = l; means = e; same = same; fits = f } })

-- a slot that is set to a tree's value
pub set_does : (chosen : Numbers) (y : Slot) (e : SlotTree) (v : ℤ) (m : Memory) → tree_value memory e m ≡ Ok v → effect memory chosen (Set y e) m ≡ steps.To (with_memory y (v ∷ []) m)
set_does chosen y e v m k = ap (λ r. with_value r (λ w. steps.To (with_memory y (w ∷ []) m))) k

-- ---- scalars

true_both : (a b : Bool) → a ≡ true → b ≡ true → (a && b) ≡ true
true_both true b h k = k
true_both false b h k = absurd (grind (arith, h))

-- a scalar's number lies in its type
pub number_in_type : (t : IntType) (zs : Numbers) → length zs ≡ 1 → all_in_type t zs ≡ true → is_in_type t (number_at zs 0) ≡ true
number_in_type t [] l a = absurd (omega (arith, l))
number_in_type t (z ∷ zs) l a = first_is (is_in_type t z) (all_in_type t zs) a where
  first_is : (a b : Bool) → (a && b) ≡ true → a ≡ true
  first_is true b h = refl
  first_is false b h = h

pub is_there : (p : Program) (x : Object) (t : IntType) (s : Objects) → HasKind p x (scalar_kind t) → FitsObjects p s → 0 < length (numbers_of x s)
is_there p x t s h f = let e = (f x (scalar_kind t) h).0 in omega (arith, e)

-- the kind of an object is one
pub kind_is : (p : Program) (x : Object) (m n : Kind) → HasKind p x m → HasKind p x n → m ≡ n
kind_is p (file i) m n h k = some (sym h ∙ k) where
  some : Some m ≡ Some n → m ≡ n
  some e = ap (λ o. or_else m o) e where
    or_else : Kind → Option Kind → Kind
    or_else a None = a
    or_else a (Some b) = b
kind_is p (local j i) m n h k = some (sym h.1 ∙ k.1) where
  some : Some m ≡ Some n → m ≡ n
  some e = ap (λ o. or_else m o) e where
    or_else : Kind → Option Kind → Kind
    or_else a None = a
    or_else a (Some b) = b
kind_is p (result j) m n h k = h.3 ∙ ap scalar_kind (some (sym h.2 ∙ k.2)) ∙ sym k.3 where
  some : Some h.1 ≡ Some k.1 → h.1 ≡ k.1
  some e = ap (λ o. or_else h.1 o) e where
    or_else : IntType → Option IntType → IntType
    or_else a None = a
    or_else a (Some b) = b

pub scalar_written : (p : Program) (x : Object) (t : IntType) (v : ℤ) (s : Objects) → HasKind p x (scalar_kind t) → InType t v → FitsObjects p s → FitsObjects p (with_numbers x (v ∷ []) s)
scalar_written p x t v s h i f = fits_written p x (v ∷ []) s
    (λ n k. subst (λ (z : Kind). Fitting z (v ∷ [])) (kind_is p x (scalar_kind t) n h k) (refl, true_both (is_in_type t v) true (in_type_test t v i) refl)) f

-- ---- work with values

pub convert : (g : Whole) (chosen : Numbers) (p : ℕ) (m : Memory) (k : ℕ) (h : Place) (t : IntType) (w : Work) (v : ℤ) (vs : Numbers) (s : Objects) (b : Bool) (x : Exits) (a : Held) (hs : List Held)
    → Laid g k h x (work.Convert t w) p (a ∷ hs) → Means m (a ∷ hs) (v ∷ vs) → m.objects ≡ s → FitsObjects g.program s
    → Answers g chosen k h p m (step_of g.program chosen (config k h (work.Convert t w) (v ∷ vs) s b) (work.Convert t w))
convert g chosen p m k h t w v vs s b x a hs l e same f =
    still g chosen p m k h w (wrapped t v ∷ vs) s x (held (conversion a.int_type t a.tree) t ∷ hs) l (conversion_value a.int_type t a.tree v m e.1 e.0, wrapped_in t v, e.2, tt) same f

pub settle : (g : Whole) (chosen : Numbers) (p : ℕ) (m : Memory) (k : ℕ) (h : Place) (t : IntType) (w : Work) (v : ℤ) (vs : Numbers) (s : Objects) (b : Bool) (x : Exits) (a : Held) (hs : List Held)
    → Laid g k h x (work.Settle t w) p (a ∷ hs) → Means m (a ∷ hs) (v ∷ vs) → m.objects ≡ s → FitsObjects g.program s
    → Answers g chosen k h p m (step_of g.program chosen (config k h (work.Settle t w) (v ∷ vs) s b) (work.Settle t w))
settle g chosen p m k h t w v vs s b x a hs l e same f =
    let y = wrapped t v in
    let i = conversion a.int_type t a.tree in
    moved g chosen p l.0 m (with_memory (temporary l.1) (y ∷ []) m) (Set (temporary l.1) i) k h w (y ∷ vs) s false x (in_temporary l.1 t ∷ hs)
    l.2.there (set_does chosen (temporary l.1) i y m (conversion_value a.int_type t a.tree v m e.1 e.0)) refl l.3
    (temporary_value l.1 y m, wrapped_in t v, means_apart (temporary l.1) (y ∷ []) m hs vs l.2.apart e.2, tt) same f

pub keep : (g : Whole) (chosen : Numbers) (p : ℕ) (m : Memory) (k : ℕ) (h : Place) (w : Work) (v : ℤ) (vs : Numbers) (s : Objects) (b : Bool) (x : Exits) (a : Held) (hs : List Held)
    → Laid g k h x (work.Keep w) p (a ∷ hs) → Means m (a ∷ hs) (v ∷ vs) → m.objects ≡ s → FitsObjects g.program s
    → Answers g chosen k h p m (step_of g.program chosen (config k h (work.Keep w) (v ∷ vs) s b) (work.Keep w))
keep g chosen p m k h w v vs s b x a hs (inl l) e same f = still g chosen p m k h w (v ∷ vs) s x (a ∷ hs) l e same f
keep g chosen p m k h w v vs s b x a hs (inr l) e same f =
    moved g chosen p l.0 m (with_memory (temporary l.1) (v ∷ []) m) (Set (temporary l.1) a.tree) k h w (v ∷ vs) s false x (in_temporary l.1 a.int_type ∷ hs)
    l.2.there (set_does chosen (temporary l.1) a.tree v m e.0) refl l.3
    (temporary_value l.1 v m, e.1, means_apart (temporary l.1) (v ∷ []) m hs vs l.2.apart e.2, tt) same f

pub drop : (g : Whole) (chosen : Numbers) (p : ℕ) (m : Memory) (k : ℕ) (h : Place) (w : Work) (v : ℤ) (vs : Numbers) (s : Objects) (b : Bool) (x : Exits) (a : Held) (hs : List Held)
    → Laid g k h x (work.Drop w) p (a ∷ hs) → Means m (a ∷ hs) (v ∷ vs) → m.objects ≡ s → FitsObjects g.program s
    → Answers g chosen k h p m (step_of g.program chosen (config k h (work.Drop w) (v ∷ vs) s b) (work.Drop w))
drop g chosen p m k h w v vs s b x a hs (inl l) e same f = still g chosen p m k h w vs s x hs l.1 e.2 same f
drop g chosen p m k h w v vs s b x a hs (inr l) e same f =
    moved g chosen p l.0 m (with_memory (temporary l.1) (v ∷ []) m) (Set (temporary l.1) a.tree) k h w vs s false x hs
    l.2.there (set_does chosen (temporary l.1) a.tree v m e.0) refl l.3 (means_apart (temporary l.1) (v ∷ []) m hs vs l.2.apart e.2) same f

pub truth : (g : Whole) (chosen : Numbers) (p : ℕ) (m : Memory) (k : ℕ) (h : Place) (z : ℤ) (w : Work) (vs : Numbers) (s : Objects) (b : Bool) (x : Exits) (hs : List Held)
    → Laid g k h x (work.Truth z w) p hs → Means m hs vs → m.objects ≡ s → FitsObjects g.program s
    → Answers g chosen k h p m (step_of g.program chosen (config k h (work.Truth z w) vs s b) (work.Truth z w))
truth g chosen p m k h z w vs s b x hs l e same f =
    moved g chosen p l.0 m (with_memory (temporary l.1) (z ∷ []) m) (Set (temporary l.1) (constant Int z)) k h w (z ∷ vs) s false x (in_temporary l.1 Int ∷ hs)
    l.2.there refl refl l.4 (temporary_value l.1 z m, l.3, means_apart (temporary l.1) (z ∷ []) m hs vs l.2.apart e, tt) same f

pub put : (g : Whole) (chosen : Numbers) (p : ℕ) (m : Memory) (k : ℕ) (h : Place) (t : IntType) (y : Object) (w : Work) (v : ℤ) (vs : Numbers) (s : Objects) (b : Bool) (x : Exits) (a : Held) (hs : List Held)
    → Laid g k h x (work.Put t y w) p (a ∷ hs) → Means m (a ∷ hs) (v ∷ vs) → m.objects ≡ s → FitsObjects g.program s
    → Answers g chosen k h p m (step_of g.program chosen (config k h (work.Put t y w) (v ∷ vs) s b) (work.Put t y w))
put g chosen p m k h t y w v vs s b x a hs l e same f =
    let z = wrapped t v in
    let i = conversion a.int_type t a.tree in
    moved g chosen p l.0 m (with_memory (own y) (z ∷ []) m) (Set (own y) i) k h w vs (with_numbers y (z ∷ []) s) (is_in_scope y h.scope) x hs
    l.2.there (set_does chosen (own y) i z m (conversion_value a.int_type t a.tree v m e.1 e.0)) (refl, l.2.shown) l.3
    (means_apart (own y) (z ∷ []) m hs vs l.2.apart e.2) (ap (with_numbers y (z ∷ [])) same) (scalar_written g.program y t z s l.1 (wrapped_in t v) f)

pub assign : (g : Whole) (chosen : Numbers) (p : ℕ) (m : Memory) (k : ℕ) (h : Place) (t : IntType) (y : Object) (w : Work) (v : ℤ) (vs : Numbers) (s : Objects) (b : Bool) (x : Exits) (a : Held) (hs : List Held)
    → Laid g k h x (work.Assign t y w) p (a ∷ hs) → Means m (a ∷ hs) (v ∷ vs) → m.objects ≡ s → FitsObjects g.program s
    → Answers g chosen k h p m (step_of g.program chosen (config k h (work.Assign t y w) (v ∷ vs) s b) (work.Assign t y w))
assign g chosen p m k h t y w v vs s b x a hs l e same f =
    let z = wrapped t v in
    let i = conversion a.int_type t a.tree in
    moved g chosen p l.0 m (with_memory (own y) (z ∷ []) m) (Set (own y) i) k h w (z ∷ vs) (with_numbers y (z ∷ []) s) (is_in_scope y h.scope) x (held (variable (own y)) t ∷ hs)
    l.2.there (set_does chosen (own y) i z m (conversion_value a.int_type t a.tree v m e.1 e.0)) (refl, l.2.shown) l.3
    (own_value y z m (subst (λ o. 0 < length (numbers_of y o)) (sym same) (is_there g.program y t s l.1 f)), wrapped_in t v, means_apart (own y) (z ∷ []) m hs vs l.2.apart e.2, tt)
    (ap (with_numbers y (z ∷ [])) same) (scalar_written g.program y t z s l.1 (wrapped_in t v) f)
