-- The graph follows the program at tests, assertions, and the ends of branches, switches and functions.
use Rattle.std.proofs.Common.{subst, ◌≡◌, ℕ, List, ◌∷◌, Bool, true, false, if◌then◌else◌, refl, ap, ◌∙◌, ℤ}
use Rattle.std.specs.Prelude.{Ok}
use Rattle.pk_ctypes.specs.declared.places.Pos.{Pos}
use Rattle.pk_ctypes.specs.declared.types.IntType.TheVariants.{Int}
use Rattle.pk_ctypes.specs.declared.faults.Fault.TheVariants as faults
use Rattle.pk_ctypes.specs.Types.{wrapped}
use Rattle.pk_graph.specs.Trees.{Skip, Guard, Check}
use Rattle.pk_graph.specs.Steps as steps
use Rattle.pk_graph.specs.Steps.{Numbers, tree_value, effect, with_value, is_true}
use Rattle.pk_draft.specs.Folding.{conversion}
use Rattle.pk_lower_statement.specs.declared.statements.Exits.{Exits}
use Rattle.pk_meaning.specs.Objects.{Objects}
use Rattle.pk_meaning.specs.Work as work
use Rattle.pk_meaning.specs.Work.{Place, Work, Way, Onward, Refused, Lost, Ahead, Caller}
use Rattle.pk_meaning.specs.Steps as meaning
use Rattle.pk_meaning.specs.Steps.{step_of, body_place}
use Rattle.pk_visits.proofs.Slots.{Memory, memory, SlotTree, Among, edge}
use Rattle.pk_visits.proofs.Stands.{Whole, Held, Means, FitsObjects, site_at, LaidWay, Laid}
use Rattle.pk_visits.proofs.Steps.Values.{conversion_value}
use Rattle.pk_visits.proofs.Follow.{now, Answers, config, still, moved}

-- a guard that passes
pub passes : (chosen : Numbers) (e : SlotTree) (v : ℤ) (sense : Bool) (m : Memory) → tree_value memory e m ≡ Ok v → is_true v ≡ sense → effect memory chosen (Guard e sense) m ≡ steps.To m
passes chosen e v true m k t = ap (λ r. with_value r (λ w. steps.passed (is_true w) true m)) k ∙ ap (λ b. steps.passed b true m) t
passes chosen e v false m k t = ap (λ r. with_value r (λ w. steps.passed (is_true w) false m)) k ∙ ap (λ b. steps.passed b false m) t

-- over a guard along a way
pub along : (g : Whole) (chosen : Numbers) (p q : ℕ) (m : Memory) (k : ℕ) (h : Place) (w : Work) (vs rest : Numbers) (s : Objects) (b : Bool) (e : SlotTree) (v : ℤ) (sense : Bool) (y : Way) (hs : List Held)
    → Among (edge p (Guard e sense) q) g.edges → tree_value memory e m ≡ Ok v → is_true v ≡ sense → LaidWay g k y q hs → Means m hs rest → m.objects ≡ s → FitsObjects g.program s
    → Answers g chosen k h p m (meaning.takes (config k h w vs s b) y rest)
along g chosen p q m k h w vs rest s b e v sense (Onward j z) hs a k1 t l n same f =
    moved g chosen p q m m (Guard e sense) k j z rest s true l.1.0 hs a (passes chosen e v sense m k1 t) (refl, l.0) l.1.1 n same f
along g chosen p q m k h w vs rest s b e v sense Refused hs a k1 t l n same f = (Guard e sense, subst (λ j. Among (edge p (Guard e sense) j) g.edges) l a, passes chosen e v sense m k1 t)
along g chosen p q m k h w vs rest s b e v sense Lost hs a k1 t l n same f = absurd l

pub branch : (g : Whole) (chosen : Numbers) (p : ℕ) (m : Memory) (k : ℕ) (h : Place) (y n : Way) (v : ℤ) (vs : Numbers) (s : Objects) (b : Bool) (x : Exits) (a : Held) (hs : List Held)
    → Laid g k h x (work.Branch y n) p (a ∷ hs) → Means m (a ∷ hs) (v ∷ vs) → m.objects ≡ s → FitsObjects g.program s
    → Answers g chosen k h p m (step_of g.program chosen (config k h (work.Branch y n) (v ∷ vs) s b) (work.Branch y n))
branch g chosen p m k h y n v vs s b x a hs l e same f = by (is_true v) refl where
  by : (c : Bool) → is_true v ≡ c → Answers g chosen k h p m (if c then meaning.takes (config k h (work.Branch y n) (v ∷ vs) s b) y vs else meaning.takes (config k h (work.Branch y n) (v ∷ vs) s b) n vs)
  by true t = along g chosen p l.1 m k h (work.Branch y n) (v ∷ vs) vs s b a.tree v true y hs l.3 e.0 t l.5 e.2 same f
  by false t = along g chosen p l.2 m k h (work.Branch y n) (v ∷ vs) vs s b a.tree v false n hs l.4 e.0 t l.6 e.2 same f

pub claim : (g : Whole) (chosen : Numbers) (p : ℕ) (m : Memory) (k : ℕ) (h : Place) (at : Pos) (w : Work) (v : ℤ) (vs : Numbers) (s : Objects) (b : Bool) (x : Exits) (a : Held) (hs : List Held)
    → Laid g k h x (work.Claim at w) p (a ∷ hs) → Means m (a ∷ hs) (v ∷ vs) → m.objects ≡ s → FitsObjects g.program s
    → Answers g chosen k h p m (step_of g.program chosen (config k h (work.Claim at w) (v ∷ vs) s b) (work.Claim at w))
claim g chosen p m k h at w v vs s b x a hs l e same f = by (is_true (wrapped Int v)) refl where
  tree : SlotTree
  tree = conversion a.int_type Int a.tree

  does : effect memory chosen (Check (site_at k at) tree) m ≡ (if is_true (wrapped Int v) then steps.To m else steps.Faulted (steps.failure faults.Assert (site_at k at)))
  does = ap (λ r. with_value r (λ z. if is_true z then steps.To m else steps.Faulted (steps.failure faults.Assert (site_at k at)))) (conversion_value a.int_type Int a.tree v m e.1 e.0)

  by : (c : Bool) → is_true (wrapped Int v) ≡ c
      → Answers g chosen k h p m (if c then meaning.comes (config k h (work.Claim at w) (v ∷ vs) s b) h w vs else meaning.fails (config k h (work.Claim at w) (v ∷ vs) s b) faults.Assert at)
  by true t = moved g chosen p l.1 m m (Check (site_at k at) tree) k h w vs s true x hs l.2
      (does ∙ ap (λ c. if c then steps.To m else steps.Faulted (steps.failure faults.Assert (site_at k at))) t) (refl, l.3) l.4 e.2 same f
  by false t = now l.1 (Check (site_at k at) tree) l.2 (does ∙ ap (λ c. if c then steps.To m else steps.Faulted (steps.failure faults.Assert (site_at k at))) t) tt

-- ---- ends

pub join : (g : Whole) (chosen : Numbers) (p : ℕ) (m : Memory) (k : ℕ) (h j : Place) (a : Ahead) (vs : Numbers) (s : Objects) (b : Bool) (x : Exits) (hs : List Held)
    → Laid g k h x (work.Go (work.Join j a)) p hs → Means m hs vs → m.objects ≡ s → FitsObjects g.program s
    → Answers g chosen k h p m (step_of g.program chosen (config k h (work.Go (work.Join j a)) vs s b) (work.Go (work.Join j a)))
join g chosen p m k h j a vs s b x hs l e same f = moved g chosen p l.1.0 m m Skip k j (work.Go a) vs s true x hs l.1.1 refl (refl, l.1.2) (l.0, l.1.3) e same f

pub close : (g : Whole) (chosen : Numbers) (p : ℕ) (m : Memory) (k : ℕ) (h j : Place) (a : Ahead) (vs : Numbers) (s : Objects) (b : Bool) (x : Exits) (hs : List Held)
    → Laid g k h x (work.Go (work.Close j a)) p hs → Means m hs vs → m.objects ≡ s → FitsObjects g.program s
    → Answers g chosen k h p m (step_of g.program chosen (config k h (work.Go (work.Close j a)) vs s b) (work.Go (work.Close j a)))
close g chosen p m k h j a vs s b x hs l e same f = moved g chosen p x.broken m m Skip k j (work.Go a) vs s true l.1.0 hs l.1.1 refl (refl, l.1.2) (l.0, l.1.4) e same f

pub leave : (g : Whole) (chosen : Numbers) (p : ℕ) (m : Memory) (k : ℕ) (h : Place) (c : Caller) (vs : Numbers) (s : Objects) (b : Bool) (x : Exits) (hs : List Held)
    → Laid g k h x (work.Leave c) p hs → Means m hs vs → m.objects ≡ s → FitsObjects g.program s
    → Answers g chosen k h p m (step_of g.program chosen (config k h (work.Leave c) vs s b) (work.Leave c))
leave g chosen p m k h c vs s b x hs l e same f =
    moved g chosen p x.left m m Skip k (body_place g.program k) (work.Return c) vs s true x hs l.1 refl (refl, l.2) (l.0, l.3) e same f

pub return : (g : Whole) (chosen : Numbers) (p : ℕ) (m : Memory) (k : ℕ) (h : Place) (c : Caller) (vs : Numbers) (s : Objects) (b : Bool) (x : Exits) (hs : List Held)
    → Laid g k h x (work.Return c) p hs → Means m hs vs → m.objects ≡ s → FitsObjects g.program s
    → Answers g chosen k h p m (step_of g.program chosen (config k h (work.Return c) vs s b) (work.Return c))
return g chosen p m k h work.Nobody vs s b x hs l e same f = l.1.1
return g chosen p m k h (work.Path j i w) vs s b x hs l e same f = still g chosen p m j i w vs s l.1.0 hs l.1.1 e same f
