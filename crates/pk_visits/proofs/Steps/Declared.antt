-- The graph follows the program at declarations.
use Rattle.std.proofs.Common.{◌≡◌, ℕ, zero, suc, ◌+◌, ◌≤◌, List, [], ◌∷◌, Bool, refl, sym, ap, ◌∙◌, subst, arith, Option, Some, None}
use Rattle.std.specs.Prelude.{slice_index_or}
use Rattle.pk_ctypes.specs.declared.places.Pos.{Pos}
use Rattle.pk_ctypes.specs.declared.types.IntType.{IntType}
use Rattle.pk_typed.specs.Trees.{ValueTree, EffectTree, StatementTree, DeclaredTree, LocalTree, ItemTrees}
use Rattle.pk_typed.specs.Trees as tree
use Rattle.pk_graph.specs.Kinds.{count_of, Kind, scalar_kind, array_kind}
use Rattle.pk_graph.specs.Steps.{Numbers}
use Rattle.pk_draft.specs.Drafts.{on, fresh}
use Rattle.pk_lower_row.specs.Contexts.{Context, local_at}
use Rattle.pk_lower_statement.specs.declared.statements.Exits.{Exits}
use Rattle.pk_lower_statement.specs.Statements.{named, introduced, declared, all_declared, lowered_items}
use Rattle.pk_welltyped.specs.Listed.{objects_in_declared, calls_in_declared, calls_if, calls_in_values_if, calls_in_all_declared, calls_in_items}
use Rattle.pk_welltyped.specs.WellTyped.{kind_among, Marks, IsDeclared, IsStatement, AreItems}
use Rattle.pk_meaning.specs.Objects.{file, Objects, Scope}
use Rattle.pk_meaning.specs.Programs.{with_local, with_declared, with_all_declared, block_of}
use Rattle.pk_meaning.specs.Work as work
use Rattle.pk_meaning.specs.Work.{Place, Work, Ahead}
use Rattle.pk_meaning.specs.Steps as meaning
use Rattle.pk_meaning.specs.Steps.{place, step_of}
use Rattle.pk_visits.proofs.Slots.{Draft, Memory, Uncalled}
use Rattle.pk_visits.proofs.Settled.Trees.{Settles, SettleAll, AreAllSettled}
use Rattle.pk_visits.proofs.Stands.{Whole, Proper, context_of, final, Held, around, AreCalm, Means, FitsObjects, Stage, Marking, local_array, place_after, LaidAhead, Laid, IsCalled}
use Rattle.pk_visits.proofs.Follow.{Answers, config, still}
use Rattle.pk_visits.proofs.Settled.Shown.{ShowsName, shown_behind, shows_name}
use Rattle.pk_visits.proofs.Steps.Starts.{for_begun}
use Rattle.pk_visits.proofs.Stages.{all_called, part_first, part_second, stage_at, forth_none, forth_first}
use Rattle.pk_visits.proofs.Doom.{calm_plain}
use Rattle.pk_visits.proofs.Grows.Statements.{OnPath, introduced_enlarges, declared_enlarges, all_declared_enlarges, block, Free, declared_free, all_free}
use Rattle.pk_visits.proofs.Steps.ElementTrees.{local_length}
use Rattle.pk_visits.proofs.Operands.{calm_more}
use Rattle.pk_visits.proofs.Steps.Firsts.{scalar_follows, array_follows}
use Rattle.pk_typed.specs.Defaults.{no_local}

local_type : (xs : List LocalTree) (i : ℕ) (n : Kind) → kind_among xs i ≡ Some n → (slice_index_or xs i no_local).int_type ≡ n.int_type
local_type [] i n h = absurd (grind (arith, h))
local_type (x ∷ xs) zero n h = same (record { int_type = x.int_type; length = x.length }) h where
  same : (m : Kind) → Some m ≡ Some n → m.int_type ≡ n.int_type
  same m e = ap (λ (o : Option Kind). type_or m o) e where
    type_or : Kind → Option Kind → IntType
    type_or a None = a.int_type
    type_or a (Some b) = b.int_type
local_type (x ∷ xs) (suc i) n h = local_type xs i n h

named_point : (o : Option (List ℕ)) (v : ℕ) (d : Draft) → (named o v d).point ≡ d.point
named_point None v d = refl
named_point (Some name) v d = refl

introduced_point : (c : Context) (i : ℕ) (d : Draft) → (introduced c i d).point ≡ d.point
introduced_point c i d = named_point (local_at c i).name d.variables _

pub declared_follows : (y : Place) (g : Whole) (chosen : Numbers) (m : Memory) (k : ℕ) (h : Place) (x : Exits) (v : DeclaredTree) (o : ℕ) (d : Draft) (vs : Numbers) (s : Objects) (b : Bool) (u w : Work) (hs : List Held)
    → IsDeclared (around g k o) v → AreCalm d.variables hs → Stage g k (place d.here.at h.scope) (calls_in_declared v) d (declared (context_of g k) v d) → ShowsName g k h v d
    → Laid g k (place_after g.program k (v ∷ []) h) x w (declared (context_of g k) v d).point hs → Means m hs vs → m.objects ≡ s → FitsObjects g.program s
    → Answers g chosen k y d.point m (meaning.declares g.program chosen (config k h u vs s b) v w)
declared_follows y g chosen m k h x (tree.scalar_object i q e) o d vs s b u w hs fits calm st shown l means same f =
    let c = context_of g k in
    let e0 = introduced c i (on q d) in
    let grow = introduced_enlarges st.marks Free Uncalled c i (on q d) tt in
    let j = place q (with_local g.program k i h.scope) in
    let gp = forth_none g grow in
    let gv = grow.variables in
    let t = fits.1.0 in
    let is = fits.1.1 in
    let types = local_type (block_of g.program k).locals i (scalar_kind t) is in
    subst (λ p. Answers g chosen k y p m (meaning.declares g.program chosen (config k h u vs s b) (tree.scalar_object i q e) w)) (introduced_point c i (on q d))
    (scalar_follows y g chosen m k j x i e (o + 1) e0 vs s b u w hs (scalar_kind t) (st.path, is) types (local_length (block_of g.program k).locals i (scalar_kind t) is) (ap (λ z. scalar_kind z) (sym types)) fits.2
    (calm_more d.variables e0.variables hs gv calm) (stage_at g k _ j (calls_if e) d e0 _ st gp shown) l means same f)
declared_follows y g chosen m k h x (tree.array_object i q es) o d vs s b u w hs fits calm st shown l means same f =
    let c = context_of g k in
    let e0 = introduced c i (on q d) in
    let grow = introduced_enlarges st.marks Free Uncalled c i (on q d) tt in
    let j = place q (with_local g.program k i h.scope) in
    let gp = forth_none g grow in
    let gv = grow.variables in
    let room = fits.1 in
    let t = room.0 in
    let n = room.1 in
    let is = room.2 in
    let types = local_type (block_of g.program k).locals i (array_kind t n) is in
    let lengths = local_length (block_of g.program k).locals i (array_kind t n) is in
    let many : (local_array g k i).length ≡ n = ap count_of lengths in
    subst (λ p. Answers g chosen k y p m (meaning.declares g.program chosen (config k h u vs s b) (tree.array_object i q es) w)) (introduced_point c i (on q d))
    (array_follows y g chosen m k j x i es (o + 1) e0 vs s b u w hs (array_kind t n) (st.path, is) types lengths (ap (λ z. array_kind z n) (sym types) ∙ ap (λ z. array_kind (local_array g k i).int_type z) (sym many)) fits.2 (subst (λ z. _ ≤ z) (sym many) room.3)
    (calm_more d.variables e0.variables hs gv calm) (stage_at g k _ j (calls_in_values_if es) d e0 _ st gp shown) l means same f)
declared_follows y g chosen m k h x (tree.static_object i q) o d vs s b u w hs fits calm st shown l means same f = still g chosen d.point m k (place q (file i ∷ h.scope)) w vs s x hs l means same f
declared_follows y g chosen m k h x (tree.hiding_constant z q) o d vs s b u w hs fits calm st shown l means same f = still g chosen d.point m k (place q h.scope) w vs s x hs l means same f

-- what is known of a declaration in a block: its stage, its name behind it, and the rest
pub rest_declared : (g : Whole) (proper : Proper g) (k : ℕ) (h : Place) (x : Exits) (xs : Scope) (v : DeclaredTree) (is : ItemTrees) (a : Ahead) (hs : List Held) (d : Draft) (n : ℕ) (m : Marks)
    → AreItems (around g k n) m (tree.declared_before v is) → AreCalm d.variables hs
    → (t : Stage g k (place d.here.at xs) (calls_in_items (tree.declared_before v is)) d (lowered_items (context_of g k) (tree.declared_before v is) x d)) → Marking x m t.marks
    → SettleAll (final g k) (context_of g k) (tree.declared_before v is) x d → LaidAhead g k x a (lowered_items (context_of g k) (tree.declared_before v is) x d).point hs
    → Stage g k (place d.here.at xs) (calls_in_declared v) d (declared (context_of g k) v d) × ShowsName g k (place h.at xs) v d
    × Laid g k h x (work.Go (work.Rest (with_declared g.program k v xs) is a)) (declared (context_of g k) v d).point hs
unfolding lowered_items AreItems calls_in_items SettleAll
rest_declared g proper k h x xs v is a hs d n m fits calm t marking settled l =
    let c = context_of g k in
    let e = declared c v d in
    let rest = block (IsCalled c (calls_in_items is)) c _ m is x t.marks Free (λ i o. tt) fits.1 marking (all_called c (calls_in_items is)) e in
    let first = declared_enlarges t.marks Free (IsCalled c (calls_in_declared v)) c v d (declared_free v) (all_called c (calls_in_declared v)) in
    let le = forth_first g k (place d.here.at xs) (calls_in_declared v) (calls_in_items is) d (lowered_items c is x e) t first in
    let lv = first.variables in
    let calm_e = calm_more d.variables e.variables hs lv calm in
    let ys = with_declared g.program k v xs in
    let st = part_first g OnPath k (place d.here.at xs) (calls_in_declared v) (calls_in_items is) d e (lowered_items c is x e) t rest in
    let shown = shows_name g proper k (place h.at xs) v n d fits.0 st.here st.path settled.0 st.leads.scopes in (
      st,
      shown,
      (
        calm_plain e.variables hs calm_e,
        (
          e,
          n + objects_in_declared v,
          m,
          refl,
          fits.1,
          calm_e,
          part_second g k _ (place e.here.at ys) (calls_in_declared v) (calls_in_items is) d e (lowered_items c is x e) t le (shown_behind g proper k (place h.at xs) v d shown),
          marking,
          settled.1,
          l,
        ),
      ),
    )

-- the next declaration of a block, behind which is the rest
pub next_declared : (g : Whole) (proper : Proper g) (chosen : Numbers) (p : ℕ) (m : Memory) (k : ℕ) (h : Place) (vs : Numbers) (s : Objects) (b : Bool) (x : Exits) (hs : List Held) (xs : Scope) (v : DeclaredTree) (is : ItemTrees) (a : Ahead)
    → Laid g k h x (work.Go (work.Rest xs (tree.declared_before v is) a)) p hs → Means m hs vs → m.objects ≡ s → FitsObjects g.program s
    → Answers g chosen k h p m (step_of g.program chosen (config k h (work.Go (work.Rest xs (tree.declared_before v is) a)) vs s b) (work.Go (work.Rest xs (tree.declared_before v is) a)))
unfolding AreItems
next_declared g proper chosen p m k h vs s b x hs xs v is a (plain, (d, n, mark, at', fits, calm, t, marking, settled, l)) means same f =
    let u = work.Go (work.Rest xs (tree.declared_before v is) a) in
    let z = rest_declared g proper k h x xs v is a hs d n mark fits calm t marking settled l in
    subst (λ q. Answers g chosen k h q m (step_of g.program chosen (config k h u vs s b) u)) at'
    (declared_follows h g chosen m k (place h.at xs) x v n d vs s b u (work.Go (work.Rest (with_declared g.program k v xs) is a)) hs fits.0 calm z.0 z.1 z.2 means same f)

-- ---- declarations at the start of a `for`

place_then : (g : Whole) (k : ℕ) (v : DeclaredTree) (ds : List DeclaredTree) (h : Place) → place_after g.program k (v ∷ ds) h ≡ place_after g.program k ds (place_after g.program k (v ∷ []) h)
place_then g k (tree.scalar_object i q e) ds h = refl
place_then g k (tree.array_object i q es) ds h = refl
place_then g k (tree.static_object i q) ds h = refl
place_then g k (tree.hiding_constant x q) ds h = refl

scope_then : (g : Whole) (k : ℕ) (v : DeclaredTree) (h : Place) → with_declared g.program k v h.scope ≡ (place_after g.program k (v ∷ []) h).scope
scope_then g k (tree.scalar_object i q e) h = refl
scope_then g k (tree.array_object i q es) h = refl
scope_then g k (tree.static_object i q) h = refl
scope_then g k (tree.hiding_constant x q) h = refl

pub none_declared : (g : Whole) (k : ℕ) (h : Place) (x : Exits) (w : Work) (p : ℕ) (hs : List Held) → Laid g k h x (work.Declare [] w) p hs → Laid g k h x w p hs
unfolding all_declared
none_declared g k h x w p hs (d, n, at', fits, calm, t, settled, l) = subst (λ q. Laid g k h x w q hs) at' l

pub all_declared_next : (g : Whole) (proper : Proper g) (chosen : Numbers) (p : ℕ) (m : Memory) (k : ℕ) (h : Place) (vs : Numbers) (s : Objects) (b : Bool) (x : Exits) (hs : List Held) (v : DeclaredTree) (ds : List DeclaredTree) (w : Work)
    → Laid g k h x (work.Declare (v ∷ ds) w) p hs → Means m hs vs → m.objects ≡ s → FitsObjects g.program s
    → Answers g chosen k h p m (step_of g.program chosen (config k h (work.Declare (v ∷ ds) w) vs s b) (work.Declare (v ∷ ds) w))
unfolding all_declared AreAllSettled
all_declared_next g proper chosen p m k h vs s b x hs v ds w (d, n, at', fits, calm, t, settled, l) means same f =
    let c = context_of g k in
    let e = declared c v d in
    let end = all_declared c ds e in
    let j = place_after g.program k (v ∷ []) h in
    let rest = all_declared_enlarges t.marks Free (IsCalled c (calls_in_all_declared ds)) c ds e (all_free ds) (all_called c (calls_in_all_declared ds)) in
    let first = declared_enlarges t.marks Free (IsCalled c (calls_in_declared v)) c v d (declared_free v) (all_called c (calls_in_declared v)) in
    let le = forth_first g k (place d.here.at h.scope) (calls_in_declared v) (calls_in_all_declared ds) d end t first in
    let lv = first.variables in
    let st = part_first g OnPath k (place d.here.at h.scope) (calls_in_declared v) (calls_in_all_declared ds) d e end t rest in
    let shown = shows_name g proper k h v n d fits.0 st.here st.path settled.0 st.leads.scopes in
    let here = subst (λ ys. g.shows e.here k (place e.here.at ys)) (scope_then g k v h) (shown_behind g proper k h v d shown) in
    subst (λ q. Answers g chosen k h q m (step_of g.program chosen (config k h (work.Declare (v ∷ ds) w) vs s b) (work.Declare (v ∷ ds) w))) at'
    (declared_follows h g chosen m k h x v n d vs s b (work.Declare (v ∷ ds) w) (work.Declare ds w) hs fits.0 calm
    st shown (
      e,
      n + objects_in_declared v,
      refl,
      fits.1,
      calm_more d.variables e.variables hs lv calm,
      part_second g k _ (place e.here.at j.scope) (calls_in_declared v) (calls_in_all_declared ds) d e end t le here,
      settled.1,
      subst (λ i. Laid g k i x w end.point hs) (place_then g k v ds h) l,
    ) means same f)

-- a `for` that declares
pub for_declared : (g : Whole) (proper : Proper g) (chosen : Numbers) (p : ℕ) (m : Memory) (k : ℕ) (h : Place) (vs : Numbers) (s : Objects) (b : Bool) (x : Exits) (hs : List Held) (q : Pos) (ds : List DeclaredTree) (v : Option ValueTree) (third : Option EffectTree) (r : StatementTree) (a : Ahead)
    → Laid g k h x (work.Do (tree.for_loop q (tree.declarations ds) v third r) a) p hs → Means m hs vs → m.objects ≡ s → FitsObjects g.program s
    → Answers g chosen k h p m (step_of g.program chosen (config k h (work.Do (tree.for_loop q (tree.declarations ds) v third r) a) vs s b) (work.Do (tree.for_loop q (tree.declarations ds) v third r) a))
unfolding IsStatement Settles
for_declared g proper chosen p m k h vs s b x hs q ds v third r a (d, n, mark, at', fits, calm, t, marking, settled, l) means same f =
    let w = work.Do (tree.for_loop q (tree.declarations ds) v third r) a in
    let names = with_all_declared g.program k ds h.scope in
    let parts = for_begun g proper k h x q (tree.declarations ds) v third r a hs d n mark fits calm t marking settled l in
    subst (λ i. Answers g chosen k h i m (step_of g.program chosen (config k h w vs s b) w)) at'
    (still g chosen d.point m k (place q h.scope) (work.Declare ds (work.Back (place q names) (work.For v third r) (place q h.scope) a)) vs s x hs
    (fresh 1 (on q d), n, refl, fits.0, calm, parts.0, settled.0, parts.1) means same f)
