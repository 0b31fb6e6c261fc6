-- The graph follows the program where parameters are set and a body is entered.
use Rattle.std.proofs.Common.{◌≡◌, ℕ, zero, suc, ◌+◌, List, [], ◌∷◌, length, Bool, refl, sym, ap, ◌∙◌, subst, ℤ}
use Rattle.std.specs.Prelude.{Ok}
use Rattle.pk_ctypes.specs.declared.types.IntType.{IntType}
use Rattle.pk_ctypes.specs.Types.{InType, wrapped}
use Rattle.pk_ctypes.proofs.Wrapped.{wrapped_in}
use Rattle.pk_graph.specs.Trees.{Set}
use Rattle.pk_graph.specs.Steps.{Numbers, tree_value}
use Rattle.pk_draft.specs.Folding.{conversion}
use Rattle.pk_lower_statement.specs.declared.statements.Exits.{Exits}
use Rattle.pk_meaning.specs.Objects.{local, Objects, with_numbers, is_in_scope}
use Rattle.pk_meaning.specs.Work as work
use Rattle.pk_meaning.specs.Work.{Place, Work}
use Rattle.pk_meaning.specs.Steps as meaning
use Rattle.pk_meaning.specs.Steps.{Next, step_of, body_place, body_work}
use Rattle.pk_visits.proofs.Slots.{own, Memory, memory, with_memory}
use Rattle.pk_visits.proofs.Stands.{Whole, BodiesStand, Held, Means, FitsObjects, picked, Laid}
use Rattle.pk_visits.proofs.Steps.Values.{conversion_value}
use Rattle.pk_visits.proofs.Stores.{means_apart}
use Rattle.pk_visits.proofs.Follow.{Answers, config, still, moved, set_does, scalar_written}
use Rattle.pk_visits.proofs.Operands.{calm_more}
use Rattle.pk_visits.proofs.Doom.{calm_plain}

-- the value under n others is that of the tree under n others
record Found (m : Memory) (n : ℕ) (vs : Numbers) (F : Held → List Held → Type 0) : Type 0 where
  pub tree : Held
  pub trees : List Held
  pub value : ℤ
  pub values : Numbers
  pub goes_on : F tree trees
  pub gives : tree_value memory tree.tree m ≡ Ok value
  pub inside : InType tree.int_type value
  pub means : Means m trees values
  pub below : (f : ℤ → Numbers → Next) → meaning.on_below n vs f ≡ f value values

find : (m : Memory) (n : ℕ) (hs : List Held) (vs : Numbers) (F : Held → List Held → Type 0) → picked n hs F → Means m hs vs → Found m n vs F
find m n [] vs F l e = absurd l
find m zero (a ∷ hs) [] F l e = absurd e
find m zero (a ∷ hs) (v ∷ vs) F l e = record { tree = a; trees = hs; value = v; values = vs; goes_on = l; gives = e.0; inside = e.1; means = e.2; below = λ f. refl }
find m (suc n) (b ∷ hs) [] F l e = absurd e
find m (suc n) (b ∷ hs) (u ∷ us) F l e =
    let r = find m n hs us (λ a rest. F a (b ∷ rest)) l e.2 in
    record { tree = r.tree; trees = b ∷ r.trees; value = r.value; values = u ∷ r.values; goes_on = r.goes_on; gives = r.gives; inside = r.inside; means = (e.0, e.1, r.means, e.3); below = λ f. r.below (λ w rest. f w (u ∷ rest)) }

pub bind : (g : Whole) (chosen : Numbers) (p : ℕ) (m : Memory) (k : ℕ) (h : Place) (j i : ℕ) (ts : List IntType) (w : Work) (vs : Numbers) (s : Objects) (b : Bool) (x : Exits) (hs : List Held)
    → Laid g k h x (work.Bind j i ts w) p hs → Means m hs vs → m.objects ≡ s → FitsObjects g.program s
    → Answers g chosen k h p m (step_of g.program chosen (config k h (work.Bind j i ts w) vs s b) (work.Bind j i ts w))
bind g chosen p m k h j i [] w vs s b x hs l e same f = still g chosen p m k h w vs s x hs l e same f
bind g chosen p m k h j i (t ∷ ts) w vs s b x hs l e same f =
    let c = config k h (work.Bind j i (t ∷ ts) w) vs s b in
    let r = find m (length ts) hs vs _ l e in
    let y = local j i in
    let z = wrapped t r.value in
    let n = conversion r.tree.int_type t r.tree.tree in
    let q = r.goes_on in
    subst (Answers g chosen k h p m) (sym (r.below (λ v us. meaning.writes c y (wrapped t v ∷ []) (work.Bind j (i + 1) ts w) us)))
    (moved g chosen p q.0 m (with_memory (own y) (z ∷ []) m) (Set (own y) n) k h (work.Bind j (i + 1) ts w) r.values (with_numbers y (z ∷ []) s) (is_in_scope y h.scope) x r.trees
    q.2.there (set_does chosen (own y) n z m (conversion_value r.tree.int_type t r.tree.tree r.value m r.inside r.gives)) (refl, q.2.shown) q.3
    (means_apart (own y) (z ∷ []) m r.trees r.values q.2.apart r.means) (ap (with_numbers y (z ∷ [])) same) (scalar_written g.program y t z s q.1 (wrapped_in t r.value) f))

pub enter : (g : Whole) (bodies : BodiesStand g) (chosen : Numbers) (p : ℕ) (m : Memory) (k : ℕ) (h : Place) (j : ℕ) (w : Work) (vs : Numbers) (s : Objects) (b : Bool) (x : Exits) (hs : List Held)
    → Laid g k h x (work.Enter j w) p hs → Means m hs vs → m.objects ≡ s → FitsObjects g.program s
    → Answers g chosen k h p m (step_of g.program chosen (config k h (work.Enter j w) vs s b) (work.Enter j w))
enter g bodies chosen p m k h j w vs s b x hs l e same f =
    let q = bodies j l.0 in
    let le = q.variables in
    let calm = calm_more _ q.draft.variables hs le l.2 in
    let end = q.ended hs calm in
    still g chosen p m j (body_place g.program j) (body_work g.program j (work.Path k h w)) vs s q.exits hs (
      calm_plain q.draft.variables hs calm,
      (
        q.draft,
        q.objects,
        q.mark,
        q.enters ∙ l.1,
        q.fits,
        calm,
        q.stage,
        q.marking,
        q.settled,
        (
          end,
          record { draft = q.draft; objects = q.objects; mark = q.mark; fits = q.fits; calm = calm; stage = q.stage; marking = q.marking; settled = q.settled; ended = end },
          (x, subst (λ o. Laid g k h x w o hs) (sym q.leaves) l.3),
          q.bare,
        ),
      ),
    ) e same f
