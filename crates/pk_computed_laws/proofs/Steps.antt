-- What the next step computes, by the work at hand.
use Rattle.std.proofs.Common.{◌≡◌, ℕ, ◌⊎◌, List, [], ◌∷◌, ap, ◌∙◌, inl, inr, ℤ}
use Rattle.std.specs.Prelude.{Ok}
use Rattle.pk_ctypes.specs.declared.places.Pos.{Pos}
use Rattle.pk_ctypes.specs.declared.types.IntType.{IntType}
use Rattle.pk_ctypes.specs.declared.types.Op.{Op}
use Rattle.pk_ctypes.specs.Types.{wrapped}
use Rattle.pk_ctypes.specs.Operators.{value_of}
use Rattle.pk_typed.specs.Trees.{ValueTree}
use Rattle.pk_typed.specs.Trees as tree
use Rattle.pk_graph.specs.Steps.{Numbers}
use Rattle.pk_lower_statement.specs.declared.statements.Exits.{Exits}
use Rattle.pk_meaning.specs.Objects.{Object, Array}
use Rattle.pk_meaning.specs.Programs.{Program}
use Rattle.pk_meaning.specs.Work as work
use Rattle.pk_meaning.specs.Work.{Place, Work}
use Rattle.pk_meaning.specs.Steps.{Config, on, on_top, with_value, operated, step_of}
use Rattle.pk_visits.proofs.Slots.{Memory}
use Rattle.pk_visits.proofs.Stands.{Whole, Held, Means, IsFixed, IsBegunOne, IsBegunTwo, site_at, Laid}
use Rattle.pk_visits.proofs.Computed.{Computed, ComputedBy}
use Rattle.pk_visits.proofs.Computing.{IsUnary, IsBinary, IsIndex, apply_computed, operate_computed, update_computed, advance_computed, renew_computed, replace_computed, renewed_computed, load_computed, reload_computed, store_computed, store_kept_computed, claim_computed}
use Rattle.pk_computed_laws.specs.Computed.{Operation, one, two, index, assertion, Computes, apply, operate, update, advance, load, reload, store, store_kept, renew, renew_index, renewed, replace, replace_index, claim, IsOfConstants, one_constant, two_constants}
use Rattle.pk_computed_laws.proofs.Accesses.{Does}
use Rattle.pk_computed_laws.proofs.Constants.{is_constant}

-- An edge from the point on does it; or it is an operator that was begun on constants, and the step goes on; or an index of an element that was read with it.
pub data Outcome (g : Whole) (k : ℕ) (h : Place) (w : Work) (vs : Numbers) (at : Pos) (p : ℕ) (m : Memory) : Operation → Type 0 where
  does : {operation : Operation} → Computed g k h (Does (site_at k at) operation) p m → Outcome g k h w vs at p m operation
  constants : {operation : Operation} (e : ValueTree) (v : Work) (us : Numbers) → IsOfConstants w e v → IsFixed e → g.begun k e v
      → ((q : Program) (chosen : Numbers) (c : Config) → c.values ≡ vs → step_of q chosen c w ≡ on c v us) → Outcome g k h w vs at p m operation
  was_read : g.read k at → Outcome g k h w vs at p m index

apply_outcome : (g : Whole) (k : ℕ) (h : Place) (x : Exits) (op : Op) (at : Pos) (t : IntType) (w : Work) (p : ℕ) (m : Memory) (hs : List Held) (vs : Numbers)
    → Laid g k h x (work.Apply op at t w) p hs → Means m hs vs → Outcome g k h (work.Apply op at t w) vs at p m (one op t)
apply_outcome g k h x op at t w p m [] vs l e = absurd l
apply_outcome g k h x op at t w p m (a ∷ hs) [] l e = absurd e
apply_outcome g k h x op at t w p m (a ∷ hs) (v ∷ vs) l e = by (apply_computed g k h x op at t w p m a hs v vs l e) where
  by : Computed g k h (ComputedBy (IsUnary op (site_at k at) t)) p m ⊎ (IsBegunOne g k op at t w × ((z : ℤ) × (value_of op t (wrapped t v) (wrapped t v) ≡ Ok z)))
      → Outcome g k h (work.Apply op at t w) (v ∷ vs) at p m (one op t)
  by (inl c) = does c
  by (inr (b, (z, ok))) =
      constants (tree.unary op at t b.0) w (z ∷ vs) (one_constant (is_constant (tree.unary op at t b.0) b.1.0 b.1.1)) b.1 b.2
      (λ q chosen c is. ap (λ us. on_top us (λ u rest. with_value c at (value_of op t (wrapped t u) (wrapped t u)) (λ y. on c w (y ∷ rest)))) is ∙ ap (λ r. with_value c at r (λ y. on c w (y ∷ vs))) ok)

operate_outcome : (g : Whole) (k : ℕ) (h : Place) (x : Exits) (op : Op) (at : Pos) (t : IntType) (w : Work) (p : ℕ) (m : Memory) (hs : List Held) (vs : Numbers)
    → Laid g k h x (work.Operate op at t w) p hs → Means m hs vs → Outcome g k h (work.Operate op at t w) vs at p m (two op t)
operate_outcome g k h x op at t w p m [] vs l e = absurd l
operate_outcome g k h x op at t w p m (c ∷ []) vs l e = absurd l
operate_outcome g k h x op at t w p m (c ∷ a ∷ hs) [] l e = absurd e
operate_outcome g k h x op at t w p m (c ∷ a ∷ hs) (v ∷ []) l e = absurd e.2
operate_outcome g k h x op at t w p m (c ∷ a ∷ hs) (v ∷ u ∷ vs) l e = by (operate_computed g k h x op at t w p m a c hs u v vs l e) where
  by : Computed g k h (ComputedBy (IsBinary op (site_at k at) t)) p m ⊎ (IsBegunTwo g k op at t w × ((z : ℤ) × (operated op t u v ≡ Ok z)))
      → Outcome g k h (work.Operate op at t w) (v ∷ u ∷ vs) at p m (two op t)
  by (inl d) = does d
  by (inr (b, (z, ok))) =
      constants (tree.binary op at t b.0 b.1) w (z ∷ vs) (two_constants (is_constant (tree.binary op at t b.0 b.1) b.2.0 b.2.1).0 (is_constant (tree.binary op at t b.0 b.1) b.2.0 b.2.1).1) b.2 b.3
      (λ q chosen c is. ap (λ us. on_top us (λ j more. on_top more (λ i rest. with_value c at (operated op t i j) (λ y. on c w (y ∷ rest))))) is ∙ ap (λ r. with_value c at r (λ y. on c w (y ∷ vs))) ok)

update_outcome : (g : Whole) (k : ℕ) (h : Place) (x : Exits) (op : Op) (at : Pos) (o t : IntType) (y : Object) (w : Work) (p : ℕ) (m : Memory) (hs : List Held) (vs : Numbers)
    → Laid g k h x (work.Update op at o t y w) p hs → Means m hs vs → Computed g k h (ComputedBy (IsBinary op (site_at k at) o)) p m
update_outcome g k h x op at o t y w p m [] vs l e = absurd l
update_outcome g k h x op at o t y w p m (a ∷ hs) [] l e = absurd e
update_outcome g k h x op at o t y w p m (a ∷ hs) (v ∷ vs) l e = update_computed g k h x op at o t y w p m a hs v vs l e

load_outcome : (g : Whole) (k : ℕ) (h : Place) (x : Exits) (at : Pos) (a : Array) (w : Work) (p : ℕ) (m : Memory) (hs : List Held) (vs : Numbers)
    → Laid g k h x (work.Load at a w) p hs → Means m hs vs → Computed g k h (IsIndex (site_at k at)) p m
load_outcome g k h x at a w p m [] vs l e = absurd l
load_outcome g k h x at a w p m (c ∷ hs) [] l e = absurd e
load_outcome g k h x at a w p m (c ∷ hs) (i ∷ vs) l e = load_computed g k h x at a w p m c hs i vs l e

pub reload_outcome : (g : Whole) (k : ℕ) (h : Place) (x : Exits) (at : Pos) (a : Array) (w : Work) (p : ℕ) (m : Memory) (hs : List Held) (vs : Numbers)
    → Laid g k h x (work.Reload at a w) p hs → Means m hs vs → Computed g k h (IsIndex (site_at k at)) p m
reload_outcome g k h x at a w p m [] vs l e = absurd l
reload_outcome g k h x at a w p m (d ∷ []) vs l e = absurd l
reload_outcome g k h x at a w p m (d ∷ c ∷ hs) [] l e = absurd e
reload_outcome g k h x at a w p m (d ∷ c ∷ hs) (v ∷ []) l e = absurd e.2
reload_outcome g k h x at a w p m (d ∷ c ∷ hs) (v ∷ i ∷ vs) l e = reload_computed g k h x at a w p m c d hs i v vs l e

store_outcome : (g : Whole) (k : ℕ) (h : Place) (x : Exits) (at : Pos) (a : Array) (w : Work) (p : ℕ) (m : Memory) (hs : List Held) (vs : Numbers)
    → Laid g k h x (work.Store at a w) p hs → Means m hs vs → Computed g k h (IsIndex (site_at k at)) p m
store_outcome g k h x at a w p m [] vs l e = absurd l
store_outcome g k h x at a w p m (d ∷ []) vs l e = absurd l
store_outcome g k h x at a w p m (d ∷ c ∷ hs) [] l e = absurd e
store_outcome g k h x at a w p m (d ∷ c ∷ hs) (v ∷ []) l e = absurd e.2
store_outcome g k h x at a w p m (d ∷ c ∷ hs) (v ∷ i ∷ vs) l e = store_computed g k h x at a w p m c d hs i v vs l e

store_kept_outcome : (g : Whole) (k : ℕ) (h : Place) (x : Exits) (at : Pos) (a : Array) (w : Work) (p : ℕ) (m : Memory) (hs : List Held) (vs : Numbers)
    → Laid g k h x (work.StoreKept at a w) p hs → Means m hs vs → Outcome g k h (work.StoreKept at a w) vs at p m index
store_kept_outcome g k h x at a w p m [] vs l e = absurd l
store_kept_outcome g k h x at a w p m (d ∷ []) vs l e = absurd l
store_kept_outcome g k h x at a w p m (d ∷ c ∷ hs) [] l e = absurd e
store_kept_outcome g k h x at a w p m (d ∷ c ∷ hs) (v ∷ []) l e = absurd e.2
store_kept_outcome g k h x at a w p m (d ∷ c ∷ hs) (v ∷ i ∷ vs) l e = by (store_kept_computed g k h x at a w p m c d hs i v vs l e) where
  by : Computed g k h (IsIndex (site_at k at)) p m ⊎ g.read k at → Outcome g k h (work.StoreKept at a w) (v ∷ i ∷ vs) at p m index
  by (inl q) = does q
  by (inr r) = was_read r

-- of an element that was read: its operator, and its index
pub record Again (g : Whole) (k : ℕ) (h : Place) (op : Op) (at : Pos) (o : IntType) (r : Pos) (p : ℕ) (m : Memory) : Type 0 where
  pub operator : Computed g k h (ComputedBy (IsBinary op (site_at k at) o)) p m
  pub read : g.read k r

renew_outcome : (g : Whole) (k : ℕ) (h : Place) (x : Exits) (op : Op) (at : Pos) (o : IntType) (r : Pos) (a : Array) (w : Work) (p : ℕ) (m : Memory) (hs : List Held) (vs : Numbers)
    → Laid g k h x (work.Renew op at o r a w) p hs → Means m hs vs → Again g k h op at o r p m
renew_outcome g k h x op at o r a w p m [] vs l e = absurd l
renew_outcome g k h x op at o r a w p m (d ∷ []) vs l e = absurd l
renew_outcome g k h x op at o r a w p m (d ∷ c ∷ []) vs l e = absurd l
renew_outcome g k h x op at o r a w p m (d ∷ c ∷ n ∷ hs) [] l e = absurd e
renew_outcome g k h x op at o r a w p m (d ∷ c ∷ n ∷ hs) (u ∷ []) l e = absurd e.2
renew_outcome g k h x op at o r a w p m (d ∷ c ∷ n ∷ hs) (u ∷ v ∷ []) l e = absurd e.2.2
renew_outcome g k h x op at o r a w p m (d ∷ c ∷ n ∷ hs) (u ∷ v ∷ i ∷ vs) l e = record { operator = renew_computed g k h x op at o r a w p m n c d hs i v u vs l e; read = l.8 }

replace_outcome : (g : Whole) (k : ℕ) (h : Place) (x : Exits) (op : Op) (at : Pos) (o : IntType) (r : Pos) (a : Array) (w : Work) (p : ℕ) (m : Memory) (hs : List Held) (vs : Numbers)
    → Laid g k h x (work.Replace op at o r a w) p hs → Means m hs vs → Again g k h op at o r p m
replace_outcome g k h x op at o r a w p m [] vs l e = absurd l
replace_outcome g k h x op at o r a w p m (d ∷ []) vs l e = absurd l
replace_outcome g k h x op at o r a w p m (d ∷ c ∷ []) vs l e = absurd l
replace_outcome g k h x op at o r a w p m (d ∷ c ∷ n ∷ hs) [] l e = absurd e
replace_outcome g k h x op at o r a w p m (d ∷ c ∷ n ∷ hs) (u ∷ []) l e = absurd e.2
replace_outcome g k h x op at o r a w p m (d ∷ c ∷ n ∷ hs) (u ∷ v ∷ []) l e = absurd e.2.2
replace_outcome g k h x op at o r a w p m (d ∷ c ∷ n ∷ hs) (u ∷ v ∷ i ∷ vs) l e = record { operator = replace_computed g k h x op at o r a w p m n c d hs i v u vs l e; read = l.8 }

renewed_outcome : (g : Whole) (k : ℕ) (h : Place) (x : Exits) (op : Op) (at : Pos) (o t : IntType) (w : Work) (p : ℕ) (m : Memory) (hs : List Held) (vs : Numbers)
    → Laid g k h x (work.Renewed op at o t w) p hs → Means m hs vs → Computed g k h (ComputedBy (IsBinary op (site_at k at) o)) p m
renewed_outcome g k h x op at o t w p m [] vs l e = absurd l
renewed_outcome g k h x op at o t w p m (d ∷ []) vs l e = absurd l
renewed_outcome g k h x op at o t w p m (d ∷ c ∷ []) vs l e = absurd l
renewed_outcome g k h x op at o t w p m (d ∷ c ∷ n ∷ hs) [] l e = absurd e
renewed_outcome g k h x op at o t w p m (d ∷ c ∷ n ∷ hs) (u ∷ []) l e = absurd e.2
renewed_outcome g k h x op at o t w p m (d ∷ c ∷ n ∷ hs) (u ∷ v ∷ []) l e = absurd e.2.2
renewed_outcome g k h x op at o t w p m (d ∷ c ∷ n ∷ hs) (u ∷ v ∷ i ∷ vs) l e = renewed_computed g k h x op at o t w p m n c d hs i v u vs l e

claim_outcome : (g : Whole) (k : ℕ) (h : Place) (x : Exits) (at : Pos) (w : Work) (p : ℕ) (m : Memory) (hs : List Held) (vs : Numbers)
    → Laid g k h x (work.Claim at w) p hs → Means m hs vs → Computed g k h (Does (site_at k at) assertion) p m
claim_outcome g k h x at w p m [] vs l e = absurd l
claim_outcome g k h x at w p m (a ∷ hs) [] l e = absurd e
claim_outcome g k h x at w p m (a ∷ hs) (v ∷ vs) l e = claim_computed g k h x at w p m a hs v vs l e

pub outcome : (g : Whole) (k : ℕ) (h : Place) (x : Exits) (p : ℕ) (m : Memory) (hs : List Held) (vs : Numbers) {w : Work} {at : Pos} {operation : Operation} → Computes w at operation
    → Laid g k h x w p hs → Means m hs vs → Outcome g k h w vs at p m operation
outcome g k h x p m hs vs (apply {op = op} {at = at} {t = t} {w = w}) l e = apply_outcome g k h x op at t w p m hs vs l e
outcome g k h x p m hs vs (operate {op = op} {at = at} {t = t} {w = w}) l e = operate_outcome g k h x op at t w p m hs vs l e
outcome g k h x p m hs vs (update {op = op} {at = at} {o = o} {t = t} {x = y} {w = w}) l e = does (update_outcome g k h x op at o t y w p m hs vs l e)
outcome g k h x p m hs vs (advance {op = op} {at = at} {o = o} {t = t} {x = y} {w = w}) l e = does (advance_computed g k h x op at o t y w p m hs l)
outcome g k h x p m hs vs (load {at = at} {a = a} {w = w}) l e = does (load_outcome g k h x at a w p m hs vs l e)
outcome g k h x p m hs vs (reload {at = at} {a = a} {w = w}) l e = does (reload_outcome g k h x at a w p m hs vs l e)
outcome g k h x p m hs vs (store {at = at} {a = a} {w = w}) l e = does (store_outcome g k h x at a w p m hs vs l e)
outcome g k h x p m hs vs (store_kept {at = at} {a = a} {w = w}) l e = store_kept_outcome g k h x at a w p m hs vs l e
outcome g k h x p m hs vs (renew {op = op} {at = at} {r = r} {o = o} {a = a} {w = w}) l e = does (renew_outcome g k h x op at o r a w p m hs vs l e).operator
outcome g k h x p m hs vs (renew_index {op = op} {at = at} {r = r} {o = o} {a = a} {w = w}) l e = was_read (renew_outcome g k h x op at o r a w p m hs vs l e).read
outcome g k h x p m hs vs (renewed {op = op} {at = at} {o = o} {t = t} {w = w}) l e = does (renewed_outcome g k h x op at o t w p m hs vs l e)
outcome g k h x p m hs vs (replace {op = op} {at = at} {r = r} {o = o} {a = a} {w = w}) l e = does (replace_outcome g k h x op at o r a w p m hs vs l e).operator
outcome g k h x p m hs vs (replace_index {op = op} {at = at} {r = r} {o = o} {a = a} {w = w}) l e = was_read (replace_outcome g k h x op at o r a w p m hs vs l e).read
outcome g k h x p m hs vs (claim {at = at} {w = w}) l e = does (claim_outcome g k h x at w p m hs vs l e)
