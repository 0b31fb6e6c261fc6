-- The graph follows the program at operators, elements, tests and assertions, their faults included.
use Rattle.std.proofs.Common.{◌≡◌, ℕ, ◌<◌, ◌⊎◌, List, [], ◌∷◌, length, Bool, true, false, refl, sym, ap, ◌∙◌, subst, inl, inr, arith, ℤ}
use Rattle.std.specs.Prelude.{pos, Ok, Err, Result}
use Rattle.std.proofs.lemmas.Int.{ints}
use Rattle.pk_ctypes.specs.declared.places.Pos.{Pos}
use Rattle.pk_ctypes.specs.declared.types.IntType.{IntType}
use Rattle.pk_ctypes.specs.declared.types.IntType.TheVariants.{Int}
use Rattle.pk_ctypes.specs.declared.types.Op.{Op}
use Rattle.pk_ctypes.specs.declared.faults.Fault.{Fault}
use Rattle.pk_ctypes.specs.Types.{InType, is_in_type, wrapped}
use Rattle.pk_ctypes.specs.Operators.{value_of, result_type, right_number}
use Rattle.pk_ctypes.proofs.Wrapped.{wrapped_in, zero_in, one_most}
use Rattle.pk_ctypes.proofs.Values.{cases_of_type}
use Rattle.pk_graph.specs.Trees.{variable, Set}
use Rattle.pk_graph.specs.Steps as steps
use Rattle.pk_graph.specs.Steps.{Numbers, tree_value, at_site}
use Rattle.pk_draft.specs.Folding.{conversion, unary_tree, operated_tree}
use Rattle.pk_lower_row.specs.Rows.{one_tree}
use Rattle.pk_lower_statement.specs.declared.statements.Exits.{Exits}
use Rattle.pk_meaning.specs.Objects.{Object, Objects, numbers_of, with_numbers, number_of, is_in_scope}
use Rattle.pk_meaning.specs.Programs.{Program}
use Rattle.pk_meaning.specs.Work as work
use Rattle.pk_meaning.specs.Work.{Place, Work}
use Rattle.pk_meaning.specs.Steps as meaning
use Rattle.pk_meaning.specs.Steps.{Config, Next, step_of, operated}
use Rattle.pk_visits.proofs.Slots.{own, Memory, memory, with_memory}
use Rattle.pk_visits.proofs.Stands.{Whole, Held, held, Means, HasKind, FitsObjects, site_at, Laid}
use Rattle.pk_visits.proofs.Stores.{means_apart, own_value}
use Rattle.pk_visits.proofs.Steps.Values.{conversion_value, conversion_fault, unary_value, operated_value}
use Rattle.pk_ctypes.proofs.Operator_values.{value_in}
use Rattle.pk_visits.proofs.Follow.{Doomed, now, Answers, config, still, moved, set_does, scalar_written, is_there, number_in_type}
use Rattle.pk_visits.proofs.Doom.{Sound, doom, set_fails}
use Rattle.pk_graph.specs.Kinds.{scalar_kind}

-- ---- results and tests

pub by_result : (g : Whole) (chosen : Numbers) (p : ℕ) (m : Memory) (c : Config) (at : Pos) (r : Result ℤ Fault) (next : ℤ → Next)
    → ((z : ℤ) → r ≡ Ok z → Answers g chosen c.path c.here p m (next z)) → ((e : Fault) → r ≡ Err e → Doomed g chosen c.path c.here (steps.failure e (site_at c.path at)) p m)
    → Answers g chosen c.path c.here p m (meaning.with_value c at r next)
by_result g chosen p m c at (Ok z) next f d = f z refl
by_result g chosen p m c at (Err e) next f d = d e refl

pub sound_means : (m : Memory) (hs : List Held) (vs : Numbers) → Means m hs vs → Sound m hs
sound_means m [] [] e = tt
sound_means m [] (v ∷ vs) e = absurd e
sound_means m (h ∷ hs) [] e = absurd e
sound_means m (h ∷ hs) (v ∷ vs) e = ((v, e.0), sound_means m hs vs e.2)

-- ---- operators

pub apply : (g : Whole) (chosen : Numbers) (p : ℕ) (m : Memory) (k : ℕ) (h : Place) (op : Op) (at : Pos) (t : IntType) (w : Work) (v : ℤ) (vs : Numbers) (s : Objects) (b : Bool) (x : Exits) (a : Held) (hs : List Held)
    → Laid g k h x (work.Apply op at t w) p (a ∷ hs) → Means m (a ∷ hs) (v ∷ vs) → m.objects ≡ s → FitsObjects g.program s
    → Answers g chosen k h p m (step_of g.program chosen (config k h (work.Apply op at t w) (v ∷ vs) s b) (work.Apply op at t w))
apply g chosen p m k h op at t w v vs s b x a hs l e same f =
    let y = wrapped t v in
    let i = unary_tree op (site_at k at) t (conversion a.int_type t a.tree) in
    let is = unary_value op (site_at k at) t a.int_type a.tree v m e.1 e.0 in
    by_result g chosen p m (config k h (work.Apply op at t w) (v ∷ vs) s b) at (value_of op t y y) _
    (λ z ok. still g chosen p m k h w (z ∷ vs) s x (held i (result_type op t) ∷ hs) l.0 (is ∙ ap (at_site (site_at k at)) ok, value_in op t y y z ok, e.2, tt) same f)
    (λ n err. doom g chosen k h x (steps.failure n (site_at k at)) w p (held i (result_type op t) ∷ hs) m l.0 (inl (is ∙ ap (at_site (site_at k at)) err, sound_means m hs vs e.2)))

pub operate : (g : Whole) (chosen : Numbers) (p : ℕ) (m : Memory) (k : ℕ) (h : Place) (op : Op) (at : Pos) (t : IntType) (w : Work) (u v : ℤ) (vs : Numbers) (s : Objects) (b : Bool) (x : Exits) (a c : Held) (hs : List Held)
    → Laid g k h x (work.Operate op at t w) p (c ∷ a ∷ hs) → Means m (c ∷ a ∷ hs) (v ∷ u ∷ vs) → m.objects ≡ s → FitsObjects g.program s
    → Answers g chosen k h p m (step_of g.program chosen (config k h (work.Operate op at t w) (v ∷ u ∷ vs) s b) (work.Operate op at t w))
operate g chosen p m k h op at t w u v vs s b x a c hs l e same f =
    let i = operated_tree op (site_at k at) t a.int_type c.int_type a.tree c.tree in
    let is = operated_value op (site_at k at) t a.int_type c.int_type a.tree c.tree u v m e.2.1 e.2.0 e.1 e.0 in
    by_result g chosen p m (config k h (work.Operate op at t w) (v ∷ u ∷ vs) s b) at (operated op t u v) _
    (λ z ok. still g chosen p m k h w (z ∷ vs) s x (held i (result_type op t) ∷ hs) l.0 (is ∙ ap (at_site (site_at k at)) ok, value_in op t (wrapped t u) (right_number op t v) z ok, e.2.2, tt) same f)
    (λ n err. doom g chosen k h x (steps.failure n (site_at k at)) w p (held i (result_type op t) ∷ hs) m l.0 (inl (is ∙ ap (at_site (site_at k at)) err, sound_means m hs vs e.2.2)))

-- ---- scalars

pub in_type : (t : IntType) (z : ℤ) → is_in_type t z ≡ true → InType t z
in_type t z h = by (cases_of_type t z) where
  by : InType t z ⊎ ((is_in_type t z ≡ false) × (InType t z → ⊥)) → InType t z
  by (inl i) = i
  by (inr k) = absurd (let both : true ≡ false = sym h ∙ k.0 in grind (arith, both))

-- what an object holds, as the graph has it
pub object_value : (x : Object) (s : Objects) (m : Memory) → m.objects ≡ s → tree_value memory (variable (own x)) m ≡ Ok (number_of x s)
object_value x s m same = ap (λ o. Ok (number_of x o)) same

pub object_in : (p : Program) (x : Object) (t : IntType) (s : Objects) → HasKind p x (scalar_kind t) → FitsObjects p s → InType t (number_of x s)
object_in p x t s h f = in_type t (number_of x s) (number_in_type t (numbers_of x s) (f x (scalar_kind t) h).0 (f x (scalar_kind t) h).1)

pub one_in : InType Int (pos 1)
one_in = record { from = let a = (zero_in Int).0 in omega (arith, ints, a); to = one_most Int }

pub fetched : (g : Whole) (chosen : Numbers) (p : ℕ) (m : Memory) (k : ℕ) (h : Place) (t : IntType) (y : Object) (w : Work) (vs : Numbers) (s : Objects) (b : Bool) (x : Exits) (hs : List Held)
    → Laid g k h x (work.Fetch t y w) p hs → Means m hs vs → m.objects ≡ s → FitsObjects g.program s
    → Answers g chosen k h p m (step_of g.program chosen (config k h (work.Fetch t y w) vs s b) (work.Fetch t y w))
fetched g chosen p m k h t y w vs s b x hs l e same f =
    still g chosen p m k h w (number_of y s ∷ vs) s x (held (variable (own y)) t ∷ hs) l.1 (object_value y s m same, object_in g.program y t s l.0 f, e, tt) same f

pub update : (g : Whole) (chosen : Numbers) (p : ℕ) (m : Memory) (k : ℕ) (h : Place) (op : Op) (at : Pos) (o t : IntType) (y : Object) (w : Work) (v : ℤ) (vs : Numbers) (s : Objects) (b : Bool) (x : Exits) (a : Held) (hs : List Held)
    → Laid g k h x (work.Update op at o t y w) p (a ∷ hs) → Means m (a ∷ hs) (v ∷ vs) → m.objects ≡ s → FitsObjects g.program s
    → Answers g chosen k h p m (step_of g.program chosen (config k h (work.Update op at o t y w) (v ∷ vs) s b) (work.Update op at o t y w))
update g chosen p m k h op at o t y w v vs s b x a hs l e same f =
    let n = number_of y s in
    let i = operated_tree op (site_at k at) o t a.int_type (variable (own y)) a.tree in
    let j = conversion (result_type op o) t i in
    let is = operated_value op (site_at k at) o t a.int_type (variable (own y)) a.tree n v m (object_in g.program y t s l.1 f) (object_value y s m same) e.1 e.0 in
    by_result g chosen p m (config k h (work.Update op at o t y w) (v ∷ vs) s b) at (operated op o n v) _
    (λ z ok. let q = wrapped t z in
    moved g chosen p l.0 m (with_memory (own y) (q ∷ []) m) (Set (own y) j) k h w (q ∷ vs) (with_numbers y (q ∷ []) s) (is_in_scope y h.scope) x (held (variable (own y)) t ∷ hs)
    l.2.there (set_does chosen (own y) j q m (conversion_value (result_type op o) t i z m (value_in op o (wrapped o n) (right_number op o v) z ok) (is ∙ ap (at_site (site_at k at)) ok)))
    (refl, l.2.shown) l.3
    (own_value y q m (subst (λ o. 0 < length (numbers_of y o)) (sym same) (is_there g.program y t s l.1 f)), wrapped_in t z, means_apart (own y) (q ∷ []) m hs vs l.2.apart e.2, tt)
    (ap (with_numbers y (q ∷ [])) same) (scalar_written g.program y t q s l.1 (wrapped_in t z) f))
    (λ c err. now l.0 (Set (own y) j) l.2.there (set_fails chosen (own y) j (steps.failure c (site_at k at)) m
    (conversion_fault (result_type op o) t i (steps.failure c (site_at k at)) m (is ∙ ap (at_site (site_at k at)) err))) tt)

pub advance : (g : Whole) (chosen : Numbers) (p : ℕ) (m : Memory) (k : ℕ) (h : Place) (op : Op) (at : Pos) (o t : IntType) (y : Object) (w : Work) (vs : Numbers) (s : Objects) (b : Bool) (x : Exits) (hs : List Held)
    → Laid g k h x (work.Advance op at o t y w) p hs → Means m hs vs → m.objects ≡ s → FitsObjects g.program s
    → Answers g chosen k h p m (step_of g.program chosen (config k h (work.Advance op at o t y w) vs s b) (work.Advance op at o t y w))
advance g chosen p m k h op at o t y w vs s b x hs l e same f =
    let n = number_of y s in
    let i = operated_tree op (site_at k at) o t Int (variable (own y)) one_tree in
    let j = conversion (result_type op o) t i in
    let is = operated_value op (site_at k at) o t Int (variable (own y)) one_tree n (pos 1) m (object_in g.program y t s l.1 f) (object_value y s m same) one_in refl in
    by_result g chosen p m (config k h (work.Advance op at o t y w) vs s b) at (operated op o n (pos 1)) _
    (λ z ok. let q = wrapped t z in
    moved g chosen p l.0 m (with_memory (own y) (q ∷ []) m) (Set (own y) j) k h w vs (with_numbers y (q ∷ []) s) (is_in_scope y h.scope) x hs
    l.2.there (set_does chosen (own y) j q m (conversion_value (result_type op o) t i z m (value_in op o (wrapped o n) (right_number op o (pos 1)) z ok) (is ∙ ap (at_site (site_at k at)) ok)))
    (refl, l.2.shown) l.3 (means_apart (own y) (q ∷ []) m hs vs l.2.apart e)
    (ap (with_numbers y (q ∷ [])) same) (scalar_written g.program y t q s l.1 (wrapped_in t z) f))
    (λ c err. now l.0 (Set (own y) j) l.2.there (set_fails chosen (own y) j (steps.failure c (site_at k at)) m
    (conversion_fault (result_type op o) t i (steps.failure c (site_at k at)) m (is ∙ ap (at_site (site_at k at)) err))) tt)
