-- The verbs of a draft as steps.
use Rattle.std.proofs.Common.{◌≡◌, ◌≢◌, ℕ, ◌+◌, zero, suc, ◌<◌, ◌≤◌, ◌⊎◌, inl, inr, List, [], ◌∷◌, ◌++◌, Option, Some, None, length, refl, ap, sym, subst, ◌∙◌, arith, slice_set, length-set}
use Rattle.std.proofs.lemmas.List.{get_or-set_same, get_or-set_other}
use Rattle.std.proofs.lemmas.Option.{none-some, slice_get_within}
use Rattle.std.specs.Prelude.{All, slice_get, unwrap_or}
use Rattle.std.specs.Option.{option_map}
use Rattle.std.proofs.lemmas.List.Elements.{All-push}
use Rattle.pk_ctypes.specs.declared.types.IntType.{IntType}
use Rattle.pk_typed.specs.Trees.{LocalTree}
use Rattle.pk_graph.specs.Trees.{InstrOf, Skip}
use Rattle.pk_lower_laws.proofs.Drafts.Tables.{IsTypedInstr}
use Rattle.pk_graph.specs.Kinds.{count_of, Kind}
use Rattle.pk_graph.specs.Graphs.{VariableOf, no_variable, number_start}
use Rattle.pk_graph.specs.WellMade.{IsStartOf}
use Rattle.pk_draft.specs.declared.drafts.Region.{Region}
use Rattle.pk_draft.specs.declared.drafts.Label.{Label}
use Rattle.pk_draft.specs.declared.drafts.Size.{Size}
use Rattle.pk_draft.specs.Drafts.{no_region, nowhere, at, standing, placed, all_placed, fresh, inner, with_variable, with_temporary, with_object, link, emit, away, come, entered}
use Rattle.pk_lower_row.specs.Contexts.{size_in}
use Rattle.pk_welltyped.specs.WellTyped as good
use Rattle.pk_lower_laws.proofs.Drafts.Places.{D, Place, Has, HasIf, Promised, IsOwn, IsObjectOf, region_at, IsKept, In, Holds, variable_in, Laid, MadeIs, RegionsForeseen, ObjectsForeseen, EdgeIs, HasOtherWay, IsNoObject, Stage, ResultIs, own_number, ObjectsAre, Typed, Proper, Below, IsMade, PlacesAre, Before, Step, quiet, same_scopes}

pub all_shorter : {A : Type 0} (Q : A → Type 0) (xs : List A) (x : A) → All Q (xs ++ x ∷ []) → All Q xs
all_shorter Q [] x h k d l = absurd (omega (l, arith))
all_shorter Q (y ∷ ys) x h zero d l = h 0 d (omega arith)
all_shorter Q (y ∷ ys) x h (suc k) d l = all_shorter Q ys x (λ j e m. h (suc j) e (omega (m, arith))) k d (omega (l, arith))

pub the_last : {A : Type 0} (Q : A → Type 0) (xs : List A) (x : A) → All Q (xs ++ x ∷ []) → Q x
the_last Q [] x h = h 0 x (omega arith)
the_last Q (y ∷ ys) x h = the_last Q ys x (λ j e m. h (suc j) e (omega (m, arith)))

pub all_set : {A : Type 0} (Q : A → Type 0) (xs : List A) (n : ℕ) (x : A) → All Q xs → Q x → All Q (slice_set xs n x)
all_set Q [] n x h k i d l = h i d l
all_set Q (y ∷ ys) zero x h k zero d l = k
all_set Q (y ∷ ys) zero x h k (suc i) d l = h (suc i) d l
all_set Q (y ∷ ys) (suc n) x h k zero d l = h 0 d (omega arith)
all_set Q (y ∷ ys) (suc n) x h k (suc i) d l = all_set Q ys n x (λ j e m. h (suc j) e (omega (m, arith))) k i d (omega (l, arith))

pub either : (i j : ℕ) → (i ≡ j) ⊎ (i ≢ j)
either zero zero = inl refl
either zero (suc j) = inr (λ h. absurd (omega (h, arith)))
either (suc i) zero = inr (λ h. absurd (omega (h, arith)))
either (suc i) (suc j) = elim (either i j) [ inl h ↦ inl (ap suc h) | inr h ↦ inr (λ (e : suc i ≡ suc j). h (omega (e, arith))) ]

-- ---- points and edges

pub typed_at : (w : Place) (s : Stage) (p : ℕ) (d : D w) → p < w.points → Typed w s d → Typed w s (at p d)
typed_at w s p d h t = record { names = t.names; point = h; here = t.here; scope = t.scope; chain = t.chain; labels = t.labels; scopes = t.scopes; starts = t.starts; zeros = t.zeros; edges = t.edges; objects = t.objects; places = t.places }

pub typed_standing : (w : Place) (s : Stage) (l : Label) (d : D w) → l.path ≡ d.here.path → l.scope ≤ length d.scopes → Typed w s d → Typed w s (standing l d)
typed_standing w s l d h q t = record { names = t.names; point = t.point; here = h ∙ t.here; scope = q; chain = t.chain; labels = t.labels; scopes = t.scopes; starts = t.starts; zeros = t.zeros; edges = t.edges; objects = t.objects; places = t.places }

pub typed_link : (w : Place) (s : Stage) (i : InstrOf w.table.Variable) (q : ℕ) (d : D w) → q < w.points → IsTypedInstr w.table i → (q ≡ nowhere → HasOtherWay w d.point i) → Typed w s d → Typed w s (link i q d)
typed_link w s i q d h k n t = record {
  names = t.names;
  point = t.point;
  here = t.here;
  scope = t.scope;
  chain = t.chain;
  labels = t.labels;
  scopes = t.scopes;
  starts = t.starts;
  zeros = t.zeros;
  edges = All-push (EdgeIs w) d.edges (record { from = d.point; instr = i; to = q }) t.edges (record { from = t.point; to = h; typed = k; other = n });
  objects = t.objects;
  places = t.places;
}

pub typed_placed : (w : Place) → Proper w → (s : Stage) (p : ℕ) (d : D w) → Typed w s d → Typed w s (placed p d)
typed_placed w g s p d t = record {
  names = t.names;
  point = t.point;
  here = t.here;
  scope = t.scope;
  chain = t.chain;
  labels = record { many = length-set d.labels p d.here ∙ t.labels.many; paths = all_set (λ (l : Label). l.path < w.paths) d.labels p d.here t.labels.paths (omega (t.here, g.path, arith)) };
  scopes = t.scopes;
  starts = t.starts;
  zeros = t.zeros;
  edges = t.edges;
  objects = t.objects;
  places = t.places;
}

typed_all_placed : (w : Place) → Proper w → (s : Stage) (n p : ℕ) (d : D w) → Typed w s d → Typed w s (all_placed n p d)
typed_all_placed w g s zero p d t = t
typed_all_placed w g s (suc n) p d t = typed_all_placed w g s n (p + 1) (placed p d) (typed_placed w g s p d t)

pub typed_fresh : (w : Place) → Proper w → (s : Stage) (n : ℕ) (d : D w) → Typed w s d → Typed w s (fresh n d)
typed_fresh w g s n d t =
    let e = typed_all_placed w g s n d.points d t in
    record { names = e.names; point = e.point; here = e.here; scope = e.scope; chain = e.chain; labels = e.labels; scopes = e.scopes; starts = e.starts; zeros = e.zeros; edges = e.edges; objects = e.objects; places = e.places }

-- n points, where n isn't known
placed_same : (w : Place) (n p : ℕ) (d : D w)
    → ((all_placed n p d).variables ≡ d.variables) × ((all_placed n p d).made ≡ d.made) × ((all_placed n p d).regions ≡ d.regions) × ((all_placed n p d).objects ≡ d.objects) × ((all_placed n p d).edges ≡ d.edges) × ((all_placed n p d).scopes ≡ d.scopes)
placed_same w zero p d = (refl, refl, refl, refl, refl, refl)
placed_same w (suc n) p d = placed_same w n (p + 1) (placed p d)

pub fresh_step : (w : Place) → Proper w → (m n : ℕ) (s : Stage) (d : D w) → Step w m m s s d (fresh n d) (Unit {0}) (d.points + n ≤ w.points)
fresh_step w g m n s d =
    let k = placed_same w n d.points d in
    quiet w m s d (fresh n d) (Unit {0}) (d.points + n ≤ w.points) k.0 k.1 k.2 k.3 (subst (All w.IsEdge) k.4) (same_scopes _ _ k.5) (omega arith) (λ p b z t u. (typed_fresh w g s n d t, b.1))

-- and the first of them isn't nowhere
pub fresh_behind : (w : Place) → Proper w → (m n : ℕ) (s : Stage) (d : D w) → Step w m m s s d (fresh n d) (Unit {0}) ((d.points + n ≤ w.points) × (0 < d.points))
fresh_behind w g m n s d =
    let k = placed_same w n d.points d in
    quiet w m s d (fresh n d) (Unit {0}) ((d.points + n ≤ w.points) × (0 < d.points)) k.0 k.1 k.2 k.3 (subst (All w.IsEdge) k.4) (same_scopes _ _ k.5) (omega arith) (λ p b z t u. (typed_fresh w g s n d t, (b.1, p)))

pub emit_step : (w : Place) → Proper w → (m : ℕ) (s : Stage) (i : InstrOf w.table.Variable) (d : D w) → Step w m m s s d (emit i d) (IsTypedInstr w.table i) (Unit {0})
emit_step w g m s i d = quiet w m s d (emit i d) (IsTypedInstr w.table i) (Unit {0}) refl refl refl refl (all_shorter w.IsEdge d.edges _) (same_scopes _ _ refl) (omega arith)
    (λ p b z t k. let q : d.points < w.points = omega (b.1, arith) in
    (typed_at w s d.points (link i d.points (fresh 1 d)) q (typed_link w s i d.points (fresh 1 d) q k (λ e. absurd (omega (e, p, arith))) (typed_fresh w g s 1 d t)), tt))

pub at_step : (w : Place) (m : ℕ) (s : Stage) (p : ℕ) (d : D w) → Step w m m s s d (at p d) (p < w.points) (Unit {0})
at_step w m s p d = quiet w m s d (at p d) (p < w.points) (Unit {0}) refl refl refl refl (λ z. z) (same_scopes _ _ refl) (omega arith) (λ o b z t k. (typed_at w s p d k t, tt))

pub link_step : (w : Place) (m : ℕ) (s : Stage) (q : ℕ) (d : D w) → Step w m m s s d (link Skip q d) (q < w.points) (Unit {0})
link_step w m s q d = quiet w m s d (link Skip q d) (q < w.points) (Unit {0}) refl refl refl refl (all_shorter w.IsEdge d.edges _) (same_scopes _ _ refl) (omega arith) (λ o b z t k. (typed_link w s Skip q d k tt (λ e. tt) t, tt))

pub away_step : (w : Place) → Proper w → (m : ℕ) (s : Stage) (q : ℕ) (d : D w) → Step w m m s s d (away q d) (q < w.points) (Unit {0})
away_step w g m s q d = quiet w m s d (away q d) (q < w.points) (Unit {0}) refl refl refl refl (all_shorter w.IsEdge d.edges _) (same_scopes _ _ refl) (omega arith)
    (λ o b z t k. (typed_at w s d.points (fresh 1 (link Skip q d)) (omega (b.1, arith)) (typed_fresh w g s 1 (link Skip q d) (typed_link w s Skip q d k tt (λ e. tt) t)), tt))

pub come_step : (w : Place) → Proper w → (m : ℕ) (s : Stage) (p : ℕ) (d : D w) → Step w m m s s d (come p d) (p < w.points) (Unit {0})
come_step w g m s p d = quiet w m s d (come p d) (p < w.points) (Unit {0}) refl refl refl refl (all_shorter w.IsEdge d.edges _) (same_scopes _ _ refl) (omega arith)
    (λ o b z t k. (typed_at w s p (link Skip p (placed p d)) k (typed_link w s Skip p (placed p d) k tt (λ e. tt) (typed_placed w g s p d t)), tt))

-- ---- variables

laid_with : (w : Place) (v p : ℕ) (ms : List VariableOf) (rs : List Region) (x : VariableOf) → v + 1 ≤ w.limit → Laid w v p ms rs → Laid w (v + 1) p (slice_set ms v x) rs
laid_with w v p ms rs x b h = record {
  many = length-set ms v x ∙ h.many;
  count = h.count;
  free = λ y l m. let other : y ≢ v = λ e. absurd (omega (e, l, arith)) in ap (λ (o : VariableOf). o.path) (get_or-set_other ms v y x no_variable other) ∙ h.free y (omega (l, arith)) m;
  pending = λ j y l i. let q = h.pending j y l i in
      let other : y ≢ v = λ e. elim q.2 [ inl a ↦ absurd (omega (e, a, arith)) | inr a ↦ absurd (omega (e, a, b, arith)) ] in
      (ap (λ (o : VariableOf). o.path) (get_or-set_other ms v y x no_variable other) ∙ q.0, q.1, elim q.2 [ inl a ↦ inl (omega (a, arith)) | inr a ↦ inr a ]);
  apart = h.apart;
  behind = h.behind;
  parted = h.parted;
}

made_with : (w : Place) (v p : ℕ) (ms : List VariableOf) (rs : List Region) (x : VariableOf) → v + 1 ≤ w.limit → Laid w v p ms rs → MadeIs w (slice_set ms v x) → MadeIs w ms
made_with w v p ms rs x b h f y k e =
    let other : y ≢ v = λ q. absurd (none-some k (sym (h.free v (omega arith) (omega (b, arith))) ∙ (ap (λ (z : ℕ). (variable_in ms z).path) (sym q) ∙ e))) in
    let same : variable_in (slice_set ms v x) y ≡ variable_in ms y = get_or-set_other ms v y x no_variable other in
    f y k (ap (λ (o : VariableOf). o.path) same ∙ e) ∙ same

-- a variable of the path is so in the end
is_own : (w : Place) → Proper w → (v p : ℕ) (ms : List VariableOf) (rs : List Region) (x : VariableOf) → x.path ≡ Some w.context.path → v + 1 ≤ w.limit → Laid w v p ms rs → MadeIs w (slice_set ms v x) → IsOwn w v x
is_own w g v p ms rs x q b h f =
    let there : v < length w.kinds = omega (b, g.limit, arith) in
    let is : variable_in (slice_set ms v x) v ≡ x = get_or-set_same ms v x no_variable (omega (there, h.many, arith)) in
    record { there = there; is = f v w.context.path (ap (λ (o : VariableOf). o.path) is ∙ q) ∙ is }

objects_later : (w : Place) (s : Stage) (v u : ℕ) (os : List ℕ) → v ≤ u → ObjectsAre w s v os → ObjectsAre w s u os
objects_later w s v u os o h = record { many = h.many; each = h.each; result = h.result; kinds = h.kinds; rising = h.rising; result_apart = h.result_apart; below = λ i l. omega (h.below i l, o, arith); result_below = result_more s.result (own_number os (length w.context.locals)) h.result_below }
  where
    result_more : (r : Option IntType) (y : ℕ) → ResultIs r (λ z. z < v) y → ResultIs r (λ z. z < u) y
    result_more None y h = tt
    result_more (Some t) y h = omega (h, o, arith)

objects_before : (w : Place) (s : Stage) (v u : ℕ) (os : List ℕ) → v ≤ u → ObjectsForeseen w s u os → ObjectsForeseen w s v os
objects_before w s v u os o f = record { declared = f.declared; objects = f.objects; result = f.result; later = λ i l k. omega (f.later i l k, o, arith); result_later = λ q. let a = f.result_later q in omega (a, o, arith) }

zeros_with : (w : Place) (v : ℕ) (ms : List VariableOf) (x : VariableOf) → v < length ms → (x.start ≡ number_start []) ⊎ w.CanBegin v → ((y : ℕ) → ((variable_in ms y).start ≡ number_start []) ⊎ w.CanBegin y)
    → (y : ℕ) → ((variable_in (slice_set ms v x) y).start ≡ number_start []) ⊎ w.CanBegin y
zeros_with w v ms x l z h y = elim (either y v) [
  | inl e ↦ elim z [
    | inl is ↦ inl (ap (λ (i : ℕ). (variable_in (slice_set ms v x) i).start) e ∙ (ap (λ (o : VariableOf). o.start) (get_or-set_same ms v x no_variable l) ∙ is))
    | inr can ↦ inr (subst w.CanBegin (sym e) can)
  ]
  | inr o ↦ elim (h y) [
    | inl is ↦ inl (ap (λ (i : VariableOf). i.start) (get_or-set_other ms v y x no_variable o) ∙ is)
    | inr can ↦ inr can
  ]
]

-- A variable of the path is made, which is that of another object where there is one more behind it.
making : (w : Place) → Proper w → (m : ℕ) (s k : Stage) (x : VariableOf) (d : D w) (os : List ℕ) (R : Type 0)
    → (length d.objects ≡ length w.context.locals + 1 → ObjectsForeseen w k (d.variables + 1) os → ObjectsForeseen w s d.variables d.objects) → length os ≡ length d.objects
    → (d.here.path ≡ w.context.path → x.path ≡ Some w.context.path) → IsStartOf x x.start → (length d.objects ≡ length w.context.locals + 1 → ObjectsForeseen w k (d.variables + 1) os → (x.start ≡ number_start []) ⊎ w.CanBegin d.variables)
    → (ObjectsForeseen w k (d.variables + 1) os → IsOwn w d.variables x → ObjectsAre w s d.variables d.objects → d.here.path ≡ w.context.path → ObjectsAre w k (d.variables + 1) os × R)
    → Step w m m s k d (record (with_variable x d) { objects = os }) (Unit {0}) R
making w g m s k x d os R back many p st z t = record {
  order = omega arith;
  variables = omega arith;
  points = omega arith;
  scopes = same_scopes _ _ refl;
  after = λ b y. record {
    laid = laid_with w d.variables d.points d.made d.regions x y.0 b.laid;
    same = λ j c. refl;
    made = λ j a c. absurd (omega (a, c, arith));
    low = λ j l. get_or-set_other d.made d.variables j x no_variable (λ q. absurd (omega (q, l, arith)));
    old = λ j l e. get_or-set_other d.made d.variables j x no_variable (λ q. absurd (none-some l (sym (b.laid.free d.variables (omega arith) (omega (y.0, arith))) ∙ (ap (λ (i : ℕ). (variable_in d.made i).path) (sym q) ∙ e))));
    slots = many;
  };
  objects = λ b y f. back b.slots f;
  before = λ b y f. record { made = made_with w d.variables d.points d.made d.regions x y.0 b.laid f.made; regions = f.regions; objects = back b.slots f.objects; edges = f.edges };
  typed = λ b y f h q.
      let r = t f.objects (is_own w g d.variables d.points d.made d.regions x (p h.here) y.0 b.laid f.made) h.objects h.here in (
        record {
          names = h.names;
          point = h.point;
          here = h.here;
          scope = h.scope;
          chain = h.chain;
          labels = h.labels;
          scopes = h.scopes;
          starts = all_set (λ (o : VariableOf). IsStartOf o o.start) d.made d.variables x h.starts st;
          zeros = zeros_with w d.variables d.made x (omega (y.0, g.limit, b.laid.many, arith)) (z b.slots f.objects) h.zeros;
          edges = h.edges;
          objects = r.0;
          places = h.places;
        },
        r.1,
      );
}

-- a variable that is no object's
no_object : (w : Place) (s : Stage) (v : ℕ) (os : List ℕ) → ObjectsForeseen w s (v + 1) os → ObjectsAre w s v os → IsNoObject w v
no_object w s v os f h = record {
  objects = λ i l e. elim (split i s.objects) [
    | inl a ↦ absurd (omega (f.objects i a, h.below i a, e, arith))
    | inr a ↦ absurd (omega (f.later i a l, e, arith))
  ];
  result = λ e. by s.result refl f.result h.result_below e;
} where
  split : (i l : ℕ) → (i < l) ⊎ (l ≤ i)
  split i l = grind arith

  by : (r : Option IntType) → s.result ≡ r → ResultIs r (λ y. w.ends.result ≡ y) (own_number os (length w.context.locals)) → ResultIs r (λ y. y < v) (own_number os (length w.context.locals)) → w.ends.result ≡ v → ⊥
  by None is a b e = let z = f.result_later is in absurd (omega (z, e, arith))
  by (Some t) is a b e = absurd (omega (a, b, e, arith))

-- a new temporary
pub temporary_made : (w : Place) → Proper w → (m : ℕ) (s : Stage) (t : IntType) (d : D w) → Step w m m s s d (with_temporary t d) (Unit {0}) (Has w.table (w.table.names.temporary d.variables) t None)
temporary_made w g m s t d =
    let x = inner None t None d.here.path in
    making w g m s s x d d.objects (Has w.table (w.table.names.temporary d.variables) t None)
    (λ e f. objects_before w s d.variables (d.variables + 1) d.objects (omega arith) f) refl (λ h. ap Some h) (omega arith, λ i z l. absurd (omega (l, arith))) (λ e f. inl refl)
    (λ f o h n. (
      objects_later w s d.variables (d.variables + 1) d.objects (omega arith) h,
      g.temporaries d.variables t (subst (λ (k : ℕ). IsOwn w d.variables (inner None t None k)) n o) (no_object w s d.variables d.objects f h),
    ))

abbrev pub with_objects : ℕ → Stage → Stage
with_objects n s = record { objects = n; result = s.result }

pub within : (xs : List LocalTree) (i : ℕ) {q : Kind} → good.kind_among xs i ≡ Some q → i < length xs
within xs i {q = q} e = known (slice_get xs i) refl e
  where
    known : (a : Option LocalTree) → slice_get xs i ≡ a → option_map (λ (x : LocalTree). record { int_type = x.int_type; length = x.length }) a ≡ Some q → i < length xs
    known None is e = absurd (none-some q e)
    known (Some x) is e = slice_get_within xs i x is

-- behind one object more
object_back : (w : Place) (s : Stage) (v : ℕ) (os : List ℕ) → s.objects < length w.context.locals → length os ≡ length w.context.locals + 1 → ObjectsForeseen w (with_objects (s.objects + 1) s) (v + 1) (slice_set os s.objects v) → ObjectsForeseen w s v os
object_back w s v os l n f =
    let i = s.objects in
    record {
      declared = omega (f.declared, arith);
      objects = λ j b. f.objects j (omega (b, arith)) ∙ get_or-set_other os i j v 0 (λ e. absurd (omega (e, b, arith)));
      result = subst (λ (y : ℕ). ResultIs s.result (λ z. w.ends.result ≡ z) y) (get_or-set_other os i (length w.context.locals) v 0 (λ e. absurd (omega (e, l, arith)))) f.result;
      later = λ j a b. elim (either j i) [
        | inl e ↦ (let q : w.ends.numbers i ≡ v = f.objects i (omega arith) ∙ get_or-set_same os i v 0 (omega (n, l, arith)) in let z : w.ends.numbers j ≡ w.ends.numbers i = ap w.ends.numbers e in omega (q, z, arith))
        | inr o ↦ omega (f.later j (omega (a, o, arith)) b, arith)
      ];
      result_later = λ e. let a = f.result_later e in omega (a, arith);
    }

object_is_next : (w : Place) (s : Stage) (v : ℕ) (os : List ℕ) → s.objects < length w.context.locals → length os ≡ length w.context.locals + 1 → ObjectsForeseen w (with_objects (s.objects + 1) s) (v + 1) (slice_set os s.objects v)
    → (s.objects < w.ends.objects) × (w.ends.numbers s.objects ≡ v)
object_is_next w s v os l n f = (omega (f.declared, arith), f.objects s.objects (omega arith) ∙ get_or-set_same os s.objects v 0 (omega (n, l, arith)))

object_more : (w : Place) (s : Stage) (os : List ℕ) (v : ℕ) (k : Kind) → good.kind_among w.context.locals s.objects ≡ Some k → 0 < count_of k.length → Has w.table (w.table.names.object w.context.path s.objects v) k.int_type k.length → ObjectsAre w s v os
    → ObjectsAre w (with_objects (s.objects + 1) s) (v + 1) (slice_set os s.objects v)
object_more w s os v k is some h o =
    let i = s.objects in
    let inside : i < length w.context.locals = within w.context.locals i is in
    let same : own_number (slice_set os i v) i ≡ v = get_or-set_same os i v 0 (omega (inside, o.many, arith)) in
    let other : own_number (slice_set os i v) (length w.context.locals) ≡ own_number os (length w.context.locals) = get_or-set_other os i (length w.context.locals) v 0 (λ e. absurd (omega (e, inside, arith))) in
    record {
      many = length-set os i v ∙ o.many;
      each = λ j l q e. elim (either j i) [
        | inl at ↦ here j q at e same
        | inr not ↦ subst (λ (x : ℕ). Has w.table (w.table.names.object w.context.path j x) q.int_type q.length) (sym (get_or-set_other os i j v 0 not)) (o.each j (smaller j not l) q e)
      ];
      result = subst (λ (x : ℕ). HasIf w.table (w.table.names.result w.context.path x) s.result) (sym other) o.result;
      kinds = λ j l. elim (either j i) [
        | inl at ↦ (k, ap (good.kind_among w.context.locals) at ∙ is, some)
        | inr not ↦ o.kinds j (smaller j not l)
      ];
      below = λ j l. elim (either j i) [
        | inl at ↦ (let z : own_number (slice_set os i v) j ≡ own_number (slice_set os i v) i = ap (own_number (slice_set os i v)) at in omega (z, same, arith))
        | inr not ↦ (let z = get_or-set_other os i j v 0 not in omega (z, o.below j (smaller j not l), arith))
      ];
      result_below = subst (λ (x : ℕ). ResultIs s.result (λ z. z < v + 1) x) (sym other) (more s.result (own_number os (length w.context.locals)) o.result_below);
      rising = λ a j l m. let before = get_or-set_other os i a v 0 (λ e. absurd (omega (e, l, m, arith))) in elim (either j i) [
        | inl at ↦ (let z : own_number (slice_set os i v) j ≡ own_number (slice_set os i v) i = ap (own_number (slice_set os i v)) at in let low = o.below a (omega (l, m, arith)) in omega (z, same, before, low, arith))
        | inr not ↦ (let z = get_or-set_other os i j v 0 not in let low = o.rising a j l (smaller j not m) in omega (z, before, low, arith))
      ];
      result_apart = λ j l. subst (λ (x : ℕ). ResultIs s.result (λ y. own_number (slice_set os i v) j ≡ y → ⊥) x) (sym other) (elim (either j i) [
        | inl at ↦ (let z : own_number (slice_set os i v) j ≡ own_number (slice_set os i v) i = ap (own_number (slice_set os i v)) at in new s.result (own_number (slice_set os i v) j) (own_number os (length w.context.locals)) (z ∙ same) o.result_below)
        | inr not ↦ subst (λ (x : ℕ). ResultIs s.result (λ y. x ≡ y → ⊥) (own_number os (length w.context.locals))) (sym (get_or-set_other os i j v 0 not)) (o.result_apart j (smaller j not l))
      ]);
    }
  where
    new : (r : Option IntType) (n y : ℕ) → n ≡ v → ResultIs r (λ z. z < v) y → ResultIs r (λ z. n ≡ z → ⊥) y
    new None n y e h = tt
    new (Some t) n y e h = λ q. absurd (omega (e, h, q, arith))

    smaller : (j : ℕ) → j ≢ s.objects → j < s.objects + 1 → j < s.objects
    smaller j other l = omega (other, l, arith)

    more : (r : Option IntType) (y : ℕ) → ResultIs r (λ z. z < v) y → ResultIs r (λ z. z < v + 1) y
    more None y h = tt
    more (Some t) y h = omega (h, arith)

    here : (j : ℕ) (q : Kind) → j ≡ s.objects → good.kind_among w.context.locals j ≡ Some q → own_number (slice_set os s.objects v) s.objects ≡ v → Has w.table (w.table.names.object w.context.path j (own_number (slice_set os s.objects v) j)) q.int_type q.length
    here j q at e same =
        let kind : k ≡ q = ap (λ (a : Option Kind). unwrap_or a q) (sym is ∙ (ap (good.kind_among w.context.locals) (sym at) ∙ e)) in
        subst (λ (x : ℕ). Has w.table (w.table.names.object w.context.path x (own_number (slice_set os s.objects v) x)) q.int_type q.length) (sym at)
        (subst (λ (x : ℕ). Has w.table (w.table.names.object w.context.path s.objects x) q.int_type q.length) (sym same) (subst (λ (a : Kind). Has w.table (w.table.names.object w.context.path s.objects v) a.int_type a.length) kind h))

-- The next object's variable is made, which may begin with something else than 0 where it is so said.
pub object_step : (w : Place) → Proper w → (m : ℕ) (s : Stage) (x : VariableOf) (d : D w) → x.path ≡ Some w.context.path → IsStartOf x x.start → (k : Kind) → good.kind_among w.context.locals s.objects ≡ Some k → 0 < count_of k.length → IsObjectOf w s.objects x
    → Step w m m s (with_objects (s.objects + 1) s) d (with_object s.objects x d) (Unit {0}) ((d.variables < length w.kinds) × w.CanBeNamed d.variables)
object_step w g m s x d p st k is some ob =
    let l = within w.context.locals s.objects is in
    making w g m s (with_objects (s.objects + 1) s) x d (slice_set d.objects s.objects d.variables) ((d.variables < length w.kinds) × w.CanBeNamed d.variables)
    (λ n f. object_back w s d.variables d.objects l n f) (length-set d.objects s.objects d.variables) (λ e. p) st
    (λ n f. let q = object_is_next w s d.variables d.objects l n f in inr (subst w.CanBegin q.1 (g.begun s.objects q.0)))
    (λ f o h n. let q = object_is_next w s d.variables d.objects l h.many f in (
      object_more w s d.objects d.variables k is some
          (subst (λ (y : ℕ). Has w.table (w.table.names.object w.context.path s.objects y) k.int_type k.length) q.1 (g.objects s.objects k x q.0 is (subst (λ (y : ℕ). IsOwn w y x) (sym q.1) o) ob)) h,
      (o.there, subst w.CanBeNamed q.1 (g.named s.objects q.0)),
    ))

-- the result of the function
pub result_step : (w : Place) → Proper w → (m n : ℕ) (t : IntType) (d : D w) → n ≤ length w.context.locals → w.context.returns ≡ Some t
    → Step w m m (record { objects = n; result = None }) (record { objects = n; result = Some t }) d (with_object (length w.context.locals) (inner None t None w.context.path) d) (Unit {0}) (Unit {0})
result_step w g m n t d few ret =
    let x = inner None t None w.context.path in
    let i = length w.context.locals in
    let s : Stage = record { objects = n; result = None } in
    let k : Stage = record { objects = n; result = Some t } in
    let os = slice_set d.objects i d.variables in
    making w g m s k x d os (Unit {0})
    (λ e f. let same : own_number os i ≡ d.variables = get_or-set_same d.objects i d.variables 0 (omega (e, arith)) in record {
      declared = f.declared;
      objects = λ j l. f.objects j l ∙ get_or-set_other d.objects i j d.variables 0 (λ q. absurd (omega (q, l, few, arith)));
      result = tt;
      later = λ j a b. omega (f.later j a b, arith);
      result_later = λ q. omega (f.result, same, arith);
    }) (length-set d.objects i d.variables) (λ e. refl) (omega arith, λ a b l. absurd (omega (l, arith))) (λ e f. inl refl)
    (λ f o h q.
    let same : own_number os i ≡ d.variables = get_or-set_same d.objects i d.variables 0 (omega (h.many, arith)) in
    let at : w.ends.result ≡ d.variables = f.result ∙ same in (
      record {
        many = length-set d.objects i d.variables ∙ h.many;
        each = λ j l a e. let b = within w.context.locals j e in
            subst (λ (y : ℕ). Has w.table (w.table.names.object w.context.path j y) a.int_type a.length) (sym (get_or-set_other d.objects i j d.variables 0 (λ c. absurd (omega (c, b, arith))))) (h.each j l a e);
        result = subst (λ (y : ℕ). Has w.table (w.table.names.result w.context.path y) t None) (at ∙ sym same) (g.results t ret (subst (λ (y : ℕ). IsOwn w y x) (sym at) o));
        kinds = h.kinds;
        below = λ j l. let a = get_or-set_other d.objects i j d.variables 0 (λ c. absurd (omega (c, l, few, arith))) in omega (a, h.below j l, arith);
        result_below = omega (same, arith);
        rising = λ a j l c. let y = get_or-set_other d.objects i a d.variables 0 (λ q. absurd (omega (q, l, c, few, arith))) in let z = get_or-set_other d.objects i j d.variables 0 (λ q. absurd (omega (q, c, few, arith))) in let low = h.rising a j l c in omega (y, z, low, arith);
        result_apart = λ j l e. let y = get_or-set_other d.objects i j d.variables 0 (λ q. absurd (omega (q, l, few, arith))) in let low = h.below j l in absurd (omega (y, low, e, same, arith));
      },
      tt,
    ))

-- ---- regions

-- the path that a call leads to
pub record IsCallee (w : Place) (j f : ℕ) : Type 0 where
  pub behind : w.context.path < j
  pub there : j < w.paths
  pub function : w.function j ≡ f

laid_entered : (w : Place) → Proper w → (v p : ℕ) (ms : List VariableOf) (rs : List Region) (j f : ℕ) (r : Region) → IsCallee w j f → r.variables ≡ v → r.points ≡ p → v + (size_in w.context.sizes f).variables ≤ w.limit → p + (size_in w.context.sizes f).points ≤ w.last → Laid w v p ms rs
    → Laid w (v + (size_in w.context.sizes f).variables) (p + (size_in w.context.sizes f).points) ms (slice_set rs j r)
laid_entered w g v p ms rs j f r c rv rp b b2 h =
    let s = (size_in w.context.sizes f).variables in
    let new : region_at (slice_set rs j r) j ≡ r = get_or-set_same rs j r no_region (omega (h.count, c.there, arith)) in
    record {
      many = h.many;
      count = length-set rs j r ∙ h.count;
      free = λ y l m. h.free y (omega (l, arith)) m;
      pending = λ i y l q. elim (either i j) [
        | inl e ↦ let k = range i y e q in (h.free y k.0 (omega (k.1, b, arith)), omega (k.1, b, g.limit, arith), inl k.1)
        | inr o ↦ let u = h.pending i y l (old i y o q) in (u.0, u.1, elim u.2 [ inl a ↦ inl (omega (a, arith)) | inr a ↦ inr a ])
      ];
      apart = λ i k y l m x q. elim (either i j) [
        | inl e ↦ elim (either k j) [ inl e2 ↦ e ∙ sym e2 | inr o ↦ absurd (never i k y e o m x q) ]
        | inr o ↦ elim (either k j) [ inl e ↦ absurd (never k i y e o l q x) | inr o2 ↦ h.apart i k y l m (old i y o x) (old k y o2 q) ]
      ];
      behind = λ i y l q. elim (either i j) [
        | inl e ↦ inl (points i y e q).1
        | inr o ↦ elim (h.behind i y l (held i y o q)) [ inl a ↦ inl (omega (a, arith)) | inr a ↦ inr a ]
      ];
      parted = λ i k y l m x q. elim (either i j) [
        | inl e ↦ elim (either k j) [ inl e2 ↦ e ∙ sym e2 | inr o ↦ absurd (none i k y e o m x q) ]
        | inr o ↦ elim (either k j) [ inl e ↦ absurd (none k i y e o l q x) | inr o2 ↦ h.parted i k y l m (held i y o x) (held k y o2 q) ]
      ];
    }
  where
    old : (i y : ℕ) → i ≢ j → In w (slice_set rs j r) i y → In w rs i y
    old i y o q =
        let same : region_at (slice_set rs j r) i ≡ region_at rs i = get_or-set_other rs j i r no_region o in
        record {
          kept = subst (λ (x : Region). 0 < x.points) same q.kept;
          from = subst (λ (x : Region). x.variables ≤ y) same q.from;
          to = subst (λ (x : Region). y < x.variables + (size_in w.context.sizes (w.function i)).variables) same q.to;
        }

    held : (i y : ℕ) → i ≢ j → Holds w (slice_set rs j r) i y → Holds w rs i y
    held i y o q =
        let same : region_at (slice_set rs j r) i ≡ region_at rs i = get_or-set_other rs j i r no_region o in
        record {
          kept = subst (λ (x : Region). 0 < x.points) same q.kept;
          from = subst (λ (x : Region). x.points ≤ y) same q.from;
          to = subst (λ (x : Region). y < x.points + (size_in w.context.sizes (w.function i)).points) same q.to;
        }

    range : (i y : ℕ) → i ≡ j → In w (slice_set rs j r) i y → (v ≤ y) × (y < v + (size_in w.context.sizes f).variables)
    range i y e q =
        let is : (region_at (slice_set rs j r) i).variables ≡ v = ap (λ (x : ℕ). (region_at (slice_set rs j r) x).variables) e ∙ (ap (λ (x : Region). x.variables) (get_or-set_same rs j r no_region (omega (h.count, c.there, arith))) ∙ rv) in
        let size : (size_in w.context.sizes (w.function i)).variables ≡ (size_in w.context.sizes f).variables = ap (λ (x : ℕ). (size_in w.context.sizes (w.function x)).variables) e ∙ ap (λ (x : ℕ). (size_in w.context.sizes x).variables) c.function in
        (omega (is, q.from, arith), omega (is, size, q.to, arith))

    points : (i y : ℕ) → i ≡ j → Holds w (slice_set rs j r) i y → (p ≤ y) × (y < p + (size_in w.context.sizes f).points)
    points i y e q =
        let is : (region_at (slice_set rs j r) i).points ≡ p = ap (λ (x : ℕ). (region_at (slice_set rs j r) x).points) e ∙ (ap (λ (x : Region). x.points) (get_or-set_same rs j r no_region (omega (h.count, c.there, arith))) ∙ rp) in
        let size : (size_in w.context.sizes (w.function i)).points ≡ (size_in w.context.sizes f).points = ap (λ (x : ℕ). (size_in w.context.sizes (w.function x)).points) e ∙ ap (λ (x : ℕ). (size_in w.context.sizes x).points) c.function in
        (omega (is, q.from, arith), omega (is, size, q.to, arith))

    never : (i k y : ℕ) → i ≡ j → k ≢ j → w.context.path < k → In w (slice_set rs j r) i y → In w (slice_set rs j r) k y → ⊥
    never i k y e o m x q =
        let a = range i y e x in
        elim (h.pending k y m (old k y o q)).2 [ inl l ↦ absurd (omega (l, a.0, arith)) | inr l ↦ absurd (omega (l, a.1, b, arith)) ]

    none : (i k y : ℕ) → i ≡ j → k ≢ j → w.context.path < k → Holds w (slice_set rs j r) i y → Holds w (slice_set rs j r) k y → ⊥
    none i k y e o m x q =
        let a = points i y e x in
        elim (h.behind k y m (held k y o q)) [ inl l ↦ absurd (omega (l, a.0, arith)) | inr l ↦ absurd (omega (l, a.1, b2, arith)) ]

pub entered_promised : (w : Place) (m : ℕ) (f : ℕ) (d : D w) → IsCallee w (w.context.first + m) f → Before w m (m + 1) d → RegionsForeseen w (entered (w.context.first + m) (size_in w.context.sizes f) d).regions
    → Promised w (w.context.first + m) f d.variables × (d.points < w.points)
entered_promised w m f d c b z =
    let j = w.context.first + m in
    let r : Region = record { at = d.point; points = d.points; variables = d.variables } in
    let new : region_at (slice_set d.regions j r) j ≡ r = get_or-set_same d.regions j r no_region (omega (b.laid.count, c.there, arith)) in
    subst (λ (x : ℕ). Promised w j x d.variables × (d.points < w.points)) c.function (subst (λ (x : Region). Promised w j (w.function j) x.variables × (x.points < w.points)) new (z j c.behind (subst (λ (x : Region). 0 < x.points) (sym new) b.positive)))

entered_made : (w : Place) → Proper w → (m : ℕ) (f : ℕ) (d : D w) → IsCallee w (w.context.first + m) f → 0 < d.points → w.files ≤ d.variables → Below w (entered (w.context.first + m) (size_in w.context.sizes f) d)
    → IsMade w (w.context.first + m) (record { at = d.point; points = d.points; variables = d.variables })
entered_made w g m f d c p q y =
    let size : size_in w.context.sizes (w.function (w.context.first + m)) ≡ size_in w.context.sizes f = ap (size_in w.context.sizes) c.function in
    record {
      kept = p;
      points = subst (λ (z : Size). d.points + z.points ≤ w.points) (sym size) y.1;
      variables = subst (λ (z : Size). d.variables + z.variables ≤ length w.kinds) (sym size) (omega (y.0, g.limit, arith));
      files = q;
    }

entered_places : (w : Place) (rs : List Region) (j : ℕ) (r : Region) → j < length rs → r.at < w.points → PlacesAre w rs → PlacesAre w (slice_set rs j r)
entered_places w rs j r l a h i k = elim (either i j) [
  | inl e ↦ subst (λ (x : ℕ). (region_at (slice_set rs j r) x).at < w.points) (sym e) (subst (λ (x : Region). x.at < w.points) (sym (get_or-set_same rs j r no_region l)) a)
  | inr o ↦ let same : region_at (slice_set rs j r) i ≡ region_at rs i = get_or-set_other rs j i r no_region o in subst (λ (x : Region). x.at < w.points) (sym same) (h i (subst (λ (x : Region). 0 < x.points) same k))
]

pub entered_step : (w : Place) → Proper w → (m : ℕ) (s : Stage) (f : ℕ) (d : D w) → IsCallee w (w.context.first + m) f
    → Step w m (m + 1) s s d (entered (w.context.first + m) (size_in w.context.sizes f) d) (Unit {0}) (Promised w (w.context.first + m) f d.variables)
entered_step w g m s f d c =
    let j = w.context.first + m in
    let r : Region = record { at = d.point; points = d.points; variables = d.variables } in
    record {
      order = omega arith;
      variables = omega arith;
      points = omega arith;
      scopes = same_scopes _ _ refl;
      after = λ b y. record {
        laid = laid_entered w g d.variables d.points d.made d.regions j f r c refl refl y.0 y.2 b.laid;
        same = λ i q. get_or-set_other d.regions j i r no_region (λ e. elim q [ inl a ↦ absurd (omega (e, a, arith)) | inr a ↦ absurd (omega (e, a, arith)) ]);
        made = λ i a l. let is : i ≡ m = omega (a, l, arith) in
            subst (λ (x : ℕ). IsMade w (w.context.first + x) (region_at (slice_set d.regions j r) (w.context.first + x))) (sym is) (subst (IsMade w j) (sym (get_or-set_same d.regions j r no_region (omega (b.laid.count, c.there, arith)))) (entered_made w g m f d c b.positive b.files y));
        low = λ i l. refl;
        old = λ i k e. refl;
        slots = refl;
      };
      objects = λ b y z. objects_before w s d.variables (d.variables + (size_in w.context.sizes f).variables) d.objects (omega arith) z;
      before = λ b y z. record {
        made = z.made;
        objects = objects_before w s d.variables (d.variables + (size_in w.context.sizes f).variables) d.objects (omega arith) z.objects;
        edges = z.edges;
        regions = λ i l k. let other : i ≢ j = λ e. absurd (b.not_made m (omega arith) (omega arith) (subst (IsKept d.regions) e k)) in
            let same : region_at (slice_set d.regions j r) i ≡ region_at d.regions i = get_or-set_other d.regions j i r no_region other in
            subst (λ (x : Region). Promised w i (w.function i) x.variables × (x.points < w.points)) same (z.regions i l (subst (λ (x : Region). 0 < x.points) (sym same) k));
      };
      typed = λ b y z t q. (
        record { names = t.names; point = (entered_promised w m f d c b z.regions).1; here = t.here; scope = t.scope; chain = t.chain; labels = t.labels; scopes = t.scopes; starts = t.starts; zeros = t.zeros; edges = t.edges; objects = objects_later w s d.variables (d.variables + (size_in w.context.sizes f).variables) d.objects (omega arith) t.objects; places = entered_places w d.regions j r (omega (b.laid.count, c.there, arith)) t.point t.places },
        (entered_promised w m f d c b z.regions).0,
      );
    }
