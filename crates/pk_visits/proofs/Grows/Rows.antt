-- What the rows of expressions add to a draft.
use Rattle.std.proofs.Common.{◌≡◌, ℕ, ◌+◌, ◌<◌, ◌≤◌, ◌⊎◌, List, [], ◌∷◌, length, Bool, true, false, if◌then◌else◌, refl, sym, ap, ◌∙◌, subst, inl, inr, arith, ◌≢◌}
use Rattle.std.specs.Prelude.{pos, slice_set}
use Rattle.std.proofs.lemmas.List.{get_or-set_same, get_or-set_other, set_past, length-set}
use Rattle.pk_ctypes.specs.declared.types.IntType.{IntType}
use Rattle.pk_ctypes.specs.declared.types.IntType.TheVariants.{Int}
use Rattle.pk_ctypes.specs.declared.types.Op.{Op}
use Rattle.pk_ctypes.specs.Operators.{result_type, is_not}
use Rattle.pk_graph.specs.declared.trees.Site.{Site}
use Rattle.pk_graph.specs.Graphs.{VariableOf, no_variable}
use Rattle.pk_graph.specs.Trees.{TreeOf, constant, variable, ArrayOf, Set, Havoc, Load, Guard}
use Rattle.pk_draft.specs.declared.drafts.Size.{Size}
use Rattle.pk_draft.specs.declared.drafts.Label.{Label}
use Rattle.pk_draft.specs.declared.drafts.Region.{Region}
use Rattle.pk_draft.specs.Drafts.{Names, Given, at, fresh, with_temporary, next_temporary, link, emit, stored, no_label, no_region, entered}
use Rattle.pk_draft.specs.Folding.{conversion}
use Rattle.pk_lower_row.specs.declared.shapes.Shape.{Shape}
use Rattle.pk_lower_row.specs.declared.shapes.Shape.TheVariants.{Fixed, Named, Temporary}
use Rattle.pk_lower_row.specs.declared.shapes.Waiting.{Waiting}
use Rattle.pk_lower_row.specs.declared.shapes.Waiting.TheVariants.{Weak}
use Rattle.pk_lower_row.specs.Shapes.{is_plain, stays, strong_if, strong_or_weak}
use Rattle.pk_lower_row.specs.Rows as rows
use Rattle.pk_lower_row.specs.Rows.{Ways, Operand, Target, scalar, element, Two, Passed, stored_unless, held, two, one}
use Rattle.pk_visits.proofs.Slots.{Slot, Draft, Instr, Edge, Takes, Divided, KeepsBy, Grows, Never, Same, Scoping, front_among, label_at, region_at}

pub grows_refl : (C : ℕ → Size → Type 0) (d : Draft) → Grows C d d
grows_refl C d = record {
  edges = λ e h. h;
  names = refl;
  variables = omega arith;
  points = omega arith;
  size = refl;
  labels = λ n h. inr refl;
  beyond = λ n h. inr refl;
  regions = λ k. inr refl;
  apart = λ j k n. inl refl;
  paths = refl;
  scopes = λ n z h. h;
  here = refl;
  many = refl;
  made = λ n h. refl;
  unmade = λ n h. refl;
  slots = refl;
  objects = λ n. inr refl;
}

linked : {A : Type 0} {P : Type 0} {x y z : A} → P ⊎ (y ≡ x) → P ⊎ (z ≡ y) → P ⊎ (z ≡ x)
linked (inl h) b = inl h
linked (inr a) (inl h) = inl h
linked (inr a) (inr b) = inr (b ∙ a)

-- a region that is taken before is taken still
pub taken : {C : Size → Type 0} {p q r v w x : ℕ} {f g h : Region} → p ≤ q → q ≤ r → v ≤ w → w ≤ x → Takes C p q v w g ⊎ (g ≡ f) → Takes C q r w x h ⊎ (h ≡ g) → Takes C p r v x h ⊎ (h ≡ f)
taken a b m n k (inl (s, c, i, j, y, z)) = inl (s, c, omega (arith, a, i), j, omega (arith, m, y), z)
taken {C} {p} {q} {r} {v} {w} {x} {f} {g} {h} a b m n (inl (s, c, i, j, y, z)) (inr e) =
    inl (subst (Takes C p r v x) (sym e) (s, c, i, omega (arith, b, j), y, omega (arith, n, z)))
taken a b m n (inr d) (inr e) = inr (e ∙ d)

-- regions that are taken one after the other don't overlap
pub divided : {C D : Size → Type 0} {p q r v w x : ℕ} (f g h i j l : Region) → Takes C p q v w g ⊎ (g ≡ f) → Takes C q r w x h ⊎ (h ≡ g) → Takes D p q v w j ⊎ (j ≡ i) → Takes D q r w x l ⊎ (l ≡ j)
    → (g ≡ f) ⊎ (j ≡ i) ⊎ Divided C D g j → (h ≡ g) ⊎ (l ≡ j) ⊎ Divided C D h l → (h ≡ f) ⊎ (l ≡ i) ⊎ Divided C D h l
divided f g h i j l a b c d e (inr (inr n)) = inr (inr n)
divided f g h i j l (inl (s, m, a1, a2, a3, a4)) b c (inl (z, n, d1, d2, d3, d4)) e (inl y) =
    let yp = ap (λ (o : Region). o.points) y in
    let yv = ap (λ (o : Region). o.variables) y in
    inr (inr (s, z, m, n, inl (omega (arith, a2, d1, yp), omega (arith, a4, d3, yv))))
divided f g h i j l (inr a) b c (inl d) e (inl y) = inl (y ∙ a)
divided f g h i j l a b c (inr d) (inl e) (inl y) = inl (y ∙ e)
divided f g h i j l a b c (inr d) (inr (inl e)) (inl y) = inr (inl (d ∙ e))
divided {C} {D} f g h i j l a b c (inr d) (inr (inr e)) (inl y) = inr (inr (subst (λ o. Divided C D o l) (sym y) (subst (λ o. Divided C D g o) (sym d) e)))
divided f g h i j l a (inl (s, m, b1, b2, b3, b4)) (inl (z, n, c1, c2, c3, c4)) d e (inr (inl y)) =
    let yp = ap (λ (o : Region). o.points) y in
    let yv = ap (λ (o : Region). o.variables) y in
    inr (inr (s, z, m, n, inr (omega (arith, c2, b1, yp), omega (arith, c4, b3, yv))))
divided f g h i j l a (inl b) (inr c) d e (inr (inl y)) = inr (inl (y ∙ c))
divided f g h i j l a (inr b) c d (inl e) (inr (inl y)) = inl (b ∙ e)
divided f g h i j l a (inr b) c d (inr (inl e)) (inr (inl y)) = inr (inl (y ∙ e))
divided {C} {D} f g h i j l a (inr b) c d (inr (inr e)) (inr (inl y)) = inr (inr (subst (λ o. Divided C D o l) (sym b) (subst (λ o. Divided C D g o) (sym y) e)))

-- what is said of the paths that are called may be more
pub loosened : {R : Label → Label → Type 0} {M S : ℕ → Type 0} {C D : ℕ → Size → Type 0} {es fs : List Edge} {ns ms : Names Slot} {v w p q : ℕ} {ls ks : List Label} {rs ts : List Region} {aa bb : Scoping} {h i : Label} {xs ys : List VariableOf} {ps qs : List ℕ}
    → ((k : ℕ) (s : Size) → C k s → D k s) → KeepsBy R M S C es ns v p ls rs aa h xs ps fs ms w q ks ts bb i ys qs → KeepsBy R M S D es ns v p ls rs aa h xs ps fs ms w q ks ts bb i ys qs
loosened {ts = ts} t a = record {
  edges = a.edges;
  names = a.names;
  variables = a.variables;
  points = a.points;
  size = a.size;
  labels = a.labels;
  beyond = a.beyond;
  regions = λ k. more (region_at ts k) (t k) (a.regions k);
  apart = λ j k n. still (region_at ts j) (region_at ts k) (t j) (t k) (a.apart j k n);
  paths = a.paths;
  scopes = a.scopes;
  here = a.here;
  many = a.many;
  made = a.made;
  unmade = a.unmade;
  slots = a.slots;
  objects = a.objects;
} where
  more : {C D : Size → Type 0} {p q v w : ℕ} {A : Type 0} (r : Region) → ((s : Size) → C s → D s) → Takes C p q v w r ⊎ A → Takes D p q v w r ⊎ A
  more r t (inl (s, c, i, j, y, z)) = inl (s, t s c, i, j, y, z)
  more r t (inr e) = inr e

  still : {C D E F : Size → Type 0} {A B : Type 0} (r o : Region) → ((s : Size) → C s → E s) → ((s : Size) → D s → F s) → A ⊎ B ⊎ Divided C D r o → A ⊎ B ⊎ Divided E F r o
  still r o t u (inl e) = inl e
  still r o t u (inr (inl e)) = inr (inl e)
  still r o t u (inr (inr (s, z, c, d, n))) = inr (inr (s, z, t s c, u z d, n))

-- one after the other
pub keeps_trans : {R : Label → Label → Type 0} {M S : ℕ → Type 0} {C : ℕ → Size → Type 0} {es fs gs : List Edge} {ns ms os : Names Slot} {v w x p q r : ℕ} {ls ks js : List Label} {rs ts us : List Region} {aa bb cc : Scoping} {h i j : Label} {xs ys zs : List VariableOf} {ps qs bs : List ℕ}
    → (R h i → R i j → R h j) → KeepsBy R M S C es ns v p ls rs aa h xs ps fs ms w q ks ts bb i ys qs → KeepsBy R M S C fs ms w q ks ts bb i ys qs gs os x r js us cc j zs bs → KeepsBy R M S C es ns v p ls rs aa h xs ps gs os x r js us cc j zs bs
keeps_trans {rs = rs} {ts = ts} {us = us} t a b = record {
  edges = λ e h. b.edges e (a.edges e h);
  names = b.names ∙ a.names;
  variables = let m = a.variables in let n = b.variables in omega (arith, m, n);
  points = let m = a.points in let n = b.points in omega (arith, m, n);
  size = b.size ∙ a.size;
  labels = λ n h. linked (a.labels n h) (b.labels n (let m = a.points in omega (arith, h, m)));
  beyond = λ n h. linked (a.beyond n (let m = b.points in omega (arith, h, m))) (b.beyond n h);
  regions = λ k. taken a.points b.points a.variables b.variables (a.regions k) (b.regions k);
  apart = λ j k n. divided (region_at rs j) (region_at ts j) (region_at us j) (region_at rs k) (region_at ts k) (region_at us k) (a.regions j) (b.regions j) (a.regions k) (b.regions k) (a.apart j k n) (b.apart j k n);
  paths = b.paths ∙ a.paths;
  scopes = λ n z h. b.scopes n z (a.scopes n z h);
  here = t a.here b.here;
  many = b.many ∙ a.many;
  made = λ n h. b.made n (let m = a.variables in omega (arith, h, m)) ∙ a.made n h;
  unmade = λ n h. b.unmade n h ∙ a.unmade n (let m = b.variables in omega (arith, h, m));
  slots = b.slots ∙ a.slots;
  objects = λ n. linked (a.objects n) (b.objects n);
}

pub grows_trans : {C : ℕ → Size → Type 0} {es fs gs : List Edge} {ns ms os : Names Slot} {v w x p q r : ℕ} {ls ks js : List Label} {rs ts us : List Region} {aa bb cc : Scoping} {h i j : Label} {xs ys zs : List VariableOf} {ps qs bs : List ℕ}
    → KeepsBy Same Never Never C es ns v p ls rs aa h xs ps fs ms w q ks ts bb i ys qs → KeepsBy Same Never Never C fs ms w q ks ts bb i ys qs gs os x r js us cc j zs bs → KeepsBy Same Never Never C es ns v p ls rs aa h xs ps gs os x r js us cc j zs bs
grows_trans a b = keeps_trans (λ m n. n ∙ m) a b

other : (p n : ℕ) → n < p → n ≢ p
other p n h e = absurd (omega (arith, h, e))

-- a label that is set at a new point, and at the next ones, leaves the others
pub new_label : (M : ℕ → Type 0) (ls : List Label) (p q : ℕ) (l : Label) → p ≤ q → (n : ℕ) → n < p → M n ⊎ (label_at (slice_set ls q l) n ≡ label_at ls n)
new_label M ls p q l le n h = inr (get_or-set_other ls q n l no_label (other q n (omega (arith, le, h))))

-- and those behind it
beyond_label : (M : ℕ → Type 0) (ls : List Label) (q : ℕ) (l : Label) (n : ℕ) → q + 1 ≤ n → M n ⊎ (label_at (slice_set ls q l) n ≡ label_at ls n)
beyond_label M ls q l n h = inr (get_or-set_other ls q n l no_label (λ e. absurd (omega (arith, h, e))))

pub link_grows : (C : ℕ → Size → Type 0) (i : Instr) (q : ℕ) (d : Draft) → Grows C d (link i q d)
link_grows C i q d = record {
  edges = λ e h. front_among d.edges _ e h;
  names = refl;
  variables = omega arith;
  points = omega arith;
  size = refl;
  labels = λ n h. inr refl;
  beyond = λ n h. inr refl;
  regions = λ k. inr refl;
  apart = λ j k n. inl refl;
  paths = refl;
  scopes = λ n z h. h;
  here = refl;
  many = refl;
  made = λ n h. refl;
  unmade = λ n h. refl;
  slots = refl;
  objects = λ n. inr refl;
}

pub emit_grows : (C : ℕ → Size → Type 0) (i : Instr) (d : Draft) → Grows C d (emit i d)
emit_grows C i d = record {
  edges = λ e h. front_among d.edges _ e h;
  names = refl;
  variables = omega arith;
  points = omega arith;
  size = length-set d.labels d.points d.here;
  labels = new_label Never d.labels d.points d.points d.here (omega arith);
  beyond = beyond_label Never d.labels d.points d.here;
  regions = λ k. inr refl;
  apart = λ j k n. inl refl;
  paths = refl;
  scopes = λ n z h. h;
  here = refl;
  many = refl;
  made = λ n h. refl;
  unmade = λ n h. refl;
  slots = refl;
  objects = λ n. inr refl;
}

pub temporary_grows : (C : ℕ → Size → Type 0) (t : IntType) (d : Draft) → Grows C d (with_temporary t d)
temporary_grows C t d = record {
  edges = λ e h. h;
  names = refl;
  variables = omega arith;
  points = omega arith;
  size = refl;
  labels = λ n h. inr refl;
  beyond = λ n h. inr refl;
  regions = λ k. inr refl;
  apart = λ j k n. inl refl;
  paths = refl;
  scopes = λ n z h. h;
  here = refl;
  many = length-set d.made d.variables _;
  made = λ n h. get_or-set_other d.made d.variables n _ no_variable (other d.variables n h);
  unmade = λ n h. get_or-set_other d.made d.variables n _ no_variable (λ e. absurd (omega (arith, h, e)));
  slots = refl;
  objects = λ n. inr refl;
}

-- an edge that writes the next temporary
pub made_grows : (C : ℕ → Size → Type 0) (i : Instr) (t : IntType) (d : Draft) → Grows C d (emit i (with_temporary t d))
made_grows C i t d = grows_trans (temporary_grows C t d) (emit_grows C i (with_temporary t d))

pub fresh_one_grows : (C : ℕ → Size → Type 0) (d : Draft) → Grows C d (fresh 1 d)
fresh_one_grows C d = record {
  edges = λ e h. h;
  names = refl;
  variables = omega arith;
  points = omega arith;
  size = length-set d.labels d.points d.here;
  labels = new_label Never d.labels d.points d.points d.here (omega arith);
  beyond = beyond_label Never d.labels d.points d.here;
  regions = λ k. inr refl;
  apart = λ j k n. inl refl;
  paths = refl;
  scopes = λ n z h. h;
  here = refl;
  many = refl;
  made = λ n h. refl;
  unmade = λ n h. refl;
  slots = refl;
  objects = λ n. inr refl;
}

-- ---- trees that wait, that aren't used, that decide

pub unless_grows : (C : ℕ → Size → Type 0) (b : Bool) (t : IntType) (r : Given Slot) → Grows C r.1 (stored_unless b t r).1
unless_grows C true t r = grows_refl C r.1
unless_grows C false t r = made_grows C (Set (next_temporary r.1) r.0) t r.1

pub held_grows : (C : ℕ → Size → Type 0) (how : Waiting) (s : Shape) (t : IntType) (r : Given Slot) → Grows C r.1 (held how s t r).1
held_grows C how s t r = unless_grows C (stays how s) t r

pub dropped_grows : (C : ℕ → Size → Type 0) (s : Shape) (t : IntType) (r : Given Slot) → Grows C r.1 (rows.dropped s t r)
dropped_grows C s t r = unless_grows C (is_plain s) t r

pub guards_grow : (C : ℕ → Size → Type 0) (p q : ℕ) (r : Given Slot) → Grows C r.1 (rows.guards p q r)
guards_grow C p q r = grows_trans (link_grows C (Guard r.0 true) p r.1) (link_grows C (Guard r.0 false) q (link (Guard r.0 true) p r.1))

abbrev pub Gives : (C : ℕ → Size → Type 0) → (Draft → Given Slot) → Type 0
Gives C f = (d : Draft) → Grows C d (f d).1

abbrev pub Makes : (C : ℕ → Size → Type 0) → (Draft → Draft) → Type 0
Makes C f = (d : Draft) → Grows C d (f d)

abbrev pub Chooses : (C : ℕ → Size → Type 0) → ((p q : ℕ) → Draft → Draft) → Type 0
Chooses C f = (p q : ℕ) (d : Draft) → Grows C d (f p q d)

pub record WaysGrow (C : ℕ → Size → Type 0) (w : Ways Slot) : Type 0 where
  pub value : Gives C w.value
  pub choice : Chooses C w.choice
  pub unused : Makes C w.unused

pub both : (C : ℕ → Size → Type 0) (f : Draft → Given Slot) (g : Draft → Draft) → Gives C f → Makes C g → WaysGrow C (rows.by_both f g)
both C f g a b = record { value = a; choice = λ p q d. grows_trans (a d) (guards_grow C p q (f d)); unused = b }

pub valuing : (C : ℕ → Size → Type 0) (s : Shape) (t : IntType) (f : Draft → Given Slot) → Gives C f → WaysGrow C (rows.by_value s t f)
valuing C s t f a = both C f (λ d. rows.dropped s t (f d)) a (λ d. grows_trans (a d) (dropped_grows C s t (f d)))

pub choosing : (C : ℕ → Size → Type 0) (s : Shape) (t : IntType) (f : Draft → Given Slot) (g : (p q : ℕ) → Draft → Draft) → Gives C f → Chooses C g → WaysGrow C (rows.by_choice s t f g)
choosing C s t f g a b = record { value = a; choice = b; unused = λ d. grows_trans (a d) (dropped_grows C s t (f d)) }

pub one_grows : (C : ℕ → Size → Type 0) → WaysGrow C (one {V = Slot}).ways
one_grows C = valuing C (one {V = Slot}).shape Int (λ d. (constant Int (pos 1), d)) (grows_refl C)

pub zero_grows : (C : ℕ → Size → Type 0) → WaysGrow C (rows.zero_ways {V = Slot})
zero_grows C = valuing C (Fixed (pos 0)) Int (λ d. (constant Int (pos 0), d)) (grows_refl C)

-- ---- two operands, and elements

pub two_grows : (C : ℕ → Size → Type 0) (how : Waiting) (a b : Operand Slot) → WaysGrow C a.ways → WaysGrow C b.ways → (d : Draft) → Grows C d (two how a b d).draft
two_grows C how a b x y d =
    let k = held how a.shape a.int_type (a.ways.value d) in
    grows_trans (x.value d) (grows_trans (held_grows C how a.shape a.int_type (a.ways.value d)) (y.value k.1))

pub loaded_after_grows : (C : ℕ → Size → Type 0) (t : IntType) (s : Site) (a : ArrayOf Slot) (shape : Shape) (u : IntType) (p : Two Slot) → Grows C p.draft (rows.loaded_after t s a shape u p).draft
loaded_after_grows C t s a shape u p =
    let k = held Weak shape u (p.second, p.draft) in
    grows_trans (held_grows C Weak shape u (p.second, p.draft)) (made_grows C (Load (next_temporary k.1) a s true p.first) t k.1)

pub loaded_grows : (C : ℕ → Size → Type 0) (t : IntType) (s : Site) (a : ArrayOf Slot) (i e : Operand Slot) → WaysGrow C i.ways → WaysGrow C e.ways → (d : Draft) → Grows C d (rows.loaded t s a i e d).draft
loaded_grows C t s a i e x y d =
    let p = two (strong_or_weak e.makes) i e d in
    grows_trans (two_grows C (strong_or_weak e.makes) i e x y d) (loaded_after_grows C t s a e.shape e.int_type p)

-- what is read or assigned
abbrev pub TargetGrows : (C : ℕ → Size → Type 0) → Target Slot → Type 0
TargetGrows C (scalar t x) = Unit {0}
TargetGrows C (element t s a i) = WaysGrow C i.ways

pub reading : (C : ℕ → Size → Type 0) (x : Target Slot) → TargetGrows C x → WaysGrow C (rows.read_ways x)
reading C (scalar t x) h = valuing C (Named) t (λ d. (variable (x d), d)) (grows_refl C)
reading C (element t s a i) h =
    valuing C (Temporary) t (λ d. rows.element_value t s (a d) i d)
    (λ d. let r = i.ways.value d in grows_trans (h.value d) (made_grows C (Load (next_temporary r.1) (a d) s true r.0) t r.1))

pub assigning : (C : ℕ → Size → Type 0) (x : Target Slot) (e : Operand Slot) → TargetGrows C x → WaysGrow C e.ways → WaysGrow C (rows.assign_ways x e)
assigning C (scalar t x) e h k =
    valuing C (Named) t (λ d. (variable (x d), rows.set_after t e.int_type (x d) (e.ways.value d)))
    (λ d. let r = e.ways.value d in grows_trans (k.value d) (emit_grows C _ r.1))
assigning C (element t s a i) e h k = both C (λ d. rows.put_used t s (a d) i e d) (λ d. rows.put_unused t s (a d) i e d)
    (λ d. let p = two (strong_or_weak e.makes) i e d in
    let v = stored t (conversion e.int_type t p.second) p.draft in
    grows_trans (two_grows C (strong_or_weak e.makes) i e h k d) (grows_trans (made_grows C _ t p.draft) (emit_grows C _ v.1)))
    (λ d. let p = two (strong_if e.makes) i e d in grows_trans (two_grows C (strong_if e.makes) i e h k d) (emit_grows C _ p.draft))

pub updating : (C : ℕ → Size → Type 0) (op : Op) (s : Site) (o : IntType) (x : Target Slot) (e : Operand Slot) → TargetGrows C x → WaysGrow C e.ways → WaysGrow C (rows.update_ways op s o x e)
updating C op s o (scalar t x) e h k =
    valuing C (Named) t (λ d. (variable (x d), rows.update_scalar op s o t (x d) e d))
    (λ d. let r = e.ways.value d in grows_trans (k.value d) (emit_grows C _ r.1))
updating C op s o (element t r a i) e h k = both C
    (λ d. rows.renew_used op s o t r (a d) e.int_type (rows.loaded t r (a d) i e d))
    (λ d. rows.renew_unused op s o t r (a d) e.int_type (rows.loaded t r (a d) i e d))
    (λ d. let p = rows.loaded t r (a d) i e d in
    let v = stored t (rows.renewed_tree op s o t e.int_type p) p.draft in
    grows_trans (loaded_grows C t r (a d) i e h k d) (grows_trans (made_grows C _ t p.draft) (emit_grows C _ v.1)))
    (λ d. grows_trans (loaded_grows C t r (a d) i e h k d) (emit_grows C _ (rows.loaded t r (a d) i e d).draft))

pub after_grows : (C : ℕ → Size → Type 0) (op : Op) (s : Site) (o : IntType) (x : Target Slot) → TargetGrows C x → WaysGrow C (rows.after_ways op s o x)
after_grows C op s o (scalar t x) h = both C (λ d. rows.after_scalar op s o t (x d) d) (λ d. rows.update_scalar op s o t (x d) one d)
    (λ d. let r = stored t (variable (x d)) d in grows_trans (made_grows C _ t d) (emit_grows C _ r.1)) (λ d. emit_grows C _ d)
after_grows C op s o (element t r a i) h = both C
    (λ d. rows.after_element op s o t r (a d) i d)
    (λ d. rows.renew_unused op s o t r (a d) Int (rows.loaded t r (a d) i one d))
    (λ d. grows_trans (loaded_grows C t r (a d) i one h (one_grows C) d) (emit_grows C _ (rows.loaded t r (a d) i one d).draft))
    (λ d. grows_trans (loaded_grows C t r (a d) i one h (one_grows C) d) (emit_grows C _ (rows.loaded t r (a d) i one d).draft))

pub stepping : (C : ℕ → Size → Type 0) (op : Op) (s : Site) (o : IntType) (x : Target Slot) (prefix : Bool) → TargetGrows C x → WaysGrow C (rows.step_ways op s o x prefix)
stepping C op s o x true h = updating C op s o x one h (one_grows C)
stepping C op s o x false h = after_grows C op s o x h

-- ---- operators

pub havocking : (C : ℕ → Size → Type 0) (t : IntType) → WaysGrow C (rows.by_value (Temporary) t (rows.any_value t))
havocking C t = valuing C Temporary t (rows.any_value t) (λ d. made_grows C (Havoc (next_temporary d) t 1) t d)

pub converting : (C : ℕ → Size → Type 0) (t : IntType) (a : Operand Slot) → WaysGrow C a.ways → WaysGrow C (rows.convert_ways t a)
converting C t a h = valuing C _ t (rows.convert_value t a) (λ d. h.value d)

unary_choosing : (C : ℕ → Size → Type 0) (b : Bool) (e f : Draft) (d : Draft) → Grows C d e → Grows C d f → Grows C d (if b then e else f)
unary_choosing C true e f d a b = a
unary_choosing C false e f d a b = b

pub unary_grows : (C : ℕ → Size → Type 0) (op : Op) (s : Site) (t : IntType) (a : Operand Slot) → WaysGrow C a.ways → WaysGrow C (rows.unary_ways op s t a)
unary_grows C op s t a h = choosing C _ (result_type op t) (rows.unary_value op s t a) (rows.unary_choice op s t a) (λ d. h.value d)
    (λ p q d. unary_choosing C (is_not op) (a.ways.choice q p d) (rows.guards p q (rows.unary_value op s t a d)) d (h.choice q p d)
    (grows_trans (h.value d) (guards_grow C p q (rows.unary_value op s t a d))))

pub binary_grows : (C : ℕ → Size → Type 0) (op : Op) (s : Site) (t : IntType) (a b : Operand Slot) → WaysGrow C a.ways → WaysGrow C b.ways → WaysGrow C (rows.binary_ways op s t a b)
binary_grows C op s t a b x y = valuing C _ (result_type op t) (rows.binary_value op s t a b) (λ d. two_grows C (strong_if b.makes) a b x y d)

pub and_grows : (C : ℕ → Size → Type 0) (a b : Ways Slot) → WaysGrow C a → WaysGrow C b → Chooses C (rows.and_choice a b)
and_grows C a b x y p q d =
    let e = a.choice d.points q (fresh 1 d) in
    grows_trans (fresh_one_grows C d) (grows_trans (x.choice d.points q (fresh 1 d)) (y.choice p q (at d.points e)))

pub or_grows : (C : ℕ → Size → Type 0) (a b : Ways Slot) → WaysGrow C a → WaysGrow C b → Chooses C (rows.or_choice a b)
or_grows C a b x y p q d =
    let e = a.choice p d.points (fresh 1 d) in
    grows_trans (fresh_one_grows C d) (grows_trans (x.choice p d.points (fresh 1 d)) (y.choice p q (at d.points e)))

pub fresh_three_grows : (C : ℕ → Size → Type 0) (d : Draft) → Grows C d (fresh 3 d)
fresh_three_grows C d = record {
  edges = λ e h. h;
  names = refl;
  variables = omega arith;
  points = omega arith;
  size = length-set _ (d.points + 1 + 1) d.here ∙ length-set _ (d.points + 1) d.here ∙ length-set d.labels d.points d.here;
  labels = λ n h. linked (new_label Never d.labels d.points d.points d.here (omega arith) n h)
      (linked (new_label Never _ d.points (d.points + 1) d.here (omega arith) n h) (new_label Never _ d.points (d.points + 1 + 1) d.here (omega arith) n h));
  beyond = λ n h. linked (beyond_label Never d.labels d.points d.here n (omega (arith, h)))
      (linked (beyond_label Never _ (d.points + 1) d.here n (omega (arith, h))) (beyond_label Never _ (d.points + 1 + 1) d.here n (omega (arith, h))));
  regions = λ k. inr refl;
  apart = λ j k n. inl refl;
  paths = refl;
  scopes = λ n z h. h;
  here = refl;
  many = refl;
  made = λ n h. refl;
  unmade = λ n h. refl;
  slots = refl;
  objects = λ n. inr refl;
}

pub joined_grows : (C : ℕ → Size → Type 0) (t : IntType) (choice : (p q : ℕ) → Draft → Draft) (a b : Draft → Given Slot) → Chooses C choice → Gives C a → Gives C b → Gives C (rows.joined t choice a b)
joined_grows C t choice a b x y z d =
    let e = choice d.points (d.points + 1) (with_temporary t (fresh 3 d)) in
    let v = next_temporary d in
    let r = a (at d.points e) in
    let m = rows.set_between v (d.points + 2) (d.points + 1) r in
    let q = b m in
    grows_trans (fresh_three_grows C d) (grows_trans (temporary_grows C t (fresh 3 d)) (grows_trans (x d.points (d.points + 1) (with_temporary t (fresh 3 d)))
    (grows_trans (y (at d.points e)) (grows_trans (link_grows C (Set v r.0) (d.points + 2) r.1) (grows_trans (z m) (link_grows C (Set v q.0) (d.points + 2) q.1))))))

pub deciding : (C : ℕ → Size → Type 0) (choice : (p q : ℕ) → Draft → Draft) → Chooses C choice → WaysGrow C (rows.truth_ways choice)
deciding C choice x =
    choosing C Temporary Int (rows.truth_value choice) choice
    (joined_grows C Int choice (λ d. (constant Int (pos 1), d)) (λ d. (constant Int (pos 0), d)) x (grows_refl C) (grows_refl C)) x

pub conditional_grows : (C : ℕ → Size → Type 0) (t : IntType) (c : Ways Slot) (a b : Operand Slot) → WaysGrow C c → WaysGrow C a.ways → WaysGrow C b.ways → WaysGrow C (rows.conditional_ways t c a b)
conditional_grows C t c a b x y z =
    valuing C Temporary t (rows.joined t c.choice (rows.convert_value t a) (rows.convert_value t b))
    (joined_grows C t c.choice (rows.convert_value t a) (rows.convert_value t b) x.choice (λ d. y.value d) (λ d. z.value d))

pub then_grows : (C : ℕ → Size → Type 0) (f : Draft → Draft) (w : Ways Slot) → Makes C f → WaysGrow C w → WaysGrow C (rows.then_ways f w)
then_grows C f w x y = record {
  value = λ d. grows_trans (x d) (y.value (f d));
  choice = λ p q d. grows_trans (x d) (y.choice p q (f d));
  unused = λ d. grows_trans (x d) (y.unused (f d));
}

pub assuming : (C : ℕ → Size → Type 0) (w : Ways Slot) → WaysGrow C w → Makes C (rows.assumed w)
assuming C w x d = grows_trans (fresh_one_grows C d) (x.choice d.points 0 (fresh 1 d))

-- ---- calls

pub bound_grows : (C : ℕ → Size → Type 0) (k i x : ℕ) (ts us : List IntType) (rs : List (TreeOf Slot)) → Makes C (rows.bound k i x ts us rs)
bound_grows C k i x [] us rs d = grows_refl C d
bound_grows C k i x (t ∷ ts) [] rs d = grows_refl C d
bound_grows C k i x (t ∷ ts) (u ∷ us) [] d = grows_refl C d
bound_grows C k i x (t ∷ ts) (u ∷ us) (r ∷ rs) d = grows_trans (emit_grows C _ d) (bound_grows C k (i + 1) (x + 1) ts us rs (emit _ d))

decided : (m n : ℕ) → (m ≡ n) ⊎ (m ≢ n)
decided ℕ.zero ℕ.zero = inl refl
decided ℕ.zero (ℕ.suc n) = inr (λ e. absurd (grind (arith, e)))
decided (ℕ.suc m) ℕ.zero = inr (λ e. absurd (grind (arith, e)))
decided (ℕ.suc m) (ℕ.suc n) = more (decided m n) where
  more : (m ≡ n) ⊎ (m ≢ n) → (ℕ.suc m ≡ ℕ.suc n) ⊎ (ℕ.suc m ≢ ℕ.suc n)
  more (inl e) = inl (ap ℕ.suc e)
  more (inr h) = inr (λ e. h (omega (arith, e)))

within : (m n : ℕ) → (m ≤ n) ⊎ (n < m)
within ℕ.zero n = inl (omega arith)
within (ℕ.suc m) ℕ.zero = inr (omega arith)
within (ℕ.suc m) (ℕ.suc n) = more (within m n) where
  more : (m ≤ n) ⊎ (n < m) → (ℕ.suc m ≤ ℕ.suc n) ⊎ (ℕ.suc n < ℕ.suc m)
  more (inl h) = inl (omega (arith, h))
  more (inr h) = inr (omega (arith, h))

-- a region that is set for a path that is called leaves the others
other_region : (C : ℕ → Size → Type 0) (rs : List Region) (k : ℕ) (s : Size) (at p v : ℕ) → C k s → (j : ℕ)
    → Takes (C j) p (p + s.points) v (v + s.variables) (region_at (slice_set rs k (record { at = at; points = p; variables = v })) j) ⊎ (region_at (slice_set rs k (record { at = at; points = p; variables = v })) j ≡ region_at rs j)
other_region C rs k s at p v c j = by (decided j k) (within (length rs) k) where
  r : Region
  r = record { at = at; points = p; variables = v }

  whole : Takes (C k) p (p + s.points) v (v + s.variables) r
  whole = (s, c, omega arith, omega arith, omega arith, omega arith)

  by : (j ≡ k) ⊎ (j ≢ k) → (length rs ≤ k) ⊎ (k < length rs) → Takes (C j) p (p + s.points) v (v + s.variables) (region_at (slice_set rs k r) j) ⊎ (region_at (slice_set rs k r) j ≡ region_at rs j)
  by m (inl le) = inr (ap (λ ts. region_at ts j) (set_past rs k r le))
  by (inl e) (inr le) =
      inl (subst (λ i. Takes (C i) p (p + s.points) v (v + s.variables) (region_at (slice_set rs k r) i)) (sym e)
      (subst (λ z. Takes (C k) p (p + s.points) v (v + s.variables) z) (sym (get_or-set_same rs k r no_region le)) whole))
  by (inr h) (inr le) = inr (get_or-set_other rs k j r no_region h)

pub entered_grows : (C : ℕ → Size → Type 0) (k : ℕ) (s : Size) → C k s → Makes C (entered k s)
entered_grows C k s c d = record {
  edges = λ e h. h;
  names = refl;
  variables = omega arith;
  points = omega arith;
  size = refl;
  labels = λ n h. inr refl;
  beyond = λ n h. inr refl;
  regions = λ j. other_region C d.regions k s d.point d.points d.variables c j;
  apart = λ i j n. only (decided i k) (decided j k) n;
  paths = length-set d.regions k _;
  scopes = λ n z h. h;
  here = refl;
  many = refl;
  made = λ n h. refl;
  unmade = λ n h. refl;
  slots = refl;
  objects = λ n. inr refl;
} where
  r : Region
  r = record { at = d.point; points = d.points; variables = d.variables }

  only : {A : Type 0} {i j : ℕ} → (i ≡ k) ⊎ (i ≢ k) → (j ≡ k) ⊎ (j ≢ k) → (i ≡ j → ⊥) → (region_at (slice_set d.regions k r) i ≡ region_at d.regions i) ⊎ (region_at (slice_set d.regions k r) j ≡ region_at d.regions j) ⊎ A
  only (inr h) f n = inl (get_or-set_other d.regions k _ r no_region h)
  only (inl e) (inr h) n = inr (inl (get_or-set_other d.regions k _ r no_region h))
  only (inl e) (inl f) n = absurd (n (e ∙ sym f))

abbrev pub PassGrows : (C : ℕ → Size → Type 0) → (Draft → Passed Slot) → Type 0
PassGrows C f = (d : Draft) → Grows C d (f d).draft

pub calling : (C : ℕ → Size → Type 0) (k : ℕ) (s : Size) (ts us : List IntType) (f : Draft → Passed Slot) → C k s → PassGrows C f → Gives C (λ d. rows.call_after k s ts us (f d))
calling C k s ts us f c x d =
    let r = f d in
    let b = rows.bound k 0 r.draft.variables ts us r.trees r.draft in
    grows_trans (x d) (grows_trans (bound_grows C k 0 r.draft.variables ts us r.trees r.draft) (entered_grows C k s c b))

pub passing : (C : ℕ → Size → Type 0) (later : Bool) (e : Operand Slot) (rest : Draft → Passed Slot) → WaysGrow C e.ways → PassGrows C rest → PassGrows C (rows.passed_before later e rest)
passing C later e rest x y d =
    let k = held (strong_if later) e.shape e.int_type (e.ways.value d) in
    grows_trans (x.value d) (grows_trans (held_grows C (strong_if later) e.shape e.int_type (e.ways.value d)) (y k.1))

pub either_way : (C : ℕ → Size → Type 0) (b : Bool) (v w : Ways Slot) → WaysGrow C v → WaysGrow C w → WaysGrow C (if b then v else w)
either_way C true v w x y = x
either_way C false v w x y = y
