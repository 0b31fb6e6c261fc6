-- The rows of expressions: the edges of each stay among its points.
use Rattle.std.proofs.Common.{◌≡◌, ℕ, ◌+◌, ◌<◌, ◌≤◌, ◌⊎◌, List, [], ◌∷◌, length, Bool, true, false, if◌then◌else◌, refl, sym, ap, subst, inl, inr, arith}
use Rattle.std.specs.Prelude.{pos, slice_set}
use Rattle.std.proofs.lemmas.List.{get_or-set_same, get_or-set_other, set_past}
use Rattle.pk_ctypes.specs.declared.types.IntType.{IntType}
use Rattle.pk_ctypes.specs.declared.types.IntType.TheVariants.{Int}
use Rattle.pk_ctypes.specs.declared.types.Op.{Op}
use Rattle.pk_ctypes.specs.Operators.{result_type, is_not}
use Rattle.pk_graph.specs.declared.trees.Site.{Site}
use Rattle.pk_graph.specs.Trees.{TreeOf, InstrOf, constant, variable, ArrayOf, Set, Havoc, Load, Guard}
use Rattle.pk_draft.specs.declared.drafts.Region.{Region}
use Rattle.pk_draft.specs.declared.drafts.Size.{Size}
use Rattle.pk_draft.specs.Drafts.{EdgeFrom, DraftOf, no_region, Given, at, fresh, with_temporary, next_temporary, link, emit, stored, entered}
use Rattle.pk_draft.specs.Folding.{conversion}
use Rattle.pk_lower_row.specs.declared.shapes.Shape.{Shape}
use Rattle.pk_lower_row.specs.declared.shapes.Shape.TheVariants.{Fixed, Named, Temporary}
use Rattle.pk_lower_row.specs.declared.shapes.Waiting.{Waiting}
use Rattle.pk_lower_row.specs.declared.shapes.Waiting.TheVariants.{Weak}
use Rattle.pk_lower_row.specs.Shapes.{is_plain, stays, strong_if, strong_or_weak}
use Rattle.pk_lower_row.specs.Rows as rows
use Rattle.pk_lower_row.specs.Rows.{Ways, Operand, Target, scalar, element, Two, Passed, stored_unless, held, two, one}
use Rattle.pk_edge_laws.specs.Edges.{IsNew, region_at, IsSame, IsTaken, SplitsBy, GoesBy, NoPoint, IsOneOf, Splits, Goes, HasPoints}
use Rattle.pk_edge_laws.proofs.Goes.{splits_from, splits_then, goes_then, reserving, going_on, one_edge, same_edges, named_more, loosened}

pub goes_trans : {V : Type 0} {z : ℕ → ℕ} {p n q m r l : ℕ} {es fs gs : List (EdgeFrom V)} {rs ts us : List Region} → GoesBy z NoPoint NoPoint p n es rs q m fs ts → GoesBy z NoPoint NoPoint q m fs ts r l gs us → GoesBy z NoPoint NoPoint p n es rs r l gs us
goes_trans a b = goes_then a b

pub splits_trans : {V : Type 0} {z : ℕ → ℕ} {N : ℕ → Type 0} {p n q m l : ℕ} {es fs gs : List (EdgeFrom V)} {rs ts us : List Region} → GoesBy z NoPoint NoPoint p n es rs q m fs ts → SplitsBy z NoPoint N q m fs ts l gs us → SplitsBy z NoPoint N p n es rs l gs us
splits_trans a b = splits_then (record { point = a.point; splits = loosened (λ x k. k) (λ x k. absurd k) a.splits }) b

pub goes_refl : {V : Type 0} {z : ℕ → ℕ} (d : DraftOf V) → Goes z d d
goes_refl {z = z} d = record { point = inl refl; splits = same_edges z NoPoint NoPoint d.point d.points d.points d.edges d.regions (omega arith) }

link_splits : {V : Type 0} {z : ℕ → ℕ} (i : InstrOf V) (q : ℕ) (d : DraftOf V) → Splits z (λ x. x ≡ q) d (link i q d)
link_splits {z = z} i q d = one_edge z NoPoint (λ x. x ≡ q) d.point d.points d.points i q d.edges d.regions (omega arith) (inl refl)

leading_to : {V : Type 0} {z : ℕ → ℕ} {p n r m l : ℕ} {es fs gs : List (EdgeFrom V)} {rs ts us : List Region} (q : ℕ) → GoesBy z NoPoint NoPoint p n es rs r m fs ts → SplitsBy z NoPoint (λ x. x ≡ q) r m fs ts l gs us → SplitsBy z NoPoint (λ x. x ≡ q) p n es rs l gs us
leading_to q a b = splits_trans a b

pub emit_goes : {V : Type 0} {z : ℕ → ℕ} (i : InstrOf V) (d : DraftOf V) → Goes z d (emit i d)
emit_goes {z = z} i d = record { point = inr (inr (omega arith, omega arith)); splits = one_edge z NoPoint NoPoint d.point d.points (d.points + 1) i d.points d.edges d.regions (omega arith) (inr (omega arith, omega arith)) }

-- an edge that writes the next temporary
pub made_goes : {V : Type 0} {z : ℕ → ℕ} (i : InstrOf V) (t : IntType) (d : DraftOf V) → Goes z d (emit i (with_temporary t d))
made_goes i t d = emit_goes i (with_temporary t d)

-- ---- trees that wait, that aren't used, that decide

pub unless_goes : {V : Type 0} {z : ℕ → ℕ} (b : Bool) (t : IntType) (r : Given V) → Goes z r.1 (stored_unless b t r).1
unless_goes true t r = goes_refl r.1
unless_goes false t r = made_goes (Set (next_temporary r.1) r.0) t r.1

pub held_goes : {V : Type 0} {z : ℕ → ℕ} (how : Waiting) (s : Shape) (t : IntType) (r : Given V) → Goes z r.1 (held how s t r).1
held_goes how s t r = unless_goes (stays how s) t r

pub dropped_goes : {V : Type 0} {z : ℕ → ℕ} (s : Shape) (t : IntType) (r : Given V) → Goes z r.1 (rows.dropped s t r)
dropped_goes s t r = unless_goes (is_plain s) t r

pub guards_split : {V : Type 0} {z : ℕ → ℕ} (p q : ℕ) (r : Given V) → Splits z (IsOneOf p q) r.1 (rows.guards p q r)
guards_split {z = z} p q r =
    let d = r.1 in
    splits_from {K = NoPoint} {L = IsOneOf p q} {M = NoPoint} {N = IsOneOf p q} (inl refl) (λ x k. k) (λ x h. h)
    (one_edge z NoPoint (IsOneOf p q) d.point d.points d.points (Guard r.0 true) p d.edges d.regions (omega arith) (inl (inl refl)))
    (one_edge z NoPoint (IsOneOf p q) d.point d.points d.points (Guard r.0 false) q (link (Guard r.0 true) p d).edges d.regions (omega arith) (inl (inr refl)))

abbrev pub Gives : {V : Type 0} → (z : ℕ → ℕ) → (DraftOf V → Given V) → Type 0
Gives {V} z f = (d : DraftOf V) → Goes z d (f d).1

abbrev pub Makes : {V : Type 0} → (z : ℕ → ℕ) → (DraftOf V → DraftOf V) → Type 0
Makes {V} z f = (d : DraftOf V) → Goes z d (f d)

abbrev pub Chooses : {V : Type 0} → (z : ℕ → ℕ) → ((p q : ℕ) → DraftOf V → DraftOf V) → Type 0
Chooses {V} z f = (p q : ℕ) (d : DraftOf V) → Splits z (IsOneOf p q) d (f p q d)

pub record WaysGo {V : Type 0} (z : ℕ → ℕ) (w : Ways V) : Type 0 where
  pub value : Gives z w.value
  pub choice : Chooses z w.choice
  pub unused : Makes z w.unused

pub both : {V : Type 0} {z : ℕ → ℕ} (f : DraftOf V → Given V) (g : DraftOf V → DraftOf V) → Gives z f → Makes z g → WaysGo z (rows.by_both f g)
both f g a b = record { value = a; choice = λ p q d. splits_trans (a d) (guards_split p q (f d)); unused = b }

pub valuing : {V : Type 0} {z : ℕ → ℕ} (s : Shape) (t : IntType) (f : DraftOf V → Given V) → Gives z f → WaysGo z (rows.by_value s t f)
valuing s t f a = both f (λ d. rows.dropped s t (f d)) a (λ d. goes_trans (a d) (dropped_goes s t (f d)))

pub choosing : {V : Type 0} {z : ℕ → ℕ} (s : Shape) (t : IntType) (f : DraftOf V → Given V) (g : (p q : ℕ) → DraftOf V → DraftOf V) → Gives z f → Chooses z g → WaysGo z (rows.by_choice s t f g)
choosing s t f g a b = record { value = a; choice = b; unused = λ d. goes_trans (a d) (dropped_goes s t (f d)) }

pub one_goes : {V : Type 0} {z : ℕ → ℕ} → WaysGo z (one {V = V}).ways
one_goes {V} = valuing (one {V = V}).shape Int (λ d. (constant Int (pos 1), d)) (goes_refl)

pub zero_goes : {V : Type 0} {z : ℕ → ℕ} → WaysGo z (rows.zero_ways {V = V})
zero_goes = valuing (Fixed (pos 0)) Int (λ d. (constant Int (pos 0), d)) (goes_refl)

-- ---- two operands, and elements

pub two_goes : {V : Type 0} {z : ℕ → ℕ} (how : Waiting) (a b : Operand V) → WaysGo z a.ways → WaysGo z b.ways → (d : DraftOf V) → Goes z d (two how a b d).draft
two_goes how a b x y d =
    let k = held how a.shape a.int_type (a.ways.value d) in
    goes_trans (x.value d) (goes_trans (held_goes how a.shape a.int_type (a.ways.value d)) (y.value k.1))

pub loaded_after_goes : {V : Type 0} {z : ℕ → ℕ} (t : IntType) (s : Site) (a : ArrayOf V) (shape : Shape) (u : IntType) (p : Two V) → Goes z p.draft (rows.loaded_after t s a shape u p).draft
loaded_after_goes t s a shape u p =
    let k = held Weak shape u (p.second, p.draft) in
    goes_trans (held_goes Weak shape u (p.second, p.draft)) (made_goes (Load (next_temporary k.1) a s true p.first) t k.1)

pub loaded_goes : {V : Type 0} {z : ℕ → ℕ} (t : IntType) (s : Site) (a : ArrayOf V) (i e : Operand V) → WaysGo z i.ways → WaysGo z e.ways → (d : DraftOf V) → Goes z d (rows.loaded t s a i e d).draft
loaded_goes t s a i e x y d =
    let p = two (strong_or_weak e.makes) i e d in
    goes_trans (two_goes (strong_or_weak e.makes) i e x y d) (loaded_after_goes t s a e.shape e.int_type p)

-- what is read or assigned
abbrev pub TargetGoes : {V : Type 0} → (z : ℕ → ℕ) → Target V → Type 0
TargetGoes z (scalar t x) = Unit {0}
TargetGoes z (element t s a i) = WaysGo z i.ways

pub reading : {V : Type 0} {z : ℕ → ℕ} (x : Target V) → TargetGoes z x → WaysGo z (rows.read_ways x)
reading (scalar t x) h = valuing Named t (λ d. (variable (x d), d)) (goes_refl)
reading (element t s a i) h =
    valuing Temporary t (λ d. rows.element_value t s (a d) i d)
    (λ d. let r = i.ways.value d in goes_trans (h.value d) (made_goes (Load (next_temporary r.1) (a d) s true r.0) t r.1))

pub assigning : {V : Type 0} {z : ℕ → ℕ} (x : Target V) (e : Operand V) → TargetGoes z x → WaysGo z e.ways → WaysGo z (rows.assign_ways x e)
assigning (scalar t x) e h k =
    valuing Named t (λ d. (variable (x d), rows.set_after t e.int_type (x d) (e.ways.value d)))
    (λ d. let r = e.ways.value d in goes_trans (k.value d) (emit_goes _ r.1))
assigning (element t s a i) e h k = both (λ d. rows.put_used t s (a d) i e d) (λ d. rows.put_unused t s (a d) i e d)
    (λ d. let p = two (strong_or_weak e.makes) i e d in
    let v = stored t (conversion e.int_type t p.second) p.draft in
    goes_trans (two_goes (strong_or_weak e.makes) i e h k d) (goes_trans (made_goes _ t p.draft) (emit_goes _ v.1)))
    (λ d. let p = two (strong_if e.makes) i e d in goes_trans (two_goes (strong_if e.makes) i e h k d) (emit_goes _ p.draft))

pub updating : {V : Type 0} {z : ℕ → ℕ} (op : Op) (s : Site) (o : IntType) (x : Target V) (e : Operand V) → TargetGoes z x → WaysGo z e.ways → WaysGo z (rows.update_ways op s o x e)
updating op s o (scalar t x) e h k =
    valuing Named t (λ d. (variable (x d), rows.update_scalar op s o t (x d) e d))
    (λ d. let r = e.ways.value d in goes_trans (k.value d) (emit_goes _ r.1))
updating op s o (element t r a i) e h k = both
    (λ d. rows.renew_used op s o t r (a d) e.int_type (rows.loaded t r (a d) i e d))
    (λ d. rows.renew_unused op s o t r (a d) e.int_type (rows.loaded t r (a d) i e d))
    (λ d. let p = rows.loaded t r (a d) i e d in
    let v = stored t (rows.renewed_tree op s o t e.int_type p) p.draft in
    goes_trans (loaded_goes t r (a d) i e h k d) (goes_trans (made_goes _ t p.draft) (emit_goes _ v.1)))
    (λ d. goes_trans (loaded_goes t r (a d) i e h k d) (emit_goes _ (rows.loaded t r (a d) i e d).draft))

pub after_goes : {V : Type 0} {z : ℕ → ℕ} (op : Op) (s : Site) (o : IntType) (x : Target V) → TargetGoes z x → WaysGo z (rows.after_ways op s o x)
after_goes op s o (scalar t x) h = both (λ d. rows.after_scalar op s o t (x d) d) (λ d. rows.update_scalar op s o t (x d) one d)
    (λ d. let r = stored t (variable (x d)) d in goes_trans (made_goes _ t d) (emit_goes _ r.1)) (λ d. emit_goes _ d)
after_goes op s o (element t r a i) h = both
    (λ d. rows.after_element op s o t r (a d) i d)
    (λ d. rows.renew_unused op s o t r (a d) Int (rows.loaded t r (a d) i one d))
    (λ d. goes_trans (loaded_goes t r (a d) i one h (one_goes) d) (emit_goes _ (rows.loaded t r (a d) i one d).draft))
    (λ d. goes_trans (loaded_goes t r (a d) i one h (one_goes) d) (emit_goes _ (rows.loaded t r (a d) i one d).draft))

pub stepping : {V : Type 0} {z : ℕ → ℕ} (op : Op) (s : Site) (o : IntType) (x : Target V) (prefix : Bool) → TargetGoes z x → WaysGo z (rows.step_ways op s o x prefix)
stepping op s o x true h = updating op s o x one h (one_goes)
stepping op s o x false h = after_goes op s o x h

-- ---- operators

pub havocking : {V : Type 0} {z : ℕ → ℕ} (t : IntType) → WaysGo z (rows.by_value {V = V} Temporary t (rows.any_value t))
havocking t = valuing Temporary t (rows.any_value t) (λ d. made_goes (Havoc (next_temporary d) t 1) t d)

pub converting : {V : Type 0} {z : ℕ → ℕ} (t : IntType) (a : Operand V) → WaysGo z a.ways → WaysGo z (rows.convert_ways t a)
converting t a h = valuing _ t (rows.convert_value t a) (λ d. h.value d)

either : {V : Type 0} {z : ℕ → ℕ} (N : ℕ → Type 0) (b : Bool) (e f : DraftOf V) (d : DraftOf V) → Splits z N d e → Splits z N d f → Splits z N d (if b then e else f)
either N true e f d a b = a
either N false e f d a b = b

exchanged : (p q x : ℕ) → IsOneOf q p x → IsOneOf p q x
exchanged p q x (inl e) = inr e
exchanged p q x (inr e) = inl e

pub unary_goes : {V : Type 0} {z : ℕ → ℕ} (op : Op) (s : Site) (t : IntType) (a : Operand V) → WaysGo z a.ways → WaysGo z (rows.unary_ways op s t a)
unary_goes op s t a h = choosing _ (result_type op t) (rows.unary_value op s t a) (rows.unary_choice op s t a) (λ d. h.value d)
    (λ p q d. either (IsOneOf p q) (is_not op) (a.ways.choice q p d) (rows.guards p q (rows.unary_value op s t a d)) d (loosened (λ x k. k) (exchanged p q) (h.choice q p d))
    (splits_trans (h.value d) (guards_split p q (rows.unary_value op s t a d))))

pub binary_goes : {V : Type 0} {z : ℕ → ℕ} (op : Op) (s : Site) (t : IntType) (a b : Operand V) → WaysGo z a.ways → WaysGo z b.ways → WaysGo z (rows.binary_ways op s t a b)
binary_goes op s t a b x y = valuing _ (result_type op t) (rows.binary_value op s t a b) (λ d. two_goes (strong_if b.makes) a b x y d)

-- a choice, and on from one of its ends, a new point
pub chosen : {V : Type 0} {z : ℕ → ℕ} {N : ℕ → Type 0} {p n q r m l : ℕ} {es fs gs : List (EdgeFrom V)} {rs ts us : List Region} → ((x : ℕ) → N x → (x ≡ n) ⊎ IsOneOf q r x) → SplitsBy z NoPoint N p (n + 1) es rs m fs ts → SplitsBy z NoPoint (IsOneOf q r) n m fs ts l gs us → SplitsBy z NoPoint (IsOneOf q r) p n es rs l gs us
chosen {p = p} {n = n} {q = q} {r = r} on a b =
    reserving {K = NoPoint} {L = IsOneOf q r} {M = λ x. x ≡ n} {N = λ x. (x ≡ n) ⊎ IsOneOf q r x} 1 (λ x e. inr (new x e)) (λ x e. elim e [ inl s ↦ inr (new x s) | inr s ↦ inl s ])
    (splits_from {K = λ x. x ≡ n} {L = λ x. (x ≡ n) ⊎ IsOneOf q r x} {M = NoPoint} {N = λ x. (x ≡ n) ⊎ IsOneOf q r x} (inr (inl refl)) (λ x k. absurd k) (λ x h. h) (loosened (λ x k. k) on a) (loosened (λ x k. k) (λ x h. inr h) b)) where
      new : (x : ℕ) → x ≡ n → IsNew n (n + 1) x
      new x e = (omega (arith, e), omega (arith, e))

pub and_splits : {V : Type 0} {z : ℕ → ℕ} (a b : Ways V) → WaysGo z a → WaysGo z b → Chooses z (rows.and_choice a b)
and_splits a b x y p q d = chosen (λ i e. elim e [ inl s ↦ inl s | inr s ↦ inr (inr s) ]) (x.choice d.points q (fresh 1 d)) (y.choice p q (at d.points (a.choice d.points q (fresh 1 d))))

pub or_splits : {V : Type 0} {z : ℕ → ℕ} (a b : Ways V) → WaysGo z a → WaysGo z b → Chooses z (rows.or_choice a b)
or_splits a b x y p q d = chosen (λ i e. elim e [ inl s ↦ inr (inl s) | inr s ↦ inl s ]) (x.choice p d.points (fresh 1 d)) (y.choice p q (at d.points (a.choice p d.points (fresh 1 d))))

-- a choice between two new points, and on from each to a third
pub meets : {V : Type 0} {z : ℕ → ℕ} {p n m l k : ℕ} {es fs gs hs : List (EdgeFrom V)} {rs ts us vs : List Region} → SplitsBy z NoPoint (IsOneOf n (n + 1)) p (n + 3) es rs m fs ts → SplitsBy z NoPoint (λ x. x ≡ n + 2) n m fs ts l gs us → SplitsBy z NoPoint (λ x. x ≡ n + 2) (n + 1) l gs us k hs vs
    → GoesBy z NoPoint NoPoint p n es rs (n + 2) k hs vs
meets {n = n} a b c =
    going_on {M = λ x. IsNew n (n + 3) x} {N = λ x. IsNew n (n + 3) x} 3 (n + 2) (omega arith, omega arith) (λ x h. inr h) (λ x h. inr h)
    (splits_from {M = λ x. IsNew n (n + 3) x} {N = λ x. IsNew n (n + 3) x} (inr (inl (omega arith, omega arith))) (λ x h. h) (λ x h. h)
    (splits_from {M = λ x. IsNew n (n + 3) x} {N = λ x. IsNew n (n + 3) x} (inr (inl (omega arith, omega arith))) (λ x h. h) (λ x h. h)
    (loosened (λ x k. absurd k) (λ x e. elim e [ inl i ↦ (omega (arith, i), omega (arith, i)) | inr i ↦ (omega (arith, i), omega (arith, i)) ]) a)
    (loosened (λ x k. absurd k) (λ x e. (omega (arith, e), omega (arith, e))) b))
    (loosened (λ x k. absurd k) (λ x e. (omega (arith, e), omega (arith, e))) c))

pub joined_goes : {V : Type 0} {z : ℕ → ℕ} (t : IntType) (choice : (p q : ℕ) → DraftOf V → DraftOf V) (a b : DraftOf V → Given V) → Chooses z choice → Gives z a → Gives z b → Gives z (rows.joined t choice a b)
joined_goes t choice a b x y w d =
    let e = choice d.points (d.points + 1) (with_temporary t (fresh 3 d)) in
    let v = next_temporary d in
    let r = a (at d.points e) in
    let m = rows.set_between v (d.points + 2) (d.points + 1) r in
    let q = b m in
    meets (x d.points (d.points + 1) (with_temporary t (fresh 3 d))) (leading_to (d.points + 2) (y (at d.points e)) (link_splits (Set v r.0) (d.points + 2) r.1)) (leading_to (d.points + 2) (w m) (link_splits (Set v q.0) (d.points + 2) q.1))

pub deciding : {V : Type 0} {z : ℕ → ℕ} (choice : (p q : ℕ) → DraftOf V → DraftOf V) → Chooses z choice → WaysGo z (rows.truth_ways choice)
deciding choice x =
    choosing Temporary Int (rows.truth_value choice) choice
    (joined_goes Int choice (λ d. (constant Int (pos 1), d)) (λ d. (constant Int (pos 0), d)) x (goes_refl) (goes_refl)) x

pub conditional_goes : {V : Type 0} {z : ℕ → ℕ} (t : IntType) (c : Ways V) (a b : Operand V) → WaysGo z c → WaysGo z a.ways → WaysGo z b.ways → WaysGo z (rows.conditional_ways t c a b)
conditional_goes t c a b x y w =
    valuing Temporary t (rows.joined t c.choice (rows.convert_value t a) (rows.convert_value t b))
    (joined_goes t c.choice (rows.convert_value t a) (rows.convert_value t b) x.choice (λ d. y.value d) (λ d. w.value d))

pub then_goes : {V : Type 0} {z : ℕ → ℕ} (f : DraftOf V → DraftOf V) (w : Ways V) → Makes z f → WaysGo z w → WaysGo z (rows.then_ways f w)
then_goes f w x y = record {
  value = λ d. goes_trans (x d) (y.value (f d));
  choice = λ p q d. splits_trans (x d) (y.choice p q (f d));
  unused = λ d. goes_trans (x d) (y.unused (f d));
}

pub assuming : {V : Type 0} {z : ℕ → ℕ} (w : Ways V) → WaysGo z w → Makes z (rows.assumed w)
assuming w x d = going_on {K = NoPoint} {L = NoPoint} {M = NoPoint} {N = λ y. y ≡ d.points} 1 d.points (omega arith, omega arith) (λ y k. inl k) (λ y e. inr (omega (arith, e), omega (arith, e)))
    (named_more (λ y k. k) (λ y e. elim e [ inl s ↦ inr s | inr s ↦ inl s ]) (x.choice d.points 0 (fresh 1 d)))

-- ---- calls

pub bound_goes : {V : Type 0} {z : ℕ → ℕ} (k i x : ℕ) (ts us : List IntType) (rs : List (TreeOf V)) → Makes z (rows.bound k i x ts us rs)
bound_goes k i x [] us rs d = goes_refl d
bound_goes k i x (t ∷ ts) [] rs d = goes_refl d
bound_goes k i x (t ∷ ts) (u ∷ us) [] d = goes_refl d
bound_goes k i x (t ∷ ts) (u ∷ us) (r ∷ rs) d = goes_trans (emit_goes _ d) (bound_goes k (i + 1) (x + 1) ts us rs (emit _ d))

-- a path's region is set
region_set : (rs : List Region) (k j : ℕ) (r : Region) → IsSame rs (slice_set rs k r) j ⊎ ((j ≡ k) × (region_at (slice_set rs k r) j ≡ r))
region_set rs k j r = by (same j k) (within k (length rs)) where
  same : (m n : ℕ) → (m ≡ n) ⊎ (m ≡ n → ⊥)
  same m n = grind arith

  within : (m n : ℕ) → (m < n) ⊎ (n ≤ m)
  within m n = grind arith

  by : (j ≡ k) ⊎ (j ≡ k → ⊥) → (k < length rs) ⊎ (length rs ≤ k) → IsSame rs (slice_set rs k r) j ⊎ ((j ≡ k) × (region_at (slice_set rs k r) j ≡ r))
  by (inr h) b = inl (get_or-set_other rs k j r no_region h)
  by a (inr le) = inl (ap (λ ts. region_at ts j) (set_past rs k r le))
  by (inl e) (inl lt) = inr (e, subst (λ i. region_at (slice_set rs k r) i ≡ r) (sym e) (get_or-set_same rs k r no_region lt))

-- the points of the part that a call leads to
entered_goes : {V : Type 0} {z : ℕ → ℕ} (k : ℕ) (s : Size) → HasPoints (z k) s → Makes {V = V} z (entered k s)
entered_goes {z = z} k s c d = record {
  point = inr (inr (omega arith, let some = c.1 in omega (arith, some)));
  splits = record { points = omega arith; edges = λ e h. inl h; regions = λ j. by j (region_set d.regions k j r) };
} where
  r : Region
  r = record { at = d.point; points = d.points; variables = d.variables }

  ts : List Region
  ts = slice_set d.regions k r

  whole : IsTaken NoPoint d.point d.points (d.points + s.points) (z k) r
  whole = record { begins = inl refl; from = omega arith; to = let e = c.0 in omega (arith, e) }

  by : (j : ℕ) → IsSame d.regions ts j ⊎ ((j ≡ k) × (region_at ts j ≡ r)) → IsSame d.regions ts j ⊎ IsTaken NoPoint d.point d.points (d.points + s.points) (z j) (region_at ts j)
  by j (inl e) = inl e
  by j (inr e) = inr (subst (λ i. IsTaken NoPoint d.point d.points (d.points + s.points) (z i) (region_at ts j)) (sym e.0) (subst (IsTaken NoPoint d.point d.points (d.points + s.points) (z k)) (sym e.1) whole))

abbrev pub PassGoes : {V : Type 0} → (z : ℕ → ℕ) → (DraftOf V → Passed V) → Type 0
PassGoes {V} z f = (d : DraftOf V) → Goes z d (f d).draft

pub calling : {V : Type 0} {z : ℕ → ℕ} (k : ℕ) (s : Size) (ts us : List IntType) (f : DraftOf V → Passed V) → HasPoints (z k) s → PassGoes z f → Gives z (λ d. rows.call_after k s ts us (f d))
calling k s ts us f c x d =
    let r = f d in
    let b = rows.bound k 0 r.draft.variables ts us r.trees r.draft in
    goes_trans (x d) (goes_trans (bound_goes k 0 r.draft.variables ts us r.trees r.draft) (entered_goes k s c b))

pub passing : {V : Type 0} {z : ℕ → ℕ} (later : Bool) (e : Operand V) (rest : DraftOf V → Passed V) → WaysGo z e.ways → PassGoes z rest → PassGoes z (rows.passed_before later e rest)
passing later e rest x y d =
    let k = held (strong_if later) e.shape e.int_type (e.ways.value d) in
    goes_trans (x.value d) (goes_trans (held_goes (strong_if later) e.shape e.int_type (e.ways.value d)) (y k.1))

pub either_way : {V : Type 0} {z : ℕ → ℕ} (b : Bool) (v w : Ways V) → WaysGo z v → WaysGo z w → WaysGo z (if b then v else w)
either_way true v w x y = x
either_way false v w x y = y
