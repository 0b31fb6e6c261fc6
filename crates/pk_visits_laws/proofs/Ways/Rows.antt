-- The rows of expressions: each value goes on at a point without edges, each choice leads away.
use Rattle.std.proofs.Common.{◌≡◌, ℕ, ◌+◌, ◌<◌, ◌≤◌, ◌⊎◌, List, [], ◌∷◌, length, Bool, true, false, if◌then◌else◌, refl, sym, ap, subst, inl, inr, arith}
use Rattle.std.specs.Prelude.{pos, slice_set}
use Rattle.std.proofs.lemmas.List.{get_or-set_same, get_or-set_other, set_past}
use Rattle.pk_ctypes.specs.declared.types.IntType.{IntType}
use Rattle.pk_ctypes.specs.declared.types.IntType.TheVariants.{Int}
use Rattle.pk_ctypes.specs.declared.types.Op.{Op}
use Rattle.pk_ctypes.specs.Operators.{result_type, is_not}
use Rattle.pk_graph.specs.declared.trees.Site.{Site}
use Rattle.pk_graph.specs.Trees.{TreeOf, InstrOf, constant, variable, ArrayOf, Set, Havoc, Load}
use Rattle.pk_draft.specs.declared.drafts.Size.{Size}
use Rattle.pk_draft.specs.declared.drafts.Region.{Region}
use Rattle.pk_draft.specs.Drafts.{EdgeFrom, DraftOf, Given, at, fresh, with_temporary, next_temporary, link, emit, stored, no_region, entered}
use Rattle.pk_draft.specs.Folding.{conversion}
use Rattle.pk_lower_row.specs.declared.shapes.Shape.{Shape}
use Rattle.pk_lower_row.specs.declared.shapes.Shape.TheVariants.{Fixed, Named, Temporary}
use Rattle.pk_lower_row.specs.declared.shapes.Waiting.{Waiting}
use Rattle.pk_lower_row.specs.declared.shapes.Waiting.TheVariants.{Weak}
use Rattle.pk_lower_row.specs.Shapes.{is_plain, stays, strong_if, strong_or_weak}
use Rattle.pk_lower_row.specs.Rows as rows
use Rattle.pk_lower_row.specs.Rows.{Ways, Operand, Target, scalar, element, Two, Passed, stored_unless, held, two, one}
use Rattle.pk_visits.proofs.Slots.{Never, region_at}
use Rattle.pk_visits_laws.proofs.Ways.Adding.{Kept, Spent, Holds, nothing, adds_more, one_edge, two_edges, same}
use Rattle.pk_visits_laws.proofs.Ways.Spans.{Span}
use Rattle.pk_visits_laws.proofs.Ways.Goes.{GoesBy, SplitsBy, AreRooted, goes_then, splits_then, from_mark, reserving, going_on}

abbrev pub Goes : {V : Type 0} → (ℕ → ℕ) → DraftOf V → DraftOf V → Type 0
Goes z d e = GoesBy z Never d.point d.points d.edges d.regions e.point e.points e.edges e.regions

abbrev pub Splits : {V : Type 0} → (ℕ → ℕ) → DraftOf V → DraftOf V → Type 0
Splits z d e = SplitsBy z Never d.point d.points d.edges d.regions e.points e.edges e.regions

pub goes_trans : {V : Type 0} {z : ℕ → ℕ} {p n q m r l : ℕ} {es fs gs : List (EdgeFrom V)} {rs ts us : List Region} → GoesBy z Never p n es rs q m fs ts → GoesBy z Never q m fs ts r l gs us → GoesBy z Never p n es rs r l gs us
goes_trans a b = goes_then (λ x k. k) (λ x k. k) (λ x k j. k) a b

pub splits_trans : {V : Type 0} {z : ℕ → ℕ} {p n q m l : ℕ} {es fs gs : List (EdgeFrom V)} {rs ts us : List Region} → GoesBy z Never p n es rs q m fs ts → SplitsBy z Never q m fs ts l gs us → SplitsBy z Never p n es rs l gs us
splits_trans a b = splits_then (λ x k. k) (λ x k. k) (λ x k j. k) a b

pub goes_refl : {V : Type 0} (z : ℕ → ℕ) (d : DraftOf V) → Goes z d d
goes_refl z d = record { points = omega arith; point = inl refl; adds = λ h f. nothing z _ d.edges d.regions; rooted = λ h f k. k }

pub link_splits : {V : Type 0} (z : ℕ → ℕ) (i : InstrOf V) (q : ℕ) (d : DraftOf V) → Splits z d (link i q d)
link_splits z i q d = record { points = omega arith; adds = λ h f. adds_more (λ x e. inl e) (one_edge z d.point i q d.edges d.regions); rooted = λ h f k. k }

pub emit_goes : {V : Type 0} (z : ℕ → ℕ) (i : InstrOf V) (d : DraftOf V) → Goes z d (emit i d)
emit_goes z i d = record {
  points = omega arith;
  point = inr (inl (omega arith, omega arith));
  adds = λ h f. adds_more (λ x e. (inl e, λ c. absurd (omega (arith, h, e, c)))) (one_edge z d.point i d.points d.edges d.regions);
  rooted = λ h f k. k;
}

-- an edge that writes the next temporary
pub made_goes : {V : Type 0} (z : ℕ → ℕ) (i : InstrOf V) (t : IntType) (d : DraftOf V) → Goes z d (emit i (with_temporary t d))
made_goes z i t d = emit_goes z i (with_temporary t d)

-- ---- trees that wait, that aren't used, that decide

pub unless_goes : {V : Type 0} (z : ℕ → ℕ) (b : Bool) (t : IntType) (r : Given V) → Goes z r.1 (stored_unless b t r).1
unless_goes z true t r = goes_refl z r.1
unless_goes z false t r = made_goes z (Set (next_temporary r.1) r.0) t r.1

pub held_goes : {V : Type 0} (z : ℕ → ℕ) (how : Waiting) (s : Shape) (t : IntType) (r : Given V) → Goes z r.1 (held how s t r).1
held_goes z how s t r = unless_goes z (stays how s) t r

pub dropped_goes : {V : Type 0} (z : ℕ → ℕ) (s : Shape) (t : IntType) (r : Given V) → Goes z r.1 (rows.dropped s t r)
dropped_goes z s t r = unless_goes z (is_plain s) t r

pub guards_split : {V : Type 0} (z : ℕ → ℕ) (p q : ℕ) (r : Given V) → Splits z r.1 (rows.guards p q r)
guards_split z p q r = record { points = omega arith; adds = λ h f. adds_more (λ x e. inl e) (two_edges z r.1.point r.0 p q r.1.edges r.1.regions); rooted = λ h f k. k }

abbrev pub Gives : {V : Type 0} → (ℕ → ℕ) → (DraftOf V → Given V) → Type 0
Gives {V} z f = (d : DraftOf V) → Goes z d (f d).1

abbrev pub Makes : {V : Type 0} → (ℕ → ℕ) → (DraftOf V → DraftOf V) → Type 0
Makes {V} z f = (d : DraftOf V) → Goes z d (f d)

abbrev pub Chooses : {V : Type 0} → (ℕ → ℕ) → ((p q : ℕ) → DraftOf V → DraftOf V) → Type 0
Chooses {V} z f = (p q : ℕ) (d : DraftOf V) → Splits z d (f p q d)

pub record WaysGo {V : Type 0} (z : ℕ → ℕ) (w : Ways V) : Type 0 where
  pub value : Gives z w.value
  pub choice : Chooses z w.choice
  pub unused : Makes z w.unused

pub both : {V : Type 0} (z : ℕ → ℕ) (f : DraftOf V → Given V) (g : DraftOf V → DraftOf V) → Gives z f → Makes z g → WaysGo z (rows.by_both f g)
both z f g a b = record { value = a; choice = λ p q d. splits_trans (a d) (guards_split z p q (f d)); unused = b }

pub valuing : {V : Type 0} (z : ℕ → ℕ) (s : Shape) (t : IntType) (f : DraftOf V → Given V) → Gives z f → WaysGo z (rows.by_value s t f)
valuing z s t f a = both z f (λ d. rows.dropped s t (f d)) a (λ d. goes_trans (a d) (dropped_goes z s t (f d)))

pub choosing : {V : Type 0} (z : ℕ → ℕ) (s : Shape) (t : IntType) (f : DraftOf V → Given V) (g : (p q : ℕ) → DraftOf V → DraftOf V) → Gives z f → Chooses z g → WaysGo z (rows.by_choice s t f g)
choosing z s t f g a b = record { value = a; choice = b; unused = λ d. goes_trans (a d) (dropped_goes z s t (f d)) }

pub one_goes : {V : Type 0} (z : ℕ → ℕ) → WaysGo z (one {V = V}).ways
one_goes {V} z = valuing z (one {V = V}).shape Int (λ d. (constant Int (pos 1), d)) (goes_refl z)

pub zero_goes : {V : Type 0} (z : ℕ → ℕ) → WaysGo z (rows.zero_ways {V = V})
zero_goes z = valuing z (Fixed (pos 0)) Int (λ d. (constant Int (pos 0), d)) (goes_refl z)

-- ---- two operands, and elements

pub two_goes : {V : Type 0} (z : ℕ → ℕ) (how : Waiting) (a b : Operand V) → WaysGo z a.ways → WaysGo z b.ways → (d : DraftOf V) → Goes z d (two how a b d).draft
two_goes z how a b x y d =
    let k = held how a.shape a.int_type (a.ways.value d) in
    goes_trans (x.value d) (goes_trans (held_goes z how a.shape a.int_type (a.ways.value d)) (y.value k.1))

pub loaded_after_goes : {V : Type 0} (z : ℕ → ℕ) (t : IntType) (s : Site) (a : ArrayOf V) (shape : Shape) (u : IntType) (p : Two V) → Goes z p.draft (rows.loaded_after t s a shape u p).draft
loaded_after_goes z t s a shape u p =
    let k = held Weak shape u (p.second, p.draft) in
    goes_trans (held_goes z Weak shape u (p.second, p.draft)) (made_goes z (Load (next_temporary k.1) a s true p.first) t k.1)

pub loaded_goes : {V : Type 0} (z : ℕ → ℕ) (t : IntType) (s : Site) (a : ArrayOf V) (i e : Operand V) → WaysGo z i.ways → WaysGo z e.ways → (d : DraftOf V) → Goes z d (rows.loaded t s a i e d).draft
loaded_goes z t s a i e x y d =
    let p = two (strong_or_weak e.makes) i e d in
    goes_trans (two_goes z (strong_or_weak e.makes) i e x y d) (loaded_after_goes z t s a e.shape e.int_type p)

-- what is read or assigned
abbrev pub TargetGoes : {V : Type 0} → (ℕ → ℕ) → Target V → Type 0
TargetGoes z (scalar t x) = Unit {0}
TargetGoes z (element t s a i) = WaysGo z i.ways

pub reading : {V : Type 0} (z : ℕ → ℕ) (x : Target V) → TargetGoes z x → WaysGo z (rows.read_ways x)
reading z (scalar t x) h = valuing z Named t (λ d. (variable (x d), d)) (goes_refl z)
reading z (element t s a i) h =
    valuing z Temporary t (λ d. rows.element_value t s (a d) i d)
    (λ d. let r = i.ways.value d in goes_trans (h.value d) (made_goes z (Load (next_temporary r.1) (a d) s true r.0) t r.1))

pub assigning : {V : Type 0} (z : ℕ → ℕ) (x : Target V) (e : Operand V) → TargetGoes z x → WaysGo z e.ways → WaysGo z (rows.assign_ways x e)
assigning z (scalar t x) e h k =
    valuing z Named t (λ d. (variable (x d), rows.set_after t e.int_type (x d) (e.ways.value d)))
    (λ d. let r = e.ways.value d in goes_trans (k.value d) (emit_goes z _ r.1))
assigning z (element t s a i) e h k = both z (λ d. rows.put_used t s (a d) i e d) (λ d. rows.put_unused t s (a d) i e d)
    (λ d. let p = two (strong_or_weak e.makes) i e d in
    let v = stored t (conversion e.int_type t p.second) p.draft in
    goes_trans (two_goes z (strong_or_weak e.makes) i e h k d) (goes_trans (made_goes z _ t p.draft) (emit_goes z _ v.1)))
    (λ d. let p = two (strong_if e.makes) i e d in goes_trans (two_goes z (strong_if e.makes) i e h k d) (emit_goes z _ p.draft))

pub updating : {V : Type 0} (z : ℕ → ℕ) (op : Op) (s : Site) (o : IntType) (x : Target V) (e : Operand V) → TargetGoes z x → WaysGo z e.ways → WaysGo z (rows.update_ways op s o x e)
updating z op s o (scalar t x) e h k =
    valuing z Named t (λ d. (variable (x d), rows.update_scalar op s o t (x d) e d))
    (λ d. let r = e.ways.value d in goes_trans (k.value d) (emit_goes z _ r.1))
updating z op s o (element t r a i) e h k = both z
    (λ d. rows.renew_used op s o t r (a d) e.int_type (rows.loaded t r (a d) i e d))
    (λ d. rows.renew_unused op s o t r (a d) e.int_type (rows.loaded t r (a d) i e d))
    (λ d. let p = rows.loaded t r (a d) i e d in
    let v = stored t (rows.renewed_tree op s o t e.int_type p) p.draft in
    goes_trans (loaded_goes z t r (a d) i e h k d) (goes_trans (made_goes z _ t p.draft) (emit_goes z _ v.1)))
    (λ d. goes_trans (loaded_goes z t r (a d) i e h k d) (emit_goes z _ (rows.loaded t r (a d) i e d).draft))

pub after_goes : {V : Type 0} (z : ℕ → ℕ) (op : Op) (s : Site) (o : IntType) (x : Target V) → TargetGoes z x → WaysGo z (rows.after_ways op s o x)
after_goes z op s o (scalar t x) h = both z (λ d. rows.after_scalar op s o t (x d) d) (λ d. rows.update_scalar op s o t (x d) one d)
    (λ d. let r = stored t (variable (x d)) d in goes_trans (made_goes z _ t d) (emit_goes z _ r.1)) (λ d. emit_goes z _ d)
after_goes z op s o (element t r a i) h = both z
    (λ d. rows.after_element op s o t r (a d) i d)
    (λ d. rows.renew_unused op s o t r (a d) Int (rows.loaded t r (a d) i one d))
    (λ d. goes_trans (loaded_goes z t r (a d) i one h (one_goes z) d) (emit_goes z _ (rows.loaded t r (a d) i one d).draft))
    (λ d. goes_trans (loaded_goes z t r (a d) i one h (one_goes z) d) (emit_goes z _ (rows.loaded t r (a d) i one d).draft))

pub stepping : {V : Type 0} (z : ℕ → ℕ) (op : Op) (s : Site) (o : IntType) (x : Target V) (prefix : Bool) → TargetGoes z x → WaysGo z (rows.step_ways op s o x prefix)
stepping z op s o x true h = updating z op s o x one h (one_goes z)
stepping z op s o x false h = after_goes z op s o x h

-- ---- operators

pub havocking : {V : Type 0} (z : ℕ → ℕ) (t : IntType) → WaysGo z (rows.by_value {V = V} Temporary t (rows.any_value t))
havocking z t = valuing z Temporary t (rows.any_value t) (λ d. made_goes z (Havoc (next_temporary d) t 1) t d)

pub converting : {V : Type 0} (z : ℕ → ℕ) (t : IntType) (a : Operand V) → WaysGo z a.ways → WaysGo z (rows.convert_ways t a)
converting z t a h = valuing z _ t (rows.convert_value t a) (λ d. h.value d)

unary_choosing : {V : Type 0} (z : ℕ → ℕ) (b : Bool) (e f : DraftOf V) (d : DraftOf V) → Splits z d e → Splits z d f → Splits z d (if b then e else f)
unary_choosing z true e f d a b = a
unary_choosing z false e f d a b = b

pub unary_goes : {V : Type 0} (z : ℕ → ℕ) (op : Op) (s : Site) (t : IntType) (a : Operand V) → WaysGo z a.ways → WaysGo z (rows.unary_ways op s t a)
unary_goes z op s t a h = choosing z _ (result_type op t) (rows.unary_value op s t a) (rows.unary_choice op s t a) (λ d. h.value d)
    (λ p q d. unary_choosing z (is_not op) (a.ways.choice q p d) (rows.guards p q (rows.unary_value op s t a d)) d (h.choice q p d)
    (splits_trans (h.value d) (guards_split z p q (rows.unary_value op s t a d))))

pub binary_goes : {V : Type 0} (z : ℕ → ℕ) (op : Op) (s : Site) (t : IntType) (a b : Operand V) → WaysGo z a.ways → WaysGo z b.ways → WaysGo z (rows.binary_ways op s t a b)
binary_goes z op s t a b x y = valuing z _ (result_type op t) (rows.binary_value op s t a b) (λ d. two_goes z (strong_if b.makes) a b x y d)

-- a choice, and on from one of its ends, a new point
pub chosen : {V : Type 0} {z : ℕ → ℕ} {p n m l : ℕ} {es fs gs : List (EdgeFrom V)} {rs ts us : List Region} → SplitsBy z Never p (n + 1) es rs m fs ts → SplitsBy z Never n m fs ts l gs us → SplitsBy z Never p n es rs l gs us
chosen {n = n} a b =
    reserving {L = λ x. x ≡ n} 1 (λ x e. inr (omega (arith, e), omega (arith, e)))
    (from_mark (λ x k. absurd k) (λ x k. absurd k) (λ x k j. k) refl (λ k. k) (λ k. k) a b)

pub and_splits : {V : Type 0} (z : ℕ → ℕ) (a b : Ways V) → WaysGo z a → WaysGo z b → Chooses z (rows.and_choice a b)
and_splits z a b x y p q d = chosen (x.choice d.points q (fresh 1 d)) (y.choice p q (at d.points (a.choice d.points q (fresh 1 d))))

pub or_splits : {V : Type 0} (z : ℕ → ℕ) (a b : Ways V) → WaysGo z a → WaysGo z b → Chooses z (rows.or_choice a b)
or_splits z a b x y p q d = chosen (x.choice p d.points (fresh 1 d)) (y.choice p q (at d.points (a.choice p d.points (fresh 1 d))))

-- a choice between two new points, and on from each to a third
pub meets : {V : Type 0} {z : ℕ → ℕ} {p n m l k : ℕ} {es fs gs hs : List (EdgeFrom V)} {rs ts us os : List Region} → SplitsBy z Never p (n + 3) es rs m fs ts → SplitsBy z Never n m fs ts l gs us → SplitsBy z Never (n + 1) l gs us k hs os
    → GoesBy z Never p n es rs (n + 2) k hs os
meets {n = n} a b c =
    going_on {L = λ x. (x ≡ n) ⊎ (x ≡ n + 1)} 3 (n + 2) (omega arith) (omega arith) (λ e. elim e [ inl i ↦ absurd (omega (arith, i)) | inr i ↦ absurd (omega (arith, i)) ]) (λ x e. elim e [ inl i ↦ inr (omega (arith, i), omega (arith, i)) | inr i ↦ inr (omega (arith, i), omega (arith, i)) ])
    (from_mark {M = λ x. x ≡ n} (λ x e. inl e) (λ x k. absurd k) (λ x k j. j) (inr refl) (λ e. absurd (omega (arith, e))) (λ k. k)
    (from_mark (λ x k. absurd k) (λ x k. absurd k) (λ x k j. k) refl (λ k. k) (λ k. k) a b) c)

pub joined_goes : {V : Type 0} (z : ℕ → ℕ) (t : IntType) (choice : (p q : ℕ) → DraftOf V → DraftOf V) (a b : DraftOf V → Given V) → Chooses z choice → Gives z a → Gives z b → Gives z (rows.joined t choice a b)
joined_goes z t choice a b x y w d =
    let e = choice d.points (d.points + 1) (with_temporary t (fresh 3 d)) in
    let v = next_temporary d in
    let r = a (at d.points e) in
    let m = rows.set_between v (d.points + 2) (d.points + 1) r in
    let q = b m in
    meets (x d.points (d.points + 1) (with_temporary t (fresh 3 d))) (splits_trans (y (at d.points e)) (link_splits z (Set v r.0) (d.points + 2) r.1)) (splits_trans (w m) (link_splits z (Set v q.0) (d.points + 2) q.1))

pub deciding : {V : Type 0} (z : ℕ → ℕ) (choice : (p q : ℕ) → DraftOf V → DraftOf V) → Chooses z choice → WaysGo z (rows.truth_ways choice)
deciding z choice x =
    choosing z Temporary Int (rows.truth_value choice) choice
    (joined_goes z Int choice (λ d. (constant Int (pos 1), d)) (λ d. (constant Int (pos 0), d)) x (goes_refl z) (goes_refl z)) x

pub conditional_goes : {V : Type 0} (z : ℕ → ℕ) (t : IntType) (c : Ways V) (a b : Operand V) → WaysGo z c → WaysGo z a.ways → WaysGo z b.ways → WaysGo z (rows.conditional_ways t c a b)
conditional_goes z t c a b x y w =
    valuing z Temporary t (rows.joined t c.choice (rows.convert_value t a) (rows.convert_value t b))
    (joined_goes z t c.choice (rows.convert_value t a) (rows.convert_value t b) x.choice (λ d. y.value d) (λ d. w.value d))

pub then_goes : {V : Type 0} (z : ℕ → ℕ) (f : DraftOf V → DraftOf V) (w : Ways V) → Makes z f → WaysGo z w → WaysGo z (rows.then_ways f w)
then_goes z f w x y = record {
  value = λ d. goes_trans (x d) (y.value (f d));
  choice = λ p q d. splits_trans (x d) (y.choice p q (f d));
  unused = λ d. goes_trans (x d) (y.unused (f d));
}

pub assuming : {V : Type 0} (z : ℕ → ℕ) (w : Ways V) → WaysGo z w → Makes z (rows.assumed w)
assuming z w x d = going_on 1 d.points (omega arith) (omega arith) (λ k. k) (λ x k. absurd k) (x.choice d.points 0 (fresh 1 d))

-- ---- calls

pub bound_goes : {V : Type 0} (z : ℕ → ℕ) (k i x : ℕ) (ts us : List IntType) (rs : List (TreeOf V)) → Makes z (rows.bound k i x ts us rs)
bound_goes z k i x [] us rs d = goes_refl z d
bound_goes z k i x (t ∷ ts) [] rs d = goes_refl z d
bound_goes z k i x (t ∷ ts) (u ∷ us) [] d = goes_refl z d
bound_goes z k i x (t ∷ ts) (u ∷ us) (r ∷ rs) d = goes_trans (emit_goes z _ d) (bound_goes z k (i + 1) (x + 1) ts us rs (emit _ d))

-- the size of a path's part is known, and it has a point
abbrev pub Fits : (ℕ → ℕ) → ℕ → Size → Type 0
Fits z k s = (s.points ≡ z k) × (0 < s.points)

in_span : (p n m x : ℕ) → ((x ≡ p) ⊎ ((n < x) × (x < m))) ⊎ ((x ≡ p → ⊥) × (n < x → x < m → ⊥))
in_span p n m x = grind arith

-- of a region that is set for a path
pub region_set : (rs : List Region) (k j : ℕ) (r : Region) → (region_at (slice_set rs k r) j ≡ region_at rs j) ⊎ ((j ≡ k) × (region_at (slice_set rs k r) j ≡ r))
region_set rs k j r = by (same j k) (within k (length rs)) where
  within : (m n : ℕ) → (m < n) ⊎ (n ≤ m)
  within m n = grind arith

  by : (j ≡ k) ⊎ (j ≡ k → ⊥) → (k < length rs) ⊎ (length rs ≤ k) → (region_at (slice_set rs k r) j ≡ region_at rs j) ⊎ ((j ≡ k) × (region_at (slice_set rs k r) j ≡ r))
  by (inr h) b = inl (get_or-set_other rs k j r no_region h)
  by a (inr le) = inl (ap (λ ts. region_at ts j) (set_past rs k r le))
  by (inl e) (inl lt) = inr (e, subst (λ i. region_at (slice_set rs k r) i ≡ r) (sym e) (get_or-set_same rs k r no_region lt))

pub entered_goes : {V : Type 0} (z : ℕ → ℕ) (k : ℕ) (s : Size) → Fits z k s → Makes {V = V} z (entered k s)
entered_goes {V} z k s c d = record {
  points = omega arith;
  point = inr (inl (omega arith, let i = c.1 in omega (arith, i)));
  adds = λ h f x. by h x (in_span d.point d.points (d.points + s.points) x);
  rooted = λ h f roots j some. root h roots j some (region_set d.regions k j r);
} where
  r : Region
  r = record { at = d.point; points = d.points; variables = d.variables }

  ts : List Region
  ts = slice_set d.regions k r

  root : d.point < d.points → AreRooted d.regions → (j : ℕ) → 0 < (region_at ts j).points → (region_at ts j ≡ region_at d.regions j) ⊎ ((j ≡ k) × (region_at ts j ≡ r)) → (region_at ts j).at < (region_at ts j).points
  root h roots j some (inl e) = subst (λ (i : Region). i.at < i.points) (sym e) (roots j (subst (λ (i : Region). 0 < i.points) e some))
  root h roots j some (inr e) = subst (λ (i : Region). i.at < i.points) (sym e.1) h

  others : (x j : ℕ) → Holds z ts j x → (region_at ts j ≡ region_at d.regions j) ⊎ ((j ≡ k) × (region_at ts j ≡ r)) → Holds z d.regions j x ⊎ (j ≡ k)
  others x j held (inl e) = inl (subst (λ i. (0 < i.points) × ((x ≡ i.at) ⊎ ((i.points < x) × (x < i.points + z j)))) e held)
  others x j held (inr e) = inr e.0

  none : (x j : ℕ) → (x ≡ d.point → ⊥) → (d.points < x → x < d.points + s.points → ⊥) → Holds z ts j x → (region_at ts j ≡ region_at d.regions j) ⊎ ((j ≡ k) × (region_at ts j ≡ r)) → Holds z d.regions j x
  none x j a b held (inl e) = subst (λ i. (0 < i.points) × ((x ≡ i.at) ⊎ ((i.points < x) × (x < i.points + z j)))) e held
  none x j a b held (inr e) = absurd (inside (subst (λ i. (0 < i.points) × ((x ≡ i.at) ⊎ ((i.points < x) × (x < i.points + z j)))) e.1 held).1) where
    inside : (x ≡ d.point) ⊎ ((d.points < x) × (x < d.points + z j)) → ⊥
    inside (inl i) = a i
    inside (inr i) = b i.0 (let u = i.1 in let v = c.0 in let w = ap z e.0 in omega (arith, u, v, w))

  by : d.point < d.points → (x : ℕ) → ((x ≡ d.point) ⊎ ((d.points < x) × (x < d.points + s.points))) ⊎ ((x ≡ d.point → ⊥) × (d.points < x → x < d.points + s.points → ⊥))
      → Kept z x d.edges d.regions d.edges ts ⊎ ((Span Never d.point d.points (d.points + s.points) x × (x ≡ d.points → ⊥)) × Spent z x d.edges d.regions d.edges ts)
  by h x (inl (inl e)) = inr ((inl e, λ i. absurd (omega (arith, h, e, i))), inr (record { edges = refl; path = k; held = λ j held. others x j held (region_set d.regions k j r) }))
  by h x (inl (inr i)) = let u = i.0 in inr ((inr (inl (omega (arith, u), i.1)), λ e. absurd (omega (arith, u, e))), inr (record { edges = refl; path = k; held = λ j held. others x j held (region_set d.regions k j r) }))
  by h x (inr i) = inl (record { edges = refl; held = λ j held. none x j i.0 i.1 held (region_set d.regions k j r) })

abbrev pub PassGoes : {V : Type 0} → (ℕ → ℕ) → (DraftOf V → Passed V) → Type 0
PassGoes {V} z f = (d : DraftOf V) → Goes z d (f d).draft

pub calling : {V : Type 0} (z : ℕ → ℕ) (k : ℕ) (s : Size) (ts us : List IntType) (f : DraftOf V → Passed V) → Fits z k s → PassGoes z f → Gives z (λ d. rows.call_after k s ts us (f d))
calling z k s ts us f c x d =
    let r = f d in
    let b = rows.bound k 0 r.draft.variables ts us r.trees r.draft in
    goes_trans (x d) (goes_trans (bound_goes z k 0 r.draft.variables ts us r.trees r.draft) (entered_goes z k s c b))

pub passing : {V : Type 0} (z : ℕ → ℕ) (later : Bool) (e : Operand V) (rest : DraftOf V → Passed V) → WaysGo z e.ways → PassGoes z rest → PassGoes z (rows.passed_before later e rest)
passing z later e rest x y d =
    let k = held (strong_if later) e.shape e.int_type (e.ways.value d) in
    goes_trans (x.value d) (goes_trans (held_goes z (strong_if later) e.shape e.int_type (e.ways.value d)) (y k.1))

pub either_way : {V : Type 0} (z : ℕ → ℕ) (b : Bool) (v w : Ways V) → WaysGo z v → WaysGo z w → WaysGo z (if b then v else w)
either_way z true v w x y = x
either_way z false v w x y = y
