-- What is known of a part of a body in its end, and of the parts in it: behind a statement, points of other marks keep their labels, and objects that were declared before keep their variables.
use Rattle.std.proofs.Common.{◌≡◌, ℕ, zero, suc, ◌+◌, ◌<◌, ◌≤◌, ◌⊎◌, List, ◌∷◌, [], length, Bool, true, false, if◌then◌else◌, nat_eq, refl, sym, ap, ◌∙◌, subst, inl, inr, arith, eqb-true, eq-eqb}
use Rattle.std.proofs.lemmas.List.{length-set}
use Rattle.pk_typed.specs.Trees.{StatementTree, ItemTrees}
use Rattle.pk_welltyped.specs.Listed.{calls_in_statement, calls_in_items}
use Rattle.pk_welltyped.specs.WellTyped.{Around, Marks, IsStatement, AreItems}
use Rattle.pk_draft.specs.declared.drafts.Label.{Label}
use Rattle.pk_draft.specs.declared.drafts.Region.{Region}
use Rattle.pk_draft.specs.declared.drafts.Size.{Size}
use Rattle.pk_ctypes.specs.declared.places.Pos.{Pos}
use Rattle.pk_draft.specs.Drafts.{on, come}
use Rattle.pk_lower_row.specs.Contexts.{Context}
use Rattle.pk_lower_statement.specs.declared.statements.Exits.{Exits}
use Rattle.pk_lower_statement.specs.Statements.{inside, lowered, lowered_items}
use Rattle.pk_welltyped.specs.Marks.{times, times_in}
use Rattle.pk_meaning.specs.Steps.{Mark}
use Rattle.pk_visits.proofs.Slots.{Draft, Keeps, Among, label_at, object_at, region_at}
use Rattle.pk_visits.proofs.Settled.Trees.{Final, IsMarkedAt, mark_point}
use Rattle.pk_visits.proofs.Stands.{Whole}
use Rattle.pk_visits.proofs.Stages.{set_same}
use Rattle.pk_visits.proofs.Stores.{decided}
use Rattle.pk_visits.proofs.Grows.Expressions.{AllCalled}
use Rattle.pk_visits.proofs.Stages.{ForthBy, Forth, forth, forth_then, Later, later_of}
use Rattle.pk_visits.proofs.Grows.Statements.{OnPath, Stays, Adds, Marked, Free, IsMark, Covers, point_inside, upto, upto_has, nothing_adds, statement_adds, block_enlarges}

-- ---- points but one

-- those before n, without y
abbrev pub others : (y n : ℕ) → List ℕ
others y zero = []
others y (suc n) = if nat_eq n y then others y n else n ∷ others y n

not_last : (q n : ℕ) → q < suc n → (q ≡ n → ⊥) → q < n
not_last zero zero h other = absurd (other refl)
not_last zero (suc n) h other = omega arith
not_last (suc q) zero h other = absurd (omega (arith, h))
not_last (suc q) (suc n) h other = let z = not_last q n (omega (arith, h)) (λ e. other (ap suc e)) in omega (arith, z)

pub others_has : (y n q : ℕ) → q < n → (q ≡ y → ⊥) → Among q (others y n)
others_has y zero q h other = absurd (omega (arith, h))
others_has y (suc n) q h other = by (nat_eq n y) refl (decided q n) (λ lt. others_has y n q lt other) where
  by : (b : Bool) → nat_eq n y ≡ b → (q ≡ n) ⊎ (q ≡ n → ⊥) → (q < n → Among q (others y n)) → Among q (if b then others y n else n ∷ others y n)
  by true is (inl e) rest = absurd (other (e ∙ eqb-true n y is))
  by true is (inr less) rest = rest (not_last q n h less)
  by false is (inl e) rest = inl e
  by false is (inr less) rest = inr (rest (not_last q n h less))

pub others_not : (y n : ℕ) → Among y (others y n) → ⊥
others_not y zero h = h
others_not y (suc n) h = by (nat_eq n y) refl h (others_not y n) where
  by : (b : Bool) → nat_eq n y ≡ b → Among y (if b then others y n else n ∷ others y n) → (Among y (others y n) → ⊥) → ⊥
  by true is h rest = rest h
  by false is (inl e) rest = let z = eq-eqb n y (sym e) in absurd (grind (arith, is, z))
  by false is (inr h) rest = rest h

-- ---- parts that leave points and objects as they are

-- calls take as much as the graph says
abbrev pub Sized : Whole → ℕ → Size → Type 0
Sized g m s = s.points ≡ g.spans m

-- none of the marks that stand there has the point
abbrev pub IsUnset : Exits → Marks → (Mark → ℕ) → ℕ → Type 0
IsUnset x m t y = (b : Mark) → IsMark m b → (t b ≡ 0 → ⊥) → mark_point b x ≡ y → ⊥

-- with marks before p, as many as t says, and objects from k on
abbrev pub Spares : (R : Label → Label → Type 0) → Whole → Exits → Marks → (Mark → ℕ) → (k p : ℕ) → Draft → Draft → Type 0
Spares R g x m t k p d e = (y : ℕ) → IsUnset x m t y → Keeps R (Marked (others y p)) (λ i. k ≤ i) (Sized g) d e

abbrev pub AreBelow : Exits → Marks → ℕ → Type 0
AreBelow x m p = (b : Mark) → IsMark m b → mark_point b x < p

covers_others : (x : Exits) (m : Marks) (t : Mark → ℕ) (p y : ℕ) → AreBelow x m p → IsUnset x m t y → Covers x m t (others y p)
covers_others x m t p y below unset b is some = others_has y p (mark_point b x) (below b is) (unset b is some)

covers_before : (x : Exits) (m : Marks) (t : Mark → ℕ) (p : ℕ) → AreBelow x m p → Covers x m t (upto p 0)
covers_before x m t p below b is some = subst (λ q. Among q (upto p 0)) (omega arith) (upto_has p 0 (mark_point b x) (below b is))

pub statement_spares : (g : Whole) (c : Context) (a : Around) (m : Marks) (s : StatementTree) (x : Exits) (p : ℕ) → IsStatement a m s → AreBelow x m p → AllCalled (Sized g) c (calls_in_statement s) → (d : Draft)
    → Spares Stays g x m (λ b. times b s) a.objects p d (lowered c s x d)
statement_spares g c a m s x p fits below called d y unset = statement_adds (Sized g) c a m s x (others y p) (λ i. a.objects ≤ i) (λ i h. h) fits (covers_others x m (λ b. times b s) p y below unset) called d

pub block_spares : (g : Whole) (c : Context) (a : Around) (m : Marks) (is : ItemTrees) (x : Exits) (p : ℕ) → AreItems a m is → AreBelow x m p → AllCalled (Sized g) c (calls_in_items is) → (d : Draft)
    → Spares OnPath g x m (λ b. times_in b is) a.objects p d (lowered_items c is x d)
block_spares g c a m is x p fits below called d y unset = block_enlarges (Sized g) c a m is x (others y p) (λ i. a.objects ≤ i) (λ i h. h) fits (covers_others x m (λ b. times_in b is) p y below unset) called d

pub nothing_spares : (g : Whole) (x : Exits) (m : Marks) (t : Mark → ℕ) (k p : ℕ) (d : Draft) → Spares Stays g x m t k p d d
nothing_spares g x m t k p d y unset = nothing_adds (others y p) (λ i. k ≤ i) (Sized g) d

pub statement_grown : (g : Whole) (c : Context) (a : Around) (m : Marks) (s : StatementTree) (x : Exits) (d : Draft) → IsStatement a m s → AreBelow x m d.points → AllCalled (Sized g) c (calls_in_statement s) → Adds (upto d.points 0) Free (Sized g) d (lowered c s x d)
statement_grown g c a m s x d fits below called = statement_adds (Sized g) c a m s x (upto d.points 0) Free (λ i h. tt) fits (covers_before x m (λ b. times b s) d.points below) called d

-- how regions are taken in a statement
pub statement_forth : (g : Whole) (c : Context) (a : Around) (m : Marks) (s : StatementTree) (x : Exits) (p : ℕ) → IsStatement a m s → AreBelow x m p → AllCalled (Sized g) c (calls_in_statement s) → (d : Draft) → Forth g d (lowered c s x d)
statement_forth g c a m s x p fits below called d = forth g (λ i z h. h) (statement_adds (Sized g) c a m s x (upto p 0) Free (λ i h. tt) fits (covers_before x m (λ b. times b s) p below) called d)

spared : {R : Label → Label → Type 0} (S : ℕ → Type 0) (C : ℕ → Size → Type 0) (p y : ℕ) (d e : Draft) → Keeps R (Marked (others y p)) S C d e → y < d.points → label_at e.labels y ≡ label_at d.labels y
spared S C p y d e h lt = by (h.labels y lt) where
  by : {A : Type 0} → Among y (others y p) ⊎ A → A
  by (inl a) = absurd (others_not y p a)
  by (inr a) = a

-- ---- what is known of a part

-- Of a part from p up to r with these labels, regions and objects, in the end of which the marks have their labels, and n objects were declared before it, k in it.
pub record KnownBy (g : Whole) (o : Final) (x : Exits) (m : Marks) (t : Mark → ℕ) (n k : ℕ) (p : ℕ) (rs : List Region) (r : ℕ) (js : List Label) (us : List Region) (zs : List ℕ) : Type 0 where
  pub once : (b : Mark) → IsMark m b → t b ≤ 1
  pub apart : (b c : Mark) → IsMark m b → IsMark m c → mark_point b x ≡ mark_point c x → b ≡ c
  pub below : AreBelow x m p
  pub labels : (b : Mark) → IsMark m b → (t b ≡ 0 → ⊥) → label_at o.labels (mark_point b x) ≡ label_at js (mark_point b x)
  -- points that are made where no region is taken
  pub points : (b c : ℕ) (ts : List Region) (q : ℕ) → ForthBy g p b rs ts → c ≤ r → Later c ts us → b ≤ q → q < c → label_at o.labels q ≡ label_at js q
  pub objects : (i : ℕ) → n ≤ i → i < n + k → (i < o.objects) × (o.numbers i ≡ object_at zs i)
  pub room : r ≤ length js
  pub slots : n + k ≤ length zs
  pub left : x.left < p

abbrev pub Known : Whole → Final → Exits → Marks → (Mark → ℕ) → (n k : ℕ) → Draft → Draft → Type 0
Known g o x m t n k d e = KnownBy g o x m t n k d.points d.regions e.points e.labels e.regions e.objects

later_then : (c p : ℕ) (ts us vs : List Region) → c ≤ p → Later c ts us → Later p us vs → Later c ts vs
later_then c p ts us vs le a b m = by (a m) (b m) where
  by : (c ≤ (region_at us m).points) ⊎ (region_at us m ≡ region_at ts m) → (p ≤ (region_at vs m).points) ⊎ (region_at vs m ≡ region_at us m) → (c ≤ (region_at vs m).points) ⊎ (region_at vs m ≡ region_at ts m)
  by y (inl h) = inl (omega (arith, le, h))
  by (inl h) (inr e) = let z = ap (λ (r : Region). r.points) e in inl (omega (arith, h, z))
  by (inr y) (inr e) = inr (e ∙ y)

-- a part of it: behind it marks stand as often as u says, and objects from n + k on
pub part_known : {R : Label → Label → Type 0} (g : Whole) (o : Final) (x : Exits) (m : Marks) (w t u : Mark → ℕ) (n k l j : ℕ) (d b e f : Draft) → Known g o x m w l j d f → ((c : Mark) → t c + u c ≤ w c) → l ≤ n → n + k ≤ l + j
    → Forth g d b → b.points ≤ e.points → Spares R g x m u (n + k) d.points e f → Known g o x m t n k b e
part_known {R} g o x m w t u n k l j d b e f h each from to before le rest = record {
  once = λ c is. let y = h.once c is in let z = each c in omega (arith, y, z);
  apart = h.apart;
  below = λ c is. let y = h.below c is in let z = before.points in omega (arith, y, z);
  labels = λ c is some. h.labels c is (λ e. some (let z = each c in omega (arith, e, z))) ∙ mark_stays c is some;
  points = λ i c ts q first last later low high.
      h.points i c ts q (forth_then g before first) (let z = end.points in omega (arith, last, z)) (later_then c e.points ts e.regions f.regions last later (later_of e.regions f.regions end.regions)) low high
      ∙ stays q (λ c is some at'. let z = h.below c is in let y = before.points in let v = first.points in absurd (omega (arith, z, at', low, y, v))) (omega (arith, high, last));
  objects = λ i low high. let z = h.objects i (omega (arith, low, from)) (omega (arith, high, to)) in (z.0, z.1 ∙ object_stays i high (end.objects i));
  room = let z = h.room in let y = end.points in let v = end.size in omega (arith, z, y, v);
  slots = let z = h.slots in let y = end.slots in omega (arith, z, to, y);
  left = let z = h.left in let y = before.points in omega (arith, z, y);
} where
  stays : (q : ℕ) → IsUnset x m u q → q < e.points → label_at f.labels q ≡ label_at e.labels q
  stays q unset lt = spared (λ i. n + k ≤ i) (Sized g) d.points q e f (rest q unset) lt

  mark_stays : (c : Mark) → IsMark m c → (t c ≡ 0 → ⊥) → label_at f.labels (mark_point c x) ≡ label_at e.labels (mark_point c x)
  mark_stays c is some =
      stays (mark_point c x) (λ v there more same. more (one_alone v there same)) (let z = h.below c is in let y = before.points in omega (arith, z, y, le)) where
        one_alone : (v : Mark) → IsMark m v → mark_point v x ≡ mark_point c x → u v ≡ 0
        one_alone v there same = subst (λ i. u i ≡ 0) (sym (h.apart v c there is same)) (none (t c) (u c) some (let y = h.once c is in let z = each c in omega (arith, y, z))) where
          none : (a b : ℕ) → (a ≡ 0 → ⊥) → a + b ≤ 1 → b ≡ 0
          none zero b some le = absurd (some refl)
          none (suc a) b some le = omega (arith, le)

  end : Keeps R (Marked (others d.points d.points)) (λ i. n + k ≤ i) (Sized g) e f
  end = rest d.points (λ c is some same. let z = h.below c is in absurd (omega (arith, z, same)))

  object_stays : (i : ℕ) → i < n + k → (n + k ≤ i) ⊎ (object_at f.objects i ≡ object_at e.objects i) → object_at f.objects i ≡ object_at e.objects i
  object_stays i lt (inl le) = absurd (omega (arith, lt, le))
  object_stays i lt (inr same) = same

-- up to its end
pub rest_known : (g : Whole) (o : Final) (x : Exits) (m : Marks) (w t : Mark → ℕ) (n k l j : ℕ) (d b f : Draft) → Known g o x m w l j d f → ((c : Mark) → t c ≤ w c) → l ≤ n → n + k ≤ l + j → Forth g d b → b.points ≤ f.points → Known g o x m t n k b f
rest_known g o x m w t n k l j d b f h each from to before le =
    part_known g o x m w t (λ c. 0) n k l j d b f f h (λ c. let z = each c in omega (arith, z)) from to before le (nothing_spares g x m (λ c. 0) (n + k) d.points f)

-- in a loop
pub below_inside : (x : Exits) (m : Marks) (p b k : ℕ) → AreBelow x m p → AreBelow (inside b k x) m p
below_inside x m p b k h c is = subst (λ q. q < p) (sym (point_inside c b k x)) (h c is)

pub known_inside : (g : Whole) (o : Final) (x : Exits) (m : Marks) (t : Mark → ℕ) (n k i j : ℕ) (d e : Draft) → Known g o x m t n k d e → Known g o (inside i j x) m t n k d e
known_inside g o x m t n k i j d e h = record {
  once = h.once;
  apart = λ b c is also same. h.apart b c is also (sym (point_inside b i j x) ∙ same ∙ point_inside c i j x);
  below = below_inside x m d.points i j h.below;
  labels = λ c is some. subst (λ q. label_at o.labels q ≡ label_at e.labels q) (sym (point_inside c i j x)) (h.labels c is some);
  points = h.points;
  objects = h.objects;
  room = h.room;
  slots = h.slots;
  left = h.left;
}

-- the label of a mark that stands nowhere behind
pub marked_here : (g : Whole) (o : Final) (x : Exits) (m : Marks) (w t : Mark → ℕ) (n k : ℕ) (q : Pos) (d e : Draft) (b : Mark) → Known g o x m w n k d e → IsMark m b → 1 + t b ≤ w b
    → Spares Stays g x m t n d.points (come (mark_point b x) (on q d)) e → IsMarkedAt o (mark_point b x) (on q d)
marked_here g o x m w t n k q d e b h is counts rest = h.labels b is (λ z. absurd (omega (arith, z, counts))) ∙ spared (λ i. n ≤ i) (Sized g) d.points y (come y (on q d)) e kept low ∙ set_same d.labels y (on q d).here room where
  y : ℕ
  y = mark_point b x

  low : y < d.points
  low = h.below b is

  none : t b ≡ 0
  none = let z = h.once b is in omega (arith, z, counts)

  kept : Keeps Stays (Marked (others y d.points)) (λ i. n ≤ i) (Sized g) (come y (on q d)) e
  kept = rest y (λ c there some same. some (subst (λ v. t v ≡ 0) (sym (h.apart c b there is same)) none))

  room : y < length d.labels
  room = let z = h.room in let u = kept.points in let v = kept.size in let s = length-set d.labels y (on q d).here in omega (arith, low, z, u, v, s)
