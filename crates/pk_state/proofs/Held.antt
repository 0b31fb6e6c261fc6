-- What is made of a layout's facts are facts of the layout.
use Rattle.std.specs.Prelude.{◌≡◌, ℕ, ◌<◌, ◌&&◌, Bool, true, false, if◌then◌else◌, ℤ, pos, ◌-ℤ◌, ◌≤ℤ◌, int_le, List, length, Option, Some, None}
use Rattle.std.specs.Ordering.{int_eq}
use Rattle.std.proofs.Common.{◌∙◌, refl, sym, arith, inr}
use Rattle.std.proofs.lemmas.Int.{ints, clamps}
use Rattle.pk_ctypes.specs.declared.types.IntType.{IntType}
use Rattle.pk_interval.specs.Ranges.{Range, range_from}
use Rattle.pk_interval.specs.Widening.{narrowed_if, narrowed_low, narrowed_high}
use Rattle.pk_interval.proofs.Keeping.{stays}
use Rattle.pk_interval.proofs.Ends.{within}
use Rattle.pk_congr.specs.Classes.{Class, IsReduced, is_held, every, class_of, class_if, int_gcd}
use Rattle.pk_congr.specs.Classes as classes
use Rattle.pk_ctypes.proofs.Small.{both_true}
use Rattle.pk_congr.proofs.Numbers.{class_reduced, test_held}
use Rattle.pk_value.specs.Known.{Known}
use Rattle.pk_value.specs.Known as known
use Rattle.pk_octmat.specs.Octagon.{Octagon}
use Rattle.pk_blocks.specs.Rows.{merged_from}
use Rattle.pk_blocks.proofs.Merging.{merged_length}
use Rattle.pk_octagons.specs.Values.{type_at, known_at, AreValues, IsValue}
use Rattle.pk_octagons.specs.Octagons.{AreOctagons}
use Rattle.pk_octagons.specs.Changes.{then_with}
use Rattle.pk_octagons.specs.Reduced.{closed_octagons, bounded_values}
use Rattle.pk_octagons.proofs.Bounding.{value_at}
use Rattle.pk_octagons.proofs.Stay.{octagons_stay}
use Rattle.pk_state.specs.Layouts.{Layout, IsLayout}
use Rattle.pk_state.specs.Facts.{Facts, AreFactsIf, joined, widened, narrowed}
use Rattle.pk_state.specs.Reduced.{red_all, with_closed, reduced}
use Rattle.pk_state.specs.Members.{FactsStay}
use Rattle.pk_state.proofs.Lists.{merged_at}
use Rattle.pk_state.proofs.Reds.{reds_of}
use Rattle.pk_state.proofs.Stays.{red_value}

-- ---- one value

pub every_reduced : IsReduced every.m every.r
every_reduced = record { from = omega (arith, ints); rest = inr (omega (arith, ints), omega (arith, ints)); modulus_held = omega arith; rest_held = omega arith }

class_if_reduced : (m r : ℤ) → pos 0 ≤ℤ m → IsReduced (class_if m r).m (class_if m r).r
class_if_reduced m r h = by (is_held m && is_held r) refl
  where
    by : (b : Bool) → (is_held m && is_held r) ≡ b → IsReduced (if b then class_of m r else every).m (if b then class_of m r else every).r
    by true e = let both = both_true (is_held m) (is_held r) e in class_reduced m r h (test_held m both.0) (test_held r both.1)
    by false e = every_reduced

joined_class : (a b : Class) → IsReduced (classes.joined a b).m (classes.joined a b).r
joined_class a b = class_if_reduced (int_gcd (int_gcd a.m b.m) (a.r -ℤ b.r)) a.r (omega (arith, ints))

joined_value : (t : IntType) (a b : Known) → IsValue t a → IsValue t b → IsValue t (known.joined a b)
joined_value t a b h k = record { inside = stays.joins t a.range b.range h.inside k.inside; some = omega (arith, ints, clamps, h.some, k.some); class = joined_class a.class b.class }

widened_value : (t : IntType) (cs : List ℤ) (h n : Known) → IsValue t h → IsValue t n → IsValue t (known.widened t cs h n)
widened_value t cs h n k m =
    let ends = within t cs h.range n.range k.inside m.inside in
    record { inside = stays.widenings t cs h.range n.range k.inside m.inside; some = omega (arith, ints, ends.0, ends.2, k.some); class = joined_class h.class n.class }

narrowed_class : (h n : Class) → IsReduced h.m h.r → IsReduced n.m n.r → IsReduced (classes.narrowed h n).m (classes.narrowed h n).r
narrowed_class h n k m = by (int_eq h.m (pos 1))
  where
    by : (b : Bool) → IsReduced (if b then n else h).m (if b then n else h).r
    by true = m
    by false = k

narrowed_some : (h : Range) (lo hi : ℤ) → h.lo ≤ℤ h.hi → (narrowed_if (range_from lo hi) h).lo ≤ℤ (narrowed_if (range_from lo hi) h).hi
narrowed_some h lo hi k = by (int_le lo hi) refl
  where
    by : (b : Bool) → int_le lo hi ≡ b → (narrowed_if (let r : Range = record { lo = lo; hi = hi } in if b then Some r else None) h).lo ≤ℤ (narrowed_if (let r : Range = record { lo = lo; hi = hi } in if b then Some r else None) h).hi
    by true e = omega (arith, ints, e)
    by false e = k

narrowed_value : (t : IntType) (h n : Known) → IsValue t h → IsValue t n → IsValue t (known.narrowed t h n)
narrowed_value t h n k m = record { inside = stays.narrowings t h.range n.range k.inside m.inside; some = narrowed_some h.range (narrowed_low t h.range.lo n.range.lo) (narrowed_high t h.range.hi n.range.hi) k.some; class = narrowed_class h.class n.class k.class m.class }

-- ---- all of them

pub values_from : (types : List IntType) (vs : List Known) → length vs ≡ length types → ((x : ℕ) → x < length vs → IsValue (type_at types x) (known_at vs x)) → AreValues types vs
values_from types vs e h = record { size = e; inside = λ x p. (h x p).inside; some = λ x p. (h x p).some; classes = λ x p. (h x p).class }

merged_values : (types : List IntType) (f : ℕ → Known → Known → Known) (xs ys : List Known) → AreValues types xs → AreValues types ys → ((x : ℕ) (a b : Known) → IsValue (type_at types x) a → IsValue (type_at types x) b → IsValue (type_at types x) (f x a b)) → AreValues types (merged_from f 0 xs ys)
merged_values types f xs ys h k each =
    let e : length xs ≡ length ys = h.size ∙ sym k.size in
    values_from types (merged_from f 0 xs ys) (merged_length f 0 xs ys e ∙ h.size)
    (λ x p. let here : x < length xs = omega (arith, p, merged_length f 0 xs ys e) in
    rw (merged_at f 0 xs ys x x here e (omega arith)) (each x (known_at xs x) (known_at ys x) (value_at types xs x h here) (value_at types ys x k (omega (arith, here, e)))))

pub reds_values : (types : List IntType) (vs ws : List Known) → AreValues types vs → red_all vs ≡ Some ws → AreValues types ws
reds_values types vs ws h e =
    let r = reds_of vs ws e in
    values_from types ws (r.size ∙ h.size) (λ x p. let here : x < length vs = omega (arith, p, r.size) in red_value (type_at types x) (known_at vs x) (known_at ws x) (value_at types vs x h here) (r.each x here))

-- ---- facts

joins : (l : Layout) (a b : Option Facts) → AreFactsIf l a → AreFactsIf l b → AreFactsIf l (joined a b)
joins l None b h k = k
joins l (Some a) None h k = h
joins l (Some a) (Some b) h k = record {
  values = merged_values l.types (λ x. known.joined) a.values b.values h.values k.values (λ x u v p q. joined_value (type_at l.types x) u v p q);
  octagons = octagons_stay.joins l.packs a.octagons b.octagons h.octagons k.octagons;
}

widenings : (l : Layout) (thresholds : List ℤ) (h n : Option Facts) → AreFactsIf l h → AreFactsIf l n → AreFactsIf l (widened l thresholds h n)
widenings l cs None n h k = k
widenings l cs (Some a) None h k = h
widenings l cs (Some a) (Some b) h k = record {
  values = merged_values l.types (λ x. known.widened (type_at l.types x) cs) a.values b.values h.values k.values (λ x u v p q. widened_value (type_at l.types x) cs u v p q);
  octagons = octagons_stay.widenings l.packs a.octagons b.octagons h.octagons k.octagons;
}

narrowings : (l : Layout) (h n : Option Facts) → AreFactsIf l h → AreFactsIf l n → AreFactsIf l (narrowed l h n)
narrowings l None n h k = tt
narrowings l (Some a) None h k = h
narrowings l (Some a) (Some b) h k = record {
  values = merged_values l.types (λ x. known.narrowed (type_at l.types x)) a.values b.values h.values k.values (λ x u v p q. narrowed_value (type_at l.types x) u v p q);
  octagons = octagons_stay.narrowings l.packs a.octagons b.octagons h.octagons k.octagons;
}

closed_stays : (l : Layout) (vs : List Known) (ms : List Octagon) → IsLayout l → AreValues l.types vs → AreOctagons l.packs ms → AreFactsIf l (with_closed l vs ms)
closed_stays l vs ms h a o = by (bounded_values l.packs ms vs) refl
  where
    last : (ws : List Known) → AreValues l.types ws → (p : Option (List Known)) → red_all ws ≡ p → AreFactsIf l (then_with p (λ us. let f : Facts = record { values = us; octagons = ms } in Some f))
    last ws b None e = tt
    last ws b (Some us) e = record { values = reds_values l.types ws us b e; octagons = o }

    by : (p : Option (List Known)) → bounded_values l.packs ms vs ≡ p → AreFactsIf l (then_with p (λ ws. then_with (red_all ws) (λ us. let f : Facts = record { values = us; octagons = ms } in Some f)))
    by None e = tt
    by (Some ws) e = last ws (octagons_stay.bounded l.types l.packs ms vs ws h a e) (red_all ws) refl

reductions : (l : Layout) (f : Option Facts) → IsLayout l → AreFactsIf l f → AreFactsIf l (reduced l f)
reductions l None h a = tt
reductions l (Some f) h a = by (red_all f.values) refl
  where
    closed : (vs : List Known) → AreValues l.types vs → (o : Option (List Octagon)) → closed_octagons l.packs vs f.octagons ≡ o → AreFactsIf l (then_with o (with_closed l vs))
    closed vs b None e = tt
    closed vs b (Some ms) e = closed_stays l vs ms h b (octagons_stay.closed l.packs vs f.octagons ms a.octagons e)

    by : (o : Option (List Known)) → red_all f.values ≡ o → AreFactsIf l (then_with o (λ vs. then_with (closed_octagons l.packs vs f.octagons) (with_closed l vs)))
    by None e = tt
    by (Some vs) e = closed vs (reds_values l.types f.values vs a.values e) (closed_octagons l.packs vs f.octagons) refl

pub facts_stay : FactsStay
facts_stay = record { joins = joins; widenings = widenings; narrowings = narrowings; reductions = reductions }
