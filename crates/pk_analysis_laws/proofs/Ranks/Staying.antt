-- What is made of states is a state.
use Rattle.std.specs.Prelude.{◌≡◌, ℕ, ◌<◌, Bool, true, false, if◌then◌else◌, ℤ, pos, List, length, Option, Some, None}
use Rattle.std.specs.Ordering.{int_eq}
use Rattle.std.proofs.Common.{◌∙◌, refl, sym, arith}
use Rattle.pk_ctypes.specs.declared.types.IntType.{IntType}
use Rattle.pk_congr.specs.Classes.{Class}
use Rattle.pk_congr.specs.Classes as classes
use Rattle.pk_congr.specs.Laws.{IsOf}
use Rattle.pk_congr.proofs.Keeping.{unchanged}
use Rattle.pk_value.specs.Known.{Known}
use Rattle.pk_value.specs.Known as known
use Rattle.pk_value.proofs.Tight.{tight_is_reduced, class_of_tight}
use Rattle.pk_octmat.specs.Octagon.{Octagon}
use Rattle.pk_blocks.specs.Rows.{merged_from}
use Rattle.pk_blocks.proofs.Merging.{merged_length}
use Rattle.pk_octagons.specs.Values.{type_at, known_at, AreValues}
use Rattle.pk_octagons.specs.Changes.{then_with}
use Rattle.pk_octagons.specs.Reduced.{closed_octagons, bounded_values}
use Rattle.pk_octagons.proofs.Stay.{octagons_stay}
use Rattle.pk_state.specs.Layouts.{Layout, IsLayout}
use Rattle.pk_state.specs.Facts.{Facts, AreFacts, AreFactsIf, joined, widened, narrowed}
use Rattle.pk_state.specs.Reduced.{red_all, with_closed, reduced}
use Rattle.pk_state.proofs.Lists.{merged_at}
use Rattle.pk_state.proofs.Reds.{HaveModuli, reds_of}
use Rattle.pk_state.proofs.Held.{facts_stay, reds_values}
use Rattle.pk_analysis_laws.specs.Ranks.States.{IsStateOf, StatesStay}

-- ---- part by part

merged_classes : (l : Layout) (f : ℕ → Known → Known → Known) (xs ys : List Known) → length xs ≡ length ys → ((x : ℕ) → x < length xs → IsOf (type_at l.types x) (known_at xs x).class) → ((x : ℕ) → x < length ys → IsOf (type_at l.types x) (known_at ys x).class)
    → ((x : ℕ) (a b : Known) → IsOf (type_at l.types x) a.class → IsOf (type_at l.types x) b.class → IsOf (type_at l.types x) (f x a b).class) → (x : ℕ) → x < length (merged_from f 0 xs ys) → IsOf (type_at l.types x) (known_at (merged_from f 0 xs ys) x).class
merged_classes l f xs ys e h k each x p =
    let here : x < length xs = omega (arith, p, merged_length f 0 xs ys e) in
    rw (merged_at f 0 xs ys x x here e (omega arith)) (each x (known_at xs x) (known_at ys x) (h x here) (k x (omega (arith, here, e))))

narrowed_class : (t : IntType) (h n : Class) → IsOf t h → IsOf t n → IsOf t (classes.narrowed h n)
narrowed_class t h n f g = by (int_eq h.m (pos 1))
  where
    by : (b : Bool) → IsOf t (if b then n else h)
    by true = g
    by false = f

as_many : (l : Layout) (a b : Facts) → AreFacts l a → AreFacts l b → length a.values ≡ length b.values
as_many l a b h k = h.values.size ∙ sym k.values.size

joins : (l : Layout) (a b : Option Facts) → IsStateOf l a → IsStateOf l b → IsStateOf l (joined a b)
joins l None b h k = k
joins l (Some a) None h k = h
joins l (Some a) (Some b) h k = record {
  facts = facts_stay.joins l (Some a) (Some b) h.facts k.facts;
  classes = merged_classes l (λ x. known.joined) a.values b.values (as_many l a b h.facts k.facts) h.classes k.classes (λ x u v p q. unchanged.widened_of (type_at l.types x) u.class v.class p q);
}

widenings : (l : Layout) (cs : List ℤ) (h n : Option Facts) → IsStateOf l h → IsStateOf l n → IsStateOf l (widened l cs h n)
widenings l cs None n h k = k
widenings l cs (Some a) None h k = h
widenings l cs (Some a) (Some b) h k = record {
  facts = facts_stay.widenings l cs (Some a) (Some b) h.facts k.facts;
  classes = merged_classes l (λ x. known.widened (type_at l.types x) cs) a.values b.values (as_many l a b h.facts k.facts) h.classes k.classes (λ x u v p q. unchanged.widened_of (type_at l.types x) u.class v.class p q);
}

narrowings : (l : Layout) (h n : Option Facts) → IsStateOf l h → IsStateOf l n → IsStateOf l (narrowed l h n)
narrowings l None n h k = tt
narrowings l (Some a) None h k = h
narrowings l (Some a) (Some b) h k = record {
  facts = facts_stay.narrowings l (Some a) (Some b) h.facts k.facts;
  classes = merged_classes l (λ x. known.narrowed (type_at l.types x)) a.values b.values (as_many l a b h.facts k.facts) h.classes k.classes (λ x u v p q. narrowed_class (type_at l.types x) u.class v.class p q);
}

-- ---- reductions

-- what is reduced is tight, and a tight value in a type has a class of it
reduced_classes : (l : Layout) (vs ws : List Known) → HaveModuli vs → red_all vs ≡ Some ws → AreValues l.types ws → (x : ℕ) → x < length ws → IsOf (type_at l.types x) (known_at ws x).class
reduced_classes l vs ws m e v x p =
    let r = reds_of vs ws e in
    let here : x < length vs = omega (arith, p, r.size) in
    class_of_tight (type_at l.types x) (known_at ws x) (v.inside x p) (v.classes x p) (tight_is_reduced.tight (known_at vs x) (known_at ws x) (m.each x here) (r.each x here))

moduli_of : (l : Layout) (vs : List Known) → AreValues l.types vs → HaveModuli vs
moduli_of l vs v = record { each = λ x p. (v.classes x p).from }

closed_state : (l : Layout) (vs : List Known) (ms : List Octagon) → IsLayout l → AreValues l.types vs → AreFactsIf l (with_closed l vs ms) → IsStateOf l (with_closed l vs ms)
closed_state l vs ms lay are facts = by (bounded_values l.packs ms vs) refl facts
  where
    last : (ws : List Known) → HaveModuli ws → (o : Option (List Known)) → red_all ws ≡ o → AreFactsIf l (then_with o (λ us. let f : Facts = record { values = us; octagons = ms } in Some f)) → IsStateOf l (then_with o (λ us. let f : Facts = record { values = us; octagons = ms } in Some f))
    last ws n None e a = tt
    last ws n (Some us) e a = record { facts = a; classes = reduced_classes l ws us n e a.values }

    by : (o : Option (List Known)) → bounded_values l.packs ms vs ≡ o → AreFactsIf l (then_with o (λ ws. then_with (red_all ws) (λ us. let f : Facts = record { values = us; octagons = ms } in Some f)))
        → IsStateOf l (then_with o (λ ws. then_with (red_all ws) (λ us. let f : Facts = record { values = us; octagons = ms } in Some f)))
    by None e a = tt
    by (Some ws) e a = last ws (moduli_of l ws (octagons_stay.bounded l.types l.packs ms vs ws lay are e)) (red_all ws) refl a

reductions : (l : Layout) (f : Option Facts) → IsLayout l → AreFactsIf l f → IsStateOf l (reduced l f)
reductions l None lay a = tt
reductions l (Some f) lay a = by (red_all f.values) refl (facts_stay.reductions l (Some f) lay a)
  where
    closed : (vs : List Known) → AreValues l.types vs → (o : Option (List Octagon)) → AreFactsIf l (then_with o (with_closed l vs)) → IsStateOf l (then_with o (with_closed l vs))
    closed vs are None b = tt
    closed vs are (Some ms) b = closed_state l vs ms lay are b

    by : (o : Option (List Known)) → red_all f.values ≡ o → AreFactsIf l (then_with o (λ vs. then_with (closed_octagons l.packs vs f.octagons) (with_closed l vs)))
        → IsStateOf l (then_with o (λ vs. then_with (closed_octagons l.packs vs f.octagons) (with_closed l vs)))
    by None e b = tt
    by (Some vs) e b = closed vs (reds_values l.types f.values vs a.values e) (closed_octagons l.packs vs f.octagons) b

pub states_stay : StatesStay
states_stay = record { joins = joins; widenings = widenings; narrowings = narrowings; reductions = reductions }
