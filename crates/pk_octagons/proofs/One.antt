-- One octagon, and octagons that rest.
use Rattle.std.specs.Prelude.{◌≡◌, ◌↔◌, ℕ, zero, suc, ◌<◌, ℤ, pos, int_lt, Bool, true, false, ◌&&◌, ◌||◌, if◌then◌else◌, List, [], ◌∷◌, length, Option, Some, None, option_map}
use Rattle.std.proofs.Common.{◌∙◌, ap, refl, sym, arith}
use Rattle.pk_value.specs.Known.{Known}
use Rattle.pk_octmat.specs.Bounds.{lesser}
use Rattle.pk_octmat.specs.Octagon.{Octagon, entry}
use Rattle.pk_octclose.specs.Places.{closing_of}
use Rattle.pk_octops.specs.Assigns.{assignment_of}
use Rattle.pk_octops.specs.Guards.{guard_of}
use Rattle.pk_octops.specs.Tables.{IsBelow}
use Rattle.pk_octagons.specs.Packs.{is_over, side_in, side_over}
use Rattle.pk_octagons.specs.Octagons.{octagon_at, AreOctagons, AreBelow}
use Rattle.pk_octagons.specs.Changes.{then_with, or_else, changed_at, guarded_octagons, bound_in}
use Rattle.pk_octagons.specs.Reduced.{by_ranges, with_first, closed_octagons, bounded_all, bounded_values, AreResting, BoundNone}
use Rattle.pk_octagons.specs.Laws.{RestingStay, OneIsItself}
use Rattle.pk_octagons.proofs.Resting.{resting_closed, none_bounds}
use Rattle.pk_octagons.proofs.Sound.{first_of, no_octagons, no_packs}

below : (m n : Octagon) → AreBelow (m ∷ []) (n ∷ []) ↔ IsBelow m n
below m n = (λ h. h 0 (omega arith), λ h p q. one p q h)
  where
    one : (p : ℕ) → p < 1 → IsBelow m n → IsBelow (octagon_at (m ∷ []) p) (octagon_at (n ∷ []) p)
    one zero q h = h
    one (suc p) q h = absurd (omega (arith, q))

tested : (chosen : List ℕ) (m : Octagon) (c : ℤ) (over : List ℕ) → is_over over chosen ≡ true → guarded_octagons (chosen ∷ []) (m ∷ []) None None c over ≡ option_map (λ r. r ∷ []) (guard_of m None None c)
tested chosen m c over h = ap (λ t. if int_lt c (pos 0) && (t || false) then None else Some (m ∷ [])) h ∙ by (int_lt c (pos 0))
  where
    by : (b : Bool) → (if b && true then None else Some (m ∷ [])) ≡ option_map (λ (r : Octagon). r ∷ []) (if b then None else Some m)
    by true = refl
    by false = refl

-- the place of a term, where the pack is over each variable, and where it isn't
over_side : (over chosen : List ℕ) → is_over over chosen ≡ true → (t : ℕ) → side_over over chosen t ≡ side_in chosen t
over_side over chosen h t = ap (λ b. if b then side_in chosen t else None) h

less_side : (over chosen : List ℕ) → is_over over chosen ≡ false → (t : ℕ) → side_over over chosen t ≡ None
less_side over chosen h t = ap (λ b. if b then side_in chosen t else None) h

over_term : (over chosen : List ℕ) → is_over over chosen ≡ true → (t : Option ℕ) → then_with t (side_over over chosen) ≡ then_with t (side_in chosen)
over_term over chosen h None = refl
over_term over chosen h (Some t) = over_side over chosen h t

less_term : (over chosen : List ℕ) → is_over over chosen ≡ false → (t : Option ℕ) → then_with t (side_over over chosen) ≡ None
less_term over chosen h None = refl
less_term over chosen h (Some t) = less_side over chosen h t

unguarded : (chosen : List ℕ) (m : Octagon) (a b : Option ℕ) (c : ℤ) (over : List ℕ) → is_over over chosen ≡ false → guarded_octagons (chosen ∷ []) (m ∷ []) a b c over ≡ Some (m ∷ [])
unguarded chosen m None b c over h = ap (λ t. if int_lt c (pos 0) && (t || false) then None else Some (m ∷ [])) h ∙ by (int_lt c (pos 0))
  where
    by : (b : Bool) → (if b && false then None else Some (m ∷ [])) ≡ Some (m ∷ [])
    by true = refl
    by false = refl
unguarded chosen m (Some a) None c over h = ap (λ o. Some (changed_at o m (λ p. or_else m (guard_of m (Some p) None c)) ∷ [])) (less_side over chosen h a)
unguarded chosen m (Some a) (Some b) c over h = ap (λ o. Some (changed_at o m (λ p. changed_at (side_over over chosen b) m (λ q. or_else m (guard_of m (Some p) (Some q) c))) ∷ [])) (less_side over chosen h a)

told : (chosen : List ℕ) (m : Octagon) (a b i j : ℕ) → side_in chosen a ≡ Some i → side_in chosen b ≡ Some j → bound_in (chosen ∷ []) (m ∷ []) a b ≡ entry m i j
told chosen m a b i j e f = ap (λ o. lesser (then_with o (λ u. then_with (side_in chosen b) (entry m u))) None) e ∙ ap (λ o. lesser (then_with o (entry m i)) None) f ∙ none (entry m i j)
  where
    none : (o : Option ℤ) → lesser o None ≡ o
    none None = refl
    none (Some z) = refl

closed : (chosen : List ℕ) (vs : List Known) (m : Octagon) → closed_octagons (chosen ∷ []) vs (m ∷ []) ≡ option_map (λ r. r ∷ []) (closing_of (by_ranges chosen vs (length chosen) m))
closed chosen vs m = by (closing_of (by_ranges chosen vs (length chosen) m))
  where
    by : (o : Option Octagon) → with_first o (Some []) ≡ option_map (λ r. r ∷ []) o
    by None = refl
    by (Some r) = refl

limited : (chosen : List ℕ) (vs : List Known) (m : Octagon) → bounded_values (chosen ∷ []) (m ∷ []) vs ≡ bounded_all chosen m (length chosen) vs
limited chosen vs m = by (bounded_all chosen m (length chosen) vs)
  where
    by : (o : Option (List Known)) → then_with o (bounded_values [] []) ≡ o
    by None = refl
    by (Some ws) = refl

pub one_is_itself : OneIsItself
one_is_itself = record {
  joined = λ m n. refl;
  widened = λ h n. refl;
  narrowed = λ h n. refl;
  below = below;
  assigned = λ chosen m x k t c over e h.
      ap (λ o. changed_at o m (λ p. assignment_of m p (then_with t (side_over over chosen)) c) ∷ []) e ∙ ap (λ u. assignment_of m k u c ∷ []) (over_term over chosen h t);
  forgotten = λ chosen m x k t c over e h.
      ap (λ o. changed_at o m (λ p. assignment_of m p (then_with t (side_over over chosen)) c) ∷ []) e ∙ ap (λ u. assignment_of m k u c ∷ []) (less_term over chosen h t);
  apart = λ chosen m x t c over e. ap (λ o. changed_at o m (λ p. assignment_of m p (then_with t (side_over over chosen)) c) ∷ []) e;
  tested = tested;
  bounded = λ chosen m a i c over e h. ap (λ o. Some (changed_at o m (λ p. or_else m (guard_of m (Some p) None c)) ∷ [])) (over_side over chosen h a ∙ e);
  related = λ chosen m a b i j c over e f h.
      ap (λ o. Some (changed_at o m (λ p. changed_at (side_over over chosen b) m (λ q. or_else m (guard_of m (Some p) (Some q) c))) ∷ [])) (over_side over chosen h a ∙ e)
      ∙ ap (λ o. Some (changed_at o m (λ q. or_else m (guard_of m (Some i) (Some q) c)) ∷ [])) (over_side over chosen h b ∙ f);
  unguarded = unguarded;
  told = told;
  closed = closed;
  limited = limited;
  meets = λ chosen m x. (λ h. h.0, λ h. (h, tt));
}

-- ---- what rests

rests : (packs : List (List ℕ)) (vs : List Known) (ms : List Octagon) → AreOctagons packs ms → AreResting packs vs ms → closed_octagons packs vs ms ≡ Some ms
rests [] vs [] h r = refl
rests [] vs (m ∷ ms) h r = no_packs m ms h
rests (c ∷ packs) vs [] h r = no_octagons c packs h
rests (c ∷ packs) vs (m ∷ ms) h r =
    let own = first_of c packs m ms h in
    ap (λ o. with_first o (closed_octagons packs vs ms)) (sym (resting_closed c vs m own.octagon (r 0 (omega arith)))) ∙ ap (with_first (Some m)) (rests packs vs ms own.rest (λ p q. r (suc p) (omega (arith, q))))

unbound : (packs : List (List ℕ)) (vs : List Known) (ms : List Octagon) → AreOctagons packs ms → BoundNone packs vs ms → bounded_values packs ms vs ≡ Some vs
unbound [] vs [] h r = refl
unbound [] vs (m ∷ ms) h r = no_packs m ms h
unbound (c ∷ packs) vs [] h r = no_octagons c packs h
unbound (c ∷ packs) vs (m ∷ ms) h r =
    ap (λ o. then_with o (bounded_values packs ms)) (none_bounds c m (length c) vs (r 0 (omega arith))) ∙ unbound packs vs ms (first_of c packs m ms h).rest (λ p q. r (suc p) (omega (arith, q)))

pub resting_stay : RestingStay
resting_stay = record { closed = rests; bounded = unbound }
