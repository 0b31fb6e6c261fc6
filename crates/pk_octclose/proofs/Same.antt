-- Small octagons of few variables: the closing is that of the integers that meet them.
use Rattle.std.specs.Prelude.{◌≡◌, ℕ, ◌<◌, ◌≤◌, ◌*◌, ℤ, Option, Some, None}
use Rattle.std.proofs.Common.{◌∙◌, ap, refl, sym, subst}
use Rattle.pk_octmat.specs.Bounds.{AtMost}
use Rattle.pk_octmat.specs.Octagon.{Octagon, IsOctagon, HasEntries, Meets, entry}
use Rattle.pk_octmat.specs.declared.shape.Shape.TheVariants.{Kept}
use Rattle.pk_octmat.proofs.Tabled.{octagon_one}
use Rattle.pk_octmat.proofs.Tropical.{at_most_both}
use Rattle.pk_octpoints.proofs.Best.{has_point}
use Rattle.pk_octclose.specs.Closing.{IsSmall, KeepsPoints}
use Rattle.pk_octclose.specs.Places.{closing_of}
use Rattle.pk_octclose.specs.Same.{ClosingIsOfPoints}
use Rattle.pk_octclose.proofs.Best.{Closes, kept_best, kept_tight}
use Rattle.pk_octclose.proofs.Floyd.{closing_right}

-- what there is of a closing
closes : (m r : Octagon) → IsOctagon m → closing_of m ≡ Some r → Closes Kept m r
closes m r h e = record {
  whole = h;
  vars = closing_right.vars m r h e;
  kept = λ s. closing_right.some m r h e;
  points = λ s. closing_right.points m r h e;
  none = λ s x p. absurd (cc);
}

-- the bounds of the closing are at most those of any octagon that the same integers meet
lower : (a b r s : Octagon) → IsOctagon a → IsOctagon b → IsSmall a → a.vars ≤ 64 → ((x : ℕ → ℤ) → Meets (entry a) x → Meets (entry b) x) → closing_of a ≡ Some r → closing_of b ≡ Some s → (i j : ℕ) → i < 2 * a.vars → j < 2 * a.vars → AtMost (entry r i j) (entry s i j)
lower a b r s h g small few to e f =
    kept_best Kept a r (closes a r h e) small few refl (entry s) (λ x p. (closing_right.points b s g f).to x (to x p))

-- where there is a closing, some integers meet the octagon
not_none : (m r : Octagon) → IsOctagon m → IsSmall m → m.vars ≤ 64 → closing_of m ≡ Some r → ((x : ℕ → ℤ) → Meets (entry m) x → ⊥) → ⊥
not_none m r h small few e never =
    let w = has_point r (kept_tight Kept m r (closes m r h e) small few refl) in
    never w.point ((closing_right.points m r h e).from w.point w.meets)

none : (m : Octagon) → IsOctagon m → IsSmall m → m.vars ≤ 64 → ((x : ℕ → ℤ) → Meets (entry m) x → ⊥) → closing_of m ≡ None
none m h small few never = by (closing_of m) refl
  where
    by : (o : Option Octagon) → closing_of m ≡ o → closing_of m ≡ None
    by None e = e
    by (Some r) e = absurd (not_none m r h small few e never)

same : (a b : Octagon) → IsOctagon a → IsOctagon b → IsSmall a → IsSmall b → a.vars ≤ 64 → b.vars ≡ a.vars → KeepsPoints (entry a) (entry b) → closing_of a ≡ closing_of b
same a b h g small little few v k = by (closing_of a) refl (closing_of b) refl
  where
    less : b.vars ≤ 64
    less = subst (λ n. n ≤ 64) (sym v) few

    by : (o : Option Octagon) → closing_of a ≡ o → (p : Option Octagon) → closing_of b ≡ p → closing_of a ≡ closing_of b
    by None e None f = e ∙ sym f
    by None e (Some s) f = absurd (not_none b s g little less f (λ x p. closing_right.nothing a x h e (k.from x p)))
    by (Some r) e None f = absurd (not_none a r h small few e (λ x p. closing_right.nothing b x g f (k.to x p)))
    by (Some r) e (Some s) f = e ∙ ap (λ (o : Octagon). Some o) (octagon_one r s (closing_right.octagon a r h e) (closing_right.octagon b s g f) entries) ∙ sym f
      where
        first : r.vars ≡ a.vars
        first = closing_right.vars a r h e

        second : s.vars ≡ a.vars
        second = closing_right.vars b s g f ∙ v

        each : (i j : ℕ) → i < 2 * a.vars → j < 2 * a.vars → entry r i j ≡ entry s i j
        each i j id jd =
            at_most_both (entry r i j) (entry s i j) (lower a b r s h g small few k.to e f i j id jd)
            (lower b a s r g h little less k.from f e i j (subst (λ n. i < 2 * n) (sym v) id) (subst (λ n. j < 2 * n) (sym v) jd))

        entries : HasEntries s.vars (entry s) r
        entries = record { vars = first ∙ sym second; each = λ i j id jd. each i j (subst (λ n. i < 2 * n) second id) (subst (λ n. j < 2 * n) second jd) }

pub closing_of_points : ClosingIsOfPoints
closing_of_points = record { same = same; none = none }
