-- Facts that are settled are their own reduction, and stay so where a value of a variable is written that no octagon is over.
use Rattle.std.specs.Prelude.{◌≡◌, ◌≢◌, ◌⊎◌, ℕ, ◌<◌, List, [], length, Option, Some, None}
use Rattle.std.proofs.Common.{◌∙◌, ap, refl, sym, subst, arith, inl, inr, set, length-set}
use Rattle.std.proofs.lemmas.Bool.{cases_eq}
use Rattle.pk_ctypes.specs.declared.types.IntType.{IntType}
use Rattle.pk_value.specs.Known.{Known}
use Rattle.pk_value.specs.Laws.{IsTight}
use Rattle.pk_octmat.specs.Octagon.{Octagon}
use Rattle.pk_octagons.specs.Packs.{chosen_at, pack_at}
use Rattle.pk_octagons.specs.Values.{known_at, AreValues, IsListed, AreMarked}
use Rattle.pk_octagons.specs.Octagons.{AreOctagons}
use Rattle.pk_octagons.specs.Changes.{then_with}
use Rattle.pk_octagons.specs.Reduced.{closed_octagons, AreResting, BoundNone}
use Rattle.pk_octagons.specs.Members.{IsChosen}
use Rattle.pk_octagons.proofs.Lists.{known_same, known_other}
use Rattle.pk_octagons.proofs.One.{resting_stay}
use Rattle.pk_octagons.proofs.Chosen.{chosen_of}
use Rattle.pk_state.specs.Layouts.{Layout}
use Rattle.pk_state.specs.Facts.{Facts, AreFactsIf}
use Rattle.pk_state.specs.Reduced.{red_all, with_closed, reduced_facts, reduced}
use Rattle.pk_state.specs.Marks.{AreSettled}
use Rattle.pk_state.specs.Changes.{IsApart, with_known}
use Rattle.pk_state.proofs.Loose.{halfway_start, halfway_end}

-- tight values are their own reductions
pub tight_reduce : (types : List IntType) (vs : List Known) → AreValues types vs → AreMarked vs [] → red_all vs ≡ Some vs
tight_reduce types vs a t = sym (halfway_end types vs vs [] refl a (halfway_start vs [] t))

-- what closed octagons leave that bound no value
pub closed_rests : (l : Layout) (vs : List Known) (ms : List Octagon) → AreValues l.types vs → AreMarked vs [] → AreOctagons l.packs ms → BoundNone l.packs vs ms → with_closed l vs ms ≡ Some (record { values = vs; octagons = ms })
closed_rests l vs ms a t o h =
    ap (λ p. then_with p (λ ws. then_with (red_all ws) (λ us. let r : Facts = record { values = us; octagons = ms } in Some r))) (resting_stay.bounded l.packs vs ms o h)
    ∙ ap (λ p. then_with p (λ us. let r : Facts = record { values = us; octagons = ms } in Some r)) (tight_reduce l.types vs a t)

-- the reduction where all octagons rest
pub resting_reduction : (l : Layout) (f : Facts) (vs : List Known) → Some vs ≡ red_all f.values → AreOctagons l.packs f.octagons → AreResting l.packs vs f.octagons → with_closed l vs f.octagons ≡ reduced_facts l f
resting_reduction l f vs e o h =
    ap (λ p. then_with p (with_closed l vs)) (sym (resting_stay.closed l.packs vs f.octagons o h))
    ∙ ap (λ p. then_with p (λ ws. then_with (closed_octagons l.packs ws f.octagons) (with_closed l ws))) e

pub settled_reduced : (l : Layout) (o : Option Facts) → AreFactsIf l o → AreSettled l o → reduced l o ≡ o
settled_reduced l None a s = refl
settled_reduced l (Some f) a s =
    sym (resting_reduction l f f.values (sym (tight_reduce l.types f.values a.values s.tight)) a.octagons s.resting) ∙ closed_rests l f.values f.octagons a.values s.tight a.octagons s.bounded

-- a tight value that is written needs no mark
pub marked_write : (vs : List Known) (loose : List ℕ) (x : ℕ) (v : Known) → IsTight v → AreMarked vs loose → AreMarked (set vs x v) loose
marked_write vs loose x v t h y p = by (cases_eq y x)
  where
    here : y < length vs
    here = omega (arith, p, length-set vs x v)

    other : y ≢ x → IsTight (known_at vs y) ⊎ IsListed loose y → IsTight (known_at (set vs x v) y) ⊎ IsListed loose y
    other n (inl u) = inl (rw (known_other vs x y v n) u)
    other n (inr e) = inr e

    by : (y ≡ x) ⊎ (y ≢ x) → IsTight (known_at (set vs x v) y) ⊎ IsListed loose y
    by (inl e) = inl (rw e (rw (known_same vs x v (omega (arith, here, e))) t))
    by (inr n) = other n (h y here)

-- what is known of a pack's variable stays where one is written that no octagon is over
pack_same : (l : Layout) (vs : List Known) (x p k : ℕ) (v : Known) → IsApart l x → k < length (pack_at l.packs p) → known_at (set vs x v) (chosen_at (pack_at l.packs p) k) ≡ known_at vs (chosen_at (pack_at l.packs p) k)
pack_same l vs x p k v a h = known_other vs x (chosen_at (pack_at l.packs p) k) v (λ e. a (subst (IsChosen l.packs) e (chosen_of l.packs p k h)))

-- a tight value of a variable that no octagon is over
pub settled_write : (l : Layout) (o : Option Facts) (x : ℕ) (v : Known) → IsApart l x → IsTight v → AreSettled l o → AreSettled l (with_known o x v)
settled_write l None x v a t s = tt
settled_write l (Some f) x v a t s = record {
  tight = marked_write f.values [] x v t s.tight;
  resting = λ p q. record {
    closed = (s.resting p q).closed;
    lowered = λ k h. rw (pack_same l f.values x p k v a h) ((s.resting p q).lowered k h);
  };
  bounded = λ p q k h. rw (pack_same l f.values x p k v a h) (s.bounded p q k h);
}
