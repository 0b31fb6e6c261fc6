-- What the operations on states mean for stores.
use Rattle.std.specs.Prelude.{◌≡◌, ◌⊎◌, ℕ, ◌<◌, ℤ, List, length, Option, Some, None}
use Rattle.std.proofs.Common.{◌∙◌, refl, sym, subst, arith, inl, inr}
use Rattle.pk_graph.specs.Steps.{number_at}
use Rattle.pk_graph.specs.Stores.{Stored, numbers_of, number_of}
use Rattle.pk_value.specs.Known.{Known, IsOf}
use Rattle.pk_value.specs.Known as known
use Rattle.pk_value.proofs.Orders.{lattice}
use Rattle.pk_octmat.specs.Octagon.{Octagon}
use Rattle.pk_blocks.specs.Rows.{merged_from}
use Rattle.pk_blocks.proofs.Merging.{merged_length}
use Rattle.pk_octagons.specs.Packs.{ArePacks}
use Rattle.pk_octagons.specs.Values.{type_at, known_at, AreValues}
use Rattle.pk_octagons.specs.Changes.{then_with}
use Rattle.pk_octagons.specs.Reduced.{closed_octagons, bounded_values}
use Rattle.pk_octagons.specs.Members.{MeetAll, MeetAllIf, AreInRange}
use Rattle.pk_octagons.proofs.Sound.{octagons_sound}
use Rattle.pk_octagons.proofs.Numbers.{reductions_exact}
use Rattle.pk_octagons.proofs.Stay.{octagons_stay}
use Rattle.pk_state.specs.Layouts.{Layout, IsLayout}
use Rattle.pk_state.specs.Facts.{Facts, AreFacts, AreFactsIf, joined, widened, narrowed, IsBelow}
use Rattle.pk_state.specs.Reduced.{red_all, with_closed, reduced_facts, reduced}
use Rattle.pk_state.specs.Members.{AreOf, IsStoreOf, Member, StatesAreSound}
use Rattle.pk_state.proofs.Lists.{merged_at}
use Rattle.pk_state.proofs.Reds.{HaveModuli, reds_to, reds_from, reds_none}
use Rattle.pk_state.proofs.Held.{reds_values}
use Rattle.pk_state.proofs.Bounded.{AreScalars, AreOfIf, possible_of, bounds_keep, bounds_only}

-- values merged, place by place
merged_of : (f : ℕ → Known → Known → Known) (xs ys : List Known) (s : Stored) → length xs ≡ length ys → ((x : ℕ) → x < length xs → 0 < length (numbers_of s x))
    → ((x i : ℕ) → x < length xs → i < length (numbers_of s x) → IsOf (f x (known_at xs x) (known_at ys x)) (number_at (numbers_of s x) i)) → AreOf (merged_from f 0 xs ys) s
merged_of f xs ys s e some each = record {
  each = λ x i p q.
      let here : x < length xs = omega (arith, p, merged_length f 0 xs ys e) in
      rw (merged_at f 0 xs ys x x here e (omega arith)) (each x i here q);
  some = λ x p. some x (omega (arith, p, merged_length f 0 xs ys e));
}

joins : (l : Layout) (a b : Option Facts) (s : Stored) → AreFactsIf l a → AreFactsIf l b → Member l a s ⊎ Member l b s → Member l (joined a b) s
joins l None b s f g (inl h) = absurd h
joins l None b s f g (inr h) = h
joins l (Some a) None s f g (inl h) = h
joins l (Some a) None s f g (inr h) = absurd h
joins l (Some a) (Some b) s f g (inl h) = record {
  values = merged_of (λ x. known.joined) a.values b.values s (f.values.size ∙ sym g.values.size) h.values.some (λ x i p q. lattice.join_left (known_at a.values x) (known_at b.values x) (number_at (numbers_of s x) i) (h.values.each x i p q));
  scalars = h.scalars;
  octagons = octagons_sound.joins l.packs a.octagons b.octagons (number_of s) f.octagons g.octagons (inl h.octagons);
}
joins l (Some a) (Some b) s f g (inr h) =
    let size : length a.values ≡ length b.values = f.values.size ∙ sym g.values.size in
    record {
      values = merged_of (λ x. known.joined) a.values b.values s size (λ x p. h.values.some x (omega (arith, p, size))) (λ x i p q. lattice.join_right (known_at a.values x) (known_at b.values x) (number_at (numbers_of s x) i) (h.values.each x i (omega (arith, p, size)) q));
      scalars = h.scalars;
      octagons = octagons_sound.joins l.packs a.octagons b.octagons (number_of s) f.octagons g.octagons (inr h.octagons);
    }

within : (l : Layout) (a b : Option Facts) (s : Stored) → AreFactsIf l a → AreFactsIf l b → IsBelow a b → Member l a s → Member l b s
within l None b s f g e h = absurd h
within l (Some a) None s f g e h = absurd e
within l (Some a) (Some b) s f g e h =
    let size : length a.values ≡ length b.values = f.values.size ∙ sym g.values.size in
    record {
      values = record {
        each = λ x i p q. let here : x < length a.values = omega (arith, p, size) in lattice.within (known_at a.values x) (known_at b.values x) (number_at (numbers_of s x) i) (e.values x here) (h.values.each x i here q);
        some = λ x p. h.values.some x (omega (arith, p, size));
      };
      scalars = h.scalars;
      octagons = octagons_sound.within l.packs a.octagons b.octagons (number_of s) f.octagons g.octagons e.octagons h.octagons;
    }

widenings : (l : Layout) (thresholds : List ℤ) (h n : Option Facts) (s : Stored) → AreFactsIf l h → AreFactsIf l n → Member l h s ⊎ Member l n s → Member l (widened l thresholds h n) s
widenings l cs None n s f g (inl m) = absurd m
widenings l cs None n s f g (inr m) = m
widenings l cs (Some h) None s f g (inl m) = m
widenings l cs (Some h) None s f g (inr m) = absurd m
widenings l cs (Some h) (Some n) s f g (inl m) =
    let size : length h.values ≡ length n.values = f.values.size ∙ sym g.values.size in
    record {
      values = merged_of (λ x. known.widened (type_at l.types x) cs) h.values n.values s size m.values.some (λ x i p q. lattice.widen_held (type_at l.types x) cs (known_at h.values x) (known_at n.values x) (number_at (numbers_of s x) i) (f.values.inside x p) (g.values.inside x (omega (arith, p, size))) (m.values.each x i p q));
      scalars = m.scalars;
      octagons = octagons_sound.widenings l.packs h.octagons n.octagons (number_of s) f.octagons g.octagons (inl m.octagons);
    }
widenings l cs (Some h) (Some n) s f g (inr m) =
    let size : length h.values ≡ length n.values = f.values.size ∙ sym g.values.size in
    record {
      values = merged_of (λ x. known.widened (type_at l.types x) cs) h.values n.values s size (λ x p. m.values.some x (omega (arith, p, size))) (λ x i p q. lattice.widen_next (type_at l.types x) cs (known_at h.values x) (known_at n.values x) (number_at (numbers_of s x) i) (f.values.inside x p) (g.values.inside x (omega (arith, p, size))) (m.values.each x i (omega (arith, p, size)) q));
      scalars = m.scalars;
      octagons = octagons_sound.widenings l.packs h.octagons n.octagons (number_of s) f.octagons g.octagons (inr m.octagons);
    }

narrowings : (l : Layout) (h n : Option Facts) (s : Stored) → AreFactsIf l h → AreFactsIf l n → Member l h s → Member l n s → Member l (narrowed l h n) s
narrowings l None n s f g m o = absurd m
narrowings l (Some h) None s f g m o = m
narrowings l (Some h) (Some n) s f g m o =
    let size : length h.values ≡ length n.values = f.values.size ∙ sym g.values.size in
    record {
      values = merged_of (λ x. known.narrowed (type_at l.types x)) h.values n.values s size m.values.some (λ x i p q. lattice.narrow_keeps (type_at l.types x) (known_at h.values x) (known_at n.values x) (number_at (numbers_of s x) i) (m.values.each x i p q) (o.values.each x i (omega (arith, p, size)) q));
      scalars = m.scalars;
      octagons = octagons_sound.narrowings l.packs h.octagons n.octagons (number_of s) f.octagons g.octagons m.octagons o.octagons;
    }

-- ---- reduction

moduli_of : (l : Layout) (vs : List Known) → AreValues l.types vs → HaveModuli vs
moduli_of l vs h = record { each = λ x p. (h.classes x p).from }

module _ (l : Layout) (f : Facts) (s : Stored) (h : IsLayout l) (a : AreFacts l f) where
  kept_bounded : (vs : List Known) (ms : List Octagon) → AreValues l.types vs → AreOf vs s → AreScalars l.packs s → MeetAll l.packs ms (number_of s) → Member l (with_closed l vs ms) s
  kept_bounded vs ms b of one k = by (bounded_values l.packs ms vs) refl (bounds_keep l.types l.packs ms vs s h b k one of)
    where
      last : (ws : List Known) → AreValues l.types ws → AreOf ws s → (o : Option (List Known)) → red_all ws ≡ o → Member l (then_with o (λ us. let f : Facts = record { values = us; octagons = ms } in Some f)) s
      last ws d c None r = absurd (reds_none ws s (moduli_of l ws d) r c)
      last ws d c (Some us) r = record { values = reds_to ws us s (moduli_of l ws d) r c; scalars = one; octagons = k }

      by : (o : Option (List Known)) → bounded_values l.packs ms vs ≡ o → AreOfIf o s → Member l (then_with o (λ ws. then_with (red_all ws) (λ us. let f : Facts = record { values = us; octagons = ms } in Some f))) s
      by None g c = absurd c
      by (Some ws) g c = last ws (octagons_stay.bounded l.types l.packs ms vs ws h b g) c (red_all ws) refl

  kept_all : IsStoreOf l f s → Member l (reduced_facts l f) s
  kept_all b = by (red_all f.values) refl
    where
      moduli : HaveModuli f.values
      moduli = moduli_of l f.values a.values

      closed : (vs : List Known) → red_all f.values ≡ Some vs → Member l (then_with (closed_octagons l.packs vs f.octagons) (with_closed l vs)) s
      closed vs e = one (closed_octagons l.packs vs f.octagons) (reductions_exact.kept l.packs vs f.octagons (number_of s) a.octagons inside b.octagons)
        where
          values : AreValues l.types vs
          values = reds_values l.types f.values vs a.values e

          of : AreOf vs s
          of = reds_to f.values vs s moduli e b.values

          inside : AreInRange l.packs vs (number_of s)
          inside y i = (possible_of l.packs vs s (subst (λ n. ArePacks n l.packs) (sym values.size) h) b.scalars of y i).in_range

          one : (o : Option (List Octagon)) → MeetAllIf l.packs o (number_of s) → Member l (then_with o (with_closed l vs)) s
          one None k = absurd k
          one (Some ms) k = kept_bounded vs ms values of b.scalars k

      by : (o : Option (List Known)) → red_all f.values ≡ o → Member l (then_with o (λ vs. then_with (closed_octagons l.packs vs f.octagons) (with_closed l vs))) s
      by None e = absurd (reds_none f.values s moduli e b.values)
      by (Some vs) e = closed vs e

  only_bounded : (vs : List Known) (ms : List Octagon) → AreValues l.types vs → Member l (with_closed l vs ms) s → AreOf vs s × AreScalars l.packs s × MeetAll l.packs ms (number_of s)
  only_bounded vs ms b = by (bounded_values l.packs ms vs) refl
    where
      last : (ws : List Known) → bounded_values l.packs ms vs ≡ Some ws → (o : Option (List Known)) → red_all ws ≡ o → Member l (then_with o (λ us. let f : Facts = record { values = us; octagons = ms } in Some f)) s
          → AreOf vs s × AreScalars l.packs s × MeetAll l.packs ms (number_of s)
      last ws g None r m = absurd m
      last ws g (Some us) r m =
          (bounds_only l.types l.packs ms vs s h b ws g (reds_from ws us s (moduli_of l ws (octagons_stay.bounded l.types l.packs ms vs ws h b g)) r m.values), m.scalars, m.octagons)

      by : (o : Option (List Known)) → bounded_values l.packs ms vs ≡ o → Member l (then_with o (λ ws. then_with (red_all ws) (λ us. let f : Facts = record { values = us; octagons = ms } in Some f))) s
          → AreOf vs s × AreScalars l.packs s × MeetAll l.packs ms (number_of s)
      by None g m = absurd m
      by (Some ws) g m = last ws g (red_all ws) refl m

  only_all : Member l (reduced_facts l f) s → IsStoreOf l f s
  only_all = by (red_all f.values) refl
    where
      closed : (vs : List Known) → red_all f.values ≡ Some vs → (o : Option (List Octagon)) → closed_octagons l.packs vs f.octagons ≡ o → Member l (then_with o (with_closed l vs)) s → IsStoreOf l f s
      closed vs e None c m = absurd m
      closed vs e (Some ms) c m =
          let all = only_bounded vs ms (reds_values l.types f.values vs a.values e) m in
          record {
            values = reds_from f.values vs s (moduli_of l f.values a.values) e all.0;
            scalars = all.1;
            octagons = reductions_exact.only l.packs vs f.octagons ms (number_of s) a.octagons c all.2;
          }

      by : (o : Option (List Known)) → red_all f.values ≡ o → Member l (then_with o (λ vs. then_with (closed_octagons l.packs vs f.octagons) (with_closed l vs))) s → IsStoreOf l f s
      by None e m = absurd m
      by (Some vs) e m = closed vs e (closed_octagons l.packs vs f.octagons) refl m

kept : (l : Layout) (f : Option Facts) (s : Stored) → IsLayout l → AreFactsIf l f → Member l f s → Member l (reduced l f) s
kept l None s h a m = absurd m
kept l (Some f) s h a m = kept_all l f s h a m

only : (l : Layout) (f : Option Facts) (s : Stored) → IsLayout l → AreFactsIf l f → Member l (reduced l f) s → Member l f s
only l None s h a m = absurd m
only l (Some f) s h a m = only_all l f s h a m

pub states_sound : StatesAreSound
states_sound = record { joins = joins; within = within; widenings = widenings; narrowings = narrowings; kept = kept; only = only }
