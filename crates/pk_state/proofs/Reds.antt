-- Reducing each value.
use Rattle.std.specs.Prelude.{◌≡◌, ℕ, zero, suc, ◌<◌, ℤ, pos, ◌≤ℤ◌, List, [], ◌∷◌, length, Option, Some, None}
use Rattle.std.proofs.Common.{refl, sym, subst, arith}
use Rattle.pk_graph.specs.Steps.{number_at}
use Rattle.pk_graph.specs.Stores.{Stored, numbers_of}
use Rattle.pk_interval.specs.Ranges.{Range}
use Rattle.pk_congr.specs.Classes.{Class}
use Rattle.pk_value.specs.Reduction.{red}
use Rattle.pk_value.specs.Known.{Known, IsOf, known_of, red_known}
use Rattle.pk_value.proofs.Reducing.{exact as reduction}
use Rattle.pk_value.proofs.Sound.{red_from}
use Rattle.pk_octagons.specs.Values.{known_at}
use Rattle.pk_octagons.specs.Reduced.{with_first}
use Rattle.pk_state.specs.Reduced.{red_all}
use Rattle.pk_state.specs.Members.{AreOf}

-- the moduli are 0 or more
pub record HaveModuli (vs : List Known) : Type 0 where
  pub each : (x : ℕ) → x < length vs → pos 0 ≤ℤ (known_at vs x).class.m

-- what a reduction of one value does
pub record Reds (k r : Known) : Type 0 where
  pub to : (z : ℤ) → IsOf k z → IsOf r z
  pub from : (z : ℤ) → IsOf r z → IsOf k z
  pub modulus : pos 0 ≤ℤ r.class.m

pub red_keeps : (k r : Known) → pos 0 ≤ℤ k.class.m → red_known k ≡ Some r → Reds k r
red_keeps k r n e = go (red k.range k.class) refl e
  where
    go : (o : Option (Range × Class)) → red k.range k.class ≡ o → known_of o ≡ Some r → Reds k r
    go None f g = absurd (cc)
    go (Some p) f g =
        let l : Known = record { range = p.0; class = p.1 } in
        let same : l ≡ r = cc in
        subst (Reds k) same (record {
          to = λ z h. let b = reduction.all k.range k.class p z n f (record { range = h.in_range; class = h.in_class }) in record { in_range = b.range; in_class = b.class };
          from = λ z h. let b = reduction.only k.range k.class p z n f (record { range = h.in_range; class = h.in_class }) in record { in_range = b.range; in_class = b.class };
          modulus = red_from k.range k.class p n f;
        })

pub red_empty : (k : Known) (z : ℤ) → pos 0 ≤ℤ k.class.m → red_known k ≡ None → IsOf k z → ⊥
red_empty k z n e h = go (red k.range k.class) refl e
  where
    go : (o : Option (Range × Class)) → red k.range k.class ≡ o → known_of o ≡ None → ⊥
    go None f g = reduction.none k.range k.class z n f (record { range = h.in_range; class = h.in_class })
    go (Some p) f g = absurd (cc)

-- each value is the reduction of the one that was there
pub record AreReds (vs ws : List Known) : Type 0 where
  pub size : length ws ≡ length vs
  pub each : (x : ℕ) → x < length vs → red_known (known_at vs x) ≡ Some (known_at ws x)

first_of : (o : Option Known) (p : Option (List Known)) (ws : List Known) → with_first o p ≡ Some ws → (v : Known) × (us : List Known) × (o ≡ Some v) × (p ≡ Some us) × (ws ≡ v ∷ us)
first_of None p ws e = absurd (cc)
first_of (Some v) None ws e = absurd (cc)
first_of (Some v) (Some us) ws e = let same : v ∷ us ≡ ws = cc in (v, us, refl, refl, sym same)

pub reds_of : (vs ws : List Known) → red_all vs ≡ Some ws → AreReds vs ws
reds_of [] ws e = let same : [] ≡ ws = cc in subst (AreReds []) same (record { size = refl; each = λ x p. absurd (omega arith) })
reds_of (k ∷ ks) ws e =
    let f = first_of (red_known k) (red_all ks) ws e in
    let rest = reds_of ks f.1 f.3 in
    subst (AreReds (k ∷ ks)) (sym f.4) (record { size = omega (arith, rest.size); each = each f.0 f.1 f.2 rest })
  where
    each : (v : Known) (us : List Known) → red_known k ≡ Some v → AreReds ks us → (x : ℕ) → x < length (k ∷ ks) → red_known (known_at (k ∷ ks) x) ≡ Some (known_at (v ∷ us) x)
    each v us g rest zero p = g
    each v us g rest (suc x) p = rest.each x (omega arith)

-- one value is empty
pub record IsEmptyAt (vs : List Known) : Type 0 where
  pub at : ℕ
  pub place : at < length vs
  pub empty : red_known (known_at vs at) ≡ None

pub empty_of : (vs : List Known) → red_all vs ≡ None → IsEmptyAt vs
empty_of [] e = absurd (cc)
empty_of (k ∷ ks) e = by (red_known k) refl (red_all ks) refl e (λ f. empty_of ks f)
  where
    by : (o : Option Known) → red_known k ≡ o → (p : Option (List Known)) → red_all ks ≡ p → with_first o p ≡ None → (red_all ks ≡ None → IsEmptyAt ks) → IsEmptyAt (k ∷ ks)
    by None f p g h ih = record { at = 0; place = omega arith; empty = f }
    by (Some v) f None g h ih = let i = ih g in record { at = suc i.at; place = omega (arith, i.place); empty = i.empty }
    by (Some v) f (Some us) g h ih = absurd (cc)

-- ---- stores

pub reds_to : (vs ws : List Known) (s : Stored) → HaveModuli vs → red_all vs ≡ Some ws → AreOf vs s → AreOf ws s
reds_to vs ws s n e m =
    let r = reds_of vs ws e in
    record {
      each = λ x i p q. let here : x < length vs = omega (arith, p, r.size) in (red_keeps (known_at vs x) (known_at ws x) (n.each x here) (r.each x here)).to (number_at (numbers_of s x) i) (m.each x i here q);
      some = λ x p. m.some x (omega (arith, p, r.size));
    }

pub reds_from : (vs ws : List Known) (s : Stored) → HaveModuli vs → red_all vs ≡ Some ws → AreOf ws s → AreOf vs s
reds_from vs ws s n e m =
    let r = reds_of vs ws e in
    record {
      each = λ x i p q. (red_keeps (known_at vs x) (known_at ws x) (n.each x p) (r.each x p)).from (number_at (numbers_of s x) i) (m.each x i (omega (arith, p, r.size)) q);
      some = λ x p. m.some x (omega (arith, p, r.size));
    }

pub reds_none : (vs : List Known) (s : Stored) → HaveModuli vs → red_all vs ≡ None → AreOf vs s → ⊥
reds_none vs s n e m =
    let x = empty_of vs e in
    red_empty (known_at vs x.at) (number_at (numbers_of s x.at) 0) (n.each x.at x.place) x.empty (m.each x.at 0 x.place (m.some x.at x.place))

pub reds_moduli : (vs ws : List Known) → HaveModuli vs → red_all vs ≡ Some ws → HaveModuli ws
reds_moduli vs ws n e =
    let r = reds_of vs ws e in
    record { each = λ x p. let here : x < length vs = omega (arith, p, r.size) in (red_keeps (known_at vs x) (known_at ws x) (n.each x here) (r.each x here)).modulus }
