-- The parts, component by component from the last.
use Rattle.std.proofs.Common.{◌≡◌, ◌<◌, ◌≤◌, ◌+◌, ◌-◌, ◌==◌, ℕ, zero, suc, ap, ◌∙◌, sym, subst, refl, Bool, cond, inl, inr, List, ◌∷◌, length, drop, set, replicate, map, arith}
use Rattle.std.specs.List.{slice_index_or, range_with_len}
use Rattle.std.proofs.lemmas.List.{drop_more, drop_all, length-set, length-replicate, get_or-set_same, get_or-set_other, get_or-map, get_or_default}
use Rattle.std.proofs.lemmas.List.FromFn.{get_or-range_with_len}
use Rattle.std.proofs.lemmas.Bool.Decides.{eqb_tells}
use Rattle.pk_plan.specs.declared.components.Component.{Component}
use Rattle.pk_plan.specs.Plans.{PlanView}
use Rattle.pk_plan.specs.Axioms.{Axioms}
use Rattle.pk_phases.specs.declared.equations.Part.{Part}
use Rattle.pk_phases.specs.declared.equations.Part.TheVariants.{Point, HeadOf, ExitOf}
use Rattle.pk_analysis.specs.Parts.{part_in, part_at, AreParts}

-- those of the components from k on
pub record PartsFrom (p : PlanView) (k : ℕ) (parts : List Part) : Type 0 where
  pub inside : k ≤ length p.components
  pub size : length parts ≡ p.elements
  pub each : (e : ℕ) → e < p.elements → part_at parts e ≡ part_in (drop k p.components) e

points_at : (n e : ℕ) → part_at (replicate n Point) e ≡ Point
points_at zero e = refl
points_at (suc n) zero = refl
points_at (suc n) (suc e) = points_at n e

pub parts_start : (p : PlanView) (k : ℕ) (parts : List Part) → k ≡ length p.components → parts ≡ replicate p.elements Point → PartsFrom p k parts
parts_start p k parts h is = record {
  inside = omega (arith, h);
  size = ap (λ (ps : List Part). length ps) is ∙ length-replicate p.elements Point;
  each = λ e l. ap (λ (ps : List Part). part_at ps e) is ∙ points_at p.elements e ∙ sym (ap (λ (cs : List Component). part_in cs e) (drop_all k p.components (omega (arith, h))));
}

pub parts_next : (p : PlanView) (k : ℕ) (c : Component) (old new : List Part) → k < length p.components → c ≡ slice_index_or p.components k c → c.head < p.elements → c.exit < p.elements
    → PartsFrom p (k + 1) old → new ≡ set (set old c.exit (ExitOf c.head)) c.head (HeadOf c.exit) → PartsFrom p k new
parts_next p k c old new h is head exit s made = record {
  inside = omega (arith, h);
  size = ap (λ (ps : List Part). length ps) made ∙ length-set (set old c.exit (ExitOf c.head)) c.head (HeadOf c.exit) ∙ length-set old c.exit (ExitOf c.head) ∙ s.size;
  each = λ e l. ap (λ (ps : List Part). part_at ps e) made ∙ at e l ∙ sym (ap (λ (cs : List Component). part_in cs e) (drop_more p.components k c h ∙ ap (λ (x : Component). x ∷ drop (k + 1) p.components) (sym is)));
}
  where
    mid : List Part
    mid = set old c.exit (ExitOf c.head)

    at : (e : ℕ) → e < p.elements → part_at (set (set old c.exit (ExitOf c.head)) c.head (HeadOf c.exit)) e ≡ part_in (c ∷ drop (k + 1) p.components) e
    at e l = elim (eqb_tells c.head e) [
      | inl same ↦ subst (λ (x : ℕ). part_at (set (set old c.exit (ExitOf c.head)) c.head (HeadOf c.exit)) x ≡ HeadOf c.exit) same.1
          (get_or-set_same (set old c.exit (ExitOf c.head)) c.head (HeadOf c.exit) Point (omega (arith, length-set old c.exit (ExitOf c.head), s.size, head)))
          ∙ sym (ap (λ (b : Bool). cond b (HeadOf c.exit) (cond (c.exit == e) (ExitOf c.head) (part_in (drop (k + 1) p.components) e))) same.0)
      | inr other ↦ get_or-set_other (set old c.exit (ExitOf c.head)) c.head e (HeadOf c.exit) Point (λ x. other.1 (sym x))
          ∙ elim (eqb_tells c.exit e) [
            | inl same ↦ subst (λ (x : ℕ). part_at (set old c.exit (ExitOf c.head)) x ≡ ExitOf c.head) same.1 (get_or-set_same old c.exit (ExitOf c.head) Point (omega (arith, s.size, exit)))
                ∙ sym (ap (λ (b : Bool). cond b (ExitOf c.head) (part_in (drop (k + 1) p.components) e)) same.0)
            | inr another ↦ get_or-set_other old c.exit e (ExitOf c.head) Point (λ x. another.1 (sym x)) ∙ s.each e l
                ∙ sym (ap (λ (b : Bool). cond b (ExitOf c.head) (part_in (drop (k + 1) p.components) e)) another.0)
          ]
          ∙ sym (ap (λ (b : Bool). cond b (HeadOf c.exit) (cond (c.exit == e) (ExitOf c.head) (part_in (drop (k + 1) p.components) e))) other.0)
    ]

pub parts_end : (p : PlanView) (k : ℕ) (parts : List Part) → k ≡ 0 → PartsFrom p k parts → AreParts p parts
parts_end p k parts h s = record { size = s.size; each = λ e l. s.each e l ∙ ap (λ (n : ℕ). part_in (drop n p.components) e) h }

pub head_below : (p : PlanView) → Axioms p → (k : ℕ) (c : Component) → k < length p.components → c ≡ slice_index_or p.components k c → c.head < p.elements
head_below p a k c h is =
    let here = a.points k c h in
    omega (arith, here, a.counted, ap (λ (x : Component). x.head) is)

pub exit_below : (p : PlanView) → Axioms p → (k : ℕ) (c : Component) → k < length p.components → c ≡ slice_index_or p.components k c → c.exit < p.elements
exit_below p a k c h is =
    let listed : slice_index_or (map (λ (x : Component). x.exit) p.components) k 0 ≡ slice_index_or (range_with_len p.points (length p.components)) k 0 = ap (λ (xs : List ℕ). slice_index_or xs k 0) a.exits in
    let here = get_or-map (λ (x : Component). x.exit) p.components k c 0 h in
    let there = get_or-range_with_len p.points (length p.components) k 0 h in
    omega (arith, listed, here, there, a.counted, ap (λ (x : Component). x.exit) is)

pub parts_turn : (p : PlanView) (cs : List Component) (at : ℕ) (d : Component) (old new : List Part) → Axioms p → cs ≡ p.components → 0 < at → PartsFrom p at old
    → new ≡ set (set old (slice_index_or cs (at - 1) d).exit (ExitOf (slice_index_or cs (at - 1) d).head)) (slice_index_or cs (at - 1) d).head (HeadOf (slice_index_or cs (at - 1) d).exit)
    → PartsFrom p (at - 1) new
parts_turn p cs at d old new a are some s made =
    let c = slice_index_or cs (at - 1) d in
    let before : at - 1 + 1 ≡ at = omega (arith, some) in
    let h : at - 1 < length p.components = omega (arith, s.inside, some) in
    let is : c ≡ slice_index_or p.components (at - 1) c = ap (λ (xs : List Component). slice_index_or xs (at - 1) d) are ∙ get_or_default p.components (at - 1) d c h in
    parts_next p (at - 1) c old new h is (head_below p a (at - 1) c h is) (exit_below p a (at - 1) c h is) (subst (λ (k : ℕ). PartsFrom p k old) (sym before) s) made
