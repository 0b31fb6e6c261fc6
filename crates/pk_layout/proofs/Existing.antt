-- Each plan that a system fits has slots.
use Rattle.std.proofs.Common.{◌≡◌, ℕ, zero, suc, ◌+◌, ◌<◌, ◌⊎◌, inl, inr, List, [], ◌∷◌, ◌++◌, length, get_or, refl, ap, subst, ◌∙◌, arith, add-one}
use Rattle.std.proofs.lemmas.List.Elements.{All-from_get_or, Contains-get_or}
use Rattle.pk_plan.specs.Plans.{PlanView, Precedes, One, More}
use Rattle.pk_plan.specs.Axioms.{Axioms}
use Rattle.pk_plan.proofs.PlanLemmas.{stands_inside, exit_within, constrains_from}
use Rattle.pk_iterate.specs.Behaviour.{Behaviour, ReadsWithin}
use Rattle.pk_iterate.specs.Fits.{IsHeadOver}
use Rattle.pk_layout.specs.Gathered.{gathered, AreStarts, owned_by, times, slot_of_read, AreGiven}
use Rattle.pk_layout.specs.Layouts.{LayoutView, IsLaidOut, laid}
use Rattle.pk_layout.specs.Exists.{FitsReadWithin, EveryPlanIsWired}
use Rattle.pk_layout.proofs.Lists.{length_more, starts_none, starts_more, stands_at}
use Rattle.pk_layout.proofs.Laying.{AreParts, laid_out}

precedes_from : (p : PlanView) (a b : ℕ) → Axioms p → Precedes p a b → a < p.elements
precedes_from p a b axioms (One c) = constrains_from p a b axioms c
precedes_from p a c axioms (More {b = b} before one) = precedes_from p a b axioms before

over_within : (p : PlanView) (e u : ℕ) → Axioms p → IsHeadOver p e u → u < p.elements
over_within p e u axioms over = elim over.over [
  | inl inside ↦ (stands_inside p over.component u axioms over.of inside).within
  | inr exit ↦ (let l = exit_within p over.component axioms over.of in omega (arith, exit, l))
]

pub reads_within : {C : Type 0} (b : Behaviour C) → FitsReadWithin b
reads_within b p axioms fits e below = All-from_get_or (λ u. u < p.elements) (b.reads e) 0 (λ i in_range. within (get_or (b.reads e) i 0) (fits e (get_or (b.reads e) i 0) below (Contains-get_or (b.reads e) i 0 in_range)))
  where
    within : (u : ℕ) → (u ≡ e) ⊎ (Precedes p u e ⊎ IsHeadOver p e u) → u < p.elements
    within u (inl same) = omega (arith, same, below)
    within u (inr (inl before)) = precedes_from p u e axioms before
    within u (inr (inr over)) = over_within p e u axioms over

-- a list of these numbers
abbrev only : (ℕ → ℕ) → ℕ → List ℕ
only f e = f e ∷ []

long : (f : ℕ → ℕ) (n : ℕ) → length (gathered (only f) n) ≡ n
long f zero = refl
long f (suc n) = omega (arith, long f n, length_more (only f) n, ap (λ (k : ℕ). length (gathered (only f) k)) (add-one n))

listed : (f : ℕ → ℕ) (n e : ℕ) → e < n → get_or (gathered (only f) n) e 0 ≡ f e
listed f n e below =
    let at : e ≡ length (gathered (only f) e) + 0 = omega (arith, long f e) in
    ap (λ (k : ℕ). get_or (gathered (only f) n) k 0) at ∙ stands_at (only f) n e 0 0 below (omega arith)

starts : (lists : ℕ → List ℕ) (n : ℕ) → (from : List ℕ) × AreStarts lists n from
starts lists zero = (0 ∷ [], starts_none lists)
starts lists (suc n) =
    let before = starts lists n in
    let m = length (gathered lists (n + 1)) in
    (before.0 ++ m ∷ [], subst (λ (k : ℕ). AreStarts lists k (before.0 ++ m ∷ [])) (add-one n) (starts_more lists n before.0 m before.1 refl))

pub every_layout : {C : Type 0} (b : Behaviour C) (n : ℕ) → ReadsWithin b n → (l : LayoutView) × IsLaidOut b n l
every_layout b n within =
    let targets = gathered b.reads n in
    let counts = gathered (only (λ u. times u targets)) n in
    let first = starts (owned_by counts) n in
    let from = starts b.reads n in
    let slots = gathered (only (slot_of_read first.0 targets)) (length targets) in
    let parts : AreParts b n counts first.0 from.0 = record { reads = within; counted = λ u below. listed (λ v. times v targets) n u below; first = first.1; from = from.1 } in
    let given : AreGiven first.0 targets (length targets) slots = record { long = long (slot_of_read first.0 targets) (length targets); each = λ j below. listed (slot_of_read first.0 targets) (length targets) j below } in
    (laid first.0 slots from.0, laid_out slots parts given)

pub every_plan : {C : Type 0} (b : Behaviour C) → EveryPlanIsWired b
every_plan b p limit axioms fits few limited =
    let it = every_layout b p.elements (reads_within b p axioms fits) in
    (it.0, record { axioms = axioms; fits = fits; few = few; limited = limited; laid_out = it.1 })
