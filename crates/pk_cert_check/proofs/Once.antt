-- A check has one answer.
use Rattle.std.specs.Prelude.{◌≡◌, ℕ, ◌<◌, true, false, Option, None, Some}
use Rattle.std.proofs.Common.{arith, refl, sym, ap, ◌∙◌, inl, inr}
use Rattle.std.proofs.lemmas.Bool.{cases_lt}
use Rattle.pk_graph.specs.Graphs.{GraphOf}
use Rattle.pk_state.specs.Layouts.{Layout}
use Rattle.pk_state.specs.Facts.{Facts}
use Rattle.pk_sound.specs.Families.{IsLaidOut, IsSolved, PassesAt, FailsFirstAt, FamiliesAreTested}
use Rattle.pk_cert_check.specs.Checked.{known_by}
use Rattle.pk_cert_check.specs.Laws.{OneCheck}

fails_there : (g : GraphOf) (l : Layout) (known : ℕ → Option Facts) (v : ℕ) → FailsFirstAt g l known v → PassesAt g l known v → ⊥
fails_there g l known v f p = let e : true ≡ false = sym p ∙ f.fails in cc

ordered : (g : GraphOf) (l : Layout) (known : ℕ → Option Facts) (u v : ℕ) → FailsFirstAt g l known u → FailsFirstAt g l known v → u < v → ⊥
ordered g l known u v f h p = fails_there g l known u f (h.before u p)

first_once : (g : GraphOf) (l : Layout) (known : ℕ → Option Facts) (u v : ℕ) → FailsFirstAt g l known u → FailsFirstAt g l known v → u ≡ v
first_once g l known u v f h = elim (cases_lt u v) [
  | inl p ↦ absurd (ordered g l known u v f h p)
  | inr p ↦ elim (cases_lt v u) [ inl q ↦ absurd (ordered g l known v u h f q) | inr q ↦ omega (arith, p, q) ]
]

unsolved : (g : GraphOf) (l : Layout) (known : ℕ → Option Facts) (v : ℕ) → FamiliesAreTested → IsLaidOut g l → IsSolved g l known → FailsFirstAt g l known v → ⊥
unsolved g l known v tested laid s f = fails_there g l known v f ((tested g l known laid s.facts).passes s v f.point)

pub one_check : FamiliesAreTested → OneCheck
one_check tested g l cells None None laid h k = refl
one_check tested g l cells None (Some v) laid h k = absurd (unsolved g l (known_by l cells) v tested laid h k)
one_check tested g l cells (Some u) None laid h k = absurd (unsolved g l (known_by l cells) u tested laid k h)
one_check tested g l cells (Some u) (Some v) laid h k = ap (λ (n : ℕ). Some n) (first_once g l (known_by l cells) u v h k)
