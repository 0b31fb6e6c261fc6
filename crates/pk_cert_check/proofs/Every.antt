-- Cells solve all equations, or there is a first point at which they don't.
use Rattle.std.specs.Prelude.{◌⊎◌, ℕ, zero, suc, ◌<◌, ◌≤◌, length, Option, None, Some}
use Rattle.std.proofs.Common.{arith, subst, sym, inl, inr}
use Rattle.std.proofs.lemmas.Bool.{cases_Bool, cases_eq}
use Rattle.pk_graph.specs.Graphs.{GraphOf}
use Rattle.pk_state.specs.Layouts.{Layout}
use Rattle.pk_state.specs.Facts.{Facts}
use Rattle.pk_analysis.specs.Orders.{is_below}
use Rattle.pk_sound.specs.Families.{given_on, PassesAt, FailsFirstAt, FamiliesAreTested}
use Rattle.pk_cert_check.specs.Checked.{known_by}
use Rattle.pk_cert_check.specs.Laws.{EveryCheckEnds}

module _ (g : GraphOf) (l : Layout) (known : ℕ → Option Facts) where
  -- the test passes at each of the first n points, or there is a first at which it doesn't
  passes_or_fails : (n : ℕ) → n ≤ length g.points → ((v : ℕ) → v < n → PassesAt g l known v) ⊎ ((v : ℕ) × FailsFirstAt g l known v)
  passes_or_fails zero few = inl (λ v p. absurd (omega (arith, p)))
  passes_or_fails (suc n) few = elim (passes_or_fails n (omega (arith, few))) [
    | inl all ↦ elim (cases_Bool (is_below (given_on g l known n) (known n))) [
      | inl last ↦ inl (λ v p. elim (cases_eq v n) [ inl e ↦ subst (PassesAt g l known) (sym e) last | inr e ↦ all v (omega (arith, p, e)) ])
      | inr fails ↦ inr (n, record { point = omega (arith, few); fails = fails; before = all })
    ]
    | inr first ↦ inr first
  ]

pub every_check_ends : FamiliesAreTested → EveryCheckEnds
every_check_ends tested g l cells laid facts = elim (passes_or_fails g l (known_by l cells) (length g.points) (omega arith)) [
  | inl all ↦ (None, (tested g l (known_by l cells) laid facts).solved all)
  | inr first ↦ (Some first.0, first.1)
]
