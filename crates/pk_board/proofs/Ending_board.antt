-- Where the slots of an element end.
use Rattle.std.proofs.Common.{ℕ, ◌+◌, ◌-◌, ◌<◌, ◌≤◌, arith}
use Rattle.pk_iterate.specs.Behaviour.{Behaviour}
use Rattle.pk_layout.specs.Layouts.{LayoutView, IsLaidOut, first_of, slots_of}

pub ends_within : {C : Type 0} {b : Behaviour C} {n : ℕ} {l : LayoutView} → IsLaidOut b n l → (e : ℕ) → e < n → first_of l (e + 1) ≤ slots_of l
ends_within {l = l} laid e below =
    let rises = laid.rises e below in
    let last = laid.together e (first_of l (e + 1) - 1) below (omega (arith, rises)) (omega (arith, rises)) in
    omega (arith, rises, last.0)
