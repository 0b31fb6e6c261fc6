-- Forms of at most two places.
use Rattle.std.specs.Prelude.{◌≡◌, ℕ, ℤ, nat_le, Bool, true, false, if◌then◌else◌, List, [], ◌∷◌, length, Option, Some, None}
use Rattle.std.proofs.Common.{refl}
use Rattle.pk_state.specs.Layouts.{Layout}
use Rattle.pk_state.specs.Facts.{Facts}
use Rattle.pk_transfer.specs.Linear.{if_two}
use Rattle.pk_transfer.specs.Assumptions.{places_in}

pub few_is : (ps qs : List ℕ) → Some qs ≡ if_two ps → qs ≡ ps
few_is ps qs e = by (nat_le (length ps) 2) e
  where
    by : (b : Bool) → Some qs ≡ (if b then Some ps else None) → qs ≡ ps
    by true f = cc
    by false f = absurd (cc)

pub few_none : (y : Layout) (f : Option Facts) (ps : List ℕ) (c : ℤ) (over : List ℕ) → None ≡ if_two ps → f ≡ places_in y f ps c over
few_none y f [] c over e = absurd (cc)
few_none y f (a ∷ []) c over e = absurd (cc)
few_none y f (a ∷ (b ∷ [])) c over e = absurd (cc)
few_none y f (a ∷ (b ∷ (d ∷ ps))) c over e = refl
