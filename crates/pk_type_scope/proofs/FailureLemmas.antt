-- What is noted after several lists of failures and of calls.
use Rattle.std.proofs.Common.{◌≡◌, List, [], ◌∷◌, ◌++◌, Option, refl, ap, ◌∙◌}
use Rattle.pk_typed.specs.declared.units.CallSite.{CallSite}
use Rattle.pk_type_scope.specs.declared.failures.Failure.{Failure}
use Rattle.pk_type_scope.specs.Failures.{earlier, noted}
use Rattle.pk_type_scope.specs.Notes.{Noted}

-- one list after another
pub noted_append : (found : Option Failure) (fs gs : List Failure) → noted found (fs ++ gs) ≡ noted (noted found fs) gs
noted_append found [] gs = refl
noted_append found (f ∷ fs) gs = noted_append (earlier found f) fs gs

-- by the parts
pub same_noted : (f g : Option Failure) (c e : List CallSite) → f ≡ g → c ≡ e → ◌≡◌ {A = Noted} (record { found = f; calls = c }) (record { found = g; calls = e })
same_noted f g c e p q = ap (λ x. record { found = x; calls = c }) p ∙ ap (λ x. record { found = g; calls = x }) q
