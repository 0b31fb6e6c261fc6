-- A failure that is handed on.
use Rattle.std.proofs.Common.{◌≡◌, Result, Ok, Err, IsErrAnd, IfErr, sym, subst}
use Rattle.pk_front.specs.declared.failures.TextError.{TextError}

pub handed_on : {X : Type 0} (F : TextError → Type 0) (r : Result X TextError) (s : TextError) → IsErrAnd r (λ t. t ≡ s) → F s → IfErr r F
handed_on F (Ok x) s same holds = tt
handed_on F (Err t) s same holds = subst F (sym same) holds
