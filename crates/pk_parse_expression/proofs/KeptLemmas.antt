-- What is known of what was made while another value was held.
use Rattle.std.proofs.Common.{◌≡◌, Result, Ok, Err, MatchResult, subst}

pub made : {X E : Type 0} (P : X → Type 0) (F : E → Type 0) (r : Result X E) (x : X) → MatchResult r P F → r ≡ Ok x → P x
made P F r x m e = subst (λ q. MatchResult q P F) e m

pub not_made : {X E : Type 0} (P : X → Type 0) (F : E → Type 0) (r : Result X E) (x : E) → MatchResult r P F → r ≡ Err x → F x
not_made P F r x m e = subst (λ q. MatchResult q P F) e m
