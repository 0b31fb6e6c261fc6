-- A small system for the tests: a loop that counts to ten.
use Rattle.std.specs.Prelude.{ℕ, zero, suc, ◌+◌, List, [], ◌∷◌, nat_le, if◌then◌else◌, min, max}
use Rattle.pk_iterate.specs.declared.systems.Decision.{Decision}
use Rattle.pk_iterate.specs.declared.systems.Decision.TheVariants.{Stable, Again}
use Rattle.pk_iterate.specs.Behaviour.{Behaviour}

-- The head reads the entry, the body and itself, the body the head, and the exit the head, the entry and the body. One more vertex
-- reads the entry alone.
abbrev pub reads_of : ℕ → List ℕ
reads_of zero = []
reads_of (suc zero) = 0 ∷ 2 ∷ 1 ∷ []
reads_of (suc (suc zero)) = 1 ∷ []
reads_of (suc (suc (suc zero))) = 1 ∷ 0 ∷ 2 ∷ []
reads_of (suc (suc (suc (suc zero)))) = []
reads_of (suc (suc (suc (suc (suc zero))))) = 0 ∷ []
reads_of (suc (suc (suc (suc (suc (suc n)))))) = []

abbrev pub bound_of : List ℕ → ℕ
bound_of [] = 0
bound_of (a ∷ []) = min 10 (a + 1)
bound_of (a ∷ b ∷ []) = 0
bound_of (a ∷ b ∷ c ∷ []) = min 10 (max a (max b c))
bound_of (a ∷ b ∷ c ∷ d ∷ more) = 0

abbrev pub decision_of : List ℕ → Decision ℕ
decision_of [] = Stable 0
decision_of (a ∷ []) = Stable 0
decision_of (a ∷ b ∷ []) = Stable 0
decision_of (h ∷ a ∷ b ∷ []) = if nat_le (max a b) h then Stable 0 else Again 0
decision_of (a ∷ b ∷ c ∷ d ∷ more) = Stable 0

abbrev pub counting : Behaviour ℕ
counting = record {
  reads = reads_of;
  first = λ e. 0;
  apply = λ e inputs. bound_of inputs;
  decide = λ x inputs. decision_of inputs;
}
