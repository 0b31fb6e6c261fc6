-- A system for the tests, whose cells are lists behind a model.
use Rattle.std.specs.Prelude.{ℕ, List, [], ◌∷◌}
use Rattle.pk_iterate.specs.declared.systems.Decision.TheVariants.{Stable}
use Rattle.pk_iterate.specs.Behaviour.{Behaviour}

abbrev pub rows : Behaviour (List ℕ)
rows = record { reads = λ e. []; first = λ e. []; apply = λ e inputs. 7 ∷ []; decide = λ x inputs. Stable (7 ∷ []) }
