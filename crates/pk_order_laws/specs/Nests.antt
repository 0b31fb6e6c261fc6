-- Every digraph has a nest.
use Rattle.std.specs.Prelude.{ℕ, List}
use Rattle.pk_plan.specs.Digraphs.{IsVertex}
use Rattle.pk_plan.specs.Nests.{Items, IsNest}

abbrev pub EveryDigraphHasANest : Type 0
EveryDigraphHasANest = (g : List (List ℕ)) → (items : Items) × IsNest g (IsVertex g) items
