-- Laws of steps.
use Rattle.std.specs.Prelude.{◌≡◌, ℕ}
use Rattle.pk_graph.specs.Steps.{Numbers, To, effect}
use Rattle.pk_graph.specs.Stores.{Stored, storing, IsStore}
use Rattle.pk_graph.specs.Kinds.{Kinds, IsTypedInstr}
use Rattle.pk_graph.specs.Trees.{InstrOf}

-- a step from a store of the variables leads to one
abbrev pub StepsKeepStores : Type 0
StepsKeepStores =
    (ks : Kinds) (i : InstrOf ℕ) (chosen : Numbers) (s t : Stored) → IsTypedInstr ks i → IsStore ks s →
    effect storing chosen i s ≡ To t → IsStore ks t
