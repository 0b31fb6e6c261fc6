-- Values that are added to a list, as data.
use Rattle.std.proofs.Common.{◌≡◌, List, [], ◌∷◌, ◌++◌, map, ap, ◌∙◌}
use Rattle.std.proofs.lemmas.List.{map-append}
use Rattle.serde_json.specs.View.{view}
use Rattle.serde_json.specs.declared.value.Value.{Value}

pub one_more : (list old : List Value) (new : Value) → list ≡ old ++ new ∷ [] → map view list ≡ map view old ++ view new ∷ []
one_more list old new e = ap (map view) e ∙ map-append view old (new ∷ [])
