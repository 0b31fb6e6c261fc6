use Rattle.std.proofs.Common.{ap, sym}
use Rattle.pk_typed.specs.declared.values.Place.{Place}
use Rattle.pk_typed.specs.Views.{place_tree}
use Rattle.pk_lower_row.specs.Shapes as shapes
use Rattle.pk_lower_row.proofs.shapes.makes_at_place.Goals as goal

pub returns-in-Scalar : goal.returns-in-Scalar
unfolding place_tree
returns-in-Scalar c = sym (ap (λ (p : Place). shapes.makes_at_place (place_tree p)) c.in-Scalar.is)

pub returns-in-Element : goal.returns-in-Element
unfolding place_tree
returns-in-Element c = sym (ap (λ (p : Place). shapes.makes_at_place (place_tree p)) c.in-Element.is)
