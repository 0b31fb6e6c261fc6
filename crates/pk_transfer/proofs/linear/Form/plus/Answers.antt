use Rattle.std.specs.Prelude.{ℤ}
use Rattle.std.specs.Int.{w128}
use Rattle.std.proofs.Common.{rules, FitsSigned, ap, ◌∙◌}
use Rattle.std.proofs.lemmas.Int.{to_z-of_z}
use Rattle.pk_transfer.specs.Linear.{Linear, sum, if_near, if_two, with_places, with_constant}
use Rattle.pk_transfer.specs.Places.{places_of}
use Rattle.pk_transfer.proofs.linear.Form.plus.Goals as goal

pub returns-in-Some : goal.returns-in-Some
returns-in-Some c =
    let fits : FitsSigned w128 c.constants.result = search rules in
    let constant = (sum c.args.self c.args.other).constant in
    c.near.ensures
    ∙ ap (λ (z : ℤ). if_near z (places_of c.in-Some.places)) (to_z-of_z w128 c.constants.result fits ∙ c.constants.ensures)
    ∙ ap (with_constant constant) c.in-Some.ensures
    ∙ ap (λ (l : Linear). with_constant constant (if_two (with_places l.places (places_of c.other.inside.places)))) c.self.view_is
    ∙ ap (λ (m : Linear). with_constant constant (if_two (with_places c.args.self.places m.places))) c.other.view_is
