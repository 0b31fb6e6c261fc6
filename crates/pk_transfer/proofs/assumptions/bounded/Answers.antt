use Rattle.std.specs.Prelude.{◌≡◌, ◌-ℤ◌, ℕ, ℤ, List, Option, IfOk}
use Rattle.std.specs.Int.{w128}
use Rattle.std.proofs.Common.{rules, FitsSigned, subst, sym, ap, ◌∙◌}
use Rattle.std.proofs.lemmas.Int.{to_z-of_z}
use Rattle.pk_state.specs.Facts.{Facts, Stated}
use Rattle.pk_transfer.specs.Linear.{difference, IsGuardOn}
use Rattle.pk_transfer.specs.Places.{places_of}
use Rattle.pk_transfer.specs.Assumptions.{places_in}
use Rattle.pk_transfer.proofs.Apart.{difference_places, guard_on}
use Rattle.pk_transfer.proofs.Few.{few_is, few_none}
use Rattle.pk_transfer.proofs.assumptions.bounded.Goals as goal

pub at_most-requires : goal.at_most-requires
at_most-requires c =
    subst IsGuardOn (sym (few_is (difference c.args.left c.args.right).places (places_of c.in-Some.places) c.in-Some.ensures))
    (guard_on (difference c.args.left c.args.right).places (difference_places c.args.left c.args.right c.requires.left c.requires.right))

pub returns-in-Some : goal.returns-in-Some
returns-in-Some c =
    let y = c.args.state.layout in
    let f = c.args.state.facts in
    let room = (c.args.right.constant -ℤ c.args.less) -ℤ c.args.left.constant in
    let fits : FitsSigned w128 c.room_below-room.result = search rules in
    let fits_less : FitsSigned w128 c.args.less = search rules in
    let same = few_is (difference c.args.left c.args.right).places (places_of c.in-Some.places) c.in-Some.ensures in
    subst (λ (ps : List ℕ). IfOk c.at_most.result (λ (s : Stated). s ≡ record { layout = y; facts = places_in y f ps room c.args.over.now })) same
    (subst (λ (z : ℤ). IfOk c.at_most.result (λ (s : Stated). s ≡ record { layout = y; facts = places_in y f (places_of c.in-Some.places) z c.args.over.now }))
    (to_z-of_z w128 c.room_below-room.result fits ∙ c.room_below-room.ensures ∙ ap (λ (n : ℤ). (c.args.right.constant -ℤ n) -ℤ c.args.left.constant) (to_z-of_z w128 c.args.less fits_less)) c.at_most.ensures)

pub returns-in-None : goal.returns-in-None
returns-in-None c =
    let y = c.args.state.layout in
    let room = (c.args.right.constant -ℤ c.args.less) -ℤ c.args.left.constant in
    ap (λ (f : Option Facts). record { layout = y; facts = f }) (few_none y c.args.state.facts (difference c.args.left c.args.right).places room c.args.over.now c.in-None.ensures)
