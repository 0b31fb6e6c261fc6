use Rattle.std.proofs.Common.{ap, subst, sym, rules, ◌∙◌, ◌≡◌, to_z, of_z}
use Rattle.std.specs.Int.{w128}
use Rattle.std.specs.Int.RustNames.{FitsSigned}
use Rattle.std.proofs.lemmas.Int.{to_z-of_z}
use Rattle.pk_octmat.specs.Bounds.{capped, plus}
use Rattle.pk_octops.proofs.Along.{StandsFor, gained_is, near_wider, stands_from}
use Rattle.pk_octops.proofs.assigns.gained.Goals as goal

pub plus-requires-clause-left : goal.plus-requires-clause-left
plus-requires-clause-left c = near_wider c.args.bound c.requires.near

pub returns : goal.returns
returns c =
    let near = c.brought_near-near.result in
    let fits : FitsSigned w128 near = search rules in
    let passed : to_z w128 (of_z w128 near) ≡ near = to_z-of_z w128 near fits in
    let stands : StandsFor near (to_z w128 (of_z w128 c.args.c)) = stands_from near (to_z w128 (of_z w128 c.args.c)) c.brought_near-near.ensures.near c.brought_near-near.ensures.above c.brought_near-near.ensures.below in
    let all : StandsFor (to_z w128 (of_z w128 near)) c.args.c = subst (λ z. StandsFor z c.args.c) (sym passed) (subst (λ z. StandsFor near z) (to_z-of_z w128 c.args.c c.ranges.c) stands) in
    record {
      value =
          c.capped.ensures.value ∙ ap capped c.plus.ensures ∙ ap (λ s. capped (plus c.args.bound s)) c.change.ensures.value
          ∙ gained_is c.args.bound c.args.k c.args.c (to_z w128 (of_z w128 near)) c.args.i c.args.j c.requires.near all;
    }
