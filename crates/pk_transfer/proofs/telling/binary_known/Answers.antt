use Rattle.std.specs.Prelude.{Option}
use Rattle.std.proofs.Common.{ap, sym, ◌∙◌}
use Rattle.pk_value.specs.Known.{Known}
use Rattle.pk_value.specs.Values.{operated}
use Rattle.pk_ctypes.specs.Operators.{result_type}
use Rattle.pk_transfer.specs.Trees.{known_with}
use Rattle.pk_transfer.specs.Told.{Told}
use Rattle.pk_transfer.proofs.Told.{value_from}
use Rattle.pk_transfer.proofs.Operands.{told_in, told_right}
use Rattle.pk_transfer.proofs.telling.binary_known.Goals as goal

pub operate-requires-clause-left : goal.operate-requires-clause-left
operate-requires-clause-left c = told_in _ _ c.args.t c.in-Some.left c.a.view_is c.requires.left c.a.invariant c.in-Some.is

pub operate-requires-clause-right : goal.operate-requires-clause-right
operate-requires-clause-right c = told_right _ _ c.args.op c.args.t c.in-Some-known.right c.b.view_is c.requires.right c.b.invariant c.in-Some-known.is

pub returns-in-Some-known-clause-value : goal.returns-in-Some-known-clause-value
returns-in-Some-known-clause-value c =
    let op = c.args.op in
    let t = c.args.t in
    let left = sym c.in-Some.is ∙ ap (λ (d : Told). d.known) c.a.view_is in
    let right = sym c.in-Some-known.is ∙ ap (λ (d : Told). d.known) c.b.view_is in
    c.operate.ensures.value
    ∙ ap (λ (o : Option Known). known_with o (operated op t c.in-Some.left)) right
    ∙ ap (λ (o : Option Known). known_with o (λ j. known_with c.args.b.now.known (operated op t j))) left

pub returns-in-Some-known-clause-inside : goal.returns-in-Some-known-clause-inside
returns-in-Some-known-clause-inside c = value_from (result_type c.args.op c.args.t) c.operate.result c.operate.ensures.inside c.operate.ensures.class c.operate.ensures.some
