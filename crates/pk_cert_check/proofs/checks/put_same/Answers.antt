use Rattle.std.proofs.Common.{ap, sym, ◌∙◌, map, set}
use Rattle.std.proofs.lemmas.List.{map-set, set-get_or}
use Rattle.std.specs.Arc.{arc_value}
use Rattle.pk_cert_check.proofs.checks.put_same.Goals as goal

pub returns : goal.returns
returns c =
    let cells = c.args.cells.now in
    map-set arc_value cells c.args.v c.in_ok-cells.field-0 ∙ ap (set (map arc_value cells) c.args.v) (c.in_ok-cells.ensures.ok ∙ sym (c.requires.same c.args.given)) ∙ set-get_or (map arc_value cells) c.args.v c.args.given
