use Rattle.std.proofs.Common.{◌++◌, []}
use Rattle.pk_cert_lines.specs.Symbols.{values_in}
use Rattle.pk_cert_lines.specs.Told.{texts_at}
use Rattle.pk_cert_lines.proofs.Parting.{parts_none}
use Rattle.pk_cert_lines.proofs.Telling.{parts_as, bounds_on, text_whole}
use Rattle.pk_cert_lines.proofs.told.text_of.Goals as goal

pub returns : goal.returns
returns c = λ f e.
    let slots = c.args.order.now in
    let o = c.args.state.now.facts in
    let none = parts_as [] _ [] _ [] c.new-text.ensures.items c.new-sizes.ensures.items parts_none in
    let values = c.in_ok-add_values.ensures [] none in
    text_whole slots o f _ _ e (parts_as _ _ _ _ _ c.in_ok-add_bounds.ensures.text c.in_ok-add_bounds.ensures.sizes (bounds_on o f ([] ++ texts_at slots (values_in o)) _ _ e values))
