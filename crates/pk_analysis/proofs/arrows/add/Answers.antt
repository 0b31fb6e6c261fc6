use Rattle.std.proofs.Common.{List, [], ◌∷◌, ◌++◌, ap, ◌∙◌, sym, set}
use Rattle.std.specs.Global.{Vec}
use Rattle.std.proofs.lemmas.List.{map-set, get_or-map}
use Rattle.pk_analysis.specs.declared.arrows.Arrow.{Arrow}
use Rattle.pk_analysis.specs.Arrows.{rows_of}
use Rattle.pk_analysis.proofs.arrows.add.Goals as goal

pub returns : goal.returns
returns c =
    let items : Vec Arrow → List Arrow = λ v. v.items in
    let old : List (Vec Arrow) = c.args.rows.now.items in
    map-set items old c.args.to c.push.new.self
    ∙ ap (λ (row : List Arrow). set (rows_of old) c.args.to row)
    (c.in_ok-push.ensures.items ∙ ap (λ (row : List Arrow). row ++ c.args.arrow ∷ []) (ap items c.index_mut-row.ensures.value ∙ sym (get_or-map items old c.args.to c.index_mut-row.result.now [] c.requires)))
