use Rattle.std.proofs.Common.{List}
use Rattle.serde_json.specs.Data.{Data}
use Rattle.pk_findings.specs.Shown.{ShownOf}
use Rattle.pk_sarif.specs.Results.{results}
use Rattle.pk_sarif.proofs.TextLemmas.{next_text}
use Rattle.pk_sarif.proofs.logs.write_all_results.Goals as goal

pub loop-k-preserved : goal.loop-k-preserved
loop-k-preserved c =
    let of : ShownOf → List Data = λ s. results s.text s.operations in
    next_text of c.args.shown.now c.loop-k.k c.index-shown-k.result c.loop-k.later c.in_ok-later.later c.loop-k.bytes.items
    c.write_results_of.new.bytes.items _ c.loop-k-test.true c.index-shown-k.is c.in_ok-later.ensures.text c.in_ok-later.ensures.later
    c.loop-k.invariant
