use Rattle.std.proofs.Common.{List}
use Rattle.serde_json.specs.Data.{Data}
use Rattle.pk_findings.specs.Operations.{OperationOf}
use Rattle.pk_findings.specs.Words.{verdict_of}
use Rattle.pk_sarif.specs.Results.{results_by}
use Rattle.pk_sarif.proofs.TextLemmas.{next_text, next_later}
use Rattle.pk_sarif.proofs.results.write_results.Goals as goal

pub loop-k-preserved : goal.loop-k-preserved
loop-k-preserved c =
    let of : OperationOf → List Data = λ o. results_by c.args.text.now o (verdict_of o) in
    let o : OperationOf = c.index-operations-k.result in
    record {
      text = next_text of c.args.operations.now c.loop-k.k o c.loop-k.there c.in_ok-there.there c.loop-k.bytes.items
          c.write_result.new.bytes.items _ c.loop-k-test.true c.index-operations-k.is c.in_ok-there.ensures.text
          c.in_ok-there.ensures.later c.loop-k.invariant.text;
      later = next_later of c.args.operations.now c.loop-k.k o c.loop-k.there c.in_ok-there.there _ c.loop-k-test.true
          c.index-operations-k.is c.in_ok-there.ensures.later c.loop-k.invariant.later;
    }
