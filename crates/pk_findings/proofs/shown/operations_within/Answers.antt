use Rattle.std.proofs.Common.{◌∙◌, sym}
use Rattle.pk_findings.proofs.WithinLemmas.{cases_small}
use Rattle.pk_findings.proofs.shown.operations_within.Goals as goal

pub operations-requires : goal.operations-requires
operations-requires c =
    let all = sym c.in_ok-within.ensures ∙ c.if-within.true in
    rw c.in_ok-cases.ensures (cases_small c.args.text.now c.args.rows.now all)

pub returns-in_ok-operations : goal.returns-in_ok-operations
returns-in_ok-operations c = record {
  within = sym c.in_ok-within.ensures ∙ c.if-within.true;
  are = rw (sym c.in_ok-cases.ensures) c.in_ok-operations.ensures;
}
