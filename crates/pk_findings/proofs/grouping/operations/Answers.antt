use Rattle.std.proofs.Common.{List, sym, subst, rules}
use Rattle.std.proofs.lemmas.List.Sorted.{IsNonDecreasingBy-from_sort_by_key}
use Rattle.pk_findings.specs.Operations.{OperationOf, AreOperations}
use Rattle.pk_findings.specs.Grouping.{case_order}
use Rattle.pk_findings.proofs.GatherLemmas.{are_operations}
use Rattle.pk_findings.proofs.grouping.operations.Goals as goal

pub returns : goal.returns
returns c =
    let P : List OperationOf → Type 0 = λ operations. AreOperations c.args.cases.items operations in
    subst P (sym c.in_ok-operations.ensures)
    (are_operations c.args.cases.items c.sort_by_key.new.self.items c.requires c.sort_by_key.ensures.permutation
    (IsNonDecreasingBy-from_sort_by_key case_order _ c.in_ok-sort_by_key.ensures.sorted (λ a r q k. search rules)))
