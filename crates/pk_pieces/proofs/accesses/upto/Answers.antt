use Rattle.std.proofs.Common.{◌+◌, arith, rules, leb}
use Rattle.std.proofs.lemmas.Bool.{lt-leb, le-leb}
use Rattle.std.proofs.lemmas.List.Sorted.{IsPartitionPoint-from_clause}
use Rattle.pk_graph.specs.declared.operations.Access.{Access}
use Rattle.pk_graph.specs.Shown.{graph_view}
use Rattle.pk_pieces.specs.Accesses.{count_before}
use Rattle.pk_pieces.proofs.Cuts.{IsCut, parted, cut_is, cut_of}
use Rattle.pk_pieces.proofs.accesses.upto.Goals as goal

pub returns-clause-value : goal.returns-clause-value
returns-clause-value c =
    let xs = c.args.accesses.now in
    let p = λ (a : Access). leb a.point c.args.point in
    let cut : IsCut p xs (count_before (graph_view c.args.graph.now) (c.args.point + 1)) =
    cut_of (graph_view c.args.graph.now) xs c.requires.accesses (c.args.point + 1) p (λ a h. le-leb a.point c.args.point (omega (arith, h))) (λ a h. lt-leb a.point c.args.point (omega (arith, h))) in
    let at = IsPartitionPoint-from_clause p xs c.partition_point.result c.partition_point.ensures.partitioned (parted p xs (count_before (graph_view c.args.graph.now) (c.args.point + 1)) cut) (λ a r f q. search rules) in
    cut_is p xs (count_before (graph_view c.args.graph.now) (c.args.point + 1)) c.partition_point.result cut c.partition_point.ensures.bound at
