use Rattle.std.proofs.Common.{◌≡◌, ◌++◌, map, take}
use Rattle.std.specs.List.{flat_map, zip}
use Rattle.pk_graph.specs.Graphs.{path_view}
use Rattle.pk_graph.specs.AccessViews.{access_views}
use Rattle.pk_report.specs.Reports.{access_line}
use Rattle.pk_report.proofs.accesses.write_accesses.Given as goal

abbrev pub invariant-loop-k : goal.invariant-loop-k
invariant-loop-k l = l.bytes.items ≡ l.initial.bytes.items ++ flat_map (access_line (map path_view l.paths)) (take l.k (zip (access_views l.accesses) l.verdicts))
