-- An access of an edge is one of the graph's, where all edges of a point have the accesses of the first.
use Rattle.std.specs.Prelude.{ℕ, ◌<◌, length, Contains}
use Rattle.pk_graph.specs.Accesses.{AccessOf, of_instr, accesses_of}
use Rattle.pk_graph.specs.Graphs.{EdgeOf, GraphOf, point_at}
use Rattle.pk_visits_laws.specs.Ways.OneWay.{SharesAccesses}
use Rattle.pk_visits_laws.proofs.Listed as listed

pub listed_access : (g : GraphOf) (p : ℕ) (e : EdgeOf) (a : AccessOf) → p < length g.points → Contains (point_at g p).edges e → SharesAccesses p (point_at g p).edges → Contains (of_instr p e.instr) a → Contains (accesses_of g) a
listed_access g p e a there has same h = listed.listed_access g p e a has same h
