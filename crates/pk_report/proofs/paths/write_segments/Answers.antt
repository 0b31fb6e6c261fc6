use Rattle.std.proofs.Common.{ℕ, map}
use Rattle.pk_graph.specs.Graphs.{path_view}
use Rattle.pk_report.specs.Paths.{segment_of, path_at}
use Rattle.pk_report.proofs.WriteLemmas.{flat_more, flat_all}
use Rattle.pk_report.proofs.paths.write_segments.Goals as goal

pub loop-k-preserved : goal.loop-k-preserved
loop-k-preserved c =
    flat_more (λ (k : ℕ). segment_of (path_at (map path_view c.args.paths.now) k)) c.args.line.now c.loop-k.k 0 c.args.bytes.now.items c.loop-k.bytes.items c.write_segment.new.bytes.items c.loop-k-test.true c.loop-k.invariant c.in_ok-write_segment.ensures

pub returns : goal.returns
returns c = flat_all (λ (k : ℕ). segment_of (path_at (map path_view c.args.paths.now) k)) c.args.line.now c.loop-k.k c.args.bytes.now.items c.loop-k.bytes.items c.loop-k-test.false c.loop-k.invariant
