use Rattle.std.proofs.Common.{◌<◌, ℕ, map, subst, slice_index_or}
use Rattle.std.proofs.lemmas.List.{get_or_default}
use Rattle.pk_graph.specs.declared.verdicts.Verdict.TheVariants.{Safe}
use Rattle.pk_graph.specs.Graphs.{path_view}
use Rattle.pk_report.specs.Reports.{access_line}
use Rattle.pk_report.proofs.AccessLemmas.{access_next, access_end}
use Rattle.pk_report.proofs.accesses.write_accesses.Goals as goal

pub loop-k-preserved : goal.loop-k-preserved
loop-k-preserved c =
    access_next (access_line (map path_view c.args.paths.now)) c.args.accesses.now c.args.verdicts.now c.loop-k.k c.index-accesses-k.result (slice_index_or c.args.verdicts.now c.loop-k.k Safe) c.args.bytes.now.items c.loop-k.bytes.items c.write_access.new.bytes.items
    c.loop-k-test.true c.requires c.index-accesses-k.is
    (get_or_default c.args.verdicts.now c.loop-k.k Safe (slice_index_or c.args.verdicts.now c.loop-k.k Safe) (subst (λ (n : ℕ). c.loop-k.k < n) c.requires c.loop-k-test.true)) c.loop-k.invariant c.in_ok-write_access.ensures

pub returns : goal.returns
returns c =
    access_end (access_line (map path_view c.args.paths.now)) c.args.accesses.now c.args.verdicts.now c.loop-k.k c.args.bytes.now.items c.loop-k.bytes.items c.loop-k-test.false c.requires c.loop-k.invariant
