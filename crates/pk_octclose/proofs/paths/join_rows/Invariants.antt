use Rattle.std.specs.Prelude.{◌≡◌, ◌+◌, ◌≤◌, ◌*◌}
use Rattle.pk_octmat.specs.Half.{kept_at}
use Rattle.pk_octclose.specs.Walks.{relaxed}
use Rattle.pk_octmat.proofs.Pair.{InPair}
use Rattle.pk_octclose.proofs.Rows.{InKept}
use Rattle.pk_octclose.proofs.paths.join_rows.Given as goal

abbrev pub invariant-loop-j : goal.invariant-loop-j
invariant-loop-j g l = record {
  there : l.there ≡ kept_at l.d l.fn.cells l.p (l.p + 1);
  back : l.back ≡ kept_at l.d l.fn.cells (l.p + 1) l.p;
  rows : InPair l.d l.p l.j (relaxed (kept_at l.d l.fn.cells) (l.p + 1) l.p) (relaxed (kept_at l.d l.fn.cells) l.p (l.p + 1)) l.fn.cells l.cells;
  first : InKept l.d l.j (relaxed (kept_at l.d l.fn.cells) (l.p + 1) l.p) l.first;
  second : InKept l.d l.j (relaxed (kept_at l.d l.fn.cells) l.p (l.p + 1)) l.second;
  steps : l.steps ≤ l.fn.steps + 2 * l.j;
}
