use Rattle.std.specs.Prelude.{◌/◌}
use Rattle.std.proofs.Common.{inl, inr, refl}
use Rattle.pk_octmat.proofs.Bars.{pairs_of}
use Rattle.pk_octmat.specs.Half.{kept_at, unfolded}
use Rattle.pk_octmat.proofs.Half.{unfolded_length}
use Rattle.pk_octclose.specs.Closing.{IsClosing, IsEmpty}
use Rattle.pk_octclose.proofs.Closed.{closing_matrix}
use Rattle.pk_octclose.proofs.after.close_cells_after.Given as given
use Rattle.pk_octclose.proofs.after.close_cells_after.Goals as goal
use Rattle.pk_octclose.proofs.after.close_cells_after.Goals.{else-paths_after-via-then-paths_after+else-tighten, else-paths_after-via-else-paths_after}

closing : (g : given.Over) (c : goal.Then-tighten g) → IsClosing c.args.d (kept_at c.args.d c.args.cells.now) (kept_at c.args.d c.tighten.new.cells)
closing g c = record { sums = kept_at c.args.d c.paths_after.new.cells; least = c.if-paths_after.ensures.least refl; halves = c.if-tighten.ensures.halves refl; is = c.if-tighten.ensures.value refl }

pub returns-then-tighten-clause-whole : goal.returns-then-tighten-clause-whole
returns-then-tighten-clause-whole g c = record { size = c.tighten.ensures.kept; whole = closing_matrix c.args.d (c.args.d / 2) (unfolded c.args.d c.args.cells.now) (unfolded c.args.d c.tighten.new.cells) (pairs_of _ c.requires.pairs) c.requires.whole.whole (unfolded_length c.args.d c.tighten.new.cells) (closing g c) }

pub returns-then-tighten-clause-kept : goal.returns-then-tighten-clause-kept
returns-then-tighten-clause-kept g c = λ e. closing g c

empty : (g : given.Over) (c : goal.After-cells-2-1 g) → IsEmpty c.args.d (kept_at c.args.d c.args.cells.now)
empty g c = elim c.else-paths_after.branch [
  | else-paths_after-via-then-paths_after+else-tighten w ↦
      let t = w.if-tighten.ensures.no refl in
      inr (record { sums = kept_at c.args.d c.paths_after.new.cells; least = w.if-paths_after.ensures.least refl; at = t.0; place = t.1; negative = t.2 })
  | else-paths_after-via-else-paths_after w ↦ inl (w.if-paths_after.ensures.cycle refl)
]

pub returns-clause-empty : goal.returns-clause-empty
returns-clause-empty g c = λ e. empty g c
