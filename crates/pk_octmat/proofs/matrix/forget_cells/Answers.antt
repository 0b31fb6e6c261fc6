use Rattle.std.specs.Prelude.{◌/◌}
use Rattle.std.proofs.Common.{◌≡◌, ℕ, ◌<◌}
use Rattle.pk_octmat.specs.Octagon.{forgotten}
use Rattle.pk_octmat.specs.Half.{kept_at, unfolded}
use Rattle.pk_octmat.proofs.Bars.{half_below, pairs_of}
use Rattle.pk_octmat.proofs.Clearing.{forgotten_all, forgotten_is, forgotten_matrix}
use Rattle.pk_octmat.proofs.Half.{unfolded_length}
use Rattle.pk_octmat.proofs.Points.{forgotten_holds}
use Rattle.pk_octmat.proofs.matrix.forget_cells.Goals as goal

within : (c : goal.After-cells-2-1) (a b : ℕ) → a < c.args.d → b < c.args.d → kept_at c.args.d c.clear-2.new.cells a b ≡ forgotten (kept_at c.args.d c.args.cells.now) c.args.k a b
within c a b ad bd =
    forgotten_is (kept_at c.args.d c.args.cells.now) (kept_at c.args.d c.clear.new.cells) (kept_at c.args.d c.clear-2.new.cells) c.args.k a b (c.clear.ensures.value a b ad bd) (c.clear-2.ensures.value a b ad bd)

pub returns-clause-value : goal.returns-clause-value
returns-clause-value c =
    forgotten_all c.args.d (c.args.d / 2) c.args.k (unfolded c.args.d c.args.cells.now) (unfolded c.args.d c.clear-2.new.cells) (pairs_of _ c.requires.pairs) (half_below _ _ c.requires.pairs c.requires.variable) (within c)

pub returns-clause-sound : goal.returns-clause-sound
returns-clause-sound c = λ x v m. record { each = λ i j. rw (returns-clause-value c i j) (forgotten_holds (kept_at c.args.d c.args.cells.now) c.args.k x v m i j) }

pub returns-clause-whole : goal.returns-clause-whole
returns-clause-whole c = record {
  size = c.clear-2.ensures.kept;
  whole =
      forgotten_matrix c.args.d (c.args.d / 2) c.args.k (unfolded c.args.d c.args.cells.now) (unfolded c.args.d c.clear-2.new.cells) (pairs_of _ c.requires.pairs) c.requires.whole.whole (unfolded_length c.args.d c.clear-2.new.cells) (within c);
}
