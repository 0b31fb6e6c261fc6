use Rattle.pk_octmat.proofs.Bars.{pairs_of}
use Rattle.std.specs.Prelude.{◌/◌}
use Rattle.std.proofs.Common.{refl, inl, inr}
use Rattle.pk_octmat.specs.Half.{kept_at, unfolded}
use Rattle.pk_octmat.proofs.Half.{unfolded_length}
use Rattle.pk_octclose.specs.Closing.{IsClosing, IsEmpty}
use Rattle.pk_octclose.proofs.Closed.{closing_matrix, closing_points}
use Rattle.pk_octclose.proofs.Members.{empty_none}
use Rattle.pk_octclose.proofs.Again.{closed_kept, closing_not_empty}
use Rattle.pk_octclose.proofs.closing.close_cells.Given as given
use Rattle.pk_octclose.proofs.closing.close_cells.Goals as goal
use Rattle.pk_octclose.proofs.closing.close_cells.Goals.{else-paths-via-then-paths+else-tighten, else-paths-via-else-paths}

closing : (g : given.Over) (c : goal.After-drop-steps-inside-then-tighten g) → IsClosing c.args.d (kept_at c.args.d c.args.cells.now) (kept_at c.args.d c.tighten.new.cells)
closing g c = record { sums = kept_at c.args.d c.paths.new.cells; least = c.if-paths.ensures.least refl; halves = c.if-tighten.ensures.halves refl; is = c.if-tighten.ensures.value refl }

pub returns-then-tighten-clause-whole : goal.returns-then-tighten-clause-whole
returns-then-tighten-clause-whole g c = record { size = c.tighten.ensures.kept; whole = closing_matrix c.args.d (c.args.d / 2) (unfolded c.args.d c.args.cells.now) (unfolded c.args.d c.tighten.new.cells) (pairs_of _ c.requires.pairs) c.requires.whole.whole (unfolded_length c.args.d c.tighten.new.cells) (closing g c) }

pub returns-then-tighten-clause-kept : goal.returns-then-tighten-clause-kept
returns-then-tighten-clause-kept g c = λ e. closing g c

pub returns-then-tighten-clause-empty : goal.returns-then-tighten-clause-empty
returns-then-tighten-clause-empty g c =
    (λ e. absurd (cc), λ h. absurd (closing_not_empty c.args.d (c.args.d / 2) (unfolded c.args.d c.args.cells.now) (kept_at c.args.d c.tighten.new.cells) (pairs_of _ c.requires.pairs) (closing g c) h))

pub returns-then-tighten-clause-points : goal.returns-then-tighten-clause-points
returns-then-tighten-clause-points g c = λ e. closing_points c.args.d (c.args.d / 2) (unfolded c.args.d c.args.cells.now) (unfolded c.args.d c.tighten.new.cells) (pairs_of _ c.requires.pairs) c.requires.whole.whole (closing g c)

pub returns-then-tighten-clause-again : goal.returns-then-tighten-clause-again
returns-then-tighten-clause-again g c = λ h. (refl, closed_kept c.args.d (c.args.d / 2) (unfolded c.args.d c.args.cells.now) (unfolded c.args.d c.tighten.new.cells) (pairs_of _ c.requires.pairs) h (closing g c))

empty : (g : given.Over) (c : goal.After-drop-steps-inside-3 g) → IsEmpty c.args.d (kept_at c.args.d c.args.cells.now)
empty g c = elim c.else-paths.branch [
  | else-paths-via-then-paths+else-tighten w ↦
      let t = w.if-tighten.ensures.no refl in
      inr (record { sums = kept_at c.args.d c.paths.new.cells; least = w.if-paths.ensures.least refl; at = t.0; place = t.1; negative = t.2 })
  | else-paths-via-else-paths w ↦ inl (w.if-paths.ensures.cycle refl)
]

pub returns-clause-empty : goal.returns-clause-empty
returns-clause-empty g c = (λ e. empty g c, λ h. refl)

pub returns-clause-none : goal.returns-clause-none
returns-clause-none g c = λ e. empty_none c.args.d (c.args.d / 2) (kept_at c.args.d c.args.cells.now) (pairs_of _ c.requires.pairs) (empty g c)

pub returns-clause-again : goal.returns-clause-again
returns-clause-again g c = λ h. absurd (closing_not_empty c.args.d (c.args.d / 2) (unfolded c.args.d c.args.cells.now) (kept_at c.args.d c.args.cells.now) (pairs_of _ c.requires.pairs) h (empty g c))
