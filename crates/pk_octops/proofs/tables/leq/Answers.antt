use Rattle.std.proofs.Common.{ap, sym, ◌∙◌, ◌≡◌, ℕ, ◌*◌}
use Rattle.std.specs.Prelude.{Some, ◌-ℤ◌}
use Rattle.pk_octmat.specs.Octagon.{Octagon, entry, side}
use Rattle.pk_octmat.specs.Half.{kept_at}
use Rattle.pk_octmat.proofs.Tropical.{at_most_trans}
use Rattle.pk_octops.proofs.tables.leq.Goals as goal

left : (c : goal.After-leq_cells) → (i j : ℕ) → kept_at (2 * c.a.inside.vars) c.deref.result.now i j ≡ entry c.args.a.now i j
left c i j = ap (λ xs. kept_at (2 * c.a.inside.vars) xs i j) c.deref.ensures.value ∙ ap (λ (o : Octagon). entry o i j) c.a.view_is

right : (c : goal.After-leq_cells) → (i j : ℕ) → kept_at (2 * c.a.inside.vars) c.deref-2.result.now i j ≡ entry c.args.b.now i j
right c i j =
    let a = ap (λ (o : Octagon). o.vars) c.a.view_is in
    let b = ap (λ (o : Octagon). o.vars) c.b.view_is in
    let same : c.a.inside.vars ≡ c.b.inside.vars = a ∙ c.requires ∙ sym b in
    ap (λ xs. kept_at (2 * c.a.inside.vars) xs i j) c.deref-2.ensures.value ∙ ap (λ n. kept_at (2 * n) c.b.inside.cells.items i j) same ∙ ap (λ (o : Octagon). entry o i j) c.b.view_is

pub returns-clause-value : goal.returns-clause-value
returns-clause-value c = (
  λ e. record { each = λ i j. rw (← left c i j) (rw (← right c i j) (c.leq_cells.ensures.0 e i j)) },
  λ h. c.leq_cells.ensures.1 (λ i j. rw (left c i j) (rw (right c i j) (h.each i j))),
)

pub returns-clause-sound : goal.returns-clause-sound
returns-clause-sound c = λ e x m. record { each = λ i j. at_most_trans (Some (side x j -ℤ side x i)) (entry c.args.a.now i j) (entry c.args.b.now i j) (m.each i j) (rw (← left c i j) (rw (← right c i j) (c.leq_cells.ensures.0 e i j))) }
