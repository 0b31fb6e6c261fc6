use Rattle.std.proofs.Common.{ap, sym, subst}
use Rattle.std.specs.Prelude.{◌≡◌, ◌<◌, length}
use Rattle.pk_octagons.specs.Values.{type_at, IsValue}
use Rattle.pk_state.specs.Layouts.{Layout}
use Rattle.pk_state.specs.Facts.{Stated}
use Rattle.pk_state.specs.Changes.{IsApart}
use Rattle.pk_state.proofs.Changed.{changes_stay}
use Rattle.pk_state.proofs.Settled.{settled_write}
use Rattle.pk_state.proofs.state.State.with_value.Goals as goal

pub invariant_of-result : goal.invariant_of-result
invariant_of-result c =
    let l = c.self.inside.frame.now in
    let mine : c.args.self.layout ≡ l = sym (ap (λ (s : Stated). s.layout) c.self.view_is) in (
      c.self.invariant.0,
      rw c.in_ok-facts.ensures (changes_stay.written l c.self.inside.facts c.args.x c.args.value c.self.invariant.1 (subst (λ k. c.args.x < length k.types) mine c.requires.place)
          (subst (λ (k : Layout). IsValue (type_at k.types c.args.x) c.args.value) mine c.requires.value)),
      λ yes.
          let s = c.stays_settled-settled.ensures yes in
          let apart : IsApart l c.args.x = s.2 in
          rw c.in_ok-facts.ensures (settled_write l c.self.inside.facts c.args.x c.args.value apart (c.is_tight-tight.ensures s.1) (c.self.invariant.2 s.0)),
    )
