use Rattle.std.proofs.Common.{◌≡◌, ap, sym, subst}
use Rattle.std.specs.Prelude.{length}
use Rattle.pk_octagons.specs.Packs.{pack_at}
use Rattle.pk_state.specs.Layouts.{Layout}
use Rattle.pk_state.specs.Facts.{Stated}
use Rattle.pk_state.proofs.Changed.{changes_stay}
use Rattle.pk_state.proofs.state.State.with_bounds.Goals as goal

pub invariant_of-result : goal.invariant_of-result
invariant_of-result c =
    let l = c.self.inside.frame.now in
    let mine : c.args.self.layout ≡ l = sym (ap (λ (s : Stated). s.layout) c.self.view_is) in (
      c.self.invariant.0,
      rw c.in_ok-facts.ensures (changes_stay.bounded l c.self.inside.facts c.args.p c.args.octagon c.self.invariant.1
          (subst (λ (k : Layout). c.args.octagon.vars ≡ length (pack_at k.packs c.args.p)) mine c.requires.vars) c.is_octagon.ensures),
      λ e. absurd (cc),
    )
