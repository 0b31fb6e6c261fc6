use Rattle.std.proofs.Common.{◌≡◌, ap, subst}
use Rattle.std.specs.Prelude.{true, length, Option}
use Rattle.pk_state.specs.Layouts.{Layout}
use Rattle.pk_state.specs.Facts.{Facts, Stated}
use Rattle.pk_state.specs.Changes.{AreAlikeAt}
use Rattle.pk_state.proofs.state.State.same_row.Goals as goal

pub returns : goal.returns
returns c =
    let tells : Option Facts → Option Facts → Layout → Type 0 =
    λ f g l. (c.same_row_if.result ≡ true → AreAlikeAt f g c.args.x (length l.types)) × (AreAlikeAt f g c.args.x (length l.types) → c.same_row_if.result ≡ true) in
    subst (λ l. tells c.args.self.now.facts c.args.other.now.facts l) (ap (λ (s : Stated). s.layout) c.self.view_is)
    (subst (λ g. tells c.args.self.now.facts g c.self.inside.frame.now) (ap (λ (s : Stated). s.facts) c.other.view_is)
    (subst (λ f. tells f c.other.inside.facts c.self.inside.frame.now) (ap (λ (s : Stated). s.facts) c.self.view_is) c.same_row_if.ensures))
