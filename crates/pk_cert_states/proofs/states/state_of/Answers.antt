use Rattle.std.proofs.Common.{ap, sym, subst, refl, ◌∙◌, ℕ, List, length}
use Rattle.pk_graph.specs.Shown.{graph_view}
use Rattle.pk_state.specs.Layouts.{Layout}
use Rattle.pk_cert_states.specs.Lines.{HasOne}
use Rattle.pk_cert_states.proofs.Telling.{as_many}
use Rattle.pk_cert_states.proofs.states.state_of.Goals as goal

pub in_order-requires-clause-many : goal.in_order-requires-clause-many
in_order-requires-clause-many c =
    ap (λ (l : Layout). length l.types) c.requires.frame.1 ∙ as_many (graph_view c.args.graph.now) c.requires.frame.0 ∙ ap (λ (js : List ℕ). length js) (sym c.requires.order)

pub in_order-requires-clause-one : goal.in_order-requires-clause-one
in_order-requires-clause-one c = subst HasOne (sym c.requires.frame.1) refl
