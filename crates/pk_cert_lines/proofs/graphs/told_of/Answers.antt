use Rattle.std.proofs.Common.{◌≡◌, ℕ, List, refl, sym, subst}
use Rattle.std.specs.Prelude.{IfOk}
use Rattle.pk_graph.specs.Shown.{graph_view}
use Rattle.pk_cert_states.specs.Lines.{HasOne}
use Rattle.pk_cert_lines.specs.declared.told.Told.{Told}
use Rattle.pk_cert_lines.specs.Told.{IsToldIn}
use Rattle.pk_cert_lines.proofs.Telling.{many_of}
use Rattle.pk_cert_lines.proofs.graphs.told_of.Goals as goal

pub told_in-requires-clause-many : goal.told_in-requires-clause-many
told_in-requires-clause-many c =
    many_of (graph_view c.args.graph.now) c.requires.frame.0 c.args.frame.now c.args.order.now c.requires.frame.1 c.requires.order

pub returns : goal.returns
returns c =
    subst (λ (js : List ℕ). IfOk c.told_in.result (λ (t : Told). (t.state ≡ c.args.state) × IsToldIn js c.args.frame.now t)) c.requires.order c.told_in.ensures

pub told_in-requires-clause-one : goal.told_in-requires-clause-one
told_in-requires-clause-one c = subst HasOne (sym c.requires.frame.1) refl
