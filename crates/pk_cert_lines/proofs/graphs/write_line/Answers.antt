use Rattle.std.proofs.Common.{◌≡◌, ◌++◌, ℕ, List, subst, sym}
use Rattle.std.specs.Prelude.{OnOk}
use Rattle.pk_graph.specs.Shown.{graph_view}
use Rattle.pk_cert.specs.Rows.{line_text}
use Rattle.pk_cert_states.specs.Lines.{line_in}
use Rattle.pk_cert_lines.specs.Told.{IsToldIn}
use Rattle.pk_cert_lines.proofs.Telling.{many_of}
use Rattle.pk_cert_lines.proofs.graphs.write_line.Goals as goal

pub write_in-requires-clause-many : goal.write_in-requires-clause-many
write_in-requires-clause-many c =
    many_of (graph_view c.args.graph.now) c.requires.frame.0 c.args.frame.now c.args.order.now c.requires.frame.1 c.requires.order

pub write_in-requires-clause-told : goal.write_in-requires-clause-told
write_in-requires-clause-told c =
    subst (λ (js : List ℕ). IsToldIn js c.args.frame.now c.args.told.now) (sym c.requires.order) c.requires.told

pub returns-clause-told : goal.returns-clause-told
returns-clause-told c =
    subst (λ (js : List ℕ). OnOk c.write_in.result (IsToldIn js c.args.frame.now c.write_in.new.told)) c.requires.order c.write_in.ensures.told

pub returns-clause-bytes : goal.returns-clause-bytes
returns-clause-bytes c =
    subst (λ (js : List ℕ). OnOk c.write_in.result (c.write_in.new.bytes.items ≡ c.args.bytes.now.items ++ line_text (line_in js c.args.state.now.facts)))
    c.requires.order c.write_in.ensures.bytes
