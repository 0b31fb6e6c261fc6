use Rattle.std.proofs.Common.{ℕ, List, Option, subst, sym}
use Rattle.std.specs.Prelude.{IfOk, OnOk, IfSome}
use Rattle.pk_graph.specs.Shown.{graph_view}
use Rattle.pk_cert.specs.Rows.{line_text}
use Rattle.pk_cert.specs.Pieces.{AreFirst}
use Rattle.pk_cert_states.specs.Lines.{line_in}
use Rattle.pk_cert_lines.specs.Told.{IsToldIn}
use Rattle.pk_cert_lines.proofs.Telling.{many_of}
use Rattle.pk_cert_lines.proofs.graphs.read_alike.Goals as goal

pub read_in-requires-clause-many : goal.read_in-requires-clause-many
read_in-requires-clause-many c =
    many_of (graph_view c.args.graph.now) c.requires.frame.0 c.args.frame.now c.args.order.now c.requires.frame.1 c.requires.order

pub read_in-requires-clause-told : goal.read_in-requires-clause-told
read_in-requires-clause-told c =
    subst (λ (js : List ℕ). IsToldIn js c.args.frame.now c.args.told.now) (sym c.requires.order) c.requires.told

pub returns-clause-told : goal.returns-clause-told
returns-clause-told c =
    subst (λ (js : List ℕ). OnOk c.read_in.result (IsToldIn js c.args.frame.now c.read_in.new.told)) c.requires.order c.read_in.ensures.told

pub returns-clause-line : goal.returns-clause-line
returns-clause-line c =
    subst (λ (js : List ℕ). IfOk c.read_in.result (λ (o : Option ℕ). IfSome o (λ (n : ℕ). AreFirst (line_text (line_in js c.read_in.new.told.state.facts)) c.args.bytes.now n)))
    c.requires.order c.read_in.ensures.line
