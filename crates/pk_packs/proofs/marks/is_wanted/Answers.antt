use Rattle.std.proofs.Common.{◌∙◌, ap, sym, Bool, true, false, not, ◌&&◌, is_some}
use Rattle.pk_graph.specs.Graphs.{variable_view}
use Rattle.pk_packs.proofs.marks.is_wanted.Goals as goal

abbrev both : Bool → Bool → Bool → Bool
both asked array named = asked && (not array && named)

pub returns-then-is_some : goal.returns-then-is_some
unfolding variable_view
returns-then-is_some c =
    let named = is_some c.args.variable.now.name in
    ap (λ (b : Bool). both b true named) (sym c.if-not-is_asked.false) ∙ ap (λ (b : Bool). both c.args.is_asked b named) c.if-is_some.ensures

pub returns : goal.returns
unfolding variable_view
returns c =
    let named = is_some c.args.variable.now.name in
    c.is_some-2.ensures ∙ ap (λ (b : Bool). both b false named) (sym c.if-not-is_asked.false) ∙ ap (λ (b : Bool). both c.args.is_asked b named) c.if-is_some.ensures
