use Rattle.std.proofs.Common.{◌∙◌, ◌++◌, ℕ, ap, length, List, [], ◌∷◌, take, replicate, Option, Some, None, if◌then◌else◌}
use Rattle.std.specs.List.{flat_map}
use Rattle.std.proofs.lemmas.List.{length-append}
use Rattle.pk_ctypes.specs.declared.types.IntType.{IntType}
use Rattle.pk_graph.specs.declared.graphs.Variable.{Variable}
use Rattle.pk_graph.specs.Graphs.{variable_view}
use Rattle.pk_transfer.specs.Slots.{is_small, further_types}
use Rattle.pk_transfer.specs.Graphs.{kinds_shown}
use Rattle.pk_transfer.proofs.LayoutLemmas.{further_next, from_next}
use Rattle.pk_transfer.proofs.frames.further_slots.Goals as goal

pub loop-variable-preserved : goal.loop-variable-preserved
unfolding variable_view
loop-variable-preserved c =
    let vs = c.args.variables.now in
    let k = c.loop-variable.variable-index in
    let first = c.args.types.now.items in
    let old = c.loop-variable.types.items in
    let v = c.variable-item.result in
    record {
      types =
          further_next vs k _ first old c.push_types.new.types.items c.loop-variable-test.true c.loop-variable.invariant.types
          (c.in_ok-push_types.ensures ∙ ap (λ (n : ℕ). old ++ replicate n v.int_type) c.further_count.ensures
          ∙ ap (λ (w : Variable). old ++ further_types (variable_view w).kind) c.variable-item.is);
      from =
          from_next vs k _ (length first) c.len-first.result c.loop-variable.further.items c.push.new.self.items c.loop-variable-test.true c.loop-variable.invariant.from
          (c.len-first.ensures ∙ c.loop-variable.types.ok.0 ∙ ap (λ (ts : List IntType). length ts) c.loop-variable.invariant.types ∙ length-append first (flat_map further_types (kinds_shown (take k vs))))
          (c.in_ok-push.ensures.items ∙ ap (λ (o : Option ℕ). c.loop-variable.further.items ++ o ∷ []) c.where_small.ensures
          ∙ ap (λ (w : Variable). c.loop-variable.further.items ++ (if is_small (variable_view w).kind.length then Some c.len-first.result else None) ∷ []) c.variable-item.is);
    }
