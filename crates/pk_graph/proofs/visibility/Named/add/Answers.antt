-- The clause of the set, at a name of each spelling: functions that agree there are equal.
use mathlib.Core.Path.{fun_ext}
use Rattle.std.proofs.Common.{ap, ◌∙◌, sym, ℕ, List, true, if◌then◌else◌, option_map}
use Rattle.std.specs.Str.{bytes_eq}
use Rattle.pk_graph.specs.Visible.{Names, with_name}
use Rattle.pk_graph.specs.Named.{names_view}
use Rattle.pk_graph.proofs.visibility.Named.add.Goals as goal

pub returns-in_ok-insert : goal.returns-in_ok-insert
returns-in_ok-insert c =
    let has : Names = names_view c.args.self.now in
    fun_ext (λ q.
    c.in_ok-insert.ensures.updates.0 (record { ref_ptr = (0, 0); now = q })
    ∙ ap (λ (m : List ℕ). if bytes_eq m q then true else has q) (c.as_bytes.ensures.value ∙ c.as_str.ensures)
    ∙ ap (λ (o : _). with_name (option_map (λ n. n.now) o) has q) (sym c.in-Some.is))
