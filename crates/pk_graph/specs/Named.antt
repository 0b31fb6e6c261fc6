-- The set of names that a value of the code stands for.
use Rattle.std.specs.HashSet.{contains_by}
use Rattle.std.specs.Str.{bytes_eq}
use Rattle.pk_graph.specs.declared.visibility.Named.{Named}
use Rattle.pk_graph.specs.Visible.{Names}

abbrev pub names_view : Named → Names
names_view s n = contains_by (λ k. bytes_eq n k.now) s.names
