-- The graph of a unit with its call paths: its draft, numbered.
use Rattle.std.specs.Prelude.{List, map}
use Rattle.pk_typed.specs.Trees.{UnitTree}
use Rattle.pk_calls.specs.declared.listings.CallPath.{CallPath}
use Rattle.pk_graph.specs.Graphs.{GraphOf}
use Rattle.pk_draft.specs.Drafts.{by_number}
use Rattle.pk_number.specs.Numbering.{numbered}
use Rattle.pk_lower.specs.Parts.{program_draft}
use Rattle.pk_lower.specs.Paths.{path_of}

abbrev pub graph_of : UnitTree → List CallPath → GraphOf
graph_of u paths = numbered (map (path_of u paths) paths) (program_draft by_number u paths)
