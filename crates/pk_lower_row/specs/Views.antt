-- What values of the code stand for.
use Rattle.std.specs.Prelude.{ℕ, List, map}
use Rattle.pk_typed.specs.Views.{unit_tree, local_tree}
use Rattle.pk_graph.specs.declared.trees.Tree.{Tree}
use Rattle.pk_graph.specs.Views.{tree_view}
use Rattle.pk_draft.specs.declared.drafts.Draft.{Draft}
use Rattle.pk_draft.specs.Drafts.{Given}
use Rattle.pk_draft.specs.Shown.{drafted}
use Rattle.pk_lower_row.specs.declared.contexts.Context as code
use Rattle.pk_lower_row.specs.Contexts.{Context}
use Rattle.pk_lower_row.specs.Rows.{Two, Loaded, Passed}

unfoldable pub context_in : code.Context → Context
context_in c = record {
  unit = unit_tree c.unit.now;
  path = c.path;
  first = c.first;
  locals = map local_tree c.locals.now;
  returns = c.returns;
  sizes = c.sizes.now;
}

-- a tree and the draft after it
abbrev pub given : Tree → Draft → Given ℕ
given e d = (tree_view e, drafted d)

abbrev pub two_in : (first second : Tree) → Draft → Two ℕ
two_in a b d = record { first = tree_view a; second = tree_view b; draft = drafted d }

abbrev pub loaded_in : (index right element : Tree) → Draft → Loaded ℕ
loaded_in i r e d = record { index = tree_view i; right = tree_view r; element = tree_view e; draft = drafted d }

abbrev pub passed_in : List Tree → Draft → Passed ℕ
passed_in es d = record { trees = map tree_view es; draft = drafted d }
