-- What is visible at a point.
use Rattle.std.specs.Prelude.{ℕ, Bool, true, false, not, ◌&&◌, if◌then◌else◌, List, [], ◌∷◌, ◌++◌, reverse, slice_index_or, Option, Some, None, is_none}
use Rattle.std.specs.List.{filter}
use Rattle.std.specs.Str.{bytes_eq}
use Rattle.pk_graph.specs.declared.graphs.Entry.{Entry}
use Rattle.pk_graph.specs.Graphs.{VariableOf, no_variable, GraphOf, point_at}

-- a set of names
abbrev pub Names : Type 0
Names = List ℕ → Bool

abbrev pub no_name : Names
no_name n = false

abbrev pub with_name : Option (List ℕ) → Names → Names
with_name None has n = has n
with_name (Some m) has n = if bytes_eq m n then true else has n

abbrev pub is_new : Option (List ℕ) → Names → Bool
is_new None has = false
is_new (Some m) has = not (has m)

abbrev pub name_at : List VariableOf → ℕ → Option (List ℕ)
name_at vs x = (slice_index_or vs x no_variable).name

abbrev pub is_shown : Option (List ℕ) → Bool → Names → Bool
is_shown m hides has = not hides && is_new m has

-- Of variables in scope, newest first, those that none hides: a name hides the same name of an older one, a variable's or not. There are newer ones of these names.
unfoldable pub not_hidden : List VariableOf → Names → List Entry → List ℕ
not_hidden vs has [] = []
not_hidden vs has (e ∷ es) =
    let m = name_at vs e.variable in
    if is_shown m e.hides has then e.variable ∷ not_hidden vs (with_name m has) es
    else not_hidden vs (with_name m has) es

abbrev pub is_of_file : List VariableOf → ℕ → Bool
is_of_file vs x = is_none (slice_index_or vs x no_variable).path

abbrev pub files_first : List VariableOf → List ℕ → List ℕ
files_first vs xs = filter (is_of_file vs) xs ++ filter (λ x. not (is_of_file vs x)) xs

-- the objects of the file first, each in the order in which their names came into scope
abbrev pub visible_at : GraphOf → ℕ → List ℕ
visible_at g p = files_first g.variables (reverse (not_hidden g.variables no_name (point_at g p).scope))
