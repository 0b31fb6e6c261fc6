-- What the values of the code stand for.
use Rattle.std.specs.Prelude.{List, Option, option_map, map}
use Rattle.pk_typed.specs.declared.statements.Declared.{Declared}
use Rattle.pk_typed.specs.Trees.{DeclaredTree}
use Rattle.pk_typed.specs.Views.{local_tree, file_object_tree, declared_trees}
use Rattle.pk_type_scope.specs.declared.failures.Failure.{Failure}
use Rattle.pk_type_scope.specs.Scopes.{scoping_of}
use Rattle.pk_type_declaration.specs.declared.parts.Parts.{Parts}
use Rattle.pk_type_declaration.specs.declared.walk.Statics.{Statics}
use Rattle.pk_type_declaration.specs.declared.walk.Walk.{Walk}
use Rattle.pk_type_declaration.specs.Parts.{parts_in}
use Rattle.pk_type_declaration.specs.Walks.{StaticsTree, Walked}

abbrev pub statics_tree : Statics → StaticsTree
statics_tree s = record { first = s.first; made = map file_object_tree s.made.items }

abbrev pub walked_in : Walk → Walked (Option Failure)
walked_in w =
    record {
      scoping = scoping_of w.scope;
      found = w.notes.found;
      calls = w.notes.calls.items;
      locals = map local_tree w.locals.items;
      statics = statics_tree w.statics;
    }

abbrev pub declared_in : Parts Declared → Option (List DeclaredTree)
declared_in p = option_map declared_trees (parts_in p)
