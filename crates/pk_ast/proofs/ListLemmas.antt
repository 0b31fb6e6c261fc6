-- Lists of trees, and what one more value at the end of a `Vec` makes of its list.
use Rattle.std.proofs.Common.{◌≡◌, List, [], ◌∷◌, ◌++◌, refl, ap}
use Rattle.std.proofs.lemmas.List.{map-append}
use Rattle.pk_ast.specs.declared.declarations.Declarator.{Declarator}
use Rattle.pk_ast.specs.declared.declarations.Enumerator.{Enumerator}
use Rattle.pk_ast.specs.declared.declarations.InitializerItem.{InitializerItem}
use Rattle.pk_ast.specs.declared.units.Parameter.{Parameter}
use Rattle.pk_ast.specs.declared.statements.BlockItem.{BlockItem}
use Rattle.pk_ast.specs.declared.statements.BlockItem.TheVariants.{Declaration, Statement}
use Rattle.pk_ast.specs.Lists.{append_items}
use Rattle.pk_ast.specs.Trees.{ItemTrees, no_items, declaration_then, statement_then}
use Rattle.pk_ast.specs.Views.{declarator_tree, declarator_trees, enumerator_tree, enumerator_trees, initializer_item_tree, initializer_item_trees, declaration_tree, statement_tree, item_trees, parameter_tree, parameter_trees}

pub append_items-none : (rest : ItemTrees) → append_items rest no_items ≡ rest
append_items-none no_items = refl
append_items-none (declaration_then s d rest) = ap (declaration_then s d) (append_items-none rest)
append_items-none (statement_then s rest) = ap (statement_then s) (append_items-none rest)

pub append_items_assoc : (a b c : ItemTrees) → append_items (append_items a b) c ≡ append_items a (append_items b c)
append_items_assoc no_items b c = refl
append_items_assoc (declaration_then s d rest) b c = ap (declaration_then s d) (append_items_assoc rest b c)
append_items_assoc (statement_then s rest) b c = ap (statement_then s) (append_items_assoc rest b c)

pub item_trees-append : (is more : List BlockItem) → item_trees (is ++ more) ≡ append_items (item_trees is) (item_trees more)
item_trees-append [] more = refl
item_trees-append (Declaration s d ∷ rest) more = ap (declaration_then s (declaration_tree d.value)) (item_trees-append rest more)
item_trees-append (Statement s ∷ rest) more = ap (statement_then (statement_tree s)) (item_trees-append rest more)

pub item_trees-push : (is : List BlockItem) (i : BlockItem) → item_trees (is ++ i ∷ []) ≡ append_items (item_trees is) (item_trees (i ∷ []))
item_trees-push is i = item_trees-append is (i ∷ [])

pub declarator_trees-push : (ds : List Declarator) (d : Declarator) → declarator_trees (ds ++ d ∷ []) ≡ declarator_trees ds ++ declarator_tree d ∷ []
declarator_trees-push ds d = map-append declarator_tree ds (d ∷ [])

pub enumerator_trees-push : (xs : List Enumerator) (x : Enumerator) → enumerator_trees (xs ++ x ∷ []) ≡ enumerator_trees xs ++ enumerator_tree x ∷ []
enumerator_trees-push xs x = map-append enumerator_tree xs (x ∷ [])

pub initializer_item_trees-push : (is : List InitializerItem) (i : InitializerItem) → initializer_item_trees (is ++ i ∷ []) ≡ initializer_item_trees is ++ initializer_item_tree i ∷ []
initializer_item_trees-push is i = map-append initializer_item_tree is (i ∷ [])

pub parameter_trees-push : (ps : List Parameter) (p : Parameter) → parameter_trees (ps ++ p ∷ []) ≡ parameter_trees ps ++ parameter_tree p ∷ []
parameter_trees-push ps p = map-append parameter_tree ps (p ∷ [])
