-- Lists that grow at their end.
use Rattle.std.proofs.Common.{◌≡◌, List, [], ◌∷◌, ◌++◌, map}
use Rattle.std.proofs.lemmas.List.{map-append}
use Rattle.pk_typed.specs.declared.units.FileObject.{FileObject}
use Rattle.pk_typed.specs.declared.units.Local.{Local}
use Rattle.pk_typed.specs.Views.{local_tree, file_object_tree}

pub locals_push : (ls : List Local) (l : Local) → map local_tree (ls ++ l ∷ []) ≡ map local_tree ls ++ local_tree l ∷ []
locals_push ls l = map-append local_tree ls (l ∷ [])

pub file_objects_push : (xs : List FileObject) (x : FileObject) → map file_object_tree (xs ++ x ∷ []) ≡ map file_object_tree xs ++ file_object_tree x ∷ []
file_objects_push xs x = map-append file_object_tree xs (x ∷ [])
