-- What a context looks up.
use Rattle.std.proofs.Common.{◌≡◌, ◌<◌, ◌≤◌, ℕ, List, [], length, get_or, refl, sym, ◌∙◌, ap, map}
use Rattle.std.specs.Prelude.{Option, None, option_map, unwrap_or}
use Rattle.std.specs.Option.{option_and_then}
use Rattle.std.proofs.lemmas.Option.{slice_get-map, slice_get_read, slice_get_past}
use Rattle.std.proofs.lemmas.List.{get_or-map}
use Rattle.pk_typed.specs.declared.units.Function.{Function}
use Rattle.pk_typed.specs.declared.units.FileObject.{FileObject}
use Rattle.pk_typed.specs.declared.units.Local.{Local}
use Rattle.pk_typed.specs.declared.units.Unit as declared_unit
use Rattle.pk_typed.specs.Trees.{FunctionTree, FileObjectTree, LocalTree}
use Rattle.pk_typed.specs.Views.{local_tree, function_tree, file_object_tree, unit_tree}
use Rattle.pk_lower_row.specs.Contexts.{length_in_file, parameters_of}
use Rattle.pk_typed.specs.Defaults.{no_local, length_of_start}

pub local_read : (xs : List Local) (i : ℕ) (x : Local) → i < length xs → local_tree (get_or xs i x) ≡ get_or (map local_tree xs) i no_local
local_read xs i x lt = sym (get_or-map local_tree xs i x no_local lt)

pub local_length : (xs : List Local) (i : ℕ) (x : Local) → i < length xs → (get_or xs i x).length ≡ (get_or (map local_tree xs) i no_local).length
unfolding local_tree
local_length xs i x lt = ap (λ (y : LocalTree). y.length) (local_read xs i x lt)

pub local_type : (xs : List Local) (i : ℕ) (x : Local) → i < length xs → (get_or xs i x).int_type ≡ (get_or (map local_tree xs) i no_local).int_type
unfolding local_tree
local_type xs i x lt = ap (λ (y : LocalTree). y.int_type) (local_read xs i x lt)

pub object_length : (u : declared_unit.Unit) (i : ℕ) (x : FileObject) → i < length u.objects.items → x ≡ get_or u.objects.items i x → length_of_start (file_object_tree x).start ≡ length_in_file (unit_tree u) i
unfolding unit_tree
object_length u i x lt at =
    sym (ap (option_and_then (λ (o : FileObjectTree). length_of_start o.start)) (slice_get-map file_object_tree u.objects.items i ∙ ap (option_map file_object_tree) (slice_get_read u.objects.items (length u.objects.items) i x refl lt at)))

pub object_past : (u : declared_unit.Unit) (i : ℕ) → length u.objects.items ≤ i → None ≡ length_in_file (unit_tree u) i
unfolding unit_tree
object_past u i le =
    sym (ap (option_and_then (λ (o : FileObjectTree). length_of_start o.start)) (slice_get-map file_object_tree u.objects.items i ∙ ap (option_map file_object_tree) (slice_get_past u.objects.items i le)))

pub parameters_read : (u : declared_unit.Unit) (f : ℕ) (g : Function) → f < length u.functions.items → g ≡ get_or u.functions.items f g → g.parameters.items ≡ parameters_of (unit_tree u) f
unfolding unit_tree function_tree
parameters_read u f g lt at =
    sym (ap (λ (o : Option FunctionTree). unwrap_or (option_map (λ (h : FunctionTree). h.parameters) o) []) (slice_get-map function_tree u.functions.items f ∙ ap (option_map function_tree) (slice_get_read u.functions.items (length u.functions.items) f g refl lt at)))

pub parameters_past : (u : declared_unit.Unit) (f : ℕ) → length u.functions.items ≤ f → [] ≡ parameters_of (unit_tree u) f
unfolding unit_tree
parameters_past u f le =
    sym (ap (λ (o : Option FunctionTree). unwrap_or (option_map (λ (h : FunctionTree). h.parameters) o) []) (slice_get-map function_tree u.functions.items f ∙ ap (option_map function_tree) (slice_get_past u.functions.items f le)))
