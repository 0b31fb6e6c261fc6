-- The functions of a unit, by the unit's code.
use Rattle.std.proofs.Common.{◌≡◌, ◌<◌, ◌≤◌, ℕ, length, get_or, map, refl, sym, ◌∙◌, ap, subst}
use Rattle.std.specs.Prelude.{Option, Some, None, option_map, unwrap_or}
use Rattle.std.specs.Option.{option_and_then}
use Rattle.std.proofs.lemmas.Option.{slice_get-map, slice_get_read}
use Rattle.std.proofs.lemmas.List.{length-map, get_or-map, get_or_past}
use Rattle.pk_typed.specs.declared.units.Body.{Body}
use Rattle.pk_typed.specs.declared.units.Function.{Function}
use Rattle.pk_typed.specs.declared.units.Unit as declared_unit
use Rattle.pk_typed.specs.Trees.{UnitTree, FunctionTree, BodyTree}
use Rattle.pk_typed.specs.Views.{local_tree, body_tree, function_tree, unit_tree}
use Rattle.pk_calls.specs.Calls.{body_of}
use Rattle.pk_lower.specs.Parts.{function_at, body_at}
use Rattle.pk_typed.specs.Defaults.{no_body, no_function}

pub function_read : (u : declared_unit.Unit) (f : ℕ) (g : Function) → f < length u.functions.items → g ≡ get_or u.functions.items f g → function_tree g ≡ function_at (unit_tree u) f
unfolding unit_tree
function_read u f g lt at = ap function_tree at ∙ sym (get_or-map function_tree u.functions.items f g no_function lt)

pub function_past : (u : declared_unit.Unit) (f : ℕ) → length u.functions.items ≤ f → no_function ≡ function_at (unit_tree u) f
unfolding unit_tree
function_past u f le =
    sym (get_or_past (map function_tree u.functions.items) f no_function (subst (λ (n : ℕ). n ≤ f) (sym (length-map u.functions.items function_tree)) le))

pub returns_read : (u : declared_unit.Unit) (f : ℕ) (g : Function) → f < length u.functions.items → g ≡ get_or u.functions.items f g → g.returns ≡ (function_at (unit_tree u) f).returns
unfolding function_tree
returns_read u f g lt at = ap (λ (h : FunctionTree). h.returns) (function_read u f g lt at)

pub returns_past : (u : declared_unit.Unit) (f : ℕ) → length u.functions.items ≤ f → None ≡ (function_at (unit_tree u) f).returns
returns_past u f le = ap (λ (h : FunctionTree). h.returns) (function_past u f le)

pub body_in : (u : declared_unit.Unit) (f : ℕ) (g : Function) → f < length u.functions.items → g ≡ get_or u.functions.items f g → (function_tree g).body ≡ body_of (unit_tree u) f
unfolding unit_tree body_of
body_in u f g lt at =
    sym (ap (option_and_then (λ (h : FunctionTree). h.body)) (slice_get-map function_tree u.functions.items f ∙ ap (option_map function_tree) (slice_get_read u.functions.items (length u.functions.items) f g refl lt at)))

pub locals_some : (u : UnitTree) (f : ℕ) (b : Body) → Some (body_tree b) ≡ body_of u f → map local_tree b.locals.items ≡ (body_at u f).locals
unfolding body_tree
locals_some u f b e = ap (λ (o : Option BodyTree). (unwrap_or o no_body).locals) e
