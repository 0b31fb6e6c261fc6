-- The functions of a unit, by the unit's code.
use Rattle.std.proofs.Common.{◌≡◌, ◌<◌, ◌≤◌, ◌↔◌, ℕ, List, [], length, get_or, Bor, IsTrue, Bool, true, false, refl, sym, ◌∙◌, ap, subst, ⊎_elim}
use Rattle.std.proofs.lemmas.Bool.{cases_lt}
use Rattle.std.specs.Prelude.{Option, Some, None, IsSome, is_some, option_map, unwrap_or, slice_get}
use Rattle.std.specs.Option.{option_and_then, option_copied}
use Rattle.std.specs.Prelude.{Result, Ok, Err, IfOk}
use Rattle.std.specs.Str.{IsUtf8}
use Rattle.std.proofs.lemmas.Str.{IsUtf8-nil}
use Rattle.std.proofs.lemmas.Slice.Eq.{slice_eq-Decides}
use Rattle.std.proofs.lemmas.Bool.Decides.{Decides-eqb}
use Rattle.std.specs.Cmp.Lexicographic.{pointwise}
use lib.Dec.{eqb}
use Rattle.std.proofs.lemmas.Option.{slice_get-map, slice_get_read, slice_get_past}
use Rattle.std.proofs.lemmas.List.{length-map}
use Rattle.pk_typed.specs.declared.units.Body.{Body}
use Rattle.pk_typed.specs.declared.units.Function.{Function}
use Rattle.pk_typed.specs.declared.units.Unit as declared_unit
use Rattle.pk_typed.specs.Trees.{UnitTree, FunctionTree, BodyTree}
use Rattle.pk_typed.specs.Views.{local_tree, body_tree, function_tree, unit_tree}
use Rattle.pk_calls.specs.Calls.{body_of, HasBody, name_of, calls_of, locals_of, IsNamed}

pub function_read : (u : declared_unit.Unit) (f : ℕ) (g : Function) → f < length u.functions.items → g ≡ get_or u.functions.items f g → slice_get (unit_tree u).functions f ≡ Some (function_tree g)
unfolding unit_tree
function_read u f g lt at = slice_get-map function_tree u.functions.items f ∙ ap (option_map function_tree) (slice_get_read u.functions.items (length u.functions.items) f g refl lt at)

function_past : (u : declared_unit.Unit) (f : ℕ) → length u.functions.items ≤ f → slice_get (unit_tree u).functions f ≡ None
unfolding unit_tree
function_past u f le = slice_get-map function_tree u.functions.items f ∙ ap (option_map function_tree) (slice_get_past u.functions.items f le)

pub body_read : (u : declared_unit.Unit) (f : ℕ) (g : Function) (r : Option (Bor Body)) → f < length u.functions.items → g ≡ get_or u.functions.items f g → option_copied r ≡ g.body
    → option_map body_tree (option_copied r) ≡ body_of (unit_tree u) f
unfolding body_of function_tree
body_read u f g r lt at is = ap (option_map body_tree) is ∙ sym (ap (option_and_then (λ (h : FunctionTree). h.body)) (function_read u f g lt at))

pub body_past : (u : declared_unit.Unit) (f : ℕ) → length u.functions.items ≤ f → None ≡ body_of (unit_tree u) f
unfolding body_of
body_past u f le = sym (ap (option_and_then (λ (h : FunctionTree). h.body)) (function_past u f le))

pub calls_some : (u : UnitTree) (f : ℕ) (b : Body) → Some (body_tree b) ≡ body_of u f → b.calls.items ≡ calls_of u f
unfolding calls_of body_tree
calls_some u f b e = ap (λ (o : Option BodyTree). unwrap_or (option_map (λ (t : BodyTree). t.calls) o) []) e

pub calls_none : (u : UnitTree) (f : ℕ) → None ≡ body_of u f → [] ≡ calls_of u f
unfolding calls_of
calls_none u f e = ap (λ (o : Option BodyTree). unwrap_or (option_map (λ (t : BodyTree). t.calls) o) []) e

pub locals_some : (u : UnitTree) (f : ℕ) (b : Body) → Some (body_tree b) ≡ body_of u f → length b.locals.items ≡ locals_of u f
unfolding locals_of body_tree
locals_some u f b e = sym (length-map b.locals.items local_tree) ∙ ap (λ (o : Option BodyTree). unwrap_or (option_map (λ (t : BodyTree). length t.locals) o) 0) e

pub locals_none : (u : UnitTree) (f : ℕ) → None ≡ body_of u f → 0 ≡ locals_of u f
unfolding locals_of
locals_none u f e = ap (λ (o : Option BodyTree). unwrap_or (option_map (λ (t : BodyTree). length t.locals) o) 0) e

pub no_true : false ≡ true → ⊥
no_true e = cc

pub has_body_is : (r : Option (Bor Body)) (o : Option BodyTree) → option_map body_tree (option_copied r) ≡ o → IsTrue (is_some r) ↔ IsSome o
has_body_is None o e = subst (λ (p : Option BodyTree). IsTrue false ↔ IsSome p) e ((λ h. absurd (no_true h)), (λ h. absurd (no_true h)))
has_body_is (Some b) o e = subst (λ (p : Option BodyTree). IsTrue true ↔ IsSome p) e ((λ h. refl), (λ h. refl))

pub name_read : (u : declared_unit.Unit) (f : ℕ) (g : Function) → f < length u.functions.items → g ≡ get_or u.functions.items f g → g.name ≡ name_of (unit_tree u) f
unfolding name_of function_tree
name_read u f g lt at = sym (ap (λ (o : Option FunctionTree). unwrap_or (option_map (λ (t : FunctionTree). t.name) o) []) (function_read u f g lt at))

pub name_past : (u : declared_unit.Unit) (f : ℕ) → length u.functions.items ≤ f → [] ≡ name_of (unit_tree u) f
unfolding name_of
name_past u f le = sym (ap (λ (o : Option FunctionTree). unwrap_or (option_map (λ (t : FunctionTree). t.name) o) []) (function_past u f le))

pub has_body_within : (u : UnitTree) (f : ℕ) → HasBody u f → f < length u.functions
unfolding body_of
has_body_within u f h = ⊎_elim (λ lt. lt) (λ le. absurd (no_true (subst (λ (o : Option FunctionTree). IsSome (option_and_then (λ (g : FunctionTree). g.body) o)) (slice_get_past u.functions f le) h))) (cases_lt f (length u.functions))

pub functions_long : (u : declared_unit.Unit) → length (unit_tree u).functions ≡ length u.functions.items
unfolding unit_tree
functions_long u = length-map u.functions.items function_tree

pub has_body_in : (u : declared_unit.Unit) (f : ℕ) → HasBody (unit_tree u) f → f < length u.functions.items
has_body_in u f h = subst (λ (n : ℕ). f < n) (functions_long u) (has_body_within (unit_tree u) f h)

-- a name without bytes
pub empty_name : {E : Type 0} (r : Result (List ℕ) E) → IfOk r (λ n. IsUtf8 [] → n ≡ []) → IfOk r (λ n. n ≡ [])
empty_name (Ok n) h = h IsUtf8-nil
empty_name (Err e) h = tt

some_mapped : (o : Option Body) → is_some (option_map body_tree o) ≡ is_some o
some_mapped None = refl
some_mapped (Some b) = refl

pub body_there : (u : declared_unit.Unit) (f : ℕ) (g : Function) → f < length u.functions.items → g ≡ get_or u.functions.items f g → is_some (body_of (unit_tree u) f) ≡ is_some g.body
unfolding body_of function_tree
body_there u f g lt at = ap (λ (o : Option FunctionTree). is_some (option_and_then (λ (h : FunctionTree). h.body) o)) (function_read u f g lt at) ∙ some_mapped g.body

pub name_test : (a b : List ℕ) (r : Bool) → r ≡ pointwise eqb a b → IsTrue r ↔ (a ≡ b)
name_test a b r e = let d = slice_eq-Decides Decides-eqb a b r e in (d.0, d.1)

-- by the tests of the code
pub named_by : (u : declared_unit.Unit) (f : ℕ) (g : Function) (name : List ℕ) (r : Bool) → f < length u.functions.items → g ≡ get_or u.functions.items f g → is_some g.body ≡ true → IsTrue r ↔ (g.name ≡ name) → IsTrue r ↔ IsNamed (unit_tree u) name f
named_by u f g name r lt at some same =
    ((λ h. (body_there u f g lt at ∙ some, sym (name_read u f g lt at) ∙ same.0 h)), (λ h. same.1 (name_read u f g lt at ∙ h.1)))

pub not_named : (u : declared_unit.Unit) (f : ℕ) (name : List ℕ) (r : Bool) → r ≡ false → (HasBody (unit_tree u) f → ⊥) → IsTrue r ↔ IsNamed (unit_tree u) name f
not_named u f name r isnt none = ((λ h. absurd (no_true (sym isnt ∙ h))), (λ h. absurd (none h.0)))

pub no_body : (u : declared_unit.Unit) (f : ℕ) (g : Function) → f < length u.functions.items → g ≡ get_or u.functions.items f g → is_some g.body ≡ false → HasBody (unit_tree u) f → ⊥
no_body u f g lt at isnt h = no_true (sym isnt ∙ sym (body_there u f g lt at) ∙ h)
