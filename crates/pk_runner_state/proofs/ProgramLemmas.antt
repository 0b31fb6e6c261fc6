-- What is looked up in a program.
use Rattle.std.proofs.Common.{◌≡◌, ◌<◌, ◌≤◌, ◌+◌, ℕ, zero, suc, ◌∷◌, refl, ap, ◌∙◌, sym, subst, arith, List, [], ◌++◌, length, map, take, drop, get_or, slice_index_or, Bool, true, false}
use Rattle.std.specs.Prelude.{Option, Some, None, option_map, slice_get, unwrap_or, if◌then◌else◌}
use Rattle.std.specs.Option.{option_and_then}
use Rattle.std.proofs.lemmas.Option.{slice_get-map, slice_get_read, slice_get_past}
use Rattle.std.proofs.lemmas.List.{get_or-map, get_or_past, length-map, drop_all, map_push, map_more, take_all}
use Rattle.pk_typed.specs.declared.units.FileObject.{FileObject}
use Rattle.pk_typed.specs.declared.units.Function.{Function}
use Rattle.pk_typed.specs.declared.units.Local.{Local}
use Rattle.pk_typed.specs.declared.units.Body.{Body}
use Rattle.pk_typed.specs.declared.units.Unit as declared_unit
use Rattle.pk_typed.specs.Trees.{FileObjectTree, FunctionTree, BodyTree}
use Rattle.pk_calls.specs.Calls.{body_of}
use Rattle.pk_typed.specs.Views.{local_tree, body_tree, function_tree, file_object_tree, unit_tree}
use Rattle.pk_calls.specs.declared.listings.CallPath.{CallPath}
use Rattle.pk_meaning.specs.Programs.{number_by, is_by}
use Rattle.pk_typed.specs.Defaults.{no_body, no_function, no_local, length_of_start}
use Rattle.pk_calls.proofs.CallLemmas.{function_read as function_at}

pub function_read : (u : declared_unit.Unit) (n : ℕ) (f : Function) → n < length u.functions.items → f ≡ get_or u.functions.items n f → function_tree f ≡ slice_index_or (unit_tree u).functions n no_function
unfolding unit_tree
function_read u n f h e = ap function_tree e ∙ sym (get_or-map function_tree u.functions.items n f no_function h)

pub function_past : (u : declared_unit.Unit) (n : ℕ) → length u.functions.items ≤ n → no_function ≡ slice_index_or (unit_tree u).functions n no_function
unfolding unit_tree
function_past u n h = sym (get_or_past (unit_tree u).functions n no_function (subst (λ (m : ℕ). m ≤ n) (sym (length-map u.functions.items function_tree)) h))

pub object_read : (u : declared_unit.Unit) (n : ℕ) (x : FileObject) → n < length u.objects.items → x ≡ get_or u.objects.items n x → length_of_start (file_object_tree x).start
    ≡ option_and_then (λ (y : FileObjectTree). length_of_start y.start) (slice_get (unit_tree u).objects n)
unfolding unit_tree
object_read u n x h e =
    sym (ap (option_and_then (λ (y : FileObjectTree). length_of_start y.start)) (slice_get-map file_object_tree u.objects.items n
    ∙ ap (option_map file_object_tree) (slice_get_read u.objects.items (length u.objects.items) n x refl h e)))

pub object_past : (u : declared_unit.Unit) (n : ℕ) → length u.objects.items ≤ n → None ≡ option_and_then (λ (y : FileObjectTree). length_of_start y.start) (slice_get (unit_tree u).objects n)
unfolding unit_tree
object_past u n h =
    sym (ap (option_and_then (λ (y : FileObjectTree). length_of_start y.start)) (slice_get-map file_object_tree u.objects.items n ∙ ap (option_map file_object_tree) (slice_get_past u.objects.items n h)))

pub name_read : (u : declared_unit.Unit) (n : ℕ) (x : FileObject) → n < length u.objects.items → x ≡ get_or u.objects.items n x → (file_object_tree x).name
    ≡ unwrap_or (option_map (λ (y : FileObjectTree). y.name) (slice_get (unit_tree u).objects n)) []
unfolding unit_tree
name_read u n x h e =
    sym (ap (λ (o : Option FileObjectTree). unwrap_or (option_map (λ (y : FileObjectTree). y.name) o) []) (slice_get-map file_object_tree u.objects.items n
    ∙ ap (option_map file_object_tree) (slice_get_read u.objects.items (length u.objects.items) n x refl h e)))

pub name_past : (u : declared_unit.Unit) (n : ℕ) → length u.objects.items ≤ n → [] ≡ unwrap_or (option_map (λ (y : FileObjectTree). y.name) (slice_get (unit_tree u).objects n)) []
unfolding unit_tree
name_past u n h =
    sym (ap (λ (o : Option FileObjectTree). unwrap_or (option_map (λ (y : FileObjectTree). y.name) o) []) (slice_get-map file_object_tree u.objects.items n
    ∙ ap (option_map file_object_tree) (slice_get_past u.objects.items n h)))

pub local_read : (o : Option BodyTree) (b : Body) (n : ℕ) (x : Local) → Some (body_tree b) ≡ o → n < length b.locals.items → x ≡ get_or b.locals.items n x → local_tree x
    ≡ slice_index_or (unwrap_or o no_body).locals n no_local
unfolding body_tree
local_read o b n x e h f =
    ap local_tree f ∙ (sym (get_or-map local_tree b.locals.items n x no_local h) ∙ ap (λ (p : Option BodyTree). slice_index_or (unwrap_or p no_body).locals n no_local) e)

pub local_past : (o : Option BodyTree) (b : Body) (n : ℕ) → Some (body_tree b) ≡ o → length b.locals.items ≤ n → no_local ≡ slice_index_or (unwrap_or o no_body).locals n no_local
unfolding body_tree
local_past o b n e h =
    sym (get_or_past (body_tree b).locals n no_local (subst (λ (m : ℕ). m ≤ n) (sym (length-map b.locals.items local_tree)) h)) ∙ ap (λ (p : Option BodyTree). slice_index_or (unwrap_or p no_body).locals n no_local) e

-- the first path by a call, number by number
at_read : (ps : List CallPath) (i : ℕ) (q : CallPath) → slice_get ps i ≡ Some q → drop i ps ≡ q ∷ drop (i + 1) ps
at_read [] i q e = absurd (cc e)
at_read (p ∷ ps) zero q e = let same : p ≡ q = cc e in ap (λ (x : CallPath). x ∷ ps) same
at_read (p ∷ ps) (suc i) q e = let same : suc (i + 1) ≡ suc i + 1 = omega arith in at_read ps i q e ∙ ap (λ (n : ℕ). q ∷ drop n (p ∷ ps)) same

pub by_found : (k n i : ℕ) (ps : List CallPath) (q : CallPath) → slice_get ps i ≡ Some q → is_by k n q.caller ≡ true → number_by k n (drop i ps) ≡ 0
by_found k n i ps q e f =
    ap (number_by k n) (at_read ps i q e) ∙ ap (λ (b : Bool). if b then 0 else suc (number_by k n (drop (i + 1) ps))) f

pub by_next : (k n i : ℕ) (ps : List CallPath) (q : CallPath) → slice_get ps i ≡ Some q → is_by k n q.caller ≡ false → number_by k n (drop i ps) ≡ suc (number_by k n (drop (i + 1) ps))
by_next k n i ps q e f =
    ap (number_by k n) (at_read ps i q e) ∙ ap (λ (b : Bool). if b then 0 else suc (number_by k n (drop (i + 1) ps))) f

pub by_end : (k n i : ℕ) (ps : List CallPath) → length ps ≤ i → number_by k n (drop i ps) ≡ 0
by_end k n i ps h = ap (number_by k n) (drop_all i ps h)

-- ---- what a function's block is

pub block_is : (u : declared_unit.Unit) (f : ℕ) (g : Function) → f < length u.functions.items → g ≡ get_or u.functions.items f g → unwrap_or (option_map body_tree g.body) no_body
    ≡ unwrap_or (body_of (unit_tree u) f) no_body
unfolding body_of function_tree
block_is u f g lt at = sym (ap (λ (o : Option FunctionTree). unwrap_or (option_and_then (λ (h : FunctionTree). h.body) o) no_body) (function_at u f g lt at))

pub path_at : (ps : List CallPath) (i : ℕ) (q : CallPath) → slice_get ps i ≡ Some q → q ≡ get_or ps i q
path_at [] i q e = refl
path_at (p ∷ ps) zero q e = let same : p ≡ q = cc e in sym same
path_at (p ∷ ps) (suc i) q e = path_at ps i q e

-- ---- lists that are made one by one

pub made_next : {A B C : Type 0} (f : A → C) (g : B → C) (rows new : List A) (xs : List B) (k : ℕ) (r : A) (x : B) → k < length xs → new ≡ rows ++ r ∷ [] → x ≡ get_or xs k x → f r ≡ g x →
    map f rows ≡ map g (take k xs) → map f new ≡ map g (take (k + 1) xs)
made_next f g rows new xs k r x h e i j inv =
    ap (map f) e
    ∙ (map_push f rows r
    ∙ (ap (λ (c : _). map f rows ++ c ∷ []) (j ∙ ap g i)
    ∙ (ap (λ (cs : List _). cs ++ g (get_or xs k x) ∷ []) inv
    ∙ sym (map_more g xs k x h))))

pub made_end : {A B C : Type 0} (f : A → C) (g : B → C) (rows : List A) (xs : List B) (k : ℕ) → length xs ≤ k → map f rows ≡ map g (take k xs) → map f rows ≡ map g xs
made_end f g rows xs k h inv = inv ∙ ap (map g) (take_all k xs h)

pub map_twice : {A B C : Type 0} (f : B → C) (g : A → B) (xs : List A) → map (λ (x : A). f (g x)) xs ≡ map f (map g xs)
map_twice f g [] = refl
map_twice f g (x ∷ xs) = ap (λ (ys : List _). f (g x) ∷ ys) (map_twice f g xs)
