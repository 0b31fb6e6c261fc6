-- Objects in scope, one by one.
use Rattle.std.proofs.Common.{◌≡◌, ◌<◌, ◌+◌, ℕ, suc, ap, sym, ◌∙◌, List, [], ◌∷◌, ◌++◌, length, map, drop, get_or, Bool, append_assoc}
use Rattle.std.specs.Prelude.{◌||◌}
use Rattle.std.proofs.lemmas.List.{drop_more, map_push}
use Rattle.pk_meaning.specs.Objects.{Object, file, Scope, is_same, is_in_scope}
use Rattle.pk_meaning.specs.Programs.{file_scope}
use Rattle.pk_runner_frame.specs.declared.works.Object as code_object
use Rattle.pk_runner_frame.specs.declared.works.Object.TheVariants as objects
use Rattle.pk_runner_frame.specs.Frames.{Reading, object_in, scope_in}
use Rattle.pk_runner_state.specs.declared.tables.Row.{Row}
use Rattle.pk_runner_state.specs.Shown.{Agrees}

pub pushed : (list new : List code_object.Object) (x : code_object.Object) (rest : Scope) → new ≡ list ++ x ∷ [] → map object_in new ++ rest ≡ map object_in list ++ object_in x ∷ rest
pushed list new x rest e =
    ap (λ (xs : List code_object.Object). map object_in xs ++ rest) e
    ∙ (ap (λ (xs : Scope). xs ++ rest) (map_push object_in list x) ∙ append_assoc (map object_in list) (object_in x ∷ []) rest)

pub row_next : (s : Reading) (rows : List Row) (list new : List code_object.Object) (i : ℕ) (r : Row) (whole : Scope) → Agrees s rows → i < length rows → r ≡ get_or rows i r
    → new ≡ list ++ r.object ∷ [] → map object_in list ++ s i ≡ whole → map object_in new ++ scope_in s r.parent ≡ whole
row_next s rows list new i r whole a l e n h =
    pushed list new r.object (scope_in s r.parent) n ∙ (ap (λ (xs : Scope). map object_in list ++ xs) (sym (a i r l (sym e))) ∙ h)

pub file_next : (list new : List code_object.Object) (n m : ℕ) (whole : Scope) → n ≡ suc m → new ≡ list ++ objects.File m ∷ [] → map object_in list ++ file_scope n ≡ whole
    → map object_in new ++ file_scope m ≡ whole
file_next list new n m whole e f h =
    pushed list new (objects.File m) (file_scope m) f ∙ (sym (ap (λ (k : ℕ). map object_in list ++ file_scope k) e) ∙ h)

pub among_next : (x : Object) (list : List code_object.Object) (i : ℕ) (d : code_object.Object) (b : Bool) → i < length list → is_same x (object_in (get_or list i d)) ≡ b
    → is_in_scope x (map object_in (drop i list)) ≡ (b || is_in_scope x (map object_in (drop (i + 1) list)))
among_next x list i d b l h =
    ap (λ (ys : List code_object.Object). is_in_scope x (map object_in ys)) (drop_more list i d l)
    ∙ ap (λ (c : Bool). c || is_in_scope x (map object_in (drop (i + 1) list))) h
