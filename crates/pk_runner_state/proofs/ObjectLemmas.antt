-- What objects hold after a write.
use Rattle.std.proofs.Common.{◌≡◌, ◌<◌, ◌≤◌, ℕ, zero, suc, refl, ap, ◌∙◌, sym, subst, arith, List, [], ◌∷◌, length, map, get_or, slice_index_or, slice_set}
use Rattle.std.specs.Prelude.{ℤ}
use Rattle.std.specs.declared.vec.Vec.{Vec}
use Rattle.std.specs.declared.alloc.Global.{Global}
use Rattle.std.specs.Vec.{with_item}
use Rattle.std.proofs.lemmas.List.{map-set, get_or-map, get_or_past, length-map}
use Rattle.pk_graph.specs.Steps.{Numbers}
use Rattle.pk_meaning.specs.Objects.{file, local, result, with_numbers}
use Rattle.pk_runner_state.specs.declared.objects.Objects.{Objects}
use Rattle.pk_runner_state.specs.Shown.{objects_in}

abbrev pub rows_of : List (Vec ℤ Global) → List Numbers
rows_of = map (λ (v : Vec ℤ Global). v.items)

abbrev pub locals_in : List (Vec (Vec ℤ Global) Global) → List (List Numbers)
locals_in = map (λ (vs : Vec (Vec ℤ Global) Global). rows_of vs.items)

set_past : {A : Type 0} (xs : List A) (i : ℕ) (y : A) → length xs ≤ i → slice_set xs i y ≡ xs
set_past [] i y h = refl
set_past (x ∷ xs) zero y h = absurd (omega (arith, h))
set_past (x ∷ xs) (suc i) y h = ap (λ (ys : List _). x ∷ ys) (set_past xs i y (omega (arith, h)))

row_set : (rs : List (Vec ℤ Global)) (i : ℕ) (v : Vec ℤ Global) (zs : Numbers) → v.items ≡ zs → rows_of (slice_set rs i v) ≡ slice_set (rows_of rs) i zs
row_set rs i v zs e = map-set (λ (w : Vec ℤ Global). w.items) rs i v ∙ ap (slice_set (rows_of rs) i) e

row_past : (rs : List (Vec ℤ Global)) (i : ℕ) (zs : Numbers) → length rs ≤ i → rows_of rs ≡ slice_set (rows_of rs) i zs
row_past rs i zs h = sym (set_past (rows_of rs) i zs (subst (λ (n : ℕ). n ≤ i) (sym (length-map rs (λ (w : Vec ℤ Global). w.items))) h))

pub row_read : (rs : List (Vec ℤ Global)) (i : ℕ) (v : Vec ℤ Global) → i < length rs → v ≡ get_or rs i v → v.items ≡ slice_index_or (rows_of rs) i []
row_read rs i v h e = ap (λ (w : Vec ℤ Global). w.items) e ∙ sym (get_or-map (λ (w : Vec ℤ Global). w.items) rs i v [] h)

pub locals_read : (ls : List (Vec (Vec ℤ Global) Global)) (k : ℕ) (r : Vec (Vec ℤ Global) Global) → k < length ls → r ≡ get_or ls k r → rows_of r.items ≡ slice_index_or (locals_in ls) k []
locals_read ls k r h e = ap (λ (w : Vec (Vec ℤ Global) Global). rows_of w.items) e ∙ sym (get_or-map (λ (w : Vec (Vec ℤ Global) Global). rows_of w.items) ls k r [] h)

pub locals_past : (ls : List (Vec (Vec ℤ Global) Global)) (k : ℕ) → length ls ≤ k → [] ≡ slice_index_or (locals_in ls) k []
locals_past ls k h = sym (get_or_past (locals_in ls) k [] (subst (λ (n : ℕ). n ≤ k) (sym (length-map ls (λ (w : Vec (Vec ℤ Global) Global). rows_of w.items))) h))

locals_set : (ls : List (Vec (Vec ℤ Global) Global)) (k : ℕ) (r : Vec (Vec ℤ Global) Global) (zss : List Numbers) → rows_of r.items ≡ zss → locals_in (slice_set ls k r) ≡ slice_set (locals_in ls) k zss
locals_set ls k r zss e = map-set (λ (w : Vec (Vec ℤ Global) Global). rows_of w.items) ls k r ∙ ap (slice_set (locals_in ls) k) e

pub file_set : (x : Objects) (n : ℕ) (v : Vec ℤ Global) (zs : Numbers) → v.items ≡ zs → objects_in (record x { files = with_item x.files n v }) ≡ with_numbers (file n) zs (objects_in x)
unfolding objects_in
file_set x n v zs e = ap (λ (rs : List Numbers). record (objects_in x) { files = rs }) (row_set x.files.items n v zs e)

pub file_past : (x : Objects) (n : ℕ) (zs : Numbers) → length x.files.items ≤ n → objects_in x ≡ with_numbers (file n) zs (objects_in x)
unfolding objects_in
file_past x n zs h = ap (λ (rs : List Numbers). record (objects_in x) { files = rs }) (row_past x.files.items n zs h)

pub result_set : (x : Objects) (n : ℕ) (v : Vec ℤ Global) (zs : Numbers) → v.items ≡ zs → objects_in (record x { results = with_item x.results n v }) ≡ with_numbers (result n) zs (objects_in x)
unfolding objects_in
result_set x n v zs e = ap (λ (rs : List Numbers). record (objects_in x) { results = rs }) (row_set x.results.items n v zs e)

pub result_past : (x : Objects) (n : ℕ) (zs : Numbers) → length x.results.items ≤ n → objects_in x ≡ with_numbers (result n) zs (objects_in x)
unfolding objects_in
result_past x n zs h = ap (λ (rs : List Numbers). record (objects_in x) { results = rs }) (row_past x.results.items n zs h)

pub local_set : (x : Objects) (k i : ℕ) (r : Vec (Vec ℤ Global) Global) (v : Vec ℤ Global) (zs : Numbers) → k < length x.locals.items → r ≡ get_or x.locals.items k r → v.items ≡ zs
    → objects_in (record x { locals = with_item x.locals k (with_item r i v) }) ≡ with_numbers (local k i) zs (objects_in x)
unfolding objects_in
local_set x k i r v zs h e f =
    ap (λ (ls : List (List Numbers)). record (objects_in x) { locals = ls })
    (locals_set x.locals.items k (with_item r i v) (slice_set (slice_index_or (locals_in x.locals.items) k []) i zs)
    (row_set r.items i v zs f ∙ ap (λ (rs : List Numbers). slice_set rs i zs) (locals_read x.locals.items k r h e)))

pub local_row_past : (x : Objects) (k i : ℕ) (r : Vec (Vec ℤ Global) Global) (zs : Numbers) → k < length x.locals.items → r ≡ get_or x.locals.items k r → length r.items ≤ i
    → objects_in (record x { locals = with_item x.locals k r }) ≡ with_numbers (local k i) zs (objects_in x)
unfolding objects_in
local_row_past x k i r zs h e f =
    ap (λ (ls : List (List Numbers)). record (objects_in x) { locals = ls })
    (locals_set x.locals.items k r (slice_set (slice_index_or (locals_in x.locals.items) k []) i zs)
    (row_past r.items i zs f ∙ ap (λ (rs : List Numbers). slice_set rs i zs) (locals_read x.locals.items k r h e)))

pub local_past : (x : Objects) (k i : ℕ) (zs : Numbers) → length x.locals.items ≤ k → objects_in x ≡ with_numbers (local k i) zs (objects_in x)
unfolding objects_in
local_past x k i zs h =
    ap (λ (ls : List (List Numbers)). record (objects_in x) { locals = ls })
    (sym (set_past (locals_in x.locals.items) k (slice_set (slice_index_or (locals_in x.locals.items) k []) i zs) (subst (λ (n : ℕ). n ≤ k) (sym (length-map x.locals.items (λ (w : Vec
    (Vec ℤ Global) Global). rows_of w.items))) h)))
