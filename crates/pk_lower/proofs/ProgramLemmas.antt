-- All parts of a program.
use Rattle.std.proofs.Common.{◌≡◌, ◌<◌, ◌≤◌, ◌+◌, ℕ, List, [], ◌∷◌, ◌++◌, length, get_or, take, drop, map, sym, ◌∙◌, ap, arith}
use Rattle.std.specs.Prelude.{Option, Some, slice_get}
use Rattle.std.proofs.lemmas.List.{map_push, take_more, take_all, drop_all}
use Rattle.std.proofs.lemmas.Simd.{map-map}
use Rattle.pk_typed.specs.declared.units.FileObject.{FileObject}
use Rattle.pk_typed.specs.declared.units.Unit as declared_unit
use Rattle.pk_typed.specs.Trees.{UnitTree}
use Rattle.pk_typed.specs.Views.{file_object_tree, unit_tree}
use Rattle.pk_calls.specs.declared.listings.CallPath.{CallPath}
use Rattle.pk_calls.specs.Calls.{calls_of}
use Rattle.pk_draft.specs.declared.drafts.Region.{Region}
use Rattle.pk_draft.specs.declared.drafts.Size.{Size}
use Rattle.pk_graph.specs.declared.graphs.Variable.{Variable}
use Rattle.pk_graph.specs.Graphs.{variable_view}
use Rattle.pk_draft.specs.Drafts.{DraftOf, region_of}
use Rattle.pk_lower_row.specs.Contexts.{Context}
use Rattle.pk_lower.specs.Parts.{context, part, sizes_of, file_variable, whole_size, parts_from, point_count}
use Rattle.pk_lower.proofs.SizeLemmas.{left_from}

-- ---- lists made item by item

pub mapped_more : {A B C : Type 0} (f : A → C) (g : B → C) (xs : List A) (ys : List B) (k : ℕ) (x : A) (y d : B) → k < length ys → get_or ys k d ≡ y → map f xs ≡ map g (take k ys) → f x ≡ g y → map f (xs ++ x ∷ []) ≡ map g (take (k + 1) ys)
mapped_more {A} {B} {C} f g xs ys k x y d lt at e h =
    map_push f xs x
    ∙ ap (λ (zs : List C). zs ++ f x ∷ []) e
    ∙ ap (λ (z : C). map g (take k ys) ++ z ∷ []) (h ∙ ap g (sym at))
    ∙ sym (map_push g (take k ys) (get_or ys k d))
    ∙ ap (map g) (sym (take_more ys k d lt))

pub variables_end : (u : declared_unit.Unit) (xs : List Variable) (k : ℕ) → length u.objects.items ≤ k → map variable_view xs ≡ map (λ o. file_variable (file_object_tree o)) (take k u.objects.items)
    → map variable_view xs ≡ map file_variable (unit_tree u).objects
unfolding unit_tree
variables_end u xs k le e =
    e
    ∙ ap (λ (os : List FileObject). map (λ o. file_variable (file_object_tree o)) os) (take_all k u.objects.items le)
    ∙ sym (map-map file_variable file_object_tree u.objects.items)

-- ---- all parts

pub parts_next : (u : UnitTree) (s : List (Option Size)) (ps : List CallPath) (k n m c : ℕ) (p : CallPath) (x : Context) (r : Region) (d e : DraftOf ℕ) → slice_get ps k ≡ Some p → x ≡ context u s k n p.function → r ≡ region_of k d
    → e ≡ part x p.function p.caller r d → m ≡ n + c → c ≡ length (calls_of u p.function) → parts_from u s (k + 1) m (drop (k + 1) ps) e ≡ parts_from u s k n (drop k ps) d
unfolding parts_from
parts_next u s ps k n m c p x r d e at ex er ee em ec =
    ap (λ (q : DraftOf ℕ). parts_from u s (k + 1) m (drop (k + 1) ps) q) (ee ∙ ap (λ (y : Context). part y p.function p.caller r d) ex ∙ ap (λ (y : Region). part (context u s k n p.function) p.function p.caller y d) er)
    ∙ ap (λ (i : ℕ). parts_from u s (k + 1) i (drop (k + 1) ps) (part (context u s k n p.function) p.function p.caller (region_of k d) d)) (em ∙ ap (λ (i : ℕ). n + i) ec)
    ∙ ap (λ (qs : List CallPath). parts_from u s k n qs d) (sym (left_from ps k p at))

pub parts_end : (u : UnitTree) (s : List (Option Size)) (ps : List CallPath) (k n : ℕ) (d : DraftOf ℕ) → length ps ≤ k → d ≡ parts_from u s k n (drop k ps) d
unfolding parts_from
parts_end u s ps k n d le = ap (λ (qs : List CallPath). parts_from u s k n qs d) (sym (drop_all k ps le))

pub points_fit : (u : UnitTree) (ps : List CallPath) (s : List (Option Size)) (z : Size) → s ≡ sizes_of u ps → z ≡ whole_size s ps → z.points < 65536 → point_count u ps ≤ 65536
points_fit u ps s z es ez lt =
    let is : z.points ≡ (whole_size (sizes_of u ps) ps).points = ap (λ (x : Size). x.points) (ez ∙ ap (λ (t : List (Option Size)). whole_size t ps) es) in
    omega arith
