-- The numbers of a variable among those of all variables.
use Rattle.std.proofs.Common.{◌≡◌, ◌<◌, ℕ, ap, ◌∙◌, sym, subst, [], List, length, map, slice_index_or, Vec, Global}
use Rattle.std.specs.Prelude.{ℤ}
use Rattle.std.proofs.lemmas.List.{length-map, get_or-map}
use Rattle.pk_graph.specs.declared.graphs.Variable.{Variable}
use Rattle.pk_graph.specs.Graphs.{VariableOf, GraphOf, kinds_of, variable_view}
use Rattle.pk_graph.specs.Kinds.{Kind, no_kind, kind_at, type_at, count_of, count_at}
use Rattle.pk_graph.specs.Stores.{numbers_of}
use Rattle.pk_runner_cases.specs.Places.{AreNumbers}

pub row_at : (g : GraphOf) (xs : List Variable) (x : Variable) (rows : List (Vec ℤ Global)) (row : Vec ℤ Global) (k : ℕ) → map variable_view xs ≡ g.variables → k < length xs → x ≡ slice_index_or xs k x
    → k < length rows → row ≡ slice_index_or rows k row → AreNumbers (variable_view x).kind.int_type (count_of (variable_view x).kind.length) row.items
    → AreNumbers (type_at (kinds_of g) k) (count_at (kinds_of g) k) (numbers_of (map (λ (r : Vec ℤ Global). r.items) rows) k)
row_at g xs x rows row k e h is i was a =
    subst (λ (d : Kind). AreNumbers d.int_type (count_of d.length) (numbers_of (map (λ (r : Vec ℤ Global). r.items) rows) k)) (sym kind)
    (subst (AreNumbers (variable_view x).kind.int_type (count_of (variable_view x).kind.length)) (sym numbers) a)
  where
    kind : kind_at (kinds_of g) k ≡ (variable_view x).kind
    kind =
        ap (λ (vs : List VariableOf). slice_index_or (map (λ (v : VariableOf). v.kind) vs) k no_kind) (sym e)
        ∙ get_or-map (λ (v : VariableOf). v.kind) (map variable_view xs) k (variable_view x) no_kind (subst (λ (n : ℕ). k < n) (sym (length-map xs variable_view)) h)
        ∙ ap (λ (v : VariableOf). v.kind) (get_or-map variable_view xs k x (variable_view x) h)
        ∙ ap (λ (v : Variable). (variable_view v).kind) (sym is)

    numbers : numbers_of (map (λ (r : Vec ℤ Global). r.items) rows) k ≡ row.items
    numbers = get_or-map (λ (r : Vec ℤ Global). r.items) rows k row [] i ∙ ap (λ (r : Vec ℤ Global). r.items) (sym was)
