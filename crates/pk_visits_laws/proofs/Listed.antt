-- An access of an edge is one of the graph's, where all edges of a point have the accesses of the first.
use Rattle.std.specs.Prelude.{◌≡◌, ℕ, zero, suc, ◌+◌, ◌<◌, List, [], ◌∷◌, length, Contains, slice_index_or}
use Rattle.std.proofs.Common.{sym, subst, arith}
use Rattle.std.proofs.lemmas.List.Elements.{All-contains, Contains-append_left, Contains-append_right}
use Rattle.pk_graph.specs.Accesses.{AccessOf, of_instr, of_edges, of_points, accesses_of}
use Rattle.pk_graph.specs.Graphs.{EdgeOf, PointOf, GraphOf, no_point, point_at}
use Rattle.pk_visits_laws.specs.Ways.OneWay.{SharesAccesses}

in_points : (n : ℕ) (xs : List PointOf) (i : ℕ) (a : AccessOf) → i < length xs → Contains (of_edges (n + i) (slice_index_or xs i no_point).edges) a → Contains (of_points n xs) a
in_points n [] i a l h = absurd (omega (l, arith))
in_points n (x ∷ xs) zero a l h =
    let at : n + zero ≡ n = omega arith in
    Contains-append_left (of_edges n x.edges) (of_points (n + 1) xs) a (subst (λ (k : ℕ). Contains (of_edges k x.edges) a) at h)
in_points n (x ∷ xs) (suc i) a l h =
    let at : n + suc i ≡ n + 1 + i = omega arith in
    Contains-append_right (of_edges n x.edges) (of_points (n + 1) xs) a
    (in_points (n + 1) xs i a (omega (l, arith)) (subst (λ (k : ℕ). Contains (of_edges k (slice_index_or xs i no_point).edges) a) at h))

-- a point with an edge is there
edge_there : (xs : List PointOf) (i : ℕ) (e : EdgeOf) → Contains (slice_index_or xs i no_point).edges e → i < length xs
edge_there [] i e h = absurd (let l = h.1 in omega (l, arith))
edge_there (x ∷ xs) zero e h = omega arith
edge_there (x ∷ xs) (suc i) e h = let l = edge_there xs i e h in omega (l, arith)

pub listed_access : (g : GraphOf) (p : ℕ) (e : EdgeOf) (a : AccessOf) → Contains (point_at g p).edges e → SharesAccesses p (point_at g p).edges → Contains (of_instr p e.instr) a → Contains (accesses_of g) a
listed_access g p e a has same h =
    let at : 0 + p ≡ p = omega arith in
    let first : Contains (of_edges p (point_at g p).edges) a = subst (λ (xs : List AccessOf). Contains xs a) (All-contains (λ (x : EdgeOf). of_instr p x.instr ≡ of_edges p (point_at g p).edges) (point_at g p).edges e same has) h in
    in_points 0 g.points p a (edge_there g.points p e has) (subst (λ (k : ℕ). Contains (of_edges k (point_at g p).edges) a) (sym at) first)
