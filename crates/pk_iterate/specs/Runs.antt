-- The runs of an element by their numbers: what its k-th run reads, and what it gives.
use Rattle.std.specs.Prelude.{ℕ, ◌+◌, ◌==◌, ◌&&◌, List, [], ◌∷◌, map, if◌then◌else◌}
use Rattle.pk_iterate.specs.Behaviour.{Behaviour}
use Rattle.pk_iterate.specs.Iteration.{count_of}

-- the runs before e's k-th, where the newest stand first
abbrev pub runs_before : {C : Type 0} → List (ℕ × C) → ℕ → ℕ → List (ℕ × C)
runs_before [] e k = []
runs_before (r ∷ runs) e k = if (r.0 == e) && (count_of runs e + 1 == k) then runs else runs_before runs e k

-- the cell of e's k-th run, and for 0 its first
abbrev pub run_value : {C : Type 0} → Behaviour C → List (ℕ × C) → ℕ → ℕ → C
run_value b [] e k = b.first e
run_value b (r ∷ runs) e k = if (r.0 == e) && (count_of runs e + 1 == k) then r.1 else run_value b runs e k

-- the cells that e's k-th run reads: of each element that e reads, its run value by that time
abbrev pub values_read : {C : Type 0} → Behaviour C → List (ℕ × C) → ℕ → ℕ → List C
values_read b runs e k = map (λ u. run_value b runs u (count_of (runs_before runs e k) u)) (b.reads e)
