-- Digraphs by lists of successors, and which vertices lead to which.
use Rattle.std.specs.Prelude.{ℕ, ◌<◌, List, [], length, map}
use Rattle.std.specs.List.{Contains, slice_index_or}
use Rattle.std.specs.declared.vec.Vec.{Vec}
use Rattle.std.specs.declared.alloc.Global.{Global}

-- the lists that the vectors hold
abbrev pub lists_of : List (Vec ℕ Global) → List (List ℕ)
lists_of vectors = map (λ (v : Vec ℕ Global). v.items) vectors

-- the vertices are numbered from 0
abbrev pub IsVertex : List (List ℕ) → ℕ → Type 0
IsVertex g v = v < length g

-- an edge leads from u to v: v stands in the list of u
abbrev pub Edge : List (List ℕ) → ℕ → ℕ → Type 0
Edge g u v = Contains (slice_index_or g u []) v

-- each edge leads to a vertex
abbrev pub IsClosed : List (List ℕ) → Type 0
IsClosed g = (u v : ℕ) → Edge g u v → IsVertex g v

-- a path, of no edge or of several, leads from u to v, and all its vertices lie in S
pub data Reach (g : List (List ℕ)) (S : ℕ → Type 0) (u : ℕ) : ℕ → Type 0 where
  Here : S u → Reach g S u u
  Then : {w v : ℕ} → Reach g S u w → Edge g w v → S v → Reach g S u v

-- each of the two leads to the other inside S
abbrev pub Mutual : List (List ℕ) → (ℕ → Type 0) → ℕ → ℕ → Type 0
Mutual g S u v = Reach g S u v × Reach g S v u

-- a path of one or more edges leads from v to itself inside S
abbrev pub Cycle : List (List ℕ) → (ℕ → Type 0) → ℕ → Type 0
Cycle g S v = (w : ℕ) × Edge g v w × Reach g S w v
