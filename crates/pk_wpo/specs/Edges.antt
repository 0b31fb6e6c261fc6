-- The constraints that edges are added for.
use Rattle.std.specs.Prelude.{◌≡◌, ℕ, ◌<◌, ◌⊎◌, List, Option, Some, None}
use Rattle.pk_plan.specs.Digraphs.{Edge}
use Rattle.pk_plan.specs.Reverses.{IsOneMore}
use Rattle.pk_plan.specs.Nests.{Holds}
use Rattle.pk_wpo.specs.Constraints.{Has, EdgeConstraint, HeadConstraint, exit_of}
use Rattle.pk_wpo.specs.Layouts.{Laid, IsHome, end_number}

-- the edges are the constraints that edges of the digraph give
pub record AreEdgeConstraints (l : Laid) (constraints : List (List ℕ)) : Type 0 where
  pub drawn : (a b : ℕ) → EdgeConstraint l.graph (Holds l.items) (exit_of l.graph l.items) a b → Edge constraints a b
  pub only : (a b : ℕ) → Edge constraints a b → EdgeConstraint l.graph (Holds l.items) (exit_of l.graph l.items) a b

-- an edge leads into b from inside its home
pub record IsLed (l : Laid) (constraints : List (List ℕ)) (b : ℕ) : Type 0 where
  pub home : ℕ
  pub is_home : IsHome (Holds l.items) (exit_of l.graph l.items) b (Some home)
  pub from : ℕ
  pub inside : Has (Holds l.items) (exit_of l.graph l.items) home from
  pub edge : Edge constraints from b

-- The constraints of heads more; and then an edge leads into each element from inside its home.
pub record HasHeadConstraintsMore (l : Laid) (old new : List (List ℕ)) : Type 0 where
  pub kept : (a b : ℕ) → Edge old a b → Edge new a b
  pub drawn : (h b : ℕ) → HeadConstraint l.graph (Holds l.items) (exit_of l.graph l.items) h b → Edge new h b
  pub only : (a b : ℕ) → Edge new a b →
      Edge old a b ⊎ HeadConstraint l.graph (Holds l.items) (exit_of l.graph l.items) a b
  pub led : (b h : ℕ) → b < end_number l → IsHome (Holds l.items) (exit_of l.graph l.items) b (Some h) →
      (a : ℕ) × Has (Holds l.items) (exit_of l.graph l.items) h a × Edge new a b

-- An edge to END more for each number below it that has none; and then each has one.
pub record HasEndConstraintsMore (end : ℕ) (old new : List (List ℕ)) : Type 0 where
  pub kept : (a b : ℕ) → Edge old a b → Edge new a b
  pub drawn : (a : ℕ) → a < end → ((b : ℕ) → Edge old a b → ⊥) → Edge new a end
  pub only : (a b : ℕ) → Edge new a b → Edge old a b ⊎ ((a < end) × ((c : ℕ) → Edge old a c → ⊥) × (b ≡ end))
  pub leads : (a : ℕ) → a < end → (b : ℕ) × Edge new a b

-- an edge from here, where there is such a vertex
abbrev pub IsMoreFrom : List (List ℕ) → Option ℕ → ℕ → List (List ℕ) → Type 0
IsMoreFrom old None to new = old ≡ new
IsMoreFrom old (Some from) to new = IsOneMore old from to new

-- the home of b has a
pub record IsFromHome (l : Laid) (a b : ℕ) : Type 0 where
  pub home : ℕ
  pub is_home : IsHome (Holds l.items) (exit_of l.graph l.items) b (Some home)
  pub inside : Has (Holds l.items) (exit_of l.graph l.items) home a

-- an edge to END, where there was none from here
pub record IsEndMore (old : List (List ℕ)) (from end : ℕ) (new : List (List ℕ)) : Type 0 where
  pub kept : (a b : ℕ) → Edge old a b → Edge new a b
  pub only : (a b : ℕ) → Edge new a b → Edge old a b ⊎ ((a ≡ from) × (b ≡ end) × ((c : ℕ) → Edge old from c → ⊥))
  pub drawn : ((c : ℕ) → Edge old from c → ⊥) → Edge new from end
  pub leads : (b : ℕ) × Edge new from b
