-- No two accesses of a graph share call path, place and kind, and no two paths are entered by one call.
use Rattle.std.specs.Prelude.{◌≡◌, ℕ, ◌<◌, ◌≤◌, nat_eq, ◌&&◌, if◌then◌else◌, ◌+◌, List, [], ◌∷◌, All, Some, None, IfSome, length, slice_get}
use Rattle.pk_ctypes.specs.declared.places.Pos.{Pos}
use Rattle.pk_typed.specs.declared.units.CallSite.{CallSite}
use Rattle.pk_typed.specs.Trees.{BodyTree, FunctionTree, UnitTree}
use Rattle.pk_calls.specs.declared.listings.CallPath.{CallPath}
use Rattle.pk_calls.specs.Paths.{IsListing}
use Rattle.pk_graph.specs.declared.trees.Site.{Site}
use Rattle.pk_graph.specs.Graphs.{PathOf}
use Rattle.pk_graph.specs.Accesses.{AccessOf, fault_of, accesses_of}
use Rattle.pk_lower.specs.Graphs.{graph_of}
use Rattle.pk_access_laws.specs.Operators.{Counting, in_items}

-- one for this place, and nothing for any other
abbrev pub one_at : Pos → Counting
one_at p q = if nat_eq q.line p.line && nat_eq q.column p.column then 1 else 0

-- no two operators of a body share a place
abbrev pub HasOperatorsApart : BodyTree → Type 0
HasOperatorsApart b = (at : Pos) → in_items (one_at at) b.items ≤ 1

abbrev pub OperatorsAreApart : UnitTree → Type 0
OperatorsAreApart u = All (λ (f : FunctionTree). IfSome f.body HasOperatorsApart) u.functions

-- they share call path, place and kind
pub record IsSame (a b : AccessOf) : Type 0 where
  pub path : a.site.path ≡ b.site.path
  pub at : a.site.at ≡ b.site.at
  pub fault : fault_of a.operation ≡ fault_of b.operation

abbrev pub NoneTwice : List AccessOf → Type 0
NoneTwice xs =
    (i j : ℕ) (a b : AccessOf) → slice_get xs i ≡ Some a → slice_get xs j ≡ Some b → IsSame a b → i ≡ j

-- Where no two operators of a body share a place, no two accesses of the graph share call path, place and kind.
abbrev pub AccessesAreApart : Type 0
AccessesAreApart =
    (u : UnitTree) (paths : List CallPath) → OperatorsAreApart u → NoneTwice (accesses_of (graph_of u paths))

-- ---- call paths

-- what calls count at their names
abbrev pub in_calls : Counting → List CallSite → ℕ
in_calls q [] = 0
in_calls q (c ∷ cs) = q c.at + in_calls q cs

-- no two calls of a body share a place
abbrev pub HasCallsApart : BodyTree → Type 0
HasCallsApart b = (at : Pos) → in_calls (one_at at) b.calls ≤ 1

abbrev pub CallsAreApart : UnitTree → Type 0
CallsAreApart u = All (λ (f : FunctionTree). IfSome f.body HasCallsApart) u.functions

-- no two paths are entered by one call, by its caller's path and the place of the name there
abbrev pub EnteredOnce : List PathOf → Type 0
EnteredOnce ps =
    (i j : ℕ) (p q : PathOf) → slice_get ps i ≡ Some p → slice_get ps j ≡ Some q → p.call ≡ q.call → i ≡ j

-- Where no two calls of a body share a place, no two paths of the graph are entered by one call.
abbrev pub PathsAreApart : Type 0
PathsAreApart =
    (u : UnitTree) (entry : ℕ) (paths : List CallPath) → IsListing u entry paths → CallsAreApart u →
    EnteredOnce (graph_of u paths).paths

-- The places of the calls of a path, the last first; the entry has none.
pub data HasCalls (ps : List PathOf) : ℕ → List Pos → Type 0 where
  entered_by_none : {k : ℕ} {p : PathOf} → slice_get ps k ≡ Some p → p.call ≡ None → HasCalls ps k []
  entered_by : {k : ℕ} {p : PathOf} {s : Site} {calls : List Pos} → slice_get ps k ≡ Some p → p.call ≡ Some s →
      HasCalls ps s.path calls → HasCalls ps k (s.at ∷ calls)

-- Where no two paths are entered by one call, the places of its calls tell a path.
abbrev pub CallsTellPaths : Type 0
CallsTellPaths =
    (ps : List PathOf) → EnteredOnce ps → (i j : ℕ) (calls : List Pos) → HasCalls ps i calls → HasCalls ps j calls →
    i ≡ j

-- each path has such places
abbrev pub PathsHaveCalls : Type 0
PathsHaveCalls =
    (u : UnitTree) (entry : ℕ) (paths : List CallPath) → IsListing u entry paths → (i : ℕ) → i < length paths →
    (calls : List Pos) × HasCalls (graph_of u paths).paths i calls
