-- Where the edges that the lowering makes begin, and where they lead.
use Rattle.std.specs.Prelude.{◌≡◌, ◌≢◌, ◌⊎◌, ℕ, ◌+◌, ◌<◌, ◌≤◌, List, [], ◌∷◌, Contains, Option, slice_index_or}
use Rattle.pk_ctypes.specs.declared.places.Pos.{Pos}
use Rattle.pk_typed.specs.Trees.{ValueTree, EffectTree, ForStartTree, StatementTree}
use Rattle.pk_typed.specs.Trees as tree
use Rattle.pk_draft.specs.declared.drafts.Region.{Region}
use Rattle.pk_draft.specs.declared.drafts.Size.{Size}
use Rattle.pk_draft.specs.Drafts.{EdgeFrom, DraftOf, nowhere, no_region, fresh, on}
use Rattle.pk_welltyped.specs.Listed.{Numbered, calls_in, calls_in_effect, calls_in_statement}
use Rattle.pk_welltyped.specs.WellTyped.{Around, Marks, IsStatement}
use Rattle.pk_welltyped.specs.Marks.{times}
use Rattle.pk_meaning.specs.Steps.{Mark, labelled}
use Rattle.pk_lower_row.specs.Contexts.{Context, callee, size_in}
use Rattle.pk_lower_expression.specs.Expressions.{ways, performed}
use Rattle.pk_lower_statement.specs.declared.statements.Exits.{Exits}
use Rattle.pk_lower_statement.specs.Statements.{for_start, lowered}
use Rattle.pk_edge_laws.specs.Jumps.{gotos, HasNoCase}

-- from n on, and before m
abbrev pub IsNew : (n m x : ℕ) → Type 0
IsNew n m x = (n ≤ x) × (x < m)

-- ---- regions, which calls leave to the parts of paths

abbrev pub region_at : List Region → (path : ℕ) → Region
region_at rs j = slice_index_or rs j no_region

-- the path's region stays
abbrev pub IsSame : (rs ts : List Region) → (path : ℕ) → Type 0
IsSame rs ts j = region_at ts j ≡ region_at rs j

-- behind the exit of a region of so many points
abbrev pub IsBehindExit : (size : ℕ) → Region → ℕ → Type 0
IsBehindExit n r x = (r.points < x) × (x < r.points + n)

-- it isn't left to any path, where the part of each makes as many points as z says
abbrev pub IsLeftOut : (z : ℕ → ℕ) → (rs ts : List Region) → ℕ → Type 0
IsLeftOut z rs ts x = (j : ℕ) → IsSame rs ts j ⊎ (IsBehindExit (z j) (region_at ts j) x → ⊥)

-- It begins at the current point p, at a point of M, or at a new one; its points are new.
pub record IsTaken (M : ℕ → Type 0) (p n m size : ℕ) (r : Region) : Type 0 where
  pub begins : (r.at ≡ p) ⊎ (M r.at ⊎ IsNew n m r.at)
  pub from : n ≤ r.points
  pub to : r.points + size ≤ m

-- ---- edges

-- It begins at the current point p, at a point of M, or at a new one; it leads to a point of N, to a new one that is left to no path, or isn't made.
pub record IsMade {V : Type 0} (z : ℕ → ℕ) (M N : ℕ → Type 0) (p n : ℕ) (rs : List Region) (m : ℕ) (ts : List Region)
    (e : EdgeFrom V) : Type 0 where
  pub begins : (e.from ≡ p) ⊎ (M e.from ⊎ IsNew n m e.from)
  pub leads : (e.to ≡ nowhere) ⊎ (N e.to ⊎ (IsNew n m e.to × IsLeftOut z rs ts e.to))

-- Points are added, edges that are made so, and regions that are taken of the points.
pub record SplitsBy {V : Type 0} (z : ℕ → ℕ) (M N : ℕ → Type 0) (p n : ℕ) (es : List (EdgeFrom V)) (rs : List Region)
    (m : ℕ) (fs : List (EdgeFrom V)) (ts : List Region) : Type 0 where
  pub points : n ≤ m
  pub edges : (e : EdgeFrom V) → Contains fs e → Contains es e ⊎ IsMade z M N p n rs m ts e
  pub regions : (j : ℕ) → IsSame rs ts j ⊎ IsTaken M p n m (z j) (region_at ts j)

-- and it goes on at q, which is the current point, a point of M or a new one
pub record GoesBy {V : Type 0} (z : ℕ → ℕ) (M N : ℕ → Type 0) (p n : ℕ) (es : List (EdgeFrom V)) (rs : List Region)
    (q m : ℕ) (fs : List (EdgeFrom V)) (ts : List Region) : Type 0 where
  pub point : (q ≡ p) ⊎ (M q ⊎ IsNew n m q)
  pub splits : SplitsBy z M N p n es rs m fs ts

abbrev pub NoPoint : ℕ → Type 0
NoPoint x = ⊥

abbrev pub IsOneOf : (p q x : ℕ) → Type 0
IsOneOf p q x = (x ≡ p) ⊎ (x ≡ q)

abbrev pub Splits : {V : Type 0} → (z : ℕ → ℕ) → (N : ℕ → Type 0) → DraftOf V → DraftOf V → Type 0
Splits z N d e = SplitsBy z NoPoint N d.point d.points d.edges d.regions e.points e.edges e.regions

abbrev pub GoesOn : {V : Type 0} → (z : ℕ → ℕ) → (M N : ℕ → Type 0) → DraftOf V → DraftOf V → Type 0
GoesOn z M N d e = GoesBy z M N d.point d.points d.edges d.regions e.point e.points e.edges e.regions

abbrev pub Goes : {V : Type 0} → (z : ℕ → ℕ) → DraftOf V → DraftOf V → Type 0
Goes z d e = GoesOn z NoPoint NoPoint d e

-- the part of a path that a call leads to has so many points, of which one is its exit
abbrev pub HasPoints : ℕ → Size → Type 0
HasPoints n s = (s.points ≡ n) × (0 < s.points)

abbrev pub AreSized : (z : ℕ → ℕ) → Context → List Numbered → Type 0
AreSized z c [] = Unit {0}
AreSized z c (x ∷ xs) = HasPoints (z (callee c x.number)) (size_in c.sizes x.call.function) × AreSized z c xs

-- The edges of a value and of an effect stay among new points and the current one; those of a choice lead to its two ends too.
pub record ExpressionsStay (V : Type 0) : Type 0 where
  pub value : (z : ℕ → ℕ) (c : Context) (e : ValueTree) (d : DraftOf V) → AreSized z c (calls_in e) →
      Goes z d ((ways c e).value d).1
  pub choice : (z : ℕ → ℕ) (c : Context) (e : ValueTree) (p q : ℕ) (d : DraftOf V) → AreSized z c (calls_in e) →
      Splits z (IsOneOf p q) d ((ways c e).choice p q d)
  pub unused : (z : ℕ → ℕ) (c : Context) (e : ValueTree) (d : DraftOf V) → AreSized z c (calls_in e) →
      Goes z d ((ways c e).unused d)
  pub effect : (z : ℕ → ℕ) (c : Context) (e : EffectTree) (d : DraftOf V) → AreSized z c (calls_in_effect e) →
      Goes z d (performed c e d)

-- a point to which a jump out of a statement may lead: of its `break`, `continue` and `return`, or of a label to which a goto stands in it
abbrev pub IsExit : StatementTree → Exits → ℕ → Type 0
IsExit s x q =
    (q ≡ x.broken) ⊎ ((q ≡ x.continued) ⊎ ((q ≡ x.left) ⊎ ((l : ℕ) × (gotos l s ≢ 0) × (q ≡ x.labels + l))))

-- The edges of a statement in which no label, case or default stands begin at the current point or at new ones, and lead to new ones or to its exits.
abbrev pub StatementsStay : (V : Type 0) → Type 0
StatementsStay V =
    (z : ℕ → ℕ) (c : Context) (a : Around) (m : Marks) (s : StatementTree) (x : Exits) (d : DraftOf V) →
    IsStatement a m s → AreSized z c (calls_in_statement s) → ((b : Mark) → times b s ≡ 0)
    → GoesOn z NoPoint (IsExit s x) d (lowered c s x d)

-- ---- loops

-- the point of a label that stands in a statement, where the function's labels are so many, from the first on
abbrev pub IsLabelIn : (first labels : ℕ) → StatementTree → ℕ → Type 0
IsLabelIn first labels s q = (l : ℕ) × (l < labels) × (times (labelled l) s ≢ 0) × (q ≡ first + l)

-- a point of a loop: one of those of its labels, K, which are made with the function's, or from h on and before l
abbrev pub IsInLoop : (K : ℕ → Type 0) → (h l x : ℕ) → Type 0
IsInLoop K h l x = K x ⊎ IsNew h l x

-- The region's points are before h, from n on, or from h to l, where its part begins at a point of the loop.
abbrev pub IsPartOf : (K : ℕ → Type 0) → (n h l size : ℕ) → Region → Type 0
IsPartOf K n h l size r =
    ((n ≤ r.points) × (r.points + size ≤ h))
    ⊎ (IsInLoop K h l r.at × (h ≤ r.points) × (r.points + size ≤ l))

-- By what is added to d the points of a loop are entered at h alone, from q: an edge begins at one of them, leads from q to h, or leads to a new point before them.
pub record IsEnteredAt {V : Type 0} (z : ℕ → ℕ) (K : ℕ → Type 0) (d e : DraftOf V) (q h : ℕ) : Type 0 where
  pub behind : d.points ≤ h
  pub before : h < e.points
  pub edges : (f : EdgeFrom V) → Contains e.edges f → Contains d.edges f
      ⊎ ((f.to ≡ nowhere) ⊎ (IsInLoop K h e.points f.from ⊎ (((f.from ≡ q) × (f.to ≡ h)) ⊎ IsNew d.points h f.to)))
  pub regions : (j : ℕ) → IsSame d.regions e.regions j
      ⊎ IsPartOf K d.points h e.points (z j) (region_at e.regions j)

-- behind the first part of a `for` at a place
abbrev pub behind_first : {V : Type 0} → Context → ForStartTree → Pos → DraftOf V → DraftOf V
behind_first c first p d = for_start c first (fresh 1 (on p d))

-- Of what the lowering of a loop adds, in whose body no case or default of a switch around it stands, its points are entered where it begins again: those of a `while` or `do` at its first new point, of a `for` at the first behind its first part.
pub record LoopsAreEntered (V : Type 0) : Type 0 where
  pub while : (z : ℕ → ℕ) (c : Context) (a : Around) (m : Marks) (p : Pos) (v : ValueTree) (s : StatementTree)
      (x : Exits) (d : DraftOf V) → IsStatement a m (tree.while p v s) →
      AreSized z c (calls_in_statement (tree.while p v s)) → HasNoCase s
      → IsEnteredAt z (IsLabelIn x.labels m.labels s) d (lowered c (tree.while p v s) x d) d.point d.points
  pub do_while : (z : ℕ → ℕ) (c : Context) (a : Around) (m : Marks) (p : Pos) (s : StatementTree) (v : ValueTree)
      (x : Exits) (d : DraftOf V) → IsStatement a m (tree.do_while p s v) →
      AreSized z c (calls_in_statement (tree.do_while p s v)) → HasNoCase s
      → IsEnteredAt z (IsLabelIn x.labels m.labels s) d (lowered c (tree.do_while p s v) x d) d.point d.points
  pub for_loop : (z : ℕ → ℕ) (c : Context) (a : Around) (m : Marks) (p : Pos) (first : ForStartTree)
      (v : Option ValueTree) (third : Option EffectTree) (s : StatementTree) (x : Exits) (d : DraftOf V) →
      IsStatement a m (tree.for_loop p first v third s) →
      AreSized z c (calls_in_statement (tree.for_loop p first v third s)) → HasNoCase s
      → IsEnteredAt z (IsLabelIn x.labels m.labels s) d (lowered c (tree.for_loop p first v third s) x d)
      (behind_first c first p d).point (behind_first c first p d).points
