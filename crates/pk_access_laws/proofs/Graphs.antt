-- No two accesses of a unit's graph share call path, place and kind.
use Rattle.std.specs.Prelude.{◌≡◌, ℕ, zero, suc, ◌+◌, ◌<◌, ◌≤◌, nat_eq, ◌&&◌, ◌||◌, Bool, true, false, if◌then◌else◌, List, [], ◌∷◌, Option, Some, None, IfSome, All, slice_get, ◌⊎◌}
use Rattle.std.proofs.Common.{arith, refl, sym, ap, ◌∙◌, ◌≢◌, inl, inr, subst}
use Rattle.std.specs.Option.{option_and_then}
use Rattle.std.proofs.lemmas.Bool.{cases_lt, eq-eqb}
use Rattle.std.proofs.lemmas.List.Elements.{All-head, All-tail}
use Rattle.std.proofs.lemmas.Bool.Decides.{eqb_tells}
use Rattle.pk_ctypes.specs.declared.faults.Fault.{Fault}
use Rattle.pk_ctypes.specs.declared.places.Pos.{Pos}
use Rattle.pk_typed.specs.Trees.{BodyTree, FunctionTree, UnitTree}
use Rattle.pk_calls.specs.declared.listings.CallPath.{CallPath}
use Rattle.pk_calls.specs.Calls.{body_of}
use Rattle.pk_graph.specs.declared.trees.Site.{Site}
use Rattle.pk_graph.specs.Accesses.{AccessOf, fault_of, accesses_of}
use Rattle.pk_draft.specs.Drafts.{by_number}
use Rattle.pk_number.specs.Preorders.{is_among}
use Rattle.pk_number.specs.Rows.{IsDistinct}
use Rattle.pk_number.specs.Numbering.{reached}
use Rattle.pk_number.proofs.ReachedLemmas.{reached_distinct}
use Rattle.pk_lower.specs.Parts.{program_draft}
use Rattle.pk_lower.specs.Graphs.{graph_of}
use Rattle.pk_access_laws.specs.Operators.{Counting, if_some}
use Rattle.pk_access_laws.specs.Laws.{one_at, HasOperatorsApart, OperatorsAreApart, IsSame, AccessesAreApart}
use Rattle.pk_access_laws.proofs.Spent.{Asked, repeated, count_if}
use Rattle.pk_access_laws.proofs.Nothing.{no_items}
use Rattle.pk_access_laws.proofs.Kept.{split_items}
use Rattle.pk_access_laws.proofs.Parts.{in_body, on_path, in_parts, program_told}
use Rattle.pk_access_laws.proofs.Counted.{counts, counted, fault_number, points_count, two_count}

-- ---- numbered points

not_there : (x m : ℕ) (ps : List ℕ) → is_among x ps ≡ false → repeated x m ps ≡ 0
not_there x m [] h = refl
not_there x m (p ∷ ps) h = by (nat_eq x p) h (not_there x m ps)
  where
    by : (b : Bool) → (b || is_among x ps) ≡ false → (is_among x ps ≡ false → repeated x m ps ≡ 0) → (if b then m else 0) + repeated x m ps ≡ 0
    by true e rest = absurd (cc e)
    by false e rest = omega (arith, rest e)

pub once : (x m : ℕ) (ps : List ℕ) → IsDistinct ps → repeated x m ps ≤ m
once x m [] h = omega arith
once x m (p ∷ ps) h = by (eqb_tells x p) (once x m ps h.1)
  where
    by : ((nat_eq x p ≡ true) × (x ≡ p)) ⊎ ((nat_eq x p ≡ false) × (x ≢ p)) → repeated x m ps ≤ m → repeated x m (p ∷ ps) ≤ m
    by (inl e) rest =
        let none : repeated x m ps ≡ 0 = not_there x m ps (ap (λ (n : ℕ). is_among n ps) e.1 ∙ h.0) in
        subst (λ (b : Bool). (if b then m else 0) + repeated x m ps ≤ m) (sym e.0) (omega (arith, none))
    by (inr e) rest = subst (λ (b : Bool). (if b then m else 0) + repeated x m ps ≤ m) (sym e.0) (omega (arith, rest))

-- ---- one site alone counts

abbrev pub at_site : Site → Site → ℕ
at_site r s = if nat_eq s.path r.path then one_at r.at s.at else 0

abbrev pub asked : Site → (ps : List ℕ) → IsDistinct ps → Asked
asked r ps h = record { count = at_site r; points = ps; once = λ x m. once x m ps h }

-- on its path each operator at its place, on another none
abbrev pub chosen : Pos → Bool → Counting
chosen at b q = if b then one_at at q else 0

none_chosen : (at : Pos) (b : Option BodyTree) → if_some (in_body (chosen at false)) b ≡ 0
none_chosen at None = refl
none_chosen at (Some b) = omega (arith, split_items (chosen at false) b.items, no_items b.items)

one_chosen : (at : Pos) (b : Option BodyTree) → IfSome b HasOperatorsApart → if_some (in_body (chosen at true)) b ≤ 1
one_chosen at None h = omega arith
one_chosen at (Some b) h = omega (arith, split_items (chosen at true) b.items, h at)

functions_count : (at : Pos) (fs : List FunctionTree) (f : ℕ) → All (λ (g : FunctionTree). IfSome g.body HasOperatorsApart) fs → if_some (in_body (chosen at true)) (option_and_then (λ (g : FunctionTree). g.body) (slice_get fs f)) ≤ 1
functions_count at [] f h = omega arith
functions_count at (g ∷ fs) zero h = one_chosen at g.body (All-head (λ (g : FunctionTree). IfSome g.body HasOperatorsApart) g fs h)
functions_count at (g ∷ fs) (suc f) h = functions_count at fs f (All-tail (λ (g : FunctionTree). IfSome g.body HasOperatorsApart) g fs h)

body_counts : (at : Pos) (u : UnitTree) (f : ℕ) → OperatorsAreApart u → if_some (in_body (chosen at true)) (body_of u f) ≤ 1
unfolding body_of
body_counts at u f h = functions_count at u.functions f h

-- what a body counts on path k
here_is : (r : Site) (ps : List ℕ) (h : IsDistinct ps) (k : ℕ) (o : Option BodyTree) (b : Bool) → nat_eq k r.path ≡ b → if_some (in_body (on_path (asked r ps h) k)) o ≡ if_some (in_body (chosen r.at b)) o
here_is r ps h k o b e = ap (λ (c : Bool). if_some (in_body (chosen r.at c)) o) e

is_past : (r : Site) (ps : List ℕ) (h : IsDistinct ps) (u : UnitTree) (k : ℕ) (paths : List CallPath) → r.path < k → in_parts (asked r ps h) u k paths ≡ 0
is_past r ps h u k [] l = refl
is_past r ps h u k (p ∷ paths) l = by (eqb_tells k r.path) (is_past r ps h u (k + 1) paths (omega (arith, l)))
  where
    by : ((nat_eq k r.path ≡ true) × (k ≡ r.path)) ⊎ ((nat_eq k r.path ≡ false) × (k ≢ r.path)) → in_parts (asked r ps h) u (k + 1) paths ≡ 0 → in_parts (asked r ps h) u k (p ∷ paths) ≡ 0
    by (inl e) rest = absurd (omega (arith, e.1, l))
    by (inr e) rest = omega (arith, here_is r ps h k (body_of u p.function) false e.0, none_chosen r.at (body_of u p.function), rest)

-- what the body counts of the function of the site's path
abbrev pub AtMost : Site → UnitTree → (n k : ℕ) → List CallPath → Type 0
AtMost r u n k paths = (i : ℕ) (p : CallPath) → slice_get paths i ≡ Some p → k + i ≡ r.path → if_some (in_body (chosen r.at true)) (body_of u p.function) ≤ n

parts_are : (r : Site) (ps : List ℕ) (h : IsDistinct ps) (u : UnitTree) (n k : ℕ) (paths : List CallPath) → AtMost r u n k paths → in_parts (asked r ps h) u k paths ≤ n
parts_are r ps h u n k [] a = omega arith
parts_are r ps h u n k (p ∷ paths) a = by (eqb_tells k r.path) (parts_are r ps h u n (k + 1) paths (λ i q is e. a (suc i) q is (omega (arith, e))))
  where
    by : ((nat_eq k r.path ≡ true) × (k ≡ r.path)) ⊎ ((nat_eq k r.path ≡ false) × (k ≢ r.path)) → in_parts (asked r ps h) u (k + 1) paths ≤ n → in_parts (asked r ps h) u k (p ∷ paths) ≤ n
    by (inl e) rest =
        let past : r.path < k + 1 = omega (arith, e.1) in
        omega (arith, here_is r ps h k (body_of u p.function) true e.0, a zero p refl (omega (arith, e.1)), is_past r ps h u (k + 1) paths past)
    by (inr e) rest = omega (arith, here_is r ps h k (body_of u p.function) false e.0, none_chosen r.at (body_of u p.function), rest)

-- ---- the law

same_number : (n : ℕ) → nat_eq n n ≡ true
same_number n = eq-eqb n n refl

itself : (l c k : ℕ) (f : ℕ) → count_if (nat_eq f f) (if nat_eq k k then (if nat_eq l l && nat_eq c c then 1 else 0) else 0) ≡ 1
itself l c k f =
    ap (λ (b : Bool). count_if b (if nat_eq k k then (if nat_eq l l && nat_eq c c then 1 else 0) else 0)) (same_number f)
    ∙ ap (λ (b : Bool). if b then (if nat_eq l l && nat_eq c c then 1 else 0) else 0) (same_number k)
    ∙ ap (λ (b : Bool). if b && nat_eq c c then 1 else 0) (same_number l)
    ∙ ap (λ (b : Bool). if b then 1 else 0) (same_number c)

-- an access counts one, and so does one that is the same
pub its_count : (a : AccessOf) (ps : List ℕ) (h : IsDistinct ps) → counts (asked a.site ps h) (fault_of a.operation) (fault_of a.operation) a.site ≡ 1
its_count a ps h = itself a.site.at.line a.site.at.column a.site.path (fault_number (fault_of a.operation))

pub same_count : (a b : AccessOf) (ps : List ℕ) (h : IsDistinct ps) → IsSame a b → counts (asked a.site ps h) (fault_of a.operation) (fault_of b.operation) b.site ≡ 1
same_count a b ps h e =
    ap (λ (g : Fault). counts (asked a.site ps h) (fault_of a.operation) g b.site) (sym e.fault)
    ∙ ap (λ (k : ℕ). counts (asked a.site ps h) (fault_of a.operation) (fault_of a.operation) (record { path = k; at = b.site.at })) (sym e.path)
    ∙ ap (λ (q : Pos). counts (asked a.site ps h) (fault_of a.operation) (fault_of a.operation) (record { path = a.site.path; at = q })) (sym e.at)
    ∙ its_count a ps h

abbrev pub at_reached : Site → UnitTree → List CallPath → Asked
at_reached r u paths = asked r (reached (program_draft by_number u paths).edges) (reached_distinct (program_draft by_number u paths).edges)

pub most_counted : (r : Site) (f : Fault) (u : UnitTree) (n : ℕ) (paths : List CallPath) → AtMost r u n 0 paths → counted (at_reached r u paths) f (accesses_of (graph_of u paths)) ≤ n
most_counted r f u n paths a =
    let d = program_draft by_number u paths in
    let ps = reached d.edges in
    let w = asked r ps (reached_distinct d.edges) in
    omega (arith, points_count w f 0 ps d ps, program_told ℕ w by_number u paths, parts_are r ps (reached_distinct d.edges) u n 0 paths a)

all_counted : (r : Site) (f : Fault) (u : UnitTree) (paths : List CallPath) → OperatorsAreApart u → counted (at_reached r u paths) f (accesses_of (graph_of u paths)) ≤ 1
all_counted r f u paths a = most_counted r f u 1 paths (λ i p is e. body_counts r.at u p.function a)

no_two : (u : UnitTree) (paths : List CallPath) → OperatorsAreApart u → (i j : ℕ) (a b : AccessOf) → slice_get (accesses_of (graph_of u paths)) i ≡ Some a → slice_get (accesses_of (graph_of u paths)) j ≡ Some b → IsSame a b → j ≤ i
no_two u paths o i j a b h k e = by (cases_lt i j)
  where
    by : (i < j) ⊎ (j ≤ i) → j ≤ i
    by (inl l) =
        let d = program_draft by_number u paths in
        let ps = reached d.edges in
        let t = reached_distinct d.edges in
        absurd (omega (arith, two_count (asked a.site ps t) (fault_of a.operation) (accesses_of (graph_of u paths)) i j a b l h k, its_count a ps t, same_count a b ps t e, all_counted a.site (fault_of a.operation) u paths o))
    by (inr l) = l

turned : (a b : AccessOf) → IsSame a b → IsSame b a
turned a b e = record { path = sym e.path; at = sym e.at; fault = sym e.fault }

pub accesses_are_apart : AccessesAreApart
accesses_are_apart u paths o i j a b h k e =
    omega (arith, no_two u paths o i j a b h k e, no_two u paths o j i b a k h (turned a b e))
