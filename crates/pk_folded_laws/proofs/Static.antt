-- Where a body has an operator that is folded, the graph has no access at its place on the paths of its function.
use Rattle.std.specs.Prelude.{◌≡◌, ℕ, zero, suc, ◌+◌, ◌<◌, ◌≤◌, nat_eq, ◌&&◌, Bool, true, if◌then◌else◌, List, [], ◌∷◌, length, Option, Some, None, IfSome, All, Contains, slice_get, slice_index_or, unwrap_or}
use Rattle.std.proofs.Common.{arith, refl, sym, ap, ◌∙◌, subst}
use Rattle.std.specs.Option.{option_and_then}
use Rattle.std.proofs.lemmas.Bool.{eq-eqb}
use Rattle.std.proofs.lemmas.List.Elements.{All-head, All-tail}
use Rattle.pk_ctypes.specs.declared.faults.Fault.{Fault}
use Rattle.pk_ctypes.specs.declared.places.Pos.{Pos}
use Rattle.pk_typed.specs.Trees.{BodyTree, FunctionTree, UnitTree}
use Rattle.pk_typed.specs.Defaults.{no_body}
use Rattle.pk_calls.specs.declared.listings.CallPath.{CallPath}
use Rattle.pk_calls.specs.Calls.{body_of}
use Rattle.pk_calls.specs.Paths.{entry_path}
use Rattle.pk_graph.specs.declared.trees.Site.{Site}
use Rattle.pk_graph.specs.Accesses.{AccessOf, fault_of, accesses_of}
use Rattle.pk_draft.specs.Drafts.{by_number}
use Rattle.pk_number.specs.Numbering.{reached}
use Rattle.pk_number.proofs.ReachedLemmas.{reached_distinct}
use Rattle.pk_lower.specs.Parts.{program_draft}
use Rattle.pk_lower.specs.Graphs.{graph_of}
use Rattle.pk_access_laws.specs.Operators.{if_some}
use Rattle.pk_access_laws.specs.Kept.{folded_in_items}
use Rattle.pk_access_laws.specs.Laws.{one_at, HasOperatorsApart, OperatorsAreApart}
use Rattle.pk_access_laws.proofs.Spent.{Asked}
use Rattle.pk_access_laws.proofs.Kept.{split_items}
use Rattle.pk_access_laws.proofs.Parts.{in_body}
use Rattle.pk_access_laws.proofs.Counted.{counts, counted}
use Rattle.pk_access_laws.proofs.Graphs.{chosen, AtMost, at_reached, most_counted, its_count}
use Rattle.pk_folded_laws.proofs.Within.{in_body_of}

apart_in : (fs : List FunctionTree) (f : ℕ) → All (λ (g : FunctionTree). IfSome g.body HasOperatorsApart) fs → IfSome (option_and_then (λ (g : FunctionTree). g.body) (slice_get fs f)) HasOperatorsApart
apart_in [] f h = tt
apart_in (g ∷ fs) zero h = All-head (λ (g : FunctionTree). IfSome g.body HasOperatorsApart) g fs h
apart_in (g ∷ fs) (suc f) h = apart_in fs f (All-tail (λ (g : FunctionTree). IfSome g.body HasOperatorsApart) g fs h)

apart : (u : UnitTree) (f : ℕ) → OperatorsAreApart u → IfSome (body_of u f) HasOperatorsApart
unfolding body_of
apart u f h = apart_in u.functions f h

-- what is folded at the place leaves nothing there that is kept
none_kept : (at : Pos) (o : Option BodyTree) → IfSome o HasOperatorsApart → 1 ≤ folded_in_items (one_at at) (unwrap_or o no_body).items → if_some (in_body (chosen at true)) o ≤ 0
none_kept at None a h = omega arith
none_kept at (Some b) a h = omega (arith, split_items (one_at at) b.items, a at, h)

got : (paths : List CallPath) (i : ℕ) (p d : CallPath) → slice_get paths i ≡ Some p → slice_index_or paths i d ≡ p
got [] i p d h = absurd (cc h)
got (x ∷ paths) zero p d h = cc h
got (x ∷ paths) (suc i) p d h = got paths i p d h

no_more : (u : UnitTree) (paths : List CallPath) (k : ℕ) (at : Pos) → OperatorsAreApart u → 1 ≤ in_body_of (record { unit = u; paths = paths }) (one_at at) k → AtMost (record { path = k; at = at }) u 0 0 paths
no_more u paths k at a h i p is e =
    let there : i ≡ k = omega (arith, e) in
    let same : slice_index_or paths k (entry_path 0) ≡ p = subst (λ (j : ℕ). slice_index_or paths j (entry_path 0) ≡ p) there (got paths i p (entry_path 0) is) in
    none_kept at (body_of u p.function) (apart u p.function a)
    (subst (λ (c : CallPath). 1 ≤ folded_in_items (one_at at) (unwrap_or (body_of u c.function) no_body).items) same h)

its_counted : (w : Asked) (f : Fault) (xs : List AccessOf) (k : ℕ) (a : AccessOf) → k < length xs → slice_index_or xs k a ≡ a → counts w f (fault_of a.operation) a.site ≤ counted w f xs
its_counted w f [] k a l h = absurd (omega (arith, l))
its_counted w f (x ∷ xs) zero a l h =
    subst (λ (y : AccessOf). counts w f (fault_of y.operation) y.site ≤ counts w f (fault_of x.operation) x.site + counted w f xs) h (omega arith)
its_counted w f (x ∷ xs) (suc k) a l h = omega (arith, its_counted w f xs k a (omega (arith, l)) h)

pub no_access : (u : UnitTree) (paths : List CallPath) (k : ℕ) (at : Pos) → OperatorsAreApart u → 1 ≤ in_body_of (record { unit = u; paths = paths }) (one_at at) k
    → (a : AccessOf) → Contains (accesses_of (graph_of u paths)) a → a.site ≡ record { path = k; at = at } → ⊥
no_access u paths k at apart h a has e =
    let d = program_draft by_number u paths in
    let none : AtMost a.site u 0 0 paths = subst (λ (r : Site). AtMost r u 0 0 paths) (sym e) (no_more u paths k at apart h) in
    absurd (omega (
      arith,
      most_counted a.site (fault_of a.operation) u 0 paths none,
      its_counted (at_reached a.site u paths) (fault_of a.operation) (accesses_of (graph_of u paths)) has.0 a has.1 has.2,
      its_count a (reached d.edges) (reached_distinct d.edges),
    ))

same_number : (n : ℕ) → nat_eq n n ≡ true
same_number n = eq-eqb n n refl

pub one_there : (at : Pos) → one_at at at ≡ 1
one_there at =
    ap (λ (b : Bool). if b && nat_eq at.column at.column then 1 else 0) (same_number at.line)
    ∙ ap (λ (b : Bool). if b then 1 else 0) (same_number at.column)
