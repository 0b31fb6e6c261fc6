-- The caller of a path comes before it.
use Rattle.std.specs.Prelude.{◌≡◌, ℕ, ◌<◌, List, Option, Some, None, option_map, unwrap_or, slice_get}
use Rattle.std.specs.Option.{option_and_then}
use Rattle.std.proofs.Common.{arith, refl, ap, sym, ◌∙◌}
use Rattle.std.proofs.lemmas.Option.{none-some, slice_get-map}
use Rattle.pk_typed.specs.Trees.{UnitTree}
use Rattle.pk_calls.specs.declared.listings.Caller.{Caller}
use Rattle.pk_calls.specs.declared.listings.CallPath.{CallPath}
use Rattle.pk_calls.specs.Paths.{LeadsTo, IsListing}
use Rattle.pk_graph.specs.declared.trees.Site.{Site}
use Rattle.pk_graph.specs.Graphs.{PathOf}
use Rattle.pk_lower.specs.Paths.{site_of_call, path_of}
use Rattle.pk_places_laws.specs.Laws.{CallersComeFirst}

by_caller : (u : UnitTree) (entry : ℕ) (paths : List CallPath) → IsListing u entry paths → (k : ℕ) (s : Site) (q : CallPath) (o : Option Caller) → slice_get paths k ≡ Some q → q.caller ≡ o
    → option_map (site_of_call u paths) o ≡ Some s → s.path < k
by_caller u entry paths l k s q None a b c = absurd (none-some s c)
by_caller u entry paths l k s q (Some n) a b c =
    let same : n.path ≡ s.path = ap (λ (x : Option Site). (unwrap_or x s).path) c in
    let leads : LeadsTo paths n.path n.call k = ap (λ (x : Option CallPath). option_and_then (λ (p : CallPath). p.caller) x) a ∙ b in
    omega (l.behind n.path n.call k leads, same, arith)

by_path : (u : UnitTree) (entry : ℕ) (paths : List CallPath) → IsListing u entry paths → (k : ℕ) (p : PathOf) (s : Site) (o : Option CallPath) → slice_get paths k ≡ o
    → option_map (path_of u paths) o ≡ Some p → p.call ≡ Some s → s.path < k
by_path u entry paths l k p s None a b c = absurd (none-some p b)
by_path u entry paths l k p s (Some q) a b c = by_caller u entry paths l k s q q.caller a refl (ap (λ (x : Option PathOf). (unwrap_or x p).call) b ∙ c)

pub callers_come_first : CallersComeFirst
callers_come_first u entry paths l k p s e f = by_path u entry paths l k p s (slice_get paths k) refl (sym (slice_get-map (path_of u paths) paths k) ∙ e) f
