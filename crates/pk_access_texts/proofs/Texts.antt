-- No two operators of a text's typed unit share a place, and no two accesses of its graph call path, place and kind.
use Rattle.std.proofs.Common.{ℕ, ◌≤◌, sym, subst, arith}
use Rattle.std.specs.Prelude.{Option, Some, None, IfSome, slice_index_or}
use Rattle.pk_ctypes.specs.declared.places.Pos.{Pos}
use Rattle.pk_typed.specs.Trees.{BodyTree, UnitTree}
use Rattle.pk_type.specs.Rules.{noting}
use Rattle.pk_type.specs.Units.{checked, unit_of}
use Rattle.pk_graph.specs.Accesses.{accesses_of}
use Rattle.pk_graph.specs.Graphs.{GraphOf}
use Rattle.pk_access_laws.specs.Operators.{in_items}
use Rattle.pk_access_laws.specs.Laws.{one_at, HasOperatorsApart, OperatorsAreApart, NoneTwice, in_calls, HasCallsApart, CallsAreApart, EnteredOnce}
use Rattle.pk_access_laws.proofs.Graphs.{accesses_are_apart}
use Rattle.pk_access_laws.proofs.Paths.{paths_are_apart, calls_tell_paths}
use Rattle.pk_operator_laws.specs.Trees.{in_externals}
use Rattle.pk_operator_laws.specs.Laws.{CountAtMost, CallsCountAtMost}
use Rattle.pk_operator_laws.proofs.Derived.{operators_are_the_tokens}
use Rattle.pk_operator_laws.proofs.Functions.{operators_are_the_trees, calls_are_the_trees}
use Rattle.pk_access_texts.specs.Laws.{OperatorsOfTextsAreApart, CallsOfTextsAreApart, AccessesOfTextsAreApart, PathsOfTextsAreApart, PlacesTellAccesses}
use Rattle.pk_access_texts.proofs.Tokens.{tokens_are_apart}

-- where each place counts once at most in a body
body_apart : (m : Pos → ℕ) → ((at : Pos) → m at ≤ 1) → (o : Option BodyTree) → ((at : Pos) → IfSome o (λ (b : BodyTree). in_items (one_at at) b.items ≤ m at)) → IfSome o HasOperatorsApart
body_apart m h None k = tt
body_apart m h (Some b) k = λ at. omega (arith, h at, k at)

unit_apart : (u : UnitTree) (m : Pos → ℕ) → ((at : Pos) → m at ≤ 1) → ((at : Pos) → CountAtMost (one_at at) (m at) u) → OperatorsAreApart u
unit_apart u m h k i d l = body_apart m h (slice_index_or u.functions i d).body (λ at. k at i d l)

pub operators_are_apart : OperatorsOfTextsAreApart
operators_are_apart text u h =
    let p = h.parsed in
    subst OperatorsAreApart (sym h.unit)
    (unit_apart (unit_of (checked noting None text h.all)) (λ at. in_externals (one_at at) h.all) (λ at. omega (arith, operators_are_the_tokens p.tokens h.all (one_at at) p.parsed.parsed, tokens_are_apart text p.tokens p.read at))
    (λ at. operators_are_the_trees text h.all (one_at at)))

calls_once : (m : Pos → ℕ) → ((at : Pos) → m at ≤ 1) → (o : Option BodyTree) → ((at : Pos) → IfSome o (λ (b : BodyTree). in_calls (one_at at) b.calls ≤ m at)) → IfSome o HasCallsApart
calls_once m h None k = tt
calls_once m h (Some b) k = λ at. omega (arith, h at, k at)

calls_apart : (u : UnitTree) (m : Pos → ℕ) → ((at : Pos) → m at ≤ 1) → ((at : Pos) → CallsCountAtMost (one_at at) (m at) u) → CallsAreApart u
calls_apart u m h k i d l = calls_once m h (slice_index_or u.functions i d).body (λ at. k at i d l)

pub calls_are_apart : CallsOfTextsAreApart
calls_are_apart text u h =
    let p = h.parsed in
    subst CallsAreApart (sym h.unit)
    (calls_apart (unit_of (checked noting None text h.all)) (λ at. in_externals (one_at at) h.all) (λ at. omega (arith, operators_are_the_tokens p.tokens h.all (one_at at) p.parsed.parsed, tokens_are_apart text p.tokens p.read at))
    (λ at. calls_are_the_trees text h.all (one_at at)))

pub accesses_of_texts_are_apart : AccessesOfTextsAreApart
accesses_of_texts_are_apart text entry g h =
    subst (λ (o : GraphOf). NoneTwice (accesses_of o)) (sym h.graph) (accesses_are_apart h.unit h.paths (operators_are_apart text h.unit h.called.typed))

pub paths_of_texts_are_apart : PathsOfTextsAreApart
paths_of_texts_are_apart text entry g h =
    let walk = h.called.called.0 in
    subst (λ (o : GraphOf). EnteredOnce o.paths) (sym h.graph) (paths_are_apart h.unit walk.entry h.paths walk.is_listing (calls_are_apart text h.unit h.called.typed))

pub places_tell_accesses : PlacesTellAccesses
places_tell_accesses text entry g h i j a b calls d e x y f k =
    accesses_of_texts_are_apart text entry g h i j a b d e (record {
      path = calls_tell_paths g.paths (paths_of_texts_are_apart text entry g h) a.site.path b.site.path calls x y;
      at = f;
      fault = k;
    })
