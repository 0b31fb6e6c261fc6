-- No two loops of a text's typed unit share a place, and each loop of a path begins again at one point of its graph at most.
use Rattle.std.proofs.Common.{ℕ, ◌≤◌, sym, subst, arith}
use Rattle.std.specs.Prelude.{Option, Some, None, IfSome, slice_index_or}
use Rattle.pk_ctypes.specs.declared.places.Pos.{Pos}
use Rattle.pk_typed.specs.Trees.{BodyTree, UnitTree}
use Rattle.pk_type.specs.Rules.{noting}
use Rattle.pk_type.specs.Units.{checked, unit_of}
use Rattle.pk_access_laws.specs.Laws.{one_at}
use Rattle.pk_access_texts.proofs.Tokens.{tokens_are_apart}
use Rattle.pk_loop_laws.specs.Loops.{loops_in_items}
use Rattle.pk_loop_laws.specs.Trees.{all_loops}
use Rattle.pk_loop_laws.specs.Laws.{LoopsCountAtMost}
use Rattle.pk_loop_laws.proofs.Derived.{loops_are_the_tokens}
use Rattle.pk_loop_laws.proofs.Functions.{loops_are_the_trees}
use Rattle.pk_loop_texts.specs.Laws.{HasLoopsApart, LoopsAreApart, LoopsOfTextsAreApart, TurnsOfTextsAreApart}
use Rattle.pk_loop_texts.proofs.Turns.{turns_are_apart}

-- where each place counts once at most in a body
body_apart : (m : Pos → ℕ) → ((at : Pos) → m at ≤ 1) → (o : Option BodyTree) → ((at : Pos) → IfSome o (λ (b : BodyTree). loops_in_items (one_at at) b.items ≤ m at)) → IfSome o HasLoopsApart
body_apart m h None k = tt
body_apart m h (Some b) k = λ at. omega (arith, h at, k at)

unit_apart : (u : UnitTree) (m : Pos → ℕ) → ((at : Pos) → m at ≤ 1) → ((at : Pos) → LoopsCountAtMost (one_at at) (m at) u) → LoopsAreApart u
unit_apart u m h k i d l = body_apart m h (slice_index_or u.functions i d).body (λ at. k at i d l)

pub loops_are_apart : LoopsOfTextsAreApart
loops_are_apart text u h =
    let p = h.parsed in
    subst LoopsAreApart (sym h.unit)
    (unit_apart (unit_of (checked noting None text h.all)) (λ at. all_loops (one_at at) h.all) (λ at. omega (arith, loops_are_the_tokens p.tokens h.all (one_at at) p.parsed.parsed, tokens_are_apart text p.tokens p.read at))
    (λ at. loops_are_the_trees text h.all (one_at at)))

pub turns_of_texts_are_apart : TurnsOfTextsAreApart
turns_of_texts_are_apart text entry g h path = turns_are_apart h.unit h.paths (loops_are_apart text h.unit h.called.typed) path
