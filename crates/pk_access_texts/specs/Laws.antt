-- No two accesses of a text's graph share call path, place and kind, and no two of its paths are entered by one call.
use Rattle.std.specs.Prelude.{◌≡◌, ℕ, ◌≤◌, List, Some, slice_get}
use Rattle.pk_ctypes.specs.declared.places.Pos.{Pos}
use Rattle.pk_lex.specs.declared.token.Token.{Token}
use Rattle.pk_typed.specs.Trees.{UnitTree}
use Rattle.pk_front.specs.Texts.{HasTokens, HasUnit}
use Rattle.pk_graph.specs.Accesses.{AccessOf, fault_of, accesses_of}
use Rattle.pk_graph.specs.Graphs.{GraphOf}
use Rattle.pk_text_graph.specs.Graphs.{HasGraph}
use Rattle.pk_access_laws.specs.Laws.{one_at, OperatorsAreApart, NoneTwice, CallsAreApart, EnteredOnce, HasCalls}
use Rattle.pk_operator_laws.specs.Trees.{in_tokens}

-- No two tokens of a text share a place.
abbrev pub TokensAreApart : Type 0
TokensAreApart =
    (text : List ℕ) (tokens : List Token) → HasTokens text tokens → (at : Pos) → in_tokens (one_at at) tokens ≤ 1

-- So no two operators of its typed unit do.
abbrev pub OperatorsOfTextsAreApart : Type 0
OperatorsOfTextsAreApart = (text : List ℕ) (u : UnitTree) → HasUnit text u → OperatorsAreApart u

-- Nor do two calls.
abbrev pub CallsOfTextsAreApart : Type 0
CallsOfTextsAreApart = (text : List ℕ) (u : UnitTree) → HasUnit text u → CallsAreApart u

-- And no two accesses of its graph share call path, place and kind.
abbrev pub AccessesOfTextsAreApart : Type 0
AccessesOfTextsAreApart = (text entry : List ℕ) (g : GraphOf) → HasGraph text entry g → NoneTwice (accesses_of g)

-- No two paths of its graph are entered by one call.
abbrev pub PathsOfTextsAreApart : Type 0
PathsOfTextsAreApart = (text entry : List ℕ) (g : GraphOf) → HasGraph text entry g → EnteredOnce g.paths

-- So the places of the calls of its path, its own place and its kind tell an access.
abbrev pub PlacesTellAccesses : Type 0
PlacesTellAccesses =
    (text entry : List ℕ) (g : GraphOf) → HasGraph text entry g → (i j : ℕ) (a b : AccessOf) (calls : List Pos) →
    slice_get (accesses_of g) i ≡ Some a → slice_get (accesses_of g) j ≡ Some b → HasCalls g.paths a.site.path calls →
    HasCalls g.paths b.site.path calls → a.site.at ≡ b.site.at → fault_of a.operation ≡ fault_of b.operation → i ≡ j
