-- Parameters from a place on.
use Rattle.std.proofs.Math.Seq.{drop-cons}
use Rattle.std.proofs.lemmas.List.{drop_all, append-nil}
use Rattle.std.proofs.Common.{◌≡◌, ℕ, suc, ◌+◌, ◌<◌, ◌≤◌, List, [], ◌∷◌, ◌++◌, Option, Some, None, Bool, false, drop, get_or, length, add-one, append_assoc, ap, sym, ◌∙◌}
use Rattle.pk_ctypes.specs.declared.places.Pos.{Pos}
use Rattle.pk_ctypes.specs.declared.words.Rule.TheVariants as rule
use Rattle.pk_ast.specs.declared.expressions.Identifier.{Identifier}
use Rattle.pk_ast.specs.declared.units.Parameter.{Parameter}
use Rattle.pk_ast.specs.Trees.{ParameterTree}
use Rattle.pk_ast.specs.Views.{specifiers_tree, parameter_tree, parameter_trees}
use Rattle.pk_type_scope.specs.declared.declarations.Typing.{Typing}
use Rattle.pk_type_scope.specs.declared.failures.Failure.{Failure}
use Rattle.pk_type_scope.specs.Declarations.{Names}
use Rattle.pk_type_scope.specs.Failures.{fails_if, noted}
use Rattle.pk_type_scope.specs.Specifiers.{type_named}
use Rattle.pk_type_declaration.specs.declared.words.Words.{Words}
use Rattle.pk_type_declaration.specs.Declarations.{words_of, after_object}
use Rattle.pk_type_declaration.specs.Walks.{Walked, here}
use Rattle.pk_type_declaration.specs.Rules.{failing}
use Rattle.pk_type_statement.proofs.CaseLemmas.{failing_twice}
use Rattle.pk_type.specs.Functions.{after_parameter_name, after_parameter, after_parameters}
use Rattle.pk_type.specs.Signatures.{types_of}
use Rattle.pk_type.specs.Rules.{parameter_failures, noting}

pub next : (ps : List Parameter) (i : ℕ) (p : Parameter) → i < length ps → p ≡ get_or ps i p → parameter_trees (drop i ps) ≡ parameter_tree p ∷ parameter_trees (drop (i + 1) ps)
next ps i p h is = rw add-one (ap parameter_trees (drop-cons ps i p h ∙ ap (λ z. z ∷ drop (suc i) ps) (sym is)))

pub at_end : (ps : List Parameter) (i : ℕ) → length ps ≤ i → parameter_trees (drop i ps) ≡ []
at_end ps i h = ap parameter_trees (drop_all i ps h)

pub types_step : (d : Names) (p : Parameter) (now rest : List ParameterTree) (xs ys all : List Typing) → now ≡ parameter_tree p ∷ rest → ys ≡ xs ++ type_named d (specifiers_tree p.specifiers) ∷ [] → xs ++ types_of d now ≡ all → ys ++ types_of d rest ≡ all
unfolding parameter_tree
types_step d p now rest xs ys all q s h =
    ap (λ y. y ++ types_of d rest) s ∙ (append_assoc xs (type_named d (specifiers_tree p.specifiers) ∷ []) (types_of d rest) ∙ (ap (λ n. xs ++ types_of d n) (sym q) ∙ h))

pub types_done : (d : Names) (now : List ParameterTree) (xs all : List Typing) → now ≡ [] → xs ++ types_of d now ≡ all → xs ≡ all
types_done d now xs all p h = sym (append-nil xs) ∙ (ap (λ n. xs ++ types_of d n) (sym p) ∙ h)

abbrev State : Type 0
State = Walked (Option Failure)

pub parameters_step : (w v all : State) (now rest : List ParameterTree) (p : ParameterTree) → now ≡ p ∷ rest → v ≡ after_parameter noting p w → after_parameters noting now w ≡ all → after_parameters noting rest v ≡ all
unfolding after_parameters
parameters_step w v all now rest p q s h = ap (after_parameters noting rest) s ∙ (ap (λ n. after_parameters noting n w) (sym q) ∙ h)

pub parameters_done : (w all : State) (now : List ParameterTree) → now ≡ [] → after_parameters noting now w ≡ all → w ≡ all
unfolding after_parameters
parameters_done w all now p h = ap (λ n. after_parameters noting n w) (sym p) ∙ h

-- a parameter with a name, step by step
pub named_step : (p : ParameterTree) (x : Identifier) (words : Words) (w v end : State) → p.name ≡ Some x → v ≡ failing noted (parameter_failures (here w) p) w →
    words ≡ words_of (here v) p.specifiers → end ≡ after_object noting.statements.declarations words false None x v → end ≡ after_parameter noting p w
named_step p x words w v end named noted_words told declared =
    declared ∙ ap (λ (t : Words). after_object noting.statements.declarations t false None x v) told
    ∙ ap (λ (n : Option Identifier). after_parameter_name noting p n v) (sym named)
    ∙ ap (after_parameter_name noting p p.name) noted_words

-- the rows at a parameter's words, and then the one at its brackets
pub parameter_noted : (a : List Failure) (f g : Bool) (at place : Pos) (w v end : State) → v ≡ failing noted a w → end ≡ failing noted (fails_if f rule.Array at) v → f ≡ g → at ≡ place →
    end ≡ failing noted (a ++ fails_if g rule.Array place) w
parameter_noted a f g at place w v end words brackets same there =
    brackets ∙ ap (failing noted (fails_if f rule.Array at)) words ∙ sym (failing_twice a (fails_if f rule.Array at) w)
    ∙ ap (λ b. failing noted (a ++ fails_if b rule.Array at) w) same ∙ ap (λ q. failing noted (a ++ fails_if g rule.Array q) w) there
