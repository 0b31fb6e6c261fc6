-- A text that has trees has an end.
use Rattle.std.proofs.Common.{◌≡◌, ◌≢◌, refl, ℕ, List, Option, Some, None, Result, Ok, Err}
use Rattle.pk_ctypes.specs.declared.words.Quantity.TheVariants as quantity
use Rattle.pk_ast.specs.Trees.{ExternalTree}
use Rattle.pk_typed.specs.Trees.{UnitTree}
use Rattle.pk_type_scope.specs.declared.failures.Failure.{Failure}
use Rattle.pk_type.specs.Rules.{noting}
use Rattle.pk_type.specs.Units.{checked, unit_of}
use Rattle.pk_calls.specs.declared.listings.CallPath.{CallPath}
use Rattle.pk_calls.specs.declared.failures.CallError.{CallError}
use Rattle.pk_calls.specs.declared.failures.CallError.TheVariants as call_error
use Rattle.pk_calls.specs.Answers as calls
use Rattle.pk_front.specs.declared.failures.TextError.TheVariants.{Refused, Limit}
use Rattle.pk_front.specs.declared.failures.Refusal.TheVariants.{Typing, NoEntry, Recursion, UndefinedCall}
use Rattle.pk_front.specs.Texts.{HasTrees, HasUnit, failure_in}
use Rattle.pk_front.specs.Laws.{HasEnd, analysed, is_left, TreesLeadOn}
use Rattle.pk_front.proofs.WalkLemmas.{has_answer}

by_answer : (text entry : List ℕ) (u : UnitTree) → HasUnit text u → (r : Result (List CallPath) CallError) → r ≢ Err call_error.Memory → calls.IsAnswer u entry r → HasEnd text entry
by_answer text entry u has (Ok ps) some is = analysed {u = u} {paths = ps} (record { typed = has; called = is })
by_answer text entry u has (Err (call_error.NoEntry name)) some is = is_left {s = Refused (NoEntry name)} (λ e. cc) (record { unit = u; typed = has; refused = is })
by_answer text entry u has (Err (call_error.Recursion cycle)) some is = is_left {s = Refused (Recursion cycle)} (λ e. cc) (record { unit = u; typed = has; refused = is })
by_answer text entry u has (Err (call_error.UndefinedCall name at)) some is = is_left {s = Refused (UndefinedCall name at)} (λ e. cc) (record { unit = u; typed = has; refused = is })
by_answer text entry u has (Err (call_error.Limit quantity.Text n)) some is = absurd is.2
by_answer text entry u has (Err (call_error.Limit quantity.Nesting n)) some is = absurd is.2
by_answer text entry u has (Err (call_error.Limit quantity.Paths n)) some is = is_left {s = Limit quantity.Paths n} (λ e. cc) (record { unit = u; typed = has; refused = is })
by_answer text entry u has (Err (call_error.Limit quantity.Variables n)) some is = is_left {s = Limit quantity.Variables n} (λ e. cc) (record { unit = u; typed = has; refused = is })
by_answer text entry u has (Err (call_error.Limit quantity.Points n)) some is = absurd is.2
by_answer text entry u has (Err (call_error.Limit quantity.Packs n)) some is = absurd is.2
by_answer text entry u has (Err call_error.Memory) some is = absurd (some refl)

by_failure : (text entry : List ℕ) (all : List ExternalTree) → HasTrees text all → (found : Option Failure) → failure_in text all ≡ found → HasEnd text entry
by_failure text entry all parsed (Some f) is = is_left {s = Refused (Typing f.rule f.at)} (λ e. cc) (record { all = all; parsed = parsed; found = is })
by_failure text entry all parsed None is =
    let u = unit_of (checked noting None text all) in
    let answer = has_answer u entry in
    by_answer text entry u (record { all = all; parsed = parsed; accepted = is; unit = refl }) answer.0 answer.1 answer.2

pub trees_lead_on : TreesLeadOn
trees_lead_on text entry all parsed = by_failure text entry all parsed (failure_in text all) refl
