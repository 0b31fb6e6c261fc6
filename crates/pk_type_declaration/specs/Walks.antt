-- What is known at a place of a function, and how expressions there go on from it. What is found at each form is added to what was found before.
use Rattle.std.specs.Prelude.{ℕ, List, [], ◌∷◌, ◌++◌, Option, length}
use Rattle.pk_ast.specs.declared.expressions.Identifier.{Identifier}
use Rattle.pk_ast.specs.Trees.{ExpressionTree, ExpressionTrees}
use Rattle.pk_typed.specs.declared.units.CallSite.{CallSite}
use Rattle.pk_typed.specs.Trees.{LocalTree, FileObjectTree, ValueTree, EffectTree, ValueTrees}
use Rattle.pk_type_scope.specs.declared.declarations.Declaration.{Declaration}
use Rattle.pk_type_scope.specs.Declarations.{Names}
use Rattle.pk_type_scope.specs.Scopes.{Scoping, names_in, opened, declaring}
use Rattle.pk_type_expression.specs.Typed.{typed, typed_all, calls, calls_in_all, value_of, effect_of}
use Rattle.pk_type_declaration.specs.Checks.{DeclarationChecks}

-- objects that functions declare static: the number of the first, which the file's objects stand before, and those so far
pub record StaticsTree : Type 0 where
  pub first : ℕ
  pub made : List FileObjectTree

-- the scopes around the place, and what stands before it: what was found, the function's calls and objects, and static objects
pub record Walked (F : Type 0) : Type 0 where
  pub scoping : Scoping
  pub found : F
  pub calls : List CallSite
  pub locals : List LocalTree
  pub statics : StaticsTree

abbrev pub here : {F : Type 0} → Walked F → Names
here w = names_in w.scoping

-- something is found, or nothing
abbrev pub finding : {F : Type 0} → (F → F) → Walked F → Walked F
finding more w = record {
  scoping = w.scoping;
  found = more w.found;
  calls = w.calls;
  locals = w.locals;
  statics = w.statics;
}

-- an expression whose value is used
abbrev pub after_value : {F : Type 0} → DeclarationChecks F → ExpressionTree → Walked F → Walked F
after_value c e w =
    record {
      scoping = w.scoping;
      found = c.value (here w) e w.found;
      calls = w.calls ++ calls (here w) e;
      locals = w.locals;
      statics = w.statics;
    }

-- an expression whose value isn't used
abbrev pub after_effect : {F : Type 0} → DeclarationChecks F → ExpressionTree → Walked F → Walked F
after_effect c e w =
    record {
      scoping = w.scoping;
      found = c.effect (here w) e w.found;
      calls = w.calls ++ calls (here w) e;
      locals = w.locals;
      statics = w.statics;
    }

-- expressions whose values are used
abbrev pub after_values : {F : Type 0} → DeclarationChecks F → ExpressionTrees → Walked F → Walked F
after_values c es w =
    record {
      scoping = w.scoping;
      found = c.values (here w) es w.found;
      calls = w.calls ++ calls_in_all (here w) es;
      locals = w.locals;
      statics = w.statics;
    }

-- their typed trees, in their place
abbrev pub value_at : {F : Type 0} → Walked F → ExpressionTree → Option ValueTree
value_at w e = value_of (typed (here w) (length w.calls) e)

abbrev pub effect_at : {F : Type 0} → Walked F → ExpressionTree → Option EffectTree
effect_at w e = effect_of (typed (here w) (length w.calls) e)

abbrev pub values_at : {F : Type 0} → Walked F → ExpressionTrees → Option ValueTrees
values_at w es = typed_all (here w) (length w.calls) es

-- a name declared in the innermost scope
abbrev pub after_name : {F : Type 0} → Identifier → Declaration → Walked F → Walked F
after_name x d w = record {
  scoping = declaring w.scoping x d;
  found = w.found;
  calls = w.calls;
  locals = w.locals;
  statics = w.statics;
}

-- an object more of the function
abbrev pub with_local : {F : Type 0} → LocalTree → Walked F → Walked F
with_local l w = record {
  scoping = w.scoping;
  found = w.found;
  calls = w.calls;
  locals = w.locals ++ l ∷ [];
  statics = w.statics;
}

-- a static object more
abbrev pub with_static : {F : Type 0} → FileObjectTree → Walked F → Walked F
with_static o w = record {
  scoping = w.scoping;
  found = w.found;
  calls = w.calls;
  locals = w.locals;
  statics = record { first = w.statics.first; made = w.statics.made ++ o ∷ [] };
}

-- inside a scope, and after it, where the scopes around it are as before
abbrev pub entering : {F : Type 0} → Walked F → Walked F
entering w = record {
  scoping = opened w.scoping;
  found = w.found;
  calls = w.calls;
  locals = w.locals;
  statics = w.statics;
}

abbrev pub leaving : {F : Type 0} → Walked F → Walked F → Walked F
leaving before w = record {
  scoping = before.scoping;
  found = w.found;
  calls = w.calls;
  locals = w.locals;
  statics = w.statics;
}
