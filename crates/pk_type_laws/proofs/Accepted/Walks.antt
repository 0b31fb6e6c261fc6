-- What stands at a place of a function, and what expressions add to it, where no rule fails.
use Rattle.std.proofs.Common.{◌≡◌, ℕ, ◌+◌, Bool, true, false, List, [], ◌∷◌, ◌++◌, Option, Some, None, length, refl, ap, sym, ◌∙◌, length-append, append_assoc, if◌then◌else◌, append-nil}
use Rattle.std.proofs.Math.Nat.{add-zero, add_assoc}
use Rattle.std.proofs.lemmas.Option.{none-some}
use Rattle.pk_ast.specs.Trees.{ExpressionTree, ExpressionTrees}
use Rattle.pk_typed.specs.declared.units.CallSite.{CallSite}
use Rattle.pk_typed.specs.Trees.{ValueTree, EffectTree, ValueTrees, LocalTree, FileObjectTree, UnitTree}
use Rattle.pk_type_scope.specs.declared.failures.Failure.{Failure}
use Rattle.pk_type_scope.specs.Failures.{is_before, earlier, noted}
use Rattle.pk_type_expression.specs.Rules.{void, count, failures, used_failures, failures_used}
use Rattle.pk_type_expression.specs.Typed.{typed, calls, calls_in_all}
use Rattle.pk_type_expression.proofs.TreeLemmas.{none_before}
use Rattle.pk_type_declaration.specs.Walks.{StaticsTree, Walked, here, after_value, after_effect, after_values, value_at, effect_at, values_at}
use Rattle.pk_type_declaration.specs.Rules as declarations
use Rattle.pk_type_declaration.specs.Rules.{failing}
use Rattle.pk_welltyped.specs.Listed.{Numbered, numbered, calls_in, calls_in_effect, calls_in_values}
use Rattle.pk_welltyped.specs.WellTyped as good
use Rattle.pk_welltyped.specs.WellTyped.{Around, IsValue, IsEffect, AreValues}
use Rattle.pk_type_laws.specs.Accepted.Constants.{HasConstants, HaveConstants}
use Rattle.pk_type_laws.specs.Accepted.Names.{NamesAre}
use Rattle.pk_type_laws.proofs.Accepted.Expressions.{numbered_append, GoodValue, GoodEffect, GoodValues, good_value, good_effect, expressions, all_expressions}

abbrev pub W : Type 0
W = Walked (Option Failure)

-- what is declared around it, in a function with these objects
abbrev pub around : UnitTree → List LocalTree → W → Around
around u ls w = record { unit = u; locals = ls; objects = length w.locals }

-- ---- nothing is found

earlier_found : (x : Option Failure) (f : Failure) → earlier x f ≡ None → ⊥
earlier_found None f h = none-some f (sym h)
earlier_found (Some g) f h = chosen (is_before f g) h
  where
    chosen : (b : Bool) → (if b then Some f else Some g) ≡ None → ⊥
    chosen true h = none-some f (sym h)
    chosen false h = none-some g (sym h)

pub none_found : (x : Option Failure) (fs : List Failure) → noted x fs ≡ None → (x ≡ None) × (fs ≡ [])
none_found x [] h = (h, refl)
none_found x (f ∷ fs) h = absurd (earlier_found x f (none_found (earlier x f) fs h).0)

-- ---- from a place to a later one

-- static objects are added, and the number of the first is one for all places
pub record LaterStatics (s t : StaticsTree) : Type 0 where
  pub first : t.first ≡ s.first
  pub more : List FileObjectTree
  pub made : t.made ≡ s.made ++ more

pub statics_same : (s : StaticsTree) → LaterStatics s s
statics_same s = record { first = refl; more = []; made = sym (append-nil s.made) }

pub statics_later : (s t u : StaticsTree) → LaterStatics s t → LaterStatics t u → LaterStatics s u
statics_later s t u a b = record {
  first = b.first ∙ a.first;
  more = a.more ++ b.more;
  made = b.made ∙ (ap (λ (l : List FileObjectTree). l ++ b.more) a.made ∙ append_assoc s.made a.more b.more);
}

pub record Later (w v : W) : Type 0 where
  pub found : v.found ≡ None → w.found ≡ None
  pub more : List LocalTree
  pub locals : v.locals ≡ w.locals ++ more
  pub statics : LaterStatics w.statics v.statics

pub later_same : (w : W) → Later w w
later_same w = record { found = λ h. h; more = []; locals = sym (append-nil w.locals); statics = statics_same w.statics }

pub later : (w v u : W) → Later w v → Later v u → Later w u
later w v u a b = record {
  found = λ h. a.found (b.found h);
  more = a.more ++ b.more;
  locals = b.locals ∙ (ap (λ (l : List LocalTree). l ++ b.more) a.locals ∙ append_assoc w.locals a.more b.more);
  statics = statics_later w.statics v.statics u.statics a.statics b.statics;
}

pub later_failing : (fs : List Failure) (w : W) → Later w (failing noted fs w)
later_failing fs w = record { found = λ h. (none_found w.found fs h).0; more = []; locals = sym (append-nil w.locals); statics = statics_same w.statics }

pub later_value : (e : ExpressionTree) (w : W) → Later w (after_value declarations.noting e w)
later_value e w = record { found = λ h. (none_found w.found (used_failures (here w) e) h).0; more = []; locals = sym (append-nil w.locals); statics = statics_same w.statics }

pub later_effect : (e : ExpressionTree) (w : W) → Later w (after_effect declarations.noting e w)
later_effect e w = record { found = λ h. (none_found w.found (failures (here w) e) h).0; more = []; locals = sym (append-nil w.locals); statics = statics_same w.statics }

pub later_values : (es : ExpressionTrees) (w : W) → Later w (after_values declarations.noting es w)
later_values es w = record { found = λ h. (none_found w.found (failures_used (here w) es) h).0; more = []; locals = sym (append-nil w.locals); statics = statics_same w.statics }

-- these calls are noted between them, and so many objects are declared
pub record Steps (w v : W) (ns : List Numbered) (k : ℕ) : Type 0 where
  pub sites : List CallSite
  pub calls : v.calls ≡ w.calls ++ sites
  pub listed : ns ≡ numbered (length w.calls) sites
  pub objects : length v.locals ≡ length w.locals + k

pub steps_none : (w v : W) → v.calls ≡ w.calls → v.locals ≡ w.locals → Steps w v [] 0
steps_none w v c l = record { sites = []; calls = c ∙ sym (append-nil w.calls); listed = refl; objects = ap length l ∙ sym (add-zero (length w.locals)) }

pub steps : (w v u : W) (ns ms : List Numbered) (k l : ℕ) → Steps w v ns k → Steps v u ms l → Steps w u (ns ++ ms) (k + l)
steps w v u ns ms k l a b =
    let at : length v.calls ≡ length w.calls + length a.sites = ap length a.calls ∙ length-append w.calls a.sites in
    record {
      sites = a.sites ++ b.sites;
      calls = b.calls ∙ (ap (λ (c : List CallSite). c ++ b.sites) a.calls ∙ append_assoc w.calls a.sites b.sites);
      listed = simp (a.listed, b.listed, at, numbered_append);
      objects = b.objects ∙ (ap (λ (n : ℕ). n + l) a.objects ∙ add_assoc (length w.locals) k l);
    }

pub steps_as : (w v : W) (ns ms : List Numbered) (k l : ℕ) → Steps w v ns k → ms ≡ ns → l ≡ k → Steps w v ms l
steps_as w v ns ms k l s is many = record { sites = s.sites; calls = s.calls; listed = is ∙ s.listed; objects = s.objects ∙ ap (λ (n : ℕ). length w.locals + n) (sym many) }

-- ---- expressions

abbrev pub ValuePart : Around → (w v : W) → Option ValueTree → Type 0
ValuePart a w v None = Unit {0}
ValuePart a w v (Some e) = IsValue a e × Steps w v (calls_in e) 0

abbrev pub EffectPart : Around → (w v : W) → Option EffectTree → Type 0
EffectPart a w v None = Unit {0}
EffectPart a w v (Some e) = IsEffect a e × Steps w v (calls_in_effect e) 0

abbrev pub ValuesPart : Around → (w v : W) → ℕ → Option ValueTrees → Type 0
ValuesPart a w v n None = Unit {0}
ValuesPart a w v n (Some es) = AreValues a es × Steps w v (calls_in_values es) 0 × (good.count es ≡ n)

added : (w v : W) (cs : List CallSite) (ns : List Numbered) → v.calls ≡ w.calls ++ cs → v.locals ≡ w.locals → ns ≡ numbered (length w.calls) cs → Steps w v ns 0
added w v cs ns c l is = record { sites = cs; calls = c; listed = is; objects = ap length l ∙ sym (add-zero (length w.locals)) }

of_value : (a : Around) (w v : W) (cs : List CallSite) (o : Option ValueTree) → v.calls ≡ w.calls ++ cs → v.locals ≡ w.locals → GoodValue a (numbered (length w.calls) cs) o → ValuePart a w v o
of_value a w v cs None c l g = tt
of_value a w v cs (Some e) c l g = (g.0, added w v cs (calls_in e) c l g.1)

of_effect : (a : Around) (w v : W) (cs : List CallSite) (o : Option EffectTree) → v.calls ≡ w.calls ++ cs → v.locals ≡ w.locals → GoodEffect a (numbered (length w.calls) cs) o → EffectPart a w v o
of_effect a w v cs None c l g = tt
of_effect a w v cs (Some e) c l g = (g.0, added w v cs (calls_in_effect e) c l g.1)

of_values : (a : Around) (w v : W) (cs : List CallSite) (n : ℕ) (o : Option ValueTrees) → v.calls ≡ w.calls ++ cs → v.locals ≡ w.locals → GoodValues a (numbered (length w.calls) cs) n o → ValuesPart a w v n o
of_values a w v cs n None c l g = tt
of_values a w v cs n (Some e) c l g = (g.0, added w v cs (calls_in_values e) c l g.1, g.2)

pub value_part : (a : Around) (w : W) (e : ExpressionTree) → NamesAre a (here w) → HasConstants e → (after_value declarations.noting e w).found ≡ None → ValuePart a w (after_value declarations.noting e w) (value_at w e)
value_part a w e n k h =
    let d = here w in
    let f : failures d e ≡ [] = none_before (failures d e) (void d e) (none_found w.found (used_failures d e) h).1 in
    of_value a w (after_value declarations.noting e w) (calls d e) (value_at w e) refl refl
    (good_value a (numbered (length w.calls) (calls d e)) (typed d (length w.calls) e) (expressions a d n (length w.calls) e k f))

pub effect_part : (a : Around) (w : W) (e : ExpressionTree) → NamesAre a (here w) → HasConstants e → (after_effect declarations.noting e w).found ≡ None → EffectPart a w (after_effect declarations.noting e w) (effect_at w e)
effect_part a w e n k h =
    let d = here w in
    of_effect a w (after_effect declarations.noting e w) (calls d e) (effect_at w e) refl refl
    (good_effect a (numbered (length w.calls) (calls d e)) (typed d (length w.calls) e) (expressions a d n (length w.calls) e k (none_found w.found (failures d e) h).1))

pub values_part : (a : Around) (w : W) (es : ExpressionTrees) → NamesAre a (here w) → HaveConstants es → (after_values declarations.noting es w).found ≡ None → ValuesPart a w (after_values declarations.noting es w) (count es) (values_at w es)
values_part a w es n k h =
    let d = here w in
    of_values a w (after_values declarations.noting es w) (calls_in_all d es) (count es) (values_at w es) refl refl
    (all_expressions a d n (length w.calls) es k (none_found w.found (failures_used d es) h).1)
