-- Calls that stand in a body in order have their numbers in its list.
use Rattle.std.proofs.Common.{◌≡◌, ℕ, ◌+◌, zero, suc, List, [], ◌∷◌, ◌++◌, Option, Some, None, refl, ap, sym, subst, ◌∙◌, arith}
use Rattle.std.proofs.lemmas.Option.{slice_get_within}
use Rattle.std.proofs.lemmas.Bool.{false≢true}
use Rattle.std.specs.Prelude.{slice_get, unwrap_or, slice_index_or, IsSome}
use Rattle.std.specs.Option.{option_map, option_and_then}
use Rattle.std.proofs.lemmas.Option.{get_or_from_slice_get}
use Rattle.pk_typed.specs.declared.units.CallSite.{CallSite}
use Rattle.pk_typed.specs.Trees as tree
use Rattle.pk_typed.specs.Trees.{PlaceTree, ValueTree, EffectTree, ValueTrees, DeclaredTree, ForStartTree, StatementTree, ItemTrees, BodyTree, FunctionTree, UnitTree}
use Rattle.pk_calls.specs.Calls as calls
use Rattle.pk_calls.specs.Calls.{HasBody, calls_of}
use Rattle.pk_lower.specs.Parts.{body_at}
use Rattle.pk_lower_laws.specs.Parts.Called.{OfCalls, AtPlace, AtValue, AtEffect, AtValues, AtValueIf, AtValuesIf, AtEffectIf, AtDeclared, AtAllDeclared, AtStart, AtStatement, AtItems}
use Rattle.pk_lower_laws.specs.Parts.Listed.{IsCallOf}
use Rattle.pk_welltyped.specs.Listed.{Numbered, numbered, calls_at_place, calls_in, calls_in_effect, calls_in_values, calls_if, calls_in_values_if, calls_in_effect_if, calls_in_declared, calls_in_all_declared, calls_at_start, calls_in_statement, calls_in_items}
use Rattle.pk_welltyped.specs.WellTyped.{IsUnit, IsBody, IsBodyIf}
use Rattle.pk_lower_laws.specs.Drafts.Noted.{WellTypedCallsAreNoted}
use Rattle.pk_typed.specs.Defaults.{no_body}

abbrev pub Each : OfCalls → List Numbered → Type 0
Each P [] = Unit {0}
Each P (x ∷ xs) = P x.call.function x.number × Each P xs

pub each_first : (P : OfCalls) (xs ys : List Numbered) → Each P (xs ++ ys) → Each P xs
each_first P [] ys h = tt
each_first P (x ∷ xs) ys h = (h.0, each_first P xs ys h.1)

pub each_second : (P : OfCalls) (xs ys : List Numbered) → Each P (xs ++ ys) → Each P ys
each_second P [] ys h = h
each_second P (x ∷ xs) ys h = each_second P xs ys h.1

mutual
  unfolding AtPlace AtValue AtEffect AtValues calls_at_place calls_in calls_in_effect calls_in_values

  place : (P : OfCalls) (p : PlaceTree) → Each P (calls_at_place p) → AtPlace P p
  place P (tree.scalar t x) h = tt
  place P (tree.element t x o i) h = value P i h

  value : (P : OfCalls) (v : ValueTree) → Each P (calls_in v) → AtValue P v
  value P (tree.constant t z) h = tt
  value P (tree.read r) h = place P r h
  value P (tree.assign o r a) h = (place P r (each_first P (calls_at_place r) (calls_in a) h), value P a (each_second P (calls_at_place r) (calls_in a) h))
  value P (tree.update op o t r a) h = (place P r (each_first P (calls_at_place r) (calls_in a) h), value P a (each_second P (calls_at_place r) (calls_in a) h))
  value P (tree.step op o t r prefix) h = place P r h
  value P (tree.call t f n o xs) h = (h.0, values P xs h.1)
  value P (tree.any t o) h = tt
  value P (tree.unary op o t a) h = value P a h
  value P (tree.convert t a) h = value P a h
  value P (tree.binary op o t a b) h = (value P a (each_first P (calls_in a) (calls_in b) h), value P b (each_second P (calls_in a) (calls_in b) h))
  value P (tree.and a b) h = (value P a (each_first P (calls_in a) (calls_in b) h), value P b (each_second P (calls_in a) (calls_in b) h))
  value P (tree.or a b) h = (value P a (each_first P (calls_in a) (calls_in b) h), value P b (each_second P (calls_in a) (calls_in b) h))
  value P (tree.conditional t w a b) h =
      let k = each_first P (calls_in w ++ calls_in a) (calls_in b) h in
      (value P w (each_first P (calls_in w) (calls_in a) k), value P a (each_second P (calls_in w) (calls_in a) k), value P b (each_second P (calls_in w ++ calls_in a) (calls_in b) h))
  value P (tree.then_value f v) h = (effect P f (each_first P (calls_in_effect f) (calls_in v) h), value P v (each_second P (calls_in_effect f) (calls_in v) h))

  effect : (P : OfCalls) (e : EffectTree) → Each P (calls_in_effect e) → AtEffect P e
  effect P (tree.unused v) h = value P v h
  effect P (tree.run f n o xs) h = (h.0, values P xs h.1)
  effect P (tree.assume o v) h = value P v h
  effect P (tree.assert o v) h = value P v h
  effect P (tree.abort o) h = tt
  effect P (tree.then_effect a b) h = (effect P a (each_first P (calls_in_effect a) (calls_in_effect b) h), effect P b (each_second P (calls_in_effect a) (calls_in_effect b) h))

  values : (P : OfCalls) (xs : ValueTrees) → Each P (calls_in_values xs) → AtValues P xs
  values P tree.no_values h = tt
  values P (tree.value_before a xs) h = (value P a (each_first P (calls_in a) (calls_in_values xs) h), values P xs (each_second P (calls_in a) (calls_in_values xs) h))

value_if : (P : OfCalls) (a : Option ValueTree) → Each P (calls_if a) → AtValueIf P a
value_if P None h = tt
value_if P (Some a) h = value P a h

values_if : (P : OfCalls) (a : Option ValueTrees) → Each P (calls_in_values_if a) → AtValuesIf P a
values_if P None h = tt
values_if P (Some a) h = values P a h

effect_if : (P : OfCalls) (a : Option EffectTree) → Each P (calls_in_effect_if a) → AtEffectIf P a
effect_if P None h = tt
effect_if P (Some a) h = effect P a h

declared : (P : OfCalls) (d : DeclaredTree) → Each P (calls_in_declared d) → AtDeclared P d
declared P (tree.scalar_object i o e) h = value_if P e h
declared P (tree.array_object i o es) h = values_if P es h
declared P (tree.static_object i o) h = tt
declared P (tree.hiding_constant x o) h = tt

all_declared : (P : OfCalls) (ds : List DeclaredTree) → Each P (calls_in_all_declared ds) → AtAllDeclared P ds
all_declared P [] h = tt
all_declared P (d ∷ ds) h = (declared P d (each_first P (calls_in_declared d) (calls_in_all_declared ds) h), all_declared P ds (each_second P (calls_in_declared d) (calls_in_all_declared ds) h))

start : (P : OfCalls) (s : ForStartTree) → Each P (calls_at_start s) → AtStart P s
start P (tree.declarations ds) h = all_declared P ds h
start P (tree.expression e) h = effect_if P e h

mutual
  unfolding AtStatement AtItems calls_in_statement calls_in_items

  statement : (P : OfCalls) (s : StatementTree) → Each P (calls_in_statement s) → AtStatement P s
  statement P (tree.block o is) h = items P is h
  statement P (tree.empty o) h = tt
  statement P (tree.effect o e) h = effect P e h
  statement P (tree.label o l s) h = statement P s h
  statement P (tree.case o i s) h = statement P s h
  statement P (tree.default o s) h = statement P s h
  statement P (tree.if_then o c s) h = (value P c (each_first P (calls_in c) (calls_in_statement s) h), statement P s (each_second P (calls_in c) (calls_in_statement s) h))
  statement P (tree.if_else o c s r) h =
      let k = each_first P (calls_in c ++ calls_in_statement s) (calls_in_statement r) h in
      (value P c (each_first P (calls_in c) (calls_in_statement s) k), statement P s (each_second P (calls_in c) (calls_in_statement s) k), statement P r (each_second P (calls_in c ++ calls_in_statement s) (calls_in_statement r) h))
  statement P (tree.switch o t e zs b s) h = (value P e (each_first P (calls_in e) (calls_in_statement s) h), statement P s (each_second P (calls_in e) (calls_in_statement s) h))
  statement P (tree.while o c s) h = (value P c (each_first P (calls_in c) (calls_in_statement s) h), statement P s (each_second P (calls_in c) (calls_in_statement s) h))
  statement P (tree.do_while o s c) h = (statement P s (each_first P (calls_in_statement s) (calls_in c) h), value P c (each_second P (calls_in_statement s) (calls_in c) h))
  statement P (tree.for_loop o a c e s) h =
      let k = each_first P (calls_at_start a ++ calls_if c ++ calls_in_effect_if e) (calls_in_statement s) h in
      let l = each_first P (calls_at_start a ++ calls_if c) (calls_in_effect_if e) k in (
        start P a (each_first P (calls_at_start a) (calls_if c) l),
        value_if P c (each_second P (calls_at_start a) (calls_if c) l),
        effect_if P e (each_second P (calls_at_start a ++ calls_if c) (calls_in_effect_if e) k),
        statement P s (each_second P (calls_at_start a ++ calls_if c ++ calls_in_effect_if e) (calls_in_statement s) h),
      )
  statement P (tree.goto o l) h = tt
  statement P (tree.continue o) h = tt
  statement P (tree.break o) h = tt
  statement P (tree.return o e) h = value_if P e h

  pub items : (P : OfCalls) (is : ItemTrees) → Each P (calls_in_items is) → AtItems P is
  items P tree.no_items h = tt
  items P (tree.declared_before d is) h = (declared P d (each_first P (calls_in_declared d) (calls_in_items is) h), items P is (each_second P (calls_in_declared d) (calls_in_items is) h))
  items P (tree.statement_before s is) h = (statement P s (each_first P (calls_in_statement s) (calls_in_items is) h), items P is (each_second P (calls_in_statement s) (calls_in_items is) h))

-- ---- the calls of a list

noted_from : (P : OfCalls) (n : ℕ) (cs : List CallSite) → ((i : ℕ) (c : CallSite) → slice_get cs i ≡ Some c → P c.function (n + i)) → Each P (numbered n cs)
noted_from P n [] h = tt
noted_from P n (c ∷ cs) h =
    let same : (i : ℕ) → n + 1 + i ≡ n + suc i = λ i. omega arith in
    let at : n + zero ≡ n = omega arith in
    (subst (P c.function) at (h zero c refl), noted_from P (n + 1) cs (λ i d e. subst (P d.function) (sym (same i)) (h (suc i) d e)))

-- ---- the unit

of_body : (u : UnitTree) (f : ℕ) (b : BodyTree) → calls_of u f ≡ b.calls → calls_in_items b.items ≡ numbered 0 b.calls → AtItems (IsCallOf u f) b.items
of_body u f b c h =
    items (IsCallOf u f) b.items (subst (Each (IsCallOf u f)) (sym h)
    (noted_from (IsCallOf u f) 0 b.calls (λ i d e. let at : 0 + i ≡ i = omega arith in (d, ap (slice_get (calls_of u f)) at ∙ (ap (λ (l : List CallSite). slice_get l i) c ∙ e), refl))))

-- a function's body is well typed
pub body_is : (u : UnitTree) (f : ℕ) (g : FunctionTree) (b : BodyTree) → IsUnit u → slice_get u.functions f ≡ Some g → g.body ≡ Some b → IsBody u g b
body_is u f g b h is has =
    let at : slice_index_or u.functions f g ≡ g = get_or_from_slice_get u.functions f g g is in
    let k : IsBodyIf u g g.body = subst (λ (x : FunctionTree). IsBodyIf u x x.body) at (h.functions f g (slice_get_within u.functions f g is)) in
    subst (IsBodyIf u g) has k

-- a function that has a body
pub record Bodied (u : UnitTree) (f : ℕ) : Type 0 where
  pub function : FunctionTree
  pub body : BodyTree
  pub there : slice_get u.functions f ≡ Some function
  pub has : function.body ≡ Some body
  pub body_of : calls.body_of u f ≡ Some body

pub bodied : (u : UnitTree) (f : ℕ) → HasBody u f → Bodied u f
unfolding calls.body_of
bodied u f has = of_function (slice_get u.functions f) refl has
  where
    of_body : (g : FunctionTree) → slice_get u.functions f ≡ Some g → (o : Option BodyTree) → g.body ≡ o → IsSome o → Bodied u f
    of_body g is None e h = absurd (false≢true h)
    of_body g is (Some b) e h = record { function = g; body = b; there = is; has = e; body_of = ap (option_and_then (λ (x : FunctionTree). x.body)) is ∙ e }

    of_function : (o : Option FunctionTree) → slice_get u.functions f ≡ o → IsSome (option_and_then (λ (x : FunctionTree). x.body) o) → Bodied u f
    of_function None is h = absurd (false≢true h)
    of_function (Some g) is h = of_body g is g.body refl h

pub calls_are_noted : WellTypedCallsAreNoted
unfolding calls_of
calls_are_noted u h f has =
    let k = bodied u f has in
    let b = body_is u f k.function k.body h k.there k.has in
    let same : body_at u f ≡ k.body = ap (λ (o : Option BodyTree). unwrap_or o no_body) k.body_of in
    subst (λ (x : BodyTree). AtItems (IsCallOf u f) x.items) (sym same)
    (of_body u f k.body (ap (λ (o : Option BodyTree). unwrap_or (option_map (λ (x : BodyTree). x.calls) o) []) k.body_of) b.calls)
