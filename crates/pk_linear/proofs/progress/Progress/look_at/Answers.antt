use Rattle.std.proofs.Common.{◌≡◌, ◌<◌, ◌++◌, [], ◌∷◌, ℕ, Bool, false, List, Vec, Global, Option, IfSome, IfNone, get_or, arith, sym, ap, subst, ◌∙◌}
use Rattle.std.proofs.lemmas.List.{get_or-map}
use Rattle.pk_plan.proofs.PlanLemmas.{constrains_from}
use Rattle.pk_plan.specs.Digraphs.{lists_of}
use Rattle.pk_linear.specs.Waits.{WaitsFor, WaitsNoMore, IsReadTo}
use Rattle.pk_linear.proofs.LookLemmas.{looked_waiting, looked_ready}
use Rattle.pk_linear.proofs.progress.Progress.look_at.Goals as goal

pub index_mut-requires-in-Some : goal.index_mut-requires-in-Some
index_mut-requires-in-Some c =
    let waits = subst (λ (o : Option ℕ). IfSome o (WaitsFor c.args.plan.now c.deref.result.now c.args.item)) c.in-Some.is c.next_wait-wait.ensures.waits in
    let below = constrains_from c.args.plan.now c.in-Some.element waits.0 c.axioms.ensures.axioms waits.1 in
    omega (arith, below, c.requires.waiting)

pub returns-in_ok-push-in-Some : goal.returns-in_ok-push-in-Some
returns-in_ok-push-in-Some c =
    let p = c.args.plan.now in
    let s = c.args.self.now in
    let a = c.in-Some.element in
    let reads : IsReadTo p s.placed.items c.args.item c.next_wait-wait.result.0 = subst (λ (xs : List Bool). IsReadTo p xs c.args.item c.next_wait-wait.result.0) c.deref-2.ensures.value c.next_wait-wait.ensures.reading in
    let waits' = subst (λ (o : Option ℕ). IfSome o (WaitsFor p c.deref.result.now c.args.item)) c.in-Some.is c.next_wait-wait.ensures.waits in
    let waits : WaitsFor p s.lasts.items c.args.item a = subst (λ (xs : List ℕ). WaitsFor p xs c.args.item a) c.deref.ensures.value waits' in
    let unplaced' = subst (λ (o : Option ℕ). IfSome o (λ x. get_or c.deref-2.result.now x false ≡ false)) c.in-Some.is c.next_wait-wait.ensures.unplaced in
    let unplaced : get_or s.placed.items a false ≡ false = subst (λ (xs : List Bool). get_or xs a false ≡ false) c.deref-2.ensures.value unplaced' in
    let below : a < p.elements = constrains_from p a waits.0 c.axioms.ensures.axioms waits.1 in
    let old : Vec ℕ Global = c.index_mut-in-Some.result.now in
    let is : old.items ≡ get_or (lists_of s.waiting.items) a [] =
    ap (λ (v : Vec ℕ Global). v.items) c.index_mut-in-Some.ensures.value
    ∙ sym (get_or-map (λ (v : Vec ℕ Global). v.items) s.waiting.items a old [] (omega (arith, below, c.requires.waiting))) in
    looked_waiting p s c.args.item a c.next_wait-wait.result.0 c.push.new.self c.requires.readings c.requires.waiting c.requires.item below reads waits unplaced
    (c.in_ok-push-in-Some.ensures.items ∙ ap (λ (xs : List ℕ). xs ++ c.args.item ∷ []) is)

pub returns-in_ok-insert-in-None : goal.returns-in_ok-insert-in-None
returns-in_ok-insert-in-None c =
    let p = c.args.plan.now in
    let s = c.args.self.now in
    let reads : IsReadTo p s.placed.items c.args.item c.next_wait-wait.result.0 = subst (λ (xs : List Bool). IsReadTo p xs c.args.item c.next_wait-wait.result.0) c.deref-2.ensures.value c.next_wait-wait.ensures.reading in
    let free' = subst (λ (o : Option ℕ). IfNone o (WaitsNoMore p c.deref.result.now c.deref-2.result.now c.args.item)) c.in-None.is c.next_wait-wait.ensures.ready in
    let free : WaitsNoMore p s.lasts.items s.placed.items c.args.item =
    subst (λ (xs : List ℕ). WaitsNoMore p xs s.placed.items c.args.item) c.deref.ensures.value (subst (λ (xs : List Bool). WaitsNoMore p c.deref.result.now xs c.args.item) c.deref-2.ensures.value free') in
    looked_ready p s c.args.item c.next_wait-wait.result.0 c.insert.new.self c.requires.readings c.requires.item reads free c.in_ok-insert-in-None.ensures.keys
