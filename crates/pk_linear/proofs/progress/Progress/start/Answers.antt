use Rattle.std.proofs.Common.{◌≡◌, ℕ, [], ◌∷◌, ◌++◌, List, Vec, Global, Bool, false, replicate, length, get_or, arith, sym, ap, ◌∙◌}
use Rattle.std.proofs.lemmas.List.{length_push, length-replicate}
use Rattle.pk_plan.specs.Plans.{place_of}
use Rattle.pk_plan.specs.Digraphs.{lists_of}
use Rattle.pk_linear.specs.declared.waits.Reading.{Reading}
use Rattle.pk_linear.proofs.KnownLemmas.{started, empties_push, readings_push, none_marked}
use Rattle.pk_linear.proofs.progress.Progress.start.Goals as goal

pub loop-element-preserved : goal.loop-element-preserved
loop-element-preserved c =
    let p = c.args.plan.now in
    let none : Reading = record { place = 0; read = 0 } in
    let f : ℕ → Reading = λ k. record { place = place_of p k; read = 0 } in
    let readings : List Reading = c.loop-element.readings.items in
    let before = c.loop-element.invariant in
    let pushed : c.push.new.self.items ≡ readings ++ f (length readings) ∷ [] =
    c.in_ok-push.ensures.items ∙ ap (λ (n : ℕ). readings ++ record { place = n; read = 0 } ∷ []) (c.place.ensures ∙ ap (place_of p) (sym before.0)) in
    let long = length_push readings (f (length readings)) in
    let long' = length_push c.loop-element.waiting.items c.new.result in (
      ap (λ (xs : List Reading). length xs) pushed ∙ omega (arith, long, before.0),
      (λ k less. ap (λ (xs : List Reading). get_or xs k none) pushed ∙ readings_push f readings none (λ j in_range. before.1 j (omega (arith, in_range, before.0))) k (omega (arith, less, before.0))),
      ap (λ (xs : List (Vec ℕ Global)). length xs) c.in_ok-push-2.ensures.items ∙ omega (arith, long', before.2),
      (λ k. ap (λ (xs : List (Vec ℕ Global)). get_or (lists_of xs) k []) c.in_ok-push-2.ensures.items ∙ empties_push c.loop-element.waiting.items c.new.result k c.new.ensures.items (before.3 k)),
    )

pub returns-clause-known : goal.returns-clause-known
returns-clause-known c =
    let p = c.args.plan.now in
    let n = c.elements-elements.result in
    let all : c.loop-element.element ≡ p.elements =
    (let upto = c.loop-element.auto.element-end in let elements = c.elements-elements.ensures in omega (arith, upto, elements, c.loop-element-test.false)) in
    let before = c.loop-element.invariant in
    let filled : c.in_ok-vec.field-0.items ≡ replicate n false = c.in_ok-vec.ensures.items_if_clones_equal (λ y same. same) in
    started p (record {
      lasts = c.in_ok-last_places.field-0;
      placed = c.in_ok-vec.field-0;
      readings = c.loop-element.readings;
      waiting = c.loop-element.waiting;
      ready = c.new-2.result;
      opened = c.new-3.result;
      places = c.new-4.result;
    }) c.in_ok-last_places.ensures
    (ap (λ (xs : List Bool). length xs) filled ∙ length-replicate n false ∙ c.elements-elements.ensures)
    (λ e. ap (λ (xs : List Bool). get_or xs e false) filled ∙ none_marked n e)
    (before.0 ∙ all)
    (λ e within. before.1 e (omega (arith, within, all)))
    (before.2 ∙ all) before.3 c.new-2.ensures.empty c.new-3.ensures.items c.new-4.ensures.items
