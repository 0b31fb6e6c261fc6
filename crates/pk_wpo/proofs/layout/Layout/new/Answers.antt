use Rattle.std.proofs.Common.{◌≡◌, ◌+◌, ◌++◌, ◌∷◌, [], ℕ, Bool, List, length, get_or, map, ap, sym, arith, ◌∙◌}
use Rattle.std.specs.List.{range_with_len}
use Rattle.pk_wpo.specs.Constraints.{is_head, exit_of}
use Rattle.pk_wpo.specs.Layouts.{elements_of}
use Rattle.pk_wpo.proofs.LaidOut.{heads_of_nest, tests_long, exits_are, exits_long, elements_are, homes_are, whole_few, whole_within, whole_once}
use Rattle.pk_wpo.proofs.layout.Layout.new.Goals as goal

pub heads-requires : goal.heads-requires
heads-requires c = heads_of_nest c.args.graph.now c.args.nest.now c.vertices-vertices.result (omega (arith, c.vertices-vertices.ensures)) c.requires.nest

pub exits-requires : goal.exits-requires
exits-requires c =
    let long = tests_long c.args.graph.now c.args.nest.now c.vertices-vertices.result c.in_ok-heads.heads.items c.vertices-vertices.ensures c.in_ok-heads.ensures in
    let read = ap (λ (xs : List Bool). length xs) c.deref.ensures.value in
    omega (arith, long, read, c.requires.few)

pub walked-requires : goal.walked-requires
walked-requires c =
    let g = c.args.graph.now in
    let are : c.in_ok-exits.exits.items ≡ map (exit_of g c.args.nest.now) (range_with_len 0 (length g + 1)) =
    exits_are g c.args.nest.now c.vertices-vertices.result c.deref.result.now c.in_ok-exits.exits.items c.vertices-vertices.ensures (c.deref.ensures.value ∙ c.in_ok-heads.ensures) c.in_ok-exits.ensures in
    let long = exits_long g c.args.nest.now c.deref-2.result.now (c.deref-2.ensures.value ∙ are) in
    heads_of_nest g c.args.nest.now (length c.deref-2.result.now) (omega (arith, long)) c.requires.nest

pub index-requires : goal.index-requires
index-requires c =
    let g = c.args.graph.now in
    let are : c.in_ok-exits.exits.items ≡ map (exit_of g c.args.nest.now) (range_with_len 0 (length g + 1)) =
    exits_are g c.args.nest.now c.vertices-vertices.result c.deref.result.now c.in_ok-exits.exits.items c.vertices-vertices.ensures (c.deref.ensures.value ∙ c.in_ok-heads.ensures) c.in_ok-exits.ensures in
    let long = exits_long g c.args.nest.now c.in_ok-exits.exits.items are in
    omega (arith, long, c.vertices-vertices.ensures)

pub places-requires-clause-few : goal.places-requires-clause-few
places-requires-clause-few c =
    let g = c.args.graph.now in
    let items = c.args.nest.now in
    let are : c.in_ok-exits.exits.items ≡ map (exit_of g items) (range_with_len 0 (length g + 1)) =
    exits_are g items c.vertices-vertices.result c.deref.result.now c.in_ok-exits.exits.items c.vertices-vertices.ensures (c.deref.ensures.value ∙ c.in_ok-heads.ensures) c.in_ok-exits.ensures in
    let whole : c.deref-3.result.now ≡ elements_of (exit_of g items) items ++ exit_of g items (length g) ∷ [] =
    c.deref-3.ensures.value
    ∙ elements_are g items c.vertices-vertices.result c.index.result.now c.deref-2.result.now c.in_ok-elements.field-0.elements.items c.push.new.self.items c.vertices-vertices.ensures c.requires.nest (c.deref-2.ensures.value ∙ are)
    c.in_ok-elements.ensures.elements (c.index.ensures ∙ ap (λ (xs : List ℕ). get_or xs c.vertices-vertices.result c.index.result.now) (sym c.deref-2.ensures.value)) c.in_ok-push.ensures.items in
    whole_few g items c.deref-3.result.now c.requires.few c.requires.nest whole

pub places-requires-clause-within : goal.places-requires-clause-within
places-requires-clause-within c =
    let g = c.args.graph.now in
    let items = c.args.nest.now in
    let are : c.in_ok-exits.exits.items ≡ map (exit_of g items) (range_with_len 0 (length g + 1)) =
    exits_are g items c.vertices-vertices.result c.deref.result.now c.in_ok-exits.exits.items c.vertices-vertices.ensures (c.deref.ensures.value ∙ c.in_ok-heads.ensures) c.in_ok-exits.ensures in
    let whole : c.deref-3.result.now ≡ elements_of (exit_of g items) items ++ exit_of g items (length g) ∷ [] =
    c.deref-3.ensures.value
    ∙ elements_are g items c.vertices-vertices.result c.index.result.now c.deref-2.result.now c.in_ok-elements.field-0.elements.items c.push.new.self.items c.vertices-vertices.ensures c.requires.nest (c.deref-2.ensures.value ∙ are)
    c.in_ok-elements.ensures.elements (c.index.ensures ∙ ap (λ (xs : List ℕ). get_or xs c.vertices-vertices.result c.index.result.now) (sym c.deref-2.ensures.value)) c.in_ok-push.ensures.items in
    whole_within g items c.deref-3.result.now c.requires.nest whole

pub places-requires-clause-once : goal.places-requires-clause-once
places-requires-clause-once c =
    let g = c.args.graph.now in
    let items = c.args.nest.now in
    let are : c.in_ok-exits.exits.items ≡ map (exit_of g items) (range_with_len 0 (length g + 1)) =
    exits_are g items c.vertices-vertices.result c.deref.result.now c.in_ok-exits.exits.items c.vertices-vertices.ensures (c.deref.ensures.value ∙ c.in_ok-heads.ensures) c.in_ok-exits.ensures in
    let whole : c.deref-3.result.now ≡ elements_of (exit_of g items) items ++ exit_of g items (length g) ∷ [] =
    c.deref-3.ensures.value
    ∙ elements_are g items c.vertices-vertices.result c.index.result.now c.deref-2.result.now c.in_ok-elements.field-0.elements.items c.push.new.self.items c.vertices-vertices.ensures c.requires.nest (c.deref-2.ensures.value ∙ are)
    c.in_ok-elements.ensures.elements (c.index.ensures ∙ ap (λ (xs : List ℕ). get_or xs c.vertices-vertices.result c.index.result.now) (sym c.deref-2.ensures.value)) c.in_ok-push.ensures.items in
    whole_once g items c.deref-3.result.now c.requires.nest whole

pub invariant_of-result : goal.invariant_of-result
invariant_of-result c =
    let g = c.args.graph.now in
    let items = c.args.nest.now in
    let are : c.in_ok-exits.exits.items ≡ map (exit_of g items) (range_with_len 0 (length g + 1)) =
    exits_are g items c.vertices-vertices.result c.deref.result.now c.in_ok-exits.exits.items c.vertices-vertices.ensures (c.deref.ensures.value ∙ c.in_ok-heads.ensures) c.in_ok-exits.ensures in
    record {
      laid = record {
        closed = c.requires.closed;
        few = c.requires.few;
        nest = c.requires.nest;
        elements = elements_are g items c.vertices-vertices.result c.index.result.now c.deref-2.result.now c.in_ok-elements.field-0.elements.items c.push.new.self.items c.vertices-vertices.ensures c.requires.nest (c.deref-2.ensures.value ∙ are)
            c.in_ok-elements.ensures.elements (c.index.ensures ∙ ap (λ (xs : List ℕ). get_or xs c.vertices-vertices.result c.index.result.now) (sym c.deref-2.ensures.value)) c.in_ok-push.ensures.items;
        placed = c.in_ok-places.ensures.as_many ∙ ap (λ (xs : List ℕ). length xs) c.deref-3.ensures.value;
        place = λ k below.
            ap (λ (xs : List ℕ). get_or c.in_ok-places.places.items (get_or xs k 0) 0) (sym c.deref-3.ensures.value)
            ∙ c.in_ok-places.ensures.place k (let same = ap (λ (xs : List ℕ). length xs) c.deref-3.ensures.value in omega (arith, below, same));
      };
      heads = c.in_ok-heads.ensures ∙ ap (λ (n : ℕ). map (is_head items) (range_with_len 0 n)) c.vertices-vertices.ensures;
      exits = are;
      homes = homes_are items c.in_ok-elements.field-0.homes.items c.push-2.new.self.items c.in_ok-elements.ensures.homes c.in_ok-push-2.ensures.items;
    }
