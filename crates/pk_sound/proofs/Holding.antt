-- No run leaves a solved family, and so none the result.
use Rattle.std.proofs.Common.{◌≡◌, ◌<◌, inl, inr, ℕ, zero, suc, ap, ◌∙◌, sym, subst, refl, Option, Some, None, Bool, true, false, List, [], ◌∷◌, map, length, slice_index_or, All, Contains, arith}
use Rattle.std.proofs.Math.ListN.{get_or-map}
use Rattle.std.proofs.lemmas.List.{get_or_default, length-map}
use Rattle.std.proofs.lemmas.List.Elements.{All-head, All-tail, All-map}
use Rattle.pk_ctypes.specs.Laws.{ValuesLieInTheirType}
use Rattle.pk_graph.specs.Graphs.{VariableOf, EdgeOf, GraphOf, no_variable, variable_at, no_point, point_at, kinds_of}
use Rattle.pk_graph.specs.Kinds.{Kind, Kinds, kind_at, count_of, count_at}
use Rattle.pk_graph.specs.Trees.{InstrOf}
use Rattle.pk_graph.specs.WellMade.{IsGraph, IsEdgeOf}
use Rattle.pk_graph.specs.Steps.{Numbers, number_at, To, effect}
use Rattle.pk_graph.specs.Stores.{Stored, storing, numbers_of, number_of, IsStore}
use Rattle.pk_value.specs.Known.{IsOf}
use Rattle.pk_linear.proofs.ListLemmas.{contains_none, contains_cases}
use Rattle.pk_value.proofs.Sound.{value_in}
use Rattle.pk_octagons.specs.Values.{known_at}
use Rattle.pk_octagons.proofs.Chosen.{meet_same}
use Rattle.pk_state.specs.Layouts.{Layout, IsLayout, slot_of}
use Rattle.pk_state.specs.Facts.{Facts, AreFactsIf, joined}
use Rattle.pk_state.specs.Members.{Member}
use Rattle.pk_state.specs.Reduced.{reduced}
use Rattle.pk_state.proofs.Held.{facts_stay}
use Rattle.pk_state.proofs.Sound.{states_sound}
use Rattle.pk_graph_step.proofs.KeptLemmas.{steps_keep}
use Rattle.pk_transfer.specs.Slots.{is_small, spread}
use Rattle.pk_transfer.specs.Trees.{IsOver}
use Rattle.pk_transfer.proofs.Slotting.{HasCounts, counts_of, slot_there, slot_large, small_numbers, large_numbers, own_numbers, first_kept}
use Rattle.pk_transfer.specs.Transfers.{transferred}
use Rattle.pk_transfer.proofs.Keeping.{transferred_keeps}
use Rattle.pk_analysis.proofs.Layouting.{layouts_over}
use Rattle.pk_analysis.specs.declared.arrows.Arrow.{Arrow}
use Rattle.pk_analysis.specs.Arrows.{arrows_at, origins, no_edge, instr_of}
use Rattle.pk_analysis.specs.Starts.{start_facts}
use Rattle.pk_sound.specs.Runs.{HasElements, Begins, Reaches, begins, steps}
use Rattle.pk_sound.proofs.Padding.{padded, pad, pad_same, numbers_at, numbers_longer, kind_up, kinds_up, store_up, over_up, step_pad}
use Rattle.pk_sound.proofs.Arrows_at.{IsArrowTo, arrows_to, has_arrow, arrow_over}
use Rattle.pk_sound.proofs.Begun.{start_stays, start_store, start_member}
use Rattle.pk_sound.proofs.Facts_at.{start_at_stays, equation_stays}
use Rattle.pk_sound.proofs.Facts_stay.{transfers_stay}
use Rattle.pk_analysis.specs.Flows.{arrived, start_at}
use Rattle.pk_sound.specs.Results.{known_at_point}
use Rattle.pk_sound.specs.Held.{Agrees, ResultHoldsRuns}
use Rattle.pk_sound.specs.Families.{given_on, IsLaidOut, AreFactsOf, IsSolved, ResultsAreFamilies}
use Rattle.pk_sound.specs.FamilyRuns.{FamiliesHoldRuns}
use Rattle.pk_sound.proofs.Solving.{result_is_solved}

-- an edge of a point
edge_is : (es : List EdgeOf) (e : EdgeOf) (has : Contains es e) → slice_index_or es has.0 no_edge ≡ e
edge_is es e has = get_or_default es has.0 no_edge e has.1 ∙ has.2

module _ (g : GraphOf) (l : Layout) (made : IsGraph g) (lay : IsLayout l) (over : IsOver (kinds_of g) l) (known : ℕ → Option Facts) (facts : (u : ℕ) → u < length g.points → AreFactsIf l (known u)) where
  edge_made : (r : Arrow) → r.from < length g.points → r.edge < length (point_at g r.from).edges → IsEdgeOf g (slice_index_or (point_at g r.from).edges r.edge no_edge)
  edge_made r h k = (made.points r.from no_point h).edges r.edge no_edge k

  -- what is known after an edge
  abbrev passed : Arrow → Option Facts
  passed r = transferred l (known r.from) (instr_of g r)

  passed_stays : (v : ℕ) (r : Arrow) → IsArrowTo g v r → AreFactsIf l (passed r)
  passed_stays v r h = transfers_stay.transferred l (known r.from) (instr_of g r) lay (facts r.from h.point) (arrow_over g l v r made over h)

  -- what was known before has its stores
  arrived_from : (v : ℕ) (s : Stored) (rows : List Arrow) (f : Option Facts) → All (IsArrowTo g v) rows → AreFactsIf l f → Member l f s → Member l (arrived g l rows (map known (origins rows)) f) s
  arrived_from v s [] f h a m = m
  arrived_from v s (r ∷ rows) f h a m =
      let after = passed_stays v r (All-head (IsArrowTo g v) r rows h) in
      arrived_from v s rows (joined f (passed r)) (All-tail (IsArrowTo g v) r rows h) (facts_stay.joins l f (passed r) a after) (states_sound.joins l f (passed r) s a after (inl m))

  -- and so has each edge
  arrived_by : (v : ℕ) (s : Stored) (r : Arrow) (rows : List Arrow) (f : Option Facts) → All (IsArrowTo g v) rows → AreFactsIf l f → Contains rows r → Member l (passed r) s → Member l (arrived g l rows (map known (origins rows)) f) s
  arrived_by v s r [] f h a has m = absurd (contains_none has)
  arrived_by v s r (q ∷ rows) f h a has m =
      let after = passed_stays v q (All-head (IsArrowTo g v) q rows h) in
      let rest = All-tail (IsArrowTo g v) q rows h in
      let stays = facts_stay.joins l f (passed q) a after in
      elim (contains_cases q r rows has) [
        | inl same ↦ arrived_from v s rows (joined f (passed q)) rest stays (states_sound.joins l f (passed q) s a after (inr (subst (λ (w : Arrow). Member l (passed w) s) (sym same) m)))
        | inr later ↦ arrived_by v s r rows (joined f (passed q)) rest stays later m
      ]

  -- a step over an edge
  stepped : (v : ℕ) (s t : Stored) (r : Arrow) (i : InstrOf ℕ) (chosen : Numbers) → instr_of g r ≡ i → IsArrowTo g v r → IsStore (kinds_of g) s → Member l (known r.from) (spread (pad s)) → effect storing chosen i s ≡ To t → Member l (passed r) (spread (pad t))
  stepped v s t r i chosen is h st m e =
      let f = known r.from in
      let a = facts r.from h.point in
      let before = facts_stay.reductions l f lay a in
      let after = transfers_stay.applied l (reduced l f) (instr_of g r) before (arrow_over g l v r made over h) in
      let step = step_pad (kinds_of g) (instr_of g r) chosen s t (edge_made r h.point h.edge).typed st (subst (λ (j : InstrOf ℕ). effect storing chosen j s ≡ To t) (sym is) e) in
      let same = step.same l (reduced l f) in
      let kept = transferred_keeps l f step.instr lay a (subst (AreFactsIf l) (sym same) after) in
      subst (λ (x : Option Facts). Member l (reduced l x) (spread (pad t))) same
      (kept (kinds_up (kinds_of g)) (pad s) (pad t) step.chosen (over_up (kinds_of g) l over) (store_up (kinds_of g) s st) m step.typed step.goes)

pub values_lie : ValuesLieInTheirType
values_lie = λ op t x y z h k e. value_in op t x y z e

-- a store at a point: one of the graph's variables, and, as if arrays without elements had one, of what is known there
pub record IsAt (g : GraphOf) (l : Layout) (known : ℕ → Option Facts) (v : ℕ) (s : Stored) : Type 0 where
  pub point : v < length g.points
  pub store : IsStore (kinds_of g) s
  pub member : Member l (known v) (spread (pad s))

-- the points where these begin
origins_inside : (g : GraphOf) (v : ℕ) → All (λ u. u < length g.points) (origins (arrows_at g v))
origins_inside g v = All-map (λ (u : ℕ). u < length g.points) (λ (r : Arrow). r.from) (arrows_at g v) (λ k d h. (arrows_to g v k d h).point)

-- what the equations give on facts are facts
pub given_stays : (g : GraphOf) (l : Layout) (known : ℕ → Option Facts) → IsLaidOut g l → AreFactsOf g l known → (v : ℕ) → AreFactsIf l (given_on g l known v)
given_stays g l known made facts v =
    equation_stays g l made.graph made.layout made.over v (map known (origins (arrows_at g v)))
    (All-map (AreFactsIf l) known (origins (arrows_at g v)) (λ k d h. facts (slice_index_or (origins (arrows_at g v)) k d) (origins_inside g v k d h)))

module _ (g : GraphOf) (l : Layout) (known : ℕ → Option Facts) (laid_out : IsLaidOut g l) (solved : IsSolved g l known) where
  abbrev made : IsGraph g
  made = laid_out.graph

  abbrev lay : IsLayout l
  lay = laid_out.layout

  abbrev over : IsOver (kinds_of g) l
  over = laid_out.over

  abbrev facts_at : (u : ℕ) → u < length g.points → AreFactsIf l (known u)
  facts_at = solved.facts

  -- what the equation gives has no other stores
  from_given : (v : ℕ) (s : Stored) → v < length g.points → Member l (given_on g l known v) s → Member l (known v) s
  from_given v s h m = states_sound.within l (given_on g l known v) (known v) s (given_stays g l known laid_out solved.facts v) (solved.facts v h) (solved.below v h) m

  begun : (s : Stored) → Begins g s → IsAt g l known 0 s
  begun s b = record {
    point = made.entry;
    store = start_store g l made lay over s b;
    member =
        from_given 0 (spread (pad s)) made.entry
        (arrived_from g l made lay over known facts_at 0 (spread (pad s)) (arrows_at g 0) (Some (start_facts g l)) (arrows_to g 0) (start_stays g l made lay over) (start_member g l made lay over s b));
  }

  gone : (p : ℕ) (s t : Stored) (e : EdgeOf) (chosen : Numbers) → Contains (point_at g p).edges e → effect storing chosen e.instr s ≡ To t → IsAt g l known p s → IsAt g l known e.to t
  gone p s t e chosen has goes at =
      let r : Arrow = record { from = p; edge = has.0 } in
      let is = edge_is (point_at g p).edges e has in
      let edge : IsEdgeOf g e = subst (IsEdgeOf g) is (edge_made g l made lay over known facts_at r at.point has.1) in
      let arrow : IsArrowTo g e.to r = record { point = at.point; edge = has.1; leads = ap (λ (x : EdgeOf). x.to) is } in
      let member = stepped g l made lay over known facts_at e.to s t r e.instr chosen (ap (λ (x : EdgeOf). x.instr) is) arrow at.store at.member goes in
      record {
        point = edge.leads_to_a_point;
        store = steps_keep values_lie (kinds_of g) e.instr chosen s t edge.typed at.store goes;
        member =
            from_given e.to (spread (pad t)) edge.leads_to_a_point
            (arrived_by g l made lay over known facts_at e.to (spread (pad t)) r (arrows_at g e.to) (start_at g l e.to) (arrows_to g e.to) (start_at_stays g l made lay over e.to)
            (has_arrow g e.to p has.0 at.point has.1 (ap (λ (x : EdgeOf). x.to) is)) member);
      }

  pub reached : (v : ℕ) (s : Stored) → Reaches g v s → IsAt g l known v s
  reached v s (begins b) = begun s b
  reached v s (steps {p = p} {s = before} {e = e} chosen earlier has goes) = gone p before s e chosen has goes (reached p before earlier)

-- ---- without the elements that arrays don't have

-- a variable with numbers is one of the store's
some_below : (s : Stored) (x : ℕ) → 0 < length (numbers_of s x) → x < length s
some_below [] x h = absurd (omega (h, arith))
some_below (n ∷ s) zero h = omega arith
some_below (n ∷ s) (suc x) h = let l = some_below s x h in omega (l, arith)

module _ (ks : Kinds) (l : Layout) (f : Facts) (s : Stored) (lay : IsLayout l) (over : IsOver ks l) (st : IsStore ks s) (h : AreFactsIf l (Some f)) (m : Member l (Some f) (spread (pad s))) where
  wide : IsOver (kinds_up ks) l
  wide = over_up ks l over

  counted : HasCounts (kinds_up ks) (pad s)
  counted = counts_of (kinds_up ks) (pad s) (store_up ks s st)

  -- a number of the padded store is one that is known of its slot
  padded_of : (x i : ℕ) → x < length (kinds_up ks) → i < length (numbers_of (pad s) x) → IsOf (known_at f.values (slot_of l x i)) (number_at (numbers_of (pad s) x) i)
  padded_of x i here q = by (is_small (kind_at (kinds_up ks) x).length) refl
    where
      inside : i < count_at (kinds_up ks) x
      inside = omega (arith, q, counted.1 x here)

      there : slot_of l x i < length f.values
      there = omega (arith, slot_there (kinds_up ks) l wide x i here inside, h.values.size)

      by : (b : Bool) → is_small (kind_at (kinds_up ks) x).length ≡ b → IsOf (known_at f.values (slot_of l x i)) (number_at (numbers_of (pad s) x) i)
      by true e =
          subst (λ (ns : Numbers). 0 < length ns → IsOf (known_at f.values (slot_of l x i)) (number_at ns 0)) (small_numbers (kinds_up ks) l (pad s) wide counted x i here e inside)
          (m.values.each (slot_of l x i) 0 there) (omega arith)
      by false e =
          let own = slot_large (kinds_up ks) l wide x i here e in
          subst (λ j. IsOf (known_at f.values j) (number_at (numbers_of (pad s) x) i)) (sym own)
          (subst (λ (ns : Numbers). i < length ns → IsOf (known_at f.values x) (number_at ns i)) (large_numbers (kinds_up ks) l (pad s) wide counted x here e)
          (m.values.each x i (subst (λ j. j < length f.values) own there)) q)

  number_same : (x : ℕ) → x < length s → number_of (spread (pad s)) x ≡ number_of s x
  number_same x inside =
      let here : x < length (pad s) = omega (arith, inside, length-map s padded) in
      ap (λ (ns : Numbers). number_at ns 0) (own_numbers (pad s) x here) ∙ first_kept (numbers_of (pad s) x) ∙ numbers_at s x 0

  agreed : Agrees l (Some f) s
  agreed = record {
    values = λ x i q.
        let here : x < length (kinds_up ks) = omega (arith, some_below s x (omega (arith, q)), st.size, length-map ks kind_up) in
        subst (IsOf (known_at f.values (slot_of l x i))) (numbers_at s x i) (padded_of x i here (omega (arith, q, numbers_longer s x)));
    scalars = λ x i. st.counts x (over.scalars x i).there ∙ ap count_of (over.scalars x i).scalar;
    octagons = meet_same l.packs f.octagons (number_of (spread (pad s))) (number_of s) (λ x i. let here = (over.scalars x i).there in number_same x (omega (arith, st.size, here))) m.octagons;
  }

agrees : (ks : Kinds) (l : Layout) (f : Option Facts) (s : Stored) → IsLayout l → IsOver ks l → IsStore ks s → AreFactsIf l f → Member l f (spread (pad s)) → Agrees l f s
agrees ks l None s laid o st h m = m
agrees ks l (Some f) s laid o st h m = agreed ks l f s laid o st h m

nothing_padded : (g : GraphOf) (s : Stored) → HasElements g → IsStore (kinds_of g) s → pad s ≡ s
nothing_padded g s some st = pad_same s (λ x h.
    let many = length-map g.variables (λ (v : VariableOf). v.kind) in
    let inside : x < length g.variables = omega (arith, h, many, st.size) in
    let kind : kind_at (kinds_of g) x ≡ (variable_at g x).kind = get_or-map (λ (v : VariableOf). v.kind) g.variables x no_variable in
    let count : length (numbers_of s x) ≡ count_of (variable_at g x).kind.length = st.counts x (omega (arith, inside, many)) ∙ ap (λ (k : Kind). count_of k.length) kind in
    subst (λ (n : ℕ). 0 < n) (sym count) (some x no_variable inside))

pub families_hold_runs : FamiliesHoldRuns
families_hold_runs g l known made solved v s run =
    let at = reached g l known made solved v s run in
    let facts = solved.facts v at.point in
    let kept = states_sound.kept l (known v) (spread (pad s)) made.layout facts at.member in
    record {
      store = at.store;
      known = agrees (kinds_of g) l (known v) s made.layout made.over at.store facts at.member;
      reduced_known = agrees (kinds_of g) l (reduced l (known v)) s made.layout made.over at.store (facts_stay.reductions l (known v) made.layout facts) kept;
      member = λ some. subst (λ (u : Stored). Member l (known v) (spread u)) (nothing_padded g s some at.store) at.member;
      reduced_member = λ some. subst (λ (u : Stored). Member l (reduced l (known v)) (spread u)) (nothing_padded g s some at.store) kept;
    }

-- ---- the result is such a family

pub results_are_families : ResultsAreFamilies
results_are_families g o p order a most it is =
    let at = result_is_solved g o p order a most it is in
    record {
      laid_out = record {
        graph = is.graph;
        layout = subst IsLayout (sym is.analysis.layout) (layouts_over.layouts g p o is.oct);
        over = subst (IsOver (kinds_of g)) (sym is.analysis.layout) (layouts_over.over g p o);
      };
      solved = record { facts = λ v h. (at v h).known; below = λ v h. (at v h).below };
    }

pub result_holds_runs : ResultHoldsRuns
result_holds_runs g o p order a most it is v s run =
    let family = results_are_families g o p order a most it is in
    let held = families_hold_runs g a.layout (known_at_point a it) family.laid_out family.solved v s run in
    record {
      store = held.store;
      known = held.known;
      reduced = held.reduced_known;
      member = held.member;
      reduced_member = held.reduced_member;
    }
