-- The cells that a point's equation reads, and what it gives on them.
use Rattle.std.specs.Prelude.{◌≡◌, ℕ, zero, suc, ◌+◌, ◌<◌, ◌≤◌, true, false, List, [], ◌∷◌, ◌++◌, map, length, take, slice_index_or, slice_get, replicate, All, Option, None, Some, MatchOption}
use Rattle.std.proofs.Common.{arith, refl, sym, ap, subst, ◌∙◌, get_or, below_more}
use Rattle.std.proofs.lemmas.List.{length-map, map-append}
use Rattle.std.proofs.lemmas.List as lists
use Rattle.std.proofs.lemmas.List.Elements.{All-head, All-tail}
use Rattle.std.proofs.lemmas.Option.{get_or_from_slice_get, slice_get_read}
use Rattle.std.proofs.Math.Seq.{take-suc}
use Rattle.pk_graph.specs.Graphs.{GraphOf}
use Rattle.pk_graph.specs.Shown.{graph_view}
use Rattle.pk_state.specs.Layouts.{Layout}
use Rattle.pk_state.specs.Facts.{Facts, Stated, AreFactsIf}
use Rattle.pk_iterate.specs.Behaviour.{HoldEach}
use Rattle.pk_phases.specs.declared.equations.Cell.{Cell}
use Rattle.pk_phases.specs.declared.equations.Cell.TheVariants.{Value}
use Rattle.pk_phases.specs.declared.equations.Part.{Part}
use Rattle.pk_phases.specs.declared.equations.Part.TheVariants.{Point}
use Rattle.pk_phases.specs.Equations.{value_of, reads_in, apply_in, held_in, may_hold_of}
use Rattle.pk_analysis.specs.declared.arrows.Arrow.{Arrow}
use Rattle.pk_analysis.specs.Arrows.{arrows_at, origins}
use Rattle.pk_analysis.specs.Parts.{part_at}
use Rattle.pk_analysis.specs.Orders.{is_below}
use Rattle.pk_analysis.specs.Flows.{Flow, stated, equation, equations_of, IsOverFlow}
use Rattle.pk_sound.specs.Families.{given_on, IsLaidOut, FailsFirstAt, FamiliesAreTested}
use Rattle.pk_analysis.proofs.OrderLemmas.{below_decides}
use Rattle.pk_sound.proofs.Arrows_at.{arrows_to}
use Rattle.pk_sound.proofs.Below.{below_itself}
use Rattle.pk_cert_check.specs.Checked.{cell_in, known_by, HoldStates, IsChecked, HasPointsAlone, HavePassed}

-- one more cell is shared
pub shared_on : {C D : Type 0} (f : C → D) (cells : List D) (points : List ℕ) (i : ℕ) (out : List C) (a : C) (x : D) → i < length points → ((d : D) → map f out ≡ map (λ (u : ℕ). slice_index_or cells u d) (take i points))
    → slice_get cells (get_or points i 0) ≡ Some x → f a ≡ x → (d : D) → map f (out ++ a ∷ []) ≡ map (λ (u : ℕ). slice_index_or cells u d) (take (i + 1) points)
shared_on {C} {D} f cells points i out a x h so there same d =
    let up : i + 1 ≡ suc i = omega arith in
    map-append f out (a ∷ []) ∙ ap (λ (r : List D). r ++ f a ∷ []) (so d)
    ∙ ap (λ (y : D). map (λ (u : ℕ). slice_index_or cells u d) (take i points) ++ y ∷ []) (same ∙ sym (get_or_from_slice_get cells (get_or points i 0) x d there))
    ∙ sym (ap (λ (n : ℕ). map (λ (u : ℕ). slice_index_or cells u d) (take n points)) up
    ∙ ap (map (λ (u : ℕ). slice_index_or cells u d)) (take-suc points i 0 h) ∙ map-append (λ (u : ℕ). slice_index_or cells u d) (take i points) (get_or points i 0 ∷ []))

-- what stands at a place is shown there
pub got_of : {C D : Type 0} (f : C → D) (xs : List C) (i : ℕ) (x : C) → slice_get xs i ≡ Some x → slice_get (map f xs) i ≡ Some (f x)
got_of f [] i x e = absurd (cc)
got_of f (y ∷ ys) zero x e = let same : y ≡ x = cc in ap (λ z. Some (f z)) same
got_of f (y ∷ ys) (suc i) x e = got_of f ys i x e

-- the cell of a point among cells that are shared
pub cell_there : {C : Type 0} (l : Layout) (f : C → Cell Stated) (cells : List C) (points v : ℕ) (x : C) → points ≤ length (map f cells) → v < points → x ≡ get_or cells v x → cell_in l (map f cells) v ≡ f x
cell_there l f cells points v x enough point is =
    let place : v < length cells = omega (arith, enough, point, length-map cells f) in
    get_or_from_slice_get (map f cells) v (f x) (Value (stated l None)) (got_of f cells v x (slice_get_read cells (length cells) v x refl place is))

-- what is the same as the state of a point is within it
pub same_below : (l : Layout) (cells : List (Cell Stated)) (v : ℕ) (g : Option Facts) (known : Cell Stated) → cell_in l cells v ≡ known → Value (stated l g) ≡ known → AreFactsIf l (known_by l cells v) → true ≡ is_below g (known_by l cells v)
same_below l cells v g known there same facts =
    let is : known_by l cells v ≡ g = ap (λ (c : Cell Stated). (value_of (stated l None) c).facts) (there ∙ sym same) in
    sym (subst (λ (f : Option Facts). is_below g f ≡ true) (sym is) ((below_decides l g g (subst (AreFactsIf l) is facts) (subst (AreFactsIf l) is facts)).1 (below_itself g)))

pub points_alone : (n e : ℕ) → part_at (replicate n Point) e ≡ Point
points_alone zero e = refl
points_alone (suc n) zero = refl
points_alone (suc n) (suc e) = points_alone n e

module _ (a : Flow) (cells : List (Cell Stated)) (alone : HasPointsAlone a) (hold : HoldStates a.layout (length (graph_view a.graph).points) cells) where
  reads_are : (v : ℕ) → reads_in (equations_of a) v (part_at a.parts v) ≡ origins (arrows_at (graph_view a.graph) v)
  reads_are v = ap (λ (p : Part). reads_in (equations_of a) v p) (alone v)

  sources_within : (v : ℕ) → All (λ u. u < length (graph_view a.graph).points) (origins (arrows_at (graph_view a.graph) v))
  sources_within v k d p =
      let none : Arrow = record { from = d; edge = 0 } in
      let q : k < length (arrows_at (graph_view a.graph) v) = omega (arith, p, length-map (arrows_at (graph_view a.graph) v) (λ (x : Arrow). x.from)) in
      subst (λ (n : ℕ). n < length (graph_view a.graph).points) (sym (lists.get_or-map (λ (x : Arrow). x.from) (arrows_at (graph_view a.graph) v) k none d q)) (arrows_to (graph_view a.graph) v k none q).point

  pub reads_within : (v : ℕ) (us : List ℕ) → us ≡ reads_in (equations_of a) v (part_at a.parts v) → All (λ u. u < length cells) us
  reads_within v us is =
      subst (λ (xs : List ℕ). All (λ u. u < length cells) xs) (sym (is ∙ reads_are v)) (λ k d p. let q = sources_within v k d p in omega (arith, q, hold.enough))

  held_one : (u : ℕ) → u < length (graph_view a.graph).points → may_hold_of (equations_of a) (IsOverFlow a) u (cell_in a.layout cells u)
  held_one u p =
      let h = hold.each u p in
      subst (λ (c : Cell Stated). held_in (IsOverFlow a) u (part_at a.parts u) c) (sym h.1) (subst (λ (part : Part). held_in (IsOverFlow a) u part (Value (stated a.layout h.0))) (sym (alone u)) refl)

  held_each : (us : List ℕ) → All (λ u. u < length (graph_view a.graph).points) us → HoldEach (may_hold_of (equations_of a) (IsOverFlow a)) us (map (λ (u : ℕ). cell_in a.layout cells u) us)
  held_each [] h = tt
  held_each (u ∷ us) h =
      (held_one u (All-head (λ x. x < length (graph_view a.graph).points) u us h), held_each us (All-tail (λ x. x < length (graph_view a.graph).points) u us h))

  pub inputs_held : (v : ℕ) (us : List ℕ) (inputs : List (Cell Stated)) → us ≡ reads_in (equations_of a) v (part_at a.parts v) → inputs ≡ map (λ (u : ℕ). cell_in a.layout cells u) us
      → HoldEach (may_hold_of (equations_of a) (IsOverFlow a)) (reads_in (equations_of a) v (part_at a.parts v)) inputs
  inputs_held v us inputs is told =
      let same = is ∙ reads_are v in
      subst (HoldEach (may_hold_of (equations_of a) (IsOverFlow a)) (reads_in (equations_of a) v (part_at a.parts v))) (sym told)
      (subst (λ (xs : List ℕ). HoldEach (may_hold_of (equations_of a) (IsOverFlow a)) xs (map (λ (u : ℕ). cell_in a.layout cells u) us)) is
      (held_each us (subst (λ (xs : List ℕ). All (λ u. u < length (graph_view a.graph).points) xs) (sym same) (sources_within v))))

  facts_read : (us : List ℕ) → map (λ (s : Stated). s.facts) (map (value_of (stated a.layout None)) (map (λ (u : ℕ). cell_in a.layout cells u) us)) ≡ map (known_by a.layout cells) us
  facts_read [] = refl
  facts_read (u ∷ us) = ap (λ (fs : List (Option Facts)). known_by a.layout cells u ∷ fs) (facts_read us)

  pub run_gives : (v : ℕ) (us : List ℕ) (inputs : List (Cell Stated)) → us ≡ reads_in (equations_of a) v (part_at a.parts v) → inputs ≡ map (λ (u : ℕ). cell_in a.layout cells u) us
      → apply_in (equations_of a) v (part_at a.parts v) inputs ≡ Value (stated a.layout (given_on (graph_view a.graph) a.layout (known_by a.layout cells) v))
  run_gives v us inputs is told =
      ap (λ (p : Part). apply_in (equations_of a) v p inputs) (alone v)
      ∙ ap (λ (fs : List (Option Facts)). Value (stated a.layout (equation (graph_view a.graph) a.layout v fs)))
      (ap (λ (cs : List (Cell Stated)). map (λ (s : Stated). s.facts) (map (value_of (stated a.layout None)) cs)) told ∙ facts_read us ∙ ap (map (known_by a.layout cells)) (is ∙ reads_are v))

-- ---- point by point

pub passed_none : (g : GraphOf) (l : Layout) (cells : List (Cell Stated)) → HavePassed g l cells 0
passed_none g l cells = record { passed = λ u p. absurd (omega (arith, p)); facts = λ u p. absurd (omega (arith, p)) }

pub passed_more : (g : GraphOf) (l : Layout) (cells : List (Cell Stated)) (v : ℕ) → HavePassed g l cells v → is_below (given_on g l (known_by l cells) v) (known_by l cells v) ≡ true → AreFactsIf l (known_by l cells v)
    → HavePassed g l cells (v + 1)
passed_more g l cells v h e f = record { passed = below_more _ _ h.passed e; facts = below_more _ _ h.facts f }

pub failed_here : (g : GraphOf) (l : Layout) (cells : List (Cell Stated)) (v : ℕ) → HavePassed g l cells v → v < length g.points → is_below (given_on g l (known_by l cells) v) (known_by l cells v) ≡ false
    → FailsFirstAt g l (known_by l cells) v
failed_here g l cells v h p e = record { point = p; fails = e; before = h.passed }

pub checked : (g : GraphOf) (l : Layout) (cells : List (Cell Stated)) (points : ℕ) (o : Option ℕ) → FamiliesAreTested → IsLaidOut g l → points ≡ length g.points
    → MatchOption o (HavePassed g l cells points) (FailsFirstAt g l (known_by l cells)) → IsChecked g l cells o
checked g l cells points None tested laid all h =
    (tested g l (known_by l cells) laid (λ v p. h.facts v (omega (arith, p, all)))).solved (λ v p. h.passed v (omega (arith, p, all)))
checked g l cells points (Some v) tested laid all h = h

-- the same of the equations that were made for a graph and a layout
pub checked_by : (g h : GraphOf) (l k : Layout) (cells : List (Cell Stated)) (points : ℕ) (o : Option ℕ) → h ≡ g → k ≡ l → FamiliesAreTested → IsLaidOut g l → points ≡ length g.points
    → MatchOption o (HavePassed h k cells points) (FailsFirstAt h k (known_by k cells)) → IsChecked g l cells o
checked_by g h l k cells points o same over tested laid all found =
    checked g l cells points o tested laid all
    (subst (λ (y : Layout). MatchOption o (HavePassed g y cells points) (FailsFirstAt g y (known_by y cells))) over
    (subst (λ (x : GraphOf). MatchOption o (HavePassed x k cells points) (FailsFirstAt x k (known_by k cells))) same found))
