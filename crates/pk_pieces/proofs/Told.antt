-- What is asked of a point of which something is told.
use Rattle.std.specs.Prelude.{◌≡◌, ℕ, suc, ◌<◌, List, [], ◌∷◌, ◌++◌, length, slice_index_or, take, drop, All}
use Rattle.std.proofs.Common.{arith, sym, ap, subst, ◌∙◌}
use Rattle.std.proofs.Math.ListN.{get_or-map as get_or-map_any}
use Rattle.std.proofs.lemmas.List.{length-map, get_or-map}
use Rattle.std.proofs.lemmas.List.Elements.{All-get_or, All-nil, All-cons, All-head, All-tail, All-weaker}
use Rattle.pk_graph.specs.declared.operations.Access.{Access}
use Rattle.pk_graph.specs.Accesses.{AccessOf, of_points}
use Rattle.pk_graph.specs.AccessViews.{access_view, access_views}
use Rattle.pk_graph.specs.Kinds.{Kind, count_of, kind_at, count_at}
use Rattle.pk_graph.specs.Graphs.{VariableOf, GraphOf, no_variable, variable_at, kinds_of}
use Rattle.pk_graph.specs.WellMade.{IsGraph}
use Rattle.pk_state.specs.Layouts.{Layout}
use Rattle.pk_transfer.specs.Graphs.{GraphsAreOver}
use Rattle.pk_transfer.specs.Slots.{HasSlots as HasSlotsOf}
use Rattle.pk_transfer.specs.Trees.{IsOver}
use Rattle.pk_transfer.specs.Trees as layouts
use Rattle.pk_verdict.specs.Typed.{IsAccessOver, AccessesAreOver}
use Rattle.pk_verdict.specs.Verdicts.{IsTypedOperation}
use Rattle.pk_report.specs.Values.{HasSlots}
use Rattle.pk_pieces.specs.Accesses.{accesses_at}
use Rattle.pk_pieces.proofs.Cuts.{split}

pub holds_at : (P : AccessOf → Type 0) (xs : List Access) (k : ℕ) (a : Access) → All P (access_views xs) → k < length xs → a ≡ slice_index_or xs k a → P (access_view a)
holds_at P xs k a all l is =
    subst P (get_or-map access_view xs k a (access_view a) l ∙ ap access_view (sym is))
    (All-get_or P (access_views xs) k (access_view a) (omega (arith, l, length-map xs access_view)) all)

-- those of a part of a list
pub first_hold : {X : Type 0} (P : X → Type 0) (xs ys : List X) → All P (xs ++ ys) → All P xs
first_hold {X} P [] ys h = All-nil P
first_hold {X} P (x ∷ xs) ys h = All-cons P x xs (All-head P x (xs ++ ys) h) (first_hold P xs ys (All-tail P x (xs ++ ys) h))

pub last_hold : {X : Type 0} (P : X → Type 0) (xs ys : List X) → All P (xs ++ ys) → All P ys
last_hold {X} P [] ys h = h
last_hold {X} P (x ∷ xs) ys h = last_hold P xs ys (All-tail P x (xs ++ ys) h)

module _ (g : GraphOf) (y : Layout) (over : IsOver (kinds_of g) y) where
  -- each number of each variable has a slot
  pub slots_there : GraphsAreOver → HasSlots g y
  slots_there graphs = record {
    further = λ x h. (slots x h).variable;
    own = λ x h. (slots x h).own;
    there = λ x i h few. (slots x h).there i (subst (λ (k : Kind). i < count_of k.length) (sym (kind_is x)) few);
  }
    where
      kind_is : (x : ℕ) → kind_at (kinds_of g) x ≡ (variable_at g x).kind
      kind_is x = get_or-map_any (λ (z : VariableOf). z.kind) g.variables x no_variable

      slots : (x : ℕ) → x < length g.variables → HasSlotsOf y x (count_at (kinds_of g) x)
      slots x h = graphs.slots (kinds_of g) y x over (omega (arith, h, length-map g.variables (λ (z : VariableOf). z.kind)))

  -- the accesses of a point have typed operands
  pub typed_there : AccessesAreOver → IsGraph g → (v : ℕ) (ys : List AccessOf) → ys ≡ accesses_at g v → All (λ (a : AccessOf). IsTypedOperation (layouts.kinds_of y) a.operation) ys
  typed_there accesses made v ys are =
      subst (All (λ (a : AccessOf). IsTypedOperation (layouts.kinds_of y) a.operation)) (sym are)
      (All-weaker (IsAccessOver g y) (λ (a : AccessOf). IsTypedOperation (layouts.kinds_of y) a.operation) (λ a h. h.typed) (accesses_at g v)
      (first_hold (IsAccessOver g y) (accesses_at g v) (of_points (suc v) (drop (suc v) g.points))
      (last_hold (IsAccessOver g y) (of_points 0 (take v g.points)) (accesses_at g v ++ of_points (suc v) (drop (suc v) g.points))
      (subst (All (IsAccessOver g y)) (split g v) (accesses g y made over)))))
