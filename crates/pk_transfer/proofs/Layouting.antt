-- The layouts of graphs.
use Rattle.std.specs.Prelude.{◌≡◌, ◌⊎◌, ℕ, zero, suc, ◌+◌, ◌<◌, ◌≤◌, ◌^◌, not, Bool, true, false, ◌&&◌, if◌then◌else◌, is_some, List, [], ◌∷◌, length, map, slice_index_or, All, Option, Some, None}
use Rattle.std.proofs.Common.{arith, refl, ap, subst, ◌∙◌, inl, inr}
use Rattle.std.proofs.Math.ListN.{get_or-map}
use Rattle.std.proofs.lemmas.Bool.{cases_lt}
use Rattle.std.proofs.lemmas.List.{length-map}
use Rattle.std.proofs.lemmas.List.Elements.{All-get_or, All-from_get_or, All-nil, All-cons, All-head, All-tail, All-weaker}
use Rattle.pk_ctypes.proofs.Small.{both_true}
use Rattle.pk_graph.specs.Trees.{Skip}
use Rattle.pk_graph.specs.Kinds.{Kind, kind_at, IsScalar}
use Rattle.pk_graph.specs.Graphs.{VariableOf, PointOf, EdgeOf, GraphOf, no_variable, no_point, kinds_of, point_at}
use Rattle.pk_graph.specs.WellMade.{IsGraph, IsPointOf, IsEdgeOf}
use Rattle.pk_graph.specs.OctagonVariables.{is_asked_in, is_named_scalar, first_asked, octagon_variables_of}
use Rattle.pk_octagons.specs.Packs.{chosen_at, IsPack, ArePacks}
use Rattle.pk_octagons.specs.Members.{IsChosen}
use Rattle.pk_state.specs.Layouts.{Layout}
use Rattle.pk_transfer.specs.Trees.{IsOver}
use Rattle.pk_transfer.specs.Transfers.{IsInstrOver}
use Rattle.pk_transfer.specs.Graphs.{layout_of, layout_over, IsPackOfGraph, GraphsAreOver}
use Rattle.pk_transfer.proofs.Slotting.{own_there, has_slots}

-- ---- the first asked variables

-- x is a named scalar of those that are numbered from k on
record IsFrom (k : ℕ) (vs : List VariableOf) (x : ℕ) : Type 0 where
  pub place : ℕ
  pub number : x ≡ k + place
  pub there : place < length vs
  pub scalar : is_named_scalar (slice_index_or vs place no_variable) ≡ true

one_later : (k x : ℕ) (v : VariableOf) (vs : List VariableOf) → IsFrom (k + 1) vs x → IsFrom k (v ∷ vs) x
one_later k x v vs h = record { place = suc h.place; number = omega (arith, h.number); there = omega (arith, h.there); scalar = h.scalar }

asked_from : (ps : List PointOf) (n k : ℕ) (vs : List VariableOf) (j : ℕ) → j < length (first_asked ps n k vs) → IsFrom k vs (slice_index_or (first_asked ps n k vs) j 0)
unfolding first_asked
asked_from ps zero k vs j h = absurd (omega (arith, h))
asked_from ps (suc n) k [] j h = absurd (omega (arith, h))
asked_from ps (suc n) k (v ∷ vs) j h = by (λ i. asked_from ps n (k + 1) vs i) (λ i. asked_from ps (suc n) (k + 1) vs i) (is_asked_in k ps && is_named_scalar v) refl j h
  where
    by : ((i : ℕ) → i < length (first_asked ps n (k + 1) vs) → IsFrom (k + 1) vs (slice_index_or (first_asked ps n (k + 1) vs) i 0)) → ((i : ℕ) → i < length (first_asked ps (suc n) (k + 1) vs) → IsFrom (k + 1) vs (slice_index_or (first_asked ps (suc n) (k + 1) vs) i 0)) → (b : Bool) → (is_asked_in k ps && is_named_scalar v) ≡ b → (j : ℕ) → j < length (if b then k ∷ first_asked ps n (k + 1) vs else first_asked ps (suc n) (k + 1) vs) → IsFrom k (v ∷ vs) (slice_index_or (if b then k ∷ first_asked ps n (k + 1) vs else first_asked ps (suc n) (k + 1) vs) j 0)
    by f g true e zero p = record { place = 0; number = omega arith; there = omega arith; scalar = (both_true (is_asked_in k ps) (is_named_scalar v) e).1 }
    by f g true e (suc i) p = one_later k (slice_index_or (first_asked ps n (k + 1) vs) i 0) v vs (f i (omega (arith, p)))
    by f g false e i p = one_later k (slice_index_or (first_asked ps (suc n) (k + 1) vs) i 0) v vs (g i p)

few_asked : (ps : List PointOf) (n k : ℕ) (vs : List VariableOf) → length (first_asked ps n k vs) ≤ n
unfolding first_asked
few_asked ps zero k vs = omega arith
few_asked ps (suc n) k [] = omega arith
few_asked ps (suc n) k (v ∷ vs) = by (few_asked ps n (k + 1) vs) (few_asked ps (suc n) (k + 1) vs) (is_asked_in k ps && is_named_scalar v)
  where
    by : length (first_asked ps n (k + 1) vs) ≤ n → length (first_asked ps (suc n) (k + 1) vs) ≤ suc n → (b : Bool) → length (if b then k ∷ first_asked ps n (k + 1) vs else first_asked ps (suc n) (k + 1) vs) ≤ suc n
    by f g true = omega (arith, f)
    by f g false = g

rising : (ps : List PointOf) (n k : ℕ) (vs : List VariableOf) (i j : ℕ) → i < j → j < length (first_asked ps n k vs) → slice_index_or (first_asked ps n k vs) i 0 < slice_index_or (first_asked ps n k vs) j 0
unfolding first_asked
rising ps zero k vs i j l h = absurd (omega (arith, h))
rising ps (suc n) k [] i j l h = absurd (omega (arith, h))
rising ps (suc n) k (v ∷ vs) i j l h = by (λ a b. rising ps n (k + 1) vs a b) (λ a b. rising ps (suc n) (k + 1) vs a b) (is_asked_in k ps && is_named_scalar v) i j l h
  where
    by : ((a b : ℕ) → a < b → b < length (first_asked ps n (k + 1) vs) → slice_index_or (first_asked ps n (k + 1) vs) a 0 < slice_index_or (first_asked ps n (k + 1) vs) b 0) → ((a b : ℕ) → a < b → b < length (first_asked ps (suc n) (k + 1) vs) → slice_index_or (first_asked ps (suc n) (k + 1) vs) a 0 < slice_index_or (first_asked ps (suc n) (k + 1) vs) b 0) → (b : Bool) → (i j : ℕ) → i < j → j < length (if b then k ∷ first_asked ps n (k + 1) vs else first_asked ps (suc n) (k + 1) vs) → slice_index_or (if b then k ∷ first_asked ps n (k + 1) vs else first_asked ps (suc n) (k + 1) vs) i 0 < slice_index_or (if b then k ∷ first_asked ps n (k + 1) vs else first_asked ps (suc n) (k + 1) vs) j 0
    by f g true i zero l h = absurd (omega (arith, l))
    by f g true zero (suc j) l h = let from = asked_from ps n (k + 1) vs j (omega (arith, h)) in omega (arith, from.number)
    by f g true (suc i) (suc j) l h = f i j (omega (arith, l)) (omega (arith, h))
    by f g false i j l h = g i j l h

-- ---- layouts

no_length : (o : Option ℕ) → not (is_some o) ≡ true → o ≡ None
no_length None e = refl
no_length (Some n) e = absurd (cc)

kinds_at : (vs : List VariableOf) (x : ℕ) → kind_at (map (λ (v : VariableOf). v.kind) vs) x ≡ (slice_index_or vs x no_variable).kind
kinds_at vs x = get_or-map (λ (v : VariableOf). v.kind) vs x no_variable

scalar : (g : GraphOf) (x : ℕ) → IsFrom 0 g.variables x → (kind_at (kinds_of g) x).length ≡ None
scalar g x h =
    let same : x ≡ h.place = omega (arith, h.number) in
    ap (λ y. (kind_at (kinds_of g) y).length) same
    ∙ ap (λ (k : Kind). k.length) (kinds_at g.variables h.place)
    ∙ no_length (slice_index_or g.variables h.place no_variable).kind.length (both_true (not (is_some (slice_index_or g.variables h.place no_variable).kind.length)) (is_some (slice_index_or g.variables h.place no_variable).name) h.scalar).0

-- they are scalars, and a pack
asked_scalar : (g : GraphOf) (ps : List PointOf) (n k : ℕ) → k < length (first_asked ps n 0 g.variables) → IsScalar (kinds_of g) (chosen_at (first_asked ps n 0 g.variables) k)
asked_scalar g ps n k h =
    let from = asked_from ps n 0 g.variables k h in
    record { there = omega (arith, from.number, from.there, length-map g.variables (λ (v : VariableOf). v.kind)); scalar = scalar g (chosen_at (first_asked ps n 0 g.variables) k) from }

asked : (g : GraphOf) (ps : List PointOf) (n : ℕ) → n < 2 ^ 31 → IsPackOfGraph g (first_asked ps n 0 g.variables)
asked g ps n few = record { few = omega (arith, few, few_asked ps n 0 g.variables); scalars = asked_scalar g ps n; rising = rising ps n 0 g.variables }

-- a variable of packs is one of a pack's
chosen_scalar : (g : GraphOf) (packs : List (List ℕ)) (x : ℕ) → All (IsPackOfGraph g) packs → IsChosen packs x → IsScalar (kinds_of g) x
chosen_scalar g [] x h i = absurd i
chosen_scalar g (c ∷ packs) x h (inl i) = subst (IsScalar (kinds_of g)) i.2 ((All-head (IsPackOfGraph g) c packs h).scalars i.0 i.1)
chosen_scalar g (c ∷ packs) x h (inr i) = chosen_scalar g packs x (All-tail (IsPackOfGraph g) c packs h) i

over_packs : (g : GraphOf) (packs : List (List ℕ)) → All (IsPackOfGraph g) packs → IsOver (kinds_of g) (layout_over g packs)
over_packs g packs h = record { types = refl; further = refl; scalars = λ x i. chosen_scalar g packs x h i }

-- the slots are the same whatever the packs are
layouts_of_packs : (g : GraphOf) (packs : List (List ℕ)) → All (IsPackOfGraph g) packs → ArePacks (length (layout_over g packs).types) packs
layouts_of_packs g packs h = All-weaker (IsPackOfGraph g) (IsPack (length (layout_over g packs).types)) one packs h
  where
    once : (c : List ℕ) → IsPackOfGraph g c → (i j : ℕ) → i < length c → j < length c → chosen_at c i ≡ chosen_at c j → i ≡ j
    once c own i j p q e = by (cases_lt i j) (cases_lt j i)
      where
        by : (i < j) ⊎ (j ≤ i) → (j < i) ⊎ (i ≤ j) → i ≡ j
        by (inl l) o = absurd (omega (arith, e, own.rising i j l q))
        by (inr r) (inl l) = absurd (omega (arith, e, own.rising j i l p))
        by (inr r) (inr s) = omega (arith, r, s)

    one : (c : List ℕ) → IsPackOfGraph g c → IsPack (length (layout_over g packs).types) c
    one c own = record {
      few = own.few;
      there = λ k p. own_there (kinds_of g) (layout_over g packs) (over_packs g packs h) (chosen_at c k) (own.scalars k p).there;
      once = once c own;
    }

-- of a graph and at most n variables
one_pack : (g : GraphOf) (n : ℕ) → n < 2 ^ 31 → All (IsPackOfGraph g) (octagon_variables_of g n ∷ [])
one_pack g n few = All-cons (IsPackOfGraph g) (octagon_variables_of g n) [] (asked g g.points n few) (All-nil (IsPackOfGraph g))

-- its variables are scalars, however many they are
over_of : (g : GraphOf) (n : ℕ) → IsOver (kinds_of g) (layout_of g n)
over_of g n = record {
  types = refl;
  further = refl;
  scalars = λ x i. by x i;
}
  where
    by : (x : ℕ) → IsChosen (octagon_variables_of g n ∷ []) x → IsScalar (kinds_of g) x
    by x (inl i) = subst (IsScalar (kinds_of g)) i.2 (asked_scalar g g.points n i.0 i.1)
    by x (inr i) = absurd i

no_edge : EdgeOf
no_edge = record { instr = Skip; to = 0 }

instructions : (g : GraphOf) (y : Layout) (p : ℕ) → IsGraph g → IsOver (kinds_of g) y → p < length g.points → All (λ (e : EdgeOf). IsInstrOver y e.instr) (point_at g p).edges
instructions g y p h o l =
    let edges = (All-get_or (IsPointOf g) g.points p no_point l h.points).edges in
    All-from_get_or (λ (e : EdgeOf). IsInstrOver y e.instr) (point_at g p).edges no_edge
    (λ i q. record { kinds = kinds_of g; over = o; typed = (All-get_or (IsEdgeOf g) (point_at g p).edges i no_edge q edges).typed })

pub graphs_over : GraphsAreOver
graphs_over = record {
  packs = asked;
  layouts_of_packs = layouts_of_packs;
  over_packs = over_packs;
  layouts = λ g n few. layouts_of_packs g (octagon_variables_of g n ∷ []) (one_pack g n few);
  over = over_of;
  slots = λ ks y x over h. has_slots ks y over x h;
  instructions = instructions;
}
