-- The rank of states.
use Rattle.std.specs.Prelude.{◌≡◌, ◌⊎◌, ℕ, zero, suc, ◌+◌, ◌*◌, ◌<◌, ◌≤◌, ◌&&◌, Bool, true, false, ℤ, List, [], ◌∷◌, length, Option, Some, None}
use Rattle.std.specs.List.{sum_by}
use Rattle.std.proofs.Common.{◌∙◌, refl, ap, sym, subst, arith, inl, inr}
use Rattle.std.proofs.lemmas.Int.{ints}
use Rattle.std.proofs.lemmas.List.Sums.{sum_by-cons}
use Rattle.pk_interval.specs.Ranges as ranges
use Rattle.pk_interval.proofs.Order.{within_ends}
use Rattle.pk_congr.specs.Classes as classes
use Rattle.pk_congr.proofs.Keeping.{unchanged}
use Rattle.pk_ctypes.proofs.Small.{and_true}
use Rattle.pk_value.specs.Known.{Known, is_within}
use Rattle.pk_value.specs.Known as known
use Rattle.pk_value.specs.Laws.{IsOfIts}
use Rattle.pk_value.proofs.Orders.{rank, lattice}
use Rattle.pk_octmat.specs.Octagon.{Octagon, entry}
use Rattle.pk_octmat.proofs.Tabled.{octagon_entries}
use Rattle.pk_octops.specs.Tables.{widening_of}
use Rattle.pk_octops.specs.Tables as tables
use Rattle.pk_octops.specs.Chains.{IsWidening, numbers_of}
use Rattle.pk_octops.proofs.Counting.{numbers_are_ranks}
use Rattle.pk_octops.proofs.Kept.{values_kept}
use Rattle.pk_blocks.specs.Rows.{merged_from}
use Rattle.pk_octagons.specs.Values.{type_at, known_at}
use Rattle.pk_octagons.specs.Octagons.{octagon_at, AreOctagons, widened_octagons}
use Rattle.pk_octagons.proofs.Sound.{first_of, no_octagons, no_packs}
use Rattle.pk_packs.specs.Chains.{entries_of}
use Rattle.pk_state.specs.Layouts.{Layout}
use Rattle.pk_state.specs.Facts.{Facts, IsBelow, widened, widened_values}
use Rattle.pk_state.proofs.Lists.{merged_at}
use Rattle.pk_analysis.specs.Orders.{values_within, bounds_within, octagons_within, is_below}
use Rattle.pk_analysis.proofs.OrderLemmas.{octagon_to}
use Rattle.pk_analysis_laws.specs.Ranks.States.{AreBoundedFacts, IsStateOf, moves_from, bound_of, rank_in, IsChain, StatesAreRanked, WideningChainsEnd}
use Rattle.pk_analysis_laws.proofs.Ranks.Staying.{states_stay}

one_fails : (a b : Bool) → (a && b) ≡ false → (a ≡ false) ⊎ (b ≡ false)
one_fails true b e = inr e
one_fails false b e = inl refl

-- ---- the values of the variables from x on

AreFrom : Layout → ℕ → List Known → Type 0
AreFrom l x [] = Unit {0}
AreFrom l x (k ∷ ks) = IsOfIts (type_at l.types x) k × AreFrom l (x + 1) ks

are_from : (l : Layout) (x : ℕ) (ks : List Known) → ((i j : ℕ) → i < length ks → j ≡ x + i → IsOfIts (type_at l.types j) (known_at ks i)) → AreFrom l x ks
unfolding AreFrom
are_from l x [] h = tt
are_from l x (k ∷ ks) h = (h zero x (omega arith) (omega arith), are_from l (x + 1) ks (λ i j p e. h (suc i) j (omega (arith, p)) (omega (arith, e))))

module _ (l : Layout) (cs : List ℤ) where
  abbrev step : ℕ → Known → Known → Known
  step x = known.widened (type_at l.types x) cs

  values_few : (c x : ℕ) (ks : List Known) → 2 * (length cs + 1) + 65 ≤ c → moves_from l cs x ks ≤ length ks * c
  values_few c x [] h = omega arith
  values_few c x (k ∷ ks) h =
      let more : suc (length ks) * c ≡ c + length ks * c = omega arith in
      omega (arith, more, h, rank.few (type_at l.types x) cs k, values_few c (x + 1) ks h)

  values_stay : (x : ℕ) (hs ns : List Known) → AreFrom l x hs → AreFrom l x ns → length hs ≡ length ns → moves_from l cs x (merged_from step x hs ns) ≤ moves_from l cs x hs
  unfolding AreFrom
  values_stay x [] ns f g e = omega arith
  values_stay x (h ∷ hs) [] f g e = absurd (omega (arith, e))
  values_stay x (h ∷ hs) (n ∷ ns) f g e = omega (arith, rank.stays (type_at l.types x) cs h n f.0 g.0, values_stay (x + 1) hs ns f.1 g.1 (omega (arith, e)))

  values_fall : (x : ℕ) (hs ns : List Known) → AreFrom l x hs → AreFrom l x ns → length hs ≡ length ns → values_within ns hs ≡ false → moves_from l cs x (merged_from step x hs ns) < moves_from l cs x hs
  unfolding AreFrom
  values_fall x [] [] f g e w = absurd (cc)
  values_fall x [] (n ∷ ns) f g e w = absurd (omega (arith, e))
  values_fall x (h ∷ hs) [] f g e w = absurd (omega (arith, e))
  values_fall x (h ∷ hs) (n ∷ ns) f g e w =
      let more : length hs ≡ length ns = omega (arith, e) in
      elim (one_fails (is_within n h) (values_within ns hs) w) [
        | inl not_in ↦ omega (arith, rank.falls (type_at l.types x) cs h n f.0 g.0 not_in, values_stay (x + 1) hs ns f.1 g.1 more)
        | inr not_in ↦ omega (arith, rank.stays (type_at l.types x) cs h n f.0 g.0, values_fall (x + 1) hs ns f.1 g.1 more not_in)
      ]

-- a state's values are of their types
values_are : (l : Layout) (f : Facts) → AreBoundedFacts l f → AreFrom l 0 f.values
values_are l f h = are_from l 0 f.values (λ i j p e. let same : i ≡ j = omega (arith, e) in subst (λ (y : ℕ). IsOfIts (type_at l.types y) (known_at f.values i)) same (record { inside = h.facts.values.inside i p; class = h.classes i p }))

-- ---- the octagons

-- no more numbers than bounds
numbers_few : (packs : List (List ℕ)) (hs : List Octagon) → AreOctagons packs hs → sum_by numbers_of hs ≤ entries_of packs
numbers_few [] [] f = omega arith
numbers_few [] (h ∷ hs) f = no_packs h hs f
numbers_few (c ∷ packs) [] f = no_octagons c packs f
numbers_few (c ∷ packs) (h ∷ hs) f =
    let own = first_of c packs h hs f in
    let most : numbers_of h ≤ 2 * length c * (2 * length c) = subst (λ (k : ℕ). numbers_of h ≤ 2 * k * (2 * k)) own.vars (numbers_are_ranks.few h) in
    let square : 2 * length c * (2 * length c) ≡ 4 * length c * length c = omega arith in
    omega (arith, most, square, numbers_few packs hs own.rest, sum_by-cons numbers_of h hs, sum_by-cons (λ (p : List ℕ). 4 * length p * length p) c packs)

is_widening : (h n : Octagon) → IsWidening h n (widening_of h n)
is_widening h n = octagon_entries h.vars (λ i j. tables.widened (entry h i j) (entry n i j))

-- those of the first, and of the others
sums_on : (i : ℕ) (h n : Octagon) (hs ns : List Octagon)
    → (sum_by numbers_of (h ∷ hs) ≡ numbers_of h + sum_by numbers_of hs)
    × (sum_by numbers_of (widening_of h n ∷ merged_from (λ p. widening_of) (i + 1) hs ns) ≡ numbers_of (widening_of h n) + sum_by numbers_of (merged_from (λ p. widening_of) (i + 1) hs ns))
sums_on i h n hs ns = (sum_by-cons numbers_of h hs, sum_by-cons numbers_of (widening_of h n) (merged_from (λ p. widening_of) (i + 1) hs ns))

numbers_stay : (i : ℕ) (packs : List (List ℕ)) (hs ns : List Octagon) → AreOctagons packs hs → AreOctagons packs ns → sum_by numbers_of (merged_from (λ p. widening_of) i hs ns) ≤ sum_by numbers_of hs
numbers_stay i [] [] ns f g = omega arith
numbers_stay i [] (h ∷ hs) ns f g = no_packs h hs f
numbers_stay i (c ∷ packs) [] ns f g = no_octagons c packs f
numbers_stay i (c ∷ packs) (h ∷ hs) [] f g = no_octagons c packs g
numbers_stay i (c ∷ packs) (h ∷ hs) (n ∷ ns) f g =
    let left = first_of c packs h hs f in
    let right = first_of c packs n ns g in
    let sums = sums_on i h n hs ns in
    omega (arith, numbers_are_ranks.stays h n (widening_of h n) (is_widening h n), numbers_stay (i + 1) packs hs ns left.rest right.rest, sums.0, sums.1)

numbers_fall : (i : ℕ) (packs : List (List ℕ)) (hs ns : List Octagon) → AreOctagons packs hs → AreOctagons packs ns → octagons_within ns hs ≡ false → sum_by numbers_of (merged_from (λ p. widening_of) i hs ns) < sum_by numbers_of hs
numbers_fall i [] [] [] f g e = absurd (cc)
numbers_fall i [] [] (n ∷ ns) f g e = no_packs n ns g
numbers_fall i [] (h ∷ hs) ns f g e = no_packs h hs f
numbers_fall i (c ∷ packs) [] ns f g e = no_octagons c packs f
numbers_fall i (c ∷ packs) (h ∷ hs) [] f g e = no_octagons c packs g
numbers_fall i (c ∷ packs) (h ∷ hs) (n ∷ ns) f g e =
    let left = first_of c packs h hs f in
    let right = first_of c packs n ns g in
    let sums = sums_on i h n hs ns in
    elim (one_fails (bounds_within n.cells h.cells) (octagons_within ns hs) e) [
      | inl not_in ↦
          let above : tables.IsBelow n h → ⊥ = λ b. let is = octagon_to n h right.octagon left.octagon (left.vars ∙ sym right.vars) b in cc in
          omega (arith, numbers_are_ranks.falls h n (widening_of h n) (right.vars ∙ sym left.vars) above (is_widening h n), numbers_stay (i + 1) packs hs ns left.rest right.rest, sums.0, sums.1)
      | inr not_in ↦ omega (arith, numbers_are_ranks.stays h n (widening_of h n) (is_widening h n), numbers_fall (i + 1) packs hs ns left.rest right.rest not_in, sums.0, sums.1)
    ]

octagons_rise : (i : ℕ) (packs : List (List ℕ)) (hs ns : List Octagon) → AreOctagons packs hs → AreOctagons packs ns → (p : ℕ) → p < length hs → tables.IsBelow (octagon_at hs p) (octagon_at (merged_from (λ q. widening_of) i hs ns) p)
octagons_rise i [] [] ns f g p q = absurd (omega (arith, q))
octagons_rise i [] (h ∷ hs) ns f g p q = no_packs h hs f
octagons_rise i (c ∷ packs) [] ns f g p q = no_octagons c packs f
octagons_rise i (c ∷ packs) (h ∷ hs) [] f g p q = no_octagons c packs g
octagons_rise i (c ∷ packs) (h ∷ hs) (n ∷ ns) f g zero q = values_kept.above_held h n
octagons_rise i (c ∷ packs) (h ∷ hs) (n ∷ ns) f g (suc p) q = octagons_rise (i + 1) packs hs ns (first_of c packs h hs f).rest (first_of c packs n ns g).rest p (omega (arith, q))

-- ---- facts

module _ (l : Layout) (cs : List ℤ) where
  facts_few : (h : Facts) → AreBoundedFacts l h → rank_in l cs (Some h) < bound_of l cs
  facts_few h f =
      let c : ℕ = 2 * (length cs + 1) + 66 in
      let few = values_few l cs c 0 h.values (omega arith) in
      let size : length h.values ≡ length l.types = f.facts.values.size in
      let numbers = numbers_few l.packs h.octagons f.facts.octagons in
      let moves : moves_from l cs 0 h.values ≤ length l.types * c = subst (λ (k : ℕ). moves_from l cs 0 h.values ≤ k * c) size few in
      omega (arith, moves, numbers)

  module _ (h n : Facts) (f : AreBoundedFacts l h) (g : AreBoundedFacts l n) where
    same_size : length h.values ≡ length n.values
    same_size = f.facts.values.size ∙ sym g.facts.values.size

    moves_stay : moves_from l cs 0 (widened_values l cs h.values n.values) ≤ moves_from l cs 0 h.values
    moves_stay = values_stay l cs 0 h.values n.values (values_are l h f) (values_are l n g) same_size

    octagons_stay : sum_by numbers_of (widened_octagons h.octagons n.octagons) ≤ sum_by numbers_of h.octagons
    octagons_stay = numbers_stay 0 l.packs h.octagons n.octagons f.facts.octagons g.facts.octagons

    facts_stay : rank_in l cs (widened l cs (Some h) (Some n)) ≤ rank_in l cs (Some h)
    facts_stay = omega (arith, moves_stay, octagons_stay)

    facts_fall : is_below (Some n) (Some h) ≡ false → rank_in l cs (widened l cs (Some h) (Some n)) < rank_in l cs (Some h)
    facts_fall e = elim (one_fails (values_within n.values h.values) (octagons_within n.octagons h.octagons) e) [
      | inl not_in ↦ omega (arith, values_fall l cs 0 h.values n.values (values_are l h f) (values_are l n g) same_size not_in, octagons_stay)
      | inr not_in ↦ omega (arith, moves_stay, numbers_fall 0 l.packs h.octagons n.octagons f.facts.octagons g.facts.octagons not_in)
    ]

    facts_rise : IsBelow (Some h) (widened l cs (Some h) (Some n))
    facts_rise = record {
      values = λ x p. rw (merged_at (λ x. known.widened (type_at l.types x) cs) 0 h.values n.values x x p same_size (omega arith))
          (lattice.widen_above (type_at l.types x) cs (known_at h.values x) (known_at n.values x) (f.facts.values.inside x p) (g.facts.values.inside x (omega (arith, p, same_size))));
      octagons = octagons_rise 0 l.packs h.octagons n.octagons f.facts.octagons g.facts.octagons;
    }

-- ---- states

few : (l : Layout) (cs : List ℤ) (h : Option Facts) → IsStateOf l h → rank_in l cs h ≤ bound_of l cs
few l cs None f = omega arith
few l cs (Some h) f = omega (arith, facts_few l cs h f)

stays : (l : Layout) (cs : List ℤ) (h n : Option Facts) → IsStateOf l h → IsStateOf l n → rank_in l cs (widened l cs h n) ≤ rank_in l cs h
stays l cs None n f g = few l cs n g
stays l cs (Some h) None f g = omega arith
stays l cs (Some h) (Some n) f g = facts_stay l cs h n f g

falls : (l : Layout) (cs : List ℤ) (h n : Option Facts) → IsStateOf l h → IsStateOf l n → is_below n h ≡ false → rank_in l cs (widened l cs h n) < rank_in l cs h
falls l cs h None f g e = absurd (cc)
falls l cs None (Some n) f g e = facts_few l cs n g
falls l cs (Some h) (Some n) f g e = facts_fall l cs h n f g e

pub states_are_ranked : StatesAreRanked
states_are_ranked = record { few = few; stays = stays; falls = falls }

-- ---- chains

within_itself : (k : Known) → is_within k k ≡ true
within_itself k = and_true (ranges.is_within k.range k.range) (classes.is_within k.class k.class) (within_ends k.range k.range (omega (arith, ints)) (omega (arith, ints))) (unchanged.within_itself k.class)

rises : (l : Layout) (cs : List ℤ) (h n : Option Facts) → IsStateOf l h → IsStateOf l n → IsBelow h (widened l cs h n)
rises l cs None n f g = tt
rises l cs (Some h) None f g = record { values = λ x p. within_itself (known_at h.values x); octagons = λ p q. values_kept.below_itself (octagon_at h.octagons p) }
rises l cs (Some h) (Some n) f g = facts_rise l cs h n f g

-- as long as the rank, and so as the bound
chain_ranked : (l : Layout) (cs : List ℤ) (h : Option Facts) (ns : List (Option Facts)) → IsStateOf l h → IsChain l cs h ns → length ns ≤ rank_in l cs h
chain_ranked l cs h [] f c = omega arith
chain_ranked l cs h (n ∷ ns) f c = omega (arith, falls l cs h n f c.0 c.1, chain_ranked l cs (widened l cs h n) ns (states_stay.widenings l cs h n f c.0) c.2)

pub widening_chains_end : WideningChainsEnd
widening_chains_end = record {
  above = rises;
  differs = λ l cs h n f g e same. let less = falls l cs h n f g e in let equal : rank_in l cs (widened l cs h n) ≡ rank_in l cs h = ap (rank_in l cs) same in omega (arith, less, equal);
  ends = λ l cs h ns f c. omega (arith, chain_ranked l cs h ns f c, few l cs h f);
}
