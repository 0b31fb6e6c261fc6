-- Climbing from component to component, out to the outermost that doesn't hold another vertex.
use Rattle.std.proofs.Common.{◌≡◌, ◌≢◌, ℕ, zero, suc, ◌<◌, ◌+◌, ◌⊎◌, inl, inr, length, sym, subst, arith, refl, Option, Some, None}
use Rattle.std.proofs.lemmas.Bool.Decides.{eqb_tells}
use Rattle.pk_plan.specs.Nests.{Holds}
use Rattle.pk_wpo.specs.Constraints.{itself, exit_of_outermost, vertex}
use Rattle.pk_wpo.specs.Layouts.{Laid, IsLaid, IsInnermost, place_in}
use Rattle.pk_wpo.proofs.Placed.{Hold, exit_in, holding_head, head_vertex, same_place, hold_from, hold_trans, hold_or_not, hold_or_none}
use Rattle.pk_wpo.proofs.Homes.{home_of_each}
use Rattle.pk_wpo.proofs.Orders.{TopIn, HomeIn, has_vertex, innermost_by_home, innermost_itself}

-- what is still to come holds the component with the head j
abbrev pub Ahead : Laid → Option ℕ → ℕ → Type 0
Ahead l None j = ⊥
Ahead l (Some k) j = Hold l j k

abbrev pub IsNext : Laid → Option ℕ → ℕ → Type 0
IsNext l None u = Unit {0}
IsNext l (Some k) u = Hold l k u

-- no component was passed, and all that hold u are ahead; or the last one that was passed doesn't hold v, and holds each other that isn't ahead
abbrev pub Climbing : Laid → ℕ → ℕ → ℕ → Option ℕ → Type 0
Climbing l u v top next =
    IsNext l next u
    × (((top ≡ u) × ((j : ℕ) → Hold l j u → Ahead l next j))
    ⊎ ((h : ℕ) × (top ≡ exit_in l h) × Hold l h u × (Hold l h v → ⊥) × IsNext l next h × ((j : ℕ) → Hold l j u → Hold l h j ⊎ Ahead l next j)))

-- how far it can still go
abbrev pub rest_of : Laid → Option ℕ → ℕ
rest_of l None = 0
rest_of l (Some k) = place_in l k + 1

pub climb_begins : (l : Laid) (u v : ℕ) (next : Option ℕ) → IsInnermost (Holds l.items) u next → Climbing l u v u next
climb_begins l u v None inner = (tt, inl (refl, inner))
climb_begins l u v (Some h) inner = (inner.0, inl (refl, inner.1))

home_ahead : (l : Laid) (h j : ℕ) (home : Option ℕ) → HomeIn l h home → IsLaid l → Hold l j h → h ≢ j → Ahead l home j
home_ahead l h j None is_home laid x ne = ne (is_home j (holding_head l j h laid x) (vertex x))
home_ahead l h j (Some k) is_home laid x ne = is_home.3 j (holding_head l j h laid x) (vertex x) ne

home_holds : (l : Laid) (h u : ℕ) (home : Option ℕ) → HomeIn l h home → IsLaid l → Hold l h u → IsNext l home u
home_holds l h u None is_home laid x = tt
home_holds l h u (Some k) is_home laid x = hold_trans l k h u laid (has_vertex l k h laid is_home.1 (head_vertex l h u laid x)) x

ahead_or : (l : Laid) (h j : ℕ) (home : Option ℕ) → HomeIn l h home → IsLaid l → Hold l j h → Hold l h h → Hold l h j ⊎ Ahead l home j
ahead_or l h j home is_home laid x head = elim (eqb_tells h j) [
  | inl same ↦ inl (subst (λ (i : ℕ). Hold l h i) same.1 head)
  | inr other ↦ inr (home_ahead l h j home is_home laid x other.1)
]

pub climb_on : (l : Laid) (u v top h : ℕ) (home : Option ℕ) → IsLaid l → Climbing l u v top (Some h) → (Hold l h v → ⊥) → HomeIn l h home → Climbing l u v (exit_in l h) home
climb_on l u v top h home laid climbing out is_home =
    let head = holding_head l h u laid climbing.0 in (
      home_holds l h u home is_home laid climbing.0,
      inr (
        h,
        refl,
        climbing.0,
        out,
        home_holds l h h home is_home laid head,
        (λ j x. elim climbing.1 [
          | inl first ↦ ahead_or l h j home is_home laid (first.1 j x) head
          | inr later ↦ elim (later.5 j x) [
            | inl y ↦ inl (hold_trans l h later.0 j laid later.4 y)
            | inr y ↦ ahead_or l h j home is_home laid y head
          ]
        ]),
      ),
    )

pub climb_ends : (l : Laid) (u v top h : ℕ) → IsLaid l → Climbing l u v top (Some h) → Hold l h v → TopIn l u v top
climb_ends l u v top h laid climbing inside = elim climbing.1 [
  | inl first ↦ subst (λ (a : ℕ). TopIn l u v a) (sym first.0) (itself (λ j x. hold_trans l j h v laid (first.1 j x) inside))
  | inr later ↦ subst (λ (a : ℕ). TopIn l u v a) (sym later.1) (exit_of_outermost (record {
    with_one = later.2;
    without_other = later.3;
    outermost = λ j x out. elim (later.5 j x) [
      | inl y ↦ y
      | inr y ↦ absurd (out (hold_trans l j h v laid y inside))
    ];
  }))
]

pub climb_is_out : (l : Laid) (u v top : ℕ) → Climbing l u v top None → TopIn l u v top
climb_is_out l u v top climbing = elim climbing.1 [
  | inl first ↦ subst (λ (a : ℕ). TopIn l u v a) (sym first.0) (itself (λ j x. absurd (first.1 j x)))
  | inr later ↦ subst (λ (a : ℕ). TopIn l u v a) (sym later.1) (exit_of_outermost (record {
    with_one = later.2;
    without_other = later.3;
    outermost = λ j x out. elim (later.5 j x) [ inl y ↦ y | inr y ↦ absurd y ];
  }))
]

pub climb_shortens : (l : Laid) (h u : ℕ) (home : Option ℕ) → IsLaid l → Hold l h u → HomeIn l h home → rest_of l home < place_in l h + 1
climb_shortens l h u None laid x is_home = omega arith
climb_shortens l h u (Some k) laid x is_home =
    let h_in = head_vertex l h u laid x in
    let y : Hold l k h = has_vertex l k h laid is_home.1 h_in in
    let k_in = head_vertex l k h laid y in
    let from = hold_from l k h laid y in
    let ne : place_in l k ≢ place_in l h = (λ same. is_home.2 (sym (same_place l k h laid (omega (arith, k_in)) (omega (arith, h_in)) same))) in
    omega (arith, from, ne)

-- a vertex has a top against each other
climb_all : (l : Laid) (n u v top : ℕ) (next : Option ℕ) → IsLaid l → v < length l.graph → rest_of l next < n → Climbing l u v top next → (a : ℕ) × TopIn l u v a
climb_all l zero u v top next laid inside short climbing = absurd (omega (arith, short))
climb_all l (suc n) u v top None laid inside short climbing = (top, climb_is_out l u v top climbing)
climb_all l (suc n) u v top (Some h) laid inside short climbing = elim (hold_or_not l h v laid (holding_head l h u laid climbing.0) inside) [
  | inl x ↦ (top, climb_ends l u v top h laid climbing x)
  | inr out ↦
      let h_in = head_vertex l h u laid climbing.0 in
      let home = home_of_each l h laid (omega (arith, h_in)) in
      let shorter = climb_shortens l h u home.0 laid climbing.0 home.1 in
      climb_all l n u v (exit_in l h) home.0 laid inside (omega (arith, short, shorter)) (climb_on l u v top h home.0 laid climbing out home.1)
]

pub top_exists : (l : Laid) (u v : ℕ) → IsLaid l → u < length l.graph → v < length l.graph → (a : ℕ) × TopIn l u v a
top_exists l u v laid u_in v_in =
    let home = home_of_each l u laid (omega (arith, u_in)) in
    elim (hold_or_none l u laid u_in) [
      | inl x ↦ climb_all l (suc (rest_of l (Some u))) u v u (Some u) laid v_in (omega arith) (climb_begins l u v (Some u) (innermost_itself l u x))
      | inr none ↦ climb_all l (suc (rest_of l home.0)) u v u home.0 laid v_in (omega arith) (climb_begins l u v home.0 (innermost_by_home l u home.0 laid u_in none home.1))
    ]

-- it is the vertex, or the exit of a component that holds it
pub top_is : (l : Laid) (u v a : ℕ) → TopIn l u v a → (a ≡ u) ⊎ ((h : ℕ) × Hold l h u × (a ≡ exit_in l h))
top_is l u v a (itself f) = inl refl
top_is l u v a (exit_of_outermost {h} o) = inr (h, o.with_one, refl)
