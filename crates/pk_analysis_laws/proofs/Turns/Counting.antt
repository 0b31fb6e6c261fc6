-- How often an element is run.
use Rattle.std.proofs.Common.{◌≡◌, ◌≢◌, ◌⊎◌, inl, inr, ℕ, suc, ◌+◌, ◌*◌, ◌^◌, ◌≤◌, ◌==◌, max, cond, List, ◌∷◌, ap, sym, subst, ◌∙◌, refl, arith}
use Rattle.std.proofs.Math.Nat.{mul-le-mul_left, mul-le-mul_right, pow-le-pow_right, pow-succ', one-le-pow, le-max_left, le-max_right}
use Rattle.std.proofs.lemmas.Bool.Decides.{eqb_tells}
use Rattle.std.proofs.lemmas.List.Sums.{sum_by-cons}
use Rattle.pk_plan.specs.Order.{Level, Empty, Vertex_then, Component_then}
use Rattle.pk_iterate.specs.Behaviour.{Behaviour}
use Rattle.pk_iterate.specs.Iteration.{count_of, inputs_after}
use Rattle.pk_iterate.specs.Recursion.{Goes, nothing, vertex, stable, again}
use Rattle.pk_iterate.specs.Settled.{In, Once}
use Rattle.pk_iterate.specs.BoundedTurns.{entry_turns, EntriesWithin}
use Rattle.pk_analysis_laws.specs.Turns.Counted.{once_at, runs_within, depth_of, RunsAreFew}

-- one run more
count_one : {C : Type 0} (runs : List (ℕ × C)) (v e : ℕ) (c : C) → count_of ((v, c) ∷ runs) e ≡ once_at v e + count_of runs e
count_one {C} runs v e c = sum_by-cons (λ (r : ℕ × C). cond (r.0 == e) 1 0) (v, c) runs

module _ {C : Type 0} (b : Behaviour C) (turns e : ℕ) where
  abbrev in_turn : (head exit : ℕ) → Level → ℕ
  in_turn head exit rest = once_at head e + (once_at exit e + runs_within turns rest e)

  -- with so many turns of the first component, if the level begins with one
  abbrev with_turns : ℕ → Level → ℕ
  with_turns n Empty = 0
  with_turns n (Vertex_then v more) = once_at v e + runs_within turns more e
  with_turns n (Component_then head exit rest more) = n * in_turn head exit rest + runs_within turns more e

  at_most : (n : ℕ) (level : Level) → n ≤ turns → with_turns n level ≤ runs_within turns level e
  at_most n Empty h = omega arith
  at_most n (Vertex_then v more) h = omega arith
  at_most n (Component_then head exit rest more) h = let times = mul-le-mul_right (in_turn head exit rest) h in omega (arith, times)

  few_turns : {level : Level} {runs after : List (ℕ × C)} (g : Goes b level runs after) → EntriesWithin turns g → entry_turns g ≤ turns
  few_turns nothing w = omega arith
  few_turns (vertex g) w = omega arith
  few_turns (stable g d h) w = w.0
  few_turns (again g d h) w = w.0

  grows : {level : Level} {runs after : List (ℕ × C)} (g : Goes b level runs after) → EntriesWithin turns g → count_of after e ≤ count_of runs e + with_turns (entry_turns g) level
  grows nothing w = omega arith
  grows (vertex {v = v} {more = more} {runs = runs} g) w =
      let one = count_one runs v e (b.apply v (inputs_after b runs v)) in
      let later = at_most (entry_turns g) more (few_turns g w) in
      omega (arith, one, later, grows g w)
  grows (stable {head = head} {exit = exit} {rest = rest} {more = more} {runs = runs} {inner = inner} {c = c} g d h) w =
      let first = count_one runs head e (b.apply head (inputs_after b runs head)) in
      let last = count_one inner exit e c in
      let inside = at_most (entry_turns g) rest (few_turns g w.1) in
      let later = at_most (entry_turns h) more (few_turns h w.2) in
      omega (arith, first, last, inside, later, grows g w.1, grows h w.2)
  grows (again {head = head} {exit = exit} {rest = rest} {more = more} {runs = runs} {inner = inner} {c = c} g d h) w =
      let first = count_one runs head e (b.apply head (inputs_after b runs head)) in
      let last = count_one inner exit e c in
      let inside = at_most (entry_turns g) rest (few_turns g w.1) in
      let another : suc (entry_turns h) * in_turn head exit rest ≡ in_turn head exit rest + entry_turns h * in_turn head exit rest = omega arith in
      omega (arith, first, last, inside, another, grows g w.1, grows h w.2)

  whole : {level : Level} {runs after : List (ℕ × C)} (g : Goes b level runs after) → EntriesWithin turns g → count_of after e ≤ count_of runs e + runs_within turns level e
  whole {level} g w = omega (arith, grows g w, at_most (entry_turns g) level (few_turns g w))

-- ---- the power

once_here : (v e : ℕ) → v ≡ e → once_at v e ≡ 1
once_here v e same = elim (eqb_tells v e) [
  | inl is ↦ rw is.0 refl
  | inr other ↦ absurd (other.1 same)
]

once_not : (v e : ℕ) → v ≢ e → once_at v e ≡ 0
once_not v e other = elim (eqb_tells v e) [
  | inl same ↦ absurd (other same.1)
  | inr is ↦ rw is.0 refl
]

module _ (turns e : ℕ) where
  outside : (level : Level) → (In level e → ⊥) → runs_within turns level e ≡ 0
  outside Empty h = refl
  outside (Vertex_then v more) h = omega (arith, once_not v e (λ s. h (inl (sym s))), outside more (λ i. h (inr i)))
  outside (Component_then head exit rest more) h =
      let first = once_not head e (λ s. h (inl (sym s))) in
      let last = once_not exit e (λ s. h (inr (inl (sym s)))) in
      let inside = outside rest (λ i. h (inr (inr (inl i)))) in
      let turn : once_at head e + (once_at exit e + runs_within turns rest e) ≡ 0 = omega (arith, first, last, inside) in
      let none : turns * 0 ≡ 0 = omega arith in
      let times : turns * (once_at head e + (once_at exit e + runs_within turns rest e)) ≡ 0 = ap (λ (n : ℕ). turns * n) turn ∙ none in
      omega (arith, times, outside more (λ i. h (inr (inr (inr i)))))

  in_or_not : (level : Level) → In level e ⊎ (In level e → ⊥)
  in_or_not Empty = inr (λ i. i)
  in_or_not (Vertex_then v more) = elim (eqb_tells e v) [
    | inl same ↦ inl (inl same.1)
    | inr other ↦ elim (in_or_not more) [
      | inl i ↦ inl (inr i)
      | inr n ↦ inr (λ i. elim i [ inl s ↦ other.1 s | inr j ↦ n j ])
    ]
  ]
  in_or_not (Component_then head exit rest more) = elim (eqb_tells e head) [
    | inl same ↦ inl (inl same.1)
    | inr no_head ↦ elim (eqb_tells e exit) [
      | inl same ↦ inl (inr (inl same.1))
      | inr no_exit ↦ elim (in_or_not rest) [
        | inl i ↦ inl (inr (inr (inl i)))
        | inr no_rest ↦ elim (in_or_not more) [
          | inl i ↦ inl (inr (inr (inr i)))
          | inr no_more ↦ inr (λ i. elim i [ inl s ↦ no_head.1 s | inr (inl s) ↦ no_exit.1 s | inr (inr (inl j)) ↦ no_rest j | inr (inr (inr j)) ↦ no_more j ])
        ]
      ]
    ]
  ]

  module _ (some : 1 ≤ turns) where
    -- one component more
    deeper : (x d m : ℕ) → x ≤ turns ^ d → turns * x ≤ turns ^ max (1 + d) m
    deeper x d m h =
        let times : turns * x ≤ turns * turns ^ d = mul-le-mul_left turns h in
        let one_more : 1 + d ≡ suc d = omega arith in
        let power : turns ^ (1 + d) ≡ turns * turns ^ d = ap (λ (n : ℕ). turns ^ n) one_more ∙ pow-succ' turns d in
        let up : turns ^ (1 + d) ≤ turns ^ max (1 + d) m = pow-le-pow_right some (le-max_left (1 + d) m) in
        omega (arith, times, power, up)

    beside : (x d m : ℕ) → x ≤ turns ^ m → x ≤ turns ^ max (1 + d) m
    beside x d m h = let up : turns ^ m ≤ turns ^ max (1 + d) m = pow-le-pow_right some (le-max_right (1 + d) m) in omega (arith, h, up)

    one_turn : (head exit : ℕ) (rest : Level) → head ≢ exit → (In rest head → ⊥) → (In rest exit → ⊥) → runs_within turns rest e ≤ turns ^ depth_of rest
        → once_at head e + (once_at exit e + runs_within turns rest e) ≤ turns ^ depth_of rest
    one_turn head exit rest apart no_head no_exit power =
        let some_power = one-le-pow (depth_of rest) turns some in
        elim (eqb_tells e head) [
          | inl same ↦
              let last = once_not exit e (λ s. apart (sym same.1 ∙ sym s)) in
              let inside = outside rest (subst (λ (u : ℕ). In rest u → ⊥) (sym same.1) no_head) in
              omega (arith, once_here head e (sym same.1), last, inside, some_power)
          | inr other ↦
              let first = once_not head e (λ s. other.1 (sym s)) in
              elim (eqb_tells e exit) [
                | inl same ↦
                    let inside = outside rest (subst (λ (u : ℕ). In rest u → ⊥) (sym same.1) no_exit) in
                    omega (arith, once_here exit e (sym same.1), first, inside, some_power)
                | inr another ↦ omega (arith, once_not exit e (λ s. another.1 (sym s)), first, power)
              ]
        ]

    powered : (level : Level) → Once level → runs_within turns level e ≤ turns ^ depth_of level
    powered Empty once = omega arith
    powered (Vertex_then v more) once = elim (eqb_tells e v) [
      | inl same ↦
          let none = outside more (subst (λ (u : ℕ). In more u → ⊥) (sym same.1) once.0) in
          omega (arith, none, once_here v e (sym same.1), one-le-pow (depth_of more) turns some)
      | inr other ↦ omega (arith, once_not v e (λ s. other.1 (sym s)), powered more once.1)
    ]
    powered (Component_then head exit rest more) once = elim (in_or_not more) [
      | inl later ↦
          let first = once_not head e (λ s. once.2 (subst (In more) (sym s) later)) in
          let last = once_not exit e (λ s. once.4 (subst (In more) (sym s) later)) in
          let inside = outside rest (λ i. once.5 e i later) in
          let turn : once_at head e + (once_at exit e + runs_within turns rest e) ≡ 0 = omega (arith, first, last, inside) in
          let none : turns * 0 ≡ 0 = omega arith in
          let times : turns * (once_at head e + (once_at exit e + runs_within turns rest e)) ≡ 0 = ap (λ (n : ℕ). turns * n) turn ∙ none in
          omega (arith, times, beside (runs_within turns more e) (depth_of rest) (depth_of more) (powered more once.7))
      | inr not_later ↦
          let turn = one_turn head exit rest once.0 once.1 once.3 (powered rest once.6) in
          omega (arith, outside more not_later, deeper (once_at head e + (once_at exit e + runs_within turns rest e)) (depth_of rest) (depth_of more) turn)
    ]

pub runs_are_few : {C : Type 0} (b : Behaviour C) → RunsAreFew b
runs_are_few {C} b = record {
  counts = λ order turns within e. let grown = whole b turns e within.goes within.entries in omega (arith, grown);
  power = λ order turns some once e. powered turns e some order once;
}
