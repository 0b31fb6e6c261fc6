-- A whole trace is settled.
use Rattle.std.proofs.Common.{◌≡◌, ◌≢◌, ℕ, ◌+◌, ◌<◌, ◌≤◌, inl, inr, List, [], ◌∷◌, ◌++◌, Bool, true, false, cond, ap, sym, subst, ◌∙◌, refl, arith, append_assoc, append-nil, ◌==◌}
use Rattle.std.proofs.lemmas.Bool.{eq-eqb, ne_eqb}
use Rattle.std.proofs.lemmas.List.Sums.{sum_by-cons, sum_by-append}
use Rattle.pk_plan.specs.Order.{Level, Empty, Vertex_then, Component_then}
use Rattle.pk_iterate.specs.declared.systems.Decision.TheVariants.{Stable}
use Rattle.pk_iterate.specs.Behaviour.{Behaviour}
use Rattle.pk_iterate.specs.Iteration.{count_of, cell_after, inputs_after, progress}
use Rattle.pk_iterate.specs.Runs.{runs_before}
use Rattle.pk_iterate.specs.Recursion.{Goes, nothing, vertex, stable, again, run_of}
use Rattle.pk_iterate.specs.Settled.{In, Once, Ahead, IsExit, before_newest, WholeIsSettled}
use Rattle.pk_iterate.proofs.Steps.{count_same, count_other}
use Rattle.pk_iterate.proofs.Recursion_runs.{goes_whole}

count-append : {C : Type 0} (xs ys : List (ℕ × C)) (e : ℕ) → count_of (xs ++ ys) e ≡ count_of xs e + count_of ys e
count-append {C} xs ys e = sum_by-append (λ (q : ℕ × C). cond (q.0 == e) 1 0) xs ys

count-is : {C : Type 0} (r : ℕ × C) (runs : List (ℕ × C)) (e : ℕ) (here : Bool) → (r.0 == e) ≡ here → count_of (r ∷ runs) e ≡ cond here 1 0 + count_of runs e
count-is {C} r runs e here is = sum_by-cons (λ (q : ℕ × C). cond (q.0 == e) 1 0) r runs ∙ ap (λ (t : Bool). cond t 1 0 + count_of runs e) is

-- the newest run is in the newer part, or not
in_by : {C : Type 0} (r : ℕ × C) (xs ys : List (ℕ × C)) (e : ℕ) (here : Bool) → (r.0 == e) ≡ here → 0 < count_of (r ∷ xs) e → (0 < count_of xs e → before_newest (xs ++ ys) e ≡ before_newest xs e ++ ys) → before_newest ((r ∷ xs) ++ ys) e ≡ before_newest (r ∷ xs) e ++ ys
in_by r xs ys e true is some more = rw is refl
in_by r xs ys e false is some more = rw is (more (omega (arith, some, count-is r xs e false is)))

newest_in : {C : Type 0} (xs ys : List (ℕ × C)) (e : ℕ) → 0 < count_of xs e → before_newest (xs ++ ys) e ≡ before_newest xs e ++ ys
newest_in [] ys e some = absurd (omega (arith, some))
newest_in (r ∷ xs) ys e some = in_by r xs ys e (r.0 == e) refl some (newest_in xs ys e)

out_by : {C : Type 0} (r : ℕ × C) (xs ys : List (ℕ × C)) (e : ℕ) (here : Bool) → (r.0 == e) ≡ here → count_of (r ∷ xs) e ≡ 0 → (count_of xs e ≡ 0 → before_newest (xs ++ ys) e ≡ before_newest ys e) → before_newest ((r ∷ xs) ++ ys) e ≡ before_newest ys e
out_by r xs ys e true is none more = absurd (omega (arith, none, count-is r xs e true is))
out_by r xs ys e false is none more = rw is (more (omega (arith, none, count-is r xs e false is)))

newest_out : {C : Type 0} (xs ys : List (ℕ × C)) (e : ℕ) → count_of xs e ≡ 0 → before_newest (xs ++ ys) e ≡ before_newest ys e
newest_out [] ys e none = refl
newest_out (r ∷ xs) ys e none = out_by r xs ys e (r.0 == e) refl none (newest_out xs ys e)

cell_by_out : {C : Type 0} (b : Behaviour C) (r : ℕ × C) (xs ys : List (ℕ × C)) (e : ℕ) (here : Bool) → (r.0 == e) ≡ here → count_of (r ∷ xs) e ≡ 0 → (count_of xs e ≡ 0 → cell_after b (xs ++ ys) e ≡ cell_after b ys e) → cell_after b ((r ∷ xs) ++ ys) e ≡ cell_after b ys e
cell_by_out b r xs ys e true is none more = absurd (omega (arith, none, count-is r xs e true is))
cell_by_out b r xs ys e false is none more = rw is (more (omega (arith, none, count-is r xs e false is)))

cell_out : {C : Type 0} (b : Behaviour C) (xs ys : List (ℕ × C)) (e : ℕ) → count_of xs e ≡ 0 → cell_after b (xs ++ ys) e ≡ cell_after b ys e
cell_out b [] ys e none = refl
cell_out b (r ∷ xs) ys e none = cell_by_out b r xs ys e (r.0 == e) refl none (cell_out b xs ys e)

le_by : {C : Type 0} (r : ℕ × C) (xs : List (ℕ × C)) (e u : ℕ) (here : Bool) → (r.0 == e) ≡ here → count_of xs u ≤ count_of (r ∷ xs) u → count_of (before_newest xs e) u ≤ count_of xs u → count_of (before_newest (r ∷ xs) e) u ≤ count_of (r ∷ xs) u
le_by r xs e u true is one more = rw is one
le_by r xs e u false is one more = rw is (omega (arith, one, more))

newest_le : {C : Type 0} (xs : List (ℕ × C)) (e u : ℕ) → count_of (before_newest xs e) u ≤ count_of xs u
newest_le [] e u = omega arith
newest_le (r ∷ xs) e u = le_by r xs e u (r.0 == e) refl (let all = count-is r xs u (r.0 == u) refl in omega (arith, all)) (newest_le xs e u)

-- u wasn't run after e's newest run
abbrev Old : {C : Type 0} → List (ℕ × C) → ℕ → ℕ → Type 0
Old runs u e = count_of (before_newest runs e) u ≡ count_of runs u

newer : {C : Type 0} (xs ys : List (ℕ × C)) (u e : ℕ) → 0 < count_of xs e → Old xs u e → Old (xs ++ ys) u e
newer {C} xs ys u e some old =
    ap (λ (rs : List (ℕ × C)). count_of rs u) (newest_in xs ys e some) ∙ count-append (before_newest xs e) ys u ∙ ap (λ (k : ℕ). k + count_of ys u) old ∙ sym (count-append xs ys u)

apart : {C : Type 0} (xs ys : List (ℕ × C)) (u e : ℕ) → 0 < count_of xs e → count_of xs u ≡ 0 → Old (xs ++ ys) u e
apart xs ys u e some none = newer xs ys u e some (omega (arith, none, newest_le xs e u))

older : {C : Type 0} (xs ys : List (ℕ × C)) (u e : ℕ) → count_of xs e ≡ 0 → count_of xs u ≡ 0 → Old ys u e → Old (xs ++ ys) u e
older {C} xs ys u e no_e no_u old =
    ap (λ (rs : List (ℕ × C)). count_of rs u) (newest_out xs ys e no_e) ∙ old ∙ omega (arith, count-append xs ys u, no_u)

one_is : {C : Type 0} (e : ℕ) (c : C) → 0 < count_of ((e, c) ∷ []) e
one_is e c = omega (arith, count_same [] e c)

one_not : {C : Type 0} (e u : ℕ) (c : C) → u ≢ e → count_of ((e, c) ∷ []) u ≡ 0
one_not e u c ne = count_other [] e u c ne

pub ahead_in : (level : Level) (u e : ℕ) → Ahead level u e → In level u × In level e
ahead_in Empty u e a = absurd a
ahead_in (Vertex_then v more) u e (inl a) = (inl a.0, inr a.1)
ahead_in (Vertex_then v more) u e (inr a) = let i = ahead_in more u e a in (inr i.0, inr i.1)
ahead_in (Component_then h x rest more) u e (inl (a, inl i)) = (inl a, inr (inr (inl i)))
ahead_in (Component_then h x rest more) u e (inl (a, inr (inl i))) = (inl a, inr (inl i))
ahead_in (Component_then h x rest more) u e (inl (a, inr (inr i))) = (inl a, inr (inr (inr i)))
ahead_in (Component_then h x rest more) u e (inr (inl (a, inl i))) = (inr (inr (inl a)), inr (inl i))
ahead_in (Component_then h x rest more) u e (inr (inl (a, inr i))) = (inr (inr (inl a)), inr (inr (inr i)))
ahead_in (Component_then h x rest more) u e (inr (inr (inl (a, i)))) = (inr (inl a), inr (inr (inr i)))
ahead_in (Component_then h x rest more) u e (inr (inr (inr (inl a)))) = let i = ahead_in rest u e a in (inr (inr (inl i.0)), inr (inr (inl i.1)))
ahead_in (Component_then h x rest more) u e (inr (inr (inr (inr a)))) = let i = ahead_in more u e a in (inr (inr (inr i.0)), inr (inr (inr i.1)))

exit_in : (level : Level) (x : ℕ) → IsExit level x → In level x
exit_in Empty y a = absurd a
exit_in (Vertex_then v more) y a = inr (exit_in more y a)
exit_in (Component_then h x rest more) y (inl a) = inr (inl a)
exit_in (Component_then h x rest more) y (inr (inl a)) = inr (inr (inl (exit_in rest y a)))
exit_in (Component_then h x rest more) y (inr (inr a)) = inr (inr (inr (exit_in more y a)))

-- the runs that a level adds
record Added {C : Type 0} (b : Behaviour C) (level : Level) (runs after : List (ℕ × C)) : Type 0 where
  new : List (ℕ × C)
  is : after ≡ new ++ runs
  each : (e : ℕ) → In level e → 0 < count_of new e
  only : (u : ℕ) → (In level u → ⊥) → count_of new u ≡ 0
  ahead : (u e : ℕ) → Ahead level u e → Old new u e
  ends : (x : ℕ) → IsExit level x → (c : C) × (b.decide x (inputs_after b (before_newest after x) x) ≡ Stable c) × (cell_after b after x ≡ c)

none_none : {C : Type 0} (b : Behaviour C) (runs : List (ℕ × C)) → Added b Empty runs runs
none_none b runs = record { new = []; is = refl; each = λ e i. absurd i; only = λ u nin. refl; ahead = λ u e a. absurd a; ends = λ x i. absurd i }

after_vertex : {C : Type 0} (b : Behaviour C) (v : ℕ) (c : C) (more : Level) (runs after : List (ℕ × C)) → (In more v → ⊥) → Added b more ((v, c) ∷ runs) after → Added b (Vertex_then v more) runs after
after_vertex {C} b v c more runs after fresh r = record {
  new = r.new ++ (v, c) ∷ [];
  is = r.is ∙ sym (append_assoc r.new ((v, c) ∷ []) runs);
  each = each;
  only = λ u nin. omega (arith, count-append r.new ((v, c) ∷ []) u, r.only u (λ i. nin (inr i)), one_not v u c (λ q. nin (inl q)));
  ahead = ahead;
  ends = r.ends;
}
  where
    each : (e : ℕ) → In (Vertex_then v more) e → 0 < count_of (r.new ++ (v, c) ∷ []) e
    each e (inl q) = omega (arith, count-append r.new ((v, c) ∷ []) e, subst (λ (k : ℕ). 0 < count_of ((v, c) ∷ []) k) (sym q) (one_is v c))
    each e (inr i) = omega (arith, count-append r.new ((v, c) ∷ []) e, r.each e i)

    ahead : (u e : ℕ) → Ahead (Vertex_then v more) u e → Old (r.new ++ (v, c) ∷ []) u e
    ahead u e (inl (q, i)) = apart r.new ((v, c) ∷ []) u e (r.each e i) (r.only u (λ j. fresh (subst (λ (k : ℕ). In more k) q j)))
    ahead u e (inr a) = newer r.new ((v, c) ∷ []) u e (r.each e (ahead_in more u e a).1) (r.ahead u e a)

-- a component whose exit is stable, and what follows
after_stable : {C : Type 0} (b : Behaviour C) (h x : ℕ) (d c : C) (rest more : Level) (runs inner after : List (ℕ × C)) → Once (Component_then h x rest more) → b.decide x (inputs_after b inner x) ≡ Stable c → Added b rest ((h, d) ∷ runs) inner → Added b more ((x, c) ∷ inner) after → Added b (Component_then h x rest more) runs after
after_stable {C} b h x d c rest more runs inner after once is_stable r m = record {
  new = m.new ++ old;
  is = m.is ∙ ap (λ (rs : List (ℕ × C)). m.new ++ (x, c) ∷ rs) (r.is ∙ sym (append_assoc r.new ((h, d) ∷ []) runs)) ∙ sym (append_assoc m.new old runs);
  each = each;
  only = only;
  ahead = ahead;
  ends = ends;
}
  where
    body : List (ℕ × C)
    body = r.new ++ (h, d) ∷ []

    old : List (ℕ × C)
    old = (x, c) ∷ body

    counts : (u : ℕ) → count_of (m.new ++ old) u ≡ count_of m.new u + (count_of ((x, c) ∷ []) u + (count_of r.new u + count_of ((h, d) ∷ []) u))
    counts u = count-append m.new old u ∙ ap (λ (k : ℕ). count_of m.new u + k) (count-append ((x, c) ∷ []) body u ∙ ap (λ (k : ℕ). count_of ((x, c) ∷ []) u + k) (count-append r.new ((h, d) ∷ []) u))

    each : (e : ℕ) → In (Component_then h x rest more) e → 0 < count_of (m.new ++ old) e
    each e (inl q) = omega (arith, counts e, subst (λ (k : ℕ). 0 < count_of ((h, d) ∷ []) k) (sym q) (one_is h d))
    each e (inr (inl q)) = omega (arith, counts e, subst (λ (k : ℕ). 0 < count_of ((x, c) ∷ []) k) (sym q) (one_is x c))
    each e (inr (inr (inl i))) = omega (arith, counts e, r.each e i)
    each e (inr (inr (inr i))) = omega (arith, counts e, m.each e i)

    only : (u : ℕ) → (In (Component_then h x rest more) u → ⊥) → count_of (m.new ++ old) u ≡ 0
    only u nin = omega (arith, counts u, m.only u (λ i. nin (inr (inr (inr i)))), r.only u (λ i. nin (inr (inr (inl i)))), one_not x u c (λ q. nin (inr (inl q))), one_not h u d (λ q. nin (inl q)))

    head_not_more : (u : ℕ) → u ≡ h → In more u → ⊥
    head_not_more u q i = once.2 (subst (λ (k : ℕ). In more k) q i)

    head_not_rest : (u : ℕ) → u ≡ h → In rest u → ⊥
    head_not_rest u q i = once.1 (subst (λ (k : ℕ). In rest k) q i)

    head_not_exit : (u : ℕ) → u ≡ h → u ≢ x
    head_not_exit u q p = once.0 (sym q ∙ p)

    exit_not_rest : (u : ℕ) → u ≡ x → In rest u → ⊥
    exit_not_rest u q i = once.3 (subst (λ (k : ℕ). In rest k) q i)

    exit_not_more : (u : ℕ) → u ≡ x → In more u → ⊥
    exit_not_more u q i = once.4 (subst (λ (k : ℕ). In more k) q i)

    rest_not_exit : (u : ℕ) → In rest u → u ≢ x
    rest_not_exit u i q = exit_not_rest u q i

    rest_not_more : (u : ℕ) → In rest u → In more u → ⊥
    rest_not_more u i j = once.5 u i j

    -- of the body
    past : (u e : ℕ) → (In more e → ⊥) → (In more u → ⊥) → e ≢ x → u ≢ x → Old body u e → Old (m.new ++ old) u e
    past u e e_more u_more e_exit u_exit o = older m.new old u e (m.only e e_more) (m.only u u_more) (older ((x, c) ∷ []) body u e (one_not x e c e_exit) (one_not x u c u_exit) o)

    at_exit : (u e : ℕ) → e ≡ x → (In more u → ⊥) → u ≢ x → Old (m.new ++ old) u e
    at_exit u e q u_more u_exit = older m.new old u e (m.only e (exit_not_more e q)) (m.only u u_more) (apart ((x, c) ∷ []) body u e (subst (λ (k : ℕ). 0 < count_of ((x, c) ∷ []) k) (sym q) (one_is x c)) (one_not x u c u_exit))

    ahead : (u e : ℕ) → Ahead (Component_then h x rest more) u e → Old (m.new ++ old) u e
    ahead u e (inl (q, inl i)) = past u e (rest_not_more e i) (head_not_more u q) (rest_not_exit e i) (head_not_exit u q) (apart r.new ((h, d) ∷ []) u e (r.each e i) (r.only u (head_not_rest u q)))
    ahead u e (inl (q, inr (inl p))) = at_exit u e p (head_not_more u q) (head_not_exit u q)
    ahead u e (inl (q, inr (inr i))) = apart m.new old u e (m.each e i) (m.only u (head_not_more u q))
    ahead u e (inr (inl (i, inl p))) = at_exit u e p (rest_not_more u i) (rest_not_exit u i)
    ahead u e (inr (inl (i, inr j))) = apart m.new old u e (m.each e j) (m.only u (rest_not_more u i))
    ahead u e (inr (inr (inl (q, i)))) = apart m.new old u e (m.each e i) (m.only u (exit_not_more u q))
    ahead u e (inr (inr (inr (inl a)))) =
        let i = ahead_in rest u e a in
        past u e (rest_not_more e i.1) (rest_not_more u i.0) (rest_not_exit e i.1) (rest_not_exit u i.0) (newer r.new ((h, d) ∷ []) u e (r.each e i.1) (r.ahead u e a))
    ahead u e (inr (inr (inr (inr a)))) = newer m.new old u e (m.each e (ahead_in more u e a).1) (m.ahead u e a)

    before_more : (y : ℕ) → (In more y → ⊥) → before_newest after y ≡ before_newest ((x, c) ∷ inner) y
    before_more y nin = ap (λ (rs : List (ℕ × C)). before_newest rs y) m.is ∙ newest_out m.new ((x, c) ∷ inner) y (m.only y nin)

    cell_more : (y : ℕ) → (In more y → ⊥) → cell_after b after y ≡ cell_after b ((x, c) ∷ inner) y
    cell_more y nin = ap (λ (rs : List (ℕ × C)). cell_after b rs y) m.is ∙ cell_out b m.new ((x, c) ∷ inner) y (m.only y nin)

    decides : (y : ℕ) (before : List (ℕ × C)) → before_newest after y ≡ before → b.decide y (inputs_after b (before_newest after y) y) ≡ b.decide y (inputs_after b before y)
    decides y before same = ap (λ (rs : List (ℕ × C)). b.decide y (inputs_after b rs y)) same

    ends : (y : ℕ) → IsExit (Component_then h x rest more) y → (k : C) × (b.decide y (inputs_after b (before_newest after y) y) ≡ Stable k) × (cell_after b after y ≡ k)
    ends y (inl q) =
        let nin = exit_not_more y q in
        let newest : before_newest after y ≡ inner = before_more y nin ∙ rw (eq-eqb x y (sym q)) refl in
        let cell : cell_after b after y ≡ c = cell_more y nin ∙ rw (eq-eqb x y (sym q)) refl in
        (c, decides y inner newest ∙ subst (λ (z : ℕ). b.decide z (inputs_after b inner z) ≡ Stable c) (sym q) is_stable, cell)
    ends y (inr (inl i)) =
        let j = exit_in rest y i in
        let nin = rest_not_more y j in
        let other : x ≢ y = λ q. rest_not_exit y j (sym q) in
        let newest : before_newest after y ≡ before_newest inner y = before_more y nin ∙ rw (ne_eqb x y other) refl in
        let cell : cell_after b after y ≡ cell_after b inner y = cell_more y nin ∙ rw (ne_eqb x y other) refl in
        let known = r.ends y i in
        (known.0, decides y (before_newest inner y) newest ∙ known.1, cell ∙ known.2)
    ends y (inr (inr i)) = m.ends y i

-- a component that is gone through again
after_again : {C : Type 0} (b : Behaviour C) (h x : ℕ) (d c : C) (rest more : Level) (runs inner after : List (ℕ × C)) → Added b rest ((h, d) ∷ runs) inner → Added b (Component_then h x rest more) ((x, c) ∷ inner) after → Added b (Component_then h x rest more) runs after
after_again {C} b h x d c rest more runs inner after r m = record {
  new = m.new ++ old;
  is = m.is ∙ ap (λ (rs : List (ℕ × C)). m.new ++ (x, c) ∷ rs) (r.is ∙ sym (append_assoc r.new ((h, d) ∷ []) runs)) ∙ sym (append_assoc m.new old runs);
  each = λ e i. omega (arith, count-append m.new old e, m.each e i);
  only = λ u nin. omega (arith, count-append m.new old u, count-append ((x, c) ∷ []) body u, count-append r.new ((h, d) ∷ []) u, m.only u nin, r.only u (λ i. nin (inr (inr (inl i)))), one_not x u c (λ q. nin (inr (inl q))), one_not h u d (λ q. nin (inl q)));
  ahead = λ u e a. newer m.new old u e (m.each e (ahead_in (Component_then h x rest more) u e a).1) (m.ahead u e a);
  ends = m.ends;
}
  where
    body : List (ℕ × C)
    body = r.new ++ (h, d) ∷ []

    old : List (ℕ × C)
    old = (x, c) ∷ body

added : {C : Type 0} (b : Behaviour C) {level : Level} {runs after : List (ℕ × C)} → Goes b level runs after → Once level → Added b level runs after
added b (nothing {runs = runs}) once = none_none b runs
added b (vertex {v = v} {more = more} {runs = runs} {after = after} g) once = after_vertex b v (run_of b runs v).1 more runs after once.0 (added b g once.1)
added b (stable {head = h} {exit = x} {rest = rest} {more = more} {runs = runs} {inner = inner} {after = after} {c = c} g is k) once =
    after_stable b h x (run_of b runs h).1 c rest more runs inner after once is (added b g once.6) (added b k once.7)
added b (again {head = h} {exit = x} {rest = rest} {more = more} {runs = runs} {inner = inner} {after = after} {c = c} g is k) once =
    after_again b h x (run_of b runs h).1 c rest more runs inner after (added b g once.6) (added b k once)

cell_by : {C : Type 0} (b : Behaviour C) (r : ℕ × C) (runs : List (ℕ × C)) (u : ℕ) (here : Bool) → (r.0 == u) ≡ here → count_of (r ∷ runs) u ≡ count_of runs u → cell_after b runs u ≡ cell_after b (r ∷ runs) u
cell_by b r runs u true is same = absurd (omega (arith, same, count-is r runs u true is))
cell_by b r runs u false is same = rw is refl

read_by : {C : Type 0} (b : Behaviour C) (r : ℕ × C) (runs : List (ℕ × C)) (u e : ℕ) (here : Bool) → (r.0 == e) ≡ here → Old (r ∷ runs) u e → (Old runs u e → cell_after b (before_newest runs e) u ≡ cell_after b runs u) → cell_after b (before_newest (r ∷ runs) e) u ≡ cell_after b (r ∷ runs) u
read_by {C} b r runs u e true is old more =
    let here : before_newest (r ∷ runs) e ≡ runs = rw is refl in
    ap (λ (rs : List (ℕ × C)). cell_after b rs u) here ∙ cell_by b r runs u (r.0 == u) refl (sym old ∙ ap (λ (rs : List (ℕ × C)). count_of rs u) here)
read_by {C} b r runs u e false is old more =
    let past : before_newest (r ∷ runs) e ≡ before_newest runs e = rw is refl in
    let count : count_of (before_newest runs e) u ≡ count_of (r ∷ runs) u = sym (ap (λ (rs : List (ℕ × C)). count_of rs u) past) ∙ old in
    let all = count-is r runs u (r.0 == u) refl in
    let few = newest_le runs e u in
    let same : count_of (r ∷ runs) u ≡ count_of runs u = omega (arith, count, all, few) in
    ap (λ (rs : List (ℕ × C)). cell_after b rs u) past ∙ more (count ∙ same) ∙ cell_by b r runs u (r.0 == u) refl same

reads_end : {C : Type 0} (b : Behaviour C) (runs : List (ℕ × C)) (u e : ℕ) → Old runs u e → cell_after b (before_newest runs e) u ≡ cell_after b runs u
reads_end b [] u e old = refl
reads_end b (r ∷ runs) u e old = read_by b r runs u e (r.0 == e) refl old (reads_end b runs u e)

named_by : {C : Type 0} (r : ℕ × C) (runs : List (ℕ × C)) (e : ℕ) (here : Bool) → (r.0 == e) ≡ here → (0 < count_of runs e → runs_before runs e (count_of runs e) ≡ before_newest runs e) → 0 < count_of (r ∷ runs) e → runs_before (r ∷ runs) e (count_of (r ∷ runs) e) ≡ before_newest (r ∷ runs) e
named_by r runs e true is more some =
    let count : count_of (r ∷ runs) e ≡ count_of runs e + 1 = omega (arith, count-is r runs e true is) in
    rw (count, is, eq-eqb (count_of runs e + 1) (count_of runs e + 1) refl) refl
named_by r runs e false is more some =
    let count : count_of (r ∷ runs) e ≡ count_of runs e = omega (arith, count-is r runs e false is) in
    rw (count, is) (more (omega (arith, some, count)))

named : {C : Type 0} (runs : List (ℕ × C)) (e : ℕ) → 0 < count_of runs e → runs_before runs e (count_of runs e) ≡ before_newest runs e
named [] e some = refl
named (r ∷ runs) e some = named_by r runs e (r.0 == e) refl (named runs e) some

pub whole_settled : {C : Type 0} (b : Behaviour C) → WholeIsSettled b
whole_settled {C} b order n once none =
    let r = added b (goes_whole b order n none) once in
    let same : (progress b order n).runs ≡ r.new = r.is ∙ append-nil r.new in
    record {
      each = λ e i. subst (λ (rs : List (ℕ × C)). 0 < count_of rs e) (sym same) (r.each e i);
      ahead = λ u e a. subst (λ (rs : List (ℕ × C)). count_of (before_newest rs e) u ≡ count_of rs u) (sym same) (r.ahead u e a);
      read = λ u e a. reads_end b (progress b order n).runs u e (subst (λ (rs : List (ℕ × C)). Old rs u e) (sym same) (r.ahead u e a));
      named = λ e i. named (progress b order n).runs e (subst (λ (rs : List (ℕ × C)). 0 < count_of rs e) (sym same) (r.each e i));
      ends = r.ends;
    }
