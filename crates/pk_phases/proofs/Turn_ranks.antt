-- The rank that falls at each turn.
use Rattle.std.proofs.Common.{◌≡◌, ◌≢◌, ℕ, ◌+◌, ◌-◌, ◌*◌, ◌<◌, ◌≤◌, ◌==◌, ◌||◌, nat_lt, nat_le, Bool, true, false, cond, inl, inr, ap, sym, subst, ◌∙◌, refl, arith}
use Rattle.std.proofs.lemmas.Bool.{eq-eqb, ne_eqb}
use Rattle.std.proofs.lemmas.Bool.Decides.{nat_tests, eqb_tells}
use Rattle.pk_iterate.specs.declared.systems.Decision.{Decision}
use Rattle.pk_iterate.specs.declared.systems.Decision.TheVariants.{Stable, Again}
use Rattle.pk_iterate.specs.Behaviour.{Behaviour, decided_cell}
use Rattle.pk_plan.specs.Order.{Level, Empty, Vertex_then, Component_then}
use Rattle.pk_iterate.specs.Settled.{Once}
use Rattle.pk_iterate.specs.BoundedTurns.{HasComponent, with_cell, inputs_of, TurnsFall}
use Rattle.pk_iterate.proofs.Held.{MayHold, holds_map}
use Rattle.pk_iterate.proofs.Falling.{falling_ends}
use Rattle.pk_phases.specs.declared.phases.Phase.{Phase}
use Rattle.pk_phases.specs.declared.phases.Phase.TheVariants.{Delay, Up, Down, Last}
use Rattle.pk_phases.specs.Table.{first_phase_of, decision_of}
use Rattle.pk_phases.specs.Values.{Operations, next_value, decided_phase, IsRank}
use Rattle.pk_phases.specs.Turns.{Phasing, Held, phase_decision, GoesByPhases, turn_bound, PhasesEnd}

-- Before the delay ends two chains may come, in Up what is left of one and another, in Down another, and in Last what is left of it.
abbrev pub phase_rank : (delay narrow chain : ℕ) → Phase → ℕ → ℕ
phase_rank delay narrow chain (Delay j) r = (delay - (j + 1)) + (2 * chain + narrow)
phase_rank delay narrow chain Up r = r + (chain + narrow)
phase_rank delay narrow chain (Down k) r = (narrow - k) + chain
phase_rank delay narrow chain Last r = r

few : (delay narrow chain : ℕ) (phase : Phase) (r : ℕ) → r ≤ chain → phase_rank delay narrow chain phase r < turn_bound chain narrow delay
few delay narrow chain (Delay j) r most = omega arith
few delay narrow chain Up r most = omega arith
few delay narrow chain (Down k) r most = omega arith
few delay narrow chain Last r most = omega arith

-- what an exit that decides Again shows of the next phase
by_again : (Bound : Phase → Type 0) (target next : Phase) → ◌≡◌ {A = Decision Phase} (Again target) (Again next) → Bound target → Bound next
by_again Bound target next is here = let same : target ≡ next = cc in subst Bound same here

not_stable : (Bound : Phase → Type 0) (c next : Phase) → ◌≡◌ {A = Decision Phase} (Stable c) (Again next) → Bound next
not_stable Bound c next is = absurd (cc)

by_test : (Bound : Phase → Type 0) (t : Bool) (c target next : Phase) → cond t (Stable c) (Again target) ≡ Again next → (t ≡ false → Bound target) → Bound next
by_test Bound true c target next is here = not_stable Bound c next is
by_test Bound false c target next is here = by_again Bound target next is (here refl)

by_two : (Bound : Phase → Type 0) (t : Bool) (one other next : Phase) → cond t (Again one) (Again other) ≡ Again next → (t ≡ true → Bound one) → (t ≡ false → Bound other) → Bound next
by_two Bound true one other next is here there = by_again Bound one next is (here refl)
by_two Bound false one other next is here there = by_again Bound other next is (there refl)

or_left : (a b : Bool) → (a || b) ≡ false → a ≡ false
or_left true b e = e
or_left false b e = refl

some_narrow : (narrow : ℕ) (settled : Bool) → ((narrow == 0) || settled) ≡ false → 0 < narrow
some_narrow narrow settled e = let test : (narrow == 0) ≡ false = or_left (narrow == 0) settled e in grind (arith, nat_tests)

less_narrow : (narrow k : ℕ) (settled : Bool) → (nat_le narrow k || settled) ≡ false → k < narrow
less_narrow narrow k settled e = let test : nat_le narrow k ≡ false = or_left (nat_le narrow k) settled e in grind (arith, nat_tests)

less_delay : (j delay : ℕ) → nat_lt (j + 1) delay ≡ true → j + 1 < delay
less_delay j delay e = grind (arith, nat_tests)

module _ {V : Type 0} (ops : Operations V) (delay narrow chain : ℕ) (rank : V → ℕ) (h n : V) (most : rank h ≤ chain) where
  -- the next turn's rank is less
  abbrev Less : Phase → Phase → Type 0
  Less phase next = phase_rank delay narrow chain next (rank (next_value ops next h n)) < phase_rank delay narrow chain phase (rank h)

  by_phase : (phase next : Phase) (below settled : Bool) → (below ≡ false → rank (ops.widen h n) < rank h) → decision_of delay narrow phase below settled ≡ Again next → Less phase next
  by_phase (Delay j) next true settled fell is = by_test (Less (Delay j)) ((narrow == 0) || settled) (first_phase_of delay) (Down 1) next is (λ e. omega (arith, some_narrow narrow settled e))
  by_phase (Delay j) next false settled fell is = by_two (Less (Delay j)) (nat_lt (j + 1) delay) (Delay (j + 1)) Up next is (λ e. omega (arith, less_delay j delay e)) (λ e. omega (arith, fell refl))
  by_phase Up next true settled fell is = by_test (Less Up) ((narrow == 0) || settled) (first_phase_of delay) (Down 1) next is (λ e. omega (arith, some_narrow narrow settled e))
  by_phase Up next false settled fell is = by_again (Less Up) Up next is (omega (arith, fell refl))
  by_phase (Down k) next true settled fell is = by_test (Less (Down k)) (nat_le narrow k || settled) (first_phase_of delay) (Down (k + 1)) next is (λ e. omega (arith, less_narrow narrow k settled e))
  by_phase (Down k) next false settled fell is = by_again (Less (Down k)) Last next is (omega (arith, fell refl))
  by_phase Last next true settled fell is = not_stable (Less Last) (first_phase_of delay) next is
  by_phase Last next false settled fell is = by_again (Less Last) Last next is (fell refl)

module _ {V C : Type 0} (p : Phasing V C) (b : Behaviour C) (may_hold : ℕ → C → Type 0) (laws : MayHold b may_hold) (rank : V → ℕ) (chain head exit : ℕ) (apart : head ≢ exit) (g : GoesByPhases p b may_hold head exit) (r : IsRank p.ops (λ v. may_hold head (p.cell v)) chain rank) where
  -- the exit's new cell may be held
  held_next : (cells : ℕ → C) (c : C) → Held may_hold cells → b.decide exit (inputs_of b cells exit) ≡ Again c → Held may_hold (with_cell cells exit c)
  held_next cells c held again e =
      let now : may_hold exit c = subst (may_hold exit) (ap decided_cell again) (laws.decide exit (inputs_of b cells exit) (holds_map may_hold cells (b.reads exit) held)) in
      elim (eqb_tells exit e) [
        | inl same ↦ rw same.0 (subst (λ (v : ℕ). may_hold v c) same.1 now)
        | inr other ↦ rw other.0 (held e)
      ]

  -- the head's next run is by the exit's new phase, of the values by which the exit decided
  next_run : (cells : ℕ → C) (c : C) → Held may_hold cells → b.decide exit (inputs_of b cells exit) ≡ Again c → p.value (b.apply head (inputs_of b (with_cell cells exit c) head)) ≡ next_value p.ops (p.phase c) (p.value (cells head)) (g.new cells)
  next_run cells c held again =
      let exit_cell : with_cell cells exit c exit ≡ c = rw (eq-eqb exit exit refl) refl in
      let head_cell : with_cell cells exit c head ≡ cells head = rw (ne_eqb exit head (λ same. apart (sym same))) refl in
      g.runs (with_cell cells exit c) (held_next cells c held again)
      ∙ ap (λ (x : C). next_value p.ops (p.phase x) (p.value (with_cell cells exit c head)) (g.new (with_cell cells exit c))) exit_cell
      ∙ ap (λ (x : C). next_value p.ops (p.phase c) (p.value x) (g.new (with_cell cells exit c))) head_cell
      ∙ ap (next_value p.ops (p.phase c) (p.value (cells head))) (g.new_stays cells c)

  less : (cells : ℕ → C) (c : C) → Held may_hold cells → b.decide exit (inputs_of b cells exit) ≡ Again c
      → phase_rank p.delay p.narrow chain (p.phase c) (rank (p.value (b.apply head (inputs_of b (with_cell cells exit c) head)))) < phase_rank p.delay p.narrow chain (p.phase (cells exit)) (rank (p.value (cells head)))
  less cells c held again =
      let h : V = p.value (cells head) in
      let n : V = g.new cells in
      let held_h = g.value_held (cells head) (held head) in
      let held_n = g.new_held cells held in
      let decision : decided_phase p.ops p.delay p.narrow (p.phase (cells exit)) h n ≡ Again (p.phase c) = sym (g.decides cells held) ∙ ap (phase_decision p.phase) again in
      rw (next_run cells c held again) (by_phase p.ops p.delay p.narrow chain rank h n (r.few h held_h) (p.phase (cells exit)) (p.phase c) (p.ops.leq n h) (p.ops.same (p.ops.narrow h n) h) (r.falls h n held_h held_n) decision)

  -- a component that goes by the phases has falling turns
  pub phases_fall : TurnsFall b may_hold (turn_bound chain p.narrow p.delay) head exit
  phases_fall = record {
    rank = λ h x. phase_rank p.delay p.narrow chain (p.phase x) (rank (p.value h));
    below = λ h x held_h held_x. few p.delay p.narrow chain (p.phase x) (rank (p.value h)) (r.few (p.value h) (g.value_held h held_h));
    falls = less;
  }

-- a component's head isn't its exit
pub head_apart : (order : Level) → Once order → (head exit : ℕ) → HasComponent order head exit → head ≢ exit
head_apart Empty once head exit i = absurd i
head_apart (Vertex_then v more) once head exit i = head_apart more once.1 head exit i
head_apart (Component_then h x rest more) once head exit (inl i) = λ same. once.0 (sym i.0 ∙ same ∙ i.1)
head_apart (Component_then h x rest more) once head exit (inr (inl i)) = head_apart rest once.6 head exit i
head_apart (Component_then h x rest more) once head exit (inr (inr i)) = head_apart more once.7 head exit i

pub phases_end : (V : Type 0) {C : Type 0} (b : Behaviour C) (may_hold : ℕ → C → Type 0) → MayHold b may_hold → PhasesEnd V b may_hold
phases_end V b may_hold laws p rank chain order once each =
    falling_ends b may_hold laws order (turn_bound chain p.narrow p.delay) once
    (λ head exit i. let e = each head exit i in phases_fall p b may_hold laws rank chain head exit (head_apart order once head exit i) e.0 e.1)
