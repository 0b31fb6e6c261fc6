-- Where a rank falls from turn to turn, the recursion ends.
use Rattle.std.proofs.Common.{◌≡◌, ℕ, zero, suc, ◌<◌, ◌≤◌, inl, inr, List, [], ◌∷◌, ap, sym, subst, ◌∙◌, refl, arith}
use Rattle.pk_plan.specs.Order.{Level, Empty, Vertex_then, Component_then}
use Rattle.pk_iterate.specs.declared.systems.Decision.{Decision}
use Rattle.pk_iterate.specs.declared.systems.Decision.TheVariants.{Stable, Again}
use Rattle.pk_iterate.specs.Behaviour.{Behaviour, decided_cell}
use Rattle.pk_iterate.specs.Iteration.{cell_after, inputs_after}
use Rattle.pk_iterate.specs.Recursion.{Goes, nothing, vertex, stable, again, run_of}
use Rattle.pk_iterate.specs.Settled.{In, Once}
use Rattle.pk_iterate.specs.Ending.{Ends}
use Rattle.pk_iterate.specs.BoundedTurns.{HasComponent, TurnsFall, entry_turns, EntriesWithin, FallingTurnsEnd}
use Rattle.pk_iterate.proofs.Steps.{cell_same, cell_other}
use Rattle.pk_iterate.proofs.Held.{MayHold, holds_map, held_more}
use Rattle.pk_iterate.proofs.Determined.{goes_reached}

abbrev pub AllHeld : {C : Type 0} → Behaviour C → (ℕ → C → Type 0) → List (ℕ × C) → Type 0
AllHeld b may_hold runs = (e : ℕ) → may_hold e (cell_after b runs e)

-- a level is gone through, and leaves the cells of other elements as they were
pub record LevelEnds {C : Type 0} (b : Behaviour C) (may_hold : ℕ → C → Type 0) (most : ℕ) (level : Level) (runs : List (ℕ × C)) : Type 0 where
  pub after : List (ℕ × C)
  pub goes : Goes b level runs after
  pub within : EntriesWithin most goes
  pub held : AllHeld b may_hold after
  pub others : (e : ℕ) → (In level e → ⊥) → cell_after b after e ≡ cell_after b runs e

held_run : {C : Type 0} (b : Behaviour C) (may_hold : ℕ → C → Type 0) → MayHold b may_hold → (runs : List (ℕ × C)) (e : ℕ) → AllHeld b may_hold runs → AllHeld b may_hold (run_of b runs e ∷ runs)
held_run b may_hold laws runs e before =
    held_more b may_hold runs e (b.apply e (inputs_after b runs e)) before (laws.apply e (inputs_after b runs e) (holds_map may_hold (cell_after b runs) (b.reads e) before))

held_exit : {C : Type 0} (b : Behaviour C) (may_hold : ℕ → C → Type 0) → MayHold b may_hold → (runs : List (ℕ × C)) (x : ℕ) (c : C) → AllHeld b may_hold runs → decided_cell (b.decide x (inputs_after b runs x)) ≡ c → AllHeld b may_hold ((x, c) ∷ runs)
held_exit b may_hold laws runs x c before is =
    held_more b may_hold runs x c before (subst (may_hold x) is (laws.decide x (inputs_after b runs x) (holds_map may_hold (cell_after b runs) (b.reads x) before)))

vertex_ends : {C : Type 0} (b : Behaviour C) (may_hold : ℕ → C → Type 0) (most v : ℕ) (more : Level) (runs : List (ℕ × C)) → LevelEnds b may_hold most more (run_of b runs v ∷ runs) → LevelEnds b may_hold most (Vertex_then v more) runs
vertex_ends b may_hold most v more runs r = record {
  after = r.after;
  goes = vertex r.goes;
  within = r.within;
  held = r.held;
  others = λ e nin. r.others e (λ i. nin (inr i)) ∙ cell_other b runs v e (b.apply v (inputs_after b runs v)) (λ q. nin (inl q));
}

-- a component is gone through, with so many turns at most
record TurnsEnd {C : Type 0} (b : Behaviour C) (may_hold : ℕ → C → Type 0) (most head exit : ℕ) (rest more : Level) (runs : List (ℕ × C)) (turns : ℕ) : Type 0 where
  after : List (ℕ × C)
  goes : Goes b (Component_then head exit rest more) runs after
  few : entry_turns goes ≤ turns
  within : EntriesWithin most goes
  held : AllHeld b may_hold after
  others : (e : ℕ) → (In (Component_then head exit rest more) e → ⊥) → cell_after b after e ≡ cell_after b runs e

module _ {C : Type 0} (b : Behaviour C) (may_hold : ℕ → C → Type 0) (laws : MayHold b may_hold) (most head exit : ℕ) (rest more : Level)
    (once : Once (Component_then head exit rest more))
    (fall : TurnsFall b may_hold most head exit)
    (rest_ends : (runs : List (ℕ × C)) → AllHeld b may_hold runs → LevelEnds b may_hold most rest runs)
    (more_ends : (runs : List (ℕ × C)) → AllHeld b may_hold runs → LevelEnds b may_hold most more runs)
  where
    -- what the rank of a turn from these runs on is
    abbrev turn_rank : List (ℕ × C) → ℕ
    turn_rank runs = fall.rank (b.apply head (inputs_after b runs head)) (cell_after b runs exit)

    -- other elements keep their cells until the exit is run
    others_inside : (runs : List (ℕ × C)) (r : LevelEnds b may_hold most rest (run_of b runs head ∷ runs)) (c : C) (e : ℕ) → (In (Component_then head exit rest more) e → ⊥) → cell_after b ((exit, c) ∷ r.after) e ≡ cell_after b runs e
    others_inside runs r c e nin =
        cell_other b r.after exit e c (λ q. nin (inr (inl q)))
        ∙ r.others e (λ i. nin (inr (inr (inl i))))
        ∙ cell_other b runs head e (b.apply head (inputs_after b runs head)) (λ q. nin (inl q))

    by_decision : (turns : ℕ) (runs : List (ℕ × C)) (r : LevelEnds b may_hold most rest (run_of b runs head ∷ runs)) (d : Decision C) → b.decide exit (inputs_after b r.after exit) ≡ d → turn_rank runs < suc turns → suc turns ≤ most
        → ((runs' : List (ℕ × C)) → AllHeld b may_hold runs' → turn_rank runs' < turns → TurnsEnd b may_hold most head exit rest more runs' turns)
        → TurnsEnd b may_hold most head exit rest more runs (suc turns)
    by_decision turns runs r (Stable c) is below few next =
        let m = more_ends ((exit, c) ∷ r.after) (held_exit b may_hold laws r.after exit c r.held (ap decided_cell is)) in
        record {
          after = m.after;
          goes = stable r.goes is m.goes;
          few = omega arith;
          within = (omega arith, r.within, m.within);
          held = m.held;
          others = λ e nin. m.others e (λ i. nin (inr (inr (inr i)))) ∙ others_inside runs r c e nin;
        }
    by_decision turns runs r (Again c) is below few next =
        let inner = r.after in
        let runs' : List (ℕ × C) = (exit, c) ∷ inner in
        let fell = fall.falls (cell_after b inner) c r.held is in
        let head_is : cell_after b inner head ≡ b.apply head (inputs_after b runs head) = r.others head once.1 ∙ cell_same b runs head (b.apply head (inputs_after b runs head)) in
        let exit_is : cell_after b inner exit ≡ cell_after b runs exit = r.others exit once.3 ∙ cell_other b runs head exit (b.apply head (inputs_after b runs head)) (λ q. once.0 (sym q)) in
        let before : fall.rank (cell_after b inner head) (cell_after b inner exit) ≡ turn_rank runs = ap (λ (h : C). fall.rank h (cell_after b inner exit)) head_is ∙ ap (fall.rank (b.apply head (inputs_after b runs head))) exit_is in
        let now : turn_rank runs' ≡ fall.rank (b.apply head (inputs_after b runs' head)) c = ap (fall.rank (b.apply head (inputs_after b runs' head))) (cell_same b inner exit c) in
        let t = next runs' (held_exit b may_hold laws inner exit c r.held (ap decided_cell is)) (omega (arith, fell, before, now, below)) in
        record {
          after = t.after;
          goes = again r.goes is t.goes;
          few = omega (arith, t.few);
          within = (omega (arith, t.few, few), r.within, t.within);
          held = t.held;
          others = λ e nin. t.others e nin ∙ others_inside runs r c e nin;
        }

    turns_end : (turns : ℕ) → turns ≤ most → (runs : List (ℕ × C)) → AllHeld b may_hold runs → turn_rank runs < turns → TurnsEnd b may_hold most head exit rest more runs turns
    turns_end zero few runs held below = absurd (omega (arith, below))
    turns_end (suc turns) few runs held below =
        let r = rest_ends (run_of b runs head ∷ runs) (held_run b may_hold laws runs head held) in
        by_decision turns runs r (b.decide exit (inputs_after b r.after exit)) refl below few (λ runs' held' below'. turns_end turns (omega (arith, few)) runs' held' below')

    component_ends : (runs : List (ℕ × C)) → AllHeld b may_hold runs → LevelEnds b may_hold most (Component_then head exit rest more) runs
    component_ends runs held =
        let first = fall.below (b.apply head (inputs_after b runs head)) (cell_after b runs exit) (laws.apply head (inputs_after b runs head) (holds_map may_hold (cell_after b runs) (b.reads head) held)) (held exit) in
        let t = turns_end most (omega arith) runs held first in
        record { after = t.after; goes = t.goes; within = t.within; held = t.held; others = t.others }

-- each level is gone through
pub level_ends : {C : Type 0} (b : Behaviour C) (may_hold : ℕ → C → Type 0) → MayHold b may_hold → (most : ℕ) (level : Level) → Once level → ((head exit : ℕ) → HasComponent level head exit → TurnsFall b may_hold most head exit) → (runs : List (ℕ × C)) → AllHeld b may_hold runs → LevelEnds b may_hold most level runs
level_ends b may_hold laws most Empty once fall runs held = record { after = runs; goes = nothing; within = tt; held = held; others = λ e nin. refl }
level_ends b may_hold laws most (Vertex_then v more) once fall runs held =
    vertex_ends b may_hold most v more runs (level_ends b may_hold laws most more once.1 fall (run_of b runs v ∷ runs) (held_run b may_hold laws runs v held))
level_ends b may_hold laws most (Component_then head exit rest more) once fall runs held =
    component_ends b may_hold laws most head exit rest more once (fall head exit (inl (refl, refl)))
    (level_ends b may_hold laws most rest once.6 (λ h x i. fall h x (inr (inl i))))
    (level_ends b may_hold laws most more once.7 (λ h x i. fall h x (inr (inr i))))
    runs held

-- so the recursion ends
pub falling_ends : {C : Type 0} (b : Behaviour C) (may_hold : ℕ → C → Type 0) → MayHold b may_hold → FallingTurnsEnd b may_hold
falling_ends {C} b may_hold laws order most once fall =
    let r = level_ends b may_hold laws most order once fall [] laws.first in
    let n = goes_reached b order r.after r.goes in
    let ends : Ends b order = record { made = n.0; whole = n.2 } in
    let g = subst (λ (rs : List (ℕ × C)). (g : Goes b order [] rs) × EntriesWithin most g) (sym n.1) (r.goes, r.within) in
    record { ends = ends; goes = g.0; entries = g.1 }
