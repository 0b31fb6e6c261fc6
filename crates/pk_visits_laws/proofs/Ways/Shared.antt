-- The edges of a point that has one way share their accesses.
use Rattle.std.proofs.Common.{◌≡◌, ℕ, ◌<◌, ◌≤◌, ◌⊎◌, List, [], ◌∷◌, length, refl, sym, ap, ◌∙◌, subst, inl, inr, arith}
use Rattle.std.specs.Prelude.{All}
use Rattle.std.proofs.lemmas.List.{get_or_past}
use Rattle.std.proofs.lemmas.List.Elements.{All-cons, All-get_or}
use Rattle.pk_graph.specs.Accesses.{of_instr}
use Rattle.pk_graph.specs.Graphs.{EdgeOf, PointOf, GraphOf, no_point, point_at}
use Rattle.pk_lower.specs.Graphs.{graph_of}
use Rattle.pk_visits_laws.specs.Ways.OneWay.{AreGuards, IsOneWay, SharesAccesses, PointsHaveOneWay, PointsShareAccesses}

guards_share : (p : ℕ) (e f : EdgeOf) → AreGuards e f → of_instr p f.instr ≡ of_instr p e.instr
unfolding of_instr
guards_share p e f (t, a, b) = ap (of_instr p) b ∙ sym (ap (of_instr p) a)

shares : (p : ℕ) (es : List EdgeOf) → IsOneWay es → SharesAccesses p es
shares p [] h = λ k e low. absurd (omega (arith, low))
shares p (e ∷ []) h = All-cons (λ (i : EdgeOf). of_instr p i.instr ≡ of_instr p e.instr) e [] refl (λ k i low. absurd (omega (arith, low)))
shares p (e ∷ f ∷ []) h = All-cons (λ (i : EdgeOf). of_instr p i.instr ≡ of_instr p e.instr) e (f ∷ []) refl (All-cons (λ (i : EdgeOf). of_instr p i.instr ≡ of_instr p e.instr) f [] (guards_share p e f h) (λ k i low. absurd (omega (arith, low))))
shares p (e ∷ f ∷ g ∷ es) h = absurd h

within : (m n : ℕ) → (m < n) ⊎ (n ≤ m)
within m n = grind arith

way_at : (g : GraphOf) (p : ℕ) → All (λ (x : PointOf). IsOneWay x.edges) g.points → IsOneWay (point_at g p).edges
way_at g p h = by (within p (length g.points)) where
  by : (p < length g.points) ⊎ (length g.points ≤ p) → IsOneWay (point_at g p).edges
  by (inl low) = All-get_or (λ (x : PointOf). IsOneWay x.edges) g.points p no_point low h
  by (inr le) = subst IsOneWay (sym (ap (λ (x : PointOf). x.edges) (get_or_past g.points p no_point le))) tt

pub points_share : PointsHaveOneWay → PointsShareAccesses
points_share law u name paths unit marked has few p = shares p (point_at (graph_of u paths) p).edges (way_at (graph_of u paths) p (law u name paths unit marked has few))
