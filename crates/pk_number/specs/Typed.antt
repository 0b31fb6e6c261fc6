-- Drafts whose trees are typed over their variables, and whose edges, paths and names are there.
use Rattle.std.specs.Prelude.{ℕ, ◌<◌, ◌^◌, length, map, All}
use Rattle.pk_graph.specs.Kinds.{IsTypedInstr}
use Rattle.pk_graph.specs.Graphs.{VariableOf}
use Rattle.pk_graph.specs.WellMade.{IsStartOf}
use Rattle.pk_graph.specs.declared.graphs.Scope.{Scope}
use Rattle.pk_draft.specs.declared.drafts.Label.{Label}
use Rattle.pk_draft.specs.Drafts.{EdgeFrom, DraftOf, entry_point}

pub record IsTypedEdge (d : DraftOf ℕ) (e : EdgeFrom ℕ) : Type 0 where
  pub from : e.from < length d.labels
  pub to : e.to < length d.labels
  pub typed : IsTypedInstr (map (λ (x : VariableOf). x.kind) d.made) e.instr

-- with so many call paths
pub record IsTypedDraft (paths : ℕ) (d : DraftOf ℕ) : Type 0 where
  pub entry : entry_point < length d.labels
  pub few : length d.labels < 2 ^ 31
  pub labels : All (λ (l : Label). l.path < paths) d.labels
  pub scopes : All (λ (s : Scope). s.entry.variable < length d.made) d.scopes
  pub starts : All (λ (x : VariableOf). IsStartOf x x.start) d.made
  pub edges : All (IsTypedEdge d) d.edges
