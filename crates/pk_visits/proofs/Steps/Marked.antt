-- From the work of a label, a case or a default to that of its statement, over the edge to the mark's point.
use Rattle.std.proofs.Common.{ℕ, ◌+◌, List, refl, sym, subst}
use Rattle.pk_ctypes.specs.declared.places.Pos.{Pos}
use Rattle.pk_typed.specs.Trees.{StatementTree}
use Rattle.pk_typed.specs.Trees as tree
use Rattle.pk_welltyped.specs.Listed.{calls_in_statement}
use Rattle.pk_welltyped.specs.WellTyped.{Marks, IsStatement}
use Rattle.pk_graph.specs.Trees.{Skip}
use Rattle.pk_draft.specs.declared.drafts.Label.{Label}
use Rattle.pk_draft.specs.Drafts.{on, come}
use Rattle.pk_lower_statement.specs.declared.statements.Exits.{Exits}
use Rattle.pk_lower_statement.specs.Statements.{lowered}
use Rattle.pk_meaning.specs.Work as work
use Rattle.pk_meaning.specs.Work.{Place, Work, Ahead}
use Rattle.pk_meaning.specs.Steps.{place}
use Rattle.pk_visits.proofs.Slots.{Draft, Among, edge, last_among}
use Rattle.pk_visits.proofs.Stands.{Whole, Proper, context_of, final, Held, around, AreCalm, ShowsAt, Stage, Marking, LaidAhead, Laid}
use Rattle.pk_visits.proofs.Settled.Trees.{IsMarkedAt, Settles}
use Rattle.pk_visits.proofs.Stages.{stage_at, forth_here}
use Rattle.pk_visits.proofs.Steps.Tells.{any_called, Any}
use Rattle.pk_visits.proofs.Grows.Statements.{statement, Free}

-- an edge to a point that shows a place, where work is laid
abbrev pub ComesTo : Whole → (k : ℕ) → Place → Exits → Work → (p q : ℕ) → List Held → Type 0
ComesTo g k h x w p q hs = Among (edge p Skip q) g.edges × ShowsAt g q k h × Laid g k h x w q hs

-- a statement behind a mark
mark_laid : (g : Whole) (proper : Proper g) (k : ℕ) (h : Place) (x : Exits) (q : Pos) (s : StatementTree) (a : Ahead) (p : ℕ) (hs : List Held) (d : Draft) (n : ℕ) (m : Marks)
    → IsStatement (around g k n) m s → AreCalm d.variables hs → (t : Stage g k (place d.here.at h.scope) (calls_in_statement s) d (lowered (context_of g k) s x (come p (on q d)))) → Marking x m t.marks
    → IsMarkedAt (final g k) p (on q d) → Settles (final g k) (context_of g k) s x (come p (on q d)) → LaidAhead g k x a (lowered (context_of g k) s x (come p (on q d))).point hs
    → ComesTo g k (place q h.scope) x (work.Do s a) d.point p hs
mark_laid g proper k h x q s a p hs d n m fits calm t marking is settled l =
    let c = context_of g k in
    let j = place q h.scope in
    let e = come p (on q d) in
    let here = proper.positions d.here k h.scope q t.here in
    let grow = statement Any c _ m s x t.marks Free (λ i o. tt) fits marking (any_called c (calls_in_statement s)) e in (
      t.leads.edges _ (grow.edges _ (last_among d.edges (edge d.point Skip p))),
      subst (λ (i : Label). g.shows i k j) (sym is) here,
      (
        e,
        n,
        m,
        refl,
        fits,
        calm,
        stage_at g k (place d.here.at h.scope) j (calls_in_statement s) d e (lowered c s x e) t (forth_here g d.points d.regions) here,
        marking,
        settled,
        l,
      ),
    )

pub label_laid : (g : Whole) (proper : Proper g) (k : ℕ) (h : Place) (x : Exits) (q : Pos) (i : ℕ) (s : StatementTree) (a : Ahead) (p : ℕ) (hs : List Held) → Laid g k h x (work.Do (tree.label q i s) a) p hs
    → ComesTo g k (place q h.scope) x (work.Do s a) p (x.labels + i) hs
unfolding lowered IsStatement calls_in_statement Settles
label_laid g proper k h x q i s a p hs (d, n, m, at', fits, calm, t, marking, settled, l) =
    subst (λ o. ComesTo g k (place q h.scope) x (work.Do s a) o (x.labels + i) hs) at' (mark_laid g proper k h x q s a (x.labels + i) hs d n m fits.1 calm t marking settled.0 settled.1 l)

pub case_laid : (g : Whole) (proper : Proper g) (k : ℕ) (h : Place) (x : Exits) (q : Pos) (i : ℕ) (s : StatementTree) (a : Ahead) (p : ℕ) (hs : List Held) → Laid g k h x (work.Do (tree.case q i s) a) p hs
    → ComesTo g k (place q h.scope) x (work.Do s a) p (x.cases + i) hs
unfolding lowered IsStatement calls_in_statement Settles
case_laid g proper k h x q i s a p hs (d, n, m, at', fits, calm, t, marking, settled, l) =
    subst (λ o. ComesTo g k (place q h.scope) x (work.Do s a) o (x.cases + i) hs) at' (mark_laid g proper k h x q s a (x.cases + i) hs d n m fits.1 calm t marking settled.0 settled.1 l)

pub default_laid : (g : Whole) (proper : Proper g) (k : ℕ) (h : Place) (x : Exits) (q : Pos) (s : StatementTree) (a : Ahead) (p : ℕ) (hs : List Held) → Laid g k h x (work.Do (tree.default q s) a) p hs
    → ComesTo g k (place q h.scope) x (work.Do s a) p x.otherwise hs
unfolding lowered IsStatement calls_in_statement Settles
default_laid g proper k h x q s a p hs (d, n, m, at', fits, calm, t, marking, settled, l) =
    subst (λ o. ComesTo g k (place q h.scope) x (work.Do s a) o x.otherwise hs) at' (mark_laid g proper k h x q s a x.otherwise hs d n m fits.1 calm t marking settled.0 settled.1 l)
