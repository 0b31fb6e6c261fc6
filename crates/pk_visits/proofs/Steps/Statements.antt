-- From the work of a statement to that of its parts.
use Rattle.std.proofs.Common.{ℕ, List, refl, sym, subst}
use Rattle.pk_ctypes.specs.declared.places.Pos.{Pos}
use Rattle.pk_typed.specs.Trees.{EffectTree, StatementTree, ItemTrees}
use Rattle.pk_typed.specs.Trees as tree
use Rattle.pk_welltyped.specs.Listed.{calls_in_effect, calls_in_statement, calls_in_items}
use Rattle.pk_welltyped.specs.WellTyped.{IsStatement, AreItems}
use Rattle.pk_draft.specs.declared.drafts.Label.{Label}
use Rattle.pk_draft.specs.Drafts.{on}
use Rattle.pk_lower_statement.specs.declared.statements.Exits.{Exits}
use Rattle.pk_lower_statement.specs.Statements.{lowered, lowered_items}
use Rattle.pk_meaning.specs.Objects.{Scope}
use Rattle.pk_meaning.specs.Work as work
use Rattle.pk_meaning.specs.Work.{Place, Ahead}
use Rattle.pk_meaning.specs.Steps.{place}
use Rattle.pk_visits.proofs.Stands.{Whole, Proper, context_of, Held, LaidAhead, Laid, IsCalled}
use Rattle.pk_visits.proofs.Settled.Trees.{Settles, SettleAll}
use Rattle.pk_visits.proofs.Stages.{all_called, part_first, part_second, part_until, stage_at, forth_here, forth_first}
use Rattle.pk_visits.proofs.Grows.Statements.{Stays, OnPath, scope_enlarges, statement, block, Free}
use Rattle.pk_visits.proofs.Operands.{calm_more}
use Rattle.pk_visits.proofs.Doom.{calm_plain}
use Rattle.pk_visits.proofs.Slots.{Uncalled}

-- ---- places

-- a label of the same path and names shows the same place, at its own position
pub shows_on : (g : Whole) (proper : Proper g) (k : ℕ) (xs : Scope) (l m : Label) → g.shows l k (place l.at xs) → Stays l m → g.shows m k (place m.at xs)
shows_on g proper k xs l m s h =
    subst (λ p. g.shows (record { at = m.at; path = p; scope = m.scope }) k (place m.at xs)) (sym h.0)
    (subst (λ q. g.shows (record { at = m.at; path = l.path; scope = q }) k (place m.at xs)) (sym h.1) (proper.positions l k xs m.at s))

-- ---- blocks and their items

pub block_laid : (g : Whole) (k : ℕ) (h : Place) (x : Exits) (p : Pos) (is : ItemTrees) (a : Ahead) (pt : ℕ) (hs : List Held) → Laid g k h x (work.Do (tree.block p is) a) pt hs
    → Laid g k h x (work.Go (work.Rest h.scope is a)) pt hs
unfolding lowered IsStatement calls_in_statement Settles
block_laid g k h x p is a pt hs (d, n, m, at', fits, calm, s, marking, settled, l) =
    (calm_plain d.variables hs calm, (d, n, m, at', fits, calm, part_until g OnPath k _ _ d (lowered_items (context_of g k) is x d) _ s (scope_enlarges s.marks Free Uncalled d.here.scope (lowered_items (context_of g k) is x d)), marking, settled, l))

-- the next statement of a block, behind which is the rest
pub next_laid : (g : Whole) (proper : Proper g) (k : ℕ) (h : Place) (x : Exits) (xs : Scope) (s : StatementTree) (is : ItemTrees) (a : Ahead) (p : ℕ) (hs : List Held) (q : Pos)
    → Laid g k h x (work.Go (work.Rest xs (tree.statement_before s is) a)) p hs → Laid g k (place q xs) x (work.Do s (work.Rest xs is a)) p hs
unfolding lowered_items AreItems calls_in_items SettleAll
next_laid g proper k h x xs s is a p hs q (plain, (d, n, m, at', fits, calm, t, marking, settled, l)) =
    let c = context_of g k in
    let e = lowered c s x d in
    let rest = block (IsCalled c (calls_in_items is)) c _ m is x t.marks Free (λ i o. tt) fits.1 marking (all_called c (calls_in_items is)) e in
    let first = statement (IsCalled c (calls_in_statement s)) c _ m s x t.marks Free (λ i o. tt) fits.0 marking (all_called c (calls_in_statement s)) d in
    let le = first.points in
    let lv = first.variables in (
      d,
      n,
      m,
      at',
      fits.0,
      calm,
      part_first g OnPath k _ (calls_in_statement s) (calls_in_items is) d e (lowered_items c is x e) t rest,
      marking,
      settled.0,
      (
        e,
        _,
        m,
        refl,
        fits.1,
        calm_more d.variables e.variables hs lv calm,
        part_second g k _ (place e.here.at xs) (calls_in_statement s) (calls_in_items is) d e (lowered_items c is x e) t (forth_first g k (place d.here.at xs) (calls_in_statement s) (calls_in_items is) d (lowered_items c is x e) t first) (shows_on g proper k xs d.here e.here t.here first.here),
        marking,
        settled.1,
        l,
      ),
    )

pub none_laid : (g : Whole) (k : ℕ) (h : Place) (x : Exits) (xs : Scope) (a : Ahead) (p : ℕ) (hs : List Held) → Laid g k h x (work.Go (work.Rest xs tree.no_items a)) p hs → Laid g k h x (work.Go a) p hs
unfolding lowered_items
none_laid g k h x xs a p hs (plain, (d, n, m, at', fits, calm, t, marking, settled, l)) = (plain, subst (λ q. LaidAhead g k x a q hs) at' l)

-- ---- statements of one expression

pub empty_laid : (g : Whole) (k : ℕ) (h : Place) (x : Exits) (p : Pos) (a : Ahead) (pt : ℕ) (hs : List Held) → Laid g k h x (work.Do (tree.empty p) a) pt hs → Laid g k h x (work.Go a) pt hs
unfolding lowered
empty_laid g k h x p a pt hs (d, n, m, at', fits, calm, s, marking, settled, l) = (calm_plain d.variables hs calm, subst (λ q. LaidAhead g k x a q hs) at' l)

pub effect_laid : (g : Whole) (proper : Proper g) (k : ℕ) (h : Place) (x : Exits) (p : Pos) (e : EffectTree) (a : Ahead) (pt : ℕ) (hs : List Held) → Laid g k h x (work.Do (tree.effect p e) a) pt hs
    → Laid g k (place p h.scope) x (work.Perform e (work.Go a)) pt hs
unfolding lowered IsStatement calls_in_statement
effect_laid g proper k h x p e a pt hs (d, n, m, at', fits, calm, s, marking, settled, l) =
    (on p d, n, at', fits, (λ q. calm), stage_at g k _ (place p h.scope) (calls_in_effect e) d (on p d) _ s (forth_here g d.points d.regions) (proper.positions d.here k h.scope p s.here), (calm_plain d.variables hs calm, l))
