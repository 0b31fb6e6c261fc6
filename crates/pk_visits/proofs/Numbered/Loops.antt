-- Choices and loops whose variables are renamed: the lowering makes the same of them.
use Rattle.std.proofs.Common.{ℕ, ◌+◌, ap, ◌∙◌}
use Rattle.pk_ctypes.specs.declared.places.Pos.{Pos}
use Rattle.pk_lower_statement.specs.declared.statements.Exits.{Exits}
use Rattle.pk_graph.specs.Trees.{Skip}
use Rattle.pk_draft.specs.Drafts.{DraftOf, at, on, fresh, link, go}
use Rattle.pk_lower_row.specs.Rows.{Ways}
use Rattle.pk_lower_statement.specs.Statements as statements
use Rattle.pk_lower_statement.specs.Statements.{inside}
use Rattle.pk_visits.proofs.Numbered.Names.{link_by, go_by}
use Rattle.pk_visits.proofs.Numbered.Rows.{Works, WaysBy}

pub branching_by : {V W : Type 0} (f : V → W) (p : Pos) (c : Ways V) (z : Ways W) → WaysBy f c z → Works f (statements.branching p c) (statements.branching p z)
branching_by f p c z h d = ap (at d.points) (h.choice d.points (d.points + 1) (fresh 2 (on p d)))

abbrev skip_at : {W : Type 0} → (q p : ℕ) → DraftOf W → DraftOf W
skip_at q p d = go Skip q (at p d)

meeting_by : {V W : Type 0} (f : V → W) (p : Pos) (e : ℕ) → Works f (statements.meeting p e) (statements.meeting p e)
meeting_by f p e d =
    let x = at e (fresh 1 (on p d)) in
    ap (skip_at d.points d.point) (link_by f Skip d.points x) ∙ go_by f Skip d.points (at d.point (link Skip d.points x))

abbrev met : {W : Type 0} → Pos → (DraftOf W → DraftOf W) → ℕ → DraftOf W → DraftOf W
met p b q t = statements.meeting p t.point (b (at q t))

pub if_by : {V W : Type 0} (f : V → W) (p : Pos) (c : Ways V) (z : Ways W) (a b : DraftOf V → DraftOf V) (u v : DraftOf W → DraftOf W) → WaysBy f c z → Works f a u → Works f b v → Works f (statements.if_draft p c a b) (statements.if_draft p z u v)
if_by f p c z a b u v h k g d =
    let t = a (statements.branching p c d) in
    ap (λ y. met p v (d.points + 1) (u y)) (branching_by f p c z h d)
    ∙ ap (met p v (d.points + 1)) (k (statements.branching p c d))
    ∙ ap (statements.meeting p t.point) (g (at (d.points + 1) t))
    ∙ meeting_by f p t.point (b (at (d.points + 1) t))

-- with whatever exits
abbrev pub Does : {V W : Type 0} → (V → W) → (Exits → DraftOf V → DraftOf V) → (Exits → DraftOf W → DraftOf W) → Type 0
Does f s r = (x : Exits) → Works f (s x) (r x)

pub round_by : {V W : Type 0} (f : V → W) (x : Exits) (s : Exits → DraftOf V → DraftOf V) (r : Exits → DraftOf W → DraftOf W) (b e k : ℕ) → Does f s r → Works f (statements.round x s b e k) (statements.round x r b e k)
round_by f x s r b e k h d = ap (go Skip k) (h (inside e k x) (at b d)) ∙ go_by f Skip k (s (inside e k x) (at b d))

pub begun_by : {V W : Type 0} (f : V → W) → Works f statements.loop_begun statements.loop_begun
begun_by f d = go_by f Skip d.points (fresh 3 d)

while_from_by : {V W : Type 0} (f : V → W) (c : Ways V) (z : Ways W) (s : Exits → DraftOf V → DraftOf V) (r : Exits → DraftOf W → DraftOf W) (x : Exits) (b e : ℕ) → WaysBy f c z → Does f s r
    → Works f (statements.while_from c s x b e) (statements.while_from z r x b e)
while_from_by f c z s r x b e h k d = ap (statements.round x r b e d.point) (h.choice b e d) ∙ round_by f x s r b e d.point k (c.choice b e d)

pub while_by : {V W : Type 0} (f : V → W) (c : Ways V) (z : Ways W) (s : Exits → DraftOf V → DraftOf V) (r : Exits → DraftOf W → DraftOf W) (x : Exits) → WaysBy f c z → Does f s r
    → Works f (statements.while_draft c s x) (statements.while_draft z r x)
while_by f c z s r x h k d =
    let n = d.points in
    ap (λ y. at (n + 2) (statements.while_from z r x (n + 1) (n + 2) y)) (begun_by f d)
    ∙ ap (at (n + 2)) (while_from_by f c z s r x (n + 1) (n + 2) h k (statements.loop_begun d))

do_from_by : {V W : Type 0} (f : V → W) (p : Pos) (c : Ways V) (z : Ways W) (s : Exits → DraftOf V → DraftOf V) (r : Exits → DraftOf W → DraftOf W) (x : Exits) (k e : ℕ) → WaysBy f c z → Does f s r
    → Works f (statements.do_from p c s x k e) (statements.do_from p z r x k e)
do_from_by f p c z s r x k e h g d =
    ap (λ y. z.choice d.point e (on p y)) (round_by f x s r d.point e k g d) ∙ h.choice d.point e (on p (statements.round x s d.point e k d))

pub do_by : {V W : Type 0} (f : V → W) (p : Pos) (c : Ways V) (z : Ways W) (s : Exits → DraftOf V → DraftOf V) (r : Exits → DraftOf W → DraftOf W) (x : Exits) → WaysBy f c z → Does f s r
    → Works f (statements.do_draft p c s x) (statements.do_draft p z r x)
do_by f p c z s r x h k d =
    let n = d.points in
    ap (λ y. at (n + 2) (statements.do_from p z r x (n + 1) (n + 2) y)) (begun_by f d)
    ∙ ap (at (n + 2)) (do_from_by f p c z s r x (n + 1) (n + 2) h k (statements.loop_begun d))
