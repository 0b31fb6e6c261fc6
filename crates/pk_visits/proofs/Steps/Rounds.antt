-- From the work of a loop to that of its test and body.
use Rattle.std.proofs.Common.{◌≡◌, ℕ, ◌+◌, ◌≤◌, List, ◌++◌, length, refl, sym, ◌∙◌, subst, inr, arith, inl}
use Rattle.pk_ctypes.specs.declared.places.Pos.{Pos}
use Rattle.pk_typed.specs.Trees.{ValueTree, StatementTree}
use Rattle.pk_typed.specs.Trees as tree
use Rattle.pk_welltyped.specs.Listed.{Numbered, calls_in, calls_in_statement}
use Rattle.pk_welltyped.specs.WellTyped.{IsStatement}
use Rattle.pk_graph.specs.Trees.{Skip}
use Rattle.pk_draft.specs.declared.drafts.Label.{Label}
use Rattle.pk_draft.specs.Drafts.{on, at, go}
use Rattle.pk_draft.specs.declared.drafts.Size.{Size}
use Rattle.pk_lower_expression.specs.Expressions.{ways}
use Rattle.pk_lower_statement.specs.declared.statements.Exits.{Exits}
use Rattle.pk_lower_statement.specs.Statements.{inside, while_from, do_from, loop_begun, lowered}
use Rattle.pk_meaning.specs.Work as work
use Rattle.pk_meaning.specs.Work.{Place, Ahead, Loop, Onward, While, DoWhile}
use Rattle.pk_meaning.specs.Steps.{place}
use Rattle.pk_visits.proofs.Slots.{Draft, Among, edge, last_among, Keeps, Uncalled}
use Rattle.pk_visits.proofs.Stands.{Whole, Proper, context_of, Held, ArePlain, ShowsAt, Stage, Loops, ContinuesAt, LaidAhead, Laid, IsCalled}
use Rattle.pk_visits.proofs.Settled.Trees.{Settles}
use Rattle.pk_visits.proofs.Stages.{In, all_called, ways_grow, part_first, part_second, part_until, stage_at, part_point, part_room, three_first, three_second, three_third, Forth, forth_here, forth_none, forth_first}
use Rattle.pk_visits.proofs.Grows.Rows.{fresh_three_grows}
use Rattle.pk_visits.proofs.Steps.Tells.{sane, any_called, Any}
use Rattle.pk_visits.proofs.Grows.Statements.{Stays, Adds, adds, on_adds, stays_then, statement, while_adds, do_adds, choice_adds, link_adds, marking_inside, Free, begun_adds}
use Rattle.pk_visits.proofs.Operands.{calm_more}
use Rattle.pk_visits.proofs.Steps.Statements.{shows_on}
use Rattle.pk_visits.proofs.Doom.{calm_plain}

-- ---- the begin of a loop

-- what is known of the three points with which a loop begins
pub record Begun (g : Whole) (k : ℕ) (h : Place) (d : Draft) : Type 0 where
  pub there : Among (edge d.point Skip d.points) g.edges
  pub first : ShowsAt g d.points k h
  pub second : ShowsAt g (d.points + 1) k h
  pub third : ShowsAt g (d.points + 2) k h

pub begun : (g : Whole) (R : Label → Label → Type 0) (C : ℕ → Size → Type 0) (k : ℕ) (h j : Place) (xs : List Numbered) (d0 d f : Draft) (s : Stage g k h xs d0 f) → Forth g d0 d → Keeps R (In s.marks) Free C (loop_begun d) f → g.shows d.here k j → Begun g k j d
begun g R C k h j xs d0 d f s le u shows =
    let room = part_room g R (In s.marks) C k h xs d0 (loop_begun d) f s u in
    let size = (fresh_three_grows Uncalled d).size in
    let r : d.points + 3 ≤ length d.labels = omega (arith, room, size) in
    record {
      there = s.leads.edges _ (u.edges _ (last_among d.edges (edge d.point Skip d.points)));
      first = part_point g R C k h j xs d0 d (loop_begun d) f d.points d.here s le refl u (omega arith) (omega arith) (three_first d r) shows;
      second = part_point g R C k h j xs d0 d (loop_begun d) f (d.points + 1) d.here s le refl u (omega arith) (omega arith) (three_second d r) shows;
      third = subst (λ q. ShowsAt g q k j) (omega arith) (part_point g R C k h j xs d0 d (loop_begun d) f (d.points + 1 + 1) d.here s le refl u (omega arith) (omega arith) (three_third d r) shows);
    }

-- `while`: the edge to its head, and the work there
pub while_laid : (g : Whole) (proper : Proper g) (k : ℕ) (h : Place) (x : Exits) (p : Pos) (e : ValueTree) (s : StatementTree) (a : Ahead) (pt : ℕ) (hs : List Held) → Laid g k h x (work.Do (tree.while p e s) a) pt hs
    → (q : ℕ) × Among (edge pt Skip q) g.edges × ShowsAt g q k (place p h.scope) × Laid g k (place p h.scope) x (work.Turn (place p h.scope) (While e s) (place p h.scope) a) q hs
unfolding lowered IsStatement calls_in_statement Settles
while_laid g proper k h x p e s a pt hs (d, n, m, is, fits, calm, t, marking, settled, l) =
    let c = context_of g k in
    let j = place p h.scope in
    let o = on p d in
    let b = loop_begun o in
    let f = while_from (ways c e) (lowered c s) x (o.points + 1) (o.points + 2) b in
    let here = proper.positions d.here k h.scope p t.here in
    let grow = while_adds t.marks Free Any (ways c e) (lowered c s) x (choice_adds t.marks Free Any (ways c e) (sane c e))
    (λ q w r. statement Any c _ m s (inside q w x) t.marks Free (λ i o. tt) fits.1 (marking_inside x m t.marks q w marking) (any_called c (calls_in_statement s)) r) (o.points + 1) (o.points + 2) b in
    let z = begun g Stays Any k _ j (calls_in e ++ calls_in_statement s) d o (at (o.points + 2) f) t (forth_here g d.points d.regions) grow here in
    let s0 = stage_at g k _ j (calls_in e ++ calls_in_statement s) d b (at (o.points + 2) f) t (forth_none g (begun_adds t.marks Free Uncalled o)) here in (
      o.points,
      subst (λ q. Among (edge q Skip o.points) g.edges) is z.there,
      z.first,
      (
        refl,
        calm_plain d.variables hs calm,
        o.points,
        o.points + 2,
        record {
          objects = n;
          mark = m;
          begin = o.points + 1;
          draft = b;
          at = refl;
          fits = fits;
          stage = part_until {S = Free} g Stays k j (calls_in e ++ calls_in_statement s) b f (at (o.points + 2) f) s0 (record { edges = λ v w. w; names = refl; variables = omega arith; points = omega arith; size = refl; labels = λ v w. inr refl; beyond = λ v w. inr refl; regions = λ v. inr refl; apart = λ m o w. inl refl; paths = refl; scopes = λ n z h. h; here = (refl, refl); many = refl; made = λ n z. refl; unmade = λ n z. refl; slots = refl; objects = λ n. inr refl });
          marking = marking;
          settled = settled.1;
          calm = calm;
          heads = z.first;
          told = settled.0;
          begins = z.second;
          continues = z.first;
        },
        refl,
        z.third,
        l,
      ),
    )

-- `do`: the edge to its body
pub do_laid : (g : Whole) (proper : Proper g) (k : ℕ) (h : Place) (x : Exits) (p : Pos) (s : StatementTree) (e : ValueTree) (a : Ahead) (pt : ℕ) (hs : List Held) → Laid g k h x (work.Do (tree.do_while p s e) a) pt hs
    → (q : ℕ) × Among (edge pt Skip q) g.edges × ShowsAt g q k (place p h.scope) × Laid g k (place p h.scope) x (work.Turn (place p h.scope) (DoWhile s e) (place p h.scope) a) q hs
unfolding lowered IsStatement calls_in_statement Settles
do_laid g proper k h x p s e a pt hs (d, n, m, is, fits, calm, t, marking, settled, l) =
    let c = context_of g k in
    let j = place p h.scope in
    let o = on p d in
    let b = loop_begun o in
    let f = do_from p (ways c e) (lowered c s) x (o.points + 1) (o.points + 2) b in
    let here = proper.positions d.here k h.scope p t.here in
    let grow = do_adds t.marks Free Any p (ways c e) (lowered c s) x (choice_adds t.marks Free Any (ways c e) (sane c e))
    (λ q w r. statement Any c _ m s (inside q w x) t.marks Free (λ i o. tt) fits.0 (marking_inside x m t.marks q w marking) (any_called c (calls_in_statement s)) r) (o.points + 1) (o.points + 2) b in
    let z = begun g Stays Any k _ j (calls_in_statement s ++ calls_in e) d o (at (o.points + 2) f) t (forth_here g d.points d.regions) grow here in
    let s0 = stage_at g k _ j (calls_in_statement s ++ calls_in e) d b (at (o.points + 2) f) t (forth_none g (begun_adds t.marks Free Uncalled o)) here in (
      o.points,
      subst (λ q. Among (edge q Skip o.points) g.edges) is z.there,
      z.first,
      (
        refl,
        calm_plain d.variables hs calm,
        o.points + 1,
        o.points + 2,
        record {
          objects = n;
          mark = m;
          begin = o.points;
          draft = b;
          at = refl;
          fits = fits;
          stage = part_until {S = Free} g Stays k j (calls_in_statement s ++ calls_in e) b f (at (o.points + 2) f) s0 (record { edges = λ v w. w; names = refl; variables = omega arith; points = omega arith; size = refl; labels = λ v w. inr refl; beyond = λ v w. inr refl; regions = λ v. inr refl; apart = λ m o w. inl refl; paths = refl; scopes = λ n z h. h; here = (refl, refl); many = refl; made = λ n z. refl; unmade = λ n z. refl; slots = refl; objects = λ n. inr refl });
          marking = marking;
          settled = settled.1;
          calm = calm;
          heads = z.first;
          told = settled.0;
          begins = z.first;
          continues = z.second;
        },
        tt,
        z.third,
        l,
      ),
    )

-- ---- turns

-- the end of a loop's body, in the exits of the loop
pub again : (g : Whole) (k : ℕ) (h : Place) (x : Exits) (l : Loop) (e : Place) (a : Ahead) (p c o : ℕ) (t : ℕ) (hs : List Held) → Loops g k h x l p c o hs → ContinuesAt l p c → Among (edge t Skip c) g.edges → ShowsAt g o k e
    → LaidAhead g k x a o hs → LaidAhead g k (inside o c x) (work.Again h l e a) t hs
again g k h x l e a p c o t hs loop cont there shown z = (x, p, there, loop.continues, refl, loop, cont, shown, z)

-- the test of a `while` where it begins again, and its body
pub while_parts : (g : Whole) (proper : Proper g) (k : ℕ) (h : Place) (x : Exits) (e : ValueTree) (s : StatementTree) (o : Place) (a : Ahead) (p c b : ℕ) (hs : List Held) → (loop : Loops g k h x (While e s) p c b hs) → p ≡ c → ShowsAt g b k o → LaidAhead g k x a b hs
    → Stage g k h (calls_in e) loop.draft ((ways (context_of g k) e).choice loop.begin b loop.draft) × Laid g k h (inside b loop.draft.point x) (work.Do s (work.Again h (While e s) o a)) loop.begin hs
while_parts g proper k h x e s o a p c b hs loop cont shown z =
    let ctx = context_of g k in
    let d = loop.draft in
    let t = loop.stage in
    let d1 = (ways ctx e).choice loop.begin b d in
    let y = inside b d.point x in
    let d2 = lowered ctx s y (at loop.begin d1) in
    let f = go Skip d.point d2 in
    let ge = (ways_grow ctx e).choice loop.begin b d in
    let gs = statement (IsCalled ctx (calls_in_statement s)) ctx _ loop.mark s y t.marks Free (λ i o. tt) loop.fits.1 (marking_inside x loop.mark t.marks b d.point loop.marking) (all_called ctx (calls_in_statement s)) (at loop.begin d1) in
    let last : Adds t.marks Free (IsCalled ctx (calls_in_statement s)) d1 f = stays_then gs (link_adds t.marks Free (IsCalled ctx (calls_in_statement s)) Skip d.point d2) in
    let ve = ge.variables in
    let se = part_first g Stays k h (calls_in e) (calls_in_statement s) d d1 f t last in
    let here = subst (λ (m : Label). g.shows m k h) (sym ge.here) t.here in
    let ss = part_second g k h (place d1.here.at h.scope) (calls_in e) (calls_in_statement s) d (at loop.begin d1) f t (forth_first g k h (calls_in e) (calls_in_statement s) d f t ge)
    (subst (λ q. g.shows d1.here k (place q h.scope)) (proper.at_positions d1.here k h here) here) in
    let sd = part_until g Stays k _ (calls_in_statement s) (at loop.begin d1) d2 f ss (link_adds t.marks Free Uncalled Skip d.point d2) in
    let back = t.leads.edges _ (last_among d2.edges (edge d2.point Skip d.point)) in
    let same : d.point ≡ c = loop.at ∙ cont in (
      se,
      (
        at loop.begin d1,
        loop.objects,
        loop.mark,
        refl,
        loop.fits.1,
        calm_more d.variables d1.variables hs ve loop.calm,
        sd,
        marking_inside x loop.mark t.marks b d.point loop.marking,
        loop.settled,
        subst (λ q. LaidAhead g k (inside b q x) (work.Again h (While e s) o a) d2.point hs) (sym same) (again g k h x (While e s) o a p c b d2.point hs loop cont (subst (λ q. Among (edge d2.point Skip q) g.edges) same back) shown z),
      ),
    )

-- a `while` where it begins again: its test, then the body or what is behind
pub turn_while : (g : Whole) (proper : Proper g) (k : ℕ) (h i : Place) (x : Exits) (e : ValueTree) (s : StatementTree) (o : Place) (a : Ahead) (p : ℕ) (hs : List Held) → Laid g k i x (work.Turn h (While e s) o a) p hs
    → Laid g k h x (work.Test e (Onward h (work.Do s (work.Again h (While e s) o a))) (Onward o (work.Go a))) p hs
turn_while g proper k h i x e s o a p hs (is, plain, c, b, loop, cont, shown, z) =
    let parts = while_parts g proper k h x e s o a p c b hs loop cont shown z in
    (loop.draft, loop.objects, loop.begin, b, loop.at, loop.fits.0, loop.calm, parts.0, (loop.begins, (inside b loop.draft.point x, parts.1)), (shown, (x, (plain, z))))

-- a `do` where it begins again: its body
pub turn_do : (g : Whole) (proper : Proper g) (k : ℕ) (h i : Place) (x : Exits) (e : ValueTree) (s : StatementTree) (o : Place) (a : Ahead) (p : ℕ) (hs : List Held) → Laid g k i x (work.Turn h (DoWhile s e) o a) p hs
    → (b : ℕ) × (c : ℕ) × Laid g k h (inside b c x) (work.Do s (work.Again h (DoWhile s e) o a)) p hs
turn_do g proper k h i x e s o a p hs (is, plain, c, b, loop, cont, shown, z) =
    let ctx = context_of g k in
    let d = loop.draft in
    let t = loop.stage in
    let y = inside b c x in
    let d2 = lowered ctx s y (at d.point d) in
    let r = go Skip c d2 in
    let f = (ways ctx e).choice d.point b (on h.at r) in
    let ge = (ways_grow ctx e).choice d.point b (on h.at r) in
    let last : Adds t.marks Free (IsCalled ctx (calls_in e)) d2 f =
    stays_then (link_adds t.marks Free (IsCalled ctx (calls_in e)) Skip c d2) (stays_then (on_adds t.marks Free (IsCalled ctx (calls_in e)) h.at r) (adds t.marks Free (IsCalled ctx (calls_in e)) (on h.at r) f ge)) in
    let first = part_first g Stays k h (calls_in_statement s) (calls_in e) d d2 f t last in
    let ss = stage_at g k h (place d.here.at h.scope) (calls_in_statement s) d (at d.point d) d2 first (forth_here g d.points d.regions)
    (subst (λ q. g.shows d.here k (place q h.scope)) (proper.at_positions d.here k h t.here) t.here) in (
      b,
      c,
      (
        at d.point d,
        loop.objects,
        loop.mark,
        loop.at,
        loop.fits.0,
        loop.calm,
        ss,
        marking_inside x loop.mark t.marks b c loop.marking,
        loop.settled,
        again g k h x (DoWhile s e) o a p c b d2.point hs loop cont (t.leads.edges _ (ge.edges _ (last_among d2.edges (edge d2.point Skip c)))) shown z,
      ),
    )

-- ---- bodies

-- a loop's body, in its exits
abbrev pub RoundLaid : Whole → ℕ → Place → Exits → StatementTree → Loop → (behind : Place) → Ahead → List Held → Type 0
RoundLaid g k h x s l o a hs = (b : ℕ) × (c : ℕ) × (p : ℕ) × Laid g k h (inside b c x) (work.Do s (work.Again h l o a)) p hs

turn_round : (g : Whole) (proper : Proper g) (k : ℕ) (h i : Place) (x : Exits) (e : ValueTree) (s : StatementTree) (o : Place) (a : Ahead) (p : ℕ) (hs : List Held) → Laid g k i x (work.Turn h (While e s) o a) p hs → RoundLaid g k h x s (While e s) o a hs
turn_round g proper k h i x e s o a p hs (is, plain, c, b, loop, cont, shown, z) = (b, loop.draft.point, loop.begin, (while_parts g proper k h x e s o a p c b hs loop cont shown z).1)

pub while_round : (g : Whole) (proper : Proper g) (k : ℕ) (h : Place) (x : Exits) (p : Pos) (e : ValueTree) (s : StatementTree) (a : Ahead) (pt : ℕ) (hs : List Held) → Laid g k h x (work.Do (tree.while p e s) a) pt hs
    → RoundLaid g k (place p h.scope) x s (While e s) (place p h.scope) a hs
while_round g proper k h x p e s a pt hs l =
    let j = place p h.scope in
    let z = while_laid g proper k h x p e s a pt hs l in turn_round g proper k j j x e s j a z.0 hs z.3

pub do_round : (g : Whole) (proper : Proper g) (k : ℕ) (h : Place) (x : Exits) (p : Pos) (s : StatementTree) (e : ValueTree) (a : Ahead) (pt : ℕ) (hs : List Held) → Laid g k h x (work.Do (tree.do_while p s e) a) pt hs
    → RoundLaid g k (place p h.scope) x s (DoWhile s e) (place p h.scope) a hs
do_round g proper k h x p s e a pt hs l =
    let j = place p h.scope in
    let z = do_laid g proper k h x p s e a pt hs l in
    let r = turn_do g proper k j j x e s j a z.0 hs z.3 in (r.0, r.1, z.0, r.2)

-- ---- the end of a body

-- of a `while`: at its head again
pub again_while : (g : Whole) (k : ℕ) (h : Place) (x : Exits) (e : ValueTree) (s : StatementTree) (o : Place) (a : Ahead) (p : ℕ) (hs : List Held) → ArePlain hs → LaidAhead g k x (work.Again h (While e s) o a) p hs
    → (y : Exits) × Laid g k h y (work.Turn h (While e s) o a) x.continued hs
again_while g k h x e s o a p hs plain (y, b, there, shown, same, loop, cont, behind, z) =
    (y, (refl, plain, x.continued, x.broken, subst (λ q. Loops g k h y (While e s) q x.continued x.broken hs) cont loop, refl, behind, z))

-- of a `do`: at its test, which leads back to the body
pub again_do : (g : Whole) (proper : Proper g) (k : ℕ) (h : Place) (x : Exits) (e : ValueTree) (s : StatementTree) (o : Place) (a : Ahead) (p : ℕ) (hs : List Held) → ArePlain hs → LaidAhead g k x (work.Again h (DoWhile s e) o a) p hs
    → (y : Exits) × Laid g k h y (work.Test e (Onward h (work.Turn h (DoWhile s e) o a)) (Onward o (work.Go a))) x.continued hs
again_do g proper k h x e s o a p hs plain (y, b, there, shown, same, loop, cont, behind, z) =
    let ctx = context_of g k in
    let d = loop.draft in
    let t = loop.stage in
    let w = inside x.broken x.continued y in
    let d2 = lowered ctx s w (at d.point d) in
    let r = go Skip x.continued d2 in
    let u = on h.at r in
    let f = (ways ctx e).choice d.point x.broken u in
    let body = statement (IsCalled ctx (calls_in_statement s)) ctx _ loop.mark s w t.marks Free (λ i o. tt) loop.fits.0 (marking_inside y loop.mark t.marks x.broken x.continued loop.marking) (all_called ctx (calls_in_statement s)) (at d.point d) in
    let round = stays_then body (stays_then (link_adds t.marks Free (IsCalled ctx (calls_in_statement s)) Skip x.continued d2) (on_adds t.marks Free (IsCalled ctx (calls_in_statement s)) h.at r)) in
    let first = subst (λ q. g.shows d.here k (place q h.scope)) (proper.at_positions d.here k h t.here) t.here in
    let here : g.shows u.here k h = shows_on g proper k h.scope d.here u.here first round.here in
    let tests = part_second g k h h (calls_in_statement s) (calls_in e) d u f t (forth_first g k h (calls_in_statement s) (calls_in e) d f t round) here in
    let vr = round.variables in (
      y,
      (
        u,
        loop.objects,
        d.point,
        x.broken,
        refl,
        loop.fits.1,
        calm_more d.variables u.variables hs vr loop.calm,
        tests,
        (subst (λ q. ShowsAt g q k h) (sym loop.at) loop.heads, (y, (refl, plain, x.continued, x.broken, subst (λ q. Loops g k h y (DoWhile s e) q x.continued x.broken hs) (sym loop.at) loop, tt, behind, z))),
        (behind, (y, (plain, z))),
      ),
    )
