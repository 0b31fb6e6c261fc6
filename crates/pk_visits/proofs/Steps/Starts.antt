-- From the work of a `for` to that of its first part, and to where it begins.
use Rattle.std.proofs.Common.{◌≡◌, ℕ, ◌+◌, List, [], ◌∷◌, ◌++◌, refl, sym, ap, subst, arith, Option}
use Rattle.pk_ctypes.specs.declared.places.Pos.{Pos}
use Rattle.pk_typed.specs.Trees.{ValueTree, EffectTree, StatementTree, ForStartTree}
use Rattle.pk_typed.specs.Trees as tree
use Rattle.pk_welltyped.specs.Listed.{Numbered, calls_if, calls_at_start, calls_in_effect_if, calls_in_statement, objects_at_start}
use Rattle.pk_welltyped.specs.WellTyped.{IsStatement, Marks}
use Rattle.pk_draft.specs.Drafts.{on, at, fresh, in_scope}
use Rattle.pk_draft.specs.declared.drafts.Size.{Size}
use Rattle.pk_lower_statement.specs.declared.statements.Exits.{Exits}
use Rattle.pk_lower_statement.specs.Statements.{inside, for_from, for_start, for_test, loop_begun, performed_if, lowered}
use Rattle.pk_meaning.specs.Work as work
use Rattle.pk_meaning.specs.Work.{Place, Ahead, For}
use Rattle.pk_meaning.specs.Steps as meaning
use Rattle.pk_meaning.specs.Steps.{place}
use Rattle.pk_visits.proofs.Slots.{Draft, Among, Uncalled}
use Rattle.pk_visits.proofs.Settled.Trees.{Settles}
use Rattle.pk_visits.proofs.Stands.{Whole, Proper, context_of, final, Held, around, AreCalm, ShowsAt, Stage, led_to, Marking, Distinct, LaidAhead, Laid, IsCalled}
use Rattle.pk_visits.proofs.Stages.{In, all_called, part_first, part_second, part_until, stage_at, part_point, part_room, fresh_one, forth_here, forth_none, forth_first, forth_then}
use Rattle.pk_visits.proofs.Grows.Expressions.{front_called, back_called}
use Rattle.pk_visits.proofs.Steps.Tells.{any_called, Any}
use Rattle.pk_visits.proofs.Grows.Statements.{OnPath, scope_enlarges, Enlarges, enlarges, stays_then, path_then, on_adds, fresh_adds, begun_adds, for_adds, test_adds, third_adds, start_enlarges, statement, marking_inside, Free, start_free}
use Rattle.pk_visits.proofs.Operands.{calm_more}
use Rattle.pk_visits.proofs.Settled.Shown.{start_shown}
use Rattle.pk_visits.proofs.Steps.Thirds.{for_parts}
use Rattle.pk_visits.proofs.Steps.Rounds.{RoundLaid, begun}
use Rattle.pk_visits.proofs.Doom.{calm_plain}
use Rattle.pk_visits.proofs.Grows.Rows.{loosened}

-- the calls of a first part before those of the loop
apart : {A : Type 0} (ws xs ys zs : List A) → ((ws ++ xs) ++ ys) ++ zs ≡ ws ++ ((xs ++ ys) ++ zs)
apart [] xs ys zs = refl
apart (w ∷ ws) xs ys zs = ap (λ l. w ∷ l) (apart ws xs ys zs)

abbrev stage_as : (g : Whole) (k : ℕ) (h : Place) (xs ys : List Numbered) (d e : Draft) → xs ≡ ys → Stage g k h xs d e → Stage g k h ys d e
stage_as g k h xs ys d e is s = record {
  marks = s.marks;
  later = s.later;
  leads = s.leads;
  bounded = s.bounded;
  free = s.free;
  spans = λ z a. s.spans z (subst (Among z) (sym is) a);
  here = s.here;
  apart = λ m a. s.apart m (subst (λ l. Among m (led_to (context_of g k) l)) (sym is) a);
  distinct = subst (λ l. Distinct (led_to (context_of g k) l)) is s.distinct;
  path = s.path;
  noted = λ z a. s.noted z (subst (Among z) (sym is) a);
}

-- A `for` from its first part, behind which the loop begins.
pub for_begun : (g : Whole) (proper : Proper g) (k : ℕ) (h : Place) (x : Exits) (q : Pos) (start : ForStartTree) (v : Option ValueTree) (third : Option EffectTree) (s : StatementTree) (a : Ahead) (hs : List Held) (d : Draft) (n : ℕ) (m : Marks)
    → IsStatement (around g k n) m (tree.for_loop q start v third s) → AreCalm d.variables hs → (t : Stage g k (place d.here.at h.scope) (calls_in_statement (tree.for_loop q start v third s)) d (lowered (context_of g k) (tree.for_loop q start v third s) x d))
    → Marking x m t.marks → Settles (final g k) (context_of g k) (tree.for_loop q start v third s) x d → LaidAhead g k x a (lowered (context_of g k) (tree.for_loop q start v third s) x d).point hs
    → Stage g k (place q h.scope) (calls_at_start start) (fresh 1 (on q d)) (for_start (context_of g k) start (fresh 1 (on q d)))
    × Laid g k (place q (meaning.for_scope g.program k start h.scope)) x (work.Back (place q (meaning.for_scope g.program k start h.scope)) (For v third s) (place q h.scope) a) (for_start (context_of g k) start (fresh 1 (on q d))).point hs
unfolding lowered IsStatement calls_in_statement Settles
for_begun g proper k h x q start v third s a hs d n m fits calm t marking settled l =
    let inner = place q (meaning.for_scope g.program k start h.scope) in
    let c = context_of g k in
    let o = on q d in
    let d0 = fresh 1 o in
    let f0 = for_start c start d0 in
    let f1 = on q f0 in
    let hp = f1.points in
    let e = o.points in
    let b = loop_begun f1 in
    let F = for_from q (for_test c v) (performed_if c third) (lowered c s) x (hp + 1) (hp + 2) e b in
    let W = in_scope o.here.scope (at e F) in
    let xs = calls_at_start start in
    let ys = calls_if v ++ calls_in_effect_if third ++ calls_in_statement s in
    let j = place q h.scope in
    let t1 = stage_as g k (place d.here.at h.scope) (xs ++ calls_if v ++ calls_in_effect_if third ++ calls_in_statement s) (xs ++ ys) d W (apart xs (calls_if v) (calls_in_effect_if third) (calls_in_statement s)) t in
    let t0 = stage_at g k (place d.here.at h.scope) j (xs ++ ys) d d0 W t1 (forth_none g (fresh_adds t.marks Free Uncalled 1 o)) (proper.positions d.here k h.scope q t.here) in
    let ms = t.marks in
    let C = IsCalled c ys in
    let two = calls_if v ++ calls_in_effect_if third in
    let k2 = front_called C c two (calls_in_statement s) (all_called c ys) in
    let loops = for_adds ms Free C q (for_test c v) (performed_if c third) (lowered c s) x (test_adds ms Free C c v (front_called C c (calls_if v) (calls_in_effect_if third) k2)) (third_adds ms Free C c third (back_called C c (calls_if v) (calls_in_effect_if third) k2))
    (λ w i r. statement C c _ m s (inside w i x) ms Free (λ i o. tt) fits.3 (marking_inside x m ms w i marking) (back_called C c two (calls_in_statement s) (all_called c ys)) r) (hp + 1) (hp + 2) e b in
    let from_b : Enlarges ms Free C b W = path_then (enlarges ms Free C b F loops) (scope_enlarges ms Free C o.here.scope (at e F)) in
    let from_f : Enlarges ms Free C f0 W = path_then (enlarges ms Free C f0 b (stays_then (on_adds ms Free C q f0) (begun_adds ms Free C f1))) from_b in
    let first = start_enlarges ms Free (IsCalled c xs) c start d0 (start_free start) (all_called c xs) in
    let st = part_first g OnPath k j xs ys d0 f0 W t0 from_f in
    let shows = start_shown g proper k h.scope q start n d fits.0 t.here settled.0 st in
    let le = forth_first g k j xs ys d0 W t0 first in
    let z = begun g OnPath C k j inner (xs ++ ys) d0 f1 W t0 le from_b shows in
    let U = Any in
    let all : Enlarges ms Free U d0 W = path_then (start_enlarges ms Free U c start d0 (start_free start) (any_called c xs)) (widen ms C f0 W from_f) in
    let room = part_room g OnPath (In ms) U k j (xs ++ ys) d0 d0 W t0 all in
    let size = (fresh_adds ms Free U 1 o).size in
    let behind : ShowsAt g e k j = part_point g OnPath U k (place d.here.at h.scope) j (xs ++ ys) d o d0 W e o.here t1 (forth_here g d.points d.regions) refl all (omega arith) (omega arith) (fresh_one o (omega (arith, room, size))) (proper.positions d.here k h.scope q t.here) in
    let lv = first.variables in
    let sb = part_until g OnPath k inner ys b F W (part_second g k j inner xs ys d0 b W t0 (forth_then g le (forth_none g (stays_then (on_adds ms Free Uncalled q f0) (begun_adds ms Free Uncalled f1)))) shows) (scope_enlarges ms Free Uncalled o.here.scope (at e F)) in
    let calm_b = calm_more d.variables b.variables hs (omega (arith, lv)) calm in (
      st,
      (
        calm_plain d.variables hs calm,
        hp,
        hp + 2,
        e,
        z.there,
        z.first,
        record {
          objects = n + objects_at_start start;
          mark = m;
          begin = hp + 1;
          draft = b;
          at = refl;
          fits = (fits.1, fits.2, fits.3);
          stage = sb;
          marking = marking;
          settled = settled.2;
          calm = calm_b;
          heads = z.first;
          told = settled.1;
          begins = z.second;
          continues = z.third;
        },
        tt,
        behind,
        l,
      ),
    ) where
      widen : (ms : List ℕ) (C : ℕ → Size → Type 0) (d e : Draft) → Enlarges ms Free C d e → Enlarges ms Free Any d e
      widen ms C d e r = loosened (λ j z i. tt) r

back_round : (g : Whole) (proper : Proper g) (k : ℕ) (i j : Place) (x : Exits) (v : Option ValueTree) (third : Option EffectTree) (s : StatementTree) (o : Place) (a : Ahead) (p : ℕ) (hs : List Held) → Laid g k i x (work.Back j (For v third s) o a) p hs
    → RoundLaid g k j x s (For v third s) o a hs
back_round g proper k i j x v third s o a p hs (plain, b, c, e, there, shown, loop, cont, behind, l) = (e, c, loop.begin, (for_parts g proper k j x v third s o a b c e hs loop behind l).1)

-- the body of a `for`, in its exits
pub for_round : (g : Whole) (proper : Proper g) (k : ℕ) (h : Place) (x : Exits) (q : Pos) (start : ForStartTree) (v : Option ValueTree) (third : Option EffectTree) (s : StatementTree) (a : Ahead) (p : ℕ) (hs : List Held)
    → Laid g k h x (work.Do (tree.for_loop q start v third s) a) p hs → RoundLaid g k (place q (meaning.for_scope g.program k start h.scope)) x s (For v third s) (place q h.scope) a hs
for_round g proper k h x q start v third s a p hs (d, n, m, is, fits, calm, t, marking, settled, l) =
    let j = place q (meaning.for_scope g.program k start h.scope) in
    back_round g proper k j j x v third s (place q h.scope) a _ hs (for_begun g proper k h x q start v third s a hs d n m fits calm t marking settled l).1
