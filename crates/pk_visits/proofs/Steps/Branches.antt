-- From the work of an `if` to that of its test and branches.
use Rattle.std.proofs.Common.{◌≡◌, ℕ, ◌+◌, ◌≤◌, List, [], ◌++◌, length, refl, sym, subst, arith, append-nil}
use Rattle.pk_ctypes.specs.declared.places.Pos.{Pos}
use Rattle.pk_typed.specs.Trees.{ValueTree, StatementTree}
use Rattle.pk_typed.specs.Trees as tree
use Rattle.pk_welltyped.specs.Listed.{Numbered, calls_in, calls_in_statement}
use Rattle.pk_welltyped.specs.WellTyped.{IsValue, IsStatement}
use Rattle.pk_graph.specs.Trees.{Skip}
use Rattle.pk_draft.specs.declared.drafts.Label.{Label}
use Rattle.pk_draft.specs.Drafts.{on, at, fresh, link}
use Rattle.pk_lower_row.specs.Contexts.{callee, size_in}
use Rattle.pk_lower_expression.specs.Expressions.{ways}
use Rattle.pk_lower_statement.specs.declared.statements.Exits.{Exits}
use Rattle.pk_lower_statement.specs.Statements.{meeting, lowered}
use Rattle.pk_meaning.specs.Work as work
use Rattle.pk_meaning.specs.Work.{Place, Work, Ahead, Onward}
use Rattle.pk_meaning.specs.Steps.{place}
use Rattle.pk_visits.proofs.Slots.{Draft, Among, edge, last_among, front_among, Uncalled}
use Rattle.pk_visits.proofs.Stands.{Whole, Proper, context_of, Held, around, AreCalm, ShowsAt, Stage, led_to, Marking, Laid, IsCalled}
use Rattle.pk_visits.proofs.Settled.Trees.{Settles}
use Rattle.pk_visits.proofs.Stages.{In, all_called, ways_grow, part_first, part_second, part_until, stage_at, part_point, part_room, fresh_first, fresh_second, fresh_one, forth_here, forth_none, forth_first, forth_second, forth_then}
use Rattle.pk_visits.proofs.Grows.Rows.{fresh_one_grows}
use Rattle.pk_visits.proofs.Steps.Tells.{sane, any_called, Any}
use Rattle.pk_visits.proofs.Grows.Statements.{Stays, Adds, on_adds, stays_then, statement, choice_adds, link_adds, fresh_adds, nothing_adds, meeting_adds, Free}
use Rattle.pk_visits.proofs.Operands.{calm_more}
use Rattle.pk_visits.proofs.Steps.Statements.{shows_on}
use Rattle.pk_visits.proofs.Doom.{calm_plain}

-- the draft with two new points, behind the choice, behind each branch, and where both meet
abbrev opened : Pos → Draft → Draft
opened p d = fresh 2 (on p d)

abbrev chosen : ((i j : ℕ) → Draft → Draft) → Pos → Draft → Draft
chosen choice p d = choice d.points (d.points + 1) (opened p d)

abbrev first_end : ((i j : ℕ) → Draft → Draft) → (Draft → Draft) → Pos → Draft → Draft
first_end choice a p d = a (at d.points (chosen choice p d))

abbrev second_end : ((i j : ℕ) → Draft → Draft) → (a b : Draft → Draft) → Pos → Draft → Draft
second_end choice a b p d = b (at (d.points + 1) (first_end choice a p d))

abbrev met : ((i j : ℕ) → Draft → Draft) → (a b : Draft → Draft) → Pos → Draft → Draft
met choice a b p d = meeting p (first_end choice a p d).point (second_end choice a b p d)

-- what is known of the parts of an `if`
record Parts (g : Whole) (k : ℕ) (j : Place) (choice : (i j : ℕ) → Draft → Draft) (a b : Draft → Draft) (p : Pos) (xs ys zs : List Numbered) (d : Draft) (ms : List ℕ) (scope : List Rattle.pk_meaning.specs.Objects.Object) : Type 0 where
  pub test : Stage g k j xs (opened p d) (chosen choice p d)
  pub first : Stage g k (place (chosen choice p d).here.at scope) ys (at d.points (chosen choice p d)) (first_end choice a p d)
  pub second : Stage g k (place (first_end choice a p d).here.at scope) zs (at (d.points + 1) (first_end choice a p d)) (second_end choice a b p d)
  pub first_marks : first.marks ≡ ms
  pub second_marks : second.marks ≡ ms
  pub yes : ShowsAt g d.points k j
  pub no : ShowsAt g (d.points + 1) k j
  pub meets : Among (edge (first_end choice a p d).point Skip (second_end choice a b p d).points) g.edges
  pub meets_too : Among (edge (second_end choice a b p d).point Skip (second_end choice a b p d).points) g.edges
  pub join : ShowsAt g (second_end choice a b p d).points k j
  pub more : d.variables ≤ (chosen choice p d).variables
  pub more_too : d.variables ≤ (first_end choice a p d).variables

parts : (g : Whole) (proper : Proper g) (k : ℕ) (h : Place) (choice : (i j : ℕ) → Draft → Draft) (a b : Draft → Draft) (p : Pos) (xs ys zs : List Numbered) (d : Draft)
    → (s : Stage g k (place d.here.at h.scope) (xs ++ ys ++ zs) d (met choice a b p d))
    → Adds s.marks Free (IsCalled (context_of g k) xs) (opened p d) (chosen choice p d) → Adds s.marks Free (IsCalled (context_of g k) ys) (at d.points (chosen choice p d)) (first_end choice a p d)
    → Adds s.marks Free (IsCalled (context_of g k) zs) (at (d.points + 1) (first_end choice a p d)) (second_end choice a b p d)
    → Adds s.marks Free Any (opened p d) (chosen choice p d) → Adds s.marks Free Any (at d.points (chosen choice p d)) (first_end choice a p d) → Adds s.marks Free Any (at (d.points + 1) (first_end choice a p d)) (second_end choice a b p d)
    → Parts g k (place p h.scope) choice a b p xs ys zs d s.marks h.scope
parts g proper k h choice a b p xs ys zs d s hc ha hb ac aa ab =
    let j = place p h.scope in
    let o = opened p d in
    let c = chosen choice p d in
    let t = first_end choice a p d in
    let u = second_end choice a b p d in
    let f = met choice a b p d in
    let at_on = proper.positions d.here k h.scope p s.here in
    let opens : Adds s.marks Free Any (on p d) o = fresh_adds s.marks Free Any 2 (on p d) in
    let from_o : Adds s.marks Free Any o f = stays_then ac (stays_then aa (stays_then ab (meeting_adds s.marks Free Any p t.point u))) in
    let room = part_room g Stays (In s.marks) Any k _ (xs ++ ys ++ zs) d o f s from_o in
    let size = opens.size in
    let r : (on p d).points + 2 ≤ length (on p d).labels = omega (arith, room, size) in
    let so = stage_at g k (place d.here.at h.scope) j (xs ++ ys ++ zs) d o f s (forth_none g (fresh_adds s.marks Free Uncalled 2 (on p d))) (subst (λ (l : Label). g.shows l k j) (sym (Rattle.pk_visits.proofs.Grows.Statements.fresh_grows Any 2 (on p d)).here) at_on) in
    let su = part_until g Stays k j (xs ++ ys ++ zs) o u f so (meeting_adds s.marks Free Uncalled p t.point u) in
    let st = part_first g Stays k j (xs ++ ys) zs o t u su hb in
    let test = part_first g Stays k j xs ys o c t st ha in
    let shows_c = shows_on g proper k h.scope (on p d).here c.here at_on (stays_then opens ac).here in
    let shows_t = shows_on g proper k h.scope (on p d).here t.here at_on (stays_then opens (stays_then ac aa)).here in
    let first = part_second g k j (place c.here.at h.scope) xs ys o (at d.points c) t st (forth_first g k j xs ys o t st hc) shows_c in
    let le = forth_then g (forth_first g k j xs ys o t st hc) (forth_second g k j xs ys o t st ha) in
    let all = forth_then g (forth_none g (fresh_adds s.marks Free Uncalled 2 (on p d))) (forth_then g le (forth_second g k j (xs ++ ys) zs o u su hb)) in
    let second = part_second g k j (place t.here.at h.scope) (xs ++ ys) zs o (at (d.points + 1) t) u su le shows_t in
    let e1 = fresh 1 (on p u) in
    let l1 = link Skip u.points (at t.point e1) in
    let uj = shows_on g proper k h.scope (on p d).here (on p u).here at_on (stays_then opens (stays_then ac (stays_then aa (stays_then ab (on_adds s.marks Free Any p u))))).here in
    let from_e : Adds s.marks Free Any e1 f = stays_then (link_adds s.marks Free Any Skip u.points (at t.point e1)) (link_adds s.marks Free Any Skip u.points (at u.point l1)) in
    let room_e = part_room g Stays (In s.marks) Any k _ (xs ++ ys ++ zs) d e1 f s from_e in
    let size_e = (fresh_one_grows Any (on p u)).size in
    let lu = (stays_then opens (stays_then ac (stays_then aa ab))).points in
    let v1 = (stays_then opens ac).variables in
    let v2 = (stays_then opens (stays_then ac aa)).variables in
    record {
      test = test;
      first = first;
      second = second;
      first_marks = refl {a = s.marks};
      second_marks = refl {a = s.marks};
      yes = part_point g Stays Any k _ j (xs ++ ys ++ zs) d (on p d) o f d.points (on p d).here s (forth_here g d.points d.regions) refl from_o (omega arith) (omega arith) (fresh_first (on p d) r) at_on;
      no = part_point g Stays Any k _ j (xs ++ ys ++ zs) d (on p d) o f (d.points + 1) (on p d).here s (forth_here g d.points d.regions) refl from_o (omega arith) (omega arith) (fresh_second (on p d) r) at_on;
      meets = s.leads.edges _ (front_among l1.edges _ _ (last_among e1.edges (edge t.point Skip u.points)));
      meets_too = s.leads.edges _ (last_among l1.edges (edge u.point Skip u.points));
      join = part_point g Stays Any k _ j (xs ++ ys ++ zs) d u e1 f u.points (on p u).here s all (refl {a = u.regions}) from_e (omega arith) (omega arith) (fresh_one (on p u) (omega (arith, room_e, size_e))) uj;
      more = v1;
      more_too = v2;
    }

-- a test that decides between two works at its place, in the same exits
abbrev pub ChoiceLaid : Whole → ℕ → Place → Exits → ValueTree → (yes no : Work) → ℕ → List Held → Type 0
ChoiceLaid g k h x e v w p hs = (d : Draft) × (n : ℕ) × (i : ℕ) × (j : ℕ) × (d.point ≡ p) × IsValue (around g k n) e × AreCalm d.variables hs × Stage g k h (calls_in e) d ((ways (context_of g k) e).choice i j d)
    × ShowsAt g i k h × Laid g k h x v i hs × ShowsAt g j k h × Laid g k h x w j hs

pub choice_laid : (g : Whole) (k : ℕ) (h : Place) (x : Exits) (e : ValueTree) (v w : Work) (p : ℕ) (hs : List Held) → ChoiceLaid g k h x e v w p hs → Laid g k h x (work.Test e (Onward h v) (Onward h w)) p hs
choice_laid g k h x e v w p hs (d, n, i, j, is, fits, calm, t, there, first, other, second) = (d, n, i, j, is, fits, calm, t, (there, (x, first)), (other, (x, second)))

pub if_else_laid : (g : Whole) (proper : Proper g) (k : ℕ) (h : Place) (x : Exits) (p : Pos) (e : ValueTree) (s r : StatementTree) (a : Ahead) (pt : ℕ) (hs : List Held) → Laid g k h x (work.Do (tree.if_else p e s r) a) pt hs
    → ChoiceLaid g k (place p h.scope) x e (work.Do s (work.Join (place p h.scope) a)) (work.Do r (work.Join (place p h.scope) a)) pt hs
unfolding lowered IsStatement calls_in_statement Settles
if_else_laid g proper k h x p e s r a pt hs (d, n, m, is, fits, calm, t, marking, settled, l) =
    let c = context_of g k in
    let choice = (ways c e).choice in
    let fa = lowered c s x in
    let fb = lowered c r x in
    let xs = calls_in e in
    let ys = calls_in_statement s in
    let zs = calls_in_statement r in
    let q = parts g proper k h choice fa fb p xs ys zs d t
    (choice_adds t.marks Free (IsCalled c xs) (ways c e) (ways_grow c e) d.points (d.points + 1) (opened p d)) (statement (IsCalled c ys) c _ m s x t.marks Free (λ i o. tt) fits.1 marking (all_called c ys) (at d.points (chosen choice p d)))
    (statement (IsCalled c zs) c _ m r x t.marks Free (λ i o. tt) fits.2 marking (all_called c zs) (at (d.points + 1) (first_end choice fa p d)))
    (choice_adds t.marks Free Any (ways c e) (sane c e) d.points (d.points + 1) (opened p d)) (statement Any c _ m s x t.marks Free (λ i o. tt) fits.1 marking (any_called c ys) (at d.points (chosen choice p d)))
    (statement Any c _ m r x t.marks Free (λ i o. tt) fits.2 marking (any_called c zs) (at (d.points + 1) (first_end choice fa p d))) in
    let v1 = q.more in
    let v2 = q.more_too in (
      opened p d,
      n,
      d.points,
      d.points + 1,
      is,
      fits.0,
      calm,
      q.test,
      q.yes,
      (
        at d.points (chosen choice p d),
        n,
        m,
        refl,
        fits.1,
        calm_more d.variables (chosen choice p d).variables hs v1 calm,
        q.first,
        subst (Marking x m) (sym q.first_marks) marking,
        settled.0,
        ((second_end choice fa fb p d).points, q.meets, q.join, l),
      ),
      q.no,
      (
        at (d.points + 1) (first_end choice fa p d),
        _,
        m,
        refl,
        fits.2,
        calm_more d.variables (first_end choice fa p d).variables hs v2 calm,
        q.second,
        subst (Marking x m) (sym q.second_marks) marking,
        settled.1,
        ((second_end choice fa fb p d).points, q.meets_too, q.join, l),
      ),
    )

-- the same stage, with no calls behind its own
abbrev with_none : (g : Whole) (k : ℕ) (h : Place) (xs : List Numbered) (d f : Draft) → Stage g k h xs d f → Stage g k h (xs ++ []) d f
with_none g k h xs d f s = record {
  marks = s.marks;
  later = s.later;
  leads = s.leads;
  bounded = s.bounded;
  free = s.free;
  spans = subst (λ ys. (z : Numbered) → Among z ys → (size_in g.sizes z.call.function).points ≡ g.spans (callee (context_of g k) z.number)) (sym (append-nil xs)) s.spans;
  here = s.here;
  apart = subst (λ ys. (m : ℕ) → Among m (led_to (context_of g k) ys) → Among m s.later → ⊥) (sym (append-nil xs)) s.apart;
  distinct = subst (λ ys. Rattle.pk_visits.proofs.Stands.Distinct (led_to (context_of g k) ys)) (sym (append-nil xs)) s.distinct;
  path = s.path;
  noted = subst (λ ys. (z : Numbered) → Among z ys → Among z (Rattle.pk_welltyped.specs.Listed.calls_in_items (Rattle.pk_meaning.specs.Programs.block_of g.program k).items)) (sym (append-nil xs)) s.noted;
}

pub if_then_laid : (g : Whole) (proper : Proper g) (k : ℕ) (h : Place) (x : Exits) (p : Pos) (e : ValueTree) (s : StatementTree) (a : Ahead) (pt : ℕ) (hs : List Held) → Laid g k h x (work.Do (tree.if_then p e s) a) pt hs
    → ChoiceLaid g k (place p h.scope) x e (work.Do s (work.Join (place p h.scope) a)) (work.Go (work.Join (place p h.scope) a)) pt hs
unfolding lowered IsStatement calls_in_statement Settles
if_then_laid g proper k h x p e s a pt hs (d, n, m, is, fits, calm, t, marking, settled, l) =
    let c = context_of g k in
    let choice = (ways c e).choice in
    let fa = lowered c s x in
    let fb = λ (r : Draft). r in
    let xs = calls_in e in
    let ys = calls_in_statement s in
    let split : Stage g k (place d.here.at h.scope) (xs ++ ys ++ []) d (met choice fa fb p d) = with_none g k (place d.here.at h.scope) (xs ++ ys) d (met choice fa fb p d) t in
    let q = parts g proper k h choice fa fb p xs ys [] d split
    (choice_adds t.marks Free (IsCalled c xs) (ways c e) (ways_grow c e) d.points (d.points + 1) (opened p d)) (statement (IsCalled c ys) c _ m s x t.marks Free (λ i o. tt) fits.1 marking (all_called c ys) (at d.points (chosen choice p d)))
    (nothing_adds t.marks Free (IsCalled c []) (first_end choice fa p d))
    (choice_adds t.marks Free Any (ways c e) (sane c e) d.points (d.points + 1) (opened p d)) (statement Any c _ m s x t.marks Free (λ i o. tt) fits.1 marking (any_called c ys) (at d.points (chosen choice p d)))
    (nothing_adds t.marks Free Any (first_end choice fa p d)) in
    let v1 = q.more in (
      opened p d,
      n,
      d.points,
      d.points + 1,
      is,
      fits.0,
      calm,
      q.test,
      q.yes,
      (
        at d.points (chosen choice p d),
        n,
        m,
        refl,
        fits.1,
        calm_more d.variables (chosen choice p d).variables hs v1 calm,
        q.first,
        subst (Marking x m) (sym q.first_marks) marking,
        settled,
        ((second_end choice fa fb p d).points, q.meets, q.join, l),
      ),
      q.no,
      (calm_plain d.variables hs calm, ((second_end choice fa fb p d).points, q.meets_too, q.join, l)),
    )
