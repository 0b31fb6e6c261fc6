-- From the work of a `for`, where it begins again and at the end of its body, to that of its parts.
use Rattle.std.proofs.Common.{◌≡◌, ℕ, ◌⊎◌, List, [], ◌∷◌, ◌++◌, refl, sym, ap, ◌∙◌, subst, inl, inr, Option, Some, None}
use Rattle.pk_ctypes.specs.declared.places.Pos.{Pos}
use Rattle.pk_typed.specs.Trees.{ValueTree, EffectTree, StatementTree}
use Rattle.pk_typed.specs.Trees as tree
use Rattle.pk_welltyped.specs.Listed.{Numbered, calls_if, calls_in_effect_if, calls_in_statement}
use Rattle.pk_graph.specs.Trees.{Skip}
use Rattle.pk_draft.specs.Drafts.{on, at, link, go, in_scope}
use Rattle.pk_draft.specs.declared.drafts.Size.{Size}
use Rattle.pk_lower_statement.specs.declared.statements.Exits.{Exits}
use Rattle.pk_lower_statement.specs.Statements.{inside, for_test, performed_if, lowered}
use Rattle.pk_meaning.specs.Work as work
use Rattle.pk_meaning.specs.Work.{Place, Ahead, For, Onward}
use Rattle.pk_meaning.specs.Steps as meaning
use Rattle.pk_meaning.specs.Steps.{place}
use Rattle.pk_visits.proofs.Settled.Trees.{Settles}
use Rattle.pk_visits.proofs.Slots.{Draft, Among, edge, last_among, front_among, Uncalled}
use Rattle.pk_visits.proofs.Stands.{Whole, Proper, context_of, Held, around, ArePlain, ShowsAt, Distinct, Stage, led_to, Loops, LaidAhead, LaidWay, Laid, IsCalled}
use Rattle.pk_visits.proofs.Stages.{all_called, back_among, among_front, among_back, among_either, distinct_front, distinct_back, distinct_between, led_both, part_first, part_second, part_until, forth_all, forth_first}
use Rattle.pk_visits.proofs.Grows.Expressions.{front_called, back_called}
use Rattle.pk_visits.proofs.Grows.Statements.{Stays, OnPath, Adds, Enlarges, enlarges, stays_then, path_then, on_adds, link_adds, test_adds, third_enlarges, scoped_adds, statement, marking_inside, Free}
use Rattle.pk_visits.proofs.Operands.{calm_more}
use Rattle.pk_visits.proofs.Steps.Statements.{shows_on}
use Rattle.pk_visits.proofs.Steps.Rounds.{again, again_while, again_do}
use Rattle.pk_visits.proofs.Doom.{calm_plain}
use Rattle.pk_visits.proofs.Steps.Returns.{jump_edge}

-- ---- calls in another order

distinct_both : (xs ys : List ℕ) → Distinct xs → Distinct ys → ((m : ℕ) → Among m xs → Among m ys → ⊥) → Distinct (xs ++ ys)
distinct_both [] ys a b n = b
distinct_both (x ∷ xs) ys a b n = (λ k. by (among_either xs ys x k), distinct_both xs ys a.1 b (λ m k l. n m (inr k) l)) where
  by : Among x xs ⊎ Among x ys → ⊥
  by (inl k) = a.0 k
  by (inr k) = n x (inl refl) k

either_among : {A : Type 0} (xs ys : List A) (x : A) → Among x (xs ++ ys) → Among x xs ⊎ Among x ys
either_among [] ys x h = inr h
either_among (z ∷ xs) ys x (inl e) = inl (inl e)
either_among (z ∷ xs) ys x (inr h) = by (either_among xs ys x h) where
  by : Among x xs ⊎ Among x ys → Among x (z ∷ xs) ⊎ Among x ys
  by (inl k) = inl (inr k)
  by (inr k) = inr k

-- the third of three lists in second place
other_order : {A : Type 0} (xs ys zs : List A) (x : A) → Among x (xs ++ (zs ++ ys)) → Among x ((xs ++ ys) ++ zs)
other_order xs ys zs x h = by (either_among xs (zs ++ ys) x h) where
  two : Among x zs ⊎ Among x ys → Among x ((xs ++ ys) ++ zs)
  two (inl k) = back_among (xs ++ ys) zs x k
  two (inr k) = front_among (xs ++ ys) zs x (back_among xs ys x k)

  by : Among x xs ⊎ Among x (zs ++ ys) → Among x ((xs ++ ys) ++ zs)
  by (inl k) = front_among (xs ++ ys) zs x (front_among xs ys x k)
  by (inr k) = two (either_among zs ys x k)

distinct_other : (xs ys zs : List ℕ) → Distinct ((xs ++ ys) ++ zs) → Distinct (xs ++ (zs ++ ys))
distinct_other xs ys zs d =
    let two = distinct_front (xs ++ ys) zs d in
    distinct_both xs (zs ++ ys) (distinct_front xs ys two)
    (distinct_both zs ys (distinct_back (xs ++ ys) zs d) (distinct_back xs ys two) (λ m c b. distinct_between (xs ++ ys) zs m d (among_back xs ys m b) c))
    (λ m a k. by m a (among_either zs ys m k)) where
      by : (m : ℕ) → Among m xs → Among m zs ⊎ Among m ys → ⊥
      by m a (inl c) = distinct_between (xs ++ ys) zs m d (among_front xs ys m a) c
      by m a (inr b) = distinct_between xs ys m (distinct_front (xs ++ ys) zs d) a b

abbrev stage_other : (g : Whole) (k : ℕ) (h : Place) (xs ys zs : List Numbered) (d e : Draft) → Stage g k h ((xs ++ ys) ++ zs) d e → Stage g k h (xs ++ (zs ++ ys)) d e
stage_other g k h xs ys zs d e s = record {
  marks = s.marks;
  later = s.later;
  leads = s.leads;
  bounded = s.bounded;
  free = s.free;
  spans = λ z a. s.spans z (other_order xs ys zs z a);
  here = s.here;
  apart = λ m a. s.apart m (subst (Among m) (sym first) (other_order (led xs) (led ys) (led zs) m (subst (Among m) second a)));
  distinct = subst Distinct (sym second) (distinct_other (led xs) (led ys) (led zs) (subst Distinct first s.distinct));
  path = s.path;
  noted = λ z a. s.noted z (other_order xs ys zs z a);
} where
  led : List Numbered → List ℕ
  led = led_to (context_of g k)

  first : led_to (context_of g k) ((xs ++ ys) ++ zs) ≡ (led_to (context_of g k) xs ++ led_to (context_of g k) ys) ++ led_to (context_of g k) zs
  first = led_both (context_of g k) (xs ++ ys) zs ∙ ap (λ l. l ++ led_to (context_of g k) zs) (led_both (context_of g k) xs ys)

  second : led_to (context_of g k) (xs ++ (zs ++ ys)) ≡ led_to (context_of g k) xs ++ (led_to (context_of g k) zs ++ led_to (context_of g k) ys)
  second = led_both (context_of g k) xs (zs ++ ys) ∙ ap (λ l. led_to (context_of g k) xs ++ l) (led_both (context_of g k) zs ys)

-- ---- the drafts of a `for`

-- the test of a `for` where it begins again, and its body
pub for_parts : (g : Whole) (proper : Proper g) (k : ℕ) (h : Place) (x : Exits) (v : Option ValueTree) (third : Option EffectTree) (s : StatementTree) (o : Place) (a : Ahead) (p c b : ℕ) (hs : List Held)
    → (loop : Loops g k h x (For v third s) p c b hs) → ShowsAt g b k o → LaidAhead g k x a b hs
    → Stage g k h (calls_if v) loop.draft (for_test (context_of g k) v loop.begin b loop.draft) × Laid g k h (inside b c x) (work.Do s (work.Again h (For v third s) o a)) loop.begin hs
for_parts g proper k h x v third s o a p c b hs loop shown z =
    let ctx = context_of g k in
    let d = loop.draft in
    let d1 = for_test ctx v loop.begin b d in
    let w = inside b c x in
    let d2 = lowered ctx s w (at loop.begin d1) in
    let r = go Skip c d2 in
    let f = go Skip d.point (performed_if ctx third (in_scope d.here.scope (on h.at r))) in
    let t = stage_other g k h (calls_if v) (calls_in_effect_if third) (calls_in_statement s) d f loop.stage in
    let three = IsCalled ctx (calls_in_effect_if third) in
    let both = calls_in_statement s ++ calls_in_effect_if third in
    let C = IsCalled ctx both in
    let marks = marking_inside x loop.mark t.marks b c loop.marking in
    let test = test_adds t.marks Free (IsCalled ctx (calls_if v)) ctx v (all_called ctx (calls_if v)) loop.begin b d in
    let behind = third_enlarges t.marks Free three ctx h.at third (all_called ctx (calls_in_effect_if third)) d.here.scope d.point r in
    let after : Enlarges t.marks Free three d2 f = path_then (enlarges t.marks Free three d2 r (link_adds t.marks Free three Skip c d2)) behind in
    let body = statement C ctx _ loop.mark s w t.marks Free (λ i o. tt) loop.fits.2 marks (front_called C ctx (calls_in_statement s) (calls_in_effect_if third) (all_called ctx both)) (at loop.begin d1) in
    let third_called = back_called C ctx (calls_in_statement s) (calls_in_effect_if third) (all_called ctx both) in
    let end : Enlarges t.marks Free C r f = third_enlarges t.marks Free C ctx h.at third third_called d.here.scope d.point r in
    let rest : Enlarges t.marks Free C d1 f = path_then (enlarges t.marks Free C d1 r (stays_then body (link_adds t.marks Free C Skip c d2))) end in
    let se = part_first g OnPath k h (calls_if v) both d d1 f t rest in
    let first = subst (λ q. g.shows d.here k (place q h.scope)) (proper.at_positions d.here k h t.here) t.here in
    let ss = part_second g k h (place d1.here.at h.scope) (calls_if v) both d (at loop.begin d1) f t (forth_first g k h (calls_if v) both d f t test) (shows_on g proper k h.scope d.here d1.here first test.here) in
    let sd = part_first g OnPath k (place d1.here.at h.scope) (calls_in_statement s) (calls_in_effect_if third) (at loop.begin d1) d2 f ss after in
    let ve = test.variables in
    let there = t.leads.edges _ (behind.edges _ (last_among d2.edges (edge d2.point Skip c))) in
    (se, (at loop.begin d1, loop.objects, loop.mark, refl, loop.fits.2, calm_more d.variables d1.variables hs ve loop.calm, sd, marks, loop.settled, again g k h x (For v third s) o a p c b d2.point hs loop tt there shown z))

-- a `for` where it begins again: its test, then the body or what is behind
pub turn_for : (g : Whole) (proper : Proper g) (k : ℕ) (h i : Place) (x : Exits) (e : ValueTree) (third : Option EffectTree) (s : StatementTree) (o : Place) (a : Ahead) (p : ℕ) (hs : List Held)
    → Laid g k i x (work.Turn h (For (Some e) third s) o a) p hs → Laid g k h x (work.Test e (Onward h (work.Do s (work.Again h (For (Some e) third s) o a))) (Onward o (work.Go a))) p hs
turn_for g proper k h i x e third s o a p hs (is, plain, c, b, loop, cont, shown, z) =
    let parts = for_parts g proper k h x (Some e) third s o a p c b hs loop shown z in
    (loop.draft, loop.objects, loop.begin, b, loop.at, loop.fits.0, loop.calm, parts.0, (loop.begins, (inside b c x, parts.1)), (shown, (x, (plain, z))))

-- without a test: the edge to its body
pub turn_ever : (g : Whole) (proper : Proper g) (k : ℕ) (h i : Place) (x : Exits) (third : Option EffectTree) (s : StatementTree) (o : Place) (a : Ahead) (p : ℕ) (hs : List Held)
    → Laid g k i x (work.Turn h (For None third s) o a) p hs → (q : ℕ) × Among (edge p Skip q) g.edges × ShowsAt g q k h × ((y : Exits) × Laid g k h y (work.Do s (work.Again h (For None third s) o a)) q hs)
turn_ever g proper k h i x third s o a p hs (is, plain, c, b, loop, cont, shown, z) =
    let parts = for_parts g proper k h x None third s o a p c b hs loop shown z in
    let d = loop.draft in
    (loop.begin, subst (λ q. Among (edge q Skip loop.begin) g.edges) loop.at (parts.0.leads.edges _ (last_among d.edges (edge d.point Skip loop.begin))), loop.begins, (inside b c x, parts.1))

-- the third part of a `for`, and back
pub third_laid : (g : Whole) (proper : Proper g) (k : ℕ) (h : Place) (x : Exits) (v : Option ValueTree) (third : Option EffectTree) (s : StatementTree) (o : Place) (a : Ahead) (p : ℕ) (hs : List Held) → ArePlain hs
    → LaidAhead g k x (work.Again h (For v third s) o a) p hs → (y : Exits) × Laid g k h y (meaning.resumed h (For v third s) o a) x.continued hs
third_laid g proper k h x v third s o a p hs plain (y, b, there, shown, same, loop, cont, behind, z) = (y, by third refl) where
  c : ℕ
  c = x.continued

  d : Draft
  d = loop.draft

  d1 : Draft
  d1 = for_test (context_of g k) v loop.begin x.broken d

  d2 : Draft
  d2 = lowered (context_of g k) s (inside x.broken c y) (at loop.begin d1)

  u : Draft
  u = in_scope d.here.scope (on h.at (go Skip c d2))

  back : (w : Draft) → Among (edge w.point Skip d.point) g.edges → Laid g k h y (work.Back h (For v third s) o a) w.point hs
  back w e = (plain, b, c, x.broken, subst (λ q. Among (edge w.point Skip q) g.edges) loop.at e, loop.heads, loop, cont, behind, z)

  t : Stage g k h (calls_if v ++ (calls_in_statement s ++ calls_in_effect_if third)) d (go Skip d.point (performed_if (context_of g k) third u))
  t = stage_other g k h (calls_if v) (calls_in_effect_if third) (calls_in_statement s) d (go Skip d.point (performed_if (context_of g k) third u)) loop.stage

  first : g.shows d.here k (place d.here.at h.scope)
  first = subst (λ q. g.shows d.here k (place q h.scope)) (proper.at_positions d.here k h t.here) t.here

  C : ℕ → Size → Type 0
  C = IsCalled (context_of g k) (calls_if v ++ (calls_in_statement s ++ calls_in_effect_if third))

  test : Adds t.marks Free C d d1
  test = test_adds t.marks Free C (context_of g k) v (front_called C (context_of g k) (calls_if v) (calls_in_statement s ++ calls_in_effect_if third) (all_called (context_of g k) _)) loop.begin x.broken d

  body : Adds t.marks Free C d1 d2
  body = statement C (context_of g k) _ loop.mark s (inside x.broken c y) t.marks Free (λ i o. tt) loop.fits.2 (marking_inside y loop.mark t.marks x.broken c loop.marking)
      (front_called C (context_of g k) (calls_in_statement s) (calls_in_effect_if third) (back_called C (context_of g k) (calls_if v) (calls_in_statement s ++ calls_in_effect_if third) (all_called (context_of g k) _))) (at loop.begin d1)

  round : Adds t.marks Free C d u
  round = scoped_adds t.marks Free C 0 d (on h.at (go Skip c d2)) (stays_then test (stays_then body (stays_then (link_adds t.marks Free C Skip c d2) (on_adds t.marks Free C h.at (go Skip c d2)))))

  stands : Stage g k h (calls_in_effect_if third) u (go Skip d.point (performed_if (context_of g k) third u))
  stands =
      let rest = stays_then body (stays_then (link_adds t.marks Free C Skip c d2) (on_adds t.marks Free C h.at (go Skip c d2))) in
      let ss = part_second g k h (place d1.here.at h.scope) (calls_if v) (calls_in_statement s ++ calls_in_effect_if third) d d1 (go Skip d.point (performed_if (context_of g k) third u)) t (forth_all g k h (calls_if v ++ (calls_in_statement s ++ calls_in_effect_if third)) d (go Skip d.point (performed_if (context_of g k) third u)) t test) (shows_on g proper k h.scope d.here d1.here first test.here) in
      part_second g k (place d1.here.at h.scope) h (calls_in_statement s) (calls_in_effect_if third) d1 u (go Skip d.point (performed_if (context_of g k) third u)) ss (forth_all g k h (calls_if v ++ (calls_in_statement s ++ calls_in_effect_if third)) d (go Skip d.point (performed_if (context_of g k) third u)) t rest) (shows_on g proper k h.scope d.here u.here first round.here)

  by : (w : Option EffectTree) → w ≡ third → Laid g k h y (meaning.performed_if w (work.Back h (For v third s) o a)) c hs
  by None e = back u (t.leads.edges _ (subst (λ (w : Option EffectTree). Among (edge c Skip d.point) (link Skip d.point (performed_if (context_of g k) w u)).edges) e (last_among u.edges (edge c Skip d.point))))
  by (Some q) e =
      let w = performed_if (context_of g k) (Some q) u in
      let vr = round.variables in
      let st = subst (λ (z : Option EffectTree). Stage g k h (calls_in_effect_if z) u (go Skip d.point (performed_if (context_of g k) z u))) (sym e) stands in
      let fits = subst (λ (z : Option EffectTree). Rattle.pk_welltyped.specs.WellTyped.IsEffectIf (around g k loop.objects) z) (sym e) loop.fits.1 in (
        u,
        loop.objects,
        refl,
        fits,
        (λ q. calm_more d.variables u.variables hs vr loop.calm),
        part_until g Stays k h (calls_in_effect_if (Some q)) u w (go Skip d.point w) st (link_adds st.marks Free Uncalled Skip d.point w),
        back w (st.leads.edges _ (last_among w.edges (edge w.point Skip d.point))),
      )

-- ---- the ends of bodies

-- a loop from the end of its body
pub resumed_laid : (g : Whole) (proper : Proper g) (k : ℕ) (h : Place) (x : Exits) (l : work.Loop) (o : Place) (a : Ahead) (p : ℕ) (hs : List Held) → ArePlain hs → LaidAhead g k x (work.Again h l o a) p hs
    → (y : Exits) × Laid g k h y (meaning.resumed h l o a) x.continued hs
resumed_laid g proper k h x (work.While e s) o a p hs plain l = again_while g k h x e s o a p hs plain l
resumed_laid g proper k h x (work.DoWhile s e) o a p hs plain l = again_do g proper k h x e s o a p hs plain l
resumed_laid g proper k h x (For v third s) o a p hs plain l = third_laid g proper k h x v third s o a p hs plain l

continued_laid : (g : Whole) (proper : Proper g) (k : ℕ) (x : Exits) (a : Ahead) (p : ℕ) (hs : List Held) → (x.continued ≡ x.left → ⊥) → ArePlain hs → LaidAhead g k x a p hs → LaidWay g k (meaning.continued a) x.continued hs
continued_laid g proper k x (work.Rest xs is a) p hs none plain (d, n, m, is', fits, calm, s, marking, settled, l) = continued_laid g proper k x a _ hs none plain l
continued_laid g proper k x (work.Join h a) p hs none plain (q, there, shown, l) = continued_laid g proper k x a q hs none plain l
continued_laid g proper k x (work.Again h u o a) p hs none plain l = (l.3, resumed_laid g proper k h x u o a p hs plain l)
continued_laid g proper k x (work.Close h a) p hs none plain (y, there, shown, same, l) =
    subst (λ (z : Exits). LaidWay g k (meaning.continued a) z.continued hs) (sym same) (continued_laid g proper k y a _ hs (subst (λ (z : Exits). z.continued ≡ z.left → ⊥) same none) plain l)
continued_laid g proper k x (work.End c) p hs none plain l = absurd (none l.3.continued)

-- `continue`: the edge, and the end of the body
pub continue_laid : (g : Whole) (proper : Proper g) (k : ℕ) (h : Place) (x : Exits) (p : Pos) (a : Ahead) (pt : ℕ) (hs : List Held) → Laid g k h x (work.Do (tree.continue p) a) pt hs
    → Among (edge pt Skip x.continued) g.edges × LaidWay g k (meaning.continued a) x.continued hs
unfolding lowered Settles
continue_laid g proper k h x p a pt hs (d, n, m, is, fits, calm, s, marking, settled, l) =
    (subst (λ q. Among (edge q Skip x.continued) g.edges) is (jump_edge g k _ _ p x.continued d s), continued_laid g proper k x a _ hs settled (calm_plain d.variables hs calm) l)
