-- From the work of `&&`, `||` and `?:` as values to that of their tests and arms, and from a test to its parts.
use Rattle.std.proofs.Common.{◌≡◌, ℕ, ◌+◌, ◌≤◌, List, [], ◌∷◌, ◌++◌, refl, sym, ◌∙◌, subst, arith, length, true, false, append-nil}
use Rattle.std.specs.Prelude.{pos}
use Rattle.pk_ctypes.specs.declared.types.IntType.{IntType}
use Rattle.pk_ctypes.specs.declared.types.IntType.TheVariants.{Int}
use Rattle.pk_ctypes.proofs.Values.{truth_in}
use Rattle.pk_typed.specs.Trees.{ValueTree}
use Rattle.pk_typed.specs.Trees as tree
use Rattle.pk_typed.specs.Types.{type_of}
use Rattle.pk_welltyped.specs.Listed.{Numbered, calls_in}
use Rattle.pk_welltyped.specs.WellTyped.{IsValue}
use Rattle.pk_graph.specs.Trees.{constant, variable, Set}
use Rattle.pk_draft.specs.Drafts.{Given, at, fresh, with_temporary, next_temporary, link}
use Rattle.pk_draft.specs.declared.drafts.Size.{Size}
use Rattle.pk_lower_row.specs.Rows as rows
use Rattle.pk_lower_expression.specs.Expressions.{ways}
use Rattle.pk_lower_statement.specs.declared.statements.Exits.{Exits}
use Rattle.pk_meaning.specs.Work as work
use Rattle.pk_meaning.specs.Work.{Place, Work, Onward}
use Rattle.pk_visits.proofs.Slots.{Slot, temporary, slots, SlotTree, Draft, edge, Among, Grows, last_among, Uncalled}
use Rattle.pk_visits.proofs.Grows.Rows.{grows_refl, grows_trans, fresh_three_grows, temporary_grows, link_grows, Chooses, Gives, loosened}
use Rattle.pk_visits.proofs.Grows.Expressions.{lowered}
use Rattle.pk_visits.proofs.Steps.Tells.{sane, Any}
use Rattle.pk_visits.proofs.Stands.{Whole, Leads, context_of, Held, held, around, AreCalm, ShowsAt, Sets, Stage, Laid, IsCalled}
use Rattle.pk_visits.proofs.Stages.{ways_grow, stage_first, stage_second, stage_until, stage_from, stage_point, stage_room, three_first, three_second, first_called, second_called}
use Rattle.pk_visits.proofs.Operands.{all_temporary, calm_more, next_is}
use Rattle.pk_visits.proofs.Doom.{calm_plain}

-- the temporary of a join is set on the way to its end
sets_join : (g : Whole) (n : ℕ) (d r f : Draft) (e : SlotTree) (q : ℕ) (hs : List Held) (E : ℕ → Size → Type 0) (marks later : List ℕ)
    → d.names ≡ slots → Leads g marks later f → Grows E (link (Set (next_temporary d) e) q r) f → AreCalm d.variables hs
    → Sets g r.point (temporary d.variables) (Set (temporary d.variables) e) q hs
sets_join g n d r f e q hs E marks later ns l u c = record {
  there = subst (λ y. Among (edge r.point (Set y e) q) g.edges) (next_is d ns) (l.edges _ (u.edges _ (last_among r.edges (edge r.point (Set (next_temporary d) e) q))));
  apart = all_temporary d.variables d.variables hs (omega arith) c;
  plain = calm_plain d.variables hs c;
}

-- ---- a join, its choice and its arms

abbrev begun : IntType → Draft → Draft
begun t d = with_temporary t (fresh 3 d)

abbrev decided : IntType → ((p q : ℕ) → Draft → Draft) → Draft → Draft
decided t choice d = choice d.points (d.points + 1) (begun t d)

abbrev middle : (a : Draft → Given Slot) → Slot → (i : ℕ) → Draft → Draft
middle a y i e = rows.set_between y (i + 2) (i + 1) (a (at i e))

joined_after : (t : IntType) (choice : (p q : ℕ) → Draft → Draft) (a b : Draft → Given Slot) → Chooses Any choice → Gives Any a → Gives Any b → (d : Draft)
    → Grows Any (begun t d) (rows.joined t choice a b d).1
joined_after t choice a b x y z d =
    let e = decided t choice d in
    let v = next_temporary d in
    let r = a (at d.points e) in
    let m = middle a v d.points e in
    let q = b m in
    grows_trans (x d.points (d.points + 1) (begun t d)) (grows_trans (y (at d.points e)) (grows_trans (link_grows Any (Set v r.0) (d.points + 2) r.1)
    (grows_trans (z m) (link_grows Any (Set v q.0) (d.points + 2) q.1))))

-- what is known of a join's parts, where its choice leads to the draft e
record Parts (g : Whole) (k : ℕ) (h : Place) (t : IntType) (a b : Draft → Given Slot) (xs ys zs : List Numbered) (d e : Draft) (hs : List Held) : Type 0 where
  pub test : Stage g k h xs (begun t d) e
  pub first : Stage g k h ys (at d.points e) (a (at d.points e)).1
  pub second : Stage g k h zs (middle a (next_temporary d) d.points e) (b (middle a (next_temporary d) d.points e)).1
  pub sets : Sets g (a (at d.points e)).1.point (temporary d.variables) (Set (temporary d.variables) (a (at d.points e)).0) (d.points + 2) hs
  pub sets_too : Sets g (b (middle a (next_temporary d) d.points e)).1.point (temporary d.variables) (Set (temporary d.variables) (b (middle a (next_temporary d) d.points e)).0) (d.points + 2) hs
  pub more : d.variables ≤ e.variables
  pub more_too : d.variables ≤ (middle a (next_temporary d) d.points e).variables
  pub after : Grows Any (begun t d) (rows.set_between (next_temporary d) (d.points + 2) (d.points + 2) (b (middle a (next_temporary d) d.points e)))

parts : (g : Whole) (k : ℕ) (h : Place) (t : IntType) (a b : Draft → Given Slot) (xs ys zs : List Numbered) (d e : Draft) (hs : List Held) → Gives (IsCalled (context_of g k) ys) a → Gives (IsCalled (context_of g k) zs) b → Gives Any a → Gives Any b
    → Grows (IsCalled (context_of g k) xs) (begun t d) e → Grows Any (begun t d) e → d.names ≡ slots
    → Stage g k h (xs ++ ys ++ zs) (begun t d) (rows.set_between (next_temporary d) (d.points + 2) (d.points + 2) (b (middle a (next_temporary d) d.points e))) → AreCalm d.variables hs
    → Parts g k h t a b xs ys zs d e hs
parts g k h t a b xs ys zs d e hs ga gb any_a any_b ge any_e ns s calm =
    let y = next_temporary d in
    let o = d.points + 2 in
    let ra = a (at d.points e) in
    let m = middle a y d.points e in
    let rb = b m in
    let lb = rows.set_between y o o rb in
    let sb = stage_until g k h (xs ++ ys ++ zs) (begun t d) rb.1 lb s (link_grows Uncalled (Set y rb.0) o rb.1) in
    let sea = stage_first g k h (xs ++ ys) zs (begun t d) m rb.1 sb (gb m) in
    let sea' = stage_until g k h (xs ++ ys) (begun t d) ra.1 m sea (link_grows Uncalled (Set y ra.0) o ra.1) in
    let toward : Grows Any (begun t d) m = grows_trans any_e (grows_trans (any_a (at d.points e)) (link_grows Any (Set y ra.0) o ra.1)) in
    let C = IsCalled (context_of g k) (xs ++ ys) in
    let reached : Grows C (begun t d) m =
    grows_trans (loosened (first_called (context_of g k) xs ys) ge) (grows_trans (loosened (second_called (context_of g k) xs ys) (ga (at d.points e))) (link_grows C (Set y ra.0) o ra.1)) in
    let va = ge.variables in
    let vb = toward.variables in
    record {
      test = stage_first g k h xs ys (begun t d) e ra.1 sea' (ga (at d.points e));
      after = grows_trans toward (grows_trans (any_b m) (link_grows Any (Set y rb.0) o rb.1));
      first = stage_second g k h xs ys (begun t d) (at d.points e) ra.1 sea' ge;
      second = stage_second g k h (xs ++ ys) zs (begun t d) m rb.1 sb reached;
      sets = sets_join g 0 d ra.1 lb ra.0 o hs Any s.marks s.later ns s.leads (grows_trans (any_b m) (link_grows Any (Set y rb.0) o rb.1)) calm;
      sets_too = sets_join g 0 d rb.1 lb rb.0 o hs Any s.marks s.later ns s.leads (grows_refl Any lb) calm;
      more = omega (arith, va);
      more_too = omega (arith, vb);
    }

-- the new points of a join are at its place
join_room : (g : Whole) (k : ℕ) (h : Place) (xs : List Numbered) (t : IntType) (d f : Draft) → Stage g k h xs d f → Grows Any (begun t d) f → d.points + 3 ≤ length d.labels
join_room g k h xs t d f s u =
    let a = stage_room g k h Any xs d (begun t d) f s u in
    let q = (fresh_three_grows Uncalled d).size in
    omega (arith, a, q)

shows_first : (g : Whole) (k : ℕ) (h : Place) (xs : List Numbered) (t : IntType) (d f : Draft) → Stage g k h xs d f → Grows Any (begun t d) f → ShowsAt g d.points k h
shows_first g k h xs t d f s u =
    stage_point g k h Any xs d (begun t d) f d.points s refl u (omega arith) (omega arith) (three_first d (join_room g k h xs t d f s u))

shows_second : (g : Whole) (k : ℕ) (h : Place) (xs : List Numbered) (t : IntType) (d f : Draft) → Stage g k h xs d f → Grows Any (begun t d) f → ShowsAt g (d.points + 1) k h
shows_second g k h xs t d f s u =
    stage_point g k h Any xs d (begun t d) f (d.points + 1) s refl u (omega arith) (omega arith) (three_second d (join_room g k h xs t d f s u))

starts : (d : Draft) (t : IntType) → Grows Uncalled d (begun t d)
starts d t = grows_trans (fresh_three_grows Uncalled d) (temporary_grows Uncalled t (fresh 3 d))

-- `c ? a : b`
pub conditional_laid : (g : Whole) (k : ℕ) (h : Place) (x : Exits) (t : IntType) (e a b : ValueTree) (w : Work) (p : ℕ) (hs : List Held) → Laid g k h x (work.Evaluate (tree.conditional t e a b) w) p hs
    → Laid g k h x (work.Test e (Onward h (work.Evaluate a (work.Settle t w))) (Onward h (work.Evaluate b (work.Settle t w)))) p hs
unfolding ways IsValue calls_in type_of
conditional_laid g k h x t e a b w p hs (d, n, is, fits, quiet, s, l) =
    let c = context_of g k in
    let choice = (ways c e).choice in
    let fa = rows.convert_value t (lowered c a) in
    let fb = rows.convert_value t (lowered c b) in
    let f = (rows.joined t choice fa fb d).1 in
    let xs = calls_in e in
    let ys = calls_in a in
    let zs = calls_in b in
    let split : Stage g k h (xs ++ ys ++ zs) d f = s in
    let calm = quiet refl in
    let ns = (grows_trans (grows_trans (fresh_three_grows Any d) (temporary_grows Any t (fresh 3 d)))
    (joined_after t choice fa fb (sane c e).choice (λ r. (sane c a).value r) (λ r. (sane c b).value r) d)).names in
    let names = sym ns ∙ s.leads.names in
    let q = parts g k h t fa fb xs ys zs d (decided t choice d) hs (λ r. (ways_grow c a).value r) (λ r. (ways_grow c b).value r) (λ r. (sane c a).value r) (λ r. (sane c b).value r)
    ((ways_grow c e).choice d.points (d.points + 1) (begun t d)) ((sane c e).choice d.points (d.points + 1) (begun t d)) names
    (stage_from g k h (xs ++ ys ++ zs) d (begun t d) f split (starts d t)) calm in
    let va = q.more in
    let vb = q.more_too in
    let l' = subst (λ v. Laid g k h x w (d.points + 2) (held (variable v) t ∷ hs)) (next_is d names) l in (
      begun t d,
      n,
      d.points,
      d.points + 1,
      is,
      fits.0,
      calm_more d.variables (begun t d).variables hs (omega arith) calm,
      q.test,
      (
        shows_first g k h (xs ++ ys ++ zs) t d f split q.after,
        (x, (at d.points (decided t choice d), n, refl, fits.1, (λ m. calm_more d.variables (decided t choice d).variables hs va calm), q.first, (d.points + 2, d.variables, q.sets, l'))),
      ),
      (
        shows_second g k h (xs ++ ys ++ zs) t d f split q.after,
        (
          x,
          (
            middle fa (next_temporary d) d.points (decided t choice d),
            n,
            refl,
            fits.2,
            (λ m. calm_more d.variables (middle fa (next_temporary d) d.points (decided t choice d)).variables hs vb calm),
            q.second,
            (d.points + 2, d.variables, q.sets_too, l'),
          ),
        ),
      ),
    )

-- ---- truths

-- a choice whose truth is the value
truths_laid : (g : Whole) (k : ℕ) (h : Place) (x : Exits) (e : ValueTree) (w : Work) (choice : (p q : ℕ) → Draft → Draft) (n : ℕ) (d : Draft) (hs : List Held) → choice ≡ (ways (context_of g k) e).choice
    → Chooses (IsCalled (context_of g k) (calls_in e)) choice → Chooses Any choice → IsValue (around g k n) e → AreCalm d.variables hs
    → Stage g k h (calls_in e) d (rows.truth_value choice d).1
    → Laid g k h x w (d.points + 2) (held (variable (next_temporary d)) Int ∷ hs)
    → Laid g k h x (work.Test e (Onward h (work.Truth (pos 1) w)) (Onward h (work.Truth (pos 0) w))) d.point hs
truths_laid g k h x e w choice n d hs same gc any_c fits calm s l =
    let xs = calls_in e in
    let fa : Draft → Given Slot = λ r. (constant Int (pos 1), r) in
    let fb : Draft → Given Slot = λ r. (constant Int (pos 0), r) in
    let f = (rows.joined Int choice fa fb d).1 in
    let split = subst (λ qs. Stage g k h qs d f) (sym (append-nil (xs ++ []) ∙ append-nil xs)) s in
    let ns = (grows_trans (grows_trans (fresh_three_grows Any d) (temporary_grows Any Int (fresh 3 d)))
    (joined_after Int choice fa fb any_c (grows_refl Any) (grows_refl Any) d)).names in
    let names = sym ns ∙ s.leads.names in
    let q = parts g k h Int fa fb xs [] [] d (decided Int choice d) hs (grows_refl (IsCalled (context_of g k) [])) (grows_refl (IsCalled (context_of g k) [])) (grows_refl Any) (grows_refl Any)
    (gc d.points (d.points + 1) (begun Int d)) (any_c d.points (d.points + 1) (begun Int d)) names
    (stage_from g k h (xs ++ [] ++ []) d (begun Int d) f split (starts d Int)) calm in
    let l' = subst (λ v. Laid g k h x w (d.points + 2) (held (variable v) Int ∷ hs)) (next_is d names) l in (
      begun Int d,
      n,
      d.points,
      d.points + 1,
      refl,
      fits,
      calm_more d.variables (begun Int d).variables hs (omega arith) calm,
      subst (λ (ch : (p q : ℕ) → Draft → Draft). Stage g k h xs (begun Int d) (ch d.points (d.points + 1) (begun Int d))) same q.test,
      (shows_first g k h (xs ++ [] ++ []) Int d f split q.after, (x, (d.points + 2, d.variables, q.sets, truth_in Int true, l'))),
      (shows_second g k h (xs ++ [] ++ []) Int d f split q.after, (x, (d.points + 2, d.variables, q.sets_too, truth_in Int false, l'))),
    )

pub and_laid : (g : Whole) (k : ℕ) (h : Place) (x : Exits) (a b : ValueTree) (w : Work) (p : ℕ) (hs : List Held) → Laid g k h x (work.Evaluate (tree.and a b) w) p hs
    → Laid g k h x (work.Test (tree.and a b) (Onward h (work.Truth (pos 1) w)) (Onward h (work.Truth (pos 0) w))) p hs
unfolding ways type_of
and_laid g k h x a b w p hs (d, n, is, fits, quiet, s, l) =
    subst (λ q. Laid g k h x (work.Test (tree.and a b) (Onward h (work.Truth (pos 1) w)) (Onward h (work.Truth (pos 0) w))) q hs) is
    (truths_laid g k h x (tree.and a b) w (rows.and_choice (ways (context_of g k) a) (ways (context_of g k) b)) n d hs refl
    (ways_grow (context_of g k) (tree.and a b)).choice (sane (context_of g k) (tree.and a b)).choice fits (quiet refl) s l)

pub or_laid : (g : Whole) (k : ℕ) (h : Place) (x : Exits) (a b : ValueTree) (w : Work) (p : ℕ) (hs : List Held) → Laid g k h x (work.Evaluate (tree.or a b) w) p hs
    → Laid g k h x (work.Test (tree.or a b) (Onward h (work.Truth (pos 1) w)) (Onward h (work.Truth (pos 0) w))) p hs
unfolding ways type_of
or_laid g k h x a b w p hs (d, n, is, fits, quiet, s, l) =
    subst (λ q. Laid g k h x (work.Test (tree.or a b) (Onward h (work.Truth (pos 1) w)) (Onward h (work.Truth (pos 0) w))) q hs) is
    (truths_laid g k h x (tree.or a b) w (rows.or_choice (ways (context_of g k) a) (ways (context_of g k) b)) n d hs refl
    (ways_grow (context_of g k) (tree.or a b)).choice (sane (context_of g k) (tree.or a b)).choice fits (quiet refl) s l)
