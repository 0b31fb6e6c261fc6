-- Each statement goes on at a point without edges, where its marks are free.
use Rattle.std.proofs.Common.{◌≡◌, ℕ, ◌+◌, ◌++◌, length, arith}
use Rattle.pk_typed.specs.Trees.{StatementTree, ItemTrees}
use Rattle.pk_typed.specs.Trees as tree
use Rattle.pk_typed.specs.Types.{type_of}
use Rattle.pk_welltyped.specs.Listed.{calls_in, calls_if, calls_in_effect_if, calls_in_declared, calls_at_start, calls_in_statement, calls_in_items}
use Rattle.pk_welltyped.specs.WellTyped as WellTyped
use Rattle.pk_welltyped.specs.WellTyped.{Around, Marks, IsStatement, AreItems}
use Rattle.pk_draft.specs.Drafts.{DraftOf, on, come}
use Rattle.pk_draft.specs.Folding.{conversion}
use Rattle.pk_lower_row.specs.declared.shapes.Waiting.TheVariants.{Strong}
use Rattle.pk_lower_row.specs.Shapes.{converted_shape, shape_of}
use Rattle.pk_lower_row.specs.Contexts.{Context, site}
use Rattle.pk_lower_row.specs.Rows.{operand}
use Rattle.pk_lower_expression.specs.Expressions.{ways}
use Rattle.pk_lower_statement.specs.declared.statements.Exits.{Exits}
use Rattle.pk_lower_statement.specs.Statements.{declared, inside, in_switch, tested, switch_begun, performed_if, for_start, for_test, lowered, lowered_items}
use Rattle.pk_welltyped.specs.Marks as Marks
use Rattle.pk_welltyped.specs.Marks.{one_if, times, times_in, HasCases, HaveCases}
use Rattle.pk_meaning.specs.Steps.{Mark, labelled, numbered, otherwise, is_label, is_case, is_default}
use Rattle.pk_visits.proofs.Grows.Statements.{IsMark, label_once, case_once}
use Rattle.pk_visits.proofs.Settled.Trees.{mark_point}
use Rattle.pk_visits.proofs.Grows.Expressions.{front_called, back_called}
use Rattle.pk_visits.proofs.Slots.{Never}
use Rattle.pk_visits_laws.proofs.Ways.Goes.{goes_then}
use Rattle.pk_visits_laws.proofs.Ways.Rows.{Fits, goes_trans, goes_refl, held_goes}
use Rattle.pk_visits_laws.proofs.Ways.Expressions.{Sized, values, effects}
use Rattle.pk_visits_laws.proofs.Ways.Loops.{GoesOn, with_marks, away_goes, come_goes, if_goes, while_goes, do_goes, for_goes, begun_goes, switch_goes}
use Rattle.pk_visits_laws.proofs.Ways.Declarations.{declared_goes, returned_goes, performed_goes, test_splits, start_goes}
use Rattle.pk_visits_laws.proofs.Ways.MarkPoints.{Stood, AreApart, apart_part, stood_more, stood_before, stood_apart, apart_inside, stood_inside, apart_switch, stood_switch, not_the_end}

-- behind a mark that is placed
marked : {V : Type 0} (z : ℕ → ℕ) (x : Exits) (m : Marks) (t u : Mark → ℕ) (b : Mark) (d e : DraftOf V) → IsMark m b → (t b ≡ 0 → ⊥) → AreApart x m (λ c. t c + u c) d.points → GoesOn z (Stood x m u) (come (mark_point b x) d) e → GoesOn z (Stood x m (λ c. t c + u c)) d e
marked z x m t u b d e is some h rest =
    goes_then {M = λ q. q ≡ mark_point b x} {N = Stood x m u} {L = Stood x m (λ c. t c + u c)} (λ q at. stood_more m t (λ c. t c + u c) (λ c. omega arith) q (b, is, some, at)) (stood_more m u (λ c. t c + u c) (λ c. omega arith))
    (λ q at also. stood_apart t u h (λ c. omega arith) q (b, is, some, at) also) (come_goes z (mark_point b x) d) rest

-- two parts one after the other
then_part : {V : Type 0} (z : ℕ → ℕ) (x : Exits) (m : Marks) (t u : Mark → ℕ) (d e f : DraftOf V) → AreApart x m (λ c. t c + u c) d.points → GoesOn z (Stood x m t) d e → GoesOn z (Stood x m u) e f → GoesOn z (Stood x m (λ c. t c + u c)) d f
then_part z x m t u d e f h a b =
    goes_then {M = Stood x m t} {N = Stood x m u} {L = Stood x m (λ c. t c + u c)} (stood_more m t (λ c. t c + u c) (λ c. omega arith)) (stood_more m u (λ c. t c + u c) (λ c. omega arith)) (stood_apart t u h (λ c. omega arith)) a b

more_marks : {V : Type 0} (z : ℕ → ℕ) (M L : ℕ → Type 0) (d e : DraftOf V) → ((q : ℕ) → M q → L q) → GoesOn z M d e → GoesOn z L d e
more_marks z M L d e more a = goes_then {M = M} {N = Never} {L = L} more (λ q k. absurd k) (λ q k j. j) a (goes_refl z e)

mutual
  unfolding lowered lowered_items IsStatement AreItems calls_in_statement calls_in_items times times_in HasCases HaveCases

  pub statement_goes : (V : Type 0) (z : ℕ → ℕ) (c : Context) (a : Around) (m : Marks) (s : StatementTree) (x : Exits) (d : DraftOf V) → IsStatement a m s → HasCases s → Sized z c (calls_in_statement s) → AreApart x m (λ b. times b s) d.points → GoesOn z (Stood x m (λ b. times b s)) d (lowered c s x d)
  statement_goes V z c a m (tree.block p is) x d f k called h = items_go V z c a m is x d f k called h
  statement_goes V z c a m (tree.empty p) x d f k called h = with_marks _ (goes_refl z d)
  statement_goes V z c a m (tree.effect p e) x d f k called h = with_marks _ (effects V z c e called (on p d))
  statement_goes V z c a m (tree.label p l s) x d f k called h =
      let e = come (x.labels + l) (on p d) in
      marked z x m (λ b. one_if (is_label b l)) (λ b. times b s) (labelled l) (on p d) (lowered c s x e) f.0 (λ none. let i = label_once l 0 in absurd (omega (arith, none, i))) h
      (statement_goes V z c a m s x e f.1 k called (apart_part (λ b. times b s) d.points (λ b. omega arith) (omega arith) h))
  statement_goes V z c a m (tree.case p i s) x d f k called h =
      let e = come (x.cases + i) (on p d) in
      marked z x m (λ b. one_if (is_case b i)) (λ b. times b s) (numbered i) (on p d) (lowered c s x e) f.0 (λ none. let j = case_once i 0 in absurd (omega (arith, none, j))) h
      (statement_goes V z c a m s x e f.1 k called (apart_part (λ b. times b s) d.points (λ b. omega arith) (omega arith) h))
  statement_goes V z c a m (tree.default p s) x d f k called h =
      let e = come x.otherwise (on p d) in
      marked z x m (λ b. one_if (is_default b)) (λ b. times b s) otherwise (on p d) (lowered c s x e) f.0 (λ none. absurd (omega (arith, none))) h
      (statement_goes V z c a m s x e f.1 k called (apart_part (λ b. times b s) d.points (λ b. omega arith) (omega arith) h))
  statement_goes V z c a m (tree.if_then p e s) x d f k called h =
      if_goes z (Stood x m (λ b. times b s)) Never (Stood x m (λ b. times b s)) p (ways c e) (lowered c s x) (λ r. r) d (values V z c e (front_called (Fits z) c (calls_in e) (calls_in_statement s) called)).choice
      (λ q i. i) (λ q i. absurd i) (λ q i j. j) (stood_before (λ b. times b s) h)
      (λ r le. statement_goes V z c a m s x r f.1 k (back_called (Fits z) c (calls_in e) (calls_in_statement s) called) (apart_part (λ b. times b s) r.points (λ b. omega arith) le h)) (λ r le. goes_refl z r)
  statement_goes V z c a m (tree.if_else p e s r) x d f k called h =
      let k1 = front_called (Fits z) c (calls_in e ++ calls_in_statement s) (calls_in_statement r) called in
      let t = λ (b : Mark). times b s in
      let u = λ (b : Mark). times b r in
      let w = λ (b : Mark). times b s + times b r in
      if_goes z (Stood x m t) (Stood x m u) (Stood x m w) p (ways c e) (lowered c s x) (lowered c r x) d (values V z c e (front_called (Fits z) c (calls_in e) (calls_in_statement s) k1)).choice
      (stood_more m t w (λ b. omega arith)) (stood_more m u w (λ b. omega arith)) (stood_apart t u h (λ b. omega arith)) (stood_before w h)
      (λ g le. statement_goes V z c a m s x g f.1 k.0 (back_called (Fits z) c (calls_in e) (calls_in_statement s) k1) (apart_part t g.points (λ b. omega arith) le h))
      (λ g le. statement_goes V z c _ m r x g f.2 k.1 (back_called (Fits z) c (calls_in e ++ calls_in_statement s) (calls_in_statement r) called) (apart_part u g.points (λ b. omega arith) le h))
  statement_goes V z c a m (tree.switch p t e zs b s) x d f k called h =
      let o = on p d in
      let r = (ways c e).value o in
      let v = tested t (operand e (ways c e)) o in
      let n = v.1.points in
      let valued = goes_trans ((values V z c e (front_called (Fits z) c (calls_in e) (calls_in_statement s) called)).value o) (held_goes z Strong (converted_shape (type_of e) t (shape_of e)) t (conversion (type_of e) t r.0, r.1)) in
      let le = valued.points in
      let u = switch_begun (site c p) t zs b v in
      let y = in_switch n (length zs) x in
      let i = WellTyped.in_switch (length zs) b m in
      let w = λ (q : Mark). times q s in
      let far = (begun_goes z (site c p) t zs b v).points in
      let inner = apart_switch zs b n u.points k.0.each k.0.default le far h in
      goes_then {M = Never} {N = Stood x m (λ q. Marks.in_switch q (times q s))} {L = Stood x m (λ q. Marks.in_switch q (times q s))} (λ q j. absurd j) (λ q j. j) (λ q j l. j) valued
      (switch_goes z (Stood x m (λ q. Marks.in_switch q (times q s))) (Stood y i w) (site c p) t zs b (lowered c s) x v (not_the_end w zs b n le h) (stood_switch m w zs b n)
      (statement_goes V z c a i s y u f.2 k.1 (back_called (Fits z) c (calls_in e) (calls_in_statement s) called) inner))
  statement_goes V z c a m (tree.while p e s) x d f k called h =
      let t = λ (b : Mark). times b s in
      while_goes z (Stood x m t) (ways c e) (lowered c s) x (on p d) (values V z c e (front_called (Fits z) c (calls_in e) (calls_in_statement s) called)).choice (stood_before t h)
      (λ i j r le. more_marks z (Stood (inside i j x) m t) (Stood x m t) r (lowered c s (inside i j x) r) (stood_inside m t i j)
      (statement_goes V z c a m s (inside i j x) r f.1 k (back_called (Fits z) c (calls_in e) (calls_in_statement s) called) (apart_inside i j (apart_part t r.points (λ b. omega arith) le h))))
  statement_goes V z c a m (tree.do_while p s e) x d f k called h =
      let t = λ (b : Mark). times b s in
      do_goes z (Stood x m t) p (ways c e) (lowered c s) x (on p d) (values V z c e (back_called (Fits z) c (calls_in_statement s) (calls_in e) called)).choice (stood_before t h)
      (λ i j r le. more_marks z (Stood (inside i j x) m t) (Stood x m t) r (lowered c s (inside i j x) r) (stood_inside m t i j)
      (statement_goes V z c a m s (inside i j x) r f.0 k (front_called (Fits z) c (calls_in_statement s) (calls_in e) called) (apart_inside i j (apart_part t r.points (λ b. omega arith) le h))))
  statement_goes V z c a m (tree.for_loop p g e third s) x d f k called h =
      let t = λ (b : Mark). times b s in
      let k1 = front_called (Fits z) c (calls_at_start g ++ calls_if e ++ calls_in_effect_if third) (calls_in_statement s) called in
      let k2 = front_called (Fits z) c (calls_at_start g ++ calls_if e) (calls_in_effect_if third) k1 in
      for_goes z (Stood x m t) p (for_start c g) (for_test c e) (performed_if c third) (lowered c s) x (on p d) (start_goes z c g (front_called (Fits z) c (calls_at_start g) (calls_if e) k2)) (test_splits z c e (back_called (Fits z) c (calls_at_start g) (calls_if e) k2))
      (performed_goes z c third (back_called (Fits z) c (calls_at_start g ++ calls_if e) (calls_in_effect_if third) k1)) (stood_before t h)
      (λ i j r le. more_marks z (Stood (inside i j x) m t) (Stood x m t) r (lowered c s (inside i j x) r) (stood_inside m t i j)
      (statement_goes V z c _ m s (inside i j x) r f.3 k (back_called (Fits z) c (calls_at_start g ++ calls_if e ++ calls_in_effect_if third) (calls_in_statement s) called) (apart_inside i j (apart_part t r.points (λ b. omega arith) le h))))
  statement_goes V z c a m (tree.goto p l) x d f k called h = with_marks _ (away_goes z (x.labels + l) (on p d))
  statement_goes V z c a m (tree.continue p) x d f k called h = with_marks _ (away_goes z x.continued (on p d))
  statement_goes V z c a m (tree.break p) x d f k called h = with_marks _ (away_goes z x.broken (on p d))
  statement_goes V z c a m (tree.return p e) x d f k called h = with_marks _ (returned_goes z c x.left c.returns e called (on p d))

  pub items_go : (V : Type 0) (z : ℕ → ℕ) (c : Context) (a : Around) (m : Marks) (is : ItemTrees) (x : Exits) (d : DraftOf V) → AreItems a m is → HaveCases is → Sized z c (calls_in_items is) → AreApart x m (λ b. times_in b is) d.points → GoesOn z (Stood x m (λ b. times_in b is)) d (lowered_items c is x d)
  items_go V z c a m tree.no_items x d f k called h = with_marks _ (goes_refl z d)
  items_go V z c a m (tree.declared_before v is) x d f k called h =
      let one = declared_goes z c v d (front_called (Fits z) c (calls_in_declared v) (calls_in_items is) called) in
      goes_then {M = Never} {N = Stood x m (λ b. times_in b is)} {L = Stood x m (λ b. times_in b is)} (λ q j. absurd j) (λ q j. j) (λ q j l. j) one
      (items_go V z c _ m is x (declared c v d) f.1 k (back_called (Fits z) c (calls_in_declared v) (calls_in_items is) called) (apart_part (λ b. times_in b is) (declared c v d).points (λ b. omega arith) one.points h))
  items_go V z c a m (tree.statement_before s is) x d f k called h =
      let t = λ (b : Mark). times b s in
      let u = λ (b : Mark). times_in b is in
      let e = lowered c s x d in
      let one = statement_goes V z c a m s x d f.0 k.0 (front_called (Fits z) c (calls_in_statement s) (calls_in_items is) called) (apart_part t d.points (λ b. omega arith) (omega arith) h) in
      then_part z x m t u d e (lowered_items c is x e) h one
      (items_go V z c _ m is x e f.1 k.1 (back_called (Fits z) c (calls_in_statement s) (calls_in_items is) called) (apart_part u e.points (λ b. omega arith) one.points h))
